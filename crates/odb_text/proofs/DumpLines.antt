-- The text of a dump, line by line.
use Rattle.std.proofs.Common.{◌≡◌, ℕ, zero, suc, ◌+◌, ◌-◌, ◌<◌, ◌==◌, Bool, true, false, cond, List, [], ◌∷◌, ◌++◌, length, take, Option, Some, None, refl, sym, ap, ◌∙◌, arith, append_assoc, append-nil}
use Rattle.std.specs.Prelude.{codes, slice_index}
use Rattle.std.specs.Fmt.{decimal}
use Rattle.std.specs.List.{flat_map, AllByRecursion}
use Rattle.std.specs.Str.Lines.{lines, strip_carriage_return}
use Rattle.std.proofs.lemmas.List.Concat.{flat_map-append}
use Rattle.daq_types.specs.declared.types.Tid.{Tid}
use Rattle.daq_types.specs.Tids.{tid_name}
use Rattle.odb_value.specs.Paths.{depth_limit}
use Rattle.odb_value.specs.declared.items.Item.{Item}
use Rattle.odb_value.specs.ItemTexts.{item_text}
use Rattle.odb_value.specs.Values.{HeldValue}
use Rattle.odb_value.specs.KeyTexts.{bracketed, item_alone, front_number, item_lines, items_text}
use Rattle.odb_tree.specs.declared.rows.Row.{Row}
use Rattle.odb_tree.specs.Rows.{Rows, keys_in, dirs_in}
use Rattle.odb_tree.specs.Calls.{last_name}
use Rattle.odb_text.specs.LineForms.{HasNo}
use Rattle.odb_text.proofs.Texts.{first_line}
use Rattle.odb_value.specs.PathText.{path_text}
use Rattle.odb_text.specs.Dumps.{dir_line, value_text, keys_text, section_text, section_with, dirs_text, dump_text}

-- lines, each with its end
abbrev pub ended : List (List ℕ) → List ℕ
ended ls = flat_map (λ (l : List ℕ). l ++ 10 ∷ []) ls

ended_append : (xs ys : List (List ℕ)) → ended (xs ++ ys) ≡ ended xs ++ ended ys
ended_append xs ys = flat_map-append (λ (l : List ℕ). l ++ 10 ∷ []) xs ys

ended_one : (l : List ℕ) → ended (l ∷ []) ≡ l ++ 10 ∷ []
ended_one l = append-nil (l ++ 10 ∷ [])

ended_first : (l : List ℕ) (ls : List (List ℕ)) → ended (l ∷ ls) ≡ l ++ 10 ∷ ended ls
ended_first l ls = append_assoc l (10 ∷ []) (ended ls)

-- The lines of such a text are these, where no line has an end in it or a carriage return.

abbrev pub IsPlainLine : List ℕ → Type 0
IsPlainLine l = HasNo 10 l × HasNo 13 l

has_no_at : (c : ℕ) (l : List ℕ) (i : ℕ) → HasNo c l → i < length l → (slice_index l i == c) ≡ false
has_no_at c [] i h k = absurd (omega (arith, k))
has_no_at c (x ∷ xs) zero h k = h.0
has_no_at c (x ∷ xs) (suc i) h k = has_no_at c xs i h.1 (omega (arith, k))

nothing_stripped : (l : List ℕ) → HasNo 13 l → strip_carriage_return l ≡ l
nothing_stripped [] h = cases (slice_index [] 0 == 13)
  where
    cases : (t : Bool) → ◌≡◌ {A = List ℕ} (cond t (take 0 []) []) []
    cases true = refl
    cases false = refl
nothing_stripped (x ∷ xs) h =
    ap (λ (t : Bool). cond t (take (length (x ∷ xs) - 1) (x ∷ xs)) (x ∷ xs)) (has_no_at 13 (x ∷ xs) (length (x ∷ xs) - 1) h (omega arith))

pub lines_ended : (ls : List (List ℕ)) → AllByRecursion IsPlainLine ls → lines (ended ls) ≡ ls
lines_ended [] h = refl
lines_ended (l ∷ ls) h =
    first_line (ended (l ∷ ls)) l (ended ls) (ended_first l ls) h.0.0
    ∙ ap (λ (x : List ℕ). x ∷ lines (ended ls)) (nothing_stripped l h.0.1)
    ∙ ap (λ (xs : List (List ℕ)). l ∷ xs) (lines_ended ls h.1)

-- The lines of a key.

bracketed_end : (n : ℕ) (text more : List ℕ) → bracketed n text ++ more ≡ bracketed n (text ++ more)
bracketed_end n text more = ap (λ (l : List ℕ). 91 ∷ l) (append_assoc (decimal n) (93 ∷ 32 ∷ text) more)

abbrev pub array_line : (size index : ℕ) → Item → List ℕ
array_line size index item = bracketed (front_number size index item) (item_text item)

abbrev pub array_lines : (size index : ℕ) → List Item → List (List ℕ)
array_lines size index [] = []
array_lines size index (item ∷ items) = array_line size index item ∷ array_lines size (index + 1) items

items_ended : (size index : ℕ) (items : List Item) → item_lines size index items ≡ ended (array_lines size index items)
items_ended size index [] = refl
items_ended size index (item ∷ items) =
    ap (λ (l : List ℕ). l ++ item_lines size (index + 1) items) (sym (bracketed_end (front_number size index item) (item_text item) (10 ∷ [])))
    ∙ ap (λ (l : List ℕ). (array_line size index item ++ 10 ∷ []) ++ l) (items_ended size (index + 1) items)

-- the first line of a key, up to what stands behind the type
abbrev pub key_line : (name : List ℕ) → Tid → (behind : List ℕ) → List ℕ
key_line name type behind = name ++ (codes " = " ++ (tid_name type ++ behind))

key_line_end : (name : List ℕ) (type : Tid) (behind more : List ℕ) → key_line name type behind ++ more ≡ key_line name type (behind ++ more)
key_line_end name type behind more =
    append_assoc name (codes " = " ++ (tid_name type ++ behind)) more ∙ ap (λ (l : List ℕ). name ++ (codes " = " ++ l)) (append_assoc (tid_name type) behind more)

abbrev pub array_head : (n : ℕ) → List ℕ
array_head n = codes "[" ++ (decimal n ++ codes "] :")

array_head_end : (n : ℕ) (more : List ℕ) → array_head n ++ more ≡ codes "[" ++ (decimal n ++ (codes "] :" ++ more))
array_head_end n more = ap (λ (l : List ℕ). 91 ∷ l) (append_assoc (decimal n) (codes "] :") more)

abbrev pub lines_with : (name : List ℕ) → Tid → (size : ℕ) → List Item → List (List ℕ)
lines_with name type size [] = key_line name type (array_head 0) ∷ []
lines_with name type size (x ∷ []) = key_line name type (codes " : " ++ item_alone size x) ∷ []
lines_with name type size (x ∷ y ∷ zs) = key_line name type (array_head (length (x ∷ y ∷ zs))) ∷ array_lines size 0 (x ∷ y ∷ zs)

abbrev pub key_lines : (name : List ℕ) → HeldValue → List (List ℕ)
key_lines name v = lines_with name v.tid v.size v.items

array_ended : (name : List ℕ) (type : Tid) (n : ℕ) (more : List (List ℕ))
    → key_line name type (codes "[" ++ (decimal n ++ (codes "] :" ++ (10 ∷ ended more)))) ≡ ended (key_line name type (array_head n) ∷ more)
array_ended name type n more = sym (
    ended_first (key_line name type (array_head n)) more
    ∙ key_line_end name type (array_head n) (10 ∷ ended more)
    ∙ ap (λ (l : List ℕ). key_line name type l) (array_head_end n (10 ∷ ended more)))

with_ended : (name : List ℕ) (type : Tid) (size : ℕ) (items : List Item) → key_line name type (items_text size items) ≡ ended (lines_with name type size items)
with_ended name type size [] = array_ended name type 0 []
with_ended name type size (x ∷ []) = sym (ended_one (key_line name type (codes " : " ++ item_alone size x)) ∙ key_line_end name type (codes " : " ++ item_alone size x) (10 ∷ []))
with_ended name type size (x ∷ y ∷ zs) =
    ap (λ (l : List ℕ). key_line name type (codes "[" ++ (decimal (length (x ∷ y ∷ zs)) ++ (codes "] :" ++ (10 ∷ l))))) (items_ended size 0 (x ∷ y ∷ zs))
    ∙ array_ended name type (length (x ∷ y ∷ zs)) (array_lines size 0 (x ∷ y ∷ zs))

abbrev pub value_lines : (name : List ℕ) → Option HeldValue → List (List ℕ)
value_lines name None = []
value_lines name (Some v) = key_lines name v

value_ended : (name : List ℕ) (v : Option HeldValue) → value_text name v ≡ ended (value_lines name v)
value_ended name None = refl
value_ended name (Some v) = with_ended name v.tid v.size v.items

abbrev pub row_lines : Row → List (List ℕ)
row_lines r = value_lines (last_name r.path) r.value

abbrev pub keys_lines : List Row → List (List ℕ)
keys_lines keys = flat_map row_lines keys

keys_ended : (keys : List Row) → keys_text keys ≡ ended (keys_lines keys)
keys_ended [] = refl
keys_ended (r ∷ rs) =
    ap (λ (l : List ℕ). l ++ keys_text rs) (value_ended (last_name r.path) r.value) ∙ ap (λ (l : List ℕ). ended (row_lines r) ++ l) (keys_ended rs)
    ∙ sym (ended_append (row_lines r) (keys_lines rs))

-- The lines of directories.

abbrev pub bare_dir_line : List (List ℕ) → List ℕ
bare_dir_line p = codes "[" ++ (path_text p ++ codes "]")

abbrev pub section_lines : List Row → List (List ℕ) → List (List ℕ)
section_lines rows p = bare_dir_line p ∷ (keys_lines (keys_in rows p) ++ [] ∷ [])

dir_line_ended : (p : List (List ℕ)) (more : List ℕ) → dir_line p ++ more ≡ bare_dir_line p ++ 10 ∷ more
dir_line_ended p more =
    ap (λ (l : List ℕ). 91 ∷ l) (append_assoc (path_text p) (codes "]\n") more ∙ sym (append_assoc (path_text p) (codes "]") (10 ∷ more)))

section_ended : (rows : List Row) (p : List (List ℕ)) → section_text rows p ≡ ended (section_lines rows p)
section_ended rows p =
    dir_line_ended p (keys_text (keys_in rows p) ++ codes "\n")
    ∙ ap (λ (l : List ℕ). bare_dir_line p ++ 10 ∷ (l ++ codes "\n")) (keys_ended (keys_in rows p))
    ∙ ap (λ (l : List ℕ). bare_dir_line p ++ 10 ∷ l) (sym (ended_append (keys_lines (keys_in rows p)) ([] ∷ [])))
    ∙ sym (ended_first (bare_dir_line p) (keys_lines (keys_in rows p) ++ [] ∷ []))

unfoldable pub dirs_lines : (depth : ℕ) → List Row → List (List ℕ) → List (List ℕ)
dirs_lines zero rows p = []
dirs_lines (suc depth) rows p = flat_map (λ (d : Row). section_lines rows d.path ++ dirs_lines depth rows d.path) (dirs_in rows p)

each_ended : (depth : ℕ) (rows : List Row) → ((q : List (List ℕ)) → dirs_text depth rows q ≡ ended (dirs_lines depth rows q)) → (ds : List Row)
    → flat_map (λ (d : Row). section_text rows d.path ++ dirs_text depth rows d.path) ds ≡ ended (flat_map (λ (d : Row). section_lines rows d.path ++ dirs_lines depth rows d.path) ds)
each_ended depth rows below [] = refl
each_ended depth rows below (d ∷ ds) =
    let first : section_text rows d.path ++ dirs_text depth rows d.path ≡ ended (section_lines rows d.path ++ dirs_lines depth rows d.path) =
    ap (λ (l : List ℕ). l ++ dirs_text depth rows d.path) (section_ended rows d.path) ∙ ap (λ (l : List ℕ). ended (section_lines rows d.path) ++ l) (below d.path)
    ∙ sym (ended_append (section_lines rows d.path) (dirs_lines depth rows d.path)) in
    ap (λ (l : List ℕ). l ++ flat_map (λ (x : Row). section_text rows x.path ++ dirs_text depth rows x.path) ds) first
    ∙ ap (λ (l : List ℕ). ended (section_lines rows d.path ++ dirs_lines depth rows d.path) ++ l) (each_ended depth rows below ds)
    ∙ sym (ended_append (section_lines rows d.path ++ dirs_lines depth rows d.path) (flat_map (λ (x : Row). section_lines rows x.path ++ dirs_lines depth rows x.path) ds))

dirs_ended : (depth : ℕ) (rows : List Row) (p : List (List ℕ)) → dirs_text depth rows p ≡ ended (dirs_lines depth rows p)
unfolding dirs_text dirs_lines
dirs_ended zero rows p = refl
dirs_ended (suc depth) rows p = each_ended depth rows (λ (q : List (List ℕ)). dirs_ended depth rows q) (dirs_in rows p)

abbrev pub root_section : List Row → (keys : List Row) → List (List ℕ)
root_section rows [] = []
root_section rows (r ∷ rs) = section_lines rows []

root_ended : (rows keys : List Row) → section_with rows keys ≡ ended (root_section rows keys)
root_ended rows [] = refl
root_ended rows (r ∷ rs) = section_ended rows []

abbrev pub dump_lines : Rows → List (List ℕ)
dump_lines s = root_section s.rows (keys_in s.rows []) ++ dirs_lines depth_limit s.rows []

pub dump_ended : (s : Rows) → dump_text s ≡ ended (dump_lines s)
dump_ended s =
    ap (λ (l : List ℕ). l ++ dirs_text depth_limit s.rows []) (root_ended s.rows (keys_in s.rows []))
    ∙ ap (λ (l : List ℕ). ended (root_section s.rows (keys_in s.rows [])) ++ l) (dirs_ended depth_limit s.rows [])
    ∙ sym (ended_append (root_section s.rows (keys_in s.rows [])) (dirs_lines depth_limit s.rows []))
