-- The lines of a key ask for the key.
use Rattle.std.proofs.Common.{◌≡◌, ◌^◌, ℕ, ◌+◌, ◌<◌, ◌≤◌, ◌==◌, Bool, true, false, cond, List, [], ◌∷◌, ◌++◌, length, map, reverse, Ok, refl, sym, ap, ◌∙◌, subst, arith, append_assoc, inl, inr}
use Rattle.std.specs.Prelude.{codes, slice_index, ◌||◌, ◌&&◌}
use Rattle.std.specs.Fmt.{decimal}
use Rattle.std.specs.List.{AllByRecursion}
use Rattle.std.proofs.lemmas.Bool.Decides.{nat_tests}
use Rattle.std.proofs.lemmas.Fmt.{decimal_is_IsNumeral}
use Rattle.std.proofs.lemmas.List.{reverse-append, length-append, length-map}
use Rattle.std.proofs.lemmas.List.Elements.{recursion_from_All}
use Rattle.daq_types.specs.declared.types.Tid.{Tid}
use Rattle.daq_types.specs.declared.types.Tid.TheVariants as tid
use Rattle.daq_types.specs.Names.{IsName, is_outside, breaks_name}
use Rattle.daq_types.specs.Tids.{tid_name, tid_size}
use Rattle.daq_text.specs.Numbers.{front, behind, is_blank}
use Rattle.odb_value.specs.Paths.{depth_limit}
use Rattle.odb_value.specs.declared.items.Item.{Item}
use Rattle.odb_value.specs.declared.items.Item.TheVariants.{UInt8, Int8, Char, UInt16, Int16, UInt32, Int32, Bool as Truth, Text, Int64, UInt64}
use Rattle.odb_value.specs.Items.{tid_of, IsItem, is_kept}
use Rattle.odb_value.specs.ItemTexts.{text_limit, item_text, item_read}
use Rattle.odb_value.specs.KeyTexts.{item_alone, front_number}
use Rattle.odb_value.specs.Values.{HeldValue, IsValue, IsSizeOf, IsShorter, size_limit, items_limit}
use Rattle.odb_value.specs.ValueChanges.{size_with_item}
use Rattle.odb_value.proofs.ReadAgain.{item_again}
use Rattle.odb_text.specs.LineForms.{without_blanks, is_of_word, IsKeyLine}
use Rattle.odb_text.specs.ItemLines.{is_string, IsFrontNumber, IsItemLine, IsAloneText}
use Rattle.odb_text.specs.declared.acts.Act.TheVariants.{Write}
use Rattle.odb_text.specs.Grammar.{SizedItem, AreItemLines, size_given, size_for, held_with, IsSingleKey, IsArrayHead, IsLinkKey, link_size, held_link, SpellsAct}
use Rattle.odb_value.specs.ItemBytes.{IsText}
use Rattle.odb_value.specs.PathText.{path_reply}
use Rattle.odb_value.specs.LinkValues.{IsLink}
use Rattle.odb_tree.specs.Databases.{IsHeld}
use Rattle.odb_text.proofs.Written.{wider}
use Rattle.odb_text.proofs.LinkKeys.{link_sized, path_is_text}
use Rattle.odb_text.proofs.DumpLines.{array_line, array_lines, array_head, key_line, lines_with, key_lines}
use Rattle.odb_value.proofs.PathAgain.{or_false, name_inside, above_blank}
use Rattle.odb_text.proofs.DumpPaths.{name_no_sign, has_no_append}

-- a name without the blank behind it

and_false : (a x : Bool) → (a && x) ≡ false → x ≡ true → a ≡ false
and_false true x h e = (let k : true ≡ false = sym e ∙ h in absurd (cc))
and_false false x h e = refl

or_both : (a b : Bool) → a ≡ false → b ≡ false → (a || b) ≡ false
or_both true b h k = absurd (cc)
or_both false b h k = k

or_last : (a b : Bool) → b ≡ true → (a || b) ≡ true
or_last true b e = refl
or_last false b e = e

-- at either end of a name stands no blank
no_blank_at : (size place b : ℕ) → breaks_name size place b ≡ false → (place == 0 || place + 1 == size) ≡ true → is_blank b ≡ false
no_blank_at size place b h ends =
    let inside : 32 ≤ b = above_blank b (name_inside size place b h) in
    let rest = (or_false (is_outside b) ((b == 32 && (place == 0 || place + 1 == size)) || (b == 59 && place == 0)) h).1 in
    let space : (b == 32) ≡ false = and_false (b == 32) (place == 0 || place + 1 == size) (or_false (b == 32 && (place == 0 || place + 1 == size)) (b == 59 && place == 0) rest).0 ends in
    let tab : (b == 9) ≡ false = grind (arith, nat_tests, inside) in
    or_both (b == 32) (b == 9) space tab

record LastByte (text : List ℕ) : Type 0 where
  init : List ℕ
  end_byte : ℕ
  is : text ≡ init ++ end_byte ∷ []

last_byte : (x : ℕ) (xs : List ℕ) → LastByte (x ∷ xs)
last_byte x [] = record { init = []; end_byte = x; is = refl }
last_byte x (y ∷ ys) = let r = last_byte y ys in record { init = x ∷ r.init; end_byte = r.end_byte; is = ap (λ (l : List ℕ). x ∷ l) r.is }

at_end : (init : List ℕ) (b : ℕ) → slice_index (init ++ b ∷ []) (length init) ≡ b
at_end [] b = refl
at_end (x ∷ xs) b = at_end xs b

reverse_twice : (xs : List ℕ) → reverse (reverse xs) ≡ xs
reverse_twice [] = refl
reverse_twice (x ∷ xs) =
    ap reverse (reverse-append (x ∷ []) xs) ∙ reverse-append (reverse xs) (x ∷ []) ∙ ap (λ (l : List ℕ). x ∷ l) (reverse_twice xs)

first_kept : (b : ℕ) (bs : List ℕ) → is_blank b ≡ false → behind is_blank (b ∷ bs) ≡ b ∷ bs
first_kept b bs h = ap (λ (t : Bool). cond t (behind is_blank bs) (b ∷ bs)) h

name_first : (name : List ℕ) → IsName name → behind is_blank name ≡ name
name_first [] n = refl
name_first (b ∷ bs) n = first_kept b bs (no_blank_at (length (b ∷ bs)) 0 b (n.bytes 0 (omega arith)) refl)

name_last : (name : List ℕ) → IsName name → behind is_blank (reverse name) ≡ reverse name
name_last [] n = refl
name_last (b ∷ bs) n =
    let r = last_byte b bs in
    let long : length (b ∷ bs) ≡ length r.init + 1 = ap (length {A = ℕ}) r.is ∙ length-append r.init (r.end_byte ∷ []) in
    let there : slice_index (b ∷ bs) (length r.init) ≡ r.end_byte = ap (λ (l : List ℕ). slice_index l (length r.init)) r.is ∙ at_end r.init r.end_byte in
    let good : breaks_name (length (b ∷ bs)) (length r.init) r.end_byte ≡ false =
    subst (λ (x : ℕ). breaks_name (length (b ∷ bs)) (length r.init) x ≡ false) there (n.bytes (length r.init) (omega (arith, long))) in
    let ends : (length r.init == 0 || length r.init + 1 == length (b ∷ bs)) ≡ true =
    or_last (length r.init == 0) (length r.init + 1 == length (b ∷ bs)) (grind (arith, nat_tests, long)) in
    let turned : reverse (b ∷ bs) ≡ r.end_byte ∷ reverse r.init = ap reverse r.is ∙ reverse-append r.init (r.end_byte ∷ []) in
    ap (behind is_blank) turned ∙ first_kept r.end_byte (reverse r.init) (no_blank_at (length (b ∷ bs)) (length r.init) r.end_byte good ends) ∙ sym turned

name_trimmed : (name : List ℕ) → IsName name → without_blanks (name ++ 32 ∷ []) ≡ name
name_trimmed name n =
    ap (λ (l : List ℕ). behind is_blank (reverse (behind is_blank l))) (reverse-append name (32 ∷ []))
    ∙ ap (λ (l : List ℕ). behind is_blank (reverse l)) (name_last name n)
    ∙ ap (λ (l : List ℕ). behind is_blank l) (reverse_twice name)
    ∙ name_first name n

-- the type

front_word : (word : List ℕ) (x : ℕ) (more : List ℕ) → AllByRecursion (λ b. is_of_word b ≡ true) word → is_of_word x ≡ false → front is_of_word (word ++ x ∷ more) ≡ word
front_word [] x more h e = ap (λ (t : Bool). cond t (x ∷ front is_of_word more) []) e
front_word (b ∷ bs) x more h e =
    ap (λ (t : Bool). cond t (b ∷ front is_of_word (bs ++ x ∷ more)) []) h.0 ∙ ap (λ (l : List ℕ). b ∷ l) (front_word bs x more h.1 e)

behind_word : (word : List ℕ) (x : ℕ) (more : List ℕ) → AllByRecursion (λ b. is_of_word b ≡ true) word → is_of_word x ≡ false → behind is_of_word (word ++ x ∷ more) ≡ x ∷ more
behind_word [] x more h e = ap (λ (t : Bool). cond t (behind is_of_word more) (x ∷ more)) e
behind_word (b ∷ bs) x more h e =
    ap (λ (t : Bool). cond t (behind is_of_word (bs ++ x ∷ more)) (b ∷ (bs ++ x ∷ more))) h.0 ∙ behind_word bs x more h.1 e

type_word : (type : Tid) → AllByRecursion (λ b. is_of_word b ≡ true) (tid_name type)
type_word tid.UInt8 = (refl, (refl, (refl, (refl, (refl, tt)))))
type_word tid.Int8 = (refl, (refl, (refl, (refl, tt))))
type_word tid.Char = (refl, (refl, (refl, (refl, tt))))
type_word tid.UInt16 = (refl, (refl, (refl, (refl, (refl, (refl, tt))))))
type_word tid.Int16 = (refl, (refl, (refl, (refl, (refl, tt)))))
type_word tid.UInt32 = (refl, (refl, (refl, (refl, (refl, (refl, tt))))))
type_word tid.Int32 = (refl, (refl, (refl, (refl, (refl, tt)))))
type_word tid.Bool = (refl, (refl, (refl, (refl, tt))))
type_word tid.Float = (refl, (refl, (refl, (refl, (refl, tt)))))
type_word tid.Double = (refl, (refl, (refl, (refl, (refl, (refl, tt))))))
type_word tid.BitField = (refl, (refl, (refl, (refl, (refl, (refl, (refl, (refl, tt))))))))
type_word tid.Text = (refl, (refl, (refl, (refl, (refl, (refl, tt))))))
type_word tid.Array = (refl, (refl, (refl, (refl, (refl, tt)))))
type_word tid.Struct = (refl, (refl, (refl, (refl, (refl, (refl, tt))))))
type_word tid.Key = (refl, (refl, (refl, tt)))
type_word tid.Link = (refl, (refl, (refl, (refl, tt))))
type_word tid.Int64 = (refl, (refl, (refl, (refl, (refl, tt)))))
type_word tid.UInt64 = (refl, (refl, (refl, (refl, (refl, (refl, tt))))))

-- a type's name begins with no blank
type_first : (type : Tid) (more : List ℕ) → behind is_blank (tid_name type ++ more) ≡ tid_name type ++ more
type_first tid.UInt8 more = refl
type_first tid.Int8 more = refl
type_first tid.Char more = refl
type_first tid.UInt16 more = refl
type_first tid.Int16 more = refl
type_first tid.UInt32 more = refl
type_first tid.Int32 more = refl
type_first tid.Bool more = refl
type_first tid.Float more = refl
type_first tid.Double more = refl
type_first tid.BitField more = refl
type_first tid.Text more = refl
type_first tid.Array more = refl
type_first tid.Struct more = refl
type_first tid.Key more = refl
type_first tid.Link more = refl
type_first tid.Int64 more = refl
type_first tid.UInt64 more = refl

key_line_is : (name : List ℕ) (type : Tid) (x : ℕ) (more : List ℕ) → IsName name → is_of_word x ≡ false → IsKeyLine (key_line name type (x ∷ more)) name type (x ∷ more)
key_line_is name type x more n e = record {
  before = name ++ 32 ∷ [];
  after = 32 ∷ (tid_name type ++ x ∷ more);
  spelled = sym (append_assoc name (32 ∷ []) (61 ∷ (32 ∷ (tid_name type ++ x ∷ more))));
  first = has_no_append 61 name (32 ∷ []) (name_no_sign name n) (refl, tt);
  trimmed = sym (name_trimmed name n);
  is_name = n;
  named = inl (sym (ap (front is_of_word) (type_first type (x ∷ more)) ∙ front_word (tid_name type) x more (type_word type) e));
  behind_word = sym (ap (behind is_of_word) (type_first type (x ∷ more)) ∙ behind_word (tid_name type) x more (type_word type) e);
}

-- items

abbrev sized : (string : Bool) → (size : ℕ) → Item → SizedItem
sized string size item = record { size = cond string size 0; item = item }

pub front_small : (size index : ℕ) (item : Item) → size < 2 ^ 64 → index < 2 ^ 64 → front_number size index item < 2 ^ 64
front_small size index (UInt8 n) h k = k
front_small size index (Int8 z) h k = k
front_small size index (Char b) h k = k
front_small size index (UInt16 n) h k = k
front_small size index (Int16 z) h k = k
front_small size index (UInt32 n) h k = k
front_small size index (Int32 z) h k = k
front_small size index (Truth t) h k = k
front_small size index (Text bytes) h k = h
front_small size index (Int64 z) h k = k
front_small size index (UInt64 n) h k = k

front_is : (b : Bool) (size index : ℕ) (item : Item) → size < 2 ^ 64 → is_string (tid_of item) ≡ b → IsFrontNumber b index (decimal (front_number size index item)) (cond b size 0)
front_is true size index (UInt8 n) h e = absurd (cc)
front_is false size index (UInt8 n) h e = (refl, refl)
front_is true size index (Int8 z) h e = absurd (cc)
front_is false size index (Int8 z) h e = (refl, refl)
front_is true size index (Char b) h e = absurd (cc)
front_is false size index (Char b) h e = (refl, refl)
front_is true size index (UInt16 n) h e = absurd (cc)
front_is false size index (UInt16 n) h e = (refl, refl)
front_is true size index (Int16 z) h e = absurd (cc)
front_is false size index (Int16 z) h e = (refl, refl)
front_is true size index (UInt32 n) h e = absurd (cc)
front_is false size index (UInt32 n) h e = (refl, refl)
front_is true size index (Int32 z) h e = absurd (cc)
front_is false size index (Int32 z) h e = (refl, refl)
front_is true size index (Truth t) h e = absurd (cc)
front_is false size index (Truth t) h e = (refl, refl)
front_is true size index (Text bytes) h e = sym (decimal_is_IsNumeral size h).1
front_is false size index (Text bytes) h e = absurd (cc)
front_is true size index (Int64 z) h e = absurd (cc)
front_is false size index (Int64 z) h e = (refl, refl)
front_is true size index (UInt64 n) h e = absurd (cc)
front_is false size index (UInt64 n) h e = (refl, refl)

-- an item of a value of this type and size
record FitsIn (type : Tid) (size : ℕ) (item : Item) : Type 0 where
  of_type : tid_of item ≡ type
  reads : item_read type (item_text item) ≡ Ok item
  short : IsShorter size item

fits_in : (type : Tid) (size : ℕ) (item : Item) → size ≤ size_limit → IsItem type item → IsShorter size item → FitsIn type size item
fits_in type size item small h short = record {
  of_type = h.tid;
  reads = subst (λ (t : Tid). item_read t (item_text item) ≡ Ok item) h.tid (item_again item h.sound (wider size size_limit item small short));
  short = short;
}

all_fit : (type : Tid) (size : ℕ) (items : List Item) → size ≤ size_limit → AllByRecursion (IsItem type) items → AllByRecursion (IsShorter size) items → AllByRecursion (FitsIn type size) items
all_fit type size [] small h k = tt
all_fit type size (x ∷ xs) small h k = (fits_in type size x small h.0 k.0, all_fit type size xs small h.1 k.1)

line_reads : (type : Tid) (size index : ℕ) (item : Item) → size < 2 ^ 64 → index < 2 ^ 64 → FitsIn type size item
    → IsItemLine type index (array_line size index item) (cond (is_string type) size 0) item
line_reads type size index item h k f = record {
  digits = decimal (front_number size index item);
  rest = 32 ∷ item_text item;
  bracketed = record { spelled = refl; numeral = (decimal_is_IsNumeral (front_number size index item) (front_small size index item h k)).0 };
  number = front_is (is_string type) size index item h (ap is_string f.of_type);
  spells = f.reads;
}

lines_read : (type : Tid) (size index : ℕ) (items : List Item) → size < 2 ^ 64 → index + length items < 2 ^ 64 → AllByRecursion (FitsIn type size) items
    → AreItemLines type index (array_lines size index items) (map (sized (is_string type) size) items)
lines_read type size index [] h k f = tt
lines_read type size index (x ∷ xs) h k f =
    (line_reads type size index x h (omega (arith, k)) f.0, lines_read type size (index + 1) xs h (omega (arith, k)) f.1)

-- the one item of a key
alone_reads : (b : Bool) (type : Tid) (size : ℕ) (item : Item) → size < 2 ^ 64 → is_string type ≡ b → is_string (tid_of item) ≡ b → FitsIn type size item
    → IsAloneText b type (item_alone size item) (cond b size 0) item
alone_reads true type size (UInt8 n) h e k f = absurd (cc)
alone_reads false type size (UInt8 n) h e k f = (f.reads, refl)
alone_reads true type size (Int8 z) h e k f = absurd (cc)
alone_reads false type size (Int8 z) h e k f = (f.reads, refl)
alone_reads true type size (Char b) h e k f = absurd (cc)
alone_reads false type size (Char b) h e k f = (f.reads, refl)
alone_reads true type size (UInt16 n) h e k f = absurd (cc)
alone_reads false type size (UInt16 n) h e k f = (f.reads, refl)
alone_reads true type size (Int16 z) h e k f = absurd (cc)
alone_reads false type size (Int16 z) h e k f = (f.reads, refl)
alone_reads true type size (UInt32 n) h e k f = absurd (cc)
alone_reads false type size (UInt32 n) h e k f = (f.reads, refl)
alone_reads true type size (Int32 z) h e k f = absurd (cc)
alone_reads false type size (Int32 z) h e k f = (f.reads, refl)
alone_reads true type size (Truth t) h e k f = absurd (cc)
alone_reads false type size (Truth t) h e k f = (f.reads, refl)
alone_reads true type size (Text bytes) h e k f = record {
  digits = decimal size;
  rest = 32 ∷ bytes;
  bracketed = record { spelled = refl; numeral = (decimal_is_IsNumeral size h).0 };
  number = subst (λ (t : Bool). IsFrontNumber t 0 (decimal size) size) (sym e) (sym (decimal_is_IsNumeral size h).1);
  spells = f.reads;
}
alone_reads false type size (Text bytes) h e k f = absurd (cc)
alone_reads true type size (Int64 z) h e k f = absurd (cc)
alone_reads false type size (Int64 z) h e k f = (f.reads, refl)
alone_reads true type size (UInt64 n) h e k f = absurd (cc)
alone_reads false type size (UInt64 n) h e k f = (f.reads, refl)

-- the item size

size_kept : (size : ℕ) (item : Item) → IsShorter size item → size_with_item size item ≡ size
size_kept size (UInt8 n) h = refl
size_kept size (Int8 z) h = refl
size_kept size (Char b) h = refl
size_kept size (UInt16 n) h = refl
size_kept size (Int16 z) h = refl
size_kept size (UInt32 n) h = refl
size_kept size (Int32 z) h = refl
size_kept size (Truth t) h = refl
size_kept size (Text bytes) h = omega (arith, h)
size_kept size (Int64 z) h = refl
size_kept size (UInt64 n) h = refl

given_is : (type : Tid) (size : ℕ) (x : Item) (xs : List Item) → AllByRecursion (FitsIn type size) (x ∷ xs) → size_given (map (sized true size) (x ∷ xs)) ≡ size
given_is type size x [] f = omega (arith, size_kept size x f.0.short)
given_is type size x (y ∷ ys) f = omega (arith, size_kept size x f.0.short, given_is type size y ys f.1)

own_size : (type : Tid) (size : ℕ) → is_string type ≡ false → IsSizeOf type size → tid_size type ≡ size
own_size tid.UInt8 size e h = sym h
own_size tid.Int8 size e h = sym h
own_size tid.Char size e h = sym h
own_size tid.UInt16 size e h = sym h
own_size tid.Int16 size e h = sym h
own_size tid.UInt32 size e h = sym h
own_size tid.Int32 size e h = sym h
own_size tid.Bool size e h = sym h
own_size tid.Float size e h = sym h
own_size tid.Double size e h = sym h
own_size tid.BitField size e h = sym h
own_size tid.Text size e h = absurd (cc)
own_size tid.Array size e h = sym h
own_size tid.Struct size e h = sym h
own_size tid.Key size e h = sym h
own_size tid.Link size e h = sym h
own_size tid.Int64 size e h = sym h
own_size tid.UInt64 size e h = sym h

pub own_size_small : (type : Tid) (size : ℕ) → IsSizeOf type size → size ≤ size_limit
own_size_small tid.UInt8 size h = omega (arith, h)
own_size_small tid.Int8 size h = omega (arith, h)
own_size_small tid.Char size h = omega (arith, h)
own_size_small tid.UInt16 size h = omega (arith, h)
own_size_small tid.Int16 size h = omega (arith, h)
own_size_small tid.UInt32 size h = omega (arith, h)
own_size_small tid.Int32 size h = omega (arith, h)
own_size_small tid.Bool size h = omega (arith, h)
own_size_small tid.Float size h = omega (arith, h)
own_size_small tid.Double size h = omega (arith, h)
own_size_small tid.BitField size h = omega (arith, h)
own_size_small tid.Text size h = h
own_size_small tid.Array size h = omega (arith, h)
own_size_small tid.Struct size h = omega (arith, h)
own_size_small tid.Key size h = omega (arith, h)
own_size_small tid.Link size h = omega (arith, h)
own_size_small tid.Int64 size h = omega (arith, h)
own_size_small tid.UInt64 size h = omega (arith, h)

size_same : (b : Bool) (type : Tid) (size : ℕ) (x : Item) (xs : List Item) → is_string type ≡ b → IsSizeOf type size → AllByRecursion (FitsIn type size) (x ∷ xs)
    → size_for b type (size_given (map (sized b size) (x ∷ xs))) ≡ size
size_same true type size x xs e h f = given_is type size x xs f
size_same false type size x xs e h f = own_size type size e h

items_same : (b : Bool) (size : ℕ) (items : List Item) → map (λ (x : SizedItem). x.item) (map (sized b size) items) ≡ items
items_same b size [] = refl
items_same b size (x ∷ xs) = ap (λ (l : List Item). x ∷ l) (items_same b size xs)

held_same : (type : Tid) (size : ℕ) (x : Item) (xs : List Item) → IsSizeOf type size → AllByRecursion (FitsIn type size) (x ∷ xs)
    → ◌≡◌ {A = HeldValue} (record { tid = type; size = size; items = x ∷ xs }) (held_with type (map (sized (is_string type) size) (x ∷ xs)))
held_same type size x xs h f =
    ap (λ (n : ℕ). record { tid = type; size = n; items = x ∷ xs }) (sym (size_same (is_string type) type size x xs refl h f))
    ∙ ap (λ (l : List Item). record { tid = type; size = size_for (is_string type) type (size_given (map (sized (is_string type) size) (x ∷ xs))); items = l }) (sym (items_same (is_string type) size (x ∷ xs)))

item_kept : (item : Item) → is_kept (tid_of item) ≡ true
item_kept (UInt8 n) = refl
item_kept (Int8 z) = refl
item_kept (Char b) = refl
item_kept (UInt16 n) = refl
item_kept (Int16 z) = refl
item_kept (UInt32 n) = refl
item_kept (Int32 z) = refl
item_kept (Truth t) = refl
item_kept (Text bytes) = refl
item_kept (Int64 z) = refl
item_kept (UInt64 n) = refl

-- a key of one item, and an array

one_reads : (p : List (List ℕ)) (name : List ℕ) (type : Tid) (size : ℕ) (x : Item) → length p < depth_limit → IsName name → size < 2 ^ 64 → FitsIn type size x
    → IsSingleKey p (key_line name type (codes " : " ++ item_alone size x)) name type (sized (is_string type) size x)
one_reads p name type size x deep n h f = record {
  rest = codes " : " ++ item_alone size x;
  key = record { key = key_line_is name type 32 (codes ": " ++ item_alone size x) n refl; deep = deep };
  kept = ap is_kept (sym f.of_type) ∙ item_kept x;
  text = 32 ∷ item_alone size x;
  single = refl;
  item = alone_reads (is_string type) type size x h refl (ap is_string f.of_type) f;
}

head_reads : (p : List (List ℕ)) (name : List ℕ) (type : Tid) (n : ℕ) → length p < depth_limit → IsName name → 1 ≤ n → n < 2 ^ 64 → is_kept type ≡ true
    → IsArrayHead p (key_line name type (array_head n)) name type n
head_reads p name type n deep good some small kept = record {
  rest = array_head n;
  key = record { key = key_line_is name type 91 (decimal n ++ codes "] :") good refl; deep = deep };
  kept = kept;
  array = record {
    digits = decimal n;
    more = codes " :";
    blanks = [];
    bracketed = record { spelled = refl; numeral = (decimal_is_IsNumeral n small).0 };
    colon = refl;
    blank = tt;
    count = sym (decimal_is_IsNumeral n small).1;
    some = some;
  };
}

reads_by : (links : Bool) (p : List (List ℕ)) (name : List ℕ) (type : Tid) (size : ℕ) (items : List Item) → length p < depth_limit → IsName name → IsSizeOf type size → 1 ≤ length items → length items ≤ items_limit
    → AllByRecursion (FitsIn type size) items → SpellsAct links p (lines_with name type size items) (Write (p ++ name ∷ []) (record { tid = type; size = size; items = items }))
reads_by links p name type size [] deep n h some many f = absurd (omega (arith, some))
reads_by links p name type size (x ∷ []) deep n h some many f =
    let small : size < 2 ^ 64 = omega (arith, own_size_small type size h) in
    (name, inl (type, sized (is_string type) size x ∷ [], inl (sized (is_string type) size x, one_reads p name type size x deep n small f.0, refl, refl), held_same type size x [] h f), refl)
reads_by links p name type size (x ∷ y ∷ zs) deep n h some many f =
    let small : size < 2 ^ 64 = omega (arith, own_size_small type size h) in
    let count : length (x ∷ y ∷ zs) < 2 ^ 64 = omega (arith, many) in (
      name,
      inl (
        type,
        map (sized (is_string type) size) (x ∷ y ∷ zs),
        inr (
          length (x ∷ y ∷ zs),
          head_reads p name type (length (x ∷ y ∷ zs)) deep n some count (ap is_kept (sym f.0.of_type) ∙ item_kept x),
          length-map (x ∷ y ∷ zs) (sized (is_string type) size),
          lines_read type size 0 (x ∷ y ∷ zs) small (omega (arith, count)) f,
        ),
        held_same type size x (y ∷ zs) h f,
      ),
      refl,
    )

value_reads : (links : Bool) (p : List (List ℕ)) (name : List ℕ) (v : HeldValue) → length p < depth_limit → IsName name → IsValue v → SpellsAct links p (key_lines name v) (Write (p ++ name ∷ []) v)
value_reads links p name v deep n h =
    reads_by links p name v.tid v.size v.items deep n h.size h.some h.many
    (all_fit v.tid v.size v.items (own_size_small v.tid v.size h.size) (recursion_from_All (IsItem v.tid) v.items h.of_type) (recursion_from_All (IsShorter v.size) v.items h.shorter))

-- a link

link_fits : (text : List ℕ) → IsText text → length text ≤ text_limit → FitsIn tid.Text (length text + 1) (Text text)
link_fits text good short = record { of_type = refl; reads = item_again (Text text) good (omega (arith, short)); short = omega arith }

link_line : (p : List (List ℕ)) (name text : List ℕ) (target : List (List ℕ)) → length p < depth_limit → IsName name → length text ≤ text_limit → path_reply text ≡ Ok target
    → IsLinkKey p (key_line name tid.Link (codes " : " ++ item_alone (length text + 1) (Text text))) name (length text + 1) text
link_line p name text target deep n short reads = record {
  rest = codes " : " ++ item_alone (length text + 1) (Text text);
  key = record { key = key_line_is name tid.Link 32 (codes ": " ++ item_alone (length text + 1) (Text text)) n refl; deep = deep };
  text = 32 ∷ item_alone (length text + 1) (Text text);
  single = refl;
  alone = record {
    item = alone_reads true tid.Text (length text + 1) (Text text) (omega (arith, short)) refl refl (link_fits text (path_is_text text target reads) short);
    path = (target, reads);
  };
}

pub link_held : (v : HeldValue) → (l : IsLink v) → v ≡ held_link (length l.text + 1) l.text
link_held v l =
    ap (λ (t : Tid). record { tid = t; size = v.size; items = v.items }) l.of_type
    ∙ (ap (λ (n : ℕ). record { tid = tid.Link; size = n; items = v.items }) (l.size ∙ sym (link_sized (length l.text + 1) l.text (omega (arith, l.short))))
    ∙ ap (λ (xs : List Item). record { tid = tid.Link; size = link_size (length l.text + 1) l.text; items = xs }) l.one)

link_reads : (p : List (List ℕ)) (name : List ℕ) (v : HeldValue) → length p < depth_limit → IsName name → IsLink v → SpellsAct true p (key_lines name v) (Write (p ++ name ∷ []) v)
link_reads p name v deep n l =
    let size : link_size (length l.text + 1) l.text ≡ length l.text + 1 = link_sized (length l.text + 1) l.text (omega (arith, l.short)) in
    let line : List ℕ = key_line name tid.Link (codes " : " ++ item_alone (length l.text + 1) (Text l.text)) in
    let lines : key_lines name v ≡ line ∷ [] =
    ap (key_lines name) (link_held v l) ∙ ap (λ (k : ℕ). key_line name tid.Link (codes " : " ++ item_alone k (Text l.text)) ∷ []) size in
    (name, inr (line, length l.text + 1, l.text, refl, lines, link_line p name l.text l.target deep n l.short l.reads, link_held v l), refl)

pub key_reads : (links : Bool) (p : List (List ℕ)) (name : List ℕ) (v : HeldValue) → length p < depth_limit → IsName name → IsHeld links v → SpellsAct links p (key_lines name v) (Write (p ++ name ∷ []) v)
key_reads false p name v deep n h = value_reads false p name v deep n h
key_reads true p name v deep n (inl h) = value_reads true p name v deep n h
key_reads true p name v deep n (inr l) = link_reads p name v deep n l
