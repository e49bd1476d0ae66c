-- A text with a line at fault is not loaded, and it has one such line.
use Rattle.std.proofs.Common.{◌≡◌, ◌≢◌, ℕ, zero, suc, ◌+◌, ◌<◌, ◌≤◌, Bool, true, false, cond, List, [], ◌∷◌, ◌++◌, length, map, Option, Some, None, Result, Ok, ◌⊎◌, inl, inr, refl, sym, ap, ◌∙◌, subst, arith, lt-ltb}
use Rattle.std.specs.List.{AllByRecursion}
use Rattle.std.specs.Option.{option_or}
use Rattle.std.proofs.lemmas.List.{append_assoc, length-append, length-map}
use Rattle.daq_types.specs.declared.types.Tid.{Tid}
use Rattle.daq_types.specs.declared.types.Tid.TheVariants as tid
use Rattle.odb_value.specs.declared.items.Item.{Item}
use Rattle.odb_value.specs.declared.items.Item.TheVariants.{UInt8, Int8, Char, UInt16, Int16, UInt32, Int32, Bool as Truth, Text, Int64, UInt64}
use Rattle.odb_value.specs.Items.{tid_of, is_kept}
use Rattle.odb_value.specs.LinkValues.{is_link_type}
use Rattle.odb_value.specs.Values.{HeldValue, size_limit, items_limit}
use Rattle.odb_value.specs.ValueChanges.{size_with_item}
use Rattle.odb_tree.specs.declared.refusals.OdbRefusal.{OdbRefusal}
use Rattle.odb_tree.specs.declared.refusals.OdbRefusal.TheVariants.{Limit}
use Rattle.odb_tree.specs.declared.refusals.What.TheVariants.{Items, Size}
use Rattle.odb_tree.specs.Rows.{Rows}
use Rattle.odb_text.specs.LineForms.{IsPassed, IsDirLine, IsSingle, IsArray, behind_blank}
use Rattle.odb_text.specs.ItemLines.{is_string, IsFrontNumber, IsItemLine}
use Rattle.odb_text.specs.declared.acts.Act.{Act}
use Rattle.odb_text.specs.declared.acts.Act.TheVariants.{Make, Write, Skip}
use Rattle.odb_text.specs.declared.acts.LoadRefusal.{LoadRefusal}
use Rattle.odb_text.specs.declared.acts.LoadRefusal.TheVariants.{BadLine, KeyRefused, NoMemory}
use Rattle.odb_text.specs.TextSteps.{TextStep, many_fault, wide_fault, rows_fault, act_fault, after_act, or_refused, run_steps, dir_after, dirs_after}
use Rattle.odb_text.specs.Grammar.{SizedItem, AreItemLines, size_given, size_for, held_with, IsArrayHead, IsKeptKey, IsLinkKey, IsWrittenKey, is_skipped, IsSkippedHead, IsSkippedKey, BeginsBracketed, SpellsAct, ArePassed, SpellsSteps}
use Rattle.odb_text.specs.TextFaults.{BeginsNothing, IsBegunArray, IsBegunSkipped, NextIsNot, IsSomeItemLine, LeavesGrammar, IsRefused, FaultPlace, IsTextFault}
use Rattle.odb_text.proofs.DumpItems.{read_tid}
use Rattle.odb_text.proofs.Beginnings.{key_once, not_both, kept_is_not_skipped, kept_is_no_link}
use Rattle.odb_text.proofs.Written.{no_many, wide}
use Rattle.odb_text.proofs.Loads.{same_length}
use Rattle.odb_text.proofs.OneReading.{item_once, array_once, key_not_passed, dir_not_key, head_of, no_both, skipped_same, written_key, skipped_type, one_line, acts_once, same_cons, not_passed_head, first_once, none_left}

-- lines of items

-- of two lists of items at the head of the same lines, behind the shorter one stands the line of an item
goes_on : (type : Tid) (index : ℕ) (ls ms rest left : List (List ℕ)) (xs ys : List SizedItem) → AreItemLines type index ls xs → AreItemLines type index ms ys → length xs < length ys
    → ls ++ rest ≡ ms ++ left → NextIsNot (IsSomeItemLine type (index + length xs)) rest → ⊥
goes_on type index [] [] rest left [] [] h k few e next = absurd (omega (arith, few))
goes_on type index [] [] rest left [] (y ∷ ys) h k few e next = absurd k
goes_on type index [] (m ∷ ms) rest left [] [] h k few e next = absurd k
goes_on type index [] (m ∷ ms) rest left [] (y ∷ ys) h k few e next =
    let first : rest ≡ m ∷ (ms ++ left) = e in
    let never : IsSomeItemLine type (index + 0) m → ⊥ = subst (NextIsNot (IsSomeItemLine type (index + 0))) first next in
    never (y.size, y.item, subst (λ (n : ℕ). IsItemLine type n m y.size y.item) (let same : index ≡ index + 0 = omega arith in same) k.0)
goes_on type index [] ms rest left (x ∷ xs) ys h k few e next = absurd h
goes_on type index (l ∷ ls) ms rest left [] ys h k few e next = absurd h
goes_on type index (l ∷ ls) [] rest left (x ∷ xs) [] h k few e next = absurd (omega (arith, few))
goes_on type index (l ∷ ls) [] rest left (x ∷ xs) (y ∷ ys) h k few e next = absurd k
goes_on type index (l ∷ ls) (m ∷ ms) rest left (x ∷ xs) [] h k few e next = absurd k
goes_on type index (l ∷ ls) (m ∷ ms) rest left (x ∷ xs) (y ∷ ys) h k few e next =
    goes_on type (index + 1) ls ms rest left xs ys h.1 k.1 (omega (arith, few)) (same_cons l m (ls ++ rest) (ms ++ left) e).1
    (subst (λ (n : ℕ). NextIsNot (IsSomeItemLine type n) rest) (let same : index + suc (length xs) ≡ index + 1 + length xs = omega arith in same) next)

skipped_go_on : (ls ms rest left : List (List ℕ)) → AllByRecursion BeginsBracketed ms → length ls < length ms → ls ++ rest ≡ ms ++ left → NextIsNot BeginsBracketed rest → ⊥
skipped_go_on [] [] rest left k few e next = absurd (omega (arith, few))
skipped_go_on [] (m ∷ ms) rest left k few e next =
    let first : rest ≡ m ∷ (ms ++ left) = e in
    let never : BeginsBracketed m → ⊥ = subst (NextIsNot BeginsBracketed) first next in
    never k.0
skipped_go_on (l ∷ ls) [] rest left k few e next = absurd (omega (arith, few))
skipped_go_on (l ∷ ls) (m ∷ ms) rest left k few e next = skipped_go_on ls ms rest left k.1 (omega (arith, few)) (same_cons l m (ls ++ rest) (ms ++ left) e).1 next

-- the items of fewer of the same lines are no wider
sizes_grow : (type : Tid) (index : ℕ) (ls ms rest left : List (List ℕ)) (xs ys : List SizedItem) → AreItemLines type index ls xs → AreItemLines type index ms ys → length xs ≤ length ys
    → ls ++ rest ≡ ms ++ left → size_given xs ≤ size_given ys
sizes_grow type index [] ms rest left [] ys h k few e = omega arith
sizes_grow type index [] ms rest left (x ∷ xs) ys h k few e = absurd h
sizes_grow type index (l ∷ ls) ms rest left [] ys h k few e = absurd h
sizes_grow type index (l ∷ ls) [] rest left (x ∷ xs) [] h k few e = absurd (omega (arith, few))
sizes_grow type index (l ∷ ls) [] rest left (x ∷ xs) (y ∷ ys) h k few e = absurd k
sizes_grow type index (l ∷ ls) (m ∷ ms) rest left (x ∷ xs) [] h k few e = absurd k
sizes_grow type index (l ∷ ls) (m ∷ ms) rest left (x ∷ xs) (y ∷ ys) h k few e =
    let s = same_cons l m (ls ++ rest) (ms ++ left) e in
    let same : x ≡ y = item_once type index m x y (subst (λ (z : List ℕ). IsItemLine type index z x.size x.item) s.0 h.0) k.0 in
    let sizes : size_with_item x.size x.item ≡ size_with_item y.size y.item = ap (λ (z : SizedItem). size_with_item z.size z.item) same in
    let more : size_given xs ≤ size_given ys = sizes_grow type (index + 1) ls ms rest left xs ys h.1 k.1 (omega (arith, few)) s.1 in
    omega (arith, sizes, more)

-- only texts have sizes

not_text_size : (size : ℕ) (item : Item) → is_string (tid_of item) ≡ false → size_with_item size item ≡ size
not_text_size size (UInt8 n) h = refl
not_text_size size (Int8 z) h = refl
not_text_size size (Char b) h = refl
not_text_size size (UInt16 n) h = refl
not_text_size size (Int16 z) h = refl
not_text_size size (UInt32 n) h = refl
not_text_size size (Int32 z) h = refl
not_text_size size (Truth t) h = refl
not_text_size size (Text bytes) h = (let e : true ≡ false = h in absurd (cc))
not_text_size size (Int64 z) h = refl
not_text_size size (UInt64 n) h = refl

item_size : (type : Tid) (index : ℕ) (line : List ℕ) (x : SizedItem) → is_string type ≡ false → IsItemLine type index line x.size x.item → size_with_item x.size x.item ≡ 0
item_size type index line x b h =
    let number : IsFrontNumber false index h.digits x.size = subst (λ (t : Bool). IsFrontNumber t index h.digits x.size) b h.number in
    not_text_size x.size x.item (ap is_string (read_tid type (behind_blank h.rest) x.item h.spells) ∙ b) ∙ number.1

no_size : (type : Tid) (index : ℕ) (ls : List (List ℕ)) (xs : List SizedItem) → is_string type ≡ false → AreItemLines type index ls xs → size_given xs ≡ 0
no_size type index [] [] b h = refl
no_size type index [] (x ∷ xs) b h = absurd h
no_size type index (l ∷ ls) [] b h = absurd h
no_size type index (l ∷ ls) (x ∷ xs) b h = omega (arith, item_size type index l x b h.0, no_size type (index + 1) ls xs b h.1)

is_text : (type : Tid) (index : ℕ) (ls : List (List ℕ)) (xs : List SizedItem) → AreItemLines type index ls xs → size_limit < size_given xs → is_string type ≡ true
is_text type index ls xs h wide_given = cases (is_string type) refl
  where
    cases : (b : Bool) → is_string type ≡ b → is_string type ≡ true
    cases true e = e
    cases false e = absurd (omega (arith, no_size type index ls xs e h, wide_given))

-- limits of what is asked for

many : (n : ℕ) → items_limit < n → many_fault n ≡ Some (Limit Items)
many n h = ap (λ (t : Bool). cond t (Some (Limit Items)) None) (lt-ltb items_limit n h)

write_many : (now : Rows) (p : List (List ℕ)) (type : Tid) (ys : List SizedItem) → items_limit < length ys → act_fault now (Write p (held_with type ys)) ≡ Some (Limit Items)
write_many now p type ys h =
    let v : HeldValue = held_with type ys in
    let count : length (map (λ (x : SizedItem). x.item) ys) ≡ length ys = length-map ys (λ (x : SizedItem). x.item) in
    ap (λ (o : Option OdbRefusal). option_or (option_or o (wide_fault v.size)) (rows_fault now (Write p v))) (many (length (map (λ (x : SizedItem). x.item) ys)) (omega (arith, h, count)))

write_wide : (now : Rows) (p : List (List ℕ)) (type : Tid) (ys : List SizedItem) → is_string type ≡ true → length ys ≤ items_limit → size_limit < size_given ys
    → act_fault now (Write p (held_with type ys)) ≡ Some (Limit Size)
write_wide now p type ys string few great =
    let v : HeldValue = held_with type ys in
    let count : length (map (λ (x : SizedItem). x.item) ys) ≡ length ys = length-map ys (λ (x : SizedItem). x.item) in
    let size : v.size ≡ size_given ys = ap (λ (b : Bool). size_for b type (size_given ys)) string in
    ap (λ (o : Option OdbRefusal). option_or (option_or o (wide_fault v.size)) (rows_fault now (Write p v))) (no_many (length (map (λ (x : SizedItem). x.item) ys)) (omega (arith, few, count)))
    ∙ ap (λ (o : Option OdbRefusal). option_or o (rows_fault now (Write p v))) (wide v.size (omega (arith, size, great)))

skip_many : (now : Rows) (n : ℕ) → items_limit < n → act_fault now (Skip n) ≡ Some (Limit Items)
skip_many now n h = ap (λ (o : Option OdbRefusal). option_or o None) (many n h)

-- Lines at fault, told by the first of them.

-- the first line is that of an array, of which not all items follow
record ArrayStops (dir : List (List ℕ)) (line : List ℕ) (more : List (List ℕ)) (place : ℕ) : Type 0 where
  name : List ℕ
  type : Tid
  n : ℕ
  xs : List SizedItem
  own : List (List ℕ)
  rest : List (List ℕ)
  parts : more ≡ own ++ rest
  head : IsArrayHead dir line name type n
  are : AreItemLines type 0 own xs
  few : length xs < n
  limited : n ≤ items_limit
  small : size_given xs ≤ size_limit
  next : NextIsNot (IsSomeItemLine type (length xs)) rest
  place_is : place ≡ length own + 1

-- the same of an array that is skipped
record SkippedStops (links : Bool) (dir : List (List ℕ)) (line : List ℕ) (more : List (List ℕ)) (place : ℕ) : Type 0 where
  n : ℕ
  tail : List ℕ
  own : List (List ℕ)
  rest : List (List ℕ)
  parts : more ≡ own ++ rest
  head : IsSkippedHead links dir line tail
  array : IsArray tail n
  are : AllByRecursion BeginsBracketed own
  few : length own < n
  limited : n ≤ items_limit
  next : NextIsNot BeginsBracketed rest
  place_is : place ≡ length own + 1

-- a step begins with the first line
record StepAt (links : Bool) (dir : List (List ℕ)) (line : List ℕ) (more : List (List ℕ)) (act : Act) : Type 0 where
  own : List (List ℕ)
  left : List (List ℕ)
  parts : more ≡ own ++ left
  spells : SpellsAct links dir (line ∷ own) act

-- the first line is that of an array with too many items
record ManyAt (links : Bool) (dir : List (List ℕ)) (line : List ℕ) : Type 0 where
  n : ℕ
  great : items_limit < n
  head : ((name : List ℕ) × (type : Tid) × IsArrayHead dir line name type n) ⊎ ((rest : List ℕ) × IsSkippedHead links dir line rest × IsArray rest n)

-- the first line is that of an array, and one of the items that follow has too great a size
record WideAt (dir : List (List ℕ)) (line : List ℕ) (more : List (List ℕ)) : Type 0 where
  name : List ℕ
  type : Tid
  n : ℕ
  xs : List SizedItem
  own : List (List ℕ)
  rest : List (List ℕ)
  parts : more ≡ own ++ rest
  head : IsArrayHead dir line name type n
  are : AreItemLines type 0 own xs
  few : length xs ≤ n
  limited : n ≤ items_limit
  great : size_limit < size_given xs

-- the first lines of arrays

array_same : (dir : List (List ℕ)) (line name that : List ℕ) (type kind : Tid) (n m : ℕ) → IsArrayHead dir line name type n → IsArrayHead dir line that kind m → (type ≡ kind) × (n ≡ m)
array_same dir line name that type kind n m h k =
    let same = key_once line name that type kind h.rest k.rest h.key.key k.key.key in
    (same.type_is, array_once k.rest n m (subst (λ (r : List ℕ). IsArray r n) same.rest_is h.array) k.array)

kept_or_skipped_head : (links : Bool) (dir : List (List ℕ)) (line name : List ℕ) (type : Tid) (n : ℕ) (tail : List ℕ) → IsArrayHead dir line name type n → IsSkippedHead links dir line tail → ⊥
kept_or_skipped_head links dir line name type n tail h k =
    let same = key_once line name k.name type k.type h.rest tail h.key.key k.key.key in
    kept_is_not_skipped links k.type (subst (λ (t : Tid). is_kept t ≡ true) same.type_is h.kept) k.skipped

skipped_count : (links : Bool) (dir : List (List ℕ)) (line rest tail : List ℕ) (n m : ℕ) → IsSkippedHead links dir line rest → IsSkippedHead links dir line tail → IsArray rest n → IsArray tail m → n ≡ m
skipped_count links dir line rest tail n m h k a b = array_once tail n m (subst (λ (r : List ℕ). IsArray r n) (skipped_same links dir line rest tail h k) a) b

-- steps by their first lines

kept_nothing : (links : Bool) (dir : List (List ℕ)) (line : List ℕ) (own : List (List ℕ)) (name : List ℕ) (type : Tid) (xs : List SizedItem) → IsKeptKey dir (line ∷ own) name type xs → BeginsNothing links dir line → ⊥
kept_nothing links dir line own name type xs h b = elim h [ inl s ↦ b.single name type s.0 s.1 | inr a ↦ b.array name type a.0 a.1 ]

skipped_nothing : (links : Bool) (dir : List (List ℕ)) (line : List ℕ) (own : List (List ℕ)) (items : ℕ) → IsSkippedKey links dir (line ∷ own) items → BeginsNothing links dir line → ⊥
skipped_nothing links dir line own items h b = elim h [ inl s ↦ b.skipped_single s.0 s.1 s.2 s.3 | inr a ↦ b.skipped_array a.0 items a.1 a.2 ]

written_nothing : (links : Bool) (dir : List (List ℕ)) (line : List ℕ) (own : List (List ℕ)) (name : List ℕ) (v : HeldValue) → IsWrittenKey links dir (line ∷ own) name v → BeginsNothing links dir line → ⊥
written_nothing links dir line own name v h b =
    elim h [
      | inl k ↦ kept_nothing links dir line own name k.0 k.1 k.2 b
      | inr l ↦ b.link l.3 name l.1 l.2 (subst (λ (z : List ℕ). IsLinkKey dir z name l.1 l.2) (sym (one_line line l.0 own l.4).0) l.5)
    ]

nothing_step : (links : Bool) (dir : List (List ℕ)) (line : List ℕ) (own : List (List ℕ)) (act : Act) → SpellsAct links dir (line ∷ own) act → BeginsNothing links dir line → ⊥
nothing_step links dir line own (Make p) h b = let a = one_line line h.0 own h.1 in b.directory p (subst (λ (z : List ℕ). IsDirLine z p) (sym a.0) h.2)
nothing_step links dir line own (Write p v) h b = written_nothing links dir line own h.0 v h.1 b
nothing_step links dir line own (Skip items) h b = skipped_nothing links dir line own items h b

-- a step that begins with the line of an array has all its items
record IsArrayAct (type : Tid) (n : ℕ) (own : List (List ℕ)) (act : Act) : Type 0 where
  path : List (List ℕ)
  ys : List SizedItem
  are : AreItemLines type 0 own ys
  count : length ys ≡ n
  act_is : act ≡ Write path (held_with type ys)

array_kept : (dir : List (List ℕ)) (line : List ℕ) (own p : List (List ℕ)) (v : HeldValue) (that : List ℕ) (kind : Tid) (xs : List SizedItem) (name : List ℕ) (type : Tid) (n : ℕ)
    → IsKeptKey dir (line ∷ own) that kind xs → v ≡ held_with kind xs → IsArrayHead dir line name type n → IsArrayAct type n own (Write p v)
array_kept dir line own p v that kind xs name type n h e k =
    elim h [
      | inl s ↦ absurd (no_both dir line that name kind type s.0 n s.1 k)
      | inr a ↦
          (let same = array_same dir line that name kind type a.0 n a.1 k in
          record {
            path = p;
            ys = xs;
            are = subst (λ (t : Tid). AreItemLines t 0 own xs) same.0 a.3;
            count = a.2 ∙ same.1;
            act_is = ap (λ (w : HeldValue). Write p w) (e ∙ ap (λ (t : Tid). held_with t xs) same.0);
          })
    ]

array_written : (links : Bool) (dir : List (List ℕ)) (line : List ℕ) (own p : List (List ℕ)) (v : HeldValue) (that name : List ℕ) (type : Tid) (n : ℕ) → IsWrittenKey links dir (line ∷ own) that v
    → IsArrayHead dir line name type n → IsArrayAct type n own (Write p v)
array_written links dir line own p v that name type n h k =
    elim h [
      | inl a ↦ array_kept dir line own p v that a.0 a.1 name type n a.2 a.3 k
      | inr l ↦
          (let first : IsLinkKey dir line that l.1 l.2 = subst (λ (z : List ℕ). IsLinkKey dir z that l.1 l.2) (sym (one_line line l.0 own l.4).0) l.5 in
          let same = key_once line name that type tid.Link k.rest first.rest k.key.key first.key.key in
          absurd (kept_is_no_link type k.kept (ap is_link_type same.type_is)))
    ]

array_step : (links : Bool) (dir : List (List ℕ)) (line : List ℕ) (own : List (List ℕ)) (act : Act) (name : List ℕ) (type : Tid) (n : ℕ) → SpellsAct links dir (line ∷ own) act → IsArrayHead dir line name type n
    → IsArrayAct type n own act
array_step links dir line own (Make p) name type n h k =
    let a = one_line line h.0 own h.1 in absurd (dir_not_key line p name type k.rest (subst (λ (z : List ℕ). IsDirLine z p) (sym a.0) h.2) k.key.key)
array_step links dir line own (Write p v) name type n h k = array_written links dir line own p v h.0 name type n h.1 k
array_step links dir line own (Skip items) name type n h k = let b = skipped_type links dir line own items h in absurd (kept_or_skipped_head links dir line name type n b.0 k b.1)

record IsSkippedAct (n : ℕ) (own : List (List ℕ)) (act : Act) : Type 0 where
  are : AllByRecursion BeginsBracketed own
  count : length own ≡ n
  act_is : act ≡ Skip n

skipped_array_step : (links : Bool) (dir : List (List ℕ)) (line : List ℕ) (own : List (List ℕ)) (items : ℕ) (tail : List ℕ) (n : ℕ) → IsSkippedKey links dir (line ∷ own) items → IsSkippedHead links dir line tail → IsArray tail n
    → IsSkippedAct n own (Skip items)
skipped_array_step links dir line own items tail n h k f =
    elim h [
      | inl s ↦ absurd (not_both tail s.1 n (subst (λ (r : List ℕ). IsSingle r s.1) (skipped_same links dir line s.0 tail s.2 k) s.3) f)
      | inr a ↦
          (let same : items ≡ n = skipped_count links dir line a.0 tail items n a.1 k a.2 f in
          record { are = a.4; count = a.3 ∙ same; act_is = ap (λ (z : ℕ). Skip z) same })
    ]

skipped_step : (links : Bool) (dir : List (List ℕ)) (line : List ℕ) (own : List (List ℕ)) (act : Act) (tail : List ℕ) (n : ℕ) → SpellsAct links dir (line ∷ own) act → IsSkippedHead links dir line tail → IsArray tail n
    → IsSkippedAct n own act
skipped_step links dir line own (Make p) tail n h k f =
    let a = one_line line h.0 own h.1 in absurd (dir_not_key line p k.name k.type tail (subst (λ (z : List ℕ). IsDirLine z p) (sym a.0) h.2) k.key.key)
skipped_step links dir line own (Write p v) tail n h k f =
    let a = written_key links dir line own h.0 v h.1 in
    let same = key_once line h.0 k.name a.type k.type a.rest tail a.key k.key.key in
    absurd (a.read (subst (λ (t : Tid). is_skipped links t ≡ true) (sym same.type_is) k.skipped))
skipped_step links dir line own (Skip items) tail n h k f = skipped_array_step links dir line own items tail n h k f

-- pairs of what may stand at one place

step_and_array : (links : Bool) (dir : List (List ℕ)) (line : List ℕ) (more : List (List ℕ)) (act : Act) (place : ℕ) → StepAt links dir line more act → ArrayStops dir line more place → ⊥
step_and_array links dir line more act place s f =
    let a = array_step links dir line s.own act f.name f.type f.n s.spells f.head in
    goes_on f.type 0 f.own s.own f.rest s.left f.xs a.ys f.are a.are (omega (arith, f.few, a.count)) (sym f.parts ∙ s.parts)
    (subst (λ (k : ℕ). NextIsNot (IsSomeItemLine f.type k) f.rest) (let same : length f.xs ≡ 0 + length f.xs = omega arith in same) f.next)

step_and_skipped : (links : Bool) (dir : List (List ℕ)) (line : List ℕ) (more : List (List ℕ)) (act : Act) (place : ℕ) → StepAt links dir line more act → SkippedStops links dir line more place → ⊥
step_and_skipped links dir line more act place s f =
    let a = skipped_step links dir line s.own act f.tail f.n s.spells f.head f.array in
    skipped_go_on f.own s.own f.rest s.left a.are (omega (arith, f.few, a.count)) (sym f.parts ∙ s.parts) f.next

step_and_many : (links : Bool) (dir : List (List ℕ)) (line : List ℕ) (more : List (List ℕ)) (act : Act) (now : Rows) → StepAt links dir line more act → ManyAt links dir line → act_fault now act ≡ Some (Limit Items)
step_and_many links dir line more act now s f =
    elim f.head [
      | inl k ↦
          (let a = array_step links dir line s.own act k.0 k.1 f.n s.spells k.2 in
          ap (λ (z : Act). act_fault now z) a.act_is ∙ write_many now a.path k.1 a.ys (omega (arith, a.count, f.great)))
      | inr k ↦
          (let a = skipped_step links dir line s.own act k.0 f.n s.spells k.1 k.2 in
          ap (λ (z : Act). act_fault now z) a.act_is ∙ skip_many now f.n f.great)
    ]

step_and_wide : (links : Bool) (dir : List (List ℕ)) (line : List ℕ) (more : List (List ℕ)) (act : Act) (now : Rows) → StepAt links dir line more act → WideAt dir line more → act_fault now act ≡ Some (Limit Size)
step_and_wide links dir line more act now s w =
    let a = array_step links dir line s.own act w.name w.type w.n s.spells w.head in
    let grows : size_given w.xs ≤ size_given a.ys =
    sizes_grow w.type 0 w.own s.own w.rest s.left w.xs a.ys w.are a.are (omega (arith, w.few, a.count)) (sym w.parts ∙ s.parts) in
    ap (λ (z : Act). act_fault now z) a.act_is
    ∙ write_wide now a.path w.type a.ys (is_text w.type 0 w.own w.xs w.are w.great) (omega (arith, a.count, w.limited)) (omega (arith, grows, w.great))

step_and_step : (links : Bool) (dir : List (List ℕ)) (line : List ℕ) (more : List (List ℕ)) (act that : Act) → StepAt links dir line more act → StepAt links dir line more that → act ≡ that
step_and_step links dir line more act that s t = (acts_once links dir line s.own t.own s.left t.left act that s.spells t.spells (sym s.parts ∙ t.parts)).act_is

not_less : (n m : ℕ) → (n < m → ⊥) → m ≤ n
not_less n zero h = omega arith
not_less zero (suc m) h = absurd (h (omega arith))
not_less (suc n) (suc m) h = omega (arith, not_less n m (λ (l : n < m). h (omega (arith, l))))

array_and_array : (dir : List (List ℕ)) (line : List ℕ) (more : List (List ℕ)) (place other : ℕ) → ArrayStops dir line more place → ArrayStops dir line more other → place ≡ other
array_and_array dir line more place other a b =
    let same = array_same dir line a.name b.name a.type b.type a.n b.n a.head b.head in
    let are : AreItemLines a.type 0 b.own b.xs = subst (λ (t : Tid). AreItemLines t 0 b.own b.xs) (sym same.0) b.are in
    let after_a : NextIsNot (IsSomeItemLine a.type (0 + length a.xs)) a.rest =
    subst (λ (k : ℕ). NextIsNot (IsSomeItemLine a.type k) a.rest) (let s : length a.xs ≡ 0 + length a.xs = omega arith in s) a.next in
    let after_b : NextIsNot (IsSomeItemLine a.type (0 + length b.xs)) b.rest =
    subst (λ (k : ℕ). NextIsNot (IsSomeItemLine a.type k) b.rest) (let s : length b.xs ≡ 0 + length b.xs = omega arith in s)
    (subst (λ (t : Tid). NextIsNot (IsSomeItemLine t (length b.xs)) b.rest) (sym same.0) b.next) in
    let no_less : length b.xs ≤ length a.xs =
    not_less (length a.xs) (length b.xs) (λ (l : length a.xs < length b.xs). goes_on a.type 0 a.own b.own a.rest b.rest a.xs b.xs a.are are l (sym a.parts ∙ b.parts) after_a) in
    let no_more : length a.xs ≤ length b.xs =
    not_less (length b.xs) (length a.xs) (λ (l : length b.xs < length a.xs). goes_on a.type 0 b.own a.own b.rest a.rest b.xs a.xs are a.are l (sym b.parts ∙ a.parts) after_b) in
    omega (arith, a.place_is, b.place_is, same_length a.type 0 a.own a.xs a.are, same_length a.type 0 b.own b.xs are, no_less, no_more)

skipped_and_skipped : (links : Bool) (dir : List (List ℕ)) (line : List ℕ) (more : List (List ℕ)) (place other : ℕ) → SkippedStops links dir line more place → SkippedStops links dir line more other → place ≡ other
skipped_and_skipped links dir line more place other a b =
    let no_less : length b.own ≤ length a.own =
    not_less (length a.own) (length b.own) (λ (l : length a.own < length b.own). skipped_go_on a.own b.own a.rest b.rest b.are l (sym a.parts ∙ b.parts) a.next) in
    let no_more : length a.own ≤ length b.own =
    not_less (length b.own) (length a.own) (λ (l : length b.own < length a.own). skipped_go_on b.own a.own b.rest a.rest a.are l (sym b.parts ∙ a.parts) b.next) in
    omega (arith, a.place_is, b.place_is, no_less, no_more)

array_and_many : (links : Bool) (dir : List (List ℕ)) (line name : List ℕ) (type : Tid) (n : ℕ) → IsArrayHead dir line name type n → n ≤ items_limit → ManyAt links dir line → ⊥
array_and_many links dir line name type n h few f =
    elim f.head [
      | inl k ↦ absurd (omega (arith, (array_same dir line name k.0 type k.1 n f.n h k.2).1, few, f.great))
      | inr k ↦ kept_or_skipped_head links dir line name type n k.0 h k.1
    ]

skipped_and_many : (links : Bool) (dir : List (List ℕ)) (line : List ℕ) (more : List (List ℕ)) (place : ℕ) → SkippedStops links dir line more place → ManyAt links dir line → ⊥
skipped_and_many links dir line more place s f =
    elim f.head [
      | inl k ↦ kept_or_skipped_head links dir line k.0 k.1 f.n s.tail k.2 s.head
      | inr k ↦ absurd (omega (arith, skipped_count links dir line s.tail k.0 s.n f.n s.head k.1 s.array k.2, s.limited, f.great))
    ]

nothing_and_many : (links : Bool) (dir : List (List ℕ)) (line : List ℕ) → BeginsNothing links dir line → ManyAt links dir line → ⊥
nothing_and_many links dir line b f = elim f.head [ inl k ↦ b.array k.0 k.1 f.n k.2 | inr k ↦ b.skipped_array k.0 f.n k.1 k.2 ]

array_and_wide : (dir : List (List ℕ)) (line : List ℕ) (more : List (List ℕ)) (place : ℕ) → ArrayStops dir line more place → WideAt dir line more → ⊥
array_and_wide dir line more place a w =
    let same = array_same dir line a.name w.name a.type w.type a.n w.n a.head w.head in
    let are : AreItemLines a.type 0 w.own w.xs = subst (λ (t : Tid). AreItemLines t 0 w.own w.xs) (sym same.0) w.are in
    let after_a : NextIsNot (IsSomeItemLine a.type (0 + length a.xs)) a.rest =
    subst (λ (k : ℕ). NextIsNot (IsSomeItemLine a.type k) a.rest) (let s : length a.xs ≡ 0 + length a.xs = omega arith in s) a.next in
    let no_less : length w.xs ≤ length a.xs =
    not_less (length a.xs) (length w.xs) (λ (l : length a.xs < length w.xs). goes_on a.type 0 a.own w.own a.rest w.rest a.xs w.xs a.are are l (sym a.parts ∙ w.parts) after_a) in
    let grows : size_given w.xs ≤ size_given a.xs = sizes_grow a.type 0 w.own a.own w.rest a.rest w.xs a.xs are a.are no_less (sym w.parts ∙ a.parts) in
    omega (arith, grows, a.small, w.great)

-- the text leaves the grammar at this place, or what it asks for is refused

abbrev BadAt : (links : Bool) (dir : List (List ℕ)) → (line : List ℕ) → (more : List (List ℕ)) → (place : ℕ) → Type 0
BadAt links dir line more place = ((place ≡ 0) × BeginsNothing links dir line) ⊎ ArrayStops dir line more place ⊎ SkippedStops links dir line more place

abbrev RefusedAt : (links : Bool) → Rows → (dir : List (List ℕ)) → (line : List ℕ) → (more : List (List ℕ)) → OdbRefusal → Type 0
RefusedAt links now dir line more why =
    ((act : Act) × StepAt links dir line more act × (act_fault now act ≡ Some why)) ⊎ (ManyAt links dir line × (why ≡ Limit Items)) ⊎ (WideAt dir line more × (why ≡ Limit Size))

step_not_bad : (links : Bool) (dir : List (List ℕ)) (line : List ℕ) (more : List (List ℕ)) (act : Act) (place : ℕ) → StepAt links dir line more act → BadAt links dir line more place → ⊥
step_not_bad links dir line more act place s h =
    elim h [
      | inl b ↦ nothing_step links dir line s.own act s.spells b.1
      | inr m ↦ elim m [ inl a ↦ step_and_array links dir line more act place s a | inr k ↦ step_and_skipped links dir line more act place s k ]
    ]

many_not_bad : (links : Bool) (dir : List (List ℕ)) (line : List ℕ) (more : List (List ℕ)) (place : ℕ) → ManyAt links dir line → BadAt links dir line more place → ⊥
many_not_bad links dir line more place f h =
    elim h [
      | inl b ↦ nothing_and_many links dir line b.1 f
      | inr m ↦ elim m [ inl a ↦ array_and_many links dir line a.name a.type a.n a.head a.limited f | inr k ↦ skipped_and_many links dir line more place k f ]
    ]

wide_not_bad : (links : Bool) (dir : List (List ℕ)) (line : List ℕ) (more : List (List ℕ)) (place : ℕ) → WideAt dir line more → BadAt links dir line more place → ⊥
wide_not_bad links dir line more place w h =
    elim h [
      | inl b ↦ b.1.array w.name w.type w.n w.head
      | inr m ↦ elim m [ inl a ↦ array_and_wide dir line more place a w | inr k ↦ kept_or_skipped_head links dir line w.name w.type w.n k.tail w.head k.head ]
    ]

bad_or_refused : (links : Bool) (now : Rows) (dir : List (List ℕ)) (line : List ℕ) (more : List (List ℕ)) (place : ℕ) (why : OdbRefusal) → BadAt links dir line more place → RefusedAt links now dir line more why → ⊥
bad_or_refused links now dir line more place why h k =
    elim k [
      | inl s ↦ step_not_bad links dir line more s.0 place s.1 h
      | inr m ↦ elim m [ inl f ↦ many_not_bad links dir line more place f.0 h | inr w ↦ wide_not_bad links dir line more place w.0 h ]
    ]

nothing_or_not : (links : Bool) (dir : List (List ℕ)) (line : List ℕ) (more : List (List ℕ)) (place : ℕ) → BeginsNothing links dir line → BadAt links dir line more place → place ≡ 0
nothing_or_not links dir line more place b k =
    elim k [
      | inl c ↦ c.0
      | inr m ↦ elim m [ inl a ↦ absurd (b.array a.name a.type a.n a.head) | inr s ↦ absurd (b.skipped_array s.tail s.n s.head s.array) ]
    ]

array_or_not : (links : Bool) (dir : List (List ℕ)) (line : List ℕ) (more : List (List ℕ)) (place other : ℕ) → ArrayStops dir line more place → BadAt links dir line more other → place ≡ other
array_or_not links dir line more place other a k =
    elim k [
      | inl c ↦ absurd (c.1.array a.name a.type a.n a.head)
      | inr m ↦ elim m [ inl b ↦ array_and_array dir line more place other a b | inr s ↦ absurd (kept_or_skipped_head links dir line a.name a.type a.n s.tail a.head s.head) ]
    ]

skipped_or_not : (links : Bool) (dir : List (List ℕ)) (line : List ℕ) (more : List (List ℕ)) (place other : ℕ) → SkippedStops links dir line more place → BadAt links dir line more other → place ≡ other
skipped_or_not links dir line more place other a k =
    elim k [
      | inl c ↦ absurd (c.1.skipped_array a.tail a.n a.head a.array)
      | inr m ↦ elim m [ inl b ↦ absurd (kept_or_skipped_head links dir line b.name b.type b.n a.tail b.head a.head) | inr s ↦ skipped_and_skipped links dir line more place other a s ]
    ]

bad_once : (links : Bool) (dir : List (List ℕ)) (line : List ℕ) (more : List (List ℕ)) (place other : ℕ) → BadAt links dir line more place → BadAt links dir line more other → place ≡ other
bad_once links dir line more place other h k =
    elim h [
      | inl b ↦ b.0 ∙ sym (nothing_or_not links dir line more other b.1 k)
      | inr m ↦ elim m [ inl a ↦ array_or_not links dir line more place other a k | inr s ↦ skipped_or_not links dir line more place other s k ]
    ]

-- what is refused has one refusal

refusal_of_step : (links : Bool) (now : Rows) (dir : List (List ℕ)) (line : List ℕ) (more : List (List ℕ)) (act : Act) (why : OdbRefusal) → StepAt links dir line more act → RefusedAt links now dir line more why
    → act_fault now act ≡ Some why
refusal_of_step links now dir line more act why s h =
    elim h [
      | inl t ↦ ap (λ (z : Act). act_fault now z) (step_and_step links dir line more act t.0 s t.1) ∙ t.2
      | inr m ↦ elim m [
        | inl f ↦ step_and_many links dir line more act now s f.0 ∙ ap (λ (w : OdbRefusal). Some w) (sym f.1)
        | inr w ↦ step_and_wide links dir line more act now s w.0 ∙ ap (λ (z : OdbRefusal). Some z) (sym w.1)
      ]
    ]

same_some : (why that : OdbRefusal) (o : Option OdbRefusal) → o ≡ Some why → o ≡ Some that → why ≡ that
same_some why that o h k = (let e : Some why ≡ Some that = sym h ∙ k in cc)

many_or_not : (links : Bool) (now : Rows) (dir : List (List ℕ)) (line : List ℕ) (more : List (List ℕ)) (why : OdbRefusal) → ManyAt links dir line → RefusedAt links now dir line more why → why ≡ Limit Items
many_or_not links now dir line more why f h =
    elim h [
      | inl t ↦ same_some why (Limit Items) (act_fault now t.0) t.2 (step_and_many links dir line more t.0 now t.1 f)
      | inr m ↦ elim m [ inl g ↦ g.1 | inr w ↦ absurd (array_and_many links dir line w.0.name w.0.type w.0.n w.0.head w.0.limited f) ]
    ]

wide_or_not : (links : Bool) (now : Rows) (dir : List (List ℕ)) (line : List ℕ) (more : List (List ℕ)) (why : OdbRefusal) → WideAt dir line more → RefusedAt links now dir line more why → why ≡ Limit Size
wide_or_not links now dir line more why w h =
    elim h [
      | inl t ↦ same_some why (Limit Size) (act_fault now t.0) t.2 (step_and_wide links dir line more t.0 now t.1 w)
      | inr m ↦ elim m [ inl g ↦ absurd (array_and_many links dir line w.name w.type w.n w.head w.limited g.0) | inr v ↦ v.1 ]
    ]

refused_once : (links : Bool) (now : Rows) (dir : List (List ℕ)) (line : List ℕ) (more : List (List ℕ)) (why that : OdbRefusal) → RefusedAt links now dir line more why → RefusedAt links now dir line more that → why ≡ that
refused_once links now dir line more why that h k =
    elim h [
      | inl s ↦ same_some why that (act_fault now s.0) s.2 (refusal_of_step links now dir line more s.0 that s.1 k)
      | inr m ↦ elim m [
        | inl f ↦ f.1 ∙ sym (many_or_not links now dir line more that f.0 k)
        | inr w ↦ w.1 ∙ sym (wide_or_not links now dir line more that w.0 k)
      ]
    ]

-- Some fault begins with the first line. The number of a line is counted from there.

abbrev StuckAt : (links : Bool) → Rows → (dir : List (List ℕ)) → (line : List ℕ) → (more : List (List ℕ)) → LoadRefusal → Type 0
StuckAt links now dir line more (BadLine n) = BadAt links dir line more n
StuckAt links now dir line more (KeyRefused n why) = (n ≡ 0) × RefusedAt links now dir line more why
StuckAt links now dir line more NoMemory = ⊥

stuck_once : (links : Bool) (now : Rows) (dir : List (List ℕ)) (line : List ℕ) (more : List (List ℕ)) (a b : LoadRefusal) → StuckAt links now dir line more a → StuckAt links now dir line more b → a ≡ b
stuck_once links now dir line more (BadLine n) (BadLine m) h k = ap (λ (z : ℕ). BadLine z) (bad_once links dir line more n m h k)
stuck_once links now dir line more (BadLine n) (KeyRefused m that) h k = absurd (bad_or_refused links now dir line more n that h k.1)
stuck_once links now dir line more (BadLine n) NoMemory h k = absurd k
stuck_once links now dir line more (KeyRefused n why) (BadLine m) h k = absurd (bad_or_refused links now dir line more m why k h.1)
stuck_once links now dir line more (KeyRefused n why) (KeyRefused m that) h k =
    ap (λ (z : ℕ). KeyRefused z why) (h.0 ∙ sym k.0) ∙ ap (λ (z : OdbRefusal). KeyRefused m z) (refused_once links now dir line more why that h.1 k.1)
stuck_once links now dir line more (KeyRefused n why) NoMemory h k = absurd k
stuck_once links now dir line more NoMemory b h k = absurd h

-- no fault begins with a step that is not refused
fine_not_stuck : (links : Bool) (now : Rows) (dir : List (List ℕ)) (line : List ℕ) (more : List (List ℕ)) (act : Act) (fault : LoadRefusal) → StepAt links dir line more act → act_fault now act ≡ None
    → StuckAt links now dir line more fault → ⊥
fine_not_stuck links now dir line more act (BadLine n) s fine h = step_not_bad links dir line more act n s h
fine_not_stuck links now dir line more act (KeyRefused n why) s fine h = (let e : None ≡ Some why = sym fine ∙ refusal_of_step links now dir line more act why s h.1 in absurd (cc))
fine_not_stuck links now dir line more act NoMemory s fine h = h

-- or with a line that is passed over

step_not_passed : (links : Bool) (dir : List (List ℕ)) (line : List ℕ) (own : List (List ℕ)) (act : Act) → SpellsAct links dir (line ∷ own) act → IsPassed line → ⊥
step_not_passed links dir line own act h p =
    let a = head_of links dir (line ∷ own) act h in
    let s = same_cons line a.head own a.more a.is in
    a.read (subst IsPassed s.0 p)

many_not_passed : (links : Bool) (dir : List (List ℕ)) (line : List ℕ) → ManyAt links dir line → IsPassed line → ⊥
many_not_passed links dir line f p =
    elim f.head [ inl k ↦ key_not_passed line k.0 k.1 k.2.rest k.2.key.key p | inr k ↦ key_not_passed line k.1.name k.1.type k.0 k.1.key.key p ]

passed_not_bad : (links : Bool) (dir : List (List ℕ)) (line : List ℕ) (more : List (List ℕ)) (place : ℕ) → IsPassed line → BadAt links dir line more place → ⊥
passed_not_bad links dir line more place p h =
    elim h [
      | inl b ↦ b.1.passed p
      | inr m ↦ elim m [ inl a ↦ key_not_passed line a.name a.type a.head.rest a.head.key.key p | inr s ↦ key_not_passed line s.head.name s.head.type s.tail s.head.key.key p ]
    ]

passed_not_refused : (links : Bool) (now : Rows) (dir : List (List ℕ)) (line : List ℕ) (more : List (List ℕ)) (why : OdbRefusal) → IsPassed line → RefusedAt links now dir line more why → ⊥
passed_not_refused links now dir line more why p h =
    elim h [
      | inl s ↦ step_not_passed links dir line s.1.own s.0 s.1.spells p
      | inr m ↦ elim m [ inl f ↦ many_not_passed links dir line f.0 p | inr w ↦ key_not_passed line w.0.name w.0.type w.0.head.rest w.0.head.key.key p ]
    ]

passed_not_stuck : (links : Bool) (now : Rows) (dir : List (List ℕ)) (line : List ℕ) (more : List (List ℕ)) (fault : LoadRefusal) → IsPassed line → StuckAt links now dir line more fault → ⊥
passed_not_stuck links now dir line more (BadLine n) p h = passed_not_bad links dir line more n p h
passed_not_stuck links now dir line more (KeyRefused n why) p h = passed_not_refused links now dir line more why p h.1
passed_not_stuck links now dir line more NoMemory p h = h

-- The lines begin with a fault.
record StuckIn (links : Bool) (now : Rows) (dir : List (List ℕ)) (lines : List (List ℕ)) (fault : LoadRefusal) : Type 0 where
  line : List ℕ
  more : List (List ℕ)
  spelled : lines ≡ line ∷ more
  stuck : StuckAt links now dir line more fault

stuck_in_once : (links : Bool) (now : Rows) (dir lines : List (List ℕ)) (a b : LoadRefusal) → StuckIn links now dir lines a → StuckIn links now dir lines b → a ≡ b
stuck_in_once links now dir lines a b s t =
    let e = same_cons s.line t.line s.more t.more (sym s.spelled ∙ t.spelled) in
    let first : StuckAt links now dir t.line s.more a = subst (λ (z : List ℕ). StuckAt links now dir z s.more a) e.0 s.stuck in
    stuck_once links now dir t.line t.more a b (subst (λ (z : List (List ℕ)). StuckAt links now dir t.line z a) e.1 first) t.stuck

fine_not_stuck_in : (links : Bool) (now : Rows) (dir own left : List (List ℕ)) (act : Act) (fault : LoadRefusal) → SpellsAct links dir own act → act_fault now act ≡ None → StuckIn links now dir (own ++ left) fault → ⊥
fine_not_stuck_in links now dir [] left act fault h fine s = (let a = head_of links dir [] act h in let e : [] ≡ a.head ∷ a.more = a.is in absurd (cc))
fine_not_stuck_in links now dir (o ∷ os) left act fault h fine s =
    let e = same_cons o s.line (os ++ left) s.more s.spelled in
    fine_not_stuck links now dir s.line s.more act fault (record { own = os; left = left; parts = sym e.1; spells = subst (λ (z : List ℕ). SpellsAct links dir (z ∷ os) act) e.0 h }) fine s.stuck

passed_not_stuck_in : (links : Bool) (now : Rows) (dir lines : List (List ℕ)) (line : List ℕ) (more : List (List ℕ)) (fault : LoadRefusal) → lines ≡ line ∷ more → IsPassed line → StuckIn links now dir lines fault → ⊥
passed_not_stuck_in links now dir lines line more fault e p s =
    let same = same_cons line s.line more s.more (sym e ∙ s.spelled) in passed_not_stuck links now dir s.line s.more fault (subst IsPassed same.0 p) s.stuck

all_passed_not_stuck : (links : Bool) (now : Rows) (dir lines : List (List ℕ)) (fault : LoadRefusal) → ArePassed lines → StuckIn links now dir lines fault → ⊥
all_passed_not_stuck links now dir [] fault h s = (let e : [] ≡ s.line ∷ s.more = s.spelled in absurd (cc))
all_passed_not_stuck links now dir (l ∷ ls) fault h s = passed_not_stuck_in links now dir (l ∷ ls) l ls fault refl h.0 s

-- the forms of faults

bad_in : (links : Bool) (now : Rows) (dir opened rest : List (List ℕ)) → LeavesGrammar links dir opened rest → StuckIn links now dir (opened ++ rest) (BadLine (length opened))
bad_in links now dir opened rest h =
    elim h [
      | inl a ↦ record { line = a.0; more = a.1; spelled = ap (λ (l : List (List ℕ)). l ++ rest) a.2 ∙ a.3; stuck = inl (ap (length {A = List ℕ}) a.2, a.4) }
      | inr b ↦ elim b [
        | inl t ↦
            (let begun : IsBegunArray dir opened t.0 t.1 t.2 = t.3 in
            record {
              line = begun.head;
              more = begun.more ++ rest;
              spelled = ap (λ (l : List (List ℕ)). l ++ rest) begun.spelled;
              stuck = inr (inl (record {
                name = begun.name;
                type = t.0;
                n = t.2;
                xs = t.1;
                own = begun.more;
                rest = rest;
                parts = refl;
                head = begun.array;
                are = begun.items;
                few = t.4;
                limited = begun.many;
                small = t.5;
                next = t.6;
                place_is = omega (arith, ap (length {A = List ℕ}) begun.spelled);
              }));
            })
        | inr t ↦
            (let begun : IsBegunSkipped links dir opened t.0 = t.1 in
            record {
              line = begun.head;
              more = begun.more ++ rest;
              spelled = ap (λ (l : List (List ℕ)). l ++ rest) begun.spelled;
              stuck = inr (inr (record {
                n = t.0;
                tail = begun.rest;
                own = begun.more;
                rest = rest;
                parts = refl;
                head = begun.skipped;
                array = begun.array;
                are = begun.items;
                few = begun.few;
                limited = begun.many;
                next = t.2;
                place_is = omega (arith, ap (length {A = List ℕ}) begun.spelled);
              }));
            })
      ]
    ]

refused_in : (links : Bool) (now : Rows) (dir opened rest : List (List ℕ)) (why : OdbRefusal) → IsRefused links now dir opened why → StuckIn links now dir (opened ++ rest) (KeyRefused 0 why)
refused_in links now dir opened rest why h =
    elim h [
      | inl a ↦
          (let first = head_of links dir opened a.0 a.1 in
          record {
            line = first.head;
            more = first.more ++ rest;
            spelled = ap (λ (l : List (List ℕ)). l ++ rest) first.is;
            stuck = (refl, inl (a.0, record { own = first.more; left = rest; parts = refl; spells = subst (λ (l : List (List ℕ)). SpellsAct links dir l a.0) first.is a.1 }, a.2));
          })
      | inr b ↦ elim b [
        | inl t ↦
            (let m = t.0 in
            record {
              line = m.0;
              more = rest;
              spelled = ap (λ (l : List (List ℕ)). l ++ rest) m.2;
              stuck = (refl, inr (inl (record { n = m.1; great = m.3; head = m.4 }, t.1)));
            })
        | inr t ↦
            (let w = t.0 in
            let begun : IsBegunArray dir opened w.0 w.1 w.2 = w.3 in
            record {
              line = begun.head;
              more = begun.more ++ rest;
              spelled = ap (λ (l : List (List ℕ)). l ++ rest) begun.spelled;
              stuck = (
                refl,
                inr (inr (
                  record {
                    name = begun.name;
                    type = w.0;
                    n = w.2;
                    xs = w.1;
                    own = begun.more;
                    rest = rest;
                    parts = refl;
                    head = begun.array;
                    are = begun.items;
                    few = w.4;
                    limited = begun.many;
                    great = w.5;
                  },
                  t.1,
                )),
              );
            })
      ]
    ]

-- Behind lines that are passed over.

nothing_behind : (links : Bool) (now : Rows) (dir lines front tail : List (List ℕ)) (fault : LoadRefusal) → ArePassed lines → lines ≡ front ++ tail → StuckIn links now dir tail fault → ⊥
nothing_behind links now dir lines [] tail fault h e s = all_passed_not_stuck links now dir lines fault h (subst (λ (l : List (List ℕ)). StuckIn links now dir l fault) (sym e) s)
nothing_behind links now dir [] (f ∷ fs) tail fault h e s = absurd (cc)
nothing_behind links now dir (l ∷ ls) (f ∷ fs) tail fault h e s = nothing_behind links now dir ls fs tail fault h.1 (same_cons l f ls (fs ++ tail) e).1 s

step_behind : (links : Bool) (now : Rows) (dir front tail passed own left : List (List ℕ)) (act : Act) (fault : LoadRefusal) → ArePassed front → ArePassed passed → SpellsAct links dir own act → act_fault now act ≡ None
    → front ++ tail ≡ passed ++ (own ++ left) → StuckIn links now dir tail fault → ⊥
step_behind links now dir [] tail [] own left act fault p q h fine e s = fine_not_stuck_in links now dir own left act fault h fine (subst (λ (l : List (List ℕ)). StuckIn links now dir l fault) e s)
step_behind links now dir [] tail (y ∷ ys) own left act fault p q h fine e s = passed_not_stuck_in links now dir tail y (ys ++ (own ++ left)) fault e q.0 s
step_behind links now dir (x ∷ xs) tail [] own left act fault p q h fine e s = not_passed_head x own left (xs ++ tail) (head_of links dir own act h) (sym e) p.0
step_behind links now dir (x ∷ xs) tail (y ∷ ys) own left act fault p q h fine e s =
    step_behind links now dir xs tail ys own left act fault p.1 q.1 h fine (same_cons x y (xs ++ tail) (ys ++ (own ++ left)) e).1 s

record SameFault (front other : List (List ℕ)) (fault that : LoadRefusal) : Type 0 where
  far : length front ≡ length other
  same : fault ≡ that

passed_behind : (links : Bool) (now : Rows) (dir front tail other left : List (List ℕ)) (fault that : LoadRefusal) → ArePassed front → ArePassed other → front ++ tail ≡ other ++ left → StuckIn links now dir tail fault
    → StuckIn links now dir left that → SameFault front other fault that
passed_behind links now dir [] tail [] left fault that p q e s t =
    record { far = refl; same = stuck_in_once links now dir left fault that (subst (λ (l : List (List ℕ)). StuckIn links now dir l fault) e s) t }
passed_behind links now dir [] tail (y ∷ ys) left fault that p q e s t = absurd (passed_not_stuck_in links now dir tail y (ys ++ left) fault e q.0 s)
passed_behind links now dir (x ∷ xs) tail [] left fault that p q e s t = absurd (passed_not_stuck_in links now dir left x (xs ++ tail) that (sym e) p.0 t)
passed_behind links now dir (x ∷ xs) tail (y ∷ ys) left fault that p q e s t =
    let r = passed_behind links now dir xs tail ys left fault that p.1 q.1 (same_cons x y (xs ++ tail) (ys ++ left) e).1 s t in record { far = ap suc r.far; same = r.same }

-- Behind steps.

split_front : (front passed own rest tail : List (List ℕ)) → front ≡ passed ++ (own ++ rest) → front ++ tail ≡ passed ++ (own ++ (rest ++ tail))
split_front front passed own rest tail e =
    ap (λ (l : List (List ℕ)). l ++ tail) e ∙ append_assoc passed (own ++ rest) tail ∙ ap (λ (l : List (List ℕ)). passed ++ l) (append_assoc own rest tail)

runs_on : (line : ℕ) (o : Option OdbRefusal) (r : Result Rows (ℕ × OdbRefusal)) (now : Rows) → or_refused line o r ≡ Ok now → (o ≡ None) × (r ≡ Ok now)
runs_on line None r now e = (refl, e)
runs_on line (Some why) r now e = absurd (cc)

runs_nowhere : (s now : Rows) → run_steps [] s ≡ Ok now → now ≡ s
runs_nowhere s now e = (let k : ◌≡◌ {A = Result Rows (ℕ × OdbRefusal)} (Ok s) (Ok now) = e in cc)

no_fault_behind : (links : Bool) (n m : ℕ) (dir lines : List (List ℕ)) (steps : List TextStep) (s after : Rows) (front tail : List (List ℕ)) (done : List TextStep) (now : Rows) (fault : LoadRefusal)
    → SpellsSteps links n dir lines steps → run_steps steps s ≡ Ok after → lines ≡ front ++ tail → SpellsSteps links m dir front done → run_steps done s ≡ Ok now
    → StuckIn links now (dirs_after dir done) tail fault → ⊥
no_fault_behind links n m dir lines [] s after front tail [] now fault h ran e k on stuck = nothing_behind links now dir lines front tail fault h e stuck
no_fault_behind links n m dir lines [] s after front tail (d ∷ ds) now fault h ran e k on stuck =
    none_left links dir lines k.0 k.1 (k.2 ++ tail) d.act h (e ∙ split_front front k.0 k.1 k.2 tail k.3) k.6
no_fault_behind links n m dir lines (t ∷ ts) s after front tail [] now fault h ran e k on stuck =
    let a = runs_on t.line (act_fault s t.act) (run_steps ts (after_act s t.act)) after ran in
    step_behind links s dir front tail h.0 h.1 h.2 t.act fault k h.4 h.6 a.0 (sym e ∙ h.3) (subst (λ (r : Rows). StuckIn links r dir tail fault) (runs_nowhere s now on) stuck)
no_fault_behind links n m dir lines (t ∷ ts) s after front tail (d ∷ ds) now fault h ran e k on stuck =
    let f = first_once links dir h.0 k.0 h.1 k.1 h.2 (k.2 ++ tail) t.act d.act h.4 k.4 h.6 k.6 (sym h.3 ∙ e ∙ split_front front k.0 k.1 k.2 tail k.3) in
    let a = runs_on t.line (act_fault s t.act) (run_steps ts (after_act s t.act)) after ran in
    let b = runs_on d.line (act_fault s d.act) (run_steps ds (after_act s d.act)) now on in
    let reads : SpellsSteps links (m + length k.0 + length k.1) (dir_after dir t.act) k.2 ds =
    subst (λ (z : Act). SpellsSteps links (m + length k.0 + length k.1) (dir_after dir z) k.2 ds) (sym f.block.act_is) k.7 in
    let runs : run_steps ds (after_act s t.act) ≡ Ok now = subst (λ (z : Act). run_steps ds (after_act s z) ≡ Ok now) (sym f.block.act_is) b.1 in
    let there : StuckIn links now (dirs_after (dir_after dir t.act) ds) tail fault =
    subst (λ (z : Act). StuckIn links now (dirs_after (dir_after dir z) ds) tail fault) (sym f.block.act_is) stuck in
    no_fault_behind links (n + length h.0 + length h.1) (m + length k.0 + length k.1) (dir_after dir t.act) h.2 ts (after_act s t.act) after k.2 tail ds now fault
    h.7 a.1 f.block.rest_is reads runs there

one_fault_behind : (links : Bool) (n m : ℕ) (dir : List (List ℕ)) (s : Rows) (front tail : List (List ℕ)) (steps : List TextStep) (now : Rows) (fault : LoadRefusal)
    (other left : List (List ℕ)) (done : List TextStep) (later : Rows) (that : LoadRefusal) → front ++ tail ≡ other ++ left
    → SpellsSteps links n dir front steps → run_steps steps s ≡ Ok now → StuckIn links now (dirs_after dir steps) tail fault
    → SpellsSteps links m dir other done → run_steps done s ≡ Ok later → StuckIn links later (dirs_after dir done) left that → SameFault front other fault that
one_fault_behind links n m dir s front tail [] now fault other left [] later that e h ran a k on b =
    passed_behind links s dir front tail other left fault that h k e (subst (λ (r : Rows). StuckIn links r dir tail fault) (runs_nowhere s now ran) a)
    (subst (λ (r : Rows). StuckIn links r dir left that) (runs_nowhere s later on) b)
one_fault_behind links n m dir s front tail [] now fault other left (d ∷ ds) later that e h ran a k on b =
    let r = runs_on d.line (act_fault s d.act) (run_steps ds (after_act s d.act)) later on in
    absurd (step_behind links s dir front tail k.0 k.1 (k.2 ++ left) d.act fault h k.4 k.6 r.0 (e ∙ split_front other k.0 k.1 k.2 left k.3)
    (subst (λ (z : Rows). StuckIn links z dir tail fault) (runs_nowhere s now ran) a))
one_fault_behind links n m dir s front tail (t ∷ ts) now fault other left [] later that e h ran a k on b =
    let r = runs_on t.line (act_fault s t.act) (run_steps ts (after_act s t.act)) now ran in
    absurd (step_behind links s dir other left h.0 h.1 (h.2 ++ tail) t.act that k h.4 h.6 r.0 (sym e ∙ split_front front h.0 h.1 h.2 tail h.3)
    (subst (λ (z : Rows). StuckIn links z dir left that) (runs_nowhere s later on) b))
one_fault_behind links n m dir s front tail (t ∷ ts) now fault other left (d ∷ ds) later that e h ran a k on b =
    let f = first_once links dir h.0 k.0 h.1 k.1 (h.2 ++ tail) (k.2 ++ left) t.act d.act h.4 k.4 h.6 k.6 (sym (split_front front h.0 h.1 h.2 tail h.3) ∙ e ∙ split_front other k.0 k.1 k.2 left k.3) in
    let p = runs_on t.line (act_fault s t.act) (run_steps ts (after_act s t.act)) now ran in
    let q = runs_on d.line (act_fault s d.act) (run_steps ds (after_act s d.act)) later on in
    let reads : SpellsSteps links (m + length k.0 + length k.1) (dir_after dir t.act) k.2 ds =
    subst (λ (z : Act). SpellsSteps links (m + length k.0 + length k.1) (dir_after dir z) k.2 ds) (sym f.block.act_is) k.7 in
    let runs : run_steps ds (after_act s t.act) ≡ Ok later = subst (λ (z : Act). run_steps ds (after_act s z) ≡ Ok later) (sym f.block.act_is) q.1 in
    let there : StuckIn links later (dirs_after (dir_after dir t.act) ds) left that =
    subst (λ (z : Act). StuckIn links later (dirs_after (dir_after dir z) ds) left that) (sym f.block.act_is) b in
    let rest = one_fault_behind links (n + length h.0 + length h.1) (m + length k.0 + length k.1) (dir_after dir t.act) (after_act s t.act) h.2 tail ts now fault k.2 left ds later that
    f.block.rest_is h.7 p.1 a reads runs there in
    let passed : length h.0 ≡ length k.0 = ap (length {A = List ℕ}) f.passed_are in
    let own : length h.1 ≡ length k.1 = ap (length {A = List ℕ}) f.block.own_is in
    let first : length front ≡ length h.0 + (length h.1 + length h.2) = omega (arith, ap (length {A = List ℕ}) h.3, length-append h.0 (h.1 ++ h.2), length-append h.1 h.2) in
    let second : length other ≡ length k.0 + (length k.1 + length k.2) = omega (arith, ap (length {A = List ℕ}) k.3, length-append k.0 (k.1 ++ k.2), length-append k.1 k.2) in
    record { far = omega (arith, first, second, passed, own, rest.far); same = rest.same }

-- The laws.

-- the refusal of a fault that begins behind so many lines
abbrev shifted : ℕ → LoadRefusal → LoadRefusal
shifted far (BadLine n) = BadLine (far + n + 1)
shifted far (KeyRefused n why) = KeyRefused (far + n + 1) why
shifted far NoMemory = NoMemory

record HasFault (s : Rows) (lines : List (List ℕ)) (why : LoadRefusal) : Type 0 where
  place : FaultPlace s lines
  fault : LoadRefusal
  why_is : why ≡ shifted (length place.front) fault
  stuck : StuckIn s.links place.now (dirs_after [] place.steps) (place.opened ++ place.rest) fault

has_fault : (s : Rows) (lines : List (List ℕ)) (why : LoadRefusal) → why ≢ NoMemory → IsTextFault s lines why → HasFault s lines why
has_fault s lines (BadLine n) some h = record {
  place = h.0;
  fault = BadLine (length h.0.opened);
  why_is = ap (λ (z : ℕ). BadLine z) h.1;
  stuck = bad_in s.links h.0.now (dirs_after [] h.0.steps) h.0.opened h.0.rest h.2;
}
has_fault s lines (KeyRefused n why) some h = record {
  place = h.0;
  fault = KeyRefused 0 why;
  why_is = ap (λ (z : ℕ). KeyRefused z why) (let e : n ≡ length h.0.front + 0 + 1 = omega (arith, h.1) in e);
  stuck = refused_in s.links h.0.now (dirs_after [] h.0.steps) h.0.opened h.0.rest why h.2;
}
has_fault s lines NoMemory some h = absurd (some refl)

pub fault_not_loaded : (s after : Rows) (lines : List (List ℕ)) (steps : List TextStep) (why : LoadRefusal) → SpellsSteps s.links 1 [] lines steps → run_steps steps s ≡ Ok after → why ≢ NoMemory
    → IsTextFault s lines why → ⊥
fault_not_loaded s after lines steps why reads ran some h =
    let f = has_fault s lines why some h in
    no_fault_behind s.links 1 1 [] lines steps s after f.place.front (f.place.opened ++ f.place.rest) f.place.steps f.place.now f.fault reads ran f.place.whole f.place.reads f.place.ran f.stuck

pub one_fault : (s : Rows) (lines : List (List ℕ)) (why other : LoadRefusal) → why ≢ NoMemory → other ≢ NoMemory → IsTextFault s lines why → IsTextFault s lines other → why ≡ other
one_fault s lines why other some more h k =
    let f = has_fault s lines why some h in
    let g = has_fault s lines other more k in
    let r = one_fault_behind s.links 1 1 [] s f.place.front (f.place.opened ++ f.place.rest) f.place.steps f.place.now f.fault g.place.front (g.place.opened ++ g.place.rest) g.place.steps g.place.now g.fault
    (sym f.place.whole ∙ g.place.whole) f.place.reads f.place.ran f.stuck g.place.reads g.place.ran g.stuck in
    f.why_is ∙ ap (λ (z : ℕ). shifted z f.fault) r.far ∙ ap (λ (z : LoadRefusal). shifted (length g.place.front) z) r.same ∙ sym g.why_is
