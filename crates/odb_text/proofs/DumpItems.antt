-- Items of an array, read one after the other.
use Rattle.std.proofs.Common.{◌≡◌, ℕ, suc, ◌+◌, ◌<◌, ◌≤◌, max, Bool, true, false, cond, List, [], ◌∷◌, ◌++◌, length, Option, Some, None, Result, Ok, Err, refl, sym, ap, ◌∙◌, subst, arith, append_assoc}
use Rattle.std.specs.Prelude.{IfSome, IfNone, All, ◌^◌, ◌-◌, nat_lt, nat_le, not, position}
use Rattle.std.specs.List.{AllByRecursion}
use Rattle.std.proofs.lemmas.Bool.Decides.{nat_tests}
use Rattle.odb_value.specs.ItemBytes.{is_text_byte}
use Rattle.odb_value.specs.declared.refusals.ItemRefusal.TheVariants.{OutOfRange}
use Rattle.std.proofs.lemmas.List.{map_push, length_push}
use Rattle.std.proofs.lemmas.List.Elements.{All-push, All-nil}
use Rattle.daq_types.specs.declared.types.Tid.{Tid}
use Rattle.daq_types.specs.declared.types.Tid.TheVariants as tid
use Rattle.odb_value.specs.declared.items.Item.{Item}
use Rattle.odb_value.specs.declared.items.Item.TheVariants.{UInt8, Int8, Char, UInt16, Int16, UInt32, Int32, Bool as Truth, Text, Int64, UInt64}
use Rattle.odb_value.specs.declared.refusals.ItemRefusal.{ItemRefusal}
use Rattle.odb_value.specs.Items.{tid_of, IsItem}
use Rattle.odb_value.specs.ItemTexts.{item_read, text_read, text_found, text_limit, unsigned_read, signed_read, truth_read, char_read}
use Rattle.odb_value.specs.Values.{IsShorter, size_limit}
use Rattle.odb_value.specs.ValueChanges.{size_with_item}
use Rattle.daq_text.specs.Numbers.{mapped, up_to}
use Rattle.odb_text.specs.ItemLines.{IsItemLine}
use Rattle.odb_text.specs.Grammar.{SizedItem, AreItemLines, size_given, BeginsBracketed}
use Rattle.odb_text.specs.TextFaults.{NextIsNot}
use Rattle.odb_text.specs.Blocks.{AreRead, ReadsItem, AreSkipped, SkipsLine}

-- the type of an item that was read

of_mapped : {A : Type 0} (P : Item → Type 0) (f : A → Item) (r : Result A ItemRefusal) (item : Item) → ((a : A) → P (f a)) → mapped f r ≡ Ok item → P item
of_mapped {A} P f (Ok a) item h e = subst P (let k : f a ≡ item = cc in k) (h a)
of_mapped P f (Err why) item h e = absurd (cc)

pub read_tid : (type : Tid) (text : List ℕ) (item : Item) → item_read type text ≡ Ok item → tid_of item ≡ type
read_tid tid.UInt8 text item e = of_mapped (λ (i : Item). tid_of i ≡ tid.UInt8) UInt8 (unsigned_read (2 ^ 8 - 1) text) item (λ a. refl) e
read_tid tid.Int8 text item e = of_mapped (λ (i : Item). tid_of i ≡ tid.Int8) Int8 (signed_read (2 ^ 7 - 1) text) item (λ a. refl) e
read_tid tid.Char text item e = of_mapped (λ (i : Item). tid_of i ≡ tid.Char) Char (char_read text) item (λ a. refl) e
read_tid tid.UInt16 text item e = of_mapped (λ (i : Item). tid_of i ≡ tid.UInt16) UInt16 (unsigned_read (2 ^ 16 - 1) text) item (λ a. refl) e
read_tid tid.Int16 text item e = of_mapped (λ (i : Item). tid_of i ≡ tid.Int16) Int16 (signed_read (2 ^ 15 - 1) text) item (λ a. refl) e
read_tid tid.UInt32 text item e = of_mapped (λ (i : Item). tid_of i ≡ tid.UInt32) UInt32 (unsigned_read (2 ^ 32 - 1) text) item (λ a. refl) e
read_tid tid.Int32 text item e = of_mapped (λ (i : Item). tid_of i ≡ tid.Int32) Int32 (signed_read (2 ^ 31 - 1) text) item (λ a. refl) e
read_tid tid.Bool text item e = of_mapped (λ (i : Item). tid_of i ≡ tid.Bool) Truth (truth_read text) item (λ a. refl) e
read_tid tid.Float text item e = absurd (cc)
read_tid tid.Double text item e = absurd (cc)
read_tid tid.BitField text item e = absurd (cc)
read_tid tid.Text text item e = of_mapped (λ (i : Item). tid_of i ≡ tid.Text) Text (text_read text) item (λ a. refl) e
read_tid tid.Array text item e = absurd (cc)
read_tid tid.Struct text item e = absurd (cc)
read_tid tid.Key text item e = absurd (cc)
read_tid tid.Link text item e = absurd (cc)
read_tid tid.Int64 text item e = of_mapped (λ (i : Item). tid_of i ≡ tid.Int64) Int64 (signed_read (2 ^ 63 - 1) text) item (λ a. refl) e
read_tid tid.UInt64 text item e = of_mapped (λ (i : Item). tid_of i ≡ tid.UInt64) UInt64 (unsigned_read (2 ^ 64 - 1) text) item (λ a. refl) e

-- a text that was read is not too long

found_short : (text bytes : List ℕ) (at : Option ℕ) → text_found text at ≡ Ok bytes → length bytes < size_limit
found_short text bytes (Some at) e = absurd (cc)
found_short text bytes None e = cases (nat_lt text_limit (length text)) refl e
  where
    cases : (t : Bool) → nat_lt text_limit (length text) ≡ t → cond t (Err OutOfRange) (Ok text) ≡ Ok bytes → length bytes < size_limit
    cases true is k = absurd (cc)
    cases false is k = (let same : text ≡ bytes = cc in subst (λ (l : List ℕ). length l < size_limit) same (grind (arith, nat_tests, is)))

mapped_short : (text : List ℕ) (r : Result (List ℕ) ItemRefusal) (item : Item) → ((bytes : List ℕ) → r ≡ Ok bytes → length bytes < size_limit) → mapped Text r ≡ Ok item → IsShorter size_limit item
mapped_short text (Ok bytes) item h e = subst (IsShorter size_limit) (let k : Text bytes ≡ item = cc in k) (h bytes refl)
mapped_short text (Err why) item h e = absurd (cc)

pub read_short : (type : Tid) (text : List ℕ) (item : Item) → item_read type text ≡ Ok item → IsShorter size_limit item
read_short tid.UInt8 text item e = of_mapped (IsShorter size_limit) UInt8 (unsigned_read (2 ^ 8 - 1) text) item (λ a. tt) e
read_short tid.Int8 text item e = of_mapped (IsShorter size_limit) Int8 (signed_read (2 ^ 7 - 1) text) item (λ a. tt) e
read_short tid.Char text item e = of_mapped (IsShorter size_limit) Char (char_read text) item (λ a. tt) e
read_short tid.UInt16 text item e = of_mapped (IsShorter size_limit) UInt16 (unsigned_read (2 ^ 16 - 1) text) item (λ a. tt) e
read_short tid.Int16 text item e = of_mapped (IsShorter size_limit) Int16 (signed_read (2 ^ 15 - 1) text) item (λ a. tt) e
read_short tid.UInt32 text item e = of_mapped (IsShorter size_limit) UInt32 (unsigned_read (2 ^ 32 - 1) text) item (λ a. tt) e
read_short tid.Int32 text item e = of_mapped (IsShorter size_limit) Int32 (signed_read (2 ^ 31 - 1) text) item (λ a. tt) e
read_short tid.Bool text item e = of_mapped (IsShorter size_limit) Truth (truth_read text) item (λ a. tt) e
read_short tid.Float text item e = absurd (cc)
read_short tid.Double text item e = absurd (cc)
read_short tid.BitField text item e = absurd (cc)
read_short tid.Text text item e = mapped_short text (text_read text) item (λ (bytes : List ℕ) k. found_short text bytes (position (λ b. not (is_text_byte b)) text) k) e
read_short tid.Array text item e = absurd (cc)
read_short tid.Struct text item e = absurd (cc)
read_short tid.Key text item e = absurd (cc)
read_short tid.Link text item e = absurd (cc)
read_short tid.Int64 text item e = of_mapped (IsShorter size_limit) Int64 (signed_read (2 ^ 63 - 1) text) item (λ a. tt) e
read_short tid.UInt64 text item e = of_mapped (IsShorter size_limit) UInt64 (unsigned_read (2 ^ 64 - 1) text) item (λ a. tt) e

-- one item more

pub size_push : (xs : List SizedItem) (x : SizedItem) → size_given (xs ++ x ∷ []) ≡ max (size_given xs) (size_with_item x.size x.item)
size_push [] x = omega arith
size_push (y ∷ ys) x = ap (λ (n : ℕ). max (size_with_item y.size y.item) n) (size_push ys x) ∙ omega arith

pub lines_push : (type : Tid) (index : ℕ) (own : List (List ℕ)) (xs : List SizedItem) (line : List ℕ) (x : SizedItem) → AreItemLines type index own xs
    → IsItemLine type (index + length xs) line x.size x.item → AreItemLines type index (own ++ line ∷ []) (xs ++ x ∷ [])
lines_push type index [] [] line x h k = (subst (λ (n : ℕ). IsItemLine type n line x.size x.item) (let e : index + 0 ≡ index = omega arith in e) k, tt)
lines_push type index [] (y ∷ ys) line x h k = absurd h
lines_push type index (l ∷ ls) [] line x h k = absurd h
lines_push type index (l ∷ ls) (y ∷ ys) line x h k =
    (h.0, lines_push type (index + 1) ls ys line x h.1 (subst (λ (n : ℕ). IsItemLine type n line x.size x.item) (let e : index + suc (length ys) ≡ index + 1 + length ys = omega arith in e) k))

pub raised_within : (given : ℕ) (item : Item) → given ≤ size_limit → IsShorter size_limit item → size_with_item given item ≤ size_limit
raised_within given (UInt8 n) h k = h
raised_within given (Int8 z) h k = h
raised_within given (Char b) h k = h
raised_within given (UInt16 n) h k = h
raised_within given (Int16 z) h k = h
raised_within given (UInt32 n) h k = h
raised_within given (Int32 z) h k = h
raised_within given (Truth t) h k = h
raised_within given (Text bytes) h k = omega (arith, h, k)
raised_within given (Int64 z) h k = h
raised_within given (UInt64 n) h k = h

pub none_read : (type : Tid) (lines : List (List ℕ)) → AreRead type lines 0 [] 0 lines
none_read type lines = record {
  own = [];
  xs = [];
  whole = refl;
  spell = tt;
  many = refl;
  as_many = refl;
  items_are = refl;
  size_is = refl;
  within = omega arith;
  sound = All-nil (IsItem type);
}

pub more_read : (type : Tid) (lines : List (List ℕ)) (count : ℕ) (items : List Item) (size : ℕ) (rest : List (List ℕ)) (more : List Item) (greater : ℕ) (left : List (List ℕ))
    → AreRead type lines count items size rest → ReadsItem type count rest items size left more greater → AreRead type lines (count + 1) more greater left
more_read type lines count items size rest more greater left a r =
    let x : SizedItem = record { size = r.given; item = r.item } in
    record {
      own = a.own ++ r.line ∷ [];
      xs = a.xs ++ x ∷ [];
      whole = a.whole ∙ ap (λ (l : List (List ℕ)). a.own ++ l) r.first ∙ sym (append_assoc a.own (r.line ∷ []) left);
      spell = lines_push type 0 a.own a.xs r.line x a.spell (subst (λ (n : ℕ). IsItemLine type n r.line r.given r.item) (let e : count ≡ 0 + length a.xs = omega (arith, a.as_many) in e) r.spells);
      many = omega (arith, length_push a.own r.line, a.many);
      as_many = omega (arith, length_push a.xs x, a.as_many);
      items_are = r.one_more ∙ ap (λ (l : List Item). l ++ r.item ∷ []) a.items_are ∙ sym (map_push (λ (y : SizedItem). y.item) a.xs x);
      size_is = r.raises ∙ ap (λ (n : ℕ). max n (size_with_item r.given r.item)) a.size_is ∙ sym (size_push a.xs x);
      within = omega (arith, r.raises, a.within, raised_within r.given r.item r.within r.short);
      sound = subst (All (IsItem type)) (sym r.one_more) (All-push (IsItem type) items r.item a.sound r.sound);
    }

-- the limit of sizes

pub given_some : (n width : ℕ) → Some width ≡ up_to size_limit n → (width ≡ n) × (n ≤ size_limit)
given_some n width e = cases (nat_le n size_limit) refl e
  where
    cases : (t : Bool) → nat_le n size_limit ≡ t → Some width ≡ cond t (Some n) None → (width ≡ n) × (n ≤ size_limit)
    cases true is k = (cc, grind (arith, nat_tests, is))
    cases false is k = absurd (cc)

pub given_none : (n : ℕ) → None ≡ up_to size_limit n → size_limit < n
given_none n e = cases (nat_le n size_limit) refl e
  where
    cases : (t : Bool) → nat_le n size_limit ≡ t → None ≡ cond t (Some n) None → size_limit < n
    cases true is k = absurd (cc)
    cases false is k = grind (arith, nat_tests, is)

pub next_is_not : (form : List ℕ → Type 0) (ls : List (List ℕ)) (line : List ℕ) (more : List (List ℕ)) → ls ≡ line ∷ more → (form line → ⊥) → NextIsNot form ls
next_is_not form ls line more e h = subst (NextIsNot form) (sym e) h

-- one line of an array that is skipped

skips_push : (own : List (List ℕ)) (line : List ℕ) → AllByRecursion BeginsBracketed own → BeginsBracketed line → AllByRecursion BeginsBracketed (own ++ line ∷ [])
skips_push [] line h k = (k, tt)
skips_push (l ∷ ls) line h k = (h.0, skips_push ls line h.1 k)

pub more_skipped : (ls : List (List ℕ)) (count : ℕ) (rest left : List (List ℕ)) → AreSkipped ls count rest → SkipsLine rest left → AreSkipped ls (count + 1) left
more_skipped ls count rest left a s = record {
  own = a.own ++ s.line ∷ [];
  whole = a.whole ∙ ap (λ (l : List (List ℕ)). a.own ++ l) s.first ∙ sym (append_assoc a.own (s.line ∷ []) left);
  spell = skips_push a.own s.line a.spell s.begins;
  many = omega (arith, length_push a.own s.line, a.many);
}

-- an option that is known

pub at_some : {X : Type 0} (P : X → Type 0) (o : Option X) (x : X) → o ≡ Some x → IfSome o P → P x
at_some P None x e h = absurd (cc)
at_some P (Some y) x e h = subst P (let k : y ≡ x = cc in k) h

pub at_none : {X P : Type 0} (o : Option X) → o ≡ None → IfNone o P → P
at_none None e h = h
at_none (Some y) e h = absurd (cc)
