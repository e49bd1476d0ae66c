-- Lines of keys have one reading.
use Rattle.std.proofs.Common.{◌≡◌, ℕ, zero, suc, ◌<◌, ◌≤◌, Bool, true, false, cond, List, [], ◌∷◌, ◌++◌, length, take, drop, get_or, Option, Some, None, Result, Ok, Err, IsOk, IfOk, IfNone, refl, sym, ap, ◌∙◌, subst, arith}
use Rattle.std.specs.List.{AllByRecursion}
use Rattle.std.specs.Str.Parse.{digits_value}
use Rattle.daq_types.specs.declared.types.Tid.{Tid}
use Rattle.daq_types.specs.Names.{IsName}
use Rattle.daq_types.specs.Tids.{IsNamed}
use Rattle.daq_text.specs.Numbers.{front, behind, is_blank}
use Rattle.odb_text.specs.LineForms.{AreBlanks, HasNo, behind_blank, IsBracketed, without_blanks, is_of_word, IsKeyLine, IsSingle, IsArray}
use Rattle.odb_value.specs.declared.items.Item.{Item}
use Rattle.odb_value.specs.ItemTexts.{item_read}
use Rattle.odb_value.specs.declared.refusals.ItemRefusal.{ItemRefusal}
use Rattle.odb_text.specs.ItemLines.{is_string, IsFrontNumber, IsItemLine, IsAloneText}
use Rattle.odb_text.specs.TextFaults.{IsSomeItemLine}
use Rattle.odb_text.specs.Blocks.{IsSomeAlone}
use Rattle.odb_text.proofs.Splitting.{parted, not_parted, digits_no, bracketed_once}

-- the first word

pub front_all : (xs : List ℕ) → AllByRecursion (λ b. is_of_word b ≡ true) xs → front is_of_word xs ≡ xs
front_all [] h = refl
front_all (x ∷ xs) h = ap (λ (t : Bool). cond t (x ∷ front is_of_word xs) []) h.0 ∙ ap (λ (l : List ℕ). x ∷ l) (front_all xs h.1)

pub behind_all : (xs : List ℕ) → AllByRecursion (λ b. is_of_word b ≡ true) xs → behind is_of_word xs ≡ []
behind_all [] h = refl
behind_all (x ∷ xs) h = ap (λ (t : Bool). cond t (behind is_of_word xs) (x ∷ xs)) h.0 ∙ behind_all xs h.1

pub front_at : (xs : List ℕ) (i d : ℕ) → i < length xs → AllByRecursion (λ b. is_of_word b ≡ true) (take i xs) → is_of_word (get_or xs i d) ≡ false → front is_of_word xs ≡ take i xs
front_at [] i d h k e = absurd (omega (arith, h))
front_at (x ∷ xs) zero d h k e = ap (λ (t : Bool). cond t (x ∷ front is_of_word xs) []) e
front_at (x ∷ xs) (suc i) d h k e =
    ap (λ (t : Bool). cond t (x ∷ front is_of_word xs) []) k.0 ∙ ap (λ (l : List ℕ). x ∷ l) (front_at xs i d (omega (arith, h)) k.1 e)

pub behind_at : (xs : List ℕ) (i d : ℕ) → i < length xs → AllByRecursion (λ b. is_of_word b ≡ true) (take i xs) → is_of_word (get_or xs i d) ≡ false → behind is_of_word xs ≡ drop i xs
behind_at [] i d h k e = absurd (omega (arith, h))
behind_at (x ∷ xs) zero d h k e = ap (λ (t : Bool). cond t (behind is_of_word xs) (x ∷ xs)) e
behind_at (x ∷ xs) (suc i) d h k e =
    ap (λ (t : Bool). cond t (behind is_of_word xs) (x ∷ xs)) k.0 ∙ behind_at xs i d (omega (arith, h)) k.1 e

-- what is no line of a key

pub no_sign : (line name : List ℕ) (type : Tid) (rest : List ℕ) → HasNo 61 line → IsKeyLine line name type rest → ⊥
no_sign line name type rest h k = not_parted 61 line k.before k.after h k.spelled

pub no_key : (line before after : List ℕ) → line ≡ before ++ 61 ∷ after → HasNo 61 before
    → ((type : Tid) → IsName (without_blanks before) → IsNamed (front is_of_word (behind is_blank after)) type → ⊥)
    → (name : List ℕ) (type : Tid) (rest : List ℕ) → IsKeyLine line name type rest → ⊥
no_key line before after e h never name type rest k =
    let same = parted 61 k.before before k.after after k.first h (sym k.spelled ∙ e) in
    never type (subst IsName (k.trimmed ∙ ap without_blanks same.0) k.is_name)
    (subst (λ (l : List ℕ). IsNamed (front is_of_word (behind is_blank l)) type) same.1 k.named)

-- what is no array

pub no_array : (rest digits more : List ℕ) → IsBracketed (behind is_blank rest) digits more
    → ((blanks : List ℕ) → IsSingle more blanks → AreBlanks blanks → 1 ≤ digits_value 10 digits → ⊥) → (n : ℕ) → IsArray rest n → ⊥
no_array rest digits more b never n a =
    let same = bracketed_once (behind is_blank rest) digits more a.digits a.more b.spelled (digits_no digits b.numeral.1) a.bracketed in
    never a.blanks (subst (λ (l : List ℕ). IsSingle l a.blanks) (sym same.1) a.colon) a.blank
    (let e : digits_value 10 digits ≡ digits_value 10 a.digits = ap (digits_value 10) same.0 in omega (arith, e, a.count, a.some))

pub single_once : (rest text other : List ℕ) → IsSingle rest text → IsSingle rest other → text ≡ other
single_once rest text other h k = let e : 58 ∷ text ≡ 58 ∷ other = sym h ∙ k in cc

-- what is no line of an item

pub no_item : (type : Tid) (index : ℕ) (line digits rest : List ℕ) → IsBracketed line digits rest
    → ((size : ℕ) (item : Item) → IsFrontNumber (is_string type) index digits size → item_read type (behind_blank rest) ≡ Ok item → ⊥)
    → (size : ℕ) (item : Item) → IsItemLine type index line size item → ⊥
no_item type index line digits rest b never size item k =
    let same = bracketed_once line digits rest k.digits k.rest b.spelled (digits_no digits b.numeral.1) k.bracketed in
    never size item (subst (λ (d : List ℕ). IsFrontNumber (is_string type) index d size) (sym same.0) k.number)
    (ap (λ (r : List ℕ). item_read type (behind_blank r)) same.1 ∙ k.spells)

pub if_ok_none : {X P Q E : Type 0} (r : Result (Option X) E) → (P → Q) → IfOk r (λ found. IfNone found P) → IfOk r (λ found. IfNone found Q)
if_ok_none (Ok None) f h = f h
if_ok_none (Ok (Some x)) f h = h
if_ok_none (Err e) f h = h

-- Where a text spells an item, its line is that of one.

pub read_ok : (r : Result Item ItemRefusal) → IsOk r → (item : Item) × (r ≡ Ok item)
read_ok (Ok item) h = (item, refl)
read_ok (Err why) h = absurd (cc)

pub some_item : (type : Tid) (index : ℕ) (line digits rest : List ℕ) (size : ℕ) → IsBracketed line digits rest → IsFrontNumber (is_string type) index digits size → IsOk (item_read type (behind_blank rest))
    → IsSomeItemLine type index line
some_item type index line digits rest size b n ok =
    let found = read_ok (item_read type (behind_blank rest)) ok in
    (size, found.0, record { digits = digits; rest = rest; bracketed = b; number = n; spells = found.1 })

-- and so is the one item of a key
pub alone_string : (type : Tid) (text : List ℕ) → is_string type ≡ true → IsSomeItemLine type 0 (behind_blank text) → IsSomeAlone type text
alone_string type text string h = (h.0, h.1, subst (λ (b : Bool). IsAloneText b type (behind_blank text) h.0 h.1) (sym string) h.2)

pub alone_number : (type : Tid) (text : List ℕ) → is_string type ≡ false → IsOk (item_read type (behind_blank text)) → IsSomeAlone type text
alone_number type text number ok =
    let found = read_ok (item_read type (behind_blank text)) ok in
    (0, found.0, subst (λ (b : Bool). IsAloneText b type (behind_blank text) 0 found.0) (sym number) (found.1, refl))
