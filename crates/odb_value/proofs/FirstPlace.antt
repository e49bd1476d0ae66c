-- The place of a text that is in no form of its type is the first where the form cannot go on.
use Rattle.std.proofs.Common.{◌≡◌, ◌≢◌, ℕ, ◌+◌, ◌-◌, ◌^◌, ◌<◌, Bool, true, false, List, [], ◌∷◌, ◌++◌, length, take, get_or, refl, sym, ap, subst, ◌∙◌, arith, lt-ltb, le-ltb, append_assoc, length-append, length-take}
use Rattle.std.specs.Prelude.{◌||◌, ◌==◌, not, nat_eq, nat_lt, nat_le, if◌then◌else◌, Option, Some, None, Result, Ok, Err, is_ok, position, ℤ}
use Rattle.std.specs.List.{position_or_len}
use Rattle.std.proofs.lemmas.Bool.{eqb-true}
use Rattle.std.proofs.lemmas.List.{get_or-take, get_or_append_left, append-nil}
use Rattle.std.proofs.lemmas.List.Sums.{position_or_len_is}
use Rattle.std.proofs.lemmas.List.Quantifiers.{position-Some}
use Rattle.std.proofs.Math.Seq.{take-append_seam, take-append-add}
use Rattle.daq_types.specs.declared.types.Tid.{Tid}
use Rattle.daq_types.specs.declared.types.Tid.TheVariants as tid
use Rattle.odb_value.specs.declared.items.Item.{Item}
use Rattle.odb_value.specs.declared.items.Item.TheVariants.{UInt8, Int8, Char, UInt16, Int16, UInt32, Int32, Bool as Truth, Text, Int64, UInt64}
use Rattle.odb_value.specs.declared.refusals.ItemRefusal.{ItemRefusal}
use Rattle.odb_value.specs.declared.refusals.ItemRefusal.TheVariants.{BadText, OutOfRange}
use Rattle.odb_value.specs.ItemBytes.{is_printable, is_text_byte}
use Rattle.daq_text.specs.Numbers.{behind, is_blank, unsigned_form, mapped}
use Rattle.odb_value.specs.Forms.{signed_form, truth_form}
use Rattle.odb_value.specs.ItemTexts.{item_read, number_up_to, unsigned_read, is_within, number_within, signed_read, truth_found, char_read, text_limit, text_found}
use Rattle.odb_value.specs.Places.{IsInForm, IsFirstPlace}
use Rattle.odb_value.proofs.Stops.{Stops, stops_here, stops_cons, unsigned_fits, signed_fits, truth_fits, unsigned_stops, signed_stops, truth_stops, spaced_stops, not_digit, not_digit_fits, plain_sign}

-- From what stops to the first place.

past_place : (fits : List ℕ → Bool) (good bad text more : List ℕ) → good ++ bad ≡ text → length good < length text
    → ((c : ℕ) (rest next : List ℕ) → bad ≡ c ∷ rest → fits (good ++ c ∷ next) ≡ false) → fits (take (length good + 1) text ++ more) ≡ false
past_place fits good [] text more split within stops = absurd (omega (arith, within, length-append good [], ap (length {A = ℕ}) split))
past_place fits good (c ∷ rest) text more split within stops =
    let front : take (length good + 1) text ≡ good ++ c ∷ [] = ap (take (length good + 1)) (sym split) ∙ take-append-add good (c ∷ rest) 1 in
    ap (λ (l : List ℕ). fits (l ++ more)) front ∙ ap fits (append_assoc good (c ∷ []) more) ∙ stops c rest more refl

first_place_of : (type : Tid) (fits : List ℕ → Bool) → ((x : List ℕ) → fits x ≡ true → IsInForm type x) → ((x : List ℕ) → fits x ≡ false → IsInForm type x → ⊥)
    → (text : List ℕ) (left place : ℕ) → length text - left ≡ place → Stops fits text left → IsFirstPlace type text place
first_place_of type fits good other text left place e s =
    let at : length s.good ≡ place = omega (arith, e, s.size, length-append s.good s.bad, ap (length {A = ℕ}) s.split) in
    let front : take (length s.good) text ≡ s.good = ap (take (length s.good)) (sym s.split) ∙ take-append_seam s.good s.bad in
    subst (λ (n : ℕ). IsFirstPlace type text n) at (record {
      inside = omega (arith, length-append s.good s.bad, ap (length {A = ℕ}) s.split);
      goes_on = (s.more, subst (λ (l : List ℕ). IsInForm type (l ++ s.more)) (sym front) (good (s.good ++ s.more) s.goes_on));
      stops = λ within more form. other (take (length s.good + 1) text ++ more) (past_place fits s.good s.bad text more s.split within s.stops) form;
    })

-- What is read of a form.

-- a form, found in a text, refuses with a place exactly where it cannot go on
record Refuses {A : Type 0} (read : Result A ℕ → Result Item ItemRefusal) (text : List ℕ) : Type 0 where
  ok : (value : A) (place : ℕ) → read (Ok value) ≢ Err (BadText place)
  err : (left : ℕ) → read (Err left) ≡ Err (BadText (length text - left))

refuses_yes : {A : Type 0} (read : Result A ℕ → Result Item ItemRefusal) (text : List ℕ) → Refuses read text → (r : Result A ℕ) → is_ok r ≡ true → (place : ℕ) → read r ≢ Err (BadText place)
refuses_yes read text h (Ok value) t place = h.ok value place
refuses_yes read text h (Err left) t place = absurd (cc)

refuses_no : {A : Type 0} (read : Result A ℕ → Result Item ItemRefusal) (text : List ℕ) → Refuses read text → (r : Result A ℕ) → is_ok r ≡ false → ((place : ℕ) → read r ≢ Err (BadText place)) → ⊥
refuses_no read text h (Ok value) t form = absurd (cc)
refuses_no read text h (Err left) t form = form (length text - left) (h.err left)

record Left {A : Type 0} (r : Result A ℕ) (text : List ℕ) (place : ℕ) : Type 0 where
  left : ℕ
  is : r ≡ Err left
  at : length text - left ≡ place

refuses_left : {A : Type 0} (read : Result A ℕ → Result Item ItemRefusal) (text : List ℕ) → Refuses read text → (r : Result A ℕ) (place : ℕ) → read r ≡ Err (BadText place) → Left r text place
refuses_left read text h (Ok value) place e = absurd (h.ok value place e)
refuses_left read text h (Err left) place e =
    let same : Err (BadText (length text - left)) ≡ Err (BadText place) = sym (h.err left) ∙ e in
    record { left = left; is = refl; at = (cc) }

-- Numbers and truth values.

unsigned_refuses : (item : ℕ → Item) (most : ℕ) (text : List ℕ) → Refuses (λ r. mapped item (number_up_to most text r)) text
unsigned_refuses item most text = record {
  ok = λ n place. elim (nat_le n most) as (λ t. mapped item (if t then Ok n else Err OutOfRange) ≡ Err (BadText place) → ⊥) [ true ↦ λ e. (cc) | false ↦ λ e. (cc) ];
  err = λ left. refl;
}

signed_refuses : (item : ℤ → Item) (most : ℕ) (text : List ℕ) → Refuses (λ r. mapped item (number_within most text r)) text
signed_refuses item most text = record {
  ok = λ z place. elim (is_within most z) as (λ t. mapped item (if t then Ok z else Err OutOfRange) ≡ Err (BadText place) → ⊥) [ true ↦ λ e. (cc) | false ↦ λ e. (cc) ];
  err = λ left. refl;
}

truth_refuses : (text : List ℕ) → Refuses (λ r. mapped Truth (truth_found text r)) text
truth_refuses text = record { ok = λ t place e. (cc); err = λ left. refl }

blank_cases : (P : ℕ → Type 0) → P 32 → P 9 → (b : ℕ) → is_blank b ≡ true → P b
blank_cases P space tab b h =
    elim (b == 32) as (λ t. (b == 32) ≡ t → (t || b == 9) ≡ true → P b)
    [ true ↦ λ is _. subst P (sym (eqb-true b 32 is)) space | false ↦ λ _ is. subst P (sym (eqb-true b 9 is)) tab ]
    refl h

unsigned_bare : (b : ℕ) (x : List ℕ) → is_blank b ≡ true → unsigned_fits (b ∷ x) ≡ false
unsigned_bare b x h = not_digit_fits b x (not_digit 10 b (omega arith) h)

signed_bare : (b : ℕ) (x : List ℕ) → is_blank b ≡ true → signed_fits (b ∷ x) ≡ false
signed_bare b x h = plain_sign b x (blank_cases (λ y. nat_eq 45 y ≡ false) refl refl b h) ∙ unsigned_bare b x h

truth_bare : (b : ℕ) (x : List ℕ) → is_blank b ≡ true → truth_fits (b ∷ x) ≡ false
truth_bare b x h = blank_cases (λ y. truth_fits (y ∷ x) ≡ false) refl refl b h

unsigned_place : (type : Tid) (item : ℕ → Item) (most : ℕ) → ((x : List ℕ) → item_read type x ≡ mapped item (unsigned_read most x))
    → (text : List ℕ) (place : ℕ) → item_read type text ≡ Err (BadText place) → IsFirstPlace type text place
unsigned_place type item most same text place e =
    let l : Left (unsigned_form (behind is_blank text)) text place =
    refuses_left (λ r. mapped item (number_up_to most text r)) text (unsigned_refuses item most text) (unsigned_form (behind is_blank text)) place (sym (same text) ∙ e) in
    first_place_of type (λ y. unsigned_fits (behind is_blank y))
    (λ x t at is. refuses_yes (λ r. mapped item (number_up_to most x r)) x (unsigned_refuses item most x) (unsigned_form (behind is_blank x)) t at (sym (same x) ∙ is))
    (λ x t form. refuses_no (λ r. mapped item (number_up_to most x r)) x (unsigned_refuses item most x) (unsigned_form (behind is_blank x)) t (λ at is. form at (same x ∙ is)))
    text l.left place l.at
    (spaced_stops unsigned_fits unsigned_bare refl text l.left (unsigned_stops (behind is_blank text) l.left l.is))

signed_place : (type : Tid) (item : ℤ → Item) (most : ℕ) → ((x : List ℕ) → item_read type x ≡ mapped item (signed_read most x))
    → (text : List ℕ) (place : ℕ) → item_read type text ≡ Err (BadText place) → IsFirstPlace type text place
signed_place type item most same text place e =
    let l : Left (signed_form (behind is_blank text)) text place =
    refuses_left (λ r. mapped item (number_within most text r)) text (signed_refuses item most text) (signed_form (behind is_blank text)) place (sym (same text) ∙ e) in
    first_place_of type (λ y. signed_fits (behind is_blank y))
    (λ x t at is. refuses_yes (λ r. mapped item (number_within most x r)) x (signed_refuses item most x) (signed_form (behind is_blank x)) t at (sym (same x) ∙ is))
    (λ x t form. refuses_no (λ r. mapped item (number_within most x r)) x (signed_refuses item most x) (signed_form (behind is_blank x)) t (λ at is. form at (same x ∙ is)))
    text l.left place l.at
    (spaced_stops signed_fits signed_bare refl text l.left (signed_stops (behind is_blank text) l.left l.is))

truth_place : (text : List ℕ) (place : ℕ) → item_read tid.Bool text ≡ Err (BadText place) → IsFirstPlace tid.Bool text place
truth_place text place e =
    let l : Left (truth_form (behind is_blank text)) text place =
    refuses_left (λ r. mapped Truth (truth_found text r)) text (truth_refuses text) (truth_form (behind is_blank text)) place e in
    first_place_of tid.Bool (λ y. truth_fits (behind is_blank y))
    (λ x t. refuses_yes (λ r. mapped Truth (truth_found x r)) x (truth_refuses x) (truth_form (behind is_blank x)) t)
    (λ x t. refuses_no (λ r. mapped Truth (truth_found x r)) x (truth_refuses x) (truth_form (behind is_blank x)) t)
    text l.left place l.at
    (spaced_stops truth_fits truth_bare refl text l.left (truth_stops (behind is_blank text) l.left l.is))

-- A CHAR.

abbrev char_fits : List ℕ → Bool
char_fits x = is_ok (char_read x)

char_yes : (x : List ℕ) → char_fits x ≡ true → IsInForm tid.Char x
char_yes x t place = mapped_yes (char_read x) t place where
  mapped_yes : (r : Result ℕ ItemRefusal) → is_ok r ≡ true → (place : ℕ) → mapped Char r ≢ Err (BadText place)
  mapped_yes (Ok b) t place = λ e. (cc)
  mapped_yes (Err e) t place = absurd (cc)

char_no : (x : List ℕ) → char_fits x ≡ false → IsInForm tid.Char x → ⊥
char_no [] t form = (cc)
char_no (b ∷ []) t form =
    elim (is_printable b) as (λ p. is_ok (if p then Ok b else Err (BadText 0)) ≡ false → ((place : ℕ) → mapped Char (if p then Ok b else Err (BadText 0)) ≢ Err (BadText place)) → ⊥)
    [ true ↦ λ u _. (cc) | false ↦ λ _ f. f 0 refl ]
    t form
char_no (b ∷ c ∷ bs) t form =
    elim (is_printable b) as (λ p. ((place : ℕ) → mapped Char (if p then Err (BadText 1) else Err (BadText 0)) ≢ Err (BadText place)) → ⊥)
    [ true ↦ λ f. f 1 refl | false ↦ λ f. f 0 refl ]
    form

char_bad : (b : ℕ) (next : List ℕ) → is_printable b ≡ false → char_fits (b ∷ next) ≡ false
char_bad b [] h = rw h refl
char_bad b (c ∷ next) h = rw h refl

char_place : (text : List ℕ) (place : ℕ) → item_read tid.Char text ≡ Err (BadText place) → IsFirstPlace tid.Char text place
char_place [] place e = absurd (cc)
char_place (b ∷ []) place e =
    elim (is_printable b) as (λ p. is_printable b ≡ p → mapped Char (if p then Ok b else Err (BadText 0)) ≡ Err (BadText place) → IsFirstPlace tid.Char (b ∷ []) place) [
      | true ↦ λ _ is. absurd (cc)
      | false ↦ λ h is. let at : length (b ∷ []) - length (b ∷ []) ≡ place = (cc) in
          first_place_of tid.Char char_fits char_yes char_no (b ∷ []) (length (b ∷ [])) place at (stops_here char_fits b [] [] refl (λ next. char_bad b next h))
    ]
    refl e
char_place (b ∷ c ∷ bs) place e =
    elim (is_printable b) as (λ p. is_printable b ≡ p → mapped Char (if p then Err (BadText 1) else Err (BadText 0)) ≡ Err (BadText place) → IsFirstPlace tid.Char (b ∷ c ∷ bs) place) [
      | true ↦ λ h is. let one : 1 ≡ place = (cc) in
          first_place_of tid.Char char_fits char_yes char_no (b ∷ c ∷ bs) (length (c ∷ bs)) place (omega (arith, one))
          (stops_cons (λ x. char_fits (b ∷ x)) char_fits b (c ∷ bs) (length (c ∷ bs)) (λ x. refl) (stops_here (λ x. char_fits (b ∷ x)) c bs [] (rw h refl) (λ next. rw h refl)))
      | false ↦ λ h is. let none : 0 ≡ place = (cc) in
          first_place_of tid.Char char_fits char_yes char_no (b ∷ c ∷ bs) (length (b ∷ c ∷ bs)) place (omega (arith, none))
          (stops_here char_fits b (c ∷ bs) [] refl (λ next. char_bad b next h))
    ]
    refl e

-- A text.

abbrev is_bad : ℕ → Bool
is_bad b = not (is_text_byte b)

text_position : (text : List ℕ) (r : Option ℕ) (place : ℕ) → mapped Text (text_found text r) ≡ Err (BadText place) → r ≡ Some place
text_position text (Some at) place e = let same : at ≡ place = (cc) in ap (λ (n : ℕ). Some n) same
text_position text None place e =
    elim (nat_lt text_limit (length text)) as (λ t. mapped Text (if t then Err OutOfRange else Ok text) ≡ Err (BadText place) → None ≡ Some place)
    [ true ↦ λ e'. absurd (cc) | false ↦ λ e'. absurd (cc) ]
    e

text_in_form : (text : List ℕ) → ((k : ℕ) → k < length text → is_bad (get_or text k 0) ≡ false) → IsInForm tid.Text text
text_in_form text good place e =
    let first : position_or_len is_bad text ≡ length text = position_or_len_is is_bad text (length text) 0 (omega arith) good (λ past. absurd (omega (arith, past))) in
    let none : position is_bad text ≡ None = rw (first, le-ltb (length text) (length text) (omega arith)) refl in
    let some : position is_bad text ≡ Some place = text_position text (position is_bad text) place e in
    (cc)

text_not_in_form : (text : List ℕ) (at : ℕ) → at < length text → is_bad (get_or text at 0) ≡ true → ((k : ℕ) → k < at → is_bad (get_or text k 0) ≡ false) → IsInForm tid.Text text → ⊥
text_not_in_form text at within bad before form =
    let first : position_or_len is_bad text ≡ at = position_or_len_is is_bad text at 0 (omega (arith, within)) before (λ _. bad) in
    let some : position is_bad text ≡ Some at = rw (first, lt-ltb at (length text) within) refl in
    form at (rw some refl)

text_place : (text : List ℕ) (place : ℕ) → item_read tid.Text text ≡ Err (BadText place) → IsFirstPlace tid.Text text place
text_place text place e =
    let p = position-Some is_bad text place 0 (text_position text (position is_bad text) place e) in
    record {
      inside = omega (arith, p.0);
      goes_on = (
        [],
        subst (IsInForm tid.Text) (sym (append-nil (take place text)))
            (text_in_form (take place text)
            (λ k within. let low : k < place = omega (arith, within, length-take place text) in ap is_bad (get_or-take place text k 0 low) ∙ p.2 k low)),
      );
      stops = λ within more form.
          let front : length (take (place + 1) text) ≡ place + 1 = omega (arith, within, length-take (place + 1) text) in
          let same : (k : ℕ) → k < place + 1 → get_or (take (place + 1) text ++ more) k 0 ≡ get_or text k 0 =
          (λ k low. get_or_append_left (take (place + 1) text) more 0 k (omega (arith, low, front)) ∙ get_or-take (place + 1) text k 0 low) in
          text_not_in_form (take (place + 1) text ++ more) place (omega (arith, front, length-append (take (place + 1) text) more))
          (ap is_bad (same place (omega arith)) ∙ p.1) (λ k low. ap is_bad (same k (omega (arith, low))) ∙ p.2 k low) form;
    }

-- Any type.

pub first_place : (type : Tid) (text : List ℕ) (place : ℕ) → item_read type text ≡ Err (BadText place) → IsFirstPlace type text place
first_place tid.UInt8 text place e = unsigned_place tid.UInt8 UInt8 (2 ^ 8 - 1) (λ x. refl) text place e
first_place tid.Int8 text place e = signed_place tid.Int8 Int8 (2 ^ 7 - 1) (λ x. refl) text place e
first_place tid.Char text place e = char_place text place e
first_place tid.UInt16 text place e = unsigned_place tid.UInt16 UInt16 (2 ^ 16 - 1) (λ x. refl) text place e
first_place tid.Int16 text place e = signed_place tid.Int16 Int16 (2 ^ 15 - 1) (λ x. refl) text place e
first_place tid.UInt32 text place e = unsigned_place tid.UInt32 UInt32 (2 ^ 32 - 1) (λ x. refl) text place e
first_place tid.Int32 text place e = signed_place tid.Int32 Int32 (2 ^ 31 - 1) (λ x. refl) text place e
first_place tid.Bool text place e = truth_place text place e
first_place tid.Text text place e = text_place text place e
first_place tid.Int64 text place e = signed_place tid.Int64 Int64 (2 ^ 63 - 1) (λ x. refl) text place e
first_place tid.UInt64 text place e = unsigned_place tid.UInt64 UInt64 (2 ^ 64 - 1) (λ x. refl) text place e
first_place tid.Float text place e = absurd (cc)
first_place tid.Double text place e = absurd (cc)
first_place tid.BitField text place e = absurd (cc)
first_place tid.Array text place e = absurd (cc)
first_place tid.Struct text place e = absurd (cc)
first_place tid.Key text place e = absurd (cc)
first_place tid.Link text place e = absurd (cc)
