-- Cuts as events come one after the other.
use Rattle.std.specs.Prelude.{◌≡◌, ◌≢◌, ◌<◌, ℕ, suc, ◌+◌, Bool, false, true, List, [], ◌∷◌, ◌++◌, length, refl}
use Rattle.std.proofs.Common.{arith, ap, sym, subst, ◌∙◌, inl, inr, length-append, append_assoc}
use Rattle.std.proofs.lemmas.List.{append-nil}
use Rattle.daq_types.specs.declared.events.Event.{Event}
use Rattle.event.specs.Events.{encoding, all_encoded}
use Rattle.event.proofs.Events.{all_encoded-append}
use Rattle.sub_files.specs.Cuts.{last_number, events_of_pieces, FitsInFile, IsFull, MayBeLast, AreFull, IsCut, StaysIn, BeginsNext}

events_of_pieces-append : (ps qs : List (List Event)) → events_of_pieces (ps ++ qs) ≡ events_of_pieces ps ++ events_of_pieces qs
events_of_pieces-append [] qs = refl
events_of_pieces-append (p ∷ ps) qs = ap (λ (es : List Event). p ++ es) (events_of_pieces-append ps qs) ∙ sym (append_assoc p (events_of_pieces ps) (events_of_pieces qs))

pub events_of_pieces-push : (ps : List (List Event)) (piece : List Event) → events_of_pieces (ps ++ piece ∷ []) ≡ events_of_pieces ps ++ piece
events_of_pieces-push ps piece = events_of_pieces-append ps (piece ∷ []) ∙ ap (λ (es : List Event). events_of_pieces ps ++ es) (append-nil piece)

-- the bytes of the events and of one more
pub encoded-push : (piece : List Event) (e : Event) → all_encoded (piece ++ e ∷ []) ≡ all_encoded piece ++ encoding e
encoded-push piece e = all_encoded-append piece (e ∷ []) ∙ ap (λ (bytes : List ℕ). all_encoded piece ++ bytes) (append-nil (encoding e))

pub length-encoded-push : (piece : List Event) (e : Event) → length (all_encoded (piece ++ e ∷ [])) ≡ length (all_encoded piece) + length (encoding e)
length-encoded-push piece e = ap (λ (bytes : List ℕ). length bytes) (encoded-push piece e) ∙ length-append (all_encoded piece) (encoding e)

pub length-push : {A : Type 0} (xs : List A) (x : A) → length (xs ++ x ∷ []) ≡ suc (length xs)
length-push xs x = length-append xs (x ∷ []) ∙ omega arith

same_length : {A : Type 0} (xs : List A) (x y : A) (n : ℕ) → length (xs ++ x ∷ []) ≡ n → length (xs ++ y ∷ []) ≡ n
same_length xs x y n h = length-push xs y ∙ (sym (length-push xs x) ∙ h)

-- a run begins with one empty piece
pub first_cut : (limit head : ℕ) → IsCut limit head [] false ([] ∷ [])
first_cut limit head = record { joins = refl; some = omega arith; unlimited = λ none. refl; limited = λ some. inl (inl (omega arith)) }

-- without a limit there is one piece
one_piece : (pieces : List (List Event)) (events : List Event) → events_of_pieces pieces ≡ events → length pieces ≡ 1 → pieces ≡ events ∷ []
one_piece [] events joins one = absurd (omega (arith, one))
one_piece (p ∷ []) events joins one = ap (λ (piece : List Event). piece ∷ []) (sym (append-nil p) ∙ joins)
one_piece (p ∷ (q ∷ pieces)) events joins one = absurd (omega (arith, one))

pub unlimited_cut : (head : ℕ) (events : List Event) (taken : Bool) (pieces : List (List Event)) → IsCut 0 head events taken pieces → pieces ≡ events ∷ []
unlimited_cut head events taken pieces cut = one_piece pieces events cut.joins (cut.unlimited refl)

pub cut_unlimited : (head : ℕ) (events : List Event) (taken : Bool) → IsCut 0 head events taken (events ∷ [])
cut_unlimited head events taken = record { joins = append-nil events; some = omega arith; unlimited = λ none. refl; limited = λ some. absurd (some refl) }

no_more : (number : ℕ) → number + length {A = List Event} [] ≡ number
no_more number = omega arith

one_more : (number : ℕ) (p : List Event) → number + length (p ∷ []) ≡ suc number
one_more number p = omega arith

none_before : (closed : List (List Event)) → length closed ≡ 0 + length closed
none_before closed = omega arith

-- The last piece takes an event more.

last_grows : (limit head : ℕ) (taken : Bool) (number : ℕ) (piece : List Event) (e : Event) → StaysIn limit head taken number piece e → MayBeLast limit head taken number (piece ++ e ∷ [])
last_grows limit head taken number piece e stays = elim stays as (λ w. MayBeLast limit head taken number (piece ++ e ∷ [])) [
  | inl empty ↦ inl (inl (let long : length piece ≡ 0 = ap (λ (es : List Event). length es) empty in omega (arith, long, length-push piece e)))
  | inr rest ↦ elim rest as (λ w. MayBeLast limit head taken number (piece ++ e ∷ [])) [
    | inl within ↦ inl (inr (omega (arith, within, length-encoded-push piece e)))
    | inr excuse ↦ inr excuse
  ]
]

full_grows : (limit head : ℕ) (taken : Bool) (number : ℕ) (closed : List (List Event)) (piece : List Event) (e : Event) → StaysIn limit head taken (number + length closed) piece e
    → AreFull limit head taken number (closed ++ piece ∷ []) → AreFull limit head taken number (closed ++ (piece ++ e ∷ []) ∷ [])
full_grows limit head taken number [] piece e stays full =
    let here : StaysIn limit head taken number piece e = subst (λ (n : ℕ). StaysIn limit head taken n piece e) (no_more number) stays in
    last_grows limit head taken number piece e here
full_grows limit head taken number (p ∷ []) [] e stays full = absurd full
full_grows limit head taken number (p ∷ []) (x ∷ xs) e stays full =
    let here : StaysIn limit head taken (suc number) (x ∷ xs) e = subst (λ (n : ℕ). StaysIn limit head taken n (x ∷ xs) e) (one_more number p) stays in
    (full.0, last_grows limit head taken (suc number) (x ∷ xs) e here)
full_grows limit head taken number (p ∷ ([] ∷ closed)) piece e stays full = absurd full
full_grows limit head taken number (p ∷ ((y ∷ ys) ∷ closed)) piece e stays full =
    let count : number + length (p ∷ ((y ∷ ys) ∷ closed)) ≡ suc number + length ((y ∷ ys) ∷ closed) = omega arith in
    let here : StaysIn limit head taken (suc number + length ((y ∷ ys) ∷ closed)) piece e = subst (λ (n : ℕ). StaysIn limit head taken n piece e) count stays in
    (full.0, full_grows limit head taken (suc number) ((y ∷ ys) ∷ closed) piece e here full.1)

-- the events of a cut and one more
joins_more : (closed : List (List Event)) (piece events : List Event) (e : Event) → events_of_pieces (closed ++ piece ∷ []) ≡ events → events_of_pieces (closed ++ (piece ++ e ∷ []) ∷ []) ≡ events ++ e ∷ []
joins_more closed piece events e joins =
    events_of_pieces-push closed (piece ++ e ∷ []) ∙ (sym (append_assoc (events_of_pieces closed) piece (e ∷ [])) ∙ ap (λ (es : List Event). es ++ e ∷ []) (sym (events_of_pieces-push closed piece) ∙ joins))

pub cut_grows : (limit head : ℕ) (events : List Event) (taken : Bool) (closed : List (List Event)) (piece : List Event) (e : Event) → (limit ≢ 0 → StaysIn limit head taken (length closed) piece e)
    → IsCut limit head events taken (closed ++ piece ∷ []) → IsCut limit head (events ++ e ∷ []) taken (closed ++ (piece ++ e ∷ []) ∷ [])
cut_grows limit head events taken closed piece e stays cut = record {
  joins = joins_more closed piece events e cut.joins;
  some = omega (arith, length-push closed (piece ++ e ∷ []));
  unlimited = λ none. same_length closed piece (piece ++ e ∷ []) 1 (cut.unlimited none);
  limited = λ some. full_grows limit head taken 0 closed piece e (subst (λ (n : ℕ). StaysIn limit head taken n piece e) (none_before closed) (stays some)) (cut.limited some);
}

-- A piece is begun with an event more.

last_fits : (limit head number : ℕ) (piece : List Event) → number < last_number → MayBeLast limit head false number piece → FitsInFile limit head piece
last_fits limit head number piece left last = elim last as (λ w. FitsInFile limit head piece) [
  | inl fits ↦ fits
  | inr excuse ↦ elim excuse as (λ w. FitsInFile limit head piece) [
    | inl greatest ↦ absurd (omega (arith, left, greatest))
    | inr taken ↦ let never : false ≡ true = taken in absurd (cc (never))
  ]
]

last_full : (limit head number : ℕ) (piece : List Event) (e : Event) → BeginsNext limit head number piece e → MayBeLast limit head false number piece → IsFull limit head piece e × MayBeLast limit head false (suc number) (e ∷ [])
last_full limit head number piece e begins last = (record { some = begins.some; fits = last_fits limit head number piece begins.number_left last; full = begins.full }, inl (inl (omega arith)))

full_next : (limit head number : ℕ) (closed : List (List Event)) (piece : List Event) (e : Event) → BeginsNext limit head (number + length closed) piece e
    → AreFull limit head false number (closed ++ piece ∷ []) → AreFull limit head false number ((closed ++ piece ∷ []) ++ (e ∷ []) ∷ [])
full_next limit head number [] piece e begins full =
    let here : BeginsNext limit head number piece e = subst (λ (n : ℕ). BeginsNext limit head n piece e) (no_more number) begins in
    last_full limit head number piece e here full
full_next limit head number (p ∷ []) [] e begins full = absurd full
full_next limit head number (p ∷ []) (x ∷ xs) e begins full =
    let here : BeginsNext limit head (suc number) (x ∷ xs) e = subst (λ (n : ℕ). BeginsNext limit head n (x ∷ xs) e) (one_more number p) begins in
    (full.0, last_full limit head (suc number) (x ∷ xs) e here full.1)
full_next limit head number (p ∷ ([] ∷ closed)) piece e begins full = absurd full
full_next limit head number (p ∷ ((y ∷ ys) ∷ closed)) piece e begins full =
    let count : number + length (p ∷ ((y ∷ ys) ∷ closed)) ≡ suc number + length ((y ∷ ys) ∷ closed) = omega arith in
    let here : BeginsNext limit head (suc number + length ((y ∷ ys) ∷ closed)) piece e = subst (λ (n : ℕ). BeginsNext limit head n piece e) count begins in
    (full.0, full_next limit head (suc number) ((y ∷ ys) ∷ closed) piece e here full.1)

pub cut_next : (limit head : ℕ) (events : List Event) (closed : List (List Event)) (piece : List Event) (e : Event) → limit ≢ 0 → BeginsNext limit head (length closed) piece e
    → IsCut limit head events false (closed ++ piece ∷ []) → IsCut limit head (events ++ e ∷ []) false ((closed ++ piece ∷ []) ++ (e ∷ []) ∷ [])
cut_next limit head events closed piece e some begins cut = record {
  joins = events_of_pieces-push (closed ++ piece ∷ []) (e ∷ []) ∙ ap (λ (es : List Event). es ++ e ∷ []) cut.joins;
  some = omega (arith, length-push (closed ++ piece ∷ []) (e ∷ []));
  unlimited = λ none. absurd (some none);
  limited = λ limited. full_next limit head 0 closed piece e (subst (λ (n : ℕ). BeginsNext limit head n piece e) (none_before closed) begins) (cut.limited limited);
}

-- The name of the next file is found taken.

last_taken : (limit head number : ℕ) (piece : List Event) → MayBeLast limit head false number piece → MayBeLast limit head true number piece
last_taken limit head number piece last = elim last as (λ w. MayBeLast limit head true number piece) [
  | inl fits ↦ inl fits
  | inr excuse ↦ inr (inr refl)
]

full_taken : (limit head number : ℕ) (pieces : List (List Event)) → AreFull limit head false number pieces → AreFull limit head true number pieces
full_taken limit head number [] full = full
full_taken limit head number (p ∷ []) full = last_taken limit head number p full
full_taken limit head number (p ∷ ([] ∷ pieces)) full = full
full_taken limit head number (p ∷ ((y ∷ ys) ∷ pieces)) full = (full.0, full_taken limit head (suc number) ((y ∷ ys) ∷ pieces) full.1)

pub cut_taken : (limit head : ℕ) (events : List Event) (pieces : List (List Event)) → IsCut limit head events false pieces → IsCut limit head events true pieces
cut_taken limit head events pieces cut = record { joins = cut.joins; some = cut.some; unlimited = cut.unlimited; limited = λ some. full_taken limit head 0 pieces (cut.limited some) }
