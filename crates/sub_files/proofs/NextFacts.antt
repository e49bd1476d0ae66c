-- Whether the next file is begun, by what the open file holds.
use Rattle.std.specs.Prelude.{◌≡◌, ◌≢◌, ◌⊎◌, ◌<◌, ◌≤◌, ◌+◌, ◌-◌, ◌^◌, ℕ, suc, min, Bool, false, true, not, nat_lt, ◌&&◌, IsTrue, List, [], ◌∷◌, length, refl}
use Rattle.std.proofs.Common.{arith, sym, ◌∙◌, inl, inr, length-append}
use Rattle.std.proofs.lemmas.Bool.Decides.{leb_tells}
use Rattle.daq_types.specs.declared.events.Event.{Event}
use Rattle.event.specs.Events.{encoding, all_encoded, record_limit}
use Rattle.event.proofs.Events.{length-encoding}
use Rattle.sub_files.specs.declared.open_file.OpenFile.{OpenFile}
use Rattle.sub_files.specs.Cuts.{last_number, StaysIn, BeginsNext}
use Rattle.sub_files.specs.Rolls.{begins_next}

-- what holds where the next file is begun
pub record Begins (limit head : ℕ) (old : OpenFile) (size : ℕ) : Type 0 where
  pub limited : 0 < limit
  pub some : head < old.bytes
  pub full : limit < old.bytes + size
  pub number_left : old.sub < last_number
  pub free : old.taken ≡ false

-- and where not
pub Stays : (limit head : ℕ) → OpenFile → (size : ℕ) → Type 0
Stays limit head old size = (limit ≡ 0) ⊎ ((old.bytes ≤ head) ⊎ ((old.bytes + size ≤ limit) ⊎ ((last_number ≤ old.sub) ⊎ (old.taken ≡ true))))

pub ltb_tells : (x y : ℕ) → ((nat_lt x y ≡ true) × (x < y)) ⊎ ((nat_lt x y ≡ false) × (y ≤ x))
ltb_tells x y = elim (leb_tells (suc x) y) as (λ w. ((nat_lt x y ≡ true) × (x < y)) ⊎ ((nat_lt x y ≡ false) × (y ≤ x))) [
  | inl is ↦ inl (is.0, (let below = is.1 in omega (arith, below)))
  | inr not_so ↦ inr (not_so.0, (let above = not_so.1 in omega (arith, above)))
]

and_left : (x y : Bool) → IsTrue (x && y) → IsTrue x
and_left true y h = refl
and_left false y h = h

and_right : (x y : Bool) → IsTrue (x && y) → IsTrue y
and_right true y h = h
and_right false y h = let never : false ≡ true = h in absurd (cc (never))

less : (x y : ℕ) → IsTrue (nat_lt x y) → x < y
less x y h = elim (ltb_tells x y) as (λ w. x < y) [ inl is ↦ is.1 | inr not_so ↦ let never : true ≡ false = sym h ∙ not_so.0 in absurd (cc (never)) ]

not_taken : (t : Bool) → IsTrue (not t) → t ≡ false
not_taken false h = refl
not_taken true h = let never : false ≡ true = h in absurd (cc (never))

pub begins_so : (limit head : ℕ) (old : OpenFile) (size : ℕ) → IsTrue (begins_next limit head old size) → Begins limit head old size
begins_so limit head old size h =
    let a = nat_lt 0 limit in let b = nat_lt head old.bytes in let c = nat_lt limit (old.bytes + size) in let d = nat_lt old.sub last_number in let e = not old.taken in
    let after_a : IsTrue (b && (c && (d && e))) = and_right a (b && (c && (d && e))) h in
    let after_b : IsTrue (c && (d && e)) = and_right b (c && (d && e)) after_a in
    let after_c : IsTrue (d && e) = and_right c (d && e) after_b in
    record {
      limited = less 0 limit (and_left a (b && (c && (d && e))) h);
      some = less head old.bytes (and_left b (c && (d && e)) after_a);
      full = less limit (old.bytes + size) (and_left c (d && e) after_b);
      number_left = less old.sub last_number (and_left d e after_c);
      free = not_taken old.taken (and_right d e after_c);
    }

-- a conjunction that does not hold has a part that does not
and_fails : (x y : Bool) → (x && y) ≡ false → (x ≡ false) ⊎ (y ≡ false)
and_fails false y h = inl refl
and_fails true y h = inr h

not_less : (x y : ℕ) → nat_lt x y ≡ false → y ≤ x
not_less x y h = elim (ltb_tells x y) as (λ w. y ≤ x) [ inl is ↦ let never : true ≡ false = sym is.0 ∙ h in absurd (cc (never)) | inr not_so ↦ not_so.1 ]

taken_so : (t : Bool) → not t ≡ false → t ≡ true
taken_so true h = refl
taken_so false h = let never : true ≡ false = h in absurd (cc (never))

pub stays_so : (limit head : ℕ) (old : OpenFile) (size : ℕ) → begins_next limit head old size ≡ false → Stays limit head old size
unfolding Stays
stays_so limit head old size h =
    elim (and_fails (nat_lt 0 limit) (nat_lt head old.bytes && (nat_lt limit (old.bytes + size) && (nat_lt old.sub last_number && not old.taken))) h) as (λ w. Stays limit head old size) [
      | inl none ↦ inl (let most = not_less 0 limit none in omega (arith, most))
      | inr rest ↦ elim (and_fails (nat_lt head old.bytes) (nat_lt limit (old.bytes + size) && (nat_lt old.sub last_number && not old.taken)) rest) as (λ w. Stays limit head old size) [
        | inl empty ↦ inr (inl (not_less head old.bytes empty))
        | inr more ↦ elim (and_fails (nat_lt limit (old.bytes + size)) (nat_lt old.sub last_number && not old.taken) more) as (λ w. Stays limit head old size) [
          | inl within ↦ inr (inr (inl (not_less limit (old.bytes + size) within)))
          | inr last ↦ elim (and_fails (nat_lt old.sub last_number) (not old.taken) last) as (λ w. Stays limit head old size) [
            | inl greatest ↦ inr (inr (inr (inl (not_less old.sub last_number greatest))))
            | inr taken ↦ inr (inr (inr (inr (taken_so old.taken taken))))
          ]
        ]
      ]
    ]

-- With the events of the piece.

pub empty_piece : (piece : List Event) → length (all_encoded piece) ≡ 0 → piece ≡ []
empty_piece [] none = refl
empty_piece (e ∷ piece) none = absurd (omega (arith, none, length-append (encoding e) (all_encoded piece), length-encoding e))

-- the count of a file's bytes
abbrev pub IsCounted : (bytes head : ℕ) → (piece : List Event) → Type 0
IsCounted bytes head piece = bytes ≡ min (head + length (all_encoded piece)) (2 ^ 64 - 1)

pub stays_in : (limit head size : ℕ) (old : OpenFile) (piece : List Event) (e : Event) → limit < 2 ^ 32 → head ≤ 16 + record_limit → old.sub ≤ last_number → IsCounted old.bytes head piece → size ≡ length (encoding e)
    → limit ≢ 0 → Stays limit head old size → StaysIn limit head old.taken old.sub piece e
unfolding Stays
stays_in limit head size old piece e within small few counted size_is some stays = elim stays as (λ w. StaysIn limit head old.taken old.sub piece e) [
  | inl none ↦ absurd (some none)
  | inr rest ↦ elim rest as (λ w. StaysIn limit head old.taken old.sub piece e) [
    | inl empty ↦ inl (empty_piece piece (omega (arith, empty, counted, small)))
    | inr more ↦ elim more as (λ w. StaysIn limit head old.taken old.sub piece e) [
      | inl fits ↦ inr (inl (omega (arith, fits, counted, within, size_is)))
      | inr last ↦ elim last as (λ w. StaysIn limit head old.taken old.sub piece e) [
        | inl greatest ↦ inr (inr (inl (omega (arith, greatest, few))))
        | inr taken ↦ inr (inr (inr taken))
      ]
    ]
  ]
]

pub begins_with : (limit head size : ℕ) (old : OpenFile) (piece : List Event) (e : Event) → IsCounted old.bytes head piece → size ≡ length (encoding e) → Begins limit head old size → BeginsNext limit head old.sub piece e
begins_with limit head size old piece e counted size_is begins = record {
  some = one_at_least piece (omega (arith, counted, begins.some));
  full = omega (arith, counted, begins.full, size_is);
  number_left = begins.number_left;
}
  where
    one_at_least : (es : List Event) → 0 < length (all_encoded es) → 1 ≤ length es
    one_at_least [] h = absurd (omega (arith, h))
    one_at_least (x ∷ es) h = omega arith
