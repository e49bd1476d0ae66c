-- Samples of cuts, by their lengths.
use Rattle.std.specs.Prelude.{◌≡◌, ◌≢◌, ℕ, suc, ◌+◌, Bool, true, false, [], ◌∷◌, length, refl}
use Rattle.std.proofs.Common.{arith, ap, ◌∙◌, inl, inr, length-append}
use Rattle.std.proofs.lemmas.List.{length-replicate}
use Rattle.daq_types.specs.declared.events.Event.{Event}
use Rattle.event.specs.Events.{encoding, all_encoded}
use Rattle.event.proofs.Events.{length-encoding}
use Rattle.sub_files.specs.Cuts.{MayBeLast}
use Rattle.sub_files.specs.SampleCuts.{event_of_size, first_event, third_event, IsSampleCut, CutsSamples, two_and_one, one_and_two, all_in_one}

sample_length : (size : ℕ) → length (encoding (event_of_size size)) ≡ 16 + size
sample_length size = length-encoding (event_of_size size) ∙ ap (λ (n : ℕ). 16 + n) (length-replicate {A = ℕ} size 0)

one_long : (e : Event) → length (all_encoded (e ∷ [])) ≡ length (encoding e)
one_long e = length-append (encoding e) [] ∙ omega arith

two_long : (e f : Event) → length (all_encoded (e ∷ f ∷ [])) ≡ length (encoding e) + length (encoding f)
two_long e f = length-append (encoding e) (all_encoded (f ∷ [])) ∙ ap (λ (n : ℕ). length (encoding e) + n) (one_long f)

three_long : (e f g : Event) → length (all_encoded (e ∷ f ∷ g ∷ [])) ≡ length (encoding e) + (length (encoding f) + length (encoding g))
three_long e f g = length-append (encoding e) (all_encoded (f ∷ g ∷ [])) ∙ ap (λ (n : ℕ). length (encoding e) + n) (two_long f g)

limit_some : (n : ℕ) → suc n ≢ 0
limit_some n e = omega (arith, e)

pub at_limit : IsSampleCut false two_and_one
at_limit = record {
  joins = refl;
  some = omega arith;
  unlimited = λ none. absurd (limit_some 299 none);
  limited = λ some. (
    record {
      some = omega arith;
      fits = inr (omega (arith, two_long first_event first_event, sample_length 24));
      full = omega (arith, two_long first_event first_event, sample_length 24, sample_length 32);
    },
    inl (inl (omega arith)),
  );
}

pub where_taken : IsSampleCut true all_in_one
where_taken = record { joins = refl; some = omega arith; unlimited = λ none. refl; limited = λ some. inr (inr refl) }

pub not_past : IsSampleCut false all_in_one → ⊥
not_past cut =
    let last : MayBeLast 300 189 false 0 (first_event ∷ first_event ∷ third_event ∷ []) = cut.limited (limit_some 299) in
    elim last as (λ w. ⊥) [
      | inl fits ↦ elim fits as (λ w. ⊥) [
        | inl one ↦ omega (arith, one)
        | inr within ↦ omega (arith, within, three_long first_event first_event third_event, sample_length 24, sample_length 32)
      ]
      | inr excuse ↦ elim excuse as (λ w. ⊥) [
        | inl greatest ↦ omega (arith, greatest)
        | inr taken ↦ let never : false ≡ true = taken in cc (never)
      ]
    ]

pub not_early : (taken : Bool) → IsSampleCut taken one_and_two → ⊥
not_early taken cut =
    let full = (cut.limited (limit_some 299)).0.full in
    omega (arith, full, one_long first_event, sample_length 24)

pub none_empty_first : (taken : Bool) → IsSampleCut taken ([] ∷ two_and_one) → ⊥
none_empty_first taken cut = let some = (cut.limited (limit_some 299)).0.some in omega (arith, some)

pub none_empty_last : (taken : Bool) → IsSampleCut taken ((first_event ∷ first_event ∷ []) ∷ (third_event ∷ []) ∷ [] ∷ []) → ⊥
none_empty_last taken cut = (cut.limited (limit_some 299)).1

pub none_without : (taken : Bool) → IsSampleCut taken [] → ⊥
none_without taken cut = cut.limited (limit_some 299)

pub cuts_samples : CutsSamples
cuts_samples = record {
  at_limit = at_limit;
  where_taken = where_taken;
  not_past = not_past;
  not_early = not_early;
  none_empty_first = none_empty_first;
  none_empty_last = none_empty_last;
  some = none_without;
}
