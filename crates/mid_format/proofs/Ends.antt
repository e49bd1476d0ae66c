-- Where a step ends: the place, what lies at hand and the count of faults.
use Rattle.std.proofs.Common.{◌≡◌, ℕ, ◌≤◌, ◌^◌, List, [], Option, Some, None, Result, Ok, Err, inl, inr, ap, sym, subst, arith}
use Rattle.std.specs.Prelude.{IfErr}
use Rattle.event.specs.Events.{end_id}
use Rattle.event.specs.Pieces.{FailsBehind}
use Rattle.event.specs.declared.head.Header.{Header}
use Rattle.mid_format.specs.Faults.{header_fault, nothing_left, OfSource}
use Rattle.mid_format.specs.Parts.{FailsInside, CountedBy, CountsReads}
use Rattle.mid_format.specs.Steps.{BeginsReading, FinishesReading, FinishStops}
use Rattle.mid_format.specs.declared.faults.MidFault.{MidFault}
use Rattle.mid_format.specs.declared.faults.MidFault.TheVariants.{Truncated, NoBegin, NoEnd, AfterEnd, TooBig, ReadFault, BadRecord, TooLong}
use Rattle.mid_format.specs.declared.progress.Progress.{Progress}
use Rattle.mid_format.proofs.Allowed.{begin_allowed, end_allowed}
use Rattle.mid_format.proofs.Failing.{map_source}

-- the place stays in front of byte 2^62

pub begun_within : (before after : Option (List ℕ)) (old new : Progress) (h : Header) → old.at ≤ 2 ^ 62 → BeginsReading before after old new h → new.at ≤ 2 ^ 62
begun_within before after old new h within (inl b) = omega (arith, (begin_allowed old.at h b.fine).sized.within, ap (λ (p : Progress). p.at) b.progress)
begun_within before after old new h within (inr s) = omega (arith, within, ap (λ (p : Progress). p.at) s.progress)

pub finished_within : (before after : Option (List ℕ)) (run : ℕ) (old new : Progress) (h : Header) → header_fault (Some run) old.at h ≡ None → h.event_id ≡ end_id → FinishesReading before after old new h → new.at ≤ 2 ^ 62
finished_within before after run old new h fine is_end f = omega (arith, (end_allowed run old.at h fine is_end).sized.within, ap (λ (p : Progress). p.at) f.progress)

pub stopped_within : (before after : Option (List ℕ)) (at_hand : List ℕ) (run : ℕ) (old new : Progress) (h : Header) (fault : MidFault) → old.at ≤ 2 ^ 62 → header_fault (Some run) old.at h ≡ None → h.event_id ≡ end_id
    → FinishStops before after at_hand old new h fault → new.at ≤ 2 ^ 62
stopped_within before after at_hand run old new h fault within fine is_end (inl cut) = omega (arith, within, ap (λ (p : Progress). p.at) cut.progress)
stopped_within before after at_hand run old new h fault within fine is_end (inr more) = omega (arith, (end_allowed run old.at h fine is_end).sized.within, ap (λ (p : Progress). p.at) more.progress)

-- nothing lies at hand where the source failed

pub inside_at_hand : {T : Type 0} (before after : Option (List ℕ)) (at_hand : List ℕ) (answer : Result T MidFault) (fault : MidFault) → answer ≡ Err fault → OfSource fault (FailsInside before after at_hand)
    → IfErr answer (λ f. OfSource f (at_hand ≡ []))
inside_at_hand before after at_hand answer fault is fails =
    subst (λ r. IfErr r (λ f. OfSource f (at_hand ≡ []))) (sym is) (map_source fault (FailsInside before after at_hand) (at_hand ≡ []) (λ (f : FailsInside before after at_hand). f.none_at_hand) fails)

pub behind_at_hand : {T : Type 0} (before after : Option (List ℕ)) (at_hand : List ℕ) (size : ℕ) (answer : Result T MidFault) (fault : MidFault) → answer ≡ Err fault → OfSource fault (FailsBehind before after at_hand size)
    → IfErr answer (λ f. OfSource f (at_hand ≡ []))
behind_at_hand before after at_hand size answer fault is fails =
    subst (λ r. IfErr r (λ f. OfSource f (at_hand ≡ []))) (sym is) (map_source fault (FailsBehind before after at_hand size) (at_hand ≡ []) (λ (f : FailsBehind before after at_hand size). f.none_at_hand) fails)

pub stopped_at_hand : {T : Type 0} (before after : Option (List ℕ)) (at_hand : List ℕ) (old new : Progress) (h : Header) (answer : Result T MidFault) (fault : MidFault) → answer ≡ Err fault
    → FinishStops before after at_hand old new h fault → IfErr answer (λ f. OfSource f (at_hand ≡ []))
stopped_at_hand before after at_hand old new h answer fault is (inl cut) = behind_at_hand before after at_hand h.data_size answer fault is cut.fails
stopped_at_hand before after at_hand old new h answer fault is (inr more) = behind_at_hand more.middle after at_hand 1 answer fault is more.fails

-- the count of faults after a call that hands on the answer of its last one

pub counted_err : {T : Type 0} (old middle new : ℕ) (answer : Result T MidFault) (fault : MidFault) → answer ≡ Err fault → middle ≡ old → CountedBy fault middle new → CountsReads old new answer
counted_err old middle new answer fault is same counted =
    subst (λ r. CountsReads old new r) (sym is) (record { done = tt; fault = subst (λ (n : ℕ). CountedBy fault n new) same counted })

pub counted_ok : {T : Type 0} (old new : ℕ) (x : T) → new ≡ old → CountsReads old new (Ok x)
counted_ok old new x same = record { done = same; fault = tt }

-- where nothing is left the source did not fail
pub left_none : (run : Option ℕ) (at : ℕ) (f : MidFault) (P : Type 0) → f ≡ nothing_left run at → OfSource f P
left_none None at f P is = subst (λ (x : MidFault). OfSource x P) (sym is) tt
left_none (Some run) at f P is = subst (λ (x : MidFault). OfSource x P) (sym is) tt

-- a fault that is none of the source leaves the count
pub counted_at : (f : MidFault) (old new : ℕ) → OfSource f ⊥ → new ≡ old → CountedBy f old new
counted_at (Truncated at) old new none same = same
counted_at (NoBegin at) old new none same = same
counted_at (NoEnd at) old new none same = same
counted_at (AfterEnd at) old new none same = same
counted_at (TooBig at size) old new none same = same
counted_at ReadFault old new none same = absurd none
counted_at (BadRecord at) old new none same = same
counted_at (TooLong at) old new none same = same
