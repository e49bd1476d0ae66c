-- How the sets of a front-end go on with its calls on the buffer and with its turns.
use Rattle.std.specs.Prelude.{◌≡◌, ℕ, ◌≤◌, Bool, true, false, is_some, List, [], ◌∷◌, ◌++◌, length, Some, refl}
use Rattle.std.proofs.Common.{ap, sym, subst, ◌∙◌, arith}
use Rattle.std.proofs.lemmas.List.{take-append-le, take_all}
use Rattle.daq_types.specs.declared.runs.Transition.{Transition}
use Rattle.daq_types.specs.declared.runs.Transition.TheVariants.{Start, Stop, Pause, Resume, StartAbort}
use Rattle.buffer_core.specs.declared.entry.BufferEntry.{BufferEntry}
use Rattle.odb_watch.specs.declared.entry.WatchEntry.{WatchEntry}
use Rattle.member_model.specs.Turns.{MemberTurn, IsOfRun, IsNextTurn}
use Rattle.member_model.specs.SentCalls.{own_sent}
use Rattle.member_model.specs.Moments.{AreMoments}
use Rattle.composition.specs.SentSets.{sent_by_moment}
use Rattle.daq_members.specs.SentSets.{number_set_at, AddsNumberIf, AreNumbersSet}

-- more calls on the buffer leave what was sent by a moment before them
sent_by_moment-more : (own more : List BufferEntry) (moment start : ℕ) → moment ≤ length own → sent_by_moment (own ++ more) start moment ≡ sent_by_moment own start moment
sent_by_moment-more own more moment start within = ap (λ (l : List BufferEntry). length (own_sent l start)) (take-append-le moment own more within)

-- by the end of all calls it is what they sent
pub sent_by_all_calls : (own : List BufferEntry) (start : ℕ) → sent_by_moment own start (length own) ≡ length (own_sent own start)
sent_by_all_calls own start = ap (λ (l : List BufferEntry). length (own_sent l start)) (take_all (length own) own (omega arith))

pub sets_more : (name : List ℕ) (own more : List BufferEntry) (turns : List MemberTurn) (moments : List ℕ) (calls : ℕ) (sets : List WatchEntry) → calls ≤ length own → AreMoments turns moments calls
    → AreNumbersSet name own turns moments sets → AreNumbersSet name (own ++ more) turns moments sets
sets_more name own more [] moments calls sets within are told = told
sets_more name own more (t ∷ ts) [] calls sets within are told = absurd told
sets_more name own more (t ∷ ts) (m ∷ ms) calls sets within are told = (
  told.0,
  told.1,
  sets_more name own more ts ms m told.1 (omega (arith, within, are.0)) are.1 told.2,
  subst (λ (n : ℕ). AddsNumberIf name (number_set_at t.transition (is_some t.answer) n) told.1 sets) (sym (sent_by_moment-more own more m t.order.start (omega (arith, within, are.0)))) told.3,
)

-- The number at a turn is that of all calls so far: at a start none is asked for, and at any other turn that sets one the run is
-- the turn's.
pub number_now : (transition : Transition) (answered : Bool) (own : List BufferEntry) (turns : List MemberTurn) (start sent : ℕ) → IsNextTurn transition start turns → (IsOfRun start turns → length (own_sent own start) ≡ sent)
    → number_set_at transition answered (sent_by_moment own start (length own)) ≡ number_set_at transition answered sent
number_now Start answered own turns start sent next of_run = refl
number_now Stop true own turns start sent next of_run = ap Some (sent_by_all_calls own start ∙ of_run next)
number_now Stop false own turns start sent next of_run = refl
number_now Pause answered own turns start sent next of_run = ap Some (sent_by_all_calls own start ∙ of_run next)
number_now Resume answered own turns start sent next of_run = refl
number_now StartAbort answered own turns start sent next of_run = refl
