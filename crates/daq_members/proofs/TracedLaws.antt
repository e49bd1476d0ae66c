-- What a trace of a member's acts tells, once one more is done.
use Rattle.std.specs.Prelude.{◌≡◌, ℕ, suc, Bool, true, false, is_some, List, [], ◌∷◌, ◌++◌, length, Option, Some, None, refl}
use Rattle.std.proofs.Common.{ap, sym, ◌∙◌, length-append, add-one}
use Rattle.daq_types.specs.declared.events.Event.{Event}
use Rattle.daq_types.specs.declared.runs.Order.{Order}
use Rattle.buffer_core.specs.Ports.{Access}
use Rattle.member_model.specs.RunEngines.{Answer}
use Rattle.member_model.specs.Moments.{moments_answered}
use Rattle.front_ends.specs.declared.front_run.FrontRun.{FrontRun}
use Rattle.front_ends.specs.declared.front_step.FrontStep.{FrontStep}
use Rattle.front_ends.specs.declared.front_step.FrontStep.TheVariants.{NoWork}
use Rattle.front_ends.specs.Fronts.{is_at_work}
use Rattle.loggers.specs.Moments.{IsSameAccess}
use Rattle.daq_members.specs.FrontTaken.{StepsBy, StepsFront}
use Rattle.daq_members.specs.TracedPorts.{ActsDone, acts_done, acts_since, act_done, answered_now}

done_push : (done : ActsDone) (acts : List ℕ) (act : ℕ) → acts_done done (acts ++ act ∷ []) ≡ act_done act (acts_done done acts)
done_push done [] act = refl
done_push done (a ∷ acts) act = done_push (act_done a done) acts act

-- these are the acts with one more
pub since_push : (first : Access) (acts later : List ℕ) (act : ℕ) → later ≡ acts ++ act ∷ [] → acts_since first later ≡ act_done act (acts_since first acts)
since_push first acts later act more = ap (acts_since first) more ∙ done_push _ acts act

-- the latest turn's moment is that of its answer
pub answered_moments : (moments : List ℕ) (answer : Option Answer) (calls : ℕ) → is_some answer ≡ true → answered_now moments calls ≡ moments_answered moments answer calls
answered_moments moments None calls given = absurd (cc (given))
answered_moments [] (Some answer) calls given = refl
answered_moments (moment ∷ moments) (Some answer) calls given = refl

-- a step that came to something made one call
pub called_once : (makes : Order → ℕ → Event) (run later : Option FrontRun) (a b : Access) (step : FrontStep) → StepsFront makes run later a b step → (step ≡ NoWork → ⊥) → suc (length a.own) ≡ length b.own
called_once makes run later a b step steps works = by_work (is_at_work run) steps
  where
    by_work : (work : Bool) → StepsBy work makes run later a b step → suc (length a.own) ≡ length b.own
    by_work false idle = absurd (works idle.2)
    by_work true sends = sym (ap length sends.sent.own ∙ (length-append a.own (_ ∷ []) ∙ add-one (length a.own)))

-- an access that stands leads to the same buffer
pub same_access : {a b : Access} → b ≡ a → IsSameAccess a b
same_access is = (ap (λ (x : Access). x.buffer) is, ap (λ (x : Access). x.caller) is, ap (λ (x : Access). x.size) is)

pub access_then : (a b c : Access) → IsSameAccess a b → c ≡ b → IsSameAccess a c
access_then a b c same is = (
  ap (λ (x : Access). x.buffer) is ∙ same.0,
  ap (λ (x : Access). x.caller) is ∙ same.1,
  ap (λ (x : Access). x.size) is ∙ same.2,
)
