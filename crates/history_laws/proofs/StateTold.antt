-- Where a transition begins, the state that the engine is in is the one that its history tells.
use Rattle.std.specs.Prelude.{◌≡◌, ℕ, Bool, false, if◌then◌else◌, [], ◌∷◌, ◌++◌, Option, None, Ok, Err, refl}
use Rattle.std.proofs.Common.{ap, sym, ◌∙◌}
use Rattle.daq_types.specs.declared.runs.RunState.{RunState}
use Rattle.daq_types.specs.declared.runs.RunState.TheVariants.{Stopped, Paused, Running}
use Rattle.daq_types.specs.declared.runs.Transition.{Transition}
use Rattle.daq_types.specs.declared.runs.Transition.TheVariants.{Start, Stop}
use Rattle.transitions.specs.States.{is_allowed}
use Rattle.buffer_core.proofs.SlotLaws.{split}
use Rattle.transitions.specs.declared.replies.BeginRefusal.TheVariants.{Closed as BeginClosed, WrongState}
use Rattle.transitions.specs.declared.entry.EngineEntry.TheVariants.{Begin}
use Rattle.transitions.specs.Engines.{engine_opening}
use Rattle.transitions.specs.EngineCalls.{start_reply, begin_reply, begin_reply_in, IsEngineReply, engine_after}
use Rattle.transitions.specs.EngineHistories.{engine_replay}
use Rattle.transitions.specs.EnginePoints.{engine_past, state_at}
use Rattle.transitions.specs.TurnOrder.{TurnsInOrder}
use Rattle.member_model.specs.RunEngines.{Sheet, EngineEntry, Underway, EngineState, EngineHistory, IsEngineCaller, IsLegalEngine}
use Rattle.history_laws.proofs.Replies.{begins}

-- the law of what a history tells
abbrev pub Follows : Type 0
Follows = (history : EngineHistory) → IsLegalEngine engine_opening history → TurnsInOrder history

pub legal_joined : (s : EngineState) (xs ys : EngineHistory) → IsLegalEngine s xs → IsLegalEngine (engine_replay s xs) ys → IsLegalEngine s (xs ++ ys)
legal_joined s [] ys front back = back
legal_joined s (x ∷ xs) ys front back = (front.0, front.1, legal_joined (engine_after s x.1) xs ys front.2 back)

pub replay_apart : (s : EngineState) (xs ys : EngineHistory) → engine_replay s (xs ++ ys) ≡ engine_replay (engine_replay s xs) ys
replay_apart s [] ys = refl
replay_apart s (x ∷ xs) ys = replay_apart (engine_after s x.1) xs ys

-- A begin that this state does not allow is refused with the state. So the law of refusals tells the state.

abbrev barred : RunState → Transition
barred Stopped = Stop
barred Paused = Start
barred Running = Start

is_barred : (state : RunState) → is_allowed state (barred state) ≡ false
is_barred Stopped = refl
is_barred Paused = refl
is_barred Running = refl

not_closed : (s : EngineState) (t : Transition) (n : ℕ) → Ok n ≡ begin_reply s t → s.closed ≡ false
not_closed s t n e =
    split s.closed (λ b. Ok n ≡ (if b then Err BeginClosed else begin_reply_in s.underway s.state t s.start) → b ≡ false)
    (λ h e'. absurd cc) (λ h e'. refl) e

refused_reply : (s : EngineState) (t : Transition) → s.closed ≡ false → s.underway ≡ None → is_allowed s.state t ≡ false → Err (WrongState s.state) ≡ begin_reply s t
refused_reply s t open_still free not_allowed = sym (
    ap (λ (b : Bool). if b then Err BeginClosed else begin_reply_in s.underway s.state t s.start) open_still
    ∙ (ap (λ (o : Option Underway). begin_reply_in o s.state t s.start) free
    ∙ ap (λ (b : Bool). if b then start_reply t s.start else Err (WrongState s.state)) not_allowed)
    )

-- the state is the one that the history tells, wherever a transition is begun
abbrev pub StateTold : EngineHistory → EngineState → Type 0
StateTold h s = (by : ℕ) (t : Transition) (sheet : Sheet) (n : ℕ) → IsEngineCaller by (Begin t sheet (Ok n)) → IsEngineReply s (Begin t sheet (Ok n)) → s.state ≡ state_at (engine_past h)

pub state_told : (follows : Follows) (h : EngineHistory) → IsLegalEngine engine_opening h → StateTold h (engine_replay engine_opening h)
state_told follows h legal by t sheet n may reply =
    let s : EngineState = engine_replay engine_opening h in
    let refused : EngineEntry = Begin (barred s.state) sheet (Err (WrongState s.state)) in
    let refuses : IsEngineReply s refused = refused_reply s (barred s.state) (not_closed s t n reply) (begins s t n reply).free (is_barred s.state) in
    let more : IsLegalEngine engine_opening (h ++ (by, refused) ∷ []) = legal_joined engine_opening h ((by, refused) ∷ []) legal (may, refuses, tt) in
    (follows (h ++ (by, refused) ∷ []) more).right h [] by refused refl
