-- The files of other names are as they were at first.
use Rattle.std.specs.Prelude.{◌≡◌, ℕ, zero, suc, true, List, [], ◌∷◌, ◌++◌, Contains, Option, Some, None, Ok, refl, ◌⊎◌}
use Rattle.std.specs.Option.{option_map}
use Rattle.std.proofs.Common.{ap, sym, subst, ◌∙◌, arith, inl, inr}
use Rattle.daq_types.specs.Callers.{entries_by, main_caller}
use Rattle.daq_types.specs.declared.runs.Order.{Order}
use Rattle.daq_types.specs.declared.runs.RunState.{RunState}
use Rattle.daq_types.specs.declared.runs.RunState.TheVariants.{Stopped, Running, Paused}
use Rattle.daq_types.specs.declared.runs.Transition.{Transition}
use Rattle.daq_types.specs.declared.runs.Transition.TheVariants.{Start, Stop, Pause, Resume, StartAbort}
use Rattle.transitions.specs.States.{is_allowed}
use Rattle.buffer_core.specs.Slots.{slot_at}
use Rattle.transitions.specs.declared.entry.EngineEntry.TheVariants.{Begin}
use Rattle.transitions.specs.Engines.{engine_opening}
use Rattle.transitions.specs.EnginePoints.{engine_past, state_at}
use Rattle.member_model.specs.RunEngines.{Sheet, EngineEntry, IsEngineCaller, IsLegalEngine}
use Rattle.member_model.specs.Turns.{MemberTurn, HasTurn}
use Rattle.member_model.specs.TurnCalls.{member_turns}
use Rattle.sub_files.specs.Patterns.{piece_name_by}
use Rattle.mid_logger.specs.declared.channel.Channel.{Channel}
use Rattle.mid_logger.specs.declared.channel_spec.ChannelSpec.{ChannelSpec}
use Rattle.loggers.specs.OtherFiles.{specs_in, IsRunName, KeepsOtherFiles}
use Rattle.history_laws.specs.BegunTurns.{WasBegun}
use Rattle.history_laws.specs.CallerLaws.{AttachesGiveOnce}
use Rattle.history_laws.specs.EngineLaws.{TurnsWereBegun}
use Rattle.composition.proofs.SessionTurns.{speaks}
use Rattle.daq_members.specs.StartedRuns.{runs_with, started_runs}
use Rattle.session_laws.specs.ClosedSessions.{ClosedSession, logger_client, logger_caller, engine_calls}
use Rattle.session_laws.specs.MembersAtEnd.{MembersAtEnd}
use Rattle.session_laws.specs.OtherNames.{BeginsStartOf}
use Rattle.session_laws.specs.EndLaws.{OtherNamesStay}
use Rattle.session_laws.proofs.EachCaller.{own_around}
use Rattle.session_laws.proofs.MainFirst.{may_call}
use Rattle.session_laws.proofs.LoggerEnd.{given_once}
use Rattle.session_laws.proofs.KeptTogether.{names_own}

-- A run that the turns start is that of a start turn among them.

pub record StartTurn (turns : List MemberTurn) (run : ℕ) : Type 0 where
  pub turn : MemberTurn
  pub stands : HasTurn turns turn
  pub is : turn.transition ≡ Start
  pub number : turn.order.run ≡ run

this_or_later : (t : Transition) (run n : ℕ) (runs : List ℕ) → Contains (runs_with t run runs) n → ((t ≡ Start) × (run ≡ n)) ⊎ Contains runs n
this_or_later Start run n runs (zero, within, is) = inl (refl, is)
this_or_later Start run n runs (suc k, within, is) = inr (k, omega (arith, within), is)
this_or_later Stop run n runs has = inr has
this_or_later Pause run n runs has = inr has
this_or_later Resume run n runs has = inr has
this_or_later StartAbort run n runs has = inr has

start_turn : (ts : List MemberTurn) (run : ℕ) → Contains (started_runs ts) run → StartTurn ts run
start_turn [] run has = absurd (omega (arith, has.1))
start_turn (t ∷ ts) run has = elim (this_or_later t.transition t.order.run run (started_runs ts) has) as (λ w. StartTurn (t ∷ ts) run) [
  | inl here ↦ record { turn = t; stands = inl refl; is = here.0; number = here.1 }
  | inr later ↦ (let found : StartTurn ts run = start_turn ts run later in record { turn = found.turn; stands = inr found.stands; is = found.is; number = found.number })
]

-- The main thread began it.

of_start : (t : Transition) (turn : MemberTurn) → (turn.transition ≡ t) ⊎ ((t ≡ Start) × (turn.transition ≡ StartAbort)) → turn.transition ≡ Start → t ≡ Start
of_start t turn (inl same) starts = sym same ∙ starts
of_start t turn (inr off) starts = off.0

-- among the main thread's calls is the begin of the start that the turn is of
pub record StartBegun (c : ClosedSession) (turn : MemberTurn) : Type 0 where
  pub sheet : Sheet
  pub before : List EngineEntry
  pub after : List EngineEntry
  pub whole : engine_calls c main_caller ≡ before ++ Begin Start sheet (Ok turn.order.start) ∷ after
  pub number : sheet.run ≡ turn.order.run

begin_told : (c : ClosedSession) → MembersAtEnd c → (turn : MemberTurn) (was : WasBegun c.engine turn) → was.transition ≡ Start → StartBegun c turn
begin_told c ends turn was kind =
    let start : ℕ = turn.order.start in
    let may : IsEngineCaller was.caller (Begin was.transition was.sheet (Ok start)) =
    may_call engine_opening was.earlier (was.caller, Begin was.transition was.sheet (Ok start)) was.later (subst (IsLegalEngine engine_opening) was.stands ends.engine) in
    let begin : EngineEntry = Begin Start was.sheet (Ok start) in
    let stands : c.engine ≡ was.earlier ++ (main_caller, begin) ∷ was.later =
    was.stands
    ∙ (ap (λ (n : ℕ). was.earlier ++ (n, Begin was.transition was.sheet (Ok start)) ∷ was.later) may.0
    ∙ ap (λ (t : Transition). was.earlier ++ (main_caller, Begin t was.sheet (Ok start)) ∷ was.later) kind) in
    record {
      sheet = was.sheet;
      before = entries_by main_caller was.earlier;
      after = entries_by main_caller was.later;
      whole = ap (entries_by main_caller) stands ∙ own_around main_caller was.earlier was.later begin;
      number = sym (ap (λ (o : Order). o.run) was.of_begin.order);
    }

was_begun : TurnsWereBegun → (c : ClosedSession) → MembersAtEnd c → (turn : MemberTurn) → HasTurn (member_turns (logger_client c) (engine_calls c (logger_caller c))) turn → WasBegun c.engine turn
was_begun law c ends turn has = law (logger_caller c) (logger_client c) c.engine ends.engine (speaks (logger_client c) c.engine (names_own c ends)) turn has

pub start_begun : TurnsWereBegun → (c : ClosedSession) → MembersAtEnd c → (turn : MemberTurn) → HasTurn (member_turns (logger_client c) (engine_calls c (logger_caller c))) turn → turn.transition ≡ Start → StartBegun c turn
start_begun law c ends turn has is =
    let was : WasBegun c.engine turn = was_begun law c ends turn has in
    begin_told c ends turn was (of_start was.transition turn was.of_begin.kind is)

-- a start-abort is not begun: it comes of a start
never_begun : (state : RunState) → is_allowed state StartAbort ≡ true → ⊥
never_begun Stopped allowed = absurd (cc (allowed))
never_begun Running allowed = absurd (cc (allowed))
never_begun Paused allowed = absurd (cc (allowed))

pub abort_begun : TurnsWereBegun → (c : ClosedSession) → MembersAtEnd c → (turn : MemberTurn) → HasTurn (member_turns (logger_client c) (engine_calls c (logger_caller c))) turn → turn.transition ≡ StartAbort → StartBegun c turn
abort_begun law c ends turn has is =
    let was : WasBegun c.engine turn = was_begun law c ends turn has in
    elim was.of_begin.kind as (λ w. StartBegun c turn) [
      | inl same ↦ absurd (never_begun (state_at (engine_past was.earlier)) (subst (λ (t : Transition). is_allowed (state_at (engine_past was.earlier)) t ≡ true) (sym same ∙ is) was.of_begin.allowed))
      | inr off ↦ begin_told c ends turn was off.0
    ]

starts_run : TurnsWereBegun → (c : ClosedSession) → MembersAtEnd c → (run : ℕ) → StartTurn (member_turns (logger_client c) (engine_calls c (logger_caller c))) run → BeginsStartOf (engine_calls c main_caller) run
starts_run law c ends run started =
    let b : StartBegun c started.turn = start_begun law c ends started.turn started.stands started.is in
    record { sheet = b.sheet; start = started.turn.order.start; before = b.before; after = b.after; whole = b.whole; number = b.number ∙ started.number }

-- The channel of a spec.

pub record HasSpec (slots : List (Option Channel)) (n : ℕ) (spec : ChannelSpec) : Type 0 where
  pub channel : Channel
  pub at : slot_at slots n ≡ Some channel
  pub is : channel.spec ≡ spec

spec_of : (o : Option Channel) (spec : ChannelSpec) → option_map (λ (c : Channel). c.spec) o ≡ Some spec → (c : Channel) × (o ≡ Some c) × (c.spec ≡ spec)
spec_of None spec is = absurd (cc (is))
spec_of (Some c) spec is = (c, refl, cc (is))

pub has_spec : (slots : List (Option Channel)) (n : ℕ) (spec : ChannelSpec) → slot_at (specs_in slots) n ≡ Some spec → HasSpec slots n spec
has_spec [] n spec at = absurd (cc (at))
has_spec (o ∷ os) zero spec at = (let found = spec_of o spec at in record { channel = found.0; at = found.1; is = found.2 })
has_spec (o ∷ os) (suc n) spec at = (let found : HasSpec os n spec = has_spec os n spec at in record { channel = found.channel; at = found.at; is = found.is })

pub names_stay : TurnsWereBegun → AttachesGiveOnce → OtherNamesStay
names_stay law once c ends name other =
    let turns : List MemberTurn = member_turns (logger_client c) (engine_calls c (logger_caller c)) in
    let kept : KeepsOtherFiles (specs_in c.slots) (started_runs turns) c.first_files c.files = ends.logger.others (given_once once c ends) in
    let never : IsRunName (specs_in c.slots) (started_runs turns) name → ⊥ = λ is.
    (let channel : HasSpec c.slots is.number is.spec = has_spec c.slots is.number is.spec is.there in
    other is.run is.number is.sub channel.channel (starts_run law c ends is.run (start_turn turns is.run is.among)) channel.at is.few
    (ap (λ (s : ChannelSpec). piece_name_by s.pattern is.run is.sub) channel.is ∙ is.is)) in
    kept.others name never
