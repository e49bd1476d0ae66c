-- What the counts of a closed session's run files tell.
use Rattle.std.specs.Prelude.{◌≡◌, ℕ, true, IsTrue, List, [], slice_get, Option, Some, None, refl}
use Rattle.std.proofs.Common.{ap, sym, subst, ◌∙◌, arith, inl, inr}
use Rattle.daq_types.specs.Callers.{caller_of_client, main_caller}
use Rattle.daq_types.specs.declared.runs.ChannelEnd.{ChannelEnd}
use Rattle.daq_types.specs.declared.runs.ChannelState.{ChannelState}
use Rattle.daq_types.specs.declared.runs.ChannelState.TheVariants.{Idle, Writing, Broken, Ended, NoEnd, NoMark}
use Rattle.daq_types.specs.declared.runs.Order.{Order}
use Rattle.daq_types.specs.declared.runs.RunState.TheVariants.{Stopped}
use Rattle.daq_types.specs.declared.runs.StartOutcome.TheVariants.{Completed, Refused}
use Rattle.daq_types.specs.declared.runs.Transition.TheVariants.{Start, Stop}
use Rattle.daq_types.specs.declared.runs.Why.{Why}
use Rattle.daq_types.specs.declared.runs.Why.TheVariants.{NotReady, Exists, Fault, BufferRefused}
use Rattle.daq_io.specs.Counts.{Rose}
use Rattle.daq_io.specs.Told.{FilesTold}
use Rattle.transitions.specs.declared.answers.Answer.TheVariants.{Yes, No}
use Rattle.transitions.specs.declared.answers.Tally.TheVariants.{Channels}
use Rattle.transitions.specs.EngineCalls.{order_for}
use Rattle.transitions.specs.EnginePoints.{engine_past, state_at}
use Rattle.member_model.specs.RunEngines.{Sheet, Answer, ClientTally, EngineEntry}
use Rattle.member_model.specs.Turns.{MemberTurn, HasTurn}
use Rattle.member_model.specs.TurnCalls.{member_turns}
use Rattle.member_model.specs.LoggerKept.{LoggerChannel, IsStateSo}
use Rattle.loggers.specs.LoggerStands.{logger_channels}
use Rattle.loggers.specs.OtherFiles.{specs_in}
use Rattle.loggers.specs.Reasons.{AreEndsSo, AreAnswersSo, NamesRefuser, AnswerFits, ReasonsTell}
use Rattle.analyzers.specs.AnalyzerKept.{IsAnalyzerReason}
use Rattle.session_laws.specs.BlankLaws.{BlanksSuffice}
use Rattle.history_laws.specs.BegunTurns.{HasTransition, IsRefusedTurn, IsTallyOfTurn}
use Rattle.history_laws.specs.EngineLaws.{MainHasTransition, RefusalsAreAnswers, TalliesAreAnswers, RunsAreOver}
use Rattle.composition.specs.Sessions.{Session, buffer_calls}
use Rattle.composition.specs.SessionRuns.{SessionRun, IsStoppedRun, ToldChannel}
use Rattle.composition.specs.CompositionLaws.{IsComposed}
use Rattle.composition.proofs.FilesTogether.{yes_channels}
use Rattle.composition.proofs.SessionTurns.{speaks}
use Rattle.session_laws.specs.ClosedSessions.{ClosedFront, ClosedSession, logger_client, logger_caller, engine_calls, calls_on_buffer, session_of, session_front, ClosedAnalyzer, analyzer_client}
use Rattle.session_laws.specs.MembersAtEnd.{MembersAtEnd}
use Rattle.session_runs.specs.MadeTransitions.{TransitionIn}
use Rattle.session_laws.specs.MadeRuns.{RunIn}
use Rattle.session_laws.specs.EndLaws.{EndsComposed, MadeAreStopped}
use Rattle.session_laws.specs.CountedFaults.{LoggerReasons, LoggerNames, IsLoggerReason, IsAnalyzerRefusal, IsRefusedSo, state_by_dump, CountsTell}
use Rattle.session_laws.proofs.EachCaller.{by_caller}
use Rattle.session_laws.proofs.MembersListed.{front_listed}
use Rattle.session_laws.proofs.KeptTogether.{names_own}
use Rattle.session_laws.proofs.LoggerRefusals.{never_unready}
use Rattle.session_laws.proofs.NoneRefused.{AskLaws, logger_granted, analyzer_granted}
use Rattle.session_laws.proofs.BlanksGiven.{few_blanks}
use Rattle.session_laws.proofs.RunsMade.{has_made}
use Rattle.session_laws.specs.OtherNames.{AreStartsOver, HasFirstFault, IsTakenName}
use Rattle.session_laws.proofs.TakenNames.{taken_name, free_names, first_fault}
use Rattle.session_laws.proofs.RunTurns.{TurnLaws}
use Rattle.session_laws.proofs.UndoneNames.{firsts_stay, undone_stay}

-- the laws of engines, of loggers, and of closed sessions
pub record CountLaws : Type 0 where
  pub main : MainHasTransition
  pub refusals : RefusalsAreAnswers
  pub tallies : TalliesAreAnswers
  pub tell : ReasonsTell
  pub composed : EndsComposed
  pub stopped : MadeAreStopped
  pub turns : TurnLaws
  pub over : RunsAreOver
  pub asking : AskLaws
  pub blanks : BlanksSuffice

-- Refusals.

refused_turn : CountLaws → (c : ClosedSession) → MembersAtEnd c → (sheet : Sheet) (start client : ℕ) (why : Why) (tallies : List ClientTally) → (has : HasTransition c.engine Start sheet start (Refused client why) tallies)
    → IsRefusedTurn (member_turns client (engine_calls c (caller_of_client client))) (state_at (engine_past has.earlier)) sheet start why
refused_turn laws c ends sheet start client why tallies has =
    laws.refusals (caller_of_client client) client c.engine ends.engine (speaks client c.engine (names_own c ends)) sheet start why tallies has

-- who refuses has calls on the engine: it is a front-end, or the logger
abbrev RefusesBy : (c : ClosedSession) → (first now : FilesTold) → (sheet : Sheet) → (start : ℕ) → (why : Why) → (tallies : List ClientTally) → (by : ℕ) → Type 0
RefusesBy c first now sheet start why tallies by =
    (client : ℕ) → by ≡ caller_of_client client → (turn : MemberTurn) → HasTurn (member_turns client (engine_calls c by)) turn → turn.transition ≡ Start → turn.answer ≡ Some (No why) → HasTransition c.engine Start sheet start (Refused client why) tallies
    → IsRefusedSo c first now sheet start client why

main_refuses : (c : ClosedSession) (first now : FilesTold) (sheet : Sheet) (start : ℕ) (why : Why) (tallies : List ClientTally) → RefusesBy c first now sheet start why tallies main_caller
main_refuses c first now sheet start why tallies client is turn stands starts answered has = absurd (omega (arith, is))

front_refuses : CountLaws → (c : ClosedSession) → MembersAtEnd c → (first now : FilesTold) (sheet : Sheet) (start : ℕ) (why : Why) (tallies : List ClientTally) (n : ℕ) (f : ClosedFront) → slice_get c.fronts n ≡ Some f → RefusesBy c first now sheet start why tallies (caller_of_client n)
front_refuses laws c ends first now sheet start why tallies n f at client is turn stands starts answered has =
    let same : client ≡ n = omega (arith, is) in
    let mine : HasTransition c.engine Start sheet start (Refused n why) tallies = subst (λ (k : ℕ). HasTransition c.engine Start sheet start (Refused k why) tallies) same has in
    let composed = laws.composed c ends in
    let so = composed.fronts_refuse (session_front n f (ends.moments n)) (n, front_listed c ends.moments n f at) sheet start why tallies mine in
    inl (record { front = f; stands = subst (λ (k : ℕ). slice_get c.fronts k ≡ Some f) (sym same) at; why_is = so.0; no_part = so.1 })

-- each answer of the logger rests on what was counted
answers_so : CountLaws → (c : ClosedSession) (ends : MembersAtEnd c) (first now : FilesTold) → LoggerReasons c ends first now → AreAnswersSo (member_turns (logger_client c) (engine_calls c (logger_caller c))) first now
answers_so laws c ends first now reasons = laws.tell c.slots ends.logger.ports first now (member_turns (logger_client c) (engine_calls c (logger_caller c))) reasons

-- the channel for whose file the logger refused a start is one of its own
refuser_so : (c : ClosedSession) (ends : MembersAtEnd c) (first now : FilesTold) → LoggerReasons c ends first now → (why : Why) (turn : MemberTurn) → HasTurn (member_turns (logger_client c) (engine_calls c (logger_caller c))) turn → turn.answer ≡ Some (No why) → NamesRefuser why (specs_in c.slots)
refuser_so c ends first now reasons why turn stands answered =
    (subst (λ (answer : Option Answer). AnswerFits (specs_in c.slots) turn.transition answer) answered (reasons.fits turn stands)).channels

-- why the logger answered so
logger_reason : CountLaws → (c : ClosedSession) (ends : MembersAtEnd c) (first now : FilesTold) → LoggerReasons c ends first now → (why : Why) (turn : MemberTurn) → HasTurn (member_turns (logger_client c) (engine_calls c (logger_caller c))) turn → turn.transition ≡ Start → turn.answer ≡ Some (No why)
    → IsLoggerReason c why first now
logger_reason laws c ends first now reasons NotReady turn stands starts answered = absurd (never_unready laws.turns laws.over c ends turn stands starts answered)
logger_reason laws c ends first now reasons (Exists channel) turn stands starts answered =
    (refuser_so c ends first now reasons (Exists channel) turn stands answered, answers_so laws c ends first now reasons turn (No (Exists channel)) stands answered)
logger_reason laws c ends first now reasons (Fault channel) turn stands starts answered =
    (refuser_so c ends first now reasons (Fault channel) turn stands answered, answers_so laws c ends first now reasons turn (No (Fault channel)) stands answered)
logger_reason laws c ends first now reasons BufferRefused turn stands starts answered = absurd (logger_granted laws.turns laws.asking c ends laws.over (reasons.buffers turn stands answered))

logger_refuses : CountLaws → (c : ClosedSession) (ends : MembersAtEnd c) (first now : FilesTold) → LoggerReasons c ends first now → (sheet : Sheet) (start : ℕ) (why : Why) (tallies : List ClientTally) → RefusesBy c first now sheet start why tallies (logger_caller c)
logger_refuses laws c ends first now reasons sheet start why tallies client is turn stands starts answered has =
    let same : client ≡ logger_client c = omega (arith, is) in
    let mine : HasTurn (member_turns (logger_client c) (engine_calls c (logger_caller c))) turn = subst (λ (k : ℕ). HasTurn (member_turns k (engine_calls c (logger_caller c))) turn) same stands in
    inr (inl (same, logger_reason laws c ends first now reasons why turn mine starts answered))

-- why an analyzer did
analyzer_reason : CountLaws → (c : ClosedSession) (ends : MembersAtEnd c) (place : ℕ) (a : ClosedAnalyzer) → slice_get c.analyzers place ≡ Some a → (sheet : Sheet) (start : ℕ) (tallies : List ClientTally) (why : Why)
    → HasTransition c.engine Start sheet start (Refused (analyzer_client c place) why) tallies → IsAnalyzerReason (calls_on_buffer c (caller_of_client (analyzer_client c place)) a.buffer) why → IsAnalyzerRefusal c sheet (analyzer_client c place) why
analyzer_reason laws c ends place a at sheet start tallies NotReady has so =
    record { place = place; analyzer = a; stands = at; is = refl; why_is = refl; few_blanks = few_blanks laws.blanks c ends place a at sheet start tallies has }
analyzer_reason laws c ends place a at sheet start tallies (Exists channel) has so = absurd so
analyzer_reason laws c ends place a at sheet start tallies (Fault channel) has so = absurd so
analyzer_reason laws c ends place a at sheet start tallies BufferRefused has so = absurd (analyzer_granted laws.turns laws.asking c ends place a at so)

analyzer_refuses : CountLaws → (c : ClosedSession) → MembersAtEnd c → (first now : FilesTold) (sheet : Sheet) (start : ℕ) (why : Why) (tallies : List ClientTally) (place : ℕ) (a : ClosedAnalyzer) → slice_get c.analyzers place ≡ Some a → RefusesBy c first now sheet start why tallies (caller_of_client (analyzer_client c place))
analyzer_refuses laws c ends first now sheet start why tallies place a at client is turn stands starts answered has =
    let n : ℕ = analyzer_client c place in
    let same : client ≡ n = omega (arith, is) in
    let mine : HasTurn (member_turns n (engine_calls c (caller_of_client n))) turn = subst (λ (k : ℕ). HasTurn (member_turns k (engine_calls c (caller_of_client n))) turn) same stands in
    let of : HasTransition c.engine Start sheet start (Refused n why) tallies = subst (λ (k : ℕ). HasTransition c.engine Start sheet start (Refused k why) tallies) same has in
    inr (inr (subst (λ (k : ℕ). IsAnalyzerRefusal c sheet k why) (sym same) (analyzer_reason laws c ends place a at sheet start tallies why of ((ends.analyzers place a at).stands.stands.asks.refusals turn why mine answered))))

other_refuses : (c : ClosedSession) (first now : FilesTold) (sheet : Sheet) (start : ℕ) (why : Why) (tallies : List ClientTally) (by : ℕ) → engine_calls c by ≡ [] → RefusesBy c first now sheet start why tallies by
other_refuses c first now sheet start why tallies by none client is turn stands starts answered has =
    absurd (subst (λ (calls : List EngineEntry). HasTurn (member_turns client calls) turn) none stands)

refused_so : CountLaws → (c : ClosedSession) (ends : MembersAtEnd c) (first now : FilesTold) → LoggerReasons c ends first now → (sheet : Sheet) (start client : ℕ) (why : Why) (tallies : List ClientTally) → TransitionIn (engine_calls c main_caller) Start sheet start (Refused client why) tallies
    → IsRefusedSo c first now sheet start client why
refused_so laws c ends first now reasons sheet start client why tallies made =
    let has : HasTransition c.engine Start sheet start (Refused client why) tallies = has_made laws.main c.engine Start sheet start (Refused client why) tallies ends.engine made in
    let r = refused_turn laws c ends sheet start client why tallies has in
    by_caller (RefusesBy c first now sheet start why tallies) c
    (main_refuses c first now sheet start why tallies)
    (λ n f at. front_refuses laws c ends first now sheet start why tallies n f at)
    (logger_refuses laws c ends first now reasons sheet start why tallies)
    (λ place a at. analyzer_refuses laws c ends first now sheet start why tallies place a at)
    (λ by past. other_refuses c first now sheet start why tallies by (ends.others.engine by past))
    (caller_of_client client) client refl r.turn r.stands r.starts r.answered has

started_so : CountLaws → (c : ClosedSession) → MembersAtEnd c → (sheet : Sheet) (start : ℕ) (tallies : List ClientTally) → TransitionIn (engine_calls c main_caller) Start sheet start Completed tallies → (client : ℕ) (f : ClosedFront) → slice_get c.fronts client ≡ Some f
    → f.takes (order_for sheet start Stopped) ≡ true
started_so laws c ends sheet start tallies made client f at =
    let composed = laws.composed c ends in
    composed.fronts_take sheet start tallies (has_made laws.main c.engine Start sheet start Completed tallies ends.engine made) (session_front client f (ends.moments client)) (client, front_listed c ends.moments client f at)

-- Channels.

broken_so : CountLaws → (c : ClosedSession) (ends : MembersAtEnd c) (first now : FilesTold) → LoggerReasons c ends first now → (moments : (client : ℕ) → List ℕ) (r : SessionRun) → RunIn (engine_calls c main_caller) r → (channel : LoggerChannel) (told : ChannelEnd) → ToldChannel (session_of c moments) r channel told
    → told.state ≡ Broken → Rose first.faults now.faults
broken_so laws c ends first now reasons moments r made channel told tells broken =
    let n : ℕ = logger_client c in
    let run : IsStoppedRun (session_of c moments) r = laws.stopped (session_of c moments) ends.engine r made in
    let t : IsTallyOfTurn c.engine n (member_turns n (engine_calls c (logger_caller c))) (state_at (engine_past run.stopped.earlier)) Stop r.last r.start Completed (Channels tells.ends) =
    laws.tallies (logger_caller c) n c.engine ends.engine (speaks n c.engine (names_own c ends)) Stop r.last r.start Completed r.last_tallies run.stopped tells.index (Channels tells.ends) tells.tells in
    let answered : t.turn.answer ≡ Some (Yes (Channels tells.ends)) = t.answered ∙ ap (λ (a : Answer). Some a) (yes_channels t.answer tells.ends t.tally_is) in
    let so : AreEndsSo tells.ends first now = answers_so laws c ends first now reasons t.turn (Yes (Channels tells.ends)) t.stands answered in
    so channel.number told tells.at broken

with_dump : (dump : Option (List ℕ)) → (dump ≡ None → ⊥) → Ended ≡ state_by_dump dump
with_dump None some = absurd (some refl)
with_dump (Some bytes) some = refl

state_is : (s : Session) → IsComposed s → (r : SessionRun) → IsStoppedRun s r → (index : ℕ) (channel : LoggerChannel) → slice_get s.channels index ≡ Some channel → (told : ChannelEnd) → ToldChannel s r channel told → (told.state ≡ Broken → ⊥) → (state : ChannelState) → told.state ≡ state
    → IsStateSo (buffer_calls s channel.buffer s.logger) r.start r.last.dump state → state ≡ state_by_dump r.last.dump
state_is s composed r run index channel at told tells none Idle is so = absurd so
state_is s composed r run index channel at told tells none Writing is so = absurd so
state_is s composed r run index channel at told tells none Broken is so = absurd (none is)
state_is s composed r run index channel at told tells none Ended is so = with_dump r.last.dump so.0
state_is s composed r run index channel at told tells none NoEnd is so = ap state_by_dump (sym so.0)
state_is s composed r run index channel at told tells none NoMark is so = absurd (composed.no_end_refused r run index channel at told tells is)

ended_so : CountLaws → (c : ClosedSession) (ends : MembersAtEnd c) (first now : FilesTold) → LoggerReasons c ends first now → (Rose first.faults now.faults → ⊥) → (moments : (client : ℕ) → List ℕ) (r : SessionRun) → RunIn (engine_calls c main_caller) r → (index : ℕ) (channel : LoggerChannel)
    → slice_get (logger_channels (λ number. 0) c.slots) index ≡ Some channel → (told : ChannelEnd) → ToldChannel (session_of c moments) r channel told → told.state ≡ state_by_dump r.last.dump
ended_so laws c ends first now reasons stays moments r made index channel at told tells =
    let composed = laws.composed c ends in
    let s : Session = session_of c ends.moments in
    let run : IsStoppedRun s r = laws.stopped s ends.engine r made in
    let here : ToldChannel s r channel told = record { index = tells.index; ends = tells.ends; tells = tells.tells; at = tells.at } in
    state_is s composed r run index channel at told here (λ broken. stays (broken_so laws c ends first now reasons ends.moments r made channel told here broken)) told.state refl (composed.ends_so r run index channel at told here).state

-- Names that were taken.

taken_so : CountLaws → (c : ClosedSession) (ends : MembersAtEnd c) (first now : FilesTold) → LoggerReasons c ends first now → LoggerNames c ends first now → IsTrue first.seen.names → AreStartsOver (engine_calls c main_caller)
    → (sheet : Sheet) (start number : ℕ) (tallies : List ClientTally) → TransitionIn (engine_calls c main_caller) Start sheet start (Refused (logger_client c) (Exists number)) tallies → IsTakenName c first now sheet.run start number
taken_so laws c ends first now reasons names tells over sheet start number tallies made =
    let n : ℕ = logger_client c in
    let has : HasTransition c.engine Start sheet start (Refused n (Exists number)) tallies = has_made laws.main c.engine Start sheet start (Refused n (Exists number)) tallies ends.engine made in
    let r = refused_turn laws c ends sheet start n (Exists number) tallies has in
    taken_name laws.turns laws.over c ends first now names tells over r.turn r.stands r.starts number r.answered sheet.run start (ap (λ (o : Order). o.run) r.of_begin.order) (ap (λ (o : Order). o.start) r.of_begin.order)

-- Starts that were refused for a fault.

faulted_so : CountLaws → (c : ClosedSession) (ends : MembersAtEnd c) (first now : FilesTold) → LoggerNames c ends first now → first.first ≡ None → AreStartsOver (engine_calls c main_caller)
    → (sheet : Sheet) (start number : ℕ) (tallies : List ClientTally) → TransitionIn (engine_calls c main_caller) Start sheet start (Refused (logger_client c) (Fault number)) tallies → HasFirstFault c now sheet.run start number
faulted_so laws c ends first now names none over sheet start number tallies made =
    let n : ℕ = logger_client c in
    let has : HasTransition c.engine Start sheet start (Refused n (Fault number)) tallies = has_made laws.main c.engine Start sheet start (Refused n (Fault number)) tallies ends.engine made in
    let r = refused_turn laws c ends sheet start n (Fault number) tallies has in
    first_fault laws.turns laws.over c ends first now names none over r.turn r.stands r.starts number r.answered sheet.run start (ap (λ (o : Order). o.run) r.of_begin.order) (ap (λ (o : Order). o.start) r.of_begin.order)

pub counts_tell : CountLaws → CountsTell
counts_tell laws c ends first now reasons names = record {
  refused = refused_so laws c ends first now reasons;
  started = started_so laws c ends;
  broken = broken_so laws c ends first now reasons;
  ended = ended_so laws c ends first now reasons;
  names = undone_stay laws.turns c ends first now names;
  kept = firsts_stay laws.turns c ends first now names;
  taken = taken_so laws c ends first now reasons names;
  free = free_names laws.turns laws.over c ends first now names;
  faulted = faulted_so laws c ends first now names;
}
