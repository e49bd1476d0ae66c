-- The longer session meets what the laws of sessions ask.
use Rattle.std.specs.Prelude.{◌≡◌, ℕ, zero, suc, ◌≤◌, ◌==◌, nat_le, Bool, true, false, if◌then◌else◌, List, [], ◌∷◌, ◌++◌, length, take, drop, codes, slice_get, Contains, Some, None, Ok, refl, ◌⊎◌}
use Rattle.std.specs.List.{AllByRecursion}
use Rattle.std.proofs.Common.{ap, sym, ◌∙◌, subst, arith, inl, inr, ne_eqb}
use Rattle.std.proofs.lemmas.Bool.{eqb-true, eqb-false}
use Rattle.std.proofs.lemmas.List.Elements.{All-nil, All-cons}
use Rattle.daq_types.specs.Callers.{caller_of_client, entries_by}
use Rattle.daq_types.specs.declared.events.Event.{Event}
use Rattle.daq_types.specs.declared.runs.ChannelEnd.{ChannelEnd}
use Rattle.daq_types.specs.declared.runs.FrontEnded.{FrontEnded}
use Rattle.daq_types.specs.declared.runs.FrontEnded.TheVariants.{Paused as EndedPaused}
use Rattle.daq_types.specs.declared.runs.Kind.TheVariants.{All}
use Rattle.daq_types.specs.declared.runs.Order.{Order}
use Rattle.daq_types.specs.declared.runs.RunState.TheVariants.{Stopped, Paused, Running}
use Rattle.daq_types.specs.declared.runs.Transition.{Transition}
use Rattle.daq_types.specs.declared.runs.Transition.TheVariants.{Start, Stop, Pause}
use Rattle.daq_types.specs.declared.runs.Why.TheVariants.{NotReady}
use Rattle.event.specs.Events.{matches, slot_of_length, record_limit}
use Rattle.event.specs.RunFile.{IsFileEvent}
use Rattle.buffer_core.proofs.SlotLaws.{split}
use Rattle.buffer_core.specs.declared.gate.RunGate.TheVariants.{Shut}
use Rattle.buffer_core.specs.declared.replies.Received.TheVariants.{Got, Empty}
use Rattle.buffer_core.specs.declared.entry.BufferEntry.{BufferEntry}
use Rattle.buffer_core.specs.declared.entry.BufferEntry.TheVariants.{Attach, Request, SendInRun, Receive, Begin as BufferBegin, Pause as BufferPause, End as BufferEnd}
use Rattle.buffer_core.specs.Window.{opening, no_clients, no_requests, any}
use Rattle.buffer_core.specs.Histories.{IsLegal}
use Rattle.buffer_core.specs.Samples.{sample_event}
use Rattle.odb_value.specs.declared.items.Item.TheVariants.{UInt64}
use Rattle.odb_tree.specs.declared.entry.DatabaseEntry.TheVariants.{Set}
use Rattle.odb_runinfo.specs.RunKeys.{sent_path}
use Rattle.transitions.specs.declared.answers.Answer.TheVariants.{Yes, No}
use Rattle.transitions.specs.declared.answers.Tally.TheVariants.{Plain, Front, Channels}
use Rattle.transitions.specs.declared.entry.EngineEntry.TheVariants.{Register, Begin}
use Rattle.transitions.specs.Called.{called_list}
use Rattle.transitions.specs.Engines.{engine_opening}
use Rattle.transitions.specs.EngineCalls.{order_for}
use Rattle.transitions.specs.Sequences.{sequence_for}
use Rattle.member_model.specs.RunEngines.{Sheet, Answer as ClientAnswer, EngineEntry, EngineHistory, IsLegalEngine, IsSheet}
use Rattle.member_model.specs.Turns.{MemberTurn, HasTurn, HasTurnOf}
use Rattle.member_model.specs.Moments.{HasMoment}
use Rattle.member_model.specs.SentCalls.{SendsNotIn, EachCall}
use Rattle.member_model.specs.OwnCalls.{calls_after, AreOwnCalls, SendsNone}
use Rattle.member_model.specs.ReadRuns.{HasReadRun}
use Rattle.member_model.specs.LoggerKept.{LoggerChannel, LoggerPort, HasWritten, TellsChannel, IsStartAnswer, IsEndSo, KeepsLogger, series_from, stop_bytes}
use Rattle.front_ends.specs.Spans.{HasSpan}
use Rattle.front_ends.specs.FrontKept.{IsMade, AreNextSends, IsFrontTally, KeepsFront, KeepsMoments}
use Rattle.history_laws.specs.OneCaller.{WasSentAt}
use Rattle.history_laws.specs.CallerSamples.{got_first}
use Rattle.history_laws.specs.BegunTurns.{IsRegisteredIn}
use Rattle.composition.specs.SentSets.{AreTurnSets}
use Rattle.composition.specs.Sessions.{Session, SessionFront, SessionAnalyzer, HasFront, HasAnalyzer, IsMemberCaller, turns_of, buffer_calls, database_calls, IsRegistered, MembersKeep}
use Rattle.composition.specs.SessionRuns.{IsStoppedRun, ToldChannel}
use Rattle.composition.specs.SessionSamples.{whole_file, first_sheet, sample_bytes, made_whole}
use Rattle.composition.specs.PausedSamples.{at_each, pause_sheet, paused_stop_sheet, refused_sheet, paused_engine, buffer_of_sender, paused_history, paused_got, first_front, second_front, paused_channel, paused_files, paused_session, pausing_run}
use Rattle.composition.proofs.Sampled.{first_fair, sample_fine, one_file, whole_not_broken}

-- The histories are legal.

buffer_legal : (buffer : ℕ) → IsLegal (opening 48) (paused_history buffer)
unfolding no_clients no_requests slot_of_length matches
buffer_legal zero = (refl, (refl, (refl, (refl, (refl, (refl, (refl, (refl, tt))))))))
buffer_legal (suc zero) = (refl, (refl, (refl, (refl, (refl, (refl, (refl, (refl, tt))))))))
buffer_legal (suc (suc n)) = tt

short_dump : (byte : ℕ) (bytes : List ℕ) → Some (byte ∷ []) ≡ Some bytes → length bytes ≤ record_limit
short_dump byte bytes e =
    let same : byte ∷ [] ≡ bytes = cc (e) in
    omega (arith, sym (ap (λ (xs : List ℕ). length xs) same))

pause_fair : IsSheet pause_sheet
pause_fair = record { short = λ bytes e. absurd (let never : None ≡ Some bytes = e in cc (never)); blank = tt }

stop_fair : IsSheet paused_stop_sheet
stop_fair = record { short = short_dump 8; blank = tt }

refused_fair : IsSheet refused_sheet
refused_fair = record { short = short_dump 9; blank = tt }

paused_legal : IsLegalEngine engine_opening paused_engine
unfolding called_list
paused_legal =
    (refl, refl, (refl, refl, (refl, refl, ((refl, first_fair), refl, (tt, refl, (tt, refl, (tt, refl, (tt, refl, (tt, refl, (tt, refl, (refl, (refl, refl), ((refl, pause_fair), refl, (tt, refl, (tt, refl, (tt, refl, (tt, refl, (tt, refl, (tt, refl, (refl, (refl, refl), ((refl, stop_fair), refl, (tt, refl, (tt, refl, (tt, refl, (tt, refl, (tt, refl, (tt, refl, (refl, (refl, refl), ((refl, refused_fair), refl, (tt, refl, (tt, refl, (refl, (refl, refl), tt)))))))))))))))))))))))))))))))

-- The front-ends.

abbrev pub begun_turn : MemberTurn
begun_turn = record { transition = Start; order = order_for first_sheet 1 Stopped; dump = None; answer = Some (Yes Plain) }

abbrev pub paused_turn : MemberTurn
paused_turn = record { transition = Pause; order = order_for pause_sheet 1 Running; dump = None; answer = Some (Yes Plain) }

abbrev pub stopped_turn : MemberTurn
stopped_turn = record { transition = Stop; order = order_for paused_stop_sheet 1 Paused; dump = None; answer = Some (Yes (Front 1 EndedPaused)) }

abbrev pub refused_turn : MemberTurn
refused_turn = record { transition = Start; order = order_for refused_sheet 2 Stopped; dump = None; answer = Some (No NotReady) }

abbrev pub second_turns : List MemberTurn
second_turns = stopped_turn ∷ paused_turn ∷ begun_turn ∷ []

abbrev pub first_turns : List MemberTurn
first_turns = refused_turn ∷ second_turns

abbrev pub one_send : List BufferEntry
one_send = SendInRun 1 0 sample_event (Ok 0) ∷ []

abbrev pub takes_two : Order → Bool
takes_two order = nat_le order.quota 2

abbrev pub makes_one : Order → ℕ → Event
makes_one order number = sample_event

made_in : (turns : List MemberTurn) → HasTurnOf turns Start 1 begun_turn → (start : ℕ) → IsMade makes_one one_send turns start
made_in turns stands start =
    split (1 == start) (λ b. (1 == start) ≡ b → IsMade makes_one one_send turns start)
    (λ h e.
    let same : 1 ≡ start = eqb-true 1 start e in
    subst (λ (n : ℕ). IsMade makes_one one_send turns n) same (inr (record { turn = begun_turn; is_start = stands; number = 1; sent = refl })))
    (λ h e. inl (ap (λ (b : Bool). (if b then sample_event ∷ [] else []) ++ []) e))
    refl

sends_in : (turns : List MemberTurn) → HasTurnOf turns Start 1 begun_turn → AreNextSends makes_one [] turns one_send
sends_in turns stands = (record { turn = begun_turn; of_run = record { is_start = stands; accepted = refl }; more = omega arith; next = refl; size = refl }, tt)

starts_in : (t : MemberTurn) (answer : ClientAnswer) → HasTurn second_turns t → t.transition ≡ Start → t.answer ≡ Some answer → answer ≡ (if takes_two t.order then Yes Plain else No NotReady)
starts_in t answer (inl same) is told = absurd (let e : Stop ≡ Start = ap (λ (v : MemberTurn). v.transition) same ∙ is in cc (e))
starts_in t answer (inr (inl same)) is told = absurd (let e : Pause ≡ Start = ap (λ (v : MemberTurn). v.transition) same ∙ is in cc (e))
starts_in t answer (inr (inr (inl same))) is told =
    subst (λ (v : MemberTurn). answer ≡ (if takes_two v.order then Yes Plain else No NotReady)) same
    (let e : Some (Yes Plain) ≡ Some answer = ap (λ (v : MemberTurn). v.answer) same ∙ told in
    let f : Yes Plain ≡ answer = cc (e) in
    sym f)
starts_in t answer (inr (inr (inr none))) is told = absurd none

-- the one stop turn
stop_in : (t : MemberTurn) → HasTurn second_turns t → t.transition ≡ Stop → stopped_turn ≡ t
stop_in t (inl same) is = same
stop_in t (inr (inl same)) is = absurd (let e : Pause ≡ Stop = ap (λ (v : MemberTurn). v.transition) same ∙ is in cc (e))
stop_in t (inr (inr (inl same))) is = absurd (let e : Start ≡ Stop = ap (λ (v : MemberTurn). v.transition) same ∙ is in cc (e))
stop_in t (inr (inr (inr none))) is = absurd none

told_in : (t : MemberTurn) (answer : ClientAnswer) → stopped_turn ≡ t → t.answer ≡ Some answer → (sent : ℕ) × (ended : FrontEnded) × (answer ≡ Yes (Front sent ended))
told_in t answer same told =
    let e : Some (Yes (Front 1 EndedPaused)) ≡ Some answer = ap (λ (v : MemberTurn). v.answer) same ∙ told in
    let f : Yes (Front 1 EndedPaused) ≡ answer = cc (e) in
    (1, EndedPaused, sym f)

tally_right : (turns : List MemberTurn) (t : MemberTurn) (sent : ℕ) (ended : FrontEnded) → stopped_turn ≡ t → t.answer ≡ Some (Yes (Front sent ended)) → IsFrontTally one_send turns t.order sent ended
tally_right turns t sent ended same told =
    let e : Some (Yes (Front 1 EndedPaused)) ≡ Some (Yes (Front sent ended)) = ap (λ (v : MemberTurn). v.answer) same ∙ told in
    let number : 1 ≡ sent = cc (e) in
    let how : EndedPaused ≡ ended = cc (e) in
    subst (λ (v : MemberTurn). IsFrontTally one_send turns v.order sent ended) same
    (subst (λ (n : ℕ). IsFrontTally one_send turns (order_for paused_stop_sheet 1 Paused) n ended) number
    (subst (λ (x : FrontEnded). IsFrontTally one_send turns (order_for paused_stop_sheet 1 Paused) 1 x) how (record { number = refl; ended_so = refl })))

second_begun : HasTurnOf second_turns Start 1 begun_turn
second_begun = record { stands = inr (inr (inl refl)); is = refl; of = refl }

first_begun : HasTurnOf first_turns Start 1 begun_turn
first_begun = record { stands = inr (inr (inr (inl refl))); is = refl; of = refl }

pub second_keeps : KeepsFront takes_two makes_one one_send second_turns
second_keeps = record {
  only_sends = (tt, tt);
  starts = starts_in;
  sends = λ are. sends_in second_turns second_begun;
  made = λ are. made_in second_turns second_begun;
  stops = λ are start begin stop answer accepted stops is. told_in stop answer (stop_in stop stops.stands stops.is) is;
  tallies = λ are t sent ended has is answer. tally_right second_turns t sent ended (stop_in t has is) answer;
}

-- the stop turn of the first front-end
first_stop : (t : MemberTurn) → HasTurn first_turns t → t.transition ≡ Stop → stopped_turn ≡ t
first_stop t (inl same) is = absurd (let e : Start ≡ Stop = ap (λ (v : MemberTurn). v.transition) same ∙ is in cc (e))
first_stop t (inr before) is = stop_in t before is

first_starts : (t : MemberTurn) (answer : ClientAnswer) → HasTurn first_turns t → t.transition ≡ Start → t.answer ≡ Some answer → answer ≡ (if takes_two t.order then Yes Plain else No NotReady)
first_starts t answer (inl same) is told =
    subst (λ (v : MemberTurn). answer ≡ (if takes_two v.order then Yes Plain else No NotReady)) same
    (let e : Some (No NotReady) ≡ Some answer = ap (λ (v : MemberTurn). v.answer) same ∙ told in
    let f : No NotReady ≡ answer = cc (e) in
    sym f)
first_starts t answer (inr before) is told = starts_in t answer before is told

pub first_keeps : KeepsFront takes_two makes_one one_send first_turns
first_keeps = record {
  only_sends = (tt, tt);
  starts = first_starts;
  sends = λ are. sends_in first_turns first_begun;
  made = λ are. made_in first_turns first_begun;
  stops = λ are start begin stop answer accepted stops is. told_in stop answer (first_stop stop stops.stands stops.is) is;
  tallies = λ are t sent ended has is answer. tally_right first_turns t sent ended (first_stop t has is) answer;
}

-- moments

second_ends : (t : MemberTurn) (moment : ℕ) → HasMoment second_turns (1 ∷ 1 ∷ 0 ∷ []) t moment → t.transition ≡ Stop → EachCall (SendsNotIn t.order.start) (drop moment one_send)
second_ends t moment (inl here) is = subst (λ (n : ℕ). EachCall (SendsNotIn t.order.start) (drop n one_send)) here.1 tt
second_ends t moment (inr (inl here)) is = absurd (let e : Pause ≡ Stop = ap (λ (v : MemberTurn). v.transition) here.0 ∙ is in cc (e))
second_ends t moment (inr (inr (inl here))) is = absurd (let e : Start ≡ Stop = ap (λ (v : MemberTurn). v.transition) here.0 ∙ is in cc (e))
second_ends t moment (inr (inr (inr none))) is = absurd none

second_holds : (t : MemberTurn) (moment until : ℕ) → HasSpan second_turns (1 ∷ 1 ∷ 0 ∷ []) 1 t moment until → t.transition ≡ Pause → EachCall (SendsNotIn t.order.start) (drop moment (take until one_send))
second_holds t moment until (inl here) is = absurd (let e : Stop ≡ Pause = ap (λ (v : MemberTurn). v.transition) here.0 ∙ is in cc (e))
second_holds t moment until (inr (inl here)) is =
    subst (λ (n : ℕ). EachCall (SendsNotIn t.order.start) (drop n (take until one_send))) here.1
    (subst (λ (n : ℕ). EachCall (SendsNotIn t.order.start) (drop 1 (take n one_send))) here.2 tt)
second_holds t moment until (inr (inr (inl here))) is = absurd (let e : Start ≡ Pause = ap (λ (v : MemberTurn). v.transition) here.0 ∙ is in cc (e))
second_holds t moment until (inr (inr (inr none))) is = absurd none

pub second_moments : KeepsMoments one_send second_turns (1 ∷ 1 ∷ 0 ∷ [])
second_moments = record { are = (omega arith, (omega arith, (omega arith, tt))); ends = λ are t moment has is answer. second_ends t moment has is; holds = λ t moment until span is answer. second_holds t moment until span is }

first_ends : (t : MemberTurn) (moment : ℕ) → HasMoment first_turns (1 ∷ 1 ∷ 1 ∷ 0 ∷ []) t moment → t.transition ≡ Stop → EachCall (SendsNotIn t.order.start) (drop moment one_send)
first_ends t moment (inl here) is = absurd (let e : Start ≡ Stop = ap (λ (v : MemberTurn). v.transition) here.0 ∙ is in cc (e))
first_ends t moment (inr before) is = second_ends t moment before is

first_holds : (t : MemberTurn) (moment until : ℕ) → HasSpan first_turns (1 ∷ 1 ∷ 1 ∷ 0 ∷ []) 1 t moment until → t.transition ≡ Pause → EachCall (SendsNotIn t.order.start) (drop moment (take until one_send))
first_holds t moment until (inl here) is = absurd (let e : Start ≡ Pause = ap (λ (v : MemberTurn). v.transition) here.0 ∙ is in cc (e))
first_holds t moment until (inr before) is = second_holds t moment until before is

pub first_moments : KeepsMoments one_send first_turns (1 ∷ 1 ∷ 1 ∷ 0 ∷ [])
first_moments = record { are = (omega arith, (omega arith, (omega arith, (omega arith, tt)))); ends = λ are t moment has is answer. first_ends t moment has is; holds = λ t moment until span is answer. first_holds t moment until span is }

pub first_sets : AreTurnSets (codes "A") one_send first_turns (1 ∷ 1 ∷ 1 ∷ 0 ∷ []) (database_calls paused_session 0)
first_sets = inl (record {
  sets = Set (sent_path (codes "A")) 0 (UInt64 0) (Ok 8) ∷ Set (sent_path (codes "A")) 0 (UInt64 1) (Ok 8) ∷ Set (sent_path (codes "A")) 0 (UInt64 1) (Ok 8) ∷ Set (sent_path (codes "A")) 0 (UInt64 0) (Ok 8) ∷ [];
  are_sets = (record { reply = Ok 8; is = refl }, (record { reply = Ok 8; is = refl }, (record { reply = Ok 8; is = refl }, (record { reply = Ok 8; is = refl }, tt))));
  alone = refl;
})

second_sets : AreTurnSets (codes "B") one_send second_turns (1 ∷ 1 ∷ 0 ∷ []) (database_calls paused_session 1)
second_sets = inl (record {
  sets = Set (sent_path (codes "B")) 0 (UInt64 0) (Ok 8) ∷ Set (sent_path (codes "B")) 0 (UInt64 1) (Ok 8) ∷ Set (sent_path (codes "B")) 0 (UInt64 1) (Ok 8) ∷ [];
  are_sets = (record { reply = Ok 8; is = refl }, (record { reply = Ok 8; is = refl }, (record { reply = Ok 8; is = refl }, tt)));
  alone = refl;
})

each_front : (P : SessionFront → Type 0) → P first_front → P second_front → (f : SessionFront) → HasFront paused_session f → P f
each_front P first second f (zero, e) = let same : first_front ≡ f = cc (e) in subst P same first
each_front P first second f (suc zero, e) = let same : second_front ≡ f = cc (e) in subst P same second
each_front P first second f (suc (suc n), e) = absurd (cc (e))

-- The logger.

abbrev logger_begun : MemberTurn
logger_begun = record { transition = Start; order = order_for first_sheet 1 Stopped; dump = Some (7 ∷ []); answer = Some (Yes Plain) }

abbrev logger_paused : MemberTurn
logger_paused = record { transition = Pause; order = order_for pause_sheet 1 Running; dump = None; answer = Some (Yes Plain) }

abbrev logger_stopped : MemberTurn
logger_stopped = record { transition = Stop; order = order_for paused_stop_sheet 1 Paused; dump = Some (8 ∷ []); answer = Some (Yes (Channels (whole_file ∷ whole_file ∷ []))) }

abbrev paused_logger_turns : List MemberTurn
paused_logger_turns = logger_stopped ∷ logger_paused ∷ logger_begun ∷ []

abbrev paused_port : (buffer : ℕ) → LoggerPort
paused_port buffer = record { own = buffer_calls paused_session buffer 2; got = paused_got buffer }

abbrev logger_calls : List BufferEntry
logger_calls =
    Attach [] (Ok 0) ∷ Request 0 any any All (Ok 0) ∷ BufferBegin 1 (Ok 0) ∷ Receive 0 0 (Got 0 1) ∷ BufferPause 1 (Ok 1)
    ∷ BufferEnd 1 (Ok 1) ∷ Receive 0 0 (Empty Shut 1) ∷ []

paused_read : HasReadRun logger_calls (got_first sample_event ∷ []) 0 any any 0 1 0 1 (sample_event ∷ [])
paused_read = record {
  drained = Attach [] (Ok 0) ∷ Request 0 any any All (Ok 0) ∷ BufferBegin 1 (Ok 0) ∷ Receive 0 0 (Got 0 1) ∷ BufferPause 1 (Ok 1) ∷ BufferEnd 1 (Ok 1) ∷ [];
  room = 0;
  reply = Empty Shut 1;
  later = [];
  own_is = refl;
  got_by = got_first sample_event ∷ [];
  got_later = [];
  got_is = refl;
  reads = record {
    asking = [];
    running = Receive 0 0 (Got 0 1) ∷ BufferPause 1 (Ok 1) ∷ [];
    draining = Receive 0 0 (Empty Shut 1) ∷ [];
    asked = record { before = Attach [] (Ok 0) ∷ []; whole = refl; alone = λ n. refl };
    asks_on = tt;
    no_begin = tt;
    reads_on = (tt, (tt, tt));
    no_end = (tt, (tt, tt));
    drains_on = (tt, tt);
    earlier = [];
    given_running = got_first sample_event ∷ [];
    given_draining = [];
    got_is = refl;
    gives_running = record { named_so = refl };
    gives_draining = record { named_so = refl };
    events_are = refl;
  };
  drains = tt;
}

-- what holds of both channels holds of each
each_channel : (P : LoggerChannel → Type 0) → P (paused_channel 0) → P (paused_channel 1) → (index : ℕ) (channel : LoggerChannel) → slice_get (paused_channel 0 ∷ paused_channel 1 ∷ []) index ≡ Some channel → P channel
each_channel P first second zero channel e = let same : paused_channel 0 ≡ channel = cc (e) in subst P same first
each_channel P first second (suc zero) channel e = let same : paused_channel 1 ≡ channel = cc (e) in subst P same second
each_channel P first second (suc (suc n)) channel e = absurd (cc (e))

the_stop : (t : MemberTurn) → HasTurn paused_logger_turns t → t.transition ≡ Stop → logger_stopped ≡ t
the_stop t (inl same) is = same
the_stop t (inr (inl same)) is = absurd (let e : Pause ≡ Stop = ap (λ (v : MemberTurn). v.transition) same ∙ is in cc (e))
the_stop t (inr (inr (inl same))) is = absurd (let e : Start ≡ Stop = ap (λ (v : MemberTurn). v.transition) same ∙ is in cc (e))
the_stop t (inr (inr (inr none))) is = absurd none

logger_begun_is : HasTurnOf paused_logger_turns Start 1 logger_begun
logger_begun_is = record { stands = inr (inr (inl refl)); is = refl; of = refl }

-- each channel has written its run in one file
run_written : (number : ℕ) → buffer_calls paused_session number 2 ≡ logger_calls → paused_got number ≡ got_first sample_event ∷ [] → Contains paused_files.done (made_whole (paused_channel number) (sample_bytes sample_event)) → HasWritten (paused_port number) paused_logger_turns paused_files (paused_channel number) logger_stopped 1
run_written number calls got made = record {
  start = logger_begun;
  is_start = record { is_start = logger_begun_is; accepted = refl };
  dump = 8 ∷ [];
  has_dump = refl;
  number = 0;
  begun = 0;
  ended = 1;
  events = sample_event ∷ [];
  reads = rw (calls, got) paused_read;
  fine = All-cons IsFileEvent sample_event [] sample_fine (All-nil IsFileEvent);
  taken = false;
  beyond = λ (never : false ≡ true). absurd (cc (never));
  stored = one_file paused_files (series_from (paused_channel number) logger_begun) (stop_bytes logger_begun logger_stopped (8 ∷ [])) sample_event (omega arith) (record { written = made; holds = λ told. refl });
}

abbrev TellsOf : LoggerChannel → MemberTurn → Type 0
TellsOf channel stop = (told : ChannelEnd) × TellsChannel paused_logger_turns stop channel told × IsEndSo (paused_port channel.buffer).own stop.order.start stop.dump told

channel_told : (number : ℕ) → buffer_calls paused_session number 2 ≡ logger_calls → slice_get (whole_file ∷ whole_file ∷ []) number ≡ Some whole_file → TellsOf (paused_channel number) logger_stopped
channel_told number calls at = (
  whole_file,
  record { stands = inl refl; is = refl; ends = whole_file ∷ whole_file ∷ []; answered = refl; at = at },
  record {
    state = ((λ (e : Some (8 ∷ []) ≡ None). cc (e)), (1, record { before = take 5 logger_calls; after = Receive 0 0 (Empty Shut 1) ∷ []; is = calls }));
    framed = refl;
    few = omega arith;
  },
)

-- of both channels the same was told
tells_whole : (number : ℕ) → slice_get (whole_file ∷ whole_file ∷ []) number ≡ Some whole_file → (stop : MemberTurn) (told : ChannelEnd) → TellsChannel paused_logger_turns stop (paused_channel number) told → whole_file ≡ told
tells_whole number at stop told tells =
    let answer : Some (Yes (Channels (whole_file ∷ whole_file ∷ []))) ≡ Some (Yes (Channels tells.ends)) = ap (λ (v : MemberTurn). v.answer) (the_stop stop tells.stands tells.is) ∙ tells.answered in
    let ends : whole_file ∷ whole_file ∷ [] ≡ tells.ends = cc (answer) in
    let both : Some whole_file ≡ Some told = sym at ∙ (ap (λ (xs : List ChannelEnd). slice_get xs number) ends ∙ tells.at) in
    cc (both)

told_of_each : (index : ℕ) (channel : LoggerChannel) (stop : MemberTurn) (told : ChannelEnd) → slice_get (paused_channel 0 ∷ paused_channel 1 ∷ []) index ≡ Some channel → TellsChannel paused_logger_turns stop channel told → whole_file ≡ told
told_of_each index channel stop told at =
    each_channel (λ (c : LoggerChannel). TellsChannel paused_logger_turns stop c told → whole_file ≡ told) (tells_whole 0 refl stop told) (tells_whole 1 refl stop told) index channel at

paused_logger : KeepsLogger (paused_channel 0 ∷ paused_channel 1 ∷ []) paused_port paused_logger_turns paused_files
paused_logger = record {
  sends_none = silent;
  own_calls = own;
  starts = starts;
  stops = λ are begin stop accepted stands is answered index channel at.
      subst (TellsOf channel) (the_stop stop stands is) (each_channel (λ (c : LoggerChannel). TellsOf c logger_stopped) (channel_told 0 refl refl) (channel_told 1 refl refl) index channel at);
  ended = λ are stop index channel told at tells is.
      subst (λ (x : ChannelEnd). HasWritten (paused_port channel.buffer) paused_logger_turns paused_files channel stop x.files) (told_of_each index channel stop told at tells)
      (subst (λ (t : MemberTurn). HasWritten (paused_port channel.buffer) paused_logger_turns paused_files channel t 1) (the_stop stop tells.stands tells.is)
      (each_channel (λ (c : LoggerChannel). HasWritten (paused_port c.buffer) paused_logger_turns paused_files c logger_stopped 1) (run_written 0 refl refl (0, omega arith, refl)) (run_written 1 refl refl (1, omega arith, refl)) index channel at));
  broken = λ are stop index channel told at tells is. absurd (whole_not_broken told (told_of_each index channel stop told at tells) is);
}
  where
    silent : (buffer : ℕ) → EachCall SendsNone (paused_port buffer).own
    silent zero = (tt, (tt, (tt, (tt, (tt, (tt, (tt, tt)))))))
    silent (suc zero) = (tt, (tt, (tt, (tt, (tt, (tt, (tt, tt)))))))
    silent (suc (suc n)) = tt

    own : (buffer : ℕ) → AreOwnCalls (calls_after [] (paused_port buffer).own)
    own zero = (refl, (tt, (tt, (refl, (tt, (refl, (tt, tt)))))))
    own (suc zero) = (refl, (tt, (tt, (refl, (tt, (refl, (tt, tt)))))))
    own (suc (suc n)) = tt

    starts : (t : MemberTurn) (answer : ClientAnswer) → HasTurn paused_logger_turns t → t.transition ≡ Start → t.answer ≡ Some answer → IsStartAnswer answer
    starts t answer (inl same) is told = absurd (let e : Stop ≡ Start = ap (λ (v : MemberTurn). v.transition) same ∙ is in cc (e))
    starts t answer (inr (inl same)) is told = absurd (let e : Pause ≡ Start = ap (λ (v : MemberTurn). v.transition) same ∙ is in cc (e))
    starts t answer (inr (inr (inl same))) is told =
        let e : Some (Yes Plain) ≡ Some answer = ap (λ (v : MemberTurn). v.answer) same ∙ told in
        let f : Yes Plain ≡ answer = cc (e) in
        subst IsStartAnswer f refl
    starts t answer (inr (inr (inr none))) is told = absurd none

-- All together.

-- of a buffer with this sender, the callers are the sender and the logger
pub sender_callers : (s : Session) (sender buffer caller : ℕ) → caller_of_client s.logger ≡ 3 → IsMemberCaller s buffer sender → (entries_by caller (buffer_of_sender sender) ≡ []) ⊎ IsMemberCaller s buffer caller
sender_callers s sender buffer caller logger_is sends =
    split (3 == caller) (λ b. (3 == caller) ≡ b → (entries_by caller (buffer_of_sender sender) ≡ []) ⊎ IsMemberCaller s buffer caller)
    (λ h e. inr (inl (sym (eqb-true 3 caller e) ∙ sym logger_is)))
    (λ h e. split (sender == caller) (λ b. (sender == caller) ≡ b → (entries_by caller (buffer_of_sender sender) ≡ []) ⊎ IsMemberCaller s buffer caller)
    (λ h' e'. inr (subst (IsMemberCaller s buffer) (eqb-true sender caller e') sends))
    (λ h' e'. inl (rw (ne_eqb 3 caller (eqb-false 3 caller e), ne_eqb sender caller (eqb-false sender caller e')) refl))
    refl)
    refl

paused_callers : (buffer caller : ℕ) → (entries_by caller (paused_history buffer) ≡ []) ⊎ IsMemberCaller paused_session buffer caller
paused_callers zero caller = sender_callers paused_session 1 0 caller refl (inr (inl (record { front = first_front; stands = (0, refl); buffer_is = refl; caller_is = refl })))
paused_callers (suc zero) caller = sender_callers paused_session 2 1 caller refl (inr (inl (record { front = second_front; stands = (1, refl); buffer_is = refl; caller_is = refl })))
paused_callers (suc (suc n)) caller = inl refl

-- the clients are registered before the first begin

not_begun : (sequence : ℕ) (dump : Bool) (client caller : ℕ) (begun : Transition) (sheet : Sheet) (start : ℕ)
    → ◌≡◌ {A = ℕ × EngineEntry} (0, Register [] (at_each sequence) dump false (Ok client)) (caller, Begin begun sheet (Ok start)) → ⊥
not_begun sequence dump client caller begun sheet start pair =
    let x : Register [] (at_each sequence) dump false (Ok client) ≡ Begin begun sheet (Ok start) = ap (λ (y : ℕ × EngineEntry). y.1) pair in
    cc (x)

there : (t : Transition) (sequence client place : ℕ) (dump : Bool) (before after : EngineHistory) → sequence_for (at_each place) t ≡ Some sequence → IsRegisteredIn (before ++ (0, Register [] (at_each place) dump false (Ok client)) ∷ after) client t
there t sequence client place dump before after called = record {
  before = before;
  after = after;
  caller = 0;
  name = [];
  sequences = at_each place;
  wants_dump = dump;
  wants_report = false;
  stands = refl;
  sequence = sequence;
  called = called;
}

first_there : (t : Transition) (sequence : ℕ) (earlier later : EngineHistory) (caller : ℕ) (begun : Transition) (sheet : Sheet) (start : ℕ) → sequence_for (at_each 1) t ≡ Some sequence → paused_engine ≡ earlier ++ (caller, Begin begun sheet (Ok start)) ∷ later → IsRegisteredIn earlier 0 t
first_there t sequence [] later caller begun sheet start called e = absurd (not_begun 1 false 0 caller begun sheet start (cc (e)))
first_there t sequence (x ∷ xs) later caller begun sheet start called e =
    let first : (0, Register [] (at_each 1) false false (Ok 0)) ≡ x = cc (e) in
    subst (λ (y : ℕ × EngineEntry). IsRegisteredIn (y ∷ xs) 0 t) first (there t sequence 0 1 false [] xs called)

second_there : (t : Transition) (sequence : ℕ) (earlier later : EngineHistory) (caller : ℕ) (begun : Transition) (sheet : Sheet) (start : ℕ) → sequence_for (at_each 1) t ≡ Some sequence → paused_engine ≡ earlier ++ (caller, Begin begun sheet (Ok start)) ∷ later → IsRegisteredIn earlier 1 t
second_there t sequence [] later caller begun sheet start called e = absurd (not_begun 1 false 0 caller begun sheet start (cc (e)))
second_there t sequence (x ∷ []) later caller begun sheet start called e = absurd (not_begun 1 false 1 caller begun sheet start (cc (e)))
second_there t sequence (x ∷ y ∷ ys) later caller begun sheet start called e =
    let second : (0, Register [] (at_each 1) false false (Ok 1)) ≡ y = cc (e) in
    subst (λ (z : ℕ × EngineEntry). IsRegisteredIn (x ∷ z ∷ ys) 1 t) second (there t sequence 1 1 false (x ∷ []) ys called)

third_there : (t : Transition) (sequence : ℕ) (earlier later : EngineHistory) (caller : ℕ) (begun : Transition) (sheet : Sheet) (start : ℕ) → sequence_for (at_each 2) t ≡ Some sequence → paused_engine ≡ earlier ++ (caller, Begin begun sheet (Ok start)) ∷ later → IsRegisteredIn earlier 2 t
third_there t sequence [] later caller begun sheet start called e = absurd (not_begun 1 false 0 caller begun sheet start (cc (e)))
third_there t sequence (x ∷ []) later caller begun sheet start called e = absurd (not_begun 1 false 1 caller begun sheet start (cc (e)))
third_there t sequence (x ∷ y ∷ []) later caller begun sheet start called e = absurd (not_begun 2 true 2 caller begun sheet start (cc (e)))
third_there t sequence (x ∷ y ∷ z ∷ zs) later caller begun sheet start called e =
    let third : (0, Register [] (at_each 2) true false (Ok 2)) ≡ z = cc (e) in
    subst (λ (w : ℕ × EngineEntry). IsRegisteredIn (x ∷ y ∷ w ∷ zs) 2 t) third (there t sequence 2 2 true (x ∷ y ∷ []) zs called)

pub no_paused_analyzer : (a : SessionAnalyzer) → HasAnalyzer paused_session a → ⊥
no_paused_analyzer a (zero, e) = cc (e)
no_paused_analyzer a (suc n, e) = cc (e)

pub paused_keeps : MembersKeep paused_session
paused_keeps = record {
  buffers_legal = buffer_legal;
  engine_legal = paused_legal;
  own_clients = (tt, (tt, (tt, (tt, (refl, (refl, (refl, (refl, (refl, (refl, (tt, (tt, (refl, (refl, (refl, (refl, (refl, (refl, (tt, (tt, (refl, (refl, (refl, (refl, (refl, (refl, (tt, (tt, (refl, (refl, (tt, tt)))))))))))))))))))))))))))))));
  callers = paused_callers;
  fronts_keep = each_front (λ (x : SessionFront). KeepsFront x.takes x.makes (buffer_calls paused_session x.buffer x.client) (turns_of paused_session x.client)) first_keeps second_keeps;
  fronts_moments = each_front (λ (x : SessionFront). KeepsMoments (buffer_calls paused_session x.buffer x.client) (turns_of paused_session x.client) x.moments) first_moments second_moments;
  fronts_set = λ f has are. each_front (λ (x : SessionFront). AreTurnSets x.name (buffer_calls paused_session x.buffer x.client) (turns_of paused_session x.client) x.moments (database_calls paused_session x.client)) first_sets second_sets f has;
  logger_keeps = paused_logger;
  logger_got = got_so;
  analyzers_keep = λ a has. absurd (no_paused_analyzer a has);
  analyzers_got = λ a has. absurd (no_paused_analyzer a has);
  fronts_registered = each_front (λ (x : SessionFront). IsRegistered paused_session x.client Start × IsRegistered paused_session x.client Stop)
      ((λ earlier later caller begun sheet start e. first_there Start 1 earlier later caller begun sheet start refl e), (λ earlier later caller begun sheet start e. first_there Stop 1 earlier later caller begun sheet start refl e))
      ((λ earlier later caller begun sheet start e. second_there Start 1 earlier later caller begun sheet start refl e), (λ earlier later caller begun sheet start e. second_there Stop 1 earlier later caller begun sheet start refl e));
  analyzers_registered = λ a has. absurd (no_paused_analyzer a has);
  logger_registered = (
    (λ earlier later caller begun sheet start e. third_there Start 2 earlier later caller begun sheet start refl e),
    (λ earlier later caller begun sheet start e. third_there Stop 2 earlier later caller begun sheet start refl e),
  );
  one_dump = (((λ (e : false ≡ true). absurd (cc (e))), (λ (e : 0 ≡ 2). absurd (omega (arith, e)))), (((λ (e : false ≡ true). absurd (cc (e))), (λ (e : 1 ≡ 2). absurd (omega (arith, e)))), (((λ e. refl), (λ e. refl)), (tt, (tt, (tt, (tt, (tt, (tt, (tt, (tt, (tt, (tt, (tt, (tt, (tt, (tt, (tt, (tt, (tt, (tt, (tt, (tt, (tt, (tt, (tt, (tt, (tt, (tt, (tt, (tt, tt)))))))))))))))))))))))))))))));
}
  where
    got_so : (buffer : ℕ) → AllByRecursion (WasSentAt (paused_history buffer)) (paused_got buffer)
    got_so zero = (refl, tt)
    got_so (suc zero) = (refl, tt)
    got_so (suc (suc n)) = tt

pub paused_stopped : IsStoppedRun paused_session pausing_run
paused_stopped = record {
  started = record {
    earlier = take 3 paused_engine;
    between = take 6 (drop 4 paused_engine);
    later = drop 11 paused_engine;
    opener = 0;
    closer = 0;
    whole = refl;
    on = (refl, (refl, (refl, (refl, (refl, (refl, tt))))));
  };
  stopped = record {
    earlier = take 19 paused_engine;
    between = take 6 (drop 20 paused_engine);
    later = drop 27 paused_engine;
    opener = 0;
    closer = 0;
    whole = refl;
    on = (refl, (refl, (refl, (refl, (refl, (refl, tt))))));
  };
}

pub paused_told : (number : ℕ) → slice_get (whole_file ∷ whole_file ∷ []) number ≡ Some whole_file → ToldChannel paused_session pausing_run (paused_channel number) whole_file
paused_told number at = record { index = 2; ends = whole_file ∷ whole_file ∷ []; tells = refl; at = at }
