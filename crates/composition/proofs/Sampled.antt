-- A session meets what the laws of sessions ask.
use Rattle.std.specs.Prelude.{◌≡◌, ◌≢◌, ℕ, zero, suc, ◌≤◌, ◌==◌, Bool, true, false, if◌then◌else◌, List, [], ◌∷◌, ◌++◌, length, take, drop, slice_get, Some, None, Ok, refl, ◌⊎◌}
use Rattle.std.specs.List.{AllByRecursion}
use Rattle.std.proofs.Common.{ap, sym, ◌∙◌, subst, arith, inl, inr, ne_eqb}
use Rattle.std.proofs.lemmas.Bool.{eqb-true, eqb-false}
use Rattle.std.proofs.lemmas.List.Elements.{All-nil, All-cons}
use Rattle.daq_types.specs.Callers.{entries_by}
use Rattle.daq_types.specs.declared.events.Event.{Event}
use Rattle.daq_types.specs.declared.runs.ChannelEnd.{ChannelEnd}
use Rattle.daq_types.specs.declared.runs.ChannelState.TheVariants.{Ended, Broken}
use Rattle.daq_types.specs.declared.runs.FrontEnded.{FrontEnded}
use Rattle.daq_types.specs.declared.runs.FrontEnded.TheVariants.{Quota}
use Rattle.daq_types.specs.declared.runs.RunState.TheVariants.{Stopped, Running}
use Rattle.daq_types.specs.declared.runs.Transition.{Transition}
use Rattle.daq_types.specs.declared.runs.Transition.TheVariants.{Start, Stop, Pause}
use Rattle.event.specs.Events.{matches, slot_of_length, record_limit}
use Rattle.event.specs.RunFile.{IsFileEvent}
use Rattle.daq_io.specs.Seen.{Seen, IsStored}
use Rattle.sub_files.specs.Pieces.{Series, piece_name, begun_piece, HasRun}
use Rattle.buffer_core.proofs.SlotLaws.{split}
use Rattle.buffer_core.specs.declared.gate.RunGate.TheVariants.{Shut}
use Rattle.buffer_core.specs.declared.replies.Received.TheVariants.{Got, Empty}
use Rattle.buffer_core.specs.declared.entry.BufferEntry.{BufferEntry}
use Rattle.buffer_core.specs.declared.entry.BufferEntry.TheVariants.{Attach, SendInRun, Receive, End}
use Rattle.buffer_core.specs.Window.{opening, no_clients, no_requests, any}
use Rattle.buffer_core.specs.Histories.{IsLegal}
use Rattle.buffer_core.specs.Samples.{sample_event}
use Rattle.odb_value.specs.declared.items.Item.TheVariants.{UInt64}
use Rattle.odb_tree.specs.declared.entry.DatabaseEntry.TheVariants.{Set}
use Rattle.odb_runinfo.specs.RunKeys.{sent_path}
use Rattle.transitions.specs.declared.answers.Answer.TheVariants.{Yes}
use Rattle.transitions.specs.declared.answers.Tally.TheVariants.{Plain, Front, Channels}
use Rattle.transitions.specs.declared.entry.EngineEntry.TheVariants.{Register, Begin}
use Rattle.transitions.specs.Called.{called_list}
use Rattle.transitions.specs.Engines.{engine_opening}
use Rattle.transitions.specs.EngineCalls.{order_for}
use Rattle.transitions.specs.EngineSamples.{at_all}
use Rattle.member_model.specs.Turns.{MemberTurn, HasTurn, HasTurnOf}
use Rattle.member_model.specs.Moments.{HasMoment}
use Rattle.member_model.specs.SentCalls.{SendsNotIn, EachCall}
use Rattle.member_model.specs.OwnCalls.{calls_after, AreOwnCalls, SendsNone}
use Rattle.transitions.specs.Sequences.{sequence_for}
use Rattle.member_model.specs.RunEngines.{Sheet, Answer as ClientAnswer, EngineEntry, EngineHistory, IsLegalEngine, IsSheet}
use Rattle.member_model.specs.ReadRuns.{HasReadRun}
use Rattle.member_model.specs.LoggerKept.{LoggerChannel, LoggerPort, HasWritten, TellsChannel, IsStartAnswer, IsEndSo, KeepsLogger, series_from, stop_bytes}
use Rattle.front_ends.specs.Spans.{HasSpan}
use Rattle.front_ends.specs.FrontKept.{IsMade, IsFrontTally, KeepsFront, KeepsMoments}
use Rattle.history_laws.specs.OneCaller.{WasSentAt}
use Rattle.history_laws.specs.CallerSamples.{reading_history, reading_calls, with_own_run, got_first}
use Rattle.history_laws.specs.BegunTurns.{IsRegisteredIn}
use Rattle.composition.specs.SentSets.{AreTurnSets}
use Rattle.composition.specs.Sessions.{SessionFront, SessionAnalyzer, HasFront, HasAnalyzer, IsMemberCaller, turns_of, buffer_calls, database_calls, IsRegistered, MembersKeep}
use Rattle.composition.specs.SessionRuns.{IsStoppedRun, ToldChannel}
use Rattle.composition.specs.SessionSamples.{whole_file, first_sheet, last_sheet, sample_engine, sample_history, sample_got, sample_name, sample_front, sample_channel, sample_files, sample_session, sample_run}

-- The histories are legal.

sample_legal : IsLegal (opening 48) reading_history
unfolding no_clients no_requests slot_of_length matches
sample_legal = (refl, (refl, (refl, (refl, (refl, (refl, (refl, tt)))))))

short_byte : (byte : ℕ) (bytes : List ℕ) → Some (byte ∷ []) ≡ Some bytes → length bytes ≤ record_limit
short_byte byte bytes e =
    let same : byte ∷ [] ≡ bytes = cc (e) in
    omega (arith, sym (ap (λ (xs : List ℕ). length xs) same))

pub first_fair : IsSheet first_sheet
first_fair = record { short = short_byte 7; blank = tt }

pub last_fair : IsSheet last_sheet
last_fair = record { short = short_byte 8; blank = tt }

engine_is_legal : IsLegalEngine engine_opening sample_engine
unfolding called_list
engine_is_legal =
    (refl, refl, (refl, refl, ((refl, first_fair), refl, (tt, refl, (tt, refl, (tt, refl, (tt, refl, (refl, (refl, refl), ((refl, last_fair), refl, (tt, refl, (tt, refl, (tt, refl, (tt, refl, (refl, (refl, refl), tt))))))))))))))

-- The front-end.

abbrev pub front_start : MemberTurn
front_start = record { transition = Start; order = order_for first_sheet 1 Stopped; dump = None; answer = Some (Yes Plain) }

abbrev pub front_stop : MemberTurn
front_stop = record { transition = Stop; order = order_for last_sheet 1 Running; dump = None; answer = Some (Yes (Front 1 Quota)) }

abbrev pub front_turns : List MemberTurn
front_turns = front_stop ∷ front_start ∷ []

abbrev pub front_calls : List BufferEntry
front_calls = SendInRun 1 0 sample_event (Ok 0) ∷ []

start_stands : HasTurnOf front_turns Start 1 front_start
start_stands = record { stands = inr (inl refl); is = refl; of = refl }

front_made : (start : ℕ) → IsMade (λ order number. sample_event) front_calls front_turns start
front_made start =
    split (1 == start) (λ b. (1 == start) ≡ b → IsMade (λ order number. sample_event) front_calls front_turns start)
    (λ h e.
    let same : 1 ≡ start = eqb-true 1 start e in
    subst (λ (n : ℕ). IsMade (λ order number. sample_event) front_calls front_turns n) same (inr (record { turn = front_start; is_start = start_stands; number = 1; sent = refl })))
    (λ h e. inl (ap (λ (b : Bool). (if b then sample_event ∷ [] else []) ++ []) e))
    refl

stop_tally_is : IsFrontTally front_calls front_turns (order_for last_sheet 1 Running) 1 Quota
stop_tally_is = record { number = refl; ended_so = (front_start, start_stands, refl) }

pub front_keeps : KeepsFront (λ order. true) (λ order number. sample_event) front_calls front_turns
front_keeps = record {
  only_sends = (tt, tt);
  starts = starts;
  sends = λ are. (record { turn = front_start; of_run = record { is_start = start_stands; accepted = refl }; more = omega arith; next = refl; size = refl }, tt);
  made = λ are. front_made;
  stops = λ are start begin stop answer accepted stops is. stop_told stop answer stops.stands stops.is is;
  tallies = λ are t sent ended has is answer. tally_right t sent ended has is answer;
}
  where
    starts : (t : MemberTurn) (answer : ClientAnswer) → HasTurn front_turns t → t.transition ≡ Start → t.answer ≡ Some answer → answer ≡ Yes Plain
    starts t answer (inl same) is told = absurd (let e : Stop ≡ Start = ap (λ (v : MemberTurn). v.transition) same ∙ is in cc (e))
    starts t answer (inr (inl same)) is told =
        let e : Some (Yes Plain) ≡ Some answer = ap (λ (v : MemberTurn). v.answer) same ∙ told in
        let f : Yes Plain ≡ answer = cc (e) in
        sym f
    starts t answer (inr (inr none)) is told = absurd none

    stop_told : (t : MemberTurn) (answer : ClientAnswer) → HasTurn front_turns t → t.transition ≡ Stop → t.answer ≡ Some answer → (sent : ℕ) × (ended : FrontEnded) × (answer ≡ Yes (Front sent ended))
    stop_told t answer (inl same) is told = (1, Quota, (let e : Some (Yes (Front 1 Quota)) ≡ Some answer = ap (λ (v : MemberTurn). v.answer) same ∙ told in let f : Yes (Front 1 Quota) ≡ answer = cc (e) in sym f))
    stop_told t answer (inr (inl same)) is told = absurd (let e : Start ≡ Stop = ap (λ (v : MemberTurn). v.transition) same ∙ is in cc (e))
    stop_told t answer (inr (inr none)) is told = absurd none

    tally_right : (t : MemberTurn) (sent : ℕ) (ended : FrontEnded) → HasTurn front_turns t → t.transition ≡ Stop → t.answer ≡ Some (Yes (Front sent ended)) → IsFrontTally front_calls front_turns t.order sent ended
    tally_right t sent ended (inl same) is told =
        let e : Some (Yes (Front 1 Quota)) ≡ Some (Yes (Front sent ended)) = ap (λ (v : MemberTurn). v.answer) same ∙ told in
        let number : 1 ≡ sent = cc (e) in
        let how : Quota ≡ ended = cc (e) in
        subst (λ (v : MemberTurn). IsFrontTally front_calls front_turns v.order sent ended) same
        (subst (λ (n : ℕ). IsFrontTally front_calls front_turns (order_for last_sheet 1 Running) n ended) number
        (subst (λ (x : FrontEnded). IsFrontTally front_calls front_turns (order_for last_sheet 1 Running) 1 x) how stop_tally_is))
    tally_right t sent ended (inr (inl same)) is told = absurd (let e : Start ≡ Stop = ap (λ (v : MemberTurn). v.transition) same ∙ is in cc (e))
    tally_right t sent ended (inr (inr none)) is told = absurd none

-- its moments

pub front_moments : KeepsMoments front_calls front_turns (1 ∷ 0 ∷ [])
front_moments = record { are = (omega arith, (omega arith, tt)); ends = λ are t moment has is answer. ends t moment has is; holds = λ t moment until span is answer. no_pause t moment until span is }
  where
    ends : (t : MemberTurn) (moment : ℕ) → HasMoment front_turns (1 ∷ 0 ∷ []) t moment → t.transition ≡ Stop → EachCall (SendsNotIn t.order.start) (drop moment front_calls)
    ends t moment (inl here) is = subst (λ (n : ℕ). EachCall (SendsNotIn t.order.start) (drop n front_calls)) here.1 tt
    ends t moment (inr (inl here)) is = absurd (let e : Start ≡ Stop = ap (λ (v : MemberTurn). v.transition) here.0 ∙ is in cc (e))
    ends t moment (inr (inr none)) is = absurd none

    no_pause : (t : MemberTurn) (moment until : ℕ) → HasSpan front_turns (1 ∷ 0 ∷ []) 1 t moment until → t.transition ≡ Pause → EachCall (SendsNotIn t.order.start) (drop moment (take until front_calls))
    no_pause t moment until (inl here) is = absurd (let e : Stop ≡ Pause = ap (λ (v : MemberTurn). v.transition) here.0 ∙ is in cc (e))
    no_pause t moment until (inr (inl here)) is = absurd (let e : Start ≡ Pause = ap (λ (v : MemberTurn). v.transition) here.0 ∙ is in cc (e))
    no_pause t moment until (inr (inr none)) is = absurd none

pub front_set : AreTurnSets sample_name front_calls front_turns (1 ∷ 0 ∷ []) (database_calls sample_session 1)
front_set = inl (record {
  sets = Set (sent_path sample_name) 0 (UInt64 0) (Ok 8) ∷ Set (sent_path sample_name) 0 (UInt64 1) (Ok 8) ∷ [];
  are_sets = (record { reply = Ok 8; is = refl }, (record { reply = Ok 8; is = refl }, tt));
  alone = refl;
})

-- The logger.

abbrev pub logger_start : MemberTurn
logger_start = record { transition = Start; order = order_for first_sheet 1 Stopped; dump = Some (7 ∷ []); answer = Some (Yes Plain) }

abbrev pub logger_stop : MemberTurn
logger_stop = record { transition = Stop; order = order_for last_sheet 1 Running; dump = Some (8 ∷ []); answer = Some (Yes (Channels (whole_file ∷ []))) }

abbrev pub logger_turns : List MemberTurn
logger_turns = logger_stop ∷ logger_start ∷ []

abbrev logger_port : (buffer : ℕ) → LoggerPort
logger_port buffer = record { own = buffer_calls sample_session buffer 0; got = sample_got buffer }

-- whatever event it is that the client was told
pub run_read_of : (event : Event) → HasReadRun reading_calls (got_first event ∷ []) 0 any any 0 1 0 1 (event ∷ [])
run_read_of event = record {
  drained = with_own_run (Receive 0 0 (Got 0 1) ∷ End 1 (Ok 1) ∷ []);
  room = 0;
  reply = Empty Shut 1;
  later = [];
  own_is = refl;
  got_by = got_first event ∷ [];
  got_later = [];
  got_is = refl;
  reads = record {
    asking = [];
    running = Receive 0 0 (Got 0 1) ∷ [];
    draining = Receive 0 0 (Empty Shut 1) ∷ [];
    asked = record { before = Attach [] (Ok 0) ∷ []; whole = refl; alone = λ n. refl };
    asks_on = tt;
    no_begin = tt;
    reads_on = (tt, tt);
    no_end = (tt, tt);
    drains_on = (tt, tt);
    earlier = [];
    given_running = got_first event ∷ [];
    given_draining = [];
    got_is = refl;
    gives_running = record { named_so = refl };
    gives_draining = record { named_so = refl };
    events_are = refl;
  };
  drains = tt;
}

pub sample_fine : IsFileEvent sample_event
sample_fine = record { begins_none = λ e. omega (arith, e); ends_none = λ e. omega (arith, e); small = omega arith }

-- a run of one event is in one file, whatever the limit is
pub one_file : (seen : Seen) (s : Series) (last : List ℕ) (event : Event) → length s.dump ≤ record_limit → IsStored seen (piece_name s 0) (begun_piece s (event ∷ []) ++ last) → HasRun seen s 1 false last (event ∷ [])
one_file seen s last event small stored = record {
  small = small;
  pieces = (event ∷ []) ∷ [];
  cut = record { joins = refl; some = omega arith; unlimited = λ none. refl; limited = λ some. inl (inl (omega arith)) };
  many = refl;
  few = omega arith;
  stored = stored;
}

run_written : HasWritten (logger_port 0) logger_turns sample_files sample_channel logger_stop 1
run_written = record {
  start = logger_start;
  is_start = record { is_start = record { stands = inr (inl refl); is = refl; of = refl }; accepted = refl };
  dump = 8 ∷ [];
  has_dump = refl;
  number = 0;
  begun = 0;
  ended = 1;
  events = sample_event ∷ [];
  reads = run_read_of sample_event;
  fine = All-cons IsFileEvent sample_event [] sample_fine (All-nil IsFileEvent);
  taken = false;
  beyond = λ (never : false ≡ true). absurd (cc (never));
  stored = one_file sample_files (series_from sample_channel logger_start) (stop_bytes logger_start logger_stop (8 ∷ [])) sample_event (omega arith) (record { written = (0, omega arith, refl); holds = λ told. refl });
}

pub only_channel : (index : ℕ) (channel : LoggerChannel) → slice_get (sample_channel ∷ []) index ≡ Some channel → sample_channel ≡ channel
only_channel zero channel e = cc (e)
only_channel (suc n) channel e = absurd (cc (e))

pub stop_is : (t : MemberTurn) → HasTurn logger_turns t → t.transition ≡ Stop → logger_stop ≡ t
stop_is t (inl same) is = same
stop_is t (inr (inl same)) is = absurd (let e : Start ≡ Stop = ap (λ (v : MemberTurn). v.transition) same ∙ is in cc (e))
stop_is t (inr (inr none)) is = absurd none

pub tells_whole : (stop : MemberTurn) (told : ChannelEnd) → TellsChannel logger_turns stop sample_channel told → whole_file ≡ told
tells_whole stop told tells =
    let answer : Some (Yes (Channels (whole_file ∷ []))) ≡ Some (Yes (Channels tells.ends)) = ap (λ (v : MemberTurn). v.answer) (stop_is stop tells.stands tells.is) ∙ tells.answered in
    let ends : whole_file ∷ [] ≡ tells.ends = cc (answer) in
    let both : Some whole_file ≡ Some told = ap (λ (xs : List ChannelEnd). slice_get xs 0) ends ∙ tells.at in
    cc (both)

pub whole_not_broken : (told : ChannelEnd) → whole_file ≡ told → told.state ≡ Broken → ⊥
whole_not_broken told is broken =
    let never : Ended ≡ Broken = ap (λ (x : ChannelEnd). x.state) is ∙ broken in
    cc (never)

-- what was told of any channel is what was told of this one
pub told_of_only : (index : ℕ) (channel : LoggerChannel) (stop : MemberTurn) (told : ChannelEnd) → slice_get (sample_channel ∷ []) index ≡ Some channel → TellsChannel logger_turns stop channel told → whole_file ≡ told
told_of_only index channel stop told at tells = tells_whole stop told (subst (λ (c : LoggerChannel). TellsChannel logger_turns stop c told) (sym (only_channel index channel at)) tells)

abbrev TellsOf : LoggerChannel → MemberTurn → Type 0
TellsOf channel stop = (told : ChannelEnd) × TellsChannel logger_turns stop channel told × IsEndSo (logger_port channel.buffer).own stop.order.start stop.dump told

ended_told : TellsOf sample_channel logger_stop
ended_told = (
  whole_file,
  record { stands = inl refl; is = refl; ends = whole_file ∷ []; answered = refl; at = refl },
  record {
    state = ((λ (e : Some (8 ∷ []) ≡ None). cc (e)), (1, record { before = with_own_run (Receive 0 0 (Got 0 1) ∷ []); after = Receive 0 0 (Empty Shut 1) ∷ []; is = refl }));
    framed = refl;
    few = omega arith;
  },
)

pub logger_is_kept : KeepsLogger (sample_channel ∷ []) logger_port logger_turns sample_files
logger_is_kept = record {
  sends_none = sends_none;
  own_calls = own_calls;
  starts = starts;
  stops = λ are begin stop accepted stands is answered index channel at.
      subst (λ (c : LoggerChannel). TellsOf c stop) (only_channel index channel at) (subst (λ (t : MemberTurn). TellsOf sample_channel t) (stop_is stop stands is) ended_told);
  ended = λ are stop index channel told at tells is.
      subst (λ (c : LoggerChannel). HasWritten (logger_port c.buffer) logger_turns sample_files c stop told.files) (only_channel index channel at)
      (subst (λ (x : ChannelEnd). HasWritten (logger_port 0) logger_turns sample_files sample_channel stop x.files) (told_of_only index channel stop told at tells)
      (subst (λ (t : MemberTurn). HasWritten (logger_port 0) logger_turns sample_files sample_channel t 1) (stop_is stop tells.stands tells.is) run_written));
  broken = λ are stop index channel told at tells is. absurd (whole_not_broken told (told_of_only index channel stop told at tells) is);
}
  where
    sends_none : (buffer : ℕ) → EachCall SendsNone (logger_port buffer).own
    sends_none zero = (tt, (tt, (tt, (tt, (tt, (tt, tt))))))
    sends_none (suc n) = tt

    starts : (t : MemberTurn) (answer : ClientAnswer) → HasTurn logger_turns t → t.transition ≡ Start → t.answer ≡ Some answer → IsStartAnswer answer
    starts t answer (inl same) is told = absurd (let e : Stop ≡ Start = ap (λ (v : MemberTurn). v.transition) same ∙ is in cc (e))
    starts t answer (inr (inl same)) is told =
        let e : Some (Yes Plain) ≡ Some answer = ap (λ (v : MemberTurn). v.answer) same ∙ told in
        let f : Yes Plain ≡ answer = cc (e) in
        subst IsStartAnswer f refl
    starts t answer (inr (inr none)) is told = absurd none

    own_calls : (buffer : ℕ) → AreOwnCalls (calls_after [] (logger_port buffer).own)
    own_calls zero = (refl, (tt, (refl, (tt, (refl, (tt, tt))))))
    own_calls (suc n) = tt

-- All together.

pub none_of_others : (caller : ℕ) → 1 ≢ caller → 2 ≢ caller → entries_by caller reading_history ≡ []
none_of_others caller logger front = rw (ne_eqb 1 caller logger, ne_eqb 2 caller front) refl

sample_callers : (buffer caller : ℕ) → (entries_by caller (sample_history buffer) ≡ []) ⊎ IsMemberCaller sample_session buffer caller
sample_callers (suc n) caller = inl refl
sample_callers zero caller =
    split (1 == caller) (λ b. (1 == caller) ≡ b → (entries_by caller reading_history ≡ []) ⊎ IsMemberCaller sample_session 0 caller)
    (λ h e. inr (inl (sym (eqb-true 1 caller e))))
    (λ h e. split (2 == caller) (λ b. (2 == caller) ≡ b → (entries_by caller reading_history ≡ []) ⊎ IsMemberCaller sample_session 0 caller)
    (λ h' e'. inr (inr (inl (record { front = sample_front; stands = (0, refl); buffer_is = refl; caller_is = eqb-true 2 caller e' }))))
    (λ h' e'. inl (none_of_others caller (eqb-false 1 caller e) (eqb-false 2 caller e')))
    refl)
    refl

pub only_front : (f : SessionFront) → HasFront sample_session f → sample_front ≡ f
only_front f (zero, e) = cc (e)
only_front f (suc n, e) = absurd (cc (e))

-- both clients stand before the first begin

logger_before : (t : Transition) (sequence : ℕ) (earlier later : EngineHistory) (caller : ℕ) (begun : Transition) (sheet : Sheet) (start : ℕ) → sequence_for (at_all 1) t ≡ Some sequence
    → sample_engine ≡ earlier ++ (caller, Begin begun sheet (Ok start)) ∷ later → IsRegisteredIn earlier 0 t
logger_before t sequence [] later caller begun sheet start called e = absurd (let x : Register [] (at_all 1) true false (Ok 0) ≡ Begin begun sheet (Ok start) = first_entry e in cc (x))
  where
    first_entry : sample_engine ≡ (caller, Begin begun sheet (Ok start)) ∷ later → Register [] (at_all 1) true false (Ok 0) ≡ Begin begun sheet (Ok start)
    first_entry is = let pair : (0, Register [] (at_all 1) true false (Ok 0)) ≡ (caller, Begin begun sheet (Ok start)) = cc (is) in ap (λ (x : ℕ × EngineEntry). x.1) pair
logger_before t sequence (x ∷ xs) later caller begun sheet start called e =
    let first : (0, Register [] (at_all 1) true false (Ok 0)) ≡ x = cc (e) in
    record {
      before = [];
      after = xs;
      caller = 0;
      name = [];
      sequences = at_all 1;
      wants_dump = true;
      wants_report = false;
      stands = ap (λ (y : ℕ × EngineEntry). y ∷ xs) (sym first);
      sequence = sequence;
      called = called;
    }

front_before : (t : Transition) (sequence : ℕ) (earlier later : EngineHistory) (caller : ℕ) (begun : Transition) (sheet : Sheet) (start : ℕ) → sequence_for (at_all 2) t ≡ Some sequence
    → sample_engine ≡ earlier ++ (caller, Begin begun sheet (Ok start)) ∷ later → IsRegisteredIn earlier 1 t
front_before t sequence [] later caller begun sheet start called e =
    absurd (let pair : (0, Register [] (at_all 1) true false (Ok 0)) ≡ (caller, Begin begun sheet (Ok start)) = cc (e) in
    let x : Register [] (at_all 1) true false (Ok 0) ≡ Begin begun sheet (Ok start) = ap (λ (y : ℕ × EngineEntry). y.1) pair in
    cc (x))
front_before t sequence (x ∷ []) later caller begun sheet start called e =
    absurd (let pair : (0, Register [] (at_all 2) false false (Ok 1)) ≡ (caller, Begin begun sheet (Ok start)) = cc (e) in
    let x : Register [] (at_all 2) false false (Ok 1) ≡ Begin begun sheet (Ok start) = ap (λ (y : ℕ × EngineEntry). y.1) pair in
    cc (x))
front_before t sequence (x ∷ y ∷ ys) later caller begun sheet start called e =
    let second : (0, Register [] (at_all 2) false false (Ok 1)) ≡ y = cc (e) in
    record {
      before = x ∷ [];
      after = ys;
      caller = 0;
      name = [];
      sequences = at_all 2;
      wants_dump = false;
      wants_report = false;
      stands = ap (λ (z : ℕ × EngineEntry). x ∷ z ∷ ys) (sym second);
      sequence = sequence;
      called = called;
    }

pub no_analyzer : (a : SessionAnalyzer) → HasAnalyzer sample_session a → ⊥
no_analyzer a (zero, e) = absurd (cc (e))
no_analyzer a (suc n, e) = absurd (cc (e))

pub sample_keeps : MembersKeep sample_session
sample_keeps = record {
  buffers_legal = legal;
  engine_legal = engine_is_legal;
  own_clients = (tt, (tt, (tt, (refl, (refl, (refl, (refl, (tt, (tt, (refl, (refl, (refl, (refl, (tt, tt))))))))))))));
  callers = sample_callers;
  fronts_keep = λ f has. subst (λ (x : SessionFront). KeepsFront x.takes x.makes (buffer_calls sample_session x.buffer x.client) (turns_of sample_session x.client)) (only_front f has) front_keeps;
  fronts_moments = λ f has. subst (λ (x : SessionFront). KeepsMoments (buffer_calls sample_session x.buffer x.client) (turns_of sample_session x.client) x.moments) (only_front f has) front_moments;
  fronts_set = λ f has are. subst (λ (x : SessionFront). AreTurnSets x.name (buffer_calls sample_session x.buffer x.client) (turns_of sample_session x.client) x.moments (database_calls sample_session x.client)) (only_front f has) front_set;
  logger_keeps = logger_is_kept;
  logger_got = got_so;
  analyzers_keep = λ a has. absurd (no_analyzer a has);
  analyzers_got = λ a has. absurd (no_analyzer a has);
  fronts_registered = λ f has. subst (λ (x : SessionFront). IsRegistered sample_session x.client Start × IsRegistered sample_session x.client Stop) (only_front f has)
      ((λ earlier later caller begun sheet start e. front_before Start 2 earlier later caller begun sheet start refl e), (λ earlier later caller begun sheet start e. front_before Stop 2 earlier later caller begun sheet start refl e));
  analyzers_registered = λ a has. absurd (no_analyzer a has);
  logger_registered = (
    (λ earlier later caller begun sheet start e. logger_before Start 1 earlier later caller begun sheet start refl e),
    (λ earlier later caller begun sheet start e. logger_before Stop 1 earlier later caller begun sheet start refl e),
  );
  one_dump = (((λ e. refl), (λ e. refl)), (((λ (e : false ≡ true). absurd (cc (e))), (λ (e : 1 ≡ 0). absurd (omega (arith, e)))), (tt, (tt, (tt, (tt, (tt, (tt, (tt, (tt, (tt, (tt, (tt, (tt, tt))))))))))))));
}
  where
    legal : (buffer : ℕ) → IsLegal (opening 48) (sample_history buffer)
    legal zero = sample_legal
    legal (suc n) = tt

    got_so : (buffer : ℕ) → AllByRecursion (WasSentAt (sample_history buffer)) (sample_got buffer)
    got_so zero = (refl, tt)
    got_so (suc n) = tt

pub sample_stopped : IsStoppedRun sample_session sample_run
sample_stopped = record {
  started = record {
    earlier = take 2 sample_engine;
    between = take 4 (drop 3 sample_engine);
    later = drop 8 sample_engine;
    opener = 0;
    closer = 0;
    whole = refl;
    on = (refl, (refl, (refl, (refl, tt))));
  };
  stopped = record {
    earlier = take 8 sample_engine;
    between = take 4 (drop 9 sample_engine);
    later = [];
    opener = 0;
    closer = 0;
    whole = refl;
    on = (refl, (refl, (refl, (refl, tt))));
  };
}

pub sample_told : ToldChannel sample_session sample_run sample_channel whole_file
sample_told = record { index = 0; ends = whole_file ∷ []; tells = refl; at = refl }
