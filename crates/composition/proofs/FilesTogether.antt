-- What the run files have, by the engine's history and the buffers'.
use mathlib.Core.List.{IsPrefix}
use Rattle.std.specs.Prelude.{◌≡◌, ℕ, ◌≤◌, IsTrue, IsSome, List, [], ◌∷◌, ◌++◌, All, length, slice_get, unwrap_or, Option, Some, None, Ok, refl}
use Rattle.std.proofs.Common.{ap, sym, ◌∙◌, subst, arith, inl, inr}
use Rattle.daq_types.specs.Callers.{caller_of_client, entries_by}
use Rattle.daq_types.specs.declared.events.Event.{Event}
use Rattle.daq_types.specs.declared.runs.ChannelEnd.{ChannelEnd}
use Rattle.daq_types.specs.declared.runs.ChannelState.{ChannelState}
use Rattle.daq_types.specs.declared.runs.ChannelState.TheVariants.{Idle, Writing, Broken, Ended, NoEnd, NoMark}
use Rattle.daq_types.specs.declared.runs.Order.{Order}
use Rattle.daq_types.specs.declared.runs.StartOutcome.{StartOutcome}
use Rattle.daq_types.specs.declared.runs.StartOutcome.TheVariants.{Completed}
use Rattle.daq_types.specs.declared.runs.Transition.{Transition}
use Rattle.daq_types.specs.declared.runs.Transition.TheVariants.{Start, Stop}
use Rattle.event.specs.Events.{encoding, record_limit}
use Rattle.event.specs.RunFile.{end_record, IsFileEvent}
use Rattle.sub_files.specs.declared.open_file.Fallen.{Fallen}
use Rattle.sub_files.specs.Patterns.{piece_name_by}
use Rattle.sub_files.specs.Pieces.{Series, HasRun, HasPart, IsFileOf, FilesOfRun, series_of}
use Rattle.sub_files.specs.Rolls.{fallen_at}
use Rattle.sub_files.proofs.FilesStay.{part_of_more}
use Rattle.buffer_core.specs.declared.entry.BufferEntry.{BufferEntry}
use Rattle.buffer_core.specs.declared.entry.BufferEntry.TheVariants.{Begin as BufferBegin, Pause, Resume, End}
use Rattle.buffer_core.specs.Histories.{History}
use Rattle.buffer_core.specs.Runs.{segment}
use Rattle.buffer_core.specs.Readers.{among, places_got, places_of, wanted}
use Rattle.transitions.specs.declared.answers.Answer.TheVariants.{Yes, No}
use Rattle.transitions.specs.declared.answers.Tally.TheVariants.{Plain, Channels}
use Rattle.transitions.specs.declared.replies.Progress.TheVariants.{Done}
use Rattle.transitions.specs.declared.entry.EngineEntry.TheVariants.{Begin, Check}
use Rattle.transitions.specs.Engines.{engine_opening}
use Rattle.transitions.specs.EngineCalls.{engine_after}
use Rattle.transitions.specs.EnginePoints.{tally_of}
use Rattle.transitions.specs.EngineHistories.{IsShort}
use Rattle.member_model.specs.RunEngines.{Sheet, ClientTally, Answer, Tally, EngineState, EngineHistory, IsLegalEngine, IsSheet}
use Rattle.member_model.specs.Turns.{MemberTurn, HasTurnOf, IsAcceptedStart, HasAnswer}
use Rattle.member_model.specs.ReadRuns.{HasReadRun}
use Rattle.member_model.specs.SentCalls.{EachCall}
use Rattle.member_model.specs.CutRuns.{MarksEnd, HasCutRun}
use Rattle.member_model.specs.EndedRuns.{EndsBegun, MakesNoMark}
use Rattle.member_model.specs.LoggerKept.{LoggerChannel, HasWritten, HasWrittenPart, TellsChannel, IsStartAnswer, IsStateSo, IsEndSo, series_from, stop_bytes}
use Rattle.analyzers.specs.AnalyzerKept.{IsAnalyzerCall}
use Rattle.history_laws.specs.OneCaller.{IsCallersPart, HaveOwnClients, MarksAlone}
use Rattle.history_laws.specs.CallerLaws.{ReadPlaces, ReadEvents, CutEvents, RunFileFits, MembersFit, BegunIsEnded, SenderMakesNoMark}
use Rattle.history_laws.specs.BegunTurns.{HasTransition, HasTally}
use Rattle.composition.specs.Sessions.{Session, turns_of, buffer_calls, MembersKeep}
use Rattle.composition.specs.SessionRuns.{SessionRun, IsStoppedRun, run_order, ToldChannel, channel_events, begin_dump, series_in, last_record, end_time, end_dump, HoldsFileParts}
use Rattle.composition.specs.CompositionLaws.{ChannelsTold, EndsTold, EndsSo, FilesHoldRuns, FilesHoldParts, RunsAreEnded, NoEndRefused}
use Rattle.composition.proofs.SessionTurns.{EngineFacts, are_turns, start_turn, one_start, StopTally, number_of, stop_tally, HasStartTally, start_tally, last_tally}
use Rattle.composition.proofs.SentTogether.{each_reads_or_sends}
use Rattle.composition.proofs.PiecesHeld.{FitsAs, end_small, holds_piece}

-- what the laws of one caller's calls say
pub record CallerFacts : Type 0 where
  pub places : ReadPlaces
  pub events : ReadEvents
  pub cut : CutEvents
  pub fits_file : RunFileFits
  pub fits : MembersFit
  pub ends : BegunIsEnded
  pub senders : SenderMakesNoMark

pub yes_channels : (answer : Answer) (ends : List ChannelEnd) → Channels ends ≡ tally_of answer → answer ≡ Yes (Channels ends)
yes_channels (Yes tally) ends e = ap (λ (t : Tally). Yes t) (sym e)
yes_channels (No why) ends e = absurd (cc (e))

-- The logger's calls and what it got are its part of a buffer's history.

logger_part : (s : Session) → MembersKeep s → (buffer : ℕ) → IsCallersPart (s.history buffer) (caller_of_client s.logger) (buffer_calls s buffer s.logger) (s.got buffer)
logger_part s keep buffer = record { own_is = refl; sent_so = keep.logger_got buffer }

own_clients : CallerFacts → (s : Session) → MembersKeep s → (buffer : ℕ) → HaveOwnClients (s.history buffer)
own_clients callers s keep buffer = (callers.fits (s.history buffer) (each_reads_or_sends s keep buffer)).0

-- The logger's turns of the run.

record LoggerRun (s : Session) (r : SessionRun) (channel : LoggerChannel) (told : ChannelEnd) : Type 0 where
  stop : MemberTurn
  number : stop.order.start ≡ r.start
  time : stop.order.time ≡ r.last.time
  dump : stop.dump ≡ r.last.dump
  tells : TellsChannel (turns_of s s.logger) stop channel told
  first : (u : MemberTurn) → HasTurnOf (turns_of s s.logger) Start stop.order.start u → (u.order ≡ run_order r) × (u.dump ≡ r.first.dump)

logger_run : EngineFacts → (s : Session) → MembersKeep s → (r : SessionRun) → IsStoppedRun s r → (channel : LoggerChannel) (told : ChannelEnd) → ToldChannel s r channel told → LoggerRun s r channel told
logger_run laws s keep r run channel told is =
    let t : StopTally s r run s.logger (Channels is.ends) = stop_tally laws s keep r run s.logger is.index (Channels is.ends) is.tells in
    let number : t.turn.order.start ≡ r.start = number_of Stop r.last r.start t.turn t.of_begin in
    let begin : HasStartTally s r run s.logger = start_tally laws s keep r run s.logger keep.logger_registered.0 in
    let t0 = begin.told in
    let starts : t0.turn.transition ≡ Start = t0.completed refl in
    let one : HasTurnOf (turns_of s s.logger) Start r.start t0.turn = record { stands = t0.stands; is = starts; of = number_of Start r.first r.start t0.turn t0.of_begin } in
    record {
      stop = t.turn;
      number = number;
      time = ap (λ (o : Order). o.time) t.of_begin.order;
      dump = t.dump keep.one_dump (t.completed refl);
      tells = record {
        stands = t.stands;
        is = t.completed refl;
        ends = is.ends;
        answered = t.answered ∙ ap (λ (a : Answer). Some a) (yes_channels t.answer is.ends t.tally_is);
        at = is.at;
      };
      first = λ u of.
          let here : HasTurnOf (turns_of s s.logger) Start r.start u = subst (λ (n : ℕ). HasTurnOf (turns_of s s.logger) Start n u) number of in
          let same : t0.turn ≡ u = one_start (turns_of s s.logger) r.start t0.turn u (are_turns laws s keep s.logger) one here in
          ((start_turn laws s keep r run s.logger u here).order, ap (λ (v : MemberTurn). v.dump) (sym same) ∙ t0.dump keep.one_dump starts);
    }

dump_as : (d first : Option (List ℕ)) → d ≡ first → unwrap_or d [] ≡ unwrap_or first []
dump_as d first e = ap (λ (o : Option (List ℕ)). unwrap_or o []) e

-- The dumps of sheets are short.

begins_with : (state : EngineState) (before : EngineHistory) (caller : ℕ) (t : Transition) (sheet : Sheet) (start : ℕ) (after : EngineHistory) → IsLegalEngine state (before ++ (caller, Begin t sheet (Ok start)) ∷ after) → IsSheet sheet
begins_with state [] caller t sheet start after legal = legal.0.1
begins_with state (e ∷ before) caller t sheet start after legal = begins_with (engine_after state e.1) before caller t sheet start after legal.2

begun_sheet : (s : Session) → MembersKeep s → (t : Transition) (sheet : Sheet) (start : ℕ) (outcome : StartOutcome) (tallies : List ClientTally) → HasTransition s.engine t sheet start outcome tallies → IsSheet sheet
begun_sheet s keep t sheet start outcome tallies has =
    begins_with engine_opening has.earlier has.opener t sheet start (has.between ++ (has.closer, Check (Done outcome) tallies) ∷ has.later) (subst (IsLegalEngine engine_opening) has.whole keep.engine_legal)

short_dump : (dump : Option (List ℕ)) → IsShort dump → length (unwrap_or dump []) ≤ record_limit
short_dump None short = omega arith
short_dump (Some bytes) short = short bytes refl

-- A channel that ended.

-- its client got, of the places between the marks, just those of the events that it asks for
abbrev IsReadInRun : Session → SessionRun → LoggerChannel → Type 0
IsReadInRun s r channel =
    among (segment (s.history channel.buffer) r.start) (places_got (s.history channel.buffer) channel.client)
    ≡ places_of (wanted channel.id channel.mask (segment (s.history channel.buffer) r.start))

-- what its files have in common, and how the last one ends, by the sheets
series_so : (s : Session) (r : SessionRun) (channel : LoggerChannel) (told : ChannelEnd) (l : LoggerRun s r channel told) (start : MemberTurn) → HasTurnOf (turns_of s s.logger) Start l.stop.order.start start → series_from channel start ≡ series_in r channel
series_so s r channel told l start of =
    let first = l.first start of in
    ap (λ (o : Order). series_of channel.pattern channel.limit (record { run = o.run; time = o.time }) (unwrap_or start.dump [])) first.0
    ∙ ap (λ (dump : List ℕ). series_of channel.pattern channel.limit (record { run = r.first.run; time = r.first.time }) dump) (dump_as start.dump r.first.dump first.1)

last_so : (s : Session) (r : SessionRun) (channel : LoggerChannel) (told : ChannelEnd) (l : LoggerRun s r channel told) (start : MemberTurn) → HasTurnOf (turns_of s s.logger) Start l.stop.order.start start → (dump : List ℕ)
    → stop_bytes start l.stop dump ≡ last_record r dump
last_so s r channel told l start of dump =
    ap (λ (o : Order). encoding (end_record o.run l.stop.order.time dump)) (l.first start of).0
    ∙ ap (λ (time : ℕ). encoding (end_record r.first.run time dump)) l.time

-- a run file of all events that the channel asks for, with the dumps of both sheets, would not be too long
fits_each : CallerFacts → (s : Session) → MembersKeep s → (r : SessionRun) → IsStoppedRun s r → (channel : LoggerChannel) → IsReadInRun s r channel → All IsFileEvent (channel_events s r channel)
    → (last_dump : List ℕ) → r.last.dump ≡ Some last_dump → (many number : ℕ) → FitsAs r last_dump many number (channel_events s r channel)
fits_each callers s keep r run channel got fine last_dump has_last many number =
    callers.fits_file (s.size channel.buffer) (s.history channel.buffer) (keep.buffers_legal channel.buffer) channel.client channel.id channel.mask r.start got r.first.run r.first.time (end_time r many number) (begin_dump r) (end_dump last_dump many number)
    (short_dump r.first.dump (begun_sheet s keep Start r.first r.start Completed r.first_tallies run.started).short)
    (end_small last_dump many number ((begun_sheet s keep Stop r.last r.start Completed r.last_tallies run.stopped).short last_dump has_last))
    fine

pub files_hold_runs : EngineFacts → CallerFacts → FilesOfRun → (s : Session) → MembersKeep s → FilesHoldRuns s
files_hold_runs laws callers files s keep r run index channel at told is ended =
    let l : LoggerRun s r channel told = logger_run laws s keep r run channel told is in
    let b : ℕ = channel.buffer in
    let h : History = s.history b in
    let own : List BufferEntry = buffer_calls s b s.logger in
    let w : HasWritten (record { own = own; got = s.got b }) (turns_of s s.logger) s.files channel l.stop told.files =
    keep.logger_keeps.ended (are_turns laws s keep s.logger) l.stop index channel told at l.tells ended in
    let of = w.is_start.is_start in
    let reads : HasReadRun own (s.got b) channel.client channel.id channel.mask w.number r.start w.begun w.ended w.events =
    subst (λ (n : ℕ). HasReadRun own (s.got b) channel.client channel.id channel.mask w.number n w.begun w.ended w.events) l.number w.reads in
    let events : w.events ≡ channel_events s r channel =
    callers.events (s.size b) h (caller_of_client s.logger) own (s.got b) (keep.buffers_legal b) (own_clients callers s keep b) (logger_part s keep b) channel.client channel.id channel.mask w.number r.start w.begun w.ended w.events reads in
    let got : IsReadInRun s r channel =
    callers.places (s.size b) h (caller_of_client s.logger) own (s.got b) (keep.buffers_legal b) (own_clients callers s keep b) (logger_part s keep b) channel.client channel.id channel.mask w.number r.start w.begun w.ended w.events reads in
    let has_last : r.last.dump ≡ Some w.dump = sym l.dump ∙ w.has_dump in
    let stored : HasRun s.files (series_in r channel) told.files w.taken (last_record r w.dump) (channel_events s r channel) =
    subst (λ (last : List ℕ). HasRun s.files (series_in r channel) told.files w.taken last (channel_events s r channel)) (last_so s r channel told l w.start of w.dump)
    (subst (λ (es : List Event). HasRun s.files (series_in r channel) told.files w.taken (stop_bytes w.start l.stop w.dump) es) events
    (subst (λ (x : Series). HasRun s.files x told.files w.taken (stop_bytes w.start l.stop w.dump) w.events) (series_so s r channel told l w.start of) w.stored)) in
    record {
      last_dump = w.dump;
      has_dump = has_last;
      pieces = stored.pieces;
      each = sym stored.many;
      few = stored.few;
      taken = w.taken;
      beyond = subst (λ (o : Order). IsTrue w.taken → IsTrue s.files.names → IsSome (s.files.at (piece_name_by channel.pattern o.run told.files))) (l.first w.start of).0 w.beyond;
      cut = stored.cut;
      files = λ number piece there.
          holds_piece s r channel w.dump told.files (channel_events s r channel) stored.pieces stored.cut.joins
          (fits_each callers s keep r run channel got (subst (All IsFileEvent) events w.fine) w.dump has_last told.files) number piece there
          (subst (λ (many : ℕ). IsFileOf s.files (series_in r channel) (last_record r w.dump) many number piece) (sym stored.many)
          (files s.files (series_in r channel) told.files w.taken (last_record r w.dump) (channel_events s r channel) stored number piece there));
      got = got;
    }

-- What the logger told.

pub plain_start : (answer : Answer) (tally : Tally) → answer ≡ Yes tally → IsStartAnswer answer → answer ≡ Yes Plain
plain_start answer tally is plain = is ∙ ap (λ (t : Tally). Yes t) (subst IsStartAnswer is plain)

told_channels : (tally : Tally) (turn_answer : Option Answer) (answer : Answer) (ends : List ChannelEnd) → tally ≡ tally_of answer → turn_answer ≡ Some answer → turn_answer ≡ Some (Yes (Channels ends)) → tally ≡ Channels ends
told_channels tally turn_answer answer ends is answered told =
    let both : Some answer ≡ Some (Yes (Channels ends)) = sym answered ∙ told in
    let same : answer ≡ Yes (Channels ends) = cc (both) in
    is ∙ ap tally_of same

-- the logger accepted the start of the run
accepted_start : EngineFacts → (s : Session) → MembersKeep s → (r : SessionRun) → IsStoppedRun s r → (turn : MemberTurn) × IsAcceptedStart (turns_of s s.logger) r.start turn
accepted_start laws s keep r run =
    let begin : HasStartTally s r run s.logger = start_tally laws s keep r run s.logger keep.logger_registered.0 in
    let t0 = begin.told in
    let starts : t0.turn.transition ≡ Start = t0.completed refl in
    let plain : t0.answer ≡ Yes Plain = plain_start t0.answer begin.tally (t0.accepted starts) (keep.logger_keeps.starts t0.turn t0.answer t0.stands starts t0.answered) in (
      t0.turn,
      record {
        is_start = record { stands = t0.stands; is = starts; of = number_of Start r.first r.start t0.turn t0.of_begin };
        accepted = t0.answered ∙ ap (λ (a : Answer). Some a) plain;
      },
    )

pub channels_told : EngineFacts → (s : Session) → MembersKeep s → ChannelsTold s
channels_told laws s keep r run index channel at =
    let turns : List MemberTurn = turns_of s s.logger in
    let own : List BufferEntry = buffer_calls s channel.buffer s.logger in
    let begin : (turn : MemberTurn) × IsAcceptedStart turns r.start turn = accepted_start laws s keep r run in
    let last : HasTally s.logger r.last_tallies = last_tally laws s keep r run s.logger keep.logger_registered.1 in
    let t1 : StopTally s r run s.logger last.1 = stop_tally laws s keep r run s.logger last.0 last.1 last.2 in
    let number : t1.turn.order.start ≡ r.start = number_of Stop r.last r.start t1.turn t1.of_begin in
    let told = keep.logger_keeps.stops (are_turns laws s keep s.logger) begin.0 t1.turn (subst (λ (n : ℕ). IsAcceptedStart turns n begin.0) (sym number) begin.1)
    t1.stands (t1.completed refl) (subst HasAnswer (sym t1.answered) tt) index channel at in
    let tally : last.1 ≡ Channels told.1.ends = told_channels last.1 t1.turn.answer t1.answer told.1.ends t1.tally_is t1.answered told.1.answered in (
      told.0,
      record {
        index = last.0;
        ends = told.1.ends;
        tells = last.2 ∙ ap (λ (x : Tally). Some (record { client = s.logger; tally = x })) tally;
        at = told.1.at;
      },
      subst (λ (d : Option (List ℕ)). IsEndSo own r.start d told.0) (t1.dump keep.one_dump (t1.completed refl)) (subst (λ (n : ℕ). IsEndSo own n t1.turn.dump told.0) number told.2),
    )

-- And each list that it told there tells of each channel.
pub ends_told : EngineFacts → (s : Session) → MembersKeep s → EndsTold s
ends_told laws s keep r run place ends there index channel at =
    let turns : List MemberTurn = turns_of s s.logger in
    let begin : (turn : MemberTurn) × IsAcceptedStart turns r.start turn = accepted_start laws s keep r run in
    let t1 : StopTally s r run s.logger (Channels ends) = stop_tally laws s keep r run s.logger place (Channels ends) there in
    let number : t1.turn.order.start ≡ r.start = number_of Stop r.last r.start t1.turn t1.of_begin in
    let told = keep.logger_keeps.stops (are_turns laws s keep s.logger) begin.0 t1.turn (subst (λ (n : ℕ). IsAcceptedStart turns n begin.0) (sym number) begin.1)
    t1.stands (t1.completed refl) (subst HasAnswer (sym t1.answered) tt) index channel at in
    let tally : Channels ends ≡ Channels told.1.ends = told_channels (Channels ends) t1.turn.answer t1.answer told.1.ends t1.tally_is t1.answered told.1.answered in
    let same : ends ≡ told.1.ends = cc (tally) in
    (told.0, subst (λ (l : List ChannelEnd). slice_get l channel.number ≡ Some told.0) (sym same) told.1.at)

-- One thing was told of a channel.

one_answer : (answer : Option Answer) (ends others : List ChannelEnd) → answer ≡ Some (Yes (Channels ends)) → answer ≡ Some (Yes (Channels others)) → ends ≡ others
one_answer answer ends others one other =
    let both : Some (Yes (Channels ends)) ≡ Some (Yes (Channels others)) = sym one ∙ other in
    cc (both)

one_end : (turns : List MemberTurn) (stop : MemberTurn) (channel : LoggerChannel) (told other : ChannelEnd) → TellsChannel turns stop channel told → TellsChannel turns stop channel other → told ≡ other
one_end turns stop channel told other t u =
    let ends : t.ends ≡ u.ends = one_answer stop.answer t.ends u.ends t.answered u.answered in
    let both : Some told ≡ Some other = sym t.at ∙ (ap (λ (l : List ChannelEnd). slice_get l channel.number) ends ∙ u.at) in
    cc (both)

-- and it is so by the logger's calls
end_so : EngineFacts → (s : Session) → MembersKeep s → (r : SessionRun) → IsStoppedRun s r → (index : ℕ) (channel : LoggerChannel) → slice_get s.channels index ≡ Some channel → (told : ChannelEnd)
    → LoggerRun s r channel told → IsEndSo (buffer_calls s channel.buffer s.logger) r.start r.last.dump told
end_so laws s keep r run index channel at end l =
    let turns : List MemberTurn = turns_of s s.logger in
    let own : List BufferEntry = buffer_calls s channel.buffer s.logger in
    let begin : (turn : MemberTurn) × IsAcceptedStart turns r.start turn = accepted_start laws s keep r run in
    let told = keep.logger_keeps.stops (are_turns laws s keep s.logger) begin.0 l.stop (subst (λ (n : ℕ). IsAcceptedStart turns n begin.0) (sym l.number) begin.1)
    l.tells.stands l.tells.is (subst HasAnswer (sym l.tells.answered) tt) index channel at in
    let same : told.0 ≡ end = one_end turns l.stop channel told.0 end told.1 l.tells in
    subst (λ (x : ChannelEnd). IsEndSo own r.start r.last.dump x) same
    (subst (λ (d : Option (List ℕ)). IsEndSo own r.start d told.0) l.dump (subst (λ (n : ℕ). IsEndSo own n l.stop.dump told.0) l.number told.2))

pub ends_so : EngineFacts → (s : Session) → MembersKeep s → EndsSo s
ends_so laws s keep r run index channel at told is = end_so laws s keep r run index channel at told (logger_run laws s keep r run channel told is)

-- The logger alone makes marks.

analyzer_no_mark : (e : BufferEntry) → IsAnalyzerCall e → MakesNoMark e
analyzer_no_mark (BufferBegin start reply) reads = reads
analyzer_no_mark (Pause start reply) reads = reads
analyzer_no_mark (Resume start reply) reads = reads
analyzer_no_mark (End start reply) reads = reads
analyzer_no_mark e reads = tt

analyzer_makes_no_mark : (own : List BufferEntry) → EachCall IsAnalyzerCall own → EachCall MakesNoMark own
analyzer_makes_no_mark [] each = tt
analyzer_makes_no_mark (e ∷ own) each = (analyzer_no_mark e each.0, analyzer_makes_no_mark own each.1)

abbrev NoneMade : Session → (buffer by : ℕ) → Type 0
NoneMade s buffer by = EachCall MakesNoMark (entries_by by (s.history buffer))

pub logger_marks_alone : SenderMakesNoMark → (s : Session) → MembersKeep s → (buffer : ℕ) → MarksAlone (s.history buffer) (caller_of_client s.logger)
logger_marks_alone senders s keep buffer other differs =
    elim (keep.callers buffer other) as (λ w. NoneMade s buffer other) [
      | inl none ↦ subst (EachCall MakesNoMark) (sym none) tt
      | inr member ↦ elim member as (λ w. NoneMade s buffer other) [
        | inl logger ↦ absurd (differs logger)
        | inr rest ↦ elim rest as (λ w. NoneMade s buffer other) [
          | inl front ↦
              subst (λ (by : ℕ). NoneMade s buffer by) front.caller_is
              (subst (λ (b : ℕ). NoneMade s b (caller_of_client front.front.client)) front.buffer_is
              (senders (buffer_calls s front.front.buffer front.front.client) (keep.fronts_keep front.front front.stands).only_sends))
          | inr analyzer ↦
              subst (λ (by : ℕ). NoneMade s buffer by) analyzer.caller_is
              (subst (λ (b : ℕ). NoneMade s b (caller_of_client analyzer.analyzer.client)) analyzer.buffer_is
              (analyzer_makes_no_mark (buffer_calls s analyzer.analyzer.buffer analyzer.analyzer.client) (keep.analyzers_keep analyzer.analyzer analyzer.stands).calls.only_reads))
        ]
      ]
    ]

pub logger_ends : CallerFacts → (s : Session) → MembersKeep s → (buffer start : ℕ) → EndsBegun (buffer_calls s buffer s.logger) start → (ended : ℕ) × MarksEnd (buffer_calls s buffer s.logger) start ended
logger_ends callers s keep buffer start begun =
    callers.ends (s.size buffer) (s.history buffer) (caller_of_client s.logger) start (keep.buffers_legal buffer) (logger_marks_alone callers.senders s keep buffer) begun

-- in whatever state a channel was told to be, the run was ended
state_ends : (own : List BufferEntry) (start : ℕ) (dump : Option (List ℕ)) (state : ChannelState) → (EndsBegun own start → (ended : ℕ) × MarksEnd own start ended) → IsStateSo own start dump state → (ended : ℕ) × MarksEnd own start ended
state_ends own start dump Idle ends so = absurd so
state_ends own start dump Writing ends so = absurd so
state_ends own start dump Broken ends so = ends so
state_ends own start dump Ended ends so = so.1
state_ends own start dump NoEnd ends so = so.1
state_ends own start dump NoMark ends so = ends so.0

pub runs_are_ended : EngineFacts → CallerFacts → (s : Session) → MembersKeep s → RunsAreEnded s
runs_are_ended laws callers s keep r run index channel at =
    let told = channels_told laws s keep r run index channel at in
    state_ends (buffer_calls s channel.buffer s.logger) r.start r.last.dump told.0.state (logger_ends callers s keep channel.buffer r.start) told.2.state

pub no_end_refused : EngineFacts → CallerFacts → (s : Session) → MembersKeep s → NoEndRefused s
no_end_refused laws callers s keep r run index channel at told is no_mark =
    let l : LoggerRun s r channel told = logger_run laws s keep r run channel told is in
    let own : List BufferEntry = buffer_calls s channel.buffer s.logger in
    let so : IsStateSo own r.start r.last.dump NoMark = subst (λ (state : ChannelState). IsStateSo own r.start r.last.dump state) no_mark (end_so laws s keep r run index channel at told l).state in
    let marks : (ended : ℕ) × MarksEnd own r.start ended = logger_ends callers s keep channel.buffer r.start so.0 in
    so.2 marks.0 marks.1

-- A channel that broke off.

pub files_hold_parts : EngineFacts → CallerFacts → (s : Session) → MembersKeep s → FilesHoldParts s
files_hold_parts laws callers s keep r run index channel at told is broken last_dump has_last =
    let l : LoggerRun s r channel told = logger_run laws s keep r run channel told is in
    let b : ℕ = channel.buffer in
    let h : History = s.history b in
    let own : List BufferEntry = buffer_calls s b s.logger in
    let so : EndsBegun own r.start = subst (λ (state : ChannelState). IsStateSo own r.start r.last.dump state) broken (end_so laws s keep r run index channel at told l).state in
    let found : (ended : ℕ) × MarksEnd own r.start ended = logger_ends callers s keep b r.start so in
    let ended : ℕ = found.0 in
    let marks_stop : MarksEnd own l.stop.order.start ended = subst (λ (n : ℕ). MarksEnd own n ended) (sym l.number) found.1 in
    let w : HasWrittenPart (record { own = own; got = s.got b }) (turns_of s s.logger) s.files channel l.stop told ended last_dump =
    keep.logger_keeps.broken (are_turns laws s keep s.logger) l.stop index channel told at l.tells broken ended marks_stop last_dump (l.dump ∙ has_last) in
    let series : series_from channel w.start ≡ series_in r channel = series_so s r channel told l w.start w.is_start.is_start in
    let fallen : Fallen = fallen_at told.files told.framed in
    elim w.part as (λ x. HoldsFileParts s r channel last_dump told) [
      | inl cut ↦
          let read : HasCutRun own (s.got b) channel.client channel.id channel.mask w.number r.start w.begun ended w.events =
          subst (λ (n : ℕ). HasCutRun own (s.got b) channel.client channel.id channel.mask w.number n w.begun ended w.events) l.number cut.0 in
          let events : IsPrefix w.events (channel_events s r channel) =
          callers.cut (s.size b) h (caller_of_client s.logger) own (s.got b) (keep.buffers_legal b) (own_clients callers s keep b) (logger_part s keep b) channel.client channel.id channel.mask w.number r.start w.begun ended w.events read in
          record {
            last = [];
            last_is = inl refl;
            part = part_of_more s.files (series_in r channel) fallen w.events (channel_events s r channel) events
                (subst (λ (x : Series). HasPart s.files x fallen [] w.events) series cut.1);
          }
      | inr whole ↦
          let read : HasReadRun own (s.got b) channel.client channel.id channel.mask w.number r.start w.begun ended w.events =
          subst (λ (n : ℕ). HasReadRun own (s.got b) channel.client channel.id channel.mask w.number n w.begun ended w.events) l.number whole.0 in
          let events : w.events ≡ channel_events s r channel =
          callers.events (s.size b) h (caller_of_client s.logger) own (s.got b) (keep.buffers_legal b) (own_clients callers s keep b) (logger_part s keep b) channel.client channel.id channel.mask w.number r.start w.begun ended w.events read in
          record {
            last = last_record r last_dump;
            last_is = inr refl;
            part = subst (λ (bytes : List ℕ). HasPart s.files (series_in r channel) fallen bytes (channel_events s r channel)) (last_so s r channel told l w.start w.is_start.is_start last_dump)
                (subst (λ (es : List Event). HasPart s.files (series_in r channel) fallen (stop_bytes w.start l.stop last_dump) es) events
                (subst (λ (x : Series). HasPart s.files x fallen (stop_bytes w.start l.stop last_dump) w.events) series whole.1));
          }
    ]
