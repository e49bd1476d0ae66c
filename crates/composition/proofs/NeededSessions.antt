-- The sessions of `NeededSamples` are as is said of them.
use Rattle.std.specs.Prelude.{◌≡◌, ◌≢◌, ℕ, zero, suc, ◌==◌, Bool, true, false, List, [], ◌∷◌, ◌++◌, length, take, drop, slice_get, Contains, Option, Some, None, Ok, refl, ◌⊎◌}
use Rattle.std.specs.List.{AllByRecursion}
use Rattle.std.proofs.Common.{ap, sym, ◌∙◌, subst, arith, inl, inr, ne_eqb, append-nil}
use Rattle.std.proofs.lemmas.Bool.{eqb-true, eqb-false}
use Rattle.std.proofs.lemmas.List.Elements.{All-nil, All-cons}
use Rattle.daq_types.specs.Callers.{caller_of_client, entries_by}
use Rattle.daq_types.specs.declared.events.Event.{Event}
use Rattle.daq_types.specs.declared.runs.ChannelEnd.{ChannelEnd}
use Rattle.daq_types.specs.declared.runs.ChannelState.{ChannelState}
use Rattle.daq_types.specs.declared.runs.ChannelState.TheVariants.{Ended, Broken, NoEnd}
use Rattle.daq_types.specs.declared.runs.FrontEnded.TheVariants.{Quota}
use Rattle.daq_types.specs.declared.runs.RunState.TheVariants.{Stopped, Running}
use Rattle.daq_types.specs.declared.runs.StartOutcome.TheVariants.{Completed}
use Rattle.daq_types.specs.declared.runs.Transition.{Transition}
use Rattle.daq_types.specs.declared.runs.Transition.TheVariants.{Start, Stop}
use Rattle.buffer_core.specs.declared.entry.BufferEntry.TheVariants.{Begin as BufferBegin}
use Rattle.event.specs.Events.{header_bytes, matches}
use Rattle.event.specs.RunFile.{run_file, IsFileEvent}
use Rattle.daq_io.specs.Seen.{Seen, Stored, IsStored, stored_closed}
use Rattle.sub_files.specs.Cuts.{events_of_pieces}
use Rattle.buffer_core.proofs.SlotLaws.{split}
use Rattle.buffer_core.specs.Window.{opening}
use Rattle.buffer_core.specs.Histories.{IsLegal}
use Rattle.buffer_core.specs.Samples.{sample_event, longer_event}
use Rattle.event_report.specs.Reports.{Totals}
use Rattle.odb_value.specs.declared.items.Item.TheVariants.{UInt64}
use Rattle.odb_tree.specs.declared.entry.DatabaseEntry.{DatabaseEntry}
use Rattle.odb_tree.specs.declared.entry.DatabaseEntry.TheVariants.{Set}
use Rattle.odb_watch.specs.declared.entry.WatchEntry.TheVariants.{Watch}
use Rattle.odb_watch.specs.DatabasePorts.{row_calls}
use Rattle.odb_runinfo.specs.RunKeys.{sent_path}
use Rattle.odb_runinfo.specs.RunSets.{AreSets, sent_set}
use Rattle.transitions.specs.declared.answers.Answer.TheVariants.{Yes}
use Rattle.transitions.specs.declared.answers.Tally.TheVariants.{Plain, Front, Channels, Report}
use Rattle.transitions.specs.declared.entry.EngineEntry.TheVariants.{Register, Begin}
use Rattle.transitions.specs.Called.{called_list}
use Rattle.transitions.specs.Engines.{engine_opening}
use Rattle.transitions.specs.EngineCalls.{order_for}
use Rattle.transitions.specs.EngineSamples.{at_all}
use Rattle.transitions.specs.Sequences.{sequence_for}
use Rattle.member_model.specs.RunEngines.{Sheet, Answer as ClientAnswer, Tally, ClientTally, EngineEntry, EngineHistory, IsLegalEngine}
use Rattle.member_model.specs.Turns.{MemberTurn, HasTurn}
use Rattle.member_model.specs.Moments.{HasMoment}
use Rattle.member_model.specs.SentCalls.{own_sent, EachCall}
use Rattle.member_model.specs.OwnCalls.{calls_after, AreOwnCalls, SendsNone, AreGivenBy}
use Rattle.member_model.specs.LoggerKept.{LoggerChannel, LoggerPort, HasWritten, KeepsLogger, TellsChannel, IsStateSo, IsEndSo, IsStartAnswer, series_from, stop_bytes}
use Rattle.front_ends.specs.FrontKept.{KeepsFront, KeepsMoments}
use Rattle.analyzers.specs.AnalyzerKept.{KeepsAnalyzer}
use Rattle.history_laws.specs.OneCaller.{WasSentAt}
use Rattle.history_laws.specs.CallerSamples.{reading_history}
use Rattle.history_laws.specs.BegunTurns.{IsRegisteredIn, HasTransition}
use Rattle.composition.specs.SentSets.{AreTurnSets}
use Rattle.composition.specs.Sessions.{Session, SessionFront, SessionAnalyzer, HasFront, IsMemberCaller, turns_of, buffer_calls, database_calls, IsRegistered}
use Rattle.composition.specs.SessionRuns.{SessionRun, IsStoppedRun, ToldChannel, HoldsPiece, HoldsRunFiles, file_name, channel_events}
use Rattle.composition.specs.CompositionLaws.{FrontsTell, FrontsSent, FrontsStand, FrontsSet, StopsSet, OnlyFrontsSent, ChannelsTold, FilesHoldRuns, ReportsTold}
use Rattle.composition.specs.SessionSamples.{whole_file, first_sheet, last_sheet, first_tallies, last_tallies, sample_engine, sample_history, sample_name, sample_database, sample_front, sample_channel, sample_files, sample_session, sample_run}
use Rattle.composition.specs.NeededSamples.{no_end_file, SessionPremise, LegalBuffers, LegalEngine, OwnNames, MemberCalls, KeptFronts, FrontMoments, FrontNumbers, KeptLogger, LoggerEvents, KeptAnalyzers, AnalyzerEvents, FrontsThere, AnalyzersThere, LoggerThere, OneDump, MeetsSession, FailsSession, unmarked_session, unknown_sender, other_maker, other_made, early_front, early_session, nothing_set, watching_front, nothing_stored, other_got, other_files, other_told, sample_analyzer, front_for_analyzer, unknown_analyzer, absent_front, unknown_front, no_files, empty_engine, empty_run, unknown_logger, made_up_engine, made_up, ended_run, spoken_for_engine, spoken_for, no_dump_engine, marked_history, no_dump, no_end_run}
use Rattle.composition.proofs.Sampled.{first_fair, last_fair, front_calls, front_turns, front_keeps, front_moments, front_set, only_channel, no_analyzer, none_of_others, logger_turns, logger_start, logger_stop, run_read_of, stop_is, one_file, whole_not_broken, told_of_only, logger_is_kept, sample_keeps, sample_stopped}

-- The sample session meets all.

pub all_met : (premise : SessionPremise) → MeetsSession premise sample_session
all_met LegalBuffers = sample_keeps.buffers_legal
all_met LegalEngine = sample_keeps.engine_legal
all_met OwnNames = sample_keeps.own_clients
all_met MemberCalls = sample_keeps.callers
all_met KeptFronts = sample_keeps.fronts_keep
all_met FrontMoments = sample_keeps.fronts_moments
all_met FrontNumbers = sample_keeps.fronts_set
all_met KeptLogger = sample_keeps.logger_keeps
all_met LoggerEvents = sample_keeps.logger_got
all_met KeptAnalyzers = sample_keeps.analyzers_keep
all_met AnalyzerEvents = sample_keeps.analyzers_got
all_met FrontsThere = sample_keeps.fronts_registered
all_met AnalyzersThere = sample_keeps.analyzers_registered
all_met LoggerThere = sample_keeps.logger_registered
all_met OneDump = sample_keeps.one_dump

-- Sessions with the buffers of the sample.

-- whose callers are its logger and this front-end
known_callers : (s : Session) (f : SessionFront) → HasFront s f → f.buffer ≡ 0 → caller_of_client f.client ≡ 2 → caller_of_client s.logger ≡ 1 → (buffer caller : ℕ) → (entries_by caller (sample_history buffer) ≡ []) ⊎ IsMemberCaller s buffer caller
known_callers s f has buffer_is client_is logger_is (suc n) caller = inl refl
known_callers s f has buffer_is client_is logger_is zero caller =
    split (1 == caller) (λ b. (1 == caller) ≡ b → (entries_by caller reading_history ≡ []) ⊎ IsMemberCaller s 0 caller)
    (λ h e. inr (inl (sym (eqb-true 1 caller e) ∙ sym logger_is)))
    (λ h e. split (2 == caller) (λ b. (2 == caller) ≡ b → (entries_by caller reading_history ≡ []) ⊎ IsMemberCaller s 0 caller)
    (λ h' e'. inr (inr (inl (record { front = f; stands = has; buffer_is = buffer_is; caller_is = client_is ∙ eqb-true 2 caller e' }))))
    (λ h' e'. inl (none_of_others caller (eqb-false 1 caller e) (eqb-false 2 caller e')))
    refl)
    refl

-- the run of the sample, of a session with its engine
stopped_in : (s : Session) → s.engine ≡ sample_engine → IsStoppedRun s sample_run
stopped_in s is = record {
  started = subst (λ (h : EngineHistory). HasTransition h Start first_sheet 1 Completed first_tallies) (sym is) sample_stopped.started;
  stopped = subst (λ (h : EngineHistory). HasTransition h Stop last_sheet 1 Completed last_tallies) (sym is) sample_stopped.stopped;
}

one_front : (f g : SessionFront) → (at : (index : ℕ) × (slice_get (f ∷ []) index ≡ Some g)) → f ≡ g
one_front f g (zero, e) = cc (e)
one_front f g (suc n, e) = absurd (cc (e))

one_analyzer : (a b : SessionAnalyzer) → (at : (index : ℕ) × (slice_get (a ∷ []) index ≡ Some b)) → a ≡ b
one_analyzer a b (zero, e) = cc (e)
one_analyzer a b (suc n, e) = absurd (cc (e))

-- A run that was not begun in the buffer.

unmarked_callers : (buffer caller : ℕ) → (entries_by caller (unmarked_session.history buffer) ≡ []) ⊎ IsMemberCaller unmarked_session buffer caller
unmarked_callers (suc n) caller = inl refl
unmarked_callers zero caller =
    split (2 == caller) (λ b. (2 == caller) ≡ b → (entries_by caller (unmarked_session.history 0) ≡ []) ⊎ IsMemberCaller unmarked_session 0 caller)
    (λ h e. inr (inr (inl (record { front = sample_front; stands = (0, refl); buffer_is = refl; caller_is = eqb-true 2 caller e }))))
    (λ h e. inl (rw (ne_eqb 2 caller (eqb-false 2 caller e)) refl))
    refl

unmarked_logger : KeepsLogger [] (λ buffer. record { own = buffer_calls unmarked_session buffer 0; got = [] }) logger_turns sample_files
unmarked_logger = record {
  sends_none = silent;
  own_calls = own;
  starts = logger_is_kept.starts;
  stops = λ are begin stop accepted stands is answered index channel at. absurd (cc (at));
  ended = λ are stop index channel told at tells is. absurd (cc (at));
  broken = λ are stop index channel told at tells is. absurd (cc (at));
}
  where
    silent : (buffer : ℕ) → EachCall SendsNone (buffer_calls unmarked_session buffer 0)
    silent zero = tt
    silent (suc n) = tt

    own : (buffer : ℕ) → AreOwnCalls (calls_after [] (buffer_calls unmarked_session buffer 0))
    own zero = tt
    own (suc n) = tt

others_of_unmarked : (other : SessionPremise) → other ≢ LegalBuffers → MeetsSession other unmarked_session
others_of_unmarked LegalBuffers ne = absurd (ne refl)
others_of_unmarked LegalEngine ne = sample_keeps.engine_legal
others_of_unmarked OwnNames ne = sample_keeps.own_clients
others_of_unmarked MemberCalls ne = unmarked_callers
others_of_unmarked KeptFronts ne = λ f has. subst (λ (x : SessionFront). KeepsFront x.takes x.makes (buffer_calls unmarked_session x.buffer x.client) (turns_of unmarked_session x.client)) (one_front sample_front f has) front_keeps
others_of_unmarked FrontMoments ne = λ f has. subst (λ (x : SessionFront). KeepsMoments (buffer_calls unmarked_session x.buffer x.client) (turns_of unmarked_session x.client) x.moments) (one_front sample_front f has) front_moments
others_of_unmarked FrontNumbers ne = λ f has are. subst (λ (x : SessionFront). AreTurnSets x.name (buffer_calls unmarked_session x.buffer x.client) (turns_of unmarked_session x.client) x.moments (database_calls unmarked_session x.client)) (one_front sample_front f has) front_set
others_of_unmarked KeptLogger ne = unmarked_logger
others_of_unmarked LoggerEvents ne = λ buffer. tt
others_of_unmarked KeptAnalyzers ne = λ a has. absurd (no_analyzer a has)
others_of_unmarked AnalyzerEvents ne = λ a has. absurd (no_analyzer a has)
others_of_unmarked FrontsThere ne = sample_keeps.fronts_registered
others_of_unmarked AnalyzersThere ne = λ a has. absurd (no_analyzer a has)
others_of_unmarked LoggerThere ne = sample_keeps.logger_registered
others_of_unmarked OneDump ne = sample_keeps.one_dump

pub buffers_needed : FailsSession LegalBuffers unmarked_session FrontsStand
buffers_needed = record { others = others_of_unmarked; wrong = λ law. wrong (law sample_run (stopped_in unmarked_session refl) sample_front (0, refl) 1 Quota (1, refl)) }
  where
    wrong : [] ≡ sample_event ∷ [] → ⊥
    wrong e = cc (e)

-- Who sends is no member.

no_front : (f : SessionFront) → HasFront unknown_sender f → ⊥
no_front f (index, e) = cc (e)

others_of_sender : (other : SessionPremise) → other ≢ MemberCalls → MeetsSession other unknown_sender
others_of_sender LegalBuffers ne = sample_keeps.buffers_legal
others_of_sender LegalEngine ne = sample_keeps.engine_legal
others_of_sender OwnNames ne = sample_keeps.own_clients
others_of_sender MemberCalls ne = absurd (ne refl)
others_of_sender KeptFronts ne = λ f has. absurd (no_front f has)
others_of_sender FrontMoments ne = λ f has. absurd (no_front f has)
others_of_sender FrontNumbers ne = λ f has. absurd (no_front f has)
others_of_sender KeptLogger ne = sample_keeps.logger_keeps
others_of_sender LoggerEvents ne = sample_keeps.logger_got
others_of_sender KeptAnalyzers ne = λ a has. absurd (no_analyzer a has)
others_of_sender AnalyzerEvents ne = λ a has. absurd (no_analyzer a has)
others_of_sender FrontsThere ne = λ f has. absurd (no_front f has)
others_of_sender AnalyzersThere ne = λ a has. absurd (no_analyzer a has)
others_of_sender LoggerThere ne = sample_keeps.logger_registered
others_of_sender OneDump ne = sample_keeps.one_dump

pub members_needed : FailsSession MemberCalls unknown_sender OnlyFrontsSent
members_needed = record {
  others = others_of_sender;
  wrong = λ law. let it = law 0 1 0 0 (record { event = sample_event; start = 1 }) refl in no_front it.front it.stands;
}

-- Another event is sent.

-- how many bytes of data the events have
data_in : List Event → ℕ
data_in [] = 0
data_in (e ∷ es) = length e.body

other_event : sample_event ∷ [] ≡ longer_event ∷ [] → ⊥
unfolding data_in
other_event e = let same : data_in (sample_event ∷ []) ≡ data_in (longer_event ∷ []) = ap data_in e in omega (arith, same)

others_of_made : (other : SessionPremise) → other ≢ KeptFronts → MeetsSession other other_made
others_of_made LegalBuffers ne = sample_keeps.buffers_legal
others_of_made LegalEngine ne = sample_keeps.engine_legal
others_of_made OwnNames ne = sample_keeps.own_clients
others_of_made MemberCalls ne = known_callers other_made other_maker (0, refl) refl refl refl
others_of_made KeptFronts ne = absurd (ne refl)
others_of_made FrontMoments ne = λ f has. subst (λ (x : SessionFront). KeepsMoments (buffer_calls other_made x.buffer x.client) (turns_of other_made x.client) x.moments) (one_front other_maker f has) front_moments
others_of_made FrontNumbers ne = λ f has are. subst (λ (x : SessionFront). AreTurnSets x.name (buffer_calls other_made x.buffer x.client) (turns_of other_made x.client) x.moments (database_calls other_made x.client)) (one_front other_maker f has) front_set
others_of_made KeptLogger ne = sample_keeps.logger_keeps
others_of_made LoggerEvents ne = sample_keeps.logger_got
others_of_made KeptAnalyzers ne = λ a has. absurd (no_analyzer a has)
others_of_made AnalyzerEvents ne = λ a has. absurd (no_analyzer a has)
others_of_made FrontsThere ne = λ f has. subst (λ (x : SessionFront). IsRegistered other_made x.client Start × IsRegistered other_made x.client Stop) (one_front other_maker f has) (sample_keeps.fronts_registered sample_front (0, refl))
others_of_made AnalyzersThere ne = λ a has. absurd (no_analyzer a has)
others_of_made LoggerThere ne = sample_keeps.logger_registered
others_of_made OneDump ne = sample_keeps.one_dump

pub fronts_needed : FailsSession KeptFronts other_made FrontsSent
fronts_needed = record {
  others = others_of_made;
  wrong = λ law. other_event (law sample_run (stopped_in other_made refl) other_maker (0, refl) 1 Quota (1, refl)).events;
}

-- A moment before an event that was sent.

early_set : AreTurnSets sample_name front_calls front_turns (0 ∷ 0 ∷ []) (database_calls early_session 1)
early_set = inl (record {
  sets = Set (sent_path sample_name) 0 (UInt64 0) (Ok 8) ∷ Set (sent_path sample_name) 0 (UInt64 0) (Ok 8) ∷ [];
  are_sets = (record { reply = Ok 8; is = refl }, (record { reply = Ok 8; is = refl }, tt));
  alone = refl;
})

others_of_early : (other : SessionPremise) → other ≢ FrontMoments → MeetsSession other early_session
others_of_early LegalBuffers ne = sample_keeps.buffers_legal
others_of_early LegalEngine ne = sample_keeps.engine_legal
others_of_early OwnNames ne = sample_keeps.own_clients
others_of_early MemberCalls ne = known_callers early_session early_front (0, refl) refl refl refl
others_of_early KeptFronts ne = λ f has. subst (λ (x : SessionFront). KeepsFront x.takes x.makes (buffer_calls early_session x.buffer x.client) (turns_of early_session x.client)) (one_front early_front f has) front_keeps
others_of_early FrontMoments ne = absurd (ne refl)
others_of_early FrontNumbers ne = λ f has are. subst (λ (x : SessionFront). AreTurnSets x.name (buffer_calls early_session x.buffer x.client) (turns_of early_session x.client) x.moments (database_calls early_session x.client)) (one_front early_front f has) early_set
others_of_early KeptLogger ne = sample_keeps.logger_keeps
others_of_early LoggerEvents ne = sample_keeps.logger_got
others_of_early KeptAnalyzers ne = λ a has. absurd (no_analyzer a has)
others_of_early AnalyzerEvents ne = λ a has. absurd (no_analyzer a has)
others_of_early FrontsThere ne = λ f has. subst (λ (x : SessionFront). IsRegistered early_session x.client Start × IsRegistered early_session x.client Stop) (one_front early_front f has) (sample_keeps.fronts_registered sample_front (0, refl))
others_of_early AnalyzersThere ne = λ a has. absurd (no_analyzer a has)
others_of_early LoggerThere ne = sample_keeps.logger_registered
others_of_early OneDump ne = sample_keeps.one_dump

only_moment : (t : MemberTurn) (moment : ℕ) → HasMoment front_turns (0 ∷ 0 ∷ []) t moment → 0 ≡ moment
only_moment t moment (inl here) = here.1
only_moment t moment (inr (inl here)) = here.1
only_moment t moment (inr (inr none)) = absurd none

none_by_then : (moment start : ℕ) → 0 ≡ moment → length (own_sent (take moment front_calls) start) ≡ 0
none_by_then moment start is = subst (λ (m : ℕ). length (own_sent (take m front_calls) start) ≡ 0) is refl

pub moments_needed : FailsSession FrontMoments early_session StopsSet
moments_needed = record {
  others = others_of_early;
  wrong = λ law.
      let it = law sample_run (stopped_in early_session refl) early_front (0, refl) 1 Quota (1, refl) in
      omega (arith, it.number, none_by_then it.moment it.turn.order.start (only_moment it.turn it.moment it.has));
}

-- Nothing is set.

others_of_unset : (other : SessionPremise) → other ≢ FrontNumbers → MeetsSession other nothing_set
others_of_unset LegalBuffers ne = sample_keeps.buffers_legal
others_of_unset LegalEngine ne = sample_keeps.engine_legal
others_of_unset OwnNames ne = sample_keeps.own_clients
others_of_unset MemberCalls ne = known_callers nothing_set sample_front (0, refl) refl refl refl
others_of_unset KeptFronts ne = sample_keeps.fronts_keep
others_of_unset FrontMoments ne = sample_keeps.fronts_moments
others_of_unset FrontNumbers ne = absurd (ne refl)
others_of_unset KeptLogger ne = sample_keeps.logger_keeps
others_of_unset LoggerEvents ne = sample_keeps.logger_got
others_of_unset KeptAnalyzers ne = λ a has. absurd (no_analyzer a has)
others_of_unset AnalyzerEvents ne = λ a has. absurd (no_analyzer a has)
others_of_unset FrontsThere ne = sample_keeps.fronts_registered
others_of_unset AnalyzersThere ne = λ a has. absurd (no_analyzer a has)
others_of_unset LoggerThere ne = sample_keeps.logger_registered
others_of_unset OneDump ne = sample_keeps.one_dump

pub sets_needed : FailsSession FrontNumbers nothing_set FrontsSet
sets_needed = record { others = others_of_unset; wrong = λ law. wrong (law sample_front (0, refl)) }
  where
    none_set : (sets : List DatabaseEntry) → AreSets (sent_set sample_name 0 ∷ sent_set sample_name 1 ∷ []) sets → [] ≡ row_calls sets → ⊥
    none_set [] are alone = are
    none_set (entry ∷ entries) are alone = cc (alone)

    wrong : AreTurnSets sample_name front_calls front_turns (1 ∷ 0 ∷ []) [] → ⊥
    wrong (inl told) = none_set told.sets told.are_sets told.alone
    wrong (inr none) = absurd (let e : Some (Yes (Front 1 Quota)) ≡ None = none.0 in cc (e))

-- A call besides.

others_of_watching : (other : SessionPremise) → other ≢ FrontNumbers → MeetsSession other watching_front
others_of_watching LegalBuffers ne = sample_keeps.buffers_legal
others_of_watching LegalEngine ne = sample_keeps.engine_legal
others_of_watching OwnNames ne = sample_keeps.own_clients
others_of_watching MemberCalls ne = known_callers watching_front sample_front (0, refl) refl refl refl
others_of_watching KeptFronts ne = sample_keeps.fronts_keep
others_of_watching FrontMoments ne = sample_keeps.fronts_moments
others_of_watching FrontNumbers ne = absurd (ne refl)
others_of_watching KeptLogger ne = sample_keeps.logger_keeps
others_of_watching LoggerEvents ne = sample_keeps.logger_got
others_of_watching KeptAnalyzers ne = λ a has. absurd (no_analyzer a has)
others_of_watching AnalyzerEvents ne = λ a has. absurd (no_analyzer a has)
others_of_watching FrontsThere ne = sample_keeps.fronts_registered
others_of_watching AnalyzersThere ne = λ a has. absurd (no_analyzer a has)
others_of_watching LoggerThere ne = sample_keeps.logger_registered
others_of_watching OneDump ne = sample_keeps.one_dump

pub alone_needed : FailsSession FrontNumbers watching_front FrontsSet
alone_needed = record { others = others_of_watching; wrong = λ law. wrong (law sample_front (0, refl)) }
  where
    -- a watch is no call on the rows
    no_watch : (sets : List DatabaseEntry) → Watch 1 (Ok 0) ∷ entries_by 2 sample_database ≡ row_calls sets → ⊥
    no_watch [] alone = cc (alone)
    no_watch (entry ∷ entries) alone = cc (alone)

    wrong : AreTurnSets sample_name front_calls front_turns (1 ∷ 0 ∷ []) (Watch 1 (Ok 0) ∷ entries_by 2 sample_database) → ⊥
    wrong (inl told) = no_watch told.sets told.alone
    wrong (inr none) = absurd (let e : Some (Yes (Front 1 Quota)) ≡ None = none.0 in cc (e))

-- There is no file.

others_of_unstored : (other : SessionPremise) → other ≢ KeptLogger → MeetsSession other nothing_stored
others_of_unstored LegalBuffers ne = sample_keeps.buffers_legal
others_of_unstored LegalEngine ne = sample_keeps.engine_legal
others_of_unstored OwnNames ne = sample_keeps.own_clients
others_of_unstored MemberCalls ne = known_callers nothing_stored sample_front (0, refl) refl refl refl
others_of_unstored KeptFronts ne = sample_keeps.fronts_keep
others_of_unstored FrontMoments ne = sample_keeps.fronts_moments
others_of_unstored FrontNumbers ne = sample_keeps.fronts_set
others_of_unstored KeptLogger ne = absurd (ne refl)
others_of_unstored LoggerEvents ne = sample_keeps.logger_got
others_of_unstored KeptAnalyzers ne = λ a has. absurd (no_analyzer a has)
others_of_unstored AnalyzerEvents ne = λ a has. absurd (no_analyzer a has)
others_of_unstored FrontsThere ne = sample_keeps.fronts_registered
others_of_unstored AnalyzersThere ne = λ a has. absurd (no_analyzer a has)
others_of_unstored LoggerThere ne = sample_keeps.logger_registered
others_of_unstored OneDump ne = sample_keeps.one_dump

none_made : {X : Type 0} {x : X} → Contains [] x → ⊥
none_made {X} {x} made = omega (arith, made.1)

-- one file was told, so there is one piece
one_piece : (pieces : List (List Event)) → length pieces ≡ 1 → (piece : List Event) × (pieces ≡ piece ∷ [])
one_piece [] e = absurd (omega (arith, e))
one_piece (piece ∷ []) e = (piece, refl)
one_piece (piece ∷ next ∷ pieces) e = absurd (omega (arith, e))

-- and its file is that of the run
first_held : (s : Session) (r : SessionRun) (channel : LoggerChannel) (held : HoldsRunFiles s r channel 1) → (piece : List Event) × (held.pieces ≡ piece ∷ []) × HoldsPiece s r channel held.last_dump 1 0 piece
first_held s r channel held =
    let one : (piece : List Event) × (held.pieces ≡ piece ∷ []) = one_piece held.pieces held.each in
    (one.0, one.1, held.files 0 one.0 (ap (λ (l : List (List Event)). slice_get l 0) one.1))

none_held : (s : Session) (r : SessionRun) (channel : LoggerChannel) → s.files ≡ no_files → HoldsRunFiles s r channel 1 → ⊥
none_held s r channel none held =
    let file = (first_held s r channel held).2 in
    none_made (subst (λ (seen : Seen). IsStored seen (file_name r channel 0) file.bytes) none file.stored).written

ended_told_in : (s : Session) → s.logger ≡ 0 → ToldChannel s sample_run sample_channel whole_file
ended_told_in s is = record { index = 0; ends = whole_file ∷ []; tells = ap (λ (n : ℕ). Some (record { client = n; tally = Channels (whole_file ∷ []) })) (sym is); at = refl }

pub logger_needed : FailsSession KeptLogger nothing_stored FilesHoldRuns
logger_needed = record {
  others = others_of_unstored;
  wrong = λ law. none_held nothing_stored sample_run sample_channel refl (law sample_run (stopped_in nothing_stored refl) 0 sample_channel refl whole_file (ended_told_in nothing_stored refl) refl);
}

-- Another event was told than the one that was sent.

abbrev other_port : (buffer : ℕ) → LoggerPort
other_port buffer = record { own = buffer_calls other_told buffer 0; got = other_got buffer }

other_written : HasWritten (other_port 0) logger_turns other_files sample_channel logger_stop 1
other_written = record {
  start = logger_start;
  is_start = record { is_start = record { stands = inr (inl refl); is = refl; of = refl }; accepted = refl };
  dump = 8 ∷ [];
  has_dump = refl;
  number = 0;
  begun = 0;
  ended = 1;
  events = longer_event ∷ [];
  reads = run_read_of longer_event;
  fine = All-cons IsFileEvent longer_event [] (record { begins_none = λ e. omega (arith, e); ends_none = λ e. omega (arith, e); small = omega arith }) (All-nil IsFileEvent);
  taken = false;
  beyond = λ (never : false ≡ true). absurd (cc (never));
  stored = one_file other_files (series_from sample_channel logger_start) (stop_bytes logger_start logger_stop (8 ∷ [])) longer_event (omega arith) (record { written = (0, omega arith, refl); holds = λ told. refl });
}

other_logger : KeepsLogger (sample_channel ∷ []) other_port logger_turns other_files
other_logger = record {
  sends_none = logger_is_kept.sends_none;
  own_calls = logger_is_kept.own_calls;
  starts = logger_is_kept.starts;
  stops = logger_is_kept.stops;
  ended = λ are stop index channel told at tells is.
      subst (λ (c : LoggerChannel). HasWritten (other_port c.buffer) logger_turns other_files c stop told.files) (only_channel index channel at)
      (subst (λ (x : ChannelEnd). HasWritten (other_port 0) logger_turns other_files sample_channel stop x.files) (told_of_only index channel stop told at tells)
      (subst (λ (t : MemberTurn). HasWritten (other_port 0) logger_turns other_files sample_channel t 1) (stop_is stop tells.stands tells.is) other_written));
  broken = λ are stop index channel told at tells is. absurd (whole_not_broken told (told_of_only index channel stop told at tells) is);
}

others_of_told : (other : SessionPremise) → other ≢ LoggerEvents → MeetsSession other other_told
others_of_told LegalBuffers ne = sample_keeps.buffers_legal
others_of_told LegalEngine ne = sample_keeps.engine_legal
others_of_told OwnNames ne = sample_keeps.own_clients
others_of_told MemberCalls ne = known_callers other_told sample_front (0, refl) refl refl refl
others_of_told KeptFronts ne = sample_keeps.fronts_keep
others_of_told FrontMoments ne = sample_keeps.fronts_moments
others_of_told FrontNumbers ne = sample_keeps.fronts_set
others_of_told KeptLogger ne = other_logger
others_of_told LoggerEvents ne = absurd (ne refl)
others_of_told KeptAnalyzers ne = λ a has. absurd (no_analyzer a has)
others_of_told AnalyzerEvents ne = λ a has. absurd (no_analyzer a has)
others_of_told FrontsThere ne = sample_keeps.fronts_registered
others_of_told AnalyzersThere ne = λ a has. absurd (no_analyzer a has)
others_of_told LoggerThere ne = sample_keeps.logger_registered
others_of_told OneDump ne = sample_keeps.one_dump

-- the event between the marks
one_event : channel_events other_told sample_run sample_channel ≡ sample_event ∷ []
unfolding matches
one_event = refl

-- how many bytes a file has, if there is one
abbrev size_in : Option Stored → ℕ
size_in None = 0
size_in (Some file) = length file.bytes

other_file : (events : List Event) → events ≡ sample_event ∷ []
    → Some (stored_closed (run_file 1 1000 (7 ∷ []) (longer_event ∷ []) 2000 (8 ∷ []))) ≡ Some (stored_closed (run_file 1 1000 (7 ∷ []) events 2000 (8 ∷ []))) → ⊥
unfolding header_bytes
other_file events is e =
    let sizes : length (run_file 1 1000 (7 ∷ []) (longer_event ∷ []) 2000 (8 ∷ [])) ≡ length (run_file 1 1000 (7 ∷ []) events 2000 (8 ∷ [])) = ap (λ (o : Option Stored). size_in o) e in
    let never : 51 ≡ 50 = sizes ∙ ap (λ (es : List Event). length (run_file 1 1000 (7 ∷ []) es 2000 (8 ∷ []))) is in
    omega (arith, never)

pub events_needed : FailsSession LoggerEvents other_told FilesHoldRuns
events_needed = record {
  others = others_of_told;
  wrong = λ law.
      let held = law sample_run (stopped_in other_told refl) 0 sample_channel refl whole_file (ended_told_in other_told refl) refl in
      let first = first_held other_told sample_run sample_channel held in
      let file = first.2 in
      let piece : first.0 ≡ sample_event ∷ [] = sym (append-nil first.0) ∙ (sym (ap events_of_pieces first.1) ∙ (held.cut.joins ∙ one_event)) in
      other_file first.0 piece (of_last first.0 held.last_dump held.has_dump (file.stored.holds refl ∙ ap (λ (bytes : List ℕ). Some (stored_closed bytes)) file.is.is_file));
}
  where
    of_last : (events : List Event) (dump : List ℕ) → Some (8 ∷ []) ≡ Some dump
        → Some (stored_closed (run_file 1 1000 (7 ∷ []) (longer_event ∷ []) 2000 (8 ∷ []))) ≡ Some (stored_closed (run_file 1 1000 (7 ∷ []) events 2000 dump))
        → Some (stored_closed (run_file 1 1000 (7 ∷ []) (longer_event ∷ []) 2000 (8 ∷ []))) ≡ Some (stored_closed (run_file 1 1000 (7 ∷ []) events 2000 (8 ∷ [])))
    of_last events dump is e =
        let same : 8 ∷ [] ≡ dump = cc (is) in
        subst (λ (d : List ℕ). Some (stored_closed (run_file 1 1000 (7 ∷ []) (longer_event ∷ []) 2000 (8 ∷ []))) ≡ Some (stored_closed (run_file 1 1000 (7 ∷ []) events 2000 d))) (sym same) e

-- what stands in a tally, if there is one
abbrev client_in : Option ClientTally → ℕ
client_in None = 0
client_in (Some t) = t.client

abbrev tally_in : Option ClientTally → Tally
tally_in None = Plain
tally_in (Some t) = t.tally

-- Clients that tell no report, and clients that are not registered.

no_report : (report : Totals) (index : ℕ) → slice_get last_tallies index ≡ Some (record { client = 1; tally = Report report }) → ⊥
no_report report zero e = absurd (let same : 0 ≡ 1 = ap (λ (o : Option ClientTally). client_in o) e in omega (arith, same))
no_report report (suc zero) e = absurd (let same : Front 1 Quota ≡ Report report = ap (λ (o : Option ClientTally). tally_in o) e in cc (same))
no_report report (suc (suc n)) e = cc (e)

no_tally : (tally : Tally) (index : ℕ) → slice_get last_tallies index ≡ Some (record { client = 7; tally = tally }) → ⊥
no_tally tally zero e = absurd (let same : 0 ≡ 7 = ap (λ (o : Option ClientTally). client_in o) e in omega (arith, same))
no_tally tally (suc zero) e = absurd (let same : 1 ≡ 7 = ap (λ (o : Option ClientTally). client_in o) e in omega (arith, same))
no_tally tally (suc (suc n)) e = cc (e)

others_of_taken : (other : SessionPremise) → other ≢ KeptAnalyzers → MeetsSession other front_for_analyzer
others_of_taken LegalBuffers ne = sample_keeps.buffers_legal
others_of_taken LegalEngine ne = sample_keeps.engine_legal
others_of_taken OwnNames ne = sample_keeps.own_clients
others_of_taken MemberCalls ne = known_callers front_for_analyzer sample_front (0, refl) refl refl refl
others_of_taken KeptFronts ne = sample_keeps.fronts_keep
others_of_taken FrontMoments ne = sample_keeps.fronts_moments
others_of_taken FrontNumbers ne = sample_keeps.fronts_set
others_of_taken KeptLogger ne = sample_keeps.logger_keeps
others_of_taken LoggerEvents ne = sample_keeps.logger_got
others_of_taken KeptAnalyzers ne = absurd (ne refl)
others_of_taken AnalyzerEvents ne = λ a has. subst (λ (x : SessionAnalyzer). AllByRecursion (WasSentAt (front_for_analyzer.history x.buffer)) x.got × AreGivenBy (buffer_calls front_for_analyzer x.buffer x.client) x.got) (one_analyzer (sample_analyzer 1) a has) (tt, record { named_so = refl })
others_of_taken FrontsThere ne = sample_keeps.fronts_registered
others_of_taken AnalyzersThere ne = λ a has. subst (λ (x : SessionAnalyzer). IsRegistered front_for_analyzer x.client Start × IsRegistered front_for_analyzer x.client Stop) (one_analyzer (sample_analyzer 1) a has) (sample_keeps.fronts_registered sample_front (0, refl))
others_of_taken LoggerThere ne = sample_keeps.logger_registered
others_of_taken OneDump ne = sample_keeps.one_dump

pub analyzers_needed : FailsSession KeptAnalyzers front_for_analyzer ReportsTold
analyzers_needed = record {
  others = others_of_taken;
  wrong = λ law. let it = law sample_run (stopped_in front_for_analyzer refl) (sample_analyzer 1) (0, refl) in no_report it.0 it.1.0 it.1.1;
}

idle_analyzer : KeepsAnalyzer (sample_analyzer 7).wanted [] [] []
idle_analyzer = record {
  calls = record { only_reads = tt; own_calls = tt };
  once = refl;
  asked = refl;
  reports = λ t report has. absurd has;
  starts = λ start answer has. absurd has;
  stops = λ are start begin stop answer accepted. absurd accepted.is_start.stands;
}

others_of_unknown : (other : SessionPremise) → other ≢ AnalyzersThere → MeetsSession other unknown_analyzer
others_of_unknown LegalBuffers ne = sample_keeps.buffers_legal
others_of_unknown LegalEngine ne = sample_keeps.engine_legal
others_of_unknown OwnNames ne = sample_keeps.own_clients
others_of_unknown MemberCalls ne = known_callers unknown_analyzer sample_front (0, refl) refl refl refl
others_of_unknown KeptFronts ne = sample_keeps.fronts_keep
others_of_unknown FrontMoments ne = sample_keeps.fronts_moments
others_of_unknown FrontNumbers ne = sample_keeps.fronts_set
others_of_unknown KeptLogger ne = sample_keeps.logger_keeps
others_of_unknown LoggerEvents ne = sample_keeps.logger_got
others_of_unknown KeptAnalyzers ne = λ a has. subst (λ (x : SessionAnalyzer). KeepsAnalyzer x.wanted (buffer_calls unknown_analyzer x.buffer x.client) x.got (turns_of unknown_analyzer x.client)) (one_analyzer (sample_analyzer 7) a has) idle_analyzer
others_of_unknown AnalyzerEvents ne = λ a has. subst (λ (x : SessionAnalyzer). AllByRecursion (WasSentAt (unknown_analyzer.history x.buffer)) x.got × AreGivenBy (buffer_calls unknown_analyzer x.buffer x.client) x.got) (one_analyzer (sample_analyzer 7) a has) (tt, record { named_so = refl })
others_of_unknown FrontsThere ne = sample_keeps.fronts_registered
others_of_unknown AnalyzersThere ne = absurd (ne refl)
others_of_unknown LoggerThere ne = sample_keeps.logger_registered
others_of_unknown OneDump ne = sample_keeps.one_dump

pub analyzers_there : FailsSession AnalyzersThere unknown_analyzer ReportsTold
analyzers_there = record {
  others = others_of_unknown;
  wrong = λ law. let it = law sample_run (stopped_in unknown_analyzer refl) (sample_analyzer 7) (0, refl) in no_tally (Report it.0) it.1.0 it.1.1;
}

-- of two front-ends
each_front : (P : SessionFront → Type 0) → P sample_front → P absent_front → (f : SessionFront) → HasFront unknown_front f → P f
each_front P first second f (zero, e) = let same : sample_front ≡ f = cc (e) in subst P same first
each_front P first second f (suc zero, e) = let same : absent_front ≡ f = cc (e) in subst P same second
each_front P first second f (suc (suc n), e) = absurd (cc (e))

idle_front : KeepsFront absent_front.takes absent_front.makes [] []
idle_front = record {
  only_sends = tt;
  starts = λ t answer has. absurd has;
  sends = λ are. tt;
  made = λ are start. inl refl;
  stops = λ are start begin stop answer accepted. absurd accepted.is_start.stands;
  tallies = λ are t sent ended has. absurd has;
}

others_of_absent : (other : SessionPremise) → other ≢ FrontsThere → MeetsSession other unknown_front
others_of_absent LegalBuffers ne = sample_keeps.buffers_legal
others_of_absent LegalEngine ne = sample_keeps.engine_legal
others_of_absent OwnNames ne = sample_keeps.own_clients
others_of_absent MemberCalls ne = known_callers unknown_front sample_front (0, refl) refl refl refl
others_of_absent KeptFronts ne = each_front (λ (x : SessionFront). KeepsFront x.takes x.makes (buffer_calls unknown_front x.buffer x.client) (turns_of unknown_front x.client)) front_keeps idle_front
others_of_absent FrontMoments ne = each_front (λ (x : SessionFront). KeepsMoments (buffer_calls unknown_front x.buffer x.client) (turns_of unknown_front x.client) x.moments) front_moments (record { are = tt; ends = λ are t moment has. absurd has; holds = λ t moment until span. absurd span })
others_of_absent FrontNumbers ne = λ f has are. each_front (λ (x : SessionFront). AreTurnSets x.name (buffer_calls unknown_front x.buffer x.client) (turns_of unknown_front x.client) x.moments (database_calls unknown_front x.client)) front_set refl f has
others_of_absent KeptLogger ne = sample_keeps.logger_keeps
others_of_absent LoggerEvents ne = sample_keeps.logger_got
others_of_absent KeptAnalyzers ne = λ a has. absurd (no_analyzer a has)
others_of_absent AnalyzerEvents ne = λ a has. absurd (no_analyzer a has)
others_of_absent FrontsThere ne = absurd (ne refl)
others_of_absent AnalyzersThere ne = λ a has. absurd (no_analyzer a has)
others_of_absent LoggerThere ne = sample_keeps.logger_registered
others_of_absent OneDump ne = sample_keeps.one_dump

pub fronts_there : FailsSession FrontsThere unknown_front FrontsTell
fronts_there = record {
  others = others_of_absent;
  wrong = λ law. let it = law sample_run (stopped_in unknown_front refl) absent_front (1, refl) in no_tally (Front it.0 it.1) it.2.0 it.2.1;
}

-- Sessions of a logger alone.

no_item : {X : Type 0} {x : X} (index : ℕ) → slice_get [] index ≡ Some x → ⊥
no_item {X} {x} index e = cc (e)

quiet_logger : KeepsLogger (sample_channel ∷ []) (λ buffer. record { own = []; got = [] }) [] no_files
quiet_logger = record {
  sends_none = λ buffer. tt;
  own_calls = λ buffer. tt;
  starts = λ start answer has. absurd has;
  stops = λ are begin stop accepted. absurd accepted.is_start.stands;
  ended = λ are stop index channel told at tells is. absurd tells.stands;
  broken = λ are stop index channel told at tells is. absurd tells.stands;
}

-- the logger is registered before the first begin
logger_there : (t : Transition) (sequence : ℕ) (dump : Bool) (tail earlier later : EngineHistory) (caller : ℕ) (begun : Transition) (sheet : Sheet) (start : ℕ) → sequence_for (at_all 1) t ≡ Some sequence
    → (0, Register [] (at_all 1) dump false (Ok 0)) ∷ tail ≡ earlier ++ (caller, Begin begun sheet (Ok start)) ∷ later → IsRegisteredIn earlier 0 t
logger_there t sequence dump tail [] later caller begun sheet start called e =
    absurd (let pair : (0, Register [] (at_all 1) dump false (Ok 0)) ≡ (caller, Begin begun sheet (Ok start)) = cc (e) in
    let x : Register [] (at_all 1) dump false (Ok 0) ≡ Begin begun sheet (Ok start) = ap (λ (y : ℕ × EngineEntry). y.1) pair in
    cc (x))
logger_there t sequence dump tail (x ∷ xs) later caller begun sheet start called e =
    let first : (0, Register [] (at_all 1) dump false (Ok 0)) ≡ x = cc (e) in
    record {
      before = [];
      after = xs;
      caller = 0;
      name = [];
      sequences = at_all 1;
      wants_dump = dump;
      wants_report = false;
      stands = ap (λ (y : ℕ × EngineEntry). y ∷ xs) (sym first);
      sequence = sequence;
      called = called;
    }

empty_legal : IsLegalEngine engine_opening empty_engine
unfolding called_list
empty_legal = ((refl, first_fair), refl, (refl, (refl, refl), ((refl, last_fair), refl, (refl, (refl, refl), tt))))

others_of_logger : (other : SessionPremise) → other ≢ LoggerThere → MeetsSession other unknown_logger
others_of_logger LegalBuffers ne = λ buffer. tt
others_of_logger LegalEngine ne = empty_legal
others_of_logger OwnNames ne = (tt, (tt, (tt, (tt, tt))))
others_of_logger MemberCalls ne = λ buffer caller. inl refl
others_of_logger KeptFronts ne = λ f has. absurd (no_item has.0 has.1)
others_of_logger FrontMoments ne = λ f has. absurd (no_item has.0 has.1)
others_of_logger FrontNumbers ne = λ f has. absurd (no_item has.0 has.1)
others_of_logger KeptLogger ne = quiet_logger
others_of_logger LoggerEvents ne = λ buffer. tt
others_of_logger KeptAnalyzers ne = λ f has. absurd (no_item has.0 has.1)
others_of_logger AnalyzerEvents ne = λ f has. absurd (no_item has.0 has.1)
others_of_logger FrontsThere ne = λ f has. absurd (no_item has.0 has.1)
others_of_logger AnalyzersThere ne = λ f has. absurd (no_item has.0 has.1)
others_of_logger LoggerThere ne = absurd (ne refl)
others_of_logger OneDump ne = (tt, (tt, (tt, (tt, tt))))

empty_stopped : IsStoppedRun unknown_logger empty_run
empty_stopped = record {
  started = record { earlier = []; between = []; later = drop 2 empty_engine; opener = 0; closer = 0; whole = refl; on = tt };
  stopped = record { earlier = take 2 empty_engine; between = []; later = []; opener = 0; closer = 0; whole = refl; on = tt };
}

pub logger_there_needed : FailsSession LoggerThere unknown_logger ChannelsTold
logger_there_needed = record { others = others_of_logger; wrong = λ law. let it = law empty_run empty_stopped 0 sample_channel refl in no_item it.1.index it.1.tells }

others_of_made_up : (other : SessionPremise) → other ≢ LegalEngine → MeetsSession other made_up
others_of_made_up LegalBuffers ne = λ buffer. tt
others_of_made_up LegalEngine ne = absurd (ne refl)
others_of_made_up OwnNames ne = (tt, (tt, (tt, (tt, (tt, tt)))))
others_of_made_up MemberCalls ne = λ buffer caller. inl refl
others_of_made_up KeptFronts ne = λ f has. absurd (no_item has.0 has.1)
others_of_made_up FrontMoments ne = λ f has. absurd (no_item has.0 has.1)
others_of_made_up FrontNumbers ne = λ f has. absurd (no_item has.0 has.1)
others_of_made_up KeptLogger ne = quiet_logger
others_of_made_up LoggerEvents ne = λ buffer. tt
others_of_made_up KeptAnalyzers ne = λ f has. absurd (no_item has.0 has.1)
others_of_made_up AnalyzerEvents ne = λ f has. absurd (no_item has.0 has.1)
others_of_made_up FrontsThere ne = λ f has. absurd (no_item has.0 has.1)
others_of_made_up AnalyzersThere ne = λ f has. absurd (no_item has.0 has.1)
others_of_made_up LoggerThere ne = (
  (λ earlier later caller begun sheet start e. logger_there Start 1 true (drop 1 made_up_engine) earlier later caller begun sheet start refl e),
  (λ earlier later caller begun sheet start e. logger_there Stop 1 true (drop 1 made_up_engine) earlier later caller begun sheet start refl e),
)
others_of_made_up OneDump ne = (((λ e. refl), (λ e. refl)), (tt, (tt, (tt, (tt, tt)))))

made_up_stopped : IsStoppedRun made_up ended_run
made_up_stopped = record {
  started = record { earlier = take 1 made_up_engine; between = []; later = drop 3 made_up_engine; opener = 0; closer = 0; whole = refl; on = tt };
  stopped = record { earlier = take 3 made_up_engine; between = []; later = []; opener = 0; closer = 0; whole = refl; on = tt };
}

pub engine_needed : FailsSession LegalEngine made_up FilesHoldRuns
engine_needed = record {
  others = others_of_made_up;
  wrong = λ law. none_held made_up ended_run sample_channel refl (law ended_run made_up_stopped 0 sample_channel refl whole_file (record { index = 0; ends = whole_file ∷ []; tells = refl; at = refl }) refl);
}

spoken_for_legal : IsLegalEngine engine_opening spoken_for_engine
unfolding called_list
spoken_for_legal =
    (refl, refl, ((refl, first_fair), refl, (tt, refl, (tt, refl, (refl, (refl, refl), ((refl, last_fair), refl, (tt, refl, (tt, refl, (refl, (refl, refl), tt)))))))))

others_of_spoken_for : (other : SessionPremise) → other ≢ OwnNames → MeetsSession other spoken_for
others_of_spoken_for LegalBuffers ne = λ buffer. tt
others_of_spoken_for LegalEngine ne = spoken_for_legal
others_of_spoken_for OwnNames ne = absurd (ne refl)
others_of_spoken_for MemberCalls ne = λ buffer caller. inl refl
others_of_spoken_for KeptFronts ne = λ f has. absurd (no_item has.0 has.1)
others_of_spoken_for FrontMoments ne = λ f has. absurd (no_item has.0 has.1)
others_of_spoken_for FrontNumbers ne = λ f has. absurd (no_item has.0 has.1)
others_of_spoken_for KeptLogger ne = quiet_logger
others_of_spoken_for LoggerEvents ne = λ buffer. tt
others_of_spoken_for KeptAnalyzers ne = λ f has. absurd (no_item has.0 has.1)
others_of_spoken_for AnalyzerEvents ne = λ f has. absurd (no_item has.0 has.1)
others_of_spoken_for FrontsThere ne = λ f has. absurd (no_item has.0 has.1)
others_of_spoken_for AnalyzersThere ne = λ f has. absurd (no_item has.0 has.1)
others_of_spoken_for LoggerThere ne = (
  (λ earlier later caller begun sheet start e. logger_there Start 1 true (drop 1 spoken_for_engine) earlier later caller begun sheet start refl e),
  (λ earlier later caller begun sheet start e. logger_there Stop 1 true (drop 1 spoken_for_engine) earlier later caller begun sheet start refl e),
)
others_of_spoken_for OneDump ne = (((λ e. refl), (λ e. refl)), (tt, (tt, (tt, (tt, (tt, (tt, (tt, (tt, tt)))))))))

spoken_for_stopped : IsStoppedRun spoken_for ended_run
spoken_for_stopped = record {
  started = record { earlier = take 1 spoken_for_engine; between = take 2 (drop 2 spoken_for_engine); later = drop 5 spoken_for_engine; opener = 0; closer = 0; whole = refl; on = (refl, (refl, tt)) };
  stopped = record { earlier = take 5 spoken_for_engine; between = take 2 (drop 6 spoken_for_engine); later = []; opener = 0; closer = 0; whole = refl; on = (refl, (refl, tt)) };
}

pub names_needed : FailsSession OwnNames spoken_for FilesHoldRuns
names_needed = record {
  others = others_of_spoken_for;
  wrong = λ law. none_held spoken_for ended_run sample_channel refl (law ended_run spoken_for_stopped 0 sample_channel refl whole_file (record { index = 0; ends = whole_file ∷ []; tells = refl; at = refl }) refl);
}

-- The logger does not want the dump.

no_dump_legal : IsLegalEngine engine_opening no_dump_engine
unfolding called_list
no_dump_legal =
    (refl, refl, ((refl, first_fair), refl, (tt, refl, (tt, refl, (refl, (refl, refl), ((refl, last_fair), refl, (tt, refl, (tt, refl, (refl, (refl, refl), tt)))))))))

marked_legal : (buffer : ℕ) → IsLegal (opening 48) (marked_history buffer)
marked_legal zero = (refl, (refl, tt))
marked_legal (suc n) = tt

marked_callers : (buffer caller : ℕ) → (entries_by caller (marked_history buffer) ≡ []) ⊎ IsMemberCaller no_dump buffer caller
marked_callers (suc n) caller = inl refl
marked_callers zero caller =
    split (1 == caller) (λ b. (1 == caller) ≡ b → (entries_by caller (marked_history 0) ≡ []) ⊎ IsMemberCaller no_dump 0 caller)
    (λ h e. inr (inl (sym (eqb-true 1 caller e))))
    (λ h e. inl (rw (ne_eqb 1 caller (eqb-false 1 caller e)) refl))
    refl

abbrev no_dump_start : MemberTurn
no_dump_start = record { transition = Start; order = order_for first_sheet 1 Stopped; dump = None; answer = Some (Yes Plain) }

abbrev no_dump_stop : MemberTurn
no_dump_stop = record { transition = Stop; order = order_for last_sheet 1 Running; dump = None; answer = Some (Yes (Channels (no_end_file ∷ []))) }

abbrev no_dump_turns : List MemberTurn
no_dump_turns = no_dump_stop ∷ no_dump_start ∷ []

abbrev no_dump_port : (buffer : ℕ) → LoggerPort
no_dump_port buffer = record { own = buffer_calls no_dump buffer 0; got = [] }

the_stop : (t : MemberTurn) → HasTurn no_dump_turns t → t.transition ≡ Stop → no_dump_stop ≡ t
the_stop t (inl same) is = same
the_stop t (inr (inl same)) is = absurd (let e : Start ≡ Stop = ap (λ (v : MemberTurn). v.transition) same ∙ is in cc (e))
the_stop t (inr (inr none)) is = absurd none

tells_no_end : (stop : MemberTurn) (told : ChannelEnd) → TellsChannel no_dump_turns stop sample_channel told → NoEnd ≡ told.state
tells_no_end stop told tells =
    let answer : Some (Yes (Channels (no_end_file ∷ []))) ≡ Some (Yes (Channels tells.ends)) = ap (λ (v : MemberTurn). v.answer) (the_stop stop tells.stands tells.is) ∙ tells.answered in
    let ends : no_end_file ∷ [] ≡ tells.ends = cc (answer) in
    let both : Some no_end_file ≡ Some told = ap (λ (xs : List ChannelEnd). slice_get xs 0) ends ∙ tells.at in
    let same : no_end_file ≡ told = cc (both) in
    ap (λ (x : ChannelEnd). x.state) same

no_end_of : (index : ℕ) (channel : LoggerChannel) (stop : MemberTurn) (told : ChannelEnd) → slice_get (sample_channel ∷ []) index ≡ Some channel → TellsChannel no_dump_turns stop channel told → NoEnd ≡ told.state
no_end_of index channel stop told at tells = tells_no_end stop told (subst (λ (c : LoggerChannel). TellsChannel no_dump_turns stop c told) (sym (only_channel index channel at)) tells)

abbrev TellsOf : LoggerChannel → MemberTurn → Type 0
TellsOf channel stop = (told : ChannelEnd) × TellsChannel no_dump_turns stop channel told × IsEndSo (no_dump_port channel.buffer).own stop.order.start stop.dump told

no_end_told : TellsOf sample_channel no_dump_stop
no_end_told = (
  no_end_file,
  record { stands = inl refl; is = refl; ends = no_end_file ∷ []; answered = refl; at = refl },
  record { state = (refl, (0, record { before = BufferBegin 1 (Ok 0) ∷ []; after = []; is = refl })); framed = refl; few = omega arith },
)

no_dump_kept : KeepsLogger (sample_channel ∷ []) no_dump_port no_dump_turns no_files
no_dump_kept = record {
  sends_none = silent;
  own_calls = own;
  starts = starts;
  stops = λ are begin stop accepted stands is answered index channel at.
      subst (λ (c : LoggerChannel). TellsOf c stop) (only_channel index channel at) (subst (λ (t : MemberTurn). TellsOf sample_channel t) (the_stop stop stands is) no_end_told);
  ended = λ are stop index channel told at tells is. absurd (let e : NoEnd ≡ Ended = no_end_of index channel stop told at tells ∙ is in cc (e));
  broken = λ are stop index channel told at tells is. absurd (let e : NoEnd ≡ Broken = no_end_of index channel stop told at tells ∙ is in cc (e));
}
  where
    silent : (buffer : ℕ) → EachCall SendsNone (no_dump_port buffer).own
    silent zero = (tt, (tt, tt))
    silent (suc n) = tt

    own : (buffer : ℕ) → AreOwnCalls (calls_after [] (no_dump_port buffer).own)
    own zero = (tt, (tt, tt))
    own (suc n) = tt

    starts : (t : MemberTurn) (answer : ClientAnswer) → HasTurn no_dump_turns t → t.transition ≡ Start → t.answer ≡ Some answer → IsStartAnswer answer
    starts t answer (inl same) is told = absurd (let e : Stop ≡ Start = ap (λ (v : MemberTurn). v.transition) same ∙ is in cc (e))
    starts t answer (inr (inl same)) is told =
        let e : Some (Yes Plain) ≡ Some answer = ap (λ (v : MemberTurn). v.answer) same ∙ told in
        let f : Yes Plain ≡ answer = cc (e) in
        subst IsStartAnswer f refl
    starts t answer (inr (inr none)) is told = absurd none

others_of_no_dump : (other : SessionPremise) → other ≢ OneDump → MeetsSession other no_dump
others_of_no_dump LegalBuffers ne = marked_legal
others_of_no_dump LegalEngine ne = no_dump_legal
others_of_no_dump OwnNames ne = (tt, (tt, (refl, (refl, (tt, (tt, (refl, (refl, (tt, tt)))))))))
others_of_no_dump MemberCalls ne = marked_callers
others_of_no_dump KeptFronts ne = λ f has. absurd (no_item has.0 has.1)
others_of_no_dump FrontMoments ne = λ f has. absurd (no_item has.0 has.1)
others_of_no_dump FrontNumbers ne = λ f has. absurd (no_item has.0 has.1)
others_of_no_dump KeptLogger ne = no_dump_kept
others_of_no_dump LoggerEvents ne = λ buffer. tt
others_of_no_dump KeptAnalyzers ne = λ f has. absurd (no_item has.0 has.1)
others_of_no_dump AnalyzerEvents ne = λ f has. absurd (no_item has.0 has.1)
others_of_no_dump FrontsThere ne = λ f has. absurd (no_item has.0 has.1)
others_of_no_dump AnalyzersThere ne = λ f has. absurd (no_item has.0 has.1)
others_of_no_dump LoggerThere ne = (
  (λ earlier later caller begun sheet start e. logger_there Start 1 false (drop 1 no_dump_engine) earlier later caller begun sheet start refl e),
  (λ earlier later caller begun sheet start e. logger_there Stop 1 false (drop 1 no_dump_engine) earlier later caller begun sheet start refl e),
)
others_of_no_dump OneDump ne = absurd (ne refl)

no_dump_stopped : IsStoppedRun no_dump no_end_run
no_dump_stopped = record {
  started = record { earlier = take 1 no_dump_engine; between = take 2 (drop 2 no_dump_engine); later = drop 5 no_dump_engine; opener = 0; closer = 0; whole = refl; on = (refl, (refl, tt)) };
  stopped = record { earlier = take 5 no_dump_engine; between = take 2 (drop 6 no_dump_engine); later = []; opener = 0; closer = 0; whole = refl; on = (refl, (refl, tt)) };
}

no_end_state : (index : ℕ) (ends : List ChannelEnd) (told : ChannelEnd) → slice_get no_end_run.last_tallies index ≡ Some (record { client = 0; tally = Channels ends }) → slice_get ends 0 ≡ Some told → NoEnd ≡ told.state
no_end_state zero ends told tells at =
    let tally : Channels (no_end_file ∷ []) ≡ Channels ends = ap (λ (o : Option ClientTally). tally_in o) tells in
    let same : no_end_file ∷ [] ≡ ends = cc (tally) in
    let both : Some no_end_file ≡ Some told = ap (λ (xs : List ChannelEnd). slice_get xs 0) same ∙ at in
    let is : no_end_file ≡ told = cc (both) in
    ap (λ (x : ChannelEnd). x.state) is
no_end_state (suc n) ends told tells at = absurd (cc (tells))

pub dump_needed : FailsSession OneDump no_dump ChannelsTold
dump_needed = record {
  others = others_of_no_dump;
  wrong = λ law.
      let it = law no_end_run no_dump_stopped 0 sample_channel refl in
      let so : IsStateSo (buffer_calls no_dump 0 0) 1 (Some (8 ∷ [])) NoEnd =
      subst (λ (state : ChannelState). IsStateSo (buffer_calls no_dump 0 0) 1 (Some (8 ∷ [])) state) (sym (no_end_state it.1.index it.1.ends it.0 it.1.tells it.1.at)) it.2.state in
      let never : Some (8 ∷ []) ≡ None = so.0 in
      cc (never);
}
