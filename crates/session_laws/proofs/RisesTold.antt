-- A count that rose is told by a record: where all that the logger told of a start is in the record of it.
use Rattle.std.specs.Prelude.{◌≡◌, ◌≢◌, ◌≤◌, ℕ, zero, suc, cond, is_some, sum_by, List, [], ◌∷◌, ◌++◌, length, slice_get, Contains, Option, Some, None, Ok, ◌⊎◌, refl}
use Rattle.std.specs.Option.{option_map, option_to_list}
use Rattle.std.proofs.Common.{ap, sym, subst, ◌∙◌, arith, inl, inr}
use Rattle.std.proofs.lemmas.List.Sums.{sum_by-cons}
use Rattle.daq_types.specs.Callers.{main_caller}
use Rattle.daq_types.specs.declared.runs.ChannelEnd.{ChannelEnd}
use Rattle.daq_types.specs.declared.runs.ChannelState.{ChannelState}
use Rattle.daq_types.specs.declared.runs.ChannelState.TheVariants.{Broken as IsBroken}
use Rattle.daq_types.specs.declared.runs.Order.{Order}
use Rattle.daq_types.specs.declared.runs.StartOutcome.{StartOutcome}
use Rattle.daq_types.specs.declared.runs.StartOutcome.TheVariants.{Completed, Refused}
use Rattle.daq_types.specs.declared.runs.Transition.{Transition}
use Rattle.daq_types.specs.declared.runs.Transition.TheVariants.{Start, Stop, Pause, Resume, StartAbort}
use Rattle.daq_types.specs.declared.runs.Why.{Why}
use Rattle.daq_types.specs.declared.runs.Why.TheVariants.{NotReady, Exists, Fault, BufferRefused}
use Rattle.daq_io.specs.Told.{FilesTold}
use Rattle.buffer_core.specs.Ports.{Access}
use Rattle.buffer_core.specs.Slots.{slot_at, passes}
use Rattle.transitions.specs.declared.answers.Answer.TheVariants.{Yes, No}
use Rattle.transitions.specs.declared.answers.Tally.TheVariants.{Plain, Front, Channels, Report}
use Rattle.transitions.specs.declared.replies.Progress.TheVariants.{Done}
use Rattle.transitions.specs.declared.entry.EngineEntry.TheVariants.{Begin, Check}
use Rattle.member_model.specs.RunEngines.{Sheet, Answer, ClientTally, EngineEntry}
use Rattle.member_model.specs.Turns.{MemberTurn, HasTurn, AreEngineTurns}
use Rattle.member_model.specs.TurnCalls.{member_turns}
use Rattle.mid_logger.specs.declared.channel.Channel.{Channel}
use Rattle.mid_logger.specs.declared.channel_spec.ChannelSpec.{ChannelSpec}
use Rattle.sub_files.specs.Patterns.{piece_name_by}
use Rattle.sub_files.specs.declared.open_file.Fallen.{Fallen}
use Rattle.mid_logger.specs.declared.stage.BegunRun.{BegunRun}
use Rattle.mid_logger.specs.declared.stage.ChannelStage.{ChannelStage}
use Rattle.mid_logger.specs.declared.stage.ChannelStage.TheVariants.{Broken}
use Rattle.mid_logger.specs.Channels.{channel_run}
use Rattle.mid_logger.specs.ChannelTurns.{broken_run}
use Rattle.loggers.specs.LoggerStands.{LoggerStands, ToldSo}
use Rattle.loggers.specs.LeftNames.{IsStartedRun, IsBrokenName, IsUndoneFile, KeepsNames}
use Rattle.loggers.specs.OtherFiles.{specs_in}
use Rattle.loggers.specs.Reasons.{AnswerFits, ClashesAreTold, HaveNoLimit}
use Rattle.loggers.specs.ToldCounts.{faults_of_state, faults_of_answer, clashes_of_answer, undone_of_answer, undone_by, count_in_answer, faults_told, starts_undone, broken_off}
use Rattle.loggers.proofs.ManyRose.{member_counts, off_of}
use Rattle.history_laws.specs.BegunTurns.{HasTransition, IsCalledOff, WasBegun}
use Rattle.history_laws.specs.EngineLaws.{LoneNosAreRefusals}
use Rattle.session_runs.specs.declared.records.ChannelFiles.{ChannelFiles}
use Rattle.session_runs.specs.declared.records.RunRecord.{RunRecord}
use Rattle.session_runs.specs.MadeTransitions.{TransitionIn}
use Rattle.session_runs.specs.KeptRuns.{run_channel}
use Rattle.session_runs.specs.RunEntries.{start_sheet}
use Rattle.session_runs.specs.RunsFit.{MainOwn, FitsRun, FitsWhole, RecordsFit, run_of, starts_begun}
use Rattle.session_runs.specs.ToldTallies.{channel_told, ended_files, files_told, files_of, ends_told}
use Rattle.composition.specs.Sessions.{Session}
use Rattle.composition.specs.SessionRuns.{SessionRun, IsStoppedRun}
use Rattle.composition.proofs.SessionTurns.{IsStartTurn, one_begin, one_start, speaks, start_turn}
use Rattle.session_laws.specs.ClosedSessions.{ClosedSession, logger_client, logger_caller, engine_calls, session_of}
use Rattle.session_laws.specs.MembersAtEnd.{MembersAtEnd}
use Rattle.session_laws.specs.CountedFaults.{LoggerReasons, LoggerNames}
use Rattle.session_laws.specs.MadeRuns.{RunIn}
use Rattle.session_laws.specs.RecordedRuns.{run_channels, clients_in}
use Rattle.session_laws.specs.OneAnswer.{faults_recorded, clashes_recorded, clashes_of_outcome, NoneRefused, HasBrokenFile, HasRefusedFile, RisesToldEach}
use Rattle.session_laws.specs.OtherNames.{RefusesStart}
use Rattle.session_laws.proofs.KeptTogether.{names_own, one_number}
use Rattle.session_laws.proofs.LoggerEnd.{given_once}
use Rattle.session_laws.proofs.NamesStay.{StartBegun, start_begun, abort_begun, HasSpec, has_spec}
use Rattle.session_laws.proofs.OneEach.{faults_of_end, end_counts, faults_of_files, files_first}
use Rattle.session_laws.proofs.RecordedStarts.{RecordOf, record_of, refused_in, run_in, run_recorded, was_refused, whole}
use Rattle.session_laws.proofs.RecordsMade.{ToldEnds, ends_so, ends_there}
use Rattle.session_laws.proofs.RunsMade.{has_made, made_are_stopped}
use Rattle.session_laws.proofs.RunTurns.{TurnLaws, Turned, TurnsOf, there_within, one_end, are_turns, turns_of_run, told_is, told_there, never_open}
use Rattle.session_laws.proofs.UndoneNames.{called_off, never_undone, started_in}

-- the laws of engines and of loggers
pub record RiseLaws : Type 0 where
  pub turns : TurnLaws
  pub nos : LoneNosAreRefusals
  pub names : ClashesAreTold

-- Lists.

-- a list counts for nothing of which no member does
turns_none : (f : MemberTurn → ℕ) (ts : List MemberTurn) → ((t : MemberTurn) → HasTurn ts t → f t ≡ 0) → sum_by f ts ≡ 0
turns_none f [] none = refl
turns_none f (t ∷ ts) none = omega (arith, none t (inl refl), turns_none f ts (λ u has. none u (inr has)), sum_by-cons f t ts)

ends_none : (told : List ChannelEnd) → ((k : ℕ) (e : ChannelEnd) → slice_get told k ≡ Some e → e.state ≡ IsBroken → ⊥) → sum_by faults_of_end told ≡ 0
ends_none [] none = refl
ends_none (e ∷ es) none = omega (arith, state_none e.state (λ is. none 0 e refl is), ends_none es (λ k x at. none (suc k) x at), sum_by-cons faults_of_end e es)
  where
    state_none : (state : ChannelState) → (state ≡ IsBroken → ⊥) → faults_of_state state ≡ 0
    state_none IsBroken never = absurd (never refl)
    state_none state never = refl

abbrev slot_off : Option Channel → ℕ
slot_off slot = cond (passes (λ (x : Channel). is_some (broken_run x.stage)) slot) 1 0

slots_none : (slots : List (Option Channel)) → ((n : ℕ) (ch : Channel) (run : BegunRun) (fallen : Fallen) → slot_at slots n ≡ Some ch → ch.stage ≡ Broken run fallen → ⊥) → broken_off slots ≡ 0
slots_none [] none = refl
slots_none (None ∷ os) none = slots_none os (λ n ch run fallen there is. none (suc n) ch run fallen there is)
slots_none (Some ch ∷ os) none = omega (arith, stage_none ch.stage (λ run fallen is. none 0 ch run fallen refl is), slots_none os (λ n x run fallen there is. none (suc n) x run fallen there is), sum_by-cons slot_off (Some ch) os)
  where
    stage_none : (stage : ChannelStage) → ((run : BegunRun) (fallen : Fallen) → stage ≡ Broken run fallen → ⊥) → off_of stage ≡ 0
    stage_none (Broken run fallen) never = absurd (never run fallen refl)
    stage_none stage never = refl

-- Records.

-- the files of a channel that broke off are among those of the record
files_count : (told : List ChannelEnd) (slots : List (Option Channel)) (n : ℕ) (ch : Channel) (e : ChannelEnd) → slot_at slots n ≡ Some ch → slice_get told ch.spec.number ≡ Some e → e.state ≡ IsBroken → 1 ≤ sum_by faults_of_files (files_told told (run_channels slots))
files_count told [] n ch e there at broken = absurd (cc (there))
files_count told (None ∷ os) zero ch e there at broken = absurd (cc (there))
files_count told (None ∷ os) (suc n) ch e there at broken = files_count told os n ch e there at broken
files_count told (Some x ∷ os) zero ch e there at broken =
    let same : x ≡ ch = cc (there) in
    let here : slice_get told x.spec.number ≡ Some e = subst (λ (c : Channel). slice_get told c.spec.number ≡ Some e) (sym same) at in
    let counts : end_counts (slice_get told x.spec.number) ≡ 1 = ap end_counts here ∙ ap faults_of_state broken in
    omega (arith, counts, files_first (run_channel x.spec) (files_told told (run_channels os)) (slice_get told x.spec.number))
files_count told (Some x ∷ os) (suc n) ch e there at broken =
    omega (arith, files_count told os n ch e there at broken, files_first (run_channel x.spec) (files_told told (run_channels os)) (slice_get told x.spec.number))

-- the files of a channel of which it was told are among those of the record

behind_some : (o : Option ChannelFiles) (xs : List ChannelFiles) (place : ℕ) (x : ChannelFiles) → slice_get xs place ≡ Some x → (k : ℕ) × (slice_get (option_to_list o ++ xs) k ≡ Some x)
behind_some None xs place x at = (place, at)
behind_some (Some y) xs place x at = (suc place, at)

files_there : (told : List ChannelEnd) (slots : List (Option Channel)) (n : ℕ) (ch : Channel) (e : ChannelEnd) → slot_at slots n ≡ Some ch → slice_get told ch.spec.number ≡ Some e
    → (place : ℕ) × (slice_get (files_told told (run_channels slots)) place ≡ Some (ended_files (run_channel ch.spec) e))
files_there told [] n ch e there at = absurd (cc (there))
files_there told (None ∷ os) zero ch e there at = absurd (cc (there))
files_there told (None ∷ os) (suc n) ch e there at = files_there told os n ch e there at
files_there told (Some x ∷ os) zero ch e there at =
    let same : x ≡ ch = cc (there) in
    let here : slice_get told x.spec.number ≡ Some e = subst (λ (c : Channel). slice_get told c.spec.number ≡ Some e) (sym same) at in
    let mine : channel_told told (run_channel x.spec) ≡ Some (ended_files (run_channel ch.spec) e) =
    ap (λ (o : Option ChannelEnd). option_map (ended_files (run_channel x.spec)) o) here ∙ ap (λ (c : Channel). Some (ended_files (run_channel c.spec) e)) same in
    (0, subst (λ (o : Option ChannelFiles). slice_get (option_to_list o ++ files_told told (run_channels os)) 0 ≡ Some (ended_files (run_channel ch.spec) e)) (sym mine) refl)
files_there told (Some x ∷ os) (suc n) ch e there at =
    let later = files_there told os n ch e there at in
    behind_some (channel_told told (run_channel x.spec)) (files_told told (run_channels os)) later.0 (ended_files (run_channel ch.spec) e) later.1

module _ (laws : RiseLaws) (c : ClosedSession) (ends : MembersAtEnd c) where
  abbrev ts : List MemberTurn
  ts = member_turns (logger_client c) (engine_calls c (logger_caller c))

  abbrev its : Session
  its = session_of c ends.moments

  are : AreEngineTurns ts
  are = are_turns laws.turns c ends

  stands : LoggerStands ends.logger.run ends.logger.dumps c.slots ends.logger.ports ts c.files
  stands = ends.logger.stands (given_once laws.turns.once c ends)

  -- a run that came about, with what the logger told of its files
  record RunCame (r : RunRecord) : Type 0 where
    run : SessionRun
    stopped : IsStoppedRun its run
    of : run.start ≡ r.start
    number : run.first.run ≡ r.run
    files : r.files ≡ files_of (ends_told (logger_client c) run.last_tallies) (run_channels c.slots)

  run_came : (own : MainOwn) (more : List EngineEntry) → engine_calls c main_caller ≡ own.engine ++ more → (r : RunRecord) (quota : ℕ) → FitsWhole (clients_in c) own (run_of r quota) r → RunCame r
  run_came own more calls r quota fits =
      let run : SessionRun = run_recorded (clients_in c) own more (engine_calls c main_caller) calls r quota fits in
      let made : RunIn (engine_calls c main_caller) run = run_in (clients_in c) own more (engine_calls c main_caller) calls r quota fits in
      record { run = run; stopped = made_are_stopped laws.turns.main its ends.engine run made; of = refl; number = refl; files = fits.stop.tells.files }

  turns_of_record : (r : RunRecord) → RunCame r → TurnsOf ts r.start
  turns_of_record r came = subst (λ (n : ℕ). TurnsOf ts n) came.of (turns_of_run laws.turns c ends came.run came.stopped)

  -- what the logger told of the channels at the stop stands in the record's files
  ends_recorded : (r : RunRecord) (came : RunCame r) (told : List ChannelEnd) (stop : MemberTurn) → Turned ts Stop r.start stop → stop.answer ≡ Some (Yes (Channels told)) → r.files ≡ files_told told (run_channels c.slots)
  ends_recorded r came told stop stops answered =
      let n : ℕ = logger_client c in
      let its_stop : Turned ts Stop came.run.start stop = record { stands = stops.stands; is = stops.is; of = stops.of ∙ sym came.of } in
      let at = told_there laws.turns c ends came.run came.stopped stop its_stop told answered in
      let found = ends_there n came.run.last_tallies at.0 told at.1 in
      let says : ToldEnds n came.run.last_tallies found.0 = ends_so n came.run.last_tallies found.0 found.1 in
      let both : Some (Yes (Channels told)) ≡ Some (Yes (Channels found.0)) = sym answered ∙ told_is laws.turns c ends came.run came.stopped says.index found.0 says.at stop its_stop in
      let same : found.0 ≡ told = cc (both) in
      came.files ∙ (ap (λ (o : Option (List ChannelEnd)). files_of o (run_channels c.slots)) found.1 ∙ ap (λ (l : List ChannelEnd). files_told l (run_channels c.slots)) same)

  module _ (first now : FilesTold) (reasons : LoggerReasons c ends first now) (own : MainOwn) (more : List EngineEntry) (calls : engine_calls c main_caller ≡ own.engine ++ more) (none_more : starts_begun more ≡ [])
      (runs : List RunRecord) (fits : RecordsFit (clients_in c) own runs) where
    -- the record of a start
    abbrev OfStart : (start : ℕ) → Type 0
    OfStart start = RecordOf (clients_in c) own more (engine_calls c main_caller) calls runs start

    of_start : (t : MemberTurn) → StartBegun c t → OfStart t.order.start
    of_start t begun =
        let start : ℕ = t.order.start in
        record_of (clients_in c) own more (engine_calls c main_caller) calls runs none_more fits start
        (subst (λ (l : List EngineEntry). Contains (starts_begun l) start) (sym begun.whole) (started_in begun.before begun.after begun.sheet start))

    came_of : (start : ℕ) (o : OfStart start) → o.kept.outcome ≡ Completed → RunCame o.kept
    came_of start o done = run_came own more calls o.kept o.fit.0 (whole (clients_in c) own (run_of o.kept o.fit.0) o.kept o.kept.outcome done o.fit.1)

    turns_at : (start : ℕ) (o : OfStart start) → o.kept.outcome ≡ Completed → TurnsOf ts start
    turns_at start o done = subst (λ (n : ℕ). TurnsOf ts n) o.is (turns_of_record o.kept (came_of start o done))

    turn_begun : (t : MemberTurn) → HasTurn ts t → t.transition ≡ Start → OfStart t.order.start
    turn_begun t has starts = of_start t (start_begun laws.turns.facts.begun c ends t has starts)

    -- a start that came about was not refused by the logger
    never_refused : (t : MemberTurn) (why : Why) → HasTurn ts t → t.transition ≡ Start → t.answer ≡ Some (No why) → (o : OfStart t.order.start) → o.kept.outcome ≡ Completed → ⊥
    never_refused t why has starts answered o done =
        let turns : TurnsOf ts t.order.start = turns_at t.order.start o done in
        let same : t ≡ turns.begin = one_start ts t.order.start t turns.begin are (record { stands = has; is = starts; of = refl }) (record { stands = turns.starts.stands; is = turns.starts.is; of = turns.starts.of }) in
        let both : Some (No why) ≡ Some (Yes turns.tally) = sym answered ∙ (ap (λ (u : MemberTurn). u.answer) same ∙ turns.accepted) in
        cc (both)

    -- an answer fits its turn
    fits_as : (t : MemberTurn) (answer : Option Answer) → HasTurn ts t → t.answer ≡ answer → AnswerFits (specs_in c.slots) t.transition answer
    fits_as t answer has is = subst (λ (a : Option Answer). AnswerFits (specs_in c.slots) t.transition a) is (reasons.fits t has)

    -- the start of such a record was refused, by the main thread's own calls
    record RefusalOf (r : RunRecord) (client : ℕ) (why : Why) : Type 0 where
      sheet : Sheet
      number : sheet.run ≡ r.run
      tallies : List ClientTally
      made : TransitionIn (engine_calls c main_caller) Start sheet r.start (Refused client why) tallies

    refusal_of : (r : RunRecord) (fit : FitsRun (clients_in c) own r) (client : ℕ) (why : Why) → r.outcome ≡ Refused client why → RefusalOf r client why
    refusal_of r fit client why is =
        let start = (was_refused (clients_in c) own (run_of r fit.0) r client why r.outcome is fit.1).start in
        record {
          sheet = start_sheet (length c.analyzers) r.run r.time0 fit.0 start.dump;
          number = refl;
          tallies = start.tallies;
          made = refused_in (clients_in c) own more (engine_calls c main_caller) calls r fit.0 client why is start;
        }

    refuses_start : (r : RunRecord) (fit : FitsRun (clients_in c) own r) (client : ℕ) (why : Why) → r.outcome ≡ Refused client why → RefusesStart (engine_calls c main_caller) r.start
    refuses_start r fit client why is =
        let refusal : RefusalOf r client why = refusal_of r fit client why is in
        record { sheet = refusal.sheet; client = client; why = why; tallies = refusal.tallies; made = refusal.made }

    -- a start of the logger came about, where its run was not called off
    completed : (start : ℕ) (o : OfStart start) → (IsCalledOff ts start → ⊥) → o.kept.outcome ≡ Completed
    completed start o never = by_outcome o.kept.outcome refl
      where
        by_outcome : (outcome : StartOutcome) → o.kept.outcome ≡ outcome → o.kept.outcome ≡ Completed
        by_outcome Completed is = is
        by_outcome (Refused client why) is = absurd (never (subst (λ (n : ℕ). IsCalledOff ts n) o.is (called_off laws.turns c ends o.kept.start (refuses_start o.kept o.fit client why is))))

    -- a channel that broke off has a run that is not over
    off_none : (n : ℕ) (ch : Channel) (run : BegunRun) (fallen : Fallen) → slot_at c.slots n ≡ Some ch → ch.stage ≡ Broken run fallen → ⊥
    off_none n ch run fallen there is =
        let started : IsStartedRun ts run.opened = laws.turns.started ends.logger.run ends.logger.dumps c.slots ends.logger.ports ts c.files stands are n ch run.opened there (ap channel_run is) in
        let start = started.is_start.is_start in
        let o : OfStart started.begin.order.start = turn_begun started.begin start.stands start.is in
        let done : o.kept.outcome ≡ Completed = completed started.begin.order.start o (λ off. started.on off.turn off.stands off.is (off.of ∙ start.of)) in
        let came : RunCame o.kept = came_of started.begin.order.start o done in
        never_open laws.turns c ends came.run came.stopped n ch run.opened there (ap channel_run is) (sym start.of ∙ (sym o.is ∙ sym came.of))

    -- the number of the run in the record of a start that came about
    came_number : (begin : MemberTurn) → HasTurn ts begin → begin.transition ≡ Start → (o : OfStart begin.order.start) → RunCame o.kept → o.kept.run ≡ begin.order.run
    came_number begin has starts o came =
        let turn : IsStartTurn came.run begin = start_turn laws.turns.facts its (laws.turns.keep c ends) came.run came.stopped (logger_client c) begin (record { stands = has; is = starts; of = sym o.is ∙ sym came.of }) in
        sym came.number ∙ sym (ap (λ (x : Order). x.run) turn.order)

    -- a channel of which it is told that it broke off is called Broken in the record of the run
    broken_file : (name : List ℕ) → IsBrokenName (specs_in c.slots) ts name → HasBrokenFile runs name
    broken_file name o =
        let begin : MemberTurn = o.stopped.begin in
        let start = o.stopped.is_start.is_start in
        let its_record : OfStart begin.order.start = turn_begun begin start.stands start.is in
        let r : RunRecord = its_record.kept in
        let done : r.outcome ≡ Completed = completed begin.order.start its_record
        (λ off. one_end ts begin.order.start begin o.stopped.stop off.turn are (record { stands = start.stands; is = start.is; of = refl })
        (record { stands = o.stopped.stands; is = o.stopped.is; of = sym start.of }) (record { stands = off.stands; is = off.is; of = off.of })) in
        let came : RunCame r = came_of begin.order.start its_record done in
        let of : r.start ≡ o.stopped.stop.order.start = its_record.is ∙ start.of in
        let files : r.files ≡ files_told o.ends (run_channels c.slots) = ends_recorded r came o.ends o.stopped.stop (record { stands = o.stopped.stands; is = o.stopped.is; of = sym of }) o.stopped.answered in
        let channel : HasSpec c.slots o.number o.spec = has_spec c.slots o.number o.spec o.there in
        let ch : Channel = channel.channel in
        let number : ch.spec.number ≡ o.number = stands.holds.standing.numbered o.number ch channel.at in
        let found = files_there o.ends c.slots o.number ch o.told channel.at (subst (λ (i : ℕ). slice_get o.ends i ≡ Some o.told) (sym number) o.at) in
        let run : r.run ≡ o.run = came_number begin start.stands start.is its_record came ∙ o.stopped.number in
        record {
          number = its_record.place;
          run = r;
          at = its_record.at;
          place = found.0;
          files = ended_files (run_channel ch.spec) o.told;
          there = subst (λ (l : List ChannelFiles). slice_get l found.0 ≡ Some (ended_files (run_channel ch.spec) o.told)) (sym files) found.1;
          broken = o.broken;
          sub = o.sub;
          few = o.few;
          is = ap (λ (s : ChannelSpec). piece_name_by s.pattern r.run o.sub) channel.is ∙ (ap (λ (n : ℕ). piece_name_by o.spec.pattern n o.sub) run ∙ o.is);
        }

    -- the number of the run in the record of a start that was refused
    refused_number : (begin : MemberTurn) → HasTurn ts begin → begin.transition ≡ Start → (o : OfStart begin.order.start) → (client : ℕ) (why : Why) → o.kept.outcome ≡ Refused client why → o.kept.run ≡ begin.order.run
    refused_number begin has starts o client why is =
        let r : RefusalOf o.kept client why = refusal_of o.kept o.fit client why is in
        let stood : HasTransition c.engine Start r.sheet o.kept.start (Refused client why) r.tallies = has_made laws.turns.main c.engine Start r.sheet o.kept.start (Refused client why) r.tallies ends.engine r.made in
        let was : WasBegun c.engine begin = laws.turns.facts.begun (logger_caller c) (logger_client c) c.engine ends.engine (speaks (logger_client c) c.engine (names_own c ends)) begin has in
        let kind : was.transition ≡ Start = elim was.of_begin.kind as (λ w. was.transition ≡ Start) [
          | inl same ↦ sym same ∙ starts
          | inr off ↦ off.0
        ] in
        let whole : c.engine ≡ was.earlier ++ (was.caller, Begin Start was.sheet (Ok o.kept.start)) ∷ was.later =
        was.stands
        ∙ (ap (λ (t : Transition). was.earlier ++ (was.caller, Begin t was.sheet (Ok begin.order.start)) ∷ was.later) kind
        ∙ ap (λ (n : ℕ). was.earlier ++ (was.caller, Begin Start was.sheet (Ok n)) ∷ was.later) (sym o.is)) in
        let same : r.sheet ≡ was.sheet =
        one_begin laws.turns.facts.rise c.engine ends.engine o.kept.start stood.earlier (stood.between ++ (stood.closer, Check (Done (Refused client why)) r.tallies) ∷ stood.later) stood.opener r.sheet stood.whole
        was.earlier was.later was.caller was.sheet whole in
        sym r.number ∙ (ap (λ (x : Sheet). x.run) same ∙ sym (ap (λ (x : Order). x.run) was.of_begin.order))

    -- a run whose start was undone has its record, as refused
    undone_file : (name : List ℕ) → IsUndoneFile (specs_in c.slots) ts name → HasRefusedFile (specs_in c.slots) runs name
    undone_file name o = by_outcome its_record.kept.outcome refl
      where
        its_record : OfStart o.undone.begin.order.start
        its_record = turn_begun o.undone.begin o.undone.stands o.undone.is

        refused : its_record.kept.outcome ≢ Completed
        refused done =
            let came : RunCame its_record.kept = came_of o.undone.begin.order.start its_record done in
            never_undone laws.turns c ends came.run came.stopped o.undone.begin (record { stands = o.undone.stands; is = o.undone.is; of = sym its_record.is ∙ sym came.of }) o.undone.undone

        by_outcome : (outcome : StartOutcome) → its_record.kept.outcome ≡ outcome → HasRefusedFile (specs_in c.slots) runs name
        by_outcome Completed is = absurd (refused is)
        by_outcome (Refused client why) is = record {
          number = its_record.place;
          run = its_record.kept;
          at = its_record.at;
          refused = refused;
          place = o.number;
          spec = o.spec;
          there = o.there;
          sub = o.sub;
          is = ap (λ (n : ℕ). piece_name_by o.spec.pattern n o.sub) (refused_number o.undone.begin o.undone.stands o.undone.is its_record client why is ∙ o.undone.number) ∙ o.is;
        }

    -- so it is with the file of the first fault
    named_so : LoggerNames c ends first now → first.first ≡ None → (name : List ℕ) → now.first ≡ Some name → HasBrokenFile runs name ⊎ HasRefusedFile (specs_in c.slots) runs name
    named_so names none name is =
        let kept : KeepsNames c.slots first now ts = names (given_once laws.turns.once c ends) in
        elim (kept.fault_known none name is) as (λ w. HasBrokenFile runs name ⊎ HasRefusedFile (specs_in c.slots) runs name) [
          | inl told ↦ inl (broken_file name told)
          | inr rest ↦ elim rest as (λ w. HasBrokenFile runs name ⊎ HasRefusedFile (specs_in c.slots) runs name) [
            | inl off ↦ absurd (off_none off.number off.channel off.run off.fallen off.there off.of)
            | inr undone ↦ inr (undone_file name undone)
          ]
        ]

    -- Where each start came about.
    module _ (all : NoneRefused runs) where
      refuses_none : (t : MemberTurn) (why : Why) → HasTurn ts t → t.answer ≡ Some (No why) → ⊥
      refuses_none t why has answered =
          let starts : t.transition ≡ Start = (fits_as t (Some (No why)) has answered).kind in
          let o : OfStart t.order.start = turn_begun t has starts in
          never_refused t why has starts answered o (all o.place o.kept o.at)

      calls_none_off : (t : MemberTurn) → HasTurn ts t → t.transition ≡ StartAbort → ⊥
      calls_none_off t has aborts =
          let o : OfStart t.order.start = of_start t (abort_begun laws.turns.facts.begun c ends t has aborts) in
          let turns : TurnsOf ts t.order.start = turns_at t.order.start o (all o.place o.kept o.at) in
          one_end ts t.order.start turns.begin turns.stop t are turns.starts turns.stops (record { stands = has; is = aborts; of = refl })

      start_none : (t : MemberTurn) → HasTurn ts t → (answer : Option Answer) → t.answer ≡ answer → count_in_answer undone_of_answer answer ≡ 0
      start_none t has None is = refl
      start_none t has (Some (No why)) is = absurd (refuses_none t why has is)
      start_none t has (Some (Yes tally)) is = refl

      undone_none : (t : MemberTurn) → HasTurn ts t → (transition : Transition) → t.transition ≡ transition → undone_by transition t.answer ≡ 0
      undone_none t has Start is = start_none t has t.answer refl
      undone_none t has Stop is = refl
      undone_none t has Pause is = refl
      undone_none t has Resume is = refl
      undone_none t has StartAbort is = absurd (calls_none_off t has is)

      none_undone : starts_undone ts ≡ 0
      none_undone = turns_none (λ (t : MemberTurn). undone_by t.transition t.answer) ts (λ t has. undone_none t has t.transition refl)

      -- And where no file broke off.
      module _ (quiet : sum_by faults_recorded runs ≡ 0) where
        breaks_none : (t : MemberTurn) (told : List ChannelEnd) → HasTurn ts t → t.answer ≡ Some (Yes (Channels told)) → (k : ℕ) (e : ChannelEnd) → slice_get told k ≡ Some e → e.state ≡ IsBroken → ⊥
        breaks_none t told has answered k e at broken =
            let fit : AnswerFits (specs_in c.slots) t.transition (Some (Yes (Channels told))) = fits_as t (Some (Yes (Channels told))) has answered in
            let named = fit.channels k e at broken in
            let channel : HasSpec c.slots k named.0 = has_spec c.slots k named.0 named.1 in
            let ch : Channel = channel.channel in
            let holds = stands.holds in
            let served = there_within ends.logger.ports ch.spec.buffer (holds.served k ch channel.at) in
            let port : Access = served.0 in
            let at_port : slice_get ends.logger.ports ch.spec.buffer ≡ Some port = served.1 in
            let so : ToldSo ts c.slots c.files k ch port t told = holds.standing.left are t told (record { stands = has; is = fit.kind; answered = answered }) k ch port channel.at at_port in
            let start = so.left.headed.is_start.is_start in
            let begin : MemberTurn = so.left.headed.turn in
            let o : OfStart begin.order.start = turn_begun begin start.stands start.is in
            let of : o.kept.start ≡ t.order.start = o.is ∙ start.of in
            let files : o.kept.files ≡ files_told told (run_channels c.slots) = ends_recorded o.kept (came_of begin.order.start o (all o.place o.kept o.at)) told t (record { stands = has; is = fit.kind; of = sym of }) answered in
            let number : slice_get told ch.spec.number ≡ Some e = subst (λ (i : ℕ). slice_get told i ≡ Some e) (sym (holds.standing.numbered k ch channel.at)) at in
            let some = files_count told c.slots k ch e channel.at number broken in
            let same : sum_by faults_of_files o.kept.files ≡ sum_by faults_of_files (files_told told (run_channels c.slots)) = ap (λ (l : List ChannelFiles). sum_by faults_of_files l) files in
            omega (arith, some, same, quiet, member_counts faults_recorded runs o.place o.kept o.at)

        faults_none : (t : MemberTurn) → HasTurn ts t → (answer : Option Answer) → t.answer ≡ answer → count_in_answer faults_of_answer answer ≡ 0
        faults_none t has None is = refl
        faults_none t has (Some (No why)) is = absurd (refuses_none t why has is)
        faults_none t has (Some (Yes Plain)) is = refl
        faults_none t has (Some (Yes (Front sent ended))) is = refl
        faults_none t has (Some (Yes (Channels told))) is = ends_none told (breaks_none t told has is)
        faults_none t has (Some (Yes (Report report))) is = refl

        faults_so : now.faults ≡ first.faults
        faults_so =
            let told : faults_told ts ≡ 0 = turns_none (λ (t : MemberTurn). count_in_answer faults_of_answer t.answer) ts (λ t has. faults_none t has t.answer refl) in
            let off : broken_off c.slots ≡ 0 = slots_none c.slots off_none in
            reasons.no_fault (omega (arith, told, none_undone, off))

    -- Where none of these starts was refused for a name.
    module _ (quiet : sum_by clashes_recorded runs ≡ 0) where
      -- a start that the logger refused for a name has it in its record, whoever else refused others
      refused_at : (t : MemberTurn) (channel : ℕ) → HasTurn ts t → t.transition ≡ Start → t.answer ≡ Some (No (Exists channel)) → (o : OfStart t.order.start) → (outcome : StartOutcome) → o.kept.outcome ≡ outcome → ⊥
      refused_at t channel has starts answered o Completed is = never_refused t (Exists channel) has starts answered o is
      refused_at t channel has starts answered o (Refused client why) is =
          let n : ℕ = logger_client c in
          let r : RefusalOf o.kept client why = refusal_of o.kept o.fit client why is in
          let stood : HasTransition c.engine Start r.sheet o.kept.start (Refused client why) r.tallies = has_made laws.turns.main c.engine Start r.sheet o.kept.start (Refused client why) r.tallies ends.engine r.made in
          let told : Refused client why ≡ Refused n (Exists channel) = laws.nos (logger_caller c) n c.engine ends.engine (speaks n c.engine (names_own c ends)) 200 (one_number c ends) r.sheet o.kept.start (Refused client why) r.tallies stood t has starts (sym o.is) (Exists channel) answered in
          let one : clashes_recorded o.kept ≡ 1 = ap clashes_of_outcome (is ∙ told) in
          omega (arith, one, quiet, member_counts clashes_recorded runs o.place o.kept o.at)

      clash_none : (t : MemberTurn) → HasTurn ts t → (answer : Option Answer) → t.answer ≡ answer → count_in_answer clashes_of_answer answer ≡ 0
      clash_none t has None is = refl
      clash_none t has (Some (Yes tally)) is = refl
      clash_none t has (Some (No NotReady)) is = refl
      clash_none t has (Some (No (Exists channel))) is =
          let starts : t.transition ≡ Start = (fits_as t (Some (No (Exists channel))) has is).kind in
          let o : OfStart t.order.start = turn_begun t has starts in
          absurd (refused_at t channel has starts is o o.kept.outcome refl)
      clash_none t has (Some (No (Fault channel))) is = refl
      clash_none t has (Some (No BufferRefused)) is = refl

      clashes_so : HaveNoLimit (specs_in c.slots) → now.clashes ≡ first.clashes
      clashes_so unlimited = laws.names c.slots ends.logger.ports first now ts reasons unlimited (turns_none (λ (t : MemberTurn). count_in_answer clashes_of_answer t.answer) ts (λ t has. clash_none t has t.answer refl))

pub rises_told : RiseLaws → RisesToldEach
rises_told laws c ends first now reasons names own more calls none_more runs fits = record {
  clashes = λ unlimited quiet. clashes_so laws c ends first now reasons own more calls none_more runs fits quiet unlimited;
  faults = faults_so laws c ends first now reasons own more calls none_more runs fits;
  named = named_so laws c ends first now reasons own more calls none_more runs fits names;
}
