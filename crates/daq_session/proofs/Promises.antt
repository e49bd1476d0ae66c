-- What is promised of a session holds by what its record tells.
use Rattle.std.proofs.Common.{◌≡◌, ◌≢◌, ◌⊎◌, ℕ, zero, suc, ◌+◌, ◌<◌, List, [], ◌∷◌, ◌++◌, length, Option, Some, None, refl, ap, sym, ◌∙◌, subst, inl, inr, arith}
use Rattle.std.specs.Prelude.{Bool, Contains, IfSome, Ok, false, if◌then◌else◌, map, slice_get, true, ◌==◌}
use Rattle.std.specs.Option.{option_map}
use Rattle.std.proofs.Math.Logic.{⊎_elim}
use Rattle.std.proofs.lemmas.List.{length-map}
use Rattle.std.proofs.lemmas.Option.{slice_get-map, slice_get_within}
use Rattle.daq_io.specs.Counts.{Rose, RoseBy}
use Rattle.daq_io.specs.Told.{FilesTold}
use Rattle.daq_io.specs.declared.objects.Outside.{Outside}
use Rattle.daq_types.specs.Callers.{caller_of_client, entries_by}
use Rattle.daq_types.specs.declared.events.Event.{Event}
use Rattle.daq_types.specs.declared.runs.ChannelState.TheVariants.{Ended}
use Rattle.daq_types.specs.declared.runs.FrontEnded.{FrontEnded}
use Rattle.daq_types.specs.declared.runs.FrontEnded.TheVariants.{Quota, Paused, Spent}
use Rattle.daq_types.specs.declared.runs.Order.{Order}
use Rattle.daq_types.specs.declared.runs.RunState.TheVariants.{Stopped}
use Rattle.daq_types.specs.declared.runs.StartOutcome.TheVariants.{Completed}
use Rattle.daq_types.specs.declared.runs.Transition.TheVariants.{Start, Stop}
use Rattle.event.specs.Generator.{generated_event, generated_events}
use Rattle.turn_lock.specs.Closing.{history_of}
use Rattle.buffer_core.specs.Window.{Sent}
use Rattle.buffer_core.specs.Histories.{History}
use Rattle.buffer_core.specs.Runs.{segment}
use Rattle.transitions.specs.EngineCalls.{order_for}
use Rattle.transitions.specs.declared.entry.EngineEntry.TheVariants.{Begin}
use Rattle.member_model.specs.RunEngines.{Sheet}
use Rattle.member_model.specs.SentCalls.{WasSpent}
use Rattle.member_model.specs.TurnCalls.{member_turns}
use Rattle.loggers.specs.ToldCounts.{broken_off, faults_told}
use Rattle.console.specs.declared.endings.Ending.{Ending}
use Rattle.console.specs.declared.endings.Ending.TheVariants as ways
use Rattle.console.specs.declared.halts.Halt.{Halt}
use Rattle.console.specs.declared.halts.Halt.TheVariants as halt
use Rattle.console.specs.declared.refusals.Refusals.{Refusals}
use Rattle.console.specs.Closing.{EndCounts, ended_by}
use Rattle.front_ends.specs.FrontKept.{made_events}
use Rattle.frontend_kit.specs.declared.generator.Generator.{Generator}
use Rattle.history_laws.specs.BegunTurns.{HasTransition}
use Rattle.composition.specs.Sessions.{Session, SessionFront}
use Rattle.composition.specs.SessionRuns.{EndedIn}
use Rattle.daq_members.specs.Members.{MemberTold}
use Rattle.odb_commands.specs.declared.dump_replies.FileReply.{FileReply}
use Rattle.session_setup.specs.declared.declared.BufferDeclared.{BufferDeclared}
use Rattle.session_setup.specs.declared.declared.FrontDeclared.{FrontDeclared}
use Rattle.session_runs.specs.declared.records.ChannelFiles.{ChannelFiles}
use Rattle.session_runs.specs.declared.records.FrontTally.{FrontTally}
use Rattle.session_runs.specs.declared.records.RunRecord.{RunRecord}
use Rattle.session_runs.specs.RunEntries.{dump_saved, later_sheet, start_sheet}
use Rattle.session_runs.specs.RunsFit.{run_of}
use Rattle.session_commands.specs.Endings.{asks_files}
use Rattle.session_commands.specs.ScriptLines.{WithdrawsLine}
use Rattle.session_commands.specs.Stages.{SessionStage}
use Rattle.session_objects.specs.declared.record.BufferRecord.{BufferRecord}
use Rattle.session_objects.specs.declared.record.SessionRecord.{SessionRecord}
use Rattle.session_objects.specs.Members.{generator_makes, generator_of}
use Rattle.session_laws.specs.ClosedSessions.{ClosedFront, ClosedSession, engine_calls, history_of_buffer, logger_caller, logger_client, numbered, session_analyzer, session_front, session_of}
use Rattle.session_laws.specs.EndedRecords.{RecordSo}
use Rattle.session_laws.specs.EndedSessions.{closed_analyzer, closed_front}
use Rattle.session_laws.specs.OtherNames.{HasLoggerUntold}
use Rattle.session_laws.specs.RecordedRuns.{FrontRecordHolds}
use Rattle.daq_session.specs.declared.ends.ScriptEnd.{ScriptEnd}
use Rattle.daq_session.proofs.WrittenLines.{lines_written}
use Rattle.daq_session.specs.declared.ends.ScriptEnd.TheVariants.{CommandRefused, Done, NoMemory}
use Rattle.daq_session.specs.Endings.{FaultedFile, script_end}
use Rattle.daq_session.specs.Environments.{OutsideTold, environment}
use Rattle.daq_session.specs.FramedFiles.{AreFramedPieces}
use Rattle.daq_session.specs.ToldRecords.{IsHistoryOf, RecordTells, RunTells, session_told}
use Rattle.daq_session.specs.Sessions.{KeepsSession, RunsScript, main_own}
use Rattle.daq_session.specs.DeclaredLines.{ForSession, IsDeclaredIn}
use Rattle.daq_session.specs.Promises.{AnswerOnce, DeliverOwed, EndAll, EndsWell, FitCalls, FramedInRun, FrontEndsSend, FrontEndsSent, HasOneDatabase, HaveOneHistory, HaveReports, HaveRunFiles, IsGenerated, NothingFailed, OthersStay, ReportsOfRun, RunTransitions, SendingEnded, SentGenerated, WroteReplies}
use Rattle.daq_session.proofs.DeclaredLines.{script_declares}
use Rattle.daq_session.proofs.ToldRuns.{history_there, spec_at, there}

one_of : {X : Type 0} (o : Option X) (x y : X) → o ≡ Some x → o ≡ Some y → x ≡ y
one_of o x y first second = cc (first, second)

-- a front-end's equipment is the generator
made_generated : (d : FrontDeclared) (order : Order) (n : ℕ) → made_events (generator_makes (generator_of d)) order n ≡ generated_events order d.id d.mask n
made_generated d order zero = refl
made_generated d order (suc n) = ap (λ (l : List Event). l ++ generated_event order d.id d.mask (suc n) ∷ []) (made_generated d order n)

numbered_at : {X Y : Type 0} (make : ℕ → X → Y) (first : ℕ) (xs : List X) (n : ℕ) (x : X) → slice_get xs n ≡ Some x → slice_get (numbered make first xs) n ≡ Some (make (first + n) x)
numbered_at make first [] n x at = absurd (cc at)
numbered_at {X} {Y} make first (y ∷ xs) zero x at =
    let same : y ≡ x = cc at in
    let e : first ≡ first + 0 = omega arith in
    ap (λ (z : X). Some (make first z)) same ∙ ap (λ (k : ℕ). Some (make k x)) e
numbered_at {X} {Y} make first (y ∷ xs) (suc n) x at =
    let e : suc first + n ≡ first + suc n = omega arith in
    numbered_at make (suc first) xs n x at ∙ ap (λ (k : ℕ). Some (make k x)) e

-- the front-end of this client number, as it was declared
front_at : (fronts : List FrontDeclared) (moments : (client : ℕ) → List ℕ) (client : ℕ) (d : FrontDeclared) → slice_get fronts client ≡ Some d
    → slice_get (numbered (λ (n : ℕ) (f : ClosedFront). session_front n f (moments n)) 0 (map closed_front fronts)) client ≡ Some (session_front client (closed_front d) (moments client))
front_at fronts moments client d at =
    let e : 0 + client ≡ client = omega arith in
    numbered_at (λ (n : ℕ) (f : ClosedFront). session_front n f (moments n)) 0 (map closed_front fronts) client (closed_front d)
    (slice_get-map closed_front fronts client ∙ ap (option_map closed_front) at)
    ∙ ap (λ (k : ℕ). Some (session_front k (closed_front d) (moments k))) e

numbered_length : {X Y : Type 0} (make : ℕ → X → Y) (first : ℕ) (xs : List X) → length (numbered make first xs) ≡ length xs
numbered_length make first [] = refl
numbered_length make first (x ∷ xs) = ap (λ (n : ℕ). suc n) (numbered_length make (suc first) xs)

-- more faults than are told are some
rose_more : (more old new : ℕ) → RoseBy (more + 1) old new → Rose old new
rose_more more old new rose = omega (arith, rose)

untold_rose : (c : ClosedSession) (first now : FilesTold) → HasLoggerUntold c first now → Rose first.faults now.faults
untold_rose c first now untold =
    rose_more (faults_told (member_turns (logger_client c) (engine_calls c (logger_caller c))) + broken_off c.slots) first.faults now.faults untold

-- How a script ended where nothing failed.

well_ended : (ending : Ending) (closing : Option Halt) (source source_later sink sink_later : ℕ) → EndCounts ending closing source source_later sink sink_later → ¬ Rose source source_later → ¬ Rose sink sink_later
    → (faulted : Option (List ℕ)) (refusals : Refusals) → script_end (ended_by ending closing) faulted refusals ≢ NoMemory
    → (ended_by ending closing ≡ ways.End) ⊎ (ended_by ending closing ≡ ways.TooLong)
well_ended ways.End None s later k now counts source sink faulted refusals memory = inl refl
well_ended ways.TooLong None s later k now counts source sink faulted refusals memory = inr refl
well_ended ways.SourceFault closing s later k now counts source sink faulted refusals memory = absurd (source counts.source_counts)
well_ended (ways.Halted halt.NoMemory) None s later k now counts source sink faulted refusals memory = absurd (memory refl)
well_ended (ways.Halted halt.NoMemory) (Some h) s later k now counts source sink faulted refusals memory = absurd (memory refl)
well_ended (ways.Halted halt.SinkFault) None s later k now counts source sink faulted refusals memory = absurd (sink (subst (Rose k) (sym counts.behind) counts.sink_counts))
well_ended (ways.Halted halt.SinkFault) (Some halt.NoMemory) s later k now counts source sink faulted refusals memory = absurd (sink (subst (Rose k) (sym counts.behind) counts.sink_counts))
well_ended (ways.Halted halt.SinkFault) (Some halt.SinkFault) s later k now counts source sink faulted refusals memory = absurd (let may = counts.may in cc (may))
well_ended ways.End (Some halt.NoMemory) s later k now counts source sink faulted refusals memory = absurd (memory refl)
well_ended ways.TooLong (Some halt.NoMemory) s later k now counts source sink faulted refusals memory = absurd (memory refl)
well_ended ways.End (Some halt.SinkFault) s later k now counts source sink faulted refusals memory = absurd (sink (subst (λ (n : ℕ). Rose n now) counts.sink_counts counts.behind))
well_ended ways.TooLong (Some halt.SinkFault) s later k now counts source sink faulted refusals memory = absurd (sink (subst (λ (n : ℕ). Rose n now) counts.sink_counts counts.behind))

none_faulted : (faulted : Option (List ℕ)) (run run_later : ℕ) (run_first : Option (List ℕ)) (odb odb_later : ℕ) (odb_first : Option (List ℕ)) → ¬ Rose run run_later → ¬ Rose odb odb_later
    → FaultedFile run run_later run_first odb odb_later odb_first faulted → faulted ≡ None
none_faulted None run run_later run_first odb odb_later odb_first no_run no_odb is = refl
none_faulted (Some name) run run_later run_first odb odb_later odb_first no_run no_odb is =
    ⊎_elim (λ of_run. absurd (no_run of_run.0)) (λ of_odb. absurd (no_odb of_odb.1)) is

by_count : (none : Bool) (count first : ℕ) → EndsWell (if none then Done else CommandRefused count first)
by_count true count first = inl refl
by_count false count first = inr (inr (count, first, refl))

end_well : (faulted : Option (List ℕ)) (refusals : Refusals) → faulted ≡ None → EndsWell (script_end ways.End faulted refusals)
end_well None refusals none = by_count (refusals.count == 0) refusals.count refusals.first
end_well (Some name) refusals none = absurd (cc none)

long_well : (faulted : Option (List ℕ)) (refusals : Refusals) → faulted ≡ None → EndsWell (script_end ways.TooLong faulted refusals)
long_well None refusals none = inr (inl refl)
long_well (Some name) refusals none = absurd (cc none)

well_from : (e : Ending) (faulted : Option (List ℕ)) (refusals : Refusals) → (e ≡ ways.End) ⊎ (e ≡ ways.TooLong) → (asks_files e ≡ true → faulted ≡ None) → EndsWell (script_end e faulted refusals)
well_from e faulted refusals how none = ⊎_elim
    (λ (is : e ≡ ways.End). subst (λ (x : Ending). EndsWell (script_end x faulted refusals)) (sym is) (end_well faulted refusals (none (ap asks_files is))))
    (λ (is : e ≡ ways.TooLong). subst (λ (x : Ending). EndsWell (script_end x faulted refusals)) (sym is) (long_well faulted refusals (none (ap asks_files is))))
    how

module _ {D F : Type 0} {g : _} (told : MemberTold Generator F) (first_files : F) (final : SessionStage) (run_files : F) (r : SessionRecord D g)
    (keeps : KeepsSession told first_files final run_files r) where
  abbrev tells : RecordTells told final.declared (main_own final keeps.last) first_files run_files r
  tells = keeps.tells

  abbrev closed : ClosedSession
  closed = session_told told final.declared tells.slots first_files run_files r

  -- One history.

  buffer_history : (number : ℕ) (b : BufferRecord) → slice_get r.buffers number ≡ Some b → (d : BufferDeclared) × IsHistoryOf d b
  buffer_history number b at =
      let within : number < length final.declared.buffers = subst (λ (n : ℕ). number < n) tells.histories.many (slice_get_within r.buffers number b at) in
      let d = there final.declared.buffers number within in
      (d.0, tells.histories.buffers number d.0 b d.1 at)

  has_history : HaveOneHistory r
  has_history = record {
    buffers = λ number b at. let h = (buffer_history number b at).1 in record { legal = h.legal; left = h.left; runs = h.runs };
    engine = tells.histories.engine;
    engine_left = tells.histories.engine_left;
    follows = tells.histories.follows;
    database = tells.histories.database;
  }

  delivers : DeliverOwed r
  delivers number b at = (buffer_history number b at).1.delivers

  -- Runs.

  module _ (number : ℕ) (run : RunRecord) (at : slice_get r.runs number ≡ Some run) (whole : run.outcome ≡ Completed) where
    abbrev run_tells : RunTells closed tells.holds.moments (main_own final keeps.last) final.declared r.buffers (told.read first_files) (told.read run_files) run
    run_tells = tells.runs number run at whole

    abbrev so : RecordSo closed tells.holds.moments (main_own final keeps.last) run
    so = run_tells.so

    abbrev first_sheet : Sheet
    first_sheet = start_sheet (length closed.analyzers) run.run run.time0 so.quota so.fits.start.dump

    abbrev last_sheet : Sheet
    last_sheet = later_sheet (run_of run so.quota) run.time1 (dump_saved so.fits.stop.saved)

    abbrev made_of : RunTransitions (history_of r.engine) run
    made_of = record {
      first = first_sheet;
      last = last_sheet;
      first_tallies = so.holds.run.first_tallies;
      last_tallies = so.holds.run.last_tallies;
      started = subst (λ (s : Sheet). HasTransition (history_of r.engine) Start s run.start Completed so.holds.run.first_tallies) so.holds.first_is
          (subst (λ (n : ℕ). HasTransition (history_of r.engine) Start so.holds.run.first n Completed so.holds.run.first_tallies) so.holds.start so.holds.stopped.started);
      stopped = subst (λ (s : Sheet). HasTransition (history_of r.engine) Stop s run.start Completed so.holds.run.last_tallies) so.holds.last_is
          (subst (λ (n : ℕ). HasTransition (history_of r.engine) Stop so.holds.run.last n Completed so.holds.run.last_tallies) so.holds.start so.holds.stopped.stopped);
      number = refl;
      time = refl;
      stop_time = refl;
      dump = so.fits.start.dump;
      has_dump = refl;
    }

    -- Front-ends.

    module _ (client : ℕ) (d : FrontDeclared) (there_is : slice_get final.declared.fronts client ≡ Some d) where
      abbrev stood : SessionFront
      stood = session_front client (closed_front d) (tells.holds.moments client)

      abbrev session : Session
      session = session_of closed tells.holds.moments

      front_held : (tally : FrontTally) × (slice_get run.fronts client ≡ Some tally) × FrontRecordHolds session so.holds.run stood tally
      front_held = so.holds.fronts client stood (front_at final.declared.fronts tells.holds.moments client d there_is)

      ended_as : (b : BufferRecord) → slice_get r.buffers d.buffer ≡ Some b → (sent : ℕ) (ended : FrontEnded) → EndedIn session so.holds.run stood sent ended
          → SendingEnded made_of (entries_by (caller_of_client client) (history_of b.closed)) sent ended
      ended_as b b_at sent Quota is = is ∙ ap (λ (s : Sheet). s.quota) so.holds.first_is
      ended_as b b_at sent Paused came = record {
        earlier = came.earlier;
        later = came.later;
        caller = came.caller;
        stands = subst (λ (s : Sheet). history_of r.engine ≡ came.earlier ++ (came.caller, Begin Stop s (Ok run.start)) ∷ came.later) so.holds.last_is
            (subst (λ (n : ℕ). history_of r.engine ≡ came.earlier ++ (came.caller, Begin Stop so.holds.run.last (Ok n)) ∷ came.later) so.holds.start came.stands);
        paused = came.paused;
      }
      ended_as b b_at sent (Spent total) was =
          subst (λ (h : History). WasSpent (entries_by (caller_of_client client) h) run.start total) (history_there r.buffers d.buffer b b_at)
          (subst (λ (n : ℕ). WasSpent (entries_by (caller_of_client client) (history_of_buffer closed d.buffer)) n total) so.holds.start was)

      front_sends : (tally : FrontTally) × (slice_get run.fronts client ≡ Some tally) × SentGenerated client d r.buffers made_of tally
      front_sends =
          let has = run_tells.fronts client d there_is in
          let held = front_held in
          let same : held.0 ≡ has.0 = one_of (slice_get run.fronts client) held.0 has.0 held.1 has.1 in (
            has.0,
            has.1,
            record {
              is = has.2.is;
              buffer = has.2.buffer;
              there = has.2.there;
              sent = has.2.sent ∙ made_generated d (order_for first_sheet run.start Stopped) has.0.sent;
              ended = subst (λ (t : FrontTally). SendingEnded made_of (entries_by (caller_of_client client) (history_of has.2.buffer.closed)) t.sent t.ended) same
                  (ended_as has.2.buffer has.2.there held.0.sent held.0.ended held.2.sends.ended_so);
            },
          )

    event_made : (buffer index place : ℕ) (b : BufferRecord) (x : Sent) → slice_get r.buffers buffer ≡ Some b
        → slice_get (segment (history_of b.closed) run.start) index ≡ Some (place, x) → IsGenerated final.declared made_of buffer x.event
    event_made buffer index place b x b_at x_at =
        let of = run_tells.events buffer index place b x b_at x_at in
        record {
          client = of.client;
          front = of.front;
          there = of.there;
          buffer_is = of.buffer_is;
          tally = of.tally;
          told = of.told;
          made = subst (λ (l : List Event). Contains l x.event) (made_generated of.front (order_for first_sheet run.start Stopped) of.tally.sent) of.made;
        }

    run_sends : FrontEndsSent final.declared r.buffers (history_of r.engine) run
    run_sends = record { on = made_of; fronts = front_sends; events = event_made }

    -- Run files.

    files_framed : (place : ℕ) (written : ChannelFiles) → slice_get run.files place ≡ Some written → written.told.state ≡ Ended
        → (last_dump : List ℕ) × (last_sheet.dump ≡ Some last_dump) × AreFramedPieces final.declared r.buffers (told.read run_files).seen run so.quota so.fits.start.dump last_dump written
    files_framed place written here ended =
        let has = run_tells.files place written here ended in
        let of = has.2 in (
          has.0,
          has.1,
          record {
            channel = of.of.channel;
            is_declared = of.of.is_declared;
            number = of.of.number;
            pattern = of.of.pattern;
            buffer = of.of.buffer;
            there = of.of.there;
            pieces = of.pieces;
            each = of.many;
            framed = of.each;
            join = of.cut.joins;
            sent = λ index at_place x is. run_tells.events of.of.channel.buffer index at_place of.of.buffer x of.of.there is;
            fronts = run_tells.fronts;
          },
        )

    run_framed : FramedInRun final.declared r.buffers (history_of r.engine) (told.read run_files).seen run
    run_framed = record {
      on = made_of;
      framed = files_framed;
      broken = λ place written here broke last_dump has. run_tells.parts place written here broke last_dump has;
    }

    -- Reports.

    run_reports : ReportsOfRun final.declared r.buffers (history_of r.engine) run
    run_reports = record {
      many = so.holds.many_reports
          ∙ (numbered_length (session_analyzer closed) (suc (length closed.fronts)) closed.analyzers ∙ length-map final.declared.analyzers closed_analyzer);
      each = run_tells.reports;
    }

  framed : HaveRunFiles (told.read run_files).seen final.declared r
  framed number run at whole = run_framed number run at whole

  reports : HaveReports final.declared r
  reports number run at whole = run_reports number run at whole

  -- Records, the database and other files.

  fit_calls : FitCalls final.declared r
  fit_calls = record { own = main_own final keeps.last; main = tells.main; fit = tells.fit; differ = tells.differ }

  has_database : HasOneDatabase final.declared r
  has_database = record {
    legal = tells.histories.database;
    notes = tells.histories.notes;
    callers = λ by behind. tells.holds.callers by (subst (λ (n : ℕ). n < by) (sym (length-map final.declared.fronts closed_front)) behind);
  }

  others_stay : OthersStay (told.read first_files) (told.read run_files) final.declared r
  others_stay = record {
    others = λ name none. tells.holds.others name
        (λ run number sub channel begins at few. none channel.spec run sub (tells.channels.each number channel.spec (spec_at tells.slots number channel at)).0 begins few);
    kept = tells.counts.kept;
    left = λ names none name out. ⊎_elim
        (λ same. same)
        (λ undone. absurd (none (untold_rose closed (told.read first_files) (told.read run_files) undone.1.0)))
        (tells.left names name out);
  }

  sends : FrontEndsSend final.declared r
  sends number run at whole = run_sends number run at whole

module _ {D S O F E C K : Type 0} {g : _} (told : OutsideTold S O F E C) (before after : Outside S O F E C K) (end : ScriptEnd)
    (replies : List (ℕ × FileReply)) where
  -- the declarations of a session that was opened are those of the script
  in_script : (kept : Option (SessionRecord D g)) (ran : RunsScript told before after end replies kept) (r : SessionRecord D g) → KeepsSession told.crew before.run_files ran.final after.run_files r
      → IsDeclaredIn (told.source before.src) (told.source after.src) ran.final.declared
  in_script kept ran r keeps =
      script_declares _ ran.final ran.plays.ending ran.plays.closing (told.source before.src) (told.source after.src) _ _ ran.plays.refusals ran.plays.lines.finished refl refl keeps.last keeps.is_open

  pub one_history_kept : (kept : Option (SessionRecord D g)) → RunsScript told before after end replies kept → IfSome kept (λ r. HaveOneHistory r)
  one_history_kept None ran = tt
  one_history_kept (Some r) ran = has_history told.crew before.run_files ran.final after.run_files r ran.keeps

  pub delivery_kept : (kept : Option (SessionRecord D g)) → RunsScript told before after end replies kept → IfSome kept (λ r. DeliverOwed r)
  delivery_kept None ran = tt
  delivery_kept (Some r) ran = delivers told.crew before.run_files ran.final after.run_files r ran.keeps

  pub sends_kept : (kept : Option (SessionRecord D g)) → RunsScript told before after end replies kept
      → ForSession kept (told.source before.src) (told.source after.src) (λ declared r. FrontEndsSend declared r)
  sends_kept None ran = tt
  sends_kept (Some r) ran = record {
    declared = ran.final.declared;
    in_script = in_script (Some r) ran r ran.keeps;
    so = sends told.crew before.run_files ran.final after.run_files r ran.keeps;
  }

  pub run_files_kept : (kept : Option (SessionRecord D g)) → RunsScript told before after end replies kept
      → ForSession kept (told.source before.src) (told.source after.src) (λ declared r. HaveRunFiles (told.crew.read after.run_files).seen declared r)
  run_files_kept None ran = tt
  run_files_kept (Some r) ran = record {
    declared = ran.final.declared;
    in_script = in_script (Some r) ran r ran.keeps;
    so = framed told.crew before.run_files ran.final after.run_files r ran.keeps;
  }

  pub reports_kept : (kept : Option (SessionRecord D g)) → RunsScript told before after end replies kept
      → ForSession kept (told.source before.src) (told.source after.src) (λ declared r. HaveReports declared r)
  reports_kept None ran = tt
  reports_kept (Some r) ran = record {
    declared = ran.final.declared;
    in_script = in_script (Some r) ran r ran.keeps;
    so = reports told.crew before.run_files ran.final after.run_files r ran.keeps;
  }

  pub records_kept : (kept : Option (SessionRecord D g)) → RunsScript told before after end replies kept
      → ForSession kept (told.source before.src) (told.source after.src) (λ declared r. FitCalls declared r)
  records_kept None ran = tt
  records_kept (Some r) ran = record {
    declared = ran.final.declared;
    in_script = in_script (Some r) ran r ran.keeps;
    so = fit_calls told.crew before.run_files ran.final after.run_files r ran.keeps;
  }

  pub database_kept : (kept : Option (SessionRecord D g)) → RunsScript told before after end replies kept
      → ForSession kept (told.source before.src) (told.source after.src) (λ declared r. HasOneDatabase declared r)
  database_kept None ran = tt
  database_kept (Some r) ran = record {
    declared = ran.final.declared;
    in_script = in_script (Some r) ran r ran.keeps;
    so = has_database told.crew before.run_files ran.final after.run_files r ran.keeps;
  }

  pub other_files_kept : (kept : Option (SessionRecord D g)) → RunsScript told before after end replies kept
      → ForSession kept (told.source before.src) (told.source after.src)
      (λ declared r. OthersStay (told.crew.read before.run_files) (told.crew.read after.run_files) declared r)
  other_files_kept None ran = tt
  other_files_kept (Some r) ran = record {
    declared = ran.final.declared;
    in_script = in_script (Some r) ran r ran.keeps;
    so = others_stay told.crew before.run_files ran.final after.run_files r ran.keeps;
  }

  pub one_answer_kept : (kept : Option (SessionRecord D g)) → RunsScript told before after end replies kept
      → IfSome kept (λ r. AnswerOnce (told.crew.read before.run_files) (told.crew.read after.run_files) r)
  one_answer_kept None ran = tt
  one_answer_kept (Some r) ran = ran.keeps.tells.one_answer

  pub ends_kept : (kept : Option (SessionRecord D g)) → RunsScript told before after end replies kept → end ≢ NoMemory
      → IfSome kept (λ r. EndAll (told.crew.read before.run_files) (told.crew.read after.run_files) r)
  ends_kept None ran memory = tt
  ends_kept (Some r) ran memory = λ none. (ran.ended memory).ended none

  pub ends_well : (kept : Option (SessionRecord D g)) → RunsScript told before after end replies kept → end ≢ NoMemory → NothingFailed (environment told before) (environment told after) → EndsWell end
  ends_well kept ran found nothing =
      let p = ran.plays in
      let memory : script_end (ended_by p.ending p.closing) p.faulted p.refusals ≢ NoMemory = λ is. found (p.end_is ∙ is) in
      subst EndsWell (sym p.end_is) (well_from (ended_by p.ending p.closing) p.faulted p.refusals
      (well_ended p.ending p.closing _ _ _ _ p.lines.counts nothing.source nothing.sink p.faulted p.refusals memory)
      (λ asks. none_faulted p.faulted _ _ _ _ _ _ nothing.run_files nothing.odb_files (p.fault asks)))

  pub console_wrote : (kept : Option (SessionRecord D g)) → RunsScript told before after end replies kept → WroteReplies (environment told before) (environment told after) end
  console_wrote kept ran =
      let p = ran.plays in
      let f = p.lines.finished in
      record {
        ending = p.ending;
        closing = p.closing;
        lines = f.lines;
        replies = f.replies;
        behind = f.behind;
        given = f.given;
        numbered = f.numbered;
        told_lines = f.told_lines;
        wrote_lines = lines_written WithdrawsLine (environment told before).sink.written f.told_lines f.replies f.between f.noted p.ending f.wrote_lines;
        wrote_behind = f.wrote_behind;
        refusals = p.refusals;
        counts = f.counts;
        faulted = p.faulted;
        end_is = p.end_is;
      }
