-- The counts and the records of a session that ended.
use Rattle.std.specs.Prelude.{◌≡◌, ◌⊎◌, ℕ, zero, suc, IsTrue, List, [], ◌∷◌, ◌++◌, length, slice_get, Contains, Option, Some, None, refl}
use Rattle.std.specs.List.{AllByRecursion}
use Rattle.std.proofs.Common.{ap, sym, subst, ◌∙◌, inl, inr}
use Rattle.daq_types.specs.Callers.{main_caller}
use Rattle.daq_types.specs.declared.runs.StartOutcome.{StartOutcome}
use Rattle.daq_types.specs.declared.runs.StartOutcome.TheVariants.{Completed, Refused}
use Rattle.daq_types.specs.declared.runs.Why.{Why}
use Rattle.daq_io.specs.Told.{FilesTold}
use Rattle.buffer_core.specs.Slots.{slot_at}
use Rattle.member_model.specs.RunEngines.{Sheet, EngineEntry}
use Rattle.odb_lock.specs.SharedOdbs.{first_database}
use Rattle.sub_files.specs.Patterns.{NamePattern, piece_name_by}
use Rattle.mid_logger.specs.declared.channel.Channel.{Channel}
use Rattle.loggers.specs.LoggerStands.{logger_channel, logger_channels}
use Rattle.loggers.specs.OtherFiles.{specs_in}
use Rattle.session_setup.specs.declared.declared.DeclaredLists.{DeclaredLists}
use Rattle.session_runs.specs.declared.records.RunRecord.{RunRecord}
use Rattle.session_runs.specs.FileRows.{HasFileNamed}
use Rattle.session_runs.specs.RunEntries.{start_sheet}
use Rattle.session_runs.specs.Members.{MembersCounted}
use Rattle.session_runs.specs.RunsFit.{MainOwn, FitsRun, FitsRefused, FitsWhole, RecordsFit, run_of, starts_begun}
use Rattle.daq_members.specs.LoggerSeats.{LoggerSeen}
use Rattle.session_objects.specs.declared.record.SessionRecord.{SessionRecord}
use Rattle.session_laws.specs.ClosedSessions.{ClosedSession, engine_calls, session_of}
use Rattle.session_laws.specs.EndLaws.{SessionHolds}
use Rattle.session_laws.specs.CountedFaults.{CountsHold, CountsTell}
use Rattle.session_laws.specs.RecordedRuns.{ChannelFilesHold, ListsChannel, clients_in, ChannelsAgree, RecordsHold}
use Rattle.session_laws.specs.OneAnswer.{OneAnswer, OneAnswerEach, RisesTold, RisesToldEach}
use Rattle.session_laws.specs.RefusedRecords.{RecordsRefused}
use Rattle.session_laws.specs.OtherNames.{RefusesStart, GivesNoName, GivesOthers, AreStartsOver, IsNameKept}
use Rattle.session_laws.specs.MadeRuns.{RunIn}
use Rattle.composition.specs.SessionRuns.{SessionRun}
use Rattle.session_laws.proofs.LoggerEnd.{GotAll}
use Rattle.session_laws.proofs.RecordedStarts.{RecordOf, all_at, record_of, refused_in, was_refused, whole}
use Rattle.session_laws.specs.EndedSessions.{session_with, SessionEnded}
use Rattle.session_laws.specs.EndedRecords.{clients_declared, RecordSo, RefusalSo, IsInNoRecord}
use Rattle.session_laws.proofs.EndsMet.{number, many_analyzers, logger_is, engine_by_main, EndsMet, ends_met}

-- each channel is among those of the contract
channel_listed : (slots : List (Option Channel)) (number : ℕ) (c : Channel) → slot_at slots number ≡ Some c → (index : ℕ) × (slice_get (logger_channels (λ n. 0) slots) index ≡ Some (logger_channel 0 c))
channel_listed [] number c at = absurd (cc (at))
channel_listed (None ∷ slots) zero c at = absurd (cc (at))
channel_listed (None ∷ slots) (suc n) c at = channel_listed slots n c at
channel_listed (Some x ∷ slots) zero c at = (let same : x ≡ c = cc (at) in (0, ap (λ (y : Channel). Some (logger_channel 0 y)) same))
channel_listed (Some x ∷ slots) (suc n) c at = (let later = channel_listed slots n c at in (suc later.0, later.1))

module _ {D F : Type 0} {g : _} (read : F → FilesTold) (lists : DeclaredLists) (logger : LoggerSeen F) (r : SessionRecord D g) (ended : SessionEnded read lists logger r) where
  abbrev closed : ClosedSession
  closed = session_with read (first_database ended.shared) lists logger r

  abbrev first : FilesTold
  first = read logger.first

  abbrev now : FilesTold
  now = read logger.files

  pub counts_met : GotAll → MembersCounted → CountsTell → CountsHold closed first now
  counts_met all counted tell = (let met : EndsMet read lists logger r ended = ends_met read lists logger r ended all counted in tell closed met.ends first now met.reasons met.names)

  -- those who are told of in the records are those that were declared
  same_clients : ChannelsAgree → clients_declared lists ≡ clients_in closed
  same_clients agree = λ i. record {
    fronts = sym (number read lists logger r ended) i;
    channels = sym (agree lists.channels logger.slots (logger_is read lists logger r ended).channels_are) i;
    analyzers = sym (many_analyzers read lists logger r ended) i;
  }

  -- The records fit the main thread's own calls up to some point.
  module _ (own : MainOwn) (more : List EngineEntry) (calls : ended.own ≡ own.engine ++ more) where
    by_main : engine_calls closed main_caller ≡ own.engine ++ more
    by_main = engine_by_main read lists logger r ended ∙ calls

    fit_at : ChannelsAgree → AllByRecursion (FitsRun (clients_declared lists) own) r.runs → (place : ℕ) → (kept : RunRecord) → slice_get r.runs place ≡ Some kept → FitsRun (clients_in closed) own kept
    fit_at agree all place kept at = rw (same_clients agree) at (all_at (FitsRun (clients_declared lists) own) r.runs all place kept at)

    pub record_met : ChannelsAgree → RecordsHold → (holds : SessionHolds closed) → AllByRecursion (FitsRun (clients_declared lists) own) r.runs → (place : ℕ) → (kept : RunRecord) → slice_get r.runs place ≡ Some kept → kept.outcome ≡ Completed
        → RecordSo closed holds.moments own kept
    record_met agree hold holds all place kept at done =
        let fit : FitsRun (clients_in closed) own kept = fit_at agree all place kept at in
        let fits : FitsWhole (clients_in closed) own (run_of kept fit.0) kept = whole (clients_in closed) own (run_of kept fit.0) kept kept.outcome done fit.1 in
        record { quota = fit.0; fits = fits; holds = hold closed holds own more by_main kept fit.0 fits }

    pub refusal_met : ChannelsAgree → RecordsRefused → CountsHold closed first now → AllByRecursion (FitsRun (clients_declared lists) own) r.runs → (place : ℕ) → (kept : RunRecord) → slice_get r.runs place ≡ Some kept
        → (client : ℕ) → (why : Why) → kept.outcome ≡ Refused client why → RefusalSo closed first now own kept client why
    refusal_met agree refused counts all place kept at client why is =
        let fit : FitsRun (clients_in closed) own kept = fit_at agree all place kept at in
        let fits : FitsRefused (clients_in closed) own (run_of kept fit.0) kept = was_refused (clients_in closed) own (run_of kept fit.0) kept client why kept.outcome is fit.1 in
        record { quota = fit.0; fits = fits; so = refused closed first now counts own more by_main kept fit.0 client why is fits }

    pub one_met : GotAll → MembersCounted → ChannelsAgree → OneAnswerEach → RecordsFit (clients_declared lists) own r.runs → OneAnswer r.runs first now
    one_met all counted agree each fits =
        let met : EndsMet read lists logger r ended = ends_met read lists logger r ended all counted in
        each closed met.ends first now met.reasons met.names own more by_main r.runs (rw (same_clients agree) at fits)

    pub rises_met : GotAll → MembersCounted → ChannelsAgree → RisesToldEach → starts_begun more ≡ [] → RecordsFit (clients_declared lists) own r.runs → RisesTold (specs_in logger.slots) r.runs first now
    rises_met all counted agree each none fits =
        let met : EndsMet read lists logger r ended = ends_met read lists logger r ended all counted in
        each closed met.ends first now met.reasons met.names own more by_main none r.runs (rw (same_clients agree) at fits)

    -- There is one record for each start that the main thread began, and each of a run that came about holds.
    module _ (none : starts_begun more ≡ []) (fits : RecordsFit (clients_declared lists) own r.runs) (holds : SessionHolds closed)
        (so : (place : ℕ) (kept : RunRecord) → slice_get r.runs place ≡ Some kept → kept.outcome ≡ Completed → RecordSo closed holds.moments own kept) where
      -- a start was refused, or its record holds what it has of the run
      over_at : (kept : RunRecord) (o : StartOutcome) → kept.outcome ≡ o → FitsRun (clients_declared lists) own kept → (kept.outcome ≡ Completed → RecordSo closed holds.moments own kept)
          → RefusesStart (engine_calls closed main_caller) kept.start ⊎ RecordSo closed holds.moments own kept
      over_at kept Completed is fit so = inr (so is)
      over_at kept (Refused client why) is fit so =
          let start = (was_refused (clients_declared lists) own (run_of kept fit.0) kept client why kept.outcome is fit.1).start in
          inl (record {
            sheet = start_sheet (length lists.analyzers) kept.run kept.time0 fit.0 start.dump;
            client = client;
            why = why;
            tallies = start.tallies;
            made = refused_in (clients_declared lists) own more (engine_calls closed main_caller) by_main kept fit.0 client why is start;
          })

      abbrev OfStart : (start : ℕ) → Type 0
      OfStart start = (kept : RecordOf (clients_declared lists) own more (engine_calls closed main_caller) by_main r.runs start) × (RefusesStart (engine_calls closed main_caller) start ⊎ RecordSo closed holds.moments own kept.kept)

      of_start : (start : ℕ) → Contains (starts_begun (engine_calls closed main_caller)) start → OfStart start
      of_start start among =
          let o = record_of (clients_declared lists) own more (engine_calls closed main_caller) by_main r.runs none fits start among in
          (o, subst (λ (n : ℕ). RefusesStart (engine_calls closed main_caller) n ⊎ RecordSo closed holds.moments own o.kept) o.is (over_at o.kept o.kept.outcome refl o.fit (so o.place o.kept o.at)))

      -- each start is over
      pub starts_met : AreStartsOver (engine_calls closed main_caller)
      starts_met start among =
          let o = of_start start among in
          elim o.1 as (λ w. RefusesStart (engine_calls closed main_caller) start ⊎ ((run : SessionRun) × RunIn (engine_calls closed main_caller) run × (run.start ≡ start))) [
            | inl refused ↦ inl refused
            | inr so_far ↦ inr (so_far.holds.run, so_far.holds.made, so_far.holds.start ∙ o.0.is)
          ]

      -- no file of the channel has the name, where no file of the run's record has it
      gives_others : (kept : RunRecord) (kept_so : RecordSo closed holds.moments own kept) (name : List ℕ) → (HasFileNamed kept.run kept.files name → ⊥) → (number : ℕ) (channel : Channel) → slot_at logger.slots number ≡ Some channel → GivesOthers closed kept_so.holds.run channel name
      gives_others kept kept_so name never number channel there =
          let listed = channel_listed logger.slots number channel there in
          let here : ListsChannel kept (logger_channel 0 channel) = kept_so.holds.each_channel listed.0 (logger_channel 0 channel) listed.1 in
          let has : ChannelFilesHold (session_of closed holds.moments) kept_so.holds.run here.files = kept_so.holds.files here.place here.files here.at in
          let told = has.told in
          let run : kept_so.holds.run.first.run ≡ kept.run = ap (λ (s : Sheet). s.run) kept_so.holds.first_is in
          record {
            told = here.files.told;
            tells = record { index = told.index; ends = told.ends; tells = told.tells; at = subst (λ (n : ℕ). slice_get told.ends n ≡ Some here.files.told) (sym has.number ∙ here.number) told.at };
            others = λ sub less is. never (record {
              place = here.place;
              of = here.files;
              at = here.at;
              number = sub;
              made = less;
              is = ap (λ (p : NamePattern). piece_name_by p kept.run sub) here.pattern ∙ (ap (λ (n : ℕ). piece_name_by channel.spec.pattern n sub) (sym run) ∙ is);
            });
          }

      pub names_met : CountsHold closed first now → IsTrue first.seen.names → (name : List ℕ) → IsInNoRecord r.runs name → IsNameKept closed first now name
      names_met counts tells name unlisted =
          counts.names tells name (λ start among. (let o = of_start start among in
          elim o.1 as (λ w. RefusesStart (engine_calls closed main_caller) start ⊎ GivesNoName closed name start) [
            | inl refused ↦ inl refused
            | inr so_far ↦ inr (record {
              run = so_far.holds.run;
              made = so_far.holds.made;
              of = so_far.holds.start ∙ o.0.is;
              each = gives_others o.0.kept so_far name (unlisted o.0.place o.0.kept o.0.at);
            })
          ]))
