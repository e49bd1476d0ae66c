-- What `analyze` prints of the run files of a channel is the report of an analyzer that asked for the same events.
use Rattle.daq_io.specs.Told.{FilesTold}
use Rattle.std.proofs.Common.{◌≡◌, ◌∙◌, ℕ, ◌<◌, ◌^◌, List, [], All, Some, ap, sym, subst, get_or}
use Rattle.std.specs.Prelude.{IsTrue, slice_get, suc, length, ◌==◌, if◌then◌else◌}
use Rattle.std.proofs.lemmas.List.Elements.{All-map, All-filter, All-contains}
use Rattle.std.proofs.lemmas.Option.{slice_get-get_or, slice_get_within, get_or_from_slice_get}
use Rattle.daq_types.specs.declared.events.Event.{Event}
use Rattle.daq_types.specs.declared.runs.RunState.TheVariants.{Stopped}
use Rattle.daq_io.specs.Seen.{IsStored}
use Rattle.event.specs.Events.{matches}
use Rattle.turn_lock.specs.Closing.{history_of}
use Rattle.buffer_core.specs.Readers.{wanted}
use Rattle.buffer_core.specs.Runs.{segment}
use Rattle.buffer_core.specs.Window.{Sent}
use Rattle.history_laws.specs.OneCaller.{events_in}
use Rattle.event_report.specs.Reports.{Totals, report_of}
use Rattle.transitions.specs.EngineCalls.{order_for}
use Rattle.frontend_kit.specs.declared.generator.Generator.{Generator}
use Rattle.mid_logger.specs.declared.channel_spec.ChannelSpec.{ChannelSpec}
use Rattle.odb_runinfo.specs.RunSets.{have_of}
use Rattle.session_runs.specs.declared.records.ChannelFiles.{ChannelFiles}
use Rattle.sub_files.specs.Cuts.{events_of_pieces}
use Rattle.sub_files.specs.Patterns.{piece_name_by}
use Rattle.session_runs.specs.declared.records.RunRecord.{RunRecord}
use Rattle.daq_members.specs.Members.{MemberTold}
use Rattle.session_runs.specs.RunEntries.{start_sheet}
use Rattle.session_runs.specs.RunsFit.{MainOwn}
use Rattle.session_setup.specs.Setup.{AreSound, Declared, is_front_id}
use Rattle.session_setup.specs.declared.declared.FrontDeclared.{FrontDeclared}
use Rattle.session_objects.specs.Members.{generator_of}
use Rattle.session_objects.specs.declared.record.BufferRecord.{BufferRecord}
use Rattle.session_objects.specs.declared.record.SessionRecord.{SessionRecord}
use Rattle.session_laws.specs.ClosedSessions.{ClosedSession}
use Rattle.daq_session.specs.ToldRecords.{AreFilesOfRun, IsFrontEvent, RunTells, events_of_run}
use Rattle.read_back.specs.FilesBack.{FilesReadBack, PrintsReport, AreClosedFiles, piece_names}
use Rattle.read_back.specs.ReportsBack.{HasFilesAndReport, ReportsReadBack, SessionReadsBack, names_in_run}
use Rattle.read_back.proofs.Alike.{one_channel, made_id, id_small, run_small}

abbrev HasShortId : Event → Type 0
HasShortId e = e.id < 2 ^ 16

one_buffer : (a b : BufferRecord) → Some a ≡ Some b → a ≡ b
one_buffer a b same = cc

module _ (c : ClosedSession) (moments : (client : ℕ) → List ℕ) (own : MainOwn) (declared : Declared) (buffers : List BufferRecord) (first now : FilesTold) (run : RunRecord)
    (sound : AreSound declared) (tells : RunTells c moments own declared buffers first now run) where
  front_small : (front : FrontDeclared) (client : ℕ) → slice_get declared.fronts client ≡ Some front → front.id < 2 ^ 16
  front_small front client at =
      id_small front.id (All-contains (λ (f : FrontDeclared). IsTrue (is_front_id f.id)) declared.fronts front sound.front_ids
      (client, slice_get_within declared.fronts client front at, get_or_from_slice_get declared.fronts client front front at))

  -- the events of the run are those of front-ends, whose ids are small
  event_small : (buffer : ℕ) (b : BufferRecord) (index : ℕ) (at : ℕ × Sent) → slice_get buffers buffer ≡ Some b → slice_get (segment (history_of b.closed) run.start) index ≡ Some at → HasShortId at.1.event
  event_small buffer b index at there stands =
      let of : IsFrontEvent declared run tells.so.quota tells.so.fits.start.dump buffer at.1.event = tells.events buffer index at.0 b at.1 there stands in
      let same : at.1.event.id ≡ of.front.id = made_id (generator_of of.front) (order_for (start_sheet 0 run.run run.time0 tells.so.quota tells.so.fits.start.dump) run.start Stopped) of.tally.sent at.1.event of.made in
      subst (λ (n : ℕ). n < 2 ^ 16) (sym same) (front_small of.front of.client of.there)

  all_small : (channel : ChannelSpec) (b : BufferRecord) → slice_get buffers channel.buffer ≡ Some b → All HasShortId (events_of_run channel b run.start)
  all_small channel b there =
      let whole : List (ℕ × Sent) = segment (history_of b.closed) run.start in
      All-map HasShortId (λ (at : ℕ × Sent). at.1.event) (wanted channel.id channel.mask whole)
      (All-filter (λ (at : ℕ × Sent). matches channel.id channel.mask at.1.event) (λ (at : ℕ × Sent). HasShortId at.1.event) whole
      (λ k d inside. event_small channel.buffer b k (get_or whole k d) there (slice_get-get_or whole k d inside)))

  module _ (back : FilesReadBack) (written : ChannelFiles) (report : Totals) (has : HasFilesAndReport declared buffers c.engine run written report) where
    last : (dump : List ℕ) × AreFilesOfRun declared buffers c.files run tells.so.fits.start.dump dump written
    last = let its = tells.files has.index written has.files_at has.ended in (its.0, its.2)

    abbrev its_files : AreFilesOfRun declared buffers c.files run tells.so.fits.start.dump last.0 written
    its_files = last.1

    abbrev its_events : List Event
    its_events = events_of_run its_files.of.channel its_files.of.buffer run.start

    its_channel : its_files.of.channel ≡ has.channel
    its_channel = one_channel declared.channels its_files.of.channel has.channel sound.numbers_differ its_files.of.is_declared has.is_declared (sym its_files.of.number ∙ has.number)

    -- the report counted the events of the files
    same_events : has.counted.counts.told.events ≡ its_events
    same_events =
        let asked = has.analyzer in
        let at_buffer : its_files.of.channel.buffer ≡ asked.buffer = ap (λ (s : ChannelSpec). s.buffer) its_channel ∙ has.alike.buffer in
        let id : its_files.of.channel.id ≡ asked.id = ap (λ (s : ChannelSpec). s.id) its_channel ∙ has.alike.id in
        let mask : its_files.of.channel.mask ≡ asked.mask = ap (λ (s : ChannelSpec). s.mask) its_channel ∙ has.alike.mask in
        let one : has.counted.buffer ≡ its_files.of.buffer =
        one_buffer has.counted.buffer its_files.of.buffer (sym has.counted.there ∙ ap (slice_get buffers) (sym at_buffer) ∙ its_files.of.there) in
        (has.counted.counts.whole has.through).counted
        ∙ ap (λ (b : BufferRecord). events_in (wanted asked.id asked.mask (segment (history_of b.closed) run.start))) one
        ∙ ap (λ (i : ℕ). events_in (wanted i asked.mask (segment (history_of its_files.of.buffer.closed) run.start))) (sym id)
        ∙ ap (λ (m : ℕ). events_in (wanted its_files.of.channel.id m (segment (history_of its_files.of.buffer.closed) run.start))) (sym mask)

    same_report : report_of its_events ≡ report
    same_report = ap report_of (sym same_events) ∙ sym has.counted.counts.told.report_is ∙ has.report_is

    -- each file is closed and holds its piece
    are_closed : AreClosedFiles c.files written.pattern run.run its_files.pieces
    are_closed number piece at =
        let file = its_files.each number piece at in
        record {
          time0 = run.time0;
          dump0 = tells.so.fits.start.dump;
          time1 = if suc number == written.told.files then run.time1 else run.time0;
          dump1 = if suc number == written.told.files then last.0 else [];
          begins_small = file.are.begins_small;
          ends_small = file.are.ends_small;
          fine = file.are.fine;
          stored = subst (λ (bytes : List ℕ). IsStored c.files (piece_name_by written.pattern run.run number) bytes) file.are.is_file file.stored;
        }

    prints_report : PrintsReport c.files (names_in_run run written) run.run report
    prints_report =
        let small : run.run < 2 ^ 32 = run_small (have_of tells.so.fits.start.are.got) run.run tells.so.fits.start.are.number in
        let short : All HasShortId (events_of_pieces its_files.pieces) = subst (λ (es : List Event). All HasShortId es) (sym its_files.cut.joins) (all_small its_files.of.channel its_files.of.buffer its_files.of.there) in
        let of_pieces = back c.files written.pattern run.run its_files.pieces its_files.cut.some are_closed small short in
        subst (λ (n : ℕ). PrintsReport c.files (piece_names written.pattern run.run 0 n) run.run report) its_files.many
        (subst (λ (t : Totals). PrintsReport c.files (piece_names written.pattern run.run 0 (length its_files.pieces)) run.run t) (ap report_of its_files.cut.joins ∙ same_report) of_pieces)

pub reports_back : FilesReadBack → ReportsReadBack
reports_back back = λ c moments own declared buffers first now run sound tells written report has. prints_report c moments own declared buffers first now run sound tells back written report has

pub session_back : {D F : Type 0} {g : _} (told : MemberTold Generator F) (r : SessionRecord D g) → ReportsReadBack → SessionReadsBack told r
session_back told r back = λ first_files final run_files kept number run at came written report has.
    back _ kept.tells.holds.moments _ final.declared r.buffers (told.read first_files) (told.read run_files) run kept.sound (kept.tells.runs number run at came) written report has
