-- What the record of a run tells of its files, its front-ends and its analyzers.
use Rattle.daq_io.specs.Told.{FilesTold}
use Rattle.std.specs.Prelude.{◌≡◌, ℕ, zero, suc, ◌+◌, ◌-◌, ◌<◌, ◌==◌, ◌⊎◌, ℤ, pos, negsuc, Bool, true, false, if◌then◌else◌, nat_lt, List, [], ◌∷◌, ◌++◌, length, map, slice_get, unwrap_or, IsTrue, IsSome, Contains, Option, Some, None, Result, Ok, Err, refl}
use Rattle.std.specs.List.{AllByRecursion}
use Rattle.std.specs.Option.{option_map}
use Rattle.std.proofs.Common.{ap, sym, subst, ◌∙◌, arith}
use Rattle.std.proofs.lemmas.List.{length-map}
use Rattle.std.proofs.lemmas.List.Elements.{All-contains}
use Rattle.std.proofs.lemmas.Option.{slice_get-map, slice_get_within, get_or_from_slice_get}
use Rattle.daq_types.specs.Callers.{caller_of_client, entries_by}
use Rattle.daq_types.specs.declared.events.Event.{Event}
use Rattle.daq_types.specs.declared.runs.ChannelState.{ChannelState}
use Rattle.daq_types.specs.declared.runs.ChannelState.TheVariants.{Broken, Ended}
use Rattle.daq_types.specs.declared.runs.RunState.TheVariants.{Stopped}
use Rattle.daq_io.specs.Seen.{IsStored}
use Rattle.event.specs.Events.{encoding}
use Rattle.event.specs.RunFile.{IsRunFile, end_record}
use Rattle.sub_files.specs.declared.open_file.Fallen.{Fallen}
use Rattle.sub_files.specs.Cuts.{IsCut}
use Rattle.sub_files.specs.Patterns.{NamePattern, piece_name_by}
use Rattle.sub_files.specs.Pieces.{HasPart, series_of}
use Rattle.sub_files.specs.Rolls.{fallen_at}
use Rattle.turn_lock.specs.Closing.{history_of}
use Rattle.buffer_core.specs.declared.entry.BufferEntry.{BufferEntry}
use Rattle.buffer_core.specs.Window.{Sent, opening}
use Rattle.buffer_core.specs.Histories.{History}
use Rattle.buffer_core.specs.Readers.{wanted}
use Rattle.buffer_core.specs.Runs.{segment}
use Rattle.buffer_core.specs.Slots.{slot_at}
use Rattle.buffer_core.specs.CallersView.{given_in}
use Rattle.history_laws.specs.CallerLaws.{IsSendOf, SendIsAmong}
use Rattle.history_laws.specs.OneCaller.{events_in}
use Rattle.history_laws.specs.SentRuns.{events_at_places, places_sent}
use Rattle.transitions.specs.EngineCalls.{order_for}
use Rattle.member_model.specs.RunEngines.{Sheet}
use Rattle.odb_value.specs.Values.{HeldValue}
use Rattle.odb_value.specs.declared.items.Item.{Item}
use Rattle.odb_value.specs.declared.items.Item.TheVariants.{Int32}
use Rattle.odb_tree.specs.declared.refusals.OdbRefusal.{OdbRefusal}
use Rattle.odb_watch.specs.declared.entry.WatchEntry.{WatchEntry}
use Rattle.odb_watch.specs.declared.entry.WatchEntry.TheVariants as call
use Rattle.odb_runinfo.specs.declared.sets.RunNumber.{RunNumber as NoNext}
use Rattle.odb_runinfo.specs.RunSets.{have_of, next_run, number_asked, number_in}
use Rattle.member_model.specs.SentCalls.{own_sent}
use Rattle.member_model.specs.Turns.{MemberTurn}
use Rattle.member_model.specs.TurnCalls.{member_turns}
use Rattle.member_model.specs.LoggerKept.{LoggerChannel, AreFramedSo}
use Rattle.front_ends.specs.FrontKept.{made_events}
use Rattle.mid_logger.specs.declared.channel.Channel.{Channel}
use Rattle.mid_logger.specs.declared.channel_spec.ChannelSpec.{ChannelSpec}
use Rattle.loggers.specs.LeftNames.{NoneRose}
use Rattle.loggers.specs.LoggerStands.{logger_channel, logger_channels}
use Rattle.loggers.specs.OtherFiles.{AreDeclared, specs_in}
use Rattle.session_runs.specs.declared.records.ChannelFiles.{ChannelFiles}
use Rattle.session_runs.specs.declared.records.FrontTally.{FrontTally}
use Rattle.session_runs.specs.declared.records.ReportTally.{ReportTally}
use Rattle.session_runs.specs.declared.records.RunRecord.{RunRecord}
use Rattle.composition.specs.Sessions.{HasFront, Session, SessionFront}
use Rattle.composition.specs.CompositionLaws.{IsComposed}
use Rattle.composition.specs.SessionRuns.{HoldsFileParts, HoldsPiece, HoldsRunFiles, IsOfFront, SessionRun, file_name}
use Rattle.session_runs.specs.RunEntries.{dump_saved, later_sheet, start_sheet}
use Rattle.session_runs.specs.RunsFit.{MainOwn, run_of}
use Rattle.session_setup.specs.Setup.{AreSound, Declared}
use Rattle.session_setup.specs.declared.declared.AnalyzerDeclared.{AnalyzerDeclared}
use Rattle.session_setup.specs.declared.declared.FrontDeclared.{FrontDeclared}
use Rattle.session_objects.specs.declared.record.BufferRecord.{BufferRecord}
use Rattle.session_objects.specs.Members.{generator_makes, generator_of, request_of}
use Rattle.session_laws.specs.ClosedSessions.{ClosedAnalyzer, ClosedFront, ClosedSession, analyzer_client, engine_calls, history_in, history_of_buffer, session_analyzer, session_front, session_of, size_in, size_of_buffer}
use Rattle.session_laws.specs.CountedFaults.{CountsHold, state_by_dump}
use Rattle.session_laws.specs.EndLaws.{MembersListed}
use Rattle.session_laws.specs.MadeRuns.{AreFilesSo, ReportHolds}
use Rattle.session_laws.specs.RecordedRuns.{ChannelFilesHold, FrontRecordHolds, ReportRecordHolds}
use Rattle.session_laws.specs.EndedRecords.{RecordSo}
use Rattle.session_laws.specs.EndedSessions.{closed_analyzer, closed_buffer, closed_front}
use Rattle.daq_session.specs.RunNumbers.{GivesNumber, IsNumberBefore}
use Rattle.daq_session.specs.ToldRecords.{IsCountedInRun, AreOfChannel, ArePartsOfRun, AreFilesOfRun, IsFileOfPiece, IsFrontEvent, IsSentInRun, RunTells, events_of_front, events_of_run}

pub there : {X : Type 0} (xs : List X) (n : ℕ) → n < length xs → (x : X) × (slice_get xs n ≡ Some x)
there [] n within = absurd (omega arith)
there (x ∷ xs) zero within = (x, refl)
there (x ∷ xs) (suc n) within = there xs n (omega arith)

-- A channel of the logger that is listed stands in a slot.
pub record FromSlot (absent : ℕ → ℕ) (slots : List (Option Channel)) (channel : LoggerChannel) : Type 0 where
  pub number : ℕ
  pub slot : Channel
  pub at : slot_at slots number ≡ Some slot
  pub is : logger_channel (absent slot.spec.number) slot ≡ channel

next_slot : (absent : ℕ → ℕ) (first : Option Channel) (slots : List (Option Channel)) (channel : LoggerChannel) → FromSlot absent slots channel → FromSlot absent (first ∷ slots) channel
next_slot absent first slots channel f = record { number = suc f.number; slot = f.slot; at = f.at; is = f.is }

from_slot : (absent : ℕ → ℕ) (slots : List (Option Channel)) (index : ℕ) (channel : LoggerChannel) → slice_get (logger_channels absent slots) index ≡ Some channel → FromSlot absent slots channel
from_slot absent [] index channel at = absurd (cc at)
from_slot absent (None ∷ slots) index channel at = next_slot absent None slots channel (from_slot absent slots index channel at)
from_slot absent (Some c ∷ slots) zero channel at = record { number = 0; slot = c; at = refl; is = cc at }
from_slot absent (Some c ∷ slots) (suc index) channel at = next_slot absent (Some c) slots channel (from_slot absent slots index channel at)

at_map : {X Y : Type 0} (f : X → Y) (slots : List (Option X)) (n : ℕ) → slot_at (map (option_map f) slots) n ≡ option_map f (slot_at slots n)
at_map f [] n = refl
at_map f (x ∷ slots) zero = refl
at_map f (x ∷ slots) (suc n) = at_map f slots n

abbrev spec_of : Channel → ChannelSpec
spec_of c = c.spec

pub spec_at : (slots : List (Option Channel)) (n : ℕ) (c : Channel) → slot_at slots n ≡ Some c → slot_at (specs_in slots) n ≡ Some c.spec
spec_at slots n c at = at_map spec_of slots n ∙ ap (option_map spec_of) at

pub mapped : {X Y : Type 0} (f : X → Y) (xs : List X) (n : ℕ) (y : Y) → slice_get (map f xs) n ≡ Some y → (x : X) × (slice_get xs n ≡ Some x) × (f x ≡ y)
mapped f [] n y at = absurd (cc at)
mapped f (x ∷ xs) zero y at = (x, refl, cc at)
mapped f (x ∷ xs) (suc n) y at = mapped f xs n y at

-- The history of a buffer of the record.
pub history_there : (buffers : List BufferRecord) (n : ℕ) (b : BufferRecord) → slice_get buffers n ≡ Some b → history_in (slice_get (map closed_buffer buffers) n) ≡ history_of b.closed
history_there buffers n b at = ap history_in (slice_get-map closed_buffer buffers n ∙ ap (option_map closed_buffer) at)

size_there : (buffers : List BufferRecord) (n : ℕ) (b : BufferRecord) → slice_get buffers n ≡ Some b → size_in (slice_get (map closed_buffer buffers) n) ≡ b.size
size_there buffers n b at = ap size_in (slice_get-map closed_buffer buffers n ∙ ap (option_map closed_buffer) at)

-- The run number before.

pub all_first : (P : WatchEntry → Type 0) (one other : List WatchEntry) → AllByRecursion P (one ++ other) → AllByRecursion P one
all_first P [] other all = tt
all_first P (e ∷ one) other all = (all.0, all_first P one other all.1)

pub all_behind : (P : WatchEntry → Type 0) (one other : List WatchEntry) → AllByRecursion P (one ++ other) → AllByRecursion P other
all_behind P [] other all = all
all_behind P (e ∷ one) other all = all_behind P one other all.1

picked : (b : Bool) (n run : ℕ) (why : NoNext) → (if b then Ok (n + 1) else Err why) ≡ Ok run → n + 1 ≡ run
picked true n run why is = cc is
picked false n run why is = absurd (cc is)

before_next : (have : ℤ) (run : ℕ) → next_run have ≡ Ok run → have ≡ pos (run - 1)
before_next (pos n) run is =
    let next : n + 1 ≡ run = picked (nat_lt n 2147483647) n run (record { have = pos n }) is in
    ap pos (omega (arith, next))
before_next (negsuc n) run is = absurd (cc is)

module _ (c : ClosedSession) (declared : Declared) (buffers : List BufferRecord) (sound : AreSound declared) (many : length buffers ≡ length declared.buffers)
    (same_buffers : c.buffers ≡ map closed_buffer buffers) (same_fronts : c.fronts ≡ map closed_front declared.fronts) (same_analyzers : c.analyzers ≡ map closed_analyzer declared.analyzers) (channels : AreDeclared declared.channels c.slots)
    (moments : (client : ℕ) → List ℕ) (own : MainOwn) (given : AllByRecursion GivesNumber own.database) (first now : FilesTold) (counts : CountsHold c first now) (composed : IsComposed (session_of c moments)) (listed : MembersListed) (among : SendIsAmong) (run : RunRecord) (so : RecordSo c moments own run) where
  abbrev session : Session
  session = session_of c moments

  abbrev first_sheet : Sheet
  first_sheet = start_sheet (length c.analyzers) run.run run.time0 so.quota so.fits.start.dump

  abbrev last_sheet : Sheet
  last_sheet = later_sheet (run_of run so.quota) run.time1 (dump_saved so.fits.stop.saved)

  buffer_at : (n : ℕ) → n < length declared.buffers → (b : BufferRecord) × (slice_get buffers n ≡ Some b)
  buffer_at n within = there buffers n (omega (arith, within, many))

  its_history : (n : ℕ) (b : BufferRecord) → slice_get buffers n ≡ Some b → history_of_buffer c n ≡ history_of b.closed
  its_history n b at = subst (λ (l : List _). history_in (slice_get l n) ≡ history_of b.closed) (sym same_buffers) (history_there buffers n b at)

  its_size : (n : ℕ) (b : BufferRecord) → slice_get buffers n ≡ Some b → size_of_buffer c n ≡ b.size
  its_size n b at = subst (λ (l : List _). size_in (slice_get l n) ≡ b.size) (sym same_buffers) (size_there buffers n b at)

  -- the channel of the record's files
  record AtChannel (written : ChannelFiles) (f : ChannelFilesHold session so.holds.run written) : Type 0 where
    slot : Channel
    is : logger_channel 0 slot ≡ f.channel
    is_declared : Contains declared.channels slot.spec
    buffer : BufferRecord
    there : slice_get buffers slot.spec.buffer ≡ Some buffer

  at_channel : (written : ChannelFiles) (f : ChannelFilesHold session so.holds.run written) → AtChannel written f
  at_channel written f =
      let slot : FromSlot (λ number. 0) c.slots f.channel = from_slot (λ number. 0) c.slots f.index f.channel f.at in
      let spec : ChannelSpec = slot.slot.spec in
      let has = channels.each slot.number spec (spec_at c.slots slot.number slot.slot slot.at) in
      let within : spec.buffer < length declared.buffers = All-contains (λ (s : ChannelSpec). s.buffer < length declared.buffers) declared.channels spec sound.channel_buffers has.0 in
      let b = buffer_at spec.buffer within in
      record { slot = slot.slot; is = slot.is; is_declared = has.0; buffer = b.0; there = b.1 }

  its_pattern : (written : ChannelFiles) (f : ChannelFilesHold session so.holds.run written) (a : AtChannel written f) → written.pattern ≡ a.slot.spec.pattern
  its_pattern written f a = f.pattern ∙ ap (λ (k : LoggerChannel). k.pattern) (sym a.is)

  -- the name of the file of this number, by the record and by the session
  its_name : (written : ChannelFiles) (f : ChannelFilesHold session so.holds.run written) (a : AtChannel written f) (number : ℕ) → file_name so.holds.run (logger_channel 0 a.slot) number ≡ piece_name_by written.pattern run.run number
  its_name written f a number =
      ap (λ (s : Sheet). piece_name_by a.slot.spec.pattern s.run number) so.holds.first_is
      ∙ ap (λ (p : NamePattern). piece_name_by p run.run number) (sym (its_pattern written f a))

  abbrev of_channel : (written : ChannelFiles) (f : ChannelFilesHold session so.holds.run written) → AtChannel written f → AreOfChannel declared buffers written
  of_channel written f a = record {
    channel = a.slot.spec;
    is_declared = a.is_declared;
    number = f.number ∙ ap (λ (k : LoggerChannel). k.number) (sym a.is);
    pattern = its_pattern written f a;
    buffer = a.buffer;
    there = a.there;
  }

  -- what holds of the sheets and of the history of the channel's buffer, as the record has them
  read_so : (P : (first last : Sheet) → (start : ℕ) → History → Type 0) (n : ℕ) (b : BufferRecord) → slice_get buffers n ≡ Some b
      → P so.holds.run.first so.holds.run.last so.holds.run.start (history_of_buffer c n) → P first_sheet last_sheet run.start (history_of b.closed)
  read_so P n b at holds =
      subst (λ (h : History). P first_sheet last_sheet run.start h) (its_history n b at)
      (subst (λ (start : ℕ). P first_sheet last_sheet start (history_of_buffer c n)) so.holds.start
      (subst (λ (s : Sheet). P first_sheet s so.holds.run.start (history_of_buffer c n)) so.holds.last_is
      (subst (λ (s : Sheet). P s so.holds.run.last so.holds.run.start (history_of_buffer c n)) so.holds.first_is holds)))

  -- the file of a piece
  piece_tells : (written : ChannelFiles) (f : ChannelFilesHold session so.holds.run written) (a : AtChannel written f) (last_dump : List ℕ) (number : ℕ) (piece : List Event) → HoldsPiece session so.holds.run (logger_channel 0 a.slot) last_dump written.told.files number piece
      → IsFileOfPiece c.files run so.fits.start.dump last_dump written number piece
  piece_tells written f a last_dump number piece p =
      let is_the_last : Bool = suc number == written.told.files in
      record {
        bytes = p.bytes;
        are = read_so
            (λ first last start h. IsRunFile p.bytes first.run first.time (unwrap_or first.dump []) piece (if is_the_last then last.time else first.time) (if is_the_last then last_dump else []))
            a.slot.spec.buffer a.buffer a.there p.is;
        stored = subst (λ (n : List ℕ). IsStored c.files n p.bytes) (its_name written f a number) p.stored;
      }

  whole_tells : (written : ChannelFiles) (f : ChannelFilesHold session so.holds.run written) → written.told.state ≡ Ended → HoldsRunFiles session so.holds.run f.channel written.told.files
      → (last_dump : List ℕ) × (dump_saved so.fits.stop.saved ≡ Some last_dump) × AreFilesOfRun declared buffers c.files run so.fits.start.dump last_dump written
  whole_tells written f ended h =
      let a : AtChannel written f = at_channel written f in
      let spec : ChannelSpec = a.slot.spec in
      let many : ℕ = written.told.files in
      let holds : HoldsRunFiles session so.holds.run (logger_channel 0 a.slot) many = subst (λ (k : LoggerChannel). HoldsRunFiles session so.holds.run k many) (sym a.is) h in (
        holds.last_dump,
        sym (ap (λ (s : Sheet). s.dump) so.holds.last_is) ∙ holds.has_dump,
        record {
          of = of_channel written f a;
          pieces = holds.pieces;
          many = holds.each;
          few = holds.few;
          framed = subst (λ (state : ChannelState). AreFramedSo state many written.told.framed) ended f.so.framed;
          taken = holds.taken;
          beyond = subst (λ (n : List ℕ). IsTrue holds.taken → IsTrue c.files.names → IsSome (c.files.at n)) (its_name written f a many) holds.beyond;
          cut = read_so
              (λ first last start h. IsCut spec.sub_bytes (16 + length (unwrap_or first.dump [])) (events_in (wanted spec.id spec.mask (segment h start))) holds.taken holds.pieces)
              spec.buffer a.buffer a.there holds.cut;
          each = λ number piece at. piece_tells written f a holds.last_dump number piece (holds.files number piece at);
        },
      )

  files_tell : (place : ℕ) (written : ChannelFiles) → slice_get run.files place ≡ Some written → written.told.state ≡ Ended
      → (last_dump : List ℕ) × (dump_saved so.fits.stop.saved ≡ Some last_dump) × AreFilesOfRun declared buffers c.files run so.fits.start.dump last_dump written
  files_tell place written at ended =
      let f : ChannelFilesHold session so.holds.run written = so.holds.files place written at in
      whole_tells written f ended (subst (λ (state : ChannelState). AreFilesSo state session so.holds.run f.channel written.told) ended f.have)

  parts_tell : (place : ℕ) (written : ChannelFiles) → slice_get run.files place ≡ Some written → written.told.state ≡ Broken → (last_dump : List ℕ) → dump_saved so.fits.stop.saved ≡ Some last_dump
      → ArePartsOfRun declared buffers c.files run so.fits.start.dump last_dump written
  parts_tell place written at broken last_dump saved =
      let f : ChannelFilesHold session so.holds.run written = so.holds.files place written at in
      let a : AtChannel written f = at_channel written f in
      let spec : ChannelSpec = a.slot.spec in
      let fallen : Fallen = fallen_at written.told.files written.told.framed in
      let has : AreFilesSo Broken session so.holds.run f.channel written.told = subst (λ (state : ChannelState). AreFilesSo state session so.holds.run f.channel written.told) broken f.have in
      let parts : HoldsFileParts session so.holds.run f.channel last_dump written.told = has last_dump (ap (λ (s : Sheet). s.dump) so.holds.last_is ∙ saved) in
      let holds : HoldsFileParts session so.holds.run (logger_channel 0 a.slot) last_dump written.told = subst (λ (k : LoggerChannel). HoldsFileParts session so.holds.run k last_dump written.told) (sym a.is) parts in
      record {
        of = of_channel written f a;
        last = holds.last;
        last_is = read_so (λ first last start h. (holds.last ≡ []) ⊎ (holds.last ≡ encoding (end_record first.run last.time last_dump))) spec.buffer a.buffer a.there holds.last_is;
        part = subst (λ (p : NamePattern). HasPart c.files (series_of p spec.sub_bytes (record { run = run.run; time = run.time0 }) so.fits.start.dump) fallen holds.last (events_of_run spec a.buffer run.start)) (sym (its_pattern written f a))
            (read_so
            (λ first last start h. HasPart c.files (series_of spec.pattern spec.sub_bytes (record { run = first.run; time = first.time }) (unwrap_or first.dump [])) fallen holds.last (events_in (wanted spec.id spec.mask (segment h start))))
            spec.buffer a.buffer a.there holds.part);
      }

  -- a front-end that was declared, with its record
  record AtFront (client : ℕ) (d : FrontDeclared) : Type 0 where
    tally : FrontTally
    told : slice_get run.fronts client ≡ Some tally
    stands : HasFront session (session_front client (closed_front d) (moments client))
    holds : FrontRecordHolds session so.holds.run (session_front client (closed_front d) (moments client)) tally

  at_front : (client : ℕ) (d : FrontDeclared) → slice_get declared.fronts client ≡ Some d → AtFront client d
  at_front client d at =
      let closed_at : slice_get c.fronts client ≡ Some (closed_front d) =
      subst (λ (l : List ClosedFront). slice_get l client ≡ Some (closed_front d)) (sym same_fronts) (slice_get-map closed_front declared.fronts client ∙ ap (option_map closed_front) at) in
      let f : SessionFront = session_front client (closed_front d) (moments client) in
      let stands : slice_get session.fronts client ≡ Some f = (listed c moments).fronts client (closed_front d) closed_at in
      let has = so.holds.fronts client f stands in
      record { tally = has.0; told = has.1; stands = (client, stands); holds = has.2 }

  abbrev own_calls : (client buffer : ℕ) → List BufferEntry
  own_calls client buffer = entries_by (caller_of_client client) (history_of_buffer c buffer)

  -- what it sent, and where that stands
  front_sent : (client : ℕ) (d : FrontDeclared) (a : AtFront client d) → own_sent (own_calls client d.buffer) run.start ≡ events_of_front d run so.quota so.fits.start.dump a.tally.sent
  front_sent client d a =
      let r : SessionRun = so.holds.run in
      let sent : own_sent (own_calls client d.buffer) r.start ≡ made_events (generator_makes (generator_of d)) (order_for r.first r.start Stopped) a.tally.sent = a.holds.sends.events in
      subst (λ (n : ℕ). own_sent (own_calls client d.buffer) n ≡ made_events (generator_makes (generator_of d)) (order_for first_sheet n Stopped) a.tally.sent) so.holds.start
      (subst (λ (s : Sheet). own_sent (own_calls client d.buffer) r.start ≡ made_events (generator_makes (generator_of d)) (order_for s r.start Stopped) a.tally.sent) so.holds.first_is sent)

  front_standing : (client : ℕ) (d : FrontDeclared) (a : AtFront client d)
      → events_in (events_at_places (places_sent (own_calls client d.buffer) run.start) (segment (history_of_buffer c d.buffer) run.start)) ≡ events_of_front d run so.quota so.fits.start.dump a.tally.sent
  front_standing client d a =
      let r : SessionRun = so.holds.run in
      let f : SessionFront = session_front client (closed_front d) (moments client) in
      let stands : events_in (events_at_places (places_sent (own_calls client d.buffer) r.start) (segment (history_of_buffer c d.buffer) r.start)) ≡ made_events (generator_makes (generator_of d)) (order_for r.first r.start Stopped) a.tally.sent =
      composed.fronts_stand r so.holds.stopped f a.stands a.tally.sent a.tally.ended a.holds.told in
      subst (λ (n : ℕ). events_in (events_at_places (places_sent (own_calls client d.buffer) n) (segment (history_of_buffer c d.buffer) n)) ≡ made_events (generator_makes (generator_of d)) (order_for first_sheet n Stopped) a.tally.sent) so.holds.start
      (subst (λ (s : Sheet). events_in (events_at_places (places_sent (own_calls client d.buffer) r.start) (segment (history_of_buffer c d.buffer) r.start)) ≡ made_events (generator_makes (generator_of d)) (order_for s r.start Stopped) a.tally.sent) so.holds.first_is stands)

  front_tells : (client : ℕ) (d : FrontDeclared) → slice_get declared.fronts client ≡ Some d
      → (tally : FrontTally) × (slice_get run.fronts client ≡ Some tally) × IsSentInRun client d buffers run so.quota so.fits.start.dump tally
  front_tells client d at =
      let a : AtFront client d = at_front client d at in
      let contains : Contains declared.fronts d = (client, slice_get_within declared.fronts client d at, get_or_from_slice_get declared.fronts client d d at) in
      let within : d.buffer < length declared.buffers = All-contains (λ (x : FrontDeclared). x.buffer < length declared.buffers) declared.fronts d sound.front_buffers contains in
      let b = buffer_at d.buffer within in
      let its = its_history d.buffer b.0 b.1 in (
        a.tally,
        a.told,
        record {
          is = a.holds.client;
          buffer = b.0;
          there = b.1;
          sent = subst (λ (h : History). own_sent (entries_by (caller_of_client client) h) run.start ≡ events_of_front d run so.quota so.fits.start.dump a.tally.sent) its (front_sent client d a);
          stands = subst (λ (h : History). events_in (events_at_places (places_sent (entries_by (caller_of_client client) h) run.start) (segment h run.start)) ≡ events_of_front d run so.quota so.fits.start.dump a.tally.sent) its (front_standing client d a);
        },
      )

  events_tell : (buffer index place : ℕ) (b : BufferRecord) (x : Sent) → slice_get buffers buffer ≡ Some b → slice_get (segment (history_of b.closed) run.start) index ≡ Some (place, x)
      → IsFrontEvent declared run so.quota so.fits.start.dump buffer x.event
  events_tell buffer index place b x at_buffer at =
      let at_place : slice_get (segment (history_of_buffer c buffer) run.start) index ≡ Some (place, x) =
      subst (λ (h : History). slice_get (segment h run.start) index ≡ Some (place, x)) (sym (its_history buffer b at_buffer)) at in
      let of : IsOfFront session buffer run.start place x.event = composed.only_fronts buffer run.start index place x at_place in
      let found = (listed c moments).front_of of.front of.stands in
      let client : ℕ = found.0 in
      let d = mapped closed_front declared.fronts client found.1 (subst (λ (l : List ClosedFront). slice_get l client ≡ Some found.1) same_fronts found.2) in
      let same : of.front ≡ session_front client (closed_front d.0) (moments client) =
      found.3 ∙ ap (λ (y : ClosedFront). session_front client y (moments client)) (sym d.2) in
      let send : IsSendOf (own_calls client buffer) run.start place x.event = subst (λ (f : SessionFront). IsSendOf (own_calls f.client buffer) run.start place x.event) same of.send in
      let its_buffer : d.0.buffer ≡ buffer = subst (λ (f : SessionFront). f.buffer ≡ buffer) same of.buffer_is in
      let a : AtFront client d.0 = at_front client d.0 d.1 in
      let sent : Contains (own_sent (own_calls client d.0.buffer) run.start) x.event =
      subst (λ (n : ℕ). Contains (own_sent (own_calls client n) run.start) x.event) (sym its_buffer) (among (own_calls client buffer) run.start place x.event send) in
      record {
        client = client;
        front = d.0;
        there = d.1;
        buffer_is = its_buffer;
        tally = a.tally;
        told = a.told;
        made = subst (λ (l : List Event). Contains l x.event) (front_sent client d.0 a) sent;
      }

  number_got : IsNumberBefore run.run so.fits.start.are.got
  number_got =
      let starts = so.fits.start.are in
      let stand = so.fits.start.stand in
      let early : AllByRecursion GivesNumber (so.fits.early.database ++ so.fits.late.database) = subst (λ (o : MainOwn). AllByRecursion GivesNumber o.database) so.fits.calls given in
      let first : AllByRecursion GivesNumber so.fits.early.database = all_first GivesNumber so.fits.early.database so.fits.late.database early in
      let here : AllByRecursion GivesNumber (stand.before ++ (call.Call (number_asked starts.got) ∷ starts.rest ++ stand.after)) =
      subst (λ (l : List WatchEntry). AllByRecursion GivesNumber (stand.before ++ (l ++ stand.after))) starts.are (subst (λ (l : List WatchEntry). AllByRecursion GivesNumber l) stand.calls first) in
      let gives : GivesNumber (call.Call (number_asked starts.got)) = (all_behind GivesNumber stand.before _ here).0 in
      let held = gives starts.got refl starts.settled in
      let next : next_run held.2.first ≡ Ok run.run =
      subst (λ (items : List Item). next_run (number_in items) ≡ Ok run.run) held.2.items (subst (λ (g : Result HeldValue OdbRefusal). next_run (have_of g) ≡ Ok run.run) held.1 starts.number) in
      record {
        held = held.0;
        is = held.1;
        more = held.2.more;
        items = held.2.items ∙ ap (λ (n : ℤ). Int32 n ∷ held.2.more) (before_next held.2.first run.run next);
      }

  ended_tells : NoneRose first now → (place : ℕ) (written : ChannelFiles) → slice_get run.files place ≡ Some written → written.told.state ≡ state_by_dump (dump_saved so.fits.stop.saved)
  ended_tells none place written at =
      let f : ChannelFilesHold session so.holds.run written = so.holds.files place written at in
      counts.ended none moments so.holds.run so.holds.made f.index f.channel f.at written.told f.told ∙ ap (λ (s : Sheet). state_by_dump s.dump) so.holds.last_is

  -- an analyzer that was declared, with its record
  record AtAnalyzer (place : ℕ) (d : AnalyzerDeclared) : Type 0 where
    tally : ReportTally
    told : slice_get run.reports place ≡ Some tally
    holds : ReportRecordHolds session so.holds.run (session_analyzer c (analyzer_client c place) (closed_analyzer d)) tally

  at_analyzer : (place : ℕ) (d : AnalyzerDeclared) → slice_get declared.analyzers place ≡ Some d → AtAnalyzer place d
  at_analyzer place d at =
      let closed_at : slice_get c.analyzers place ≡ Some (closed_analyzer d) =
      subst (λ (l : List ClosedAnalyzer). slice_get l place ≡ Some (closed_analyzer d)) (sym same_analyzers) (slice_get-map closed_analyzer declared.analyzers place ∙ ap (option_map closed_analyzer) at) in
      let has = so.holds.reports place (session_analyzer c (analyzer_client c place) (closed_analyzer d)) ((listed c moments).analyzers place (closed_analyzer d) closed_at) in
      record { tally = has.0; told = has.1; holds = has.2 }

  analyzer_counts : (place : ℕ) (d : AnalyzerDeclared) → AtAnalyzer place d → (b : BufferRecord) → slice_get buffers d.buffer ≡ Some b
      → (tally : ReportTally) × (slice_get run.reports place ≡ Some tally) × IsCountedInRun (analyzer_client c place) d buffers c.engine run.start tally
  analyzer_counts place d a b at =
      let by : ℕ = caller_of_client (analyzer_client c place) in
      let turns : List MemberTurn = member_turns (analyzer_client c place) (engine_calls c by) in
      let of_start : ReportHolds (history_of_buffer c d.buffer) by (request_of d) (given_in by (opening (size_of_buffer c d.buffer)) (history_of_buffer c d.buffer)) turns run.start a.tally.report =
      subst (λ (n : ℕ). ReportHolds (history_of_buffer c d.buffer) by (request_of d) (given_in by (opening (size_of_buffer c d.buffer)) (history_of_buffer c d.buffer)) turns n a.tally.report) so.holds.start a.holds.so in
      let of_history : ReportHolds (history_of b.closed) by (request_of d) (given_in by (opening (size_of_buffer c d.buffer)) (history_of b.closed)) turns run.start a.tally.report =
      subst (λ (h : History). ReportHolds h by (request_of d) (given_in by (opening (size_of_buffer c d.buffer)) h) turns run.start a.tally.report) (its_history d.buffer b at) of_start in (
        a.tally,
        a.told,
        record {
          is = a.holds.client;
          buffer = b;
          there = at;
          counts = subst (λ (size : ℕ). ReportHolds (history_of b.closed) by (request_of d) (given_in by (opening size) (history_of b.closed)) turns run.start a.tally.report) (its_size d.buffer b at) of_history;
        },
      )

  analyzers_tell : (place : ℕ) (d : AnalyzerDeclared) → slice_get declared.analyzers place ≡ Some d
      → (tally : ReportTally) × (slice_get run.reports place ≡ Some tally) × IsCountedInRun (suc (length declared.fronts) + place) d buffers c.engine run.start tally
  analyzers_tell place d at =
      let contains : Contains declared.analyzers d = (place, slice_get_within declared.analyzers place d at, get_or_from_slice_get declared.analyzers place d d at) in
      let within : d.buffer < length declared.buffers = All-contains (λ (x : AnalyzerDeclared). x.buffer < length declared.buffers) declared.analyzers d sound.analyzer_buffers contains in
      let b = buffer_at d.buffer within in
      let number : analyzer_client c place ≡ suc (length declared.fronts) + place =
      ap (λ (l : List ClosedFront). suc (length l) + place) same_fronts ∙ ap (λ (n : ℕ). suc n + place) (length-map declared.fronts closed_front) in
      subst (λ (n : ℕ). (tally : ReportTally) × (slice_get run.reports place ≡ Some tally) × IsCountedInRun n d buffers c.engine run.start tally) number (analyzer_counts place d (at_analyzer place d at) b.0 b.1)

  pub run_tells : RunTells c moments own declared buffers first now run
  run_tells = record { so = so; number = number_got; files = files_tell; parts = parts_tell; ended = ended_tells; fronts = front_tells; events = events_tell; reports = analyzers_tell }
