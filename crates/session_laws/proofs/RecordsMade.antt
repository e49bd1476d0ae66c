-- The records of a session's runs against its histories and its run files.
use Rattle.std.specs.Prelude.{◌≡◌, ◌<◌, ℕ, zero, suc, List, [], ◌∷◌, ◌++◌, length, map, slice_get, Option, Some, None, refl}
use Rattle.std.specs.Option.{option_map, option_to_list}
use Rattle.std.proofs.Common.{ap, sym, subst, ◌∙◌, arith, inl, inr}
use Rattle.std.proofs.lemmas.Option.{slice_get_cases, slice_get_within}
use Rattle.daq_types.specs.Callers.{main_caller}
use Rattle.daq_types.specs.declared.runs.ChannelEnd.{ChannelEnd}
use Rattle.transitions.specs.declared.answers.Tally.TheVariants.{Front, Channels}
use Rattle.member_model.specs.RunEngines.{Tally, ClientTally}
use Rattle.member_model.specs.LoggerKept.{LoggerChannel}
use Rattle.mid_logger.specs.declared.channel.Channel.{Channel}
use Rattle.loggers.specs.LoggerStands.{logger_channels}
use Rattle.session_runs.specs.declared.records.FrontTally.{FrontTally}
use Rattle.session_runs.specs.declared.records.ChannelFiles.{ChannelFiles}
use Rattle.session_runs.specs.declared.channels.RunChannel.{RunChannel}
use Rattle.session_runs.specs.KeptRuns.{run_channel}
use Rattle.session_runs.specs.ToldTallies.{front_in, front_told, fronts_told, ends_in, ends_told, ended_files, files_told, files_of}
use Rattle.composition.specs.Sessions.{Session, SessionFront}
use Rattle.composition.specs.SessionRuns.{SessionRun, IsStoppedRun, TellsFront, ToldChannel}
use Rattle.session_laws.specs.ClosedSessions.{ClosedSession, logger_client, engine_calls, session_analyzer, session_front, session_fronts, session_of}
use Rattle.session_laws.specs.MadeRuns.{RunIn, RunHolds}
use Rattle.session_laws.specs.EndLaws.{SessionHolds}
use Rattle.session_laws.specs.RecordedRuns.{FrontRecordHolds, ChannelFilesHold, clients_in, run_channels, RecordsHold}
use Rattle.session_laws.proofs.RunsMade.{files_so}
use Rattle.session_laws.proofs.ListedTold.{AllTold, ListsEach, TellsFirst, ToldBy, listed_at, many_told, told_so, told_there}
use Rattle.session_laws.proofs.MembersListed.{front_listed, numbered_is, numbered_many}
use Rattle.session_laws.proofs.RunTurns.{there_within}
use Rattle.session_laws.proofs.RecordedStarts.{run_in, run_recorded}
use Rattle.session_laws.proofs.ReportsMade.{many_reports, report_record}

-- What was told of front-ends.

fronts_first : TellsFirst front_in front_told
fronts_first = record { none = λ client. refl; more = λ client x xs. refl }

front_in_so : (client : ℕ) (tally : Tally) (t : FrontTally) → front_in client tally ≡ Some t → (t.client ≡ client) × (tally ≡ Front t.sent t.ended)
front_in_so client (Front sent ended) t is =
    let same : record { client = client; sent = sent; ended = ended } ≡ t = cc (is) in
    (sym (ap (λ (x : FrontTally). x.client) same), ap (λ (x : FrontTally). Front x.sent x.ended) same)
front_in_so client tally t is = absurd (cc (is))

fronts_listed : (tallies : List ClientTally) → ListsEach (λ k. front_told k tallies) (λ n. fronts_told n tallies)
fronts_listed tallies = record { none = refl; more = λ n. refl }

-- What was told of channels.

ends_first : TellsFirst (λ client. ends_in) ends_told
ends_first = record { none = λ client. refl; more = λ client x xs. refl }

-- the logger told this among the tallies
pub record ToldEnds (client : ℕ) (tallies : List ClientTally) (told : List ChannelEnd) : Type 0 where
  pub index : ℕ
  pub at : slice_get tallies index ≡ Some (record { client = client; tally = Channels told })

ends_in_so : (tally : Tally) (told : List ChannelEnd) → ends_in tally ≡ Some told → tally ≡ Channels told
ends_in_so (Channels l) told is = (let same : l ≡ told = cc (is) in ap Channels same)
ends_in_so tally told is = absurd (cc (is))

pub ends_so : (client : ℕ) (tallies : List ClientTally) (told : List ChannelEnd) → ends_told client tallies ≡ Some told → ToldEnds client tallies told
ends_so client tallies told is =
    let t : ToldBy (λ n. ends_in) client tallies told = told_so ends_first client tallies told is in
    record { index = t.index; at = t.at ∙ ap (λ (x : Tally). Some (record { client = client; tally = x })) (ends_in_so t.tally told t.is) }

pub ends_there : (client : ℕ) (tallies : List ClientTally) (index : ℕ) (told : List ChannelEnd) → slice_get tallies index ≡ Some (record { client = client; tally = Channels told }) → (found : List ChannelEnd) × (ends_told client tallies ≡ Some found)
ends_there client tallies index told at = told_there ends_first client tallies index (Channels told) told at refl

-- a channel of the logger, as the records of runs name it
abbrev as_run : LoggerChannel → RunChannel
as_run channel = record { number = channel.number; pattern = channel.pattern }

run_listed : (slots : List (Option Channel)) → run_channels slots ≡ map as_run (logger_channels (λ n. 0) slots)
run_listed [] = refl
run_listed (None ∷ slots) = run_listed slots
run_listed (Some c ∷ slots) = ap (λ (l : List RunChannel). run_channel c.spec ∷ l) (run_listed slots)

-- each channel is told of among these, so there are the files of each, in order
abbrev AllEnds : List ChannelEnd → List LoggerChannel → Type 0
AllEnds told channels = (index : ℕ) → (channel : LoggerChannel) → slice_get channels index ≡ Some channel → (e : ChannelEnd) × (slice_get told channel.number ≡ Some e)

files_first : (told : List ChannelEnd) (channel : LoggerChannel) (channels : List LoggerChannel) (e : ChannelEnd) → slice_get told channel.number ≡ Some e → files_told told (map as_run (channel ∷ channels)) ≡ ended_files (as_run channel) e ∷ files_told told (map as_run channels)
files_first told channel channels e is = ap (λ (o : Option ChannelEnd). option_to_list (option_map (ended_files (as_run channel)) o) ++ files_told told (map as_run channels)) is

files_many : (told : List ChannelEnd) (channels : List LoggerChannel) → AllEnds told channels → length (files_told told (map as_run channels)) ≡ length channels
files_many told [] all = refl
files_many told (ch ∷ chs) all = (let here = all 0 ch refl in ap length (files_first told ch chs here.0 here.1) ∙ ap suc (files_many told chs (λ index channel at. all (suc index) channel at)))

files_at : (told : List ChannelEnd) (channels : List LoggerChannel) → AllEnds told channels → (index : ℕ) (channel : LoggerChannel) → slice_get channels index ≡ Some channel
    → (e : ChannelEnd) × (slice_get told channel.number ≡ Some e) × (slice_get (files_told told (map as_run channels)) index ≡ Some (ended_files (as_run channel) e))
files_at told [] all index channel at = absurd (cc (at))
files_at told (ch ∷ chs) all zero channel at =
    let here = all 0 channel at in
    let same : ch ≡ channel = cc (at) in
    (here.0, here.1, ap (λ (x : LoggerChannel). slice_get (files_told told (map as_run (x ∷ chs))) 0) same ∙ ap (λ (l : List ChannelFiles). slice_get l 0) (files_first told channel chs here.0 here.1))
files_at told (ch ∷ chs) all (suc k) channel at =
    let here = all 0 ch refl in
    let rest = files_at told chs (λ index x there. all (suc index) x there) k channel at in
    (rest.0, rest.1, ap (λ (l : List ChannelFiles). slice_get l (suc k)) (files_first told ch chs here.0 here.1) ∙ rest.2)

-- A record.

all_told : (c : ClosedSession) (holds : SessionHolds c) (run : SessionRun) → IsStoppedRun (session_of c holds.moments) run → AllTold (λ k. front_told k run.last_tallies) (length c.fronts)
all_told c holds run stopped k less =
    let g = there_within c.fronts k less in
    let tells = holds.composed.fronts_tell run stopped (session_front k g.0 (holds.moments k)) (k, front_listed c holds.moments k g.0 g.1) in
    told_there fronts_first k run.last_tallies tells.2.0 (Front tells.0 tells.1) (record { client = k; sent = tells.0; ended = tells.1 }) tells.2.1 refl

front_record : (c : ClosedSession) (holds : SessionHolds c) (run : SessionRun) (stopped : IsStoppedRun (session_of c holds.moments) run) (fronts : List FrontTally) → fronts ≡ fronts_told (length c.fronts) run.last_tallies
    → (client : ℕ) (f : SessionFront) → slice_get (session_fronts 0 c.fronts holds.moments) client ≡ Some f → (tally : FrontTally) × (slice_get fronts client ≡ Some tally) × FrontRecordHolds (session_of c holds.moments) run f tally
front_record c holds run stopped fronts is client f at =
    let tallies : List ClientTally = run.last_tallies in
    let of = numbered_is (λ n g. session_front n g (holds.moments n)) 0 client client c.fronts f (omega arith) at in
    let less : client < length c.fronts = slice_get_within c.fronts client of.0 of.1 in
    let number : client ≡ f.client = sym (ap (λ (x : SessionFront). x.client) of.2) in
    let all : AllTold (λ k. front_told k tallies) (length c.fronts) = all_told c holds run stopped in
    let t = all client less in
    let says : ToldBy front_in client tallies t.0 = told_so fronts_first client tallies t.0 t.1 in
    let so = front_in_so client says.tally t.0 says.is in
    let tells : TellsFront run f.client t.0.sent t.0.ended = (says.index, says.at ∙ (λ i. Some (record { client = number i; tally = so.1 i }))) in (
      t.0,
      ap (λ (l : List FrontTally). slice_get l client) is ∙ listed_at (fronts_listed tallies) (length c.fronts) all client less t.0 t.1,
      record {
        client = so.0 ∙ number;
        told = tells;
        sends = holds.composed.fronts_sent run stopped f (client, at) t.0.sent t.0.ended tells;
        set = holds.composed.stops_set run stopped f (client, at) t.0.sent t.0.ended tells;
      },
    )

-- the files are those of the logger's channels, in order, as was told of each
record FilesHold (c : ClosedSession) (holds : SessionHolds c) (run : SessionRun) (files : List ChannelFiles) : Type 0 where
  many : length files ≡ length (logger_channels (λ n. 0) c.slots)
  each : (index : ℕ) (channel : LoggerChannel) → slice_get (logger_channels (λ n. 0) c.slots) index ≡ Some channel
      → (told : ChannelEnd) × ToldChannel (session_of c holds.moments) run channel told × (slice_get files index ≡ Some (ended_files (as_run channel) told))

files_hold : (c : ClosedSession) (holds : SessionHolds c) (run : SessionRun) → IsStoppedRun (session_of c holds.moments) run → (o : Option (List ChannelEnd)) → ends_told (logger_client c) run.last_tallies ≡ o → FilesHold c holds run (files_of o (run_channels c.slots))
files_hold c holds run stopped None none =
    let channels : List LoggerChannel = logger_channels (λ n. 0) c.slots in
    let no_channel : (index : ℕ) (channel : LoggerChannel) → slice_get channels index ≡ Some channel → ⊥ = λ index channel at.
    (let told = holds.composed.channels_told run stopped index channel at in
    let found = ends_there (logger_client c) run.last_tallies told.1.index told.1.ends told.1.tells in
    cc (none, found.1)) in
    record {
      many = elim (slice_get_cases channels 0).1 as (λ w. 0 ≡ length channels) [ inl channel ↦ absurd (no_channel 0 channel.0 channel.2) | inr past ↦ omega (arith, past.0) ];
      each = λ index channel at. absurd (no_channel index channel at);
    }
files_hold c holds run stopped (Some told) is =
    let channels : List LoggerChannel = logger_channels (λ n. 0) c.slots in
    let says : ToldEnds (logger_client c) run.last_tallies told = ends_so (logger_client c) run.last_tallies told is in
    let all : AllEnds told channels = λ index channel at. holds.composed.ends_told run stopped says.index told says.at index channel at in
    let listed : files_told told (run_channels c.slots) ≡ files_told told (map as_run channels) = ap (files_told told) (run_listed c.slots) in
    record {
      many = ap length listed ∙ files_many told channels all;
      each = λ index channel at.
          let f = files_at told channels all index channel at in
          (f.0, record { index = says.index; ends = told; tells = says.at; at = f.1 }, ap (λ (l : List ChannelFiles). slice_get l index) listed ∙ f.2);
    }

channel_files : (c : ClosedSession) (holds : SessionHolds c) (run : SessionRun) (stopped : IsStoppedRun (session_of c holds.moments) run) (all : List ChannelFiles) → FilesHold c holds run all
    → (place : ℕ) (files : ChannelFiles) → slice_get all place ≡ Some files → ChannelFilesHold (session_of c holds.moments) run files
channel_files c holds run stopped all hold place files at =
    let s : Session = session_of c holds.moments in
    let ch = there_within (logger_channels (λ n. 0) c.slots) place (omega (arith, hold.many, slice_get_within all place files at)) in
    let f = hold.each place ch.0 ch.1 in
    let same : ended_files (as_run ch.0) f.0 ≡ files = cc (f.2, at) in
    subst (ChannelFilesHold s run) same (record {
      index = place;
      channel = ch.0;
      at = ch.1;
      number = refl;
      pattern = refl;
      told = f.1;
      so = holds.composed.ends_so run stopped place ch.0 ch.1 f.0 f.1;
      have = files_so s holds.composed run stopped place ch.0 ch.1 f.0 f.1 f.0.state refl;
    })

pub records_hold : RecordsHold
records_hold c holds own more same r quota fits =
    let n : ℕ = logger_client c in
    let run : SessionRun = run_recorded (clients_in c) own more (engine_calls c main_caller) same r quota fits in
    let made : RunIn (engine_calls c main_caller) run = run_in (clients_in c) own more (engine_calls c main_caller) same r quota fits in
    let all : RunHolds (session_of c holds.moments) run = holds.runs run made in
    let tells = fits.stop.tells in
    let files : FilesHold c holds run r.files = subst (FilesHold c holds run) (sym tells.files) (files_hold c holds run all.stopped (ends_told n fits.stop.tallies) refl) in
    record {
      run = run;
      made = made;
      stopped = all.stopped;
      start = refl;
      first_is = refl;
      last_is = refl;
      many_fronts = ap length tells.sent ∙ (many_told (fronts_listed fits.stop.tallies) (length c.fronts) (all_told c holds run all.stopped) ∙ sym (numbered_many (λ k f. session_front k f (holds.moments k)) 0 c.fronts));
      fronts = front_record c holds run all.stopped r.fronts tells.sent;
      many_files = files.many;
      files = channel_files c holds run all.stopped r.files files;
      each_channel = λ index channel at. (let f = files.each index channel at in record { place = index; files = ended_files (as_run channel) f.0; at = f.2; number = refl; pattern = refl });
      many_reports = ap length tells.reports ∙ (many_reports c holds run all.stopped ∙ sym (numbered_many (session_analyzer c) (suc (length c.fronts)) c.analyzers));
      reports = report_record c holds run all.stopped r.reports tells.reports;
    }
