-- What the calls of one caller tell of the history of all callers: statements of the laws.
use Rattle.std.specs.Prelude.{◌≡◌, ℕ, ◌≤◌, List, [], ◌∷◌, ◌++◌, All, length, slice_get, Contains, Some, Ok, ◌⊎◌}
use Rattle.std.specs.List.{AllByRecursion}
use mathlib.Core.List.{IsPrefix}
use Rattle.daq_types.specs.Callers.{entries_by}
use Rattle.daq_types.specs.declared.events.Event.{Event}
use Rattle.daq_types.specs.declared.runs.Kind.TheVariants.{All as KindAll}
use Rattle.event.specs.Events.{record_limit}
use Rattle.event.specs.RunFile.{run_file, IsFileEvent, IsRunFile}
use Rattle.buffer_core.specs.declared.entry.BufferEntry.{BufferEntry}
use Rattle.buffer_core.specs.declared.entry.BufferEntry.TheVariants.{Attach, Request, SendInRun}
use Rattle.buffer_core.specs.Window.{Sent, opening}
use Rattle.buffer_core.specs.Histories.{History, IsLegal}
use Rattle.buffer_core.specs.Runs.{segment}
use Rattle.buffer_core.specs.Readers.{among, places_got, places_of, wanted}
use Rattle.buffer_core.specs.Ports.{Access, BufferIdentity, GotEvent, IsGivenAt}
use Rattle.buffer_core.specs.CallersView.{access_in, taken_back_in}
use Rattle.member_model.specs.SentCalls.{own_sent, IsSendInRun, EachCall}
use Rattle.member_model.specs.OwnCalls.{calls_after, IsOwnCall, AreOwnCalls, SendsNone, AreGivenBy}
use Rattle.member_model.specs.ReadRuns.{HasReadRun}
use Rattle.history_laws.specs.OneCaller.{WasSentAt, IsCallersPart, HaveOwnClients, SendsInRuns, HaveRunSends, MarksAlone, events_in}
use Rattle.member_model.specs.CutRuns.{MarksEnd, HasCutRun}
use Rattle.member_model.specs.EndedRuns.{EndsBegun, MakesNoMark}
use Rattle.history_laws.specs.SentRuns.{places_sent, events_at_places}
use Rattle.member_model.specs.GotRuns.{events_of_start}
use Rattle.history_laws.specs.SeenRuns.{SeesRun}

-- A client that has read a run got, of the places between the run's marks, just those of the events that it asked for.
abbrev pub ReadPlaces : Type 0
ReadPlaces = (size : ℕ) → (history : History) → (caller : ℕ) → (own : List BufferEntry) → (got : List GotEvent) →
    IsLegal (opening size) history → HaveOwnClients history → IsCallersPart history caller own got →
    (client id mask number start begun ended : ℕ) → (events : List Event) →
    HasReadRun own got client id mask number start begun ended events →
    among (segment history start) (places_got history client) ≡ places_of (wanted id mask (segment history start))

-- And the events that it got are those.
abbrev pub ReadEvents : Type 0
ReadEvents = (size : ℕ) → (history : History) → (caller : ℕ) → (own : List BufferEntry) → (got : List GotEvent) →
    IsLegal (opening size) history → HaveOwnClients history → IsCallersPart history caller own got →
    (client id mask number start begun ended : ℕ) → (events : List Event) →
    HasReadRun own got client id mask number start begun ended events →
    events ≡ events_in (wanted id mask (segment history start))

-- A client that broke off its reading of a run got a first part of them.
abbrev pub CutEvents : Type 0
CutEvents = (size : ℕ) → (history : History) → (caller : ℕ) → (own : List BufferEntry) → (got : List GotEvent) →
    IsLegal (opening size) history → HaveOwnClients history → IsCallersPart history caller own got →
    (client id mask number start begun ended : ℕ) → (events : List Event) →
    HasCutRun own got client id mask number start begun ended events →
    IsPrefix events (events_in (wanted id mask (segment history start)))

-- Where a client got of a run just the places of the events that it asked for, these and dumps that a record may have are a run
-- file, of at most 2^62 bytes.
abbrev pub RunFileFits : Type 0
RunFileFits = (size : ℕ) → (history : History) → IsLegal (opening size) history →
    (client id mask start : ℕ) →
    among (segment history start) (places_got history client) ≡ places_of (wanted id mask (segment history start)) →
    (run time0 time1 : ℕ) → (dump0 dump1 : List ℕ) → length dump0 ≤ record_limit → length dump1 ≤ record_limit →
    (let events : List Event = events_in (wanted id mask (segment history start)) in
    All IsFileEvent events →
    IsRunFile (run_file run time0 dump0 events time1 dump1) run time0 dump0 events time1 dump1)

-- A client that sees a run through, which another caller may begin and end, got under the run's start number just the events
-- between the marks that it asked for.
abbrev pub SeenEvents : Type 0
SeenEvents = (size : ℕ) → (history : History) → (caller : ℕ) → (own : List BufferEntry) → (got : List GotEvent) →
    IsLegal (opening size) history → HaveOwnClients history → HaveRunSends history → IsCallersPart history caller own got →
    AreGivenBy own got →
    (client id mask start ended : ℕ) →
    SeesRun history caller client id mask start ended →
    events_of_start client start got ≡ events_in (wanted id mask (segment history start))

-- And just these are the events with that number that its calls gave since that request. The history may have gone on since.
abbrev pub SeenSince : Type 0
SeenSince = (size : ℕ) → (history later : History) → (caller : ℕ) → (given : List GotEvent) →
    IsLegal (opening size) (history ++ later) → HaveOwnClients (history ++ later) → HaveRunSends (history ++ later) →
    (client id mask start ended : ℕ) → (sees : SeesRun history caller client id mask start ended) → (calls : List BufferEntry) →
    entries_by caller history ≡ entries_by caller sees.before ++ Request client id mask KindAll (Ok sees.number) ∷ calls →
    AreGivenBy calls given → AllByRecursion (WasSentAt (history ++ later)) given →
    events_of_start client start given ≡ events_in (wanted id mask (segment (history ++ later) start))

-- the event was sent in the run, at this place, by one of these calls
pub record IsSendOf (own : List BufferEntry) (start place : ℕ) (event : Event) : Type 0 where
  pub stated : ℕ
  pub before : List BufferEntry
  pub after : List BufferEntry
  pub stands : own ≡ before ++ SendInRun start stated event (Ok place) ∷ after

-- An event between the marks of a run was sent in that run by a caller.
abbrev pub SentByCaller : Type 0
SentByCaller = (size : ℕ) → (history : History) →
    IsLegal (opening size) history → HaveRunSends history →
    (start index place : ℕ) → (x : Sent) → slice_get (segment history start) index ≡ Some (place, x) →
    (caller : ℕ) × IsSendOf (entries_by caller history) start place x.event

-- It is one of the events that this caller sent in the run.
abbrev pub SendIsAmong : Type 0
SendIsAmong = (own : List BufferEntry) → (start place : ℕ) → (event : Event) →
    IsSendOf own start place event → Contains (own_sent own start) event

-- Each event that a caller sent in a run stands between the marks of that run, at the place that was replied.
abbrev pub SendStands : Type 0
SendStands = (size : ℕ) → (history : History) → IsLegal (opening size) history →
    (caller start place : ℕ) → (event : Event) → IsSendOf (entries_by caller history) start place event →
    (index : ℕ) × (slice_get (segment history start) index ≡ Some (place, record { event = event; start = start }))

-- The events between the marks that stand at the places of a caller's sends in the run are what it sent in it, in its order.
abbrev pub SendsStandInOrder : Type 0
SendsStandInOrder = (size : ℕ) → (history : History) → IsLegal (opening size) history →
    (caller start : ℕ) → (let own : List BufferEntry = entries_by caller history in
    own_sent own start ≡ events_in (events_at_places (places_sent own start) (segment history start)))

-- What is one caller's part of a history is its part of a longer one in which it made no call more.
abbrev pub PartGoesOn : Type 0
PartGoesOn = (seen history : History) → (caller : ℕ) → (own : List BufferEntry) → (got : List GotEvent) →
    IsCallersPart seen caller own got → IsPrefix seen history →
    entries_by caller history ≡ entries_by caller seen →
    IsCallersPart history caller own got

-- A run that was read, or cut, stays so when the caller makes more calls and gets more events.
abbrev pub ReadGoesOn : Type 0
ReadGoesOn = (own more : List BufferEntry) → (got later : List GotEvent) →
    (client id mask number start begun ended : ℕ) → (events : List Event) →
    HasReadRun own got client id mask number start begun ended events →
    HasReadRun (own ++ more) (got ++ later) client id mask number start begun ended events

-- Calls more leave a run that was read only up to where it was cut one that was read so.
abbrev pub CutGoesOn : Type 0
CutGoesOn = (own more : List BufferEntry) → (got later : List GotEvent) →
    (client id mask number start begun ended : ℕ) → (events : List Event) →
    HasCutRun own got client id mask number start begun ended events →
    HasCutRun (own ++ more) (got ++ later) client id mask number start begun ended events

-- A call more on a client of one's own leaves all calls such.
abbrev pub OwnGoOn : Type 0
OwnGoOn = (own : List BufferEntry) → (entry : BufferEntry) →
    AreOwnCalls (calls_after [] own) → IsOwnCall entry (calls_after [] own) →
    AreOwnCalls (calls_after [] (own ++ entry ∷ []))

-- What a port tells its caller of the calls since the buffer's opening is the caller's part of them.
abbrev pub PortTells : Type 0
PortTells = (size : ℕ) → (buffer : BufferIdentity) → buffer.opened ≡ opening size →
    (history : History) → IsLegal (opening size) history → (caller : ℕ) →
    (let told : Access = access_in buffer caller history in
    IsCallersPart history caller told.own told.got)

-- Where no other caller detached a client of the caller, no attach gave it a client that it has: one that an earlier attach gave, and
-- that it did not detach since.
abbrev pub AttachesGiveOnce : Type 0
AttachesGiveOnce = (size : ℕ) → (history : History) → (caller : ℕ) → IsLegal (opening size) history →
    taken_back_in caller 0 history ≡ [] →
    (before after : List BufferEntry) → (name : List ℕ) → (client call : ℕ) →
    entries_by caller history ≡ before ++ Attach name (Ok client) ∷ after → IsGivenAt before call client → ⊥

-- Who only sends in runs names no client of another, and sends no event but in runs.
abbrev pub SenderHasOwn : Type 0
SenderHasOwn = (own : List BufferEntry) → EachCall IsSendInRun own → AreOwnCalls (calls_after [] own)

abbrev pub SenderSendsInRuns : Type 0
SenderSendsInRuns = (own : List BufferEntry) → EachCall IsSendInRun own → EachCall SendsInRuns own

-- Who sends nothing sends no event but in runs.
abbrev pub SilentSendsInRuns : Type 0
SilentSendsInRuns = (own : List BufferEntry) → EachCall SendsNone own → EachCall SendsInRuns own

-- a caller that sends in runs and makes no other call; or one that sends nothing, and whose clients are its own
abbrev pub SendsOrReads : (own : List BufferEntry) → Type 0
SendsOrReads own = EachCall IsSendInRun own ⊎ (EachCall SendsNone own × AreOwnCalls (calls_after [] own))

-- Where each caller is such a one, what the laws ask of a history's callers holds.
abbrev pub MembersFit : Type 0
MembersFit = (history : History) → ((caller : ℕ) → SendsOrReads (entries_by caller history)) →
    HaveOwnClients history × HaveRunSends history

-- Where one caller alone makes marks, a run that it began and then called to end was ended by it.
abbrev pub BegunIsEnded : Type 0
BegunIsEnded = (size : ℕ) → (history : History) → (caller start : ℕ) → IsLegal (opening size) history →
    MarksAlone history caller → EndsBegun (entries_by caller history) start →
    (ended : ℕ) × MarksEnd (entries_by caller history) start ended

-- Who only sends in runs makes no mark.
abbrev pub SenderMakesNoMark : Type 0
SenderMakesNoMark = (own : List BufferEntry) → EachCall IsSendInRun own → EachCall MakesNoMark own
