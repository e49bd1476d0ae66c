-- What is kept of a session once its objects are closed.
use Rattle.std.specs.Prelude.{◌≡◌, ℕ, ◌≤◌, List, [], ◌∷◌, ◌++◌, slice_get, length, Some, Ok, All}
use Rattle.turn_lock.specs.declared.lock.Turns.{Turns}
use Rattle.turn_lock.specs.declared.roster.Passes.{Passes}
use Rattle.turn_lock.specs.declared.lock.Pass.{Pass}
use Rattle.turn_lock.specs.History.{IsPartOf}
use Rattle.turn_lock.specs.Passes.{number_of, seen_by, passes_of}
use Rattle.daq_types.specs.Callers.{entries_by}
use Rattle.turn_lock.specs.Roster.{numbers_of, ArePassesOf, AreIdle}
use Rattle.turn_lock.specs.Closing.{AreComplete, history_of}
use Rattle.buffer_core.specs.Window.{opening}
use Rattle.buffer_core.specs.Histories.{IsLegal, replay}
use Rattle.buffer_core.specs.Delivered.{Delivers}
use Rattle.buffer_core.specs.Runs.{KeepsRuns}
use Rattle.buffer_lock.specs.SharedBuffers.{lock_of}
use Rattle.transitions.specs.Engines.{engine_opening}
use Rattle.transitions.specs.EngineHistories.{engine_replay}
use Rattle.transitions.specs.TurnOrder.{TurnsInOrder}
use Rattle.member_model.specs.RunEngines.{IsLegalEngine}
use Rattle.transition_lock.specs.SharedEngines.{engine_lock_of, first_engine}
use Rattle.odb_tree.specs.Rows.{Rows}
use Rattle.odb_tree.specs.declared.notes.Note.{Note}
use Rattle.odb_watch.specs.declared.entry.WatchEntry.{WatchEntry}
use Rattle.odb_watch.specs.declared.entry.WatchEntry.TheVariants.{Notes}
use Rattle.odb_watch.specs.Steps.{LeadsDatabase, unwatched}
use Rattle.odb_watch.specs.History.{AreDue, calls_made}
use Rattle.odb_lock.specs.declared.shared.SharedOdb.{SharedOdb}
use Rattle.odb_lock.specs.SharedOdbs.{odb_lock_of, first_database}
use Rattle.session_objects.specs.declared.objects.SessionBuffer.{SessionBuffer}
use Rattle.session_objects.specs.declared.objects.SessionObjects.{SessionObjects}
use Rattle.session_objects.specs.declared.passes.SessionPasses.{SessionPasses}
use Rattle.session_objects.specs.declared.record.BufferRecord.{BufferRecord}
use Rattle.session_objects.specs.declared.record.SessionRecord.{SessionRecord}
use Rattle.session_objects.specs.Rosters.{KeepsPasses}
use Rattle.session_objects.specs.Kept.{OutNumbers}
use Rattle.session_objects.specs.Calls.{SessionCalls, told_of_engine, told_of_buffer, told_of_database, HoldsParts}

-- All passes of the lock are here and idle.
pub record AreAllPasses {M D E : Type 0} {g : _} (lock : Turns M D E) (passes : Passes M D E g) : Type 0 where
  pub own : ArePassesOf lock passes
  pub idle : AreIdle passes
  pub complete : AreComplete (numbers_of passes) (passes_of lock)

-- What each of these passes has seen is a beginning of this history, and the entries with the pass's number are its own.
-- So many callers have passes, and there are no entries of others.
pub record HoldsAllOf {M D E : Type 0} {g : _} (passes : List (Pass M D E g)) (callers : ℕ) (history : List (ℕ × E)) : Type 0 where
  pub parts : All (λ pass. IsPartOf history (number_of pass) (seen_by pass)) passes
  pub others : (number : ℕ) → callers ≤ number → entries_by number history ≡ []

-- The passes of these objects are here but those with these numbers, and each tells of its caller what stands in these
-- calls.
pub record HasCallsBut {D : Type 0} {g : _} (out : OutNumbers) (calls : SessionCalls) (objects : SessionObjects)
    (shared : SharedOdb D) (passes : SessionPasses D g) : Type 0 where
  pub engine : KeepsPasses (told_of_engine calls) out.engine (engine_lock_of objects.engine) passes.engine
  pub many : length passes.buffers.items ≡ length objects.buffers.items
  pub buffers : (number : ℕ) → (buffer : SessionBuffer) → (roster : _) →
      slice_get objects.buffers.items number ≡ Some buffer → slice_get passes.buffers.items number ≡ Some roster →
      KeepsPasses (told_of_buffer calls number buffer.size) (out.buffers number) (lock_of buffer.shared) roster
  pub database : KeepsPasses (told_of_database calls) out.database (odb_lock_of shared) passes.database

-- All passes are here.
abbrev pub none_out : OutNumbers
none_out = record { engine = []; buffers = λ number. []; database = [] }

abbrev pub HasCalls : {D : Type 0} {g : _} → SessionCalls → SessionObjects → SharedOdb D → SessionPasses D g → Type 0
HasCalls calls objects shared passes = HasCallsBut none_out calls objects shared passes

-- The record of a buffer: its history is legal from the buffer as it opened, and led to what the buffer was left as; each
-- client got what it is owed, and the events of runs stand between their marks.
pub record IsRecordOf (buffer : SessionBuffer) (r : BufferRecord) : Type 0 where
  pub name : r.name ≡ buffer.name
  pub size : r.size ≡ buffer.size
  pub legal : IsLegal (opening r.size) (history_of r.closed)
  pub left : r.closed.value.buffer.window ≡ replay (opening r.size) (history_of r.closed)
  pub delivers : Delivers r.size (history_of r.closed)
  pub runs : KeepsRuns (history_of r.closed)

-- each answer of a call for a watch's notes tells the changes that are due, where the database had these rows and no watch
-- at first
abbrev pub TellsDueNotes : Rows → List (ℕ × WatchEntry) → Type 0
TellsDueNotes rows history = (before more : List (ℕ × WatchEntry)) → (caller watch lost : ℕ) → (notes : List Note) →
    history ≡ before ++ (caller, Notes watch (Ok (notes, lost))) ∷ more → AreDue rows (calls_made before) watch notes lost

-- The record of a session: the histories of its buffers, of its engine and of its database, each legal from the object as
-- it was shared. Where the engine was new, each client's turns follow its transitions; and where the database had no watch,
-- each watch was told the changes that it was due.
pub record HoldsHistories {D : Type 0} {g : _} (objects : SessionObjects) (shared : SharedOdb D) (r : SessionRecord D g) : Type 0 where
  pub many : length r.buffers ≡ length objects.buffers.items
  pub buffers : (number : ℕ) → (buffer : SessionBuffer) → (closed : BufferRecord) →
      slice_get objects.buffers.items number ≡ Some buffer → slice_get r.buffers number ≡ Some closed →
      IsRecordOf buffer closed
  pub engine : IsLegalEngine (first_engine objects.engine) (history_of r.engine)
  pub engine_left : r.engine.value.engine ≡ engine_replay (first_engine objects.engine) (history_of r.engine)
  pub follows : first_engine objects.engine ≡ engine_opening → TurnsInOrder (history_of r.engine)
  pub database : LeadsDatabase (first_database shared) (history_of r.database) r.database.value.database
  pub notes : (rows : Rows) → first_database shared ≡ unwatched rows → TellsDueNotes rows (history_of r.database)

-- Each history of the record holds the calls of its callers, and no others.
pub record HoldsCalls {D : Type 0} {g : _} (calls : SessionCalls) (objects : SessionObjects) (shared : SharedOdb D)
    (r : SessionRecord D g) : Type 0 where
  pub engine : HoldsParts (told_of_engine calls) (passes_of (engine_lock_of objects.engine)) (history_of r.engine)
  pub buffers : (number : ℕ) → (buffer : SessionBuffer) → (closed : BufferRecord) →
      slice_get objects.buffers.items number ≡ Some buffer → slice_get r.buffers number ≡ Some closed →
      HoldsParts (told_of_buffer calls number buffer.size) (passes_of (lock_of buffer.shared))
      (history_of closed.closed)
  pub database : HoldsParts (told_of_database calls) (passes_of (odb_lock_of shared)) (history_of r.database)
