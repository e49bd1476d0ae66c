-- The passes that the main thread keeps of the session's objects, while others are with the members.
use Rattle.std.specs.Prelude.{◌≡◌, ℕ, zero, suc, ◌+◌, ◌==◌, ◌∷◌, [], Bool, true, false, if◌then◌else◌, nat_lt, List, slice_get, length, Some}
use Rattle.daq_types.specs.Callers.{main_caller}
use Rattle.turn_lock.specs.declared.roster.Passes.{Passes}
use Rattle.buffer_lock.specs.SharedBuffers.{lock_of}
use Rattle.transition_lock.specs.SharedEngines.{engine_lock_of}
use Rattle.odb_tree.specs.Noting.{Watched}
use Rattle.odb_watch.specs.declared.entry.WatchEntry.{WatchEntry}
use Rattle.odb_lock.specs.declared.locked.LockedDatabase.{LockedDatabase}
use Rattle.odb_lock.specs.declared.shared.SharedOdb.{SharedOdb}
use Rattle.odb_lock.specs.SharedOdbs.{odb_lock_of}
use Rattle.session_setup.specs.declared.declared.DeclaredLists.{DeclaredLists}
use Rattle.session_setup.specs.declared.member.MemberDeclared.{MemberDeclared}
use Rattle.session_objects.specs.declared.objects.SessionBuffer.{SessionBuffer}
use Rattle.session_objects.specs.declared.objects.SessionObjects.{SessionObjects}
use Rattle.session_objects.specs.declared.passes.SessionPasses.{SessionPasses}
use Rattle.session_objects.specs.Rosters.{KeepsFresh, KeepsPasses, nothing_seen}
use Rattle.session_setup.specs.DeclaredMembers.{calls_buffer, calls_database, declared_members, member_count}

-- The numbers of the passes that are with those that call by them: of the engine; of each buffer, by its number; and of
-- the database.
pub record OutNumbers : Type 0 where
  pub engine : List ℕ
  pub buffers : ℕ → List ℕ
  pub database : List ℕ

-- the numbers of those of so many clients that call an object, the last one first, and these others behind them
abbrev pub callers_down : (calls : ℕ → Bool) → (others : List ℕ) → (clients : ℕ) → List ℕ
callers_down calls others zero = others
callers_down calls others (suc n) = if calls n then suc n ∷ callers_down calls others n else callers_down calls others n

-- The first so many of these members have their passes, and the main thread has its own of engine and database.
abbrev pub out_among : List MemberDeclared → (clients : ℕ) → OutNumbers
out_among members clients = record {
  engine = callers_down (λ n. true) (main_caller ∷ []) clients;
  buffers = λ buffer. callers_down (λ n. calls_buffer buffer (slice_get members n)) [] clients;
  database = callers_down (λ n. calls_database (slice_get members n)) (main_caller ∷ []) clients;
}

-- the same of the members that were declared
abbrev pub out_to : DeclaredLists → (clients : ℕ) → OutNumbers
out_to lists clients = out_among (declared_members lists) clients

-- all of them have their passes
abbrev pub out_to_members : DeclaredLists → OutNumbers
out_to_members lists = out_to lists (member_count lists)

-- the first so many have theirs, and the next one has its own of each buffer with a number below this
abbrev pub ports_out : DeclaredLists → (clients buffers : ℕ) → OutNumbers
ports_out lists clients buffers = record (out_to lists clients) {
  buffers = λ number. if nat_lt number buffers then (out_to lists (suc clients)).buffers number
      else (out_to lists clients).buffers number;
}

-- One more pass is out, of this number: of the engine, of the database, or of the buffer of this number.
abbrev pub engine_out : (caller : ℕ) → OutNumbers → OutNumbers
engine_out caller out = record out { engine = caller ∷ out.engine }

abbrev pub database_out : (caller : ℕ) → OutNumbers → OutNumbers
database_out caller out = record out { database = caller ∷ out.database }

abbrev pub buffer_out : (caller buffer : ℕ) → OutNumbers → OutNumbers
buffer_out caller buffer out = record out {
  buffers = λ number. if buffer == number then caller ∷ out.buffers number else out.buffers number;
}

-- All passes of these objects are here but those with these numbers, and none of them made a call.
pub record HasFreshBut {D : Type 0} {g : _} (out : OutNumbers) (objects : SessionObjects) (shared : SharedOdb D) (passes : SessionPasses D g) : Type 0 where
  pub engine : KeepsFresh out.engine (engine_lock_of objects.engine) passes.engine
  pub many : length passes.buffers.items ≡ length objects.buffers.items
  pub buffers : (number : ℕ) → (buffer : SessionBuffer) → (roster : _) →
      slice_get objects.buffers.items number ≡ Some buffer → slice_get passes.buffers.items number ≡ Some roster →
      KeepsFresh (out.buffers number) (lock_of buffer.shared) roster
  pub database : KeepsFresh out.database (odb_lock_of shared) passes.database

-- All passes of the database but the main thread's are here, and none of these has seen a call.
abbrev pub OthersSawNothing : {D : Type 0} {g : _} → SharedOdb D → Passes (LockedDatabase D) Watched WatchEntry g → Type 0
OthersSawNothing shared passes = KeepsPasses nothing_seen (main_caller ∷ []) (odb_lock_of shared) passes
