-- The calls of all callers of a session, as far as each of them knows what was called.
use Rattle.std.specs.Prelude.{◌≡◌, ℕ, zero, suc, ◌<◌, ◌≤◌, List, [], slice_get, Option, Some, None}
use Rattle.daq_types.specs.Callers.{main_caller, caller_of_client, entries_by}
use Rattle.turn_lock.specs.History.{IsPartOf}
use Rattle.buffer_core.specs.declared.entry.BufferEntry.{BufferEntry}
use Rattle.buffer_core.specs.Window.{opening}
use Rattle.buffer_core.specs.Ports.{Access}
use Rattle.buffer_lock.specs.SharedPorts.{ported_by, access_to}
use Rattle.member_model.specs.RunEngines.{EngineEntry}
use Rattle.odb_watch.specs.declared.entry.WatchEntry.{WatchEntry}

-- What a member knows of its calls: those on the engine; what its port to the buffer of each number tells, where it has one;
-- and what it has seen of the history of the database.
pub record Account : Type 0 where
  pub engine : List EngineEntry
  pub port : (buffer : ℕ) → Option Access
  pub database : List (ℕ × WatchEntry)

-- All callers: the main thread's calls on the engine, and what it has seen of the history of the database; and the members,
-- by their client numbers.
pub record SessionCalls : Type 0 where
  pub main_engine : List EngineEntry
  pub main_database : List (ℕ × WatchEntry)
  pub members : List Account

-- the account of this member, if there is one: who is no member made no call
abbrev pub account_or_none : Option Account → Account
account_or_none None = record { engine = []; port = λ buffer. None; database = [] }
account_or_none (Some account) = account

-- the account of the client of this number
abbrev pub account_at : SessionCalls → (client : ℕ) → Account
account_at calls client = account_or_none (slice_get calls.members client)

-- what the caller of this number has seen of the engine tells its own calls
abbrev pub told_of_engine : SessionCalls → ℕ → List (ℕ × EngineEntry) → Type 0
told_of_engine calls zero seen = entries_by main_caller seen ≡ calls.main_engine
told_of_engine calls (suc client) seen = entries_by (caller_of_client client) seen ≡ (account_at calls client).engine

-- what the caller of this number has seen of the database
abbrev pub told_of_database : SessionCalls → ℕ → List (ℕ × WatchEntry) → Type 0
told_of_database calls zero seen = seen ≡ calls.main_database
told_of_database calls (suc client) seen = seen ≡ (account_at calls client).database

-- the port of a caller to the buffer of this number, if it has one
abbrev pub port_of_caller : SessionCalls → (buffer : ℕ) → (caller : ℕ) → Option Access
port_of_caller calls buffer zero = None
port_of_caller calls buffer (suc client) = (account_at calls client).port buffer

-- what the port of this caller to a buffer of this size tells is what was seen by its calls
abbrev pub told_through : (size caller : ℕ) → Option Access → List (ℕ × BufferEntry) → Type 0
told_through size caller None seen = seen ≡ []
told_through size caller (Some port) seen = port ≡ access_to port.buffer (ported_by caller (opening size) seen)

-- what the caller of this number has seen of the buffer of this number and size
abbrev pub told_of_buffer : SessionCalls → (buffer size : ℕ) → ℕ → List (ℕ × BufferEntry) → Type 0
told_of_buffer calls buffer size caller seen = told_through size caller (port_of_caller calls buffer caller) seen

-- What so many callers have seen of a history, as it is told of each, are beginnings of it, and the entries with a
-- caller's number are the caller's own. There are no entries of others.
pub record HoldsParts {E : Type 0} (told : ℕ → List (ℕ × E) → Type 0) (callers : ℕ) (history : List (ℕ × E)) : Type 0 where
  pub parts : (number : ℕ) → number < callers → (seen : List (ℕ × E)) × IsPartOf history number seen × told number seen
  pub others : (number : ℕ) → callers ≤ number → entries_by number history ≡ []
