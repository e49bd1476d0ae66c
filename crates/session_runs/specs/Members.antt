-- The members of a session at the engine.
use Rattle.std.specs.Prelude.{◌≡◌, ℕ, suc, Bool, true, false, List, [], ◌∷◌, ◌++◌, count_by, length, map, Ok}
use Rattle.transitions.specs.declared.sequences.Role.{Role}
use Rattle.transitions.specs.declared.sequences.Role.TheVariants.{FrontEnd, Logger, Analyzer}
use Rattle.transitions.specs.Sequences.{sequences_of}
use Rattle.member_model.specs.RunEngines.{EngineEntry}
use Rattle.transitions.specs.declared.entry.EngineEntry.TheVariants.{Register}
use Rattle.session_runs.specs.declared.opening.MemberName.{MemberName}

-- a member of this role, by its name
abbrev pub member_in : Role → (name : List ℕ) → MemberName
member_in role name = record { name = name; role = role }

-- The members of a session by their names, in the order of their client numbers: the front-ends, the logger, and the analyzers.
abbrev pub members_named : (fronts : List (List ℕ)) → (logger : List ℕ) → (analyzers : List (List ℕ)) → List MemberName
members_named fronts logger analyzers =
    map (member_in FrontEnd) fronts ++ member_in Logger logger ∷ map (member_in Analyzer) analyzers

-- a front-end alone sends events of its own
abbrev pub sends_events : Role → Bool
sends_events FrontEnd = true
sends_events role = false

-- the logger alone writes the database's text into the files
abbrev pub gets_dumps : Role → Bool
gets_dumps Logger = true
gets_dumps role = false

-- an analyzer counts in a report
abbrev pub gets_reports : Role → Bool
gets_reports Analyzer = true
gets_reports role = false

-- how many of these members send events
abbrev pub sender_count : List MemberName → ℕ
sender_count members = count_by (λ (m : MemberName). sends_events m.role) members

-- how many of them count in a report
abbrev pub reporter_count : List MemberName → ℕ
reporter_count members = count_by (λ (m : MemberName). gets_reports m.role) members

-- In a session as many members send events as front-ends were declared, and as many count in reports as analyzers were.
pub record MembersCounted : Type 0 where
  pub senders : (fronts : List (List ℕ)) → (logger : List ℕ) → (analyzers : List (List ℕ)) →
      sender_count (members_named fronts logger analyzers) ≡ length fronts
  pub reporters : (fronts : List (List ℕ)) → (logger : List ℕ) → (analyzers : List (List ℕ)) →
      reporter_count (members_named fronts logger analyzers) ≡ length analyzers

-- the member is registered by its name and role, and gets this client number
abbrev pub registration : (client : ℕ) → MemberName → EngineEntry
registration client m = Register m.name (sequences_of m.role) (gets_dumps m.role) (gets_reports m.role) (Ok client)

-- the members are registered in order, and get the client numbers from this one on
abbrev pub registrations : (first : ℕ) → List MemberName → List EngineEntry
registrations first [] = []
registrations first (m ∷ ms) = registration first m ∷ registrations (suc first) ms
