-- How many blank reports a start needs: one for each registered client that asks for reports.
use Rattle.std.specs.Prelude.{◌≡◌, ◌+◌, ◌<◌, ℕ, true, length, List, [], ◌∷◌, Ok, ⊤}
use Rattle.std.specs.List.{AllByRecursion}
use Rattle.daq_types.specs.Callers.{entries_by, main_caller}
use Rattle.daq_types.specs.declared.runs.StartOutcome.TheVariants.{Refused}
use Rattle.daq_types.specs.declared.runs.Transition.TheVariants.{Start}
use Rattle.daq_types.specs.declared.runs.Why.TheVariants.{NotReady}
use Rattle.transitions.specs.declared.entry.EngineEntry.TheVariants.{Register}
use Rattle.transitions.specs.Engines.{engine_opening}
use Rattle.transitions.specs.GivenTurns.{SpeaksFor}
use Rattle.member_model.specs.RunEngines.{Sheet, ClientTally, EngineEntry, EngineHistory, IsLegalEngine}
use Rattle.history_laws.specs.BegunTurns.{HasTransition}
use Rattle.daq_members.specs.BareTurns.{AreBare}

-- one, where the call registered a client that asks for reports
abbrev pub asked_by : EngineEntry → ℕ
asked_by (Register name sequences dump true (Ok client)) = 1
asked_by entry = 0

-- how many clients that ask for reports these calls registered
abbrev pub reports_asked : List EngineEntry → ℕ
reports_asked [] = 0
reports_asked (e ∷ es) = asked_by e + reports_asked es

-- where the call registered this client, it asks for reports
abbrev pub AsksReports : (client : ℕ) → ℕ × EngineEntry → Type 0
AsksReports client (caller, Register name sequences dump report (Ok n)) = n ≡ client → report ≡ true
AsksReports client entry = ⊤

-- A client that asks for reports, and refuses a start as not ready only at a turn that came without a blank report, refuses so
-- only a start whose sheet has fewer blank reports than the main thread registered clients that ask for reports.
abbrev pub BlanksSuffice : Type 0
BlanksSuffice = (by client : ℕ) → (history : EngineHistory) →
    IsLegalEngine engine_opening history → SpeaksFor by client history →
    AllByRecursion (AsksReports client) history → AreBare client (entries_by by history) →
    (sheet : Sheet) → (start : ℕ) → (tallies : List ClientTally) →
    HasTransition history Start sheet start (Refused client NotReady) tallies →
    length sheet.blanks < reports_asked (entries_by main_caller history)
