-- The engine of a session: what its clients tell is a report of events.
use Rattle.std.specs.Prelude.{ℕ, List}
use Rattle.event_report.specs.Reports.{Totals, IsBlank}
use Rattle.transitions.specs.declared.sheet.Sheet.{Sheet as SheetOf}
use Rattle.transitions.specs.declared.answers.Answer.{Answer as AnswerOf}
use Rattle.transitions.specs.declared.answers.Tally.{Tally as TallyOf}
use Rattle.transitions.specs.declared.answers.ClientTally.{ClientTally as ClientTallyOf}
use Rattle.transitions.specs.declared.replies.Polled.{Polled as PolledOf}
use Rattle.transitions.specs.declared.entry.EngineEntry.{EngineEntry as EntryOf}
use Rattle.transitions.specs.Engines.{Underway as UnderwayOf, EngineState as StateOf}
use Rattle.transitions.specs.EngineHistories.{EngineHistory as HistoryOf, IsSheet as IsSheetOf, IsFairTurn as IsFairTurnOf, IsEngineCaller as IsCallerOf, IsLegalEngine as IsLegalOf}
use Rattle.transitions.specs.EnginePoints.{EngineNews as NewsOf}

abbrev pub Sheet : Type 0
Sheet = SheetOf Totals

abbrev pub Answer : Type 0
Answer = AnswerOf Totals

abbrev pub Tally : Type 0
Tally = TallyOf Totals

abbrev pub ClientTally : Type 0
ClientTally = ClientTallyOf Totals

abbrev pub Polled : Type 0
Polled = PolledOf Totals

abbrev pub EngineEntry : Type 0
EngineEntry = EntryOf Totals

abbrev pub Underway : Type 0
Underway = UnderwayOf Totals

abbrev pub EngineState : Type 0
EngineState = StateOf Totals

abbrev pub EngineHistory : Type 0
EngineHistory = HistoryOf Totals

-- what an entry of its history tells
abbrev pub EngineNews : Type 0
EngineNews = NewsOf Totals

-- what a transition may be begun with: a short dump, and reports of no events
abbrev pub IsSheet : Sheet → Type 0
IsSheet = IsSheetOf IsBlank

-- what a turn gives is such
abbrev pub IsFairTurn : Polled → Type 0
IsFairTurn = IsFairTurnOf IsBlank

-- the caller may make the call
abbrev pub IsEngineCaller : ℕ → EngineEntry → Type 0
IsEngineCaller = IsCallerOf IsBlank

-- each reply is the one that the engine gives at that point, to a caller that may make the call
abbrev pub IsLegalEngine : EngineState → List (ℕ × EngineEntry) → Type 0
IsLegalEngine = IsLegalOf IsBlank
