-- Histories of the engine: its calls with their replies, each with the number of its caller, in order.
use Rattle.std.specs.Prelude.{◌≡◌, ℕ, ◌≤◌, List, [], ◌∷◌, length, Option, Some, ⊤}
use Rattle.std.specs.List.{AllByRecursion}
use Rattle.daq_types.specs.Callers.{main_caller}
use Rattle.event.specs.Events.{record_limit}
use Rattle.transitions.specs.declared.sheet.Sheet.{Sheet}
use Rattle.transitions.specs.declared.replies.Polled.{Polled}
use Rattle.transitions.specs.declared.replies.Polled.TheVariants.{Turn}
use Rattle.transitions.specs.declared.entry.EngineEntry.{EngineEntry}
use Rattle.transitions.specs.declared.entry.EngineEntry.TheVariants.{Register, Begin, Poll, Answer, Check, Close}
use Rattle.transitions.specs.Engines.{EngineState}
use Rattle.transitions.specs.EngineCalls.{IsEngineReply, engine_after}

-- The calls of an engine whose clients tell values of this type.
abbrev pub EngineHistory : (R : Type 0) → Type 0
EngineHistory R = List (ℕ × EngineEntry R)

-- a dump that fits into a record of a run file
abbrev pub IsShort : Option (List ℕ) → Type 0
IsShort dump = (bytes : List ℕ) → dump ≡ Some bytes → length bytes ≤ record_limit

module _ {R : Type 0} where
  -- the engine after all these calls
  abbrev pub engine_replay : EngineState R → List (ℕ × EngineEntry R) → EngineState R
  engine_replay s [] = s
  engine_replay s (e ∷ es) = engine_replay (engine_after s e.1) es

-- Of reports that are blank where they meet this.
module _ {R : Type 0} (is_blank : R → Type 0) where
  -- what a transition may be begun with
  pub record IsSheet (sheet : Sheet R) : Type 0 where
    pub short : IsShort sheet.dump
    pub blank : AllByRecursion is_blank sheet.blanks

  -- what a turn gives is such
  abbrev pub IsFairTurn : Polled R → Type 0
  IsFairTurn (Turn t order dump blank) = IsShort dump × ((report : R) → blank ≡ Some report → is_blank report)
  IsFairTurn polled = ⊤

  -- The main thread alone registers clients, begins transitions, checks them and closes the engine.
  abbrev pub IsEngineCaller : ℕ → EngineEntry R → Type 0
  IsEngineCaller by (Register name sequences dump report reply) = by ≡ main_caller
  IsEngineCaller by (Begin t sheet reply) = (by ≡ main_caller) × IsSheet sheet
  IsEngineCaller by (Poll client reply) = ⊤
  IsEngineCaller by (Answer client answer reply) = ⊤
  IsEngineCaller by (Check reply tallies) = by ≡ main_caller
  IsEngineCaller by (Close reply) = by ≡ main_caller

  -- each reply is the one that the engine gives at that point, to a caller that may make the call
  abbrev pub IsLegalEngine : EngineState R → List (ℕ × EngineEntry R) → Type 0
  IsLegalEngine s [] = ⊤
  IsLegalEngine s (e ∷ es) = IsEngineCaller e.0 e.1 × IsEngineReply s e.1 × IsLegalEngine (engine_after s e.1) es
