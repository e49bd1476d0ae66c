-- Histories: lists of entries, each the number of a pass beside a call with its reply, in the order of the count steps.
use Rattle.std.specs.Prelude.{◌≡◌, ◌⊎◌, ℕ, ◌+◌, List, [], ◌∷◌, ◌++◌, length, zero, suc}
use mathlib.Core.List.{IsPrefix}
use Rattle.daq_types.specs.Callers.{entries_by}

-- how many entries the passes below this number have
abbrev pub entries_below : {E : Type 0} → ℕ → List (ℕ × E) → ℕ
entries_below zero history = 0
entries_below (suc n) history = entries_below n history + length (entries_by n history)

-- the history leads from the first data to the last: each entry by the relation, for the number of its pass
abbrev pub Leads : {D E : Type 0} → (D → ℕ → E → D → Type 0) → D → List (ℕ × E) → D → Type 0
Leads step first [] last = first ≡ last
Leads step first (e ∷ es) last = (between : _) × step first e.0 e.1 between × Leads step between es last

-- the history ends with one step: what comes before it leads from the first data to those that were held, and the entry of
-- the pass with this number leads from these to the last
pub record EndsInStep {D E : Type 0} (step : D → ℕ → E → D → Type 0) (first held : D) (number : ℕ) (entry : E) (last : D) (history : List (ℕ × E)) : Type 0 where
  pub earlier : List (ℕ × E)
  pub list : history ≡ earlier ++ (number, entry) ∷ []
  pub to_held : Leads step first earlier held
  pub onward : step held number entry last

-- a call of the pass with this number appended one entry: what was seen before begins what is seen now, then come entries
-- of other passes alone, and last its own
pub record Appends {E : Type 0} (number : ℕ) (entry : E) (before after : List (ℕ × E)) : Type 0 where
  pub others : List (ℕ × E)
  pub list : after ≡ (before ++ others) ++ (number, entry) ∷ []
  pub foreign : entries_by number others ≡ []

-- what a pass has seen is a beginning of the closed history, in which the entries with its number are just its own
pub record IsPartOf {E : Type 0} (history : List (ℕ × E)) (number : ℕ) (seen : List (ℕ × E)) : Type 0 where
  pub begins : IsPrefix seen history
  pub own : entries_by number history ≡ entries_by number seen

-- the last entry of the list has this number
abbrev pub IsLastBy : {E : Type 0} → ℕ → List (ℕ × E) → Type 0
IsLastBy {E} number list = (earlier : List (ℕ × E)) × (entry : E) × (list ≡ earlier ++ (number, entry) ∷ [])

-- the first entry of the history behind this beginning has this number
abbrev pub IsNextBy : {E : Type 0} → ℕ → List (ℕ × E) → List (ℕ × E) → Type 0
IsNextBy {E} number begun history = (entry : E) × (later : List (ℕ × E)) × (history ≡ begun ++ (number, entry) ∷ later)

-- The pass with this number had the turn when so much of the history had come: the last entry before that moment is its
-- own, or the first one behind it.
pub record HadTurnThen {E : Type 0} (history : List (ℕ × E)) (found : ℕ × List (ℕ × E)) : Type 0 where
  pub begins : IsPrefix found.1 history
  pub beside : IsLastBy found.0 found.1 ⊎ IsNextBy found.0 found.1 history
