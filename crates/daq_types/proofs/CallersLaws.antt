-- Who makes a call, and the calls of one caller in a history.
use Rattle.std.specs.Prelude.{◌≡◌, ◌≢◌, ℕ, ◌+◌, ◌==◌, List, [], ◌∷◌, ◌++◌, map, refl}
use Rattle.std.specs.List.{filter}
use Rattle.std.proofs.Common.{ap, ◌∙◌, ne_eqb, eq-eqb}
use Rattle.std.proofs.lemmas.List.{append-nil, map-append}
use Rattle.std.proofs.lemmas.List.Elements.{filter-append}
use Rattle.daq_types.specs.Callers.{entries_by}

-- The entries of two lists, one after the other; of a list with one entry more, by this caller or by another.

pub entries_by-append : {E : Type 0} (by : ℕ) (before after : List (ℕ × E)) → entries_by by (before ++ after) ≡ entries_by by before ++ entries_by by after
entries_by-append by before after =
    ap (map (λ e. e.1)) (filter-append (λ e. e.0 == by) before after) ∙ map-append (λ e. e.1) (filter (λ e. e.0 == by) before) (filter (λ e. e.0 == by) after)

pub entries_by-own : {E : Type 0} (by : ℕ) (before : List (ℕ × E)) (entry : E) → entries_by by (before ++ (by, entry) ∷ []) ≡ entries_by by before ++ entry ∷ []
entries_by-own {E} by before entry = entries_by-append by before ((by, entry) ∷ []) ∙ rw (eq-eqb by by refl) refl

pub entries_by-other : {E : Type 0} (by other : ℕ) (before : List (ℕ × E)) (entry : E) → other ≢ by → entries_by by (before ++ (other, entry) ∷ []) ≡ entries_by by before
entries_by-other {E} by other before entry differs = entries_by-append by before ((other, entry) ∷ []) ∙ rw (ne_eqb other by differs) (append-nil (entries_by by before))
