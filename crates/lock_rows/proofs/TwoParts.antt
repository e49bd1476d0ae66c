use Rattle.std.proofs.Common.{◌≡◌, ◌∙◌, ℕ, List, [], ◌∷◌, ◌++◌, ap, sym, subst}
use Rattle.std.specs.Prelude.{All}
use Rattle.std.proofs.lemmas.List.Elements.{All-head, All-tail}
use Rattle.daq_types.specs.Callers.{entries_by}
use Rattle.turn_lock.specs.declared.lock.Pass.{Pass}
use Rattle.turn_lock.specs.History.{IsPartOf}
use Rattle.turn_lock.specs.Passes.{number_of, seen_by, own_entries}

module _ {M D E : Type 0} {g : _} where
  -- the entries of the numbers 0 and 1 are those of the two passes that are all there are
  pub two_parts : (h : List (ℕ × E)) (p q : Pass M D E g) (none one two : List (Pass M D E g)) → none ≡ [] → one ≡ none ++ p ∷ [] → two ≡ one ++ q ∷ [] → number_of p ≡ 0 → number_of q ≡ 1
      → All (λ (x : Pass M D E g). IsPartOf h (number_of x) (seen_by x)) two → (entries_by 0 h ≡ own_entries p) × (entries_by 1 h ≡ own_entries q)
  two_parts h p q none one two empty then last zero one_is parts =
      let P : Pass M D E g → Type 0 = λ x. IsPartOf h (number_of x) (seen_by x) in
      let both : two ≡ p ∷ q ∷ [] = last ∙ ap (λ (l : List (Pass M D E g)). l ++ q ∷ []) (then ∙ ap (λ (l : List (Pass M D E g)). l ++ p ∷ []) empty) in
      let all : All P (p ∷ q ∷ []) = subst (All P) both parts in
      let first : P p = All-head P p (q ∷ []) all in
      let second : P q = All-head P q [] (All-tail P p (q ∷ []) all) in
      (ap (λ (n : ℕ). entries_by n h) (sym zero) ∙ first.own, ap (λ (n : ℕ). entries_by n h) (sym one_is) ∙ second.own)
