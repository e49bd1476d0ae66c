-- The members of a closed session, by their client numbers.
use Rattle.std.specs.Prelude.{◌≡◌, ℕ, zero, suc, ◌+◌, List, [], ◌∷◌, length, slice_get, Some, refl}
use Rattle.std.proofs.Common.{ap, ◌∙◌, arith}
use Rattle.composition.specs.Sessions.{SessionFront}
use Rattle.session_laws.specs.ClosedSessions.{ClosedAnalyzer, ClosedFront, ClosedSession, analyzer_client, numbered, session_analyzer, session_analyzers, session_front, session_fronts}

-- What is made of each by its number.
module _ {X Y : Type 0} (make : ℕ → X → Y) where
  pub numbered_at : (first k n : ℕ) (xs : List X) (x : X) → n ≡ first + k → slice_get xs k ≡ Some x → slice_get (numbered make first xs) k ≡ Some (make n x)
  numbered_at first k n [] x number at = absurd (cc (at))
  numbered_at first zero n (y ∷ xs) x number at =
      let same : y ≡ x = cc (at) in
      let here : first ≡ n = omega arith in
      λ i. Some (make (here i) (same i))
  numbered_at first (suc k) n (y ∷ xs) x number at = numbered_at (suc first) k n xs x (omega arith) at

  pub numbered_is : (first k n : ℕ) (xs : List X) (y : Y) → n ≡ first + k → slice_get (numbered make first xs) k ≡ Some y → (x : X) × (slice_get xs k ≡ Some x) × (y ≡ make n x)
  numbered_is first k n [] y number at = absurd (cc (at))
  numbered_is first zero n (x ∷ xs) y number at =
      let same : y ≡ make first x = cc (at) in
      let here : first ≡ n = omega arith in
      (x, refl, same ∙ ap (λ (m : ℕ). make m x) here)
  numbered_is first (suc k) n (x ∷ xs) y number at = numbered_is (suc first) k n xs y (omega arith) at

  pub numbered_many : (first : ℕ) (xs : List X) → length (numbered make first xs) ≡ length xs
  numbered_many first [] = refl
  numbered_many first (x ∷ xs) = ap suc (numbered_many (suc first) xs)

module _ (c : ClosedSession) where
  pub front_listed : (moments : ℕ → List ℕ) (client : ℕ) (f : ClosedFront) → slice_get c.fronts client ≡ Some f → slice_get (session_fronts 0 c.fronts moments) client ≡ Some (session_front client f (moments client))
  front_listed moments client f at = numbered_at (λ n g. session_front n g (moments n)) 0 client client c.fronts f (omega arith) at

  -- a front-end of the session is that of a client number
  pub front_of : (moments : ℕ → List ℕ) (f : SessionFront) → (index : ℕ) × (slice_get (session_fronts 0 c.fronts moments) index ≡ Some f)
      → (client : ℕ) × (front : ClosedFront) × (slice_get c.fronts client ≡ Some front) × (f ≡ session_front client front (moments client))
  front_of moments f has = (let is = numbered_is (λ n g. session_front n g (moments n)) 0 has.0 has.0 c.fronts f (omega arith) has.1 in (has.0, is.0, is.1, is.2))

  pub analyzer_listed : (place : ℕ) (a : ClosedAnalyzer) → slice_get c.analyzers place ≡ Some a
      → slice_get (session_analyzers c (suc (length c.fronts)) c.analyzers) place ≡ Some (session_analyzer c (analyzer_client c place) a)
  analyzer_listed place a at = numbered_at (session_analyzer c) (suc (length c.fronts)) place (analyzer_client c place) c.analyzers a refl at
