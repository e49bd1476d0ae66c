-- What is told of one client, and one of a list: small facts of the records of runs.
use Rattle.std.specs.Prelude.{◌≡◌, ◌<◌, ◌==◌, ℕ, zero, suc, Bool, if◌then◌else◌, List, [], ◌∷◌, ◌++◌, length, slice_get, Option, Some, None, refl}
use Rattle.std.specs.Option.{option_or, option_to_list}
use Rattle.std.proofs.Common.{ap, sym, subst, ◌∙◌, arith, inl, inr, eq-eqb, length-append}
use Rattle.std.proofs.lemmas.Bool.Decides.{eqb_tells}
use Rattle.member_model.specs.RunEngines.{Tally, ClientTally}

or_there : {X : Type 0} (o rest : Option X) (x : X) → rest ≡ Some x → (y : X) × (option_or o rest ≡ Some y)
or_there None rest x is = (x, is)
or_there (Some y) rest x is = (y, refl)

got_before : {X : Type 0} (xs ys : List X) (k : ℕ) (x : X) → slice_get xs k ≡ Some x → slice_get (xs ++ ys) k ≡ Some x
got_before [] ys k x at = absurd (cc (at))
got_before (y ∷ xs) ys zero x at = at
got_before (y ∷ xs) ys (suc k) x at = got_before xs ys k x at

got_last : {X : Type 0} (xs : List X) (x : X) (k : ℕ) → length xs ≡ k → slice_get (xs ++ x ∷ []) k ≡ Some x
got_last [] x zero is = refl
got_last [] x (suc k) is = absurd (omega arith)
got_last (y ∷ xs) x zero is = absurd (omega arith)
got_last (y ∷ xs) x (suc k) is = got_last xs x k (omega arith)

-- What a client told of one kind, by its first tally of that kind.

pub record TellsFirst {X : Type 0} (read : ℕ → Tally → Option X) (told : ℕ → List ClientTally → Option X) : Type 0 where
  pub none : (client : ℕ) → told client [] ≡ None
  pub more : (client : ℕ) (x : ClientTally) (xs : List ClientTally) → told client (x ∷ xs) ≡ option_or (if x.client == client then read client x.tally else None) (told client xs)

-- the client told this by one of the tallies
pub record ToldBy {X : Type 0} (read : ℕ → Tally → Option X) (client : ℕ) (tallies : List ClientTally) (t : X) : Type 0 where
  pub index : ℕ
  pub tally : Tally
  pub at : slice_get tallies index ≡ Some (record { client = client; tally = tally })
  pub is : read client tally ≡ Some t

module _ {X : Type 0} {read : ℕ → Tally → Option X} {told : ℕ → List ClientTally → Option X} (first : TellsFirst read told) where
  behind_told : (client : ℕ) (x : ClientTally) (xs : List ClientTally) (t : X) → ToldBy read client xs t → ToldBy read client (x ∷ xs) t
  behind_told client x xs t rest = record { index = suc rest.index; tally = rest.tally; at = rest.at; is = rest.is }

  first_told : (client : ℕ) (x : ClientTally) (xs : List ClientTally) (t : X) (o : Option X) → x.client ≡ client → read client x.tally ≡ o → option_or o (told client xs) ≡ Some t → (told client xs ≡ Some t → ToldBy read client xs t) → ToldBy read client (x ∷ xs) t
  first_told client x xs t None mine by is later = behind_told client x xs t (later is)
  first_told client x xs t (Some u) mine by is later = record { index = 0; tally = x.tally; at = ap (λ (n : ℕ). Some (record { client = n; tally = x.tally })) mine; is = by ∙ is }

  pub told_so : (client : ℕ) (tallies : List ClientTally) (t : X) → told client tallies ≡ Some t → ToldBy read client tallies t
  told_so client [] t is = absurd (cc (first.none client, is))
  told_so client (x ∷ xs) t is =
      let whole : option_or (if x.client == client then read client x.tally else None) (told client xs) ≡ Some t = sym (first.more client x xs) ∙ is in
      elim (eqb_tells x.client client) as (λ w. ToldBy read client (x ∷ xs) t) [
        | inl same ↦ first_told client x xs t (read client x.tally) same.1 refl (subst (λ (b : Bool). option_or (if b then read client x.tally else None) (told client xs) ≡ Some t) same.0 whole) (λ so. told_so client xs t so)
        | inr differs ↦ behind_told client x xs t (told_so client xs t (subst (λ (b : Bool). option_or (if b then read client x.tally else None) (told client xs) ≡ Some t) differs.0 whole))
      ]

  pub told_there : (client : ℕ) (tallies : List ClientTally) (index : ℕ) (tally : Tally) (t : X) → slice_get tallies index ≡ Some (record { client = client; tally = tally }) → read client tally ≡ Some t → (found : X) × (told client tallies ≡ Some found)
  told_there client [] index tally t at is = absurd (cc (at))
  told_there client (x ∷ xs) zero tally t at is =
      let same : x ≡ record { client = client; tally = tally } = cc (at) in (
        t,
        first.more client x xs
            ∙ (ap (λ (y : ClientTally). option_or (if y.client == client then read client y.tally else None) (told client xs)) same
            ∙ (ap (λ (b : Bool). option_or (if b then read client tally else None) (told client xs)) (eq-eqb client client refl) ∙ ap (λ (o : Option X). option_or o (told client xs)) is)),
      )
  told_there client (x ∷ xs) (suc index) tally t at is =
      let rest = told_there client xs index tally t at is in
      let found = or_there (if x.client == client then read client x.tally else None) (told client xs) rest.0 rest.1 in
      (found.0, first.more client x xs ∙ found.1)

-- What so many clients told, one behind the other.

pub record ListsEach {X : Type 0} (one : ℕ → Option X) (list : ℕ → List X) : Type 0 where
  pub none : list 0 ≡ []
  pub more : (n : ℕ) → list (suc n) ≡ list n ++ option_to_list (one n)

-- each of them told
abbrev pub AllTold : {X : Type 0} → (one : ℕ → Option X) → (n : ℕ) → Type 0
AllTold {X} one n = (k : ℕ) → k < n → (t : X) × (one k ≡ Some t)

module _ {X : Type 0} {one : ℕ → Option X} {list : ℕ → List X} (lists : ListsEach one list) where
  one_listed : (n : ℕ) (t : X) → one n ≡ Some t → list (suc n) ≡ list n ++ t ∷ []
  one_listed n t is = lists.more n ∙ ap (λ (o : Option X). list n ++ option_to_list o) is

  pub many_told : (n : ℕ) → AllTold one n → length (list n) ≡ n
  many_told zero all = ap length lists.none
  many_told (suc n) all =
      let last = all n (omega arith) in
      let before : length (list n) ≡ n = many_told n (λ k less. all k (omega arith)) in
      ap length (one_listed n last.0 last.1) ∙ (length-append (list n) (last.0 ∷ []) ∙ omega arith)

  pub listed_at : (n : ℕ) → AllTold one n → (k : ℕ) → k < n → (t : X) → one k ≡ Some t → slice_get (list n) k ≡ Some t
  listed_at zero all k less t is = absurd (omega arith)
  listed_at (suc n) all k less t is =
      let before : AllTold one n = λ j below. all j (omega arith) in
      let last = all n (omega arith) in
      ap (λ (l : List X). slice_get l k) (one_listed n last.0 last.1)
      ∙ elim (eqb_tells k n) as (λ w. slice_get (list n ++ last.0 ∷ []) k ≡ Some t) [
        | inl same ↦ (let at_n : one n ≡ Some t = ap one (sym same.1) ∙ is in got_last (list n) last.0 k (many_told n before ∙ sym same.1) ∙ (sym last.1 ∙ at_n))
        | inr differs ↦ (let ne : k ≡ n → ⊥ = differs.1 in got_before (list n) (last.0 ∷ []) k t (listed_at n before k (omega arith) t is))
      ]
