-- What is first wrong with files that are told is one.
use Rattle.std.proofs.Common.{◌≡◌, ◌∙◌, ◌⊎◌, ℕ, ◌<◌, List, [], ◌∷◌, ◌++◌, length, Option, Some, inl, inr, refl, ap, sym, subst, arith}
use Rattle.std.specs.Prelude.{true, false, unwrap_or, IsTrue, IsNone}
use Rattle.daq_types.specs.Names.{is_compressed}
use Rattle.daq_io.specs.Seen.{Seen, Stored}
use Rattle.mid_format.specs.Faults.{run_at}
use Rattle.mid_format.specs.HasRead.{IsMidFault}
use Rattle.mid_format.proofs.ReadLaws.{one_fault}
use Rattle.mid_format.specs.declared.faults.MidFault.{MidFault}
use Rattle.midas_tools.specs.Pieces.{ArePieces, total_bytes, in_file}
use Rattle.midas_tools.specs.Together.{AreSoundTogether, FindsWrong, HaveOneRun, HoldsFault, IsWrong}
use Rattle.midas_tools.specs.declared.ends.InputFault.{InputFault}
use Rattle.midas_tools.specs.declared.ends.InputFault.TheVariants.{Mid, Compressed, Missing, ScriptTooLong, OtherRun}
use Rattle.midas_tools.proofs.Pieces.{have_length, have_one, no_wrong, one_run, same_file}

-- Of one file, behind the same others

module _ (seen : Seen) (before : List (List ℕ)) (name : List ℕ) where
  module _ (a b : InputFault) (v : HoldsFault seen before name a) (w : HoldsFault seen before name b) where
    files_same : w.holds.files ≡ v.holds.files
    files_same = have_one seen before w.holds.files v.holds.files w.holds.have v.holds.have

    file_same : w.there.file ≡ v.there.file
    file_same = same_file w.there.file v.there.file (sym w.there.at_is ∙ v.there.at_is)

    moved : (P : ℕ → List ℕ → Type 0) → P (total_bytes w.holds.files) w.there.file.bytes → P (total_bytes v.holds.files) v.there.file.bytes
    moved P p = subst (λ (fs : List (List ℕ)). P (total_bytes fs) v.there.file.bytes) files_same (subst (λ (s : Stored). P (total_bytes w.holds.files) s.bytes) file_same p)

    run_same : 0 < length before → v.holds.run ≡ w.holds.run
    run_same some =
        one_run v.holds.run w.holds.run v.holds.files v.holds.events w.holds.events (omega (arith, some, have_length seen before v.holds.files v.holds.have)) v.holds.are.pieces
        (subst (λ (fs : List (List ℕ)). ArePieces w.holds.run fs w.holds.events) files_same w.holds.are.pieces)

  own_one : (f g : MidFault) → HoldsFault seen before name (Mid f) → HoldsFault seen before name (Mid g) → f ≡ g
  own_one f g v w =
      let same : v.there.fact.placed ≡ w.there.fact.placed =
      one_fault (total_bytes v.holds.files) v.there.file.bytes v.there.fact.placed w.there.fact.placed v.there.fact.first
      (moved (Mid f) (Mid g) v w (λ (n : ℕ) (bytes : List ℕ). IsMidFault n bytes w.there.fact.placed) w.there.fact.first) in
      v.there.fact.fault_is ∙ ap (λ (x : MidFault). in_file (total_bytes v.holds.files) x) same
      ∙ ap (λ (fs : List (List ℕ)). in_file (total_bytes fs) w.there.fact.placed) (sym (files_same (Mid f) (Mid g) v w)) ∙ sym w.there.fact.fault_is

  some_number : (a b : ℕ) → Some a ≡ Some b → a ≡ b
  some_number a b e = ap (λ (o : Option ℕ). unwrap_or o a) e

  other_one : (file found file' found' : ℕ) → HoldsFault seen before name (OtherRun file found) → HoldsFault seen before name (OtherRun file' found') → found ≡ found'
  other_one file found file' found' v w =
      some_number found found' (sym v.there.fact.begun ∙ moved (OtherRun file found) (OtherRun file' found') v w (λ (n : ℕ) (bytes : List ℕ). run_at n bytes ≡ Some found') w.there.fact.begun)

  own_other : (f : MidFault) (file found : ℕ) → 0 < length before → HoldsFault seen before name (Mid f) → HoldsFault seen before name (OtherRun file found) → ⊥
  own_other f file found some v w =
      w.there.fact.differs
      (v.there.fact.one_run found (moved (Mid f) (OtherRun file found) v w (λ (n : ℕ) (bytes : List ℕ). run_at n bytes ≡ Some found) w.there.fact.begun) ∙ run_same (Mid f) (OtherRun file found) v w some)

  not_both : is_compressed name ≡ false → IsTrue (is_compressed name) → ⊥
  not_both plain packed = let clash : true ≡ false = sym packed ∙ plain in absurd cc

  not_there : (fault : InputFault) → IsNone (seen.at name) → HoldsFault seen before name fault → ⊥
  not_there fault none w =
      let gone : IsNone (Some w.there.file) = subst (λ (o : Option Stored). IsNone o) w.there.at_is none in
      let clash : true ≡ false = gone in absurd cc

  pub wrong_one : (f g : InputFault) → IsTrue seen.names → IsWrong seen before name f → IsWrong seen before name g → f ≡ g
  wrong_one (Mid f) (Mid g) tells v w = ap Mid (own_one f g (v.2 tells) (w.2 tells))
  wrong_one (Mid f) Compressed tells v w = absurd (not_both v.0 w.0)
  wrong_one (Mid f) Missing tells v w = absurd (not_there (Mid f) (w.1 tells).1 (v.2 tells))
  wrong_one (Mid f) ScriptTooLong tells v w = absurd w
  wrong_one (Mid f) (OtherRun file run) tells v w = absurd (own_other f file run w.1 (v.2 tells) (w.3 tells))
  wrong_one Compressed (Mid g) tells v w = absurd (not_both w.0 v.0)
  wrong_one Compressed Compressed tells v w = refl
  wrong_one Compressed Missing tells v w = absurd (not_both w.0 v.0)
  wrong_one Compressed ScriptTooLong tells v w = absurd w
  wrong_one Compressed (OtherRun file run) tells v w = absurd (not_both w.0 v.0)
  wrong_one Missing (Mid g) tells v w = absurd (not_there (Mid g) (v.1 tells).1 (w.2 tells))
  wrong_one Missing Compressed tells v w = absurd (not_both v.0 w.0)
  wrong_one Missing Missing tells v w = refl
  wrong_one Missing ScriptTooLong tells v w = absurd w
  wrong_one Missing (OtherRun file run) tells v w = absurd (not_there (OtherRun file run) (v.1 tells).1 (w.3 tells))
  wrong_one ScriptTooLong g tells v w = absurd v
  wrong_one (OtherRun file run) (Mid g) tells v w = absurd (own_other g file run v.1 (w.2 tells) (v.3 tells))
  wrong_one (OtherRun file run) Compressed tells v w = absurd (not_both v.0 w.0)
  wrong_one (OtherRun file run) Missing tells v w = absurd (not_there (OtherRun file run) (w.1 tells).1 (v.3 tells))
  wrong_one (OtherRun file run) ScriptTooLong tells v w = absurd w
  wrong_one (OtherRun file run) (OtherRun file' run') tells v w =
      ap (λ (n : ℕ). OtherRun n run) (v.2 ∙ sym w.2) ∙ ap (λ (n : ℕ). OtherRun file' n) (other_one file run file' run' (v.3 tells) (w.3 tells))

  -- those before it are the pieces of one run
  wrong_behind : (fault : InputFault) → IsTrue seen.names → IsWrong seen before name fault → HaveOneRun seen before
  wrong_behind (Mid f) tells w = (w.2 tells).holds
  wrong_behind Compressed tells w = w.1 tells
  wrong_behind Missing tells w = (w.1 tells).0
  wrong_behind ScriptTooLong tells w = absurd w
  wrong_behind (OtherRun file run) tells w = (w.3 tells).holds

-- Of the first file that is wrong

abbrev IsPlaceOf : (xs b : List (List ℕ)) (n : List ℕ) → Type 0
IsPlaceOf xs b n = (more : List (List ℕ)) × (xs ≡ b ++ n ∷ more)

-- of two places in a list one comes first, or they are the same
abbrev InOrder : (b : List (List ℕ)) (n : List ℕ) (b' : List (List ℕ)) (n' : List ℕ) → Type 0
InOrder b n b' n' = ((b ≡ b') × (n ≡ n')) ⊎ (IsPlaceOf b' b n ⊎ IsPlaceOf b b' n')

in_order : (b : List (List ℕ)) (n : List ℕ) (r b' : List (List ℕ)) (n' : List ℕ) (r' : List (List ℕ)) → b ++ n ∷ r ≡ b' ++ n' ∷ r' → InOrder b n b' n'
in_order [] n r [] n' r' e = inl (refl, cc)
in_order [] n r (y ∷ b') n' r' e = inr (inl (b', let same : y ≡ n = cc in ap (λ (z : List ℕ). z ∷ b') same))
in_order (x ∷ b) n r [] n' r' e = inr (inr (b, let same : x ≡ n' = cc in ap (λ (z : List ℕ). z ∷ b) same))
in_order (x ∷ b) n r (y ∷ b') n' r' e =
    let same : x ≡ y = cc in
    let rest : b ++ n ∷ r ≡ b' ++ n' ∷ r' = cc in
    longer same (in_order b n r b' n' r' rest)
  where
    longer : x ≡ y → InOrder b n b' n' → InOrder (x ∷ b) n (y ∷ b') n'
    longer same (inl both) = inl (ap (λ (z : List ℕ). z ∷ b) same ∙ ap (λ (zs : List (List ℕ)). y ∷ zs) both.0, both.1)
    longer same (inr (inl first)) = inr (inl (first.0, ap (λ (z : List ℕ). z ∷ b') (sym same) ∙ ap (λ (zs : List (List ℕ)). x ∷ zs) first.1))
    longer same (inr (inr second)) = inr (inr (second.0, ap (λ (z : List ℕ). z ∷ b) same ∙ ap (λ (zs : List (List ℕ)). y ∷ zs) second.1))

module _ (seen : Seen) (names : List (List ℕ)) (tells : IsTrue seen.names) where
  -- nothing is wrong in front of what is first wrong
  none_before : (f g : InputFault) (t u : List ℕ) (v : FindsWrong seen names f t) (w : FindsWrong seen names g u) → IsPlaceOf w.before v.before v.name → ⊥
  none_before f g t u v w place =
      let sound : AreSoundTogether seen w.before = record { plain = w.plain; tells = tells; holds = wrong_behind seen w.before w.name g tells w.wrong } in
      no_wrong seen v.before v.name f place.0 (subst (AreSoundTogether seen) place.1 sound) v.wrong

  pub first_one : (f g : InputFault) (t u : List ℕ) → FindsWrong seen names f t → FindsWrong seen names g u → f ≡ g
  first_one f g t u v w = by (in_order v.before v.name v.behind w.before w.name w.behind (sym v.names_are ∙ w.names_are))
    where
      by : InOrder v.before v.name w.before w.name → f ≡ g
      by (inl same) =
          wrong_one seen w.before w.name f g tells
          (subst (λ (n : List ℕ). IsWrong seen w.before n f) same.1 (subst (λ (b : List (List ℕ)). IsWrong seen b v.name f) same.0 v.wrong)) w.wrong
      by (inr (inl first)) = absurd (none_before f g t u v w first)
      by (inr (inr second)) = absurd (none_before g f u t w v second)
