-- Where no other caller detaches a client, no client of a caller is known to be detached by another.
use Rattle.std.specs.Prelude.{◌≡◌, ◌≢◌, ℕ, suc, ◌==◌, not, Bool, true, false, if◌then◌else◌, List, [], ◌∷◌, ◌++◌, Ok, refl}
use Rattle.std.specs.List.{AllByRecursion}
use Rattle.std.proofs.Common.{ap, ◌∙◌, inl, inr}
use Rattle.std.proofs.lemmas.Bool.Decides.{eqb_tells}
use Rattle.buffer_core.specs.declared.entry.BufferEntry.{BufferEntry}
use Rattle.buffer_core.specs.declared.entry.BufferEntry.TheVariants.{Attach}
use Rattle.buffer_core.specs.Histories.{History}
use Rattle.buffer_core.proofs.SlotLaws.{split}
use Rattle.buffer_core.specs.CallersView.{detaches, is_taken_back, taken_back_of, taken_back_in}

-- each call of another caller than this one detaches no client
abbrev pub OthersKeep : (by : ℕ) → History → Type 0
OthersKeep by h = AllByRecursion (λ (x : ℕ × BufferEntry). x.0 ≢ by → (client : ℕ) → detaches x.1 client ≡ false) h

by_itself : (by : ℕ) (x : ℕ × BufferEntry) (client : ℕ) → (x.0 ≢ by → (n : ℕ) → detaches x.1 n ≡ false) → detaches x.1 client ≡ true → not (x.0 == by) ≡ false
by_itself by x client keep does = elim (eqb_tells x.0 by) as (λ w. not (x.0 == by) ≡ false) [
  | inl same ↦ ap not same.0
  | inr differs ↦ (let none : detaches x.1 client ≡ false = keep differs.1 client in absurd (cc (none, does)))
]

not_taken : (by client : ℕ) (h : History) → OthersKeep by h → is_taken_back by client h ≡ false
not_taken by client [] keep = refl
not_taken by client (x ∷ h) keep =
    split (detaches x.1 client) (λ b. detaches x.1 client ≡ b → (if b then not (x.0 == by) else is_taken_back by client h) ≡ false)
    (λ does is. by_itself by x client keep.0 does) (λ does is. not_taken by client h keep.1) refl

none_of : (by call : ℕ) (e : BufferEntry) (h : History) → OthersKeep by h → taken_back_of by call e h ≡ []
none_of by call (Attach name (Ok client)) h keep = ap (λ (b : Bool). if b then call ∷ [] else []) (not_taken by client h keep)
none_of by call e h keep = refl

pub none_taken : (by call : ℕ) (h : History) → OthersKeep by h → taken_back_in by call h ≡ []
none_taken by call [] keep = refl
none_taken by call (x ∷ h) keep =
    split (x.0 == by) (λ b. (if b then taken_back_of by call x.1 h ++ taken_back_in by (suc call) h else taken_back_in by call h) ≡ [])
    (λ is. ap (λ (l : List ℕ). l ++ taken_back_in by (suc call) h) (none_of by call x.1 h keep.1) ∙ none_taken by (suc call) h keep.1) (λ is. none_taken by call h keep.1)
