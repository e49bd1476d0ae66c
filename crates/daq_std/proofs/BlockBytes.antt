-- What a file in blocks was given, where a write took a part.
use Rattle.std.specs.Prelude.{◌≡◌, ℕ, zero, suc, List, [], ◌∷◌, ◌++◌, take, drop, Option, Some, None, IsNone, refl}
use Rattle.std.proofs.Common.{ap, sym, ◌∙◌, append_assoc, take-append-drop}
use Rattle.std.proofs.lemmas.List.{append-nil}
use mathlib.Core.List.{IsPrefix}
use Rattle.daq_std.specs.Blocks.{given_of, to_hand}
use Rattle.daq_std.specs.BlockTables.{given_at}
use Rattle.daq_std.specs.SystemCalls.{OpenedFile, TookPart}
use Rattle.daq_std.specs.declared.blocks.BlockFile.{BlockFile}
use Rattle.daq_std.specs.declared.system.Fault.{Fault}

-- what was taken is a first part
pub part_first : {a b : Option (List ℕ)} {old new bytes : List ℕ} → TookPart a b old new bytes → IsPrefix (new ++ []) (old ++ bytes)
part_first {old = old} {new = new} {bytes = bytes} p =
    (drop p.count bytes, ap (λ front. front ++ drop p.count bytes) (append-nil new ∙ p.taken) ∙ (append_assoc old (take p.count bytes) (drop p.count bytes) ∙ ap (λ all. old ++ all) (take-append-drop p.count bytes)))

pub no_fault : (broken : Option Fault) → ((fault : Fault) → broken ≡ Some fault → ⊥) → broken ≡ None
no_fault None not = refl
no_fault (Some fault) not = absurd (not fault refl)

-- what a file that is whole was given
pub given_whole : {F : Type 0} {opened : OpenedFile F} (file : Option (OpenedFile F)) (broken : Option Fault) (pending : List ℕ) → file ≡ Some opened → broken ≡ None → given_of file broken pending ≡ opened.handed ++ pending
given_whole {opened = opened} file broken pending is whole = ap (λ f. given_of f broken pending) is ∙ ap (λ b. opened.handed ++ to_hand b pending) whole

-- a first part of the first is one of more
pub part_more : (xs ys : List ℕ) (zs : List ℕ) → IsPrefix xs ys → IsPrefix xs (ys ++ zs)
part_more xs ys zs p = (p.0 ++ zs, sym (append_assoc xs p.0 zs) ∙ ap (λ front. front ++ zs) p.1)

-- where there is no file, none was given anything
given_none : {F : Type 0} (file : Option (OpenedFile F)) (broken : Option Fault) (pending : List ℕ) → IsNone file → given_of file broken pending ≡ []
given_none None broken pending none = refl
given_none (Some opened) broken pending none = absurd (cc (none))

-- a block without a file more
pub nothing_pushed : {F : Type 0} (blocks : List (BlockFile F)) (block : BlockFile F) → IsNone block.file → ((number : ℕ) → given_at blocks number ≡ []) → (number : ℕ) → given_at (blocks ++ block ∷ []) number ≡ []
nothing_pushed [] block none all zero = given_none block.file block.broken block.pending.bytes none
nothing_pushed [] block none all (suc number) = refl
nothing_pushed (first ∷ blocks) block none all zero = all zero
nothing_pushed (first ∷ blocks) block none all (suc number) = nothing_pushed blocks block none (λ n. all (suc n)) number
