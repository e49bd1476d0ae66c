-- Parts of lines, as they are kept and passed.
use Rattle.std.proofs.Common.{◌≡◌, ◌∙◌, ℕ, suc, ◌+◌, ◌-◌, ◌<◌, ◌≤◌, min, Bool, IsTrue, List, ◌∷◌, ◌++◌, length, take, drop, get_or, refl, ap, sym, arith, add-one, drop-drop, drop-cons, if◌then◌else◌}
use Rattle.std.proofs.lemmas.Grind.{common_steps}
use Rattle.std.proofs.Math.Seq.{take-append-add}
use Rattle.std.proofs.lemmas.List.{take_all, take-append-drop, take-take, drop-take}

pub chosen : {X : Type 0} (b : Bool) (x y z : X) → IsTrue b → z ≡ (if b then x else y) → z ≡ x
chosen b x y z h e = e ∙ rw h refl

pub take-min : (n : ℕ) (xs : List ℕ) → take (min (length xs) n) xs ≡ take n xs
take-min n xs = grind (arith, common_steps, take_all n xs)

-- as much of a part as fits is kept
pub keeps_front : (limit : ℕ) (line part : List ℕ) → length line ≤ limit → line ++ take (min (length part) (limit - length line)) part ≡ take limit (line ++ part)
keeps_front limit line part short =
    let whole : length line + (limit - length line) ≡ limit = omega arith in
    ap (λ front. line ++ front) (take-min (limit - length line) part)
    ∙ sym (take-append-add line part (limit - length line))
    ∙ ap (λ n. take n (line ++ part)) whole

-- what is pending behind a part that was passed
pub pending_passed : (block : List ℕ) (at filled passed : ℕ) → passed ≤ filled - at
    → take (filled - (at + passed)) (drop (at + passed) block) ≡ drop passed (take (filled - at) (drop at block))
pending_passed block at filled passed inside =
    let left : filled - (at + passed) ≡ filled - at - passed = omega arith in
    let all : passed + (filled - at - passed) ≡ filled - at = omega arith in
    ap (λ n. take n (drop (at + passed) block)) left
    ∙ ap (take (filled - at - passed)) (sym (drop-drop passed at block))
    ∙ sym (drop-take passed (filled - at - passed) (drop at block))
    ∙ ap (λ n. drop passed (take n (drop at block))) all

-- a part of what may be passed is a part of what is pending
pub part_pending : (rest : List ℕ) (len most n : ℕ) → len ≤ min n most → take len (take (min n most) rest) ≡ take len (take n rest)
part_pending rest len most n inside =
    take-take len (min n most) rest inside ∙ sym (take-take len n rest (omega arith))

-- the end of a line stands behind its part
pub ended_at : (pending : List ℕ) (len : ℕ) → len < length pending → get_or pending len 0 ≡ 10 → pending ≡ take len pending ++ 10 ∷ drop (len + 1) pending
ended_at pending len inside is_end =
    let behind : drop len pending ≡ 10 ∷ drop (len + 1) pending =
    drop-cons pending len 0 inside ∙ ap (λ b. b ∷ drop (suc len) pending) is_end ∙ ap (λ n. 10 ∷ drop n pending) (sym (add-one len)) in
    sym (take-append-drop len pending) ∙ ap (λ rest. take len pending ++ rest) behind
