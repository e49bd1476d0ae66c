-- Laws of the bytes of a ring.
use Rattle.std.specs.Prelude.{◌≡◌, ℕ, zero, suc, ◌+◌, ◌*◌, ◌%◌, List, ◌∷◌, ◌++◌, length, slice_index, refl}
use Rattle.std.proofs.Common.{ap, ◌∙◌, arith}
use Rattle.std.proofs.Math.Nat.{add-mul-mod_self_right}
use Rattle.ring_buffer.specs.Rings.{byte_at, bytes_at}

-- bytes one behind the other
pub bytes_at-add : (ring : List ℕ) (o m n : ℕ) → bytes_at ring o (m + n) ≡ bytes_at ring o m ++ bytes_at ring (o + m) n
unfolding bytes_at
bytes_at-add ring o zero n =
    let left : zero + n ≡ n = omega arith in
    let right : o ≡ o + zero = omega arith in
    ap (λ (k : ℕ). bytes_at ring o k) left ∙ ap (λ (k : ℕ). bytes_at ring k n) right
bytes_at-add ring o (suc m) n =
    let left : suc m + n ≡ suc (m + n) = omega arith in
    let right : suc o + m ≡ o + suc m = omega arith in
    ap (λ (k : ℕ). bytes_at ring o k) left
    ∙ ap (λ (xs : List ℕ). byte_at ring o ∷ xs)
    (bytes_at-add ring (suc o) m n ∙ ap (λ (k : ℕ). bytes_at ring (suc o) m ++ bytes_at ring k n) right)

pub length-bytes_at : (ring : List ℕ) (o n : ℕ) → length (bytes_at ring o n) ≡ n
unfolding bytes_at
length-bytes_at ring o zero = refl
length-bytes_at ring o (suc n) = ap (λ (k : ℕ). suc k) (length-bytes_at ring (suc o) n)

-- once round the ring come the same bytes
pub bytes_at-turn : (ring : List ℕ) (o n : ℕ) → bytes_at ring (o + length ring) n ≡ bytes_at ring o n
unfolding bytes_at
bytes_at-turn ring o zero = refl
bytes_at-turn ring o (suc n) =
    let once : o + length ring ≡ o + 1 * length ring = omega arith in
    let here : byte_at ring (o + length ring) ≡ byte_at ring o =
    ap (λ (k : ℕ). slice_index ring k) (ap (λ (k : ℕ). k % length ring) once ∙ add-mul-mod_self_right o 1 (length ring)) in
    let next : suc (o + length ring) ≡ suc o + length ring = omega arith in
    ap (λ (x : ℕ). x ∷ bytes_at ring (suc (o + length ring)) n) here
    ∙ ap (λ (xs : List ℕ). byte_at ring o ∷ xs) (ap (λ (k : ℕ). bytes_at ring k n) next ∙ bytes_at-turn ring (suc o) n)
