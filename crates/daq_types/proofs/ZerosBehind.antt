-- A text copied into zeros, byte by byte.
use Rattle.std.proofs.Common.{◌≡◌, ◌∙◌, ap, ℕ, ◌+◌, ◌-◌, ◌<◌, List, length, take, drop, replicate, set, get_or, refl, sym, arith}
use Rattle.std.proofs.lemmas.List.{take_more_set, take_more, drop-set-lt, drop-replicate, drop-drop}

pub head_more : (text bytes : List ℕ) (i : ℕ) → i < length text → i < length bytes → take i bytes ≡ take i text
    → take (i + 1) (set bytes i (get_or text i 0)) ≡ take (i + 1) text
head_more text bytes i in_text in_bytes head = rw (take_more_set bytes i (get_or text i 0) in_bytes, take_more text i 0 in_text, head) refl

pub rest_more : (bytes : List ℕ) (size i x : ℕ) → i < size → drop i bytes ≡ replicate (size - i) 0
    → drop (i + 1) (set bytes i x) ≡ replicate (size - (i + 1)) 0
rest_more bytes size i x inside rest =
    drop-set-lt (i + 1) bytes i x (omega arith)
    ∙ (let both : drop (i + 1) bytes ≡ drop 1 (drop i bytes) = sym (drop-drop 1 i bytes) in both)
    ∙ ap (drop 1) rest ∙ drop-replicate 1 (size - i) 0 ∙ ap (λ n. replicate n 0) (omega arith)
