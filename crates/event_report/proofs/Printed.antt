-- Texts that grow by one part after another.
use Rattle.std.proofs.Common.{◌≡◌, ◌≤◌, ℕ, List, ◌++◌, length, take, ap, sym, ◌∙◌, arith, length-append, Result, Ok, Err}
use Rattle.std.proofs.lemmas.List.{append_assoc, take-take}
use Rattle.std.proofs.Math.Seq.{take-append_seam}
use Rattle.std.specs.Result.{OnErr}
use Rattle.event_report.specs.Texts.{HasInFront}

-- what is appended to a text to which something was appended stands behind that
pub behind : (first before after a b : List ℕ) → before ≡ first ++ a → after ≡ before ++ b → after ≡ first ++ (a ++ b)
behind first before after a b d e = e ∙ (ap (λ t. t ++ b) d ∙ append_assoc first a b)

-- what has the longer text in front has its beginning in front
pub begun : (first before after a : List ℕ) → before ≡ first ++ a → HasInFront before after → HasInFront first after
begun first before after a d h =
    let l : length first ≤ length before = let e = ap length d in omega (arith, length-append first a) in
    sym (take-take (length first) (length before) after l) ∙ (ap (take (length first)) h ∙ (ap (take (length first)) d ∙ take-append_seam first a))

pub on_error : {T E P : Type 0} (r : Result T E) → P → OnErr r P
on_error (Ok x) p = tt
on_error (Err e) p = p

-- what ends where its beginning ended begins as that did
pub begun_still : (first before after a : List ℕ) → before ≡ first ++ a → after ≡ before → HasInFront first after
begun_still first before after a d e = ap (take (length first)) (e ∙ d) ∙ take-append_seam first a

-- the end of a line of three parts stands behind all of them
pub line_of_three : (a b c end : List ℕ) → a ++ (b ++ (c ++ end)) ≡ (a ++ (b ++ c)) ++ end
line_of_three a b c end = sym (append_assoc a (b ++ c) end ∙ ap (λ t. a ++ t) (append_assoc b c end))
