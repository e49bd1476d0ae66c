-- The lines that were refused, as a count and the first of them.
use Rattle.std.specs.Prelude.{◌≡◌, ℕ, ◌+◌, ◌==◌, Bool, true, false, List, [], ◌∷◌, ◌++◌, length, refl}
use Rattle.std.proofs.Common.{ap, ◌∙◌, sym, arith, length-append, ne_eqb}
use Rattle.std.proofs.lemmas.List.{append-nil}
use Rattle.console.specs.declared.replies.Reply.{Reply}
use Rattle.console.specs.declared.refusals.Refusals.{Refusals}
use Rattle.console.specs.Console.{refuses_line, refused_lines, line_if}
use Rattle.console.proofs.ConsoleLaws.{refused_lines-more}
use Rattle.console.specs.Refused.{refusals_after, CountsRefusals}

-- one line more
counts_more : (lines : List ℕ) (refusals : Refusals) (line : ℕ) → CountsRefusals lines refusals → (refused : Bool) → CountsRefusals (lines ++ line_if refused line) (refusals_after refusals line refused)
counts_more lines refusals line counts false = rw (append-nil lines) counts
counts_more [] refusals line counts true = record { count = ap (λ (n : ℕ). n + 1) counts.count; first = rw counts.count refl }
counts_more (x ∷ xs) refusals line counts true = record {
  count = ap (λ (n : ℕ). n + 1) counts.count ∙ sym (length-append (x ∷ xs) (line ∷ []));
  first = let some : (refusals.count == 0) ≡ false = ne_eqb refusals.count 0 (omega (arith, counts.count)) in rw some counts.first;
}

pub counts_noted : (replies : List Reply) (reply : Reply) (refusals : Refusals) → CountsRefusals (refused_lines 1 replies) refusals → CountsRefusals (refused_lines 1 (replies ++ reply ∷ [])) (refusals_after refusals (1 + length replies) (refuses_line reply))
counts_noted replies reply refusals counts = rw (refused_lines-more 1 replies reply) (counts_more (refused_lines 1 replies) refusals (1 + length replies) counts (refuses_line reply))
