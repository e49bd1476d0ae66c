-- The console text of a script's replies, and the lines that were refused.
use Rattle.std.specs.Prelude.{◌≡◌, ℕ, ◌+◌, List, [], ◌∷◌, ◌++◌, length}
use Rattle.std.proofs.Common.{sym, ap, ◌∙◌, append_assoc, arith}
use Rattle.std.proofs.lemmas.List.{append-nil}
use Rattle.console.specs.declared.replies.Reply.{Reply}
use Rattle.console.specs.Console.{text_of, console_text, refuses_line, line_if, refused_lines}

-- One reply more.

pub console_text-more : (line : ℕ) (replies : List Reply) (reply : Reply) → console_text line (replies ++ reply ∷ []) ≡ console_text line replies ++ text_of (line + length replies) reply
console_text-more line [] reply = append-nil (text_of line reply) ∙ ap (λ (n : ℕ). text_of n reply) (omega arith)
console_text-more line (first ∷ replies) reply =
    ap (λ (text : List ℕ). text_of line first ++ text) (console_text-more (line + 1) replies reply ∙ ap (λ (n : ℕ). console_text (line + 1) replies ++ text_of n reply) (omega arith))
    ∙ sym (append_assoc (text_of line first) (console_text (line + 1) replies) (text_of (line + length (first ∷ replies)) reply))

pub refused_lines-more : (line : ℕ) (replies : List Reply) (reply : Reply) → refused_lines line (replies ++ reply ∷ []) ≡ refused_lines line replies ++ line_if (refuses_line reply) (line + length replies)
refused_lines-more line [] reply = append-nil (line_if (refuses_line reply) line) ∙ ap (λ (n : ℕ). line_if (refuses_line reply) n) (omega arith)
refused_lines-more line (first ∷ replies) reply =
    ap (λ (more : List ℕ). line_if (refuses_line first) line ++ more) (refused_lines-more (line + 1) replies reply ∙ ap (λ (n : ℕ). refused_lines (line + 1) replies ++ line_if (refuses_line reply) n) (omega arith))
    ∙ sym (append_assoc (line_if (refuses_line first) line) (refused_lines (line + 1) replies) (line_if (refuses_line reply) (line + length (first ∷ replies))))
