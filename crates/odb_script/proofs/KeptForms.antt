-- What is known of the command of a line: it asks for no more of the line than is kept, and an empty line has none.
use Rattle.std.specs.Prelude.{◌≡◌, ℕ, ◌<◌, List, [], length, Ok, Err, refl}
use Rattle.std.proofs.Common.{ap, sym, ◌∙◌, arith, length-take}
use Rattle.std.proofs.lemmas.List.{take_all}
use Rattle.std.proofs.lemmas.Bool.{cases_lt, lt-ltb}
use Rattle.std.proofs.Math.Logic.{⊎_elim}
use Rattle.odb_script.specs.Lines.{kept, kept_limit}
use Rattle.odb_script.specs.LineWords.{line_words}
use Rattle.odb_script.specs.Forms.{command_of}
use Rattle.odb_script.specs.declared.commands.Command.TheVariants.{Nothing}
use Rattle.odb_script.specs.declared.refusals.LineRefusal.TheVariants.{BadCommand}

command_of-long : (line : List ℕ) → 4096 < length line → command_of line ≡ Err (BadCommand 4096)
unfolding command_of
command_of-long line long = rw (lt-ltb 4096 (length line) long) refl

-- the command of a line is that of what is kept of it
pub command_of-kept : (line : List ℕ) → command_of (kept line) ≡ command_of line
command_of-kept line = ⊎_elim
    (λ longer. command_of-long (kept line) (omega (arith, length-take kept_limit line, longer)) ∙ sym (command_of-long line (omega (arith, longer))))
    (λ fits. ap command_of (take_all kept_limit line fits))
    (cases_lt kept_limit (length line))

-- an empty line commands nothing
pub command_of-nil : command_of [] ≡ Ok Nothing
unfolding command_of line_words
command_of-nil = refl
