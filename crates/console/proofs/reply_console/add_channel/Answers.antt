use Rattle.std.specs.Prelude.{◌++◌, ℕ, List}
use Rattle.std.proofs.Common.{ap, ◌∙◌}
use Rattle.session_runs.specs.FileRows.{file_row}
use Rattle.console.specs.Console.{file_line}
use Rattle.console.proofs.FileLines.{one_file_more}
use Rattle.console.proofs.reply_console.add_channel.Goals as goal

pub loop-number-preserved : goal.loop-number-preserved
loop-number-preserved c =
    let n : ℕ = c.loop-number.number in
    c.in_ok-add_file.ensures
    ∙ (ap (λ (l : List ℕ). l ++ file_line (file_row c.args.run c.args.files.now n)) c.loop-number.invariant
    ∙ one_file_more c.args.text.now c.args.run c.args.files.now n)
