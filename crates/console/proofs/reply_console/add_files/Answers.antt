use Rattle.std.specs.Prelude.{◌<◌, ◌++◌, ℕ, List, length}
use Rattle.std.proofs.Common.{ap, ◌∙◌, arith}
use Rattle.session_runs.specs.FileRows.{channel_rows}
use Rattle.console.specs.Console.{file_lines}
use Rattle.console.proofs.FileLines.{one_channel_more}
use Rattle.console.proofs.reply_console.add_files.Goals as goal

pub loop-channel-preserved : goal.loop-channel-preserved
loop-channel-preserved c =
    let i : ℕ = c.loop-channel.channel-index in
    let within : i < length c.args.files.now = omega arith in
    c.in_ok-add_channel.ensures
    ∙ (ap (λ (l : List ℕ). l ++ file_lines (channel_rows c.args.run c.channel-item.result)) c.loop-channel.invariant
    ∙ one_channel_more c.args.text.now c.args.run c.args.files.now i c.channel-item.result within c.channel-item.is)
