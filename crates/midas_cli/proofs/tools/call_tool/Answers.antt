use Rattle.std.proofs.Common.{◌≤◌, ℕ, List, length, subst}
use Rattle.command_words.specs.CommandLine.{most_files}
use Rattle.command_words.specs.declared.forms.Tool.{Tool}
use Rattle.midas_tools.specs.Findings.{call_counts}
use Rattle.midas_tools.specs.Together.{EndsBy}
use Rattle.midas_cli.proofs.Calls.{one_name}
use Rattle.midas_cli.proofs.tools.call_tool.Goals as goal

pub returns-in-Dump-clause-ends : goal.returns-in-Dump-clause-ends
returns-in-Dump-clause-ends g c =
    subst (λ (names : List (List ℕ)). EndsBy c.dump_file.result.0 (g.F.Files.told c.args.files).seen names
    (call_counts g.O.Sink.told g.F.Files.told c.args.out.now c.dump_file.new.out c.args.files c.dump_file.result.1))
    (one_name c.args.names.now c.index-names-0.result (subst (λ (tool : Tool). length c.args.names.now ≤ most_files tool) c.in-Dump.is c.requires.few) c.index-names-0.is c.requires.some) c.dump_file.ensures.ends
