use Rattle.std.proofs.Common.{◌∙◌, ℕ, List, inl}
use Rattle.command_words.specs.declared.forms.Tool.{Tool}
use Rattle.midas_cli.specs.Tools.{ToolRan}
use Rattle.midas_tools.specs.Findings.{call_counts}
use Rattle.midas_cli.proofs.Calls.{few, so_called, some}
use Rattle.midas_cli.proofs.tools.run_tool.Goals as goal

pub run_on-requires-clause-some : goal.run_on-requires-clause-some
run_on-requires-clause-some g c = some c.args.words.now c.args.tool c.requires c.as_slice.result.now (c.as_slice.ensures.value ∙ c.in-Ok.ensures)

pub run_on-requires-clause-few : goal.run_on-requires-clause-few
run_on-requires-clause-few g c = few c.args.words.now c.args.tool c.requires c.as_slice.result.now (c.as_slice.ensures.value ∙ c.in-Ok.ensures)

pub returns-in-Ok-clause-ran : goal.returns-in-Ok-clause-ran
returns-in-Ok-clause-ran g c = λ called names is.
    inl (so_called c.args.words.now c.args.tool c.requires c.as_slice.result.now (c.as_slice.ensures.value ∙ c.in-Ok.ensures) c.one_form.ensures
    (λ (tool : Tool) (given : List (List ℕ)). ToolRan tool (g.F.Files.told c.args.outside.run_files).seen given (g.O.Sink.told c.args.outside.out).written (g.O.Sink.told c.run_on.result.1.out).written
    (call_counts g.O.Sink.told g.F.Files.told c.args.outside.out c.run_on.result.1.out c.args.outside.run_files c.run_on.result.1.run_files) (g.F.Files.told c.run_on.result.1.run_files).first
    c.run_on.result.0.cause)
    c.run_on.ensures.ran called names is)
