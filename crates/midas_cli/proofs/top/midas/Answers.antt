use Rattle.std.proofs.Common.{◌∙◌, ap, inl}
use Rattle.command_words.specs.declared.forms.Form.TheVariants.{Run, OnFiles, Generate}
use Rattle.midas_cli.proofs.Calls.{called, never_usage}
use Rattle.midas_cli.specs.Outcomes.{script_cause}
use Rattle.midas_cli.proofs.Forms.{no_form}
use Rattle.midas_cli.proofs.top.midas.Goals as goal

pub returns-in-Ok-None-clause-tool : goal.returns-in-Ok-None-clause-tool
returns-in-Ok-None-clause-tool g c = λ tool names is.
    absurd (no_form c.in-Ok-None.field-0 c.in-Ok-None.field-0-is c.in-Ok-None.ensures.form (OnFiles tool, (names, is)))

pub returns-in-Ok-None-clause-generated : goal.returns-in-Ok-None-clause-generated
returns-in-Ok-None-clause-generated g c = λ number is.
    absurd (no_form c.in-Ok-None.field-0 c.in-Ok-None.field-0-is c.in-Ok-None.ensures.form (Generate number, is))

pub returns-in-Ok-None-clause-ran : goal.returns-in-Ok-None-clause-ran
returns-in-Ok-None-clause-ran g c = λ is.
    absurd (no_form c.in-Ok-None.field-0 c.in-Ok-None.field-0-is c.in-Ok-None.ensures.form (Run is.0, is.1))

pub returns-in-Ok-Some-OnFiles-clause-usage : goal.returns-in-Ok-Some-OnFiles-clause-usage
returns-in-Ok-Some-OnFiles-clause-usage g c =
    let i = c.in-Ok-Some-OnFiles in
    let call = called i.field-0 i.field-0-0 i.tool i.field-0-is i.field-0-0-is i.ensures.form in
    (λ usage. absurd (never_usage _ (c.run_tool.ensures.ran i.tool call.0 call.1) usage), λ none. absurd (none (OnFiles i.tool, call)))

pub returns-in-Ok-Some-Run-clause-ran : goal.returns-in-Ok-Some-Run-clause-ran
returns-in-Ok-Some-Run-clause-ran g c = λ is. inl (c.run_script-end.result.0, c.from-cause.ensures, c.run_script-end.ensures.ran)

pub returns-in-Ok-Some-Run-clause-completeness : goal.returns-in-Ok-Some-Run-clause-completeness
returns-in-Ok-Some-Run-clause-completeness g c = λ memory. c.run_script-end.ensures.completeness (λ end. memory (c.from-cause.ensures ∙ ap script_cause end))

pub returns-in-Ok-Some-Run-clause-console : goal.returns-in-Ok-Some-Run-clause-console
returns-in-Ok-Some-Run-clause-console g c = λ is. inl (c.run_script-end.result.0, c.from-cause.ensures, c.run_script-end.ensures.console)

pub returns-in-Ok-Some-Run-clause-ends_well : goal.returns-in-Ok-Some-Run-clause-ends_well
returns-in-Ok-Some-Run-clause-ends_well g c = λ is memory nothing. (
  c.run_script-end.result.0,
  c.from-cause.ensures,
  c.run_script-end.ensures.well (λ end. memory (c.from-cause.ensures ∙ ap script_cause end)) nothing,
)

pub returns-in-Ok-None-clause-console : goal.returns-in-Ok-None-clause-console
returns-in-Ok-None-clause-console g c = λ is.
    absurd (no_form c.in-Ok-None.field-0 c.in-Ok-None.field-0-is c.in-Ok-None.ensures.form (Run is.0, is.1))

pub returns-in-Ok-None-clause-ends_well : goal.returns-in-Ok-None-clause-ends_well
returns-in-Ok-None-clause-ends_well g c = λ is.
    absurd (no_form c.in-Ok-None.field-0 c.in-Ok-None.field-0-is c.in-Ok-None.ensures.form (Run is.0, is.1))
