use Rattle.console.proofs.ConsoleLaws.{refused_lines-more}
use Rattle.console.proofs.Refused.{counts_noted}
use Rattle.console.proofs.laws.refusals_grow.Goals as goal

pub returns-clause-lines : goal.returns-clause-lines
returns-clause-lines c = refused_lines-more

pub returns-clause-counted : goal.returns-clause-counted
returns-clause-counted c = counts_noted
