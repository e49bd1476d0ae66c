use Rattle.odb_script.proofs.TableLaws.{refused_at, long_refused, comment_passed}
use Rattle.odb_script.proofs.laws.first_misfit_refused.Goals as goal

pub returns-clause-refused : goal.returns-clause-refused
returns-clause-refused c = refused_at

pub returns-clause-long : goal.returns-clause-long
returns-clause-long c = long_refused

pub returns-clause-comment : goal.returns-clause-comment
returns-clause-comment c = comment_passed
