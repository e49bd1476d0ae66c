use Rattle.std.proofs.Common.{ap, ◌∙◌, Err}
use Rattle.odb_tree.specs.declared.refusals.OdbRefusal.{OdbRefusal}
use Rattle.odb_runinfo.proofs.SetCalls.{not_called, key_wanting}
use Rattle.odb_runinfo.proofs.sets.open_front.Goals as goal

pub returns-in_err-path-clause-interrupted : goal.returns-in_err-path-clause-interrupted
returns-in_err-path-clause-interrupted g c = not_called _ _ _

pub returns-in-Err-NoMemory-clause-interrupted : goal.returns-in-Err-NoMemory-clause-interrupted
returns-in-Err-NoMemory-clause-interrupted g c = key_wanting _ _ _ _ _ c.in_ok-path.ensures (c.in-Err-NoMemory.is ∙ ap (λ (x : OdbRefusal). Err x) c.in-Err-NoMemory.field-0-is) c.create.ensures
