use Rattle.std.proofs.Common.{◌≡◌, true, Err}
use Rattle.odb_tree.specs.Rows.{Rows}
use Rattle.odb_tree.specs.declared.refusals.OdbRefusal.TheVariants.{NoMemory}
use Rattle.odb_tree.specs.declared.entry.DatabaseEntry.TheVariants.{Set, Find}
use Rattle.odb_tree.specs.Links.{meets_link}
use Rattle.odb_tree.proofs.Lasting.{set_memory, find_memory}
use Rattle.odb_watch.proofs.Standing.{called_at}
use Rattle.odb_watch.proofs.laws.links_alone_take_memory.Goals as goal

pub returns-clause-set : goal.returns-clause-set
returns-clause-set c = λ first h caller p index item more last leads other.
    called_at (λ (s : Rows). meets_link s p true ≡ true) first h caller (Set p index item (Err NoMemory)) more last (λ s reply. set_memory s p index item other reply) leads

pub returns-clause-find : goal.returns-clause-find
returns-clause-find c = λ first h caller p more last leads.
    called_at (λ (s : Rows). meets_link s p true ≡ true) first h caller (Find p (Err NoMemory)) more last (λ s reply. find_memory s p reply) leads
