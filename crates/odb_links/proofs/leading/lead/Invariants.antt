use Rattle.odb_links.specs.Seen.{seen}
use Rattle.odb_links.proofs.Following.{IsOnWay}
use Rattle.odb_links.proofs.leading.lead.Given as goal

abbrev pub invariant-loop-steps : goal.invariant-loop-steps
invariant-loop-steps g l = IsOnWay (seen l.links (g.D.Database.rows l.tree)).rows l.last l.path l.steps l.led
