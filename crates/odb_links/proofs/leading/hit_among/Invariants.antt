use Rattle.std.proofs.Common.{◌≡◌, drop}
use Rattle.odb_links.specs.Places.{hit_among}
use Rattle.odb_links.proofs.leading.hit_among.Given as goal

abbrev pub invariant-loop-i : goal.invariant-loop-i
invariant-loop-i l = hit_among l.links l.last l.numbers l.names ≡ hit_among l.links l.last (drop l.i l.numbers) (drop l.i l.names)
