use Rattle.std.proofs.Common.{length}
use Rattle.std.specs.Str.Lines.{lines}
use Rattle.odb_text.specs.Loads.{IsLoadedTo, watched_as, place_at, IsRoomy}
use Rattle.odb_text.proofs.loading.load_uncopied.Given as goal

abbrev pub invariant-loop-line : goal.invariant-loop-line
invariant-loop-line g l =
    IsLoadedTo (watched_as (g.D.Database.rows l.database) (g.D.Database.watches l.database)) (lines l.text) (place_at l.at.rest.now l.at.line l.at.dir l.at.loaded)
    (watched_as (g.D.Database.rows l.database) (g.D.Database.watches l.database))
    × IsRoomy l.at.line (length l.at.rest.now) l.at.loaded

abbrev pub decreases-loop-line : goal.decreases-loop-line
decreases-loop-line g l = length l.at.rest.now
