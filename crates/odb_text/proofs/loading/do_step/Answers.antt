use Rattle.std.proofs.Common.{ℕ, ◌<◌, List, length, refl, sym, subst}
use Rattle.std.specs.Str.Lines.{lines}
use Rattle.odb_text.specs.Loads.{IsTextFaultAt, place_at, IsRoomy}
use Rattle.odb_text.proofs.Written.{block_rest}
use Rattle.odb_text.proofs.Loads.{refused_fault, done_step, room_left, shorter_left}
use Rattle.odb_text.proofs.loading.do_step.Goals as goal

pub returns-in-Err-clause-fault : goal.returns-in-Err-clause-fault
returns-in-Err-clause-fault g c =
    let at = c.args.at.now in
    let block = c.args.block in
    subst (IsTextFaultAt c.args._links (place_at at.rest.now at.line at.dir at.loaded) (g.D.Database.rows c.args.database.now)) (sym c.refused_at.ensures)
    (refused_fault c.args._links at.rest.now at.line at.dir at.loaded (g.D.Database.rows c.args.database.now) (lines at.rest.now) (lines block.rest.now) block.act block.lines
    c.in-Err.why refl c.requires.block c.in-Err.ensures.refused)

pub returns-in-Ok-clause-on : goal.returns-in-Ok-clause-on
returns-in-Ok-clause-on g c =
    let at = c.args.at.now in
    let block = c.args.block in
    let new = c.pass.new.self in
    done_step c.args._links at.rest.now new.rest.now at.line new.line at.dir new.dir at.loaded new.loaded (g.D.Database.rows c.args.database.now) (g.D.Database.rows c.do_act.new.database)
    (g.D.Database.watches c.args.database.now) (g.D.Database.watches c.do_act.new.database) (lines at.rest.now) block.act block.lines refl
    (block_rest c.args._links at.dir (lines at.rest.now) block.act block.rest.now new.rest.now block.lines (sym c.pass.ensures.rest) c.requires.block)
    c.in-Ok.ensures.fine c.in-Ok.ensures.done c.in-Ok.ensures.noted c.pass.ensures.line c.pass.ensures.dir c.pass.ensures.loaded

pub returns-in-Ok-clause-room : goal.returns-in-Ok-clause-room
returns-in-Ok-clause-room g c =
    let at = c.args.at.now in
    let block = c.args.block in
    let new = c.pass.new.self in
    subst (λ (l : List ℕ). IsRoomy new.line (length l) new.loaded) (sym c.pass.ensures.rest)
    (room_left c.args._links at.line new.line (length block.rest.now) (length at.rest.now) at.loaded new.loaded at.dir (lines at.rest.now) (lines block.rest.now) block.act block.lines
    c.requires.room c.requires.block c.requires.shorter c.pass.ensures.line c.pass.ensures.loaded)

pub returns-in-Ok-clause-shorter : goal.returns-in-Ok-clause-shorter
returns-in-Ok-clause-shorter g c =
    let at = c.args.at.now in
    let block = c.args.block in
    subst (λ (l : List ℕ). length l < length at.rest.now) (sym c.pass.ensures.rest)
    (shorter_left c.args._links (length block.rest.now) (length at.rest.now) block.lines at.dir (lines at.rest.now) (lines block.rest.now) block.act c.requires.block c.requires.shorter)
