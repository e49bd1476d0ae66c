use Rattle.std.proofs.Common.{◌≡◌, Bool, [], subst, arith, rules}
use Rattle.std.proofs.lemmas.Result.{err_from_is_err_and}
use Rattle.std.specs.Str.Lines.{lines}
use Rattle.odb_text.specs.Loads.{watched_as, AdvancesText, IsTextFaultAt, place_at}
use Rattle.odb_text.proofs.Loads.{nothing_loaded, loaded_on, loaded_whole, fault_found}
use Rattle.odb_text.proofs.loading.load_into.Goals as goal

pub loop-line-init : goal.loop-line-init
loop-line-init g c =
    (nothing_loaded (watched_as (g.D.Database.rows c.args.database.now) (g.D.Database.watches c.args.database.now)) (lines c.args.text.now) c.root.result c.root.ensures, record { lines_fit = omega arith; counts_fit = omega arith })

pub loop-line-preserved : goal.loop-line-preserved
loop-line-preserved g c =
    let old = c.loop-line.at in
    let new = c.read_on.new.at in (
      loaded_on (watched_as (g.D.Database.rows c.args.database.now) (g.D.Database.watches c.args.database.now)) (lines c.args.text.now) (place_at old.rest.now old.line old.dir old.loaded) (place_at new.rest.now new.line new.dir new.loaded)
          (watched_as (g.D.Database.rows c.loop-line.database) (g.D.Database.watches c.loop-line.database)) (watched_as (g.D.Database.rows c.read_on.new.database) (g.D.Database.watches c.read_on.new.database)) c.loop-line.invariant.0
          (subst (λ (links : Bool). AdvancesText links (place_at old.rest.now old.line old.dir old.loaded) (place_at new.rest.now new.line new.dir new.loaded)
          (watched_as (g.D.Database.rows c.loop-line.database) (g.D.Database.watches c.loop-line.database)) (watched_as (g.D.Database.rows c.read_on.new.database) (g.D.Database.watches c.read_on.new.database))) c.keeps_links-links.ensures c.in_ok-read_on.ensures.on),
      c.in_ok-read_on.ensures.room,
    )

pub returns-in_err-read_on-clause-fault : goal.returns-in_err-read_on-clause-fault
returns-in_err-read_on-clause-fault g c =
    let p = err_from_is_err_and c.from_residual.result c.from_residual.ensures.1 in
    let old = c.loop-line.at in
    rw (p.1, p.2) (fault_found (watched_as (g.D.Database.rows c.args.database.now) (g.D.Database.watches c.args.database.now)) (lines c.args.text.now) (place_at old.rest.now old.line old.dir old.loaded) (watched_as (g.D.Database.rows c.loop-line.database) (g.D.Database.watches c.loop-line.database))
    c.in_err-read_on.field-0.0 c.loop-line.invariant.0
    (subst (λ (links : Bool). IsTextFaultAt links (place_at old.rest.now old.line old.dir old.loaded) (g.D.Database.rows c.loop-line.database) c.in_err-read_on.field-0.0) c.keeps_links-links.ensures c.in_err-read_on.ensures.fault))

pub returns-clause-loaded : goal.returns-clause-loaded
returns-clause-loaded g c =
    let old = c.loop-line.at in
    let e : lines old.rest.now ≡ [] = search rules in
    loaded_whole (watched_as (g.D.Database.rows c.args.database.now) (g.D.Database.watches c.args.database.now)) (lines c.args.text.now) (place_at old.rest.now old.line old.dir old.loaded) (watched_as (g.D.Database.rows c.loop-line.database) (g.D.Database.watches c.loop-line.database)) c.loop-line.invariant.0 e
