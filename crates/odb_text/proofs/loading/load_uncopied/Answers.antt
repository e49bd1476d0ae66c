use Rattle.std.proofs.Common.{◌≡◌, ◌+◌, Bool, true, false, [], refl, sym, subst, ◌∙◌, arith, rules, inl}
use Rattle.std.specs.Str.Lines.{lines}
use Rattle.odb_text.specs.LineForms.{IsPassed}
use Rattle.odb_text.specs.Loads.{watched_as, IsTextFaultAt, place_at}
use Rattle.odb_text.proofs.Loads.{nothing_loaded, loaded_on, loaded_whole, fault_found}
use Rattle.odb_text.proofs.loading.load_uncopied.Goals as goal

pub loop-line-init : goal.loop-line-init
loop-line-init g c =
    (nothing_loaded (watched_as (g.D.Database.rows c.args.database.now) (g.D.Database.watches c.args.database.now)) (lines c.args.text.now) c.root.result c.root.ensures, record { lines_fit = omega arith; counts_fit = omega arith })

pub refused_first-requires-clause-read : goal.refused_first-requires-clause-read
refused_first-requires-clause-read g c = λ (p : IsPassed c.in-Some.line.now).
    let e : true ≡ false = sym (c.is_passed.ensures.1 p) ∙ c.if-not-is_passed.true in absurd (cc)

pub returns-then-not-is_passed-clause-fault : goal.returns-then-not-is_passed-clause-fault
returns-then-not-is_passed-clause-fault g c =
    let s = watched_as (g.D.Database.rows c.args.database.now) (g.D.Database.watches c.args.database.now) in
    let at = c.loop-line.at in
    fault_found s (lines c.args.text.now) (place_at at.rest.now at.line at.dir at.loaded) s c.refused_first.result c.loop-line.invariant.0
    (subst (λ (links : Bool). IsTextFaultAt links (place_at at.rest.now at.line at.dir at.loaded) s.rows c.refused_first.result) c.keeps_links-links.ensures (c.refused_first.ensures s.rows))

pub loop-line-preserved : goal.loop-line-preserved
loop-line-preserved g c =
    let s = watched_as (g.D.Database.rows c.args.database.now) (g.D.Database.watches c.args.database.now) in
    let at = c.loop-line.at in (
      loaded_on s (lines c.args.text.now) (place_at at.rest.now at.line at.dir at.loaded) (place_at c.in-Some.behind.now (at.line + 1) at.dir at.loaded) s s c.loop-line.invariant.0 (inl (record {
        own = c.in-Some.line.now;
        whole = c.in-Some.ensures.some;
        passed = c.is_passed.ensures.0 c.if-not-is_passed.false;
        next = refl;
        same_dir = refl;
        same_count = refl;
        same_state = refl;
      })),
      record { lines_fit = omega (arith, c.loop-line.invariant.1.lines_fit, c.in-Some.ensures.shorter); counts_fit = omega (arith, c.loop-line.invariant.1.counts_fit) },
    )

pub returns-clause-loaded : goal.returns-clause-loaded
returns-clause-loaded g c =
    let s = watched_as (g.D.Database.rows c.args.database.now) (g.D.Database.watches c.args.database.now) in
    let at = c.loop-line.at in
    let e : lines at.rest.now ≡ [] = search rules in
    loaded_whole s (lines c.args.text.now) (place_at at.rest.now at.line at.dir at.loaded) s c.loop-line.invariant.0 e
