use Rattle.std.proofs.Common.{◌∙◌, ◌≤◌, List, ℕ, refl, rules, arith, sym, subst}
use Rattle.daq_io.proofs.SeenLaws.{Same-trans}
use Rattle.midas_tools.specs.Findings.{FilesByEnd}
use Rattle.midas_tools.specs.Gathering.{ReadsName}
use Rattle.midas_tools.specs.declared.ends.ToolEnd.{ToolEnd}
use Rattle.midas_tools.proofs.Gathered.{clash_first, gathered_none, goes_on, name_at, reads_too, stops_at}
use Rattle.midas_tools.proofs.gathering.gather_all.Goals as goal

pub loop-at-init : goal.loop-at-init
loop-at-init g c = record {
  gathers = gathered_none (g.T.EventTaker.has_taken c.args.gathered.now.summary) (g.F.Files.told c.args.files).seen c.args.gathered.now.extent c.requires.none c.requires.new;
  room = c.requires.room;
  faults = refl;
  first = λ none. refl;
  same = search rules;
}

pub returns-in_default : goal.returns-in_default
returns-in_default g c =
    let i = c.loop-at.invariant in
    let all = i.gathers.gathered in
    let name = name_at c.args.names.now c.loop-at.at c.index-names-at.result c.index-names-at.is c.loop-at-test.true in
    let reads = reads_too (g.F.Files.told c.args.files).seen (g.F.Files.told c.loop-at.files).seen i.same.files (g.T.EventTaker.has_taken c.gather_name-end.new.gathered.summary) all.events c.loop-at.gathered.extent c.gather_name-end.new.gathered.extent
    c.index-names-at.result c.gather_name-end.result.0 (c.gather_name-end.ensures.reads all.events all.taken all.few) in
    record {
      gathers = stops_at (g.T.EventTaker.has_taken c.loop-at.gathered.summary) (g.T.EventTaker.has_taken c.gather_name-end.new.gathered.summary) (g.F.Files.told c.args.files).seen c.args.names.now c.loop-at.at c.loop-at.gathered.extent
          c.gather_name-end.new.gathered.extent c.gather_name-end.new.gathered.extent c.gather_name-end.result.0 c.loop-at-test.true i.gathers
          (subst (λ (n : List ℕ). ReadsName (g.T.EventTaker.has_taken c.gather_name-end.new.gathered.summary) all.events c.loop-at.gathered.extent c.gather_name-end.new.gathered.extent (g.F.Files.told c.args.files).seen n c.gather_name-end.result.0) name reads)
          c.in_default.not-Done;
      inside = λ some. c.loop-at-test.true;
      faults = subst (λ (n : ℕ). FilesByEnd c.gather_name-end.result.0 n (g.F.Files.told c.gather_name-end.result.1).faults) i.faults c.gather_name-end.ensures.faults;
      clashes = λ one. clash_first _ _ _ c.gather_name-end.result.0 (i.first (omega (arith, one, c.loop-at-test.true))) c.gather_name-end.ensures.clashes;
      same = Same-trans i.same c.gather_name-end.ensures.same;
    }

pub loop-at-preserved : goal.loop-at-preserved
loop-at-preserved g c =
    let i = c.loop-at.invariant in
    let all = i.gathers.gathered in
    let name = name_at c.args.names.now c.loop-at.at c.index-names-at.result c.index-names-at.is c.loop-at-test.true in
    let reads = reads_too (g.F.Files.told c.args.files).seen (g.F.Files.told c.loop-at.files).seen i.same.files (g.T.EventTaker.has_taken c.gather_name-end.new.gathered.summary) all.events c.loop-at.gathered.extent c.gather_name-end.new.gathered.extent
    c.index-names-at.result c.gather_name-end.result.0 (c.gather_name-end.ensures.reads all.events all.taken all.few) in
    record {
      gathers = goes_on (g.T.EventTaker.has_taken c.loop-at.gathered.summary) (g.T.EventTaker.has_taken c.gather_name-end.new.gathered.summary) (g.F.Files.told c.args.files).seen c.args.names.now c.loop-at.at c.loop-at.gathered.extent
          c.gather_name-end.new.gathered.extent c.gather_name-end.result.0 c.in-Done.is c.loop-at-test.true i.gathers
          (subst (λ (n : List ℕ). ReadsName (g.T.EventTaker.has_taken c.gather_name-end.new.gathered.summary) all.events c.loop-at.gathered.extent c.gather_name-end.new.gathered.extent (g.F.Files.told c.args.files).seen n c.gather_name-end.result.0) name reads);
      room = subst (λ (n : ℕ). _ ≤ n) (sym c.gather_name-end.ensures.room) i.room;
      faults = subst (λ (e : ToolEnd). FilesByEnd e (g.F.Files.told c.loop-at.files).faults (g.F.Files.told c.gather_name-end.result.1).faults) c.in-Done.is c.gather_name-end.ensures.faults ∙ i.faults;
      first = λ none. absurd (omega (arith, none));
      same = Same-trans i.same c.gather_name-end.ensures.same;
    }
