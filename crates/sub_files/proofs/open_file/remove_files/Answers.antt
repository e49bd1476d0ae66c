use Rattle.std.proofs.Common.{◌≡◌, ◌+◌, ◌∙◌, ℕ, List, subst}
use Rattle.daq_io.specs.Counts.{first_of}
use Rattle.daq_io.specs.Seen.{Removes}
use Rattle.sub_files.specs.Patterns.{piece_name_by}
use Rattle.sub_files.proofs.RemoveSteps.{HasRemoved, removed_ok, removed_err}
use Rattle.sub_files.proofs.open_file.remove_files.Goals.{in-Ok, in-Err}
use Rattle.sub_files.proofs.open_file.remove_files.Goals as goal

pub loop-sub-preserved : goal.loop-sub-preserved
loop-sub-preserved g c =
    let names = piece_name_by c.args.pattern.now c.args.run in
    let many = c.loop-sub.sub in
    let a = (g.F.Files.told c.args.files.now).seen in let b = (g.F.Files.told c.loop-sub.files).seen in let d = (g.F.Files.told c.remove.new.self).seen in
    let fa = (g.F.Files.told c.args.files.now).faults in let fb = (g.F.Files.told c.loop-sub.files).faults in let fd = (g.F.Files.told c.remove.new.self).faults in
    let oa = (g.F.Files.told c.args.files.now).first in let ob = (g.F.Files.told c.loop-sub.files).first in let od = (g.F.Files.told c.remove.new.self).first in
    let before = c.loop-sub.invariant.removed in
    record {
      removed = elim c.match-remove.branch as (λ w. HasRemoved names (many + 1) a d fa fd oa od c.match-remove.answer) [
        | in-Ok w ↦ rw w.answer-is
            (removed_ok names many a b d fa fb fd oa ob od c.loop-sub.answer before (subst (λ (name : List ℕ). Removes b d name) c.name.ensures w.in-Ok.ensures.removed) w.in-Ok.ensures.faults.done w.in-Ok.ensures.first.done)
        | in-Err w ↦ rw w.answer-is
            (removed_err names many a b d fa fb fd oa ob od c.loop-sub.answer w.in-Err.failed before w.in-Err.ensures.kept w.in-Err.ensures.faults.failed w.in-Err.ensures.faults.later
            (subst (λ (name : List ℕ). od ≡ first_of ob name) c.name.ensures w.in-Err.ensures.first.failed))
      ];
      clashes = c.remove.ensures.clashes ∙ c.loop-sub.invariant.clashes;
    }
