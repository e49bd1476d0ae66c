use Rattle.std.specs.Prelude.{◌+◌, ◌<◌, ◌%◌, ℕ}
use Rattle.std.proofs.Common.{arith, subst, ◌∙◌}
use Rattle.std.proofs.Math.Nat.{mod-lt}
use Rattle.member_crew.specs.Turns.{TurnsAt, TurnsOn}
use Rattle.member_crew.proofs.CrewLaws.{turn_more, turns_count}
use Rattle.member_crew.proofs.crew.Crew.turn_all.Goals as goal

pub turn-requires : goal.turn-requires
turn-requires g c =
    let at = c.loop-step in
    let count = turns_count (TurnsOn g.M.TakesTurns.turns) c.args.first at.step c.args.self.now.members at.self.members at.invariant.turns in
    let within : (c.args.first + at.step) % c.count-count.result < c.count-count.result = mod-lt (c.args.first + at.step) c.count-count.ensures.some in
    omega (arith, within, count, c.count-count.ensures.count)

pub loop-step-preserved : goal.loop-step-preserved
loop-step-preserved g c =
    let turns = TurnsOn g.M.TakesTurns.turns in
    let at = c.loop-step in
    let before = c.args.self.now.members in
    let turn = subst (λ (count : ℕ). TurnsAt turns ((c.args.first + at.step) % count) at.self.members c.turn.new.self.members c.turn.result) c.count-count.ensures.count c.turn.ensures.turn in
    record {
      turns = turn_more turns c.args.first at.step before at.self.members c.turn.new.self.members c.turn.result at.invariant.turns turn;
      pick = c.turn.ensures.pick ∙ at.invariant.pick;
    }
