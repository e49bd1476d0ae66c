use Rattle.std.proofs.Common.{subst, sym, ◌∙◌}
use Rattle.std.specs.List.{AllZip}
use Rattle.member_crew.specs.Turns.{HadSoMany, TurnsOn}
use Rattle.member_crew.specs.Crews.{ReadsPick}
use Rattle.member_crew.proofs.CrewLaws.{rounds_back, rounds_kept}
use Rattle.member_crew.proofs.in_turns.play_in_turns.Goals as goal

pub returns-clause-back : goal.returns-clause-back
returns-clause-back g c =
    let turns = g.M.TakesTurns.turns in
    let rounds = c.play-played.ensures.rounds in
    let between = c.play-played.result.1.members in
    let kept = rounds_kept (TurnsOn turns) g.K.Pick.told rounds.0 c.new.result c.play-played.result.1 rounds.1 in
    rounds_back turns rounds.0 c.args.parts.members between c.into_ended.result.members (subst (λ before. AllZip (HadSoMany (TurnsOn turns) rounds.0) before between) c.new.ensures.members kept.had) c.into_ended.ensures.ends

pub returns-clause-pick : goal.returns-clause-pick
returns-clause-pick g c =
    let rounds = c.play-played.ensures.rounds in
    let kept = rounds_kept (TurnsOn g.M.TakesTurns.turns) g.K.Pick.told rounds.0 c.new.result c.play-played.result.1 rounds.1 in
    (rounds.0, subst (λ pick. ReadsPick g.K.Pick.told rounds.0 pick c.into_ended.result.pick) c.new.ensures.pick (subst (λ pick. ReadsPick g.K.Pick.told rounds.0 c.new.result.pick pick) (sym c.into_ended.ensures.pick) kept.pick))
