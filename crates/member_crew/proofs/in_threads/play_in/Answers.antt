use Rattle.member_crew.proofs.HandleLaws.{away_back, rounds_away}
use Rattle.member_crew.proofs.in_threads.play_in.Goals as goal

pub returns-clause-back : goal.returns-clause-back
returns-clause-back g c =
    let turns = g.M.TakesTurns.turns in
    let rounds = c.play-played.ensures.rounds in
    let away = rounds_away turns rounds.0 c.args.members c.send_all-handles.result c.play-played.result.1 c.send_all-handles.ensures rounds.1 in
    away_back turns c.args.members c.call_back.new.back c.play-played.result.1 away c.call_back.ensures
