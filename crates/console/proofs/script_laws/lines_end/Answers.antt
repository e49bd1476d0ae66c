use Rattle.std.proofs.Common.{refl, inl}
use Rattle.console.proofs.PlayingEnds.{broken_at}
use Rattle.console.proofs.ClosingLaws.{finished, nothing_behind}
use Rattle.std.proofs.Common.{[], None}
use Rattle.console.proofs.script_laws.lines_end.Goals as goal

pub returns-clause-broken : goal.returns-clause-broken
returns-clause-broken g c = broken_at g.A.Answerer.does g.A.Answerer.breaks g.A.Answerer.withdraws

pub returns-clause-quiet : goal.returns-clause-quiet
returns-clause-quiet g c = λ first now later ending source left told_first told refusals played closed.
    finished g.A.Answerer.does g.A.Answerer.breaks g.A.Answerer.withdraws g.A.Answerer.closes g.A.Answerer.gives_up first ending None source left told_first told told now later refusals [] played
    (inl (record { reply = None; closed = closed; is = refl })) (nothing_behind ending None told (λ fails. cc (fails)))
