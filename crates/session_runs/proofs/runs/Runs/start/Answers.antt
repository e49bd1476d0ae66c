use Rattle.std.specs.Prelude.{IsOk, refl}
use Rattle.std.proofs.Common.{rules, subst}
use Rattle.daq_types.specs.declared.runs.Transition.TheVariants.{Start}
use Rattle.session_runs.specs.MainKnowledge.{begin_known, known_from}
use Rattle.odb_runinfo.specs.RunSets.{GetsNumber}
use Rattle.session_runs.specs.RunAnswers.{point_of}
use Rattle.session_runs.proofs.MadeCalls.{start_answers, start_cut}
use Rattle.session_runs.proofs.runs.Runs.start.Goals as goal

pub returns-in-Ok-clause-did : goal.returns-in-Ok-clause-did
returns-in-Ok-clause-did g c =
    let access = g.D.DatabasePort.access in
    start_answers g.M.Rounds.round c.start_run.result c.in-Ok.run' _ _ _ (point_of c.args.self.now (access c.next_run.new.port) c.args.members.now) _
    (record { number = subst (GetsNumber (access c.args.database.now) (access c.next_run.new.port)) c.in-Ok.is c.in_ok-refusal.ensures.run; runs = refl; members = refl }) c.start_run.ensures.did

pub returns-in-Ok-clause-interrupted : goal.returns-in-Ok-clause-interrupted
returns-in-Ok-clause-interrupted g c =
    let begins : IsOk (begin_known (known_from c.args.self.now.main.own) Start) = search rules in
    let access = g.D.DatabasePort.access in
    start_cut g.M.Rounds.round c.start_run.result c.in-Ok.run' _ _ _ (point_of c.args.self.now (access c.next_run.new.port) c.args.members.now) _ begins
    (record { number = subst (GetsNumber (access c.args.database.now) (access c.next_run.new.port)) c.in-Ok.is c.in_ok-refusal.ensures.run; runs = refl; members = refl }) c.start_run.ensures.interrupted
