use Rattle.std.proofs.Common.{◌≡◌, true, false, rules}
use Rattle.std.proofs.lemmas.Option.{slice_get_within}
use Rattle.event_builder.specs.Inputs.{is_of_run}
use Rattle.event_builder.proofs.Faulted.{faults_own, faults_none, not_own_not_all}
use Rattle.event_builder.proofs.faults.fault_of.Goals as goal

pub fault_held-requires-clause-there : goal.fault_held-requires-clause-there
fault_held-requires-clause-there c = slice_get_within c.args.inputs.now c.args.input c.requires.there.0 c.requires.there.1

pub returns-then-is_own-clause-faults : goal.returns-then-is_own-clause-faults
returns-then-is_own-clause-faults c =
    let own : is_of_run c.args.start c.args.reply ≡ true = search rules in
    faults_own c.args.reply c.args.start c.args.input c.args.k c.args.limit c.args.inputs.now c.fault_held.result own c.fault_held.ensures.meets

pub returns-in_default-clause-faults : goal.returns-in_default-clause-faults
returns-in_default-clause-faults c =
    let other : is_of_run c.args.start c.args.reply ≡ false = search rules in
    faults_none c.args.reply c.args.start c.args.input c.args.k c.args.limit c.args.inputs.now other c.in_default.not-SmallBuf

pub returns-in_default-clause-joined : goal.returns-in_default-clause-joined
returns-in_default-clause-joined c =
    let other : is_of_run c.args.start c.args.reply ≡ false = search rules in
    λ all. absurd (not_own_not_all c.args.input c.args.start c.args.reply c.args.inputs.now c.requires.there.0 c.requires.there.1 c.requires.there.2 other all)
