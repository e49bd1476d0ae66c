use Rattle.std.proofs.Common.{ap, ◌∙◌}
use Rattle.transitions.specs.declared.replies.Progress.TheVariants.{Going, None as NoneGoing}
use Rattle.transitions.specs.declared.entry.EngineEntry.TheVariants.{Check}
use Rattle.turn_lock.specs.Passes.{number_of, seen_by, own_entries}
use Rattle.transition_lock.specs.SharedEngines.{first_engine}
use Rattle.session_runs.specs.MainKnowledge.{MainKnows, known_from}
use Rattle.session_runs.proofs.KnownCalls.{at_call}
use Rattle.session_runs.proofs.MadeLaws.{never_none, gives_none, known_going, waits_more}
use Rattle.session_runs.proofs.engine_making.wait_for_end.Goals as goal

pub loop-preserved : goal.loop-preserved
loop-preserved g c =
    let so_far = c.loop.invariant in
    let main = c.loop.main in
    let entered = c.in-Going.ensures.entered in
    let pass = c.check-progress.new.pass in
    let tallies = c.check-progress.new.tallies in
    let at = at_call (first_engine c.args.engine.now) (number_of main) (seen_by main) (seen_by pass) (Check Going tallies) c.requires.opening so_far.main entered.appends c.in-Going.ensures.legal in
    let none = gives_none (own_entries main) tallies at in
    record {
      main = entered.number ∙ so_far.main;
      own = entered.own;
      idle = entered.idle;
      empty = none;
      known = ap known_from entered.mine ∙ (known_going (own_entries main) tallies ∙ so_far.known);
      waits = waits_more g.M.Rounds.round (own_entries c.args.main.now) (own_entries main) (own_entries pass) c.args.members.now c.loop.members c.round.new.self tallies so_far.waits entered.mine none c.round.ensures;
    }

pub unreachable-requires : goal.unreachable-requires
unreachable-requires g c =
    let so_far = c.loop.invariant in
    let main = c.loop.main in
    let entered = c.in-None-progress.ensures.entered in
    let pass = c.check-progress.new.pass in
    let tallies = c.check-progress.new.tallies in
    let at = at_call (first_engine c.args.engine.now) (number_of main) (seen_by main) (seen_by pass) (Check NoneGoing tallies) c.requires.opening so_far.main entered.appends c.in-None-progress.ensures.legal in
    never_none (own_entries main) tallies c.requires.going.0 (ap (λ (k : MainKnows). k.going) so_far.known ∙ c.requires.going.1) at
