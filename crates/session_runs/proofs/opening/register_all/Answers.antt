use Rattle.std.specs.Prelude.{◌<◌, ℕ, length}
use Rattle.std.proofs.Common.{arith}
use Rattle.turn_lock.specs.Passes.{own_entries}
use Rattle.session_runs.proofs.MadeLaws.{registers_next}
use Rattle.session_runs.proofs.opening.register_all.Goals as goal

pub loop-member-preserved : goal.loop-member-preserved
loop-member-preserved g c =
    let members = c.args.members.now in
    let i : ℕ = c.loop-member.member-index in
    let within : i < length members = omega arith in
    let so_far = c.loop-member.invariant in
    let one = c.register_one.ensures in
    let more = registers_next members i c.member-item.result (own_entries c.args.main.now) (own_entries c.loop-member.main) (own_entries c.register_one.new.main) within c.member-item.is so_far.joined so_far.registered one.registered in
    record {
      main = one.main;
      own = one.own;
      idle = one.idle;
      joined = more.joined;
      registered = more.registered;
    }
