use Rattle.std.proofs.Common.{rules}
use Rattle.session_setup.proofs.Sounds.{nothing_sound}
use Rattle.session_setup.proofs.declarations.Declarations.new.Goals as goal

pub invariant_of-result : goal.invariant_of-result
invariant_of-result c = nothing_sound c.push.new.self c.in_ok-fronts.fronts c.in_ok-channels.channels c.in_ok-analyzers.analyzers (search rules) (search rules) (search rules) (search rules)
