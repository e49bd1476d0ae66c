use Rattle.std.proofs.Common.{◌∙◌}
use Rattle.session_laws.proofs.record_laws.session_ended.Goals as goal

pub returns : goal.returns
returns g c = λ lists logger ended.
    let ends = c.members_end.ensures lists logger ended in
    let holds = c.session_holds.ensures _ ends.0 in
    (holds.0, holds.1 ∙ ends.1)
