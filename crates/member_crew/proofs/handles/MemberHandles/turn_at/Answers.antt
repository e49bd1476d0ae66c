use Rattle.std.specs.Prelude.{◌<◌, List, length, slice_set}
use Rattle.std.proofs.Common.{ap, arith, refl, subst}
use Rattle.std.proofs.lemmas.Option.{slice_get_read}
use Rattle.member_crew.specs.Turns.{ChangesPlace}
use Rattle.member_crew.specs.MemberHandles.{HandleSeen, TurnsIfHere}
use Rattle.member_crew.proofs.handles.MemberHandles.turn_at.Goals as goal

pub returns : goal.returns
returns g c =
    let handles = c.self.inside.handles in
    let handle = c.in-Some.handle.now in
    let within : c.args.place < length handles = omega (arith, c.requires, ap length c.self.view_is) in
    subst (λ (seen : List (HandleSeen g.row.M.Denot)). ChangesPlace (TurnsIfHere g.M.TakesTurns.turns) c.args.place seen (slice_set handles c.args.place c.turn.new.self)) c.self.view_is (record {
      was = handle;
      later = c.turn.new.self;
      stands = slice_get_read handles (length handles) c.args.place handle refl within c.in-Some.ensures.entry.1;
      changes = c.turn.ensures;
      is = refl;
    })
