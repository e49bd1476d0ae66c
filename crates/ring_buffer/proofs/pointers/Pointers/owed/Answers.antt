use Rattle.std.proofs.Common.{[], List, Option, ◌∙◌, sym, ap}
use Rattle.event.specs.Headers.{event_of}
use Rattle.buffer_core.specs.Slots.{first_slot}
use Rattle.buffer_core.specs.Window.{owes}
use Rattle.ring_buffer.specs.declared.pointer.Pointer.{Pointer}
use Rattle.ring_buffer.specs.Pointers.{clients_of}
use Rattle.ring_buffer.proofs.PointerLaws.{first_client}
use Rattle.ring_buffer.proofs.GivenNumbers.{first_given}
use Rattle.ring_buffer.proofs.pointers.Pointers.owed.Goals as goal

pub returns-in-Some : goal.returns-in-Some
returns-in-Some c =
    c.in-Some.ensures.value
    ∙ (first_given (λ (p : Pointer). owes c.args.place (event_of c.args.header.now []) p.client) c.self.inside.given c.self.inside.slots c.self.invariant.1
    ∙ (sym (first_client (owes c.args.place (event_of c.args.header.now [])) c.self.inside.slots)
    ∙ ap (λ (s : List (Option Pointer)). first_slot (owes c.args.place (event_of c.args.header.now [])) (clients_of s)) c.self.view_is))

pub returns-in-None : goal.returns-in-None
returns-in-None c =
    c.in-None.ensures.value
    ∙ (first_given (λ (p : Pointer). owes c.args.place (event_of c.args.header.now []) p.client) c.self.inside.given c.self.inside.slots c.self.invariant.1
    ∙ (sym (first_client (owes c.args.place (event_of c.args.header.now [])) c.self.inside.slots)
    ∙ ap (λ (s : List (Option Pointer)). first_slot (owes c.args.place (event_of c.args.header.now [])) (clients_of s)) c.self.view_is))
