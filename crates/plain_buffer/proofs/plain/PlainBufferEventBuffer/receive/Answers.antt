use Rattle.std.proofs.Common.{◌≡◌, ℕ, List, Some, None, refl, subst, sym, ap, ◌∙◌}
use Rattle.event.specs.Held.{HeldEvent}
use Rattle.plain_buffer.specs.declared.rows.Row.{Row}
use Rattle.buffer_core.specs.declared.replies.Received.TheVariants.{Got}
use Rattle.buffer_core.specs.Window.{Window, Sent, accepted_of}
use Rattle.buffer_core.specs.Calls.{found_in, event_after}
use Rattle.plain_buffer.specs.Rows.{sent_of, kept_of}
use Rattle.plain_buffer.specs.Plain.{plain_window}
use Rattle.buffer_core.proofs.WindowLaws.{event_got}
use Rattle.std.specs.Prelude.{slice_set}
use Rattle.buffer_core.specs.declared.client.Client.{Client}
use Rattle.plain_buffer.proofs.Stays.{plain_clients, window_got, window_drained}
use Rattle.plain_buffer.proofs.plain.PlainBufferEventBuffer.receive.Goals as goal

pub invariant_of-self : goal.invariant_of-self
invariant_of-self c =
    let s : Sent = sent_of c.in-Some-first_wanted.found.row c.in-Some-first_wanted.found.body.now in
    let found : found_in c.in-Some.reader c.self.inside.first (kept_of c.self.inside.rows.items c.self.inside.bytes.items) ≡ Some (c.in-Some-first_wanted.found.place, s) =
    ap (λ (rows : List Row). found_in c.in-Some.reader c.self.inside.first (kept_of rows c.self.inside.bytes.items)) (sym c.as_slice.ensures.value)
    ∙ (ap (λ (bytes : List ℕ). found_in c.in-Some.reader c.self.inside.first (kept_of c.as_slice.result.now bytes)) (sym c.as_slice-2.ensures.value)
    ∙ c.in-Some-first_wanted.ensures.some) in
    plain_clients c.self.inside c.set.new.self c.self.invariant
    (window_got (plain_window c.self.inside) c.args.client c.in-Some-first_wanted.found.place s c.in-Some.reader c.set.new.self c.self.invariant.kept (sym c.in-Some.ensures) found
    (c.set.ensures ∙ ap (λ (x : Client). slice_set c.self.inside.clients c.args.client (Some x)) c.going_on.ensures))

pub invariant_of-self-in-None : goal.invariant_of-self-in-None
invariant_of-self-in-None c =
    let none : found_in c.in-Some.reader c.self.inside.first (kept_of c.self.inside.rows.items c.self.inside.bytes.items) ≡ None =
    ap (λ (rows : List Row). found_in c.in-Some.reader c.self.inside.first (kept_of rows c.self.inside.bytes.items)) (sym c.as_slice.ensures.value)
    ∙ (ap (λ (bytes : List ℕ). found_in c.in-Some.reader c.self.inside.first (kept_of c.as_slice.result.now bytes)) (sym c.as_slice-2.ensures.value)
    ∙ c.in-None.ensures.none refl) in
    plain_clients c.self.inside c.set-in-None.new.self c.self.invariant
    (window_drained (plain_window c.self.inside) c.args.client c.accepted-accepted.result c.in-Some.reader c.set-in-None.new.self c.self.invariant.kept (sym c.in-Some.ensures) none
    (c.accepted-accepted.ensures.reply ∙ ap accepted_of (sym c.self.view_is))
    (c.set-in-None.ensures ∙ ap (λ (x : Client). slice_set c.self.inside.clients c.args.client (Some x)) c.going_on-in-None.ensures))

pub returns-in-Ok-clause-event : goal.returns-in-Ok-clause-event
returns-in-Ok-clause-event c =
    let s : Sent = sent_of c.in-Some-first_wanted.found.row c.in-Some-first_wanted.found.body.now in
    let found : found_in c.in-Some.reader c.self.inside.first (kept_of c.self.inside.rows.items c.self.inside.bytes.items) ≡ Some (c.in-Some-first_wanted.found.place, s) =
    ap (λ (rows : List Row). found_in c.in-Some.reader c.self.inside.first (kept_of rows c.self.inside.bytes.items)) (sym c.as_slice.ensures.value)
    ∙ (ap (λ (bytes : List ℕ). found_in c.in-Some.reader c.self.inside.first (kept_of c.as_slice.result.now bytes)) (sym c.as_slice-2.ensures.value)
    ∙ c.in-Some-first_wanted.ensures.some) in
    let got : event_after c.args.into.now.event (plain_window c.self.inside) (Got c.in-Some-first_wanted.found.place c.in-Some-first_wanted.found.row.start) ≡ s.event =
    event_got (plain_window c.self.inside) c.in-Some.reader c.in-Some-first_wanted.found.place c.in-Some-first_wanted.found.row.start s c.args.into.now.event found in
    ap (λ (h : HeldEvent). h.event) c.in-Ok.ensures.ok
    ∙ subst (λ (w : Window). s.event ≡ event_after c.args.into.now.event w (Got c.in-Some-first_wanted.found.place c.in-Some-first_wanted.found.row.start)) c.self.view_is (sym got)
