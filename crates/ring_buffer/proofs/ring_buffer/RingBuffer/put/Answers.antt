use Rattle.std.proofs.Common.{ℕ, Ok, Result, ap, sym, subst, ◌∙◌}
use Rattle.event.specs.Headers.{event_of}
use Rattle.buffer_core.specs.declared.entry.BufferEntry.TheVariants.{Send}
use Rattle.buffer_core.specs.declared.replies.SendRefusal.{SendRefusal}
use Rattle.buffer_core.specs.Window.{Window, accepted_of, IsWindow}
use Rattle.buffer_core.specs.Calls.{after_send}
use Rattle.ring_buffer.proofs.CountLaws.{reads_no_more}
use Rattle.ring_buffer.proofs.Sending.{window_seen, accepted_is}
use Rattle.ring_buffer.proofs.ring_buffer.RingBuffer.put.Goals as goal

abbrev taken : ℕ → Result ℕ SendRefusal
taken n = Ok n

pub admit-requires-clause-window : goal.admit-requires-clause-window
admit-requires-clause-window c is =
    subst (λ (w : Window). IsWindow (after_send w c.args.start (event_of c.args.header.now c.args.body.now))) (sym c.in_ok-way.ensures.window)
    (c.requires.window (subst IsWindow c.in_ok-way.ensures.window is) (accepted_of c.args.self.now.window) c.in_ok-way.ensures.taken)

pub returns-clause-reply : goal.returns-clause-reply
returns-clause-reply c = ap taken (sym (accepted_is c.self.inside c.self.invariant) ∙ ap accepted_of (window_seen c.self.inside c.args.self.now c.self.view_is)) ∙ sym c.in_ok-way.ensures.taken

pub returns-clause-reads : goal.returns-clause-reads
returns-clause-reads c =
    reads_no_more c.args.self.now c.way_for.new.self c.admit.new.self (Send c.args.header.now.data_size (event_of c.args.header.now c.args.body.now) (Ok c.self.inside.count))
    (c.in_ok-way.ensures.reads c.self.inside.count) c.admit.ensures.reads c.admit.ensures.bytes_read
