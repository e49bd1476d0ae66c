use Rattle.std.proofs.Common.{◌≡◌, Ok, Err, Bool, if◌then◌else◌, sym, ap, ◌∙◌, true}
use Rattle.event.specs.Headers.{event_of}
use Rattle.buffer_core.specs.declared.entry.BufferEntry.TheVariants.{SendInRun}
use Rattle.buffer_core.specs.Calls.{is_running, send_reply}
use Rattle.buffer_core.specs.declared.replies.SendRefusal.TheVariants.{NotRunning}
use Rattle.buffer_core.proofs.WindowKept.{window_stays}
use Rattle.ring_buffer.specs.CountedWindows.{CountedWindow}
use Rattle.ring_buffer.proofs.calls.RingBufferEventBuffer.send_in_run.Goals as goal

pub put-requires : goal.put-requires
put-requires c =
    let running : is_running c.args.self.now.window.gate c.args.start ≡ true =
    sym (ap (λ (v : CountedWindow). is_running v.window.gate c.args.start) c.self.view_is) ∙ (sym c.is_running.ensures ∙ c.if-not-is_running.false) in
    record {
      window = λ is n ok.
          window_stays c.args.self.now.window (SendInRun c.args.start c.args.header.now.data_size (event_of c.args.header.now c.args.body.now) (Ok n)) is
          (sym (ap (λ (b : Bool). if b then send_reply c.args.self.now.window c.args.header.now.data_size (event_of c.args.header.now c.args.body.now) else Err (NotRunning c.args.self.now.window.gate)) running ∙ ok));
    }
