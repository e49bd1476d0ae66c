use Rattle.std.proofs.Common.{◌≡◌, ◌∙◌, ap, refl, subst}
use Rattle.buffer_core.specs.Window.{Window, opening}
use Rattle.buffer_core.specs.Histories.{IsLegal, replay}
use Rattle.turn_lock.specs.Closing.{opened_with, history_of}
use Rattle.session_objects.specs.Members.{ring_window}
use Rattle.session_objects.proofs.closing.close_buffer.Goals as goal

pub returns-clause-record : goal.returns-clause-record
returns-clause-record c =
    let e = c.in-Ok.ensures in
    let size = c.args.buffer.size in
    let opens : (opened_with c.in-Ok.closed).buffer.window ≡ opening size = ap ring_window e.opened ∙ c.args.buffer.opens in
    let Legal : Window → Type 0 = λ w. IsLegal w (history_of c.in-Ok.closed) in record {
      name = refl;
      size = refl;
      legal = subst Legal opens e.legal;
      left = e.replayed ∙ ap (λ (w : Window). replay w (history_of c.in-Ok.closed)) opens;
      delivers = e.delivers size opens;
      runs = e.runs size opens;
    }
