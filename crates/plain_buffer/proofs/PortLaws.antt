-- Laws of ports that keep the journal of their calls.
use Rattle.std.specs.Prelude.{◌≡◌, ℕ, ◌-◌, List, [], ◌∷◌, ◌++◌}
use Rattle.std.proofs.Common.{ap, sym, subst, ◌∙◌}
use Rattle.buffer_core.specs.declared.entry.BufferEntry.{BufferEntry}
use Rattle.buffer_core.specs.Window.{Window}
use Rattle.buffer_core.specs.Calls.{IsReply, window_after}
use Rattle.buffer_core.specs.Histories.{IsLegal, replay}
use Rattle.buffer_core.proofs.HistoryLaws.{replay-push, legal_push}
use Rattle.plain_buffer.specs.Ported.{Ported, IsPorted}

-- a call more
pub ported_push : (start w w' : Window) (h h' : List (ℕ × BufferEntry)) (by : ℕ) (e : BufferEntry) → IsLegal start h → w ≡ replay start h → IsReply w e → w' ≡ window_after w e
    → h' ≡ h ++ (by, e) ∷ [] → IsLegal start h' × (w' ≡ replay start h')
ported_push start w w' h h' by e legal replayed reply after pushed =
    let here : IsReply (replay start h) e = subst (λ (x : Window). IsReply x e) replayed reply in (
      subst (IsLegal start) (sym pushed) (legal_push start h by e legal here),
      after ∙ (ap (λ (x : Window). window_after x e) replayed ∙ (sym (replay-push start h by e) ∙ ap (replay start) (sym pushed))),
    )

pub ported_next : (p : Ported) (w' : Window) (h' : List (ℕ × BufferEntry)) (calls bytes : ℕ) (e : BufferEntry) → IsPorted p → IsReply p.window e → w' ≡ window_after p.window e
    → h' ≡ p.history ++ (p.caller, e) ∷ []
    → IsPorted (record { start = p.start; window = w'; history = h'; caller = p.caller; calls = calls; bytes = bytes })
ported_next p w' h' calls bytes e is reply after pushed =
    let both = ported_push p.start p.window w' p.history h' p.caller e is.legal is.replayed reply after pushed in
    record { opens = is.opens; legal = both.0; replayed = both.1 }
