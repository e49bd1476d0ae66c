-- One call more behind a caller's own calls.
use Rattle.std.specs.Prelude.{◌≡◌, ℕ, List, [], ◌∷◌, ◌++◌}
use Rattle.std.proofs.Common.{ap, sym, ◌∙◌, inl, inr, append_assoc}
use Rattle.std.proofs.lemmas.List.{append-nil}
use Rattle.daq_types.specs.declared.events.Event.{Event}
use Rattle.buffer_core.specs.declared.entry.BufferEntry.{BufferEntry}
use Rattle.member_model.specs.SentCalls.{sent_by_call, own_sent, EachCall, IsSpentCall, WasSpent}

pub own_sent-push : (es : List BufferEntry) (e : BufferEntry) (start : ℕ) → own_sent (es ++ e ∷ []) start ≡ own_sent es start ++ sent_by_call e start
own_sent-push [] e start = append-nil (sent_by_call e start)
own_sent-push (x ∷ xs) e start =
    ap (λ (l : List Event). sent_by_call x start ++ l) (own_sent-push xs e start) ∙ sym (append_assoc (sent_by_call x start) (own_sent xs start) (sent_by_call e start))

pub EachCall-push : (P : BufferEntry → Type 0) (es : List BufferEntry) (e : BufferEntry) → EachCall P es → P e → EachCall P (es ++ e ∷ [])
EachCall-push P [] e all here = (here, tt)
EachCall-push P (x ∷ xs) e all here = (all.0, EachCall-push P xs e all.1 here)

pub WasSpent-push : (es : List BufferEntry) (e : BufferEntry) (start total : ℕ) → WasSpent es start total → WasSpent (es ++ e ∷ []) start total
WasSpent-push [] e start total was = absurd was
WasSpent-push (x ∷ xs) e start total was = elim was as (λ w. WasSpent ((x ∷ xs) ++ e ∷ []) start total) [
  | inl here ↦ inl here
  | inr later ↦ inr (WasSpent-push xs e start total later)
]

pub WasSpent-here : (es : List BufferEntry) (e : BufferEntry) (start total : ℕ) → IsSpentCall e start total → WasSpent (es ++ e ∷ []) start total
WasSpent-here [] e start total is = inl is
WasSpent-here (x ∷ xs) e start total is = inr (WasSpent-here xs e start total is)
