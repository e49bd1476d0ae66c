-- A caller's part of a history that goes on.
use Rattle.std.specs.Prelude.{◌≡◌, ℕ, zero, suc, List, [], ◌∷◌, ◌++◌, slice_get, Some, Ok, ◌⊎◌}
use Rattle.std.proofs.Common.{ap, sym, ◌∙◌, subst, append_assoc, inl, inr}
use Rattle.buffer_core.specs.declared.entry.BufferEntry.{BufferEntry}
use Rattle.buffer_core.specs.Window.{Sent}
use Rattle.buffer_core.specs.Continued.{sent_in}
use Rattle.buffer_core.specs.Points.{sent, past_of}
use Rattle.buffer_core.specs.Ports.{GotEvent}
use Rattle.history_laws.specs.OneCaller.{WasSentAt}
use Rattle.member_model.specs.OwnCalls.{AreOwnCalls}
use Rattle.member_model.specs.ReadRuns.{IsReading, IsDraining}
use Rattle.member_model.proofs.ReadLaws.{calls_after-push, run_push}
use Rattle.buffer_core.specs.declared.entry.BufferEntry.TheVariants.{End}
use Rattle.member_model.specs.CutRuns.{MarksEnd}
use Rattle.history_laws.specs.CallerLaws.{PartGoesOn, ReadGoesOn, CutGoesOn, OwnGoOn}
use Rattle.history_laws.specs.BufferLaws.{BufferLaws}
use Rattle.history_laws.proofs.OwnPlaces.{all_weaker}

pub get_front : {X : Type 0} (xs ys : List X) (i : ℕ) (x : X) → slice_get xs i ≡ Some x → slice_get (xs ++ ys) i ≡ Some x
get_front [] ys i x e = absurd (cc (e))
get_front (z ∷ zs) ys zero x e = e
get_front (z ∷ zs) ys (suc i) x e = get_front zs ys i x e

pub part_goes_on : BufferLaws → PartGoesOn
part_goes_on laws seen history caller own got part begins silent =
    let more : List (ℕ × BufferEntry) = begins.0 in
    let whole : sent (past_of history) ≡ sent (past_of seen) ++ sent_in more = ap (λ (h : List (ℕ × BufferEntry)). sent (past_of h)) (sym begins.1) ∙ laws.events seen more in
    record {
      own_is = part.own_is ∙ sym silent;
      sent_so = all_weaker (WasSentAt seen) (WasSentAt history)
          (λ g is. subst (λ (ss : List Sent). slice_get ss g.place ≡ Some (record { event = g.event; start = g.start })) (sym whole)
          (get_front (sent (past_of seen)) (sent_in more) g.place (record { event = g.event; start = g.start }) is))
          got part.sent_so;
    }

pub read_goes_on : ReadGoesOn
read_goes_on own more got later client id mask number start begun ended events read = run_push own got client id mask number start begun ended events more later read

ends_still : (calls more : List BufferEntry) (start ended : ℕ) → MarksEnd calls start ended → MarksEnd (calls ++ more) start ended
ends_still calls more start ended ends =
    record {
      before = ends.before;
      after = ends.after ++ more;
      is = ap (λ (es : List BufferEntry). es ++ more) ends.is ∙ append_assoc ends.before (End start (Ok ended) ∷ ends.after) more;
    }

pub cut_goes_on : CutGoesOn
cut_goes_on own more got later client id mask number start begun ended events cut =
    record {
      calls = cut.calls;
      later = cut.later ++ more;
      got_by = cut.got_by;
      got_later = cut.got_later ++ later;
      own_is = ap (λ (es : List BufferEntry). es ++ more) cut.own_is ∙ append_assoc cut.calls cut.later more;
      got_is = ap (λ (gs : List GotEvent). gs ++ later) cut.got_is ∙ append_assoc cut.got_by cut.got_later later;
      stage = elim cut.stage as (λ w. (IsReading cut.calls cut.got_by client id mask number start begun events × MarksEnd (cut.later ++ more) start ended) ⊎ IsDraining cut.calls cut.got_by client id mask number start begun ended events) [
        | inl on ↦ inl (on.0, ends_still cut.later more start ended on.1)
        | inr off ↦ inr off
      ];
    }

pub own_go_on : OwnGoOn
own_go_on own entry are is = subst AreOwnCalls (sym (calls_after-push [] own entry)) (is, are)
