-- Sends that are refused for no cause: each fails one part alone.
use Rattle.std.specs.Prelude.{◌≡◌, ◌≢◌, ℕ, ◌+◌, ◌^◌, ◌<◌, ◌≤◌, List, [], ◌∷◌, Some, None, Err, refl}
use Rattle.std.proofs.Common.{arith}
use Rattle.event.specs.Events.{slot_of_length}
use Rattle.buffer_core.specs.declared.replies.SendRefusal.{SendRefusal}
use Rattle.buffer_core.specs.declared.entry.BufferEntry.{BufferEntry}
use Rattle.buffer_core.specs.declared.entry.BufferEntry.TheVariants.{Send}
use Rattle.buffer_core.specs.Points.{Life}
use Rattle.buffer_core.specs.Delivered.{DeliveryPart, InOrder, Complete, HeldBack, Bounded, MeetsPart, FailsAlone}
use Rattle.buffer_core.specs.Samples.{sample_event, refused_for_size, refused_for_id, refused_as_too_large, refused_as_spent, refused_with_other_total, refused_in_run, refused_with_other_gate, refused_without_run}

-- one send that is refused, and nothing before
others_of_one : (size : ℕ) (refusal : SendRefusal) (other : DeliveryPart) → other ≢ HeldBack → MeetsPart other size ((1, Send 0 sample_event (Err refusal)) ∷ [])
others_of_one size refusal InOrder ne = (tt, tt)
others_of_one size refusal Complete ne = (tt, tt)
others_of_one size refusal HeldBack ne = absurd (ne refl)
others_of_one size refusal Bounded ne = (λ client life lives. absurd (cc (lives)), tt)

pub size_alone : (size : ℕ) → FailsAlone HeldBack size refused_for_size
size_alone size = record { fails = λ d. d.0.1.1 (refl, omega arith); others = others_of_one size _ }

pub id_alone : (size : ℕ) → FailsAlone HeldBack size refused_for_id
id_alone size = record { fails = λ d. cc (d.0.1.1); others = others_of_one size _ }

pub large_alone : (size : ℕ) → FailsAlone HeldBack size refused_as_too_large
unfolding slot_of_length
large_alone size = record { fails = λ d. let whole : 24 ≡ size = d.0.1.1.0 in let much : size < 24 = d.0.1.1.1 in omega (arith, whole, much); others = others_of_one size _ }

pub spent_alone : (size : ℕ) → FailsAlone HeldBack size refused_as_spent
unfolding slot_of_length
spent_alone size = record { fails = λ d. let much : 2 ^ 62 < 0 + 24 = d.0.1.1 in omega (arith, much); others = others_of_one size _ }

pub total_alone : (size : ℕ) → FailsAlone HeldBack size refused_with_other_total
total_alone size = record { fails = λ d. let none : 2 ^ 62 ≡ 0 = d.0.1.0 in omega (arith, none); others = others_of_one size _ }

pub no_run_alone : (size : ℕ) → FailsAlone HeldBack size refused_without_run
no_run_alone size = record { fails = λ d. d.0; others = others_of_one size _ }

others_of_run : (size : ℕ) (other : DeliveryPart) → other ≢ HeldBack → MeetsPart other size refused_in_run
others_of_run size InOrder ne = (tt, (tt, tt))
others_of_run size Complete ne = (tt, (tt, tt))
others_of_run size HeldBack ne = absurd (ne refl)
others_of_run size Bounded ne = (λ client life lives. absurd (cc (lives)), (λ client life lives. absurd (cc (lives)), tt))

pub run_alone : (size : ℕ) → FailsAlone HeldBack size refused_in_run
run_alone size = record { fails = λ d. d.0.1 (record { from = 0; begun = refl; unended = refl }, refl); others = others_of_run size }

others_of_gate : (size : ℕ) (other : DeliveryPart) → other ≢ HeldBack → MeetsPart other size refused_with_other_gate
others_of_gate size InOrder ne = (tt, tt)
others_of_gate size Complete ne = (tt, tt)
others_of_gate size HeldBack ne = absurd (ne refl)
others_of_gate size Bounded ne = (λ client life lives. absurd (cc (lives)), tt)

pub gate_alone : (size : ℕ) → FailsAlone HeldBack size refused_with_other_gate
gate_alone size = record { fails = λ d. cc (d.0.0.0.begun); others = others_of_gate size }
