-- Receives that fail one part alone.
use Rattle.std.specs.Prelude.{◌≡◌, ◌≢◌, ℕ, zero, suc, ◌+◌, ◌^◌, ◌<◌, ◌≤◌, ◌==◌, Bool, true, false, if◌then◌else◌, List, [], ◌∷◌, length, Option, Some, None, Ok, refl}
use Rattle.std.specs.Option.{option_map}
use Rattle.std.proofs.Common.{ap, subst, sym, ◌∙◌, arith, inl, inr}
use Rattle.daq_types.specs.declared.events.Event.{Event}
use Rattle.daq_types.specs.declared.runs.Kind.TheVariants.{All}
use Rattle.event.specs.Events.{matches, slot_of_length, slot_size}
use Rattle.buffer_core.specs.declared.client.Request.{Request as EventRequest}
use Rattle.buffer_core.specs.declared.replies.Received.TheVariants.{Got}
use Rattle.buffer_core.specs.declared.entry.BufferEntry.TheVariants.{Send, Receive}
use Rattle.buffer_core.specs.Window.{Sent, any}
use Rattle.buffer_core.proofs.SlotLaws.{split}
use Rattle.buffer_core.specs.Points.{Life, life_drained, reached, IsDue}
use Rattle.buffer_core.specs.Delivered.{IsIn, slots_of_places, DeliveryPart, InOrder, Complete, HeldBack, Bounded, MeetsPart, FailsAlone}
use Rattle.buffer_core.specs.Samples.{sample_event, reached_back, got_with_other_start, got_of_cancelled, missed, got_too_much_together}
use Rattle.buffer_core.proofs.Sampled.{matches_all, all_events, sample_sent, reader_at, life_is, no_due, few, asked, attached, after_got, nothing_got, one_got}

-- where client 0 alone lives, with this life
bounded_by : (lives : Bool → Option Life) (k : Life) (ss : List Sent) → lives true ≡ Some k → lives false ≡ None → slots_of_places ss k.places ≤ 2 ^ 62
    → (client : ℕ) (life : Life) → lives (0 == client) ≡ Some life → slots_of_places ss life.places ≤ 2 ^ 62
bounded_by lives k ss is nobody small client life here =
    few lives ss client life here nobody (λ l e. subst (λ (x : Life). slots_of_places ss x.places ≤ 2 ^ 62) (life_is k l (sym is ∙ e)) small)

-- an event got with another start number

others_of_start : (size : ℕ) (other : DeliveryPart) → other ≢ InOrder → MeetsPart other size got_with_other_start
unfolding slot_of_length
others_of_start size InOrder ne = absurd (ne refl)
others_of_start size Complete ne = (λ l q n r s lives wanted all less. absurd (omega (arith, less)), (tt, (tt, (tt, tt))))
others_of_start size HeldBack ne = (tt, (no_due asked refl sample_event size, (tt, (tt, tt))))
others_of_start size Bounded ne = (λ client life lives. one_got (sample_sent ∷ []) 0 client life lives (omega arith), (λ client life lives. nothing_got (sample_sent ∷ []) client life lives, (λ client life lives. nothing_got [] client life lives, (λ client life lives. nothing_got [] client life lives, tt))))

pub start_alone : (size : ℕ) → FailsAlone InOrder size got_with_other_start
start_alone size = record {
  fails = λ d.
      let same : sample_sent ≡ d.0.event = cc (d.0.wanted.is_sent) in
      let started : 0 ≡ 1 = ap (λ (s : Sent). s.start) same ∙ d.0.started in
      omega (arith, started);
  others = others_of_start size;
}

-- an event got whose request was cancelled

others_of_cancelled : (size : ℕ) (other : DeliveryPart) → other ≢ InOrder → MeetsPart other size got_of_cancelled
unfolding slot_of_length
others_of_cancelled size InOrder ne = absurd (ne refl)
others_of_cancelled size Complete ne = (λ l q n r s lives wanted all less. absurd (omega (arith, less)), (tt, (tt, (tt, (tt, tt)))))
others_of_cancelled size HeldBack ne = (tt, (tt, (no_due asked refl sample_event size, (tt, (tt, tt)))))
others_of_cancelled size Bounded ne = (λ client life lives. one_got (sample_sent ∷ []) 0 client life lives (omega arith), (λ client life lives. nothing_got (sample_sent ∷ []) client life lives, (λ client life lives. nothing_got (sample_sent ∷ []) client life lives, (λ client life lives. nothing_got [] client life lives, (λ client life lives. nothing_got [] client life lives, tt)))))

pub cancelled_alone : (size : ℕ) → FailsAlone InOrder size got_of_cancelled
cancelled_alone size = record {
  fails = λ d.
      split (0 == d.0.number) (λ b. (if b then None else (if b then Some all_events else None)) ≡ Some d.0.request → ⊥)
      (λ h none. cc (none)) (λ h none. cc (none)) d.0.wanted.lives;
  others = others_of_cancelled size;
}

-- an event got that was sent before the request

-- a client that attached after the first event
abbrev late_at : List ℕ → Life
late_at places = record { joined = 1; places = places; drained = 0 }

abbrev late : Bool → Option Life
late b = if b then Some (late_at []) else None

others_of_before : (size : ℕ) (other : DeliveryPart) → other ≢ InOrder → MeetsPart other size reached_back
unfolding slot_of_length
others_of_before size InOrder ne = absurd (ne refl)
others_of_before size Complete ne = (λ l q n r s lives wanted all less. absurd (omega (arith, less)), (tt, (tt, (tt, tt))))
others_of_before size HeldBack ne = (tt, (tt, (tt, (no_due [] refl sample_event size, tt))))
others_of_before size Bounded ne = (λ client life lives. bounded_by (after_got 0 late) (late_at (0 ∷ [])) (sample_sent ∷ []) refl refl (omega arith) client life lives, (λ client life lives. bounded_by late (late_at []) (sample_sent ∷ []) refl refl (omega arith) client life lives, (λ client life lives. bounded_by late (late_at []) (sample_sent ∷ []) refl refl (omega arith) client life lives, (λ client life lives. absurd (cc (lives)), tt))))

pub before_alone : (size : ℕ) → FailsAlone InOrder size reached_back
before_alone size = record {
  fails = λ d.
      let late_events : EventRequest = record { id = any; mask = any; kind = All; since = 1 } in
      split (0 == d.0.number) (λ b. (if b then Some late_events else None) ≡ Some d.0.request → ⊥)
      (λ h is. let same : late_events ≡ d.0.request = cc (is) in omega (arith, ap (λ (q : EventRequest). q.since) same, d.0.wanted.since))
      (λ h none. cc (none))
      d.0.wanted.lives;
  others = others_of_before size;
}

-- none found though an event is due

abbrev drained : Bool → Option Life
drained b = if b then option_map (life_drained 1) (attached b) else attached b

others_of_missed : (size : ℕ) (other : DeliveryPart) → other ≢ Complete → MeetsPart other size missed
unfolding slot_of_length
others_of_missed size InOrder ne = (tt, (tt, (tt, (tt, tt))))
others_of_missed size Complete ne = absurd (ne refl)
others_of_missed size HeldBack ne = (tt, (no_due asked refl sample_event size, (tt, (tt, tt))))
others_of_missed size Bounded ne = (λ client life lives. bounded_by drained (record { joined = 0; places = []; drained = 1 }) (sample_sent ∷ []) refl refl (omega arith) client life lives, (λ client life lives. nothing_got (sample_sent ∷ []) client life lives, (λ client life lives. nothing_got [] client life lives, (λ client life lives. nothing_got [] client life lives, tt))))

pub missed_alone : (size : ℕ) → FailsAlone Complete size missed
missed_alone size = record { fails = λ d. d.0 (reader_at 0 []) 0 0 all_events sample_sent refl (record { lives = refl; since = omega arith; is_sent = refl; matched = matches_all }) refl (omega arith); others = others_of_missed size }

-- two events got that take too much together

below_one : (q : ℕ) → IsIn q (0 ∷ []) → q < 1
below_one q has = elim has [ inl e ↦ omega (arith, e) | inr never ↦ absurd never ]

-- the client has read the first event
read_first : (e : Event) (client place : ℕ) → IsDue ((0, Receive 0 (length e.body) (Got 0 0)) ∷ (1, Send (length e.body) e (Ok 0)) ∷ asked) client place → ⊥
read_first e client zero due =
    split (0 == client) (λ b. after_got 0 attached b ≡ Some due.life → ⊥)
    (λ h here.
    let same : reader_at 0 (0 ∷ []) ≡ due.life = life_is (reader_at 0 (0 ∷ [])) due.life here in
    let ahead : reached (reader_at 0 (0 ∷ [])) ≤ 0 = subst (λ (x : Life). reached x ≤ 0) (sym same) due.ahead in
    omega (arith, ahead))
    (λ h none. cc (none))
    due.lives
read_first e client (suc place) due = cc (due.wanted.is_sent)

others_of_together : (size : ℕ) (e f : Event) (other : DeliveryPart) → other ≢ Bounded → MeetsPart other size (got_too_much_together e f)
unfolding matches
others_of_together size e f InOrder ne = (
  record {
    life = reader_at 0 (0 ∷ []);
    number = 0;
    request = all_events;
    event = record { event = f; start = 0 };
    lives = refl;
    rises = below_one;
    wanted = record { lives = refl; since = omega arith; is_sent = refl; matched = refl };
    started = refl;
  },
  (
    tt,
    (
      record {
        life = reader_at 0 [];
        number = 0;
        request = all_events;
        event = record { event = e; start = 0 };
        lives = refl;
        rises = λ q none. absurd none;
        wanted = record { lives = refl; since = omega arith; is_sent = refl; matched = refl };
        started = refl;
      },
      (tt, (tt, (tt, tt))),
    ),
  ),
)
others_of_together size e f Complete ne = (
  λ l q n r s lives wanted all less. subst (λ (x : Life). IsIn q x.places) (life_is (reader_at 0 (0 ∷ [])) l lives) (inl (omega (arith, less))),
  (tt, (λ l q n r s lives wanted all less. absurd (omega (arith, less)), (tt, (tt, (tt, tt))))),
)
others_of_together size e f HeldBack ne =
    (tt, (λ client place due much. read_first e client place due, (tt, (no_due asked refl e size, (tt, (tt, tt))))))
others_of_together size e f Bounded ne = absurd (ne refl)

pub together_alone : (size : ℕ) (e f : Event) → 2 ^ 62 < slot_size e + slot_size f → FailsAlone Bounded size (got_too_much_together e f)
together_alone size e f long =
    record {
      fails = λ d. let small : slot_size f + (slot_size e + 0) ≤ 2 ^ 62 = d.0 0 (reader_at 0 (1 ∷ 0 ∷ [])) refl in omega (arith, small, long);
      others = others_of_together size e f;
    }
