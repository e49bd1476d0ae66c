-- Sends that fail one part alone.
use Rattle.std.specs.Prelude.{◌≡◌, ◌≢◌, ℕ, ◌^◌, ◌≤◌, ◌==◌, IsTrue, if◌then◌else◌, List, [], ◌∷◌, Some, None, refl}
use Rattle.std.proofs.Common.{subst, sym, arith}
use Rattle.daq_types.specs.declared.runs.Kind.TheVariants.{NonBlocking}
use Rattle.event.specs.Events.{slot_of_length}
use Rattle.buffer_core.specs.declared.client.Request.{Request as EventRequest}
use Rattle.buffer_core.specs.Window.{Sent, any, is_all}
use Rattle.buffer_core.proofs.SlotLaws.{split}
use Rattle.buffer_core.specs.Points.{Life}
use Rattle.buffer_core.specs.Delivered.{slots_of_places, DeliveryPart, InOrder, Complete, HeldBack, Bounded, MeetsPart, FailsAlone}
use Rattle.buffer_core.specs.Samples.{refused_for_optional, refused_at_second, refused_for_second, dropped}
use Rattle.buffer_core.proofs.Sampled.{matches_all, all_events, sample_sent, reader_at, life_is, attached, nothing_got}

-- a send refused for a client that need not get all

others_of_optional : (size : ℕ) (other : DeliveryPart) → other ≢ HeldBack → MeetsPart other size refused_for_optional
others_of_optional size InOrder ne = (tt, (tt, (tt, (tt, tt))))
others_of_optional size Complete ne = (tt, (tt, (tt, (tt, tt))))
others_of_optional size HeldBack ne = absurd (ne refl)
others_of_optional size Bounded ne = (λ client life lives. nothing_got (sample_sent ∷ []) client life lives, (λ client life lives. nothing_got (sample_sent ∷ []) client life lives, (λ client life lives. nothing_got [] client life lives, (λ client life lives. nothing_got [] client life lives, tt))))

pub optional_alone : (size : ℕ) → FailsAlone HeldBack size refused_for_optional
optional_alone size = record {
  fails = λ d.
      let optional : EventRequest = record { id = any; mask = any; kind = NonBlocking; since = 0 } in
      let due = d.0.1.due in
      split (0 == due.number) (λ b. (if b then Some optional else None) ≡ Some due.request → ⊥)
      (λ h is.
      let same : optional ≡ due.request = cc (is) in
      let all : IsTrue (is_all optional.kind) = subst (λ (q : EventRequest). IsTrue (is_all q.kind)) (sym same) due.all in
      cc (all))
      (λ h none. cc (none))
      due.wanted.lives;
  others = others_of_optional size;
}

-- a refusal that does not name the first event in the way

others_of_place : (other : DeliveryPart) → other ≢ HeldBack → MeetsPart other 48 refused_at_second
others_of_place InOrder ne = (tt, (tt, (tt, (tt, (tt, tt)))))
others_of_place Complete ne = (tt, (tt, (tt, (tt, (tt, tt)))))
others_of_place HeldBack ne = absurd (ne refl)
others_of_place Bounded ne = (λ client life lives. nothing_got (sample_sent ∷ sample_sent ∷ []) client life lives, (λ client life lives. nothing_got (sample_sent ∷ sample_sent ∷ []) client life lives, (λ client life lives. nothing_got (sample_sent ∷ []) client life lives, (λ client life lives. nothing_got [] client life lives, (λ client life lives. nothing_got [] client life lives, tt)))))

pub place_alone : FailsAlone HeldBack 48 refused_at_second
unfolding slot_of_length
place_alone = record {
  fails = λ d.
      let least : 1 ≤ 0 = d.0.1.least_place 0 0 (record {
        life = reader_at 0 [];
        number = 0;
        request = all_events;
        event = sample_sent;
        lives = refl;
        ahead = omega arith;
        wanted = record { lives = refl; since = omega arith; is_sent = refl; matched = matches_all };
        all = refl;
      }) (omega arith) in
      omega (arith, least);
  others = others_of_place;
}

-- a refusal that does not name the first client

two_readers : (ss : List Sent) (client : ℕ) (life : Life) → (if 1 == client then Some (reader_at 0 []) else attached (0 == client)) ≡ Some life → slots_of_places ss life.places ≤ 2 ^ 62
two_readers ss client life is =
    split (1 == client) (λ b. (if b then Some (reader_at 0 []) else attached (0 == client)) ≡ Some life → slots_of_places ss life.places ≤ 2 ^ 62)
    (λ h here. subst (λ (x : Life). slots_of_places ss x.places ≤ 2 ^ 62) (life_is (reader_at 0 []) life here) (omega arith))
    (λ h there. nothing_got ss client life there)
    is

others_of_client : (other : DeliveryPart) → other ≢ HeldBack → MeetsPart other 24 refused_for_second
others_of_client InOrder ne = (tt, (tt, (tt, (tt, (tt, (tt, tt))))))
others_of_client Complete ne = (tt, (tt, (tt, (tt, (tt, (tt, tt))))))
others_of_client HeldBack ne = absurd (ne refl)
others_of_client Bounded ne = (λ client life lives. two_readers (sample_sent ∷ []) client life lives, (λ client life lives. two_readers (sample_sent ∷ []) client life lives, (λ client life lives. two_readers [] client life lives, (λ client life lives. two_readers [] client life lives, (λ client life lives. nothing_got [] client life lives, (λ client life lives. nothing_got [] client life lives, tt))))))

pub client_alone : FailsAlone HeldBack 24 refused_for_second
client_alone = record {
  fails = λ d.
      let least : 1 ≤ 0 = d.0.1.least_client 0 (record {
        life = reader_at 0 [];
        number = 0;
        request = all_events;
        event = sample_sent;
        lives = refl;
        ahead = omega arith;
        wanted = record { lives = refl; since = omega arith; is_sent = refl; matched = matches_all };
        all = refl;
      }) in
      omega (arith, least);
  others = others_of_client;
}

-- an event that goes though it is due

others_of_owed : (other : DeliveryPart) → other ≢ HeldBack → MeetsPart other 24 dropped
others_of_owed InOrder ne = (tt, (tt, (tt, (tt, tt))))
others_of_owed Complete ne = (tt, (tt, (tt, (tt, tt))))
others_of_owed HeldBack ne = absurd (ne refl)
others_of_owed Bounded ne = (λ client life lives. nothing_got (sample_sent ∷ sample_sent ∷ []) client life lives, (λ client life lives. nothing_got (sample_sent ∷ []) client life lives, (λ client life lives. nothing_got [] client life lives, (λ client life lives. nothing_got [] client life lives, tt))))

pub owed_alone : FailsAlone HeldBack 24 dropped
unfolding slot_of_length
owed_alone = record {
  fails = λ d. d.0 0 0 (record {
    life = reader_at 0 [];
    number = 0;
    request = all_events;
    event = sample_sent;
    lives = refl;
    ahead = omega arith;
    wanted = record { lives = refl; since = omega arith; is_sent = refl; matched = matches_all };
    all = refl;
  }) (omega arith);
  others = others_of_owed;
}
