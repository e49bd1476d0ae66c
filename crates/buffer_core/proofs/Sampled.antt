-- The laws tell wrong histories from right ones.
use Rattle.std.specs.Prelude.{◌≡◌, ◌≢◌, ℕ, ◌+◌, ◌^◌, ◌<◌, ◌≤◌, ◌==◌, Bool, true, false, if◌then◌else◌, List, [], ◌∷◌, Option, Some, None, Ok, ◌⊎◌, refl}
use Rattle.std.specs.Option.{option_map}
use Rattle.std.proofs.Common.{subst, arith, inl, inr}
use Rattle.daq_types.specs.declared.events.Event.{Event}
use Rattle.daq_types.specs.declared.runs.Kind.TheVariants.{All}
use Rattle.event.specs.Events.{Matches, matches, slot_of_length, slot_size}
use Rattle.buffer_core.specs.declared.client.Request.{Request as EventRequest}
use Rattle.buffer_core.specs.declared.entry.BufferEntry.{BufferEntry}
use Rattle.buffer_core.specs.declared.entry.BufferEntry.TheVariants.{Attach, Request}
use Rattle.buffer_core.specs.Window.{Sent, slot_of_sent, opening, no_clients, no_requests, any}
use Rattle.buffer_core.specs.Histories.{IsLegal}
use Rattle.buffer_core.proofs.SlotLaws.{split}
use Rattle.buffer_core.specs.Points.{Life, life_got, sent}
use Rattle.buffer_core.specs.Delivered.{IsIn, HasWay, slots_of_places, DeliveryPart, InOrder, Complete, HeldBack, Bounded, MeetsPart, FailsAlone}
use Rattle.buffer_core.specs.Runs.{KeepsRuns}
use Rattle.buffer_core.specs.Samples.{sample_event, refused_once, got_twice, left_out, refused_for_nobody, got_too_much, sent_behind, sent_in_pause, begun_twice, sent_between}
use Rattle.buffer_core.proofs.Places.{drop_sum}

pub refused_once_is_legal : IsLegal (opening 48) refused_once
unfolding no_clients no_requests slot_of_length matches
refused_once_is_legal = (refl, (refl, (refl, (refl, (refl, (refl, (refl, tt)))))))

pub matches_all : Matches any any sample_event
unfolding matches
matches_all = refl

abbrev pub all_events : EventRequest
all_events = record { id = any; mask = any; kind = All; since = 0 }

abbrev pub sample_sent : Sent
sample_sent = record { event = sample_event; start = 0 }

-- What a client got, where the entries tell only of client 0.

abbrev pub reader_at : (drained : ℕ) → List ℕ → Life
reader_at drained places = record { joined = 0; places = places; drained = drained }

pub life_is : (k l : Life) → Some k ≡ Some l → k ≡ l
life_is k l e = cc

-- nothing was sent yet
pub no_due : (past : List (ℕ × BufferEntry)) → sent past ≡ [] → (e : Event) (size : ℕ) → HasWay size past e
no_due past none e size client place due much = cc (due.wanted.is_sent, none)

pub few : (lives : Bool → Option Life) (ss : List Sent) (client : ℕ) (life : Life) → lives (0 == client) ≡ Some life → lives false ≡ None
    → ((l : Life) → lives true ≡ Some l → slots_of_places ss l.places ≤ 2 ^ 62) → slots_of_places ss life.places ≤ 2 ^ 62
few lives ss client life is nobody reader =
    split (0 == client) (λ b. lives b ≡ Some life → slots_of_places ss life.places ≤ 2 ^ 62)
    (λ h here. reader life here)
    (λ h there. absurd (cc (there, nobody)))
    is

-- Samples, each of which fails one part alone.

abbrev pub asked : List (ℕ × BufferEntry)
asked = (0, Request 0 any any All (Ok 0)) ∷ (0, Attach [] (Ok 0)) ∷ []

abbrev pub attached : Bool → Option Life
attached b = if b then Some (reader_at 0 []) else None

abbrev pub after_got : (place : ℕ) → (Bool → Option Life) → Bool → Option Life
after_got place before b = if b then option_map (life_got place) (before b) else before b

pub nothing_got : (ss : List Sent) (client : ℕ) (life : Life) → attached (0 == client) ≡ Some life → slots_of_places ss life.places ≤ 2 ^ 62
nothing_got ss client life is =
    few attached ss client life is refl (λ l e.
    let same : reader_at 0 [] ≡ l = life_is (reader_at 0 []) l e in
    subst (λ (x : Life). slots_of_places ss x.places ≤ 2 ^ 62) same (omega arith))

pub one_got : (ss : List Sent) (place client : ℕ) (life : Life) → after_got place attached (0 == client) ≡ Some life → slots_of_places ss (place ∷ []) ≤ 2 ^ 62 → slots_of_places ss life.places ≤ 2 ^ 62
one_got ss place client life is small =
    few (after_got place attached) ss client life is refl (λ l e.
    let same : reader_at 0 (place ∷ []) ≡ l = life_is (reader_at 0 (place ∷ [])) l e in
    subst (λ (x : Life). slots_of_places ss x.places ≤ 2 ^ 62) same small)

two_got : (ss : List Sent) (client : ℕ) (life : Life) → after_got 0 (after_got 0 attached) (0 == client) ≡ Some life → slots_of_places ss (0 ∷ 0 ∷ []) ≤ 2 ^ 62 → slots_of_places ss life.places ≤ 2 ^ 62
two_got ss client life is small =
    few (after_got 0 (after_got 0 attached)) ss client life is refl (λ l e.
    let same : reader_at 0 (0 ∷ 0 ∷ []) ≡ l = life_is (reader_at 0 (0 ∷ 0 ∷ [])) l e in
    subst (λ (x : Life). slots_of_places ss x.places ≤ 2 ^ 62) same small)

-- an event got twice

others_of_twice : (size : ℕ) (other : DeliveryPart) → other ≢ InOrder → MeetsPart other size got_twice
unfolding slot_of_length
others_of_twice size InOrder ne = absurd (ne refl)
others_of_twice size Complete ne = (λ l q n r s lives wanted all less. absurd (omega (arith, less)), (λ l q n r s lives wanted all less. absurd (omega (arith, less)), (tt, (tt, (tt, tt)))))
others_of_twice size HeldBack ne = (tt, (tt, (no_due asked refl sample_event size, (tt, (tt, tt)))))
others_of_twice size Bounded ne = (
  λ client life lives. two_got (sample_sent ∷ []) client life lives (omega arith),
  (
    λ client life lives. one_got (sample_sent ∷ []) 0 client life lives (omega arith),
    (
      λ client life lives. nothing_got (sample_sent ∷ []) client life lives,
      (λ client life lives. nothing_got [] client life lives, (λ client life lives. nothing_got [] client life lives, tt)),
    ),
  ),
)

pub twice_alone : (size : ℕ) → FailsAlone InOrder size got_twice
twice_alone size =
    record {
      fails = λ d.
          let same : reader_at 0 (0 ∷ []) ≡ d.0.life = life_is (reader_at 0 (0 ∷ [])) d.0.life d.0.lives in
          let below : 0 < 0 = d.0.rises 0 (subst (λ (l : Life). IsIn 0 l.places) same (inl refl)) in
          omega (arith, below);
      others = others_of_twice size;
    }

-- an event left out

others_of_left : (other : DeliveryPart) → other ≢ Complete → MeetsPart other 48 left_out
unfolding slot_of_length
others_of_left InOrder ne = (
  record {
    life = reader_at 0 [];
    number = 0;
    request = all_events;
    event = sample_sent;
    lives = refl;
    rises = λ q none. absurd none;
    wanted = record { lives = refl; since = omega arith; is_sent = refl; matched = matches_all };
    started = refl;
  },
  (tt, (tt, (tt, (tt, tt)))),
)
others_of_left Complete ne = absurd (ne refl)
others_of_left HeldBack ne =
    (tt, (λ client place due much. omega (arith, much, drop_sum slot_of_sent (sample_sent ∷ []) place), (no_due asked refl sample_event 48, (tt, (tt, tt)))))
others_of_left Bounded ne = (
  λ client life lives. one_got (sample_sent ∷ sample_sent ∷ []) 1 client life lives (omega arith),
  (
    λ client life lives. nothing_got (sample_sent ∷ sample_sent ∷ []) client life lives,
    (
      λ client life lives. nothing_got (sample_sent ∷ []) client life lives,
      (λ client life lives. nothing_got [] client life lives, (λ client life lives. nothing_got [] client life lives, tt)),
    ),
  ),
)

pub left_alone : FailsAlone Complete 48 left_out
left_alone =
    record {
      fails = λ d. d.0 (reader_at 0 []) 0 0 all_events sample_sent refl (record { lives = refl; since = omega arith; is_sent = refl; matched = matches_all }) refl (omega arith);
      others = others_of_left;
    }

-- a send refused for nobody

others_of_refused : (size : ℕ) (other : DeliveryPart) → other ≢ HeldBack → MeetsPart other size refused_for_nobody
others_of_refused size InOrder ne = (tt, (tt, tt))
others_of_refused size Complete ne = (tt, (tt, tt))
others_of_refused size HeldBack ne = absurd (ne refl)
others_of_refused size Bounded ne = (λ client life lives. absurd (cc (lives)), (λ client life lives. absurd (cc (lives)), tt))

pub refused_alone : (size : ℕ) → FailsAlone HeldBack size refused_for_nobody
refused_alone size = record { fails = λ d. cc (d.0.1.due.lives); others = others_of_refused size }

-- too much got

others_of_much : (size : ℕ) (e : Event) (other : DeliveryPart) → other ≢ Bounded → MeetsPart other size (got_too_much e)
unfolding matches
others_of_much size e InOrder ne = (
  record {
    life = reader_at 0 [];
    number = 0;
    request = all_events;
    event = record { event = e; start = 0 };
    lives = refl;
    rises = λ q none. absurd none;
    wanted = record { lives = refl; since = omega arith; is_sent = refl; matched = refl };
    started = refl;
  },
  (tt, (tt, (tt, tt))),
)
others_of_much size e Complete ne = (λ l q n r s lives wanted all less. absurd (omega (arith, less)), (tt, (tt, (tt, tt))))
others_of_much size e HeldBack ne = (tt, (no_due asked refl e size, (tt, (tt, tt))))
others_of_much size e Bounded ne = absurd (ne refl)

pub much_alone : (size : ℕ) (e : Event) → 2 ^ 62 < slot_size e → FailsAlone Bounded size (got_too_much e)
much_alone size e long =
    record {
      fails = λ d. let small : slot_size e + 0 ≤ 2 ^ 62 = d.0 0 (reader_at 0 (0 ∷ [])) refl in omega (arith, small, long);
      others = others_of_much size e;
    }

-- More samples.

pub never_sent_behind : KeepsRuns sent_behind → ⊥
never_sent_behind k =
    let it = k.inside 0 (record { event = sample_event; start = 1 }) refl (λ e. absurd (omega (arith, e))) in
    cc (it.1)

pub never_sent_in_pause : KeepsRuns sent_in_pause → ⊥
never_sent_in_pause k = cc (k.unpaused.0)

other_run : (start : ℕ) → start ≡ 2 → (start ≡ 1) ⊎ (start ≡ 0) → ⊥
other_run start two (inl one) = omega (arith, two, one)
other_run start two (inr none) = omega (arith, two, none)

pub never_sent_between : KeepsRuns sent_between → ⊥
never_sent_between k = other_run 2 refl (k.only 1 0 0 (record { event = sample_event; start = 2 }) refl)

pub never_begun_twice : KeepsRuns begun_twice → ⊥
never_begun_twice k = cc (k.once.0)
