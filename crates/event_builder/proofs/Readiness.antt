-- What is true of every builder stays so in its calls.
use Rattle.std.specs.Prelude.{◌≡◌, ◌≤◌, ◌<◌, ◌∷◌, [], ℕ, zero, suc, Bool, true, false, List, length, map, slice_get, Option, Some, None, IfNone}
use Rattle.std.specs.List.{list_all, list_any}
use Rattle.std.proofs.Common.{ap, sym, subst, ◌∙◌, arith, inl, inr}
use Rattle.std.proofs.lemmas.List.{length-map}
use Rattle.std.proofs.lemmas.List.Folds.{list_all-map}
use Rattle.std.proofs.lemmas.Option.{slice_get_within, same_Some}
use Rattle.daq_types.specs.declared.events.Event.{Event}
use Rattle.event.specs.Held.{HeldEvent}
use Rattle.event.specs.Events.{event_limit}
use Rattle.buffer_core.specs.declared.replies.Received.{Received}
use Rattle.buffer_core.specs.declared.replies.Received.TheVariants.{Got, Empty, NoClient, SmallBuf}
use Rattle.bank_format.specs.declared.formats.Format.TheVariants.{Bank32A}
use Rattle.bank_format.specs.Writing.{Written, nothing_written}
use Rattle.event_builder.specs.declared.build_run.BuildFault.{BuildFault}
use Rattle.event_builder.specs.declared.build_run.BuildRun.{BuildRun}
use Rattle.event_builder.specs.declared.inputs.BuilderInput.{BuilderInput}
use Rattle.event_builder.specs.declared.inputs.InputRequest.{InputRequest}
use Rattle.event_builder.specs.Joined.{JoinsBanks}
use Rattle.event_builder.specs.Inputs.{InputAt, InputsAt, IsInputAt, StepsInput, StepsBelow, EachInput, CancelsInput, AsksInput, RefusesInput, StopsInput, ReceivesInput, is_held, is_done, is_of_run, last_events, new_input}
use Rattle.event_builder.specs.Builders.{EndsWhere, EndsIfDone, EndsAfter, IsNextOf, HoldNext, IsJoined, IsBuilderReady}
use Rattle.event_builder.specs.BuilderTurns.{RefusesAt, stopped_run}
use Rattle.event_builder.specs.BuilderPulls.{MeetsFault, FaultsGot, FaultsReply, HoldBanksBut}
use Rattle.event_builder.proofs.InputLists.{same_or_other, below_or_not, member, each_passes, same_told}
use Rattle.event_builder.proofs.Stepped.{at_within, left_at, stood_at, as_many, as_many_ports}

-- no input holds an event
abbrev pub HoldNone : List BuilderInput → Type 0
HoldNone inputs = (n : ℕ) → (x : BuilderInput) → slice_get inputs n ≡ Some x → x.held ≡ false

-- Steps of several inputs.

-- where each step of an input that holds nothing leaves it so, all of them do
pub none_kept : (Step : InputAt → InputAt → Type 0) (count : ℕ) (a b : InputsAt) → ((x y : InputAt) → Step x y → x.input.held ≡ false → y.input.held ≡ false) → length a.ports ≡ length a.inputs → StepsBelow Step count a b → HoldNone a.inputs → HoldNone b.inputs
none_kept Step count a b keeps many steps none n y at =
    let within : n < length a.inputs = omega (arith, steps.inputs_many, slice_get_within b.inputs n y at) in
    let was = at_within a n many within in
    let free : was.0.input.held ≡ false = none n was.0.input was.1.input in
    elim (below_or_not n count) as (λ w. y.held ≡ false) [
      | inl below ↦
          let later = steps.done n was.0 below was.1 in
          let is : later.0.input ≡ y = same_Some later.0.input y (sym later.1.input ∙ at) in
          ap (λ (i : BuilderInput). i.held) (sym is) ∙ keeps was.0 later.0 later.2 free
      | inr above ↦
          let same : IsInputAt b n was.0 = steps.left n was.0 above was.1 in
          let is : was.0.input ≡ y = same_Some was.0.input y (sym same.input ∙ at) in
          ap (λ (i : BuilderInput). i.held) (sym is) ∙ free
    ]

-- once each input is read no more, none holds an event
pub cancelled_none : (a b : InputsAt) → length a.ports ≡ length a.inputs → EachInput CancelsInput a b → HoldNone b.inputs
cancelled_none a b many steps n y at =
    let within : n < length a.inputs = omega (arith, steps.inputs_many, slice_get_within b.inputs n y at) in
    let was = at_within a n many within in
    let later = steps.done n was.0 within was.1 in
    let is : later.0.input ≡ y = same_Some later.0.input y (sym later.1.input ∙ at) in
    ap (λ (i : BuilderInput). i.held) (sym is) ∙ ap (λ (i : BuilderInput). i.held) later.2.input

asks_none : (x y : InputAt) → AsksInput x y → x.input.held ≡ false → y.input.held ≡ false
asks_none x y asks free = ap (λ (i : BuilderInput). i.held) asks.input ∙ free

cancels_none : (x y : InputAt) → CancelsInput x y → x.input.held ≡ false → y.input.held ≡ false
cancels_none x y cancels free = ap (λ (i : BuilderInput). i.held) cancels.input

pub asked_none : (a b : InputsAt) → length a.ports ≡ length a.inputs → EachInput AsksInput a b → HoldNone a.inputs → HoldNone b.inputs
asked_none a b many steps none = none_kept AsksInput (length a.inputs) a b asks_none many steps none

-- a step of one input that is refused
refused_none : (number : ℕ) (a b : InputsAt) → StepsInput RefusesInput number a b → HoldNone a.inputs → HoldNone b.inputs
refused_none number a b step none n y at = elim (same_or_other n number) as (λ w. y.held ≡ false) [
  | inl same ↦
      let there : slice_get b.inputs number ≡ Some y = subst (λ (k : ℕ). slice_get b.inputs k ≡ Some y) same at in
      let is : step.after.input ≡ y = same_Some step.after.input y (sym (left_at RefusesInput number a b step).input ∙ there) in
      ap (λ (i : BuilderInput). i.held) (sym is) ∙ (ap (λ (i : BuilderInput). i.held) step.step.input ∙ none number step.before.input step.there.input)
  | inr other ↦ none n y (stood_at RefusesInput number n a b step y other at)
]

refused_ports : (number : ℕ) (m q : InputsAt) → StepsInput RefusesInput number m q → length m.ports ≡ length m.inputs → length q.ports ≡ length q.inputs
refused_ports number m q step same = as_many_ports RefusesInput number m q step ∙ (same ∙ sym (as_many RefusesInput number m q step))

pub undone_none : (number : ℕ) (a b : InputsAt) → length a.ports ≡ length a.inputs → RefusesAt number a b → HoldNone a.inputs → HoldNone b.inputs
undone_none number a b many undone none =
    let asked : HoldNone undone.asked.inputs = none_kept AsksInput number a undone.asked asks_none many undone.asks none in
    let refused : HoldNone undone.refused.inputs = refused_none number undone.asked undone.refused undone.refuses asked in
    let asked_many : length undone.asked.ports ≡ length undone.asked.inputs = undone.asks.ports_many ∙ (many ∙ sym undone.asks.inputs_many) in
    none_kept CancelsInput number undone.refused b cancels_none (refused_ports number undone.asked undone.refused undone.refuses asked_many) undone.cancels refused

pub undone_many : (number : ℕ) (a b : InputsAt) → RefusesAt number a b → length b.inputs ≡ length a.inputs
undone_many number a b undone = undone.cancels.inputs_many ∙ (as_many RefusesInput number undone.asked undone.refused undone.refuses ∙ undone.asks.inputs_many)

-- Builders.

not_all_held : (inputs : List BuilderInput) → 0 < length inputs → HoldNone inputs → list_all is_held inputs ≡ true → ⊥
not_all_held inputs some none all =
    let first = member inputs 0 some in
    let held : first.0.held ≡ true = each_passes is_held inputs 0 first.0 all first.1 in
    let free : first.0.held ≡ false = none 0 first.0 first.1 in
    cc (held, free)

-- a builder of which no input holds an event
pub ready_none : (id limit : ℕ) (inputs later_inputs : List BuilderInput) (run later : Option BuildRun) (body written : Written) → IsBuilderReady id limit inputs run body → length later_inputs ≡ length inputs → HoldNone later_inputs → written.format ≡ Bank32A → written.limit ≡ limit
    → IsBuilderReady id limit later_inputs later written
ready_none id limit inputs later_inputs run later body written ready many none format room = record {
  some = omega (arith, ready.some, many);
  few = omega (arith, ready.few, many);
  id_some = ready.id_some;
  id_free = ready.id_free;
  least = ready.least;
  most = ready.most;
  format = format;
  room = room;
  held = λ n x at held. let free : x.held ≡ false = none n x at in absurd (cc (held, free));
  joined = λ all. absurd (not_all_held later_inputs (omega (arith, ready.some, many)) none all);
}

-- Stops.

-- an input behind a stop of the run holds what it held
record HeldAsBefore (inputs : List BuilderInput) (n : ℕ) (y : BuilderInput) : Type 0 where
  pub before : BuilderInput
  pub there : slice_get inputs n ≡ Some before
  pub held : y.held ≡ before.held
  pub event : y.event ≡ before.event

stopped_held : (a b : InputsAt) → length a.ports ≡ length a.inputs → EachInput StopsInput a b → (n : ℕ) (y : BuilderInput) → slice_get b.inputs n ≡ Some y → HeldAsBefore a.inputs n y
stopped_held a b many steps n y at =
    let within : n < length a.inputs = omega (arith, steps.inputs_many, slice_get_within b.inputs n y at) in
    let was = at_within a n many within in
    let later = steps.done n was.0 within was.1 in
    let is : later.0.input ≡ y = same_Some later.0.input y (sym later.1.input ∙ at) in
    record {
      before = was.0.input;
      there = was.1.input;
      held = ap (λ (i : BuilderInput). i.held) (sym is) ∙ ap (λ (i : BuilderInput). i.held) later.2.input;
      event = ap (λ (i : BuilderInput). i.event) (sym is) ∙ ap (λ (i : BuilderInput). i.event) later.2.input;
    }

pub ready_stopped : (id limit : ℕ) (a b : InputsAt) (r : BuildRun) (body : Written) → IsBuilderReady id limit a.inputs (Some r) body → length a.ports ≡ length a.inputs → EachInput StopsInput a b → IsBuilderReady id limit b.inputs (Some (stopped_run r)) body
ready_stopped id limit a b r body ready many steps =
    let was : (n : ℕ) (y : BuilderInput) → slice_get b.inputs n ≡ Some y → HeldAsBefore a.inputs n y = stopped_held a b many steps in
    let events : last_events b.inputs ≡ last_events a.inputs =
    same_told (λ (x : BuilderInput). x.event.event) a.inputs b.inputs steps.inputs_many (λ n y at. let w : HeldAsBefore a.inputs n y = was n y at in (w.before, w.there, ap (λ (e : HeldEvent). e.event) w.event)) in
    let held : map is_held b.inputs ≡ map is_held a.inputs =
    same_told is_held a.inputs b.inputs steps.inputs_many (λ n y at. let w : HeldAsBefore a.inputs n y = was n y at in (w.before, w.there, w.held)) in
    let all : list_all is_held b.inputs ≡ list_all is_held a.inputs =
    sym (list_all-map (λ (h : Bool). h) is_held b.inputs) ∙ (ap (λ (l : List Bool). list_all (λ (h : Bool). h) l) held ∙ list_all-map (λ (h : Bool). h) is_held a.inputs) in
    record {
      some = omega (arith, ready.some, steps.inputs_many);
      few = omega (arith, ready.few, steps.inputs_many);
      id_some = ready.id_some;
      id_free = ready.id_free;
      least = ready.least;
      most = ready.most;
      format = ready.format;
      room = ready.room;
      held = λ n y at holds.
          let w : HeldAsBefore a.inputs n y = was n y at in
          subst (λ (e : HeldEvent). IsNextOf (Some r) e.event) (sym w.event) (ready.held n w.before w.there (sym w.held ∙ holds));
      joined = λ whole.
          let j : IsJoined a.inputs limit body = ready.joined (sym all ∙ whole) in
          record { joins = subst (λ (es : List Event). JoinsBanks es body.banks) (sym events) j.joins; fits = j.fits };
    }

-- a run that is stopped changes nothing of what is held
pub ready_noted : (id limit : ℕ) (inputs : List BuilderInput) (r : BuildRun) (body : Written) → IsBuilderReady id limit inputs (Some r) body → IsBuilderReady id limit inputs (Some (stopped_run r)) body
ready_noted id limit inputs r body ready = record {
  some = ready.some;
  few = ready.few;
  id_some = ready.id_some;
  id_free = ready.id_free;
  least = ready.least;
  most = ready.most;
  format = ready.format;
  room = ready.room;
  held = ready.held;
  joined = ready.joined;
}

-- Pulls.

-- an event of the run that was got without a fault is the next one
own_next : (reply : Received) (start number k limit : ℕ) (inputs : List BuilderInput) → FaultsReply reply start number k limit inputs None → is_of_run start reply ≡ true → MeetsFault number k limit inputs None
own_next (Got place s) start number k limit inputs faults own = subst (λ (b : Bool). FaultsGot b number k limit inputs None) own faults
own_next (Empty gate last) start number k limit inputs faults own = absurd (cc)
own_next NoClient start number k limit inputs faults own = absurd (cc)
own_next (SmallBuf need) start number k limit inputs faults own = absurd (cc)

-- the others hold what they held
pub others_hold : (number id limit : ℕ) (r : BuildRun) (q : InputRequest) (reply : Received) (a m : InputsAt) (body : Written) → IsBuilderReady id limit a.inputs (Some r) body → StepsInput (ReceivesInput r.start q reply) number a m → HoldBanksBut number m.inputs
others_hold number id limit r q reply a m body ready step n x other at held =
    (ready.held n x (stood_at (ReceivesInput r.start q reply) number n a m step x other at) held).1

-- the input of this number holds an event where one of the run was got
pub receives_held : (number start : ℕ) (q : InputRequest) (reply : Received) (a m : InputsAt) → StepsInput (ReceivesInput start q reply) number a m → (x : BuilderInput) × (slice_get m.inputs number ≡ Some x) × (x.held ≡ is_of_run start reply)
receives_held number start q reply a m step =
    (step.after.input, (left_at (ReceivesInput start q reply) number a m step).input, ap (λ (i : BuilderInput). i.held) step.step.input)

received_next : (number limit : ℕ) (r : BuildRun) (q : InputRequest) (reply : Received) (a m : InputsAt) → HoldNext (Some r) a.inputs → StepsInput (ReceivesInput r.start q reply) number a m → FaultsReply reply r.start number (suc r.sent) limit m.inputs None → HoldNext (Some r) m.inputs
received_next number limit r q reply a m next step faults n x at held = elim (same_or_other n number) as (λ w. IsNextOf (Some r) x.event.event) [
  | inl same ↦
      let there : slice_get m.inputs number ≡ Some x = subst (λ (k : ℕ). slice_get m.inputs k ≡ Some x) same at in
      let got = receives_held number r.start q reply a m step in
      let is : got.0 ≡ x = same_Some got.0 x (sym got.1 ∙ there) in
      let own : is_of_run r.start reply ≡ true = sym got.2 ∙ (ap (λ (i : BuilderInput). i.held) is ∙ held) in
      let met : MeetsFault number (suc r.sent) limit m.inputs None = own_next reply r.start number (suc r.sent) limit m.inputs faults own in
      let that : met.input ≡ x = same_Some met.input x (sym met.there ∙ there) in
      subst (λ (i : BuilderInput). IsNextOf (Some r) i.event.event) that (met.fault_is.0, met.fault_is.1)
  | inr other ↦ next n x (stood_at (ReceivesInput r.start q reply) number n a m step x other at) held
]

-- a builder behind a receive that gave no fault
ready_received : (number id limit : ℕ) (r : BuildRun) (q : InputRequest) (reply : Received) (a m : InputsAt) (body written : Written) → IsBuilderReady id limit a.inputs (Some r) body → StepsInput (ReceivesInput r.start q reply) number a m
    → FaultsReply reply r.start number (suc r.sent) limit m.inputs None → (list_all is_held m.inputs ≡ true → IsJoined m.inputs limit written) → written.format ≡ Bank32A → written.limit ≡ limit → IsBuilderReady id limit m.inputs (Some r) written
ready_received number id limit r q reply a m body written ready step faults joined format room =
    let many : length m.inputs ≡ length a.inputs = as_many (ReceivesInput r.start q reply) number a m step in
    record {
      some = omega (arith, ready.some, many);
      few = omega (arith, ready.few, many);
      id_some = ready.id_some;
      id_free = ready.id_free;
      least = ready.least;
      most = ready.most;
      format = format;
      room = room;
      held = received_next number limit r q reply a m ready.held step faults;
      joined = joined;
    }

ready_where : (done : Bool) (id limit : ℕ) (r later : BuildRun) (m b : InputsAt) (written : Written) → IsBuilderReady id limit m.inputs (Some r) written → length m.ports ≡ length m.inputs → EndsWhere done r (Some later) m b → IsBuilderReady id limit b.inputs (Some later) written
ready_where true id limit r later m b written ready many ends =
    ready_none id limit m.inputs b.inputs (Some r) (Some later) written written ready ends.cancels.inputs_many (cancelled_none m b many ends.cancels) ready.format ready.room
ready_where false id limit r later m b written ready many ends =
    let run : IsBuilderReady id limit m.inputs (Some later) written = subst (λ (o : Option BuildRun). IsBuilderReady id limit m.inputs o written) (sym ends.0) ready in
    subst (λ (i : InputsAt). IsBuilderReady id limit i.inputs (Some later) written) (sym ends.1) run

-- a builder behind the end of a run, or where it goes on
pub ready_if_done : (id limit : ℕ) (r later : BuildRun) (m b : InputsAt) (written : Written) → IsBuilderReady id limit m.inputs (Some r) written → length m.ports ≡ length m.inputs → EndsIfDone r (Some later) m b → IsBuilderReady id limit b.inputs (Some later) written
ready_if_done id limit r later m b written ready many ends = ready_where (list_any is_done m.inputs) id limit r later m b written ready many ends

-- a builder behind a pull
pub ready_pulled : (fault : Option BuildFault) (number id limit : ℕ) (r later : BuildRun) (q : InputRequest) (reply : Received) (a m b : InputsAt) (body written : Written) → IsBuilderReady id limit a.inputs (Some r) body → length a.ports ≡ length a.inputs → StepsInput (ReceivesInput r.start q reply) number a m
    → FaultsReply reply r.start number (suc r.sent) limit m.inputs fault → IfNone fault (list_all is_held m.inputs ≡ true → IsJoined m.inputs limit written) → written.format ≡ Bank32A → written.limit ≡ limit → EndsAfter fault r (Some later) m b → IsBuilderReady id limit b.inputs (Some later) written
ready_pulled (Some fault) number id limit r later q reply a m b body written ready many step faults joined format room ends =
    let inputs_many : length m.inputs ≡ length a.inputs = as_many (ReceivesInput r.start q reply) number a m step in
    let ports_many : length m.ports ≡ length m.inputs = as_many_ports (ReceivesInput r.start q reply) number a m step ∙ (many ∙ sym inputs_many) in
    ready_none id limit a.inputs b.inputs (Some r) (Some later) body written ready (ends.cancels.inputs_many ∙ inputs_many) (cancelled_none m b ports_many ends.cancels) format room
ready_pulled None number id limit r later q reply a m b body written ready many step faults joined format room ends =
    let inputs_many : length m.inputs ≡ length a.inputs = as_many (ReceivesInput r.start q reply) number a m step in
    let ports_many : length m.ports ≡ length m.inputs = as_many_ports (ReceivesInput r.start q reply) number a m step ∙ (many ∙ sym inputs_many) in
    ready_if_done id limit r later m b written (ready_received number id limit r q reply a m body written ready step faults joined format room) ports_many ends

-- Starts.

dropped_ports : (a dropped : InputsAt) → length a.ports ≡ length a.inputs → EachInput CancelsInput a dropped → length dropped.ports ≡ length dropped.inputs
dropped_ports a dropped many drops = drops.ports_many ∙ (many ∙ sym drops.inputs_many)

pub started_none : (a dropped b : InputsAt) → length a.ports ≡ length a.inputs → EachInput CancelsInput a dropped → EachInput AsksInput dropped b → HoldNone b.inputs
started_none a dropped b many drops asks = asked_none dropped b (dropped_ports a dropped many drops) asks (cancelled_none a dropped many drops)

pub not_started_none : (a dropped b : InputsAt) → length a.ports ≡ length a.inputs → EachInput CancelsInput a dropped → (number : ℕ) → RefusesAt number dropped b → HoldNone b.inputs
not_started_none a dropped b many drops number undone = undone_none number dropped b (dropped_ports a dropped many drops) undone (cancelled_none a dropped many drops)

pub ready_started : (id limit : ℕ) (a dropped b : InputsAt) (run later : Option BuildRun) (body : Written) → IsBuilderReady id limit a.inputs run body → length a.ports ≡ length a.inputs → EachInput CancelsInput a dropped → EachInput AsksInput dropped b → IsBuilderReady id limit b.inputs later body
ready_started id limit a dropped b run later body ready many drops asks =
    ready_none id limit a.inputs b.inputs run later body body ready (asks.inputs_many ∙ drops.inputs_many) (started_none a dropped b many drops asks) ready.format ready.room

pub ready_not_started : (id limit : ℕ) (a dropped b : InputsAt) (run later : Option BuildRun) (body : Written) → IsBuilderReady id limit a.inputs run body → length a.ports ≡ length a.inputs → EachInput CancelsInput a dropped → (number : ℕ) × RefusesAt number dropped b → IsBuilderReady id limit b.inputs later body
ready_not_started id limit a dropped b run later body ready many drops undone =
    ready_none id limit a.inputs b.inputs run later body body ready (undone_many undone.0 dropped b undone.1 ∙ drops.inputs_many) (not_started_none a dropped b many drops undone.0 undone.1) ready.format ready.room

pub ready_cancelled : (id limit : ℕ) (a b : InputsAt) (run later : Option BuildRun) (body : Written) → IsBuilderReady id limit a.inputs run body → length a.ports ≡ length a.inputs → EachInput CancelsInput a b → IsBuilderReady id limit b.inputs later body
ready_cancelled id limit a b run later body ready many cancels =
    ready_none id limit a.inputs b.inputs run later body body ready cancels.inputs_many (cancelled_none a b many cancels) ready.format ready.room

-- A run that is known to be the builder's.
pub ready_of : (id limit : ℕ) (inputs : List BuilderInput) (run : Option BuildRun) (r : BuildRun) (body : Written) → run ≡ Some r → IsBuilderReady id limit inputs run body → IsBuilderReady id limit inputs (Some r) body
ready_of id limit inputs run r body is ready = subst (λ (o : Option BuildRun). IsBuilderReady id limit inputs o body) is ready

-- a builder whose run is over
pub ready_told : (id limit : ℕ) (inputs : List BuilderInput) (run : Option BuildRun) (body : Written) → IsBuilderReady id limit inputs run body → IsBuilderReady id limit inputs None body
ready_told id limit inputs run body ready = record {
  some = ready.some;
  few = ready.few;
  id_some = ready.id_some;
  id_free = ready.id_free;
  least = ready.least;
  most = ready.most;
  format = ready.format;
  room = ready.room;
  held = λ n x at held. tt;
  joined = ready.joined;
}

-- New builders.

new_none : (room : ℕ) (fronts : List ℕ) → HoldNone (map (new_input room) fronts)
new_none room [] n y at = absurd (cc)
new_none room (f ∷ fs) zero y at = ap (λ (i : BuilderInput). i.held) (sym (same_Some (new_input room f) y at))
new_none room (f ∷ fs) (suc n) y at = new_none room fs n y at

pub new_ready : (id limit room : ℕ) (fronts : List ℕ) (inputs : List BuilderInput) (body : Written) → inputs ≡ map (new_input room) fronts → body ≡ nothing_written Bank32A limit → 2 ≤ length fronts → length fronts ≤ 8 → 0 < id → id < 32768 → 8 ≤ limit → limit ≤ event_limit → IsBuilderReady id limit inputs None body
new_ready id limit room fronts inputs body made written some few id_some id_free least most =
    let many : length inputs ≡ length fronts = ap (λ (l : List BuilderInput). length l) made ∙ length-map fronts (new_input room) in
    let none : HoldNone inputs = subst (λ (l : List BuilderInput). HoldNone l) (sym made) (new_none room fronts) in
    record {
      some = omega (arith, many, some);
      few = omega (arith, many, few);
      id_some = id_some;
      id_free = id_free;
      least = least;
      most = most;
      format = ap (λ (w : Written). w.format) written;
      room = ap (λ (w : Written). w.limit) written;
      held = λ n x at held. tt;
      joined = λ all. absurd (not_all_held inputs (omega (arith, many, some)) none all);
    }
