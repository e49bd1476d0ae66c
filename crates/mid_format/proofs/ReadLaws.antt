-- What follows from what a reader of a run file has given: the bytes of its source are a run file with these events, or
use Rattle.std.proofs.Common.{◌≡◌, ◌≢◌, ◌∙◌, ℕ, suc, ◌+◌, ◌^◌, ◌<◌, ◌≤◌, List, [], ◌∷◌, ◌++◌, length, All, Option, Some, None, inl, inr, refl, ap, sym, subst, arith, length-append, append_assoc}
use Rattle.std.specs.Prelude.{if◌then◌else◌, is_some}
use Rattle.std.proofs.lemmas.List.{append-nil}
use Rattle.std.specs.Io.KnownBytes.{Consumes, IsAtEnd}
use Rattle.daq_types.specs.declared.events.Event.{Event}
use Rattle.event.specs.Events.{encoding, all_encoded, header_of, record_limit}
use Rattle.event.specs.Headers.{header_encoding, fields_of}
use Rattle.mid_format.proofs.HeadersBack.{header_back}
use Rattle.event.proofs.Events.{length-encoding}
use Rattle.event.specs.RunFile.{begin_record, end_record, begun_file}
use Rattle.event.specs.declared.head.Header.{Header}
use Rattle.mid_format.specs.Faults.{fault_at, header_at, run_at, OfBytes}
use Rattle.mid_format.specs.HasRead.{IsStorable, IsBegunFile, IsFaultBehind, IsFaultAfter, IsMidFault, IsReadSoFar, StandsBehind, HasRead, begins_at}
use Rattle.mid_format.proofs.OneReading.{IsFine, BeginsNone, IsOneEvent, AreOne, one_event, one_list, is_fine, end_begins_none, fault_begins_none, no_fault, begin_no_fault, end_no_fault, some_none}
use Rattle.mid_format.specs.declared.faults.MidFault.{MidFault}
use Rattle.mid_format.specs.declared.faults.MidFault.TheVariants.{Truncated, NoBegin, NoEnd, AfterEnd, TooBig, ReadFault, BadRecord, TooLong}
use Rattle.mid_format.specs.declared.progress.Progress.{Progress}
use Rattle.mid_format.specs.ReadLaws.{IsWholeFile, ReadsWhole, AreSameRun}

-- Nothing was read yet.
pub has_read_none : (start : ℕ) (first : Option (List ℕ)) → start ≤ 2 ^ 62 → HasRead start first first (begins_at start) []
has_read_none start None within = record { done = []; begins = tt; consumed = λ n. tt; place = omega arith; within = within; is_done = (refl, refl); at_end = λ n end e. some_none end e; fault_is = λ fault e. some_none fault e; here = λ fault e. some_none fault e; unread = λ e. some_none ReadFault e }
has_read_none start (Some text) within = record {
  done = [];
  begins = (text, refl);
  consumed = λ n. refl;
  place = omega arith;
  within = within;
  is_done = (refl, refl);
  at_end = λ n end e. some_none end e;
  fault_is = λ fault e. some_none fault e;
  here = λ fault e. some_none fault e;
  unread = λ e. some_none ReadFault e;
}

all_of_it : (text done : List ℕ) (now : Option (List ℕ)) → Consumes (Some text) now done → IsAtEnd now → text ≡ done
all_of_it text done None c e = absurd c
all_of_it text done (Some left) c e = c ∙ ap (λ l. done ++ l) e ∙ append-nil done

whole_by : (text done : List ℕ) (p : Progress) (begin : Option Header) (end : Header) (events : List Event) → text ≡ done → length done ≤ 2 ^ 62 → p.begin ≡ begin → IsReadSoFar done begin (Some end) events
    → ReadsWhole text p end events
whole_by text done p None end events e counted b d = absurd d
whole_by text done p (Some begin) end events e counted b d = record {
  begin = begin;
  begin_is = b;
  dump0 = d.dump0;
  dump1 = d.dump1;
  whole = record {
    file = record {
      is_file = e ∙ d.ended.bytes_are ∙ ap (λ front. front ++ encoding (end_record begin.serial_number end.time_stamp d.dump1)) d.ended.begun.bytes_are;
      begins_small = d.ended.begun.small;
      ends_small = d.ended.small;
      fine = d.ended.begun.fine;
      counted = omega (arith, counted, ap (length {A = ℕ}) e);
    };
    begin_storable = d.ended.begun.storable;
    end_storable = d.ended.storable;
    all_storable = d.ended.begun.all_storable;
  };
}

pub read_whole : (start : ℕ) (text : List ℕ) (now : Option (List ℕ)) (p : Progress) (end : Header) (events : List Event) → HasRead start (Some text) now p events → p.fault ≡ None → p.last ≡ Some end → ReadsWhole text p end events
read_whole start text now p end events h none last =
    whole_by text h.done p p.begin end events (all_of_it text h.done now (h.consumed none) (h.at_end none end last)) (omega (arith, h.place, h.within)) refl
    (subst (λ (o : Option Header). IsReadSoFar h.done p.begin o events) last h.is_done)

-- What was read up to a fault.

of_bytes_is : (f : MidFault) (fact : Type 0) → f ≢ ReadFault → OfBytes f fact → fact
of_bytes_is (Truncated at) fact ne p = p
of_bytes_is (NoBegin at) fact ne p = p
of_bytes_is (NoEnd at) fact ne p = p
of_bytes_is (AfterEnd at) fact ne p = p
of_bytes_is (TooBig at size) fact ne p = p
of_bytes_is ReadFault fact ne p = absurd (ne refl)
of_bytes_is (BadRecord at) fact ne p = p
of_bytes_is (TooLong at) fact ne p = p

-- A fault that is not the source's is the first one of the bytes.
pub read_fault : (start : ℕ) (text : List ℕ) (now : Option (List ℕ)) (p : Progress) (f : MidFault) (events : List Event) → HasRead start (Some text) now p events → p.fault ≡ Some f → f ≢ ReadFault → IsMidFault start text f
read_fault start text now p f events h is_fault ne = of_bytes_is f (IsMidFault start text f) ne (h.fault_is f is_fault)

-- Two ways to read the same bytes are one.

-- The begin record and events, up to what is no event, stand in front of bytes.
record IsFront (start : ℕ) (text front rest : List ℕ) (run time : ℕ) (dump : List ℕ) (events : List Event) : Type 0 where
  pub text_is : text ≡ front ++ rest
  pub begun : IsBegunFile front run time dump events
  pub counted : start + length front ≤ 2 ^ 62
  pub ends : BeginsNone (start + length front) rest

record SameFront (front rest : List ℕ) (run : ℕ) (events : List Event) (front' rest' : List ℕ) (run' : ℕ) (events' : List Event) : Type 0 where
  pub front_is : front ≡ front'
  pub rest_is : rest ≡ rest'
  pub run_is : run ≡ run'
  pub events_are : events ≡ events'

front_length : (front : List ℕ) (run time : ℕ) (dump : List ℕ) (events : List Event) → IsBegunFile front run time dump events
    → length front ≡ length (encoding (begin_record run time dump)) + length (all_encoded events)
front_length front run time dump events b = ap (length {A = ℕ}) b.bytes_are ∙ length-append (encoding (begin_record run time dump)) (all_encoded events)

one_front : (start : ℕ) (text front rest : List ℕ) (run time : ℕ) (dump : List ℕ) (events : List Event) (front' rest' : List ℕ) (run' time' : ℕ) (dump' : List ℕ) (events' : List Event)
    → IsFront start text front rest run time dump events → IsFront start text front' rest' run' time' dump' events' → SameFront front rest run events front' rest' run' events'
one_front start text front rest run time dump events front' rest' run' time' dump' events' a b =
    let spelled : text ≡ encoding (begin_record run time dump) ++ (all_encoded events ++ rest) =
    a.text_is ∙ ap (λ f. f ++ rest) a.begun.bytes_are ∙ append_assoc (encoding (begin_record run time dump)) (all_encoded events) rest in
    let spelled' : text ≡ encoding (begin_record run' time' dump') ++ (all_encoded events' ++ rest') =
    b.text_is ∙ ap (λ f. f ++ rest') b.begun.bytes_are ∙ append_assoc (encoding (begin_record run' time' dump')) (all_encoded events') rest' in
    let begin : IsOneEvent (begin_record run time dump) (begin_record run' time' dump') (all_encoded events ++ rest) (all_encoded events' ++ rest') =
    one_event (begin_record run time dump) (begin_record run' time' dump') (all_encoded events ++ rest) (all_encoded events' ++ rest') a.begun.storable b.begun.storable (sym spelled ∙ spelled') in
    let len : start + length front ≡ (start + length (encoding (begin_record run time dump))) + length (all_encoded events) = omega (arith, front_length front run time dump events a.begun) in
    let len' : start + length front' ≡ (start + length (encoding (begin_record run time dump))) + length (all_encoded events') =
    omega (arith, front_length front' run' time' dump' events' b.begun ∙ ap (λ (e : Event). length (encoding e) + length (all_encoded events')) (sym begin.event)) in
    let lists : AreOne events events' rest rest' = one_list events events' rest rest' (start + length (encoding (begin_record run time dump)))
    (is_fine events a.begun.fine a.begun.all_storable) (is_fine events' b.begun.fine b.begun.all_storable)
    (omega (arith, len, a.counted)) (omega (arith, len', b.counted)) (subst (λ n. BeginsNone n rest) len a.ends) (subst (λ n. BeginsNone n rest') len' b.ends) begin.rest in
    record {
      front_is = a.begun.bytes_are ∙ ap (λ (e : Event). encoding e ++ all_encoded events) begin.event ∙ ap (λ es. encoding (begin_record run' time' dump') ++ all_encoded es) lists.events ∙ sym b.begun.bytes_are;
      rest_is = lists.rest;
      run_is = ap (λ (e : Event). e.serial) begin.event;
      events_are = lists.events;
    }

-- A run file, as a front with its end record behind it.
whole_front : (start : ℕ) (text : List ℕ) (run time0 : ℕ) (dump0 : List ℕ) (events : List Event) (time1 : ℕ) (dump1 : List ℕ) → start + length text ≤ 2 ^ 62 → IsWholeFile text run time0 dump0 events time1 dump1
    → IsFront start text (begun_file run time0 dump0 events) (encoding (end_record run time1 dump1) ++ []) run time0 dump0 events
whole_front start text run time0 dump0 events time1 dump1 within w = record {
  text_is = w.file.is_file ∙ ap (λ end. begun_file run time0 dump0 events ++ end) (sym (append-nil (encoding (end_record run time1 dump1))));
  begun = record { bytes_are = refl; small = w.file.begins_small; storable = w.begin_storable; fine = w.file.fine; all_storable = w.all_storable };
  counted = omega (arith, within, ap (length {A = ℕ}) w.file.is_file, length-append (begun_file run time0 dump0 events) (encoding (end_record run time1 dump1)));
  ends = end_begins_none (start + length (begun_file run time0 dump0 events)) run time1 dump1 [] w.end_storable;
}

fault_front : (start : ℕ) (text : List ℕ) (f : MidFault) (b : IsFaultBehind start text f) → IsFront start text b.front b.rest b.run b.time b.dump b.events
fault_front start text f b = record { text_is = b.text_is; begun = b.begun; counted = b.counted; ends = fault_begins_none b.run (start + length b.front) b.rest f b.fault_is }

after_front : (start : ℕ) (text : List ℕ) (f : MidFault) (b : IsFaultAfter start text f) → IsFront start text b.ended.front (encoding (end_record b.run b.time1 b.dump1) ++ b.rest) b.run b.time0 b.dump0 b.events
after_front start text f b = record {
  text_is = b.text_is ∙ ap (λ front. front ++ b.rest) b.ended.bytes_are ∙ append_assoc b.ended.front (encoding (end_record b.run b.time1 b.dump1)) b.rest;
  begun = b.ended.begun;
  counted = omega (arith, b.counted, ap (length {A = ℕ}) b.ended.bytes_are, length-append b.ended.front (encoding (end_record b.run b.time1 b.dump1)));
  ends = end_begins_none (start + length b.ended.front) b.run b.time1 b.dump1 b.rest b.ended.storable;
}

-- a begin record that was read, with the events behind it, is no fault
pub begun_no_fault : (start : ℕ) (text front rest : List ℕ) (run time : ℕ) (dump : List ℕ) (events : List Event) → text ≡ front ++ rest → IsBegunFile front run time dump events → start + length front ≤ 2 ^ 62
    → fault_at None start text ≡ None
begun_no_fault start text front rest run time dump events is begun counted =
    ap (fault_at None start) (is ∙ ap (λ x. x ++ rest) begun.bytes_are ∙ append_assoc (encoding (begin_record run time dump)) (all_encoded events) rest)
    ∙ no_fault None start (begin_record run time dump) (all_encoded events ++ rest) begun.storable
    (begin_no_fault start run time dump begun.small (omega (arith, counted, front_length front run time dump events begun, length-encoding (begin_record run time dump))))

-- the first header of a front is no fault
front_no_fault : (start : ℕ) (text front rest : List ℕ) (run time : ℕ) (dump : List ℕ) (events : List Event) (f : MidFault) → IsFront start text front rest run time dump events → fault_at None start text ≡ Some f → ⊥
front_no_fault start text front rest run time dump events f a p = some_none f (sym (begun_no_fault start text front rest run time dump events a.text_is a.begun a.counted) ∙ p)

-- a later fault does not stand where an end record does
not_end : (start : ℕ) (text front : List ℕ) (run time0 : ℕ) (dump0 : List ℕ) (events : List Event) (time1 : ℕ) (dump1 more : List ℕ) (f : MidFault)
    → IsFront start text front (encoding (end_record run time1 dump1) ++ more) run time0 dump0 events → IsStorable (end_record run time1 dump1) → length dump1 ≤ record_limit
    → start + length front + length (encoding (end_record run time1 dump1)) ≤ 2 ^ 62 → IsFaultBehind start text f → ⊥
not_end start text front run time0 dump0 events time1 dump1 more f a s small within b =
    let same : SameFront front (encoding (end_record run time1 dump1) ++ more) run events b.front b.rest b.run b.events =
    one_front start text front (encoding (end_record run time1 dump1) ++ more) run time0 dump0 events b.front b.rest b.run b.time b.dump b.events a (fault_front start text f b) in
    let here : fault_at (Some run) (start + length front) (encoding (end_record run time1 dump1) ++ more) ≡ Some f =
    subst (λ x. fault_at (Some run) (start + length front) x ≡ Some f) (sym same.rest_is)
    (subst (λ x. fault_at (Some run) (start + length x) b.rest ≡ Some f) (sym same.front_is) (subst (λ (n : ℕ). fault_at (Some n) (start + length b.front) b.rest ≡ Some f) (sym same.run_is) b.fault_is)) in
    some_none f (sym (no_fault (Some run) (start + length front) (end_record run time1 dump1) more s
    (end_no_fault run (start + length front) time1 dump1 small (omega (arith, within, length-encoding (end_record run time1 dump1))))) ∙ here)

nothing_more : (rest : List ℕ) → [] ≡ rest → 0 < length rest → ⊥
nothing_more rest e some = omega (arith, some, ap (length {A = ℕ}) e)

-- A run file has no fault.
pub whole_no_fault : (start : ℕ) (text : List ℕ) (run time0 : ℕ) (dump0 : List ℕ) (events : List Event) (time1 : ℕ) (dump1 : List ℕ) (f : MidFault) → IsWholeFile text run time0 dump0 events time1 dump1
    → start + length text ≤ 2 ^ 62 → IsMidFault start text f → ⊥
whole_no_fault start text run time0 dump0 events time1 dump1 f w within (inl p) =
    front_no_fault start text (begun_file run time0 dump0 events) (encoding (end_record run time1 dump1) ++ []) run time0 dump0 events f (whole_front start text run time0 dump0 events time1 dump1 within w) p
whole_no_fault start text run time0 dump0 events time1 dump1 f w within (inr (inl b)) =
    not_end start text (begun_file run time0 dump0 events) run time0 dump0 events time1 dump1 [] f (whole_front start text run time0 dump0 events time1 dump1 within w) w.end_storable w.file.ends_small
    (omega (arith, within, ap (length {A = ℕ}) w.file.is_file, length-append (begun_file run time0 dump0 events) (encoding (end_record run time1 dump1)))) b
whole_no_fault start text run time0 dump0 events time1 dump1 f w within (inr (inr b)) =
    let same : SameFront (begun_file run time0 dump0 events) (encoding (end_record run time1 dump1) ++ []) run events b.ended.front (encoding (end_record b.run b.time1 b.dump1) ++ b.rest) b.run b.events =
    one_front start text (begun_file run time0 dump0 events) (encoding (end_record run time1 dump1) ++ []) run time0 dump0 events b.ended.front (encoding (end_record b.run b.time1 b.dump1) ++ b.rest) b.run b.time0 b.dump0 b.events
    (whole_front start text run time0 dump0 events time1 dump1 within w) (after_front start text f b) in
    nothing_more b.rest (one_event (end_record run time1 dump1) (end_record b.run b.time1 b.dump1) [] b.rest w.end_storable b.ended.storable same.rest_is).rest b.more

pub one_whole : (text : List ℕ) (run time0 : ℕ) (dump0 : List ℕ) (events : List Event) (time1 : ℕ) (dump1 : List ℕ) (run' time0' : ℕ) (dump0' : List ℕ) (events' : List Event) (time1' : ℕ) (dump1' : List ℕ)
    → IsWholeFile text run time0 dump0 events time1 dump1 → IsWholeFile text run' time0' dump0' events' time1' dump1' → AreSameRun run run' events events'
one_whole text run time0 dump0 events time1 dump1 run' time0' dump0' events' time1' dump1' v w =
    let same : SameFront (begun_file run time0 dump0 events) (encoding (end_record run time1 dump1) ++ []) run events (begun_file run' time0' dump0' events') (encoding (end_record run' time1' dump1') ++ []) run' events' =
    one_front 0 text (begun_file run time0 dump0 events) (encoding (end_record run time1 dump1) ++ []) run time0 dump0 events (begun_file run' time0' dump0' events') (encoding (end_record run' time1' dump1') ++ []) run' time0' dump0' events'
    (whole_front 0 text run time0 dump0 events time1 dump1 (omega (arith, v.file.counted)) v) (whole_front 0 text run' time0' dump0' events' time1' dump1' (omega (arith, w.file.counted)) w) in
    record { run_is = same.run_is; events_are = same.events_are }

-- The first fault.

header_or : Header → Option Header → Header
header_or d None = d
header_or d (Some h) = h

some_or : MidFault → Option MidFault → MidFault
some_or d None = d
some_or d (Some f) = f

same_some : (f g : MidFault) → Some f ≡ Some g → f ≡ g
unfolding some_or
same_some f g e = ap (some_or f) e

after_ended : (start : ℕ) (text : List ℕ) (f : MidFault) (b : IsFaultAfter start text f) → start + length b.ended.front + length (encoding (end_record b.run b.time1 b.dump1)) ≤ 2 ^ 62
after_ended start text f b = omega (arith, b.counted, ap (length {A = ℕ}) b.ended.bytes_are, length-append b.ended.front (encoding (end_record b.run b.time1 b.dump1)))

-- Bytes that are no run file have one first fault.
pub one_fault : (start : ℕ) (text : List ℕ) (f g : MidFault) → IsMidFault start text f → IsMidFault start text g → f ≡ g
one_fault start text f g (inl p) (inl q) = same_some f g (sym p ∙ q)
one_fault start text f g (inl p) (inr (inl b)) = absurd (front_no_fault start text b.front b.rest b.run b.time b.dump b.events f (fault_front start text g b) p)
one_fault start text f g (inl p) (inr (inr b)) = absurd (front_no_fault start text b.ended.front (encoding (end_record b.run b.time1 b.dump1) ++ b.rest) b.run b.time0 b.dump0 b.events f (after_front start text g b) p)
one_fault start text f g (inr (inl a)) (inl q) = absurd (front_no_fault start text a.front a.rest a.run a.time a.dump a.events g (fault_front start text f a) q)
one_fault start text f g (inr (inl a)) (inr (inl b)) =
    let same : SameFront a.front a.rest a.run a.events b.front b.rest b.run b.events =
    one_front start text a.front a.rest a.run a.time a.dump a.events b.front b.rest b.run b.time b.dump b.events (fault_front start text f a) (fault_front start text g b) in
    same_some f g (sym a.fault_is ∙ ap (λ (n : ℕ). fault_at (Some n) (start + length a.front) a.rest) same.run_is ∙ ap (λ x. fault_at (Some b.run) (start + length x) a.rest) same.front_is
    ∙ ap (λ x. fault_at (Some b.run) (start + length b.front) x) same.rest_is ∙ b.fault_is)
one_fault start text f g (inr (inl a)) (inr (inr b)) =
    absurd (not_end start text b.ended.front b.run b.time0 b.dump0 b.events b.time1 b.dump1 b.rest f (after_front start text g b) b.ended.storable b.ended.small (after_ended start text g b) a)
one_fault start text f g (inr (inr a)) (inl q) = absurd (front_no_fault start text a.ended.front (encoding (end_record a.run a.time1 a.dump1) ++ a.rest) a.run a.time0 a.dump0 a.events g (after_front start text f a) q)
one_fault start text f g (inr (inr a)) (inr (inl b)) =
    absurd (not_end start text a.ended.front a.run a.time0 a.dump0 a.events a.time1 a.dump1 a.rest g (after_front start text f a) a.ended.storable a.ended.small (after_ended start text f a) b)
one_fault start text f g (inr (inr a)) (inr (inr b)) =
    let same : SameFront a.ended.front (encoding (end_record a.run a.time1 a.dump1) ++ a.rest) a.run a.events b.ended.front (encoding (end_record b.run b.time1 b.dump1) ++ b.rest) b.run b.events =
    one_front start text a.ended.front (encoding (end_record a.run a.time1 a.dump1) ++ a.rest) a.run a.time0 a.dump0 a.events b.ended.front (encoding (end_record b.run b.time1 b.dump1) ++ b.rest) b.run b.time0 b.dump0 b.events
    (after_front start text f a) (after_front start text g b) in
    let end : IsOneEvent (end_record a.run a.time1 a.dump1) (end_record b.run b.time1 b.dump1) a.rest b.rest =
    one_event (end_record a.run a.time1 a.dump1) (end_record b.run b.time1 b.dump1) a.rest b.rest a.ended.storable b.ended.storable same.rest_is in
    let fronts : a.front ≡ b.front = a.ended.bytes_are ∙ ap (λ x. x ++ encoding (end_record a.run a.time1 a.dump1)) same.front_is ∙ ap (λ (e : Event). b.ended.front ++ encoding e) end.event ∙ sym b.ended.bytes_are in
    a.fault_is ∙ ap (λ x. AfterEnd (start + length x)) fronts ∙ sym b.fault_is

-- At any moment.

first_fine : (P : Event → Type 0) (e : Event) (es : List Event) → All P (e ∷ es) → P e
first_fine P e es h = h 0 e (omega arith)

rest_fine : (P : Event → Type 0) (e : Event) (es : List Event) → All P (e ∷ es) → All P es
rest_fine P e es h = λ k d inside. h (suc k) d (omega (arith, inside))

first_events : (es fs : List Event) (x y : List ℕ) (at : ℕ) → All IsFine es → All IsFine fs → at + length (all_encoded es) ≤ 2 ^ 62 → BeginsNone (at + length (all_encoded fs)) y
    → all_encoded es ++ x ≡ all_encoded fs ++ y → (more : List Event) × (fs ≡ es ++ more)
first_events [] fs x y at he hf we ny p = (fs, refl)
first_events (e ∷ es) [] x y at he hf we ny p =
    absurd (ny e (all_encoded es ++ x) (first_fine IsFine e es he) (omega (arith, we, length-append (encoding e) (all_encoded es))) (sym p ∙ append_assoc (encoding e) (all_encoded es) x))
first_events (e ∷ es) (f ∷ fs) x y at he hf we ny p =
    let one : IsOneEvent e f (all_encoded es ++ x) (all_encoded fs ++ y) = one_event e f (all_encoded es ++ x) (all_encoded fs ++ y) (first_fine IsFine e es he).storable (first_fine IsFine f fs hf).storable
    (sym (append_assoc (encoding e) (all_encoded es) x) ∙ p ∙ append_assoc (encoding f) (all_encoded fs) y) in
    let lf : at + length (encoding f ++ all_encoded fs) ≡ (at + length (encoding e)) + length (all_encoded fs) =
    omega (arith, length-append (encoding f) (all_encoded fs), ap (λ (g : Event). length (encoding g)) one.event) in
    let more : (more : List Event) × (fs ≡ es ++ more) = first_events es fs x y (at + length (encoding e)) (rest_fine IsFine e es he) (rest_fine IsFine f fs hf)
    (omega (arith, we, length-append (encoding e) (all_encoded es))) (subst (λ n. BeginsNone n y) lf ny) one.rest in
    (more.0, ap (λ (g : Event). g ∷ fs) (sym one.event) ∙ ap (λ gs. e ∷ gs) more.1)

begun_events : (text : List ℕ) (run time0 : ℕ) (dump0 : List ℕ) (events : List Event) (time1 : ℕ) (dump1 front rest : List ℕ) (run' time' : ℕ) (dump' : List ℕ) (given : List Event)
    → IsWholeFile text run time0 dump0 events time1 dump1 → text ≡ front ++ rest → length front ≤ 2 ^ 62 → IsBegunFile front run' time' dump' given → (more : List Event) × (events ≡ given ++ more)
begun_events text run time0 dump0 events time1 dump1 front rest run' time' dump' given w is counted b =
    let a : IsFront 0 text (begun_file run time0 dump0 events) (encoding (end_record run time1 dump1) ++ []) run time0 dump0 events = whole_front 0 text run time0 dump0 events time1 dump1 (omega (arith, w.file.counted)) w in
    let spelled : text ≡ encoding (begin_record run time0 dump0) ++ (all_encoded events ++ (encoding (end_record run time1 dump1) ++ [])) =
    a.text_is ∙ append_assoc (encoding (begin_record run time0 dump0)) (all_encoded events) (encoding (end_record run time1 dump1) ++ []) in
    let spelled' : text ≡ encoding (begin_record run' time' dump') ++ (all_encoded given ++ rest) =
    is ∙ ap (λ f. f ++ rest) b.bytes_are ∙ append_assoc (encoding (begin_record run' time' dump')) (all_encoded given) rest in
    let begin : IsOneEvent (begin_record run' time' dump') (begin_record run time0 dump0) (all_encoded given ++ rest) (all_encoded events ++ (encoding (end_record run time1 dump1) ++ [])) =
    one_event (begin_record run' time' dump') (begin_record run time0 dump0) (all_encoded given ++ rest) (all_encoded events ++ (encoding (end_record run time1 dump1) ++ [])) b.storable w.begin_storable (sym spelled' ∙ spelled) in
    let len : length front ≡ length (encoding (begin_record run time0 dump0)) + length (all_encoded given) =
    front_length front run' time' dump' given b ∙ ap (λ (e : Event). length (encoding e) + length (all_encoded given)) begin.event in
    let place : 0 + length (begun_file run time0 dump0 events) ≡ length (encoding (begin_record run time0 dump0)) + length (all_encoded events) =
    omega (arith, front_length (begun_file run time0 dump0 events) run time0 dump0 events a.begun) in
    first_events given events rest (encoding (end_record run time1 dump1) ++ []) (length (encoding (begin_record run time0 dump0)))
    (is_fine given b.fine b.all_storable) (is_fine events w.file.fine w.all_storable) (omega (arith, len, counted))
    (subst (λ n. BeginsNone n (encoding (end_record run time1 dump1) ++ [])) place a.ends) begin.rest

done_events : (text : List ℕ) (run time0 : ℕ) (dump0 : List ℕ) (events : List Event) (time1 : ℕ) (dump1 done rest : List ℕ) (begin end : Option Header) (given : List Event)
    → IsWholeFile text run time0 dump0 events time1 dump1 → text ≡ done ++ rest → length done ≤ 2 ^ 62 → IsReadSoFar done begin end given → (more : List Event) × (events ≡ given ++ more)
done_events text run time0 dump0 events time1 dump1 done rest None None given w is counted d = (events, ap (λ es. es ++ events) (sym d.1))
done_events text run time0 dump0 events time1 dump1 done rest None (Some end) given w is counted d = absurd d
done_events text run time0 dump0 events time1 dump1 done rest (Some begin) None given w is counted d =
    begun_events text run time0 dump0 events time1 dump1 done rest begin.serial_number begin.time_stamp d.dump given w is counted d.begun
done_events text run time0 dump0 events time1 dump1 done rest (Some begin) (Some end) given w is counted d =
    begun_events text run time0 dump0 events time1 dump1 d.ended.front (encoding (end_record begin.serial_number end.time_stamp d.dump1) ++ rest) begin.serial_number begin.time_stamp d.dump0 given w
    (is ∙ ap (λ x. x ++ rest) d.ended.bytes_are ∙ append_assoc d.ended.front (encoding (end_record begin.serial_number end.time_stamp d.dump1)) rest)
    (omega (arith, counted, ap (length {A = ℕ}) d.ended.bytes_are, length-append d.ended.front (encoding (end_record begin.serial_number end.time_stamp d.dump1)))) d.ended.begun

-- The events that were given of a run file are its first ones.
pub events_so_far : (text : List ℕ) (run time0 : ℕ) (dump0 : List ℕ) (events : List Event) (time1 : ℕ) (dump1 : List ℕ) (start : ℕ) (now : Option (List ℕ)) (p : Progress) (given : List Event)
    → IsWholeFile text run time0 dump0 events time1 dump1 → HasRead start (Some text) now p given → (more : List Event) × (events ≡ given ++ more)
events_so_far text run time0 dump0 events time1 dump1 start now p given w h =
    done_events text run time0 dump0 events time1 dump1 h.done h.begins.0 p.begin p.last given w h.begins.1 (omega (arith, h.place, h.within)) h.is_done

begun_within : (front : List ℕ) (run time : ℕ) (dump : List ℕ) (events : List Event) → IsBegunFile front run time dump events → length (all_encoded events) ≤ length front
begun_within front run time dump events b = omega (arith, front_length front run time dump events b)

done_within : (done : List ℕ) (begin end : Option Header) (events : List Event) → IsReadSoFar done begin end events → length (all_encoded events) ≤ length done
done_within done None None events d = omega (arith, ap (λ es. length (all_encoded es)) d.1)
done_within done None (Some end) events d = absurd d
done_within done (Some begin) None events d = begun_within done begin.serial_number begin.time_stamp d.dump events d.begun
done_within done (Some begin) (Some end) events d =
    omega (
      arith,
      begun_within d.ended.front begin.serial_number begin.time_stamp d.dump0 events d.ended.begun,
      ap (length {A = ℕ}) d.ended.bytes_are,
      length-append d.ended.front (encoding (end_record begin.serial_number end.time_stamp d.dump1)),
    )

-- They have no more bytes than were read.
pub events_before : (start : ℕ) (first now : Option (List ℕ)) (p : Progress) (events : List Event) → HasRead start first now p events → start + length (all_encoded events) ≤ p.at
events_before start first now p events h = omega (arith, done_within h.done p.begin p.last events h.is_done, h.place)

-- They have at most 2^62 bytes, also where the source tells nothing.
pub events_within : (start : ℕ) (first now : Option (List ℕ)) (p : Progress) (events : List Event) → HasRead start first now p events → length (all_encoded events) ≤ 2 ^ 62
events_within start first now p events h = omega (arith, done_within h.done p.begin p.last events h.is_done, h.place, h.within)

-- The run of a file.

pub run_of_begun : (start : ℕ) (text front rest : List ℕ) (run time : ℕ) (dump : List ℕ) (events : List Event) → text ≡ front ++ rest → IsBegunFile front run time dump events → start + length front ≤ 2 ^ 62
    → run_at start text ≡ Some run
run_of_begun start text front rest run time dump events is begun counted =
    let begin : Event = begin_record run time dump in
    let more : List ℕ = dump ++ (all_encoded events ++ rest) in
    let spelled : text ≡ header_encoding (fields_of (begin_record run time dump)) ++ (dump ++ (all_encoded events ++ rest)) =
    is ∙ ap (λ x. x ++ rest) begun.bytes_are ∙ append_assoc (encoding (begin_record run time dump)) (all_encoded events) rest
    ∙ append_assoc (header_of (begin_record run time dump)) dump (all_encoded events ++ rest) in
    let head : header_at text ≡ fields_of (begin_record run time dump) = ap header_at spelled ∙ header_back (fields_of (begin_record run time dump)) (dump ++ (all_encoded events ++ rest)) begun.storable in
    ap (λ (o : Option MidFault). if is_some o then None else Some (header_at text).serial_number) (begun_no_fault start text front rest run time dump events is begun counted)
    ∙ ap (λ (h : Header). Some h.serial_number) head

-- of a whole run file
pub run_of_whole : (start : ℕ) (text : List ℕ) (run time0 : ℕ) (dump0 : List ℕ) (events : List Event) (time1 : ℕ) (dump1 : List ℕ) → IsWholeFile text run time0 dump0 events time1 dump1 → start + length text ≤ 2 ^ 62
    → run_at start text ≡ Some run
run_of_whole start text run time0 dump0 events time1 dump1 w within =
    let a : IsFront start text (begun_file run time0 dump0 events) (encoding (end_record run time1 dump1) ++ []) run time0 dump0 events = whole_front start text run time0 dump0 events time1 dump1 within w in
    run_of_begun start text (begun_file run time0 dump0 events) (encoding (end_record run time1 dump1) ++ []) run time0 dump0 events a.text_is a.begun a.counted

run_of_done : (start : ℕ) (text done rest : List ℕ) (begin last : Option Header) (events : List Event) (h : Header) → text ≡ done ++ rest → start + length done ≤ 2 ^ 62 → IsReadSoFar done begin last events → begin ≡ Some h
    → run_at start text ≡ Some h.serial_number
unfolding header_or
run_of_done start text done rest None last events h is counted d none = some_none h none
run_of_done start text done rest (Some begin) None events h is counted d same =
    run_of_begun start text done rest begin.serial_number begin.time_stamp d.dump events is d.begun counted ∙ ap (λ (o : Option Header). Some (header_or begin o).serial_number) same
run_of_done start text done rest (Some begin) (Some end) events h is counted d same =
    run_of_begun start text d.ended.front (encoding (end_record begin.serial_number end.time_stamp d.dump1) ++ rest) begin.serial_number begin.time_stamp d.dump0 events
    (is ∙ ap (λ x. x ++ rest) d.ended.bytes_are ∙ append_assoc d.ended.front (encoding (end_record begin.serial_number end.time_stamp d.dump1)) rest) d.ended.begun
    (omega (arith, counted, ap (length {A = ℕ}) d.ended.bytes_are, length-append d.ended.front (encoding (end_record begin.serial_number end.time_stamp d.dump1))))
    ∙ ap (λ (o : Option Header). Some (header_or begin o).serial_number) same

-- of a file whose begin record was read
pub run_read : (start : ℕ) (text : List ℕ) (now : Option (List ℕ)) (p : Progress) (events : List Event) (h : Header) → HasRead start (Some text) now p events → p.begin ≡ Some h → run_at start text ≡ Some h.serial_number
run_read start text now p events h r begun = run_of_done start text r.done r.begins.0 p.begin p.last events h r.begins.1 (omega (arith, r.place, r.within)) r.is_done begun

-- and of one whose begin record is at fault
unbegun : (start : ℕ) (text done : List ℕ) (begin last : Option Header) (events : List Event) (f : MidFault) → IsReadSoFar done begin last events → begin ≡ None → StandsBehind start text done last begin f → fault_at None start text ≡ Some f
unbegun start text done None None events f d none s =
    let all : text ≡ s.rest = s.text_is ∙ ap (λ x. x ++ s.rest) d.0 in
    let place : start + length done ≡ start = omega (arith, ap (length {A = ℕ}) d.0) in
    ap (fault_at None start) all ∙ subst (λ (at : ℕ). fault_at None at s.rest ≡ Some f) place s.stands
unbegun start text done None (Some end) events f d none s = absurd d
unbegun start text done (Some begin) last events f d none s = some_none begin (sym none)

pub run_unread : (start : ℕ) (text : List ℕ) (now : Option (List ℕ)) (p : Progress) (events : List Event) (f : MidFault) → HasRead start (Some text) now p events → p.begin ≡ None → p.fault ≡ Some f → f ≢ ReadFault
    → run_at start text ≡ None
run_unread start text now p events f r none is_fault ne =
    ap (λ (o : Option MidFault). if is_some o then None else Some (header_at text).serial_number)
    (unbegun start text r.done p.begin p.last events f r.is_done none (of_bytes_is f (StandsBehind start text r.done p.last p.begin f) ne (r.here f is_fault)))
