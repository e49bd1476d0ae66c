-- What a reader has given, after each of its steps.
use Rattle.std.proofs.Common.{◌≡◌, ◌≢◌, ◌∙◌, ℕ, ◌+◌, ◌<◌, List, [], ◌∷◌, ◌++◌, length, Option, Some, None, IfSome, refl, ap, sym, subst, arith, length-append, append_assoc}
use Rattle.std.specs.Prelude.{is_some, true, false}
use Rattle.std.proofs.Common.{inl, inr}
use Rattle.std.proofs.lemmas.List.{append-nil}
use Rattle.std.proofs.lemmas.List.Elements.{All-append, All-nil, All-cons}
use Rattle.std.specs.Io.KnownBytes.{Consumes, IsAtEnd}
use Rattle.std.proofs.KnownBytes.{Consumes-trans}
use Rattle.daq_types.specs.declared.events.Event.{Event}
use Rattle.event.specs.Events.{encoding, all_encoded, begin_id, end_id}
use Rattle.event.proofs.Events.{all_encoded-append}
use Rattle.event.specs.RunFile.{begin_record, end_record, record_mask, IsFileEvent}
use Rattle.event.specs.Held.{HeldEvent}
use Rattle.event.specs.Pieces.{FailsBehind}
use Rattle.event.specs.Headers.{header_encoding, event_of, fields_of}
use Rattle.event.proofs.Headers.{length-header_encoding, header_back}
use Rattle.event.specs.declared.head.Header.{Header}
use Rattle.mid_format.specs.Faults.{fault_at, OfBytes, OfSource}
use Rattle.mid_format.specs.Parts.{IsInRange, ReadsHead, ReadsBody, FailsInside, LacksBytes, IsBehindEnd}
use Rattle.mid_format.specs.HasRead.{IsStorable, IsBegunFile, IsEndedFile, IsMidFault, BeginsWith, IsReadSoFar, IsFaultAt, StandsBehind, HasRead}
use Rattle.mid_format.specs.Steps.{IsGoing, BeginsNow, BeginsReading, BeginStops, FinishesReading, FinishStops}
use Rattle.mid_format.specs.declared.faults.MidFault.{MidFault}
use Rattle.mid_format.specs.declared.faults.MidFault.TheVariants.{AfterEnd, ReadFault}
use Rattle.mid_format.specs.declared.progress.Progress.{Progress}
use Rattle.mid_format.proofs.Allowed.{IsBeginHeader, IsEventHeader, IsEndHeader, begin_allowed, event_allowed, end_allowed}
use Rattle.mid_format.proofs.Beginnings.{map_fault, told_behind, cut_behind}
use Rattle.mid_format.proofs.Failing.{map_source, of_source, inside_data, after_inside, after_end}

none_some : {A B : Type 0} (o : Option A) (x : A) → o ≡ None → o ≡ Some x → B
none_some o x n s = let e : false ≡ true = ap is_some (sym n ∙ s) in absurd cc

abbrev some_or : {A : Type 0} → A → Option A → A
some_or d None = d
some_or d (Some x) = x

-- a fact of the one fault
of_fault : (f : MidFault) (Q : MidFault → Type 0) → Q f → (g : MidFault) → Some f ≡ Some g → Q g
of_fault f Q q g e = subst Q (ap (some_or f) e) q

begins_of : (first now : Option (List ℕ)) (done : List ℕ) → Consumes first now done → IfSome first (λ text. (rest : List ℕ) × (text ≡ done ++ rest))
begins_of None now done c = tt
begins_of (Some text) None done c = absurd c
begins_of (Some text) (Some rest) done c = (rest, c)

-- a header with its id, its mask and its length
same_header : (h : Header) (id mask serial size : ℕ) → h.event_id ≡ id → h.trigger_mask ≡ mask → h.serial_number ≡ serial → h.data_size ≡ size
    → h ≡ record { event_id = id; trigger_mask = mask; serial_number = serial; time_stamp = h.time_stamp; data_size = size }
same_header h id mask serial size a b c d =
    ap (λ (n : ℕ). record { event_id = n; trigger_mask = h.trigger_mask; serial_number = h.serial_number; time_stamp = h.time_stamp; data_size = h.data_size }) a
    ∙ ap (λ (n : ℕ). record { event_id = id; trigger_mask = n; serial_number = h.serial_number; time_stamp = h.time_stamp; data_size = h.data_size }) b
    ∙ ap (λ (n : ℕ). record { event_id = id; trigger_mask = mask; serial_number = n; time_stamp = h.time_stamp; data_size = h.data_size }) c
    ∙ ap (λ (n : ℕ). record { event_id = id; trigger_mask = mask; serial_number = serial; time_stamp = h.time_stamp; data_size = n }) d

encoded : (h : Header) (e : Event) → h ≡ fields_of e → header_encoding h ++ e.body ≡ encoding e
encoded h e p = ap (λ (x : Header). header_encoding x ++ e.body) p

length_encoded : (h : Header) (body : List ℕ) → length body ≡ h.data_size → length (header_encoding h ++ body) ≡ 16 + h.data_size
length_encoded h body e = length-append (header_encoding h) body ∙ omega (arith, length-header_encoding h, e)

done_of : (done : List ℕ) (p : Progress) (b : Option Header) (events : List Event) → IsReadSoFar done p.begin p.last events → p.begin ≡ b → p.last ≡ None → IsReadSoFar done b None events
done_of done p b events d eb el = subst (λ (o : Option Header). IsReadSoFar done o None events) eb (subst (λ (o : Option Header). IsReadSoFar done p.begin o events) el d)

-- a fault at the first header, and at a later one
stands_first : (p : Progress) (at place : ℕ) (rest : List ℕ) (f : MidFault) → p.last ≡ None → p.begin ≡ None → at ≡ place → fault_at None at rest ≡ Some f → IsFaultAt p.last p.begin place rest f
stands_first p at place rest f no_end none same e =
    subst (λ (o : Option Header). IsFaultAt o p.begin place rest f) (sym no_end) (subst (λ (o : Option Header). IsFaultAt None o place rest f) (sym none) (subst (λ (n : ℕ). fault_at None n rest ≡ Some f) same e))

stands_later : (p : Progress) (b : Header) (at place : ℕ) (rest : List ℕ) (f : MidFault) → p.last ≡ None → p.begin ≡ Some b → at ≡ place → fault_at (Some b.serial_number) at rest ≡ Some f → IsFaultAt p.last p.begin place rest f
stands_later p b at place rest f no_end has_begun same e =
    subst (λ (o : Option Header). IsFaultAt o p.begin place rest f) (sym no_end)
    (subst (λ (o : Option Header). IsFaultAt None o place rest f) (sym has_begun) (subst (λ (n : ℕ). fault_at (Some b.serial_number) n rest ≡ Some f) same e))

-- The begin record.

module _ (start : ℕ) (first before : Option (List ℕ)) (old : Progress) (events : List Event) (r : HasRead start first before old events) (going : IsGoing old) (none : old.begin ≡ None) where
  empty : (r.done ≡ []) × (events ≡ [])
  empty = done_of r.done old None events r.is_done none going.no_end

  at_begin : old.at ≡ start
  at_begin = omega (arith, r.place, ap (length {A = ℕ}) empty.0)

  pub begun_now : (after : Option (List ℕ)) (new : Progress) (h : Header) → BeginsNow before after old new h → HasRead start first after new events
  begun_now after new h b =
      let allowed : IsBeginHeader old.at h = begin_allowed old.at h b.fine in
      let done : List ℕ = header_encoding h ++ b.dump in
      let taken : Consumes first after (header_encoding h ++ b.dump) =
      subst (λ front. Consumes first after (front ++ (header_encoding h ++ b.dump))) empty.0 (Consumes-trans first before after r.done (header_encoding h ++ b.dump) (r.consumed going.no_fault) b.consumed) in
      let header : h ≡ fields_of (begin_record h.serial_number h.time_stamp b.dump) =
      same_header h begin_id record_mask h.serial_number (length b.dump) allowed.id allowed.mask refl (sym b.length) in
      let begun : IsBegunFile (header_encoding h ++ b.dump) h.serial_number h.time_stamp b.dump [] = record {
        bytes_are = encoded h (begin_record h.serial_number h.time_stamp b.dump) header ∙ sym (append-nil (encoding (begin_record h.serial_number h.time_stamp b.dump)));
        small = omega (arith, b.length, allowed.sized.small);
        storable = subst IsInRange header b.in_range;
        fine = All-nil IsFileEvent;
        all_storable = All-nil IsStorable;
      } in
      subst (λ p. HasRead start first after p events) (sym b.progress) (record {
        done = header_encoding h ++ b.dump;
        begins = begins_of first after (header_encoding h ++ b.dump) taken;
        consumed = λ n. taken;
        place = omega (arith, at_begin, length_encoded h b.dump b.length);
        within = allowed.sized.within;
        is_done = subst (λ (o : Option Header). IsReadSoFar (header_encoding h ++ b.dump) (Some h) o events) (sym going.no_end)
            (subst (BeginsWith (header_encoding h ++ b.dump) h) (sym empty.1) (record { dump = b.dump; header = header; begun = begun }));
        at_end = λ n end is_last. none_some old.last end going.no_end is_last;
        fault_is = λ fault is_fault. none_some old.fault fault going.no_fault is_fault;
        here = λ fault is_fault. none_some old.fault fault going.no_fault is_fault;
        unread = λ is_fault. none_some old.fault ReadFault going.no_fault is_fault;
      })

  pub begin_stopped : (after : Option (List ℕ)) (at_hand : List ℕ) (new : Progress) (f : MidFault) → BeginStops before old new f → OfSource f (FailsInside before after at_hand)
      → HasRead start first after (record new { fault = Some f }) events
  begin_stopped after at_hand new f s fails =
      let stays : OfBytes f (IfSome first (λ text. IsMidFault start text f)) =
      map_fault f (IfSome before (λ rest. fault_at None old.at rest ≡ Some f)) (IfSome first (λ text. IsMidFault start text f))
      (told_behind first before r.done (λ rest. fault_at None old.at rest ≡ Some f) (λ text. IsMidFault start text f) (r.consumed going.no_fault)
      (λ rest e. inl (subst (λ front. fault_at None start (front ++ rest) ≡ Some f) (sym empty.0) (subst (λ at. fault_at None at rest ≡ Some f) at_begin e)))) s.fault_is in
      let stands : OfBytes f (IfSome first (λ text. StandsBehind start text r.done old.last old.begin f)) =
      map_fault f (IfSome before (λ rest. fault_at None old.at rest ≡ Some f)) (IfSome first (λ text. StandsBehind start text r.done old.last old.begin f))
      (told_behind first before r.done (λ rest. fault_at None old.at rest ≡ Some f) (λ text. StandsBehind start text r.done old.last old.begin f) (r.consumed going.no_fault)
      (λ rest e. record { rest = rest; text_is = refl; stands = stands_first old old.at (start + length r.done) rest f going.no_end none r.place e })) s.fault_is in
      subst (λ (p : Progress). HasRead start first after (record p { fault = Some f }) events) (sym s.progress) (record {
        done = r.done;
        begins = r.begins;
        consumed = λ n. none_some (Some f) f n refl;
        place = r.place;
        within = r.within;
        is_done = r.is_done;
        at_end = λ n end is_last. none_some (Some f) f n refl;
        fault_is = of_fault f (λ fault. OfBytes fault (IfSome first (λ text. IsMidFault start text fault))) stays;
        here = of_fault f (λ fault. OfBytes fault (IfSome first (λ text. StandsBehind start text r.done old.last old.begin fault))) stands;
        unread = λ is_read. after_inside first before after at_hand r.done old.last going.no_end (r.consumed going.no_fault) (of_source f (FailsInside before after at_hand) fails is_read);
      })

-- The begin record was read, now or before.
pub record AfterBegin (start : ℕ) (first after : Option (List ℕ)) (new : Progress) (events : List Event) (h : Header) : Type 0 where
  pub read : HasRead start first after new events
  pub going : IsGoing new
  pub begin : new.begin ≡ Some h

pub going_after : (before after : Option (List ℕ)) (old new : Progress) (h : Header) → IsGoing old → BeginsReading before after old new h → IsGoing new × (new.begin ≡ Some h)
going_after before after old new h going (inl b) = (
  record { no_fault = ap (λ (p : Progress). p.fault) b.progress ∙ going.no_fault; no_end = ap (λ (p : Progress). p.last) b.progress ∙ going.no_end },
  ap (λ (p : Progress). p.begin) b.progress,
)
going_after before after old new h going (inr s) = (subst IsGoing (sym s.progress) going, ap (λ (p : Progress). p.begin) s.progress ∙ s.begin)

read_after : (start : ℕ) (first before after : Option (List ℕ)) (old new : Progress) (events : List Event) (h : Header) → HasRead start first before old events → IsGoing old → BeginsReading before after old new h → HasRead start first after new events
read_after start first before after old new events h r going (inl b) = begun_now start first before old events r going b.none after new h b
read_after start first before after old new events h r going (inr s) = subst (λ p. HasRead start first after p events) (sym s.progress) (subst (λ left. HasRead start first left old events) (sym s.same) r)

pub after_begin : (start : ℕ) (first before after : Option (List ℕ)) (old new : Progress) (events : List Event) (h : Header) → HasRead start first before old events → IsGoing old → BeginsReading before after old new h
    → AfterBegin start first after new events h
after_begin start first before after old new events h r going b = record {
  read = read_after start first before after old new events h r going b;
  going = (going_after before after old new h going b).0;
  begin = (going_after before after old new h going b).1;
}

-- Behind the begin record.

module _ (start : ℕ) (first before : Option (List ℕ)) (old : Progress) (events : List Event) (r : HasRead start first before old events) (going : IsGoing old) (b : Header) (has_begun : old.begin ≡ Some b) where
  so_far : BeginsWith r.done b events
  so_far = done_of r.done old (Some b) events r.is_done has_begun going.no_end

  pub stopped : (after : Option (List ℕ)) (at_hand : List ℕ) (f : MidFault) → OfBytes f (IfSome before (λ rest. fault_at (Some b.serial_number) old.at rest ≡ Some f)) → OfSource f (FailsInside before after at_hand)
      → HasRead start first after (record old { fault = Some f }) events
  stopped after at_hand f wrong fails =
      let stays : OfBytes f (IfSome first (λ text. IsMidFault start text f)) =
      map_fault f (IfSome before (λ rest. fault_at (Some b.serial_number) old.at rest ≡ Some f)) (IfSome first (λ text. IsMidFault start text f))
      (told_behind first before r.done (λ rest. fault_at (Some b.serial_number) old.at rest ≡ Some f) (λ text. IsMidFault start text f) (r.consumed going.no_fault)
      (λ rest e. inr (inl (record {
        front = r.done;
        rest = rest;
        text_is = refl;
        run = b.serial_number;
        time = b.time_stamp;
        dump = so_far.dump;
        events = events;
        begun = so_far.begun;
        counted = omega (arith, r.place, r.within);
        fault_is = subst (λ at. fault_at (Some b.serial_number) at rest ≡ Some f) r.place e;
      })))) wrong in
      let stands : OfBytes f (IfSome first (λ text. StandsBehind start text r.done old.last old.begin f)) =
      map_fault f (IfSome before (λ rest. fault_at (Some b.serial_number) old.at rest ≡ Some f)) (IfSome first (λ text. StandsBehind start text r.done old.last old.begin f))
      (told_behind first before r.done (λ rest. fault_at (Some b.serial_number) old.at rest ≡ Some f) (λ text. StandsBehind start text r.done old.last old.begin f) (r.consumed going.no_fault)
      (λ rest e. record { rest = rest; text_is = refl; stands = stands_later old b old.at (start + length r.done) rest f going.no_end has_begun r.place e })) wrong in
      record {
        done = r.done;
        begins = r.begins;
        consumed = λ n. none_some (Some f) f n refl;
        place = r.place;
        within = r.within;
        is_done = r.is_done;
        at_end = λ n end is_last. none_some (Some f) f n refl;
        fault_is = of_fault f (λ fault. OfBytes fault (IfSome first (λ text. IsMidFault start text fault))) stays;
        here = of_fault f (λ fault. OfBytes fault (IfSome first (λ text. StandsBehind start text r.done old.last old.begin fault))) stands;
        unread = λ is_read. after_inside first before after at_hand r.done old.last going.no_end (r.consumed going.no_fault) (of_source f (FailsInside before after at_hand) fails is_read);
      }

  module _ (middle : Option (List ℕ)) (h : Header) (head : ReadsHead before middle (Some b.serial_number) old.at h) where
    pub data_stopped : (after : Option (List ℕ)) (at_hand : List ℕ) (f : MidFault) → LacksBytes middle (old.at + 16) h.data_size f → OfSource f (FailsBehind middle after at_hand h.data_size)
        → HasRead start first after (record old { fault = Some f }) events
    data_stopped after at_hand f cut fails = stopped after at_hand f (cut_behind before middle (Some b.serial_number) old.at h f head.consumed head.fine head.in_range cut)
        (map_source f (FailsBehind middle after at_hand h.data_size) (FailsInside before after at_hand) (inside_data before middle after at_hand (Some b.serial_number) old.at h head) fails)

    pub one_more : (after : Option (List ℕ)) (held : HeldEvent) → h.event_id ≢ end_id → ReadsBody middle after h held
        → HasRead start first after (record old { at = old.at + 16 + h.data_size }) (events ++ held.event ∷ [])
    one_more after held ne body =
        let allowed : IsEventHeader old.at h = event_allowed b.serial_number old.at h head.fine ne in
        let e : Event = event_of h body.body in
        let fields : h ≡ fields_of (event_of h body.body) = sym (header_back h body.body (sym body.length)) in
        let bytes : header_encoding h ++ body.body ≡ encoding (event_of h body.body) = encoded h (event_of h body.body) fields in
        let taken : Consumes first after (r.done ++ encoding (event_of h body.body)) =
        subst (λ more. Consumes first after (r.done ++ more)) bytes
        (Consumes-trans first before after r.done (header_encoding h ++ body.body) (r.consumed going.no_fault) (Consumes-trans before middle after (header_encoding h) body.body head.consumed body.consumed)) in
        let begun : IsBegunFile (r.done ++ encoding (event_of h body.body)) b.serial_number b.time_stamp so_far.dump (events ++ event_of h body.body ∷ []) = record {
          bytes_are = ap (λ front. front ++ encoding (event_of h body.body)) so_far.begun.bytes_are
              ∙ append_assoc (encoding (begin_record b.serial_number b.time_stamp so_far.dump)) (all_encoded events) (encoding (event_of h body.body))
              ∙ ap (λ more. encoding (begin_record b.serial_number b.time_stamp so_far.dump) ++ more)
              (ap (λ more. all_encoded events ++ more) (sym (append-nil (encoding (event_of h body.body)))) ∙ sym (all_encoded-append events (event_of h body.body ∷ [])));
          small = so_far.begun.small;
          storable = so_far.begun.storable;
          fine = All-append IsFileEvent events (event_of h body.body ∷ []) so_far.begun.fine
              (All-cons IsFileEvent (event_of h body.body) [] (record { begins_none = allowed.begins_none; ends_none = ne; small = omega (arith, body.length, allowed.sized.small) }) (All-nil IsFileEvent));
          all_storable = All-append IsStorable events (event_of h body.body ∷ []) so_far.begun.all_storable (All-cons IsStorable (event_of h body.body) [] (subst IsInRange fields head.in_range) (All-nil IsStorable));
        } in
        subst (λ (x : Event). HasRead start first after (record old { at = old.at + 16 + h.data_size }) (events ++ x ∷ [])) (sym body.event) (record {
          done = r.done ++ encoding (event_of h body.body);
          begins = begins_of first after (r.done ++ encoding (event_of h body.body)) taken;
          consumed = λ n. taken;
          place = omega (arith, r.place, length-append r.done (encoding (event_of h body.body)), ap (length {A = ℕ}) bytes, length_encoded h body.body body.length);
          within = allowed.sized.within;
          is_done = subst (λ (o : Option Header). IsReadSoFar (r.done ++ encoding (event_of h body.body)) old.begin o (events ++ event_of h body.body ∷ [])) (sym going.no_end)
              (subst (λ (o : Option Header). IsReadSoFar (r.done ++ encoding (event_of h body.body)) o None (events ++ event_of h body.body ∷ [])) (sym has_begun)
              (record { dump = so_far.dump; header = so_far.header; begun = begun }));
          at_end = λ n end is_last. none_some old.last end going.no_end is_last;
          fault_is = λ fault is_fault. none_some old.fault fault going.no_fault is_fault;
          here = λ fault is_fault. none_some old.fault fault going.no_fault is_fault;
          unread = λ is_fault. none_some old.fault ReadFault going.no_fault is_fault;
        })

    module _ (is_end : h.event_id ≡ end_id) (dump : List ℕ) (sized : length dump ≡ h.data_size) where
      allowed : IsEndHeader b.serial_number old.at h
      allowed = end_allowed b.serial_number old.at h head.fine is_end

      last_is : h ≡ fields_of (end_record b.serial_number h.time_stamp dump)
      last_is = same_header h end_id record_mask b.serial_number (length dump) is_end allowed.mask allowed.run_is (sym sized)

      last_bytes : header_encoding h ++ dump ≡ encoding (end_record b.serial_number h.time_stamp dump)
      last_bytes = encoded h (end_record b.serial_number h.time_stamp dump) last_is

      abbrev whole : List ℕ
      whole = r.done ++ encoding (end_record b.serial_number h.time_stamp dump)

      ended : IsEndedFile (r.done ++ encoding (end_record b.serial_number h.time_stamp dump)) b.serial_number b.time_stamp so_far.dump events h.time_stamp dump
      ended = record { front = r.done; begun = so_far.begun; bytes_are = refl; small = omega (arith, sized, allowed.sized.small); storable = subst IsInRange last_is head.in_range }

      taken_to : (after : Option (List ℕ)) → Consumes middle after dump → Consumes first after (r.done ++ encoding (end_record b.serial_number h.time_stamp dump))
      taken_to after c = subst (λ more. Consumes first after (r.done ++ more)) last_bytes
          (Consumes-trans first before after r.done (header_encoding h ++ dump) (r.consumed going.no_fault) (Consumes-trans before middle after (header_encoding h) dump head.consumed c))

      place_of : old.at + 16 + h.data_size ≡ start + length (r.done ++ encoding (end_record b.serial_number h.time_stamp dump))
      place_of = omega (arith, r.place, length-append r.done (encoding (end_record b.serial_number h.time_stamp dump)), ap (length {A = ℕ}) last_bytes, length_encoded h dump sized)

      is_ended : IsReadSoFar (r.done ++ encoding (end_record b.serial_number h.time_stamp dump)) old.begin (Some h) events
      is_ended = subst (λ (o : Option Header). IsReadSoFar (r.done ++ encoding (end_record b.serial_number h.time_stamp dump)) o (Some h) events) (sym has_begun)
          (record { dump0 = so_far.dump; dump1 = dump; header = so_far.header; last = last_is; ended = ended })

      pub finished : (after : Option (List ℕ)) → Consumes middle after dump → IsAtEnd after → HasRead start first after (record old { last = Some h; at = old.at + 16 + h.data_size }) events
      finished after c at_end = record {
        done = r.done ++ encoding (end_record b.serial_number h.time_stamp dump);
        begins = begins_of first after (r.done ++ encoding (end_record b.serial_number h.time_stamp dump)) (taken_to after c);
        consumed = λ n. taken_to after c;
        place = place_of;
        within = allowed.sized.within;
        is_done = is_ended;
        at_end = λ n end is_last. at_end;
        fault_is = λ fault is_fault. none_some old.fault fault going.no_fault is_fault;
        here = λ fault is_fault. none_some old.fault fault going.no_fault is_fault;
        unread = λ is_fault. none_some old.fault ReadFault going.no_fault is_fault;
      }

      pub finish_stopped : (left after : Option (List ℕ)) (at_hand : List ℕ) (f : MidFault) → Consumes middle left dump → IsBehindEnd left (old.at + 16 + h.data_size) f → OfSource f (FailsBehind left after at_hand 1)
          → HasRead start first after (record old { last = Some h; at = old.at + 16 + h.data_size; fault = Some f }) events
      finish_stopped left after at_hand f c more fails =
          let stays : OfBytes f (IfSome first (λ text. IsMidFault start text f)) =
          map_fault f (IfSome left (λ rest. (0 < length rest) × (f ≡ AfterEnd (old.at + 16 + h.data_size)))) (IfSome first (λ text. IsMidFault start text f))
          (told_behind first left (r.done ++ encoding (end_record b.serial_number h.time_stamp dump)) (λ rest. (0 < length rest) × (f ≡ AfterEnd (old.at + 16 + h.data_size))) (λ text. IsMidFault start text f)
          (taken_to left c)
          (λ rest p. inr (inr (record {
            front = r.done ++ encoding (end_record b.serial_number h.time_stamp dump);
            rest = rest;
            text_is = refl;
            run = b.serial_number;
            time0 = b.time_stamp;
            dump0 = so_far.dump;
            events = events;
            time1 = h.time_stamp;
            dump1 = dump;
            ended = ended;
            counted = omega (arith, place_of, allowed.sized.within);
            more = p.0;
            fault_is = p.1 ∙ ap AfterEnd place_of;
          })))) more in
          let stands : OfBytes f (IfSome first (λ text. StandsBehind start text (r.done ++ encoding (end_record b.serial_number h.time_stamp dump)) (Some h) old.begin f)) =
          map_fault f (IfSome left (λ rest. (0 < length rest) × (f ≡ AfterEnd (old.at + 16 + h.data_size)))) (IfSome first (λ text. StandsBehind start text (r.done ++ encoding (end_record b.serial_number h.time_stamp dump)) (Some h) old.begin f))
          (told_behind first left (r.done ++ encoding (end_record b.serial_number h.time_stamp dump)) (λ rest. (0 < length rest) × (f ≡ AfterEnd (old.at + 16 + h.data_size)))
          (λ text. StandsBehind start text (r.done ++ encoding (end_record b.serial_number h.time_stamp dump)) (Some h) old.begin f) (taken_to left c)
          (λ rest p. record { rest = rest; text_is = refl; stands = (p.0, p.1 ∙ ap AfterEnd place_of) })) more in
          record {
            done = r.done ++ encoding (end_record b.serial_number h.time_stamp dump);
            begins = begins_of first left (r.done ++ encoding (end_record b.serial_number h.time_stamp dump)) (taken_to left c);
            consumed = λ n. none_some (Some f) f n refl;
            place = place_of;
            within = allowed.sized.within;
            is_done = is_ended;
            at_end = λ n end is_last. none_some (Some f) f n refl;
            fault_is = of_fault f (λ fault. OfBytes fault (IfSome first (λ text. IsMidFault start text fault))) stays;
            here = of_fault f (λ fault. OfBytes fault (IfSome first (λ text. StandsBehind start text (r.done ++ encoding (end_record b.serial_number h.time_stamp dump)) (Some h) old.begin fault))) stands;
            unread = λ is_read. after_end first left after at_hand (r.done ++ encoding (end_record b.serial_number h.time_stamp dump)) h (taken_to left c) (of_source f (FailsBehind left after at_hand 1) fails is_read);
          }

-- The end record, by what its step did.
pub last_read : (start : ℕ) (first before middle after : Option (List ℕ)) (old new : Progress) (events : List Event) (b h : Header) → AfterBegin start first before old events b → ReadsHead before middle (Some b.serial_number) old.at h
    → h.event_id ≡ end_id → FinishesReading middle after old new h → HasRead start first after new events
last_read start first before middle after old new events b h a head is_end f =
    subst (λ p. HasRead start first after p events) (sym f.progress) (finished start first before old events a.read a.going b a.begin middle h head is_end f.dump f.length after f.consumed f.ended)

pub last_stopped : (start : ℕ) (first before middle after : Option (List ℕ)) (at_hand : List ℕ) (old new : Progress) (events : List Event) (b h : Header) (f : MidFault) → AfterBegin start first before old events b → ReadsHead before middle (Some b.serial_number) old.at h
    → h.event_id ≡ end_id → FinishStops middle after at_hand old new h f → HasRead start first after (record new { fault = Some f }) events
last_stopped start first before middle after at_hand old new events b h f a head is_end (inl cut) =
    subst (λ (p : Progress). HasRead start first after (record p { fault = Some f }) events) (sym cut.progress) (data_stopped start first before old events a.read a.going b a.begin middle h head after at_hand f cut.fault_is cut.fails)
last_stopped start first before middle after at_hand old new events b h f a head is_end (inr more) =
    subst (λ (p : Progress). HasRead start first after (record p { fault = Some f }) events) (sym more.progress)
    (finish_stopped start first before old events a.read a.going b a.begin middle h head is_end more.dump more.length more.middle after at_hand f more.consumed more.fault_is more.fails)
