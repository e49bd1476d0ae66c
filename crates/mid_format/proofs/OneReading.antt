-- Bytes are a run file in one way at most, and where they are, they have no fault.
use Rattle.std.proofs.Common.{◌≡◌, ◌∙◌, ℕ, suc, ◌+◌, ◌^◌, ◌≤◌, nat_lt, if◌then◌else◌, List, [], ◌∷◌, ◌++◌, length, take, drop, All, Option, Some, None, true, false, refl, ap, sym, subst, arith, ne_eqb, length-append, append_assoc}
use Rattle.std.specs.Prelude.{is_some}
use Rattle.std.proofs.lemmas.List.{take_at, drop_at}
use Rattle.std.proofs.lemmas.Bool.{le-ltb, eq-eqb}
use Rattle.daq_types.specs.declared.events.Event.{Event}
use Rattle.event.specs.Events.{encoding, all_encoded, header_of, begin_id, end_id, event_limit, record_limit}
use Rattle.event.proofs.Events.{length-encoding}
use Rattle.event.specs.RunFile.{begin_record, end_record, IsFileEvent}
use Rattle.event.specs.Headers.{header_encoding, fields_of}
use Rattle.event.proofs.Headers.{length-header_encoding}
use Rattle.event.specs.declared.head.Header.{Header}
use Rattle.mid_format.specs.Faults.{header_at, header_fault, size_fault, or_else, fault_at}
use Rattle.mid_format.specs.HasRead.{IsStorable}
use Rattle.mid_format.proofs.HeadersBack.{header_back, behind_head}
use Rattle.mid_format.specs.declared.faults.MidFault.{MidFault}
use Rattle.mid_format.specs.declared.faults.MidFault.TheVariants.{Truncated}

-- One event

event_with : Header → List ℕ → Event
event_with h body = record { id = h.event_id; mask = h.trigger_mask; serial = h.serial_number; time = h.time_stamp; body = body }

-- What begins with an event begins with no other, and goes on in one way.
pub record IsOneEvent (e f : Event) (x y : List ℕ) : Type 0 where
  pub event : e ≡ f
  pub rest : x ≡ y

pub one_event : (e f : Event) (x y : List ℕ) → IsStorable e → IsStorable f → encoding e ++ x ≡ encoding f ++ y → IsOneEvent e f x y
unfolding event_with
one_event e f x y se sf p =
    let parts_e : encoding e ++ x ≡ header_encoding (fields_of e) ++ (e.body ++ x) = append_assoc (header_of e) e.body x in
    let parts_f : encoding f ++ y ≡ header_encoding (fields_of f) ++ (f.body ++ y) = append_assoc (header_of f) f.body y in
    let both : header_encoding (fields_of e) ++ (e.body ++ x) ≡ header_encoding (fields_of f) ++ (f.body ++ y) = sym parts_e ∙ p ∙ parts_f in
    let header : fields_of e ≡ fields_of f = sym (header_back (fields_of e) (e.body ++ x) se) ∙ ap header_at both ∙ header_back (fields_of f) (f.body ++ y) sf in
    let behind : e.body ++ x ≡ f.body ++ y =
    sym (drop_at (header_encoding (fields_of e)) (e.body ++ x) 16 (length-header_encoding (fields_of e))) ∙ ap (drop 16) both
    ∙ drop_at (header_encoding (fields_of f)) (f.body ++ y) 16 (length-header_encoding (fields_of f)) in
    let len : length e.body ≡ length f.body = ap (λ (h : Header). h.data_size) header in
    let body : e.body ≡ f.body = sym (take_at e.body x (length e.body) refl) ∙ ap (take (length e.body)) behind ∙ take_at f.body y (length e.body) (sym len) in
    record {
      event = ap (λ (h : Header). event_with h e.body) header ∙ ap (event_with (fields_of f)) body;
      rest = sym (drop_at e.body x (length e.body) refl) ∙ ap (drop (length e.body)) behind ∙ drop_at f.body y (length e.body) (sym len);
    }

-- Many events

-- an event that may stand in a run file, and that its header can describe
pub record IsFine (e : Event) : Type 0 where
  pub fine : IsFileEvent e
  pub storable : IsStorable e

-- These bytes, from this place on, begin with no event that ends in front of byte 2^62.
abbrev pub BeginsNone : (at : ℕ) → List ℕ → Type 0
BeginsNone at bytes = (e : Event) (more : List ℕ) → IsFine e → at + length (encoding e) ≤ 2 ^ 62 → bytes ≡ encoding e ++ more → ⊥

first_of : (P : Event → Type 0) (e : Event) (es : List Event) → All P (e ∷ es) → P e
first_of P e es h = h 0 e (omega arith)

rest_of : (P : Event → Type 0) (e : Event) (es : List Event) → All P (e ∷ es) → All P es
rest_of P e es h = λ k d inside. h (suc k) d (omega (arith, inside))

pub record AreOne (es fs : List Event) (x y : List ℕ) : Type 0 where
  pub events : es ≡ fs
  pub rest : x ≡ y

pub one_list : (es fs : List Event) (x y : List ℕ) (at : ℕ) → All IsFine es → All IsFine fs
    → at + length (all_encoded es) ≤ 2 ^ 62 → at + length (all_encoded fs) ≤ 2 ^ 62
    → BeginsNone (at + length (all_encoded es)) x → BeginsNone (at + length (all_encoded fs)) y
    → all_encoded es ++ x ≡ all_encoded fs ++ y → AreOne es fs x y
one_list [] [] x y at he hf we wf nx ny p = record { events = refl; rest = p }
one_list [] (f ∷ fs) x y at he hf we wf nx ny p =
    absurd (nx f (all_encoded fs ++ y) (first_of IsFine f fs hf) (omega (arith, wf, length-append (encoding f) (all_encoded fs))) (p ∙ append_assoc (encoding f) (all_encoded fs) y))
one_list (e ∷ es) [] x y at he hf we wf nx ny p =
    absurd (ny e (all_encoded es ++ x) (first_of IsFine e es he) (omega (arith, we, length-append (encoding e) (all_encoded es))) (sym p ∙ append_assoc (encoding e) (all_encoded es) x))
one_list (e ∷ es) (f ∷ fs) x y at he hf we wf nx ny p =
    let one : IsOneEvent e f (all_encoded es ++ x) (all_encoded fs ++ y) = one_event e f (all_encoded es ++ x) (all_encoded fs ++ y) (first_of IsFine e es he).storable (first_of IsFine f fs hf).storable
    (sym (append_assoc (encoding e) (all_encoded es) x) ∙ p ∙ append_assoc (encoding f) (all_encoded fs) y) in
    let le : at + length (encoding e ++ all_encoded es) ≡ (at + length (encoding e)) + length (all_encoded es) = omega (arith, length-append (encoding e) (all_encoded es)) in
    let lf : at + length (encoding f ++ all_encoded fs) ≡ (at + length (encoding e)) + length (all_encoded fs) =
    omega (arith, length-append (encoding f) (all_encoded fs), ap (λ (g : Event). length (encoding g)) one.event) in
    let more : AreOne es fs x y = one_list es fs x y (at + length (encoding e)) (rest_of IsFine e es he) (rest_of IsFine f fs hf) (omega (arith, we, le)) (omega (arith, wf, lf))
    (subst (λ n. BeginsNone n x) le nx) (subst (λ n. BeginsNone n y) lf ny) one.rest in
    record { events = ap (λ (g : Event). g ∷ es) one.event ∙ ap (λ gs. f ∷ gs) more.events; rest = more.rest }

-- What stands in the place of an event

pub is_fine : (es : List Event) → All IsFileEvent es → All IsStorable es → All IsFine es
is_fine es f s = λ k d inside. record { fine = f k d inside; storable = s k d inside }

-- an end record is no event
pub end_begins_none : (at run time : ℕ) (dump more : List ℕ) → IsStorable (end_record run time dump) → BeginsNone at (encoding (end_record run time dump) ++ more)
end_begins_none at run time dump more s = λ e rest fine within p.
    fine.fine.ends_none (sym (ap (λ (g : Event). g.id) (one_event (end_record run time dump) e more rest s fine.storable p).event))

pub some_none : {A B : Type 0} (x : A) → None ≡ Some x → B
some_none x e = let t : false ≡ true = ap is_some e in absurd cc

no_size_fault : (at limit : ℕ) (h : Header) → h.data_size ≤ limit → at + 16 + h.data_size ≤ 2 ^ 62 → size_fault at limit h ≡ None
no_size_fault at limit h small within = rw (le-ltb limit h.data_size small, le-ltb (2 ^ 62) (at + 16 + h.data_size) within) refl

-- a header that may stand at its place, with all its data, is no fault
pub no_fault : (run : Option ℕ) (at : ℕ) (e : Event) (more : List ℕ) → IsStorable e → header_fault run at (fields_of e) ≡ None → fault_at run at (encoding e ++ more) ≡ None
no_fault run at e more s fine =
    let parts : encoding e ++ more ≡ header_encoding (fields_of e) ++ (e.body ++ more) = append_assoc (header_of e) e.body more in
    let long : nat_lt (length (header_encoding (fields_of e) ++ (e.body ++ more))) (16 + length e.body) ≡ false =
    le-ltb (length (header_encoding (fields_of e) ++ (e.body ++ more))) (16 + length e.body)
    (omega (arith, length-append (header_encoding (fields_of e)) (e.body ++ more), length-header_encoding (fields_of e), length-append e.body more)) in
    ap (fault_at run at) parts ∙ behind_head run at (fields_of e) (e.body ++ more) s
    ∙ ap (λ (first : Option MidFault). or_else first (if nat_lt (length (header_encoding (fields_of e) ++ (e.body ++ more))) (16 + length e.body) then Some (Truncated (at + length (header_encoding (fields_of e) ++ (e.body ++ more)))) else None)) fine
    ∙ ap (λ b. if b then Some (Truncated (at + length (header_encoding (fields_of e) ++ (e.body ++ more)))) else None) long

event_no_fault : (run at : ℕ) (e : Event) → IsFileEvent e → at + length (encoding e) ≤ 2 ^ 62 → header_fault (Some run) at (fields_of e) ≡ None
event_no_fault run at e fine within =
    rw (ne_eqb e.id begin_id fine.begins_none, ne_eqb e.id end_id fine.ends_none) (no_size_fault at event_limit (fields_of e) fine.small (omega (arith, within, length-encoding e)))

pub begin_no_fault : (at run time : ℕ) (dump : List ℕ) → length dump ≤ record_limit → at + 16 + length dump ≤ 2 ^ 62 → header_fault None at (fields_of (begin_record run time dump)) ≡ None
begin_no_fault at run time dump small within = no_size_fault at record_limit (fields_of (begin_record run time dump)) small within

pub end_no_fault : (run at time : ℕ) (dump : List ℕ) → length dump ≤ record_limit → at + 16 + length dump ≤ 2 ^ 62 → header_fault (Some run) at (fields_of (end_record run time dump)) ≡ None
end_no_fault run at time dump small within = rw (eq-eqb run run refl) (no_size_fault at record_limit (fields_of (end_record run time dump)) small within)

-- a fault in the place of an event is no event
pub fault_begins_none : (run at : ℕ) (rest : List ℕ) (f : MidFault) → fault_at (Some run) at rest ≡ Some f → BeginsNone at rest
fault_begins_none run at rest f p = λ e more fine within is.
    some_none f (sym (no_fault (Some run) at e more fine.storable (event_no_fault run at e fine.fine within)) ∙ sym (ap (fault_at (Some run) at) is) ∙ p)
