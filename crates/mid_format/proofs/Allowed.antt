-- What a header is that may stand at its place.
use Rattle.std.proofs.Common.{◌≡◌, ◌≢◌, ◌∙◌, ℕ, ◌+◌, ◌^◌, ◌≤◌, ◌==◌, ◌||◌, not, nat_lt, Bool, true, false, if◌then◌else◌, Option, Some, None, refl, ap, sym, ne_eqb}
use Rattle.std.specs.Prelude.{is_some}
use Rattle.std.proofs.lemmas.Bool.{ltb-false, not-false, eqb-true, eq-eqb}
use Rattle.event.specs.Events.{begin_id, end_id, event_limit, record_limit}
use Rattle.event.specs.RunFile.{record_mask}
use Rattle.event.specs.declared.head.Header.{Header}
use Rattle.mid_format.specs.Faults.{size_fault, header_fault}
use Rattle.mid_format.specs.declared.faults.MidFault.{MidFault}
use Rattle.mid_format.specs.declared.faults.MidFault.TheVariants.{TooBig, TooLong, BadRecord, NoBegin}

-- a test that gives a fault was not met
passed_test : {A : Type 0} (b : Bool) (f : A) (rest : Option A) → (if b then Some f else rest) ≡ None → (b ≡ false) × (rest ≡ None)
passed_test true f rest e = let x : true ≡ false = ap is_some e in cc
passed_test false f rest e = (refl, e)

neither : (a b : Bool) → (a || b) ≡ false → (a ≡ false) × (b ≡ false)
neither true b e = cc
neither false b e = (refl, e)

differ : (a b : ℕ) → (a == b) ≡ false → a ≢ b
differ a b e same = let x : true ≡ false = sym (eq-eqb a b same) ∙ e in cc

-- The data are within the limit and end in front of byte 2^62.
pub record IsSized (at limit : ℕ) (h : Header) : Type 0 where
  pub small : h.data_size ≤ limit
  pub within : at + 16 + h.data_size ≤ 2 ^ 62

pub sized : (at limit : ℕ) (h : Header) → size_fault at limit h ≡ None → IsSized at limit h
sized at limit h e =
    let first : (nat_lt limit h.data_size ≡ false) × ((if nat_lt (2 ^ 62) (at + 16 + h.data_size) then Some (TooLong at) else None) ≡ None) =
    passed_test (nat_lt limit h.data_size) (TooBig at h.data_size) (if nat_lt (2 ^ 62) (at + 16 + h.data_size) then Some (TooLong at) else None) e in
    let second : (nat_lt (2 ^ 62) (at + 16 + h.data_size) ≡ false) × (◌≡◌ {A = Option MidFault} None None) = passed_test (nat_lt (2 ^ 62) (at + 16 + h.data_size)) (TooLong at) None first.1 in
    record { small = ltb-false limit h.data_size first.0; within = ltb-false (2 ^ 62) (at + 16 + h.data_size) second.0 }

pub record IsBeginHeader (at : ℕ) (h : Header) : Type 0 where
  pub id : h.event_id ≡ begin_id
  pub mask : h.trigger_mask ≡ record_mask
  pub sized : IsSized at record_limit h

pub begin_allowed : (at : ℕ) (h : Header) → header_fault None at h ≡ None → IsBeginHeader at h
begin_allowed at h e =
    let first : ((not (h.event_id == begin_id)) || (not (h.trigger_mask == record_mask)) ≡ false) × (size_fault at record_limit h ≡ None) =
    passed_test ((not (h.event_id == begin_id)) || (not (h.trigger_mask == record_mask))) (NoBegin at) (size_fault at record_limit h) e in
    let both : (not (h.event_id == begin_id) ≡ false) × (not (h.trigger_mask == record_mask) ≡ false) = neither (not (h.event_id == begin_id)) (not (h.trigger_mask == record_mask)) first.0 in
    record {
      id = eqb-true h.event_id begin_id (not-false (h.event_id == begin_id) both.0);
      mask = eqb-true h.trigger_mask record_mask (not-false (h.trigger_mask == record_mask) both.1);
      sized = sized at record_limit h first.1;
    }

pub record IsEventHeader (at : ℕ) (h : Header) : Type 0 where
  pub begins_none : h.event_id ≢ begin_id
  pub ends_none : h.event_id ≢ end_id
  pub sized : IsSized at event_limit h

pub record IsEndHeader (run at : ℕ) (h : Header) : Type 0 where
  pub id : h.event_id ≡ end_id
  pub mask : h.trigger_mask ≡ record_mask
  pub run_is : h.serial_number ≡ run
  pub sized : IsSized at record_limit h

-- the tests behind that of the begin record's id
abbrev later_fault : (run at : ℕ) → Header → Option MidFault
later_fault run at h = if not (h.event_id == end_id) then size_fault at event_limit h
    else (if (not (h.trigger_mask == record_mask)) || (not (h.serial_number == run)) then Some (BadRecord at) else size_fault at record_limit h)

pub event_allowed : (run at : ℕ) (h : Header) → header_fault (Some run) at h ≡ None → h.event_id ≢ end_id → IsEventHeader at h
event_allowed run at h e ne =
    let first : ((h.event_id == begin_id) ≡ false) × (later_fault run at h ≡ None) = passed_test (h.event_id == begin_id) (BadRecord at) (later_fault run at h) e in
    let is_event : later_fault run at h ≡ size_fault at event_limit h = rw (ne_eqb h.event_id end_id ne) refl in
    record {
      begins_none = differ h.event_id begin_id first.0;
      ends_none = ne;
      sized = sized at event_limit h (sym is_event ∙ first.1);
    }

pub end_allowed : (run at : ℕ) (h : Header) → header_fault (Some run) at h ≡ None → h.event_id ≡ end_id → IsEndHeader run at h
end_allowed run at h e is_end =
    let first : ((h.event_id == begin_id) ≡ false) × (later_fault run at h ≡ None) = passed_test (h.event_id == begin_id) (BadRecord at) (later_fault run at h) e in
    let is_record : later_fault run at h ≡ (if (not (h.trigger_mask == record_mask)) || (not (h.serial_number == run)) then Some (BadRecord at) else size_fault at record_limit h) =
    rw (eq-eqb h.event_id end_id is_end) refl in
    let second : ((not (h.trigger_mask == record_mask)) || (not (h.serial_number == run)) ≡ false) × (size_fault at record_limit h ≡ None) =
    passed_test ((not (h.trigger_mask == record_mask)) || (not (h.serial_number == run))) (BadRecord at) (size_fault at record_limit h) (sym is_record ∙ first.1) in
    let both : (not (h.trigger_mask == record_mask) ≡ false) × (not (h.serial_number == run) ≡ false) = neither (not (h.trigger_mask == record_mask)) (not (h.serial_number == run)) second.0 in
    record {
      id = is_end;
      mask = eqb-true h.trigger_mask record_mask (not-false (h.trigger_mask == record_mask) both.0);
      run_is = eqb-true h.serial_number run (not-false (h.serial_number == run) both.1);
      sized = sized at record_limit h second.1;
    }
