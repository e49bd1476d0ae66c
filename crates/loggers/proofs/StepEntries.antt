-- One step of a channel, over any ports: what it does to the lists.
use Rattle.std.specs.Prelude.{◌≡◌, ◌≤◌, ◌<◌, ℕ, List, length, map, slice_get, slice_set, Option, Some, None, Result, Ok, Err, OnOk, IfErr, ⊤, refl}
use Rattle.std.specs.Option.{option_map}
use Rattle.std.proofs.Common.{ap, sym, subst, ◌∙◌, get_or}
use Rattle.std.proofs.lemmas.List.{length-set, map-set, set-get_or, get_or_past}
use Rattle.std.proofs.lemmas.Option.{slice_get-map, slice_get-get_or, get_or_from_slice_get}
use Rattle.daq_types.specs.declared.runs.Order.{Order}
use Rattle.daq_types.specs.declared.runs.Why.{Why}
use Rattle.daq_io.specs.Told.{FilesTold}
use Rattle.buffer_core.specs.declared.entry.BufferEntry.{BufferEntry}
use Rattle.buffer_core.specs.Ports.{Access, Calls}
use Rattle.buffer_core.specs.Slots.{slot_at}
use Rattle.buffer_core.proofs.SlotLaws.{slot_set_other}
use Rattle.mid_logger.specs.declared.channel.Channel.{Channel}
use Rattle.mid_logger.specs.declared.pulled.Pulled.{Pulled}
use Rattle.loggers.specs.Moments.{LoggerMoment, ChannelStep, StepsChannel, StepsSlot, StepsAt, LeavesOthers, CallsBuffer}
use Rattle.loggers.specs.ChannelSteps.{OpensChannel, PullsChannel}
use Rattle.loggers.specs.Finishing.{EndingMoment, EndsNumbered, EndsSlot}
use Rattle.loggers.specs.SlotPulls.{PullsSlot}

-- The lists.

pub stepped : {P : Type 0} (Step : ChannelStep → Type 0) (access : P → Access) (n : ℕ) (before after : Channel) (slots : List (Option Channel)) (ports : List P) (p q : P) (files later : FilesTold) → slice_get ports before.spec.buffer ≡ Some p
    → Step (record { before = before; after = after; port = access p; later_port = access q; files = files; later_files = later })
    → StepsChannel Step n before (record { slots = slots; ports = map access ports; files = files }) (record { slots = slice_set slots n (Some after); ports = map access (slice_set ports before.spec.buffer q); files = later })
stepped {P} Step access n before after slots ports p q files later there step = record {
  after = after;
  port = access p;
  later_port = access q;
  at_port = slice_get-map access ports before.spec.buffer ∙ ap (λ (o : Option P). option_map access o) there;
  slots = refl;
  ports = map-set access ports before.spec.buffer q;
  step = step;
}

pub step_here : (Step : ChannelStep → Type 0) (n : ℕ) (slot : Option Channel) (a b : LoggerMoment) → slot_at a.slots n ≡ slot → StepsSlot Step n slot a b → StepsAt Step n a b
step_here Step n slot a b there step = subst (λ (o : Option Channel). StepsSlot Step n o a b) (sym there) step

-- a number behind the last has no channel
pub slot_past : (slots : List (Option Channel)) (n : ℕ) → length slots ≤ n → slot_at slots n ≡ None
slot_past slots n past = get_or_past slots n None past

-- no channel put where there was none
pub slot_put_back : (slots : List (Option Channel)) (n : ℕ) → slot_at slots n ≡ None → slice_set slots n None ≡ slots
slot_put_back slots n there = subst (λ (o : Option Channel). slice_set slots n o ≡ slots) there (set-get_or slots n None)

-- what is lent stands at its place
pub lent_at : {X : Type 0} (xs : List X) (n : ℕ) (x : X) → n < length xs → x ≡ get_or xs n x → slice_get xs n ≡ Some x
lent_at {X} xs n x within is = slice_get-get_or xs n x within ∙ ap (λ (y : X). Some y) (sym is)

pub lent_port : {P : Type 0} (access : P → Access) (ports : List P) (n : ℕ) (p : P) → slice_get ports n ≡ Some p → slice_get (map access ports) n ≡ Some (access p)
lent_port {P} access ports n p there = slice_get-map access ports n ∙ ap (λ (o : Option P). option_map access o) there

-- the step of a slot that has a channel
pub slot_steps : (Step : ChannelStep → Type 0) (n : ℕ) (slot : Option Channel) (before : Channel) (a b : LoggerMoment) → slot ≡ Some before → StepsChannel Step n before a b → StepsSlot Step n slot a b
slot_steps Step n slot before a b is step = subst (λ (o : Option Channel). StepsSlot Step n o a b) (sym is) step

-- the channel of a number that was read
pub slot_read_at : (slots : List (Option Channel)) (n : ℕ) (slot : Option Channel) → slice_get slots n ≡ Some slot → slot_at slots n ≡ slot
slot_read_at slots n slot there = get_or_from_slice_get slots n slot None there

pub others_left : (slots : List (Option Channel)) (n : ℕ) (o : Option Channel) → LeavesOthers n slots (slice_set slots n o)
others_left slots n o = record { many = length-set slots n o; at = λ m other. slot_set_other slots n m o other }

pub none_left : (slots : List (Option Channel)) (n : ℕ) → LeavesOthers n slots slots
none_left slots n = record { many = refl; at = λ m other. refl }

-- One call on a port.

pub called_at : {P : Type 0} (access : P → Access) (entry : BufferEntry) (buffer : ℕ) (slots : List (Option Channel)) (ports : List P) (p q : P) (files : FilesTold) → slice_get ports buffer ≡ Some p → Calls (access p) (access q) entry
    → CallsBuffer entry buffer (record { slots = slots; ports = map access ports; files = files }) (record { slots = slots; ports = map access (slice_set ports buffer q); files = files })
called_at {P} access entry buffer slots ports p q files there called = record {
  port = access p;
  later_port = access q;
  at_port = slice_get-map access ports buffer ∙ ap (λ (o : Option P). option_map access o) there;
  called = called;
  ports = map-set access ports buffer q;
  slots = refl;
  files = refl;
}

-- Slots.

pub slot_pulls : (dump : List ℕ) (answer : Pulled) (n : ℕ) (slot : Option Channel) (before : Channel) (a b : LoggerMoment) → slot ≡ Some before → StepsChannel (PullsChannel dump answer) n before a b → PullsSlot dump slot n answer a b
slot_pulls dump answer n slot before a b is step = subst (λ (o : Option Channel). PullsSlot dump o n answer a b) (sym is) step

pub slot_ends : (time : ℕ) (dump : Option (List ℕ)) (n : ℕ) (slot : Option Channel) (before : Channel) (a b : EndingMoment) → slot ≡ Some before → EndsNumbered time dump n before a b → EndsSlot time dump n slot a b
slot_ends time dump n slot before a b is ends = subst (λ (o : Option Channel). EndsSlot time dump n o a b) (sym is) ends

-- the moments before and behind a step of a slot
abbrev pub slot_before : (ports : List Access) → (files : FilesTold) → List (Option Channel) → LoggerMoment
slot_before ports files slots = record { slots = slots; ports = ports; files = files }

abbrev pub slot_behind : (later : Option Channel) → (ports : List Access) → (files : FilesTold) → List (Option Channel) → (number : ℕ) → LoggerMoment
slot_behind later ports files slots number = record { slots = slice_set slots number later; ports = ports; files = files }

-- a slot opens the run, whatever the other slots are
abbrev pub OpensSlot : Order → (dump : List ℕ) → (slot later : Option Channel) → (ports later_ports : List Access) → (files later_files : FilesTold) → Type 0
OpensSlot order dump slot later ports later_ports files later_files =
    (slots : List (Option Channel)) → (number : ℕ) → slot_at slots number ≡ slot → StepsSlot (OpensChannel order dump (Ok tt)) number slot (slot_before ports files slots) (slot_behind later later_ports later_files slots number)

abbrev pub RefusesSlot : Order → (dump : List ℕ) → (slot later : Option Channel) → (ports later_ports : List Access) → (files later_files : FilesTold) → Why → Type 0
RefusesSlot order dump slot later ports later_ports files later_files why =
    (c : Channel) × (slot ≡ Some c) × ((slots : List (Option Channel)) → (number : ℕ) → slot_at slots number ≡ slot → StepsChannel (OpensChannel order dump (Err why)) number c (slot_before ports files slots) (slot_behind later later_ports later_files slots number))

pub slot_opens : {P : Type 0} (access : P → Access) (order : Order) (dump : List ℕ) (r : Result ⊤ Why) (slot : Option Channel) (before after : Channel) (ports : List P) (p q : P) (files later : FilesTold) → slot ≡ Some before → slice_get ports before.spec.buffer ≡ Some p
    → OpensChannel order dump r (record { before = before; after = after; port = access p; later_port = access q; files = files; later_files = later })
    → OnOk r (OpensSlot order dump slot (Some after) (map access ports) (map access (slice_set ports before.spec.buffer q)) files later)
slot_opens {P} access order dump (Ok done) slot before after ports p q files later is there opens = λ slots number at.
    slot_steps (OpensChannel order dump (Ok tt)) number slot before _ _ is (stepped (OpensChannel order dump (Ok tt)) access number before after slots ports p q files later there opens)
slot_opens {P} access order dump (Err why) slot before after ports p q files later is there opens = tt

pub slot_refuses : {P : Type 0} (access : P → Access) (order : Order) (dump : List ℕ) (r : Result ⊤ Why) (slot : Option Channel) (before after : Channel) (ports : List P) (p q : P) (files later : FilesTold) → slot ≡ Some before → slice_get ports before.spec.buffer ≡ Some p
    → OpensChannel order dump r (record { before = before; after = after; port = access p; later_port = access q; files = files; later_files = later })
    → IfErr r (RefusesSlot order dump slot (Some after) (map access ports) (map access (slice_set ports before.spec.buffer q)) files later)
slot_refuses {P} access order dump (Ok done) slot before after ports p q files later is there opens = tt
slot_refuses {P} access order dump (Err why) slot before after ports p q files later is there opens = (
  before,
  is,
  λ slots number at. stepped (OpensChannel order dump (Err why)) access number before after slots ports p q files later there opens,
)
