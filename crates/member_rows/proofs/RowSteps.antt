-- What stands between two calls of a row.
use Rattle.std.specs.Prelude.{◌≡◌, ◌≤◌, ◌<◌, ◌+◌, ◌-◌, ◌%◌, ◌++◌, ℕ, min, List, [], ◌∷◌, length, map, slice_get, slice_set, Option, Some, None, ◌⊎◌, suc, zero, refl}
use Rattle.std.proofs.Common.{ap, sym, subst, ◌∙◌, arith, inl, inr, get_or}
use Rattle.std.proofs.Math.Nat.{mod-lt}
use Rattle.std.proofs.lemmas.List.{length-set, length-append, map-append, map-set}
use Rattle.std.proofs.lemmas.Option.{slice_get_within, slice_get-get_or}
use Rattle.event.specs.Events.{event_limit}
use Rattle.daq_io.specs.Seen.{Seen}
use Rattle.buffer_core.specs.Ports.{Access}
use Rattle.mid_logger.specs.declared.channel.Channel.{Channel}
use Rattle.mid_logger.specs.declared.channel_spec.ChannelSpec.{ChannelSpec}
use Rattle.loggers.specs.declared.logger.Logger.{Logger}
use Rattle.loggers.specs.Moments.{IsLoggerReady, AreIdleChannels}
use Rattle.loggers.specs.SlotPulls.{HasEventRoom}
use Rattle.loggers.specs.Turning.{buffers_begun, DumpsFit}
use Rattle.loggers.specs.declared.logged_run.LoggedRun.{LoggedRun}
use Rattle.loggers.specs.NewLoggers.{HaveNumbers, HasNewChannels, HavePorts}
use Rattle.loggers.proofs.SlotLists.{same_or_other, got_there, got_elsewhere}
use Rattle.loggers.proofs.StepEntries.{lent_at, lent_port}
use Rattle.member_rows.specs.LoggerRows.{IsRowReady, AreRowPorts, HaveSameSizes, AreRowSpecs, AreRowRooms, row_size}

-- Ports.

port_before : (before after : List Access) (n : ℕ) (q : Access) → length after ≡ length before → slice_get after n ≡ Some q → slice_get before n ≡ Some (get_or before n q)
port_before before after n q many there = slice_get-get_or before n q (omega (arith, many, slice_get_within after n q there))

sized_room : (before after : List Access) (logger : Logger) → HaveSameSizes before after → ((number : ℕ) → HasEventRoom number logger.channels before) → (number : ℕ) → HasEventRoom number logger.channels after
sized_room before after logger sizes room number c a stood at =
    let p : Access = get_or before c.spec.buffer a in
    let there : slice_get before c.spec.buffer ≡ Some p = port_before before after c.spec.buffer a sizes.many at in
    subst (λ (k : ℕ). min event_limit (k - 24) ≤ c.event.room) (sym (sizes.each c.spec.buffer p a there at)) (room number c p stood there)

-- a row goes on with ports to buffers of the same sizes
pub sized_ready : (before after : List Access) (logger : Logger) (seen : Seen) → HaveSameSizes before after → IsRowReady logger before seen → IsRowReady logger after seen
sized_ready before after logger seen sizes row = record {
  ready = record {
    many = row.ready.many;
    served = λ n c stood. omega (arith, sizes.many, row.ready.served n c stood);
    files = row.ready.files;
    few = row.ready.few;
  };
  idle = row.idle;
  begun = omega (arith, sizes.many, row.begun);
  small = row.small;
  room = sized_room before after logger sizes row.room;
}

pub sizes_same : (ports : List Access) → HaveSameSizes ports ports
sizes_same ports = record {
  many = refl;
  each = λ n p q there at. (let is : p ≡ q = cc (there, at) in subst (λ (w : Access). w.size ≡ p.size) is refl);
}

sizes_set : (ports : List Access) (k : ℕ) (p q : Access) → slice_get ports k ≡ Some p → q.size ≡ p.size → HaveSameSizes ports (slice_set ports k q)
sizes_set ports k p q at size = record {
  many = length-set ports k q;
  each = λ n x z there after. elim (same_or_other n k) as (λ w. z.size ≡ x.size) [
    | inl same ↦
        let put : slice_get (slice_set ports k q) k ≡ Some q = got_there ports k p q at in
        let is : q ≡ z = cc (put, same, after) in
        let was : p ≡ x = cc (at, same, there) in
        subst (λ (w : Access). w.size ≡ x.size) is (subst (λ (w : Access). q.size ≡ w.size) was size)
    | inr other ↦
        let still : slice_get ports n ≡ Some z = got_elsewhere ports k n q z other after in
        let is : x ≡ z = cc (there, still) in
        subst (λ (w : Access). w.size ≡ x.size) is refl
  ];
}

-- a call on a port that is lent leaves the sizes
pub lent_sizes : {P : Type 0} (access : P → Access) (ports : List P) (n : ℕ) (p q : P) → n < length ports → p ≡ get_or ports n p → (access q).size ≡ (access p).size → HaveSameSizes (map access ports) (map access (slice_set ports n q))
lent_sizes access ports n p q within is size =
    subst (λ (l : List Access). HaveSameSizes (map access ports) l) (sym (map-set access ports n q))
    (sizes_set (map access ports) n (access p) (access q) (lent_port access ports n p (lent_at ports n p within is)) size)

-- Lists that grow.

module _ {X : Type 0} where
  -- a member of a list with one more is one of them, or that
  pub got_pushed : (xs : List X) (x y : X) (n : ℕ) → slice_get (xs ++ x ∷ []) n ≡ Some y → (slice_get xs n ≡ Some y) ⊎ ((n ≡ length xs) × (x ≡ y))
  got_pushed [] x y zero at = inr (refl, let e : x ≡ y = cc (at) in e)
  got_pushed [] x y (suc n) at = absurd (cc (at))
  got_pushed (z ∷ zs) x y zero at = inl at
  got_pushed (z ∷ zs) x y (suc n) at = elim (got_pushed zs x y n at) as (λ w. (slice_get (z ∷ zs) (suc n) ≡ Some y) ⊎ ((suc n ≡ length (z ∷ zs)) × (x ≡ y))) [
    | inl old ↦ inl old
    | inr now ↦ inr (ap (λ (k : ℕ). suc k) now.0, now.1)
  ]

ports_pushed : (count : ℕ) (ports : List Access) (p : Access) → AreRowPorts count ports → p.size ≡ row_size count → AreRowPorts (count + 1) (ports ++ p ∷ [])
ports_pushed count ports p are size = record {
  many = omega (arith, length-append ports (p ∷ []), are.many);
  sizes = λ n q at. elim (got_pushed ports p q n at) as (λ w. q.size ≡ row_size n) [
    | inl old ↦ are.sizes n q old
    | inr now ↦
        let here : n ≡ count = now.0 ∙ are.many in
        subst (λ (x : Access). x.size ≡ row_size n) now.1 (size ∙ ap row_size (sym here))
  ];
}

pub port_pushed : {P : Type 0} (access : P → Access) (count : ℕ) (ports : List P) (p : P) → AreRowPorts count (map access ports) → (access p).size ≡ row_size count → AreRowPorts (count + 1) (map access (ports ++ p ∷ []))
port_pushed access count ports p are size =
    subst (AreRowPorts (count + 1)) (sym (map-append access ports (p ∷ []))) (ports_pushed count (map access ports) (access p) are size)

pub specs_pushed : (count buffers : ℕ) (specs : List ChannelSpec) (s : ChannelSpec) → AreRowSpecs count buffers specs → s.number ≡ count → s.buffer ≡ count % buffers → AreRowSpecs (count + 1) buffers (specs ++ s ∷ [])
specs_pushed count buffers specs s are number buffer = record {
  many = omega (arith, length-append specs (s ∷ []), are.many);
  each = λ i t at. elim (got_pushed specs s t i at) as (λ w. (t.number ≡ i) × (t.buffer ≡ i % buffers)) [
    | inl old ↦ are.each i t old
    | inr now ↦
        let here : i ≡ count = now.0 ∙ are.many in
        subst (λ (x : ChannelSpec). (x.number ≡ i) × (x.buffer ≡ i % buffers)) now.1 (number ∙ sym here, buffer ∙ ap (λ (k : ℕ). k % buffers) (sym here))
  ];
}

pub rooms_pushed : (count buffers : ℕ) (rooms : List ℕ) (r : ℕ) → AreRowRooms count buffers rooms → r ≡ row_size (count % buffers) - 24 → AreRowRooms (count + 1) buffers (rooms ++ r ∷ [])
rooms_pushed count buffers rooms r are is = record {
  many = omega (arith, length-append rooms (r ∷ []), are.many);
  each = λ i room at. elim (got_pushed rooms r room i at) as (λ w. room ≡ row_size (i % buffers) - 24) [
    | inl old ↦ are.each i room old
    | inr now ↦
        let here : i ≡ count = now.0 ∙ are.many in
        sym now.1 ∙ is ∙ ap (λ (k : ℕ). row_size (k % buffers) - 24) (sym here)
  ];
}

-- A new logger.

pub row_numbers : (count buffers : ℕ) (specs : List ChannelSpec) → count ≤ 16 → AreRowSpecs count buffers specs → HaveNumbers specs
row_numbers count buffers specs few are = record {
  below = λ i s at. omega (arith, few, are.many, (are.each i s at).0, slice_get_within specs i s at);
  differ = λ i j s t first second other same. other (omega (arith, (are.each i s first).0, (are.each j t second).0, same));
}

pub new_row : (logger : Logger) (specs : List ChannelSpec) (rooms : List ℕ) (count buffers : ℕ) (ports : List Access) (seen : Seen) → 0 < buffers → AreRowSpecs count buffers specs → AreRowRooms count buffers rooms → AreRowPorts buffers ports → HasNewChannels specs rooms logger.channels → logger.run ≡ None → DumpsFit logger.dumps → AreIdleChannels logger.channels
    → ((ps : List Access) (files : Seen) → HavePorts specs ps → IsLoggerReady logger.channels ps files) → IsRowReady logger ports seen
new_row logger specs rooms count buffers ports seen some spec room are new run small idle ready = record {
  ready = ready ports seen (λ i s at.
      let below : i % buffers < buffers = mod-lt i some in
      omega (arith, are.many, (spec.each i s at).1, below));
  idle = λ off. idle;
  begun = subst (λ (r : Option LoggedRun). buffers_begun r ≤ length ports) (sym run) (omega arith);
  small = small;
  room = λ number c a stood at.
      let made = (new.only number c stood).1 in
      let buffer : c.spec.buffer ≡ made.0 % buffers = ap (λ (x : Channel). x.spec.buffer) made.1.is ∙ (spec.each made.0 made.1.spec made.1.has_spec).1 in
      let size : a.size ≡ row_size (made.0 % buffers) = are.sizes c.spec.buffer a at ∙ ap row_size buffer in
      let event : c.event.room ≡ row_size (made.0 % buffers) - 24 = ap (λ (x : Channel). x.event.room) made.1.is ∙ room.each made.0 made.1.room made.1.has_room in
      let bound : c.event.room ≡ a.size - 24 = event ∙ ap (λ (k : ℕ). k - 24) (sym size) in
      omega (arith, bound);
}
