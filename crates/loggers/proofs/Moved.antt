-- What stands of all channels, where one of them did a step on its port and its file.
use Rattle.std.specs.Prelude.{◌≡◌, ◌≢◌, ◌<◌, ◌+◌, ◌++◌, ℕ, Bool, IsTrue, IsSome, List, [], slice_get, slice_set, Option, Some, None, ◌⊎◌, refl}
use Rattle.std.proofs.Common.{ap, sym, subst, ◌∙◌, arith, inl, inr}
use Rattle.std.proofs.lemmas.List.{length-set, append-nil}
use Rattle.daq_types.specs.declared.runs.ChannelEnd.{ChannelEnd}
use Rattle.daq_io.specs.Seen.{GoesOn, Seen, Stored}
use Rattle.buffer_core.specs.declared.entry.BufferEntry.{BufferEntry}
use Rattle.buffer_core.specs.Ports.{Access, GotEvent}
use Rattle.buffer_core.specs.Slots.{slot_at}
use Rattle.member_model.specs.Turns.{MemberTurn}
use Rattle.mid_logger.specs.declared.channel.Channel.{Channel}
use Rattle.mid_logger.specs.declared.channel_spec.ChannelSpec.{ChannelSpec}
use Rattle.mid_logger.specs.declared.stage.BegunRun.{BegunRun}
use Rattle.mid_logger.specs.declared.stage.ChannelRun.{ChannelRun}
use Rattle.sub_files.specs.Patterns.{piece_name_by}
use Rattle.mid_logger.specs.Channels.{FileHead, channel_run, files_by as files_made}
use Rattle.mid_logger.specs.Beside.{LeavesRunFiles, LeftBeside}
use Rattle.loggers.specs.LoggerStands.{IsEndedSo, ChannelKept, SlotsApart, PortKept, TakenStays, LeftRun, ToldSo, SlotsStand}
use Rattle.loggers.proofs.LeftThere.{left_there}
use Rattle.loggers.proofs.SlotLists.{same_or_other, one_changed, got_there, got_elsewhere}

-- a port after more calls, by which more events were got; what was told of the ends of runs stays so
pub record Grows (x y : Access) : Type 0 where
  pub more : List BufferEntry
  pub given : List GotEvent
  pub own : y.own ≡ x.own ++ more
  pub got : y.got ≡ x.got ++ given
  pub ended : (start : ℕ) → (ended : Option ℕ) → IsEndedSo x.own start ended → IsEndedSo y.own start ended

-- the name is not that of a file that the channel has made in its run
abbrev pub IsNotMade : Channel → (name : List ℕ) → Type 0
IsNotMade c name = (opened : ChannelRun) → channel_run c.stage ≡ Some opened → (j : ℕ) → j < files_made c.stage → name ≢ piece_name_by c.spec.pattern opened.run j

-- What one channel's step is to the others.
pub record Moves (IsHeadOf : ChannelRun → FileHead → Type 0) (turns : List MemberTurn) (slots : List (Option Channel)) (n : ℕ) (before after : Channel) (p q : Access) (old new : Seen) : Type 0 where
  pub spec : after.spec ≡ before.spec
  pub client : (c : ℕ) → before.client ≡ Some c → after.client ≡ Some c
  pub names : new.names ≡ old.names
  pub on : GoesOn old new
  pub self : ChannelKept IsHeadOf old before p → ChannelKept IsHeadOf new after q
  pub beside : (m : ℕ) → (d : Channel) → m ≢ n → slot_at slots m ≡ Some d → d.spec.buffer ≡ before.spec.buffer → ChannelKept IsHeadOf old before p → ChannelKept IsHeadOf old d p → ChannelKept IsHeadOf new d q
  pub elsewhere : (m : ℕ) → (d : Channel) → (a : Access) → m ≢ n → slot_at slots m ≡ Some d → ChannelKept IsHeadOf old d a → ChannelKept IsHeadOf new d a
  pub apart : (m : ℕ) → (d : Channel) → m ≢ n → slot_at slots m ≡ Some d → SlotsApart old before d → SlotsApart new after d
  pub calls : PortKept turns p.own → PortKept turns q.own
  pub grows : Grows p q
  -- a file that is there, and is none of those that a channel made in its run, stays, and is not one that this channel has made behind the step
  pub left : (name : List ℕ) → IsTrue old.names → TakenStays slots old name → (new.at name ≡ old.at name) × IsNotMade after name

pub grown_none : (a : Access) → Grows a a
grown_none a = record { more = []; given = []; own = sym (append-nil a.own); got = sym (append-nil a.got); ended = λ start ended so. so }

-- two channels that did nothing are still apart
still_apart : (old new : Seen) (c d : Channel) → new.names ≡ old.names → SlotsApart old c d → SlotsApart new c d
still_apart old new c d tells apart = record {
  clients = apart.clients;
  names = λ r s is other_is told. apart.names r s is other_is (subst (λ (b : Bool). IsTrue b) tells told);
  numbers = apart.numbers;
}

apart_flipped : (seen : Seen) (c d : Channel) → SlotsApart seen c d → SlotsApart seen d c
apart_flipped seen c d apart = record {
  clients = λ same m n is other_is e. apart.clients (sym same) n m other_is is (sym e);
  names = λ r s is other_is told i j low below e. apart.names s r other_is is told j i below low (sym e);
  numbers = λ r s is other_is e. apart.numbers s r other_is is (sym e);
}

-- what one name is behind the step
name_moved : (H : ChannelRun → FileHead → Type 0) (turns : List MemberTurn) (slots : List (Option Channel)) (n : ℕ) (before after : Channel) (p q : Access) (old new : Seen) → Moves H turns slots n before after p q old new → slot_at slots n ≡ Some before → (name : List ℕ) → IsTrue old.names
    → TakenStays slots old name → TakenStays (slice_set slots n (Some after)) new name
name_moved H turns slots n before after p q old new moves there name told stays =
    let behind = moves.left name told stays in
    record {
      there = subst (λ (o : Option Stored). IsSome o) (sym behind.0) stays.there;
      apart = λ m e opened stood is.
          one_changed (λ k z. channel_run z.stage ≡ Some opened → (j : ℕ) → j < files_made z.stage → name ≢ piece_name_by z.spec.pattern opened.run j) slots n after
          (λ b at_n here. behind.1 opened here)
          (λ k z other at_k here. stays.apart k z opened at_k here) before there m e stood is;
    }

-- a run that was left, behind the step: of a channel that has the same spec, and the client if it had one; it is the same run
pub left_moved : LeftBeside → (H : ChannelRun → FileHead → Type 0) (turns : List MemberTurn) (slots : List (Option Channel)) (n : ℕ) (before after : Channel) (p q : Access) (old new : Seen) → Moves H turns slots n before after p q old new → slot_at slots n ≡ Some before
    → (c d : Channel) (x y : Access) → ((k : ℕ) → c.client ≡ Some k → d.client ≡ Some k) → Grows x y → (stop : MemberTurn) (end : ChannelEnd) → (l : LeftRun turns slots old c x stop end)
    → (k : LeftRun turns (slice_set slots n (Some after)) new (record d { spec = c.spec }) y stop end) × (k.run ≡ l.run)
left_moved law H turns slots n before after p q old new moves there c d x y client grows stop end l =
    let name : (i : ℕ) → List ℕ = λ i. piece_name_by c.spec.pattern l.run.opened.run i in
    let stays : IsTrue old.names → (i : ℕ) → i < end.files → TakenStays slots old (name i) =
    λ told i below. record { there = left_there end c.spec l.head l.run stop.order.time stop.dump x.own x.got old l.left told i below; apart = l.apart told i below } in
    let leaves : LeavesRunFiles c.spec (Some l.run.opened) None end.files old new = record { told = moves.names; on = moves.on; at = λ told i below. (moves.left (name i) told (stays told i below)).0; number = tt } in
    let behind = law end c.spec l.head l.run stop.order.time stop.dump x.own grows.more x.got grows.given old new l.left leaves in
    let now : LeftRun turns (slice_set slots n (Some after)) new (record d { spec = c.spec }) y stop end = record {
      run = l.run;
      head = l.head;
      of = l.of;
      client = client l.run.opened.client l.client;
      headed = l.headed;
      ended = grows.ended stop.order.start l.run.ended l.ended;
      state = l.state;
      framed = l.framed;
      few = l.few;
      left = rw (grows.own, grows.got) behind;
      apart = λ told i below.
          let told_before : IsTrue old.names = subst (λ (b : Bool). IsTrue b) moves.names told in
          (name_moved H turns slots n before after p q old new moves there (name i) told_before (stays told_before i below)).apart;
      last = l.last;
    } in
    (now, refl)

-- what was told of a channel, behind the step
told_moved : LeftBeside → (H : ChannelRun → FileHead → Type 0) (turns : List MemberTurn) (slots : List (Option Channel)) (n : ℕ) (before after : Channel) (p q : Access) (old new : Seen) → Moves H turns slots n before after p q old new → slot_at slots n ≡ Some before
    → (m : ℕ) (c d : Channel) (x y : Access) → d.spec ≡ c.spec → ((k : ℕ) → c.client ≡ Some k → d.client ≡ Some k) → Grows x y → (stop : MemberTurn) (ends : List ChannelEnd) → ToldSo turns slots old m c x stop ends → ToldSo turns (slice_set slots n (Some after)) new m d y stop ends
told_moved law H turns slots n before after p q old new moves there m c d x y spec client grows stop ends so =
    let both = left_moved law H turns slots n before after p q old new moves there c d x y client grows stop so.told so.left in
    let now : ToldSo turns (slice_set slots n (Some after)) new m (record d { spec = c.spec }) y stop ends = record {
      told = so.told;
      at = so.at;
      left = both.0;
      taken = λ told is_taken.
          let told_before : IsTrue old.names = subst (λ (b : Bool). IsTrue b) moves.names told in
          let was : TakenStays slots old (piece_name_by c.spec.pattern so.left.run.opened.run (so.left.run.opened.at.sub + 1)) = so.taken told_before (subst (λ (r : BegunRun). IsTrue r.opened.at.taken) both.1 is_taken) in
          subst (λ (r : BegunRun). TakenStays (slice_set slots n (Some after)) new (piece_name_by c.spec.pattern r.opened.run (r.opened.at.sub + 1))) (sym both.1)
          (name_moved H turns slots n before after p q old new moves there (piece_name_by c.spec.pattern so.left.run.opened.run (so.left.run.opened.at.sub + 1)) told_before was);
    } in
    subst (λ (s : ChannelSpec). ToldSo turns (slice_set slots n (Some after)) new m (record d { spec = s }) y stop ends) (sym spec) now

-- the port of a channel behind the step is the one that was put, or stays
record PortOf (ports : List Access) (buffer : ℕ) (p q : Access) (k : ℕ) (a : Access) : Type 0 where
  which : ((k ≡ buffer) × (a ≡ q)) ⊎ ((k ≢ buffer) × (slice_get ports k ≡ Some a))

port_of : (ports : List Access) (buffer : ℕ) (p q : Access) (k : ℕ) (a : Access) → slice_get ports buffer ≡ Some p → slice_get (slice_set ports buffer q) k ≡ Some a → PortOf ports buffer p q k a
port_of ports buffer p q k a there at = elim (same_or_other k buffer) as (λ w. PortOf ports buffer p q k a) [
  | inl same ↦ record { which = inl (same, let put : slice_get (slice_set ports buffer q) buffer ≡ Some q = got_there ports buffer p q there in cc (put, same, at)) }
  | inr other ↦ record { which = inr (other, got_elsewhere ports buffer k q a other at) }
]

pub moved : LeftBeside → (H : ChannelRun → FileHead → Type 0) (turns : List MemberTurn) (slots : List (Option Channel)) (ports : List Access) (n : ℕ) (before after : Channel) (p q : Access) (old new : Seen) → slot_at slots n ≡ Some before → slice_get ports before.spec.buffer ≡ Some p
    → Moves H turns slots n before after p q old new → SlotsStand H turns slots ports old → SlotsStand H turns (slice_set slots n (Some after)) (slice_set ports before.spec.buffer q) new
moved law H turns slots ports n before after p q old new there at_port moves stands =
    let buffer : ℕ = before.spec.buffer in
    let self_before : ChannelKept H old before p = stands.channels n before p there at_port in
    record {
      many = omega (arith, length-set slots n (Some after), stands.many);
      numbered = one_changed (λ m c. c.spec.number ≡ m) slots n after (λ b stood. ap (λ (s : ChannelSpec). s.number) moves.spec ∙ stands.numbered n before there) (λ m c other stood. stands.numbered m c stood) before there;
      channels = λ m c a stood at.
          one_changed (λ k x. (y : Access) → slice_get (slice_set ports buffer q) x.spec.buffer ≡ Some y → ChannelKept H new x y) slots n after
          (λ b here y at_y.
          let put : slice_get (slice_set ports buffer q) buffer ≡ Some q = got_there ports buffer p q at_port in
          let at_buffer : slice_get (slice_set ports buffer q) buffer ≡ Some y = subst (λ (s : ChannelSpec). slice_get (slice_set ports buffer q) s.buffer ≡ Some y) moves.spec at_y in
          let is : q ≡ y = cc (put, at_buffer) in
          subst (λ (z : Access). ChannelKept H new after z) is (moves.self self_before))
          (λ k x other here y at_y. elim ((port_of ports buffer p q x.spec.buffer y at_port at_y).which) as (λ w. ChannelKept H new x y) [
            | inl hit ↦
                let old_port : slice_get ports x.spec.buffer ≡ Some p = subst (λ (j : ℕ). slice_get ports j ≡ Some p) (sym hit.0) at_port in
                subst (λ (z : Access). ChannelKept H new x z) (sym hit.1) (moves.beside k x other here hit.0 self_before (stands.channels k x p here old_port))
            | inr miss ↦ moves.elsewhere k x y other here (stands.channels k x y here miss.1)
          ])
          before there m c stood a at;
      apart = λ k m c d differ first second.
          one_changed (λ i x. (j : ℕ) (y : Channel) → i ≢ j → slot_at (slice_set slots n (Some after)) j ≡ Some y → SlotsApart new x y) slots n after
          (λ b stood j y other at_j.
          one_changed (λ i x. n ≢ i → SlotsApart new after x) slots n after (λ b2 stood2 never. absurd (never refl))
          (λ i x other2 stood2 ne. moves.apart i x other2 stood2 (stands.apart n i before x ne there stood2)) before there j y at_j other)
          (λ i x other stood j y ne at_j.
          one_changed (λ r z. i ≢ r → SlotsApart new x z) slots n after
          (λ b2 stood2 ne2. apart_flipped new after x (moves.apart i x other stood (stands.apart n i before x (λ same. other (sym same)) there stood)))
          (λ r z other2 stood2 ne2. still_apart old new x z moves.names (stands.apart i r x z ne2 stood stood2)) before there j y at_j ne)
          before there k c first m d differ second;
      calls = λ k a at. elim ((port_of ports buffer p q k a at_port at).which) as (λ w. PortKept turns a.own) [
        | inl hit ↦ subst (λ (z : Access). PortKept turns z.own) (sym hit.1) (moves.calls (stands.calls buffer p at_port))
        | inr miss ↦ stands.calls k a miss.1
      ];
      left = λ are stop ends tells m c a stood at.
          one_changed (λ k x. (y : Access) → slice_get (slice_set ports buffer q) x.spec.buffer ≡ Some y → ToldSo turns (slice_set slots n (Some after)) new k x y stop ends) slots n after
          (λ b here y at_y.
          let put : slice_get (slice_set ports buffer q) buffer ≡ Some q = got_there ports buffer p q at_port in
          let at_buffer : slice_get (slice_set ports buffer q) buffer ≡ Some y = subst (λ (s : ChannelSpec). slice_get (slice_set ports buffer q) s.buffer ≡ Some y) moves.spec at_y in
          let is : q ≡ y = cc (put, at_buffer) in
          let so : ToldSo turns slots old n before p stop ends = stands.left are stop ends tells n before p there at_port in
          subst (λ (z : Access). ToldSo turns (slice_set slots n (Some after)) new n after z stop ends) is
          (told_moved law H turns slots n before after p q old new moves there n before after p q moves.spec moves.client moves.grows stop ends so))
          (λ k x other here y at_y. elim ((port_of ports buffer p q x.spec.buffer y at_port at_y).which) as (λ w. ToldSo turns (slice_set slots n (Some after)) new k x y stop ends) [
            | inl hit ↦
                let old_port : slice_get ports x.spec.buffer ≡ Some p = subst (λ (j : ℕ). slice_get ports j ≡ Some p) (sym hit.0) at_port in
                let so : ToldSo turns slots old k x p stop ends = stands.left are stop ends tells k x p here old_port in
                subst (λ (z : Access). ToldSo turns (slice_set slots n (Some after)) new k x z stop ends) (sym hit.1)
                (told_moved law H turns slots n before after p q old new moves there k x x p q refl (λ j is. is) moves.grows stop ends so)
            | inr miss ↦
                let so : ToldSo turns slots old k x y stop ends = stands.left are stop ends tells k x y here miss.1 in
                told_moved law H turns slots n before after p q old new moves there k x x y y refl (λ j is. is) (grown_none y) stop ends so
          ])
          before there m c stood a at;
    }
