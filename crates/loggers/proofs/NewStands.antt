-- What a new logger keeps.
use Rattle.std.specs.Prelude.{◌≡◌, ◌≤◌, ◌-◌, ◌||◌, min, ℕ, suc, Bool, true, false, refl, List, [], ◌∷◌, ◌++◌, slice_get, Option, Some, None, Ok}
use Rattle.std.proofs.Common.{ap, sym, subst, ◌∙◌, arith}
use Rattle.event.specs.Events.{event_limit}
use Rattle.daq_io.specs.Seen.{Seen}
use Rattle.buffer_core.specs.declared.entry.BufferEntry.{BufferEntry}
use Rattle.buffer_core.specs.declared.entry.BufferEntry.TheVariants.{End}
use Rattle.buffer_core.specs.Ports.{Access}
use Rattle.buffer_core.specs.Slots.{slot_at, some_slot}
use Rattle.member_model.specs.CutRuns.{MarksEnd}
use Rattle.mid_logger.specs.declared.channel.Channel.{Channel}
use Rattle.mid_logger.specs.declared.channel_spec.ChannelSpec.{ChannelSpec}
use Rattle.mid_logger.specs.declared.stage.ChannelStage.{ChannelStage}
use Rattle.mid_logger.specs.declared.stage.ChannelStage.TheVariants.{Idle}
use Rattle.mid_logger.specs.Channels.{FileHead, KeepsOwnCalls, IsOwnClient, ChannelStands, channel_run, written_run, files_by as files_made}
use Rattle.mid_logger.specs.ChannelTurns.{asking_run}
use Rattle.loggers.specs.Moments.{IsLoggerReady}
use Rattle.loggers.specs.SlotPulls.{HasEventRoom}
use Rattle.loggers.specs.LoggerCalls.{KeepsLoggerCalls}
use Rattle.loggers.specs.LoggerFaults.{HasFailed}
use Rattle.loggers.specs.Turning.{no_dumps}
use Rattle.loggers.specs.NewLoggers.{IsNewChannel, HasNewChannels, AreUnused, HavePorts, HaveRooms}
use Rattle.loggers.specs.LoggerStands.{IsHeadTold, PortKept, SlotsStand, LoggerHolds}

-- a channel of a new logger is idle and has no client
record IsFresh (specs : List ChannelSpec) (c : Channel) : Type 0 where
  client : c.client ≡ None
  stage : c.stage ≡ Idle
  place : ℕ
  there : slice_get specs place ≡ Some c.spec

fresh : (specs : List ChannelSpec) (rooms : List ℕ) (place : ℕ) (c : Channel) → IsNewChannel specs rooms place c → IsFresh specs c
fresh specs rooms place c new = record {
  client = ap (λ (x : Channel). x.client) new.is;
  stage = ap (λ (x : Channel). x.stage) new.is;
  place = place;
  there = new.has_spec ∙ ap Some (sym (ap (λ (x : Channel). x.spec) new.is));
}

fresh_at : (specs : List ChannelSpec) (rooms : List ℕ) (slots : List (Option Channel)) (n : ℕ) (c : Channel) → HasNewChannels specs rooms slots → slot_at slots n ≡ Some c → IsFresh specs c
fresh_at specs rooms slots n c new stood = fresh specs rooms (new.only n c stood).1.0 c (new.only n c stood).1.1

fresh_stands : (specs : List ChannelSpec) (c : Channel) (head : FileHead) (seen : Seen) → IsFresh specs c → ChannelStands c.spec c.client c.stage head [] [] seen
fresh_stands specs c head seen f =
    let now : ChannelStands c.spec None Idle head [] [] seen = record { port = record { sends_none = tt; own_calls = tt }; own_client = tt; at = tt } in
    rw (f.client, f.stage) now

no_mark : (start place : ℕ) → MarksEnd [] start place → ⊥
no_mark start place marks = in_none marks.before marks.is
  where
    in_none : (before : List BufferEntry) → [] ≡ before ++ End start (Ok place) ∷ marks.after → ⊥
    in_none [] is = cc (is)
    in_none (x ∷ xs) is = cc (is)

new_slots : (specs : List ChannelSpec) (rooms : List ℕ) (slots : List (Option Channel)) (ports : List Access) (seen : Seen) → HasNewChannels specs rooms slots → AreUnused ports → SlotsStand (IsHeadTold [] no_dumps) [] slots ports seen
new_slots specs rooms slots ports seen new unused = record {
  many = omega (arith, new.many);
  numbered = λ n c stood. (new.only n c stood).0;
  channels = λ n c a stood at.
      let f : IsFresh specs c = fresh_at specs rooms slots n c new stood in
      let head : FileHead = record { run = 0; time = 0; dump = [] } in
      let unused_here = unused c.spec.buffer a at in
      record {
        head = head;
        stands = rw (unused_here.0, unused_here.1) (fresh_stands specs c head seen f);
        headed = λ opened is. absurd (let never : None ≡ Some opened = sym (ap (λ (s : ChannelStage). channel_run s) f.stage) ∙ is in cc (never));
      };
  apart = λ n m c d differ first second.
      let f : IsFresh specs c = fresh_at specs rooms slots n c new first in
      record {
        clients = λ same i j is other_is. absurd (let never : None ≡ Some i = sym f.client ∙ is in cc (never));
        names = λ r s is other_is told i j below other_below. absurd (let never : None ≡ Some r = sym (ap (λ (x : ChannelStage). channel_run x) f.stage) ∙ is in cc (never));
        numbers = λ r s is other_is. absurd (let never : None ≡ Some r = sym (ap (λ (x : ChannelStage). written_run x) f.stage) ∙ is in cc (never));
      };
  calls = λ buffer a at.
      let none : PortKept [] [] = record { calls = record { sends_none = tt; own_calls = tt }; alone = tt; told = tt; once = λ are start m n first. absurd (no_mark start m first) } in
      subst (λ (l : List BufferEntry). PortKept [] l) (sym (unused buffer a at).0) none;
  left = λ are stop ends tells. absurd tells.stands;
}

-- what a new logger keeps, with ports on which no call was made
pub new_stands : (specs : List ChannelSpec) (rooms : List ℕ) (slots : List (Option Channel)) (ports : List Access) (seen : Seen) → HasNewChannels specs rooms slots → HavePorts specs ports → AreUnused ports → LoggerHolds None no_dumps slots ports [] seen
new_stands specs rooms slots ports seen new have unused = record {
  standing = new_slots specs rooms slots ports seen new unused;
  taken = λ n c stood opened is. absurd (let never : None ≡ Some opened = sym (ap (λ (s : ChannelStage). channel_run s) (fresh_at specs rooms slots n c new stood).stage) ∙ is in cc (never));
  served = λ n c stood. let f : IsFresh specs c = fresh_at specs rooms slots n c new stood in have f.place c.spec f.there;
  stages = λ n c a stood at. (fresh_at specs rooms slots n c new stood).stage;
  starts = λ start answer has is told. absurd has;
  stops = λ are begin stop answer accepted has is told. absurd has;
  told = tt;
  current = λ are start begin on accepted. absurd (cc (on));
  not_off = λ are r turn is. absurd (cc (is));
  going = λ are r is. absurd (cc (is));
  unready = λ are. tt;
}

pub new_ready : (specs : List ChannelSpec) (rooms : List ℕ) (slots : List (Option Channel)) (ports : List Access) (seen : Seen) → HasNewChannels specs rooms slots → HavePorts specs ports → IsLoggerReady slots ports seen
new_ready specs rooms slots ports seen new have = record {
  many = omega (arith, new.many);
  few = λ n c stood. (let none : files_made c.stage ≡ 0 = ap (λ (s : ChannelStage). files_made s) (fresh_at specs rooms slots n c new stood).stage in omega (arith, none));
  served = λ n c stood. let f : IsFresh specs c = fresh_at specs rooms slots n c new stood in have f.place c.spec f.there;
  files = record {
    files = λ n c stood. rw (fresh_at specs rooms slots n c new stood).stage tt;
    numbers = λ n m c d differ first second r s is other_is. absurd (let never : None ≡ Some r = sym (ap (λ (x : ChannelStage). written_run x) (fresh_at specs rooms slots n c new first).stage) ∙ is in cc (never));
  };
}

-- each channel has room for the events of its buffer, where the rooms of the specs are enough
pub new_room : (specs : List ChannelSpec) (rooms : List ℕ) (slots : List (Option Channel)) (ports : List Access) → HasNewChannels specs rooms slots → HaveRooms specs rooms ports → (number : ℕ) → HasEventRoom number slots ports
new_room specs rooms slots ports new have number c a stood at =
    let place : ℕ = (new.only number c stood).1.0 in
    let made : IsNewChannel specs rooms place c = (new.only number c stood).1.1 in
    let spec : c.spec ≡ made.spec = ap (λ (x : Channel). x.spec) made.is in
    let room : c.event.room ≡ made.room = ap (λ (x : Channel). x.event.room) made.is in
    let at_spec : slice_get ports made.spec.buffer ≡ Some a = subst (λ (s : ChannelSpec). slice_get ports s.buffer ≡ Some a) spec at in
    subst (λ (r : ℕ). min event_limit (a.size - 24) ≤ r) (sym room) (have place made.room made.spec a made.has_spec made.has_room at_spec)

-- a new logger has made no call
pub new_own : (specs : List ChannelSpec) (rooms : List ℕ) (slots : List (Option Channel)) (ports : List Access) → HasNewChannels specs rooms slots → AreUnused ports → KeepsLoggerCalls slots ports
new_own specs rooms slots ports new unused = record {
  calls = λ buffer a at.
      let none : KeepsOwnCalls [] = record { sends_none = tt; own_calls = tt } in
      subst (λ (l : List BufferEntry). KeepsOwnCalls l) (sym (unused buffer a at).0) none;
  clients = λ n c a stood at.
      let f : IsFresh specs c = fresh_at specs rooms slots n c new stood in
      subst (λ (client : Option ℕ). IsOwnClient client a.own) (sym f.client) tt;
  asking = λ n c opened stood is.
      let f : IsFresh specs c = fresh_at specs rooms slots n c new stood in
      absurd (let never : None ≡ Some opened = sym (ap (λ (s : ChannelStage). asking_run s) f.stage) ∙ is in cc (never));
}

none_failed : (slots : List (Option Channel)) → ((n : ℕ) (c : Channel) → slot_at slots n ≡ Some c → c.failed ≡ false) → some_slot (λ (c : Channel). c.failed) slots ≡ false
none_failed [] each = refl
none_failed (None ∷ os) each = none_failed os (λ n c there. each (suc n) c there)
none_failed (Some c ∷ os) each = ap (λ (b : Bool). b || some_slot (λ (x : Channel). x.failed) os) (each 0 c refl) ∙ none_failed os (λ n d there. each (suc n) d there)

-- no call on the files was made yet
pub new_failed : (specs : List ChannelSpec) (rooms : List ℕ) (slots : List (Option Channel)) → HasNewChannels specs rooms slots → HasFailed slots → ⊥
new_failed specs rooms slots new failed =
    let none : some_slot (λ (c : Channel). c.failed) slots ≡ false = none_failed slots (λ n c stood. ap (λ (x : Channel). x.failed) (new.only n c stood).1.1.is) in
    let both : true ≡ false = sym failed ∙ none in
    cc (both)
