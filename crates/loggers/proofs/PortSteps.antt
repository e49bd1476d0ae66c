-- What one call on a buffer is to all channels, where those that read the buffer may note it.
use Rattle.std.specs.Prelude.{◌≡◌, ◌≢◌, ◌<◌, ◌+◌, ◌++◌, ℕ, List, [], length, slice_get, slice_set, Option, Some, None, ◌⊎◌, IsTrue, refl}
use Rattle.std.proofs.Common.{ap, sym, subst, ◌∙◌, arith, inl, inr}
use Rattle.std.proofs.lemmas.List.{append-nil}
use Rattle.daq_types.specs.declared.runs.ChannelEnd.{ChannelEnd}
use Rattle.daq_io.specs.Seen.{Seen}
use Rattle.daq_io.proofs.SeenLaws.{on_same}
use Rattle.buffer_core.specs.declared.entry.BufferEntry.{BufferEntry}
use Rattle.buffer_core.specs.Ports.{Access, GotEvent}
use Rattle.buffer_core.specs.Slots.{slot_at}
use Rattle.member_model.specs.Turns.{MemberTurn, AreEngineTurns}
use Rattle.mid_logger.specs.declared.channel.Channel.{Channel}
use Rattle.mid_logger.specs.declared.channel_spec.ChannelSpec.{ChannelSpec}
use Rattle.mid_logger.specs.declared.stage.BegunRun.{BegunRun}
use Rattle.mid_logger.specs.declared.stage.ChannelRun.{ChannelRun}
use Rattle.mid_logger.specs.declared.stage.ChannelStage.{ChannelStage}
use Rattle.sub_files.specs.Patterns.{piece_name_by}
use Rattle.mid_logger.specs.Channels.{FileHead, ChannelStands, channel_run, written_run, files_by as files_made}
use Rattle.mid_logger.specs.Beside.{LeavesRunFiles, LeftBeside}
use Rattle.loggers.specs.LoggerStands.{IsEndedSo, ChannelKept, SlotsApart, IsNoOpenName, PortKept, TakenStays, LeftRun, TellsEnds, ToldSo, SlotsStand}
use Rattle.loggers.proofs.SlotLists.{got_there, got_elsewhere, same_or_other}

-- a channel that noted a call, or did not: its run stays
pub record KeepsChannel (before after : Channel) : Type 0 where
  pub spec : after.spec ≡ before.spec
  pub client : after.client ≡ before.client
  pub run : channel_run after.stage ≡ channel_run before.stage
  pub written : written_run after.stage ≡ written_run before.stage
  pub made : files_made after.stage ≡ files_made before.stage

-- The channel stood there before, and noted a call on this buffer, if it reads that.
pub record IsFrom (note : ChannelStage → ChannelStage) (slots : List (Option Channel)) (buffer n : ℕ) (after : Channel) : Type 0 where
  pub before : Channel
  pub there : slot_at slots n ≡ Some before
  pub keeps : KeepsChannel before after
  pub hit : before.spec.buffer ≡ buffer → after.stage ≡ note before.stage
  pub miss : before.spec.buffer ≢ buffer → after.stage ≡ before.stage

-- One call on the port of a buffer, as a step among all channels.
pub record StepsPort (note : ChannelStage → ChannelStage) (turns : List MemberTurn) (slots later : List (Option Channel)) (buffer : ℕ) (p q : Access) (seen : Seen) : Type 0 where
  pub many : length later ≡ length slots
  pub from : (n : ℕ) → (c : Channel) → slot_at later n ≡ Some c → IsFrom note slots buffer n c
  pub kept : (n : ℕ) → (c : Channel) → slot_at slots n ≡ Some c → c.spec.buffer ≡ buffer → (head : FileHead) → ChannelStands c.spec c.client c.stage head p.own p.got seen → ChannelStands c.spec c.client (note c.stage) head q.own q.got seen
  pub more : List BufferEntry
  pub given : List GotEvent
  pub own : q.own ≡ p.own ++ more
  pub got : q.got ≡ p.got ++ given
  pub calls : PortKept turns p.own → PortKept turns q.own
  -- what was told of the ends of the runs that were left stays so
  pub ended : AreEngineTurns turns → (stop : MemberTurn) → (ends : List ChannelEnd) → TellsEnds turns stop ends → (ended : Option ℕ) → IsEndedSo p.own stop.order.start ended → IsEndedSo q.own stop.order.start ended

-- a run's files stay where nothing is done with files
stays_there : (spec : ChannelSpec) (opened : ChannelRun) (many : ℕ) (seen : Seen) → LeavesRunFiles spec (Some opened) None many seen seen
stays_there spec opened many seen = record { told = refl; on = on_same refl; at = λ told n below. refl; number = tt }

-- a name that is none of a run that a channel has is none behind the call
no_open_from : (note : ChannelStage → ChannelStage) (slots later : List (Option Channel)) (buffer : ℕ) → ((n : ℕ) (c : Channel) → slot_at later n ≡ Some c → IsFrom note slots buffer n c) → (name : List ℕ) → IsNoOpenName slots name → IsNoOpenName later name
no_open_from note slots later buffer from name none m d opened stood is j below same =
    let f : IsFrom note slots buffer m d = from m d stood in
    none m f.before opened f.there (sym f.keeps.run ∙ is) j (subst (λ (k : ℕ). j < k) f.keeps.made below) (same ∙ ap (λ (s : ChannelSpec). piece_name_by s.pattern opened.run j) f.keeps.spec)

-- a run that was left, behind the call: it is the same run
left_from : LeftBeside → (note : ChannelStage → ChannelStage) (turns : List MemberTurn) (slots later : List (Option Channel)) (buffer : ℕ) (p q : Access) (seen : Seen) → StepsPort note turns slots later buffer p q seen
    → (before after : Channel) → KeepsChannel before after → (x y : Access) (more : List BufferEntry) (given : List GotEvent) → y.own ≡ x.own ++ more → y.got ≡ x.got ++ given → (stop : MemberTurn) (told : ChannelEnd)
    → ((ended : Option ℕ) → IsEndedSo x.own stop.order.start ended → IsEndedSo y.own stop.order.start ended) → (l : LeftRun turns slots seen before x stop told) → (k : LeftRun turns later seen after y stop told) × (k.run ≡ l.run)
left_from law note turns slots later buffer p q seen steps before after keeps x y more given own got stop told ended l =
    let behind = law told before.spec l.head l.run stop.order.time stop.dump x.own more x.got given seen seen l.left (stays_there before.spec l.run.opened told.files seen) in
    let now : LeftRun turns later seen after y stop told = record {
      run = l.run;
      head = l.head;
      of = l.of;
      client = keeps.client ∙ l.client;
      headed = l.headed;
      ended = ended l.run.ended l.ended;
      state = l.state;
      framed = l.framed;
      few = l.few;
      left = rw (keeps.spec, own, got) behind;
      apart = λ tells i below.
          no_open_from note slots later buffer steps.from (piece_name_by after.spec.pattern l.run.opened.run i)
          (subst (λ (s : ChannelSpec). IsNoOpenName slots (piece_name_by s.pattern l.run.opened.run i)) (sym keeps.spec) (l.apart tells i below));
      last = l.last;
    } in
    (now, refl)

told_from : LeftBeside → (note : ChannelStage → ChannelStage) (turns : List MemberTurn) (slots later : List (Option Channel)) (buffer : ℕ) (p q : Access) (seen : Seen) → StepsPort note turns slots later buffer p q seen
    → (before after : Channel) → KeepsChannel before after → (x y : Access) (more : List BufferEntry) (given : List GotEvent) → y.own ≡ x.own ++ more → y.got ≡ x.got ++ given → (n : ℕ) (stop : MemberTurn) (ends : List ChannelEnd)
    → ((ended : Option ℕ) → IsEndedSo x.own stop.order.start ended → IsEndedSo y.own stop.order.start ended) → ToldSo turns slots seen n before x stop ends → ToldSo turns later seen n after y stop ends
told_from law note turns slots later buffer p q seen steps before after keeps x y more given own got n stop ends ended so =
    let both = left_from law note turns slots later buffer p q seen steps before after keeps x y more given own got stop so.told ended so.left in
    record {
      told = so.told;
      at = so.at;
      left = both.0;
      taken = λ tells is_taken.
          let was : TakenStays slots seen (piece_name_by before.spec.pattern so.left.run.opened.run (so.left.run.opened.at.sub + 1)) = so.taken tells (subst (λ (r : BegunRun). IsTrue r.opened.at.taken) both.1 is_taken) in
          let of_spec : TakenStays slots seen (piece_name_by after.spec.pattern so.left.run.opened.run (so.left.run.opened.at.sub + 1)) =
          subst (λ (s : ChannelSpec). TakenStays slots seen (piece_name_by s.pattern so.left.run.opened.run (so.left.run.opened.at.sub + 1))) (sym keeps.spec) was in
          let of_run : TakenStays slots seen (piece_name_by after.spec.pattern both.0.run.opened.run (both.0.run.opened.at.sub + 1)) =
          subst (λ (r : BegunRun). TakenStays slots seen (piece_name_by after.spec.pattern r.opened.run (r.opened.at.sub + 1))) (sym both.1) of_spec in
          record { there = of_run.there; apart = no_open_from note slots later buffer steps.from _ of_run.apart };
    }

apart_from : (seen : Seen) (c d x y : Channel) → KeepsChannel c x → KeepsChannel d y → SlotsApart seen c d → SlotsApart seen x y
apart_from seen c d x y one other apart = record {
  clients = λ same m n is other_is.
      apart.clients (ap (λ (s : ChannelSpec). s.buffer) (sym one.spec) ∙ (same ∙ ap (λ (s : ChannelSpec). s.buffer) other.spec)) m n (sym one.client ∙ is) (sym other.client ∙ other_is);
  names = λ r s is other_is told i j low below e.
      apart.names r s (sym one.run ∙ is) (sym other.run ∙ other_is) told i j (subst (λ (k : ℕ). i < k) one.made low) (subst (λ (k : ℕ). j < k) other.made below)
      (ap (λ (k : ChannelSpec). piece_name_by k.pattern r.run i) (sym one.spec) ∙ (e ∙ ap (λ (k : ChannelSpec). piece_name_by k.pattern s.run j) other.spec));
  numbers = λ r s is other_is. apart.numbers r s (sym one.written ∙ is) (sym other.written ∙ other_is);
}

-- the port of a buffer behind the call: the one that was called, or another
pub which_port : (ports : List Access) (buffer : ℕ) (p q : Access) (k : ℕ) (a : Access) → slice_get ports buffer ≡ Some p → slice_get (slice_set ports buffer q) k ≡ Some a → ((k ≡ buffer) × (q ≡ a)) ⊎ ((k ≢ buffer) × (slice_get ports k ≡ Some a))
which_port ports buffer p q k a there at = elim (same_or_other k buffer) as (λ w. ((k ≡ buffer) × (q ≡ a)) ⊎ ((k ≢ buffer) × (slice_get ports k ≡ Some a))) [
  | inl same ↦ inl (same, let put : slice_get (slice_set ports buffer q) buffer ≡ Some q = got_there ports buffer p q there in cc (put, same, at))
  | inr other ↦ inr (other, got_elsewhere ports buffer k q a other at)
]

kept_from : (H : ChannelRun → FileHead → Type 0) (note : ChannelStage → ChannelStage) (turns : List MemberTurn) (slots later : List (Option Channel)) (ports : List Access) (buffer : ℕ) (p q : Access) (seen : Seen) → StepsPort note turns slots later buffer p q seen → (n : ℕ) (c : Channel) (a : Access) (f : IsFrom note slots buffer n c) → slice_get ports buffer ≡ Some p
    → ((x : Access) → slice_get ports f.before.spec.buffer ≡ Some x → ChannelKept H seen f.before x) → slice_get (slice_set ports buffer q) f.before.spec.buffer ≡ Some a → ChannelKept H seen c a
kept_from H note turns slots later ports buffer p q seen steps n c a f there kept at = elim (which_port ports buffer p q f.before.spec.buffer a there at) as (λ w. ChannelKept H seen c a) [
  | inl hit ↦
      let k : ChannelKept H seen f.before p = kept p (subst (λ (j : ℕ). slice_get ports j ≡ Some p) (sym hit.0) there) in
      let now : ChannelStands f.before.spec f.before.client (note f.before.stage) k.head q.own q.got seen = steps.kept n f.before f.there hit.0 k.head k.stands in
      subst (λ (x : Access). ChannelKept H seen c x) hit.1 (record { head = k.head; stands = rw (f.keeps.spec, f.keeps.client, f.hit hit.0) now; headed = λ opened is. k.headed opened (sym f.keeps.run ∙ is) })
  | inr miss ↦
      let k : ChannelKept H seen f.before a = kept a miss.1 in
      record { head = k.head; stands = rw (f.keeps.spec, f.keeps.client, f.miss miss.0) k.stands; headed = λ opened is. k.headed opened (sym f.keeps.run ∙ is) }
]

pub port_stepped : LeftBeside → (H : ChannelRun → FileHead → Type 0) (note : ChannelStage → ChannelStage) (turns : List MemberTurn) (slots later : List (Option Channel)) (ports : List Access) (buffer : ℕ) (p q : Access) (seen : Seen) → slice_get ports buffer ≡ Some p
    → StepsPort note turns slots later buffer p q seen → SlotsStand H turns slots ports seen → SlotsStand H turns later (slice_set ports buffer q) seen
port_stepped law H note turns slots later ports buffer p q seen there steps stands = record {
  many = omega (arith, steps.many, stands.many);
  numbered = λ n c stood. let f : IsFrom note slots buffer n c = steps.from n c stood in ap (λ (s : ChannelSpec). s.number) f.keeps.spec ∙ stands.numbered n f.before f.there;
  channels = λ n c a stood at.
      let f : IsFrom note slots buffer n c = steps.from n c stood in
      kept_from H note turns slots later ports buffer p q seen steps n c a f there (λ x at_x. stands.channels n f.before x f.there at_x) (subst (λ (s : ChannelSpec). slice_get (slice_set ports buffer q) s.buffer ≡ Some a) f.keeps.spec at);
  apart = λ n m c d differ first second.
      let f : IsFrom note slots buffer n c = steps.from n c first in
      let g : IsFrom note slots buffer m d = steps.from m d second in
      apart_from seen f.before g.before c d f.keeps g.keeps (stands.apart n m f.before g.before differ f.there g.there);
  calls = λ k a at. elim (which_port ports buffer p q k a there at) as (λ w. PortKept turns a.own) [
    | inl hit ↦ subst (λ (x : Access). PortKept turns x.own) hit.1 (steps.calls (stands.calls buffer p there))
    | inr miss ↦ stands.calls k a miss.1
  ];
  left = λ are stop ends tells n c a stood at.
      let f : IsFrom note slots buffer n c = steps.from n c stood in
      let at_before : slice_get (slice_set ports buffer q) f.before.spec.buffer ≡ Some a = subst (λ (s : ChannelSpec). slice_get (slice_set ports buffer q) s.buffer ≡ Some a) f.keeps.spec at in
      elim (which_port ports buffer p q f.before.spec.buffer a there at_before) as (λ w. ToldSo turns later seen n c a stop ends) [
        | inl hit ↦
            let so : ToldSo turns slots seen n f.before p stop ends = stands.left are stop ends tells n f.before p f.there (subst (λ (j : ℕ). slice_get ports j ≡ Some p) (sym hit.0) there) in
            subst (λ (x : Access). ToldSo turns later seen n c x stop ends) hit.1
            (told_from law note turns slots later buffer p q seen steps f.before c f.keeps p q steps.more steps.given steps.own steps.got n stop ends (steps.ended are stop ends tells) so)
        | inr miss ↦
            let so : ToldSo turns slots seen n f.before a stop ends = stands.left are stop ends tells n f.before a f.there miss.1 in
            told_from law note turns slots later buffer p q seen steps f.before c f.keeps a a [] [] (sym (append-nil a.own)) (sym (append-nil a.got)) n stop ends (λ e is. is) so
      ];
}
