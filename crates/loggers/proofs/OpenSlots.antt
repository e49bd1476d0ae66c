-- What stands where one channel after another opens a run.
use Rattle.std.specs.Prelude.{◌≡◌, ◌≢◌, ◌≤◌, ◌<◌, ◌+◌, ℕ, zero, suc, Bool, true, false, IsTrue, IsSome, List, [], length, slice_get, slice_set, Option, Some, None, Result, Ok, Err, ⊤, refl}
use Rattle.std.proofs.Common.{ap, sym, subst, ◌∙◌, arith, inl, inr}
use Rattle.std.proofs.lemmas.List.{length-set}
use Rattle.daq_types.specs.declared.runs.Order.{Order}
use Rattle.daq_types.specs.declared.runs.Why.{Why}
use Rattle.event.specs.Events.{record_limit}
use Rattle.daq_io.specs.Seen.{Seen}
use Rattle.buffer_core.specs.Ports.{Access}
use Rattle.buffer_core.specs.Slots.{slot_at}
use Rattle.member_model.specs.Turns.{MemberTurn}
use Rattle.mid_logger.specs.declared.channel.Channel.{Channel}
use Rattle.mid_logger.specs.declared.channel_spec.ChannelSpec.{ChannelSpec}
use Rattle.mid_logger.specs.declared.stage.ChannelRun.{ChannelRun}
use Rattle.mid_logger.specs.declared.stage.ChannelStage.{ChannelStage}
use Rattle.mid_logger.specs.declared.stage.ChannelStage.TheVariants.{Idle}
use Rattle.sub_files.specs.declared.open_file.OpenFile.{OpenFile}
use Rattle.sub_files.specs.Patterns.{piece_name_by}
use Rattle.sub_files.specs.RecordFiles.{IsGone}
use Rattle.mid_logger.specs.Patterns.{file_name_by}
use Rattle.mid_logger.specs.Channels.{FileHead, GivesEachOnce, channel_run, written_run, files_by as files_made}
use Rattle.mid_logger.specs.Beside.{LeavesRunFiles, FilesBeside, OpensBeside, LeftBeside}
use Rattle.mid_logger.specs.Keeping.{OpensRunFile, OpensKeep, OpensAlone, OpensChange, FilesThere, order_head}
use Rattle.loggers.specs.Moments.{LoggerMoment, ChannelStep, StepsChannel, StepsSlot, HaveFilesOpen, IsLoggerReady}
use Rattle.loggers.specs.ChannelSteps.{OpensChannel}
use Rattle.loggers.specs.Turning.{OpensBelow, RefusesOpen}
use Rattle.loggers.specs.NewLoggers.{GiveEachOnce}
use Rattle.loggers.specs.LoggerStands.{ChannelKept, SlotsStand}
use Rattle.loggers.proofs.SlotLists.{same_or_other, one_changed, got_there}
use Rattle.loggers.proofs.ReadySteps.{last_used, used_apart, open_fresh, opened_ready}
use Rattle.loggers.proofs.Moved.{Moves, moved}
use Rattle.loggers.proofs.PullMoves.{GrowsOn, IsThere, all_there, grown_on, port_grown, apart_on, number_left}
use Rattle.loggers.proofs.OpenMoves.{IsOrderHead, open_client, open_grows, not_new, there_stays}
use Rattle.loggers.proofs.MarkMoves.{IsAskingStage}
use Rattle.loggers.proofs.GivenOnce.{once_opened, once_opened_slot}

-- One channel.

-- the channel that opened the run writes its first file, of which there was none, and found no name taken
record IsMade (order : Order) (spec : ChannelSpec) (old : Seen) (stage : ChannelStage) (opened : ChannelRun) : Type 0 where
  start : opened.start ≡ order.start
  gone : IsGone old (file_name_by spec.pattern opened.run)
  one : files_made stage ≡ 1
  untaken : opened.at.taken ≡ false

open_made : (order : Order) (dump : List ℕ) (r : Result ⊤ Why) (s : ChannelStep) → OpensChannel order dump r s → s.before.stage ≡ Idle → (o : ChannelRun) → channel_run s.after.stage ≡ Some o → IsMade order s.before.spec s.files.seen s.after.stage o
open_made order dump (Ok done) s opens idle o is =
    let made : ChannelRun = record { run = order.run; start = order.start; time = order.time; at = opens.opens.at; client = opens.opens.asks.client; request = opens.opens.asks.request } in
    let at_stage : channel_run s.after.stage ≡ Some made = ap (λ (x : ChannelStage). channel_run x) opens.opens.asks.stage in
    let both : Some made ≡ Some o = sym at_stage ∙ is in
    let same : made ≡ o = cc (both) in
    let first : opens.opens.at.sub ≡ 0 = ap (λ (x : OpenFile). x.sub) opens.opens.first in
    let many : files_made s.after.stage ≡ opens.opens.at.sub + 1 = ap (λ (x : ChannelStage). files_made x) opens.opens.asks.stage in
    let now : IsMade order s.before.spec s.files.seen s.after.stage made = record {
      start = refl;
      gone = opens.opens.makes.fresh;
      one = omega (arith, first, many);
      untaken = ap (λ (x : OpenFile). x.taken) opens.opens.first;
    } in
    subst (λ (k : ChannelRun). IsMade order s.before.spec s.files.seen s.after.stage k) same now
open_made order dump (Err why) s opens idle o is = absurd (let never : None ≡ Some o = sym (ap (λ (x : ChannelStage). channel_run x) (opens.opens.0 ∙ idle)) ∙ is in cc (never))

-- the channel itself, behind the opening or its refusal
open_self : OpensKeep → (order : Order) (dump : List ℕ) (r : Result ⊤ Why) (s : ChannelStep) → OpensChannel order dump r s → s.before.stage ≡ Idle → length dump ≤ record_limit → GivesEachOnce s.later_port.own
    → ChannelKept (IsOrderHead order dump) s.files.seen s.before s.port → ChannelKept (IsOrderHead order dump) s.later_files.seen s.after s.later_port
open_self keep order dump (Ok done) s opens idle small once k =
    let both = keep s.before.spec order dump (Ok done) _ _ k.head opens.opens idle small once k.stands in
    record {
      head = order_head order dump;
      stands = rw opens.spec both.0;
      headed = λ o is. ((open_made order dump (Ok done) s opens idle o is).start, refl);
    }
open_self keep order dump (Err why) s opens idle small once k =
    let both = keep s.before.spec order dump (Err why) _ _ k.head opens.opens idle small once k.stands in
    record {
      head = k.head;
      stands = rw opens.spec both.1;
      headed = λ o is. absurd (let never : None ≡ Some o = sym (ap (λ (x : ChannelStage). channel_run x) (opens.opens.0 ∙ idle)) ∙ is in cc (never));
    }

-- the files of another channel stay
open_leaves : (spec : ChannelSpec) (run written : Option ChannelRun) (many : ℕ) (fresh : List ℕ) (old new : Seen) → OpensRunFile fresh old new → ((s : ChannelRun) → run ≡ Some s → IsTrue old.names → (j : ℕ) → j < many → IsSome (old.at (piece_name_by spec.pattern s.run j)))
    → ((s : ChannelRun) → written ≡ Some s → IsTrue (old.writes s.at.file)) → LeavesRunFiles spec run written many old new
open_leaves spec None written many fresh old new opens there used = tt
open_leaves spec (Some s) written many fresh old new opens there used = record {
  told = opens.touches.names;
  on = opens.on;
  at = λ told n below. there_stays old new fresh (piece_name_by spec.pattern s.run n) opens told (there s refl told n below);
  number = number_left old new written (λ k is. opens.numbers k.at.file (used k is));
}

-- the opening of a run by one channel, or its refusal, as a step among all channels
pub open_moves : OpensKeep → OpensAlone → OpensChange → FilesThere → OpensBeside → FilesBeside → (order : Order) (dump : List ℕ) (r : Result ⊤ Why) (turns : List MemberTurn) (slots : List (Option Channel)) (ports : List Access) (n : ℕ) (s : ChannelStep) → slot_at slots n ≡ Some s.before
    → slice_get ports s.before.spec.buffer ≡ Some s.port → ((m : ℕ) (d : Channel) → slot_at slots m ≡ Some d → d.spec.buffer < length ports) → s.before.stage ≡ Idle → length dump ≤ record_limit → GivesEachOnce s.later_port.own → HaveFilesOpen slots s.files.seen
    → SlotsStand (IsOrderHead order dump) turns slots ports s.files.seen → OpensChannel order dump r s → Moves (IsOrderHead order dump) turns slots n s.before s.after s.port s.later_port s.files.seen s.later_files.seen
open_moves keep alone change file_there beside files order dump r turns slots ports n s there at_port served idle small once open_files stands opens =
    let old : Seen = s.files.seen in
    let new : Seen = s.later_files.seen in
    let before : Channel = s.before in
    let H : ChannelRun → FileHead → Type 0 = IsOrderHead order dump in
    let name : List ℕ = file_name_by before.spec.pattern order.run in
    let file : OpensRunFile name old new = (change before.spec order dump r _ _ opens.opens).0 in
    let grows : GrowsOn s.port s.later_port = open_grows before.spec order dump r _ _ opens.opens in
    let kept : ChannelKept H old before s.port = stands.channels n before s.port there at_port in
    let now : ChannelKept H new s.after s.later_port = open_self keep order dump r s opens idle small once kept in
    let used : (m : ℕ) (d : Channel) → slot_at slots m ≡ Some d → (o : ChannelRun) → written_run d.stage ≡ Some o → IsTrue (old.writes o.at.file) = λ m d stood o is. last_used d.spec old (written_run d.stage) (open_files.files m d stood) o is in
    let is_there : (m : ℕ) (d : Channel) → slot_at slots m ≡ Some d → IsThere old d = all_there file_there H turns slots ports old served stands in
    -- a file that is there is not the one that was made
    let no_new : (other : List ℕ) → IsTrue old.names → IsSome (old.at other) → (o : ChannelRun) → channel_run s.after.stage ≡ Some o → (i : ℕ) → i < files_made s.after.stage → other ≢ piece_name_by s.after.spec.pattern o.run i =
    λ other told here o is i low. (
    let made : IsMade order before.spec old s.after.stage o = open_made order dump r s opens idle o is in
    let first : i ≡ 0 = omega (arith, low, made.one) in
    λ same. not_new old (file_name_by before.spec.pattern o.run) other made.gone told here
    (same ∙ (ap (λ (k : ℕ). piece_name_by s.after.spec.pattern o.run k) first ∙ ap (λ (x : ChannelSpec). piece_name_by x.pattern o.run 0) opens.spec))) in
    record {
      spec = opens.spec;
      client = λ k is. open_client before.spec order dump r _ _ k opens.opens is;
      names = file.touches.names;
      on = file.on;
      self = λ k. open_self keep order dump r s opens idle small once k;
      beside = λ m d other stood same b k. record {
        head = k.head;
        stands = (beside before.spec order dump r _ _ b.head d.spec d.client d.stage k.head opens.opens once idle b.stands (apart_on old before d (sym same) (stands.apart n m before d (λ e. other (sym e)) there stood)) k.stands).0;
        headed = k.headed;
      };
      elsewhere = λ m d a other stood k. record {
        head = k.head;
        stands = files d.spec d.client d.stage k.head a.own a.got old new k.stands (open_leaves d.spec (channel_run d.stage) (written_run d.stage) (files_made d.stage) name old new file (is_there m d stood) (used m d stood));
        headed = k.headed;
      };
      apart = λ m d other stood was. record {
        clients = λ same.
            let on_buffer : before.spec.buffer ≡ d.spec.buffer = ap (λ (x : ChannelSpec). x.buffer) (sym opens.spec) ∙ same in
            let k : ChannelKept H old d s.port = stands.channels m d s.port stood (subst (λ (j : ℕ). slice_get ports j ≡ Some s.port) on_buffer at_port) in
            (beside before.spec order dump r _ _ kept.head d.spec d.client d.stage k.head opens.opens once idle kept.stands (apart_on old before d on_buffer was) k.stands).1.clients;
        names = λ o q is other_is told i j low below same.
            let told_before : IsTrue old.names = subst (λ (b : Bool). IsTrue b) file.touches.names told in
            no_new (piece_name_by d.spec.pattern q.run j) told_before (is_there m d stood q other_is told_before j below) o is i low (sym same);
        numbers = λ o q is other_is. used_apart old o.at.file q.at.file (open_fresh order dump r s opens idle o is) (used m d stood q other_is);
      };
      calls = λ calls. port_grown turns s.port s.later_port grows now.stands.port (alone before.spec order dump r _ _ kept.head opens.opens idle once kept.stands) calls;
      grows = grown_on s.port s.later_port grows;
      left = λ other told stays. (there_stays old new name other file told stays.there, λ o is i low. no_new other told stays.there o is i low);
    }

-- All channels.

-- no channel found a name taken in the run that it has
abbrev pub FoundNone : List (Option Channel) → Type 0
FoundNone slots = (n : ℕ) → (c : Channel) → (o : ChannelRun) → slot_at slots n ≡ Some c → channel_run c.stage ≡ Some o → IsTrue o.at.taken → ⊥

-- The channels with numbers below this opened the run, and the others are idle.
pub record OpenedTo (order : Order) (dump : List ℕ) (turns : List MemberTurn) (many wide k : ℕ) (m : LoggerMoment) : Type 0 where
  pub standing : SlotsStand (IsOrderHead order dump) turns m.slots m.ports m.files.seen
  pub ready : IsLoggerReady m.slots m.ports m.files.seen
  pub long : length m.slots ≡ many
  pub ports : length m.ports ≡ wide
  pub done : (n : ℕ) → (c : Channel) → slot_at m.slots n ≡ Some c → n < k → IsAskingStage order.start c.stage
  pub idle : (n : ℕ) → (c : Channel) → slot_at m.slots n ≡ Some c → k ≤ n → c.stage ≡ Idle
  pub found : FoundNone m.slots

-- what stands behind the step of one channel
open_stepped : LeftBeside → OpensKeep → OpensAlone → OpensChange → FilesThere → OpensBeside → FilesBeside → (order : Order) (dump : List ℕ) (r : Result ⊤ Why) (turns : List MemberTurn) (n : ℕ) (before : Channel) (a b : LoggerMoment) → slot_at a.slots n ≡ Some before → before.stage ≡ Idle
    → length dump ≤ record_limit → GiveEachOnce b.ports → IsLoggerReady a.slots a.ports a.files.seen → StepsChannel (OpensChannel order dump r) n before a b → SlotsStand (IsOrderHead order dump) turns a.slots a.ports a.files.seen
    → SlotsStand (IsOrderHead order dump) turns b.slots b.ports b.files.seen
open_stepped law keep alone change file_there beside files order dump r turns n before a b there idle small once ready s stands =
    let step : ChannelStep = record { before = before; after = s.after; port = s.port; later_port = s.later_port; files = a.files; later_files = b.files } in
    let put : slice_get (slice_set a.ports before.spec.buffer s.later_port) before.spec.buffer ≡ Some s.later_port = got_there a.ports before.spec.buffer s.port s.later_port s.at_port in
    let at_last : slice_get b.ports before.spec.buffer ≡ Some s.later_port = subst (λ (l : List Access). slice_get l before.spec.buffer ≡ Some s.later_port) (sym s.ports) put in
    let moves : Moves (IsOrderHead order dump) turns a.slots n before s.after s.port s.later_port a.files.seen b.files.seen =
    open_moves keep alone change file_there beside files order dump r turns a.slots a.ports n step there s.at_port ready.served idle small (once before.spec.buffer s.later_port at_last) ready.files stands s.step in
    rw (s.slots, s.ports) (moved law (IsOrderHead order dump) turns a.slots a.ports n before s.after s.port s.later_port a.files.seen b.files.seen there s.at_port moves stands)

untaken_now : (order : Order) (dump : List ℕ) (s : ChannelStep) → OpensChannel order dump (Ok tt) s → s.before.stage ≡ Idle → (o : ChannelRun) → channel_run s.after.stage ≡ Some o → IsTrue o.at.taken → ⊥
untaken_now order dump s opens idle o is taken = let never : true ≡ false = sym taken ∙ (open_made order dump (Ok tt) s opens idle o is).untaken in cc (never)

asks_now : (order : Order) (dump : List ℕ) (s : ChannelStep) → OpensChannel order dump (Ok tt) s → IsAskingStage order.start s.after.stage
asks_now order dump s opens = subst (λ (x : ChannelStage). IsAskingStage order.start x) (sym opens.opens.asks.stage) refl

opened_slot : LeftBeside → OpensKeep → OpensAlone → OpensChange → FilesThere → OpensBeside → FilesBeside → (order : Order) (dump : List ℕ) (turns : List MemberTurn) (many wide k : ℕ) (slot : Option Channel) (a b : LoggerMoment) → slot_at a.slots k ≡ slot → length dump ≤ record_limit → GiveEachOnce b.ports
    → StepsSlot (OpensChannel order dump (Ok tt)) k slot a b → OpenedTo order dump turns many wide k a → OpenedTo order dump turns many wide (suc k) b
opened_slot law keep alone change file_there beside files order dump turns many wide k None a b there small once same to =
    let now : OpenedTo order dump turns many wide (suc k) a = record {
      standing = to.standing;
      ready = to.ready;
      long = to.long;
      ports = to.ports;
      done = λ n c stood below. elim (same_or_other n k) as (λ w. IsAskingStage order.start c.stage) [
        | inl is ↦ absurd (let never : None ≡ Some c = sym there ∙ subst (λ (j : ℕ). slot_at a.slots j ≡ Some c) is stood in cc (never))
        | inr other ↦ to.done n c stood (omega arith)
      ];
      idle = λ n c stood above. to.idle n c stood (omega arith);
      found = to.found;
    } in
    subst (λ (m : LoggerMoment). OpenedTo order dump turns many wide (suc k) m) (sym same) now
opened_slot law keep alone change file_there beside files order dump turns many wide k (Some before) a b there small once s to =
    let idle : before.stage ≡ Idle = to.idle k before there (omega arith) in
    let now : OpenedTo order dump turns many wide (suc k) (record { slots = slice_set a.slots k (Some s.after); ports = b.ports; files = b.files }) = record {
      standing = rw (← s.slots) (open_stepped law keep alone change file_there beside files order dump (Ok tt) turns k before a b there idle small once to.ready s to.standing);
      ready = rw (← s.slots) (opened_ready change order dump (Ok tt) k before a b there idle s to.ready);
      long = length-set a.slots k (Some s.after) ∙ to.long;
      ports = ap (λ (l : List Access). length l) s.ports ∙ (length-set a.ports before.spec.buffer s.later_port ∙ to.ports);
      done = λ n c stood. one_changed (λ j x. j < suc k → IsAskingStage order.start x.stage) a.slots k s.after (λ x here below. asks_now order dump _ s.step)
          (λ j x other here below. to.done j x here (omega arith)) before there n c stood;
      idle = λ n c stood. one_changed (λ j x. suc k ≤ j → x.stage ≡ Idle) a.slots k s.after (λ x here above. absurd (omega arith))
          (λ j x other here above. to.idle j x here (omega arith)) before there n c stood;
      found = λ n c o stood. one_changed (λ j x. channel_run x.stage ≡ Some o → IsTrue o.at.taken → ⊥) a.slots k s.after (λ x here. untaken_now order dump _ s.step idle o) (λ j x other here. to.found j x o here) before there n c stood;
    } in
    subst (λ (l : List (Option Channel)). OpenedTo order dump turns many wide (suc k) (record { slots = l; ports = b.ports; files = b.files })) (sym s.slots) now

pub opened_below : LeftBeside → OpensKeep → OpensAlone → OpensChange → FilesThere → OpensBeside → FilesBeside → (order : Order) (dump : List ℕ) (turns : List MemberTurn) (many wide count : ℕ) (a b : LoggerMoment) → length dump ≤ record_limit → GiveEachOnce b.ports → OpensBelow order dump count a b
    → OpenedTo order dump turns many wide 0 a → OpenedTo order dump turns many wide count b
opened_below law keep alone change file_there beside files order dump turns many wide zero a b small once steps to = subst (λ (m : LoggerMoment). OpenedTo order dump turns many wide 0 m) (sym steps) to
opened_below law keep alone change file_there beside files order dump turns many wide (suc n) a b small once steps to =
    let middle : LoggerMoment = steps.0 in
    opened_slot law keep alone change file_there beside files order dump turns many wide n (slot_at middle.slots n) middle b refl small once steps.2
    (opened_below law keep alone change file_there beside files order dump turns many wide n a middle small (once_opened_slot order dump (Ok tt) n (slot_at middle.slots n) middle b steps.2 once) steps.1 to)

-- What stands where a channel refused to open the run; and the calls have what they need.
pub record StandsRefused (H : ChannelRun → FileHead → Type 0) (turns : List MemberTurn) (m : LoggerMoment) : Type 0 where
  pub standing : SlotsStand H turns m.slots m.ports m.files.seen
  pub ready : IsLoggerReady m.slots m.ports m.files.seen

-- where a channel refuses to open the run
pub open_refused : LeftBeside → OpensKeep → OpensAlone → OpensChange → FilesThere → OpensBeside → FilesBeside → (order : Order) (dump : List ℕ) (why : Why) (turns : List MemberTurn) (many wide : ℕ) (a b : LoggerMoment) → length dump ≤ record_limit → GiveEachOnce b.ports → RefusesOpen order dump why a b
    → OpenedTo order dump turns many wide 0 a → StandsRefused (IsOrderHead order dump) turns b
open_refused law keep alone change file_there beside files order dump why turns many wide a b small once refuses to =
    let n : ℕ = refuses.number in
    let to_here : OpenedTo order dump turns many wide n refuses.opened =
    opened_below law keep alone change file_there beside files order dump turns many wide n a refuses.opened small (once_opened order dump (Err why) n refuses.channel refuses.opened b refuses.refuses once) refuses.opens to in
    let idle : refuses.channel.stage ≡ Idle = to_here.idle n refuses.channel refuses.there (omega arith) in
    record {
      standing = open_stepped law keep alone change file_there beside files order dump (Err why) turns n refuses.channel refuses.opened b refuses.there idle small once to_here.ready refuses.refuses to_here.standing;
      ready = opened_ready change order dump (Err why) n refuses.channel refuses.opened b refuses.there idle refuses.refuses to_here.ready;
    }
