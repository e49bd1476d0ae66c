-- What one channel of a buffer does where it opens a run leaves what another keeps.
use Rattle.std.specs.Prelude.{◌≡◌, ◌≢◌, ◌<◌, ℕ, true, false, IsTrue, List, [], ◌∷◌, ◌++◌, Option, Some, None, Result, Ok, Err, refl, ⊤}
use Rattle.std.proofs.Common.{arith, ap, sym, subst, ◌∙◌}
use Rattle.daq_types.specs.declared.runs.Kind.TheVariants.{All}
use Rattle.daq_types.specs.declared.runs.Order.{Order}
use Rattle.daq_types.specs.declared.runs.Why.{Why}
use Rattle.daq_types.specs.declared.runs.Why.TheVariants.{NotReady, Exists, Fault, BufferRefused}
use Rattle.daq_io.specs.Seen.{Seen, Creates, Same}
use Rattle.daq_io.proofs.SeenLaws.{on_same}
use Rattle.buffer_core.specs.declared.replies.NoSlot.{NoSlot}
use Rattle.buffer_core.specs.declared.replies.RequestRefusal.{RequestRefusal}
use Rattle.buffer_core.specs.declared.entry.BufferEntry.{BufferEntry}
use Rattle.buffer_core.specs.declared.entry.BufferEntry.TheVariants.{Attach, Request}
use Rattle.buffer_core.specs.Ports.{Access, GotEvent}
use Rattle.member_model.specs.OwnCalls.{calls_after, gave_number}
use Rattle.member_model.proofs.ReadLaws.{calls_after-push}
use Rattle.mid_logger.specs.declared.channel_spec.ChannelSpec.{ChannelSpec}
use Rattle.mid_logger.specs.declared.stage.ChannelRun.{ChannelRun}
use Rattle.mid_logger.specs.declared.stage.ChannelStage.{ChannelStage}
use Rattle.mid_logger.specs.declared.stage.ChannelStage.TheVariants.{Idle, Asking}
use Rattle.mid_logger.specs.Patterns.{file_name_by}
use Rattle.sub_files.specs.declared.open_file.OpenFile.{OpenFile}
use Rattle.sub_files.specs.Patterns.{piece_name_by}
use Rattle.mid_logger.specs.Channels.{FileHead, GivesEachOnce, IsOwnClient, ChannelStands, channel_run, written_run, files_by}
use Rattle.mid_logger.specs.RecordFiles.{IsGone, UndoesFile}
use Rattle.mid_logger.specs.ChannelTurns.{logger_name, HasClient, MakesRequest, AsksEvents, ChannelAt, StartsAsking, RefusesRun, OpensBy}
use Rattle.mid_logger.specs.Beside.{LeavesClient, ChannelsApart}
use Rattle.mid_logger.proofs.StageSteps.{leaves_run, call_beside, files_beside, made_there, last_used}
use Rattle.mid_logger.proofs.OpenSteps.{never_given, gave_now, once_asked}
use Rattle.mid_logger.proofs.FileMoves.{not_free}
use Rattle.mid_logger.proofs.Keeping.{not_gone}
use Rattle.mid_logger.proofs.BesideSteps.{OtherAt, run_leaves, changed_beside}

-- the clients of two channels differ
abbrev Differ : (client other : Option ℕ) → Type 0
Differ client other = (c d : ℕ) → client ≡ Some c → other ≡ Some d → c ≢ d

-- A client is attached.

leaves_attach : (other_client : Option ℕ) (n : ℕ) → ((d : ℕ) → other_client ≡ Some d → n ≢ d) → LeavesClient other_client (Attach logger_name (Ok n))
leaves_attach None n apart = tt
leaves_attach (Some d) n apart = apart d refl

leaves_no_attach : (other_client : Option ℕ) (why : NoSlot) → LeavesClient other_client (Attach logger_name (Err why))
leaves_no_attach None why = tt
leaves_no_attach (Some d) why = tt

new_differs : (own : List BufferEntry) (n : ℕ) (other_client : Option ℕ) → gave_number (calls_after [] own) n ≡ false → IsOwnClient other_client own → (d : ℕ) → other_client ≡ Some d → n ≢ d
new_differs own n other_client fresh is_own d is same =
    let gave : gave_number (calls_after [] own) d ≡ true = subst (λ (c : Option ℕ). IsOwnClient c own) is is_own in
    let never : true ≡ false = sym gave ∙ (ap (λ (k : ℕ). gave_number (calls_after [] own) k) (sym same) ∙ fresh) in
    cc (never)

-- what the attach leaves: the other channel stands, the clients differ, and the client is an own one
record Attached (spec : ChannelSpec) (later : Option ℕ) (b : Access) (other : ChannelSpec) (other_client : Option ℕ) (other_stage : ChannelStage) (other_head : FileHead) (seen : Seen) : Type 0 where
  stands : OtherAt other other_client other_stage other_head b seen
  differ : Differ later other_client
  is_own : IsOwnClient later b.own

attach_beside : (spec other : ChannelSpec) (client later other_client : Option ℕ) (other_stage : ChannelStage) (other_head : FileHead) (a b : Access) (seen : Seen) → HasClient client later a b → GivesEachOnce b.own → IsOwnClient client a.own → Differ client other_client
    → OtherAt other other_client other_stage other_head a seen → Attached spec later b other other_client other_stage other_head seen
attach_beside spec other (Some c) later other_client other_stage other_head a b seen has once is_own differ stands =
    record { stands = rw has.1 stands; differ = λ x d is other_is. differ x d (sym has.0 ∙ is) other_is; is_own = rw (has.0, has.1) is_own }
attach_beside spec other None (Some n) other_client other_stage other_head a b seen has once is_own differ stands =
    let attach : BufferEntry = Attach logger_name (Ok n) in
    let fresh : gave_number (calls_after [] a.own) n ≡ false = never_given a.own logger_name n stands.port (subst (λ (es : List BufferEntry). GivesEachOnce es) has.0.own once) in
    let apart = new_differs a.own n other_client fresh stands.own_client in
    let now : ChannelStands other other_client other_stage other_head (a.own ++ attach ∷ []) a.got seen = call_beside other other_client other_stage other_head a.own a.got seen attach stands tt tt (leaves_attach other_client n apart) (leaves_run other_stage attach tt) refl in
    let own_now : gave_number (calls_after [] (a.own ++ attach ∷ [])) n ≡ true = subst (λ (es : List BufferEntry). gave_number es n ≡ true) (sym (calls_after-push [] a.own attach)) (gave_now (calls_after [] a.own) logger_name n) in
    record {
      stands = rw (has.0.own, has.0.got_is) now;
      differ = λ x d is other_is. let same : n ≡ x = cc (is) in subst (λ (k : ℕ). k ≢ d) same (apart d other_is);
      is_own = rw has.0.own own_now;
    }
attach_beside spec other None None other_client other_stage other_head a b seen has once is_own differ stands = record {
  stands = rw (has.1.own, has.1.got_is) (call_beside other other_client other_stage other_head a.own a.got seen (Attach logger_name (Err has.0)) stands tt tt (leaves_no_attach other_client has.0) (leaves_run other_stage (Attach logger_name (Err has.0)) tt) refl);
  differ = λ x d is other_is. absurd (cc (is));
  is_own = tt;
}

-- Its request is made.

leaves_request : (other_client : Option ℕ) (c id mask : ℕ) (reply : Result ℕ RequestRefusal) → ((d : ℕ) → other_client ≡ Some d → c ≢ d) → LeavesClient other_client (Request c id mask All reply)
leaves_request None c id mask reply apart = tt
leaves_request (Some d) c id mask reply apart = apart d refl

request_beside : (spec other : ChannelSpec) (client request other_client : Option ℕ) (other_stage : ChannelStage) (other_head : FileHead) (a b : Access) (seen : Seen) → MakesRequest spec client request a b → IsOwnClient client a.own → Differ client other_client
    → OtherAt other other_client other_stage other_head a seen → OtherAt other other_client other_stage other_head b seen
request_beside spec other (Some c) (Some r) other_client other_stage other_head a b seen makes is_own differ stands =
    rw (makes.own, makes.got_is) (call_beside other other_client other_stage other_head a.own a.got seen (Request c spec.id spec.mask All (Ok r)) stands tt is_own (leaves_request other_client c spec.id spec.mask (Ok r) (λ d is. differ c d refl is)) (leaves_run other_stage (Request c spec.id spec.mask All (Ok r)) tt) refl)
request_beside spec other (Some c) None other_client other_stage other_head a b seen makes is_own differ stands =
    rw (makes.1.own, makes.1.got_is)
    (call_beside other other_client other_stage other_head a.own a.got seen (Request c spec.id spec.mask All (Err makes.0)) stands tt is_own (leaves_request other_client c spec.id spec.mask (Err makes.0) (λ d is. differ c d refl is)) (leaves_run other_stage (Request c spec.id spec.mask All (Err makes.0)) tt) refl)
request_beside spec other None (Some r) other_client other_stage other_head a b seen makes is_own differ stands = absurd makes
request_beside spec other None None other_client other_stage other_head a b seen makes is_own differ stands = rw makes stands

asks_beside : (spec other : ChannelSpec) (client later request other_client : Option ℕ) (other_stage : ChannelStage) (other_head : FileHead) (a b : Access) (seen : Seen) → AsksEvents spec client later request a b → GivesEachOnce b.own → IsOwnClient client a.own → Differ client other_client
    → OtherAt other other_client other_stage other_head a seen → OtherAt other other_client other_stage other_head b seen × Differ later other_client
asks_beside spec other client later request other_client other_stage other_head a b seen asks once is_own differ stands =
    let has = attach_beside spec other client later other_client other_stage other_head a asks.middle seen asks.attached (once_asked spec later request asks.middle b asks.asked once) is_own differ stands in
    (request_beside spec other later request other_client other_stage other_head asks.middle b seen asks.asked has.is_own has.differ has.stands, has.differ)

-- The files of the other channel.

-- a name that is free is none of those of the other channel's files
names_apart : (other : ChannelSpec) (client : Option ℕ) (stage : ChannelStage) (head : FileHead) (own : List BufferEntry) (got : List GotEvent) (seen : Seen) (name : List ℕ) → IsGone seen name → ChannelStands other client stage head own got seen
    → (s : ChannelRun) → channel_run stage ≡ Some s → IsTrue seen.names → (n : ℕ) → n < files_by stage → name ≢ piece_name_by other.pattern s.run n
names_apart other client stage head own got seen name gone stands s is told n below same =
    not_gone (seen.at (piece_name_by other.pattern s.run n)) (made_there other client stage head own got seen stands s is told n below) (subst (λ (m : List ℕ). seen.at m ≡ None) same (gone told))

numbers_apart : {seen new : Seen} {name bytes : List ℕ} {n : ℕ} (other : ChannelSpec) (client : Option ℕ) (stage : ChannelStage) (head : FileHead) (own : List BufferEntry) (got : List GotEvent) → Creates seen new name n bytes → ChannelStands other client stage head own got seen
    → (s : ChannelRun) → written_run stage ≡ Some s → n ≢ s.at.file
numbers_apart {seen} {new} {name} {bytes} {n} other client stage head own got creates stands s is same =
    not_free seen s.at.file n (last_used other client stage head own got seen stands s is).writes creates.was_free.writes (sym same)

-- A run is opened, or not.

undone_beside : {Rises : ℕ → ℕ → Type 0} (other : ChannelSpec) (client : Option ℕ) (stage : ChannelStage) (head : FileHead) (own : List BufferEntry) (got : List GotEvent) (old new : Seen) (name : List ℕ) (faults later : ℕ) → UndoesFile Rises old new name faults later
    → ChannelStands other client stage head own got old → ChannelStands other client stage head own got new
undone_beside other client stage head own got old new name faults later undoes stands =
    changed_beside other client stage head own got old new name undoes.touches undoes.on (names_apart other client stage head own got old name undoes.fresh stands) (λ s is. undoes.numbers s.at.file) stands

same_beside : (other : ChannelSpec) (client : Option ℕ) (stage : ChannelStage) (head : FileHead) (own : List BufferEntry) (got : List GotEvent) (old new : Seen) → Same old new → ChannelStands other client stage head own got old → ChannelStands other client stage head own got new
same_beside other client stage head own got old new same stands =
    files_beside other client stage head own got old new stands
    (run_leaves other old new (channel_run stage) (written_run stage) (files_by stage) same.files.names (on_same same.files.done) (λ s is told n below. same.files.at (piece_name_by other.pattern s.run n)) (λ s is. same.numbers s.at.file))

idle_apart : (seen : Seen) (spec : ChannelSpec) (client : Option ℕ) (stage : ChannelStage) (other : ChannelSpec) (other_client : Option ℕ) (other_stage : ChannelStage) → stage ≡ Idle → Differ client other_client → ChannelsApart seen spec client stage other other_client other_stage
idle_apart seen spec client stage other other_client other_stage idle differ = record {
  clients = differ;
  names = λ r s is other_is told i j below other_below. absurd (let never : None ≡ Some r = sym (ap (λ (x : ChannelStage). channel_run x) idle) ∙ is in cc (never));
  numbers = λ r s is other_is. absurd (let never : None ≡ Some r = sym (ap (λ (x : ChannelStage). written_run x) idle) ∙ is in cc (never));
}

refusal_beside : (spec other : ChannelSpec) (name : List ℕ) (why : Why) (a b : ChannelAt) (other_client : Option ℕ) (other_stage : ChannelStage) (other_head : FileHead) → RefusesRun why spec name a b → GivesEachOnce b.port.own → IsOwnClient a.client a.port.own → Differ a.client other_client
    → OtherAt other other_client other_stage other_head a.port a.files → OtherAt other other_client other_stage other_head b.port b.files × Differ b.client other_client
refusal_beside spec other name NotReady a b other_client other_stage other_head refuses once is_own differ stands = absurd refuses
refusal_beside spec other name (Exists channel) a b other_client other_stage other_head refuses once is_own differ stands = (
  rw refuses.1.port (same_beside other other_client other_stage other_head a.port.own a.port.got a.files b.files refuses.2 stands),
  λ c d is other_is. differ c d (sym refuses.1.client ∙ is) other_is,
)
refusal_beside spec other name (Fault channel) a b other_client other_stage other_head refuses once is_own differ stands = (
  rw refuses.1.port (undone_beside other other_client other_stage other_head a.port.own a.port.got a.files b.files name a.faults b.faults refuses.2 stands),
  λ c d is other_is. differ c d (sym refuses.1.client ∙ is) other_is,
)
refusal_beside spec other name BufferRefused a b other_client other_stage other_head refuses once is_own differ stands =
    let asks = asks_beside spec other a.client b.client None other_client other_stage other_head a.port b.port a.files refuses.0 once is_own differ stands in
    (undone_beside other other_client other_stage other_head b.port.own b.port.got a.files b.files name a.faults b.faults refuses.1 asks.0, asks.1)

-- the run that is opened is apart from the other channel's
opened_apart : (spec other : ChannelSpec) (order : Order) (a b : ChannelAt) (at : OpenFile) (bytes : List ℕ) (other_client : Option ℕ) (other_stage : ChannelStage) (other_head : FileHead) → Creates a.files b.files (file_name_by spec.pattern order.run) at.file bytes
    → at.sub ≡ 0 → (starts : StartsAsking spec order at a b) → Differ b.client other_client → OtherAt other other_client other_stage other_head a.port a.files → ChannelsApart b.files spec b.client b.stage other other_client other_stage
opened_apart spec other order a b at bytes other_client other_stage other_head creates first starts differ stands =
    let opened : ChannelRun = record { run = order.run; start = order.start; time = order.time; at = at; client = starts.client; request = starts.request } in
    let now : ChannelsApart b.files spec b.client (Asking opened) other other_client other_stage = record {
      clients = differ;
      names = λ r s is other_is told i j below other_below.
          let same : opened ≡ r = cc (is) in
          let none : 0 ≡ i = omega (arith, below, first) in
          subst (λ (n : ℕ). piece_name_by spec.pattern r.run n ≢ piece_name_by other.pattern s.run j) none
          (subst (λ (k : ChannelRun). file_name_by spec.pattern k.run ≢ piece_name_by other.pattern s.run j) same
          (names_apart other other_client other_stage other_head a.port.own a.port.got a.files (file_name_by spec.pattern order.run) creates.fresh stands s other_is (sym creates.touches.names ∙ told) j other_below));
      numbers = λ r s is other_is.
          let same : opened ≡ r = cc (is) in
          subst (λ (k : ChannelRun). k.at.file ≢ s.at.file) same (numbers_apart other other_client other_stage other_head a.port.own a.port.got creates stands s other_is);
    } in
    rw starts.stage now

pub opens_beside : (spec : ChannelSpec) (order : Order) (dump : List ℕ) (answer : Result ⊤ Why) (a b : ChannelAt) (head : FileHead) (other : ChannelSpec) (other_client : Option ℕ) (other_stage : ChannelStage) (other_head : FileHead) → OpensBy answer spec order dump a b
    → GivesEachOnce b.port.own → a.stage ≡ Idle → ChannelStands spec a.client a.stage head a.port.own a.port.got a.files → ChannelsApart a.files spec a.client a.stage other other_client other_stage → OtherAt other other_client other_stage other_head a.port a.files
    → OtherAt other other_client other_stage other_head b.port b.files × ChannelsApart b.files spec b.client b.stage other other_client other_stage
opens_beside spec order dump (Ok done) a b head other other_client other_stage other_head opens once idle at apart stands =
    let asks = asks_beside spec other a.client b.client (Some opens.asks.request) other_client other_stage other_head a.port b.port a.files opens.asks.asks once at.own_client apart.clients stands in (
      changed_beside other other_client other_stage other_head b.port.own b.port.got a.files b.files (file_name_by spec.pattern order.run) opens.makes.touches (on_same opens.makes.done)
          (names_apart other other_client other_stage other_head a.port.own a.port.got a.files (file_name_by spec.pattern order.run) opens.makes.fresh stands)
          (λ s is. opens.makes.others s.at.file (λ same. numbers_apart other other_client other_stage other_head a.port.own a.port.got opens.makes stands s is (sym same))) asks.0,
      opened_apart spec other order a b opens.at _ other_client other_stage other_head opens.makes (ap (λ (x : OpenFile). x.sub) opens.first) opens.asks asks.1 stands,
    )
opens_beside spec order dump (Err why) a b head other other_client other_stage other_head opens once idle at apart stands =
    let refused = refusal_beside spec other (file_name_by spec.pattern order.run) why a b other_client other_stage other_head opens.1 once at.own_client apart.clients stands in
    (refused.0, idle_apart b.files spec b.client b.stage other other_client other_stage (opens.0 ∙ idle) refused.1)
