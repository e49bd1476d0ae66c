-- What a channel keeps when it asks for the events of a run, and when that is refused.
use Rattle.std.specs.Prelude.{◌≡◌, ◌≤◌, ℕ, zero, suc, true, false, List, [], ◌∷◌, ◌++◌, length, slice_get, Option, Some, None, Result, Ok, Err, OnOk, OnErr, IfErr, IsErrOf, ◌⊎◌, ◌↔◌, refl, ⊤}
use Rattle.std.proofs.Common.{ap, sym, subst, ◌∙◌, inl, inr, arith, append_assoc}
use Rattle.std.proofs.lemmas.Bool.Decides.{eqb_tells}
use Rattle.std.proofs.lemmas.List.Elements.{All-nil}
use Rattle.daq_types.specs.declared.runs.Kind.TheVariants.{All}
use Rattle.daq_types.specs.declared.runs.Order.{Order}
use Rattle.daq_types.specs.declared.runs.Why.{Why}
use Rattle.daq_types.specs.declared.runs.Why.TheVariants.{NotReady, Exists, Fault, BufferRefused}
use Rattle.event.specs.Events.{record_limit}
use Rattle.event.specs.RunFile.{IsFileEvent}
use Rattle.daq_io.specs.declared.folder.NameRefused.{NameRefused}
use Rattle.daq_io.specs.declared.folder.NameRefused.TheVariants.{Exists as NameTaken, Missing, Failed}
use Rattle.daq_io.specs.Seen.{Seen}
use Rattle.buffer_core.specs.declared.replies.Received.TheVariants.{Got, Empty, NoClient, SmallBuf}
use Rattle.buffer_core.specs.declared.entry.BufferEntry.{BufferEntry}
use Rattle.buffer_core.specs.declared.entry.BufferEntry.TheVariants.{Attach, Detach, Request, Cancel, Send, SendInRun, Receive, Begin, Pause, Resume, End, Level, Accepted}
use Rattle.buffer_core.specs.Ports.{Access, GotEvent, Calls}
use Rattle.member_model.specs.OwnCalls.{calls_after, gave_number, IsOwnCall, AreOwnCalls, asks}
use Rattle.member_model.proofs.ReadLaws.{calls_after-push, asking_made}
use Rattle.mid_logger.specs.declared.channel_spec.ChannelSpec.{ChannelSpec}
use Rattle.mid_logger.specs.declared.stage.ChannelRun.{ChannelRun}
use Rattle.mid_logger.specs.declared.stage.ChannelStage.{ChannelStage}
use Rattle.mid_logger.specs.declared.stage.ChannelStage.TheVariants.{Idle, Asking}
use Rattle.mid_logger.specs.Patterns.{file_name_by}
use Rattle.sub_files.specs.declared.open_file.OpenFile.{OpenFile}
use Rattle.sub_files.specs.Patterns.{piece_name_by}
use Rattle.sub_files.specs.Pieces.{HoldsRun}
use Rattle.sub_files.specs.Rolls.{first_file}
use Rattle.sub_files.proofs.RunEnds.{begun_holds}
use Rattle.mid_logger.specs.Channels.{FileHead, KeepsOwnCalls, GivesEachOnce, FilesHold, ChannelStands, IsLastOpen, written_run, files_by, series_at}
use Rattle.mid_logger.specs.ChannelTurns.{logger_name, HasClient, MakesRequest, AsksEvents, ChannelAt, StartsAsking, RefusesRun, OpensBy, IsRefusalOf}
use Rattle.mid_logger.proofs.OwnSteps.{own_push, own_client_push, gave_stays}
use Rattle.mid_logger.proofs.StageSteps.{call_beside}

-- Numbers of clients.

-- an attach in a list of calls gave this number
abbrev IsGiven : List BufferEntry → (client : ℕ) → Type 0
IsGiven own n = (call : ℕ) × (name : List ℕ) × (slice_get own call ≡ Some (Attach name (Ok n)))

first_gives : (e : BufferEntry) (past es : List BufferEntry) (n : ℕ) → gave_number (e ∷ past) n ≡ true → (gave_number past n ≡ true) ⊎ IsGiven (e ∷ es) n
first_gives (Attach name (Ok m)) past es n gave = elim (eqb_tells m n) as (λ w. (gave_number past n ≡ true) ⊎ IsGiven (Attach name (Ok m) ∷ es) n) [
  | inl same ↦ inr (0, name, ap (λ (k : ℕ). Some (Attach name (Ok k))) same.1)
  | inr other ↦ inl (rw other.0 at gave)
]
first_gives (Attach name (Err why)) past es n gave = inl gave
first_gives (Detach c (Ok u)) past es n gave = inl gave
first_gives (Detach c (Err why)) past es n gave = inl gave
first_gives (Request c id mask kind (Ok m)) past es n gave = inl gave
first_gives (Request c id mask kind (Err why)) past es n gave = inl gave
first_gives (Cancel c m (Ok u)) past es n gave = inl gave
first_gives (Cancel c m (Err why)) past es n gave = inl gave
first_gives (Send stated e (Ok m)) past es n gave = inl gave
first_gives (Send stated e (Err why)) past es n gave = inl gave
first_gives (SendInRun start stated e (Ok m)) past es n gave = inl gave
first_gives (SendInRun start stated e (Err why)) past es n gave = inl gave
first_gives (Receive c room (Got place start)) past es n gave = inl gave
first_gives (Receive c room (Empty gate last)) past es n gave = inl gave
first_gives (Receive c room NoClient) past es n gave = inl gave
first_gives (Receive c room (SmallBuf need)) past es n gave = inl gave
first_gives (Begin start reply) past es n gave = inl gave
first_gives (Pause start reply) past es n gave = inl gave
first_gives (Resume start reply) past es n gave = inl gave
first_gives (End start reply) past es n gave = inl gave
first_gives (Level reply) past es n gave = inl gave
first_gives (Accepted reply) past es n gave = inl gave

given_among : (past own : List BufferEntry) (n : ℕ) → gave_number (calls_after past own) n ≡ true → (gave_number past n ≡ true) ⊎ IsGiven own n
given_among past [] n gave = inl gave
given_among past (e ∷ es) n gave = elim (given_among (e ∷ past) es n gave) as (λ w. (gave_number past n ≡ true) ⊎ IsGiven (e ∷ es) n) [
  | inl here ↦ first_gives e past es n here
  | inr later ↦ inr (suc later.0, later.1, later.2)
]

own_before : (past own : List BufferEntry) → AreOwnCalls (calls_after past own) → AreOwnCalls past
own_before past [] own = own
own_before past (e ∷ es) own = (own_before (e ∷ past) es own).1

none_detached : (past own : List BufferEntry) (i c : ℕ) → AreOwnCalls (calls_after past own) → slice_get own i ≡ Some (Detach c (Ok tt)) → ⊥
none_detached past [] i c own is = cc (is)
none_detached past (e ∷ es) zero c own is =
    let same : e ≡ Detach c (Ok tt) = cc (is) in
    subst (λ (x : BufferEntry). IsOwnCall x past) same ((own_before (e ∷ past) es own).0)
none_detached past (e ∷ es) (suc i) c own is = none_detached (e ∷ past) es i c own is

-- what holds of calls and more holds of these calls
pub once_before : (own more : List BufferEntry) → GivesEachOnce (own ++ more) → GivesEachOnce own
once_before own more once before after name client call whole given =
    once before (after ++ more) name client call (ap (λ (l : List BufferEntry). l ++ more) whole ∙ append_assoc before (Attach name (Ok client) ∷ after) more) given

-- a number that the last attach gives was given by none before, where the calls give each client once
pub never_given : (own : List BufferEntry) (name : List ℕ) (n : ℕ) → KeepsOwnCalls own → GivesEachOnce (own ++ Attach name (Ok n) ∷ []) → gave_number (calls_after [] own) n ≡ false
never_given own name n keeps once =
    elim (gave_number (calls_after [] own) n) as (λ w. gave_number (calls_after [] own) n ≡ w → w ≡ false) [
      | true ↦ λ gave. elim (given_among [] own n gave) as (λ w. true ≡ false) [
        | inl never ↦ sym never
        | inr given ↦ absurd (once own [] name n given.0 refl (record { name = given.1; given = given.2; stays = λ later behind is. none_detached [] own later n keeps.own_calls is }))
      ]
      | false ↦ λ gave. refl
    ] refl

asks_same : (e : BufferEntry) (past : List BufferEntry) (c n : ℕ) → IsOwnCall e past → gave_number past c ≡ false → asks (e ∷ past) c n ≡ asks past c n
asks_same (Request r id mask kind (Ok m)) past c n own none = elim (eqb_tells r c) as (λ w. asks (Request r id mask kind (Ok m) ∷ past) c n ≡ asks past c n) [
  | inl same ↦ absurd (let never : true ≡ false = sym own ∙ (ap (λ (k : ℕ). gave_number past k) same.1 ∙ none) in cc (never))
  | inr other ↦ rw other.0 refl
]
asks_same (Cancel r m reply) past c n own none = elim (eqb_tells r c) as (λ w. asks (Cancel r m reply ∷ past) c n ≡ asks past c n) [
  | inl same ↦ absurd (let never : true ≡ false = sym own ∙ (ap (λ (k : ℕ). gave_number past k) same.1 ∙ none) in cc (never))
  | inr other ↦ rw other.0 refl
]
asks_same e past c n own none = refl

not_before : (e : BufferEntry) (past : List BufferEntry) (c : ℕ) → gave_number (e ∷ past) c ≡ false → gave_number past c ≡ false
not_before e past c none =
    elim (gave_number past c) as (λ w. gave_number past c ≡ w → w ≡ false) [
      | true ↦ λ gave. sym (gave_stays e past c gave) ∙ none
      | false ↦ λ gave. refl
    ] refl

-- a client that no attach gave asks for nothing
unasked : (past : List BufferEntry) (c n : ℕ) → AreOwnCalls past → gave_number past c ≡ false → asks past c n ≡ false
unasked [] c n own none = refl
unasked (e ∷ es) c n own none =
    let before : gave_number es c ≡ false = not_before e es c none in
    asks_same e es c n own.0 before ∙ unasked es c n own.1 before

-- A client is attached.

pub gave_now : (past : List BufferEntry) (name : List ℕ) (n : ℕ) → gave_number (Attach name (Ok n) ∷ past) n ≡ true
gave_now past name n = elim (eqb_tells n n) as (λ w. gave_number (Attach name (Ok n) ∷ past) n ≡ true) [
  | inl same ↦ rw same.0 refl
  | inr other ↦ absurd (other.1 refl)
]

pub attach_kept : (spec : ChannelSpec) (client later : Option ℕ) (a b : Access) (head : FileHead) (seen : Seen) → HasClient client later a b → GivesEachOnce b.own → ChannelStands spec client Idle head a.own a.got seen → ChannelStands spec later Idle head b.own b.got seen
attach_kept spec (Some c) later a b head seen has once stands = rw (has.0, has.1) stands
attach_kept spec None (Some n) a b head seen has once stands =
    let attach : BufferEntry = Attach logger_name (Ok n) in
    let fresh : gave_number (calls_after [] a.own) n ≡ false = never_given a.own logger_name n stands.port (subst (λ (es : List BufferEntry). GivesEachOnce es) has.0.own once) in
    let now : ChannelStands spec (Some n) Idle head (a.own ++ attach ∷ []) a.got seen = record {
      port = own_push a.own attach stands.port tt tt;
      own_client = subst (λ (es : List BufferEntry). gave_number es n ≡ true) (sym (calls_after-push [] a.own attach)) (gave_now (calls_after [] a.own) logger_name n);
      at = λ k. subst (λ (es : List BufferEntry). asks es n k ≡ false) (sym (calls_after-push [] a.own attach)) (unasked (calls_after [] a.own) n k stands.port.own_calls fresh);
    } in
    rw (has.0.own, has.0.got_is) now
attach_kept spec None None a b head seen has once stands =
    rw (has.1.own, has.1.got_is) (call_beside spec None Idle head a.own a.got seen (Attach logger_name (Err has.0)) stands tt tt tt tt refl)

-- Its request is made.

no_request_kept : (spec : ChannelSpec) (client : Option ℕ) (a b : Access) (head : FileHead) (seen : Seen) → MakesRequest spec client None a b → ChannelStands spec client Idle head a.own a.got seen → ChannelStands spec client Idle head b.own b.got seen
no_request_kept spec (Some c) a b head seen makes stands =
    let request : BufferEntry = Request c spec.id spec.mask All (Err makes.0) in
    let now : ChannelStands spec (Some c) Idle head (a.own ++ request ∷ []) a.got seen = record {
      port = own_push a.own request stands.port tt stands.own_client;
      own_client = own_client_push (Some c) a.own request stands.own_client;
      at = λ k. subst (λ (es : List BufferEntry). asks es c k ≡ false) (sym (calls_after-push [] a.own request)) (stands.at k);
    } in
    rw (makes.1.own, makes.1.got_is) now
no_request_kept spec None a b head seen makes stands = rw makes stands

pub once_asked : (spec : ChannelSpec) (client request : Option ℕ) (a b : Access) → MakesRequest spec client request a b → GivesEachOnce b.own → GivesEachOnce a.own
once_asked spec (Some c) (Some r) a b makes once = once_before a.own (Request c spec.id spec.mask All (Ok r) ∷ []) (subst (λ (es : List BufferEntry). GivesEachOnce es) makes.own once)
once_asked spec (Some c) None a b makes once = once_before a.own (Request c spec.id spec.mask All (Err makes.0) ∷ []) (subst (λ (es : List BufferEntry). GivesEachOnce es) makes.1.own once)
once_asked spec None (Some r) a b makes once = absurd makes
once_asked spec None None a b makes once = subst (λ (x : Access). GivesEachOnce x.own) makes once

refused_kept : (spec : ChannelSpec) (client later : Option ℕ) (a b : Access) (head : FileHead) (seen : Seen) → AsksEvents spec client later None a b → GivesEachOnce b.own → ChannelStands spec client Idle head a.own a.got seen → ChannelStands spec later Idle head b.own b.got seen
refused_kept spec client later a b head seen asks once stands =
    no_request_kept spec later asks.middle b head seen asks.asked (attach_kept spec client later a asks.middle head seen asks.attached (once_asked spec later None asks.middle b asks.asked once) stands)

asking_kept : (spec : ChannelSpec) (order : Order) (at : OpenFile) (a b : ChannelAt) (before head : FileHead) (seen : Seen) (starts : StartsAsking spec order at a b) → GivesEachOnce b.port.own
    → FilesHold spec head seen (record { run = order.run; start = order.start; time = order.time; at = at; client = starts.client; request = starts.request }) [] → ChannelStands spec a.client Idle before a.port.own a.port.got seen
    → ChannelStands spec b.client b.stage head b.port.own b.port.got seen
asking_kept spec order at a b before head seen starts once holds stands =
    let opened : ChannelRun = record { run = order.run; start = order.start; time = order.time; at = at; client = starts.client; request = starts.request } in
    let middle : Access = starts.asks.middle in
    let request : BufferEntry = Request starts.client spec.id spec.mask All (Ok starts.request) in
    let has : ChannelStands spec b.client Idle before middle.own middle.got seen =
    attach_kept spec a.client b.client a.port middle before seen starts.asks.attached (once_asked spec b.client (Some starts.request) middle b.port starts.asks.asked once) stands in
    let idle : ChannelStands spec (Some starts.client) Idle before middle.own middle.got seen = subst (λ (c : Option ℕ). ChannelStands spec c Idle before middle.own middle.got seen) starts.client_is has in
    let calls : Calls middle b.port request = subst (λ (c : Option ℕ). MakesRequest spec c (Some starts.request) middle b.port) starts.client_is starts.asks.asked in
    let now : ChannelStands spec (Some starts.client) (Asking opened) head (middle.own ++ request ∷ []) middle.got seen = record {
      port = own_push middle.own request idle.port tt idle.own_client;
      own_client = own_client_push (Some starts.client) middle.own request idle.own_client;
      at = record { of = refl; asking = asking_made middle.own starts.client spec.id spec.mask starts.request order.start idle.at; holds = holds };
    } in
    rw (starts.stage, starts.client_is, calls.own, calls.got_is) now

-- A run is opened, or not.

-- the begin record of a run
abbrev pub head_of : Order → (dump : List ℕ) → FileHead
head_of order dump = record { run = order.run; time = order.time; dump = dump }

abbrev StandsAt : ChannelSpec → ChannelAt → FileHead → Type 0
StandsAt spec a head = ChannelStands spec a.client a.stage head a.port.own a.port.got a.files

idle_elsewhere : (spec : ChannelSpec) (client : Option ℕ) (head other : FileHead) (own : List BufferEntry) (got : List GotEvent) (seen later : Seen) → ChannelStands spec client Idle head own got seen → ChannelStands spec client Idle other own got later
idle_elsewhere spec client head other own got seen later stands = record { port = stands.port; own_client = stands.own_client; at = stands.at }

pub opened_kept : (spec : ChannelSpec) (order : Order) (dump : List ℕ) (r : Result ⊤ Why) (a b : ChannelAt) → OpensBy r spec order dump a b → a.stage ≡ Idle → length dump ≤ record_limit
    → OnOk r ((before : FileHead) → GivesEachOnce b.port.own → StandsAt spec a before → StandsAt spec b (head_of order dump))
opened_kept spec order dump (Err why) a b opens idle small = tt
opened_kept spec order dump (Ok u) a b opens idle small = λ before once stands.
    let first : HoldsRun b.files (series_at spec (head_of order dump)) (first_file dump opens.at.file) [] =
    begun_holds a.files b.files spec.pattern spec.sub_bytes (record { run = order.run; time = order.time }) dump opens.at.file opens.within small opens.makes in
    let at_idle : ChannelStands spec a.client Idle before a.port.own a.port.got a.files = subst (λ (s : ChannelStage). ChannelStands spec a.client s before a.port.own a.port.got a.files) idle stands in
    asking_kept spec order opens.at a b before (head_of order dump) b.files opens.asks once
    (record { run = refl; time = refl; fine = All-nil IsFileEvent; holds = subst (λ (x : OpenFile). HoldsRun b.files (series_at spec (head_of order dump)) x []) (sym opens.first) first })
    (idle_elsewhere spec a.client before before a.port.own a.port.got a.files b.files at_idle)

refusal_kept : (spec : ChannelSpec) (name : List ℕ) (why : Why) (a b : ChannelAt) (head : FileHead) → RefusesRun why spec name a b → GivesEachOnce b.port.own → ChannelStands spec a.client Idle head a.port.own a.port.got a.files
    → ChannelStands spec b.client Idle head b.port.own b.port.got b.files
refusal_kept spec name NotReady a b head refuses once stands = absurd refuses
refusal_kept spec name (Exists channel) a b head refuses once stands = rw (refuses.1.client, refuses.1.port) (idle_elsewhere spec a.client head head a.port.own a.port.got a.files b.files stands)
refusal_kept spec name (Fault channel) a b head refuses once stands = rw (refuses.1.client, refuses.1.port) (idle_elsewhere spec a.client head head a.port.own a.port.got a.files b.files stands)
refusal_kept spec name BufferRefused a b head refuses once stands =
    refused_kept spec a.client b.client a.port b.port head b.files refuses.0 once (idle_elsewhere spec a.client head head a.port.own a.port.got a.files b.files stands)

pub not_opened_kept : (spec : ChannelSpec) (order : Order) (dump : List ℕ) (r : Result ⊤ Why) (a b : ChannelAt) → OpensBy r spec order dump a b → a.stage ≡ Idle → OnErr r ((head : FileHead) → GivesEachOnce b.port.own → StandsAt spec a head → StandsAt spec b head)
not_opened_kept spec order dump (Ok u) a b opens idle = tt
not_opened_kept spec order dump (Err why) a b opens idle = λ head once stands.
    let at_idle : ChannelStands spec a.client Idle head a.port.own a.port.got a.files = subst (λ (s : ChannelStage). ChannelStands spec a.client s head a.port.own a.port.got a.files) idle stands in
    rw (opens.0, idle) (refusal_kept spec (file_name_by spec.pattern order.run) why a b head opens.1 once at_idle)

-- the file of the run that was opened is in use for writing, under its name
pub opened_file : (spec : ChannelSpec) (order : Order) (dump : List ℕ) (r : Result ⊤ Why) (a b : ChannelAt) → OpensBy r spec order dump a b → a.stage ≡ Idle → IsLastOpen b.files spec (written_run b.stage)
opened_file spec order dump (Ok u) a b opens idle =
    let first : opens.at.sub ≡ 0 = ap (λ (x : OpenFile). x.sub) opens.first in
    rw opens.asks.stage (record {
      writes = opens.makes.writes;
      named = opens.makes.named ∙ ap (λ (n : ℕ). piece_name_by spec.pattern order.run n) (sym first);
      few = omega (arith, first);
    })
opened_file spec order dump (Err why) a b opens idle = rw (opens.0, idle) tt

-- a run that was opened has one file
pub opened_few : (spec : ChannelSpec) (order : Order) (dump : List ℕ) (r : Result ⊤ Why) (a b : ChannelAt) → OpensBy r spec order dump a b → a.stage ≡ Idle → files_by b.stage ≤ 10000
opened_few spec order dump (Ok u) a b opens idle =
    let first : opens.at.sub ≡ 0 = ap (λ (x : OpenFile). x.sub) opens.first in
    rw opens.asks.stage (omega (arith, first))
opened_few spec order dump (Err why) a b opens idle = rw (opens.0, idle) (omega arith)

-- Whether the name was taken.

-- a run whose file was begun is not refused for its name
pub begun_not_taken : {T : Type 0} (r : Result ⊤ Why) (file : T) (channel : ℕ) (Taken : Type 0) → IfErr r (λ why. why ≡ BufferRefused) → (IsErrOf (Ok file) NameTaken ↔ Taken) → IsErrOf r (Exists channel) ↔ Taken
begun_not_taken (Ok u) file channel Taken why taken = (λ is. absurd (cc (is)), λ has. absurd (let never = taken.1 has in cc (never)))
begun_not_taken (Err x) file channel Taken why taken = (
  λ is. absurd (let refused : x ≡ Exists channel = cc (is) in let never : BufferRefused ≡ Exists channel = sym why ∙ refused in cc (never)),
  λ has. absurd (let never = taken.1 has in cc (never)),
)

-- a run whose file could not be begun is refused for its name exactly where that was why
pub refused_taken : {T : Type 0} (why : NameRefused) (channel : ℕ) (answer : Why) (Taken : Type 0) → IsRefusalOf why channel answer → (IsErrOf {T = T} (Err why) NameTaken ↔ Taken) → IsErrOf {T = ⊤} (Err answer) (Exists channel) ↔ Taken
refused_taken NameTaken channel answer Taken is taken = (λ same. taken.0 refl, λ has. ap (λ (w : Why). Err w) is)
refused_taken Missing channel answer Taken is taken = absurd is
refused_taken Failed channel answer Taken is taken = (
  λ same. absurd (let refused : answer ≡ Exists channel = cc (same) in let never : Fault channel ≡ Exists channel = sym is ∙ refused in cc (never)),
  λ has. absurd (let never = taken.1 has in cc (never)),
)
