-- Each step keeps that the logger sends nothing on its ports, and names only clients that its own attach there gave: the calls.
use Rattle.std.specs.Prelude.{◌≡◌, ◌==◌, ℕ, Bool, true, false, if◌then◌else◌, nat_lt, List, [], ◌∷◌, ◌++◌, Option, Some, None, Result, Ok, Err, ⊤, refl}
use Rattle.std.specs.Option.{option_map}
use Rattle.std.proofs.Common.{ap, sym, subst, ◌∙◌, inl, inr}
use Rattle.std.proofs.lemmas.Bool.{eqb-false}
use Rattle.daq_types.specs.declared.events.Event.{Event}
use Rattle.daq_types.specs.declared.runs.Order.{Order}
use Rattle.daq_types.specs.declared.runs.Why.{Why}
use Rattle.daq_types.specs.declared.runs.Why.TheVariants.{NotReady, Exists, Fault, BufferRefused}
use Rattle.buffer_core.specs.declared.entry.BufferEntry.{BufferEntry}
use Rattle.buffer_core.specs.declared.entry.BufferEntry.TheVariants.{Attach}
use Rattle.buffer_core.specs.declared.replies.Received.{Received}
use Rattle.buffer_core.specs.declared.replies.Received.TheVariants.{Got, Empty, NoClient, SmallBuf}
use Rattle.buffer_core.specs.Points.{News, Nothing as NoNews, Attached, Detached, Requested, Cancelled, Taken, Gave, Drained as FoundNone, news_of}
use Rattle.buffer_core.specs.Ports.{Access, GotEvent, PortCalled, Calls}
use Rattle.buffer_core.proofs.SlotLaws.{split}
use Rattle.member_model.specs.SentCalls.{EachCall}
use Rattle.member_model.specs.OwnCalls.{calls_after, gives_after, gave_number, IsOwnCall, AreOwnCalls, SendsNone}
use Rattle.mid_logger.specs.declared.channel_spec.ChannelSpec.{ChannelSpec}
use Rattle.mid_logger.specs.declared.pulled.Pulled.{Pulled}
use Rattle.sub_files.specs.declared.open_file.Fallen.{Fallen}
use Rattle.sub_files.specs.declared.open_file.OpenFile.{OpenFile}
use Rattle.mid_logger.specs.declared.stage.BegunRun.{BegunRun}
use Rattle.mid_logger.specs.declared.stage.ChannelRun.{ChannelRun}
use Rattle.mid_logger.specs.declared.stage.ChannelStage.{ChannelStage}
use Rattle.mid_logger.specs.declared.stage.ChannelStage.TheVariants.{Idle, Asking, Writing, Draining, Drained, Broken}
use Rattle.mid_logger.specs.Channels.{KeepsOwnCalls, IsOwnClient, CancelsRequest, reading_run, is_behind_end, stage_at, stage_begun, stage_ended}
use Rattle.mid_logger.specs.Pulls.{PullOf, LeavesAll, DrainsClient, TakesBy, FindsNone, TakesReply, PullsIn, Pulls, drains_at_none}
use Rattle.mid_logger.specs.ChannelTurns.{ChannelAt, HasClient, MakesRequest, AsksEvents, RefusesRun, OpensBy, asking_run, logger_name}
use Rattle.mid_logger.specs.ChannelEnds.{CancelsStanding, stage_settled}

-- One call more.

calls_more : (past own : List BufferEntry) (e : BufferEntry) → calls_after past (own ++ e ∷ []) ≡ e ∷ calls_after past own
calls_more past [] e = refl
calls_more past (x ∷ xs) e = calls_more (x ∷ past) xs e

each_more : (P : BufferEntry → Type 0) (own : List BufferEntry) (e : BufferEntry) → EachCall P own → P e → EachCall P (own ++ e ∷ [])
each_more P [] e each here = (here, tt)
each_more P (x ∷ xs) e each here = (each.0, each_more P xs e each.1 here)

pub own_more : (a b : Access) (entry : BufferEntry) (got : List GotEvent) → PortCalled a b entry got → SendsNone entry → IsOwnCall entry (calls_after [] a.own) → KeepsOwnCalls a.own → KeepsOwnCalls b.own
own_more a b entry got called sends own kept =
    let now : KeepsOwnCalls (a.own ++ entry ∷ []) = record {
      sends_none = each_more SendsNone a.own entry kept.sends_none sends;
      own_calls = subst (λ (l : List BufferEntry). AreOwnCalls l) (sym (calls_more [] a.own entry)) (own, kept.own_calls);
    } in
    subst (λ (l : List BufferEntry). KeepsOwnCalls l) (sym called.own) now

still_given : (news : News) (client : ℕ) (before : Bool) → before ≡ true → gives_after news client before ≡ true
still_given NoNews client before is = is
still_given (Attached n) client before is = by_hit (n == client)
  where
    by_hit : (hit : Bool) → (if hit then true else before) ≡ true
    by_hit true = refl
    by_hit false = is
still_given (Detached n) client before is = is
still_given (Requested n number id mask kind) client before is = is
still_given (Cancelled n number) client before is = is
still_given (Taken sent) client before is = is
still_given (Gave n place) client before is = is
still_given (FoundNone n) client before is = is

pub client_still : (client : Option ℕ) (a b : Access) (entry : BufferEntry) (got : List GotEvent) → PortCalled a b entry got → IsOwnClient client a.own → IsOwnClient client b.own
client_still None a b entry got called own = tt
client_still (Some n) a b entry got called own =
    let now : gave_number (calls_after [] (a.own ++ entry ∷ [])) n ≡ true = subst (λ (l : List BufferEntry). gave_number l n ≡ true) (sym (calls_more [] a.own entry)) (still_given (news_of entry) n (gave_number (calls_after [] a.own) n) own) in
    subst (λ (l : List BufferEntry). gave_number (calls_after [] l) n ≡ true) (sym called.own) now

client_given : (a b : Access) (n : ℕ) → Calls a b (Attach logger_name (Ok n)) → IsOwnClient (Some n) b.own
client_given a b n called =
    let given : gave_number (Attach logger_name (Ok n) ∷ calls_after [] a.own) n ≡ true =
    split (n == n) (λ (hit : Bool). (if hit then true else gave_number (calls_after [] a.own) n) ≡ true) (λ same. refl) (λ other. absurd (eqb-false n n other refl)) in
    let now : gave_number (calls_after [] (a.own ++ Attach logger_name (Ok n) ∷ [])) n ≡ true = subst (λ (l : List BufferEntry). gave_number l n ≡ true) (sym (calls_more [] a.own (Attach logger_name (Ok n)))) given in
    subst (λ (l : List BufferEntry). gave_number (calls_after [] l) n ≡ true) (sym called.own) now

-- What a step leaves of its port, for the channel and for the others.

pub record PortOwned (later : Option ℕ) (p q : Access) : Type 0 where
  pub calls : KeepsOwnCalls q.own
  pub client : IsOwnClient later q.own
  pub others : (c : Option ℕ) → IsOwnClient c p.own → IsOwnClient c q.own

owned_same : (client : Option ℕ) (p q : Access) → q ≡ p → KeepsOwnCalls p.own → IsOwnClient client p.own → PortOwned client p q
owned_same client p q same kept own =
    let now : PortOwned client p p = record { calls = kept; client = own; others = λ c given. given } in
    subst (λ (x : Access). PortOwned client p x) (sym same) now

owned_call : (client : Option ℕ) (p q : Access) (entry : BufferEntry) (got : List GotEvent) → PortCalled p q entry got → SendsNone entry → IsOwnCall entry (calls_after [] p.own) → KeepsOwnCalls p.own → IsOwnClient client p.own → PortOwned client p q
owned_call client p q entry got called sends call kept own = record {
  calls = own_more p q entry got called sends call kept;
  client = client_still client p q entry got called own;
  others = λ c given. client_still c p q entry got called given;
}

owned_then : (middle later : Option ℕ) (p q r : Access) → PortOwned middle p q → PortOwned later q r → PortOwned later p r
owned_then middle later p q r first second = record {
  calls = second.calls;
  client = second.client;
  others = λ c given. second.others c (first.others c given);
}

-- The request that stands is the client's.
abbrev pub AsksFor : (client : Option ℕ) → ChannelStage → Type 0
AsksFor client stage = (opened : ChannelRun) → asking_run stage ≡ Some opened → client ≡ Some opened.client

-- A channel that asks for its events.

client_owned : (client later : Option ℕ) (a b : Access) → HasClient client later a b → KeepsOwnCalls a.own → IsOwnClient client a.own → PortOwned later a b
client_owned (Some n) later a b has kept own = subst (λ (l : Option ℕ). PortOwned l a b) (sym has.0) (owned_same (Some n) a b has.1 kept own)
client_owned None (Some n) a b has kept own = record {
  calls = own_more a b _ _ has.0 tt tt kept;
  client = client_given a b n has.0;
  others = λ c given. client_still c a b _ _ has.0 given;
}
client_owned None None a b has kept own = owned_call None a b _ _ has.1 tt tt kept tt

client_stays : (client later : Option ℕ) (a b : Access) → HasClient client later a b → (n : ℕ) → client ≡ Some n → later ≡ Some n
client_stays (Some m) later a b has n is = has.0 ∙ is
client_stays None (Some m) a b has n is = absurd (cc (is))
client_stays None None a b has n is = is

request_owned : (spec : ChannelSpec) (client request : Option ℕ) (a b : Access) → MakesRequest spec client request a b → KeepsOwnCalls a.own → IsOwnClient client a.own → PortOwned client a b
request_owned spec (Some n) (Some request) a b made kept own = owned_call (Some n) a b _ _ made tt own kept own
request_owned spec (Some n) None a b made kept own = owned_call (Some n) a b _ _ made.1 tt own kept own
request_owned spec None (Some request) a b made kept own = absurd made
request_owned spec None None a b made kept own = owned_same None a b made kept tt

asks_owned : (spec : ChannelSpec) (client later request : Option ℕ) (a b : Access) → AsksEvents spec client later request a b → KeepsOwnCalls a.own → IsOwnClient client a.own → PortOwned later a b
asks_owned spec client later request a b asks kept own =
    let first : PortOwned later a asks.middle = client_owned client later a asks.middle asks.attached kept own in
    owned_then later later a asks.middle b first (request_owned spec later request asks.middle b asks.asked first.calls first.client)

refusal_owned : (spec : ChannelSpec) (name : List ℕ) (why : Why) (a b : ChannelAt) → RefusesRun why spec name a b → KeepsOwnCalls a.port.own → IsOwnClient a.client a.port.own
    → PortOwned b.client a.port b.port × ((n : ℕ) → a.client ≡ Some n → b.client ≡ Some n)
refusal_owned spec name NotReady a b refuses kept own = absurd refuses
refusal_owned spec name (Exists channel) a b refuses kept own =
    (subst (λ (l : Option ℕ). PortOwned l a.port b.port) (sym refuses.1.client) (owned_same a.client a.port b.port refuses.1.port kept own), λ n is. refuses.1.client ∙ is)
refusal_owned spec name (Fault channel) a b refuses kept own =
    (subst (λ (l : Option ℕ). PortOwned l a.port b.port) (sym refuses.1.client) (owned_same a.client a.port b.port refuses.1.port kept own), λ n is. refuses.1.client ∙ is)
refusal_owned spec name BufferRefused a b refuses kept own =
    (asks_owned spec a.client b.client None a.port b.port refuses.0 kept own, λ n is. client_stays a.client b.client a.port refuses.0.middle refuses.0.attached n is)

pub opens_owned : (spec : ChannelSpec) (order : Order) (dump : List ℕ) (r : Result ⊤ Why) (a b : ChannelAt) → OpensBy r spec order dump a b → KeepsOwnCalls a.port.own → IsOwnClient a.client a.port.own → AsksFor a.client a.stage
    → PortOwned b.client a.port b.port × AsksFor b.client b.stage
opens_owned spec order dump (Ok done) a b opens kept own asks = (
  asks_owned spec a.client b.client (Some opens.asks.request) a.port b.port opens.asks.asks kept own,
  λ opened is.
      let both : asking_run (Asking (record { run = order.run; start = order.start; time = order.time; at = opens.at; client = opens.asks.client; request = opens.asks.request })) ≡ Some opened = sym (ap (λ (s : ChannelStage). asking_run s) opens.asks.stage) ∙ is in
      opens.asks.client_is ∙ ap (λ (o : Option ChannelRun). option_map (λ (r : ChannelRun). r.client) o) both,
)
opens_owned spec order dump (Err why) a b opens kept own asks =
    let refused = refusal_owned spec _ why a b opens.1 kept own in
    (refused.0, λ opened is. refused.1 opened.client (asks opened (sym (ap (λ (s : ChannelStage). asking_run s) opens.0) ∙ is)))

-- A request that is cancelled.

cancel_owned : (client : Option ℕ) (opened : ChannelRun) (a b : Access) → CancelsRequest a b opened → KeepsOwnCalls a.own → IsOwnClient client a.own → client ≡ Some opened.client → PortOwned client a b
cancel_owned client opened a b cancels kept own is =
    let mine : IsOwnClient (Some opened.client) a.own = subst (λ (l : Option ℕ). IsOwnClient l a.own) is own in
    owned_call client a b _ _ cancels.1 tt mine kept own

pub cancels_owned : (client : Option ℕ) (standing : Option ChannelRun) (a b : Access) → CancelsStanding standing a b → KeepsOwnCalls a.own → IsOwnClient client a.own → ((opened : ChannelRun) → standing ≡ Some opened → client ≡ Some opened.client) → PortOwned client a b
cancels_owned client None a b cancels kept own asks = owned_same client a b cancels kept own
cancels_owned client (Some opened) a b cancels kept own asks = cancel_owned client opened a b cancels kept own (asks opened refl)

-- A pull.

abbrev PullOwned : (client : Option ℕ) → PullOf → Type 0
PullOwned client p = PortOwned client p.port p.later_port × AsksFor client p.later_stage

reading_asks : (stage : ChannelStage) (run : BegunRun) → reading_run stage ≡ Some run → asking_run stage ≡ Some run.opened
reading_asks Idle run is = absurd (cc (is))
reading_asks (Asking opened) run is = absurd (cc (is))
reading_asks (Writing opened begun) run is = ap (λ (o : Option BegunRun). option_map (λ (r : BegunRun). r.opened) o) is
reading_asks (Draining r) run is = ap (λ (o : Option BegunRun). option_map (λ (r : BegunRun). r.opened) o) is
reading_asks (Drained r) run is = absurd (cc (is))
reading_asks (Broken r fallen) run is = absurd (cc (is))

stage_as_was : (client : Option ℕ) (stage later : ChannelStage) → later ≡ stage → AsksFor client stage → AsksFor client later
stage_as_was client stage later same asks = subst (λ (s : ChannelStage). AsksFor client s) (sym same) asks

none_asked : (client : Option ℕ) → AsksFor client Idle
none_asked client opened is = absurd (cc (is))

drained_asks : (client : Option ℕ) (run : BegunRun) → AsksFor client (Drained run)
drained_asks client run opened is = absurd (cc (is))

broken_asks : (client : Option ℕ) (run : BegunRun) (fallen : Fallen) → AsksFor client (Broken run fallen)
broken_asks client run fallen opened is = absurd (cc (is))

-- whichever file is written
written_asks : (client : Option ℕ) (stage : ChannelStage) (at : OpenFile) → AsksFor client stage → AsksFor client (stage_at stage at)
written_asks client Idle at asks opened is = asks opened is
written_asks client (Asking run) at asks opened is = asks opened is
written_asks client (Writing run begun) at asks opened is = (let same : record run { at = at } ≡ opened = cc (is) in asks run refl ∙ ap (λ (r : ChannelRun). Some r.client) same)
written_asks client (Draining run) at asks opened is = (let same : record run.opened { at = at } ≡ opened = cc (is) in asks run.opened refl ∙ ap (λ (r : ChannelRun). Some r.client) same)
written_asks client (Drained run) at asks opened is = asks opened is
written_asks client (Broken run fallen) at asks opened is = asks opened is

leaves_owned : (p : PullOf) (client : Option ℕ) (answer : Pulled) → LeavesAll p answer → KeepsOwnCalls p.port.own → IsOwnClient client p.port.own → AsksFor client p.stage → PullOwned client p
leaves_owned p client answer leaves kept own asks = (owned_same client p.port p.later_port leaves.port kept own, stage_as_was client p.stage p.later_stage leaves.stage asks)

drains_owned : (p : PullOf) (client : Option ℕ) (run : BegunRun) (answer : Pulled) → DrainsClient p run answer → client ≡ Some run.opened.client → KeepsOwnCalls p.port.own → IsOwnClient client p.port.own → PullOwned client p
drains_owned p client run answer drains is kept own =
    (cancel_owned client run.opened p.port p.later_port drains.port kept own is, stage_as_was client (Drained run) p.later_stage drains.stage (drained_asks client run))

takes_owned : (p : PullOf) (client : Option ℕ) (run : BegunRun) (place : ℕ) (e : Event) (behind early : Bool) → TakesBy behind early p run place e → client ≡ Some run.opened.client → KeepsOwnCalls p.port.own → IsOwnClient client p.port.own → AsksFor client p.stage → PullOwned client p
takes_owned p client run place e true early takes is kept own asks = drains_owned p client run _ takes is kept own
takes_owned p client run place e false true takes is kept own asks = leaves_owned p client _ takes kept own asks
takes_owned p client run place e false false takes is kept own asks = elim takes as (λ w. PullOwned client p) [
  | inl writes ↦ (owned_same client p.port p.later_port writes.port kept own, stage_as_was client (stage_at p.stage writes.at) p.later_stage writes.stage (written_asks client p.stage writes.at asks))
  | inr breaks ↦ (cancel_owned client run.opened p.port p.later_port breaks.port kept own is, stage_as_was client (Broken run breaks.fallen) p.later_stage breaks.stage (broken_asks client run breaks.fallen))
]

none_owned : (p : PullOf) (client : Option ℕ) (run : BegunRun) (drains : Bool) → FindsNone drains p run → client ≡ Some run.opened.client → KeepsOwnCalls p.port.own → IsOwnClient client p.port.own → AsksFor client p.stage → PullOwned client p
none_owned p client run true found is kept own asks = drains_owned p client run _ found is kept own
none_owned p client run false found is kept own asks = leaves_owned p client _ found kept own asks

reply_owned : (p : PullOf) (client : Option ℕ) (run : BegunRun) (reply : Received) (e : Event) → TakesReply p run reply e → client ≡ Some run.opened.client → KeepsOwnCalls p.port.own → IsOwnClient client p.port.own → AsksFor client p.stage → PullOwned client p
reply_owned p client run (Got place start) e taken is kept own asks = takes_owned p client run place e (is_behind_end run.ended place) (nat_lt place run.begun) taken is kept own asks
reply_owned p client run (Empty gate last) e taken is kept own asks = none_owned p client run (drains_at_none p.stage) taken is kept own asks
reply_owned p client run NoClient e taken is kept own asks = leaves_owned p client _ taken kept own asks
reply_owned p client run (SmallBuf need) e taken is kept own asks = absurd taken

pulls_in_owned : (p : PullOf) (room : ℕ) (client : Option ℕ) (reads : Option BegunRun) → reading_run p.stage ≡ reads → PullsIn reads p room → KeepsOwnCalls p.port.own → IsOwnClient client p.port.own → AsksFor client p.stage → PullOwned client p
pulls_in_owned p room client None reads pulls kept own asks = leaves_owned p client _ pulls kept own asks
pulls_in_owned p room client (Some run) reads pulls kept own asks =
    let is : client ≡ Some run.opened.client = asks run.opened (reading_asks p.stage run reads) in
    let mine : IsOwnClient (Some run.opened.client) p.port.own = subst (λ (l : Option ℕ). IsOwnClient l p.port.own) is own in
    let first : PortOwned client p.port pulls.middle = owned_call client p.port pulls.middle _ _ pulls.received tt mine kept own in
    let rest = reply_owned (record p { port = pulls.middle }) client run pulls.reply pulls.event pulls.taken is first.calls first.client asks in
    (owned_then client client p.port pulls.middle p.later_port first rest.0, rest.1)

pub pulls_owned : (p : PullOf) (room : ℕ) (client : Option ℕ) → Pulls p room → KeepsOwnCalls p.port.own → IsOwnClient client p.port.own → AsksFor client p.stage → PortOwned client p.port p.later_port × AsksFor client p.later_stage
pulls_owned p room client pulls kept own asks = pulls_in_owned p room client (reading_run p.stage) refl pulls kept own asks

-- Stages that are noted.

pub begun_asks : (place : ℕ) (stage : ChannelStage) → asking_run (stage_begun stage place) ≡ asking_run stage
begun_asks place Idle = refl
begun_asks place (Asking opened) = refl
begun_asks place (Writing opened begun) = refl
begun_asks place (Draining run) = refl
begun_asks place (Drained run) = refl
begun_asks place (Broken run fallen) = refl

pub ended_asks : (ended : Option ℕ) (stage : ChannelStage) → asking_run (stage_ended stage ended) ≡ asking_run stage
ended_asks ended Idle = refl
ended_asks ended (Asking opened) = refl
ended_asks ended (Writing opened begun) = refl
ended_asks ended (Draining run) = refl
ended_asks ended (Drained run) = refl
ended_asks ended (Broken run fallen) = refl

pub settled_asks : (stage : ChannelStage) → asking_run (stage_settled stage) ≡ asking_run stage
settled_asks Idle = refl
settled_asks (Asking opened) = refl
settled_asks (Writing opened begun) = refl
settled_asks (Draining run) = refl
settled_asks (Drained run) = refl
settled_asks (Broken run fallen) = refl
