-- What the opening of a run by one channel is to the others, or its refusal.
use Rattle.std.specs.Prelude.{◌≡◌, ◌≢◌, ℕ, IsTrue, IsSome, List, [], ◌∷◌, Option, Some, None, Result, Ok, Err, ⊤}
use Rattle.std.proofs.Common.{ap, sym, subst, ◌∙◌, inl, inr}
use Rattle.std.proofs.lemmas.List.{append-nil}
use Rattle.daq_types.specs.declared.runs.Kind.TheVariants.{All}
use Rattle.daq_types.specs.declared.runs.Order.{Order}
use Rattle.daq_types.specs.declared.runs.Why.{Why}
use Rattle.daq_types.specs.declared.runs.Why.TheVariants.{NotReady, Exists, Fault, BufferRefused}
use Rattle.daq_io.specs.Seen.{Seen, Stored}
use Rattle.buffer_core.specs.declared.entry.BufferEntry.{BufferEntry}
use Rattle.buffer_core.specs.declared.entry.BufferEntry.TheVariants.{Attach, Request}
use Rattle.buffer_core.specs.Ports.{Access, Calls}
use Rattle.mid_logger.specs.declared.channel_spec.ChannelSpec.{ChannelSpec}
use Rattle.mid_logger.specs.declared.stage.ChannelRun.{ChannelRun}
use Rattle.mid_logger.specs.Channels.{FileHead}
use Rattle.mid_logger.specs.ChannelTurns.{ChannelAt, logger_name, HasClient, MakesRequest, AsksEvents, RefusesRun, OpensBy}
use Rattle.sub_files.specs.RecordFiles.{IsGone}
use Rattle.mid_logger.specs.Keeping.{OpensRunFile, order_head}
use Rattle.loggers.proofs.PullMoves.{EndsNone, GrowsOn, grows_same, grows_both}

-- The head of a file while its run is being opened on one channel after another: that of the order.
abbrev pub IsOrderHead : Order → (dump : List ℕ) → ChannelRun → FileHead → Type 0
IsOrderHead order dump opened head = (opened.start ≡ order.start) × (head ≡ order_head order dump)

-- The client stays, once there is one.

client_stays : (client later : Option ℕ) (a b : Access) (k : ℕ) → HasClient client later a b → client ≡ Some k → later ≡ Some k
client_stays (Some client) later a b k has is = has.0 ∙ is
client_stays None later a b k has is = absurd (cc (is))

refusal_client : (spec : ChannelSpec) (name : List ℕ) (why : Why) (a b : ChannelAt) (k : ℕ) → RefusesRun why spec name a b → a.client ≡ Some k → b.client ≡ Some k
refusal_client spec name NotReady a b k refuses is = absurd refuses
refusal_client spec name (Exists channel) a b k refuses is = refuses.1.client ∙ is
refusal_client spec name (Fault channel) a b k refuses is = refuses.1.client ∙ is
refusal_client spec name BufferRefused a b k refuses is = client_stays a.client b.client a.port refuses.0.middle k refuses.0.attached is

pub open_client : (spec : ChannelSpec) (order : Order) (dump : List ℕ) (r : Result ⊤ Why) (a b : ChannelAt) (k : ℕ) → OpensBy r spec order dump a b → a.client ≡ Some k → b.client ≡ Some k
open_client spec order dump (Ok done) a b k opens is = client_stays a.client b.client a.port opens.asks.asks.middle k opens.asks.asks.attached is
open_client spec order dump (Err why) a b k opens is = refusal_client spec _ why a b k opens.1 is

-- The port: an attach and a request end no run.

called_grows : (x y : Access) (entry : BufferEntry) → Calls x y entry → EndsNone entry → GrowsOn x y
called_grows x y entry calls quiet = record { more = entry ∷ []; given = []; own = calls.own; got = calls.got_is ∙ sym (append-nil x.got); quiet = (quiet, tt) }

client_grows : (client later : Option ℕ) (a b : Access) → HasClient client later a b → GrowsOn a b
client_grows (Some client) later a b has = grows_same a b has.1
client_grows None (Some client) a b has = called_grows a b (Attach logger_name (Ok client)) has.0 tt
client_grows None None a b has = called_grows a b (Attach logger_name (Err has.0)) has.1 tt

request_grows : (spec : ChannelSpec) (client request : Option ℕ) (a b : Access) → MakesRequest spec client request a b → GrowsOn a b
request_grows spec (Some client) (Some request) a b made = called_grows a b (Request client spec.id spec.mask All (Ok request)) made tt
request_grows spec (Some client) None a b made = called_grows a b (Request client spec.id spec.mask All (Err made.0)) made.1 tt
request_grows spec None (Some request) a b made = absurd made
request_grows spec None None a b made = grows_same a b made

asks_grow : (spec : ChannelSpec) (client later request : Option ℕ) (a b : Access) → AsksEvents spec client later request a b → GrowsOn a b
asks_grow spec client later request a b asks = grows_both a asks.middle b (client_grows client later a asks.middle asks.attached) (request_grows spec later request asks.middle b asks.asked)

refusal_grows : (spec : ChannelSpec) (name : List ℕ) (why : Why) (a b : ChannelAt) → RefusesRun why spec name a b → GrowsOn a.port b.port
refusal_grows spec name NotReady a b refuses = absurd refuses
refusal_grows spec name (Exists channel) a b refuses = grows_same a.port b.port refuses.1.port
refusal_grows spec name (Fault channel) a b refuses = grows_same a.port b.port refuses.1.port
refusal_grows spec name BufferRefused a b refuses = asks_grow spec a.client b.client None a.port b.port refuses.0

pub open_grows : (spec : ChannelSpec) (order : Order) (dump : List ℕ) (r : Result ⊤ Why) (a b : ChannelAt) → OpensBy r spec order dump a b → GrowsOn a.port b.port
open_grows spec order dump (Ok done) a b opens = asks_grow spec a.client b.client (Some opens.asks.request) a.port b.port opens.asks.asks
open_grows spec order dump (Err why) a b opens = refusal_grows spec _ why a b opens.1

-- A file that is there is not the new one.

pub not_new : (old : Seen) (fresh name : List ℕ) → IsGone old fresh → IsTrue old.names → IsSome (old.at name) → name ≢ fresh
not_new old fresh name gone told there same = let never : IsSome {T = Stored} None = subst (λ (o : Option Stored). IsSome o) (ap (λ (l : List ℕ). old.at l) same ∙ gone told) there in absurd (cc (never))

-- It stays behind the opening, whether a file was made or none.
pub there_stays : (old new : Seen) (fresh name : List ℕ) → OpensRunFile fresh old new → IsTrue old.names → IsSome (old.at name) → new.at name ≡ old.at name
there_stays old new fresh name opens told there = elim opens.fresh as (λ w. new.at name ≡ old.at name) [
  | inl gone ↦ opens.touches.others name (not_new old fresh name gone told there)
  | inr same ↦ same name
]
