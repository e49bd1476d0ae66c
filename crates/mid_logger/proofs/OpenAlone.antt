-- A channel makes its request while its client has none.
use Rattle.std.specs.Prelude.{◌≡◌, ℕ, List, [], ◌∷◌, ◌++◌, Option, Some, None, Result, Ok, Err, ⊤}
use Rattle.std.proofs.Common.{sym, subst}
use Rattle.daq_types.specs.declared.runs.Kind.TheVariants.{All}
use Rattle.daq_types.specs.declared.runs.Order.{Order}
use Rattle.daq_types.specs.declared.runs.Why.{Why}
use Rattle.daq_types.specs.declared.runs.Why.TheVariants.{NotReady, Exists, Fault, BufferRefused}
use Rattle.daq_io.specs.Seen.{Seen}
use Rattle.buffer_core.specs.declared.entry.BufferEntry.{BufferEntry}
use Rattle.buffer_core.specs.declared.entry.BufferEntry.TheVariants.{Attach, Request}
use Rattle.buffer_core.specs.Ports.{Access}
use Rattle.member_model.specs.OwnCalls.{calls_after}
use Rattle.member_model.specs.FairCalls.{AreLoneRequests}
use Rattle.member_model.proofs.FairLaws.{lone-push}
use Rattle.mid_logger.specs.declared.channel_spec.ChannelSpec.{ChannelSpec}
use Rattle.mid_logger.specs.declared.stage.ChannelStage.{ChannelStage}
use Rattle.mid_logger.specs.declared.stage.ChannelStage.TheVariants.{Idle}
use Rattle.mid_logger.specs.Channels.{FileHead, GivesEachOnce, ChannelStands}
use Rattle.mid_logger.specs.ChannelTurns.{logger_name, HasClient, MakesRequest, AsksEvents, ChannelAt, RefusesRun, OpensBy}
use Rattle.mid_logger.proofs.OpenSteps.{attach_kept, once_asked}

abbrev AreLone : Access → Type 0
AreLone a = AreLoneRequests (calls_after [] a.own)

lone_call : (a b : Access) (e : BufferEntry) → b.own ≡ a.own ++ e ∷ [] → AreLoneRequests (calls_after [] (a.own ++ e ∷ [])) → AreLone b
lone_call a b e own are = subst (λ (l : List BufferEntry). AreLoneRequests (calls_after [] l)) (sym own) are

lone_same : (a b : Access) → b ≡ a → AreLone a → AreLone b
lone_same a b same are = subst AreLone (sym same) are

attach_alone : (client later : Option ℕ) (a b : Access) → HasClient client later a b → AreLone a → AreLone b
attach_alone (Some c) later a b has are = lone_same a b has.1 are
attach_alone None (Some n) a b has are = lone_call a b (Attach logger_name (Ok n)) has.0.own (lone-push a.own (Attach logger_name (Ok n)) tt are)
attach_alone None None a b has are = lone_call a b (Attach logger_name (Err has.0)) has.1.own (lone-push a.own (Attach logger_name (Err has.0)) tt are)

request_alone : (spec : ChannelSpec) (client request : Option ℕ) (head : FileHead) (seen : Seen) (a b : Access) → MakesRequest spec client request a b → ChannelStands spec client Idle head a.own a.got seen → AreLone a → AreLone b
request_alone spec (Some c) (Some r) head seen a b makes stands are =
    lone_call a b (Request c spec.id spec.mask All (Ok r)) makes.own (lone-push a.own (Request c spec.id spec.mask All (Ok r)) stands.at are)
request_alone spec (Some c) None head seen a b makes stands are =
    lone_call a b (Request c spec.id spec.mask All (Err makes.0)) makes.1.own (lone-push a.own (Request c spec.id spec.mask All (Err makes.0)) stands.at are)
request_alone spec None (Some r) head seen a b makes stands are = absurd makes
request_alone spec None None head seen a b makes stands are = lone_same a b makes are

asks_alone : (spec : ChannelSpec) (client later request : Option ℕ) (head : FileHead) (seen : Seen) (a b : Access) → AsksEvents spec client later request a b → GivesEachOnce b.own → ChannelStands spec client Idle head a.own a.got seen → AreLone a → AreLone b
asks_alone spec client later request head seen a b asks once stands are =
    request_alone spec later request head seen asks.middle b asks.asked
    (attach_kept spec client later a asks.middle head seen asks.attached (once_asked spec later request asks.middle b asks.asked once) stands)
    (attach_alone client later a asks.middle asks.attached are)

refusal_alone : (spec : ChannelSpec) (name : List ℕ) (why : Why) (head : FileHead) (seen : Seen) (a b : ChannelAt) → RefusesRun why spec name a b → GivesEachOnce b.port.own → ChannelStands spec a.client Idle head a.port.own a.port.got seen → AreLone a.port → AreLone b.port
refusal_alone spec name NotReady head seen a b refuses once stands are = absurd refuses
refusal_alone spec name (Exists channel) head seen a b refuses once stands are = lone_same a.port b.port refuses.1.port are
refusal_alone spec name (Fault channel) head seen a b refuses once stands are = lone_same a.port b.port refuses.1.port are
refusal_alone spec name BufferRefused head seen a b refuses once stands are = asks_alone spec a.client b.client None head seen a.port b.port refuses.0 once stands are

pub opens_alone : (spec : ChannelSpec) (order : Order) (dump : List ℕ) (r : Result ⊤ Why) (a b : ChannelAt) (head : FileHead) → OpensBy r spec order dump a b → a.stage ≡ Idle → GivesEachOnce b.port.own
    → ChannelStands spec a.client a.stage head a.port.own a.port.got a.files → AreLoneRequests (calls_after [] a.port.own) → AreLoneRequests (calls_after [] b.port.own)
opens_alone spec order dump (Ok done) a b head opens idle once stands are =
    let idle_stands : ChannelStands spec a.client Idle head a.port.own a.port.got a.files = subst (λ (s : ChannelStage). ChannelStands spec a.client s head a.port.own a.port.got a.files) idle stands in
    asks_alone spec a.client b.client (Some opens.asks.request) head a.files a.port b.port opens.asks.asks once idle_stands are
opens_alone spec order dump (Err why) a b head opens idle once stands are =
    let idle_stands : ChannelStands spec a.client Idle head a.port.own a.port.got a.files = subst (λ (s : ChannelStage). ChannelStands spec a.client s head a.port.own a.port.got a.files) idle stands in
    refusal_alone spec _ why head a.files a b opens.1 once idle_stands are
