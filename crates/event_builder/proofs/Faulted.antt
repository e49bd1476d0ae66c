-- Which fault an event gives, from what was found of it and of those beside it.
use Rattle.std.specs.Prelude.{◌≡◌, ◌<◌, ◌==◌, ℕ, Bool, true, false, List, length, slice_get, Option, Some, None, is_some, IfNone, IfSome, refl}
use Rattle.std.specs.List.{list_all}
use Rattle.std.proofs.Common.{sym, subst, ◌∙◌, inl, inr}
use Rattle.std.proofs.lemmas.Option.{same_Some}
use Rattle.daq_types.specs.declared.events.Event.{Event}
use Rattle.buffer_core.specs.declared.replies.Received.{Received}
use Rattle.buffer_core.specs.declared.replies.Received.TheVariants.{Got, Empty, NoClient, SmallBuf}
use Rattle.bank_format.specs.declared.formats.Format.TheVariants.{Bank32A}
use Rattle.bank_format.specs.BankAreas.{BankValue, plain_banks}
use Rattle.bank_format.specs.Faults.{HoldsBanks}
use Rattle.bank_format.specs.Writing.{Written}
use Rattle.event_builder.specs.declared.build_run.BuildFault.{BuildFault}
use Rattle.event_builder.specs.declared.build_run.BuildFault.TheVariants.{TooBig}
use Rattle.event_builder.specs.declared.answers.BuildPull.{BuildPull}
use Rattle.event_builder.specs.declared.answers.BuildPull.TheVariants.{Nothing, Waiting}
use Rattle.event_builder.specs.declared.build_run.BuildRun.{BuildRun}
use Rattle.event_builder.specs.declared.inputs.BuilderInput.{BuilderInput}
use Rattle.event_builder.specs.declared.inputs.InputRequest.{InputRequest}
use Rattle.event_builder.specs.Joined.{JoinsBanks, IsBuiltSize}
use Rattle.event_builder.specs.Inputs.{is_held, is_of_run, last_events}
use Rattle.event_builder.specs.Builders.{BuilderAt, IsJoined}
use Rattle.event_builder.specs.BuilderPulls.{IsBuildFaultOf, MeetsFault, FaultsGot, FaultsReply, HoldBanksBut, PullsOneEvent, PullsHeld, PullsByRequest, PullsInput}
use Rattle.event_builder.proofs.InputLists.{same_or_other, each_passes}
use Rattle.event_builder.proofs.JoinedBanks.{joined_all}

-- the fault of an event by itself is its fault
pub alone_meets : (number k : ℕ) (e : Event) (limit : ℕ) (inputs : List BuilderInput) (fault : Option BuildFault) → is_some fault ≡ true → IfSome fault (λ f. (l : ℕ) → (is : List BuilderInput) → IsBuildFaultOf number k e l is (Some f)) → IsBuildFaultOf number k e limit inputs fault
alone_meets number k e limit inputs (Some f) some is = is limit inputs
alone_meets number k e limit inputs None some is = absurd (cc)

-- an event without a fault by itself
pub record IsGood (k : ℕ) (e : Event) : Type 0 where
  pub serial : e.serial ≡ k
  pub bs : List BankValue
  pub holds : HoldsBanks bs e.body

pub alone_good : (k : ℕ) (e : Event) (fault : Option BuildFault) → is_some fault ≡ false → IfNone fault ((e.serial ≡ k) × ((bs : List BankValue) × HoldsBanks bs e.body)) → IsGood k e
alone_good k e (Some f) none is = absurd (cc)
alone_good k e None none is = record { serial = is.0; bs = is.1.0; holds = is.1.1 }

-- where each input holds an event, their banks can be joined
pub held_joins : (number k : ℕ) (x : BuilderInput) (inputs : List BuilderInput) → slice_get inputs number ≡ Some x → IsGood k x.event.event → HoldBanksBut number inputs → list_all is_held inputs ≡ true → (banks : List BankValue) × JoinsBanks (last_events inputs) banks
held_joins number k x inputs there good others all = joined_all inputs (λ n y at. elim (same_or_other n number) as (λ w. (bs : List BankValue) × HoldsBanks bs y.event.event.body) [
  | inl same ↦
      let is : x ≡ y = same_Some x y (sym there ∙ subst (λ (j : ℕ). slice_get inputs j ≡ Some y) same at) in
      subst (λ (z : BuilderInput). (bs : List BankValue) × HoldsBanks bs z.event.event.body) is (good.bs, good.holds)
  | inr other ↦ others n y other at (each_passes is_held inputs n y all at)
])

-- the fault of an event that has none by itself
pub joined_meets : (number k limit : ℕ) (e : Event) (inputs : List BuilderInput) (written : Written) (fault : Option BuildFault) → IsGood k e → IfNone fault (list_all is_held inputs ≡ true → IsJoined inputs limit written)
    → IfSome fault (λ f. (size : ℕ) × (f ≡ TooBig k size) × (list_all is_held inputs ≡ true) × IsBuiltSize (last_events inputs) size × (limit < size)) → IsBuildFaultOf number k e limit inputs fault
joined_meets number k limit e inputs written None good joined big = (
  good.serial,
  (good.bs, good.holds),
  λ all. let j : IsJoined inputs limit written = joined all in (length (plain_banks Bank32A written.banks), (written.banks, j.joins, refl), j.fits),
)
joined_meets number k limit e inputs written (Some f) good joined big =
    let size : ℕ = big.0 in
    let at_size : IsBuildFaultOf number k e limit inputs (Some (TooBig k size)) = (refl, good.serial, big.2, big.3, big.4) in
    subst (λ (g : BuildFault). IsBuildFaultOf number k e limit inputs (Some g)) (sym big.1) at_size

-- where the input holds no event, not all do
pub not_own_not_all : (number start : ℕ) (reply : Received) (inputs : List BuilderInput) (x : BuilderInput) → slice_get inputs number ≡ Some x → x.held ≡ is_of_run start reply → is_of_run start reply ≡ false → list_all is_held inputs ≡ true → ⊥
not_own_not_all number start reply inputs x there held own all =
    let holds : x.held ≡ true = each_passes is_held inputs number x all there in
    cc (holds, held, own)

-- an event of another run gives no fault
pub other_faults : (own : Bool) (number k limit : ℕ) (inputs : List BuilderInput) → own ≡ false → FaultsGot own number k limit inputs None
other_faults true number k limit inputs own = absurd (cc)
other_faults false number k limit inputs own = refl

pub none_joined : (fault : Option BuildFault) (P : Type 0) → is_some fault ≡ true → IfNone fault P
none_joined (Some f) P some = tt
none_joined None P some = absurd (cc)

-- the fault of an event of the run is that of the reply that gave it
pub faults_own : (reply : Received) (start number k limit : ℕ) (inputs : List BuilderInput) (fault : Option BuildFault) → is_of_run start reply ≡ true → MeetsFault number k limit inputs fault → FaultsReply reply start number k limit inputs fault
faults_own (Got place s) start number k limit inputs fault own meets = subst (λ (b : Bool). FaultsGot b number k limit inputs fault) (sym own) meets
faults_own (Empty gate last) start number k limit inputs fault own meets = absurd (cc)
faults_own NoClient start number k limit inputs fault own meets = absurd (cc)
faults_own (SmallBuf need) start number k limit inputs fault own meets = absurd (cc)

-- a reply that gives no event of the run, where there was room, gives no fault
pub faults_none : (reply : Received) (start number k limit : ℕ) (inputs : List BuilderInput) → is_of_run start reply ≡ false → ((need : ℕ) → reply ≡ SmallBuf need → ⊥) → FaultsReply reply start number k limit inputs None
faults_none (Got place s) start number k limit inputs own room = other_faults (start == s) number k limit inputs own
faults_none (Empty gate last) start number k limit inputs own room = refl
faults_none NoClient start number k limit inputs own room = refl
faults_none (SmallBuf need) start number k limit inputs own room = absurd (room need refl)

-- a pull that receives
pub pulls_once : (number limit : ℕ) (run : Option BuildRun) (r : BuildRun) (x : BuilderInput) (q : InputRequest) (a b : BuilderAt) (answer : BuildPull) → run ≡ Some r → x.request ≡ Some q → x.held ≡ false → PullsOneEvent number limit r q b.run a.at b.at answer → PullsInput run x number limit a b answer
pulls_once number limit run r x q a b answer is_run is_request free once =
    let by_held : PullsHeld x.held number limit r q a b answer = subst (λ (h : Bool). PullsHeld h number limit r q a b answer) (sym free) once in
    let by_request : PullsByRequest x.request x.held number limit r a b answer = subst (λ (o : Option InputRequest). PullsByRequest o x.held number limit r a b answer) (sym is_request) by_held in
    subst (λ (o : Option BuildRun). PullsInput o x number limit a b answer) (sym is_run) by_request

-- a pull without a run, without a request, or where an event is held
pub pull_idle : (number limit : ℕ) (run : Option BuildRun) (x : BuilderInput) (a : BuilderAt) → run ≡ None → PullsInput run x number limit a a Nothing
pull_idle number limit run x a is = subst (λ (o : Option BuildRun). PullsInput o x number limit a a Nothing) (sym is) (refl, (refl, refl))

pub pull_unasked : (number limit : ℕ) (run : Option BuildRun) (r : BuildRun) (x : BuilderInput) (a : BuilderAt) → run ≡ Some r → x.request ≡ None → PullsInput run x number limit a a Nothing
pull_unasked number limit run r x a is_run is_request =
    let by_request : PullsByRequest x.request x.held number limit r a a Nothing = subst (λ (o : Option InputRequest). PullsByRequest o x.held number limit r a a Nothing) (sym is_request) (refl, (refl, refl)) in
    subst (λ (o : Option BuildRun). PullsInput o x number limit a a Nothing) (sym is_run) by_request

pub pull_waits : (number limit : ℕ) (run : Option BuildRun) (r : BuildRun) (x : BuilderInput) (q : InputRequest) (a : BuilderAt) → run ≡ Some r → x.request ≡ Some q → x.held ≡ true → PullsInput run x number limit a a Waiting
pull_waits number limit run r x q a is_run is_request holds =
    let by_held : PullsHeld x.held number limit r q a a Waiting = subst (λ (h : Bool). PullsHeld h number limit r q a a Waiting) (sym holds) (refl, (refl, refl)) in
    let by_request : PullsByRequest x.request x.held number limit r a a Waiting = subst (λ (o : Option InputRequest). PullsByRequest o x.held number limit r a a Waiting) (sym is_request) by_held in
    subst (λ (o : Option BuildRun). PullsInput o x number limit a a Waiting) (sym is_run) by_request
