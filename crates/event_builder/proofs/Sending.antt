-- The built event, and a builder behind its sending.
use Rattle.std.specs.Prelude.{◌≡◌, ◌≤◌, ◌∷◌, ℕ, zero, suc, Bool, true, false, List, [], length, map, slice_get, Option, Some, Result, Ok, Err, refl}
use Rattle.std.specs.List.{list_all}
use Rattle.std.specs.Option.{option_map}
use Rattle.std.proofs.Common.{ap, sym, subst, ◌∙◌}
use Rattle.std.proofs.lemmas.List.{length-map}
use Rattle.std.proofs.lemmas.Option.{slice_get-map, same_Some}
use Rattle.event.specs.Events.{event_limit, is_reserved}
use Rattle.event.specs.Headers.{fields_of}
use Rattle.event.specs.declared.head.Header.{Header}
use Rattle.buffer_core.specs.declared.replies.SendRefusal.{SendRefusal}
use Rattle.buffer_core.specs.declared.replies.SendRefusal.TheVariants.{NotRunning, BadSize, ReservedId, TooLarge, Spent, Full}
use Rattle.buffer_core.specs.Ports.{Access}
use Rattle.bank_format.specs.declared.formats.Format.{Format}
use Rattle.bank_format.specs.declared.formats.Format.TheVariants.{Bank32A}
use Rattle.bank_format.specs.BankAreas.{plain_banks}
use Rattle.bank_format.specs.Writing.{Written}
use Rattle.event_builder.specs.declared.answers.BuildStep.{BuildStep}
use Rattle.event_builder.specs.declared.build_run.BuildRun.{BuildRun}
use Rattle.event_builder.specs.declared.inputs.BuilderInput.{BuilderInput}
use Rattle.event_builder.specs.Joined.{IsBuilt}
use Rattle.event_builder.specs.Inputs.{InputsAt, is_held, last_events, let_go}
use Rattle.event_builder.specs.Builders.{BuilderAt, IsNextOf, IsJoined, IsBuilderReady, builder_at}
use Rattle.event_builder.specs.BuilderSends.{SendsBy, SendsBuilt, StepsHeld, StepsBuilder, run_sent, all_let_go}
use Rattle.event_builder.proofs.InputLists.{each_passes}
use Rattle.event_builder.proofs.WaitReplies.{free_id}
use Rattle.event_builder.proofs.Readiness.{HoldNone, cancelled_none, ready_none, ready_if_done}

-- the event with the banks of all that are held is the built one
pub built_is : (id mask limit : ℕ) (inputs : List BuilderInput) (r : BuildRun) (body : Written) (x : BuilderInput) (bytes : List ℕ) → IsBuilderReady id limit inputs (Some r) body → list_all is_held inputs ≡ true → slice_get inputs 0 ≡ Some x → bytes ≡ plain_banks body.format body.banks
    → IsBuilt id mask (suc r.sent) (last_events inputs) (record { id = id; mask = mask; serial = x.event.event.serial; time = x.event.event.time; body = bytes })
built_is id mask limit inputs r body x bytes ready all there is =
    let j : IsJoined inputs limit body = ready.joined all in
    let next : IsNextOf (Some r) x.event.event = ready.held 0 x there (each_passes is_held inputs 0 x all there) in
    let plain : bytes ≡ plain_banks Bank32A body.banks = is ∙ ap (λ (f : Format). plain_banks f body.banks) ready.format in
    record {
      banks = body.banks;
      joins = j.joins;
      first = x.event.event;
      first_is = slice_get-map (λ (y : BuilderInput). y.event.event) inputs 0 ∙ ap (λ (o : Option BuilderInput). option_map (λ (y : BuilderInput). y.event.event) o) there;
      built = rw (next.0, plain) refl;
    }

-- inputs that let go of what they held hold nothing
let_go_none : (inputs : List BuilderInput) → HoldNone (map let_go inputs)
let_go_none [] n y at = absurd (cc)
let_go_none (x ∷ xs) zero y at = ap (λ (i : BuilderInput). i.held) (sym (same_Some (let_go x) y at))
let_go_none (x ∷ xs) (suc n) y at = let_go_none xs n y at

let_go_many : (a : InputsAt) → length a.ports ≡ length a.inputs → length (all_let_go a).ports ≡ length (all_let_go a).inputs
let_go_many a many = many ∙ sym (length-map a.inputs let_go)

stays_ready : (id limit : ℕ) (r later : BuildRun) (a b : InputsAt) (body : Written) → IsBuilderReady id limit a.inputs (Some r) body → Some later ≡ Some r → b ≡ a → IsBuilderReady id limit b.inputs (Some later) body
stays_ready id limit r later a b body ready run at =
    let there : IsBuilderReady id limit a.inputs (Some later) body = subst (λ (o : Option BuildRun). IsBuilderReady id limit a.inputs o body) (sym run) ready in
    subst (λ (i : InputsAt). IsBuilderReady id limit i.inputs (Some later) body) (sym at) there

-- a builder behind a send
pub ready_sent : (reply : Result ℕ SendRefusal) (id limit : ℕ) (r later : BuildRun) (a b : InputsAt) (answer : BuildStep) (body : Written) → IsBuilderReady id limit a.inputs (Some r) body → length a.ports ≡ length a.inputs → SendsBy reply r (builder_at (Some r) a) (builder_at (Some later) b) answer
    → IsBuilderReady id limit b.inputs (Some later) body
ready_sent (Ok place) id limit r later a b answer body ready many sends =
    let gone : IsBuilderReady id limit (all_let_go a).inputs (Some (run_sent r)) body =
    ready_none id limit a.inputs (map let_go a.inputs) (Some r) (Some (run_sent r)) body body ready (length-map a.inputs let_go) (let_go_none a.inputs) ready.format ready.room in
    ready_if_done id limit (run_sent r) later (all_let_go a) b body gone (let_go_many a many) sends.1
ready_sent (Err (Full client place)) id limit r later a b answer body ready many sends = stays_ready id limit r later a b body ready sends.1.0 sends.1.1
ready_sent (Err (NotRunning gate)) id limit r later a b answer body ready many sends = stays_ready id limit r later a b body ready sends.1.0 sends.1.1
ready_sent (Err (Spent total)) id limit r later a b answer body ready many sends =
    ready_none id limit a.inputs b.inputs (Some r) (Some later) body body ready sends.1.cancels.inputs_many (cancelled_none a b many sends.1.cancels) ready.format ready.room
ready_sent (Err (BadSize stated given)) id limit r later a b answer body ready many sends = absurd sends
ready_sent (Err (ReservedId i)) id limit r later a b answer body ready many sends = absurd sends
ready_sent (Err (TooLarge slot size)) id limit r later a b answer body ready many sends = absurd sends

-- a step where each input holds an event
pub step_held : (run : Option BuildRun) (r : BuildRun) (id mask : ℕ) (output later : Access) (at : InputsAt) (b : BuilderAt) (answer : BuildStep) → run ≡ Some r → list_all is_held at.inputs ≡ true → SendsBuilt id mask r output later (builder_at (Some r) at) b answer → StepsBuilder run id mask output later (builder_at run at) b answer
step_held run r id mask output later at b answer is all sends =
    let whole : StepsHeld (list_all is_held at.inputs) id mask r output later (builder_at (Some r) at) b answer = subst (λ (w : Bool). StepsHeld w id mask r output later (builder_at (Some r) at) b answer) (sym all) sends in
    subst (λ (o : Option BuildRun). StepsBuilder o id mask output later (builder_at o at) b answer) (sym is) whole

-- What is known of the event that is sent, with the header of the first of those that are held and these bytes.
pub record SetHeld (id mask limit : ℕ) (inputs : List BuilderInput) (r : BuildRun) (body : Written) (first : Header) (bytes : List ℕ) : Type 0 where
  pub built : IsBuilt id mask (suc r.sent) (last_events inputs) (record { id = id; mask = mask; serial = first.serial_number; time = first.time_stamp; body = bytes })
  pub serial : first.serial_number ≡ suc r.sent
  pub small : length bytes ≤ limit
  pub within : limit ≤ event_limit
  pub free : is_reserved id ≡ false

pub set_held : (id mask limit : ℕ) (inputs : List BuilderInput) (r : BuildRun) (body : Written) (x : BuilderInput) (first : Header) (bytes : List ℕ) → IsBuilderReady id limit inputs (Some r) body → list_all is_held inputs ≡ true → slice_get inputs 0 ≡ Some x → first ≡ fields_of x.event.event → bytes ≡ plain_banks body.format body.banks
    → SetHeld id mask limit inputs r body first bytes
set_held id mask limit inputs r body x first bytes ready all there header is =
    let next : IsNextOf (Some r) x.event.event = ready.held 0 x there (each_passes is_held inputs 0 x all there) in
    let j : IsJoined inputs limit body = ready.joined all in
    let plain : bytes ≡ plain_banks Bank32A body.banks = is ∙ ap (λ (f : Format). plain_banks f body.banks) ready.format in
    record {
      built = subst (λ (h : Header). IsBuilt id mask (suc r.sent) (last_events inputs) (record { id = id; mask = mask; serial = h.serial_number; time = h.time_stamp; body = bytes })) (sym header)
          (built_is id mask limit inputs r body x bytes ready all there is);
      serial = ap (λ (h : Header). h.serial_number) header ∙ next.0;
      small = subst (λ (l : List ℕ). length l ≤ limit) (sym plain) j.fits;
      within = ready.most;
      free = free_id id ready.id_free;
    }
