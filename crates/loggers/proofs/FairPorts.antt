-- What a call of a logger leaves of it that no buffer has a cause to refuse one.
use Rattle.std.specs.Prelude.{◌≡◌, ◌≢◌, ◌≤◌, ◌+◌, ◌==◌, if◌then◌else◌, ℕ, true, Contains, List, [], ◌∷◌, ◌++◌, map, slice_get, slice_set, sum_by, Option, Some, None, Err, ◌⊎◌, refl}
use Rattle.std.specs.Option.{option_map}
use Rattle.std.proofs.Common.{ap, sym, subst, ◌∙◌, arith, inl, inr, append_assoc, eq-eqb, ne_eqb}
use Rattle.std.proofs.lemmas.List.{append-nil}
use Rattle.std.proofs.lemmas.List.Sums.{sum_by-cons, sum_by-set}
use Rattle.std.proofs.lemmas.List.Elements.{Contains-append_left, Contains-append_right}
use Rattle.buffer_core.specs.declared.entry.BufferEntry.{BufferEntry}
use Rattle.buffer_core.specs.declared.entry.BufferEntry.TheVariants.{Begin, End}
use Rattle.buffer_core.specs.declared.replies.MarkRefusal.{MarkRefusal}
use Rattle.buffer_core.specs.Ports.{Access, GotEvent, PortCalled}
use Rattle.buffer_core.specs.Slots.{slot_at}
use Rattle.buffer_core.proofs.SlotLaws.{split, slot_within}
use Rattle.member_model.specs.Turns.{MemberTurn}
use Rattle.member_model.specs.SentCalls.{EachCall}
use Rattle.member_model.specs.EndedRuns.{MakesNoMark}
use Rattle.member_model.specs.OwnCalls.{calls_after}
use Rattle.member_model.specs.FairCalls.{attaches_by, attaches_made, begun_by, has_begun, left_open_by, is_left_open}
use Rattle.member_model.proofs.ReadLaws.{calls_after-push}
use Rattle.member_model.proofs.FairLaws.{LeavesRuns, attaches-append, begun-push, open-push, begun-append, open-append}
use Rattle.mid_logger.specs.declared.channel.Channel.{Channel}
use Rattle.mid_logger.specs.declared.channel_spec.ChannelSpec.{ChannelSpec}
use Rattle.mid_logger.specs.declared.stage.ChannelStage.{ChannelStage}
use Rattle.loggers.specs.Moments.{LoggerMoment, ChannelStep, StepsChannel, CallsBuffer, MarksBuffer, noted_channel}
use Rattle.loggers.specs.FairAsks.{one_client, channel_clients, AttachesFew, HasRefusedBegin, StartsBehind, IsFairCall, AreFairBegins, BeginsFairly}
use Rattle.loggers.proofs.SlotLists.{same_or_other, got_there, kept_there}
use Rattle.loggers.proofs.PortSteps.{which_port}

-- Ports after more calls.

-- each call that was made on a port is still among its calls
abbrev PortsGrow : (ports later : List Access) → Type 0
PortsGrow ports later = (buffer : ℕ) → (p : Access) → slice_get ports buffer ≡ Some p → (q : Access) × (slice_get later buffer ≡ Some q) × ((e : BufferEntry) → Contains p.own e → Contains q.own e)

put_grows : (ports : List Access) (buffer : ℕ) (p q : Access) (more : List BufferEntry) → slice_get ports buffer ≡ Some p → q.own ≡ p.own ++ more → PortsGrow ports (slice_set ports buffer q)
put_grows ports buffer p q more there own k x at = elim (same_or_other k buffer) as (λ w. (y : Access) × (slice_get (slice_set ports buffer q) k ≡ Some y) × ((e : BufferEntry) → Contains x.own e → Contains y.own e)) [
  | inl same ↦
      let at_buffer : slice_get ports buffer ≡ Some x = subst (λ (j : ℕ). slice_get ports j ≡ Some x) same at in
      let is : x ≡ p = cc (there, at_buffer) in
      let put : slice_get (slice_set ports buffer q) k ≡ Some q = subst (λ (j : ℕ). slice_get (slice_set ports buffer q) j ≡ Some q) (sym same) (got_there ports buffer p q there) in
      (q, put, λ e has. subst (λ (l : List BufferEntry). Contains l e) (sym own) (Contains-append_left p.own more e (subst (λ (z : Access). Contains z.own e) is has)))
  | inr other ↦ (x, kept_there ports buffer k q x other at, λ e has. has)
]

pub refused_still : (ports later : List Access) (start : ℕ) → PortsGrow ports later → HasRefusedBegin ports start → HasRefusedBegin later start
refused_still ports later start grow r =
    let g = grow r.buffer r.port r.at in
    record { buffer = r.buffer; port = g.0; at = g.1; why = r.why; among = g.2 (Begin start (Err r.why)) r.among }

-- Runs that were begun fairly.

-- the starts among these turns are among those, behind the same earlier turns
abbrev pub StartsStay : (turns later : List MemberTurn) → Type 0
StartsStay turns later = (start : ℕ) → (earlier : List MemberTurn) → StartsBehind turns start earlier → StartsBehind later start earlier

fair_call_still : (ports later : List Access) (turns others : List MemberTurn) → PortsGrow ports later → StartsStay turns others → (e : BufferEntry) (es : List BufferEntry) → IsFairCall ports turns e es → IsFairCall later others e es
fair_call_still ports later turns others grow stay (Begin start reply) es fair = record {
  earlier = fair.earlier;
  at = stay start fair.earlier fair.at;
  begun = fair.begun;
  left = λ other is. refused_still ports later other grow (fair.left other is);
}
fair_call_still ports later turns others grow stay e es fair = tt

fair_still : (ports later : List Access) (turns others : List MemberTurn) → PortsGrow ports later → StartsStay turns others → (es : List BufferEntry) → AreFairBegins ports turns es → AreFairBegins later others es
fair_still ports later turns others grow stay [] fair = tt
fair_still ports later turns others grow stay (e ∷ es) fair = (fair_call_still ports later turns others grow stay e es fair.0, fair_still ports later turns others grow stay es fair.1)

same_ports : (ports : List Access) → PortsGrow ports ports
same_ports ports buffer p at = (p, at, λ e has. has)

same_starts : (turns : List MemberTurn) → StartsStay turns turns
same_starts turns start earlier at = at

-- Calls that make no mark.

quiet_fair : (ports : List Access) (turns : List MemberTurn) (e : BufferEntry) (es : List BufferEntry) → MakesNoMark e → IsFairCall ports turns e es
quiet_fair ports turns (Begin start reply) es none = absurd none
quiet_fair ports turns e es none = tt

pub quiet_leaves : (e : BufferEntry) → MakesNoMark e → LeavesRuns e
quiet_leaves (Begin start reply) none = absurd none
quiet_leaves (End start reply) none = absurd none
quiet_leaves e none = λ start before. (refl, refl)

all_leave : (es : List BufferEntry) → EachCall MakesNoMark es → EachCall LeavesRuns es
all_leave [] none = tt
all_leave (e ∷ es) none = (quiet_leaves e none.0, all_leave es none.1)

fair-push : (ports : List Access) (turns : List MemberTurn) (own : List BufferEntry) (e : BufferEntry) → IsFairCall ports turns e (calls_after [] own) → AreFairBegins ports turns (calls_after [] own) → AreFairBegins ports turns (calls_after [] (own ++ e ∷ []))
fair-push ports turns own e fair are = subst (λ (es : List BufferEntry). AreFairBegins ports turns es) (sym (calls_after-push [] own e)) (fair, are)

fair-append : (ports : List Access) (turns : List MemberTurn) (own more : List BufferEntry) → EachCall MakesNoMark more → AreFairBegins ports turns (calls_after [] own) → AreFairBegins ports turns (calls_after [] (own ++ more))
fair-append ports turns own [] none are = subst (λ (l : List BufferEntry). AreFairBegins ports turns (calls_after [] l)) (sym (append-nil own)) are
fair-append ports turns own (e ∷ es) none are =
    subst (λ (l : List BufferEntry). AreFairBegins ports turns (calls_after [] l)) (append_assoc own (e ∷ []) es)
    (fair-append ports turns (own ++ e ∷ []) es none.1 (fair-push ports turns own e (quiet_fair ports turns e (calls_after [] own) none.0) are))

-- All ports: what each run that was begun in a buffer is, and each that was left open there and that no buffer refused.
pub record FairPorts (Begun Left : (buffer start : ℕ) → Type 0) (turns : List MemberTurn) (ports : List Access) : Type 0 where
  pub begins : BeginsFairly ports turns
  pub starts : (buffer : ℕ) → (a : Access) → slice_get ports buffer ≡ Some a → (start : ℕ) → has_begun (calls_after [] a.own) start ≡ true → Begun buffer start
  pub left : (buffer : ℕ) → (a : Access) → slice_get ports buffer ≡ Some a → (start : ℕ) → is_left_open (calls_after [] a.own) start ≡ true → Left buffer start ⊎ HasRefusedBegin ports start

still_left : {L : Type 0} (ports later : List Access) (start : ℕ) → PortsGrow ports later → L ⊎ HasRefusedBegin ports start → L ⊎ HasRefusedBegin later start
still_left {L} ports later start grow known = elim known as (λ w. L ⊎ HasRefusedBegin later start) [
  | inl is ↦ inl is
  | inr refused ↦ inr (refused_still ports later start grow refused)
]

-- calls on one port that make no mark
pub quiet_ports : (B L : (buffer start : ℕ) → Type 0) (turns : List MemberTurn) (ports : List Access) (buffer : ℕ) (p q : Access) (more : List BufferEntry) → slice_get ports buffer ≡ Some p → q.own ≡ p.own ++ more → EachCall MakesNoMark more
    → FairPorts B L turns ports → FairPorts B L turns (slice_set ports buffer q)
quiet_ports B L turns ports buffer p q more there own none fair =
    let later : List Access = slice_set ports buffer q in
    let grow : PortsGrow ports later = put_grows ports buffer p q more there own in
    let leaves : EachCall LeavesRuns more = all_leave more none in
    record {
      begins = λ k x at. elim (which_port ports buffer p q k x there at) as (λ w. AreFairBegins later turns (calls_after [] x.own)) [
        | inl hit ↦
            let own_is : x.own ≡ p.own ++ more = sym (ap (λ (z : Access). z.own) hit.1) ∙ own in
            subst (λ (l : List BufferEntry). AreFairBegins later turns (calls_after [] l)) (sym own_is)
            (fair-append later turns p.own more none (fair_still ports later turns turns grow (same_starts turns) (calls_after [] p.own) (fair.begins buffer p there)))
        | inr miss ↦ fair_still ports later turns turns grow (same_starts turns) (calls_after [] x.own) (fair.begins k x miss.1)
      ];
      starts = λ k x at start is. elim (which_port ports buffer p q k x there at) as (λ w. B k start) [
        | inl hit ↦
            let own_is : x.own ≡ p.own ++ more = sym (ap (λ (z : Access). z.own) hit.1) ∙ own in
            let was : has_begun (calls_after [] p.own) start ≡ true =
            sym (begun-append p.own more start leaves) ∙ (sym (ap (λ (l : List BufferEntry). has_begun (calls_after [] l) start) own_is) ∙ is) in
            subst (λ (j : ℕ). B j start) (sym hit.0) (fair.starts buffer p there start was)
        | inr miss ↦ fair.starts k x miss.1 start is
      ];
      left = λ k x at start is. elim (which_port ports buffer p q k x there at) as (λ w. L k start ⊎ HasRefusedBegin later start) [
        | inl hit ↦
            let own_is : x.own ≡ p.own ++ more = sym (ap (λ (z : Access). z.own) hit.1) ∙ own in
            let was : is_left_open (calls_after [] p.own) start ≡ true =
            sym (open-append p.own more start leaves) ∙ (sym (ap (λ (l : List BufferEntry). is_left_open (calls_after [] l) start) own_is) ∙ is) in
            subst (λ (j : ℕ). L j start ⊎ HasRefusedBegin later start) (sym hit.0) (still_left ports later start grow (fair.left buffer p there start was))
        | inr miss ↦ still_left ports later start grow (fair.left k x miss.1 start is)
      ];
    }

-- one call on one port that makes a mark
pub mark_ports : (B C L M : (buffer start : ℕ) → Type 0) (turns : List MemberTurn) (e : BufferEntry) (ports : List Access) (buffer : ℕ) (p q : Access) → slice_get ports buffer ≡ Some p → q.own ≡ p.own ++ e ∷ [] → IsFairCall (slice_set ports buffer q) turns e (calls_after [] p.own)
    → ((start : ℕ) → begun_by e start (has_begun (calls_after [] p.own) start) ≡ true → C buffer start)
    → ((start : ℕ) → left_open_by e start (is_left_open (calls_after [] p.own) start) ≡ true → M buffer start ⊎ HasRefusedBegin (slice_set ports buffer q) start)
    → ((k start : ℕ) → k ≢ buffer → B k start → C k start) → ((k start : ℕ) → k ≢ buffer → L k start → M k start) → FairPorts B L turns ports → FairPorts C M turns (slice_set ports buffer q)
mark_ports B C L M turns e ports buffer p q there own fair_here starts_here left_here starts_else left_else fair =
    let later : List Access = slice_set ports buffer q in
    let grow : PortsGrow ports later = put_grows ports buffer p q (e ∷ []) there own in
    record {
      begins = λ k x at. elim (which_port ports buffer p q k x there at) as (λ w. AreFairBegins later turns (calls_after [] x.own)) [
        | inl hit ↦
            let own_is : x.own ≡ p.own ++ e ∷ [] = sym (ap (λ (z : Access). z.own) hit.1) ∙ own in
            subst (λ (l : List BufferEntry). AreFairBegins later turns (calls_after [] l)) (sym own_is)
            (fair-push later turns p.own e fair_here (fair_still ports later turns turns grow (same_starts turns) (calls_after [] p.own) (fair.begins buffer p there)))
        | inr miss ↦ fair_still ports later turns turns grow (same_starts turns) (calls_after [] x.own) (fair.begins k x miss.1)
      ];
      starts = λ k x at start is. elim (which_port ports buffer p q k x there at) as (λ w. C k start) [
        | inl hit ↦
            let own_is : x.own ≡ p.own ++ e ∷ [] = sym (ap (λ (z : Access). z.own) hit.1) ∙ own in
            let was : begun_by e start (has_begun (calls_after [] p.own) start) ≡ true =
            sym (begun-push p.own e start) ∙ (sym (ap (λ (l : List BufferEntry). has_begun (calls_after [] l) start) own_is) ∙ is) in
            subst (λ (j : ℕ). C j start) (sym hit.0) (starts_here start was)
        | inr miss ↦ starts_else k start miss.0 (fair.starts k x miss.1 start is)
      ];
      left = λ k x at start is. elim (which_port ports buffer p q k x there at) as (λ w. M k start ⊎ HasRefusedBegin later start) [
        | inl hit ↦
            let own_is : x.own ≡ p.own ++ e ∷ [] = sym (ap (λ (z : Access). z.own) hit.1) ∙ own in
            let was : left_open_by e start (is_left_open (calls_after [] p.own) start) ≡ true =
            sym (open-push p.own e start) ∙ (sym (ap (λ (l : List BufferEntry). is_left_open (calls_after [] l) start) own_is) ∙ is) in
            subst (λ (j : ℕ). M j start ⊎ HasRefusedBegin later start) (sym hit.0) (left_here start was)
        | inr miss ↦ elim (fair.left k x miss.1 start is) as (λ w. M k start ⊎ HasRefusedBegin later start) [
          | inl open_there ↦ inl (left_else k start miss.0 open_there)
          | inr refused ↦ inr (refused_still ports later start grow refused)
        ]
      ];
    }

-- Channels and ports.

pub record Fair (Begun Left : (buffer start : ℕ) → Type 0) (turns : List MemberTurn) (slots : List (Option Channel)) (ports : List Access) : Type 0 where
  pub few : AttachesFew slots ports
  pub fair : FairPorts Begun Left turns ports

-- what is begun and what is left open is told otherwise
pub fair_as : (B C L M : (buffer start : ℕ) → Type 0) (turns : List MemberTurn) (slots : List (Option Channel)) (ports : List Access) → ((k : ℕ) (x : Access) (start : ℕ) → slice_get ports k ≡ Some x → B k start → C k start)
    → ((k : ℕ) (x : Access) (start : ℕ) → slice_get ports k ≡ Some x → L k start → M k start ⊎ HasRefusedBegin ports start) → Fair B L turns slots ports → Fair C M turns slots ports
fair_as B C L M turns slots ports begun left f = record {
  few = f.few;
  fair = record {
    begins = f.fair.begins;
    starts = λ k x at start is. begun k x start at (f.fair.starts k x at start is);
    left = λ k x at start is. elim (f.fair.left k x at start is) as (λ w. M k start ⊎ HasRefusedBegin ports start) [
      | inl was ↦ left k x start at was
      | inr refused ↦ inr refused
    ];
  };
}

-- behind other turns that have the same starts
pub fair_turns : (B L : (buffer start : ℕ) → Type 0) (turns others : List MemberTurn) (slots : List (Option Channel)) (ports : List Access) → StartsStay turns others → Fair B L turns slots ports → Fair B L others slots ports
fair_turns B L turns others slots ports stay f = record {
  few = f.few;
  fair = record {
    begins = λ k x at. fair_still ports ports turns others (same_ports ports) stay (calls_after [] x.own) (f.fair.begins k x at);
    starts = f.fair.starts;
    left = f.fair.left;
  };
}

-- channels that have the same clients
pub fair_slots : (B L : (buffer start : ℕ) → Type 0) (turns : List MemberTurn) (slots later : List (Option Channel)) (ports : List Access) → ((buffer : ℕ) → sum_by (channel_clients buffer) later ≡ sum_by (channel_clients buffer) slots) → Fair B L turns slots ports → Fair B L turns later ports
fair_slots B L turns slots later ports same f = record { few = λ buffer a at. omega (arith, f.few buffer a at, same buffer); fair = f.fair }

here_clients : (buffer : ℕ) (c : Channel) → c.spec.buffer ≡ buffer → channel_clients buffer (Some c) ≡ one_client c.client
here_clients buffer c is = rw (eq-eqb c.spec.buffer buffer is) refl

else_clients : (buffer : ℕ) (c : Channel) → c.spec.buffer ≢ buffer → channel_clients buffer (Some c) ≡ 0
else_clients buffer c other = rw (ne_eqb c.spec.buffer buffer other) refl

-- one channel is put in the place of another
pub clients_put : (buffer : ℕ) (slots : List (Option Channel)) (n : ℕ) (before after : Channel) → slot_at slots n ≡ Some before
    → sum_by (channel_clients buffer) (slice_set slots n (Some after)) + channel_clients buffer (Some before) ≡ sum_by (channel_clients buffer) slots + channel_clients buffer (Some after)
clients_put buffer slots n before after there =
    let sum : sum_by (channel_clients buffer) (slice_set slots n (Some after)) + channel_clients buffer (slot_at slots n) ≡ sum_by (channel_clients buffer) slots + channel_clients buffer (Some after) =
    sum_by-set (channel_clients buffer) slots n (Some after) None (slot_within slots n before there) in
    subst (λ (o : Option Channel). sum_by (channel_clients buffer) (slice_set slots n (Some after)) + channel_clients buffer o ≡ sum_by (channel_clients buffer) slots + channel_clients buffer (Some after)) there sum

pub same_client_put : (buffer : ℕ) (slots : List (Option Channel)) (n : ℕ) (before after : Channel) → slot_at slots n ≡ Some before → channel_clients buffer (Some after) ≡ channel_clients buffer (Some before)
    → sum_by (channel_clients buffer) (slice_set slots n (Some after)) ≡ sum_by (channel_clients buffer) slots
same_client_put buffer slots n before after there same = omega (arith, clients_put buffer slots n before after there, same)

noted_one : (note : ChannelStage → ChannelStage) (marked buffer : ℕ) (o : Option Channel) → channel_clients buffer (option_map (noted_channel note marked) o) ≡ channel_clients buffer o
noted_one note marked buffer None = refl
noted_one note marked buffer (Some c) =
    split (c.spec.buffer == marked) (λ b. channel_clients buffer (Some (if b then record c { stage = note c.stage } else c)) ≡ channel_clients buffer (Some c)) (λ h. refl) (λ h. refl)

noted_clients : (note : ChannelStage → ChannelStage) (marked buffer : ℕ) (slots : List (Option Channel)) → sum_by (channel_clients buffer) (map (option_map (noted_channel note marked)) slots) ≡ sum_by (channel_clients buffer) slots
noted_clients note marked buffer [] = refl
noted_clients note marked buffer (o ∷ os) =
    omega (
      arith,
      noted_one note marked buffer o,
      noted_clients note marked buffer os,
      sum_by-cons (channel_clients buffer) (option_map (noted_channel note marked) o) (map (option_map (noted_channel note marked)) os),
      sum_by-cons (channel_clients buffer) o os,
    )

-- Steps of one channel.

-- more calls on a port, none of which makes a mark; of its clients one more may be attached, where the channel had none
pub record CallsQuietly (p q : Access) (before after : Option ℕ) : Type 0 where
  pub more : List BufferEntry
  pub own : q.own ≡ p.own ++ more
  pub quiet : EachCall MakesNoMark more
  pub attached : attaches_made q.own + one_client before ≤ attaches_made p.own + one_client after

pub quietly_same : (p q : Access) (before after : Option ℕ) → q ≡ p → after ≡ before → CallsQuietly p q before after
quietly_same p q before after same client =
    let now : CallsQuietly p p before before = record { more = []; own = sym (append-nil p.own); quiet = tt; attached = omega arith } in
    rw (same, client) now

pub quietly_call : (p q : Access) (e : BufferEntry) (got : List GotEvent) (before after : Option ℕ) → PortCalled p q e got → MakesNoMark e → attaches_by e + one_client before ≤ one_client after → CallsQuietly p q before after
quietly_call p q e got before after called none few =
    let sum : attaches_made q.own ≡ attaches_made p.own + attaches_made (e ∷ []) = ap attaches_made called.own ∙ attaches-append p.own (e ∷ []) in
    record { more = e ∷ []; own = called.own; quiet = (none, tt); attached = omega (arith, sum, few) }

each_both : (P : BufferEntry → Type 0) (xs ys : List BufferEntry) → EachCall P xs → EachCall P ys → EachCall P (xs ++ ys)
each_both P [] ys first second = second
each_both P (x ∷ xs) ys first second = (first.0, each_both P xs ys first.1 second)

pub quietly_then : (p q r : Access) (before between after : Option ℕ) → CallsQuietly p q before between → CallsQuietly q r between after → CallsQuietly p r before after
quietly_then p q r before between after first second = record {
  more = first.more ++ second.more;
  own = second.own ∙ (ap (λ (l : List BufferEntry). l ++ second.more) first.own ∙ append_assoc p.own first.more second.more);
  quiet = each_both MakesNoMark first.more second.more first.quiet second.quiet;
  attached = omega (arith, first.attached, second.attached);
}

-- one channel makes such calls
pub channel_step : (Step : ChannelStep → Type 0) (B L : (buffer start : ℕ) → Type 0) (turns : List MemberTurn) (n : ℕ) (before : Channel) (a b : LoggerMoment) (s : StepsChannel Step n before a b) → slot_at a.slots n ≡ Some before → s.after.spec ≡ before.spec
    → CallsQuietly s.port s.later_port before.client s.after.client → Fair B L turns a.slots a.ports → Fair B L turns b.slots b.ports
channel_step Step B L turns n before a b s there spec calls f =
    let buffer : ℕ = before.spec.buffer in
    let same_buffer : s.after.spec.buffer ≡ buffer = ap (λ (x : ChannelSpec). x.buffer) spec in
    let few : AttachesFew (slice_set a.slots n (Some s.after)) (slice_set a.ports buffer s.later_port) =
    λ k x at.
    let put : sum_by (channel_clients k) (slice_set a.slots n (Some s.after)) + channel_clients k (Some before) ≡ sum_by (channel_clients k) a.slots + channel_clients k (Some s.after) = clients_put k a.slots n before s.after there in
    elim (which_port a.ports buffer s.port s.later_port k x s.at_port at) as (λ w. attaches_made x.own ≤ sum_by (channel_clients k) (slice_set a.slots n (Some s.after))) [
      | inl hit ↦
          let made : attaches_made x.own ≡ attaches_made s.later_port.own = ap (λ (z : Access). attaches_made z.own) (sym hit.1) in
          let were : attaches_made s.port.own ≤ sum_by (channel_clients k) a.slots = f.few k s.port (subst (λ (j : ℕ). slice_get a.ports j ≡ Some s.port) (sym hit.0) s.at_port) in
          let first : channel_clients k (Some before) ≡ one_client before.client = here_clients k before (sym hit.0) in
          let second : channel_clients k (Some s.after) ≡ one_client s.after.client = here_clients k s.after (same_buffer ∙ sym hit.0) in
          omega (arith, made, were, first, second, put, calls.attached)
      | inr miss ↦
          let were : attaches_made x.own ≤ sum_by (channel_clients k) a.slots = f.few k x miss.1 in
          let first : channel_clients k (Some before) ≡ 0 = else_clients k before (λ e. miss.0 (sym e)) in
          let second : channel_clients k (Some s.after) ≡ 0 = else_clients k s.after (λ e. miss.0 (sym (sym same_buffer ∙ e))) in
          omega (arith, were, first, second, put)
    ] in
    let now : Fair B L turns (slice_set a.slots n (Some s.after)) (slice_set a.ports buffer s.later_port) = record {
      few = few;
      fair = quiet_ports B L turns a.ports buffer s.port s.later_port calls.more s.at_port calls.own calls.quiet f.fair;
    } in
    rw (s.slots, s.ports) now

-- Calls on one buffer.

pub call_step : (B C L M : (buffer start : ℕ) → Type 0) (turns : List MemberTurn) (e : BufferEntry) (buffer : ℕ) (a b : LoggerMoment) (c : CallsBuffer e buffer a b) → attaches_by e ≡ 0 → IsFairCall (slice_set a.ports buffer c.later_port) turns e (calls_after [] c.port.own)
    → ((start : ℕ) → begun_by e start (has_begun (calls_after [] c.port.own) start) ≡ true → C buffer start)
    → ((start : ℕ) → left_open_by e start (is_left_open (calls_after [] c.port.own) start) ≡ true → M buffer start ⊎ HasRefusedBegin (slice_set a.ports buffer c.later_port) start)
    → ((k start : ℕ) → k ≢ buffer → B k start → C k start) → ((k start : ℕ) → k ≢ buffer → L k start → M k start) → Fair B L turns a.slots a.ports → Fair C M turns b.slots b.ports
call_step B C L M turns e buffer a b c none fair_here starts_here left_here starts_else left_else f =
    let sum : attaches_made c.later_port.own ≡ attaches_made c.port.own + attaches_made (e ∷ []) = ap attaches_made c.called.own ∙ attaches-append c.port.own (e ∷ []) in
    let now : Fair C M turns a.slots (slice_set a.ports buffer c.later_port) = record {
      few = λ k x at. elim (which_port a.ports buffer c.port c.later_port k x c.at_port at) as (λ w. attaches_made x.own ≤ sum_by (channel_clients k) a.slots) [
        | inl hit ↦
            let made : attaches_made x.own ≡ attaches_made c.later_port.own = ap (λ (z : Access). attaches_made z.own) (sym hit.1) in
            let were : attaches_made c.port.own ≤ sum_by (channel_clients k) a.slots = f.few k c.port (subst (λ (j : ℕ). slice_get a.ports j ≡ Some c.port) (sym hit.0) c.at_port) in
            omega (arith, made, were, sum, none)
        | inr miss ↦ f.few k x miss.1
      ];
      fair = mark_ports B C L M turns e a.ports buffer c.port c.later_port c.at_port c.called.own fair_here starts_here left_here starts_else left_else f.fair;
    } in
    rw (c.slots, c.ports) now

-- that the channels of the buffer note
pub noted_step : (B L : (buffer start : ℕ) → Type 0) (turns : List MemberTurn) (e : BufferEntry) (note : ChannelStage → ChannelStage) (buffer : ℕ) (a b : LoggerMoment) → MarksBuffer e note buffer a b → Fair B L turns a.slots b.ports → Fair B L turns b.slots b.ports
noted_step B L turns e note buffer a b marks f =
    let now : Fair B L turns (map (option_map (noted_channel note buffer)) a.slots) b.ports = fair_slots B L turns a.slots (map (option_map (noted_channel note buffer)) a.slots) b.ports (λ k. noted_clients note buffer k a.slots) f in
    rw marks.noted now

-- the port behind the call has that call
pub refused_there : (ports : List Access) (buffer : ℕ) (p q : Access) (start : ℕ) (why : MarkRefusal) (got : List GotEvent) → slice_get ports buffer ≡ Some p → PortCalled p q (Begin start (Err why)) got → HasRefusedBegin (slice_set ports buffer q) start
refused_there ports buffer p q start why got there called = record {
  buffer = buffer;
  port = q;
  at = got_there ports buffer p q there;
  why = why;
  among = subst (λ (l : List BufferEntry). Contains l (Begin start (Err why))) (sym called.own) (Contains-append_right p.own (Begin start (Err why) ∷ []) (Begin start (Err why)) (0, omega arith, refl));
}

-- what a call that was made leaves of refusals
pub refused_on : (ports : List Access) (buffer : ℕ) (p q : Access) (e : BufferEntry) (got : List GotEvent) (start : ℕ) → slice_get ports buffer ≡ Some p → PortCalled p q e got → HasRefusedBegin ports start → HasRefusedBegin (slice_set ports buffer q) start
refused_on ports buffer p q e got start there called refused = refused_still ports (slice_set ports buffer q) start (put_grows ports buffer p q (e ∷ []) there called.own) refused
