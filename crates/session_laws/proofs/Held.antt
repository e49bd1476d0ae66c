-- How many blank reports a start has left: at each point of a history, as many as its sheet had, or no fewer less than clients
-- that want one were given their turn.
use Rattle.std.specs.Prelude.{◌≡◌, ℕ, zero, suc, ◌+◌, ◌≤◌, ◌&&◌, nat_lt, Bool, true, false, if◌then◌else◌, drop, length, slice_get, List, [], ◌∷◌, ◌++◌, Option, Some, None, Ok, Err, refl, ⊤}
use Rattle.std.specs.Option.{option_map}
use Rattle.std.specs.List.{AllByRecursion}
use Rattle.std.proofs.Common.{ap, sym, ◌∙◌, subst, arith, append_assoc, append-nil}
use Rattle.daq_types.specs.Callers.{entries_by, main_caller}
use Rattle.daq_types.proofs.CallersLaws.{entries_by-append}
use Rattle.daq_types.specs.declared.runs.Transition.{Transition}
use Rattle.daq_types.specs.declared.runs.Transition.TheVariants.{Start, Stop, Pause, Resume, StartAbort}
use Rattle.transitions.specs.declared.sequences.Sequences.{Sequences}
use Rattle.event_report.specs.Reports.{Totals}
use Rattle.buffer_core.proofs.SlotLaws.{split}
use Rattle.transitions.specs.declared.client.Registered.{Registered}
use Rattle.transitions.specs.declared.replies.Polled.TheVariants.{Turn, Idle, Closed as PollClosed, NoClient}
use Rattle.transitions.specs.declared.replies.Progress.TheVariants.{Going, Done, None as NoneGoing}
use Rattle.transitions.specs.declared.replies.RegisterRefusal.TheVariants.{Closed as RegisterClosed, NoSlot}
use Rattle.transitions.specs.declared.entry.EngineEntry.TheVariants.{Register, Begin, Poll, Answer, Check, Close}
use Rattle.transitions.specs.Limits.{most_clients}
use Rattle.transitions.specs.Engines.{engine_opening}
use Rattle.transitions.specs.EngineCalls.{is_start, is_next, turn_of, without, begun, first_polled, polled_by, told, refused_by, answered_by, after_poll_by, after_answer_in, register_reply, register_reply_in, IsEngineReply, engine_after}
use Rattle.transitions.specs.EngineHistories.{engine_replay}
use Rattle.member_model.specs.RunEngines.{Sheet, Answer as ClientAnswer, EngineEntry, Underway, EngineState, EngineHistory, IsEngineCaller, IsLegalEngine}
use Rattle.history_laws.proofs.Standing.{next_called}
use Rattle.history_laws.proofs.Replies.{IsGiven, given_case, GivesTurn, gives_turn, Owes, owes, answered_case}
use Rattle.session_laws.specs.BlankLaws.{asked_by, reports_asked, AsksReports}
use Rattle.session_laws.proofs.Wanted.{one_if, wanted, total, total_without, wanted_push, called_few}

-- The start in progress was begun with this sheet, whose blank reports are those that are left and those that were given.
pub record StartHeld (h : EngineHistory) (clients : List Registered) (u : Underway) : Type 0 where
  pub earlier : EngineHistory
  pub later : EngineHistory
  pub caller : ℕ
  pub sheet : Sheet
  pub stands : h ≡ earlier ++ (caller, Begin Start sheet (Ok u.order.start)) ∷ later
  pub few : length sheet.blanks + total clients u.called ≤ length u.blanks + wanted clients

abbrev pub Held : EngineHistory → List Registered → Option Underway → Type 0
Held h clients None = ⊤
Held h clients (Some u) = is_start (turn_of u) ≡ true → StartHeld h clients u

pub record BlanksAt (h : EngineHistory) (client : ℕ) (clients : List Registered) (o : Option Underway) : Type 0 where
  pub held : Held h clients o
  pub asked : wanted clients ≤ reports_asked (entries_by main_caller h)
  pub mine : (c : Registered) → slice_get clients client ≡ Some c → c.wants_report ≡ true

-- One call more.

pub asked_append : (xs ys : List EngineEntry) → reports_asked (xs ++ ys) ≡ reports_asked xs + reports_asked ys
asked_append [] ys = omega arith
asked_append (x ∷ xs) ys = omega (arith, asked_append xs ys)

pub asked_more : (h later : EngineHistory) → reports_asked (entries_by main_caller h) ≤ reports_asked (entries_by main_caller (h ++ later))
asked_more h later =
    let whole : reports_asked (entries_by main_caller (h ++ later)) ≡ reports_asked (entries_by main_caller h ++ entries_by main_caller later) = ap reports_asked (entries_by-append main_caller h later) in
    omega (arith, asked_append (entries_by main_caller h) (entries_by main_caller later))

held_longer : (h : EngineHistory) (x : ℕ × EngineEntry) (clients : List Registered) (u v : Underway) → v.order.start ≡ u.order.start → (hold : StartHeld h clients u)
    → length hold.sheet.blanks + total clients v.called ≤ length v.blanks + wanted clients → StartHeld (h ++ x ∷ []) clients v
held_longer h x clients u v number hold few =
    let e : ℕ × EngineEntry = (hold.caller, Begin Start hold.sheet (Ok u.order.start)) in
    record {
      earlier = hold.earlier;
      later = hold.later ++ x ∷ [];
      caller = hold.caller;
      sheet = hold.sheet;
      stands = ap (λ (l : EngineHistory). l ++ x ∷ []) hold.stands
          ∙ (append_assoc hold.earlier (e ∷ hold.later) (x ∷ [])
          ∙ ap (λ (n : ℕ). hold.earlier ++ (hold.caller, Begin Start hold.sheet (Ok n)) ∷ (hold.later ++ x ∷ [])) (sym number));
      few = few;
    }

longer : (h : EngineHistory) (x : ℕ × EngineEntry) (clients : List Registered) (o : Option Underway) → Held h clients o → Held (h ++ x ∷ []) clients o
longer h x clients None held = tt
longer h x clients (Some u) held = λ starts. held_longer h x clients u u refl (held starts) (held starts).few

stays : (h : EngineHistory) (x : ℕ × EngineEntry) (client : ℕ) (clients : List Registered) (o : Option Underway) → BlanksAt h client clients o → BlanksAt (h ++ x ∷ []) client clients o
stays h x client clients o at = record { held = longer h x clients o at.held; asked = omega (arith, at.asked, asked_more h (x ∷ [])); mine = at.mine }

-- another transition in progress, or none
with_held : (h : EngineHistory) (x : ℕ × EngineEntry) (client : ℕ) (clients : List Registered) (o p : Option Underway) → BlanksAt h client clients o → Held (h ++ x ∷ []) clients p → BlanksAt (h ++ x ∷ []) client clients p
with_held h x client clients o p at held = record { held = held; asked = omega (arith, at.asked, asked_more h (x ∷ [])); mine = at.mine }

-- Begin.

begun_held : (h : EngineHistory) (by : ℕ) (s : EngineState) (t : Transition) (sheet : Sheet) (n : ℕ) → Held (h ++ (by, Begin t sheet (Ok n)) ∷ []) s.clients (Some (begun s t sheet n))
begun_held h by s Start sheet n = λ starts. record {
  earlier = h;
  later = [];
  caller = by;
  sheet = sheet;
  stands = refl;
  few = omega (arith, called_few Start s.clients);
}
begun_held h by s Stop sheet n = λ starts. absurd (cc (starts))
begun_held h by s Pause sheet n = λ starts. absurd (cc (starts))
begun_held h by s Resume sheet n = λ starts. absurd (cc (starts))
begun_held h by s StartAbort sheet n = λ starts. absurd (cc (starts))

-- Poll.

drop_one : (blanks : List Totals) → length blanks ≤ suc (length (drop 1 blanks))
drop_one [] = omega arith
drop_one (b ∷ blanks) = omega arith

first_few : (wants starts : Bool) (blanks : List Totals) (most called left all : ℕ) → one_if wants + left ≤ called → starts ≡ true → most + called ≤ length blanks + all → most + left ≤ length (if wants && starts then drop 1 blanks else blanks) + all
first_few true true blanks most called left all fewer is few = omega (arith, drop_one blanks)
first_few true false blanks most called left all fewer is few = absurd (cc (is))
first_few false starts blanks most called left all fewer is few = omega arith

first_held : (h : EngineHistory) (x : ℕ × EngineEntry) (clients : List Registered) (client : ℕ) (c : Registered) (u : Underway) → is_next u.polled u.called client ≡ true → slice_get clients client ≡ Some c → Held h clients (Some u) → Held (h ++ x ∷ []) clients (Some (first_polled client c u))
first_held h x clients client c u next at held = λ starts.
    let hold : StartHeld h clients u = held starts in
    held_longer h x clients u (first_polled client c u) refl hold
    (first_few c.wants_report (is_start (turn_of u)) u.blanks (length hold.sheet.blanks) (total clients u.called) (total clients (without client u.called)) (wanted clients) (total_without clients client c u.called at (next_called u client next)) starts hold.few)

polled_held : (h : EngineHistory) (x : ℕ × EngineEntry) (clients : List Registered) (client : ℕ) (c : Registered) (u : Underway) (dump : _) → IsGiven c u client dump → slice_get clients client ≡ Some c → Held h clients (Some u) → Held (h ++ x ∷ []) clients (Some (polled_by client c u))
polled_held h x clients client c u dump given at held =
    given_case (λ v. Held (h ++ x ∷ []) clients (Some v)) client c u dump given (λ again. longer h x clients (Some u) held) (λ first. first_held h x clients client c u first.next at held)

-- Answer.

answered_held : (h : EngineHistory) (x : ℕ × EngineEntry) (clients : List Registered) (client : ℕ) (answer : ClientAnswer) (u : Underway) → Held h clients (Some u) → Held (h ++ x ∷ []) clients (Some (answered_by clients client answer u))
answered_held h x clients client answer u held =
    answered_case (λ v. Held (h ++ x ∷ []) clients (Some v)) clients client answer u
    (λ tally is starts. held_longer h x clients u (told client tally u) refl (held starts) (held starts).few)
    (λ why is starts.
    let hold : StartHeld h clients u = held starts in
    held_longer h x clients u (refused_by client why u) refl hold (omega (arith, hold.few)))
    (λ v is kept starts. absurd (cc (starts)))

-- Register.

-- a client is registered while no transition is in progress, and gets the next number
record Registers (s : EngineState) (n : ℕ) : Type 0 where
  free : s.underway ≡ None
  number : n ≡ length s.clients

registers_in : (s : EngineState) (n : ℕ) (o : Option Underway) → s.underway ≡ o → Ok n ≡ register_reply_in o (length s.clients) → Registers s n
registers_in s n (Some u) is e = absurd (cc (e))
registers_in s n None is e =
    split (nat_lt (length s.clients) most_clients) (λ b. Ok n ≡ (if b then Ok (length s.clients) else Err NoSlot) → Registers s n)
    (λ h e'. record { free = is; number = cc (e') }) (λ h e'. absurd (cc (e'))) e

registers : (s : EngineState) (n : ℕ) → Ok n ≡ register_reply s → Registers s n
registers s n e =
    split s.closed (λ b. Ok n ≡ (if b then Err RegisterClosed else register_reply_in s.underway (length s.clients)) → Registers s n)
    (λ h e'. absurd (cc (e'))) (λ h e'. registers_in s n s.underway refl e') e

pushed_at : (cs : List Registered) (c d : Registered) (n : ℕ) → slice_get (cs ++ c ∷ []) n ≡ Some d → (n ≡ length cs → d.wants_report ≡ true) → ((e : Registered) → slice_get cs n ≡ Some e → e.wants_report ≡ true) → d.wants_report ≡ true
pushed_at [] c d zero at new old = new refl
pushed_at [] c d (suc n) at new old = absurd (cc (at))
pushed_at (x ∷ cs) c d zero at new old = old d at
pushed_at (x ∷ cs) c d (suc n) at new old = pushed_at cs c d n at (λ is. new (omega arith)) old

last_at : (cs : List Registered) (c d : Registered) (n : ℕ) → n ≡ length cs → slice_get (cs ++ c ∷ []) n ≡ Some d → d.wants_report ≡ c.wants_report
last_at [] c d zero is at = (let same : c ≡ d = cc (at) in ap (λ (r : Registered). r.wants_report) (sym same))
last_at [] c d (suc n) is at = absurd (omega arith)
last_at (x ∷ cs) c d zero is at = absurd (omega arith)
last_at (x ∷ cs) c d (suc n) is at = last_at cs c d n (omega arith) at

asked_one : (name : List ℕ) (sequences : Sequences) (dump report : Bool) (n : ℕ) → asked_by (Register name sequences dump report (Ok n)) ≡ one_if report
asked_one name sequences dump true n = refl
asked_one name sequences dump false n = refl

main_push : (h : EngineHistory) (by : ℕ) (e : EngineEntry) → by ≡ main_caller → reports_asked (entries_by main_caller (h ++ (by, e) ∷ [])) ≡ reports_asked (entries_by main_caller h) + asked_by e
main_push h by e main =
    let mine : entries_by main_caller ((by, e) ∷ []) ≡ e ∷ [] = ap (λ (k : ℕ). entries_by main_caller ((k, e) ∷ [])) main in
    let own : entries_by main_caller (h ++ (by, e) ∷ []) ≡ entries_by main_caller h ++ e ∷ [] = entries_by-append main_caller h ((by, e) ∷ []) ∙ ap (λ (l : List EngineEntry). entries_by main_caller h ++ l) mine in
    let whole : reports_asked (entries_by main_caller (h ++ (by, e) ∷ [])) ≡ reports_asked (entries_by main_caller h ++ e ∷ []) = ap reports_asked own in
    omega (arith, asked_append (entries_by main_caller h) (e ∷ []))

registered_at : (h : EngineHistory) (by client : ℕ) (s : EngineState) (c : Registered) (e : EngineEntry) (n : ℕ) → by ≡ main_caller → asked_by e ≡ one_if c.wants_report → Registers s n → (n ≡ client → c.wants_report ≡ true) → BlanksAt h client s.clients s.underway
    → BlanksAt (h ++ (by, e) ∷ []) client (s.clients ++ c ∷ []) s.underway
registered_at h by client s c e n main one r asks at = record {
  held = subst (Held (h ++ (by, e) ∷ []) (s.clients ++ c ∷ [])) (sym r.free) tt;
  asked = omega (arith, at.asked, main_push h by e main, wanted_push s.clients c);
  mine = λ d is.
      pushed_at s.clients c d client is
      (λ here. last_at s.clients c d client here is ∙ asks (r.number ∙ sym here))
      at.mine;
}

-- All calls.

pub blanks_step : (h : EngineHistory) (by client : ℕ) (s : EngineState) (e : EngineEntry) → IsEngineCaller by e → IsEngineReply s e → AsksReports client (by, e) → BlanksAt h client s.clients s.underway
    → BlanksAt (h ++ (by, e) ∷ []) client (engine_after s e).clients (engine_after s e).underway
blanks_step h by client s (Register name sequences dump report (Ok n)) may reply asks at =
    registered_at h by client s (record { name = name; sequences = sequences; wants_dump = dump; wants_report = report }) (Register name sequences dump report (Ok n)) n may (asked_one name sequences dump report n) (registers s n reply) asks at
blanks_step h by client s (Begin t sheet (Ok n)) may reply asks at =
    with_held h (by, Begin t sheet (Ok n)) client s.clients s.underway (Some (begun s t sheet n)) at (begun_held h by s t sheet n)
blanks_step h by client s (Poll other (Turn turn order dump blank)) may reply asks at =
    let x : ℕ × EngineEntry = (by, Poll other (Turn turn order dump blank)) in
    let p : GivesTurn s other turn order dump = gives_turn s other turn order dump blank reply in
    let held : Held (h ++ x ∷ []) s.clients (Some (polled_by other p.c p.u)) = polled_held h x s.clients other p.c p.u dump p.given p.client_is (subst (Held h s.clients) p.underway_is at.held) in
    subst (λ (o : Option Registered). BlanksAt (h ++ x ∷ []) client (after_poll_by s other o).clients (after_poll_by s other o).underway) (sym p.client_is)
    (subst (λ (o : Option Underway). BlanksAt (h ++ x ∷ []) client s.clients (option_map (polled_by other p.c) o)) (sym p.underway_is)
    (with_held h x client s.clients s.underway (Some (polled_by other p.c p.u)) at held))
blanks_step h by client s (Answer other answer (Ok done)) may reply asks at =
    let x : ℕ × EngineEntry = (by, Answer other answer (Ok done)) in
    let o : Owes s other = owes s other done reply in
    subst (λ (w : Option Underway). BlanksAt (h ++ x ∷ []) client (after_answer_in s other answer w).clients (after_answer_in s other answer w).underway) (sym o.underway_is)
    (with_held h x client s.clients s.underway (Some (answered_by s.clients other answer o.u)) at (answered_held h x s.clients other answer o.u (subst (Held h s.clients) o.underway_is at.held)))
blanks_step h by client s (Check (Done outcome) tallies) may reply asks at = with_held h (by, Check (Done outcome) tallies) client s.clients s.underway None at tt
blanks_step h by client s (Close (Ok done)) may reply asks at = stays h (by, Close (Ok done)) client s.clients s.underway at
blanks_step h by client s (Register name sequences dump report (Err r)) may reply asks at = stays h (by, Register name sequences dump report (Err r)) client s.clients s.underway at
blanks_step h by client s (Begin t sheet (Err r)) may reply asks at = stays h (by, Begin t sheet (Err r)) client s.clients s.underway at
blanks_step h by client s (Poll other (Idle state)) may reply asks at = stays h (by, Poll other (Idle state)) client s.clients s.underway at
blanks_step h by client s (Poll other PollClosed) may reply asks at = stays h (by, Poll other PollClosed) client s.clients s.underway at
blanks_step h by client s (Poll other NoClient) may reply asks at = stays h (by, Poll other NoClient) client s.clients s.underway at
blanks_step h by client s (Answer other answer (Err r)) may reply asks at = stays h (by, Answer other answer (Err r)) client s.clients s.underway at
blanks_step h by client s (Check Going tallies) may reply asks at = stays h (by, Check Going tallies) client s.clients s.underway at
blanks_step h by client s (Check NoneGoing tallies) may reply asks at = stays h (by, Check NoneGoing tallies) client s.clients s.underway at
blanks_step h by client s (Close (Err r)) may reply asks at = stays h (by, Close (Err r)) client s.clients s.underway at

pub blanks_all : (before : EngineHistory) (client : ℕ) (s : EngineState) (h : EngineHistory) → IsLegalEngine s h → AllByRecursion (AsksReports client) h → BlanksAt before client s.clients s.underway
    → BlanksAt (before ++ h) client (engine_replay s h).clients (engine_replay s h).underway
blanks_all before client s [] legal asks at = subst (λ (l : EngineHistory). BlanksAt l client s.clients s.underway) (sym (append-nil before)) at
blanks_all before client s (x ∷ h) legal asks at =
    let next : BlanksAt (before ++ x ∷ []) client (engine_after s x.1).clients (engine_after s x.1).underway = blanks_step before x.0 client s x.1 legal.0 legal.1 asks.0 at in
    subst (λ (l : EngineHistory). BlanksAt l client (engine_replay (engine_after s x.1) h).clients (engine_replay (engine_after s x.1) h).underway) (append_assoc before (x ∷ []) h)
    (blanks_all (before ++ x ∷ []) client (engine_after s x.1) h legal.2 asks.1 next)

pub blanks_told : (client : ℕ) (h : EngineHistory) → IsLegalEngine engine_opening h → AllByRecursion (AsksReports client) h → BlanksAt h client (engine_replay engine_opening h).clients (engine_replay engine_opening h).underway
blanks_told client h legal asks = blanks_all [] client engine_opening h legal asks (record { held = tt; asked = omega arith; mine = λ c at. absurd (cc (at)) })
