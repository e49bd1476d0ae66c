-- The bytes of what a report counts are bounded by the slots of what the client got.
use Rattle.std.specs.Prelude.{◌≡◌, ℕ, ◌+◌, ◌^◌, ◌≤◌, ◌==◌, List, [], ◌∷◌, ◌++◌, length, IfSome, Option, Some, None, Bool, true, false, Result, Ok, Err, refl}
use Rattle.std.proofs.Common.{ap, sym, subst, ◌∙◌, inl, inr, arith}
use Rattle.std.proofs.lemmas.Bool.Decides.{eqb_tells}
use Rattle.daq_types.specs.declared.events.Event.{Event}
use Rattle.event.specs.Events.{slot_size, slot_of_length}
use Rattle.buffer_core.specs.declared.replies.Received.{Received}
use Rattle.buffer_core.specs.declared.replies.Received.TheVariants.{Got, Empty, NoClient, SmallBuf}
use Rattle.buffer_core.specs.Ports.{GotEvent, got_after, slots_got}
use Rattle.buffer_core.specs.declared.replies.RequestRefusal.{RequestRefusal}
use Rattle.buffer_core.specs.Ports.{Access}
use Rattle.daq_types.specs.declared.runs.Order.{Order}
use Rattle.daq_types.specs.declared.runs.Transition.{Transition}
use Rattle.daq_types.specs.declared.runs.Transition.TheVariants.{Start, Stop, Pause, Resume, StartAbort}
use Rattle.event_report.specs.Reports.{Totals, report_of}
use Rattle.event_report.proofs.Reports.{report_bytes}
use Rattle.member_model.specs.RunEngines.{Answer}
use Rattle.analyzers.specs.declared.analyzer_run.EventRequest.{EventRequest}
use Rattle.analyzers.specs.declared.analyzer_run.AnalyzerRun.{AnalyzerRun}
use Rattle.analyzers.specs.declared.analyzer_run.AnalyzerStage.{AnalyzerStage}
use Rattle.analyzers.specs.declared.analyzer_run.AnalyzerStage.TheVariants.{Counting, Draining, Drained}
use Rattle.analyzers.specs.Analyzers.{AnalyzerAt, IsWithinGot}
use Rattle.analyzers.specs.AnalyzerTurns.{StaysAt, BeginsBy, RequestsRun, StartsAnalyzer, StopsRun, StopsOwn, StopsAnalyzer, TurnsBy}
use Rattle.analyzers.specs.AnalyzerPulls.{got_bytes}

slot_room : (e : Event) → 16 + length e.body ≤ slot_size e
unfolding slot_of_length
slot_room e = omega arith

one_slot : (client place start : ℕ) (e : Event) → slot_size e ≤ slots_got client (record { client = client; place = place; start = start; event = e } ∷ [])
one_slot client place start e = elim (eqb_tells client client) as (λ w. slot_size e ≤ slots_got client (record { client = client; place = place; start = start; event = e } ∷ [])) [
  | inl same ↦ rw same.0 (omega arith)
  | inr other ↦ absurd (other.1 refl)
]

slots_push : (client : ℕ) (got : List GotEvent) (g : GotEvent) → slots_got client (got ++ g ∷ []) ≡ slots_got client got + slots_got client (g ∷ [])
slots_push client [] g = omega arith
slots_push client (x ∷ xs) g = let later = slots_push client xs g in omega (arith, later)

-- what a receive gave is within what the client got by it
pub got_within : (client : ℕ) (got : List GotEvent) (reply : Received) (e : Event) → slots_got client got + got_bytes reply e ≤ slots_got client (got_after got client reply e)
got_within client got (Got place start) e =
    let whole = slots_push client got (record { client = client; place = place; start = start; event = e }) in
    let one = one_slot client place start e in
    omega (arith, whole, one, slot_room e)
got_within client got (Empty gate last) e = omega arith
got_within client got NoClient e = omega arith
got_within client got (SmallBuf need) e = omega arith

pub room_for : (client bytes : ℕ) (got later : List GotEvent) (reply : Received) (e : Event) → bytes ≤ slots_got client got → later ≡ got_after got client reply e → slots_got client later ≤ 2 ^ 62 → bytes + got_bytes reply e ≤ 2 ^ 62
room_for client bytes got later reply e within is few =
    let most = subst (λ (l : List GotEvent). slots_got client l ≤ 2 ^ 62) is few in
    let more = got_within client got reply e in
    omega (arith, within, most, more)

pub within_later : (client bytes more : ℕ) (got later : List GotEvent) (reply : Received) (e : Event) → bytes ≤ slots_got client got → later ≡ got_after got client reply e → more ≤ bytes + got_bytes reply e → more ≤ slots_got client later
within_later client bytes more got later reply e within is grows =
    let all = got_within client got reply e in
    subst (λ (l : List GotEvent). more ≤ slots_got client l) (sym is) (omega (arith, within, all, grows))

-- Turns.

blank_bytes : (blank : Totals) → blank ≡ report_of [] → blank.bytes ≡ 0
blank_bytes blank is = ap (λ (t : Totals). t.bytes) is ∙ report_bytes []

begun_within : (reply : Result ℕ RequestRefusal) (start client : ℕ) (blank : Totals) (run : Option AnalyzerRun) (answer : Answer) (got : List GotEvent) → blank ≡ report_of [] → BeginsBy reply start client blank run answer → IsWithinGot run got
begun_within (Ok number) start client blank run answer got is_blank begins =
    let none : blank.bytes ≡ 0 = blank_bytes blank is_blank in
    let within : blank.bytes ≤ slots_got client got = omega (arith, none) in
    rw begins.0 within
begun_within (Err why) start client blank run answer got is_blank begins = rw begins.0 tt

request_within : (wanted : EventRequest) (start : ℕ) (blank : Totals) (client : Option ℕ) (run : Option AnalyzerRun) (answer : Answer) (a b : Access) (got : List GotEvent) → blank ≡ report_of [] → RequestsRun wanted start blank client run answer a b → IsWithinGot run got
request_within wanted start blank None run answer a b got is_blank requests = rw requests.0 tt
request_within wanted start blank (Some client) run answer a b got is_blank requests = begun_within requests.0 start client blank run answer got is_blank requests.2

stays_within : (a b : AnalyzerAt) → StaysAt a b → IsWithinGot a.run a.port.got → IsWithinGot b.run b.port.got
stays_within a b stays within = rw (stays.1, stays.2) within

stop_within : (stage : AnalyzerStage) (r later : AnalyzerRun) (a b : Access) → StopsRun stage r later a b → r.report.bytes ≤ slots_got r.client a.got → later.report.bytes ≤ slots_got later.client b.got
stop_within Counting r later a b stops within = rw (stops.2, stops.1.got_is) within
stop_within (Draining accepted) r later a b stops within = rw (stops.0, stops.1) within
stop_within Drained r later a b stops within = rw (stops.0, stops.1) within

own_stop_within : (is_own : Bool) (client : Option ℕ) (r : AnalyzerRun) (port : Access) (b : AnalyzerAt) (answer : Option Answer) → StopsOwn is_own r (record { client = client; run = Some r; port = port }) b answer → IsWithinGot (Some r) port.got → IsWithinGot b.run b.port.got
own_stop_within true client r port b answer stops within = rw stops.run (stop_within r.stage r stops.later port b.port stops.stops within)
own_stop_within false client r port b answer stops within = stays_within (record { client = client; run = Some r; port = port }) b stops.1 within

stops_within : (client : Option ℕ) (run : Option AnalyzerRun) (start : ℕ) (port : Access) (b : AnalyzerAt) (answer : Option Answer) → StopsAnalyzer run start (record { client = client; run = run; port = port }) b answer → IsWithinGot run port.got → IsWithinGot b.run b.port.got
stops_within client None start port b answer stops within = stays_within (record { client = client; run = None; port = port }) b stops.1 within
stops_within client (Some r) start port b answer stops within = own_stop_within (r.start == start) client r port b answer stops within

starts_within : (blank : Option Totals) (wanted : EventRequest) (start : ℕ) (a b : AnalyzerAt) (answer : Answer) → IfSome blank (λ (report : Totals). report ≡ report_of []) → StartsAnalyzer blank wanted start a b answer → IsWithinGot a.run a.port.got → IsWithinGot b.run b.port.got
starts_within None wanted start a b answer is_blank starts within = stays_within a b starts.1 within
starts_within (Some blank) wanted start a b answer is_blank starts within = request_within wanted start blank b.client b.run answer starts.attached b.port b.port.got is_blank starts.request

pub turn_within : (transition : Transition) (wanted : EventRequest) (order : Order) (blank : Option Totals) (client : Option ℕ) (run : Option AnalyzerRun) (port : Access) (b : AnalyzerAt) (answer : Option Answer) → IfSome blank (λ (report : Totals). report ≡ report_of [])
    → TurnsBy transition wanted order blank (record { client = client; run = run; port = port }) b answer → IsWithinGot run port.got → IsWithinGot b.run b.port.got
turn_within Start wanted order blank client run port b answer is_blank by within = starts_within blank wanted order.start (record { client = client; run = run; port = port }) b by.0 is_blank by.2 within
turn_within Stop wanted order blank client run port b answer is_blank by within = stops_within client run order.start port b answer by within
turn_within Pause wanted order blank client run port b answer is_blank by within = stays_within (record { client = client; run = run; port = port }) b by.1 within
turn_within Resume wanted order blank client run port b answer is_blank by within = stays_within (record { client = client; run = run; port = port }) b by.1 within
turn_within StartAbort wanted order blank client run port b answer is_blank by within = rw by.2 tt
