-- A pause of a run that its caller left open pauses the run, and a resume does not leave it paused; and no event of a run is accepted
-- while it is paused.
use Rattle.std.specs.Prelude.{◌≡◌, ◌≢◌, ℕ, ◌==◌, Bool, true, false, if◌then◌else◌, Contains, List, [], ◌∷◌, ◌++◌, Result, Ok, Err, refl, ◌⊎◌}
use Rattle.std.proofs.Common.{ap, sym, ◌∙◌, subst, inl, inr, eq-eqb}
use Rattle.std.proofs.lemmas.Bool.{eqb-true}
use Rattle.std.proofs.lemmas.Bool.Decides.{eqb_tells}
use Rattle.std.proofs.lemmas.List.Elements.{Contains-push, Contains-append_left, Contains-append_right}
use Rattle.daq_types.specs.Callers.{entries_by}
use Rattle.buffer_core.specs.declared.gate.RunGate.{RunGate}
use Rattle.buffer_core.specs.declared.gate.RunGate.TheVariants.{Shut, Running, Paused}
use Rattle.buffer_core.specs.declared.replies.MarkRefusal.{MarkRefusal}
use Rattle.buffer_core.specs.declared.replies.Received.TheVariants.{Got, Empty, NoClient as NoReader, SmallBuf}
use Rattle.buffer_core.specs.declared.entry.BufferEntry.{BufferEntry}
use Rattle.buffer_core.specs.declared.entry.BufferEntry.TheVariants.{Attach, Detach, Request, Cancel, Send, SendInRun, Receive, Begin, Pause, Resume, End, Level, Accepted}
use Rattle.buffer_core.proofs.SlotLaws.{split}
use Rattle.buffer_core.specs.Window.{Window, opening, accepted_of}
use Rattle.buffer_core.specs.Calls.{is_running, is_paused, is_open, begin_reply_at, mark_reply, IsReply, window_after}
use Rattle.buffer_core.specs.Histories.{IsLegal, replay}
use Rattle.buffer_core.specs.Points.{past_after, past_of}
use Rattle.buffer_core.specs.Runs.{mark_of, paused_after, is_paused_at, NeverInPause}
use Rattle.member_model.specs.EndedRuns.{MakesNoMark}
use Rattle.member_model.specs.FairCalls.{left_open_by, is_left_open}
use Rattle.history_laws.specs.BufferLaws.{BufferLaws}
use Rattle.history_laws.specs.PausedRuns.{HasUnpaused, PausesAreSet, ResumesAreSet, PausesAreKept}
use Rattle.history_laws.proofs.Pasts.{past_after-append, own_cases, own_after}
use Rattle.history_laws.proofs.EndedRuns.{open_or_ended, running_open, paused_open, was_right, legal_behind}
use Rattle.history_laws.proofs.RefusedBegins.{OthersMark, first_marks_none, rest_alone}

-- The gate is open for each run that the caller left open.

abbrev OpensLeft : Window → List BufferEntry → Type 0
OpensLeft w own = (start : ℕ) → is_left_open own start ≡ true → is_open w.gate start ≡ true

-- a run that is left open behind a call was begun by it, or was so before, and the call is no end of it
abbrev WasLeft : BufferEntry → (start : ℕ) → (before : Bool) → Type 0
WasLeft e start before = ((place : ℕ) × (e ≡ Begin start (Ok place))) ⊎ ((before ≡ true) × ((place : ℕ) → e ≢ End start (Ok place)))

was_left : (e : BufferEntry) (start : ℕ) (before : Bool) → left_open_by e start before ≡ true → WasLeft e start before
was_left (Begin s (Ok n)) start before is = elim (eqb_tells s start) as (λ w. WasLeft (Begin s (Ok n)) start before) [
  | inl same ↦ inl (n, ap (λ (k : ℕ). Begin k (Ok n)) same.1)
  | inr other ↦ inr (rw other.0 at is, λ place same. cc (same))
]
was_left (End s reply) start before is = elim (eqb_tells s start) as (λ w. WasLeft (End s reply) start before) [
  | inl same ↦ absurd (let never : false ≡ true = rw same.0 at is in cc (never))
  | inr other ↦ inr (rw other.0 at is, λ place same. other.1 (let number : s ≡ start = cc (same) in number))
]
was_left e start before is = inr (is, λ place same. cc (same))

still_open : (w : Window) (e : BufferEntry) (start : ℕ) → IsReply w e → is_open w.gate start ≡ true → ((place : ℕ) → e ≢ End start (Ok place)) → is_open (window_after w e).gate start ≡ true
still_open w e start told opened no_end = elim (open_or_ended w e start told opened) as (λ x. is_open (window_after w e).gate start ≡ true) [
  | inl still ↦ still
  | inr ended ↦ absurd (no_end ended.0 ended.1)
]

own_opens : (w : Window) (e : BufferEntry) (own : List BufferEntry) → IsReply w e → OpensLeft w own → OpensLeft (window_after w e) (e ∷ own)
own_opens w e own told opens start is = elim (was_left e start (is_left_open own start) is) as (λ x. is_open (window_after w e).gate start ≡ true) [
  | inl begun ↦ subst (λ (f : BufferEntry). is_open (window_after w f).gate start ≡ true) (sym begun.1) (eq-eqb start start refl)
  | inr was ↦ still_open w e start told (opens start was.0) was.1
]

no_mark_ends : (e : BufferEntry) (start place : ℕ) → MakesNoMark e → e ≢ End start (Ok place)
no_mark_ends e start place none same = subst MakesNoMark same none

opens_step : (w : Window) (x : ℕ × BufferEntry) (past h : List (ℕ × BufferEntry)) (caller : ℕ) → OthersMark (x ∷ h) caller → IsReply w x.1 → OpensLeft w (entries_by caller past) → OpensLeft (window_after w x.1) (entries_by caller (x ∷ past))
opens_step w x past h caller alone told opens =
    own_cases caller x past (λ es. OpensLeft (window_after w x.1) es)
    (λ same. own_opens w x.1 (entries_by caller past) told opens)
    (λ other start is. still_open w x.1 start told (opens start is) (λ place. no_mark_ends x.1 start place (first_marks_none x h caller alone other)))

opens_along : (w : Window) (past es rest : List (ℕ × BufferEntry)) (caller : ℕ) → OthersMark (es ++ rest) caller → IsLegal w (es ++ rest) → OpensLeft w (entries_by caller past) → OpensLeft (replay w es) (entries_by caller (past_after past es))
opens_along w past [] rest caller alone legal opens = opens
opens_along w past (x ∷ es) rest caller alone legal opens =
    opens_along (window_after w x.1) (x ∷ past) es rest caller (rest_alone x (es ++ rest) caller alone) legal.1
    (opens_step w x past (es ++ rest) caller alone legal.0 opens)

-- The gate is paused for the runs that the accepted marks tell.

abbrev TellsPaused : Window → List (ℕ × BufferEntry) → Type 0
TellsPaused w past = (start : ℕ) → is_paused_at past start ≡ is_paused w.gate start

begun_unpaused : (g : RunGate) (last start accepted place other : ℕ) → Ok place ≡ begin_reply_at g last start accepted → is_paused g other ≡ false
begun_unpaused Shut last start accepted place other told = refl
begun_unpaused (Running s) last start accepted place other told = refl
begun_unpaused (Paused s) last start accepted place other told = absurd (cc (told))

-- a gate that is open for one run is paused for no other
other_unpaused : (g : RunGate) (start other : ℕ) → is_open g start ≡ true → (start == other) ≡ false → is_paused g other ≡ false
other_unpaused Shut start other opened differs = refl
other_unpaused (Running s) start other opened differs = refl
other_unpaused (Paused s) start other opened differs = subst (λ (k : ℕ). (k == other) ≡ false) (sym (eqb-true s start opened)) differs

-- a mark of one run, which finds the gate open for it, and what it makes of that run
marked_paused : (g : RunGate) (s start : ℕ) (before now : Bool) → is_open g s ≡ true → before ≡ is_paused g start → (if s == start then now else before) ≡ (if s == start then now else false)
marked_paused g s start before now opened tells = elim (eqb_tells s start) as (λ x. (if s == start then now else before) ≡ (if s == start then now else false)) [
  | inl same ↦ rw same.0 refl
  | inr other ↦ rw other.0 (tells ∙ other_unpaused g s start opened other.0)
]

if_same : (b : Bool) → (if b then true else false) ≡ b
if_same true = refl
if_same false = refl

if_none : (b : Bool) → (if b then false else false) ≡ false
if_none true = refl
if_none false = refl

paused_step : (w : Window) (past : List (ℕ × BufferEntry)) (by : ℕ) (e : BufferEntry) → IsReply w e → TellsPaused w past → TellsPaused (window_after w e) ((by, e) ∷ past)
paused_step w past by (Begin s (Ok n)) told tells start = tells start ∙ begun_unpaused w.gate w.last s (accepted_of w) n start told
paused_step w past by (Pause s (Ok n)) told tells start =
    marked_paused w.gate s start (is_paused_at past start) true (running_open w.gate s (was_right (is_running w.gate s) w n told)) (tells start) ∙ if_same (s == start)
paused_step w past by (Resume s (Ok n)) told tells start =
    marked_paused w.gate s start (is_paused_at past start) false (paused_open w.gate s (was_right (is_paused w.gate s) w n told)) (tells start) ∙ if_none (s == start)
paused_step w past by (End s (Ok n)) told tells start =
    marked_paused w.gate s start (is_paused_at past start) false (was_right (is_open w.gate s) w n told) (tells start) ∙ if_none (s == start)
paused_step w past by (Begin s (Err why)) told tells start = tells start
paused_step w past by (Pause s (Err why)) told tells start = tells start
paused_step w past by (Resume s (Err why)) told tells start = tells start
paused_step w past by (End s (Err why)) told tells start = tells start
paused_step w past by (Attach name (Ok n)) told tells start = tells start
paused_step w past by (Attach name (Err r)) told tells start = tells start
paused_step w past by (Detach client (Ok u)) told tells start = tells start
paused_step w past by (Detach client (Err r)) told tells start = tells start
paused_step w past by (Request client id mask kind (Ok n)) told tells start = tells start
paused_step w past by (Request client id mask kind (Err r)) told tells start = tells start
paused_step w past by (Cancel client number (Ok u)) told tells start = tells start
paused_step w past by (Cancel client number (Err r)) told tells start = tells start
paused_step w past by (Send stated event (Ok n)) told tells start = tells start
paused_step w past by (Send stated event (Err r)) told tells start = tells start
paused_step w past by (SendInRun s stated event (Ok n)) told tells start = tells start
paused_step w past by (SendInRun s stated event (Err r)) told tells start = tells start
paused_step w past by (Receive client room (Got place s)) told tells start = tells start
paused_step w past by (Receive client room (Empty gate last)) told tells start = tells start
paused_step w past by (Receive client room NoReader) told tells start = tells start
paused_step w past by (Receive client room (SmallBuf need)) told tells start = tells start
paused_step w past by (Level n) told tells start = tells start
paused_step w past by (Accepted n) told tells start = tells start

paused_along : (w : Window) (past es rest : List (ℕ × BufferEntry)) → IsLegal w (es ++ rest) → TellsPaused w past → TellsPaused (replay w es) (past_after past es)
paused_along w past [] rest legal tells = tells
paused_along w past (x ∷ es) rest legal tells = paused_along (window_after w x.1) (x ∷ past) es rest legal.1 (paused_step w past x.0 x.1 legal.0 tells)

-- A pause and a resume, with any reply.

-- a mark that was refused found the gate not so
was_wrong : (right : Bool) (w : Window) (why : MarkRefusal) → Err why ≡ mark_reply right w → right ≡ false
was_wrong true w why told = absurd (cc (told))
was_wrong false w why told = refl

open_paused : (g : RunGate) (start : ℕ) → is_open g start ≡ true → is_running g start ≡ false → is_paused g start ≡ true
open_paused Shut start opened still = absurd (cc (opened))
open_paused (Running s) start opened still = absurd (let never : true ≡ false = sym opened ∙ still in cc (never))
open_paused (Paused s) start opened still = opened

pause_set : (w : Window) (past : List (ℕ × BufferEntry)) (by start : ℕ) (reply : Result ℕ MarkRefusal) → IsReply w (Pause start reply) → TellsPaused w past → is_open w.gate start ≡ true → is_paused_at ((by, Pause start reply) ∷ past) start ≡ true
pause_set w past by start (Ok n) told tells opened = ap (λ (b : Bool). if b then true else is_paused_at past start) (eq-eqb start start refl)
pause_set w past by start (Err why) told tells opened = tells start ∙ open_paused w.gate start opened (was_wrong (is_running w.gate start) w why told)

resume_set : (w : Window) (past : List (ℕ × BufferEntry)) (by start : ℕ) (reply : Result ℕ MarkRefusal) → IsReply w (Resume start reply) → TellsPaused w past → is_paused_at ((by, Resume start reply) ∷ past) start ≡ false
resume_set w past by start (Ok n) told tells = ap (λ (b : Bool). if b then false else is_paused_at past start) (eq-eqb start start refl)
resume_set w past by start (Err why) told tells = tells start ∙ was_wrong (is_paused w.gate start) w why told

-- what is known where a call stands
tells_there : (size : ℕ) (before rest : List (ℕ × BufferEntry)) → IsLegal (opening size) (before ++ rest) → TellsPaused (replay (opening size) before) (past_of before)
tells_there size before rest legal = paused_along (opening size) [] before rest legal (λ start. refl)

pub pauses_are_set : PausesAreSet
pauses_are_set size history caller legal alone before after start reply is left =
    let rest : List (ℕ × BufferEntry) = (caller, Pause start reply) ∷ after in
    let w : Window = replay (opening size) before in
    let whole : IsLegal (opening size) (before ++ rest) = subst (IsLegal (opening size)) is legal in
    let there : IsLegal w rest = legal_behind (opening size) before rest whole in
    let opens : OpensLeft w (entries_by caller (past_of before)) =
    opens_along (opening size) [] before rest caller (subst (λ (l : List (ℕ × BufferEntry)). OthersMark l caller) is alone) whole (λ k none. absurd (cc (none))) in
    let left_there : is_left_open (entries_by caller (past_of before)) start ≡ true = ap (λ (es : List BufferEntry). is_left_open es start) (own_after caller [] before) ∙ left in
    pause_set w (past_of before) caller start reply there.0 (tells_there size before rest whole) (opens start left_there)

pub resumes_are_set : ResumesAreSet
resumes_are_set size history caller legal before after start reply is =
    let rest : List (ℕ × BufferEntry) = (caller, Resume start reply) ∷ after in
    let w : Window = replay (opening size) before in
    let whole : IsLegal (opening size) (before ++ rest) = subst (IsLegal (opening size)) is legal in
    let there : IsLegal w rest = legal_behind (opening size) before rest whole in
    resume_set w (past_of before) caller start reply there.0 (tells_there size before rest whole)

-- Until the run is paused no more.

never_front : (past es : List (ℕ × BufferEntry)) → NeverInPause (past_after past es) → NeverInPause past
never_front past [] never = never
never_front past (e ∷ es) never = (never_front (e ∷ past) es never).1

alone_behind : (xs ys : List (ℕ × BufferEntry)) (caller : ℕ) → OthersMark (xs ++ ys) caller → OthersMark ys caller
alone_behind [] ys caller alone = alone
alone_behind (x ∷ xs) ys caller alone = alone_behind xs ys caller (rest_alone x (xs ++ ys) caller alone)

-- the call resumed or ended the run
abbrev Unpauses : BufferEntry → (start : ℕ) → Type 0
Unpauses e start = (place : ℕ) × ((e ≡ Resume start (Ok place)) ⊎ (e ≡ End start (Ok place)))

unpauses : (e : BufferEntry) (start : ℕ) → paused_after (mark_of e) start true ≡ false → Unpauses e start
unpauses (Resume s (Ok n)) start is = elim (eqb_tells s start) as (λ x. Unpauses (Resume s (Ok n)) start) [
  | inl same ↦ (n, inl (ap (λ (k : ℕ). Resume k (Ok n)) same.1))
  | inr other ↦ absurd (let never : true ≡ false = rw other.0 at is in cc (never))
]
unpauses (End s (Ok n)) start is = elim (eqb_tells s start) as (λ x. Unpauses (End s (Ok n)) start) [
  | inl same ↦ (n, inr (ap (λ (k : ℕ). End k (Ok n)) same.1))
  | inr other ↦ absurd (let never : true ≡ false = rw other.0 at is in cc (never))
]
unpauses (Pause s (Ok n)) start is = elim (eqb_tells s start) as (λ x. Unpauses (Pause s (Ok n)) start) [
  | inl same ↦ absurd (let never : true ≡ false = rw same.0 at is in cc (never))
  | inr other ↦ absurd (let never : true ≡ false = rw other.0 at is in cc (never))
]
unpauses (Begin s (Ok n)) start is = absurd (cc (is))
unpauses e start is = absurd (cc (is))

unpauses_marks : (e : BufferEntry) (start : ℕ) → Unpauses e start → MakesNoMark e → ⊥
unpauses_marks e start has none = elim has.1 as (λ x. ⊥) [
  | inl resumed ↦ subst MakesNoMark resumed none
  | inr ended ↦ subst MakesNoMark ended none
]

unpaused_here : (e : BufferEntry) (es : List BufferEntry) (start : ℕ) → Unpauses e start → HasUnpaused (e ∷ es) start
unpaused_here e es start has =
    let first : Contains (e ∷ es) e = Contains-append_left (e ∷ []) es e (Contains-push [] e) in (
      has.0,
      elim has.1 as (λ x. Contains (e ∷ es) (Resume start (Ok has.0)) ⊎ Contains (e ∷ es) (End start (Ok has.0))) [
        | inl resumed ↦ inl (subst (λ (f : BufferEntry). Contains (e ∷ es) f) resumed first)
        | inr ended ↦ inr (subst (λ (f : BufferEntry). Contains (e ∷ es) f) ended first)
      ],
    )

unpaused_later : (e : BufferEntry) (es : List BufferEntry) (start : ℕ) → HasUnpaused es start → HasUnpaused (e ∷ es) start
unpaused_later e es start has = (
  has.0,
  elim has.1 as (λ x. Contains (e ∷ es) (Resume start (Ok has.0)) ⊎ Contains (e ∷ es) (End start (Ok has.0))) [
    | inl resumed ↦ inl (Contains-append_right (e ∷ []) es (Resume start (Ok has.0)) resumed)
    | inr ended ↦ inr (Contains-append_right (e ∷ []) es (End start (Ok has.0)) ended)
  ],
)

unpaused_first : (x : ℕ × BufferEntry) (es h : List (ℕ × BufferEntry)) (caller start : ℕ) → OthersMark (x ∷ h) caller → Unpauses x.1 start → HasUnpaused (entries_by caller (x ∷ es)) start
unpaused_first x es h caller start alone has =
    own_cases caller x es (λ own. HasUnpaused own start)
    (λ same. unpaused_here x.1 (entries_by caller es) start has)
    (λ other. absurd (unpauses_marks x.1 start has (first_marks_none x h caller alone other)))

unpaused_rest : (x : ℕ × BufferEntry) (es : List (ℕ × BufferEntry)) (caller start : ℕ) → HasUnpaused (entries_by caller es) start → HasUnpaused (entries_by caller (x ∷ es)) start
unpaused_rest x es caller start has =
    own_cases caller x es (λ own. HasUnpaused own start) (λ same. unpaused_later x.1 (entries_by caller es) start has) (λ other. has)

unpaused_between : (past es rest : List (ℕ × BufferEntry)) (caller start : ℕ) → OthersMark (es ++ rest) caller → is_paused_at past start ≡ true → is_paused_at (past_after past es) start ≡ false → HasUnpaused (entries_by caller es) start
unpaused_between past [] rest caller start alone paused not = absurd (let never : true ≡ false = sym paused ∙ not in cc (never))
unpaused_between past (x ∷ es) rest caller start alone paused not =
    split (is_paused_at (x ∷ past) start) (λ b. is_paused_at (x ∷ past) start ≡ b → HasUnpaused (entries_by caller (x ∷ es)) start)
    (λ h still. unpaused_rest x es caller start (unpaused_between (x ∷ past) es rest caller start (rest_alone x (es ++ rest) caller alone) still not))
    (λ h over. unpaused_first x es (es ++ rest) caller start alone (unpauses x.1 start (ap (λ (b : Bool). paused_after (mark_of x.1) start b) (sym paused) ∙ over)))
    refl

pub pauses_are_kept : BufferLaws → PausesAreKept
pauses_are_kept laws size history caller legal alone before between after start reply sender stated place event is left =
    let pause : ℕ × BufferEntry = (caller, Pause start reply) in
    let send : ℕ × BufferEntry = (sender, SendInRun start stated event (Ok place)) in
    let rest : List (ℕ × BufferEntry) = between ++ send ∷ after in
    let past : List (ℕ × BufferEntry) = pause ∷ past_of before in
    let whole : past_of history ≡ past_after (send ∷ past_after past between) after =
    ap past_of is ∙ (past_after-append [] before (pause ∷ rest) ∙ past_after-append past between (send ∷ after)) in
    let never : NeverInPause (past_after (send ∷ past_after past between) after) = subst NeverInPause whole (laws.ordered size history legal).unpaused in
    let alone_there : OthersMark (pause ∷ rest) caller = alone_behind before (pause ∷ rest) caller (subst (λ (l : List (ℕ × BufferEntry)). OthersMark l caller) is alone) in
    unpaused_between past between (send ∷ after) caller start (rest_alone pause rest caller alone_there)
    (pauses_are_set size history caller legal alone before rest start reply is left)
    (never_front (send ∷ past_after past between) after never).0
