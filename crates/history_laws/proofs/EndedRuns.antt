-- A run that a caller began and then called to end was ended.
use Rattle.std.specs.Prelude.{◌≡◌, ℕ, ◌==◌, Bool, true, false, List, [], ◌∷◌, ◌++◌, Result, Ok, Err, refl, ◌⊎◌}
use Rattle.std.proofs.Common.{ap, sym, ◌∙◌, subst, inl, inr, eq-eqb}
use Rattle.std.proofs.lemmas.Bool.{eqb-true, eqb-false}
use Rattle.daq_types.specs.Callers.{entries_by}
use Rattle.daq_types.proofs.CallersLaws.{entries_by-append}
use Rattle.buffer_core.specs.declared.gate.RunGate.{RunGate}
use Rattle.buffer_core.specs.declared.gate.RunGate.TheVariants.{Shut, Running, Paused}
use Rattle.buffer_core.specs.declared.replies.MarkRefusal.{MarkRefusal}
use Rattle.buffer_core.specs.declared.replies.Received.TheVariants.{Got, Empty, NoClient as NoReader, SmallBuf}
use Rattle.buffer_core.specs.declared.entry.BufferEntry.{BufferEntry}
use Rattle.buffer_core.specs.declared.entry.BufferEntry.TheVariants.{Attach, Detach, Request, Cancel, Send, SendInRun, Receive, Begin, Pause, Resume, End, Level, Accepted}
use Rattle.buffer_core.proofs.SlotLaws.{split}
use Rattle.buffer_core.specs.Window.{Window, opening, accepted_of}
use Rattle.buffer_core.specs.Calls.{is_running, is_paused, is_open, begin_reply_at, mark_reply, IsReply, window_after}
use Rattle.buffer_core.specs.Histories.{IsLegal, replay}
use Rattle.member_model.specs.SentCalls.{IsSendInRun, EachCall}
use Rattle.member_model.specs.CutRuns.{MarksEnd}
use Rattle.member_model.specs.EndedRuns.{EndsBegun, MakesNoMark}
use Rattle.history_laws.specs.CallerLaws.{BegunIsEnded, SenderMakesNoMark}
use Rattle.history_laws.proofs.Pasts.{StandsIn, stands, entries_more}

-- The gate of a run that was begun, until that is ended.

-- the number of a gate that is open for two numbers
pub one_number : (g : RunGate) (n m : ℕ) → is_open g n ≡ true → is_open g m ≡ true → n ≡ m
one_number Shut n m one other = absurd (cc (one))
one_number (Running s) n m one other = sym (eqb-true s n one) ∙ eqb-true s m other
one_number (Paused s) n m one other = sym (eqb-true s n one) ∙ eqb-true s m other

pub running_open : (g : RunGate) (n : ℕ) → is_running g n ≡ true → is_open g n ≡ true
running_open Shut n is = is
running_open (Running s) n is = is
running_open (Paused s) n is = absurd (cc (is))

pub paused_open : (g : RunGate) (n : ℕ) → is_paused g n ≡ true → is_open g n ≡ true
paused_open Shut n is = is
paused_open (Running s) n is = absurd (cc (is))
paused_open (Paused s) n is = is

none_begins : (g : RunGate) (start last other accepted place : ℕ) → is_open g start ≡ true → Ok place ≡ begin_reply_at g last other accepted → ⊥
none_begins Shut start last other accepted place opened told = absurd (cc (opened))
none_begins (Running s) start last other accepted place opened told = cc (told)
none_begins (Paused s) start last other accepted place opened told = cc (told)

-- a mark that was accepted found the gate so
pub was_right : (right : Bool) (w : Window) (place : ℕ) → Ok place ≡ mark_reply right w → right ≡ true
was_right true w place told = refl
was_right false w place told = absurd (cc (told))

-- the gate is open for the run still, or the entry ended it
abbrev pub IsOpenOrEnded : Window → BufferEntry → (start : ℕ) → Type 0
IsOpenOrEnded w e start = (is_open (window_after w e).gate start ≡ true) ⊎ ((ended : ℕ) × (e ≡ End start (Ok ended)))

opens_same : (n start : ℕ) → start ≡ n → (n == start) ≡ true
opens_same n start is = eq-eqb n start (sym is)

pub open_or_ended : (w : Window) (e : BufferEntry) (start : ℕ) → IsReply w e → is_open w.gate start ≡ true → IsOpenOrEnded w e start
open_or_ended w (Attach name (Ok n)) start told opened = inl opened
open_or_ended w (Attach name (Err r)) start told opened = inl opened
open_or_ended w (Detach client (Ok u)) start told opened = inl opened
open_or_ended w (Detach client (Err r)) start told opened = inl opened
open_or_ended w (Request client id mask kind (Ok n)) start told opened = inl opened
open_or_ended w (Request client id mask kind (Err r)) start told opened = inl opened
open_or_ended w (Cancel client number (Ok u)) start told opened = inl opened
open_or_ended w (Cancel client number (Err r)) start told opened = inl opened
open_or_ended w (Send stated event (Ok n)) start told opened = inl opened
open_or_ended w (Send stated event (Err r)) start told opened = inl opened
open_or_ended w (SendInRun s stated event (Ok n)) start told opened = inl opened
open_or_ended w (SendInRun s stated event (Err r)) start told opened = inl opened
open_or_ended w (Receive client room (Got place s)) start told opened = inl opened
open_or_ended w (Receive client room (Empty gate last)) start told opened = inl opened
open_or_ended w (Receive client room NoReader) start told opened = inl opened
open_or_ended w (Receive client room (SmallBuf need)) start told opened = inl opened
open_or_ended w (Begin s (Ok n)) start told opened = absurd (none_begins w.gate start w.last s (accepted_of w) n opened told)
open_or_ended w (Begin s (Err r)) start told opened = inl opened
open_or_ended w (Pause s (Ok n)) start told opened =
    inl (opens_same s start (one_number w.gate start s opened (running_open w.gate s (was_right (is_running w.gate s) w n told))))
open_or_ended w (Pause s (Err r)) start told opened = inl opened
open_or_ended w (Resume s (Ok n)) start told opened =
    inl (opens_same s start (one_number w.gate start s opened (paused_open w.gate s (was_right (is_paused w.gate s) w n told))))
open_or_ended w (Resume s (Err r)) start told opened = inl opened
open_or_ended w (End s (Ok n)) start told opened =
    inr (n, ap (λ (k : ℕ). End k (Ok n)) (sym (one_number w.gate start s opened (was_right (is_open w.gate s) w n told))))
open_or_ended w (End s (Err r)) start told opened = inl opened
open_or_ended w (Level n) start told opened = inl opened
open_or_ended w (Accepted n) start told opened = inl opened

-- one of these entries ended the run
record EndsIn (es : List (ℕ × BufferEntry)) (start : ℕ) : Type 0 where
  by : ℕ
  ended : ℕ
  before : List (ℕ × BufferEntry)
  after : List (ℕ × BufferEntry)
  is : es ≡ before ++ (by, End start (Ok ended)) ∷ after

ends_here : (w : Window) (by start : ℕ) (reply : Result ℕ MarkRefusal) (after : List (ℕ × BufferEntry)) → is_open w.gate start ≡ true → reply ≡ mark_reply (is_open w.gate start) w → EndsIn ((by, End start reply) ∷ after) start
ends_here w by start reply after opened told = record {
  by = by;
  ended = accepted_of w;
  before = [];
  after = after;
  is = ap (λ (r : Result ℕ MarkRefusal). (by, End start r) ∷ after) (told ∙ ap (λ (b : Bool). mark_reply b w) opened);
}

ends_first : (x : ℕ × BufferEntry) (es : List (ℕ × BufferEntry)) (start ended : ℕ) → x.1 ≡ End start (Ok ended) → EndsIn (x ∷ es) start
ends_first x es start ended is = record { by = x.0; ended = ended; before = []; after = es; is = ap (λ (e : BufferEntry). (x.0, e) ∷ es) is }

ends_later : (x : ℕ × BufferEntry) (es : List (ℕ × BufferEntry)) (start : ℕ) → EndsIn es start → EndsIn (x ∷ es) start
ends_later x es start e = record { by = e.by; ended = e.ended; before = x ∷ e.before; after = e.after; is = ap (λ (l : List (ℕ × BufferEntry)). x ∷ l) e.is }

ends_behind : (xs es : List (ℕ × BufferEntry)) (start : ℕ) → EndsIn es start → EndsIn (xs ++ es) start
ends_behind [] es start e = e
ends_behind (x ∷ xs) es start e = ends_later x (xs ++ es) start (ends_behind xs es start e)

-- an end that is called while the gate is open for the run finds it so, or it was ended before
ends_in : (w : Window) (es after : List (ℕ × BufferEntry)) (by start : ℕ) (reply : Result ℕ MarkRefusal)
    → is_open w.gate start ≡ true → IsLegal w (es ++ (by, End start reply) ∷ after) → EndsIn (es ++ (by, End start reply) ∷ after) start
ends_in w [] after by start reply opened legal = ends_here w by start reply after opened legal.0
ends_in w (x ∷ es) after by start reply opened legal = elim (open_or_ended w x.1 start legal.0 opened) as (λ o. EndsIn (x ∷ (es ++ (by, End start reply) ∷ after)) start) [
  | inl still ↦ ends_later x (es ++ (by, End start reply) ∷ after) start (ends_in (window_after w x.1) es after by start reply still legal.1)
  | inr ended ↦ ends_first x (es ++ (by, End start reply) ∷ after) start ended.0 ended.1
]

pub legal_behind : (w : Window) (xs ys : List (ℕ × BufferEntry)) → IsLegal w (xs ++ ys) → IsLegal (replay w xs) ys
legal_behind w [] ys legal = legal
legal_behind w (x ∷ xs) ys legal = legal_behind (window_after w x.1) xs ys legal.1

-- a run that a caller began and then called to end was ended by some caller
ended_by_some : (size : ℕ) (h : List (ℕ × BufferEntry)) (caller start : ℕ) → IsLegal (opening size) h → EndsBegun (entries_by caller h) start → EndsIn h start
ended_by_some size h caller start legal e =
    let b : StandsIn h caller e.before (Begin start (Ok e.begun)) (e.running ++ End start e.reply ∷ e.after) =
    stands caller h e.before (Begin start (Ok e.begun)) (e.running ++ End start e.reply ∷ e.after) e.is in
    let l : StandsIn b.after caller e.running (End start e.reply) e.after = stands caller b.after e.running (End start e.reply) e.after b.own_after in
    let w : Window = replay (opening size) b.before in
    let from_begin : IsLegal w ((caller, Begin start (Ok e.begun)) ∷ b.after) =
    legal_behind (opening size) b.before ((caller, Begin start (Ok e.begun)) ∷ b.after) (subst (IsLegal (opening size)) b.whole legal) in
    let behind : IsLegal (window_after w (Begin start (Ok e.begun))) (l.before ++ (caller, End start e.reply) ∷ l.after) =
    subst (IsLegal (window_after w (Begin start (Ok e.begun)))) l.whole from_begin.1 in
    let found : EndsIn (l.before ++ (caller, End start e.reply) ∷ l.after) start =
    ends_in (window_after w (Begin start (Ok e.begun))) l.before l.after caller start e.reply (eq-eqb start start refl) behind in
    let there : EndsIn b.after start = subst (λ (es : List (ℕ × BufferEntry)). EndsIn es start) (sym l.whole) found in
    subst (λ (es : List (ℕ × BufferEntry)). EndsIn es start) (sym b.whole)
    (ends_behind b.before ((caller, Begin start (Ok e.begun)) ∷ b.after) start (ends_later (caller, Begin start (Ok e.begun)) b.after start there))

-- Who ended it.

own_entries : (h before after : List (ℕ × BufferEntry)) (by : ℕ) (e : BufferEntry) → h ≡ before ++ (by, e) ∷ after → entries_by by h ≡ entries_by by before ++ e ∷ entries_by by after
own_entries h before after by e is =
    ap (entries_by by) is
    ∙ (entries_by-append by before ((by, e) ∷ after)
    ∙ ap (λ (es : List BufferEntry). entries_by by before ++ es) (entries_more by (by, e) after refl))

makes_mark : (before after : List BufferEntry) (start ended : ℕ) → EachCall MakesNoMark (before ++ End start (Ok ended) ∷ after) → ⊥
makes_mark [] after start ended each = each.0
makes_mark (b ∷ before) after start ended each = makes_mark before after start ended each.1

pub begun_is_ended : BegunIsEnded
begun_is_ended size h caller start legal alone begun =
    let e : EndsIn h start = ended_by_some size h caller start legal begun in
    let own : entries_by e.by h ≡ entries_by e.by e.before ++ End start (Ok e.ended) ∷ entries_by e.by e.after = own_entries h e.before e.after e.by (End start (Ok e.ended)) e.is in
    split (e.by == caller) (λ b. (e.by == caller) ≡ b → (ended : ℕ) × MarksEnd (entries_by caller h) start ended)
    (λ hit is.
    let same : e.by ≡ caller = eqb-true e.by caller is in
    let marks : MarksEnd (entries_by e.by h) start e.ended = record { before = entries_by e.by e.before; after = entries_by e.by e.after; is = own } in
    (e.ended, subst (λ (by : ℕ). MarksEnd (entries_by by h) start e.ended) same marks))
    (λ miss is.
    absurd (makes_mark (entries_by e.by e.before) (entries_by e.by e.after) start e.ended (subst (EachCall MakesNoMark) own (alone e.by (eqb-false e.by caller is)))))
    refl

-- Who makes no mark.

send_no_mark : (e : BufferEntry) → IsSendInRun e → MakesNoMark e
send_no_mark (SendInRun start stated event reply) sends = tt
send_no_mark e sends = absurd sends

pub sender_makes_no_mark : SenderMakesNoMark
sender_makes_no_mark [] each = tt
sender_makes_no_mark (e ∷ own) each = (send_no_mark e each.0, sender_makes_no_mark own each.1)
