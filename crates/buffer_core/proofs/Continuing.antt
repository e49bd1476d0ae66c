-- Histories that go on, and what their replies tell.
use Rattle.std.specs.Prelude.{◌≡◌, ◌≢◌, ℕ, ◌≤◌, ◌==◌, if◌then◌else◌, List, [], ◌∷◌, ◌++◌, length, drop, slice_get, Option, Some, None, Ok, Err, refl}
use Rattle.std.specs.List.{enumerate_from}
use Rattle.std.proofs.Common.{ap, sym, ◌∙◌, subst, arith, append_assoc}
use Rattle.std.proofs.lemmas.Bool.{eqb-true}
use Rattle.std.proofs.lemmas.List.{append-nil, take-append-le}
use Rattle.buffer_core.specs.declared.client.Request.{Request as EventRequest}
use Rattle.buffer_core.specs.declared.client.Client.{Client}
use Rattle.buffer_core.specs.declared.replies.RequestRefusal.{RequestRefusal}
use Rattle.daq_types.specs.declared.events.Event.{Event}
use Rattle.buffer_core.specs.declared.gate.RunGate.{RunGate}
use Rattle.buffer_core.specs.declared.gate.RunGate.TheVariants.{Running}
use Rattle.buffer_core.specs.declared.replies.Received.TheVariants.{Got}
use Rattle.buffer_core.specs.declared.entry.BufferEntry.{BufferEntry}
use Rattle.buffer_core.specs.declared.entry.BufferEntry.TheVariants.{Attach, Cancel, Send, SendInRun, Receive, Begin, Pause, Resume, End, Accepted}
use Rattle.buffer_core.specs.Slots.{slot_at, free_slot}
use Rattle.buffer_core.specs.Window.{Sent, Window, opening, accepted_of}
use Rattle.buffer_core.specs.Calls.{IsReply, cancel_reply_of, cancel_reply_to, no_slot, found_in, receive_reply_to, is_running, is_paused, is_open}
use Rattle.buffer_core.specs.Histories.{replay, IsLegal}
use Rattle.buffer_core.proofs.SlotLaws.{split}
use Rattle.buffer_core.proofs.WindowLaws.{event_got}
use Rattle.buffer_core.specs.Points.{News, Taken, news_of, Life, life_at, request_at, sent, sent_after, count_at, past_after, past_of}
use Rattle.buffer_core.specs.Runs.{Mark, NoMark, Begun, Paused, Resumed, Ended, mark_of, begun_after, ended_after, begun_at, ended_at, is_paused_at, segment, segment_at, events_between, OnBegun}
use Rattle.buffer_core.specs.Continued.{added_by, sent_in, RepliesCount, GivesSent}
use Rattle.buffer_core.proofs.Places.{get_drop}
use Rattle.buffer_core.proofs.Numbered.{free_within}
use Rattle.buffer_core.proofs.Found.{IsFound, found}
use Rattle.buffer_core.proofs.Replied.{number_given, got_reply, admitted, run_admitted, run_begun, mark_set}
use Rattle.buffer_core.proofs.Linked.{window_at, WasLegal, legal_after, replay_after, Agrees, IsLinked, linked}
use Rattle.buffer_core.proofs.Ordering.{OnEnded, RunStep, RunsFitAt, GateFits, counted_at, running_is, runs_fit, run_step_at}

-- Points behind points.

pub past_join : (past xs ys : List (ℕ × BufferEntry)) → past_after past (xs ++ ys) ≡ past_after (past_after past xs) ys
past_join past [] ys = refl
past_join past (x ∷ xs) ys = past_join (x ∷ past) xs ys

pub was_front : (size : ℕ) (past more : List (ℕ × BufferEntry)) → WasLegal size (past_after past more) → WasLegal size past
was_front size past [] was = was
was_front size past (e ∷ es) was = (was_front size (e ∷ past) es was).1

-- the point before an entry of a legal history, and the entry's reply there
pub was_at : (size : ℕ) (before : List (ℕ × BufferEntry)) (e : ℕ × BufferEntry) (after : List (ℕ × BufferEntry)) → IsLegal (opening size) (before ++ e ∷ after) → WasLegal size (e ∷ past_of before)
was_at size before e after legal =
    was_front size (e ∷ past_of before) after (subst (WasLegal size) (past_join [] before (e ∷ after)) (legal_after size [] (before ++ e ∷ after) tt legal))

-- What was sent.

sent_after_is : (news : News) (ss : List Sent) → sent_after news ss ≡ ss ++ added_by news
sent_after_is (Taken s) ss = refl
sent_after_is news ss = sym (append-nil ss)

sent_join : (past more : List (ℕ × BufferEntry)) → sent (past_after past more) ≡ sent past ++ sent_in more
sent_join past [] = sym (append-nil (sent past))
sent_join past (e ∷ es) =
    sent_join (e ∷ past) es
    ∙ (ap (λ (ss : List Sent). ss ++ sent_in es) (sent_after_is (news_of e.1) (sent past)) ∙ append_assoc (sent past) (added_by (news_of e.1)) (sent_in es))

pub sent_goes_on : (h more : List (ℕ × BufferEntry)) → sent (past_of (h ++ more)) ≡ sent (past_of h) ++ sent_in more
sent_goes_on h more = ap sent (past_join [] h more) ∙ sent_join (past_of h) more

-- Numbers in replies.

replies_count : (w : Window) (e : BufferEntry) → IsReply w e → RepliesCount (accepted_of w) e
replies_count w (Send stated e (Ok n)) reply = (admitted w stated e n (sym reply)).place_is
replies_count w (SendInRun start stated e (Ok n)) reply = (run_admitted w start stated e n (sym reply)).1.place_is
replies_count w (Begin start (Ok n)) reply = (run_begun w.gate w.last start (accepted_of w) n reply).place_is
replies_count w (Pause start (Ok n)) reply = (mark_set (is_running w.gate start) w n reply).1
replies_count w (Resume start (Ok n)) reply = (mark_set (is_paused w.gate start) w n reply).1
replies_count w (End start (Ok n)) reply = (mark_set (is_open w.gate start) w n reply).1
replies_count w (Accepted n) reply = reply
replies_count w entry reply = tt

pub history_counts : (size : ℕ) (before after : List (ℕ × BufferEntry)) (caller : ℕ) (e : BufferEntry) → IsLegal (opening size) (before ++ (caller, e) ∷ after) → RepliesCount (count_at (past_of before)) e
history_counts size before after caller e legal =
    let was : WasLegal size ((caller, e) ∷ past_of before) = was_at size before (caller, e) after legal in
    subst (λ (n : ℕ). RepliesCount n e) (counted_at size (past_of before) was.1) (replies_count (window_at size (past_of before)) e was.0)

-- The event that a client gets.

gives_sent : (w : Window) (ss : List Sent) (room place start : ℕ) (o : Option Client) → w.kept ≡ drop w.first ss → Got place start ≡ receive_reply_to w room o → GivesSent w ss place start
gives_sent w ss room place start None kept reply = absurd (cc)
gives_sent w ss room place start (Some c) kept reply =
    let got = got_reply w.gate w.last room (found_in c w.first w.kept) place start reply in
    let is : IsFound c w.first w.kept place got.0 = found c w.first w.kept place got.0 got.1 in
    record {
      sent = got.0;
      is = sym (get_drop w.first ss is.index place is.place_is) ∙ (ap (λ (ks : List Sent). slice_get ks is.index) (sym kept) ∙ is.is);
      started = got.2;
      given = λ held. event_got w c place start got.0 held got.1;
    }

pub history_gives : (size : ℕ) (before after : List (ℕ × BufferEntry)) (caller client room place start : ℕ) → IsLegal (opening size) (before ++ (caller, Receive client room (Got place start)) ∷ after) →
    GivesSent (replay (opening size) before) (sent (past_of before)) place start
history_gives size before after caller client room place start legal =
    let was : WasLegal size ((caller, Receive client room (Got place start)) ∷ past_of before) = was_at size before (caller, Receive client room (Got place start)) after legal in
    let k : IsLinked size (past_of before) = linked size (past_of before) was.1 in
    subst (λ (w : Window). GivesSent w (sent (past_of before)) place start) (sym (replay_after size [] before))
    (gives_sent (window_at size (past_of before)) (sent (past_of before)) room place start (slot_at (window_at size (past_of before)).clients client) k.kept was.0)

-- The numbers of clients.

no_life : (first : ℕ) (ss : List Sent) (asked : ℕ → Option EventRequest) (o : Option Client) (l : Option Life) → Agrees first ss asked o l → o ≡ None → l ≡ None
no_life first ss asked o None k free = refl
no_life first ss asked None (Some l) k free = absurd k
no_life first ss asked (Some c) (Some l) k free = absurd (cc)

pub history_numbers : (size : ℕ) (before after : List (ℕ × BufferEntry)) (caller : ℕ) (name : List ℕ) (n : ℕ) → IsLegal (opening size) (before ++ (caller, Attach name (Ok n)) ∷ after) →
    life_at (past_of before) n ≡ None
history_numbers size before after caller name n legal =
    let was : WasLegal size ((caller, Attach name (Ok n)) ∷ past_of before) = was_at size before (caller, Attach name (Ok n)) after legal in
    let w : Window = window_at size (past_of before) in
    let k : IsLinked size (past_of before) = linked size (past_of before) was.1 in
    let free = free_within w.clients n (number_given (free_slot w.clients) no_slot n was.0) in
    no_life w.first (sent (past_of before)) (request_at (past_of before) n) (slot_at w.clients n) (life_at (past_of before) n) (k.clients n) free.1

-- The segment of a run that ended.

-- whether the run began and where it ended stays
mark_keeps : (mark : Mark) (begun ended : ℕ → Option ℕ) (start n : ℕ) → ended start ≡ Some n → (begun start ≡ None → ended start ≡ None) → OnBegun mark (λ s. begun s ≡ None) → OnEnded mark (λ s. ended s ≡ None) →
    (begun_after mark start (begun start) ≡ begun start) × (ended_after mark start (ended start) ≡ ended start)
mark_keeps NoMark begun ended start n e never once last = (refl, refl)
mark_keeps (Begun s m) begun ended start n e never once last = (
  split (s == start) (λ b. (s == start) ≡ b → (if b then Some m else begun start) ≡ begun start)
      (λ h same. absurd (cc (never (subst (λ (k : ℕ). begun k ≡ None) (eqb-true s start same) once), e)))
      (λ h other. refl)
      refl,
  refl,
)
mark_keeps (Paused s) begun ended start n e never once last = (refl, refl)
mark_keeps (Resumed s) begun ended start n e never once last = (refl, refl)
mark_keeps (Ended s m) begun ended start n e never once last = (
  refl,
  split (s == start) (λ b. (s == start) ≡ b → (if b then Some m else ended start) ≡ ended start)
      (λ h same. absurd (cc (subst (λ (k : ℕ). ended k ≡ None) (eqb-true s start same) last, e)))
      (λ h other. refl)
      refl,
)

longer : (begin end : Option ℕ) (n : ℕ) (ss xs : List Sent) → end ≡ Some n → n ≤ length ss → events_between begin end (ss ++ xs) ≡ events_between begin end ss
longer None end n ss xs e h = refl
longer (Some from) None n ss xs e h = absurd (cc)
longer (Some from) (Some to) n ss xs e h =
    let same : to ≡ n = cc in
    ap (λ (t : List Sent). enumerate_from from (drop from t)) (take-append-le to ss xs (omega (arith, same, h)))

ended_keeps : (size : ℕ) (e : ℕ × BufferEntry) (past : List (ℕ × BufferEntry)) → WasLegal size (e ∷ past) → (start n : ℕ) → ended_at past start ≡ Some n →
    (ended_at (e ∷ past) start ≡ Some n) × (begun_at (e ∷ past) start ≡ begun_at past start) × (segment_at (e ∷ past) start ≡ segment_at past start)
ended_keeps size e past was start n is_ended =
    let r : RunsFitAt size past = runs_fit size past was.1 in
    let step : RunStep (window_at size past) (sent past) (begun_at past) (ended_at past) (is_paused_at past) e.1 = run_step_at size e past was in
    let kept = mark_keeps (mark_of e.1) (begun_at past) (ended_at past) start n is_ended (r.never_ended start) step.once step.last in (
      kept.1 ∙ is_ended,
      kept.0,
      ap (λ (o : Option ℕ). events_between o (ended_at (e ∷ past) start) (sent (e ∷ past))) kept.0
          ∙ (ap (λ (o : Option ℕ). events_between (begun_at past start) o (sent (e ∷ past))) kept.1
          ∙ (ap (λ (ss : List Sent). events_between (begun_at past start) (ended_at past start) ss) (sent_after_is (news_of e.1) (sent past))
          ∙ longer (begun_at past start) (ended_at past start) n (sent past) (added_by (news_of e.1)) is_ended (r.ends start n is_ended))),
    )

segment_joins : (size : ℕ) (past more : List (ℕ × BufferEntry)) → WasLegal size (past_after past more) → (start n : ℕ) → ended_at past start ≡ Some n → segment_at (past_after past more) start ≡ segment_at past start
segment_joins size past [] was start n is_ended = refl
segment_joins size past (e ∷ es) was start n is_ended =
    let kept = ended_keeps size e past (was_front size (e ∷ past) es was) start n is_ended in
    segment_joins size (e ∷ past) es was start n kept.0 ∙ kept.2

pub segment_goes_on : (size : ℕ) (h more : List (ℕ × BufferEntry)) (start n : ℕ) → IsLegal (opening size) (h ++ more) → ended_at (past_of h) start ≡ Some n → segment (h ++ more) start ≡ segment h start
segment_goes_on size h more start n legal is_ended =
    ap (λ (past : List (ℕ × BufferEntry)). segment_at past start) (past_join [] h more)
    ∙ segment_joins size (past_of h) more (subst (WasLegal size) (past_join [] h more) (legal_after size [] (h ++ more) tt legal)) start n is_ended

-- Cancels.

none_asked : (o : Option EventRequest) (refusal : RequestRefusal) → Err refusal ≡ cancel_reply_of o → o ≡ None
none_asked None refusal e = refl
none_asked (Some q) refusal e = absurd (cc)

none_to_cancel : (first : ℕ) (ss : List Sent) (asked : ℕ → Option EventRequest) (number : ℕ) (refusal : RequestRefusal) (o : Option Client) (life : Life) → Agrees first ss asked o (Some life)
    → Err refusal ≡ cancel_reply_to number o → asked number ≡ None
none_to_cancel first ss asked number refusal None life k e = absurd k
none_to_cancel first ss asked number refusal (Some c) life k e = sym (k.asks number) ∙ none_asked (slot_at c.requests number) refusal e

pub history_cancels : (size : ℕ) (before after : List (ℕ × BufferEntry)) (caller client number : ℕ) (refusal : RequestRefusal) (life : Life) → IsLegal (opening size) (before ++ (caller, Cancel client number (Err refusal)) ∷ after)
    → life_at (past_of before) client ≡ Some life → request_at (past_of before) client number ≡ None
history_cancels size before after caller client number refusal life legal lives =
    let was : WasLegal size ((caller, Cancel client number (Err refusal)) ∷ past_of before) = was_at size before (caller, Cancel client number (Err refusal)) after legal in
    let w : Window = window_at size (past_of before) in
    let k : IsLinked size (past_of before) = linked size (past_of before) was.1 in
    none_to_cancel w.first (sent (past_of before)) (request_at (past_of before) client) number refusal (slot_at w.clients client) life
    (subst (λ (l : Option Life). Agrees w.first (sent (past_of before)) (request_at (past_of before) client) (slot_at w.clients client) l) lives (k.clients client)) was.0

-- Sends in runs.

pub history_sends : (size : ℕ) (before after : List (ℕ × BufferEntry)) (caller start stated place : ℕ) (e : Event) → IsLegal (opening size) (before ++ (caller, SendInRun start stated e (Ok place)) ∷ after) → start ≢ 0
history_sends size before after caller start stated place e legal none =
    let past : List (ℕ × BufferEntry) = past_of before in
    let was : WasLegal size ((caller, SendInRun start stated e (Ok place)) ∷ past) = was_at size before (caller, SendInRun start stated e (Ok place)) after legal in
    let w : Window = window_at size past in
    let fit : RunsFitAt size past = runs_fit size past was.1 in
    let running : w.gate ≡ Running start = running_is w.gate start (run_admitted w start stated e place (sym was.0)).0 in
    let open_run = (subst (λ (g : RunGate). GateFits g (begun_at past) (ended_at past) (is_paused_at past)) running fit.fits).0 in
    omega (arith, none, fit.above start open_run.from open_run.is_begun)
