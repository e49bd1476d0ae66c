-- Where one caller alone makes marks, a begin is refused only for its number, or where a run was left open.
use Rattle.std.specs.Prelude.{◌≡◌, ◌≢◌, ℕ, ◌≤◌, ◌==◌, nat_lt, Bool, true, false, if◌then◌else◌, List, [], ◌∷◌, ◌++◌, Ok, Err, refl, ◌⊎◌}
use Rattle.std.proofs.Common.{ap, sym, ◌∙◌, subst, arith, inl, inr, eq-eqb}
use Rattle.std.proofs.lemmas.Bool.{eqb-true, ltb-false}
use Rattle.std.proofs.lemmas.Bool.Decides.{eqb_tells}
use Rattle.daq_types.specs.Callers.{entries_by}
use Rattle.buffer_core.specs.declared.gate.RunGate.{RunGate}
use Rattle.buffer_core.specs.declared.gate.RunGate.TheVariants.{Shut, Running, Paused}
use Rattle.buffer_core.specs.declared.replies.MarkRefusal.{MarkRefusal}
use Rattle.buffer_core.specs.declared.replies.MarkRefusal.TheVariants.{OldStart}
use Rattle.buffer_core.specs.declared.replies.Received.TheVariants.{Got, Empty, NoClient as NoReader, SmallBuf}
use Rattle.buffer_core.specs.declared.entry.BufferEntry.{BufferEntry}
use Rattle.buffer_core.specs.declared.entry.BufferEntry.TheVariants.{Attach, Detach, Request, Cancel, Send, SendInRun, Receive, Begin, Pause, Resume, End, Level, Accepted}
use Rattle.buffer_core.proofs.SlotLaws.{split}
use Rattle.buffer_core.specs.Window.{Window, opening, accepted_of}
use Rattle.buffer_core.specs.Calls.{is_running, is_paused, is_open, begin_reply_at, mark_reply, IsReply, window_after}
use Rattle.buffer_core.specs.Histories.{IsLegal, replay}
use Rattle.buffer_core.specs.Points.{past_after, past_of}
use Rattle.member_model.specs.SentCalls.{EachCall}
use Rattle.member_model.specs.OwnCalls.{calls_after}
use Rattle.member_model.specs.EndedRuns.{MakesNoMark}
use Rattle.member_model.specs.FairCalls.{begun_by, has_begun, left_open_by, is_left_open}
use Rattle.history_laws.specs.RefusedCalls.{HasBegunFrom, HasLeftOpen, BeginsRefused}
use Rattle.history_laws.proofs.Pasts.{own_cases, own_after, StandsIn, stands}
use Rattle.history_laws.proofs.EndedRuns.{running_open, paused_open, was_right, legal_behind}

-- The gate is open only for a run that the caller left open, and the last number is that of a run that it began.
record MarkedSo (w : Window) (own : List BufferEntry) : Type 0 where
  gate : (start : ℕ) → is_open w.gate start ≡ true → is_left_open own start ≡ true
  last : (w.last ≡ 0) ⊎ (has_begun own w.last ≡ true)

-- A call that makes no mark.

same_marks : (w v : Window) (own : List BufferEntry) → v.gate ≡ w.gate → v.last ≡ w.last → MarkedSo w own → MarkedSo v own
same_marks w v own gate last marked = record {
  gate = λ start is. marked.gate start (ap (λ (g : RunGate). is_open g start) (sym gate) ∙ is);
  last = subst (λ (n : ℕ). (n ≡ 0) ⊎ (has_begun own n ≡ true)) (sym last) marked.last;
}

no_mark : (w : Window) (e : BufferEntry) (own : List BufferEntry) → MakesNoMark e → MarkedSo w own → MarkedSo (window_after w e) own
no_mark w (Attach name (Ok n)) own none marked = same_marks w (window_after w (Attach name (Ok n))) own refl refl marked
no_mark w (Attach name (Err r)) own none marked = marked
no_mark w (Detach client (Ok u)) own none marked = same_marks w (window_after w (Detach client (Ok u))) own refl refl marked
no_mark w (Detach client (Err r)) own none marked = marked
no_mark w (Request client id mask kind (Ok n)) own none marked = same_marks w (window_after w (Request client id mask kind (Ok n))) own refl refl marked
no_mark w (Request client id mask kind (Err r)) own none marked = marked
no_mark w (Cancel client number (Ok u)) own none marked = same_marks w (window_after w (Cancel client number (Ok u))) own refl refl marked
no_mark w (Cancel client number (Err r)) own none marked = marked
no_mark w (Send stated event (Ok n)) own none marked = same_marks w (window_after w (Send stated event (Ok n))) own refl refl marked
no_mark w (Send stated event (Err r)) own none marked = marked
no_mark w (SendInRun start stated event (Ok n)) own none marked = same_marks w (window_after w (SendInRun start stated event (Ok n))) own refl refl marked
no_mark w (SendInRun start stated event (Err r)) own none marked = marked
no_mark w (Receive client room (Got place start)) own none marked = same_marks w (window_after w (Receive client room (Got place start))) own refl refl marked
no_mark w (Receive client room (Empty gate last)) own none marked = same_marks w (window_after w (Receive client room (Empty gate last))) own refl refl marked
no_mark w (Receive client room NoReader) own none marked = marked
no_mark w (Receive client room (SmallBuf need)) own none marked = marked
no_mark w (Begin start reply) own none marked = absurd none
no_mark w (Pause start reply) own none marked = absurd none
no_mark w (Resume start reply) own none marked = absurd none
no_mark w (End start reply) own none marked = absurd none
no_mark w (Level n) own none marked = marked
no_mark w (Accepted n) own none marked = marked

-- A call of the caller's own.

-- it neither begins nor ends a run
own_more : (v : Window) (e : BufferEntry) (own : List BufferEntry) → ((start : ℕ) (b : Bool) → left_open_by e start b ≡ b) → ((start : ℕ) (b : Bool) → begun_by e start b ≡ b) → MarkedSo v own → MarkedSo v (e ∷ own)
own_more v e own left begun marked = record {
  gate = λ start is. left start (is_left_open own start) ∙ marked.gate start is;
  last = elim marked.last as (λ x. (v.last ≡ 0) ⊎ (has_begun (e ∷ own) v.last ≡ true)) [
    | inl none ↦ inl none
    | inr was ↦ inr (begun v.last (has_begun own v.last) ∙ was)
  ];
}

quiet : (w : Window) (e : BufferEntry) (own : List BufferEntry) → MakesNoMark e → ((start : ℕ) (b : Bool) → left_open_by e start b ≡ b) → ((start : ℕ) (b : Bool) → begun_by e start b ≡ b) → MarkedSo w own → MarkedSo (window_after w e) (e ∷ own)
quiet w e own none left begun marked = own_more (window_after w e) e own left begun (no_mark w e own none marked)

begun_now : (w v : Window) (s n : ℕ) (own : List BufferEntry) → v.gate ≡ Running s → v.last ≡ s → MarkedSo v (Begin s (Ok n) ∷ own)
begun_now w v s n own gate last = record {
  gate = λ start is.
      let same : (s == start) ≡ true = ap (λ (g : RunGate). is_open g start) (sym gate) ∙ is in
      rw same refl;
  last = inr (rw last (rw (eq-eqb s s refl) refl));
}

-- a pause or a resume, which finds the gate open for its run
moved : (w v : Window) (e : BufferEntry) (s : ℕ) (own : List BufferEntry) → ((start : ℕ) → is_open v.gate start ≡ true → s ≡ start) → v.last ≡ w.last → is_open w.gate s ≡ true → ((start : ℕ) (b : Bool) → left_open_by e start b ≡ b)
    → ((start : ℕ) (b : Bool) → begun_by e start b ≡ b) → MarkedSo w own → MarkedSo v (e ∷ own)
moved w v e s own only last opened left begun marked =
    own_more v e own left begun (record {
      gate = λ start is. subst (λ (k : ℕ). is_left_open own k ≡ true) (only start is) (marked.gate s opened);
      last = subst (λ (n : ℕ). (n ≡ 0) ⊎ (has_begun own n ≡ true)) (sym last) marked.last;
    })

refused_end : (w : Window) (s : ℕ) (why : MarkRefusal) (own : List BufferEntry) → Err why ≡ mark_reply (is_open w.gate s) w → MarkedSo w own → MarkedSo w (End s (Err why) ∷ own)
refused_end w s why own told marked = record {
  gate = λ start is. elim (eqb_tells s start) as (λ x. (if s == start then false else is_left_open own start) ≡ true) [
    | inl same ↦
        let opened : is_open w.gate s ≡ true = subst (λ (k : ℕ). is_open w.gate k ≡ true) (sym same.1) is in
        let never : Err why ≡ mark_reply true w = told ∙ ap (λ (b : Bool). mark_reply b w) opened in
        absurd (cc (never))
    | inr other ↦ rw other.0 (marked.gate start is)
  ];
  last = marked.last;
}

own_marks : (w : Window) (e : BufferEntry) (own : List BufferEntry) → IsReply w e → MarkedSo w own → MarkedSo (window_after w e) (e ∷ own)
own_marks w (Begin s (Ok n)) own told marked = begun_now w (window_after w (Begin s (Ok n))) s n own refl refl
own_marks w (Begin s (Err why)) own told marked = own_more w (Begin s (Err why)) own (λ start b. refl) (λ start b. refl) marked
own_marks w (Pause s (Ok n)) own told marked =
    moved w (window_after w (Pause s (Ok n))) (Pause s (Ok n)) s own (λ start is. eqb-true s start is) refl (running_open w.gate s (was_right (is_running w.gate s) w n told)) (λ start b. refl) (λ start b. refl) marked
own_marks w (Pause s (Err why)) own told marked = own_more w (Pause s (Err why)) own (λ start b. refl) (λ start b. refl) marked
own_marks w (Resume s (Ok n)) own told marked =
    moved w (window_after w (Resume s (Ok n))) (Resume s (Ok n)) s own (λ start is. eqb-true s start is) refl (paused_open w.gate s (was_right (is_paused w.gate s) w n told)) (λ start b. refl) (λ start b. refl) marked
own_marks w (Resume s (Err why)) own told marked = own_more w (Resume s (Err why)) own (λ start b. refl) (λ start b. refl) marked
own_marks w (End s (Ok n)) own told marked = record { gate = λ start is. absurd (cc (is)); last = marked.last }
own_marks w (End s (Err why)) own told marked = refused_end w s why own told marked
own_marks w (Attach name reply) own told marked = quiet w (Attach name reply) own tt (λ start b. refl) (λ start b. refl) marked
own_marks w (Detach client reply) own told marked = quiet w (Detach client reply) own tt (λ start b. refl) (λ start b. refl) marked
own_marks w (Request client id mask kind reply) own told marked = quiet w (Request client id mask kind reply) own tt (λ start b. refl) (λ start b. refl) marked
own_marks w (Cancel client number reply) own told marked = quiet w (Cancel client number reply) own tt (λ start b. refl) (λ start b. refl) marked
own_marks w (Send stated event reply) own told marked = quiet w (Send stated event reply) own tt (λ start b. refl) (λ start b. refl) marked
own_marks w (SendInRun s stated event reply) own told marked = quiet w (SendInRun s stated event reply) own tt (λ start b. refl) (λ start b. refl) marked
own_marks w (Receive client room reply) own told marked = quiet w (Receive client room reply) own tt (λ start b. refl) (λ start b. refl) marked
own_marks w (Level n) own told marked = quiet w (Level n) own tt (λ start b. refl) (λ start b. refl) marked
own_marks w (Accepted n) own told marked = quiet w (Accepted n) own tt (λ start b. refl) (λ start b. refl) marked

-- Along a history in which one caller alone makes marks.

abbrev pub OthersMark : List (ℕ × BufferEntry) → (caller : ℕ) → Type 0
OthersMark h caller = (other : ℕ) → other ≢ caller → EachCall MakesNoMark (entries_by other h)

pub first_marks_none : (x : ℕ × BufferEntry) (h : List (ℕ × BufferEntry)) (caller : ℕ) → OthersMark (x ∷ h) caller → x.0 ≢ caller → MakesNoMark x.1
first_marks_none x h caller alone other = own_cases x.0 x h (λ es. EachCall MakesNoMark es → MakesNoMark x.1) (λ same each. each.0) (λ not each. absurd (not refl)) (alone x.0 other)

pub rest_alone : (x : ℕ × BufferEntry) (h : List (ℕ × BufferEntry)) (caller : ℕ) → OthersMark (x ∷ h) caller → OthersMark h caller
rest_alone x h caller alone other differs = own_cases other x h (λ es. EachCall MakesNoMark es → EachCall MakesNoMark (entries_by other h)) (λ same each. each.1) (λ not each. each) (alone other differs)

marked_step : (w : Window) (x : ℕ × BufferEntry) (past h : List (ℕ × BufferEntry)) (caller : ℕ) → OthersMark (x ∷ h) caller → IsReply w x.1 → MarkedSo w (entries_by caller past) → MarkedSo (window_after w x.1) (entries_by caller (x ∷ past))
marked_step w x past h caller alone told marked =
    own_cases caller x past (λ es. MarkedSo (window_after w x.1) es)
    (λ same. own_marks w x.1 (entries_by caller past) told marked)
    (λ other. no_mark w x.1 (entries_by caller past) (first_marks_none x h caller alone other) marked)

marked_along : (w : Window) (past es rest : List (ℕ × BufferEntry)) (caller : ℕ) → OthersMark (es ++ rest) caller → IsLegal w (es ++ rest) → MarkedSo w (entries_by caller past) → MarkedSo (replay w es) (entries_by caller (past_after past es))
marked_along w past [] rest caller alone legal marked = marked
marked_along w past (x ∷ es) rest caller alone legal marked =
    marked_along (window_after w x.1) (x ∷ past) es rest caller (rest_alone x (es ++ rest) caller alone) legal.1
    (marked_step w x past (es ++ rest) caller alone legal.0 marked)

-- why the gate refuses a begin
cause : (g : RunGate) (last start accepted : ℕ) (why : MarkRefusal) (own : List BufferEntry) → Err why ≡ begin_reply_at g last start accepted → ((s : ℕ) → is_open g s ≡ true → is_left_open own s ≡ true) → (last ≡ 0) ⊎ (has_begun own last ≡ true)
    → (start ≡ 0) ⊎ (HasBegunFrom own start ⊎ HasLeftOpen own)
cause (Running s) last start accepted why own told gate known = inr (inr (record { number = s; open_is = gate s (eq-eqb s s refl) }))
cause (Paused s) last start accepted why own told gate known = inr (inr (record { number = s; open_is = gate s (eq-eqb s s refl) }))
cause Shut last start accepted why own told gate known =
    split (nat_lt last start) (λ b. nat_lt last start ≡ b → Err why ≡ (if b then Ok accepted else Err (OldStart last)) → (start ≡ 0) ⊎ (HasBegunFrom own start ⊎ HasLeftOpen own))
    (λ h less so. absurd (cc (so)))
    (λ h more so.
    let above : start ≤ last = ltb-false last start more in
    elim known as (λ x. (start ≡ 0) ⊎ (HasBegunFrom own start ⊎ HasLeftOpen own)) [
      | inl none ↦ inl (omega (arith, above, none))
      | inr was ↦ inr (inl (record { number = last; begun = was; above = above }))
    ])
    refl told

pub begins_refused : BeginsRefused
begins_refused size h caller legal alone before after start why is =
    let e : BufferEntry = Begin start (Err why) in
    let s : StandsIn h caller before e after = stands caller h before e after is in
    let whole : IsLegal (opening size) (s.before ++ (caller, e) ∷ s.after) = subst (IsLegal (opening size)) s.whole legal in
    let there : IsLegal (replay (opening size) s.before) ((caller, e) ∷ s.after) = legal_behind (opening size) s.before ((caller, e) ∷ s.after) whole in
    let marked : MarkedSo (replay (opening size) s.before) (entries_by caller (past_of s.before)) =
    marked_along (opening size) [] s.before ((caller, e) ∷ s.after) caller (subst (λ (l : List (ℕ × BufferEntry)). OthersMark l caller) s.whole alone) whole
    (record { gate = λ k opened. absurd (cc (opened)); last = inl refl }) in
    let own_is : entries_by caller (past_of s.before) ≡ calls_after [] before = own_after caller [] s.before ∙ ap (λ (es : List BufferEntry). calls_after [] es) s.own_before in
    let w : Window = replay (opening size) s.before in
    let here : MarkedSo w (calls_after [] before) = subst (λ (es : List BufferEntry). MarkedSo w es) own_is marked in
    cause w.gate w.last start (accepted_of w) why (calls_after [] before) there.0 here.gate here.last
