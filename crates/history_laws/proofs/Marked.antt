-- The marks of a run that a caller began and ended.
use Rattle.std.specs.Prelude.{◌≡◌, ℕ, ◌≤◌, ◌==◌, Bool, if◌then◌else◌, List, [], ◌∷◌, ◌++◌, length, Option, Some, None, Ok, refl}
use Rattle.std.proofs.Common.{ap, sym, ◌∙◌, subst, arith, append_assoc, eq-eqb}
use Rattle.std.proofs.lemmas.Bool.{eqb-true}
use Rattle.daq_types.specs.Callers.{entries_by}
use Rattle.buffer_core.specs.declared.entry.BufferEntry.{BufferEntry}
use Rattle.buffer_core.specs.declared.entry.BufferEntry.TheVariants.{Begin, End}
use Rattle.buffer_core.proofs.SlotLaws.{split}
use Rattle.buffer_core.specs.Window.{Sent, opening}
use Rattle.buffer_core.specs.Histories.{IsLegal}
use Rattle.buffer_core.specs.Points.{sent, count_at, past_after, past_of}
use Rattle.buffer_core.specs.Runs.{Mark, NoMark, Begun, Paused, Resumed, Ended, mark_of, begun_after, begun_at, ended_at, segment, events_between, OnBegun, BeginsOnce}
use Rattle.buffer_core.specs.Continued.{sent_in}
use Rattle.history_laws.specs.BufferLaws.{BufferLaws}
use Rattle.history_laws.proofs.Pasts.{past_after-append, past_of-push, StandsIn, stands}
use Rattle.history_laws.proofs.OwnPlaces.{count_grows}
use Rattle.history_laws.proofs.GotEvents.{between_front}

-- the place of a mark is the count where it was set
pub count_of_begin : (laws : BufferLaws) (size : ℕ) (h before after : List (ℕ × BufferEntry)) (by start n : ℕ) → IsLegal (opening size) h → h ≡ before ++ (by, Begin start (Ok n)) ∷ after → n ≡ count_at (past_of before)
count_of_begin laws size h before after by start n legal whole = laws.counts size before after by (Begin start (Ok n)) (subst (IsLegal (opening size)) whole legal)

pub count_of_end : (laws : BufferLaws) (size : ℕ) (h before after : List (ℕ × BufferEntry)) (by start n : ℕ) → IsLegal (opening size) h → h ≡ before ++ (by, End start (Ok n)) ∷ after → n ≡ count_at (past_of before)
count_of_end laws size h before after by start n legal whole = laws.counts size before after by (End start (Ok n)) (subst (IsLegal (opening size)) whole legal)

-- the count never falls
pub count_front : (xs ys : List (ℕ × BufferEntry)) → count_at (past_of xs) ≤ count_at (past_of (xs ++ ys))
count_front xs ys = subst (λ (past : List (ℕ × BufferEntry)). count_at (past_of xs) ≤ count_at past) (sym (past_after-append [] xs ys)) (count_grows (past_of xs) ys)

-- A begin is the only one of its run.

once_front : (past es : List (ℕ × BufferEntry)) → BeginsOnce (past_after past es) → BeginsOnce past
once_front past [] once = once
once_front past (e ∷ es) once = (once_front (e ∷ past) es once).1

still_begun : (mark : Mark) (past : List (ℕ × BufferEntry)) (start n : ℕ) → OnBegun mark (λ s. begun_at past s ≡ None) → begun_at past start ≡ Some n → begun_after mark start (begun_at past start) ≡ Some n
still_begun NoMark past start n once is = is
still_begun (Begun s m) past start n once is =
    split (s == start) (λ b. (s == start) ≡ b → (if b then Some m else begun_at past start) ≡ Some n)
    (λ h e.
    let none : begun_at past start ≡ None = subst (λ (k : ℕ). begun_at past k ≡ None) (eqb-true s start e) once in
    absurd (cc (none, is)))
    (λ h e. is)
    refl
still_begun (Paused s) past start n once is = is
still_begun (Resumed s) past start n once is = is
still_begun (Ended s m) past start n once is = is

begun_stays : (past es : List (ℕ × BufferEntry)) (start n : ℕ) → BeginsOnce (past_after past es) → begun_at past start ≡ Some n → begun_at (past_after past es) start ≡ Some n
begun_stays past [] start n once is = is
begun_stays past (e ∷ es) start n once is =
    let here : BeginsOnce (e ∷ past) = once_front (e ∷ past) es once in
    begun_stays (e ∷ past) es start n once (still_begun (mark_of e.1) past start n here.0 is)

begun_here : (past : List (ℕ × BufferEntry)) (by start n : ℕ) → begun_at ((by, Begin start (Ok n)) ∷ past) start ≡ Some n
begun_here past by start n = ap (λ (b : Bool). if b then Some n else begun_at past start) (eq-eqb start start refl)

pub ended_here : (past : List (ℕ × BufferEntry)) (by start n : ℕ) → ended_at ((by, End start (Ok n)) ∷ past) start ≡ Some n
ended_here past by start n = ap (λ (b : Bool). if b then Some n else ended_at past start) (eq-eqb start start refl)

-- where the marks of the run stand, and the events between them
pub record RunStands (size : ℕ) (h : List (ℕ × BufferEntry)) (start begun ended : ℕ) : Type 0 where
  pub segment_is : segment h start ≡ events_between (Some begun) (Some ended) (sent (past_of h))
  pub within : ended ≤ count_at (past_of h)

pub run_stands : (laws : BufferLaws) (size : ℕ) (h : List (ℕ × BufferEntry)) (by start begun ended : ℕ) (xs ys zs : List BufferEntry) → IsLegal (opening size) h
    → entries_by by h ≡ (xs ++ Begin start (Ok begun) ∷ ys) ++ End start (Ok ended) ∷ zs → RunStands size h start begun ended
run_stands laws size h by start begun ended xs ys zs legal is =
    let e : StandsIn h by (xs ++ Begin start (Ok begun) ∷ ys) (End start (Ok ended)) zs = stands by h (xs ++ Begin start (Ok begun) ∷ ys) (End start (Ok ended)) zs is in
    let b : StandsIn e.before by xs (Begin start (Ok begun)) ys = stands by e.before xs (Begin start (Ok begun)) ys e.own_before in
    let ends : List (ℕ × BufferEntry) = e.before ++ (by, End start (Ok ended)) ∷ [] in
    let whole : h ≡ ends ++ e.after = e.whole ∙ sym (append_assoc e.before ((by, End start (Ok ended)) ∷ []) e.after) in
    let legal_whole : IsLegal (opening size) (ends ++ e.after) = subst (IsLegal (opening size)) whole legal in
    let count : ended ≡ count_at (past_of e.before) = count_of_end laws size h e.before e.after by start ended legal e.whole in
    let past_is : past_of ends ≡ (by, End start (Ok ended)) ∷ past_of e.before = past_of-push e.before (by, End start (Ok ended)) in
    let begin_is : past_of e.before ≡ past_after ((by, Begin start (Ok begun)) ∷ past_of b.before) b.after = ap past_of b.whole ∙ past_after-append [] b.before ((by, Begin start (Ok begun)) ∷ b.after) in
    let once : BeginsOnce (past_of h) = (laws.ordered size h legal).once in
    let once_there : BeginsOnce (past_of e.before) =
    once_front (past_of e.before) ((by, End start (Ok ended)) ∷ e.after) (subst BeginsOnce (ap past_of e.whole ∙ past_after-append [] e.before ((by, End start (Ok ended)) ∷ e.after)) once) in
    let is_begun : begun_at (past_of e.before) start ≡ Some begun =
    ap (λ (past : List (ℕ × BufferEntry)). begun_at past start) begin_is
    ∙ begun_stays ((by, Begin start (Ok begun)) ∷ past_of b.before) b.after start begun (subst BeginsOnce begin_is once_there) (begun_here (past_of b.before) by start begun) in
    let begun_ends : begun_at (past_of ends) start ≡ Some begun = ap (λ (past : List (ℕ × BufferEntry)). begun_at past start) past_is ∙ is_begun in
    let ended_ends : ended_at (past_of ends) start ≡ Some ended = ap (λ (past : List (ℕ × BufferEntry)). ended_at past start) past_is ∙ ended_here (past_of e.before) by start ended in
    let sent_ends : sent (past_of ends) ≡ sent (past_of e.before) = ap sent past_is in
    let short : ended ≤ length (sent (past_of ends)) = omega (arith, count, ap (λ (ss : List Sent). length ss) sent_ends) in
    let grown : sent (past_of h) ≡ sent (past_of ends) ++ sent_in e.after = ap (λ (x : List (ℕ × BufferEntry)). sent (past_of x)) whole ∙ laws.events ends e.after in
    record {
      segment_is = ap (λ (x : List (ℕ × BufferEntry)). segment x start) whole
          ∙ (laws.run size ends e.after start ended legal_whole ended_ends
          ∙ (ap (λ (o : Option ℕ). events_between o (ended_at (past_of ends) start) (sent (past_of ends))) begun_ends
          ∙ (ap (λ (o : Option ℕ). events_between (Some begun) o (sent (past_of ends))) ended_ends
          ∙ (sym (between_front begun ended (sent (past_of ends)) (sent_in e.after) short)
          ∙ ap (λ (ss : List Sent). events_between (Some begun) (Some ended) ss) (sym grown)))));
      within = omega (arith, count, subst (λ (x : List (ℕ × BufferEntry)). count_at (past_of e.before) ≤ count_at (past_of x)) (sym e.whole) (count_front e.before ((by, End start (Ok ended)) ∷ e.after)));
    }
