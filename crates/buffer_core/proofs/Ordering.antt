-- The events of each run stand between its marks.
use Rattle.std.specs.Prelude.{◌≡◌, ◌≢◌, ℕ, ◌+◌, ◌<◌, ◌≤◌, ◌==◌, Bool, true, false, if◌then◌else◌, List, [], ◌∷◌, ◌++◌, length, slice_get, Option, Some, None, Ok, Err, refl, ⊤, ◌⊎◌}
use Rattle.std.proofs.Common.{ap, sym, ◌∙◌, subst, arith, inl, inr, eq-eqb}
use Rattle.std.proofs.Math.Logic.{⊎_elim}
use Rattle.std.proofs.lemmas.Bool.{eqb-true, eqb-false, ne_eqb}
use Rattle.std.proofs.lemmas.List.{length_push}
use Rattle.buffer_core.specs.declared.gate.RunGate.{RunGate}
use Rattle.buffer_core.specs.declared.gate.RunGate.TheVariants.{Shut, Running, Paused}
use Rattle.buffer_core.specs.declared.replies.Received.TheVariants.{Got, Empty, NoClient as NoReader, SmallBuf}
use Rattle.buffer_core.specs.declared.entry.BufferEntry.{BufferEntry}
use Rattle.buffer_core.specs.declared.entry.BufferEntry.TheVariants.{Attach, Detach, Request, Cancel, Send, SendInRun, Receive, Begin, Pause, Resume, End, Level, Accepted}
use Rattle.buffer_core.specs.Window.{Sent, Window, opening, accepted_of}
use Rattle.buffer_core.specs.Calls.{IsReply, window_after, is_running, is_paused, is_open}
use Rattle.buffer_core.specs.Histories.{IsLegal}
use Rattle.buffer_core.proofs.SlotLaws.{split}
use Rattle.buffer_core.specs.Points.{news_of, sent, sent_after, life_at, request_at, past_of}
use Rattle.buffer_core.specs.Runs.{Mark, Ended, mark_of, begun_after, ended_after, paused_after, begun_at, ended_at, is_paused_at, OnTaken, OnBegun, NeverInPause, BeginsOnce, AreRunsKept, KeepsRuns}
use Rattle.buffer_core.proofs.Places.{get_pushed, get_within}
use Rattle.buffer_core.proofs.Found.{split_option}
use Rattle.buffer_core.proofs.Replied.{run_admitted, IsBegun, run_begun, mark_set}
use Rattle.buffer_core.proofs.Linked.{window_at, WasLegal, legal_after, counted, linked}
use Rattle.buffer_core.proofs.Segments.{IsBetween, in_segment, of_segment}

-- the gate is open for this run: it began, and did not end, and all others that began did
pub record IsOpenRun (run : ℕ) (begun ended : ℕ → Option ℕ) : Type 0 where
  pub from : ℕ
  pub is_begun : begun run ≡ Some from
  pub not_ended : ended run ≡ None
  pub others : (s n : ℕ) → s ≢ run → begun s ≡ Some n → (m : ℕ) × (ended s ≡ Some m)

abbrev pub GateFits : RunGate → (begun ended : ℕ → Option ℕ) → (paused : ℕ → Bool) → Type 0
GateFits Shut begun ended paused = (s n : ℕ) → begun s ≡ Some n → (m : ℕ) × (ended s ≡ Some m)
GateFits (Running run) begun ended paused = IsOpenRun run begun ended × (paused run ≡ false)
GateFits (Paused run) begun ended paused = IsOpenRun run begun ended × (paused run ≡ true)

-- how the gate of a window and the marks in its history go together
pub record RunsFit (gate : RunGate) (last : ℕ) (ss : List Sent) (begun ended : ℕ → Option ℕ) (paused : ℕ → Bool) : Type 0 where
  pub above : (s n : ℕ) → begun s ≡ Some n → 0 < s
  pub known : (s n : ℕ) → begun s ≡ Some n → s ≤ last
  pub begins : (s n : ℕ) → begun s ≡ Some n → n ≤ length ss
  pub never_ended : (s : ℕ) → begun s ≡ None → ended s ≡ None
  pub never_paused : (s : ℕ) → begun s ≡ None → paused s ≡ false
  pub ends : (s m : ℕ) → ended s ≡ Some m → m ≤ length ss
  pub fits : GateFits gate begun ended paused
  pub inside : (p : ℕ) (s : Sent) → slice_get ss p ≡ Some s → s.start ≢ 0 → IsBetween (begun s.start) (ended s.start) p
  pub only : (run p : ℕ) (s : Sent) → IsBetween (begun run) (ended run) p → slice_get ss p ≡ Some s → (s.start ≡ run) ⊎ (s.start ≡ 0)

-- Which gate it is.

pub running_is : (gate : RunGate) (start : ℕ) → is_running gate start ≡ true → gate ≡ Running start
running_is Shut start e = absurd (cc)
running_is (Running s) start e = ap Running (eqb-true s start e)
running_is (Paused s) start e = absurd (cc)

paused_is : (gate : RunGate) (start : ℕ) → is_paused gate start ≡ true → gate ≡ Paused start
paused_is Shut start e = absurd (cc)
paused_is (Running s) start e = absurd (cc)
paused_is (Paused s) start e = ap Paused (eqb-true s start e)

open_run : (gate : RunGate) (start : ℕ) (begun ended : ℕ → Option ℕ) (paused : ℕ → Bool) → is_open gate start ≡ true → GateFits gate begun ended paused → IsOpenRun start begun ended
open_run Shut start begun ended paused e fits = absurd (cc)
open_run (Running s) start begun ended paused e fits = subst (λ (r : ℕ). IsOpenRun r begun ended) (eqb-true s start e) fits.0
open_run (Paused s) start begun ended paused e fits = subst (λ (r : ℕ). IsOpenRun r begun ended) (eqb-true s start e) fits.0

-- The steps.

-- an event of no run, or of the run that is on
abbrev pub MaySend : RunGate → (start : ℕ) → Type 0
MaySend gate start = (start ≡ 0) ⊎ (gate ≡ Running start)

never_begun : (gate : RunGate) (last : ℕ) (ss : List Sent) (begun ended : ℕ → Option ℕ) (paused : ℕ → Bool) → RunsFit gate last ss begun ended paused → begun 0 ≡ None
never_begun gate last ss begun ended paused r = split_option (begun 0) (λ o. begun 0 ≡ o → o ≡ None) (λ e f. refl) (λ n e f. absurd (omega (arith, r.above 0 n f))) refl

unpaused : (gate : RunGate) (last : ℕ) (ss : List Sent) (begun ended : ℕ → Option ℕ) (paused : ℕ → Bool) → RunsFit gate last ss begun ended paused → (start : ℕ) → MaySend gate start → paused start ≡ false
unpaused gate last ss begun ended paused r start (inl none) =
    subst (λ (s : ℕ). paused s ≡ false) (sym none) (r.never_paused 0 (never_begun gate last ss begun ended paused r))
unpaused gate last ss begun ended paused r start (inr running) = (subst (λ (g : RunGate). GateFits g begun ended paused) running r.fits).1

sent_inside : (gate : RunGate) (last : ℕ) (ss : List Sent) (begun ended : ℕ → Option ℕ) (paused : ℕ → Bool) → RunsFit gate last ss begun ended paused → (start : ℕ) → MaySend gate start → start ≢ 0 →
    IsBetween (begun start) (ended start) (length ss)
sent_inside gate last ss begun ended paused r start (inl none) some = absurd (some none)
sent_inside gate last ss begun ended paused r start (inr running) some =
    let it : IsOpenRun start begun ended = (subst (λ (g : RunGate). GateFits g begun ended paused) running r.fits).0 in
    record {
      from = it.from;
      is_begun = it.is_begun;
      behind = r.begins start it.from it.is_begun;
      before = λ to e. absurd (cc (it.not_ended, e));
    }

sent_only : (gate : RunGate) (last : ℕ) (ss : List Sent) (begun ended : ℕ → Option ℕ) (paused : ℕ → Bool) → RunsFit gate last ss begun ended paused → (start : ℕ) → MaySend gate start → (run : ℕ) →
    IsBetween (begun run) (ended run) (length ss) → (start ≡ run) ⊎ (start ≡ 0)
sent_only gate last ss begun ended paused r start (inl none) run between = inr none
sent_only gate last ss begun ended paused r start (inr running) run between =
    let it : IsOpenRun start begun ended = (subst (λ (g : RunGate). GateFits g begun ended paused) running r.fits).0 in
    split (run == start) (λ b. (run == start) ≡ b → (start ≡ run) ⊎ (start ≡ 0))
    (λ h same. inl (sym (eqb-true run start same)))
    (λ h other.
    let end = it.others run between.from (eqb-false run start other) between.is_begun in
    absurd (omega (arith, between.before end.0 end.1, r.ends run end.0 end.1)))
    refl

sent_fits : (gate : RunGate) (last : ℕ) (ss : List Sent) (begun ended : ℕ → Option ℕ) (paused : ℕ → Bool) → RunsFit gate last ss begun ended paused → (x : Sent) → MaySend gate x.start →
    RunsFit gate last (ss ++ x ∷ []) begun ended paused
sent_fits gate last ss begun ended paused r x may =
    let long : length (ss ++ x ∷ []) ≡ length ss + 1 = length_push ss x in
    record {
      above = r.above;
      known = r.known;
      begins = λ s n e. omega (arith, r.begins s n e, long);
      never_ended = r.never_ended;
      never_paused = r.never_paused;
      ends = λ s m e. omega (arith, r.ends s m e, long);
      fits = r.fits;
      inside = λ p s is some.
          ⊎_elim
          (λ (old : slice_get ss p ≡ Some s). r.inside p s old some)
          (λ (new : (p ≡ length ss) × (x ≡ s)).
          let same : x.start ≡ s.start = ap (λ (y : Sent). y.start) new.1 in
          let here : IsBetween (begun x.start) (ended x.start) (length ss) = sent_inside gate last ss begun ended paused r x.start may (λ none. some (sym same ∙ none)) in
          subst (IsBetween (begun s.start) (ended s.start)) (sym new.0) (subst (λ (run : ℕ). IsBetween (begun run) (ended run) (length ss)) same here))
          (get_pushed ss x p s is);
      only = λ run p s between is.
          ⊎_elim
          (λ (old : slice_get ss p ≡ Some s). r.only run p s between old)
          (λ (new : (p ≡ length ss) × (x ≡ s)).
          let here : (x.start ≡ run) ⊎ (x.start ≡ 0) = sent_only gate last ss begun ended paused r x.start may run (subst (IsBetween (begun run) (ended run)) new.0 between) in
          subst (λ (y : Sent). (y.start ≡ run) ⊎ (y.start ≡ 0)) new.1 here)
          (get_pushed ss x p s is);
    }

-- a value at one number
hit_is : {A : Type 0} (s t : ℕ) (x y : A) → s ≡ t → (if s == t then x else y) ≡ x
hit_is s t x y same = ap (λ (b : Bool). if b then x else y) (eq-eqb s t same)

miss_is : {A : Type 0} (s t : ℕ) (x y : A) → (s ≡ t → ⊥) → (if s == t then x else y) ≡ y
miss_is s t x y other = ap (λ (b : Bool). if b then x else y) (ne_eqb s t other)

-- a run that is above the last one did not begin
fresh_run : (gate : RunGate) (last : ℕ) (ss : List Sent) (begun ended : ℕ → Option ℕ) (paused : ℕ → Bool) → RunsFit gate last ss begun ended paused → (start : ℕ) → last < start → begun start ≡ None
fresh_run gate last ss begun ended paused r start high = split_option (begun start) (λ o. begun start ≡ o → o ≡ None) (λ e f. refl) (λ n e f. absurd (omega (arith, r.known start n f, high))) refl

never : (start s n : ℕ) (o : Option ℕ) → (if start == s then Some n else o) ≡ None → o ≡ None
never start s n o e =
    split (start == s) (λ b. (if b then Some n else o) ≡ None → o ≡ None)
    (λ h here. absurd (cc (here)))
    (λ h there. there)
    e

begin_fits : (last : ℕ) (ss : List Sent) (begun ended : ℕ → Option ℕ) (paused : ℕ → Bool) → RunsFit Shut last ss begun ended paused → (start n : ℕ) → last < start → n ≡ length ss →
    RunsFit (Running start) start ss (λ s. if start == s then Some n else begun s) ended paused
begin_fits last ss begun ended paused r start n high count =
    let fresh : begun start ≡ None = fresh_run Shut last ss begun ended paused r start high in
    let old : (P : ℕ → Type 0) (s m : ℕ) → ((if start == s then Some n else begun s) ≡ Some m) → (start ≡ s → n ≡ m → P m) → (begun s ≡ Some m → P m) → P m = λ P s m e here there.
    split (start == s) (λ b. (start == s) ≡ b → (if b then Some n else begun s) ≡ Some m → P m)
    (λ h same e'. here (eqb-true start s same) (cc (e')))
    (λ h other e'. there e')
    refl e in
    record {
      above = λ s m e. old (λ _. 0 < s) s m e (λ same is. omega (arith, same, high)) (λ was. r.above s m was);
      known = λ s m e. old (λ _. s ≤ start) s m e (λ same is. omega (arith, same)) (λ was. omega (arith, r.known s m was, high));
      begins = λ s m e. old (λ k. k ≤ length ss) s m e (λ same is. omega (arith, is, count)) (λ was. r.begins s m was);
      never_ended = λ s e. r.never_ended s (never start s n (begun s) e);
      never_paused = λ s e. r.never_paused s (never start s n (begun s) e);
      ends = r.ends;
      fits = (
        record {
          from = n;
          is_begun = hit_is start start (Some n) (begun start) refl;
          not_ended = r.never_ended start fresh;
          others = λ s m other e. old (λ _. (k : ℕ) × (ended s ≡ Some k)) s m e (λ same is. absurd (other (sym same))) (λ was. r.fits s m was);
        },
        r.never_paused start fresh,
      );
      inside = λ p s is some.
          let was : IsBetween (begun s.start) (ended s.start) p = r.inside p s is some in
          let low : s.start ≤ last = r.known s.start was.from was.is_begun in
          subst (λ (o : Option ℕ). IsBetween o (ended s.start) p) (sym (miss_is start s.start (Some n) (begun s.start) (λ same. omega (arith, same, low, high)))) was;
      only = λ run p s between is.
          split (start == run) (λ b. IsBetween (if b then Some n else begun run) (ended run) p → (s.start ≡ run) ⊎ (s.start ≡ 0))
          (λ h here.
          let from_is : n ≡ here.from = cc (here.is_begun) in
          absurd (omega (arith, from_is, here.behind, count, get_within ss p s is)))
          (λ h there. r.only run p s there is)
          between;
    }

-- the gate moves, with a run that is on
moved_fits : (gate moved : RunGate) (last : ℕ) (ss : List Sent) (begun ended : ℕ → Option ℕ) (paused paused' : ℕ → Bool) → RunsFit gate last ss begun ended paused → GateFits moved begun ended paused' →
    ((s : ℕ) → begun s ≡ None → paused' s ≡ false) → RunsFit moved last ss begun ended paused'
moved_fits gate moved last ss begun ended paused paused' r fits never_paused =
    record {
      above = r.above;
      known = r.known;
      begins = r.begins;
      never_ended = r.never_ended;
      never_paused = never_paused;
      ends = r.ends;
      fits = fits;
      inside = r.inside;
      only = r.only;
    }

pause_fits : (gate : RunGate) (last : ℕ) (ss : List Sent) (begun ended : ℕ → Option ℕ) (paused : ℕ → Bool) → RunsFit gate last ss begun ended paused → (start : ℕ) → gate ≡ Running start →
    RunsFit (Paused start) last ss begun ended (λ s. if start == s then true else paused s)
pause_fits gate last ss begun ended paused r start running =
    let it : IsOpenRun start begun ended = (subst (λ (g : RunGate). GateFits g begun ended paused) running r.fits).0 in
    moved_fits gate (Paused start) last ss begun ended paused (λ s. if start == s then true else paused s) r (it, hit_is start start true (paused start) refl) (λ s e.
    split (start == s) (λ b. (start == s) ≡ b → (if b then true else paused s) ≡ false)
    (λ h same. absurd (cc (it.is_begun, subst (λ (k : ℕ). begun k ≡ None) (sym (eqb-true start s same)) e)))
    (λ h other. r.never_paused s e)
    refl)

resume_fits : (gate : RunGate) (last : ℕ) (ss : List Sent) (begun ended : ℕ → Option ℕ) (paused : ℕ → Bool) → RunsFit gate last ss begun ended paused → (start : ℕ) → gate ≡ Paused start →
    RunsFit (Running start) last ss begun ended (λ s. if start == s then false else paused s)
resume_fits gate last ss begun ended paused r start in_pause =
    let it : IsOpenRun start begun ended = (subst (λ (g : RunGate). GateFits g begun ended paused) in_pause r.fits).0 in
    moved_fits gate (Running start) last ss begun ended paused (λ s. if start == s then false else paused s) r (it, hit_is start start false (paused start) refl) (λ s e.
    split (start == s) (λ b. (if b then false else paused s) ≡ false) (λ h. refl) (λ h. r.never_paused s e))

end_fits : (gate : RunGate) (last : ℕ) (ss : List Sent) (begun ended : ℕ → Option ℕ) (paused : ℕ → Bool) → RunsFit gate last ss begun ended paused → (start n : ℕ) → is_open gate start ≡ true → n ≡ length ss →
    RunsFit Shut last ss begun (λ s. if start == s then Some n else ended s) (λ s. if start == s then false else paused s)
end_fits gate last ss begun ended paused r start n is_on count =
    let it : IsOpenRun start begun ended = open_run gate start begun ended paused is_on r.fits in
    let other_run : (s : ℕ) → begun s ≡ None → start ≡ s → ⊥ = λ s e same. cc (it.is_begun, subst (λ (k : ℕ). begun k ≡ None) (sym same) e) in
    record {
      above = r.above;
      known = r.known;
      begins = r.begins;
      never_ended = λ s e. miss_is start s (Some n) (ended s) (other_run s e) ∙ r.never_ended s e;
      never_paused = λ s e. miss_is start s false (paused s) (other_run s e) ∙ r.never_paused s e;
      ends = λ s m e.
          split (start == s) (λ b. (if b then Some n else ended s) ≡ Some m → m ≤ length ss)
          (λ h here. let same : n ≡ m = cc (here) in omega (arith, same, count))
          (λ h there. r.ends s m there)
          e;
      fits = λ s k e.
          split (start == s) (λ b. (start == s) ≡ b → (m : ℕ) × ((if b then Some n else ended s) ≡ Some m))
          (λ h same. (n, refl))
          (λ h other. it.others s k (λ same. eqb-false start s other (sym same)) e)
          refl;
      inside = λ p s is some.
          let was : IsBetween (begun s.start) (ended s.start) p = r.inside p s is some in
          record {
            from = was.from;
            is_begun = was.is_begun;
            behind = was.behind;
            before = λ to e.
                split (start == s.start) (λ b. (if b then Some n else ended s.start) ≡ Some to → p < to)
                (λ h here. let same : n ≡ to = cc (here) in omega (arith, same, count, get_within ss p s is))
                (λ h there. was.before to there)
                e;
          };
      only = λ run p s between is.
          r.only run p s
          (record {
            from = between.from;
            is_begun = between.is_begun;
            behind = between.behind;
            before = λ to e. between.before to (miss_is start run (Some n) (ended run) (λ same. absurd (cc (subst (λ (k : ℕ). ended k ≡ None) same it.not_ended, e))) ∙ e);
          })
          is;
    }

-- what is asked of the run that a mark ends
abbrev pub OnEnded : Mark → (ℕ → Type 0) → Type 0
OnEnded (Ended start n) P = P start
OnEnded mark P = ⊤

-- what a step keeps, and what it says of the event that it sends or of the run that it begins
pub record RunStep (w : Window) (ss : List Sent) (begun ended : ℕ → Option ℕ) (paused : ℕ → Bool) (e : BufferEntry) : Type 0 where
  pub fit : RunsFit (window_after w e).gate (window_after w e).last (sent_after (news_of e) ss) (λ s. begun_after (mark_of e) s (begun s)) (λ s. ended_after (mark_of e) s (ended s)) (λ s. paused_after (mark_of e) s (paused s))
  pub taken : OnTaken (news_of e) (λ s. paused s.start ≡ false)
  pub once : OnBegun (mark_of e) (λ start. begun start ≡ None)
  pub last : OnEnded (mark_of e) (λ start. ended start ≡ None)

run_step : (w : Window) (ss : List Sent) (begun ended : ℕ → Option ℕ) (paused : ℕ → Bool) (e : BufferEntry) → accepted_of w ≡ length ss → RunsFit w.gate w.last ss begun ended paused → IsReply w e → RunStep w ss begun ended paused e
run_step w ss begun ended paused (Attach name (Ok n)) count r reply = record { fit = r; taken = tt; once = tt; last = tt }
run_step w ss begun ended paused (Attach name (Err f)) count r reply = record { fit = r; taken = tt; once = tt; last = tt }
run_step w ss begun ended paused (Detach client (Ok u)) count r reply = record { fit = r; taken = tt; once = tt; last = tt }
run_step w ss begun ended paused (Detach client (Err f)) count r reply = record { fit = r; taken = tt; once = tt; last = tt }
run_step w ss begun ended paused (Request client id mask kind (Ok n)) count r reply = record { fit = r; taken = tt; once = tt; last = tt }
run_step w ss begun ended paused (Request client id mask kind (Err f)) count r reply = record { fit = r; taken = tt; once = tt; last = tt }
run_step w ss begun ended paused (Cancel client request (Ok u)) count r reply = record { fit = r; taken = tt; once = tt; last = tt }
run_step w ss begun ended paused (Cancel client request (Err f)) count r reply = record { fit = r; taken = tt; once = tt; last = tt }
run_step w ss begun ended paused (Send stated e (Ok n)) count r reply =
    let x : Sent = record { event = e; start = 0 } in
    record {
      fit = sent_fits w.gate w.last ss begun ended paused r x (inl refl);
      taken = unpaused w.gate w.last ss begun ended paused r 0 (inl refl);
      once = tt;
      last = tt;
    }
run_step w ss begun ended paused (Send stated e (Err f)) count r reply = record { fit = r; taken = tt; once = tt; last = tt }
run_step w ss begun ended paused (SendInRun start stated e (Ok n)) count r reply =
    let x : Sent = record { event = e; start = start } in
    let running : w.gate ≡ Running start = running_is w.gate start (run_admitted w start stated e n (sym reply)).0 in
    record {
      fit = sent_fits w.gate w.last ss begun ended paused r x (inr running);
      taken = unpaused w.gate w.last ss begun ended paused r start (inr running);
      once = tt;
      last = tt;
    }
run_step w ss begun ended paused (SendInRun start stated e (Err f)) count r reply = record { fit = r; taken = tt; once = tt; last = tt }
run_step w ss begun ended paused (Receive client room (Got place start)) count r reply = record { fit = r; taken = tt; once = tt; last = tt }
run_step w ss begun ended paused (Receive client room (Empty gate last)) count r reply = record { fit = r; taken = tt; once = tt; last = tt }
run_step w ss begun ended paused (Receive client room NoReader) count r reply = record { fit = r; taken = tt; once = tt; last = tt }
run_step w ss begun ended paused (Receive client room (SmallBuf need)) count r reply = record { fit = r; taken = tt; once = tt; last = tt }
run_step w ss begun ended paused (Begin start (Ok n)) count r reply =
    let is : IsBegun w.gate w.last start (accepted_of w) n = run_begun w.gate w.last start (accepted_of w) n reply in
    record {
      fit = begin_fits w.last ss begun ended paused (subst (λ (g : RunGate). RunsFit g w.last ss begun ended paused) is.shut r) start n is.above (is.place_is ∙ count);
      taken = tt;
      once = fresh_run w.gate w.last ss begun ended paused r start is.above;
      last = tt;
    }
run_step w ss begun ended paused (Begin start (Err f)) count r reply = record { fit = r; taken = tt; once = tt; last = tt }
run_step w ss begun ended paused (Pause start (Ok n)) count r reply =
    record {
      fit = pause_fits w.gate w.last ss begun ended paused r start (running_is w.gate start (mark_set (is_running w.gate start) w n reply).0);
      taken = tt;
      once = tt;
      last = tt;
    }
run_step w ss begun ended paused (Pause start (Err f)) count r reply = record { fit = r; taken = tt; once = tt; last = tt }
run_step w ss begun ended paused (Resume start (Ok n)) count r reply =
    record {
      fit = resume_fits w.gate w.last ss begun ended paused r start (paused_is w.gate start (mark_set (is_paused w.gate start) w n reply).0);
      taken = tt;
      once = tt;
      last = tt;
    }
run_step w ss begun ended paused (Resume start (Err f)) count r reply = record { fit = r; taken = tt; once = tt; last = tt }
run_step w ss begun ended paused (End start (Ok n)) count r reply =
    let set = mark_set (is_open w.gate start) w n reply in
    record {
      fit = end_fits w.gate w.last ss begun ended paused r start n set.0 (set.1 ∙ count);
      taken = tt;
      once = tt;
      last = (open_run w.gate start begun ended paused set.0 r.fits).not_ended;
    }
run_step w ss begun ended paused (End start (Err f)) count r reply = record { fit = r; taken = tt; once = tt; last = tt }
run_step w ss begun ended paused (Level reply) count r e = record { fit = r; taken = tt; once = tt; last = tt }
run_step w ss begun ended paused (Accepted reply) count r e = record { fit = r; taken = tt; once = tt; last = tt }

-- The whole.

abbrev pub RunsFitAt : (size : ℕ) → List (ℕ × BufferEntry) → Type 0
RunsFitAt size past = RunsFit (window_at size past).gate (window_at size past).last (sent past) (begun_at past) (ended_at past) (is_paused_at past)

pub counted_at : (size : ℕ) (past : List (ℕ × BufferEntry)) → WasLegal size past → accepted_of (window_at size past) ≡ length (sent past)
counted_at size past was = counted size (window_at size past) (sent past) (request_at past) (life_at past) (linked size past was)

pub runs_fit : (size : ℕ) (past : List (ℕ × BufferEntry)) → WasLegal size past → RunsFitAt size past
runs_fit size [] was =
    record {
      above = λ s n e. absurd (cc (e));
      known = λ s n e. absurd (cc (e));
      begins = λ s n e. absurd (cc (e));
      never_ended = λ s e. refl;
      never_paused = λ s e. refl;
      ends = λ s m e. absurd (cc (e));
      fits = λ s n e. absurd (cc (e));
      inside = λ p s is some. absurd (cc (is));
      only = λ run p s between is. absurd (cc (is));
    }
runs_fit size (e ∷ past) was =
    (run_step (window_at size past) (sent past) (begun_at past) (ended_at past) (is_paused_at past) e.1 (counted_at size past was.1) (runs_fit size past was.1) was.0).fit

-- the step of an entry at its point
pub run_step_at : (size : ℕ) (e : ℕ × BufferEntry) (past : List (ℕ × BufferEntry)) → WasLegal size (e ∷ past) → RunStep (window_at size past) (sent past) (begun_at past) (ended_at past) (is_paused_at past) e.1
run_step_at size e past was = run_step (window_at size past) (sent past) (begun_at past) (ended_at past) (is_paused_at past) e.1 (counted_at size past was.1) (runs_fit size past was.1) was.0

never_in_pause : (size : ℕ) (past : List (ℕ × BufferEntry)) → WasLegal size past → NeverInPause past
never_in_pause size [] was = tt
never_in_pause size (e ∷ past) was =
    ((run_step_at size e past was).taken, never_in_pause size past was.1)

begins_once : (size : ℕ) (past : List (ℕ × BufferEntry)) → WasLegal size past → BeginsOnce past
begins_once size [] was = tt
begins_once size (e ∷ past) was =
    ((run_step_at size e past was).once, begins_once size past was.1)

pub runs_kept : (size : ℕ) (past : List (ℕ × BufferEntry)) → WasLegal size past → AreRunsKept past
runs_kept size past was =
    let r : RunsFitAt size past = runs_fit size past was in
    record {
      inside = λ place s is some. in_segment (begun_at past s.start) (ended_at past s.start) (sent past) place s (r.inside place s is some) is;
      only = λ start i place s is.
          let of = of_segment (begun_at past start) (ended_at past start) (sent past) i place s is in
          r.only start place s of.0 of.1;
      unpaused = never_in_pause size past was;
      once = begins_once size past was;
    }

pub history_ordered : (size : ℕ) (h : List (ℕ × BufferEntry)) → IsLegal (opening size) h → KeepsRuns h
history_ordered size h legal = runs_kept size (past_of h) (legal_after size [] h tt legal)
