-- Where an analyzer saw a run through, the calls by which it counted the run are those up to a receive that found nothing,
-- and maybe more: its next call behind them cancelled the request.
use Rattle.std.specs.Prelude.{◌≡◌, ℕ, ◌==◌, true, false, List, [], ◌∷◌, ◌++◌, Result, Ok, refl, ⊤}
use Rattle.std.proofs.Common.{ap, sym, ◌∙◌, subst, append_assoc, eq-eqb}
use Rattle.daq_types.specs.Callers.{caller_of_client, entries_by}
use Rattle.daq_types.proofs.CallersLaws.{entries_by-append, entries_by-own}
use Rattle.daq_types.specs.declared.runs.Kind.TheVariants.{All}
use Rattle.buffer_core.proofs.SlotLaws.{split}
use Rattle.buffer_core.specs.declared.replies.Received.{Received}
use Rattle.buffer_core.specs.declared.replies.Received.TheVariants.{Empty}
use Rattle.buffer_core.specs.declared.replies.RequestRefusal.{RequestRefusal}
use Rattle.buffer_core.specs.declared.entry.BufferEntry.{BufferEntry}
use Rattle.buffer_core.specs.declared.entry.BufferEntry.TheVariants.{Request, Cancel, Receive, End}
use Rattle.buffer_core.specs.Histories.{History}
use Rattle.event_report.specs.Reports.{Totals}
use Rattle.member_model.specs.SentCalls.{EachCall}
use Rattle.member_model.specs.OwnCalls.{calls_after, asks, KeepsAsking}
use Rattle.analyzers.specs.CountedRuns.{IsWhollyCounted, counted_calls}
use Rattle.analyzers.specs.AnalyzerKept.{count_request}
use Rattle.history_laws.specs.SeenRuns.{SeesRun}
use Rattle.composition.specs.Sessions.{Session, SessionAnalyzer, buffer_calls}
use Rattle.composition.specs.SessionRuns.{SessionRun, ReportsRun, CancelsNot, SawThrough}

-- A history is cut where its calls by one caller are.

own_first : (c : ℕ) (e : ℕ × BufferEntry) (h : History) → (e.0 == c) ≡ true → entries_by c (e ∷ h) ≡ e.1 ∷ entries_by c h
own_first c e h is = rw is refl

other_first : (c : ℕ) (e : ℕ × BufferEntry) (h : History) → (e.0 == c) ≡ false → entries_by c (e ∷ h) ≡ entries_by c h
other_first c e h is = rw is refl

record CutAt (c : ℕ) (h : History) (xs : List BufferEntry) : Type 0 where
  pub first : History
  pub last : History
  pub whole : h ≡ first ++ last
  pub calls : entries_by c first ≡ xs

cut_at : (c : ℕ) (h : History) (xs ys : List BufferEntry) → entries_by c h ≡ xs ++ ys → CutAt c h xs
cut_at c [] [] ys is = record { first = []; last = []; whole = refl; calls = refl }
cut_at c [] (x ∷ xs) ys is = absurd (cc (is))
cut_at c (e ∷ h) [] ys is = record { first = []; last = e ∷ h; whole = refl; calls = refl }
cut_at c (e ∷ h) (x ∷ xs) ys is =
    split (e.0 == c) (λ b. (e.0 == c) ≡ b → CutAt c (e ∷ h) (x ∷ xs))
    (λ hit own.
    let both : e.1 ∷ entries_by c h ≡ x ∷ (xs ++ ys) = sym (own_first c e h own) ∙ is in
    let here : e.1 ≡ x = cc (both) in
    let more : entries_by c h ≡ xs ++ ys = cc (both) in
    let rest : CutAt c h xs = cut_at c h xs ys more in
    record {
      first = e ∷ rest.first;
      last = rest.last;
      whole = ap (λ (l : History). e ∷ l) rest.whole;
      calls = own_first c e rest.first own ∙ (ap (λ (l : List BufferEntry). e.1 ∷ l) rest.calls ∙ ap (λ (y : BufferEntry). y ∷ xs) here);
    })
    (λ miss other.
    let more : entries_by c h ≡ x ∷ (xs ++ ys) = sym (other_first c e h other) ∙ is in
    let rest : CutAt c h (x ∷ xs) = cut_at c h (x ∷ xs) ys more in
    record {
      first = e ∷ rest.first;
      last = rest.last;
      whole = ap (λ (l : History). e ∷ l) rest.whole;
      calls = other_first c e rest.first other ∙ rest.calls;
    })
    refl

-- A receive behind calls that leave the client's request stands before the cancelling of the request.

record FoundBefore (xs after counted later : List BufferEntry) (found cancel : BufferEntry) : Type 0 where
  pub rest : List BufferEntry
  pub counted_is : counted ≡ xs ++ found ∷ rest
  pub after_is : after ≡ rest ++ cancel ∷ later

found_before : (client room number : ℕ) (reply : Received) (cancelled : Result ⊤ RequestRefusal) (xs after counted later : List BufferEntry) → EachCall (CancelsNot client number) xs
    → xs ++ Receive client room reply ∷ after ≡ counted ++ Cancel client number cancelled ∷ later → FoundBefore xs after counted later (Receive client room reply) (Cancel client number cancelled)
found_before client room number reply cancelled [] after [] later keeps is =
    absurd (let never : Receive client room reply ≡ Cancel client number cancelled = cc (is) in cc (never))
found_before client room number reply cancelled [] after (c ∷ counted) later keeps is =
    let here : Receive client room reply ≡ c = cc (is) in
    let more : after ≡ counted ++ Cancel client number cancelled ∷ later = cc (is) in
    record { rest = counted; counted_is = ap (λ (y : BufferEntry). y ∷ counted) (sym here); after_is = more }
found_before client room number reply cancelled (x ∷ xs) after [] later keeps is =
    let here : x ≡ Cancel client number cancelled = cc (is) in
    absurd (subst (CancelsNot client number) here keeps.0 (refl, refl))
found_before client room number reply cancelled (x ∷ xs) after (c ∷ counted) later keeps is =
    let here : x ≡ c = cc (is) in
    let more : xs ++ Receive client room reply ∷ after ≡ counted ++ Cancel client number cancelled ∷ later = cc (is) in
    let rest : FoundBefore xs after counted later (Receive client room reply) (Cancel client number cancelled) = found_before client room number reply cancelled xs after counted later keeps.1 more in
    record {
      rest = rest.rest;
      counted_is = ap (λ (y : BufferEntry). y ∷ counted) (sym here) ∙ ap (λ (l : List BufferEntry). x ∷ l) rest.counted_is;
      after_is = rest.after_is;
    }

keeps_first : (client : ℕ) (xs ys : List BufferEntry) → KeepsAsking client (xs ++ ys) → KeepsAsking client xs
keeps_first client [] ys keeps = tt
keeps_first client (x ∷ xs) ys keeps = (keeps.0, keeps_first client xs ys keeps.1)

same_tail : (b p q : List BufferEntry) → b ++ p ≡ b ++ q → p ≡ q
same_tail [] p q is = is
same_tail (x ∷ b) p q is = same_tail b p q (cc (is))

-- The calls of one caller up to a call of it.

own_up_to : (c : ℕ) (before running draining : History) (end : ℕ × BufferEntry) (request found : BufferEntry)
    → entries_by c (before ++ (c, request) ∷ (running ++ end ∷ (draining ++ (c, found) ∷ []))) ≡ entries_by c before ++ request ∷ (entries_by c (running ++ end ∷ draining) ++ found ∷ [])
own_up_to c before running draining end request found =
    let mid : History = running ++ end ∷ draining in
    let tail : running ++ end ∷ (draining ++ (c, found) ∷ []) ≡ mid ++ (c, found) ∷ [] = sym (append_assoc running (end ∷ draining) ((c, found) ∷ [])) in
    ap (λ (l : History). entries_by c (before ++ (c, request) ∷ l)) tail
    ∙ (entries_by-append c before ((c, request) ∷ (mid ++ (c, found) ∷ []))
    ∙ ap (λ (l : List BufferEntry). entries_by c before ++ l)
    (own_first c (c, request) (mid ++ (c, found) ∷ []) (eq-eqb c c refl) ∙ ap (λ (l : List BufferEntry). request ∷ l) (entries_by-own c mid found)))

-- what was so up to the end of the counting
pub record SawBy (s : Session) (r : SessionRun) (a : SessionAnalyzer) (report : Totals) (told : ReportsRun s r a report) : Type 0 where
  pub seen : History
  pub later : History
  pub whole : s.history a.buffer ≡ seen ++ later
  pub ended : ℕ
  pub sees : SeesRun seen (caller_of_client a.client) told.client a.wanted.id a.wanted.mask r.start ended
  pub since : entries_by (caller_of_client a.client) seen
      ≡ entries_by (caller_of_client a.client) sees.before ++ Request told.client a.wanted.id a.wanted.mask All (Ok sees.number) ∷ counted_calls told.counted

pub saw_by : (s : Session) (r : SessionRun) (a : SessionAnalyzer) (report : Totals) (told : ReportsRun s r a report) → SawThrough (s.history a.buffer) (caller_of_client a.client) told → SawBy s r a report told
saw_by s r a report told saw =
    let c : ℕ = caller_of_client a.client in
    let h : History = s.history a.buffer in
    let w : IsWhollyCounted (buffer_calls s a.buffer a.client) a.got (count_request a.wanted told.client told.number r.start told.earlier told.asked_before) told.events = told.counted in
    let counts : List BufferEntry = counted_calls w in
    let end : ℕ × BufferEntry = (saw.by, End r.start (Ok saw.ended)) in
    let request : BufferEntry = Request told.client a.wanted.id a.wanted.mask All (Ok told.number) in
    let asked : BufferEntry = Request told.client a.wanted.id a.wanted.mask a.wanted.kind (Ok told.number) in
    let found : BufferEntry = Receive told.client saw.room (Empty saw.gate saw.last) in
    let cancel : BufferEntry = Cancel told.client told.number w.cancelled in
    let front : History = saw.before ++ (c, request) ∷ (saw.running ++ end ∷ (saw.draining ++ (c, found) ∷ [])) in
    let b : List BufferEntry = entries_by c saw.before in
    let m : List BufferEntry = entries_by c (saw.running ++ end ∷ saw.draining) in
    let rest : List BufferEntry = entries_by c saw.after in
    let own_front : entries_by c front ≡ b ++ request ∷ (m ++ found ∷ []) = own_up_to c saw.before saw.running saw.draining end request found in
    let joined : (l : List BufferEntry) → (b ++ request ∷ (m ++ found ∷ [])) ++ l ≡ b ++ request ∷ (m ++ found ∷ l) = λ l.
    append_assoc b (request ∷ (m ++ found ∷ [])) l ∙ ap (λ (x : List BufferEntry). b ++ request ∷ x) (append_assoc m (found ∷ []) l) in
    let own_seen : entries_by c h ≡ b ++ request ∷ (m ++ found ∷ rest) =
    ap (entries_by c) saw.whole ∙ (entries_by-append c front saw.after ∙ (ap (λ (x : List BufferEntry). x ++ rest) own_front ∙ joined rest)) in
    let own_counted : entries_by c h ≡ w.counted.asked.before ++ asked ∷ (counts ++ cancel ∷ w.later) =
    w.own_is ∙ (ap (λ (x : List BufferEntry). x ++ cancel ∷ w.later) w.counted.asked.whole ∙ append_assoc w.counted.asked.before (asked ∷ counts) (cancel ∷ w.later)) in
    let tails : request ∷ (m ++ found ∷ rest) ≡ asked ∷ (counts ++ cancel ∷ w.later) =
    same_tail b (request ∷ (m ++ found ∷ rest)) (asked ∷ (counts ++ cancel ∷ w.later))
    (sym own_seen ∙ (own_counted ∙ ap (λ (x : List BufferEntry). x ++ asked ∷ (counts ++ cancel ∷ w.later)) (sym saw.by_request))) in
    let more : m ++ found ∷ rest ≡ counts ++ cancel ∷ w.later = cc (tails) in
    let f : FoundBefore m rest counts w.later found cancel =
    found_before told.client saw.room told.number (Empty saw.gate saw.last) w.cancelled m rest counts w.later saw.lives more in
    let cut : CutAt c saw.after f.rest = cut_at c saw.after f.rest (cancel ∷ w.later) f.after_is in
    record {
      seen = front ++ cut.first;
      later = cut.last;
      whole = saw.whole ∙ (ap (λ (x : History). front ++ x) cut.whole ∙ sym (append_assoc front cut.first cut.last));
      ended = saw.ended;
      sees = record {
        before = saw.before;
        running = saw.running;
        draining = saw.draining;
        after = cut.first;
        number = told.number;
        by = saw.by;
        room = saw.room;
        gate = saw.gate;
        last = saw.last;
        whole = refl;
        early = saw.early;
        alone = subst (λ (l : List BufferEntry). (n : ℕ) → asks (calls_after [] l) told.client n ≡ false) (sym saw.by_request) w.counted.asked.alone;
        keeps = keeps_first told.client m (found ∷ f.rest) (subst (KeepsAsking told.client) f.counted_is w.counted.asks_on);
      };
      since = entries_by-append c front cut.first
          ∙ (ap (λ (x : List BufferEntry). entries_by c front ++ x) cut.calls
          ∙ (ap (λ (x : List BufferEntry). x ++ f.rest) own_front
          ∙ (joined f.rest ∙ ap (λ (x : List BufferEntry). b ++ request ∷ x) (sym f.counted_is))));
    }

-- so it is where the history went on
pub sees_on : (history seen later : History) (caller client id mask start ended : ℕ) → history ≡ seen ++ later → SeesRun seen caller client id mask start ended → SeesRun history caller client id mask start ended
sees_on history seen later caller client id mask start ended more sees = record {
  before = sees.before;
  running = sees.running;
  draining = sees.draining;
  after = sees.after ++ later;
  number = sees.number;
  by = sees.by;
  room = sees.room;
  gate = sees.gate;
  last = sees.last;
  whole = more ∙ (ap (λ (h : History). h ++ later) sees.whole ∙ append_assoc _ sees.after later);
  early = sees.early;
  alone = sees.alone;
  keeps = sees.keeps;
}
