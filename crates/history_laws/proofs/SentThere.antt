-- Where the events stand that one caller sent in a run.
use Rattle.std.specs.Prelude.{◌≡◌, ◌≢◌, ℕ, zero, suc, ◌+◌, ◌<◌, ◌≤◌, ◌==◌, ◌||◌, Bool, false, if◌then◌else◌, List, [], ◌∷◌, ◌++◌, length, take, drop, unwrap_or, slice_get, Option, Some, None, Ok, refl, ⊤}
use Rattle.std.specs.List.{AllByRecursion, filter, enumerate_from, list_any}
use Rattle.std.proofs.Common.{ap, sym, ◌∙◌, subst, arith, append_assoc, ne_eqb}
use Rattle.std.proofs.lemmas.Bool.{eqb-true, eqb-false}
use Rattle.std.proofs.lemmas.List.{length-append}
use Rattle.daq_types.specs.Callers.{entries_by}
use Rattle.daq_types.specs.declared.events.Event.{Event}
use Rattle.buffer_core.specs.declared.entry.BufferEntry.{BufferEntry}
use Rattle.buffer_core.specs.declared.entry.BufferEntry.TheVariants.{SendInRun}
use Rattle.buffer_core.proofs.SlotLaws.{split}
use Rattle.buffer_core.specs.Window.{Sent, opening}
use Rattle.buffer_core.specs.Histories.{IsLegal}
use Rattle.buffer_core.specs.Points.{sent, count_at, past_after, past_of}
use Rattle.buffer_core.specs.Runs.{begun_at, ended_at, segment, events_between}
use Rattle.buffer_core.specs.Readers.{places_of}
use Rattle.buffer_core.specs.Continued.{sent_in, RepliesCount}
use Rattle.buffer_core.specs.Delivered.{Throughout}
use Rattle.member_model.specs.SentCalls.{sent_by_call, own_sent}
use Rattle.history_laws.specs.BufferLaws.{BufferLaws}
use Rattle.history_laws.specs.OneCaller.{events_in}
use Rattle.history_laws.specs.SentRuns.{place_sent, places_sent, events_at_places}
use Rattle.history_laws.specs.CallerLaws.{SendStands, SendsStandInOrder}
use Rattle.history_laws.proofs.Pasts.{throughout, throughout_front, own_cases, StandsIn, stands}
use Rattle.history_laws.proofs.OwnPlaces.{all_join, count_grows}

-- An accepted send and its event.

get_behind : {X : Type 0} (xs ys : List X) (x : X) → slice_get (xs ++ x ∷ ys) (length xs) ≡ Some x
get_behind [] ys x = refl
get_behind (z ∷ zs) ys x = get_behind zs ys x

sent_there : (laws : BufferLaws) (size : ℕ) (before after : List (ℕ × BufferEntry)) (by start stated place : ℕ) (event : Event)
    → IsLegal (opening size) (before ++ (by, SendInRun start stated event (Ok place)) ∷ after)
    → slice_get (sent (past_of (before ++ (by, SendInRun start stated event (Ok place)) ∷ after))) place ≡ Some (record { event = event; start = start })
sent_there laws size before after by start stated place event legal =
    let call : ℕ × BufferEntry = (by, SendInRun start stated event (Ok place)) in
    let s : Sent = record { event = event; start = start } in
    let count : place ≡ count_at (past_of before) = laws.counts size before after by (SendInRun start stated event (Ok place)) legal in
    let whole : sent (past_of (before ++ call ∷ after)) ≡ sent (past_of before) ++ s ∷ sent_in after = laws.events before (call ∷ after) in
    subst (λ (n : ℕ). slice_get (sent (past_of (before ++ call ∷ after))) n ≡ Some s) (sym count)
    (ap (λ (ss : List Sent). slice_get ss (count_at (past_of before))) whole ∙ get_behind (sent (past_of before)) (sent_in after) s)

pub send_stands : BufferLaws → SendStands
send_stands laws size h legal by start place event is =
    let call : BufferEntry = SendInRun start is.stated event (Ok place) in
    let s : StandsIn h by is.before call is.after = stands by h is.before call is.after is.stands in
    let legal_there : IsLegal (opening size) (s.before ++ (by, call) ∷ s.after) = subst (IsLegal (opening size)) s.whole legal in
    let there : slice_get (sent (past_of h)) place ≡ Some (record { event = event; start = start }) =
    subst (λ (x : List (ℕ × BufferEntry)). slice_get (sent (past_of x)) place ≡ Some (record { event = event; start = start })) (sym s.whole)
    (sent_there laws size s.before s.after by start is.stated place event legal_there) in
    (laws.ordered size h legal).inside place (record { event = event; start = start }) there (laws.sends size s.before s.after by start is.stated place event legal_there)

-- The sends of a caller in a run, with their places.

abbrev run_sent : BufferEntry → (start : ℕ) → List (ℕ × Sent)
run_sent (SendInRun s stated e (Ok place)) start = if s == start then (place, record { event = e; start = s }) ∷ [] else []
run_sent entry start = []

abbrev runs_sent : List BufferEntry → (start : ℕ) → List (ℕ × Sent)
runs_sent [] start = []
runs_sent (e ∷ es) start = run_sent e start ++ runs_sent es start

events_in-append : (xs ys : List (ℕ × Sent)) → events_in (xs ++ ys) ≡ events_in xs ++ events_in ys
events_in-append [] ys = refl
events_in-append (x ∷ xs) ys = ap (λ (es : List Event). x.1.event ∷ es) (events_in-append xs ys)

places_of-append : (xs ys : List (ℕ × Sent)) → places_of (xs ++ ys) ≡ places_of xs ++ places_of ys
places_of-append [] ys = refl
places_of-append (x ∷ xs) ys = ap (λ (ps : List ℕ). x.0 ∷ ps) (places_of-append xs ys)

event_sent : (e : BufferEntry) (start : ℕ) → sent_by_call e start ≡ events_in (run_sent e start)
event_sent (SendInRun s stated e (Ok place)) start = split (s == start) (λ b. (if b then e ∷ [] else []) ≡ events_in (if b then (place, record { event = e; start = s }) ∷ [] else [])) (λ h. refl) (λ h. refl)
event_sent entry start = refl

place_there : (e : BufferEntry) (start : ℕ) → place_sent e start ≡ places_of (run_sent e start)
place_there (SendInRun s stated e (Ok place)) start = split (s == start) (λ b. (if b then place ∷ [] else []) ≡ places_of (if b then (place, record { event = e; start = s }) ∷ [] else [])) (λ h. refl) (λ h. refl)
place_there entry start = refl

events_sent : (es : List BufferEntry) (start : ℕ) → own_sent es start ≡ events_in (runs_sent es start)
events_sent [] start = refl
events_sent (e ∷ es) start =
    ap (λ (xs : List Event). xs ++ own_sent es start) (event_sent e start)
    ∙ (ap (λ (xs : List Event). events_in (run_sent e start) ++ xs) (events_sent es start) ∙ sym (events_in-append (run_sent e start) (runs_sent es start)))

places_there : (es : List BufferEntry) (start : ℕ) → places_sent es start ≡ places_of (runs_sent es start)
places_there [] start = refl
places_there (e ∷ es) start =
    ap (λ (xs : List ℕ). xs ++ places_sent es start) (place_there e start)
    ∙ (ap (λ (xs : List ℕ). places_of (run_sent e start) ++ xs) (places_there es start) ∙ sym (places_of-append (run_sent e start) (runs_sent es start)))

-- Their places rise.

abbrev AreFrom : (n : ℕ) → List (ℕ × Sent) → Type 0
AreFrom n [] = ⊤
AreFrom n (x ∷ xs) = (n ≤ x.0) × AreFrom (suc x.0) xs

from_lower : (n m : ℕ) (xs : List (ℕ × Sent)) → n ≤ m → AreFrom m xs → AreFrom n xs
from_lower n m [] le are = tt
from_lower n m (x ∷ xs) le are = (omega (arith, le, are.0), are.1)

from_send : (past : List (ℕ × BufferEntry)) (by start : ℕ) (e : BufferEntry) (rest : List (ℕ × Sent)) → RepliesCount (count_at past) e → AreFrom (count_at ((by, e) ∷ past)) rest → AreFrom (count_at past) (run_sent e start ++ rest)
from_send past by start (SendInRun s stated event (Ok n)) rest count are =
    let more : count_at ((by, SendInRun s stated event (Ok n)) ∷ past) ≡ count_at past + 1 = length-append (sent past) (record { event = event; start = s } ∷ []) in
    split (s == start) (λ b. AreFrom (count_at past) ((if b then (n, record { event = event; start = s }) ∷ [] else []) ++ rest))
    (λ h. (omega (arith, count), from_lower (suc n) (count_at ((by, SendInRun s stated event (Ok n)) ∷ past)) rest (omega (arith, count, more)) are))
    (λ h. from_lower (count_at past) (count_at ((by, SendInRun s stated event (Ok n)) ∷ past)) rest (omega (arith, more)) are)
from_send past by start entry rest count are = from_lower (count_at past) (count_at ((by, entry) ∷ past)) rest (count_grows past ((by, entry) ∷ [])) are

rising : (past es : List (ℕ × BufferEntry)) (by start : ℕ) → Throughout (λ past e. RepliesCount (count_at past) e) (past_after past es) → AreFrom (count_at past) (runs_sent (entries_by by es) start)
rising past [] by start all = tt
rising past (x ∷ xs) by start all =
    let later : AreFrom (count_at (x ∷ past)) (runs_sent (entries_by by xs) start) = rising (x ∷ past) xs by start all in
    let here : RepliesCount (count_at past) x.1 = (throughout_front (λ past e. RepliesCount (count_at past) e) (x ∷ past) xs all).0 in
    own_cases by x xs (λ es. AreFrom (count_at past) (runs_sent es start))
    (λ same. from_send past x.0 start x.1 (runs_sent (entries_by by xs) start) here later)
    (λ other. from_lower (count_at past) (count_at (x ∷ past)) (runs_sent (entries_by by xs) start) (count_grows past (x ∷ [])) later)

-- What holds of each send.

each_here : (P : ℕ × Sent → Type 0) (start : ℕ) (e : BufferEntry)
    → ((s stated place : ℕ) (event : Event) → s ≡ start → e ≡ SendInRun s stated event (Ok place) → P (place, record { event = event; start = s }))
    → AllByRecursion P (run_sent e start)
each_here P start (SendInRun s stated event (Ok n)) each =
    split (s == start) (λ b. (s == start) ≡ b → AllByRecursion P (if b then (n, record { event = event; start = s }) ∷ [] else []))
    (λ h e. (each s stated n event (eqb-true s start e) refl, tt))
    (λ h e. tt)
    refl
each_here P start entry each = tt

each_send : (P : ℕ × Sent → Type 0) (start : ℕ) (before es : List BufferEntry)
    → ((s stated place : ℕ) (event : Event) (b a : List BufferEntry) → s ≡ start → before ++ es ≡ b ++ SendInRun s stated event (Ok place) ∷ a → P (place, record { event = event; start = s }))
    → AllByRecursion P (runs_sent es start)
each_send P start before [] each = tt
each_send P start before (e ∷ es) each =
    all_join P (run_sent e start) (runs_sent es start)
    (each_here P start e (λ s stated place event same is. each s stated place event before es same (ap (λ (f : BufferEntry). before ++ f ∷ es) is)))
    (each_send P start (before ++ e ∷ []) es (λ s stated place event b a same is. each s stated place event b a same (sym (append_assoc before (e ∷ []) es) ∙ is)))

-- Rising places among numbered ones.

abbrev StandsAmong : List (ℕ × Sent) → ℕ × Sent → Type 0
StandsAmong es x = (i : ℕ) × (slice_get es i ≡ Some x)

numbered_from : (n : ℕ) (xs : List Sent) (i : ℕ) (x : ℕ × Sent) → slice_get (enumerate_from n xs) i ≡ Some x → n ≤ x.0
numbered_from n [] i x e = absurd (cc (e))
numbered_from n (y ∷ ys) zero x e = let same : n ≡ x.0 = ap (λ (o : ℕ × Sent). o.0) (let both : (n, y) ≡ x = cc (e) in both) in omega (arith, same)
numbered_from n (y ∷ ys) (suc i) x e = omega (arith, numbered_from (n + 1) ys i x e)

-- one that is not the first is among the others
behind_first : (n : ℕ) (y : Sent) (ys : List Sent) (x : ℕ × Sent) → n < x.0 → StandsAmong (enumerate_from n (y ∷ ys)) x → StandsAmong (enumerate_from (n + 1) ys) x
behind_first n y ys x less (zero, e) = absurd (let same : n ≡ x.0 = ap (λ (o : ℕ × Sent). o.0) (let both : (n, y) ≡ x = cc (e) in both) in omega (arith, same, less))
behind_first n y ys x less (suc i, e) = (i, e)

all_behind : (n : ℕ) (y : Sent) (ys : List Sent) (m : ℕ) (xs : List (ℕ × Sent)) → n < m → AreFrom m xs → AllByRecursion (StandsAmong (enumerate_from n (y ∷ ys))) xs → AllByRecursion (StandsAmong (enumerate_from (n + 1) ys)) xs
all_behind n y ys m [] less are all = tt
all_behind n y ys m (x ∷ xs) less are all = (
  behind_first n y ys x (omega (arith, less, are.0)) all.0,
  all_behind n y ys (suc x.0) xs (omega (arith, less, are.0)) are.1 all.1,
)

is_first : (n : ℕ) (y : Sent) (ys : List Sent) (x : ℕ × Sent) → x.0 ≡ n → StandsAmong (enumerate_from n (y ∷ ys)) x → (n, y) ≡ x
is_first n y ys x same (zero, e) = cc (e)
is_first n y ys x same (suc i, e) = absurd (omega (arith, numbered_from (n + 1) ys i x e, same))

abbrev is_place : (places : List ℕ) → ℕ × Sent → Bool
is_place places e = list_any (λ (p : ℕ). p == e.0) places

skip_lower : (p : ℕ) (ps : List ℕ) (n : ℕ) (xs : List Sent) → p < n → filter (is_place (p ∷ ps)) (enumerate_from n xs) ≡ filter (is_place ps) (enumerate_from n xs)
skip_lower p ps n [] less = refl
skip_lower p ps n (x ∷ xs) less =
    let other : p ≢ n = λ same. omega (arith, same, less) in
    ap (λ (b : Bool). if b || is_place ps (n, x) then (n, x) ∷ filter (is_place (p ∷ ps)) (enumerate_from (n + 1) xs) else filter (is_place (p ∷ ps)) (enumerate_from (n + 1) xs)) (ne_eqb p n other)
    ∙ ap (λ (es : List (ℕ × Sent)). if is_place ps (n, x) then (n, x) ∷ es else es) (skip_lower p ps (n + 1) xs (omega (arith, less)))

none_there : (m : ℕ) (xs : List (ℕ × Sent)) (n : ℕ) (x : Sent) → n < m → AreFrom m xs → is_place (places_of xs) (n, x) ≡ false
none_there m [] n x less are = refl
none_there m (y ∷ ys) n x less are =
    let other : y.0 ≢ n = λ same. omega (arith, same, less, are.0) in
    ap (λ (b : Bool). b || is_place (places_of ys) (n, x)) (ne_eqb y.0 n other) ∙ none_there (suc y.0) ys n x (omega (arith, less, are.0)) are.1

none_picked : (n : ℕ) (xs : List Sent) → [] ≡ filter (is_place []) (enumerate_from n xs)
none_picked n [] = refl
none_picked n (x ∷ xs) = none_picked (n + 1) xs

picked : (n : ℕ) (xs : List Sent) (ps : List (ℕ × Sent)) → AreFrom n ps → AllByRecursion (StandsAmong (enumerate_from n xs)) ps → ps ≡ filter (is_place (places_of ps)) (enumerate_from n xs)
picked n xs [] are all = none_picked n xs
picked n [] (p ∷ ps) are all = absurd (let e : None ≡ Some p = all.0.1 in cc (e))
picked n (x ∷ xs) (p ∷ ps) are all =
    let rest : List (ℕ × Sent) = enumerate_from (n + 1) xs in
    split (p.0 == n) (λ b. (p.0 == n) ≡ b → p ∷ ps ≡ (if b || is_place (places_of ps) (n, x) then (n, x) ∷ filter (is_place (places_of (p ∷ ps))) rest else filter (is_place (places_of (p ∷ ps))) rest))
    (λ h e.
    let same : p.0 ≡ n = eqb-true p.0 n e in
    let first : (n, x) ≡ p = is_first n x xs p same all.0 in
    ap (λ (y : ℕ × Sent). y ∷ ps) (sym first)
    ∙ ap (λ (es : List (ℕ × Sent)). (n, x) ∷ es)
    (picked (n + 1) xs ps (from_lower (n + 1) (suc p.0) ps (omega (arith, same)) are.1) (all_behind n x xs (suc p.0) ps (omega (arith, same)) are.1 all.1)
    ∙ sym (skip_lower p.0 (places_of ps) (n + 1) xs (omega (arith, same)))))
    (λ h e.
    let above : n < p.0 = omega (arith, are.0, eqb-false p.0 n e) in
    picked (n + 1) xs (p ∷ ps) (omega (arith, above), are.1) (all_behind n x xs (n + 1) (p ∷ ps) (omega arith) (omega (arith, above), are.1) all)
    ∙ sym (ap (λ (b : Bool). if b then (n, x) ∷ filter (is_place (places_of (p ∷ ps))) rest else filter (is_place (places_of (p ∷ ps))) rest) (none_there (suc p.0) ps n x (omega (arith, above)) are.1)))
    refl

-- The segment is numbered.

from_there : (from : ℕ) (xs : List Sent) (n : ℕ) (ps : List (ℕ × Sent)) → AreFrom n ps → AllByRecursion (StandsAmong (enumerate_from from xs)) ps → AreFrom from ps
from_there from xs n [] are all = tt
from_there from xs n (p ∷ ps) are all = (numbered_from from xs all.0.0 p all.0.1, are.1)

picked_between : (begin end : Option ℕ) (ss : List Sent) (n : ℕ) (ps : List (ℕ × Sent)) → AreFrom n ps → AllByRecursion (StandsAmong (events_between begin end ss)) ps → ps ≡ filter (is_place (places_of ps)) (events_between begin end ss)
picked_between None end ss n [] are all = refl
picked_between None end ss n (p ∷ ps) are all = absurd (let e : None ≡ Some p = all.0.1 in cc (e))
picked_between (Some from) end ss n ps are all =
    let xs : List Sent = drop from (take (unwrap_or end (length ss)) ss) in
    picked from xs ps (from_there from xs n ps are all) all

pub sends_stand_in_order : BufferLaws → SendsStandInOrder
sends_stand_in_order laws size h legal by start =
    let own : List BufferEntry = entries_by by h in
    let ps : List (ℕ × Sent) = runs_sent own start in
    let counted : Throughout (λ past e. RepliesCount (count_at past) e) (past_of h) =
    throughout (λ past e. RepliesCount (count_at past) e) size h (λ xs ys x legal'. laws.counts size xs ys x.0 x.1 legal') legal in
    let there : AllByRecursion (StandsAmong (segment h start)) ps =
    each_send (StandsAmong (segment h start)) start [] own
    (λ s stated place event b a same is.
    subst (λ (n : ℕ). StandsAmong (segment h n) (place, record { event = event; start = s })) same
    (send_stands laws size h legal by s place event (record { stated = stated; before = b; after = a; stands = is }))) in
    events_sent own start
    ∙ (ap events_in (picked_between (begun_at (past_of h) start) (ended_at (past_of h) start) (sent (past_of h)) 0 ps (rising [] h by start counted) there)
    ∙ ap (λ (places : List ℕ). events_in (events_at_places places (segment h start))) (sym (places_there own start)))
