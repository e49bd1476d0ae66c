-- A watched database has few watches, of few notes each.
use Rattle.std.proofs.Common.{◌≡◌, ℕ, zero, suc, ◌+◌, ◌-◌, ◌<◌, ◌≤◌, Bool, true, false, cond, ltb, List, [], ◌∷◌, ◌++◌, length, slice_set, Option, Some, None, Result, Ok, Err, OnOk, refl, sym, ap, subst, arith, length-append}
use Rattle.std.specs.List.{AllByRecursion}
use Rattle.std.proofs.lemmas.Bool.Decides.{nat_tests}
use Rattle.odb_tree.specs.declared.notes.Note.{Note}
use Rattle.odb_tree.specs.declared.notes.Watch.{Watch as a_watch}
use Rattle.odb_tree.specs.Rows.{Rows}
use Rattle.odb_tree.specs.Noting.{Change, Watched, with_note, note_of, is_of, with_change, noted_all, all_noted, notes_limit, counted, changes_of}
use Rattle.odb_text.specs.TextSteps.{changes_in_steps}
use Rattle.odb_watch.specs.declared.notes.NoWatch.{NoWatch}
use Rattle.odb_watch.specs.declared.notes.WatchRefusal.{WatchRefusal}
use Rattle.odb_watch.specs.declared.entry.WatchEntry.{WatchEntry}
use Rattle.odb_watch.specs.declared.entry.WatchEntry.TheVariants.{Call, Watch, Notes, Unwatch, Save, Load}
use Rattle.odb_watch.specs.Slots.{slot, with_slot, watches_limit, GivesWatch, after_watch, new_watch, emptied_slot, GivesTaken, GivesNotes, after_notes, after_unwatch, HasFewNotes, AreFew}
use Rattle.odb_watch.specs.Steps.{emptied_at, StepsWatched, LeadsDatabase, unwatched}

note_short : (k : a_watch) (note : Note) → length k.notes ≤ notes_limit → length (with_note k note).notes ≤ notes_limit
note_short k note h = cases (ltb (length k.notes) notes_limit) refl
  where
    cases : (t : Bool) → ltb (length k.notes) notes_limit ≡ t
        → (let w : a_watch = cond t (record { row = k.row; notes = k.notes ++ note ∷ []; lost = k.lost }) (record { row = k.row; notes = k.notes; lost = counted (k.lost + 1) }) in length w.notes ≤ notes_limit)
    cases true e =
        let less : length k.notes < notes_limit = grind (arith, nat_tests, e) in omega (arith, length-append k.notes (note ∷ []), less)
    cases false e = h

change_short : (k : a_watch) (c : Change) → length k.notes ≤ notes_limit → length (with_change k c).notes ≤ notes_limit
change_short k c h = elim (is_of k.row c) as (λ (t : Bool). length (cond t (with_note k (note_of c)) k).notes ≤ notes_limit) [ true ↦ note_short k (note_of c) h | false ↦ h ]

changes_short : (k : a_watch) (cs : List Change) → length k.notes ≤ notes_limit → length (noted_all k cs).notes ≤ notes_limit
changes_short k [] h = h
changes_short k (c ∷ cs) h = changes_short (with_change k c) cs (change_short k c h)

all_short : (cs : List Change) (xs : List (Option a_watch)) → AllByRecursion HasFewNotes xs → AllByRecursion HasFewNotes (all_noted cs xs)
all_short cs [] h = tt
all_short cs (None ∷ xs) h = (tt, all_short cs xs h.1)
all_short cs (Some k ∷ xs) h = (changes_short k cs h.0, all_short cs xs h.1)

as_long : (cs : List Change) (xs : List (Option a_watch)) → length (all_noted cs xs) ≡ length xs
as_long cs [] = refl
as_long cs (x ∷ xs) = ap (λ (n : ℕ). suc n) (as_long cs xs)

noted_few : (cs : List Change) (xs : List (Option a_watch)) → AreFew xs → AreFew (all_noted cs xs)
noted_few cs xs h = record { few = omega (arith, as_long cs xs, h.few); short = all_short cs xs h.short }

with_short : (xs : List (Option a_watch)) (w : ℕ) (k : Option a_watch) → AllByRecursion HasFewNotes xs → HasFewNotes k → AllByRecursion HasFewNotes (with_slot xs w k)
with_short [] w k h s = (s, tt)
with_short (x ∷ xs) zero k h s = (s, h.1)
with_short (x ∷ xs) (suc w) k h s = (h.0, with_short xs w k h.1 s)

with_long : (xs : List (Option a_watch)) (w : ℕ) (k : Option a_watch) (n : ℕ) → length xs ≤ n → w < n → length (with_slot xs w k) ≤ n
with_long [] w k n h l = omega (arith, l)
with_long (x ∷ xs) zero k n h l = omega (arith, h)
with_long (x ∷ xs) (suc w) k n h l =
    let rest : length (with_slot xs w k) ≤ n - 1 = with_long xs w k (n - 1) (omega (arith, h)) (omega (arith, l)) in omega (arith, rest, l)

set_short : (xs : List (Option a_watch)) (w : ℕ) (k : Option a_watch) → AllByRecursion HasFewNotes xs → HasFewNotes k → AllByRecursion HasFewNotes (slice_set xs w k)
set_short [] w k h s = tt
set_short (x ∷ xs) zero k h s = (s, h.1)
set_short (x ∷ xs) (suc w) k h s = (h.0, set_short xs w k h.1 s)

set_long : (xs : List (Option a_watch)) (w : ℕ) (k : Option a_watch) → length (slice_set xs w k) ≡ length xs
set_long [] w k = refl
set_long (x ∷ xs) zero k = refl
set_long (x ∷ xs) (suc w) k = ap (λ (n : ℕ). suc n) (set_long xs w k)

set_few : (xs : List (Option a_watch)) (w : ℕ) (k : Option a_watch) → AreFew xs → HasFewNotes k → AreFew (slice_set xs w k)
set_few xs w k h s = record { few = omega (arith, set_long xs w k, h.few); short = set_short xs w k h.short s }

emptied_short : (k : Option a_watch) → HasFewNotes (emptied_slot k)
emptied_short None = tt
emptied_short (Some k) = omega arith

watch_few : (xs : List (Option a_watch)) (row : ℕ) (reply : Result ℕ WatchRefusal) → AreFew xs → GivesWatch xs reply → AreFew (after_watch xs row reply)
watch_few xs row (Ok w) h given =
    let below : w < watches_limit = grind (arith, nat_tests, given.1) in
    record { few = with_long xs w (Some (new_watch row)) watches_limit h.few below; short = with_short xs w (Some (new_watch row)) h.short (omega arith) }
watch_few xs row (Err refusal) h given = h

notes_few : (xs : List (Option a_watch)) (w : ℕ) (reply : Result (List Note × ℕ) NoWatch) → AreFew xs → AreFew (emptied_at xs w reply)
notes_few xs w (Ok reply) h = set_few xs w (emptied_slot (slot xs w)) h (emptied_short (slot xs w))
notes_few xs w (Err e) h = h

unwatch_few : (xs : List (Option a_watch)) (w : ℕ) (reply : Result (Unit {0}) NoWatch) → AreFew xs → AreFew (after_unwatch xs w reply)
unwatch_few xs w (Ok done) h = set_few xs w None h tt
unwatch_few xs w (Err e) h = h

few_at : (a b : Watched) → b ≡ a → AreFew a.slots → AreFew b.slots
few_at a b same h = subst (λ (s : Watched). AreFew s.slots) (sym same) h

step_few : (s : Watched) (e : WatchEntry) (after : Watched) → AreFew s.slots → StepsWatched s e after → AreFew after.slots
step_few s (Call entry) after h given = subst (λ (x : Watched). AreFew x.slots) (sym given.1) (noted_few (changes_of s.rows entry) s.slots h)
step_few s (Watch row reply) after h given = subst (λ (x : Watched). AreFew x.slots) (sym given.1) (watch_few s.slots row reply h given.0)
step_few s (Notes w reply) after h given = subst (λ (x : Watched). AreFew x.slots) (sym given.1) (notes_few s.slots w reply h)
step_few s (Unwatch w reply) after h given = subst (λ (x : Watched). AreFew x.slots) (sym given.1) (unwatch_few s.slots w reply h)
step_few s (Save reply) after h given = few_at s after given.1 h
step_few s (Load text (Ok loaded)) after h given = subst (λ (l : List (Option a_watch)). AreFew l) (sym given.noted) (noted_few (changes_in_steps s.rows given.steps) s.slots h)
step_few s (Load text (Err why)) after h given = few_at s after given.1 h

along_few : (s last : Watched) (h : List (ℕ × WatchEntry)) → AreFew s.slots → LeadsDatabase s h last → AreFew last.slots
along_few s last [] f leads = subst (λ (x : Watched). AreFew x.slots) leads f
along_few s last (e ∷ h) f leads = along_few leads.0 last h (step_few s e.1 leads.0 f leads.1.step) leads.2

pub watches_are_few : (rows : Rows) (h : List (ℕ × WatchEntry)) (last : Watched) → LeadsDatabase (unwatched rows) h last → AreFew last.slots
watches_are_few rows h last leads = along_few (unwatched rows) last h (record { few = omega arith; short = tt }) leads

-- The same of the watches that the code keeps.

pub few_none : (xs : List (Option a_watch)) → xs ≡ [] → AreFew xs
few_none xs none = subst (λ (l : List (Option a_watch)). AreFew l) (sym none) (record { few = omega arith; short = tt })

pub few_copied : (xs copy : List (Option a_watch)) → copy ≡ xs → AreFew xs → AreFew copy
few_copied xs copy same h = subst (λ (l : List (Option a_watch)). AreFew l) (sym same) h

pub few_noted : (xs after : List (Option a_watch)) (cs : List Change) → after ≡ all_noted cs xs → AreFew xs → AreFew after
few_noted xs after cs noted h = few_copied (all_noted cs xs) after noted (noted_few cs xs h)

pub few_begun : (xs after : List (Option a_watch)) (row : ℕ) (reply : Result ℕ WatchRefusal) → after ≡ after_watch xs row reply → GivesWatch xs reply → AreFew xs → AreFew after
few_begun xs after row reply begun given h = few_copied (after_watch xs row reply) after begun (watch_few xs row reply h given)

read_few : (xs : List (Option a_watch)) (w : ℕ) (reply : Result ℕ NoWatch) → AreFew xs → AreFew (after_notes xs w reply)
read_few xs w (Ok lost) h = set_few xs w (emptied_slot (slot xs w)) h (emptied_short (slot xs w))
read_few xs w (Err e) h = h

pub few_read : (xs after : List (Option a_watch)) (w : ℕ) (reply : Result ℕ NoWatch) → after ≡ after_notes xs w reply → AreFew xs → AreFew after
few_read xs after w reply read h = few_copied (after_notes xs w reply) after read (read_few xs w reply h)

pub few_ended : (xs after : List (Option a_watch)) (w : ℕ) (reply : Result (Unit {0}) NoWatch) → after ≡ after_unwatch xs w reply → AreFew xs → AreFew after
few_ended xs after w reply ended h = few_copied (after_unwatch xs w reply) after ended (unwatch_few xs w reply h)

slot_short : (xs : List (Option a_watch)) (w : ℕ) → AllByRecursion HasFewNotes xs → HasFewNotes (slot xs w)
slot_short [] w h = tt
slot_short (x ∷ xs) zero h = h.0
slot_short (x ∷ xs) (suc w) h = slot_short xs w h.1

taken_short : (k : Option a_watch) (before after : List Note) (reply : Result ℕ NoWatch) → HasFewNotes k → GivesTaken k before after reply → OnOk reply (length after ≤ notes_limit)
taken_short None before after (Ok lost) h taken = (let wrong : false ≡ true = taken.0 in absurd (cc))
taken_short (Some k) before after (Ok lost) h taken = subst (λ (l : List Note). length l ≤ notes_limit) (sym taken.1) h
taken_short k before after (Err e) h taken = tt

-- the notes that a call moves out
pub few_taken : (xs : List (Option a_watch)) (w : ℕ) (before after : List Note) (reply : Result ℕ NoWatch) → AreFew xs → GivesNotes xs w before after reply
    → OnOk reply (length after ≤ notes_limit)
few_taken xs w before after reply h given = taken_short (slot xs w) before after reply (slot_short xs w h.short) given
