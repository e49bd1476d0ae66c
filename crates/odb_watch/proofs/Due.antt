-- What a watch keeps is what its history says.
use Rattle.std.proofs.Common.{◌≡◌, ℕ, zero, suc, ◌+◌, ◌-◌, ◌^◌, ◌<◌, ◌≤◌, ◌==◌, Bool, true, false, cond, ltb, List, [], ◌∷◌, ◌++◌, length, map, take, slice_set, Option, Some, None, Result, Ok, Err, refl, sym, ap, ◌∙◌, subst, arith, append_assoc, append-nil, length-append}
use Rattle.std.specs.Option.{option_map}
use Rattle.std.specs.List.{AllByRecursion}
use Rattle.std.proofs.lemmas.Bool.Decides.{nat_tests}
use Rattle.odb_tree.specs.declared.notes.Note.{Note}
use Rattle.odb_tree.specs.declared.notes.Watch.{Watch as a_watch}
use Rattle.odb_tree.specs.Rows.{Rows}
use Rattle.odb_tree.specs.Noting.{Change, Watched, changes_of, with_note, note_of, is_of, with_change, noted_all, all_noted, notes_limit, counted, watched_call}
use Rattle.odb_tree.proofs.Noted.{noted_append}
use Rattle.odb_text.specs.TextSteps.{changes_in_steps}
use Rattle.odb_watch.specs.declared.notes.NoWatch.{NoWatch}
use Rattle.odb_watch.specs.declared.notes.WatchRefusal.{WatchRefusal}
use Rattle.odb_watch.specs.declared.entry.WatchEntry.{WatchEntry}
use Rattle.odb_watch.specs.declared.entry.WatchEntry.TheVariants.{Call, Watch, Notes, Unwatch, Save, Load}
use Rattle.odb_watch.specs.Slots.{slot, with_slot, free_watch, GivesWatch, after_watch, new_watch, emptied, emptied_slot, after_unwatch}
use Rattle.odb_watch.specs.Steps.{with_watches, GivesKept, emptied_at, StepsWatched, LeadsDatabase, unwatched}
use Rattle.odb_watch.specs.History.{EntryWrites, EntriesWrite, begins, row_by, watched_row, notes_for, AreDue, calls_made}
use Rattle.odb_watch.proofs.NotesKept.{note_keeps_row}

-- Notes of changes, all together.

row_kept : (k : a_watch) (c : Change) → (with_change k c).row ≡ k.row
row_kept k c = elim (is_of k.row c) as (λ (t : Bool). (cond t (with_note k (note_of c)) k).row ≡ k.row) [ true ↦ note_keeps_row k (note_of c) | false ↦ refl ]

rows_kept : (k : a_watch) (cs : List Change) → (noted_all k cs).row ≡ k.row
rows_kept k [] = refl
rows_kept k (c ∷ cs) = rows_kept (with_change k c) cs ∙ row_kept k c

-- what was told: the first notes, and how many others
record IsTold (k now : a_watch) (ns : List Note) : Type 0 where
  notes : now.notes ≡ take notes_limit (k.notes ++ ns)
  lost : now.lost ≡ counted (k.lost + (length k.notes + length ns - notes_limit))

take_front : (xs ys : List Note) (n : ℕ) → length xs ≡ n → take n (xs ++ ys) ≡ xs
take_front [] ys zero h = refl
take_front [] ys (suc n) h = absurd (omega (arith, h))
take_front (x ∷ xs) ys zero h = absurd (omega (arith, h))
take_front (x ∷ xs) ys (suc n) h = ap (λ l. x ∷ l) (take_front xs ys n (omega (arith, h)))

take_whole : (xs : List Note) (n : ℕ) → length xs ≤ n → take n xs ≡ xs
take_whole [] zero h = refl
take_whole [] (suc n) h = refl
take_whole (x ∷ xs) zero h = absurd (omega (arith, h))
take_whole (x ∷ xs) (suc n) h = ap (λ l. x ∷ l) (take_whole xs n (omega (arith, h)))

told : (k : a_watch) (cs : List Change) → length k.notes ≤ notes_limit → k.lost ≤ 2 ^ 64 - 1 → IsTold k (noted_all k cs) (notes_for k.row cs)
told k [] h l = record {
  notes = sym (ap (take notes_limit) (append-nil k.notes) ∙ take_whole k.notes notes_limit h);
  lost = omega (arith, h, l);
}
told k (c ∷ cs) h l = cases (is_of k.row c) refl (told k cs h l) (λ m h2 l2. told m cs h2 l2)
  where
    more : (m : a_watch) → m.row ≡ k.row → IsTold m (noted_all m cs) (notes_for m.row cs) → IsTold m (noted_all m cs) (notes_for k.row cs)
    more m e t = subst (λ (r : ℕ). IsTold m (noted_all m cs) (notes_for r cs)) e t

    kept : (t : Bool) → ltb (length k.notes) notes_limit ≡ t
        → ((m : a_watch) → length m.notes ≤ notes_limit → m.lost ≤ 2 ^ 64 - 1 → IsTold m (noted_all m cs) (notes_for m.row cs))
        → IsTold k (noted_all (cond t (record { row = k.row; notes = k.notes ++ note_of c ∷ []; lost = k.lost }) (record { row = k.row; notes = k.notes; lost = counted (k.lost + 1) })) cs) (note_of c ∷ notes_for k.row cs)
    kept true e ih =
        let m : a_watch = record { row = k.row; notes = k.notes ++ note_of c ∷ []; lost = k.lost } in
        let less : length k.notes < notes_limit = grind (arith, nat_tests, e) in
        let r = ih m (omega (arith, length-append k.notes (note_of c ∷ []), less)) l in record {
          notes = r.notes ∙ ap (take notes_limit) (append_assoc k.notes (note_of c ∷ []) (notes_for k.row cs));
          lost = r.lost ∙ ap (λ (n : ℕ). counted (k.lost + n)) {x = length (k.notes ++ note_of c ∷ []) + length (notes_for k.row cs) - notes_limit} {y = length k.notes + length (note_of c ∷ notes_for k.row cs) - notes_limit} (omega (arith, length-append k.notes (note_of c ∷ [])));
        }
    kept false e ih =
        let m : a_watch = record { row = k.row; notes = k.notes; lost = counted (k.lost + 1) } in
        let full : length k.notes ≡ notes_limit = (let no : notes_limit ≤ length k.notes = grind (arith, nat_tests, e) in omega (arith, no, h)) in
        let r = ih m h (omega arith) in record {
          notes = r.notes ∙ (take_front k.notes (notes_for k.row cs) notes_limit full ∙ sym (take_front k.notes (note_of c ∷ notes_for k.row cs) notes_limit full));
          lost = r.lost ∙ omega (arith, full, l);
        }

    cases : (t : Bool) → is_of k.row c ≡ t → IsTold k (noted_all k cs) (notes_for k.row cs)
        → ((m : a_watch) → length m.notes ≤ notes_limit → m.lost ≤ 2 ^ 64 - 1 → IsTold m (noted_all m cs) (notes_for m.row cs))
        → IsTold k (noted_all (cond t (with_note k (note_of c)) k) cs) (cond t (note_of c ∷ notes_for k.row cs) (notes_for k.row cs))
    cases true e same ih = kept (ltb (length k.notes) notes_limit) refl ih
    cases false e same ih = same

-- Entries one behind the other.

writes_push : (rows : Rows) (h : List WatchEntry) (mid : Rows) (cs : List Change) (e : WatchEntry) (after : Rows) (ds : List Change) → EntriesWrite rows h mid cs → EntryWrites mid e after ds
    → EntriesWrite rows (h ++ e ∷ []) after (cs ++ ds)
writes_push rows [] mid cs e after ds w k =
    (after, ds, [], subst (λ (r : Rows). EntryWrites r e after ds) w.0 k, (refl, refl), ap (λ (l : List Change). l ++ ds) w.1 ∙ sym (append-nil ds))
writes_push rows (x ∷ xs) mid cs e after ds w k =
    (w.0, w.1, w.2 ++ ds, w.3, writes_push w.0 xs mid w.2 e after ds w.4 k, ap (λ (l : List Change). l ++ ds) w.5 ∙ append_assoc w.1 w.2 ds)

row_push : (w : ℕ) (row : Option ℕ) (h : List WatchEntry) (e : WatchEntry) → watched_row w row (h ++ e ∷ []) ≡ row_by w (watched_row w row h) e
row_push w row [] e = refl
row_push w row (x ∷ h) e = row_push w (row_by w row x) h e

all_push : (P : WatchEntry → Type 0) (h : List WatchEntry) (e : WatchEntry) → AllByRecursion P h → P e → AllByRecursion P (h ++ e ∷ [])
all_push P [] e h k = (k, tt)
all_push P (x ∷ xs) e h k = (h.0, all_push P xs e h.1 k)

-- Slots.

slot_mapped : (f : Option a_watch → Option a_watch) (xs : List (Option a_watch)) (w : ℕ) → f None ≡ None → slot (map f xs) w ≡ f (slot xs w)
slot_mapped f [] w e = sym e
slot_mapped f (x ∷ xs) zero e = refl
slot_mapped f (x ∷ xs) (suc w) e = slot_mapped f xs w e

free_within : (xs : List (Option a_watch)) → free_watch xs ≤ length xs
free_within [] = omega arith
free_within (None ∷ xs) = omega arith
free_within (Some k ∷ xs) = omega (arith, free_within xs)

with_same : (xs : List (Option a_watch)) (w : ℕ) (k : Option a_watch) → w ≤ length xs → slot (with_slot xs w k) w ≡ k
with_same [] zero k h = refl
with_same [] (suc w) k h = absurd (omega (arith, h))
with_same (x ∷ xs) zero k h = refl
with_same (x ∷ xs) (suc w) k h = with_same xs w k (omega (arith, h))

with_other : (xs : List (Option a_watch)) (v w : ℕ) (k : Option a_watch) → v ≤ length xs → (v ≡ w → ⊥) → slot (with_slot xs v k) w ≡ slot xs w
with_other [] zero zero k h n = absurd (n refl)
with_other [] zero (suc w) k h n = refl
with_other [] (suc v) w k h n = absurd (omega (arith, h))
with_other (x ∷ xs) zero zero k h n = absurd (n refl)
with_other (x ∷ xs) zero (suc w) k h n = refl
with_other (x ∷ xs) (suc v) zero k h n = refl
with_other (x ∷ xs) (suc v) (suc w) k h n = with_other xs v w k (omega (arith, h)) (λ e. n (ap (λ (m : ℕ). suc m) e))

set_same : (xs : List (Option a_watch)) (w : ℕ) (k : Option a_watch) (old : a_watch) → slot xs w ≡ Some old → slot (slice_set xs w k) w ≡ k
set_same [] w k old h = absurd (cc)
set_same (x ∷ xs) zero k old h = refl
set_same (x ∷ xs) (suc w) k old h = set_same xs w k old h

set_none : (xs : List (Option a_watch)) (w : ℕ) → slot (slice_set xs w None) w ≡ None
set_none [] w = refl
set_none (x ∷ xs) zero = refl
set_none (x ∷ xs) (suc w) = set_none xs w

set_other : (xs : List (Option a_watch)) (v w : ℕ) (k : Option a_watch) → (v ≡ w → ⊥) → slot (slice_set xs v k) w ≡ slot xs w
set_other [] v w k n = refl
set_other (x ∷ xs) zero zero k n = absurd (n refl)
set_other (x ∷ xs) zero (suc w) k n = refl
set_other (x ∷ xs) (suc v) zero k n = refl
set_other (x ∷ xs) (suc v) (suc w) k n = set_other xs v w k (λ e. n (ap (λ (m : ℕ). suc m) e))

-- The notes kept in a slot are those of the entries since the watch began or was last read.

record IsKept (rows : Rows) (h : List WatchEntry) (now : Rows) (w : ℕ) (k : a_watch) : Type 0 where
  before : List WatchEntry
  opening : WatchEntry
  since : List WatchEntry
  whole : h ≡ before ++ opening ∷ since
  anew : begins w opening ≡ true
  last : AllByRecursion (λ e. begins w e ≡ false) since
  lives : watched_row w None h ≡ Some k.row
  mid : Rows
  earlier : List Change
  to_mid : EntriesWrite rows (before ++ opening ∷ []) mid earlier
  changes : List Change
  to_now : EntriesWrite mid since now changes
  kept : k ≡ noted_all (new_watch k.row) changes

-- after some entries: what they wrote, and what each living watch keeps
record IsAfter (rows : Rows) (h : List WatchEntry) (s : Watched) : Type 0 where
  changes : List Change
  wrote : EntriesWrite rows h s.rows changes
  keeps : (w : ℕ) (k : a_watch) → slot s.slots w ≡ Some k → IsKept rows h s.rows w k

-- a watch that begins anew with an entry, which writes nothing
fresh : (rows : Rows) (h : List WatchEntry) (now : Rows) (earlier : List Change) (e : WatchEntry) (w row : ℕ) (k : a_watch) → EntriesWrite rows h now earlier → EntryWrites now e now []
    → begins w e ≡ true → k ≡ new_watch row → watched_row w None (h ++ e ∷ []) ≡ Some row → IsKept rows (h ++ e ∷ []) now w k
fresh rows h now earlier e w row k wrote writes b is at = record {
  before = h;
  opening = e;
  since = [];
  whole = refl;
  anew = b;
  last = tt;
  lives = at ∙ ap (λ (x : a_watch). Some x.row) (sym is);
  mid = now;
  earlier = earlier ++ [];
  to_mid = writes_push rows h now earlier e now [] wrote writes;
  changes = [];
  to_now = (refl, refl);
  kept = is ∙ ap new_watch (sym (ap (λ (x : a_watch). x.row) is));
}

mapped_some : (f : a_watch → a_watch) (o : Option a_watch) (k : a_watch) → option_map f o ≡ Some k → (old : a_watch) × (o ≡ Some old) × (k ≡ f old)
mapped_some f None k h = absurd (cc)
mapped_some f (Some old) k h = (old, refl, cc)

-- an entry that does not begin anew: the watch notes what it writes
goes_on : (rows : Rows) (h : List WatchEntry) (now : Rows) (e : WatchEntry) (after : Rows) (ds : List Change) (w : ℕ) (old k : a_watch) → IsKept rows h now w old → EntryWrites now e after ds
    → begins w e ≡ false → ((x : Option ℕ) → row_by w x e ≡ x) → k ≡ noted_all old ds → IsKept rows (h ++ e ∷ []) after w k
goes_on rows h now e after ds w old k i writes b r is =
    let same : k.row ≡ old.row = ap (λ (x : a_watch). x.row) is ∙ rows_kept old ds in record {
      before = i.before;
      opening = i.opening;
      since = i.since ++ e ∷ [];
      whole = ap (λ (l : List WatchEntry). l ++ e ∷ []) i.whole ∙ append_assoc i.before (i.opening ∷ i.since) (e ∷ []);
      anew = i.anew;
      last = all_push (λ x. begins w x ≡ false) i.since e i.last b;
      lives = row_push w None h e ∙ r (watched_row w None h) ∙ i.lives ∙ ap (λ (n : ℕ). Some n) (sym same);
      mid = i.mid;
      earlier = i.earlier;
      to_mid = i.to_mid;
      changes = i.changes ++ ds;
      to_now = writes_push i.mid i.since now i.changes e after ds i.to_now writes;
      kept = is
          ∙ ap (λ (x : a_watch). noted_all x ds) i.kept
          ∙ sym (noted_append (new_watch old.row) i.changes ds)
          ∙ ap (λ (n : ℕ). noted_all (new_watch n) (i.changes ++ ds)) (sym same);
    }

-- an entry that writes nothing, and leaves this slot
stays : (rows : Rows) (h : List WatchEntry) (s : Watched) (e : WatchEntry) (w : ℕ) (slot_now : Option a_watch) (k : a_watch) → IsAfter rows h s → EntryWrites s.rows e s.rows []
    → begins w e ≡ false → ((x : Option ℕ) → row_by w x e ≡ x) → slot_now ≡ slot s.slots w → slot_now ≡ Some k → IsKept rows (h ++ e ∷ []) s.rows w k
stays rows h s e w slot_now k i writes b r same is = goes_on rows h s.rows e s.rows [] w k k (i.keeps w k (sym same ∙ is)) writes b r refl

-- an entry whose changes all watches note
noted_on : (rows : Rows) (h : List WatchEntry) (s : Watched) (e : WatchEntry) (after : Watched) (ds : List Change) → IsAfter rows h s → EntryWrites s.rows e after.rows ds
    → after.slots ≡ all_noted ds s.slots → ((w : ℕ) → begins w e ≡ false) → ((w : ℕ) (x : Option ℕ) → row_by w x e ≡ x) → IsAfter rows (h ++ e ∷ []) after
noted_on rows h s e after ds i writes noted b r = record {
  changes = i.changes ++ ds;
  wrote = writes_push rows h s.rows i.changes e after.rows ds i.wrote writes;
  keeps = λ (w : ℕ) (k : a_watch) (is : slot after.slots w ≡ Some k).
      let f : a_watch → a_watch = λ (x : a_watch). noted_all x ds in
      let here : option_map f (slot s.slots w) ≡ Some k = sym (slot_mapped (option_map f) s.slots w refl) ∙ ap (λ (l : List (Option a_watch)). slot l w) (sym noted) ∙ is in
      let m = mapped_some f (slot s.slots w) k here in
      goes_on rows h s.rows e after.rows ds w m.0 k (i.keeps w m.0 m.1) writes (b w) (r w) m.2;
}

-- an entry that leaves all as it was
left_on : (rows : Rows) (h : List WatchEntry) (s : Watched) (e : WatchEntry) → IsAfter rows h s → EntryWrites s.rows e s.rows [] → ((w : ℕ) → begins w e ≡ false)
    → ((w : ℕ) (x : Option ℕ) → row_by w x e ≡ x) → IsAfter rows (h ++ e ∷ []) s
left_on rows h s e i writes b r = record {
  changes = i.changes ++ [];
  wrote = writes_push rows h s.rows i.changes e s.rows [] i.wrote writes;
  keeps = λ (w : ℕ) (k : a_watch) (is : slot s.slots w ≡ Some k). stays rows h s e w (slot s.slots w) k i writes (b w) (r w) refl is;
}

differ : (v w : ℕ) → (v == w) ≡ false → v ≡ w → ⊥
differ v w h e = absurd (grind (arith, nat_tests, h, e))

agree : (v w : ℕ) → (v == w) ≡ true → v ≡ w
agree v w h = grind (arith, nat_tests, h)

unequal : (a b : Option a_watch) (k : a_watch) → a ≡ None → a ≡ Some k → ⊥
unequal a b k h e = cc

same_some : (a b : a_watch) (o : Option a_watch) → o ≡ Some a → o ≡ Some b → a ≡ b
same_some a b o h k = (let e : Some a ≡ Some b = sym h ∙ k in cc)

-- `watch`

watch_keeps : (rows : Rows) (h : List WatchEntry) (s : Watched) (row v : ℕ) → IsAfter rows h s → v ≤ length s.slots → (w : ℕ) (k : a_watch) → (t : Bool) → (v == w) ≡ t
    → slot (with_slot s.slots v (Some (new_watch row))) w ≡ Some k → IsKept rows (h ++ Watch row (Ok v) ∷ []) s.rows w k
watch_keeps rows h s row v i within w k true t is =
    let e : v ≡ w = agree v w t in
    let now : slot (with_slot s.slots v (Some (new_watch row))) w ≡ Some (new_watch row) =
    ap (slot (with_slot s.slots v (Some (new_watch row)))) (sym e) ∙ with_same s.slots v (Some (new_watch row)) within in
    fresh rows h s.rows i.changes (Watch row (Ok v)) w row k i.wrote (refl, refl) t (same_some k (new_watch row) (slot (with_slot s.slots v (Some (new_watch row))) w) is now)
    (row_push w None h (Watch row (Ok v)) ∙ ap (λ (b : Bool). cond b (Some row) (watched_row w None h)) t)
watch_keeps rows h s row v i within w k false t is =
    stays rows h s (Watch row (Ok v)) w (slot (with_slot s.slots v (Some (new_watch row))) w) k i (refl, refl) t (λ (x : Option ℕ). ap (λ (b : Bool). cond b (Some row) x) t)
    (with_other s.slots v w (Some (new_watch row)) within (differ v w t)) is

watch_on : (rows : Rows) (h : List WatchEntry) (s : Watched) (row : ℕ) (reply : Result ℕ WatchRefusal) → IsAfter rows h s → GivesWatch s.slots reply
    → IsAfter rows (h ++ Watch row reply ∷ []) (with_watches s (after_watch s.slots row reply))
watch_on rows h s row (Ok v) i given = record {
  changes = i.changes ++ [];
  wrote = writes_push rows h s.rows i.changes (Watch row (Ok v)) s.rows [] i.wrote (refl, refl);
  keeps = λ (w : ℕ) (k : a_watch) (is : slot (with_slot s.slots v (Some (new_watch row))) w ≡ Some k).
      watch_keeps rows h s row v i (omega (arith, given.0, free_within s.slots)) w k (v == w) refl is;
}
watch_on rows h s row (Err refusal) i given = left_on rows h s (Watch row (Err refusal)) i (refl, refl) (λ w. refl) (λ w x. refl)

-- `notes`

notes_keep : (rows : Rows) (h : List WatchEntry) (s : Watched) (v : ℕ) (reply : List Note × ℕ) → IsAfter rows h s → (o : Option a_watch) → slot s.slots v ≡ o → GivesKept o (Ok reply)
    → (w : ℕ) (k : a_watch) → (t : Bool) → (v == w) ≡ t → slot (slice_set s.slots v (emptied_slot (slot s.slots v))) w ≡ Some k → IsKept rows (h ++ Notes v (Ok reply) ∷ []) s.rows w k
notes_keep rows h s v reply i None e g w k t f is = absurd g
notes_keep rows h s v reply i (Some old) e g w k true f is =
    let q : v ≡ w = agree v w f in
    let now : slot (slice_set s.slots v (emptied_slot (slot s.slots v))) w ≡ Some (emptied old) =
    ap (slot (slice_set s.slots v (emptied_slot (slot s.slots v)))) (sym q) ∙ (set_same s.slots v (emptied_slot (slot s.slots v)) old e ∙ ap emptied_slot e) in
    fresh rows h s.rows i.changes (Notes v (Ok reply)) w old.row k i.wrote (refl, refl) f (same_some k (emptied old) (slot (slice_set s.slots v (emptied_slot (slot s.slots v))) w) is now)
    (row_push w None h (Notes v (Ok reply)) ∙ (i.keeps w old (ap (slot s.slots) (sym q) ∙ e)).lives)
notes_keep rows h s v reply i (Some old) e g w k false f is =
    stays rows h s (Notes v (Ok reply)) w (slot (slice_set s.slots v (emptied_slot (slot s.slots v))) w) k i (refl, refl) f (λ (x : Option ℕ). refl)
    (set_other s.slots v w (emptied_slot (slot s.slots v)) (differ v w f)) is

notes_on : (rows : Rows) (h : List WatchEntry) (s : Watched) (v : ℕ) (reply : Result (List Note × ℕ) NoWatch) → IsAfter rows h s → GivesKept (slot s.slots v) reply
    → IsAfter rows (h ++ Notes v reply ∷ []) (with_watches s (emptied_at s.slots v reply))
notes_on rows h s v (Ok reply) i given = record {
  changes = i.changes ++ [];
  wrote = writes_push rows h s.rows i.changes (Notes v (Ok reply)) s.rows [] i.wrote (refl, refl);
  keeps = λ (w : ℕ) (k : a_watch) (is : slot (slice_set s.slots v (emptied_slot (slot s.slots v))) w ≡ Some k).
      notes_keep rows h s v reply i (slot s.slots v) refl given w k (v == w) refl is;
}
notes_on rows h s v (Err none) i given = left_on rows h s (Notes v (Err none)) i (refl, refl) (λ w. refl) (λ w x. refl)

-- `unwatch`

unwatch_keeps : (rows : Rows) (h : List WatchEntry) (s : Watched) (v : ℕ) (done : Unit {0}) → IsAfter rows h s → (w : ℕ) (k : a_watch) → (t : Bool) → (v == w) ≡ t
    → slot (slice_set s.slots v None) w ≡ Some k → IsKept rows (h ++ Unwatch v (Ok done) ∷ []) s.rows w k
unwatch_keeps rows h s v done i w k true t is =
    absurd (unequal (slot (slice_set s.slots v None) w) None k (ap (slot (slice_set s.slots v None)) (sym (agree v w t)) ∙ set_none s.slots v) is)
unwatch_keeps rows h s v done i w k false t is =
    stays rows h s (Unwatch v (Ok done)) w (slot (slice_set s.slots v None) w) k i (refl, refl) refl (λ (x : Option ℕ). ap (λ (b : Bool). cond b None x) t)
    (set_other s.slots v w None (differ v w t)) is

unwatch_on : (rows : Rows) (h : List WatchEntry) (s : Watched) (v : ℕ) (reply : Result (Unit {0}) NoWatch) → IsAfter rows h s
    → IsAfter rows (h ++ Unwatch v reply ∷ []) (with_watches s (after_unwatch s.slots v reply))
unwatch_on rows h s v (Ok done) i = record {
  changes = i.changes ++ [];
  wrote = writes_push rows h s.rows i.changes (Unwatch v (Ok done)) s.rows [] i.wrote (refl, refl);
  keeps = λ (w : ℕ) (k : a_watch) (is : slot (slice_set s.slots v None) w ≡ Some k). unwatch_keeps rows h s v done i w k (v == w) refl is;
}
unwatch_on rows h s v (Err none) i = left_on rows h s (Unwatch v (Err none)) i (refl, refl) (λ w. refl) (λ w x. refl)

-- any entry

moved : (rows : Rows) (h : List WatchEntry) (s now : Watched) → now ≡ s → IsAfter rows h s → IsAfter rows h now
moved rows h s now same i = subst (λ (x : Watched). IsAfter rows h x) (sym same) i

step : (rows : Rows) (h : List WatchEntry) (s : Watched) (e : WatchEntry) (after : Watched) → IsAfter rows h s → StepsWatched s e after → IsAfter rows (h ++ e ∷ []) after
step rows h s (Call entry) after i given =
    moved rows (h ++ Call entry ∷ []) (watched_call s entry) after given.1
    (noted_on rows h s (Call entry) (watched_call s entry) (changes_of s.rows entry) i (refl, refl) refl (λ w. refl) (λ w x. refl))
step rows h s (Watch row reply) after i given =
    moved rows (h ++ Watch row reply ∷ []) (with_watches s (after_watch s.slots row reply)) after given.1 (watch_on rows h s row reply i given.0)
step rows h s (Notes v reply) after i given =
    moved rows (h ++ Notes v reply ∷ []) (with_watches s (emptied_at s.slots v reply)) after given.1 (notes_on rows h s v reply i given.0)
step rows h s (Unwatch v reply) after i given =
    moved rows (h ++ Unwatch v reply ∷ []) (with_watches s (after_unwatch s.slots v reply)) after given.1 (unwatch_on rows h s v reply i)
step rows h s (Save reply) after i given =
    moved rows (h ++ Save reply ∷ []) s after given.1 (left_on rows h s (Save reply) i (refl, refl) (λ w. refl) (λ w x. refl))
step rows h s (Load text (Ok loaded)) after i given =
    noted_on rows h s (Load text (Ok loaded)) after (changes_in_steps s.rows given.steps) i (given.steps, given.reads, given.ran, refl) given.noted (λ w. refl) (λ w x. refl)
step rows h s (Load text (Err why)) after i given =
    moved rows (h ++ Load text (Err why) ∷ []) s after given.1 (left_on rows h s (Load text (Err why)) i (refl, refl) (λ w. refl) (λ w x. refl))

-- The reply of `notes`, over any history.

ok_is : (x y : List Note × ℕ) → (let a : Result (List Note × ℕ) NoWatch = Ok x in a ≡ Ok y) → x ≡ y
ok_is x y h = cc

due : (rows : Rows) (h : List WatchEntry) (now : Rows) (w : ℕ) (notes : List Note) (lost : ℕ) (o : Option a_watch) → ((k : a_watch) → o ≡ Some k → IsKept rows h now w k)
    → GivesKept o (Ok (notes, lost)) → AreDue rows h w notes lost
due rows h now w notes lost None i g = absurd g
due rows h now w notes lost (Some k) i g =
    let q = i k refl in
    let t = told (new_watch k.row) q.changes (omega arith) (omega arith) in
    let same : (let p : List Note × ℕ = (notes, lost) in p ≡ (k.notes, k.lost)) = ok_is (notes, lost) (k.notes, k.lost) g in
    let notes_are : notes ≡ k.notes = ap (λ (p : List Note × ℕ). p.0) same in
    let lost_is : lost ≡ k.lost = ap (λ (p : List Note × ℕ). p.1) same in record {
      row = k.row;
      lives = q.lives;
      before = q.before;
      opening = q.opening;
      since = q.since;
      whole = q.whole;
      anew = q.anew;
      last = q.last;
      then_rows = q.mid;
      earlier = q.earlier;
      to_then = q.to_mid;
      now_rows = now;
      changes = q.changes;
      to_now = q.to_now;
      first = notes_are ∙ (ap (λ (x : a_watch). x.notes) q.kept ∙ t.notes);
      others = lost_is ∙ (ap (λ (x : a_watch). x.lost) q.kept ∙ (t.lost
          ∙ ap counted {x = 0 + (0 + length (notes_for k.row q.changes) - notes_limit)} {y = length (notes_for k.row q.changes) - notes_limit} (omega arith)));
    }

onward : (rows : Rows) (done : List WatchEntry) (more rest : List (ℕ × WatchEntry)) (s last : Watched) (caller w : ℕ) (notes : List Note) (lost : ℕ) → IsAfter rows done s
    → LeadsDatabase s (more ++ (caller, Notes w (Ok (notes, lost))) ∷ rest) last → AreDue rows (done ++ calls_made more) w notes lost
onward rows done [] rest s last caller w notes lost i leads =
    subst (λ (l : List WatchEntry). AreDue rows l w notes lost) (sym (append-nil done)) (due rows done s.rows w notes lost (slot s.slots w) (i.keeps w) leads.1.step.0)
onward rows done (e ∷ more) rest s last caller w notes lost i leads =
    subst (λ (l : List WatchEntry). AreDue rows l w notes lost) (append_assoc done (e.1 ∷ []) (calls_made more))
    (onward rows (done ++ e.1 ∷ []) more rest leads.0 last caller w notes lost (step rows done s e.1 leads.0 i leads.1.step) leads.2)

nothing_kept : (rows : Rows) → IsAfter rows [] (unwatched rows)
nothing_kept rows = record { changes = []; wrote = (refl, refl); keeps = λ (w : ℕ) (k : a_watch) (is : slot [] w ≡ Some k). (let e : None ≡ Some k = is in absurd (cc)) }

pub notes_are_due : (rows : Rows) (h : List (ℕ × WatchEntry)) (caller w : ℕ) (notes : List Note) (lost : ℕ) (more : List (ℕ × WatchEntry)) (last : Watched)
    → LeadsDatabase (unwatched rows) (h ++ (caller, Notes w (Ok (notes, lost))) ∷ more) last → AreDue rows (calls_made h) w notes lost
notes_are_due rows h caller w notes lost more last leads = onward rows [] h more (unwatched rows) last caller w notes lost (nothing_kept rows) leads
