-- Notes one after the other, and watch after watch.
use Rattle.std.proofs.Common.{◌≡◌, ℕ, zero, suc, ◌+◌, ◌<◌, Bool, true, false, cond, ltb, List, [], ◌∷◌, ◌++◌, length, map, take, drop, get_or, slice_set, Option, Result, Ok, Err, refl, sym, ap, ◌∙◌, arith}
use Rattle.odb_tree.specs.declared.refusals.OdbRefusal.{OdbRefusal}
use Rattle.odb_tree.specs.Rows.{Rows}
use Rattle.odb_tree.proofs.Noted.{none_noted}
use Rattle.odb_tree.specs.Calls.{is_row_below}
use Rattle.odb_tree.specs.declared.notes.Note.{Note}
use Rattle.odb_tree.specs.declared.notes.Watch.{Watch}
use Rattle.odb_tree.specs.Noting.{Watched, changes_from, changes_for, all_noted, with_note, noted_all, notes_limit, counted}
use Rattle.odb_watch.specs.Keeping.{with_notes}

pub note_keeps_row : (k : Watch) (note : Note) → (with_note k note).row ≡ k.row
note_keeps_row k note = cases (ltb (length k.notes) notes_limit)
  where
    cases : (t : Bool) → (let w : Watch = cond t (record { row = k.row; notes = k.notes ++ note ∷ []; lost = k.lost }) (record { row = k.row; notes = k.notes; lost = counted (k.lost + 1) }) in w.row ≡ k.row)
    cases true = refl
    cases false = refl

pub notes_apart : (s : Rows) (row first count : ℕ) (k : Watch) → is_row_below s row k.row ≡ false → noted_all k (changes_from s row first count) ≡ k
notes_apart s row first zero k h = refl
notes_apart s row first (suc count) k h =
    ap (λ (w : Watch). noted_all w (changes_from s row (first + 1) count)) (ap (λ (t : Bool). cond t (with_note k (record { row = row; index = first })) k) h)
    ∙ notes_apart s row (first + 1) count k h

pub notes_kept : (s : Rows) (row first count : ℕ) (k : Watch) → is_row_below s row k.row ≡ true → noted_all k (changes_from s row first count) ≡ with_notes k row first count
notes_kept s row first zero k h = refl
notes_kept s row first (suc count) k h =
    let note : Note = record { row = row; index = first } in
    ap (λ (w : Watch). noted_all w (changes_from s row (first + 1) count)) (ap (λ (t : Bool). cond t (with_note k note) k) h)
    ∙ notes_kept s row (first + 1) count (with_note k note) (ap (is_row_below s row) (note_keeps_row k note) ∙ h)

notes_more : (k : Watch) (row first count : ℕ) → with_notes k row first (suc count) ≡ with_note (with_notes k row first count) (record { row = row; index = first + count })
notes_more k row first zero = ap (λ (n : ℕ). with_note k (record { row = row; index = n })) {x = first} {y = first + 0} (omega arith)
notes_more k row first (suc count) =
    notes_more (with_note k (record { row = row; index = first })) row (first + 1) count
    ∙ ap (λ (n : ℕ). with_note (with_notes (with_note k (record { row = row; index = first })) row (first + 1) count) (record { row = row; index = n })) {x = first + 1 + count} {y = first + suc count} (omega arith)

pub notes_next : (k : Watch) (row first count : ℕ) → with_notes k row first (count + 1) ≡ with_note (with_notes k row first count) (record { row = row; index = first + count })
notes_next k row first count = ap (with_notes k row first) {x = count + 1} {y = suc count} (omega arith) ∙ notes_more k row first count

-- Some of a list are changed, from the front on.

part_read : {X : Type 0} (f : X → X) (xs : List X) (i : ℕ) (d : X) → i < length xs → get_or (map f (take i xs) ++ drop i xs) i d ≡ get_or xs i d
part_read f [] i d h = absurd (omega (arith, h))
part_read f (x ∷ xs) zero d h = refl
part_read f (x ∷ xs) (suc i) d h = part_read f xs i d (omega (arith, h))

part_set : {X : Type 0} (f : X → X) (xs : List X) (i : ℕ) (d : X) → i < length xs
    → slice_set (map f (take i xs) ++ drop i xs) i (f (get_or xs i d)) ≡ map f (take (suc i) xs) ++ drop (suc i) xs
part_set f [] i d h = absurd (omega (arith, h))
part_set f (x ∷ xs) zero d h = refl
part_set f (x ∷ xs) (suc i) d h = ap (λ l. f x ∷ l) (part_set f xs i d (omega (arith, h)))

pub all_next : {X : Type 0} (f : X → X) (xs now : List X) (i : ℕ) (old new : X) → i < length xs → now ≡ map f (take i xs) ++ drop i xs → old ≡ get_or now i old → new ≡ f old
    → slice_set now i new ≡ map f (take (i + 1) xs) ++ drop (i + 1) xs
all_next f xs now i old new h so_far at is =
    let here : old ≡ get_or xs i old = at ∙ (ap (λ l. get_or l i old) so_far ∙ part_read f xs i old h) in
    ap (λ l. slice_set l i new) so_far
    ∙ (ap (slice_set (map f (take i xs) ++ drop i xs) i) (is ∙ ap f here)
    ∙ (part_set f xs i old h ∙ ap (λ n. map f (take n xs) ++ drop n xs) {x = suc i} {y = i + 1} (omega arith)))

-- a call that was refused wrote nothing
pub refused_notes : (after : Rows) (reply : Result ℕ OdbRefusal) (first count : ℕ) (slots : List (Option Watch)) → ((row : ℕ) → reply ≡ Ok row → ⊥) → slots ≡ all_noted (changes_for after reply first count) slots
refused_notes after (Ok row) first count slots h = absurd (h row refl)
refused_notes after (Err refusal) first count slots h = sym (none_noted slots)

-- what the code notes is what the call wrote
pub noted_as : (s : Watched) (rows now : Rows) (slots noted : List (Option Watch)) (after : Rows → Rows) (reply : Result ℕ OdbRefusal) (first count at many : ℕ) → record { rows = rows; slots = slots } ≡ s → now ≡ after rows
    → first ≡ at → count ≡ many → noted ≡ all_noted (changes_for now reply first count) slots → noted ≡ all_noted (changes_for (after s.rows) reply at many) s.slots
noted_as s rows now slots noted after reply first count at many view left e f h =
    h ∙ (ap (λ (r : Rows). all_noted (changes_for r reply first count) slots) left
    ∙ (ap (λ (n : ℕ). all_noted (changes_for (after rows) reply n count) slots) e
    ∙ (ap (λ (n : ℕ). all_noted (changes_for (after rows) reply at n) slots) f
    ∙ ap (λ (w : Watched). all_noted (changes_for (after w.rows) reply at many) w.slots) view)))
