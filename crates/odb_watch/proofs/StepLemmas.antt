-- The calls on watches are steps of the watched database.
use Rattle.std.proofs.Common.{◌≡◌, ℕ, true, false, List, Option, Some, None, Result, Ok, Err, refl, ap, ◌∙◌, subst}
use Rattle.odb_tree.specs.declared.notes.Note.{Note}
use Rattle.odb_tree.specs.declared.notes.Watch.{Watch as a_watch}
use Rattle.odb_tree.specs.Rows.{Rows}
use Rattle.odb_tree.specs.Noting.{Watched}
use Rattle.odb_watch.specs.declared.notes.NoWatch.{NoWatch}
use Rattle.odb_watch.specs.declared.notes.WatchRefusal.{WatchRefusal}
use Rattle.odb_watch.specs.declared.entry.WatchEntry.TheVariants.{Watch, Notes, Unwatch}
use Rattle.odb_watch.specs.Slots.{slot, GivesWatch, after_watch, GivesTaken, GivesNotes, after_notes, GivesUnwatch, after_unwatch}
use Rattle.odb_watch.specs.Steps.{GivesKept, moved_out, emptied_at, StepsWatched}

abbrev pub seen_as : Rows → List (Option a_watch) → Watched
seen_as rows slots = record { rows = rows; slots = slots }

pub watch_step : (s : Watched) (rows : Rows) (old slots : List (Option a_watch)) (row : ℕ) (reply : Result ℕ WatchRefusal) → seen_as rows old ≡ s → GivesWatch old reply
    → slots ≡ after_watch old row reply → StepsWatched s (Watch row reply) (seen_as rows slots)
watch_step s rows old slots row reply is given after =
    subst (λ (x : Watched). StepsWatched x (Watch row reply) (seen_as rows slots)) is (given, ap (λ (l : List (Option a_watch)). seen_as rows l) after)

kept_of : (k : Option a_watch) (before after : List Note) (reply : Result ℕ NoWatch) → GivesTaken k before after reply → GivesKept k (moved_out after reply)
kept_of None before after (Ok lost) g = (let wrong : false ≡ true = g.0 in absurd (cc))
kept_of None before after (Err e) g = tt
kept_of (Some k) before after (Ok lost) g =
    (let lost_is : lost ≡ k.lost = same_lost lost k.lost g.0 in
    let a : ◌≡◌ {A = Result (List Note × ℕ) NoWatch} (Ok (after, lost)) (Ok (k.notes, lost)) = ap (λ (n : List Note). Ok (n, lost)) g.1 in
    let b : ◌≡◌ {A = Result (List Note × ℕ) NoWatch} (Ok (k.notes, lost)) (Ok (k.notes, k.lost)) = ap (λ (n : ℕ). Ok (k.notes, n)) lost_is in
    a ∙ b)
  where
    same_lost : (n m : ℕ) → ◌≡◌ {A = Result ℕ NoWatch} (Ok n) (Ok m) → n ≡ m
    same_lost n m e = cc
kept_of (Some k) before after (Err e) g = (let wrong : ◌≡◌ {A = Result ℕ NoWatch} (Err e) (Ok k.lost) = g.0 in absurd (cc))

emptied_same : (slots : List (Option a_watch)) (w : ℕ) (notes : List Note) (reply : Result ℕ NoWatch) → after_notes slots w reply ≡ emptied_at slots w (moved_out notes reply)
emptied_same slots w notes (Ok lost) = refl
emptied_same slots w notes (Err e) = refl

pub notes_step : (s : Watched) (rows : Rows) (old slots : List (Option a_watch)) (w : ℕ) (before after : List Note) (reply : Result ℕ NoWatch) → seen_as rows old ≡ s
    → GivesNotes old w before after reply → slots ≡ after_notes old w reply → StepsWatched s (Notes w (moved_out after reply)) (seen_as rows slots)
notes_step s rows old slots w before after reply is given same =
    subst (λ (x : Watched). StepsWatched x (Notes w (moved_out after reply)) (seen_as rows slots)) is
    (kept_of (slot old w) before after reply given, ap (λ (l : List (Option a_watch)). seen_as rows l) (same ∙ emptied_same old w after reply))

pub unwatch_step : (s : Watched) (rows : Rows) (old slots : List (Option a_watch)) (w : ℕ) (reply : Result (Unit {0}) NoWatch) → seen_as rows old ≡ s → GivesUnwatch old w reply
    → slots ≡ after_unwatch old w reply → StepsWatched s (Unwatch w reply) (seen_as rows slots)
unwatch_step s rows old slots w reply is given after =
    subst (λ (x : Watched). StepsWatched x (Unwatch w reply) (seen_as rows slots)) is (given, ap (λ (l : List (Option a_watch)). seen_as rows l) after)
