-- A dump loads again into a new database.
use Rattle.std.proofs.Common.{Bool, true, false, ◌≡◌, ℕ, suc, ◌+◌, ◌≤◌, List, [], ◌∷◌, ◌++◌, length, map, Option, Some, None, Ok, refl, sym, ap, ◌∙◌, subst, arith, append_assoc, append-nil, IsPermutation}
use Rattle.std.specs.List.{AllByRecursion}
use Rattle.std.specs.Str.Lines.{lines}
use Rattle.std.proofs.lemmas.List.Elements.{recursion_from_All}
use Rattle.std.proofs.lemmas.List.Sums.{sum_by-cons}
use Rattle.std.proofs.lemmas.List.Sorted.{IsPermutation-sym, length_permutation, sum_by-IsPermutation, All-permutation}
use Rattle.odb_value.specs.Paths.{depth_limit}
use Rattle.odb_value.specs.Values.{HeldValue}
use Rattle.odb_tree.specs.declared.rows.Row.{Row}
use Rattle.odb_tree.specs.declared.refusals.OdbRefusal.{OdbRefusal}
use Rattle.odb_tree.specs.Rows.{Rows, no_rows, keys_in, bytes_of_row, total_of}
use Rattle.odb_tree.specs.Walks.{walk_below, walk}
use Rattle.odb_tree.specs.Trees.{ArePlaced, AreApart, IsTree, AreNew, with_rows, AreShort}
use Rattle.odb_tree.specs.WalkLaws.{NoneAt, OneAt}
use Rattle.odb_tree.specs.Databases.{IsHeld, IsRow, IsDatabase}
use Rattle.odb_tree.proofs.Trees.{same_refl, tree_more, with_more}
use Rattle.odb_tree.proofs.Kept.{tree_begins}
use Rattle.odb_tree.proofs.Short.{one_in_walk}
use Rattle.odb_tree.proofs.EachRow.{short_rows}
use Rattle.odb_tree.proofs.Placed.{none_around}
use Rattle.odb_tree.proofs.Whole.{has_rows}
use Rattle.odb_text.specs.declared.acts.Act.{Act}
use Rattle.odb_text.specs.declared.acts.Act.TheVariants.{Make}
use Rattle.odb_text.specs.TextSteps.{TextStep, act_fault, after_act, or_refused, run_steps, skipped, keys_skipped}
use Rattle.odb_text.specs.DumpSteps.{act_with, act_for, root_acts, acts_of, content_of, contents_of, new_like, RemakesRows, LoadsAgain}
use Rattle.odb_text.specs.Dumps.{dump_text}
use Rattle.odb_text.specs.Grammar.{SpellsSteps}
use Rattle.odb_text.proofs.OneReading.{one_reading}
use Rattle.odb_text.proofs.DumpFollows.{dump_follows_walk}
use Rattle.odb_text.proofs.WalkAgain.{AreAlike, contents_alike, walk_alike, walk_again, walk_placed, placed_alike}
use Rattle.odb_text.proofs.Remade.{StepRuns, row_remade, HasSpace, room_less, room_within}

-- The rows with the numbers from this one on.

abbrev pub counted_from : ℕ → List Row → List Row
counted_from n [] = []
counted_from n (r ∷ rs) = record { number = n; path = r.path; value = r.value } ∷ counted_from (n + 1) rs

counted_alike : (n : ℕ) (rows : List Row) → AreAlike (counted_from n rows) rows
counted_alike n [] = tt
counted_alike n (r ∷ rs) = (refl, counted_alike (n + 1) rs)

alike_counted : (n : ℕ) (rows : List Row) → AreAlike rows (counted_from n rows)
alike_counted n [] = tt
alike_counted n (r ∷ rs) = (refl, alike_counted (n + 1) rs)

counted_long : (n : ℕ) (rows : List Row) → length (counted_from n rows) ≡ length rows
counted_long n [] = refl
counted_long n (r ∷ rs) = ap suc (counted_long (n + 1) rs)

counted_total : (n : ℕ) (rows : List Row) → total_of (counted_from n rows) ≡ total_of rows
counted_total n [] = refl
counted_total n (r ∷ rs) =
    let new : Row = record { number = n; path = r.path; value = r.value } in
    omega (arith, sum_by-cons bytes_of_row new (counted_from (n + 1) rs), sum_by-cons bytes_of_row r rs, counted_total (n + 1) rs)

counted_sound : (links : Bool) (n : ℕ) (rows : List Row) → AllByRecursion (IsRow links) rows → AllByRecursion (IsRow links) (counted_from n rows)
counted_sound links n [] h = tt
counted_sound links n (r ∷ rs) h = (record { path = h.0.path; value = h.0.value }, counted_sound links (n + 1) rs h.1)

none_counted : (p : List (List ℕ)) (n : ℕ) (rows : List Row) → NoneAt p rows → NoneAt p (counted_from n rows)
unfolding NoneAt
none_counted p n [] h = tt
none_counted p n (r ∷ rs) h = (h.0, none_counted p (n + 1) rs h.1)

-- where each path has at most one row, the rows are apart
apart_counted : (n : ℕ) (rows : List Row) → ((p : List (List ℕ)) → OneAt p rows) → AreApart (counted_from n rows)
unfolding OneAt
apart_counted n [] h = tt
apart_counted n (r ∷ rs) h = (none_counted r.path (n + 1) rs ((h r.path).0 (same_refl r.path)), apart_counted (n + 1) rs (λ (p : List (List ℕ)). (h p).1))

-- So they may be made one after the other.

new_counted : (s : Rows) (rows : List Row) → ArePlaced s.rows (counted_from s.next rows) → AreApart (s.rows ++ counted_from s.next rows) → AreNew s (counted_from s.next rows)
new_counted s [] placed apart = tt
new_counted s (r ∷ rs) placed apart =
    let new : Row = record { number = s.next; path = r.path; value = r.value } in (
      record { placed = placed.0; free = (none_around s.rows new (counted_from (s.next + 1) rs) apart).0; number = refl },
      new_counted (with_rows s (new ∷ [])) rs placed.1 (subst AreApart (sym (append_assoc s.rows (new ∷ []) (counted_from (s.next + 1) rs))) apart),
    )

-- The steps make them.

ran_on : (line : ℕ) (s after : Rows) (act given : Act) (steps : List TextStep) → given ≡ act → StepRuns s act after
    → or_refused line (act_fault s given) (run_steps steps (after_act s given)) ≡ run_steps steps after
ran_on line s after act given steps e h =
    ap (λ (a : Act). or_refused line (act_fault s a) (run_steps steps (after_act s a))) e
    ∙ (ap (λ (o : Option OdbRefusal). or_refused line o (run_steps steps (after_act s act))) h.clear ∙ ap (run_steps steps) h.next)

none_made : (s : Rows) → s ≡ with_rows s []
none_made s = ap (λ (l : List Row). record s { rows = l }) (sym (append-nil s.rows)) ∙ ap (λ (n : ℕ). record s { rows = s.rows ++ []; next = n }) {x = s.next} {y = s.next + 0} (omega arith)

rows_remade : (s : Rows) (made : List Row) (steps : List TextStep) → IsTree s → AreNew s made → AllByRecursion (IsRow s.links) made → HasSpace s (length made) (total_of made)
    → acts_of steps ≡ map act_for made → run_steps steps s ≡ Ok (with_rows s made)
rows_remade s [] [] tree new sound room e = ap (λ (t : Rows). Ok t) (none_made s)
rows_remade s [] (step ∷ steps) tree new sound room e = absurd (cc)
rows_remade s (r ∷ rs) [] tree new sound room e = absurd (cc)
rows_remade s (r ∷ rs) (step ∷ steps) tree new sound room e =
    let next : Rows = with_rows s (r ∷ []) in
    let more : HasSpace next (length rs) (total_of rs) =
    room_less s r (length rs) (total_of rs) (subst (λ (n : ℕ). HasSpace s (length (r ∷ rs)) n) (sum_by-cons bytes_of_row r rs) room) in
    let head : step.act ≡ act_for r = cc in
    let tail : acts_of steps ≡ map act_for rs = cc in
    ran_on step.line s next (act_for r) step.act steps head (row_remade s r tree new.0 (room_within next (length rs) (total_of rs) more) sound.0.value)
    ∙ (rows_remade next rs steps (tree_more s r tree new.0) new.1 sound.1 more tail ∙ ap (λ (t : Rows). Ok t) (with_more s r rs))

-- and skip no key

not_skipped : (q : List (List ℕ)) (o : Option HeldValue) → skipped (act_with q o) ≡ 0
not_skipped q None = refl
not_skipped q (Some v) = refl

none_skipped : (rows : List Row) (steps : List TextStep) → acts_of steps ≡ map act_for rows → keys_skipped steps ≡ 0
none_skipped rows [] e = refl
none_skipped [] (step ∷ steps) e = absurd (cc)
none_skipped (r ∷ rs) (step ∷ steps) e =
    let head : step.act ≡ act_for r = cc in
    let tail : acts_of steps ≡ map act_for rs = cc in
    let here : skipped step.act ≡ 0 = ap skipped head ∙ not_skipped r.path r.value in
    omega (arith, sum_by-cons (λ (x : TextStep). skipped x.act) step steps, here, none_skipped rs steps tail)

-- The rows of the walk, made in its order.

abbrev remade : Rows → Rows
remade s = with_rows (new_like s) (counted_from 1 (walk s))

new_tree : (s : Rows) → IsTree (new_like s)
new_tree s = record { placed = tree_begins.placed; apart = tree_begins.apart; numbered = tree_begins.numbered }

walk_new : (s : Rows) → IsDatabase s → AreNew (new_like s) (counted_from 1 (walk s))
walk_new s h =
    let short : AreShort depth_limit s.rows = short_rows s.links s.rows h.rows in
    new_counted (new_like s) (walk s)
    (placed_alike [] [] (walk s) (counted_from 1 (walk s)) tt (alike_counted 1 (walk s)) (walk_placed s h.tree short))
    (apart_counted 1 (walk s) (λ (p : List (List ℕ)). one_in_walk s p h.tree short))

walk_sound : (s : Rows) → IsDatabase s → AllByRecursion (IsRow s.links) (counted_from 1 (walk s))
walk_sound s h =
    counted_sound s.links 1 (walk s)
    (recursion_from_All (IsRow s.links) (walk s) (All-permutation (IsRow s.links) s.rows (walk s) (IsPermutation-sym (walk s) s.rows (has_rows s h.tree (short_rows s.links s.rows h.rows))) h.rows))

walk_room : (s : Rows) → IsDatabase s → HasSpace (new_like s) (length (counted_from 1 (walk s))) (total_of (counted_from 1 (walk s)))
walk_room s h =
    let same : IsPermutation (walk s) s.rows = has_rows s h.tree (short_rows s.links s.rows h.rows) in
    let long : length (counted_from 1 (walk s)) ≡ length s.rows = counted_long 1 (walk s) ∙ sym (length_permutation (walk s) s.rows same) in
    let bytes : total_of (counted_from 1 (walk s)) ≡ total_of s.rows = counted_total 1 (walk s) ∙ sym (sum_by-IsPermutation bytes_of_row (walk s) s.rows same) in
    let count : length s.rows ≤ 65536 = h.within.rows in
    record {
      rows = omega (arith, long, count);
      total = omega (arith, bytes, h.within.total);
      next = omega (arith, long, count);
    }

-- have the same contents
contents_again : (s : Rows) → IsDatabase s → contents_of (remade s) ≡ contents_of s
unfolding walk
contents_again s h =
    contents_alike (walk_below depth_limit (counted_from 1 (walk s)) []) (walk_below depth_limit (walk s) []) (walk_alike depth_limit (counted_from 1 (walk s)) (walk s) (counted_alike 1 (walk s)) [])
    ∙ ap (map content_of) (walk_again s h.tree (short_rows s.links s.rows h.rows))

-- The line of the root makes nothing.

record RunsSo (s : Rows) (steps : List TextStep) : Type 0 where
  ran : run_steps steps (new_like s) ≡ Ok (remade s)
  none : keys_skipped steps ≡ 0

runs_walk : (s : Rows) (steps : List TextStep) → IsDatabase s → acts_of steps ≡ map act_for (walk s) → RunsSo s steps
runs_walk s steps h e = record {
  ran = rows_remade (new_like s) (counted_from 1 (walk s)) steps (new_tree s) (walk_new s h) (walk_sound s h) (walk_room s h) (e ∙ same_acts 1 (walk s));
  none = none_skipped (walk s) steps e;
}
  where
    same_acts : (n : ℕ) (rows : List Row) → map act_for rows ≡ map act_for (counted_from n rows)
    same_acts n [] = refl
    same_acts n (r ∷ rs) = ap (λ (l : List Act). act_for r ∷ l) (same_acts (n + 1) rs)

root_runs : (s : Rows) → StepRuns (new_like s) (Make []) (new_like s)
root_runs s = by_flag s.links
  where
    by_flag : (links : Bool) → StepRuns (record no_rows { links = links }) (Make []) (record no_rows { links = links })
    by_flag true = record { clear = refl; next = refl }
    by_flag false = record { clear = refl; next = refl }

runs_dump : (s : Rows) (keys : List Row) (steps : List TextStep) → IsDatabase s → acts_of steps ≡ root_acts keys ++ map act_for (walk s) → RunsSo s steps
runs_dump s [] steps h e = runs_walk s steps h e
runs_dump s (k ∷ ks) [] h e = absurd (cc)
runs_dump s (k ∷ ks) (step ∷ steps) h e =
    let head : step.act ≡ Make [] = cc in
    let tail : acts_of steps ≡ map act_for (walk s) = cc in
    let rest = runs_walk s steps h tail in
    let here : skipped step.act ≡ 0 = ap skipped head in
    record {
      ran = ran_on step.line (new_like s) (new_like s) (Make []) step.act steps head (root_runs s) ∙ rest.ran;
      none = omega (arith, sum_by-cons (λ (x : TextStep). skipped x.act) step steps, here, rest.none);
    }

pub loads_again : (s : Rows) → IsDatabase s → LoadsAgain s
loads_again s h =
    let follows = dump_follows_walk s h in
    let runs = runs_dump s (keys_in s.rows []) follows.steps h follows.acts_are in
    record {
      steps = follows.steps;
      reads = follows.reads;
      remakes = record { after = remade s; ran = runs.ran; same = contents_again s h; none_skipped = runs.none };
    }

-- and no other steps have its lines
pub always_remade : (s : Rows) (steps : List TextStep) → IsDatabase s → SpellsSteps s.links 1 [] (lines (dump_text s)) steps → RemakesRows s steps
always_remade s steps h reads =
    let again = loads_again s h in
    subst (RemakesRows s) (one_reading s.links 1 [] (lines (dump_text s)) again.steps steps again.reads reads) again.remakes
