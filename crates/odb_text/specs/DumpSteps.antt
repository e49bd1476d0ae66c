-- What a dump asks for, and the database that this makes again.
use Rattle.std.specs.Prelude.{◌≡◌, ℕ, List, [], ◌∷◌, ◌++◌, map, Option, Some, None, Ok}
use Rattle.std.specs.Str.Lines.{lines}
use Rattle.odb_value.specs.Values.{HeldValue}
use Rattle.odb_tree.specs.declared.rows.Row.{Row}
use Rattle.odb_tree.specs.Rows.{Rows, no_rows, keys_in}
use Rattle.odb_tree.specs.Walks.{walk}
use Rattle.odb_text.specs.declared.acts.Act.{Act}
use Rattle.odb_text.specs.declared.acts.Act.TheVariants.{Make, Write}
use Rattle.odb_text.specs.Dumps.{dump_text}
use Rattle.odb_text.specs.TextSteps.{TextStep, run_steps, keys_skipped}
use Rattle.odb_text.specs.Grammar.{SpellsSteps}

-- what makes a directory at the path, or a key there with its value
abbrev pub act_with : List (List ℕ) → Option HeldValue → Act
act_with p None = Make p
act_with p (Some v) = Write p v

abbrev pub act_for : Row → Act
act_for r = act_with r.path r.value

-- the line of the root, which makes nothing new, stands only where the root has keys
abbrev pub root_acts : List Row → List Act
root_acts [] = []
root_acts (r ∷ rs) = Make [] ∷ []

-- what a dump asks for: each row of the walk, in its order
abbrev pub dump_acts : Rows → List Act
dump_acts s = root_acts (keys_in s.rows []) ++ map act_for (walk s)

abbrev pub acts_of : List TextStep → List Act
acts_of steps = map (λ (step : TextStep). step.act) steps

-- The lines of the dump are those of these steps.
pub record DumpFollowsWalk (s : Rows) : Type 0 where
  pub steps : List TextStep
  pub reads : SpellsSteps s.links 1 [] (lines (dump_text s)) steps
  pub acts_are : acts_of steps ≡ dump_acts s

-- a row but for its number
pub record RowContent : Type 0 where
  pub path : List (List ℕ)
  pub value : Option HeldValue

abbrev pub content_of : Row → RowContent
content_of r = record { path = r.path; value = r.value }

-- the database but for the numbers of its rows: paths, as they are spelled, and values, in the order of the walk
abbrev pub contents_of : Rows → List RowContent
contents_of s = map content_of (walk s)

-- the new database, which keeps links where this one does
abbrev pub new_like : Rows → Rows
new_like s = record no_rows { links = s.links }

-- Steps lead from a new database to this one but for the numbers of its rows: none is refused, and none skips a key.
pub record RemakesRows (s : Rows) (steps : List TextStep) : Type 0 where
  pub after : Rows
  pub ran : run_steps steps (new_like s) ≡ Ok after
  pub same : contents_of after ≡ contents_of s
  pub none_skipped : keys_skipped steps ≡ 0

-- A dump loads again: its lines are those of such steps.
pub record LoadsAgain (s : Rows) : Type 0 where
  pub steps : List TextStep
  pub reads : SpellsSteps s.links 1 [] (lines (dump_text s)) steps
  pub remakes : RemakesRows s steps
