-- A database text is loaded, step by step.
use Rattle.std.specs.Prelude.{◌≡◌, ℕ, ◌+◌, ◌<◌, ◌≤◌, ◌^◌, Bool, List, [], ◌∷◌, ◌++◌, length, Option, None, Ok, ◌⊎◌}
use Rattle.std.specs.Str.Lines.{lines}
use Rattle.odb_tree.specs.declared.refusals.OdbRefusal.{OdbRefusal}
use Rattle.odb_tree.specs.declared.notes.Watch.{Watch}
use Rattle.odb_tree.specs.Rows.{Rows}
use Rattle.odb_tree.specs.Noting.{Watched, all_noted}
use Rattle.odb_text.specs.LineForms.{IsPassed}
use Rattle.odb_text.specs.declared.acts.Act.{Act}
use Rattle.odb_text.specs.declared.acts.Loaded.{Loaded}
use Rattle.odb_text.specs.declared.acts.LoadRefusal.{LoadRefusal}
use Rattle.odb_text.specs.declared.acts.LoadRefusal.TheVariants.{BadLine, KeyRefused, NoMemory}
use Rattle.odb_text.specs.TextSteps.{TextStep, run_steps, act_fault, watched_act, changes_in_steps, written, skipped, keys_written, keys_skipped, dir_after, dirs_after}
use Rattle.odb_text.specs.Grammar.{SpellsAct, SpellsSteps}
use Rattle.odb_text.specs.TextFaults.{IsRefused}
use Rattle.odb_tree.specs.declared.refusals.OdbRefusal.TheVariants.{NoKey, Exists, NotDir, NotValue, TypeMismatch, BadIndex, Limit, NotKept, BadLink, NoMemory as none_left}
use Rattle.odb_text.specs.declared.faults.BlockFault.{BlockFault}
use Rattle.odb_text.specs.declared.faults.BlockFault.TheVariants.{Bad, Refused, NoMemory as no_memory}
use Rattle.odb_text.specs.Dumps.{dump_limit}
use Rattle.odb_text.specs.Blocks.{IsBadAt, IsBegunAt}

-- The lines are those of some steps, none of which is refused from these rows; they lead to those rows, and each watch has
-- noted the changes of each step in turn. So many keys are written, and so many are skipped.
pub record IsLoaded (s : Watched) (own : List (List ℕ)) (loaded : Loaded) (after : Watched) : Type 0 where
  pub steps : List TextStep
  pub reads : SpellsSteps s.rows.links 1 [] own steps
  pub ran : run_steps steps s.rows ≡ Ok after.rows
  pub noted : after.slots ≡ all_noted (changes_in_steps s.rows steps) s.slots
  pub keys : loaded.keys ≡ keys_written steps
  pub skipped : loaded.skipped ≡ keys_skipped steps

-- these rows, and these watches beside them
abbrev pub watched_as : Rows → List (Option Watch) → Watched
watched_as rows slots = record { rows = rows; slots = slots }

-- Where a text is read: the lines left, the number of the first of them, the directory of its keys, and the counts.
pub record Place : Type 0 where
  pub rest : List (List ℕ)
  pub line : ℕ
  pub dir : List (List ℕ)
  pub loaded : Loaded

-- The lines before this place are loaded.
pub record IsLoadedTo (s : Watched) (all : List (List ℕ)) (at : Place) (now : Watched) : Type 0 where
  pub front : List (List ℕ)
  pub whole : all ≡ front ++ at.rest
  pub so_far : IsLoaded s front at.loaded now
  pub dir_is : at.dir ≡ dirs_after [] so_far.steps
  pub line_is : at.line ≡ length front + 1

-- the counts with those of this step
abbrev pub counts_with : Loaded → Act → Loaded
counts_with loaded act = record { keys = loaded.keys + written act; skipped = loaded.skipped + skipped act }

-- A line is passed over.
pub record IsPassedOver (old new : Place) (before after : Watched) : Type 0 where
  pub own : List ℕ
  pub whole : old.rest ≡ own ∷ new.rest
  pub passed : IsPassed own
  pub next : new.line ≡ old.line + 1
  pub same_dir : new.dir ≡ old.dir
  pub same_count : new.loaded ≡ old.loaded
  pub same_state : after ≡ before

-- A step is done, which is not refused.
pub record DoesStep (links : Bool) (old new : Place) (before after : Watched) : Type 0 where
  pub own : List (List ℕ)
  pub act : Act
  pub whole : old.rest ≡ own ++ new.rest
  pub spells : SpellsAct links old.dir own act
  pub fine : act_fault before.rows act ≡ None
  pub next : new.line ≡ old.line + length own
  pub new_dir : new.dir ≡ dir_after old.dir act
  pub one_more : new.loaded ≡ counts_with old.loaded act
  pub new_state : after ≡ watched_act before act

abbrev pub AdvancesText : (links : Bool) → (old new : Place) (before after : Watched) → Type 0
AdvancesText links old new before after = IsPassedOver old new before after ⊎ DoesStep links old new before after

-- the first lines left are refused
pub record RefusesFirst (links : Bool) (at : Place) (now : Rows) (why : OdbRefusal) : Type 0 where
  pub opened : List (List ℕ)
  pub left : List (List ℕ)
  pub whole : at.rest ≡ opened ++ left
  pub refused : IsRefused links now at.dir opened why

-- what is wrong with the lines left
abbrev pub IsTextFaultAt : (links : Bool) → Place → (now : Rows) → LoadRefusal → Type 0
IsTextFaultAt links at now (BadLine n) = (place : ℕ) × IsBadAt links at.dir at.rest place × (n ≡ at.line + place)
IsTextFaultAt links at now (KeyRefused n why) = RefusesFirst links at now why × (n ≡ at.line)
IsTextFaultAt links at now NoMemory = IsBegunAt links at.dir at.rest

-- The place in a text of which these bytes are left.
abbrev pub place_at : (bytes : List ℕ) → (line : ℕ) → (dir : List (List ℕ)) → Loaded → Place
place_at bytes line dir loaded = record { rest = lines bytes; line = line; dir = dir; loaded = loaded }

-- the numbers of all lines fit, and no more keys were counted than lines
pub record IsRoomy (line left : ℕ) (loaded : Loaded) : Type 0 where
  pub lines_fit : line + left ≤ dump_limit + 1
  pub counts_fit : loaded.keys + loaded.skipped + 1 ≤ line

-- a line's number is near enough to this one
abbrev pub IsNear : (line : ℕ) → BlockFault → Type 0
IsNear line (Bad at) = line + at < 2 ^ 32
IsNear line (Refused why) = Unit {0}
IsNear line no_memory = Unit {0}

-- the refusal of lines of which the first has this number
abbrev pub broken_at : (line : ℕ) → BlockFault → LoadRefusal
broken_at line (Bad at) = BadLine (line + at)
broken_at line (Refused why) = KeyRefused line why
broken_at line no_memory = NoMemory

-- the refusal of a step that begins at this line, which the database refuses
abbrev pub refused_at : (line : ℕ) → OdbRefusal → LoadRefusal
refused_at line NoKey = KeyRefused line NoKey
refused_at line Exists = KeyRefused line Exists
refused_at line NotDir = KeyRefused line NotDir
refused_at line NotValue = KeyRefused line NotValue
refused_at line (TypeMismatch have) = KeyRefused line (TypeMismatch have)
refused_at line (BadIndex len) = KeyRefused line (BadIndex len)
refused_at line (Limit what) = KeyRefused line (Limit what)
refused_at line (NotKept type) = KeyRefused line (NotKept type)
refused_at line (BadLink steps) = KeyRefused line (BadLink steps)
refused_at line none_left = NoMemory
