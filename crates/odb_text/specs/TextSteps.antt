-- What a database text asks for, and what that does to the rows.
use Rattle.std.specs.Prelude.{ℕ, Bool, true, false, nat_lt, if◌then◌else◌, List, [], ◌∷◌, ◌++◌, length, sum_by, Option, Some, None, Result, Ok, Err}
use Rattle.std.specs.Option.{option_or}
use Rattle.odb_value.specs.Paths.{IsPath}
use Rattle.odb_value.specs.Values.{HeldValue, size_limit, items_limit}
use Rattle.odb_tree.specs.declared.rows.NewKey.TheVariants.{Dir}
use Rattle.odb_tree.specs.declared.refusals.OdbRefusal.{OdbRefusal}
use Rattle.odb_tree.specs.declared.refusals.OdbRefusal.TheVariants.{NoKey, Exists, NotDir, NotValue, TypeMismatch, BadIndex, Limit, NotKept, BadLink, NoMemory}
use Rattle.odb_tree.specs.declared.refusals.What.TheVariants.{Items, Size}
use Rattle.odb_tree.specs.Rows.{Rows}
use Rattle.odb_tree.specs.Lookups.{seek_key}
use Rattle.odb_tree.specs.Links.{resolved, through, led_to}
use Rattle.odb_tree.specs.Calls.{create_fault, after_create, put_fault, put_reply, after_set_all}
use Rattle.odb_tree.specs.Databases.{IsHeld}
use Rattle.odb_tree.specs.Noting.{Change, Watched, changes_of_put, all_noted}
use Rattle.odb_text.specs.declared.acts.Act.{Act}
use Rattle.odb_text.specs.declared.acts.Act.TheVariants.{Make, Write, Skip}

-- a step of a text: what is asked for, and the number of the line at which that begins
pub record TextStep : Type 0 where
  pub line : ℕ
  pub act : Act

-- Making a directory, at the path after its links. A link at the path's end is not followed, and is a key.

-- where something stands at the path already, a key is refused, and a directory stays
abbrev pub there_already : Result (ℕ × HeldValue) OdbRefusal → Option OdbRefusal
there_already (Ok key) = Some NotDir
there_already (Err refusal) = None

abbrev pub is_exists : OdbRefusal → Bool
is_exists NoKey = false
is_exists Exists = true
is_exists NotDir = false
is_exists NotValue = false
is_exists (TypeMismatch have) = false
is_exists (BadIndex len) = false
is_exists (Limit what) = false
is_exists (NotKept type) = false
is_exists (BadLink steps) = false
is_exists NoMemory = false

-- why `create` makes no directory
abbrev pub fault_through : Result (List (List ℕ)) OdbRefusal → (List (List ℕ) → Option OdbRefusal) → Option OdbRefusal
fault_through (Ok q) fault = fault q
fault_through (Err refusal) fault = Some refusal

abbrev pub dir_refusal : Rows → List (List ℕ) → Option OdbRefusal
dir_refusal s p = fault_through (resolved s p false) (λ q. create_fault s q Dir)

-- the refusal of `create`, but for what is there already
abbrev pub make_fault_by : Rows → List (List ℕ) → Option OdbRefusal → Option OdbRefusal
make_fault_by s p None = None
make_fault_by s p (Some refusal) = if is_exists refusal then there_already (through (resolved s p false) (λ q. seek_key s.rows q)) else Some refusal

abbrev pub make_fault : Rows → List (List ℕ) → Option OdbRefusal
make_fault s p = make_fault_by s p (dir_refusal s p)

-- the directory and those above it are made where they are missing
abbrev pub after_make_by : Rows → List (List ℕ) → Option OdbRefusal → Rows
after_make_by s p None = led_to s (resolved s p false) (λ q. after_create s q Dir)
after_make_by s p (Some refusal) = s

abbrev pub after_make : Rows → List (List ℕ) → Rows
after_make s p = after_make_by s p (dir_refusal s p)

-- Refusals.

-- no key has more items, and no STRING or LINK a greater item size: this is known of the lines alone
abbrev pub many_fault : (items : ℕ) → Option OdbRefusal
many_fault items = if nat_lt items_limit items then Some (Limit Items) else None

abbrev pub wide_fault : (size : ℕ) → Option OdbRefusal
wide_fault size = if nat_lt size_limit size then Some (Limit Size) else None

abbrev pub own_limit : Act → Option OdbRefusal
own_limit (Make p) = None
own_limit (Write p v) = option_or (many_fault (length v.items)) (wide_fault v.size)
own_limit (Skip items) = many_fault items

-- what the rows say: a directory is made at the path after its links, and a key is put at the path as it is
abbrev pub rows_fault : Rows → Act → Option OdbRefusal
rows_fault s (Make p) = make_fault s p
rows_fault s (Write p v) = put_fault s p v
rows_fault s (Skip items) = None

abbrev pub act_fault : Rows → Act → Option OdbRefusal
act_fault s act = option_or (own_limit act) (rows_fault s act)

abbrev pub after_act : Rows → Act → Rows
after_act s (Make p) = after_make s p
after_act s (Write p v) = after_set_all s p v
after_act s (Skip items) = s

-- the changes that a step makes: writing a key is one `put`
abbrev pub changes_of_act : Rows → Act → List Change
changes_of_act s (Make p) = []
changes_of_act s (Write p v) = changes_of_put s p v (put_reply s p v)
changes_of_act s (Skip items) = []

-- a watched database after a step
abbrev pub watched_act : Watched → Act → Watched
watched_act s act = record { rows = after_act s.rows act; slots = all_noted (changes_of_act s.rows act) s.slots }

-- a path by the rule of paths, and a value, or a link where links are kept
abbrev pub IsSoundAct : (links : Bool) → Act → Type 0
IsSoundAct links (Make p) = IsPath p
IsSoundAct links (Write p v) = IsPath p × IsHeld links v
IsSoundAct links (Skip items) = Unit {0}

-- All steps.

abbrev pub or_refused : (line : ℕ) → Option OdbRefusal → Result Rows (ℕ × OdbRefusal) → Result Rows (ℕ × OdbRefusal)
or_refused line None rest = rest
or_refused line (Some why) rest = Err (line, why)

-- the rows after these steps, or the line of the first that is refused, and why
abbrev pub run_steps : List TextStep → Rows → Result Rows (ℕ × OdbRefusal)
run_steps [] s = Ok s
run_steps (step ∷ steps) s = or_refused step.line (act_fault s step.act) (run_steps steps (after_act s step.act))

-- the changes that these steps make, none of which is refused
abbrev pub changes_in_steps : Rows → List TextStep → List Change
changes_in_steps s [] = []
changes_in_steps s (step ∷ steps) = changes_of_act s step.act ++ changes_in_steps (after_act s step.act) steps

-- how many keys are written, and how many are skipped
abbrev pub written : Act → ℕ
written (Make p) = 0
written (Write p v) = 1
written (Skip items) = 0

abbrev pub skipped : Act → ℕ
skipped (Make p) = 0
skipped (Write p v) = 0
skipped (Skip items) = 1

abbrev pub keys_written : List TextStep → ℕ
keys_written steps = sum_by (λ (step : TextStep). written step.act) steps

abbrev pub keys_skipped : List TextStep → ℕ
keys_skipped steps = sum_by (λ (step : TextStep). skipped step.act) steps

-- the directory of the keys that follow
abbrev pub dir_after : List (List ℕ) → Act → List (List ℕ)
dir_after dir (Make p) = p
dir_after dir (Write p v) = dir
dir_after dir (Skip items) = dir

abbrev pub dirs_after : List (List ℕ) → List TextStep → List (List ℕ)
dirs_after dir [] = dir
dirs_after dir (step ∷ steps) = dirs_after (dir_after dir step.act) steps
