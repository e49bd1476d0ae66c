-- A session opens with the rows of a database.
use Rattle.std.proofs.Common.{◌≡◌, ℕ, zero, suc, ◌+◌, ◌<◌, ◌≤◌, Bool, true, false, cond, List, [], ◌∷◌, length, get_or, Some, None, inl, inr, refl, subst, arith, rules, pos}
use Rattle.std.specs.Prelude.{codes}
use Rattle.std.proofs.lemmas.List.Elements.{All-nil, All-cons, All-from_recursion}
use Rattle.daq_types.specs.Names.{IsName, breaks_name}
use Rattle.odb_value.specs.Paths.{IsPath}
use Rattle.odb_value.specs.PathText.{first_break}
use Rattle.odb_value.specs.declared.items.Item.{Item}
use Rattle.odb_value.specs.Items.{tid_of, IsSound, IsItem}
use Rattle.odb_value.specs.Values.{IsValue, IsSizeOf, IsShorter}
use Rattle.odb_tree.specs.Databases.{IsRow, IsDatabase}
use Rattle.odb_value.specs.declared.items.Item.TheVariants.{Int32, UInt32}
use Rattle.odb_tree.specs.declared.rows.Row.{Row}
use Rattle.odb_tree.specs.WalkLaws.{NoneAt}
use Rattle.odb_tree.specs.Trees.{IsTree, IsPlaced}
use Rattle.odb_tree.proofs.Sound.{held_value}
use Rattle.odb_runinfo.specs.declared.keys.RunKey.{RunKey}
use Rattle.odb_runinfo.specs.declared.keys.RunKey.TheVariants.{State, RunNumber, StartTime, StopTime}
use Rattle.odb_runinfo.specs.RunKeys.{key_name, key_path, key_row, opened_rows}
use Rattle.odb_runinfo.specs.RunNumberKept.{run_directory}

abbrev directory : Row
directory = record { number = 1; path = run_directory; value = None }

in_directory : (back : List Row) (key : RunKey) → IsPlaced (directory ∷ back) (key_path key)
in_directory back key = record {
  parent = run_directory;
  name = key_name key;
  path = refl;
  there = inr (record { front = []; dir = directory; back = back; there = refl; path = refl; kind = refl });
}

tree_opens : (links : Bool) → IsTree (opened_rows links)
unfolding NoneAt
tree_opens links = record {
  placed = (
    record { parent = []; name = name_of run_directory; path = refl; there = inl refl },
    (
      in_directory [] State,
      (
        in_directory (key_row 2 State (Int32 (pos 1)) ∷ []) RunNumber,
        (
          in_directory (key_row 2 State (Int32 (pos 1)) ∷ key_row 3 RunNumber (Int32 (pos 0)) ∷ []) StartTime,
          (
            in_directory (key_row 2 State (Int32 (pos 1)) ∷ key_row 3 RunNumber (Int32 (pos 0)) ∷ key_row 4 StartTime (UInt32 0) ∷ []) StopTime,
            tt,
          ),
        ),
      ),
    ),
  );
  apart = ((refl, (refl, (refl, (refl, tt)))), ((refl, (refl, (refl, tt))), ((refl, (refl, tt)), ((refl, tt), (tt, tt)))));
  numbered = (omega arith, (omega arith, (omega arith, (omega arith, (omega arith, omega arith)))));
}
  where
    name_of : List (List ℕ) → List ℕ
    name_of [] = []
    name_of (name ∷ names) = name

-- each name is one by the rule, as a test of its bytes finds

no_break : (size place : ℕ) (text : List ℕ) → first_break size place text ≡ None → (k at : ℕ) → at ≡ place + k → k < length text → breaks_name size at (get_or text k 0) ≡ false
no_break size place [] h k at is l = absurd (omega (arith, l))
no_break size place (b ∷ bs) h k at is l = cases (breaks_name size place b) refl h k is l (λ none i e less. no_break size (place + 1) bs none i at e less)
  where
    cases : (t : Bool) → breaks_name size place b ≡ t → cond t (Some place) (first_break size (place + 1) bs) ≡ None → (k : ℕ) → at ≡ place + k → k < length (b ∷ bs)
        → (first_break size (place + 1) bs ≡ None → (i : ℕ) → at ≡ place + 1 + i → i < length bs → breaks_name size at (get_or bs i 0) ≡ false)
        → breaks_name size at (get_or (b ∷ bs) k 0) ≡ false
    cases true e none k is l rest = absurd (cc)
    cases false e none zero is l rest = subst (λ (n : ℕ). breaks_name size n b ≡ false) (let same : place ≡ at = omega (arith, is) in same) e
    cases false e none (suc i) is l rest = rest none i (omega (arith, is)) (omega (arith, l))

is_name : (text : List ℕ) → 1 ≤ length text → length text ≤ 31 → first_break (length text) 0 text ≡ None → IsName text
is_name text some short none = record { some = some; short = short; bytes = λ place l. no_break (length text) 0 text none place place (omega arith) l }

directory_name : IsName (codes "Runinfo")
directory_name = is_name (codes "Runinfo") (omega arith) (omega arith) refl

is_key_name : (key : RunKey) → IsName (key_name key)
is_key_name State = is_name (codes "State") (omega arith) (omega arith) refl
is_key_name RunNumber = is_name (codes "Run number") (omega arith) (omega arith) refl
is_key_name StartTime = is_name (codes "Start time binary") (omega arith) (omega arith) refl
is_key_name StopTime = is_name (codes "Stop time binary") (omega arith) (omega arith) refl

path_of : (key : RunKey) → IsPath (key_path key)
path_of key = record {
  short = omega arith;
  names = All-cons IsName (codes "Runinfo") (key_name key ∷ []) directory_name (All-cons IsName (key_name key) [] (is_key_name key) (All-nil IsName));
}

-- the value of a key of one number
is_one : (item : Item) → IsSound item → (size : ℕ) → IsSizeOf (tid_of item) size → IsShorter size item → IsValue (record { tid = tid_of item; size = size; items = item ∷ [] })
is_one item sound size fits short = record {
  some = omega arith;
  many = omega arith;
  of_type = All-cons (IsItem (tid_of item)) item [] (record { tid = refl; sound = sound }) (All-nil (IsItem (tid_of item)));
  size = fits;
  shorter = All-cons (IsShorter size) item [] short (All-nil (IsShorter size));
}

row_of : (links : Bool) (number : ℕ) (key : RunKey) (item : Item) → IsSound item → IsSizeOf (tid_of item) 4 → IsShorter 4 item → IsRow links (key_row number key item)
row_of links number key item sound fits short = record { path = path_of key; value = held_value links _ (is_one item sound 4 fits short) }

pub database_opens : (links : Bool) → IsDatabase (opened_rows links)
database_opens links = record {
  tree = tree_opens links;
  rows = All-from_recursion (IsRow links) (opened_rows links).rows (
    record { path = record { short = omega arith; names = All-cons IsName (codes "Runinfo") [] directory_name (All-nil IsName) }; value = tt },
    (
      row_of links 2 State (Int32 (pos 1)) (search rules) refl tt,
      (row_of links 3 RunNumber (Int32 (pos 0)) (search rules) refl tt, (row_of links 4 StartTime (UInt32 0) (search rules) refl tt, (row_of links 5 StopTime (UInt32 0) (search rules) refl tt, tt))),
    ),
  );
  within = record { rows = omega arith; total = omega arith; next = omega arith };
}
