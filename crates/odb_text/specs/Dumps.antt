-- The text of a database.
use Rattle.std.specs.Prelude.{ℕ, zero, suc, List, [], ◌∷◌, ◌++◌, Option, Some, None, codes}
use Rattle.std.specs.List.{flat_map}
use Rattle.odb_value.specs.Paths.{depth_limit}
use Rattle.odb_value.specs.PathText.{path_text}
use Rattle.odb_value.specs.Values.{HeldValue}
use Rattle.odb_value.specs.KeyTexts.{key_text}
use Rattle.odb_tree.specs.declared.rows.Row.{Row}
use Rattle.odb_tree.specs.Rows.{Rows, keys_in, dirs_in}
use Rattle.odb_tree.specs.Calls.{last_name}

-- the line of a directory
abbrev pub dir_line : List (List ℕ) → List ℕ
dir_line p = codes "[" ++ (path_text p ++ codes "]\n")

-- the lines of a key of this name; a directory has no value and none of these lines
abbrev pub value_text : (name : List ℕ) → Option HeldValue → List ℕ
value_text name None = []
value_text name (Some v) = key_text name v

abbrev pub row_text : Row → List ℕ
row_text r = value_text (last_name r.path) r.value

abbrev pub keys_text : List Row → List ℕ
keys_text keys = flat_map row_text keys

-- a directory: its line, the lines of its keys, and an empty line
abbrev pub section_text : List Row → List (List ℕ) → List ℕ
section_text rows p = dir_line p ++ (keys_text (keys_in rows p) ++ codes "\n")

-- the root stands in the text only where it has keys
abbrev pub section_with : List Row → (keys : List Row) → List ℕ
section_with rows [] = []
section_with rows (r ∷ rs) = section_text rows []

abbrev pub root_text : List Row → List ℕ
root_text rows = section_with rows (keys_in rows [])

-- the directories in a directory, each with what is below it, down to so many levels
unfoldable pub dirs_text : (depth : ℕ) → List Row → List (List ℕ) → List ℕ
dirs_text zero rows p = []
dirs_text (suc depth) rows p = flat_map (λ (d : Row). section_text rows d.path ++ dirs_text depth rows d.path) (dirs_in rows p)

-- the whole database; a path has at most 32 names
abbrev pub dump_text : Rows → List ℕ
dump_text s = root_text s.rows ++ dirs_text depth_limit s.rows []

-- the most bytes of a dump
abbrev pub dump_limit : ℕ
dump_limit = 268435456
