-- The console text of the database's commands.
use Rattle.std.specs.Prelude.{ℕ, Bool, true, false, List, [], ◌∷◌, ◌++◌, codes}
use Rattle.std.specs.List.{flat_map}
use Rattle.std.specs.Fmt.{decimal}
use Rattle.daq_types.specs.Tids.{tid_name}
use Rattle.odb_value.specs.declared.path_refusals.PathRefusal.{PathRefusal}
use Rattle.odb_value.specs.declared.path_refusals.PathRefusal.TheVariants as path
use Rattle.odb_value.specs.declared.refusals.ItemRefusal.{ItemRefusal}
use Rattle.odb_value.specs.declared.refusals.ItemRefusal.TheVariants as item
use Rattle.odb_value.specs.ItemTexts.{item_text}
use Rattle.odb_value.specs.KeyTexts.{key_text}
use Rattle.odb_tree.specs.declared.children.Child.{Child}
use Rattle.odb_tree.specs.declared.refusals.OdbRefusal.{OdbRefusal}
use Rattle.odb_tree.specs.declared.refusals.OdbRefusal.TheVariants as odb
use Rattle.odb_tree.specs.declared.refusals.What.{What}
use Rattle.odb_tree.specs.declared.refusals.What.TheVariants as limit
use Rattle.odb_tree.specs.Calls.{last_name}
use Rattle.odb_commands.specs.declared.replies.CommandRefusal.{CommandRefusal}
use Rattle.odb_commands.specs.declared.replies.CommandRefusal.TheVariants.{Path, Protected, Item as BadItem, Database}
use Rattle.odb_commands.specs.declared.replies.CommandReply.{CommandReply}
use Rattle.odb_commands.specs.declared.replies.CommandReply.TheVariants.{Done, Key, One, Listed, Refused}

-- The lines of a directory's list.

-- a slash stands behind the name of a directory
abbrev pub slash_if : Bool → List ℕ
slash_if true = codes "/"
slash_if false = []

abbrev pub child_line : Child → List ℕ
child_line child = child.name ++ (slash_if child.is_dir ++ 10 ∷ [])

abbrev pub child_lines : List Child → List ℕ
child_lines children = flat_map child_line children

-- Refusals: the name, and the fields in the order of their declaration, each behind a blank.

abbrev pub path_refusal_text : PathRefusal → List ℕ
path_refusal_text path.EmptyName = codes "EmptyName"
path_refusal_text path.LongName = codes "LongName"
path_refusal_text (path.BadByte at) = codes "BadByte " ++ decimal at
path_refusal_text path.TooDeep = codes "TooDeep"
path_refusal_text path.NoMemory = codes "NoMemory"

abbrev pub item_refusal_text : ItemRefusal → List ℕ
item_refusal_text (item.BadText at) = codes "BadText " ++ decimal at
item_refusal_text item.OutOfRange = codes "OutOfRange"
item_refusal_text (item.NotKept tid) = codes "NotKept " ++ tid_name tid
item_refusal_text item.NoMemory = codes "NoMemory"

abbrev pub limit_name : What → List ℕ
limit_name limit.Keys = codes "Keys"
limit_name limit.Items = codes "Items"
limit_name limit.Size = codes "Size"
limit_name limit.Total = codes "Total"
limit_name limit.Rows = codes "Rows"

abbrev pub odb_text : OdbRefusal → List ℕ
odb_text odb.NoKey = codes "NoKey"
odb_text odb.Exists = codes "Exists"
odb_text odb.NotDir = codes "NotDir"
odb_text odb.NotValue = codes "NotValue"
odb_text (odb.TypeMismatch have) = codes "TypeMismatch " ++ tid_name have
odb_text (odb.BadIndex len) = codes "BadIndex " ++ decimal len
odb_text (odb.Limit what) = codes "Limit " ++ limit_name what
odb_text (odb.NotKept tid) = codes "NotKept " ++ tid_name tid
odb_text (odb.BadLink steps) = codes "BadLink " ++ decimal steps
odb_text odb.NoMemory = codes "NoMemory"

-- a refusal within another stands in its place
abbrev pub refusal_text : CommandRefusal → List ℕ
refusal_text (Path why) = path_refusal_text why
refusal_text Protected = codes "Protected"
refusal_text (BadItem why) = item_refusal_text why
refusal_text (Database why) = odb_text why

-- the line of a refusal: the script line's number, and the refusal's name and fields
abbrev pub refused_line : (line : ℕ) → List ℕ → List ℕ
refused_line line refusal = codes "refused " ++ (decimal line ++ (codes ": " ++ (refusal ++ 10 ∷ [])))

-- what a command in the script line of this number prints
abbrev pub reply_text : (line : ℕ) → CommandReply → List ℕ
reply_text line Done = []
reply_text line (Key p value) = key_text (last_name p) value
reply_text line (One item) = item_text item ++ 10 ∷ []
reply_text line (Listed children) = child_lines children
reply_text line (Refused why) = refused_line line (refusal_text why)

abbrev pub is_refusal : CommandReply → Bool
is_refusal Done = false
is_refusal (Key p value) = false
is_refusal (One item) = false
is_refusal (Listed children) = false
is_refusal (Refused why) = true
