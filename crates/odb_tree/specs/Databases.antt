-- Well-formed databases, and calls with well-formed arguments.
use Rattle.std.specs.Prelude.{Bool, true, false, All, IfSome}
use Rattle.odb_value.specs.Paths.{IsPath}
use Rattle.odb_value.specs.Items.{IsSound}
use Rattle.odb_value.specs.Values.{HeldValue, IsValue}
use Rattle.odb_tree.specs.declared.rows.Row.{Row}
use Rattle.odb_tree.specs.declared.rows.NewKey.{NewKey}
use Rattle.odb_tree.specs.declared.rows.NewKey.TheVariants.{Link}
use Rattle.odb_tree.specs.declared.entry.DatabaseEntry.{DatabaseEntry}
use Rattle.odb_tree.specs.declared.entry.DatabaseEntry.TheVariants.{Create, Set, SetAll, Get, Find, ListDir, Delete, Resize, PathOf}
use Rattle.odb_tree.specs.Rows.{Rows}
use Rattle.odb_value.specs.LinkValues.{IsValueOrLink}
use Rattle.odb_tree.specs.Limits.{IsWithin}
use Rattle.odb_tree.specs.Trees.{IsTree}

-- what a key holds: a value, or a link where the database keeps links
abbrev pub IsHeld : (links : Bool) → HeldValue → Type 0
IsHeld false v = IsValue v
IsHeld true v = IsValueOrLink v

-- a row has a path by the rule of paths, and a key holds something
pub record IsRow (links : Bool) (r : Row) : Type 0 where
  pub path : IsPath r.path
  pub value : IfSome r.value (IsHeld links)

-- A database: the rows are those of a tree, each is well-formed, and no limit is passed.
pub record IsDatabase (s : Rows) : Type 0 where
  pub tree : IsTree s
  pub rows : All (IsRow s.links) s.rows
  pub within : IsWithin s

-- a new link goes to a path
abbrev pub IsSoundKey : NewKey → Type 0
IsSoundKey (Link target) = IsPath target
IsSoundKey kind = Unit {0}

-- a call with a path, an item and a value as their types have them
abbrev pub IsSoundCall : DatabaseEntry → Type 0
IsSoundCall (Create p kind reply) = IsPath p × IsSoundKey kind
IsSoundCall (Set p index item reply) = IsPath p × IsSound item
IsSoundCall (SetAll p v reply) = IsPath p × IsValueOrLink v
IsSoundCall (Get p reply) = IsPath p
IsSoundCall (Find p reply) = IsPath p
IsSoundCall (ListDir p reply) = IsPath p
IsSoundCall (Delete p reply) = IsPath p
IsSoundCall (Resize p len reply) = IsPath p
IsSoundCall (PathOf row reply) = Unit {0}
