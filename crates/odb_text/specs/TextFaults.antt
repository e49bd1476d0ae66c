-- The first line at fault of a database text.
use Rattle.std.specs.Prelude.{◌≡◌, ℕ, ◌+◌, ◌<◌, ◌≤◌, Bool, true, List, [], ◌∷◌, ◌++◌, length, Some, Ok, ◌⊎◌}
use Rattle.std.specs.List.{AllByRecursion}
use Rattle.daq_types.specs.declared.types.Tid.{Tid}
use Rattle.odb_value.specs.declared.items.Item.{Item}
use Rattle.odb_value.specs.Values.{items_limit, size_limit}
use Rattle.odb_tree.specs.declared.refusals.OdbRefusal.{OdbRefusal}
use Rattle.odb_tree.specs.declared.refusals.OdbRefusal.TheVariants.{Limit}
use Rattle.odb_tree.specs.declared.refusals.What.TheVariants.{Items, Size}
use Rattle.odb_tree.specs.Rows.{Rows}
use Rattle.odb_text.specs.LineForms.{IsPassed, IsDirLine, IsSingle, IsArray}
use Rattle.odb_text.specs.ItemLines.{IsItemLine}
use Rattle.odb_text.specs.declared.acts.Act.{Act}
use Rattle.odb_text.specs.declared.acts.LoadRefusal.{LoadRefusal}
use Rattle.odb_text.specs.declared.acts.LoadRefusal.TheVariants.{BadLine, KeyRefused, NoMemory}
use Rattle.odb_text.specs.TextSteps.{TextStep, run_steps, act_fault, dirs_after}
use Rattle.odb_text.specs.Grammar.{SizedItem, AreItemLines, size_given, IsSingleKey, IsArrayHead, IsLinkKey, IsSkippedHead, BeginsBracketed, SpellsAct, SpellsSteps}

-- Lines that begin something.

-- a line with which no directory and no key begins, and which is not passed over
pub record BeginsNothing (links : Bool) (dir : List (List ℕ)) (line : List ℕ) : Type 0 where
  pub passed : IsPassed line → ⊥
  pub directory : (p : List (List ℕ)) → IsDirLine line p → ⊥
  pub single : (name : List ℕ) (type : Tid) (x : SizedItem) → IsSingleKey dir line name type x → ⊥
  pub array : (name : List ℕ) (type : Tid) (n : ℕ) → IsArrayHead dir line name type n → ⊥
  pub link : links ≡ true → (name : List ℕ) (size : ℕ) (link : List ℕ) → IsLinkKey dir line name size link → ⊥
  pub skipped_single : (rest text : List ℕ) → IsSkippedHead links dir line rest → IsSingle rest text → ⊥
  pub skipped_array : (rest : List ℕ) (n : ℕ) → IsSkippedHead links dir line rest → IsArray rest n → ⊥

-- The first lines of an array: the line of its name, and those of some of its items. It has not too many items.
pub record IsBegunArray (dir : List (List ℕ)) (lines : List (List ℕ)) (type : Tid) (xs : List SizedItem) (n : ℕ) : Type 0 where
  pub head : List ℕ
  pub more : List (List ℕ)
  pub spelled : lines ≡ head ∷ more
  pub name : List ℕ
  pub array : IsArrayHead dir head name type n
  pub items : AreItemLines type 0 more xs
  pub many : n ≤ items_limit

pub record IsBegunSkipped (links : Bool) (dir : List (List ℕ)) (lines : List (List ℕ)) (n : ℕ) : Type 0 where
  pub head : List ℕ
  pub more : List (List ℕ)
  pub spelled : lines ≡ head ∷ more
  pub rest : List ℕ
  pub skipped : IsSkippedHead links dir head rest
  pub array : IsArray rest n
  pub items : AllByRecursion BeginsBracketed more
  pub many : n ≤ items_limit
  pub few : length more < n

-- no line follows, or the next one is not of this form
abbrev pub NextIsNot : (List ℕ → Type 0) → List (List ℕ) → Type 0
NextIsNot form [] = Unit {0}
NextIsNot form (line ∷ more) = form line → ⊥

-- the next line is there, and is of this form
abbrev pub NextIs : (List ℕ → Type 0) → List (List ℕ) → Type 0
NextIs form [] = ⊥
NextIs form (line ∷ more) = form line

-- an item of an array: some item stands in the line
abbrev pub IsSomeItemLine : Tid → (index : ℕ) → List ℕ → Type 0
IsSomeItemLine type index line = (size : ℕ) × (item : Item) × IsItemLine type index line size item

-- The lines begin nothing or an array, and the next line does not go on with it: it begins nothing, or it is not the line
-- of the array's next item, or there is none although items are to come.
abbrev pub LeavesGrammar : (links : Bool) → (dir opened rest : List (List ℕ)) → Type 0
LeavesGrammar links dir opened rest =
    ((line : List ℕ) × (more : List (List ℕ)) × (opened ≡ []) × (rest ≡ line ∷ more) × BeginsNothing links dir line)
    ⊎ ((type : Tid) × (xs : List SizedItem) × (n : ℕ) × IsBegunArray dir opened type xs n × (length xs < n) × (size_given xs ≤ size_limit)
    × NextIsNot (IsSomeItemLine type (length xs)) rest)
    ⊎ ((n : ℕ) × IsBegunSkipped links dir opened n × NextIsNot BeginsBracketed rest)

-- The line of an array says that it has too many items.
abbrev pub HasManyItems : (links : Bool) → (dir opened : List (List ℕ)) → Type 0
HasManyItems links dir opened = (line : List ℕ) × (n : ℕ) × (opened ≡ line ∷ []) × (items_limit < n)
    × (((name : List ℕ) × (type : Tid) × IsArrayHead dir line name type n) ⊎ ((rest : List ℕ) × IsSkippedHead links dir line rest × IsArray rest n))

-- One of the items of an array so far has too great a size.
abbrev pub HasWideItem : (dir opened : List (List ℕ)) → Type 0
HasWideItem dir opened = (type : Tid) × (xs : List SizedItem) × (n : ℕ) × IsBegunArray dir opened type xs n × (length xs ≤ n) × (size_limit < size_given xs)

-- What the lines ask for is refused, or it passes a limit whatever follows.
abbrev pub IsRefused : (links : Bool) → Rows → (dir opened : List (List ℕ)) → OdbRefusal → Type 0
IsRefused links s dir opened why =
    ((act : Act) × SpellsAct links dir opened act × (act_fault s act ≡ Some why))
    ⊎ (HasManyItems links dir opened × (why ≡ Limit Items))
    ⊎ (HasWideItem dir opened × (why ≡ Limit Size))

-- The lines are in the grammar: they are those of a step, or the first ones of an array up to that of some item, before
-- which no item has too great a size.
abbrev pub BeginsStep : (links : Bool) → (dir opened : List (List ℕ)) → Type 0
BeginsStep links dir opened =
    ((act : Act) × SpellsAct links dir opened act)
    ⊎ ((type : Tid) × (xs : List SizedItem) × (x : SizedItem) × (n : ℕ) × IsBegunArray dir opened type (xs ++ x ∷ []) n × (length xs < n) × (size_given xs ≤ size_limit))

-- The first lines ask for steps none of which is refused. Behind them stand some lines with which something begins, and the
-- rest.
pub record FaultPlace (rows : Rows) (lines : List (List ℕ)) : Type 0 where
  pub front : List (List ℕ)
  pub opened : List (List ℕ)
  pub rest : List (List ℕ)
  pub whole : lines ≡ front ++ (opened ++ rest)
  pub steps : List TextStep
  pub reads : SpellsSteps rows.links 1 [] front steps
  pub now : Rows
  pub ran : run_steps steps rows ≡ Ok now

-- The first line at fault, and what is wrong with it. Want of memory excuses no fault of the lines before: it comes at a
-- step, the lines of which are in the grammar as far as they were read.
abbrev pub IsTextFault : Rows → (lines : List (List ℕ)) → LoadRefusal → Type 0
IsTextFault rows lines (BadLine n) =
    (at : FaultPlace rows lines) × (n ≡ length at.front + length at.opened + 1) × LeavesGrammar rows.links (dirs_after [] at.steps) at.opened at.rest
IsTextFault rows lines (KeyRefused n why) =
    (at : FaultPlace rows lines) × (n ≡ length at.front + 1) × IsRefused rows.links at.now (dirs_after [] at.steps) at.opened why
IsTextFault rows lines NoMemory = (at : FaultPlace rows lines) × BeginsStep rows.links (dirs_after [] at.steps) at.opened
