-- The lines of a script up to its `exit`.
use Rattle.std.specs.Prelude.{◌≡◌, ℕ, Bool, true, false, if◌then◌else◌, List, [], ◌∷◌, ◌++◌, All, Ok}
use Rattle.odb_script.specs.declared.commands.Command.{Command}
use Rattle.odb_script.specs.declared.commands.Command.TheVariants.{Exit}
use Rattle.odb_script.specs.Forms.{Read, command_of}

-- the command ends the script
abbrev pub is_exit : Read Command → Bool
is_exit (Ok Exit) = true
is_exit _ = false

abbrev pub ends_script : List ℕ → Bool
ends_script line = is_exit (command_of line)

-- the lines up to the first `exit`, or all of them where there is none
abbrev pub until_exit : List (List ℕ) → List (List ℕ)
until_exit [] = []
until_exit (line ∷ lines) = if ends_script line then line ∷ [] else line ∷ until_exit lines

-- none of the lines is an `exit`
abbrev pub GoOn : List (List ℕ) → Type 0
GoOn lines = All (λ line. ends_script line ≡ false) lines

-- The last of the lines is an `exit`, and no other is.
pub record StopAtExit (lines : List (List ℕ)) : Type 0 where
  pub front : List (List ℕ)
  pub go_on : GoOn front
  pub line : List ℕ
  pub ends : ends_script line ≡ true
  pub lines_are : lines ≡ front ++ line ∷ []
