-- What a reader of lines has given, line by line, is the lines of the text.
use Rattle.std.specs.Prelude.{◌≡◌, ℕ, ◌≤◌, List, [], ◌++◌, length, Option, Some}
use Rattle.daq_io.specs.Told.{SourceTold}
use Rattle.odb_script.specs.Lines.{SourceGives, Reading, behind_lines, whole_lines, script_limit}

-- a text of whole lines alone
abbrev pub AreWholeLines : List ℕ → Type 0
AreWholeLines text = behind_lines [] text ≡ []

-- These lines were read, one at a time, from the bytes that a source gave.
pub record HasReadLines (first now : SourceTold) (reading : Reading) (given : List (List ℕ)) : Type 0 where
  pub done : List ℕ
  pub gives : SourceGives first now (done ++ reading.pending)
  pub whole : AreWholeLines done
  pub lines : given ≡ whole_lines done
  pub taken : reading.taken ≡ length done
  pub within : length done ≤ script_limit

-- The text is what was given before that and what is left, and these are the lines that have an end in what was given.
pub record AreGivenLines (text : List ℕ) (left : Option (List ℕ)) (lines : List (List ℕ)) : Type 0 where
  pub given : List ℕ
  pub rest : List ℕ
  pub left_is : left ≡ Some rest
  pub text_is : text ≡ given ++ rest
  pub lines_are : lines ≡ whole_lines given
  pub within : length given ≤ script_limit
