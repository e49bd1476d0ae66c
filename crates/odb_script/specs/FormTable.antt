-- The forms of a script's commands as a table. A line is refused at the first word with which none of them goes on.
use Rattle.std.specs.Prelude.{ℕ, Bool, true, false, if◌then◌else◌, List, [], ◌∷◌, Option, Some, None, is_some, Ok, Err, codes}
use Rattle.odb_script.specs.LineWords.{LineWords, word, ended, faulty}
use Rattle.daq_text.specs.Numbers.{whole_number}
use Rattle.odb_script.specs.Numbers.{most_number, most_small}
use Rattle.odb_script.specs.TypeNames.{is_text, type_named}
use Rattle.odb_script.specs.Forms.{Read}
use Rattle.odb_script.specs.declared.commands.Command.{Command}
use Rattle.odb_script.specs.declared.refusals.LineRefusal.TheVariants.{BadCommand}

-- what a word of a form may be: one text alone, any text, a number of at most this or the name of a type
pub data Piece : Type 0 where
  exactly : (text : List ℕ) → Piece
  any_text : Piece
  number_to : (most : ℕ) → Piece
  a_type : Piece

abbrev pub a_number : Piece
a_number = number_to most_number

abbrev pub a_small_number : Piece
a_small_number = number_to most_small

abbrev pub fits : Piece → List ℕ → Bool
fits (exactly name) text = is_text text name
fits any_text text = true
fits (number_to most) text = is_some (whole_number most text)
fits a_type text = is_some (type_named text)

-- a form, word by word
abbrev pub LineForm : Type 0
LineForm = List Piece

-- The table. A form with a word that may be left out, or that may be one of two, has two lines. The first is that of a line of no word.
abbrev pub forms : List LineForm
forms =
    []
    ∷ (exactly (codes "buffer") ∷ any_text ∷ a_number ∷ [])
    ∷ (exactly (codes "equip") ∷ any_text ∷ a_number ∷ a_small_number ∷ any_text ∷ [])
    ∷ (exactly (codes "equip") ∷ any_text ∷ a_number ∷ a_small_number ∷ any_text ∷ a_number ∷ [])
    ∷ (exactly (codes "channel") ∷ a_number ∷ any_text ∷ any_text ∷ a_small_number ∷ a_small_number ∷ [])
    ∷ (exactly (codes "channel") ∷ a_number ∷ any_text ∷ any_text ∷ a_small_number ∷ a_small_number ∷ a_number ∷ [])
    ∷ (exactly (codes "analyzer") ∷ any_text ∷ any_text ∷ a_small_number ∷ a_small_number ∷ exactly (codes "all") ∷ [])
    ∷ (exactly (codes "analyzer") ∷ any_text ∷ any_text ∷ a_small_number ∷ a_small_number ∷ exactly (codes "some") ∷ [])
    ∷ (exactly (codes "events") ∷ a_number ∷ [])
    ∷ (exactly (codes "start") ∷ [])
    ∷ (exactly (codes "stop") ∷ [])
    ∷ (exactly (codes "pause") ∷ [])
    ∷ (exactly (codes "resume") ∷ [])
    ∷ (exactly (codes "create") ∷ exactly (codes "DIR") ∷ any_text ∷ [])
    ∷ (exactly (codes "create") ∷ a_type ∷ any_text ∷ [])
    ∷ (exactly (codes "create") ∷ a_type ∷ any_text ∷ a_number ∷ [])
    ∷ (exactly (codes "link") ∷ any_text ∷ any_text ∷ [])
    ∷ (exactly (codes "set") ∷ any_text ∷ any_text ∷ [])
    ∷ (exactly (codes "set") ∷ any_text ∷ a_number ∷ any_text ∷ [])
    ∷ (exactly (codes "get") ∷ any_text ∷ [])
    ∷ (exactly (codes "get") ∷ any_text ∷ a_number ∷ [])
    ∷ (exactly (codes "ls") ∷ any_text ∷ [])
    ∷ (exactly (codes "rm") ∷ any_text ∷ [])
    ∷ (exactly (codes "load") ∷ any_text ∷ [])
    ∷ (exactly (codes "save") ∷ any_text ∷ [])
    ∷ (exactly (codes "watch") ∷ any_text ∷ [])
    ∷ (exactly (codes "notes") ∷ a_number ∷ [])
    ∷ (exactly (codes "unwatch") ∷ a_number ∷ [])
    ∷ (exactly (codes "exit") ∷ [])
    ∷ []

-- the forms that go on with a word, each without the piece that the word fits
abbrev pub forms_going_on : List ℕ → List LineForm → List LineForm
forms_going_on text [] = []
forms_going_on text ([] ∷ fs) = forms_going_on text fs
forms_going_on text ((piece ∷ pieces) ∷ fs) = if fits piece text then pieces ∷ forms_going_on text fs else forms_going_on text fs

-- there is no form
abbrev pub no_form : List LineForm → Bool
no_form [] = true
no_form (form ∷ fs) = false

-- one of the forms has ended
abbrev pub form_ended : List LineForm → Bool
form_ended [] = false
form_ended ([] ∷ fs) = true
form_ended ((piece ∷ pieces) ∷ fs) = form_ended fs

-- The place of the first word with which none of the forms goes on. It is the place of the line's end where none of
-- them has ended there, and that of what is no word. There is none where the words are those of a form.
abbrev pub first_misfit : List LineForm → LineWords → Option ℕ
first_misfit fs (word at text rest) = if no_form (forms_going_on text fs) then Some at else first_misfit (forms_going_on text fs) rest
first_misfit fs (ended at) = if form_ended fs then None else Some at
first_misfit fs (faulty at) = Some at

-- where a line is refused
abbrev pub place_of : Read Command → Option ℕ
place_of (Ok command) = None
place_of (Err (BadCommand at)) = Some at
