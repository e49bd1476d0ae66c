-- The words of the command line.
use Rattle.std.specs.Prelude.{◌≡◌, ◌≤◌, ◌<◌, ℕ, ◌==◌, Bool, true, false, ◌&&◌, nat_lt, List, [], ◌∷◌, length, slice_index, All, codes, Option, Some, None}
use Rattle.std.specs.Str.Parse.{IsNumeral, digits_value}
use Rattle.daq_types.specs.Names.{IsFileName}
use Rattle.command_words.specs.declared.forms.Tool.{Tool}
use Rattle.command_words.specs.declared.forms.Tool.TheVariants.{Check, Dump, Analyze}
use Rattle.command_words.specs.declared.forms.Form.{Form}
use Rattle.command_words.specs.declared.forms.Form.TheVariants.{Run, OnFiles, Generate}

-- the words of a session: `run`, and behind it `--cooperative` where the session is to be so
abbrev pub run_words : Bool → List (List ℕ)
run_words false = codes "run" ∷ []
run_words true = codes "run" ∷ codes "--cooperative" ∷ []

-- the words are those of a session
abbrev pub IsRunWords : List (List ℕ) → Type 0
IsRunWords words = (cooperative : Bool) × (words ≡ run_words cooperative)

-- the word of a tool
abbrev pub tool_word : Tool → List ℕ
tool_word Check = codes "check"
tool_word Dump = codes "dump"
tool_word Analyze = codes "analyze"

-- a word that begins with `-` and is longer
abbrev pub is_flag : List ℕ → Bool
is_flag word = nat_lt 1 (length word) && (slice_index word 0 == 45)

-- a word that names a file: the name of a file that is no flag
pub record IsFileWord (word : List ℕ) : Type 0 where
  pub is_name : IsFileName word
  pub no_flag : is_flag word ≡ false

-- how many files a tool reads at most
abbrev pub most_files : Tool → ℕ
most_files Check = 10000
most_files Dump = 1
most_files Analyze = 10000

-- the words are a tool's and these names of files, one or more
pub record IsOnFiles (tool : Tool) (names : List (List ℕ)) (words : List (List ℕ)) : Type 0 where
  pub words_are : words ≡ tool_word tool ∷ names
  pub some : 0 < length names
  pub few : length names ≤ most_files tool
  pub files : All IsFileWord names

-- the words are a tool's and names of files
abbrev pub IsToolCall : Tool → List (List ℕ) → Type 0
IsToolCall tool words = (names : List (List ℕ)) × IsOnFiles tool names words

-- a word that writes a number of 32 bits: decimal digits, one or more, with any zeros in front
pub record IsNumberWord (number : ℕ) (word : List ℕ) : Type 0 where
  pub digits : IsNumeral 10 word
  pub value : number ≡ digits_value 10 word
  pub fits : number ≤ 4294967295

-- the words are `gen` and a number
abbrev pub IsGenerate : ℕ → List (List ℕ) → Type 0
IsGenerate number words =
    (word : List ℕ) × (words ≡ codes "gen" ∷ word ∷ []) × IsNumberWord number word

-- the words have this form
abbrev pub IsForm : Form → List (List ℕ) → Type 0
IsForm (Run cooperative) words = words ≡ run_words cooperative
IsForm (OnFiles tool) words = IsToolCall tool words
IsForm (Generate number) words = IsGenerate number words

-- the words have a form
abbrev pub HasForm : List (List ℕ) → Type 0
HasForm words = (form : Form) × IsForm form words

-- the form that the words have, if any
abbrev pub FormIs : List (List ℕ) → Option Form → Type 0
FormIs words None = ¬ HasForm words
FormIs words (Some form) = IsForm form words
