-- What the reader of the words is told of the forms, and what its answers look like.
use Rattle.std.specs.Prelude.{ℕ, Bool, true, false, List, [], codes, Some}
use Rattle.std.specs.List.{list_any}
use Rattle.std.specs.Str.{bytes_eq}
use Rattle.clap.specs.Words.{App, Rule, Shape, new_app, new_rule, with_rule, with_subcommand}
use Rattle.clap.specs.declared.builder.action.ArgAction.TheVariants.{SetTrue}

-- a flag that may stand behind `run`
abbrev pub cooperative_rule : Rule
cooperative_rule = record (new_rule (codes "cooperative")) {
  long = Some (codes "cooperative");
  action = Some SetTrue;
}

-- a word that has to stand there
abbrev pub word_rule : List ℕ → Rule
word_rule id = record (new_rule id) { required = true }

-- `run`, with its flag
abbrev pub run_shape : Shape
run_shape = (with_rule (new_app (codes "run")) cooperative_rule).top

-- a subcommand of this name that takes one word
abbrev pub one_word : (name id : List ℕ) → Shape
one_word name id = (with_rule (new_app name) (word_rule id)).top

-- the program: no help, no version, and no name of its own before the words
abbrev pub bare_app : App
bare_app = record {
  top = record (new_app (codes "midas")).top {
    no_binary_name = true;
    disable_help_flag = true;
    disable_help_subcommand = true;
    disable_version_flag = true;
  };
  subs = [];
}

-- the program with a subcommand for each form
abbrev pub midas_app : App
midas_app = with_subcommand
    (with_subcommand
    (with_subcommand
    (with_subcommand (with_subcommand bare_app run_shape) (one_word (codes "check") (codes "FILE")))
    (one_word (codes "dump") (codes "FILE")))
    (one_word (codes "analyze") (codes "FILE")))
    (one_word (codes "gen") (codes "N"))

-- the text of a flag's value
abbrev pub flag_text : Bool → List ℕ
flag_text true = codes "true"
flag_text false = codes "false"

-- one of the words is `--`
abbrev pub has_separator : List (List ℕ) → Bool
has_separator = list_any (λ word. bytes_eq word (codes "--"))
