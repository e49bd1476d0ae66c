-- The words of a command line, as an iterator gives them.
use Rattle.std.specs.Prelude.{◌≡◌, ℕ, List, map, Option}
use Rattle.std.specs.Iterator.{Drains}

-- The words are the texts of all that an iterator gives behind its first, which is the program's name.
pub record IsBehindName {S T : Type 0} (steps : S → Option T → S → Type 0) (text : T → List ℕ) (given : S) (words : List (List ℕ)) : Type 0 where
  pub name : Option T
  pub behind : S
  pub rest : List T
  pub first_is : steps given name behind
  pub rest_is : Drains steps behind rest
  pub words_are : words ≡ map text rest
