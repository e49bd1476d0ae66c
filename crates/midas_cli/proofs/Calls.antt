-- The words of a tool name one tool and one list of files.
use Rattle.std.proofs.Common.{◌≡◌, ◌∙◌, ◌<◌, ◌≤◌, ◌⊎◌, ℕ, List, [], ◌∷◌, length, drop, get_or, Option, Some, ap, sym, subst, inl, inr, arith}
use Rattle.daq_io.specs.Seen.{Seen}
use Rattle.command_words.specs.CommandLine.{FormIs, IsForm, IsOnFiles, IsToolCall, most_files}
use Rattle.command_words.specs.declared.forms.Tool.{Tool}
use Rattle.command_words.specs.declared.forms.Form.{Form}
use Rattle.command_words.specs.declared.forms.Form.TheVariants.{Run, OnFiles, Generate}
use Rattle.midas_tools.specs.Findings.{CallCounts}
use Rattle.midas_tools.specs.declared.ends.ToolEnd.{ToolEnd}
use Rattle.midas_tools.specs.declared.ends.ToolEnd.TheVariants.{Done, Input, FileFault, SinkFault, NoMemory}
use Rattle.midas_cli.specs.declared.causes.Cause.{Cause}
use Rattle.midas_cli.specs.declared.causes.Cause.TheVariants.{Usage, NoMemory as CauseNoMemory}
use Rattle.midas_cli.specs.Tools.{IsCauseOf, ToolRan}

abbrev tool_or : Tool → Form → Tool
tool_or a (Run cooperative) = a
tool_or a (OnFiles b) = b
tool_or a (Generate number) = a

-- one name, which is the first
pub one_name : (names : List (List ℕ)) (first : List ℕ) → length names ≤ 1 → first ≡ get_or names 0 first → 0 < length names → first ∷ [] ≡ names
one_name [] first few is some = absurd (omega (arith, some))
one_name (name ∷ []) first few is some = ap (λ (n : List ℕ). n ∷ []) is
one_name (name ∷ other ∷ names) first few is some = absurd (omega (arith, few))

module _ (words : List (List ℕ)) (tool : Tool) (call : IsToolCall tool words) (names : List (List ℕ)) (are : names ≡ drop 1 words) where
  names_are : names ≡ call.0
  names_are = are ∙ ap (drop 1) call.1.words_are

  pub some : 0 < length names
  some = subst (λ (ns : List (List ℕ)). 0 < length ns) (sym names_are) call.1.some

  pub few : length names ≤ most_files tool
  few = subst (λ (ns : List (List ℕ)). length ns ≤ most_files tool) (sym names_are) call.1.few

  -- whichever tool and names the words are said to have, they are these
  pub so_called : ((words : List (List ℕ)) (a b : Form) → IsForm a words → IsForm b words → a ≡ b) → (P : Tool → List (List ℕ) → Type 0) → P tool names → (called : Tool) (given : List (List ℕ)) → IsOnFiles called given words → P called given
  so_called one_form P p called given is =
      let same : tool ≡ called = ap (tool_or tool) (one_form words (OnFiles tool) (OnFiles called) call (given, is)) in
      let both : names ≡ given = are ∙ ap (drop 1) is.words_are in
      subst (λ (t : Tool). P t given) same (subst (λ (ns : List (List ℕ)). P tool ns) both p)

-- the words whose form was found to be that of a tool
pub called : {words : List (List ℕ)} (found : Option Form) (inner : Form) (tool : Tool) → found ≡ Some inner → inner ≡ OnFiles tool → FormIs words found → IsToolCall tool words
called {words} found inner tool is tool_is form = subst (FormIs words) (is ∙ ap (λ (f : Form). Some f) tool_is) form

ends_otherwise : (end : ToolEnd) (first : Option (List ℕ)) (cause : Cause) → IsCauseOf end first cause → cause ≡ Usage → ⊥
ends_otherwise Done first cause is usage = absurd (cc (is, usage))
ends_otherwise (Input fault) first cause is usage = absurd (cc (is, usage))
ends_otherwise FileFault first cause is usage = absurd (let other = is.1 in cc (other, usage))
ends_otherwise SinkFault first cause is usage = absurd (cc (is, usage))
ends_otherwise NoMemory first cause is usage = absurd (cc (is, usage))

-- a tool never ends for want of a form
pub never_usage : {Kept : Type 0} {tool : Tool} {seen : Seen} {names : List (List ℕ)} {old new : Option (List ℕ)} {counts : CallCounts} {first : Option (List ℕ)} (cause : Cause)
    → ToolRan tool seen names old new counts first cause ⊎ ((cause ≡ CauseNoMemory) × Kept) → cause ≡ Usage → ⊥
never_usage cause (inl ran) usage = ends_otherwise ran.end _ cause ran.cause_is usage
never_usage cause (inr none) usage = absurd (let other = none.0 in cc (other, usage))
