-- Words of which more than two are there: the first two have a form of their own, and the others are files.
use Rattle.std.proofs.Common.{◌≡◌, ◌∙◌, ◌↔◌, ◌-◌, ◌+◌, ◌<◌, ◌≤◌, ◌==◌, ℕ, zero, suc, Bool, true, false, refl, sym, ap, subst, arith, List, [], ◌∷◌, ◌++◌, length, length-drop, take, drop, All, Option, Some, None, codes, get_or}
use Rattle.std.specs.Prelude.{slice_get}
use Rattle.std.proofs.lemmas.List.{take_all, take_more}
use Rattle.std.proofs.lemmas.Bool.{eqb-true, eqb-false}
use Rattle.std.proofs.lemmas.Option.{get_or_from_slice_get, slice_get_within}
use Rattle.std.proofs.lemmas.List.Elements.{All-nil, All-cons}
use Rattle.std.specs.Str.Parse.{digits_value}
use Rattle.command_words.specs.declared.forms.Tool.{Tool}
use Rattle.command_words.specs.declared.forms.Tool.TheVariants.{Check, Dump, Analyze}
use Rattle.command_words.specs.declared.forms.Form.{Form}
use Rattle.command_words.specs.declared.forms.Form.TheVariants.{Run, OnFiles, Generate}
use Rattle.command_words.specs.CommandLine.{FormIs, HasForm, IsFileWord, IsForm, IsOnFiles, IsToolCall, most_files, run_words, tool_word}

abbrev Word : Type 0
Word = List ℕ

-- ---- words have one form

-- the first byte of the first word
abbrev head : List Word → ℕ
head [] = 0
head ([] ∷ words) = 0
head ((byte ∷ word) ∷ words) = byte

abbrev tool_head : Tool → ℕ
tool_head Check = 99
tool_head Dump = 100
tool_head Analyze = 97

head_tool : (tool : Tool) (names : List Word) → head (tool_word tool ∷ names) ≡ tool_head tool
head_tool Check names = refl
head_tool Dump names = refl
head_tool Analyze names = refl

head_run : (cooperative : Bool) → head (run_words cooperative) ≡ 114
head_run true = refl
head_run false = refl

head_gen : (names : List Word) → head (codes "gen" ∷ names) ≡ 103
head_gen names = refl

same_tool : (a b : Tool) → tool_head a ≡ tool_head b → a ≡ b
same_tool Check Check e = refl
same_tool Check Dump e = absurd (omega (arith, e))
same_tool Check Analyze e = absurd (omega (arith, e))
same_tool Dump Check e = absurd (omega (arith, e))
same_tool Dump Dump e = refl
same_tool Dump Analyze e = absurd (omega (arith, e))
same_tool Analyze Check e = absurd (omega (arith, e))
same_tool Analyze Dump e = absurd (omega (arith, e))
same_tool Analyze Analyze e = refl

low_head : (tool : Tool) → tool_head tool < 103
low_head Check = omega arith
low_head Dump = omega arith
low_head Analyze = omega arith

same_run : (a b : Bool) → run_words a ≡ run_words b → a ≡ b
same_run true true e = refl
same_run true false e = let long : 2 ≡ 1 = ap (length {A = Word}) e in absurd (omega (arith, long))
same_run false true e = let long : 1 ≡ 2 = ap (length {A = Word}) e in absurd (omega (arith, long))
same_run false false e = refl

abbrev second : List Word → Word
second words = get_or words 1 []

pub one_form : (words : List Word) (a b : Form) → IsForm a words → IsForm b words → a ≡ b
one_form words (Run a) (Run b) p q = ap Run (same_run a b (sym p ∙ q))
one_form words (Run a) (OnFiles b) p q = absurd (omega (arith, sym (head_run a) ∙ ap head (sym p ∙ q.1.words_are) ∙ head_tool b q.0, low_head b))
one_form words (Run a) (Generate b) p q = absurd (omega (arith, sym (head_run a) ∙ ap head (sym p ∙ q.1) ∙ head_gen (q.0 ∷ [])))
one_form words (OnFiles a) (Run b) p q = absurd (omega (arith, sym (head_run b) ∙ ap head (sym q ∙ p.1.words_are) ∙ head_tool a p.0, low_head a))
one_form words (OnFiles a) (OnFiles b) p q = ap OnFiles (same_tool a b (sym (head_tool a p.0) ∙ ap head (sym p.1.words_are ∙ q.1.words_are) ∙ head_tool b q.0))
one_form words (OnFiles a) (Generate b) p q = absurd (omega (arith, sym (head_gen (q.0 ∷ [])) ∙ ap head (sym q.1 ∙ p.1.words_are) ∙ head_tool a p.0, low_head a))
one_form words (Generate a) (Run b) p q = absurd (omega (arith, sym (head_run b) ∙ ap head (sym q ∙ p.1) ∙ head_gen (p.0 ∷ [])))
one_form words (Generate a) (OnFiles b) p q = absurd (omega (arith, sym (head_gen (p.0 ∷ [])) ∙ ap head (sym p.1 ∙ q.1.words_are) ∙ head_tool b q.0, low_head b))
one_form words (Generate a) (Generate b) p q =
    let same : p.0 ≡ q.0 = ap second (sym p.1 ∙ q.1) in
    ap Generate (p.2.value ∙ ap (λ (word : Word). digits_value 10 word) same ∙ sym q.2.value)

-- ---- two words and more

pub few_form : (words : List Word) (first : Option Form) → length words ≤ 2 → FormIs (take 2 words) first → FormIs words first
few_form words first few is = subst (λ (ws : List Word). FormIs ws first) (take_all 2 words few) is

first_two : (a b : Word) (rest : List Word) → take 2 (a ∷ b ∷ rest) ≡ a ∷ b ∷ []
first_two a b rest = refl

behind_two : (a b : Word) (rest : List Word) → drop 2 (a ∷ b ∷ rest) ≡ rest
behind_two a b rest = refl

-- what the first two words and those behind them say together
pub files_form : (words : List Word) (tool : Tool) → 2 < length words → IsToolCall tool (take 2 words) → length words - 1 ≤ most_files tool → All IsFileWord (drop 2 words) → IsToolCall tool words
files_form [] tool long is few files = absurd (omega (arith, long))
files_form (a ∷ []) tool long is few files = absurd (omega (arith, long))
files_form (a ∷ b ∷ rest) tool long is few files =
    let two : a ∷ b ∷ [] ≡ tool_word tool ∷ is.0 = sym (first_two a b rest) ∙ is.1.words_are in
    let name : get_or is.0 0 [] ≡ b = ap second (sym two) in (
      b ∷ rest,
      record {
        words_are = ap (λ (word : Word). word ∷ b ∷ rest) (ap (λ (ws : List Word). get_or ws 0 []) two);
        some = omega arith;
        few = omega (arith, few);
        files = All-cons IsFileWord b rest (subst IsFileWord name (is.1.files 0 [] is.1.some)) (subst (All IsFileWord) (behind_two a b rest) files);
      },
    )

-- and what a form of them says of the first two, and of those behind them
pub record OfParts (words : List Word) (first : Option Form) (tool : Tool) : Type 0 where
  pub first_is : first ≡ Some (OnFiles tool)
  pub few : length words - 1 ≤ most_files tool
  pub files : All IsFileWord (drop 2 words)

first_is : (words : List Word) (first : Option Form) (form : Form) → FormIs words first → IsForm form words → first ≡ Some form
first_is words None form none is = absurd (none (form, is))
first_is words (Some found) form has is = ap Some (one_form words found form has is)

later_files : (b : Word) (rest : List Word) → All IsFileWord (b ∷ rest) → All IsFileWord rest
later_files b rest files = λ k d inside. files (suc k) d (omega (arith, inside))

pub parts_of : (words names : List Word) (tool : Tool) (first : Option Form) → 2 < length words → FormIs (take 2 words) first → IsOnFiles tool names words → OfParts words first tool
parts_of words [] tool first long has is = absurd (omega (arith, is.some))
parts_of words (b ∷ rest) tool first long has is =
    let two : take 2 words ≡ tool_word tool ∷ b ∷ [] = ap (take 2) is.words_are ∙ first_two (tool_word tool) b rest in
    record {
      first_is = first_is (take 2 words) first (OnFiles tool) has (
        b ∷ [],
        record {
          words_are = two;
          some = omega arith;
          few = omega (arith, is.few);
          files = All-cons IsFileWord b [] (is.files 0 [] is.some) (All-nil IsFileWord);
        },
      );
      few = omega (arith, is.few, ap (length {A = Word}) is.words_are);
      files = subst (All IsFileWord) (sym (ap (drop 2) is.words_are ∙ behind_two (tool_word tool) b rest)) (later_files b rest is.files);
    }

run_short : (cooperative : Bool) → length (run_words cooperative) ≤ 2
run_short true = omega arith
run_short false = omega arith

-- no other form has more than two words
pub no_form : (words : List Word) (first : Option Form) → 2 < length words → FormIs (take 2 words) first → ((tool : Tool) → OfParts words first tool → ⊥) → HasForm words → ⊥
no_form words first long has never (Run cooperative, is) = omega (arith, long, run_short cooperative, ap (length {A = Word}) is)
no_form words first long has never (OnFiles tool, is) = never tool (parts_of words is.0 tool first long has is.1)
no_form words first long has never (Generate number, is) = omega (arith, long, ap (length {A = Word}) is.1)

-- ---- the files behind the first two words

pub files_all : (words : List Word) → ((k : ℕ) (d : Word) → 2 ≤ k → k < length words → IsFileWord (get_or words k d)) → All IsFileWord (drop 2 words)
files_all [] each = All-nil IsFileWord
files_all (a ∷ []) each = All-nil IsFileWord
files_all (a ∷ b ∷ rest) each = λ k d inside. each (suc (suc k)) d (omega arith) (omega (arith, inside))

file_at : (words : List Word) (at : ℕ) (d : Word) → 2 ≤ at → at < length words → All IsFileWord (drop 2 words) → IsFileWord (get_or words at d)
file_at [] at d low inside files = absurd (omega (arith, inside))
file_at (a ∷ []) at d low inside files = absurd (omega (arith, low, inside))
file_at (a ∷ b ∷ rest) zero d low inside files = absurd (omega (arith, low))
file_at (a ∷ b ∷ rest) (suc zero) d low inside files = absurd (omega (arith, low))
file_at (a ∷ b ∷ rest) (suc (suc at)) d low inside files = files at d (omega (arith, inside))

-- one that names no file
pub no_file : (words : List Word) (at : ℕ) (word : Word) → 2 ≤ at → Some word ≡ slice_get words at → (IsFileWord word → ⊥) → All IsFileWord (drop 2 words) → ⊥
no_file words at word low is none files =
    none (subst IsFileWord (get_or_from_slice_get words at word word (sym is)) (file_at words at word low (slice_get_within words at word (sym is)) files))

-- and one more that does
pub file_more : (words : List Word) (at : ℕ) (word : Word) → ((k : ℕ) (d : Word) → 2 ≤ k → k < at → IsFileWord (get_or words k d)) → Some word ≡ slice_get words at → IsFileWord word
    → (k : ℕ) (d : Word) → 2 ≤ k → k < at + 1 → IsFileWord (get_or words k d)
file_more words at word before is file = λ k d low inside. last k d low (k == at) refl inside
  where
    here : (d : Word) → get_or words at d ≡ word
    here d = get_or_from_slice_get words at word d (sym is)

    last : (k : ℕ) (d : Word) → 2 ≤ k → (b : Bool) → (k == at) ≡ b → k < at + 1 → IsFileWord (get_or words k d)
    last k d low true e inside = let same : k ≡ at = eqb-true k at e in subst IsFileWord (sym (ap (λ (n : ℕ). get_or words n d) same ∙ here d)) file
    last k d low false e inside = let ne : k ≡ at → ⊥ = eqb-false k at e in before k d low (omega (arith, inside, ne))

-- the words of a call are few
most : (tool : Tool) → most_files tool ≤ 10000
most Check = omega arith
most Dump = omega arith
most Analyze = omega arith

pub call_few : (words : List Word) (tool : Tool) → IsToolCall tool words → (1 ≤ length words) × (length words ≤ 10001)
call_few words tool call = (omega (arith, ap (length {A = Word}) call.1.words_are), omega (arith, ap (length {A = Word}) call.1.words_are, call.1.few, most tool))

-- one name more of those behind the first word
pub names_more : (words names : List Word) (at : ℕ) (word : Word) → names ≡ take (at - 1) (drop 1 words) → 1 ≤ at → Some word ≡ slice_get words at → names ++ word ∷ [] ≡ take ((at + 1) - 1) (drop 1 words)
names_more words names zero word are low is = absurd (omega (arith, low))
names_more [] names (suc at) word are low is = absurd (omega (arith, slice_get_within [] (suc at) word (sym is)))
names_more (first ∷ rest) names (suc at) word are low is =
    let here : get_or rest at word ≡ word = get_or_from_slice_get (first ∷ rest) (suc at) word word (sym is) in
    let inside : at < length rest = omega (arith, slice_get_within (first ∷ rest) (suc at) word (sym is)) in
    ap (λ (ns : List Word). ns ++ word ∷ []) (are ∙ ap (λ (n : ℕ). take n rest) {x = suc at - 1} {y = at} (omega arith)) ∙ ap (λ (w : Word). take at rest ++ w ∷ []) (sym here)
    ∙ sym (take_more rest at word inside) ∙ ap (λ (n : ℕ). take n rest) {x = at + 1} {y = (suc at + 1) - 1} (omega arith)

pub names_all : (words names : List Word) (at : ℕ) → names ≡ take (at - 1) (drop 1 words) → length words ≤ at → names ≡ drop 1 words
names_all words names at are all = are ∙ take_all (at - 1) (drop 1 words) (omega (arith, length-drop 1 words, all))

-- the word at a place behind the first is a file's
pub word_of_call : (words : List Word) (tool : Tool) (at : ℕ) (word : Word) → IsToolCall tool words → 1 ≤ at → Some word ≡ slice_get words at → IsFileWord word
word_of_call words tool at word call low is = subst IsFileWord (get_or_from_slice_get words at word word (sym is)) (behind words at word (slice_get_within words at word (sym is)) low call.1)
  where
    behind : (ws : List Word) (k : ℕ) (d : Word) → k < length ws → 1 ≤ k → IsOnFiles tool call.0 ws → IsFileWord (get_or ws k d)
    behind ws zero d inside low is = absurd (omega (arith, low))
    behind ws (suc k) d inside low is =
        subst (λ (vs : List Word). IsFileWord (get_or vs (suc k) d)) (sym is.words_are) (is.files k d (omega (arith, inside, ap (length {A = Word}) is.words_are)))
