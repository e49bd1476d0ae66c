-- What the command takes are the forms, and what it finds tells which.
use Rattle.std.proofs.Common.{◌≡◌, ◌∙◌, ◌⊎◌, ◌&&◌, ◌==◌, ◌<◌, ◌≤◌, ℕ, Bool, true, false, refl, sym, ap, subst, inl, inr, arith, List, [], ◌∷◌, length, Option, Some, None, is_some, codes, lt-ltb}
use Rattle.std.specs.Prelude.{find, fold, nat_lt, option_map}
use Rattle.std.specs.Str.{bytes_eq}
use Rattle.std.specs.Str.Parse.{IsNumeral}
use Rattle.std.specs.Char.{digit_value}
use Rattle.std.proofs.lemmas.Bool.{eqb-true}
use Rattle.std.proofs.lemmas.Slice.Eq.{bytes_eq-Decides}
use Rattle.clap.specs.Lexer.{long_of, short_of}
use Rattle.clap.specs.declared.parser.matches.ArgMatches.{ArgMatches}
use Rattle.clap.specs.Words.{Row, Text, first_of, one_of, subcommand_of, subcommand_rows_of}
use Rattle.clap.specs.Simple.{Shape, built, entered, label_of, names_of}
use Rattle.clap.specs.Walk.{Names, Walk, answers_to, nothing_held, rows_after, stop_after, walk_from, walked}
use Rattle.clap.specs.Faults.{entered_fault, fault_of, level_fault}
use Rattle.clap.proofs.OnLiterals.{clap_on_literals}
use Rattle.clap.specs.declared.parser.matches.Found.{Found}
use Rattle.clap.specs.Words.{first_value, one_text, rows_of}
use Rattle.clap.proofs.WalkLemmas.{first_value-rows, one_text-rows, walk_stopped}
use Rattle.command_words.specs.declared.forms.Tool.{Tool}
use Rattle.command_words.specs.declared.forms.Tool.TheVariants.{Check, Dump, Analyze}
use Rattle.command_words.specs.declared.forms.Form.{Form}
use Rattle.command_words.specs.declared.forms.Form.TheVariants.{Run, OnFiles, Generate}
use Rattle.command_words.specs.CommandLine.{FormIs, HasForm, IsFileWord, IsOnFiles, is_flag, run_words, tool_word}
use Rattle.command_words.specs.Reader.{flag_text, has_separator, midas_app}
use Rattle.command_words.proofs.Levels.{or_false, some_or, run_built, run_taken, word_built, word_taken}
use Rattle.command_words.proofs.Stray.{level_clean, stray_is_fault, walk_clean}

abbrev top : Shape
top = (built midas_app).top

abbrev names : Names
names = names_of (built midas_app)

-- ---- behind the name of a subcommand

abbrev Stops : Text → Type 0
Stops name = ◌≡◌ {A = Walk} (walked top.rules names (walk_from nothing_held) name) (record (walk_from nothing_held) { stopped = Some (name, []) })

abbrev Finds : Text → Shape → Type 0
Finds name s = find (λ (t : Shape). answers_to name (label_of t)) (built midas_app).subs ≡ Some s

stops_with : (name : Text) (rest : List Text) → Stops name → stop_after top.rules names (name ∷ rest) ≡ Some (name, rest)
stops_with name rest stops =
    ap (λ (w : Walk). (fold (walked top.rules names) w rest).stopped) stops
    ∙ sym (ap (λ (w : Walk). w.stopped) (walk_stopped top.rules names (walk_from nothing_held) name [] rest))

below_clean : (name : Text) (s : Shape) (rest : List Text) → Stops name → Finds name s → fault_of midas_app (name ∷ rest) ≡ []
    → level_fault s [] nothing_held rest false [] ≡ []
below_clean name s rest stops finds none =
    let stop = stop_after top.rules names (name ∷ rest) in
    let below = (level_clean top names nothing_held (name ∷ rest) (is_some (entered (built midas_app) stop)) (entered_fault (built midas_app) stop) none).1 in
    let entering = subst (λ (o : Option (Text × List Text)). entered_fault (built midas_app) o ≡ []) (stops_with name rest stops) below in
    rw finds at entering

entered_is : (name : Text) (s : Shape) (rest : List Text) → Stops name → Finds name s → subcommand_of midas_app (name ∷ rest) ≡ Some (s.name, rows_after s.rules [] rest)
entered_is name s rest stops finds = ap (λ (o : Option (Text × List Text)). entered (built midas_app) o) (stops_with name rest stops) ∙ rw finds refl

stops_run : Stops (codes "run")
unfolding clap_on_literals
stops_run = refl

stops_gen : Stops (codes "gen")
unfolding clap_on_literals
stops_gen = refl

stops_tool : (tool : Tool) → Stops (tool_word tool)
unfolding clap_on_literals
stops_tool Check = refl
stops_tool Dump = refl
stops_tool Analyze = refl

finds_tool : (tool : Tool) → Finds (tool_word tool) (word_built (tool_word tool) (codes "FILE"))
finds_tool Check = refl
finds_tool Dump = refl
finds_tool Analyze = refl

-- ---- the first word

abbrev Known : Text → Type 0
Known word = (word ≡ codes "run") ⊎ (((tool : Tool) × (word ≡ tool_word tool)) ⊎ ((word ≡ codes "gen") ⊎ (find (answers_to word) names ≡ None)))

known : (word : Text) → Known word
known word = run (bytes_eq (codes "run") word) refl
  where
    run : (b : Bool) → bytes_eq (codes "run") word ≡ b → Known word
    run true e = inl (sym ((bytes_eq-Decides (codes "run") word).0 e))
    run false no_run = check (bytes_eq (codes "check") word) refl
      where
        check : (b : Bool) → bytes_eq (codes "check") word ≡ b → Known word
        check true e = inr (inl (Check, sym ((bytes_eq-Decides (codes "check") word).0 e)))
        check false no_check = dump (bytes_eq (codes "dump") word) refl
          where
            dump : (b : Bool) → bytes_eq (codes "dump") word ≡ b → Known word
            dump true e = inr (inl (Dump, sym ((bytes_eq-Decides (codes "dump") word).0 e)))
            dump false no_dump = analyze (bytes_eq (codes "analyze") word) (bytes_eq (codes "gen") word) refl refl
              where
                analyze : (a g : Bool) → bytes_eq (codes "analyze") word ≡ a → bytes_eq (codes "gen") word ≡ g → Known word
                analyze true g e f = inr (inl (Analyze, sym ((bytes_eq-Decides (codes "analyze") word).0 e)))
                analyze false true e f = inr (inr (inl (sym ((bytes_eq-Decides (codes "gen") word).0 f))))
                analyze false false e f = inr (inr (inr (rw (no_run, no_check, no_dump, e, f) refl)))

-- ---- the form that the matches tell

-- what is read off the matches
pub record Tells (m : ArgMatches) (form : Option Form) : Type 0 where
  pub none : subcommand_rows_of m ≡ None → form ≡ None
  pub run : (cooperative : Bool) (rows : List Row) → subcommand_rows_of m ≡ Some (codes "run", rows)
      → one_of (codes "cooperative") rows ≡ Some (flag_text cooperative) → form ≡ Some (Run cooperative)
  pub file : (tool : Tool) (word : Text) (rows : List Row) → subcommand_rows_of m ≡ Some (tool_word tool, rows)
      → first_of (codes "FILE") rows ≡ Some word → FormIs (tool_word tool ∷ word ∷ []) form
  pub number : (word : Text) (rows : List Row) → subcommand_rows_of m ≡ Some (codes "gen", rows)
      → first_of (codes "N") rows ≡ Some word → FormIs (codes "gen" ∷ word ∷ []) form

no_words : HasForm [] → ⊥
no_words (Run true, is) = absurd (cc)
no_words (Run false, is) = absurd (cc)
no_words (OnFiles tool, is) = let words = is.1.words_are in absurd (cc)
no_words (Generate number, is) = let words = is.1 in absurd (cc)

abbrev Fits : ArgMatches → Option Form → List Text → Type 0
Fits m form words = has_separator words ≡ false → fault_of midas_app words ≡ [] → subcommand_rows_of m ≡ subcommand_of midas_app words → FormIs words form

run_fits : (m : ArgMatches) (form : Option Form) → Tells m form → (rest : List Text) → Fits m form (codes "run" ∷ rest)
run_fits m form tells rest apart none found =
    let taken = run_taken rest apart (below_clean (codes "run") run_built rest stops_run refl none) in
    let rows = rows_after run_built.rules [] rest in
    let form_is = tells.run taken.0 rows (found ∙ entered_is (codes "run") run_built rest stops_run refl) taken.2 in
    subst (FormIs (codes "run" ∷ rest)) (sym form_is) taken.1

tool_fits : (m : ArgMatches) (form : Option Form) → Tells m form → (tool : Tool) (rest : List Text) → has_separator rest ≡ false → Fits m form (tool_word tool ∷ rest)
tool_fits m form tells tool rest rest_apart apart none found =
    let leaf = word_built (tool_word tool) (codes "FILE") in
    let taken = word_taken (tool_word tool) (codes "FILE") rest rest_apart (below_clean (tool_word tool) leaf rest (stops_tool tool) (finds_tool tool) none) in
    let fits = tells.file tool taken.0 (rows_after leaf.rules [] rest) (found ∙ entered_is (tool_word tool) leaf rest (stops_tool tool) (finds_tool tool)) taken.2 in
    subst (λ (xs : List Text). FormIs (tool_word tool ∷ xs) form) (sym taken.1) fits

gen_fits : (m : ArgMatches) (form : Option Form) → Tells m form → (rest : List Text) → Fits m form (codes "gen" ∷ rest)
gen_fits m form tells rest apart none found =
    let leaf = word_built (codes "gen") (codes "N") in
    let taken = word_taken (codes "gen") (codes "N") rest apart (below_clean (codes "gen") leaf rest stops_gen refl none) in
    let fits = tells.number taken.0 (rows_after leaf.rules [] rest) (found ∙ entered_is (codes "gen") leaf rest stops_gen refl) taken.2 in
    subst (λ (xs : List Text). FormIs (codes "gen" ∷ xs) form) (sym taken.1) fits

pub form_fits : (m : ArgMatches) (form : Option Form) → Tells m form → (words : List Text) → Fits m form words
unfolding clap_on_literals
form_fits m form tells [] apart none found =
    subst (FormIs []) (sym (tells.none found)) no_words
form_fits m form tells (word ∷ rest) apart none found = go (known word)
  where
    behind : has_separator rest ≡ false
    behind = (or_false (bytes_eq word (codes "--")) (has_separator rest) apart).1

    go : Known word → FormIs (word ∷ rest) form
    go (inl is) = subst (λ (w : Text). Fits m form (w ∷ rest)) (sym is) (run_fits m form tells rest) apart none found
    go (inr (inl is)) = subst (λ (w : Text). Fits m form (w ∷ rest)) (sym is.1) (tool_fits m form tells is.0 rest behind) apart none found
    go (inr (inr (inl is))) = subst (λ (w : Text). Fits m form (w ∷ rest)) (sym is) (gen_fits m form tells rest) apart none found
    go (inr (inr (inr unnamed))) =
        let stop = stop_after top.rules names (word ∷ rest) in
        let clean = (level_clean top names nothing_held (word ∷ rest) (is_some (entered (built midas_app) stop)) (entered_fault (built midas_app) stop) none).0 in
        let turn = (walk_clean top names (walk_from nothing_held) word rest clean).0 in
        absurd (stray_is_fault top names word [] None 1 unnamed (or_false (bytes_eq word (codes "--")) (has_separator rest) apart).0 (λ p e. refl) (λ x. refl) refl turn)

-- ---- each form is taken

record IsPlainWord (word : Text) : Type 0 where
  pub long : long_of word ≡ None
  pub short : short_of word ≡ None
  pub apart : bytes_eq word (codes "--") ≡ false

plain_word : (word : Text) → is_flag word ≡ false → IsPlainWord word
plain_word [] no_flag = record { long = refl; short = refl; apart = refl }
plain_word (a ∷ []) no_flag = go (a == 45) refl
  where
    go : (b : Bool) → (a == 45) ≡ b → IsPlainWord (a ∷ [])
    go true e = record { long = rw e refl; short = rw e refl; apart = rw e refl }
    go false e = record { long = rw e refl; short = rw e refl; apart = rw e refl }
plain_word (a ∷ b ∷ rest) no_flag =
    let long : nat_lt 1 (length (a ∷ b ∷ rest)) ≡ true = lt-ltb 1 (length (a ∷ b ∷ rest)) (omega arith) in
    let e : (a == 45) ≡ false = rw long at no_flag in
    record { long = rw e refl; short = rw e refl; apart = rw e refl }

and_false : (a : Bool) → (a && false) ≡ false
and_false true = refl
and_false false = refl

digits_no_flag : (word : Text) → IsNumeral 10 word → is_flag word ≡ false
digits_no_flag [] digits = refl
digits_no_flag (d ∷ ds) digits = go (d == 45) refl
  where
    go : (b : Bool) → (d == 45) ≡ b → is_flag (d ∷ ds) ≡ false
    go true e =
        let low : 36 < 10 = subst (λ (x : ℕ). digit_value x < 10) (eqb-true d 45 e) digits.1.0 in
        absurd (omega arith)
    go false e = rw e (and_false (nat_lt 1 (length (d ∷ ds))))

-- of two words at most the second is the one file
one_name : (tool : Tool) (names words : List Text) → length words ≤ 2 → IsOnFiles tool names words → (name : Text) × (words ≡ tool_word tool ∷ name ∷ []) × IsFileWord name
one_name tool [] words few is = absurd (omega (arith, is.some))
one_name tool (name ∷ []) words few is = (name, is.words_are, is.files 0 [] (omega arith))
one_name tool (name ∷ more ∷ rest) words few is = absurd (omega (arith, few, ap (length {A = Text}) is.words_are))

tool_clean : (tool : Tool) (word : Text) → IsPlainWord word → fault_of midas_app (tool_word tool ∷ word ∷ []) ≡ []
unfolding clap_on_literals
tool_clean Check word plain = simp (plain.long, plain.short, plain.apart)
tool_clean Dump word plain = simp (plain.long, plain.short, plain.apart)
tool_clean Analyze word plain = simp (plain.long, plain.short, plain.apart)

gen_clean : (word : Text) → IsPlainWord word → fault_of midas_app (codes "gen" ∷ word ∷ []) ≡ []
unfolding clap_on_literals
gen_clean word plain = simp (plain.long, plain.short, plain.apart)

run_clean : (cooperative : Bool) → fault_of midas_app (run_words cooperative) ≡ []
unfolding clap_on_literals
run_clean true = refl
run_clean false = refl

-- a form of two words at most is taken
pub form_clean : (words : List Text) → length words ≤ 2 → HasForm words → fault_of midas_app words ≡ []
form_clean words few (Run cooperative, is) = subst (λ (ws : List Text). fault_of midas_app ws ≡ []) (sym is) (run_clean cooperative)
form_clean words few (OnFiles tool, is) =
    let one = one_name tool is.0 words few is.1 in
    subst (λ (ws : List Text). fault_of midas_app ws ≡ []) (sym one.1) (tool_clean tool one.0 (plain_word one.0 one.2.no_flag))
form_clean words few (Generate number, is) = subst (λ (ws : List Text). fault_of midas_app ws ≡ []) (sym is.1) (gen_clean is.0 (plain_word is.0 (digits_no_flag is.0 is.2.digits)))

-- ---- what no form has

tool_apart : (tool : Tool) (word : Text) → bytes_eq word (codes "--") ≡ false → has_separator (tool_word tool ∷ word ∷ []) ≡ false
tool_apart Check word apart = rw apart refl
tool_apart Dump word apart = rw apart refl
tool_apart Analyze word apart = rw apart refl

run_apart : (cooperative : Bool) → has_separator (run_words cooperative) ≡ false
run_apart true = refl
run_apart false = refl

pub form_apart : (words : List Text) → length words ≤ 2 → HasForm words → has_separator words ≡ false
form_apart words few (Run cooperative, is) = subst (λ (ws : List Text). has_separator ws ≡ false) (sym is) (run_apart cooperative)
form_apart words few (OnFiles tool, is) =
    let one = one_name tool is.0 words few is.1 in
    subst (λ (ws : List Text). has_separator ws ≡ false) (sym one.1) (tool_apart tool one.0 (plain_word one.0 one.2.no_flag).apart)
form_apart words few (Generate number, is) =
    subst (λ (ws : List Text). has_separator ws ≡ false) (sym is.1) (rw (plain_word is.0 (digits_no_flag is.0 is.2.digits)).apart refl)

-- ---- what the matches hold

pub name_found : {B X Y : Type 0} (f : B → X × Y) (o : Option B) (x : X) (y : Y) → option_map f o ≡ Some (x, y) → option_map (λ b. (f b).0) o ≡ Some x
name_found f None x y is = absurd (cc)
name_found f (Some b) x y is = ap (option_map (λ p. p.0)) is

-- the rows of the subcommand's matches
pub rows_found : {Y : Type 0} (mine : Y) (o : Option (Text × Y)) (name : Text) (rows : Y) → Some mine ≡ option_map (λ p. p.1) o → o ≡ Some (name, rows) → mine ≡ rows
rows_found mine o name rows is found = ap (some_or mine) (is ∙ ap (option_map (λ p. p.1)) found)

pub flag_read : (f : Found) (rows : List Row) (cooperative result : Bool) → rows_of f ≡ rows → one_of (codes "cooperative") rows ≡ Some (flag_text cooperative)
    → (one_text f (codes "cooperative") ≡ Some (codes "true") → result ≡ true) → (one_text f (codes "cooperative") ≡ Some (codes "false") → result ≡ false)
    → result ≡ cooperative
flag_read f rows true result are flag on off = on (one_text-rows f (codes "cooperative") ∙ ap (one_of (codes "cooperative")) are ∙ flag)
flag_read f rows false result are flag on off = off (one_text-rows f (codes "cooperative") ∙ ap (one_of (codes "cooperative")) are ∙ flag)

pub text_read : (f : Found) (rows : List Row) (id word : Text) (given : Option Text) → rows_of f ≡ rows → first_of id rows ≡ Some word → given ≡ first_value f id → given ≡ Some word
text_read f rows id word given are first is = is ∙ first_value-rows f id ∙ ap (first_of id) are ∙ first
