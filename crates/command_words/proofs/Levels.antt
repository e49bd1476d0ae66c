-- What a subcommand takes, and what it holds then.
use Rattle.std.proofs.Common.{◌≡◌, ◌∙◌, ◌||◌, ◌==◌, ◌+◌, ℕ, Bool, true, false, suc, refl, sym, ap, subst, arith, List, [], ◌∷◌, take, Option, Some, None, codes}
use Rattle.std.specs.List.{before_first, list_any, position_or_len}
use Rattle.std.specs.Str.{bytes_eq}
use Rattle.std.proofs.lemmas.Bool.{eqb-true}
use Rattle.std.proofs.lemmas.Slice.Eq.{bytes_eq-Decides}
use Rattle.clap.specs.Lexer.{has_byte, long_of, name_and_value}
use Rattle.clap.specs.Simple.{Shape, built_leaf, inherited, marked_built, with_leaf_noted}
use Rattle.clap.specs.Walk.{Held, Row, Step, Text, Walk, after_step, arg_by_long, finished, first_of, idle, nothing_held, one_of, rows_after, walk_from, walked}
use Rattle.clap.specs.Faults.{level_fault, turn_fault, walk_fault, word_fault}
use Rattle.clap.proofs.OnLiterals.{clap_on_literals}
use Rattle.command_words.specs.CommandLine.{run_words}
use Rattle.command_words.specs.Reader.{flag_text, has_separator, midas_app, one_word, run_shape}
use Rattle.command_words.proofs.Stray.{HasNoLong, held, idle_walk, level_clean, stray_is_fault, turn_clean, value_word, walk_clean}

-- ---- tests

pub or_false : (a b : Bool) → (a || b) ≡ false → (a ≡ false) × (b ≡ false)
or_false true b e = absurd (cc)
or_false false b e = (refl, e)

abbrev pub some_or : {X : Type 0} → X → Option X → X
some_or d None = d
some_or d (Some x) = x

take_next : (n x : ℕ) (xs : List ℕ) → take (1 + n) (x ∷ xs) ≡ x ∷ take n xs
take_next n x xs = let next : 1 + n ≡ suc n = omega arith in ap (λ (k : ℕ). take k (x ∷ xs)) next

none_before : (p : ℕ → Bool) (xs : List ℕ) → list_any p xs ≡ false → before_first p xs ≡ xs
none_before p [] none = refl
none_before p (x ∷ xs) none =
    let parts = or_false (p x) (list_any p xs) none in
    rw parts.0 (take_next (position_or_len p xs) x xs ∙ ap (λ (rest : List ℕ). x ∷ rest) (none_before p xs parts.1))

-- ---- the word of a long flag with no value

long_rest : (rest : List ℕ) (name : Text) → name_and_value rest ≡ (name, None) → rest ≡ name
long_rest rest name is = go (has_byte 61 rest) refl
  where
    go : (b : Bool) → has_byte 61 rest ≡ b → rest ≡ name
    go true has =
        let value_is = ap (λ (p : Text × Option Text). p.1) is in
        let bad = rw has at value_is in
        absurd (cc)
    go false has = sym (none_before (λ x. x == 61) rest has) ∙ ap (λ (p : Text × Option Text). p.0) is

pub long_back : (word name : Text) → long_of word ≡ Some (name, None) → word ≡ 45 ∷ 45 ∷ name
long_back [] name is = absurd (cc)
long_back (a ∷ []) name is = go (a == 45) refl
  where
    go : (x : Bool) → (a == 45) ≡ x → a ∷ [] ≡ 45 ∷ 45 ∷ name
    go true e = let bad = rw e at is in absurd (cc)
    go false e = let bad = rw e at is in absurd (cc)
long_back (a ∷ b ∷ []) name is = go (a == 45) (b == 45) refl refl
  where
    go : (x y : Bool) → (a == 45) ≡ x → (b == 45) ≡ y → a ∷ b ∷ [] ≡ 45 ∷ 45 ∷ name
    go true true e f = let bad = rw (e, f) at is in absurd (cc)
    go true false e f = let bad = rw (e, f) at is in absurd (cc)
    go false y e f = let bad = rw e at is in absurd (cc)
long_back (a ∷ b ∷ x ∷ xs) name is = go (a == 45) (b == 45) refl refl
  where
    go : (x' y : Bool) → (a == 45) ≡ x' → (b == 45) ≡ y → a ∷ b ∷ x ∷ xs ≡ 45 ∷ 45 ∷ name
    go true true e f =
        let some = rw (e, f) at is in
        let first : a ≡ 45 = eqb-true a 45 e in
        let second : b ≡ 45 = eqb-true b 45 f in
        let rest : x ∷ xs ≡ name = long_rest (x ∷ xs) name (ap (some_or (name, None)) some) in
        cc
    go true false e f = let bad = rw (e, f) at is in absurd (cc)
    go false y e f = let bad = rw e at is in absurd (cc)

-- ---- a subcommand as it is built below the program

abbrev pub leaf_built : Shape → Shape
leaf_built s = built_leaf (inherited (with_leaf_noted (marked_built midas_app.top)) s)

abbrev pub word_built : (name id : Text) → Shape
word_built name id = leaf_built (one_word name id)

abbrev pub run_built : Shape
run_built = leaf_built run_shape

-- ---- a subcommand that takes one word

after_word : (name id word : Text) → bytes_eq word (codes "--") ≡ false → word_fault (word_built name id) [] false idle word nothing_held ≡ []
    → walked (word_built name id).rules [] (walk_from nothing_held) word ≡ idle_walk (held [] (Some (id, word ∷ []))) 2
unfolding walked
after_word name id word unlike none =
    ap (λ (m : Held × Step). after_step (word_built name id).rules word (walk_from nothing_held) m.0 m.1)
    (value_word (word_built name id) [] word [] None 1 refl unlike (λ p is. refl) (λ x. refl) none)

held_word : (name id word : Text) → bytes_eq id id ≡ true → first_of id (finished (word_built name id).rules (held [] (Some (id, word ∷ [])))) ≡ Some word
held_word name id word same = simp same

one_word_taken : (name id word : Text) (rest : List Text) → has_separator (word ∷ rest) ≡ false
    → walk_fault (word_built name id) [] (walk_from nothing_held) (word ∷ rest) ≡ [] → rest ≡ []
one_word_taken name id word [] apart none = refl
one_word_taken name id word (more ∷ rest) apart none =
    let tests = or_false (bytes_eq word (codes "--")) (has_separator (more ∷ rest)) apart in
    let first = walk_clean (word_built name id) [] (walk_from nothing_held) word (more ∷ rest) none in
    let turn = turn_clean (word_built name id) [] nothing_held 1 word first.0 in
    let behind = rw (after_word name id word tests.0 turn.0) at first.1 in
    let second = walk_clean (word_built name id) [] (idle_walk (held [] (Some (id, word ∷ []))) 2) more rest behind in
    absurd (stray_is_fault (word_built name id) [] more [] (Some (id, word ∷ [])) 2 refl (or_false (bytes_eq more (codes "--")) (has_separator rest) tests.1).0
    (λ p is. refl) (λ x. refl) refl second.0)

pub word_taken : (name id : Text) (rest : List Text) → has_separator rest ≡ false → level_fault (word_built name id) [] nothing_held rest false [] ≡ []
    → (word : Text) × (rest ≡ word ∷ []) × (first_of id (rows_after (word_built name id).rules [] rest) ≡ Some word)
unfolding clap_on_literals
word_taken name id [] apart none = absurd (cc)
word_taken name id (word ∷ rest) apart none =
    let clean = (level_clean (word_built name id) [] nothing_held (word ∷ rest) false [] none).0 in
    let alone = one_word_taken name id word rest apart clean in
    let first = walk_clean (word_built name id) [] (walk_from nothing_held) word rest clean in
    let turn = turn_clean (word_built name id) [] nothing_held 1 word first.0 in
    let after = after_word name id word (or_false (bytes_eq word (codes "--")) (has_separator rest) apart).0 turn.0 in
    let row : first_of id (rows_after (word_built name id).rules [] (word ∷ [])) ≡ Some word =
    ap (λ (w : Walk). first_of id (finished (word_built name id).rules w.held)) after ∙ held_word name id word ((bytes_eq-Decides id id).1 refl) in
    (word, ap (λ (xs : List Text). word ∷ xs) alone, ap (λ (xs : List Text). first_of id (rows_after (word_built name id).rules [] (word ∷ xs))) alone ∙ row)

-- ---- `run`

pub run_word : (rows : List Row) (word : Text) → bytes_eq word (codes "--") ≡ false → turn_fault run_built [] (idle_walk (held rows None) 1) word ≡ []
    → word ≡ codes "--cooperative"
run_word rows word unlike none = go (long_of word) refl
  where
    stray : HasNoLong run_built.rules word → ⊥
    stray no_long = stray_is_fault run_built [] word rows None 1 refl unlike no_long (λ x. refl) refl none

    named : (name : Text) (v : Option Text) → long_of word ≡ Some (name, v) → bytes_eq (codes "cooperative") name ≡ true → word ≡ codes "--cooperative"
    named name None is same =
        let name_is : codes "cooperative" ≡ name = (bytes_eq-Decides (codes "cooperative") name).0 same in
        long_back word name is ∙ ap (λ (n : Text). 45 ∷ 45 ∷ n) (sym name_is)
    named name (Some v) is same =
        let clean = (turn_clean run_built [] (held rows None) 1 word none).0 in
        let bad = rw (unlike, is, same) at clean in
        absurd (cc)

    go : (o : Option (Text × Option Text)) → long_of word ≡ o → word ≡ codes "--cooperative"
    go None is = absurd (stray (λ p e. let bad = rw is at e in absurd (cc)))
    go (Some p) is = test (bytes_eq (codes "cooperative") p.0) refl
      where
        test : (b : Bool) → bytes_eq (codes "cooperative") p.0 ≡ b → word ≡ codes "--cooperative"
        test true same = named p.0 p.1 is same
        test false other = absurd (stray (λ q e.
            let same : p ≡ q = ap (some_or q) (sym is ∙ e) in
            subst (λ (r : Text × Option Text). arg_by_long run_built.rules r.0 ≡ None) same (rw other refl)))

abbrev pub flag : Text
flag = codes "--cooperative"

-- the rows behind the flag
abbrev flag_rows : List Row
flag_rows = (walked run_built.rules [] (walk_from nothing_held) flag).held.rows

after_flag : walked run_built.rules [] (walk_from nothing_held) flag ≡ idle_walk (held flag_rows None) 1
unfolding clap_on_literals
after_flag = refl

flag_twice : turn_fault run_built [] (idle_walk (held flag_rows None) 1) flag ≡ [] → ⊥
unfolding clap_on_literals
flag_twice none = absurd (cc)

pub run_taken : (rest : List Text) → has_separator rest ≡ false → level_fault run_built [] nothing_held rest false [] ≡ []
    → (cooperative : Bool) × (codes "run" ∷ rest ≡ run_words cooperative) × (one_of (codes "cooperative") (rows_after run_built.rules [] rest) ≡ Some (flag_text cooperative))
unfolding clap_on_literals
run_taken [] apart none = (false, refl, refl)
run_taken (word ∷ []) apart none =
    let clean = (level_clean run_built [] nothing_held (word ∷ []) false [] none).0 in
    let turn = walk_clean run_built [] (walk_from nothing_held) word [] clean in
    let is : word ≡ flag = run_word [] word (or_false (bytes_eq word (codes "--")) false apart).0 turn.0 in
    (true, ap (λ (w : Text). codes "run" ∷ w ∷ []) is, subst (λ (w : Text). one_of (codes "cooperative") (rows_after run_built.rules [] (w ∷ [])) ≡ Some (flag_text true)) (sym is) refl)
run_taken (word ∷ more ∷ rest) apart none =
    let clean = (level_clean run_built [] nothing_held (word ∷ more ∷ rest) false [] none).0 in
    let first = walk_clean run_built [] (walk_from nothing_held) word (more ∷ rest) clean in
    let tests = or_false (bytes_eq word (codes "--")) (has_separator (more ∷ rest)) apart in
    let is : word ≡ flag = run_word [] word tests.0 first.0 in
    let behind = rw after_flag at (subst (λ (w : Text). walk_fault run_built [] (walked run_built.rules [] (walk_from nothing_held) w) (more ∷ rest) ≡ []) is first.1) in
    let second = (walk_clean run_built [] (idle_walk (held flag_rows None) 1) more rest behind).0 in
    let again : more ≡ flag = run_word flag_rows more (or_false (bytes_eq more (codes "--")) (has_separator rest) tests.1).0 second in
    absurd (flag_twice (subst (λ (w : Text). turn_fault run_built [] (idle_walk (held flag_rows None) 1) w ≡ []) again second))
