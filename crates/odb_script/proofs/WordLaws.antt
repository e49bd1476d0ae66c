-- Words are cut out of a line part by part.
use Rattle.std.specs.Prelude.{◌≡◌, ◌≢◌, ℕ, suc, zero, ◌+◌, ◌<◌, Bool, true, false, not, ◌||◌, List, [], ◌∷◌, ◌++◌, length, All, refl}
use Rattle.std.proofs.Common.{ap, sym, ◌∙◌, subst, arith, append_assoc, get_or, take, ne_eqb}
use Rattle.std.proofs.lemmas.List.{append-nil, take_more}
use Rattle.std.proofs.lemmas.List.Elements.{All-append}
use Rattle.daq_text.specs.Numbers.{is_blank}
use Rattle.odb_script.specs.LineWords.{word, ended, faulty, is_quote, between, inside, quoted, closed, words_from}
use Rattle.odb_script.specs.declared.words.Part.{Part}
use Rattle.odb_script.specs.declared.words.Part.TheVariants.{Blanks, Plain, Quoted}
use Rattle.odb_script.specs.NextWords.{belongs, is_gap, IsBehind}

-- All bytes of a part belong to it.
abbrev pub IsPart : Part → List ℕ → Type 0
IsPart part bytes = All (λ b. belongs part b ≡ true) bytes

single : (part : Part) (b : ℕ) → belongs part b ≡ true → IsPart part (b ∷ [])
single part b h zero d within = h
single part b h (suc k) d within = absurd (omega (arith, within))

pub part_more : (part : Part) (bytes : List ℕ) (i : ℕ) → IsPart part (take i bytes) → i < length bytes → belongs part (get_or bytes i 0) ≡ true → IsPart part (take (i + 1) bytes)
part_more part bytes i h within here =
    subst (IsPart part) (sym (take_more bytes i 0 within)) (All-append (λ b. belongs part b ≡ true) (take i bytes) (get_or bytes i 0 ∷ []) h (single part (get_or bytes i 0) here))

head_of : (part : Part) (b : ℕ) (bs : List ℕ) → IsPart part (b ∷ bs) → belongs part b ≡ true
head_of part b bs h = h 0 b (omega arith)

tail_of : (part : Part) (b : ℕ) (bs : List ℕ) → IsPart part (b ∷ bs) → IsPart part bs
tail_of part b bs h = λ k d within. h (suc k) d (omega (arith, within))

-- What a byte is, by the part that it belongs to.

not_true : (a : Bool) → not a ≡ true → a ≡ false
not_true true e = cc
not_true false e = refl

not_false : (a : Bool) → not a ≡ false → a ≡ true
not_false true e = refl
not_false false e = cc

neither_left : (a b : Bool) → not (a || b) ≡ true → a ≡ false
neither_left true b e = cc
neither_left false b e = refl

neither_right : (a b : Bool) → not (a || b) ≡ true → b ≡ false
neither_right true b e = cc
neither_right false b e = not_true b e

-- Parts are passed.

longer : (at : ℕ) (b : ℕ) (bs : List ℕ) → at + 1 + length bs ≡ at + length (b ∷ bs)
longer at b bs = omega arith

pub blanks_passed : (at : ℕ) (front rest : List ℕ) → IsPart Blanks front → words_from between at (front ++ rest) ≡ words_from between (at + length front) rest
blanks_passed at [] rest h = ap (λ n. words_from between n rest) (omega arith)
blanks_passed at (b ∷ bs) rest h =
    rw (head_of Blanks b bs h) (blanks_passed (at + 1) bs rest (tail_of Blanks b bs h) ∙ ap (λ n. words_from between n rest) (longer at b bs))

pub plain_passed : (start : ℕ) (so_far : List ℕ) (at : ℕ) (front rest : List ℕ) → IsPart Plain front
    → words_from (inside start so_far) at (front ++ rest) ≡ words_from (inside start (so_far ++ front)) (at + length front) rest
plain_passed start so_far at [] rest h = rw (append-nil so_far) (ap (λ n. words_from (inside start so_far) n rest) (omega arith))
plain_passed start so_far at (b ∷ bs) rest h =
    let belongs_here : belongs Plain b ≡ true = head_of Plain b bs h in
    rw (neither_left (is_blank b) (is_quote b) belongs_here, neither_right (is_blank b) (is_quote b) belongs_here)
    (plain_passed start (so_far ++ b ∷ []) (at + 1) bs rest (tail_of Plain b bs h)
    ∙ ap (λ text. words_from (inside start text) (at + 1 + length bs) rest) (append_assoc so_far (b ∷ []) bs)
    ∙ ap (λ n. words_from (inside start (so_far ++ b ∷ bs)) n rest) (longer at b bs))

pub quoted_passed : (start : ℕ) (so_far : List ℕ) (at : ℕ) (front rest : List ℕ) → IsPart Quoted front
    → words_from (quoted start so_far) at (front ++ rest) ≡ words_from (quoted start (so_far ++ front)) (at + length front) rest
quoted_passed start so_far at [] rest h = rw (append-nil so_far) (ap (λ n. words_from (quoted start so_far) n rest) (omega arith))
quoted_passed start so_far at (b ∷ bs) rest h =
    rw (not_true (is_quote b) (head_of Quoted b bs h))
    (quoted_passed start (so_far ++ b ∷ []) (at + 1) bs rest (tail_of Quoted b bs h)
    ∙ ap (λ text. words_from (quoted start text) (at + 1 + length bs) rest) (append_assoc so_far (b ∷ []) bs)
    ∙ ap (λ n. words_from (quoted start (so_far ++ b ∷ bs)) n rest) (longer at b bs))

-- What stands behind a part.

none : (bytes : List ℕ) → length bytes ≡ 0 → bytes ≡ []
none [] h = refl
none (b ∷ bs) h = absurd (omega (arith, h))

word_at_gap : (start : ℕ) (text : List ℕ) (at : ℕ) (rest : List ℕ) → is_gap rest ≡ true → words_from (inside start text) at rest ≡ word start text (words_from between at rest)
word_at_gap start text at [] h = refl
word_at_gap start text at (b ∷ bs) h = rw h refl

faulty_at_quote : (start : ℕ) (text : List ℕ) (at : ℕ) (rest : List ℕ) → IsBehind Plain rest → is_gap rest ≡ false → words_from (inside start text) at rest ≡ faulty start
faulty_at_quote start text at [] behind h = cc
faulty_at_quote start text at (b ∷ bs) behind h =
    let quote : is_quote b ≡ true = ap (λ a. a || is_quote b) (sym h) ∙ not_false (is_blank b || is_quote b) behind in
    rw (h, quote) refl

-- a word outside quotes
pub plain_ends : (at : ℕ) (bytes text rest : List ℕ) → bytes ≡ text ++ rest → IsPart Plain text → is_gap rest ≡ true
    → words_from (inside at []) at bytes ≡ word at text (words_from between (at + length text) rest)
plain_ends at bytes text rest whole front gap =
    ap (λ bs. words_from (inside at []) at bs) whole ∙ plain_passed at [] at text rest front ∙ word_at_gap at text (at + length text) rest gap

pub plain_broken : (at : ℕ) (bytes text rest : List ℕ) → bytes ≡ text ++ rest → IsPart Plain text → IsBehind Plain rest → is_gap rest ≡ false
    → words_from (inside at []) at bytes ≡ faulty at
plain_broken at bytes text rest whole front behind gap =
    ap (λ bs. words_from (inside at []) at bs) whole ∙ plain_passed at [] at text rest front ∙ faulty_at_quote at text (at + length text) rest behind gap

-- a word in quotes, behind its first quote
pub quoted_open : (at : ℕ) (bytes text rest : List ℕ) → bytes ≡ text ++ rest → IsPart Quoted text → length rest ≡ 0
    → words_from (quoted at []) (at + 1) bytes ≡ faulty (at + 1 + length text)
quoted_open at bytes text rest whole front empty =
    ap (λ bs. words_from (quoted at []) (at + 1) bs) whole ∙ quoted_passed at [] (at + 1) text rest front
    ∙ ap (λ bs. words_from (quoted at text) (at + 1 + length text) bs) (none rest empty)

pub quoted_closes : (at : ℕ) (bytes text rest : List ℕ) (b : ℕ) (behind : List ℕ) → bytes ≡ text ++ rest → IsPart Quoted text → IsBehind Quoted rest → rest ≡ b ∷ behind
    → words_from (quoted at []) (at + 1) bytes ≡ words_from (closed at text) (at + 1 + length text + 1) behind
quoted_closes at bytes text rest b behind whole front stops is =
    let quote : is_quote b ≡ true = not_false (is_quote b) (subst (IsBehind Quoted) is stops) in
    ap (λ bs. words_from (quoted at []) (at + 1) bs) whole ∙ quoted_passed at [] (at + 1) text rest front
    ∙ ap (λ bs. words_from (quoted at text) (at + 1 + length text) bs) is ∙ rw quote refl

-- the first word behind blanks
pub first_ended : (at : ℕ) (bytes front rest : List ℕ) → bytes ≡ front ++ rest → IsPart Blanks front → length rest ≡ 0 → words_from between at bytes ≡ ended (at + length front)
first_ended at bytes front rest whole blanks empty =
    ap (λ bs. words_from between at bs) whole ∙ blanks_passed at front rest blanks ∙ ap (λ bs. words_from between (at + length front) bs) (none rest empty)

pub first_quoted : (at : ℕ) (bytes front rest : List ℕ) (b : ℕ) (behind : List ℕ) → bytes ≡ front ++ rest → IsPart Blanks front → rest ≡ b ∷ behind → b ≡ 34
    → words_from between at bytes ≡ words_from (quoted (at + length front) []) (at + length front + 1) behind
first_quoted at bytes front rest b behind whole blanks is quote =
    ap (λ bs. words_from between at bs) whole ∙ blanks_passed at front rest blanks
    ∙ ap (λ bs. words_from between (at + length front) bs) (is ∙ ap (λ c. c ∷ behind) quote)

pub first_plain : (at : ℕ) (bytes front rest : List ℕ) (b : ℕ) (behind : List ℕ) → bytes ≡ front ++ rest → IsPart Blanks front → IsBehind Blanks rest → rest ≡ b ∷ behind → b ≢ 34
    → words_from between at bytes ≡ words_from (inside (at + length front) []) (at + length front) rest
first_plain at bytes front rest b behind whole blanks stops is plain =
    let no_blank : is_blank b ≡ false = subst (IsBehind Blanks) is stops in
    let no_quote : is_quote b ≡ false = ne_eqb b 34 plain in
    let here : words_from between (at + length front) (b ∷ behind) ≡ words_from (inside (at + length front) []) (at + length front) (b ∷ behind) = rw (no_blank, no_quote) refl in
    ap (λ bs. words_from between at bs) whole ∙ blanks_passed at front rest blanks
    ∙ ap (λ bs. words_from between (at + length front) bs) is ∙ here ∙ ap (λ bs. words_from (inside (at + length front) []) (at + length front) bs) (sym is)
