-- What a reader of lines has given, line by line, is the lines of the text.
use Rattle.std.specs.Prelude.{◌≡◌, ◌≢◌, ℕ, suc, ◌+◌, ◌<◌, ◌≤◌, ◌==◌, true, false, nat_le, if◌then◌else◌, List, [], ◌∷◌, ◌++◌, length, take, map, All, Option, Some, None, refl}
use Rattle.std.proofs.Common.{ap, sym, ◌∙◌, subst, arith, append_assoc, length-append, ne_eqb, le-leb, ◌-◌}
use Rattle.std.proofs.lemmas.List.{append-nil, map-append}
use Rattle.std.proofs.Math.Seq.{take-append_seam, take-append-add}
use Rattle.std.proofs.lemmas.Bool.{cases_lt, lt-leb}
use Rattle.std.proofs.Math.Logic.{⊎_elim}
use Rattle.std.specs.Str.Lines.{strip_carriage_return}
use Rattle.std.specs.Io.KnownBytes.{Consumes, IsAtEnd}
use Rattle.daq_io.specs.Told.{SourceTold}
use Rattle.odb_script.proofs.LinesSoFar.{SourceGives-nil, SourceGives-trans}
use Rattle.odb_script.specs.Lines.{SourceGives, Reading, no_line_read, ended_lines, behind_lines, whole_lines, last_line, script_lines, lines_of, script_limit, ReadsLine, ReadsLast, ReadsNone, ReadsTooMuch, ReadsPart}
use Rattle.odb_script.specs.ReadLines.{AreGivenLines, AreWholeLines, HasReadLines}

-- Lines of texts behind one another.

pub ended_lines-append : (so_far xs ys : List ℕ) → ended_lines so_far (xs ++ ys) ≡ ended_lines so_far xs ++ ended_lines (behind_lines so_far xs) ys
ended_lines-append so_far [] ys = refl
ended_lines-append so_far (x ∷ xs) ys =
    elim (x == 10) as (λ b. (if b then so_far ∷ ended_lines [] (xs ++ ys) else ended_lines (so_far ++ x ∷ []) (xs ++ ys))
    ≡ (if b then so_far ∷ ended_lines [] xs else ended_lines (so_far ++ x ∷ []) xs) ++ ended_lines (if b then behind_lines [] xs else behind_lines (so_far ++ x ∷ []) xs) ys)
    [ true ↦ ap (λ ls. so_far ∷ ls) (ended_lines-append [] xs ys) | false ↦ ended_lines-append (so_far ++ x ∷ []) xs ys ]

pub behind_lines-append : (so_far xs ys : List ℕ) → behind_lines so_far (xs ++ ys) ≡ behind_lines (behind_lines so_far xs) ys
behind_lines-append so_far [] ys = refl
behind_lines-append so_far (x ∷ xs) ys =
    elim (x == 10) as (λ b. (if b then behind_lines [] (xs ++ ys) else behind_lines (so_far ++ x ∷ []) (xs ++ ys))
    ≡ behind_lines (if b then behind_lines [] xs else behind_lines (so_far ++ x ∷ []) xs) ys)
    [ true ↦ behind_lines-append [] xs ys | false ↦ behind_lines-append (so_far ++ x ∷ []) xs ys ]

-- A text with no line end in it.

plain-first : (x : ℕ) (xs : List ℕ) → All (λ b. b ≢ 10) (x ∷ xs) → (x == 10) ≡ false
plain-first x xs h = ne_eqb x 10 (h 0 x (omega arith))

plain-rest : (x : ℕ) (xs : List ℕ) → All (λ b. b ≢ 10) (x ∷ xs) → All (λ b. b ≢ 10) xs
plain-rest x xs h = λ k d inside. h (suc k) d (omega (arith, inside))

pub ended_lines-plain : (so_far xs : List ℕ) → All (λ b. b ≢ 10) xs → ended_lines so_far xs ≡ []
ended_lines-plain so_far [] h = refl
ended_lines-plain so_far (x ∷ xs) h = rw (plain-first x xs h) (ended_lines-plain (so_far ++ x ∷ []) xs (plain-rest x xs h))

pub behind_lines-plain : (so_far xs : List ℕ) → All (λ b. b ≢ 10) xs → behind_lines so_far xs ≡ so_far ++ xs
behind_lines-plain so_far [] h = sym (append-nil so_far)
behind_lines-plain so_far (x ∷ xs) h = rw (plain-first x xs h) (behind_lines-plain (so_far ++ x ∷ []) xs (plain-rest x xs h) ∙ append_assoc so_far (x ∷ []) xs)

-- Whole lines, and then more.

pub whole_lines-append : (done more : List ℕ) → AreWholeLines done → whole_lines (done ++ more) ≡ whole_lines done ++ whole_lines more
whole_lines-append done more h =
    ap (map strip_carriage_return) (ended_lines-append [] done more ∙ ap (λ s. ended_lines [] done ++ ended_lines s more) h)
    ∙ map-append strip_carriage_return (ended_lines [] done) (ended_lines [] more)

pub whole_lines-plain : (done part : List ℕ) → AreWholeLines done → All (λ b. b ≢ 10) part → whole_lines (done ++ part) ≡ whole_lines done
whole_lines-plain done part h plain =
    whole_lines-append done part h ∙ ap (λ ls. whole_lines done ++ map strip_carriage_return ls) (ended_lines-plain [] part plain) ∙ append-nil (whole_lines done)

-- one line more
ended_lines-line : (part : List ℕ) → All (λ b. b ≢ 10) part → ended_lines [] (part ++ 10 ∷ []) ≡ part ∷ []
ended_lines-line part plain = ended_lines-append [] part (10 ∷ []) ∙ rw (ended_lines-plain [] part plain, behind_lines-plain [] part plain) refl

pub whole_lines-line : (done part : List ℕ) → AreWholeLines done → All (λ b. b ≢ 10) part
    → whole_lines (done ++ (part ++ 10 ∷ [])) ≡ whole_lines done ++ strip_carriage_return part ∷ []
whole_lines-line done part h plain =
    whole_lines-append done (part ++ 10 ∷ []) h ∙ ap (λ ls. whole_lines done ++ map strip_carriage_return ls) (ended_lines-line part plain)

pub AreWholeLines-line : (done part : List ℕ) → AreWholeLines done → AreWholeLines (done ++ (part ++ 10 ∷ []))
AreWholeLines-line done part h =
    behind_lines-append [] done (part ++ 10 ∷ []) ∙ ap (λ s. behind_lines s (part ++ 10 ∷ [])) h ∙ behind_lines-append [] part (10 ∷ [])

-- What was read.

-- nothing yet
pub has_read_none : (first : SourceTold) → HasReadLines first first no_line_read []
has_read_none first = record { done = []; gives = SourceGives-nil first; whole = refl; lines = refl; taken = refl; within = omega arith }

-- what a source gave of what was passed and of what is pending
passed : (first now after : SourceTold) (done pending more part rest : List ℕ) → SourceGives first now (done ++ pending) → SourceGives now after more
    → pending ++ more ≡ part ++ rest → SourceGives first after ((done ++ part) ++ rest)
passed first now after done pending more part rest p q e =
    subst (λ (bytes : List ℕ). SourceGives first after bytes)
    (append_assoc done pending more ∙ ap (λ ys. done ++ ys) e ∙ sym (append_assoc done part rest))
    (SourceGives-trans first now after (done ++ pending) more p q)

-- it told that they were the first of those left
of_text : (text : List ℕ) (first after : SourceTold) (bytes : List ℕ) → first.left ≡ Some text → SourceGives first after bytes → Consumes (Some text) after.left bytes
of_text text first after bytes told p = subst (λ (left : Option (List ℕ)). Consumes left after.left bytes) told p.consumed

regrouped : (done part rest : List ℕ) → (done ++ part) ++ 10 ∷ rest ≡ (done ++ (part ++ 10 ∷ [])) ++ rest
regrouped done part rest = append_assoc done part (10 ∷ rest) ∙ sym (append_assoc done (part ++ 10 ∷ []) rest ∙ ap (λ ys. done ++ ys) (append_assoc part (10 ∷ []) rest))

-- a line more
pub has_read_line : (first now after : SourceTold) (old new : Reading) (lines : List (List ℕ)) (line : List ℕ)
    → HasReadLines first now old lines → ReadsLine old new now after line → HasReadLines first after new (lines ++ line ∷ [])
has_read_line first now after old new lines line h r = record {
  done = h.done ++ (r.part ++ 10 ∷ []);
  gives = subst (λ (bytes : List ℕ). SourceGives first after bytes) (regrouped h.done r.part new.pending)
      (passed first now after h.done old.pending r.takes.more r.part (10 ∷ new.pending) h.gives r.takes.gives r.takes.bytes);
  whole = AreWholeLines-line h.done r.part h.whole;
  lines = ap (λ ls. ls ++ line ∷ []) h.lines ∙ ap (λ l. whole_lines h.done ++ l ∷ []) r.stripped ∙ sym (whole_lines-line h.done r.part h.whole r.takes.plain);
  taken = omega (arith, r.taken, h.taken, length-append h.done (r.part ++ 10 ∷ []), length-append r.part (10 ∷ []));
  within = omega (arith, r.taken, r.within, h.taken, length-append h.done (r.part ++ 10 ∷ []), length-append r.part (10 ∷ []));
}

-- The whole text was read.

text_is : (text done rest : List ℕ) (after : Option (List ℕ)) → Consumes (Some text) after (done ++ rest) → IsAtEnd after → rest ≡ [] → text ≡ done
text_is text done rest None c e n = absurd c
text_is text done rest (Some left) c e n = c ∙ ap (λ l. (done ++ rest) ++ l) e ∙ append-nil (done ++ rest) ∙ ap (λ l. done ++ l) n ∙ append-nil done

lines_within : (text : List ℕ) → length text ≤ script_limit → lines_of text ≡ script_lines text
lines_within text h = rw (le-leb (length text) script_limit h) refl

pub lines_at_end : (text : List ℕ) (first now after : SourceTold) (old new : Reading) (lines : List (List ℕ))
    → first.left ≡ Some text → HasReadLines first now old lines → ReadsNone old new now after → lines ≡ lines_of text
lines_at_end text first now after old new lines told h r =
    let is_text : text ≡ h.done = text_is text h.done [] after.left
    (of_text text first after (h.done ++ []) told (subst (λ (bytes : List ℕ). SourceGives first after (bytes ++ [])) (append-nil h.done) (passed first now after h.done old.pending r.takes.more [] [] h.gives r.takes.gives r.takes.bytes))) r.at_end refl in
    let whole : script_lines h.done ≡ whole_lines h.done = ap (λ l. whole_lines h.done ++ last_line l) h.whole ∙ append-nil (whole_lines h.done) in
    h.lines ∙ sym whole ∙ sym (lines_within h.done h.within) ∙ ap lines_of (sym is_text)

last_line-some : (line : List ℕ) → 0 < length line → last_line line ≡ line ∷ []
last_line-some [] h = absurd (omega (arith, h))
last_line-some (x ∷ xs) h = refl

pub lines_at_last : (text : List ℕ) (first now after : SourceTold) (old new : Reading) (lines : List (List ℕ)) (line : List ℕ)
    → first.left ≡ Some text → HasReadLines first now old lines → ReadsLast old new now after line → lines ++ line ∷ [] ≡ lines_of text
lines_at_last text first now after old new lines line told h r =
    let is_text : text ≡ h.done ++ line = text_is text (h.done ++ line) [] after.left
    (of_text text first after ((h.done ++ line) ++ []) told (passed first now after h.done old.pending r.takes.more line [] h.gives r.takes.gives r.takes.bytes)) r.at_end refl in
    let behind : behind_lines [] (h.done ++ line) ≡ line =
    behind_lines-append [] h.done line ∙ ap (λ s. behind_lines s line) h.whole ∙ behind_lines-plain [] line r.takes.plain in
    let all : script_lines (h.done ++ line) ≡ whole_lines h.done ++ line ∷ [] =
    rw (whole_lines-plain h.done line h.whole r.takes.plain, behind, last_line-some line r.some) refl in
    ap (λ ls. ls ++ line ∷ []) h.lines ∙ sym all
    ∙ sym (lines_within (h.done ++ line) (omega (arith, length-append h.done line, r.taken, r.within, h.taken))) ∙ ap lines_of (sym is_text)

-- a text of which these bytes are the first
split_text : (text front : List ℕ) (after : Option (List ℕ)) → Consumes (Some text) after front → (rest : List ℕ) × (text ≡ front ++ rest)
split_text text front None c = absurd c
split_text text front (Some left) c = (left, c)

lines_beyond : (text front rest : List ℕ) → text ≡ front ++ rest → length front ≡ script_limit → 0 < length rest → lines_of text ≡ whole_lines front
lines_beyond text front rest e n some =
    let longer : nat_le (length text) script_limit ≡ false = lt-leb (length text) script_limit (omega (arith, ap (length {A = ℕ}) e, length-append front rest, n, some)) in
    let cut : take script_limit text ≡ front = ap (take script_limit) e ∙ ap (λ k. take k (front ++ rest)) (sym n) ∙ take-append_seam front rest in
    rw (longer, cut) refl

pub lines_at_limit : (text : List ℕ) (first now after : SourceTold) (old new : Reading) (lines : List (List ℕ))
    → first.left ≡ Some text → HasReadLines first now old lines → ReadsTooMuch old new now after → lines ≡ lines_of text × (script_limit < length text)
lines_at_limit text first now after old new lines told h r =
    let split : (rest : List ℕ) × (text ≡ ((h.done ++ r.part) ++ new.pending) ++ rest) = split_text text ((h.done ++ r.part) ++ new.pending) after.left
    (of_text text first after ((h.done ++ r.part) ++ new.pending) told (passed first now after h.done old.pending r.takes.more r.part new.pending h.gives r.takes.gives r.takes.bytes)) in
    let is_text : text ≡ (h.done ++ r.part) ++ (new.pending ++ split.0) = split.1 ∙ append_assoc (h.done ++ r.part) new.pending split.0 in
    let full : length (h.done ++ r.part) ≡ script_limit = omega (arith, length-append h.done r.part, r.taken, r.limit, h.taken) in
    let some : 0 < length (new.pending ++ split.0) = omega (arith, length-append new.pending split.0, r.more) in (
      h.lines ∙ sym (lines_beyond text (h.done ++ r.part) (new.pending ++ split.0) is_text full some ∙ whole_lines-plain h.done r.part h.whole r.takes.plain),
      omega (arith, ap (length {A = ℕ}) is_text, length-append (h.done ++ r.part) (new.pending ++ split.0), full, some),
    )

lines_begin : (text done rest : List ℕ) → text ≡ done ++ rest → AreWholeLines done → length done ≤ script_limit → (more : List (List ℕ)) × (lines_of text ≡ whole_lines done ++ more)
lines_begin text done rest e h within = ⊎_elim
    (λ longer. (
      whole_lines (take (script_limit - length done) rest),
      rw (lt-leb (length text) script_limit longer)
          (ap (λ t. whole_lines (take script_limit t)) e
          ∙ ap whole_lines (ap (λ k. take k (done ++ rest)) {x = script_limit} {y = length done + (script_limit - length done)} (omega (arith, within))
          ∙ take-append-add done rest (script_limit - length done))
          ∙ whole_lines-append done (take (script_limit - length done) rest) h),
    ))
    (λ fits. (
      whole_lines rest ++ last_line (behind_lines [] text),
      lines_within text fits ∙ ap (λ ls. ls ++ last_line (behind_lines [] text)) (ap whole_lines e ∙ whole_lines-append done rest h)
          ∙ append_assoc (whole_lines done) (whole_lines rest) (last_line (behind_lines [] text)),
    ))
    (cases_lt script_limit (length text))

-- At any moment the lines are the first of the text.
pub lines_so_far : (text : List ℕ) (first now : SourceTold) (reading : Reading) (lines : List (List ℕ))
    → first.left ≡ Some text → HasReadLines first now reading lines → lines ≡ take (length lines) (lines_of text)
lines_so_far text first now reading lines told h =
    let split : (rest : List ℕ) × (text ≡ (h.done ++ reading.pending) ++ rest) = split_text text (h.done ++ reading.pending) now.left (of_text text first now (h.done ++ reading.pending) told h.gives) in
    let is_text : text ≡ h.done ++ (reading.pending ++ split.0) = split.1 ∙ append_assoc h.done reading.pending split.0 in
    let begins : (more : List (List ℕ)) × (lines_of text ≡ whole_lines h.done ++ more) = lines_begin text h.done (reading.pending ++ split.0) is_text h.whole h.within in
    h.lines ∙ sym (take-append_seam (whole_lines h.done) begins.0) ∙ ap (take (length (whole_lines h.done))) (sym begins.1)
    ∙ ap (λ ls. take (length ls) (lines_of text)) (sym h.lines)

-- A script that was read to its end has no more than it may.

pub text_within_end : (text : List ℕ) (first now after : SourceTold) (old new : Reading) (lines : List (List ℕ))
    → first.left ≡ Some text → HasReadLines first now old lines → ReadsNone old new now after → length text ≤ script_limit
text_within_end text first now after old new lines told h r =
    let is_text : text ≡ h.done = text_is text h.done [] after.left
    (of_text text first after (h.done ++ []) told (subst (λ (bytes : List ℕ). SourceGives first after (bytes ++ [])) (append-nil h.done) (passed first now after h.done old.pending r.takes.more [] [] h.gives r.takes.gives r.takes.bytes))) r.at_end refl in
    omega (arith, ap (length {A = ℕ}) is_text, h.within)

pub text_within_last : (text : List ℕ) (first now after : SourceTold) (old new : Reading) (lines : List (List ℕ)) (line : List ℕ)
    → first.left ≡ Some text → HasReadLines first now old lines → ReadsLast old new now after line → length text ≤ script_limit
text_within_last text first now after old new lines line told h r =
    let is_text : text ≡ h.done ++ line = text_is text (h.done ++ line) [] after.left
    (of_text text first after ((h.done ++ line) ++ []) told (passed first now after h.done old.pending r.takes.more line [] h.gives r.takes.gives r.takes.bytes)) r.at_end refl in
    omega (arith, ap (length {A = ℕ}) is_text, length-append h.done line, r.taken, r.within, h.taken)

given_lines : (text given : List ℕ) (left : Option (List ℕ)) (lines : List (List ℕ)) → Consumes (Some text) left given → lines ≡ whole_lines given → length given ≤ script_limit
    → AreGivenLines text left lines
given_lines text given None lines c e w = absurd c
given_lines text given (Some rest) lines c e w = record { given = given; rest = rest; left_is = refl; text_is = c; lines_are = e; within = w }

pub lines_at_fault : (text : List ℕ) (first now after : SourceTold) (old new : Reading) (lines : List (List ℕ))
    → first.left ≡ Some text → HasReadLines first now old lines → ReadsPart old new now after → AreGivenLines text after.left lines
lines_at_fault text first now after old new lines told h r =
    let consumed : Consumes (Some text) after.left (h.done ++ r.part) = of_text text first after (h.done ++ r.part) told
    (subst (λ (bytes : List ℕ). SourceGives first after bytes) (ap (λ rest. (h.done ++ r.part) ++ rest) r.none_pending ∙ append-nil (h.done ++ r.part))
    (passed first now after h.done old.pending r.takes.more r.part new.pending h.gives r.takes.gives r.takes.bytes)) in
    given_lines text (h.done ++ r.part) after.left lines consumed (h.lines ∙ sym (whole_lines-plain h.done r.part h.whole r.takes.plain))
    (omega (arith, length-append h.done r.part, h.taken, r.taken, r.within))
