-- The lines of a script up to its `exit`.
use Rattle.std.specs.Prelude.{◌≡◌, ℕ, ◌<◌, true, false, if◌then◌else◌, List, [], ◌∷◌, ◌++◌, length, take, Some, refl}
use Rattle.std.proofs.Common.{ap, sym, ◌∙◌, arith, append_assoc, drop}
use Rattle.std.proofs.lemmas.List.{take-append-drop, take_all, append-nil}
use Rattle.std.proofs.lemmas.List.Elements.{All-nil, All-head, All-tail, All-push}
use Rattle.std.proofs.Math.Seq.{take-append_seam}
use Rattle.daq_io.specs.Told.{SourceTold}
use Rattle.odb_script.specs.Lines.{Reading, lines_of, kept, script_limit, ReadsLine, ReadsLast, ReadsNone, ReadsTooMuch}
use Rattle.odb_script.specs.ReadLines.{HasReadLines}
use Rattle.odb_script.proofs.ReadLines.{has_read_line, lines_so_far, lines_at_end, lines_at_last, lines_at_limit}
use Rattle.odb_script.proofs.KeptForms.{command_of-kept}
use Rattle.odb_script.specs.Exits.{is_exit, ends_script, until_exit, GoOn, StopAtExit}

-- Of a line, what is kept tells whether it is an `exit`.
pub ends_script-kept : (line : List ℕ) → ends_script (kept line) ≡ ends_script line
ends_script-kept line = ap is_exit (command_of-kept line)

-- no line yet
pub GoOn-none : GoOn []
GoOn-none = All-nil (λ line. ends_script line ≡ false)

-- a line more, which is none
pub GoOn-more : (lines : List (List ℕ)) (line : List ℕ) → GoOn lines → ends_script line ≡ false → GoOn (lines ++ line ∷ [])
GoOn-more lines line h on = All-push (λ l. ends_script l ≡ false) lines line h on

-- a line more, which is one
pub stop_at_exit : (lines : List (List ℕ)) (line : List ℕ) → GoOn lines → ends_script line ≡ true → StopAtExit (lines ++ line ∷ [])
stop_at_exit lines line h ends = record { front = lines; go_on = h; line = line; ends = ends; lines_are = refl }

-- lines in front that are none stay
pub until_exit-append : (front rest : List (List ℕ)) → GoOn front → until_exit (front ++ rest) ≡ front ++ until_exit rest
until_exit-append [] rest h = refl
until_exit-append (line ∷ front) rest h =
    rw (All-head (λ l. ends_script l ≡ false) line front h) (ap (λ ls. line ∷ ls) (until_exit-append front rest (All-tail (λ l. ends_script l ≡ false) line front h)))

-- without an `exit` they are all of them
pub until_exit-none : (lines : List (List ℕ)) → GoOn lines → until_exit lines ≡ lines
until_exit-none lines h = ap until_exit (sym (append-nil lines)) ∙ until_exit-append lines [] h ∙ append-nil lines

-- the first `exit` ends them
pub until_exit-stops : (front : List (List ℕ)) (line : List ℕ) (rest : List (List ℕ)) → GoOn front → ends_script line ≡ true
    → until_exit (front ++ line ∷ rest) ≡ front ++ line ∷ []
until_exit-stops front line rest h ends = until_exit-append front (line ∷ rest) h ∙ ap (λ ls. front ++ ls) (rw ends refl)

-- the first line is always one of them
until_exit-first : (line : List ℕ) (rest : List (List ℕ)) → (more : List (List ℕ)) × (until_exit (line ∷ rest) ≡ line ∷ more)
until_exit-first line rest =
    elim (ends_script line) as (λ b. (more : List (List ℕ)) × ((if b then line ∷ [] else line ∷ until_exit rest) ≡ line ∷ more))
    [ true ↦ ([], refl) | false ↦ (until_exit rest, refl) ]

-- the last line ends them anyway
pub until_exit-last : (front : List (List ℕ)) (line : List ℕ) → GoOn front → until_exit (front ++ line ∷ []) ≡ front ++ line ∷ []
until_exit-last front line h =
    until_exit-append front (line ∷ []) h
    ∙ ap (λ ls. front ++ ls) (elim (ends_script line) as (λ b. (if b then line ∷ [] else line ∷ []) ≡ line ∷ []) [ true ↦ refl | false ↦ refl ])

-- All lines are first lines.
pub all_first : (lines all : List (List ℕ)) → lines ≡ all → lines ≡ take (length lines) all
all_first lines all same = sym (take_all (length lines) lines (omega arith)) ∙ ap (take (length lines)) same

-- First lines, of which none is an `exit` or the last alone.

whole_of : (lines all : List (List ℕ)) → lines ≡ take (length lines) all → all ≡ lines ++ drop (length lines) all
whole_of lines all first = sym (take-append-drop (length lines) all) ∙ ap (λ ls. ls ++ drop (length lines) all) (sym first)

pub first_until_exit : (lines all : List (List ℕ)) → lines ≡ take (length lines) all → GoOn lines → lines ≡ take (length lines) (until_exit all)
first_until_exit lines all first h =
    let whole : until_exit all ≡ lines ++ until_exit (drop (length lines) all) =
    ap until_exit (whole_of lines all first) ∙ until_exit-append lines (drop (length lines) all) h in
    sym (ap (take (length lines)) whole ∙ take-append_seam lines (until_exit (drop (length lines) all)))

pub first_until_exit-last : (front : List (List ℕ)) (line : List ℕ) (all : List (List ℕ)) → front ++ line ∷ [] ≡ take (length (front ++ line ∷ [])) all → GoOn front
    → front ++ line ∷ [] ≡ take (length (front ++ line ∷ [])) (until_exit all)
first_until_exit-last front line all first h =
    let rest : List (List ℕ) = drop (length (front ++ line ∷ [])) all in
    let head : (more : List (List ℕ)) × (until_exit (line ∷ rest) ≡ line ∷ more) = until_exit-first line rest in
    let whole : until_exit all ≡ (front ++ line ∷ []) ++ head.0 =
    ap until_exit (whole_of (front ++ line ∷ []) all first ∙ append_assoc front (line ∷ []) rest) ∙ until_exit-append front (line ∷ rest) h
    ∙ ap (λ ls. front ++ ls) head.1 ∙ sym (append_assoc front (line ∷ []) head.0) in
    sym (ap (take (length (front ++ line ∷ []))) whole ∙ take-append_seam (front ++ line ∷ []) head.0)

-- first lines of which the last is the first `exit`
pub stopped_until_exit : (front : List (List ℕ)) (line : List ℕ) (all : List (List ℕ)) → front ++ line ∷ [] ≡ take (length (front ++ line ∷ [])) all → GoOn front
    → ends_script line ≡ true → front ++ line ∷ [] ≡ until_exit all
stopped_until_exit front line all first h ends =
    let rest : List (List ℕ) = drop (length (front ++ line ∷ [])) all in
    sym (ap until_exit (whole_of (front ++ line ∷ []) all first ∙ append_assoc front (line ∷ []) rest) ∙ until_exit-stops front line rest h ends)

-- What was read of a source that told its bytes, up to the `exit`.

-- so far there was none
pub lines_first : (text : List ℕ) (first now : SourceTold) (reading : Reading) (lines : List (List ℕ))
    → first.left ≡ Some text → HasReadLines first now reading lines → GoOn lines → lines ≡ take (length lines) (until_exit (lines_of text))
lines_first text first now reading lines told read h = first_until_exit lines (lines_of text) (lines_so_far text first now reading lines told read) h

-- there was none in front of the line that was just read, which has an end
pub lines_first_line : (text : List ℕ) (first now after : SourceTold) (old new : Reading) (lines : List (List ℕ)) (line : List ℕ)
    → first.left ≡ Some text → HasReadLines first now old lines → GoOn lines → ReadsLine old new now after line → lines ++ line ∷ [] ≡ take (length (lines ++ line ∷ [])) (until_exit (lines_of text))
lines_first_line text first now after old new lines line told read h reads =
    first_until_exit-last lines line (lines_of text) (lines_so_far text first after new (lines ++ line ∷ []) told (has_read_line first now after old new lines line read reads)) h

-- that line is an `exit`
pub lines_at_exit : (text : List ℕ) (first now after : SourceTold) (old new : Reading) (lines : List (List ℕ)) (line : List ℕ)
    → first.left ≡ Some text → HasReadLines first now old lines → GoOn lines → ReadsLine old new now after line → ends_script line ≡ true → lines ++ line ∷ [] ≡ until_exit (lines_of text)
lines_at_exit text first now after old new lines line told read h reads ends =
    stopped_until_exit lines line (lines_of text) (lines_so_far text first after new (lines ++ line ∷ []) told (has_read_line first now after old new lines line read reads)) h ends

-- the source ended behind a line's end
pub lines_until_end : (text : List ℕ) (first now after : SourceTold) (old new : Reading) (lines : List (List ℕ))
    → first.left ≡ Some text → HasReadLines first now old lines → GoOn lines → ReadsNone old new now after → lines ≡ until_exit (lines_of text)
lines_until_end text first now after old new lines told read h reads = sym (until_exit-none lines h) ∙ ap until_exit (lines_at_end text first now after old new lines told read reads)

-- or behind a last line without one, an `exit` or not
pub lines_until_last : (text : List ℕ) (first now after : SourceTold) (old new : Reading) (lines : List (List ℕ)) (line : List ℕ)
    → first.left ≡ Some text → HasReadLines first now old lines → GoOn lines → ReadsLast old new now after line → lines ++ line ∷ [] ≡ until_exit (lines_of text)
lines_until_last text first now after old new lines line told read h reads =
    sym (until_exit-last lines line h) ∙ ap until_exit (lines_at_last text first now after old new lines line told read reads)

pub lines_first_last : (text : List ℕ) (first now after : SourceTold) (old new : Reading) (lines : List (List ℕ)) (line : List ℕ)
    → first.left ≡ Some text → HasReadLines first now old lines → GoOn lines → ReadsLast old new now after line → lines ++ line ∷ [] ≡ take (length (lines ++ line ∷ [])) (until_exit (lines_of text))
lines_first_last text first now after old new lines line told read h reads =
    all_first (lines ++ line ∷ []) (until_exit (lines_of text)) (lines_until_last text first now after old new lines line told read h reads)

-- the script is too long
pub lines_until_limit : (text : List ℕ) (first now after : SourceTold) (old new : Reading) (lines : List (List ℕ))
    → first.left ≡ Some text → HasReadLines first now old lines → GoOn lines → ReadsTooMuch old new now after → lines ≡ until_exit (lines_of text) × (script_limit < length text)
lines_until_limit text first now after old new lines told read h reads =
    let limit : lines ≡ lines_of text × (script_limit < length text) = lines_at_limit text first now after old new lines told read reads in
    (sym (until_exit-none lines h) ∙ ap until_exit limit.0, limit.1)
