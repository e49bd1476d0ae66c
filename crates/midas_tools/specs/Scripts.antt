-- The scripts that are made from a number.
use Rattle.std.specs.Prelude.{ℕ, zero, suc, ◌+◌, ◌%◌, List, [], ◌∷◌, ◌++◌, codes}
use Rattle.std.specs.Fmt.{decimal}

-- a line of this text
unfoldable pub line_of : List ℕ → List ℕ
line_of text = text ++ 10 ∷ []

-- how many front-ends the script of this number declares, and how many events each sends in a run
abbrev pub front_count : (number : ℕ) → ℕ
front_count number = 1 + number % 4

abbrev pub event_count : (number : ℕ) → ℕ
event_count number = 1000 + number % 1000

-- the front-end `FEi`, whose events have id i and trigger mask 1
abbrev pub equip_line : (i : ℕ) → List ℕ
equip_line i = line_of (codes "equip FE" ++ (decimal i ++ (codes " " ++ (decimal i ++ codes " 1 SYSTEM"))))

-- the first so many of them
abbrev pub equip_lines : (count : ℕ) → List ℕ
equip_lines zero = []
equip_lines (suc n) = equip_lines n ++ equip_line (suc n)

-- a run that is started and stopped, one with a pause in it, and the end
abbrev pub run_lines : List ℕ
run_lines =
    line_of (codes "start") ++ (line_of (codes "stop") ++ (line_of (codes "start") ++ (line_of (codes "pause")
    ++ (line_of (codes "resume") ++ (line_of (codes "stop") ++ line_of (codes "exit"))))))

-- The script of a number: a buffer of 65,536 bytes, 1 to 4 front-ends, an analyzer that must get all events, how many events
-- are sent in each run, and two runs.
abbrev pub generated_script : (number : ℕ) → List ℕ
generated_script number =
    line_of (codes "buffer SYSTEM 65536") ++ (equip_lines (front_count number)
    ++ (line_of (codes "analyzer ANA SYSTEM 65535 65535 all")
    ++ (line_of (codes "events " ++ decimal (event_count number)) ++ run_lines)))
