-- Some histories that an engine has, and some that none has, each wrong in one way. The clients of the samples tell a number,
-- and 0 is blank.
use Rattle.std.specs.Prelude.{◌≡◌, ℕ, List, [], ◌∷◌, ◌++◌, Option, Some, None, Ok, true}
use Rattle.daq_types.specs.declared.runs.RunState.TheVariants.{Stopped, Running}
use Rattle.daq_types.specs.declared.runs.Transition.{Transition}
use Rattle.daq_types.specs.declared.runs.Transition.TheVariants.{Start, Stop, StartAbort}
use Rattle.daq_types.specs.declared.runs.StartOutcome.TheVariants.{Completed, Refused}
use Rattle.daq_types.specs.declared.runs.Why.TheVariants.{NotReady}
use Rattle.transitions.specs.declared.sequences.Sequences.{Sequences}
use Rattle.transitions.specs.declared.sheet.Sheet.{Sheet}
use Rattle.transitions.specs.declared.answers.Answer.TheVariants.{Yes, No}
use Rattle.transitions.specs.declared.answers.Tally.TheVariants.{Plain}
use Rattle.transitions.specs.declared.answers.ClientTally.{ClientTally}
use Rattle.transitions.specs.declared.replies.Polled.TheVariants.{Turn, Idle}
use Rattle.transitions.specs.declared.replies.Progress.TheVariants.{Done}
use Rattle.transitions.specs.declared.entry.EngineEntry.{EngineEntry}
use Rattle.transitions.specs.declared.entry.EngineEntry.TheVariants.{Register, Begin, Poll, Answer, Check}
use Rattle.transitions.specs.EngineCalls.{order_for}

-- a report that tells nothing
abbrev pub is_none : ℕ → Type 0
is_none report = report ≡ 0

abbrev pub at_all : ℕ → Sequences
at_all q = record { start = Some q; stop = Some q; pause = None; resume = None; start_abort = Some q }

abbrev pub sheet_with : Option (List ℕ) → Sheet ℕ
sheet_with dump = record { run = 1; time = 1000; quota = 0; dump = dump; blanks = [] }

-- two clients that want the dump, of which the first is called first, and a start
abbrev pub with_start_of : (dump : Option (List ℕ)) → List (ℕ × EngineEntry ℕ) → List (ℕ × EngineEntry ℕ)
with_start_of dump es =
    (0, Register [] (at_all 1) true true (Ok 0)) ∷ (0, Register [] (at_all 2) true true (Ok 1)) ∷ (0, Begin Start (sheet_with dump) (Ok 1)) ∷ es

-- the client is given its turn, without anything
abbrev pub turn_for : (client : ℕ) → Transition → ℕ × EngineEntry ℕ
turn_for client t = (client, Poll client (Turn t (order_for (sheet_with None) 1 Stopped) None None))

abbrev pub yes_by : (client : ℕ) → ℕ × EngineEntry ℕ
yes_by client = (client, Answer client (Yes Plain) (Ok tt))

abbrev pub no_by : (client : ℕ) → ℕ × EngineEntry ℕ
no_by client = (client, Answer client (No NotReady) (Ok tt))

abbrev pub plain : (client : ℕ) → ClientTally ℕ
plain client = record { client = client; tally = Plain }

-- the second client refuses the start, and both are called for start-abort
abbrev pub refused_by_second : List (ℕ × EngineEntry ℕ)
refused_by_second =
    with_start_of None
    (turn_for 0 Start ∷ yes_by 0 ∷ turn_for 1 Start ∷ no_by 1 ∷ turn_for 0 StartAbort ∷ yes_by 0 ∷ turn_for 1 StartAbort ∷ yes_by 1
    ∷ (0, Check (Done (Refused 1 NotReady)) (plain 0 ∷ plain 0 ∷ plain 1 ∷ [])) ∷ [])

-- the second client has its turn before the first one
abbrev pub out_of_order : List (ℕ × EngineEntry ℕ)
out_of_order = with_start_of None []

-- the second client has its turn before the first one answered
abbrev pub before_the_answer : List (ℕ × EngineEntry ℕ)
before_the_answer = with_start_of None (turn_for 0 Start ∷ [])

-- the second client has its turn of a start that the first one refused
abbrev pub after_the_refusal : List (ℕ × EngineEntry ℕ)
after_the_refusal = with_start_of None (turn_for 0 Start ∷ no_by 0 ∷ [])

-- both clients are given the dump
abbrev pub with_dump : (client : ℕ) → ℕ × EngineEntry ℕ
with_dump client = (client, Poll client (Turn Start (order_for (sheet_with (Some (7 ∷ []))) 1 Stopped) (Some (7 ∷ [])) None))

abbrev pub dump_given : List (ℕ × EngineEntry ℕ)
dump_given = with_start_of (Some (7 ∷ [])) (with_dump 0 ∷ yes_by 0 ∷ [])

-- both clients answered
abbrev pub both_answered : List (ℕ × EngineEntry ℕ)
both_answered = with_start_of None (turn_for 0 Start ∷ yes_by 0 ∷ turn_for 1 Start ∷ yes_by 1 ∷ [])

-- and so the start is done
abbrev pub started : List (ℕ × EngineEntry ℕ)
started = both_answered ++ (0, Check (Done Completed) (plain 0 ∷ plain 1 ∷ [])) ∷ []

-- a client is given a blank report at the first poll of its turn
abbrev pub with_blank : ℕ → ℕ × EngineEntry ℕ
with_blank blank = (0, Poll 0 (Turn Start (order_for (sheet_with None) 1 Stopped) None (Some blank)))

-- two blank reports are there
abbrev pub blank_given : ℕ → List (ℕ × EngineEntry ℕ)
blank_given blank =
    (0, Register [] (at_all 1) true true (Ok 0))
    ∷ (0, Begin Start (record { run = 1; time = 1000; quota = 0; dump = None; blanks = blank ∷ blank ∷ [] }) (Ok 1)) ∷ with_blank blank ∷ []

-- the first client refused the start, and both answered to start-abort
abbrev pub abort_answered : List (ℕ × EngineEntry ℕ)
abort_answered = with_start_of None (turn_for 0 Start ∷ no_by 0 ∷ turn_for 0 StartAbort ∷ yes_by 0 ∷ turn_for 1 StartAbort ∷ yes_by 1 ∷ [])

-- a client registers by its sequence number
abbrev pub joins : (number sequence : ℕ) → ℕ × EngineEntry ℕ
joins number sequence = (0, Register [] (at_all sequence) true true (Ok number))

-- a start with a dump
abbrev pub dump_waits : List (ℕ × EngineEntry ℕ)
dump_waits = with_start_of (Some (7 ∷ [])) []

-- the first client refused the start, and Done says who did
abbrev pub called_off_by : (client : ℕ) → List (ClientTally ℕ) → ℕ × EngineEntry ℕ
called_off_by client tallies = (0, Check (Done (Refused client NotReady)) tallies)

-- a transition is done that no client refused
abbrev pub done_with : List (ClientTally ℕ) → ℕ × EngineEntry ℕ
done_with tallies = (0, Check (Done Completed) tallies)

-- one client is given the dump and the report of no events, and takes the start; its No to the stop is a Yes
abbrev pub stop_answered_no : List (ℕ × EngineEntry ℕ)
stop_answered_no =
    joins 0 1 ∷ (0, Begin Start (record { run = 1; time = 1000; quota = 0; dump = Some (7 ∷ []); blanks = 0 ∷ [] }) (Ok 1))
    ∷ (0, Poll 0 (Turn Start (order_for (sheet_with None) 1 Stopped) (Some (7 ∷ [])) (Some (0)))) ∷ yes_by 0 ∷ done_with (plain 0 ∷ [])
    ∷ (0, Begin Stop (sheet_with None) (Ok 1)) ∷ (0, Poll 0 (Turn Stop (order_for (sheet_with None) 1 Running) None None)) ∷ no_by 0 ∷ done_with (plain 0 ∷ []) ∷ []

-- Groups.

-- it has a number for each transition
abbrev pub joins_with : (number start start_abort : ℕ) → ℕ × EngineEntry ℕ
joins_with number start start_abort =
    (0, Register [] (record { start = Some start; stop = Some start; pause = None; resume = None; start_abort = Some start_abort }) true true (Ok number))

-- clients 0 and 1 are called together, behind client 2 for a start and before it for start-abort
abbrev pub with_group : List (ℕ × EngineEntry ℕ) → List (ℕ × EngineEntry ℕ)
with_group es = joins_with 0 500 500 ∷ joins_with 1 500 500 ∷ joins_with 2 200 800 ∷ (0, Begin Start (sheet_with None) (Ok 1)) ∷ es

-- the client has no turn
abbrev pub idle_for : (client : ℕ) → ℕ × EngineEntry ℕ
idle_for client = (client, Poll client (Idle Stopped))

-- client 1 refuses the start while client 0 has its turn of it
abbrev pub refused_in_group : List (ℕ × EngineEntry ℕ)
refused_in_group =
    with_group
    (idle_for 0 ∷ turn_for 2 Start ∷ yes_by 2 ∷ turn_for 1 Start ∷ turn_for 0 Start ∷ no_by 1 ∷ idle_for 2 ∷ yes_by 0
    ∷ turn_for 0 StartAbort ∷ turn_for 1 StartAbort ∷ idle_for 2 ∷ yes_by 0 ∷ yes_by 1 ∷ turn_for 2 StartAbort ∷ yes_by 2
    ∷ called_off_by 1 (plain 2 ∷ plain 0 ∷ plain 0 ∷ plain 1 ∷ plain 2 ∷ []) ∷ [])

-- client 2, whose group comes first, has its turn and has not answered
abbrev pub before_the_group : List (ℕ × EngineEntry ℕ)
before_the_group = with_group (turn_for 2 Start ∷ [])

-- three clients that are called together
abbrev pub with_three : List (ℕ × EngineEntry ℕ) → List (ℕ × EngineEntry ℕ)
with_three es = joins 0 1 ∷ joins 1 1 ∷ joins 2 1 ∷ (0, Begin Start (sheet_with None) (Ok 1)) ∷ es

-- two have their turn, and one of them refuses the start
abbrev pub one_refused : List (ℕ × EngineEntry ℕ)
one_refused = with_three (turn_for 0 Start ∷ turn_for 1 Start ∷ no_by 0 ∷ [])

-- so does the other one, and all three answer to start-abort, in another order
abbrev pub two_refused : List (ℕ × EngineEntry ℕ)
two_refused =
    one_refused
    ++ no_by 1 ∷ turn_for 2 StartAbort ∷ turn_for 0 StartAbort ∷ yes_by 0 ∷ turn_for 1 StartAbort ∷ yes_by 1 ∷ yes_by 2 ∷ []

-- Done names the first one, and neither No is among the answers
abbrev pub refused_twice : List (ℕ × EngineEntry ℕ)
refused_twice = two_refused ++ called_off_by 0 (plain 0 ∷ plain 1 ∷ plain 2 ∷ []) ∷ []

-- Done names the second one
abbrev pub second_refuser : List (ℕ × EngineEntry ℕ)
second_refuser = two_refused ++ called_off_by 1 (plain 0 ∷ plain 1 ∷ plain 2 ∷ []) ∷ []

-- Done has the No of the second one among the answers
abbrev pub second_counted : List (ℕ × EngineEntry ℕ)
second_counted = two_refused ++ called_off_by 0 (plain 1 ∷ plain 0 ∷ plain 1 ∷ plain 2 ∷ []) ∷ []

-- one has its turn
abbrev pub one_turned : List (ℕ × EngineEntry ℕ)
one_turned = with_three (turn_for 0 Start ∷ [])
