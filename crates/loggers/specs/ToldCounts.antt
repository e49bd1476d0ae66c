-- How many faults and clashes of the run files a logger told, in how many turns it undid what was opened, and how many of its
-- channels broke off in a run that is not settled.
use Rattle.std.specs.Prelude.{ℕ, is_some, sum_by, count_by, List, Option, Some, None}
use Rattle.daq_types.specs.declared.runs.ChannelEnd.{ChannelEnd}
use Rattle.daq_types.specs.declared.runs.ChannelState.{ChannelState}
use Rattle.daq_types.specs.declared.runs.ChannelState.TheVariants.{Broken as IsBroken}
use Rattle.daq_types.specs.declared.runs.Transition.{Transition}
use Rattle.daq_types.specs.declared.runs.Transition.TheVariants.{Start, StartAbort}
use Rattle.daq_types.specs.declared.runs.Why.{Why}
use Rattle.daq_types.specs.declared.runs.Why.TheVariants.{NotReady, Exists, Fault}
use Rattle.buffer_core.specs.Slots.{passes}
use Rattle.member_model.specs.RunEngines.{Answer}
use Rattle.transitions.specs.declared.answers.Answer.TheVariants.{Yes, No}
use Rattle.transitions.specs.declared.answers.Tally.TheVariants.{Channels}
use Rattle.member_model.specs.Turns.{MemberTurn}
use Rattle.mid_logger.specs.declared.channel.Channel.{Channel}
use Rattle.mid_logger.specs.ChannelTurns.{broken_run}

-- A channel that broke off had a fault, and so had a start that was refused for one.
abbrev pub faults_of_state : ChannelState → ℕ
faults_of_state IsBroken = 1
faults_of_state state = 0

-- the faults that are told of this channel
abbrev pub faults_of_end : ChannelEnd → ℕ
faults_of_end told = faults_of_state told.state

abbrev pub faults_of_refusal : Why → ℕ
faults_of_refusal (Fault channel) = 1
faults_of_refusal why = 0

-- the faults of which an answer tells
abbrev pub faults_of_answer : Answer → ℕ
faults_of_answer (No why) = faults_of_refusal why
faults_of_answer (Yes (Channels ends)) = sum_by faults_of_end ends
faults_of_answer (Yes tally) = 0

-- the clashes of names of which an answer tells: one, where a start was refused for a name
abbrev pub clashes_of_answer : Answer → ℕ
clashes_of_answer (No (Exists channel)) = 1
clashes_of_answer answer = 0

-- what is counted of an answer, if there is one yet
abbrev pub count_in_answer : (count : Answer → ℕ) → Option Answer → ℕ
count_in_answer count None = 0
count_in_answer count (Some answer) = count answer

-- the faults of which the answers to these turns tell
abbrev pub faults_told : List MemberTurn → ℕ
faults_told turns = sum_by (λ t. count_in_answer faults_of_answer t.answer) turns

-- the clashes of which they tell
abbrev pub clashes_told : List MemberTurn → ℕ
clashes_told turns = sum_by (λ t. count_in_answer clashes_of_answer t.answer) turns

-- A start that is refused undoes what was opened; but nothing was, where it is refused as not ready.
abbrev pub undone_of_refusal : Why → ℕ
undone_of_refusal NotReady = 0
undone_of_refusal why = 1

abbrev pub undone_of_answer : Answer → ℕ
undone_of_answer (No why) = undone_of_refusal why
undone_of_answer (Yes tally) = 0

-- a turn in which what was opened is undone: that of a start that is refused, or a start-abort
abbrev pub undone_by : Transition → Option Answer → ℕ
undone_by Start answer = count_in_answer undone_of_answer answer
undone_by StartAbort answer = 1
undone_by transition answer = 0

-- In how many of these turns what was opened was undone. The answer does not tell whether a call on the files failed meanwhile.
abbrev pub starts_undone : List MemberTurn → ℕ
starts_undone turns = sum_by (λ t. undone_by t.transition t.answer) turns

-- how many of these channels broke off in a run that is not settled
abbrev pub broken_off : List (Option Channel) → ℕ
broken_off slots = count_by (passes (λ c. is_some (broken_run c.stage))) slots
