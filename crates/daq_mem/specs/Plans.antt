-- Which calls of an object in memory fail.
use Rattle.std.specs.Prelude.{ℕ, ◌+◌, ◌-◌, ◌^◌, ◌==◌, ◌&&◌, Bool, List, min, slice_index, slice_set}
use Rattle.std.specs.List.{list_any}
use Rattle.daq_mem.specs.declared.plans.FileFail.{FileFail}
use Rattle.daq_mem.specs.declared.plans.FileOp.{FileOp}
use Rattle.daq_mem.specs.declared.plans.FileOp.TheVariants.{Create, Append, Close, Remove, OpenRead, Read}

-- the number of the call after this one: the numbers stand still at 2^64 - 1
abbrev pub next_call : ℕ → ℕ
next_call call = min (call + 1) (2 ^ 64 - 1)

-- The numbers of the calls that fail, from 0, and how many calls there were.
pub record Plan : Type 0 where
  pub fails : List ℕ
  pub calls : ℕ

-- whether the next call is listed
abbrev pub is_planned : Plan → Bool
is_planned plan = list_any (λ number. number == plan.calls) plan.fails

-- the plan after one more call
abbrev pub after_call : Plan → Plan
after_call plan = record plan { calls = next_call plan.calls }

-- the place of an operation on files among all of them
abbrev pub op_place : FileOp → ℕ
op_place Create = 0
op_place Append = 1
op_place Close = 2
op_place Remove = 3
op_place OpenRead = 4
op_place Read = 5

-- The calls on files that fail, by their operation and their number among its calls, from 0, and how many calls there were
-- of each operation, by its place.
pub record FilePlan : Type 0 where
  pub fails : List FileFail
  pub calls : List ℕ

-- whether the call of this number is listed for the operation at this place
abbrev pub is_call_listed : List FileFail → (place call : ℕ) → Bool
is_call_listed fails place call = list_any (λ fail. (op_place fail.op == place) && (fail.call == call)) fails

-- whether the next call of this operation is listed
abbrev pub is_op_planned : FilePlan → FileOp → Bool
is_op_planned plan op = is_call_listed plan.fails (op_place op) (slice_index plan.calls (op_place op))

-- the plan after one more call of this operation
abbrev pub after_op_call : FilePlan → FileOp → FilePlan
after_op_call plan op = record plan { calls = slice_set plan.calls (op_place op) (next_call (slice_index plan.calls (op_place op))) }
