use Rattle.std.proofs.Common.{◌≡◌, false, take}
use Rattle.daq_mem.specs.Plans.{is_call_listed}
use Rattle.daq_mem.proofs.plans.PlannedFails.is_listed.Given as goal

abbrev pub invariant-loop-fail : goal.invariant-loop-fail
invariant-loop-fail l = is_call_listed (take l.fail-index l.self.fails) l.place l.call ≡ false
