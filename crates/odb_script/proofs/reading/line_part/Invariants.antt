use Rattle.std.proofs.Common.{◌≢◌, take, All}
use Rattle.odb_script.proofs.reading.line_part.Given as goal

abbrev pub invariant-loop-len : goal.invariant-loop-len
invariant-loop-len l = All (λ b. b ≢ 10) (take l.len l.bytes)
