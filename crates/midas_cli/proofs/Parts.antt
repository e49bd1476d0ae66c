-- A text that was written in part or whole.
use Rattle.std.proofs.Common.{ℕ, List, length, Option, Result, Ok, Err, OnOk, OnErr, sym, subst, arith}
use Rattle.std.proofs.lemmas.List.{take_all}
use Rattle.std.specs.Io.KnownBytes.{Appends}
use Rattle.daq_io.specs.Streams.{AppendsPart}

-- a text that was written, or a part of it, is a part of it
pub part_either : {T E : Type 0} (result : Result T E) (old new : Option (List ℕ)) (text : List ℕ) → OnOk result (Appends old new text) → OnErr result (AppendsPart old new text) → AppendsPart old new text
part_either (Ok done) old new text whole part = record { count = length text; appends = subst (λ (xs : List ℕ). Appends old new xs) (sym (take_all (length text) text (omega arith))) whole }
part_either (Err failed) old new text whole part = part
