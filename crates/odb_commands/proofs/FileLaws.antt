-- What is known of a file that was written and closed, from the calls on it.
use Rattle.std.specs.Prelude.{ℕ, List, [], length, Result, Ok, Err, OnOk, OnErr}
use Rattle.std.proofs.Common.{sym, subst, arith}
use Rattle.std.proofs.lemmas.List.{append-nil, take_all}
use Rattle.daq_io.specs.declared.folder.FileState.{FileState}
use Rattle.daq_io.specs.declared.folder.FileState.TheVariants.{Closed, InVain}
use Rattle.daq_io.specs.Seen.{Seen, close_state, Extends, ExtendsPart, LeavesFile, Closes}
use Rattle.daq_io.proofs.SeenLaws.{Extends-Closes, ExtendsPart-Closes}
use Rattle.odb_commands.specs.WholeFiles.{ClosesFirstPart}

-- a text that was appended whole, and the file closed, whole or in vain
pub whole_closed : {a b c : Seen} {n : ℕ} {state : FileState} {text : List ℕ} → Extends a b n text → Closes b c n state [] → Closes a c n state text
whole_closed {a} {b} {c} {n} {state} {text} p q = subst (λ (bytes : List ℕ). Closes a c n state bytes) (append-nil text) (Extends-Closes p q)

-- a part of it
pub part_closed : {a b c : Seen} {n : ℕ} {state : FileState} {text : List ℕ} → ExtendsPart a b n text → Closes b c n state [] → ClosesFirstPart a c n text
part_closed {state = state} p q = record { count = p.count; state = state; leaves = ExtendsPart-Closes p q }

-- or all of it
all_closed : {a b : Seen} {n : ℕ} {state : FileState} {text : List ℕ} → LeavesFile a b n state text → ClosesFirstPart a b n text
all_closed {a} {b} {n} {state} {text} p =
    record { count = length text; state = state; leaves = subst (λ (bytes : List ℕ). LeavesFile a b n state bytes) (sym (take_all (length text) text (omega arith))) p }

-- the close was answered Ok, and the file is closed whole
pub closed_whole : {T E : Type 0} {a b : Seen} {n : ℕ} {text : List ℕ} (r : Result T E) → Closes a b n (close_state r) text → OnOk r (Closes a b n Closed text)
closed_whole (Ok done) p = p
closed_whole (Err why) p = tt

-- the close failed, and the file is closed in vain
pub closed_in_vain : {T E : Type 0} {a b : Seen} {n : ℕ} {text : List ℕ} (r : Result T E) → Closes a b n (close_state r) text → OnErr r (ClosesFirstPart a b n text)
closed_in_vain (Ok done) p = tt
closed_in_vain (Err why) p = all_closed p.leaves
