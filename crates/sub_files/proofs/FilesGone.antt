-- A file that was being written, and is closed and removed.
use Rattle.std.specs.Prelude.{◌≡◌, ◌≢◌, ℕ, IsTrue, Contains, List, [], ◌∷◌, ◌++◌, Result, Ok, Err, OnOk, OnErr, refl}
use Rattle.std.proofs.Common.{ap, sym, subst, ◌∙◌, append_assoc, inl, inr}
use Rattle.std.proofs.lemmas.List.Elements.{Contains-append_left, Contains-append_right, Contains-push}
use Rattle.daq_io.specs.declared.folder.FileState.{FileState}
use Rattle.daq_io.specs.Seen.{FileDone, Seen, GoesOn, IsFree, KeepsFiles, KeepsNumbers, Touches, Same, Closes, Removes, was_removed}
use Rattle.daq_io.proofs.SeenLaws.{KeepsFiles-Touches, KeepsOthers-trans, Touches-trans, name_tells, on_more, on_same, on_then}
use Rattle.sub_files.specs.RecordFiles.{DropsFile, IsUndone, WasTakenAway}

-- what was removed since the later of two times was so since the earlier one
pub taken_before : {a b c : Seen} {name : List ℕ} → GoesOn a b → WasTakenAway b c name → WasTakenAway a c name
taken_before {a} {b} {c} {name} on p = record {
  since = on.done.0 ++ p.since;
  done = p.done ∙ (ap (λ (done : List FileDone). done ++ p.since) (sym on.done.1) ∙ append_assoc a.done on.done.0 p.since);
  removed = Contains-append_right on.done.0 p.since (was_removed name) p.removed;
}

-- it stays so
pub taken_behind : {a b c : Seen} {name : List ℕ} → WasTakenAway a b name → GoesOn b c → WasTakenAway a c name
taken_behind {a} {b} {c} {name} p on = record {
  since = p.since ++ on.done.0;
  done = sym on.done.1 ∙ (ap (λ (done : List FileDone). done ++ on.done.0) p.done ∙ append_assoc a.done p.since on.done.0);
  removed = Contains-append_left p.since on.done.0 (was_removed name) p.removed;
}

-- the call that removes a file
pub removed_undone : {a b : Seen} {name : List ℕ} → Removes a b name → IsUndone a b name
removed_undone {a} {b} {name} p = record {
  gone = λ told. p.gone (sym p.touches.names ∙ told);
  away = record { since = was_removed name ∷ []; done = p.done; removed = Contains-push [] (was_removed name) };
}

pub undone_before : {a b c : Seen} {name : List ℕ} → GoesOn a b → IsUndone b c name → IsUndone a c name
undone_before on p = record { gone = p.gone; away = taken_before on p.away }

-- a file that is gone stays so
pub undone_elsewhere : {a b c : Seen} {name other : List ℕ} → IsUndone a b name → Touches b c other → GoesOn b c → name ≢ other → IsUndone a c name
undone_elsewhere {name = name} p touches on ne = record { gone = λ told. touches.others name ne ∙ p.gone (sym touches.names ∙ told); away = taken_behind p.away on }

pub undone_kept : {a b c : Seen} {name : List ℕ} → IsUndone a b name → KeepsFiles b c → IsUndone a c name
undone_kept {name = name} p kept = record { gone = λ told. kept.at name ∙ p.gone (sym kept.names ∙ told); away = taken_behind p.away (on_same kept.done) }

-- a file that is no more written, and then removed or not
free_number : {a b : Seen} {file : ℕ} → IsFree a file → KeepsNumbers a b → IsFree b file
free_number {file = file} free numbers = record { writes = (numbers file).writes ∙ free.writes; reads = (numbers file).reads ∙ free.reads }

dropped_so : {a b c : Seen} {file : ℕ} {name : List ℕ} {state : FileState} → Closes a b file state [] → a.name_of file ≡ name → Touches b c name → KeepsNumbers b c → GoesOn b c → DropsFile a c file name
dropped_so {a} {b} {c} {file} {name} p named touches numbers on = record {
  touches = Touches-trans (subst (λ (m : List ℕ). Touches a b m) named p.leaves.touches) touches;
  on = on_then (on_more _ p.leaves.done) on;
  others = KeepsOthers-trans p.leaves.others (λ other ne. numbers other);
  free = free_number p.leaves.free numbers;
}

pub dropped : {T E : Type 0} {a b c : Seen} {file : ℕ} {name : List ℕ} {state : FileState} (r : Result T E) → Closes a b file state [] → a.name_of file ≡ name → OnOk r (Removes b c name) → OnErr r (Same b c) → DropsFile a c file name
dropped (Ok x) p named removed kept = dropped_so p named removed.touches removed.numbers (on_more _ removed.done)
dropped {name = name} (Err why) p named removed kept = dropped_so p named (KeepsFiles-Touches name kept.files) kept.numbers (on_same kept.files.done)

pub undone : {T E : Type 0} {a b : Seen} {file : ℕ} {state : FileState} (c : Seen) (name : List ℕ) (r : Result T E) → Closes a b file state [] → OnOk r (Removes b c name) → OnOk r (IsUndone a c name)
undone c name (Ok x) p removed = undone_before (on_more _ p.leaves.done) (removed_undone removed)
undone c name (Err why) p removed = tt
