-- A source over one of several files, after each of its reads.
use Rattle.std.proofs.Common.{◌≡◌, ◌∙◌, ℕ, List, [], ◌++◌, length, take, Result, Ok, Err, IfOk, OnErr, sym, ap, subst, append_assoc}
use Rattle.std.specs.Prelude.{IsTrue}
use Rattle.std.specs.Io.{ReadsAtMost}
use Rattle.std.proofs.Common.{length-append}
use Rattle.daq_io.specs.declared.faults.Failed.{Failed}
use Rattle.daq_io.specs.Counts.{RoseJustBy}
use Rattle.daq_io.specs.FileLeft.{ReadsFirst, IsOneRead}
use Rattle.daq_io.specs.Seen.{Seen, Reads, Same}
use Rattle.daq_io.proofs.Counts.{RoseJustBy-none, RoseJustBy-then}
use Rattle.daq_io.proofs.SeenLaws.{KeepsFiles-trans, KeepsOthers-trans}

module _ (first old new : Seen) (number count_first count_old count_new : ℕ) where
  reads_more : (bytes : List ℕ) → ReadsFirst first old number count_first count_old → old.left number ≡ bytes ++ new.left number → RoseJustBy (length bytes) count_old count_new
      → ReadsFirst first new number count_first count_new
  reads_more bytes r left counted = record {
    bytes = r.bytes ++ bytes;
    were_left = r.were_left ∙ ap (λ (l : List ℕ). r.bytes ++ l) left ∙ sym (append_assoc r.bytes bytes (new.left number));
    counted = subst (λ (n : ℕ). RoseJustBy n count_first count_new) (sym (length-append r.bytes bytes)) (RoseJustBy-then (length r.bytes) (length bytes) count_first count_old count_new r.counted counted);
  }

  pub one_read_on : (into : List ℕ) (r : Result ℕ Failed) → IsOneRead first old number count_first count_old → ReadsAtMost r into → IfOk r (λ count. Reads old new number (take count into)) → OnErr r (Same old new)
      → IfOk r (λ count. IsTrue old.names → RoseJustBy count count_old count_new) → OnErr r (count_new ≡ count_old) → IsOneRead first new number count_first count_new
  one_read_on into (Ok count) o within reads kept counted none = record {
    reads = reads.reads;
    files = KeepsFiles-trans o.files reads.files;
    others = KeepsOthers-trans o.others reads.others;
    front = λ told. let tells : IsTrue old.names = o.files.names ∙ told in
        reads_more (take count into) (o.front told) (reads.consumes tells) (subst (λ (n : ℕ). RoseJustBy n count_old count_new) within.1 (counted tells));
  }
  one_read_on into (Err failed) o within reads kept counted none = record {
    reads = (kept.numbers number).reads ∙ o.reads;
    files = KeepsFiles-trans o.files kept.files;
    others = KeepsOthers-trans o.others (λ other ne. kept.numbers other);
    front = λ told. reads_more [] (o.front told) (sym ((kept.numbers number).left o.reads)) (RoseJustBy-none count_old count_new none);
  }
