-- Readers of files in memory, of which one reads on.
use Rattle.std.proofs.Common.{◌≡◌, ℕ, ◌+◌, ◌<◌, suc, zero, List, [], ◌∷◌, ◌++◌, length, take, drop, set, get_or, slice_get, Some, refl, sym, ◌∙◌, ap, arith}
use Rattle.std.proofs.lemmas.Option.{slice_get_read}
use Rattle.daq_mem.specs.MemSeen.{left_of_reader, left_at}
use Rattle.daq_mem.specs.declared.readers.Reader.{Reader}
use Rattle.daq_io.proofs.ReadingLaws.{read_front}

pub slice_get-set_same : {X : Type 0} (xs : List X) (i : ℕ) (x : X) → i < length xs → slice_get (set xs i x) i ≡ Some x
slice_get-set_same [] i x h = absurd (omega arith)
slice_get-set_same (y ∷ ys) zero x h = refl
slice_get-set_same (y ∷ ys) (suc i) x h = slice_get-set_same ys i x (omega arith)

-- the bytes read and those left behind them
pub reads_on : (readers : List Reader) (n : ℕ) (old new : Reader) (into : List ℕ) (count : ℕ) → n < length readers → old ≡ get_or readers n old → new.bytes.bytes ≡ old.bytes.bytes → new.at ≡ old.at + count
    → take count into ≡ take count (drop old.at old.bytes.bytes) → left_at readers n ≡ take count into ++ left_at (set readers n new) n
reads_on readers n old new into count h is bytes_is at_is front =
    let after : left_at (set readers n new) n ≡ drop (old.at + count) old.bytes.bytes =
    ap left_of_reader (slice_get-set_same readers n new h) ∙ (ap (λ bytes. drop new.at bytes) bytes_is ∙ ap (λ at. drop at old.bytes.bytes) at_is) in
    ap left_of_reader (slice_get_read readers (length readers) n old refl h is)
    ∙ (read_front old.bytes.bytes into old.at count front ∙ ap (λ left. take count into ++ left) (sym after))
