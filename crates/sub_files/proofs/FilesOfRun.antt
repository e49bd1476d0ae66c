-- Each file of a run that is closed, by its number.
use Rattle.std.specs.Prelude.{◌≡◌, ◌≢◌, ℕ, suc, zero, ◌+◌, Bool, List, [], ◌∷◌, ◌++◌, length, slice_get, Some, refl}
use Rattle.std.proofs.Common.{arith, ap, subst, ◌∙◌}
use Rattle.daq_types.specs.declared.events.Event.{Event}
use Rattle.daq_io.specs.Seen.{Seen, IsStored}
use Rattle.sub_files.specs.Pieces.{Series, piece_name, begun_piece, between, AreFilesStored, HasRun, IsFileOf}

-- the same, where the files are counted from another number on, so that this one's name has the number `named`
record FileAt (seen : Seen) (s : Series) (last : List ℕ) (many number named : ℕ) (piece : List Event) : Type 0 where
  last_file : suc number ≡ many → IsStored seen (piece_name s named) (begun_piece s piece ++ last)
  other_file : suc number ≢ many → IsStored seen (piece_name s named) (begun_piece s piece ++ between s.head)

-- the first file, and its number
is_stored : (seen : Seen) (s : Series) (start named : ℕ) (p piece : List Event) (last : List ℕ) → named ≡ start → Some p ≡ Some piece → IsStored seen (piece_name s start) (begun_piece s p ++ last) → IsStored seen (piece_name s named) (begun_piece s piece ++ last)
is_stored seen s start named p piece last is same stored =
    let equal : p ≡ piece = cc (same) in
    subst (λ (q : List Event). IsStored seen (piece_name s named) (begun_piece s q ++ last)) equal (rw is stored)

file_at : (seen : Seen) (s : Series) (last : List ℕ) (start : ℕ) (pieces : List (List Event)) (number named : ℕ) (piece : List Event) → named ≡ start + number → AreFilesStored seen s last start pieces → slice_get pieces number ≡ Some piece
    → FileAt seen s last (length pieces) number named piece
file_at seen s last start [] number named piece is stored here = absurd stored
file_at seen s last start (p ∷ []) zero named piece is stored here = record {
  last_file = λ one. is_stored seen s start named p piece last (is ∙ omega arith) here stored;
  other_file = λ more. absurd (more refl);
}
file_at seen s last start (p ∷ []) (suc n) named piece is stored here = absurd (cc (here))
file_at seen s last start (p ∷ (q ∷ ps)) zero named piece is stored here = record {
  last_file = λ one. absurd (cc (one));
  other_file = λ more. is_stored seen s start named p piece (between s.head) (is ∙ omega arith) here stored.0;
}
file_at seen s last start (p ∷ (q ∷ ps)) (suc n) named piece is stored here =
    let next : FileAt seen s last (length (q ∷ ps)) n named piece = file_at seen s last (suc start) (q ∷ ps) n named piece (omega (arith, is)) stored.1 here in
    record {
      last_file = λ one. next.last_file (omega (arith, one));
      other_file = λ more. next.other_file (λ one. more (ap (λ (k : ℕ). suc k) one));
    }

pub files_of_run : (seen : Seen) (s : Series) (files : ℕ) (taken : Bool) (last : List ℕ) (events : List Event) (h : HasRun seen s files taken last events) (number : ℕ) (piece : List Event) → slice_get h.pieces number ≡ Some piece
    → IsFileOf seen s last (length h.pieces) number piece
files_of_run seen s files taken last events h number piece here =
    let at : FileAt seen s last (length h.pieces) number number piece = file_at seen s last 0 h.pieces number number piece (omega arith) h.stored here in
    record { last_file = at.last_file; other_file = at.other_file }
