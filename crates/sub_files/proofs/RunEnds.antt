-- The files of a run at its begin, and once the last one is closed.
use Rattle.std.specs.Prelude.{◌≡◌, ◌<◌, ◌≤◌, ◌+◌, ◌^◌, ℕ, suc, List, [], ◌∷◌, ◌++◌, length, take, drop, refl}
use Rattle.std.proofs.Common.{arith, ap, subst, ◌∙◌, inr, append_assoc, take-append-drop}
use Rattle.std.proofs.lemmas.List.{append-nil}
use Rattle.daq_types.specs.declared.events.Event.{Event}
use Rattle.event.specs.Events.{record_limit}
use Rattle.event.specs.RunFile.{begun_file}
use Rattle.daq_io.specs.declared.folder.FileState.TheVariants.{Closed}
use Rattle.daq_io.specs.Seen.{Seen, Creates, Closes, IsStored}
use Rattle.daq_io.proofs.SeenLaws.{Creates-IsWritten, IsWritten-Closes, IsWritten-Leaves}
use Rattle.sub_files.specs.declared.open_file.OpenFile.{OpenFile}
use Rattle.sub_files.specs.declared.open_file.RunHead.{RunHead}
use Rattle.sub_files.specs.Patterns.{NamePattern, piece_name_by}
use Rattle.sub_files.specs.Pieces.{Series, series_of, piece_name, begun_piece, head_bytes, ArePiecesStored, AreFilesStored, HoldsRun, HasRun, HasPart}
use Rattle.sub_files.specs.RecordFiles.{ClosesPart}
use Rattle.sub_files.specs.Rolls.{first_file, fallen_at}
use Rattle.sub_files.proofs.ClosedFiles.{left_kept, pieces_kept}
use Rattle.sub_files.proofs.CutLaws.{first_cut, length-push}

pub begun_holds : (a b : Seen) (pattern : NamePattern) (limit : ℕ) (head : RunHead) (dump : List ℕ) (file : ℕ) → limit < 2 ^ 32 → length dump ≤ record_limit
    → Creates a b (piece_name_by pattern head.run 0) file (begun_file head.run head.time dump []) → HoldsRun b (series_of pattern limit head dump) (first_file dump file) []
begun_holds a b pattern limit head dump file within small makes = record {
  within = within;
  small = small;
  closed = [];
  piece = [];
  cut = first_cut limit (head_bytes dump);
  number = refl;
  few = omega arith;
  counted = λ some. omega (arith, small);
  stored = tt;
  file = Creates-IsWritten makes;
}

-- the last file behind the others
files_push : (seen : Seen) (s : Series) (last : List ℕ) (number : ℕ) (closed : List (List Event)) (piece : List Event) → ArePiecesStored seen s number closed → IsStored seen (piece_name s (number + length closed)) (begun_piece s piece ++ last)
    → AreFilesStored seen s last number (closed ++ piece ∷ [])
files_push seen s last number [] piece stored file =
    let none : number + length {A = List Event} [] ≡ number = omega arith in
    subst (λ (n : ℕ). IsStored seen (piece_name s n) (begun_piece s piece ++ last)) none file
files_push seen s last number (p ∷ []) piece stored file =
    let one : number + length (p ∷ []) ≡ suc number = omega arith in
    (stored.0, subst (λ (n : ℕ). IsStored seen (piece_name s n) (begun_piece s piece ++ last)) one file)
files_push seen s last number (p ∷ (q ∷ closed)) piece stored file =
    let count : number + length (p ∷ (q ∷ closed)) ≡ suc number + length (q ∷ closed) = omega arith in
    (stored.0, files_push seen s last (suc number) (q ∷ closed) piece stored.1 (subst (λ (n : ℕ). IsStored seen (piece_name s n) (begun_piece s piece ++ last)) count file))

pub closed_run : (a b : Seen) (s : Series) (open_file : OpenFile) (last : List ℕ) (events : List Event) → HoldsRun a s open_file events → Closes a b open_file.file Closed last → HasRun b s (open_file.sub + 1) open_file.taken last events
closed_run a b s open_file last events h closes = record {
  small = h.small;
  pieces = h.closed ++ h.piece ∷ [];
  cut = h.cut;
  many = ap (λ (n : ℕ). n + 1) h.number ∙ (omega (arith, length-push h.closed h.piece));
  few = let few = h.few in omega (arith, few);
  stored = files_push b s last 0 h.closed h.piece (pieces_kept s 0 h.closed (left_kept h.file closes.leaves) h.stored)
      (subst (λ (n : ℕ). IsStored b (piece_name s n) (begun_piece s h.piece ++ last)) (h.number ∙ (omega arith)) (IsWritten-Closes h.file closes));
}

pub closed_part : (a b : Seen) (s : Series) (open_file : OpenFile) (last : List ℕ) (events : List Event) → HoldsRun a s open_file events → ClosesPart a b open_file.file last → HasPart b s (fallen_at (open_file.sub + 1) open_file.sub) last events
closed_part a b s open_file last events h part = record {
  small = h.small;
  first = events;
  front = ([], append-nil events);
  ends = inr refl;
  taken = open_file.taken;
  whole = h.closed;
  rest = h.piece ∷ [];
  some = omega arith;
  two = omega arith;
  cut = h.cut;
  framed = h.number;
  files = ap (λ (n : ℕ). n + 1) h.number;
  few = let few = h.few in omega (arith, few);
  stored = pieces_kept s 0 h.closed (left_kept h.file part.leaves) h.stored;
  parts = IsWritten-Leaves h.file part.leaves
      (drop part.count last, append_assoc (begun_piece s h.piece) (take part.count last) (drop part.count last) ∙ ap (λ (bytes : List ℕ). begun_piece s h.piece ++ bytes) (take-append-drop part.count last));
}
