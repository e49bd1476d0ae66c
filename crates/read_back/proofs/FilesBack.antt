-- The files of a run that are closed are run files, whose names are those that `analyze` is given.
use Rattle.std.proofs.Common.{◌≡◌, ◌∙◌, ℕ, suc, ◌+◌, ◌<◌, ◌≤◌, ◌^◌, List, [], ◌∷◌, ◌++◌, length, slice_get, Some, All, refl, ap, subst, arith}
use Rattle.std.specs.Prelude.{IsTrue}
use Rattle.std.specs.Io.KnownBytes.{Appends}
use Rattle.std.proofs.lemmas.List.Elements.{All-head, All-tail}
use Rattle.daq_types.specs.declared.events.Event.{Event}
use Rattle.daq_io.specs.Seen.{Seen, stored_closed}
use Rattle.event.specs.RunFile.{run_file}
use Rattle.event_report.specs.Reports.{report_of}
use Rattle.event_report.specs.Texts.{report_text}
use Rattle.midas_tools.specs.Analyses.{analysis_text}
use Rattle.midas_tools.specs.Pieces.{AreRunFilesWith, total_bytes}
use Rattle.midas_tools.specs.Texts.{run_number_line}
use Rattle.midas_tools.specs.Together.{HaveBytes, TellsRun, WritesTogether}
use Rattle.midas_tools.specs.declared.ends.ToolEnd.{ToolEnd}
use Rattle.midas_tools.specs.declared.ends.ToolEnd.TheVariants.{Done}
use Rattle.midas_tools.proofs.Pieces.{have_one}
use Rattle.sub_files.specs.Cuts.{events_of_pieces}
use Rattle.sub_files.specs.Patterns.{NamePattern, piece_name_by}
use Rattle.read_back.specs.FilesBack.{FilesReadBack, HasAsStored, piece_names, IsClosedFile}

-- the law of what `analyze` prints
abbrev pub AnalysisPrinted : Type 0
AnalysisPrinted = (seen : Seen) → (names files : List (List ℕ)) → (run : ℕ) → (events : List Event) → (text : List ℕ)
    → HaveBytes seen names files → 0 < length files → AreRunFilesWith run files events → run < 2 ^ 32 → All (λ e. e.id < 2 ^ 16) events
    → TellsRun analysis_text seen names text → text ≡ analysis_text run events (total_bytes files)

-- the files of these names are there, one for each piece, and are run files of the run
record AreThere (seen : Seen) (run : ℕ) (names : List (List ℕ)) (pieces : List (List Event)) : Type 0 where
  files : List (List ℕ)
  many : length files ≡ length pieces
  have : HaveBytes seen names files
  are : total_bytes files ≤ 2 ^ 62 → AreRunFilesWith run files (events_of_pieces pieces)

module _ (files seen : Seen) (pattern : NamePattern) (run : ℕ) where
  -- the files from this number on
  abbrev ClosedFrom : (first : ℕ) → (pieces : List (List Event)) → Type 0
  ClosedFrom first pieces = (number : ℕ) → (piece : List Event) → slice_get pieces number ≡ Some piece → IsClosedFile files (piece_name_by pattern run (first + number)) run piece

  abbrev AreAlike : (names : List (List ℕ)) → Type 0
  AreAlike names = All (HasAsStored files seen) names

  closed_next : (first : ℕ) (piece : List Event) (pieces : List (List Event)) → ClosedFrom first (piece ∷ pieces) → ClosedFrom (suc first) pieces
  closed_next first piece pieces closed number next at =
      let name : first + suc number ≡ suc first + number = omega arith in
      subst (λ (n : ℕ). IsClosedFile files (piece_name_by pattern run n) run next) name (closed (suc number) next at)

  closed_first : (first : ℕ) (piece : List Event) (pieces : List (List Event)) → ClosedFrom first (piece ∷ pieces) → IsClosedFile files (piece_name_by pattern run first) run piece
  closed_first first piece pieces closed =
      let name : first + 0 ≡ first = omega arith in
      subst (λ (n : ℕ). IsClosedFile files (piece_name_by pattern run n) run piece) name (closed 0 piece refl)

  are_there : (first : ℕ) (pieces : List (List Event)) → AreAlike (piece_names pattern run first (length pieces)) → ClosedFrom first pieces → AreThere seen run (piece_names pattern run first (length pieces)) pieces
  are_there first [] alike closed = record { files = []; many = refl; have = tt; are = λ counted. refl }
  are_there first (piece ∷ pieces) alike closed =
      let names : List (List ℕ) = piece_names pattern run (suc first) (length pieces) in
      let name : List ℕ = piece_name_by pattern run first in
      let file : IsClosedFile files name run piece = closed_first first piece pieces closed in
      let bytes : List ℕ = run_file run file.time0 file.dump0 piece file.time1 file.dump1 in
      let rest : AreThere seen run names pieces = are_there (suc first) pieces (All-tail (HasAsStored files seen) name names alike) (closed_next first piece pieces closed) in
      record {
        files = bytes ∷ rest.files;
        many = ap (λ (n : ℕ). suc n) rest.many;
        have = (record { file = stored_closed bytes; at_is = All-head (HasAsStored files seen) name names alike bytes file.stored; fact = refl }, rest.have);
        are = λ counted. (
          piece,
          events_of_pieces pieces,
          record {
            time0 = file.time0;
            dump0 = file.dump0;
            time1 = file.time1;
            dump1 = file.dump1;
            file = record { is_file = refl; begins_small = file.begins_small; ends_small = file.ends_small; fine = file.fine; counted = omega (arith, counted) };
          },
          rest.are (omega (arith, counted)),
          refl,
        );
      }

pub files_back : AnalysisPrinted → FilesReadBack
files_back prints files pattern run pieces some closed small short seen told_old told_new end tell alike wrote done =
    let names : List (List ℕ) = piece_names pattern run 0 (length pieces) in
    let all : WritesTogether analysis_text seen names told_old told_new Done = subst (λ (e : ToolEnd). WritesTogether analysis_text seen names told_old told_new e) done wrote in
    let tells : TellsRun analysis_text seen names all.text = all.finds.1 tell in
    let there : AreThere seen run names pieces =
    are_there files seen pattern run 0 pieces alike (λ number piece at. let name : number ≡ 0 + number = omega arith in subst (λ (n : ℕ). IsClosedFile files (piece_name_by pattern run n) run piece) name (closed number piece at)) in
    let counted : total_bytes there.files ≤ 2 ^ 62 = subst (λ (fs : List (List ℕ)). total_bytes fs ≤ 2 ^ 62) (have_one seen names tells.holds.files there.files tells.holds.have there.have) tells.holds.are.counted in
    let text : all.text ≡ run_number_line run ++ report_text [] (report_of (events_of_pieces pieces)) =
    prints seen names there.files run (events_of_pieces pieces) all.text there.have (omega (arith, some, there.many)) (there.are counted) small short tells in
    subst (λ (t : List ℕ). Appends told_old told_new t) text all.written
