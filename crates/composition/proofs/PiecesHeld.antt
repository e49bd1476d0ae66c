-- Each file of a run holds its piece of the events.
use Rattle.std.specs.Prelude.{◌≡◌, ℕ, zero, suc, ◌+◌, ◌≤◌, Bool, true, false, if◌then◌else◌, List, [], ◌∷◌, ◌++◌, All, length, slice_get, Some, refl}
use Rattle.std.proofs.Common.{ap, sym, ◌∙◌, subst, arith, append_assoc, length-append}
use Rattle.std.proofs.lemmas.Bool.{eqb-true, eqb-false}
use Rattle.std.proofs.lemmas.List.Elements.{All-nil, All-cons, All-head, All-tail}
use Rattle.daq_types.specs.declared.events.Event.{Event}
use Rattle.event.specs.Events.{encoding, all_encoded, record_limit}
use Rattle.event.specs.RunFile.{begin_record, end_record, begun_file, run_file, IsFileEvent, IsRunFile}
use Rattle.event.proofs.Events.{all_encoded-append}
use Rattle.buffer_core.proofs.SlotLaws.{split}
use Rattle.daq_io.specs.Seen.{IsStored}
use Rattle.sub_files.specs.Cuts.{events_of_pieces}
use Rattle.sub_files.specs.Pieces.{IsFileOf}
use Rattle.member_model.specs.LoggerKept.{LoggerChannel}
use Rattle.composition.specs.Sessions.{Session}
use Rattle.composition.specs.SessionRuns.{SessionRun, begin_dump, file_name, series_in, last_record, is_last, end_time, end_dump, HoldsPiece}

-- A piece among the events.

record StandsIn (events piece : List Event) : Type 0 where
  before : List Event
  after : List Event
  is : events ≡ before ++ (piece ++ after)

stands_in : (pieces : List (List Event)) (number : ℕ) (piece : List Event) → slice_get pieces number ≡ Some piece → StandsIn (events_of_pieces pieces) piece
stands_in [] number piece at = absurd (cc (at))
stands_in (p ∷ pieces) zero piece at =
    let same : p ≡ piece = cc (at) in
    record { before = []; after = events_of_pieces pieces; is = ap (λ (x : List Event). x ++ events_of_pieces pieces) same }
stands_in (p ∷ pieces) (suc number) piece at =
    let rest : StandsIn (events_of_pieces pieces) piece = stands_in pieces number piece at in
    record { before = p ++ rest.before; after = rest.after; is = ap (λ (x : List Event). p ++ x) rest.is ∙ sym (append_assoc p rest.before (piece ++ rest.after)) }

all_front : (P : Event → Type 0) (xs ys : List Event) → All P (xs ++ ys) → All P xs
all_front P [] ys all = All-nil P
all_front P (x ∷ xs) ys all = All-cons P x xs (All-head P x (xs ++ ys) all) (all_front P xs ys (All-tail P x (xs ++ ys) all))

all_back : (P : Event → Type 0) (xs ys : List Event) → All P (xs ++ ys) → All P ys
all_back P [] ys all = all
all_back P (x ∷ xs) ys all = all_back P xs ys (All-tail P x (xs ++ ys) all)

fine_piece : (events piece : List Event) → StandsIn events piece → All IsFileEvent events → All IsFileEvent piece
fine_piece events piece t fine = all_front IsFileEvent piece t.after (all_back IsFileEvent t.before (piece ++ t.after) (subst (All IsFileEvent) t.is fine))

encoded_both : (xs ys : List Event) → length (all_encoded (xs ++ ys)) ≡ length (all_encoded xs) + length (all_encoded ys)
encoded_both xs ys = ap (λ (bs : List ℕ). length bs) (all_encoded-append xs ys) ∙ length-append (all_encoded xs) (all_encoded ys)

bytes_of_piece : (events piece : List Event) → StandsIn events piece → length (all_encoded piece) ≤ length (all_encoded events)
bytes_of_piece events piece t =
    omega (arith, ap (λ (es : List Event). length (all_encoded es)) t.is, encoded_both t.before (piece ++ t.after), encoded_both piece t.after)

-- The file of a piece is not longer than one of all events.
file_length : (run time0 : ℕ) (dump0 : List ℕ) (events : List Event) (time1 : ℕ) (dump1 : List ℕ)
    → length (run_file run time0 dump0 events time1 dump1) ≡ length (encoding (begin_record run time0 dump0)) + length (all_encoded events) + length (encoding (end_record run time1 dump1))
file_length run time0 dump0 events time1 dump1 =
    omega (arith, length-append (begun_file run time0 dump0 events) (encoding (end_record run time1 dump1)), length-append (encoding (begin_record run time0 dump0)) (all_encoded events))

piece_file : (run time0 : ℕ) (dump0 : List ℕ) (time1 : ℕ) (dump1 : List ℕ) (events piece : List Event) → StandsIn events piece
    → IsRunFile (run_file run time0 dump0 events time1 dump1) run time0 dump0 events time1 dump1 → IsRunFile (run_file run time0 dump0 piece time1 dump1) run time0 dump0 piece time1 dump1
piece_file run time0 dump0 time1 dump1 events piece t whole = record {
  is_file = refl;
  begins_small = whole.begins_small;
  ends_small = whole.ends_small;
  fine = fine_piece events piece t whole.fine;
  counted = omega (arith, whole.counted, bytes_of_piece events piece t, file_length run time0 dump0 events time1 dump1, file_length run time0 dump0 piece time1 dump1);
}

-- The record at the end of each.

pub end_small : (last_dump : List ℕ) (many number : ℕ) → length last_dump ≤ record_limit → length (end_dump last_dump many number) ≤ record_limit
end_small last_dump many number small = small_so (is_last many number)
  where
    small_so : (b : Bool) → length (if b then last_dump else []) ≤ record_limit
    small_so true = small
    small_so false = omega arith

-- Each file that is stored so holds its piece.

-- the run file of these events, which ends as the last one does, or as each other one
abbrev file_ending : SessionRun → (last_dump : List ℕ) → List Event → (is_the_last : Bool) → List ℕ
file_ending r last_dump events is_the_last =
    run_file r.first.run r.first.time (begin_dump r) events (if is_the_last then r.last.time else r.first.time) (if is_the_last then last_dump else [])

-- and which ends as the file of this number, of so many
abbrev pub FitsAs : SessionRun → (last_dump : List ℕ) → (many number : ℕ) → List Event → Type 0
FitsAs r last_dump many number events =
    IsRunFile (file_ending r last_dump events (is_last many number)) r.first.run r.first.time (begin_dump r) events (end_time r many number) (end_dump last_dump many number)

stored_ending : (s : Session) (r : SessionRun) (channel : LoggerChannel) (last_dump : List ℕ) (many number : ℕ) (piece : List Event) → IsFileOf s.files (series_in r channel) (last_record r last_dump) many number piece
    → IsStored s.files (file_name r channel number) (file_ending r last_dump piece (is_last many number))
stored_ending s r channel last_dump many number piece file =
    split (is_last many number) (λ b. IsStored s.files (file_name r channel number) (file_ending r last_dump piece b))
    (λ one. file.last_file (eqb-true (suc number) many one))
    (λ other. file.other_file (eqb-false (suc number) many other))

-- where such a file of all events would be a run file
pub holds_piece : (s : Session) (r : SessionRun) (channel : LoggerChannel) (last_dump : List ℕ) (many : ℕ) (events : List Event) (pieces : List (List Event)) → events_of_pieces pieces ≡ events → ((number : ℕ) → FitsAs r last_dump many number events)
    → (number : ℕ) (piece : List Event) → slice_get pieces number ≡ Some piece → IsFileOf s.files (series_in r channel) (last_record r last_dump) many number piece → HoldsPiece s r channel last_dump many number piece
holds_piece s r channel last_dump many events pieces joins fits number piece at file =
    let stands : StandsIn events piece = subst (λ (es : List Event). StandsIn es piece) joins (stands_in pieces number piece at) in
    record {
      bytes = file_ending r last_dump piece (is_last many number);
      is = piece_file r.first.run r.first.time (begin_dump r) (end_time r many number) (end_dump last_dump many number) events piece stands (fits number);
      stored = stored_ending s r channel last_dump many number piece file;
    }
