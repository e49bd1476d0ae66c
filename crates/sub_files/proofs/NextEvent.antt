-- What the files of a run hold behind one event more, and where a call on them failed.
use Rattle.std.specs.Prelude.{◌≡◌, ◌≢◌, ◌<◌, ◌≤◌, ◌+◌, ◌-◌, ◌^◌, ℕ, suc, min, Bool, false, true, nat_lt, if◌then◌else◌, List, [], ◌∷◌, ◌++◌, length, take, drop, Result, Ok, Err, OnOk, IfErr, refl}
use Rattle.std.proofs.Common.{arith, ap, sym, subst, ◌∙◌, inl, inr, length-append, append_assoc, take-append-drop}
use Rattle.std.proofs.lemmas.List.{append-nil}
use mathlib.Core.List.{IsPrefix}
use Rattle.daq_types.specs.declared.events.Event.{Event}
use Rattle.event.specs.Events.{encoding, all_encoded, record_limit}
use Rattle.daq_io.specs.declared.folder.FileState.{FileState}
use Rattle.daq_io.specs.declared.folder.FileState.TheVariants.{Closed}
use Rattle.daq_io.specs.Seen.{Seen, Same, Creates, Extends, LeavesFile, Closes, IsWritten, IsStored, IsPartStored}
use Rattle.daq_io.proofs.SeenLaws.{Creates-IsWritten, IsWritten-Extends, IsWritten-Closes, IsWritten-Leaves}
use Rattle.sub_files.specs.declared.open_file.Fallen.{Fallen}
use Rattle.sub_files.specs.declared.open_file.OpenFile.{OpenFile}
use Rattle.sub_files.specs.Cuts.{last_number, IsCut, BeginsNext, StaysIn}
use Rattle.sub_files.specs.Pieces.{Series, piece_name, begun_piece, begin_bytes, between, head_bytes, ArePiecesStored, HoldsRun, HasPart}
use Rattle.sub_files.specs.RecordFiles.{ClosesAnyhow, ClosesPart}
use Rattle.sub_files.specs.Rolls.{begins_next, counted_in, next_file, next_name, fallen_at, MovesOn, MakesReady, WritesNext, RollsNone, FailsMove, FailsNext}
use Rattle.sub_files.proofs.ClosedFiles.{KeepsClosed, kept_then, same_kept, grown_kept, left_kept, made_kept, stored_kept, part_kept, pieces_kept, pieces_push, same_written, made_written, new_written}
use Rattle.sub_files.proofs.CutLaws.{encoded-push, length-encoded-push, cut_grows, cut_next, cut_taken}
use Rattle.sub_files.proofs.NextFacts.{ltb_tells, Begins, begins_so, stays_so, stays_in, begins_with, IsCounted}

-- The file is ready for an event: with it behind the piece of the open file the events are cut.
record IsReady (seen : Seen) (s : Series) (ready : OpenFile) (events : List Event) (e : Event) : Type 0 where
  within : s.limit < 2 ^ 32
  small : length s.dump ≤ record_limit
  closed : List (List Event)
  piece : List Event
  cut : IsCut s.limit (head_bytes s.dump) (events ++ e ∷ []) ready.taken (closed ++ (piece ++ e ∷ []) ∷ [])
  number : ready.sub ≡ length closed
  few : ready.sub ≤ last_number
  counted : s.limit ≢ 0 → IsCounted ready.bytes (head_bytes s.dump) piece
  stored : ArePiecesStored seen s 0 closed
  file : IsWritten seen ready.file (piece_name s ready.sub) (begun_piece s piece)

length-push : (ps : List (List Event)) (p : List Event) → length (ps ++ p ∷ []) ≡ length ps + 1
length-push ps p = length-append ps (p ∷ []) ∙ omega arith

-- the file that is open goes on
stays_ready : (a : Seen) (s : Series) (old : OpenFile) (events : List Event) (e : Event) → HoldsRun a s old events → begins_next s.limit (head_bytes s.dump) old (length (encoding e)) ≡ false → IsReady a s old events e
stays_ready a s old events e h stays = record {
  within = h.within;
  small = h.small;
  closed = h.closed;
  piece = h.piece;
  cut = cut_grows s.limit (head_bytes s.dump) events old.taken h.closed h.piece e
      (λ some. subst (λ (n : ℕ). StaysIn s.limit (head_bytes s.dump) old.taken n h.piece e) h.number
      (stays_in s.limit (head_bytes s.dump) (length (encoding e)) old h.piece e h.within (let small = h.small in omega (arith, small)) h.few (h.counted some) refl some (stays_so s.limit (head_bytes s.dump) old (length (encoding e)) stays))) h.cut;
  number = h.number;
  few = h.few;
  counted = h.counted;
  stored = h.stored;
  file = h.file;
}

-- so it does where the next name is taken
taken_ready : (a b : Seen) (s : Series) (old : OpenFile) (events : List Event) (e : Event) → HoldsRun a s old events → old.taken ≡ false → Same a b → IsReady b s (record old { taken = true }) events e
taken_ready a b s old events e h free same = record {
  within = h.within;
  small = h.small;
  closed = h.closed;
  piece = h.piece;
  cut = cut_grows s.limit (head_bytes s.dump) events true h.closed h.piece e (λ some. inr (inr (inr refl)))
      (cut_taken s.limit (head_bytes s.dump) events (h.closed ++ h.piece ∷ []) (subst (λ (t : Bool). IsCut s.limit (head_bytes s.dump) events t (h.closed ++ h.piece ∷ [])) free h.cut));
  number = h.number;
  few = h.few;
  counted = h.counted;
  stored = pieces_kept s 0 h.closed (same_kept same) h.stored;
  file = same_written h.file same;
}

-- The next file was made: the old one is being written still, and the new one is empty.
record MadeNext (a made : Seen) (s : Series) (old : OpenFile) (file : ℕ) (piece : List Event) : Type 0 where
  kept : KeepsClosed a made
  old_file : IsWritten made old.file (piece_name s old.sub) (begun_piece s piece)
  new_file : IsWritten made file (next_name s old) []
  stays : (c : Seen) (state : FileState) (bytes : List ℕ) → LeavesFile made c old.file state bytes → IsWritten c file (next_name s old) []

made_next : (a made : Seen) (s : Series) (old : OpenFile) (file : ℕ) (piece : List Event) → IsWritten a old.file (piece_name s old.sub) (begun_piece s piece) → Creates a made (next_name s old) file [] → MadeNext a made s old file piece
made_next a made s old file piece written makes = record {
  kept = made_kept makes;
  old_file = made_written written makes;
  new_file = Creates-IsWritten makes;
  stays = λ c state bytes leaves. new_written written makes (Creates-IsWritten makes) leaves.touches leaves.others;
}

-- the events and one more, which begins a piece
next_cut : (a : Seen) (s : Series) (old : OpenFile) (events : List Event) (e : Event) (h : HoldsRun a s old events) → Begins s.limit (head_bytes s.dump) old (length (encoding e))
    → IsCut s.limit (head_bytes s.dump) (events ++ e ∷ []) false ((h.closed ++ h.piece ∷ []) ++ (e ∷ []) ∷ [])
next_cut a s old events e h begins =
    let limited : s.limit ≢ 0 = λ none. (let some = begins.limited in omega (arith, some, none)) in
    cut_next s.limit (head_bytes s.dump) events h.closed h.piece e limited
    (subst (λ (n : ℕ). BeginsNext s.limit (head_bytes s.dump) n h.piece e) h.number (begins_with s.limit (head_bytes s.dump) (length (encoding e)) old h.piece e (h.counted limited) refl begins))
    (subst (λ (t : Bool). IsCut s.limit (head_bytes s.dump) events t (h.closed ++ h.piece ∷ [])) begins.free h.cut)

-- the old file is stored whole, behind those before it
old_stored : (b : Seen) (s : Series) (old : OpenFile) (closed : List (List Event)) (piece : List Event) → old.sub ≡ length closed → ArePiecesStored b s 0 closed → IsStored b (piece_name s old.sub) (begun_piece s piece ++ between s.head)
    → ArePiecesStored b s 0 (closed ++ piece ∷ [])
old_stored b s old closed piece number stored last =
    let count : old.sub ≡ 0 + length closed = number ∙ omega arith in
    pieces_push b s 0 closed piece stored (subst (λ (n : ℕ). IsStored b (piece_name s n) (begun_piece s piece ++ between s.head)) count last)

-- the next file is ready
rolled_ready : (a b made : Seen) (s : Series) (old : OpenFile) (file : ℕ) (events : List Event) (e : Event) → HoldsRun a s old events → Begins s.limit (head_bytes s.dump) old (length (encoding e)) → Creates a made (next_name s old) file []
    → (ended : Seen) → Closes made ended old.file Closed (between s.head) → Extends ended b file (begin_bytes s.head s.dump) → IsReady b s (next_file s.dump old file) events e
rolled_ready a b made s old file events e h begins makes ended ends extends =
    let at = made_next a made s old file h.piece h.file makes in
    let new_ended : IsWritten ended file (next_name s old) [] = at.stays ended Closed (between s.head) ends.leaves in
    let to_b : KeepsClosed ended b = grown_kept new_ended extends in
    let from_a : KeepsClosed a b = kept_then at.kept (kept_then (left_kept at.old_file ends.leaves) to_b) in
    record {
      within = h.within;
      small = h.small;
      closed = h.closed ++ h.piece ∷ [];
      piece = [];
      cut = next_cut a s old events e h begins;
      number = ap (λ (n : ℕ). n + 1) h.number ∙ sym (length-push h.closed h.piece);
      few = let left = begins.number_left in omega (arith, left);
      counted = λ some. (let small = h.small in omega (arith, small));
      stored = old_stored b s old h.closed h.piece h.number (pieces_kept s 0 h.closed from_a h.stored) (stored_kept to_b (IsWritten-Closes at.old_file ends));
      file = subst (λ (bytes : List ℕ). IsWritten b file (next_name s old) bytes) (sym (append-nil (begin_bytes s.head s.dump))) (IsWritten-Extends new_ended extends);
    }

-- The file is ready, whether the next one was begun or not.

moved_on : (begins : Bool) (a b : Seen) (s : Series) (old ready : OpenFile) (events : List Event) (e : Event) → begins_next s.limit (head_bytes s.dump) old (length (encoding e)) ≡ begins
    → HoldsRun a s old events → MovesOn begins (next_name s old) s.head s.dump old ready a b → IsReady b s ready events e
moved_on false a b s old ready events e is h moves = rw (moves.0, moves.1) (stays_ready a s old events e h is)
moved_on true a b s old ready events e is h moves =
    let begins = begins_so s.limit (head_bytes s.dump) old (length (encoding e)) is in
    elim moves as (λ w. IsReady b s ready events e) [
      | inl finds ↦ rw finds.ready_is (taken_ready a b s old events e h begins.free finds.same)
      | inr rolls ↦ rw rolls.rolls.ready_is (rolled_ready a b rolls.made s old rolls.file events e h begins rolls.makes rolls.rolls.ended rolls.rolls.ends rolls.rolls.begins)
    ]

made_ready : (a b : Seen) (s : Series) (old ready : OpenFile) (events : List Event) (e : Event) → HoldsRun a s old events → MakesReady s old ready (length (encoding e)) a b → IsReady b s ready events e
made_ready a b s old ready events e h moves = moved_on (begins_next s.limit (head_bytes s.dump) old (length (encoding e))) a b s old ready events e refl h moves

-- The event is appended.

piece_push : (s : Series) (piece : List Event) (e : Event) → begun_piece s piece ++ encoding e ≡ begun_piece s (piece ++ e ∷ [])
piece_push s piece e = append_assoc (begin_bytes s.head s.dump) (all_encoded piece) (encoding e) ∙ ap (λ (bytes : List ℕ). begin_bytes s.head s.dump ++ bytes) (sym (encoded-push piece e))

counts : (limit more none : ℕ) → limit ≢ 0 → (if nat_lt 0 limit then more else none) ≡ more
counts limit more none some = elim (ltb_tells 0 limit) as (λ w. (if nat_lt 0 limit then more else none) ≡ more) [ inl is ↦ rw is.0 refl | inr not_so ↦ absurd (some (let most = not_so.1 in omega (arith, most))) ]

counted_more : (bytes head size : ℕ) (piece : List Event) (e : Event) → size ≡ length (encoding e) → IsCounted bytes head piece → min (bytes + size) (2 ^ 64 - 1) ≡ min (head + length (all_encoded (piece ++ e ∷ []))) (2 ^ 64 - 1)
counted_more bytes head size piece e size_is counted = omega (arith, counted, size_is, length-encoded-push piece e)

append_holds : (a b : Seen) (s : Series) (ready : OpenFile) (events : List Event) (e : Event) → IsReady a s ready events e → Extends a b ready.file (encoding e) → HoldsRun b s (counted_in s.limit ready (length (encoding e))) (events ++ e ∷ [])
append_holds a b s ready events e h extends = record {
  within = h.within;
  small = h.small;
  closed = h.closed;
  piece = h.piece ++ e ∷ [];
  cut = h.cut;
  number = h.number;
  few = h.few;
  counted = λ some. counts s.limit (min (ready.bytes + length (encoding e)) (2 ^ 64 - 1)) ready.bytes some ∙ counted_more ready.bytes (head_bytes s.dump) (length (encoding e)) h.piece e refl (h.counted some);
  stored = pieces_kept s 0 h.closed (grown_kept h.file extends) h.stored;
  file = subst (λ (bytes : List ℕ). IsWritten b ready.file (piece_name s ready.sub) bytes) (piece_push s h.piece e) (IsWritten-Extends h.file extends);
}

pub holds_next : (a b : Seen) (s : Series) (old later : OpenFile) (event : List ℕ) (events : List Event) (e : Event) → event ≡ encoding e → WritesNext s old later event a b → HoldsRun a s old events → HoldsRun b s later (events ++ e ∷ [])
holds_next a b s old later event events e is writes h =
    let w : WritesNext s old later (encoding e) a b = subst (λ (bytes : List ℕ). WritesNext s old later bytes a b) is writes in
    rw w.later_is (append_holds w.middle b s w.ready events e (made_ready a w.middle s old w.ready events e h w.moves) w.writes)

-- A call failed.

-- a first part, and one of more
first_of_more : (front xs ys : List ℕ) (count : ℕ) → IsPrefix (front ++ take count xs) ((front ++ xs) ++ ys)
first_of_more front xs ys count = (
  drop count xs ++ ys,
  sym (append_assoc (front ++ take count xs) (drop count xs) ys)
      ∙ ap (λ (zs : List ℕ). zs ++ ys) (append_assoc front (take count xs) (drop count xs) ∙ ap (λ (zs : List ℕ). front ++ zs) (take-append-drop count xs)),
)

whole_prefix : (xs : List Event) → IsPrefix xs xs
whole_prefix xs = ([], append-nil xs)

-- the append
append_part : (a b : Seen) (s : Series) (ready : OpenFile) (events : List Event) (e : Event) → IsReady a s ready events e → ClosesPart a b ready.file (encoding e) → HasPart b s (fallen_at (ready.sub + 1) ready.sub) [] (events ++ e ∷ [])
append_part a b s ready events e h part = record {
  small = h.small;
  first = events ++ e ∷ [];
  front = whole_prefix (events ++ e ∷ []);
  ends = inl refl;
  taken = ready.taken;
  whole = h.closed;
  rest = (h.piece ++ e ∷ []) ∷ [];
  some = omega arith;
  two = omega arith;
  cut = h.cut;
  framed = h.number;
  files = ap (λ (n : ℕ). n + 1) h.number;
  few = let few = h.few in omega (arith, few);
  stored = pieces_kept s 0 h.closed (left_kept h.file part.leaves) h.stored;
  parts = IsWritten-Leaves h.file part.leaves
      (subst (λ (bytes : List ℕ). IsPrefix (begun_piece s h.piece ++ take part.count (encoding e)) (bytes ++ [])) (piece_push s h.piece e) (first_of_more (begun_piece s h.piece) (encoding e) [] part.count));
}

-- the making of the next file
make_part : (a b made : Seen) (s : Series) (old : OpenFile) (events : List Event) (e : Event) → HoldsRun a s old events → Same a made → ClosesAnyhow made b old.file → HasPart b s (fallen_at (old.sub + 1) old.sub) [] (events ++ e ∷ [])
make_part a b made s old events e h same closes =
    let file : IsWritten made old.file (piece_name s old.sub) (begun_piece s h.piece) = same_written h.file same in
    record {
      small = h.small;
      first = events;
      front = (e ∷ [], refl);
      ends = inl refl;
      taken = old.taken;
      whole = h.closed;
      rest = h.piece ∷ [];
      some = omega arith;
      two = omega arith;
      cut = h.cut;
      framed = h.number;
      files = ap (λ (n : ℕ). n + 1) h.number;
      few = let few = h.few in omega (arith, few);
      stored = pieces_kept s 0 h.closed (kept_then (same_kept same) (left_kept file closes.closes.leaves)) h.stored;
      parts = IsWritten-Leaves file closes.closes.leaves ([], append-nil (begun_piece s h.piece ++ []));
    }

-- the end of the old file
end_part : (a b made ended : Seen) (s : Series) (old : OpenFile) (file : ℕ) (events : List Event) (e : Event) → HoldsRun a s old events → Begins s.limit (head_bytes s.dump) old (length (encoding e)) → Creates a made (next_name s old) file []
    → ClosesPart made ended old.file (between s.head) → ClosesAnyhow ended b file → HasPart b s (fallen_at (old.sub + 2) old.sub) [] (events ++ e ∷ [])
end_part a b made ended s old file events e h begins makes part closes =
    let at = made_next a made s old file h.piece h.file makes in
    let new_ended : IsWritten ended file (next_name s old) [] = at.stays ended part.state (take part.count (between s.head)) part.leaves in
    let to_b : KeepsClosed ended b = left_kept new_ended closes.closes.leaves in
    let next_number : old.sub + 1 ≡ suc old.sub = omega arith in
    let new_part : IsPartStored b (next_name s old) (begun_piece s (e ∷ []) ++ []) = IsWritten-Leaves new_ended closes.closes.leaves (begun_piece s (e ∷ []) ++ [], refl) in
    record {
      small = h.small;
      first = events ++ e ∷ [];
      front = whole_prefix (events ++ e ∷ []);
      ends = inl refl;
      taken = false;
      whole = h.closed;
      rest = h.piece ∷ ((e ∷ []) ∷ []);
      some = omega arith;
      two = omega arith;
      cut = subst (λ (pieces : List (List Event)). IsCut s.limit (head_bytes s.dump) (events ++ e ∷ []) false pieces) (append_assoc h.closed (h.piece ∷ []) ((e ∷ []) ∷ [])) (next_cut a s old events e h begins);
      framed = h.number;
      files = ap (λ (n : ℕ). n + 2) h.number;
      few = let left = begins.number_left in omega (arith, left);
      stored = pieces_kept s 0 h.closed (kept_then at.kept (kept_then (left_kept at.old_file part.leaves) to_b)) h.stored;
      parts = (
        part_kept to_b
            (IsWritten-Leaves at.old_file part.leaves
            (drop part.count (between s.head), append_assoc (begun_piece s h.piece) (take part.count (between s.head)) (drop part.count (between s.head)) ∙ ap (λ (bytes : List ℕ). begun_piece s h.piece ++ bytes) (take-append-drop part.count (between s.head)))),
        subst (λ (n : ℕ). IsPartStored b (piece_name s n) (begun_piece s (e ∷ []) ++ [])) next_number new_part,
      );
    }

-- the begin of the new file
begin_part : (a b made ended : Seen) (s : Series) (old : OpenFile) (file : ℕ) (events : List Event) (e : Event) → HoldsRun a s old events → Begins s.limit (head_bytes s.dump) old (length (encoding e)) → Creates a made (next_name s old) file []
    → Closes made ended old.file Closed (between s.head) → ClosesPart ended b file (begin_bytes s.head s.dump) → HasPart b s (fallen_at (old.sub + 2) (old.sub + 1)) [] (events ++ e ∷ [])
begin_part a b made ended s old file events e h begins makes ends part =
    let at = made_next a made s old file h.piece h.file makes in
    let new_ended : IsWritten ended file (next_name s old) [] = at.stays ended Closed (between s.head) ends.leaves in
    let to_b : KeepsClosed ended b = left_kept new_ended part.leaves in
    let many : old.sub + 1 ≡ length (h.closed ++ h.piece ∷ []) = ap (λ (n : ℕ). n + 1) h.number ∙ sym (length-push h.closed h.piece) in
    record {
      small = h.small;
      first = events ++ e ∷ [];
      front = whole_prefix (events ++ e ∷ []);
      ends = inl refl;
      taken = false;
      whole = h.closed ++ h.piece ∷ [];
      rest = (e ∷ []) ∷ [];
      some = omega arith;
      two = omega arith;
      cut = next_cut a s old events e h begins;
      framed = many;
      files = omega (arith, many);
      few = let left = begins.number_left in omega (arith, left);
      stored = old_stored b s old h.closed h.piece h.number (pieces_kept s 0 h.closed (kept_then at.kept (kept_then (left_kept at.old_file ends.leaves) to_b)) h.stored) (stored_kept to_b (IsWritten-Closes at.old_file ends));
      parts = IsWritten-Leaves new_ended part.leaves
          (subst (λ (bytes : List ℕ). IsPrefix (take part.count (begin_bytes s.head s.dump)) bytes) (sym (append-nil (begun_piece s (e ∷ [])))) (first_of_more [] (begin_bytes s.head s.dump) (all_encoded (e ∷ [])) part.count));
    }

roll_part : (a b : Seen) (s : Series) (old : OpenFile) (fallen : Fallen) (events : List Event) (e : Event) → HoldsRun a s old events → Begins s.limit (head_bytes s.dump) old (length (encoding e)) → RollsNone (next_name s old) s.head s.dump old fallen a b
    → HasPart b s fallen [] (events ++ e ∷ [])
roll_part a b s old fallen events e h begins rolls = elim rolls.fails as (λ w. HasPart b s fallen [] (events ++ e ∷ [])) [
  | inl ends ↦ rw ends.fallen_is (end_part a b rolls.made ends.ended s old rolls.file events e h begins rolls.makes ends.ends ends.closes)
  | inr new ↦ rw new.fallen_is (begin_part a b rolls.made new.ended s old rolls.file events e h begins rolls.makes new.ends new.closes)
]

move_part : (a b : Seen) (s : Series) (old : OpenFile) (fallen : Fallen) (events : List Event) (e : Event) → HoldsRun a s old events → Begins s.limit (head_bytes s.dump) old (length (encoding e)) → FailsMove (next_name s old) s.head s.dump old fallen a b
    → HasPart b s fallen [] (events ++ e ∷ [])
move_part a b s old fallen events e h begins fails = elim fails as (λ w. HasPart b s fallen [] (events ++ e ∷ [])) [
  | inl makes ↦ rw makes.fallen_is (make_part a b makes.made s old events e h makes.same makes.closes)
  | inr rolls ↦ roll_part a b s old fallen events e h begins rolls
]

pub part_next : (a b : Seen) (s : Series) (old : OpenFile) (fallen : Fallen) (event : List ℕ) (events : List Event) (e : Event) → event ≡ encoding e → FailsNext s old event fallen a b → HoldsRun a s old events → HasPart b s fallen [] (events ++ e ∷ [])
part_next a b s old fallen event events e is fails h =
    let f : FailsNext s old (encoding e) fallen a b = subst (λ (bytes : List ℕ). FailsNext s old bytes fallen a b) is fails in
    elim f as (λ w. HasPart b s fallen [] (events ++ e ∷ [])) [
      | inl moves ↦ move_part a b s old fallen events e h (begins_so s.limit (head_bytes s.dump) old (length (encoding e)) moves.0) moves.1
      | inr none ↦ rw none.appends.fallen_is (append_part none.middle b s none.ready events e (made_ready a none.middle s old none.ready events e h none.moves) none.appends.closes)
    ]

-- By the answer of the call.

pub holds_if : {T E : Type 0} (a b : Seen) (s : Series) (old later : OpenFile) (event : List ℕ) (r : Result T E) → OnOk r (WritesNext s old later event a b)
    → OnOk r ((events : List Event) → (e : Event) → event ≡ encoding e → HoldsRun a s old events → HoldsRun b s later (events ++ e ∷ []))
holds_if a b s old later event (Ok x) writes = λ events e is h. holds_next a b s old later event events e is writes h
holds_if a b s old later event (Err why) writes = tt

pub part_if : {T : Type 0} (a b : Seen) (s : Series) (old : OpenFile) (event : List ℕ) (r : Result T Fallen) → IfErr r (λ fallen. FailsNext s old event fallen a b)
    → IfErr r (λ fallen. (events : List Event) → (e : Event) → event ≡ encoding e → HoldsRun a s old events → HasPart b s fallen [] (events ++ e ∷ []))
part_if a b s old event (Ok x) fails = tt
part_if a b s old event (Err fallen) fails = λ events e is h. part_next a b s old fallen event events e is fails h
