-- Files that are the pieces of one run, one by one.
use Rattle.std.proofs.Common.{◌≡◌, ◌∙◌, ℕ, suc, ◌+◌, ◌≤◌, ◌<◌, ◌^◌, List, [], ◌∷◌, ◌++◌, length, Option, Some, None, refl, ap, sym, subst, arith, append_assoc}
use Rattle.std.specs.Prelude.{true, false, unwrap_or, IsNone}
use Rattle.std.proofs.lemmas.List.{append-nil}
use Rattle.daq_types.specs.Names.{is_compressed}
use Rattle.daq_types.specs.declared.events.Event.{Event}
use Rattle.daq_io.specs.Seen.{Seen, Stored}
use Rattle.mid_format.specs.Faults.{run_at}
use Rattle.mid_format.proofs.ReadLaws.{one_whole, run_of_whole, whole_no_fault}
use Rattle.mid_format.specs.declared.faults.MidFault.{MidFault}
use Rattle.midas_tools.specs.Pieces.{ArePieces, AreOneRun, IsPiece, IsPieceFault, total_bytes}
use Rattle.midas_tools.specs.Together.{ArePlain, AreSoundTogether, FindsWrong, HaveBytes, HoldsFault, IsWrong}
use Rattle.midas_tools.specs.Findings.{IsThere}
use Rattle.midas_tools.specs.declared.ends.InputFault.{InputFault}
use Rattle.midas_tools.specs.declared.ends.InputFault.TheVariants.{Mid, Compressed, Missing, ScriptTooLong, OtherRun}

-- One file more

pub bytes_more : (files : List (List ℕ)) (bytes : List ℕ) → total_bytes (files ++ bytes ∷ []) ≡ total_bytes files + length bytes
bytes_more [] bytes = omega arith
bytes_more (first ∷ files) bytes = omega (arith, bytes_more files bytes)

pub pieces_more : (run : ℕ) (files : List (List ℕ)) (events : List Event) (bytes : List ℕ) (more : List Event) → ArePieces run files events → IsPiece run bytes more → ArePieces run (files ++ bytes ∷ []) (events ++ more)
pieces_more run [] events bytes more p piece = (more, [], piece, refl, ap (λ (es : List Event). es ++ more) p ∙ sym (append-nil more))
pieces_more run (first ∷ files) events bytes more p piece =
    (p.0, p.1 ++ more, p.2, pieces_more run files p.1 bytes more p.3 piece, ap (λ (es : List Event). es ++ more) p.4 ∙ append_assoc p.0 p.1 more)

pub have_more : (seen : Seen) (names files : List (List ℕ)) (name bytes : List ℕ) → HaveBytes seen names files → IsThere seen name (λ found. found ≡ bytes) → HaveBytes seen (names ++ name ∷ []) (files ++ bytes ∷ [])
have_more seen [] [] name bytes h there = (there, tt)
have_more seen [] (first ∷ files) name bytes h there = absurd h
have_more seen (other ∷ names) [] name bytes h there = absurd h
have_more seen (other ∷ names) (first ∷ files) name bytes h there = (h.0, have_more seen names files name bytes h.1 there)

-- the run of no files is any
pub fits_pieces : (seen : Seen) (names files : List (List ℕ)) (events : List Event) (run other : ℕ) → HaveBytes seen names files → (0 < length names → run ≡ other) → ArePieces run files events → ArePieces other files events
fits_pieces seen [] [] events run other h same p = p
fits_pieces seen [] (first ∷ files) events run other h same p = absurd h
fits_pieces seen (name ∷ names) files events run other h same p = subst (λ (n : ℕ). ArePieces n files events) (same (omega arith)) p

-- What is found is one

abbrev file_or : Stored → Option Stored → Stored
file_or file None = file
file_or file (Some other) = other

pub same_file : (a b : Stored) → Some a ≡ Some b → a ≡ b
same_file a b e = ap (file_or a) e

one_there : (seen : Seen) (name : List ℕ) (a b : List ℕ) → IsThere seen name (λ found. found ≡ a) → IsThere seen name (λ found. found ≡ b) → a ≡ b
one_there seen name a b s t = sym s.fact ∙ ap (λ (file : Stored). file.bytes) (same_file s.file t.file (sym s.at_is ∙ t.at_is)) ∙ t.fact

pub have_one : (seen : Seen) (names a b : List (List ℕ)) → HaveBytes seen names a → HaveBytes seen names b → a ≡ b
have_one seen [] [] [] g h = refl
have_one seen [] [] (y ∷ b) g h = absurd h
have_one seen [] (x ∷ a) b g h = absurd g
have_one seen (name ∷ names) [] b g h = absurd g
have_one seen (name ∷ names) (x ∷ a) [] g h = absurd h
have_one seen (name ∷ names) (x ∷ a) (y ∷ b) g h = ap (λ (z : List ℕ). z ∷ a) (one_there seen name x y g.0 h.0) ∙ ap (λ (zs : List (List ℕ)). y ∷ zs) (have_one seen names a b g.1 h.1)

-- the files of names before, at and behind one
pub record HaveParts (seen : Seen) (before : List (List ℕ)) (name : List ℕ) (files : List (List ℕ)) : Type 0 where
  pub front : List (List ℕ)
  pub bytes : List ℕ
  pub back : List (List ℕ)
  pub files_are : files ≡ front ++ bytes ∷ back
  pub have : HaveBytes seen before front
  pub there : IsThere seen name (λ found. found ≡ bytes)

have_parts : (seen : Seen) (before : List (List ℕ)) (name : List ℕ) (behind files : List (List ℕ)) → HaveBytes seen (before ++ name ∷ behind) files → HaveParts seen before name files
have_parts seen [] name behind [] h = absurd h
have_parts seen [] name behind (bytes ∷ files) h = record { front = []; bytes = bytes; back = files; files_are = refl; have = tt; there = h.0 }
have_parts seen (first ∷ before) name behind [] h = absurd h
have_parts seen (first ∷ before) name behind (bytes ∷ files) h =
    let p : HaveParts seen before name files = have_parts seen before name behind files h.1 in
    record { front = bytes ∷ p.front; bytes = p.bytes; back = p.back; files_are = ap (λ (fs : List (List ℕ)). bytes ∷ fs) p.files_are; have = (h.0, p.have); there = p.there }

-- the pieces before, at and behind a file
record PieceParts (run : ℕ) (front : List (List ℕ)) (bytes : List ℕ) : Type 0 where
  pub events : List Event
  pub pieces : ArePieces run front events
  pub own : List Event
  pub piece : IsPiece run bytes own

piece_parts : (run : ℕ) (front : List (List ℕ)) (bytes : List ℕ) (back : List (List ℕ)) (events : List Event) → ArePieces run (front ++ bytes ∷ back) events → PieceParts run front bytes
piece_parts run [] bytes back events p = record { events = []; pieces = refl; own = p.0; piece = p.2 }
piece_parts run (first ∷ front) bytes back events p =
    let q : PieceParts run front bytes = piece_parts run front bytes back p.1 p.3 in
    record { events = p.0 ++ q.events; pieces = (p.0, q.events, p.2, q.pieces, refl); own = q.own; piece = q.piece }

bytes_parts : (front : List (List ℕ)) (bytes : List ℕ) (back : List (List ℕ)) → total_bytes front + length bytes ≤ total_bytes (front ++ bytes ∷ back)
bytes_parts [] bytes back = omega arith
bytes_parts (first ∷ front) bytes back = omega (arith, bytes_parts front bytes back)

-- files that are pieces are those of one run
pub one_run : (run other : ℕ) (files : List (List ℕ)) (events events' : List Event) → 0 < length files → ArePieces run files events → ArePieces other files events' → run ≡ other
one_run run other [] events events' some p q = absurd (omega (arith, some))
one_run run other (bytes ∷ files) events events' some p q =
    (one_whole bytes run p.2.time0 p.2.dump0 p.0 p.2.time1 p.2.dump1 other q.2.time0 q.2.dump0 q.0 q.2.time1 q.2.dump1 p.2.whole q.2.whole).run_is

pub have_length : (seen : Seen) (names files : List (List ℕ)) → HaveBytes seen names files → length names ≡ length files
have_length seen [] [] h = refl
have_length seen [] (x ∷ files) h = absurd h
have_length seen (name ∷ names) [] h = absurd h
have_length seen (name ∷ names) (x ∷ files) h = ap suc (have_length seen names files h.1)

-- What is sound has no fault

plain_at : (before : List (List ℕ)) (name : List ℕ) (behind : List (List ℕ)) → ArePlain (before ++ name ∷ behind) → is_compressed name ≡ false
plain_at [] name behind plain = plain 0 name (omega arith)
plain_at (first ∷ before) name behind plain = plain_at before name behind (λ k d inside. plain (suc k) d (omega (arith, inside)))

module _ (seen : Seen) (before : List (List ℕ)) (name : List ℕ) (run : ℕ) (files : List (List ℕ)) (events : List Event) (are : AreOneRun files run events) (parts : HaveParts seen before name files) where
  abbrev pieces : PieceParts run parts.front parts.bytes
  pieces = piece_parts run parts.front parts.bytes parts.back events (subst (λ (fs : List (List ℕ)). ArePieces run fs events) parts.files_are are.pieces)

  within : total_bytes parts.front + length parts.bytes ≤ 2 ^ 62
  within = omega (arith, bytes_parts parts.front parts.bytes parts.back, ap total_bytes parts.files_are, are.counted)

  abbrev piece : IsPiece run parts.bytes pieces.own
  piece = pieces.piece

  run_is : run_at (total_bytes parts.front) parts.bytes ≡ Some run
  run_is = run_of_whole (total_bytes parts.front) parts.bytes run piece.time0 piece.dump0 pieces.own piece.time1 piece.dump1 piece.whole within

  some_number : (a b : ℕ) → Some a ≡ Some b → a ≡ b
  some_number a b e = ap (λ (o : Option ℕ). unwrap_or o a) e

  -- in front of which the files are those of the same run, if there are some
  module _ (other : ℕ) (events' : List Event) (p : ArePieces other parts.front events') where
    no_own : (f : MidFault) → IsPieceFault other (total_bytes parts.front) parts.bytes (Mid f) → ⊥
    no_own f w = whole_no_fault (total_bytes parts.front) parts.bytes run piece.time0 piece.dump0 pieces.own piece.time1 piece.dump1 w.placed piece.whole within w.first

    no_other : (file found : ℕ) → 0 < length before → IsPieceFault other (total_bytes parts.front) parts.bytes (OtherRun file found) → ⊥
    no_other file found some w =
        let same : run ≡ other = one_run run other parts.front pieces.events events' (omega (arith, some, have_length seen before parts.front parts.have)) pieces.pieces p in
        w.differs (some_number found run (sym w.begun ∙ run_is) ∙ same)

  module _ (fault : InputFault) (w : HoldsFault seen before name fault) where
    front : w.holds.files ≡ parts.front
    front = have_one seen before w.holds.files parts.front w.holds.have parts.have

    bytes : w.there.file.bytes ≡ parts.bytes
    bytes = ap (λ (file : Stored). file.bytes) (same_file w.there.file parts.there.file (sym w.there.at_is ∙ parts.there.at_is)) ∙ parts.there.fact

    its_pieces : ArePieces w.holds.run parts.front w.holds.events
    its_pieces = subst (λ (fs : List (List ℕ)). ArePieces w.holds.run fs w.holds.events) front w.holds.are.pieces

    its_fault : IsPieceFault w.holds.run (total_bytes parts.front) parts.bytes fault
    its_fault =
        subst (λ (b : List ℕ). IsPieceFault w.holds.run (total_bytes parts.front) b fault) bytes
        (subst (λ (fs : List (List ℕ)). IsPieceFault w.holds.run (total_bytes fs) w.there.file.bytes fault) front w.there.fact)

  pub no_own_fault : (f : MidFault) → HoldsFault seen before name (Mid f) → ⊥
  no_own_fault f w = no_own w.holds.run w.holds.events (its_pieces (Mid f) w) f (its_fault (Mid f) w)

  pub no_other_run : (file found : ℕ) → 0 < length before → HoldsFault seen before name (OtherRun file found) → ⊥
  no_other_run file found some w = no_other w.holds.run w.holds.events (its_pieces (OtherRun file found) w) file found some (its_fault (OtherRun file found) w)

pub no_wrong : (seen : Seen) (before : List (List ℕ)) (name : List ℕ) (fault : InputFault) (behind : List (List ℕ)) → AreSoundTogether seen (before ++ name ∷ behind) → IsWrong seen before name fault → ⊥
no_wrong seen before name (Mid f) behind sound w =
    no_own_fault seen before name sound.holds.run sound.holds.files sound.holds.events sound.holds.are (have_parts seen before name behind sound.holds.files sound.holds.have) f (w.2 sound.tells)
no_wrong seen before name Compressed behind sound w = let clash : true ≡ false = sym w.0 ∙ plain_at before name behind sound.plain in absurd cc
no_wrong seen before name Missing behind sound w =
    let parts : HaveParts seen before name sound.holds.files = have_parts seen before name behind sound.holds.files sound.holds.have in
    let none : IsNone (Some parts.there.file) = subst (λ (o : Option Stored). IsNone o) parts.there.at_is (w.1 sound.tells).1 in
    let clash : true ≡ false = none in absurd cc
no_wrong seen before name ScriptTooLong behind sound w = w
no_wrong seen before name (OtherRun file run) behind sound w =
    no_other_run seen before name sound.holds.run sound.holds.files sound.holds.events sound.holds.are (have_parts seen before name behind sound.holds.files sound.holds.have) file run w.1 (w.3 sound.tells)

pub finds_none : (seen : Seen) (names : List (List ℕ)) (fault : InputFault) (text : List ℕ) → AreSoundTogether seen names → FindsWrong seen names fault text → ⊥
finds_none seen names fault text sound f = no_wrong seen f.before f.name fault f.behind (subst (AreSoundTogether seen) f.names_are sound) f.wrong
