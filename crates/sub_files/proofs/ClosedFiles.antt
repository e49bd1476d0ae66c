-- Closed files of a run stay, whatever is done to its open file and to the next one.
use Rattle.std.specs.Prelude.{◌≡◌, ◌≢◌, ℕ, suc, ◌+◌, false, true, IsTrue, List, [], ◌∷◌, ◌++◌, length, Option, Some, None, refl}
use Rattle.std.proofs.Common.{arith, ap, sym, subst, ◌∙◌, inl, inr}
use Rattle.daq_types.specs.declared.events.Event.{Event}
use Rattle.daq_io.specs.declared.folder.FileState.{FileState}
use Rattle.daq_io.specs.Seen.{Seen, Stored, stored_as, stored_open, stored_closed, is_state_closed, is_closed, GoesOn, InUse, KeepsNumber, Touches, Same, Creates, Extends, LeavesFile, IsWritten, IsStored, IsPartStored}
use Rattle.daq_io.proofs.SeenLaws.{done_on, name_tells, on_more, on_same, on_then}
use Rattle.sub_files.specs.Pieces.{Series, piece_name, begun_piece, between, ArePiecesStored}

-- What was done still stands, and each file that is written no more stays as it is, where names are told.
pub record KeepsClosed (a b : Seen) : Type 0 where
  pub names : b.names ≡ a.names
  pub on : GoesOn a b
  pub at : IsTrue a.names → (name : List ℕ) → (file : Stored) → IsTrue (is_state_closed file.state) → a.at name ≡ Some file → b.at name ≡ Some file

pub kept_then : {a b c : Seen} → KeepsClosed a b → KeepsClosed b c → KeepsClosed a c
kept_then {a} {b} {c} p q = record {
  names = q.names ∙ p.names;
  on = on_then p.on q.on;
  at = λ told name file closed here. q.at (p.names ∙ told) name file closed (p.at told name file closed here);
}

pub same_kept : {a b : Seen} → Same a b → KeepsClosed a b
same_kept p = record { names = p.files.names; on = on_same p.files.done; at = λ told name file closed here. p.files.at name ∙ here }

-- a file is not open and closed
not_both : (xs : List ℕ) (file : Stored) (o : Option Stored) → o ≡ Some (stored_open xs) → IsTrue (is_state_closed file.state) → o ≡ Some file → ⊥
not_both xs file o is_open closed here = let never : false ≡ true = ap is_closed (sym is_open ∙ here) ∙ closed in cc (never)

not_there : (file : Stored) (o : Option Stored) → o ≡ None → o ≡ Some file → ⊥
not_there file o none here = let never : None ≡ Some file = sym none ∙ here in cc (never)

-- a call that touches only the open file
pub open_kept : {a b : Seen} {n : ℕ} {name xs : List ℕ} → IsWritten a n name xs → Touches a b (a.name_of n) → GoesOn a b → KeepsClosed a b
open_kept {a} {b} {n} {name} {xs} file touches on = record {
  names = touches.names;
  on = on;
  at = λ told other left closed here. elim (name_tells other (a.name_of n)) as (λ w. b.at other ≡ Some left) [
    | inl is ↦ absurd (not_both xs left (a.at other) (subst (λ (m : List ℕ). a.at m ≡ Some (stored_open xs)) (sym (is ∙ file.named)) (file.holds told)) closed here)
    | inr ne ↦ touches.others other ne ∙ here
  ];
}

pub grown_kept : {a b : Seen} {n : ℕ} {name xs ys : List ℕ} → IsWritten a n name xs → Extends a b n ys → KeepsClosed a b
grown_kept file extends = open_kept file extends.wrote.touches (on_same extends.wrote.done)

pub left_kept : {a b : Seen} {n : ℕ} {name xs ys : List ℕ} {state : FileState} → IsWritten a n name xs → LeavesFile a b n state ys → KeepsClosed a b
left_kept file leaves = open_kept file leaves.touches (on_more _ leaves.done)

-- a call that makes a file
pub made_kept : {a b : Seen} {name : List ℕ} {n : ℕ} {xs : List ℕ} → Creates a b name n xs → KeepsClosed a b
made_kept {a} {b} {name} p = record {
  names = p.touches.names;
  on = on_same p.done;
  at = λ told other left closed here. elim (name_tells other name) as (λ w. b.at other ≡ Some left) [
    | inl is ↦ absurd (not_there left (a.at other) (subst (λ (m : List ℕ). a.at m ≡ None) (sym is) (p.fresh told)) here)
    | inr ne ↦ p.touches.others other ne ∙ here
  ];
}

pub stored_kept : {a b : Seen} {name xs : List ℕ} → KeepsClosed a b → IsStored a name xs → IsStored b name xs
stored_kept {a} {b} {name} {xs} kept p = record { written = done_on kept.on p.written; holds = λ told. let before : IsTrue a.names = sym kept.names ∙ told in kept.at before name (stored_closed xs) refl (p.holds before) }

pub part_kept : {a b : Seen} {name whole : List ℕ} → KeepsClosed a b → IsPartStored a name whole → IsPartStored b name whole
part_kept {a} {b} {name} {whole} kept p = record {
  state = p.state;
  closed = p.closed;
  has = p.has;
  part = p.part;
  written = done_on kept.on p.written;
  bytes = p.bytes;
  front = p.front;
  holds = λ told. let before : IsTrue a.names = sym kept.names ∙ told in kept.at before name (stored_as p.state p.bytes) p.closed (p.holds before);
}

pub pieces_kept : {a b : Seen} (s : Series) (number : ℕ) (pieces : List (List Event)) → KeepsClosed a b → ArePiecesStored a s number pieces → ArePiecesStored b s number pieces
pieces_kept s number [] kept stored = stored
pieces_kept s number (piece ∷ pieces) kept stored = (stored_kept kept stored.0, pieces_kept s (suc number) pieces kept stored.1)

-- one piece more
pub pieces_push : (seen : Seen) (s : Series) (number : ℕ) (pieces : List (List Event)) (piece : List Event) → ArePiecesStored seen s number pieces → IsStored seen (piece_name s (number + length pieces)) (begun_piece s piece ++ between s.head)
    → ArePiecesStored seen s number (pieces ++ piece ∷ [])
pieces_push seen s number [] piece stored last =
    let none : number + length {A = List Event} [] ≡ number = omega arith in
    (subst (λ (n : ℕ). IsStored seen (piece_name s n) (begun_piece s piece ++ between s.head)) none last, tt)
pieces_push seen s number (p ∷ pieces) piece stored last =
    let count : number + length (p ∷ pieces) ≡ suc number + length pieces = omega arith in
    (stored.0, pieces_push seen s (suc number) pieces piece stored.1 (subst (λ (n : ℕ). IsStored seen (piece_name s n) (begun_piece s piece ++ between s.head)) count last))

-- The open file while another one is made, and the new one while the old one is closed.

-- a number that is made was free
pub other_number : {a b : Seen} {name : List ℕ} {n m : ℕ} {xs : List ℕ} → Creates a b name m xs → IsTrue (a.writes n) → n ≢ m
other_number {a} {n = n} {m = m} p writes same =
    let never : true ≡ false = sym writes ∙ (ap (λ (k : ℕ). a.writes k) same ∙ p.was_free.writes) in cc (never)

-- a file that stays as it is while names are told
file_stays : {a b : Seen} {n : ℕ} {name xs : List ℕ} → IsWritten a n name xs → KeepsNumber a b n → b.names ≡ a.names → (IsTrue a.names → b.at name ≡ a.at name) → IsWritten b n name xs
file_stays {a} {b} {n} {name} {xs} p number tells at = record {
  writes = number.writes ∙ p.writes;
  named = number.name (in_use a n p.writes) ∙ p.named;
  given = number.given p.writes ∙ p.given;
  holds = λ told. let before : IsTrue a.names = sym tells ∙ told in at before ∙ p.holds before;
}
  where
    in_use : (s : Seen) (k : ℕ) → IsTrue (s.writes k) → InUse s k
    in_use s k h = rw h refl

pub same_written : {a b : Seen} {n : ℕ} {name xs : List ℕ} → IsWritten a n name xs → Same a b → IsWritten b n name xs
same_written {n = n} {name = name} p same = file_stays p (same.numbers n) same.files.names (λ told. same.files.at name)

-- the open file's name is not that of a file that is made
pub made_written : {a b : Seen} {n m : ℕ} {name other xs ys : List ℕ} → IsWritten a n name xs → Creates a b other m ys → IsWritten b n name xs
made_written {a} {b} {n} {m} {name} {other} {xs} p creates =
    file_stays p (creates.others n (other_number creates p.writes)) creates.touches.names
    (λ told. creates.touches.others name (λ same. no_open xs (a.at name) (p.holds told) (subst (λ (k : List ℕ). a.at k ≡ None) (sym same) (creates.fresh told))))
  where
    no_open : (zs : List ℕ) (o : Option Stored) → o ≡ Some (stored_open zs) → o ≡ None → ⊥
    no_open zs o some none = let e : Some (stored_open zs) ≡ None = sym some ∙ none in cc (e)

-- two open files of which one is empty have two names, where names are told and one was made while the other was there
pub names_differ : {a b : Seen} {n m : ℕ} {name other xs ys : List ℕ} → IsWritten a n name xs → Creates a b other m ys → IsTrue a.names → other ≢ name
names_differ {a} {name = name} {xs = xs} p creates told same =
    let here : a.at name ≡ None = subst (λ (k : List ℕ). a.at k ≡ None) same (creates.fresh told) in
    let e : Some (stored_open xs) ≡ None = sym (p.holds told) ∙ here in cc (e)

-- the new file stays while the old one is closed
pub new_written : {a b c : Seen} {n m : ℕ} {name other xs ys zs : List ℕ} → IsWritten a n name xs → Creates a b other m ys → IsWritten b m other zs → Touches b c (b.name_of n) → ((k : ℕ) → k ≢ n → KeepsNumber b c k) → IsWritten c m other zs
new_written {a} {b} {c} {n} {m} {name} {other} {xs} {ys} {zs} p creates made touches numbers =
    let apart : m ≢ n = λ same. other_number creates p.writes (sym same) in
    let named : b.name_of n ≡ name = (made_written p creates).named in
    file_stays made (numbers m apart) touches.names
    (λ told. touches.others other (λ same. names_differ p creates (sym creates.touches.names ∙ told) (same ∙ named)))
