-- Parts of bytes that a failed call on a file left, and the counts behind several calls.
use Rattle.std.specs.Prelude.{◌≡◌, ℕ, ◌+◌, min, List, [], ◌++◌, length, take, Option, Some, None, Result, Ok, Err, refl}
use Rattle.std.proofs.Common.{ap, sym, subst, ◌∙◌, append_assoc, arith, inl, inr}
use Rattle.std.proofs.Math.Seq.{take-append-add, take-length}
use Rattle.std.proofs.lemmas.List.{append-nil, take-append-le, take_min}
use Rattle.daq_io.specs.Counts.{NamesFirst, first_of}
use mathlib.Core.List.{IsPrefix}
use Rattle.daq_io.specs.declared.folder.FileState.{FileState}
use Rattle.daq_io.specs.Seen.{Seen, Writes, Extends, ExtendsPart, LeavesFile, Closes}
use Rattle.daq_io.proofs.SeenLaws.{Writes-trans, Extends-Closes, ExtendsPart-Closes}
use Rattle.sub_files.specs.RecordFiles.{ClosesAnyhow, ClosesPart, NamesMore}

-- a part of the bytes, and the file closed, whole or in vain
pub part_closed : {a b c : Seen} {file : ℕ} (xs : List ℕ) → ExtendsPart a b file xs → ClosesAnyhow b c file → ClosesPart a c file xs
part_closed xs p q = record { count = p.count; state = q.state; leaves = ExtendsPart-Closes p q.closes }

first_of_more : (n : ℕ) (xs ys : List ℕ) → take (min n (length xs)) (xs ++ ys) ≡ take n xs
first_of_more n xs ys = take-append-le (min n (length xs)) xs ys (omega arith) ∙ take_min n xs

-- a first part of bytes is one of these and more
pub part_of_more : {a b : Seen} {file : ℕ} (xs ys : List ℕ) → ExtendsPart a b file xs → ExtendsPart a b file (xs ++ ys)
part_of_more {a} {b} {file} xs ys p = record {
  count = min p.count (length xs);
  wrote = subst (λ (bytes : List ℕ). Writes a b file bytes) (sym (first_of_more p.count xs ys)) p.wrote;
  given = subst (λ (bytes : List ℕ). IsPrefix (b.given file) (a.given file ++ bytes)) (sym (first_of_more p.count xs ys)) p.given;
}

-- bytes and then a first part of others
pub then_part : {a b c : Seen} {file : ℕ} (xs ys : List ℕ) → Extends a b file xs → ExtendsPart b c file ys → ExtendsPart a c file (xs ++ ys)
then_part {a} {b} {c} {file} xs ys p q = record {
  count = length xs + q.count;
  wrote = subst (λ (bytes : List ℕ). Writes a c file bytes) (sym (take-append-add xs ys q.count)) (Writes-trans p.wrote q.wrote);
  given = subst (λ (bytes : List ℕ). IsPrefix (c.given file) bytes)
      (ap (λ (bytes : List ℕ). bytes ++ take q.count ys) p.given
      ∙ (append_assoc (a.given file) xs (take q.count ys) ∙ ap (λ (bytes : List ℕ). a.given file ++ bytes) (sym (take-append-add xs ys q.count))))
      q.given;
}

-- all of the bytes, and the file closed
pub whole_closed : {a b c : Seen} {file : ℕ} {state : FileState} (xs : List ℕ) → Extends a b file xs → Closes b c file state [] → Closes a c file state xs
whole_closed {a} {b} {c} {file} {state} xs p q = subst (λ (bytes : List ℕ). Closes a c file state bytes) (append-nil xs) (Extends-Closes p q)

-- that is a part too
pub all_closed : {a c : Seen} {file : ℕ} {state : FileState} (xs : List ℕ) → Closes a c file state xs → ClosesPart a c file xs
all_closed {a} {c} {file} {state} xs p = record { count = length xs; state = state; leaves = subst (λ (bytes : List ℕ). LeavesFile a c file state bytes) (sym (take-length xs)) p.leaves }

-- The name of the first fault.

-- whatever the call answered
pub names_more : {T E : Type 0} (name : List ℕ) (old new : Option (List ℕ)) (r : Result T E) → NamesFirst name old new r → NamesMore name old new
names_more name old new (Ok x) names = inl names.done
names_more name old new (Err why) names = inr names.failed

first_twice : (o : Option (List ℕ)) (name : List ℕ) → first_of (first_of o name) name ≡ first_of o name
first_twice None name = refl
first_twice (Some before) name = refl

-- a second fault at the file of the first one's name changes nothing
pub first_once : (a b c : Option (List ℕ)) (name again : List ℕ) → b ≡ first_of a name → again ≡ name → NamesMore again b c → c ≡ first_of a name
first_once a b c name again first same more = elim more as (λ w. c ≡ first_of a name) [
  | inl stays ↦ stays ∙ first
  | inr named ↦ named ∙ (rw (same, first) (first_twice a name))
]
