-- How many buffers there are behind a line, and how many bytes they have.
use Rattle.std.specs.Prelude.{◌≡◌, ℕ, ◌+◌, ◌<◌, Bool, true, false, if◌then◌else◌, List, [], ◌∷◌, ◌++◌, length, slice_get, Some, refl}
use Rattle.std.proofs.Common.{ap, ◌∙◌, arith, length-append}
use Rattle.std.proofs.lemmas.List.Sums.{sum_by-append, sum_by-cons}
use Rattle.std.proofs.lemmas.Option.{same_Some}
use Rattle.odb_value.specs.Paths.{same_name}
use Rattle.session_setup.specs.declared.declared.BufferDeclared.{BufferDeclared}
use Rattle.session_setup.specs.Setup.{system_name, total_size}
use Rattle.session_setup.specs.SetupLines.{first_resized, buffers_with}
use Rattle.session_setup.proofs.Sounds.{length_resized}

if_true : {X : Type 0} (test : Bool) (x y : X) → test ≡ true → (if test then x else y) ≡ x
if_true true x y h = refl
if_true false x y h = absurd (cc)

if_false : {X : Type 0} (test : Bool) (x y : X) → test ≡ false → (if test then x else y) ≡ y
if_false true x y h = absurd (cc)
if_false false x y h = refl

resized : (buffers : List BufferDeclared) (name : List ℕ) (size : ℕ) → same_name system_name name ≡ true → buffers_with buffers name size ≡ first_resized size buffers
resized buffers name size h = if_true (same_name system_name name) (first_resized size buffers) (buffers ++ record { name = name; size = size } ∷ []) h

one_more : (buffers : List BufferDeclared) (name : List ℕ) (size : ℕ) → same_name system_name name ≡ false → buffers_with buffers name size ≡ buffers ++ record { name = name; size = size } ∷ []
one_more buffers name size h = if_false (same_name system_name name) (first_resized size buffers) (buffers ++ record { name = name; size = size } ∷ []) h

pub count_system : (buffers : List BufferDeclared) (name : List ℕ) (size : ℕ) → same_name system_name name ≡ true → length (buffers_with buffers name size) ≡ length buffers
count_system buffers name size h = ap (λ (l : List BufferDeclared). length l) (resized buffers name size h) ∙ length_resized size buffers

pub count_other : (buffers : List BufferDeclared) (name : List ℕ) (size : ℕ) → same_name system_name name ≡ false → length (buffers_with buffers name size) ≡ length buffers + 1
count_other buffers name size h = ap (λ (l : List BufferDeclared). length l) (one_more buffers name size h) ∙ length-append buffers (record { name = name; size = size } ∷ [])

total_resized : (size : ℕ) (buffers : List BufferDeclared) (first : BufferDeclared) → 0 < length buffers → slice_get buffers 0 ≡ Some first → total_size (first_resized size buffers) + first.size ≡ total_size buffers + size
total_resized size [] first some is = absurd (omega (arith, some))
total_resized size (b ∷ bs) first some is =
    let same : b.size ≡ first.size = ap (λ (x : BufferDeclared). x.size) (same_Some b first is) in
    let after : total_size (record b { size = size } ∷ bs) ≡ size + total_size bs = sum_by-cons (λ (x : BufferDeclared). x.size) (record b { size = size }) bs in
    let before : total_size (b ∷ bs) ≡ b.size + total_size bs = sum_by-cons (λ (x : BufferDeclared). x.size) b bs in omega (arith, same, after, before)

pub total_system : (buffers : List BufferDeclared) (name : List ℕ) (size : ℕ) (first : BufferDeclared) → same_name system_name name ≡ true → 0 < length buffers → slice_get buffers 0 ≡ Some first
    → total_size (buffers_with buffers name size) + first.size ≡ total_size buffers + size
total_system buffers name size first h some is = ap (λ (l : List BufferDeclared). total_size l + first.size) (resized buffers name size h) ∙ total_resized size buffers first some is

pub total_other : (buffers : List BufferDeclared) (name : List ℕ) (size : ℕ) → same_name system_name name ≡ false → total_size (buffers_with buffers name size) ≡ total_size buffers + size
total_other buffers name size h = let new : BufferDeclared = record { name = name; size = size } in
    let more : total_size (buffers ++ new ∷ []) ≡ total_size buffers + total_size (new ∷ []) = sum_by-append (λ (x : BufferDeclared). x.size) buffers (new ∷ []) in
    let one : total_size (new ∷ []) ≡ size + total_size [] = sum_by-cons (λ (x : BufferDeclared). x.size) new [] in
    ap (λ (l : List BufferDeclared). total_size l) (one_more buffers name size h) ∙ omega (arith, more, one)
