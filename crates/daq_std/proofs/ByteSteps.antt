-- Reads and writes that were made again, and bytes of a name.
use Rattle.std.specs.Prelude.{◌≡◌, ℕ, ◌<◌, List, [], ◌++◌, length, take, drop, Option, Some, None, Result, Ok, Err, OnErr, IsTrue, All, refl}
use Rattle.std.specs.Io.KnownBytes.{Appends, Consumes, Keeps, ReadConsumes, WriteAppends}
use Rattle.std.specs.Str.{IsAscii}
use Rattle.std.proofs.Common.{arith, sym, ap, subst, ◌∙◌, slice_index_or, append_assoc, take-append-drop}
use Rattle.std.proofs.lemmas.List.{append-nil, nil_from_length}
use Rattle.std.proofs.Math.Seq.{take-append_seam}
use Rattle.std.proofs.lemmas.Str.Ascii.{IsAscii-from_all}
use Rattle.std.proofs.lemmas.Grind.{common_steps}
use Rattle.daq_types.specs.Names.{is_file_byte}
use Rattle.daq_io.proofs.StreamsLaws.{Appends-nil, Appends-trans, Appends-kept}
use Rattle.daq_std.specs.SystemCalls.{TookPart, TookWrite}

-- known bytes that stay through two steps
pub keeps_on : (first middle last : Option (List ℕ)) → Keeps first middle → Keeps middle last → Keeps first last
keeps_on None middle last before after = tt
keeps_on (Some xs) None last before after = absurd before
keeps_on (Some xs) (Some ys) None before after = absurd after
keeps_on (Some xs) (Some ys) (Some zs) before after = after ∙ before

consumes_on : (first middle last : Option (List ℕ)) (bytes : List ℕ) → Keeps first middle → Consumes middle last bytes → Consumes first last bytes
consumes_on None middle last bytes before after = tt
consumes_on (Some xs) None last bytes before after = absurd before
consumes_on (Some xs) (Some ys) None bytes before after = absurd after
consumes_on (Some xs) (Some ys) (Some zs) bytes before after = sym before ∙ after

appends_on : (first middle last : Option (List ℕ)) (bytes : List ℕ) → Keeps first middle → Appends middle last bytes → Appends first last bytes
appends_on None middle last bytes before after = tt
appends_on (Some xs) None last bytes before after = absurd before
appends_on (Some xs) (Some ys) None bytes before after = absurd after
appends_on (Some xs) (Some ys) (Some zs) bytes before after = grind (arith, common_steps, before, after)

-- a read behind others that were interrupted
pub reads_on : {E : Type 0} (first middle last : Option (List ℕ)) (result : Result ℕ E) (into : List ℕ) → Keeps first middle → ReadConsumes middle last result into → ReadConsumes first last result into
reads_on first middle last (Ok count) into before after = (consumes_on first middle last (take count into) before after.0, after.1)
reads_on first middle last (Err error) into before after = keeps_on first middle last before after

-- a write behind others that were interrupted
pub writes_on : {E : Type 0} (first middle last : Option (List ℕ)) (result : Result ℕ E) (bytes : List ℕ) → Keeps first middle → WriteAppends middle last result bytes → WriteAppends first last result bytes
writes_on first middle last (Ok count) bytes before after = appends_on first middle last (take count bytes) before after
writes_on first middle last (Err error) bytes before after = keeps_on first middle last before after

file_byte_small : (b : ℕ) → IsTrue (is_file_byte b) → b < 128
file_byte_small b is = grind (arith, common_steps, is)

-- the bytes of a file's name are ASCII
pub name_ascii : (name : List ℕ) → All (λ b. IsTrue (is_file_byte b)) name → IsAscii name
name_ascii name bytes = IsAscii-from_all name (λ k d inside. file_byte_small (slice_index_or name k d) (bytes k d inside))

-- All of these bytes were taken and written but the rest.
pub record TookAllBut (told_old told_new : Option (List ℕ)) (old new : List ℕ) (rest bytes : List ℕ) : Type 0 where
  pub front : List ℕ
  pub whole : front ++ rest ≡ bytes
  pub told : Appends told_old told_new front
  pub taken : new ≡ old ++ front

pub took_nothing : (told : Option (List ℕ)) (old bytes : List ℕ) → TookAllBut told told old old bytes bytes
took_nothing told old bytes = record { front = []; whole = refl; told = Appends-nil told; taken = sym (append-nil old) }

module _ {a b : Option (List ℕ)} {old new rest bytes : List ℕ} where
  pub took_more : (c : Option (List ℕ)) (newer : List ℕ) (count : ℕ) → TookAllBut a b old new rest bytes → Appends b c (take count rest) → newer ≡ new ++ take count rest → TookAllBut a c old newer (drop count rest) bytes
  took_more c newer count p told taken = record {
    front = p.front ++ take count rest;
    whole = append_assoc p.front (take count rest) (drop count rest) ∙ (ap (λ behind. p.front ++ behind) (take-append-drop count rest) ∙ p.whole);
    told = Appends-trans a b c p.front (take count rest) p.told told;
    taken = taken ∙ (ap (λ front. front ++ take count rest) p.taken ∙ append_assoc old p.front (take count rest));
  }

  front_all : (p : TookAllBut a b old new rest bytes) → length rest ≡ 0 → p.front ≡ bytes
  front_all p none = sym (append-nil p.front) ∙ (ap (λ behind. p.front ++ behind) (sym (nil_from_length rest none)) ∙ p.whole)

  pub told_all : TookAllBut a b old new rest bytes → length rest ≡ 0 → Appends a b bytes
  told_all p none = subst (Appends a b) (front_all p none) p.told

  pub taken_all : TookAllBut a b old new rest bytes → length rest ≡ 0 → new ≡ old ++ bytes
  taken_all p none = p.taken ∙ ap (λ all. old ++ all) (front_all p none)

  -- what was taken so far is a front of all
  pub took_part : (c : Option (List ℕ)) (newer : List ℕ) → TookAllBut a b old new rest bytes → Keeps b c → newer ≡ new → TookPart a c old newer bytes
  took_part c newer p told taken =
      let front : p.front ≡ take (length p.front) bytes = sym (take-append_seam p.front rest) ∙ ap (take (length p.front)) p.whole in
      record {
        count = length p.front;
        told = Appends-kept a b c _ (subst (Appends a b) front p.told) told;
        taken = taken ∙ (p.taken ∙ ap (λ all. old ++ all) front);
      }

-- a write behind others that took nothing
pub took_on : {E : Type 0} (first middle last : List ℕ) (result : Result ℕ E) (bytes : List ℕ) → middle ≡ first → TookWrite middle last result bytes → TookWrite first last result bytes
took_on first middle last (Ok count) bytes before after = after ∙ ap (λ taken. taken ++ take count bytes) before
took_on first middle last (Err why) bytes before after = after ∙ before

-- what holds anyhow holds of an answer that is Err
pub on_err : {T E P : Type 0} (r : Result T E) → P → OnErr r P
on_err (Ok x) p = tt
on_err (Err e) p = p
