-- Bytes that are written piece by piece.
use Rattle.std.proofs.Common.{◌≡◌, ◌<◌, ℕ, List, [], ◌∷◌, false, ◌++◌, length, take, drop, Option, Some, None, sym, ◌∙◌, ap, subst, refl, arith, append_assoc, take-append-drop, length-append}
use Rattle.std.specs.Prelude.{nat_eq}
use Rattle.std.proofs.lemmas.List.{append-nil, nil_from_length}
use Rattle.std.proofs.Math.Seq.{take-append_seam}
use Rattle.std.specs.Io.KnownBytes.{Appends, Keeps}
use Rattle.daq_io.specs.Streams.{AppendsPart, LeavesOver}
use Rattle.daq_io.proofs.StreamsLaws.{Appends-nil, Appends-trans, Appends-kept}

-- All of these bytes were written but the rest.
pub record AppendsAllBut (old new : Option (List ℕ)) (rest bytes : List ℕ) : Type 0 where
  pub done : List ℕ
  pub whole : done ++ rest ≡ bytes
  pub appends : Appends old new done

pub nothing_written : (a : Option (List ℕ)) (bytes : List ℕ) → AppendsAllBut a a bytes bytes
nothing_written a bytes = record { done = []; whole = refl; appends = Appends-nil a }

pub more_written : {a : Option (List ℕ)} {b : Option (List ℕ)} {rest bytes : List ℕ} (c : Option (List ℕ)) (count : ℕ) → AppendsAllBut a b rest bytes → Appends b c (take count rest) → AppendsAllBut a c (drop count rest) bytes
more_written {a} {b} {rest} {bytes} c count p q = record {
  done = p.done ++ take count rest;
  whole = append_assoc p.done (take count rest) (drop count rest) ∙ (ap (λ behind. p.done ++ behind) (take-append-drop count rest) ∙ p.whole);
  appends = Appends-trans a b c p.done (take count rest) p.appends q;
}

pub all_written : {a b : Option (List ℕ)} {rest bytes : List ℕ} → AppendsAllBut a b rest bytes → length rest ≡ 0 → Appends a b bytes
all_written {a} {b} {rest} {bytes} p h = subst (λ all. Appends a b all) (sym (append-nil p.done) ∙ (ap (λ behind. p.done ++ behind) (sym (nil_from_length rest h)) ∙ p.whole)) p.appends

pub part_written : {a b : Option (List ℕ)} {rest bytes : List ℕ} (c : Option (List ℕ)) → AppendsAllBut a b rest bytes → Keeps b c → AppendsPart a c bytes
part_written {a} {b} {rest} {bytes} c p q = record {
  count = length p.done;
  appends = Appends-kept a b c _ (subst (λ front. Appends a b front) (sym (take-append_seam p.done rest) ∙ ap (λ all. take (length p.done) all) p.whole) p.appends) q;
}

pub some_rest : (rest : List ℕ) → nat_eq (length rest) 0 ≡ false → 0 < length rest
some_rest [] none = absurd (cc)
some_rest (byte ∷ rest) none = omega arith

-- the next write failed, before the rest of the bytes
pub left_over : (a b c : Option (List ℕ)) (rest bytes : List ℕ) → AppendsAllBut a b rest bytes → 0 < length rest → Keeps b c → LeavesOver a c bytes
left_over None b c rest bytes p over kept = tt
left_over (Some first) b None rest bytes p over kept = tt
left_over (Some first) None (Some last) rest bytes p over kept = absurd p.appends
left_over (Some first) (Some now) (Some last) rest bytes p over kept = λ all.
    let grown : length last ≡ length (first ++ p.done) = ap (λ (l : List ℕ). length l) (kept ∙ p.appends) in
    let whole : length last ≡ length (first ++ bytes) = ap (λ (l : List ℕ). length l) all in
    let parts : length (p.done ++ rest) ≡ length bytes = ap (λ (l : List ℕ). length l) p.whole in
    omega (arith, over, grown, whole, parts, length-append first p.done, length-append first bytes, length-append p.done rest)
