-- A part of a line that is passed, over the fields of a reader.
use Rattle.std.proofs.Common.{◌≡◌, ◌≢◌, ◌∙◌, ℕ, ◌+◌, ◌-◌, ◌<◌, ◌≤◌, min, Bool, true, false, List, ◌∷◌, ◌++◌, length, take, drop, get_or, All, refl, ap, sym, subst, arith, length-take}
use Rattle.std.proofs.lemmas.List.{take-append-drop, get_or-take}
use Rattle.odb_script.specs.Lines.{Reading, script_limit}
use Rattle.odb_script.specs.Advances.{IsLinePart, IsScanned}
use Rattle.odb_script.proofs.KeptLines.{pending_passed, part_pending, ended_at}

-- what is pending in a block, and as much of it as the limit lets be seen
abbrev pub pending_of : (block : List ℕ) (at filled : ℕ) → List ℕ
pending_of block at filled = take (filled - at) (drop at block)

abbrev pub visible_of : (block : List ℕ) (at filled taken : ℕ) → List ℕ
visible_of block at filled taken = take (min (filled - at) (script_limit - taken)) (drop at block)

pub visible_is : (block seen rest front : List ℕ) (at filled taken least : ℕ) → seen ≡ block → rest ≡ drop at seen
    → least ≡ min (filled - at) (script_limit - taken) → front ≡ take least rest → front ≡ visible_of block at filled taken
visible_is block seen rest front at filled taken least a b d e = rw (e, d, b, a) refl

pub is_small : (block : List ℕ) (at filled taken len passed : ℕ) (ended : Bool) → IsLinePart (visible_of block at filled taken) len passed ended
    → passed ≤ min (filled - at) (script_limit - taken)
is_small block at filled taken len passed ended h = omega (arith, h.inside, length-take (min (filled - at) (script_limit - taken)) (drop at block))

module _ (block : List ℕ) (at filled taken : ℕ) (line line' : List ℕ) (len passed : ℕ) where
  abbrev pub pending : List ℕ
  pending = pending_of block at filled

  abbrev pub visible : List ℕ
  visible = visible_of block at filled taken

  abbrev pub old : Reading
  old = record { line = line; pending = pending; taken = taken }

  abbrev pub new : Reading
  new = record { line = line'; pending = take (filled - (at + passed)) (drop (at + passed) block); taken = taken + passed }

  module _ (fits : filled ≤ length block) (within : taken < script_limit) (keeps : line' ≡ take 4098 (line ++ take len visible)) where
    is_pending : (ended : Bool) → IsLinePart visible len passed ended → passed ≤ length pending
    is_pending ended h = omega (arith, h.inside, length-take (min (filled - at) (script_limit - taken)) (drop at block), length-take (filled - at) (drop at block))

    -- the part is one of what is pending
    front : (ended : Bool) → IsLinePart visible len passed ended → take len visible ≡ take len pending
    front ended h = part_pending (drop at block) len (script_limit - taken) (filled - at) (omega (arith, is_small block at filled taken len passed ended h, h.behind))

    rest : (ended : Bool) → IsLinePart visible len passed ended → take (filled - (at + passed)) (drop (at + passed) block) ≡ drop passed pending
    rest ended h = pending_passed block at filled passed (omega (arith, is_small block at filled taken len passed ended h))

    length-part : (ended : Bool) → IsLinePart visible len passed ended → length (take len pending) ≡ len
    length-part ended h = omega (arith, length-take len pending, is_pending ended h, h.behind)

    pub scanned_end : IsLinePart visible len passed true → IsScanned true old new
    scanned_end h =
        let is_passed : passed ≡ len + 1 = (h.is_end refl).0 in
        let small : passed ≤ min (filled - at) (script_limit - taken) = is_small block at filled taken len passed true h in
        let at_end : get_or pending len 0 ≡ 10 =
        get_or-take (filled - at) (drop at block) len 0 (omega (arith, small, is_passed))
        ∙ sym (get_or-take (min (filled - at) (script_limit - taken)) (drop at block) len 0 (omega (arith, small, is_passed)))
        ∙ (h.is_end refl).1 in (
          take len pending,
          record {
            bytes = ended_at pending len (omega (arith, is_pending true h, is_passed)) at_end
                ∙ ap (λ xs. take len pending ++ 10 ∷ xs) (ap (λ n. drop n pending) (sym is_passed) ∙ sym (rest true h));
            plain = subst (All (λ b. b ≢ 10)) (front true h) h.plain;
            line = keeps ∙ ap (λ part. take 4098 (line ++ part)) (front true h);
            taken = omega (arith, length-part true h, is_passed);
            within = omega (arith, small);
          },
        )

    pub scanned_part : 0 < length pending → IsLinePart visible len passed false → IsScanned false old new
    scanned_part some h =
        let whole : (passed ≡ len) × (len ≡ length visible) = h.open_end refl in
        let small : passed ≤ min (filled - at) (script_limit - taken) = is_small block at filled taken len passed false h in (
          take len pending,
          omega (arith, length-part false h, whole.0, whole.1, within, some, length-take (min (filled - at) (script_limit - taken)) (drop at block), length-take (filled - at) (drop at block)),
          record {
            bytes = sym (take-append-drop len pending) ∙ ap (λ xs. take len pending ++ xs) (ap (λ n. drop n pending) (sym whole.0) ∙ sym (rest false h));
            plain = subst (All (λ b. b ≢ 10)) (front false h) h.plain;
            line = keeps ∙ ap (λ part. take 4098 (line ++ part)) (front false h);
            taken = omega (arith, length-part false h, whole.0);
            within = omega (arith, small);
          },
        )

    pub scanned : (ended : Bool) → 0 < length pending → IsLinePart visible len passed ended → IsScanned ended old new
    scanned true some h = scanned_end h
    scanned false some h = scanned_part some h
