-- The fault of a name, from what `Name::new` says of its text.
use Rattle.std.proofs.Common.{◌≡◌, ℕ, zero, suc, ◌+◌, ◌<◌, ◌≤◌, Bool, true, false, cond, eqb, ltb, List, [], ◌∷◌, length, get_or, Some, None, refl, sym, ap, ◌∙◌, subst, arith}
use Rattle.daq_types.specs.Names.{breaks_name, IsName, IsFirstBreak}
use Rattle.odb_value.specs.declared.path_refusals.PathRefusal.TheVariants.{BadByte}
use Rattle.odb_value.specs.PathText.{first_break, byte_fault, name_fault}

pub no_break : (size place : ℕ) (text : List ℕ) → ((k j : ℕ) → j ≡ place + k → k < length text → breaks_name size j (get_or text k 0) ≡ false) → first_break size place text ≡ None
no_break size place [] h = refl
no_break size place (b ∷ bs) h =
    ap (λ (t : Bool). cond t (Some place) (first_break size (place + 1) bs)) (h 0 place (omega arith) (omega arith))
    ∙ no_break size (place + 1) bs (λ k j e l. h (suc k) j (omega arith) (omega arith))

pub break_at : (size place k at : ℕ) (text : List ℕ) → at ≡ place + k → k < length text → breaks_name size at (get_or text k 0) ≡ true
    → ((i j : ℕ) → j ≡ place + i → i < k → breaks_name size j (get_or text i 0) ≡ false) → first_break size place text ≡ Some at
break_at size place k at [] e l t h = absurd (omega arith)
break_at size place zero at (b ∷ bs) e l t h =
    let same : place ≡ at = omega arith in
    let here : breaks_name size place b ≡ true = subst (λ (n : ℕ). breaks_name size n b ≡ true) (sym same) t in
    ap (λ (t : Bool). cond t (Some place) (first_break size (place + 1) bs)) here ∙ ap (λ (n : ℕ). Some n) same
break_at size place (suc k) at (b ∷ bs) e l t h =
    ap (λ (t : Bool). cond t (Some place) (first_break size (place + 1) bs)) (h 0 place (omega arith) (omega arith))
    ∙ break_at size (place + 1) k at bs (omega arith) (omega arith) t (λ i j f g. h (suc i) j (omega arith) (omega arith))

not_empty : (n : ℕ) → 1 ≤ n → eqb n 0 ≡ false
not_empty n h = grind arith

not_long : (n : ℕ) → n ≤ 31 → ltb 31 n ≡ false
not_long n h = grind arith

-- of a text of a name's length the bytes decide
of_bytes : (place : ℕ) (text : List ℕ) → 1 ≤ length text → length text ≤ 31 → name_fault place text ≡ byte_fault place (first_break (length text) 0 text)
of_bytes place text some short = rw (not_empty (length text) some, not_long (length text) short) refl

pub good_name : (place : ℕ) (text : List ℕ) → IsName text → name_fault place text ≡ None
good_name place text h =
    of_bytes place text h.some h.short
    ∙ ap (byte_fault place) (no_break (length text) 0 text (λ k j e l. subst (λ (n : ℕ). breaks_name (length text) n (get_or text k 0) ≡ false) (let same : k ≡ j = omega arith in same) (h.bytes k l)))

pub bad_name : (place at : ℕ) (text : List ℕ) → IsFirstBreak text at → name_fault place text ≡ Some (BadByte (place + at))
bad_name place at text h =
    of_bytes place text h.some h.short
    ∙ ap (byte_fault place) (break_at (length text) 0 at at text (omega arith) h.inside h.breaks (λ i j e l. subst (λ (n : ℕ). breaks_name (length text) n (get_or text i 0) ≡ false) (let same : i ≡ j = omega arith in same) (h.first i l)))
