-- Bytes that go over the end of a ring.
use Rattle.std.specs.Prelude.{◌≡◌, ℕ, zero, suc, ◌+◌, ◌*◌, ◌-◌, ◌/◌, ◌%◌, ◌<◌, ◌≤◌, ◌⊎◌, List, [], ◌∷◌, ◌++◌, length, take, drop, min, refl}
use Rattle.std.proofs.Common.{ap, sym, subst, ◌∙◌, arith, get_or, drop-cons, inl, inr}
use Rattle.std.proofs.Math.Logic.{⊎_elim}
use Rattle.std.proofs.lemmas.Bool.{cases_lt}
use Rattle.std.proofs.lemmas.Nat.{mod-mul-add}
use Rattle.std.proofs.lemmas.List.{take_all, drop_all, take_at, drop_at, get_or-drop, get_or-take, get_or_append_left, get_or-append_right, length-take-le, length-append, length-drop, take-append-drop}
use Rattle.std.proofs.lemmas.Slice.{drop-append-drop}
use Rattle.ring_buffer.specs.Rings.{byte_at, bytes_at, KeepsOtherOffsets}
use Rattle.ring_buffer.proofs.RingLaws.{bytes_at-add}

-- the byte of an offset, after so many turns
byte_turned : (ring : List ℕ) (q s : ℕ) → s < length ring → byte_at ring (q * length ring + s) ≡ get_or ring s 0
byte_turned ring q s h = ap (λ (n : ℕ). get_or ring n 0) (mod-mul-add q (length ring) s h)

bytes_straight : (ring : List ℕ) (q s m : ℕ) → s + m ≤ length ring → bytes_at ring (q * length ring + s) m ≡ take m (drop s ring)
unfolding bytes_at
bytes_straight ring q s zero h = refl
bytes_straight ring q s (suc m) h =
    let w : ℕ = length ring in
    let within : s < length ring = omega (arith, h) in
    let here : byte_at ring (q * length ring + s) ≡ get_or ring s 0 = byte_turned ring q s within in
    let next : suc (q * length ring + s) ≡ q * length ring + suc s = omega arith in
    let rest : bytes_at ring (suc (q * length ring + s)) m ≡ take m (drop (suc s) ring) =
    ap (λ (o : ℕ). bytes_at ring o m) next ∙ bytes_straight ring q (suc s) m (omega (arith, h)) in
    let cut : drop s ring ≡ get_or ring s 0 ∷ drop (suc s) ring = drop-cons ring s 0 within in
    ap (λ (x : ℕ). x ∷ bytes_at ring (suc (q * length ring + s)) m) here
    ∙ (ap (λ (xs : List ℕ). get_or ring s 0 ∷ xs) rest ∙ ap (λ (xs : List ℕ). take (suc m) xs) (sym cut))

-- so many bytes lie from the start on, and so many more, if any, from the beginning of the ring
pub record IsTurn (size off start first rest : ℕ) : Type 0 where
  pub start_is : start ≡ off % size
  pub some : 0 < size
  pub within : start + first ≤ size
  pub whole : first + rest ≤ size
  pub wraps : 0 < rest → start + first ≡ size

turn_back : (size off start first rest : ℕ) → IsTurn size off start first rest → rest ≤ start
turn_back size off start first zero turn = omega arith
turn_back size off start first (suc rest) turn = omega (arith, turn.wraps (omega arith), turn.whole)

off_is : (size off start first rest : ℕ) → IsTurn size off start first rest → off ≡ off / size * size + start
off_is size off start first rest turn = let some : 0 < size = turn.some in omega (arith, turn.start_is)

behind_is : (ring : List ℕ) (off start first rest : ℕ) → IsTurn (length ring) off start first rest → bytes_at ring (off + first) rest ≡ take rest ring
unfolding bytes_at
behind_is ring off start first zero turn = refl
behind_is ring off start first (suc rest) turn =
    let q : ℕ = off / length ring in
    let round : off + first ≡ suc q * length ring + 0 = omega (arith, turn.wraps (omega arith), off_is (length ring) off start first (suc rest) turn) in
    ap (λ (o : ℕ). bytes_at ring o (suc rest)) round ∙ bytes_straight ring (suc q) 0 (suc rest) (omega (arith, turn.whole))

pub bytes_turned : (ring : List ℕ) (off start first rest : ℕ) → IsTurn (length ring) off start first rest
    → bytes_at ring off (first + rest) ≡ take first (drop start ring) ++ take rest ring
bytes_turned ring off start first rest turn =
    bytes_at-add ring off first rest
    ∙ (ap (λ (o : ℕ). bytes_at ring o first ++ bytes_at ring (off + first) rest) (off_is (length ring) off start first rest turn)
    ∙ (ap (λ (xs : List ℕ). xs ++ bytes_at ring (off + first) rest) (bytes_straight ring (off / length ring) start first turn.within)
    ∙ ap (λ (xs : List ℕ). take first (drop start ring) ++ xs) (behind_is ring off start first rest turn)))

-- a part of a list that is written anew
abbrev pub written : (xs : List ℕ) (start : ℕ) (part : List ℕ) → List ℕ
written xs start part = take start xs ++ (part ++ drop (start + length part) xs)

pub length-written : (xs : List ℕ) (start : ℕ) (part : List ℕ) → start + length part ≤ length xs → length (written xs start part) ≡ length xs
length-written xs start part h =
    let front : length (take start xs) ≡ start = length-take-le start xs (omega (arith, h)) in
    omega (arith, h, front, length-append (take start xs) (part ++ drop (start + length part) xs), length-append part (drop (start + length part) xs), length-drop (start + length part) xs)

take-written : (xs : List ℕ) (start : ℕ) (part : List ℕ) → start + length part ≤ length xs → take (length part) (drop start (written xs start part)) ≡ part
take-written xs start part h =
    let front : length (take start xs) ≡ start = length-take-le start xs (omega (arith, h)) in
    ap (λ (ys : List ℕ). take (length part) ys) (drop_at (take start xs) (part ++ drop (start + length part) xs) start front)
    ∙ take_at part (drop (start + length part) xs) (length part) refl

other-written : (xs : List ℕ) (start : ℕ) (part : List ℕ) (j : ℕ) → start + length part ≤ length xs → (j < start) ⊎ (start + length part ≤ j) → get_or (written xs start part) j 0 ≡ get_or xs j 0
other-written xs start part j h place =
    let front : length (take start xs) ≡ start = length-take-le start xs (omega (arith, h)) in
    ⊎_elim
    (λ (before : j < start).
    get_or_append_left (take start xs) (part ++ drop (start + length part) xs) 0 j (omega (arith, front, before)) ∙ get_or-take start xs j 0 before)
    (λ (behind : start + length part ≤ j).
    let k : ℕ = j - start in
    let same : (start + length part) + (k - length part) ≡ j = omega (arith, behind) in
    get_or-append_right (take start xs) (part ++ drop (start + length part) xs) start j 0 front (omega (arith, behind))
    ∙ (get_or-append_right part (drop (start + length part) xs) (length part) k 0 refl (omega (arith, behind))
    ∙ (get_or-drop (start + length part) xs (k - length part) 0 ∙ ap (λ (n : ℕ). get_or xs n 0) same)))
    place

-- the ring once both parts are written
abbrev pub put : (ring : List ℕ) (start : ℕ) (front back : List ℕ) → List ℕ
put ring start front back = written (written ring start front) 0 back

pub length-put : (ring : List ℕ) (off start : ℕ) (front back : List ℕ) → IsTurn (length ring) off start (length front) (length back) → length (put ring start front back) ≡ length ring
length-put ring off start front back turn =
    let once : length (written ring start front) ≡ length ring = length-written ring start front turn.within in
    length-written (written ring start front) 0 back (omega (arith, once, turn.whole)) ∙ once

drop_zero : (xs : List ℕ) (back : List ℕ) (n : ℕ) → length back ≤ n → drop n (written xs 0 back) ≡ drop n xs
drop_zero xs back n h =
    let same : 0 + length back ≡ length back = omega arith in
    ap (λ (k : ℕ). drop n (back ++ drop k xs)) same ∙ drop-append-drop (length back) xs back n h refl

take_zero : (xs : List ℕ) (back : List ℕ) → take (length back) (written xs 0 back) ≡ back
take_zero xs back = take_at back (drop (0 + length back) xs) (length back) refl

pub put_reads : (ring : List ℕ) (off start : ℕ) (front back : List ℕ) → IsTurn (length ring) off start (length front) (length back)
    → bytes_at (put ring start front back) off (length front + length back) ≡ front ++ back
put_reads ring off start front back turn =
    let new : List ℕ = put ring start front back in
    let long : length (put ring start front back) ≡ length ring = length-put ring off start front back turn in
    let again : IsTurn (length (put ring start front back)) off start (length front) (length back) =
    record {
      start_is = turn.start_is ∙ ap (λ (n : ℕ). off % n) (sym long);
      some = omega (arith, long, turn.some);
      within = omega (arith, long, turn.within);
      whole = omega (arith, long, turn.whole);
      wraps = λ h. turn.wraps h ∙ sym long;
    } in
    let back_in : length back ≤ start = turn_back (length ring) off start (length front) (length back) turn in
    let first : take (length front) (drop start (put ring start front back)) ≡ front =
    ap (λ (ys : List ℕ). take (length front) ys) (drop_zero (written ring start front) back start back_in) ∙ take-written ring start front turn.within in
    bytes_turned (put ring start front back) off start (length front) (length back) again
    ∙ (ap (λ (xs : List ℕ). xs ++ take (length back) (put ring start front back)) first
    ∙ ap (λ (xs : List ℕ). front ++ xs) (take_zero (written ring start front) back))

-- a byte that neither part wrote
stays : (ring : List ℕ) (off start : ℕ) (front back : List ℕ) (j : ℕ) → IsTurn (length ring) off start (length front) (length back) → length back ≤ j
    → (j < start) ⊎ (start + length front ≤ j) → get_or (put ring start front back) j 0 ≡ get_or ring j 0
stays ring off start front back j turn behind place =
    let once : length (written ring start front) ≡ length ring = length-written ring start front turn.within in
    other-written (written ring start front) 0 back j (omega (arith, once, turn.whole)) (inr (omega (arith, behind)))
    ∙ other-written ring start front j turn.within place

other_byte : (ring : List ℕ) (off start : ℕ) (front back : List ℕ) (o : ℕ) → IsTurn (length ring) off start (length front) (length back)
    → off + (length front + length back) ≤ o → o < off + length ring → byte_at (put ring start front back) o ≡ byte_at ring o
other_byte ring off start front back o turn behind round =
    let w : ℕ = length ring in
    let q : ℕ = off / length ring in
    let d : ℕ = o - off in
    let long : length (put ring start front back) ≡ length ring = length-put ring off start front back turn in
    let was : off ≡ q * length ring + start = off_is (length ring) off start (length front) (length back) turn in
    let back_in : length back ≤ start = turn_back (length ring) off start (length front) (length back) turn in
    let lies : (j n : ℕ) → o ≡ n * length ring + j → j < length ring → length back ≤ j → (j < start) ⊎ (start + length front ≤ j) → byte_at (put ring start front back) o ≡ byte_at ring o =
    λ j n is small low place.
    let index : o % length ring ≡ j = ap (λ (x : ℕ). x % length ring) is ∙ mod-mul-add n (length ring) j small in
    ap (λ (k : ℕ). get_or (put ring start front back) (o % k) 0) long
    ∙ (ap (λ (k : ℕ). get_or (put ring start front back) k 0) index
    ∙ (stays ring off start front back j turn low place ∙ ap (λ (k : ℕ). get_or ring k 0) (sym index))) in
    ⊎_elim
    (λ (straight : start + d < length ring). lies (start + d) q (omega (arith, was, behind)) straight (omega (arith, back_in)) (inr (omega (arith, behind))))
    (λ (over : length ring ≤ start + d).
    let j : ℕ = start + d - length ring in
    let low : length back ≤ j = low_enough (length ring) off start (length front) (length back) o turn behind over in
    lies j (suc q) (omega (arith, was, behind, over)) (omega (arith, turn.within, round, over, behind)) low (inl (omega (arith, round, over, behind, turn.some))))
    (cases_lt (start + d) (length ring))
  where
    low_enough : (size off start first rest o : ℕ) → IsTurn size off start first rest → off + (first + rest) ≤ o → size ≤ start + (o - off) → rest ≤ start + (o - off) - size
    low_enough size off start first zero o turn behind over = omega arith
    low_enough size off start first (suc rest) o turn behind over = omega (arith, turn.wraps (omega arith), behind, over)

pub put_keeps : (ring : List ℕ) (off start : ℕ) (front back : List ℕ) → IsTurn (length ring) off start (length front) (length back)
    → KeepsOtherOffsets ring (put ring start front back) off (length front + length back)
unfolding bytes_at
put_keeps ring off start front back turn o zero behind round = refl
put_keeps ring off start front back turn o (suc n) behind round =
    ap (λ (x : ℕ). x ∷ bytes_at (put ring start front back) (suc o) n) (other_byte ring off start front back o turn behind (omega (arith, round)))
    ∙ ap (λ (xs : List ℕ). byte_at ring o ∷ xs) (put_keeps ring off start front back turn (suc o) n (omega (arith, behind)) (omega (arith, round)))

-- how a piece of bytes is cut where the ring ends
pub record IsCut (size off start first : ℕ) (piece front back : List ℕ) : Type 0 where
  pub start_is : start ≡ off % size
  pub some : 0 < size
  pub fits : length piece ≤ size
  pub first_is : first ≡ min (length piece) (size - start)
  pub front_is : front ≡ take first piece
  pub back_is : back ≡ drop first piece

pub cut_turn : (size off start first : ℕ) (piece front back : List ℕ) → IsCut size off start first piece front back → IsTurn size off start (length front) (length back)
cut_turn size off start first piece front back cut =
    let some : 0 < size = cut.some in
    let early : start < size = omega (arith, cut.start_is) in
    let fronts : length front ≡ first = ap (λ (xs : List ℕ). length xs) cut.front_is ∙ length-take-le first piece (omega (arith, cut.first_is)) in
    let backs : length back ≡ length piece - first = ap (λ (xs : List ℕ). length xs) cut.back_is ∙ length-drop first piece in
    record {
      start_is = cut.start_is;
      some = cut.some;
      within = omega (arith, fronts, cut.first_is, early);
      whole = omega (arith, fronts, backs, cut.first_is, cut.fits);
      wraps = λ h. omega (arith, h, fronts, backs, cut.first_is, early);
    }

-- the ring once the piece is written
pub record IsPut (ring new : List ℕ) (off : ℕ) (piece : List ℕ) : Type 0 where
  pub reads : bytes_at new off (length piece) ≡ piece
  pub keeps : KeepsOtherOffsets ring new off (length piece)
  pub long : length new ≡ length ring

pub put_is : (ring once new piece front back : List ℕ) (off start first : ℕ) → IsCut (length ring) off start first piece front back
    → once ≡ written ring start front → new ≡ written once 0 back → IsPut ring new off piece
put_is ring once new piece front back off start first cut first_put second_put =
    let turn : IsTurn (length ring) off start (length front) (length back) = cut_turn (length ring) off start first piece front back cut in
    let is : put ring start front back ≡ new = sym (second_put ∙ ap (λ (xs : List ℕ). written xs 0 back) first_put) in
    let whole : front ++ back ≡ piece =
    ap (λ (xs : List ℕ). xs ++ back) cut.front_is ∙ (ap (λ (xs : List ℕ). take first piece ++ xs) cut.back_is ∙ take-append-drop first piece) in
    let count : length front + length back ≡ length piece = sym (length-append front back) ∙ ap (λ (xs : List ℕ). length xs) whole in
    let keeps : KeepsOtherOffsets ring (put ring start front back) off (length front + length back) = put_keeps ring off start front back turn in
    let reads : bytes_at (put ring start front back) off (length front + length back) ≡ front ++ back = put_reads ring off start front back turn in
    record {
      reads = subst (λ (xs : List ℕ). bytes_at xs off (length piece) ≡ piece) is
          (ap (λ (n : ℕ). bytes_at (put ring start front back) off n) (sym count) ∙ (reads ∙ whole));
      keeps = subst (λ (xs : List ℕ). KeepsOtherOffsets ring xs off (length piece)) is
          (subst (λ (n : ℕ). KeepsOtherOffsets ring (put ring start front back) off n) count keeps);
      long = ap (λ (xs : List ℕ). length xs) (sym is) ∙ length-put ring off start front back turn;
    }

-- and read
pub get_is : (ring piece front back front' back' : List ℕ) (off start first : ℕ) → IsCut (length ring) off start first piece front back
    → front' ≡ take (length front) (drop start ring) → back' ≡ take (length back) ring → front' ++ back' ≡ bytes_at ring off (length piece)
get_is ring piece front back front' back' off start first cut is_front is_back =
    let turn : IsTurn (length ring) off start (length front) (length back) = cut_turn (length ring) off start first piece front back cut in
    let whole : front ++ back ≡ piece =
    ap (λ (xs : List ℕ). xs ++ back) cut.front_is ∙ (ap (λ (xs : List ℕ). take first piece ++ xs) cut.back_is ∙ take-append-drop first piece) in
    let count : length front + length back ≡ length piece = sym (length-append front back) ∙ ap (λ (xs : List ℕ). length xs) whole in
    ap (λ (xs : List ℕ). xs ++ back') is_front
    ∙ (ap (λ (xs : List ℕ). take (length front) (drop start ring) ++ xs) is_back
    ∙ (sym (bytes_turned ring off start (length front) (length back) turn) ∙ ap (λ (n : ℕ). bytes_at ring off n) count))

-- a piece that does not go over the end is written in one
pub put_straight : (ring new piece : List ℕ) (off start : ℕ) → start ≡ off % length ring → 0 < length ring → start + length piece ≤ length ring → new ≡ written ring start piece → IsPut ring new off piece
put_straight ring new piece off start start_is some fits put =
    let cut : IsCut (length ring) off start (length piece) piece piece [] =
    record {
      start_is = start_is;
      some = some;
      fits = omega (arith, fits);
      first_is = omega (arith, fits);
      front_is = sym (take_all (length piece) piece (omega arith));
      back_is = sym (drop_all (length piece) piece (omega arith));
    } in
    put_is ring new new piece piece [] off start (length piece) cut put refl

-- and read
pub get_straight : (ring : List ℕ) (off start count : ℕ) → start ≡ off % length ring → 0 < length ring → start + count ≤ length ring → take count (drop start ring) ≡ bytes_at ring off count
get_straight ring off start count start_is some fits =
    let turn : IsTurn (length ring) off start count 0 =
    record {
      start_is = start_is;
      some = some;
      within = fits;
      whole = omega (arith, fits);
      wraps = λ h. omega (arith, h);
    } in
    sym (ap (λ (o : ℕ). bytes_at ring o count) (off_is (length ring) off start count 0 turn) ∙ bytes_straight ring (off / length ring) start count fits)
