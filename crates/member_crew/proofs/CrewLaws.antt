-- A crew behind the turns of a round, and behind rounds.
use Rattle.daq_io.specs.Told.{AheadTold}
use Rattle.std.specs.Prelude.{◌≡◌, ◌≢◌, ℕ, zero, suc, ◌+◌, ◌-◌, ◌<◌, ◌≤◌, ◌%◌, Bool, false, IsTrue, List, [], ◌∷◌, slice_get, slice_set, length, replicate, Some, refl}
use Rattle.std.specs.List.{AllZip}
use Rattle.std.proofs.Common.{◌⊎◌, ap, sym, subst, ◌∙◌, arith, inl, inr, add-one}
use Rattle.std.proofs.Math.Nat.{mod-eq_of_lt, mod-eq-sub-mod}
use Rattle.std.proofs.lemmas.List.{length-set}
use Rattle.std.proofs.lemmas.Option.{slice_get_within}
use Rattle.std.proofs.lemmas.Bool.Decides.{eqb_tells, leb_tells}
use Rattle.member_crew.specs.Rounds.{HadRounds}
use Rattle.member_crew.specs.declared.turned.Turned.{Turned}
use Rattle.member_crew.specs.Turns.{CameBack, ChangesPlace, EndsFrom, GoesOn, HadSoMany, IsSoFar, MemberSoFar, TurnsAt, TurnsOn, TurnsToEnd, so_far}
use Rattle.member_crew.specs.Crews.{CrewInRounds, KeptByRounds, ReadsPick, TakesRound, TurnFrom, members_so_far}
use Rattle.member_crew.proofs.ListLaws.{zip_follows, zip_stays}
use Rattle.member_crew.proofs.TurnLaws.{ends_so, stays, turns_on}

-- Lists.

get_set_here : {X : Type 0} (xs : List X) (i : ℕ) (x : X) → i < length xs → slice_get (slice_set xs i x) i ≡ Some x
get_set_here [] i x within = absurd (omega arith)
get_set_here (y ∷ ys) zero x within = refl
get_set_here (y ∷ ys) (suc i) x within = get_set_here ys i x (omega arith)

get_set_else : {X : Type 0} (xs : List X) (i k : ℕ) (x : X) → k ≢ i → slice_get (slice_set xs i x) k ≡ slice_get xs k
get_set_else [] i k x other = refl
get_set_else (y ∷ ys) zero zero x other = absurd (other refl)
get_set_else (y ∷ ys) zero (suc k) x other = refl
get_set_else (y ∷ ys) (suc i) zero x other = refl
get_set_else (y ∷ ys) (suc i) (suc k) x other = get_set_else ys i k x (λ e. other (ap suc e))

-- what holds of the two at each place holds side by side
zip_each : {X Y : Type 0} (R : X → Y → Type 0) (xs : List X) (ys : List Y) → length ys ≡ length xs → ((k : ℕ) (x : X) (y : Y) → slice_get xs k ≡ Some x → slice_get ys k ≡ Some y → R x y) → AllZip R xs ys
zip_each R [] [] count each = tt
zip_each R [] (y ∷ ys) count each = absurd (omega arith)
zip_each R (x ∷ xs) [] count each = absurd (omega arith)
zip_each R (x ∷ xs) (y ∷ ys) count each = (each 0 x y refl refl, zip_each R xs ys (omega arith) (λ k. each (suc k)))

-- Cyclic order.

mod_cases : (a c : ℕ) → a < c + c → ((a < c) × (a % c ≡ a)) ⊎ ((c ≤ a) × (a % c + c ≡ a))
mod_cases a c less = elim (leb_tells c a) as (λ w. ((a < c) × (a % c ≡ a)) ⊎ ((c ≤ a) × (a % c + c ≡ a))) [
  | inl above ↦
      let there : c ≤ a = above.1 in
      let once : a % c ≡ (a - c) % c = mod-eq-sub-mod there in
      let rest : (a - c) % c ≡ a - c = mod-eq_of_lt (omega arith) in
      let back : a % c + c ≡ a = omega (arith, once, rest) in
      inr (there, back)
  | inr below ↦
      let here : a < c = below.1 in
      inl (here, mod-eq_of_lt here)
]

-- two steps of one cycle come to two places
places_differ : (first c j n : ℕ) → first < c → j < n → n < c → (first + n) % c ≢ (first + j) % c
places_differ first c j n within less few same = elim (mod_cases (first + n) c (omega arith)) as (λ w. ⊥) [
  | inl one ↦ elim (mod_cases (first + j) c (omega arith)) as (λ w. ⊥) [
    | inl other ↦ omega (arith, same, one.1, other.1)
    | inr other ↦ omega (arith, same, one.0, other.0)
  ]
  | inr one ↦ elim (mod_cases (first + j) c (omega arith)) as (λ w. ⊥) [
    | inl other ↦ omega (arith, same, one.1, other.0, other.1)
    | inr other ↦ omega (arith, same, one.1, other.1)
  ]
]

-- each place is come to by a step
place_of : (first c k : ℕ) → first < c → k < c → (j : ℕ) × (j < c) × (k ≡ (first + j) % c)
place_of first c k within there = elim (leb_tells first k) as (λ w. (j : ℕ) × (j < c) × (k ≡ (first + j) % c)) [
  | inl above ↦
      let behind : first ≤ k = above.1 in
      let is : first + (k - first) ≡ k = omega arith in
      let place : (first + (k - first)) % c ≡ k = ap (λ (n : ℕ). n % c) is ∙ mod-eq_of_lt there in
      let few : k - first < c = omega arith in
      (k - first, few, sym place)
  | inr below ↦
      let before : k < first = below.1 in
      let is : first + (k + c - first) ≡ k + c = omega arith in
      let once : (k + c) % c ≡ (k + c - c) % c = mod-eq-sub-mod (omega arith) in
      let all : k + c - c ≡ k = omega arith in
      let place : (first + (k + c - first)) % c ≡ k = ap (λ (n : ℕ). n % c) is ∙ (once ∙ (ap (λ (n : ℕ). n % c) all ∙ mod-eq_of_lt there)) in
      let few : k + c - first < c = omega arith in
      (k + c - first, few, sym place)
]

module _ {M : Type 0} (turns : M → M → Turned → Type 0) where
  -- one turn more
  pub turn_more : (first n : ℕ) (before between after : List M) (turned : Turned) → TurnFrom turns first n before between → TurnsAt turns ((first + n) % length before) between after turned
      → TurnFrom turns first (n + 1) before after
  turn_more first n before between after turned so_far turn = rw add-one (between, turned, so_far, turn)

  -- as many members stay
  pub turns_count : (first n : ℕ) (before after : List M) → TurnFrom turns first n before after → length after ≡ length before
  turns_count first zero before after same = ap (λ (l : List M). length l) same
  turns_count first (suc n) before after all =
      ap (λ (l : List M). length l) all.3.is ∙ (length-set all.0 ((first + n) % length before) all.3.later ∙ turns_count first n before all.0 all.2)

  -- one turn
  abbrev OneTurn : (before after : M) → Type 0
  OneTurn before after = (turned : Turned) × turns before after turned

  -- Of the members in cyclic order from the first on so many had one turn, and the others none.
  record TurnedSoFar (first n : ℕ) (before after : List M) : Type 0 where
    count : length after ≡ length before
    had : (k : ℕ) (x y : M) → slice_get before k ≡ Some x → slice_get after k ≡ Some y → (j : ℕ) → j < n → k ≡ (first + j) % length before → OneTurn x y
    others : (k : ℕ) (x y : M) → slice_get before k ≡ Some x → slice_get after k ≡ Some y → ((j : ℕ) → j < n → k ≢ (first + j) % length before) → y ≡ x

  none_turned : (first : ℕ) (before after : List M) → after ≡ before → TurnedSoFar first 0 before after
  none_turned first before after same = record {
    count = ap (λ (l : List M). length l) same;
    had = λ k x y there is j less at. absurd (omega (arith, less));
    others = λ k x y there is none.
        let here : slice_get before k ≡ Some y = subst (λ (l : List M). slice_get l k ≡ Some y) same is in
        cc (there, here);
  }

  -- One more had its turn.
  one_turned : (first n : ℕ) (before between after : List M) (turned : Turned) → first < length before → n < length before → TurnedSoFar first n before between
      → TurnsAt turns ((first + n) % length before) between after turned → TurnedSoFar first (suc n) before after
  one_turned first n before between after turned within less so_far turn =
      let place : ℕ = (first + n) % length before in
      let set : List M = slice_set between place turn.later in
      let inside : place < length between = slice_get_within between place turn.was turn.stands in
      record {
        count = ap (λ (l : List M). length l) turn.is ∙ (length-set between place turn.later ∙ so_far.count);
        had = λ k x y there is j few at. elim (eqb_tells k place) as (λ w. OneTurn x y) [
          | inl same ↦
              let was : slice_get between k ≡ Some turn.was = subst (λ (i : ℕ). slice_get between i ≡ Some turn.was) (sym same.1) turn.stands in
              let untouched : turn.was ≡ x = so_far.others k x turn.was there was (λ i below here. places_differ first (length before) i n within below less (sym same.1 ∙ here)) in
              let new : slice_get set place ≡ Some turn.later = get_set_here between place turn.later inside in
              let new_too : slice_get after k ≡ Some turn.later = subst (λ (l : List M). slice_get l k ≡ Some turn.later) (sym turn.is) (subst (λ (i : ℕ). slice_get set i ≡ Some turn.later) (sym same.1) new) in
              let later : turn.later ≡ y = cc (new_too, is) in
              (turned, subst (λ (m : M). turns m y turned) untouched (subst (λ (m : M). turns turn.was m turned) later turn.changes))
          | inr differs ↦
              let before_that : slice_get between k ≡ Some y = sym (get_set_else between place k turn.later differs.1) ∙ subst (λ (l : List M). slice_get l k ≡ Some y) turn.is is in
              let earlier : j < n = earlier_step k j at few differs.1 in
              so_far.had k x y there before_that j earlier at
        ];
        others = λ k x y there is none.
            let differs : k ≢ place = none n (omega arith) in
            let before_that : slice_get between k ≡ Some y = sym (get_set_else between place k turn.later differs) ∙ subst (λ (l : List M). slice_get l k ≡ Some y) turn.is is in
            so_far.others k x y there before_that (λ j few. none j (omega (arith, few)));
      } where
        earlier_step : (k j : ℕ) → k ≡ (first + j) % length before → j < suc n → k ≢ (first + n) % length before → j < n
        earlier_step k j at few differs = elim (eqb_tells j n) as (λ w. j < n) [
          | inl same ↦ absurd (differs (at ∙ ap (λ (i : ℕ). (first + i) % length before) same.1))
          | inr other ↦ let unlike : j ≢ n = other.1 in omega (arith, few, unlike)
        ]

  all_turned : (first n : ℕ) (before after : List M) → first < length before → n ≤ length before → TurnFrom turns first n before after → TurnedSoFar first n before after
  all_turned first zero before after within few all = none_turned first before after all
  all_turned first (suc n) before after within few all =
      one_turned first n before all.0 after all.1 within (omega (arith, few)) (all_turned first n before all.0 within (omega (arith, few)) all.2) all.3

  -- in a round each member has one turn
  pub round_turned : (first : ℕ) (before after : List M) → first < length before → TurnFrom turns first (length before) before after → AllZip OneTurn before after
  round_turned first before after within all =
      let turned : TurnedSoFar first (length before) before after = all_turned first (length before) before after within (omega arith) all in
      zip_each OneTurn before after turned.count (λ k x y there is.
      let at = place_of first (length before) k within (slice_get_within before k x there) in
      turned.had k x y there is at.0 at.1 at.2)

-- Rounds.

module _ {K : Type 0} (tell : K → AheadTold) where
  none_read : (before after : K) → after ≡ before → ReadsPick tell 0 before after
  none_read before after same = record {
    still = ap (λ (k : K). (tell k).tells) same;
    later = λ told n. ap (λ (k : K). (tell k).ahead n) same ∙ ap (λ (m : ℕ). (tell before).ahead m) (omega arith);
  }

  more_read : (count : ℕ) (before between after : K) → ReadsPick tell count before between → ReadsPick tell 1 between after → ReadsPick tell (suc count) before after
  more_read count before between after first then_ = record {
    still = then_.still ∙ first.still;
    later = λ told n.
        let still : IsTrue (tell between).tells = subst (λ (b : Bool). IsTrue b) (sym first.still) told in
        let there : (n + 1) + count ≡ n + suc count = omega arith in
        then_.later still n ∙ (first.later told (n + 1) ∙ ap (λ (m : ℕ). (tell before).ahead m) there);
  }

module _ {M K : Type 0} (turns : M → M → Turned → Type 0) (tell : K → AheadTold) where
  pub rounds_kept : (count : ℕ) (before after : CrewInRounds M K) → HadRounds (TakesRound turns tell) count before after → KeptByRounds turns tell count before after
  rounds_kept zero before after same = record {
    had = subst (λ (crew : CrewInRounds M K). AllZip (HadSoMany turns 0) before.members crew.members) (sym same) (zip_stays (HadSoMany turns 0) (λ m. refl) before.members);
    pick = none_read tell before.pick after.pick (ap (λ (crew : CrewInRounds M K). crew.pick) same);
  }
  rounds_kept (suc n) before after all =
      let so_far = rounds_kept n before all.0 all.1 in
      let round = all.2 in
      let turned = round_turned turns round.first all.0.members after.members round.picks.within round.turned in
      record {
        had = zip_follows (HadSoMany turns n) (OneTurn turns) (HadSoMany turns (suc n)) (λ x y z had one. (y, one.0, had, one.1)) before.members all.0.members after.members so_far.had turned;
        pick = more_read tell n before.pick all.0.pick after.pick so_far.pick round.picks.reads;
      }

-- What is noted of each member.

pub so_far_count : {M : Type 0} (members : List M) (ended : List Bool) → length (members_so_far members ended) ≡ length members
so_far_count [] ended = refl
so_far_count (m ∷ ms) [] = ap (λ (n : ℕ). suc n) (so_far_count ms [])
so_far_count (m ∷ ms) (e ∷ es) = ap (λ (n : ℕ). suc n) (so_far_count ms es)

-- while nothing is noted
pub none_yet : {M : Type 0} (members : List M) (n : ℕ) → members_so_far members (replicate n false) ≡ members_so_far members []
none_yet [] n = refl
none_yet {M = M} (m ∷ ms) zero = ap (λ (l : List (MemberSoFar M)). so_far m false ∷ l) (none_yet ms zero)
none_yet {M = M} (m ∷ ms) (suc n) = ap (λ (l : List (MemberSoFar M)). so_far m false ∷ l) (none_yet ms n)

-- the member at a place
so_far_at : {M : Type 0} (members : List M) (ended : List Bool) (place : ℕ) (member : M) (e : Bool) → slice_get members place ≡ Some member → slice_get ended place ≡ Some e
    → slice_get (members_so_far members ended) place ≡ Some (so_far member e)
so_far_at [] ended place member e at noted = absurd (cc (at))
so_far_at (m ∷ ms) [] place member e at noted = absurd (cc (noted))
so_far_at {M = M} (m ∷ ms) (x ∷ es) zero member e at noted =
    let same : m ≡ member = cc (at) in
    let also : x ≡ e = cc (noted) in
    ap (λ (a : M). Some (so_far a x)) same ∙ ap (λ (b : Bool). Some (so_far member b)) also
so_far_at (m ∷ ms) (x ∷ es) (suc n) member e at noted = so_far_at ms es n member e at noted

-- what is noted where the member at a place is another, and what is noted of it
so_far_set : {M : Type 0} (members : List M) (ended : List Bool) (place : ℕ) (member : M) (e : Bool) → place < length ended
    → members_so_far (slice_set members place member) (slice_set ended place e) ≡ slice_set (members_so_far members ended) place (so_far member e)
so_far_set [] ended place member e within = refl
so_far_set (m ∷ ms) [] place member e within = absurd (omega (arith, within))
so_far_set (m ∷ ms) (x ∷ es) zero member e within = refl
so_far_set {M = M} (m ∷ ms) (x ∷ es) (suc n) member e within = ap (λ (l : List (MemberSoFar M)). so_far m x ∷ l) (so_far_set ms es n member e (omega (arith, within)))

-- where nothing else is noted of it
so_far_kept : {M : Type 0} (members : List M) (ended : List Bool) (place : ℕ) (member : M) (e : Bool) → slice_get ended place ≡ Some e
    → members_so_far (slice_set members place member) ended ≡ slice_set (members_so_far members ended) place (so_far member e)
so_far_kept [] ended place member e noted = refl
so_far_kept (m ∷ ms) [] place member e noted = absurd (cc (noted))
so_far_kept (m ∷ ms) (x ∷ es) zero member e noted = let same : x ≡ e = cc (noted) in ap (λ (b : Bool). so_far member b ∷ members_so_far ms es) same
so_far_kept {M = M} (m ∷ ms) (x ∷ es) (suc n) member e noted = ap (λ (l : List (MemberSoFar M)). so_far m x ∷ l) (so_far_kept ms es n member e noted)

module _ {M : Type 0} (turns : M → M → Turned → Type 0) where
  -- one turn of the member at a place
  pub turned_at : (members : List M) (ended : List Bool) (place : ℕ) (member later : M) (e e_later : Bool) (turned : Turned) → slice_get members place ≡ Some member → slice_get ended place ≡ Some e
      → TurnsOn turns (so_far member e) (so_far later e_later) turned
      → TurnsAt (TurnsOn turns) place (members_so_far members ended) (members_so_far (slice_set members place later) (slice_set ended place e_later)) turned
  turned_at members ended place member later e e_later turned at noted on = record {
    was = so_far member e;
    later = so_far later e_later;
    stands = so_far_at members ended place member e at noted;
    changes = on;
    is = so_far_set members ended place later e_later (slice_get_within ended place e noted);
  }

  -- The member has turns until one comes to Ended.
  abbrev pub Ends : (was later : MemberSoFar M) → Type 0
  Ends was later = EndsFrom turns was.ended was.member later.member

  pub ended_at : (members : List M) (ended : List Bool) (place : ℕ) (member later : M) (e : Bool) → slice_get members place ≡ Some member → slice_get ended place ≡ Some e → EndsFrom turns e member later
      → ChangesPlace Ends place (members_so_far members ended) (members_so_far (slice_set members place later) ended)
  ended_at members ended place member later e at noted ends = record {
    was = so_far member e;
    later = so_far later e;
    stands = so_far_at members ended place member e at noted;
    changes = ends;
    is = so_far_kept members ended place later e noted;
  }

  -- the members alone
  pub all_ended : (before : List (MemberSoFar M)) (members : List M) (ended : List Bool) → AllZip Ends before (members_so_far members ended) → AllZip (λ (was : MemberSoFar M) (later : M). EndsFrom turns was.ended was.member later) before members
  all_ended [] [] ended all = tt
  all_ended [] (m ∷ ms) [] all = absurd all
  all_ended [] (m ∷ ms) (e ∷ es) all = absurd all
  all_ended (x ∷ xs) [] ended all = absurd all
  all_ended (x ∷ xs) (m ∷ ms) [] all = (all.0, all_ended xs ms [] all.1)
  all_ended (x ∷ xs) (m ∷ ms) (e ∷ es) all = (all.0, all_ended xs ms es all.1)

  -- a member behind rounds
  rounds_on : (n : ℕ) (member : M) (x : MemberSoFar M) → HadSoMany (TurnsOn turns) n (so_far member false) x → IsSoFar turns x.ended member x.member
  rounds_on zero member x same = subst (λ (y : MemberSoFar M). IsSoFar turns y.ended member y.member) (sym same) (stays (GoesOn turns) member)
  rounds_on (suc n) member x had = turns_on turns member had.0 x had.1 (rounds_on n member had.0 had.2) had.3

  -- the members came back behind rounds and their last turns
  pub rounds_back : (n : ℕ) (members : List M) (between : List (MemberSoFar M)) (after : List M) → AllZip (HadSoMany (TurnsOn turns) n) (members_so_far members []) between
      → AllZip (λ (was : MemberSoFar M) (later : M). EndsFrom turns was.ended was.member later) between after → CameBack turns members after
  rounds_back n [] [] [] had ends = tt
  rounds_back n [] [] (y ∷ ys) had ends = ends
  rounds_back n [] (x ∷ xs) after had ends = absurd had
  rounds_back n (m ∷ ms) [] after had ends = absurd had
  rounds_back n (m ∷ ms) (x ∷ xs) [] had ends = ends
  rounds_back n (m ∷ ms) (x ∷ xs) (y ∷ ys) had ends = (ends_so turns x.ended m x.member y (rounds_on n m x had.0) ends.0, rounds_back n ms xs ys had.1 ends.1)
