-- The members of a session with the pick, and their rounds.
use Rattle.std.specs.Prelude.{◌≡◌, ℕ, zero, suc, ◌+◌, ◌<◌, ◌%◌, Bool, false, IsTrue, List, [], ◌∷◌, length}
use Rattle.std.specs.List.{AllZip}
use Rattle.daq_io.specs.Told.{AheadTold}
use Rattle.member_crew.specs.declared.turned.Turned.{Turned}
use Rattle.member_crew.specs.Turns.{HadSoMany, MemberSoFar, TurnsAt, so_far}

-- A crew: the members by their numbers, and the choice of the member that has the first turn of a round.
pub record CrewInRounds (M K : Type 0) : Type 0 where
  pub members : List M
  pub pick : K

-- the members, by what is noted of each number, whether a turn came to Ended; where nothing is noted of a member, none of its turns did
abbrev pub members_so_far : {M : Type 0} → List M → (ended : List Bool) → List (MemberSoFar M)
members_so_far [] ended = []
members_so_far (member ∷ members) [] = so_far member false ∷ members_so_far members []
members_so_far (member ∷ members) (ended ∷ more) = so_far member ended ∷ members_so_far members more

-- By what a pick tells of its choices.
module _ {K : Type 0} (told : K → AheadTold) where
  -- So many choices of a pick were read: it tells as before, and what lies ahead lay behind these.
  pub record ReadsPick (count : ℕ) (before after : K) : Type 0 where
    pub still : (told after).tells ≡ (told before).tells
    pub later : IsTrue (told before).tells → (n : ℕ) → (told after).ahead n ≡ (told before).ahead (n + count)

  -- The pick is read once, and gives the number of one of so many members: the next one that is told, where choices are told.
  pub record PicksMember (members number : ℕ) (before after : K) : Type 0 where
    pub within : number < members
    pub next : IsTrue (told before).tells → number ≡ (told before).ahead 0 % members
    pub reads : ReadsPick 1 before after

-- By what one turn of a member does, and what it came to.
module _ {M : Type 0} (turns : M → M → Turned → Type 0) where
  -- So many members take one turn each: the first of them is that of this number, and the others come behind it in cyclic
  -- order.
  abbrev pub TurnFrom : (first : ℕ) → (count : ℕ) → (before after : List M) → Type 0
  TurnFrom first zero before after = after ≡ before
  TurnFrom first (suc n) before after = (between : List M) × (turned : Turned) × TurnFrom first n before between ×
      TurnsAt turns ((first + n) % length before) between after turned

-- By what one turn of a member does, and by what a pick tells.
module _ {M K : Type 0} (turns : M → M → Turned → Type 0) (told : K → AheadTold) where
  -- One round: the pick is read once, and each member takes one turn, the picked one first and the others behind it in
  -- cyclic order.
  pub record TakesRound (before after : CrewInRounds M K) : Type 0 where
    pub first : ℕ
    pub picks : PicksMember told (length before.members) first before.pick after.pick
    pub turned : TurnFrom turns first (length before.members) before.members after.members

  -- What so many rounds leave: the same members, each behind as many turns of its own; and a pick of which so many choices
  -- were read.
  pub record KeptByRounds (count : ℕ) (before after : CrewInRounds M K) : Type 0 where
    pub had : AllZip (HadSoMany turns count) before.members after.members
    pub pick : ReadsPick told count before.pick after.pick
