-- The turns of a member, one behind the other, and of members side by side.
use Rattle.std.specs.Prelude.{◌≡◌, ◌≢◌, ℕ, zero, suc, Bool, true, false, List, slice_get, slice_set, Some}
use Rattle.std.specs.List.{AllZip}
use Rattle.member_crew.specs.declared.turned.Turned.{Turned}
use Rattle.member_crew.specs.declared.turned.Turned.TheVariants.{Worked, Idle, Ended}

-- What stands at this place of a list changed so, and the others are as they were.
pub record ChangesPlace {X : Type 0} (Changes : X → X → Type 0) (place : ℕ) (before after : List X) : Type 0 where
  pub was : X
  pub later : X
  pub stands : slice_get before place ≡ Some was
  pub changes : Changes was later
  pub is : after ≡ slice_set before place later

-- A member, and whether a turn of it came to Ended.
pub record MemberSoFar (M : Type 0) : Type 0 where
  pub member : M
  pub ended : Bool

abbrev pub so_far : {M : Type 0} → (member : M) → (ended : Bool) → MemberSoFar M
so_far member ended = record { member = member; ended = ended }

-- whether a turn came to Ended
abbrev pub is_end : Turned → Bool
is_end Worked = false
is_end Idle = false
is_end Ended = true

-- By what one turn does, and what it came to.
module _ {M : Type 0} (turns : M → M → Turned → Type 0) where
  -- The member of this number took one turn, which came to this, and the others are as they were.
  abbrev pub TurnsAt : (number : ℕ) → (before after : List M) → Turned → Type 0
  TurnsAt number before after turned = ChangesPlace (λ was later. turns was later turned) number before after

  -- The member had so many turns.
  abbrev pub HadSoMany : (count : ℕ) → (before after : M) → Type 0
  HadSoMany zero before after = after ≡ before
  HadSoMany (suc n) before after = (between : M) × (turned : Turned) × HadSoMany n before between ×
      turns between after turned

  -- The member had turns, some or none.
  pub record HadTurns (before after : M) : Type 0 where
    pub count : ℕ
    pub had : HadSoMany count before after

-- By what one turn does, and what it came to.
module _ {M : Type 0} (turns : M → M → Turned → Type 0) where
  -- A turn, which did not come to Ended.
  abbrev pub GoesOn : (before after : M) → Turned → Type 0
  GoesOn before after turned = turns before after turned × (turned ≢ Ended)

  -- The member had turns until one came to Ended, and none behind that.
  pub record TurnsToEnd (before after : M) : Type 0 where
    pub between : M
    pub on : HadTurns GoesOn before between
    pub last : turns between after Ended

  -- What a member is since it was so: it had turns until one came to Ended, and none behind that, or turns none of which did.
  abbrev pub IsSoFar : (ended : Bool) → (before member : M) → Type 0
  IsSoFar true before member = TurnsToEnd before member
  IsSoFar false before member = HadTurns GoesOn before member

  -- The member takes one turn, but none where one came to Ended before.
  abbrev pub TurnsOnBy : (ended : Bool) → (before after : MemberSoFar M) → Turned → Type 0
  TurnsOnBy true before after turned = (after ≡ before) × (turned ≡ Ended)
  TurnsOnBy false before after turned = turns before.member after.member turned × (after.ended ≡ is_end turned)

  abbrev pub TurnsOn : (before after : MemberSoFar M) → Turned → Type 0
  TurnsOn before after turned = TurnsOnBy before.ended before after turned

  -- The member has turns until one comes to Ended, but none where one did before.
  abbrev pub EndsFrom : (ended : Bool) → (member after : M) → Type 0
  EndsFrom true member after = after ≡ member
  EndsFrom false member after = TurnsToEnd member after

  -- The members came back: as many, each behind turns of its own, of which the last came to Ended, and no other.
  abbrev pub CameBack : (before after : List M) → Type 0
  CameBack before after = AllZip TurnsToEnd before after
