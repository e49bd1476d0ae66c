-- Members that were sent away, as far as they are known, and what a round of the main thread does to them.
use Rattle.std.specs.Prelude.{◌≡◌, Bool, true, false, IsTrue, Result, Ok, Err}
use Rattle.member_crew.specs.declared.turned.Turned.{Turned}
use Rattle.member_crew.specs.Turns.{MemberSoFar, so_far, IsSoFar, TurnsOn, EndsFrom}

-- A member that was sent away: as it was when its thread began, or, where it has no thread, as it is.
pub record HandleSeen (M : Type 0) : Type 0 where
  pub known : MemberSoFar M
  pub has_thread : Bool

-- it has a thread, or else it is here itself
abbrev pub handle_seen : {T H M : Type 0} → (sent : T → M) → (here : H → MemberSoFar M) → Result T H → HandleSeen M
handle_seen sent here (Ok thread) = record { known = so_far (sent thread) false; has_thread = true }
handle_seen sent here (Err member) = record { known = here member; has_thread = false }

-- By what one turn does, and what it came to.
module _ {M : Type 0} (turns : M → M → Turned → Type 0) where
  -- The member was sent away, as far as it is known behind turns of its own, and none behind one that came to Ended.
  abbrev pub WentAway : M → HandleSeen M → Type 0
  WentAway member handle = IsSoFar turns handle.known.ended member handle.known.member

  -- A member in a round of the main thread: it has one turn where it has no thread, but none where one came to Ended before; and
  -- none where it has a thread.
  pub record TurnsIfHere (before after : HandleSeen M) : Type 0 where
    pub here : before.has_thread ≡ false → (turned : Turned) × TurnsOn turns before.known after.known turned
    pub away : IsTrue before.has_thread → after.known ≡ before.known
    pub thread : after.has_thread ≡ before.has_thread

  -- The member that was away came back: it had turns until one came to Ended, and none behind that.
  abbrev pub CameFrom : HandleSeen M → M → Type 0
  CameFrom handle member = EndsFrom turns handle.known.ended handle.known.member member
