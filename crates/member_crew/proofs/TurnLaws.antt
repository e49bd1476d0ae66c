-- Turns of a member, one behind the other, and of members side by side.
use Rattle.std.specs.Prelude.{◌≡◌, ℕ, zero, suc, Bool, true, false, List, [], ◌∷◌, refl}
use Rattle.std.specs.List.{AllZip}
use Rattle.std.proofs.Common.{sym, subst}
use Rattle.member_crew.specs.declared.turned.Turned.{Turned}
use Rattle.member_crew.specs.declared.turned.Turned.TheVariants.{Worked, Idle, Ended}
use Rattle.member_crew.specs.Turns.{CameBack, EndsFrom, GoesOn, HadSoMany, HadTurns, IsSoFar, MemberSoFar, TurnsOn, TurnsToEnd, is_end, so_far}
use Rattle.member_crew.proofs.ListLaws.{zip_follows, zip_then}

module _ {M : Type 0} (turns : M → M → Turned → Type 0) where
  -- a member that had no turn
  pub stays : (member : M) → HadTurns turns member member
  stays member = record { count = 0; had = refl }

  -- one turn more
  pub turn_more : (before between after : M) (turned : Turned) → HadTurns turns before between → turns between after turned → HadTurns turns before after
  turn_more before between after turned had turn = record { count = suc had.count; had = (between, turned, had.had, turn) }

  -- turns behind turns
  so_many_follow : (n : ℕ) (before between after : M) → HadTurns turns before between → HadSoMany turns n between after → HadTurns turns before after
  so_many_follow zero before between after first then_ = subst (λ (m : M). HadTurns turns before m) (sym then_) first
  so_many_follow (suc n) before between after first then_ =
      turn_more before then_.0 after then_.1 (so_many_follow n before between then_.0 first then_.2) then_.3

  pub turns_follow : (before between after : M) → HadTurns turns before between → HadTurns turns between after → HadTurns turns before after
  turns_follow before between after first then_ = so_many_follow then_.count before between after first then_.had

-- Until one comes to Ended.
module _ {M : Type 0} (turns : M → M → Turned → Type 0) where
  -- one turn more, but none behind the last
  turn_so_far : (before member after : M) (turned : Turned) → HadTurns (GoesOn turns) before member → turns member after turned → IsSoFar turns (is_end turned) before after
  turn_so_far before member after Worked had turn = turn_more (GoesOn turns) before member after Worked had (turn, λ (e : Worked ≡ Ended). cc (e))
  turn_so_far before member after Idle had turn = turn_more (GoesOn turns) before member after Idle had (turn, λ (e : Idle ≡ Ended). cc (e))
  turn_so_far before member after Ended had turn = record { between = member; on = had; last = turn }

  on_from : (ended : Bool) (before member : M) (later : MemberSoFar M) (turned : Turned) → IsSoFar turns ended before member → TurnsOn turns (so_far member ended) later turned → IsSoFar turns later.ended before later.member
  on_from true before member later turned had on = subst (λ (x : MemberSoFar M). IsSoFar turns x.ended before x.member) (sym on.0) had
  on_from false before member later turned had on = subst (λ (e : Bool). IsSoFar turns e before later.member) (sym on.1) (turn_so_far before member later.member turned had on.0)

  pub turns_on : (before : M) (x y : MemberSoFar M) (turned : Turned) → IsSoFar turns x.ended before x.member → TurnsOn turns x y turned → IsSoFar turns y.ended before y.member
  turns_on before x y turned had on = on_from x.ended before x.member y turned had on

  -- the last turns of a member that had turns
  pub ends_so : (ended : Bool) (before member after : M) → IsSoFar turns ended before member → EndsFrom turns ended member after → TurnsToEnd turns before after
  ends_so true before member after had ends = subst (λ (m : M). TurnsToEnd turns before m) (sym ends) had
  ends_so false before member after had ends = record {
    between = ends.between;
    on = turns_follow (GoesOn turns) before member ends.between had ends.on;
    last = ends.last;
  }

-- What each turn keeps, turns keep.
module _ {M : Type 0} (turns : M → M → Turned → Type 0) (Same : M → M → Type 0) (none : (m : M) → Same m m) (follow : (a b c : M) → Same a b → Same b c → Same a c) (one : (a b : M) → (turned : Turned) → turns a b turned → Same a b) where
  kept_so : (n : ℕ) (before after : M) → HadSoMany (GoesOn turns) n before after → Same before after
  kept_so zero before after same = subst (λ (m : M). Same before m) (sym same) (none before)
  kept_so (suc n) before after had = follow before had.0 after (kept_so n before had.0 had.2) (one had.0 after had.1 had.3.0)

  turns_keep : (before after : M) → TurnsToEnd turns before after → Same before after
  turns_keep before after had = follow before had.between after (kept_so had.on.count before had.between had.on.had) (one had.between after Ended had.last)

  -- and so do the turns of members side by side
  pub all_keep : (before after : List M) → CameBack turns before after → AllZip Same before after
  all_keep before after had = zip_then (TurnsToEnd turns) Same turns_keep before after had
