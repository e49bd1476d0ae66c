-- Members that were sent away, behind rounds of the main thread, and as they come back.
use Rattle.std.specs.Prelude.{◌≡◌, ℕ, zero, suc, Bool, true, false, List, refl}
use Rattle.std.specs.List.{AllZip}
use Rattle.std.proofs.Common.{sym, subst}
use Rattle.member_crew.specs.Rounds.{HadRounds}
use Rattle.member_crew.specs.declared.turned.Turned.{Turned}
use Rattle.member_crew.specs.Turns.{CameBack, IsSoFar, MemberSoFar, TurnsToEnd}
use Rattle.member_crew.specs.MemberHandles.{CameFrom, HandleSeen, TurnsIfHere, WentAway}
use Rattle.member_crew.proofs.ListLaws.{zip_follows}
use Rattle.member_crew.proofs.TurnLaws.{ends_so, turns_on}

module _ {M : Type 0} (turns : M → M → Turned → Type 0) where
  -- a round is one turn, or none
  still_away : (member : M) (before after : HandleSeen M) → WentAway turns member before → TurnsIfHere turns before after → WentAway turns member after
  still_away member before after went round = by_thread before.has_thread refl where
    by_thread : (b : Bool) → before.has_thread ≡ b → WentAway turns member after
    by_thread false is = let turn = round.here is in turns_on turns member before.known after.known turn.0 went turn.1
    by_thread true is = subst (λ (x : MemberSoFar M). IsSoFar turns x.ended member x.member) (sym (round.away is)) went

  -- however many rounds they had
  pub rounds_away : (count : ℕ) (members : List M) (before after : List (HandleSeen M)) → AllZip (WentAway turns) members before → HadRounds (AllZip (TurnsIfHere turns)) count before after
      → AllZip (WentAway turns) members after
  rounds_away zero members before after went same = subst (λ (l : List (HandleSeen M)). AllZip (WentAway turns) members l) (sym same) went
  rounds_away (suc n) members before after went rounds =
      zip_follows (WentAway turns) (TurnsIfHere turns) (WentAway turns) still_away members rounds.0 after (rounds_away n members before rounds.0 went rounds.1) rounds.2

  -- those that were away came back
  pub away_back : (members back : List M) (handles : List (HandleSeen M)) → AllZip (WentAway turns) members handles → AllZip (CameFrom turns) handles back → CameBack turns members back
  away_back members back handles went came =
      zip_follows (WentAway turns) (CameFrom turns) (TurnsToEnd turns) (λ member handle later. ends_so turns handle.known.ended member handle.known.member later) members handles back went came
