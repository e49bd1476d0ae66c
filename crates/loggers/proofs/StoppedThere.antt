-- The files of the runs that were stopped are there.
use Rattle.std.specs.Prelude.{◌≡◌, ◌<◌, ℕ, zero, suc, IsTrue, IsSome, List, [], ◌∷◌, slice_get, Option, Some, None, refl}
use Rattle.std.proofs.Common.{ap, sym, subst, ◌∙◌, inl, inr}
use Rattle.daq_types.specs.declared.runs.Transition.{Transition}
use Rattle.daq_types.specs.declared.runs.Transition.TheVariants.{Start}
use Rattle.daq_types.specs.declared.runs.ChannelEnd.{ChannelEnd}
use Rattle.daq_types.specs.declared.runs.ChannelState.{ChannelState}
use Rattle.daq_types.specs.declared.runs.ChannelState.TheVariants.{Broken as IsBroken, Ended, NoEnd, NoMark, Idle as IsIdle, Writing as IsWriting}
use Rattle.daq_io.specs.Seen.{Seen}
use Rattle.buffer_core.specs.declared.entry.BufferEntry.{BufferEntry}
use Rattle.buffer_core.specs.Ports.{Access, GotEvent}
use Rattle.buffer_core.specs.Slots.{slot_at}
use Rattle.member_model.specs.Turns.{MemberTurn, HasTurnOf, IsNextTurn, AreEngineTurns}
use Rattle.sub_files.specs.Patterns.{piece_name_by}
use Rattle.mid_logger.specs.declared.channel.Channel.{Channel}
use Rattle.mid_logger.specs.declared.channel_spec.ChannelSpec.{ChannelSpec}
use Rattle.mid_logger.specs.declared.stage.BegunRun.{BegunRun}
use Rattle.mid_logger.specs.Channels.{FileHead}
use Rattle.mid_logger.specs.ChannelEnds.{HasLeftSo}
use Rattle.loggers.specs.declared.logged_run.LoggedRun.{LoggedRun}
use Rattle.loggers.specs.declared.logged_run.RunDumps.{RunDumps}
use Rattle.loggers.specs.LoggerStands.{LoggerStands}
use Rattle.loggers.specs.OtherFiles.{specs_in}
use Rattle.loggers.specs.LeftNames.{IsStoppedName}
use Rattle.loggers.proofs.LeftThere.{left_there}
use Rattle.loggers.proofs.StoppedRuns.{there_is}

-- one turn is the start of a run
pub one_start : (turns : List MemberTurn) (start : ℕ) (t u : MemberTurn) → AreEngineTurns turns → HasTurnOf turns Start start t → HasTurnOf turns Start start u → t ≡ u
one_start [] start t u are first second = absurd first.stands
one_start (v ∷ vs) start t u are first second = elim first.stands as (λ w. t ≡ u) [
  | inl here ↦ elim second.stands as (λ w. t ≡ u) [
    | inl too ↦ sym here ∙ too
    | inr later ↦ absurd (
        let new = subst (λ (k : Transition). IsNextTurn k v.order.start vs) (ap (λ (x : MemberTurn). x.transition) here ∙ first.is) are.0 in
        new.1 u later (second.of ∙ sym (ap (λ (x : MemberTurn). x.order.start) here ∙ first.of)))
  ]
  | inr old ↦ elim second.stands as (λ w. t ≡ u) [
    | inl too ↦ absurd (
        let new = subst (λ (k : Transition). IsNextTurn k v.order.start vs) (ap (λ (x : MemberTurn). x.transition) too ∙ second.is) are.0 in
        new.1 t old (first.of ∙ sym (ap (λ (x : MemberTurn). x.order.start) too ∙ second.of)))
    | inr later ↦ one_start vs start t u are.1 (record { stands = old; is = first.is; of = first.of }) (record { stands = later; is = second.is; of = second.of })
  ]
]

-- the run that was left is that of its files' heads
left_number : (state : ChannelState) (end : ChannelEnd) (spec : ChannelSpec) (head : FileHead) (run : BegunRun) (time : ℕ) (dump : Option (List ℕ)) (own : List BufferEntry) (got : List GotEvent) (seen : Seen) → HasLeftSo state end spec head run time dump own got seen → head.run ≡ run.opened.run
left_number IsBroken end spec head run time dump own got seen left = left.number
left_number IsIdle end spec head run time dump own got seen left = left.number
left_number IsWriting end spec head run time dump own got seen left = left.number
left_number Ended end spec head run time dump own got seen left = left.number
left_number NoEnd end spec head run time dump own got seen left = left.number
left_number NoMark end spec head run time dump own got seen left = left.number

-- the channel of a spec
pub spec_from : (slots : List (Option Channel)) (n : ℕ) (spec : ChannelSpec) → slot_at (specs_in slots) n ≡ Some spec → (c : Channel) × (slot_at slots n ≡ Some c) × (c.spec ≡ spec)
spec_from [] n spec at = absurd (cc (at))
spec_from (None ∷ os) zero spec at = absurd (cc (at))
spec_from (Some c ∷ os) zero spec at = (c, refl, cc (at))
spec_from (o ∷ os) (suc n) spec at = spec_from os n spec at

-- where names are told, each file of a run that was stopped is there
pub stopped_there : (run : Option LoggedRun) (dumps : RunDumps) (slots : List (Option Channel)) (ports : List Access) (turns : List MemberTurn) (seen : Seen) → LoggerStands run dumps slots ports turns seen → IsTrue seen.names → AreEngineTurns turns → (name : List ℕ) → IsStoppedName (specs_in slots) turns name
    → IsSome (seen.at name)
stopped_there run dumps slots ports turns seen stands tells are name o =
    let start : ℕ = o.stopped.stop.order.start in
    let found = spec_from slots o.number o.spec o.there in
    let c : Channel = found.0 in
    let port : (a : Access) × (slice_get ports c.spec.buffer ≡ Some a) = there_is ports c.spec.buffer (stands.holds.served o.number c found.1) in
    let so = stands.holds.standing.left are o.stopped.stop o.ends (record { stands = o.stopped.stands; is = o.stopped.is; answered = o.stopped.answered }) o.number c port.0 found.1 port.1 in
    let told : o.told ≡ so.told = (let mine = o.at in let its = so.at in cc (mine, its)) in
    let left = so.left in
    let begin : left.headed.turn ≡ o.stopped.begin = one_start turns start left.headed.turn o.stopped.begin are left.headed.is_start.is_start o.stopped.is_start.is_start in
    let number : left.run.opened.run ≡ o.run =
    sym (left_number so.told.state so.told c.spec left.head left.run o.stopped.stop.order.time o.stopped.stop.dump port.0.own port.0.got seen left.left) ∙ (left.headed.run ∙ (ap (λ (t : MemberTurn). t.order.run) begin ∙ o.stopped.number)) in
    let there : IsSome (seen.at (piece_name_by c.spec.pattern left.run.opened.run o.sub)) =
    left_there so.told c.spec left.head left.run o.stopped.stop.order.time o.stopped.stop.dump port.0.own port.0.got seen left.left tells o.sub (subst (λ (t : ChannelEnd). o.sub < t.files) told o.made) in
    let is : piece_name_by c.spec.pattern left.run.opened.run o.sub ≡ name =
    ap (λ (s : ChannelSpec). piece_name_by s.pattern left.run.opened.run o.sub) found.2 ∙ (ap (λ (n : ℕ). piece_name_by o.spec.pattern n o.sub) number ∙ o.is) in
    subst (λ (l : List ℕ). IsSome (seen.at l)) is there
