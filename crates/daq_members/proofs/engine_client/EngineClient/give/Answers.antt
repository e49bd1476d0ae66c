use Rattle.std.specs.Prelude.{refl}
use Rattle.std.proofs.Common.{ap, sym, ◌∙◌, eq-eqb}
use Rattle.turn_lock.specs.Passes.{own_entries}
use Rattle.transitions.specs.EngineCalls.{without_return}
use Rattle.transitions.specs.declared.entry.EngineEntry.TheVariants.{Answer}
use Rattle.daq_members.specs.OwnTurns.{start_owed, are_calls_for}
use Rattle.daq_members.proofs.OwnTurnLaws.{owed_given, calls_for-push}
use Rattle.daq_members.proofs.engine_client.EngineClient.give.Goals as goal

-- `c.answer` is the engine's call, `c.in-Some.answer` what is given.
pub invariant_of-self : goal.invariant_of-self
invariant_of-self g c =
    let client = c.self.inside in
    let is = c.self.invariant in
    let entered = c.answer.ensures.entered in (
      entered.own,
      entered.idle,
      entered.number ∙ is.2,
      sym (ap (start_owed client.number) entered.mine
          ∙ owed_given client.number (own_entries client.pass) c.in-Some.answer (without_return c.answer.result)),
      ap (are_calls_for client.number) entered.mine
          ∙ calls_for-push client.number (own_entries client.pass) (Answer client.number c.in-Some.answer (without_return c.answer.result)) is.4 (eq-eqb client.number client.number refl),
    )

pub returns-clause-gives : goal.returns-clause-gives
returns-clause-gives g c = rw (← c.self.view_is, c.in-Some.is) (without_return c.answer.result, c.answer.ensures.entered.mine)

pub returns-clause-speaks : goal.returns-clause-speaks
returns-clause-speaks g c =
    let client = c.self.inside in
    ap (are_calls_for client.number) c.answer.ensures.entered.mine
    ∙ calls_for-push client.number (own_entries client.pass) (Answer client.number c.in-Some.answer (without_return c.answer.result)) c.self.invariant.4 (eq-eqb client.number client.number refl)
