use Rattle.std.specs.Prelude.{ℕ, Option, refl}
use Rattle.std.proofs.Common.{ap, sym, ◌∙◌, eq-eqb}
use Rattle.turn_lock.specs.Passes.{own_entries}
use Rattle.transitions.specs.declared.entry.EngineEntry.TheVariants.{Poll}
use Rattle.daq_members.specs.OwnTurns.{start_owed, owed_by, are_calls_for}
use Rattle.daq_members.proofs.OwnTurnLaws.{owed_polled, calls_for-push}
use Rattle.daq_members.proofs.engine_client.EngineClient.poll.Goals as goal

pub invariant_of-self : goal.invariant_of-self
invariant_of-self g c =
    let client = c.self.inside in
    let is = c.self.invariant in
    let entered = c.poll-reply.ensures.entered in (
      entered.own,
      entered.idle,
      entered.number ∙ is.2,
      c.owed_after-self-inside.ensures
          ∙ (ap (λ (o : Option ℕ). owed_by o c.poll-reply.result) is.3
          ∙ (sym (owed_polled client.number (own_entries client.pass) c.poll-reply.result)
          ∙ ap (start_owed client.number) (sym entered.mine))),
      ap (are_calls_for client.number) entered.mine
          ∙ calls_for-push client.number (own_entries client.pass) (Poll client.number c.poll-reply.result) is.4 (eq-eqb client.number client.number refl),
    )

pub returns-clause-asked : goal.returns-clause-asked
returns-clause-asked g c = rw (← c.self.view_is) c.poll-reply.ensures.entered.mine

pub returns-clause-speaks : goal.returns-clause-speaks
returns-clause-speaks g c =
    let client = c.self.inside in
    ap (are_calls_for client.number) c.poll-reply.ensures.entered.mine
    ∙ calls_for-push client.number (own_entries client.pass) (Poll client.number c.poll-reply.result) c.self.invariant.4 (eq-eqb client.number client.number refl)
