use Rattle.std.specs.Prelude.{Bool, ◌||◌, refl}
use Rattle.std.proofs.Common.{ap, sym, ◌∙◌}
use Rattle.transitions.specs.declared.replies.Polled.TheVariants.{Idle, Closed, NoClient}
use Rattle.member_model.specs.TurnCalls.{member_turns}
use Rattle.front_ends.specs.Fronts.{FrontState}
use Rattle.odb_watch.specs.DatabasePorts.{own_watched}
use Rattle.daq_members.specs.FrontTaken.{turned_by, is_sent}
use Rattle.daq_members.proofs.OwnTurnLaws.{none_open, idle_turns, closed_turns, unknown_turns, last_seen}
use Rattle.daq_members.proofs.TracedLaws.{same_access, access_then}
use Rattle.daq_members.proofs.FrontSeatLaws.{seated_asked, seated_taken, seated_finished}
use Rattle.daq_members.proofs.TakenLaws.{front_taken, front_finished}
use Rattle.daq_members.proofs.front_member.FrontMember.turn.Goals as goal

-- `c.poll` is the client's poll; the exit without a name is that where a turn was owed.

-- No turn is given, and nothing is done.

pub invariant_of-self : goal.invariant_of-self
invariant_of-self g c =
    let was = c.self.inside.engine in
    seated_asked g.X.Equipment.takes g.X.Equipment.makes _ _ c.self.invariant
    (record { engine = c.poll.ensures.engine; client = c.poll.ensures.client; name = refl; takes_as = refl; makes_as = refl; port = (refl, refl, refl); database = record { database = refl; caller = refl } })
    c.poll.ensures.speaks Closed (rw c.in-Closed.is at c.poll.ensures.asked) (closed_turns was.client was.calls) (refl {a = c.self.inside.port.moments}) c.self.invariant.stands

pub returns-in-Closed-clause-keeps : goal.returns-in-Closed-clause-keeps
returns-in-Closed-clause-keeps g c = invariant_of-self g c

pub returns-in-Closed-clause-takes : goal.returns-in-Closed-clause-takes
returns-in-Closed-clause-takes g c = rw (← c.self.view_is) (record {
  reply = Closed;
  takes = record { asks = rw c.in-Closed.is at c.poll.ensures.asked; run = refl; port = refl; moments = refl; database = refl; turned_is = refl };
})

pub invariant_of-self-in-NoClient : goal.invariant_of-self-in-NoClient
invariant_of-self-in-NoClient g c =
    let was = c.self.inside.engine in
    seated_asked g.X.Equipment.takes g.X.Equipment.makes _ _ c.self.invariant
    (record { engine = c.poll.ensures.engine; client = c.poll.ensures.client; name = refl; takes_as = refl; makes_as = refl; port = (refl, refl, refl); database = record { database = refl; caller = refl } })
    c.poll.ensures.speaks NoClient (rw c.in-NoClient.is at c.poll.ensures.asked) (unknown_turns was.client was.calls) (refl {a = c.self.inside.port.moments}) c.self.invariant.stands

pub returns-in-NoClient-clause-keeps : goal.returns-in-NoClient-clause-keeps
returns-in-NoClient-clause-keeps g c = invariant_of-self-in-NoClient g c

pub returns-in-NoClient-clause-takes : goal.returns-in-NoClient-clause-takes
returns-in-NoClient-clause-takes g c = rw (← c.self.view_is) (record {
  reply = NoClient;
  takes = record { asks = rw c.in-NoClient.is at c.poll.ensures.asked; run = refl; port = refl; moments = refl; database = refl; turned_is = refl };
})

-- No turn is given: the front-end makes its step.

pub invariant_of-self-in-Idle : goal.invariant_of-self-in-Idle
invariant_of-self-in-Idle g c =
    let was = c.self.inside in
    let stepped = c.step_between-step.ensures in
    seated_asked g.X.Equipment.takes g.X.Equipment.makes _ _ c.self.invariant
    (record { engine = c.poll.ensures.engine; client = c.poll.ensures.client; name = refl; takes_as = stepped.takes_as; makes_as = stepped.makes_as; port = stepped.same_port; database = record { database = refl; caller = refl } })
    c.poll.ensures.speaks (Idle c.in-Idle.state) (rw c.in-Idle.is at c.poll.ensures.asked) (idle_turns was.engine.client was.engine.calls c.in-Idle.state)
    stepped.moments
    (stepped.keeps was.engine.client was.key.name was.engine.calls was.port.moments (own_watched (g.D.DatabasePort.access was.database)) c.self.invariant.stands)

pub returns-in-Idle-clause-keeps : goal.returns-in-Idle-clause-keeps
returns-in-Idle-clause-keeps g c = invariant_of-self-in-Idle g c

pub returns-in-Idle-clause-same : goal.returns-in-Idle-clause-same
returns-in-Idle-clause-same g c =
    let stepped = c.step_between-step.ensures in
    rw (← c.self.view_is) (record { engine = c.poll.ensures.engine; client = c.poll.ensures.client; name = refl; takes_as = stepped.takes_as; makes_as = stepped.makes_as; port = stepped.same_port; database = record { database = refl; caller = refl } })

pub returns-in-Idle-clause-takes : goal.returns-in-Idle-clause-takes
returns-in-Idle-clause-takes g c = rw (← c.self.view_is) (record {
  reply = Idle c.in-Idle.state;
  takes = record {
    asks = rw c.in-Idle.is at c.poll.ensures.asked;
    step = c.step_between-step.result;
    steps = c.step_between-step.ensures.steps;
    moments = c.step_between-step.ensures.moments;
    database = refl;
    turned_is = c.turned_by.ensures ∙ ap turned_by c.is_sent.ensures;
  };
})

-- A new turn.

pub invariant_of-self-in-None : goal.invariant_of-self-in-None
invariant_of-self-in-None g c =
    let was = c.self.inside in
    let turns = member_turns was.engine.client was.engine.calls in
    let own = c.take_turn.new.self.access.own in
    let access = c.take_turn.ensures.access in
    let did = c.on_turn-answer.ensures in
    let stands = rw (← access) at c.self.invariant.stands in
    let owed = sym c.owed-owed.ensures ∙ c.in-None.is in
    seated_taken g.X.Equipment.takes g.X.Equipment.makes _ _ c.self.invariant
    (record {
      engine = c.give.ensures.engine ∙ c.poll.ensures.engine;
      client = c.give.ensures.client ∙ c.poll.ensures.client;
      name = refl;
      takes_as = ap (λ (f : FrontState _). g.X.Equipment.takes f.equipment) did.after;
      makes_as = ap (λ (f : FrontState _). g.X.Equipment.makes f.equipment) did.after;
      port = same_access access;
      database = c.set.ensures.same;
    })
    c.give.ensures.speaks was.front.run stands c.poll.new.self.calls c.in-Turn.transition c.in-Turn.order c.in-Turn.dump c.in-Turn.blank c.on_turn-answer.result (rw c.in-Turn.is at c.poll.ensures.asked)
    (rw c.poll.ensures.client at c.give.ensures.gives) owed
    (rw (← access) at c.take_turn.ensures.moments)
    (did.keeps own c.in-Turn.dump turns (none_open turns owed) stands.stands)
    (did.moments own c.in-Turn.dump turns was.port.moments stands.kept)
    (λ are of_run. c.sent_in-sent.ensures.of_run own turns stands.stands are of_run ∙ c.sent_in-sent.ensures.number)
    (rw (c.number_set_at-number.ensures, c.is_some.ensures, c.sent_in-sent.ensures.number) at c.set.ensures.own)

pub returns-in-None-clause-keeps : goal.returns-in-None-clause-keeps
returns-in-None-clause-keeps g c = invariant_of-self-in-None g c

pub returns-in-None-clause-same : goal.returns-in-None-clause-same
returns-in-None-clause-same g c = rw (← c.self.view_is) (record {
  engine = c.give.ensures.engine ∙ c.poll.ensures.engine;
  client = c.give.ensures.client ∙ c.poll.ensures.client;
  name = refl;
  takes_as = ap (λ (f : FrontState _). g.X.Equipment.takes f.equipment) c.on_turn-answer.ensures.after;
  makes_as = ap (λ (f : FrontState _). g.X.Equipment.makes f.equipment) c.on_turn-answer.ensures.after;
  port = same_access c.take_turn.ensures.access;
  database = c.set.ensures.same;
})

pub returns-in-None-clause-takes : goal.returns-in-None-clause-takes
returns-in-None-clause-takes g c = rw (← c.self.view_is) (
    front_taken c.in-Turn.transition c.in-Turn.order c.in-Turn.dump c.in-Turn.blank _ (sym c.owed-owed.ensures ∙ c.in-None.is) (record {
      answer = c.on_turn-answer.result;
      answer_is = c.on_turn-answer.ensures.answer;
      gives = rw (c.poll.ensures.client, rw c.in-Turn.is at c.poll.ensures.asked) at c.give.ensures.gives;
      run = ap (λ (f : FrontState _). f.run) c.on_turn-answer.ensures.after;
      port = c.take_turn.ensures.access;
      moments = c.take_turn.ensures.moments;
      sets = rw (c.number_set_at-number.ensures, c.is_some.ensures, c.sent_in-sent.ensures.number) at c.set.ensures.sets;
      last = last_seen g.D.DatabasePort.access _ _ _ c.give.ensures.last;
      turned_is = refl;
    }))

-- A turn is owed.

pub invariant_of-self-in-Some : goal.invariant_of-self-in-Some
invariant_of-self-in-Some g c =
    let was = c.self.inside in
    let turns = member_turns was.engine.client was.engine.calls in
    let step = c.step_between-step-in-Some in
    let own = c.answer_turn.new.self.access.own in
    let access = c.answer_turn.ensures.access in
    let ends = c.finish-answer.ensures in
    let stepped = rw (← access) at (step.ensures.keeps was.engine.client was.key.name was.engine.calls was.port.moments (own_watched (g.D.DatabasePort.access was.database)) c.self.invariant.stands) in
    let stands = rw (← step.ensures.takes_as, ← step.ensures.makes_as) at stepped.stands in
    seated_finished g.X.Equipment.takes g.X.Equipment.makes _ _ c.self.invariant
    (record {
      engine = c.give-in-Some.ensures.engine ∙ c.poll.ensures.engine;
      client = c.give-in-Some.ensures.client ∙ c.poll.ensures.client;
      name = refl;
      takes_as = ap (λ (f : FrontState _). g.X.Equipment.takes f.equipment) ends.after ∙ step.ensures.takes_as;
      makes_as = ap (λ (f : FrontState _). g.X.Equipment.makes f.equipment) ends.after ∙ step.ensures.makes_as;
      port = access_then was.port.access step.new.port.access c.answer_turn.new.self.access step.ensures.same_port access;
      database = c.set-in-Some.ensures.same;
    })
    c.give-in-Some.ensures.speaks step.new.front.run stepped c.poll.new.self.calls c.in-Turn.transition c.in-Turn.order c.in-Turn.dump c.in-Turn.blank c.finish-answer.result (rw c.in-Turn.is at c.poll.ensures.asked)
    (rw c.poll.ensures.client at c.give-in-Some.ensures.gives) c.in-Some.start (sym c.owed-owed.ensures ∙ c.in-Some.is) ends.answer
    (rw (← access, step.ensures.moments) at c.answer_turn.ensures.moments)
    (ends.keeps own turns stands)
    (ends.moments own turns was.port.moments stands stepped.kept)
    (λ are in_run. c.sent_in-sent-in-Some.ensures.in_run own turns stands are in_run ∙ c.sent_in-sent-in-Some.ensures.number)
    (rw (c.number_finished-number.ensures, c.is_some-answered.ensures, c.sent_in-sent-in-Some.ensures.number) at c.set-in-Some.ensures.own)

pub returns-clause-same : goal.returns-clause-same
returns-clause-same g c =
    let step = c.step_between-step-in-Some.ensures in
    rw (← c.self.view_is) (record {
      engine = c.give-in-Some.ensures.engine ∙ c.poll.ensures.engine;
      client = c.give-in-Some.ensures.client ∙ c.poll.ensures.client;
      name = refl;
      takes_as = ap (λ (f : FrontState _). g.X.Equipment.takes f.equipment) c.finish-answer.ensures.after ∙ step.takes_as;
      makes_as = ap (λ (f : FrontState _). g.X.Equipment.makes f.equipment) c.finish-answer.ensures.after ∙ step.makes_as;
      port = access_then c.self.inside.port.access c.step_between-step-in-Some.new.port.access c.answer_turn.new.self.access step.same_port c.answer_turn.ensures.access;
      database = c.set-in-Some.ensures.same;
    })

pub returns-clause-takes : goal.returns-clause-takes
returns-clause-takes g c = rw (← c.self.view_is) (
    front_finished c.in-Turn.transition c.in-Turn.order c.in-Turn.dump c.in-Turn.blank _ c.in-Some.start (sym c.owed-owed.ensures ∙ c.in-Some.is) (record {
      step = c.step_between-step-in-Some.result;
      stepped = c.step_between-step-in-Some.new.front.run;
      steps = rw (← c.answer_turn.ensures.access) at c.step_between-step-in-Some.ensures.steps;
      answer = c.finish-answer.result;
      answer_is = c.finish-answer.ensures.answer;
      gives = rw (c.poll.ensures.client, rw c.in-Turn.is at c.poll.ensures.asked) at c.give-in-Some.ensures.gives;
      run = ap (λ (f : FrontState _). f.run) c.finish-answer.ensures.after;
      moments = rw (← c.answer_turn.ensures.access, c.step_between-step-in-Some.ensures.moments) at c.answer_turn.ensures.moments;
      sets = rw (c.number_finished-number.ensures, c.is_some-answered.ensures, c.sent_in-sent-in-Some.ensures.number) at c.set-in-Some.ensures.sets;
      last = last_seen g.D.DatabasePort.access _ _ _ c.give-in-Some.ensures.last;
      turned_is = c.turned_by_step.ensures ∙ ap (λ (b : Bool). turned_by (is_sent c.step_between-step-in-Some.result || b)) c.is_some-answered.ensures;
    }))

pub returns-clause-keeps : goal.returns-clause-keeps
returns-clause-keeps g c =
    let was = c.self.inside in
    let turns = member_turns was.engine.client was.engine.calls in
    let step = c.step_between-step-in-Some in
    let own = c.answer_turn.new.self.access.own in
    let access = c.answer_turn.ensures.access in
    let ends = c.finish-answer.ensures in
    let stepped = rw (← access) at (step.ensures.keeps was.engine.client was.key.name was.engine.calls was.port.moments (own_watched (g.D.DatabasePort.access was.database)) c.self.invariant.stands) in
    let stands = rw (← step.ensures.takes_as, ← step.ensures.makes_as) at stepped.stands in
    seated_finished g.X.Equipment.takes g.X.Equipment.makes _ _ c.self.invariant
    (record {
      engine = c.give-in-Some.ensures.engine ∙ c.poll.ensures.engine;
      client = c.give-in-Some.ensures.client ∙ c.poll.ensures.client;
      name = refl;
      takes_as = ap (λ (f : FrontState _). g.X.Equipment.takes f.equipment) ends.after ∙ step.ensures.takes_as;
      makes_as = ap (λ (f : FrontState _). g.X.Equipment.makes f.equipment) ends.after ∙ step.ensures.makes_as;
      port = access_then was.port.access step.new.port.access c.answer_turn.new.self.access step.ensures.same_port access;
      database = c.set-in-Some.ensures.same;
    })
    c.give-in-Some.ensures.speaks step.new.front.run stepped c.poll.new.self.calls c.in-Turn.transition c.in-Turn.order c.in-Turn.dump c.in-Turn.blank c.finish-answer.result (rw c.in-Turn.is at c.poll.ensures.asked)
    (rw c.poll.ensures.client at c.give-in-Some.ensures.gives) c.in-Some.start (sym c.owed-owed.ensures ∙ c.in-Some.is) ends.answer
    (rw (← access, step.ensures.moments) at c.answer_turn.ensures.moments)
    (ends.keeps own turns stands)
    (ends.moments own turns was.port.moments stands stepped.kept)
    (λ are in_run. c.sent_in-sent-in-Some.ensures.in_run own turns stands are in_run ∙ c.sent_in-sent-in-Some.ensures.number)
    (rw (c.number_finished-number.ensures, c.is_some-answered.ensures, c.sent_in-sent-in-Some.ensures.number) at c.set-in-Some.ensures.own)
