use Rattle.std.specs.Prelude.{Bool, ◌||◌, refl}
use Rattle.std.proofs.Common.{ap, sym, subst, ◌∙◌}
use Rattle.transitions.specs.declared.replies.Polled.TheVariants.{Idle, Closed, NoClient}
use Rattle.member_model.specs.TurnCalls.{member_turns}
use Rattle.analyzers.specs.Analyzers.{AnalyzerState, IsWithinGot}
use Rattle.daq_members.specs.FrontTaken.{turned_by}
use Rattle.daq_members.specs.AnalyzerTaken.{has_got}
use Rattle.daq_members.proofs.OwnTurnLaws.{none_open, idle_turns, closed_turns, unknown_turns, last_seen}
use Rattle.daq_members.proofs.AnalyzerLaws.{turn_same, blank_so, reported_within, analyzer_told, analyzer_finished}
use Rattle.daq_members.proofs.AnalyzerSeatLaws.{seated_asked, seated_taken, seated_finished}
use Rattle.daq_members.proofs.analyzer_member.AnalyzerMember.turn.Goals as goal

-- `c.poll` is the client's poll; the exit without a name is that where a turn was owed.

pub on_turn-answer-requires : goal.on_turn-answer-requires
on_turn-answer-requires g c = record { blank = blank_so c.in-Turn.transition c.in-Turn.order c.in-Turn.dump c.in-Turn.blank (rw c.in-Turn.is at c.poll.ensures.fair) }

-- No turn is given.

pub invariant_of-self : goal.invariant_of-self
invariant_of-self g c =
    let was = c.self.inside.engine in
    seated_asked _ _ c.self.invariant c.poll.ensures.client c.poll.ensures.speaks (refl, refl, refl) refl c.self.invariant.counted Closed (rw c.in-Closed.is at c.poll.ensures.asked) (closed_turns was.client was.calls) c.self.invariant.stands

pub returns-in-Closed-clause-keeps : goal.returns-in-Closed-clause-keeps
returns-in-Closed-clause-keeps g c = invariant_of-self g c

pub returns-in-Closed-clause-takes : goal.returns-in-Closed-clause-takes
returns-in-Closed-clause-takes g c = rw (← c.self.view_is) (record {
  reply = Closed;
  takes = record { asks = rw c.in-Closed.is at c.poll.ensures.asked; analyzer = refl; port = refl; turned_is = refl };
})

pub invariant_of-self-in-NoClient : goal.invariant_of-self-in-NoClient
invariant_of-self-in-NoClient g c =
    let was = c.self.inside.engine in
    seated_asked _ _ c.self.invariant c.poll.ensures.client c.poll.ensures.speaks (refl, refl, refl) refl c.self.invariant.counted NoClient (rw c.in-NoClient.is at c.poll.ensures.asked) (unknown_turns was.client was.calls) c.self.invariant.stands

pub returns-in-NoClient-clause-keeps : goal.returns-in-NoClient-clause-keeps
returns-in-NoClient-clause-keeps g c = invariant_of-self-in-NoClient g c

pub returns-in-NoClient-clause-takes : goal.returns-in-NoClient-clause-takes
returns-in-NoClient-clause-takes g c = rw (← c.self.view_is) (record {
  reply = NoClient;
  takes = record { asks = rw c.in-NoClient.is at c.poll.ensures.asked; analyzer = refl; port = refl; turned_is = refl };
})

pub invariant_of-self-in-Idle : goal.invariant_of-self-in-Idle
invariant_of-self-in-Idle g c =
    let was = c.self.inside.engine in
    let pulled = c.pull_between-pulled.ensures in
    seated_asked _ _ c.self.invariant c.poll.ensures.client c.poll.ensures.speaks pulled.same_port pulled.room pulled.counted (Idle c.in-Idle.state) (rw c.in-Idle.is at c.poll.ensures.asked) (idle_turns was.client was.calls c.in-Idle.state)
    (pulled.keeps was.client was.calls c.self.invariant.stands)

pub returns-in-Idle-clause-keeps : goal.returns-in-Idle-clause-keeps
returns-in-Idle-clause-keeps g c = invariant_of-self-in-Idle g c

pub returns-in-Idle-clause-takes : goal.returns-in-Idle-clause-takes
returns-in-Idle-clause-takes g c = rw (← c.self.view_is) (record {
  reply = Idle c.in-Idle.state;
  takes = record {
    asks = rw c.in-Idle.is at c.poll.ensures.asked;
    pulled = c.pull_between-pulled.result;
    pulls = c.pull_between-pulled.ensures.pulls;
    turned_is = c.turned_by.ensures ∙ ap turned_by c.has_got.ensures;
  };
})

-- A turn is given.

pub invariant_of-self-in-None : goal.invariant_of-self-in-None
invariant_of-self-in-None g c =
    let was = c.self.inside.engine in
    let turns = member_turns was.client was.calls in
    let did = c.on_turn-answer.ensures in
    let owed = sym c.owed-owed.ensures ∙ c.in-None.is in
    seated_taken _ _ c.self.invariant (c.give.ensures.client ∙ c.poll.ensures.client) c.give.ensures.speaks (turn_same c.in-Turn.transition _ c.in-Turn.order c.in-Turn.blank _ _ _ did.turns) did.room (did.counted c.self.invariant.counted)
    c.poll.new.self.calls c.in-Turn.transition c.in-Turn.order c.in-Turn.dump c.in-Turn.blank c.on_turn-answer.result (rw c.in-Turn.is at c.poll.ensures.asked) (rw c.poll.ensures.client at c.give.ensures.gives) owed did.turns
    (did.keeps c.in-Turn.dump turns (none_open turns owed) c.self.invariant.stands.stands) (did.tells c.in-Turn.dump turns c.self.invariant.stands.tells)

pub returns-in-None-clause-keeps : goal.returns-in-None-clause-keeps
returns-in-None-clause-keeps g c = invariant_of-self-in-None g c

pub returns-in-None-clause-same : goal.returns-in-None-clause-same
returns-in-None-clause-same g c = rw (← c.self.view_is) (record {
  engine = c.give.ensures.engine ∙ c.poll.ensures.engine;
  client = c.give.ensures.client ∙ c.poll.ensures.client;
  wanted = c.on_turn-answer.ensures.wanted;
  room = c.on_turn-answer.ensures.room;
  port = turn_same c.in-Turn.transition _ c.in-Turn.order c.in-Turn.blank _ _ _ c.on_turn-answer.ensures.turns;
})

pub invariant_of-self-in-Some : goal.invariant_of-self-in-Some
invariant_of-self-in-Some g c =
    let was = c.self.inside.engine in
    let turns = member_turns was.client was.calls in
    let pulled = c.pull_between-pulled-in-Some in
    let reading = pulled.ensures.keeps was.client was.calls c.self.invariant.stands in
    let ends = c.finish-answer.ensures in
    let got = (g.P.BufferPort.access pulled.new.port).got in
    seated_finished _ _ c.self.invariant (c.give-in-Some.ensures.client ∙ c.poll.ensures.client) c.give-in-Some.ensures.speaks pulled.ensures.same_port (ap (λ (a : AnalyzerState). a.room) ends.after ∙ pulled.ensures.room)
    (subst (λ (a : AnalyzerState). IsWithinGot a.run got) (sym ends.after) (reported_within pulled.new.analyzer.run c.finish-answer.result got pulled.ensures.counted))
    c.poll.new.self.calls c.in-Turn.transition c.in-Turn.order c.in-Turn.dump c.in-Turn.blank c.finish-answer.result (rw c.in-Turn.is at c.poll.ensures.asked) (rw c.poll.ensures.client at c.give-in-Some.ensures.gives)
    _ pulled.new.analyzer (sym c.owed-owed.ensures ∙ c.in-Some.is) ends.answer (ends.keeps _ _ turns reading.stands) (ends.tells _ _ turns reading.stands reading.tells)

pub returns-clause-keeps : goal.returns-clause-keeps
returns-clause-keeps g c =
    let was = c.self.inside.engine in
    let turns = member_turns was.client was.calls in
    let pulled = c.pull_between-pulled-in-Some in
    let reading = pulled.ensures.keeps was.client was.calls c.self.invariant.stands in
    let ends = c.finish-answer.ensures in
    let got = (g.P.BufferPort.access pulled.new.port).got in
    seated_finished _ _ c.self.invariant (c.give-in-Some.ensures.client ∙ c.poll.ensures.client) c.give-in-Some.ensures.speaks pulled.ensures.same_port (ap (λ (a : AnalyzerState). a.room) ends.after ∙ pulled.ensures.room)
    (subst (λ (a : AnalyzerState). IsWithinGot a.run got) (sym ends.after) (reported_within pulled.new.analyzer.run c.finish-answer.result got pulled.ensures.counted))
    c.poll.new.self.calls c.in-Turn.transition c.in-Turn.order c.in-Turn.dump c.in-Turn.blank c.finish-answer.result (rw c.in-Turn.is at c.poll.ensures.asked) (rw c.poll.ensures.client at c.give-in-Some.ensures.gives)
    _ pulled.new.analyzer (sym c.owed-owed.ensures ∙ c.in-Some.is) ends.answer (ends.keeps _ _ turns reading.stands) (ends.tells _ _ turns reading.stands reading.tells)

pub returns-in-None-clause-takes : goal.returns-in-None-clause-takes
returns-in-None-clause-takes g c = rw (← c.self.view_is) (
    analyzer_told c.in-Turn.transition c.in-Turn.order c.in-Turn.dump c.in-Turn.blank _ (sym c.owed-owed.ensures ∙ c.in-None.is) (record {
      answer = c.on_turn-answer.result;
      turns = c.on_turn-answer.ensures.turns;
      gives = rw (c.poll.ensures.client, rw c.in-Turn.is at c.poll.ensures.asked) at c.give.ensures.gives;
      last = last_seen g.P.BufferPort.access _ _ _ c.give.ensures.last;
      turned_is = refl;
    }))

pub returns-clause-takes : goal.returns-clause-takes
returns-clause-takes g c = rw (← c.self.view_is) (
    analyzer_finished c.in-Turn.transition c.in-Turn.order c.in-Turn.dump c.in-Turn.blank _ _ (sym c.owed-owed.ensures ∙ c.in-Some.is) (record {
      pulled = c.pull_between-pulled-in-Some.result;
      reading = c.pull_between-pulled-in-Some.new.analyzer;
      pulls = c.pull_between-pulled-in-Some.ensures.pulls;
      answer = c.finish-answer.result;
      answer_is = c.finish-answer.ensures.answer;
      gives = rw (c.poll.ensures.client, rw c.in-Turn.is at c.poll.ensures.asked) at c.give-in-Some.ensures.gives;
      last = last_seen g.P.BufferPort.access _ _ _ c.give-in-Some.ensures.last;
      later = c.finish-answer.ensures.after;
      turned_is = c.turned_by_pull-turned.ensures ∙ ap (λ (b : Bool). turned_by (b || has_got c.pull_between-pulled-in-Some.result)) c.is_some.ensures;
    }))

pub returns-clause-same : goal.returns-clause-same
returns-clause-same g c =
    let pulled = c.pull_between-pulled-in-Some.ensures in
    rw (← c.self.view_is) (record {
      engine = c.give-in-Some.ensures.engine ∙ c.poll.ensures.engine;
      client = c.give-in-Some.ensures.client ∙ c.poll.ensures.client;
      wanted = ap (λ (a : AnalyzerState). a.wanted) c.finish-answer.ensures.after ∙ pulled.wanted;
      room = ap (λ (a : AnalyzerState). a.room) c.finish-answer.ensures.after ∙ pulled.room;
      port = pulled.same_port;
    })
