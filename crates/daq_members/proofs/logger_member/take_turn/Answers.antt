use Rattle.std.specs.Prelude.{◌||◌, Bool, List, refl}
use Rattle.std.proofs.Common.{ap, sym, subst, ◌∙◌}
use Rattle.transitions.specs.declared.replies.Polled.TheVariants.{Idle, Closed, NoClient}
use Rattle.member_model.specs.Turns.{MemberTurn}
use Rattle.member_model.specs.TurnCalls.{member_turns}
use Rattle.daq_members.specs.FrontTaken.{turned_by}
use Rattle.daq_members.specs.ConnectedLoggers.{StandsOver, moment_at}
use Rattle.daq_members.proofs.OwnTurnLaws.{none_open, idle_turns, closed_turns, unknown_turns, taken_turns, finished_turns, last_seen}
use Rattle.daq_members.proofs.TakenLaws.{logger_taken, logger_finished}
use Rattle.daq_members.proofs.logger_member.take_turn.Goals as goal

-- `c.poll` is the client's poll; the exit without a name is that where a turn was owed.

pub returns-in-Closed-clause-takes : goal.returns-in-Closed-clause-takes
returns-in-Closed-clause-takes g c = record {
  reply = Closed;
  takes = record { asks = rw c.in-Closed.is at c.poll.ensures.asked; run = refl; dumps = refl; moment = refl; turned_is = refl };
}

pub returns-in-NoClient-clause-takes : goal.returns-in-NoClient-clause-takes
returns-in-NoClient-clause-takes g c = record {
  reply = NoClient;
  takes = record { asks = rw c.in-NoClient.is at c.poll.ensures.asked; run = refl; dumps = refl; moment = refl; turned_is = refl };
}

pub returns-in-Idle-clause-takes : goal.returns-in-Idle-clause-takes
returns-in-Idle-clause-takes g c = record {
  reply = Idle c.in-Idle.state;
  takes = record {
    asks = rw c.in-Idle.is at c.poll.ensures.asked;
    run = c.pull_all.ensures.stays.run;
    dumps = c.pull_all.ensures.stays.dumps;
    got = c.pull_all.result;
    pulls = c.pull_all.ensures.pulls;
    turned_is = c.turned_by.ensures;
  };
}

pub returns-in-None-clause-takes : goal.returns-in-None-clause-takes
returns-in-None-clause-takes g c =
    logger_taken c.in-Turn.transition c.in-Turn.order c.in-Turn.dump c.in-Turn.blank _ (sym c.owed-owed.ensures ∙ c.in-None.is) (record {
      answer = c.on_turn-answer.result;
      gives = rw (c.poll.ensures.client, rw c.in-Turn.is at c.poll.ensures.asked) at c.give.ensures.gives;
      takes = c.on_turn-answer.ensures.takes;
      last = last_seen (moment_at g.F.Files.told) _ _ _ c.give.ensures.last;
      turned_is = refl;
    })

pub returns-clause-takes : goal.returns-clause-takes
returns-clause-takes g c =
    logger_finished c.in-Turn.transition c.in-Turn.order c.in-Turn.dump c.in-Turn.blank _ _ (sym c.owed-owed.ensures ∙ c.in-Some.is) (record {
      got = c.pull_all-got.result;
      pulled = _;
      pulls = c.pull_all-got.ensures.pulls;
      answer = c.finish-answer.result;
      gives = rw (c.poll.ensures.client, rw c.in-Turn.is at c.poll.ensures.asked) at c.give-in-Some.ensures.gives;
      ports = c.finish-answer.ensures.ports;
      finishes = rw (c.pull_all-got.ensures.stays.run, c.pull_all-got.ensures.stays.dumps) at c.finish-answer.ensures.finishes;
      last = last_seen (moment_at g.F.Files.told) _ _ _ c.give-in-Some.ensures.last;
      turned_is = c.turned_by_pulls.ensures ∙ ap (λ (b : Bool). turned_by (c.pull_all-got.result || b)) c.is_some-answered.ensures;
    })

-- What is kept: the turns behind the calls, and the logger's own `keeps`.

pub returns-in-Closed-clause-keeps : goal.returns-in-Closed-clause-keeps
returns-in-Closed-clause-keeps g c = λ none stands.
    let turns = ap (member_turns c.args.engine.now.client) (rw c.in-Closed.is at c.poll.ensures.asked) ∙ closed_turns c.args.engine.now.client c.args.engine.now.calls in
    subst (λ (ts : List MemberTurn). StandsOver g.F.Files.told ts c.args.logger.now) (sym turns) stands

pub returns-in-NoClient-clause-keeps : goal.returns-in-NoClient-clause-keeps
returns-in-NoClient-clause-keeps g c = λ none stands.
    let turns = ap (member_turns c.args.engine.now.client) (rw c.in-NoClient.is at c.poll.ensures.asked) ∙ unknown_turns c.args.engine.now.client c.args.engine.now.calls in
    subst (λ (ts : List MemberTurn). StandsOver g.F.Files.told ts c.args.logger.now) (sym turns) stands

pub returns-in-Idle-clause-keeps : goal.returns-in-Idle-clause-keeps
returns-in-Idle-clause-keeps g c = λ none stands.
    let client = c.args.engine.now.client in
    let turns = ap (member_turns client) (rw c.in-Idle.is at c.poll.ensures.asked) ∙ idle_turns client c.args.engine.now.calls c.in-Idle.state in
    subst (λ (ts : List MemberTurn). StandsOver g.F.Files.told ts c.pull_all.new.self) (sym turns)
    (c.pull_all.ensures.stays.keeps (member_turns client c.args.engine.now.calls) stands)

pub returns-in-None-clause-keeps : goal.returns-in-None-clause-keeps
returns-in-None-clause-keeps g c = λ none stands.
    let client = c.args.engine.now.client in
    let calls = c.args.engine.now.calls in
    let owed = sym c.owed-owed.ensures ∙ c.in-None.is in
    let turns = taken_turns client calls c.poll.new.self.calls c.give.new.self.calls c.in-Turn.transition c.in-Turn.order c.in-Turn.dump c.in-Turn.blank c.on_turn-answer.result owed
    (rw c.in-Turn.is at c.poll.ensures.asked) (rw c.poll.ensures.client at c.give.ensures.gives) in
    subst (λ (ts : List MemberTurn). StandsOver g.F.Files.told ts c.on_turn-answer.new.self) (sym turns)
    (c.on_turn-answer.ensures.keeps (member_turns client calls) (none_open (member_turns client calls) owed) none stands)

pub returns-clause-keeps : goal.returns-clause-keeps
returns-clause-keeps g c = λ none stands.
    let client = c.args.engine.now.client in
    let calls = c.args.engine.now.calls in
    let ended = c.finish-answer in
    let turns = finished_turns client calls c.poll.new.self.calls c.give-in-Some.new.self.calls c.in-Turn.transition c.in-Turn.order c.in-Turn.dump c.in-Turn.blank _ ended.result
    (sym c.owed-owed.ensures ∙ c.in-Some.is) (rw c.in-Turn.is at c.poll.ensures.asked) (rw c.poll.ensures.client at c.give-in-Some.ensures.gives) in
    subst (λ (ts : List MemberTurn). StandsOver g.F.Files.told ts ended.new.self) (sym turns)
    (ended.ensures.keeps ended.new.self.ports (member_turns client calls) (rw ended.ensures.ports (c.pull_all-got.ensures.stays.keeps (member_turns client calls) stands)))

-- The ports.

pub returns-in-Idle-clause-same : goal.returns-in-Idle-clause-same
returns-in-Idle-clause-same g c = c.pull_all.ensures.stays.same

pub returns-clause-same : goal.returns-clause-same
returns-clause-same g c = rw c.finish-answer.ensures.ports c.pull_all-got.ensures.stays.same
