use Rattle.std.proofs.Common.{◌∙◌, sym, [], append-nil}
use Rattle.turn_lock.proofs.lock.Turns.put.Goals as goal

pub returns-clause-entered : goal.returns-clause-entered
returns-clause-entered g c = let laid = c.lay_back.ensures in record {
  own = laid.own;
  number = laid.number;
  idle = laid.idle;
  appends = laid.appends;
  mine = laid.mine;
  found = ([], append-nil _ ∙ sym laid.found);
  legal = (_, laid.legal);
}
