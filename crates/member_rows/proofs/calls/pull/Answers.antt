use Rattle.member_rows.proofs.calls.pull.Goals as goal

pub pull-requires-clause-room : goal.pull-requires-clause-room
pull-requires-clause-room g c = c.requires.row.room c.args.channel

pub returns : goal.returns
returns g c = record {
  row = record {
    ready = c.pull.ensures.ready;
    idle = c.pull.ensures.idle;
    begun = rw (c.pull.ensures.run, c.pull.ensures.same.many) c.requires.row.begun;
    small = rw c.pull.ensures.dumps c.requires.row.small;
    room = c.pull.ensures.room c.requires.row.room;
  };
}
