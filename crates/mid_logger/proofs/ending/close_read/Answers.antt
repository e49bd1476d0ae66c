use Rattle.mid_logger.proofs.ending.close_read.Goals as goal

pub returns-in_default-clause-whole : goal.returns-in_default-clause-whole
returns-in_default-clause-whole g c = rw c.in_default.is (c.in_ok-close.ensures.written c.requires.writes)

pub returns-in_default-dump-clause-whole : goal.returns-in_default-dump-clause-whole
returns-in_default-dump-clause-whole g c = rw (c.in-Some.is, c.in_default-dump.is) (c.in_ok-close-2.ensures.written c.requires.writes)
