use Rattle.daq_session.proofs.ends.end_of.Goals as goal

pub returns : goal.returns
returns g c = rw (c.with_closing.ensures, c.as_slice.ensures) at c.end_by.ensures
