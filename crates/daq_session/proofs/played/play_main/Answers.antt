use Rattle.daq_session.proofs.played.play_main.Goals as goal

pub returns-clause-played : goal.returns-clause-played
returns-clause-played g c = record { ends = c.play_members.ensures.played.0; counts = c.play_members.ensures.played.1 }
