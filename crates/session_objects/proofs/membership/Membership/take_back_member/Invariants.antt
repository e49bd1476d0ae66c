use Rattle.session_objects.proofs.membership.Membership.take_back_member.Given as goal

abbrev pub ghost-take_back_front : goal.ghost-take_back_front
ghost-take_back_front g a = g.calls

abbrev pub ghost-take_back_logger : goal.ghost-take_back_logger
ghost-take_back_logger g a = g.calls

abbrev pub ghost-take_back_analyzer : goal.ghost-take_back_analyzer
ghost-take_back_analyzer g a = g.calls
