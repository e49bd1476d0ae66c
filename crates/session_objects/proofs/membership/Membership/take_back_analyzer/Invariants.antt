use Rattle.session_objects.proofs.membership.Membership.take_back_analyzer.Given as goal

abbrev pub ghost-take_back_port : goal.ghost-take_back_port
ghost-take_back_port g a = g.calls
