use Rattle.session_objects.proofs.membership.Membership.take_back_logger.Given as goal

abbrev pub ghost-take_back_ports : goal.ghost-take_back_ports
ghost-take_back_ports g a = g.calls
