use Rattle.session_objects.proofs.membership.Membership.take_back_all.Given as goal

abbrev pub ghost-take_back_members : goal.ghost-take_back_members
ghost-take_back_members g a = g.calls
