use Rattle.std.proofs.Common.{◌∙◌, ap}
use Rattle.std.specs.Prelude.{Some}
use Rattle.frontend_kit.specs.declared.generator.Generator.{Generator}
use Rattle.daq_members.specs.Members.{MemberSeen}
use Rattle.session_objects.specs.Returns.{left_also, end_of_member}
use Rattle.session_objects.proofs.ListedLaws.{called_front, called_logger, called_analyzer}
use Rattle.session_objects.proofs.membership.Membership.take_back_member.Goals as goal

pub take_back_front-requires : goal.take_back_front-requires
take_back_front-requires g c =
    let m = c.args.self.now in
    λ κs lives. (lives, (called_front m.lists.now m.objects.now m.database.now g.calls c.args.client c.args.member c.requires.1.1.0 c.in-FrontEnd.front c.in-FrontEnd.ensures.kind, c.requires.1.1.1))

pub returns-in-FrontEnd-clause-left : goal.returns-in-FrontEnd-clause-left
returns-in-FrontEnd-clause-left g c = ap (λ (x : MemberSeen Generator _). left_also (end_of_member x) c.args.left.now) c.in-FrontEnd.ensures.kind

pub returns-in-FrontEnd-clause-out : goal.returns-in-FrontEnd-clause-out
returns-in-FrontEnd-clause-out g c = c.take_back_front.ensures

pub take_back_logger-requires : goal.take_back_logger-requires
take_back_logger-requires g c =
    let m = c.args.self.now in
    let called = called_logger m.lists.now m.objects.now m.database.now g.calls c.args.client c.args.member c.requires.1.1.0 c.in-Logger.logger c.in-Logger.ensures.kind in
    λ κs bounds. (bounds.0, (bounds.1, (called.0, (called.1, c.requires.1.1.1))))

pub returns-in-Logger-clause-left : goal.returns-in-Logger-clause-left
returns-in-Logger-clause-left g c = ap Some c.take_back_logger.ensures.end ∙ ap (λ (x : MemberSeen Generator _). left_also (end_of_member x) c.args.left.now) c.in-Logger.ensures.kind

pub returns-in-Logger-clause-out : goal.returns-in-Logger-clause-out
returns-in-Logger-clause-out g c = c.take_back_logger.ensures.out

pub take_back_analyzer-requires : goal.take_back_analyzer-requires
take_back_analyzer-requires g c =
    let m = c.args.self.now in
    λ κs lives. (lives, (called_analyzer m.lists.now m.objects.now m.database.now g.calls c.args.client c.args.member c.requires.1.1.0 c.in-Analyzer.analyzer c.in-Analyzer.ensures.kind, c.requires.1.1.1))

pub returns-in-Analyzer-clause-left : goal.returns-in-Analyzer-clause-left
returns-in-Analyzer-clause-left g c = ap (λ (x : MemberSeen Generator _). left_also (end_of_member x) c.args.left.now) c.in-Analyzer.ensures.kind

pub returns-in-Analyzer-clause-out : goal.returns-in-Analyzer-clause-out
returns-in-Analyzer-clause-out g c = c.take_back_analyzer.ensures
