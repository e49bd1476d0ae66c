use Rattle.std.proofs.Common.{◌≡◌, ◌∙◌, ap, sym, subst}
use Rattle.std.specs.Prelude.{slice_get, Some}
use Rattle.frontend_kit.specs.declared.generator.Generator.{Generator}
use Rattle.daq_members.specs.Members.{MemberSeen}
use Rattle.session_setup.specs.declared.member.MemberDeclared.TheVariants.{FrontEnd as WantedFront, Logger as WantedLogger, Analyzer as WantedAnalyzer}
use Rattle.session_setup.specs.DeclaredMembers.{declared_members, logger_number}
use Rattle.session_objects.specs.Members.{IsNewMember, NewFront, NewLogger, NewAnalyzer}
use Rattle.session_objects.proofs.ListedLaws.{declared_logger, declared_other}
use Rattle.session_objects.proofs.MadeLaws.{files_kept, files_here, files_gone}
use Rattle.session_objects.proofs.membership.Membership.make_member.Goals as goal

pub returns-in_ok-front-in-FrontEnd-clause-member : goal.returns-in_ok-front-in-FrontEnd-clause-member
returns-in_ok-front-in-FrontEnd-clause-member g c = λ given is.
    let m = c.args.self.now in
    let P : MemberSeen Generator _ → Type 0 = λ x. IsNewMember m.objects.now m.database.now m.lists.now.channels given c.args.client (WantedFront c.in-FrontEnd.declared) x in record {
      wanted = WantedFront c.in-FrontEnd.declared;
      has_wanted = c.member.ensures ∙ ap Some c.in-FrontEnd.is;
      new = subst P (sym c.new.ensures) (NewFront c.in_ok-front-in-FrontEnd.ensures.front);
    }

pub returns-in_ok-front-in-FrontEnd-clause-files : goal.returns-in_ok-front-in-FrontEnd-clause-files
returns-in_ok-front-in-FrontEnd-clause-files g c = λ given is.
    let lists = c.args.self.now.lists.now in
    is ∙ files_kept (logger_number lists) c.args.client given
    (declared_other lists c.args.client (WantedFront c.in-FrontEnd.declared) (c.member.ensures ∙ ap Some c.in-FrontEnd.is) (λ e. cc (e)))

pub make_logger_member-requires-clause-files : goal.make_logger_member-requires-clause-files
make_logger_member-requires-clause-files g c =
    let lists = c.args.self.now.lists.now in
    let at : slice_get (declared_members lists) c.args.client ≡ Some WantedLogger = c.member.ensures ∙ ap Some c.in-Logger.is in
    let given = c.requires.files in
    (given.0, given.1 ∙ files_here (logger_number lists) c.args.client given.0 (declared_logger lists c.args.client at))

pub returns-in_ok-logger-in-Logger-clause-member : goal.returns-in_ok-logger-in-Logger-clause-member
returns-in_ok-logger-in-Logger-clause-member g c = λ given is.
    let m = c.args.self.now in
    let lists = m.lists.now in
    let at : slice_get (declared_members lists) c.args.client ≡ Some WantedLogger = c.member.ensures ∙ ap Some c.in-Logger.is in
    let here = files_here (logger_number lists) c.args.client given (declared_logger lists c.args.client at) in
    let P : MemberSeen Generator _ → Type 0 = λ x. IsNewMember m.objects.now m.database.now lists.channels given c.args.client WantedLogger x in record {
      wanted = WantedLogger;
      has_wanted = at;
      new = subst P (sym c.new-in-Logger.ensures) (NewLogger (c.in_ok-logger-in-Logger.ensures.logger given (is ∙ here)));
    }

pub returns-in_ok-logger-in-Logger-clause-files : goal.returns-in_ok-logger-in-Logger-clause-files
returns-in_ok-logger-in-Logger-clause-files g c = λ given is.
    let lists = c.args.self.now.lists.now in
    let at : slice_get (declared_members lists) c.args.client ≡ Some WantedLogger = c.member.ensures ∙ ap Some c.in-Logger.is in
    c.in_ok-logger-in-Logger.ensures.files ∙ sym (files_gone (logger_number lists) c.args.client given (declared_logger lists c.args.client at))

pub returns-in_ok-analyzer-in-Analyzer-clause-member : goal.returns-in_ok-analyzer-in-Analyzer-clause-member
returns-in_ok-analyzer-in-Analyzer-clause-member g c = λ given is.
    let m = c.args.self.now in
    let P : MemberSeen Generator _ → Type 0 = λ x. IsNewMember m.objects.now m.database.now m.lists.now.channels given c.args.client (WantedAnalyzer c.in-Analyzer.declared) x in record {
      wanted = WantedAnalyzer c.in-Analyzer.declared;
      has_wanted = c.member.ensures ∙ ap Some c.in-Analyzer.is;
      new = subst P (sym c.new-in-Analyzer.ensures) (NewAnalyzer c.in_ok-analyzer-in-Analyzer.ensures.analyzer);
    }

pub returns-in_ok-analyzer-in-Analyzer-clause-files : goal.returns-in_ok-analyzer-in-Analyzer-clause-files
returns-in_ok-analyzer-in-Analyzer-clause-files g c = λ given is.
    let lists = c.args.self.now.lists.now in
    is ∙ files_kept (logger_number lists) c.args.client given
    (declared_other lists c.args.client (WantedAnalyzer c.in-Analyzer.declared) (c.member.ensures ∙ ap Some c.in-Analyzer.is) (λ e. cc (e)))
