use Rattle.std.specs.Prelude.{◌≡◌}
use Rattle.std.proofs.Common.{ap, sym, subst, ◌∙◌}
use Rattle.member_crew.specs.declared.turned.Turned.{Turned}
use Rattle.daq_members.specs.Members.{MemberSeen, MemberTold, TurnsMember, FrontTurn, LoggerTurn, AnalyzerTurn, member_told}
use Rattle.daq_members.specs.Kinds.{member_seen}
use Rattle.daq_members.proofs.member.Member.turn.Goals.{in-FrontEnd, in-Logger, in-Analyzer}
use Rattle.daq_members.proofs.member.Member.turn.Goals as goal

-- a turn of what a member is seen as, and is seen as behind it
turned_as : {E F : Type 0} (told : MemberTold E F) (kind before after later : MemberSeen E F) (turned came : Turned) → kind ≡ before → after ≡ later → turned ≡ came → TurnsMember told kind later came
    → TurnsMember told before after turned
turned_as told kind before after later turned came was is comes turn =
    subst (λ (m : MemberSeen _ _). TurnsMember told m after turned) was (subst (λ (m : MemberSeen _ _). TurnsMember told kind m turned) (sym is)
    (subst (λ (t : Turned). TurnsMember told kind later t) (sym comes) turn))

pub returns-clause-turns : goal.returns-clause-turns
returns-clause-turns g c =
    let told = member_told g.X.Equipment.takes g.X.Equipment.makes g.F.Files.told in
    elim c.match-self.branch [
      | in-FrontEnd w ↦ turned_as told _ _ _ _ _ _ (sym (ap member_seen w.in-FrontEnd.is) ∙ c.self.view_is) (ap (λ i. member_seen i.kind) w.self-inside-is) w.result-is
          (FrontTurn w.turn.ensures.takes w.turn.ensures.same)
      | in-Logger w ↦ turned_as told _ _ _ _ _ _ (sym (ap member_seen w.in-Logger.is) ∙ c.self.view_is) (ap (λ i. member_seen i.kind) w.self-inside-is) w.result-is
          (LoggerTurn w.turn-in-Logger.ensures.takes w.turn-in-Logger.ensures.same)
      | in-Analyzer w ↦ turned_as told _ _ _ _ _ _ (sym (ap member_seen w.in-Analyzer.is) ∙ c.self.view_is) (ap (λ i. member_seen i.kind) w.self-inside-is) w.result-is
          (AnalyzerTurn w.turn-in-Analyzer.ensures.takes w.turn-in-Analyzer.ensures.same)
    ]
