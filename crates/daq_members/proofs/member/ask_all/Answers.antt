use Rattle.std.specs.Prelude.{◌++◌, ◌∷◌, [], All, List, take}
use Rattle.std.proofs.Common.{sym, ap, subst, ◌∙◌, arith}
use Rattle.std.proofs.lemmas.List.{take_more, take_all}
use Rattle.std.proofs.lemmas.List.Elements.{All-nil, All-push}
use Rattle.daq_members.specs.Members.{MemberSeen, KeepsContract, member_told}
use Rattle.daq_members.proofs.member.ask_all.Goals as goal

pub loop-member-init : goal.loop-member-init
loop-member-init g c = All-nil (KeepsContract (member_told g.X.Equipment.takes g.X.Equipment.makes g.F.Files.told))

pub loop-member-preserved : goal.loop-member-preserved
loop-member-preserved g c =
    let told = member_told g.X.Equipment.takes g.X.Equipment.makes g.F.Files.told in
    let all : List (MemberSeen _ _) = c.args.members.now in
    let i = c.loop-member.member-index in
    let more = take_more all i c.member-item.result c.loop-member-test.true ∙ ap (λ (m : MemberSeen _ _). take i all ++ m ∷ []) (sym c.member-item.is) in
    subst (λ (l : List (MemberSeen _ _)). All (KeepsContract told) l) (sym more) (All-push (KeepsContract told) (take i all) c.member-item.result c.loop-member.invariant c.client.ensures.keeps)

pub returns : goal.returns
returns g c =
    let told = member_told g.X.Equipment.takes g.X.Equipment.makes g.F.Files.told in
    let all : List (MemberSeen _ _) = c.args.members.now in
    subst (λ (l : List (MemberSeen _ _)). All (KeepsContract told) l) (take_all c.loop-member.member-index all (omega arith)) c.loop-member.invariant
