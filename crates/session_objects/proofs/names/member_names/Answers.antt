use Rattle.std.proofs.Common.{rules, ◌≡◌, ◌∙◌, ◌<◌, ◌+◌, ◌++◌, ◌∷◌, [], ℕ, List, length, map, take, ap, sym}
use Rattle.std.proofs.Math.Seq.{take-length}
use Rattle.std.proofs.lemmas.List.{map_push, take_more}
use Rattle.std.proofs.lemmas.Option.{get_or_from_slice_get}
use Rattle.transitions.specs.declared.sequences.Role.{Role}
use Rattle.session_runs.specs.declared.opening.MemberName.{MemberName}
use Rattle.session_runs.specs.Members.{member_in}
use Rattle.session_setup.specs.declared.member.MemberDeclared.{MemberDeclared}
use Rattle.session_setup.specs.DeclaredMembers.{declared_members, name_of_member, role_of_member}
use Rattle.session_objects.proofs.names.member_names.Goals as goal

abbrev named : MemberDeclared → MemberName
named m = member_in (role_of_member m) (name_of_member m)

pub loop-client-preserved : goal.loop-client-preserved
loop-client-preserved c =
    let ms : List MemberDeclared = declared_members c.args.lists.now in
    let n : ℕ = c.loop-client.client in
    let m : MemberDeclared = c.member-declared.result in
    let within : n < length ms = search rules in
    let more : take (n + 1) ms ≡ take n ms ++ m ∷ [] = take_more ms n m within ∙ ap (λ (z : MemberDeclared). take n ms ++ z ∷ []) (get_or_from_slice_get ms n m m c.member-declared.ensures) in
    let is : member_in c.role.result c.name.result ≡ named m =
    ap (λ (role : Role). member_in role c.name.result) c.role.ensures ∙ ap (member_in (role_of_member m)) c.name.ensures in
    c.in_ok-push.ensures.items ∙ ap (λ (names : List MemberName). names ++ member_in c.role.result c.name.result ∷ []) c.loop-client.invariant
    ∙ ap (λ (name : MemberName). map named (take n ms) ++ name ∷ []) is ∙ sym (map_push named (take n ms) m) ∙ ap (map named) (sym more)

pub returns : goal.returns
returns c =
    let ms : List MemberDeclared = declared_members c.args.lists.now in
    let all : c.loop-client.client ≡ length ms = search rules in
    c.loop-client.invariant ∙ ap (λ (k : ℕ). map named (take k ms)) all ∙ ap (map named) (take-length ms)
