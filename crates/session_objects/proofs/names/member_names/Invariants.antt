-- So far the names are those of the first members.
use Rattle.std.proofs.Common.{◌≡◌, map, take}
use Rattle.session_runs.specs.Members.{member_in}
use Rattle.session_setup.specs.declared.member.MemberDeclared.{MemberDeclared}
use Rattle.session_setup.specs.DeclaredMembers.{declared_members, name_of_member, role_of_member}
use Rattle.session_objects.proofs.names.member_names.Given as goal

abbrev pub invariant-loop-client : goal.invariant-loop-client
invariant-loop-client l =
    l.names.items ≡ map (λ (m : MemberDeclared). member_in (role_of_member m) (name_of_member m)) (take l.client (declared_members l.lists))
