-- How the members of a session are registered.
use Rattle.std.specs.Prelude.{List, map}
use Rattle.session_runs.specs.declared.opening.MemberName.{MemberName}
use Rattle.session_runs.specs.Members.{member_in}
use Rattle.session_setup.specs.declared.declared.DeclaredLists.{DeclaredLists}
use Rattle.session_setup.specs.declared.member.MemberDeclared.{MemberDeclared}
use Rattle.session_setup.specs.DeclaredMembers.{declared_members, name_of_member, role_of_member}

-- those that were declared, in the order of their client numbers, each by its name and what it does
abbrev pub member_names : DeclaredLists → List MemberName
member_names lists = map (λ (m : MemberDeclared). member_in (role_of_member m) (name_of_member m)) (declared_members lists)
