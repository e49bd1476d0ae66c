use Rattle.std.proofs.Common.{rules, ◌≡◌, ◌∙◌, ℕ, length, ap, sym, subst}
use Rattle.session_objects.specs.declared.passes.SessionPasses.{SessionPasses}
use Rattle.session_setup.specs.DeclaredMembers.{logger_number, member_count}
use Rattle.session_objects.specs.Kept.{out_to, HasFreshBut}
use Rattle.session_objects.specs.Members.{AreSeated, IsNewMemberAt, files_left}
use Rattle.session_objects.proofs.SeatLaws.{none_seated, one_seated}
use Rattle.session_objects.proofs.MadeLaws.{files_first, made_members}
use Rattle.session_objects.proofs.membership.Membership.members.Goals as goal

pub loop-client-init : goal.loop-client-init
loop-client-init g c =
    let m = c.args.self.now in record {
      seated = none_seated (IsNewMemberAt m.lists.now m.objects.now m.database.now c.args.files) c.in-Ok.members (search rules);
      files = sym (files_first (logger_number m.lists.now) 0 c.args.files);
      out = c.requires.out;
    }

pub make_member-requires-clause-files : goal.make_member-requires-clause-files
make_member-requires-clause-files g c = (c.args.files, c.loop-client.invariant.files)

pub take_back_made-requires-clause-made : goal.take_back_made-requires-clause-made
take_back_made-requires-clause-made g c =
    let m = c.args.self.now in
    let seated = c.loop-client.invariant.seated in
    let many : length c.loop-client.members ≡ c.loop-client.client = seated.many in
    let S : ℕ → Type 0 = λ n. AreSeated (IsNewMemberAt m.lists.now m.objects.now m.database.now c.args.files) n c.loop-client.members in (
      c.args.files,
      c.in-Err.ensures.kept ∙ c.loop-client.invariant.files ∙ ap (λ (n : ℕ). files_left (logger_number m.lists.now) n c.args.files) (sym many),
      subst S (sym many) seated,
    )

pub take_back_made-requires-clause-out : goal.take_back_made-requires-clause-out
take_back_made-requires-clause-out g c =
    let m = c.args.self.now in
    let many : length c.loop-client.members ≡ c.loop-client.client = c.loop-client.invariant.seated.many in
    let O : ℕ → SessionPasses _ _ → Type 0 = λ n passes. HasFreshBut (out_to m.lists.now n) m.objects.now m.database.now passes in
    subst (λ (n : ℕ). O n c.make_member.new.passes) (sym many)
    (subst (λ (passes : SessionPasses _ _). O c.loop-client.client passes) (sym c.in-Err.ensures.same) c.loop-client.invariant.out)

pub loop-client-preserved : goal.loop-client-preserved
loop-client-preserved g c =
    let m = c.args.self.now in
    let inv = c.loop-client.invariant in
    let made = c.in-Ok-make_member.ensures in record {
      seated = one_seated (IsNewMemberAt m.lists.now m.objects.now m.database.now c.args.files) c.loop-client.client c.loop-client.members c.push.new.self c.in-Ok-make_member.member
          inv.seated c.push.ensures (made.member c.args.files inv.files);
      files = made.files c.args.files inv.files;
      out = made.out;
    }

pub returns-clause-members : goal.returns-clause-members
returns-clause-members g c =
    let m = c.args.self.now in
    let all : c.loop-client.client ≡ member_count m.lists.now = search rules in
    let S : ℕ → Type 0 = λ n. AreSeated (IsNewMemberAt m.lists.now m.objects.now m.database.now c.args.files) n c.loop-client.members in
    made_members m.objects.now m.database.now m.lists.now c.args.files c.loop-client.members (subst S all c.loop-client.invariant.seated)

pub returns-clause-out : goal.returns-clause-out
returns-clause-out g c =
    let m = c.args.self.now in
    let all : c.loop-client.client ≡ member_count m.lists.now = search rules in
    let P : ℕ → Type 0 = λ n. HasFreshBut (out_to m.lists.now n) m.objects.now m.database.now c.loop-client.passes in
    subst P all c.loop-client.invariant.out
