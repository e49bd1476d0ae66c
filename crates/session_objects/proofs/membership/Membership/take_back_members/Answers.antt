use Rattle.std.proofs.Common.{rules, ◌≡◌, ◌∙◌, ◌+◌, ◌++◌, ◌∷◌, [], ℕ, List, length, ap, sym, refl, subst, append-nil, append_assoc, length-append}
use Rattle.std.specs.Prelude.{slice_get, Some, Option}
use Rattle.frontend_kit.specs.declared.generator.Generator.{Generator}
use Rattle.daq_members.specs.Members.{MemberSeen}
use Rattle.session_objects.specs.Kept.{out_to}
use Rattle.session_objects.specs.Members.{CalledAt}
use Rattle.session_objects.specs.Records.{HasCallsBut}
use Rattle.session_objects.specs.Returns.{left_also, left_among, end_of_member}
use Rattle.session_objects.specs.declared.returning.LoggerEnd.{LoggerEnd}
use Rattle.session_objects.proofs.ChangeLaws.{get_seam}
use Rattle.session_objects.proofs.membership.Membership.take_back_members.Goals as goal

pub loop-member-init : goal.loop-member-init
loop-member-init g c = record {
  done = [];
  all = sym (append-nil c.args.members);
  left = refl;
  out = c.requires.1.1.1;
}

pub take_back_member-requires : goal.take_back_member-requires
take_back_member-requires g c =
    let m = c.args.self.now in
    let new : List (MemberSeen Generator _) = c.pop.new.self in
    let x : MemberSeen Generator _ = c.in-Some.member in
    let inv = c.loop-member.invariant in
    let popped : c.loop-member.members ≡ new ++ x ∷ [] = c.in-Some.ensures.last in
    let same : c.len.result ≡ length new = search rules in
    let at : slice_get c.args.members (length new) ≡ Some x = ap (λ zs. slice_get zs (length new)) (inv.all ∙ ap (λ zs. zs ++ inv.done) popped) ∙ get_seam new inv.done x in
    let count : length c.loop-member.members ≡ c.len.result + 1 = ap length popped ∙ length-append new (x ∷ []) ∙ ap (λ n. n + 1) (sym same) in
    let C : ℕ → Type 0 = λ n. CalledAt m.lists.now m.objects.now m.database.now g.calls n x in
    let O : ℕ → Type 0 = λ n. HasCallsBut (out_to m.lists.now n) g.calls m.objects.now m.database.now c.loop-member.passes in
    λ κs bounds. (bounds.0, (bounds.1, (subst C (sym same) (c.requires.1.1.0 (length new) x at), subst O count inv.out)))

pub loop-member-preserved : goal.loop-member-preserved
loop-member-preserved g c =
    let m = c.args.self.now in
    let new : List (MemberSeen Generator _) = c.pop.new.self in
    let x : MemberSeen Generator _ = c.in-Some.member in
    let inv = c.loop-member.invariant in
    let popped : c.loop-member.members ≡ new ++ x ∷ [] = c.in-Some.ensures.last in
    let same : c.len.result ≡ length new = search rules in
    let O : ℕ → Type 0 = λ n. HasCallsBut (out_to m.lists.now n) g.calls m.objects.now m.database.now c.take_back_member.new.passes in record {
      done = x ∷ inv.done;
      all = inv.all ∙ ap (λ zs. zs ++ inv.done) popped ∙ append_assoc new (x ∷ []) inv.done;
      left = c.take_back_member.ensures.left ∙ ap (λ (l : Option (LoggerEnd _)). left_also (end_of_member x) l) inv.left;
      out = subst O same c.take_back_member.ensures.out;
    }

pub returns-clause-left : goal.returns-clause-left
returns-clause-left g c =
    let none : c.loop-member.members ≡ [] = search rules in
    let inv = c.loop-member.invariant in
    inv.left ∙ ap (λ (ms : List (MemberSeen Generator _)). left_among ms) (sym (inv.all ∙ ap (λ zs. zs ++ inv.done) none))

pub returns-clause-out : goal.returns-clause-out
returns-clause-out g c =
    let m = c.args.self.now in
    let none : c.loop-member.members ≡ [] = search rules in
    let O : ℕ → Type 0 = λ n. HasCallsBut (out_to m.lists.now n) g.calls m.objects.now m.database.now c.loop-member.passes in
    subst O (ap length none) c.loop-member.invariant.out
