use Rattle.std.proofs.Common.{◌∙◌, [], length, sym, refl}
use Rattle.odb_lock.specs.SharedOdbs.{odb_lock_of}
use Rattle.session_objects.specs.Members.{session_calls}
use Rattle.session_objects.proofs.ChangeLaws.{some_same}
use Rattle.session_objects.proofs.MadeLaws.{accounts_made, files_left_with, files_still, made_called, unseen_back}
use Rattle.session_objects.proofs.ReturnLaws.{untold}
use Rattle.session_objects.proofs.membership.Membership.take_back_made.Goals as goal

pub take_back_members-requires : goal.take_back_members-requires
take_back_members-requires g c =
    let m = c.args.self.now in
    let made = c.requires.made in
    let calls = session_calls m.lists.now [] [] c.args.members in
    let called = made_called m.objects.now m.database.now m.lists.now made.0 c.args.members made.2 calls refl in
    let accounts = accounts_made m.objects.now m.database.now m.lists.now made.0 c.args.members made.2 calls refl in
    λ κs bounds. (
      bounds.0,
      (bounds.1, (called, untold calls m.objects.now m.database.now m.lists.now c.args.members called (length c.args.members) refl accounts c.args.passes.now c.requires.out)),
    )

pub unreachable-requires : goal.unreachable-requires
unreachable-requires g c =
    let m = c.args.self.now in
    let made = c.requires.made in
    let here = files_still m.objects.now m.database.now m.lists.now made.0 c.args.members made.2 (sym c.take_back_members.ensures.left ∙ c.in-None-None.is-0) in
    cc (sym c.in-None-None.is-1 ∙ made.1 ∙ here)

pub returns-in-Some-default-clause-files : goal.returns-in-Some-default-clause-files
returns-in-Some-default-clause-files g c = λ given is seated.
    let m = c.args.self.now in
    files_left_with m.objects.now m.database.now m.lists.now given c.args.members seated _ (sym c.take_back_members.ensures.left ∙ c.in-Some-default.is-0)

pub returns-in-None-Some-clause-files : goal.returns-in-None-Some-clause-files
returns-in-None-Some-clause-files g c = λ given is seated.
    let m = c.args.self.now in
    let here = files_still m.objects.now m.database.now m.lists.now given c.args.members seated (sym c.take_back_members.ensures.left ∙ c.in-None-Some.is-0) in
    some_same _ given (sym c.in-None-Some.is-1 ∙ is ∙ here)

pub returns-in-Some-default-clause-back : goal.returns-in-Some-default-clause-back
returns-in-Some-default-clause-back g c =
    let m = c.args.self.now in
    let made = c.requires.made in
    unseen_back m.objects.now m.database.now m.lists.now made.0 c.args.members made.2 (session_calls m.lists.now [] [] c.args.members) refl (odb_lock_of m.database.now) _
    c.take_back_members.ensures.out.database

pub returns-in-None-Some-clause-back : goal.returns-in-None-Some-clause-back
returns-in-None-Some-clause-back g c =
    let m = c.args.self.now in
    let made = c.requires.made in
    unseen_back m.objects.now m.database.now m.lists.now made.0 c.args.members made.2 (session_calls m.lists.now [] [] c.args.members) refl (odb_lock_of m.database.now) _
    c.take_back_members.ensures.out.database
