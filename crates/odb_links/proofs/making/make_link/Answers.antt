use Rattle.std.proofs.Common.{true, subst, sym, ◌∙◌, refl}
use Rattle.std.proofs.lemmas.Result.{err_from_is_err_and}
use Rattle.odb_tree.specs.declared.rows.NewKey.TheVariants.{Link as new_link}
use Rattle.odb_tree.specs.Calls.{GivesTaking}
use Rattle.odb_tree.proofs.Noted.{none_noted}
use Rattle.odb_links.specs.Writing.{IsTextTo}
use Rattle.odb_links.proofs.Stands.{some_there}
use Rattle.odb_links.proofs.Written.{exists_same, made_link, made_sound, refused_notes, err_notes}
use Rattle.odb_links.proofs.making.make_link.Goals as goal

pub returns-in_err-text-clause-notes : goal.returns-in_err-text-clause-notes
returns-in_err-text-clause-notes g c = let p = err_from_is_err_and c.from_residual.result c.from_residual.ensures.1 in err_notes _ c.from_residual.result p.0 0 1 _ p.1

pub returns-in_default-clause-notes : goal.returns-in_default-clause-notes
returns-in_default-clause-notes g c = c.refuse_long.ensures.watches ∙ refused_notes _ c.refuse_long.result 0 1 (g.D.Database.watches c.args.tree.now) c.refuse_long.ensures.refused

pub returns-in-Linked : goal.returns-in-Linked
returns-in-Linked g c = record {
  reply = λ _. exists_same c.args.links.now.items (g.D.Database.rows c.args.tree.now) c.args.path.now (new_link c.args.target.now) c.requires.database.tree
      (some_there c.as_slice.result.now (g.D.Database.rows c.args.tree.now) c.args.path.now c.stands_at.result c.stands_at.ensures c.in-Linked.is);
  links = c.requires;
  after = refl;
  notes = sym (none_noted (g.D.Database.watches c.args.tree.now));
}

pub returns-in_err-target-in-Nothing-clause-notes : goal.returns-in_err-target-in-Nothing-clause-notes
returns-in_err-target-in-Nothing-clause-notes g c =
    let p = err_from_is_err_and c.from_residual-in_err-target-in-Nothing.result c.from_residual-in_err-target-in-Nothing.ensures.1 in err_notes _ c.from_residual-in_err-target-in-Nothing.result p.0 0 1 _ p.1

pub keep_link-requires-clause-link : goal.keep_link-requires-clause-link
keep_link-requires-clause-link g c =
    (made_sound c.args.target.now c.in-Some.text c.text_to.ensures.path (subst (IsTextTo c.args.target.now) c.in-Some.is c.in_ok-text.ensures.text)).0

pub keep_link-requires-clause-goes : goal.keep_link-requires-clause-goes
keep_link-requires-clause-goes g c =
    (made_sound c.args.target.now c.in-Some.text c.text_to.ensures.path (subst (IsTextTo c.args.target.now) c.in-Some.is c.in_ok-text.ensures.text)).1 ∙ sym c.in_ok-target-in-Nothing.ensures

pub returns-clause-reply : goal.returns-clause-reply
returns-clause-reply g c =
    subst (GivesTaking true c.keep_link.result)
    (made_link c.args.links.now.items (g.D.Database.rows c.args.tree.now) c.args.path.now c.args.target.now c.in-Some.text c.keep_link.result c.in-Nothing.ensures.1 c.in-Nothing.ensures.0
    (subst (IsTextTo c.args.target.now) c.in-Some.is c.in_ok-text.ensures.text)).reply_is c.keep_link.ensures.reply

pub returns-clause-after : goal.returns-clause-after
returns-clause-after g c =
    c.keep_link.ensures.after
    ∙ (made_link c.args.links.now.items (g.D.Database.rows c.args.tree.now) c.args.path.now c.args.target.now c.in-Some.text c.keep_link.result c.in-Nothing.ensures.1 c.in-Nothing.ensures.0
    (subst (IsTextTo c.args.target.now) c.in-Some.is c.in_ok-text.ensures.text)).after

pub returns-clause-notes : goal.returns-clause-notes
returns-clause-notes g c =
    c.keep_link.ensures.notes
    ∙ (made_link c.args.links.now.items (g.D.Database.rows c.args.tree.now) c.args.path.now c.args.target.now c.in-Some.text c.keep_link.result c.in-Nothing.ensures.1 c.in-Nothing.ensures.0
    (subst (IsTextTo c.args.target.now) c.in-Some.is c.in_ok-text.ensures.text)).notes (g.D.Database.watches c.args.tree.now)
