use Rattle.std.proofs.Common.{◌≡◌, List, Ok, Err, true, sym, ap, subst, ◌∙◌}
use Rattle.std.proofs.lemmas.Result.{err_from_is_err_and}
use Rattle.odb_tree.specs.Rows.{Rows}
use Rattle.daq_types.specs.declared.types.Tid.{Tid}
use Rattle.daq_types.specs.declared.types.Tid.TheVariants as tid
use Rattle.odb_value.specs.Values.{HeldValue}
use Rattle.odb_tree.specs.declared.refusals.OdbRefusal.TheVariants.{TypeMismatch}
use Rattle.odb_tree.specs.Calls.{GivesTaking, get_reply, put_reply, after_put}
use Rattle.odb_tree.specs.Noting.{all_noted, changes_of_put}
use Rattle.odb_links.specs.Seen.{seen, typed}
use Rattle.odb_tree.proofs.Noted.{none_noted}
use Rattle.odb_links.specs.declared.links.Link.{Link}
use Rattle.odb_links.specs.declared.making.Standing.TheVariants.{Other}
use Rattle.odb_links.specs.Writing.{StandsThere, text_held}
use Rattle.odb_links.proofs.SeenCalls.{gives_below}
use Rattle.odb_links.proofs.Written.{other_put, other_type, err_notes, typed_text}
use Rattle.odb_links.proofs.making.put_link.Goals as goal

pub returns-in_err-target-in-Nothing-clause-notes : goal.returns-in_err-target-in-Nothing-clause-notes
returns-in_err-target-in-Nothing-clause-notes g c = let p = err_from_is_err_and c.from_residual.result c.from_residual.ensures.1 in err_notes _ c.from_residual.result p.0 0 _ _ p.1

pub returns-in-Ok-clause-reply : goal.returns-in-Ok-clause-reply
returns-in-Ok-clause-reply g c = λ _.
    let s : Rows = g.D.Database.rows c.args.tree.now in
    other_put c.args.links.now.items s c.args.path.now c.args.value.now c.requires.links (subst (λ (l : List Link). StandsThere l s c.args.path.now Other) c.as_slice.ensures.value c.in-Other.ensures) c.requires.link.of_type
    ∙ (ap other_type (gives_below (Ok c.in-Ok.had) s c.args.path.now true (get_reply s) c.requires.links.plain c.in-Ok.ensures) ∙ ap (λ (t : Tid). Err (TypeMismatch t)) (sym c.tid.ensures.tid))

pub returns-in-Ok-clause-notes : goal.returns-in-Ok-clause-notes
returns-in-Ok-clause-notes g c = sym (none_noted (g.D.Database.watches c.args.tree.now))

pub returns-in-Err-clause-reply : goal.returns-in-Err-clause-reply
returns-in-Err-clause-reply g c = λ memory.
    let s : Rows = g.D.Database.rows c.args.tree.now in
    other_put c.args.links.now.items s c.args.path.now c.args.value.now c.requires.links (subst (λ (l : List Link). StandsThere l s c.args.path.now Other) c.as_slice.ensures.value c.in-Other.ensures) c.requires.link.of_type
    ∙ ap other_type ((gives_below (Err c.in-Err.refusal) s c.args.path.now true (get_reply s) c.requires.links.plain c.in-Err.ensures).0 memory)

pub returns-in-Err-clause-notes : goal.returns-in-Err-clause-notes
returns-in-Err-clause-notes g c = sym (none_noted (g.D.Database.watches c.args.tree.now))

pub returns-in_err-try_clone-in-Nothing-clause-notes : goal.returns-in_err-try_clone-in-Nothing-clause-notes
returns-in_err-try_clone-in-Nothing-clause-notes g c =
    let p = err_from_is_err_and c.from_residual-in_err-try_clone-in-Nothing.result c.from_residual-in_err-try_clone-in-Nothing.ensures.1 in err_notes _ c.from_residual-in_err-try_clone-in-Nothing.result p.0 0 _ _ p.1

pub returns-in_err-text-in-Nothing-clause-notes : goal.returns-in_err-text-in-Nothing-clause-notes
returns-in_err-text-in-Nothing-clause-notes g c =
    let p = err_from_is_err_and c.from_residual-in_err-text-in-Nothing.result c.from_residual-in_err-text-in-Nothing.ensures.1 in err_notes _ c.from_residual-in_err-text-in-Nothing.result p.0 0 _ _ p.1

pub returns-in_ok-text-in-Nothing-clause-reply : goal.returns-in_ok-text-in-Nothing-clause-reply
returns-in_ok-text-in-Nothing-clause-reply g c =
    let same : typed tid.Link c.in_ok-text-in-Nothing.text ≡ c.args.value.now =
    ap (typed tid.Link) (c.in_ok-text-in-Nothing.ensures ∙ ap text_held c.in_ok-try_clone-in-Nothing.ensures) ∙ typed_text c.args.value.now c.in-Some.text.now c.requires.link c.in-Some.ensures in
    subst (λ (v : HeldValue). GivesTaking true c.keep_link.result (put_reply (seen c.args.links.now.items (g.D.Database.rows c.args.tree.now)) c.args.path.now v)) same c.keep_link.ensures.reply

pub returns-in_ok-text-in-Nothing-clause-after : goal.returns-in_ok-text-in-Nothing-clause-after
returns-in_ok-text-in-Nothing-clause-after g c =
    let same : typed tid.Link c.in_ok-text-in-Nothing.text ≡ c.args.value.now =
    ap (typed tid.Link) (c.in_ok-text-in-Nothing.ensures ∙ ap text_held c.in_ok-try_clone-in-Nothing.ensures) ∙ typed_text c.args.value.now c.in-Some.text.now c.requires.link c.in-Some.ensures in
    c.keep_link.ensures.after ∙ ap (λ (v : HeldValue). after_put (seen c.args.links.now.items (g.D.Database.rows c.args.tree.now)) c.args.path.now v c.keep_link.result) same

pub returns-in_ok-text-in-Nothing-clause-notes : goal.returns-in_ok-text-in-Nothing-clause-notes
returns-in_ok-text-in-Nothing-clause-notes g c =
    let same : typed tid.Link c.in_ok-text-in-Nothing.text ≡ c.args.value.now =
    ap (typed tid.Link) (c.in_ok-text-in-Nothing.ensures ∙ ap text_held c.in_ok-try_clone-in-Nothing.ensures) ∙ typed_text c.args.value.now c.in-Some.text.now c.requires.link c.in-Some.ensures in
    c.keep_link.ensures.notes
    ∙ ap (λ (v : HeldValue). all_noted (changes_of_put (seen c.args.links.now.items (g.D.Database.rows c.args.tree.now)) c.args.path.now v c.keep_link.result) (g.D.Database.watches c.args.tree.now)) same
