use Rattle.std.proofs.Common.{Result, Ok, Err, true, sym, ap, subst, ◌∙◌, inr}
use Rattle.std.proofs.lemmas.Result.{err_from_is_err_and}
use Rattle.odb_value.specs.Values.{HeldValue}
use Rattle.odb_tree.specs.declared.refusals.OdbRefusal.{OdbRefusal}
use Rattle.odb_tree.specs.Rows.{Rows}
use Rattle.odb_tree.specs.Calls.{Gives, get_reply, raw_reply}
use Rattle.odb_links.specs.Seen.{seen}
use Rattle.odb_links.proofs.Replies.{get_same}
use Rattle.odb_links.proofs.SeenCalls.{gives_below}
use Rattle.odb_links.proofs.Written.{raw_refused, raw_err, raw_link}
use Rattle.odb_links.proofs.making.read_raw.Goals as goal

pub returns-in_err-value : goal.returns-in_err-value
returns-in_err-value g c =
    let s : Rows = g.D.Database.rows c.args.tree.now in
    let why : OdbRefusal = c.in_err-value.field-0.0 in
    let below = gives_below (Err why) s c.args.path.now true (get_reply s) c.requires.plain c.in_err-value.ensures in
    let p = err_from_is_err_and c.from_residual.result c.from_residual.ensures.1 in
    subst (λ (r : Result HeldValue OdbRefusal). Gives r (raw_reply (seen c.args.links.now s) c.args.path.now)) (sym (p.1 ∙ ap (λ (x : OdbRefusal). Err x) p.2)) (
      λ memory. raw_refused c.args.links.now s c.args.path.now why (below.0 memory),
      λ err. raw_refused c.args.links.now s c.args.path.now why (below.1 (raw_err c.args.links.now s c.args.path.now err)),
    )

pub with_tid-requires : goal.with_tid-requires
with_tid-requires g c =
    let s : Rows = g.D.Database.rows c.args.tree.now in
    inr (raw_link c.args.links.now s c.args.path.now c.in_ok-value.value c.requires c.if-is_link_at.ensures (gives_below (Ok c.in_ok-value.value) s c.args.path.now true (get_reply s) c.requires.plain c.in_ok-value.ensures)).link

pub returns-then-is_link_at : goal.returns-then-is_link_at
returns-then-is_link_at g c =
    let s : Rows = g.D.Database.rows c.args.tree.now in
    (raw_link c.args.links.now s c.args.path.now c.in_ok-value.value c.requires c.if-is_link_at.ensures (gives_below (Ok c.in_ok-value.value) s c.args.path.now true (get_reply s) c.requires.plain c.in_ok-value.ensures)).is
    ∙ ap (λ (v : HeldValue). Ok v) (sym c.with_tid.ensures)

pub returns : goal.returns
returns g c =
    let s : Rows = g.D.Database.rows c.args.tree.now in
    get_same c.args.links.now s c.args.path.now c.if-is_link_at.ensures
    ∙ gives_below (Ok c.in_ok-value.value) s c.args.path.now true (get_reply s) c.requires.plain c.in_ok-value.ensures
