use Rattle.std.proofs.Common.{◌^◌, ℕ, List, Result, Err, true, sym, ap, ◌∙◌, subst}
use Rattle.std.proofs.lemmas.Result.{err_from_is_err_and}
use Rattle.odb_tree.specs.declared.refusals.OdbRefusal.{OdbRefusal}
use Rattle.daq_types.specs.declared.types.Tid.TheVariants as tid
use Rattle.odb_value.specs.LinkValues.{is_link_type}
use Rattle.odb_tree.specs.Rows.{Rows}
use Rattle.odb_tree.specs.Calls.{GivesTaking, put_reply}
use Rattle.odb_tree.specs.Noting.{changes_of_put, all_noted}
use Rattle.odb_tree.proofs.Noted.{none_noted}
use Rattle.odb_tree.proofs.Led.{told_due}
use Rattle.odb_links.specs.declared.links.Link.{Link}
use Rattle.odb_links.specs.Seen.{seen, typed, LinksRise}
use Rattle.odb_links.proofs.LinkPlaces.{order_wide}
use Rattle.odb_links.proofs.Kept.{reply_written, link_kept}
use Rattle.odb_links.proofs.making.keep_link.Goals as goal

pub returns-in_err-reserve-clause-notes : goal.returns-in_err-reserve-clause-notes
returns-in_err-reserve-clause-notes g c =
    let p = err_from_is_err_and c.from_residual.result c.from_residual.ensures.1 in
    sym (none_noted (g.D.Database.watches c.args.tree.now))
    ∙ ap (λ (r : Result ℕ OdbRefusal). all_noted (changes_of_put (seen c.args.links.now.items (g.D.Database.rows c.args.tree.now)) c.args.path.now (typed tid.Link c.args.text.now) r) (g.D.Database.watches c.args.tree.now)) (sym p.1)

pub returns-in_err-row-clause-reply : goal.returns-in_err-row-clause-reply
returns-in_err-row-clause-reply g c =
    let s : Rows = g.D.Database.rows c.args.tree.now in
    let p = err_from_is_err_and c.from_residual-in_err-row.result c.from_residual-in_err-row.ensures.1 in
    subst (λ (r : Result ℕ OdbRefusal). GivesTaking true r (put_reply (seen c.args.links.now.items s) c.args.path.now (typed tid.Link c.args.text.now))) (sym (p.1 ∙ ap (λ (x : OdbRefusal). Err x) p.2))
    (λ memory. reply_written c.args.links.now.items s c.args.path.now c.args.text.now c.args.target c.requires.links c.requires.free c.requires.text
    ∙ told_due (is_link_type c.args.text.now.tid) c.in_err-row.field-0.0 (put_reply s c.args.path.now c.args.text.now) c.in_err-row.ensures.reply memory)

pub keep-requires-clause-order : goal.keep-requires-clause-order
keep-requires-clause-order g c =
    subst (λ (l : List Link). LinksRise 1 l (2 ^ 32)) (sym c.reserve.ensures.items) (order_wide c.args.links.now.items _ c.requires.links.order c.requires.links.database.within.next)

pub returns-clause-reply : goal.returns-clause-reply
returns-clause-reply g c =
    reply_written c.args.links.now.items (g.D.Database.rows c.args.tree.now) c.args.path.now c.args.text.now c.args.target c.requires.links c.requires.free c.requires.text ∙ c.in_ok-row.ensures.reply

pub returns-clause-links : goal.returns-clause-links
returns-clause-links g c =
    (link_kept c.args.links.now.items c.reserve.new.self.items c.keep.new.links.items (g.D.Database.rows c.args.tree.now) (g.D.Database.rows c.put.new.self) c.args.path.now c.args.text.now c.args.target c.in_ok-row.row
    c.requires.links c.requires.free (record { of_type = c.requires.text; link = c.requires.link; goes = c.requires.goes }) c.names.ensures.is_path c.tid.ensures.held c.in_ok-row.ensures.reply c.reserve.ensures.items c.keep.ensures c.in_ok-row.ensures.after).links_kept

pub returns-clause-after : goal.returns-clause-after
returns-clause-after g c =
    (link_kept c.args.links.now.items c.reserve.new.self.items c.keep.new.links.items (g.D.Database.rows c.args.tree.now) (g.D.Database.rows c.put.new.self) c.args.path.now c.args.text.now c.args.target c.in_ok-row.row
    c.requires.links c.requires.free (record { of_type = c.requires.text; link = c.requires.link; goes = c.requires.goes }) c.names.ensures.is_path c.tid.ensures.held c.in_ok-row.ensures.reply c.reserve.ensures.items c.keep.ensures c.in_ok-row.ensures.after).after

pub returns-clause-notes : goal.returns-clause-notes
returns-clause-notes g c =
    c.in_ok-row.ensures.notes
    ∙ (link_kept c.args.links.now.items c.reserve.new.self.items c.keep.new.links.items (g.D.Database.rows c.args.tree.now) (g.D.Database.rows c.put.new.self) c.args.path.now c.args.text.now c.args.target c.in_ok-row.row
    c.requires.links c.requires.free (record { of_type = c.requires.text; link = c.requires.link; goes = c.requires.goes }) c.names.ensures.is_path c.tid.ensures.held c.in_ok-row.ensures.reply c.reserve.ensures.items c.keep.ensures c.in_ok-row.ensures.after).notes (g.D.Database.watches c.args.tree.now)
