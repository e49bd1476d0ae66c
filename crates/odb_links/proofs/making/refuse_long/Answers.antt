use Rattle.std.proofs.Common.{Ok, Err, false, sym, ap, ◌∙◌}
use Rattle.daq_types.specs.declared.types.Tid.TheVariants as tid
use Rattle.odb_tree.specs.declared.refusals.OdbRefusal.{OdbRefusal}
use Rattle.odb_tree.specs.declared.rows.NewKey.TheVariants.{Keys}
use Rattle.odb_tree.specs.Rows.{Rows}
use Rattle.odb_tree.specs.Calls.{create_reply}
use Rattle.odb_tree.proofs.Noted.{none_noted}
use Rattle.odb_links.proofs.SeenCalls.{gives_below}
use Rattle.odb_links.proofs.Written.{never_made, long_same, size_memory}
use Rattle.odb_links.proofs.making.refuse_long.Goals as goal

pub returns-in-Ok : goal.returns-in-Ok
returns-in-Ok g c =
    absurd (never_made (g.D.Database.rows c.args.tree.now) c.args.path.now c.in-Ok.row
    (gives_below (Ok c.in-Ok.row) (g.D.Database.rows c.args.tree.now) c.args.path.now false (λ x. create_reply (g.D.Database.rows c.args.tree.now) x (Keys tid.Text 0)) c.requires c.in-Ok.ensures.reply))

pub returns-clause-reply : goal.returns-clause-reply
returns-clause-reply g c = λ links target h long memory.
    let s : Rows = g.D.Database.rows c.args.tree.now in
    long_same links s c.args.path.now target c.in-Err.refusal h long
    ((gives_below (Err c.in-Err.refusal) s c.args.path.now false (λ x. create_reply s x (Keys tid.Text 0)) c.requires c.in-Err.ensures.reply).0 (size_memory c.in-Err.refusal (λ e. memory (c.as_size.ensures ∙ e))))
    ∙ ap (λ (x : OdbRefusal). Err x) (sym c.as_size.ensures)

pub returns-clause-watches : goal.returns-clause-watches
returns-clause-watches g c = c.in-Err.ensures.notes ∙ none_noted (g.D.Database.watches c.args.tree.now)
