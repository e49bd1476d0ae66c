use Rattle.std.proofs.Common.{sym, ap, subst, ◌∙◌}
use Rattle.odb_tree.specs.Rows.{Rows}
use Rattle.odb_tree.proofs.Noted.{none_noted}
use Rattle.odb_links.specs.Seen.{AreLinks, seen}
use Rattle.odb_links.proofs.Written.{link_refuses, plain_put}
use Rattle.odb_links.proofs.making.put_plain.Goals as goal

pub returns-then-is_link_at-clause-reply : goal.returns-then-is_link_at-clause-reply
returns-then-is_link_at-clause-reply g c =
    let refused = link_refuses c.args.links.now (g.D.Database.rows c.args.tree.now) c.args.path.now c.args.value.now c.requires.links c.if-is_link_at.ensures c.requires.value in (λ _. refused, λ _. refused)

pub returns-then-is_link_at-clause-notes : goal.returns-then-is_link_at-clause-notes
returns-then-is_link_at-clause-notes g c = sym (none_noted (g.D.Database.watches c.args.tree.now))

pub returns : goal.returns
returns g c =
    let s : Rows = g.D.Database.rows c.args.tree.now in
    let free = c.if-is_link_at.ensures in
    let put = plain_put c.args.links.now s c.args.path.now c.args.value.now c.put.result c.requires.links free c.requires.value c.names.ensures.is_path c.put.ensures.reply in record {
      reply = put.reply_is;
      links = subst (AreLinks c.args.links.now) (sym c.put.ensures.after) put.links_kept;
      after = ap (seen c.args.links.now) c.put.ensures.after ∙ put.after;
      notes = c.put.ensures.notes ∙ put.notes (g.D.Database.watches c.args.tree.now);
    }
