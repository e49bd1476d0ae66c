use Rattle.std.proofs.Common.{◌≡◌, List, sym, subst, ◌∙◌}
use Rattle.odb_value.specs.LinkValues.{is_link_type}
use Rattle.odb_tree.specs.Rows.{Rows}
use Rattle.odb_tree.specs.Calls.{Gives, put_reply, after_put}
use Rattle.odb_tree.specs.Noting.{changes_of_put, all_noted}
use Rattle.odb_tree.proofs.Led.{taking}
use Rattle.odb_links.specs.declared.links.Link.{Link}
use Rattle.odb_links.specs.Seen.{AreLinks, seen}
use Rattle.odb_links.proofs.Written.{link_typed}
use Rattle.odb_links.proofs.making.put_value.Goals as goal

pub put_link-requires-clause-link : goal.put_link-requires-clause-link
put_link-requires-clause-link g c = link_typed c.args.value.now c.tid.ensures.held (sym c.tid.ensures.tid ∙ c.in-Link.is)

pub returns-in_default : goal.returns-in_default
returns-in_default g c =
    let s : Rows = g.D.Database.rows c.args.tree.now in
    record {
      reply = taking (is_link_type c.args.value.now.tid) c.put_plain.result (put_reply (seen c.args.links.now.items s) c.args.path.now c.args.value.now)
          (subst (λ (l : List Link). Gives c.put_plain.result (put_reply (seen l s) c.args.path.now c.args.value.now)) c.as_slice.ensures.value c.put_plain.ensures.reply);
      links = subst (λ (l : List Link). AreLinks l (g.D.Database.rows c.put_plain.new.tree)) c.as_slice.ensures.value c.put_plain.ensures.links;
      after = subst (λ (l : List Link). seen l (g.D.Database.rows c.put_plain.new.tree) ≡ after_put (seen l s) c.args.path.now c.args.value.now c.put_plain.result) c.as_slice.ensures.value c.put_plain.ensures.after;
      notes = subst (λ (l : List Link). g.D.Database.watches c.put_plain.new.tree ≡ all_noted (changes_of_put (seen l s) c.args.path.now c.args.value.now c.put_plain.result) (g.D.Database.watches c.args.tree.now))
          c.as_slice.ensures.value c.put_plain.ensures.notes;
    }
