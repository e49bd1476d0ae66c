use Rattle.std.proofs.Common.{◌-◌, refl, subst, arith}
use Rattle.std.specs.Prelude.{vec_len, vec_capacity}
use Rattle.std.proofs.lemmas.Bool.{false≢true}
use Rattle.odb_tree.specs.declared.entry.DatabaseEntry.TheVariants.{Set}
use Rattle.odb_journal.specs.Noted.{Noted, NotesCall}
use Rattle.odb_journal.proofs.HistoryLaws.{noted_next}
use Rattle.odb_journal.proofs.local.LocalDatabase.set.Goals as goal

pub invariant_of-self : goal.invariant_of-self
invariant_of-self g c =
    noted_next _ _ c.args.caller (Set c.args.path c.args.index c.args.item c.set-reply.result) c.self.invariant (λ e. absurd (false≢true e)) (c.names.ensures.is_path, c.tid.ensures.is_item.sound) c.set-reply.ensures.reply c.set-reply.ensures.after c.push_reserved.ensures.items refl

pub returns : goal.returns
returns g c =
    let now : Noted = record {
      start = g.D.Database.rows c.self.inside.start.value;
      rows = g.D.Database.rows c.set-reply.new.self;
      history = c.push_reserved.new.self.items;
      room = vec_capacity c.push_reserved.new.self - vec_len c.push_reserved.new.self;
    } in
    record {
      did = subst (λ (p : Noted). NotesCall p now c.args.caller (Set c.args.path c.args.index c.args.item c.set-reply.result)) c.self.view_is (record {
        from = c.self.invariant;
        reply = c.set-reply.ensures.reply;
        rows = c.set-reply.ensures.after;
        history = c.push_reserved.ensures.items;
        start = refl;
        room = omega (arith, c.push_reserved.ensures.len, c.push_reserved.ensures.capacity);
      });
    }
