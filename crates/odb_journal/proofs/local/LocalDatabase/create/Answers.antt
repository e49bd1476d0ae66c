use Rattle.std.proofs.Common.{◌-◌, refl, subst, arith}
use Rattle.std.specs.Prelude.{vec_len, vec_capacity}
use Rattle.daq_types.specs.Callers.{main_caller}
use Rattle.odb_tree.specs.declared.entry.DatabaseEntry.TheVariants.{Create}
use Rattle.odb_journal.specs.Noted.{Noted, NotesCall}
use Rattle.odb_journal.proofs.HistoryLaws.{noted_next}
use Rattle.odb_journal.proofs.local.LocalDatabase.create.Goals as goal

pub invariant_of-self : goal.invariant_of-self
invariant_of-self g c =
    noted_next _ _ 0 (Create c.args.path c.args.kind c.create-reply.result) c.self.invariant (λ _. refl) (c.names.ensures.is_path, c.target.ensures.sound) c.create-reply.ensures.reply c.create-reply.ensures.after c.push_reserved.ensures.items refl

pub returns : goal.returns
returns g c =
    let now : Noted = record {
      start = g.D.Database.rows c.self.inside.start.value;
      rows = g.D.Database.rows c.create-reply.new.self;
      history = c.push_reserved.new.self.items;
      room = vec_capacity c.push_reserved.new.self - vec_len c.push_reserved.new.self;
    } in
    record {
      did = subst (λ (p : Noted). NotesCall p now main_caller (Create c.args.path c.args.kind c.create-reply.result)) c.self.view_is (record {
        from = c.self.invariant;
        reply = c.create-reply.ensures.reply;
        rows = c.create-reply.ensures.after;
        history = c.push_reserved.ensures.items;
        start = refl;
        room = omega (arith, c.push_reserved.ensures.len, c.push_reserved.ensures.capacity);
      });
    }
