use Rattle.std.specs.Prelude.{List, [], ◌∷◌, ℕ}
use Rattle.std.proofs.Common.{ap, refl}
use Rattle.odb_value.specs.declared.items.Item.TheVariants.{UInt64}
use Rattle.odb_tree.specs.declared.entry.DatabaseEntry.{DatabaseEntry}
use Rattle.odb_tree.specs.declared.entry.DatabaseEntry.TheVariants.{Set}
use Rattle.daq_members.proofs.sent_key.SentKey.set.Goals as goal

pub returns-clause-sets : goal.returns-clause-sets
returns-clause-sets g c = rw c.in-Some.is (
  Set c.args.self.now.path 0 (UInt64 c.in-Some.sent) c.set_lent.result,
  record { reply = c.set_lent.result; is = ap (λ (p : List (List ℕ)). Set p 0 (UInt64 c.in-Some.sent) c.set_lent.result) c.args.self.now.path_is },
  c.set_lent.ensures.called,
)

pub returns-clause-own : goal.returns-clause-own
returns-clause-own g c =
    let entry : DatabaseEntry = Set c.args.self.now.path 0 (UInt64 c.in-Some.sent) c.set_lent.result in
    rw c.in-Some.is (record {
      entry = entry;
      sets = record { reply = c.set_lent.result; is = ap (λ (p : List (List ℕ)). Set p 0 (UInt64 c.in-Some.sent) c.set_lent.result) c.args.self.now.path_is };
      whole = c.calls_add_up.ensures.watched (g.D.DatabasePort.access c.args.port.now) (g.D.DatabasePort.access c.set_lent.new.self) (entry ∷ [])
          (g.D.DatabasePort.access c.set_lent.new.self, c.set_lent.ensures.called, refl);
    })

pub returns-clause-same : goal.returns-clause-same
returns-clause-same g c = c.set_lent.ensures.called.same
