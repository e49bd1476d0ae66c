use Rattle.std.proofs.Common.{◌≡◌, ◌<◌, ℕ, List, length, subst, arith}
use Rattle.turn_lock.specs.Closing.{history_of}
use Rattle.member_model.specs.RunEngines.{EngineState, IsLegalEngine}
use Rattle.odb_tree.specs.Noting.{Watched}
use Rattle.odb_watch.specs.declared.entry.WatchEntry.{WatchEntry}
use Rattle.odb_watch.specs.Steps.{LeadsDatabase, unwatched}
use Rattle.std.proofs.lemmas.Option.{slice_get_within}
use Rattle.session_objects.proofs.ClosingLaws.{all_kept, parts_held}
use Rattle.session_objects.proofs.ChangeLaws.{there_below}
use Rattle.session_objects.proofs.objects.SessionObjects.close.Goals as goal

pub close_buffers-requires-clause-all : goal.close_buffers-requires-clause-all
close_buffers-requires-clause-all g c = λ number buffer roster at there. all_kept _ _ _ (c.requires.1.buffers number buffer roster at there)

pub close_database-requires : goal.close_database-requires
close_database-requires g c = all_kept _ _ _ c.requires.1.database

pub close_engine-requires : goal.close_engine-requires
close_engine-requires g c = all_kept _ _ _ c.requires.1.engine

pub returns-clause-calls : goal.returns-clause-calls
returns-clause-calls g c = λ calls has. record {
  engine = parts_held _ _ _ _ has.engine c.close_engine.ensures.parts;
  buffers = λ number buffer closed at there.
      let l : number < length c.args.self.buffers.items = slice_get_within c.args.self.buffers.items number buffer at in
      let many : length c.args.passes.buffers.items ≡ length c.args.self.buffers.items = has.many in
      let kept = there_below c.args.passes.buffers.items number (omega arith) in
      parts_held _ _ _ _ (has.buffers number buffer kept.0 at kept.1) (c.close_buffers.ensures.parts number buffer kept.0 closed at kept.1 there);
  database = parts_held _ _ _ _ has.database c.close_database.ensures.parts;
}

pub returns-clause-histories : goal.returns-clause-histories
returns-clause-histories g c = record {
  many = c.close_buffers.ensures.many;
  buffers = c.close_buffers.ensures.records;
  engine = c.close_engine.ensures.legal;
  engine_left = c.close_engine.ensures.left;
  follows = λ opens. (let P : EngineState → Type 0 = λ s. IsLegalEngine s (history_of c.close_engine.result) in
      c.follows.ensures (history_of c.close_engine.result) (subst P opens c.close_engine.ensures.legal));
  database = c.close_database.ensures.leads;
  notes = λ rows opens before more caller watch lost notes is.
      let P : List (ℕ × WatchEntry) → Type 0 = λ h. LeadsDatabase (unwatched rows) h c.close_database.result.value.database in
      let Q : Watched → Type 0 = λ w. LeadsDatabase w (history_of c.close_database.result) c.close_database.result.value.database in
      c.notes_are_due.ensures rows before caller watch notes lost more c.close_database.result.value.database (subst P is (subst Q opens c.close_database.ensures.leads));
}
