use Rattle.std.proofs.Common.{◌∙◌, ◌≤◌, not, Option, Some, None, refl, rules, ap, sym, subst, ℕ, IfSome}
use Rattle.midas_tools.specs.Gathering.{EndsAtFault, ReadsPiece, extent_behind}
use Rattle.midas_tools.specs.declared.ends.ToolEnd.{ToolEnd}
use Rattle.midas_tools.proofs.Summing.{fault_piece, other_by, piece_done, piece_other, sums_more, sums_none}
use Rattle.midas_tools.proofs.gathering.sum_piece.Goals as goal

pub events-init : goal.events-init
events-init g c = record {
  so_far = λ events taken few. sums_none (g.T.EventTaker.has_taken c.args.summary.now) events c.args.before.bytes _ _ taken c.requires.new c.requires.some.within;
  enough = c.requires.room;
  room = refl;
  origin = refl;
  faults = refl;
}

pub returns-in-Some-clause-piece : goal.returns-in-Some-clause-piece
returns-in-Some-clause-piece g c = λ events taken few.
    let s = c.events.invariant.so_far events taken few in
    let t = c.in-Ok.ensures.gives c.args.before.bytes (g.S.Source.told c.args.reader.now.source).left events s.events s.read s.sums in
    subst (λ (end : ToolEnd). ReadsPiece (g.T.EventTaker.has_taken c.give_next.new.taker) events c.args.before (extent_behind c.args.before c.give_next.new.self.progress) (IfSome (g.S.Source.told c.args.reader.now.source).left) end)
    (sym c.end_other.ensures)
    (piece_other c.args.before _ _ c.give_next.new.self.progress _ c.in-Some.run' c.requires.some.met t.read
    (other_by c.args.before.run c.other_run.result c.run.result _ c.other_run.ensures c.run.ensures (Some c.in-Some.run') c.in-Some.is))

pub returns-then-is_none-clause-piece : goal.returns-then-is_none-clause-piece
returns-then-is_none-clause-piece g c = λ events taken few.
    let s = c.events.invariant.so_far events taken few in
    let t = c.in-Ok.ensures.gives c.args.before.bytes (g.S.Source.told c.args.reader.now.source).left events s.events s.read s.sums in
    piece_done c.args.before _ _ c.give_next.new.self.progress events s.events (g.T.EventTaker.has_taken c.give_next.new.taker) c.in-Ok.given (c.is_none.ensures ∙ ap not c.if-is_none.true) t few c.in-Ok.ensures.fault
    c.in-Ok.ensures.end (other_by c.args.before.run c.other_run.result c.run.result _ c.other_run.ensures c.run.ensures None c.in_default.is)

pub events-preserved : goal.events-preserved
events-preserved g c = record {
  so_far = λ events taken few.
      let s = c.events.invariant.so_far events taken few in
      let t = c.in-Ok.ensures.gives c.args.before.bytes (g.S.Source.told c.args.reader.now.source).left events s.events s.read s.sums in
      sums_more (g.T.EventTaker.has_taken c.events.summary) events c.args.before.bytes _ _ _ _ c.give_next.new.self.progress s (g.T.EventTaker.has_taken c.give_next.new.taker) c.in-Ok.given
      (c.is_none.ensures ∙ ap not c.if-is_none.false) t c.in-Ok.ensures.fault;
  enough = subst (λ (n : ℕ). _ ≤ n) (sym c.in-Ok.ensures.room) c.events.invariant.enough;
  room = c.in-Ok.ensures.room ∙ c.events.invariant.room;
  origin = c.in-Ok.ensures.origin ∙ c.events.invariant.origin;
  faults = search rules;
}

pub returns-in-Err-clause-piece : goal.returns-in-Err-clause-piece
returns-in-Err-clause-piece g c = λ events taken few.
    let s = c.events.invariant.so_far events taken few in
    let t = c.in-Err.ensures.gives c.args.before.bytes (g.S.Source.told c.args.reader.now.source).left events s.events s.read s.sums in
    fault_piece c.args.before _ _ c.give_next.new.self.progress events s.events c.in-Err.fault (g.T.EventTaker.has_taken c.give_next.new.taker) (extent_behind c.args.before c.give_next.new.self.progress) c.requires.some.met t.read
    c.in-Err.ensures.fault c.end_fault.result (subst (λ (run : Option ℕ). EndsAtFault c.args.before run c.in-Err.fault c.end_fault.result) c.run-in-Err.ensures c.end_fault.ensures)
