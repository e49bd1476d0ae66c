use Rattle.std.proofs.Common.{◌≡◌, Err, sym, ap, ◌∙◌, arith}
use Rattle.std.proofs.lemmas.Result.{err_from_is_err_and}
use Rattle.odb_tree.specs.declared.refusals.OdbRefusal.{OdbRefusal}
use Rattle.odb_tree.specs.Calls.{after_delete}
use Rattle.odb_arena.proofs.Leaves.{find_has_path, deleted, delete_reply_is, left_fewer, delete_refused}
use Rattle.odb_arena.proofs.tree.ArenaTreeDatabase.delete.Goals as goal

pub returns-in_err-number-clause-reply : goal.returns-in_err-number-clause-reply
returns-in_err-number-clause-reply c =
    let p = err_from_is_err_and c.from_residual.result c.from_residual.ensures.1 in
    (p.1 ∙ ap (λ (x : OdbRefusal). Err x) p.2) ∙ sym (delete_refused c.args.self.now c.args.path.now c.in_err-number.field-0.0 c.in_err-number.ensures.reply)

pub remove_below-requires : goal.remove_below-requires
remove_below-requires c = find_has_path c.args.self.now c.args.path.now c.in_ok-number.number c.in_ok-number.ensures.database.tree c.in_ok-number.ensures.reply

pub overflow_sub-result : goal.overflow_sub-result
overflow_sub-result c =
    let cut : c.remove_below.new.self ≡ after_delete c.args.self.now c.args.path.now = deleted c.args.self.now c.remove_below.new.self c.args.path.now c.in_ok-number.number c.in_ok-number.ensures.database.tree c.in_ok-number.ensures.reply c.remove_below.ensures in
    omega (arith, c.len.ensures, c.len-before.ensures, left_fewer c.args.self.now c.remove_below.new.self c.args.path.now cut)

pub returns-clause-reply : goal.returns-clause-reply
returns-clause-reply c =
    let cut : c.remove_below.new.self ≡ after_delete c.args.self.now c.args.path.now = deleted c.args.self.now c.remove_below.new.self c.args.path.now c.in_ok-number.number c.in_ok-number.ensures.database.tree c.in_ok-number.ensures.reply c.remove_below.ensures in
    delete_reply_is c.args.self.now c.remove_below.new.self c.args.path.now c.in_ok-number.number c.len-before.result c.len.result c.in_ok-number.ensures.database.tree c.in_ok-number.ensures.reply cut
    c.len-before.ensures c.len.ensures

pub returns-clause-after : goal.returns-clause-after
returns-clause-after c =
    deleted c.args.self.now c.remove_below.new.self c.args.path.now c.in_ok-number.number c.in_ok-number.ensures.database.tree c.in_ok-number.ensures.reply c.remove_below.ensures
