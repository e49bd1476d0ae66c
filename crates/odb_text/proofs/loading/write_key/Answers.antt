use Rattle.std.proofs.Common.{◌≢◌, ℕ, Result, sym, ap, ◌∙◌}
use Rattle.odb_tree.specs.declared.refusals.OdbRefusal.{OdbRefusal}
use Rattle.odb_tree.specs.declared.refusals.OdbRefusal.TheVariants.{NoMemory as no_memory}
use Rattle.odb_value.specs.LinkValues.{is_link_type}
use Rattle.odb_tree.specs.Rows.{row_at}
use Rattle.odb_tree.specs.Noting.{changes_of_put, all_noted}
use Rattle.odb_tree.specs.Calls.{put_fault, put_reply, number_at}
use Rattle.odb_tree.proofs.Led.{told_due}
use Rattle.odb_text.proofs.Replies.{reply_ok, reply_err}
use Rattle.odb_text.proofs.loading.write_key.Goals as goal

pub returns-in-Ok-clause-fine : goal.returns-in-Ok-clause-fine
returns-in-Ok-clause-fine g c =
    let s = g.D.Database.rows c.args.database.now in
    reply_ok (put_fault s c.args.path.now c.args.value.now) (number_at s c.args.path.now (row_at s.rows c.args.path.now)) c.in-Ok.field-0 c.in-Ok.ensures.reply

pub returns-in-Err-clause-refused : goal.returns-in-Err-clause-refused
returns-in-Err-clause-refused g c = λ (h : c.in-Err.refusal ≢ no_memory).
    let s = g.D.Database.rows c.args.database.now in
    reply_err (put_fault s c.args.path.now c.args.value.now) (number_at s c.args.path.now (row_at s.rows c.args.path.now)) c.in-Err.refusal
    (told_due (is_link_type c.args.value.now.tid) c.in-Err.refusal (put_reply s c.args.path.now c.args.value.now) c.in-Err.ensures.reply h)

pub returns-in-Ok-clause-noted : goal.returns-in-Ok-clause-noted
returns-in-Ok-clause-noted g c =
    let s = g.D.Database.rows c.args.database.now in
    c.in-Ok.ensures.notes
    ∙ ap (λ (reply : Result ℕ OdbRefusal). all_noted (changes_of_put s c.args.path.now c.args.value.now reply) (g.D.Database.watches c.args.database.now)) (sym c.in-Ok.ensures.reply)
