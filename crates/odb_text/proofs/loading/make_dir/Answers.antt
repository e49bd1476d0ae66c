use Rattle.std.proofs.Common.{◌≡◌, ◌≢◌, true, false, None, Some, sym, ◌∙◌, subst}
use Rattle.std.proofs.lemmas.Result.{on_ok_weaker, IfErr-weaker}
use Rattle.odb_tree.specs.declared.refusals.OdbRefusal.TheVariants.{NoMemory as no_memory}
use Rattle.odb_tree.specs.Rows.{Rows}
use Rattle.odb_tree.specs.Lookups.{seek_key}
use Rattle.odb_tree.specs.Links.{resolved, meets_link, through}
use Rattle.odb_tree.specs.declared.rows.NewKey.TheVariants.{Dir}
use Rattle.odb_tree.specs.Calls.{create_reply}
use Rattle.odb_tree.proofs.Led.{told_due}
use Rattle.odb_text.specs.TextSteps.{there_already}
use Rattle.odb_text.proofs.Replies.{exists_settled, make_there, make_other}
use Rattle.odb_text.specs.Standing.{IsLed}
use Rattle.odb_text.proofs.LedThere.{led_there}
use Rattle.odb_text.proofs.loading.make_dir.Goals as goal

pub returns-then-is_exists-clause-fine : goal.returns-then-is_exists-clause-fine
returns-then-is_exists-clause-fine g c =
    on_ok_weaker c.is_dir_there.result
    (λ h. make_there (g.D.Database.rows c.args.database.now) c.args.path.now c.in-Err.refusal (sym c.is_exists.ensures ∙ c.if-is_exists.true)
    (told_due (meets_link (g.D.Database.rows c.args.database.now) c.args.path.now false) c.in-Err.refusal
    (through (resolved (g.D.Database.rows c.args.database.now) c.args.path.now false) (λ q. create_reply (g.D.Database.rows c.args.database.now) q Dir)) c.in-Err.ensures.reply)
    ∙ subst (λ (s : Rows). there_already (through (resolved s c.args.path.now false) (λ q. seek_key s.rows q)) ≡ None) c.in-Err.ensures.after h) c.is_dir_there.ensures.dir

pub returns-then-is_exists-clause-refused : goal.returns-then-is_exists-clause-refused
returns-then-is_exists-clause-refused g c =
    IfErr-weaker c.is_dir_there.result _ _
    (λ why h other. make_there (g.D.Database.rows c.args.database.now) c.args.path.now c.in-Err.refusal (sym c.is_exists.ensures ∙ c.if-is_exists.true)
    (told_due (meets_link (g.D.Database.rows c.args.database.now) c.args.path.now false) c.in-Err.refusal
    (through (resolved (g.D.Database.rows c.args.database.now) c.args.path.now false) (λ q. create_reply (g.D.Database.rows c.args.database.now) q Dir)) c.in-Err.ensures.reply)
    ∙ subst (λ (s : Rows). there_already (through (resolved s c.args.path.now false) (λ q. seek_key s.rows q)) ≡ Some why) c.in-Err.ensures.after (h other)) c.is_dir_there.ensures.key

pub returns-else-is_exists-clause-refused : goal.returns-else-is_exists-clause-refused
returns-else-is_exists-clause-refused g c = λ (h : c.in-Err.refusal ≢ no_memory).
    make_other (g.D.Database.rows c.args.database.now) c.args.path.now c.in-Err.refusal (sym c.is_exists.ensures ∙ c.if-is_exists.false) ((told_due (meets_link (g.D.Database.rows c.args.database.now) c.args.path.now false) c.in-Err.refusal
    (through (resolved (g.D.Database.rows c.args.database.now) c.args.path.now false) (λ q. create_reply (g.D.Database.rows c.args.database.now) q Dir)) c.in-Err.ensures.reply) h)

pub is_dir_there-requires : goal.is_dir_there-requires
is_dir_there-requires g c =
    let s = g.D.Database.rows c.args.database.now in
    let there = sym c.is_exists.ensures ∙ c.if-is_exists.true in
    subst (λ (t : Rows). IsLed t c.args.path.now) (sym c.in-Err.ensures.after)
    (led_there s c.args.path.now c.in-Err.refusal there ((told_due (meets_link (g.D.Database.rows c.args.database.now) c.args.path.now false) c.in-Err.refusal
    (through (resolved (g.D.Database.rows c.args.database.now) c.args.path.now false) (λ q. create_reply (g.D.Database.rows c.args.database.now) q Dir)) c.in-Err.ensures.reply) (exists_settled c.in-Err.refusal there)))
