use Rattle.std.proofs.Common.{◌≡◌, ◌≢◌, ℕ, List, Result, Ok, Err, true, false, ◌||◌, unwrap_or, sym, ap, ◌∙◌, subst}
use Rattle.std.proofs.lemmas.Result.{err_from_is_err_and}
use Rattle.odb_tree.specs.declared.refusals.OdbRefusal.{OdbRefusal}
use Rattle.odb_tree.specs.declared.refusals.OdbRefusal.TheVariants.{NoMemory}
use Rattle.odb_tree.specs.declared.entry.DatabaseEntry.TheVariants.{Create}
use Rattle.odb_tree.specs.Links.{resolved, meets_link}
use Rattle.odb_tree.specs.Calls.{IsRowsReply, rows_after, makes_link, create_reply}
use Rattle.odb_tree.specs.Noting.{Watched, all_noted, changes_of}
use Rattle.odb_tree.specs.Rows.{Rows}
use Rattle.odb_links.specs.declared.links.Link.{Link}
use Rattle.odb_links.specs.Seen.{seen, AreLinks}
use Rattle.odb_links.proofs.SeenCalls.{create_seen, create_refused, plain_kind, link_made, no_end, or_met}
use Rattle.odb_links.proofs.tree.LinkTreeDatabase.create.Goals as goal

pub returns-in_err-led-clause-reply : goal.returns-in_err-led-clause-reply
returns-in_err-led-clause-reply g c =
    let s : Rows = g.D.Database.rows c.self.inside.tree in
    let links : List Link = c.self.inside.links.items in
    let p : List (List ℕ) = c.args.path.now in
    let why : OdbRefusal = c.in_err-led.field-0.0 in
    let told = err_from_is_err_and c.from_residual.result c.from_residual.ensures.1 in
    let is : c.from_residual.result ≡ Err why = told.1 ∙ ap (λ (x : OdbRefusal). Err x) told.2 in
    let refused : why ≢ NoMemory → resolved (seen links s) p false ≡ Err why =
    subst (λ (l : List Link). why ≢ NoMemory → resolved (seen l s) p false ≡ Err why) c.as_slice.ensures.value c.in_err-led.ensures.refused in
    subst (λ (r : Result ℕ OdbRefusal). IsRowsReply c.args.self.now.rows (Create p c.args.kind.now r)) (sym is)
    (subst (λ (w : Watched). IsRowsReply w.rows (Create p c.args.kind.now (Err why))) c.self.view_is (no_end (makes_link c.args.kind.now || meets_link (seen links s) p false) (resolved (seen links s) p false) (λ x. create_reply (seen links s) x c.args.kind.now) why refused
    (λ k. or_met (makes_link c.args.kind.now) (meets_link (seen links s) p false) (subst (λ (l : List Link). meets_link (seen l s) p false ≡ true) c.as_slice.ensures.value (c.in_err-led.ensures.memory (ap (λ (x : OdbRefusal). Err x) k))))))

pub returns-in_err-led-clause-notes : goal.returns-in_err-led-clause-notes
returns-in_err-led-clause-notes g c =
    let told = err_from_is_err_and c.from_residual.result c.from_residual.ensures.1 in
    create_refused c.args.self.now.rows c.args.path.now c.args.kind.now c.from_residual.result told.0 c.args.self.now.slots told.1

pub returns-in-Dir-clause-reply : goal.returns-in-Dir-clause-reply
returns-in-Dir-clause-reply g c =
    let s : Rows = g.D.Database.rows c.self.inside.tree in
    let links : List Link = c.self.inside.links.items in
    let p : List (List ℕ) = c.args.path.now in
    let q : List (List ℕ) = c.goal-path.result.now in
    let e : resolved (seen links s) p false ≡ Ok q =
    subst (λ (l : List Link). resolved (seen l s) p false ≡ Ok (unwrap_or c.in_ok-led.led p)) c.as_slice.ensures.value c.in_ok-led.ensures.led ∙ ap (λ (x : List (List ℕ)). Ok x) (sym c.goal-path.ensures.path) in
    let call = create_seen links s p q c.args.kind.now c.create.result c.self.invariant (plain_kind c.args.kind.now c.in-Dir.is) c.goal-path.ensures.is_path e c.create.ensures.reply in
    subst (λ (w : Watched). IsRowsReply w.rows (Create p c.args.kind.now c.create.result)) c.self.view_is call.reply

pub returns-in-Dir-clause-after : goal.returns-in-Dir-clause-after
returns-in-Dir-clause-after g c =
    let s : Rows = g.D.Database.rows c.self.inside.tree in
    let links : List Link = c.self.inside.links.items in
    let p : List (List ℕ) = c.args.path.now in
    let q : List (List ℕ) = c.goal-path.result.now in
    let e : resolved (seen links s) p false ≡ Ok q =
    subst (λ (l : List Link). resolved (seen l s) p false ≡ Ok (unwrap_or c.in_ok-led.led p)) c.as_slice.ensures.value c.in_ok-led.ensures.led ∙ ap (λ (x : List (List ℕ)). Ok x) (sym c.goal-path.ensures.path) in
    let call = create_seen links s p q c.args.kind.now c.create.result c.self.invariant (plain_kind c.args.kind.now c.in-Dir.is) c.goal-path.ensures.is_path e c.create.ensures.reply in
    ap (seen links) c.create.ensures.after ∙ (call.after ∙ ap (λ (w : Watched). rows_after w.rows (Create p c.args.kind.now c.create.result)) c.self.view_is)

pub returns-in-Dir-clause-notes : goal.returns-in-Dir-clause-notes
returns-in-Dir-clause-notes g c =
    let s : Rows = g.D.Database.rows c.self.inside.tree in
    let links : List Link = c.self.inside.links.items in
    let p : List (List ℕ) = c.args.path.now in
    let q : List (List ℕ) = c.goal-path.result.now in
    let e : resolved (seen links s) p false ≡ Ok q =
    subst (λ (l : List Link). resolved (seen l s) p false ≡ Ok (unwrap_or c.in_ok-led.led p)) c.as_slice.ensures.value c.in_ok-led.ensures.led ∙ ap (λ (x : List (List ℕ)). Ok x) (sym c.goal-path.ensures.path) in
    let call = create_seen links s p q c.args.kind.now c.create.result c.self.invariant (plain_kind c.args.kind.now c.in-Dir.is) c.goal-path.ensures.is_path e c.create.ensures.reply in
    c.create.ensures.notes ∙ (call.notes (g.D.Database.watches c.self.inside.tree) ∙ ap (λ (w : Watched). all_noted (changes_of w.rows (Create p c.args.kind.now c.create.result)) w.slots) c.self.view_is)

pub invariant_of-self-in-Dir : goal.invariant_of-self-in-Dir
invariant_of-self-in-Dir g c =
    let s : Rows = g.D.Database.rows c.self.inside.tree in
    let links : List Link = c.self.inside.links.items in
    let p : List (List ℕ) = c.args.path.now in
    let q : List (List ℕ) = c.goal-path.result.now in
    let e : resolved (seen links s) p false ≡ Ok q =
    subst (λ (l : List Link). resolved (seen l s) p false ≡ Ok (unwrap_or c.in_ok-led.led p)) c.as_slice.ensures.value c.in_ok-led.ensures.led ∙ ap (λ (x : List (List ℕ)). Ok x) (sym c.goal-path.ensures.path) in
    let call = create_seen links s p q c.args.kind.now c.create.result c.self.invariant (plain_kind c.args.kind.now c.in-Dir.is) c.goal-path.ensures.is_path e c.create.ensures.reply in
    subst (AreLinks links) (sym c.create.ensures.after) call.links_kept

pub returns-clause-reply : goal.returns-clause-reply
returns-clause-reply g c =
    let s : Rows = g.D.Database.rows c.self.inside.tree in
    let links : List Link = c.self.inside.links.items in
    let p : List (List ℕ) = c.args.path.now in
    let q : List (List ℕ) = c.goal-path.result.now in
    let e : resolved (seen links s) p false ≡ Ok q =
    subst (λ (l : List Link). resolved (seen l s) p false ≡ Ok (unwrap_or c.in_ok-led.led p)) c.as_slice.ensures.value c.in_ok-led.ensures.led ∙ ap (λ (x : List (List ℕ)). Ok x) (sym c.goal-path.ensures.path) in
    let made = link_made (seen links s) p q c.in-Link.target c.args.kind.now c.make_link.result e c.in-Link.is c.make_link.ensures.reply in
    subst (λ (w : Watched). IsRowsReply w.rows (Create p c.args.kind.now c.make_link.result)) c.self.view_is made.reply_is

pub returns-clause-after : goal.returns-clause-after
returns-clause-after g c =
    let s : Rows = g.D.Database.rows c.self.inside.tree in
    let links : List Link = c.self.inside.links.items in
    let p : List (List ℕ) = c.args.path.now in
    let q : List (List ℕ) = c.goal-path.result.now in
    let e : resolved (seen links s) p false ≡ Ok q =
    subst (λ (l : List Link). resolved (seen l s) p false ≡ Ok (unwrap_or c.in_ok-led.led p)) c.as_slice.ensures.value c.in_ok-led.ensures.led ∙ ap (λ (x : List (List ℕ)). Ok x) (sym c.goal-path.ensures.path) in
    let made = link_made (seen links s) p q c.in-Link.target c.args.kind.now c.make_link.result e c.in-Link.is c.make_link.ensures.reply in
    c.make_link.ensures.after ∙ (made.after ∙ ap (λ (w : Watched). rows_after w.rows (Create p c.args.kind.now c.make_link.result)) c.self.view_is)

pub returns-clause-notes : goal.returns-clause-notes
returns-clause-notes g c =
    let s : Rows = g.D.Database.rows c.self.inside.tree in
    let links : List Link = c.self.inside.links.items in
    let p : List (List ℕ) = c.args.path.now in
    let q : List (List ℕ) = c.goal-path.result.now in
    let e : resolved (seen links s) p false ≡ Ok q =
    subst (λ (l : List Link). resolved (seen l s) p false ≡ Ok (unwrap_or c.in_ok-led.led p)) c.as_slice.ensures.value c.in_ok-led.ensures.led ∙ ap (λ (x : List (List ℕ)). Ok x) (sym c.goal-path.ensures.path) in
    let made = link_made (seen links s) p q c.in-Link.target c.args.kind.now c.make_link.result e c.in-Link.is c.make_link.ensures.reply in
    c.make_link.ensures.notes ∙ (made.notes (g.D.Database.watches c.self.inside.tree) ∙ ap (λ (w : Watched). all_noted (changes_of w.rows (Create p c.args.kind.now c.make_link.result)) w.slots) c.self.view_is)
