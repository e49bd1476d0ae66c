use Rattle.std.proofs.Common.{◌≡◌, ◌≢◌, ◌-◌, ℕ, List, Result, Ok, Err, true, unwrap_or, sym, ap, ◌∙◌, subst}
use Rattle.std.proofs.lemmas.Result.{err_from_is_err_and}
use Rattle.odb_tree.specs.declared.refusals.OdbRefusal.{OdbRefusal}
use Rattle.odb_tree.specs.declared.refusals.OdbRefusal.TheVariants.{NoMemory}
use Rattle.odb_tree.specs.declared.entry.DatabaseEntry.TheVariants.{Resize}
use Rattle.odb_tree.specs.Links.{resolved, meets_link}
use Rattle.odb_tree.specs.Calls.{IsRowsReply, rows_after, resize_reply}
use Rattle.odb_tree.specs.Noting.{Watched, all_noted, changes_of}
use Rattle.odb_tree.specs.Rows.{Rows}
use Rattle.odb_links.specs.declared.links.Link.{Link}
use Rattle.odb_links.specs.Seen.{seen, AreLinks}
use Rattle.odb_links.proofs.SeenCalls.{resize_seen, no_end, refusal_notes}
use Rattle.odb_links.proofs.tree.LinkTreeDatabase.resize.Goals as goal

pub returns-in_err-led-clause-reply : goal.returns-in_err-led-clause-reply
returns-in_err-led-clause-reply g c =
    let s : Rows = g.D.Database.rows c.self.inside.tree in
    let links : List Link = c.self.inside.links.items in
    let p : List (List ℕ) = c.args.path.now in
    let why : OdbRefusal = c.in_err-led.field-0.0 in
    let told = err_from_is_err_and c.from_residual.result c.from_residual.ensures.1 in
    let is : c.from_residual.result ≡ Err why = told.1 ∙ ap (λ (x : OdbRefusal). Err x) told.2 in
    let refused : why ≢ NoMemory → resolved (seen links s) p true ≡ Err why =
    subst (λ (l : List Link). why ≢ NoMemory → resolved (seen l s) p true ≡ Err why) c.as_slice.ensures.value c.in_err-led.ensures.refused in
    subst (λ (r : Result ℕ OdbRefusal). IsRowsReply c.args.self.now.rows (Resize p c.args.len r)) (sym is)
    (subst (λ (w : Watched). IsRowsReply w.rows (Resize p c.args.len (Err why))) c.self.view_is (no_end (meets_link (seen links s) p true) (resolved (seen links s) p true) (λ x. resize_reply (seen links s) x c.args.len) why refused
    (λ k. subst (λ (l : List Link). meets_link (seen l s) p true ≡ true) c.as_slice.ensures.value (c.in_err-led.ensures.memory (ap (λ (x : OdbRefusal). Err x) k)))))

pub returns-in_err-led-clause-notes : goal.returns-in_err-led-clause-notes
returns-in_err-led-clause-notes g c =
    let told = err_from_is_err_and c.from_residual.result c.from_residual.ensures.1 in
    refusal_notes (rows_after c.args.self.now.rows (Resize c.args.path.now c.args.len c.from_residual.result)) c.from_residual.result told.0 (c.args.len - 1) 1 c.args.self.now.slots told.1

pub returns-clause-reply : goal.returns-clause-reply
returns-clause-reply g c =
    let s : Rows = g.D.Database.rows c.self.inside.tree in
    let links : List Link = c.self.inside.links.items in
    let p : List (List ℕ) = c.args.path.now in
    let q : List (List ℕ) = c.goal.result.now in
    let e : resolved (seen links s) p true ≡ Ok q =
    subst (λ (l : List Link). resolved (seen l s) p true ≡ Ok (unwrap_or c.in_ok-led.led p)) c.as_slice.ensures.value c.in_ok-led.ensures.led ∙ ap (λ (x : List (List ℕ)). Ok x) (sym c.goal.ensures.path) in
    let call = resize_seen links s p q c.args.len c.resize.result c.self.invariant c.goal.ensures.is_path e c.resize.ensures.reply in
    subst (λ (w : Watched). IsRowsReply w.rows (Resize p c.args.len c.resize.result)) c.self.view_is call.reply

pub returns-clause-after : goal.returns-clause-after
returns-clause-after g c =
    let s : Rows = g.D.Database.rows c.self.inside.tree in
    let links : List Link = c.self.inside.links.items in
    let p : List (List ℕ) = c.args.path.now in
    let q : List (List ℕ) = c.goal.result.now in
    let e : resolved (seen links s) p true ≡ Ok q =
    subst (λ (l : List Link). resolved (seen l s) p true ≡ Ok (unwrap_or c.in_ok-led.led p)) c.as_slice.ensures.value c.in_ok-led.ensures.led ∙ ap (λ (x : List (List ℕ)). Ok x) (sym c.goal.ensures.path) in
    let call = resize_seen links s p q c.args.len c.resize.result c.self.invariant c.goal.ensures.is_path e c.resize.ensures.reply in
    ap (seen links) c.resize.ensures.after ∙ (call.after ∙ ap (λ (w : Watched). rows_after w.rows (Resize p c.args.len c.resize.result)) c.self.view_is)

pub returns-clause-notes : goal.returns-clause-notes
returns-clause-notes g c =
    let s : Rows = g.D.Database.rows c.self.inside.tree in
    let links : List Link = c.self.inside.links.items in
    let p : List (List ℕ) = c.args.path.now in
    let q : List (List ℕ) = c.goal.result.now in
    let e : resolved (seen links s) p true ≡ Ok q =
    subst (λ (l : List Link). resolved (seen l s) p true ≡ Ok (unwrap_or c.in_ok-led.led p)) c.as_slice.ensures.value c.in_ok-led.ensures.led ∙ ap (λ (x : List (List ℕ)). Ok x) (sym c.goal.ensures.path) in
    let call = resize_seen links s p q c.args.len c.resize.result c.self.invariant c.goal.ensures.is_path e c.resize.ensures.reply in
    c.resize.ensures.notes ∙ (call.notes (g.D.Database.watches c.self.inside.tree) ∙ ap (λ (w : Watched). all_noted (changes_of w.rows (Resize p c.args.len c.resize.result)) w.slots) c.self.view_is)

pub invariant_of-self : goal.invariant_of-self
invariant_of-self g c =
    let s : Rows = g.D.Database.rows c.self.inside.tree in
    let links : List Link = c.self.inside.links.items in
    let p : List (List ℕ) = c.args.path.now in
    let q : List (List ℕ) = c.goal.result.now in
    let e : resolved (seen links s) p true ≡ Ok q =
    subst (λ (l : List Link). resolved (seen l s) p true ≡ Ok (unwrap_or c.in_ok-led.led p)) c.as_slice.ensures.value c.in_ok-led.ensures.led ∙ ap (λ (x : List (List ℕ)). Ok x) (sym c.goal.ensures.path) in
    let call = resize_seen links s p q c.args.len c.resize.result c.self.invariant c.goal.ensures.is_path e c.resize.ensures.reply in
    subst (AreLinks links) (sym c.resize.ensures.after) call.links_kept
