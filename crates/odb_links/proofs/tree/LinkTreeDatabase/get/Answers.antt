use Rattle.std.proofs.Common.{◌≡◌, ◌≢◌, ℕ, List, Result, Ok, Err, true, unwrap_or, sym, ap, ◌∙◌, subst}
use Rattle.std.proofs.lemmas.Result.{err_from_is_err_and}
use Rattle.odb_value.specs.Values.{HeldValue}
use Rattle.odb_tree.specs.declared.refusals.OdbRefusal.{OdbRefusal}
use Rattle.odb_tree.specs.declared.refusals.OdbRefusal.TheVariants.{NoMemory}
use Rattle.odb_tree.specs.declared.entry.DatabaseEntry.TheVariants.{Get}
use Rattle.odb_tree.specs.Links.{resolved, meets_link}
use Rattle.odb_tree.specs.Calls.{IsRowsReply, get_reply}
use Rattle.odb_tree.specs.Noting.{Watched}
use Rattle.odb_tree.specs.Rows.{Rows}
use Rattle.odb_links.specs.declared.links.Link.{Link}
use Rattle.odb_links.specs.Seen.{seen}
use Rattle.odb_links.proofs.SeenCalls.{get_seen, no_end}
use Rattle.odb_links.proofs.tree.LinkTreeDatabase.get.Goals as goal

pub returns-in_err-led : goal.returns-in_err-led
returns-in_err-led g c =
    let s : Rows = g.D.Database.rows c.self.inside.tree in
    let links : List Link = c.self.inside.links.items in
    let p : List (List ℕ) = c.args.path.now in
    let why : OdbRefusal = c.in_err-led.field-0.0 in
    let told = err_from_is_err_and c.from_residual.result c.from_residual.ensures.1 in
    let is : c.from_residual.result ≡ Err why = told.1 ∙ ap (λ (x : OdbRefusal). Err x) told.2 in
    let refused : why ≢ NoMemory → resolved (seen links s) p true ≡ Err why =
    subst (λ (l : List Link). why ≢ NoMemory → resolved (seen l s) p true ≡ Err why) c.as_slice.ensures.value c.in_err-led.ensures.refused in
    subst (λ (r : Result HeldValue OdbRefusal). IsRowsReply c.args.self.now.rows (Get p r)) (sym is)
    (subst (λ (w : Watched). IsRowsReply w.rows (Get p (Err why))) c.self.view_is (no_end (meets_link (seen links s) p true) (resolved (seen links s) p true) (λ x. get_reply (seen links s) x) why refused
    (λ k. subst (λ (l : List Link). meets_link (seen l s) p true ≡ true) c.as_slice.ensures.value (c.in_err-led.ensures.memory (ap (λ (x : OdbRefusal). Err x) k)))))

pub returns : goal.returns
returns g c =
    let s : Rows = g.D.Database.rows c.self.inside.tree in
    let links : List Link = c.self.inside.links.items in
    let p : List (List ℕ) = c.args.path.now in
    let q : List (List ℕ) = c.goal.result.now in
    let e : resolved (seen links s) p true ≡ Ok q =
    subst (λ (l : List Link). resolved (seen l s) p true ≡ Ok (unwrap_or c.in_ok-led.led p)) c.as_slice.ensures.value c.in_ok-led.ensures.led ∙ ap (λ (x : List (List ℕ)). Ok x) (sym c.goal.ensures.path) in
    subst (λ (w : Watched). IsRowsReply w.rows (Get p c.get.result)) c.self.view_is (get_seen links s p q c.get.result c.self.invariant e c.get.ensures)
