use Rattle.std.proofs.Common.{◌≡◌, ℕ, List, Ok, Err, sym, subst, ap, ◌∙◌}
use Rattle.std.proofs.lemmas.Result.{err_from_is_err_and}
use Rattle.odb_value.specs.Paths.{IsPath}
use Rattle.odb_tree.specs.declared.refusals.OdbRefusal.{OdbRefusal}
use Rattle.odb_tree.specs.declared.rows.Row.{Row}
use Rattle.odb_tree.specs.Rows.{Rows}
use Rattle.odb_tree.specs.Changes.{IsKeyAt}
use Rattle.odb_tree.proofs.CallLemmas.{sought_key, can_put, can_put_there}
use Rattle.odb_tree.specs.Lookups.{seek_key}
use Rattle.odb_value.specs.Items.{tid_of}
use Rattle.odb_tree.specs.Calls.{set_fault, set_reply, set_reply_to, after_set}
use Rattle.odb_tree.specs.PlainInside.{plain_rows}
use Rattle.odb_tree.proofs.Sound.{database_set, item_given, set_replied, set_refused, set_left}
use Rattle.odb_tree.proofs.Lasting.{sought_key as lasting, handed}
use Rattle.odb_tree.proofs.plain.PlainTree.set_there.Goals as goal

pub set_fault-requires : goal.set_fault-requires
set_fault-requires c =
    sought_key c.args.self.now c.as_slice.result.now c.names-names.result.now c.in_ok-key.key.number c.in_ok-key.key.value.now
    (c.as_slice.ensures.value ∙ ap (λ (s : Rows). s.rows) c.self.view_is) c.in_ok-key.ensures.found

pub put_at-requires : goal.put_at-requires
put_at-requires c =
    can_put_there c.self.inside.rows.items c.names-names.result.now c.args.index c.args.item.now c.in_ok-item.item c.in_ok-key.key.value.now
    (subst (λ (rows : List Row). IsKeyAt rows c.names-names.result.now c.in_ok-key.key.value.now) (sym (ap (λ (s : Rows). s.rows) c.self.view_is))
    (sought_key c.args.self.now c.as_slice.result.now c.names-names.result.now c.in_ok-key.key.number c.in_ok-key.key.value.now
    (c.as_slice.ensures.value ∙ ap (λ (s : Rows). s.rows) c.self.view_is) c.in_ok-key.ensures.found))
    (can_put c.args.self.now c.names-names.result.now c.args.index c.args.item.now c.in_ok-key.key.value.now c.set_fault.result c.set_fault.ensures c.in_default.is) c.in_ok-item.ensures.item

pub invariant_of-self : goal.invariant_of-self
invariant_of-self c =
    database_set (plain_rows c.self.inside) c.names-names.result.now c.args.index c.args.item.now c.in_ok-item.item c.in_ok-key.key.number c.in_ok-key.key.value.now c.set_fault.result c.put_at.new.rows.items
    c.self.invariant (subst IsPath (sym c.names-names.ensures.names) c.names-names.ensures.is_path) c.tid.ensures.is_item.sound
    (subst (λ (rows : List Row). seek_key rows c.names-names.result.now ≡ Ok (c.in_ok-key.key.number, c.in_ok-key.key.value.now)) c.as_slice.ensures.value c.in_ok-key.ensures.found)
    (subst (λ (s : Rows). c.set_fault.result ≡ set_fault s c.names-names.result.now c.args.index c.args.item.now c.in_ok-key.key.value.now) (sym c.self.view_is) c.set_fault.ensures)
    c.in_default.is c.in_ok-item.ensures.item c.put_at.ensures

pub returns-in_err-key-clause-memory : goal.returns-in_err-key-clause-memory
returns-in_err-key-clause-memory c = λ e.
    let p = err_from_is_err_and c.from_residual.result c.from_residual.ensures.1 in
    absurd (handed c.in_err-key.field-0.0 (seek_key c.as_slice.result.now c.names-names.result.now) c.from_residual.result c.in_err-key.ensures.refused
    (lasting c.as_slice.result.now c.names-names.result.now) (p.1 ∙ ap (λ (x : OdbRefusal). Err x) p.2) e)

pub returns-in_err-key-clause-reply : goal.returns-in_err-key-clause-reply
returns-in_err-key-clause-reply c =
    let p = err_from_is_err_and c.from_residual.result c.from_residual.ensures.1 in
    let key : seek_key c.args.self.now.rows c.names-names.result.now ≡ Err c.in_err-key.field-0.0 =
    subst (λ (rows : List Row). seek_key rows c.names-names.result.now ≡ Err c.in_err-key.field-0.0) (c.as_slice.ensures.value ∙ ap (λ (s : Rows). s.rows) c.self.view_is) c.in_err-key.ensures.refused in
    item_given (tid_of c.args.item.now) c.from_residual.result (set_reply c.args.self.now c.args.path.now c.args.index c.args.item.now)
    (ap (λ (q : List (List ℕ)). set_reply c.args.self.now q c.args.index c.args.item.now) (sym c.names-names.ensures.names)
    ∙ (ap (set_reply_to c.args.self.now c.names-names.result.now c.args.index c.args.item.now) key ∙ sym (p.1 ∙ ap (λ (x : OdbRefusal). Err x) p.2)))

pub returns-in-Some-clause-reply : goal.returns-in-Some-clause-reply
returns-in-Some-clause-reply c =
    let key : seek_key c.args.self.now.rows c.names-names.result.now ≡ Ok (c.in_ok-key.key.number, c.in_ok-key.key.value.now) =
    subst (λ (rows : List Row). seek_key rows c.names-names.result.now ≡ Ok (c.in_ok-key.key.number, c.in_ok-key.key.value.now)) (c.as_slice.ensures.value ∙ ap (λ (s : Rows). s.rows) c.self.view_is) c.in_ok-key.ensures.found in
    let path : set_reply c.args.self.now c.args.path.now c.args.index c.args.item.now ≡ set_reply c.args.self.now c.names-names.result.now c.args.index c.args.item.now =
    ap (λ (p : List (List ℕ)). set_reply c.args.self.now p c.args.index c.args.item.now) (sym c.names-names.ensures.names) in
    item_given (tid_of c.args.item.now) (Err c.in-Some.refusal) (set_reply c.args.self.now c.args.path.now c.args.index c.args.item.now)
    (path ∙ set_refused c.args.self.now c.names-names.result.now c.args.index c.args.item.now c.in_ok-key.key.number c.in_ok-key.key.value.now c.set_fault.result c.in-Some.refusal key c.set_fault.ensures c.in-Some.is)

pub returns-clause-reply : goal.returns-clause-reply
returns-clause-reply c =
    let key : seek_key c.args.self.now.rows c.names-names.result.now ≡ Ok (c.in_ok-key.key.number, c.in_ok-key.key.value.now) =
    subst (λ (rows : List Row). seek_key rows c.names-names.result.now ≡ Ok (c.in_ok-key.key.number, c.in_ok-key.key.value.now)) (c.as_slice.ensures.value ∙ ap (λ (s : Rows). s.rows) c.self.view_is) c.in_ok-key.ensures.found in
    let path : set_reply c.args.self.now c.args.path.now c.args.index c.args.item.now ≡ set_reply c.args.self.now c.names-names.result.now c.args.index c.args.item.now =
    ap (λ (p : List (List ℕ)). set_reply c.args.self.now p c.args.index c.args.item.now) (sym c.names-names.ensures.names) in
    item_given (tid_of c.args.item.now) (Ok c.in_ok-key.key.number) (set_reply c.args.self.now c.args.path.now c.args.index c.args.item.now)
    (path ∙ set_replied c.args.self.now c.names-names.result.now c.args.index c.args.item.now c.in_ok-key.key.number c.in_ok-key.key.value.now c.set_fault.result key c.set_fault.ensures c.in_default.is)

pub returns-clause-after : goal.returns-clause-after
returns-clause-after c =
    set_left (plain_rows c.self.inside) c.names-names.result.now c.args.index c.args.item.now c.in_ok-item.item c.put_at.new.rows.items c.in_ok-item.ensures.item c.put_at.ensures
    ∙ (ap (λ (p : List (List ℕ)). after_set (plain_rows c.self.inside) p c.args.index c.args.item.now) c.names-names.ensures.names
    ∙ ap (λ (s : Rows). after_set s c.args.path.now c.args.index c.args.item.now) c.self.view_is)
