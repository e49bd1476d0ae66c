-- What a reply of the database says of the refusal.
use Rattle.std.proofs.Common.{◌≡◌, ◌≢◌, ℕ, Bool, true, false, cond, List, Option, Some, None, Result, Ok, Err, refl, sym, ap, ◌∙◌}
use Rattle.odb_tree.specs.declared.rows.NewKey.TheVariants.{Dir}
use Rattle.odb_tree.specs.declared.refusals.OdbRefusal.TheVariants.{NoMemory as no_memory}
use Rattle.odb_tree.specs.Rows.{Rows}
use Rattle.odb_tree.specs.Lookups.{seek_key}
use Rattle.odb_tree.specs.Links.{resolved, through}
use Rattle.odb_text.specs.TextSteps.{fault_through, there_already, is_exists, make_fault_by, make_fault}
use Rattle.odb_tree.specs.declared.refusals.OdbRefusal.{OdbRefusal}
use Rattle.odb_tree.specs.Calls.{reply_or, create_fault, create_reply}
use Rattle.odb_tree.specs.Making.{new_number}

pub reply_ok : (fault : Option OdbRefusal) (number n : ℕ) → reply_or fault number ≡ Ok n → fault ≡ None
reply_ok None number n e = refl
reply_ok (Some why) number n e = absurd (cc)

pub reply_err : (fault : Option OdbRefusal) (number : ℕ) (why : OdbRefusal) → reply_or fault number ≡ Err why → fault ≡ Some why
reply_err None number why e = absurd (cc)
reply_err (Some other) number why e = (let same : other ≡ why = cc in ap (λ (r : OdbRefusal). Some r) same)

-- what the reply of `create` says of the path after its links

pub dir_made : (s : Rows) (r : Result (List (List ℕ)) OdbRefusal) (n : ℕ) → through r (λ q. create_reply s q Dir) ≡ Ok n → fault_through r (λ q. create_fault s q Dir) ≡ None
dir_made s (Ok q) n h = reply_ok (create_fault s q Dir) (new_number s q) n h
dir_made s (Err why) n h = absurd (cc)

pub dir_refused : (s : Rows) (r : Result (List (List ℕ)) OdbRefusal) (why : OdbRefusal) → through r (λ q. create_reply s q Dir) ≡ Err why → fault_through r (λ q. create_fault s q Dir) ≡ Some why
dir_refused s (Ok q) why h = reply_err (create_fault s q Dir) (new_number s q) why h
dir_refused s (Err other) why h = (let same : other ≡ why = cc in ap (λ (x : OdbRefusal). Some x) same)

pub exists_settled : (why : OdbRefusal) → is_exists why ≡ true → why ≢ no_memory
exists_settled why h e = let same : is_exists no_memory ≡ true = sym (ap is_exists e) ∙ h in cc

-- what is there already decides where `create` says so, and else what `create` says
pub make_there : (s : Rows) (p : List (List ℕ)) (why : OdbRefusal) → is_exists why ≡ true → (why ≢ no_memory → through (resolved s p false) (λ q. create_reply s q Dir) ≡ Err why)
    → make_fault s p ≡ there_already (through (resolved s p false) (λ q. seek_key s.rows q))
make_there s p why there reply =
    ap (make_fault_by s p) (dir_refused s (resolved s p false) why (reply (exists_settled why there)))
    ∙ ap (λ (t : Bool). cond t (there_already (through (resolved s p false) (λ q. seek_key s.rows q))) (Some why)) there

pub make_other : (s : Rows) (p : List (List ℕ)) (why : OdbRefusal) → is_exists why ≡ false → through (resolved s p false) (λ q. create_reply s q Dir) ≡ Err why → make_fault s p ≡ Some why
make_other s p why other reply =
    ap (make_fault_by s p) (dir_refused s (resolved s p false) why reply)
    ∙ ap (λ (t : Bool). cond t (there_already (through (resolved s p false) (λ q. seek_key s.rows q))) (Some why)) other
