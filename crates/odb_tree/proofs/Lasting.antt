-- Look-ups are never refused for want of memory, and neither is the `set` of a number where no link is met.
use Rattle.std.proofs.Common.{◌≡◌, ◌≢◌, ℕ, Bool, true, false, cond, eqb, ltb, List, [], ◌∷◌, ◌++◌, length, Option, Some, None, Result, Ok, Err, refl, sym, ap, ◌∙◌}
use Rattle.std.specs.Option.{option_or, option_map}
use Rattle.daq_types.specs.declared.types.Tid.{Tid}
use Rattle.daq_types.specs.declared.types.Tid.TheVariants as tid
use Rattle.daq_types.specs.Tids.{tid_code}
use Rattle.odb_value.specs.declared.items.Item.{Item}
use Rattle.odb_value.specs.Items.{tid_of}
use Rattle.odb_value.specs.Values.{HeldValue}
use Rattle.odb_tree.specs.declared.rows.Row.{Row}
use Rattle.odb_tree.specs.declared.refusals.OdbRefusal.{OdbRefusal}
use Rattle.odb_tree.specs.declared.refusals.OdbRefusal.TheVariants.{NoKey, NotDir, TypeMismatch, BadIndex, Limit, NoMemory}
use Rattle.odb_tree.specs.declared.refusals.What.{What}
use Rattle.odb_tree.specs.declared.entry.DatabaseEntry.TheVariants.{Set, Find}
use Rattle.odb_tree.specs.Rows.{Rows, row_at, is_key}
use Rattle.odb_tree.specs.Links.{resolved, meets_link, through}
use Rattle.odb_tree.specs.Calls.{reply_or, type_fault, index_fault, set_fault, set_reply, set_reply_to, number_reply, find_reply, GivesIf, GivesItem, IsRowsReply}
use Rattle.odb_tree.proofs.Led.{resolved_unmet}
use Rattle.odb_tree.specs.Lookups.{obstacle_at, obstacle_from, obstacle_to, parent_of, found_row, seek, key_of, key_or_refusal, seek_key, not_there, absent_fault}

pub at_key : (t : Bool) → cond t (Some NotDir) None ≡ Some NoMemory → ⊥
at_key true h = cc
at_key false h = cc

at_row : (o : Option Row) → obstacle_at (Some NoKey) o ≡ Some NoMemory → ⊥
at_row None h = cc
at_row (Some r) h = at_key (is_key r) h

pub either : (a b : Option OdbRefusal) → (a ≡ Some NoMemory → ⊥) → (b ≡ Some NoMemory → ⊥) → option_or a b ≡ Some NoMemory → ⊥
either None b h k e = k e
either (Some x) b h k e = h e

on_way : (rows : List Row) (reached names : List (List ℕ)) → obstacle_from (Some NoKey) rows reached names ≡ Some NoMemory → ⊥
on_way rows reached [] h = cc
on_way rows reached (name ∷ names) h =
    either (obstacle_at (Some NoKey) (row_at rows (reached ++ name ∷ []))) (obstacle_from (Some NoKey) rows (reached ++ name ∷ []) names)
    (at_row (row_at rows (reached ++ name ∷ []))) (on_way rows (reached ++ name ∷ []) names) h

found : (o : Option OdbRefusal) (r : Option Row) → (o ≡ Some NoMemory → ⊥) → found_row o r ≡ Err NoMemory → ⊥
found None None h e = cc
found None (Some r) h e = cc
found (Some x) r h e = let same : Some x ≡ Some NoMemory = cc in h same

pub sought : (rows : List Row) (p : List (List ℕ)) → seek rows p ≡ Err NoMemory → ⊥
sought rows p h = found (obstacle_to rows p) (row_at rows p) (on_way rows [] (parent_of p)) h

of_value : (number : ℕ) (o : Option HeldValue) → key_of number o ≡ Err NoMemory → ⊥
of_value number None e = cc
of_value number (Some v) e = cc

of_found : (r : Result Row OdbRefusal) → (r ≡ Err NoMemory → ⊥) → key_or_refusal r ≡ Err NoMemory → ⊥
of_found (Ok r) h e = of_value r.number r.value e
of_found (Err x) h e = let same : x ≡ NoMemory = cc in h (ap (λ (z : OdbRefusal). Err z) same)

pub sought_key : (rows : List Row) (p : List (List ℕ)) → seek_key rows p ≡ Err NoMemory → ⊥
sought_key rows [] e = cc
sought_key rows (name ∷ names) e = of_found (seek rows (name ∷ names)) (sought rows (name ∷ names)) e

pub absent : (rows : List Row) (p : List (List ℕ)) → absent_fault rows p ≡ Some NoMemory → ⊥
absent rows [] e = cc
absent rows (name ∷ names) e = cases (seek rows (name ∷ names)) (sought rows (name ∷ names)) e
  where
    cases : (r : Result Row OdbRefusal) → (r ≡ Err NoMemory → ⊥) → not_there r ≡ Some NoMemory → ⊥
    cases (Ok r) h k = cc
    cases (Err x) h k = let same : x ≡ NoMemory = cc in h (ap (λ (z : OdbRefusal). Err z) same)

-- so neither is the call that hands their refusal on
pub handed : {X Y : Type 0} (x : OdbRefusal) (found : Result Y OdbRefusal) (reply : Result X OdbRefusal) → found ≡ Err x → (found ≡ Err NoMemory → ⊥) → reply ≡ Err x → reply ≡ Err NoMemory → ⊥
handed x found reply is h same e = let memory : x ≡ NoMemory = cc in h (is ∙ ap (λ (z : OdbRefusal). Err z) memory)

pub refusal_is : {X : Type 0} (reply : Result X OdbRefusal) (x : OdbRefusal) → reply ≡ Err x → reply ≡ Err NoMemory → x ≡ NoMemory
refusal_is reply x is e = cc

-- An item that is written is not refused so either, nor a path that is found.

pub unless : (t : Bool) (x : OdbRefusal) → (x ≡ NoMemory → ⊥) → cond t None (Some x) ≡ Some NoMemory → ⊥
unless true x h e = cc
unless false x h e = let same : x ≡ NoMemory = cc in h same

pub of_limit : (o : Option What) → option_map Limit o ≡ Some NoMemory → ⊥
of_limit None e = cc
of_limit (Some what) e = cc

set_faults : (s : Rows) (p : List (List ℕ)) (index : ℕ) (item : Item) (v : HeldValue) → set_fault s p index item v ≡ Some NoMemory → ⊥
set_faults s p index item v =
    either (type_fault v.tid (tid_of item)) _ (unless (eqb (tid_code v.tid) (tid_code (tid_of item))) (TypeMismatch v.tid) (λ e. cc))
    (either (index_fault (length v.items) index) _ (unless (ltb index (length v.items)) (BadIndex (length v.items)) (λ e. cc)) (of_limit _))

pub of_fault : (o : Option OdbRefusal) (number : ℕ) → (o ≡ Some NoMemory → ⊥) → reply_or o number ≡ Err NoMemory → ⊥
of_fault None number h e = cc
of_fault (Some x) number h e = let same : Some x ≡ Some NoMemory = cc in h same

pub set_lasts : (s : Rows) (p : List (List ℕ)) (index : ℕ) (item : Item) → set_reply s p index item ≡ Err NoMemory → ⊥
set_lasts s p index item e = from (seek_key s.rows p) (sought_key s.rows p) e
  where
    from : (r : Result (ℕ × HeldValue) OdbRefusal) → (r ≡ Err NoMemory → ⊥) → set_reply_to s p index item r ≡ Err NoMemory → ⊥
    from (Ok key) h k = of_fault (set_fault s p index item key.1) key.0 (set_faults s p index item key.1) k
    from (Err x) h k = let same : x ≡ NoMemory = cc in h (ap (λ (z : OdbRefusal). Err z) same)

find_lasts : (s : Rows) (p : List (List ℕ)) → find_reply s p ≡ Err NoMemory → ⊥
find_lasts s [] e = cc
find_lasts s (name ∷ names) e = from (seek s.rows (name ∷ names)) (sought s.rows (name ∷ names)) e
  where
    from : (r : Result Row OdbRefusal) → (r ≡ Err NoMemory → ⊥) → number_reply r ≡ Err NoMemory → ⊥
    from (Ok row) h k = cc
    from (Err x) h k = let same : x ≡ NoMemory = cc in h (ap (λ (z : OdbRefusal). Err z) same)

-- where no link is met on the path

given_if : (type : Tid) (given reply : Result ℕ OdbRefusal) → type ≢ tid.Text → GivesItem false type given reply → given ≡ reply
given_if tid.Text given reply other h = absurd (other refl)
given_if _ given reply other h = h

at_path : {X : Type 0} (s : Rows) (p : List (List ℕ)) (reply : List (List ℕ) → Result X OdbRefusal) → meets_link s p true ≡ false → (reply p ≡ Err NoMemory → ⊥) → through (resolved s p true) reply ≡ Err NoMemory → ⊥
at_path {X} s p reply none lasts e = lasts (sym (ap (λ (r : Result (List (List ℕ)) OdbRefusal). through r reply) (resolved_unmet s p true none)) ∙ e)

pub set_memory : (s : Rows) (p : List (List ℕ)) (index : ℕ) (item : Item) → tid_of item ≢ tid.Text → IsRowsReply s (Set p index item (Err NoMemory)) → meets_link s p true ≡ true
set_memory s p index item other h = from (meets_link s p true) refl h
  where
    reply : Result ℕ OdbRefusal
    reply = through (resolved s p true) (λ q. set_reply s q index item)

    from : (met : Bool) → meets_link s p true ≡ met → GivesItem met (tid_of item) (Err NoMemory) reply → met ≡ true
    from true e k = refl
    from false e k = absurd (at_path s p (λ q. set_reply s q index item) e (set_lasts s p index item) (sym (given_if (tid_of item) (Err NoMemory) reply other k)))

pub find_memory : (s : Rows) (p : List (List ℕ)) → IsRowsReply s (Find p (Err NoMemory)) → meets_link s p true ≡ true
find_memory s p h = from (meets_link s p true) refl h
  where
    reply : Result ℕ OdbRefusal
    reply = through (resolved s p true) (λ q. find_reply s q)

    from : (met : Bool) → meets_link s p true ≡ met → GivesIf met (Err NoMemory) reply → met ≡ true
    from true e k = refl
    from false e k = absurd (at_path s p (λ q. find_reply s q) e (find_lasts s p) (sym k))
