-- Want of memory excuses no refusal: what the rows refuse, they refuse for other reasons.
use Rattle.std.proofs.Common.{◌≡◌, ℕ, Bool, true, false, cond, eqb, ltb, ◌||◌, List, [], ◌∷◌, ◌++◌, length, Option, Some, None, Result, Ok, Err, refl, sym, ap, ◌∙◌, subst}
use Rattle.std.specs.Prelude.{IsOk}
use Rattle.std.specs.Option.{is_some}
use Rattle.daq_types.specs.declared.types.Tid.{Tid}
use Rattle.daq_types.specs.declared.types.Tid.TheVariants as tid
use Rattle.daq_types.specs.Tids.{tid_code}
use Rattle.odb_value.specs.declared.items.Item.{Item}
use Rattle.odb_value.specs.Items.{tid_of, is_kept}
use Rattle.odb_value.specs.Values.{HeldValue}
use Rattle.odb_value.specs.LinkValues.{is_link_type}
use Rattle.odb_tree.specs.declared.rows.Row.{Row}
use Rattle.odb_tree.specs.declared.rows.NewKey.{NewKey}
use Rattle.odb_tree.specs.declared.rows.NewKey.TheVariants.{Dir, Keys, Link}
use Rattle.odb_tree.specs.declared.refusals.OdbRefusal.{OdbRefusal}
use Rattle.odb_tree.specs.declared.refusals.OdbRefusal.TheVariants.{Exists, NotDir, NotValue, NotKept, TypeMismatch, NoMemory}
use Rattle.odb_tree.specs.declared.entry.DatabaseEntry.TheVariants.{Create, Set, SetAll, Get, ListDir, Resize}
use Rattle.odb_tree.specs.Rows.{Rows, row_at, is_key}
use Rattle.odb_tree.specs.Links.{resolved, meets_link, through}
use Rattle.odb_tree.specs.Lookups.{obstacle_at, obstacle_from, obstacle_to_new, parent_of, seek, seek_key, not_dir, dir_fault}
use Rattle.odb_tree.specs.Making.{new_number}
use Rattle.odb_tree.specs.Calls.{exists_fault, tid_fault, link_fault, kept_fault, create_fault, create_reply, set_reply, directory_fault, value_fault, replace_fault, there_fault, set_all_fault, set_all_reply, number_at, put_fault, put_reply, resize_reply, resize_reply_to, value_reply, get_reply, children_or, list_reply, makes_link, Gives, GivesTaking, GivesItem, IsRowsReply}
use Rattle.odb_tree.proofs.Led.{resolved_unmet}
use Rattle.odb_tree.proofs.Lasting.{at_key, either, sought, sought_key, unless, of_limit, of_fault, set_lasts}

-- no refusal is want of memory

row_lasts : (o : Option Row) → obstacle_at None o ≡ Some NoMemory → ⊥
row_lasts None e = cc
row_lasts (Some r) e = at_key (is_key r) e

way_lasts : (rows : List Row) (reached names : List (List ℕ)) → obstacle_from None rows reached names ≡ Some NoMemory → ⊥
way_lasts rows reached [] e = cc
way_lasts rows reached (name ∷ names) e =
    either (obstacle_at None (row_at rows (reached ++ name ∷ []))) (obstacle_from None rows (reached ++ name ∷ []) names)
    (row_lasts (row_at rows (reached ++ name ∷ []))) (way_lasts rows (reached ++ name ∷ []) names) e

exists_lasts : (rows : List Row) (p : List (List ℕ)) → exists_fault rows p ≡ Some NoMemory → ⊥
exists_lasts rows [] e = cc
exists_lasts rows (name ∷ names) e = at (is_some (row_at rows (name ∷ names))) e
  where
    at : (b : Bool) → cond b (Some Exists) None ≡ Some NoMemory → ⊥
    at true k = cc
    at false k = cc

type_lasts : (type : Tid) → tid_fault type ≡ Some NoMemory → ⊥
type_lasts type = unless (is_kept type) (NotKept type) (λ e. cc)

link_lasts : (links : Bool) (type : Tid) → link_fault links type ≡ Some NoMemory → ⊥
link_lasts false type e = type_lasts type e
link_lasts true tid.Link e = cc
link_lasts true type e = type_lasts type e

kept_lasts : (links : Bool) (kind : NewKey) → kept_fault links kind ≡ Some NoMemory → ⊥
kept_lasts links Dir e = cc
kept_lasts links (Keys type len) e = type_lasts type e
kept_lasts links (Link target) e = link_lasts links tid.Link e

create_lasts : (s : Rows) (p : List (List ℕ)) (kind : NewKey) → create_reply s p kind ≡ Err NoMemory → ⊥
create_lasts s p kind =
    of_fault (create_fault s p kind) (new_number s p) (either (obstacle_to_new s.rows p) _ (way_lasts s.rows [] (parent_of p))
    (either (exists_fault s.rows p) _ (exists_lasts s.rows p) (either (kept_fault s.links kind) _ (kept_lasts s.links kind) (of_limit _))))

directory_lasts : (o : Option Row) → directory_fault o ≡ Some NoMemory → ⊥
directory_lasts None e = cc
directory_lasts (Some r) e = unless (is_key r) NotValue (λ k. cc) e

value_lasts : (rows : List Row) (p : List (List ℕ)) → value_fault rows p ≡ Some NoMemory → ⊥
value_lasts rows [] e = cc
value_lasts rows (name ∷ names) e = directory_lasts (row_at rows (name ∷ names)) e

replace_lasts : (given : Tid) (o : Option HeldValue) → replace_fault given o ≡ Some NoMemory → ⊥
replace_lasts given None e = cc
replace_lasts given (Some v) e = unless (eqb (tid_code v.tid) (tid_code given)) (TypeMismatch v.tid) (λ k. cc) e

there_lasts : (given : Tid) (o : Option Row) → there_fault given o ≡ Some NoMemory → ⊥
there_lasts given None e = cc
there_lasts given (Some r) e = replace_lasts given r.value e

set_all_lasts : (s : Rows) (p : List (List ℕ)) (v : HeldValue) → set_all_reply s p v ≡ Err NoMemory → ⊥
set_all_lasts s p v =
    of_fault (set_all_fault s p v) (number_at s p (row_at s.rows p)) (either (obstacle_to_new s.rows p) _ (way_lasts s.rows [] (parent_of p))
    (either (value_fault s.rows p) _ (value_lasts s.rows p) (either (tid_fault v.tid) _ (type_lasts v.tid) (either (there_fault v.tid (row_at s.rows p)) _ (there_lasts v.tid (row_at s.rows p)) (of_limit _)))))

put_lasts : (s : Rows) (p : List (List ℕ)) (v : HeldValue) → put_reply s p v ≡ Err NoMemory → ⊥
put_lasts s p v =
    of_fault (put_fault s p v) (number_at s p (row_at s.rows p)) (either (obstacle_to_new s.rows p) _ (way_lasts s.rows [] (parent_of p))
    (either (value_fault s.rows p) _ (value_lasts s.rows p) (either (link_fault s.links v.tid) _ (link_lasts s.links v.tid) (either (there_fault v.tid (row_at s.rows p)) _ (there_lasts v.tid (row_at s.rows p)) (of_limit _)))))

resize_lasts : (s : Rows) (p : List (List ℕ)) (len : ℕ) → resize_reply s p len ≡ Err NoMemory → ⊥
resize_lasts s p len e = from (seek_key s.rows p) (sought_key s.rows p) e
  where
    from : (r : Result (ℕ × HeldValue) OdbRefusal) → (r ≡ Err NoMemory → ⊥) → resize_reply_to s p len r ≡ Err NoMemory → ⊥
    from (Ok key) h k = of_fault _ key.0 (of_limit _) k
    from (Err x) h k = let same : x ≡ NoMemory = cc in h (ap (λ (z : OdbRefusal). Err z) same)

get_lasts : (s : Rows) (p : List (List ℕ)) → get_reply s p ≡ Err NoMemory → ⊥
get_lasts s p e = from (seek_key s.rows p) (sought_key s.rows p) e
  where
    from : (r : Result (ℕ × HeldValue) OdbRefusal) → (r ≡ Err NoMemory → ⊥) → value_reply r ≡ Err NoMemory → ⊥
    from (Ok key) h k = cc
    from (Err x) h k = let same : x ≡ NoMemory = cc in h (ap (λ (z : OdbRefusal). Err z) same)

list_lasts : (s : Rows) (p : List (List ℕ)) → list_reply s p ≡ Err NoMemory → ⊥
list_lasts s p e = of_children (dir_fault s.rows p) (dir_lasts p) e
  where
    of_row : (r : Result Row OdbRefusal) → (r ≡ Err NoMemory → ⊥) → not_dir r ≡ Some NoMemory → ⊥
    of_row (Ok r) h k = at_key (is_key r) k
    of_row (Err x) h k = let same : x ≡ NoMemory = cc in h (ap (λ (z : OdbRefusal). Err z) same)

    dir_lasts : (q : List (List ℕ)) → dir_fault s.rows q ≡ Some NoMemory → ⊥
    dir_lasts [] k = cc
    dir_lasts (name ∷ names) k = of_row (seek s.rows (name ∷ names)) (sought s.rows (name ∷ names)) k

    of_children : (o : Option OdbRefusal) → (o ≡ Some NoMemory → ⊥) → children_or s.rows p o ≡ Err NoMemory → ⊥
    of_children None h k = cc
    of_children (Some x) h k = let same : Some x ≡ Some NoMemory = cc in h same

-- so where no memory is taken early, what answers it is accepted

accepted : {X : Type 0} (due : Result X OdbRefusal) → (due ≡ Err NoMemory → ⊥) → Gives (Err NoMemory) due → IsOk due
accepted (Ok x) lasts h = refl
accepted (Err why) lasts h = absurd (lasts (h.1 refl))

excused : {X : Type 0} (early : Bool) (due : Result X OdbRefusal) → early ≡ false → (due ≡ Err NoMemory → ⊥) → GivesTaking early (Err NoMemory) due → IsOk due
excused true due none lasts h = absurd (cc)
excused false due none lasts h = accepted due lasts h

excused_at : {X : Type 0} (early : Bool) (s : Rows) (p : List (List ℕ)) (last : Bool) (reply : List (List ℕ) → Result X OdbRefusal) → early ≡ false → meets_link s p last ≡ false → (reply p ≡ Err NoMemory → ⊥)
    → GivesTaking early (Err NoMemory) (through (resolved s p last) reply) → IsOk (reply p)
excused_at {X} early s p last reply none unmet lasts h =
    let same : through (resolved s p last) reply ≡ reply p = ap (λ (r : Result (List (List ℕ)) OdbRefusal). through r reply) (resolved_unmet s p last unmet) in
    excused early (reply p) none lasts (subst (λ (r : Result X OdbRefusal). GivesTaking early (Err NoMemory) r) same h)

neither : (made met : Bool) → made ≡ false → met ≡ false → (made || met) ≡ false
neither true met h k = h
neither false met h k = k

pub create_excused : (s : Rows) (p : List (List ℕ)) (kind : NewKey) → makes_link kind ≡ false → meets_link s p false ≡ false → IsRowsReply s (Create p kind (Err NoMemory)) → IsOk (create_reply s p kind)
create_excused s p kind plain unmet h =
    excused_at (makes_link kind || meets_link s p false) s p false (λ q. create_reply s q kind) (neither (makes_link kind) (meets_link s p false) plain unmet) unmet (create_lasts s p kind) h

pub set_excused : (s : Rows) (p : List (List ℕ)) (index : ℕ) (item : Item) → meets_link s p true ≡ false → IsRowsReply s (Set p index item (Err NoMemory)) → IsOk (set_reply s p index item)
set_excused s p index item unmet h =
    let same : through (resolved s p true) (λ q. set_reply s q index item) ≡ set_reply s p index item = ap (λ (r : Result (List (List ℕ)) OdbRefusal). through r (λ q. set_reply s q index item)) (resolved_unmet s p true unmet) in
    of_item (tid_of item) (set_reply s p index item) (set_lasts s p index item)
    (subst (λ (r : Result ℕ OdbRefusal). GivesItem false (tid_of item) (Err NoMemory) r) same (subst (λ (b : Bool). GivesItem b (tid_of item) (Err NoMemory) (through (resolved s p true) (λ q. set_reply s q index item))) unmet h))
  where
    of_item : (type : Tid) (due : Result ℕ OdbRefusal) → (due ≡ Err NoMemory → ⊥) → GivesItem false type (Err NoMemory) due → IsOk due
    of_item tid.Text due lasts k = accepted due lasts k
    of_item _ due lasts k = absurd (lasts (sym k))

pub set_all_excused : (s : Rows) (p : List (List ℕ)) (v : HeldValue) → meets_link s p true ≡ false → IsRowsReply s (SetAll p v (Err NoMemory)) → IsOk (set_all_reply s p v)
set_all_excused s p v unmet h = excused_at (meets_link s p true) s p true (λ q. set_all_reply s q v) unmet unmet (set_all_lasts s p v) h

pub put_excused : (s : Rows) (p : List (List ℕ)) (v : HeldValue) → is_link_type v.tid ≡ false → GivesTaking (is_link_type v.tid) (Err NoMemory) (put_reply s p v) → IsOk (put_reply s p v)
put_excused s p v plain h = excused (is_link_type v.tid) (put_reply s p v) plain (put_lasts s p v) h

pub resize_excused : (s : Rows) (p : List (List ℕ)) (len : ℕ) → meets_link s p true ≡ false → IsRowsReply s (Resize p len (Err NoMemory)) → IsOk (resize_reply s p len)
resize_excused s p len unmet h = excused_at (meets_link s p true) s p true (λ q. resize_reply s q len) unmet unmet (resize_lasts s p len) h

pub get_excused : (s : Rows) (p : List (List ℕ)) → meets_link s p true ≡ false → IsRowsReply s (Get p (Err NoMemory)) → IsOk (get_reply s p)
get_excused s p unmet h = excused_at (meets_link s p true) s p true (λ q. get_reply s q) unmet unmet (get_lasts s p) h

pub list_excused : (s : Rows) (p : List (List ℕ)) → meets_link s p true ≡ false → IsRowsReply s (ListDir p (Err NoMemory)) → IsOk (list_reply s p)
list_excused s p unmet h = excused_at (meets_link s p true) s p true (λ q. list_reply s q) unmet unmet (list_lasts s p) h
