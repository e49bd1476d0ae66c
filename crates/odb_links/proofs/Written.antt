-- Links made, written and read at the path as it is.
use Rattle.std.proofs.Common.{◌≡◌, ◌≢◌, ℕ, ◌+◌, ◌<◌, ◌≤◌, Bool, true, false, cond, eqb, ltb, List, [], ◌∷◌, ◌++◌, length, Option, Some, None, Result, Ok, Err, ◌⊎◌, inl, inr, refl, sym, ap, ◌∙◌, subst, arith}
use Rattle.std.specs.Prelude.{All, IsTrue, IsErr}
use Rattle.std.specs.Option.{option_or, option_map, is_some}
use Rattle.std.specs.List.{flat_map}
use Rattle.std.proofs.lemmas.Bool.Decides.{nat_tests}
use Rattle.std.proofs.lemmas.List.{length-map}
use Rattle.std.proofs.lemmas.List.Elements.{All-nil, All-cons, All-head, All-tail, All-append}
use Rattle.daq_types.specs.Names.{IsName, is_outside}
use Rattle.daq_types.specs.Tids.{tid_code}
use Rattle.daq_types.specs.declared.types.Tid.{Tid}
use Rattle.daq_types.specs.declared.types.Tid.TheVariants as tid
use Rattle.odb_value.specs.Paths.{IsPath}
use Rattle.odb_value.specs.PathText.{path_text, path_reply}
use Rattle.odb_value.specs.ItemBytes.{is_text_byte, IsText as AreTextBytes}
use Rattle.odb_value.specs.ItemTexts.{text_limit}
use Rattle.odb_value.specs.declared.items.Item.TheVariants.{Text}
use Rattle.odb_value.specs.Values.{HeldValue, IsValue}
use Rattle.odb_value.specs.LinkValues.{IsLink, IsValueOrLink, is_link_type, link_to}
use Rattle.odb_value.specs.ValueChanges.{new_held}
use Rattle.odb_value.proofs.PathAgain.{NoneOutside, name_none_outside, path_again}
use Rattle.odb_value.proofs.ValueKept.{is_kept-value}
use Rattle.odb_tree.specs.declared.rows.Row.{Row}
use Rattle.odb_tree.specs.declared.rows.NewKey.{NewKey}
use Rattle.odb_tree.specs.declared.rows.NewKey.TheVariants.{Keys, Link as new_link}
use Rattle.odb_tree.specs.declared.entry.DatabaseEntry.TheVariants.{Create}
use Rattle.odb_tree.specs.declared.notes.Watch.{Watch}
use Rattle.odb_tree.specs.declared.refusals.OdbRefusal.{OdbRefusal}
use Rattle.odb_tree.specs.declared.refusals.OdbRefusal.TheVariants.{Exists, NoKey, NotDir, NotValue, TypeMismatch, Limit, NoMemory}
use Rattle.odb_tree.specs.declared.refusals.What.{What}
use Rattle.odb_tree.specs.declared.refusals.What.TheVariants.{Items, Size, Keys as KeyCount}
use Rattle.odb_value.specs.Items.{is_kept}
use Rattle.odb_tree.specs.Databases.{IsHeld}
use Rattle.odb_tree.specs.Rows.{Rows, row_at, is_key, change_row}
use Rattle.odb_tree.specs.Limits.{rows_limit, limit_fault}
use Rattle.odb_tree.specs.Lookups.{parent_of, obstacle_at, obstacle_from, obstacle_to_new, found_row, key_of, key_or_refusal, seek, seek_key}
use Rattle.odb_tree.specs.Making.{new_number, created}
use Rattle.odb_tree.specs.Links.{target_of_items, path_or_root, is_link_value}
use Rattle.odb_tree.specs.Calls.{Gives, GivesTaking, rows_there, reply_or, exists_fault, items_fault, create_reply, after_create, value_fault, directory_fault, link_fault, replace_fault, there_fault, own_fault, number_at, after_set_all_at, after_set_all, put_reply, after_put, value_reply, get_reply, raw_reply}
use Rattle.odb_tree.specs.Noting.{all_noted, changes_for, changes_of_put}
use Rattle.odb_tree.proofs.EachRow.{row_has}
use Rattle.odb_tree.proofs.Noted.{none_noted}
use Rattle.odb_tree.proofs.Limited.{new_counts}
use Rattle.odb_tree.specs.Trees.{IsTree}
use Rattle.odb_tree.proofs.Led.{no_link_row, value_no_link, tight}
use Rattle.odb_tree.proofs.Sound.{database_put}
use Rattle.odb_links.specs.declared.links.Link.{Link}
use Rattle.odb_links.specs.Seen.{link_numbered, is_linked, typed, as_seen, seen, IsRight, AreLinks}
use Rattle.odb_links.specs.Writing.{RowAt, IsFreeOfLinks, as_size, text_held, IsTextTo}
use Rattle.odb_links.proofs.Retyped.{row_mapped, obstacle_mapped, exists_mapped, seek_mapped, sought}
use Rattle.odb_links.proofs.Above.{nothing_before, root_free}
use Rattle.odb_links.proofs.Marked.{seen_retypes, seen_plain, seen_linked, right_at}
use Rattle.odb_links.proofs.Replies.{created_plain, set_all_leaves, write_same}
use Rattle.odb_links.proofs.SeenCalls.{notes_seen, right_written}

-- texts of paths

text_byte : (b : ℕ) → is_outside b ≡ false → IsTrue (is_text_byte b)
text_byte b h = grind (arith, nat_tests, h)

bytes_in_name : (bs : List ℕ) → NoneOutside bs → AreTextBytes bs
bytes_in_name [] h = All-nil (λ b. IsTrue (is_text_byte b))
bytes_in_name (b ∷ bs) h = All-cons (λ b. IsTrue (is_text_byte b)) b bs (text_byte b h.0) (bytes_in_name bs h.1)

bytes_in_names : (names : List (List ℕ)) → All IsName names → AreTextBytes (flat_map (λ (n : List ℕ). 47 ∷ n) names)
bytes_in_names [] h = All-nil (λ b. IsTrue (is_text_byte b))
bytes_in_names (n ∷ ns) h =
    All-append (λ b. IsTrue (is_text_byte b)) (47 ∷ n) (flat_map (λ (n : List ℕ). 47 ∷ n) ns)
    (All-cons (λ b. IsTrue (is_text_byte b)) 47 n refl (bytes_in_name n (name_none_outside n (All-head IsName n ns h)))) (bytes_in_names ns (All-tail IsName n ns h))

pub path_is_text : (p : List (List ℕ)) → IsPath p → AreTextBytes (path_text p)
path_is_text [] h = All-cons (λ b. IsTrue (is_text_byte b)) 47 [] refl (All-nil (λ b. IsTrue (is_text_byte b)))
path_is_text (n ∷ ns) h = bytes_in_names (n ∷ ns) h.names

pub link_sound : (target : List (List ℕ)) → IsPath target → length (path_text target) ≤ text_limit → IsLink (typed tid.Link (text_held (path_text target)))
link_sound target path short = record {
  of_type = refl;
  text = path_text target;
  one = refl;
  target = target;
  path = path;
  reads = path_again target path;
  short = short;
  size = refl;
}

pub link_goes : (target : List (List ℕ)) → IsPath target → target_of_items (text_held (path_text target)).items ≡ target
link_goes target path = ap path_or_root (path_again target path)

-- a link's value is its text with the type LINK
pub typed_text : (v : HeldValue) (text : List ℕ) → IsLink v → v.items ≡ Text text ∷ [] → typed tid.Link (text_held text) ≡ v
typed_text v text h e =
    let k : Text text ∷ [] ≡ Text h.text ∷ [] = sym e ∙ h.one in
    let same : text ≡ h.text = cc in
    let size : length text + 1 ≡ v.size = ap (λ (t : List ℕ). length t + 1) same ∙ sym h.size in
    rw (h.of_type, e, sym size) refl

-- making a link

row_seen_none : (links : List Link) (s : Rows) (p : List (List ℕ)) → row_at s.rows p ≡ None → row_at (seen links s).rows p ≡ None
row_seen_none links s p none = row_mapped (as_seen links) (seen_retypes links) s.rows p ∙ ap (option_map (as_seen links)) none

not_longer : (n m : ℕ) → m ≤ n → ltb n m ≡ false
not_longer n m h = grind (arith, nat_tests, h)

is_longer : (n m : ℕ) → n < m → ltb n m ≡ true
is_longer n m h = grind (arith, nat_tests, h)

-- where nothing is, a link is made as its value is written
pub make_same : (links : List Link) (s : Rows) (p target : List (List ℕ)) → row_at s.rows p ≡ None → p ≢ [] → length (path_text target) ≤ text_limit
    → (create_reply (seen links s) p (new_link target) ≡ put_reply (seen links s) p (link_to target)) × (after_create (seen links s) p (new_link target) ≡ after_set_all (seen links s) p (link_to target))
make_same links s [] target none some short = absurd (some refl)
make_same links s (name ∷ names) target none some short =
    let t : Rows = seen links s in
    let p : List (List ℕ) = name ∷ names in
    let free : row_at t.rows p ≡ None = row_seen_none links s p none in
    let right : ltb text_limit (length (path_text target)) ≡ false = not_longer text_limit (length (path_text target)) short in
    let left : after_set_all t p (link_to target) ≡ created t p (Some (link_to target)) = ap (after_set_all_at t p (link_to target)) free in (
      made_as (obstacle_to_new t.rows p) (exists_fault t.rows p) (value_fault t.rows p) (there_fault tid.Link (row_at t.rows p)) (items_fault (new_link target)) (own_fault (link_to target)) (created t p (Some (link_to target)))
          (after_set_all t p (link_to target)) (new_number t p) (number_at t p (row_at t.rows p)) (ap (λ (o : Option Row). cond (is_some o) (Some Exists) None) free) (ap directory_fault free) (ap (there_fault tid.Link) free)
          (ap (λ (b : Bool). cond b (Some Size) None) right) (ap (λ (b : Bool). option_or (cond b (Some Size) None) None) right) (sym left) (sym (ap (number_at t p) free)),
      sym left,
    )
  where
    made_as : (o e v th : Option OdbRefusal) (i w : Option What) (a b : Rows) (n m : ℕ) → e ≡ None → v ≡ None → th ≡ None → i ≡ None → w ≡ None → a ≡ b → n ≡ m
        → reply_or (option_or o (option_or e (option_or None (limit_fault i a)))) n ≡ reply_or (option_or o (option_or v (option_or None (option_or th (limit_fault w b))))) m
    made_as o e v th i w a b n m ee ev et ei ew ea en = rw (ee, ev, et, ei, ew, ea, en) refl

-- what is there, is there already
pub exists_same : (links : List Link) (s : Rows) (p : List (List ℕ)) (kind : NewKey) → IsTree s → (p ≡ []) ⊎ ((r : Row) × (row_at s.rows p ≡ Some r)) → create_reply (seen links s) p kind ≡ Err Exists
exists_same links s [] kind tree h = refl
exists_same links s (name ∷ names) kind tree (inl e) = absurd (cc)
exists_same links s (name ∷ names) kind tree (inr h) =
    let p : List (List ℕ) = name ∷ names in
    let clear : obstacle_to_new (seen links s).rows p ≡ None = obstacle_mapped (as_seen links) (seen_retypes links) None s.rows [] (parent_of p) ∙ nothing_before s None p h.0 tree (omega arith) h.1 in
    let there : exists_fault (seen links s).rows p ≡ Some Exists = exists_mapped (as_seen links) (seen_retypes links) s.rows p ∙ ap (λ (o : Option Row). cond (is_some o) (Some Exists) None) h.1 in
    refused_as (obstacle_to_new (seen links s).rows p) (exists_fault (seen links s).rows p) _ (new_number (seen links s) p) clear there
  where
    refused_as : (o e rest : Option OdbRefusal) (n : ℕ) → o ≡ None → e ≡ Some Exists → reply_or (option_or o (option_or e rest)) n ≡ Err Exists
    refused_as o e rest n eo ee = rw (eo, ee) refl

-- a text that is too long

obstacle_is : (rows : List Row) (reached names : List (List ℕ)) (x : OdbRefusal) → obstacle_from None rows reached names ≡ Some x → x ≡ NotDir
obstacle_is rows reached [] x e = absurd (cc)
obstacle_is rows reached (name ∷ names) x e = at (row_at rows (reached ++ name ∷ [])) e (λ k. obstacle_is rows (reached ++ name ∷ []) names x k)
  where
    of_kind : (b : Bool) → option_or (cond b (Some NotDir) None) (obstacle_from None rows (reached ++ name ∷ []) names) ≡ Some x → (obstacle_from None rows (reached ++ name ∷ []) names ≡ Some x → x ≡ NotDir) → x ≡ NotDir
    of_kind true k ih = let same : NotDir ≡ x = cc in sym same
    of_kind false k ih = ih k

    at : (o : Option Row) → option_or (obstacle_at None o) (obstacle_from None rows (reached ++ name ∷ []) names) ≡ Some x → (obstacle_from None rows (reached ++ name ∷ []) names ≡ Some x → x ≡ NotDir) → x ≡ NotDir
    at None k ih = ih k
    at (Some r) k ih = of_kind (is_key r) k ih

exists_is : (rows : List Row) (p : List (List ℕ)) (x : OdbRefusal) → exists_fault rows p ≡ Some x → x ≡ Exists
exists_is rows [] x e = let same : Exists ≡ x = cc in sym same
exists_is rows (name ∷ names) x e = at (is_some (row_at rows (name ∷ names))) e
  where
    at : (b : Bool) → cond b (Some Exists) None ≡ Some x → x ≡ Exists
    at true k = let same : Exists ≡ x = cc in sym same
    at false k = absurd (cc)

-- the refusals of two calls, of which one tells the size and the other the items
record AreSized (a b : Result ℕ OdbRefusal) : Type 0 where
  refusal : OdbRefusal
  here : a ≡ Err (as_size refusal)
  below : b ≡ Err refusal

sized_limits : (o e : Option OdbRefusal) (count more : Bool) (n m : ℕ) → ((x : OdbRefusal) → o ≡ Some x → as_size x ≡ x) → ((x : OdbRefusal) → e ≡ Some x → as_size x ≡ x) → more ≡ count
    → AreSized (reply_or (option_or o (option_or e (option_or None (option_map Limit (cond more (Some KeyCount) (Some Size)))))) n) (reply_or (option_or o (option_or e (option_or None (option_map Limit (cond count (Some KeyCount) (Some Items)))))) m)
sized_limits (Some x) e count more n m ho he same = record { refusal = x; here = ap (λ (y : OdbRefusal). Err y) (sym (ho x refl)); below = refl }
sized_limits None (Some x) count more n m ho he same = record { refusal = x; here = ap (λ (y : OdbRefusal). Err y) (sym (he x refl)); below = refl }
sized_limits None None true more n m ho he same = record { refusal = Limit KeyCount; here = ap (λ (b : Bool). reply_or (option_map Limit (cond b (Some KeyCount) (Some Size))) n) same; below = refl }
sized_limits None None false more n m ho he same = record { refusal = Limit Items; here = ap (λ (b : Bool). reply_or (option_map Limit (cond b (Some KeyCount) (Some Size))) n) same; below = refl }

long_refused : (links : List Link) (s : Rows) (p target : List (List ℕ)) → AreLinks links s → text_limit < length (path_text target) → AreSized (create_reply (seen links s) p (new_link target)) (create_reply s p (Keys tid.Text 0))
long_refused links s p target h long =
    let t : Rows = seen links s in
    let w : HeldValue = link_to target in
    let u : HeldValue = new_held tid.Text 0 in
    let obstacle : obstacle_to_new t.rows p ≡ obstacle_to_new s.rows p = obstacle_mapped (as_seen links) (seen_retypes links) None s.rows [] (parent_of p) in
    let exists : exists_fault t.rows p ≡ exists_fault s.rows p = exists_mapped (as_seen links) (seen_retypes links) s.rows p in
    let over : ltb text_limit (length (path_text target)) ≡ true = is_longer text_limit (length (path_text target)) long in
    let a = new_counts s p (Some w) in
    let b = new_counts s p (Some u) in
    let made : length (created t p (Some w)).rows ≡ length (created s p (Some w)).rows = ap (λ (x : Rows). length x.rows) (created_plain links s p (Some w) h.order) ∙ length-map (created s p (Some w)).rows (as_seen links) in
    let count : length (created t p (Some w)).rows ≡ length (created s p (Some u)).rows = omega (arith, made, a.rows, b.rows) in
    let own : limit_fault (items_fault (new_link target)) (created t p (Some w)) ≡ option_map Limit (cond (ltb rows_limit (length (created t p (Some w)).rows)) (Some KeyCount) (Some Size)) =
    ap (λ (b : Bool). limit_fault (cond b (Some Size) None) (created t p (Some w))) over in
    let sized = sized_limits (obstacle_to_new s.rows p) (exists_fault s.rows p) (ltb rows_limit (length (created s p (Some u)).rows)) (ltb rows_limit (length (created t p (Some w)).rows)) (new_number t p) (new_number s p)
    (λ x e. ap as_size (obstacle_is s.rows [] (parent_of p) x e) ∙ sym (obstacle_is s.rows [] (parent_of p) x e)) (λ x e. ap as_size (exists_is s.rows p x e) ∙ sym (exists_is s.rows p x e))
    (ap (λ (n : ℕ). ltb rows_limit n) count) in record {
      refusal = sized.refusal;
      here = ap (λ (o : Option OdbRefusal). reply_or (option_or o (option_or (exists_fault t.rows p) (option_or None (limit_fault (items_fault (new_link target)) (created t p (Some w)))))) (new_number t p)) obstacle
          ∙ (ap (λ (o : Option OdbRefusal). reply_or (option_or (obstacle_to_new s.rows p) (option_or o (option_or None (limit_fault (items_fault (new_link target)) (created t p (Some w)))))) (new_number t p)) exists
          ∙ (ap (λ (o : Option OdbRefusal). reply_or (option_or (obstacle_to_new s.rows p) (option_or (exists_fault s.rows p) (option_or None o))) (new_number t p)) own ∙ sized.here));
      below = sized.below;
    }

pub long_same : (links : List Link) (s : Rows) (p target : List (List ℕ)) (why : OdbRefusal) → AreLinks links s → text_limit < length (path_text target) → create_reply s p (Keys tid.Text 0) ≡ Err why
    → create_reply (seen links s) p (new_link target) ≡ Err (as_size why)
long_same links s p target why h long e =
    let sized = long_refused links s p target h long in
    let k : Err why ≡ Err sized.refusal = sym e ∙ sized.below in
    let same : sized.refusal ≡ why = cc in sized.here ∙ ap (λ (x : OdbRefusal). Err (as_size x)) same

pub size_memory : (why : OdbRefusal) → as_size why ≢ NoMemory → why ≢ NoMemory
size_memory why h e = h (ap as_size e)

-- a key without items is never made
pub never_made : (s : Rows) (p : List (List ℕ)) (n : ℕ) → create_reply s p (Keys tid.Text 0) ≡ Ok n → ⊥
never_made s p n e = at (obstacle_to_new s.rows p) (exists_fault s.rows p) (ltb rows_limit (length (created s p (Some (new_held tid.Text 0))).rows)) e
  where
    at : (o x : Option OdbRefusal) (b : Bool) → reply_or (option_or o (option_or x (option_or None (option_map Limit (cond b (Some KeyCount) (Some Items)))))) (new_number s p) ≡ Ok n → ⊥
    at (Some y) x b k = cc
    at None (Some y) b k = cc
    at None None true k = cc
    at None None false k = cc

-- values over others

code_other : (type : Tid) → is_link_type type ≡ false → eqb (tid_code type) (tid_code tid.Link) ≡ false
code_other tid.Link h = absurd (cc)
code_other _ h = refl

-- the refusal of a link's value where another is, or of any other obstacle
abbrev pub other_type : Result HeldValue OdbRefusal → Result ℕ OdbRefusal
other_type (Ok v) = Err (TypeMismatch v.tid)
other_type (Err why) = Err why

pub other_put : (links : List Link) (s : Rows) (p : List (List ℕ)) (w : HeldValue) → AreLinks links s → (p ≡ []) ⊎ RowAt links s p false → w.tid ≡ tid.Link → put_reply (seen links s) p w ≡ other_type (get_reply s p)
other_put links s [] w h there type = refl
other_put links s (name ∷ names) w h (inl e) type = absurd (cc)
other_put links s (name ∷ names) w h (inr at) type =
    let p : List (List ℕ) = name ∷ names in
    let r : Row = at.row in
    let clear = λ (missing : Option OdbRefusal). nothing_before s missing p r h.database.tree (omega arith) at.there in
    let row : row_at (seen links s).rows p ≡ Some r = row_mapped (as_seen links) (seen_retypes links) s.rows p ∙ (ap (option_map (as_seen links)) at.there ∙ ap (λ (x : Row). Some x) (seen_plain links r at.is)) in
    let obstacle : obstacle_to_new (seen links s).rows p ≡ None = obstacle_mapped (as_seen links) (seen_retypes links) None s.rows [] (parent_of p) ∙ clear None in
    let sought_is : seek_key s.rows p ≡ key_of r.number r.value =
    ap (λ (o : Option OdbRefusal). key_or_refusal (found_row o (row_at s.rows p))) (clear (Some NoKey)) ∙ ap (λ (o : Option Row). key_or_refusal (found_row None o)) at.there in
    ap (λ (o : Option OdbRefusal). reply_or (option_or o (option_or (directory_fault (row_at (seen links s).rows p)) (option_or (link_fault true w.tid) (option_or (there_fault w.tid (row_at (seen links s).rows p)) (limit_fault (own_fault w) (after_set_all (seen links s) p w)))))) (number_at (seen links s) p (row_at (seen links s).rows p))) obstacle
    ∙ (ap (λ (o : Option Row). reply_or (option_or (directory_fault o) (option_or (link_fault true w.tid) (option_or (there_fault w.tid o) (limit_fault (own_fault w) (after_set_all (seen links s) p w))))) (number_at (seen links s) p (row_at (seen links s).rows p))) row
    ∙ (ap (λ (t : Tid). reply_or (option_or (directory_fault (Some r)) (option_or (link_fault true t) (option_or (there_fault t (Some r)) (limit_fault (own_fault w) (after_set_all (seen links s) p w))))) (number_at (seen links s) p (row_at (seen links s).rows p))) type
    ∙ (of_value r.value (limit_fault (own_fault w) (after_set_all (seen links s) p w)) (number_at (seen links s) p (row_at (seen links s).rows p)) (no_link_row s p r h.database.rows h.plain at.there)
    ∙ sym (ap (λ (k : Result (ℕ × HeldValue) OdbRefusal). other_type (value_reply k)) sought_is))))
  where
    of_value : (o : Option HeldValue) (rest : Option OdbRefusal) (n : ℕ) → is_link_value o ≡ false
        → reply_or (option_or (cond (is_some o) None (Some NotValue)) (option_or None (option_or (replace_fault tid.Link o) rest))) n ≡ other_type (value_reply (key_of at.row.number o))
    of_value None rest n plain = refl
    of_value (Some v) rest n plain = ap (λ (b : Bool). reply_or (option_or (cond b None (Some (TypeMismatch v.tid))) rest) n) (code_other v.tid plain)

-- values that are no links'

kept_type : (type : Tid) → IsTrue (is_kept type) → (link_fault true type ≡ None) × (link_fault false type ≡ None) × (eqb (tid_code tid.Link) (tid_code type) ≡ false)
kept_type tid.UInt8 h = (refl, refl, refl)
kept_type tid.Int8 h = (refl, refl, refl)
kept_type tid.Char h = (refl, refl, refl)
kept_type tid.UInt16 h = (refl, refl, refl)
kept_type tid.Int16 h = (refl, refl, refl)
kept_type tid.UInt32 h = (refl, refl, refl)
kept_type tid.Int32 h = (refl, refl, refl)
kept_type tid.Bool h = (refl, refl, refl)
kept_type tid.Text h = (refl, refl, refl)
kept_type tid.Int64 h = (refl, refl, refl)
kept_type tid.UInt64 h = (refl, refl, refl)
kept_type _ h = absurd (cc)

-- a link keeps its type
pub link_refuses : (links : List Link) (s : Rows) (p : List (List ℕ)) (v : HeldValue) → AreLinks links s → RowAt links s p true → IsValue v → put_reply (seen links s) p v ≡ Err (TypeMismatch tid.Link)
link_refuses links s [] v h at value = absurd (root_free s at.row h.database.tree at.there)
link_refuses links s (name ∷ names) v h at value =
    let p : List (List ℕ) = name ∷ names in
    let r : Row = at.row in
    let row : row_at (seen links s).rows p ≡ Some (as_seen links r) = row_mapped (as_seen links) (seen_retypes links) s.rows p ∙ ap (option_map (as_seen links)) at.there in
    let obstacle : obstacle_to_new (seen links s).rows p ≡ None = obstacle_mapped (as_seen links) (seen_retypes links) None s.rows [] (parent_of p) ∙ nothing_before s None p r h.database.tree (omega arith) at.there in
    let text = linked_text r (row_has (IsRight links) s.rows p r h.right at.there) (link_numbered links r.number) refl at.is in
    let shown : (as_seen links r).value ≡ Some (typed tid.Link text.0) = ap (λ (x : Row). x.value) (seen_linked links r at.is) ∙ ap (option_map (typed tid.Link)) text.1 in
    let kept = kept_type v.tid (is_kept-value v value) in
    let value_here : value_fault (seen links s).rows p ≡ None = ap directory_fault row ∙ ap (λ (o : Option HeldValue). cond (is_some o) None (Some NotValue)) shown in
    let there : there_fault v.tid (row_at (seen links s).rows p) ≡ Some (TypeMismatch tid.Link) =
    ap (there_fault v.tid) row ∙ (ap (replace_fault v.tid) shown ∙ ap (λ (b : Bool). cond b None (Some (TypeMismatch tid.Link))) kept.2) in
    refused_as (obstacle_to_new (seen links s).rows p) (value_fault (seen links s).rows p) (link_fault true v.tid) (there_fault v.tid (row_at (seen links s).rows p)) (limit_fault (own_fault v) (after_set_all (seen links s) p v))
    (number_at (seen links s) p (row_at (seen links s).rows p)) obstacle value_here kept.0 there
  where
    linked_text : (r : Row) → IsRight links r → (o : Option Link) → link_numbered links r.number ≡ o → is_some o ≡ true → (w : HeldValue) × (r.value ≡ Some w)
    linked_text r right None k t = absurd (cc)
    linked_text r right (Some l) k t = let text = right_at links r l right k in (text.held, text.value)

    refused_as : (o v k th rest : Option OdbRefusal) (n : ℕ) → o ≡ None → v ≡ None → k ≡ None → th ≡ Some (TypeMismatch tid.Link) → reply_or (option_or o (option_or v (option_or k (option_or th rest)))) n ≡ Err (TypeMismatch tid.Link)
    refused_as o v k th rest n eo ev ek et = rw (eo, ev, ek, et) refl

-- any other value is written as below
pub plain_same : (links : List Link) (s : Rows) (p : List (List ℕ)) (v : HeldValue) → AreLinks links s → IsFreeOfLinks links s p → IsValue v → put_reply (seen links s) p v ≡ put_reply s p v
plain_same links s p v h free value =
    let kept = kept_type v.tid (is_kept-value v value) in
    write_same links s p v (link_fault true v.tid) h.order free
    ∙ ap (λ (o : Option OdbRefusal). reply_or (option_or (obstacle_to_new s.rows p) (option_or (value_fault s.rows p) (option_or o (option_or (there_fault v.tid (row_at s.rows p)) (limit_fault (own_fault v) (after_set_all s p v)))))) (number_at s p (row_at s.rows p)))
    (kept.0 ∙ (sym kept.1 ∙ ap (λ (b : Bool). link_fault b v.tid) (sym h.plain)))

pub record IsPut (links : List Link) (s : Rows) (p : List (List ℕ)) (v : HeldValue) (reply : Result ℕ OdbRefusal) : Type 0 where
  pub reply_is : Gives reply (put_reply (seen links s) p v)
  pub links_kept : AreLinks links (after_put s p v reply)
  pub after : seen links (after_put s p v reply) ≡ after_put (seen links s) p v reply
  pub notes : (ws : List (Option Watch)) → all_noted (changes_of_put s p v reply) ws ≡ all_noted (changes_of_put (seen links s) p v reply) ws

pub plain_put : (links : List Link) (s : Rows) (p : List (List ℕ)) (v : HeldValue) (reply : Result ℕ OdbRefusal) → AreLinks links s → IsFreeOfLinks links s p → IsValue v → IsPath p → GivesTaking (is_link_type v.tid) reply (put_reply s p v) → IsPut links s p v reply
plain_put links s p v reply h free value path given = record {
  reply_is = subst (Gives reply) (sym (plain_same links s p v h free value)) strict;
  links_kept = kept reply strict;
  after = leaves reply;
  notes = notes_seen links (after_put (seen links s) p v reply) (after_put s p v reply) (sym (leaves reply)) reply 0 (length v.items);
}
  where
    strict : Gives reply (put_reply s p v)
    strict = tight reply (put_reply s p v) (subst (λ (b : Bool). GivesTaking b reply (put_reply s p v)) (value_no_link v value) given)

    leaves : (reply : Result ℕ OdbRefusal) → seen links (after_put s p v reply) ≡ after_put (seen links s) p v reply
    leaves (Ok n) = sym (set_all_leaves links s p v h.order free)
    leaves (Err why) = refl

    as_before : (o : Option Row) → (after_set_all_at s p v o).links ≡ s.links
    as_before None = refl
    as_before (Some r) = refl

    kept : (reply : Result ℕ OdbRefusal) → Gives reply (put_reply s p v) → AreLinks links (after_put s p v reply)
    kept (Ok n) k =
        let right = right_written links s p v (row_at s.rows p) h free in record {
          plain = as_before (row_at s.rows p) ∙ h.plain;
          database = database_put s p v (Ok n) h.database path (subst (λ (b : Bool). IsHeld b v) (sym h.plain) value) k;
          order = right.0;
          right = right.1;
        }
    kept (Err why) k = h

-- a value is read

pub raw_refused : (links : List Link) (s : Rows) (p : List (List ℕ)) (why : OdbRefusal) → get_reply s p ≡ Err why → raw_reply (seen links s) p ≡ Err why
raw_refused links s [] why e = e
raw_refused links s (name ∷ names) why e =
    ap (λ (r : Result Row OdbRefusal). value_reply (key_or_refusal r)) (seek_mapped (as_seen links) (seen_retypes links) s.rows (name ∷ names)) ∙ at (seek s.rows (name ∷ names)) e
  where
    of_value : (t : Bool) (n m : ℕ) (o : Option HeldValue) → value_reply (key_of n o) ≡ Err why → value_reply (key_of m (cond t (option_map (typed tid.Link) o) o)) ≡ Err why
    of_value true n m None k = k
    of_value false n m None k = k
    of_value t n m (Some v) k = absurd (cc)

    of_row : (t : Bool) (r : Row) → value_reply (key_of r.number r.value) ≡ Err why → (let x : Row = cond t (change_row (typed tid.Link) r) r in value_reply (key_of x.number x.value) ≡ Err why)
    of_row true r k = of_value true r.number r.number r.value k
    of_row false r k = k

    at : (r : Result Row OdbRefusal) → value_reply (key_or_refusal r) ≡ Err why → value_reply (key_or_refusal (sought (as_seen links) r)) ≡ Err why
    at (Err x) k = k
    at (Ok r) k = of_row (is_linked links r.number) r k

-- where one is read below, one is read
pub raw_err : (links : List Link) (s : Rows) (p : List (List ℕ)) → IsErr (raw_reply (seen links s) p) → IsErr (get_reply s p)
raw_err links s [] e = e
raw_err links s (name ∷ names) e =
    at (seek s.rows (name ∷ names)) (subst (λ (r : Result Row OdbRefusal). IsErr (value_reply (key_or_refusal r))) (seek_mapped (as_seen links) (seen_retypes links) s.rows (name ∷ names)) e)
  where
    of_value : (t : Bool) (n m : ℕ) (o : Option HeldValue) → IsErr (value_reply (key_of m (cond t (option_map (typed tid.Link) o) o))) → IsErr (value_reply (key_of n o))
    of_value true n m None k = k
    of_value false n m None k = k
    of_value true n m (Some v) k = k
    of_value false n m (Some v) k = k

    of_row : (t : Bool) (r : Row) → (let x : Row = cond t (change_row (typed tid.Link) r) r in IsErr (value_reply (key_of x.number x.value))) → IsErr (value_reply (key_of r.number r.value))
    of_row true r k = of_value true r.number r.number r.value k
    of_row false r k = k

    at : (r : Result Row OdbRefusal) → IsErr (value_reply (key_or_refusal (sought (as_seen links) r))) → IsErr (value_reply (key_or_refusal r))
    at (Err x) k = k
    at (Ok r) k = of_row (is_linked links r.number) r k

-- the value below of a link, and the one here
pub record IsRead (links : List Link) (s : Rows) (p : List (List ℕ)) (v : HeldValue) : Type 0 where
  pub link : IsLink (typed tid.Link v)
  pub is : raw_reply (seen links s) p ≡ Ok (typed tid.Link v)

pub raw_link : (links : List Link) (s : Rows) (p : List (List ℕ)) (v : HeldValue) → AreLinks links s → RowAt links s p true → get_reply s p ≡ Ok v → IsRead links s p v
raw_link links s [] v h at e = absurd (root_free s at.row h.database.tree at.there)
raw_link links s (name ∷ names) v h at e =
    let p : List (List ℕ) = name ∷ names in
    let r : Row = at.row in
    let clear = nothing_before s (Some NoKey) p r h.database.tree (omega arith) at.there in
    let found : seek s.rows p ≡ Ok r = ap (λ (o : Option OdbRefusal). found_row o (row_at s.rows p)) clear ∙ ap (found_row None) at.there in
    let text = linked_text r (row_has (IsRight links) s.rows p r h.right at.there) (link_numbered links r.number) refl at.is in
    let held : Ok text.0 ≡ Ok v = sym (ap (λ (k : Result Row OdbRefusal). value_reply (key_or_refusal k)) found ∙ ap (λ (o : Option HeldValue). value_reply (key_of r.number o)) text.1) ∙ e in
    let same : text.0 ≡ v = told text.0 v held in record {
      link = subst (λ (w : HeldValue). IsLink (typed tid.Link w)) same text.2;
      is = ap (λ (k : Result Row OdbRefusal). value_reply (key_or_refusal k)) (seek_mapped (as_seen links) (seen_retypes links) s.rows p ∙ ap (sought (as_seen links)) found)
          ∙ (ap (λ (x : Row). value_reply (key_of x.number x.value)) (seen_linked links r at.is)
          ∙ (ap (λ (o : Option HeldValue). value_reply (key_of r.number (option_map (typed tid.Link) o))) text.1 ∙ ap (λ (w : HeldValue). Ok (typed tid.Link w)) same));
    }
  where
    linked_text : (r : Row) → IsRight links r → (o : Option Link) → link_numbered links r.number ≡ o → is_some o ≡ true → (w : HeldValue) × (r.value ≡ Some w) × IsLink (typed tid.Link w)
    linked_text r right None k t = absurd (cc)
    linked_text r right (Some l) k t = let text = right_at links r l right k in (text.held, text.value, text.link)

    told : (a b : HeldValue) → (let r : Result HeldValue OdbRefusal = Ok a in r ≡ Ok b) → a ≡ b
    told a b k = cc

-- refused calls note nothing

pub refused_notes : (t : Rows) (reply : Result ℕ OdbRefusal) (first count : ℕ) (ws : List (Option Watch)) → IsErr reply → ws ≡ all_noted (changes_for t reply first count) ws
refused_notes t (Ok n) first count ws h = absurd (cc)
refused_notes t (Err why) first count ws h = sym (none_noted ws)

pub err_notes : (t : Rows) (reply : Result ℕ OdbRefusal) (why : OdbRefusal) (first count : ℕ) (ws : List (Option Watch)) → reply ≡ Err why → ws ≡ all_noted (changes_for t reply first count) ws
err_notes t reply why first count ws e = subst (λ (r : Result ℕ OdbRefusal). ws ≡ all_noted (changes_for t r first count) ws) (sym e) (sym (none_noted ws))

pub refused_rows : (links : List Link) (s t : Rows) (p : List (List ℕ)) (kind : NewKey) (reply : Result ℕ OdbRefusal) → IsErr reply → t ≡ s → seen links t ≡ rows_there (seen links s) (Create p kind reply)
refused_rows links s t p kind (Ok n) h e = absurd (cc)
refused_rows links s t p kind (Err why) h e = ap (seen links) e

-- a link is made as its value is written

pub record IsMade (t : Rows) (p target : List (List ℕ)) (v : HeldValue) (reply : Result ℕ OdbRefusal) : Type 0 where
  pub reply_is : put_reply t p (typed tid.Link v) ≡ create_reply t p (new_link target)
  pub after : after_put t p (typed tid.Link v) reply ≡ rows_there t (Create p (new_link target) reply)
  pub notes : (ws : List (Option Watch)) → all_noted (changes_of_put t p (typed tid.Link v) reply) ws ≡ all_noted (changes_for (rows_there t (Create p (new_link target) reply)) reply 0 1) ws

pub made_link : (links : List Link) (s : Rows) (p target : List (List ℕ)) (v : HeldValue) (reply : Result ℕ OdbRefusal) → row_at s.rows p ≡ None → p ≢ [] → IsTextTo target (Some v) → IsMade (seen links s) p target v reply
made_link links s p target v reply none some text =
    let same = make_same links s p target none some text.0 in record {
      reply_is = ap (λ (w : HeldValue). put_reply (seen links s) p (typed tid.Link w)) text.1 ∙ sym same.0;
      after = left reply;
      notes = λ ws. ap (λ (t : Rows). all_noted (changes_for t reply 0 (length v.items)) ws) (left reply)
          ∙ ap (λ (w : HeldValue). all_noted (changes_for (rows_there (seen links s) (Create p (new_link target) reply)) reply 0 (length w.items)) ws) text.1;
    }
  where
    left : (r : Result ℕ OdbRefusal) → after_put (seen links s) p (typed tid.Link v) r ≡ rows_there (seen links s) (Create p (new_link target) r)
    left (Ok n) = ap (λ (w : HeldValue). after_set_all (seen links s) p (typed tid.Link w)) text.1 ∙ sym (make_same links s p target none some text.0).1
    left (Err why) = refl

pub made_sound : (target : List (List ℕ)) (v : HeldValue) → IsPath target → IsTextTo target (Some v) → IsLink (typed tid.Link v) × (target_of_items v.items ≡ target)
made_sound target v path text = (
  subst (λ (w : HeldValue). IsLink (typed tid.Link w)) (sym text.1) (link_sound target path text.0),
  ap (λ (w : HeldValue). target_of_items w.items) text.1 ∙ link_goes target path,
)

-- the text of a link's value

pub text_is : (v : HeldValue) (text : List ℕ) → (link : IsLink v) → v.items ≡ Text text ∷ [] → text ≡ link.text
text_is v text link e = let k : Text text ∷ [] ≡ Text link.text ∷ [] = sym e ∙ link.one in let same : text ≡ link.text = cc in same

pub text_reads : (v : HeldValue) (text : List ℕ) → (link : IsLink v) → v.items ≡ Text text ∷ [] → path_reply text ≡ Ok link.target
text_reads v text link e = ap path_reply (text_is v text link e) ∙ link.reads

pub text_short : (v : HeldValue) (text : List ℕ) → IsLink v → v.items ≡ Text text ∷ [] → length text ≤ text_limit
text_short v text link e = omega (arith, ap (λ (t : List ℕ). length t) (text_is v text link e), link.short)

-- a value of type LINK is a link's, and no other is
pub link_typed : (v : HeldValue) → IsValueOrLink v → v.tid ≡ tid.Link → IsLink v
link_typed v (inl h) e = let k : true ≡ false = sym (ap is_link_type e) ∙ value_no_link v h in absurd (cc)
link_typed v (inr h) e = h

pub value_typed : (v : HeldValue) → IsValueOrLink v → (v.tid ≡ tid.Link → ⊥) → IsValue v
value_typed v (inl h) e = h
value_typed v (inr h) e = absurd (e h.of_type)
