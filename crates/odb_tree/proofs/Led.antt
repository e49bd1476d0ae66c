-- The path of a call after its links, and the call as a step at that path.
use Rattle.std.proofs.Common.{◌≡◌, ◌≢◌, ℕ, zero, suc, ◌+◌, ◌≤◌, ltb, Bool, true, false, cond, ◌&&◌, ◌||◌, List, [], ◌∷◌, ◌++◌, length, Option, Some, None, Result, Ok, Err, ◌⊎◌, inl, inr, refl, sym, ap, ◌∙◌, subst, arith, append_assoc, length-append}
use Rattle.std.specs.Prelude.{All, IfSome, IsTrue, IsErr}
use Rattle.std.specs.Option.{option_or, is_some}
use Rattle.std.proofs.lemmas.Bool.Decides.{nat_tests}
use Rattle.std.proofs.lemmas.List.Elements.{All-tail, All-append}
use Rattle.daq_types.specs.Names.{IsName}
use Rattle.daq_types.specs.declared.types.Tid.{Tid}
use Rattle.daq_types.specs.declared.types.Tid.TheVariants as tid
use Rattle.odb_value.specs.Paths.{depth_limit, IsPath}
use Rattle.odb_value.specs.Items.{tid_of, is_kept}
use Rattle.odb_value.specs.Values.{HeldValue, IsValue}
use Rattle.odb_value.proofs.ValueKept.{is_kept-value}
use Rattle.odb_tree.specs.declared.rows.Row.{Row}
use Rattle.odb_tree.specs.declared.refusals.OdbRefusal.{OdbRefusal}
use Rattle.odb_tree.specs.declared.refusals.OdbRefusal.TheVariants.{BadLink, NoMemory}
use Rattle.odb_tree.specs.declared.entry.DatabaseEntry.{DatabaseEntry}
use Rattle.odb_tree.specs.declared.entry.DatabaseEntry.TheVariants.{Create, Set, SetAll, Get, Find, ListDir, Delete, Resize, PathOf}
use Rattle.odb_tree.specs.Rows.{Rows, row_at}
use Rattle.odb_value.specs.LinkValues.{IsLink, is_link_type}
use Rattle.odb_tree.specs.Changes.{RowCanResize}
use Rattle.odb_tree.specs.Links.{is_link, is_link_value, target_of, target_of_value, target_of_items, path_or_root, Met, has_names, met_at, first_link, follow, lead, links_limit, resolved, meets_link, through, led_to}
use Rattle.odb_tree.specs.Lookups.{obstacle_to_new}
use Rattle.odb_tree.specs.Limits.{limit_fault}
use Rattle.odb_tree.specs.Calls.{reply_or, value_fault, link_fault, there_fault, own_fault, number_at, put_reply, makes_link, Gives, GivesTaking, GivesIf, GivesItem, IsReplyThere, rows_there, IsRowsReply, rows_after, after_create, after_set, after_set_all, after_resize, create_reply, set_reply, set_all_reply, get_reply, find_reply, list_reply, resize_reply}
use Rattle.odb_tree.specs.Databases.{IsHeld, IsRow, IsSoundCall}
use Rattle.odb_tree.proofs.EachRow.{row_has}

-- links that are met

-- a link that is met is that of a row, and the names behind it are the last of the path
pub record IsMet (rows : List Row) (names : List (List ℕ)) (m : Met) : Type 0 where
  pub row : Row
  pub at : List (List ℕ)
  pub there : row_at rows at ≡ Some row
  pub link : is_link row ≡ true
  pub target : m.target ≡ target_of row
  pub front : List (List ℕ)
  pub rest : names ≡ front ++ m.rest

and_left : (a b : Bool) → (a && b) ≡ true → a ≡ true
and_left true b h = refl
and_left false b h = absurd (cc)

pub met_is : (rows : List Row) (last : Bool) (passed names : List (List ℕ)) (m : Met) → first_link rows last passed names ≡ Some m → IsMet rows names m
met_is rows last passed [] m h = absurd (cc)
met_is rows last passed (name ∷ names) m h = of_row (row_at rows (passed ++ name ∷ [])) refl h (λ k. met_is rows last (passed ++ name ∷ []) names m k)
  where
    behind : IsMet rows names m → IsMet rows (name ∷ names) m
    behind met = record { row = met.row; at = met.at; there = met.there; link = met.link; target = met.target; front = name ∷ met.front; rest = ap (λ (l : List (List ℕ)). name ∷ l) met.rest }

    of_test : (t : Bool) (r : Row) → row_at rows (passed ++ name ∷ []) ≡ Some r → (is_link r && (last || has_names names)) ≡ t
        → option_or (cond t (Some (record { target = target_of r; rest = names })) None) (first_link rows last (passed ++ name ∷ []) names) ≡ Some m
        → (first_link rows last (passed ++ name ∷ []) names ≡ Some m → IsMet rows names m) → IsMet rows (name ∷ names) m
    of_test true r there e k ih =
        let here : Some (record { target = target_of r; rest = names }) ≡ Some m = k in
        let same : record { target = target_of r; rest = names } ≡ m = cc in
        record {
          row = r;
          at = passed ++ name ∷ [];
          there = there;
          link = and_left (is_link r) (last || has_names names) e;
          target = sym (ap (λ (x : Met). x.target) same);
          front = name ∷ [];
          rest = ap (λ (x : Met). name ∷ x.rest) same;
        }
    of_test false r there e k ih = behind (ih k)

    of_row : (o : Option Row) → row_at rows (passed ++ name ∷ []) ≡ o → option_or (met_at last names o) (first_link rows last (passed ++ name ∷ []) names) ≡ Some m
        → (first_link rows last (passed ++ name ∷ []) names ≡ Some m → IsMet rows names m) → IsMet rows (name ∷ names) m
    of_row None e k ih = behind (ih k)
    of_row (Some r) e k ih = of_test (is_link r && (last || has_names names)) r e refl k ih

-- where no link is met with `last`, none stands at the end
pub none_at_end : (rows : List Row) (passed names : List (List ℕ)) (r : Row) → first_link rows true passed names ≡ None → names ≢ [] → row_at rows (passed ++ names) ≡ Some r → is_link r ≡ false
none_at_end rows passed [] r h some there = absurd (some refl)
none_at_end rows passed (name ∷ []) r h some there =
    no_link (is_link r) (subst (λ (o : Option Row). option_or {T = Met} (met_at true [] o) None ≡ None) there h)
  where
    no_link : (t : Bool) → option_or {T = Met} (cond (t && true) (Some (record { target = target_of r; rest = [] })) None) None ≡ None → t ≡ false
    no_link true k = absurd (cc)
    no_link false k = refl
none_at_end rows passed (name ∷ more ∷ names) r h some there =
    none_at_end rows (passed ++ name ∷ []) (more ∷ names) r (none_right (met_at true (more ∷ names) (row_at rows (passed ++ name ∷ []))) (first_link rows true (passed ++ name ∷ []) (more ∷ names)) h) (λ e. absurd (cc))
    (subst (λ (p : List (List ℕ)). row_at rows p ≡ Some r) (sym (append_assoc passed (name ∷ []) (more ∷ names))) there)
  where
    none_right : (a b : Option Met) → option_or a b ≡ None → b ≡ None
    none_right None b k = k
    none_right (Some m) b k = absurd (cc)

-- following links

-- no link was met, or `next` goes on at a path that is not too long
record IsFollowed (next : List (List ℕ) → Result (List (List ℕ)) OdbRefusal) (o : Option Met) (q : List (List ℕ)) : Type 0 where
  met : Met
  is : o ≡ Some met
  short : length met.target + length met.rest ≤ depth_limit
  goes : next (met.target ++ met.rest) ≡ Ok q

followed : (next : List (List ℕ) → Result (List (List ℕ)) OdbRefusal) (steps : ℕ) (p : List (List ℕ)) (o : Option Met) (q : List (List ℕ)) → follow next steps p o ≡ Ok q
    → ((o ≡ None) × (p ≡ q)) ⊎ IsFollowed next o q
followed next steps p None q h = inl (refl, let same : p ≡ q = cc in same)
followed next steps p (Some m) q h = of_test (ltb depth_limit (length m.target + length m.rest)) refl h
  where
    of_test : (t : Bool) → ltb depth_limit (length m.target + length m.rest) ≡ t → cond t (Err (BadLink steps)) (next (m.target ++ m.rest)) ≡ Ok q
        → ((Some m ≡ None) × (p ≡ q)) ⊎ IsFollowed next (Some m) q
    of_test true e k = absurd (cc)
    of_test false e k = inr (record { met = m; is = refl; short = grind (arith, nat_tests); goes = k })

-- what holds of a path holds of it after its links, where it holds of each target with the names behind
pub led_has : (P : List (List ℕ) → Type 0) (rows : List Row) (last : Bool) → ((p : List (List ℕ)) (m : Met) → P p → first_link rows last [] p ≡ Some m → length m.target + length m.rest ≤ depth_limit → P (m.target ++ m.rest))
    → (more steps : ℕ) (p q : List (List ℕ)) → P p → lead more rows last steps p ≡ Ok q → P q
led_has P rows last goes zero steps p q h e = elim (followed (λ _. Err (BadLink steps)) steps p (first_link rows last [] p) q e) [
  | inl w ↦ subst P w.1 h
  | inr w ↦ let k : Err (BadLink steps) ≡ Ok q = w.goes in absurd (cc)
]
led_has P rows last goes (suc more) steps p q h e = elim (followed (lead more rows last (steps + 1)) steps p (first_link rows last [] p) q e) [
  | inl w ↦ subst P w.1 h
  | inr w ↦ led_has P rows last goes more (steps + 1) (w.met.target ++ w.met.rest) q (goes p w.met h w.is w.short) w.goes
]

-- no link is met on a path after its links
pub led_ends : (rows : List Row) (last : Bool) (more steps : ℕ) (p q : List (List ℕ)) → lead more rows last steps p ≡ Ok q → first_link rows last [] q ≡ None
led_ends rows last zero steps p q e = elim (followed (λ _. Err (BadLink steps)) steps p (first_link rows last [] p) q e) [
  | inl w ↦ subst (λ (x : List (List ℕ)). first_link rows last [] x ≡ None) w.1 w.0
  | inr w ↦ let k : Err (BadLink steps) ≡ Ok q = w.goes in absurd (cc)
]
led_ends rows last (suc more) steps p q e = elim (followed (lead more rows last (steps + 1)) steps p (first_link rows last [] p) q e) [
  | inl w ↦ subst (λ (x : List (List ℕ)). first_link rows last [] x ≡ None) w.1 w.0
  | inr w ↦ led_ends rows last more (steps + 1) (w.met.target ++ w.met.rest) q w.goes
]

-- paths

-- the path after its links where links are kept, and else the path
resolved_by : (links : Bool) (rows : List Row) (p : List (List ℕ)) (last : Bool) (q : List (List ℕ)) → cond links (lead links_limit rows last 0 p) (Ok p) ≡ Ok q
    → (p ≡ q) ⊎ (lead links_limit rows last 0 p ≡ Ok q)
resolved_by true rows p last q h = inr h
resolved_by false rows p last q h = inl (let same : p ≡ q = cc in same)

pub resolved_short : (s : Rows) (p q : List (List ℕ)) (last : Bool) → length p ≤ depth_limit → resolved s p last ≡ Ok q → length q ≤ depth_limit
resolved_short s p q last h e = elim (resolved_by s.links s.rows p last q e) [
  | inl w ↦ subst (λ (x : List (List ℕ)). length x ≤ depth_limit) w h
  | inr w ↦ led_has (λ (x : List (List ℕ)). length x ≤ depth_limit) s.rows last (λ x m k met short. omega (arith, short, length-append m.target m.rest)) links_limit 0 p q h w
]

no_link_kept : (type : Tid) → IsTrue (is_kept type) → is_link_type type ≡ false
no_link_kept tid.Link h = absurd (cc)
no_link_kept _ h = refl

-- a value that is no link's has another type
pub value_no_link : (v : HeldValue) → IsValue v → is_link_type v.tid ≡ false
value_no_link v h = no_link_kept v.tid (is_kept-value v h)

not_both : (b : Bool) → b ≡ true → b ≡ false → ⊥
not_both true h k = cc
not_both false h k = cc

-- a link goes to a path
link_target : (v : HeldValue) → IsLink v → IsPath (target_of_items v.items)
link_target v h =
    let goes : target_of_items v.items ≡ h.target = ap target_of_items h.one ∙ ap path_or_root h.reads in
    subst IsPath (sym goes) h.path

held_target : (links : Bool) (v : HeldValue) → IsHeld links v → is_link_type v.tid ≡ true → IsPath (target_of_items v.items)
held_target false v h e = absurd (not_both (is_link_type v.tid) e (value_no_link v h))
held_target true v (inl h) e = absurd (not_both (is_link_type v.tid) e (value_no_link v h))
held_target true v (inr h) e = link_target v h

value_target : (links : Bool) (o : Option HeldValue) → IfSome o (IsHeld links) → is_link_value o ≡ true → IsPath (target_of_value o)
value_target links None h e = absurd (cc)
value_target links (Some v) h e = held_target links v h e

pub row_target : (links : Bool) (r : Row) → IsRow links r → is_link r ≡ true → IsPath (target_of r)
row_target links r h e = value_target links r.value h.value e

names_behind : (P : List ℕ → Type 0) (front rest : List (List ℕ)) → All P (front ++ rest) → All P rest
names_behind P [] rest h = h
names_behind P (name ∷ front) rest h = names_behind P front rest (All-tail P name (front ++ rest) h)

pub resolved_path : (s : Rows) (p q : List (List ℕ)) (last : Bool) → All (IsRow s.links) s.rows → IsPath p → resolved s p last ≡ Ok q → IsPath q
resolved_path s p q last are h e = elim (resolved_by s.links s.rows p last q e) [
  | inl w ↦ subst IsPath w h
  | inr w ↦ led_has IsPath s.rows last goes links_limit 0 p q h w
]
  where
    goes : (x : List (List ℕ)) (m : Met) → IsPath x → first_link s.rows last [] x ≡ Some m → length m.target + length m.rest ≤ depth_limit → IsPath (m.target ++ m.rest)
    goes x m k met short =
        let is = met_is s.rows last [] x m met in
        let target : IsPath m.target = subst IsPath (sym is.target) (row_target s.links is.row (row_has (IsRow s.links) s.rows is.at is.row are is.there) is.link) in
        record {
          short = omega (arith, short, length-append m.target m.rest);
          names = All-append IsName m.target m.rest target.names (names_behind IsName is.front m.rest (subst (λ (l : List (List ℕ)). All IsName l) is.rest k.names));
        }

-- no link is met on a path after its links, nor stands at its end
pub resolved_freed : (s : Rows) (p q : List (List ℕ)) (last : Bool) → s.links ≡ true → resolved s p last ≡ Ok q → first_link s.rows last [] q ≡ None
resolved_freed s p q last kept e =
    led_ends s.rows last links_limit 0 p q (subst (λ (b : Bool). cond b (lead links_limit s.rows last 0 p) (Ok p) ≡ Ok q) kept e)

-- a database without links has no link, and each key may get more or fewer items

value_none : (o : Option HeldValue) → IfSome o IsValue → is_link_value o ≡ false
value_none None h = refl
value_none (Some v) h = value_no_link v h

pub no_link_row : (s : Rows) (p : List (List ℕ)) (r : Row) → All (IsRow s.links) s.rows → s.links ≡ false → row_at s.rows p ≡ Some r → is_link r ≡ false
no_link_row s p r are none there =
    let row : IsRow false r = row_has (IsRow false) s.rows p r (subst (λ (b : Bool). All (IsRow b) s.rows) none are) there in
    value_none r.value row.value

pub can_resize : (s : Rows) (p : List (List ℕ)) (r : Row) → All (IsRow s.links) s.rows → s.links ≡ false → row_at s.rows p ≡ Some r → RowCanResize r
can_resize s p r are none there v held =
    let row : IsRow false r = row_has (IsRow false) s.rows p r (subst (λ (b : Bool). All (IsRow b) s.rows) none are) there in
    is_kept-value v (subst (λ (o : Option HeldValue). IfSome o IsValue) held row.value)

pub met_nowhere : (rows : List Row) (last : Bool) (passed names : List (List ℕ)) → ((q : List (List ℕ)) (r : Row) → row_at rows q ≡ Some r → is_link r ≡ false) → first_link rows last passed names ≡ None
met_nowhere rows last passed [] none = refl
met_nowhere rows last passed (name ∷ names) none =
    ap (λ (o : Option Met). option_or o (first_link rows last (passed ++ name ∷ []) names)) (here (row_at rows (passed ++ name ∷ [])) refl)
    ∙ met_nowhere rows last (passed ++ name ∷ []) names none
  where
    here : (o : Option Row) → row_at rows (passed ++ name ∷ []) ≡ o → met_at last names o ≡ None
    here None e = refl
    here (Some r) e = ap (λ (b : Bool). cond (b && (last || has_names names)) (Some (record { target = target_of r; rest = names })) None) (none (passed ++ name ∷ []) r e)

pub led_nowhere : (rows : List Row) (last : Bool) (steps : ℕ) (p : List (List ℕ)) → ((q : List (List ℕ)) (r : Row) → row_at rows q ≡ Some r → is_link r ≡ false) → lead links_limit rows last steps p ≡ Ok p
led_nowhere rows last steps p none = ap (λ (o : Option Met). follow (lead 15 rows last (steps + 1)) steps p o) (met_nowhere rows last [] p none)

pub resolved_nowhere : (s : Rows) (p : List (List ℕ)) (last : Bool) → ((q : List (List ℕ)) (r : Row) → row_at s.rows q ≡ Some r → is_link r ≡ false) → resolved s p last ≡ Ok p
resolved_nowhere s p last none = either s.links
  where
    either : (b : Bool) → cond b (lead links_limit s.rows last 0 p) (Ok p) ≡ Ok p
    either true = led_nowhere s.rows last 0 p none
    either false = refl

-- nor does a path change on which none is met
pub resolved_unmet : (s : Rows) (p : List (List ℕ)) (last : Bool) → meets_link s p last ≡ false → resolved s p last ≡ Ok p
resolved_unmet s p last none = either s.links none
  where
    met_not : (o : Option Met) → is_some o ≡ false → follow (lead 15 s.rows last 1) 0 p o ≡ Ok p
    met_not None h = refl
    met_not (Some m) h = absurd (cc)

    either : (b : Bool) → b && is_some (first_link s.rows last [] p) ≡ false → cond b (lead links_limit s.rows last 0 p) (Ok p) ≡ Ok p
    either true h = met_not (first_link s.rows last [] p) h
    either false h = refl

-- calls

pub item_gives : (met : Bool) (type : Tid) (n : ℕ) (reply : Result ℕ OdbRefusal) → GivesItem met type (Ok n) reply → reply ≡ Ok n
item_gives met tid.Text n reply h = h
item_gives true _ n reply h = h
item_gives false _ n reply h = sym h

item_same : (type : Tid) (n : ℕ) (reply : Result ℕ OdbRefusal) → reply ≡ Ok n → GivesItem false type (Ok n) reply
item_same tid.Text n reply h = h
item_same _ n reply h = sym h

-- in a database with links no link is met on the path of a `resize`
abbrev pub MeetsNone : Rows → DatabaseEntry → Type 0
MeetsNone s (Resize p len reply) = s.links ≡ true → first_link s.rows true [] p ≡ None
MeetsNone s entry = Unit {0}

-- a call that changed the rows is this step at the path after its links
pub record IsLed (s : Rows) (entry : DatabaseEntry) : Type 0 where
  pub step : DatabaseEntry
  pub reply : IsReplyThere s step
  pub after : rows_after s entry ≡ rows_there s step
  pub sound : IsSoundCall entry → All (IsRow s.links) s.rows → IsSoundCall step
  pub free : MeetsNone s step

-- a call changes nothing, or is a step at the path after its links
pub led : (s : Rows) (entry : DatabaseEntry) → IsRowsReply s entry → (rows_after s entry ≡ s) ⊎ IsLed s entry
led s (Create p kind (Ok n)) h = at (resolved s p false) refl h
  where
    at : (r : Result (List (List ℕ)) OdbRefusal) → resolved s p false ≡ r → through r (λ q. create_reply s q kind) ≡ Ok n → (rows_after s (Create p kind (Ok n)) ≡ s) ⊎ IsLed s (Create p kind (Ok n))
    at (Err why) e k = absurd (cc)
    at (Ok q) e k = inr (record {
      step = Create q kind (Ok n);
      reply = k;
      after = ap (λ (r : Result (List (List ℕ)) OdbRefusal). led_to s r (λ x. after_create s x kind)) e;
      sound = λ call are. (resolved_path s p q false are call.0 e, call.1);
      free = tt;
    })
led s (Create p kind (Err why)) h = inl refl
led s (Set p index item (Ok n)) h = at (resolved s p true) refl (item_gives (meets_link s p true) (tid_of item) n (through (resolved s p true) (λ q. set_reply s q index item)) h)
  where
    at : (r : Result (List (List ℕ)) OdbRefusal) → resolved s p true ≡ r → through r (λ q. set_reply s q index item) ≡ Ok n → (rows_after s (Set p index item (Ok n)) ≡ s) ⊎ IsLed s (Set p index item (Ok n))
    at (Err why) e k = absurd (cc)
    at (Ok q) e k = inr (record {
      step = Set q index item (Ok n);
      reply = item_same (tid_of item) n (set_reply s q index item) k;
      after = ap (λ (r : Result (List (List ℕ)) OdbRefusal). led_to s r (λ x. after_set s x index item)) e;
      sound = λ call are. (resolved_path s p q true are call.0 e, call.1);
      free = tt;
    })
led s (Set p index item (Err why)) h = inl refl
led s (SetAll p v (Ok n)) h = at (resolved s p true) refl h
  where
    at : (r : Result (List (List ℕ)) OdbRefusal) → resolved s p true ≡ r → through r (λ q. set_all_reply s q v) ≡ Ok n → (rows_after s (SetAll p v (Ok n)) ≡ s) ⊎ IsLed s (SetAll p v (Ok n))
    at (Err why) e k = absurd (cc)
    at (Ok q) e k = inr (record {
      step = SetAll q v (Ok n);
      reply = k;
      after = ap (λ (r : Result (List (List ℕ)) OdbRefusal). led_to s r (λ x. after_set_all s x v)) e;
      sound = λ call are. (resolved_path s p q true are call.0 e, call.1);
      free = tt;
    })
led s (SetAll p v (Err why)) h = inl refl
led s (Get p reply) h = inl refl
led s (Find p reply) h = inl refl
led s (ListDir p reply) h = inl refl
led s (Delete p (Ok n)) h = inr (record { step = Delete p (Ok n); reply = h; after = refl; sound = λ call are. call; free = tt })
led s (Delete p (Err why)) h = inl refl
led s (Resize p len (Ok n)) h = at (resolved s p true) refl h
  where
    at : (r : Result (List (List ℕ)) OdbRefusal) → resolved s p true ≡ r → through r (λ q. resize_reply s q len) ≡ Ok n → (rows_after s (Resize p len (Ok n)) ≡ s) ⊎ IsLed s (Resize p len (Ok n))
    at (Err why) e k = absurd (cc)
    at (Ok q) e k = inr (record {
      step = Resize q len (Ok n);
      reply = k;
      after = ap (λ (r : Result (List (List ℕ)) OdbRefusal). led_to s r (λ x. after_resize s x len)) e;
      sound = λ call are. resolved_path s p q true are call e;
      free = λ kept. resolved_freed s p q true kept e;
    })
led s (Resize p len (Err why)) h = inl refl
led s (PathOf row reply) h = inl refl

-- what holds of the rows holds of them after a call, if it does after each step at a path after its links
pub lifted : (P : Rows → Type 0) (s : Rows) (entry : DatabaseEntry) → P s → ((step : DatabaseEntry) → IsReplyThere s step → P (rows_there s step)) → IsRowsReply s entry → P (rows_after s entry)
lifted P s entry h steps reply = elim (led s entry reply) [
  | inl w ↦ subst P (sym w) h
  | inr w ↦ subst P (sym w.after) (steps w.step w.reply)
]

-- databases that keep no links

pub unlinked : (s : Rows) (p : List (List ℕ)) (last : Bool) → s.links ≡ false → resolved s p last ≡ Ok p
unlinked s p last none = ap (λ (b : Bool). cond b (lead links_limit s.rows last 0 p) (Ok p)) none

pub unmet : (s : Rows) (p : List (List ℕ)) (last : Bool) → s.links ≡ false → meets_link s p last ≡ false
unmet s p last none = ap (λ (b : Bool). b && is_some (first_link s.rows last [] p)) none

-- what excuses no refusal is a reply also where memory is taken early
pub taking : {X : Type 0} (early : Bool) (given due : Result X OdbRefusal) → Gives given due → GivesTaking early given due
taking early (Ok x) due h = h
taking true (Err why) due h = h.0
taking false (Err why) due h = h

-- where none is taken early, nor is it the other way
pub tight : {X : Type 0} (given due : Result X OdbRefusal) → GivesTaking false given due → Gives given due
tight (Ok x) due h = h
tight (Err why) due h = h

-- a refusal but for want of memory is the one that is due
pub told_due : {X : Type 0} (early : Bool) (why : OdbRefusal) (due : Result X OdbRefusal) → GivesTaking early (Err why) due → why ≢ NoMemory → due ≡ Err why
told_due true why due h = h
told_due false why due h = h.0

-- memory is wanting behind a call that was accepted
pub lacking : {X : Type 0} (early : Bool) (why : OdbRefusal) (x : X) (due : Result X OdbRefusal) → why ≡ NoMemory → due ≡ Ok x → GivesTaking early (Err why) due
lacking {X} true why x due none is = λ other. absurd (other none)
lacking {X} false why x due none is = (
  λ other. absurd (other none),
  λ err. (let k : false ≡ true = subst (λ (r : Result X OdbRefusal). IsErr r) is err in absurd (cc)),
)

gives_at : {X : Type 0} (given : Result X OdbRefusal) (s : Rows) (p : List (List ℕ)) (last early : Bool) (reply : List (List ℕ) → Result X OdbRefusal) → s.links ≡ false → Gives given (reply p)
    → GivesTaking early given (through (resolved s p last) reply)
gives_at given s p last early reply none h =
    taking early given (through (resolved s p last) reply) (subst (λ (r : Result (List (List ℕ)) OdbRefusal). Gives given (through r reply)) (sym (unlinked s p last none)) h)

-- there each call is the step at its path
pub reply_unlinked : (s : Rows) (entry : DatabaseEntry) → s.links ≡ false → IsReplyThere s entry → IsRowsReply s entry
reply_unlinked s (Create p kind reply) none h = gives_at reply s p false (makes_link kind || meets_link s p false) (λ q. create_reply s q kind) none h
reply_unlinked s (Set p index item reply) none h =
    subst (λ (b : Bool). GivesItem b (tid_of item) reply (through (resolved s p true) (λ q. set_reply s q index item))) (sym (unmet s p true none))
    (subst (λ (r : Result (List (List ℕ)) OdbRefusal). GivesItem false (tid_of item) reply (through r (λ q. set_reply s q index item))) (sym (unlinked s p true none)) h)
reply_unlinked s (SetAll p v reply) none h = gives_at reply s p true (meets_link s p true) (λ q. set_all_reply s q v) none h
reply_unlinked s (Get p reply) none h = gives_at reply s p true (meets_link s p true) (λ q. get_reply s q) none h
reply_unlinked s (Find p reply) none h =
    subst (λ (b : Bool). GivesIf b reply (through (resolved s p true) (λ q. find_reply s q))) (sym (unmet s p true none))
    (subst (λ (r : Result (List (List ℕ)) OdbRefusal). reply ≡ through r (λ q. find_reply s q)) (sym (unlinked s p true none)) h)
reply_unlinked s (ListDir p reply) none h = gives_at reply s p true (meets_link s p true) (λ q. list_reply s q) none h
reply_unlinked s (Delete p reply) none h = h
reply_unlinked s (Resize p len reply) none h = gives_at reply s p true (meets_link s p true) (λ q. resize_reply s q len) none h
reply_unlinked s (PathOf row reply) none h = h

led_at : (s : Rows) (p : List (List ℕ)) (last : Bool) (after : List (List ℕ) → Rows) → s.links ≡ false → led_to s (resolved s p last) after ≡ after p
led_at s p last after none = ap (λ (r : Result (List (List ℕ)) OdbRefusal). led_to s r after) (unlinked s p last none)

pub after_unlinked : (s : Rows) (entry : DatabaseEntry) → s.links ≡ false → rows_after s entry ≡ rows_there s entry
after_unlinked s (Create p kind (Ok n)) none = led_at s p false (λ q. after_create s q kind) none
after_unlinked s (Create p kind (Err why)) none = refl
after_unlinked s (Set p index item (Ok n)) none = led_at s p true (λ q. after_set s q index item) none
after_unlinked s (Set p index item (Err why)) none = refl
after_unlinked s (SetAll p v (Ok n)) none = led_at s p true (λ q. after_set_all s q v) none
after_unlinked s (SetAll p v (Err why)) none = refl
after_unlinked s (Get p reply) none = refl
after_unlinked s (Find p reply) none = refl
after_unlinked s (ListDir p reply) none = refl
after_unlinked s (Delete p (Ok n)) none = refl
after_unlinked s (Delete p (Err why)) none = refl
after_unlinked s (Resize p len (Ok n)) none = led_at s p true (λ q. after_resize s q len) none
after_unlinked s (Resize p len (Err why)) none = refl
after_unlinked s (PathOf row reply) none = refl

pub put_unlinked : (s : Rows) (p : List (List ℕ)) (v : HeldValue) → s.links ≡ false → put_reply s p v ≡ set_all_reply s p v
put_unlinked s p v none =
    ap (λ (links : Bool). reply_or (option_or (obstacle_to_new s.rows p) (option_or (value_fault s.rows p) (option_or (link_fault links v.tid)
    (option_or (there_fault v.tid (row_at s.rows p)) (limit_fault (own_fault v) (after_set_all s p v)))))) (number_at s p (row_at s.rows p))) none
