-- The steps of a text, none of which is refused, keep a database, and what they ask for is sound.
use Rattle.std.proofs.Common.{◌≡◌, ℕ, ◌+◌, ◌<◌, ◌≤◌, Bool, true, false, cond, List, [], ◌∷◌, ◌++◌, length, map, Option, Some, None, Result, Ok, Err, refl, sym, ap, ◌∙◌, subst, arith, inl, inr}
use Rattle.std.specs.Prelude.{nat_lt}
use Rattle.std.specs.Option.{option_or}
use Rattle.std.specs.List.{AllByRecursion}
use Rattle.std.proofs.lemmas.Bool.Decides.{nat_tests}
use Rattle.std.proofs.lemmas.List.{length-map}
use Rattle.std.proofs.lemmas.List.Elements.{All-from_recursion, All-nil}
use Rattle.daq_types.specs.declared.types.Tid.{Tid}
use Rattle.daq_types.specs.Names.{IsName}
use Rattle.odb_value.specs.Paths.{depth_limit, IsPath}
use Rattle.odb_value.proofs.PathLaws.{is_path_push}
use Rattle.odb_value.specs.declared.items.Item.{Item}
use Rattle.odb_value.specs.declared.items.Item.TheVariants.{UInt8, Int8, Char, UInt16, Int16, UInt32, Int32, Bool as Truth, Text, Int64, UInt64}
use Rattle.odb_value.specs.Items.{IsItem}
use Rattle.odb_value.specs.Values.{HeldValue, IsValue, size_limit, items_limit}
use Rattle.odb_value.specs.ValueChanges.{size_with_item}
use Rattle.odb_tree.specs.declared.rows.NewKey.TheVariants.{Dir}
use Rattle.odb_tree.specs.declared.refusals.OdbRefusal.{OdbRefusal}
use Rattle.odb_tree.specs.declared.refusals.OdbRefusal.TheVariants.{Limit}
use Rattle.odb_tree.specs.declared.refusals.What.TheVariants.{Items, Size}
use Rattle.odb_tree.specs.Rows.{Rows, row_at}
use Rattle.odb_tree.specs.Calls.{reply_or, number_at, create_fault, after_create, put_fault, after_set_all, after_set_all_at}
use Rattle.odb_tree.specs.declared.rows.Row.{Row}
use Rattle.odb_tree.specs.Databases.{IsHeld, IsDatabase}
use Rattle.odb_value.specs.LinkValues.{IsLink}
use Rattle.odb_tree.specs.Links.{resolved, led_to}
use Rattle.odb_tree.proofs.Sound.{database_created, database_put}
use Rattle.odb_tree.proofs.Led.{resolved_path}
use Rattle.odb_text.specs.ItemLines.{is_string, IsFrontNumber, IsItemLine, IsAloneText}
use Rattle.odb_text.specs.LineForms.{behind_blank}
use Rattle.odb_text.specs.declared.acts.Act.{Act}
use Rattle.odb_text.specs.declared.acts.Act.TheVariants.{Make, Write, Skip}
use Rattle.odb_text.specs.TextSteps.{TextStep, fault_through, dir_refusal, after_make_by, many_fault, wide_fault, act_fault, after_act, or_refused, run_steps, dir_after, IsSoundAct}
use Rattle.odb_text.specs.Grammar.{SizedItem, AreItemLines, size_given, size_for, held_with, IsSingleKey, IsArrayHead, IsKeptKey, IsLinkKey, link_size, held_link, IsWrittenKey, SpellsAct, SpellsSteps}
use Rattle.odb_text.proofs.Loads.{runs_on}
use Rattle.odb_text.proofs.Written.{key_is_value}
use Rattle.odb_text.proofs.LinkKeys.{link_is}
use Rattle.odb_text.proofs.ReadSound.{path_sound, item_sound}

-- Items that were read, each with the size given for it.

record IsRead (type : Tid) (x : SizedItem) : Type 0 where
  item : IsItem type x.item
  zero : is_string type ≡ false → x.size ≡ 0

no_size : (b : Bool) (index : ℕ) (digits : List ℕ) (size : ℕ) → IsFrontNumber b index digits size → b ≡ false → size ≡ 0
no_size true index digits size h e = absurd (cc)
no_size false index digits size h e = h.1

line_read : (type : Tid) (index : ℕ) (line : List ℕ) (x : SizedItem) → IsItemLine type index line x.size x.item → IsRead type x
line_read type index line x h = record {
  item = item_sound type (behind_blank h.rest) x.item h.spells;
  zero = no_size (is_string type) index h.digits x.size h.number;
}

alone_read : (b : Bool) (type : Tid) (text : List ℕ) (x : SizedItem) → IsAloneText b type text x.size x.item → IsRead type x
alone_read true type text x h = line_read type 0 text x h
alone_read false type text x h = record { item = item_sound type text x.item h.0; zero = λ (e : is_string type ≡ false). h.1 }

lines_read : (type : Tid) (index : ℕ) (lines : List (List ℕ)) (xs : List SizedItem) → AreItemLines type index lines xs → AllByRecursion (IsRead type) xs
lines_read type index [] [] h = tt
lines_read type index [] (x ∷ xs) h = absurd h
lines_read type index (l ∷ ls) [] h = absurd h
lines_read type index (l ∷ ls) (x ∷ xs) h = (line_read type index l x h.0, lines_read type (index + 1) ls xs h.1)

items_sound : (type : Tid) (xs : List SizedItem) → AllByRecursion (IsRead type) xs → AllByRecursion (IsItem type) (map (λ (x : SizedItem). x.item) xs)
items_sound type [] h = tt
items_sound type (x ∷ xs) h = (h.0.item, items_sound type xs h.1)

-- without a STRING no size is given
zero_with : (type : Tid) (size : ℕ) (item : Item) → is_string type ≡ false → IsItem type item → size ≡ 0 → size_with_item size item ≡ 0
zero_with type size (UInt8 n) e h z = z
zero_with type size (Int8 n) e h z = z
zero_with type size (Char b) e h z = z
zero_with type size (UInt16 n) e h z = z
zero_with type size (Int16 n) e h z = z
zero_with type size (UInt32 n) e h z = z
zero_with type size (Int32 n) e h z = z
zero_with type size (Truth t) e h z = z
zero_with type size (Text bytes) e h z = (let k : true ≡ false = ap is_string h.tid ∙ e in absurd (cc))
zero_with type size (Int64 n) e h z = z
zero_with type size (UInt64 n) e h z = z

zero_given : (type : Tid) (xs : List SizedItem) → is_string type ≡ false → AllByRecursion (IsRead type) xs → size_given xs ≡ 0
zero_given type [] e h = refl
zero_given type (x ∷ xs) e h = omega (arith, zero_with type x.size x.item e h.0.item (h.0.zero e), zero_given type xs e h.1)

-- The value of a key that passes no limit of its own.

none_left : {X : Type 0} (o p : Option X) → option_or o p ≡ None → o ≡ None
none_left None p h = refl
none_left (Some x) p h = absurd (cc)

none_right : {X : Type 0} (o p : Option X) → option_or o p ≡ None → p ≡ None
none_right None p h = h
none_right (Some x) p h = absurd (cc)

within : (most n : ℕ) (x : OdbRefusal) → cond (nat_lt most n) (Some x) None ≡ None → n ≤ most
within most n x h = cases (nat_lt most n) refl h
  where
    cases : (t : Bool) → nat_lt most n ≡ t → cond t (Some x) None ≡ None → n ≤ most
    cases true e k = absurd (cc)
    cases false e k = grind (arith, nat_tests, e)

given_small : (b : Bool) (type : Tid) (xs : List SizedItem) → is_string type ≡ b → AllByRecursion (IsRead type) xs → size_for b type (size_given xs) ≤ size_limit → size_given xs ≤ size_limit
given_small true type xs e h k = k
given_small false type xs e h k = omega (arith, zero_given type xs e h)

value_sound : (type : Tid) (xs : List SizedItem) → AllByRecursion (IsRead type) xs → 1 ≤ length xs
    → option_or (many_fault (length (held_with type xs).items)) (wide_fault (held_with type xs).size) ≡ None → IsValue (held_with type xs)
value_sound type xs h some free =
    let many : Option OdbRefusal = many_fault (length (held_with type xs).items) in
    let wide : Option OdbRefusal = wide_fault (held_with type xs).size in
    let few : length (held_with type xs).items ≤ items_limit = within items_limit (length (held_with type xs).items) (Limit Items) (none_left many wide free) in
    let small : size_for (is_string type) type (size_given xs) ≤ size_limit =
    within size_limit (size_for (is_string type) type (size_given xs)) (Limit Size) (none_right many wide free) in
    key_is_value type xs (map (λ (x : SizedItem). x.item) xs) (size_given xs) refl refl (given_small (is_string type) type xs refl h small)
    (omega (arith, some, length-map xs (λ (x : SizedItem). x.item))) few
    (All-from_recursion (IsItem type) (map (λ (x : SizedItem). x.item) xs) (items_sound type xs h))

-- What is known of a key's lines.

record IsGoodKey (dir : List (List ℕ)) (name : List ℕ) (type : Tid) (xs : List SizedItem) : Type 0 where
  name_is : IsName name
  deep : length dir < depth_limit
  read : AllByRecursion (IsRead type) xs
  some : 1 ≤ length xs

single_good : (dir : List (List ℕ)) (line name : List ℕ) (type : Tid) (x : SizedItem) → IsSingleKey dir line name type x → IsGoodKey dir name type (x ∷ [])
single_good dir line name type x h = record {
  name_is = h.key.key.is_name;
  deep = h.key.deep;
  read = (alone_read (is_string type) type (behind_blank h.text) x h.item, tt);
  some = omega arith;
}

array_good : (dir : List (List ℕ)) (line name : List ℕ) (type : Tid) (n : ℕ) (more : List (List ℕ)) (xs : List SizedItem) → IsArrayHead dir line name type n → length xs ≡ n → AreItemLines type 0 more xs
    → IsGoodKey dir name type xs
array_good dir line name type n more xs h e k = record {
  name_is = h.key.key.is_name;
  deep = h.key.deep;
  read = lines_read type 0 more xs k;
  some = omega (arith, e, h.array.some);
}

key_good : (dir own : List (List ℕ)) (name : List ℕ) (type : Tid) (xs : List SizedItem) → IsKeptKey dir own name type xs → IsGoodKey dir name type xs
key_good dir [] name type xs h = absurd h
key_good dir (line ∷ more) name type xs h =
    elim h [
      | inl s ↦ subst (IsGoodKey dir name type) (sym s.3) (single_good dir line name type s.0 s.1)
      | inr a ↦ array_good dir line name type a.0 more xs a.1 a.2 a.3
    ]

-- A key that is written, whose value passes no limit of its own.

record IsGoodWrite (links : Bool) (dir : List (List ℕ)) (name : List ℕ) (v : HeldValue) : Type 0 where
  name_is : IsName name
  deep : length dir < depth_limit
  held : IsHeld links v

held_value : (links : Bool) (v : HeldValue) → IsValue v → IsHeld links v
held_value true v h = inl h
held_value false v h = h

held_kept : (links : Bool) (v : HeldValue) → links ≡ true → IsLink v → IsHeld links v
held_kept true v kept h = inr h
held_kept false v kept h = absurd (cc)

kept_written : (links : Bool) (dir : List (List ℕ)) (name : List ℕ) (type : Tid) (xs : List SizedItem) → IsGoodKey dir name type xs
    → option_or (many_fault (length (held_with type xs).items)) (wide_fault (held_with type xs).size) ≡ None → IsGoodWrite links dir name (held_with type xs)
kept_written links dir name type xs good free =
    record { name_is = good.name_is; deep = good.deep; held = held_value links (held_with type xs) (value_sound type xs good.read good.some free) }

link_written : (links : Bool) (dir : List (List ℕ)) (line name : List ℕ) (size : ℕ) (link : List ℕ) → links ≡ true → IsLinkKey dir line name size link
    → option_or (many_fault (length (held_link size link).items)) (wide_fault (held_link size link).size) ≡ None → IsGoodWrite links dir name (held_link size link)
link_written links dir line name size link kept h free = record {
  name_is = h.key.key.is_name;
  deep = h.key.deep;
  held = held_kept links (held_link size link) kept
      (link_is h.text size size link h.alone (none_right (many_fault (length (held_link size link).items)) (wide_fault (link_size size link)) free));
}

good_write : (links : Bool) (dir own : List (List ℕ)) (name : List ℕ) (v : HeldValue) → IsWrittenKey links dir own name v → option_or (many_fault (length v.items)) (wide_fault v.size) ≡ None → IsGoodWrite links dir name v
good_write links dir own name v h free =
    elim h [
      | inl k ↦
          subst (IsGoodWrite links dir name) (sym k.3)
          (kept_written links dir name k.0 k.1 (key_good dir own name k.0 k.1 k.2) (subst (λ (w : HeldValue). option_or (many_fault (length w.items)) (wide_fault w.size) ≡ None) k.3 free))
      | inr l ↦
          subst (IsGoodWrite links dir name) (sym l.6)
          (link_written links dir l.0 name l.1 l.2 l.3 l.5 (subst (λ (w : HeldValue). option_or (many_fault (length w.items)) (wide_fault w.size) ≡ None) l.6 free))
    ]

-- A step leaves it whether links are kept.

led_links : (s : Rows) (r : Result (List (List ℕ)) OdbRefusal) → (led_to s r (λ q. after_create s q Dir)).links ≡ s.links
led_links s (Ok q) = refl
led_links s (Err why) = refl

make_links : (s : Rows) (p : List (List ℕ)) (o : Option OdbRefusal) → (after_make_by s p o).links ≡ s.links
make_links s p None = led_links s (resolved s p false)
make_links s p (Some why) = refl

write_links : (s : Rows) (p : List (List ℕ)) (v : HeldValue) (o : Option Row) → (after_set_all_at s p v o).links ≡ s.links
write_links s p v None = refl
write_links s p v (Some r) = refl

pub act_links : (s : Rows) (act : Act) → (after_act s act).links ≡ s.links
act_links s (Make p) = make_links s p (dir_refusal s p)
act_links s (Write p v) = write_links s p v (row_at s.rows p)
act_links s (Skip items) = refl

-- A step that is not refused keeps a database.

record Keeps (s : Rows) (dir : List (List ℕ)) (act : Act) : Type 0 where
  database : IsDatabase (after_act s act)
  path : IsPath (dir_after dir act)

make_keeps : (s : Rows) (p : List (List ℕ)) (o : Option OdbRefusal) → dir_refusal s p ≡ o → IsDatabase s → IsPath p → IsDatabase (after_make_by s p o)
make_keeps s p None e h path = at (resolved s p false) refl e
  where
    at : (r : Result (List (List ℕ)) OdbRefusal) → resolved s p false ≡ r → fault_through r (λ q. create_fault s q Dir) ≡ None → IsDatabase (led_to s r (λ q. after_create s q Dir))
    at (Err why) is k = absurd (cc)
    at (Ok q) is k = database_created s q Dir None h (resolved_path s p q false h.rows path is) tt (sym k) refl
make_keeps s p (Some refusal) e h path = h

write_keeps : (s : Rows) (dir : List (List ℕ)) (name : List ℕ) (v : HeldValue) → IsDatabase s → IsPath dir → IsGoodWrite s.links dir name v
    → act_fault s (Write (dir ++ name ∷ []) v) ≡ None → IsDatabase (after_set_all s (dir ++ name ∷ []) v)
write_keeps s dir name v h path good free =
    let p : List (List ℕ) = dir ++ name ∷ [] in
    let rows : put_fault s p v ≡ None = none_right (option_or (many_fault (length v.items)) (wide_fault v.size)) (put_fault s p v) free in
    let n : ℕ = number_at s p (row_at s.rows p) in
    database_put s p v (Ok n) h (is_path_push dir name path good.deep good.name_is) good.held (ap (λ (o : Option OdbRefusal). reply_or o n) rows)

act_keeps : (links : Bool) (s : Rows) (dir own : List (List ℕ)) (act : Act) → links ≡ s.links → IsDatabase s → IsPath dir → SpellsAct links dir own act → act_fault s act ≡ None → Keeps s dir act
act_keeps links s dir own (Make p) same h path spells free =
    let good : IsPath p = path_sound spells.2.text p spells.2.path in
    record { database = make_keeps s p (dir_refusal s p) refl h good; path = good }
act_keeps links s dir own (Write p v) same h path spells free =
    let name : List ℕ = spells.0 in
    let own_clear : option_or (many_fault (length v.items)) (wide_fault v.size) ≡ None = none_left (option_or (many_fault (length v.items)) (wide_fault v.size)) (put_fault s p v) free in
    let good : IsGoodWrite s.links dir name v = subst (λ (kept : Bool). IsGoodWrite kept dir name v) same (good_write links dir own name v spells.1 own_clear) in
    record {
      database = subst (λ (q : List (List ℕ)). IsDatabase (after_set_all s q v)) (sym spells.2)
          (write_keeps s dir name v h path good (subst (λ (q : List (List ℕ)). act_fault s (Write q v) ≡ None) spells.2 free));
      path = path;
    }
act_keeps links s dir own (Skip items) same h path spells free = record { database = h; path = path }

-- and so do all steps.

pub steps_keep : (links : Bool) (number : ℕ) (dir lines : List (List ℕ)) (steps : List TextStep) (s after : Rows) → links ≡ s.links → IsDatabase s → IsPath dir → SpellsSteps links number dir lines steps → run_steps steps s ≡ Ok after
    → IsDatabase after
steps_keep links number dir lines [] s after same h path reads ran = (let one : s ≡ after = cc in subst IsDatabase one h)
steps_keep links number dir lines (step ∷ steps) s after same h path reads ran =
    cases (act_fault s step.act) refl ran (λ (now : Keeps s dir step.act) (k : run_steps steps (after_act s step.act) ≡ Ok after).
    steps_keep links (number + length reads.0 + length reads.1) (dir_after dir step.act) reads.2 steps (after_act s step.act) after (same ∙ sym (act_links s step.act)) now.database now.path reads.7 k)
  where
    cases : (o : Option OdbRefusal) → act_fault s step.act ≡ o → or_refused step.line o (run_steps steps (after_act s step.act)) ≡ Ok after
        → (Keeps s dir step.act → run_steps steps (after_act s step.act) ≡ Ok after → IsDatabase after) → IsDatabase after
    cases (Some why) e k rest = absurd (cc)
    cases None e k rest = rest (act_keeps links s dir reads.1 step.act same h path reads.6 e) k

root_is_path : IsPath []
root_is_path = record { short = omega arith; names = All-nil IsName }

pub load_keeps : (s after : Rows) (lines : List (List ℕ)) (steps : List TextStep) → IsDatabase s → SpellsSteps s.links 1 [] lines steps → run_steps steps s ≡ Ok after → IsDatabase after
load_keeps s after lines steps h reads ran = steps_keep s.links 1 [] lines steps s after refl h root_is_path reads ran

-- What steps ask for that are not refused is sound.

act_sound : (links : Bool) (s : Rows) (dir own : List (List ℕ)) (act : Act) → IsPath dir → SpellsAct links dir own act → act_fault s act ≡ None → IsSoundAct links act × IsPath (dir_after dir act)
act_sound links s dir own (Make p) path spells free = let good : IsPath p = path_sound spells.2.text p spells.2.path in (good, good)
act_sound links s dir own (Write p v) path spells free =
    let name : List ℕ = spells.0 in
    let good = good_write links dir own name v spells.1 (none_left (option_or (many_fault (length v.items)) (wide_fault v.size)) (put_fault s p v) free) in
    ((subst IsPath (sym spells.2) (is_path_push dir name path good.deep good.name_is), good.held), path)
act_sound links s dir own (Skip items) path spells free = (tt, path)

steps_sound : (links : Bool) (number : ℕ) (dir lines : List (List ℕ)) (steps : List TextStep) (s after : Rows) → IsPath dir → SpellsSteps links number dir lines steps → run_steps steps s ≡ Ok after
    → AllByRecursion (λ (step : TextStep). IsSoundAct links step.act) steps
steps_sound links number dir lines [] s after path reads ran = tt
steps_sound links number dir lines (step ∷ steps) s after path reads ran =
    let on = runs_on step.line (act_fault s step.act) (run_steps steps (after_act s step.act)) after ran in
    let here = act_sound links s dir reads.1 step.act path reads.6 on.0 in
    (here.0, steps_sound links (number + length reads.0 + length reads.1) (dir_after dir step.act) reads.2 steps (after_act s step.act) after here.1 reads.7 on.1)

pub text_sound : (s after : Rows) (lines : List (List ℕ)) (steps : List TextStep) → SpellsSteps s.links 1 [] lines steps → run_steps steps s ≡ Ok after → AllByRecursion (λ (step : TextStep). IsSoundAct s.links step.act) steps
text_sound s after lines steps reads ran = steps_sound s.links 1 [] lines steps s after root_is_path reads ran
