-- A row that may be made next is made by the step that a dump has for it: nothing refuses it, and the row alone comes.
use Rattle.std.proofs.Common.{◌≡◌, ℕ, zero, suc, ◌+◌, ◌-◌, ◌≤◌, Bool, true, false, cond, eqb, List, [], ◌∷◌, ◌++◌, length, drop, Option, Some, None, Result, Ok, inl, inr, refl, sym, ap, ◌∙◌, arith, append_assoc, append-nil, length-append, ne_eqb}
use Rattle.std.specs.Prelude.{◌^◌, IfSome}
use Rattle.std.specs.Option.{option_or, option_map, is_some}
use Rattle.std.proofs.lemmas.Bool.{le-ltb}
use Rattle.std.proofs.lemmas.List.Sums.{sum_by_push}
use Rattle.odb_value.specs.Values.{HeldValue, IsValue, size_limit, items_limit}
use Rattle.odb_tree.specs.declared.rows.Row.{Row}
use Rattle.odb_tree.specs.declared.rows.NewKey.TheVariants.{Dir}
use Rattle.odb_tree.specs.declared.refusals.OdbRefusal.{OdbRefusal}
use Rattle.odb_tree.specs.declared.refusals.OdbRefusal.TheVariants.{Exists, Limit, NotKept}
use Rattle.odb_tree.specs.declared.refusals.What.TheVariants.{Keys, Items, Size, Total, Rows as RowNumbers}
use Rattle.odb_tree.specs.Rows.{Rows, row_at, bytes_of_row, total_of}
use Rattle.odb_tree.specs.Limits.{rows_limit, total_limit, text_fault, limit_fault, number_fault, total_fault, IsWithin}
use Rattle.odb_tree.specs.Lookups.{parent_of, obstacle_from, obstacle_to_new}
use Rattle.odb_tree.specs.Making.{Way, further, go_on, no_way, way_to, last_of, created}
use Rattle.odb_tree.specs.Places.{made_for}
use Rattle.odb_tree.specs.Calls.{exists_fault, create_fault, after_create, tid_fault, link_fault, directory_fault, value_fault, there_fault, own_fault, set_all_fault, put_fault, after_set_all, after_set_all_at}
use Rattle.odb_tree.specs.Links.{resolved, led_to}
use Rattle.odb_tree.specs.Databases.{IsHeld}
use Rattle.odb_value.specs.LinkValues.{IsLink}
use Rattle.daq_types.specs.declared.types.Tid.{Tid}
use Rattle.daq_types.specs.declared.types.Tid.TheVariants as tid
use Rattle.odb_value.specs.declared.items.Item.{Item}
use Rattle.odb_value.specs.declared.items.Item.TheVariants.{Text}
use Rattle.odb_value.specs.ItemTexts.{text_limit}
use Rattle.odb_tree.specs.declared.refusals.What.{What}
use Rattle.std.proofs.lemmas.Bool.Decides.{nat_tests}
use Rattle.odb_text.proofs.Unled.{placed_unled}
use Rattle.odb_tree.specs.Trees.{IsDir, IsPlaced, ArePlaced, AreApart, IsTree, IsNewRow, with_rows}
use Rattle.odb_tree.specs.WalkLaws.{NoneAt}
use Rattle.odb_tree.proofs.Kept.{created_with}
use Rattle.odb_tree.proofs.FaultLemmas.{create_is, set_all_new}
use Rattle.odb_value.specs.Items.{is_kept}
use Rattle.odb_value.proofs.ValueKept.{is_kept-value}
use Rattle.odb_text.specs.declared.acts.Act.{Act}
use Rattle.odb_text.specs.TextSteps.{fault_through, dir_refusal, make_fault_by, after_make_by, many_fault, wide_fault, act_fault, after_act}
use Rattle.odb_text.specs.DumpSteps.{act_with, act_for}
use Rattle.odb_text.proofs.Found.{row_found, placed_in, clear_to, parent_is, or_nothing}
use Rattle.odb_text.proofs.DumpKeys.{own_size_small}

-- The way to a directory that is there makes none, and spells it as it is.

go_last : (rows : List Row) (next : ℕ) (reached names : List (List ℕ)) (name : List ℕ) (way : Way)
    → go_on rows next reached (names ++ name ∷ []) way ≡ further next name (go_on rows next reached names way) (row_at rows ((reached ++ names) ++ name ∷ []))
go_last rows next reached [] name way = ap (λ (q : List (List ℕ)). further next name way (row_at rows (q ++ name ∷ []))) (sym (append-nil reached))
go_last rows next reached (n ∷ names) name way =
    let more : Way = further next n way (row_at rows (reached ++ n ∷ [])) in
    go_last rows next (reached ++ n ∷ []) names name more
    ∙ ap (λ (q : List (List ℕ)). further next name (go_on rows next (reached ++ n ∷ []) names more) (row_at rows (q ++ name ∷ []))) (append_assoc reached (n ∷ []) names)

-- a way that makes no directory
abbrev plain_way : List (List ℕ) → Way
plain_way p = record { path = p; dirs = [] }

goes_there : (most : ℕ) (rows : List Row) (next : ℕ) (p : List (List ℕ)) → ArePlaced [] rows → AreApart rows → IsDir rows p → length p ≤ most → go_on rows next [] p no_way ≡ plain_way p
goes_there most rows next p placed apart (inl e) short = ap (λ (q : List (List ℕ)). go_on rows next [] q no_way) e ∙ ap plain_way (sym e)
goes_there zero rows next p placed apart (inr h) short =
    let k = placed_in rows h.front h.dir h.back h.there placed in
    absurd (omega (arith, short, ap (length {A = List ℕ}) (sym h.path ∙ k.path), length-append k.parent (k.name ∷ [])))
goes_there (suc most) rows next p placed apart (inr h) short =
    let k = placed_in rows h.front h.dir h.back h.there placed in
    let e : p ≡ k.parent ++ k.name ∷ [] = sym h.path ∙ k.path in
    let above : go_on rows next [] k.parent no_way ≡ plain_way k.parent =
    goes_there most rows next k.parent placed apart k.there (omega (arith, short, ap (length {A = List ℕ}) e, length-append k.parent (k.name ∷ []))) in
    let found : row_at rows (k.parent ++ k.name ∷ []) ≡ Some h.dir = ap (row_at rows) (sym k.path) ∙ row_found rows h.front h.dir h.back h.there apart in
    ap (λ (q : List (List ℕ)). go_on rows next [] q no_way) e
    ∙ (go_last rows next [] k.parent k.name no_way
    ∙ (ap (λ (w : Way). further next k.name w (row_at rows (k.parent ++ k.name ∷ []))) above
    ∙ (ap (further next k.name (plain_way k.parent)) found ∙ ap plain_way h.path)))

last_there : (p : List (List ℕ)) (name : List ℕ) → last_of (p ++ name ∷ []) ≡ name ∷ []
last_there p name =
    ap (λ (n : ℕ). drop n (p ++ name ∷ [])) {x = length (p ++ name ∷ []) - 1} {y = length p} (omega (arith, length-append p (name ∷ []))) ∙ behind p
  where
    behind : (xs : List (List ℕ)) → drop (length xs) (xs ++ name ∷ []) ≡ name ∷ []
    behind [] = refl
    behind (x ∷ xs) = behind xs

abbrev row_with : ℕ → List (List ℕ) → Option HeldValue → Row
row_with n q value = record { number = n; path = q; value = value }

-- so the row alone is made
made_there : (s : Rows) (q : List (List ℕ)) (value : Option HeldValue) → IsTree s → IsPlaced s.rows q → made_for s q value ≡ row_with s.next q value ∷ []
made_there s q value tree k =
    let parent : parent_of q ≡ k.parent = ap parent_of k.path ∙ parent_is k.parent k.name in
    let way : way_to s q ≡ plain_way k.parent =
    ap (λ (x : List (List ℕ)). go_on s.rows s.next [] x no_way) parent ∙ goes_there (length k.parent) s.rows s.next k.parent tree.placed tree.apart k.there (omega arith) in
    let end : last_of q ≡ k.name ∷ [] = ap last_of k.path ∙ last_there k.parent k.name in
    ap (λ (w : Way). w.dirs ++ row_with (s.next + length w.dirs) (w.path ++ last_of q) value ∷ []) way
    ∙ (ap (λ (x : List (List ℕ)). row_with (s.next + 0) (k.parent ++ x) value ∷ []) end
    ∙ (ap (λ (n : ℕ). row_with n (k.parent ++ k.name ∷ []) value ∷ []) {x = s.next + 0} {y = s.next} (omega arith)
    ∙ ap (λ (x : List (List ℕ)). row_with s.next x value ∷ []) (sym k.path)))

pub created_alone : (s : Rows) (new : Row) → IsTree s → IsNewRow s new → created s new.path new.value ≡ with_rows s (new ∷ [])
created_alone s new tree h =
    created_with s new.path new.value
    ∙ ap (with_rows s) (made_there s new.path new.value tree h.placed ∙ ap (λ (n : ℕ). row_with n new.path new.value ∷ []) (sym h.number))

-- Nothing refuses it.

none_found : (rows : List Row) (p : List (List ℕ)) → NoneAt p rows → row_at rows p ≡ None
unfolding NoneAt
none_found [] p h = refl
none_found (r ∷ rs) p h = ap (λ (t : Bool). cond t (Some r) (row_at rs p)) h.0 ∙ none_found rs p h.1

clear_way : (s : Rows) (q : List (List ℕ)) → IsTree s → IsPlaced s.rows q → obstacle_to_new s.rows q ≡ None
clear_way s q tree k =
    ap (obstacle_from None s.rows []) (ap parent_of k.path ∙ parent_is k.parent k.name) ∙ clear_to (length k.parent) None s.rows k.parent tree.placed tree.apart k.there (omega arith)

long_path : (rows : List Row) (q : List (List ℕ)) → IsPlaced rows q → eqb (length q) 0 ≡ false
long_path rows q k = ne_eqb (length q) 0 (λ (e : length q ≡ 0). absurd (omega (arith, e, ap (length {A = List ℕ}) k.path, length-append k.parent (k.name ∷ []))))

not_there : (rows : List Row) (q : List (List ℕ)) → eqb (length q) 0 ≡ false → row_at rows q ≡ None → exists_fault rows q ≡ None
not_there rows [] h k = absurd (cc)
not_there rows (name ∷ names) h k = ap (λ (o : Option Row). cond (is_some o) (Some Exists) None) k

fits : (after : Rows) → IsWithin after → limit_fault None after ≡ None
fits after h =
    ap (λ (t : Bool). option_map Limit (cond t (Some Keys) (total_fault (total_of after.rows) after.next))) (le-ltb rows_limit (length after.rows) h.rows)
    ∙ (ap (λ (t : Bool). option_map Limit (cond t (Some Total) (number_fault after.next))) (le-ltb total_limit (total_of after.rows) h.total)
    ∙ ap (λ (t : Bool). option_map Limit (cond t (Some RowNumbers) None)) (le-ltb (2 ^ 32) after.next h.next))

no_other : (x : OdbRefusal) → ◌≡◌ {A = Option OdbRefusal} None (Some x) → ⊥
no_other x e = cc

-- the limits of a value, known of its lines alone
own_clear : (v : HeldValue) → IsValue v → option_or (many_fault (length v.items)) (wide_fault v.size) ≡ None
own_clear v h =
    or_nothing (many_fault (length v.items)) (wide_fault v.size)
    (ap (λ (t : Bool). cond t (Some (Limit Items)) None) (le-ltb items_limit (length v.items) h.many))
    (ap (λ (t : Bool). cond t (Some (Limit Size)) None) (le-ltb size_limit v.size (own_size_small v.tid v.size h.size)))

link_own : (v : HeldValue) → IsLink v → option_or (many_fault (length v.items)) (wide_fault v.size) ≡ None
link_own v l =
    or_nothing (many_fault (length v.items)) (wide_fault v.size)
    (ap (λ (t : Bool). cond t (Some (Limit Items)) None) (le-ltb items_limit (length v.items) (omega (arith, ap (length {A = Item}) l.one))))
    (ap (λ (t : Bool). cond t (Some (Limit Size)) None) (le-ltb size_limit v.size (omega (arith, l.size, l.short))))

-- a step is not refused, and leads to these rows
pub record StepRuns (s : Rows) (act : Act) (after : Rows) : Type 0 where
  pub clear : act_fault s act ≡ None
  pub next : after_act s act ≡ after

-- a value that may be kept

link_kept : (links : Bool) (type : Tid) → tid_fault type ≡ None → link_fault links type ≡ None
link_kept true tid.Link h = refl
link_kept true _ h = h
link_kept false type h = h

or_left : (a b : Option OdbRefusal) → option_or a b ≡ None → a ≡ None
or_left None b h = refl
or_left (Some x) b h = absurd (cc)

or_right : (a b : Option OdbRefusal) → option_or a b ≡ None → b ≡ None
or_right None b h = h
or_right (Some x) b h = absurd (cc)

-- where `set_all` is not refused, `put` is not
put_with : (s : Rows) (q : List (List ℕ)) (v : HeldValue) → set_all_fault s q v ≡ None → put_fault s q v ≡ None
put_with s q v h =
    let rest : Option OdbRefusal = option_or (there_fault v.tid (row_at s.rows q)) (limit_fault (own_fault v) (after_set_all s q v)) in
    let value = or_right (obstacle_to_new s.rows q) (option_or (value_fault s.rows q) (option_or (tid_fault v.tid) rest)) h in
    let type = or_right (value_fault s.rows q) (option_or (tid_fault v.tid) rest) value in
    or_nothing (obstacle_to_new s.rows q) (option_or (value_fault s.rows q) (option_or (link_fault s.links v.tid) rest))
    (or_left (obstacle_to_new s.rows q) (option_or (value_fault s.rows q) (option_or (tid_fault v.tid) rest)) h)
    (or_nothing (value_fault s.rows q) (option_or (link_fault s.links v.tid) rest) (or_left (value_fault s.rows q) (option_or (tid_fault v.tid) rest) value)
    (or_nothing (link_fault s.links v.tid) rest (link_kept s.links v.tid (or_left (tid_fault v.tid) rest type)) (or_right (tid_fault v.tid) rest type)))

tid_right : (v : HeldValue) → IsValue v → tid_fault v.tid ≡ None
tid_right v h = ap (λ (t : Bool). cond t None (Some (NotKept v.tid))) (is_kept-value v h)

value_clear : (s : Rows) (q : List (List ℕ)) (v : HeldValue) → eqb (length q) 0 ≡ false → row_at s.rows q ≡ None → obstacle_to_new s.rows q ≡ None → limit_fault None (created s q (Some v)) ≡ None → IsValue v → put_fault s q v ≡ None
value_clear s q v named free clear limits value =
    put_with s q v
    (sym (set_all_new s q v None None named free (inl value) (sym clear) no_other
    (sym (ap (λ (o : Option OdbRefusal). option_or o (limit_fault None (created s q (Some v)))) (tid_right v value) ∙ limits))))

-- a link that may be kept

not_long : (bytes : List ℕ) → length bytes ≤ text_limit → text_fault (Text bytes) ≡ None
not_long bytes h = grind (arith, nat_tests, h)

own_link : (v : HeldValue) → IsLink v → own_fault v ≡ None
own_link v l = rw (l.one, not_long l.text l.short) refl

no_value : (rows : List Row) (q : List (List ℕ)) → eqb (length q) 0 ≡ false → row_at rows q ≡ None → value_fault rows q ≡ None
no_value rows [] h k = absurd (cc)
no_value rows (name ∷ names) h k = ap directory_fault k

link_clear : (s : Rows) (q : List (List ℕ)) (v : HeldValue) → s.links ≡ true → eqb (length q) 0 ≡ false → row_at s.rows q ≡ None → obstacle_to_new s.rows q ≡ None → limit_fault None (created s q (Some v)) ≡ None → IsLink v
    → put_fault s q v ≡ None
link_clear s q v kept named free clear limits l =
    let limit : limit_fault (own_fault v) (after_set_all s q v) ≡ None =
    ap (λ (o : Option What). limit_fault o (after_set_all s q v)) (own_link v l) ∙ (ap (λ (o : Option Row). limit_fault None (after_set_all_at s q v o)) free ∙ limits) in
    let type : link_fault s.links v.tid ≡ None = ap (λ (b : Bool). link_fault b v.tid) kept ∙ ap (link_fault true) l.of_type in
    or_nothing (obstacle_to_new s.rows q) (option_or (value_fault s.rows q) (option_or (link_fault s.links v.tid) (option_or (there_fault v.tid (row_at s.rows q)) (limit_fault (own_fault v) (after_set_all s q v))))) clear
    (or_nothing (value_fault s.rows q) (option_or (link_fault s.links v.tid) (option_or (there_fault v.tid (row_at s.rows q)) (limit_fault (own_fault v) (after_set_all s q v)))) (no_value s.rows q named free)
    (or_nothing (link_fault s.links v.tid) (option_or (there_fault v.tid (row_at s.rows q)) (limit_fault (own_fault v) (after_set_all s q v))) type
    (or_nothing (there_fault v.tid (row_at s.rows q)) (limit_fault (own_fault v) (after_set_all s q v)) (ap (there_fault v.tid) free) limit)))

held_clear : (links : Bool) (s : Rows) (q : List (List ℕ)) (v : HeldValue) → s.links ≡ links → eqb (length q) 0 ≡ false → row_at s.rows q ≡ None → obstacle_to_new s.rows q ≡ None → limit_fault None (created s q (Some v)) ≡ None
    → IsHeld links v → put_fault s q v ≡ None
held_clear false s q v kept named free clear limits h = value_clear s q v named free clear limits h
held_clear true s q v kept named free clear limits (inl h) = value_clear s q v named free clear limits h
held_clear true s q v kept named free clear limits (inr l) = link_clear s q v kept named free clear limits l

held_own : (links : Bool) (v : HeldValue) → IsHeld links v → option_or (many_fault (length v.items)) (wide_fault v.size) ≡ None
held_own false v h = own_clear v h
held_own true v (inl h) = own_clear v h
held_own true v (inr l) = link_own v l

runs_with : (s : Rows) (q : List (List ℕ)) (o : Option HeldValue) (after : Rows) → IsTree s → IsPlaced s.rows q → row_at s.rows q ≡ None → created s q o ≡ after → IsWithin after → IfSome o (IsHeld s.links)
    → StepRuns s (act_with q o) after
runs_with s q None after tree k free is within value =
    let led : resolved s q false ≡ Ok q = placed_unled s q tree k in
    let limits : limit_fault None (created s q None) ≡ None = ap (limit_fault None) is ∙ fits after within in
    let fault : create_fault s q Dir ≡ None =
    sym (create_is s q Dir None None None None (sym (clear_way s q tree k)) no_other (sym (not_there s.rows q (long_path s.rows q k) free)) no_other refl no_other (sym limits)) in
    let refusal : dir_refusal s q ≡ None = ap (λ (r : Result (List (List ℕ)) OdbRefusal). fault_through r (λ x. create_fault s x Dir)) led ∙ fault in
    record {
      clear = ap (make_fault_by s q) refusal;
      next = ap (after_make_by s q) refusal ∙ (ap (λ (r : Result (List (List ℕ)) OdbRefusal). led_to s r (λ x. after_create s x Dir)) led ∙ is);
    }
runs_with s q (Some v) after tree k free is within value =
    let limits : limit_fault None (created s q (Some v)) ≡ None = ap (limit_fault None) is ∙ fits after within in
    record {
      clear = or_nothing (option_or (many_fault (length v.items)) (wide_fault v.size)) (put_fault s q v) (held_own s.links v value)
          (held_clear s.links s q v refl (long_path s.rows q k) free (clear_way s q tree k) limits value);
      next = ap (after_set_all_at s q v) free ∙ is;
    }

pub row_remade : (s : Rows) (new : Row) → IsTree s → IsNewRow s new → IsWithin (with_rows s (new ∷ [])) → IfSome new.value (IsHeld s.links) → StepRuns s (act_for new) (with_rows s (new ∷ []))
row_remade s new tree h within value =
    runs_with s new.path new.value (with_rows s (new ∷ [])) tree h.placed (none_found s.rows new.path h.free) (created_alone s new tree h) within value

-- no limit is passed with it, where there is room for it and further ones
pub record HasSpace (s : Rows) (count bytes : ℕ) : Type 0 where
  pub rows : length s.rows + count ≤ rows_limit
  pub total : total_of s.rows + bytes ≤ total_limit
  pub next : s.next + count ≤ 2 ^ 32

pub room_less : (s : Rows) (new : Row) (count bytes : ℕ) → HasSpace s (suc count) (bytes_of_row new + bytes) → HasSpace (with_rows s (new ∷ [])) count bytes
room_less s new count bytes h = record {
  rows = omega (arith, h.rows, length-append s.rows (new ∷ []));
  total = omega (arith, h.total, sum_by_push bytes_of_row s.rows new);
  next = omega (arith, h.next);
}

pub room_within : (s : Rows) (count bytes : ℕ) → HasSpace s count bytes → IsWithin s
room_within s count bytes h = record { rows = omega (arith, h.rows); total = omega (arith, h.total); next = omega (arith, h.next) }
