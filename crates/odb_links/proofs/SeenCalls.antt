-- A call at the path after its links, as a call on the database below.
use Rattle.std.proofs.Common.{◌≡◌, ◌≢◌, ℕ, zero, suc, ◌+◌, ◌-◌, Bool, true, false, cond, ◌||◌, List, [], ◌∷◌, length, Option, Some, None, Result, Ok, Err, ◌⊎◌, inl, inr, refl, sym, ap, ◌∙◌, subst}
use Rattle.std.specs.Prelude.{All}
use Rattle.daq_types.specs.declared.types.Tid.{Tid}
use Rattle.daq_types.specs.declared.types.Tid.TheVariants as tid
use Rattle.odb_value.specs.Paths.{IsPath}
use Rattle.odb_value.specs.declared.items.Item.{Item}
use Rattle.odb_value.specs.Items.{tid_of, IsSound}
use Rattle.odb_value.specs.Values.{HeldValue}
use Rattle.odb_value.specs.LinkValues.{IsValueOrLink}
use Rattle.odb_value.specs.ValueChanges.{put_in, resized}
use Rattle.odb_tree.specs.declared.rows.Row.{Row}
use Rattle.odb_tree.specs.declared.rows.NewKey.{NewKey}
use Rattle.odb_tree.specs.declared.rows.NewKey.TheVariants.{Dir, Keys, Link as new_link}
use Rattle.odb_tree.specs.declared.children.Child.{Child}
use Rattle.odb_tree.specs.declared.notes.Watch.{Watch}
use Rattle.odb_tree.specs.declared.refusals.OdbRefusal.{OdbRefusal}
use Rattle.odb_tree.specs.declared.refusals.OdbRefusal.TheVariants.{NoMemory}
use Rattle.odb_tree.specs.declared.entry.DatabaseEntry.{DatabaseEntry}
use Rattle.odb_tree.specs.declared.entry.DatabaseEntry.TheVariants.{Create, Set, SetAll, Get, Find, ListDir, Resize}
use Rattle.odb_tree.specs.Rows.{Rows, row_at}
use Rattle.odb_tree.specs.Links.{resolved, meets_link, through, led_to}
use Rattle.odb_tree.specs.Calls.{Gives, GivesTaking, GivesIf, GivesItem, makes_link, IsRowsReply, rows_after, rows_there, is_row_below, create_reply, set_reply, set_all_reply, get_reply, find_reply, list_reply, resize_reply, after_create, after_set, after_set_all, after_set_all_at, after_resize, new_value}
use Rattle.odb_tree.specs.Databases.{IsSoundCall, IsSoundKey}
use Rattle.odb_tree.specs.Noting.{Change, with_note, noted_all, all_noted, changes_from, changes_for, changes_of}
use Rattle.odb_tree.proofs.Noted.{none_noted}
use Rattle.odb_tree.proofs.Led.{unlinked, unmet, after_unlinked, taking, tight}
use Rattle.odb_tree.proofs.Sound.{database_after, links_after}
use Rattle.odb_links.specs.declared.links.Link.{Link}
use Rattle.odb_links.specs.Seen.{seen, LinksRise, IsRight, AreLinks}
use Rattle.odb_links.specs.Writing.{IsFreeOfLinks}
use Rattle.odb_links.proofs.Replies.{free_after, IsNoLink, created_plain, create_same, set_leaves, set_same, resize_leaves, resize_same, set_all_leaves, set_all_same, get_same, find_same, list_same, below_same, right_created, right_changed}

-- notes

-- the same changes are noted where the same rows lie below the same
noted_alike : (a b : Rows) → ((row above : ℕ) → is_row_below a row above ≡ is_row_below b row above) → (row first count : ℕ) (k : Watch) → noted_all k (changes_from a row first count) ≡ noted_all k (changes_from b row first count)
noted_alike a b same row first zero k = refl
noted_alike a b same row first (suc count) k =
    ap (λ (t : Bool). noted_all (cond t (with_note k (record { row = row; index = first })) k) (changes_from a row (first + 1) count)) (same row k.row)
    ∙ noted_alike a b same row (first + 1) count (cond (is_row_below b row k.row) (with_note k (record { row = row; index = first })) k)

slots_alike : (cs ds : List Change) → ((k : Watch) → noted_all k cs ≡ noted_all k ds) → (ws : List (Option Watch)) → all_noted cs ws ≡ all_noted ds ws
slots_alike cs ds same [] = refl
slots_alike cs ds same (None ∷ ws) = ap (λ (l : List (Option Watch)). None ∷ l) (slots_alike cs ds same ws)
slots_alike cs ds same (Some k ∷ ws) = ap (λ (w : Watch). Some w ∷ all_noted cs ws) (same k) ∙ ap (λ (l : List (Option Watch)). Some (noted_all k ds) ∷ l) (slots_alike cs ds same ws)

pub notes_alike : (a b : Rows) → ((row above : ℕ) → is_row_below a row above ≡ is_row_below b row above) → (reply : Result ℕ OdbRefusal) (first count : ℕ) (ws : List (Option Watch))
    → all_noted (changes_for a reply first count) ws ≡ all_noted (changes_for b reply first count) ws
notes_alike a b same (Ok row) first count ws = slots_alike (changes_from a row first count) (changes_from b row first count) (noted_alike a b same row first count) ws
notes_alike a b same (Err why) first count ws = refl

pub notes_seen : (links : List Link) (a b : Rows) → a ≡ seen links b → (reply : Result ℕ OdbRefusal) (first count : ℕ) (ws : List (Option Watch))
    → all_noted (changes_for b reply first count) ws ≡ all_noted (changes_for a reply first count) ws
notes_seen links a b e reply first count ws =
    notes_alike b a (λ row above. sym (below_same links b row above) ∙ ap (λ (t : Rows). is_row_below t row above) (sym e)) reply first count ws

-- calls

-- What a call on the database below makes of this one: its reply is that of the call here, the same links are kept, and
-- the rows and the notes are those that the call here leaves.
pub record IsSeenAs (links : List Link) (s : Rows) (step entry : DatabaseEntry) : Type 0 where
  pub reply : IsRowsReply (seen links s) entry
  pub links_kept : AreLinks links (rows_after s step)
  pub after : seen links (rows_after s step) ≡ rows_after (seen links s) entry
  pub notes : (ws : List (Option Watch)) → all_noted (changes_of s step) ws ≡ all_noted (changes_of (seen links s) entry) ws

-- links are kept where the order and the texts are
pub still_links : (links : List Link) (s : Rows) (step : DatabaseEntry) → AreLinks links s → IsSoundCall step → IsRowsReply s step → LinksRise 1 links (rows_after s step).next × All (IsRight links) (rows_after s step).rows → AreLinks links (rows_after s step)
still_links links s step h sound reply kept = record {
  plain = links_after s step reply ∙ h.plain;
  database = database_after s step h.database sound reply;
  order = kept.0;
  right = kept.1;
}

pub gives_below : {X : Type 0} (given : Result X OdbRefusal) (s : Rows) (q : List (List ℕ)) (last : Bool) (reply : List (List ℕ) → Result X OdbRefusal) → s.links ≡ false → GivesTaking (meets_link s q last) given (through (resolved s q last) reply) → Gives given (reply q)
gives_below given s q last reply plain h =
    tight given (reply q) (subst (λ (r : Result (List (List ℕ)) OdbRefusal). GivesTaking false given (through r reply)) (unlinked s q last plain)
    (subst (λ (b : Bool). GivesTaking b given (through (resolved s q last) reply)) (unmet s q last plain) h))

create_below : (s : Rows) (q : List (List ℕ)) (kind : NewKey) (reply : Result ℕ OdbRefusal) → IsNoLink kind → s.links ≡ false → IsRowsReply s (Create q kind reply) → Gives reply (create_reply s q kind)
create_below s q Dir reply no_link plain h = gives_below reply s q false (λ x. create_reply s x Dir) plain h
create_below s q (Keys type len) reply no_link plain h = gives_below reply s q false (λ x. create_reply s x (Keys type len)) plain h
create_below s q (new_link target) reply no_link plain h = absurd (no_link target refl)

gives_here : {X : Type 0} (early : Bool) (given : Result X OdbRefusal) (t : Rows) (p q : List (List ℕ)) (last : Bool) (reply : List (List ℕ) → Result X OdbRefusal) (below : Result X OdbRefusal) → resolved t p last ≡ Ok q → reply q ≡ below → Gives given below → GivesTaking early given (through (resolved t p last) reply)
gives_here early given t p q last reply below e same h =
    taking early given (through (resolved t p last) reply)
    (subst (λ (r : Result (List (List ℕ)) OdbRefusal). Gives given (through r reply)) (sym e) (subst (λ (x : Result _ OdbRefusal). Gives given x) (sym same) h))

pub create_seen : (links : List Link) (s : Rows) (p q : List (List ℕ)) (kind : NewKey) (reply : Result ℕ OdbRefusal) → AreLinks links s → IsNoLink kind → IsPath q → resolved (seen links s) p false ≡ Ok q
    → IsRowsReply s (Create q kind reply) → IsSeenAs links s (Create q kind reply) (Create p kind reply)
create_seen links s p q kind reply h plain path e given = record {
  reply = gives_here (makes_link kind || meets_link (seen links s) p false) reply (seen links s) p q false (λ x. create_reply (seen links s) x kind) (create_reply s q kind) e (create_same links s q kind h plain)
      (create_below s q kind reply plain h.plain given);
  links_kept = still_links links s (Create q kind reply) h (path, sound kind plain) given (kept reply);
  after = leaves kind reply;
  notes = noted kind plain;
}
  where
    sound : (k : NewKey) → IsNoLink k → IsSoundKey k
    sound Dir no_link = tt
    sound (Keys type len) no_link = tt
    sound (new_link target) no_link = absurd (no_link target refl)

    kept : (reply : Result ℕ OdbRefusal) → LinksRise 1 links (rows_after s (Create q kind reply)).next × All (IsRight links) (rows_after s (Create q kind reply)).rows
    kept (Ok n) = subst (λ (t : Rows). LinksRise 1 links t.next × All (IsRight links) t.rows) (sym (after_unlinked s (Create q kind (Ok n)) h.plain)) (right_created links s q (new_value kind) h.order h.right)
    kept (Err why) = (h.order, h.right)

    leaves : (k : NewKey) (reply : Result ℕ OdbRefusal) → seen links (rows_after s (Create q k reply)) ≡ rows_after (seen links s) (Create p k reply)
    leaves k (Ok n) =
        ap (seen links) (after_unlinked s (Create q k (Ok n)) h.plain)
        ∙ (sym (created_plain links s q (new_value k) h.order) ∙ ap (λ (r : Result (List (List ℕ)) OdbRefusal). led_to (seen links s) r (λ x. after_create (seen links s) x k)) (sym e))
    leaves k (Err why) = refl

    noted : (k : NewKey) → IsNoLink k → (ws : List (Option Watch)) → all_noted (changes_of s (Create q k reply)) ws ≡ all_noted (changes_of (seen links s) (Create p k reply)) ws
    noted Dir no_link ws = refl
    noted (Keys type len) no_link ws =
        notes_seen links (rows_after (seen links s) (Create p (Keys type len) reply)) (rows_after s (Create q (Keys type len) reply)) (sym (leaves (Keys type len) reply)) reply 0 1 ws
    noted (new_link target) no_link ws = absurd (no_link target refl)

item_below : (type : Tid) (given : Result ℕ OdbRefusal) (s : Rows) (q : List (List ℕ)) (reply : List (List ℕ) → Result ℕ OdbRefusal) → s.links ≡ false → GivesItem (meets_link s q true) type given (through (resolved s q true) reply)
    → GivesItem false type given (reply q)
item_below type given s q reply plain h =
    subst (λ (r : Result (List (List ℕ)) OdbRefusal). GivesItem false type given (through r reply)) (unlinked s q true plain)
    (subst (λ (b : Bool). GivesItem b type given (through (resolved s q true) reply)) (unmet s q true plain) h)

-- where no memory is wanting there, none is here
item_more : (met : Bool) (type : Tid) (given reply : Result ℕ OdbRefusal) → GivesItem false type given reply → GivesItem met type given reply
item_more met tid.Text given reply h = taking met given reply (tight given reply h)
item_more false _ given reply h = h
item_more true _ (Ok n) reply h = sym h
item_more true _ (Err why) reply h = λ memory. sym h

pub set_seen : (links : List Link) (s : Rows) (p q : List (List ℕ)) (index : ℕ) (item : Item) (reply : Result ℕ OdbRefusal) → AreLinks links s → IsPath q → IsSound item → resolved (seen links s) p true ≡ Ok q
    → IsRowsReply s (Set q index item reply) → IsSeenAs links s (Set q index item reply) (Set p index item reply)
set_seen links s p q index item reply h path sound e given = record {
  reply = item_more (meets_link (seen links s) p true) (tid_of item) reply (through (resolved (seen links s) p true) (λ x. set_reply (seen links s) x index item))
      (subst (λ (r : Result (List (List ℕ)) OdbRefusal). GivesItem false (tid_of item) reply (through r (λ x. set_reply (seen links s) x index item))) (sym e)
      (subst (GivesItem false (tid_of item) reply) (sym (set_same links s q index item free)) (item_below (tid_of item) reply s q (λ x. set_reply s x index item) h.plain given)));
  links_kept = still_links links s (Set q index item reply) h (path, sound) given (kept reply);
  after = leaves reply;
  notes = notes_seen links (rows_after (seen links s) (Set p index item reply)) (rows_after s (Set q index item reply)) (sym (leaves reply)) reply index 1;
}
  where
    free : IsFreeOfLinks links s q
    free = free_after links s p q h e

    kept : (reply : Result ℕ OdbRefusal) → LinksRise 1 links (rows_after s (Set q index item reply)).next × All (IsRight links) (rows_after s (Set q index item reply)).rows
    kept (Ok n) = subst (λ (t : Rows). LinksRise 1 links t.next × All (IsRight links) t.rows) (sym (after_unlinked s (Set q index item (Ok n)) h.plain)) (h.order, right_changed links s q (λ v. put_in v index item) free h.right)
    kept (Err why) = (h.order, h.right)

    leaves : (reply : Result ℕ OdbRefusal) → seen links (rows_after s (Set q index item reply)) ≡ rows_after (seen links s) (Set p index item reply)
    leaves (Ok n) =
        ap (seen links) (after_unlinked s (Set q index item (Ok n)) h.plain)
        ∙ (sym (set_leaves links s q index item free) ∙ ap (λ (r : Result (List (List ℕ)) OdbRefusal). led_to (seen links s) r (λ x. after_set (seen links s) x index item)) (sym e))
    leaves (Err why) = refl

pub right_written : (links : List Link) (s : Rows) (q : List (List ℕ)) (v : HeldValue) (o : Option Row) → AreLinks links s → IsFreeOfLinks links s q
    → LinksRise 1 links (after_set_all_at s q v o).next × All (IsRight links) (after_set_all_at s q v o).rows
right_written links s q v None h free = right_created links s q (Some v) h.order h.right
right_written links s q v (Some r) h free = (h.order, right_changed links s q (λ _. v) free h.right)

pub set_all_seen : (links : List Link) (s : Rows) (p q : List (List ℕ)) (v : HeldValue) (reply : Result ℕ OdbRefusal) → AreLinks links s → IsPath q → IsValueOrLink v → resolved (seen links s) p true ≡ Ok q
    → IsRowsReply s (SetAll q v reply) → IsSeenAs links s (SetAll q v reply) (SetAll p v reply)
set_all_seen links s p q v reply h path sound e given = record {
  reply = gives_here (meets_link (seen links s) p true) reply (seen links s) p q true (λ x. set_all_reply (seen links s) x v) (set_all_reply s q v) e (set_all_same links s q v h.order free) (gives_below reply s q true (λ x. set_all_reply s x v) h.plain given);
  links_kept = still_links links s (SetAll q v reply) h (path, sound) given (kept reply);
  after = leaves reply;
  notes = notes_seen links (rows_after (seen links s) (SetAll p v reply)) (rows_after s (SetAll q v reply)) (sym (leaves reply)) reply 0 (length v.items);
}
  where
    free : IsFreeOfLinks links s q
    free = free_after links s p q h e

    kept : (reply : Result ℕ OdbRefusal) → LinksRise 1 links (rows_after s (SetAll q v reply)).next × All (IsRight links) (rows_after s (SetAll q v reply)).rows
    kept (Ok n) = subst (λ (t : Rows). LinksRise 1 links t.next × All (IsRight links) t.rows) (sym (after_unlinked s (SetAll q v (Ok n)) h.plain)) (right_written links s q v (row_at s.rows q) h free)
    kept (Err why) = (h.order, h.right)

    leaves : (reply : Result ℕ OdbRefusal) → seen links (rows_after s (SetAll q v reply)) ≡ rows_after (seen links s) (SetAll p v reply)
    leaves (Ok n) =
        ap (seen links) (after_unlinked s (SetAll q v (Ok n)) h.plain)
        ∙ (sym (set_all_leaves links s q v h.order free) ∙ ap (λ (r : Result (List (List ℕ)) OdbRefusal). led_to (seen links s) r (λ x. after_set_all (seen links s) x v)) (sym e))
    leaves (Err why) = refl

pub resize_seen : (links : List Link) (s : Rows) (p q : List (List ℕ)) (len : ℕ) (reply : Result ℕ OdbRefusal) → AreLinks links s → IsPath q → resolved (seen links s) p true ≡ Ok q
    → IsRowsReply s (Resize q len reply) → IsSeenAs links s (Resize q len reply) (Resize p len reply)
resize_seen links s p q len reply h path e given = record {
  reply = gives_here (meets_link (seen links s) p true) reply (seen links s) p q true (λ x. resize_reply (seen links s) x len) (resize_reply s q len) e (resize_same links s q len free) (gives_below reply s q true (λ x. resize_reply s x len) h.plain given);
  links_kept = still_links links s (Resize q len reply) h path given (kept reply);
  after = leaves reply;
  notes = notes_seen links (rows_after (seen links s) (Resize p len reply)) (rows_after s (Resize q len reply)) (sym (leaves reply)) reply (len - 1) 1;
}
  where
    free : IsFreeOfLinks links s q
    free = free_after links s p q h e

    kept : (reply : Result ℕ OdbRefusal) → LinksRise 1 links (rows_after s (Resize q len reply)).next × All (IsRight links) (rows_after s (Resize q len reply)).rows
    kept (Ok n) = subst (λ (t : Rows). LinksRise 1 links t.next × All (IsRight links) t.rows) (sym (after_unlinked s (Resize q len (Ok n)) h.plain)) (h.order, right_changed links s q (λ v. resized v len) free h.right)
    kept (Err why) = (h.order, h.right)

    leaves : (reply : Result ℕ OdbRefusal) → seen links (rows_after s (Resize q len reply)) ≡ rows_after (seen links s) (Resize p len reply)
    leaves (Ok n) =
        ap (seen links) (after_unlinked s (Resize q len (Ok n)) h.plain)
        ∙ (sym (resize_leaves links s q len free) ∙ ap (λ (r : Result (List (List ℕ)) OdbRefusal). led_to (seen links s) r (λ x. after_resize (seen links s) x len)) (sym e))
    leaves (Err why) = refl

-- look-ups

pub get_seen : (links : List Link) (s : Rows) (p q : List (List ℕ)) (reply : Result HeldValue OdbRefusal) → AreLinks links s → resolved (seen links s) p true ≡ Ok q → IsRowsReply s (Get q reply) → IsRowsReply (seen links s) (Get p reply)
get_seen links s p q reply h e given =
    gives_here (meets_link (seen links s) p true) reply (seen links s) p q true (get_reply (seen links s)) (get_reply s q) e (get_same links s q (free_after links s p q h e)) (gives_below reply s q true (get_reply s) h.plain given)

pub list_seen : (links : List Link) (s : Rows) (p q : List (List ℕ)) (reply : Result (List Child) OdbRefusal) → AreLinks links s → resolved (seen links s) p true ≡ Ok q → IsRowsReply s (ListDir q reply)
    → IsRowsReply (seen links s) (ListDir p reply)
list_seen links s p q reply h e given =
    gives_here (meets_link (seen links s) p true) reply (seen links s) p q true (list_reply (seen links s)) (list_reply s q) e (list_same links s q) (gives_below reply s q true (list_reply s) h.plain given)

found_more : (met : Bool) (given reply : Result ℕ OdbRefusal) → given ≡ reply → GivesIf met given reply
found_more false given reply h = h
found_more true (Ok n) reply h = sym h
found_more true (Err why) reply h = λ memory. sym h

pub find_below : (s : Rows) (q : List (List ℕ)) (reply : Result ℕ OdbRefusal) → s.links ≡ false → IsRowsReply s (Find q reply) → reply ≡ find_reply s q
find_below s q reply plain given =
    subst (λ (r : Result (List (List ℕ)) OdbRefusal). reply ≡ through r (λ x. find_reply s x)) (unlinked s q true plain)
    (subst (λ (b : Bool). GivesIf b reply (through (resolved s q true) (λ x. find_reply s x))) (unmet s q true plain) given)

pub find_seen : (links : List Link) (s : Rows) (p q : List (List ℕ)) (reply : Result ℕ OdbRefusal) → AreLinks links s → resolved (seen links s) p true ≡ Ok q → IsRowsReply s (Find q reply) → IsRowsReply (seen links s) (Find p reply)
find_seen links s p q reply h e given =
    found_more (meets_link (seen links s) p true) reply (through (resolved (seen links s) p true) (λ x. find_reply (seen links s) x))
    (subst (λ (r : Result (List (List ℕ)) OdbRefusal). reply ≡ through r (λ x. find_reply (seen links s) x)) (sym e) (find_below s q reply h.plain given ∙ sym (find_same links s q)))

-- calls whose path has no end

pub no_end : {X : Type 0} (met : Bool) (led : Result (List (List ℕ)) OdbRefusal) (reply : List (List ℕ) → Result X OdbRefusal) (why : OdbRefusal) → (why ≢ NoMemory → led ≡ Err why) → (why ≡ NoMemory → met ≡ true)
    → GivesTaking met (Err why) (through led reply)
no_end true led reply why h memory = λ other. ap (λ (r : Result (List (List ℕ)) OdbRefusal). through r reply) (h other)
no_end false led reply why h memory =
    let due : through led reply ≡ Err why = ap (λ (r : Result (List (List ℕ)) OdbRefusal). through r reply) (h (λ e. let k : false ≡ true = memory e in absurd (cc))) in (λ _. due, λ _. due)

-- a link that is met is so beside one that is made
pub or_met : (made met : Bool) → met ≡ true → (made || met) ≡ true
or_met true met h = refl
or_met false met h = h

no_end_told : {X : Type 0} (met : Bool) (led : Result (List (List ℕ)) OdbRefusal) (reply : List (List ℕ) → Result X OdbRefusal) (why : OdbRefusal) → (why ≢ NoMemory → led ≡ Err why) → (why ≡ NoMemory → met ≡ true)
    → GivesIf met (Err why) (through led reply)
no_end_told true led reply why h memory = no_end true led reply why h memory
no_end_told false led reply why h memory = sym (ap (λ (r : Result (List (List ℕ)) OdbRefusal). through r reply) (h (λ e. let k : false ≡ true = memory e in absurd (cc))))

pub no_end_found : (met : Bool) (led : Result (List (List ℕ)) OdbRefusal) (reply : List (List ℕ) → Result ℕ OdbRefusal) (why : OdbRefusal) → (why ≢ NoMemory → led ≡ Err why) → (why ≡ NoMemory → met ≡ true)
    → GivesIf met (Err why) (through led reply)
no_end_found met led reply why h memory = no_end_told met led reply why h memory

pub no_end_set : (met : Bool) (type : Tid) (led : Result (List (List ℕ)) OdbRefusal) (reply : List (List ℕ) → Result ℕ OdbRefusal) (why : OdbRefusal) → (why ≢ NoMemory → led ≡ Err why) → (why ≡ NoMemory → met ≡ true)
    → GivesItem met type (Err why) (through led reply)
no_end_set met tid.Text led reply why h memory = no_end met led reply why h memory
no_end_set met _ led reply why h memory = no_end_told met led reply why h memory

-- a refusal notes nothing
pub refusal_notes : (s : Rows) (reply : Result ℕ OdbRefusal) (why : OdbRefusal) (first count : ℕ) (ws : List (Option Watch)) → reply ≡ Err why → ws ≡ all_noted (changes_for s reply first count) ws
refusal_notes s reply why first count ws e = subst (λ (r : Result ℕ OdbRefusal). ws ≡ all_noted (changes_for s r first count) ws) (sym e) (sym (none_noted ws))

-- making a link, and what is no link

pub plain_kind : (kind : NewKey) → (kind ≡ Dir) ⊎ ((type : Tid) × (len : ℕ) × (kind ≡ Keys type len)) → IsNoLink kind
plain_kind kind (inl is) target e = let k : Dir ≡ new_link target = sym is ∙ e in absurd (cc)
plain_kind kind (inr is) target e = let k : Keys is.0 is.1 ≡ new_link target = sym is.2 ∙ e in absurd (cc)

pub create_refused : (s : Rows) (p : List (List ℕ)) (kind : NewKey) (reply : Result ℕ OdbRefusal) (why : OdbRefusal) (ws : List (Option Watch)) → reply ≡ Err why → ws ≡ all_noted (changes_of s (Create p kind reply)) ws
create_refused s p Dir reply why ws e = sym (none_noted ws)
create_refused s p (Keys type len) reply why ws e = refusal_notes (rows_after s (Create p (Keys type len) reply)) reply why 0 1 ws e
create_refused s p (new_link target) reply why ws e = refusal_notes (rows_after s (Create p (new_link target) reply)) reply why 0 1 ws e

-- a link made at the path after its links
pub record IsLinkMade (t : Rows) (p q target : List (List ℕ)) (kind : NewKey) (reply : Result ℕ OdbRefusal) : Type 0 where
  pub reply_is : IsRowsReply t (Create p kind reply)
  pub after : rows_there t (Create q (new_link target) reply) ≡ rows_after t (Create p kind reply)
  pub notes : (ws : List (Option Watch)) → all_noted (changes_for (rows_there t (Create q (new_link target) reply)) reply 0 1) ws ≡ all_noted (changes_of t (Create p kind reply)) ws

pub link_made : (t : Rows) (p q target : List (List ℕ)) (kind : NewKey) (reply : Result ℕ OdbRefusal) → resolved t p false ≡ Ok q → kind ≡ new_link target → GivesTaking true reply (create_reply t q (new_link target))
    → IsLinkMade t p q target kind reply
link_made t p q target kind reply e is given =
    subst (λ (k : NewKey). IsLinkMade t p q target k reply) (sym is) (record {
      reply_is = subst (λ (r : Result (List (List ℕ)) OdbRefusal). GivesTaking true reply (through r (λ x. create_reply t x (new_link target)))) (sym e) given;
      after = left reply;
      notes = λ ws. ap (λ (x : Rows). all_noted (changes_for x reply 0 1) ws) (left reply);
    })
  where
    left : (r : Result ℕ OdbRefusal) → rows_there t (Create q (new_link target) r) ≡ rows_after t (Create p (new_link target) r)
    left (Ok n) = sym (ap (λ (r : Result (List (List ℕ)) OdbRefusal). led_to t r (λ x. after_create t x (new_link target))) e)
    left (Err why) = refl
