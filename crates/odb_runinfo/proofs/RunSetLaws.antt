-- Laws of what a session writes to the run's parameters.
use Rattle.std.specs.Prelude.{◌≡◌, ℕ, ◌+◌, ◌-◌, nat_lt, ℤ, pos, negsuc, Bool, true, false, ◌&&◌, cond, All, List, [], ◌∷◌, Option, Some, None, Result, Ok, Err, refl}
use Rattle.std.specs.Option.{option_map, is_some}
use Rattle.std.proofs.Common.{ap, arith, subst, sym, ◌∙◌}
use Rattle.std.proofs.lemmas.Bool.{false≢true}
use Rattle.odb_value.specs.declared.items.Item.{Item}
use Rattle.odb_value.specs.declared.items.Item.TheVariants.{Text}
use Rattle.odb_value.specs.Values.{HeldValue}
use Rattle.odb_value.specs.ValueChanges.{put_in}
use Rattle.odb_tree.specs.declared.rows.Row.{Row}
use Rattle.odb_tree.specs.declared.entry.DatabaseEntry.{DatabaseEntry}
use Rattle.odb_tree.specs.declared.entry.DatabaseEntry.TheVariants.{Set}
use Rattle.odb_tree.specs.declared.refusals.OdbRefusal.{OdbRefusal}
use Rattle.odb_tree.specs.Rows.{Rows}
use Rattle.odb_value.specs.Items.{tid_of}
use Rattle.odb_tree.specs.Links.{Met, is_link, is_link_value, first_link, resolved, meets_link, through, led_to}
use Rattle.odb_tree.specs.Calls.{GivesItem, IsRowsReply, rows_after, after_set, set_reply}
use Rattle.odb_tree.proofs.Led.{met_nowhere}
use Rattle.odb_tree.proofs.EachRow.{all_changed, row_has}
use Rattle.odb_tree.specs.Histories.{IsLegalRows}
use Rattle.odb_watch.specs.DatabasePorts.{calls_by}
use Rattle.odb_runinfo.specs.RunNumberKept.{AllSpareRuninfo, SparesRuninfo}
use Rattle.odb_runinfo.specs.RunSets.{Assignment, AreNumbers, AreSets, IsSet, assigned, assignments, is_number, next_run, number_asked, sent_key_made}
use Rattle.odb_runinfo.specs.declared.sets.RunNumber.{RunNumber as NoNext}

-- the session's own calls keep the run number
set_spares : (a : Assignment) (entry : DatabaseEntry) → IsSet a entry → SparesRuninfo entry
set_spares a entry set = subst SparesRuninfo (sym set.is) tt

pub sets_spare : (caller : ℕ) (sets : List Assignment) (calls : List DatabaseEntry) → AreSets sets calls → AllSpareRuninfo (calls_by caller calls)
sets_spare caller [] [] are = tt
sets_spare caller [] (entry ∷ calls) are = absurd are
sets_spare caller (a ∷ sets) [] are = absurd are
sets_spare caller (a ∷ sets) (entry ∷ calls) are = (set_spares a entry are.0, sets_spare caller sets calls are.1)

pub front_spares : (front : List ℕ) (reply : Result ℕ OdbRefusal) → SparesRuninfo (sent_key_made front reply)
front_spares front reply = tt

pub number_spares : (got : Result HeldValue OdbRefusal) → SparesRuninfo (number_asked got)
number_spares got = tt

-- where no row is a link, none is met, and a call that sets an item leaves it so
unmet_among : (s : Rows) (p : List (List ℕ)) → All (λ (r : Row). is_link r ≡ false) s.rows → meets_link s p true ≡ false
unmet_among s p are =
    let none : first_link s.rows true [] p ≡ None = met_nowhere s.rows true [] p (λ q r there. row_has (λ (x : Row). is_link x ≡ false) s.rows q r are there) in
    ap (λ (o : Option Met). s.links && is_some o) none ∙ never s.links
  where
    never : (b : Bool) → b && false ≡ false
    never true = refl
    never false = refl

value_put : (index : ℕ) (item : Item) (o : Option HeldValue) → is_link_value o ≡ false → is_link_value (option_map (λ v. put_in v index item) o) ≡ false
value_put index item None h = h
value_put index item (Some v) h = h

set_leaves : (s : Rows) (a : Assignment) (entry : DatabaseEntry) → IsSet a entry → All (λ (r : Row). is_link r ≡ false) s.rows → All (λ (r : Row). is_link r ≡ false) (rows_after s entry).rows
set_leaves s a entry set are = subst (λ (e : DatabaseEntry). All (λ (r : Row). is_link r ≡ false) (rows_after s e).rows) (sym set.is) (by_reply set.reply)
  where
    at : (r : Result (List (List ℕ)) OdbRefusal) → All (λ (x : Row). is_link x ≡ false) (led_to s r (λ q. after_set s q 0 a.item)).rows
    at (Err why) = are
    at (Ok q) = all_changed (λ (x : Row). is_link x ≡ false) s.rows q (λ v. put_in v 0 a.item) are (λ x there none. value_put 0 a.item x.value none)

    by_reply : (reply : Result ℕ OdbRefusal) → All (λ (r : Row). is_link r ≡ false) (rows_after s (Set a.path 0 a.item reply)).rows
    by_reply (Ok n) = at (resolved s a.path true)
    by_reply (Err why) = are

-- the reply to a set of a number is that of the rows
number_gives : (met : Bool) (item : Item) (given reply : Result ℕ OdbRefusal) → is_number item ≡ true → met ≡ false → GivesItem met (tid_of item) given reply → given ≡ reply
number_gives met (Text bytes) given reply number none is = absurd (false≢true number)
number_gives true _ given reply number none is = absurd (false≢true (sym none))
number_gives false _ given reply number none is = is

number_set : (s : Rows) (path : List (List ℕ)) (item : Item) (reply : Result ℕ OdbRefusal) → All (λ (r : Row). is_link r ≡ false) s.rows → is_number item ≡ true → IsRowsReply s (Set path 0 item reply)
    → reply ≡ through (resolved s path true) (λ q. set_reply s q 0 item)
number_set s path item reply none number is =
    number_gives (meets_link s path true) item reply (through (resolved s path true) (λ q. set_reply s q 0 item)) number (unmet_among s path none) is

one_assigned : (s : Rows) (a : Assignment) (entry : DatabaseEntry) → All (λ (r : Row). is_link r ≡ false) s.rows → IsSet a entry → is_number a.item ≡ true → IsRowsReply s entry → entry ≡ assigned s a
one_assigned s a entry none set number is =
    set.is ∙ ap (λ (r : Result ℕ OdbRefusal). Set a.path 0 a.item r) (number_set s a.path a.item set.reply none number (subst (λ (e : DatabaseEntry). IsRowsReply s e) set.is is))

pub sets_assigned : (s : Rows) (caller : ℕ) (sets : List Assignment) (calls : List DatabaseEntry) → All (λ (r : Row). is_link r ≡ false) s.rows → AreSets sets calls → AreNumbers sets → IsLegalRows s (calls_by caller calls) → calls ≡ assignments s sets
sets_assigned s caller [] [] none are numbers legal = refl
sets_assigned s caller [] (entry ∷ calls) none are numbers legal = absurd are
sets_assigned s caller (a ∷ sets) [] none are numbers legal = absurd are
sets_assigned s caller (a ∷ sets) (entry ∷ calls) none are numbers legal =
    let here : entry ≡ assigned s a = one_assigned s a entry none are.0 numbers.0 legal.0.reply in
    let rest : calls ≡ assignments (rows_after s entry) sets = sets_assigned (rows_after s entry) caller sets calls (set_leaves s a entry are.0 none) are.1 numbers.1 legal.1 in
    ap (λ (more : List DatabaseEntry). entry ∷ more) rest ∙ ap (λ (e : DatabaseEntry). e ∷ assignments (rows_after s e) sets) here

-- the number before the next one
pub before_next : (n : ℤ) (run : ℕ) → next_run n ≡ Ok run → n ≡ pos (run - 1)
before_next (pos m) run e = one_less (nat_lt m 2147483647) (record { have = pos m }) e
  where
    one_less : (b : Bool) (none : NoNext) → cond b (Ok (m + 1)) (Err none) ≡ Ok run → pos m ≡ pos (run - 1)
    one_less true none is = let same : m + 1 ≡ run = cc in let less : m ≡ run - 1 = omega (arith, same) in ap pos less
    one_less false none is = absurd (cc)
before_next (negsuc m) run e = absurd (cc)
