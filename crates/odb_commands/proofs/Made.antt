-- Calls that a command made, and where memory cut them short.
use Rattle.std.proofs.Common.{◌≡◌, ◌≢◌, ℕ, Bool, true, false, List, [], ◌∷◌, Option, Some, None, Result, Ok, Err, refl, ap, sym, subst, ◌∙◌, inl, inr}
use Rattle.std.specs.Prelude.{IfOk, IsOk, IsSome, IsTrue, OnErr, length, slice_get}
use Rattle.std.proofs.lemmas.Bool.{false≢true}
use Rattle.std.specs.Option.{unwrap_or}
use Rattle.std.specs.Result.{IsErr}
use Rattle.daq_types.specs.declared.memory.NoMemory.{NoMemory}
use Rattle.odb_value.specs.declared.path_refusals.PathRefusal.{PathRefusal}
use Rattle.odb_value.specs.PathText.{path_reply}
use Rattle.odb_value.specs.declared.items.Item.{Item}
use Rattle.odb_value.specs.Values.{HeldValue}
use Rattle.odb_tree.specs.declared.children.Child.{Child}
use Rattle.odb_tree.specs.declared.entry.DatabaseEntry.{DatabaseEntry}
use Rattle.odb_tree.specs.declared.entry.DatabaseEntry.TheVariants as call
use Rattle.odb_tree.specs.declared.refusals.OdbRefusal.{OdbRefusal}
use Rattle.odb_tree.specs.declared.refusals.OdbRefusal.TheVariants.{NoKey, NoMemory as no_memory}
use Rattle.odb_tree.specs.declared.rows.NewKey.{NewKey}
use Rattle.odb_tree.specs.declared.rows.NewKey.TheVariants.{Dir, Keys, Link}
use Rattle.odb_watch.specs.DatabasePorts.{DatabaseAccess, AddsCall, AddsCalls, IsSamePort, IsSettled, unanswered}
use Rattle.odb_script.specs.declared.commands.RowCommand.{RowCommand}
use Rattle.odb_script.specs.declared.commands.RowCommand.TheVariants as command
use Rattle.odb_commands.specs.declared.replies.CommandRefusal.{CommandRefusal}
use Rattle.odb_commands.specs.declared.replies.CommandRefusal.TheVariants.{Path, Protected, Database}
use Rattle.odb_commands.specs.declared.replies.CommandReply.{CommandReply}
use Rattle.odb_commands.specs.declared.replies.CommandReply.TheVariants.{Key, One, Refused}
use Rattle.odb_commands.specs.Answers.{done_or, item_for, is_protected, listed_or, one_or}
use Rattle.odb_commands.specs.CommandCalls.{Answers, AtPath, CreatesKey, CutsAnswer, EndsCommand, Gets, GetsIn, LinksTo, Lists, Names, NamesFound, Performs, RemovesIf, RemovesKey, reply_takes_memory, SaysAtOnce, Sets, SetsIn, SetsItem, Shows}

-- A call that is refused only by what it finds is settled.

pub settled_by : {X : Type 0} (got : Result X OdbRefusal) → got ≢ Err no_memory → IsSettled got
settled_by (Ok x) found = tt
settled_by (Err refusal) found = λ is. found (ap (λ (r : OdbRefusal). Err r) is)

pub no_key : NoKey ≢ no_memory
no_key e = cc

-- One call, and it answers the command.

pub created : (a b : DatabaseAccess) (kind : NewKey) (p : List (List ℕ)) (given got : Result ℕ OdbRefusal) (reply : CommandReply) → AddsCall a b (call.Create p kind given) → got ≡ given → IsSettled got → reply ≡ done_or got
    → Answers a b (CreatesKey kind p) reply
created a b kind p given got reply called same settled is = record {
  calls = call.Create p kind got ∷ [];
  made = (b, subst (λ (r : Result ℕ OdbRefusal). AddsCall a b (call.Create p kind r)) (sym same) called, refl);
  does = (got, refl, settled, is);
}

pub item_set : (a b : DatabaseAccess) (p : List (List ℕ)) (index : ℕ) (item : Item) (given got : Result ℕ OdbRefusal) (reply : CommandReply) → AddsCall a b (call.Set p index item given) → got ≡ given → IsSettled got → reply ≡ done_or got
    → Answers a b (SetsItem p index (Ok item)) reply
item_set a b p index item given got reply called same settled is = record {
  calls = call.Set p index item got ∷ [];
  made = (b, subst (λ (r : Result ℕ OdbRefusal). AddsCall a b (call.Set p index item r)) (sym same) called, refl);
  does = (got, refl, settled, is);
}

pub named : (a b : DatabaseAccess) (v : HeldValue) (row : ℕ) (given : Result (Option (List (List ℕ))) NoMemory) (path : Option (List (List ℕ))) (reply : CommandReply) → AddsCall a b (call.PathOf row given) → given ≡ Ok path
    → reply ≡ Key (unwrap_or path []) v → Answers a b (Names v row) reply
named a b v row given path reply called same is = record {
  calls = call.PathOf row (Ok path) ∷ [];
  made = (b, subst (λ (r : Result (Option (List (List ℕ))) NoMemory). AddsCall a b (call.PathOf row r)) same called, refl);
  does = (path, refl, is);
}

pub listed : (a b : DatabaseAccess) (p : List (List ℕ)) (given got : Result (List Child) OdbRefusal) (reply : CommandReply) → AddsCall a b (call.ListDir p given) → got ≡ given → IsSettled got → reply ≡ listed_or got → Answers a b (Lists p) reply
listed a b p given got reply called same settled is = record {
  calls = call.ListDir p got ∷ [];
  made = (b, subst (λ (r : Result (List Child) OdbRefusal). AddsCall a b (call.ListDir p r)) (sym same) called, refl);
  does = (got, refl, settled, is);
}

pub not_removed : (a : DatabaseAccess) (p : List (List ℕ)) (reply : CommandReply) → is_protected p ≡ true → reply ≡ Refused Protected → Answers a a (RemovesKey p) reply
not_removed a p reply protected is = subst (λ (b : Bool). Answers a a (RemovesIf b p) reply) (sym protected) (record { calls = []; made = refl; does = (refl, is) })

pub was_removed : (a b : DatabaseAccess) (p : List (List ℕ)) (got : Result ℕ OdbRefusal) (reply : CommandReply) → is_protected p ≡ false → AddsCall a b (call.Delete p got) → got ≢ Err no_memory → reply ≡ done_or got
    → Answers a b (RemovesKey p) reply
was_removed a b p got reply free called found is =
    subst (λ (t : Bool). Answers a b (RemovesIf t p) reply) (sym free) (record { calls = call.Delete p got ∷ []; made = (b, called, refl); does = (got, refl, settled_by got found, is) })

-- Memory ended before any call. Some calls and a reply that do so there always are.

abbrev Some_do : (Does : List DatabaseEntry → CommandReply → Type 0) → Type 0
Some_do Does = (calls : List DatabaseEntry) × (reply : CommandReply) × Does calls reply

-- of these all are made only where the reply takes memory
abbrev Some_cut : (Does : List DatabaseEntry → CommandReply → Type 0) → Type 0
Some_cut Does = (some : Some_do Does) × ([] ≡ some.0 → IsTrue (reply_takes_memory some.1))

pub not_begun : (a : DatabaseAccess) (Does : List DatabaseEntry → CommandReply → Type 0) → Some_cut Does → CutsAnswer a a Does
not_begun a Does some = record { calls = some.0.0; reply = some.0.1; does = some.0.2; made = []; short = tt; rest = some.1; adds = refl }

abbrev some_create : (kind : NewKey) (p : List (List ℕ)) → Some_do (CreatesKey kind p)
some_create kind p = (call.Create p kind (Err NoKey) ∷ [], done_or (Err NoKey), (Err NoKey, refl, no_key, refl))

abbrev some_item : (p : List (List ℕ)) (index : ℕ) (item : Result Item CommandRefusal) → Some_do (SetsItem p index item)
some_item p index (Err why) = ([], Refused why, (refl, refl))
some_item p index (Ok item) = (call.Set p index item (Err NoKey) ∷ [], done_or (Err NoKey), (Err NoKey, refl, no_key, refl))

abbrev some_set : (index : ℕ) (text : List ℕ) (p : List (List ℕ)) → Some_do (Sets index text p)
some_set index text p = (call.Get p (Err NoKey) ∷ [], Refused (Database NoKey), (Err NoKey, [], refl, no_key, (refl, refl)))

abbrev some_get : (index : Option ℕ) (p : List (List ℕ)) → Some_do (Gets index p)
some_get index p = (call.Get p (Err NoKey) ∷ [], Refused (Database NoKey), (Err NoKey, [], refl, no_key, (refl, refl)))

abbrev some_list : (p : List (List ℕ)) → Some_do (Lists p)
some_list p = (call.ListDir p (Err NoKey) ∷ [], listed_or (Err NoKey), (Err NoKey, refl, no_key, refl))

abbrev remove_if : (b : Bool) (p : List (List ℕ)) → Some_do (RemovesIf b p)
remove_if true p = ([], Refused Protected, (refl, refl))
remove_if false p = (call.Delete p (Err NoKey) ∷ [], done_or (Err NoKey), (Err NoKey, refl, no_key, refl))

abbrev some_remove : (p : List (List ℕ)) → Some_do (RemovesKey p)
some_remove p = remove_if (is_protected p) p

abbrev some_at_path : (read : Result (List (List ℕ)) PathRefusal) (Then : List (List ℕ) → List DatabaseEntry → CommandReply → Type 0) → ((p : List (List ℕ)) → Some_do (Then p)) → Some_do (AtPath read Then)
some_at_path (Err why) Then each = ([], Refused (Path why), (refl, refl))
some_at_path (Ok p) Then each = each p

abbrev some_link : (target : List ℕ) (p : List (List ℕ)) → Some_do (LinksTo target p)
some_link target p = some_at_path (path_reply target) (λ t. CreatesKey (Link t) p) (λ t. some_create (Link t) p)

-- Memory ended while a text of the line was read, or an item copied.

pub cut_create : (kind : NewKey) (p : List (List ℕ)) → Some_cut (CreatesKey kind p)
cut_create kind p = (some_create kind p, λ h. absurd (cc))

pub cut_set : (index : ℕ) (text : List ℕ) (p : List (List ℕ)) → Some_cut (Sets index text p)
cut_set index text p = (some_set index text p, λ h. absurd (cc))

pub cut_get : (index : Option ℕ) (p : List (List ℕ)) → Some_cut (Gets index p)
cut_get index p = (some_get index p, λ h. absurd (cc))

pub cut_list : (p : List (List ℕ)) → Some_cut (Lists p)
cut_list p = (some_list p, λ h. absurd (cc))

remove_cut_if : (b : Bool) (p : List (List ℕ)) → Some_cut (RemovesIf b p)
remove_cut_if true p = (remove_if true p, λ h. refl)
remove_cut_if false p = (remove_if false p, λ h. absurd (cc))

pub cut_remove : (p : List (List ℕ)) → Some_cut (RemovesKey p)
cut_remove p = remove_cut_if (is_protected p) p

-- a text that is no path was told so
pub cut_at_path : (read : Result (List (List ℕ)) PathRefusal) (Then : List (List ℕ) → List DatabaseEntry → CommandReply → Type 0) → IsOk read → ((p : List (List ℕ)) → Some_cut (Then p)) → Some_cut (AtPath read Then)
cut_at_path (Err why) Then path each = absurd (false≢true path)
cut_at_path (Ok p) Then path each = each p

pub cut_link : (target : List ℕ) (p : List (List ℕ)) → IsOk (path_reply target) → Some_cut (LinksTo target p)
cut_link target p path = cut_at_path (path_reply target) (λ t. CreatesKey (Link t) p) path (λ t. cut_create (Link t) p)

-- and so was one that is no item
pub cut_set_in : (p : List (List ℕ)) (index : ℕ) (text : List ℕ) (v : HeldValue) → IsOk (item_for v index text) → Some_cut (SetsIn p index text (Ok v))
cut_set_in p index text v spelled = by_item (item_for v index text) spelled
  where
    by_item : (item : Result Item CommandRefusal) → IsOk item → Some_cut (SetsItem p index item)
    by_item (Err why) is = absurd (false≢true is)
    by_item (Ok item) is = (some_item p index (Ok item), λ h. absurd (cc))

-- there was no memory for the path of a link, whose target is none
pub target_refused : (a : DatabaseAccess) (read : Result (List (List ℕ)) PathRefusal) (target : List ℕ) (why : PathRefusal) (reply : CommandReply) → IsOk read → path_reply target ≡ Err why → reply ≡ Refused (Path why)
    → Answers a a (AtPath read (LinksTo target)) reply
target_refused a (Err bad) target why reply path none is = absurd (false≢true path)
target_refused a (Ok p) target why reply path none is =
    record { calls = []; made = refl; does = subst (λ (goes : Result (List (List ℕ)) PathRefusal). AtPath goes (λ t. CreatesKey (Link t) p) [] reply) (sym none) (refl, is) }

one_cut : (p : List (List ℕ)) (len : ℕ) (item : Option Item) → IsSome item → Some_cut (SaysAtOnce (one_or len item))
one_cut p len None some = absurd (false≢true some)
one_cut p len (Some item) some = (([], One item, (refl, refl)), λ h. refl)

-- what a command came to where memory ended
pub ends_cut : (a b : DatabaseAccess) (Does : List DatabaseEntry → CommandReply → Type 0) (result : Result CommandReply NoMemory) → IsErr result → CutsAnswer a b Does → EndsCommand a b Does result
ends_cut a b Does (Ok reply) wanting cut = absurd (false≢true wanting)
ends_cut a b Does (Err why) wanting cut = cut

pub one_not_begun : (a : DatabaseAccess) (p : List (List ℕ)) (index : ℕ) (v : HeldValue) (result : Result CommandReply NoMemory) → IfOk result (λ reply. reply ≡ one_or (length v.items) (slice_get v.items index))
    → OnErr result (IsSome (slice_get v.items index)) → EndsCommand a a (Shows p (Some index) v) result
one_not_begun a p index v (Ok reply) is there = record { calls = []; made = refl; does = (refl, is) }
one_not_begun a p index v (Err why) is there = not_begun a (Shows p (Some index) v) (one_cut p (length v.items) (slice_get v.items index) there)

-- Memory ended at the first call, of which this is what it would have been with a reply.
cut_at_first : (a b : DatabaseAccess) (Does : List DatabaseEntry → CommandReply → Type 0) (wanted entry : DatabaseEntry) (reply : CommandReply) → Does (wanted ∷ []) reply → entry ≡ unanswered wanted → entry ∷ [] ≢ wanted ∷ []
    → AddsCall a b entry → CutsAnswer a b Does
cut_at_first a b Does wanted entry reply does is other called = record { calls = wanted ∷ []; reply = reply; does = does; made = entry ∷ []; short = inr (is, refl); rest = λ same. absurd (other same); adds = (b, called, refl) }

pub create_cut : (a b : DatabaseAccess) (kind : NewKey) (p : List (List ℕ)) (got : Result ℕ OdbRefusal) → AddsCall a b (call.Create p kind got) → got ≡ Err no_memory → CutsAnswer a b (CreatesKey kind p)
create_cut a b kind p got called wanting = cut_at_first a b (CreatesKey kind p) (call.Create p kind (Err NoKey)) (call.Create p kind got) (done_or (Err NoKey)) (Err NoKey, refl, no_key, refl)
    (ap (λ (r : Result ℕ OdbRefusal). call.Create p kind r) wanting) (λ same. cc) called

pub item_cut : (a b : DatabaseAccess) (p : List (List ℕ)) (index : ℕ) (item : Item) (got : Result ℕ OdbRefusal) → AddsCall a b (call.Set p index item got) → got ≡ Err no_memory → CutsAnswer a b (SetsItem p index (Ok item))
item_cut a b p index item got called wanting = cut_at_first a b (SetsItem p index (Ok item)) (call.Set p index item (Err NoKey)) (call.Set p index item got) (done_or (Err NoKey)) (Err NoKey, refl, no_key, refl)
    (ap (λ (r : Result ℕ OdbRefusal). call.Set p index item r) wanting) (λ same. cc) called

pub name_cut : (a b : DatabaseAccess) (v : HeldValue) (row : ℕ) (got : Result (Option (List (List ℕ))) NoMemory) (memory : NoMemory) → AddsCall a b (call.PathOf row got) → got ≡ Err memory → CutsAnswer a b (Names v row)
name_cut a b v row got memory called wanting = cut_at_first a b (Names v row) (call.PathOf row (Ok None)) (call.PathOf row got) (Key [] v) (None, refl, refl)
    (ap (λ (r : Result (Option (List (List ℕ))) NoMemory). call.PathOf row r) wanting) (λ same. cc) called

pub list_cut : (a b : DatabaseAccess) (p : List (List ℕ)) (got : Result (List Child) OdbRefusal) → AddsCall a b (call.ListDir p got) → got ≡ Err no_memory → CutsAnswer a b (Lists p)
list_cut a b p got called wanting = cut_at_first a b (Lists p) (call.ListDir p (Err NoKey)) (call.ListDir p got) (listed_or (Err NoKey)) (Err NoKey, refl, no_key, refl)
    (ap (λ (r : Result (List Child) OdbRefusal). call.ListDir p r) wanting) (λ same. cc) called

pub find_cut : (a b : DatabaseAccess) (p : List (List ℕ)) (v : HeldValue) (got : Result ℕ OdbRefusal) → AddsCall a b (call.Find p got) → got ≡ Err no_memory → CutsAnswer a b (Shows p None v)
find_cut a b p v got called wanting = cut_at_first a b (Shows p None v) (call.Find p (Err NoKey)) (call.Find p got) (Refused (Database NoKey)) (Err NoKey, [], refl, no_key, (refl, refl))
    (ap (λ (r : Result ℕ OdbRefusal). call.Find p r) wanting) (λ same. cc) called

-- the key that was got, by a path that is this one
got_at : (a b : DatabaseAccess) (p copy : List (List ℕ)) (given got : Result HeldValue OdbRefusal) → AddsCall a b (call.Get copy given) → copy ≡ p → got ≡ given → AddsCall a b (call.Get p got)
got_at a b p copy given got called is same = subst (AddsCall a b) (ap (λ (q : List (List ℕ)). call.Get q given) is ∙ ap (λ (r : Result HeldValue OdbRefusal). call.Get p r) (sym same)) called

pub set_cut : (a b : DatabaseAccess) (index : ℕ) (text : List ℕ) (p copy : List (List ℕ)) (got : Result HeldValue OdbRefusal) → AddsCall a b (call.Get copy got) → copy ≡ p → got ≡ Err no_memory → CutsAnswer a b (Sets index text p)
set_cut a b index text p copy got called is wanting = cut_at_first a b (Sets index text p) (call.Get p (Err NoKey)) (call.Get p got) (Refused (Database NoKey)) (Err NoKey, [], refl, no_key, (refl, refl))
    (ap (λ (r : Result HeldValue OdbRefusal). call.Get p r) wanting) (λ same. cc) (got_at a b p copy got got called is refl)

pub get_cut : (a b : DatabaseAccess) (index : Option ℕ) (p copy : List (List ℕ)) (got : Result HeldValue OdbRefusal) → AddsCall a b (call.Get copy got) → copy ≡ p → got ≡ Err no_memory → CutsAnswer a b (Gets index p)
get_cut a b index p copy got called is wanting = cut_at_first a b (Gets index p) (call.Get p (Err NoKey)) (call.Get p got) (Refused (Database NoKey)) (Err NoKey, [], refl, no_key, (refl, refl))
    (ap (λ (r : Result HeldValue OdbRefusal). call.Get p r) wanting) (λ same. cc) (got_at a b p copy got got called is refl)

-- A call, and behind it the rest: what that came to, the command came to.

abbrev behind_first : List DatabaseEntry → List DatabaseEntry
behind_first [] = []
behind_first (e ∷ es) = es

first_then : (a b c : DatabaseAccess) (Rest Does : List DatabaseEntry → CommandReply → Type 0) (entry : DatabaseEntry) (result : Result CommandReply NoMemory) → AddsCall a b entry
    → ((calls : List DatabaseEntry) (reply : CommandReply) → Rest calls reply → Does (entry ∷ calls) reply) → EndsCommand b c Rest result → EndsCommand a c Does result
first_then a b c Rest Does entry (Ok reply) called whole ends = record { calls = entry ∷ ends.calls; made = (b, called, ends.made); does = whole ends.calls reply ends.does }
first_then a b c Rest Does entry (Err why) called whole ends = record {
  calls = entry ∷ ends.calls;
  reply = ends.reply;
  does = whole ends.calls ends.reply ends.does;
  made = entry ∷ ends.made;
  short = inl (refl, ends.short);
  rest = λ same. ends.rest (ap behind_first same);
  adds = (b, called, ends.adds);
}

pub sets_behind : (a b c : DatabaseAccess) (index : ℕ) (text : List ℕ) (p copy : List (List ℕ)) (given got : Result HeldValue OdbRefusal) (result : Result CommandReply NoMemory) → AddsCall a b (call.Get copy given) → copy ≡ p → got ≡ given
    → IsSettled got → EndsCommand b c (SetsIn p index text got) result → EndsCommand a c (Sets index text p) result
sets_behind a b c index text p copy given got result called is same settled rest =
    first_then a b c (SetsIn p index text got) (Sets index text p) (call.Get p got) result (got_at a b p copy given got called is same) (λ calls reply does. (got, calls, refl, settled, does)) rest

pub gets_behind : (a b c : DatabaseAccess) (index : Option ℕ) (p copy : List (List ℕ)) (given got : Result HeldValue OdbRefusal) (result : Result CommandReply NoMemory) → AddsCall a b (call.Get copy given) → copy ≡ p → got ≡ given → IsSettled got
    → EndsCommand b c (GetsIn p index got) result → EndsCommand a c (Gets index p) result
gets_behind a b c index p copy given got result called is same settled rest =
    first_then a b c (GetsIn p index got) (Gets index p) (call.Get p got) result (got_at a b p copy given got called is same) (λ calls reply does. (got, calls, refl, settled, does)) rest

pub shows_behind : (a b c : DatabaseAccess) (p : List (List ℕ)) (v : HeldValue) (given found : Result ℕ OdbRefusal) (result : Result CommandReply NoMemory) → AddsCall a b (call.Find p given) → found ≡ given → IsSettled found
    → EndsCommand b c (NamesFound v found) result → EndsCommand a c (Shows p None v) result
shows_behind a b c p v given found result called same settled rest =
    first_then a b c (NamesFound v found) (Shows p None v) (call.Find p found) result (subst (λ (r : Result ℕ OdbRefusal). AddsCall a b (call.Find p r)) (sym same) called)
    (λ calls reply does. (found, calls, refl, settled, does)) rest

-- The port stays, by what its calls tell.
pub port_stays : ((a b : DatabaseAccess) (calls : List DatabaseEntry) → AddsCalls a b calls → IsSamePort a b) → (a b : DatabaseAccess) (Does : List DatabaseEntry → CommandReply → Type 0) (result : Result CommandReply NoMemory)
    → EndsCommand a b Does result → IsSamePort a b
port_stays law a b Does (Ok reply) ends = law a b ends.calls ends.made
port_stays law a b Does (Err why) ends = law a b ends.made ends.adds

-- Some calls and a reply do what a command asks for.
pub some_performs : (c : RowCommand) → Some_do (Performs c)
some_performs (command.Create type path len) = some_at_path (path_reply path) (CreatesKey (Keys type len)) (some_create (Keys type len))
some_performs (command.CreateDir path) = some_at_path (path_reply path) (CreatesKey Dir) (some_create Dir)
some_performs (command.Link path target) = some_at_path (path_reply path) (LinksTo target) (some_link target)
some_performs (command.Set path index value) = some_at_path (path_reply path) (Sets index value) (some_set index value)
some_performs (command.Get path index) = some_at_path (path_reply path) (Gets index) (some_get index)
some_performs (command.List path) = some_at_path (path_reply path) Lists some_list
some_performs (command.Remove path) = some_at_path (path_reply path) RemovesKey some_remove
