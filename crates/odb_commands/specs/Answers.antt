-- The answers of the database's commands: the calls that a command makes, with their replies, and its own reply, both
-- given by the rows.
use Rattle.std.specs.Prelude.{ℕ, Bool, true, nat_lt, if◌then◌else◌, List, [], ◌∷◌, length, slice_get, Option, Some, None, Result, Ok, Err, codes}
use Rattle.std.specs.Option.{unwrap_or}
use Rattle.odb_value.specs.declared.path_refusals.PathRefusal.{PathRefusal}
use Rattle.odb_value.specs.Paths.{same_name}
use Rattle.odb_value.specs.PathText.{path_reply}
use Rattle.odb_value.specs.declared.items.Item.{Item}
use Rattle.odb_value.specs.declared.refusals.ItemRefusal.{ItemRefusal}
use Rattle.odb_value.specs.ItemTexts.{item_read}
use Rattle.odb_value.specs.Values.{HeldValue}
use Rattle.odb_tree.specs.declared.children.Child.{Child}
use Rattle.odb_tree.specs.declared.entry.DatabaseEntry.{DatabaseEntry}
use Rattle.odb_tree.specs.declared.entry.DatabaseEntry.TheVariants as call
use Rattle.odb_tree.specs.declared.refusals.OdbRefusal.{OdbRefusal}
use Rattle.odb_tree.specs.declared.refusals.OdbRefusal.TheVariants.{BadIndex}
use Rattle.odb_tree.specs.declared.rows.NewKey.{NewKey}
use Rattle.odb_tree.specs.declared.rows.NewKey.TheVariants.{Dir, Keys, Link}
use Rattle.odb_tree.specs.Rows.{Rows}
use Rattle.odb_tree.specs.Calls.{delete_reply, path_with}
use Rattle.odb_commands.specs.LedReplies.{create_led, set_led, get_led, find_led, list_led}
use Rattle.odb_script.specs.declared.commands.RowCommand.{RowCommand}
use Rattle.odb_script.specs.declared.commands.RowCommand.TheVariants as command
use Rattle.odb_commands.specs.declared.replies.CommandRefusal.{CommandRefusal}
use Rattle.odb_commands.specs.declared.replies.CommandRefusal.TheVariants.{Path, Protected, Item as BadItem, Database}
use Rattle.odb_commands.specs.declared.replies.CommandReply.{CommandReply}
use Rattle.odb_commands.specs.declared.replies.CommandReply.TheVariants.{Done, Key, One, Listed, Refused}

-- the calls that a command makes, in order, and what it is answered
pub record CommandAnswer : Type 0 where
  pub calls : List DatabaseEntry
  pub reply : CommandReply

-- without any call
abbrev pub refused : CommandRefusal → CommandAnswer
refused why = record { calls = []; reply = Refused why }

-- with this call in front
abbrev pub with_first_call : DatabaseEntry → CommandAnswer → CommandAnswer
with_first_call entry answer = record { calls = entry ∷ answer.calls; reply = answer.reply }

-- a call that is accepted prints nothing
abbrev pub done_or : Result ℕ OdbRefusal → CommandReply
done_or (Ok n) = Done
done_or (Err why) = Refused (Database why)

-- a text that is no path is refused before any call
abbrev pub at_path : Result (List (List ℕ)) PathRefusal → (List (List ℕ) → CommandAnswer) → CommandAnswer
at_path (Err why) answer = refused (Path why)
at_path (Ok p) answer = answer p

-- `create`: one call.
abbrev pub create_at : Rows → NewKey → List (List ℕ) → CommandAnswer
create_at s kind p = record { calls = call.Create p kind (create_led s p kind) ∷ []; reply = done_or (create_led s p kind) }

-- `link`: its target is read as its path was; then one call.
abbrev pub link_at : Rows → (target : List ℕ) → List (List ℕ) → CommandAnswer
link_at s target p = at_path (path_reply target) (λ t. create_at s (Link t) p)

-- `set`: the key is got; then the index is tested, and the text; then the item is set.

abbrev pub item_or : Result Item ItemRefusal → Result Item CommandRefusal
item_or (Err why) = Err (BadItem why)
item_or (Ok item) = Ok item

-- the item that a text gives a key with this value, at this index
abbrev pub item_for : HeldValue → (index : ℕ) → (text : List ℕ) → Result Item CommandRefusal
item_for v index text = if nat_lt index (length v.items) then item_or (item_read v.tid text) else Err (Database (BadIndex (length v.items)))

abbrev pub set_item : Rows → List (List ℕ) → (index : ℕ) → Result Item CommandRefusal → CommandAnswer
set_item s p index (Err why) = refused why
set_item s p index (Ok item) = record { calls = call.Set p index item (set_led s p index item) ∷ []; reply = done_or (set_led s p index item) }

abbrev pub set_in : Rows → List (List ℕ) → (index : ℕ) → (text : List ℕ) → Result HeldValue OdbRefusal → CommandAnswer
set_in s p index text (Err why) = refused (Database why)
set_in s p index text (Ok v) = set_item s p index (item_for v index text)

abbrev pub set_at : Rows → (index : ℕ) → (text : List ℕ) → List (List ℕ) → CommandAnswer
set_at s index text p = with_first_call (call.Get p (get_led s p)) (set_in s p index text (get_led s p))

-- `get`: the key is got; for its lines it is also found, and the path of its row gives the name as it is spelled in the
-- database.

abbrev pub key_named : Rows → HeldValue → (row : ℕ) → CommandAnswer
key_named s v row = record { calls = call.PathOf row (Ok (path_with s.rows row)) ∷ []; reply = Key (unwrap_or (path_with s.rows row) []) v }

abbrev pub key_found : Rows → HeldValue → Result ℕ OdbRefusal → CommandAnswer
key_found s v (Err why) = refused (Database why)
key_found s v (Ok row) = key_named s v row

abbrev pub one_or : (len : ℕ) → Option Item → CommandReply
one_or len None = Refused (Database (BadIndex len))
one_or len (Some item) = One item

abbrev pub shown_value : Rows → List (List ℕ) → Option ℕ → HeldValue → CommandAnswer
shown_value s p None v = with_first_call (call.Find p (find_led s p)) (key_found s v (find_led s p))
shown_value s p (Some index) v = record { calls = []; reply = one_or (length v.items) (slice_get v.items index) }

abbrev pub get_in : Rows → List (List ℕ) → Option ℕ → Result HeldValue OdbRefusal → CommandAnswer
get_in s p index (Err why) = refused (Database why)
get_in s p index (Ok v) = shown_value s p index v

abbrev pub get_at : Rows → Option ℕ → List (List ℕ) → CommandAnswer
get_at s index p = with_first_call (call.Get p (get_led s p)) (get_in s p index (get_led s p))

-- `ls`: one call.

abbrev pub listed_or : Result (List Child) OdbRefusal → CommandReply
listed_or (Err why) = Refused (Database why)
listed_or (Ok children) = Listed children

abbrev pub list_at : Rows → List (List ℕ) → CommandAnswer
list_at s p = record { calls = call.ListDir p (list_led s p) ∷ []; reply = listed_or (list_led s p) }

-- `rm`: one call, and none for what is protected.

-- the root, and whatever has `Runinfo` as its first name
abbrev pub is_protected : List (List ℕ) → Bool
is_protected [] = true
is_protected (name ∷ names) = same_name name (codes "Runinfo")

abbrev pub removed : Rows → List (List ℕ) → CommandAnswer
removed s p = record { calls = call.Delete p (delete_reply s p) ∷ []; reply = done_or (delete_reply s p) }

abbrev pub remove_at : Rows → List (List ℕ) → CommandAnswer
remove_at s p = if is_protected p then refused Protected else removed s p

-- The answer of a command.
abbrev pub answer_of : Rows → RowCommand → CommandAnswer
answer_of s (command.Create tid path len) = at_path (path_reply path) (create_at s (Keys tid len))
answer_of s (command.CreateDir path) = at_path (path_reply path) (create_at s Dir)
answer_of s (command.Link path target) = at_path (path_reply path) (link_at s target)
answer_of s (command.Set path index value) = at_path (path_reply path) (set_at s index value)
answer_of s (command.Get path index) = at_path (path_reply path) (get_at s index)
answer_of s (command.List path) = at_path (path_reply path) (list_at s)
answer_of s (command.Remove path) = at_path (path_reply path) (remove_at s)
