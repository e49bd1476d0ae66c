-- What a command on the rows of the database does: the calls that it makes, in order, each with the reply that it got, whatever that
-- is; and what the command is answered, by its line and these replies alone.
use Rattle.std.specs.Prelude.{◌≡◌, ◌≢◌, ℕ, Bool, true, false, IsTrue, List, [], ◌∷◌, length, slice_get, Option, Some, None, Result, Ok, Err}
use Rattle.std.specs.Option.{unwrap_or}
use Rattle.daq_types.specs.Callers.{main_caller}
use Rattle.daq_types.specs.declared.memory.NoMemory.{NoMemory}
use Rattle.odb_value.specs.declared.path_refusals.PathRefusal.{PathRefusal}
use Rattle.odb_value.specs.PathText.{path_reply}
use Rattle.odb_value.specs.declared.items.Item.{Item}
use Rattle.odb_value.specs.Values.{HeldValue}
use Rattle.odb_tree.specs.declared.children.Child.{Child}
use Rattle.odb_tree.specs.declared.entry.DatabaseEntry.{DatabaseEntry}
use Rattle.odb_tree.specs.declared.entry.DatabaseEntry.TheVariants as call
use Rattle.odb_tree.specs.declared.refusals.OdbRefusal.{OdbRefusal}
use Rattle.odb_tree.specs.declared.rows.NewKey.{NewKey}
use Rattle.odb_tree.specs.declared.rows.NewKey.TheVariants.{Dir, Keys, Link}
use Rattle.odb_tree.specs.Rows.{Rows}
use Rattle.odb_tree.specs.Calls.{rows_after}
use Rattle.odb_watch.specs.DatabasePorts.{DatabaseAccess, AddsCalls, IsCutShort, IsSettled}
use Rattle.odb_script.specs.declared.commands.RowCommand.{RowCommand}
use Rattle.odb_script.specs.declared.commands.RowCommand.TheVariants as command
use Rattle.odb_commands.specs.declared.replies.CommandRefusal.{CommandRefusal}
use Rattle.odb_commands.specs.declared.replies.CommandRefusal.TheVariants.{Path, Protected, Item as BadItem, Database}
use Rattle.odb_commands.specs.declared.replies.CommandReply.{CommandReply}
use Rattle.odb_commands.specs.declared.replies.CommandReply.TheVariants.{Done, Key, One, Listed, Refused}
use Rattle.odb_commands.specs.Answers.{CommandAnswer, done_or, item_for, is_protected, listed_or, one_or}

-- no call, and this answer
abbrev pub SaysAtOnce : CommandReply → (calls : List DatabaseEntry) → (reply : CommandReply) → Type 0
SaysAtOnce answer calls reply = (calls ≡ []) × (reply ≡ answer)

-- a text that is no path is refused before any call
abbrev pub AtPath : Result (List (List ℕ)) PathRefusal → (List (List ℕ) → List DatabaseEntry → CommandReply → Type 0) → (calls : List DatabaseEntry) → (reply : CommandReply) → Type 0
AtPath (Err why) Then calls reply = SaysAtOnce (Refused (Path why)) calls reply
AtPath (Ok p) Then calls reply = Then p calls reply

-- `create`: one call
abbrev pub CreatesKey : NewKey → List (List ℕ) → (calls : List DatabaseEntry) → (reply : CommandReply) → Type 0
CreatesKey kind p calls reply = (got : Result ℕ OdbRefusal) × (calls ≡ call.Create p kind got ∷ []) × IsSettled got × (reply ≡ done_or got)

-- `link`: its target is read as its path was; then one call
abbrev pub LinksTo : (target : List ℕ) → List (List ℕ) → (calls : List DatabaseEntry) → (reply : CommandReply) → Type 0
LinksTo target p calls reply = AtPath (path_reply target) (λ t. CreatesKey (Link t) p) calls reply

-- `set`: the key is got; then the index is tested, and the text; then the item is set
abbrev pub SetsItem : List (List ℕ) → (index : ℕ) → Result Item CommandRefusal → (calls : List DatabaseEntry) → (reply : CommandReply) → Type 0
SetsItem p index (Err why) calls reply = SaysAtOnce (Refused why) calls reply
SetsItem p index (Ok item) calls reply = (got : Result ℕ OdbRefusal) × (calls ≡ call.Set p index item got ∷ []) × IsSettled got × (reply ≡ done_or got)

abbrev pub SetsIn : List (List ℕ) → (index : ℕ) → (text : List ℕ) → Result HeldValue OdbRefusal → (calls : List DatabaseEntry) → (reply : CommandReply) → Type 0
SetsIn p index text (Err why) calls reply = SaysAtOnce (Refused (Database why)) calls reply
SetsIn p index text (Ok v) calls reply = SetsItem p index (item_for v index text) calls reply

abbrev pub Sets : (index : ℕ) → (text : List ℕ) → List (List ℕ) → (calls : List DatabaseEntry) → (reply : CommandReply) → Type 0
Sets index text p calls reply = (got : Result HeldValue OdbRefusal) × (more : List DatabaseEntry) × (calls ≡ call.Get p got ∷ more) × IsSettled got × SetsIn p index text got more reply

-- `get`: the key is got; for its lines it is also found, and the path of its row gives the name as it is spelled in the
-- database
abbrev pub Names : HeldValue → (row : ℕ) → (calls : List DatabaseEntry) → (reply : CommandReply) → Type 0
Names v row calls reply = (path : Option (List (List ℕ))) × (calls ≡ call.PathOf row (Ok path) ∷ []) × (reply ≡ Key (unwrap_or path []) v)

abbrev pub NamesFound : HeldValue → Result ℕ OdbRefusal → (calls : List DatabaseEntry) → (reply : CommandReply) → Type 0
NamesFound v (Err why) calls reply = SaysAtOnce (Refused (Database why)) calls reply
NamesFound v (Ok row) calls reply = Names v row calls reply

abbrev pub Shows : List (List ℕ) → Option ℕ → HeldValue → (calls : List DatabaseEntry) → (reply : CommandReply) → Type 0
Shows p None v calls reply = (found : Result ℕ OdbRefusal) × (more : List DatabaseEntry) × (calls ≡ call.Find p found ∷ more) × IsSettled found × NamesFound v found more reply
Shows p (Some index) v calls reply = SaysAtOnce (one_or (length v.items) (slice_get v.items index)) calls reply

abbrev pub GetsIn : List (List ℕ) → Option ℕ → Result HeldValue OdbRefusal → (calls : List DatabaseEntry) → (reply : CommandReply) → Type 0
GetsIn p index (Err why) calls reply = SaysAtOnce (Refused (Database why)) calls reply
GetsIn p index (Ok v) calls reply = Shows p index v calls reply

abbrev pub Gets : Option ℕ → List (List ℕ) → (calls : List DatabaseEntry) → (reply : CommandReply) → Type 0
Gets index p calls reply = (got : Result HeldValue OdbRefusal) × (more : List DatabaseEntry) × (calls ≡ call.Get p got ∷ more) × IsSettled got × GetsIn p index got more reply

-- `ls`: one call
abbrev pub Lists : List (List ℕ) → (calls : List DatabaseEntry) → (reply : CommandReply) → Type 0
Lists p calls reply = (got : Result (List Child) OdbRefusal) × (calls ≡ call.ListDir p got ∷ []) × IsSettled got × (reply ≡ listed_or got)

-- `rm`: one call, and none for what is protected
abbrev pub RemovesIf : (protected : Bool) → List (List ℕ) → (calls : List DatabaseEntry) → (reply : CommandReply) → Type 0
RemovesIf true p calls reply = SaysAtOnce (Refused Protected) calls reply
RemovesIf false p calls reply = (got : Result ℕ OdbRefusal) × (calls ≡ call.Delete p got ∷ []) × IsSettled got × (reply ≡ done_or got)

abbrev pub RemovesKey : List (List ℕ) → (calls : List DatabaseEntry) → (reply : CommandReply) → Type 0
RemovesKey p calls reply = RemovesIf (is_protected p) p calls reply

-- The command makes these calls, each with the reply that it got, and is answered this reply.
abbrev pub Performs : RowCommand → (calls : List DatabaseEntry) → (reply : CommandReply) → Type 0
Performs (command.Create tid path len) calls reply = AtPath (path_reply path) (CreatesKey (Keys tid len)) calls reply
Performs (command.CreateDir path) calls reply = AtPath (path_reply path) (CreatesKey Dir) calls reply
Performs (command.Link path target) calls reply = AtPath (path_reply path) (LinksTo target) calls reply
Performs (command.Set path index value) calls reply = AtPath (path_reply path) (Sets index value) calls reply
Performs (command.Get path index) calls reply = AtPath (path_reply path) (Gets index) calls reply
Performs (command.List path) calls reply = AtPath (path_reply path) Lists calls reply
Performs (command.Remove path) calls reply = AtPath (path_reply path) RemovesKey calls reply

-- Calls were made that do so, and this is the reply.
pub record Answers (a b : DatabaseAccess) (Does : List DatabaseEntry → CommandReply → Type 0) (reply : CommandReply) : Type 0 where
  pub calls : List DatabaseEntry
  pub made : AddsCalls a b calls
  pub does : Does calls reply

-- Whether a reply takes memory behind the last call of its command: the path of a line is made before it is known to be
-- protected, or an item is copied. What is wrong with a text of the line is told without memory.

abbrev pub refusal_takes_memory : CommandRefusal → Bool
refusal_takes_memory (Path why) = false
refusal_takes_memory Protected = true
refusal_takes_memory (BadItem why) = false
refusal_takes_memory (Database why) = false

abbrev pub reply_takes_memory : CommandReply → Bool
reply_takes_memory Done = false
reply_takes_memory (Key p v) = false
reply_takes_memory (One item) = true
reply_takes_memory (Listed children) = false
reply_takes_memory (Refused why) = refusal_takes_memory why

-- Memory ended before the reply: the first calls were made of some that do so, and all of them only where the reply takes
-- memory.
pub record CutsAnswer (a b : DatabaseAccess) (Does : List DatabaseEntry → CommandReply → Type 0) : Type 0 where
  pub calls : List DatabaseEntry
  pub reply : CommandReply
  pub does : Does calls reply
  pub made : List DatabaseEntry
  pub short : IsCutShort calls made
  pub rest : made ≡ calls → IsTrue (reply_takes_memory reply)
  pub adds : AddsCalls a b made

-- what a command that does this came to: its reply, or memory ended before that
abbrev pub EndsCommand : (a b : DatabaseAccess) → (Does : List DatabaseEntry → CommandReply → Type 0) → Result CommandReply NoMemory → Type 0
EndsCommand a b Does (Ok reply) = Answers a b Does reply
EndsCommand a b Does (Err wanting) = CutsAnswer a b Does

-- These are the calls and the reply of the answer.
abbrev pub IsAnswered : CommandAnswer → (calls : List DatabaseEntry) → (reply : CommandReply) → Type 0
IsAnswered answer calls reply = (calls ≡ answer.calls) × (reply ≡ answer.reply)

-- the calls of all but the main thread leave the rows as they are at that point
abbrev pub OthersLeave : Rows → List (ℕ × DatabaseEntry) → Type 0
OthersLeave s [] = Unit {0}
OthersLeave s (e ∷ history) = (e.0 ≢ main_caller → rows_after s e.1 ≡ s) × OthersLeave (rows_after s e.1) history
