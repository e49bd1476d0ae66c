-- Laws of what a command does: its calls where the rows give their replies, what they leave alone, and its calls where
use Rattle.std.specs.Prelude.{◌≡◌, ◌≢◌, ℕ, zero, suc, ◌+◌, nat_lt, Bool, true, false, if◌then◌else◌, List, [], ◌∷◌, ◌++◌, length, Option, Some, None, Result, Ok, Err, codes, refl}
use Rattle.std.specs.Option.{option_or, option_map, is_some}
use Rattle.std.proofs.Common.{sym, subst}
use Rattle.daq_types.specs.declared.types.Tid.{Tid}
use Rattle.daq_types.specs.declared.types.Tid.TheVariants as tid
use Rattle.odb_value.specs.declared.path_refusals.PathRefusal.{PathRefusal}
use Rattle.odb_value.specs.Paths.{same_name, depth_limit}
use Rattle.odb_value.specs.PathText.{path_reply}
use Rattle.odb_value.specs.declared.items.Item.{Item}
use Rattle.odb_value.specs.Items.{tid_of, is_kept}
use Rattle.odb_value.specs.Values.{HeldValue}
use Rattle.odb_tree.specs.declared.rows.Row.{Row}
use Rattle.odb_tree.specs.declared.rows.NewKey.{NewKey}
use Rattle.odb_tree.specs.declared.rows.NewKey.TheVariants.{Dir, Keys, Link}
use Rattle.odb_tree.specs.declared.entry.DatabaseEntry.{DatabaseEntry}
use Rattle.odb_tree.specs.declared.entry.DatabaseEntry.TheVariants as call
use Rattle.odb_tree.specs.declared.refusals.OdbRefusal.{OdbRefusal}
use Rattle.odb_tree.specs.declared.refusals.OdbRefusal.TheVariants.{Exists, NotDir, NoKey, NotValue, NotKept, TypeMismatch, BadIndex, Limit, BadLink, NoMemory as no_memory}
use Rattle.odb_tree.specs.declared.refusals.What.{What}
use Rattle.odb_tree.specs.Rows.{Rows, row_at, is_key}
use Rattle.odb_tree.specs.Lookups.{obstacle_at, obstacle_from, obstacle_to, obstacle_to_new, parent_of, found_row, seek, key_of, key_or_refusal as found_key, seek_key, not_dir, dir_fault, not_there, absent_fault}
use Rattle.odb_tree.specs.Links.{Met, first_link, follow, lead, links_limit, resolved, through}
use Rattle.odb_tree.specs.Limits.{limit_fault, text_fault}
use Rattle.odb_tree.specs.Calls.{reply_or, exists_fault, link_fault, kept_fault, items_fault, create_fault, create_reply, after_create, type_fault, index_fault, set_fault, set_reply_to, set_reply, after_set, value_reply, get_reply, number_reply, find_reply, children_or, list_reply, delete_reply, path_with, count_gone}
use Rattle.odb_tree.specs.Making.{new_number}
use Rattle.odb_watch.specs.DatabasePorts.{IsSettled}
use Rattle.odb_script.specs.declared.commands.RowCommand.{RowCommand}
use Rattle.odb_script.specs.declared.commands.RowCommand.TheVariants as command
use Rattle.odb_commands.specs.declared.replies.CommandRefusal.{CommandRefusal}
use Rattle.odb_commands.specs.declared.replies.CommandRefusal.TheVariants.{Protected}
use Rattle.odb_commands.specs.declared.replies.CommandReply.{CommandReply}
use Rattle.odb_commands.specs.LedReplies.{create_led, set_led, get_led, find_led, list_led}
use Rattle.odb_commands.specs.Answers.{CommandAnswer, refused, at_path, create_at, link_at, item_for, set_item, set_in, set_at, key_found, shown_value, get_in, get_at, list_at, is_protected, removed, remove_at, answer_of}
use Rattle.odb_commands.specs.CommandCalls.{AtPath, CreatesKey, LinksTo, SetsItem, SetsIn, Sets, NamesFound, Shows, GetsIn, Gets, Lists, RemovesIf, RemovesKey, Performs}
use Rattle.odb_commands.specs.CommandCallLaws.{Spares}

-- A refusal by the rows is never one for want of memory.

abbrev IsOther : Option OdbRefusal → Type 0
IsOther None = Unit {0}
IsOther (Some refusal) = refusal ≢ no_memory

not_dir_other : NotDir ≢ no_memory
not_dir_other e = cc

no_key_other : NoKey ≢ no_memory
no_key_other e = cc

not_value_other : NotValue ≢ no_memory
not_value_other e = cc

exists_other : Exists ≢ no_memory
exists_other e = cc

not_kept_other : (type : Tid) → NotKept type ≢ no_memory
not_kept_other type e = cc

type_other : (type : Tid) → TypeMismatch type ≢ no_memory
type_other type e = cc

index_other : (len : ℕ) → BadIndex len ≢ no_memory
index_other len e = cc

limit_other : (what : What) → Limit what ≢ no_memory
limit_other what e = cc

or_other : (a b : Option OdbRefusal) → IsOther a → IsOther b → IsOther (option_or a b)
or_other None b first rest = rest
or_other (Some refusal) b first rest = first

if_some_other : (b : Bool) (refusal : OdbRefusal) → refusal ≢ no_memory → IsOther (if b then Some refusal else None)
if_some_other true refusal other = other
if_some_other false refusal other = tt

if_none_other : (b : Bool) (refusal : OdbRefusal) → refusal ≢ no_memory → IsOther (if b then None else Some refusal)
if_none_other true refusal other = tt
if_none_other false refusal other = other

obstacle_other : (missing : Option OdbRefusal) (row : Option Row) → IsOther missing → IsOther (obstacle_at missing row)
obstacle_other missing None other = other
obstacle_other missing (Some r) other = if_some_other (is_key r) NotDir not_dir_other

along_other : (missing : Option OdbRefusal) (rows : List Row) (reached names : List (List ℕ)) → IsOther missing → IsOther (obstacle_from missing rows reached names)
along_other missing rows reached [] other = tt
along_other missing rows reached (name ∷ names) other =
    or_other (obstacle_at missing (row_at rows (reached ++ name ∷ []))) (obstacle_from missing rows (reached ++ name ∷ []) names)
    (obstacle_other missing (row_at rows (reached ++ name ∷ [])) other) (along_other missing rows (reached ++ name ∷ []) names other)

found_settled : (obstacle : Option OdbRefusal) (row : Option Row) → IsOther obstacle → IsSettled (found_row obstacle row)
found_settled (Some refusal) row other = other
found_settled None None other = no_key_other
found_settled None (Some r) other = tt

seek_settled : (rows : List Row) (p : List (List ℕ)) → IsSettled (seek rows p)
seek_settled rows p = found_settled (obstacle_to rows p) (row_at rows p) (along_other (Some NoKey) rows [] (parent_of p) no_key_other)

key_settled : (number : ℕ) (value : Option HeldValue) → IsSettled (key_of number value)
key_settled number None = not_value_other
key_settled number (Some v) = tt

found_key_settled : (row : Result Row OdbRefusal) → IsSettled row → IsSettled (found_key row)
found_key_settled (Err refusal) settled = settled
found_key_settled (Ok r) settled = key_settled r.number r.value

seek_key_settled : (rows : List Row) (p : List (List ℕ)) → IsSettled (seek_key rows p)
seek_key_settled rows [] = not_value_other
seek_key_settled rows (name ∷ names) = found_key_settled (seek rows (name ∷ names)) (seek_settled rows (name ∷ names))

value_settled : (key : Result (ℕ × HeldValue) OdbRefusal) → IsSettled key → IsSettled (value_reply key)
value_settled (Err refusal) settled = settled
value_settled (Ok key) settled = tt

pub get_settled : (s : Rows) (p : List (List ℕ)) → IsSettled (get_reply s p)
get_settled s p = value_settled (seek_key s.rows p) (seek_key_settled s.rows p)

number_settled : (row : Result Row OdbRefusal) → IsSettled row → IsSettled (number_reply row)
number_settled (Err refusal) settled = settled
number_settled (Ok r) settled = tt

find_settled : (s : Rows) (p : List (List ℕ)) → IsSettled (find_reply s p)
find_settled s [] = tt
find_settled s (name ∷ names) = number_settled (seek s.rows (name ∷ names)) (seek_settled s.rows (name ∷ names))

reply_settled : (fault : Option OdbRefusal) (number : ℕ) → IsOther fault → IsSettled (reply_or fault number)
reply_settled None number other = tt
reply_settled (Some refusal) number other = other

mapped_other : (what : Option What) → IsOther (option_map Limit what)
mapped_other None = tt
mapped_other (Some what) = limit_other what

exists_fault_other : (rows : List Row) (p : List (List ℕ)) → IsOther (exists_fault rows p)
exists_fault_other rows [] = exists_other
exists_fault_other rows (name ∷ names) = if_some_other (is_some (row_at rows (name ∷ names))) Exists exists_other

link_fault_other : (links : Bool) → IsOther (link_fault links tid.Link)
link_fault_other true = tt
link_fault_other false = not_kept_other tid.Link

kept_fault_other : (links : Bool) (kind : NewKey) → IsOther (kept_fault links kind)
kept_fault_other links Dir = tt
kept_fault_other links (Keys type len) = if_none_other (is_kept type) (NotKept type) (not_kept_other type)
kept_fault_other links (Link target) = link_fault_other links

pub create_settled : (s : Rows) (p : List (List ℕ)) (kind : NewKey) → IsSettled (create_reply s p kind)
create_settled s p kind =
    let limits : Option OdbRefusal = limit_fault (items_fault kind) (after_create s p kind) in
    let kinds : Option OdbRefusal = option_or (kept_fault s.links kind) limits in
    let there : Option OdbRefusal = option_or (exists_fault s.rows p) kinds in
    reply_settled (create_fault s p kind) (new_number s p)
    (or_other (obstacle_to_new s.rows p) there (along_other None s.rows [] (parent_of p) tt)
    (or_other (exists_fault s.rows p) kinds (exists_fault_other s.rows p)
    (or_other (kept_fault s.links kind) limits (kept_fault_other s.links kind) (mapped_other _))))

set_to_settled : (s : Rows) (p : List (List ℕ)) (index : ℕ) (item : Item) (key : Result (ℕ × HeldValue) OdbRefusal) → IsSettled key → IsSettled (set_reply_to s p index item key)
set_to_settled s p index item (Err refusal) settled = settled
set_to_settled s p index item (Ok key) settled =
    let limits : Option OdbRefusal = limit_fault (text_fault item) (after_set s p index item) in
    let indexes : Option OdbRefusal = option_or (index_fault (length key.1.items) index) limits in
    reply_settled (set_fault s p index item key.1) key.0
    (or_other (type_fault key.1.tid (tid_of item)) indexes (if_none_other _ (TypeMismatch key.1.tid) (type_other key.1.tid))
    (or_other (index_fault (length key.1.items) index) limits (if_none_other _ (BadIndex (length key.1.items)) (index_other (length key.1.items))) (mapped_other _)))

set_settled : (s : Rows) (p : List (List ℕ)) (index : ℕ) (item : Item) → IsSettled (set_reply s p index item)
set_settled s p index item = set_to_settled s p index item (seek_key s.rows p) (seek_key_settled s.rows p)

not_dir_fault_other : (row : Result Row OdbRefusal) → IsSettled row → IsOther (not_dir row)
not_dir_fault_other (Err refusal) settled = settled
not_dir_fault_other (Ok r) settled = if_some_other (is_key r) NotDir not_dir_other

dir_fault_other : (rows : List Row) (p : List (List ℕ)) → IsOther (dir_fault rows p)
dir_fault_other rows [] = tt
dir_fault_other rows (name ∷ names) = not_dir_fault_other (seek rows (name ∷ names)) (seek_settled rows (name ∷ names))

children_settled : (rows : List Row) (p : List (List ℕ)) (fault : Option OdbRefusal) → IsOther fault → IsSettled (children_or rows p fault)
children_settled rows p None other = tt
children_settled rows p (Some refusal) other = other

list_settled : (s : Rows) (p : List (List ℕ)) → IsSettled (list_reply s p)
list_settled s p = children_settled s.rows p (dir_fault s.rows p) (dir_fault_other s.rows p)

absent_other : (row : Result Row OdbRefusal) → IsSettled row → IsOther (not_there row)
absent_other (Err refusal) settled = settled
absent_other (Ok r) settled = tt

absent_fault_other : (rows : List Row) (p : List (List ℕ)) → IsOther (absent_fault rows p)
absent_fault_other rows [] = tt
absent_fault_other rows (name ∷ names) = absent_other (seek rows (name ∷ names)) (seek_settled rows (name ∷ names))

delete_settled : (s : Rows) (p : List (List ℕ)) → IsSettled (delete_reply s p)
delete_settled s p = reply_settled (absent_fault s.rows p) (count_gone s p) (absent_fault_other s.rows p)

-- The same at the path after its links.

bad_link_other : (steps : ℕ) → BadLink steps ≢ no_memory
bad_link_other steps e = cc

follow_settled : (next : List (List ℕ) → Result (List (List ℕ)) OdbRefusal) (steps : ℕ) (p : List (List ℕ)) (o : Option Met) → ((q : List (List ℕ)) → IsSettled (next q)) → IsSettled (follow next steps p o)
follow_settled next steps p None h = tt
follow_settled next steps p (Some m) h = by_length (nat_lt depth_limit (length m.target + length m.rest))
  where
    by_length : (t : Bool) → IsSettled (if t then Err (BadLink steps) else next (m.target ++ m.rest))
    by_length true = bad_link_other steps
    by_length false = h (m.target ++ m.rest)

lead_settled : (more : ℕ) (rows : List Row) (last : Bool) (steps : ℕ) (p : List (List ℕ)) → IsSettled (lead more rows last steps p)
lead_settled zero rows last steps p = follow_settled (λ _. Err (BadLink steps)) steps p (first_link rows last [] p) (λ q. bad_link_other steps)
lead_settled (suc more) rows last steps p = follow_settled (lead more rows last (steps + 1)) steps p (first_link rows last [] p) (lead_settled more rows last (steps + 1))

resolved_settled : (s : Rows) (p : List (List ℕ)) (last : Bool) → IsSettled (resolved s p last)
resolved_settled s p last = by_flag s.links
  where
    by_flag : (links : Bool) → IsSettled (if links then lead links_limit s.rows last 0 p else Ok p)
    by_flag true = lead_settled links_limit s.rows last 0 p
    by_flag false = tt

through_settled : {X : Type 0} (r : Result (List (List ℕ)) OdbRefusal) (reply : List (List ℕ) → Result X OdbRefusal) → IsSettled r → ((q : List (List ℕ)) → IsSettled (reply q)) → IsSettled (through r reply)
through_settled (Ok q) reply h each = each q
through_settled (Err why) reply h each = h

pub create_led_settled : (s : Rows) (p : List (List ℕ)) (kind : NewKey) → IsSettled (create_led s p kind)
create_led_settled s p kind = through_settled (resolved s p false) (λ q. create_reply s q kind) (resolved_settled s p false) (λ q. create_settled s q kind)

set_led_settled : (s : Rows) (p : List (List ℕ)) (index : ℕ) (item : Item) → IsSettled (set_led s p index item)
set_led_settled s p index item = through_settled (resolved s p true) (λ q. set_reply s q index item) (resolved_settled s p true) (λ q. set_settled s q index item)

pub get_led_settled : (s : Rows) (p : List (List ℕ)) → IsSettled (get_led s p)
get_led_settled s p = through_settled (resolved s p true) (λ q. get_reply s q) (resolved_settled s p true) (get_settled s)

find_led_settled : (s : Rows) (p : List (List ℕ)) → IsSettled (find_led s p)
find_led_settled s p = through_settled (resolved s p true) (λ q. find_reply s q) (resolved_settled s p true) (find_settled s)

list_led_settled : (s : Rows) (p : List (List ℕ)) → IsSettled (list_led s p)
list_led_settled s p = through_settled (resolved s p true) (λ q. list_reply s q) (resolved_settled s p true) (list_settled s)

-- With the replies that the rows give, a command makes the calls of its answer, and is answered so.

item_performs : (s : Rows) (p : List (List ℕ)) (index : ℕ) (item : Result Item CommandRefusal) → SetsItem p index item (set_item s p index item).calls (set_item s p index item).reply
item_performs s p index (Err why) = (refl, refl)
item_performs s p index (Ok item) = (set_led s p index item, refl, set_led_settled s p index item, refl)

set_performs : (s : Rows) (p : List (List ℕ)) (index : ℕ) (text : List ℕ) (got : Result HeldValue OdbRefusal) → SetsIn p index text got (set_in s p index text got).calls (set_in s p index text got).reply
set_performs s p index text (Err why) = (refl, refl)
set_performs s p index text (Ok v) = item_performs s p index (item_for v index text)

found_performs : (s : Rows) (v : HeldValue) (found : Result ℕ OdbRefusal) → NamesFound v found (key_found s v found).calls (key_found s v found).reply
found_performs s v (Err why) = (refl, refl)
found_performs s v (Ok row) = (path_with s.rows row, refl, refl)

shown_performs : (s : Rows) (p : List (List ℕ)) (index : Option ℕ) (v : HeldValue) → Shows p index v (shown_value s p index v).calls (shown_value s p index v).reply
shown_performs s p None v = (find_led s p, (key_found s v (find_led s p)).calls, refl, find_led_settled s p, found_performs s v (find_led s p))
shown_performs s p (Some index) v = (refl, refl)

get_performs : (s : Rows) (p : List (List ℕ)) (index : Option ℕ) (got : Result HeldValue OdbRefusal) → GetsIn p index got (get_in s p index got).calls (get_in s p index got).reply
get_performs s p index (Err why) = (refl, refl)
get_performs s p index (Ok v) = shown_performs s p index v

remove_performs : (s : Rows) (p : List (List ℕ)) (b : Bool) → RemovesIf b p (if b then refused Protected else removed s p).calls (if b then refused Protected else removed s p).reply
remove_performs s p true = (refl, refl)
remove_performs s p false = (delete_reply s p, refl, delete_settled s p, refl)

path_performs : (read : Result (List (List ℕ)) PathRefusal) (answer : List (List ℕ) → CommandAnswer) (Then : List (List ℕ) → List DatabaseEntry → CommandReply → Type 0)
    → ((p : List (List ℕ)) → Then p (answer p).calls (answer p).reply) → AtPath read Then (at_path read answer).calls (at_path read answer).reply
path_performs (Err why) answer Then each = (refl, refl)
path_performs (Ok p) answer Then each = each p

create_performs : (s : Rows) (p : List (List ℕ)) (kind : NewKey) → CreatesKey kind p (create_at s kind p).calls (create_at s kind p).reply
create_performs s p kind = (create_led s p kind, refl, create_led_settled s p kind, refl)

link_performs : (s : Rows) (target : List ℕ) (p : List (List ℕ)) → LinksTo target p (link_at s target p).calls (link_at s target p).reply
link_performs s target p = path_performs (path_reply target) (λ t. create_at s (Link t) p) (λ t. CreatesKey (Link t) p) (λ t. create_performs s p (Link t))

pub performs_answer : (s : Rows) (c : RowCommand) → Performs c (answer_of s c).calls (answer_of s c).reply
performs_answer s (command.Create tid path len) = path_performs (path_reply path) (create_at s (Keys tid len)) (CreatesKey (Keys tid len)) (λ p. create_performs s p (Keys tid len))
performs_answer s (command.CreateDir path) = path_performs (path_reply path) (create_at s Dir) (CreatesKey Dir) (λ p. create_performs s p Dir)
performs_answer s (command.Link path target) = path_performs (path_reply path) (link_at s target) (LinksTo target) (link_performs s target)
performs_answer s (command.Set path index value) = path_performs (path_reply path) (set_at s index value) (Sets index value)
    (λ p. (get_led s p, (set_in s p index value (get_led s p)).calls, refl, get_led_settled s p, set_performs s p index value (get_led s p)))
performs_answer s (command.Get path index) = path_performs (path_reply path) (get_at s index) (Gets index)
    (λ p. (get_led s p, (get_in s p index (get_led s p)).calls, refl, get_led_settled s p, get_performs s p index (get_led s p)))
performs_answer s (command.List path) = path_performs (path_reply path) (list_at s) Lists (λ p. (list_led s p, refl, list_led_settled s p, refl))
performs_answer s (command.Remove path) = path_performs (path_reply path) (remove_at s) RemovesKey (λ p. remove_performs s p (is_protected p))

spares_by : (calls more : List DatabaseEntry) → calls ≡ more → Spares more → Spares calls
spares_by calls more is spares = subst Spares (sym is) spares

item_spares : (p : List (List ℕ)) (index : ℕ) (item : Result Item CommandRefusal) (calls : List DatabaseEntry) (reply : CommandReply) → SetsItem p index item calls reply → Spares calls
item_spares p index (Err why) calls reply does = spares_by calls [] does.0 tt
item_spares p index (Ok item) calls reply does = spares_by calls (call.Set p index item does.0 ∷ []) does.1 (tt, tt)

set_spares : (p : List (List ℕ)) (index : ℕ) (text : List ℕ) (got : Result HeldValue OdbRefusal) (calls : List DatabaseEntry) (reply : CommandReply) → SetsIn p index text got calls reply → Spares calls
set_spares p index text (Err why) calls reply does = spares_by calls [] does.0 tt
set_spares p index text (Ok v) calls reply does = item_spares p index (item_for v index text) calls reply does

found_spares : (v : HeldValue) (found : Result ℕ OdbRefusal) (calls : List DatabaseEntry) (reply : CommandReply) → NamesFound v found calls reply → Spares calls
found_spares v (Err why) calls reply does = spares_by calls [] does.0 tt
found_spares v (Ok row) calls reply does = spares_by calls (call.PathOf row (Ok does.0) ∷ []) does.1 (tt, tt)

shown_spares : (p : List (List ℕ)) (index : Option ℕ) (v : HeldValue) (calls : List DatabaseEntry) (reply : CommandReply) → Shows p index v calls reply → Spares calls
shown_spares p None v calls reply does = spares_by calls (call.Find p does.0 ∷ does.1) does.2 (tt, found_spares v does.0 does.1 reply does.4)
shown_spares p (Some index) v calls reply does = spares_by calls [] does.0 tt

get_spares : (p : List (List ℕ)) (index : Option ℕ) (got : Result HeldValue OdbRefusal) (calls : List DatabaseEntry) (reply : CommandReply) → GetsIn p index got calls reply → Spares calls
get_spares p index (Err why) calls reply does = spares_by calls [] does.0 tt
get_spares p index (Ok v) calls reply does = shown_spares p index v calls reply does

removed_spares : (name : List ℕ) (names : List (List ℕ)) (b : Bool) (calls : List DatabaseEntry) (reply : CommandReply) → same_name name (codes "Runinfo") ≡ b → RemovesIf b (name ∷ names) calls reply → Spares calls
removed_spares name names true calls reply is does = spares_by calls [] does.0 tt
removed_spares name names false calls reply is does = spares_by calls (call.Delete (name ∷ names) does.0 ∷ []) does.1 (is, tt)

remove_spares : (p : List (List ℕ)) (calls : List DatabaseEntry) (reply : CommandReply) → RemovesKey p calls reply → Spares calls
remove_spares [] calls reply does = spares_by calls [] does.0 tt
remove_spares (name ∷ names) calls reply does = removed_spares name names (same_name name (codes "Runinfo")) calls reply refl does

path_spares : (read : Result (List (List ℕ)) PathRefusal) (Then : List (List ℕ) → List DatabaseEntry → CommandReply → Type 0) (calls : List DatabaseEntry) (reply : CommandReply)
    → ((p : List (List ℕ)) → Then p calls reply → Spares calls) → AtPath read Then calls reply → Spares calls
path_spares (Err why) Then calls reply each does = spares_by calls [] does.0 tt
path_spares (Ok p) Then calls reply each does = each p does

create_spares : (p : List (List ℕ)) (kind : NewKey) (calls : List DatabaseEntry) (reply : CommandReply) → CreatesKey kind p calls reply → Spares calls
create_spares p kind calls reply does = spares_by calls (call.Create p kind does.0 ∷ []) does.1 (tt, tt)

pub performs_spares : (c : RowCommand) (calls : List DatabaseEntry) (reply : CommandReply) → Performs c calls reply → Spares calls
performs_spares (command.Create tid path len) calls reply does =
    path_spares (path_reply path) (CreatesKey (Keys tid len)) calls reply (λ p it. create_spares p (Keys tid len) calls reply it) does
performs_spares (command.CreateDir path) calls reply does =
    path_spares (path_reply path) (CreatesKey Dir) calls reply (λ p it. create_spares p Dir calls reply it) does
performs_spares (command.Link path target) calls reply does =
    path_spares (path_reply path) (LinksTo target) calls reply
    (λ p it. path_spares (path_reply target) (λ t. CreatesKey (Link t) p) calls reply (λ t made. create_spares p (Link t) calls reply made) it) does
performs_spares (command.Set path index value) calls reply does =
    path_spares (path_reply path) (Sets index value) calls reply (λ p it. spares_by calls (call.Get p it.0 ∷ it.1) it.2 (tt, set_spares p index value it.0 it.1 reply it.4)) does
performs_spares (command.Get path index) calls reply does =
    path_spares (path_reply path) (Gets index) calls reply (λ p it. spares_by calls (call.Get p it.0 ∷ it.1) it.2 (tt, get_spares p index it.0 it.1 reply it.4)) does
performs_spares (command.List path) calls reply does =
    path_spares (path_reply path) Lists calls reply (λ p it. spares_by calls (call.ListDir p it.0 ∷ []) it.1 (tt, tt)) does
performs_spares (command.Remove path) calls reply does = path_spares (path_reply path) RemovesKey calls reply (λ p it. remove_spares p calls reply it) does
