-- The calls of the database: the reply of each, and the rows after it. First each at the path as it is, where no link is
-- followed; then as they are, at the path after its links.
use Rattle.std.specs.Prelude.{◌≡◌, ◌≢◌, ℕ, ◌-◌, ◌==◌, ◌||◌, Bool, true, false, not, nat_lt, if◌then◌else◌, List, [], ◌∷◌, ◌++◌, length, map, slice_index_or, Option, Some, None, Result, Ok, Err, IsErr, IsSome}
use Rattle.std.specs.Option.{option_or, option_map, is_some}
use Rattle.daq_types.specs.declared.types.Tid.{Tid}
use Rattle.daq_types.specs.declared.types.Tid.TheVariants as tid
use Rattle.daq_types.specs.declared.memory.NoMemory.{NoMemory}
use Rattle.daq_types.specs.Tids.{tid_code}
use Rattle.odb_value.specs.Paths.{is_front}
use Rattle.odb_value.specs.PathText.{path_text}
use Rattle.odb_value.specs.ItemTexts.{text_limit}
use Rattle.odb_value.specs.declared.items.Item.{Item}
use Rattle.odb_value.specs.Items.{tid_of, is_kept}
use Rattle.odb_value.specs.Values.{HeldValue}
use Rattle.odb_value.specs.ValueChanges.{new_held, put_in, resized}
use Rattle.odb_tree.specs.declared.rows.Row.{Row}
use Rattle.odb_tree.specs.declared.rows.NewKey.{NewKey}
use Rattle.odb_tree.specs.declared.rows.NewKey.TheVariants.{Dir, Keys, Link}
use Rattle.odb_tree.specs.declared.children.Child.{Child}
use Rattle.odb_tree.specs.declared.refusals.OdbRefusal.{OdbRefusal}
use Rattle.odb_tree.specs.declared.refusals.OdbRefusal.TheVariants.{Exists, NotValue, NotKept, TypeMismatch, BadIndex, NoMemory as no_memory}
use Rattle.odb_tree.specs.declared.refusals.What.{What}
use Rattle.odb_tree.specs.declared.refusals.What.TheVariants.{Size}
use Rattle.odb_tree.specs.declared.entry.DatabaseEntry.{DatabaseEntry}
use Rattle.odb_tree.specs.declared.entry.DatabaseEntry.TheVariants.{Create, Set, SetAll, Get, Find, ListDir, Delete, Resize, PathOf}
use Rattle.odb_tree.specs.Rows.{Rows, row_at, row_numbered, is_key, change_at, rows_outside, keys_in, dirs_in}
use Rattle.odb_value.specs.LinkValues.{link_to}
use Rattle.odb_tree.specs.Links.{resolved, meets_link, through, led_to}
use Rattle.odb_tree.specs.Lookups.{obstacle_to_new, seek, seek_key, dir_fault, absent_fault}
use Rattle.odb_tree.specs.Limits.{len_fault, text_fault, texts_fault, limit_fault}
use Rattle.odb_tree.specs.Making.{new_number, created}

-- The refusals are tested in this order: along the path; Exists; NotValue; NotKept; TypeMismatch; BadIndex; Limit. A
-- call that is not refused answers a number.
abbrev pub reply_or : Option OdbRefusal → (number : ℕ) → Result ℕ OdbRefusal
reply_or None number = Ok number
reply_or (Some refusal) number = Err refusal

-- New keys and directories.

-- the root is there, and so is what has a row
abbrev pub exists_fault : List Row → List (List ℕ) → Option OdbRefusal
exists_fault rows [] = Some Exists
exists_fault rows (name ∷ names) = if is_some (row_at rows (name ∷ names)) then Some Exists else None

-- the database keeps values of some types alone
abbrev pub tid_fault : Tid → Option OdbRefusal
tid_fault type = if is_kept type then None else Some (NotKept type)

-- the same for a call that may write a link, where the database keeps links
abbrev pub link_fault : (links : Bool) → Tid → Option OdbRefusal
link_fault true tid.Link = None
link_fault links type = tid_fault type

abbrev pub kept_fault : (links : Bool) → NewKey → Option OdbRefusal
kept_fault links Dir = None
kept_fault links (Keys type len) = tid_fault type
kept_fault links (Link target) = link_fault links tid.Link

-- what is wrong with the number of items, or with the text of a link
abbrev pub items_fault : NewKey → Option What
items_fault Dir = None
items_fault (Keys type len) = len_fault len
items_fault (Link target) = if nat_lt text_limit (length (path_text target)) then Some Size else None

abbrev pub new_value : NewKey → Option HeldValue
new_value Dir = None
new_value (Keys type len) = Some (new_held type len)
new_value (Link target) = Some (link_to target)

abbrev pub after_create : Rows → List (List ℕ) → NewKey → Rows
after_create s p kind = created s p (new_value kind)

abbrev pub create_fault : Rows → List (List ℕ) → NewKey → Option OdbRefusal
create_fault s p kind =
    option_or (obstacle_to_new s.rows p) (option_or (exists_fault s.rows p) (option_or (kept_fault s.links kind) (limit_fault (items_fault kind) (after_create s p kind))))

abbrev pub create_reply : Rows → List (List ℕ) → NewKey → Result ℕ OdbRefusal
create_reply s p kind = reply_or (create_fault s p kind) (new_number s p)

-- One item of a key.

abbrev pub type_fault : (have given : Tid) → Option OdbRefusal
type_fault have given = if tid_code have == tid_code given then None else Some (TypeMismatch have)

abbrev pub index_fault : (len index : ℕ) → Option OdbRefusal
index_fault len index = if nat_lt index len then None else Some (BadIndex len)

-- the database with this item at the index
abbrev pub after_set : Rows → List (List ℕ) → (index : ℕ) → Item → Rows
after_set s p index item = record s { rows = change_at s.rows p (λ v. put_in v index item) }

abbrev pub set_fault : Rows → List (List ℕ) → (index : ℕ) → Item → HeldValue → Option OdbRefusal
set_fault s p index item v =
    option_or (type_fault v.tid (tid_of item)) (option_or (index_fault (length v.items) index) (limit_fault (text_fault item) (after_set s p index item)))

abbrev pub set_reply_to : Rows → List (List ℕ) → (index : ℕ) → Item → Result (ℕ × HeldValue) OdbRefusal → Result ℕ OdbRefusal
set_reply_to s p index item (Err refusal) = Err refusal
set_reply_to s p index item (Ok key) = reply_or (set_fault s p index item key.1) key.0

abbrev pub set_reply : Rows → List (List ℕ) → (index : ℕ) → Item → Result ℕ OdbRefusal
set_reply s p index item = set_reply_to s p index item (seek_key s.rows p)

-- All items of a key, which is made where it is missing.

abbrev pub after_set_all_at : Rows → List (List ℕ) → HeldValue → Option Row → Rows
after_set_all_at s p v None = created s p (Some v)
after_set_all_at s p v (Some r) = record s { rows = change_at s.rows p (λ _. v) }

abbrev pub after_set_all : Rows → List (List ℕ) → HeldValue → Rows
after_set_all s p v = after_set_all_at s p v (row_at s.rows p)

-- a directory has no value
abbrev pub directory_fault : Option Row → Option OdbRefusal
directory_fault None = None
directory_fault (Some r) = if is_key r then None else Some NotValue

-- nor has the root
abbrev pub value_fault : List Row → List (List ℕ) → Option OdbRefusal
value_fault rows [] = Some NotValue
value_fault rows (name ∷ names) = directory_fault (row_at rows (name ∷ names))

-- a value keeps its type
abbrev pub replace_fault : (given : Tid) → Option HeldValue → Option OdbRefusal
replace_fault given None = None
replace_fault given (Some v) = type_fault v.tid given

abbrev pub there_fault : (given : Tid) → Option Row → Option OdbRefusal
there_fault given None = None
there_fault given (Some r) = replace_fault given r.value

-- what is wrong with the items: how many there are, or a text that is too long
abbrev pub own_fault : HeldValue → Option What
own_fault v = option_or (len_fault (length v.items)) (texts_fault v.items)

abbrev pub number_at : Rows → List (List ℕ) → Option Row → ℕ
number_at s p None = new_number s p
number_at s p (Some r) = r.number

abbrev pub set_all_fault : Rows → List (List ℕ) → HeldValue → Option OdbRefusal
set_all_fault s p v =
    option_or (obstacle_to_new s.rows p) (option_or (value_fault s.rows p) (option_or (tid_fault v.tid)
    (option_or (there_fault v.tid (row_at s.rows p)) (limit_fault (own_fault v) (after_set_all s p v)))))

abbrev pub set_all_reply : Rows → List (List ℕ) → HeldValue → Result ℕ OdbRefusal
set_all_reply s p v = reply_or (set_all_fault s p v) (number_at s p (row_at s.rows p))

-- The same for a call that may write a link.

abbrev pub put_fault : Rows → List (List ℕ) → HeldValue → Option OdbRefusal
put_fault s p v =
    option_or (obstacle_to_new s.rows p) (option_or (value_fault s.rows p) (option_or (link_fault s.links v.tid)
    (option_or (there_fault v.tid (row_at s.rows p)) (limit_fault (own_fault v) (after_set_all s p v)))))

abbrev pub put_reply : Rows → List (List ℕ) → HeldValue → Result ℕ OdbRefusal
put_reply s p v = reply_or (put_fault s p v) (number_at s p (row_at s.rows p))

-- the rows after a call with this reply
abbrev pub after_put : Rows → List (List ℕ) → HeldValue → Result ℕ OdbRefusal → Rows
after_put s p v (Ok number) = after_set_all s p v
after_put s p v (Err refusal) = s

-- More or fewer items of a key.

abbrev pub after_resize : Rows → List (List ℕ) → (len : ℕ) → Rows
after_resize s p len = record s { rows = change_at s.rows p (λ v. resized v len) }

abbrev pub resize_reply_to : Rows → List (List ℕ) → (len : ℕ) → Result (ℕ × HeldValue) OdbRefusal → Result ℕ OdbRefusal
resize_reply_to s p len (Err refusal) = Err refusal
resize_reply_to s p len (Ok key) = reply_or (limit_fault (len_fault len) (after_resize s p len)) key.0

abbrev pub resize_reply : Rows → List (List ℕ) → (len : ℕ) → Result ℕ OdbRefusal
resize_reply s p len = resize_reply_to s p len (seek_key s.rows p)

-- Look-ups.

abbrev pub value_reply : Result (ℕ × HeldValue) OdbRefusal → Result HeldValue OdbRefusal
value_reply (Err refusal) = Err refusal
value_reply (Ok key) = Ok key.1

abbrev pub get_reply : Rows → List (List ℕ) → Result HeldValue OdbRefusal
get_reply s p = value_reply (seek_key s.rows p)

-- the value at the path as it is, also that of a link
abbrev pub raw_reply : Rows → List (List ℕ) → Result HeldValue OdbRefusal
raw_reply s p = get_reply s p

abbrev pub number_reply : Result Row OdbRefusal → Result ℕ OdbRefusal
number_reply (Err refusal) = Err refusal
number_reply (Ok r) = Ok r.number

-- the root has number 0
abbrev pub find_reply : Rows → List (List ℕ) → Result ℕ OdbRefusal
find_reply s [] = Ok 0
find_reply s (name ∷ names) = number_reply (seek s.rows (name ∷ names))

-- the last of these names, where there is one
abbrev pub last_name : List (List ℕ) → List ℕ
last_name p = slice_index_or p (length p - 1) []

abbrev pub child_of : Row → Child
child_of r = record { name = last_name r.path; is_dir = not (is_key r); row = r.number }

-- what stands in a directory: the keys, and then the directories, each in order of making
abbrev pub children_of : List Row → List (List ℕ) → List Child
children_of rows p = map child_of (keys_in rows p) ++ map child_of (dirs_in rows p)

abbrev pub children_or : List Row → List (List ℕ) → Option OdbRefusal → Result (List Child) OdbRefusal
children_or rows p None = Ok (children_of rows p)
children_or rows p (Some refusal) = Err refusal

abbrev pub list_reply : Rows → List (List ℕ) → Result (List Child) OdbRefusal
list_reply s p = children_or s.rows p (dir_fault s.rows p)

-- the path of a row; the root has number 0
abbrev pub path_with : List Row → (number : ℕ) → Option (List (List ℕ))
path_with rows number = if number == 0 then Some [] else option_map (λ (r : Row). r.path) (row_numbered rows number)

abbrev pub is_below_path : (below above : Option (List (List ℕ))) → Bool
is_below_path None above = false
is_below_path (Some p) None = false
is_below_path (Some p) (Some q) = is_front q p

-- both numbers are there, and the first is the second or lies below it
abbrev pub is_row_below : Rows → (row above : ℕ) → Bool
is_row_below s row above = is_below_path (path_with s.rows row) (path_with s.rows above)

-- Removal.

abbrev pub after_delete : Rows → List (List ℕ) → Rows
after_delete s p = record s { rows = rows_outside s.rows p }

-- how many rows go
abbrev pub count_gone : Rows → List (List ℕ) → ℕ
count_gone s p = length s.rows - length (rows_outside s.rows p)

abbrev pub delete_reply : Rows → List (List ℕ) → Result ℕ OdbRefusal
delete_reply s p = reply_or (absent_fault s.rows p) (count_gone s p)

-- The calls.

-- The reply is the one that is due, or memory was wanting. Want of memory excuses no refusal: one that is due is answered.
abbrev pub Gives : {X : Type 0} → Result X OdbRefusal → (due : Result X OdbRefusal) → Type 0
Gives (Ok x) due = due ≡ Ok x
Gives (Err refusal) due = (refusal ≢ no_memory → due ≡ Err refusal) × (IsErr due → due ≡ Err refusal)

-- The same, but with `early` memory is taken before the tests, so that it may be wanting where a refusal is due.
abbrev pub GivesTaking : {X : Type 0} → (early : Bool) → Result X OdbRefusal → (due : Result X OdbRefusal) → Type 0
GivesTaking early (Ok x) due = due ≡ Ok x
GivesTaking true (Err refusal) due = refusal ≢ no_memory → due ≡ Err refusal
GivesTaking false (Err refusal) due = Gives (Err refusal) due

-- the path is this one, or none; memory is wanting only where there is one
abbrev pub GivesPath : Result (Option (List (List ℕ))) NoMemory → Option (List (List ℕ)) → Type 0
GivesPath (Ok path) is = is ≡ path
GivesPath (Err _) is = IsSome is

-- memory is taken early or not at all, and then the reply is the one that is due
abbrev pub GivesIf : {X : Type 0} → (early : Bool) → Result X OdbRefusal → (due : Result X OdbRefusal) → Type 0
GivesIf true given due = GivesTaking true given due
GivesIf false given due = given ≡ due

-- a text takes memory, and so does a link that is met; any other item none
abbrev pub GivesItem : (met : Bool) → Tid → Result ℕ OdbRefusal → (due : Result ℕ OdbRefusal) → Type 0
GivesItem met tid.Text given due = GivesTaking met given due
GivesItem met type given due = GivesIf met given due

-- A link's text takes memory before the tests.
abbrev pub makes_link : NewKey → Bool
makes_link Dir = false
makes_link (Keys type len) = false
makes_link (Link target) = true

-- Calls at the path as it is: the entry's reply is the one that the database gives there, or memory was wanting where it
-- gives no refusal; `find` and `delete` take none.
abbrev pub IsReplyThere : Rows → DatabaseEntry → Type 0
IsReplyThere s (Create p kind reply) = Gives reply (create_reply s p kind)
IsReplyThere s (Set p index item reply) = GivesItem false (tid_of item) reply (set_reply s p index item)
IsReplyThere s (SetAll p v reply) = Gives reply (set_all_reply s p v)
IsReplyThere s (Get p reply) = Gives reply (get_reply s p)
IsReplyThere s (Find p reply) = reply ≡ find_reply s p
IsReplyThere s (ListDir p reply) = Gives reply (list_reply s p)
IsReplyThere s (Delete p reply) = reply ≡ delete_reply s p
IsReplyThere s (Resize p len reply) = Gives reply (resize_reply s p len)
IsReplyThere s (PathOf row reply) = GivesPath reply (path_with s.rows row)

-- the rows after such a call with this reply: a refusal, want of memory too, leaves them as they were
abbrev pub rows_there : Rows → DatabaseEntry → Rows
rows_there s (Create p kind (Ok n)) = after_create s p kind
rows_there s (Set p index item (Ok n)) = after_set s p index item
rows_there s (SetAll p v (Ok n)) = after_set_all s p v
rows_there s (Delete p (Ok n)) = after_delete s p
rows_there s (Resize p len (Ok n)) = after_resize s p len
rows_there s entry = s

-- Each call but `delete` and `path_of` goes to the path after its links, and to a link at its end but for `create`. The
-- entry's reply is the one that the database gives there, or memory was wanting. That comes in place of a refusal only
-- where a link is met on the path, since to follow one takes memory before the tests, and where one is made. `find` takes
-- some only where a link is met, and `delete` none.
abbrev pub IsRowsReply : Rows → DatabaseEntry → Type 0
IsRowsReply s (Create p kind reply) = GivesTaking (makes_link kind || meets_link s p false) reply (through (resolved s p false) (λ q. create_reply s q kind))
IsRowsReply s (Set p index item reply) = GivesItem (meets_link s p true) (tid_of item) reply (through (resolved s p true) (λ q. set_reply s q index item))
IsRowsReply s (SetAll p v reply) = GivesTaking (meets_link s p true) reply (through (resolved s p true) (λ q. set_all_reply s q v))
IsRowsReply s (Get p reply) = GivesTaking (meets_link s p true) reply (through (resolved s p true) (λ q. get_reply s q))
IsRowsReply s (Find p reply) = GivesIf (meets_link s p true) reply (through (resolved s p true) (λ q. find_reply s q))
IsRowsReply s (ListDir p reply) = GivesTaking (meets_link s p true) reply (through (resolved s p true) (λ q. list_reply s q))
IsRowsReply s (Delete p reply) = reply ≡ delete_reply s p
IsRowsReply s (Resize p len reply) = GivesTaking (meets_link s p true) reply (through (resolved s p true) (λ q. resize_reply s q len))
IsRowsReply s (PathOf row reply) = GivesPath reply (path_with s.rows row)

-- the rows after a call with this reply: a refusal, want of memory too, leaves them as they were
abbrev pub rows_after : Rows → DatabaseEntry → Rows
rows_after s (Create p kind (Ok n)) = led_to s (resolved s p false) (λ q. after_create s q kind)
rows_after s (Set p index item (Ok n)) = led_to s (resolved s p true) (λ q. after_set s q index item)
rows_after s (SetAll p v (Ok n)) = led_to s (resolved s p true) (λ q. after_set_all s q v)
rows_after s (Delete p (Ok n)) = after_delete s p
rows_after s (Resize p len (Ok n)) = led_to s (resolved s p true) (λ q. after_resize s q len)
rows_after s entry = s
