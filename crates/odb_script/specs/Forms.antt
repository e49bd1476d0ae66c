-- The forms of a script's commands, read word by word.
use Rattle.std.specs.Prelude.{ℕ, nat_lt, nat_eq, if◌then◌else◌, List, length, Option, Some, None, unwrap_or, Result, Ok, Err, codes}
use Rattle.std.specs.List.{starts_with}
use Rattle.daq_types.specs.declared.runs.Kind.{Kind}
use Rattle.daq_types.specs.declared.types.Tid.{Tid}
use Rattle.odb_script.specs.LineWords.{LineWords, word, ended, faulty, line_words}
use Rattle.daq_text.specs.Numbers.{whole_number}
use Rattle.odb_script.specs.Numbers.{most_number, most_small}
use Rattle.odb_script.specs.TypeNames.{is_text, type_named, kind_named}
use Rattle.odb_script.specs.declared.commands.Command.{Command}
use Rattle.odb_script.specs.declared.commands.Command.TheVariants.{Nothing, Exit, Declare, Run, Database}
use Rattle.odb_script.specs.declared.commands.Declaration.TheVariants.{Buffer, Equip, Channel, Analyzer}
use Rattle.odb_script.specs.declared.commands.RunCommand.TheVariants.{Events, Start, Stop, Pause, Resume}
use Rattle.odb_script.specs.declared.commands.DatabaseCommand.TheVariants.{Rows, Watches}
use Rattle.odb_script.specs.declared.commands.RowCommand.{RowCommand}
use Rattle.odb_script.specs.declared.commands.RowCommand.TheVariants.{Create, CreateDir, Link, Set, Get, List as Ls, Remove}
use Rattle.odb_script.specs.declared.commands.WatchCommand.{WatchCommand}
use Rattle.odb_script.specs.declared.commands.WatchCommand.TheVariants.{Load, Save, Watch, Notes, Unwatch}
use Rattle.odb_script.specs.declared.refusals.LineRefusal.{LineRefusal}
use Rattle.odb_script.specs.declared.refusals.LineRefusal.TheVariants.{BadCommand}

-- what is read of a line, or the place at which no form goes on
abbrev pub Read : Type 0 → Type 0
Read A = Result A LineRefusal

infixl 10 ◌>>=◌
abbrev pub ◌>>=◌ : {A B : Type 0} → Read A → (A → Read B) → Read B
Ok x >>= f = f x
Err e >>= f = Err e

-- the text of the next word, which has to be there
abbrev pub next_text : LineWords → Read (List ℕ)
next_text (word at text ws) = Ok text
next_text (ended at) = Err (BadCommand at)
next_text (faulty at) = Err (BadCommand at)

-- what stands behind the next word
abbrev pub words_behind : LineWords → LineWords
words_behind (word at text ws) = ws
words_behind (ended at) = ended at
words_behind (faulty at) = faulty at

-- the line ends here
abbrev pub line_end : LineWords → Read (Unit {0})
line_end (word at text ws) = Err (BadCommand at)
line_end (ended at) = Ok tt
line_end (faulty at) = Err (BadCommand at)

-- the next word is no number
abbrev pub read_number_at : ℕ → Option ℕ → Read ℕ
read_number_at at None = Err (BadCommand at)
read_number_at at (Some n) = Ok n

-- the next word, which has to be a number of at most this
abbrev pub next_number : (most : ℕ) → LineWords → Read ℕ
next_number most (word at text ws) = read_number_at at (whole_number most text)
next_number most (ended at) = Err (BadCommand at)
next_number most (faulty at) = Err (BadCommand at)

-- the next word names no kind of request
abbrev pub read_kind_at : ℕ → Option Kind → Read Kind
read_kind_at at None = Err (BadCommand at)
read_kind_at at (Some kind) = Ok kind

-- the next word, which has to name one
abbrev pub next_kind : LineWords → Read Kind
next_kind (word at text ws) = read_kind_at at (kind_named text)
next_kind (ended at) = Err (BadCommand at)
next_kind (faulty at) = Err (BadCommand at)

-- a number at the line's end, which may be left out
abbrev pub number_at_end : LineWords → Read (Option ℕ)
number_at_end (word at text ws) = do
  n ← read_number_at at (whole_number most_number text)
  _ ← line_end ws
  Ok (Some n)
number_at_end (ended at) = Ok None
number_at_end (faulty at) = Err (BadCommand at)

-- the text of the last word
abbrev pub only_text : LineWords → Read (List ℕ)
only_text ws = do
  text ← next_text ws
  _ ← line_end (words_behind ws)
  Ok text

-- the last word, which is a number
abbrev pub only_number : LineWords → Read ℕ
only_number ws = do
  n ← next_number most_number ws
  _ ← line_end (words_behind ws)
  Ok n

-- a command on the rows of the database, and one for its watches or dumps

abbrev pub on_rows : RowCommand → Command
on_rows command = Database (Rows command)

abbrev pub on_watches : WatchCommand → Command
on_watches command = Database (Watches command)

-- a command of one word
abbrev pub only : Command → LineWords → Read Command
only command ws = do
  _ ← line_end ws
  Ok command

-- a command with one text
abbrev pub with_text : (List ℕ → Command) → LineWords → Read Command
with_text make ws = do
  text ← only_text ws
  Ok (make text)

-- a command with one number
abbrev pub with_number : (ℕ → Command) → LineWords → Read Command
with_number make ws = do
  n ← only_number ws
  Ok (make n)

-- `buffer NAME SIZE`
abbrev pub buffer_form : LineWords → Read Command
buffer_form ws = do
  name ← next_text ws
  with_number (λ size. Declare (Buffer name size)) (words_behind ws)

-- what stands behind `equip NAME ID MASK`: a buffer's name and maybe LIMIT, which is else the greatest number
abbrev pub equip_end : (name : List ℕ) (id mask : ℕ) → LineWords → Read Command
equip_end name id mask ws = do
  buffer ← next_text ws
  limit ← number_at_end (words_behind ws)
  Ok (Declare (Equip name id mask buffer (unwrap_or limit most_number)))

-- `equip NAME ID MASK BUFFER [LIMIT]`
abbrev pub equip_form : LineWords → Read Command
equip_form ws = do
  name ← next_text ws
  id ← next_number most_number (words_behind ws)
  mask ← next_number most_small (words_behind (words_behind ws))
  equip_end name id mask (words_behind (words_behind (words_behind ws)))

-- what stands behind `channel N PATTERN BUFFER`, with maybe SUBBYTES, which is else 0
abbrev pub channel_end : (number : ℕ) (pattern buffer : List ℕ) → LineWords → Read Command
channel_end number pattern buffer ws = do
  id ← next_number most_small ws
  mask ← next_number most_small (words_behind ws)
  sub_bytes ← number_at_end (words_behind (words_behind ws))
  Ok (Declare (Channel number pattern buffer id mask (unwrap_or sub_bytes 0)))

-- `channel N PATTERN BUFFER ID MASK [SUBBYTES]`
abbrev pub channel_form : LineWords → Read Command
channel_form ws = do
  number ← next_number most_number ws
  pattern ← next_text (words_behind ws)
  buffer ← next_text (words_behind (words_behind ws))
  channel_end number pattern buffer (words_behind (words_behind (words_behind ws)))

-- what stands behind `analyzer NAME BUFFER`
abbrev pub analyzer_end : (name buffer : List ℕ) → LineWords → Read Command
analyzer_end name buffer ws = do
  id ← next_number most_small ws
  mask ← next_number most_small (words_behind ws)
  kind ← next_kind (words_behind (words_behind ws))
  only (Declare (Analyzer name buffer id mask kind)) (words_behind (words_behind (words_behind ws)))

-- `analyzer NAME BUFFER ID MASK all`, or `some` in the place of `all`
abbrev pub analyzer_form : LineWords → Read Command
analyzer_form ws = do
  name ← next_text ws
  buffer ← next_text (words_behind ws)
  analyzer_end name buffer (words_behind (words_behind ws))

-- `create DIR PATH`
abbrev pub directory_form : LineWords → Read Command
directory_form = with_text (λ path. on_rows (CreateDir path))

-- `create TYPE PATH` and maybe LEN, which is else 1
abbrev pub value_form : ℕ → Option Tid → LineWords → Read Command
value_form at None ws = Err (BadCommand at)
value_form at (Some tid) ws = do
  path ← next_text ws
  len ← number_at_end (words_behind ws)
  Ok (on_rows (Create tid path (unwrap_or len 1)))

abbrev pub create_form : LineWords → Read Command
create_form (word at kind ws) = if is_text kind (codes "DIR") then directory_form ws else value_form at (type_named kind) ws
create_form (ended at) = Err (BadCommand at)
create_form (faulty at) = Err (BadCommand at)

-- `link PATH TARGET`
abbrev pub link_form : LineWords → Read Command
link_form ws = do
  path ← next_text ws
  with_text (λ target. on_rows (Link path target)) (words_behind ws)

-- What stands behind `set PATH` and one more word, which is the value where the line ends. Else it is the index, and
-- the next word the value; no form goes on there if it is no number.
abbrev pub set_end : List ℕ → List ℕ → Option ℕ → LineWords → Read Command
set_end path first index (ended at) = Ok (on_rows (Set path 0 first))
set_end path first index (faulty at) = Err (BadCommand at)
set_end path first None (word at value ws) = Err (BadCommand at)
set_end path first (Some index) (word at value ws) = only (on_rows (Set path index value)) ws

-- `set PATH VALUE` or `set PATH INDEX VALUE`
abbrev pub set_form : LineWords → Read Command
set_form ws = do
  path ← next_text ws
  first ← next_text (words_behind ws)
  set_end path first (whole_number most_number first) (words_behind (words_behind ws))

-- `get PATH` and maybe INDEX
abbrev pub get_form : LineWords → Read Command
get_form ws = do
  path ← next_text ws
  index ← number_at_end (words_behind ws)
  Ok (on_rows (Get path index))

-- The form that begins with a name, which stands at a place, with what is behind it.

-- a dump's or a watch's; none begins with another name
unfoldable pub watching_form : ℕ → List ℕ → LineWords → Read Command
watching_form at name ws =
    if is_text name (codes "load") then with_text (λ file. on_watches (Load file)) ws
    else if is_text name (codes "save") then with_text (λ file. on_watches (Save file)) ws
    else if is_text name (codes "watch") then with_text (λ path. on_watches (Watch path)) ws
    else if is_text name (codes "notes") then with_number (λ watch. on_watches (Notes watch)) ws
    else if is_text name (codes "unwatch") then with_number (λ watch. on_watches (Unwatch watch)) ws
    else Err (BadCommand at)

-- a key's, or one of those
unfoldable pub key_form : ℕ → List ℕ → LineWords → Read Command
key_form at name ws =
    if is_text name (codes "create") then create_form ws
    else if is_text name (codes "link") then link_form ws
    else if is_text name (codes "set") then set_form ws
    else if is_text name (codes "get") then get_form ws
    else if is_text name (codes "ls") then with_text (λ path. on_rows (Ls path)) ws
    else if is_text name (codes "rm") then with_text (λ path. on_rows (Remove path)) ws
    else watching_form at name ws

-- a declaration's, or one of those
unfoldable pub declaring_form : ℕ → List ℕ → LineWords → Read Command
declaring_form at name ws =
    if is_text name (codes "buffer") then buffer_form ws
    else if is_text name (codes "equip") then equip_form ws
    else if is_text name (codes "channel") then channel_form ws
    else if is_text name (codes "analyzer") then analyzer_form ws
    else key_form at name ws

-- a run's, that of `exit`, or one of those
unfoldable pub named_form : ℕ → List ℕ → LineWords → Read Command
named_form at name ws =
    if is_text name (codes "events") then with_number (λ count. Run (Events count)) ws
    else if is_text name (codes "start") then only (Run Start) ws
    else if is_text name (codes "stop") then only (Run Stop) ws
    else if is_text name (codes "pause") then only (Run Pause) ws
    else if is_text name (codes "resume") then only (Run Resume) ws
    else if is_text name (codes "exit") then only Exit ws
    else declaring_form at name ws

-- a line of no word is passed over
abbrev pub words_form : LineWords → Read Command
words_form (word at name ws) = named_form at name ws
words_form (ended at) = Ok Nothing
words_form (faulty at) = Err (BadCommand at)

-- The command of a line, or the place of the first word with which no form goes on; that place is the line's length
-- where the line ends too early or a quote is not closed. A line that begins with `#` is passed over. A line of more
-- than 4,096 bytes is refused at 4096.
unfoldable pub command_of : List ℕ → Read Command
command_of line =
    if nat_lt 4096 (length line) then Err (BadCommand 4096)
    else if starts_with nat_eq line (codes "#") then Ok Nothing
    else words_form (line_words line)
