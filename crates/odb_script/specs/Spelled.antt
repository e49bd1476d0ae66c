-- The words of which each command of a script is made.
use Rattle.std.specs.Prelude.{◌≡◌, ◌⊎◌, ℕ, List, [], ◌∷◌, Option, Some, None, option_map, codes}
use Rattle.odb_script.specs.LineWords.{LineWords, word, ended, faulty}
use Rattle.daq_text.specs.Numbers.{whole_number}
use Rattle.odb_script.specs.Numbers.{most_number, most_small}
use Rattle.odb_script.specs.TypeNames.{type_named, kind_named}
use Rattle.odb_script.specs.declared.commands.Command.{Command}
use Rattle.odb_script.specs.declared.commands.Command.TheVariants.{Nothing, Exit, Declare, Run, Database}
use Rattle.odb_script.specs.declared.commands.Declaration.TheVariants.{Buffer, Equip, Channel, Analyzer}
use Rattle.odb_script.specs.declared.commands.RunCommand.TheVariants.{Events, Start, Stop, Pause, Resume}
use Rattle.odb_script.specs.declared.commands.DatabaseCommand.TheVariants.{Rows, Watches}
use Rattle.odb_script.specs.declared.commands.RowCommand.TheVariants.{Create, CreateDir, Link, Set, Get, List as Ls, Remove}
use Rattle.odb_script.specs.declared.commands.WatchCommand.TheVariants.{Load, Save, Watch, Notes, Unwatch}

-- the texts of words, where nothing else stands among them
abbrev pub texts_of : LineWords → Option (List (List ℕ))
texts_of (word at text rest) = option_map (λ texts. text ∷ texts) (texts_of rest)
texts_of (ended at) = Some []
texts_of (faulty at) = None

-- The texts are those of a command. Where no number says so, an item's index is 0, a new key has one item, the limit of a
-- front-end is the greatest number, and that of a channel's files is 0.
abbrev pub Spells : List (List ℕ) → Command → Type 0
Spells texts Nothing = texts ≡ []
Spells texts (Declare (Buffer name size)) = (number : List ℕ) × (texts ≡ codes "buffer" ∷ name ∷ number ∷ []) × (whole_number most_number number ≡ Some size)
Spells texts (Declare (Equip name id mask buffer limit)) =
    (i : List ℕ) × (m : List ℕ) × (whole_number most_number i ≡ Some id) × (whole_number most_small m ≡ Some mask)
    × ((texts ≡ codes "equip" ∷ name ∷ i ∷ m ∷ buffer ∷ []) × (limit ≡ most_number)
    ⊎ ((number : List ℕ) × (texts ≡ codes "equip" ∷ name ∷ i ∷ m ∷ buffer ∷ number ∷ []) × (whole_number most_number number ≡ Some limit)))
Spells texts (Declare (Channel number pattern buffer id mask sub_bytes)) =
    (n : List ℕ) × (i : List ℕ) × (m : List ℕ)
    × (whole_number most_number n ≡ Some number) × (whole_number most_small i ≡ Some id) × (whole_number most_small m ≡ Some mask)
    × ((texts ≡ codes "channel" ∷ n ∷ pattern ∷ buffer ∷ i ∷ m ∷ []) × (sub_bytes ≡ 0)
    ⊎ ((limit : List ℕ) × (texts ≡ codes "channel" ∷ n ∷ pattern ∷ buffer ∷ i ∷ m ∷ limit ∷ []) × (whole_number most_number limit ≡ Some sub_bytes)))
Spells texts (Declare (Analyzer name buffer id mask kind)) =
    (i : List ℕ) × (m : List ℕ) × (k : List ℕ) × (texts ≡ codes "analyzer" ∷ name ∷ buffer ∷ i ∷ m ∷ k ∷ [])
    × (whole_number most_small i ≡ Some id) × (whole_number most_small m ≡ Some mask) × (kind_named k ≡ Some kind)
Spells texts (Run (Events count)) = (number : List ℕ) × (texts ≡ codes "events" ∷ number ∷ []) × (whole_number most_number number ≡ Some count)
Spells texts (Run Start) = texts ≡ codes "start" ∷ []
Spells texts (Run Stop) = texts ≡ codes "stop" ∷ []
Spells texts (Run Pause) = texts ≡ codes "pause" ∷ []
Spells texts (Run Resume) = texts ≡ codes "resume" ∷ []
Spells texts (Database (Rows (Create tid path len))) =
    (type : List ℕ) × (type_named type ≡ Some tid)
    × ((texts ≡ codes "create" ∷ type ∷ path ∷ []) × (len ≡ 1)
    ⊎ ((number : List ℕ) × (texts ≡ codes "create" ∷ type ∷ path ∷ number ∷ []) × (whole_number most_number number ≡ Some len)))
Spells texts (Database (Rows (CreateDir path))) = texts ≡ codes "create" ∷ codes "DIR" ∷ path ∷ []
Spells texts (Database (Rows (Link path target))) = texts ≡ codes "link" ∷ path ∷ target ∷ []
Spells texts (Database (Rows (Set path index value))) =
    (texts ≡ codes "set" ∷ path ∷ value ∷ []) × (index ≡ 0)
    ⊎ ((number : List ℕ) × (texts ≡ codes "set" ∷ path ∷ number ∷ value ∷ []) × (whole_number most_number number ≡ Some index))
Spells texts (Database (Rows (Get path None))) = texts ≡ codes "get" ∷ path ∷ []
Spells texts (Database (Rows (Get path (Some index)))) = (number : List ℕ) × (texts ≡ codes "get" ∷ path ∷ number ∷ []) × (whole_number most_number number ≡ Some index)
Spells texts (Database (Rows (Ls path))) = texts ≡ codes "ls" ∷ path ∷ []
Spells texts (Database (Rows (Remove path))) = texts ≡ codes "rm" ∷ path ∷ []
Spells texts (Database (Watches (Load file))) = texts ≡ codes "load" ∷ file ∷ []
Spells texts (Database (Watches (Save file))) = texts ≡ codes "save" ∷ file ∷ []
Spells texts (Database (Watches (Watch path))) = texts ≡ codes "watch" ∷ path ∷ []
Spells texts (Database (Watches (Notes watch))) = (number : List ℕ) × (texts ≡ codes "notes" ∷ number ∷ []) × (whole_number most_number number ≡ Some watch)
Spells texts (Database (Watches (Unwatch watch))) = (number : List ℕ) × (texts ≡ codes "unwatch" ∷ number ∷ []) × (whole_number most_number number ≡ Some watch)
Spells texts Exit = texts ≡ codes "exit" ∷ []

-- words have the texts of a command and no more
abbrev pub Spelled : LineWords → Command → Type 0
Spelled words command = (texts : List (List ℕ)) × (texts_of words ≡ Some texts) × Spells texts command
