-- What calls on a watched database leave alone.
use Rattle.std.specs.Prelude.{ℕ, List, [], ◌∷◌}
use Rattle.odb_watch.specs.declared.entry.WatchEntry.{WatchEntry}
use Rattle.odb_watch.specs.declared.entry.WatchEntry.TheVariants.{Call, Watch, Notes, Unwatch, Save, Load}
use Rattle.odb_runinfo.specs.RunNumberKept.{SparesRuninfo}

-- the call removes nothing below `/Runinfo`; no text that is loaded does
abbrev pub SparesWatched : WatchEntry → Type 0
SparesWatched (Call entry) = SparesRuninfo entry
SparesWatched (Watch row reply) = Unit {0}
SparesWatched (Notes w reply) = Unit {0}
SparesWatched (Unwatch w reply) = Unit {0}
SparesWatched (Save reply) = Unit {0}
SparesWatched (Load text reply) = Unit {0}

-- all calls are such
abbrev pub AllSpareWatched : List (ℕ × WatchEntry) → Type 0
AllSpareWatched [] = Unit {0}
AllSpareWatched (e ∷ es) = SparesWatched e.1 × AllSpareWatched es
