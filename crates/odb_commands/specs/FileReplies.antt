-- What a command's calls on the database files came to, and what these files count of it.
use Rattle.std.specs.Prelude.{◌≡◌, ℕ, List, Option}
use Rattle.daq_io.specs.Counts.{Rose, first_of}
use Rattle.odb_commands.specs.declared.dump_replies.FileReply.{FileReply}
use Rattle.odb_commands.specs.declared.dump_replies.FileReply.TheVariants.{Done, Clash, Fault, TooLong}
use Rattle.odb_commands.specs.declared.dump_replies.FileRead.{FileRead}
use Rattle.odb_commands.specs.declared.dump_replies.FileRead.TheVariants.{Whole, Missing, Fault as read_fault, TooLong as read_too_long}

-- the reply to a command that reads a file
abbrev pub reply_of : FileRead → FileReply
reply_of (Whole text) = Done
reply_of Missing = Clash
reply_of read_fault = Fault
reply_of read_too_long = TooLong

-- the count of faults: it rose at a fault alone
abbrev pub FaultsOf : FileReply → (old new : ℕ) → Type 0
FaultsOf Done old new = new ≡ old
FaultsOf Clash old new = new ≡ old
FaultsOf Fault old new = Rose old new
FaultsOf TooLong old new = new ≡ old

-- the count of clashes: it rose at a clash alone
abbrev pub ClashesOf : FileReply → (old new : ℕ) → Type 0
ClashesOf Done old new = new ≡ old
ClashesOf Clash old new = Rose old new
ClashesOf Fault old new = new ≡ old
ClashesOf TooLong old new = new ≡ old

-- the name of the first fault: at a fault it is this one, where there was none before
abbrev pub NamesFault : FileReply → (name : List ℕ) → (old new : Option (List ℕ)) → Type 0
NamesFault Done name old new = new ≡ old
NamesFault Clash name old new = new ≡ old
NamesFault Fault name old new = new ≡ first_of old name
NamesFault TooLong name old new = new ≡ old
