-- What replies end as, where a `&mut` to one of them is returned.
use Rattle.std.specs.Prelude.{ℕ, Option, ◌∷◌, [], slice_set}
use Rattle.std.specs.Borrow.{LendsIf, Fml, MutBor, u64}
use denote.Struct.Tuple.{Tuple}
use Rattle.odb_commands.specs.declared.dump_replies.FileReply.{FileReply}
use Rattle.odb_commands.specs.contracts.dump_replies.FileReply as reply
use Rattle.odb_commands.specs.contracts.file_replies.FileReplies as replies
use Rattle.odb_commands.specs.NotedReplies.{NotedReplies}

-- these replies, where the one at that place is another
abbrev pub with_reply : NotedReplies → ℕ → ℕ × FileReply → NotedReplies
with_reply l place entry = record l { replies = slice_set l.replies place entry }

-- once the borrow r ends, the place has the last value written through r; at `None` the replies stay as they are
abbrev pub lends_reply : MutBor NotedReplies → ℕ → Option (MutBor (ℕ × FileReply)) → Fml
lends_reply l place r = LendsIf replies.the_row (Tuple (u64 ∷ reply.the_row ∷ [])) l r (with_reply l.now place) l.now
