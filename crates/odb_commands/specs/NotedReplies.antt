-- What came of a script's lines that called the database files.
use Rattle.std.specs.Prelude.{ℕ, List}
use Rattle.odb_commands.specs.declared.dump_replies.FileReply.{FileReply}

-- the number and the reply of each such line, in order, and room for so many more
pub record NotedReplies : Type 0 where
  pub replies : List (ℕ × FileReply)
  pub room : ℕ
