-- How a journal is kept.
use Rattle.std.specs.Prelude.{◌≡◌, ◌-◌, length, sum_by, vec_len, vec_capacity}
use Rattle.plain_buffer.specs.declared.journal.BufferJournal.TheInside.{Inside}
use Rattle.plain_buffer.specs.Journals.{Journaled, entries_of, size_of_line, AreBehind, AreSized}

abbrev pub journal_of : Inside → Journaled
journal_of j = record { entries = entries_of j.lines.items j.bytes.items; room = vec_capacity j.lines - vec_len j.lines; bytes = vec_capacity j.bytes - vec_len j.bytes }

-- what every journal keeps
pub record IsJournal (j : Inside) : Type 0 where
  pub whole : sum_by size_of_line j.lines.items ≡ length j.bytes.items
  pub behind : AreBehind 0 j.lines.items
  pub apart : AreSized j.lines.items
