-- How a plain buffer keeps its window.
use Rattle.std.specs.Prelude.{◌≡◌, ◌+◌, ◌*◌, ◌^◌, ◌<◌, ◌≤◌, length, sum_by, vec_capacity}
use Rattle.plain_buffer.specs.declared.plain.PlainBuffer.TheInside.{Inside}
use Rattle.buffer_core.specs.Window.{Window, IsWindow}
use Rattle.plain_buffer.specs.Rows.{slot_of_row, size_of_row, AreSmall, kept_of}

abbrev pub plain_window : Inside → Window
plain_window b = record { size = b.size; first = b.first; kept = kept_of b.rows.items b.bytes.items; clients = b.clients; gate = b.gate; last = b.last; total = b.total }

-- what every plain buffer keeps
pub record IsPlain (b : Inside) : Type 0 where
  pub kept : IsWindow (plain_window b)
  pub whole : sum_by size_of_row b.rows.items ≡ length b.bytes.items
  pub counted : b.level ≡ sum_by slot_of_row b.rows.items
  pub small : AreSmall b.rows.items
  pub fits : b.level ≤ b.size
  pub bounded : b.size ≤ 268435456
  pub paid : 24 * b.first + b.level ≤ b.total
  pub spent : b.total ≤ 2 ^ 62
  pub rows_room : b.size < 24 * vec_capacity b.rows
  pub bytes_room : b.size ≤ vec_capacity b.bytes
