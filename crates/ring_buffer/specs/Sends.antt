-- Sends by their header and their data.
use Rattle.std.specs.Prelude.{ℕ, List, drop, sum_by, Result}
use Rattle.event.specs.declared.head.Header.{Header}
use Rattle.event.specs.Headers.{event_of}
use Rattle.buffer_core.specs.declared.replies.SendRefusal.{SendRefusal}
use Rattle.buffer_core.specs.declared.entry.BufferEntry.{BufferEntry}
use Rattle.buffer_core.specs.declared.entry.BufferEntry.TheVariants.{Send}
use Rattle.buffer_core.specs.Window.{Window, slot_of_sent}
use Rattle.buffer_core.specs.Calls.{gone_of, send_reply}

-- a send of this header and data, with its reply
abbrev pub send_entry : Header → (body : List ℕ) → Result ℕ SendRefusal → BufferEntry
send_entry header body reply = Send header.data_size (event_of header body) reply

-- the reply that it gets
abbrev pub reply_to_sent : Window → Header → (body : List ℕ) → Result ℕ SendRefusal
reply_to_sent w header body = send_reply w header.data_size (event_of header body)

-- how many of the kept events go for it
abbrev pub gone_for : Window → Header → (body : List ℕ) → ℕ
gone_for w header body = gone_of w (event_of header body)

-- the room that those take that stay
abbrev pub level_left : Window → Header → (body : List ℕ) → ℕ
level_left w header body = sum_by slot_of_sent (drop (gone_for w header body) w.kept)
