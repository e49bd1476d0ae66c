-- What a caller's calls on a buffer gave are events that were sent there.
use Rattle.std.specs.Prelude.{◌≡◌, ℕ, [], Option, Some, None, slice_get, refl}
use Rattle.std.specs.List.{AllByRecursion}
use Rattle.buffer_core.specs.Window.{opening}
use Rattle.buffer_core.specs.Histories.{History, IsLegal}
use Rattle.buffer_core.specs.CallersView.{given_in}
use Rattle.history_laws.specs.OneCaller.{WasSentAt}
use Rattle.history_laws.specs.CallerLaws.{PortTells}
use Rattle.session_laws.specs.ClosedSessions.{ClosedBuffer, ClosedSession, size_in, history_in, size_of_buffer, history_of_buffer}
use Rattle.session_laws.specs.MembersAtEnd.{MembersAtEnd}

pub got_sent : PortTells → (size by : ℕ) (h : History) → IsLegal (opening size) h → AllByRecursion (WasSentAt h) (given_in by (opening size) h)
got_sent tells size by h legal = (tells size (record { opened = opening size; ports = 1; numbers = [] }) refl h legal by).sent_so

legal_in : (o : Option ClosedBuffer) → ((b : ClosedBuffer) → o ≡ Some b → IsLegal (opening b.size) b.history) → IsLegal (opening (size_in o)) (history_in o)
legal_in None legal = tt
legal_in (Some b) legal = legal b refl

pub legal_buffer : (c : ClosedSession) → MembersAtEnd c → (buffer : ℕ) → IsLegal (opening (size_of_buffer c buffer)) (history_of_buffer c buffer)
legal_buffer c ends buffer = legal_in (slice_get c.buffers buffer) (λ b at. ends.buffers buffer b at)
