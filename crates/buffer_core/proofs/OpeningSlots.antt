-- A buffer opens with room for so many clients, and a client joins with room for so many requests; none is there yet.
use Rattle.std.specs.Prelude.{◌≡◌, ℕ, length, None, refl}
use Rattle.buffer_core.specs.Slots.{slot_at}
use Rattle.buffer_core.specs.Window.{no_clients, no_requests}
use Rattle.buffer_core.proofs.SlotLaws.{slot_free}

pub length-no_clients : length no_clients ≡ 64
unfolding no_clients
length-no_clients = refl

pub length-no_requests : length no_requests ≡ 10
unfolding no_requests
length-no_requests = refl

pub no_client_at : (n : ℕ) → slot_at no_clients n ≡ None
unfolding no_clients
no_client_at n = slot_free 64 n

pub no_request_at : (n : ℕ) → slot_at no_requests n ≡ None
unfolding no_requests
no_request_at n = slot_free 10 n
