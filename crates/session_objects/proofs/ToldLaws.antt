-- What a pass tells that comes back from a port.
use Rattle.std.proofs.Common.{◌≡◌, ℕ, suc, ◌+◌, add-one, List, [], sym, ap, ◌∙◌, refl, subst}
use Rattle.std.specs.Prelude.{Some}
use Rattle.buffer_core.specs.Window.{Window, opening}
use Rattle.buffer_core.specs.declared.entry.BufferEntry.{BufferEntry}
use Rattle.buffer_core.specs.Ports.{Access, BufferIdentity}
use Rattle.ring_buffer.specs.CountedWindows.{CountedWindow}
use Rattle.turn_lock.specs.declared.lock.Pass.{Pass}
use Rattle.turn_lock.specs.Passes.{number_of, seen_by}
use Rattle.buffer_lock.specs.declared.shared.SharedBuffer.{SharedBuffer}
use Rattle.buffer_lock.specs.declared.port.SharedPort.{SharedPort}
use Rattle.buffer_lock.specs.SharedBuffers.{first_buffer}
use Rattle.buffer_lock.specs.SharedPorts.{access_by, access_to, ported_by, pass_of, buffer_of}
use Rattle.session_objects.specs.Calls.{told_through}
use Rattle.session_objects.specs.Members.{ring_window, ring_identity, new_port}

-- what the access of a port tells of the pass by which it called, for a client
pub port_tells : {g : _} → (port : SharedPort CountedWindow g) (told : Access) (shared : SharedBuffer CountedWindow) (size client : ℕ) (pass : Pass _ _ _ g) →
    access_by ring_window port ≡ told → told.buffer ≡ ring_identity shared → ring_window (first_buffer shared) ≡ opening size → told.caller ≡ client + 1 →
    pass ≡ pass_of port → told_through size (suc client) (Some told) (seen_by pass)
port_tells port told shared size client pass is identity opens number back =
    let seen : List (ℕ × BufferEntry) = seen_by pass in
    let same_seen : seen_by pass ≡ seen_by (pass_of port) = ap (λ p. seen_by p) back in
    let at_first : ring_window (first_buffer (buffer_of port)) ≡ opening size =
    ap (λ (a : Access). a.buffer.opened) is ∙ ap (λ (i : BufferIdentity). i.opened) identity ∙ opens in
    let by : number_of (pass_of port) ≡ suc client = ap (λ (a : Access). a.caller) is ∙ number ∙ add-one client in
    let P : Access → Type 0 = λ a. a ≡ access_to a.buffer (ported_by (suc client) (opening size) seen) in
    let Q : ℕ → Type 0 = λ n. access_by ring_window port ≡ access_to (access_by ring_window port).buffer (ported_by n (opening size) seen) in
    let R : Window → Type 0 = λ w. access_by ring_window port ≡ access_to (access_by ring_window port).buffer (ported_by (number_of (pass_of port)) w seen) in
    let S : List (ℕ × BufferEntry) → Type 0 = λ h. access_by ring_window port ≡ access_to (access_by ring_window port).buffer (ported_by (number_of (pass_of port)) (ring_window (first_buffer (buffer_of port))) h) in
    subst P is (subst Q by (subst R at_first (subst S (sym same_seen) refl)))

-- what a port tells by whose pass no call was made
pub new_port_is : {g : _} → (port : SharedPort CountedWindow g) (shared : SharedBuffer CountedWindow) (caller : ℕ) → buffer_of port ≡ shared →
    number_of (pass_of port) ≡ caller → seen_by (pass_of port) ≡ [] → access_by ring_window port ≡ new_port shared caller
new_port_is port shared caller leads number fresh =
    let F : SharedBuffer CountedWindow → ℕ → List (ℕ × BufferEntry) → Access = λ s n h. access_to (ring_identity s) (ported_by n (ring_window (first_buffer s)) h) in
    ap (λ (s : SharedBuffer CountedWindow). F s (number_of (pass_of port)) (seen_by (pass_of port))) leads
    ∙ ap (λ (n : ℕ). F shared n (seen_by (pass_of port))) number
    ∙ ap (λ (h : List (ℕ × BufferEntry)). F shared caller h) fresh
