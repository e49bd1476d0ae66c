-- What a client that reads by one request for all events gets.
use Rattle.std.specs.Prelude.{◌≡◌, ◌≢◌, ℕ, ◌≤◌, ◌==◌, List, [], ◌∷◌, ◌++◌, map, filter, reverse, Option, Some, None, Ok, ⊤}
use Rattle.std.specs.List.{list_any}
use Rattle.daq_types.specs.declared.runs.Kind.TheVariants.{All}
use Rattle.event.specs.Events.{matches}
use Rattle.buffer_core.specs.declared.entry.BufferEntry.{BufferEntry}
use Rattle.buffer_core.specs.declared.entry.BufferEntry.TheVariants.{Request}
use Rattle.buffer_core.specs.Window.{Sent}
use Rattle.buffer_core.specs.Points.{News, Attached, Detached, Requested, Cancelled, news_of, Life, reached, life_at, request_at, count_at, past_of}

-- Places that a client got.

abbrev pub places_in : Option Life → List ℕ
places_in None = []
places_in (Some life) = reverse life.places

-- the places that the client got in the life that goes on at the history's end, in order
abbrev pub places_got : (history : List (ℕ × BufferEntry)) → (client : ℕ) → List ℕ
places_got h client = places_in (life_at (past_of h) client)

abbrev pub places_of : (events : List (ℕ × Sent)) → List ℕ
places_of events = map (λ e. e.0) events

-- those of the places at which one of these events stands
abbrev pub among : (events : List (ℕ × Sent)) → (places : List ℕ) → List ℕ
among events places = filter (λ p. list_any (λ e. e.0 == p) events) places

-- those of the events that a request for this id and mask wants
abbrev pub wanted : (id mask : ℕ) → (events : List (ℕ × Sent)) → List (ℕ × Sent)
wanted id mask events = filter (λ e. matches id mask e.1.event) events

-- Entries that leave a client alone.

-- the client is neither attached nor detached
abbrev pub LeavesLife : (client : ℕ) → News → Type 0
LeavesLife client (Attached n) = n ≢ client
LeavesLife client (Detached n) = n ≢ client
LeavesLife client news = ⊤

-- nor is one of its requests made or cancelled
abbrev pub LeavesRequests : (client : ℕ) → News → Type 0
LeavesRequests client (Requested n number id mask kind) = n ≢ client
LeavesRequests client (Cancelled n number) = n ≢ client
LeavesRequests client news = LeavesLife client news

abbrev pub KeepsLife : (client : ℕ) → (entries : List (ℕ × BufferEntry)) → Type 0
KeepsLife client [] = ⊤
KeepsLife client (e ∷ es) = LeavesLife client (news_of e.1) × KeepsLife client es

abbrev pub KeepsRequests : (client : ℕ) → (entries : List (ℕ × BufferEntry)) → Type 0
KeepsRequests client [] = ⊤
KeepsRequests client (e ∷ es) = LeavesRequests client (news_of e.1) × KeepsRequests client es

-- the client has read all places below this one in the life that goes on at the history's end
pub record HasReadBelow (history : List (ℕ × BufferEntry)) (client to : ℕ) : Type 0 where
  pub life : Life
  pub lives : life_at (past_of history) client ≡ Some life
  pub far : to ≤ reached life

-- Up to the first of these places the client made a request for all events of this id and mask, its only one; it kept
-- that, and made no other, until it had read all places below the second; and it stayed attached to the history's end.
pub record ReadsAll (history : List (ℕ × BufferEntry)) (client id mask from to : ℕ) : Type 0 where
  pub before : List (ℕ × BufferEntry)
  pub during : List (ℕ × BufferEntry)
  pub after : List (ℕ × BufferEntry)
  pub caller : ℕ
  pub number : ℕ
  pub whole : history ≡ before ++ (caller, Request client id mask All (Ok number)) ∷ (during ++ after)
  pub alone : (n : ℕ) → request_at (past_of before) client n ≡ None
  pub early : count_at (past_of before) ≤ from
  pub keeps : KeepsRequests client during
  pub has_read : HasReadBelow (before ++ (caller, Request client id mask All (Ok number)) ∷ during) client to
  pub stays : KeepsLife client after
