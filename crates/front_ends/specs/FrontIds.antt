-- What the events of front-ends may be.
use Rattle.std.specs.Prelude.{ℕ, ◌≤◌}

-- an id that a front-end's events may have: 1 to 32,767
pub record IsFrontId (id : ℕ) : Type 0 where
  pub least : 1 ≤ id
  pub most : id ≤ 32767

-- the most bytes of data that such an event has, its header not among them
abbrev pub event_room : ℕ
event_room = 80
