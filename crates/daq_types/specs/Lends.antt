-- What a list ends as, where a `&mut` to one of its entries is returned.
use Rattle.std.specs.Prelude.{ℕ, List, Option, slice_set}
use Rattle.std.specs.Borrow.{LendsIf, Fml, RattleType, MutBor}
use Rattle.daq_types.specs.contracts.bounded_list.BoundedList.{the_row}

module _ (T ROOM : RattleType) (l : MutBor (List T.Denot)) where
  -- once the borrow r ends, the place has the last value written through r; at `None` the list stays as it is
  abbrev pub lends_entry : ℕ → Option (MutBor T.Denot) → Fml
  lends_entry place r = LendsIf (the_row T ROOM) T l r (slice_set l.now place) l.now
