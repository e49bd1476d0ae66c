-- What a value has inside.
use Rattle.odb_value.specs.Values.{HeldValue}
use Rattle.odb_value.specs.declared.values.Value.TheInside.{Inside}

abbrev pub held_of : Inside → HeldValue
held_of v = record { tid = v.tid; size = v.size; items = v.items }
