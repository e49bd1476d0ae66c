-- What a way has inside.
use Rattle.odb_tree.specs.Making.{Way}
use Rattle.odb_tree.specs.declared.new_rows.Way.TheInside.{Inside}

abbrev pub way_of : Inside → Way
way_of w = record { path = w.path; dirs = w.dirs.items }
