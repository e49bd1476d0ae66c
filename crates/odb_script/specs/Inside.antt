-- What a reader of lines keeps inside.
use Rattle.std.specs.Prelude.{◌≡◌, ◌-◌, ◌≤◌, length, take, drop, vec_capacity}
use Rattle.odb_script.specs.Lines.{Reading, script_limit}
use Rattle.odb_script.specs.declared.reading.LineReader.TheInside.{Inside}

-- the reading that the fields stand for: the bytes of the block between two places are pending
abbrev pub reading_of : Inside → Reading
reading_of r = record { line = r.line.items; pending = take (r.filled - r.at) (drop r.at r.block.items); taken = r.taken }

pub record IsLineReader (r : Inside) : Type 0 where
  pub passed : r.at ≤ r.filled
  pub filled : r.filled ≤ length r.block.items
  pub block : length r.block.items ≡ 65536
  pub short : length r.line.items ≤ 4098
  pub room : 4098 ≤ vec_capacity r.line
  pub taken : r.taken ≤ script_limit
