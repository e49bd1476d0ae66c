use Rattle.std.proofs.Common.{◌≡◌, ◌<◌, ◌≤◌, true, false, length, sym, ◌∙◌, arith}
use Rattle.daq_mem.proofs.files.MemFilesFiles.open_read.Goals as goal

-- a reader is there for each number, and has room for each file
pub returns-in-Some-clause-fails : goal.returns-in-Some-clause-fails
returns-in-Some-clause-fails c = λ failed.
    let inside : c.in-Some-free.number < length c.args.self.now.readers.readers.items = omega (arith, c.args.self.now.read_by_number, c.in-Some-free.ensures.inside) in
    let fits : length c.as_slice.result.now ≤ c.args.self.now.readers.room = omega (arith, c.as_slice.ensures.fits, c.in-Some.ensures.sized, c.args.self.now.room_to_read) in
    let e : false ≡ true = sym c.if-open.false ∙ c.open.ensures.fits inside fits in cc
