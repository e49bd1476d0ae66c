use Rattle.odb_commands.proofs.WatchMade.{ends_cut, not_begun}
use Rattle.odb_commands.proofs.DumpMade.{loadable, cut_loads, file_loaded, faults_if, clashes_if, names_fault_if, unclashed_if, faultless_if, nameless_if}
use Rattle.odb_commands.proofs.dumps.load_at.Goals as goal

pub load_read-requires-clause-small : goal.load_read-requires-clause-small
load_read-requires-clause-small g c = loadable _ _ _ c.in_ok-read.ensures.read

pub returns-in_err-read-clause-ends : goal.returns-in_err-read-clause-ends
returns-in_err-read-clause-ends g c = ends_cut _ _ _ _ c.from_residual.ensures.0 (not_begun _ _ (cut_loads _ _ _ c.read_file.ensures.same c.in_err-read.ensures.there))

pub returns-clause-ends : goal.returns-clause-ends
returns-clause-ends g c = file_loaded _ _ _ _ _ _ _ c.read_file.ensures.same c.in_ok-read.ensures.read c.load_read.ensures.ends

pub returns-clause-faults : goal.returns-clause-faults
returns-clause-faults g c = faults_if _ _ _ _ c.load_read.ensures.file c.in_ok-read.ensures.faults

pub returns-clause-clashes : goal.returns-clause-clashes
returns-clause-clashes g c = clashes_if _ _ _ _ c.load_read.ensures.file c.in_ok-read.ensures.clashes

pub returns-clause-first : goal.returns-clause-first
returns-clause-first g c = names_fault_if _ _ _ _ _ c.load_read.ensures.file c.in_ok-read.ensures.first

pub returns-clause-unclashed : goal.returns-clause-unclashed
returns-clause-unclashed g c = unclashed_if _ _ _ _ c.load_read.ensures.whole c.in_ok-read.ensures.clashes

pub returns-clause-faultless : goal.returns-clause-faultless
returns-clause-faultless g c = faultless_if _ _ _ _ c.load_read.ensures.whole c.in_ok-read.ensures.faults

pub returns-clause-nameless : goal.returns-clause-nameless
returns-clause-nameless g c = nameless_if _ _ _ _ _ c.load_read.ensures.whole c.in_ok-read.ensures.first
