use Rattle.odb_tree.proofs.changes.put_row.Goals as goal

pub put-requires-clause-of_type : goal.put-requires-clause-of_type
put-requires-clause-of_type c = (c.requires c.in-Some.value c.in-Some.is).of_type

pub put-requires-clause-short : goal.put-requires-clause-short
put-requires-clause-short c = (c.requires c.in-Some.value c.in-Some.is).short
