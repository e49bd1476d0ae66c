use Rattle.odb_watch.proofs.watched.WatchesDatabase.put.Goals as goal

pub invariant_of-self : goal.invariant_of-self
invariant_of-self g c = c.note_reply.ensures.few c.self.invariant
