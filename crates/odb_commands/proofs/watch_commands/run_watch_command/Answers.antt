use Rattle.odb_commands.specs.WatchCalls.{SavesFile}
use Rattle.odb_commands.proofs.WatchMade.{port_stays}
use Rattle.odb_commands.proofs.DumpMade.{named_as}
use Rattle.odb_commands.proofs.watch_commands.run_watch_command.Goals as goal

pub returns-in-Save-clause-ends : goal.returns-in-Save-clause-ends
returns-in-Save-clause-ends g c =
    rw c.in-Save.is (named_as _ _ _ _ (SavesFile (g.E.Files.told c.args.files.now).seen (g.E.Files.told c.save.new.files).seen) _ _ _ c.as_slice-in-Save.ensures c.save.ensures.ends)

pub returns-in-Load-clause-same : goal.returns-in-Load-clause-same
returns-in-Load-clause-same g c = port_stays c.entries_add_up.ensures.same _ _ _ _ c.load.ensures.ends

pub returns-in-Save-clause-same : goal.returns-in-Save-clause-same
returns-in-Save-clause-same g c = port_stays c.entries_add_up.ensures.same _ _ _ _ c.save.ensures.ends

pub returns-in-Watch-clause-same : goal.returns-in-Watch-clause-same
returns-in-Watch-clause-same g c = port_stays c.entries_add_up.ensures.same _ _ _ _ c.watch.ensures

pub returns-in-Notes-clause-same : goal.returns-in-Notes-clause-same
returns-in-Notes-clause-same g c = port_stays c.entries_add_up.ensures.same _ _ _ _ c.notes.ensures

pub returns-in-Unwatch-clause-same : goal.returns-in-Unwatch-clause-same
returns-in-Unwatch-clause-same g c = c.entries_add_up.ensures.same _ _ c.unwatch.ensures.calls c.unwatch.ensures.made
