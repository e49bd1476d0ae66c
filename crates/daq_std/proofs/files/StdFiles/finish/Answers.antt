use Rattle.std.proofs.Common.{◌≡◌, ℕ, List, ap, sym, subst}
use Rattle.std.specs.Prelude.{IsTrue, OnOk}
use Rattle.daq_io.specs.Uses.{is_writing, name_by, use_at}
use Rattle.daq_std.specs.InBlocks.{HasFiles, InFolder}
use Rattle.daq_std.specs.Paths.{KeepsName, path_in}
use Rattle.daq_std.proofs.InUse.{frees_keeps, gone_told, leaves_keeps, named_path, on_ok, synced_told}
use Rattle.daq_std.proofs.files.StdFiles.finish.Goals as goal

pub sync-requires : goal.sync-requires
sync-requires g c =
    let writes : IsTrue (is_writing (use_at c.self.inside.numbers.uses.items c.args.file)) = rw (sym c.self.view_is) at c.requires.writes in
    let named : name_by (use_at c.self.inside.numbers.uses.items c.args.file) ≡ c.args.name.now = rw (sym c.self.view_is) at c.requires.named in
    named_path c.self.invariant c.args.file c.in-Ok.on_disk.opening writes c.in-Ok.ensures.opening c.args.name.now named

pub leave-requires : goal.leave-requires
leave-requires g c =
    let writes : IsTrue (is_writing (use_at c.self.inside.numbers.uses.items c.args.file)) = rw (sym c.self.view_is) at c.requires.writes in
    let named : name_by (use_at c.self.inside.numbers.uses.items c.args.file) ≡ c.args.name.now = rw (sym c.self.view_is) at c.requires.named in
    named_path c.self.invariant c.args.file c.in-Err.gone.file.opening writes c.in-Err.ensures.let_go.opened c.args.name.now named

pub returns-in-Err-clause-closes : goal.returns-in-Err-clause-closes
returns-in-Err-clause-closes g c =
    let writes : IsTrue (is_writing (use_at c.self.inside.numbers.uses.items c.args.file)) = rw (sym c.self.view_is) at c.requires.writes in
    let named : name_by (use_at c.self.inside.numbers.uses.items c.args.file) ≡ c.args.name.now = rw (sym c.self.view_is) at c.requires.named in
    rw (sym c.self.view_is)
    (gone_told _ _ _ _ _ _ c.finish.ensures.leaves.changes c.in-Err.gone.file _ c.args.name.now _ c.in-Err.ensures.let_go writes c.assign.ensures.changed named (ap (λ (i : InFolder). i.done) c.leave.ensures))

pub returns-in-Ok-clause-closes : goal.returns-in-Ok-clause-closes
returns-in-Ok-clause-closes g c =
    let writes : IsTrue (is_writing (use_at c.self.inside.numbers.uses.items c.args.file)) = rw (sym c.self.view_is) at c.requires.writes in
    let named : name_by (use_at c.self.inside.numbers.uses.items c.args.file) ≡ c.args.name.now = rw (sym c.self.view_is) at c.requires.named in
    rw (sym c.self.view_is)
    (synced_told _ _ _ _ _ _ c.finish.ensures.leaves.changes c.sync.result _ c.args.name.now _ c.in-Ok.ensures.handed writes c.assign.ensures.changed named c.sync.ensures.done)

pub invariant_of-self : goal.invariant_of-self
invariant_of-self g c = subst (λ f. HasFiles f c.assign.new.self.uses.items c.finish.new.self.blocks.items) (sym c.sync.ensures.folder)
    (leaves_keeps c.args.file (frees_keeps c.args.file c.self.invariant c.assign.ensures.changed c.assign.ensures.counted.count) c.finish.ensures.leaves c.assign.ensures.changed.usage_is)

pub invariant_of-self-in-Err : goal.invariant_of-self-in-Err
invariant_of-self-in-Err g c = subst (λ f. HasFiles f c.assign.new.self.uses.items c.finish.new.self.blocks.items) (sym (ap (λ (i : InFolder). i.folder) c.leave.ensures))
    (leaves_keeps c.args.file (frees_keeps c.args.file c.self.invariant c.assign.ensures.changed c.assign.ensures.counted.count) c.finish.ensures.leaves c.assign.ensures.changed.usage_is)

pub returns-in-Ok-clause-all : goal.returns-in-Ok-clause-all
returns-in-Ok-clause-all g c =
    rw (sym c.self.view_is) (on_ok c.sync.result (record { file = c.in-Ok.on_disk.file; all = c.in-Ok.ensures.whole }))

pub returns-in-Ok-clause-named : goal.returns-in-Ok-clause-named
returns-in-Ok-clause-named g c =
    let folder : List ℕ = c.self.inside.folder.folder in
    let writes : IsTrue (is_writing (use_at c.self.inside.numbers.uses.items c.args.file)) = rw (sym c.self.view_is) at c.requires.writes in
    let named : name_by (use_at c.self.inside.numbers.uses.items c.args.file) ≡ c.args.name.now = rw (sym c.self.view_is) at c.requires.named in
    let kept : (name path : List ℕ) → Type 0 = λ name path. OnOk c.sync.result (KeepsName folder name path c.sync.new.self.kept) in
    rw (sym c.self.view_is)
    (subst (λ name. kept name (path_in folder name)) (sym named)
    (subst (λ path. kept c.args.name.now path) (named_path c.self.invariant c.args.file c.in-Ok.on_disk.opening writes c.in-Ok.ensures.opening c.args.name.now named) c.sync.ensures.kept))
