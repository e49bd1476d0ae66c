use Rattle.std.specs.Prelude.{length}
use Rattle.std.proofs.Common.{refl}
use Rattle.std.proofs.lemmas.Option.{slice_get_read}
use Rattle.session_runs.proofs.Lists.{none_left, report_left}
use Rattle.session_runs.proofs.tallied.report_at.Goals as goal

pub returns-clause-told : goal.returns-clause-told
returns-clause-told c =
    let tallies = c.args.tallies.now in
    let told = c.in-Some.told.now in
    (told, slice_get_read tallies (length tallies) c.args.place told refl c.requires c.in-Some.ensures.entry.1, c.report_by.ensures.told)

pub returns-clause-same : goal.returns-clause-same
returns-clause-same c =
    let tallies = c.args.tallies.now in
    let told = c.in-Some.told.now in
    none_left c.report_by.result tallies c.args.place told c.report_by.new.told (slice_get_read tallies (length tallies) c.args.place told refl c.requires c.in-Some.ensures.entry.1) c.report_by.ensures.same

pub returns-clause-others : goal.returns-clause-others
returns-clause-others c = λ other differs.
    let tallies = c.args.tallies.now in
    let told = c.in-Some.told.now in
    report_left other tallies c.args.place told c.report_by.new.told (slice_get_read tallies (length tallies) c.args.place told refl c.requires c.in-Some.ensures.entry.1) (c.report_by.ensures.others other differs)
