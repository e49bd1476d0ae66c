use Rattle.std.proofs.Common.{rules, ◌∙◌, ap}
use Rattle.std.proofs.lemmas.Iterator.{YieldsList-from_slice, first_from_find}
use Rattle.std.proofs.lemmas.Iterator.Consumers.{YieldsList-from_copied}
use Rattle.daq_types.specs.Tids.{IsNamed}
use Rattle.daq_types.proofs.TidTable.{every_tid, found_has_name, none_has_name}
use Rattle.daq_types.proofs.types.Tid.from_name.Goals as goal

pub returns : goal.returns
returns c =
    let name = c.args.name.now in
    let table = ap (λ items. items.rest.now) c.copied.ensures.source ∙ c.iter.ensures.rest in
    let first = first_from_find _ _ c.find.result (IsNamed name) (λ tid. ¬ (IsNamed name tid)) c.find.ensures.ran
    (YieldsList-from_copied (YieldsList-from_slice every_tid table))
    (λ tid q k. search rules) (λ tid q k. (search rules, search rules)) in
    record { found = found_has_name name c.find.result _ _ first (λ tid has. has.0); none = none_has_name name c.find.result _ first }
