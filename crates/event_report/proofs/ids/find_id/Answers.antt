use Rattle.std.proofs.Common.{rules}
use Rattle.std.proofs.lemmas.List.Sorted.{answers_always}
use Rattle.event_report.specs.Steps.{id_of}
use Rattle.event_report.proofs.Rising.{found_or_fits}
use Rattle.event_report.proofs.ids.find_id.Goals as goal

pub returns : goal.returns
returns c = found_or_fits id_of c.args.id c.args.rows.now _ c.requires (c.binary_search_by_key.ensures.position id_of (answers_always _ _ _ (λ f a r g called. search rules))) c.binary_search_by_key.ensures.bound
