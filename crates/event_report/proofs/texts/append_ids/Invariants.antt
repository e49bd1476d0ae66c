use Rattle.std.proofs.Common.{◌≡◌, ◌++◌, take}
use Rattle.std.specs.List.{flat_map}
use Rattle.event_report.specs.Texts.{line, id_text}
use Rattle.event_report.proofs.texts.append_ids.Given as goal

abbrev pub invariant-loop-row : goal.invariant-loop-row
invariant-loop-row l =
    l.text ≡ l.initial.text ++ flat_map (λ r. line l.start (id_text r)) (take l.row-index l.rows)
