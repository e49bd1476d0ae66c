use Rattle.std.proofs.Common.{◌≡◌, ◌+◌, ◌<◌, ℕ, List, Option, ◌++◌, length, map, take, drop, set, get_or, ap, subst, sym, arith}
use Rattle.std.specs.Option.{option_map}
use Rattle.std.proofs.lemmas.List.Edits.{map_over_more}
use Rattle.buffer_core.specs.declared.client.Client.{Client}
use Rattle.buffer_core.specs.Calls.{pushed}
use Rattle.plain_buffer.proofs.clients.Clients.push.Goals as goal

pub loop-slot-preserved : goal.loop-slot-preserved
loop-slot-preserved c =
    let xs : List (Option Client) = c.deref_mut-slot-items.result.now in
    let i : ℕ = c.loop-slot.slot-index in
    let within : i < length xs = omega arith in
    let f : Option Client → Option Client = option_map (pushed c.args.first) in
    let read : Option Client → Option Client = λ o. get_or c.loop-slot.slot-items i o in
    subst (λ (o : Option Client). set c.loop-slot.slot-items i o ≡ map f (take (i + 1) xs) ++ drop (i + 1) xs) (sym c.pushed_slot.ensures)
    (map_over_more f xs c.loop-slot.slot-items i (read c.slot-item.result) within c.loop-slot.invariant (ap read c.slot-item.is))
