use Rattle.std.proofs.Common.{nat_eq, sym, ap, ◌∙◌}
use Rattle.std.specs.Option.{option_map}
use Rattle.std.specs.Cmp.Lexicographic.{pointwise}
use Rattle.std.specs.Map.Iter.{deref_pair}
use Rattle.odb_arena.proofs.Copied.{swap_name, copied_more}
use Rattle.odb_arena.proofs.directory.copy_names.Goals as goal

pub loop-i-preserved : goal.loop-i-preserved
loop-i-preserved c =
    copied_more (pointwise nat_eq) swap_name c.args.names.now.entries c.loop-i.copy.entries c.insert.new.self.entries c.loop-i.i c.unwrap.result.0.now c.unwrap.result.1.now c.len-i-end.ensures.unique
    (ap (option_map deref_pair) (sym c.unwrap.ensures) ∙ c.get_index.ensures.entry) c.loop-i.invariant c.in_ok-insert.ensures.entries
