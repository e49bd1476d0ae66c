use Rattle.std.proofs.Common.{◌≡◌, ◌∙◌, sym, ap, Some, get_or, drop}
use Rattle.atomic_table.specs.Seated.{TableId}
use Rattle.turn_lock.specs.Passes.{table_numbers}
use Rattle.turn_lock.proofs.laws.same_lock.Goals as goal

same_table : (x y : TableId) → table_numbers x ≡ table_numbers y → x ≡ y
same_table x y e = λ i. record { words = get_or (e i) 0 0; slots = get_or (e i) 1 0; views_name = get_or (e i) 2 0; atom = get_or (e i) 3 0; block = get_or (e i) 4 0; offset = get_or (e i) 5 0; slot_names = drop 6 (e i) }

pub returns : goal.returns
returns g c = λ one other is same. record {
  table = is.table ∙ sym (same_table _ _ same.numbers);
  count = is.count ∙ sym same.passes;
  start = is.start ∙ ap (λ d. Some d) (sym same.first);
  passes = is.passes ∙ ap (λ n. Some n) (sym same.passes);
}
