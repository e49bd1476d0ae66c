use Rattle.std.proofs.Common.{◌≡◌, ℕ, refl}
use Rattle.std.specs.Str.Lines.{lines}
use Rattle.odb_value.specs.Values.{size_limit}
use Rattle.daq_text.specs.Numbers.{up_to}
use Rattle.odb_text.specs.declared.items.ReadItem.{ReadItem}
use Rattle.odb_text.specs.LineForms.{behind_blank}
use Rattle.odb_text.specs.ItemLines.{IsItemLine}
use Rattle.odb_text.specs.TextFaults.{IsSomeItemLine}
use Rattle.odb_text.proofs.DumpItems.{read_tid, read_short, next_is_not, at_some, at_none}
use Rattle.odb_text.proofs.arrays.read_next.Goals as goal

pub take_item-requires-clause-of_type : goal.take_item-requires-clause-of_type
take_item-requires-clause-of_type c =
    let h = at_some (λ (read : ReadItem). (x : ℕ) × (IsItemLine c.args.tid c.args.index c.in-Some.line.now x read.item × read.size ≡ up_to size_limit x)) c.in-Ok-Some.field-0 c.in-Ok-Some.read c.in-Ok-Some.field-0-is c.in-Ok-Some.ensures.some in
    read_tid c.args.tid (behind_blank h.1.0.rest) c.in-Ok-Some.read.item h.1.0.spells

pub take_item-requires-clause-short : goal.take_item-requires-clause-short
take_item-requires-clause-short c =
    let h = at_some (λ (read : ReadItem). (x : ℕ) × (IsItemLine c.args.tid c.args.index c.in-Some.line.now x read.item × read.size ≡ up_to size_limit x)) c.in-Ok-Some.field-0 c.in-Ok-Some.read c.in-Ok-Some.field-0-is c.in-Ok-Some.ensures.some in
    read_short c.args.tid (behind_blank h.1.0.rest) c.in-Ok-Some.read.item h.1.0.spells

pub returns-in-Ok-None-clause-fault : goal.returns-in-Ok-None-clause-fault
returns-in-Ok-None-clause-fault c = (
  refl,
  next_is_not (IsSomeItemLine c.args.tid c.args.index) (lines c.args.so_far.now.rest.now) c.in-Some.line.now (lines c.in-Some.behind.now) c.in-Some.ensures.some
      (λ (h : IsSomeItemLine c.args.tid c.args.index c.in-Some.line.now). at_none c.in-Ok-None.field-0 c.in-Ok-None.field-0-is c.in-Ok-None.ensures.none h.0 h.1 h.2),
)
