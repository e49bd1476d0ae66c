use Rattle.std.proofs.Common.{◌≡◌, ℕ, List, subst}
use Rattle.odb_value.specs.declared.items.Item.{Item}
use Rattle.odb_value.specs.Values.{size_limit}
use Rattle.daq_text.specs.Numbers.{up_to}
use Rattle.odb_text.specs.declared.items.ReadItem.{ReadItem}
use Rattle.odb_text.specs.ItemLines.{IsItemAlone}
use Rattle.odb_text.specs.Blocks.{TakesItem}
use Rattle.odb_text.proofs.DumpItems.{at_some}
use Rattle.odb_text.proofs.Written.{alone_tid, alone_short, alone_read, alone_fault}
use Rattle.odb_text.proofs.blocks.alone.Goals as goal

pub take_item-requires-clause-of_type : goal.take_item-requires-clause-of_type
take_item-requires-clause-of_type c =
    let h = at_some (λ (read : ReadItem). (x : ℕ) × (IsItemAlone c.args.tid c.args.text.now x read.item × read.size ≡ up_to size_limit x)) c.in-Ok-Some.field-0 c.in-Ok-Some.read c.in-Ok-Some.field-0-is c.in-Ok-Some.ensures.some in
    alone_tid c.args.tid c.args.text.now h.0 c.in-Ok-Some.read.item h.1.0

pub take_item-requires-clause-short : goal.take_item-requires-clause-short
take_item-requires-clause-short c =
    let h = at_some (λ (read : ReadItem). (x : ℕ) × (IsItemAlone c.args.tid c.args.text.now x read.item × read.size ≡ up_to size_limit x)) c.in-Ok-Some.field-0 c.in-Ok-Some.read c.in-Ok-Some.field-0-is c.in-Ok-Some.ensures.some in
    alone_short c.args.tid c.args.text.now h.0 c.in-Ok-Some.read.item h.1.0

pub returns-in-Err-take_item-clause-fault : goal.returns-in-Err-take_item-clause-fault
returns-in-Err-take_item-clause-fault c =
    let h = at_some (λ (read : ReadItem). (x : ℕ) × (IsItemAlone c.args.tid c.args.text.now x read.item × read.size ≡ up_to size_limit x)) c.in-Ok-Some.field-0 c.in-Ok-Some.read c.in-Ok-Some.field-0-is c.in-Ok-Some.ensures.some in
    alone_fault c.args.tid c.args.text.now c.in-Ok-Some.read.size h.0 c.in-Ok-Some.read.item c.in-Err-take_item.fault h.1.0 h.1.1 c.in-Err-take_item.ensures.fault

pub returns-clause-read : goal.returns-clause-read
returns-clause-read c =
    let h = at_some (λ (read : ReadItem). (x : ℕ) × (IsItemAlone c.args.tid c.args.text.now x read.item × read.size ≡ up_to size_limit x)) c.in-Ok-Some.field-0 c.in-Ok-Some.read c.in-Ok-Some.field-0-is c.in-Ok-Some.ensures.some in
    alone_read c.args.tid c.args.text.now c.in-Ok-Some.read.size h.0 c.in-Ok-Some.read.item c.take_item.new.so_far.items.items c.take_item.new.so_far.size h.1.0 h.1.1
    (alone_short c.args.tid c.args.text.now h.0 c.in-Ok-Some.read.item h.1.0)
    (subst (λ (l : List Item). TakesItem c.args.tid c.in-Ok-Some.read.size c.in-Ok-Some.read.item l 0 c.take_item.new.so_far.items.items c.take_item.new.so_far.size) c.new.ensures.items c.in-Ok.ensures.taken)
