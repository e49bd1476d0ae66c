use Rattle.std.proofs.Common.{◌≡◌, ℕ, true, false, List, sym, ◌∙◌}
use Rattle.daq_types.specs.declared.types.Tid.{Tid}
use Rattle.daq_text.specs.Numbers.{up_to}
use Rattle.odb_value.specs.declared.items.Item.TheVariants.{Text}
use Rattle.odb_value.specs.Values.{size_limit}
use Rattle.odb_text.specs.declared.items.ReadItem.{ReadItem}
use Rattle.odb_text.specs.ItemLines.{IsItemAlone, IsLinkAlone}
use Rattle.odb_text.proofs.DumpItems.{at_some, at_none}
use Rattle.odb_text.proofs.LinkKeys.{none_read, link_there}
use Rattle.odb_text.proofs.links.read_link.Goals as goal

pub returns-then-has_path-clause-memory : goal.returns-then-has_path-clause-memory
returns-then-has_path-clause-memory c = link_there c.has_path.result c.args.text.now c.has_path.ensures c.if-has_path.true c.in-Err.ensures.memory

pub returns-else-has_path-clause-none : goal.returns-else-has_path-clause-none
returns-else-has_path-clause-none c = λ (size : ℕ) (link : List ℕ) (h : IsLinkAlone c.args.text.now size link).
    let no : false ≡ true = sym c.if-has_path.false ∙ (c.has_path.ensures size link h.item).1 h.path in absurd (cc)

pub returns-in-Ok-None-clause-none : goal.returns-in-Ok-None-clause-none
returns-in-Ok-None-clause-none c = λ (size : ℕ) (link : List ℕ) (h : IsLinkAlone c.args.text.now size link).
    at_none c.in-Ok-None.field-0 c.in-Ok-None.field-0-is c.in-Ok-None.ensures.none size (Text link) h.item

pub returns-in-Ok-Some-clause-none : goal.returns-in-Ok-Some-clause-none
returns-in-Ok-Some-clause-none c =
    let h = at_some (λ (read : ReadItem). (x : ℕ) × (IsItemAlone Tid.Text c.args.text.now x read.item × read.size ≡ up_to size_limit x)) c.in-Ok-Some.field-0 c.in-Ok-Some.read c.in-Ok-Some.field-0-is c.in-Ok-Some.ensures.some in
    none_read c.link_of.result c.args.text.now h.0 c.in-Ok-Some.read.item h.1.0 c.link_of.ensures.none
