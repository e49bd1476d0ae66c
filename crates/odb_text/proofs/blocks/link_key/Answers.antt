use Rattle.std.proofs.Common.{◌≡◌, ℕ, List}
use Rattle.std.specs.Str.Lines.{lines}
use Rattle.daq_text.specs.Numbers.{up_to}
use Rattle.odb_value.specs.Values.{size_limit}
use Rattle.odb_value.specs.LinkValues.{is_link_type}
use Rattle.odb_text.specs.declared.links.ReadLink.{ReadLink}
use Rattle.odb_text.specs.LineForms.{IsSingle}
use Rattle.odb_text.specs.ItemLines.{IsLinkAlone}
use Rattle.odb_text.proofs.DumpItems.{at_some, at_none}
use Rattle.odb_text.proofs.LinkKeys.{and_left, bad_link, no_link_there, reads_link, link_begun}
use Rattle.odb_text.proofs.blocks.link_key.Goals as goal

pub returns-in-None-clause-fault : goal.returns-in-None-clause-fault
returns-in-None-clause-fault c =
    bad_link c.args.head.now.links c.args.dir.now c.args.head.now.line.now c.args.head.now.name c.args.head.now.tid c.args.head.now.rest.now (lines c.args.head.now.behind.now)
    c.requires.key c.requires.link c.requires.no_pass c.requires.no_dir
    (λ (text : List ℕ) (size : ℕ) (link : List ℕ) (s : IsSingle c.args.head.now.rest.now text) (a : IsLinkAlone text size link). c.in-None.ensures.none text s)

pub returns-in-Err-clause-fault : goal.returns-in-Err-clause-fault
returns-in-Err-clause-fault c =
    let there = c.in-Err.ensures.memory in
    link_begun c.args.head.now.links c.args.dir.now c.args.head.now.line.now c.args.head.now.name c.args.head.now.tid c.args.head.now.rest.now c.in-Some.text.now (lines c.args.head.now.behind.now) there.0 there.1
    c.requires.key c.requires.link c.in-Some.ensures.some there.2

pub returns-in-Ok-None-clause-fault : goal.returns-in-Ok-None-clause-fault
returns-in-Ok-None-clause-fault c =
    bad_link c.args.head.now.links c.args.dir.now c.args.head.now.line.now c.args.head.now.name c.args.head.now.tid c.args.head.now.rest.now (lines c.args.head.now.behind.now)
    c.requires.key c.requires.link c.requires.no_pass c.requires.no_dir
    (no_link_there c.args.head.now.rest.now c.in-Some.text.now c.in-Some.ensures.some (at_none c.in-Ok-None.field-0 c.in-Ok-None.field-0-is c.in-Ok-None.ensures.none))

pub link_block-requires-clause-read : goal.link_block-requires-clause-read
link_block-requires-clause-read c =
    let h = at_some (λ (read : ReadLink). (x : ℕ) × (IsLinkAlone c.in-Some.text.now x read.text × read.size ≡ up_to size_limit x)) c.in-Ok-Some.field-0 c.in-Ok-Some.link c.in-Ok-Some.field-0-is c.in-Ok-Some.ensures.some in
    reads_link c.args.head.now.links c.args.dir.now c.args.head.now.line.now c.args.head.now.name c.args.head.now.tid c.args.head.now.rest.now c.in-Some.text.now h.0 c.in-Ok-Some.link
    c.requires.key c.requires.link c.in-Some.ensures.some h.1.0 h.1.1

pub link_block-requires-clause-kept : goal.link_block-requires-clause-kept
link_block-requires-clause-kept c = and_left c.args.head.now.links (is_link_type c.args.head.now.tid) c.requires.link
