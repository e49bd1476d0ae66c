use Rattle.std.proofs.Common.{ℕ, ◌<◌, ◌≤◌, List, length, sym, subst, ◌∙◌}
use Rattle.std.specs.Str.Lines.{lines}
use Rattle.odb_value.specs.Paths.{depth_limit}
use Rattle.odb_text.proofs.Beginnings.{begins_nothing, other_type, too_deep}
use Rattle.odb_text.proofs.Written.{bad_line}
use Rattle.odb_text.proofs.blocks.read_key.Goals as goal

pub returns-clause-fault : goal.returns-clause-fault
returns-clause-fault c =
    bad_line c.args.head.now.links c.args.dir.now c.args.head.now.line.now (lines c.args.head.now.behind.now)
    (begins_nothing c.args.head.now.links c.args.dir.now c.args.head.now.line.now c.args.head.now.name c.args.head.now.tid c.args.head.now.rest.now c.requires.key c.requires.no_pass c.requires.no_dir
    (other_type c.args.head.now.links c.args.dir.now c.args.head.now.tid c.args.head.now.rest.now (sym c.is_kept.ensures ∙ c.if-is_kept.false) (sym c.is_skipped.ensures ∙ c.if-is_skipped.false) (sym c.is_link.ensures ∙ c.if-is_link.false)))

pub returns-then-is_kept-clause-block : goal.returns-then-is_kept-clause-block
returns-then-is_kept-clause-block c = c.kept_key.ensures.block

pub returns-then-is_kept-clause-shorter : goal.returns-then-is_kept-clause-shorter
returns-then-is_kept-clause-shorter c = c.kept_key.ensures.shorter

pub returns-then-is_kept-clause-fault : goal.returns-then-is_kept-clause-fault
returns-then-is_kept-clause-fault c = c.kept_key.ensures.fault

pub returns-then-is_skipped-clause-block : goal.returns-then-is_skipped-clause-block
returns-then-is_skipped-clause-block c = c.skipped_key.ensures.block

pub returns-then-is_skipped-clause-shorter : goal.returns-then-is_skipped-clause-shorter
returns-then-is_skipped-clause-shorter c = c.skipped_key.ensures.shorter

pub returns-then-is_skipped-clause-fault : goal.returns-then-is_skipped-clause-fault
returns-then-is_skipped-clause-fault c = c.skipped_key.ensures.fault

pub kept_key-requires-clause-key : goal.kept_key-requires-clause-key
kept_key-requires-clause-key c = record { key = c.requires.key; deep = subst (λ (p : List (List ℕ)). length p < depth_limit) c.names.ensures.names c.if-names-ge-MAX_DEPTH.false }

pub skipped_key-requires-clause-key : goal.skipped_key-requires-clause-key
skipped_key-requires-clause-key c = record { key = c.requires.key; deep = subst (λ (p : List (List ℕ)). length p < depth_limit) c.names.ensures.names c.if-names-ge-MAX_DEPTH.false }

pub returns-then-is_link-clause-block : goal.returns-then-is_link-clause-block
returns-then-is_link-clause-block c = c.link_key.ensures.block

pub returns-then-is_link-clause-shorter : goal.returns-then-is_link-clause-shorter
returns-then-is_link-clause-shorter c = c.link_key.ensures.shorter

pub returns-then-is_link-clause-fault : goal.returns-then-is_link-clause-fault
returns-then-is_link-clause-fault c = c.link_key.ensures.fault

pub link_key-requires-clause-key : goal.link_key-requires-clause-key
link_key-requires-clause-key c = record { key = c.requires.key; deep = subst (λ (p : List (List ℕ)). length p < depth_limit) c.names.ensures.names c.if-names-ge-MAX_DEPTH.false }

pub returns-then-names-ge-MAX_DEPTH-clause-fault : goal.returns-then-names-ge-MAX_DEPTH-clause-fault
returns-then-names-ge-MAX_DEPTH-clause-fault c =
    bad_line c.args.head.now.links c.args.dir.now c.args.head.now.line.now (lines c.args.head.now.behind.now)
    (begins_nothing c.args.head.now.links c.args.dir.now c.args.head.now.line.now c.args.head.now.name c.args.head.now.tid c.args.head.now.rest.now c.requires.key c.requires.no_pass c.requires.no_dir
    (too_deep c.args.head.now.links c.args.dir.now c.args.head.now.tid c.args.head.now.rest.now
    (subst (λ (p : List (List ℕ)). depth_limit ≤ length p) c.names.ensures.names c.if-names-ge-MAX_DEPTH.true)))
