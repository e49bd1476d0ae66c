use Rattle.std.proofs.Common.{subst, ◌∙◌}
use Rattle.ring_buffer.specs.Stored.{IsHeader}
use Rattle.ring_buffer.proofs.Fields.{header_read, start_read}
use Rattle.ring_buffer.proofs.CountLaws.{read_once}
use Rattle.ring_buffer.proofs.slot.read_front.Goals as goal

pub returns-clause-read : goal.returns-clause-read
returns-clause-read c = read_once c.args.ring.now c.get_at.new.self 24 c.get_at.ensures.same c.get_at.ensures.reads c.get_at.ensures.bytes_read

pub returns-clause-start : goal.returns-clause-start
returns-clause-start c s holds fits = start_read _ _ _ c.from_le_bytes-start.result s c.get_at.ensures.read holds.front c.split_at.ensures.front c.from_le_bytes-start.ensures fits

pub returns-clause-header : goal.returns-clause-header
returns-clause-header c s holds fits =
    c.with_fields_that_fit.ensures.same
    ∙ header_read _ _ _ c.in-Ok.header s c.get_at.ensures.read holds.front c.split_at.ensures.back c.in-Ok.ensures.read
    (subst IsHeader c.with_fields_that_fit.ensures.same c.with_fields_that_fit.ensures.fit) fits
