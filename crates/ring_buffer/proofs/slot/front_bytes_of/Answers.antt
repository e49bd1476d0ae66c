use Rattle.std.proofs.Common.{◌∙◌, ap, subst}
use Rattle.event.specs.Headers.{header_encoding}
use Rattle.ring_buffer.specs.Stored.{IsHeader}
use Rattle.ring_buffer.proofs.Fields.{front_joined}
use Rattle.ring_buffer.proofs.slot.front_bytes_of.Goals as goal

pub returns-clause-bytes : goal.returns-clause-bytes
returns-clause-bytes c =
    front_joined c.args.start c.args.header.now c.copy_from_slice.new.self c.copy_from_slice-2.new.self c.copy_from_slice-3.new.self
    (c.copy_from_slice.ensures.after ∙ c.to_le_bytes.ensures) (c.copy_from_slice-2.ensures.after ∙ c.to_le_bytes-2.ensures)
    (c.copy_from_slice-3.ensures.after ∙ (c.write_header.ensures ∙ ap header_encoding c.with_fields_that_fit-fields.ensures.same))

pub returns-clause-fit : goal.returns-clause-fit
returns-clause-fit c = subst IsHeader c.with_fields_that_fit-fields.ensures.same c.with_fields_that_fit-fields.ensures.fit
