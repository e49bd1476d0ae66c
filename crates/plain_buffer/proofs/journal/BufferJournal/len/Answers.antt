use Rattle.std.proofs.Common.{◌≡◌, length, subst, sym, ◌∙◌}
use Rattle.plain_buffer.specs.Journals.{Journaled}
use Rattle.plain_buffer.proofs.JournalLaws.{length-entries_of}
use Rattle.plain_buffer.proofs.journal.BufferJournal.len.Goals as goal

pub returns : goal.returns
returns c =
    subst (λ (j : Journaled). c.len.result ≡ length j.entries) c.self.view_is
    (c.len.ensures ∙ (c.self.inside.lines.ok.0 ∙ sym (length-entries_of c.self.inside.lines.items c.self.inside.bytes.items)))
