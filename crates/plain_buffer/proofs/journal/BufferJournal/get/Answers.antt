use Rattle.std.proofs.Common.{◌≡◌, ◌<◌, ℕ, List, length, take, drop, ap, sym, subst, ◌∙◌, arith}
use Rattle.std.specs.Prelude.{slice_get, Some}
use Rattle.plain_buffer.specs.declared.journal.Line.{Line}
use Rattle.plain_buffer.specs.Journals.{Journaled, entry_with}
use Rattle.plain_buffer.proofs.JournalLaws.{length-entries_of, IsLine, line_is, line_apart}
use Rattle.plain_buffer.proofs.journal.BufferJournal.get.Goals as goal

pub index-line-requires : goal.index-line-requires
index-line-requires c =
    let long : length c.args.self.now.entries ≡ length c.self.inside.lines.items =
    subst (λ (j : Journaled). length j.entries ≡ length c.self.inside.lines.items) c.self.view_is (length-entries_of c.self.inside.lines.items c.self.inside.bytes.items) in
    omega (arith, c.requires, long, c.self.inside.lines.ok.0)

pub split_at-requires : goal.split_at-requires
split_at-requires c =
    let long : length c.args.self.now.entries ≡ length c.self.inside.lines.items =
    subst (λ (j : Journaled). length j.entries ≡ length c.self.inside.lines.items) c.self.view_is (length-entries_of c.self.inside.lines.items c.self.inside.bytes.items) in
    let within : c.args.number < length c.self.inside.lines.items = omega (arith, c.requires, long) in
    let is : IsLine c.self.inside.lines.items c.self.inside.bytes.items 0 c.args.number c.index-line.result.now =
    line_is c.self.inside.lines.items c.self.inside.bytes.items c.args.number c.index-line.result.now c.self.invariant.behind c.self.invariant.whole within c.index-line.ensures in
    omega (arith, is.within, ap (λ (bs : List ℕ). length bs) c.as_slice.ensures.value)

pub split_at-requires-2 : goal.split_at-requires-2
split_at-requires-2 c =
    let long : length c.args.self.now.entries ≡ length c.self.inside.lines.items =
    subst (λ (j : Journaled). length j.entries ≡ length c.self.inside.lines.items) c.self.view_is (length-entries_of c.self.inside.lines.items c.self.inside.bytes.items) in
    let within : c.args.number < length c.self.inside.lines.items = omega (arith, c.requires, long) in
    let is : IsLine c.self.inside.lines.items c.self.inside.bytes.items 0 c.args.number c.index-line.result.now =
    line_is c.self.inside.lines.items c.self.inside.bytes.items c.args.number c.index-line.result.now c.self.invariant.behind c.self.invariant.whole within c.index-line.ensures in
    omega (arith, is.within, ap (λ (bs : List ℕ). length bs) c.as_slice.ensures.value, c.split_at.ensures.back_len)

pub returns-clause-is : goal.returns-clause-is
returns-clause-is c =
    let long : length c.args.self.now.entries ≡ length c.self.inside.lines.items =
    subst (λ (j : Journaled). length j.entries ≡ length c.self.inside.lines.items) c.self.view_is (length-entries_of c.self.inside.lines.items c.self.inside.bytes.items) in
    let within : c.args.number < length c.self.inside.lines.items = omega (arith, c.requires, long) in
    let line : Line = c.index-line.result.now in
    let is : IsLine c.self.inside.lines.items c.self.inside.bytes.items 0 c.args.number line =
    line_is c.self.inside.lines.items c.self.inside.bytes.items c.args.number line c.self.invariant.behind c.self.invariant.whole within c.index-line.ensures in
    let body_is : c.split_at-2.result.0.now ≡ take line.size (drop line.from c.self.inside.bytes.items) =
    c.split_at-2.ensures.front ∙ (ap (take line.size) c.split_at.ensures.back ∙ ap (λ (bs : List ℕ). take line.size (drop line.from bs)) c.as_slice.ensures.value) in
    subst (λ (j : Journaled). slice_get j.entries c.args.number ≡ Some (line.caller, entry_with c.split_at-2.result.0.now line.entry)) c.self.view_is
    (is.noted ∙ ap (λ (bs : List ℕ). Some (line.caller, entry_with bs line.entry)) (sym body_is))

pub returns-clause-apart : goal.returns-clause-apart
returns-clause-apart c =
    let long : length c.args.self.now.entries ≡ length c.self.inside.lines.items =
    subst (λ (j : Journaled). length j.entries ≡ length c.self.inside.lines.items) c.self.view_is (length-entries_of c.self.inside.lines.items c.self.inside.bytes.items) in
    let within : c.args.number < length c.self.inside.lines.items = omega (arith, c.requires, long) in
    let line : Line = c.index-line.result.now in
    let is : IsLine c.self.inside.lines.items c.self.inside.bytes.items 0 c.args.number line =
    line_is c.self.inside.lines.items c.self.inside.bytes.items c.args.number line c.self.invariant.behind c.self.invariant.whole within c.index-line.ensures in
    line_apart c.self.inside.lines.items c.args.number line c.split_at-2.result.0.now c.self.invariant.apart within c.index-line.ensures c.split_at-2.ensures.front_len
