use Rattle.std.proofs.Common.{◌≡◌, ◌∷◌, [], ◌++◌, ℕ, List, length, ap, subst, sym, ◌∙◌, arith}
use Rattle.plain_buffer.specs.declared.journal.Line.{Line}
use Rattle.std.specs.Prelude.{◌+◌, sum_by}
use Rattle.std.proofs.Common.{length-append}
use Rattle.std.proofs.lemmas.List.Sums.{sum_by_push}
use Rattle.plain_buffer.specs.Journals.{AreBehind, AreSized, size_of_line, Journaled, entries_of, entry_with}
use Rattle.plain_buffer.proofs.JournalLaws.{behind_push, apart_same, apart_push, entries_of-push}
use Rattle.plain_buffer.proofs.journal.BufferJournal.push.Goals as goal

pub returns-clause-entries : goal.returns-clause-entries
returns-clause-entries c =
    let line : Line = record { caller = c.args.caller; entry = c.args.entry; from = c.len.result; size = length c.args.body.now } in
    subst (λ (j : Journaled). entries_of c.push_reserved.new.self.items c.append_within.new.bytes.items ≡ j.entries ++ (c.args.caller, entry_with c.args.body.now c.args.entry) ∷ []) c.self.view_is
    (ap (λ (lines : List Line). entries_of lines c.append_within.new.bytes.items) c.push_reserved.ensures.items
    ∙ (ap (entries_of (c.self.inside.lines.items ++ line ∷ [])) c.append_within.ensures.items
    ∙ entries_of-push c.self.inside.lines.items c.self.inside.bytes.items line c.args.body.now c.self.invariant.whole (omega arith)))

pub invariant_of-self : goal.invariant_of-self
invariant_of-self c =
    let line : Line = record { caller = c.args.caller; entry = c.args.entry; from = c.len.result; size = length c.args.body.now } in
    let more : sum_by size_of_line c.push_reserved.new.self.items ≡ sum_by size_of_line c.self.inside.lines.items + length c.args.body.now =
    ap (sum_by size_of_line) c.push_reserved.ensures.items ∙ sum_by_push size_of_line c.self.inside.lines.items line in
    let longer : length c.append_within.new.bytes.items ≡ length c.self.inside.bytes.items + length c.args.body.now =
    ap (λ (bs : List ℕ). length bs) c.append_within.ensures.items ∙ length-append c.self.inside.bytes.items c.args.body.now in
    record {
      whole = omega (arith, more, longer, c.self.invariant.whole);
      behind = subst (AreBehind 0) (sym c.push_reserved.ensures.items)
          (behind_push 0 c.self.inside.lines.items line c.self.invariant.behind (omega (arith, c.len.ensures, c.self.inside.bytes.ok.0, c.self.invariant.whole)));
      apart = subst AreSized (sym c.push_reserved.ensures.items)
          (apart_push c.self.inside.lines.items line c.self.invariant.apart (λ body same. apart_same c.args.entry c.args.body.now body same c.requires.apart));
    }
