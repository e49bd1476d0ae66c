use Rattle.std.proofs.Common.{◌≡◌, Ok, List, ℕ, true, false, sym, ◌∙◌}
use Rattle.std.proofs.lemmas.Result.{err_from_is_err_and}
use Rattle.odb_value.specs.PathText.{path_reply}
use Rattle.odb_text.specs.LineForms.{AreBlanks, IsDirLine}
use Rattle.odb_text.proofs.Splitting.{no_line, no_path, path_read}
use Rattle.odb_text.proofs.directories.read_dir_line.Goals as goal

pub returns-then-not-are_blanks-clause-none : goal.returns-then-not-are_blanks-clause-none
returns-then-not-are_blanks-clause-none c = λ (p : List (List ℕ)) (d : IsDirLine c.args.line.now p).
    no_line c.args.line.now c.in-Some.text.now c.in-Some.behind.now p c.in-Some.ensures.some c.in-Some.ensures.first
    (λ (blanks : AreBlanks c.in-Some.behind.now) (path : path_reply c.in-Some.text.now ≡ Ok p).
    (let no : true ≡ false = sym (c.are_blanks.ensures.1 blanks) ∙ c.if-not-are_blanks.true in absurd (cc))) d

pub returns-in_ok-has_fault-in-Err-clause-none : goal.returns-in_ok-has_fault-in-Err-clause-none
returns-in_ok-has_fault-in-Err-clause-none c = λ (p : List (List ℕ)) (d : IsDirLine c.args.line.now p).
    no_line c.args.line.now c.in-Some.text.now c.in-Some.behind.now p c.in-Some.ensures.some c.in-Some.ensures.first
    (λ (blanks : AreBlanks c.in-Some.behind.now) (path : path_reply c.in-Some.text.now ≡ Ok p).
    no_path (path_reply c.in-Some.text.now) c.in-Err.refusal p (c.in-Err.ensures.0 c.in_ok-has_fault-in-Err.ensures.fault) path) d

pub returns-in_err-has_fault-in-Err-clause-memory : goal.returns-in_err-has_fault-in-Err-clause-memory
returns-in_err-has_fault-in-Err-clause-memory c =
    let e = err_from_is_err_and c.from_residual.result c.from_residual.ensures.1 in
    let path = path_read (path_reply c.in-Some.text.now) (c.in-Err.ensures.1 c.in_err-has_fault-in-Err.ensures.memory) in
    rw e.1 (
      path.0,
      record {
        text = c.in-Some.text.now;
        blanks = c.in-Some.behind.now;
        spelled = c.in-Some.ensures.some;
        inside = c.in-Some.ensures.first;
        blank = c.are_blanks.ensures.0 c.if-not-are_blanks.false;
        path = path.1;
      },
    )
