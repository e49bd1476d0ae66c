use Rattle.std.proofs.Common.{◌≡◌, ◌∙◌, ◌∷◌, [], Bool, Some, None, codes, sym, ap, subst}
use Rattle.clap.specs.Words.{Text, found_of}
use Rattle.command_words.specs.CommandLine.{FormIs, tool_word}
use Rattle.command_words.specs.declared.forms.Form.TheVariants.{Run}
use Rattle.command_words.proofs.Levels.{some_or}
use Rattle.command_words.proofs.Reading.{flag_read, name_found, rows_found, text_read}
use Rattle.command_words.proofs.reader.form_in.Goals as goal

pub returns-then-eq-clause-run : goal.returns-then-eq-clause-run
returns-then-eq-clause-run c = λ cooperative rows found flag.
    let are = rows_found _ _ _ rows c.in_ok-name.ensures.rows found in
    ap (λ (b : Bool). Some (Run b)) (flag_read (found_of c.in_ok-name.given.now) rows cooperative c.get_flag-cooperative.result are flag c.get_flag-cooperative.ensures.value c.get_flag-cooperative.ensures.other)

pub returns-in_err-get_str-clause-number : goal.returns-in_err-get_str-clause-number
returns-in_err-get_str-clause-number c = λ word rows found first.
    let are = rows_found _ _ _ rows c.in_ok-name.ensures.rows found in
    let bad = text_read (found_of c.in_ok-name.given.now) rows (codes "N") word None are first c.in_err-get_str.ensures in
    absurd (cc)

pub returns-then-eq-2-clause-number : goal.returns-then-eq-2-clause-number
returns-then-eq-2-clause-number c = λ word rows found first.
    let are = rows_found _ _ _ rows c.in_ok-name.ensures.rows found in
    let text = text_read (found_of c.in_ok-name.given.now) rows (codes "N") word (Some c.in_ok-get_str.field-0.now) are first c.in_ok-get_str.ensures in
    subst (λ (w : Text). FormIs (codes "gen" ∷ w ∷ []) c.form_generate.result) (ap (some_or word) text) c.form_generate.ensures

pub returns-in_err-get_str-2-clause-file : goal.returns-in_err-get_str-2-clause-file
returns-in_err-get_str-2-clause-file c = λ tool word rows found first.
    let are = rows_found _ _ _ rows c.in_ok-name.ensures.rows found in
    let bad = text_read (found_of c.in_ok-name.given.now) rows (codes "FILE") word None are first c.in_err-get_str-2.ensures in
    absurd (cc)

pub returns-clause-file : goal.returns-clause-file
returns-clause-file c = λ tool word rows found first.
    let are = rows_found _ _ _ rows c.in_ok-name.ensures.rows found in
    let text = text_read (found_of c.in_ok-name.given.now) rows (codes "FILE") word (Some c.in_ok-get_str-2.field-0.now) are first c.in_ok-get_str-2.ensures in
    let name = c.in_ok-name.ensures.name ∙ name_found _ _ (tool_word tool) rows found in
    let same : tool_word c.in_ok-tool_of.field-0 ≡ tool_word tool = sym c.in_ok-tool_of.ensures.found ∙ ap (some_or (tool_word tool)) name in
    subst (λ (t : Text). FormIs (t ∷ word ∷ []) c.form_on_file.result) same
    (subst (λ (w : Text). FormIs (tool_word c.in_ok-tool_of.field-0 ∷ w ∷ []) c.form_on_file.result) (ap (some_or word) text) c.form_on_file.ensures)
