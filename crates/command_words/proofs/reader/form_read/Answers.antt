use Rattle.std.proofs.Common.{◌≡◌, ◌∙◌, ◌⊎◌, ℕ, List, [], true, map, ap, subst, arith, inl, inr, refl}
use Rattle.std.specs.Borrow.{Bor}
use lib.ListN.{length-map}
use Rattle.clap.specs.Words.{App, app_of, fault_of, is_simple, is_simple_and_free, subcommand_of}
use Rattle.command_words.specs.Reader.{midas_app}
use Rattle.command_words.proofs.Reading.{form_clean, form_fits}
use Rattle.command_words.proofs.reader.form_read.Goals as goal

free : is_simple_and_free midas_app ≡ true
free = refl

simple : is_simple midas_app ≡ true
simple = refl

sure : {P : Type 0} → P ⊎ ⊥ → P
sure (inl p) = p
sure (inr never) = absurd never

pub returns-in-Ok : goal.returns-in-Ok
returns-in-Ok c =
    let words = map (λ word. word.now) c.args.words.now in
    let app = c.in_ok-command.ensures in
    let clean = subst (λ (a : App). fault_of a words ≡ []) app (c.in-Ok.ensures.kinds (ap is_simple_and_free app ∙ free)) in
    let found = (c.in-Ok.ensures.matches (ap is_simple app ∙ simple)).1 ∙ ap (λ (a : App). subcommand_of a words) app in
    form_fits c.in-Ok.matches c.form_in.result (record {
      none = c.form_in.ensures.none;
      run = c.form_in.ensures.run;
      file = c.form_in.ensures.file;
      number = c.form_in.ensures.number;
    }) words c.requires.apart clean found

pub returns : goal.returns
returns c = λ has.
    let words = map (λ word. word.now) c.args.words.now in
    let app = c.in_ok-command.ensures in
    let kinds = c.in-Err.ensures.kinds (ap is_simple_and_free app ∙ free) in
    let none : fault_of (app_of c.in_ok-command.field-0) words ≡ [] = ap (λ (a : App). fault_of a words) app ∙ form_clean words (omega (arith, c.requires.few, length-map c.args.words.now (λ (word : Bor (List ℕ)). word.now))) has in
    c.in_default.not-OutOfMemory (c.kind.ensures ∙ sure (rw none at kinds))
