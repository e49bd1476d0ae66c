use Rattle.std.proofs.Common.{◌≡◌, ◌∙◌, ◌&&◌, Bool, true, false, not, refl, ap, ap₂}
use Rattle.std.proofs.lemmas.Result.{IfOk-weaker}
use Rattle.clap.specs.Words.{Shape, app_of, with_subcommand}
use Rattle.clap.specs.Simple.{app_of_fields, on_top}
use Rattle.command_words.specs.Reader.{bare_app}
use Rattle.command_words.proofs.reader.command.Goals as goal

third : (a b x rest : Bool) → (a && (b && (not x && rest))) ≡ true → x ≡ false
third a b false rest e = refl
third true true true rest e = absurd (cc)
third true false true rest e = absurd (cc)
third false b true rest e = absurd (cc)

abbrev plain : Shape → Bool
plain s = s.is_plain

pub returns : goal.returns
returns c =
    let named = ap app_of_fields c.no_binary_name.ensures ∙ ap (on_top (λ (s : Shape). record s { no_binary_name = true })) c.new.ensures.app in
    let flagless = ap app_of_fields c.disable_help_flag.ensures ∙ ap (on_top (λ (s : Shape). record s { disable_help_flag = true })) named in
    let helpless = ap app_of_fields c.disable_help_subcommand.ensures ∙ ap (on_top (λ (s : Shape). record s { disable_help_subcommand = true })) flagless in
    let bare : app_of c.disable_version_flag.result ≡ bare_app =
    ap app_of_fields c.disable_version_flag.ensures ∙ ap (on_top (λ (s : Shape). record s { disable_version_flag = true })) helpless in
    let first = c.in_ok-subcommand.ensures.shape (third _ _ _ _ (ap plain c.in_ok-run_command.ensures)) ∙ ap₂ with_subcommand bare c.in_ok-run_command.ensures in
    let second = c.in_ok-subcommand-2.ensures.shape (third _ _ _ _ (ap plain c.in_ok-one_word_command.ensures)) ∙ ap₂ with_subcommand first c.in_ok-one_word_command.ensures in
    let third_is = c.in_ok-subcommand-3.ensures.shape (third _ _ _ _ (ap plain c.in_ok-one_word_command-2.ensures)) ∙ ap₂ with_subcommand second c.in_ok-one_word_command-2.ensures in
    let fourth = c.in_ok-subcommand-4.ensures.shape (third _ _ _ _ (ap plain c.in_ok-one_word_command-3.ensures)) ∙ ap₂ with_subcommand third_is c.in_ok-one_word_command-3.ensures in
    IfOk-weaker c.subcommand-5.result _ _
    (λ r h. h.shape (third _ _ _ _ (ap plain c.in_ok-one_word_command-4.ensures)) ∙ ap₂ with_subcommand fourth c.in_ok-one_word_command-4.ensures)
    c.subcommand-5.ensures
