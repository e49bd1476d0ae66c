-- Words of no form.
use Rattle.std.proofs.Common.{◌≡◌, ℕ, List, Option, Some, None}
use Rattle.command_words.specs.CommandLine.{FormIs, HasForm}
use Rattle.command_words.specs.declared.forms.Form.{Form}

pub no_form : {words : List (List ℕ)} (found : Option Form) → found ≡ None → FormIs words found → HasForm words → ⊥
no_form None none is has = is has
no_form (Some form) none is has = cc (none)
