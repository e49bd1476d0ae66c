use Rattle.std.proofs.Common.{◌≡◌, ◌∙◌, ◌++◌, ◌∷◌, ℕ, List, Option, ap, sym, subst}
use Rattle.daq_types.specs.declared.types.Tid.{Tid}
use Rattle.midas_tools.specs.Texts.{name_or}
use Rattle.midas_tools.proofs.Types.{type_is, type_is_none}
use Rattle.midas_tools.proofs.line.Line.blank_type.Goals as goal

pub returns-in-Some-clause-added : goal.returns-in-Some-clause-added
returns-in-Some-clause-added c =
    subst (λ (o : Option Tid). c.put-in-Some.new.self ≡ 32 ∷ (name_or o c.args.code ++ c.args.self.now)) (sym (type_is c.args.code c.in-Some.tid c.in-Some.ensures.found))
    (c.put-in-Some.ensures ∙ ap (λ (l : List ℕ). 32 ∷ l) (c.put.ensures ∙ ap (λ (l : List ℕ). l ++ c.args.self.now) (c.as_bytes.ensures.value ∙ c.name.ensures)))

pub returns-in-None-clause-added : goal.returns-in-None-clause-added
returns-in-None-clause-added c =
    subst (λ (o : Option Tid). c.blank_number.new.self ≡ 32 ∷ (name_or o c.args.code ++ c.args.self.now)) (sym (type_is_none c.args.code c.in-None.ensures.none)) c.blank_number.ensures.added
