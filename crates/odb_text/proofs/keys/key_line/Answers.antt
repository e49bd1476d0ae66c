use Rattle.std.proofs.Common.{ℕ, List, sym, subst}
use Rattle.daq_types.specs.declared.types.Tid.{Tid}
use Rattle.daq_types.specs.Names.{IsName}
use Rattle.daq_types.specs.Tids.{IsNamed}
use Rattle.daq_text.specs.Numbers.{front, behind, is_blank}
use Rattle.odb_text.specs.LineForms.{without_blanks, is_of_word, IsKeyLine}
use Rattle.odb_text.proofs.Splitting.{if_none}
use Rattle.odb_text.proofs.KeyLines.{no_sign, no_key}
use Rattle.odb_text.proofs.keys.key_line.Goals as goal

pub returns-in-None-clause-none : goal.returns-in-None-clause-none
returns-in-None-clause-none c = λ (name : List ℕ) (type : Tid) (rest : List ℕ) (k : IsKeyLine c.args.line.now name type rest).
    no_sign c.args.line.now name type rest c.in-None.ensures.none k

pub returns-in-None-name_of-clause-none : goal.returns-in-None-name_of-clause-none
returns-in-None-name_of-clause-none c =
    no_key c.args.line.now c.in-Some.before.now c.in-Some.after.now c.in-Some.ensures.some c.in-Some.ensures.first
    (λ (type : Tid) (is : IsName (without_blanks c.in-Some.before.now)) (named : IsNamed (front is_of_word (behind is_blank c.in-Some.after.now)) type).
    c.in-None-name_of.ensures.none (subst IsName (sym c.without_blanks.ensures) is))

pub returns-in-Some-name_of-clause-none : goal.returns-in-Some-name_of-clause-none
returns-in-Some-name_of-clause-none c =
    if_none c.named_key.result
    (λ (never : (type : Tid) → IsNamed (front is_of_word (behind is_blank c.in-Some.after.now)) type → ⊥).
    no_key c.args.line.now c.in-Some.before.now c.in-Some.after.now c.in-Some.ensures.some c.in-Some.ensures.first
    (λ (type : Tid) (is : IsName (without_blanks c.in-Some.before.now)) (named : IsNamed (front is_of_word (behind is_blank c.in-Some.after.now)) type). never type named))
    c.named_key.ensures.none
