use Rattle.std.proofs.Common.{ℕ, ◌≤◌, List, subst}
use Rattle.std.specs.Str.Parse.{digits_value}
use Rattle.odb_text.specs.LineForms.{AreBlanks, IsBracketed, IsSingle}
use Rattle.odb_text.proofs.Splitting.{if_none}
use Rattle.odb_text.proofs.KeyLines.{no_array, single_once}
use Rattle.odb_text.proofs.keys.array.Goals as goal

pub returns-in-None-single-clause-none : goal.returns-in-None-single-clause-none
returns-in-None-single-clause-none c =
    no_array c.args.rest.now c.in-Some.numeral.now c.in-Some.behind.now
    (subst (λ (l : List ℕ). IsBracketed l c.in-Some.numeral.now c.in-Some.behind.now) c.behind_blanks.ensures c.in-Some.ensures.some)
    (λ (blanks : List ℕ) (s : IsSingle c.in-Some.behind.now blanks) (all : AreBlanks blanks) (some : 1 ≤ digits_value 10 c.in-Some.numeral.now). c.in-None-single.ensures.none blanks s)

pub returns-in-Some-single-clause-none : goal.returns-in-Some-single-clause-none
returns-in-Some-single-clause-none c =
    if_none c.counted.result
    (λ (never : AreBlanks c.in-Some-single.blanks.now → 1 ≤ digits_value 10 c.in-Some.numeral.now → ⊥).
    no_array c.args.rest.now c.in-Some.numeral.now c.in-Some.behind.now
    (subst (λ (l : List ℕ). IsBracketed l c.in-Some.numeral.now c.in-Some.behind.now) c.behind_blanks.ensures c.in-Some.ensures.some)
    (λ (blanks : List ℕ) (s : IsSingle c.in-Some.behind.now blanks) (all : AreBlanks blanks) (some : 1 ≤ digits_value 10 c.in-Some.numeral.now).
    never (subst AreBlanks (single_once c.in-Some.behind.now blanks c.in-Some-single.blanks.now s c.in-Some-single.ensures.some) all) some))
    c.counted.ensures.none
