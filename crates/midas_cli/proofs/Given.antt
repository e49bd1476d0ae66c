-- The words that were found in what the system gave.
use Rattle.std.proofs.Common.{◌≡◌, ◌≢◌, ℕ, List, [], Option, Result, Ok, Err, IfOk, IfErr, IsErr, subst, sym}
use Rattle.std.specs.IoError.{error_kind}
use Rattle.std.specs.declared.io.Error.{Error}
use Rattle.std.specs.declared.io.ErrorKind.TheVariants.{InvalidData}
use Rattle.daq_std.specs.GivenWords.{IsBehindName}
use Rattle.daq_io.specs.declared.objects.Outside.{Outside}
use Rattle.daq_session.specs.Environments.{OutsideTold}
use Rattle.midas_cli.specs.declared.outcome.Outcome.{Outcome}
use Rattle.midas_cli.specs.Programs.{AreWordsOf, MidasRan}

pub words_of : {S T E : Type 0} (steps : S → Option T → S → Type 0) (text : T → List ℕ) (given : Result S Error) (found : Result (List (List ℕ)) E) (words : List (List ℕ)) → found ≡ Ok words
    → IfOk given (λ args. IfOk found (IsBehindName steps text args)) → IfErr given (λ error. error_kind error ≡ InvalidData → found ≡ Ok []) → IfErr given (λ error. error_kind error ≢ InvalidData → IsErr found)
    → AreWordsOf steps text given words
words_of {S} {T} {E} steps text (Ok args) found words is behind no_text none =
    subst (λ (r : Result (List (List ℕ)) E). IfOk r (IsBehindName steps text args)) is behind
words_of {S} {T} {E} steps text (Err error) found words is behind no_text none = (
  λ kind. let empty = no_text kind in cc (empty, is),
  λ other. let no : IsErr {T = List (List ℕ)} {E = E} (Ok words) = subst (λ (r : Result (List (List ℕ)) E). IsErr r) is (none other) in cc (no),
)

-- What a call of `midas` came to is so of the same words, objects and outcome under other names.
pub ran_of : {S O F E C K : Type 0} (told : OutsideTold S O F E C) (words found : List (List ℕ)) (before first after last : Outside S O F E C K) (outcome end : Outcome) →
    found ≡ words → first ≡ before → last ≡ after → end ≡ outcome → MidasRan told words before after outcome → MidasRan told found first last end
ran_of {S} {O} {F} {E} {C} {K} told words found before first after last outcome end same_words same_first same_last same_end ran =
    subst (λ (w : List (List ℕ)). MidasRan told w first last end) (sym same_words)
    (subst (λ (b : Outside S O F E C K). MidasRan told words b last end) (sym same_first)
    (subst (λ (a : Outside S O F E C K). MidasRan told words before a end) (sym same_last)
    (subst (λ (o : Outcome). MidasRan told words before after o) (sym same_end) ran)))
