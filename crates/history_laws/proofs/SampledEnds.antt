-- The samples of runs that were called to end meet what is said of them.
use Rattle.std.specs.Prelude.{◌≡◌, ℕ, List, [], ◌∷◌, ◌++◌, Ok, Err, refl}
use Rattle.std.proofs.Common.{sym}
use Rattle.buffer_core.specs.declared.gate.RunGate.TheVariants.{Shut}
use Rattle.buffer_core.specs.declared.replies.MarkRefusal.TheVariants.{WrongGate}
use Rattle.buffer_core.specs.declared.entry.BufferEntry.{BufferEntry}
use Rattle.buffer_core.specs.declared.entry.BufferEntry.TheVariants.{Begin, End}
use Rattle.buffer_core.specs.Window.{opening}
use Rattle.buffer_core.specs.Histories.{IsLegal}
use Rattle.member_model.specs.SentCalls.{EachCall}
use Rattle.member_model.specs.EndedRuns.{MakesNoMark}
use Rattle.history_laws.specs.OneCaller.{MarksAlone}
use Rattle.history_laws.specs.CallerSamples.{IsNotEnded, ended_by_other, end_refused}
use Rattle.history_laws.proofs.Pasts.{own_cases}

pub other_is_legal : IsLegal (opening 48) ended_by_other
other_is_legal = (refl, (refl, (refl, tt)))

-- the calls of caller 1 in both
abbrev refused_calls : List BufferEntry
refused_calls = Begin 1 (Ok 0) ∷ End 1 (Err (WrongGate Shut)) ∷ []

never_in : (before after : List BufferEntry) (ended : ℕ) → refused_calls ≡ before ++ End 1 (Ok ended) ∷ after → ⊥
never_in [] after ended is = cc (is)
never_in (x ∷ []) after ended is = cc (is)
never_in (x ∷ (y ∷ [])) after ended is = cc (is)
never_in (x ∷ (y ∷ (z ∷ zs))) after ended is = cc (is)

pub not_ended : IsNotEnded refused_calls
not_ended = record {
  begun = record { begun = 0; reply = Err (WrongGate Shut); before = []; running = []; after = []; is = refl };
  never = λ ended marks. never_in marks.before marks.after ended marks.is;
}

pub refuser_alone : MarksAlone end_refused 1
refuser_alone other differs =
    own_cases other (1, Begin 1 (Ok 0)) ((1, End 1 (Err (WrongGate Shut))) ∷ []) (EachCall MakesNoMark) (λ same. absurd (differs (sym same)))
    (λ d. own_cases other (1, End 1 (Err (WrongGate Shut))) [] (EachCall MakesNoMark) (λ same. absurd (differs (sym same))) (λ d. tt))
