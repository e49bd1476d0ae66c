-- The moments of turns, as turns and calls are added.
use Rattle.std.specs.Prelude.{◌≡◌, ℕ, ◌≤◌, ◌==◌, if◌then◌else◌, List, [], ◌∷◌, ◌++◌, take, drop, Ok, Err, refl}
use Rattle.std.proofs.Common.{ap, sym, ◌∙◌, arith, inl, inr, append_assoc}
use Rattle.std.proofs.lemmas.Bool.Decides.{eqb_tells}
use Rattle.std.proofs.lemmas.List.{append-nil, take-append-drop}
use Rattle.daq_types.specs.declared.events.Event.{Event}
use Rattle.buffer_core.specs.declared.entry.BufferEntry.{BufferEntry}
use Rattle.buffer_core.specs.declared.entry.BufferEntry.TheVariants.{SendInRun}
use Rattle.member_model.specs.Turns.{MemberTurn, HasTurn}
use Rattle.member_model.specs.Moments.{AreMoments, HasMoment}
use Rattle.member_model.specs.SentCalls.{sent_by_call, own_sent, SendsNotIn, EachCall}

-- more calls leave the moments
pub AreMoments-later : (turns : List MemberTurn) (moments : List ℕ) (calls later : ℕ) → calls ≤ later → AreMoments turns moments calls → AreMoments turns moments later
AreMoments-later [] [] calls later less are = tt
AreMoments-later [] (m ∷ moments) calls later less are = absurd are
AreMoments-later (t ∷ turns) [] calls later less are = absurd are
AreMoments-later (t ∷ turns) (m ∷ moments) calls later less are = (omega (arith, less, are.0), are.1)

pub moment_within : (turns : List MemberTurn) (moments : List ℕ) (calls : ℕ) (t : MemberTurn) (moment : ℕ) → AreMoments turns moments calls → HasMoment turns moments t moment → moment ≤ calls
moment_within [] moments calls t moment are has = absurd has
moment_within (u ∷ turns) [] calls t moment are has = absurd has
moment_within (u ∷ turns) (m ∷ moments) calls t moment are has = elim has as (λ w. moment ≤ calls) [
  | inl here ↦ omega (arith, are.0, here.1)
  | inr earlier ↦ let below : moment ≤ m = moment_within turns moments m t moment are.1 earlier in omega (arith, are.0, below)
]

pub moment_stands : (turns : List MemberTurn) (moments : List ℕ) (t : MemberTurn) (moment : ℕ) → HasMoment turns moments t moment → HasTurn turns t
moment_stands [] moments t moment has = absurd has
moment_stands (u ∷ turns) [] t moment has = absurd has
moment_stands (u ∷ turns) (m ∷ moments) t moment has = elim has as (λ w. HasTurn (u ∷ turns) t) [
  | inl here ↦ inl here.0
  | inr earlier ↦ inr (moment_stands turns moments t moment earlier)
]

-- each turn has one
pub moment_of : (turns : List MemberTurn) (moments : List ℕ) (calls : ℕ) (t : MemberTurn) → AreMoments turns moments calls → HasTurn turns t → (moment : ℕ) × HasMoment turns moments t moment
moment_of [] moments calls t are stands = absurd stands
moment_of (u ∷ turns) [] calls t are stands = absurd are
moment_of (u ∷ turns) (m ∷ moments) calls t are stands = elim stands as (λ w. (moment : ℕ) × HasMoment (u ∷ turns) (m ∷ moments) t moment) [
  | inl same ↦ (m, inl (same, refl))
  | inr earlier ↦ let rest : (moment : ℕ) × HasMoment turns moments t moment = moment_of turns moments m t are.1 earlier in (rest.0, inr rest.1)
]

-- What was sent by a moment.

pub own_sent-append : (es more : List BufferEntry) (start : ℕ) → own_sent (es ++ more) start ≡ own_sent es start ++ own_sent more start
own_sent-append [] more start = refl
own_sent-append (e ∷ es) more start =
    ap (λ (l : List Event). sent_by_call e start ++ l) (own_sent-append es more start) ∙ sym (append_assoc (sent_by_call e start) (own_sent es start) (own_sent more start))

sends_other : (e : BufferEntry) (start : ℕ) → SendsNotIn start e → sent_by_call e start ≡ []
sends_other (SendInRun s stated event (Ok place)) start other = elim (eqb_tells s start) as (λ w. (if s == start then event ∷ [] else []) ≡ []) [
  | inl is ↦ absurd (other is.1)
  | inr differs ↦ rw differs.0 refl
]
sends_other (SendInRun s stated event (Err why)) start other = refl
sends_other e start other = refl

-- calls none of which is a send in the run sent nothing in it
pub none_sent_in : (es : List BufferEntry) (start : ℕ) → EachCall (SendsNotIn start) es → own_sent es start ≡ []
none_sent_in [] start each = refl
none_sent_in (e ∷ es) start each =
    ap (λ (l : List Event). l ++ own_sent es start) (sends_other e start each.0) ∙ none_sent_in es start each.1

-- where none of the calls behind a moment is a send in the run, all that was sent in it was sent by then
pub all_sent_by : (own : List BufferEntry) (start moment : ℕ) → EachCall (SendsNotIn start) (drop moment own) → own_sent (take moment own) start ≡ own_sent own start
all_sent_by own start moment each =
    sym (append-nil (own_sent (take moment own) start))
    ∙ (ap (λ (l : List Event). own_sent (take moment own) start ++ l) (sym (none_sent_in (drop moment own) start each))
    ∙ (sym (own_sent-append (take moment own) (drop moment own) start)
    ∙ ap (λ (es : List BufferEntry). own_sent es start) (take-append-drop moment own)))
