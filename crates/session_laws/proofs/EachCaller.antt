-- The callers of a closed session, and what holds of each call since it holds of each caller's own.
use Rattle.std.specs.Prelude.{◌≡◌, ◌≢◌, ℕ, zero, suc, ◌+◌, ◌-◌, ◌<◌, ◌==◌, true, false, List, [], ◌∷◌, ◌++◌, length, slice_get, Some, refl}
use Rattle.std.specs.List.{AllByRecursion}
use Rattle.std.proofs.Common.{ap, sym, subst, ◌∙◌, arith, inl, inr, add-one, eq-eqb}
use Rattle.std.proofs.lemmas.Bool.{and_parts, cases_eq}
use Rattle.std.proofs.lemmas.Bool.Decides.{eqb_tells}
use Rattle.std.proofs.lemmas.Option.{slice_get_cases}
use Rattle.daq_types.specs.Callers.{entries_by, main_caller, caller_of_client}
use Rattle.daq_types.proofs.CallersLaws.{entries_by-append}
use Rattle.buffer_core.specs.declared.entry.BufferEntry.{BufferEntry}
use Rattle.member_model.specs.RunEngines.{EngineEntry}
use Rattle.session_runs.specs.declared.opening.MemberName.{MemberName}
use Rattle.session_runs.specs.Members.{registration, registrations}
use Rattle.session_runs.specs.RunsFit.{SteersEngine}
use Rattle.daq_members.specs.OwnTurns.{is_call_for, are_calls_for}
use Rattle.session_laws.specs.ClosedSessions.{ClosedAnalyzer, ClosedFront, ClosedSession, analyzer_client, calls_on_buffer, engine_calls, last_caller, logger_caller}
use Rattle.session_laws.specs.MembersAtEnd.{MembersAtEnd}

-- Own calls.

pub own_first : {E : Type 0} (by : ℕ) (x : ℕ × E) (h : List (ℕ × E)) → (x.0 == by) ≡ true → entries_by by (x ∷ h) ≡ x.1 ∷ entries_by by h
own_first by x h is = rw is refl

pub own_other : {E : Type 0} (by : ℕ) (x : ℕ × E) (h : List (ℕ × E)) → (x.0 == by) ≡ false → entries_by by (x ∷ h) ≡ entries_by by h
own_other by x h is = rw is refl

-- the calls of this caller before one of its calls, and behind it
pub own_around : {E : Type 0} (by : ℕ) (before after : List (ℕ × E)) (entry : E) → entries_by by (before ++ (by, entry) ∷ after) ≡ entries_by by before ++ entry ∷ entries_by by after
own_around {E} by before after entry =
    entries_by-append by before ((by, entry) ∷ after) ∙ ap (λ (l : List E). entries_by by before ++ l) (own_first by (by, entry) after (eq-eqb by by refl))

-- what holds of each caller's own calls holds of each call
pub each_by : {E : Type 0} (P : ℕ → E → Type 0) (h : List (ℕ × E)) → ((by : ℕ) → AllByRecursion (P by) (entries_by by h)) → AllByRecursion (λ (x : ℕ × E). P x.0 x.1) h
each_by P [] own = tt
each_by {E} P (x ∷ h) own =
    let here : AllByRecursion (P x.0) (x.1 ∷ entries_by x.0 h) = subst (AllByRecursion (P x.0)) (own_first x.0 x h (eq-eqb x.0 x.0 refl)) (own x.0) in (
      here.0,
      each_by P h (λ by. elim (eqb_tells x.0 by) as (λ w. AllByRecursion (P by) (entries_by by h)) [
        | inl same ↦ (let all : AllByRecursion (P by) (x.1 ∷ entries_by by h) = subst (AllByRecursion (P by)) (own_first by x h same.0) (own by) in all.1)
        | inr differs ↦ subst (AllByRecursion (P by)) (own_other by x h differs.0) (own by)
      ]),
    )

all_both : {X : Type 0} (P : X → Type 0) (xs ys : List X) → AllByRecursion P xs → AllByRecursion P ys → AllByRecursion P (xs ++ ys)
all_both P [] ys first second = second
all_both P (x ∷ xs) ys first second = (first.0, all_both P xs ys first.1 second)

pub all_each : {X : Type 0} (P Q : X → Type 0) (xs : List X) → ((x : X) → P x → Q x) → AllByRecursion P xs → AllByRecursion Q xs
all_each P Q [] more all = tt
all_each P Q (x ∷ xs) more all = (more x all.0, all_each P Q xs more all.1)

pub none_all : {X : Type 0} (P : X → Type 0) (xs : List X) → xs ≡ [] → AllByRecursion P xs
none_all P xs none = subst (AllByRecursion P) (sym none) tt

-- Who the callers are.

module _ (P : ℕ → Type 0) (c : ClosedSession) (logger : P (logger_caller c)) (analyzers : (place : ℕ) (a : ClosedAnalyzer) → slice_get c.analyzers place ≡ Some a → P (caller_of_client (analyzer_client c place))) (others : (by : ℕ) → last_caller c < by → P by) where
  behind_fronts : (client place : ℕ) → client ≡ length c.fronts + place → P (caller_of_client client)
  behind_fronts client zero is = (let n : client ≡ length c.fronts = omega arith in subst (λ (k : ℕ). P (caller_of_client k)) (sym n) logger)
  behind_fronts client (suc place) is = elim (slice_get_cases c.analyzers place).1 as (λ w. P (caller_of_client client)) [
    | inl a ↦ (let n : client ≡ analyzer_client c place = omega arith in subst (λ (k : ℕ). P (caller_of_client k)) (sym n) (analyzers place a.0 a.2))
    | inr past ↦ others (caller_of_client client) (omega (arith, past.0))
  ]

-- what holds of the main thread, of each front-end, of the logger, of each analyzer, and of all others, holds of each caller
pub by_caller : (P : ℕ → Type 0) (c : ClosedSession) → P main_caller → ((client : ℕ) (f : ClosedFront) → slice_get c.fronts client ≡ Some f → P (caller_of_client client)) → P (logger_caller c)
    → ((place : ℕ) (a : ClosedAnalyzer) → slice_get c.analyzers place ≡ Some a → P (caller_of_client (analyzer_client c place)))
    → ((by : ℕ) → last_caller c < by → P by) → (by : ℕ) → P by
by_caller P c main fronts logger analyzers others zero = main
by_caller P c main fronts logger analyzers others (suc n) =
    subst P (add-one n) (elim (slice_get_cases c.fronts n).1 as (λ w. P (caller_of_client n)) [
      | inl f ↦ fronts n f.0 f.2
      | inr past ↦ behind_fronts P c logger analyzers others n (n - length c.fronts) (omega (arith, past.0))
    ])

-- Calls on buffers.

-- what holds of the calls of a member on its own buffer, and of no calls, holds of its calls on each buffer
pub at_own : (c : ClosedSession) (by own : ℕ) → ((buffer : ℕ) → buffer ≢ own → calls_on_buffer c by buffer ≡ []) → (P : List BufferEntry → Type 0) → P (calls_on_buffer c by own) → P [] → (buffer : ℕ) → P (calls_on_buffer c by buffer)
at_own c by own elsewhere P here none buffer = elim (cases_eq buffer own) as (λ w. P (calls_on_buffer c by buffer)) [
  | inl same ↦ subst (λ (n : ℕ). P (calls_on_buffer c by n)) (sym same) here
  | inr differs ↦ subst P (sym (elsewhere buffer differs)) none
]

-- Calls on the engine.

-- what holds of each poll and each answer of a client holds of the calls of who speaks for it alone
each_for : (client : ℕ) (P : EngineEntry → Type 0) → ((e : EngineEntry) → is_call_for client e ≡ true → P e) → (calls : List EngineEntry) → are_calls_for client calls ≡ true → AllByRecursion P calls
each_for client P each [] are = tt
each_for client P each (e ∷ es) are = (let parts = and_parts (is_call_for client e) (are_calls_for client es) are in (each e parts.0, each_for client P each es parts.1))

-- what holds of the registration of each member at its place holds of all
registered_each : (P : EngineEntry → Type 0) (first : ℕ) (ms : List MemberName) → ((k client : ℕ) (m : MemberName) → client ≡ first + k → slice_get ms k ≡ Some m → P (registration client m)) → AllByRecursion P (registrations first ms)
registered_each P first [] each = tt
registered_each P first (m ∷ ms) each = (each 0 first m (omega arith) refl, registered_each P (suc first) ms (λ k client x is at. each (suc k) client x (omega arith) at))

-- what holds of the registrations, of what the main thread did behind them, and of each client's polls and answers for itself holds
-- of each call
pub each_call : (c : ClosedSession) (ends : MembersAtEnd c) (P : ℕ → EngineEntry → Type 0) → ((client : ℕ) (m : MemberName) → slice_get c.registered client ≡ Some m → P main_caller (registration client m)) → ((e : EngineEntry) → SteersEngine e → P main_caller e)
    → ((client : ℕ) (e : EngineEntry) → is_call_for client e ≡ true → P (caller_of_client client) e) → AllByRecursion (λ (x : ℕ × EngineEntry). P x.0 x.1) c.engine
each_call c ends P registered steered called = each_by P c.engine own
  where
    own : (by : ℕ) → AllByRecursion (P by) (engine_calls c by)
    own zero =
        subst (AllByRecursion (P main_caller)) (sym ends.main.calls)
        (all_both (P main_caller) (registrations 0 c.registered) ends.main.later (registered_each (P main_caller) 0 c.registered (λ k client m is at. (let same : client ≡ k = omega arith in registered client m (subst (λ (n : ℕ). slice_get c.registered n ≡ Some m) (sym same) at))))
        (all_each SteersEngine (P main_caller) ends.main.later steered ends.main.steers))
    own (suc n) = subst (λ (by : ℕ). AllByRecursion (P by) (engine_calls c by)) (add-one n) (each_for n (P (caller_of_client n)) (called n) (engine_calls c (caller_of_client n)) (ends.speaks n))
