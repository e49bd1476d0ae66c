-- Each start has a number of its own, so what is told of several starts is told by several turns.
use Rattle.std.specs.Prelude.{◌≡◌, ◌≤◌, ◌<◌, ◌+◌, ◌==◌, ◌⊎◌, ℕ, zero, suc, Bool, if◌then◌else◌, sum_by, List, [], ◌∷◌, ◌++◌, length, map, slice_get, Contains, Option, Some, None, Ok, ⊤, refl}
use Rattle.std.specs.Option.{option_map, option_to_list}
use Rattle.std.specs.List.{AllByRecursion}
use Rattle.std.proofs.Common.{ap, sym, subst, ◌∙◌, arith, inl, inr, append_assoc, eq-eqb}
use Rattle.std.proofs.lemmas.Bool.Decides.{eqb_tells}
use Rattle.std.proofs.lemmas.List.Elements.{Contains-append_left}
use Rattle.std.proofs.lemmas.List.Sums.{sum_by-cons}
use Rattle.std.proofs.lemmas.Option.{get_or_from_slice_get, slice_get_within}
use Rattle.daq_types.specs.Callers.{entries_by, main_caller}
use Rattle.daq_types.specs.declared.runs.ChannelEnd.{ChannelEnd}
use Rattle.daq_types.specs.declared.runs.Order.{Order}
use Rattle.daq_types.specs.declared.runs.StartOutcome.{StartOutcome}
use Rattle.daq_types.specs.declared.runs.StartOutcome.TheVariants.{Completed, Refused}
use Rattle.daq_types.specs.declared.runs.Transition.TheVariants.{Start, Stop}
use Rattle.daq_types.specs.declared.runs.Why.{Why}
use Rattle.daq_types.specs.declared.runs.Why.TheVariants.{NotReady, Exists, Fault, BufferRefused}
use Rattle.daq_io.proofs.Counts.{RoseBy-fewer}
use Rattle.daq_io.specs.Told.{FilesTold}
use Rattle.buffer_core.specs.Slots.{slot_at}
use Rattle.transitions.specs.declared.answers.Answer.TheVariants.{Yes, No}
use Rattle.transitions.specs.declared.answers.Tally.TheVariants.{Channels}
use Rattle.transitions.specs.declared.entry.EngineEntry.TheVariants.{Begin}
use Rattle.transitions.specs.Engines.{engine_opening}
use Rattle.transitions.specs.EnginePoints.{engine_past, state_at}
use Rattle.member_model.specs.RunEngines.{Sheet, Answer, ClientTally, EngineEntry, EngineHistory, IsLegalEngine}
use Rattle.member_model.specs.Turns.{MemberTurn, HasTurn}
use Rattle.member_model.specs.TurnCalls.{member_turns}
use Rattle.mid_logger.specs.declared.channel.Channel.{Channel}
use Rattle.loggers.specs.ToldCounts.{faults_of_state, faults_of_refusal, faults_of_answer, clashes_of_answer, count_in_answer, faults_told, clashes_told, broken_off}
use Rattle.loggers.proofs.ManyRose.{has_counts}
use Rattle.history_laws.specs.BegunTurns.{HasTransition, IsRefusedTurn, IsTallyOfTurn}
use Rattle.history_laws.specs.CallerLaws.{AttachesGiveOnce}
use Rattle.history_laws.specs.EngineLaws.{MainHasTransition, RefusalsAreAnswers, TalliesAreAnswers}
use Rattle.history_laws.proofs.MainCalls.{OwnAt, own_at}
use Rattle.session_runs.specs.declared.records.ChannelFiles.{ChannelFiles}
use Rattle.session_runs.specs.declared.records.RunRecord.{RunRecord}
use Rattle.session_runs.specs.MadeTransitions.{TransitionIn}
use Rattle.session_runs.specs.declared.channels.RunChannel.{RunChannel}
use Rattle.session_runs.specs.KeptRuns.{run_channel}
use Rattle.session_runs.specs.RunEntries.{start_sheet, later_sheet, dump_saved}
use Rattle.session_runs.specs.RunsFit.{MainOwn, FitsRun, FitsOutcome, FitsRefused, FitsWhole, run_of, start_begun, start_of, starts_begun}
use Rattle.session_runs.specs.ToldTallies.{ended_files, files_told, files_of, ends_told}
use Rattle.composition.proofs.FilesTogether.{yes_channels}
use Rattle.composition.proofs.SessionTurns.{StartsRise, speaks}
use Rattle.session_laws.specs.ClosedSessions.{ClosedSession, logger_client, logger_caller, engine_calls}
use Rattle.session_laws.specs.EndLaws.{StartsDiffer}
use Rattle.session_laws.specs.MembersAtEnd.{MembersAtEnd}
use Rattle.session_laws.specs.CountedFaults.{LoggerReasons, LoggerNames, IsRefusedSo, CountsTell}
use Rattle.session_laws.specs.RecordedRuns.{run_channels, clients_in}
use Rattle.session_laws.specs.OneAnswer.{faults_of_outcome, clashes_of_outcome, faults_recorded, clashes_recorded, OneAnswerEach}
use Rattle.session_laws.proofs.EachCaller.{all_each}
use Rattle.session_laws.proofs.KeptTogether.{names_own}
use Rattle.session_laws.proofs.LoggerEnd.{given_once}
use Rattle.session_laws.proofs.RecordedStarts.{refused_in, run_in, run_recorded, starts_joined}
use Rattle.session_laws.specs.MadeRuns.{RunIn}
use Rattle.session_laws.proofs.RecordsMade.{ToldEnds, ends_so}
use Rattle.session_laws.proofs.RunsMade.{has_made}

-- Sums.

module _ {X : Type 0} where
  sums_none : (f : X → ℕ) (xs : List X) → ((x : X) → f x ≡ 0) → sum_by f xs ≡ 0
  sums_none f [] none = refl
  sums_none f (x ∷ xs) none = omega (arith, none x, sums_none f xs none, sum_by-cons f x xs)

  sums_both : (f g h : X → ℕ) (xs : List X) → ((x : X) → f x ≡ g x + h x) → sum_by f xs ≡ sum_by g xs + sum_by h xs
  sums_both f g h [] both = refl
  sums_both f g h (x ∷ xs) both = omega (arith, both x, sums_both f g h xs both, sum_by-cons f x xs, sum_by-cons g x xs, sum_by-cons h x xs)

-- Start numbers that differ.

abbrev Apart : List ℕ → Type 0
Apart [] = ⊤
Apart (s ∷ ss) = (Contains ss s → ⊥) × Apart ss

apart_first : (xs ys : List ℕ) → Apart (xs ++ ys) → Apart xs
apart_first [] ys apart = tt
apart_first (x ∷ xs) ys apart = ((λ has. apart.0 (Contains-append_left xs ys x has)), apart_first xs ys apart.1)

-- what a turn counts for the start with this number
abbrev counts_for : (count : MemberTurn → ℕ) → MemberTurn → (start : ℕ) → ℕ
counts_for count t start = if t.order.start == start then count t else 0

count_same : (count : MemberTurn → ℕ) (t : MemberTurn) (start : ℕ) → t.order.start ≡ start → counts_for count t start ≡ count t
count_same count t start same = ap (λ (b : Bool). if b then count t else 0) (eq-eqb t.order.start start same)

-- what is told of the start with this number
abbrev told_for : (count : MemberTurn → ℕ) → List MemberTurn → (start : ℕ) → ℕ
told_for count ts start = sum_by (λ t. counts_for count t start) ts

none_of_them : (count : MemberTurn → ℕ) (t : MemberTurn) (starts : List ℕ) → (Contains starts t.order.start → ⊥) → sum_by (counts_for count t) starts ≡ 0
none_of_them count t [] never = refl
none_of_them count t (s ∷ ss) never = elim (eqb_tells t.order.start s) as (λ w. sum_by (counts_for count t) (s ∷ ss) ≡ 0) [
  | inl same ↦ absurd (never (0, omega arith, sym same.1))
  | inr differs ↦
      let none : counts_for count t s ≡ 0 = ap (λ (b : Bool). if b then count t else 0) differs.0 in
      let rest : sum_by (counts_for count t) ss ≡ 0 = none_of_them count t ss (λ has. never (suc has.0, omega (arith, has.1), has.2)) in
      omega (arith, none, rest, sum_by-cons (counts_for count t) s ss)
]

-- a turn counts for one start
one_of_them : (count : MemberTurn → ℕ) (t : MemberTurn) (starts : List ℕ) → Apart starts → sum_by (counts_for count t) starts ≤ count t
one_of_them count t [] apart = omega arith
one_of_them count t (s ∷ ss) apart = elim (eqb_tells t.order.start s) as (λ w. sum_by (counts_for count t) (s ∷ ss) ≤ count t) [
  | inl same ↦
      let here : counts_for count t s ≡ count t = ap (λ (b : Bool). if b then count t else 0) same.0 in
      let rest : sum_by (counts_for count t) ss ≡ 0 = none_of_them count t ss (λ has. apart.0 (subst (λ (n : ℕ). Contains ss n) same.1 has)) in
      omega (arith, here, rest, sum_by-cons (counts_for count t) s ss)
  | inr differs ↦
      let none : counts_for count t s ≡ 0 = ap (λ (b : Bool). if b then count t else 0) differs.0 in
      let rest : sum_by (counts_for count t) ss ≤ count t = one_of_them count t ss apart.1 in
      omega (arith, none, rest, sum_by-cons (counts_for count t) s ss)
]

told_within : (count : MemberTurn → ℕ) (ts : List MemberTurn) (starts : List ℕ) → Apart starts → sum_by (told_for count ts) starts ≤ sum_by count ts
told_within count [] starts apart =
    let none : sum_by (told_for count []) starts ≡ 0 = sums_none (told_for count []) starts (λ s. refl) in
    omega (arith, none)
told_within count (t ∷ ts) starts apart =
    let both : sum_by (told_for count (t ∷ ts)) starts ≡ sum_by (counts_for count t) starts + sum_by (told_for count ts) starts =
    sums_both (told_for count (t ∷ ts)) (counts_for count t) (told_for count ts) starts (λ s. sum_by-cons (λ (u : MemberTurn). counts_for count u s) t ts) in
    omega (arith, both, one_of_them count t starts apart, told_within count ts starts apart, sum_by-cons count t ts)

told_by_turn : (count : MemberTurn → ℕ) (ts : List MemberTurn) (t : MemberTurn) (start : ℕ) → HasTurn ts t → t.order.start ≡ start → count t ≤ told_for count ts start
told_by_turn count ts t start stands of =
    subst (λ (n : ℕ). n ≤ told_for count ts start) (count_same count t start of) (has_counts (λ (u : MemberTurn). counts_for count u start) ts t stands)

-- the records tell no more than the turns, where each tells no more than those of its start
records_within : (weight : RunRecord → ℕ) (count : MemberTurn → ℕ) (ts : List MemberTurn) (runs : List RunRecord) → AllByRecursion (λ (r : RunRecord). weight r ≤ told_for count ts r.start) runs → sum_by weight runs ≤ sum_by (told_for count ts) (map start_of runs)
records_within weight count ts [] all = omega arith
records_within weight count ts (r ∷ rs) all =
    let rest = records_within weight count ts rs all.1 in
    let here = all.0 in
    omega (arith, here, rest, sum_by-cons weight r rs, sum_by-cons (told_for count ts) r.start (map start_of rs))

runs_within : (weight : RunRecord → ℕ) (count : MemberTurn → ℕ) (ts : List MemberTurn) (runs : List RunRecord) → Apart (map start_of runs) → AllByRecursion (λ (r : RunRecord). weight r ≤ told_for count ts r.start) runs → sum_by weight runs ≤ sum_by count ts
runs_within weight count ts runs apart all = omega (arith, records_within weight count ts runs all, told_within count ts (map start_of runs) apart)

-- The main thread's starts.

-- the call begins a start, or none
record BeginsStart (e : EngineEntry) : Type 0 where
  sheet : Sheet
  start : ℕ
  is : e ≡ Begin Start sheet (Ok start)

begins_or_not : (e : EngineEntry) → (start_begun e ≡ []) ⊎ BeginsStart e
begins_or_not (Begin Start sheet (Ok start)) = inr (record { sheet = sheet; start = start; is = refl })
begins_or_not e = inl refl

-- the start with this number is begun among these calls
record BegunAt (own : List EngineEntry) (start : ℕ) : Type 0 where
  before : List EngineEntry
  sheet : Sheet
  after : List EngineEntry
  whole : own ≡ before ++ Begin Start sheet (Ok start) ∷ after

first_or_later : (n s : ℕ) (ss : List ℕ) → Contains (n ∷ ss) s → (n ≡ s) ⊎ Contains ss s
first_or_later n s ss (zero, within, is) = inl is
first_or_later n s ss (suc k, within, is) = inr (k, omega (arith, within), is)

behind_call : (e : EngineEntry) (own : List EngineEntry) (start : ℕ) → BegunAt own start → BegunAt (e ∷ own) start
behind_call e own start at = record { before = e ∷ at.before; sheet = at.sheet; after = at.after; whole = ap (λ (l : List EngineEntry). e ∷ l) at.whole }

begun_at : (own : List EngineEntry) (start : ℕ) → Contains (starts_begun own) start → BegunAt own start
begun_at [] start has = absurd (omega (arith, has.1))
begun_at (e ∷ own) start has = elim (begins_or_not e) as (λ w. BegunAt (e ∷ own) start) [
  | inl none ↦ behind_call e own start (begun_at own start (subst (λ (l : List ℕ). Contains (l ++ starts_begun own) start) none has))
  | inr begins ↦
      let first : Contains (begins.start ∷ starts_begun own) start = subst (λ (x : EngineEntry). Contains (start_begun x ++ starts_begun own) start) begins.is has in
      elim (first_or_later begins.start start (starts_begun own) first) as (λ w. BegunAt (e ∷ own) start) [
        | inl same ↦ record { before = []; sheet = begins.sheet; after = own; whole = ap (λ (x : EngineEntry). x ∷ own) (begins.is ∙ ap (λ (n : ℕ). Begin Start begins.sheet (Ok n)) same) }
        | inr later ↦ behind_call e own start (begun_at own start later)
      ]
]

-- no number begins twice
begun_once : StartsRise → (h : EngineHistory) → IsLegalEngine engine_opening h → (before after : List EngineEntry) (sheet : Sheet) (start : ℕ) → entries_by main_caller h ≡ before ++ Begin Start sheet (Ok start) ∷ after → Contains (starts_begun after) start → ⊥
begun_once rise h legal before after sheet start whole again =
    let first : OwnAt main_caller h before (Begin Start sheet (Ok start)) after = own_at main_caller h before (Begin Start sheet (Ok start)) after whole in
    let second : BegunAt after start = begun_at after start again in
    let other : OwnAt main_caller first.later second.before (Begin Start second.sheet (Ok start)) second.after =
    own_at main_caller first.later second.before (Begin Start second.sheet (Ok start)) second.after (first.own_after ∙ second.whole) in
    let both : h ≡ first.earlier ++ (main_caller, Begin Start sheet (Ok start)) ∷ (other.earlier ++ (main_caller, Begin Start second.sheet (Ok start)) ∷ other.later) =
    first.whole ∙ ap (λ (l : EngineHistory). first.earlier ++ (main_caller, Begin Start sheet (Ok start)) ∷ l) other.whole in
    let less : start < start = rise first.earlier other.earlier other.later main_caller main_caller sheet second.sheet start start (subst (IsLegalEngine engine_opening) both legal) in
    omega (arith, less)

apart_behind : StartsRise → (h : EngineHistory) → IsLegalEngine engine_opening h → (before rest : List EngineEntry) → entries_by main_caller h ≡ before ++ rest → Apart (starts_begun rest)
apart_behind rise h legal before [] whole = tt
apart_behind rise h legal before (e ∷ rest) whole =
    let later : Apart (starts_begun rest) = apart_behind rise h legal (before ++ e ∷ []) rest (whole ∙ sym (append_assoc before (e ∷ []) rest)) in
    elim (begins_or_not e) as (λ w. Apart (start_begun e ++ starts_begun rest)) [
      | inl none ↦ subst (λ (l : List ℕ). Apart (l ++ starts_begun rest)) (sym none) later
      | inr begins ↦ subst (λ (x : EngineEntry). Apart (start_begun x ++ starts_begun rest)) (sym begins.is)
          (begun_once rise h legal before rest begins.sheet begins.start (whole ∙ ap (λ (x : EngineEntry). before ++ x ∷ rest) begins.is), later)
    ]

starts_apart : StartsRise → (c : ClosedSession) → MembersAtEnd c → (own more : List EngineEntry) → engine_calls c main_caller ≡ own ++ more → Apart (starts_begun own)
starts_apart rise c ends own more calls =
    let all : Apart (starts_begun (engine_calls c main_caller)) = apart_behind rise c.engine ends.engine [] (engine_calls c main_caller) refl in
    apart_first (starts_begun own) (starts_begun more) (subst (λ (l : List ℕ). Apart l) (ap starts_begun calls ∙ starts_joined own more) all)

-- a number that stands in a list of differing ones stands at one place
once : (xs : List ℕ) (first second n : ℕ) → Apart xs → slice_get xs first ≡ Some n → slice_get xs second ≡ Some n → first ≡ second
once [] first second n apart at other = absurd (cc at)
once (x ∷ xs) zero zero n apart at other = refl
once (x ∷ xs) zero (suc second) n apart at other =
    let same : x ≡ n = cc at in
    absurd (apart.0 (second, slice_get_within xs second n other, get_or_from_slice_get xs second n x other ∙ sym same))
once (x ∷ xs) (suc first) zero n apart at other =
    let same : x ≡ n = cc other in
    absurd (apart.0 (first, slice_get_within xs first n at, get_or_from_slice_get xs first n x at ∙ sym same))
once (x ∷ xs) (suc first) (suc second) n apart at other = ap suc (once xs first second n apart.1 at other)

pub starts_differ : StartsRise → StartsDiffer
starts_differ rise c ends own more calls first second start at other = once (starts_begun own) first second start (starts_apart rise c ends own more calls) at other

-- Files.

abbrev pub faults_of_files : ChannelFiles → ℕ
faults_of_files files = faults_of_state files.told.state

-- what is told of one channel counts for its state
abbrev pub faults_of_end : ChannelEnd → ℕ
faults_of_end told = faults_of_state told.state

-- the channels have the numbers from this one on
abbrev AreNumberedFrom : (place : ℕ) → List (Option Channel) → Type 0
AreNumberedFrom place slots = (n : ℕ) → (c : Channel) → slot_at slots n ≡ Some c → c.spec.number ≡ place + n

abbrev pub end_counts : Option ChannelEnd → ℕ
end_counts None = 0
end_counts (Some told) = faults_of_end told

-- the faults of what is told from this place on, as many as there are slots
abbrev counts_from : List ChannelEnd → (place : ℕ) → List (Option Channel) → ℕ
counts_from told place [] = 0
counts_from told place (o ∷ os) = end_counts (slice_get told place) + counts_from told (suc place) os

pub files_first : (ch : RunChannel) (rest : List ChannelFiles) (o : Option ChannelEnd) → sum_by faults_of_files (option_to_list (option_map (ended_files ch) o) ++ rest) ≡ end_counts o + sum_by faults_of_files rest
files_first ch rest None = omega arith
files_first ch rest (Some told) = sum_by-cons faults_of_files (ended_files ch told) rest

numbered_later : (place : ℕ) (o : Option Channel) (os : List (Option Channel)) → AreNumberedFrom place (o ∷ os) → AreNumberedFrom (suc place) os
numbered_later place o os numbered n c there = numbered (suc n) c there ∙ omega arith

files_from : (told : List ChannelEnd) (place : ℕ) (slots : List (Option Channel)) → AreNumberedFrom place slots → sum_by faults_of_files (files_told told (run_channels slots)) ≤ counts_from told place slots
files_from told place [] numbered = omega arith
files_from told place (None ∷ os) numbered =
    let rest = files_from told (suc place) os (numbered_later place None os numbered) in
    omega (arith, rest)
files_from told place (Some c ∷ os) numbered =
    let rest = files_from told (suc place) os (numbered_later place (Some c) os numbered) in
    let first = files_first (run_channel c.spec) (files_told told (run_channels os)) (slice_get told c.spec.number) in
    let at : c.spec.number ≡ place = numbered 0 c refl ∙ omega arith in
    let same : end_counts (slice_get told c.spec.number) ≡ end_counts (slice_get told place) = ap (λ (n : ℕ). end_counts (slice_get told n)) at in
    omega (arith, rest, first, same)

none_counts : (place : ℕ) (slots : List (Option Channel)) → counts_from [] place slots ≡ 0
none_counts place [] = refl
none_counts place (o ∷ os) = omega (arith, none_at place, none_counts (suc place) os)
  where
    none_at : (n : ℕ) → end_counts (slice_get [] n) ≡ 0
    none_at zero = refl
    none_at (suc n) = refl

counts_later : (x : ChannelEnd) (xs : List ChannelEnd) (place : ℕ) (slots : List (Option Channel)) → counts_from (x ∷ xs) (suc place) slots ≡ counts_from xs place slots
counts_later x xs place [] = refl
counts_later x xs place (o ∷ os) = ap (λ (n : ℕ). end_counts (slice_get xs place) + n) (counts_later x xs (suc place) os)

counts_within : (told : List ChannelEnd) (slots : List (Option Channel)) → counts_from told 0 slots ≤ sum_by faults_of_end told
counts_within [] slots = omega (arith, none_counts 0 slots)
counts_within (x ∷ xs) [] = omega arith
counts_within (x ∷ xs) (o ∷ os) = omega (arith, counts_later x xs 0 os, counts_within xs os, sum_by-cons faults_of_end x xs)

-- the files of a logger's channels tell no more faults than it told
files_within : (told : List ChannelEnd) (slots : List (Option Channel)) → ((n : ℕ) (c : Channel) → slot_at slots n ≡ Some c → c.spec.number ≡ n) → sum_by faults_of_files (files_told told (run_channels slots)) ≤ sum_by faults_of_end told
files_within told slots numbered =
    let some = files_from told 0 slots (λ n c there. numbered n c there ∙ omega arith) in
    omega (arith, some, counts_within told slots)

-- Records.

abbrev fault_count : MemberTurn → ℕ
fault_count t = count_in_answer faults_of_answer t.answer

abbrev clash_count : MemberTurn → ℕ
clash_count t = count_in_answer clashes_of_answer t.answer

-- no more is told in the record of a start than in the logger's turns of that start
record ToldByTurns (ts : List MemberTurn) (r : RunRecord) : Type 0 where
  faults : faults_recorded r ≤ told_for fault_count ts r.start
  clashes : clashes_recorded r ≤ told_for clash_count ts r.start

-- what a refusal tells
record RefusalTold (ts : List MemberTurn) (start : ℕ) (why : Why) : Type 0 where
  faults : faults_of_refusal why ≤ told_for fault_count ts start
  clashes : clashes_of_answer (No why) ≤ told_for clash_count ts start

clashes_refused : (client : ℕ) (why : Why) → clashes_of_outcome (Refused client why) ≡ clashes_of_answer (No why)
clashes_refused client (Exists channel) = refl
clashes_refused client why = refl

-- who refuses for another reason than being not ready is the logger
refused_alone : (c : ClosedSession) (first now : FilesTold) (sheet : Sheet) (start client : ℕ) (why : Why) → (why ≡ NotReady → ⊥) → IsRefusedSo c first now sheet start client why → client ≡ logger_client c
refused_alone c first now sheet start client why other so = elim so as (λ w. client ≡ logger_client c) [
  | inl front ↦ absurd (other front.why_is)
  | inr later ↦ elim later as (λ w. client ≡ logger_client c) [
    | inl mine ↦ mine.0
    | inr of_analyzer ↦ absurd (other of_analyzer.why_is)
  ]
]

-- the laws of engines, that of the clients that a caller is given, and that of the counts of closed sessions
pub record OneLaws : Type 0 where
  pub main : MainHasTransition
  pub refusals : RefusalsAreAnswers
  pub tallies : TalliesAreAnswers
  pub rise : StartsRise
  pub counts : CountsTell
  pub once : AttachesGiveOnce

-- the logger's turns
abbrev turns : ClosedSession → List MemberTurn
turns c = member_turns (logger_client c) (engine_calls c (logger_caller c))

module _ (laws : OneLaws) (c : ClosedSession) (ends : MembersAtEnd c) (first now : FilesTold) (reasons : LoggerReasons c ends first now) (names : LoggerNames c ends first now) where
  abbrev ts : List MemberTurn
  ts = turns c

  refused_turn : (sheet : Sheet) (start : ℕ) (why : Why) (tallies : List ClientTally) → (has : HasTransition c.engine Start sheet start (Refused (logger_client c) why) tallies) → IsRefusedTurn ts (state_at (engine_past has.earlier)) sheet start why
  refused_turn sheet start why tallies has =
      laws.refusals (logger_caller c) (logger_client c) c.engine ends.engine (speaks (logger_client c) c.engine (names_own c ends)) sheet start why tallies has

  logger_refused : (why : Why) (sheet : Sheet) (start : ℕ) (tallies : List ClientTally) → TransitionIn (engine_calls c main_caller) Start sheet start (Refused (logger_client c) why) tallies → RefusalTold ts start why
  logger_refused why sheet start tallies made =
      let r = refused_turn sheet start why tallies (has_made laws.main c.engine Start sheet start (Refused (logger_client c) why) tallies ends.engine made) in
      let of : r.turn.order.start ≡ start = ap (λ (o : Order). o.start) r.of_begin.order in
      let faults : fault_count r.turn ≡ faults_of_refusal why = ap (count_in_answer faults_of_answer) r.answered in
      let clashes : clash_count r.turn ≡ clashes_of_answer (No why) = ap (count_in_answer clashes_of_answer) r.answered in
      record {
        faults = omega (arith, faults, told_by_turn fault_count ts r.turn start r.stands of);
        clashes = omega (arith, clashes, told_by_turn clash_count ts r.turn start r.stands of);
      }

  -- for a fault or a name the logger alone refuses
  refusal_by_logger : (why : Why) → (why ≡ NotReady → ⊥) → (sheet : Sheet) (start client : ℕ) (tallies : List ClientTally) → TransitionIn (engine_calls c main_caller) Start sheet start (Refused client why) tallies → RefusalTold ts start why
  refusal_by_logger why other sheet start client tallies made =
      let by : client ≡ logger_client c = refused_alone c first now sheet start client why other ((laws.counts c ends first now reasons names).refused sheet start client why tallies made) in
      logger_refused why sheet start tallies (subst (λ (n : ℕ). TransitionIn (engine_calls c main_caller) Start sheet start (Refused n why) tallies) by made)

  refusal_told : (why : Why) (sheet : Sheet) (start client : ℕ) (tallies : List ClientTally) → TransitionIn (engine_calls c main_caller) Start sheet start (Refused client why) tallies → RefusalTold ts start why
  refusal_told NotReady sheet start client tallies made = record { faults = omega arith; clashes = omega arith }
  refusal_told (Exists channel) sheet start client tallies made = refusal_by_logger (Exists channel) (λ is. cc (is)) sheet start client tallies made
  refusal_told (Fault channel) sheet start client tallies made = refusal_by_logger (Fault channel) (λ is. cc (is)) sheet start client tallies made
  refusal_told BufferRefused sheet start client tallies made = record { faults = omega arith; clashes = omega arith }

  module _ (own : MainOwn) (more : List EngineEntry) (calls : engine_calls c main_caller ≡ own.engine ++ more) where
    refused_told : (r : RunRecord) (quota client : ℕ) (why : Why) → r.outcome ≡ Refused client why → FitsRefused (clients_in c) own (run_of r quota) r → ToldByTurns ts r
    refused_told r quota client why is fits =
        let start = fits.start in
        let sheet : Sheet = start_sheet (length c.analyzers) r.run r.time0 quota start.dump in
        let made : TransitionIn (engine_calls c main_caller) Start sheet r.start (Refused client why) start.tallies = refused_in (clients_in c) own more (engine_calls c main_caller) calls r quota client why is start in
        let told : RefusalTold ts r.start why = refusal_told why sheet r.start client start.tallies made in
        let files : sum_by faults_of_files r.files ≡ 0 = ap (λ (l : List ChannelFiles). sum_by faults_of_files l) fits.files in
        let outcome : faults_of_outcome r.outcome ≡ faults_of_refusal why = ap faults_of_outcome is in
        let clashed : clashes_of_outcome r.outcome ≡ clashes_of_answer (No why) = ap clashes_of_outcome is ∙ clashes_refused client why in
        let some = told.faults in
        let names_taken = told.clashes in
        record { faults = omega (arith, files, outcome, some); clashes = omega (arith, clashed, names_taken) }

    ends_told_by : (r : RunRecord) (sheet : Sheet) (tallies : List ClientTally) → TransitionIn (engine_calls c main_caller) Stop sheet r.start Completed tallies → (o : Option (List ChannelEnd)) → ends_told (logger_client c) tallies ≡ o
        → sum_by faults_of_files (files_of o (run_channels c.slots)) ≤ told_for fault_count ts r.start
    ends_told_by r sheet tallies made None none = omega arith
    ends_told_by r sheet tallies made (Some told) is =
        let n : ℕ = logger_client c in
        let says : ToldEnds n tallies told = ends_so n tallies told is in
        let has : HasTransition c.engine Stop sheet r.start Completed tallies = has_made laws.main c.engine Stop sheet r.start Completed tallies ends.engine made in
        let t : IsTallyOfTurn c.engine n ts (state_at (engine_past has.earlier)) Stop sheet r.start Completed (Channels told) =
        laws.tallies (logger_caller c) n c.engine ends.engine (speaks n c.engine (names_own c ends)) Stop sheet r.start Completed tallies has says.index (Channels told) says.at in
        let answered : t.turn.answer ≡ Some (Yes (Channels told)) = t.answered ∙ ap (λ (a : Answer). Some a) (yes_channels t.answer told t.tally_is) in
        let count : fault_count t.turn ≡ sum_by faults_of_end told = ap (count_in_answer faults_of_answer) answered in
        let of : t.turn.order.start ≡ r.start = ap (λ (o : Order). o.start) t.of_begin.order in
        let files = files_within told c.slots (ends.logger.stands (given_once laws.once c ends)).holds.standing.numbered in
        omega (arith, files, count, told_by_turn fault_count ts t.turn r.start t.stands of)

    whole_told : (r : RunRecord) (quota : ℕ) → r.outcome ≡ Completed → FitsWhole (clients_in c) own (run_of r quota) r → ToldByTurns ts r
    whole_told r quota is fits =
        let stop = fits.stop in
        let made : RunIn (engine_calls c main_caller) (run_recorded (clients_in c) own more (engine_calls c main_caller) calls r quota fits) = run_in (clients_in c) own more (engine_calls c main_caller) calls r quota fits in
        let files : sum_by faults_of_files r.files ≡ sum_by faults_of_files (files_of (ends_told (logger_client c) stop.tallies) (run_channels c.slots)) = ap (λ (l : List ChannelFiles). sum_by faults_of_files l) stop.tells.files in
        let some = ends_told_by r (later_sheet (run_of r quota) r.time1 (dump_saved stop.saved)) stop.tallies made.stopped (ends_told (logger_client c) stop.tallies) refl in
        let outcome : faults_of_outcome r.outcome ≡ 0 = ap faults_of_outcome is in
        let clashed : clashes_of_outcome r.outcome ≡ 0 = ap clashes_of_outcome is in
        record { faults = omega (arith, files, some, outcome); clashes = omega (arith, clashed) }

    told_by_outcome : (r : RunRecord) (quota : ℕ) (o : StartOutcome) → r.outcome ≡ o → FitsOutcome (clients_in c) own (run_of r quota) r o → ToldByTurns ts r
    told_by_outcome r quota Completed is fits = whole_told r quota is fits
    told_by_outcome r quota (Refused client why) is fits = refused_told r quota client why is fits

    told_by_runs : (runs : List RunRecord) → AllByRecursion (FitsRun (clients_in c) own) runs → AllByRecursion (ToldByTurns ts) runs
    told_by_runs runs fits = all_each (FitsRun (clients_in c) own) (ToldByTurns ts) runs (λ r fit. told_by_outcome r fit.0 r.outcome refl fit.1) fits

pub one_each : OneLaws → OneAnswerEach
one_each laws c ends first now reasons names own more calls runs fits =
    let its : List MemberTurn = turns c in
    let apart : Apart (map start_of runs) = subst (λ (l : List ℕ). Apart l) (sym fits.each_start) (starts_apart laws.rise c ends own.engine more calls) in
    let told : AllByRecursion (ToldByTurns its) runs = told_by_runs laws c ends first now reasons names own more calls runs fits.runs in
    let faults : sum_by faults_recorded runs ≤ faults_told its =
    runs_within faults_recorded fault_count its runs apart (all_each (ToldByTurns its) (λ (r : RunRecord). faults_recorded r ≤ told_for fault_count its r.start) runs (λ r t. t.faults) told) in
    let clashes : sum_by clashes_recorded runs ≤ clashes_told its =
    runs_within clashes_recorded clash_count its runs apart (all_each (ToldByTurns its) (λ (r : RunRecord). clashes_recorded r ≤ told_for clash_count its r.start) runs (λ r t. t.clashes) told) in
    record {
      faults = RoseBy-fewer (sum_by faults_recorded runs) (faults_told its + broken_off c.slots) first.faults now.faults (omega (arith, faults)) reasons.faults;
      clashes = RoseBy-fewer (sum_by clashes_recorded runs) (clashes_told its) first.clashes now.clashes clashes reasons.clashes;
    }
