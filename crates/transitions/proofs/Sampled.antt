-- What the law of turns rules out.
use Rattle.std.proofs.Common.{◌≡◌, ℕ, ◌<◌, ◌≤◌, true, false, eqb, List, [], ◌∷◌, ◌++◌, length, Option, Some, None, refl, ap, sym, ◌∙◌, arith, inl, inr}
use Rattle.std.specs.Prelude.{Ok, Err, ◌⊎◌}
use Rattle.std.specs.List.{AllByRecursion}
use Rattle.std.proofs.lemmas.Bool.{eqb-false}
use Rattle.daq_types.specs.declared.runs.RunState.TheVariants.{Stopped, Running}
use Rattle.daq_types.specs.declared.runs.Transition.TheVariants.{Start, Pause, StartAbort}
use Rattle.daq_types.specs.declared.runs.StartOutcome.{StartOutcome}
use Rattle.daq_types.specs.declared.runs.StartOutcome.TheVariants.{Completed, Refused}
use Rattle.daq_types.specs.declared.runs.Why.TheVariants.{NotReady}
use Rattle.event.specs.Events.{record_limit}
use Rattle.transitions.specs.declared.replies.BeginRefusal.TheVariants.{WrongState}
use Rattle.transitions.specs.declared.replies.Polled.TheVariants.{Idle}
use Rattle.transitions.specs.declared.replies.Progress.TheVariants.{Done}
use Rattle.transitions.specs.declared.answers.ClientTally.{ClientTally}
use Rattle.transitions.specs.declared.entry.EngineEntry.TheVariants.{Begin, Poll, Check}
use Rattle.transitions.specs.Called.{called_list}
use Rattle.transitions.specs.Engines.{engine_opening}
use Rattle.transitions.specs.EngineHistories.{IsLegalEngine, IsSheet}
use Rattle.transitions.specs.declared.called.Called.{Called}
use Rattle.transitions.specs.CalledOrder.{IsCalledIn}
use Rattle.transitions.specs.EnginePoints.{is_among}
use Rattle.transitions.specs.TurnOrder.{IsClientReached, TurnsInOrder}
use Rattle.transitions.specs.EngineSamples.{is_none, sheet_with, turn_for, plain, with_dump, refused_by_second, out_of_order, before_the_answer, after_the_refusal, dump_given, both_answered, started, with_blank, blank_given, abort_answered, joins, dump_waits, called_off_by, stop_answered_no, yes_by, refused_in_group, before_the_group, one_refused, two_refused, refused_twice, one_turned}

bare : IsSheet is_none (sheet_with None)
bare = record { short = λ bytes e. absurd cc; blank = tt }

pub refused_is_legal : IsLegalEngine is_none engine_opening refused_by_second
unfolding called_list
refused_is_legal =
    (refl, refl, (refl, refl, ((refl, bare), refl, (tt, refl, (tt, refl, (tt, refl, (tt, refl, (tt, refl, (tt, refl, (tt, refl, (tt, refl, (refl, (refl, refl), tt))))))))))))

pub stop_is_legal : IsLegalEngine is_none engine_opening stop_answered_no
unfolding called_list
stop_is_legal =
    let given : IsSheet is_none (record { run = 1; time = 1000; quota = 0; dump = Some (7 ∷ []); blanks = 0 ∷ [] }) =
    record { short = λ bytes e. seven_short bytes e; blank = (refl, tt) } in
    (refl, refl, ((refl, given), refl, (tt, refl, (tt, refl, (refl, (refl, refl), ((refl, bare), refl, (tt, refl, (tt, refl, (refl, (refl, refl), tt)))))))))
  where
    seven_short : (bytes : List ℕ) → Some (7 ∷ []) ≡ Some bytes → length bytes ≤ record_limit
    seven_short bytes e =
        let same : 7 ∷ [] ≡ bytes = cc in
        omega (arith, sym (ap length same))

pub group_is_legal : IsLegalEngine is_none engine_opening refused_in_group
unfolding called_list
group_is_legal =
    (refl, refl, (refl, refl, (refl, refl, ((refl, bare), refl, (tt, refl, (tt, refl, (tt, refl, (tt, refl, (tt, refl, (tt, refl, (tt, refl, (tt, refl, (tt, refl, (tt, refl, (tt, refl, (tt, refl, (tt, refl, (tt, refl, (tt, refl, (refl, (refl, refl), tt))))))))))))))))))))

pub twice_is_legal : IsLegalEngine is_none engine_opening refused_twice
unfolding called_list
twice_is_legal =
    (refl, refl, (refl, refl, (refl, refl, ((refl, bare), refl, (tt, refl, (tt, refl, (tt, refl, (tt, refl, (tt, refl, (tt, refl, (tt, refl, (tt, refl, (tt, refl, (tt, refl, (refl, (refl, refl), tt)))))))))))))))

-- a group behind the first client is reached once this one has answered
all_behind : (q : ℕ) (one : Called) (cs : List Called) → AllByRecursion (λ (c : Called). q < c.sequence) cs → IsCalledIn one cs → q < one.sequence
all_behind q one [] all h = absurd h
all_behind q one (c ∷ cs) all (inl e) =
    let less = all.0 in
    let same : one.sequence ≡ c.sequence = ap (λ (x : Called). x.sequence) e in
    omega (arith, less, same)
all_behind q one (c ∷ cs) all (inr h) = all_behind q one cs all.1 h

first_answered : (a : Called) (cs : List Called) (answered : List ℕ) (client : ℕ) → AllByRecursion (λ (c : Called). a.sequence < c.sequence) cs → eqb a.client client ≡ false → IsClientReached (a ∷ cs) answered client → is_among a.client answered ≡ true
first_answered a cs answered client all ne reached = by reached.group.among
  where
    by : (reached.one ≡ a) ⊎ IsCalledIn reached.one cs → is_among a.client answered ≡ true
    by (inl e) = absurd (eqb-false a.client client ne (ap (λ (x : Called). x.client) (sym e) ∙ reached.is))
    by (inr h) = reached.group.front a (inl refl) (all_behind a.sequence reached.one cs all h)

abbrev called_as : (client sequence : ℕ) → Called
called_as client sequence = record { client = client; sequence = sequence }

first_client : List (ClientTally ℕ) → ℕ
first_client [] = 9
first_client (t ∷ ts) = t.client

pub never_out_of_order : TurnsInOrder (out_of_order ++ turn_for 1 Start ∷ []) → ⊥
unfolding called_list
never_out_of_order law =
    let right = law.right out_of_order [] 1 (turn_for 1 Start).1 refl in
    let answered : false ≡ true = first_answered (called_as 0 1) (called_as 1 2 ∷ []) [] 1 (omega arith, tt) refl right.reached in
    absurd cc

pub never_before_the_answer : TurnsInOrder (before_the_answer ++ turn_for 1 Start ∷ []) → ⊥
unfolding called_list
never_before_the_answer law =
    let right = law.right before_the_answer [] 1 (turn_for 1 Start).1 refl in
    let answered : false ≡ true = first_answered (called_as 0 1) (called_as 1 2 ∷ []) [] 1 (omega arith, tt) refl right.reached in
    absurd cc

pub never_after_the_refusal : TurnsInOrder (after_the_refusal ++ turn_for 1 Start ∷ []) → ⊥
never_after_the_refusal law =
    let right = law.right after_the_refusal [] 1 (turn_for 1 Start).1 refl in
    let same : Some StartAbort ≡ Some Start = right.turn_is in
    absurd cc

pub never_dump_twice : TurnsInOrder (dump_given ++ with_dump 1 ∷ []) → ⊥
never_dump_twice law =
    let right = law.right dump_given [] 1 (with_dump 1).1 refl in
    let same : ◌≡◌ {A = Option (List ℕ)} (Some (7 ∷ [])) None = right.dump_is in
    absurd cc

pub never_done_before_all : TurnsInOrder (before_the_answer ++ (0, Check (Done Completed) []) ∷ []) → ⊥
unfolding called_list
never_done_before_all law =
    let right = law.right before_the_answer [] 0 (Check (Done Completed) []) refl in
    let answered : false ≡ true = right.all (called_as 0 1) (inl refl) in
    absurd cc

pub never_tallies_out_of_order : TurnsInOrder (both_answered ++ (0, Check (Done Completed) (plain 1 ∷ plain 0 ∷ [])) ∷ []) → ⊥
unfolding first_client
never_tallies_out_of_order law =
    let right = law.right both_answered [] 0 (Check (Done Completed) (plain 1 ∷ plain 0 ∷ [])) refl in
    let same : 1 ≡ 0 = ap first_client right.tallies_is in
    absurd (omega (arith, same))

pub never_state_kept : TurnsInOrder (started ++ (1, Poll 0 (Idle Stopped)) ∷ []) → ⊥
unfolding called_list
never_state_kept law =
    let same = law.right started [] 1 (Poll 0 (Idle Stopped)) refl in
    absurd (cc same)

pub never_number_twice : TurnsInOrder (refused_by_second ++ (0, Begin Start (sheet_with None) (Ok 1)) ∷ []) → ⊥
never_number_twice law =
    let right = law.right refused_by_second [] 0 (Begin Start (sheet_with None) (Ok 1)) refl in
    let same : 1 ≡ 2 = right.number in
    absurd (omega (arith, same))

pub never_blank_twice : (blank : ℕ) → TurnsInOrder (blank_given blank ++ with_blank blank ∷ []) → ⊥
never_blank_twice blank law =
    let right = law.right (blank_given blank) [] 0 (with_blank blank).1 refl in
    let same : Some blank ≡ None = right.blank_is in
    absurd cc

pub never_completed : TurnsInOrder (abort_answered ++ (0, Check (Done Completed) (plain 0 ∷ plain 1 ∷ [])) ∷ []) → ⊥
never_completed law =
    let right = law.right abort_answered [] 0 (Check (Done Completed) (plain 0 ∷ plain 1 ∷ [])) refl in
    let same : Completed ≡ Refused 0 NotReady = right.outcome_is in
    absurd cc

pub never_numbered_twice : TurnsInOrder (joins 0 1 ∷ joins 0 2 ∷ []) → ⊥
never_numbered_twice law =
    let same : 0 ≡ 1 = law.right (joins 0 1 ∷ []) [] 0 (joins 0 2).1 refl in
    absurd (omega (arith, same))

pub never_call_off_turned : TurnsInOrder (after_the_refusal ++ turn_for 1 StartAbort ∷ []) → ⊥
unfolding called_list
never_call_off_turned law =
    let right = law.right after_the_refusal [] 1 (turn_for 1 StartAbort).1 refl in
    let answered : false ≡ true = first_answered (called_as 0 1) (called_as 1 2 ∷ []) [] 1 (omega arith, tt) refl right.reached in
    absurd cc

refuser_in : StartOutcome → ℕ
refuser_in Completed = 9
refuser_in (Refused client why) = client

pub never_other_named : TurnsInOrder (abort_answered ++ called_off_by 1 (plain 0 ∷ plain 1 ∷ []) ∷ []) → ⊥
unfolding refuser_in
never_other_named law =
    let right = law.right abort_answered [] 0 (called_off_by 1 (plain 0 ∷ plain 1 ∷ [])).1 refl in
    let same : 1 ≡ 0 = ap refuser_in right.outcome_is in
    absurd (omega (arith, same))

pub never_refusal_told : TurnsInOrder (abort_answered ++ called_off_by 0 (plain 0 ∷ plain 0 ∷ plain 1 ∷ []) ∷ []) → ⊥
never_refusal_told law =
    let right = law.right abort_answered [] 0 (called_off_by 0 (plain 0 ∷ plain 0 ∷ plain 1 ∷ [])).1 refl in
    let count : 3 ≡ 2 = ap length right.tallies_is in
    absurd (omega (arith, count))

pub never_dump_withheld : TurnsInOrder (dump_waits ++ turn_for 0 Start ∷ []) → ⊥
never_dump_withheld law =
    let right = law.right dump_waits [] 0 (turn_for 0 Start).1 refl in
    let same : ◌≡◌ {A = Option (List ℕ)} None (Some (7 ∷ [])) = right.dump_is in
    absurd cc

pub never_pause_stopped : TurnsInOrder ((0, Begin Pause (sheet_with None) (Ok 0)) ∷ []) → ⊥
never_pause_stopped law =
    let right = law.right [] [] 0 (Begin Pause (sheet_with None) (Ok 0)) refl in
    let same : false ≡ true = right.allowed in
    absurd cc

pub never_other_state : TurnsInOrder ((0, Begin Pause (sheet_with None) (Err (WrongState Running))) ∷ []) → ⊥
never_other_state law =
    let same : Running ≡ Stopped = law.right [] [] 0 (Begin Pause (sheet_with None) (Err (WrongState Running))) refl in
    absurd cc

-- Groups.

pub never_second_group : TurnsInOrder (before_the_group ++ turn_for 0 Start ∷ []) → ⊥
unfolding called_list
never_second_group law =
    let right = law.right before_the_group [] 0 (turn_for 0 Start).1 refl in
    let answered : false ≡ true = first_answered (called_as 2 200) (called_as 0 500 ∷ called_as 1 500 ∷ []) [] 0 (omega arith, (omega arith, tt)) refl right.reached in
    absurd cc

pub never_late_turn : TurnsInOrder (one_refused ++ turn_for 2 Start ∷ []) → ⊥
never_late_turn law =
    let right = law.right one_refused [] 2 (turn_for 2 Start).1 refl in
    let turned : false ≡ true = right.no_later refl in
    absurd cc

pub never_early_abort : TurnsInOrder (one_refused ++ turn_for 0 StartAbort ∷ []) → ⊥
never_early_abort law =
    let right = law.right one_refused [] 0 (turn_for 0 StartAbort).1 refl in
    let same : Some Start ≡ Some StartAbort = right.turn_is in
    absurd cc

pub never_second_named : TurnsInOrder (two_refused ++ called_off_by 1 (plain 0 ∷ plain 1 ∷ plain 2 ∷ []) ∷ []) → ⊥
unfolding refuser_in
never_second_named law =
    let right = law.right two_refused [] 0 (called_off_by 1 (plain 0 ∷ plain 1 ∷ plain 2 ∷ [])).1 refl in
    let same : 1 ≡ 0 = ap refuser_in right.outcome_is in
    absurd (omega (arith, same))

pub never_second_told : TurnsInOrder (two_refused ++ called_off_by 0 (plain 1 ∷ plain 0 ∷ plain 1 ∷ plain 2 ∷ []) ∷ []) → ⊥
never_second_told law =
    let right = law.right two_refused [] 0 (called_off_by 0 (plain 1 ∷ plain 0 ∷ plain 1 ∷ plain 2 ∷ [])).1 refl in
    let count : 4 ≡ 3 = ap length right.tallies_is in
    absurd (omega (arith, count))

pub never_answered_twice : TurnsInOrder (one_turned ++ yes_by 0 ∷ yes_by 0 ∷ []) → ⊥
never_answered_twice law =
    let right = law.right (one_turned ++ yes_by 0 ∷ []) [] 0 (yes_by 0).1 refl in
    let owes : true ≡ false = right.owes in
    absurd cc

pub never_unasked : TurnsInOrder (one_turned ++ yes_by 1 ∷ []) → ⊥
never_unasked law =
    let right = law.right one_turned [] 1 (yes_by 1).1 refl in
    let turned : false ≡ true = right.turned in
    absurd cc
