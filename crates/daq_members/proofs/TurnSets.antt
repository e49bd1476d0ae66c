-- What a front-end set by its own turns is what a session asks of its sets.
use Rattle.std.specs.Prelude.{◌≡◌, ℕ, true, false, is_some, List, [], ◌∷◌, ◌++◌, map, Option, Some, None, refl, ◌⊎◌}
use Rattle.std.proofs.Common.{ap, sym, subst, ◌∙◌, inl, inr, append-nil}
use Rattle.std.proofs.lemmas.List.{map-append}
use Rattle.daq_types.specs.declared.runs.Transition.{Transition}
use Rattle.daq_types.specs.declared.runs.Transition.TheVariants.{Start, Stop, Pause, Resume, StartAbort}
use Rattle.buffer_core.specs.declared.entry.BufferEntry.{BufferEntry}
use Rattle.odb_tree.specs.declared.entry.DatabaseEntry.{DatabaseEntry}
use Rattle.odb_watch.specs.declared.entry.WatchEntry.{WatchEntry}
use Rattle.odb_watch.specs.declared.entry.WatchEntry.TheVariants.{Call}
use Rattle.odb_runinfo.specs.RunSets.{Assignment, IsSet, AreSets, sent_set}
use Rattle.member_model.specs.RunEngines.{Answer}
use Rattle.member_model.specs.Turns.{MemberTurn, HasAnswer, NoneOpen}
use Rattle.composition.specs.SentSets.{sent_by_moment, numbers_at, numbers_set, AreSetsAlone, AreTurnSets}
use Rattle.daq_members.specs.SentSets.{number_set_at, AddsNumber, AddsNumberIf, AreNumbersSet}

AreSets-push : (xs : List Assignment) (es : List DatabaseEntry) (x : Assignment) (e : DatabaseEntry) → AreSets xs es → IsSet x e → AreSets (xs ++ x ∷ []) (es ++ e ∷ [])
AreSets-push [] [] x e are is = (is, tt)
AreSets-push [] (f ∷ es) x e are is = absurd are
AreSets-push (y ∷ xs) [] x e are is = absurd are
AreSets-push (y ∷ xs) (f ∷ es) x e are is = (are.0, AreSets-push xs es x e are.1 is)

-- one set more
set_added : (name : List ℕ) (xs : List ℕ) (n : ℕ) (earlier calls : List WatchEntry) → AreSetsAlone name xs earlier → AddsNumber name n earlier calls → AreSetsAlone name (xs ++ n ∷ []) calls
set_added name xs n earlier calls are added = record {
  sets = are.sets ++ added.entry ∷ [];
  are_sets = subst (λ (l : List Assignment). AreSets l (are.sets ++ added.entry ∷ [])) (sym (map-append (sent_set name) xs (n ∷ [])))
      (AreSets-push (map (sent_set name) xs) are.sets (sent_set name n) added.entry are.are_sets added.sets);
  alone = added.whole ∙ (ap (λ (l : List WatchEntry). l ++ Call added.entry ∷ []) are.alone ∙ sym (map-append (λ (entry : DatabaseEntry). Call entry) are.sets (added.entry ∷ [])));
}

-- the sets of one turn more, at which so many events were sent: all that it has to set, where it has an answer
turn_added : (name : List ℕ) (xs : List ℕ) (transition : Transition) (sent : ℕ) (earlier calls : List WatchEntry) → AreSetsAlone name xs earlier → AddsNumberIf name (number_set_at transition true sent) earlier calls
    → AreSetsAlone name (xs ++ numbers_at transition sent) calls
turn_added name xs transition sent earlier calls are adds = by_kind transition adds
  where
    one : (n : ℕ) → AddsNumberIf name (Some n) earlier calls → AreSetsAlone name (xs ++ n ∷ []) calls
    one n added = set_added name xs n earlier calls are added

    none : calls ≡ earlier → AreSetsAlone name (xs ++ []) calls
    none same =
        subst (λ (l : List ℕ). AreSetsAlone name l calls) (sym (append-nil xs))
        (subst (λ (l : List WatchEntry). AreSetsAlone name xs l) (sym same) are)

    by_kind : (t : Transition) → AddsNumberIf name (number_set_at t true sent) earlier calls → AreSetsAlone name (xs ++ numbers_at t sent) calls
    by_kind Start added = one 0 added
    by_kind Stop added = one sent added
    by_kind Pause added = one sent added
    by_kind Resume same = none same
    by_kind StartAbort same = none same

-- where the latest turn, if there is one, was answered, all numbers of the turns are set
whole_sets : (name : List ℕ) (own : List BufferEntry) (turns : List MemberTurn) (moments : List ℕ) (calls : List WatchEntry) → NoneOpen turns → AreNumbersSet name own turns moments calls → AreSetsAlone name (numbers_set own turns moments) calls
whole_sets name own [] moments calls none told = subst (λ (l : List WatchEntry). AreSetsAlone name [] l) (sym told) (record { sets = []; are_sets = tt; alone = refl })
whole_sets name own (t ∷ ts) [] calls none told = absurd told
whole_sets name own (t ∷ ts) (m ∷ ms) calls none told =
    turn_added name (numbers_set own ts ms) t.transition (sent_by_moment own t.order.start m) told.1 calls
    (whole_sets name own ts ms told.1 told.0 told.2)
    (answered t.answer none told.3)
  where
    answered : (a : Option Answer) → HasAnswer a → AddsNumberIf name (number_set_at t.transition (is_some a) (sent_by_moment own t.order.start m)) told.1 calls
        → AddsNumberIf name (number_set_at t.transition true (sent_by_moment own t.order.start m)) told.1 calls
    answered None has adds = absurd has
    answered (Some answer) has adds = adds

pub turn_sets : (name : List ℕ) (own : List BufferEntry) (turns : List MemberTurn) (moments : List ℕ) (calls : List WatchEntry) → AreNumbersSet name own turns moments calls → AreTurnSets name own turns moments calls
turn_sets name own [] moments calls told = told
turn_sets name own (t ∷ ts) [] calls told = told
turn_sets name own (t ∷ ts) (m ∷ ms) calls told = by_answer t.answer refl told.3
  where
    before : AreSetsAlone name (numbers_set own ts ms) told.1
    before = whole_sets name own ts ms told.1 told.0 told.2

    still : (k : Transition) → AddsNumberIf name (number_set_at k false (sent_by_moment own t.order.start m)) told.1 calls
        → AreSetsAlone name (numbers_set own ts ms ++ numbers_at k (sent_by_moment own t.order.start m)) calls ⊎ AreSetsAlone name (numbers_set own ts ms) calls
    still Start adds = inl (turn_added name (numbers_set own ts ms) Start (sent_by_moment own t.order.start m) told.1 calls before adds)
    still Stop same = inr (subst (λ (l : List WatchEntry). AreSetsAlone name (numbers_set own ts ms) l) (sym same) before)
    still Pause adds = inl (turn_added name (numbers_set own ts ms) Pause (sent_by_moment own t.order.start m) told.1 calls before adds)
    still Resume same = inl (turn_added name (numbers_set own ts ms) Resume (sent_by_moment own t.order.start m) told.1 calls before same)
    still StartAbort same = inl (turn_added name (numbers_set own ts ms) StartAbort (sent_by_moment own t.order.start m) told.1 calls before same)

    by_answer : (a : Option Answer) → t.answer ≡ a → AddsNumberIf name (number_set_at t.transition (is_some a) (sent_by_moment own t.order.start m)) told.1 calls
        → AreTurnSets name own (t ∷ ts) (m ∷ ms) calls
    by_answer None is adds = elim (still t.transition adds) as (λ w. AreTurnSets name own (t ∷ ts) (m ∷ ms) calls) [
      | inl all ↦ inl all
      | inr earlier ↦ inr (is, earlier)
    ]
    by_answer (Some answer) is adds = inl (turn_added name (numbers_set own ts ms) t.transition (sent_by_moment own t.order.start m) told.1 calls before adds)
