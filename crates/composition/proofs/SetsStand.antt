-- Where a front-end's calls on the database are the sets of its turns, the set of each turn stands among them.
use Rattle.std.specs.Prelude.{◌≡◌, ℕ, List, [], ◌∷◌, ◌++◌, map, refl}
use Rattle.std.proofs.Common.{ap, sym, ◌∙◌, subst, inl, inr, append_assoc, append-nil}
use Rattle.std.proofs.lemmas.List.{map-append}
use Rattle.buffer_core.specs.declared.entry.BufferEntry.{BufferEntry}
use Rattle.odb_tree.specs.declared.entry.DatabaseEntry.{DatabaseEntry}
use Rattle.odb_watch.specs.declared.entry.WatchEntry.{WatchEntry}
use Rattle.odb_watch.specs.declared.entry.WatchEntry.TheVariants.{Call}
use Rattle.odb_watch.specs.DatabasePorts.{row_calls}
use Rattle.odb_runinfo.specs.RunSets.{Assignment, AreSets, sent_set}
use Rattle.member_model.specs.Turns.{MemberTurn, HasAnswer}
use Rattle.member_model.specs.Moments.{HasMoment}
use Rattle.front_ends.specs.Spans.{moment_or_now, HasSpan}
use Rattle.composition.specs.SentSets.{sent_by_moment, numbers_at, numbers_set, AreSetsAlone, AreTurnSets, IsSetBehind, HasTurnSet}

-- Sets of some numbers, and then of others.

record SplitSets (xs ys : List Assignment) (sets : List DatabaseEntry) : Type 0 where
  first : List DatabaseEntry
  last : List DatabaseEntry
  whole : sets ≡ first ++ last
  are_first : AreSets xs first
  are_last : AreSets ys last

split_sets : (xs ys : List Assignment) (sets : List DatabaseEntry) → AreSets (xs ++ ys) sets → SplitSets xs ys sets
split_sets [] ys sets are = record { first = []; last = sets; whole = refl; are_first = tt; are_last = are }
split_sets (x ∷ xs) ys [] are = absurd are
split_sets (x ∷ xs) ys (e ∷ sets) are =
    let more : SplitSets xs ys sets = split_sets xs ys sets are.1 in
    record {
      first = e ∷ more.first;
      last = more.last;
      whole = ap (λ (l : List DatabaseEntry). e ∷ l) more.whole;
      are_first = (are.0, more.are_first);
      are_last = more.are_last;
    }

-- the calls begin with the sets of these numbers
record BeginsSets (name : List ℕ) (numbers : List ℕ) (calls : List WatchEntry) : Type 0 where
  sets : List DatabaseEntry
  rest : List WatchEntry
  whole : calls ≡ row_calls sets ++ rest
  are_sets : AreSets (map (sent_set name) numbers) sets

-- those of these and then of others: the calls behind the first begin with the others
begins_both : (name ns ms : List ℕ) (calls : List WatchEntry) → BeginsSets name (ns ++ ms) calls → (first : BeginsSets name ns calls) × BeginsSets name ms first.rest
begins_both name ns ms calls b =
    let are : AreSets (map (sent_set name) ns ++ map (sent_set name) ms) b.sets = subst (λ (l : List Assignment). AreSets l b.sets) (map-append (sent_set name) ns ms) b.are_sets in
    let cut : SplitSets (map (sent_set name) ns) (map (sent_set name) ms) b.sets = split_sets (map (sent_set name) ns) (map (sent_set name) ms) b.sets are in
    let rows : row_calls b.sets ≡ row_calls cut.first ++ row_calls cut.last =
    ap (λ (l : List DatabaseEntry). row_calls l) cut.whole ∙ map-append (λ (entry : DatabaseEntry). Call entry) cut.first cut.last in
    let both : calls ≡ row_calls cut.first ++ (row_calls cut.last ++ b.rest) =
    b.whole ∙ (ap (λ (l : List WatchEntry). l ++ b.rest) rows ∙ append_assoc (row_calls cut.first) (row_calls cut.last) b.rest) in (
      record { sets = cut.first; rest = row_calls cut.last ++ b.rest; whole = both; are_sets = cut.are_first },
      record { sets = cut.last; rest = b.rest; whole = refl; are_sets = cut.are_last },
    )

alone_begin : (name numbers : List ℕ) (calls : List WatchEntry) → AreSetsAlone name numbers calls → BeginsSets name numbers calls
alone_begin name numbers calls are = record { sets = are.sets; rest = []; whole = are.alone ∙ sym (append-nil (row_calls are.sets)); are_sets = are.are_sets }

set_behind : (name numbers : List ℕ) (n : ℕ) (calls before rest after : List WatchEntry) (sets : List DatabaseEntry) → calls ≡ before ++ rest → AreSetsAlone name numbers before → AreSets (sent_set name n ∷ []) sets
    → rest ≡ row_calls sets ++ after → IsSetBehind name numbers n calls
set_behind name numbers n calls before rest after [] whole are sets is = absurd sets
set_behind name numbers n calls before rest after (e ∷ f ∷ more) whole are sets is = absurd sets.1
set_behind name numbers n calls before rest after (e ∷ []) whole are sets is = record {
  before = before;
  entry = e;
  after = after;
  whole = whole ∙ ap (λ (l : List WatchEntry). before ++ l) is;
  set = sets.0;
  sets_before = are;
}

-- The set of a turn.

here_set : (name : List ℕ) (own : List BufferEntry) (turns : List MemberTurn) (moments : List ℕ) (calls : List WatchEntry) (numbers : List ℕ) (n : ℕ) → numbers ≡ n ∷ []
    → (both : (first : BeginsSets name (numbers_set own turns moments) calls) × BeginsSets name numbers first.rest) → IsSetBehind name (numbers_set own turns moments) n calls
here_set name own turns moments calls numbers n one both =
    let first : BeginsSets name (numbers_set own turns moments) calls = both.0 in
    let last : BeginsSets name (n ∷ []) first.rest = subst (λ (l : List ℕ). BeginsSets name l first.rest) one both.1 in
    set_behind name (numbers_set own turns moments) n calls (row_calls first.sets) first.rest last.rest last.sets first.whole (record { sets = first.sets; are_sets = first.are_sets; alone = refl }) last.are_sets last.whole

set_stands : (name : List ℕ) (own : List BufferEntry) (turns : List MemberTurn) (moments : List ℕ) (calls : List WatchEntry) (t : MemberTurn) (moment n : ℕ) → HasMoment turns moments t moment
    → numbers_at t.transition (sent_by_moment own t.order.start moment) ≡ n ∷ [] → BeginsSets name (numbers_set own turns moments) calls → HasTurnSet name own turns moments calls t moment n
set_stands name own [] moments calls t moment n has at begins = absurd has
set_stands name own (u ∷ turns) [] calls t moment n has at begins = absurd has
set_stands name own (u ∷ turns) (m ∷ moments) calls t moment n has at begins =
    let both = begins_both name (numbers_set own turns moments) (numbers_at u.transition (sent_by_moment own u.order.start m)) calls begins in
    elim has as (λ w. HasTurnSet name own (u ∷ turns) (m ∷ moments) calls t moment n) [
      | inl here ↦
          let number : numbers_at u.transition (sent_by_moment own u.order.start m) ≡ n ∷ [] =
          ap (λ (v : MemberTurn). numbers_at v.transition (sent_by_moment own v.order.start m)) here.0
          ∙ (ap (λ (k : ℕ). numbers_at t.transition (sent_by_moment own t.order.start k)) here.1 ∙ at) in
          inl (here.0, here.1, here_set name own turns moments calls (numbers_at u.transition (sent_by_moment own u.order.start m)) n number both)
      | inr earlier ↦ inr (set_stands name own turns moments calls t moment n earlier at both.0)
    ]

-- where the turn was answered, its set is none that may still be to come
pub turn_set : (name : List ℕ) (own : List BufferEntry) (turns : List MemberTurn) (moments : List ℕ) (calls : List WatchEntry) (t : MemberTurn) (moment n : ℕ) → HasAnswer t.answer → HasMoment turns moments t moment
    → numbers_at t.transition (sent_by_moment own t.order.start moment) ≡ n ∷ [] → AreTurnSets name own turns moments calls → HasTurnSet name own turns moments calls t moment n
turn_set name own [] moments calls t moment n answered has at sets = absurd has
turn_set name own (u ∷ turns) [] calls t moment n answered has at sets = absurd has
turn_set name own (u ∷ turns) (m ∷ moments) calls t moment n answered has at sets = elim sets as (λ w. HasTurnSet name own (u ∷ turns) (m ∷ moments) calls t moment n) [
  | inl all ↦
      set_stands name own (u ∷ turns) (m ∷ moments) calls t moment n has at
      (alone_begin name (numbers_set own (u ∷ turns) (m ∷ moments)) calls all)
  | inr most ↦ elim has as (λ w. HasTurnSet name own (u ∷ turns) (m ∷ moments) calls t moment n) [
    | inl here ↦ absurd (subst HasAnswer (sym (ap (λ (v : MemberTurn). v.answer) here.0) ∙ most.0) answered)
    | inr earlier ↦
        inr (set_stands name own turns moments calls t moment n earlier at
        (alone_begin name (numbers_set own turns moments) calls most.1))
  ]
]

-- a turn with a span has its moment
pub moment_of_span : (turns : List MemberTurn) (moments : List ℕ) (calls : ℕ) (t : MemberTurn) (moment until : ℕ) → HasSpan turns moments calls t moment until → HasMoment turns moments t moment
moment_of_span [] moments calls t moment until span = absurd span
moment_of_span (u ∷ turns) [] calls t moment until span = absurd span
moment_of_span (u ∷ turns) (m ∷ moments) calls t moment until span = elim span as (λ w. HasMoment (u ∷ turns) (m ∷ moments) t moment) [
  | inl here ↦ inl (here.0, here.1)
  | inr earlier ↦ inr (moment_of_span turns moments (moment_or_now u.answer m calls) t moment until earlier)
]
