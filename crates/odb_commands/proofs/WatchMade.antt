-- Calls that a command for watches made, and where memory cut them short.
use Rattle.std.proofs.Common.{◌≡◌, ◌≢◌, ℕ, zero, suc, ◌+◌, ◌<◌, List, [], ◌∷◌, ◌++◌, length, map, take, drop, get_or, Option, None, Result, Ok, Err, refl, ap, sym, subst, ◌∙◌, inl, inr, arith}
use Rattle.std.specs.Prelude.{IsOk, IsTrue}
use Rattle.std.specs.Result.{IsErr}
use Rattle.std.proofs.lemmas.Bool.{false≢true}
use Rattle.daq_types.specs.declared.memory.NoMemory.{NoMemory}
use Rattle.odb_value.specs.declared.path_refusals.PathRefusal.{PathRefusal}
use Rattle.odb_tree.specs.declared.notes.Note.{Note}
use Rattle.odb_tree.specs.declared.refusals.OdbRefusal.{OdbRefusal}
use Rattle.odb_tree.specs.declared.refusals.OdbRefusal.TheVariants as odb
use Rattle.odb_tree.specs.declared.entry.DatabaseEntry.TheVariants.{Find, PathOf}
use Rattle.odb_watch.specs.declared.notes.NoWatch.{NoWatch as no_watch}
use Rattle.odb_watch.specs.declared.notes.WatchRefusal.{WatchRefusal}
use Rattle.odb_watch.specs.declared.notes.WatchRefusal.TheVariants as watch
use Rattle.odb_watch.specs.declared.entry.WatchEntry.{WatchEntry}
use Rattle.odb_watch.specs.declared.entry.WatchEntry.TheVariants as call
use Rattle.odb_watch.specs.Steps.{moved_out}
use Rattle.odb_watch.specs.DatabasePorts.{DatabaseAccess, IsSamePort, AddsEntry, AddsEntries, IsSettled}
use Rattle.odb_commands.specs.declared.watch_replies.ToldNote.{ToldNote}
use Rattle.odb_commands.specs.declared.watch_replies.WatchCommandRefusal.TheVariants.{Path, Database, NoWatch}
use Rattle.odb_commands.specs.declared.watch_replies.WatchReply.TheVariants.{Told}
use Rattle.odb_commands.specs.declared.watch_replies.WatchAnswer.{WatchAnswer}
use Rattle.odb_commands.specs.WatchAnswers.{said, refused_for, watching_or, ended_or, note_told, path_asked}
use Rattle.odb_commands.specs.WatchCalls.{OnPath, IsWatchSettled, WatchesRow, WatchesFound, WatchesPath, TellsNotes, TellsTaken, TakesNotes, EndsWatch, AnswersWatch, BreaksOffCalls, CutsWatch, EndsWatchCommand, watch_reply_takes_memory, without_memory}

-- there is something that the command can do
abbrev pub Some_does : (List WatchEntry → WatchAnswer → Type 0) → Type 0
Some_does D = (calls : List WatchEntry) × (answer : WatchAnswer) × D calls answer

-- so there is, and without any call only where the reply takes memory
abbrev pub Some_cut : (List WatchEntry → WatchAnswer → Type 0) → Type 0
Some_cut D = (some : Some_does D) × ([] ≡ some.0 → IsTrue (watch_reply_takes_memory some.1.reply))

-- memory ended before any call
pub not_begun : (a : DatabaseAccess) (D : List WatchEntry → WatchAnswer → Type 0) → Some_cut D → CutsWatch a a D
not_begun a D some = record { calls = some.0.0; answer = some.0.1; does = some.0.2; made = []; short = tt; rest = some.1; adds = refl }

-- it ended at the first call
pub cut_at_first : (a b : DatabaseAccess) (D : List WatchEntry → WatchAnswer → Type 0) (entry wanted : WatchEntry) (answer : WatchAnswer) → D (wanted ∷ []) answer → entry ≡ without_memory wanted
    → entry ∷ [] ≢ wanted ∷ [] → AddsEntry a b entry → CutsWatch a b D
cut_at_first a b D entry wanted answer does is other called =
    record { calls = wanted ∷ []; answer = answer; does = does; made = entry ∷ []; short = inr (is, refl); rest = λ same. absurd (other same); adds = (b, called, refl) }

abbrev behind_first : List WatchEntry → List WatchEntry
behind_first [] = []
behind_first (e ∷ es) = es

-- what a command came to where memory ended
pub ends_cut : (a b : DatabaseAccess) (D : List WatchEntry → WatchAnswer → Type 0) (result : Result WatchAnswer NoMemory) → IsErr result → CutsWatch a b D → EndsWatchCommand a b D result
ends_cut a b D (Ok answer) wanting cut = absurd (false≢true wanting)
ends_cut a b D (Err why) wanting cut = cut

-- what does one thing does another that follows from it
pub ends_so : (a b : DatabaseAccess) (D Then : List WatchEntry → WatchAnswer → Type 0) (result : Result WatchAnswer NoMemory) → ((calls : List WatchEntry) (answer : WatchAnswer) → D calls answer → Then calls answer)
    → EndsWatchCommand a b D result → EndsWatchCommand a b Then result
ends_so a b D Then (Ok answer) so ends = record { calls = ends.calls; made = ends.made; does = so ends.calls answer ends.does }
ends_so a b D Then (Err why) so ends = record { calls = ends.calls; answer = ends.answer; does = so ends.calls ends.answer ends.does; made = ends.made; short = ends.short; rest = ends.rest; adds = ends.adds }

-- a call, and behind it the rest: what that came to, the command came to
pub first_then : (a b c : DatabaseAccess) (Rest D : List WatchEntry → WatchAnswer → Type 0) (entry : WatchEntry) (result : Result WatchAnswer NoMemory) → AddsEntry a b entry
    → ((calls : List WatchEntry) (answer : WatchAnswer) → Rest calls answer → D (entry ∷ calls) answer) → EndsWatchCommand b c Rest result → EndsWatchCommand a c D result
first_then a b c Rest D entry (Ok answer) called whole ends = record { calls = entry ∷ ends.calls; made = (b, called, ends.made); does = whole ends.calls answer ends.does }
first_then a b c Rest D entry (Err why) called whole ends = record {
  calls = entry ∷ ends.calls;
  answer = ends.answer;
  does = whole ends.calls ends.answer ends.does;
  made = entry ∷ ends.made;
  short = inl (refl, ends.short);
  rest = λ same. ends.rest (ap behind_first same);
  adds = (b, called, ends.adds);
}

-- the port stays, by what its calls tell
pub port_stays : ((a b : DatabaseAccess) (entries : List WatchEntry) → AddsEntries a b entries → IsSamePort a b) → (a b : DatabaseAccess) (D : List WatchEntry → WatchAnswer → Type 0) (result : Result WatchAnswer NoMemory)
    → EndsWatchCommand a b D result → IsSamePort a b
port_stays law a b D (Ok answer) ends = law a b ends.calls ends.made
port_stays law a b D (Err why) ends = law a b ends.made ends.adds

-- `watch`.

pub no_slot : watch.NoWatchSlot ≢ watch.NoMemory
no_slot e = cc

pub no_key : odb.NoKey ≢ odb.NoMemory
no_key e = cc

pub row_watched : (a b : DatabaseAccess) (row : ℕ) (given got : Result ℕ WatchRefusal) (answer : WatchAnswer) → AddsEntry a b (call.Watch row given) → got ≡ given → IsWatchSettled got → answer ≡ watching_or got
    → AnswersWatch a b (WatchesRow row) answer
row_watched a b row given got answer called same settled is = record {
  calls = call.Watch row got ∷ [];
  made = (b, subst (λ (r : Result ℕ WatchRefusal). AddsEntry a b (call.Watch row r)) (sym same) called, refl);
  does = (got, refl, settled, is);
}

pub row_cut : (a b : DatabaseAccess) (row : ℕ) (got : Result ℕ WatchRefusal) → AddsEntry a b (call.Watch row got) → got ≡ Err watch.NoMemory → CutsWatch a b (WatchesRow row)
row_cut a b row got called wanting =
    cut_at_first a b (WatchesRow row) (call.Watch row got) (call.Watch row (Err watch.NoWatchSlot)) (watching_or (Err watch.NoWatchSlot)) (Err watch.NoWatchSlot, refl, no_slot, refl)
    (ap (λ (r : Result ℕ WatchRefusal). call.Watch row r) wanting) (λ same. cc) called

pub path_watched : (a b c : DatabaseAccess) (p : List (List ℕ)) (given found : Result ℕ OdbRefusal) (result : Result WatchAnswer NoMemory) → AddsEntry a b (call.Call (Find p given)) → found ≡ given → IsSettled found
    → EndsWatchCommand b c (WatchesFound found) result → EndsWatchCommand a c (WatchesPath p) result
path_watched a b c p given found result called same settled rest =
    first_then a b c (WatchesFound found) (WatchesPath p) (call.Call (Find p found)) result (subst (λ (r : Result ℕ OdbRefusal). AddsEntry a b (call.Call (Find p r))) (sym same) called)
    (λ calls answer does. (found, calls, refl, settled, does)) rest

pub find_cut : (a b : DatabaseAccess) (p : List (List ℕ)) (got : Result ℕ OdbRefusal) → AddsEntry a b (call.Call (Find p got)) → got ≡ Err odb.NoMemory → CutsWatch a b (WatchesPath p)
find_cut a b p got called wanting =
    cut_at_first a b (WatchesPath p) (call.Call (Find p got)) (call.Call (Find p (Err odb.NoKey))) (refused_for (Database odb.NoKey)) (Err odb.NoKey, [], refl, no_key, (refl, refl))
    (ap (λ (r : Result ℕ OdbRefusal). call.Call (Find p r)) wanting) (λ same. cc) called

abbrev pub some_watch : (p : List (List ℕ)) → Some_does (WatchesPath p)
some_watch p = (call.Call (Find p (Err odb.NoKey)) ∷ [], refused_for (Database odb.NoKey), (Err odb.NoKey, [], refl, no_key, (refl, refl)))

abbrev pub some_on_path : (read : Result (List (List ℕ)) PathRefusal) → Some_does (OnPath read WatchesPath)
some_on_path (Err why) = ([], refused_for (Path why), (refl, refl))
some_on_path (Ok p) = some_watch p

-- a text that is no path was told so
pub cut_on_path : (read : Result (List (List ℕ)) PathRefusal) → IsOk read → Some_cut (OnPath read WatchesPath)
cut_on_path (Err why) path = absurd (false≢true path)
cut_on_path (Ok p) path = (some_watch p, λ h. absurd (cc))

-- `notes`.

abbrev pub some_notes : (w : ℕ) → Some_does (TakesNotes w)
some_notes w = (call.Notes w (Err (record {})) ∷ [], refused_for NoWatch, (Err (record {}), [], refl, (refl, refl)))

pub cut_notes : (w : ℕ) → Some_cut (TakesNotes w)
cut_notes w = (some_notes w, λ h. absurd (cc))

-- the notes that a watch gave are told as they stand in a slice
told_as : (w : ℕ) (kept slice : List Note) (taken : Result ℕ no_watch) (a b : DatabaseAccess) → slice ≡ kept → AddsEntry a b (call.Notes w (moved_out kept taken)) → AddsEntry a b (call.Notes w (moved_out slice taken))
told_as w kept slice taken a b same called = subst (λ (n : List Note). AddsEntry a b (call.Notes w (moved_out n taken))) (sym same) called

pub notes_taken : (a b c : DatabaseAccess) (w : ℕ) (kept slice : List Note) (taken : Result ℕ no_watch) (result : Result WatchAnswer NoMemory) → AddsEntry a b (call.Notes w (moved_out kept taken)) → slice ≡ kept
    → EndsWatchCommand b c (TellsTaken (moved_out slice taken)) result → EndsWatchCommand a c (TakesNotes w) result
notes_taken a b c w kept slice taken result called same rest =
    first_then a b c (TellsTaken (moved_out slice taken)) (TakesNotes w) (call.Notes w (moved_out slice taken)) result (told_as w kept slice taken a b same called)
    (λ calls answer does. (moved_out slice taken, calls, refl, does)) rest

-- The paths of the notes are asked for, one after the other.

adds_more : (a b c : DatabaseAccess) (calls : List WatchEntry) (entry : WatchEntry) → AddsEntries a b calls → AddsEntry b c entry → AddsEntries a c (calls ++ entry ∷ [])
adds_more a b c [] entry before more = (c, subst (λ (x : DatabaseAccess). AddsEntry x c entry) before more, refl)
adds_more a b c (e ∷ es) entry before more = (before.0, before.1, adds_more before.0 b c es entry before.2 more)

-- so many of the notes have their path
pub record IsTelling (a b : DatabaseAccess) (notes : List Note) (told : List ToldNote) (i : ℕ) : Type 0 where
  pub are : map note_told told ≡ take i notes
  pub adds : AddsEntries a b (map path_asked told)

map_more : {X Y : Type 0} (f : X → Y) (xs : List X) (x : X) → map f (xs ++ x ∷ []) ≡ map f xs ++ f x ∷ []
map_more f [] x = refl
map_more f (y ∷ ys) x = ap (λ l. f y ∷ l) (map_more f ys x)

take_one_more : (notes : List Note) (i : ℕ) (d : Note) → i < length notes → take (suc i) notes ≡ take i notes ++ get_or notes i d ∷ []
take_one_more [] i d h = absurd (omega (arith, h))
take_one_more (n ∷ ns) zero d h = refl
take_one_more (n ∷ ns) (suc i) d h = ap (λ (l : List Note). n ∷ l) (take_one_more ns i d (omega (arith, h)))

pub telling_more : (a b c : DatabaseAccess) (notes : List Note) (told after : List ToldNote) (i : ℕ) (d : Note) (path : Option (List (List ℕ))) (got : Result (Option (List (List ℕ))) NoMemory) → IsTelling a b notes told i → i < length notes
    → AddsEntry b c (call.Call (PathOf (get_or notes i d).row got)) → got ≡ Ok path → after ≡ told ++ record { note = get_or notes i d; path = path } ∷ [] → IsTelling a c notes after (i + 1)
telling_more a b c notes told after i d path got before within called is more =
    (let note : Note = get_or notes i d in
    let new : ToldNote = record { note = note; path = path } in
    let asked : AddsEntry b c (path_asked new) = subst (λ (r : Result (Option (List (List ℕ))) NoMemory). AddsEntry b c (call.Call (PathOf note.row r))) is called in
    subst (λ (t : List ToldNote). IsTelling a c notes t (i + 1)) (sym more) (record {
      are = map_more note_told told new ∙ (ap (λ (l : List Note). l ++ note ∷ []) before.are ∙ (sym (take_one_more notes i d within) ∙ ap (λ (n : ℕ). take n notes) {x = suc i} {y = i + 1} (omega arith)));
      adds = subst (AddsEntries a c) (sym (map_more path_asked told new)) (adds_more a b c (map path_asked told) (path_asked new) before.adds asked);
    }))

-- Memory ended while they were asked for.

untold : Note → ToldNote
untold note = record { note = note; path = None }

breaks_behind : (front calls made : List WatchEntry) → BreaksOffCalls calls made → BreaksOffCalls (front ++ calls) (front ++ made)
breaks_behind [] calls made short = short
breaks_behind (e ∷ front) calls made short = inl (refl, breaks_behind front calls made short)

map_both : {X Y : Type 0} (f : X → Y) (xs ys : List X) → map f (xs ++ ys) ≡ map f xs ++ map f ys
map_both f [] ys = refl
map_both f (x ∷ xs) ys = ap (λ l. f x ∷ l) (map_both f xs ys)

notes_untold : (notes : List Note) → map note_told (map untold notes) ≡ notes
unfolding untold
notes_untold [] = refl
notes_untold (n ∷ ns) = ap (λ (l : List Note). n ∷ l) (notes_untold ns)

take_and_rest : (notes : List Note) (i : ℕ) (d : Note) → i < length notes → take i notes ++ get_or notes i d ∷ drop (suc i) notes ≡ notes
take_and_rest [] i d h = absurd (omega (arith, h))
take_and_rest (n ∷ ns) zero d h = refl
take_and_rest (n ∷ ns) (suc i) d h = ap (λ (l : List Note). n ∷ l) (take_and_rest ns i d (omega (arith, h)))

behind_front : (front xs ys : List WatchEntry) → front ++ xs ≡ front ++ ys → xs ≡ ys
behind_front [] xs ys h = h
behind_front (e ∷ front) xs ys h = behind_front front xs ys (ap behind_first h)

pub telling_cut : (a b c : DatabaseAccess) (notes : List Note) (lost : ℕ) (told : List ToldNote) (i : ℕ) (d : Note) (got : Result (Option (List (List ℕ))) NoMemory) (memory : NoMemory) → IsTelling a b notes told i → i < length notes
    → AddsEntry b c (call.Call (PathOf (get_or notes i d).row got)) → got ≡ Err memory → CutsWatch a c (TellsNotes notes lost)
unfolding untold
telling_cut a b c notes lost told i d got memory now within called wanting =
    let note : Note = get_or notes i d in
    let rest : List ToldNote = untold note ∷ map untold (drop (suc i) notes) in
    let failed : WatchEntry = call.Call (PathOf note.row got) in
    let whole : map note_told (told ++ rest) ≡ notes =
    map_both note_told told rest
    ∙ (ap (λ (l : List Note). l ++ note ∷ map note_told (map untold (drop (suc i) notes))) now.are
    ∙ (ap (λ (l : List Note). take i notes ++ note ∷ l) (notes_untold (drop (suc i) notes)) ∙ take_and_rest notes i d within)) in
    let first : BreaksOffCalls (map path_asked rest) (failed ∷ []) = inr (ap (λ (r : Result (Option (List (List ℕ))) NoMemory). call.Call (PathOf note.row r)) wanting, refl) in
    record {
      calls = map path_asked (told ++ rest);
      answer = said (Told (told ++ rest) lost);
      does = (told ++ rest, (whole, refl), refl);
      made = map path_asked told ++ failed ∷ [];
      short = subst (λ (l : List WatchEntry). BreaksOffCalls l (map path_asked told ++ failed ∷ [])) (sym (map_both path_asked told rest)) (breaks_behind (map path_asked told) (map path_asked rest) (failed ∷ []) first);
      rest = λ same. (let other : failed ∷ [] ≡ map path_asked rest = behind_front (map path_asked told) (failed ∷ []) (map path_asked rest) (same ∙ map_both path_asked told rest) in absurd (cc));
      adds = adds_more a b c (map path_asked told) failed now.adds called;
    }

-- `unwatch`.

pub watch_ended : (a b : DatabaseAccess) (w : ℕ) (got : Result (Unit {0}) no_watch) (answer : WatchAnswer) → AddsEntry a b (call.Unwatch w got) → answer ≡ ended_or got → AnswersWatch a b (EndsWatch w) answer
watch_ended a b w got answer called is = record { calls = call.Unwatch w got ∷ []; made = (b, called, refl); does = (got, refl, is) }

abbrev pub some_unwatch : (w : ℕ) → Some_does (EndsWatch w)
some_unwatch w = (call.Unwatch w (Err (record {})) ∷ [], refused_for NoWatch, (Err (record {}), refl, refl))
