-- Entries of other callers behind those that a caller has seen: the events that it got stay the same, and of its clients no
-- fewer are taken back.
use Rattle.std.specs.Prelude.{◌≡◌, ℕ, zero, suc, ◌+◌, ◌<◌, ◌==◌, ◌⊎◌, Bool, true, false, not, if◌then◌else◌, List, [], ◌∷◌, ◌++◌, map, Contains, Some, Ok, refl, slice_get}
use Rattle.std.specs.List.{filter}
use Rattle.std.proofs.Common.{ap, sym, subst, ◌∙◌, arith, inl, inr, ⊎_elim, eq-eqb, append-nil, append_assoc}
use Rattle.std.proofs.lemmas.List.Elements.{Contains-append_left, Contains-append_right, Contains-append_cases, Contains-push_cases}
use Rattle.daq_types.specs.Callers.{entries_by}
use Rattle.buffer_core.specs.declared.entry.BufferEntry.{BufferEntry}
use Rattle.buffer_core.specs.declared.entry.BufferEntry.TheVariants.{Attach, Detach}
use Rattle.buffer_core.proofs.SlotLaws.{split}
use Rattle.buffer_core.specs.Window.{Window}
use Rattle.buffer_core.specs.Calls.{window_after}
use Rattle.buffer_core.specs.Histories.{replay}
use Rattle.buffer_core.specs.Ports.{GotEvent, IsGivenAt}
use Rattle.turn_lock.specs.History.{IsPartOf}
use Rattle.turn_lock.proofs.LockLaws.{rest_none}
use Rattle.buffer_core.specs.CallersView.{given_by, given_in, detaches, is_taken_back, taken_back_of, taken_back_in}

-- What the caller got.

given_foreign : (by : ℕ) (w : Window) (more : List (ℕ × BufferEntry)) → entries_by by more ≡ [] → given_in by w more ≡ []
given_foreign by w [] none = refl
given_foreign by w (x ∷ xs) none =
    split (x.0 == by) (λ o. map (λ (e : ℕ × BufferEntry). e.1) (if o then x ∷ filter (λ (e : ℕ × BufferEntry). e.0 == by) xs else filter (λ (e : ℕ × BufferEntry). e.0 == by) xs) ≡ []
    → (if o then given_by w x.1 else []) ++ given_in by (window_after w x.1) xs ≡ [])
    (λ h none'. absurd (cc (none')))
    (λ h none'. given_foreign by (window_after w x.1) xs none')
    none

given_in-append : (by : ℕ) (w : Window) (h more : List (ℕ × BufferEntry)) → given_in by w (h ++ more) ≡ given_in by w h ++ given_in by (replay w h) more
given_in-append by w [] more = refl
given_in-append by w (x ∷ xs) more =
    let first : List GotEvent = if x.0 == by then given_by w x.1 else [] in
    let w' : Window = window_after w x.1 in
    ap (λ (gs : List GotEvent). first ++ gs) (given_in-append by w' xs more) ∙ sym (append_assoc first (given_in by w' xs) (given_in by (replay w' xs) more))

pub given_stays : (by : ℕ) (w : Window) (h more : List (ℕ × BufferEntry)) → entries_by by more ≡ [] → given_in by w (h ++ more) ≡ given_in by w h
given_stays by w h more none =
    given_in-append by w h more
    ∙ (ap (λ (gs : List GotEvent). given_in by w h ++ gs) (given_foreign by (replay w h) more none) ∙ append-nil (given_in by w h))

-- so it is the same in the whole history, of which the caller has seen all its own entries
pub given_whole : (h seen : List (ℕ × BufferEntry)) (by : ℕ) (w : Window) → IsPartOf h by seen → given_in by w h ≡ given_in by w seen
given_whole h seen by w part =
    let rest : List (ℕ × BufferEntry) = part.begins.0 in
    let none : entries_by by rest ≡ [] = rest_none by seen rest (ap (entries_by by) part.begins.1 ∙ part.own) in
    ap (given_in by w) (sym part.begins.1) ∙ given_stays by w seen rest none

-- What is taken back stays so.

none_in : {X : Type 0} (x : X) → Contains [] x → ⊥
none_in x has = omega (arith, has.1)

taken_back_more : (by client : ℕ) (h more : List (ℕ × BufferEntry)) → is_taken_back by client h ≡ true → is_taken_back by client (h ++ more) ≡ true
taken_back_more by client [] more is = absurd (cc (is))
taken_back_more by client (x ∷ xs) more is =
    split (detaches x.1 client) (λ d. (if d then not (x.0 == by) else is_taken_back by client xs) ≡ true → (if d then not (x.0 == by) else is_taken_back by client (xs ++ more)) ≡ true)
    (λ h is'. is')
    (λ h is'. taken_back_more by client xs more is')
    is

taken_back_of_more : (by call k : ℕ) (entry : BufferEntry) (h more : List (ℕ × BufferEntry)) → Contains (taken_back_of by call entry h) k → Contains (taken_back_of by call entry (h ++ more)) k
taken_back_of_more by call k (Attach name (Ok client)) h more has =
    split (is_taken_back by client h) (λ b. is_taken_back by client h ≡ b → Contains (if b then call ∷ [] else []) k → Contains (if is_taken_back by client (h ++ more) then call ∷ [] else []) k)
    (λ e is has'. subst (λ (b : Bool). Contains (if b then call ∷ [] else []) k) (sym (taken_back_more by client h more is)) has')
    (λ e is has'. absurd (none_in k has'))
    refl has
taken_back_of_more by call k entry h more has = absurd (none_in k has)

pub taken_back_stays : (by call k : ℕ) (h more : List (ℕ × BufferEntry)) → Contains (taken_back_in by call h) k → Contains (taken_back_in by call (h ++ more)) k
taken_back_stays by call k [] more has = absurd (none_in k has)
taken_back_stays by call k (x ∷ xs) more has =
    split (x.0 == by) (λ o. Contains (if o then taken_back_of by call x.1 xs ++ taken_back_in by (suc call) xs else taken_back_in by call xs) k
    → Contains (if o then taken_back_of by call x.1 (xs ++ more) ++ taken_back_in by (suc call) (xs ++ more) else taken_back_in by call (xs ++ more)) k)
    (λ h has'. ⊎_elim
    (λ first. Contains-append_left (taken_back_of by call x.1 (xs ++ more)) (taken_back_in by (suc call) (xs ++ more)) k (taken_back_of_more by call k x.1 xs more first))
    (λ rest. Contains-append_right (taken_back_of by call x.1 (xs ++ more)) (taken_back_in by (suc call) (xs ++ more)) k (taken_back_stays by (suc call) k xs more rest))
    (Contains-append_cases (taken_back_of by call x.1 xs) (taken_back_in by (suc call) xs) k has'))
    (λ h has'. taken_back_stays by call k xs more has')
    has

-- And what is newly taken back is a client that the caller had.

foreign_takes_none : (by call : ℕ) (more : List (ℕ × BufferEntry)) → entries_by by more ≡ [] → taken_back_in by call more ≡ []
foreign_takes_none by call [] none = refl
foreign_takes_none by call (x ∷ xs) none =
    split (x.0 == by) (λ o. map (λ (e : ℕ × BufferEntry). e.1) (if o then x ∷ filter (λ (e : ℕ × BufferEntry). e.0 == by) xs else filter (λ (e : ℕ × BufferEntry). e.0 == by) xs) ≡ []
    → (if o then taken_back_of by call x.1 xs ++ taken_back_in by (suc call) xs else taken_back_in by call xs) ≡ [])
    (λ h none'. absurd (cc (none')))
    (λ h none'. foreign_takes_none by call xs none')
    none

-- none of these calls detached the client
abbrev KeepsClient : (client : ℕ) → List BufferEntry → Type 0
KeepsClient client own = (later : ℕ) → slice_get own later ≡ Some (Detach client (Ok tt)) → ⊥

keeps_cons : (client : ℕ) (x : BufferEntry) (own : List BufferEntry) → detaches x client ≡ false → KeepsClient client own → KeepsClient client (x ∷ own)
keeps_cons client x own kept rest zero e =
    let is : x ≡ Detach client (Ok tt) = cc (e) in
    let detached : detaches x client ≡ true = ap (λ (y : BufferEntry). detaches y client) is ∙ eq-eqb client client refl in
    absurd (cc (kept, detached))
keeps_cons client x own kept rest (suc later) e = rest later e

keeps_own : (by client : ℕ) (x : ℕ × BufferEntry) (xs : List (ℕ × BufferEntry)) → detaches x.1 client ≡ false → KeepsClient client (entries_by by xs) → KeepsClient client (entries_by by (x ∷ xs))
keeps_own by client x xs kept rest =
    split (x.0 == by) (λ o. KeepsClient client (map (λ (e : ℕ × BufferEntry). e.1) (if o then x ∷ filter (λ (e : ℕ × BufferEntry). e.0 == by) xs else filter (λ (e : ℕ × BufferEntry). e.0 == by) xs)))
    (λ h. keeps_cons client x.1 (entries_by by xs) kept rest)
    (λ h. rest)

not_detached : (by client : ℕ) (h more : List (ℕ × BufferEntry)) → is_taken_back by client h ≡ false → is_taken_back by client (h ++ more) ≡ true → KeepsClient client (entries_by by h)
not_detached by client [] more before after = λ later e. absurd (cc (e))
not_detached by client (x ∷ xs) more before after =
    split (detaches x.1 client) (λ d. detaches x.1 client ≡ d → (if d then not (x.0 == by) else is_taken_back by client xs) ≡ false → (if d then not (x.0 == by) else is_taken_back by client (xs ++ more)) ≡ true
    → KeepsClient client (entries_by by (x ∷ xs)))
    (λ h is before' after'. absurd (cc (before', after')))
    (λ h is before' after'. keeps_own by client x xs is (not_detached by client xs more before' after'))
    refl before after

-- the own call of this number, counted from that one, gave a client that the caller has kept
record IsKeptCall (own : List BufferEntry) (call k : ℕ) : Type 0 where
  client : ℕ
  index : ℕ
  number : k ≡ call + index
  given : IsGivenAt own index client

only_one : (call k : ℕ) → Contains (call ∷ []) k → k ≡ call
only_one call k has = ⊎_elim (λ none. absurd (none_in k none)) (λ e. sym e) (Contains-push_cases [] call k has)

gone_later : (name : List ℕ) (client : ℕ) (own : List BufferEntry) → KeepsClient client own
    → (later : ℕ) → 0 < later → slice_get (Attach name (Ok client) ∷ own) later ≡ Some (Detach client (Ok tt)) → ⊥
gone_later name client own kept zero behind e = absurd (omega (arith, behind))
gone_later name client own kept (suc later) behind e = kept later e

given_here : (name : List ℕ) (client : ℕ) (own : List BufferEntry) → KeepsClient client own → IsGivenAt (Attach name (Ok client) ∷ own) 0 client
given_here name client own kept = record { name = name; given = refl; stays = gone_later name client own kept }

stays_later : (x : BufferEntry) (own : List BufferEntry) (index client : ℕ) → IsGivenAt own index client
    → (later : ℕ) → suc index < later → slice_get (x ∷ own) later ≡ Some (Detach client (Ok tt)) → ⊥
stays_later x own index client given zero behind e = absurd (omega (arith, behind))
stays_later x own index client given (suc later) behind e = given.stays later (omega (arith, behind)) e

given_behind : (x : BufferEntry) (own : List BufferEntry) (index client : ℕ) → IsGivenAt own index client → IsGivenAt (x ∷ own) (suc index) client
given_behind x own index client given = record { name = given.name; given = given.given; stays = stays_later x own index client given }

newly_of : (by call k : ℕ) (x : BufferEntry) (h more : List (ℕ × BufferEntry)) → Contains (taken_back_of by call x (h ++ more)) k
    → Contains (taken_back_of by call x h) k ⊎ IsKeptCall (x ∷ entries_by by h) call k
newly_of by call k (Attach name (Ok client)) h more has =
    split (is_taken_back by client h) (λ b. is_taken_back by client h ≡ b → Contains (if b then call ∷ [] else []) k ⊎ IsKeptCall (Attach name (Ok client) ∷ entries_by by h) call k)
    (λ e is. inl (subst (λ (b : Bool). Contains (if b then call ∷ [] else []) k) (taken_back_more by client h more is) has))
    (λ e is. split (is_taken_back by client (h ++ more)) (λ b. is_taken_back by client (h ++ more) ≡ b → Contains (if b then call ∷ [] else []) k → Contains [] k ⊎ IsKeptCall (Attach name (Ok client) ∷ entries_by by h) call k)
    (λ e' now has'. inr (record {
      client = client;
      index = 0;
      number = omega (arith, only_one call k has');
      given = given_here name client (entries_by by h) (not_detached by client h more is now);
    }))
    (λ e' now has'. absurd (none_in k has'))
    refl has)
    refl
newly_of by call k x h more has = absurd (none_in k has)

kept_behind : (own : List BufferEntry) (x : BufferEntry) (call k : ℕ) → IsKeptCall own (suc call) k → IsKeptCall (x ∷ own) call k
kept_behind own x call k kept = record {
  client = kept.client;
  index = suc kept.index;
  number = let e = kept.number in omega arith;
  given = given_behind x own kept.index kept.client kept.given;
}

newly_in : (by call k : ℕ) (h more : List (ℕ × BufferEntry)) → entries_by by more ≡ [] → Contains (taken_back_in by call (h ++ more)) k
    → Contains (taken_back_in by call h) k ⊎ IsKeptCall (entries_by by h) call k
newly_in by call k [] more none has = absurd (none_in k (subst (λ (ns : List ℕ). Contains ns k) (foreign_takes_none by call more none) has))
newly_in by call k (x ∷ xs) more none has =
    split (x.0 == by) (λ o. Contains (if o then taken_back_of by call x.1 (xs ++ more) ++ taken_back_in by (suc call) (xs ++ more) else taken_back_in by call (xs ++ more)) k
    → Contains (if o then taken_back_of by call x.1 xs ++ taken_back_in by (suc call) xs else taken_back_in by call xs) k
    ⊎ IsKeptCall (map (λ (e : ℕ × BufferEntry). e.1) (if o then x ∷ filter (λ (e : ℕ × BufferEntry). e.0 == by) xs else filter (λ (e : ℕ × BufferEntry). e.0 == by) xs)) call k)
    (λ h has'. ⊎_elim
    (λ first. ⊎_elim
    (λ before. inl (Contains-append_left (taken_back_of by call x.1 xs) (taken_back_in by (suc call) xs) k before))
    (λ kept. inr kept)
    (newly_of by call k x.1 xs more first))
    (λ rest. ⊎_elim
    (λ before. inl (Contains-append_right (taken_back_of by call x.1 xs) (taken_back_in by (suc call) xs) k before))
    (λ kept. inr (kept_behind (entries_by by xs) x.1 call k kept))
    (newly_in by (suc call) k xs more none rest))
    (Contains-append_cases (taken_back_of by call x.1 (xs ++ more)) (taken_back_in by (suc call) (xs ++ more)) k has'))
    (λ h has'. newly_in by call k xs more none has')
    has

-- a call of which it is newly known that its client was taken back gave one that the caller has not detached
pub newly_taken : (by k : ℕ) (h more : List (ℕ × BufferEntry)) → entries_by by more ≡ [] → Contains (taken_back_in by 0 (h ++ more)) k
    → Contains (taken_back_in by 0 h) k ⊎ ((client : ℕ) × IsGivenAt (entries_by by h) k client)
newly_taken by k h more none has = ⊎_elim
    (λ before. inl before)
    (λ kept. inr (kept.client, subst (λ (n : ℕ). IsGivenAt (entries_by by h) n kept.client) (let e = kept.number in omega arith) kept.given))
    (newly_in by 0 k h more none has)
