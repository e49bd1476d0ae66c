-- A number that is given is free, so each client that had it was detached, by this caller or by another.
use Rattle.std.specs.Prelude.{◌≡◌, ℕ, zero, suc, ◌+◌, ◌<◌, ◌==◌, Bool, true, false, not, if◌then◌else◌, IsTrue, is_some, is_none, List, [], ◌∷◌, ◌++◌, length, map, Contains, Option, Some, None, Result, Ok, Err, IfOk, refl, slice_get, slice_set}
use Rattle.std.specs.Option.{option_map, ok_or}
use Rattle.std.specs.List.{filter}
use Rattle.std.proofs.Common.{ap, sym, subst, ◌∙◌, arith, eq-eqb, append-nil, zero-add}
use Rattle.std.proofs.lemmas.Bool.{eqb-true, eqb-false}
use Rattle.std.proofs.lemmas.List.Elements.{Contains-append_left, Contains-append_right}
use Rattle.std.proofs.lemmas.List.Quantifiers.{position-Some}
use Rattle.daq_types.specs.Callers.{entries_by}
use Rattle.buffer_core.specs.declared.client.Client.{Client}
use Rattle.buffer_core.specs.declared.replies.NoSlot.{NoSlot}
use Rattle.buffer_core.specs.declared.replies.Received.TheVariants.{Got, Empty, NoClient as NoReader, SmallBuf}
use Rattle.buffer_core.specs.declared.entry.BufferEntry.{BufferEntry}
use Rattle.buffer_core.specs.declared.entry.BufferEntry.TheVariants.{Attach, Detach, Request, Cancel, Send, SendInRun, Receive, Begin, Pause, Resume, End, Level, Accepted}
use Rattle.buffer_core.specs.Slots.{slot_at, free_slot, change_slot, change_all}
use Rattle.buffer_core.proofs.SlotLaws.{split, slot_set_same, slot_change_all}
use Rattle.buffer_core.specs.Window.{Window, IsWindow, accepted_of}
use Rattle.buffer_core.specs.Calls.{IsReply, window_after, no_slot, joined, with_request, going_on, pushed, gone_of}
use Rattle.buffer_core.specs.Histories.{IsLegal, replay}
use Rattle.buffer_core.specs.Ports.{IsGivenAt}
use Rattle.buffer_core.specs.CallersView.{detaches, is_taken_back, taken_back_of, taken_back_in}
use Rattle.buffer_core.proofs.GotLaws.{set_either}

-- the client of this number lives
abbrev pub LivesIn : List (Option Client) → ℕ → Type 0
LivesIn clients n = IsTrue (is_some (slot_at clients n))

mapped_lives : (f : Client → Client) (o : Option Client) → IsTrue (is_some o) → IsTrue (is_some (option_map f o))
mapped_lives f None lives = lives
mapped_lives f (Some c) lives = refl

set_lives : (clients : List (Option Client)) (m n : ℕ) (o : Option Client) → (n ≡ m → IsTrue (is_some o)) → LivesIn clients n → LivesIn (slice_set clients m o) n
set_lives clients m n o here lives = set_either (λ (x : Option Client). IsTrue (is_some x)) clients m n o here lives

change_lives : (f : Client → Client) (clients : List (Option Client)) (m n : ℕ) → LivesIn clients n → LivesIn (change_slot f clients m) n
change_lives f clients m n lives =
    set_lives clients m n (option_map f (slot_at clients m))
    (λ e. mapped_lives f (slot_at clients m) (subst (λ (k : ℕ). LivesIn clients k) e lives)) lives

change_all_lives : (f : Client → Client) (clients : List (Option Client)) (n : ℕ) → LivesIn clients n → LivesIn (change_all f clients) n
change_all_lives f clients n lives =
    subst (λ (o : Option Client). IsTrue (is_some o)) (sym (slot_change_all f clients n)) (mapped_lives f (slot_at clients n) lives)

-- a client lives on, unless the call detaches it
lives_on : (w : Window) (entry : BufferEntry) (n : ℕ) → detaches entry n ≡ false → LivesIn w.clients n → LivesIn (window_after w entry).clients n
lives_on w (Attach name (Ok m)) n kept lives = set_lives w.clients m n (Some (joined name (accepted_of w))) (λ e. refl) lives
lives_on w (Attach name (Err r)) n kept lives = lives
lives_on w (Detach m (Ok u)) n kept lives = set_lives w.clients m n None (λ e. absurd (eqb-false m n kept (sym e))) lives
lives_on w (Detach m (Err r)) n kept lives = lives
lives_on w (Request m id mask kind (Ok k)) n kept lives =
    change_lives (with_request k (Some (record { id = id; mask = mask; kind = kind; since = accepted_of w }))) w.clients m n lives
lives_on w (Request m id mask kind (Err r)) n kept lives = lives
lives_on w (Cancel m request (Ok u)) n kept lives = change_lives (with_request request None) w.clients m n lives
lives_on w (Cancel m request (Err r)) n kept lives = lives
lives_on w (Send stated e (Ok k)) n kept lives = change_all_lives (pushed (w.first + gone_of w e)) w.clients n lives
lives_on w (Send stated e (Err r)) n kept lives = lives
lives_on w (SendInRun start stated e (Ok k)) n kept lives = change_all_lives (pushed (w.first + gone_of w e)) w.clients n lives
lives_on w (SendInRun start stated e (Err r)) n kept lives = lives
lives_on w (Receive m room (Got place start)) n kept lives = change_lives (going_on (place + 1)) w.clients m n lives
lives_on w (Receive m room (Empty gate last)) n kept lives = change_lives (going_on (accepted_of w)) w.clients m n lives
lives_on w (Receive m room NoReader) n kept lives = lives
lives_on w (Receive m room (SmallBuf need)) n kept lives = lives
lives_on w (Begin start (Ok k)) n kept lives = lives
lives_on w (Begin start (Err r)) n kept lives = lives
lives_on w (Pause start (Ok k)) n kept lives = lives
lives_on w (Pause start (Err r)) n kept lives = lives
lives_on w (Resume start (Ok k)) n kept lives = lives
lives_on w (Resume start (Err r)) n kept lives = lives
lives_on w (End start (Ok k)) n kept lives = lives
lives_on w (End start (Err r)) n kept lives = lives
lives_on w (Level reply) n kept lives = lives
lives_on w (Accepted reply) n kept lives = lives

-- Free numbers.

free_is : (o : Option ℕ) (n : ℕ) → Ok n ≡ ok_or o no_slot → o ≡ Some n
free_is None n e = absurd (cc)
free_is (Some m) n e = let same : m ≡ n = cc in ap (λ (k : ℕ). Some k) same

-- the number that an attach gives is one of the list, and free
free_place : (clients : List (Option Client)) (n : ℕ) → Ok n ≡ ok_or (free_slot clients) no_slot → (n < length clients) × (is_none (slot_at clients n) ≡ true)
free_place clients n e =
    let found = position-Some is_none clients n None (free_is (free_slot clients) n e) in
    (found.0, found.1)

dead : (o : Option Client) → is_none o ≡ true → IsTrue (is_some o) → ⊥
dead None free lives = cc
dead (Some c) free lives = cc

-- Detached clients.

detach_is : (entry : BufferEntry) (n : ℕ) → detaches entry n ≡ true → entry ≡ Detach n (Ok tt)
detach_is (Detach m (Ok u)) n e = ap (λ (k : ℕ). Detach k (Ok tt)) (eqb-true m n e)
detach_is entry n e = absurd (cc (e))

-- a client that lives at first and not in the end, and that the caller does not detach, is taken back
taken_back : (by n : ℕ) (w : Window) (h : List (ℕ × BufferEntry)) → LivesIn w.clients n → (LivesIn (replay w h).clients n → ⊥)
    → ((later : ℕ) → slice_get (entries_by by h) later ≡ Some (Detach n (Ok tt)) → ⊥) → is_taken_back by n h ≡ true
taken_back by n w [] lives gone kept = absurd (gone lives)
taken_back by n w (x ∷ xs) lives gone kept =
    split (x.0 == by) (λ o. ((later : ℕ) → slice_get (map (λ (e : ℕ × BufferEntry). e.1) (if o then x ∷ filter (λ (e : ℕ × BufferEntry). e.0 == by) xs else filter (λ (e : ℕ × BufferEntry). e.0 == by) xs)) later ≡ Some (Detach n (Ok tt)) → ⊥)
    → (if detaches x.1 n then not o else is_taken_back by n xs) ≡ true)
    (λ h kept'.
    split (detaches x.1 n) (λ d. detaches x.1 n ≡ d → (if d then false else is_taken_back by n xs) ≡ true)
    (λ h' is. absurd (kept' 0 (ap (λ (e : BufferEntry). Some e) (detach_is x.1 n is))))
    (λ h' other. taken_back by n (window_after w x.1) xs (lives_on w x.1 n other lives) gone (λ later. kept' (suc later)))
    refl)
    (λ h kept'.
    split (detaches x.1 n) (λ d. detaches x.1 n ≡ d → (if d then true else is_taken_back by n xs) ≡ true)
    (λ h' is. refl)
    (λ h' other. taken_back by n (window_after w x.1) xs (lives_on w x.1 n other lives) gone kept')
    refl)
    kept

-- so is the one that an attach gave
attach_taken_back : (by n call : ℕ) (name : List ℕ) (w : Window) (h : List (ℕ × BufferEntry)) (entry : BufferEntry) → Attach name (Ok n) ≡ entry → IsReply w entry
    → (LivesIn (replay (window_after w entry) h).clients n → ⊥)
    → ((later : ℕ) → slice_get (entries_by by h) later ≡ Some (Detach n (Ok tt)) → ⊥) → Contains (taken_back_of by call entry h) call
attach_taken_back by n call name w h entry is reply gone kept =
    subst (λ (e : BufferEntry). IsReply w e → (LivesIn (replay (window_after w e) h).clients n → ⊥) → Contains (taken_back_of by call e h) call) is
    (λ reply' gone'.
    let within : n < length w.clients = (free_place w.clients n reply').0 in
    let lives : LivesIn (slice_set w.clients n (Some (joined name (accepted_of w)))) n =
    subst (λ (o : Option Client). IsTrue (is_some o)) (sym (slot_set_same w.clients n (Some (joined name (accepted_of w))) within)) refl in
    subst (λ (b : Bool). Contains (if b then call ∷ [] else []) call) (sym (taken_back by n (window_after w (Attach name (Ok n))) h lives gone' kept)) (0, omega arith, refl))
    reply gone

-- each client that the caller was given under a number that is free, and did not detach, is taken back
all_taken_back : (by n call : ℕ) (w : Window) (h : List (ℕ × BufferEntry)) → IsLegal w h → (LivesIn (replay w h).clients n → ⊥)
    → (own : ℕ) → IsGivenAt (entries_by by h) own n → Contains (taken_back_in by call h) (call + own)
all_taken_back by n call w [] legal gone own given = absurd (cc (given.given))
all_taken_back by n call w (x ∷ xs) legal gone zero given =
    split (x.0 == by) (λ o. IsGivenAt (map (λ (e : ℕ × BufferEntry). e.1) (if o then x ∷ filter (λ (e : ℕ × BufferEntry). e.0 == by) xs else filter (λ (e : ℕ × BufferEntry). e.0 == by) xs)) 0 n
    → Contains (if o then taken_back_of by call x.1 xs ++ taken_back_in by (suc call) xs else taken_back_in by call xs) (call + 0))
    (λ h given'.
    let is : Attach given'.name (Ok n) ≡ x.1 = cc (given'.given) in
    let here : Contains (taken_back_of by call x.1 xs) call =
    attach_taken_back by n call given'.name w xs x.1 is legal.0 gone (λ later. given'.stays (suc later) (omega arith)) in
    let number : call ≡ call + 0 = omega arith in
    subst (λ (k : ℕ). Contains (taken_back_of by call x.1 xs ++ taken_back_in by (suc call) xs) k) number
    (Contains-append_left (taken_back_of by call x.1 xs) (taken_back_in by (suc call) xs) call here))
    (λ h given'. all_taken_back by n call (window_after w x.1) xs legal.1 gone zero given')
    given
all_taken_back by n call w (x ∷ xs) legal gone (suc own) given =
    split (x.0 == by) (λ o. IsGivenAt (map (λ (e : ℕ × BufferEntry). e.1) (if o then x ∷ filter (λ (e : ℕ × BufferEntry). e.0 == by) xs else filter (λ (e : ℕ × BufferEntry). e.0 == by) xs)) (suc own) n
    → Contains (if o then taken_back_of by call x.1 xs ++ taken_back_in by (suc call) xs else taken_back_in by call xs) (call + suc own))
    (λ h given'.
    let later : IsGivenAt (entries_by by xs) own n =
    record { name = given'.name; given = given'.given; stays = λ k behind. given'.stays (suc k) (omega (arith, behind)) } in
    let number : suc call + own ≡ call + suc own = omega arith in
    subst (λ (k : ℕ). Contains (taken_back_of by call x.1 xs ++ taken_back_in by (suc call) xs) k) number
    (Contains-append_right (taken_back_of by call x.1 xs) (taken_back_in by (suc call) xs) (suc call + own)
    (all_taken_back by n (suc call) (window_after w x.1) xs legal.1 gone own later)))
    (λ h given'. all_taken_back by n call (window_after w x.1) xs legal.1 gone (suc own) given')
    given

-- A call of the caller takes nothing back.

is_taken_back-push : (by n : ℕ) (h : List (ℕ × BufferEntry)) (e : BufferEntry) → is_taken_back by n (h ++ (by, e) ∷ []) ≡ is_taken_back by n h
is_taken_back-push by n [] e =
    split (detaches e n) (λ d. (if d then not (by == by) else false) ≡ false) (λ h. ap not (eq-eqb by by refl)) (λ h. refl)
is_taken_back-push by n (x ∷ xs) e = ap (λ (b : Bool). if detaches x.1 n then not (x.0 == by) else b) (is_taken_back-push by n xs e)

taken_back_of-nil : (by call : ℕ) (e : BufferEntry) → taken_back_of by call e [] ≡ []
taken_back_of-nil by call (Attach name (Ok n)) = refl
taken_back_of-nil by call e = refl

taken_back_of-push : (by call : ℕ) (first : BufferEntry) (h : List (ℕ × BufferEntry)) (e : BufferEntry) → taken_back_of by call first (h ++ (by, e) ∷ []) ≡ taken_back_of by call first h
taken_back_of-push by call (Attach name (Ok n)) h e = ap (λ (b : Bool). if b then call ∷ [] else []) (is_taken_back-push by n h e)
taken_back_of-push by call first h e = refl

taken_back_in-push : (by call : ℕ) (h : List (ℕ × BufferEntry)) (e : BufferEntry) → taken_back_in by call (h ++ (by, e) ∷ []) ≡ taken_back_in by call h
taken_back_in-push by call [] e =
    ap (λ (b : Bool). if b then taken_back_of by call e [] ++ [] else []) (eq-eqb by by refl) ∙ (append-nil (taken_back_of by call e []) ∙ taken_back_of-nil by call e)
taken_back_in-push by call (x ∷ xs) e =
    ap (λ (ns : List ℕ). if x.0 == by then ns ++ taken_back_in by (suc call) (xs ++ (by, e) ∷ []) else taken_back_in by call (xs ++ (by, e) ∷ [])) (taken_back_of-push by call x.1 xs e)
    ∙ (ap (λ (ns : List ℕ). if x.0 == by then taken_back_of by call x.1 xs ++ ns else taken_back_in by call (xs ++ (by, e) ∷ [])) (taken_back_in-push by (suc call) xs e)
    ∙ ap (λ (ns : List ℕ). if x.0 == by then taken_back_of by call x.1 xs ++ taken_back_in by (suc call) xs else ns) (taken_back_in-push by call xs e))

-- a call more by this caller, in the history of a buffer whose window was this one at first
pub record CallsNext (first : Window) (by : ℕ) (h h' : List (ℕ × BufferEntry)) (e : BufferEntry) : Type 0 where
  pub opens : IsWindow first
  pub legal : IsLegal first h
  pub reply : IsReply (replay first h) e
  pub history : h' ≡ h ++ (by, e) ∷ []

pub taken_back_next : (first : Window) (by : ℕ) (h h' : List (ℕ × BufferEntry)) (e : BufferEntry) → CallsNext first by h h' e → taken_back_in by 0 h' ≡ taken_back_in by 0 h
taken_back_next first by h h' e next = ap (taken_back_in by 0) next.history ∙ taken_back_in-push by 0 h e

-- the number that an attach gives is none of a client that the caller has
pub new_number : (first : Window) (by : ℕ) (h h' : List (ℕ × BufferEntry)) (name : List ℕ) (reply : Result ℕ NoSlot) → CallsNext first by h h' (Attach name reply)
    → IfOk reply (λ n. (call : ℕ) → IsGivenAt (entries_by by h) call n → Contains (taken_back_in by 0 h') call)
new_number first by h h' name (Err r) next = tt
new_number first by h h' name (Ok n) next = λ call given.
    let w : Window = replay first h in
    let gone : LivesIn w.clients n → ⊥ = λ lives. dead (slot_at w.clients n) (free_place w.clients n next.reply).1 lives in
    subst (λ (ns : List ℕ). Contains ns call) (sym (taken_back_next first by h h' (Attach name (Ok n)) next))
    (subst (λ (k : ℕ). Contains (taken_back_in by 0 h) k) (zero-add call) (all_taken_back by n 0 first h next.legal gone call given))
