-- Where no other caller detached a client of a caller, each client that the caller has lives: so no attach gives it again.
use Rattle.std.specs.Prelude.{◌≡◌, ◌≢◌, ℕ, zero, suc, ◌==◌, Bool, true, false, not, if◌then◌else◌, List, [], ◌∷◌, ◌++◌, slice_get, Option, Some, None, Ok, Err, refl}
use Rattle.std.specs.Option.{option_map}
use Rattle.std.proofs.Common.{ap, sym, ◌∙◌, subst, arith, eq-eqb, ne_eqb}
use Rattle.std.proofs.lemmas.Bool.{eqb-true}
use Rattle.daq_types.specs.Callers.{entries_by}
use Rattle.buffer_core.specs.declared.replies.Received.TheVariants.{Got, Empty, NoClient as NoReader, SmallBuf}
use Rattle.buffer_core.specs.declared.entry.BufferEntry.{BufferEntry}
use Rattle.buffer_core.specs.declared.entry.BufferEntry.TheVariants.{Attach, Detach, Request, Cancel, Send, SendInRun, Receive}
use Rattle.buffer_core.proofs.SlotLaws.{split}
use Rattle.buffer_core.specs.Window.{opening}
use Rattle.buffer_core.specs.Histories.{IsLegal}
use Rattle.buffer_core.specs.Points.{Life, life_got, life_drained, life_after, life_at, count_at, news_of, past_after, past_of}
use Rattle.buffer_core.specs.Ports.{IsGivenAt}
use Rattle.buffer_core.specs.CallersView.{detaches, is_taken_back, taken_back_of, taken_back_in}
use Rattle.history_laws.specs.BufferLaws.{BufferLaws}
use Rattle.history_laws.specs.CallerLaws.{AttachesGiveOnce}
use Rattle.history_laws.proofs.Owners.{IsAttached, Lives, lives_if, lives_mapped, begun_life}
use Rattle.history_laws.proofs.Pasts.{StandsIn, own_cases, stands}

-- A client lives on, but where a call detaches it.

lives_behind : (e : BufferEntry) (count n : ℕ) (o : Option Life) → detaches e n ≡ false → Lives o → Lives (life_after (news_of e) count n o)
lives_behind (Attach name (Ok m)) count n o kept lives = lives_if (m == n) (Some (record { joined = count; places = []; drained = 0 })) o (record { joined = count; places = []; drained = 0 }, refl) lives
lives_behind (Detach m (Ok u)) count n o kept lives = subst (λ (b : Bool). Lives (if b then None else o)) (sym kept) lives
lives_behind (Receive m room (Got place start)) count n o kept lives = lives_if (m == n) (option_map (life_got place) o) o (lives_mapped (life_got place) o lives) lives
lives_behind (Receive m room (Empty gate last)) count n o kept lives = lives_if (m == n) (option_map (life_drained count) o) o (lives_mapped (life_drained count) o lives) lives
lives_behind (Attach name (Err why)) count n o kept lives = lives
lives_behind (Detach m (Err why)) count n o kept lives = lives
lives_behind (Request m id mask kind (Ok number)) count n o kept lives = lives
lives_behind (Request m id mask kind (Err why)) count n o kept lives = lives
lives_behind (Cancel m number (Ok u)) count n o kept lives = lives
lives_behind (Cancel m number (Err why)) count n o kept lives = lives
lives_behind (Send stated e (Ok place)) count n o kept lives = lives
lives_behind (Send stated e (Err why)) count n o kept lives = lives
lives_behind (SendInRun start stated e (Ok place)) count n o kept lives = lives
lives_behind (SendInRun start stated e (Err why)) count n o kept lives = lives
lives_behind (Receive m room NoReader) count n o kept lives = lives
lives_behind (Receive m room (SmallBuf need)) count n o kept lives = lives
lives_behind e count n o kept lives = lives

-- the client is detached by none of these calls
abbrev Undetached : List BufferEntry → ℕ → Type 0
Undetached own n = (later : ℕ) → slice_get own later ≡ Some (Detach n (Ok tt)) → ⊥

detach_is : (e : BufferEntry) (n : ℕ) → detaches e n ≡ true → e ≡ Detach n (Ok tt)
detach_is (Detach m (Ok u)) n does = ap (λ (k : ℕ). Detach k (Ok tt)) (eqb-true m n does)
detach_is e n does = absurd (cc (does))

-- who detaches it first is not another, nor the caller
none_detaches : (by n : ℕ) (x : ℕ × BufferEntry) (h : List (ℕ × BufferEntry)) → Undetached (entries_by by (x ∷ h)) n → detaches x.1 n ≡ true → not (x.0 == by) ≡ false → ⊥
none_detaches by n x h kept does free =
    own_cases by x h (λ es. Undetached es n → ⊥)
    (λ same none. none 0 (ap (λ (e : BufferEntry). Some e) (detach_is x.1 n does)))
    (λ other none. let never : true ≡ false = ap not (sym (ne_eqb x.0 by other)) ∙ free in cc (never))
    kept

undetached_rest : (by n : ℕ) (x : ℕ × BufferEntry) (h : List (ℕ × BufferEntry)) → Undetached (entries_by by (x ∷ h)) n → Undetached (entries_by by h) n
undetached_rest by n x h kept = own_cases by x h (λ es. Undetached es n → Undetached (entries_by by h) n) (λ same none later. none (suc later)) (λ other none. none) kept

lives_through : (by n : ℕ) (past h rest : List (ℕ × BufferEntry)) → is_taken_back by n (h ++ rest) ≡ false → Undetached (entries_by by h) n → Lives (life_at past n) → Lives (life_at (past_after past h) n)
lives_through by n past [] rest free kept lives = lives
lives_through by n past (x ∷ h) rest free kept lives =
    split (detaches x.1 n) (λ b. (if b then not (x.0 == by) else is_taken_back by n (h ++ rest)) ≡ false → Lives (life_at (past_after (x ∷ past) h) n))
    (λ does own. absurd (none_detaches by n x h kept does own))
    (λ keeps later. lives_through by n (x ∷ past) h rest later (undetached_rest by n x h kept) (lives_behind x.1 (count_at past) n (life_at past n) keeps lives))
    free

-- Each client that the caller was given, and did not detach, lives.

first_none : {X : Type 0} (xs ys : List X) → xs ++ ys ≡ [] → xs ≡ []
first_none [] ys none = refl
first_none (x ∷ xs) ys none = absurd (cc (none))

second_none : {X : Type 0} (xs ys : List X) → xs ++ ys ≡ [] → ys ≡ []
second_none [] ys none = none
second_none (x ∷ xs) ys none = absurd (cc (none))

not_taken : (b : Bool) (call : ℕ) → (if b then call ∷ [] else []) ≡ [] → b ≡ false
not_taken true call none = absurd (cc (none))
not_taken false call none = refl

taken_mine : (by call : ℕ) (x : ℕ × BufferEntry) (h : List (ℕ × BufferEntry)) → x.0 ≡ by → taken_back_in by call (x ∷ h) ≡ taken_back_of by call x.1 h ++ taken_back_in by (suc call) h
taken_mine by call x h same = ap (λ (b : Bool). if b then taken_back_of by call x.1 h ++ taken_back_in by (suc call) h else taken_back_in by call h) (eq-eqb x.0 by same)

taken_other : (by call : ℕ) (x : ℕ × BufferEntry) (h : List (ℕ × BufferEntry)) → x.0 ≢ by → taken_back_in by call (x ∷ h) ≡ taken_back_in by call h
taken_other by call x h other = ap (λ (b : Bool). if b then taken_back_of by call x.1 h ++ taken_back_in by (suc call) h else taken_back_in by call h) (ne_eqb x.0 by other)

-- the client that the first of these calls gave
given_lives : (by n call : ℕ) (past : List (ℕ × BufferEntry)) (x : ℕ × BufferEntry) (h rest : List (ℕ × BufferEntry)) → taken_back_of by call x.1 (h ++ rest) ≡ [] → IsGivenAt (x.1 ∷ entries_by by h) 0 n → Lives (life_at (past_after (x ∷ past) h) n)
given_lives by n call past x h rest none given =
    let is : x.1 ≡ Attach given.name (Ok n) = cc (given.given) in
    let free : is_taken_back by n (h ++ rest) ≡ false = not_taken (is_taken_back by n (h ++ rest)) call (subst (λ (e : BufferEntry). taken_back_of by call e (h ++ rest) ≡ []) is none) in
    let attached : IsAttached (news_of x.1) n = subst (λ (e : BufferEntry). IsAttached (news_of e) n) (sym is) refl in
    lives_through by n (x ∷ past) h rest free (λ later. given.stays (suc later) (omega arith)) (record { joined = count_at past; places = []; drained = 0 }, begun_life x past n attached)

kept_lives : (by n call : ℕ) (past h rest : List (ℕ × BufferEntry)) → taken_back_in by call (h ++ rest) ≡ [] → (own : ℕ) → IsGivenAt (entries_by by h) own n → Lives (life_at (past_after past h) n)
kept_lives by n call past [] rest none own given = absurd (cc (given.given))
kept_lives by n call past (x ∷ h) rest none zero given =
    own_cases by x h (λ es. IsGivenAt es 0 n → Lives (life_at (past_after (x ∷ past) h) n))
    (λ same at. given_lives by n call past x h rest (first_none (taken_back_of by call x.1 (h ++ rest)) (taken_back_in by (suc call) (h ++ rest)) (sym (taken_mine by call x (h ++ rest) same) ∙ none)) at)
    (λ other at. kept_lives by n call (x ∷ past) h rest (sym (taken_other by call x (h ++ rest) other) ∙ none) 0 at)
    given
kept_lives by n call past (x ∷ h) rest none (suc own) given =
    own_cases by x h (λ es. IsGivenAt es (suc own) n → Lives (life_at (past_after (x ∷ past) h) n))
    (λ same at. kept_lives by n (suc call) (x ∷ past) h rest
    (second_none (taken_back_of by call x.1 (h ++ rest)) (taken_back_in by (suc call) (h ++ rest)) (sym (taken_mine by call x (h ++ rest) same) ∙ none)) own
    (record { name = at.name; given = at.given; stays = λ later behind. at.stays (suc later) (omega (arith, behind)) }))
    (λ other at. kept_lives by n call (x ∷ past) h rest (sym (taken_other by call x (h ++ rest) other) ∙ none) (suc own) at)
    given

pub attaches_give_once : BufferLaws → AttachesGiveOnce
attaches_give_once laws size history by legal none before after name client call whole given =
    let s : StandsIn history by before (Attach name (Ok client)) after = stands by history before (Attach name (Ok client)) after whole in
    let gone : life_at (past_of s.before) client ≡ None = laws.numbers size s.before s.after by name client (subst (IsLegal (opening size)) s.whole legal) in
    let alive : Lives (life_at (past_of s.before) client) =
    kept_lives by client 0 [] s.before ((by, Attach name (Ok client)) ∷ s.after) (subst (λ (h : List (ℕ × BufferEntry)). taken_back_in by 0 h ≡ []) s.whole none) call (subst (λ (own : List BufferEntry). IsGivenAt own call client) (sym s.own_before) given) in
    cc (alive.1, gone)
