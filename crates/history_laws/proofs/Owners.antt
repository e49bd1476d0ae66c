-- Each client has one owner, lives on from its attach, and has the requests that its owner's calls tell.
use Rattle.std.specs.Prelude.{◌≡◌, ◌≢◌, ℕ, ◌==◌, Bool, true, false, if◌then◌else◌, List, [], ◌∷◌, Option, Some, None, Ok, Err, refl, ⊤, ◌⊎◌}
use Rattle.std.specs.Option.{option_map}
use Rattle.std.proofs.Common.{ap, sym, ◌∙◌, subst, inl, inr, eq-eqb, ne_eqb}
use Rattle.std.proofs.lemmas.Bool.{eqb-true}
use Rattle.daq_types.specs.Callers.{entries_by}
use Rattle.buffer_core.specs.declared.client.Request.{Request as EventRequest}
use Rattle.buffer_core.specs.declared.replies.Received.TheVariants.{Got, Empty, NoClient as NoReader, SmallBuf}
use Rattle.buffer_core.specs.declared.entry.BufferEntry.{BufferEntry}
use Rattle.buffer_core.specs.declared.entry.BufferEntry.TheVariants.{Attach, Detach, Request, Cancel, Send, SendInRun, Receive, Begin, Pause, Resume, End, Level, Accepted}
use Rattle.buffer_core.proofs.SlotLaws.{split}
use Rattle.buffer_core.specs.Points.{News, Nothing, Attached, Detached, Requested, Cancelled, Taken, Gave, Drained, news_of, Life, life_got, life_drained, life_after, life_at, request_after, request_at, count_at, past_after}
use Rattle.buffer_core.specs.Delivered.{Throughout}
use Rattle.buffer_core.specs.Readers.{LeavesLife, LeavesRequests, KeepsLife, KeepsRequests}
use Rattle.member_model.specs.OwnCalls.{gives_after, gave_number, IsOwnCall, asks_after, asks, LeavesAsking, KeepsAsking}
use Rattle.history_laws.proofs.Pasts.{IsTold, throughout_front, OwnPast, own_cases, own_rest, own_front, own_call}

-- What an own call tells, by its news.

-- the news names only clients that these calls gave, and detaches none
abbrev pub OwnNews : News → List BufferEntry → Type 0
OwnNews (Detached n) es = ⊥
OwnNews (Requested c n id mask kind) es = gave_number es c ≡ true
OwnNews (Cancelled c n) es = gave_number es c ≡ true
OwnNews (Gave c place) es = gave_number es c ≡ true
OwnNews (Drained c) es = gave_number es c ≡ true
OwnNews news es = ⊤

pub own_news : (e : BufferEntry) (es : List BufferEntry) → IsOwnCall e es → OwnNews (news_of e) es
own_news (Attach name (Ok n)) es is = tt
own_news (Attach name (Err f)) es is = tt
own_news (Detach client reply) es is = absurd is
own_news (Request client id mask kind (Ok n)) es is = is
own_news (Request client id mask kind (Err f)) es is = tt
own_news (Cancel client number (Ok u)) es is = is
own_news (Cancel client number (Err f)) es is = tt
own_news (Send stated e (Ok n)) es is = tt
own_news (Send stated e (Err f)) es is = tt
own_news (SendInRun start stated e (Ok n)) es is = tt
own_news (SendInRun start stated e (Err f)) es is = tt
own_news (Receive client room (Got place start)) es is = is
own_news (Receive client room (Empty gate last)) es is = is
own_news (Receive client room NoReader) es is = tt
own_news (Receive client room (SmallBuf need)) es is = tt
own_news (Begin start reply) es is = tt
own_news (Pause start reply) es is = tt
own_news (Resume start reply) es is = tt
own_news (End start reply) es is = tt
own_news (Level reply) es is = tt
own_news (Accepted reply) es is = tt

-- a number that is given is that of no client that lives
abbrev pub FreeNews : List (ℕ × BufferEntry) → News → Type 0
FreeNews past (Attached n) = life_at past n ≡ None
FreeNews past news = ⊤

pub free_news : (past : List (ℕ × BufferEntry)) (e : BufferEntry) → IsTold past e → FreeNews past (news_of e)
free_news past (Attach name (Ok n)) t = t
free_news past (Attach name (Err f)) t = tt
free_news past (Detach client (Ok u)) t = tt
free_news past (Detach client (Err f)) t = tt
free_news past (Request client id mask kind (Ok n)) t = tt
free_news past (Request client id mask kind (Err f)) t = tt
free_news past (Cancel client number (Ok u)) t = tt
free_news past (Cancel client number (Err f)) t = tt
free_news past (Send stated e (Ok n)) t = tt
free_news past (Send stated e (Err f)) t = tt
free_news past (SendInRun start stated e (Ok n)) t = tt
free_news past (SendInRun start stated e (Err f)) t = tt
free_news past (Receive client room (Got place start)) t = tt
free_news past (Receive client room (Empty gate last)) t = tt
free_news past (Receive client room NoReader) t = tt
free_news past (Receive client room (SmallBuf need)) t = tt
free_news past (Begin start reply) t = tt
free_news past (Pause start reply) t = tt
free_news past (Resume start reply) t = tt
free_news past (End start reply) t = tt
free_news past (Level reply) t = tt
free_news past (Accepted reply) t = tt

-- A number that was given.

abbrev pub IsAttached : News → (client : ℕ) → Type 0
IsAttached (Attached n) client = n ≡ client
IsAttached news client = ⊥

given_now : (news : News) (c : ℕ) (b : Bool) → gives_after news c b ≡ true → (b ≡ true) ⊎ IsAttached news c
given_now Nothing c b e = inl e
given_now (Attached n) c b e = split (n == c) (λ t. (n == c) ≡ t → (if t then true else b) ≡ true → (b ≡ true) ⊎ (n ≡ c)) (λ h is e'. inr (eqb-true n c is)) (λ h is e'. inl e') refl e
given_now (Detached n) c b e = inl e
given_now (Requested n m id mask kind) c b e = inl e
given_now (Cancelled n m) c b e = inl e
given_now (Taken s) c b e = inl e
given_now (Gave n place) c b e = inl e
given_now (Drained n) c b e = inl e

given_still : (news : News) (c : ℕ) → gives_after news c true ≡ true
given_still Nothing c = refl
given_still (Attached n) c = split (n == c) (λ t. (if t then true else true) ≡ true) (λ h. refl) (λ h. refl)
given_still (Detached n) c = refl
given_still (Requested n m id mask kind) c = refl
given_still (Cancelled n m) c = refl
given_still (Taken s) c = refl
given_still (Gave n place) c = refl
given_still (Drained n) c = refl

pub gave_before : (by c : ℕ) (x : ℕ × BufferEntry) (past : List (ℕ × BufferEntry)) → gave_number (entries_by by (x ∷ past)) c ≡ true → (gave_number (entries_by by past) c ≡ true) ⊎ ((x.0 ≡ by) × IsAttached (news_of x.1) c)
gave_before by c x past =
    own_cases by x past (λ es. gave_number es c ≡ true → (gave_number (entries_by by past) c ≡ true) ⊎ ((x.0 ≡ by) × IsAttached (news_of x.1) c))
    (λ same e. elim (given_now (news_of x.1) c (gave_number (entries_by by past) c) e) as (λ w. (gave_number (entries_by by past) c ≡ true) ⊎ ((x.0 ≡ by) × IsAttached (news_of x.1) c)) [
      | inl before ↦ inl before
      | inr now ↦ inr (same, now)
    ])
    (λ other e. inl e)

pub gave_still : (by c : ℕ) (x : ℕ × BufferEntry) (past : List (ℕ × BufferEntry)) → gave_number (entries_by by past) c ≡ true → gave_number (entries_by by (x ∷ past)) c ≡ true
gave_still by c x past gave =
    own_cases by x past (λ es. gave_number es c ≡ true)
    (λ same. ap (gives_after (news_of x.1) c) gave ∙ given_still (news_of x.1) c)
    (λ other. gave)

-- A client lives on.

abbrev pub Lives : Option Life → Type 0
Lives o = (l : Life) × (o ≡ Some l)

pub lives_if : (b : Bool) (o p : Option Life) → Lives o → Lives p → Lives (if b then o else p)
lives_if true o p first second = first
lives_if false o p first second = second

pub lives_mapped : (f : Life → Life) (o : Option Life) → Lives o → Lives (option_map f o)
lives_mapped f o l = (f l.0, ap (option_map f) l.1)

lives_on : (news : News) (es : List BufferEntry) (count c : ℕ) (o : Option Life) → OwnNews news es → Lives o → Lives (life_after news count c o)
lives_on Nothing es count c o own l = l
lives_on (Attached n) es count c o own l = lives_if (n == c) (Some (record { joined = count; places = []; drained = 0 })) o (record { joined = count; places = []; drained = 0 }, refl) l
lives_on (Detached n) es count c o own l = absurd own
lives_on (Requested n m id mask kind) es count c o own l = l
lives_on (Cancelled n m) es count c o own l = l
lives_on (Taken s) es count c o own l = l
lives_on (Gave n place) es count c o own l = lives_if (n == c) (option_map (life_got place) o) o (lives_mapped (life_got place) o l) l
lives_on (Drained n) es count c o own l = lives_if (n == c) (option_map (life_drained count) o) o (lives_mapped (life_drained count) o l) l

begins_life : (news : News) (count c : ℕ) (o : Option Life) → IsAttached news c → life_after news count c o ≡ Some (record { joined = count; places = []; drained = 0 })
begins_life Nothing count c o is = absurd is
begins_life (Attached n) count c o is = ap (λ (b : Bool). if b then Some (record { joined = count; places = []; drained = 0 }) else o) (eq-eqb n c is)
begins_life (Detached n) count c o is = absurd is
begins_life (Requested n m id mask kind) count c o is = absurd is
begins_life (Cancelled n m) count c o is = absurd is
begins_life (Taken s) count c o is = absurd is
begins_life (Gave n place) count c o is = absurd is
begins_life (Drained n) count c o is = absurd is

pub begun_life : (x : ℕ × BufferEntry) (past : List (ℕ × BufferEntry)) (c : ℕ) → IsAttached (news_of x.1) c → life_at (x ∷ past) c ≡ Some (record { joined = count_at past; places = []; drained = 0 })
begun_life x past c is = begins_life (news_of x.1) (count_at past) c (life_at past c) is

-- a client that an attach gave lives
pub owned_lives : (past : List (ℕ × BufferEntry)) → OwnPast past → (by c : ℕ) → gave_number (entries_by by past) c ≡ true → (l : Life) × (life_at past c ≡ Some l)
owned_lives [] own by c gave = absurd (cc (gave))
owned_lives (x ∷ past) own by c gave =
    elim (gave_before by c x past gave) as (λ w. (l : Life) × (life_at (x ∷ past) c ≡ Some l)) [
      | inl before ↦ lives_on (news_of x.1) (entries_by x.0 past) (count_at past) c (life_at past c) (own_news x.1 (entries_by x.0 past) (own_call x past own)) (owned_lives past (own_rest x past own) by c before)
      | inr now ↦ (record { joined = count_at past; places = []; drained = 0 }, begun_life x past c now.1)
    ]

-- and its number is not given again
never_again : (past : List (ℕ × BufferEntry)) (news : News) (c : ℕ) → FreeNews past news → IsAttached news c → life_at past c ≡ None
never_again past Nothing c free is = absurd is
never_again past (Attached n) c free is = subst (λ (m : ℕ). life_at past m ≡ None) is free
never_again past (Detached n) c free is = absurd is
never_again past (Requested n m id mask kind) c free is = absurd is
never_again past (Cancelled n m) c free is = absurd is
never_again past (Taken s) c free is = absurd is
never_again past (Gave n place) c free is = absurd is
never_again past (Drained n) c free is = absurd is

pub not_again : (past : List (ℕ × BufferEntry)) → OwnPast past → (e : BufferEntry) → IsTold past e → (by c : ℕ) → gave_number (entries_by by past) c ≡ true → IsAttached (news_of e) c → ⊥
not_again past own e t by c gave is =
    let alive = owned_lives past own by c gave in
    cc (alive.1, never_again past (news_of e) c (free_news past e t) is)

-- Each client has one owner.
pub one_owner : (past : List (ℕ × BufferEntry)) → OwnPast past → Throughout IsTold past → (a b c : ℕ) → gave_number (entries_by a past) c ≡ true → gave_number (entries_by b past) c ≡ true → a ≡ b
one_owner [] own t a b c first second = absurd (cc (first))
one_owner (x ∷ past) own t a b c first second =
    let rest : OwnPast past = own_rest x past own in
    elim (gave_before a c x past first) as (λ w. a ≡ b) [
      | inl first_before ↦ elim (gave_before b c x past second) as (λ w. a ≡ b) [
        | inl second_before ↦ one_owner past rest t.1 a b c first_before second_before
        | inr now ↦ absurd (not_again past rest x.1 t.0 a c first_before now.1)
      ]
      | inr first_now ↦ elim (gave_before b c x past second) as (λ w. a ≡ b) [
        | inl second_before ↦ absurd (not_again past rest x.1 t.0 b c second_before first_now.1)
        | inr now ↦ sym first_now.0 ∙ now.0
      ]
    ]

-- Calls of others leave a client alone.

-- the news are of no client of this number, but for its own requests
leaves_from : (news : News) (es : List BufferEntry) (c : ℕ) → OwnNews news es → (IsAttached news c → ⊥) → (gave_number es c ≡ true → ⊥) → LeavesRequests c news
leaves_from Nothing es c own new other = tt
leaves_from (Attached n) es c own new other = new
leaves_from (Detached n) es c own new other = absurd own
leaves_from (Requested n m id mask kind) es c own new other = λ same. other (subst (λ (k : ℕ). gave_number es k ≡ true) same own)
leaves_from (Cancelled n m) es c own new other = λ same. other (subst (λ (k : ℕ). gave_number es k ≡ true) same own)
leaves_from (Taken s) es c own new other = tt
leaves_from (Gave n place) es c own new other = tt
leaves_from (Drained n) es c own new other = tt

pub others_leave : (x : ℕ × BufferEntry) (past : List (ℕ × BufferEntry)) → OwnPast (x ∷ past) → Throughout IsTold (x ∷ past) → (by c : ℕ) → gave_number (entries_by by past) c ≡ true → x.0 ≢ by → LeavesRequests c (news_of x.1)
others_leave x past own t by c gave other =
    let rest : OwnPast past = own_rest x past own in
    leaves_from (news_of x.1) (entries_by x.0 past) c (own_news x.1 (entries_by x.0 past) (own_call x past own))
    (λ is. not_again past rest x.1 t.0 by c gave is)
    (λ mine. other (one_owner past rest t.1 x.0 by c mine gave))

leaves_life : (news : News) (es : List BufferEntry) (c : ℕ) → OwnNews news es → (IsAttached news c → ⊥) → LeavesLife c news
leaves_life Nothing es c own new = tt
leaves_life (Attached n) es c own new = new
leaves_life (Detached n) es c own new = absurd own
leaves_life (Requested n m id mask kind) es c own new = tt
leaves_life (Cancelled n m) es c own new = tt
leaves_life (Taken s) es c own new = tt
leaves_life (Gave n place) es c own new = tt
leaves_life (Drained n) es c own new = tt

-- no call touches the life of a client that is another's or one's own
pub all_leave : (x : ℕ × BufferEntry) (past : List (ℕ × BufferEntry)) → OwnPast (x ∷ past) → IsTold past x.1 → (by c : ℕ) → gave_number (entries_by by past) c ≡ true → LeavesLife c (news_of x.1)
all_leave x past own t by c gave =
    leaves_life (news_of x.1) (entries_by x.0 past) c (own_news x.1 (entries_by x.0 past) (own_call x past own)) (λ is. not_again past (own_rest x past own) x.1 t by c gave is)

own_leaves : (c : ℕ) (e : BufferEntry) → LeavesAsking c e → LeavesRequests c (news_of e)
own_leaves c (Cancel client number (Ok u)) leaves = leaves
own_leaves c (Cancel client number (Err f)) leaves = tt
own_leaves c (Attach name reply) leaves = leaves
own_leaves c (Detach client reply) leaves = leaves
own_leaves c (Request client id mask kind (Ok n)) leaves = leaves
own_leaves c (Request client id mask kind (Err f)) leaves = tt
own_leaves c (Send stated e reply) leaves = leaves
own_leaves c (SendInRun start stated e reply) leaves = leaves
own_leaves c (Receive client room reply) leaves = leaves
own_leaves c (Begin start reply) leaves = leaves
own_leaves c (Pause start reply) leaves = leaves
own_leaves c (Resume start reply) leaves = leaves
own_leaves c (End start reply) leaves = leaves
own_leaves c (Level reply) leaves = leaves
own_leaves c (Accepted reply) leaves = leaves

-- while the owner's calls leave what a client asks for, all calls do
pub keeps_requests : (by c : ℕ) (past es : List (ℕ × BufferEntry)) → OwnPast (past_after past es) → Throughout IsTold (past_after past es) → gave_number (entries_by by past) c ≡ true
    → KeepsAsking c (entries_by by es) → KeepsRequests c es
keeps_requests by c past [] own t gave leave = tt
keeps_requests by c past (x ∷ xs) own t gave leave =
    let own_here : OwnPast (x ∷ past) = own_front (x ∷ past) xs own in
    let told_here : Throughout IsTold (x ∷ past) = throughout_front IsTold (x ∷ past) xs t in
    let parts : LeavesRequests c (news_of x.1) × KeepsAsking c (entries_by by xs) =
    own_cases by x xs (λ es. KeepsAsking c es → LeavesRequests c (news_of x.1) × KeepsAsking c (entries_by by xs))
    (λ same all. (own_leaves c x.1 all.0, all.1))
    (λ other all. (others_leave x past own_here told_here by c gave other, all))
    leave in
    (parts.0, keeps_requests by c (x ∷ past) xs own t (gave_still by c x past gave) parts.1)

pub keeps_life : (by c : ℕ) (past es : List (ℕ × BufferEntry)) → OwnPast (past_after past es) → Throughout IsTold (past_after past es) → gave_number (entries_by by past) c ≡ true → KeepsLife c es
keeps_life by c past [] own t gave = tt
keeps_life by c past (x ∷ xs) own t gave =
    let told_here : Throughout IsTold (x ∷ past) = throughout_front IsTold (x ∷ past) xs t in
    (all_leave x past (own_front (x ∷ past) xs own) told_here.0 by c gave, keeps_life by c (x ∷ past) xs own t (gave_still by c x past gave))

-- What the owner's calls do not ask for, nobody asks for.

none_left : (news : News) (count c n : ℕ) (r : Option EventRequest) → LeavesRequests c news → request_after news count c n r ≡ r
none_left Nothing count c n r leaves = refl
none_left (Attached m) count c n r leaves = ap (λ (b : Bool). if b then None else r) (ne_eqb m c leaves)
none_left (Detached m) count c n r leaves = ap (λ (b : Bool). if b then None else r) (ne_eqb m c leaves)
none_left (Requested m k id mask kind) count c n r leaves = ap (λ (b : Bool). if b then (if k == n then Some (record { id = id; mask = mask; kind = kind; since = count }) else r) else r) (ne_eqb m c leaves)
none_left (Cancelled m k) count c n r leaves = ap (λ (b : Bool). if b then (if k == n then None else r) else r) (ne_eqb m c leaves)
none_left (Taken s) count c n r leaves = refl
none_left (Gave m place) count c n r leaves = refl
none_left (Drained m) count c n r leaves = refl

new_none : (news : News) (count c n : ℕ) (r : Option EventRequest) → IsAttached news c → request_after news count c n r ≡ None
new_none Nothing count c n r is = absurd is
new_none (Attached m) count c n r is = ap (λ (b : Bool). if b then None else r) (eq-eqb m c is)
new_none (Detached m) count c n r is = absurd is
new_none (Requested m k id mask kind) count c n r is = absurd is
new_none (Cancelled m k) count c n r is = absurd is
new_none (Taken s) count c n r is = absurd is
new_none (Gave m place) count c n r is = absurd is
new_none (Drained m) count c n r is = absurd is

none_if : (b : Bool) (r : Option EventRequest) → r ≡ None → (if b then None else r) ≡ None
none_if true r none = refl
none_if false r none = none

-- a request is made by the owner
request_none : (c n m k : ℕ) (q : EventRequest) (before : Bool) (r : Option EventRequest) → (before ≡ false → r ≡ None) → (if m == c then (if k == n then true else before) else before) ≡ false
    → (if m == c then (if k == n then Some q else r) else r) ≡ None
request_none c n m k q before r step =
    split (m == c) (λ b. (if b then (if k == n then true else before) else before) ≡ false → (if b then (if k == n then Some q else r) else r) ≡ None)
    (λ h. split (k == n) (λ d. (if d then true else before) ≡ false → (if d then Some q else r) ≡ None) (λ h' e. absurd (cc (e))) (λ h' e. step e))
    (λ h e. step e)

-- or cancelled
cancel_none : (c n m k : ℕ) (before : Bool) (r : Option EventRequest) → (before ≡ false → r ≡ None) → (if m == c then (if k == n then false else before) else before) ≡ false
    → (if m == c then (if k == n then None else r) else r) ≡ None
cancel_none c n m k before r step =
    split (m == c) (λ b. (if b then (if k == n then false else before) else before) ≡ false → (if b then (if k == n then None else r) else r) ≡ None)
    (λ h. split (k == n) (λ d. (if d then false else before) ≡ false → (if d then None else r) ≡ None) (λ h' e. refl) (λ h' e. step e))
    (λ h e. step e)

-- or a cancel of it is refused, which finds none
refused_none : (c n m k : ℕ) (before : Bool) (r : Option EventRequest) → (before ≡ false → r ≡ None) → (m ≡ c → k ≡ n → r ≡ None) → (if m == c then (if k == n then false else before) else before) ≡ false → r ≡ None
refused_none c n m k before r step finds =
    split (m == c) (λ b. (m == c) ≡ b → (if b then (if k == n then false else before) else before) ≡ false → r ≡ None)
    (λ h here. split (k == n) (λ d. (k == n) ≡ d → (if d then false else before) ≡ false → r ≡ None)
    (λ h' it e. finds (eqb-true m c here) (eqb-true k n it))
    (λ h' it e. step e)
    refl)
    (λ h here e. step e)
    refl

asked_none : (past : List (ℕ × BufferEntry)) (e : BufferEntry) (c n : ℕ) (l : Life) (before : Bool) → IsTold past e → life_at past c ≡ Some l → (before ≡ false → request_at past c n ≡ None) → asks_after e c n before ≡ false
    → request_after (news_of e) (count_at past) c n (request_at past c n) ≡ None
asked_none past (Attach name (Ok m)) c n l before t lives step e = none_if (m == c) (request_at past c n) (step e)
asked_none past (Attach name (Err f)) c n l before t lives step e = step e
asked_none past (Detach client (Ok u)) c n l before t lives step e = none_if (client == c) (request_at past c n) (step e)
asked_none past (Detach client (Err f)) c n l before t lives step e = step e
asked_none past (Request m id mask kind (Ok k)) c n l before t lives step e = request_none c n m k (record { id = id; mask = mask; kind = kind; since = count_at past }) before (request_at past c n) step e
asked_none past (Request m id mask kind (Err f)) c n l before t lives step e = step e
asked_none past (Cancel m k (Ok u)) c n l before t lives step e = cancel_none c n m k before (request_at past c n) step e
asked_none past (Cancel m k (Err f)) c n l before t lives step e =
    refused_none c n m k before (request_at past c n) step
    (λ client_is number_is.
    let lives_m : life_at past m ≡ Some l = subst (λ (i : ℕ). life_at past i ≡ Some l) (sym client_is) lives in
    let none : request_at past m k ≡ None = t l lives_m in
    subst (λ (i : ℕ). request_at past i n ≡ None) client_is (subst (λ (i : ℕ). request_at past m i ≡ None) number_is none))
    e
asked_none past (Send stated v (Ok k)) c n l before t lives step e = step e
asked_none past (Send stated v (Err f)) c n l before t lives step e = step e
asked_none past (SendInRun start stated v (Ok k)) c n l before t lives step e = step e
asked_none past (SendInRun start stated v (Err f)) c n l before t lives step e = step e
asked_none past (Receive client room (Got place start)) c n l before t lives step e = step e
asked_none past (Receive client room (Empty gate last)) c n l before t lives step e = step e
asked_none past (Receive client room NoReader) c n l before t lives step e = step e
asked_none past (Receive client room (SmallBuf need)) c n l before t lives step e = step e
asked_none past (Begin start reply) c n l before t lives step e = step e
asked_none past (Pause start reply) c n l before t lives step e = step e
asked_none past (Resume start reply) c n l before t lives step e = step e
asked_none past (End start reply) c n l before t lives step e = step e
asked_none past (Level reply) c n l before t lives step e = step e
asked_none past (Accepted reply) c n l before t lives step e = step e

pub none_asked : (past : List (ℕ × BufferEntry)) → OwnPast past → Throughout IsTold past → (by c n : ℕ) → gave_number (entries_by by past) c ≡ true → asks (entries_by by past) c n ≡ false → request_at past c n ≡ None
none_asked [] own t by c n gave never = absurd (cc (gave))
none_asked (x ∷ past) own t by c n gave never =
    let rest : OwnPast past = own_rest x past own in
    let r : Option EventRequest = request_at past c n in
    elim (gave_before by c x past gave) as (λ w. request_at (x ∷ past) c n ≡ None) [
      | inl before ↦
          own_cases by x past (λ es. asks es c n ≡ false → request_at (x ∷ past) c n ≡ None)
          (λ same here.
          let alive = owned_lives past rest by c before in
          asked_none past x.1 c n alive.0 (asks (entries_by by past) c n) t.0 alive.1 (λ e. none_asked past rest t.1 by c n before e) here)
          (λ other here. none_left (news_of x.1) (count_at past) c n r (others_leave x past own t by c before other) ∙ none_asked past rest t.1 by c n before here)
          never
      | inr now ↦ new_none (news_of x.1) (count_at past) c n r now.1
    ]
