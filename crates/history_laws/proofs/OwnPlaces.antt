-- The places that a client got, as its owner's calls name them.
use Rattle.std.specs.Prelude.{◌≡◌, ℕ, zero, suc, ◌+◌, ◌<◌, ◌≤◌, ◌==◌, Bool, true, false, if◌then◌else◌, List, [], ◌∷◌, ◌++◌, length, reverse, slice_get, Option, Some, None, Ok, Err, refl}
use Rattle.std.specs.Option.{option_map}
use Rattle.std.specs.List.{AllByRecursion}
use Rattle.std.proofs.Common.{ap, sym, ◌∙◌, subst, arith, inl, inr, eq-eqb, ne_eqb, append_assoc, append-nil, length-append}
use Rattle.std.proofs.lemmas.Bool.{eqb-true}
use Rattle.std.proofs.lemmas.List.{reverse-append}
use Rattle.daq_types.specs.Callers.{entries_by}
use Rattle.buffer_core.specs.declared.replies.Received.TheVariants.{Got, Empty, NoClient as NoReader, SmallBuf}
use Rattle.buffer_core.specs.declared.entry.BufferEntry.{BufferEntry}
use Rattle.buffer_core.specs.declared.entry.BufferEntry.TheVariants.{Attach, Detach, Request, Cancel, Send, SendInRun, Receive, Begin, Pause, Resume, End, Level, Accepted}
use Rattle.buffer_core.proofs.SlotLaws.{split}
use Rattle.buffer_core.specs.Window.{Sent}
use Rattle.buffer_core.specs.Points.{News, Nothing, Attached, Detached, Requested, Cancelled, Taken, Gave, Drained, news_of, Life, got_end, life_got, life_drained, life_after, life_at, sent, sent_after, count_at, past_after, past_of}
use Rattle.buffer_core.specs.Delivered.{IsIn, IsInOrder, Throughout}
use Rattle.buffer_core.specs.Readers.{LeavesLife, places_in, places_got}
use Rattle.buffer_core.specs.Ports.{name_given, names_given}
use Rattle.member_model.specs.OwnCalls.{calls_after, gives_after, gave_number, AreOwnCalls}
use Rattle.history_laws.proofs.Pasts.{IsTold, OwnPast, own_cases, own_rest, own_call, own_after}
use Rattle.history_laws.proofs.Owners.{OwnNews, own_news, IsAttached, gave_before, owned_lives, begun_life, not_again, one_owner, all_leave}

-- The places of a client among calls, the latest first.

abbrev place_given : News → (client : ℕ) → List ℕ
place_given (Gave n place) client = if n == client then place ∷ [] else []
place_given news client = []

abbrev pub own_places : List BufferEntry → (client : ℕ) → List ℕ
own_places [] client = []
own_places (e ∷ es) client = place_given (news_of e) client ++ own_places es client

none_given : (news : News) (es : List BufferEntry) (c : ℕ) → OwnNews news es → (gave_number es c ≡ true → ⊥) → place_given news c ≡ []
none_given Nothing es c own other = refl
none_given (Attached n) es c own other = refl
none_given (Detached n) es c own other = refl
none_given (Requested n m id mask kind) es c own other = refl
none_given (Cancelled n m) es c own other = refl
none_given (Taken s) es c own other = refl
none_given (Gave n place) es c own other = ap (λ (b : Bool). if b then place ∷ [] else []) (ne_eqb n c (λ same. other (subst (λ (k : ℕ). gave_number es k ≡ true) same own)))
none_given (Drained n) es c own other = refl

gave_later : (news : News) (c : ℕ) (b : Bool) → b ≡ true → gives_after news c b ≡ true
gave_later Nothing c b e = e
gave_later (Attached n) c b e = split (n == c) (λ t. (if t then true else b) ≡ true) (λ h. refl) (λ h. e)
gave_later (Detached n) c b e = e
gave_later (Requested n m id mask kind) c b e = e
gave_later (Cancelled n m) c b e = e
gave_later (Taken s) c b e = e
gave_later (Gave n place) c b e = e
gave_later (Drained n) c b e = e

-- who was not given a number got nothing under it
none_got : (es : List BufferEntry) (c : ℕ) → AreOwnCalls es → (gave_number es c ≡ true → ⊥) → own_places es c ≡ []
none_got [] c own never = refl
none_got (e ∷ es) c own never =
    let earlier : gave_number es c ≡ true → ⊥ = λ gave. never (gave_later (news_of e) c (gave_number es c) gave) in
    ap (λ (ps : List ℕ). ps ++ own_places es c) (none_given (news_of e) es c (own_news e es own.0) earlier) ∙ none_got es c own.1 earlier

-- The places of a life.

places_more : (news : News) (count c : ℕ) (l m : Life) → LeavesLife c news → life_after news count c (Some l) ≡ Some m → m.places ≡ place_given news c ++ l.places
places_more Nothing count c l m leaves e = ap (λ (x : Life). x.places) (let same : m ≡ l = cc (e) in same)
places_more (Attached n) count c l m leaves e =
    let kept : Some l ≡ Some m = sym (ap (λ (b : Bool). if b then Some (record { joined = count; places = []; drained = 0 }) else Some l) (ne_eqb n c leaves)) ∙ e in
    ap (λ (x : Life). x.places) (let same : m ≡ l = cc (kept) in same)
places_more (Detached n) count c l m leaves e =
    let kept : Some l ≡ Some m = sym (ap (λ (b : Bool). if b then None else Some l) (ne_eqb n c leaves)) ∙ e in
    ap (λ (x : Life). x.places) (let same : m ≡ l = cc (kept) in same)
places_more (Requested n k id mask kind) count c l m leaves e = ap (λ (x : Life). x.places) (let same : m ≡ l = cc (e) in same)
places_more (Cancelled n k) count c l m leaves e = ap (λ (x : Life). x.places) (let same : m ≡ l = cc (e) in same)
places_more (Taken s) count c l m leaves e = ap (λ (x : Life). x.places) (let same : m ≡ l = cc (e) in same)
places_more (Gave n place) count c l m leaves e =
    split (n == c) (λ b. (if b then Some (life_got place l) else Some l) ≡ Some m → m.places ≡ (if b then place ∷ [] else []) ++ l.places)
    (λ h e'. ap (λ (x : Life). x.places) (let same : m ≡ life_got place l = cc (e') in same))
    (λ h e'. ap (λ (x : Life). x.places) (let same : m ≡ l = cc (e') in same))
    e
places_more (Drained n) count c l m leaves e =
    split (n == c) (λ b. (if b then Some (life_drained count l) else Some l) ≡ Some m → m.places ≡ l.places)
    (λ h e'. ap (λ (x : Life). x.places) (let same : m ≡ life_drained count l = cc (e') in same))
    (λ h e'. ap (λ (x : Life). x.places) (let same : m ≡ l = cc (e') in same))
    e

-- a client's life has the places that its owner's calls gave
pub places_are : (past : List (ℕ × BufferEntry)) → OwnPast past → Throughout IsTold past → (by c : ℕ) (m : Life) → gave_number (entries_by by past) c ≡ true → life_at past c ≡ Some m → m.places ≡ own_places (entries_by by past) c
places_are [] own t by c m gave lives = absurd (cc (gave))
places_are (x ∷ past) own t by c m gave lives =
    let rest : OwnPast past = own_rest x past own in
    let mine : List BufferEntry = entries_by by past in
    elim (gave_before by c x past gave) as (λ w. m.places ≡ own_places (entries_by by (x ∷ past)) c) [
      | inl before ↦
          let alive = owned_lives past rest by c before in
          let step : life_after (news_of x.1) (count_at past) c (Some alive.0) ≡ Some m = sym (ap (life_after (news_of x.1) (count_at past) c) alive.1) ∙ lives in
          let more : m.places ≡ place_given (news_of x.1) c ++ alive.0.places = places_more (news_of x.1) (count_at past) c alive.0 m (all_leave x past own t.0 by c before) step in
          let old : alive.0.places ≡ own_places mine c = places_are past rest t.1 by c alive.0 before alive.1 in
          let all : m.places ≡ place_given (news_of x.1) c ++ own_places mine c = more ∙ ap (λ (ps : List ℕ). place_given (news_of x.1) c ++ ps) old in
          own_cases by x past (λ es. m.places ≡ own_places es c)
          (λ same. all)
          (λ other. all ∙ ap (λ (ps : List ℕ). ps ++ own_places mine c)
          (none_given (news_of x.1) (entries_by x.0 past) c (own_news x.1 (entries_by x.0 past) (own_call x past own)) (λ theirs. other (one_owner past rest t.1 x.0 by c theirs before))))
      | inr now ↦
          let fresh : Some m ≡ Some (record { joined = count_at past; places = []; drained = 0 }) = sym lives ∙ begun_life x past c now.1 in
          let is_fresh : m ≡ record { joined = count_at past; places = []; drained = 0 } = cc (fresh) in
          let never : gave_number mine c ≡ true → ⊥ = λ gave'. not_again past rest x.1 t.0 by c gave' now.1 in
          ap (λ (l : Life). l.places) is_fresh
          ∙ own_cases by x past (λ es. [] ≡ own_places es c)
          (λ same. sym (ap (λ (ps : List ℕ). place_given (news_of x.1) c ++ ps) (none_got mine c (rest by) never) ∙ (append-nil (place_given (news_of x.1) c) ∙ none_attached (news_of x.1) c now.1)))
          (λ other. absurd (other now.0))
    ]
  where
    none_attached : (news : News) (c : ℕ) → IsAttached news c → place_given news c ≡ []
    none_attached Nothing c is = absurd is
    none_attached (Attached n) c is = refl
    none_attached (Detached n) c is = absurd is
    none_attached (Requested n k id mask kind) c is = absurd is
    none_attached (Cancelled n k) c is = absurd is
    none_attached (Taken s) c is = absurd is
    none_attached (Gave n place) c is = absurd is
    none_attached (Drained n) c is = absurd is

-- The same in order.

abbrev pub place_if : Bool → ℕ → List ℕ
place_if true place = place ∷ []
place_if false place = []

abbrev pub named_places : (client : ℕ) → List (ℕ × ℕ × ℕ) → List ℕ
named_places client [] = []
named_places client (n ∷ ns) = place_if (n.0 == client) n.1 ++ named_places client ns

pub named_places-append : (c : ℕ) (ns ms : List (ℕ × ℕ × ℕ)) → named_places c (ns ++ ms) ≡ named_places c ns ++ named_places c ms
named_places-append c [] ms = refl
named_places-append c (n ∷ ns) ms = ap (λ (ps : List ℕ). place_if (n.0 == c) n.1 ++ ps) (named_places-append c ns ms) ∙ sym (append_assoc (place_if (n.0 == c) n.1) (named_places c ns) (named_places c ms))

named_one : (c : ℕ) (e : BufferEntry) → named_places c (name_given e) ≡ reverse (place_given (news_of e) c)
named_one c (Receive client room (Got place start)) = split (client == c) (λ b. place_if b place ++ [] ≡ reverse (if b then place ∷ [] else [])) (λ h. refl) (λ h. refl)
named_one c (Receive client room (Empty gate last)) = refl
named_one c (Receive client room NoReader) = refl
named_one c (Receive client room (SmallBuf need)) = refl
named_one c (Attach name (Ok n)) = refl
named_one c (Attach name (Err f)) = refl
named_one c (Detach client (Ok u)) = refl
named_one c (Detach client (Err f)) = refl
named_one c (Request client id mask kind (Ok n)) = refl
named_one c (Request client id mask kind (Err f)) = refl
named_one c (Cancel client number (Ok u)) = refl
named_one c (Cancel client number (Err f)) = refl
named_one c (Send stated e (Ok n)) = refl
named_one c (Send stated e (Err f)) = refl
named_one c (SendInRun start stated e (Ok n)) = refl
named_one c (SendInRun start stated e (Err f)) = refl
named_one c (Begin start reply) = refl
named_one c (Pause start reply) = refl
named_one c (Resume start reply) = refl
named_one c (End start reply) = refl
named_one c (Level reply) = refl
named_one c (Accepted reply) = refl

places_in_order : (c : ℕ) (past es : List BufferEntry) → reverse (own_places (calls_after past es) c) ≡ reverse (own_places past c) ++ named_places c (names_given es)
places_in_order c past [] = sym (append-nil (reverse (own_places past c)))
places_in_order c past (e ∷ es) =
    let here : List ℕ = place_given (news_of e) c in
    places_in_order c (e ∷ past) es
    ∙ (ap (λ (ps : List ℕ). ps ++ named_places c (names_given es)) (reverse-append here (own_places past c) ∙ ap (λ (ps : List ℕ). reverse (own_places past c) ++ ps) (sym (named_one c e)))
    ∙ (append_assoc (reverse (own_places past c)) (named_places c (name_given e)) (named_places c (names_given es))
    ∙ ap (λ (ps : List ℕ). reverse (own_places past c) ++ ps) (sym (named_places-append c (name_given e) (names_given es)))))

-- the places that a client got are those that its owner's calls name
pub places_named : (h : List (ℕ × BufferEntry)) (by c : ℕ) → OwnPast (past_of h) → Throughout IsTold (past_of h) → gave_number (entries_by by (past_of h)) c ≡ true → places_got h c ≡ named_places c (names_given (entries_by by h))
places_named h by c own t gave =
    let alive = owned_lives (past_of h) own by c gave in
    ap (λ (o : Option Life). places_in o) alive.1
    ∙ (ap (λ (ps : List ℕ). reverse ps) (places_are (past_of h) own t by c alive.0 gave alive.1 ∙ ap (λ (es : List BufferEntry). own_places es c) (own_after by [] h))
    ∙ places_in_order c [] (entries_by by h))

-- Bounds on the places.

pub all_weaker : {X : Type 0} (P Q : X → Type 0) → ((x : X) → P x → Q x) → (xs : List X) → AllByRecursion P xs → AllByRecursion Q xs
all_weaker P Q weaker [] all = tt
all_weaker P Q weaker (x ∷ xs) all = (weaker x all.0, all_weaker P Q weaker xs all.1)

pub all_front : {X : Type 0} (P : X → Type 0) (xs ys : List X) → AllByRecursion P (xs ++ ys) → AllByRecursion P xs
all_front P [] ys all = tt
all_front P (x ∷ xs) ys all = (all.0, all_front P xs ys all.1)

pub all_back : {X : Type 0} (P : X → Type 0) (xs ys : List X) → AllByRecursion P (xs ++ ys) → AllByRecursion P ys
all_back P [] ys all = all
all_back P (x ∷ xs) ys all = all_back P xs ys all.1

pub all_join : {X : Type 0} (P : X → Type 0) (xs ys : List X) → AllByRecursion P xs → AllByRecursion P ys → AllByRecursion P (xs ++ ys)
all_join P [] ys first second = second
all_join P (x ∷ xs) ys first second = (first.0, all_join P xs ys first.1 second)

-- what holds of all names of the calls up to a point holds of those of the calls in order
names_before : (Q : ℕ × ℕ × ℕ → Type 0) (past es : List BufferEntry) → AllByRecursion Q (names_given (calls_after past es)) → AllByRecursion Q (names_given past)
names_before Q past [] all = all
names_before Q past (e ∷ es) all = all_back Q (name_given e) (names_given past) (names_before Q (e ∷ past) es all)

pub names_in_order : (Q : ℕ × ℕ × ℕ → Type 0) (past es : List BufferEntry) → AllByRecursion Q (names_given (calls_after past es)) → AllByRecursion Q (names_given es)
names_in_order Q past [] all = tt
names_in_order Q past (e ∷ es) all =
    all_join Q (name_given e) (names_given es)
    (all_front Q (name_given e) (names_given past) (names_before Q (e ∷ past) es all))
    (names_in_order Q (e ∷ past) es all)

pub get_within : {X : Type 0} (xs : List X) (i : ℕ) (x : X) → slice_get xs i ≡ Some x → i < length xs
get_within [] i x e = absurd (cc (e))
get_within (y ∷ ys) zero x e = omega arith
get_within (y ∷ ys) (suc i) x e = omega (arith, get_within ys i x e)

sent_grows : (news : News) (ss : List Sent) → length ss ≤ length (sent_after news ss)
sent_grows Nothing ss = omega arith
sent_grows (Attached n) ss = omega arith
sent_grows (Detached n) ss = omega arith
sent_grows (Requested n m id mask kind) ss = omega arith
sent_grows (Cancelled n m) ss = omega arith
sent_grows (Taken s) ss = omega (arith, length-append ss (s ∷ []))
sent_grows (Gave n place) ss = omega arith
sent_grows (Drained n) ss = omega arith

pub count_grows : (past es : List (ℕ × BufferEntry)) → count_at past ≤ count_at (past_after past es)
count_grows past [] = omega arith
count_grows past (e ∷ es) = omega (arith, sent_grows (news_of e.1) (sent past), count_grows (e ∷ past) es)

name_below : (past : List (ℕ × BufferEntry)) (e : BufferEntry) → IsInOrder past e → AllByRecursion (λ (n : ℕ × ℕ × ℕ). n.1 < count_at past) (name_given e)
name_below past (Receive client room (Got place start)) right = (get_within (sent past) place right.event right.wanted.is_sent, tt)
name_below past (Receive client room (Empty gate last)) right = tt
name_below past (Receive client room NoReader) right = tt
name_below past (Receive client room (SmallBuf need)) right = tt
name_below past (Attach name reply) right = tt
name_below past (Detach client reply) right = tt
name_below past (Request client id mask kind reply) right = tt
name_below past (Cancel client number reply) right = tt
name_below past (Send stated e reply) right = tt
name_below past (SendInRun start stated e reply) right = tt
name_below past (Begin start reply) right = tt
name_below past (Pause start reply) right = tt
name_below past (Resume start reply) right = tt
name_below past (End start reply) right = tt
name_below past (Level reply) right = tt
name_below past (Accepted reply) right = tt

-- a place that was got was sent before
pub names_below : (past : List (ℕ × BufferEntry)) → Throughout IsInOrder past → (by : ℕ) → AllByRecursion (λ (n : ℕ × ℕ × ℕ). n.1 < count_at past) (names_given (entries_by by past))
names_below [] right by = tt
names_below (x ∷ past) right by =
    let now : ℕ = count_at past in
    let next : ℕ = count_at (x ∷ past) in
    let grows : now ≤ next = sent_grows (news_of x.1) (sent past) in
    let later : (n : ℕ × ℕ × ℕ) → n.1 < now → n.1 < next = λ n less. omega (arith, less, grows) in
    let old : AllByRecursion (λ (n : ℕ × ℕ × ℕ). n.1 < next) (names_given (entries_by by past)) =
    all_weaker (λ (n : ℕ × ℕ × ℕ). n.1 < now) (λ (n : ℕ × ℕ × ℕ). n.1 < next) later (names_given (entries_by by past)) (names_below past right.1 by) in
    own_cases by x past (λ es. AllByRecursion (λ (n : ℕ × ℕ × ℕ). n.1 < next) (names_given es))
    (λ same. all_join (λ (n : ℕ × ℕ × ℕ). n.1 < next) (name_given x.1) (names_given (entries_by by past))
    (all_weaker (λ (n : ℕ × ℕ × ℕ). n.1 < now) (λ (n : ℕ × ℕ × ℕ). n.1 < next) later (name_given x.1) (name_below past x.1 right.0)) old)
    (λ other. old)

-- The latest place of a life is the greatest.

all_in : (P : ℕ → Type 0) (ps : List ℕ) → ((q : ℕ) → IsIn q ps → P q) → AllByRecursion P ps
all_in P [] each = tt
all_in P (p ∷ ps) each = (each p (inl refl), all_in P ps (λ q is. each q (inr is)))

abbrev pub EndsHighest : Life → Type 0
EndsHighest l = AllByRecursion (λ (q : ℕ). q < got_end l.places) l.places

highest_now : (l m : Life) → l ≡ m → EndsHighest l → EndsHighest m
highest_now l m same highest = subst EndsHighest same highest

highest_kept : (o : Option Life) (m : Life) → ((l : Life) → o ≡ Some l → EndsHighest l) → o ≡ Some m → EndsHighest m
highest_kept o m old e = old m e

highest_if : (b : Bool) (o p : Option Life) (m : Life) → ((l : Life) → b ≡ true → o ≡ Some l → EndsHighest l) → ((l : Life) → p ≡ Some l → EndsHighest l) → (if b then o else p) ≡ Some m → EndsHighest m
highest_if true o p m first second e = first m refl e
highest_if false o p m first second e = second m e

some_mapped : (f : Life → Life) (o : Option Life) (m : Life) → option_map f o ≡ Some m → (l : Life) × (o ≡ Some l) × (f l ≡ m)
some_mapped f None m e = absurd (cc (e))
some_mapped f (Some l) m e = (l, refl, cc (e))

highest_after : (past : List (ℕ × BufferEntry)) (e : BufferEntry) (c : ℕ) (m : Life) → IsInOrder past e → ((l : Life) → life_at past c ≡ Some l → EndsHighest l) → life_after (news_of e) (count_at past) c (life_at past c) ≡ Some m → EndsHighest m
highest_after past (Attach name (Ok n)) c m right old is =
    let fresh : Life = record { joined = count_at past; places = []; drained = 0 } in
    highest_if (n == c) (Some fresh) (life_at past c) m (λ l h e. highest_now fresh l (cc (e)) tt) old is
highest_after past (Attach name (Err f)) c m right old is = old m is
highest_after past (Detach client (Ok u)) c m right old is = highest_if (client == c) None (life_at past c) m (λ l h e. absurd (cc (e))) old is
highest_after past (Detach client (Err f)) c m right old is = old m is
highest_after past (Request client id mask kind (Ok n)) c m right old is = old m is
highest_after past (Request client id mask kind (Err f)) c m right old is = old m is
highest_after past (Cancel client number (Ok u)) c m right old is = old m is
highest_after past (Cancel client number (Err f)) c m right old is = old m is
highest_after past (Send stated e (Ok n)) c m right old is = old m is
highest_after past (Send stated e (Err f)) c m right old is = old m is
highest_after past (SendInRun start stated e (Ok n)) c m right old is = old m is
highest_after past (SendInRun start stated e (Err f)) c m right old is = old m is
highest_after past (Receive client room (Got place start)) c m right old is =
    highest_if (client == c) (option_map (life_got place) (life_at past c)) (life_at past c) m
    (λ l h e.
    let got = some_mapped (life_got place) (life_at past c) l e in
    let here : client ≡ c = eqb-true client c h in
    let lives : life_at past c ≡ Some right.life = subst (λ (k : ℕ). life_at past k ≡ Some right.life) here right.lives in
    let same : right.life ≡ got.0 = cc (lives, got.1) in
    let below : AllByRecursion (λ (q : ℕ). q < place + 1) right.life.places = all_in (λ (q : ℕ). q < place + 1) right.life.places (λ q is_in. omega (arith, right.rises q is_in)) in
    highest_now (life_got place got.0) l got.2 (omega arith, subst (λ (x : Life). AllByRecursion (λ (q : ℕ). q < place + 1) x.places) same below))
    old is
highest_after past (Receive client room (Empty gate last)) c m right old is =
    highest_if (client == c) (option_map (life_drained (count_at past)) (life_at past c)) (life_at past c) m
    (λ l h e. let got = some_mapped (life_drained (count_at past)) (life_at past c) l e in highest_now (life_drained (count_at past) got.0) l got.2 (old got.0 got.1))
    old is
highest_after past (Receive client room NoReader) c m right old is = old m is
highest_after past (Receive client room (SmallBuf need)) c m right old is = old m is
highest_after past (Begin start reply) c m right old is = old m is
highest_after past (Pause start reply) c m right old is = old m is
highest_after past (Resume start reply) c m right old is = old m is
highest_after past (End start reply) c m right old is = old m is
highest_after past (Level reply) c m right old is = old m is
highest_after past (Accepted reply) c m right old is = old m is

pub ends_highest : (past : List (ℕ × BufferEntry)) → Throughout IsInOrder past → (c : ℕ) (m : Life) → life_at past c ≡ Some m → EndsHighest m
ends_highest [] right c m is = absurd (cc (is))
ends_highest (x ∷ past) right c m is = highest_after past x.1 c m right.0 (λ l e. ends_highest past right.1 c l e) is

-- what holds of a client's places holds of those that calls name
named_at : (P : ℕ → Type 0) (c : ℕ) (e : BufferEntry) → AllByRecursion P (place_given (news_of e) c) → AllByRecursion (λ (n : ℕ × ℕ × ℕ). n.0 ≡ c → P n.1) (name_given e)
named_at P c (Receive client room (Got place start)) all =
    (λ here. (subst (λ (b : Bool). AllByRecursion P (if b then place ∷ [] else [])) (eq-eqb client c here) all).0, tt)
named_at P c (Receive client room (Empty gate last)) all = tt
named_at P c (Receive client room NoReader) all = tt
named_at P c (Receive client room (SmallBuf need)) all = tt
named_at P c (Attach name reply) all = tt
named_at P c (Detach client reply) all = tt
named_at P c (Request client id mask kind reply) all = tt
named_at P c (Cancel client number reply) all = tt
named_at P c (Send stated e reply) all = tt
named_at P c (SendInRun start stated e reply) all = tt
named_at P c (Begin start reply) all = tt
named_at P c (Pause start reply) all = tt
named_at P c (Resume start reply) all = tt
named_at P c (End start reply) all = tt
named_at P c (Level reply) all = tt
named_at P c (Accepted reply) all = tt

pub named_of_places : (P : ℕ → Type 0) (c : ℕ) (es : List BufferEntry) → AllByRecursion P (own_places es c) → AllByRecursion (λ (n : ℕ × ℕ × ℕ). n.0 ≡ c → P n.1) (names_given es)
named_of_places P c [] all = tt
named_of_places P c (e ∷ es) all =
    all_join (λ (n : ℕ × ℕ × ℕ). n.0 ≡ c → P n.1) (name_given e) (names_given es)
    (named_at P c e (all_front P (place_given (news_of e) c) (own_places es c) all))
    (named_of_places P c es (all_back P (place_given (news_of e) c) (own_places es c) all))
