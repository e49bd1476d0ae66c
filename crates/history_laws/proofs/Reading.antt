-- What a client that asks alone has read, by its caller's own calls.
use Rattle.std.specs.Prelude.{◌≡◌, ℕ, ◌<◌, ◌≤◌, Bool, true, false, List, [], ◌∷◌, ◌++◌, Some, None, Ok, refl}
use Rattle.std.specs.List.{AllByRecursion, filter}
use Rattle.std.proofs.Common.{ap, sym, ◌∙◌, subst, arith, append_assoc, append-nil}
use Rattle.std.proofs.lemmas.List.Elements.{filter-append}
use Rattle.daq_types.specs.Callers.{entries_by}
use Rattle.daq_types.specs.declared.runs.Kind.TheVariants.{All}
use Rattle.buffer_core.specs.declared.entry.BufferEntry.{BufferEntry}
use Rattle.buffer_core.specs.declared.entry.BufferEntry.TheVariants.{Request, Begin}
use Rattle.buffer_core.specs.Window.{Sent, opening}
use Rattle.buffer_core.specs.Histories.{IsLegal}
use Rattle.buffer_core.specs.Points.{sent, count_at, request_at, past_after, past_of}
use Rattle.buffer_core.specs.Delivered.{IsInOrder, Throughout}
use Rattle.buffer_core.specs.Runs.{events_between}
use Rattle.buffer_core.specs.Readers.{KeepsRequests, HasReadBelow, ReadsAll, places_got, places_of, wanted}
use Rattle.buffer_core.specs.Ports.{name_given, names_given}
use Rattle.member_model.specs.OwnCalls.{calls_after, gave_number, asks, KeepsAsking, is_place_within}
use Rattle.member_model.specs.ReadRuns.{AskedOnce}
use Rattle.history_laws.specs.BufferLaws.{BufferLaws}
use Rattle.history_laws.specs.OneCaller.{HaveOwnClients}
use Rattle.history_laws.proofs.Pasts.{past_after-append, legal_front, throughout_front, IsTold, told, own_after, OwnPast, own_past, own_rest, own_front, own_call, StandsIn, stands}
use Rattle.history_laws.proofs.Owners.{gave_still, keeps_requests, keeps_life, none_asked}
use Rattle.history_laws.proofs.OwnPlaces.{places_named, named_places, named_places-append, names_below, names_in_order, all_weaker}
use Rattle.history_laws.proofs.GotEvents.{all_named, none_pass, below_within, among_is}
use Rattle.history_laws.proofs.Marked.{count_of_begin, count_front}

-- What is so at each point of a legal history in which each caller has clients of its own.
pub record Facts (size : ℕ) (h : List (ℕ × BufferEntry)) : Type 0 where
  pub legal : IsLegal (opening size) h
  pub own : OwnPast (past_of h)
  pub tells : Throughout IsTold (past_of h)
  pub in_order : Throughout IsInOrder (past_of h)

pub facts : (laws : BufferLaws) (size : ℕ) (h : List (ℕ × BufferEntry)) → IsLegal (opening size) h → HaveOwnClients h → Facts size h
facts laws size h legal own = record { legal = legal; own = own_past h own; tells = told laws size h legal; in_order = (laws.delivers size h legal).in_order }

pub facts_front : (size : ℕ) (xs ys : List (ℕ × BufferEntry)) → Facts size (xs ++ ys) → Facts size xs
facts_front size xs ys f =
    let joined : past_of (xs ++ ys) ≡ past_after (past_of xs) ys = past_after-append [] xs ys in
    record {
      legal = legal_front (opening size) xs ys f.legal;
      own = own_front (past_of xs) ys (subst OwnPast joined f.own);
      tells = throughout_front IsTold (past_of xs) ys (subst (Throughout IsTold) joined f.tells);
      in_order = throughout_front IsInOrder (past_of xs) ys (subst (Throughout IsInOrder) joined f.in_order);
    }

-- Lists of calls.

pub names_given-append : (es fs : List BufferEntry) → names_given (es ++ fs) ≡ names_given es ++ names_given fs
names_given-append [] fs = refl
names_given-append (e ∷ es) fs = ap (λ (ns : List (ℕ × ℕ × ℕ)). name_given e ++ ns) (names_given-append es fs) ∙ sym (append_assoc (name_given e) (names_given es) (names_given fs))

pub keeps_join : (c : ℕ) (es fs : List BufferEntry) → KeepsAsking c es → KeepsAsking c fs → KeepsAsking c (es ++ fs)
keeps_join c [] fs first second = second
keeps_join c (e ∷ es) fs first second = (first.0, keeps_join c es fs first.1 second)

-- the places that calls name were sent by the end of the history that they are of
pub names_sent : (size : ℕ) (h : List (ℕ × BufferEntry)) (by : ℕ) (xs : List BufferEntry) → Facts size h → entries_by by h ≡ xs → AllByRecursion (λ (n : ℕ × ℕ × ℕ). n.1 < count_at (past_of h)) (names_given xs)
names_sent size h by xs f is =
    let P : ℕ × ℕ × ℕ → Type 0 = λ n. n.1 < count_at (past_of h) in
    subst (λ (es : List BufferEntry). AllByRecursion P (names_given es)) is
    (names_in_order P [] (entries_by by h) (subst (λ (es : List BufferEntry). AllByRecursion P (names_given es)) (own_after by [] h) (names_below (past_of h) f.in_order by)))

gave_stays : (by c : ℕ) (past es : List (ℕ × BufferEntry)) → gave_number (entries_by by past) c ≡ true → gave_number (entries_by by (past_after past es)) c ≡ true
gave_stays by c past [] gave = gave
gave_stays by c past (e ∷ es) gave = gave_stays by c (e ∷ past) es (gave_still by c e past gave)

-- What is so of a client where its request stands.
pub record RequestAt (h before after : List (ℕ × BufferEntry)) (by client : ℕ) : Type 0 where
  pub alone : (n : ℕ) → request_at (past_of before) client n ≡ None
  pub keeps : KeepsAsking client (entries_by by after) → KeepsRequests client after
  pub gave : gave_number (entries_by by (past_of h)) client ≡ true

pub request_placed : (size : ℕ) (h before after : List (ℕ × BufferEntry)) (by client id mask number : ℕ) → Facts size h → h ≡ before ++ (by, Request client id mask All (Ok number)) ∷ after
    → ((n : ℕ) → asks (calls_after [] (entries_by by before)) client n ≡ false) → RequestAt h before after by client
request_placed size h before after by client id mask number f whole alone =
    let call : BufferEntry = Request client id mask All (Ok number) in
    let past : List (ℕ × BufferEntry) = past_of before in
    let joined : past_of h ≡ past_after ((by, call) ∷ past) after = ap past_of whole ∙ past_after-append [] before ((by, call) ∷ after) in
    let own_there : OwnPast (past_after ((by, call) ∷ past) after) = subst OwnPast joined f.own in
    let told_there : Throughout IsTold (past_after ((by, call) ∷ past) after) = subst (Throughout IsTold) joined f.tells in
    let own_now : OwnPast ((by, call) ∷ past) = own_front ((by, call) ∷ past) after own_there in
    let told_now : Throughout IsTold ((by, call) ∷ past) = throughout_front IsTold ((by, call) ∷ past) after told_there in
    let gave : gave_number (entries_by by past) client ≡ true = own_call (by, call) past own_now in
    let gave_now : gave_number (entries_by by ((by, call) ∷ past)) client ≡ true = gave_still by client (by, call) past gave in
    record {
      alone = λ n. none_asked past (own_rest (by, call) past own_now) told_now.1 by client n gave (subst (λ (es : List BufferEntry). asks es client n ≡ false) (sym (own_after by [] before)) (alone n));
      keeps = λ keeps. keeps_requests by client ((by, call) ∷ past) after own_there told_there gave_now keeps;
      gave = subst (λ (p : List (ℕ × BufferEntry)). gave_number (entries_by by p) client ≡ true) (sym joined) (gave_stays by client ((by, call) ∷ past) after gave_now);
    }

-- The client reads all that it asks for, from a place behind the request on.
pub reads_from : (size : ℕ) (h front later before after : List (ℕ × BufferEntry)) (by client id mask number from to : ℕ) → h ≡ front ++ later → Facts size h
    → front ≡ before ++ (by, Request client id mask All (Ok number)) ∷ after → RequestAt front before after by client → count_at (past_of before) ≤ from → KeepsAsking client (entries_by by after) → HasReadBelow front client to
    → ReadsAll h client id mask from to
reads_from size h front later before after by client id mask number from to split_is f whole r early keeps reads =
    let call : BufferEntry = Request client id mask All (Ok number) in
    let f_whole : Facts size (front ++ later) = subst (Facts size) split_is f in
    let joined : past_of (front ++ later) ≡ past_after (past_of front) later = past_after-append [] front later in
    record {
      before = before;
      during = after;
      after = later;
      caller = by;
      number = number;
      whole = split_is ∙ (ap (λ (es : List (ℕ × BufferEntry)). es ++ later) whole ∙ append_assoc before ((by, call) ∷ after) later);
      alone = r.alone;
      early = early;
      keeps = r.keeps keeps;
      has_read = subst (λ (x : List (ℕ × BufferEntry)). HasReadBelow x client to) whole reads;
      stays = keeps_life by client (past_of front) later (subst OwnPast joined f_whole.own) (subst (Throughout IsTold) joined f_whole.tells) r.gave;
    }

-- The request stands in the history.
pub record RequestStands (h : List (ℕ × BufferEntry)) (by client id mask number : ℕ) (since : List BufferEntry) : Type 0 where
  pub before : List (ℕ × BufferEntry)
  pub after : List (ℕ × BufferEntry)
  pub whole : h ≡ before ++ (by, Request client id mask All (Ok number)) ∷ after
  pub own_after : entries_by by after ≡ since
  pub at_place : RequestAt h before after by client

pub request_stands : (size : ℕ) (h : List (ℕ × BufferEntry)) (by client id mask number : ℕ) (since : List BufferEntry) → Facts size h → AskedOnce (entries_by by h) client id mask number since → RequestStands h by client id mask number since
request_stands size h by client id mask number since f asked =
    let call : BufferEntry = Request client id mask All (Ok number) in
    let s : StandsIn h by asked.before call since = stands by h asked.before call since asked.whole in
    record {
      before = s.before;
      after = s.after;
      whole = s.whole;
      own_after = s.own_after;
      at_place = request_placed size h s.before s.after by client id mask number f s.whole
          (λ n. subst (λ (es : List BufferEntry). asks (calls_after [] es) client n ≡ false) (sym s.own_before) (asked.alone n));
    }

-- The client reads all that it asks for, from the begin of the run on.
pub reads_run : (laws : BufferLaws) (size : ℕ) (h front later : List (ℕ × BufferEntry)) (by client id mask number start begun to : ℕ) (asking rest : List BufferEntry) → h ≡ front ++ later → Facts size h
    → AskedOnce (entries_by by front) client id mask number (asking ++ Begin start (Ok begun) ∷ rest) → KeepsAsking client (asking ++ Begin start (Ok begun) ∷ rest) → HasReadBelow front client to
    → ReadsAll h client id mask begun to
reads_run laws size h front later by client id mask number start begun to asking rest split_is f asked keeps reads =
    let call : BufferEntry = Request client id mask All (Ok number) in
    let begins : BufferEntry = Begin start (Ok begun) in
    let f_front : Facts size front = facts_front size front later (subst (Facts size) split_is f) in
    let r : RequestStands front by client id mask number (asking ++ begins ∷ rest) = request_stands size front by client id mask number (asking ++ begins ∷ rest) f_front asked in
    let b : StandsIn r.after by asking begins rest = stands by r.after asking begins rest r.own_after in
    let before_begin : List (ℕ × BufferEntry) = r.before ++ (by, call) ∷ b.before in
    let whole : front ≡ before_begin ++ (by, begins) ∷ b.after =
    r.whole ∙ (ap (λ (es : List (ℕ × BufferEntry)). r.before ++ (by, call) ∷ es) b.whole ∙ sym (append_assoc r.before ((by, call) ∷ b.before) ((by, begins) ∷ b.after))) in
    let count : begun ≡ count_at (past_of before_begin) = count_of_begin laws size front before_begin b.after by start begun f_front.legal whole in
    let grows : count_at (past_of r.before) ≤ count_at (past_of before_begin) = count_front r.before ((by, call) ∷ b.before) in
    reads_from size h front later r.before r.after by client id mask number begun to split_is f r.whole r.at_place (omega (arith, count, grows)) (subst (KeepsAsking client) (sym r.own_after) keeps) reads

-- So the places that its calls name since the begin, up to where it has read, are those of the events that it asks for.
pub places_read : (laws : BufferLaws) (size : ℕ) (h : List (ℕ × BufferEntry)) (by client id mask number start begun to : ℕ) (asking rest : List BufferEntry) → Facts size h
    → AskedOnce (entries_by by h) client id mask number (asking ++ Begin start (Ok begun) ∷ rest) → KeepsAsking client (asking ++ Begin start (Ok begun) ∷ rest) → HasReadBelow h client to → to ≤ count_at (past_of h)
    → filter (is_place_within begun to) (named_places client (names_given rest)) ≡ places_of (wanted id mask (events_between (Some begun) (Some to) (sent (past_of h))))
places_read laws size h by client id mask number start begun to asking rest f asked keeps reads small =
    let call : BufferEntry = Request client id mask All (Ok number) in
    let begins : BufferEntry = Begin start (Ok begun) in
    let test : ℕ → Bool = is_place_within begun to in
    let early : List BufferEntry = asked.before ++ call ∷ asking in
    let own_is : entries_by by h ≡ early ++ begins ∷ rest = asked.whole ∙ sym (append_assoc asked.before (call ∷ asking) (begins ∷ rest)) in
    let r : RequestStands h by client id mask number (asking ++ begins ∷ rest) = request_stands size h by client id mask number (asking ++ begins ∷ rest) f asked in
    let b : StandsIn h by early begins rest = stands by h early begins rest own_is in
    let f_begin : Facts size b.before = facts_front size b.before ((by, begins) ∷ b.after) (subst (Facts size) b.whole f) in
    let count : begun ≡ count_at (past_of b.before) = count_of_begin laws size h b.before b.after by start begun f.legal b.whole in
    let below : AllByRecursion (λ (n : ℕ × ℕ × ℕ). n.1 < count_at (past_of b.before)) (names_given early) = names_sent size b.before by early f_begin b.own_before in
    let outside : AllByRecursion (λ (n : ℕ × ℕ × ℕ). n.0 ≡ client → test n.1 ≡ false) (names_given early) =
    all_weaker (λ (n : ℕ × ℕ × ℕ). n.1 < count_at (past_of b.before)) (λ (n : ℕ × ℕ × ℕ). n.0 ≡ client → test n.1 ≡ false)
    (λ n less same. below_within begun to n.1 (omega (arith, less, count)))
    (names_given early) below in
    let none : filter test (named_places client (names_given early)) ≡ [] = none_pass test (named_places client (names_given early)) (all_named (λ (p : ℕ). test p ≡ false) client (names_given early) outside) in
    let places : places_got h client ≡ named_places client (names_given early) ++ named_places client (names_given rest) =
    places_named h by client f.own f.tells r.at_place.gave
    ∙ (ap (λ (es : List BufferEntry). named_places client (names_given es)) own_is
    ∙ (ap (named_places client) (names_given-append early (begins ∷ rest)) ∙ named_places-append client (names_given early) (names_given rest))) in
    let all_read : ReadsAll h client id mask begun to = reads_run laws size h h [] by client id mask number start begun to asking rest (sym (append-nil h)) f asked keeps reads in
    let ss : List Sent = sent (past_of h) in
    sym (ap (λ (ps : List ℕ). ps ++ filter test (named_places client (names_given rest))) none)
    ∙ (sym (filter-append test (named_places client (names_given early)) (named_places client (names_given rest)))
    ∙ (ap (filter test) (sym places)
    ∙ (sym (among_is begun to ss (places_got h client) small) ∙ laws.between size h client id mask begun to f.legal all_read)))
