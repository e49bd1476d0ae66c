-- The run that a client has read: its places and its events.
use Rattle.std.specs.Prelude.{◌≡◌, ℕ, ◌+◌, ◌<◌, ◌≤◌, nat_le, Bool, List, [], ◌∷◌, ◌++◌, Some, Ok, refl}
use Rattle.std.specs.List.{AllByRecursion, filter}
use Rattle.std.proofs.Common.{ap, sym, ◌∙◌, subst, arith, append_assoc}
use Rattle.std.proofs.lemmas.List.Elements.{filter-append}
use Rattle.daq_types.specs.Callers.{entries_by}
use Rattle.daq_types.proofs.CallersLaws.{entries_by-own}
use Rattle.daq_types.specs.declared.events.Event.{Event}
use Rattle.daq_types.specs.declared.runs.Kind.TheVariants.{All}
use Rattle.buffer_core.specs.declared.replies.Received.{Received}
use Rattle.buffer_core.specs.declared.replies.Received.TheVariants.{Got, Empty, NoClient as NoReader, SmallBuf}
use Rattle.buffer_core.specs.declared.entry.BufferEntry.{BufferEntry}
use Rattle.buffer_core.specs.declared.entry.BufferEntry.TheVariants.{Request, Receive, Begin, End}
use Rattle.buffer_core.specs.Window.{Sent, opening}
use Rattle.buffer_core.specs.Histories.{IsLegal}
use Rattle.buffer_core.specs.Points.{sent, count_at, past_of}
use Rattle.buffer_core.specs.Continued.{sent_in}
use Rattle.buffer_core.specs.Runs.{events_between}
use Rattle.buffer_core.specs.Readers.{HasReadBelow, ReadsAll, places_got, places_of, among, wanted}
use Rattle.buffer_core.specs.Ports.{GotEvent, names_given}
use Rattle.member_model.specs.OwnCalls.{KeepsAsking, HasDrained, is_place_within, events_at}
use Rattle.member_model.specs.ReadRuns.{AskedOnce, IsDraining, HasReadRun}
use Rattle.history_laws.specs.BufferLaws.{BufferLaws}
use Rattle.history_laws.specs.OneCaller.{WasSentAt, events_in}
use Rattle.history_laws.specs.CallerLaws.{ReadPlaces, ReadEvents}
use Rattle.history_laws.proofs.Pasts.{past_of-push, StandsIn, stands}
use Rattle.history_laws.proofs.OwnPlaces.{named_places, named_places-append, all_weaker, all_front, all_back}
use Rattle.history_laws.proofs.GotEvents.{events_of, events_of-append, events_named, agree, all_named, before_end, wanted_events, between_front}
use Rattle.history_laws.proofs.Marked.{count_of_end, RunStands, run_stands}
use Rattle.history_laws.proofs.Reading.{Facts, facts, facts_front, names_given-append, keeps_join, names_sent, reads_run, places_read}

-- a client that has read below a place has read below each before it
pub less_read : (h : List (ℕ × BufferEntry)) (client to less : ℕ) → less ≤ to → HasReadBelow h client to → HasReadBelow h client less
less_read h client to less small reads = record { life = reads.life; lives = reads.lives; far = omega (arith, reads.far, small) }

-- the reply that drains a client
has_drained : (laws : BufferLaws) (size : ℕ) (before : List (ℕ × BufferEntry)) (by client room ended : ℕ) (reply : Received) → IsLegal (opening size) (before ++ (by, Receive client room reply) ∷ []) → HasDrained ended reply
    → ended ≤ count_at (past_of (before ++ (by, Receive client room reply) ∷ [])) → HasReadBelow (before ++ (by, Receive client room reply) ∷ []) client ended
has_drained laws size before by client room ended (Got place start) legal drains small =
    less_read (before ++ (by, Receive client room (Got place start)) ∷ []) client (place + 1) ended (omega (arith, drains)) (laws.read_got size before [] by client room place start legal tt)
has_drained laws size before by client room ended (Empty gate last) legal drains small =
    let call : ℕ × BufferEntry = (by, Receive client room (Empty gate last)) in
    let same : count_at (past_of (before ++ call ∷ [])) ≡ count_at (past_of before) = ap count_at (past_of-push before call) in
    less_read (before ++ call ∷ []) client (count_at (past_of before)) ended (omega (arith, small, same)) (laws.read_all size before [] by client room gate last legal tt)
has_drained laws size before by client room ended NoReader legal drains small = absurd drains
has_drained laws size before by client room ended (SmallBuf need) legal drains small = absurd drains

-- The history up to the reply that drained the client.
pub record DrainedAt (size : ℕ) (h : List (ℕ × BufferEntry)) (by client id mask number start begun ended : ℕ) (calls : List BufferEntry) (asking rest : List BufferEntry) : Type 0 where
  pub front : List (ℕ × BufferEntry)
  pub later : List (ℕ × BufferEntry)
  pub whole : h ≡ front ++ later
  pub own_is : entries_by by front ≡ calls
  pub facts : Facts size front
  pub asked : AskedOnce (entries_by by front) client id mask number (asking ++ Begin start (Ok begun) ∷ rest)
  pub keeps : KeepsAsking client (asking ++ Begin start (Ok begun) ∷ rest)
  pub within : ended ≤ count_at (past_of front)
  pub reads : HasReadBelow front client ended

abbrev pub behind_begin : (start ended : ℕ) → (running draining : List BufferEntry) → List BufferEntry
behind_begin start ended running draining = running ++ End start (Ok ended) ∷ draining

pub asks_through : (own : List BufferEntry) (got : List GotEvent) (client id mask number start begun ended : ℕ) (events : List Event) → (d : IsDraining own got client id mask number start begun ended events)
    → KeepsAsking client (d.asking ++ Begin start (Ok begun) ∷ behind_begin start ended d.running d.draining)
asks_through own got client id mask number start begun ended events d =
    keeps_join client d.asking (Begin start (Ok begun) ∷ behind_begin start ended d.running d.draining) d.asks_on
    (tt, keeps_join client d.running (End start (Ok ended) ∷ d.draining) d.reads_on (tt, d.drains_on))

-- the calls of one who asked, with the marks of the run among them
pub with_marks : (own : List BufferEntry) (client id mask number start begun ended : ℕ) (asking running draining : List BufferEntry)
    → (asked : AskedOnce own client id mask number (asking ++ Begin start (Ok begun) ∷ behind_begin start ended running draining))
    → own ≡ ((asked.before ++ Request client id mask All (Ok number) ∷ asking) ++ Begin start (Ok begun) ∷ running) ++ End start (Ok ended) ∷ draining
with_marks own client id mask number start begun ended asking running draining asked =
    let call : BufferEntry = Request client id mask All (Ok number) in
    let begins : BufferEntry = Begin start (Ok begun) in
    let ends : List BufferEntry = End start (Ok ended) ∷ draining in
    asked.whole
    ∙ (sym (append_assoc asked.before (call ∷ asking) (begins ∷ (running ++ ends)))
    ∙ sym (append_assoc (asked.before ++ call ∷ asking) (begins ∷ running) ends))

pub drained_at : (laws : BufferLaws) (size : ℕ) (h : List (ℕ × BufferEntry)) (by client id mask number start begun ended : ℕ) (own : List BufferEntry) (got : List GotEvent) (events : List Event) → Facts size h → own ≡ entries_by by h
    → (r : HasReadRun own got client id mask number start begun ended events)
    → DrainedAt size h by client id mask number start begun ended (r.drained ++ Receive client r.room r.reply ∷ []) r.reads.asking (behind_begin start ended r.reads.running r.reads.draining)
drained_at laws size h by client id mask number start begun ended own got events f own_is r =
    let call : BufferEntry = Receive client r.room r.reply in
    let d : IsDraining (r.drained ++ call ∷ []) r.got_by client id mask number start begun ended events = r.reads in
    let s : StandsIn h by r.drained call r.later = stands by h r.drained call r.later (sym own_is ∙ (r.own_is ∙ append_assoc r.drained (call ∷ []) r.later)) in
    let front : List (ℕ × BufferEntry) = s.before ++ (by, call) ∷ [] in
    let whole : h ≡ front ++ s.after = s.whole ∙ sym (append_assoc s.before ((by, call) ∷ []) s.after) in
    let f_front : Facts size front = facts_front size front s.after (subst (Facts size) whole f) in
    let front_is : entries_by by front ≡ r.drained ++ call ∷ [] = entries_by-own by s.before call ∙ ap (λ (es : List BufferEntry). es ++ call ∷ []) s.own_before in
    let since : List BufferEntry = d.asking ++ Begin start (Ok begun) ∷ behind_begin start ended d.running d.draining in
    let asked : AskedOnce (entries_by by front) client id mask number since = subst (λ (es : List BufferEntry). AskedOnce es client id mask number since) (sym front_is) d.asked in
    let marks : RunStands size front start begun ended =
    run_stands laws size front by start begun ended (asked.before ++ Request client id mask All (Ok number) ∷ d.asking) d.running d.draining f_front.legal
    (with_marks (entries_by by front) client id mask number start begun ended d.asking d.running d.draining asked) in
    record {
      front = front;
      later = s.after;
      whole = whole;
      own_is = front_is;
      facts = f_front;
      asked = asked;
      keeps = asks_through (r.drained ++ call ∷ []) r.got_by client id mask number start begun ended events d;
      within = marks.within;
      reads = has_drained laws size s.before by client r.room ended r.reply f_front.legal r.drains marks.within;
    }

-- The marks of the run in the whole history.
pub marks_of_read : (laws : BufferLaws) (size : ℕ) (h : List (ℕ × BufferEntry)) (by client id mask number start begun ended : ℕ) (own : List BufferEntry) (got : List GotEvent) (events : List Event) → Facts size h → own ≡ entries_by by h
    → HasReadRun own got client id mask number start begun ended events → RunStands size h start begun ended
marks_of_read laws size h by client id mask number start begun ended own got events f own_is r =
    let call : BufferEntry = Receive client r.room r.reply in
    let calls : List BufferEntry = r.drained ++ call ∷ [] in
    let d : IsDraining calls r.got_by client id mask number start begun ended events = r.reads in
    let xs : List BufferEntry = d.asked.before ++ Request client id mask All (Ok number) ∷ d.asking in
    let marked : calls ≡ (xs ++ Begin start (Ok begun) ∷ d.running) ++ End start (Ok ended) ∷ d.draining = with_marks calls client id mask number start begun ended d.asking d.running d.draining d.asked in
    run_stands laws size h by start begun ended xs d.running (d.draining ++ r.later) f.legal
    (sym own_is
    ∙ (r.own_is
    ∙ (ap (λ (es : List BufferEntry). es ++ r.later) marked ∙ append_assoc (xs ++ Begin start (Ok begun) ∷ d.running) (End start (Ok ended) ∷ d.draining) r.later)))

pub read_places : BufferLaws → ReadPlaces
read_places laws size h by own got legal clients part client id mask number start begun ended events r =
    let f : Facts size h = facts laws size h legal clients in
    let d : IsDraining (r.drained ++ Receive client r.room r.reply ∷ []) r.got_by client id mask number start begun ended events = r.reads in
    let a : DrainedAt size h by client id mask number start begun ended (r.drained ++ Receive client r.room r.reply ∷ []) d.asking (behind_begin start ended d.running d.draining) =
    drained_at laws size h by client id mask number start begun ended own got events f part.own_is r in
    let marks : RunStands size h start begun ended = marks_of_read laws size h by client id mask number start begun ended own got events f part.own_is r in
    let all_read : ReadsAll h client id mask begun ended =
    reads_run laws size h a.front a.later by client id mask number start begun ended d.asking (behind_begin start ended d.running d.draining) a.whole f a.asked a.keeps a.reads in
    subst (λ (es : List (ℕ × Sent)). among es (places_got h client) ≡ places_of (wanted id mask es)) (sym marks.segment_is) (laws.between size h client id mask begun ended legal all_read)

-- The events that were got.

-- the events of each part were sent at their places
pub record PartsSent (h : List (ℕ × BufferEntry)) (first second : List GotEvent) : Type 0 where
  pub one : AllByRecursion (WasSentAt h) first
  pub two : AllByRecursion (WasSentAt h) second

pub parts_sent : (h : List (ℕ × BufferEntry)) (got got_by later earlier first second : List GotEvent) → AllByRecursion (WasSentAt h) got → got ≡ got_by ++ later → got_by ≡ earlier ++ (first ++ second) → PartsSent h first second
parts_sent h got got_by later earlier first second all whole parts =
    let by : AllByRecursion (WasSentAt h) got_by = all_front (WasSentAt h) got_by later (subst (AllByRecursion (WasSentAt h)) whole all) in
    let both : AllByRecursion (WasSentAt h) (first ++ second) = all_back (WasSentAt h) earlier (first ++ second) (subst (AllByRecursion (WasSentAt h)) parts by) in
    record { one = all_front (WasSentAt h) first second both; two = all_back (WasSentAt h) first second both }

-- places of calls before a point were sent before it
pub running_below : (laws : BufferLaws) (size : ℕ) (h : List (ℕ × BufferEntry)) (by client start begun ended : ℕ) (xs running draining : List BufferEntry) → Facts size h
    → entries_by by h ≡ (xs ++ Begin start (Ok begun) ∷ running) ++ End start (Ok ended) ∷ draining → AllByRecursion (λ (p : ℕ). p < ended) (named_places client (names_given running))
running_below laws size h by client start begun ended xs running draining f is =
    let before : List BufferEntry = xs ++ Begin start (Ok begun) ∷ running in
    let e : StandsIn h by before (End start (Ok ended)) draining = stands by h before (End start (Ok ended)) draining is in
    let count : ended ≡ count_at (past_of e.before) = count_of_end laws size h e.before e.after by start ended f.legal e.whole in
    let f_end : Facts size e.before = facts_front size e.before ((by, End start (Ok ended)) ∷ e.after) (subst (Facts size) e.whole f) in
    let P : ℕ × ℕ × ℕ → Type 0 = λ n. n.1 < count_at (past_of e.before) in
    let all : AllByRecursion P (names_given before) = names_sent size e.before by before f_end e.own_before in
    let late : AllByRecursion P (names_given running) = all_back P (names_given xs) (names_given running) (subst (AllByRecursion P) (names_given-append xs (Begin start (Ok begun) ∷ running)) all) in
    all_named (λ (p : ℕ). p < ended) client (names_given running) (all_weaker P (λ (n : ℕ × ℕ × ℕ). n.0 ≡ client → n.1 < ended) (λ n less same. omega (arith, less, count)) (names_given running) late)

-- the events got while the run was on and while it was drained are those at the places that the calls name
pub two_parts : (ss : List Sent) (client begun to : ℕ) (first second : ℕ → Bool) (running draining : List BufferEntry) (gs hs : List GotEvent) (start ended : ℕ)
    → events_at client first gs ≡ events_of ss (filter first (named_places client (names_given running)))
    → events_at client second hs ≡ events_of ss (filter second (named_places client (names_given draining)))
    → filter first (named_places client (names_given running)) ≡ filter (is_place_within begun to) (named_places client (names_given running))
    → filter second (named_places client (names_given draining)) ≡ filter (is_place_within begun to) (named_places client (names_given draining))
    → events_at client first gs ++ events_at client second hs ≡ events_of ss (filter (is_place_within begun to) (named_places client (names_given (behind_begin start ended running draining))))
two_parts ss client begun to first second running draining gs hs start ended one two same_one same_two =
    let test : ℕ → Bool = is_place_within begun to in
    let ps : List ℕ = named_places client (names_given running) in
    let qs : List ℕ = named_places client (names_given draining) in
    ap (λ (es : List Event). es ++ events_at client second hs) (one ∙ ap (events_of ss) same_one)
    ∙ (ap (λ (es : List Event). events_of ss (filter test ps) ++ es) (two ∙ ap (events_of ss) same_two)
    ∙ (sym (events_of-append ss (filter test ps) (filter test qs))
    ∙ (ap (events_of ss) (sym (filter-append test ps qs))
    ∙ ap (λ (rs : List ℕ). events_of ss (filter test rs))
    (sym (ap (named_places client) (names_given-append running (End start (Ok ended) ∷ draining)) ∙ named_places-append client (names_given running) (names_given draining))))))

-- what was sent by a front part of a history, in the whole
pub wanted_front : (laws : BufferLaws) (front later : List (ℕ × BufferEntry)) (id mask begun to : ℕ) → to ≤ count_at (past_of front)
    → events_of (sent (past_of (front ++ later))) (places_of (wanted id mask (events_between (Some begun) (Some to) (sent (past_of front))))) ≡ events_in (wanted id mask (events_between (Some begun) (Some to) (sent (past_of (front ++ later)))))
wanted_front laws front later id mask begun to small =
    let ss : List Sent = sent (past_of (front ++ later)) in
    let same : events_between (Some begun) (Some to) ss ≡ events_between (Some begun) (Some to) (sent (past_of front)) =
    ap (λ (xs : List Sent). events_between (Some begun) (Some to) xs) (laws.events front later) ∙ between_front begun to (sent (past_of front)) (sent_in later) small in
    subst (λ (es : List (ℕ × Sent)). events_of ss (places_of (wanted id mask es)) ≡ events_in (wanted id mask (events_between (Some begun) (Some to) ss))) same (wanted_events ss id mask begun to)

pub read_events : BufferLaws → ReadEvents
read_events laws size h by own got legal clients part client id mask number start begun ended events r =
    let f : Facts size h = facts laws size h legal clients in
    let calls : List BufferEntry = r.drained ++ Receive client r.room r.reply ∷ [] in
    let d : IsDraining calls r.got_by client id mask number start begun ended events = r.reads in
    let rest : List BufferEntry = behind_begin start ended d.running d.draining in
    let a : DrainedAt size h by client id mask number start begun ended calls d.asking rest = drained_at laws size h by client id mask number start begun ended own got events f part.own_is r in
    let marks : RunStands size h start begun ended = marks_of_read laws size h by client id mask number start begun ended own got events f part.own_is r in
    let ss : List Sent = sent (past_of h) in
    let sent_parts : PartsSent h d.given_running d.given_draining = parts_sent h got r.got_by r.got_later d.earlier d.given_running d.given_draining part.sent_so r.got_is d.got_is in
    let ps : List ℕ = named_places client (names_given d.running) in
    let below : AllByRecursion (λ (p : ℕ). p < ended) ps =
    running_below laws size a.front by client start begun ended (a.asked.before ++ Request client id mask All (Ok number) ∷ d.asking) d.running d.draining a.facts
    (with_marks (entries_by by a.front) client id mask number start begun ended d.asking d.running d.draining a.asked) in
    let same : filter (nat_le begun) ps ≡ filter (is_place_within begun ended) ps =
    agree (nat_le begun) (is_place_within begun ended) ps (all_weaker (λ (p : ℕ). p < ended) (λ (p : ℕ). nat_le begun p ≡ is_place_within begun ended p) (λ p less. before_end begun ended p less) ps below) in
    let by_places : events ≡ events_of ss (filter (is_place_within begun ended) (named_places client (names_given rest))) =
    d.events_are
    ∙ two_parts ss client begun ended (nat_le begun) (is_place_within begun ended) d.running d.draining d.given_running d.given_draining start ended
    (events_named ss client (nat_le begun) d.running d.given_running d.gives_running sent_parts.one)
    (events_named ss client (is_place_within begun ended) d.draining d.given_draining d.gives_draining sent_parts.two)
    same refl in
    let read : filter (is_place_within begun ended) (named_places client (names_given rest)) ≡ places_of (wanted id mask (events_between (Some begun) (Some ended) (sent (past_of a.front)))) =
    places_read laws size a.front by client id mask number start begun ended d.asking rest a.facts a.asked a.keeps a.reads a.within in
    let front_events : events_of ss (places_of (wanted id mask (events_between (Some begun) (Some ended) (sent (past_of a.front))))) ≡ events_in (wanted id mask (events_between (Some begun) (Some ended) ss)) =
    subst (λ (x : List (ℕ × BufferEntry)). events_of (sent (past_of x)) (places_of (wanted id mask (events_between (Some begun) (Some ended) (sent (past_of a.front))))) ≡ events_in (wanted id mask (events_between (Some begun) (Some ended) (sent (past_of x))))) (sym a.whole)
    (wanted_front laws a.front a.later id mask begun ended a.within) in
    by_places ∙ (ap (events_of ss) read ∙ (front_events ∙ ap (λ (es : List (ℕ × Sent)). events_in (wanted id mask es)) (sym marks.segment_is)))
