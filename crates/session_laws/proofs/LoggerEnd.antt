-- The logger of a closed session keeps its contract over the histories: nobody else detaches a client of it, so no port gave it one
-- that it has.
use Rattle.std.specs.Prelude.{◌≡◌, ◌≢◌, ℕ, zero, suc, false, List, [], ◌∷◌, length, slice_get, Option, Some, None, refl}
use Rattle.std.specs.List.{AllByRecursion}
use Rattle.std.proofs.Common.{ap, sym, subst, ◌∙◌, arith}
use Rattle.daq_types.specs.Callers.{entries_by, main_caller, caller_of_client}
use Rattle.buffer_core.specs.declared.entry.BufferEntry.{BufferEntry}
use Rattle.buffer_core.specs.declared.entry.BufferEntry.TheVariants.{Detach, SendInRun}
use Rattle.buffer_core.specs.Window.{Window, opening}
use Rattle.buffer_core.specs.Histories.{History}
use Rattle.buffer_core.specs.Ports.{Access, GotEvent}
use Rattle.buffer_core.specs.CallersView.{detaches, given_in}
use Rattle.turn_lock.specs.History.{IsPartOf}
use Rattle.member_model.specs.SentCalls.{IsSendInRun, EachCall}
use Rattle.member_model.specs.TurnCalls.{member_turns}
use Rattle.member_model.specs.LoggerKept.{LoggerChannel, LoggerPort, KeepsLogger}
use Rattle.history_laws.specs.CallerLaws.{AttachesGiveOnce}
use Rattle.mid_logger.specs.Channels.{GivesEachOnce}
use Rattle.loggers.specs.NewLoggers.{GiveEachOnce}
use Rattle.loggers.specs.LoggerStands.{logger_channels, logger_port, logger_ports, StandingLoggerKeeps}
use Rattle.analyzers.specs.AnalyzerKept.{IsAnalyzerCall}
use Rattle.session_laws.specs.ClosedSessions.{ClosedAnalyzer, ClosedBuffer, ClosedFront, ClosedSession, analyzer_client, logger_client, logger_caller, size_in, history_in, history_of_buffer, engine_calls, calls_on_buffer, got_from_buffer}
use Rattle.session_laws.specs.MembersAtEnd.{AnalyzerAtEnd, FrontAtEnd, IsAccessTo, MembersAtEnd}
use Rattle.session_laws.proofs.EachCaller.{each_by, none_all, by_caller, at_own}
use Rattle.session_laws.proofs.NoneTaken.{OthersKeep, none_taken}

-- What a port gave, whole: the law of the lock.
abbrev pub GotAll : Type 0
GotAll = (history seen : History) (caller : ℕ) (first : Window) → IsPartOf history caller seen → given_in caller first history ≡ given_in caller first seen

-- Nobody else detaches.

pub send_keeps : (e : BufferEntry) → IsSendInRun e → (client : ℕ) → detaches e client ≡ false
send_keeps (SendInRun start stated e reply) is client = refl
send_keeps e is client = absurd is

abbrev DetachesNone : (by other : ℕ) → BufferEntry → Type 0
DetachesNone by other e = other ≢ by → (client : ℕ) → detaches e client ≡ false

sends_keep : (by other : ℕ) (es : List BufferEntry) → EachCall IsSendInRun es → AllByRecursion (DetachesNone by other) es
sends_keep by other [] all = tt
sends_keep by other (e ∷ es) all = ((λ differs client. send_keeps e all.0 client), sends_keep by other es all.1)

own_keep : (by : ℕ) (es : List BufferEntry) → AllByRecursion (DetachesNone by by) es
own_keep by [] = tt
own_keep by (e ∷ es) = ((λ differs client. absurd (differs refl)), own_keep by es)

front_keeps : (c : ClosedSession) (client : ℕ) (f : ClosedFront) {moments : List ℕ} → FrontAtEnd c client f moments → (buffer : ℕ) → AllByRecursion (DetachesNone (logger_caller c) (caller_of_client client)) (calls_on_buffer c (caller_of_client client) buffer)
front_keeps c client f ends =
    let by : ℕ = caller_of_client client in
    at_own c by f.buffer ends.elsewhere (AllByRecursion (DetachesNone (logger_caller c) by)) (sends_keep (logger_caller c) by (calls_on_buffer c by f.buffer) ends.stands.stands.keeps.only_sends) tt

read_keeps : (e : BufferEntry) → IsAnalyzerCall e → (client : ℕ) → detaches e client ≡ false
read_keeps (Detach n reply) is client = absurd is
read_keeps e is client = refl

reads_keep : (by other : ℕ) (es : List BufferEntry) → EachCall IsAnalyzerCall es → AllByRecursion (DetachesNone by other) es
reads_keep by other [] all = tt
reads_keep by other (e ∷ es) all = ((λ differs client. read_keeps e all.0 client), reads_keep by other es all.1)

analyzer_keeps_calls : (c : ClosedSession) (client : ℕ) (a : ClosedAnalyzer) → AnalyzerAtEnd c client a → (buffer : ℕ) → AllByRecursion (DetachesNone (logger_caller c) (caller_of_client client)) (calls_on_buffer c (caller_of_client client) buffer)
analyzer_keeps_calls c client a ends =
    let by : ℕ = caller_of_client client in
    at_own c by a.buffer ends.elsewhere (AllByRecursion (DetachesNone (logger_caller c) by)) (reads_keep (logger_caller c) by (calls_on_buffer c by a.buffer) ends.stands.stands.holds.calls.only_reads) tt

others_keep : (c : ClosedSession) → MembersAtEnd c → (buffer : ℕ) → OthersKeep (logger_caller c) (history_of_buffer c buffer)
others_keep c ends buffer =
    each_by (DetachesNone (logger_caller c)) (history_of_buffer c buffer)
    (by_caller (λ by. AllByRecursion (DetachesNone (logger_caller c) by) (calls_on_buffer c by buffer)) c
    (none_all (DetachesNone (logger_caller c) main_caller) (calls_on_buffer c main_caller buffer) (ends.main.buffers buffer))
    (λ client f at. front_keeps c client f (ends.fronts client f at) buffer)
    (own_keep (logger_caller c) (calls_on_buffer c (logger_caller c) buffer))
    (λ place a at. analyzer_keeps_calls c (analyzer_client c place) a (ends.analyzers place a at) buffer)
    (λ by past. none_all (DetachesNone (logger_caller c) by) (calls_on_buffer c by buffer) (ends.others.buffers by past buffer)))

-- The ports and the buffers, number by number.

pub data BothAt {X Y : Type 0} (xs : List X) (ys : List Y) (k : ℕ) : Type 0 where
  Both : (x : X) (y : Y) → slice_get xs k ≡ Some x → slice_get ys k ≡ Some y → BothAt xs ys k
  Neither : slice_get xs k ≡ None → slice_get ys k ≡ None → BothAt xs ys k

next_both : {X Y : Type 0} (x : X) (xs : List X) (y : Y) (ys : List Y) (k : ℕ) → BothAt xs ys k → BothAt (x ∷ xs) (y ∷ ys) (suc k)
next_both x xs y ys k (Both a b at there) = Both a b at there
next_both x xs y ys k (Neither none nor) = Neither none nor

pub both_at : {X Y : Type 0} (xs : List X) (ys : List Y) (k : ℕ) → length xs ≡ length ys → BothAt xs ys k
both_at [] [] k same = Neither refl refl
both_at [] (y ∷ ys) k same = absurd (omega arith)
both_at (x ∷ xs) [] k same = absurd (omega arith)
both_at (x ∷ xs) (y ∷ ys) zero same = Both x y refl refl
both_at (x ∷ xs) (y ∷ ys) (suc k) same = next_both x xs y ys k (both_at xs ys k (omega arith))

given_at : AttachesGiveOnce → (c : ClosedSession) (ends : MembersAtEnd c) (buffer : ℕ) (a : Access) → slice_get ends.logger.ports buffer ≡ Some a → BothAt ends.logger.ports c.buffers buffer → GivesEachOnce a.own
given_at law c ends buffer a at (Both x b here there) =
    let by : ℕ = logger_caller c in
    let access : IsAccessTo by b a = ends.logger.access buffer a b at there in
    let keep : OthersKeep by b.history = subst (λ (o : Option ClosedBuffer). OthersKeep by (history_in o)) there (others_keep c ends buffer) in
    let once : GivesEachOnce (entries_by by b.history) = law b.size b.history by (ends.buffers buffer b there) (none_taken by 0 b.history keep) in
    subst (λ (own : List BufferEntry). GivesEachOnce own) (access.part.own ∙ sym access.own) once
given_at law c ends buffer a at (Neither none nor) = absurd (cc (at, none))

pub given_once : AttachesGiveOnce → (c : ClosedSession) (ends : MembersAtEnd c) → GiveEachOnce ends.logger.ports
given_once law c ends buffer a at = given_at law c ends buffer a at (both_at ends.logger.ports c.buffers buffer ends.logger.many)

-- What the ports told is what the histories tell.

port_to : (by : ℕ) → Option ClosedBuffer → LoggerPort
port_to by o = record { own = entries_by by (history_in o); got = given_in by (opening (size_in o)) (history_in o) }

port_so : GotAll → (by : ℕ) (b : ClosedBuffer) (a : Access) → IsAccessTo by b a → logger_port (Some a) ≡ port_to by (Some b)
unfolding port_to
port_so all by b a access =
    let own : a.own ≡ entries_by by b.history = access.own ∙ sym access.part.own in
    let got : a.got ≡ given_in by (opening b.size) b.history = access.got ∙ sym (all b.history access.seen by (opening b.size) access.part) in
    ap (λ (l : List BufferEntry). record { own = l; got = a.got }) own ∙ ap (λ (g : List GotEvent). record { own = entries_by by b.history; got = g }) got

port_at : GotAll → (c : ClosedSession) (ends : MembersAtEnd c) (buffer : ℕ) → BothAt ends.logger.ports c.buffers buffer → logger_ports ends.logger.ports buffer ≡ port_to (logger_caller c) (slice_get c.buffers buffer)
unfolding port_to
port_at all c ends buffer (Both a b at there) =
    ap logger_port at
    ∙ (port_so all (logger_caller c) b a (ends.logger.access buffer a b at there) ∙ sym (ap (port_to (logger_caller c)) there))
port_at all c ends buffer (Neither none nor) = ap logger_port none ∙ sym (ap (port_to (logger_caller c)) nor)

pub logger_keeps : StandingLoggerKeeps → GotAll → AttachesGiveOnce → (c : ClosedSession) → MembersAtEnd c
    → KeepsLogger (logger_channels (λ number. 0) c.slots) (λ buffer. record { own = calls_on_buffer c (logger_caller c) buffer; got = got_from_buffer c (logger_caller c) buffer })
    (member_turns (logger_client c) (engine_calls c (logger_caller c))) c.files
unfolding port_to
logger_keeps law all once c ends =
    let channels : List LoggerChannel = logger_channels (λ number. 0) c.slots in
    let turns = member_turns (logger_client c) (engine_calls c (logger_caller c)) in
    let stands = ends.logger.stands (given_once once c ends) in
    let kept : KeepsLogger channels (logger_ports ends.logger.ports) turns c.files = law ends.logger.run ends.logger.dumps c.slots ends.logger.ports turns c.files (λ number. 0) stands in
    let same : logger_ports ends.logger.ports ≡ (λ buffer. record { own = calls_on_buffer c (logger_caller c) buffer; got = got_from_buffer c (logger_caller c) buffer }) =
    (λ i buffer. port_at all c ends buffer (both_at ends.logger.ports c.buffers buffer ends.logger.many) i) in
    subst (λ (p : ℕ → LoggerPort). KeepsLogger channels p turns c.files) same kept
