-- The events between the marks of a run: read off the calls of a buffer and their replies alone.
use Rattle.std.specs.Prelude.{◌≡◌, ◌≢◌, ℕ, ◌==◌, Bool, true, false, if◌then◌else◌, List, [], ◌∷◌, length, take, drop, slice_get, Option, Some, None, Ok, unwrap_or, ⊤, ◌⊎◌}
use Rattle.std.specs.List.{enumerate_from}
use Rattle.buffer_core.specs.declared.gate.RunGate.{RunGate}
use Rattle.buffer_core.specs.declared.gate.RunGate.TheVariants.{Shut, Running, Paused as InPause}
use Rattle.buffer_core.specs.declared.entry.BufferEntry.{BufferEntry}
use Rattle.buffer_core.specs.declared.entry.BufferEntry.TheVariants.{Begin, Pause, Resume, End}
use Rattle.buffer_core.specs.Window.{Sent}
use Rattle.buffer_core.specs.Points.{News, Taken, news_of, sent, past_of}

-- what an entry tells of runs: the mark that was set, with the start number, and with the reply where a run begins or ends
pub data Mark : Type 0 where
  NoMark : Mark
  Begun : (start place : ℕ) → Mark
  Paused : (start : ℕ) → Mark
  Resumed : (start : ℕ) → Mark
  Ended : (start place : ℕ) → Mark

-- a refusal sets no mark
abbrev pub mark_of : BufferEntry → Mark
mark_of (Begin start (Ok n)) = Begun start n
mark_of (Pause start (Ok n)) = Paused start
mark_of (Resume start (Ok n)) = Resumed start
mark_of (End start (Ok n)) = Ended start n
mark_of entry = NoMark

abbrev pub begun_after : Mark → (start : ℕ) → Option ℕ → Option ℕ
begun_after (Begun s n) start before = if s == start then Some n else before
begun_after mark start before = before

abbrev pub ended_after : Mark → (start : ℕ) → Option ℕ → Option ℕ
ended_after (Ended s n) start before = if s == start then Some n else before
ended_after mark start before = before

abbrev pub paused_after : Mark → (start : ℕ) → Bool → Bool
paused_after (Paused s) start before = if s == start then true else before
paused_after (Resumed s) start before = if s == start then false else before
paused_after (Ended s n) start before = if s == start then false else before
paused_after mark start before = before

-- the reply of the accepted begin of the run with this start number, if there is one
abbrev pub begun_at : List (ℕ × BufferEntry) → (start : ℕ) → Option ℕ
begun_at [] start = None
begun_at (e ∷ past) start = begun_after (mark_of e.1) start (begun_at past start)

-- the reply of its accepted end
abbrev pub ended_at : List (ℕ × BufferEntry) → (start : ℕ) → Option ℕ
ended_at [] start = None
ended_at (e ∷ past) start = ended_after (mark_of e.1) start (ended_at past start)

-- whether a pause of the run was accepted, and no resume or end of it since
abbrev pub is_paused_at : List (ℕ × BufferEntry) → (start : ℕ) → Bool
is_paused_at [] start = false
is_paused_at (e ∷ past) start = paused_after (mark_of e.1) start (is_paused_at past start)

-- the run with this start number began, and did not end
pub record IsOpenAt (past : List (ℕ × BufferEntry)) (start : ℕ) : Type 0 where
  pub from : ℕ
  pub begun : begun_at past start ≡ Some from
  pub unended : ended_at past start ≡ None

-- the run gate by the marks alone: shut where each run that began has ended, and else open for one that did not, which is
-- paused or not
abbrev pub IsGateAt : List (ℕ × BufferEntry) → RunGate → Type 0
IsGateAt past Shut = (start from : ℕ) → begun_at past start ≡ Some from → (to : ℕ) × (ended_at past start ≡ Some to)
IsGateAt past (Running start) = IsOpenAt past start × (is_paused_at past start ≡ false)
IsGateAt past (InPause start) = IsOpenAt past start × (is_paused_at past start ≡ true)

-- the events from the begin on up to the end, or to the last one where there is no end, each with its place
abbrev pub events_between : (begin end : Option ℕ) → List Sent → List (ℕ × Sent)
events_between None end ss = []
events_between (Some from) end ss = enumerate_from from (drop from (take (unwrap_or end (length ss)) ss))

abbrev pub segment_at : List (ℕ × BufferEntry) → (start : ℕ) → List (ℕ × Sent)
segment_at past start = events_between (begun_at past start) (ended_at past start) (sent past)

-- the events between the marks of the run with this start number, each with its place
abbrev pub segment : (history : List (ℕ × BufferEntry)) → (start : ℕ) → List (ℕ × Sent)
segment h start = segment_at (past_of h) start

-- what is asked of the event that is news, and of the run that a mark begins
abbrev pub OnTaken : News → (Sent → Type 0) → Type 0
OnTaken (Taken s) P = P s
OnTaken news P = ⊤

abbrev pub OnBegun : Mark → (ℕ → Type 0) → Type 0
OnBegun (Begun start n) P = P start
OnBegun mark P = ⊤

-- no event was sent in a run that was paused then
abbrev pub NeverInPause : List (ℕ × BufferEntry) → Type 0
NeverInPause [] = ⊤
NeverInPause (e ∷ past) = OnTaken (news_of e.1) (λ s. is_paused_at past s.start ≡ false) × NeverInPause past

-- no run began twice
abbrev pub BeginsOnce : List (ℕ × BufferEntry) → Type 0
BeginsOnce [] = ⊤
BeginsOnce (e ∷ past) = OnBegun (mark_of e.1) (λ start. begun_at past start ≡ None) × BeginsOnce past

pub record AreRunsKept (past : List (ℕ × BufferEntry)) : Type 0 where
  -- an event that was sent in a run has its place in the segment of that run
  pub inside : (place : ℕ) (s : Sent) → slice_get (sent past) place ≡ Some s → s.start ≢ 0 → (i : ℕ) × (slice_get (segment_at past s.start) i ≡ Some (place, s))
  -- and the other events of a segment were sent in no run
  pub only : (start i place : ℕ) (s : Sent) → slice_get (segment_at past start) i ≡ Some (place, s) → (s.start ≡ start) ⊎ (s.start ≡ 0)
  pub unpaused : NeverInPause past
  pub once : BeginsOnce past

-- Each event that was sent in a run has its place between the marks of that run, and no event of another run has a
-- place there. None was sent in a run between a pause and the next resume or end. No run begins twice.
abbrev pub KeepsRuns : (history : List (ℕ × BufferEntry)) → Type 0
KeepsRuns h = AreRunsKept (past_of h)
