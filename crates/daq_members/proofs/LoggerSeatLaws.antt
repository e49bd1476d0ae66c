-- The logger in a session, behind a turn.
use Rattle.std.specs.Prelude.{◌≡◌, ◌≤◌, ℕ, zero, suc, Bool, List, length, map, slice_get, Option, Some, None, refl}
use Rattle.std.proofs.Common.{sym, subst, ◌∙◌, arith, inl}
use Rattle.std.proofs.lemmas.List.{length-map}
use Rattle.buffer_core.specs.Ports.{Access}
use Rattle.member_model.specs.RunEngines.{Polled}
use Rattle.transitions.specs.declared.replies.Polled.TheVariants.{Turn, Idle as NoTurn, Closed, NoClient}
use Rattle.loggers.specs.Moments.{LoggerMoment, AreSamePorts}
use Rattle.loggers.specs.NewLoggers.{GiveEachOnce}
use Rattle.mid_logger.specs.declared.channel.Channel.{Channel}
use Rattle.loggers.specs.LoggerFaults.{NotesFaults}
use Rattle.loggers.specs.LoggerLaws.{TurnsGiveOnce, PullsGiveOnce, TurnsNote, PullsNote, FinishesNote, NotesFollow}
use Rattle.daq_members.specs.OwnTurns.{start_owed}
use Rattle.daq_members.specs.LoggerTaken.{LoggerTaken, HaveCaller, PullsBelow, TakesLoggerBy, TakesLogger, pulled_channels}

-- What each port gave by a turn it gave behind what it gave before.

pulled_once : PullsGiveOnce → (dump : List ℕ) (n : ℕ) (got : Bool) (a b : LoggerMoment) → PullsBelow dump n got a b → GiveEachOnce b.ports → GiveEachOnce a.ports
pulled_once pulls dump zero got a b steps once = subst (λ (m : LoggerMoment). GiveEachOnce m.ports) steps.1 once
pulled_once pulls dump (suc n) got a b steps once = pulled_once pulls dump n steps.1 a steps.0 steps.3 (pulls dump n steps.2 steps.0 b steps.4 once)

same_once : (a b : LoggerMoment) → b ≡ a → GiveEachOnce b.ports → GiveEachOnce a.ports
same_once a b same once = subst (λ (m : LoggerMoment). GiveEachOnce m.ports) same once

once_by : TurnsGiveOnce → PullsGiveOnce → (t : LoggerTaken) (reply : Polled) (owed : Option ℕ) → TakesLoggerBy reply owed t → GiveEachOnce t.after.ports → GiveEachOnce t.before.ports
once_by turns pulls t Closed owed leaves once = same_once t.before t.after leaves.moment once
once_by turns pulls t NoClient owed leaves once = same_once t.before t.after leaves.moment once
once_by turns pulls t (NoTurn state) owed works once = pulled_once pulls _ pulled_channels works.got t.before t.after works.pulls once
once_by turns pulls t (Turn transition order dump blank) None taken once = turns (record {
  transition = transition;
  order = order;
  dump = dump;
  answer = taken.answer;
  run = t.run;
  later_run = t.later_run;
  dumps = t.dumps;
  later_dumps = t.later_dumps;
  before = t.before;
  after = t.after;
}) taken.takes once
once_by turns pulls t (Turn transition order dump blank) (Some start) ends once =
    pulled_once pulls _ pulled_channels ends.got t.before ends.pulled ends.pulls (subst (λ (ports : List Access). GiveEachOnce ports) ends.ports once)

pub once_before : TurnsGiveOnce → PullsGiveOnce → (t : LoggerTaken) → TakesLogger t → GiveEachOnce t.after.ports → GiveEachOnce t.before.ports
once_before turns pulls t takes once = once_by turns pulls t takes.reply (start_owed t.client t.calls) takes.takes once

-- Each turn notes the faults of the files.

-- what the laws of the logger's calls say of that
pub record NotedLaws : Type 0 where
  pub turns : TurnsNote
  pub pulls : PullsNote
  pub finishes : FinishesNote
  pub follow : NotesFollow

pub notes_same : (slots : List (Option Channel)) (faults : ℕ) → NotesFaults slots slots faults faults
notes_same slots faults = record { count = inl refl; stays = λ h. h; each = λ less. absurd (omega (arith, less)); only = λ h. inl h }

abbrev NotesBetween : (a b : LoggerMoment) → Type 0
NotesBetween a b = NotesFaults a.slots b.slots a.files.faults b.files.faults

same_noted : (a b : LoggerMoment) → b ≡ a → NotesBetween a b
same_noted a b same = subst (λ (m : LoggerMoment). NotesBetween a m) (sym same) (notes_same a.slots a.files.faults)

noted_then : NotedLaws → (a b c : LoggerMoment) → NotesBetween a b → NotesBetween b c → NotesBetween a c
noted_then laws a b c first then_ = laws.follow a.slots b.slots c.slots a.files.faults b.files.faults c.files.faults first then_

pulled_noted : NotedLaws → (dump : List ℕ) (n : ℕ) (got : Bool) (a b : LoggerMoment) → PullsBelow dump n got a b → NotesBetween a b
pulled_noted laws dump zero got a b steps = same_noted a b steps.1
pulled_noted laws dump (suc n) got a b steps = noted_then laws a steps.0 b (pulled_noted laws dump n steps.1 a steps.0 steps.3) (laws.pulls dump n steps.2 steps.0 b steps.4)

noted_by : NotedLaws → (t : LoggerTaken) (reply : Polled) (owed : Option ℕ) → TakesLoggerBy reply owed t → NotesBetween t.before t.after
noted_by laws t Closed owed leaves = same_noted t.before t.after leaves.moment
noted_by laws t NoClient owed leaves = same_noted t.before t.after leaves.moment
noted_by laws t (NoTurn state) owed works = pulled_noted laws _ pulled_channels works.got t.before t.after works.pulls
noted_by laws t (Turn transition order dump blank) None taken = laws.turns (record {
  transition = transition;
  order = order;
  dump = dump;
  answer = taken.answer;
  run = t.run;
  later_run = t.later_run;
  dumps = t.dumps;
  later_dumps = t.later_dumps;
  before = t.before;
  after = t.after;
}) taken.takes
noted_by laws t (Turn transition order dump blank) (Some start) ends =
    noted_then laws t.before ends.pulled t.after (pulled_noted laws _ pulled_channels ends.got t.before ends.pulled ends.pulls) (laws.finishes (record {
      run = t.run;
      later_run = t.later_run;
      dumps = t.dumps;
      later_dumps = t.later_dumps;
      slots = ends.pulled.slots;
      later_slots = t.after.slots;
      files = ends.pulled.files;
      later_files = t.after.files;
      answer = ends.answer;
    }) ends.finishes)

pub taken_noted : NotedLaws → (t : LoggerTaken) → TakesLogger t → NotesFaults t.before.slots t.after.slots t.before.files.faults t.after.files.faults
taken_noted laws t takes = noted_by laws t takes.reply (start_owed t.client t.calls) takes.takes

-- The ports stay the caller's own, and there are as many of them as of their accesses.

pub caller_kept : (caller : ℕ) (before after : List Access) → AreSamePorts before after → HaveCaller caller before → HaveCaller caller after
caller_kept caller before after same have = λ buffer b at.
    let old : (a : Access) × (slice_get before buffer ≡ Some a) = same.there buffer b at in
    (same.same buffer old.0 b old.1 at).1 ∙ have buffer old.0 old.1

pub begun_mapped : {P : Type 0} (access : P → Access) (ports : List P) (n : ℕ) → n ≤ length ports → n ≤ length (map access ports)
begun_mapped access ports n within = subst (λ (k : ℕ). n ≤ k) (sym (length-map ports access)) within

pub begun_read : {P : Type 0} (access : P → Access) (ports : List P) (n : ℕ) → n ≤ length (map access ports) → n ≤ length ports
begun_read access ports n within = subst (λ (k : ℕ). n ≤ k) (length-map ports access) within
