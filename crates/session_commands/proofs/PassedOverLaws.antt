-- What is done with members is done where they are passed over.
use Rattle.daq_io.specs.Told.{AheadTold}
use Rattle.std.proofs.Common.{◌≡◌, ℕ, zero, suc, List, ◌++◌, ◌∷◌, refl, inl, inr, ap}
use Rattle.std.specs.Prelude.{Result, Ok, Err, Option}
use Rattle.std.proofs.Math.Logic.{⊎_elim}
use Rattle.daq_types.specs.declared.memory.NoMemory.{NoMemory}
use Rattle.daq_types.specs.declared.runs.StartOutcome.{StartOutcome}
use Rattle.daq_types.specs.declared.runs.StartOutcome.TheVariants.{Completed, Refused}
use Rattle.daq_types.specs.declared.runs.Transition.{Transition}
use Rattle.daq_types.specs.declared.runs.Transition.TheVariants.{Pause, Resume}
use Rattle.member_model.specs.RunEngines.{ClientTally, EngineEntry, Sheet}
use Rattle.session_runs.specs.MadeTransitions.{DrivesTransition}
use Rattle.member_crew.specs.Rounds.{HadRounds}
use Rattle.session_runs.specs.declared.on.CurrentRun.{CurrentRun}
use Rattle.session_runs.specs.declared.replies.RunReply.{RunReply}
use Rattle.session_runs.specs.declared.replies.RunReply.TheVariants as answer
use Rattle.session_runs.specs.RunAnswers.{AnswersPause, AnswersResume, AnswersStart, AnswersStop, BeginsRun, PausesOrResumes, CommandPoint, CutsBegin, CutsNumber, CutsStart, GotNumber, LacksNumber, MakesChange, MakesStart, MakesStop, StopsUnsaved}
use Rattle.session_commands.specs.declared.passed_over.PassedOver.{PassedOver}
use Rattle.session_commands.specs.NothingSaid.{NothingSaid, nobody, own_point}

-- the point with the members passed over
abbrev over : {M : Type 0} → CommandPoint M → CommandPoint PassedOver
over p = own_point p.runs p.database

over_same : {M : Type 0} (old new : CommandPoint M) → new ≡ old → over new ≡ over old
over_same {M} old new same = ap (λ (p : CommandPoint M). over p) same

rounds_over : (count : ℕ) → HadRounds NothingSaid count nobody nobody
rounds_over zero = refl
rounds_over (suc n) = (nobody, rounds_over n, tt)

module _ {M : Type 0} (round : M → M → Type 0) where
  drives_over : (transition : Transition) (sheet : Sheet) (start : ℕ) (outcome : StartOutcome) (tallies : List ClientTally) (own later : List EngineEntry) (before after : M)
      → DrivesTransition round transition sheet start outcome tallies own later before after → DrivesTransition NothingSaid transition sheet start outcome tallies own later nobody nobody
  drives_over transition sheet start outcome tallies own later before after drives =
      record { rounds = drives.rounds; calls = drives.calls; members = rounds_over drives.rounds }

  got_over : (run : ℕ) (old new : CommandPoint M) → GotNumber run old new → GotNumber run (over old) (over new)
  got_over run old new got = record { number = got.number; runs = got.runs; members = refl }

  begins_over : (run : ℕ) (outcome : StartOutcome) (before after : AheadTold) (old new : CommandPoint M) → BeginsRun round run outcome before after old new → BeginsRun NothingSaid run outcome before after (over old) (over new)
  begins_over run outcome before after old new b = record {
    start = b.start;
    begins = b.begins;
    idle = b.idle;
    time = b.time;
    reading = b.reading;
    dump = b.dump;
    entries = b.entries;
    calls = b.calls;
    adds = b.adds;
    tallies = b.tallies;
    drives = drives_over _ _ _ _ _ _ _ _ _ b.drives;
    kept = b.kept;
  }

  makes_over : (run : ℕ) (outcome : StartOutcome) (before after : AheadTold) (old new : CommandPoint M) → MakesStart round run outcome before after old new → MakesStart NothingSaid run outcome before after (over old) (over new)
  makes_over run outcome before after old new m = (over m.0, got_over run old m.0 m.1, begins_over run outcome before after m.0 new m.2)

  stop_over : (r : CurrentRun) (saved : Result (List ℕ) NoMemory) (before after : AheadTold) (old new : CommandPoint M) → MakesStop round r saved before after old new → MakesStop NothingSaid r saved before after (over old) (over new)
  stop_over r saved before after old new m = record {
    on = m.on;
    begins = m.begins;
    time = m.time;
    reading = m.reading;
    entries = m.entries;
    calls = m.calls;
    adds = m.adds;
    tallies = m.tallies;
    drives = drives_over _ _ _ _ _ _ _ _ _ m.drives;
    kept = m.kept;
  }

  change_over : (t : Transition) (r : CurrentRun) (old new : CommandPoint M) → MakesChange round t r old new → MakesChange NothingSaid t r (over old) (over new)
  change_over t r old new m = record {
    on = m.on;
    begins = m.begins;
    sets = m.sets;
    are_sets = m.are_sets;
    adds = m.adds;
    tallies = m.tallies;
    drives = drives_over _ _ _ _ _ _ _ _ _ m.drives;
    kept = m.kept;
  }

  pub start_over : (reply : RunReply) (before after : AheadTold) (old new : CommandPoint M) → AnswersStart round reply before after old new → AnswersStart NothingSaid reply before after (over old) (over new)
  start_over (answer.Started run) before after old new a = makes_over run Completed before after old new a
  start_over (answer.StartRefused client why) before after old new a = (a.0, makes_over a.0 (Refused client why) before after old new a.1)
  start_over (answer.RunNumber have) before after old new a =
      (record { begins = a.0.begins; number = a.0.number; runs = a.0.runs; members = refl }, a.1)
  start_over (answer.WrongState state) before after old new a = (a.0, over_same old new a.1, a.2)
  start_over answer.LastStart before after old new a = (a.0, over_same old new a.1, a.2)
  start_over (answer.Paused run) before after old new a = absurd a.0
  start_over (answer.Resumed run) before after old new a = absurd a.0
  start_over (answer.Stopped run) before after old new a = absurd a.0

  pub stops_over : (reply : RunReply) (before after : AheadTold) (old new : CommandPoint M) → AnswersStop round reply before after old new → AnswersStop NothingSaid reply before after (over old) (over new)
  stops_over (answer.Stopped run) before after old new a = (a.0, a.1, a.2, stop_over a.0 (Ok a.2) before after old new a.3)
  stops_over (answer.WrongState state) before after old new a = (a.0, over_same old new a.1, a.2)
  stops_over answer.LastStart before after old new a = (a.0, over_same old new a.1, a.2)
  stops_over (answer.RunNumber have) before after old new a = absurd a.0
  stops_over (answer.StartRefused client why) before after old new a = absurd a.0
  stops_over (answer.Started run) before after old new a = absurd a.0
  stops_over (answer.Paused run) before after old new a = absurd a.0
  stops_over (answer.Resumed run) before after old new a = absurd a.0

  pub unsaved_over : (before after : AheadTold) (old new : CommandPoint M) → StopsUnsaved round before after old new → StopsUnsaved NothingSaid before after (over old) (over new)
  unsaved_over before after old new a = (a.0, stop_over a.0 (Err (record {})) before after old new a.1)

  pub pause_over : (reply : RunReply) (old new : CommandPoint M) → AnswersPause round reply old new → AnswersPause NothingSaid reply (over old) (over new)
  pause_over (answer.Paused run) old new a = (a.0, a.1, change_over Pause a.0 old new a.2)
  pause_over (answer.WrongState state) old new a = (a.0, over_same old new a.1)
  pause_over answer.LastStart old new a = (a.0, over_same old new a.1)
  pause_over (answer.RunNumber have) old new a = absurd a.0
  pause_over (answer.StartRefused client why) old new a = absurd a.0
  pause_over (answer.Started run) old new a = absurd a.0
  pause_over (answer.Resumed run) old new a = absurd a.0
  pause_over (answer.Stopped run) old new a = absurd a.0

  pub resume_over : (reply : RunReply) (old new : CommandPoint M) → AnswersResume round reply old new → AnswersResume NothingSaid reply (over old) (over new)
  resume_over (answer.Resumed run) old new a = (a.0, a.1, change_over Resume a.0 old new a.2)
  resume_over (answer.WrongState state) old new a = (a.0, over_same old new a.1)
  resume_over answer.LastStart old new a = (a.0, over_same old new a.1)
  resume_over (answer.RunNumber have) old new a = absurd a.0
  resume_over (answer.StartRefused client why) old new a = absurd a.0
  resume_over (answer.Started run) old new a = absurd a.0
  resume_over (answer.Paused run) old new a = absurd a.0
  resume_over (answer.Stopped run) old new a = absurd a.0

-- Memory ended in a start: the members had no round.

number_over : {M : Type 0} (old new : CommandPoint M) → CutsNumber old new → CutsNumber (over old) (over new)
number_over old new c = record { called = c.called; runs = c.runs; members = refl }

begin_over : {M : Type 0} (run : ℕ) (before after : AheadTold) (old new : CommandPoint M) → CutsBegin run before after old new → CutsBegin run before after (over old) (over new)
begin_over run before after old new c = record { runs = c.runs; members = refl; calls = c.calls }

pub cut_over : {M : Type 0} (before after : AheadTold) (old new : CommandPoint M) → CutsStart before after old new → CutsStart before after (over old) (over new)
cut_over before after old new c = record {
  begins = c.begins;
  cut = ⊎_elim
      (λ cut. inl (cut.0, number_over old new cut.1))
      (λ cut. inr (cut.0, over cut.1, record { number = cut.2.number; runs = cut.2.runs; members = refl }, begin_over cut.0 before after cut.1 new cut.3))
      c.cut;
}
