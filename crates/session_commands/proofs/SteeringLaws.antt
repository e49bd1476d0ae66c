-- What the commands of runs add to the main thread's calls on the engine and on the database.
use Rattle.daq_io.specs.Told.{AheadTold}
use Rattle.std.proofs.Common.{◌≡◌, ℕ, zero, suc, List, [], ◌∷◌, ◌++◌, refl, ap, sym, ◌∙◌, subst}
use Rattle.std.specs.Prelude.{Result, Ok, Err}
use Rattle.std.specs.List.{AllByRecursion}
use Rattle.std.proofs.lemmas.List.{append-nil}
use Rattle.daq_types.specs.declared.memory.NoMemory.{NoMemory}
use Rattle.daq_types.specs.declared.runs.StartOutcome.{StartOutcome}
use Rattle.daq_types.specs.declared.runs.StartOutcome.TheVariants.{Completed, Refused}
use Rattle.daq_types.specs.declared.runs.Transition.{Transition}
use Rattle.daq_types.specs.declared.runs.Transition.TheVariants.{Pause, Resume}
use Rattle.transitions.specs.States.{run_state_after}
use Rattle.member_model.specs.RunEngines.{ClientTally, EngineEntry}
use Rattle.odb_watch.specs.DatabasePorts.{DatabaseAccess, row_calls}
use Rattle.odb_runinfo.specs.RunSets.{state_set}
use Rattle.session_runs.specs.MadeTransitions.{done_check, going_checks}
use Rattle.session_runs.specs.declared.on.CurrentRun.{CurrentRun}
use Rattle.session_runs.specs.declared.replies.RunReply.{RunReply}
use Rattle.session_runs.specs.declared.replies.RunReply.TheVariants as answer
use Rattle.session_runs.specs.KeptRuns.{RunsSeen, behind_start}
use Rattle.session_runs.specs.RunAnswers.{AnswersPause, AnswersResume, AnswersStart, AnswersStop, BeginsRun, CommandPoint, MakesChange, MakesStart, MakesStop, StopsUnsaved, known_at_point}
use Rattle.session_runs.specs.RunsFit.{SteersEngine}
use Rattle.session_commands.specs.Keeping.{SavesDump}
use Rattle.session_commands.proofs.CallsOn.{both_on, none_on}
use Rattle.session_commands.proofs.SaveLaws.{SavedOn, begin_saved, call_saved, entries_saved, sets_saved, stop_saved}
use Rattle.session_commands.proofs.SpareLaws.{SpareLaws, SparesOn, begin_spares, entries_on, later_on, one_on, same_on, sets_spare, stop_spares}

-- The members and the channels stay, and the new calls of the main thread steer the engine.
pub record SteersOn (old new : RunsSeen) : Type 0 where
  pub members : new.members ≡ old.members
  pub channels : new.channels ≡ old.channels
  pub more : List EngineEntry
  pub calls : new.main.own ≡ old.main.own ++ more
  pub steers : AllByRecursion SteersEngine more

pub all_steer : (xs ys : List EngineEntry) → AllByRecursion SteersEngine xs → AllByRecursion SteersEngine ys → AllByRecursion SteersEngine (xs ++ ys)
all_steer [] ys left right = right
all_steer (x ∷ xs) ys left right = (left.0, all_steer xs ys left.1 right)

going_steer : (n : ℕ) (outcome : StartOutcome) (tallies : List ClientTally) → AllByRecursion SteersEngine (going_checks n ++ done_check outcome tallies ∷ [])
going_steer zero outcome tallies = (tt, tt)
going_steer (suc n) outcome tallies = (tt, going_steer n outcome tallies)

same_steers : (old new : RunsSeen) → new ≡ old → SteersOn old new
same_steers old new same = record {
  members = ap (λ (s : RunsSeen). s.members) same;
  channels = ap (λ (s : RunsSeen). s.channels) same;
  more = [];
  calls = ap (λ (s : RunsSeen). s.main.own) same ∙ sym (append-nil old.main.own);
  steers = tt;
}

start_members : (s : RunsSeen) (r : CurrentRun) (outcome : StartOutcome) → (behind_start s r outcome).members ≡ s.members
start_members s r Completed = refl
start_members s r (Refused client why) = refl

start_channels : (s : RunsSeen) (r : CurrentRun) (outcome : StartOutcome) → (behind_start s r outcome).channels ≡ s.channels
start_channels s r Completed = refl
start_channels s r (Refused client why) = refl

-- What is answered makes calls on the database that remove nothing of `/Runinfo`, and gets the text where it asks for it.
pub record AnsweredOn (a b : DatabaseAccess) : Type 0 where
  pub spares : SparesOn a b
  pub saved : SavedOn a b

pub same_answered : (a b : DatabaseAccess) → b ≡ a → AnsweredOn a b
same_answered a b same = record { spares = same_on a b same; saved = none_on SavesDump a b same }

pub later_answered : (a b c : DatabaseAccess) → AnsweredOn a b → AnsweredOn b c → AnsweredOn a c
later_answered a b c ab bc = record { spares = later_on a b c ab.spares bc.spares; saved = both_on SavesDump a b c ab.saved bc.saved }

-- A command leads from one point to another by such calls.
pub record MovesOn {M : Type 0} (old new : CommandPoint M) : Type 0 where
  pub steers : SteersOn old.runs new.runs
  pub database : AnsweredOn old.database new.database

-- So does a stop whose text found no memory, but for that text.
pub record MovesUnsaved {M : Type 0} (old new : CommandPoint M) : Type 0 where
  pub steers : SteersOn old.runs new.runs
  pub spares : SparesOn old.database new.database

module _ {M : Type 0} (laws : SpareLaws) (round : M → M → Type 0) where
  same_moves : (old new : CommandPoint M) → new ≡ old → MovesOn old new
  same_moves old new same = record {
    steers = same_steers old.runs new.runs (ap (λ (p : CommandPoint M). p.runs) same);
    database = same_answered old.database new.database (ap (λ (p : CommandPoint M). p.database) same);
  }

  begins_steers : (run : ℕ) (outcome : StartOutcome) (before after : AheadTold) (old new : CommandPoint M) → BeginsRun round run outcome before after old new → SteersOn old.runs new.runs
  begins_steers run outcome before after old new b = record {
    members = ap (λ (s : RunsSeen). s.members) b.kept ∙ start_members old.runs _ outcome;
    channels = ap (λ (s : RunsSeen). s.channels) b.kept ∙ start_channels old.runs _ outcome;
    more = _;
    calls = b.drives.calls;
    steers = (tt, going_steer b.drives.rounds outcome b.tallies);
  }

  makes_moves : (run : ℕ) (outcome : StartOutcome) (before after : AheadTold) (old new : CommandPoint M) → MakesStart round run outcome before after old new → MovesOn old new
  makes_moves run outcome before after old new m = record {
    steers = subst (λ (s : RunsSeen). SteersOn s new.runs) m.1.runs (begins_steers run outcome before after m.0 new m.2);
    database = later_answered old.database m.0.database new.database
        (record { spares = one_on laws old.database m.0.database _ m.1.number.called tt; saved = call_saved laws old.database m.0.database _ m.1.number.called })
        (record {
          spares = entries_on laws m.0.database new.database m.2.entries m.2.adds (begin_spares laws run m.2.time outcome m.2.dump m.2.entries m.2.calls);
          saved = entries_saved laws m.0.database new.database m.2.entries m.2.adds (begin_saved run m.2.time outcome m.2.dump m.2.entries m.2.calls);
        });
  }

  pub start_moves : (reply : RunReply) (before after : AheadTold) (old new : CommandPoint M) → AnswersStart round reply before after old new → MovesOn old new
  start_moves (answer.Started run) before after old new a = makes_moves run Completed before after old new a
  start_moves (answer.StartRefused client why) before after old new a = makes_moves a.0 (Refused client why) before after old new a.1
  start_moves (answer.RunNumber have) before after old new a = record {
    steers = same_steers old.runs new.runs a.0.runs;
    database = record { spares = one_on laws old.database new.database _ a.0.number.called tt; saved = call_saved laws old.database new.database _ a.0.number.called };
  }
  start_moves (answer.WrongState state) before after old new a = same_moves old new a.1
  start_moves answer.LastStart before after old new a = same_moves old new a.1
  start_moves (answer.Paused run) before after old new a = absurd a.0
  start_moves (answer.Resumed run) before after old new a = absurd a.0
  start_moves (answer.Stopped run) before after old new a = absurd a.0

  stopped_moves : (r : CurrentRun) (saved : Result (List ℕ) NoMemory) (before after : AheadTold) (old new : CommandPoint M) → MakesStop round r saved before after old new → MovesUnsaved old new
  stopped_moves r saved before after old new m = record {
    steers = record {
      members = ap (λ (s : RunsSeen). s.members) m.kept;
      channels = ap (λ (s : RunsSeen). s.channels) m.kept;
      more = _;
      calls = m.drives.calls;
      steers = (tt, going_steer m.drives.rounds Completed m.tallies);
    };
    spares = entries_on laws old.database new.database m.entries m.adds (stop_spares laws (known_at_point old).state m.time saved m.entries m.calls);
  }

  saved_moves : (r : CurrentRun) (dump : List ℕ) (before after : AheadTold) (old new : CommandPoint M) → MakesStop round r (Ok dump) before after old new → MovesOn old new
  saved_moves r dump before after old new m =
      let moves = stopped_moves r (Ok dump) before after old new m in
      record {
        steers = moves.steers;
        database = record {
          spares = moves.spares;
          saved = entries_saved laws old.database new.database m.entries m.adds (stop_saved (known_at_point old).state m.time dump m.entries m.calls);
        };
      }

  changed_moves : (t : Transition) (r : CurrentRun) (old new : CommandPoint M) → MakesChange round t r old new → MovesOn old new
  changed_moves t r old new m = record {
    steers = record {
      members = ap (λ (s : RunsSeen). s.members) m.kept;
      channels = ap (λ (s : RunsSeen). s.channels) m.kept;
      more = _;
      calls = m.drives.calls;
      steers = (tt, going_steer m.drives.rounds Completed m.tallies);
    };
    database = record {
      spares = entries_on laws old.database new.database (row_calls m.sets) m.adds (sets_spare laws (state_set (run_state_after (known_at_point old).state t)) m.sets m.are_sets);
      saved = sets_saved laws old.database new.database m.sets m.adds;
    };
  }

  pub stop_moves : (reply : RunReply) (before after : AheadTold) (old new : CommandPoint M) → AnswersStop round reply before after old new → MovesOn old new
  stop_moves (answer.Stopped run) before after old new a = saved_moves a.0 a.2 before after old new a.3
  stop_moves (answer.WrongState state) before after old new a = same_moves old new a.1
  stop_moves answer.LastStart before after old new a = same_moves old new a.1
  stop_moves (answer.RunNumber have) before after old new a = absurd a.0
  stop_moves (answer.StartRefused client why) before after old new a = absurd a.0
  stop_moves (answer.Started run) before after old new a = absurd a.0
  stop_moves (answer.Paused run) before after old new a = absurd a.0
  stop_moves (answer.Resumed run) before after old new a = absurd a.0

  pub unsaved_moves : (before after : AheadTold) (old new : CommandPoint M) → StopsUnsaved round before after old new → MovesUnsaved old new
  unsaved_moves before after old new a = stopped_moves a.0 (Err (record {})) before after old new a.1

  pub pause_moves : (reply : RunReply) (old new : CommandPoint M) → AnswersPause round reply old new → MovesOn old new
  pause_moves (answer.Paused run) old new a = changed_moves Pause a.0 old new a.2
  pause_moves (answer.WrongState state) old new a = same_moves old new a.1
  pause_moves answer.LastStart old new a = same_moves old new a.1
  pause_moves (answer.RunNumber have) old new a = absurd a.0
  pause_moves (answer.StartRefused client why) old new a = absurd a.0
  pause_moves (answer.Started run) old new a = absurd a.0
  pause_moves (answer.Resumed run) old new a = absurd a.0
  pause_moves (answer.Stopped run) old new a = absurd a.0

  pub resume_moves : (reply : RunReply) (old new : CommandPoint M) → AnswersResume round reply old new → MovesOn old new
  resume_moves (answer.Resumed run) old new a = changed_moves Resume a.0 old new a.2
  resume_moves (answer.WrongState state) old new a = same_moves old new a.1
  resume_moves answer.LastStart old new a = same_moves old new a.1
  resume_moves (answer.RunNumber have) old new a = absurd a.0
  resume_moves (answer.StartRefused client why) old new a = absurd a.0
  resume_moves (answer.Started run) old new a = absurd a.0
  resume_moves (answer.Paused run) old new a = absurd a.0
  resume_moves (answer.Stopped run) old new a = absurd a.0
