-- What the commands of runs keep.
use Rattle.daq_io.specs.Told.{AheadTold}
use Rattle.std.proofs.Common.{◌≡◌, ℕ, List, [], ◌∷◌, refl, ap, sym, ◌∙◌, subst}
use Rattle.std.specs.Prelude.{Result, Ok, Err}
use Rattle.std.proofs.Math.Logic.{⊎_elim}
use Rattle.daq_types.specs.declared.memory.NoMemory.{NoMemory}
use Rattle.daq_types.specs.declared.runs.StartOutcome.{StartOutcome}
use Rattle.daq_types.specs.declared.runs.StartOutcome.TheVariants.{Completed, Refused}
use Rattle.daq_types.specs.declared.runs.Transition.{Transition}
use Rattle.daq_types.specs.declared.runs.Transition.TheVariants.{Pause, Resume}
use Rattle.odb_tree.specs.declared.entry.DatabaseEntry.{DatabaseEntry}
use Rattle.odb_watch.specs.declared.entry.WatchEntry.{WatchEntry}
use Rattle.odb_watch.specs.DatabasePorts.{AddsCall, AddsEntries, DatabaseAccess, IsSamePort, MayAdd}
use Rattle.member_crew.specs.Rounds.{HadRounds}
use Rattle.session_runs.specs.declared.on.CurrentRun.{CurrentRun}
use Rattle.session_runs.specs.declared.replies.RunReply.{RunReply}
use Rattle.session_runs.specs.declared.replies.RunReply.TheVariants as answer
use Rattle.session_runs.specs.KeptRuns.{RunsSeen, behind_start}
use Rattle.session_runs.specs.RunAnswers.{AnswersPause, AnswersResume, AnswersStart, AnswersStop, BeginsRun, CommandPoint, CutsBegin, CutsStart, GotNumber, MakesChange, MakesStart, MakesStop, StopsUnsaved}
use Rattle.session_commands.specs.KeptByCommands.{KeptByCommand}

port_same : (a : DatabaseAccess) → IsSamePort a a
port_same a = record { database = refl; caller = refl }

port_on : (a b c : DatabaseAccess) → IsSamePort a b → IsSamePort b c → IsSamePort a c
port_on a b c ab bc = record { database = bc.database ∙ ab.database; caller = bc.caller ∙ ab.caller }

pub entries_port : (entries : List WatchEntry) (a b : DatabaseAccess) → AddsEntries a b entries → IsSamePort a b
entries_port [] a b same = subst (λ (x : DatabaseAccess). IsSamePort a x) (sym same) (port_same a)
entries_port (entry ∷ entries) a b adds = port_on a adds.0 b adds.1.same (entries_port entries adds.0 b adds.2)

may_port : (a b : DatabaseAccess) (entry : DatabaseEntry) → MayAdd a b entry → IsSamePort a b
may_port a b entry may = ⊎_elim
    (λ (same : b ≡ a). subst (λ (x : DatabaseAccess). IsSamePort a x) (sym same) (port_same a))
    (λ (adds : AddsCall a b entry). adds.same) may

-- what is kept behind a start
start_quota : (s : RunsSeen) (r : CurrentRun) (outcome : StartOutcome) → (behind_start s r outcome).quota ≡ s.quota
start_quota s r Completed = refl
start_quota s r (Refused client why) = refl

start_engine : (s : RunsSeen) (r : CurrentRun) (outcome : StartOutcome) → (behind_start s r outcome).main.engine ≡ s.main.engine
start_engine s r Completed = refl
start_engine s r (Refused client why) = refl

module _ {M : Type 0} (round : M → M → Type 0) where
  same_kept : (old new : CommandPoint M) → new ≡ old → KeptByCommand round old new
  same_kept old new same = record {
    quota = ap (λ (p : CommandPoint M). p.runs.quota) same;
    engine = ap (λ (p : CommandPoint M). p.runs.main.engine) same;
    count = 0;
    rounds = ap (λ (p : CommandPoint M). p.members) same;
    port = subst (λ (p : CommandPoint M). IsSamePort old.database p.database) (sym same) (port_same old.database);
  }

  number_port : (run : ℕ) (old new : CommandPoint M) → GotNumber run old new → IsSamePort old.database new.database
  number_port run old new got = got.number.called.same

  begins_kept : (run : ℕ) (outcome : StartOutcome) (before after : AheadTold) (old new : CommandPoint M) → BeginsRun round run outcome before after old new → KeptByCommand round old new
  begins_kept run outcome before after old new b = record {
    quota = ap (λ (s : RunsSeen). s.quota) b.kept ∙ start_quota old.runs _ outcome;
    engine = ap (λ (s : RunsSeen). s.main.engine) b.kept ∙ start_engine old.runs _ outcome;
    count = b.drives.rounds;
    rounds = b.drives.members;
    port = entries_port b.entries old.database new.database b.adds;
  }

  makes_kept : (run : ℕ) (outcome : StartOutcome) (before after : AheadTold) (old new : CommandPoint M) → MakesStart round run outcome before after old new → KeptByCommand round old new
  makes_kept run outcome before after old new m =
      let begun : KeptByCommand round m.0 new = begins_kept run outcome before after m.0 new m.2 in
      record {
        quota = begun.quota ∙ ap (λ (s : RunsSeen). s.quota) m.1.runs;
        engine = begun.engine ∙ ap (λ (s : RunsSeen). s.main.engine) m.1.runs;
        count = begun.count;
        rounds = subst (λ (x : M). HadRounds round begun.count x new.members) m.1.members begun.rounds;
        port = port_on old.database m.0.database new.database (number_port run old m.0 m.1) begun.port;
      }

  pub start_kept : (reply : RunReply) (before after : AheadTold) (old new : CommandPoint M) → AnswersStart round reply before after old new → KeptByCommand round old new
  start_kept (answer.Started run) before after old new a = makes_kept run Completed before after old new a
  start_kept (answer.StartRefused client why) before after old new a = makes_kept a.0 (Refused client why) before after old new a.1
  start_kept (answer.RunNumber have) before after old new a = record {
    quota = ap (λ (s : RunsSeen). s.quota) a.0.runs;
    engine = ap (λ (s : RunsSeen). s.main.engine) a.0.runs;
    count = 0;
    rounds = a.0.members;
    port = a.0.number.called.same;
  }
  start_kept (answer.WrongState state) before after old new a = same_kept old new a.1
  start_kept answer.LastStart before after old new a = same_kept old new a.1
  start_kept (answer.Paused run) before after old new a = absurd a.0
  start_kept (answer.Resumed run) before after old new a = absurd a.0
  start_kept (answer.Stopped run) before after old new a = absurd a.0

  stop_kept : (r : CurrentRun) (saved : Result (List ℕ) NoMemory) (before after : AheadTold) (old new : CommandPoint M) → MakesStop round r saved before after old new → KeptByCommand round old new
  stop_kept r saved before after old new m = record {
    quota = ap (λ (s : RunsSeen). s.quota) m.kept;
    engine = ap (λ (s : RunsSeen). s.main.engine) m.kept;
    count = m.drives.rounds;
    rounds = m.drives.members;
    port = entries_port m.entries old.database new.database m.adds;
  }

  change_kept : (t : Transition) (r : CurrentRun) (old new : CommandPoint M) → MakesChange round t r old new → KeptByCommand round old new
  change_kept t r old new m = record {
    quota = ap (λ (s : RunsSeen). s.quota) m.kept;
    engine = ap (λ (s : RunsSeen). s.main.engine) m.kept;
    count = m.drives.rounds;
    rounds = m.drives.members;
    port = entries_port _ old.database new.database m.adds;
  }

  pub stops_kept : (reply : RunReply) (before after : AheadTold) (old new : CommandPoint M) → AnswersStop round reply before after old new → KeptByCommand round old new
  stops_kept (answer.Stopped run) before after old new a = stop_kept a.0 (Ok a.2) before after old new a.3
  stops_kept (answer.WrongState state) before after old new a = same_kept old new a.1
  stops_kept answer.LastStart before after old new a = same_kept old new a.1
  stops_kept (answer.RunNumber have) before after old new a = absurd a.0
  stops_kept (answer.StartRefused client why) before after old new a = absurd a.0
  stops_kept (answer.Started run) before after old new a = absurd a.0
  stops_kept (answer.Paused run) before after old new a = absurd a.0
  stops_kept (answer.Resumed run) before after old new a = absurd a.0

  pub unsaved_kept : (before after : AheadTold) (old new : CommandPoint M) → StopsUnsaved round before after old new → KeptByCommand round old new
  unsaved_kept before after old new a = stop_kept a.0 (Err (record {})) before after old new a.1

  pub pause_kept : (reply : RunReply) (old new : CommandPoint M) → AnswersPause round reply old new → KeptByCommand round old new
  pause_kept (answer.Paused run) old new a = change_kept Pause a.0 old new a.2
  pause_kept (answer.WrongState state) old new a = same_kept old new a.1
  pause_kept answer.LastStart old new a = same_kept old new a.1
  pause_kept (answer.RunNumber have) old new a = absurd a.0
  pause_kept (answer.StartRefused client why) old new a = absurd a.0
  pause_kept (answer.Started run) old new a = absurd a.0
  pause_kept (answer.Resumed run) old new a = absurd a.0
  pause_kept (answer.Stopped run) old new a = absurd a.0

  pub resume_kept : (reply : RunReply) (old new : CommandPoint M) → AnswersResume round reply old new → KeptByCommand round old new
  resume_kept (answer.Resumed run) old new a = change_kept Resume a.0 old new a.2
  resume_kept (answer.WrongState state) old new a = same_kept old new a.1
  resume_kept answer.LastStart old new a = same_kept old new a.1
  resume_kept (answer.RunNumber have) old new a = absurd a.0
  resume_kept (answer.StartRefused client why) old new a = absurd a.0
  resume_kept (answer.Started run) old new a = absurd a.0
  resume_kept (answer.Paused run) old new a = absurd a.0
  resume_kept (answer.Stopped run) old new a = absurd a.0

  begin_kept : (run : ℕ) (before after : AheadTold) (old new : CommandPoint M) → CutsBegin run before after old new → KeptByCommand round old new
  begin_kept run before after old new c = record {
    quota = ap (λ (s : RunsSeen). s.quota) c.runs;
    engine = ap (λ (s : RunsSeen). s.main.engine) c.runs;
    count = 0;
    rounds = c.members;
    port = ⊎_elim
        (λ same. subst (λ (x : DatabaseAccess). IsSamePort old.database x) (sym same.1) (port_same old.database))
        (λ made. entries_port made.1 old.database new.database made.4)
        c.calls;
  }

  kept_on : (a b c : CommandPoint M) (count : ℕ) → IsSamePort a.database b.database → b.runs ≡ a.runs → b.members ≡ a.members → KeptByCommand round b c → KeptByCommand round a c
  kept_on a b c count port runs members k = record {
    quota = k.quota ∙ ap (λ (s : RunsSeen). s.quota) runs;
    engine = k.engine ∙ ap (λ (s : RunsSeen). s.main.engine) runs;
    count = k.count;
    rounds = subst (λ (x : M). HadRounds round k.count x c.members) members k.rounds;
    port = port_on a.database b.database c.database port k.port;
  }

  pub cut_kept : (before after : AheadTold) (old new : CommandPoint M) → CutsStart before after old new → KeptByCommand round old new
  cut_kept before after old new c = ⊎_elim
      (λ cut. record {
        quota = ap (λ (s : RunsSeen). s.quota) cut.1.runs;
        engine = ap (λ (s : RunsSeen). s.main.engine) cut.1.runs;
        count = 0;
        rounds = cut.1.members;
        port = may_port old.database new.database _ cut.1.called;
      })
      (λ cut. kept_on old cut.1 new 0 (number_port cut.0 old cut.1 cut.2) cut.2.runs cut.2.members (begin_kept cut.0 before after cut.1 new cut.3))
      c.cut
