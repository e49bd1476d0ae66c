-- What a channel does with an event that it got, and when it pulls.
use Rattle.std.specs.Prelude.{◌≡◌, ℕ, ◌+◌, Bool, true, false, nat_lt, ◌⊎◌, List, [], Option, Some, None}
use Rattle.daq_types.specs.declared.events.Event.{Event}
use Rattle.event.specs.Events.{encoding}
use Rattle.daq_io.specs.Counts.{Rose}
use Rattle.daq_io.specs.Seen.{Seen}
use Rattle.sub_files.specs.declared.open_file.Fallen.{Fallen}
use Rattle.sub_files.specs.declared.open_file.OpenFile.{OpenFile}
use Rattle.sub_files.specs.Patterns.{piece_name_by}
use Rattle.sub_files.specs.Pieces.{Series, series_of}
pub use Rattle.sub_files.specs.Rolls.{RisesWith}
use Rattle.sub_files.specs.Rolls.{WritesNext, FailsNext, NamesOne}
use Rattle.buffer_core.specs.declared.replies.Received.{Received}
use Rattle.buffer_core.specs.declared.replies.Received.TheVariants.{Got, Empty, NoClient, SmallBuf}
use Rattle.buffer_core.specs.Ports.{Access, Receives, GivesSound}
use Rattle.mid_logger.specs.declared.pulled.Pulled.{Pulled}
use Rattle.mid_logger.specs.declared.pulled.Pulled.TheVariants.{Wrote, Dropped, Nothing, Broke}
use Rattle.mid_logger.specs.declared.channel_spec.ChannelSpec.{ChannelSpec}
use Rattle.mid_logger.specs.declared.stage.BegunRun.{BegunRun}
use Rattle.mid_logger.specs.declared.stage.ChannelRun.{ChannelRun}
use Rattle.mid_logger.specs.declared.stage.ChannelStage.{ChannelStage}
use Rattle.mid_logger.specs.declared.stage.ChannelStage.TheVariants.{Draining, Drained, Broken}
pub use Rattle.sub_files.specs.RecordFiles.{NamesMore}
use Rattle.mid_logger.specs.Channels.{is_behind_end, reading_run, stage_at, CancelsRequest}

-- a channel, the dump of its run's start, its stage, what the logger knows of its port, and the files, before a call and after
-- it, and the answer
pub record PullOf : Type 0 where
  pub spec : ChannelSpec
  pub dump : List ℕ
  pub stage : ChannelStage
  pub later_stage : ChannelStage
  pub port : Access
  pub later_port : Access
  pub files : Seen
  pub later_files : Seen
  pub answer : Pulled

-- nothing is done
pub record LeavesAll (p : PullOf) (answer : Pulled) : Type 0 where
  pub answer_is : p.answer ≡ answer
  pub stage : p.later_stage ≡ p.stage
  pub port : p.later_port ≡ p.port
  pub files : p.later_files ≡ p.files

-- the client is drained, and its request cancelled
pub record DrainsClient (p : PullOf) (run : BegunRun) (answer : Pulled) : Type 0 where
  pub answer_is : p.answer ≡ answer
  pub stage : p.later_stage ≡ Drained run
  pub port : CancelsRequest p.port p.later_port run.opened
  pub files : p.later_files ≡ p.files

-- what the files of the open run have in common, where their begin records have this dump
abbrev pub run_series : ChannelSpec → ChannelRun → (dump : List ℕ) → Series
run_series spec opened dump = series_of spec.pattern spec.sub_bytes (record { run = opened.run; time = opened.time }) dump

-- the event is written, and perhaps the next file begun for it
pub record WritesEvent (p : PullOf) (run : BegunRun) (place : ℕ) (event : Event) : Type 0 where
  pub at : OpenFile
  pub answer_is : p.answer ≡ Wrote place
  pub stage : p.later_stage ≡ stage_at p.stage at
  pub port : p.later_port ≡ p.port
  pub files : WritesNext (run_series p.spec run.opened p.dump) run.opened.at at (encoding event) p.files p.later_files

-- a call on the files failed: all of them are closed, and the request is cancelled
pub record BreaksChannel (p : PullOf) (run : BegunRun) (event : Event) : Type 0 where
  pub fallen : Fallen
  pub answer_is : p.answer ≡ Broke
  pub stage : p.later_stage ≡ Broken run fallen
  pub port : CancelsRequest p.port p.later_port run.opened
  pub files : FailsNext (run_series p.spec run.opened p.dump) run.opened.at (encoding event) fallen p.files p.later_files

-- What is done with an event that was got: the first one at or behind the end of the run drains the client; one from before
-- its begin is dropped; any other is written, or the channel breaks off.
abbrev pub TakesBy : (behind early : Bool) → PullOf → BegunRun → (place : ℕ) → Event → Type 0
TakesBy true early p run place event = DrainsClient p run (Dropped place)
TakesBy false true p run place event = LeavesAll p (Dropped place)
TakesBy false false p run place event = WritesEvent p run place event ⊎ BreaksChannel p run event

abbrev pub TakesRun : PullOf → BegunRun → (place : ℕ) → Event → Type 0
TakesRun p run place event = TakesBy (is_behind_end run.ended place) (nat_lt place run.begun) p run place event

-- a stage in which a client that finds no event is drained
abbrev pub drains_at_none : ChannelStage → Bool
drains_at_none (Draining run) = true
drains_at_none stage = false

abbrev pub FindsNone : (drains : Bool) → PullOf → BegunRun → Type 0
FindsNone true p run = DrainsClient p run Nothing
FindsNone false p run = LeavesAll p Nothing

-- What is done at the reply of a receive. There is room for each event.
abbrev pub TakesReply : PullOf → BegunRun → Received → Event → Type 0
TakesReply p run (Got place start) event = TakesRun p run place event
TakesReply p run (Empty gate last) event = FindsNone (drains_at_none p.stage) p run
TakesReply p run NoClient event = LeavesAll p Nothing
TakesReply p run (SmallBuf need) event = ⊥

-- One receive, and what is done at its reply.
pub record PullsOnce (p : PullOf) (run : BegunRun) (room : ℕ) : Type 0 where
  pub reply : Received
  pub event : Event
  pub middle : Access
  pub received : Receives p.port middle run.opened.client room reply event
  pub sound : GivesSound reply event
  pub taken : TakesReply (record p { port = middle }) run reply event

-- where the channel reads no run, nothing is done
abbrev pub PullsIn : Option BegunRun → PullOf → (room : ℕ) → Type 0
PullsIn None p room = LeavesAll p Nothing
PullsIn (Some run) p room = PullsOnce p run room

-- what a pull does
abbrev pub Pulls : PullOf → (room : ℕ) → Type 0
Pulls p room = PullsIn (reading_run p.stage) p room

-- The counts of the files, by the answer.

-- the count of faults rose at Broke, and at no other answer
abbrev pub PullFaults : Pulled → (old new : ℕ) → Type 0
PullFaults Broke old new = Rose old new
PullFaults answer old new = new ≡ old

-- whether a call on the files ever failed, with this answer more
abbrev pub failed_by : Pulled → Bool → Bool
failed_by Broke before = true
failed_by answer before = before

-- the name of the last file of this run, if there is one, and that of the next
abbrev pub open_name : ChannelSpec → Option ChannelRun → List ℕ
open_name spec None = []
open_name spec (Some opened) = piece_name_by spec.pattern opened.run opened.at.sub

abbrev pub name_behind : ChannelSpec → Option ChannelRun → List ℕ
name_behind spec None = []
name_behind spec (Some opened) = piece_name_by spec.pattern opened.run (opened.at.sub + 1)

-- at Broke, where there was no fault before, the first fault is that of one of these two
abbrev pub PullNames : Pulled → (name next : List ℕ) → (old new : Option (List ℕ)) → Type 0
PullNames Broke name next old new = NamesOne name next old new
PullNames answer name next old new = new ≡ old
