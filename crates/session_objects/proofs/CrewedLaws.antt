-- The logger as it takes its seat.
use Rattle.std.proofs.Common.{◌≡◌, ◌∙◌, ℕ, ◌≤◌, List, [], length, ap, sym, refl, subst}
use Rattle.std.specs.Prelude.{slice_get, Option, None}
use Rattle.daq_types.specs.Callers.{caller_of_client}
use Rattle.daq_io.specs.Seen.{Seen}
use Rattle.daq_io.specs.Told.{FilesTold}
use Rattle.buffer_core.specs.Ports.{Access}
use Rattle.member_model.specs.RunEngines.{EngineEntry}
use Rattle.member_model.specs.Turns.{MemberTurn}
use Rattle.member_model.specs.TurnCalls.{member_turns}
use Rattle.mid_logger.specs.declared.channel_spec.ChannelSpec.{ChannelSpec}
use Rattle.loggers.specs.declared.logged_run.LoggedRun.{LoggedRun}
use Rattle.loggers.specs.declared.logged_run.RunDumps.{RunDumps}
use Rattle.loggers.specs.declared.logger.Logger.{Logger}
use Rattle.loggers.specs.Moments.{IsLoggerReady}
use Rattle.loggers.specs.SlotPulls.{HasEventRoom}
use Rattle.loggers.specs.Turning.{DumpsFit, buffers_begun}
use Rattle.loggers.specs.LoggerStands.{LoggerStands}
use Rattle.loggers.specs.Reasons.{GivesReasons}
use Rattle.daq_members.specs.EngineClients.{EngineClientSeen}
use Rattle.daq_members.specs.LoggerSeats.{LoggerSeen, IsFirstLogger, logger_seen}
use Rattle.daq_members.specs.LoggerTaken.{HaveCaller}
use Rattle.session_objects.specs.declared.objects.SessionObjects.{SessionObjects}
use Rattle.session_objects.specs.Members.{new_ports, IsMadeLogger, IsNewLogger}
use Rattle.session_objects.proofs.BareLaws.{new_port_callers}

module _ (channels : List ChannelSpec) (objects : SessionObjects) (client : ℕ) (asking : EngineClientSeen) (kept : Logger) (accesses : List Access)
    (made : IsMadeLogger objects.buffers.items channels kept) (engine : asking.engine ≡ objects.engine) (is : asking.client ≡ client) (none : asking.calls ≡ [])
    (ports : accesses ≡ new_ports objects.buffers.items (caller_of_client client)) where
  -- it made no call, so it had no turn
  no_turns : member_turns asking.client asking.calls ≡ []
  no_turns = ap (λ (es : List EngineEntry). member_turns asking.client es) none

  -- The logger is ready for its seat, whatever its run files are.
  stands_bare : (seen : Seen) → LoggerStands kept.run kept.dumps kept.channels accesses
      (member_turns asking.client asking.calls) seen
  stands_bare seen =
      let A : List Access → Type 0 = λ ps. LoggerStands kept.run kept.dumps kept.channels ps (member_turns asking.client asking.calls) seen in
      let B : List MemberTurn → Type 0 = λ ts. LoggerStands kept.run kept.dumps kept.channels (new_ports objects.buffers.items (caller_of_client client)) ts seen in
      let C : Option LoggedRun → Type 0 = λ run. LoggerStands run kept.dumps kept.channels (new_ports objects.buffers.items (caller_of_client client)) [] seen in
      let D' : RunDumps → Type 0 = λ dumps. LoggerStands None dumps kept.channels (new_ports objects.buffers.items (caller_of_client client)) [] seen in
      subst A (sym ports) (subst B (sym no_turns) (subst C (sym made.run) (subst D' (sym made.dumps) (made.stands (caller_of_client client) seen))))

  caller_bare : HaveCaller (caller_of_client asking.client) accesses
  caller_bare buffer a at =
      new_port_callers objects.buffers.items (caller_of_client client) buffer a (ap (λ (ps : List Access). slice_get ps buffer) (sym ports) ∙ at)
      ∙ ap caller_of_client (sym is)

  ready_bare : (seen : Seen) → IsLoggerReady kept.channels accesses seen
  ready_bare seen = let P : List Access → Type 0 = λ ps. IsLoggerReady kept.channels ps seen in
      subst P (sym ports) (made.ready (caller_of_client client) seen)

  room_bare : (number : ℕ) → HasEventRoom number kept.channels accesses
  room_bare number = let P : List Access → Type 0 = λ ps. HasEventRoom number kept.channels ps in
      subst P (sym ports) (made.room (caller_of_client client) number)

  small_bare : DumpsFit kept.dumps
  small_bare = let P : RunDumps → Type 0 = λ dumps. DumpsFit dumps in subst P (sym made.dumps) (record { start = tt; stop = tt })

  reasons_bare : (told : FilesTold) → GivesReasons kept.channels accesses told told (member_turns asking.client asking.calls)
  reasons_bare told = let P : List MemberTurn → Type 0 = λ ts. GivesReasons kept.channels accesses told told ts in subst P (sym no_turns) (made.reasons accesses told)

  -- So it is ready for its seat, with these run files.
  pub first_bare : {F : Type 0} (read : F → FilesTold) (files : F) → buffers_begun kept.run ≤ length accesses → IsFirstLogger read (logger_seen asking kept accesses files files)
  first_bare read files begun = record {
    stands = λ taken. stands_bare (read files).seen;
    caller = caller_bare;
    ready = ready_bare (read files).seen;
    room = room_bare;
    fresh = none;
    idle = made.idle;
    begun = begun;
    small = small_bare;
    reasons = reasons_bare;
  }

  pub logger_bare : {F : Type 0} (files : F) (logger : LoggerSeen F) → logger ≡ logger_seen asking kept accesses files files → IsNewLogger objects client channels files logger
  logger_bare files logger same =
      let P : LoggerSeen _ → Type 0 = λ l. IsNewLogger objects client channels files l in
      subst P (sym same) (record {
        engine = engine;
        is = is;
        run = made.run;
        dumps = made.dumps;
        calls = none;
        slots = made.slots;
        failed = made.failed;
        ports = ports;
        has_files = refl;
        had_files = refl;
      })
