-- A script that was not read, for want of memory.
use Rattle.daq_io.specs.Told.{AheadTold, FilesTold, SourceTold}
use Rattle.std.proofs.Common.{◌≡◌, ℕ, List, [], Option, Some, None, refl, sym, subst, inl, arith}
use Rattle.std.proofs.lemmas.List.{append-nil}
use Rattle.std.specs.Io.KnownBytes.{Appends, Keeps}
use Rattle.daq_types.specs.Callers.{main_caller}
use Rattle.daq_io.proofs.SeenLaws.{on_same}
use Rattle.daq_io.specs.declared.objects.Outside.{Outside}
use Rattle.odb_commands.specs.declared.dump_replies.FileReply.{FileReply}
use Rattle.daq_session.specs.SessionRows.{session_rows}
use Rattle.odb_watch.specs.Steps.{unwatched}
use Rattle.odb_watch.specs.DatabasePorts.{DatabaseAccess}
use Rattle.odb_lock.specs.SharedAccesses.{shared_access}
use Rattle.console.specs.declared.refusals.Refusals.{Refusals}
use Rattle.session_commands.specs.Stages.{first_stage}
use Rattle.session_commands.specs.ScriptLines.{BreaksScriptLine, ClosesScript, DoesScriptLine, GivesUp, WithdrawsLine}
use Rattle.console.specs.declared.endings.Ending.TheVariants.{Halted}
use Rattle.console.specs.declared.halts.Halt.TheVariants.{NoMemory as no_memory}
use Rattle.console.specs.Closing.{Finished}
use Rattle.session_commands.specs.Endings.{OneReply}
use Rattle.daq_session.specs.declared.ends.ScriptEnd.TheVariants.{NoMemory}
use Rattle.daq_session.specs.Environments.{Environment, OutsideTold, environment}
use Rattle.daq_session.specs.Sessions.{RunsScript}

appends_nothing : (told : Option (List ℕ)) → Appends told told []
appends_nothing None = tt
appends_nothing (Some text) = sym (append-nil text)

keeps_same : (told : Option (List ℕ)) → Keeps told told
keeps_same None = tt
keeps_same (Some text) = refl

-- a database as it opens
abbrev access : DatabaseAccess
access = shared_access (record { opened = unwatched session_rows; ports = 0; numbers = [] }) main_caller []

abbrev none_refused : Refusals
none_refused = record { count = 0; first = 0 }

nothing_played : (files : FilesTold) (clock : AheadTold) (source : SourceTold) (told : Option (List ℕ))
    → Finished DoesScriptLine BreaksScriptLine WithdrawsLine ClosesScript GivesUp (first_stage access files clock) (Halted no_memory) None source source told told (first_stage access files clock) none_refused
nothing_played files clock source told = record {
  lines = [];
  replies = [];
  between = first_stage access files clock;
  plays = refl;
  told_lines = told;
  noted = first_stage access files clock;
  wrote_lines = inl (record { whole = appends_nothing told; stays = refl });
  cut = first_stage access files clock;
  is_cut = inl refl;
  behind = [];
  closed = inl (record { reply = None; closed = (refl, refl); is = refl });
  counts = record { count = refl; first = refl };
  are_lines = λ text is. refl;
  given = record { came = []; gave = sym (append-nil source.gave); are = refl };
  numbered = refl;
  wrote_behind = keeps_same told;
}

-- Nothing was done.
pub nothing_ran : {D S O F E C K : Type 0} {g : _} (told : OutsideTold S O F E C) (outside : Outside S O F E C K) (replies : List (ℕ × FileReply)) → replies ≡ []
    → RunsScript {D = D} {g = g} told outside outside NoMemory replies None
unfolding nothing_played
nothing_ran told outside replies none =
    let before : Environment = environment told outside in
    record {
      final = first_stage access before.odb_files before.clock;
      plays = record {
        access = access;
        opens = refl;
        caller = refl;
        unseen = refl;
        ending = Halted no_memory;
        closing = None;
        refusals = none_refused;
        lines = record {
          finished = nothing_played before.odb_files before.clock before.source before.sink.written;
          counts = record { may = tt; source_counts = refl; lines = before.sink.faults; sink_counts = refl; behind = refl };
          odb_files = refl;
          clock = refl;
        };
        faulted = None;
        fault = λ asks. absurd (cc asks);
        end_is = refl;
        replies_are = sym none;
        saved = λ other. absurd (other refl);
        quotas = refl;
        dumps = record {
          names = refl;
          on = on_same refl;
          stay = λ names name file at. at;
          added = λ names name file at. inl at;
        };
        saves = tt;
        fault_replies = λ asks. absurd (cc asks);
        one_reply = subst (λ (came : List (ℕ × FileReply)). OneReply came before.odb_files before.odb_files) (sym none) (record { faults = omega arith; clashes = omega arith });
      };
      keeps = record { closed = refl; files = refl; alone = tt };
      asked = tt;
      ended = λ other. tt;
    }
