-- What is said of the outside that a script leaves is said of the outside that is handed back.
use Rattle.std.specs.Prelude.{◌≡◌, Option}
use Rattle.std.proofs.Common.{sym, subst}
use Rattle.daq_io.specs.declared.objects.Outside.{Outside}
use Rattle.odb_commands.specs.NotedReplies.{NotedReplies}
use Rattle.session_objects.specs.declared.record.SessionRecord.{SessionRecord}
use Rattle.daq_session.specs.declared.ends.ScriptEnd.{ScriptEnd}
use Rattle.daq_session.specs.declared.played.LinesEnd.{LinesEnd}
use Rattle.daq_session.specs.Environments.{OutsideTold}
use Rattle.daq_session.specs.LinesEnded.{outside_left}
use Rattle.daq_session.specs.Sessions.{RunsScript}

pub lines_left : {D S O F E C K : Type 0} {g : _} (told : OutsideTold S O F E C) (before : Outside S O F E C K) (lines : LinesEnd S O E C F K) (after : Outside S O F E C K) (end : ScriptEnd) (replies : NotedReplies) (kept : Option (SessionRecord D g))
    → after ≡ outside_left lines → replies ≡ lines.replies → RunsScript told before (outside_left lines) end lines.replies.replies kept → RunsScript told before after end replies.replies kept
lines_left {D} {S} {O} {F} {E} {C} {K} told before lines after end replies kept outside same ran =
    subst (λ (o : Outside S O F E C K). RunsScript told before o end replies.replies kept) (sym outside)
    (subst (λ (r : NotedReplies). RunsScript told before (outside_left lines) end r.replies kept) (sym same) ran)
