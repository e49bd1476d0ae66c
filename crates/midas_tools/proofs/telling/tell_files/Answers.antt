use Rattle.std.proofs.Common.{◌≡◌, ℕ, List, length, nat_lt, refl, arith, subst}
use Rattle.daq_types.specs.declared.events.Event.{Event}
use Rattle.midas_tools.specs.Findings.{ClashCounts, FilesByEnd, call_counts}
use Rattle.midas_tools.specs.Gathering.{GathersTo, LooksFor, no_extent}
use Rattle.midas_tools.specs.declared.ends.ToolEnd.{ToolEnd}
use Rattle.midas_tools.proofs.Gathered.{name_at}
use Rattle.midas_tools.proofs.Told.{by_all, by_stop, ends_together, files_cut, looks_to, sink_all, sink_stop, writes_all, writes_stop}
use Rattle.midas_tools.proofs.telling.tell_files.Goals as goal

-- no events, of which it is told that they were taken
abbrev NoEvents : List Event → Type 0
NoEvents events = ⊥

pub returns-in_default-clause-writes : goal.returns-in_default-clause-writes
returns-in_default-clause-writes g c =
    let names = c.args.names.now in
    let seen = (g.F.Files.told c.args.files).seen in
    let looks = subst (λ (n : List ℕ). LooksFor (g.F.Files.told c.args.files).seen n c.look_for-end.result.0) (name_at c.args.names.now 0 c.index-names-0.result c.index-names-0.is c.requires.some) c.look_for-end.ensures.looks in
    writes_stop g.T.Summary.text (g.F.Files.told c.args.files).seen c.args.names.now (g.O.Sink.told c.args.out.now).written (g.O.Sink.told c.say_stop.new.out).written _ _ NoEvents no_extent 0 (nat_lt 1 (length c.args.names.now))
    c.index-names-0-in_default.result c.look_for-end.result.0 c.say_stop.result (λ done. subst (λ (e : ToolEnd). LooksFor (g.F.Files.told c.args.files).seen c.index-names-0.result e) done c.look_for-end.ensures.looks) refl
    (name_at c.args.names.now 0 c.index-names-0-in_default.result c.index-names-0-in_default.is c.requires.some) (looks_to NoEvents (g.F.Files.told c.args.files).seen c.args.names.now no_extent c.look_for-end.result.0 c.requires.some looks)
    c.say_stop.ensures

pub returns-in_default-clause-ends : goal.returns-in_default-clause-ends
returns-in_default-clause-ends g c =
    let faults_old = (g.F.Files.told c.args.files).faults in
    let faults_new = (g.F.Files.told c.look_for-end.result.1).faults in
    ends_together g.T.Summary.text (g.F.Files.told c.args.files).seen c.args.names.now (g.O.Sink.told c.args.out.now).written (g.O.Sink.told c.say_stop.new.out).written
    (call_counts g.O.Sink.told g.F.Files.told c.args.out.now c.say_stop.new.out c.args.files c.look_for-end.result.1) c.say_stop.result (returns-in_default-clause-writes g c)
    (sink_stop _ _ _ _ _ _ c.look_for-end.result.0 c.say_stop.result (λ failed. subst (λ (e : ToolEnd). LooksFor (g.F.Files.told c.args.files).seen c.index-names-0.result e) failed c.look_for-end.ensures.looks) c.say_stop.ensures)
    (by_stop (λ (e : ToolEnd). FilesByEnd e (g.F.Files.told c.args.files).faults (g.F.Files.told c.look_for-end.result.1).faults) _ _ _ _ _ _ c.look_for-end.result.0 c.say_stop.result c.look_for-end.ensures.faults
    (λ fault is. files_cut _ _ c.look_for-end.result.0 fault c.look_for-end.ensures.faults is) c.say_stop.ensures)
    (λ one. by_stop (λ (e : ToolEnd). ClashCounts e (g.F.Files.told c.args.files).clashes (g.F.Files.told c.look_for-end.result.1).clashes) _ _ _ _ _ _ c.look_for-end.result.0 c.say_stop.result c.look_for-end.ensures.clashes (λ fault is. tt) c.say_stop.ensures)

pub returns-in-Done-clause-writes : goal.returns-in-Done-clause-writes
returns-in-Done-clause-writes g c =
    writes_all g.T.Summary.text (g.F.Files.told c.args.files).seen c.args.names.now (g.O.Sink.told c.args.out.now).written (g.O.Sink.told c.tell_run.new.out).written _ _ (g.T.EventTaker.has_taken c.gather_all-end.new.gathered.summary)
    c.gather_all-end.new.gathered.extent
    (subst (λ (e : ToolEnd). GathersTo (g.T.EventTaker.has_taken c.gather_all-end.new.gathered.summary) (g.F.Files.told c.args.files).seen c.args.names.now c.gather_all-end.new.gathered.extent c.gather_all-end.result.at e) c.in-Done.is
    c.gather_all-end.ensures.gathers) c.requires.some c.tell_run.result c.tell_run.ensures

pub returns-in-Done-clause-ends : goal.returns-in-Done-clause-ends
returns-in-Done-clause-ends g c =
    let same : (g.F.Files.told c.gather_all-end.result.files).faults ≡ (g.F.Files.told c.args.files).faults =
    subst (λ (e : ToolEnd). FilesByEnd e (g.F.Files.told c.args.files).faults (g.F.Files.told c.gather_all-end.result.files).faults) c.in-Done.is c.gather_all-end.ensures.faults in
    ends_together g.T.Summary.text (g.F.Files.told c.args.files).seen c.args.names.now (g.O.Sink.told c.args.out.now).written (g.O.Sink.told c.tell_run.new.out).written
    (call_counts g.O.Sink.told g.F.Files.told c.args.out.now c.tell_run.new.out c.args.files c.gather_all-end.result.files) c.tell_run.result (returns-in-Done-clause-writes g c)
    (sink_all _ _ g.T.Summary.text (g.T.EventTaker.has_taken c.gather_all-end.new.gathered.summary) c.gather_all-end.new.gathered.extent _ _ c.tell_run.result c.tell_run.ensures)
    (by_all (λ (e : ToolEnd). FilesByEnd e (g.F.Files.told c.args.files).faults (g.F.Files.told c.gather_all-end.result.files).faults) _ _ _ _ g.T.Summary.text (g.T.EventTaker.has_taken c.gather_all-end.new.gathered.summary)
    c.gather_all-end.new.gathered.extent c.tell_run.result same (omega (arith, same)) (omega (arith, same)) c.tell_run.ensures)
    (λ one. by_all (λ (e : ToolEnd). ClashCounts e (g.F.Files.told c.args.files).clashes (g.F.Files.told c.gather_all-end.result.files).clashes) _ _ _ _ g.T.Summary.text (g.T.EventTaker.has_taken c.gather_all-end.new.gathered.summary)
    c.gather_all-end.new.gathered.extent c.tell_run.result tt tt tt c.tell_run.ensures)

pub returns : goal.returns
returns g c =
    let writes = writes_stop g.T.Summary.text (g.F.Files.told c.args.files).seen c.args.names.now (g.O.Sink.told c.args.out.now).written (g.O.Sink.told c.say_stop-in_default-end.new.out).written _ _
    (g.T.EventTaker.has_taken c.gather_all-end.new.gathered.summary) c.gather_all-end.new.gathered.extent c.gather_all-end.result.at (nat_lt 1 (length c.args.names.now)) c.index-names-at.result c.gather_all-end.result.end
    c.say_stop-in_default-end.result c.in_default-end.not-Done refl (name_at c.args.names.now c.gather_all-end.result.at c.index-names-at.result c.index-names-at.is (c.gather_all-end.ensures.inside c.requires.some))
    c.gather_all-end.ensures.gathers c.say_stop-in_default-end.ensures in
    record {
      writes = writes;
      ends = ends_together g.T.Summary.text (g.F.Files.told c.args.files).seen c.args.names.now (g.O.Sink.told c.args.out.now).written (g.O.Sink.told c.say_stop-in_default-end.new.out).written
          (call_counts g.O.Sink.told g.F.Files.told c.args.out.now c.say_stop-in_default-end.new.out c.args.files c.gather_all-end.result.files) c.say_stop-in_default-end.result writes
          (sink_stop _ _ _ _ _ _ c.gather_all-end.result.end c.say_stop-in_default-end.result
          (λ failed. subst (λ (e : ToolEnd). GathersTo (g.T.EventTaker.has_taken c.gather_all-end.new.gathered.summary) (g.F.Files.told c.args.files).seen c.args.names.now c.gather_all-end.new.gathered.extent c.gather_all-end.result.at e) failed
          c.gather_all-end.ensures.gathers) c.say_stop-in_default-end.ensures)
          (by_stop (λ (e : ToolEnd). FilesByEnd e (g.F.Files.told c.args.files).faults (g.F.Files.told c.gather_all-end.result.files).faults) _ _ _ _ _ _ c.gather_all-end.result.end c.say_stop-in_default-end.result c.gather_all-end.ensures.faults
          (λ fault is. files_cut _ _ c.gather_all-end.result.end fault c.gather_all-end.ensures.faults is) c.say_stop-in_default-end.ensures)
          (λ one. by_stop (λ (e : ToolEnd). ClashCounts e (g.F.Files.told c.args.files).clashes (g.F.Files.told c.gather_all-end.result.files).clashes) _ _ _ _ _ _ c.gather_all-end.result.end c.say_stop-in_default-end.result
          (c.gather_all-end.ensures.clashes one) (λ fault is. tt) c.say_stop-in_default-end.ensures);
      same = c.gather_all-end.ensures.same;
    }
