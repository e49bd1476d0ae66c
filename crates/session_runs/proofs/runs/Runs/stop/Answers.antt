use Rattle.std.specs.Prelude.{◌≡◌, Option, Some, None, refl}
use Rattle.std.specs.Option.{option_map}
use Rattle.std.proofs.Common.{ap, sym, subst, ◌∙◌}
use Rattle.daq_types.specs.declared.runs.RunState.{RunState}
use Rattle.daq_types.specs.declared.runs.RunState.TheVariants.{Stopped}
use Rattle.daq_types.specs.declared.runs.StartOutcome.{StartOutcome}
use Rattle.daq_types.specs.declared.runs.Transition.TheVariants.{Stop}
use Rattle.odb_runinfo.specs.RunSets.{SetsNumbers, state_set}
use Rattle.session_runs.specs.declared.on.CurrentRun.{CurrentRun}
use Rattle.session_runs.specs.KeptRuns.{RunsSeen}
use Rattle.session_runs.specs.MainKnowledge.{MainKnows, known_from, state_behind}
use Rattle.session_runs.specs.Members.{reporter_count, sender_count}
use Rattle.session_runs.specs.RunAnswers.{MakesStop, point_of}
use Rattle.session_runs.specs.RunEntries.{later_sheet}
use Rattle.session_runs.proofs.MadeCalls.{drives_stop, kept_stopped, on_begins, recorded, seen_of, stop_answered, stop_is_none, stop_unsaved, stops_run}
use Rattle.session_runs.proofs.runs.Runs.stop.Goals as goal

pub make-requires-clause-begins : goal.make-requires-clause-begins
make-requires-clause-begins g c =
    let inside = c.self.inside in
    let on : option_map (λ o. o.run) inside.on ≡ Some c.in-Some.open.run = ap (option_map (λ o. o.run)) (sym c.take.ensures.value ∙ c.in-Some.is) in
    rw (on_begins c.in-Some.open.run (option_map (λ o. o.run) inside.on) inside.seat.own on c.self.invariant.5 c.state-state.ensures.between) refl

pub returns-then-lacking-clause-unsaved : goal.returns-then-lacking-clause-unsaved
returns-then-lacking-clause-unsaved g c =
    let inside = c.self.inside in
    let seat = c.make.new.self in
    let r = c.in-Some.open.run in
    let time = c.announce_stop-time.result.0 in
    let tallies = c.make.new.tallies in
    let access = g.D.DatabasePort.access in
    let before = g.C.Clock.told c.args.clock.now in
    let after = g.C.Clock.told c.announce_stop-time.new.clock in
    let known : MainKnows = known_from inside.seat.own in
    let stopped : (known_from seat.own).state ≡ Stopped =
    ap (λ (k : MainKnows). k.state) c.make.ensures.known ∙ ap (λ (o : StartOutcome). state_behind o (Some Stop) known.state) (c.make.ensures.completed stop_is_none) in
    let sets = subst (λ (s : RunState). SetsNumbers (access c.announce_stop-time.new.database) (access c.set_state.new.database) (state_set s)) stopped c.set_state.ensures in
    let drives = drives_stop g.M.Rounds.round c.calls_add_up.ensures.are r c.make.result.start time c.make.result.outcome (known_from inside.seat.own).state c.announce_stop-time.result.1 c.is_err-lacking.result c.sheet_for-sheet.result tallies _ _
    _ _ _ (access c.announce_stop-time.new.database) _ _ _ refl c.make.ensures.begun c.announce_stop-time.ensures.reading c.announce_stop-time.ensures.calls sets
    (c.sheet_for-sheet.ensures.is ∙ ap (later_sheet r time) c.dump_saved.ensures) c.make.ensures.made (c.make.ensures.completed stop_is_none) c.is_err-lacking.ensures.value in
    let was_on : Option CurrentRun = option_map (λ o. o.run) inside.on in
    let is_on : Option CurrentRun = option_map (λ o. o.run) c.take.new.self in
    let s : RunsSeen = seen_of inside.quota inside.runs.items inside.members.items inside.channels was_on inside.seat in
    let later : RunsSeen = seen_of inside.quota c.push_reserved.new.self.items inside.members.items inside.channels is_on seat in
    let on : was_on ≡ Some r = ap (option_map (λ o. o.run)) (sym c.take.ensures.value ∙ c.in-Some.is) in
    let off : is_on ≡ None = ap (option_map (λ o. o.run)) c.take.ensures.after in
    let begins = on_begins r was_on inside.seat.own on c.self.invariant.5 c.state-state.ensures.between in
    let rec = recorded c.sender_count-count.result (sender_count inside.members.items) c.as_slice.result.now inside.channels c.reporter_count-analyzers.result (reporter_count inside.members.items) r time tallies c.record_of.result c.record_of.ensures (c.sender_count-count.ensures ∙ ap sender_count c.deref.ensures.value) c.as_slice.ensures
    (c.reporter_count-analyzers.ensures ∙ ap reporter_count c.deref-2.ensures.value) in
    let kept = kept_stopped inside.quota inside.runs.items c.push_reserved.new.self.items inside.members.items inside.channels was_on is_on inside.seat seat r time tallies c.record_of.result c.push_reserved.ensures.items rec off c.make.ensures.engine in
    let does = stops_run g.M.Rounds.round r time c.is_err-lacking.result tallies before after s later (access c.args.database.now) (access c.set_state.new.database) c.args.members.now c.make.new.members drives on begins kept in
    let old = point_of c.args.self.now (access c.args.database.now) c.args.members.now in
    let new = point_of later (access c.set_state.new.database) c.make.new.members in
    let makes = subst (λ (x : RunsSeen). MakesStop g.M.Rounds.round r drives.saved before after (point_of x (access c.args.database.now) c.args.members.now) new) c.self.view_is does in
    stop_unsaved g.M.Rounds.round r drives.saved before after old new (sym drives.lacks ∙ c.if-lacking.true) makes

pub returns-clause-did : goal.returns-clause-did
returns-clause-did g c =
    let inside = c.self.inside in
    let seat = c.make.new.self in
    let r = c.in-Some.open.run in
    let time = c.announce_stop-time.result.0 in
    let tallies = c.make.new.tallies in
    let access = g.D.DatabasePort.access in
    let before = g.C.Clock.told c.args.clock.now in
    let after = g.C.Clock.told c.announce_stop-time.new.clock in
    let known : MainKnows = known_from inside.seat.own in
    let stopped : (known_from seat.own).state ≡ Stopped =
    ap (λ (k : MainKnows). k.state) c.make.ensures.known ∙ ap (λ (o : StartOutcome). state_behind o (Some Stop) known.state) (c.make.ensures.completed stop_is_none) in
    let sets = subst (λ (s : RunState). SetsNumbers (access c.announce_stop-time.new.database) (access c.set_state.new.database) (state_set s)) stopped c.set_state.ensures in
    let drives = drives_stop g.M.Rounds.round c.calls_add_up.ensures.are r c.make.result.start time c.make.result.outcome (known_from inside.seat.own).state c.announce_stop-time.result.1 c.is_err-lacking.result c.sheet_for-sheet.result tallies _ _
    _ _ _ (access c.announce_stop-time.new.database) _ _ _ refl c.make.ensures.begun c.announce_stop-time.ensures.reading c.announce_stop-time.ensures.calls sets
    (c.sheet_for-sheet.ensures.is ∙ ap (later_sheet r time) c.dump_saved.ensures) c.make.ensures.made (c.make.ensures.completed stop_is_none) c.is_err-lacking.ensures.value in
    let was_on : Option CurrentRun = option_map (λ o. o.run) inside.on in
    let is_on : Option CurrentRun = option_map (λ o. o.run) c.take.new.self in
    let s : RunsSeen = seen_of inside.quota inside.runs.items inside.members.items inside.channels was_on inside.seat in
    let later : RunsSeen = seen_of inside.quota c.push_reserved.new.self.items inside.members.items inside.channels is_on seat in
    let on : was_on ≡ Some r = ap (option_map (λ o. o.run)) (sym c.take.ensures.value ∙ c.in-Some.is) in
    let off : is_on ≡ None = ap (option_map (λ o. o.run)) c.take.ensures.after in
    let begins = on_begins r was_on inside.seat.own on c.self.invariant.5 c.state-state.ensures.between in
    let rec = recorded c.sender_count-count.result (sender_count inside.members.items) c.as_slice.result.now inside.channels c.reporter_count-analyzers.result (reporter_count inside.members.items) r time tallies c.record_of.result c.record_of.ensures (c.sender_count-count.ensures ∙ ap sender_count c.deref.ensures.value) c.as_slice.ensures
    (c.reporter_count-analyzers.ensures ∙ ap reporter_count c.deref-2.ensures.value) in
    let kept = kept_stopped inside.quota inside.runs.items c.push_reserved.new.self.items inside.members.items inside.channels was_on is_on inside.seat seat r time tallies c.record_of.result c.push_reserved.ensures.items rec off c.make.ensures.engine in
    let does = stops_run g.M.Rounds.round r time c.is_err-lacking.result tallies before after s later (access c.args.database.now) (access c.set_state.new.database) c.args.members.now c.make.new.members drives on begins kept in
    let old = point_of c.args.self.now (access c.args.database.now) c.args.members.now in
    let new = point_of later (access c.set_state.new.database) c.make.new.members in
    let makes = subst (λ (x : RunsSeen). MakesStop g.M.Rounds.round r drives.saved before after (point_of x (access c.args.database.now) c.args.members.now) new) c.self.view_is does in
    stop_answered g.M.Rounds.round r drives.saved before after old new (sym drives.lacks ∙ c.if-lacking.false) makes
