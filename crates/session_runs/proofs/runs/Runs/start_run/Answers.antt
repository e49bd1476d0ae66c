use Rattle.std.specs.Prelude.{◌≡◌, ℕ, Option, Some, None, refl}
use Rattle.std.specs.Option.{option_map}
use Rattle.std.proofs.Common.{ap, subst, ◌∙◌}
use Rattle.daq_types.specs.declared.runs.StartOutcome.TheVariants.{Completed, Refused}
use Rattle.session_runs.specs.declared.on.CurrentRun.{CurrentRun}
use Rattle.session_runs.specs.KeptRuns.{RunsSeen}
use Rattle.session_runs.specs.Members.{reporter_count}
use Rattle.session_runs.specs.RunAnswers.{AnnouncesRun, BeginsRun, point_of}
use Rattle.session_runs.proofs.MadeCalls.{begins_run, kept_on, kept_refused, seen_of}
use Rattle.session_runs.proofs.runs.Runs.start_run.Goals as goal

pub returns-in-Completed-clause-did : goal.returns-in-Completed-clause-did
returns-in-Completed-clause-did g c =
    let inside = c.self.inside in
    let seat = c.make_untold-made.new.seat in
    let made = c.make_untold-made.ensures in
    let sheet = c.in_ok-rooms.sheet in
    let time = sheet.time in
    let access = g.D.DatabasePort.access in
    let before = g.C.Clock.told c.args.clock.now in
    let after = g.C.Clock.told c.announce_run.new.clock in
    let announced : AnnouncesRun c.args.run inside.quota (reporter_count inside.members.items) before after (access c.args.database.now) (access c.announce_run.new.database) sheet =
    subst (λ (n : ℕ). AnnouncesRun c.args.run inside.quota n before after (access c.args.database.now) (access c.announce_run.new.database) sheet) (c.reporter_count-count.ensures ∙ ap reporter_count c.deref.ensures.value) c.in_ok-rooms.ensures.announced in
    let current : CurrentRun = record { run = c.args.run; start = c.make_untold-made.result.start; time = time; quota = inside.quota } in
    let on : Option CurrentRun = option_map (λ o. o.run) inside.on in
    let s : RunsSeen = seen_of inside.quota inside.runs.items inside.members.items inside.channels on inside.seat in
    let later : RunsSeen = seen_of inside.quota c.reserve.new.self.items inside.members.items inside.channels (Some current) seat in
    let kept = kept_on inside.quota inside.runs.items c.reserve.new.self.items inside.members.items inside.channels on inside.seat seat current c.reserve.ensures.items made.engine in
    let idle : on ≡ None = ap (λ (x : RunsSeen). x.on) c.self.view_is ∙ c.requires.idle in
    let does = begins_run g.M.Rounds.round c.calls_add_up.ensures.are c.args.run c.make_untold-made.result.start Completed c.make_untold-made.result.outcome sheet before after s later
    (access c.args.database.now) (access c.announce_run.new.database) (access c.set_outcome.new.database) c.args.members.now c.make_untold-made.new.members idle made.begun announced c.set_outcome.ensures
    c.in-Completed.is made.made kept in (
      refl,
      subst (λ (x : RunsSeen). BeginsRun g.M.Rounds.round c.args.run Completed before after (point_of x (access c.args.database.now) c.args.members.now) (point_of later (access c.set_outcome.new.database) c.make_untold-made.new.members))
          c.self.view_is does,
    )

pub returns-in-Refused-clause-did : goal.returns-in-Refused-clause-did
returns-in-Refused-clause-did g c =
    let inside = c.self.inside in
    let seat = c.make_untold-made.new.seat in
    let made = c.make_untold-made.ensures in
    let sheet = c.in_ok-rooms.sheet in
    let time = sheet.time in
    let outcome = c.make_untold-made.result.outcome in
    let access = g.D.DatabasePort.access in
    let before = g.C.Clock.told c.args.clock.now in
    let after = g.C.Clock.told c.announce_run.new.clock in
    let announced : AnnouncesRun c.args.run inside.quota (reporter_count inside.members.items) before after (access c.args.database.now) (access c.announce_run.new.database) sheet =
    subst (λ (n : ℕ). AnnouncesRun c.args.run inside.quota n before after (access c.args.database.now) (access c.announce_run.new.database) sheet) (c.reporter_count-count.ensures ∙ ap reporter_count c.deref.ensures.value) c.in_ok-rooms.ensures.announced in
    let current : CurrentRun = record { run = c.args.run; start = c.make_untold-made.result.start; time = time; quota = inside.quota } in
    let on : Option CurrentRun = option_map (λ o. o.run) inside.on in
    let s : RunsSeen = seen_of inside.quota inside.runs.items inside.members.items inside.channels on inside.seat in
    let later : RunsSeen = seen_of inside.quota c.push_reserved.new.self.items inside.members.items inside.channels on seat in
    let kept = kept_refused inside.quota inside.runs.items c.reserve.new.self.items c.push_reserved.new.self.items inside.members.items inside.channels on inside.seat seat current outcome c.in-Refused.client c.in-Refused.why c.refused_record.result
    c.reserve.ensures.items c.push_reserved.ensures.items c.refused_record.ensures c.in-Refused.is made.engine in
    let idle : on ≡ None = ap (λ (x : RunsSeen). x.on) c.self.view_is ∙ c.requires.idle in
    let does = begins_run g.M.Rounds.round c.calls_add_up.ensures.are c.args.run c.make_untold-made.result.start (Refused c.in-Refused.client c.in-Refused.why) outcome sheet before
    after s later (access c.args.database.now) (access c.announce_run.new.database) (access c.set_outcome.new.database) c.args.members.now c.make_untold-made.new.members idle made.begun announced
    c.set_outcome.ensures c.in-Refused.is made.made kept in
    subst (λ (x : RunsSeen). BeginsRun g.M.Rounds.round c.args.run (Refused c.in-Refused.client c.in-Refused.why) before after (point_of x (access c.args.database.now) c.args.members.now)
    (point_of later (access c.set_outcome.new.database) c.make_untold-made.new.members)) c.self.view_is does
