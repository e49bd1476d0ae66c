use Rattle.std.proofs.Common.{◌∙◌, ℕ, zero, suc, List, [], ◌∷◌, refl, ap}
use Rattle.std.specs.Prelude.{Contains}
use Rattle.turn_lock.specs.Passes.{number_of, seen_by}
use Rattle.odb_watch.specs.declared.entry.WatchEntry.{WatchEntry}
use Rattle.odb_lock.specs.SharedAccesses.{access_by_pass}
use Rattle.odb_lock.specs.SharedOdbs.{odb_lock_of}
use Rattle.session_objects.proofs.RosterLaws.{at_first, puts_keep, room_for, unseen_tells}
use Rattle.daq_session.specs.Played.{seen_by_main}
use Rattle.daq_session.proofs.left.all_passes.Goals as goal

untold : (calls : List (ℕ × WatchEntry)) (number : ℕ) → ¬ Contains (0 ∷ []) number → seen_by_main calls number []
untold calls zero absent = absurd (absent (at_first 0 [] 0 refl))
untold calls (suc number) absent = refl

pub push-requires : goal.push-requires
push-requires g c = room_for _ (odb_lock_of c.args._shared.now) _ 0 [] c.requires.others

pub returns : goal.returns
returns g c =
    let lock = odb_lock_of c.args._shared.now in
    let calls = (access_by_pass c.args.access).seen in
    puts_keep (seen_by_main calls) lock c.args.passes c.push.new.self c.into_pass-pass.result 0 []
    (record { items = c.push.ensures.items; own = c.push.ensures.own; idle = c.push.ensures.idle })
    (ap number_of c.into_pass-pass.ensures.pass ∙ c.requires.caller)
    (c.into_pass-pass.ensures.told c.args._shared.now c.requires.database)
    c.into_pass-pass.ensures.idle
    (ap seen_by c.into_pass-pass.ensures.pass)
    (unseen_tells (seen_by_main calls) (0 ∷ []) lock c.args.passes (λ number absent. untold calls number absent) c.requires.others)
