use Rattle.std.specs.Prelude.{refl}
use Rattle.session_laws.specs.ClosedSessions.{session_of}
use Rattle.session_laws.proofs.laws.session_holds.Goals as goal

pub returns : goal.returns
returns c = λ closed ends.
    let composed = c.ends_composed.ensures closed ends in (
      record {
        moments = ends.moments;
        composed = composed;
        runs = λ r made. c.stopped_hold.ensures (session_of closed ends.moments) composed r (c.made_are_stopped.ensures (session_of closed ends.moments) ends.engine r made);
        others = λ name other. c.other_names_stay.ensures closed ends name other;
        callers = ends.others.database;
        marks = c.marks_end.ensures closed ends;
      },
      refl,
    )
