use Rattle.std.proofs.Common.{◌≡◌, ap, rules, subst, ◌∙◌}
use Rattle.session_runs.specs.MainSeats.{MainSeen, StandsFree}
use Rattle.session_commands.specs.Endings.{closing_calls}
use Rattle.session_commands.proofs.main_play.MainPlayPlaying.play.Goals as goal

pub returns-clause-plays : goal.returns-clause-plays
returns-clause-plays g c =
    let out = c.play_out-ending in (
      record {
        played = record {
          last = out.new.answerer.runs;
          records_are = c.into_parts-seat.ensures.runs;
          own_are = c.close.ensures.closed ∙ ap (λ (m : MainSeen). closing_calls m.own) c.into_parts-seat.ensures.main;
          knows = record {
            step = c.on.ensures.step;
            free = subst (λ (m : MainSeen). StandsFree m.own) c.into_parts-seat.ensures.main c.state.ensures.between;
          };
          finishes = λ first source written has.
              let same : out.new.answerer.lists.now ≡ c.args.self.lists.now = out.ensures.stays.same_lists in
              rw same at (out.ensures.finished first source written has);
        };
        main_is = search rules;
        own = search rules;
        idle = search rules;
        same = out.ensures.stays.port;
      },
      out.ensures.counts,
    )
