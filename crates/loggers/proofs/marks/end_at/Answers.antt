use Rattle.std.proofs.Common.{ℕ, ◌≡◌, Ok, Err, map, ap, ◌∙◌, refl}
use Rattle.std.specs.Prelude.{Option, Result}
use Rattle.std.specs.Option.{option_map}
use Rattle.std.specs.Result.{result_ok}
use Rattle.buffer_core.specs.declared.replies.MarkRefusal.{MarkRefusal}
use Rattle.mid_logger.specs.Channels.{stage_ended, place_marked}
use Rattle.loggers.specs.Moments.{noted_channel}
use Rattle.loggers.proofs.StepEntries.{lent_at, called_at}
use Rattle.loggers.proofs.marks.end_at.Goals as goal

place_ok : (reply : Result ℕ MarkRefusal) → result_ok reply ≡ place_marked reply
place_ok (Ok place) = refl
place_ok (Err why) = refl

pub returns-clause-ends : goal.returns-clause-ends
returns-clause-ends g c = λ files. (
  c.end.result,
  record {
    marks = called_at g.P.BufferPort.access _ c.args.buffer c.args.slots.now c.args.ports.now c.in-Some.port.now c.end.new.self files
        (lent_at c.args.ports.now c.args.buffer c.in-Some.port.now c.requires.within c.in-Some.ensures.entry.1) c.end.ensures;
    noted = c.note_ended.ensures
        ∙ ap (λ (p : Option ℕ). map (option_map (noted_channel (λ stage. stage_ended stage p) c.args.buffer)) c.args.slots.now) (c.ok-place.ensures.value ∙ place_ok c.end.result);
  },
)
