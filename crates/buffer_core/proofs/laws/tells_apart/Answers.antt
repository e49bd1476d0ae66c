use Rattle.buffer_core.proofs.Sampled.{refused_once_is_legal, never_sent_behind, never_sent_in_pause, never_sent_between, never_begun_twice}
use Rattle.buffer_core.proofs.laws.tells_apart.Goals as goal

pub returns : goal.returns
returns c =
    record {
      refusal = refused_once_is_legal;
      behind = never_sent_behind;
      between = never_sent_between;
      pause = never_sent_in_pause;
      twice = never_begun_twice;
    }
