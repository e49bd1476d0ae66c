use Rattle.buffer_core.proofs.NewNumbers.{not_again, not_third, another, once_detached, once_taken_back}
use Rattle.buffer_core.proofs.laws.tells_numbers_apart.Goals as goal

pub returns : goal.returns
returns c =
    record {
      again = not_again;
      third = not_third;
      other = another;
      detached = once_detached;
      taken_back = once_taken_back;
    }
