use Rattle.buffer_core.proofs.OwnClients.{client_given, client_stays, numbers_differ}
use Rattle.buffer_core.proofs.laws.keeps_numbers.Goals as goal

pub returns : goal.returns
returns c = record { given = client_given; stays = client_stays; differ = numbers_differ }
