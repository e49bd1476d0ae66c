use Rattle.session_laws.proofs.ChannelsSame.{channels_agree}
use Rattle.session_laws.proofs.laws.channels_agree.Goals as goal

pub returns : goal.returns
returns c = channels_agree
