use Rattle.ev_receiver.proofs.Heard.{lawful_heard}
use Rattle.ev_receiver.proofs.laws.lawful_is_heard.Goals as goal

pub returns : goal.returns
returns c = lawful_heard
