use Rattle.ev_arrive.proofs.Delivers.{gift_is}
use Rattle.ev_arrive.proofs.laws.learns_gifts_as_the_machine.Goals as goal

pub returns : goal.returns
returns c = λ ts key line s h p a i tells good. gift_is ts key line s tells p a i h good
