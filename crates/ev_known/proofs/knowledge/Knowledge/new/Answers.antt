use Rattle.ev_known.proofs.Knowing.{none_known}
use Rattle.ev_known.proofs.knowledge.Knowledge.new.Goals as goal

pub returns-clause-stands : goal.returns-clause-stands
returns-clause-stands c p =
    none_known c.new.result c.new-2.result c.new-3.result c.new-4.result c.new-5.result c.new-6.result c.new.ensures.stands (c.new-2.ensures.stands p) c.new-3.ensures.stands c.new-4.ensures c.new-5.ensures
    c.new-6.ensures
