use Rattle.ev_vat.proofs.Starts.{begins_so, roots_are, starts_sound}
use Rattle.ev_vat.proofs.vat.Vat.start.Goals as goal

pub returns-clause-begins : goal.returns-clause-begins
returns-clause-begins c w =
    begins_so w c.in_ok-inside.inside c.new-gifts.result c.args.me c.args.fuel c.args.knows.now c.args.known_by.now c.args.key.now c.learn_roots.new.refs
    (roots_are c.in_ok-inside.inside.refs c.learn.new.self c.tell_root.new.refs c.learn_roots.new.refs c.args.me c.args.knows.now c.args.known_by.now c.in_ok-inside.ensures.refs c.in_ok-learn.ensures.ok c.in_ok-tell_root.ensures c.in_ok-learn_roots.ensures)
    c.in_ok-inside.ensures.words c.in_ok-inside.ensures.post c.in_ok-inside.ensures.heap c.in_ok-inside.ensures.micro c.new-gifts.ensures

pub returns-clause-sound : goal.returns-clause-sound
returns-clause-sound c =
    starts_sound c.in_ok-inside.inside c.args.me c.args.knows.now c.args.known_by.now c.learn_roots.new.refs c.in_ok-inside.ensures.sound c.in_ok-inside.ensures.refs
    (roots_are c.in_ok-inside.inside.refs c.learn.new.self c.tell_root.new.refs c.learn_roots.new.refs c.args.me c.args.knows.now c.args.known_by.now c.in_ok-inside.ensures.refs c.in_ok-learn.ensures.ok c.in_ok-tell_root.ensures c.in_ok-learn_roots.ensures)
