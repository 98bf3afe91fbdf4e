use Rattle.std.proofs.Common.{Some}
use Rattle.ev_top.specs.Commands.{command_of}
use Rattle.ev_top.proofs.CauseLemmas.{long_comes, rule_comes, fault_comes, no_tree_comes, none_astray, fuel_comes, deep_comes, drew_comes}
use Rattle.ev_top.proofs.at_hand.top_of_bytes.Goals as goal

pub returns-clause-long : goal.returns-clause-long
returns-clause-long g c =
    long_comes (Some c.args.bytes.now) (g.K.Sink.written c.args.out.now) (g.K.Sink.written c.answer_for.new.out) c.answer_for.result
    (command_of c.args.words.now) c.answer_for.ensures.due

pub returns-clause-rule : goal.returns-clause-rule
returns-clause-rule g c =
    rule_comes (Some c.args.bytes.now) (g.K.Sink.written c.args.out.now) (g.K.Sink.written c.answer_for.new.out) c.answer_for.result
    (command_of c.args.words.now) c.answer_for.ensures.due

pub returns-clause-refused : goal.returns-clause-refused
returns-clause-refused g c =
    fault_comes (Some c.args.bytes.now) (g.K.Sink.written c.args.out.now) (g.K.Sink.written c.answer_for.new.out) c.answer_for.result
    (command_of c.args.words.now) c.answer_for.ensures.due

pub returns-clause-no_tree : goal.returns-clause-no_tree
returns-clause-no_tree g c =
    no_tree_comes (Some c.args.bytes.now) (g.K.Sink.written c.args.out.now) (g.K.Sink.written c.answer_for.new.out) c.answer_for.result
    (command_of c.args.words.now) c.answer_for.ensures.due

pub returns-clause-never_astray : goal.returns-clause-never_astray
returns-clause-never_astray g c =
    none_astray (Some c.args.bytes.now) (g.K.Sink.written c.args.out.now) (g.K.Sink.written c.answer_for.new.out) c.answer_for.result
    (command_of c.args.words.now) c.answer_for.ensures.due

pub returns-clause-fuel : goal.returns-clause-fuel
returns-clause-fuel g c =
    fuel_comes (Some c.args.bytes.now) (g.K.Sink.written c.args.out.now) (g.K.Sink.written c.answer_for.new.out) c.answer_for.result
    (command_of c.args.words.now) c.answer_for.ensures.due

pub returns-clause-depth : goal.returns-clause-depth
returns-clause-depth g c =
    deep_comes (Some c.args.bytes.now) (g.K.Sink.written c.args.out.now) (g.K.Sink.written c.answer_for.new.out) c.answer_for.result
    (command_of c.args.words.now) c.answer_for.ensures.due

pub returns-clause-repeated : goal.returns-clause-repeated
returns-clause-repeated g c =
    drew_comes (Some c.args.bytes.now) (g.K.Sink.written c.args.out.now) (g.K.Sink.written c.answer_for.new.out) c.answer_for.result
    (command_of c.args.words.now) c.answer_for.ensures.due
