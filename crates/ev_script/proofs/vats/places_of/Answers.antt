use Rattle.std.proofs.Common.{◌∙◌, sym, ap}
use Rattle.ev_script.specs.Vats.{place_of}
use Rattle.ev_script.proofs.EachLemmas.{goes, stops, ends}
use Rattle.ev_script.proofs.vats.places_of.Goals as goal

pub returns-in_default : goal.returns-in_default
returns-in_default c =
    stops (place_of c.args.names.now) c.word-item.result c.loop-word.places _ c.args.words.now c.loop-word.word-index c.loop-word-test.true c.word-item.is
    c.loop-word.invariant (ap (place_of c.args.names.now) (sym c.as_str.ensures) ∙ sym c.place_of.ensures ∙ c.in_default.is)

pub loop-word-preserved : goal.loop-word-preserved
loop-word-preserved c =
    goes (place_of c.args.names.now) c.word-item.result c.in-Some.place c.loop-word.places _ _ c.args.words.now c.loop-word.word-index c.loop-word-test.true
    c.word-item.is c.loop-word.invariant (ap (place_of c.args.names.now) (sym c.as_str.ensures) ∙ sym c.place_of.ensures ∙ c.in-Some.is) c.in_ok-push.ensures.ok

pub returns : goal.returns
returns c = ends (place_of c.args.names.now) c.loop-word.places _ c.args.words.now c.loop-word.word-index c.loop-word-test.false c.loop-word.invariant
