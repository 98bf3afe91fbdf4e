use Rattle.std.proofs.Common.{List, ◌∷◌, sym, subst}
use Rattle.std.proofs.lemmas.Result.{on_ok_weaker}
use Rattle.def_event.specs.Uses.{Line}
use Rattle.ev_known.specs.Knowing.{Known, KnownStand}
use Rattle.ev_known.proofs.Growing.{found_grows}
use Rattle.ev_known.proofs.Marking.{marks_grow}
use Rattle.ev_known.proofs.knowledge.Knowledge.tell_line.Goals as goal

pub returns : goal.returns
returns c past h =
    let k : Known
    = record { facts = c.self.inside.facts; following = c.self.inside.following; runs = c.self.inside.runs; links = c.self.inside.links; marks = c.self.inside.marks; found = c.self.inside.found } in
    let inside : KnownStand k past = subst (λ (x : Known). KnownStand x past) (sym c.self.view_is) h in
    let more : List Line = record { at = c.args.at; event = c.args.event.now } ∷ past in
    let facts = c.in_ok-tell_line-2.ensures.stands past inside.facts in
    let marks = marks_grow c.args.at c.args.event.now k.marks k.following.plan c.tell_line-3.new.self.plan past c.in_ok-tell_line-3.ensures.plan inside.marks in
    on_ok_weaker c.tell_leads.result (λ links. record {
      facts = facts;
      following = c.in_ok-tell_line-3.ensures.stands past inside.following;
      runs = c.in_ok-tell_line.ensures past inside.facts inside.following inside.runs;
      links = links;
      marks = c.in_ok-tell_from.ensures.stands more facts marks;
      found = found_grows c.args.at c.args.event.now k.found past inside.found;
    }) (c.tell_leads.ensures past inside.links)
