use Rattle.std.proofs.Common.{Bool, cond, List, [], ◌∷◌, ◌++◌, ap, ◌∙◌}
use Rattle.ev_base.specs.declared.values.Value.{Value}
use Rattle.ev_tables.specs.declared.thing.Thing.{Thing}
use Rattle.ev_tables.specs.Table.{place_of}
use Rattle.ev_tables.proofs.Keys.{values_of, absent, values_push}
use Rattle.ev_tables.proofs.places.Places.push.Goals as goal

pub returns-clause-ok : goal.returns-clause-ok
returns-clause-ok c =
    let ks = c.self.inside.things.keys in
    let t : Thing = record { 0 = c.args.value.now } in
    let gone = absent c.args.value.now ks (ap (place_of c.args.value.now) c.self.view_is ∙ c.requires) in
    ap values_of (c.in_ok-insert_full.ensures.keys ∙ ap (λ (b : Bool). cond b ks (ks ++ t ∷ [])) gone)
    ∙ values_push ks t ∙ ap (λ (vs : List Value). vs ++ c.args.value.now ∷ []) c.self.view_is
