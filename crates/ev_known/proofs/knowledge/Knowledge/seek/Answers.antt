use Rattle.std.proofs.Common.{◌≡◌, ℕ, List, [], Option, Some, None, true, false, refl, ap, subst, ◌∙◌}
use Rattle.def_event.specs.Uses as uses
use Rattle.ev_links.specs.declared.label.Label.{Label}
use Rattle.ev_links.specs.Links.{with_label}
use Rattle.ev_known.specs.Knowing.{Searched}
use Rattle.ev_known.proofs.Knowing.{found_known, none_known_of}
use Rattle.ev_known.proofs.knowledge.Knowledge.seek.Goals as goal

pub returns-in_default : goal.returns-in_default
returns-in_default c past t h empty is other =
    let a : uses.Activation = record { at = c.args.activation.at; number = c.args.activation.number } in
    let one : c.add.new.self ≡ with_label [] c.args.label = c.in_ok-add.ensures ∙ ap (λ (ls : List Label). with_label ls c.args.label) empty in
    let none : Searched c.args.self.now c.args.activation c.add.new.self c.search.new.labels None
    = subst (λ (o : Option ℕ). Searched c.args.self.now c.args.activation c.add.new.self c.search.new.labels o) c.in_default.is c.in_ok-place.ensures in (
      (
        λ e. absurd (let bad : false ≡ true = e in cc),
        λ known. absurd (none_known_of c.args.self.now past h a t c.args.label c.add.new.self c.search.new.labels is one none other known),
      ),
      h,
    )

pub returns : goal.returns
returns c past t h empty is other =
    let a : uses.Activation = record { at = c.args.activation.at; number = c.args.activation.number } in
    let one : c.add.new.self ≡ with_label [] c.args.label = c.in_ok-add.ensures ∙ ap (λ (ls : List Label). with_label ls c.args.label) empty in
    let found : Searched c.args.self.now c.args.activation c.add.new.self c.search.new.labels (Some c.in-Some.place)
    = subst (λ (o : Option ℕ). Searched c.args.self.now c.args.activation c.add.new.self c.search.new.labels o) c.in-Some.is c.in_ok-place.ensures in (
      (λ _. found_known c.args.self.now past h a t c.args.label c.add.new.self c.search.new.labels c.in-Some.place is one found, λ _. refl),
      c.in_ok-keep_back.ensures past h,
    )
