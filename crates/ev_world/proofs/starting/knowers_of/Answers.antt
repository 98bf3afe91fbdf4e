use Rattle.std.proofs.Common.{◌≡◌, ◌+◌, ◌++◌, ◌∷◌, ℕ, List, [], drop, nat_eq, Global, Vec, ap, sym, ◌∙◌}
use Rattle.std.specs.List.{list_any}
use Rattle.def_run.specs.World.{knowers}
use Rattle.ev_base.specs.declared.ids.VatId.{VatId}
use Rattle.ev_world.specs.Starting.{bare, bare_from}
use Rattle.ev_world.proofs.StartingKnowers.{knower_next, knowers_done, stranger_next}
use Rattle.ev_world.proofs.starting.knowers_of.Goals as goal
use Rattle.ev_world.proofs.starting.knowers_of.Goals.{then-contains+in_ok-vat_at+in_ok-push, else-contains}

pub loop-place-preserved : goal.loop-place-preserved
loop-place-preserved c =
    let total = knowers c.args.vat 0 (bare c.args.vats.now) in
    let tested : c.contains.result ≡ list_any (λ w. nat_eq w c.args.vat) c.index-vats-place.result.knows = c.contains.ensures.value ∙ ap (list_any (λ w. nat_eq w c.args.vat)) c.as_slice.ensures in
    elim c.if-contains.branch [
      | then-contains+in_ok-vat_at+in_ok-push w ↦
          let grown : c.if-contains.found.items ≡ c.loop-place.found.items ++ c.loop-place.place ∷ [] =
          ap (λ (xs : Vec VatId Global). xs.items) w.found-is ∙ w.in_ok-push.ensures.items ∙ ap (λ (k : ℕ). c.loop-place.found.items ++ k ∷ []) w.in_ok-vat_at.ensures in
          knower_next c.args.vat c.loop-place.place c.args.vats.now c.index-vats-place.result c.loop-place.found.items c.if-contains.found.items total c.loop-place-test.true c.index-vats-place.is (sym w.if-contains.true ∙ tested) grown c.loop-place.invariant
      | else-contains w ↦
          let same : c.loop-place.found.items ≡ c.if-contains.found.items = ap (λ (xs : Vec VatId Global). xs.items) (sym w.found-is) in
          ap (λ (ks : List ℕ). ks ++ knowers c.args.vat (c.loop-place.place + 1) (bare_from (c.loop-place.place + 1) (drop (c.loop-place.place + 1) c.args.vats.now))) (sym same)
          ∙ stranger_next c.args.vat c.loop-place.place c.args.vats.now c.index-vats-place.result c.loop-place.found.items total c.loop-place-test.true c.index-vats-place.is (sym w.if-contains.false ∙ tested) c.loop-place.invariant
    ]

pub returns : goal.returns
returns c = knowers_done c.args.vat c.loop-place.place c.args.vats.now c.loop-place.found.items (knowers c.args.vat 0 (bare c.args.vats.now)) c.loop-place-test.false c.loop-place.invariant
