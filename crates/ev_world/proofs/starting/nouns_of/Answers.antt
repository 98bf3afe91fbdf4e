use Rattle.std.proofs.Common.{◌≡◌, ℕ, ◌∙◌, Some, length, refl, slice_get, subst, sym}
use Rattle.std.proofs.lemmas.Bool.{ltb-true}
use Rattle.std.proofs.lemmas.Option.{slice_get_read}
use Rattle.ev_world.proofs.StartingKnowers.{noun_next}
use Rattle.ev_world.proofs.starting.nouns_of.Goals as goal

pub loop-known-preserved : goal.loop-known-preserved
loop-known-preserved c =
    let there : slice_get c.args.vats.now c.known-item.result ≡ Some c.in-Some.vat.now =
    subst (λ (k : ℕ). slice_get c.args.vats.now k ≡ Some c.in-Some.vat.now) c.known.view_is
    (slice_get_read c.args.vats.now (length c.args.vats.now) c.known.inside.0 c.in-Some.vat.now refl (ltb-true c.known.inside.0 (length c.args.vats.now) (sym c.in-Some.ensures.lookup.0)) c.in-Some.ensures.lookup.1) in
    noun_next c.args.vats.now c.args.knows.now c.loop-known.known-index c.known-item.result c.in-Some.vat.now c.in_ok-copy_of.field-0 c.loop-known.nouns c.push.new.self
    c.loop-known-test.true c.known-item.is there (c.in_ok-copy_of.ensures ∙ c.as_str.ensures) c.in_ok-push.ensures.ok c.loop-known.invariant
