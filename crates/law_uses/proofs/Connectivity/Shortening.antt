-- What is opened for a note that asks for it is what the name leads to.
use Rattle.std.proofs.Common.{◌≡◌, ℕ, Bool, true, false, [], ◌∷◌, ◌++◌, refl, sym, ap, ◌∙◌, subst, ◌==◌}
use Rattle.def_machine.specs.Values.{Value, Ref, Naming, Spot, Own, Foreign, NoObject, IsLearnt}
use Rattle.def_machine.specs.State.{Open, Shorten, Vat, ◌>>=◌, and_then, give, look, come, send_out}
use Rattle.def_machine.specs.Refs as refs
use Rattle.def_machine.specs.Refs.{Place, Mine, Away}
use Rattle.def_machine.specs.Arrive as arrive
use Rattle.def_machine.specs.Arrive.{Incoming, Old, New}
use Rattle.law_machine.specs.Machine.Steps.{Receives, does, After}
use Rattle.law_uses.specs.Connectivity.Known.{AllOf, Start}
use Rattle.law_uses.specs.Connectivity.Settlings.{IsNamed, Follows}
use Rattle.law_uses.specs.Connectivity.Shortening.{OpensAsAsked, StepsShorten}
use Rattle.law_uses.proofs.Connectivity.Causes.{Causes, comes}
use Rattle.law_uses.proofs.Connectivity.RefsCauses.{IsAt, placed, follows_now}
use Rattle.law_uses.proofs.Connectivity.FineSteps.{first_causes}

module _ {N W : Type 0} (K : Naming N W) where
  at_spot : (s : Vat N) (m n : N) (h : ℕ) (o : Spot) → K.spot m ≡ o → refs.spotted K s m o ≡ Away h n true → K.spot n ≡ Foreign h
  unfolding refs.spotted refs.hosted
  at_spot s m n h (Own i) e f = cc
  at_spot s m n h (Foreign w) e f = let q : m ≡ n = cc in let r : w ≡ h = cc in subst (λ z. K.spot z ≡ Foreign h) q (e ∙ ap Foreign r)
  at_spot s m n h NoObject e f = hosted (s.number == refs.host_at K s.number s.known m) f
    where
      hosted : (b : Bool) → elim b [ true ↦ Mine m | false ↦ Away (refs.host_at K s.number s.known m) m false ] ≡ Away h n true → K.spot n ≡ Foreign h
      hosted true g = cc
      hosted false g = cc

  -- an object elsewhere is one of that vat
  away_foreign : (s : Vat N) (y : Value N) (n : N) (h : ℕ) → refs.place K s y ≡ Away h n true → K.spot n ≡ Foreign h
  unfolding refs.place
  away_foreign s (Ref m) n h e = at_spot s m n h (K.spot m) refl e
  away_foreign s other n h e = cc

  module _ (from c i : ℕ) (x : Incoming N W) (r : Vat N) where
    abbrev Began : Start N W
    Began = record { step = Receives from (Shorten x c i); vat = r }

    abbrev Well : Vat N → Type 0
    Well t = AllOf (OpensAsAsked K Began t x i) t.outbox

    no_notes : (t : Vat N) → t.outbox ≡ [] → Well t
    no_notes t e = subst (λ qs. AllOf (OpensAsAsked K Began t x i) qs) (sym e) tt

    shortened : (p : N) → IsNamed K Began x p → (s : Vat N) → Causes K Began s → s.outbox ≡ [] → (q : Place N) → refs.place K s (refs.follow K s (Ref p)) ≡ q → After (λ r t. Well t) r (arrive.shorten_to K i q s)
    unfolding arrive.shorten_to send_out give
    shortened p d s w o (Away h n true) e = let t : Vat N = record s { outbox = s.outbox ++ record { to = h; note = Open i n } ∷ [] } in
        let at : refs.follow K s (Ref p) ≡ Ref n = subst (IsAt K Began (refs.follow K s (Ref p))) e (placed K Began s (refs.follow K s (Ref p))) in
        subst (λ qs. AllOf (OpensAsAsked K Began t x i) (qs ++ record { to = h; note = Open i n } ∷ [])) (sym o)
        ((p, n, d, subst (λ y. Follows K Began s.happened (Ref p) y) at (follows_now K Began s w (Ref p)), refl, away_foreign s (refs.follow K s (Ref p)) n h e), tt)
    shortened p d s w o other e = no_notes s o

  learnt : (from c i : ℕ) (x : Incoming N W) (s : Vat N) → s.happened ≡ [] → s.outbox ≡ [] → After (λ r t. Well from c i x s t) s (arrive.arrive_shorten K x i s)
  unfolding arrive.arrive_shorten arrive.learn_name ◌>>=◌ look and_then give come
  learnt from c i (Old p) s e o = shortened from c i (Old p) s p refl s (first_causes K (Receives from (Shorten (Old p) c i)) s e) o _ refl
  learnt from c i (New y h) s e o = let g = comes K (Began from c i (New y h) s) (IsLearnt y) h refl s (first_causes K (Receives from (Shorten (New y h) c i)) s e) in
      shortened from c i (New y h) s _ g.2 _ g.1 o _ refl

  pub steps_shorten : StepsShorten K
  unfolding does arrive.arrive
  steps_shorten from c i x s e o = learnt from c i x s e o
