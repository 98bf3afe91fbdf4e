-- Where a name leads that settled to an object of another vat: over the link to that vat, or nowhere.
use Rattle.std.proofs.Common.{◌≡◌, ℕ, Bool, true, false, None, length, refl, sym, ap, subst, ◌∙◌, inl, inr}
use Rattle.std.specs.Prelude.{codes}
use Rattle.def_machine.specs.Values.{Value, Broken, Ref, Name, Naming, Foreign}
use Rattle.def_machine.specs.State.{Settled, Vat, is_in}
use Rattle.def_machine.specs.Refs as refs
use Rattle.def_machine.specs.Refs.{entry_of, standing_of, follow_at}
use Rattle.def_run.specs.World.{Script, names}
use Rattle.law_machine.proofs.Machine.StepLaws.{settled_entry}
use Rattle.law_order.specs.Ordering.Places.{aimed, leads_in}
use Rattle.law_order.proofs.Ordering.Arrived.{learnt_leads}
use Rattle.law_order.specs.Arrivals.Notes.{EndsOver}
use Rattle.law_order.proofs.Runs.Truths.{object_self}

module _ (script : Script) (honest : ℕ → Bool) (u : ℕ) (t : Vat Name) (n o : Name) (c : ℕ) (settled : standing_of (names script u) t.known n ≡ Settled (Ref o)) (far : (names script u).spot o ≡ Foreign c) (unknown : entry_of (names script u) t.known o ≡ None) where
  abbrev K : Naming Name Name
  K = names script u

  followed : refs.follow K t (Ref n) ≡ refs.severed_by K c t o
  unfolding refs.follow follow_at refs.led refs.severed refs.severed_at
  followed = ap (λ y. refs.severed K t y) (ap (λ z. refs.led K (λ y. follow_at K (length t.known) t.known y) n z) settled ∙ object_self script u (length t.known) t.known o unknown) ∙ ap (λ q. refs.severed_at K t o q) far

  abbrev By : Bool → Value Name
  By b = elim b [ true ↦ Broken (codes "partition") | false ↦ Ref o ]

  by_notice : (b : Bool) → EndsOver u c (aimed u (By b) (refs.place K t (By b)))
  unfolding aimed refs.place refs.spotted
  by_notice true = inr refl
  by_notice false = inl (o, ap (λ q. aimed u (Ref o) (refs.spotted K t o q)) far)

  pub far_ends : EndsOver u c (leads_in script honest u t (Ref n))
  unfolding refs.severed_by refs.standing_of
  far_ends = let known = settled_entry (entry_of K t.known n) (Ref o) settled in subst (EndsOver u c) (sym (learnt_leads script honest u t n (inr (known.0, known.1)) ∙ ap (λ y. aimed u y (refs.place K t y)) followed)) (by_notice (is_in c t.noticed))
