-- What a vat has in hand leads to vats that are there, where all names are of vats of the script.
use Rattle.std.proofs.Common.{◌≡◌, ℕ, ◌<◌, Bool, true, false, Option, Some, None, length, refl, sym, subst, ◌∙◌, ◌==◌}
use Rattle.std.proofs.lemmas.Bool.{eq-eqb}
use Rattle.std.specs.Prelude.{slice_get}
use Rattle.def_machine.specs.Values.{Value, Ref, Name, Object, Naming, Own, Foreign, naming, spot_of, host_of}
use Rattle.def_machine.specs.State.{Known, Vat}
use Rattle.def_machine.specs.Refs as refs
use Rattle.def_machine.specs.Refs.{Place, Mine, Away, entry_of}
use Rattle.def_run.specs.Draws.{draw_word}
use Rattle.def_run.specs.World.{Script, World, names}
use Rattle.law_fate.specs.Name.Names.{AllOf, HostIsTrue, KnownOk, ValueOk}
use Rattle.law_fate.proofs.Name.Looks.{follow_ok}
use Rattle.law_fate.proofs.Name.Run.{IsInside}
use Rattle.law_order.specs.Ordering.Ways.{Way, End}
use Rattle.law_order.specs.Ordering.Steps.{LeadsAmid, Ready, IsHeld}
use Rattle.law_order.proofs.Ordering.Sent.{leads_there}
use Rattle.law_order.proofs.Sending.Passing.{aimed_away, placed_other, entry_host}
use Rattle.law_order.proofs.Sending.Sending.{Around}

module _ (script : Script) (honest : ℕ → Bool) (w : World) (around : Around script w) (v : ℕ) (r : Vat Name) (at : slice_get w.vats v ≡ Some r) (s : Vat Name) (ready : Ready script honest w v s) (hosts : AllOf HostIsTrue s.known) (inside : AllOf (KnownOk (IsInside (length script.vats))) s.known) where
  abbrev K : Naming Name Name
  K = names script v

  abbrev count : ℕ
  count = length script.vats

  -- where another vat hosts a name, it is the name's host
  hosted_host : (q : Name) (u : ℕ) (m : Name) (o : Bool) → refs.hosted K s.number q (refs.host_at K s.number s.known q) ≡ Away u m o → u ≡ host_of q
  unfolding refs.hosted refs.host_at refs.host_in names
  hosted_host q u m o e = go (entry_of K s.known q) refl e
    where
      known : (k : Known Name) → entry_of K s.known q ≡ Some k → (b : Bool) → elim b [ true ↦ Mine q | false ↦ Away k.host q false ] ≡ Away u m o → u ≡ host_of q
      known k i true f = absurd (cc)
      known k i false f = let same : k.host ≡ u = cc in sym same ∙ entry_host (draw_word script.key) v s.known q k hosts i

      unknown : (b : Bool) → (s.number == s.number) ≡ b → elim b [ true ↦ Mine q | false ↦ Away s.number q false ] ≡ Away u m o → u ≡ host_of q
      unknown true i f = absurd (cc)
      unknown false i f = absurd (let t : (s.number == s.number) ≡ true = eq-eqb s.number s.number refl in cc)

      go : (c : Option (Known Name)) → entry_of K s.known q ≡ c → elim (s.number == refs.host_in s.number c) [ true ↦ Mine q | false ↦ Away (refs.host_in s.number c) q false ] ≡ Away u m o → u ≡ host_of q
      go (Some k) i f = known k i (s.number == k.host) f
      go None i f = unknown (s.number == s.number) refl f

  object_host : (h i u : ℕ) (m : Name) (o b : Bool) → refs.spotted K s (Object h i) (elim b [ true ↦ Own i | false ↦ Foreign h ]) ≡ Away u m o → u ≡ h
  unfolding refs.spotted
  object_host h i u m o true e = absurd (cc)
  object_host h i u m o false e = let same : h ≡ u = cc in sym same

  name_host : (q : Name) (u : ℕ) (m : Name) (o : Bool) → refs.place K s (Ref q) ≡ Away u m o → u ≡ host_of q
  unfolding refs.place refs.spotted names naming spot_of host_of
  name_host (Object h i) u m o e = object_host h i u m o (v == h) e
  name_host other u m o e = hosted_host other u m o e

  placed_inside : (y : Value Name) (u : ℕ) (m : Name) (o : Bool) → refs.place K s y ≡ Away u m o → ValueOk (IsInside count) y → u < count
  unfolding refs.place
  placed_inside (Ref q) u m o e h = subst (λ z. z < count) (sym (name_host q u m o e)) h
  placed_inside other u m o e h = absurd (cc)

  pub target_there : (x : Value Name) → IsHeld script honest w v s x → ValueOk (IsInside count) x → (u : ℕ) (n : Name) → LeadsAmid script honest w v s v x ≡ End (Way v u) n → (t : Vat Name) × (slice_get w.vats u ≡ Some t)
  target_there x hand ok u n e =
      let y : Value Name = refs.follow K s x in
      let a = aimed_away v u n y (refs.place K s y) (sym (leads_there script honest w v r s at x hand) ∙ e) in
      let low = placed_inside y u a.0 a.1 a.2 (follow_ok K (IsInside count) s inside x ok) in
      let other = placed_other script v s ready.number y u a.0 a.1 a.2 in
      let stand = around.stands.vats v r at in
      let l = around.linked v u stand.low low other in
      let m = around.meet in m.receivers v u l.0 l.1
