-- What is reached along lines whose events have other names.
use Rattle.std.proofs.Common.{◌≡◌, ◌↔◌, ℕ, List, refl, sym, ap, subst, ◌∙◌}
use Rattle.def_event.specs.Uses.{Thing, Way, Listed, Settled, Lead, Line, Reaches, start, onward, IsOpenAt, IsListed}
use Rattle.law_trace.proofs.UsesSeen.Renaming.{Renaming, IsRenaming, AreLines, thing, way, lead}
use Rattle.law_trace.proofs.UsesSeen.Facts.{lead_there, lead_image, things_apart}

module _ (r : Renaming) (good : IsRenaming r) where
  -- ---- the ways that are open

  pub open_same : (at : ℕ) (w : Way) → IsOpenAt (r.place at) (way r w) ↔ IsOpenAt at w
  open_same at Listed = (λ x. x, λ x. x)
  open_same at (Settled v) = (good.places_apart v at, ap r.place)

  pub listed_same : (w : Way) → IsListed (way r w) ↔ IsListed w
  listed_same Listed = (λ x. refl, λ x. refl)
  listed_same (Settled v) = (λ e. absurd cc, λ e. absurd cc)

  -- ---- from things that start, along ways that are open

  module _ (past later : List Line) (a : AreLines r past later) (Starts Begins : Thing → Type 0) (IsOpen IsFree : Way → Type 0) (starts : (t : Thing) → Begins (thing r t) ↔ Starts t) (opens : (w : Way) → IsFree (way r w) ↔ IsOpen w) where
    reach_there : (t : Thing) → Reaches past Starts IsOpen t → Reaches later Begins IsFree (thing r t)
    reach_there t (start s) = start ((starts t).1 s)
    reach_there t (onward d i o k) = onward (lead r d) (lead_there r good past later a d i) ((opens d.way).1 o) (reach_there d.from k)

    reach_back : (u : Thing) → Reaches later Begins IsFree u → (t : Thing) → thing r t ≡ u → Reaches past Starts IsOpen t
    reach_back u (start s) t e = start ((starts t).0 (subst Begins (sym e) s))
    reach_back u (onward c i o k) t e =
        let m = lead_image r good past later a c i in
        let d : Lead = m.0 in
        let to : thing r d.to ≡ thing r t = ap (λ (x : Lead). x.to) m.2 ∙ sym e in
        let free : IsFree (way r d.way) = subst IsFree (sym (ap (λ (x : Lead). x.way) m.2)) o in
        let before : Reaches past Starts IsOpen d.from = reach_back c.from k d.from (ap (λ (x : Lead). x.from) m.2) in
        subst (Reaches past Starts IsOpen) (things_apart r good d.to t to) (onward d m.1 ((opens d.way).0 free) before)

    pub reach_same : (t : Thing) → Reaches later Begins IsFree (thing r t) ↔ Reaches past Starts IsOpen t
    reach_same t = (λ k. reach_back (thing r t) k t refl, reach_there t)

  -- where each thing that starts was one before, so was each that is reached
  pub reach_image : (past later : List Line) → AreLines r past later → (Begins : Thing → Type 0) (IsFree : Way → Type 0) → ((u : Thing) → Begins u → (t : Thing) × (thing r t ≡ u)) → (u : Thing) → Reaches later Begins IsFree u → (t : Thing) × (thing r t ≡ u)
  reach_image past later a Begins IsFree known u (start s) = known u s
  reach_image past later a Begins IsFree known u (onward c i o k) = let m = lead_image r good past later a c i in (m.0.to, ap (λ (x : Lead). x.to) m.2)
