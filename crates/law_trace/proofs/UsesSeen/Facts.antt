-- What is told by lines whose events have other names.
use Rattle.std.proofs.Common.{◌≡◌, ◌↔◌, ℕ, List, ◌∷◌, map, Option, Some, None, option_map, refl, sym, ap, subst, ◌∙◌, inl, inr}
use Rattle.def_event.specs.Uses.{Thing, AName, AList, Activation, Fact, Begun, Opened, Given, Made, Captured, Audition, Anew, Lead, Line, gains, begins, makes, leads, IsAmong, TellsAnew, IsTold, IsLead}
use Rattle.law_trace.proofs.UsesSeen.Same.{alike, among_map, among_same, both, either, image, never, through}
use Rattle.law_trace.proofs.UsesSeen.Renaming.{Renaming, IsRenaming, AreLines, none, one, silent, frame, event, thing, activation, fact, anew, lead}
use Rattle.law_trace.proofs.UsesSeen.Telling.{gains_same, begins_same, makes_same, leads_same}

module _ (r : Renaming) (good : IsRenaming r) where
  -- ---- nothing becomes one

  pub things_apart : (t u : Thing) → thing r t ≡ thing r u → t ≡ u
  things_apart (AName n) (AName m) e = let h : r.name n ≡ r.name m = cc in ap AName (good.names_apart n m h)
  things_apart (AList v n) (AList w m) e =
      let h : r.vat v ≡ r.vat w = cc in
      let k : n ≡ m = cc in
      ap (λ u. AList u n) (good.vats_apart v w h) ∙ ap (AList w) k
  things_apart (AName n) (AList w m) e = absurd cc
  things_apart (AList v n) (AName m) e = absurd cc

  pub activations_apart : (a b : Activation) → activation r a ≡ activation r b → a ≡ b
  activations_apart a b e =
      ap (λ (v : ℕ). record { at = v; number = a.number }) (good.places_apart a.at b.at (ap (λ (x : Activation). x.at) e))
      ∙ ap (λ (n : ℕ). record { at = b.at; number = n }) (ap (λ (x : Activation). x.number) e)

  facts_apart : (f g : Fact) → fact r f ≡ fact r g → f ≡ g
  facts_apart (Begun a) (Begun b) e = let h : activation r a ≡ activation r b = cc in ap Begun (activations_apart a b h)
  facts_apart (Opened a) (Opened b) e = let h : activation r a ≡ activation r b = cc in ap Opened (activations_apart a b h)
  facts_apart (Given a t) (Given b u) e =
      let h : activation r a ≡ activation r b = cc in
      let k : thing r t ≡ thing r u = cc in
      ap (λ x. Given x t) (activations_apart a b h) ∙ ap (Given b) (things_apart t u k)
  facts_apart (Made n) (Made m) e = let h : r.name n ≡ r.name m = cc in ap Made (good.names_apart n m h)
  facts_apart (Captured n t) (Captured m u) e =
      let h : r.name n ≡ r.name m = cc in
      let k : thing r t ≡ thing r u = cc in
      ap (λ x. Captured x t) (good.names_apart n m h) ∙ ap (Captured m) (things_apart t u k)
  facts_apart (Audition n) (Audition m) e = let h : r.name n ≡ r.name m = cc in ap Audition (good.names_apart n m h)
  facts_apart f g e = absurd cc

  -- ---- facts

  module _ (S T : Fact → Type 0) (same : (f : Fact) → S (fact r f) ↔ T f) where
    tells_same : (f : Fact) (o : Option Anew) → TellsAnew S (option_map (anew r) o) (fact r f) ↔ TellsAnew T o f
    tells_same f None = (λ x. x, λ x. x)
    tells_same f (Some n) = both (never (same n.mark)) (among_same (fact r) facts_apart f (n.mark ∷ n.facts) (fact r n.mark ∷ map (fact r) n.facts) refl)

    anew_same : (f : Fact) (o p : Option Anew) → p ≡ option_map (anew r) o → TellsAnew S p (fact r f) ↔ TellsAnew T o f
    anew_same f o p e = through (alike (λ (q : Option Anew). TellsAnew S q (fact r f)) p (option_map (anew r) o) e) (tells_same f o)

  quiet_facts : (past : List Line) (bytes : List ℕ) (f : Fact) → IsTold (frame past bytes ∷ past) f → IsTold past f
  unfolding IsTold gains begins makes
  quiet_facts past bytes f (inl h) = h
  quiet_facts past bytes f (inr (inl i)) = absurd i
  quiet_facts past bytes f (inr (inr (inl t))) = absurd t
  quiet_facts past bytes f (inr (inr (inr t))) = absurd t

  pub told_same : (past later : List Line) → AreLines r past later → (f : Fact) → IsTold later (fact r f) ↔ IsTold past f
  unfolding IsTold
  told_same past later none f = (λ x. x, λ x. x)
  told_same past later (one p q l a) f =
      either (told_same p q a f) (either (among_same (fact r) facts_apart f (gains l.at l.event) (gains (r.place l.at) (event r l.event)) (gains_same r good l.at l.event))
      (either (anew_same (IsTold q) (IsTold p) (told_same p q a) f (begins l.at l.event) (begins (r.place l.at) (event r l.event)) (begins_same r good l.at l.event))
      (anew_same (IsTold q) (IsTold p) (told_same p q a) f (makes l.event) (makes (event r l.event)) (makes_same r good l.event))))
  told_same past later (silent p q bytes a) f = (λ h. inl ((told_same p q a f).0 h), λ h. (told_same p q a f).1 (quiet_facts p bytes f h))

  -- ---- leads

  quiet_leads : (past : List Line) (bytes : List ℕ) (d : Lead) → IsLead (frame past bytes ∷ past) d → IsLead past d
  unfolding IsLead leads
  quiet_leads past bytes d (inl h) = h
  quiet_leads past bytes d (inr i) = absurd i

  pub lead_there : (past later : List Line) → AreLines r past later → (d : Lead) → IsLead past d → IsLead later (lead r d)
  unfolding IsLead
  lead_there past later none d h = absurd h
  lead_there past later (one p q l a) d (inl h) = inl (lead_there p q a d h)
  lead_there past later (one p q l a) d (inr i) = inr (subst (IsAmong (lead r d)) (sym (leads_same r good l.at l.event)) (among_map (lead r) d (leads l.at l.event) i))
  lead_there past later (silent p q bytes a) d h = lead_there p q a d (quiet_leads p bytes d h)

  pub lead_image : (past later : List Line) → AreLines r past later → (c : Lead) → IsLead later c → (d : Lead) × IsLead past d × (lead r d ≡ c)
  unfolding IsLead
  lead_image past later none c h = absurd h
  lead_image past later (one p q l a) c (inl h) = let m = lead_image p q a c h in (m.0, inl m.1, m.2)
  lead_image past later (one p q l a) c (inr i) = let m = image (lead r) (leads l.at l.event) c (subst (IsAmong c) (leads_same r good l.at l.event) i) in (m.0, inr m.1, m.2)
  lead_image past later (silent p q bytes a) c h = let m = lead_image p q a c h in (m.0, inl m.1, m.2)
