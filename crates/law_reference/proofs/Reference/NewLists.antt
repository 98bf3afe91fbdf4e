-- A new list of what is there closes no ring.
use Rattle.std.proofs.Common.{◌≡◌, ℕ, zero, suc, ◌<◌, List, [], ◌∷◌, ◌++◌, refl, sym, subst, ◌∙◌, inl, inr, length, arith}
use Rattle.def_machine.specs.Values.{Value, Items, Name, Naming}
use Rattle.def_machine.specs.State.{Vat}
use Rattle.def_machine.specs.Native.{list_at}
use Rattle.def_machine.specs.Refs.{host_at, follow, severed, severed_at, severed_by}
use Rattle.law_frozen.specs.Frozen.{IsAmong, Lists, IsThere, AreThere, Sound}
use Rattle.law_frozen.proofs.Facts.{all_end}
use Rattle.law_frozen.proofs.Fine.{there_below}
use Rattle.law_frozen.proofs.Looks.{list_at_there, follow_there}
use Rattle.law_reference.specs.Reference.Lists.{Leads, LeadsIn, NoListLeadsBack}
use Rattle.law_reference.proofs.Reference.ListRings.{list_only}

old_list : (ls js : Lists Name) (k : ℕ) → k < length ls → list_at (ls ++ js) k ≡ list_at ls k
unfolding list_at
old_list [] js k l = absurd (none l)
  where
    none : k < zero → ⊥
    none i = omega arith
old_list (x ∷ ls) js zero l = refl
old_list (x ∷ ls) js (suc k) l = old_list ls js k (omega arith)

among_there : (ls : Lists Name) (v : Value Name) (vs : List (Value Name)) → AreThere ls vs → IsAmong v vs → IsThere ls v
among_there ls v [] h a = absurd a
among_there ls v (x ∷ xs) h (inl e) = subst (λ w. IsThere ls w) (sym e) h.0
among_there ls v (x ∷ xs) h (inr a) = among_there ls v xs h.1 a

module _ (K : Naming Name Name) (s : Vat Name) (vs : List (Value Name)) (sound : Sound K s) (there : AreThere s.lists vs) where
  abbrev More : Lists Name
  More = s.lists ++ vs ∷ []

  abbrev After : Vat Name
  After = record s { lists = More }

  same_follow : (v : Value Name) → follow K After v ≡ follow K s v
  unfolding follow severed severed_at severed_by host_at
  same_follow v = refl

  members_there : (a : ℕ) → AreThere s.lists (list_at More a)
  members_there a = list_at_there s.lists More a (all_end (AreThere s.lists) s.lists vs sound.lists there)

  target_below : (a b : ℕ) → Leads K After (Items a) (Items b) → b < length s.lists
  target_below a b h = there_below s.lists (length s.lists) (omega arith) (Items b) (subst (λ w. IsThere s.lists w) (sym (same_follow h.0) ∙ h.2) (follow_there K s sound h.0 (among_there s.lists h.0 (list_at More a) (members_there a) h.1)))

  last_below : (d a b : ℕ) → LeadsIn K (suc d) After (Items a) (Items b) → b < length s.lists
  last_below zero a b h = target_below a b (subst (λ z. Leads K After (Items a) z) h.2 h.1)
  last_below (suc d) a b h = let c = list_only K (suc d) After h.0 b h.2 in last_below d c.0 b (subst (λ z. LeadsIn K (suc d) After z (Items b)) c.1 h.2)

  old_leads : (a : ℕ) (z : Value Name) → a < length s.lists → Leads K After (Items a) z → Leads K s (Items a) z
  old_leads a z l h = (h.0, subst (λ xs. IsAmong h.0 xs) (old_list s.lists (vs ∷ []) a l) h.1, sym (same_follow h.0) ∙ h.2)

  old_way : (d a b : ℕ) → a < length s.lists → LeadsIn K d After (Items a) (Items b) → LeadsIn K d s (Items a) (Items b)
  old_way zero a b l h = h
  old_way (suc d) a b l h = let c = list_only K d After h.0 b h.2 in let step : Leads K After (Items a) (Items c.0) = subst (λ z. Leads K After (Items a) z) c.1 h.1 in
      (Items c.0, old_leads a (Items c.0) l step, old_way d c.0 b (target_below a c.0 step) (subst (λ z. LeadsIn K d After z (Items b)) c.1 h.2))

  pub new_list_closes_none : NoListLeadsBack K s → NoListLeadsBack K After
  new_list_closes_none none k d h = none k d (old_way (suc d) k k (last_below d k k h) h)
