-- A gift that waits for a name settles as it would where it waits for nothing: the machine does the same from both, and what is asked of each settling inside is asked of the same states.
use Rattle.std.proofs.Common.{◌≡◌, ℕ, zero, suc, Bool, true, false, List, [], ◌∷◌, ◌++◌, Some, length, refl, sym, ap, ◌∙◌}
use Rattle.def_machine.specs.Values.{Value, Items, Name, Naming}
use Rattle.def_machine.specs.State.{Known, Standing, Unsettled, WaitsOn, Settled, WaitOn, Settle, Settles, Vat, Done, changed, changed_to, with_change, and_then, each, enqueue, tell, alter, look, ◌>>=◌, ◌>>◌}
use Rattle.def_machine.specs.Native.{list_at}
use Rattle.def_machine.specs.Refs as refs
use Rattle.def_machine.specs.Refs.{entry_of}
use Rattle.law_machine.proofs.Machine.StepLaws.{changed_head}
use Rattle.law_reference.specs.Reference.Views.{IsOpen}
use Rattle.law_reference.proofs.Reference.Kept.{open_changed, settled_is}

-- ---- a name that waits settles as one that does not

other_open : (k : Known Name) (q : Standing Name) → k.standing ≡ q → ((y : Value Name) → q ≡ Settled y → ⊥) → IsOpen k.standing
other_open k q e f y j = f y (sym e ∙ j)

twice_head : (z : Value Name) (n : Name) (k : Known Name) (q : Standing Name) → k.standing ≡ q → changed (Settle z) (changed (WaitOn n) k) ≡ changed (Settle z) k
unfolding changed_to
twice_head z n k (Settled y) e = ap (λ j. changed (Settle z) j) (settled_is (WaitOn n) k y e)
twice_head z n k other e = let loose = other_open k other e (λ y f. cc) in
    ap (λ j. changed (Settle z) j) (open_changed (WaitOn n) k loose) ∙ open_changed (Settle z) (changed_to (WaitOn n) k) (λ y f. waits_open n y f) ∙ sym (open_changed (Settle z) k loose)
  where
    waits_open : (m : Name) (y : Value Name) → ◌≡◌ {A = Standing Name} (WaitsOn m) (Settled y) → ⊥
    waits_open m y f = cc

module _ (K : Naming Name Name) where
  pub twice : (z : Value Name) (n p : Name) (ks : List (Known Name)) → with_change K (Settle z) p (with_change K (WaitOn n) p ks) ≡ with_change K (Settle z) p ks
  unfolding with_change
  twice z n p [] = refl
  twice z n p (k ∷ ks) = go (K.same k.name p) refl (twice z n p ks)
    where
      go : (d : Bool) → K.same k.name p ≡ d → with_change K (Settle z) p (with_change K (WaitOn n) p ks) ≡ with_change K (Settle z) p ks
          → with_change K (Settle z) p (elim d [ true ↦ changed (WaitOn n) k ∷ ks | false ↦ k ∷ with_change K (WaitOn n) p ks ]) ≡ elim d [ true ↦ changed (Settle z) k ∷ ks | false ↦ k ∷ with_change K (Settle z) p ks ]
      go true e r = let head = changed_head (WaitOn n) k in ap (λ d. elim d [ true ↦ changed (Settle z) (changed (WaitOn n) k) ∷ ks | false ↦ changed (WaitOn n) k ∷ with_change K (Settle z) p ks ]) (ap (λ m. K.same m p) head.0 ∙ e)
          ∙ ap (λ j. j ∷ ks) (twice_head z n k k.standing refl)
      go false e r = ap (λ d. elim d [ true ↦ changed (Settle z) k ∷ with_change K (WaitOn n) p ks | false ↦ k ∷ with_change K (Settle z) p (with_change K (WaitOn n) p ks) ]) e ∙ ap (λ js. k ∷ js) r

  -- ---- where each value is followed to the same, members lead to the same names

  any_same : (f h : Value Name → Bool) → ((v : Value Name) → f v ≡ h v) → (vs : List (Value Name)) → refs.any_of K f vs ≡ refs.any_of K h vs
  unfolding refs.any_of
  any_same f h e [] = refl
  any_same f h e (v ∷ vs) = ap (λ d. elim d [ true ↦ true | false ↦ refs.any_of K f vs ]) (e v) ∙ ap (λ d. elim (h v) [ true ↦ true | false ↦ d ]) (any_same f h e vs)

  reached_same : (f h : List (Value Name) → Bool) → ((vs : List (Value Name)) → f vs ≡ h vs) → (ls : List (List (Value Name))) (p : Name) (z : Value Name) → refs.reached K f ls p z ≡ refs.reached K h ls p z
  unfolding refs.reached
  reached_same f h e ls p (Items k) = e (list_at ls k)
  reached_same f h e ls p other = refl

  module _ (s t : Vat Name) (lists : t.lists ≡ s.lists) (follow : (v : Value Name) → refs.follow K t v ≡ refs.follow K s v) where
    reaches_same : (d : ℕ) (p : Name) (v : Value Name) → refs.reaches K d t p v ≡ refs.reaches K d s p v
    unfolding refs.reaches
    reaches_same zero p v = refl
    reaches_same (suc d) p v = ap (λ ls. refs.reached K (refs.any_of K (λ u. refs.reaches K d t p u)) ls p (refs.follow K t v)) lists
        ∙ ap (λ u. refs.reached K (refs.any_of K (λ u. refs.reaches K d t p u)) s.lists p u) (follow v)
        ∙ reached_same (refs.any_of K (λ u. refs.reaches K d t p u)) (refs.any_of K (λ u. refs.reaches K d s p u)) (λ vs. any_same (λ u. refs.reaches K d t p u) (λ u. refs.reaches K d s p u) (λ u. reaches_same d p u) vs) s.lists p (refs.follow K s v)

    -- so a name settles to the same
    pub target_same : (p : Name) (y : Value Name) → refs.target_of K t p y ≡ refs.target_of K s p y
    unfolding refs.target_of
    target_same p (Items k) = ap (λ ls. refs.cut_cycle K (refs.reaches K (suc (length ls)) t p (Items k)) (Items k)) lists ∙ ap (λ d. refs.cut_cycle K d (Items k)) (reaches_same (suc (length s.lists)) p (Items k))
    target_same p other = refl

  -- ---- the machine

  module _ (s : Vat Name) (p : Name) (g : Known Name) (found : entry_of K s.known p ≡ Some g) (unsettled : g.standing ≡ Unsettled) (n : Name) where
    abbrev Just : Vat Name
    Just = record s { known = with_change K (WaitOn n) p s.known }

    abbrev After : Known Name
    After = record g { standing = WaitsOn n }

    module _ (found_then : entry_of K Just.known p ≡ Some After) (names_known : length Just.known ≡ length s.known) (follow : (v : Value Name) → refs.follow K Just v ≡ refs.follow K s v) where
      -- the name settled to that, as those known then
      abbrev Ended : Value Name → List (Known Name) → Vat Name
      Ended z ks = record s { happened = s.happened ++ Settles p z ∷ []; known = ks }

      abbrev Rest : ℕ → Value Name → Vat Name → Done Name (Unit {0})
      Rest d z t = and_then (each (refs.send_on K (λ q x. refs.settle_at K d q x)) g.held t) (λ a. each (λ q. refs.settle_at K d q z) g.waiting >> (each enqueue g.reactions >> each (refs.inform K p) g.told))

      of_known : (d : ℕ) (z : Value Name) → refs.settle_known K (λ q x. refs.settle_at K d q x) p z g s ≡ Rest d z (Ended z (with_change K (Settle z) p s.known))
      unfolding refs.settle_known tell alter ◌>>=◌ ◌>>◌ and_then
      of_known d z = refl

      of_just : (d : ℕ) (z : Value Name) → refs.settle_known K (λ q x. refs.settle_at K d q x) p z After Just ≡ Rest d z (Ended z (with_change K (Settle z) p Just.known))
      unfolding refs.settle_known tell alter ◌>>=◌ ◌>>◌ and_then
      of_just d z = refl

      at_known : (d : ℕ) (z : Value Name) → refs.settle_entry K (λ q x. refs.settle_at K d q x) p z (entry_of K s.known p) s ≡ Rest d z (Ended z (with_change K (Settle z) p s.known))
      unfolding refs.settle_entry refs.settle_standing
      at_known d z = ap (λ o. refs.settle_entry K (λ q x. refs.settle_at K d q x) p z o s) found ∙ ap (λ q. refs.settle_standing K (λ q x. refs.settle_at K d q x) p z g q s) unsettled ∙ of_known d z

      at_just : (d : ℕ) (z : Value Name) → refs.settle_entry K (λ q x. refs.settle_at K d q x) p z (entry_of K Just.known p) Just ≡ Rest d z (Ended z (with_change K (Settle z) p Just.known))
      unfolding refs.settle_entry refs.settle_standing
      at_just d z = ap (λ o. refs.settle_entry K (λ q x. refs.settle_at K d q x) p z o Just) found_then ∙ of_just d z

      settles_at : (d : ℕ) (y : Value Name) → refs.settle_at K (suc d) p y Just ≡ refs.settle_at K (suc d) p y s
      unfolding refs.settle_at refs.settle_one look ◌>>=◌ and_then
      settles_at d y = ap (λ z. refs.settle_entry K (λ q x. refs.settle_at K d q x) p z (entry_of K Just.known p) Just) (target_same s Just refl follow p y) ∙ at_just d (refs.target_of K s p y)
          ∙ ap (λ ks. Rest d (refs.target_of K s p y) (Ended (refs.target_of K s p y) ks)) (twice (refs.target_of K s p y) n p s.known) ∙ sym (at_known d (refs.target_of K s p y))

      pub settles_same : (y : Value Name) → refs.settle_at K (suc (suc (length Just.known))) p y Just ≡ refs.settle K p y s
      unfolding refs.settle look ◌>>=◌ and_then
      settles_same y = settles_at (suc (length Just.known)) y ∙ ap (λ d. refs.settle_at K (suc (suc d)) p y s) names_known
