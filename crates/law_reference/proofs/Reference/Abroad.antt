-- A place that is away is at another vat.
use Rattle.std.proofs.Common.{◌≡◌, ℕ, Bool, true, false, refl, sym, ◌∙◌, ◌==◌}
use Rattle.std.proofs.lemmas.Bool.{eq-eqb}
use Rattle.def_machine.specs.Values.{Value, Ref, Name, Object, Spot, Own, Foreign, NoObject, spot_of, Naming, naming}
use Rattle.def_machine.specs.State.{Vat}
use Rattle.def_machine.specs.Refs as refs
use Rattle.def_machine.specs.Refs.{Mine, Away}

foreign_where : (v w u i : ℕ) (b : Bool) → (v == u) ≡ b → elim b [ true ↦ Own i | false ↦ Foreign u ] ≡ Foreign w → (v == w) ≡ false
foreign_where v w u i true e f = cc
foreign_where v w u i false e f = let g : u ≡ w = cc in rw g at e

foreign_abroad : (v w : ℕ) (n : Name) → spot_of v n ≡ Foreign w → (v == w) ≡ false
unfolding spot_of
foreign_abroad v w (Object u i) e = foreign_where v w u i (v == u) refl e
foreign_abroad v w other e = cc

hosted_where : (u g h : ℕ) (n m : Name) (o b : Bool) → (u == g) ≡ b → elim b [ true ↦ Mine n | false ↦ Away g n false ] ≡ Away h m o → (u == h) ≡ false
hosted_where u g h n m o true e f = cc
hosted_where u g h n m o false e f = let i : g ≡ h = cc in rw i at e

true_false : true ≡ false → ⊥
true_false e = cc

module _ (v : ℕ) (word : ℕ → ℕ) where
  abbrev Mines : Naming Name Name
  Mines = naming word v

  spotted_abroad : (s : Vat Name) (n m : Name) (h : ℕ) (o : Bool) (p : Spot) → s.number ≡ v → spot_of v n ≡ p → refs.spotted Mines s n p ≡ Away h m o → (v == h) ≡ false
  unfolding refs.spotted refs.hosted
  spotted_abroad s n m h o (Own i) e f g = cc
  spotted_abroad s n m h o (Foreign w) e f g = let i : w ≡ h = cc in rw i at (foreign_abroad v w n f)
  spotted_abroad s n m h o NoObject e f g = rw e at (hosted_where s.number (refs.host_at Mines s.number s.known n) h n m o (s.number == refs.host_at Mines s.number s.known n) refl g)

  pub away_abroad : (s : Vat Name) (y : Value Name) (h : ℕ) (m : Name) (o : Bool) → s.number ≡ v → refs.place Mines s y ≡ Away h m o → (v == h) ≡ false
  unfolding refs.place naming
  away_abroad s (Ref n) h m o e f = spotted_abroad s n m h o (spot_of v n) e refl f
  away_abroad s other h m o e f = cc

  pub away_apart : (s : Vat Name) (y : Value Name) (h : ℕ) (m : Name) (o : Bool) → s.number ≡ v → refs.place Mines s y ≡ Away h m o → h ≡ v → ⊥
  away_apart s y h m o e f i = true_false (sym (eq-eqb v h (sym i)) ∙ away_abroad s y h m o e f)
