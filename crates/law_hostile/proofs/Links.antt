-- What holds of each link, after notes are put on links and leave them.
use Rattle.std.proofs.Common.{◌≡◌, ℕ, Bool, true, false, List, [], ◌∷◌, Option, Some, refl, ◌==◌}
use Rattle.std.proofs.lemmas.Bool.{eqb-true}
use Rattle.def_machine.specs.Values.{Name}
use Rattle.def_machine.specs.State.{Put}
use Rattle.def_run.specs.World as world
use Rattle.def_run.specs.World.{Link}
use Rattle.law_fate.specs.Name.Names.{AllOf}

ends_at : (b c : Bool) (l : Link) (v w : ℕ) → (l.from == v) ≡ b → (l.to == w) ≡ c → elim b [ true ↦ c | false ↦ false ] ≡ true → (l.from ≡ v) × (l.to ≡ w)
ends_at true true l v w e f i = (eqb-true l.from v e, eqb-true l.to w f)
ends_at other another l v w e f i = cc

ends_are : (l : Link) (v w : ℕ) → world.is_link v w l ≡ true → (l.from ≡ v) × (l.to ≡ w)
unfolding world.is_link
ends_are l v w e = ends_at (l.from == v) (l.to == w) l v w refl refl e

some_is : (l j : Link) → Some l ≡ Some j → l ≡ j
some_is l j e = cc

module _ (P : Link → Type 0) where
  head_holds : (b : Bool) (l j : Link) (ls rest : List Link) → P l → AllOf P ls → (b ≡ true → P j) → AllOf P rest → AllOf P (elim b [ true ↦ j ∷ ls | false ↦ l ∷ rest ])
  head_holds true l j ls rest h i f g = (f refl, i)
  head_holds false l j ls rest h i f g = (h, g)

  pub with_link_holds : (f : Link → Link) (v w : ℕ) → ((l : Link) → l.from ≡ v → l.to ≡ w → P l → P (f l)) → (ls : List Link) → AllOf P ls → AllOf P (world.with_link f v w ls)
  unfolding world.with_link
  with_link_holds f v w g [] h = tt
  with_link_holds f v w g (l ∷ ls) h = head_holds (world.is_link v w l) l (f l) ls (world.with_link f v w ls) h.0 h.1 (λ e. let at = ends_are l v w e in g l at.0 at.1 h.0) (with_link_holds f v w g ls h.1)

  found_head : (b : Bool) (v w : ℕ) (l j : Link) (o : Option Link) → (b ≡ true → (l.from ≡ v) × (l.to ≡ w)) → P l → (o ≡ Some j → P j × (j.from ≡ v) × (j.to ≡ w)) → elim b [ true ↦ Some l | false ↦ o ] ≡ Some j → P j × (j.from ≡ v) × (j.to ≡ w)
  found_head true v w l j o f h k e = let same : l ≡ j = some_is l j e in let both : P l × (l.from ≡ v) × (l.to ≡ w) = (h, (f refl).0, (f refl).1) in rw same at both
  found_head false v w l j o f h k e = k e

  -- the link that is found, with its ends
  pub found_holds : (v w : ℕ) (ls : List Link) (j : Link) → AllOf P ls → world.link_at v w ls ≡ Some j → P j × (j.from ≡ v) × (j.to ≡ w)
  unfolding world.link_at
  found_holds v w [] j h e = cc
  found_holds v w (l ∷ ls) j h e = found_head (world.is_link v w l) v w l j (world.link_at v w ls) (ends_are l v w) h.0 (found_holds v w ls j h.1) e

  pub push_all_holds : (v : ℕ) (ps : List (Put Name)) (ls : List Link) → AllOf (λ (p : Put Name). (l : Link) → l.from ≡ v → l.to ≡ p.to → P l → P (world.pushed p.note l)) ps → AllOf P ls → AllOf P (world.push_all v ps ls)
  unfolding world.push_all
  push_all_holds v [] ls i h = h
  push_all_holds v (p ∷ ps) ls i h = push_all_holds v ps (world.with_link (world.pushed p.note) v p.to ls) i.1 (with_link_holds (world.pushed p.note) v p.to i.0 ls h)
