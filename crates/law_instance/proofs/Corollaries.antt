-- What is told without hostile vats is the history of the run.
use Rattle.std.proofs.Common.{◌≡◌, ℕ, zero, suc, ◌<◌, ◌≤◌, List, [], ◌∷◌, Some, refl, sym, ap, subst, ◌∙◌, inl, inr, arith, map}
use Rattle.def_run.specs.Text as run
use Rattle.def_run.specs.Text.{history_of}
use Rattle.def_run.specs.World as world
use Rattle.def_run.specs.World.{Script, Program, Event, World, Run, Goes as Going, Stopped}
use Rattle.def_hostile.specs.Hostile.{Told, Acted, acts}
use Rattle.law_fate.specs.Fates.Fate.{fates, sent}
use Rattle.law_fate.specs.Fates.FateRuns.{Reached}
use Rattle.law_fate.specs.Fates.WholeFateRuns.{KnowsVats}
use Rattle.law_fate.specs.Name.Names.{AllOf, IsAmong, Once}
use Rattle.law_fate.specs.Name.Runs.{KnowsOnce}
use Rattle.law_fate.proofs.Fates.RunFates.{one_fate_at_most}
use Rattle.law_instance.specs.Corollaries.{events_in, events_told, HonestPlaysTellHistories, HonestPlaysGiveOneFate}
use Rattle.law_instance.specs.Honest.{honest, EndsIn}
use Rattle.law_instance.specs.Rows.{introduction, IntroductionIsAccepted}
use Rattle.law_instance.proofs.Acts.{stop_history}
use Rattle.law_instance.proofs.Whole.{plays_are_runs}

told_back : (es : List Event) → events_in (map Told es) ≡ es
unfolding events_in
told_back [] = refl
told_back (e ∷ es) = ap (λ zs. e ∷ zs) (told_back es)

history_told : (script : Script) (r : Run) (a : Acted) → EndsIn script r a → events_told a ≡ history_of r
unfolding events_told run.history_of
history_told script (Going y) a (x, e, f) = ap events_told f ∙ told_back y.history
history_told script (Stopped c n y) a (x, e, f) = ap events_told f ∙ told_back x.history ∙ sym (stop_history y x e)

pub histories_told : HonestPlaysTellHistories
histories_told script accepted = history_told script (world.run script) (acts (honest script)) (plays_are_runs script accepted).2

at_history : (Q : List Event → Type 0) (r : Run) → Reached (λ w. Q w.history) r → Q (history_of r)
unfolding run.history_of
at_history Q (Going w) h = h
at_history Q (Stopped c n w) h = h

pub one_fate : HonestPlaysGiveOneFate
one_fate script accepted x = let Q : List Event → Type 0 = λ es. (fates x es ≤ sent x es) × (sent x es ≤ 1) in
    subst Q (sym (histories_told script accepted)) (at_history Q (world.run script) (one_fate_at_most x script))

-- ---- the worked script

some_is : (p q : Program) → Some p ≡ Some q → p ≡ q
some_is p q e = cc

zero_suc : (n : ℕ) → zero ≡ suc n → ⊥
zero_suc n e = cc

zero_other : IsAmong {A = ℕ} 0 (1 ∷ 2 ∷ []) → ⊥
zero_other (inl e) = zero_suc 0 e
zero_other (inr (inl e)) = zero_suc 1 e
zero_other (inr (inr a)) = a

one_other : IsAmong {A = ℕ} 1 (2 ∷ []) → ⊥
one_other (inl e) = absurd (omega arith)
one_other (inr a) = a

module _ (fuel : ℕ) where
  once : KnowsOnce (introduction fuel)
  unfolding introduction
  once zero p e = subst (λ (q : Program). Once (0 ∷ q.knows)) (some_is _ p e) (zero_other, (one_other, (λ a. a, tt)))
  once (suc zero) p e = subst (λ (q : Program). Once (1 ∷ q.knows)) (some_is _ p e) (λ a. a, tt)
  once (suc (suc zero)) p e = subst (λ (q : Program). Once (2 ∷ q.knows)) (some_is _ p e) (λ a. a, tt)
  once (suc (suc (suc n))) p e = cc

  knows : KnowsVats (introduction fuel)
  unfolding introduction
  knows zero p e = subst (λ (q : Program). AllOf (λ (u : ℕ). u < 3) q.knows) (some_is _ p e) (omega arith, (omega arith, tt))
  knows (suc zero) p e = subst (λ (q : Program). AllOf (λ (u : ℕ). u < 3) q.knows) (some_is _ p e) tt
  knows (suc (suc zero)) p e = subst (λ (q : Program). AllOf (λ (u : ℕ). u < 3) q.knows) (some_is _ p e) tt
  knows (suc (suc (suc n))) p e = cc

pub introduction_accepted : IntroductionIsAccepted
unfolding introduction
introduction_accepted fuel = (once fuel, knows fuel, tt, omega arith)
