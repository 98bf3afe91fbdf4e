-- As a message is carried in a run, order is kept.
use Rattle.std.proofs.Common.{◌≡◌, ℕ, suc, ◌+◌, ◌≤◌, List, [], ◌∷◌, ◌++◌, subst, inl, inr, arith}
use Rattle.def_machine.specs.Values.{Name}
use Rattle.def_run.specs.World as world
use Rattle.def_run.specs.World.{Script, Carry, Entry, World, Run, Goes, Stopped, steps_from, step}
use Rattle.law_fate.specs.Fates.Fate.{places, sent, fates}
use Rattle.law_fate.proofs.Fates.RunFates.{places_and_fates}
use Rattle.law_order.specs.Ordering.Places.{item}
use Rattle.law_order.specs.Carries.Carries.{OrderKept, CarryEnds}
use Rattle.law_order.proofs.Carries.Whole.{message_carries_keep}
use Rattle.law_order.specs.Runs.Carrying.{MessageCarriesKeepInRuns}
use Rattle.law_order.proofs.Runs.Beginnings.{reached_is}
use Rattle.law_order.proofs.Runs.Nowhere.{left_nowhere}
use Rattle.law_order.proofs.Runs.Bearing.{can_carry}

going : {x z : World} → Goes x ≡ Goes z → x ≡ z
going e = cc

-- the last entry is a step from where those before it came to
module _ (script : Script) (entry : Entry) (x y : World) where
  last_step : (k : ℕ) (r : Run) → world.then_goes r (steps_from script [] (suc k)) ≡ Goes y → r ≡ Goes y
  unfolding world.then_goes steps_from
  last_step k (Goes z) e = e
  last_step k (Stopped c i z) e = cc

  pub next_step : (es : List Entry) (k : ℕ) (w : World) → steps_from script es k w ≡ Goes x → steps_from script (es ++ entry ∷ []) k w ≡ Goes y → (j : ℕ) × (step script entry j x ≡ Goes y)
  unfolding steps_from world.then_goes
  next_step [] k w e f = (k, subst (λ z. step script entry k z ≡ Goes y) (going e) (last_step k (step script entry k w) f))
  next_step (first ∷ es) k w e f = go (λ z i j. next_step es (suc k) z i j) (step script first k w) e f
    where
      go : ((z : World) → steps_from script es (suc k) z ≡ Goes x → steps_from script (es ++ entry ∷ []) (suc k) z ≡ Goes y → (j : ℕ) × (step script entry j x ≡ Goes y))
          → (r : Run) → world.then_goes r (steps_from script es (suc k)) ≡ Goes x → world.then_goes r (steps_from script (es ++ entry ∷ []) (suc k)) ≡ Goes y → (j : ℕ) × (step script entry j x ≡ Goes y)
      go g (Goes z) i j = g z i j
      go g (Stopped c l z) i j = cc

abbrev Fated : Name → World → Type 0
Fated m y = (places m y + fates m y.history ≤ sent m y.history) × (sent m y.history ≤ 1)

few : (m : Name) (y : World) → Fated m y → places m y + fates m y.history ≤ 1
few m y h = let a = h.0 in let b = h.1 in omega arith

pub message_carries_keep_in_runs : MessageCarriesKeepInRuns
message_carries_keep_in_runs script once w x y es k a b o e f honest d n verb ys c = go (message_carries_keep script honest x y a b next.0 d n verb ys (can_carry script once w x es k o e honest a b d n verb ys c) next.1)
  where
    next : (j : ℕ) × (step script (Carry a b) j x ≡ Goes y)
    next = next_step script (Carry a b) x y es k w e f

    go : CarryEnds script honest x y a b (item d.message n) → OrderKept script honest x y a b (item d.message n)
    go (inl h) = h
    go (inr h) = inl (h.1 (left_nowhere script honest y b d.message (few d.message y (reached_is (Fated d.message) _ y f ((places_and_fates d.message script).1 w (es ++ Carry a b ∷ []) k o))) h.0))
