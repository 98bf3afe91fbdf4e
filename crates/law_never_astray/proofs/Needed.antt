-- A notice of a vat that is not there goes astray.
use Rattle.std.proofs.Common.{◌≡◌, zero, [], ◌∷◌, Some, None, refl, inl}
use Rattle.def_run.specs.World as world
use Rattle.def_run.specs.World.{Script, Program, CutLink, NoticeLink, World, Run, Goes, Stopped, run}
use Rattle.law_never_astray.specs.Runs.{NoticersAreNeeded}

-- no vat, and a notice of one
abbrev vatless : Script
vatless = record { key = []; fuel = zero; depth = zero; vats = []; schedule = CutLink zero 1 ∷ NoticeLink zero 1 ∷ [] }

abbrev last_of : Run → World
last_of (Goes w) = w
last_of (Stopped c n w) = w

nobody : {A : Type 0} (p : Program) → None ≡ Some p → A
nobody p e = cc

not_one : zero ≡ 1 → ⊥
not_one e = cc

pub noticers_are_needed : NoticersAreNeeded
unfolding world.opened_world
noticers_are_needed = (vatless, (λ v p e. nobody p e), (λ v p e. nobody p e), (not_one, inl (inl refl), tt), 1, last_of (run vatless), refl)
