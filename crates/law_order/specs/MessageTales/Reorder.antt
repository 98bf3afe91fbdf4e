-- Notes that are put on links in another order.
use Rattle.std.specs.Prelude.{◌≡◌, ℕ, List}
use Rattle.def_machine.specs.Values.{Name}
use Rattle.def_machine.specs.State.{Note, Put}
use Rattle.def_run.specs.World.{Link, push_all, with_link, pushed}
use Rattle.law_fate.specs.Name.Names.{AllOf}
use Rattle.law_order.specs.Ordering.Arrivals.{IsSilent}
use Rattle.law_order.specs.Ordering.Worlds.{LetsNothingGo}
use Rattle.law_order.specs.Ordering.Growing.{AllGrow}

-- what is put on the link to h delivers nothing and lets nothing go
abbrev pub IsAside : ℕ → Put Name → Type 0
IsAside h p = p.to ≡ h → IsSilent p.note

-- A note that lets nothing go may as well be put after such notes: the same stands on each link, and the same is let go.
abbrev pub LatePutsGrow : Type 0
LatePutsGrow = (v h : ℕ) (n : Note Name) (ps : List (Put Name)) (ls : List Link) → LetsNothingGo n → AllOf (IsAside h) ps
    → AllGrow (push_all v ps (with_link (pushed n) v h ls)) (with_link (pushed n) v h (push_all v ps ls))
