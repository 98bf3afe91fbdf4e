-- The laws: a run at the prices of its script.
use Rattle.std.proofs.Common.{◌≡◌, ℕ, ◌+◌, ◌*◌, ◌≤◌, ◌<◌, ◌^◌, List, [], ◌∷◌, Some, length, mul-le-mul, arith}
use Rattle.std.specs.Prelude.{slice_get}
use Rattle.std.specs.List.{AllByRecursion}
use Rattle.def_machine.specs.Values.{Name}
use Rattle.def_machine.specs.State.{Vat}
use Rattle.def_run.specs.World.{Script, Program, Run, Goes, Stopped, run}
use Rattle.def_kernel.specs.Trees.{IsTree}
use Rattle.law_machine.specs.Costs.Sizes.{made}
use Rattle.law_machine.specs.Costs.Laws.{step_price, unit_price, comes_to, AreTrees, FuelPays, IsModest, NumbersAreLow}
use Rattle.law_machine.proofs.Costs.Costs.{Prices, paid}
use Rattle.law_machine.proofs.Costs.Trees.{few_lists, few_bindings}
use Rattle.law_machine.proofs.Costs.Runs.{IsSmall, in_total, RunPaid, run_paid}

calls_priced : (fuel nodes : ℕ) → fuel + fuel + (nodes + nodes) + 30 ≤ step_price fuel nodes
calls_priced fuel nodes = omega arith

units_priced : (fuel nodes : ℕ) → step_price fuel nodes + step_price fuel nodes + (nodes + nodes) + 60 ≤ unit_price fuel nodes
units_priced fuel nodes = omega arith

abbrev prices : ℕ → ℕ → Prices
prices fuel nodes = record { fuel = fuel; tree = nodes + nodes; call = step_price fuel nodes; unit = unit_price fuel nodes; calls = calls_priced fuel nodes; units = units_priced fuel nodes }

all_small : (fuel nodes : ℕ) (ps : List Program) → AllByRecursion (λ (p : Program). IsTree p.tree × (length p.tree ≤ nodes)) ps → AllByRecursion (λ (p : Program). IsSmall (prices fuel nodes) p.tree) ps
all_small fuel nodes [] h = tt
all_small fuel nodes (p ∷ ps) h = (
  (λ id. let l = few_lists p.tree h.0.0 id in let m = h.0.1 in omega (arith, l, m), λ id. let l = few_bindings p.tree h.0.0 id in let m = h.0.1 in omega (arith, l, m)),
  all_small fuel nodes ps h.1,
)

at_end : (P : Prices) (k : ℕ) (r : Run) → RunPaid P k r → (v : ℕ) (s : Vat Name) → slice_get (comes_to r).vats v ≡ Some s → made s + length (comes_to r).drawn ≤ k
at_end P k (Goes w) h v s e = let l = in_total v s w.vats e in let c = h.cost in omega (arith, l, c)
at_end P k (Stopped x n w) h v s e = let l = in_total v s w.vats e in let c = h.cost in omega (arith, l, c)

drawn_end : (P : Prices) (k : ℕ) (r : Run) → RunPaid P k r → length (comes_to r).drawn ≤ k
drawn_end P k (Goes w) h = let c = h.cost in omega (arith, c)
drawn_end P k (Stopped x n w) h = let c = h.cost in omega (arith, c)

abbrev price : ℕ → Script → ℕ
price nodes script = unit_price script.fuel nodes * script.fuel + step_price script.fuel nodes * length script.vats + step_price script.fuel nodes * length script.schedule

runs : (nodes : ℕ) (script : Script) → AreTrees nodes script → RunPaid (prices script.fuel nodes) (price nodes script) (run script)
unfolding paid
runs nodes script t = run_paid (prices script.fuel nodes) script (all_small script.fuel nodes script.vats t) (omega arith)

pub pays : FuelPays
pays nodes script t = at_end (prices script.fuel nodes) (price nodes script) (run script) (runs nodes script t)

few : (script : Script) → IsModest script → price (2 ^ 32) script < 2 ^ 64
few script h =
    let step : step_price script.fuel (2 ^ 32) ≤ 8609934622 = omega (arith, h.0) in
    let unit : unit_price script.fuel (2 ^ 32) ≤ 25809803896 = omega (arith, h.0) in
    let a = mul-le-mul unit h.0 in
    let b = mul-le-mul step h.1 in
    let c = mul-le-mul step h.2 in
    omega (arith, a, b, c)

pub low : NumbersAreLow
low script h = let r = runs (2 ^ 32) script h.3 in let P = prices script.fuel (2 ^ 32) in let k = price (2 ^ 32) script in
    (λ v s e. let l = at_end P k (run script) r v s e in let m = few script h in omega (arith, l, m), let l = drawn_end P k (run script) r in let m = few script h in omega (arith, l, m))
