-- The test for a cycle suffices.
use Rattle.def_machine.specs.Values.{naming}
use Rattle.law_fate.proofs.Name.SameNames.{reference_is}
use Rattle.law_reference.specs.Reference.Waits.{CycleTestsSuffice}
use Rattle.law_reference.proofs.Reference.Chains.{leads_within}

pub tests_suffice : CycleTestsSuffice
unfolding naming
tests_suffice word v ks p n d h = leads_within (naming word v) (λ a b e. reference_is a b e) ks p d n h
