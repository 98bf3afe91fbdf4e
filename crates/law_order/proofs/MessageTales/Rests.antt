-- What is asked of the worlds of a run is so.
use Rattle.std.proofs.Common.{◌≡◌, ℕ, Bool, true, [], Some, refl, arith}
use Rattle.std.specs.Prelude.{slice_get}
use Rattle.def_machine.specs.Values.{Name}
use Rattle.def_machine.specs.State.{Vat}
use Rattle.def_run.specs.World.{Script, World, readied}
use Rattle.law_fate.specs.Name.Runs.{KnowsOnce}
use Rattle.law_fate.specs.Fates.Fate.{sent, takes, total}
use Rattle.law_fate.specs.Fates.Carry.{carries}
use Rattle.law_order.specs.History.Told.{IsOfRun}
use Rattle.law_order.specs.Sending.Came.{HoldsMembers}
use Rattle.law_order.specs.Sending.New.{IsBegun}
use Rattle.law_order.proofs.Sending.Agree.{worlds_agree}
use Rattle.law_order.proofs.Sending.Around.{around_of}
use Rattle.law_order.proofs.Sending.Begins.{having_begins}
use Rattle.law_order.proofs.Sending.Sending.{Around}
use Rattle.law_order.proofs.Sending.Views.{ViewsRest}
use Rattle.law_order.proofs.MessageTales.Reaching.{IsAtRest}

module _ (script : Script) (once : KnowsOnce script) (honest : ℕ → Bool) (everyone : (u : ℕ) → honest u ≡ true) (w : World) (of_run : IsOfRun script w) where
  around : Around script w
  around = around_of script once w of_run

  begun : (v : ℕ) (s : Vat Name) → slice_get w.vats v ≡ Some s → IsBegun w v [] (λ m. 0) s (record s { queue = s.queue })
  unfolding sent takes carries total
  begun v s there = record { found = there; numbers = refl; places = λ m. omega arith; sends = λ m. refl; taking = λ m. refl; carrying = λ m. refl }

  views : (v : ℕ) (s : Vat Name) → slice_get w.vats v ≡ Some s → ViewsRest script v s.known
  unfolding readied
  views v s there = (having_begins script once honest everyone w around v [] (λ m. 0) s s.queue (begun v s there)).views

  members : (v : ℕ) (s : Vat Name) → slice_get w.vats v ≡ Some s → HoldsMembers script honest w v s
  unfolding readied
  members v s there = (having_begins script once honest everyone w around v [] (λ m. 0) s s.queue (begun v s there)).members

  pub rests : IsAtRest script honest w
  rests = record { stands = around.stands; meet = around.meet; far = around.far; views = views; agrees = worlds_agree script w of_run; members = members }
