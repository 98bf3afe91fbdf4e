-- What is received, whoever sent it, leaves a sound state sound.
use Rattle.std.proofs.Common.{◌≡◌, ℕ, Bool, true, false}
use Rattle.def_machine.specs.Values.{Naming}
use Rattle.def_machine.specs.State.{Note, Deliver, Open, Ask, SettledTo, Elsewhere, Shorten, Vat, Done, Gives}
use Rattle.def_machine.specs.Arrive.{Incoming}
use Rattle.def_machine.specs.Receive as receive
use Rattle.def_machine.specs.Receive.{Sight}
use Rattle.law_machine.specs.Machine.Steps.{After}
use Rattle.law_frozen.specs.Frozen.{NotePasses, Sound}
use Rattle.law_frozen.specs.Receiving.{ReceivingStaysSound}
use Rattle.law_frozen.proofs.Fine.{Keeper, Loose, Fact, Nothing, nothing, Gets, Fine, Ends, fine}
use Rattle.law_frozen.proofs.Looks.{looks}
use Rattle.law_frozen.proofs.FineRefs.{Tells, fine_settle, loose_tells}
use Rattle.law_frozen.proofs.FineArrive.{fine_learn_name, fine_arrive}

module _ {N W : Type 0} (K : Naming N W) (M : Keeper K) (law : Loose K M) (telling : Tells K M) where
  fine_break_back : {C : Fact N} → (x1 : Note (Incoming N W)) → Fine K M C (receive.break_back K x1) nothing
  unfolding receive.break_back
  fine_break_back {C = C} (Elsewhere x c) = search (fine, looks, fine_learn_name, fine_settle) depth 30
  fine_break_back {C = C} other = search (fine, looks) depth 30

  fine_receive_by : {C : Fact N} → (x1 : Bool) → (x2 : Bool) → (x3 : ℕ) → (x4 : Note (Incoming N W)) → NotePasses x4 → Fine K M C (receive.receive_by K x1 x2 x3 x4) nothing
  unfolding receive.receive_by
  fine_receive_by {C = C} true back from n q1 = search (fine, looks) depth 30
  fine_receive_by {C = C} false true from n q1 = search (fine, looks, fine_break_back) depth 30
  fine_receive_by {C = C} false false from n q1 = search (fine, looks, fine_arrive) depth 30

  pub fine_receive : {C : Fact N} → (x1 : Sight N) → (x2 : ℕ) → (x3 : Note (Incoming N W)) → NotePasses x3 → Fine K M C (receive.receive K x1 x2 x3) nothing
  unfolding receive.receive
  fine_receive {C = C} sight from n q1 = search (fine, looks, fine_receive_by) depth 30

plain : {N W : Type 0} (K : Naming N W) → Keeper K
plain K = record { holds = λ s. Sound K s; sound = λ s h. h; quiet = λ s t q h i. i }

loose : {N W : Type 0} (K : Naming N W) → Loose K (plain K)
unfolding plain
loose K = record { any = λ s t h i. i }

ends_sound : {N W A : Type 0} (K : Naming N W) (G : A → Fact N) (s : Vat N) (d : Done N A) → Ends K (plain K) G s d → After (λ _. Sound K) s d
unfolding plain
ends_sound K G s (Gives a t) h = h.1
ends_sound K G s other h = h.1

pub receiving_stays_sound : ReceivingStaysSound
unfolding plain
receiving_stays_sound = (
  λ word v sight from n s h i. ends_sound _ nothing s _ ((fine_receive _ (plain _) (loose _) (loose_tells _ (plain _) (loose _)) {C = Nothing} sight from n i).after s h tt),
  λ word sight from n s h i. ends_sound _ nothing s _ ((fine_receive _ (plain _) (loose _) (loose_tells _ (plain _) (loose _)) {C = Nothing} sight from n i).after s h tt),
)
