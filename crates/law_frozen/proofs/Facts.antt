-- Facts on values in a vat's state, which no growth of the state undoes.
use Rattle.std.proofs.Common.{◌≡◌, ℕ, zero, suc, List, [], ◌∷◌, ◌++◌, Some}
use Rattle.std.specs.Prelude.{slice_get}
use Rattle.def_machine.specs.Values.{Value, Items, Ref, Naming}
use Rattle.def_machine.specs.State.{Bound, Fixed, Slot, Binding, Cell, Freedom, IsFinal, View, Thing, Made, Ejector, Audition, Resolver, Message, Standing, Settled, Known}
use Rattle.law_frozen.specs.Frozen.{AllOf, Lists, IsThere, MessageThere, StandingThere, KnownThere, CellThere, FreedomThere, ViewThere, HasNoName, BearsFrozen, IsFrozen, BoundWell, NounWell, FrozenCapture, ThingWell}

-- objects and lists keep their numbers
pub record Grows {N : Type 0} (ts : List (Thing N)) (ls : Lists N) (us : List (Thing N)) (ms : Lists N) : Type 0 where
  pub objects : (i node : ℕ) (caught : List (Binding N)) (stamps : List (Value N)) → slice_get ts i ≡ Some (Made node caught stamps) → slice_get us i ≡ Some (Made node caught stamps)
  pub lists : (k : ℕ) (vs : List (Value N)) → slice_get ls k ≡ Some vs → slice_get ms k ≡ Some vs

pub all_map : {A : Type 0} {P Q : A → Type 0} → ((x : A) → P x → Q x) → (xs : List A) → AllOf P xs → AllOf Q xs
all_map f [] h = tt
all_map f (x ∷ xs) h = (f x h.0, all_map f xs h.1)

pub all_end : {A : Type 0} (P : A → Type 0) (xs : List A) (x : A) → AllOf P xs → P x → AllOf P (xs ++ x ∷ [])
all_end P [] x h p = (p, tt)
all_end P (y ∷ xs) x h p = (h.0, all_end P xs x h.1 p)

pub all_append : {A : Type 0} (P : A → Type 0) (xs ys : List A) → AllOf P xs → AllOf P ys → AllOf P (xs ++ ys)
all_append P [] ys h k = k
all_append P (x ∷ xs) ys h k = (h.0, all_append P xs ys h.1 k)

module _ {N : Type 0} (ts : List (Thing N)) (ls : Lists N) (us : List (Thing N)) (ms : Lists N) (grown : Grows ts ls us ms) where
  pub there_up : (v : Value N) → IsThere ls v → IsThere ms v
  there_up (Items k) h = (h.0, grown.lists k h.0 h.1)
  there_up other h = tt

  pub no_name_up : (d : ℕ) (v : Value N) → HasNoName d ls v → HasNoName d ms v
  no_name_up zero (Items k) h = absurd h
  no_name_up zero (Ref n) h = absurd h
  no_name_up (suc d) (Items k) h = (h.0, grown.lists k h.0 h.1, all_map (no_name_up d) h.0 h.2)
  no_name_up (suc d) (Ref n) h = absurd h
  no_name_up zero other h = tt
  no_name_up (suc d) other h = tt

  pub bears_up : (i : ℕ) → BearsFrozen ts i → BearsFrozen us i
  bears_up i h = (h.0, h.1, h.2, grown.objects i h.0 h.1 h.2 h.3, h.4)

  pub standing_up : (x : Standing N) → StandingThere ls x → StandingThere ms x
  standing_up (Settled y) h = there_up y h
  standing_up other h = tt

  pub message_up : (m : Message N) → MessageThere ls m → MessageThere ms m
  message_up m h = (there_up m.target h.0, all_map there_up m.args h.1)

  pub known_up : (k : Known N) → KnownThere ls k → KnownThere ms k
  known_up k h = (standing_up k.standing h.0, all_map message_up k.held h.1, all_map message_up k.reactions h.2)

  pub cell_up : (c : Cell N) → CellThere ls c → CellThere ms c
  cell_up c h = (there_up c.guard h.0, there_up c.value h.1)

  pub freedom_up : (x : Freedom N) → FreedomThere ls x → FreedomThere ms x
  freedom_up (IsFinal g) h = there_up g h
  freedom_up other h = tt

  pub view_up : (x : View N) → ViewThere ls x → ViewThere ms x
  view_up x h = all_map (λ f k. freedom_up f.freedom k) x.free h

  pub frozen_up : {W : Type 0} (K : Naming N W) (v : Value N) → IsFrozen K ts ls v → IsFrozen K us ms v
  frozen_up K (Items k) h = no_name_up 100 (Items k) h
  frozen_up K (Ref n) h = (h.0, h.1, bears_up h.0 h.2)
  frozen_up K other h = tt

  pub bound_up : {W : Type 0} (K : Naming N W) (b : Bound N) → BoundWell K ts ls b → BoundWell K us ms b
  bound_up K (Fixed v g) h = (there_up v h.0, there_up g h.1, λ e. frozen_up K v (h.2 e))
  bound_up K (Slot k) h = tt

  pub noun_up : {W : Type 0} (K : Naming N W) (b : Binding N) → NounWell K ts ls b → NounWell K us ms b
  noun_up K b h = bound_up K b.bound h

  pub capture_up : {W : Type 0} (K : Naming N W) (b : Bound N) → FrozenCapture K ts ls b → FrozenCapture K us ms b
  capture_up K (Fixed v g) h = frozen_up K v h
  capture_up K (Slot k) h = absurd h

  pub thing_up : {W : Type 0} (K : Naming N W) (x : Thing N) → ThingWell K ts ls x → ThingWell K us ms x
  thing_up K (Made node caught stamps) h = (all_map (noun_up K) caught h.0, all_map there_up stamps h.1, λ a. all_map (λ b. capture_up K b.bound) caught (h.2 a))
  thing_up K (Ejector live) h = tt
  thing_up K (Audition live view) h = view_up view h
  thing_up K (Resolver p) h = h
