-- What data answers, its caller knew.
use Rattle.std.proofs.Common.{◌≡◌, ℕ, List, [], ◌∷◌, Option, Some, None, refl, inl, inr}
use Rattle.std.specs.Prelude.{slice_get}
use Rattle.def_machine.specs.Values.{Words, Value, Items, Naming}
use Rattle.def_machine.specs.State.{Happened}
use Rattle.def_machine.specs.Native as native
use Rattle.def_machine.specs.Native.{list_at}
use Rattle.law_machine.specs.Natives.Natives.{ReplyHas}
use Rattle.law_machine.proofs.Natives.Natives.{data_has}
use Rattle.law_uses.specs.Connectivity.Known.{AValue, AllOf, IsAmong, Holdings, Knows, plain, member}

module _ {N W : Type 0} (K : Naming N W) (h : Holdings N W) (so : List (Happened N)) (a : ℕ) where
  abbrev Known : Value N → Type 0
  Known v = Knows K h so a (AValue v)

  each_member : (vs : List (Value N)) → ((v : Value N) → IsAmong v vs → Known v) → AllOf Known vs
  each_member [] f = tt
  each_member (v ∷ vs) f = (f v (inl refl), each_member vs (λ w i. f w (inr i)))

  found_members : (k : ℕ) (o : Option (List (Value N))) → slice_get h.lists k ≡ o → Known (Items k) → AllOf Known (elim o [ Some vs ↦ vs | None ↦ [] ])
  found_members k (Some vs) e i = each_member vs (λ v m. member k vs i e m)
  found_members k None e i = tt

  members : (k : ℕ) → Known (Items k) → AllOf Known (list_at h.lists k)
  unfolding list_at
  members k i = found_members k (slice_get h.lists k) refl i

  pub answers_known : (y : Value N) (verb : Words) (held args : List (Value N)) → Known y → AllOf Known held → AllOf Known args → ReplyHas Known (native.data_reply h.lists y verb held args)
  answers_known y verb held args i j k = data_has Known (λ v p. plain p) h.lists members y verb held args i j k
