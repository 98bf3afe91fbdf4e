-- What is ahead of the references in the arguments of a message is ahead of what passes for them.
use Rattle.std.specs.Prelude.{◌≡◌, ℕ, zero, suc, Bool, true, false, List, [], ◌∷◌, ◌⊎◌, Some, None, slice_get}
use Rattle.def_machine.specs.Values.{Words, Value, Broken, Items, Ref, Name, Gift, host_of, key}
use Rattle.def_machine.specs.State.{Known, Settled, Passed, Passeds, NoMore, More, Put, Vat, Done, Gives, Throws, Ejects, Stops, drawn_at}
use Rattle.def_machine.specs.Native.{list_at}
use Rattle.def_machine.specs.Refs.{entry_of, follow, pass_all}
use Rattle.def_run.specs.World.{Script, Event, Link, World, link_at, names, push_all}
use Rattle.law_fate.specs.Name.Names.{IsAmong}
use Rattle.law_order.specs.Ordering.Ways.{Held, Way, Item, Place, End, Mid, Ahead}
use Rattle.law_order.specs.Ordering.Turns.{Within}
use Rattle.law_order.specs.Ordering.Places.{opened_there}
use Rattle.law_order.specs.Ordering.Worlds.{IsObject}
use Rattle.law_order.specs.Ordering.Steps.{WaysAmid, LeadsAmid, Ready, Grown, IsHeld}
use Rattle.law_order.specs.Ordering.OrderSendPassing.{IsOpenAt}
use Rattle.law_order.specs.Ordering.Order.{members, names as is_named, all_pass_as}

abbrev pub OnGives : {A : Type 0} → (A → Vat Name → Type 0) → Done Name A → Type 0
OnGives P (Gives a t) = P a t
OnGives P (Throws p t) = Unit {0}
OnGives P (Ejects n y t) = Unit {0}
OnGives P (Stops c t) = Unit {0}

-- the vat is there, and a link to it from vat v, whatever was put on that
pub record IsThere (w : World) (v g : ℕ) : Type 0 where
  pub vat : Vat Name
  pub found : slice_get w.vats g ≡ Some vat
  pub link : (ps : List (Put Name)) → (l : Link) × (link_at v g (push_all v ps w.links) ≡ Some l)

-- the name is broken at the vat
pub record IsBrokenAt (script : Script) (h : ℕ) (r : Vat Name) (n : Name) : Type 0 where
  pub known : Known Name
  pub found : entry_of (names script h) r.known n ≡ Some known
  pub problem : Words
  pub broken : known.standing ≡ Settled (Broken problem)

pub record IsCutFrom (w : World) (v h : ℕ) : Type 0 where
  pub link : Link
  pub found : link_at v h w.links ≡ Some link
  pub cut : link.cut ≡ true

abbrev pub IsOpenOrLost : Script → World → ℕ → ℕ → Vat Name → Name → Type 0
IsOpenOrLost script w v h r n = IsOpenAt script h v r n ⊎ (IsBrokenAt script h r n ⊎ IsCutFrom w v h)

-- no link leads to that vat
pub record IsNoVat (w : World) (g : ℕ) : Type 0 where
  pub none : (a : ℕ) → link_at a g w.links ≡ None

-- It holds of each argument and the value for it, as far as both are there.
abbrev pub AllCame : (Passed Name → Value Name → Type 0) → Passeds Name → List (Value Name) → Type 0
AllCame P NoMore xs = Unit {0}
AllCame P (More z zs) [] = Unit {0}
AllCame P (More z zs) (x ∷ xs) = P z x × AllCame P zs xs

module _ (script : Script) (honest : ℕ → Bool) (w : World) (v h : ℕ) where
  -- Vat v can pass what it has to vat h, of state r, in a world with honest vats alone.
  pub record CanPass (r s : Vat Name) : Type 0 where
    pub ready : Ready script honest w v s
    -- its own names that wait are unknown to h, or wait there for it, or are broken there; or nothing arrives there
    pub opens : (x : Value Name) (n : Name) → IsHeld script honest w v s x → LeadsAmid script honest w v s v x ≡ End (Held v n) n → (host_of n ≡ v) × IsOpenOrLost script w v h r n
    -- its references lead to vats that are there, or to none
    pub vats : (x : Value Name) (g : ℕ) (n : Name) → IsHeld script honest w v s x → LeadsAmid script honest w v s v x ≡ End (Way v g) n → IsThere w v g ⊎ IsNoVat w g
    -- no vat knows a gift under a word that was not drawn
    pub gifts : (x : ℕ) → drawn_at zero x s.drawn ≡ None → (u g : ℕ) (t : Vat Name) → slice_get w.vats u ≡ Some t
        → (entry_of (names script u) t.known (Gift g (key v x)) ≡ None) × (opened_there (Gift g (key v x)) t.gifts ≡ false)

  -- What was ahead of that place in s is ahead in t of the name m as a note brings it to h, behind all that stands on the link.
  abbrev pub BringsBehind : Vat Name → Vat Name → Place → Name → Type 0
  BringsBehind s t c m = (a : Name) → Ahead (WaysAmid script honest w v s) a c → (bs : List Item) → Within ((WaysAmid script honest w v t).stands (Way v h)) bs → Ahead (WaysAmid script honest w v t) a (Mid (Way v h) bs m)

  abbrev pub IsNamedAs : Vat Name → Passed Name → Value Name → Type 0
  IsNamedAs s z x = (e : Name) → is_named e z ≡ true → (x ≡ Ref e) × IsHeld script honest w v s (Ref e)

  -- An argument came to the vat so, and the vat has that value for it: a name came as the name that it has; and the members of a list, as the history tells them, came as the members that it has, at so many depths.
  abbrev pub CameAs : ℕ → Vat Name → List Event → Passed Name → Value Name → Type 0
  CameAs zero s done z x = IsNamedAs s z x
  CameAs (suc d) s done z x = IsNamedAs s z x × ((k : ℕ) → follow (names script v) s x ≡ Items k → AllCame (λ y u. CameAs d s done y u) (members v done z) (list_at s.lists k))

-- As the arguments of a message pass to h, what is ahead of each reference in them is ahead of what passes for it, at any depth of lists.
abbrev pub ArgumentsPassBehind : Type 0
ArgumentsPassBehind = (script : Script) (honest : ℕ → Bool) (w : World) (v h : ℕ) (q r s : Vat Name) (done : List Event) (zs : Passeds Name) (xs : List (Value Name))
    → ((u : ℕ) → honest u ≡ true) → slice_get w.vats v ≡ Some q → slice_get w.vats h ≡ Some r → r.number ≡ h → (h ≡ v → ⊥) → ((n : Name) → IsObject n → entry_of (names script h) r.known n ≡ None)
    → CanPass script honest w v h r s → ((d : ℕ) → AllCame (λ z x. CameAs script honest w v h d s done z x) zs xs)
    → OnGives (λ ys t. Grown script honest w v s t × ((e m : Name) → IsAmong m (all_pass_as v done e ys zs) → BringsBehind script honest w v h s t (LeadsAmid script honest w v s v (Ref e)) m)) (pass_all (names script v) h xs s)
