-- What came as the arguments of a message, and what the vat has for it.
use Rattle.std.specs.Prelude.{◌≡◌, ℕ, zero, Bool, List, [], ◌∷◌, ◌++◌, Some, slice_get}
use Rattle.def_machine.specs.Values.{Value, Items, Ref, Name, Gift}
use Rattle.def_machine.specs.State.{Message, Settled, Settles, Passed, Passeds, Plain, AGift, Many, NoMore, More, Vat}
use Rattle.def_machine.specs.Refs.{follow, standing_of}
use Rattle.def_run.specs.World.{Script, Event, Here, World, names, events_of}
use Rattle.law_fate.specs.Name.Names.{IsAmong, AllOf}
use Rattle.law_order.specs.Ordering.Order.{Coming, comes, listed, plains}
use Rattle.law_order.specs.Ordering.Steps.{IsHeld}
use Rattle.law_order.specs.History.Passings.{AllCame, CameAs}
use Rattle.law_order.specs.History.Told.{IsTold}

-- the history in the middle of a step of vat v, which came to s
abbrev pub told_amid : World → ℕ → List Event → Vat Name → List Event
told_amid w v head s = w.history ++ head ++ events_of w.links v s.happened

-- of lists, by what the vat's lists hold
abbrev mutual
  pub IsHadAs : List (List (Value Name)) → Passed Name → Value Name → Type 0
  IsHadAs ls (Plain y) x = x ≡ y
  IsHadAs ls (AGift g i) x = x ≡ Ref (Gift g i)
  IsHadAs ls (Many ys) x = (k : ℕ) × (vs : List (Value Name)) × (x ≡ Items k) × (slice_get ls k ≡ Some vs) × AreHadAs ls ys vs

  pub AreHadAs : List (List (Value Name)) → Passeds Name → List (Value Name) → Type 0
  AreHadAs ls NoMore [] = Unit {0}
  AreHadAs ls NoMore (x ∷ xs) = ⊥
  AreHadAs ls (More z zs) [] = ⊥
  AreHadAs ls (More z zs) (x ∷ xs) = IsHadAs ls z x × AreHadAs ls zs xs

-- one of these lines says that list k of vat v has those members
pub record IsListedAs (v k : ℕ) (vs : List (Value Name)) (done : List Event) : Type 0 where
  pub line : Event
  pub among : IsAmong line done
  pub says : listed v k line ≡ Some vs

-- What vat v has, as s, agrees with all that the history of the run tells by any time: of a list that it has each line tells these members; and a name that settled, and settled to a list by a line, settled to that.
pub record Agrees (script : Script) (v : ℕ) (s : Vat Name) : Type 0 where
  pub lists : (done : List Event) → IsTold script done → (k : ℕ) (vs ws : List (Value Name)) → slice_get s.lists k ≡ Some vs → IsListedAs v k ws done → ws ≡ vs
  pub settled : (done : List Event) → IsTold script done → (n : Name) (k : ℕ) (z : Value Name) → IsAmong (Here v (Settles n (Items k))) done → standing_of (names script v) s.known n ≡ Settled z → z ≡ Items k

-- No view leads to a list: what is followed to one settled to it.
abbrev pub ViewsNoList : Script → ℕ → Vat Name → Type 0
ViewsNoList script v s = (n : Name) (k : ℕ) → follow (names script v) s (Ref n) ≡ Items k → standing_of (names script v) s.known n ≡ Settled (Items k)

module _ (script : Script) (honest : ℕ → Bool) (w : World) (v : ℕ) where
  -- the members of all its lists it has in hand
  abbrev pub HoldsMembers : Vat Name → Type 0
  HoldsMembers s = (k : ℕ) (vs : List (Value Name)) → slice_get s.lists k ≡ Some vs → AllOf (IsHeld script honest w v s) vs

  -- The message came to the vat as the history tells, and the vat has what came as its arguments.
  pub record CameSo (head : List Event) (s : Vat Name) (m : Message Name) : Type 0 where
    pub coming : Coming
    pub came : comes v m.id zero (told_amid w v head s) ≡ Some coming
    pub had : AreHadAs s.lists coming.args m.args
    pub held : AllOf (IsHeld script honest w v s) m.args

-- ---- laws

-- What a vat has for what came, came as the history tells, at any depth of lists.
abbrev pub WhatIsHadCame : Type 0
WhatIsHadCame = (script : Script) (honest : ℕ → Bool) (w : World) (v h : ℕ) (s : Vat Name) → Agrees script v s → ViewsNoList script v s → HoldsMembers script honest w v s
    → (zs : Passeds Name) (xs : List (Value Name)) → AreHadAs s.lists zs xs → AllOf (IsHeld script honest w v s) xs
    → (d : ℕ) (done : List Event) → IsTold script done → AllCame (λ z x. CameAs script honest w v h d s done z x) zs xs

-- So what it sends as it has it.
abbrev pub WhatIsSentCame : Type 0
WhatIsSentCame = (script : Script) (honest : ℕ → Bool) (w : World) (v h : ℕ) (s : Vat Name) → Agrees script v s → ViewsNoList script v s → HoldsMembers script honest w v s
    → (xs : List (Value Name)) → AllOf (IsHeld script honest w v s) xs → (d : ℕ) (done : List Event) → IsTold script done → AllCame (λ z x. CameAs script honest w v h d s done z x) (plains xs) xs
