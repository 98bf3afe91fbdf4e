-- What is kept of a vat: that a name which waits on another is its own, and so is the answer of each message that is here.
use Rattle.std.proofs.Common.{◌≡◌, ℕ, Bool, true, false, List, [], ◌∷◌, Option, Some, refl, subst}
use Rattle.def_machine.specs.Values.{Name, Answer, Promise, Msg, naming, host_of}
use Rattle.def_machine.specs.State.{Standing, Unsettled, WaitsOn, Known}
use Rattle.def_machine.specs.Refs.{entry_of, standing_of, standing_in}
use Rattle.law_fate.specs.Name.Names.{AllOf}
use Rattle.law_reference.proofs.Reference.Kept.{is}
use Rattle.law_reference.proofs.Gift.Kept.{Rule, Entry}

module _ (word : ℕ → ℕ) (v : ℕ) where
  abbrev pub IsHosted : Name → Type 0
  IsHosted n = host_of n ≡ v

  -- it waits on no other name, or is the vat's own
  abbrev pub StandsSo : Name → Standing Name → Type 0
  StandsSo n (WaitsOn q) = IsHosted n
  StandsSo n other = Unit {0}

  -- the vat's own names may come to wait on others, and any name may be viewed and settle
  abbrev pub owning : Rule word v
  owning = record {
    May = IsHosted;
    Waits = λ n. Unit {0};
    Sees = λ n. Unit {0};
    Settles = λ n y. Unit {0};
    Stands = StandsSo;
    unsettled = λ n. tt;
    waiting = λ n q h. h;
    viewed = λ n g h. tt;
    settled = λ n y h. tt;
    may_wait = λ n h. tt;
    may_settle = λ n y h. tt;
    waiter_settles = λ n y h. tt;
    seen_waits = λ n h. tt;
    seen_settles = λ n y h. tt;
    breaks = λ n t. tt;
    aimed = λ s n y h. tt;
  }

  pub answers : (m : Msg) → IsHosted (Answer v m)
  unfolding host_of
  answers m = refl

  pub promises : (i : ℕ) → IsHosted (Promise v i)
  unfolding host_of
  promises i = refl

  -- so stands the name itself
  unsettled_waits : (q : Name) → ◌≡◌ {A = Standing Name} Unsettled (WaitsOn q) → ⊥
  unsettled_waits q e = cc

  stands_head : (b : Bool) (k : Known Name) (o : Option (Known Name)) (n q : Name) → (b ≡ true → k.name ≡ n) → Entry word v owning k → (standing_in o ≡ WaitsOn q → IsHosted n) → standing_in (elim b [ true ↦ Some k | false ↦ o ]) ≡ WaitsOn q → IsHosted n
  unfolding standing_in
  stands_head true k o n q e h f i = subst IsHosted (e refl) (subst (StandsSo k.name) i h.0)
  stands_head false k o n q e h f i = f i

  pub stands_so : (ks : List (Known Name)) (n q : Name) → AllOf (Entry word v owning) ks → standing_of (naming word v) ks n ≡ WaitsOn q → IsHosted n
  unfolding standing_of entry_of standing_in
  stands_so [] n q h e = absurd (unsettled_waits q e)
  stands_so (k ∷ ks) n q h e = stands_head ((naming word v).same k.name n) k (entry_of (naming word v) ks n) n q (is word v k.name n) h.0 (λ i. stands_so ks n q h.1 i) e
