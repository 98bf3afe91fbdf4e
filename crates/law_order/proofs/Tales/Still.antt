-- Between two worlds no message moves: what a step owes beside the order of the ways, put together from its parts.
use Rattle.std.proofs.Common.{◌≡◌, ℕ, Bool, List, [], ◌∷◌, ◌++◌, sym, ap, ◌∙◌, ◌⊎◌, inl}
use Rattle.std.proofs.lemmas.List.{append_assoc}
use Rattle.def_machine.specs.Values.{Name, Ref}
use Rattle.def_machine.specs.State.{Passeds, Delivery, Note}
use Rattle.def_run.specs.World.{Script, Event, World}
use Rattle.law_order.specs.Ordering.Ways.{Lane, Held, Item, Nowhere, Mid, Ahead}
use Rattle.law_order.specs.Ordering.Places.{leads, ways}
use Rattle.law_order.specs.History.Lines.{AllQuiet}
use Rattle.law_order.specs.History.Befores.{Brings}
use Rattle.law_order.specs.Tales.Resting.{WasBrought, Rests}

pub quiet_join : (es fs : List Event) → AllQuiet es → AllQuiet fs → AllQuiet (es ++ fs)
quiet_join [] fs h k = k
quiet_join (e ∷ es) fs h k = (h.0, quiet_join es fs h.1 k)

-- only quiet lines are told, and each message stands where it stood
pub record IsStill (script : Script) (honest : ℕ → Bool) (x y : World) : Type 0 where
  pub told : List Event
  pub lines : y.history ≡ x.history ++ told
  pub quiet : AllQuiet told
  pub stands : (l : Lane) → (ways script honest y).stands l ≡ (ways script honest x).stands l
  pub brought : (u v : ℕ) (front : List (Note Name)) (d : Delivery Name) (n : Name) (ys : Passeds Name) → Brings y u v front d n ys → WasBrought script honest x y u v front d n ys

module _ (script : Script) (honest : ℕ → Bool) where
  pub still_then : (x y z : World) → IsStill script honest x y → IsStill script honest y z → IsStill script honest x z
  still_then x y z h k = record {
    told = h.told ++ k.told;
    lines = k.lines ∙ ap (λ es. es ++ k.told) h.lines ∙ append_assoc x.history h.told k.told;
    quiet = quiet_join h.told k.told h.quiet k.quiet;
    stands = λ l. k.stands l ∙ h.stands l;
    brought = λ u v front d n ys b. let r = k.brought u v front d n ys b in let q = h.brought u v r.before d n ys r.brings in record { before = q.before; brings = q.brings; behind = q.behind ∙ r.behind };
  }

  module _ (x y : World) (h : IsStill script honest x y) where
    -- It rests where what is ahead stays ahead.
    pub rests_by : ((u : ℕ) (n : Name) → (leads script honest y.vats y.links u (Ref n) ≡ leads script honest x.vats x.links u (Ref n)) ⊎ (leads script honest y.vats y.links u (Ref n) ≡ Nowhere))
        → ((u : ℕ) (n a : Name) → Ahead (ways script honest x) a (leads script honest x.vats x.links u (Ref n)) → Ahead (ways script honest y) a (leads script honest y.vats y.links u (Ref n)))
        → ((l : Lane) (b : List Item) (n a : Name) → Ahead (ways script honest x) a (Mid l b n) → Ahead (ways script honest y) a (Mid l b n)) → Rests script honest x y
    rests_by leading references places = record {
      told = h.told;
      lines = h.lines;
      quiet = h.quiet;
      leading = leading;
      references = references;
      places = places;
      stands = λ m l b n i. inl (record { behind = i.behind; found = sym (h.stands l) ∙ i.found });
      holds = λ v p m b n i. record { behind = i.behind; found = sym (h.stands (Held v p)) ∙ i.found };
      brought = h.brought;
    }
