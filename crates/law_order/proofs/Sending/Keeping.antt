-- What came so came so still as the vat goes on; and so does what it sends.
use Rattle.std.proofs.Common.{◌≡◌, ℕ, zero, Bool, true, false, List, [], ◌∷◌, ◌++◌, Some, None, length, refl, sym, ap, subst, ◌∙◌, ◌&&◌}
use Rattle.std.proofs.lemmas.Bool.{eq-eqb}
use Rattle.def_machine.specs.Values.{Value, Name, same_name}
use Rattle.def_machine.specs.State.{Message, Sends, Passed, Passeds, Plain, AGift, Many, NoMore, More, Vat}
use Rattle.def_run.specs.World.{Script, Event, Here, World}
use Rattle.law_machine.specs.Machine.Laws.{Stays, SameLists}
use Rattle.law_fate.specs.Name.Names.{AllOf}
use Rattle.law_order.specs.Ordering.Order.{Coming, plains, comes_in, comes}
use Rattle.law_order.specs.Ordering.Steps.{IsHeld}
use Rattle.law_order.proofs.Ordering.Named.{same_self}
use Rattle.law_order.specs.History.Lines.{AllQuiet}
use Rattle.law_order.proofs.History.Lines.{comes_stays, comes_now}
use Rattle.law_order.specs.Sending.Came.{told_amid, IsHadAs, AreHadAs, CameSo}

-- lists that a vat has stay
mutual
  one_more : (ls ms : List (List (Value Name))) → Stays ls ms → (z : Passed Name) (x : Value Name) → IsHadAs ls z x → IsHadAs ms z x
  one_more ls ms h (Plain y) x e = e
  one_more ls ms h (AGift g i) x e = e
  one_more ls ms h (Many ys) x e = (e.0, e.1, e.2, h e.0 e.1 e.3, had_more ls ms h ys e.1 e.4)

  pub had_more : (ls ms : List (List (Value Name))) → Stays ls ms → (zs : Passeds Name) (xs : List (Value Name)) → AreHadAs ls zs xs → AreHadAs ms zs xs
  had_more ls ms h NoMore [] e = tt
  had_more ls ms h NoMore (x ∷ xs) e = e
  had_more ls ms h (More z zs) [] e = e
  had_more ls ms h (More z zs) (x ∷ xs) e = (one_more ls ms h z x e.0, had_more ls ms h zs xs e.1)

-- what is sent is had as it is sent
pub plains_had : (ls : List (List (Value Name))) (xs : List (Value Name)) → AreHadAs ls (plains xs) xs
unfolding plains
plains_had ls [] = tt
plains_had ls (x ∷ xs) = (refl, plains_had ls xs)

module _ (script : Script) (honest : ℕ → Bool) (w : World) (v : ℕ) (head : List Event) (s t : Vat Name) (more : List Event) (lines : told_amid w v head t ≡ told_amid w v head s ++ more) where
  held_all : ((x : Value Name) → IsHeld script honest w v s x → IsHeld script honest w v t x) → (xs : List (Value Name)) → AllOf (IsHeld script honest w v s) xs → AllOf (IsHeld script honest w v t) xs
  held_all f [] h = tt
  held_all f (x ∷ xs) h = (f x h.0, held_all f xs h.1)

  pub came_later : SameLists s t → ((x : Value Name) → IsHeld script honest w v s x → IsHeld script honest w v t x) → (m : Message Name) → CameSo script honest w v head s m → CameSo script honest w v head t m
  came_later lists held m c = record {
    coming = c.coming;
    came = subst (λ h. comes v m.id zero h ≡ Some c.coming) (sym lines) (comes_stays v m.id zero (told_amid w v head s) more c.coming c.came);
    had = had_more s.lists t.lists lists c.coming.args m.args c.had;
    held = held_all held m.args c.held;
  }

  -- the message m is sent, on whatever value, and had not come to the vat before
  module _ (act : ℕ) (m : Message Name) (after : List Event) (sends : more ≡ Here v (Sends act m) ∷ after) (quiet : AllQuiet after) (uncome : comes v m.id zero (told_amid w v head s) ≡ None) where
    abbrev Arrival : Coming
    Arrival = record { line = length (told_amid w v head s); args = plains m.args }

    came_in : comes_in v m.id (length (told_amid w v head s)) (Here v (Sends act m)) ≡ Some Arrival
    unfolding comes_in
    came_in = ap (λ b. elim (b && same_name m.id m.id) [ true ↦ Some Arrival | false ↦ None ]) (eq-eqb v v refl) ∙ ap (λ b. elim b [ true ↦ Some Arrival | false ↦ None ]) (same_self m.id)

    came_now : comes v m.id zero (told_amid w v head t) ≡ Some Arrival
    came_now = ap (comes v m.id zero) (lines ∙ ap (λ es. told_amid w v head s ++ es) sends) ∙ comes_now v m.id (told_amid w v head s) (Some (Here v (Sends act m))) after quiet uncome ∙ came_in

    pub sent_so : (f : Message Name) → f.id ≡ m.id → f.args ≡ m.args → AllOf (IsHeld script honest w v t) m.args → CameSo script honest w v head t f
    sent_so f id args held = record {
      coming = Arrival;
      came = subst (λ x. comes v x zero (told_amid w v head t) ≡ Some Arrival) (sym id) came_now;
      had = subst (λ xs. AreHadAs t.lists (plains m.args) xs) (sym args) (plains_had t.lists m.args);
      held = subst (λ xs. AllOf (IsHeld script honest w v t) xs) (sym args) held;
    }
