-- As a step of a run begins, each message that a name of the vat holds came to it as the history tells.
use Rattle.std.proofs.Common.{◌≡◌, ℕ, zero, Bool, List, [], ◌∷◌, ◌++◌, Some, sym, subst, ◌∙◌, inl, inr}
use Rattle.std.specs.Prelude.{slice_get}
use Rattle.def_machine.specs.Values.{Value, Name}
use Rattle.def_machine.specs.State.{Message, Known, Passed, Passeds, Plain, AGift, Many, NoMore, More, Vat}
use Rattle.def_run.specs.World as world
use Rattle.def_run.specs.World.{Script, Event, World, readied}
use Rattle.law_fate.specs.Name.Names.{AllOf, IsAmong, KnownOk, MessageOk}
use Rattle.law_fate.proofs.Name.Among.{all_among}
use Rattle.law_fate.proofs.Name.Run.{Had}
use Rattle.law_uses.specs.Connectivity.Known as connected
use Rattle.law_uses.specs.Connectivity.Stems.{HasList, ComesAs, ComeAll}
use Rattle.law_order.specs.Ordering.Steps.{IsHeld}
use Rattle.law_order.specs.Came.Came.{HeldCame}
use Rattle.law_order.proofs.Came.Runs.{held_messages_came}
use Rattle.law_order.specs.History.Told.{IsOfRun, opened, entered}
use Rattle.law_order.proofs.History.Lines.{comes_stays}
use Rattle.law_order.specs.Sending.Came.{IsHadAs, AreHadAs, CameSo}
use Rattle.law_order.proofs.Sending.Held.{values_held}
use Rattle.law_order.proofs.Sending.Sending.{Around}

to_name : {A : Type 0} (x : A) (xs : List A) → connected.IsAmong x xs → IsAmong x xs
to_name x [] i = i
to_name x (y ∷ xs) (inl e) = inl e
to_name x (y ∷ xs) (inr i) = inr (to_name x xs i)

module _ (w : World) (v : ℕ) (r : Vat Name) (there : slice_get w.vats v ≡ Some r) where
  some_vat : (a b : Vat Name) → Some a ≡ Some b → a ≡ b
  some_vat a b e = cc

  has_list : (k : ℕ) (vs : List (Value Name)) → HasList w v k vs → slice_get r.lists k ≡ Some vs
  has_list k vs h = subst (λ (s : Vat Name). slice_get s.lists k ≡ Some vs) (some_vat h.0 r (sym h.1 ∙ there)) h.2

  mutual
    one_had : (z : Passed Name) (x : Value Name) → ComesAs (HasList w v) z x → IsHadAs r.lists z x
    one_had (Plain y) x e = e
    one_had (AGift g i) x e = e
    one_had (Many ys) x e = (e.0, e.1, e.2, has_list e.0 e.1 e.3, all_had ys e.1 e.4)

    -- what came is had, by the lists of the vat
    pub all_had : (zs : Passeds Name) (xs : List (Value Name)) → ComeAll (HasList w v) zs xs → AreHadAs r.lists zs xs
    all_had NoMore [] e = tt
    all_had NoMore (x ∷ xs) e = e
    all_had (More z zs) [] e = e
    all_had (More z zs) (x ∷ xs) e = (one_had z x e.0, all_had zs xs e.1)

held_of : (script : Script) (w : World) → IsOfRun script w → HeldCame w
held_of script w (opened ps rest i e) = (held_messages_came script).0 ps w e
held_of script w (entered es rest o i a e) = (held_messages_came script).1 o w es 1 a e

module _ (script : Script) (honest : ℕ → Bool) (w : World) (around : Around script w) (v : ℕ) (r : Vat Name) (there : slice_get w.vats v ≡ Some r) (k : Known Name) (known : connected.IsAmong k r.known) (m : Message Name) (holds : connected.IsAmong m k.held) where
  args_held : AllOf (IsHeld script honest w v r) m.args
  args_held =
      let stand = around.stands.vats v r there in let p = stand.parts in let kept = stand.kept in
      let entry : KnownOk (Had script w v r) k = all_among (KnownOk (Had script w v r)) r.known k p.known (to_name k r.known known) in
      let message : MessageOk (Had script w v r) m = all_among (MessageOk (Had script w v r)) k.held m entry.2 (to_name m k.held holds) in
      values_held script honest w v r (Had script w v r) (λ b h. h.1) kept.apart m.args message.2

  pub held_came_so : (head : List Event) (ms : List (Message Name)) → CameSo script honest w v head (readied w (record r { queue = ms })) m
  unfolding readied
  held_came_so head ms = let c = held_of script w around.of_run v r there k known m holds in record {
    coming = c.0;
    came = comes_stays v m.id zero (w.history ++ head) (world.events_of w.links v []) c.0 (comes_stays v m.id zero w.history head c.0 c.1);
    had = all_had w v r there c.0.args m.args c.2;
    held = args_held;
  }
