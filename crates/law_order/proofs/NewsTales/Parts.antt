-- A name of another vat settles, which held nothing and of which nobody is to be told: what waited on it settles, and then the reactions are queued.
use Rattle.std.proofs.Common.{◌≡◌, ℕ, suc, Bool, true, false, List, [], ◌∷◌, ◌++◌, Some, length, refl, sym, ap, subst, ◌∙◌}
use Rattle.std.specs.Prelude.{◌||◌}
use Rattle.def_machine.specs.Values.{Value, Name, Naming}
use Rattle.def_machine.specs.State.{Message, Unsettled, Known, Settles, Sends, Vat, Done, Gives}
use Rattle.def_machine.specs.State as state
use Rattle.def_machine.specs.Refs as refs
use Rattle.def_machine.specs.Refs.{entry_of}
use Rattle.def_run.specs.World.{Event, Here, World, events_of}
use Rattle.law_fate.specs.Name.Names.{AllOf}
use Rattle.law_order.specs.Ordering.Settle.{settled_to}
use Rattle.law_order.specs.Ordering.Settlings.{with_line}
use Rattle.law_order.specs.History.Lines.{counts, AllQuiet, sends_it, was_sent}
use Rattle.law_order.specs.Tales.Middle.{middle, IsQuietLine}
use Rattle.law_order.proofs.Tales.Middle.{events_quiet}

-- ---- one act after another, where the last gives

pub gave : {A B : Type 0} (d : Done Name A) (f : A → state.Act Name B) (b : B) (t : Vat Name) → state.and_then d f ≡ Gives b t → (a : A) × (r : Vat Name) × (d ≡ Gives a r) × (f a r ≡ Gives b t)
unfolding state.and_then
gave (Gives a r) f b t e = (a, r, refl, e)
gave other f b t e = cc

given_state : {A : Type 0} (a b : A) (s t : Vat Name) → Gives a s ≡ Gives b t → s ≡ t
given_state a b s t e = cc

module _ (K : Naming Name Name) (s : Vat Name) (n : Name) (y : Value Name) (k : Known Name) where
  abbrev pub Then : Vat Name
  Then = settled_to K (with_line s (Settles n y)) n y

  abbrev At : Name → Value Name → state.Act Name (Unit {0})
  At q z = refs.settle_at K (suc (length s.known)) q z

  abbrev Rest : List (Message Name) → List ℕ → Done Name (Unit {0})
  Rest ms hs = state.and_then (state.each (refs.send_on K (λ q z. At q z)) ms Then) (λ a. λ t. state.and_then (state.each (λ q. At q y) k.waiting t) (λ c. λ u. state.and_then (state.each state.enqueue k.reactions u) (λ d. state.each (refs.inform K n) hs)))

  -- what waited on it settled, and then reactions were queued
  pub record Parts (t : Vat Name) : Type 0 where
    pub between : Vat Name
    pub waits : state.each (λ q. At q y) k.waiting Then ≡ Gives tt between
    pub reacts : state.each state.enqueue k.reactions between ≡ Gives tt t

  module _ (t : Vat Name) (empty : k.held ≡ []) (untold : k.told ≡ []) where
    bare_parts : Rest [] [] ≡ Gives tt t → Parts t
    unfolding state.each state.give state.and_then
    bare_parts e = let one = gave (state.each (λ q. At q y) k.waiting Then) (λ c. λ u. state.and_then (state.each state.enqueue k.reactions u) (λ d. state.give tt)) tt t e in
        let two = gave (state.each state.enqueue k.reactions one.1) (λ d. state.give tt) tt t one.3 in record {
          between = one.1;
          waits = one.2;
          reacts = two.2 ∙ ap (λ (z : Vat Name). Gives tt z) (given_state tt tt two.1 t two.3);
        }

    known_parts : refs.settle_known K (λ q z. At q z) n y k s ≡ Gives tt t → Parts t
    unfolding refs.settle_known state.◌>>◌ state.and_then state.tell state.alter
    known_parts e = bare_parts (subst (λ ms. Rest ms [] ≡ Gives tt t) empty (subst (λ hs. Rest k.held hs ≡ Gives tt t) untold e))

    module _ (found : entry_of K s.known n ≡ Some k) (unsettled : k.standing ≡ Unsettled) where
      entry_parts : refs.settle_entry K (λ q z. At q z) n y (entry_of K s.known n) s ≡ Gives tt t → Parts t
      unfolding refs.settle_entry refs.settle_standing
      entry_parts e = known_parts (sym (ap (λ q. refs.settle_standing K (λ z a. At z a) n y k q s) unsettled) ∙ (sym (ap (λ o. refs.settle_entry K (λ q z. At q z) n y o s) found) ∙ e))

      -- where it settles to that
      pub settle_parts : (x : Value Name) → refs.target_of K s n x ≡ y → refs.settle K n x s ≡ Gives tt t → Parts t
      unfolding refs.settle refs.settle_at refs.settle_one state.◌>>=◌ state.and_then state.look
      settle_parts x same e = entry_parts (subst (λ z. refs.settle_entry K (λ q a. At q a) n z (entry_of K s.known n) s ≡ Gives tt t) same e)

      -- where nothing waited there, it is all
      pub alone_is : (x : Value Name) → refs.target_of K s n x ≡ y → refs.settle K n x s ≡ Gives tt t → k.waiting ≡ [] → k.reactions ≡ [] → t ≡ Then
      unfolding state.each state.give
      alone_is x same e none quiet = let p = settle_parts x same e in
          sym (given_state tt tt p.between t (subst (λ ms. state.each state.enqueue ms p.between ≡ Gives tt t) quiet p.reacts)) ∙ sym (given_state tt tt Then p.between (subst (λ qs. state.each (λ q. At q y) qs Then ≡ Gives tt p.between) none p.waits))

-- ---- what was not sent

quiet_unsent : (a : Name) (e : Event) → counts e ≡ false → sends_it a e ≡ false
unfolding counts sends_it
quiet_unsent a (Here v (Sends act x)) h = absurd (cc)
quiet_unsent a other h = refl

later_unsent : (a : Name) (es fs : List Event) → AllQuiet fs → was_sent a es ≡ false → was_sent a (es ++ fs) ≡ false
unfolding was_sent
later_unsent a [] [] h k = refl
later_unsent a [] (e ∷ fs) h k = subst (λ c. (c || was_sent a fs) ≡ false) (sym (quiet_unsent a e h.0)) (later_unsent a [] fs h.1 refl)
later_unsent a (e ∷ es) fs h k = go (sends_it a e) (λ i. later_unsent a es fs h i) k
  where
    go : (c : Bool) → (was_sent a es ≡ false → was_sent a (es ++ fs) ≡ false) → (c || was_sent a es) ≡ false → (c || was_sent a (es ++ fs)) ≡ false
    go true f i = i
    go false f i = f i

-- in the middle of a step that sends nothing
pub middle_unsent : (w : World) (v : ℕ) (head : List Event) (s : Vat Name) (m : Name) → AllQuiet head → AllOf IsQuietLine s.happened → was_sent m w.history ≡ false → was_sent m (middle w v head s).history ≡ false
middle_unsent w v head s m q h e = later_unsent m (w.history ++ head) (events_of w.links v s.happened) (events_quiet w.links v s.happened h) (later_unsent m w.history head q e)
