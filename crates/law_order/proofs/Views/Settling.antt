-- The machine has a name settle to what its view settled to.
use Rattle.std.proofs.Common.{◌≡◌, ℕ, zero, suc, List, [], Option, Some, None, refl, sym, ap, subst, ◌∙◌}
use Rattle.def_machine.specs.Values.{Value, Ref, Name, Naming}
use Rattle.def_machine.specs.State.{Standing, Settled, Known, Vat, Settle, changed, changed_to, unless_settled, with_change}
use Rattle.def_machine.specs.Refs as refs
use Rattle.def_machine.specs.Refs.{entry_of, standing_of, standing_in, follow_at}
use Rattle.def_run.specs.World.{Script, names}
use Rattle.law_order.specs.Ordering.Settle.{IsEnded, settled_to}
use Rattle.law_order.specs.Ordering.Worlds.{IsObject}
use Rattle.law_order.proofs.Ordering.Entries.{Differs, as_it_was, changes, differs, same_length}
use Rattle.law_order.proofs.Ordering.Sends.{entry_changed}
use Rattle.law_order.specs.Views.Led.{StandsOtherwise, ViewedNamesSettleSo}

module _ (K : Naming Name Name) (ks : List (Known Name)) (objects : (o : Name) → IsObject o → entry_of K ks o ≡ None) where
  object_ends : (d : ℕ) (o : Name) → IsObject o → follow_at K d ks (Ref o) ≡ Ref o
  unfolding follow_at refs.led standing_of standing_in
  object_ends zero o i = refl
  object_ends (suc d) o i = ap (λ k. refs.led K (λ z. follow_at K d ks z) o (standing_in k)) (objects o i)

  -- data and objects lead on to nothing
  ends : (d : ℕ) (y : Value Name) → IsEnded y → follow_at K d ks y ≡ y
  unfolding follow_at
  ends d (Ref o) i = object_ends d o i
  ends zero y i = refl
  ends (suc d) other i = refl

-- ---- a name settles

-- it did not settle
abbrev pub IsOpen : Standing Name → Type 0
IsOpen (Settled y) = ⊥
IsOpen other = Unit {0}

abbrev Settles : Value Name → Known Name → Known Name
Settles y k = record k { standing = Settled y; held = []; waiting = []; reactions = []; told = [] }

settles_from : (y : Value Name) (k : Known Name) (q : Standing Name) → IsOpen q → unless_settled q k (Settles y k) ≡ Settles y k
unfolding unless_settled
settles_from y k (Settled z) h = absurd h
settles_from y k other h = refl

pub settles : (y : Value Name) (k : Known Name) → IsOpen k.standing → changed (Settle y) k ≡ Settles y k
unfolding changed changed_to
settles y k h = settles_from y k k.standing h

module _ (script : Script) (v : ℕ) (s : Vat Name) (p : Name) (y : Value Name) (k : Known Name) (found : entry_of (names script v) s.known p ≡ Some k) (waits : IsOpen k.standing) (empty : k.held ≡ []) where
  abbrev K : Naming Name Name
  K = names script v

  abbrev After : List (Known Name)
  After = with_change K (Settle y) p s.known

  other : (n : Name) → (n ≡ p → ⊥) → Differs script v (Settle y) p n (entry_of K s.known n) (entry_of K After n) → entry_of K After n ≡ entry_of K s.known n
  other n f (as_it_was e) = e
  other n f (changes j e a b) = absurd (f e)

  -- by the machine nothing else stands otherwise
  pub settles_alone : StandsOtherwise K s (settled_to K s p y) p k (changed (Settle y) k)
  settles_alone = record {
    number = refl;
    gifts = refl;
    noticed = refl;
    queue = refl;
    outbox = refl;
    messages = refl;
    promises = refl;
    drawn = refl;
    names_known = same_length script v (Settle y) p s.known;
    found = found;
    empty = empty;
    found_then = entry_changed K p (Settle y) s.known k found;
    host = ap (λ (j : Known Name). j.host) (settles y k waits);
    empty_then = ap (λ (j : Known Name). j.held) (settles y k waits);
    others = λ n f. other n f (differs script v (Settle y) p n s.known);
  }

  pub settled_now : (changed (Settle y) k).standing ≡ Settled y
  settled_now = ap (λ (j : Known Name). j.standing) (settles y k waits)

known_apart : (k : Known Name) → ◌≡◌ {A = Option (Known Name)} None (Some k) → ⊥
known_apart k e = cc

pub viewed_names_settle_so : ViewedNamesSettleSo
viewed_names_settle_so script v s p g y k follows found viewed leads empty plain = record {
  before = k;
  after = changed (Settle y) k;
  only = alone;
  view = g;
  viewed = viewed;
  leads = leads;
  settled = settled_now script v s p y k found waits empty;
  plain = plain;
  ended = λ d. ends N s.known follows.objects d y plain;
  ended_then = λ d. ends N (with_change N (Settle y) p s.known) objects_then d y plain;
}
  where
    N : Naming Name Name
    N = names script v

    waits : IsOpen k.standing
    waits = subst IsOpen (sym viewed) tt

    alone : StandsOtherwise N s (settled_to N s p y) p k (changed (Settle y) k)
    alone = settles_alone script v s p y k found waits empty

    objects_then : (o : Name) → IsObject o → entry_of N (with_change N (Settle y) p s.known) o ≡ None
    objects_then o i = alone.others o (λ e. known_apart k (sym (follows.objects o i) ∙ ap (λ m. entry_of N s.known m) e ∙ found)) ∙ follows.objects o i
