-- A name comes to wait on another, as a tale.
use Rattle.std.proofs.Common.{◌≡◌, ℕ, Bool, List, [], ◌∷◌, ◌++◌, Option, Some, None, refl, sym, ap, subst, ◌∙◌}
use Rattle.std.proofs.lemmas.List.{append-nil}
use Rattle.def_machine.specs.Values.{Value, Name, Naming}
use Rattle.def_machine.specs.State.{Done, Standing, Unsettled, WaitsOn, Settled, Known, Change, Wait, WaitOn, Waits, Vat, Gives, ◌>>=◌, ◌>>◌, and_then, tell, alter, changed, changed_to, unless_settled, with_change}
use Rattle.def_machine.specs.Refs as refs
use Rattle.def_machine.specs.Refs.{entry_of}
use Rattle.def_run.specs.World.{Script, Event, World, names}
use Rattle.law_order.specs.Ordering.Places.{held_on, held_in}
use Rattle.law_order.specs.Ordering.Settlings.{with_line, IsLoose}
use Rattle.law_order.specs.Ordering.Steps.{Ready, StaysReady}
use Rattle.law_order.specs.Ordering.Worlds.{IsObject, IsWaiting}
use Rattle.law_order.proofs.Ordering.Adding.{follow_alike}
use Rattle.law_order.proofs.Ordering.Adds.{change_adds}
use Rattle.law_order.proofs.Ordering.Entries.{Differs, as_it_was, changes, differs, same_length}
use Rattle.law_order.proofs.Ordering.Sends.{entry_changed}
use Rattle.law_order.proofs.Ordering.Waiting.{waits_grown, waits_ready}
use Rattle.law_order.specs.Tales.Middle.{MovesNone}
use Rattle.law_order.proofs.Settling.Acts.{Told, told_small, later_by}
use Rattle.law_order.proofs.Settling.Frames.{frame_then, changed_frame, less_then, less_mild, same_states}
use Rattle.law_order.proofs.Settling.Waiting.{WaitsElse, follow_same}

-- ---- what the change does to one name

unless_held : (z : Standing Name) (a b : Known Name) → b.held ≡ a.held → (unless_settled z a b).held ≡ a.held
unfolding unless_settled
unless_held (Settled y) a b e = refl
unless_held other a b e = e

wait_on_held : (q : Name) (k : Known Name) → (changed (WaitOn q) k).held ≡ k.held
unfolding changed changed_to
wait_on_held q k = unless_held k.standing k (record k { standing = WaitsOn q }) refl

wait_held : (p : Name) (k : Known Name) → (changed (Wait p) k).held ≡ k.held
unfolding changed changed_to
wait_held p k = unless_held k.standing k (record k { waiting = k.waiting ++ p ∷ [] }) refl

unless_host : (z : Standing Name) (a b : Known Name) → b.host ≡ a.host → (unless_settled z a b).host ≡ a.host
unfolding unless_settled
unless_host (Settled y) a b e = refl
unless_host other a b e = e

wait_on_host : (q : Name) (k : Known Name) → (changed (WaitOn q) k).host ≡ k.host
unfolding changed changed_to
wait_on_host q k = unless_host k.standing k (record k { standing = WaitsOn q }) refl

unless_waits : (q : Name) (z : Standing Name) (k : Known Name) → z ≡ Unsettled → IsWaiting (unless_settled z k (record k { standing = WaitsOn q })).standing
unfolding unless_settled
unless_waits q (Settled y) k e = cc
unless_waits q other k e = tt

wait_on_waits : (q : Name) (k : Known Name) → k.standing ≡ Unsettled → IsWaiting (changed (WaitOn q) k).standing
unfolding changed changed_to
wait_on_waits q k e = unless_waits q k.standing k e

none_some : (k : Known Name) → ◌≡◌ {A = Option (Known Name)} None (Some k) → ⊥
none_some k e = cc

-- ---- a name comes to wait on another

module _ (script : Script) (honest : ℕ → Bool) (w : World) (v : ℕ) (head : List Event) (L : Type 0) (s : Vat Name) (p q : Name) (k : Known Name) (found : entry_of (names script v) s.known p ≡ Some k) (unsettled : k.standing ≡ Unsettled) (loose : IsLoose script honest w v p s) (ready : Ready script honest w v s) where
  abbrev K : Naming Name Name
  K = names script v

  abbrev Mid : Vat Name
  Mid = record s { known = with_change K (WaitOn q) p s.known }

  abbrev End : Vat Name
  End = record Mid { known = with_change K (Wait p) q Mid.known }

  abbrev pub Waited : Vat Name
  Waited = with_line End (Waits p q)

  held_by : (c : Change Name) (m n : Name) (ks : List (Known Name)) → ((j : Known Name) → (changed c j).held ≡ j.held) → held_in n (entry_of K (with_change K c m ks) n) ≡ held_in n (entry_of K ks n)
  unfolding held_in
  held_by c m n ks h = go (differs script v c m n ks)
    where
      go : Differs script v c m n (entry_of K ks n) (entry_of K (with_change K c m ks) n) → held_in n (entry_of K (with_change K c m ks) n) ≡ held_in n (entry_of K ks n)
      go (as_it_was i) = ap (λ o. held_in n o) i
      go (changes j i a b) = ap (λ o. held_in n o) b ∙ ap (λ ms. held_on n ms) (h j) ∙ sym (ap (λ o. held_in n o) a)

  stay : StaysReady script honest w v s Waited
  stay r = (waits_ready script honest w v s p q k found unsettled loose r, waits_grown script honest w v s p q k found unsettled loose)

  none : MovesNone K s Waited
  none = record {
    queue = refl;
    held = λ n. held_by (Wait p) q n Mid.known (wait_held p) ∙ held_by (WaitOn q) p n s.known (wait_on_held q);
    puts = [];
    outbox = sym (append-nil s.outbox);
    none = tt;
    lines = Waits p q ∷ [];
    happened = refl;
    quiet = (tt, tt);
  }

  plain : IsObject p → ⊥
  plain o = none_some k (sym (ready.ends.objects p o) ∙ found)

  other_entry : (n : Name) → (n ≡ p → ⊥) → Differs script v (WaitOn q) p n (entry_of K s.known n) (entry_of K Mid.known n) → entry_of K Mid.known n ≡ entry_of K s.known n
  other_entry n f (as_it_was e) = e
  other_entry n f (changes j e a b) = absurd (f e)

  else_waits : WaitsElse K p s Mid
  else_waits = record {
    number = refl;
    gifts = refl;
    noticed = refl;
    names_known = same_length script v (WaitOn q) p s.known;
    plain = plain;
    before = k;
    found = found;
    waits = subst IsWaiting (sym unsettled) tt;
    after = changed (WaitOn q) k;
    found_then = entry_changed K p (WaitOn q) s.known k found;
    waits_then = wait_on_waits q k unsettled;
    host = wait_on_host q k;
    others = λ n f. other_entry n f (differs script v (WaitOn q) p n s.known);
  }

  -- each value is followed to what it was followed to
  follows : (x : Value Name) → refs.follow K Waited x ≡ refs.follow K s x
  follows x = (same_states script v End Waited refl refl refl).follow x ∙ follow_alike K Mid End (change_adds K (Wait p) q tt Mid).alike x ∙ follow_same script honest v p s Mid else_waits x

  pub waited_told : Told script honest w v head L s Waited
  waited_told = told_small script honest w v head L s Waited (stay ready).1 none
      (later_by script honest w v head L s Waited (Waits p q ∷ []) refl (tt, tt) ready stay
      (less_then script v s Mid Waited (less_mild script v (WaitOn q) tt p s Mid refl) (less_mild script v (Wait p) tt q Mid Waited refl))
      (λ l x j f. sym (follows x) ∙ f)
      (frame_then K s Mid Waited (changed_frame K (WaitOn q) p s Mid refl refl refl) (changed_frame K (Wait p) q Mid Waited refl refl refl)))

  pub wait_told : (t : Vat Name) → refs.wait_on K p q s ≡ Gives tt t → Told script honest w v head L s t
  unfolding refs.wait_on ◌>>◌ ◌>>=◌ and_then tell alter
  wait_told t e = subst (λ z. Told script honest w v head L s z) (gives_is Waited t e) waited_told
    where
      gives_is : (a b : Vat Name) → ◌≡◌ {A = Done Name (Unit {0})} (Gives tt a) (Gives tt b) → a ≡ b
      gives_is a b e = cc
