-- What a vat makes of the news that a name settled to an object of a third vat: it asks for a gift, and has that as the name's view.
use Rattle.std.proofs.Common.{◌≡◌, ℕ, zero, suc, Bool, true, false, List, [], ◌∷◌, ◌++◌, Option, Some, None, refl, sym, ap, subst, ◌∙◌}
use Rattle.std.proofs.lemmas.Bool.{ne_eqb}
use Rattle.std.specs.Prelude.{◌==◌, if◌then◌else◌}
use Rattle.def_machine.specs.Values.{Ref, Name, Naming, IsGift, naming, name_of, key, word_of, under}
use Rattle.def_machine.proofs.Keys.{word_key}
use Rattle.def_machine.specs.State.{Known, Vat, Ask, Shorten, Standing, Unsettled, Viewed, Wait, See, begun, changed, changed_to, unless_settled, drawn_at, with_change}
use Rattle.def_machine.specs.State as state
use Rattle.def_machine.specs.Arrive as arriving
use Rattle.def_machine.specs.Refs as refs
use Rattle.def_machine.specs.Refs.{entry_of, follow_at}
use Rattle.def_run.specs.World.{Script, names}
use Rattle.law_order.specs.Ordering.Worlds.{IfGives}
use Rattle.law_order.proofs.Ordering.Coming.{new_entry, old_entry}
use Rattle.law_order.proofs.Ordering.Entries.{Differs, as_it_was, changes, differs, same_length}
use Rattle.law_order.proofs.Ordering.Sends.{entry_changed, none_some}
use Rattle.law_order.specs.Arrivals.Tellings.{StandsSo, IsTold}
use Rattle.law_order.specs.Arrivals.Views.{view_word, view_key, view_name, asked_vat, seen_vat}
use Rattle.law_order.proofs.Carries.Learning.{alone_self}

-- ---- where the arrival comes to

module _ (script : Script) (v h c : ℕ) (s : Vat Name) (n : Name) (k : Known Name) (known : entry_of (names script v) s.known n ≡ Some k) (host : k.host ≡ h) (own : s.number ≡ v) (third : c ≡ v → ⊥) where
  abbrev K : Naming Name Name
  K = names script v

  abbrev Word : ℕ
  Word = view_word script v h c n s

  abbrev Key : ℕ
  Key = view_key script v h c n s

  abbrev Drawn : Vat Name
  Drawn = record s { drawn = s.drawn ++ Word ∷ [] }

  abbrev Rest : ℕ → ℕ → state.Act Name (Unit {0})
  Rest a d = state.◌>>◌ (state.send_out a (Shorten n c d)) (state.◌>>=◌ (arriving.gift_there K s.number a c d) (λ q. arriving.see K n q))

  abbrev Given : Bool → ℕ → ℕ → state.Act Name Name
  Given b a d = if b then arriving.have_gift K a d else (state.◌>>=◌ (state.come K (IsGift c d) c) (λ q. state.◌>>◌ (state.send_out c (Ask a d q)) (state.give q)))

  -- the draw is new, and the vat has the gift as the view then
  abbrev pub Saw : Vat Name → Type 0
  Saw t = (drawn_at zero Word s.drawn ≡ None) × (t ≡ seen_vat script v h c n s)

  true_false : {A : Type 0} → true ≡ false → A
  true_false e = cc

  by_same : (b : Bool) → b ≡ false → drawn_at zero Word s.drawn ≡ None → IfGives Saw (state.◌>>◌ (state.send_out h (Shorten n c Key)) (state.◌>>=◌ (Given b h Key) (λ q. arriving.see K n q)) Drawn)
  unfolding state.◌>>=◌ state.◌>>◌ state.and_then state.send_out state.come state.give state.tell state.alter arriving.see names naming name_of
  by_same true e f = true_false e
  by_same false e f = (f, refl)

  by_rest : drawn_at zero Word s.drawn ≡ None → IfGives Saw (Rest h Key Drawn)
  unfolding arriving.gift_there
  by_rest f = by_same (c == s.number) (ne_eqb c s.number (λ e. third (e ∙ own))) f

  host_is : refs.host_at K s.number s.known n ≡ h
  unfolding refs.host_at refs.host_in
  host_is = ap (λ o. refs.host_in s.number o) known ∙ host

  key_is : (a : ℕ) → a ≡ h → under a (key s.number Word) ≡ Key
  unfolding under
  key_is a e = ap (λ z. key z (word_of (key s.number Word))) e ∙ ap (λ z. key h z) (word_key s.number Word)

  by_draw : (o : Option ℕ) → drawn_at zero Word s.drawn ≡ o → IfGives Saw (state.and_then (state.draws Word o s) (λ i. Rest (refs.host_at K s.number s.known n) (under (refs.host_at K s.number s.known n) i)))
  unfolding state.and_then state.draws
  by_draw (Some i) e = tt
  by_draw None e = subst (λ d. IfGives Saw (Rest (refs.host_at K s.number s.known n) d Drawn)) (sym (key_is (refs.host_at K s.number s.known n) host_is)) (subst (λ a. IfGives Saw (Rest a Key Drawn)) (sym host_is) (by_rest e))

  pub views : IfGives Saw (arriving.view_there K n c s)
  unfolding arriving.view_there state.◌>>=◌ state.and_then state.look state.draw names naming
  views = by_draw (drawn_at zero Word s.drawn) refl

-- ---- what is told by that

module _ (script : Script) (v h c : ℕ) (s : Vat Name) (n : Name) (k : Known Name) (known : entry_of (names script v) s.known n ≡ Some k) (waits : k.standing ≡ Unsettled) (new : entry_of (names script v) s.known (view_name script v h c n s) ≡ None) where
  abbrev N : Naming Name Name
  N = names script v

  abbrev Q : Name
  Q = view_name script v h c n s

  abbrev A : Vat Name
  A = asked_vat script v h c n s

  abbrev T : Vat Name
  T = seen_vat script v h c n s

  abbrev Viewing : List (Known Name)
  Viewing = with_change N (See Q) n A.known

  apart : Q ≡ n → ⊥
  apart e = none_some k (sym new ∙ ap (λ m. entry_of N s.known m) e ∙ known)

  found : entry_of N A.known n ≡ Some k
  found = old_entry N s.known (begun Q c) k n known

  -- a change of another name
  other : (x : state.Change Name) (p m : Name) (ks : List (Known Name)) → (m ≡ p → ⊥) → entry_of N (with_change N x p ks) m ≡ entry_of N ks m
  other x p m ks f = go (differs script v x p m ks)
    where
      go : Differs script v x p m (entry_of N ks m) (entry_of N (with_change N x p ks) m) → entry_of N (with_change N x p ks) m ≡ entry_of N ks m
      go (as_it_was i) = i
      go (changes j i a b) = absurd (f i)

  found_then : entry_of N T.known n ≡ Some (changed (See Q) k)
  found_then = other (Wait n) Q n Viewing (λ e. apart (sym e)) ∙ entry_changed N n (See Q) A.known k found

  unsettled_to : (x : state.Change Name) (q : Standing Name) (j new : Known Name) → q ≡ Unsettled → unless_settled q j new ≡ new
  unfolding unless_settled
  unsettled_to x q j new e = ap (λ z. unless_settled z j new) e

  changes_so : (x : state.Change Name) (j : Known Name) → j.standing ≡ Unsettled → changed x j ≡ changed_to x j
  unfolding changed
  changes_so x j e = unsettled_to x j.standing j (changed_to x j) e

  seen_so : changed (See Q) k ≡ record k { standing = Viewed Q }
  unfolding changed_to
  seen_so = changes_so (See Q) k waits

  -- what waits on a name besides does not tell how it stands
  wait_by : (q : Standing Name) (j : Known Name) → let z = unless_settled q j (record j { waiting = j.waiting ++ n ∷ [] }) in (z.standing ≡ j.standing) × (z.host ≡ j.host) × (z.held ≡ j.held)
  unfolding unless_settled
  wait_by (state.Settled y) j = (refl, refl, refl)
  wait_by other j = (refl, refl, refl)

  wait_so : (j : Known Name) → let z = changed (Wait n) j in (z.standing ≡ j.standing) × (z.host ≡ j.host) × (z.held ≡ j.held)
  unfolding changed changed_to
  wait_so j = wait_by j.standing j

  stands_self : (o : Option (Known Name)) → StandsSo o o
  stands_self (Some j) = (refl, refl, refl)
  stands_self None = tt

  others : (m : Name) → (m ≡ n → ⊥) → StandsSo (entry_of N A.known m) (entry_of N T.known m)
  others m f = subst (λ o. StandsSo o (entry_of N T.known m)) (other (See Q) n m A.known f) (go (differs script v (Wait n) Q m Viewing))
    where
      go : Differs script v (Wait n) Q m (entry_of N Viewing m) (entry_of N (with_change N (Wait n) Q Viewing) m) → StandsSo (entry_of N Viewing m) (entry_of N (with_change N (Wait n) Q Viewing) m)
      go (as_it_was i) = subst (λ o. StandsSo (entry_of N Viewing m) o) (sym i) (stands_self (entry_of N Viewing m))
      go (changes j i a b) = subst (λ o. StandsSo o (entry_of N (with_change N (Wait n) Q Viewing) m)) (sym a) (subst (λ o. StandsSo (Some j) o) (sym b) (wait_so j))

  pub told : IsTold N A T n (Ref Q)
  told = record {
    number = refl;
    gifts = refl;
    noticed = refl;
    queue = refl;
    outbox = refl;
    names_known = same_length script v (Wait n) Q Viewing ∙ same_length script v (See Q) n A.known;
    before = k;
    found = found;
    waits = waits;
    after = record k { standing = Viewed Q };
    found_then = found_then ∙ ap Some seen_so;
    leads = refl;
    host = refl;
    held = refl;
    others = others;
  }

  -- the gift itself waits
  gift_found : entry_of N A.known Q ≡ Some (begun Q c)
  gift_found = new_entry N s.known (begun Q c) Q new ∙ alone_self script v Q c tt

  gift_then : entry_of N T.known Q ≡ Some (changed (Wait n) (begun Q c))
  gift_then = entry_changed N Q (Wait n) Viewing (begun Q c) (other (See Q) n Q A.known apart ∙ gift_found)

  gift_waits : refs.standing_of N T.known Q ≡ Unsettled
  unfolding refs.standing_of refs.standing_in begun
  gift_waits = ap (λ o. refs.standing_in o) gift_then ∙ (wait_so (begun Q c)).0

  -- and is of that vat
  pub gift_stands : (j : Known Name) × (entry_of N T.known Q ≡ Some j) × (j.standing ≡ Unsettled) × (j.host ≡ c)
  unfolding begun
  gift_stands = (changed (Wait n) (begun Q c), gift_then, (wait_so (begun Q c)).0, (wait_so (begun Q c)).1)

  pub view_ends : (d : ℕ) → follow_at N d T.known (Ref Q) ≡ Ref Q
  unfolding follow_at refs.led
  view_ends zero = refl
  view_ends (suc d) = ap (λ q. refs.led N (λ y. follow_at N d T.known y) Q q) gift_waits
