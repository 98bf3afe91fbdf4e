-- A name of another vat settles: what settled stays as it is, and what nothing waits for settles alone.
use Rattle.std.proofs.Common.{◌≡◌, ℕ, suc, Bool, List, [], ◌∷◌, ◌++◌, Option, Some, None, length, refl, sym, ap, subst, ◌∙◌}
use Rattle.def_machine.specs.Values.{Value, Name, Naming}
use Rattle.def_machine.specs.State.{Message, Known, Standing, Unsettled, Settled, Settle, Settles, Vat, changed, changed_to, unless_settled}
use Rattle.def_machine.specs.State as state
use Rattle.def_machine.specs.Refs as refs
use Rattle.def_machine.specs.Refs.{entry_of}
use Rattle.def_run.specs.World.{Script, World, names}
use Rattle.law_order.specs.Ordering.Worlds.{IfGives, FollowsEnd}
use Rattle.law_order.specs.Ordering.Settle.{settled_to}
use Rattle.law_order.specs.Ordering.Settlings.{with_line}
use Rattle.law_order.proofs.Ordering.Entries.{Differs, as_it_was, changes, differs, same_length}
use Rattle.law_order.proofs.Ordering.Sends.{entry_changed, chain}
use Rattle.law_order.specs.Arrivals.Tellings.{StandsSo, IsTold}
use Rattle.law_order.specs.Arrivals.Wholes.{IsIdle}

module _ (script : Script) (v : ℕ) (s : Vat Name) (n : Name) (y : Value Name) (k : Known Name) (known : entry_of (names script v) s.known n ≡ Some k) (waits : k.standing ≡ Unsettled) (empty : k.held ≡ []) where
  abbrev N : Naming Name Name
  N = names script v

  abbrev pub Then : Vat Name
  Then = settled_to N (with_line s (Settles n y)) n y

  settled_by : (q : Standing Name) (j new : Known Name) → q ≡ Unsettled → unless_settled q j new ≡ new
  unfolding unless_settled
  settled_by q j new e = ap (λ z. unless_settled z j new) e

  now : changed (Settle y) k ≡ record k { standing = Settled y; held = []; waiting = []; reactions = []; told = [] }
  unfolding changed changed_to
  now = settled_by k.standing k (record k { standing = Settled y; held = []; waiting = []; reactions = []; told = [] }) waits

  stands_self : (o : Option (Known Name)) → StandsSo o o
  stands_self (Some j) = (refl, refl, refl)
  stands_self None = tt

  others : (m : Name) → (m ≡ n → ⊥) → StandsSo (entry_of N s.known m) (entry_of N Then.known m)
  others m f = go (differs script v (Settle y) n m s.known)
    where
      go : Differs script v (Settle y) n m (entry_of N s.known m) (entry_of N Then.known m) → StandsSo (entry_of N s.known m) (entry_of N Then.known m)
      go (as_it_was i) = subst (λ o. StandsSo (entry_of N s.known m) o) (sym i) (stands_self (entry_of N s.known m))
      go (changes j i a b) = absurd (f i)

  pub told_settled : IsTold N s Then n y
  told_settled = record {
    number = refl;
    gifts = refl;
    noticed = refl;
    queue = refl;
    outbox = refl;
    names_known = same_length script v (Settle y) n s.known;
    before = k;
    found = known;
    waits = waits;
    after = record k { standing = Settled y; held = []; waiting = []; reactions = []; told = [] };
    found_then = entry_changed N n (Settle y) s.known k known ∙ ap Some now;
    leads = refl;
    host = refl;
    held = sym empty;
    others = others;
  }

module _ (script : Script) (honest : ℕ → Bool) (w : World) (v : ℕ) where
  abbrev K : Naming Name Name
  K = names script v

  -- ---- where nothing waits for it

  quiet_reacts : (ms : List (Message Name)) (s : Vat Name) → IfGives (λ t. t.known ≡ s.known) (state.each state.enqueue ms s)
  unfolding state.each state.◌>>◌ state.and_then state.give state.enqueue
  quiet_reacts [] s = refl
  quiet_reacts (m ∷ ms) s = quiet_reacts ms (record s { queue = s.queue ++ m ∷ [] })

  module _ (s : Vat Name) (n : Name) (y : Value Name) (k : Known Name) (idle : IsIdle script honest w v k) (alone : k.waiting ≡ []) (d : ℕ) where
    abbrev Ends : Vat Name
    Ends = settled_to K (with_line s (Settles n y)) n y

    abbrev Same : Vat Name → Type 0
    Same u = u.known ≡ Ends.known

    abbrev At : Name → Value Name → state.Act Name (Unit {0})
    At q z = refs.settle_at K d q z

    alone_sent : IfGives (λ t. t ≡ Ends) (state.each (refs.send_on K (λ q z. At q z)) k.held Ends)
    unfolding state.each state.give
    alone_sent = subst (λ ms. IfGives (λ t. t ≡ Ends) (state.each (refs.send_on K (λ q z. At q z)) ms Ends)) (sym idle.1) refl

    alone_waits : IfGives (λ t. t ≡ Ends) (state.each (λ q. At q y) k.waiting Ends)
    unfolding state.each state.give
    alone_waits = subst (λ qs. IfGives (λ t. t ≡ Ends) (state.each (λ q. At q y) qs Ends)) (sym alone) refl

    alone_told : (u : Vat Name) → Same u → IfGives Same (state.each (refs.inform K n) k.told u)
    unfolding state.each state.give
    alone_told u g = subst (λ hs. IfGives Same (state.each (refs.inform K n) hs u)) (sym idle.2) g

    alone_last : (t : Vat Name) → t ≡ Ends → IfGives Same (state.and_then (state.each state.enqueue k.reactions t) (λ b. state.each (refs.inform K n) k.told))
    alone_last t e = chain (λ u. u.known ≡ t.known) Same (state.each state.enqueue k.reactions t) (state.each (refs.inform K n) k.told) (quiet_reacts k.reactions t) (λ u i. alone_told u (i ∙ ap (λ (q : Vat Name). q.known) e))

    alone_rest : (t : Vat Name) → t ≡ Ends → IfGives Same (state.and_then (state.each (λ q. At q y) k.waiting t) (λ a. λ u. state.and_then (state.each state.enqueue k.reactions u) (λ b. state.each (refs.inform K n) k.told)))
    alone_rest t e = chain (λ u. u ≡ Ends) Same (state.each (λ q. At q y) k.waiting t) (λ u. state.and_then (state.each state.enqueue k.reactions u) (λ b. state.each (refs.inform K n) k.told))
        (subst (λ z. IfGives (λ u. u ≡ Ends) (state.each (λ q. At q y) k.waiting z)) (sym e) alone_waits) (λ u i. alone_last u i)

    alone_known : IfGives Same (refs.settle_known K (λ q z. At q z) n y k s)
    unfolding refs.settle_known state.◌>>◌ state.and_then state.tell state.alter
    alone_known = chain (λ t. t ≡ Ends) Same (state.each (refs.send_on K (λ q z. At q z)) k.held Ends)
        (λ t. state.and_then (state.each (λ q. At q y) k.waiting t) (λ a. λ u. state.and_then (state.each state.enqueue k.reactions u) (λ b. state.each (refs.inform K n) k.told))) alone_sent (λ t e. alone_rest t e)

    alone_entry : entry_of K s.known n ≡ Some k → IfGives Same (refs.settle_entry K (λ q z. At q z) n y (entry_of K s.known n) s)
    unfolding refs.settle_entry refs.settle_standing
    alone_entry e = subst (λ o. IfGives Same (refs.settle_entry K (λ q z. At q z) n y o s)) (sym e) (subst (λ q. IfGives Same (refs.settle_standing K (λ z a. At z a) n y k q s)) (sym idle.0) alone_known)

  -- nothing else that is known changes
  pub settles_alone : (s : Vat Name) (n : Name) (x : Value Name) (k : Known Name) → IsIdle script honest w v k → k.waiting ≡ [] → entry_of K s.known n ≡ Some k
      → let y = refs.target_of K s n x in IfGives (λ u. u.known ≡ (let t = settled_to K (with_line s (Settles n y)) n y in t.known)) (refs.settle K n x s)
  unfolding refs.settle refs.settle_at refs.settle_one state.◌>>=◌ state.and_then state.look
  settles_alone s n x k idle alone e = alone_entry s n (refs.target_of K s n x) k idle alone (suc (length s.known)) e

  -- what settled stays as it is
  pub settled_rests : (s : Vat Name) (n : Name) (x z : Value Name) (k : Known Name) → entry_of K s.known n ≡ Some k → k.standing ≡ Settled z → refs.settle K n x s ≡ state.Gives tt s
  unfolding refs.settle refs.settle_at refs.settle_one refs.settle_entry refs.settle_standing state.◌>>=◌ state.and_then state.look state.give
  settled_rests s n x z k e f = let y = refs.target_of K s n x in let at : (Name → Value Name → state.Act Name (Unit {0})) = (λ q i. refs.settle_at K (suc (length s.known)) q i) in
      ap (λ o. refs.settle_entry K at n y o s) e ∙ ap (λ q. refs.settle_standing K at n y k q s) f

-- what the vat follows hangs on what it knows
pub ends_known : (K : Naming Name Name) (t u : Vat Name) → t.known ≡ u.known → FollowsEnd K t → FollowsEnd K u
ends_known K t u e g = subst (λ ks. FollowsEnd K (record u { known = ks })) e (record { objects = g.objects; fixed = g.fixed })
