-- As a vat is asked for a gift the ways only grow, where it did not notice the provider.
use Rattle.std.proofs.Common.{◌≡◌, ℕ, Bool, false, [], ◌∷◌, ◌++◌, Option, Some, None, if◌then◌else◌, refl, sym, ap, subst, ◌∙◌}
use Rattle.def_machine.specs.Values.{Name, Root, Promise, Answer, Gift, Sent, Msg, Naming, naming, name_of, host_of}
use Rattle.def_machine.specs.State.{Standing, Settled, GiftEntry, Note, ToTell, Vat, Done, Gives, Act, ◌>>=◌, ◌>>◌, and_then, give, look, send_out, new_gift, come, alter, begun, is_in}
use Rattle.def_machine.specs.State as state
use Rattle.def_machine.specs.Refs as refs
use Rattle.def_machine.specs.Arrive as arrive
use Rattle.def_machine.specs.Arrive.{gift_at}
use Rattle.law_machine.specs.Machine.Steps.{After}
use Rattle.def_run.specs.World.{Script, World, names}
use Rattle.law_order.specs.Ordering.Worlds.{LetsNothingGo}
use Rattle.law_order.specs.Ordering.Steps.{StaysReady}
use Rattle.law_order.proofs.Ordering.Adds.{adds_note, change_adds, stays_quiet}
use Rattle.law_order.proofs.Ordering.Moves.{Keeps, keeps_bind, keeps_look, widen}
use Rattle.law_order.proofs.Ordering.News.{stays_self, stays_then}
use Rattle.law_order.proofs.Ordering.Sendings.{stays, stays_pass}
use Rattle.law_order.proofs.Carries.Informing.{informs}
use Rattle.law_order.proofs.Carries.Learning.{come_stays}
use Rattle.law_order.proofs.Asks.Gifts.{Given, gift_stays}

module _ (script : Script) (honest : ℕ → Bool) (w : World) (v : ℕ) where
  abbrev K : Naming Name Name
  K = names script v

  abbrev R : Vat Name → Vat Name → Type 0
  R = StaysReady script honest w v

  -- ---- a vat is told

  puts : (to : ℕ) (n : Note Name) → LetsNothingGo n → Keeps R (send_out to n)
  unfolding send_out
  puts to n i = record { after = λ s. stays_quiet script honest w v s (record s { outbox = s.outbox ++ record { to = to; note = n } ∷ [] }) (adds_note K s (record { to = to; note = n }) i, refl, refl, refl) }

  to_tell : (to : ℕ) (n : Name) → Keeps R (alter K (ToTell to) n)
  unfolding alter
  to_tell to n = record { after = λ s. stays_quiet script honest w v s (record s { known = state.with_change K (ToTell to) n s.known }) (change_adds K (ToTell to) n tt s, refl, refl, refl) }

  tells_asker : (n : Name) (to : ℕ) (t : Standing Name) → Keeps R (arrive.tell_asker K n to t)
  unfolding arrive.tell_asker
  tells_asker n to (Settled y) = informs K R (stays script honest w v) (stays_pass script honest w v) puts n to
  tells_asker n to other = to_tell to n

  pub tell_now : (n : Name) (to : ℕ) → Keeps R (look (λ s. refs.standing_of K s.known n) >>= (λ t. arrive.tell_asker K n to t))
  tell_now n to = let base = stays script honest w v in keeps_bind R base (keeps_look R base _) (λ t. tells_asker n to t)

  -- ---- the gift

  root_apart : (g i : ℕ) → Gift g i ≡ Root 0 → ⊥
  root_apart g i e = cc

  sent_apart : (g i : ℕ) (m : Msg) → Gift g i ≡ Sent m → ⊥
  sent_apart g i m e = cc

  answer_apart : (g i h : ℕ) (m : Msg) → Gift g i ≡ Answer h m → ⊥
  answer_apart g i h m e = cc

  promise_apart : (g i h j : ℕ) → Gift g i ≡ Promise h j → ⊥
  promise_apart g i h j e = cc

  -- what came to be known, and the vat noticed what it had noticed
  abbrev pub Has : Vat Name → Vat Name → Type 0
  Has s t = R s t × (t.noticed ≡ s.noticed)

  abbrev pub Gave : Vat Name → Done Name Name → Type 0
  Gave s (Gives n t) = Has s t
  Gave s other = ⊥

  pub makes : (s : Vat Name) (p i : ℕ) → Gave s (arrive.gift_or_new K v p i None s)
  unfolding arrive.gift_or_new ◌>>=◌ ◌>>◌ and_then come new_gift give names naming name_of host_of
  makes s p i =
      let n : Name = Gift v i in
      let t : Vat Name = record s { known = s.known ++ begun n v ∷ [] } in (
        stays_then script honest w v {s = s} {t = t} {u = Given script honest w v t n p i}
            (come_stays script honest w v s n (λ o. o) (Root 0) (root_apart v i, sent_apart v i, λ h j l e. answer_apart v i h (record { sender = v; number = j }) e, λ j l e. promise_apart v i v j e))
            (gift_stays script honest w v t n p i),
        refl,
      )

  has_by : (s : Vat Name) (u p i : ℕ) (o : Option (GiftEntry Name)) → u ≡ v → Gave s (arrive.gift_or_new K u p i o s)
  unfolding arrive.gift_or_new give
  has_by s u p i (Some g) e = (stays_self script honest w v s, refl)
  has_by s u p i None e = subst (λ z. Gave s (arrive.gift_or_new K z p i None s)) (sym e) (makes s p i)

  has_gift : (s : Vat Name) (p i : ℕ) → s.number ≡ v → Gave s (arrive.have_gift K p i s)
  unfolding arrive.have_gift ◌>>=◌ and_then look
  has_gift s p i e = has_by s s.number p i (gift_at p i s.gifts) e

  -- ---- the note

  no_orphan : (p i : ℕ) (n : Name) (t : Vat Name) (m : Act Name (Unit {0})) → is_in p t.noticed ≡ false → After R t (m t) → After R t ((arrive.break_orphan K p i n >> m) t)
  unfolding arrive.break_orphan ◌>>=◌ ◌>>◌ and_then look give
  no_orphan p i n t m e h = subst (λ c. After R t (and_then ((if c then arrive.break_unopened K n (arrive.opened_in (gift_at p i t.gifts)) else (λ s. Gives tt s)) t) (λ x. m))) (sym e) h

  asked_then : (from p i : ℕ) (s : Vat Name) (d : Done Name Name) → is_in p s.noticed ≡ false → Gave s d → After R s (and_then d (λ n. arrive.break_orphan K p i n >> (look (λ t. refs.standing_of K t.known n) >>= (λ t. arrive.tell_asker K n from t))))
  unfolding and_then
  asked_then from p i s (Gives n t) e h = widen R (stays script honest w v) h.0 _ (no_orphan p i n t _ (ap (λ ws. is_in p ws) h.1 ∙ e) ((tell_now n from).after t))
  asked_then from p i s other e h = absurd h

  pub asks : (from p i : ℕ) (s : Vat Name) → s.number ≡ v → is_in p s.noticed ≡ false → After R s (arrive.arrive_ask K from p i s)
  unfolding arrive.arrive_ask ◌>>=◌
  asks from p i s own live = asked_then from p i s (arrive.have_gift K p i s) live (has_gift s p i own)
