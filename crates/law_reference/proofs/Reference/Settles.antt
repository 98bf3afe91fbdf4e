-- What settles is settled, and what waits on it settles with it.
use Rattle.std.proofs.Common.{◌≡◌, ℕ, zero, suc, List, [], ◌∷◌, ◌++◌, Option, Some, None, refl, sym, inl, inr, length}
use Rattle.def_machine.specs.Values.{Value, Naming}
use Rattle.def_machine.specs.State.{Message, Standing, Settled, Known, Settle, Settles as Told, Vat, Act, ◌>>=◌, ◌>>◌, and_then, each, give, stop, look, tell, enqueue, alter, with_change, changed, changed_to, unless_settled}
use Rattle.def_machine.specs.Refs as refs
use Rattle.def_machine.specs.Refs.{entry_of, standing_of, standing_in}
use Rattle.law_machine.specs.Machine.Laws.{SettledStays}
use Rattle.law_machine.proofs.Machine.Keeps.{Keeps, IsKept, IsKeptUnder, keeps}
use Rattle.law_machine.proofs.Machine.RefsKeeps.{GoodSettler, keeps_send_on, keeps_inform, keeps_settle_at}
use Rattle.law_machine.proofs.Machine.StepLaws.{settled_law, settled_names, settled_entry, standing_found, entry_append}
use Rattle.law_fate.specs.Name.Names.{IsAmong}
use Rattle.law_reference.proofs.Reference.Entries.{Knows, knows_changed, changed_at}
use Rattle.law_reference.proofs.Reference.Gentle.{AfterGives, gives_then, gives_after}

settles_to : {N : Type 0} (t : Standing N) (y : Value N) (k new : Known N) → k.standing ≡ t → new.standing ≡ Settled y → (z : Value N) × ((unless_settled t k new).standing ≡ Settled z)
unfolding unless_settled
settles_to (Settled z) y k new e h = (z, e)
settles_to other y k new e h = (y, h)

pub change_settles : {N : Type 0} (y : Value N) (k : Known N) → (z : Value N) × ((changed (Settle y) k).standing ≡ Settled z)
unfolding changed changed_to
change_settles y k = settles_to k.standing y k (changed_to (Settle y) k) refl refl

module _ {N W : Type 0} (K : Naming N W) where
  abbrev pub IsSettled : N → Vat N → Type 0
  IsSettled n t = (y : Value N) × (standing_of K t.known n ≡ Settled y)

  pub still_settled : (n : N) (s t : Vat N) → SettledStays K s t → IsSettled n s → IsSettled n t
  unfolding standing_of
  still_settled n s t h x = let found = settled_entry (entry_of K s.known n) x.0 x.1 in (x.0, standing_found K t.known n found.0 x.0 (h n found.0 x.0 found.1 found.2) found.2)

  -- what settled stays so, and what is known stays known
  abbrev pub Lasts : Vat N → Vat N → Type 0
  Lasts s t = SettledStays K s t × ((n : N) → Knows K s.known n → Knows K t.known n)

  pub lasts_law : IsKept Lasts
  lasts_law = let base : IsKept (SettledStays K) = settled_law K in record {
    same = λ s. (base.same s, λ n h. h);
    trans = λ h k. (λ n j y e i. k.0 n j y (h.0 n j y e i) i, λ n i. k.1 n (h.1 n i));
    fuel = λ s n. (base.fuel s n, λ n h. h);
    happened = λ s e. (base.happened s e, λ n h. h);
    activations = λ s. (base.activations s, λ n h. h);
    thing = λ s t. (base.thing s t, λ n h. h);
    killed = λ s n. (base.killed s n, λ n h. h);
    slot = λ s c. (base.slot s c, λ n h. h);
    written = λ s n v. (base.written s n v, λ n h. h);
    list = λ s vs. (base.list s vs, λ n h. h);
    queue = λ s m. (base.queue s m, λ n h. h);
    outbox = λ s p. (base.outbox s p, λ n h. h);
    gift = λ s g. (base.gift s g, λ n h. h);
    opened = λ s p i. (base.opened s p i, λ n h. h);
    noticed = λ s w. (base.noticed s w, λ n h. h);
    drawn = λ s w. (base.drawn s w, λ n h. h);
  }

  pub lasts_names : IsKeptUnder K Lasts
  lasts_names = let under : IsKeptUnder K (SettledStays K) = settled_names K in record {
    altered = λ s c n. (under.altered s c n, λ m h. knows_changed K c n m s.known h);
    came = λ s c h. (under.came s c h, λ m k. (k.0, entry_append K m s.known _ k.0 k.1));
    mailed = λ s c. (under.mailed s c, λ n h. h);
    lone = λ s id. (under.lone s id, λ n h. h);
    promised = λ s. (under.promised s, λ m k. (k.0, entry_append K m s.known _ k.0 k.1));
    messaged = λ s h id. (under.messaged s h id, λ m k. (k.0, entry_append K m s.known _ k.0 k.1));
  }

  -- ---- what follows the settling itself

  unfoldable pub told_on : (N → Value N → Act N (Unit {0})) → N → Value N → Known N → Act N (Unit {0})
  told_on settle p y k = each (refs.send_on K settle) k.held >> (each (λ q. settle q y) k.waiting >> (each enqueue k.reactions >> each (refs.inform K p) k.told))

  rest_on : N → Known N → Act N (Unit {0})
  rest_on p k = each enqueue k.reactions >> each (refs.inform K p) k.told

  keeps_told_on : (settle : N → Value N → Act N (Unit {0})) → GoodSettler Lasts settle → (p : N) (y : Value N) (k : Known N) → Keeps Lasts (told_on settle p y k)
  unfolding told_on
  keeps_told_on settle good p y k = let base : IsKept Lasts = lasts_law in let law : IsKeptUnder K Lasts = lasts_names in search (keeps, keeps_send_on, keeps_inform) depth 14

  keeps_sends : (settle : N → Value N → Act N (Unit {0})) → GoodSettler Lasts settle → (ms : List (Message N)) → Keeps Lasts (each (refs.send_on K settle) ms)
  keeps_sends settle good ms = let base : IsKept Lasts = lasts_law in let law : IsKeptUnder K Lasts = lasts_names in search (keeps, keeps_send_on) depth 14

  keeps_waits : (settle : N → Value N → Act N (Unit {0})) → GoodSettler Lasts settle → (y : Value N) (qs : List N) → Keeps Lasts (each (λ q. settle q y) qs)
  keeps_waits settle good y qs = let base : IsKept Lasts = lasts_law in let law : IsKeptUnder K Lasts = lasts_names in search (keeps) depth 14

  keeps_rest_on : (p : N) (k : Known N) → Keeps Lasts (rest_on p k)
  unfolding rest_on
  keeps_rest_on p k = let base : IsKept Lasts = lasts_law in let law : IsKeptUnder K Lasts = lasts_names in search (keeps, keeps_inform) depth 14

  -- a name that is known is settled once it settles
  abbrev pub Settling : (N → Value N → Act N (Unit {0})) → Type 0
  Settling settle = (q : N) (y : Value N) (s : Vat N) → Knows K s.known q → AfterGives (IsSettled q) (settle q y s)

  settled_after : {A : Type 0} (n : N) (s : Vat N) (m : Act N A) → Keeps Lasts m → IsSettled n s → AfterGives (IsSettled n) (m s)
  settled_after n s m k h = gives_after Lasts (IsSettled n) s (m s) (λ t l. still_settled n s t l.0 h) (k.after s)

  known_after : {A : Type 0} (n : N) (s : Vat N) (m : Act N A) → Keeps Lasts m → Knows K s.known n → AfterGives (λ t. Knows K t.known n) (m s)
  known_after n s m k h = gives_after Lasts (λ t. Knows K t.known n) s (m s) (λ t l. l.1 n h) (k.after s)

  each_settled : (settle : N → Value N → Act N (Unit {0})) → GoodSettler Lasts settle → Settling settle → (y : Value N) (qs : List N) (s : Vat N) (n : N) → IsAmong n qs → Knows K s.known n → AfterGives (IsSettled n) (each (λ q. settle q y) qs s)
  unfolding each ◌>>◌
  each_settled settle lasts settles y [] s n i h = absurd i
  each_settled settle lasts settles y (q ∷ qs) s n (inl e) h = gives_then (IsSettled n) (IsSettled n) (settle q y s) (λ u. each (λ r. settle r y) qs) (rw (sym e) (settles n y s h)) (λ a t g. settled_after n t (each (λ r. settle r y) qs) (keeps_waits settle lasts y qs) g)
  each_settled settle lasts settles y (q ∷ qs) s n (inr i) h = gives_then (λ t. Knows K t.known n) (IsSettled n) (settle q y s) (λ u. each (λ r. settle r y) qs) (known_after n s (settle q y) (lasts q y) h) (λ a t g. each_settled settle lasts settles y qs t n i g)

  -- each name that waits, and is known, settles
  pub waiting_settled : (settle : N → Value N → Act N (Unit {0})) → GoodSettler Lasts settle → Settling settle → (p : N) (y : Value N) (k : Known N) (s : Vat N) (n : N) → IsAmong n k.waiting → Knows K s.known n → AfterGives (IsSettled n) (told_on settle p y k s)
  unfolding told_on rest_on ◌>>◌
  waiting_settled settle lasts settles p y k s n i h = gives_then (λ t. Knows K t.known n) (IsSettled n) (each (refs.send_on K settle) k.held s) (λ u. each (λ q. settle q y) k.waiting >> rest_on p k)
      (known_after n s (each (refs.send_on K settle) k.held) (keeps_sends settle lasts k.held) h)
      (λ a t g. gives_then (IsSettled n) (IsSettled n) (each (λ q. settle q y) k.waiting t) (λ u. rest_on p k) (each_settled settle lasts settles y k.waiting t n i g) (λ b u j. settled_after n u (rest_on p k) (keeps_rest_on p k) j))

  -- ---- settling settles

  found_settled : (n : N) (y : Value N) (ks : List (Known N)) (k : Known N) → entry_of K ks n ≡ Some k → (z : Value N) × (standing_of K (with_change K (Settle y) n ks) n ≡ Settled z)
  unfolding standing_of standing_in
  found_settled n y ks k e = let z = change_settles y k in (z.0, rw (changed_at K (Settle y) n ks k e) z.1)

  known_settles : (settle : N → Value N → Act N (Unit {0})) → GoodSettler Lasts settle → (p : N) (y : Value N) (k j : Known N) (s : Vat N) → entry_of K s.known p ≡ Some j → AfterGives (IsSettled p) (refs.settle_known K settle p y k s)
  unfolding refs.settle_known told_on ◌>>◌ tell alter and_then
  known_settles settle lasts p y k j s e = let t : Vat N = record s { happened = s.happened ++ Told p y ∷ []; known = with_change K (Settle y) p s.known } in settled_after p t (told_on settle p y k) (keeps_told_on settle lasts p y k) (found_settled p y s.known j e)

  standing_settles : (settle : N → Value N → Act N (Unit {0})) → GoodSettler Lasts settle → (p : N) (y : Value N) (k : Known N) (t : Standing N) (s : Vat N) → entry_of K s.known p ≡ Some k → k.standing ≡ t → AfterGives (IsSettled p) (refs.settle_standing K settle p y k t s)
  unfolding refs.settle_standing give
  standing_settles settle good p y k (Settled z) s e i = (z, standing_found K s.known p k z e i)
  standing_settles settle good p y k other s e i = known_settles settle good p y k k s e

  entry_settles : (settle : N → Value N → Act N (Unit {0})) → GoodSettler Lasts settle → (p : N) (y : Value N) (k : Known N) (o : Option (Known N)) (s : Vat N) → entry_of K s.known p ≡ Some k → o ≡ Some k → AfterGives (IsSettled p) (refs.settle_entry K settle p y o s)
  unfolding refs.settle_entry
  entry_settles settle good p y k (Some j) s e i = let same : j ≡ k = cc in standing_settles settle good p y j j.standing s (rw same e) refl
  entry_settles settle good p y k None s e i = cc

  pub lasting : (d : ℕ) → GoodSettler Lasts (λ q z. refs.settle_at K d q z)
  lasting d q z = keeps_settle_at K Lasts lasts_law lasts_names d q z

  pub settling : (d : ℕ) → Settling (λ q z. refs.settle_at K d q z)
  unfolding refs.settle_at refs.settle_one ◌>>=◌ look and_then stop
  settling zero q y s h = tt
  settling (suc d) q y s h = entry_settles (λ p z. refs.settle_at K d p z) (lasting d) q (refs.target_of K s q y) h.0 (entry_of K s.known q) s h.1 h.1

  pub settle_settles : (p : N) (y : Value N) (s : Vat N) → Knows K s.known p → AfterGives (IsSettled p) (refs.settle K p y s)
  unfolding refs.settle ◌>>=◌ look and_then
  settle_settles p y s h = settling (suc (suc (length s.known))) p y s h
