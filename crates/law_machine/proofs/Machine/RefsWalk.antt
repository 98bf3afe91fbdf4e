-- All that a vat does with references has what each change and block of it has.
use Rattle.std.proofs.Common.{ℕ, zero, suc, true, false, List, [], ◌∷◌, Option, Some, None}
use Rattle.def_machine.specs.Values.{Words, Value, Naming, Coming}
use Rattle.def_machine.specs.State.{Message, Hold, Wait, WaitOn, React, ToTell, Settle, Settles, Sends, Reacts, Waits, Lost, Posted, Standing, Settled, Known, Passed, Passeds, Delivery, Deliver, Open, SettledTo, Elsewhere, Plain, AGift, Many, NoMore, More, Act, ◌>>◌, tell, spend, enqueue, send_out, alter, come, new_message, new_lone_message, draw}
use Rattle.def_machine.specs.Refs as refs
use Rattle.def_machine.specs.Refs.{Place, Mine, Away}
use Rattle.law_machine.proofs.Machine.Walks.{Property, Holds, IsClosed, InRefs, InRefsUnder, InSettling, InSending, walk}

module _ {N : Type 0} (P : Property N) (law : InRefs P) where
  pub refs_waits : (p q : N) → Holds P (tell (Waits p q))
  refs_waits p q = law.tells (Waits p q) tt

  pub refs_lost : (m : N) → Holds P (tell (Lost m))
  refs_lost m = law.tells (Lost m) tt

  pub refs_posted : (w : ℕ) (m : N) → Holds P (tell (Posted w m))
  refs_posted w m = law.tells (Posted w m) tt

  pub refs_spend : (n : ℕ) → Holds P (spend n)
  refs_spend n = law.spends n

  pub refs_queue : (m : Message N) → Holds P (enqueue m)
  refs_queue m = law.queues m

  pub refs_deliver : (to : ℕ) (d : Delivery N) (n : N) (verb : Words) (ys : Passeds N) → Holds P (send_out to (Deliver d n verb ys))
  refs_deliver to d n verb ys = law.puts to (Deliver d n verb ys) tt

  pub refs_open : (to i : ℕ) (n : N) → Holds P (send_out to (Open i n))
  refs_open to i n = law.puts to (Open i n) tt

  pub refs_settled : (to : ℕ) (n : N) (y : Passed N) → Holds P (send_out to (SettledTo n y))
  refs_settled to n y = law.puts to (SettledTo n y) tt

  pub refs_elsewhere : (to : ℕ) (n : N) (c : ℕ) → Holds P (send_out to (Elsewhere n c))
  refs_elsewhere to n c = law.puts to (Elsewhere n c) tt

module _ {N W : Type 0} (P : Property N) (K : Naming N W) (sending : InSending P K) where
  pub refs_sends : (a : ℕ) (m : Message N) → Holds P (tell (Sends a m))
  refs_sends a m = sending.sends a m

  pub refs_reacts : (a : ℕ) (x o : Value N) (m : Message N) → Holds P (tell (Reacts a x o m))
  refs_reacts a x o m = sending.reacts a x o m

  pub refs_message : (h : ℕ) → Holds P (new_message K h)
  refs_message h = sending.messages h

  pub refs_lone_message : Holds P (new_lone_message K)
  refs_lone_message = sending.lone_messages

module _ {N W : Type 0} (P : Property N) (K : Naming N W) (under : InRefsUnder P K) where
  pub refs_hold : (m : Message N) (p : N) → Holds P (alter K (Hold m) p)
  refs_hold m p = under.alters (Hold m) p tt

  pub refs_wait : (q p : N) → Holds P (alter K (Wait q) p)
  refs_wait q p = under.alters (Wait q) p tt

  pub refs_wait_on : (q p : N) → Holds P (alter K (WaitOn q) p)
  refs_wait_on q p = under.alters (WaitOn q) p tt

  pub refs_react : (m : Message N) (p : N) → Holds P (alter K (React m) p)
  refs_react m p = under.alters (React m) p tt

  pub refs_to_tell : (w : ℕ) (p : N) → Holds P (alter K (ToTell w) p)
  refs_to_tell w p = under.alters (ToTell w) p tt

  pub refs_come : (c : Coming N W) (h : ℕ) → Holds P (come K c h)
  refs_come c h = under.comes c h

  pub refs_draw : Holds P (draw K)
  refs_draw = under.draws

pub ruleset refs_walk = (walk, refs_sends, refs_reacts, refs_waits, refs_lost, refs_posted, refs_spend, refs_queue, refs_deliver, refs_open, refs_settled, refs_elsewhere, refs_hold, refs_wait, refs_wait_on, refs_react, refs_to_tell, refs_come, refs_message, refs_lone_message, refs_draw)

abbrev pub GoodSettler : {N : Type 0} → Property N → (N → Value N → Act N (Unit {0})) → Type 0
GoodSettler {N} P settle = (p : N) (y : Value N) → Holds P (settle p y)

module _ {N W : Type 0} (P : Property N) (K : Naming N W) (base : IsClosed P) (law : InRefs P) (under : InRefsUnder P K) where
  pub walk_address_plain : (x1 : ℕ) → (x2 : Value N) → (x3 : Place N) → Holds P (refs.address_plain K x1 x2 x3)
  unfolding refs.address_plain
  walk_address_plain w y (Away h n o) = search (refs_walk) depth 14
  walk_address_plain w y (Mine n) = search (refs_walk) depth 14
  walk_address_plain w y _ = search (refs_walk) depth 14

  mutual
    unfolding refs.address refs.address_all

    pub walk_address : (w : ℕ) (y : Passed N) → Holds P (refs.address K w y)
    walk_address w (Plain y) = search (refs_walk, walk_address_plain) depth 14
    walk_address w (AGift h i) = search refs_walk
    walk_address w (Many ys) = let rest = walk_address_all w ys in search refs_walk

    pub walk_address_all : (w : ℕ) (ys : Passeds N) → Holds P (refs.address_all K w ys)
    walk_address_all w NoMore = search refs_walk
    walk_address_all w (More y ys) = let one = walk_address w y in let rest = walk_address_all w ys in search refs_walk

  pub walk_pass : (x1 : ℕ) → (x2 : Value N) → Holds P (refs.pass K x1 x2)
  unfolding refs.pass
  walk_pass w x = search (refs_walk, walk_address) depth 14

  pub walk_pass_all : (x1 : ℕ) → (x2 : List (Value N)) → Holds P (refs.pass_all K x1 x2)
  unfolding refs.pass_all
  walk_pass_all w [] = search refs_walk
  walk_pass_all w (x ∷ xs) = let rest = walk_pass_all w xs in search (refs_walk, walk_pass) depth 14

  pub walk_deliver : (x1 : Message N) → (x2 : ℕ) → (x3 : N) → Holds P (refs.deliver K x1 x2 x3)
  unfolding refs.deliver
  walk_deliver m h n = search (refs_walk, walk_pass_all) depth 14

  pub walk_wait_on : (x1 : N) → (x2 : N) → Holds P (refs.wait_on K x1 x2)
  unfolding refs.wait_on
  walk_wait_on p q = search (refs_walk) depth 14

  pub walk_pass_on : (x1 : Message N) → (x2 : ℕ) → (x3 : N) → Holds P (refs.pass_on K x1 x2 x3)
  unfolding refs.pass_on
  walk_pass_on m h n = search (refs_walk, walk_deliver, walk_wait_on) depth 14

  pub walk_send_to : (x1 : N → Value N → Act N (Unit {0})) → GoodSettler P x1 → (x2 : Message N) → (x3 : Value N) → (x4 : Place N) → Holds P (refs.send_to K x1 x2 x3 x4)
  unfolding refs.send_to
  walk_send_to settle h1 m y (Away h n o) = search (refs_walk, walk_pass_on) depth 14
  walk_send_to settle h1 m y other = search (refs_walk) depth 14

  pub walk_send_on : (x1 : N → Value N → Act N (Unit {0})) → GoodSettler P x1 → (x2 : Message N) → Holds P (refs.send_on K x1 x2)
  unfolding refs.send_on
  walk_send_on settle h1 m = search (refs_walk, walk_send_to) depth 14

  pub walk_inform_of : (x1 : N) → (x2 : ℕ) → (x3 : Value N) → (x4 : Place N) → Holds P (refs.inform_of K x1 x2 x3 x4)
  unfolding refs.inform_of
  walk_inform_of p w y (Away h n true) = search (refs_walk) depth 14
  walk_inform_of p w y _ = search (refs_walk, walk_pass) depth 14

  pub walk_inform : (x1 : N) → (x2 : ℕ) → Holds P (refs.inform K x1 x2)
  unfolding refs.inform
  walk_inform p w = search (refs_walk, walk_inform_of) depth 14

  -- where a line that a name settled and the settling are one block
  module _ (settled : (p : N) (y : Value N) (m : Act N (Unit {0})) → Holds P m → Holds P (tell (Settles p y) >> (alter K (Settle y) p >> m))) where
    pub walk_settle_known : (x1 : N → Value N → Act N (Unit {0})) → GoodSettler P x1 → (x2 : N) → (x3 : Value N) → (x4 : Known N) → Holds P (refs.settle_known K x1 x2 x3 x4)
    unfolding refs.settle_known
    walk_settle_known settle h1 p y k = search (refs_walk, settled, walk_send_on, walk_inform) depth 16

    pub walk_settle_standing : (x1 : N → Value N → Act N (Unit {0})) → GoodSettler P x1 → (x2 : N) → (x3 : Value N) → (x4 : Known N) → (x5 : Standing N) → Holds P (refs.settle_standing K x1 x2 x3 x4 x5)
    unfolding refs.settle_standing
    walk_settle_standing settle h1 p y k (Settled z) = search (refs_walk) depth 14
    walk_settle_standing settle h1 p y k _ = search (refs_walk, walk_settle_known) depth 14

    pub walk_settle_entry : (x1 : N → Value N → Act N (Unit {0})) → GoodSettler P x1 → (x2 : N) → (x3 : Value N) → (x4 : Option (Known N)) → Holds P (refs.settle_entry K x1 x2 x3 x4)
    unfolding refs.settle_entry
    walk_settle_entry settle h1 p y None = search (refs_walk) depth 14
    walk_settle_entry settle h1 p y (Some k) = search (refs_walk, walk_settle_standing) depth 14

    pub walk_settle_one : (x1 : N → Value N → Act N (Unit {0})) → GoodSettler P x1 → (x2 : N) → (x3 : Value N) → Holds P (refs.settle_one K x1 x2 x3)
    unfolding refs.settle_one
    walk_settle_one settle h1 p x = search (refs_walk, walk_settle_entry) depth 14

    pub settles_by_lines : InSettling P K
    settles_by_lines = record { settles = λ d h p y. walk_settle_one (λ q z. refs.settle_at K d q z) h p y }

  module _ (settling : InSettling P K) where
    pub walk_settle_at : (x1 : ℕ) → (x2 : N) → (x3 : Value N) → Holds P (refs.settle_at K x1 x2 x3)
    unfolding refs.settle_at
    walk_settle_at zero p y = search refs_walk
    walk_settle_at (suc d) p y = settling.settles d (λ q z. walk_settle_at d q z) p y

    pub walk_settle : (x1 : N) → (x2 : Value N) → Holds P (refs.settle K x1 x2)
    unfolding refs.settle
    walk_settle p y = search (refs_walk, walk_settle_at) depth 14

    pub walk_wait_unless_cycle : (x1 : N) → (x2 : N) → Holds P (refs.wait_unless_cycle K x1 x2)
    unfolding refs.wait_unless_cycle
    walk_wait_unless_cycle p q = search (refs_walk, walk_settle, walk_wait_on) depth 14

    pub walk_resolve_to : (x1 : N) → (x2 : Value N) → (x3 : Place N) → Holds P (refs.resolve_to K x1 x2 x3)
    unfolding refs.resolve_to
    walk_resolve_to p y (Mine q) = search (refs_walk, walk_wait_unless_cycle) depth 14
    walk_resolve_to p y (Away h q false) = search (refs_walk, walk_wait_unless_cycle) depth 14
    walk_resolve_to p y _ = search (refs_walk, walk_settle) depth 14

    pub walk_resolve : (x1 : N) → (x2 : Value N) → Holds P (refs.resolve K x1 x2)
    unfolding refs.resolve
    walk_resolve p x = search (refs_walk, walk_resolve_to) depth 14

    pub walk_send_first : (x1 : Message N) → (x2 : Value N) → (x3 : Place N) → Holds P (refs.send_first K x1 x2 x3)
    unfolding refs.send_first
    walk_send_first m y (Away h n o) = search (refs_walk, walk_deliver) depth 14
    walk_send_first m y p = search (refs_walk, walk_send_to, walk_settle) depth 14

    pub walk_react_at : (x1 : Message N) → (x2 : Place N) → Holds P (refs.react_at K x1 x2)
    unfolding refs.react_at
    walk_react_at m (Mine n) = search (refs_walk) depth 14
    walk_react_at m (Away h n false) = search (refs_walk) depth 14
    walk_react_at m _ = search (refs_walk) depth 14

    module _ (sending : InSending P K) where
      pub walk_send : (x1 : ℕ) → (x2 : Value N) → (x3 : Words) → (x4 : List (Value N)) → Holds P (refs.send K x1 x2 x3 x4)
      unfolding refs.send
      walk_send act x verb args = search (refs_walk, walk_send_first) depth 14

      pub walk_send_only : (x1 : ℕ) → (x2 : Value N) → (x3 : Words) → (x4 : List (Value N)) → Holds P (refs.send_only K x1 x2 x3 x4)
      unfolding refs.send_only
      walk_send_only act x verb args = search (refs_walk, walk_send_first) depth 14

      pub walk_react : (x1 : ℕ) → (x2 : Value N) → (x3 : Value N) → (x4 : Value N) → Holds P (refs.react K x1 x2 x3 x4)
      unfolding refs.react
      walk_react act x o near = search (refs_walk, walk_react_at) depth 14

pub ruleset refs_walks = (refs_walk, walk_address_plain, walk_address, walk_address_all, walk_pass, walk_pass_all, walk_deliver, walk_wait_on, walk_pass_on, walk_send_to, walk_send_on, walk_inform_of, walk_inform, walk_settle_at, walk_settle, walk_wait_unless_cycle, walk_resolve_to, walk_resolve, walk_send_first, walk_send, walk_send_only, walk_react_at, walk_react)
