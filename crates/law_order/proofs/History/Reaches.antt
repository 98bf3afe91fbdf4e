-- Which references one line adds to those that a message reached.
use Rattle.std.proofs.Common.{◌≡◌, ℕ, zero, suc, Bool, true, false, List, [], ◌∷◌, ◌++◌, Option, Some, None, length, refl, sym, ap, ◌⊎◌, inl, inr, ◌||◌, ◌&&◌, nat_le, ◌==◌, eqb-true}
use Rattle.def_machine.specs.Values.{Words, Value, Name, Ref, same_name}
use Rattle.def_machine.specs.State.{Message, Passeds, Delivery, Deliver, Sends}
use Rattle.def_run.specs.World.{Event, Here, Carried}
use Rattle.law_fate.specs.Name.Names.{IsAmong}
use Rattle.law_order.specs.Ordering.Order.{Coming, Reach, comes, reaching, sent_on, taken_on, reaches_on, all_pass_as, is_reach, any_reach, sends_behind}
use Rattle.law_order.proofs.Ordering.Named.{same_is}
use Rattle.law_order.proofs.History.Lines.{among_either, added, and_first, and_second}

-- The message is sent in that line on that reference.
pub record SentReach (a : Name) (done : List Event) (o : Option Event) (r : Reach) : Type 0 where
  pub vat : ℕ
  pub act : ℕ
  pub sent : Message Name
  pub name : Name
  pub line : o ≡ Some (Here vat (Sends act sent))
  pub id : sent.id ≡ a
  pub target : sent.target ≡ Ref name
  pub is : r ≡ record { vat = vat; name = name; since = suc (length done) }

-- The reference passes as what a message brings that arrives in that line.
pub record LearntReach (done : List Event) (rs : List Reach) (o : Option Event) (r : Reach) : Type 0 where
  pub entry : ℕ
  pub from : ℕ
  pub to : ℕ
  pub bytes : List ℕ
  pub carried : Delivery Name
  pub aim : Name
  pub verb : Words
  pub args : Passeds Name
  pub line : o ≡ Some (Carried entry from to (Deliver carried aim verb args) bytes)
  pub coming : Coming
  pub came : comes from carried.message zero done ≡ Some coming
  pub old : Reach
  pub among : IsAmong old rs
  pub there : old.vat ≡ from
  pub since : nat_le old.since coming.line ≡ true
  pub name : Name
  pub passes : IsAmong name (all_pass_as from done old.name args coming.args)
  pub is : r ≡ record { vat = to; name = name; since = length done }

record Reaching (v since : ℕ) (ns : List Name) (r : Reach) : Type 0 where
  pub name : Name
  pub among : IsAmong name ns
  pub is : r ≡ record { vat = v; name = name; since = since }

reaching_is : (v since : ℕ) (ns : List Name) (r : Reach) → IsAmong r (reaching v since ns) → Reaching v since ns r
unfolding reaching
reaching_is v since [] r h = absurd h
reaching_is v since (n ∷ ns) r (inl e) = record { name = n; among = inl refl; is = e }
reaching_is v since (n ∷ ns) r (inr h) = let k = reaching_is v since ns r h in record { name = k.name; among = inr k.among; is = k.is }

sent_on_is : (t : Value Name) (n : Name) → IsAmong n (sent_on t) → t ≡ Ref n
unfolding sent_on
sent_on_is (Ref m) n (inl e) = ap Ref (sym e)
sent_on_is (Ref m) n (inr h) = absurd h
sent_on_is other n h = absurd h

record TakenOn (done : List Event) (u v : ℕ) (ys : Passeds Name) (o : Option Coming) (rs : List Reach) (r : Reach) : Type 0 where
  pub coming : Coming
  pub came : o ≡ Some coming
  pub old : Reach
  pub among : IsAmong old rs
  pub there : old.vat ≡ u
  pub since : nat_le old.since coming.line ≡ true
  pub name : Name
  pub passes : IsAmong name (all_pass_as u done old.name ys coming.args)
  pub is : r ≡ record { vat = v; name = name; since = length done }

taken_on_is : (done : List Event) (u v : ℕ) (ys : Passeds Name) (o : Option Coming) (rs : List Reach) (r : Reach) → IsAmong r (taken_on done u v ys o rs) → TakenOn done u v ys o rs r
unfolding taken_on
taken_on_is done u v ys o [] r h = absurd h
taken_on_is done u v ys None (q ∷ rs) r h = absurd h
taken_on_is done u v ys (Some c) (q ∷ rs) r h = go ((q.vat == u) && nat_le q.since c.line) refl (taken_on_is done u v ys (Some c) rs r) h
  where
    later : TakenOn done u v ys (Some c) rs r → TakenOn done u v ys (Some c) (q ∷ rs) r
    later k = record { coming = k.coming; came = k.came; old = k.old; among = inr k.among; there = k.there; since = k.since; name = k.name; passes = k.passes; is = k.is }

    here : ((q.vat == u) && nat_le q.since c.line) ≡ true → Reaching v (length done) (all_pass_as u done q.name ys c.args) r → TakenOn done u v ys (Some c) (q ∷ rs) r
    here e k = record { coming = c; came = refl; old = q; among = inl refl; there = eqb-true q.vat u (and_first (q.vat == u) (nat_le q.since c.line) e); since = and_second (q.vat == u) (nat_le q.since c.line) e; name = k.name; passes = k.among; is = k.is }

    go : (b : Bool) → ((q.vat == u) && nat_le q.since c.line) ≡ b → (IsAmong r (taken_on done u v ys (Some c) rs) → TakenOn done u v ys (Some c) rs r)
        → IsAmong r (elim b [ true ↦ reaching v (length done) (all_pass_as u done q.name ys c.args) ++ taken_on done u v ys (Some c) rs | false ↦ taken_on done u v ys (Some c) rs ]) → TakenOn done u v ys (Some c) (q ∷ rs) r
    go true e f i = elim (among_either r (reaching v (length done) (all_pass_as u done q.name ys c.args)) (taken_on done u v ys (Some c) rs) i) [
      | inl j ↦ here e (reaching_is v (length done) (all_pass_as u done q.name ys c.args) r j)
      | inr j ↦ later (f j)
    ]
    go false e f i = later (f i)

pub new_reach : (a : Name) (done : List Event) (rs : List Reach) (o : Option Event) (r : Reach) → IsAmong r (added a done rs o) → SentReach a done o r ⊎ LearntReach done rs o r
unfolding reaches_on
new_reach a done rs None r h = absurd h
new_reach a done rs (Some (Here v (Sends act x))) r h = go (same_name x.id a) refl h
  where
    sent : same_name x.id a ≡ true → Reaching v (suc (length done)) (sent_on x.target) r → SentReach a done (Some (Here v (Sends act x))) r
    sent e k = record { vat = v; act = act; sent = x; name = k.name; line = refl; id = same_is x.id a e; target = sent_on_is x.target k.name k.among; is = k.is }

    go : (b : Bool) → same_name x.id a ≡ b → IsAmong r (elim b [ true ↦ reaching v (suc (length done)) (sent_on x.target) | false ↦ [] ]) → SentReach a done (Some (Here v (Sends act x))) r ⊎ LearntReach done rs (Some (Here v (Sends act x))) r
    go true e i = inl (sent e (reaching_is v (suc (length done)) (sent_on x.target) r i))
    go false e i = absurd i
new_reach a done rs (Some (Carried k u v (Deliver x n verb ys) bytes)) r h =
    let t = taken_on_is done u v ys (comes u x.message zero done) rs r h in
    inr (record { entry = k; from = u; to = v; bytes = bytes; carried = x; aim = n; verb = verb; args = ys; line = refl; coming = t.coming; came = t.came; old = t.old; among = t.among; there = t.there; since = t.since; name = t.name; passes = t.passes; is = t.is })
new_reach a done rs (Some other) r h = absurd h

-- ---- messages sent on what is reached

-- It is sent in that line on a reference that is reached.
pub record SentBehind (b : Name) (rs : List Reach) (o : Option Event) : Type 0 where
  pub vat : ℕ
  pub act : ℕ
  pub sent : Message Name
  pub name : Name
  pub line : o ≡ Some (Here vat (Sends act sent))
  pub id : sent.id ≡ b
  pub target : sent.target ≡ Ref name
  pub reach : Reach
  pub among : IsAmong reach rs
  pub there : reach.vat ≡ vat
  pub named : reach.name ≡ name

record AnyReach (v : ℕ) (n : Name) (rs : List Reach) : Type 0 where
  pub reach : Reach
  pub among : IsAmong reach rs
  pub there : reach.vat ≡ v
  pub named : reach.name ≡ n

any_reach_is : (v : ℕ) (n : Name) (rs : List Reach) → any_reach v (n ∷ []) rs ≡ true → AnyReach v n rs
unfolding any_reach is_reach
any_reach_is v n [] h = absurd (cc)
any_reach_is v n (r ∷ rs) h = go ((r.vat == v) && same_name r.name n) refl (any_reach_is v n rs) h
  where
    go : (b : Bool) → ((r.vat == v) && same_name r.name n) ≡ b → (any_reach v (n ∷ []) rs ≡ true → AnyReach v n rs) → (b || any_reach v (n ∷ []) rs) ≡ true → AnyReach v n (r ∷ rs)
    go true e f i = record { reach = r; among = inl refl; there = eqb-true r.vat v (and_first (r.vat == v) (same_name r.name n) e); named = same_is r.name n (and_second (r.vat == v) (same_name r.name n) e) }
    go false e f i = let k = f i in record { reach = k.reach; among = inr k.among; there = k.there; named = k.named }

no_reach : (v : ℕ) (rs : List Reach) → any_reach v [] rs ≡ true → ⊥
unfolding any_reach
no_reach v [] h = cc
no_reach v (r ∷ rs) h = cc

record OnName (v : ℕ) (t : Value Name) (rs : List Reach) : Type 0 where
  pub name : Name
  pub target : t ≡ Ref name
  pub any : AnyReach v name rs

on_name : (v : ℕ) (t : Value Name) (rs : List Reach) → any_reach v (sent_on t) rs ≡ true → OnName v t rs
unfolding sent_on
on_name v (Ref n) rs h = record { name = n; target = refl; any = any_reach_is v n rs h }
on_name v other rs h = absurd (no_reach v rs h)

pub sent_behind : (b : Name) (rs : List Reach) (e : Event) → sends_behind b rs e ≡ true → SentBehind b rs (Some e)
unfolding sends_behind
sent_behind b rs (Here v (Sends act x)) h =
    let k = on_name v x.target rs (and_second (same_name x.id b) (any_reach v (sent_on x.target) rs) h) in
    record { vat = v; act = act; sent = x; name = k.name; line = refl; id = same_is x.id b (and_first (same_name x.id b) (any_reach v (sent_on x.target) rs) h); target = k.target; reach = k.any.reach; among = k.any.among; there = k.any.there; named = k.any.named }
sent_behind b rs other h = absurd (cc)
