-- What a vat makes is paid for: a unit of fuel pays for so much, and an act may cost so much more.
use Rattle.std.proofs.Common.{◌≡◌, ℕ, zero, suc, ◌+◌, ◌-◌, ◌*◌, ◌≤◌, Bool, true, false, List, [], ◌∷◌, ◌++◌, Option, Some, None, if◌then◌else◌, refl, sym, ap, ◌∙◌, length, arith, mul-add, mul-suc, add_comm, sub-add_cancel, leb-true}
use Rattle.std.specs.Prelude.{nat_le}
use Rattle.std.specs.List.{AllByRecursion}
use Rattle.def_machine.specs.Values.{Words, Value}
use Rattle.def_machine.specs.State.{Thing, Message, Note, Put, Happened, Vat, Stop, Done, Gives, Throws, Ejects, Stops, Act, ◌>>=◌, ◌>>◌, and_then, end_by, ending, each, for_some, give, throw, stop, eject, look, tell, spend, spent, new_activation, new_thing, kill, change, dead, new_slot, holding, write_slot, new_list, enqueue, send_out, new_gift, open_gift, mark}
use Rattle.law_machine.specs.Costs.Sizes.{spread, made, note_load}

-- How much fuel there is at most, how much one node makes at most by its form alone, what a call costs, and what a unit of fuel pays for.
pub record Prices : Type 0 where
  pub fuel : ℕ
  pub tree : ℕ
  pub call : ℕ
  pub unit : ℕ
  pub calls : fuel + fuel + tree + 30 ≤ call
  pub units : call + call + tree + 60 ≤ unit

-- so many units at that price
unfoldable pub paid : ℕ → ℕ → ℕ
paid u n = u * n

pub paid_rest : (u n f : ℕ) → n ≤ f → paid u (f - n) + paid u n ≡ paid u f
unfolding paid
paid_rest u n f l = sym (mul-add u (f - n) n) ∙ ap (λ k. u * k) (sub-add_cancel l)

pub paid_one : (u : ℕ) → paid u 1 ≡ u
unfolding paid
paid_one u = omega arith

pub paid_more : (u n : ℕ) → paid u (suc n) ≡ u + paid u n
unfolding paid
paid_more u n = mul-suc u n ∙ add_comm (u * n) u

-- a unit pays for one, and more
pub paid_for : (u n : ℕ) → 1 ≤ u → n ≤ paid u n
paid_for u zero l = omega arith
paid_for u (suc n) l = let e = paid_more u n in let h = paid_for u n l in omega (arith, e, h, l)

-- ---- lists

pub all_end : {A : Type 0} (Q : A → Type 0) (xs : List A) (x : A) → AllByRecursion Q xs → Q x → AllByRecursion Q (xs ++ x ∷ [])
all_end Q [] x h q = (q, tt)
all_end Q (y ∷ xs) x h q = (h.0, all_end Q xs x h.1 q)

length_change : {A : Type 0} (f : A → A) (n : ℕ) (xs : List A) → length (change f n xs) ≡ length xs
unfolding change
length_change f n [] = refl
length_change f zero (x ∷ xs) = refl
length_change f (suc n) (x ∷ xs) = let e = length_change f n xs in grind (arith, e)

pub one_longer : {A : Type 0} (xs : List A) (x : A) → length (xs ++ x ∷ []) ≡ suc (length xs)
one_longer [] x = refl
one_longer (y ∷ xs) x = let e = one_longer xs x in grind (arith, e)

one_spread : {A : Type 0} (xs : List (List A)) (x : List A) → spread (xs ++ x ∷ []) ≡ suc (length x + spread xs)
one_spread [] x = refl
one_spread (y ∷ xs) x = let e = one_spread xs x in grind (arith, e)

-- ---- the triple

module _ (P : Prices) where
  -- No list and no note that is put is longer than the fuel that there was.
  pub record Short {N : Type 0} (s : Vat N) : Type 0 where
    pub fuel : s.fuel ≤ P.fuel
    pub lists : AllByRecursion (λ (vs : List (Value N)). length vs ≤ P.fuel) s.lists
    pub outbox : AllByRecursion (λ (p : Put N). note_load p.note ≤ P.fuel) s.outbox

  -- what was made and drawn, and what is left to pay with
  abbrev pub worth : {N : Type 0} → Vat N → ℕ
  worth s = made s + (length s.drawn + paid P.unit s.fuel)

  -- How an act ends that began with so much: it may cost c where it gives, and d where it throws or is left, both less ten. So what costs less than ten earns.
  abbrev pub Ends : {N A : Type 0} → ℕ → ℕ → ℕ → Done N A → Type 0
  Ends w c d (Gives a t) = Short t × (worth t + 10 ≤ w + c)
  Ends w c d (Throws p t) = Short t × (worth t + 10 ≤ w + d)
  Ends w c d (Ejects n v t) = Short t × (worth t + 10 ≤ w + d)
  Ends w c d (Stops x t) = Unit {0}

  pub record Costs {N A : Type 0} (c d : ℕ) (m : Act N A) : Type 0 where
    pub after : (s : Vat N) → Short s → Ends (worth s) c d (m s)

  -- what an act costs that goes on from where another ended
  pub carry : {N A : Type 0} (v w c d e f : ℕ) (x : Done N A) → v + e ≤ w + c → v + f ≤ w + d → Ends v e f x → Ends w c d x
  carry v w c d e f (Gives a u) l k h = (h.0, omega (arith, l, h.1))
  carry v w c d e f (Stops y u) l k h = tt
  carry v w c d e f other l k h = (h.0, omega (arith, k, h.1))

  pub cost_up : {N A : Type 0} {c d e f : ℕ} {m : Act N A} → e ≤ c → f ≤ d → Costs e f m → Costs c d m
  cost_up {c = c} {d = d} {e = e} {f = f} {m = m} l k h = record { after = λ s short. carry (worth s) (worth s) c d e f (m s) (omega (arith, l)) (omega (arith, k)) (h.after s short) }

  -- ---- one thing after another

  bind_ends : {N A B : Type 0} {f : A → Act N B} (w c1 d1 c2 d2 c d : ℕ) → ((a : A) → Costs c2 d2 (f a)) → c1 + c2 ≤ c + 10 → d1 ≤ d → c1 + d2 ≤ d + 10 → (x : Done N A) → Ends w c1 d1 x → Ends w c d (and_then x f)
  unfolding and_then
  bind_ends {f = f} w c1 d1 c2 d2 c d k l m n (Gives a t) h = carry (worth t) w c d c2 d2 (f a t) (omega (arith, l, h.1)) (omega (arith, n, h.1)) ((k a).after t h.0)
  bind_ends w c1 d1 c2 d2 c d k l m n (Throws p t) h = (h.0, omega (arith, m, h.1))
  bind_ends w c1 d1 c2 d2 c d k l m n (Ejects i v t) h = (h.0, omega (arith, m, h.1))
  bind_ends w c1 d1 c2 d2 c d k l m n (Stops x t) h = tt

  pub cost_bind : {N A B : Type 0} {c1 d1 c2 d2 c d : ℕ} {m : Act N A} {f : A → Act N B} → Costs c1 d1 m → ((a : A) → Costs c2 d2 (f a)) → c1 + c2 ≤ c + 10 → d1 ≤ d → c1 + d2 ≤ d + 10 → Costs c d (m >>= f)
  unfolding ◌>>=◌
  cost_bind {c1 = c1} {d1 = d1} {c2 = c2} {d2 = d2} {c = c} {d = d} {m = m} h k x y z = record { after = λ s short. bind_ends (worth s) c1 d1 c2 d2 c d k x y z (m s) (h.after s short) }

  pub cost_then : {N A B : Type 0} {c1 d1 c2 d2 c d : ℕ} {m : Act N A} {n : Act N B} → Costs c1 d1 m → Costs c2 d2 n → c1 + c2 ≤ c + 10 → d1 ≤ d → c1 + d2 ≤ d + 10 → Costs c d (m >> n)
  unfolding ◌>>=◌ ◌>>◌
  cost_then {n = n} h k x y z = cost_bind {f = λ _. n} h (λ a. k) x y z

  -- behind what costs nothing and does not throw
  pub free_bind : {N A B : Type 0} {c d : ℕ} {m : Act N A} {f : A → Act N B} → Costs 10 0 m → ((a : A) → Costs c d (f a)) → Costs c d (m >>= f)
  free_bind h k = cost_bind h k (omega arith) (omega arith) (omega arith)

  pub free_then : {N A B : Type 0} {c d : ℕ} {m : Act N A} {n : Act N B} → Costs 10 0 m → Costs c d n → Costs c d (m >> n)
  free_then h k = cost_then h k (omega arith) (omega arith) (omega arith)

  -- behind what is looked at, as it is in a state
  pub look_bind : {N A B : Type 0} {c d : ℕ} (g : Vat N → A) (f : A → Act N B) → ((s : Vat N) → Short s → Costs c d (f (g s))) → Costs c d (look g >>= f)
  unfolding ◌>>=◌ look and_then
  look_bind g f k = record { after = λ s short. (k s short).after s short }

  pub cost_give : {N A : Type 0} (a : A) → Costs {N = N} 10 0 (give a)
  unfolding give
  cost_give a = record { after = λ s short. (short, omega arith) }

  pub cost_throw : {N A : Type 0} (p : Words) → Costs {N = N} 0 10 (throw {A = A} p)
  unfolding throw
  cost_throw p = record { after = λ s short. (short, omega arith) }

  pub cost_eject : {N A : Type 0} (n : ℕ) (v : Value N) → Costs 0 10 (eject {A = A} n v)
  unfolding eject
  cost_eject n v = record { after = λ s short. (short, omega arith) }

  pub cost_stop : {N A : Type 0} {c d : ℕ} (x : Stop) → Costs {N = N} c d (stop {A = A} x)
  unfolding stop
  cost_stop x = record { after = λ s short. tt }

  pub cost_look : {N A : Type 0} (f : Vat N → A) → Costs 10 0 (look f)
  unfolding look
  cost_look f = record { after = λ s short. (short, omega arith) }

  pub cost_some : {N A B : Type 0} {c d : ℕ} (o : Option A) {f : A → Act N B} {m : Act N B} → ((a : A) → Costs c d (f a)) → Costs c d m → Costs c d (for_some o f m)
  unfolding for_some
  cost_some (Some a) h k = h a
  cost_some None h k = k

  pub cost_if : {N A : Type 0} {c d : ℕ} (b : Bool) {m n : Act N A} → Costs c d m → Costs c d n → Costs c d (if b then m else n)
  cost_if true h k = h
  cost_if false h k = k

  pub free_each : {N A : Type 0} {f : A → Act N (Unit {0})} (xs : List A) → ((x : A) → Costs 10 0 (f x)) → Costs 10 0 (each f xs)
  unfolding each
  free_each [] h = cost_give tt
  free_each (x ∷ xs) h = free_then (h x) (free_each xs h)

  end_ends : {N A B : Type 0} (f : A → Act N B) (g : Words → Act N B) (h : ℕ → Value N → Act N B) (w c1 d1 c2 d2 c3 d3 c d : ℕ) → ((a : A) → Costs c2 d2 (f a)) → ((p : Words) → Costs c3 d3 (g p)) → ((n : ℕ) (v : Value N) → Costs c3 d3 (h n v))
      → c1 + c2 ≤ c + 10 → c1 + d2 ≤ d + 10 → d1 + c3 ≤ c + 10 → d1 + d3 ≤ d + 10 → (x : Done N A) → Ends w c1 d1 x → Ends w c d (end_by f g h x)
  unfolding end_by
  end_ends f g h w c1 d1 c2 d2 c3 d3 c d i j k l m n o (Gives a t) e = carry (worth t) w c d c2 d2 (f a t) (omega (arith, l, e.1)) (omega (arith, m, e.1)) ((i a).after t e.0)
  end_ends f g h w c1 d1 c2 d2 c3 d3 c d i j k l m n o (Throws p t) e = carry (worth t) w c d c3 d3 (g p t) (omega (arith, n, e.1)) (omega (arith, o, e.1)) ((j p).after t e.0)
  end_ends f g h w c1 d1 c2 d2 c3 d3 c d i j k l m n o (Ejects q v t) e = carry (worth t) w c d c3 d3 (h q v t) (omega (arith, n, e.1)) (omega (arith, o, e.1)) ((k q v).after t e.0)
  end_ends f g h w c1 d1 c2 d2 c3 d3 c d i j k l m n o (Stops x t) e = tt

  pub cost_ending : {N A B : Type 0} {c1 d1 c2 d2 c3 d3 c d : ℕ} {m : Act N A} {f : A → Act N B} {g : Words → Act N B} {h : ℕ → Value N → Act N B} → Costs c1 d1 m
      → ((a : A) → Costs c2 d2 (f a)) → ((p : Words) → Costs c3 d3 (g p)) → ((n : ℕ) (v : Value N) → Costs c3 d3 (h n v))
      → c1 + c2 ≤ c + 10 → c1 + d2 ≤ d + 10 → d1 + c3 ≤ c + 10 → d1 + d3 ≤ d + 10 → Costs c d (ending f g h m)
  unfolding ending
  cost_ending {c1 = c1} {d1 = d1} {c2 = c2} {d2 = d2} {c3 = c3} {d3 = d3} {c = c} {d = d} {m = m} {f = f} {g = g} {h = h} r i j k l n o p = record {
    after = λ s short. end_ends f g h (worth s) c1 d1 c2 d2 c3 d3 c d i j k l n o p (m s) (r.after s short);
  }

  -- where a line is told, or what is live dies, however it ends, and it ends as before
  pub cost_closing : {N A : Type 0} {c d : ℕ} {m : Act N A} {f : A → Act N A} {g : Words → Act N A} {h : ℕ → Value N → Act N A} → c ≤ d + 10 → Costs c d m
      → ((a : A) → Costs 10 0 (f a)) → ((p : Words) → Costs 0 10 (g p)) → ((n : ℕ) (v : Value N) → Costs 0 10 (h n v)) → d ≤ c + 10 → Costs c d (ending f g h m)
  cost_closing l r i j k m = cost_ending r i j k (omega arith) (omega (arith, l)) (omega (arith, m)) (omega arith)

  -- ---- spending

  paying : {N A : Type 0} (n c d e f : ℕ) (m : Act N A) (s : Vat N) → Short s → (n ≤ P.fuel → Costs e f m) → e ≤ c + paid P.unit n → f ≤ d + paid P.unit n → (b : Bool) → nat_le n s.fuel ≡ b → Ends (worth s) c d (and_then (spent n b s) (λ _. m))
  unfolding spent and_then made
  paying n c d e f m s short k x y true q = let l : n ≤ s.fuel = leb-true n s.fuel q in let t = record s { fuel = s.fuel - n } in let less = paid_rest P.unit n s.fuel l in let most = short.fuel in
      carry (worth t) (worth s) c d e f (m t) (omega (arith, x, less)) (omega (arith, y, less)) ((k (omega (arith, l, most))).after t (record { fuel = omega (arith, most); lists = short.lists; outbox = short.outbox }))
  paying n c d e f m s short k x y false q = tt

  -- What follows may cost as much more as the units pay for; and there were as many.
  pub spend_then : {N A : Type 0} {c d e f : ℕ} (n : ℕ) {m : Act N A} → (n ≤ P.fuel → Costs e f m) → e ≤ c + paid P.unit n → f ≤ d + paid P.unit n → Costs c d (spend n >> m)
  unfolding ◌>>◌ spend
  spend_then {c = c} {d = d} {e = e} {f = f} n {m = m} k x y = record { after = λ s short. paying n c d e f m s short k x y (nat_le n s.fuel) refl }

  -- ---- single changes

  pub cost_tell : {N : Type 0} (e : Happened N) → Costs 10 0 (tell e)
  unfolding tell made
  cost_tell e = record { after = λ s short. (record { fuel = short.fuel; lists = short.lists; outbox = short.outbox }, omega arith) }

  pub cost_activation : {N : Type 0} → Costs {N = N} 11 0 new_activation
  unfolding new_activation made
  cost_activation = record { after = λ s short. (record { fuel = short.fuel; lists = short.lists; outbox = short.outbox }, omega arith) }

  pub cost_thing : {N : Type 0} (t : Thing N) → Costs 11 0 (new_thing t)
  unfolding new_thing made
  cost_thing t = record { after = λ s short. let e = one_longer s.things t in (record { fuel = short.fuel; lists = short.lists; outbox = short.outbox }, omega (arith, e)) }

  pub cost_kill : {N : Type 0} (n : ℕ) → Costs {N = N} 10 0 (kill n)
  unfolding kill made
  cost_kill n = record { after = λ s short. let e = length_change dead n s.things in (record { fuel = short.fuel; lists = short.lists; outbox = short.outbox }, omega (arith, e)) }

  pub cost_slot : {N : Type 0} (g v : Value N) → Costs 11 0 (new_slot g v)
  unfolding new_slot made
  cost_slot g v = record { after = λ s short. let e = one_longer s.slots (record { guard = g; value = v }) in (record { fuel = short.fuel; lists = short.lists; outbox = short.outbox }, omega (arith, e)) }

  pub cost_write : {N : Type 0} (n : ℕ) (v : Value N) → Costs 10 0 (write_slot n v)
  unfolding write_slot made
  cost_write n v = record { after = λ s short. let e = length_change (holding v) n s.slots in (record { fuel = short.fuel; lists = short.lists; outbox = short.outbox }, omega (arith, e)) }

  pub cost_list : {N : Type 0} (vs : List (Value N)) → length vs ≤ P.fuel → Costs (11 + length vs) 0 (new_list vs)
  unfolding new_list made
  cost_list {N = N} vs l = record {
    after = λ s short. let e = one_spread s.lists vs in (record { fuel = short.fuel; lists = all_end (λ (us : List (Value N)). length us ≤ P.fuel) s.lists vs short.lists l; outbox = short.outbox }, omega (arith, e));
  }

  pub cost_enqueue : {N : Type 0} (m : Message N) → Costs 10 0 (enqueue m)
  unfolding enqueue made
  cost_enqueue m = record { after = λ s short. (record { fuel = short.fuel; lists = short.lists; outbox = short.outbox }, omega arith) }

  pub cost_out : {N : Type 0} (to : ℕ) (n : Note N) → note_load n ≤ P.fuel → Costs 10 0 (send_out to n)
  unfolding send_out made
  cost_out {N = N} to n l = record {
    after = λ s short. (record { fuel = short.fuel; lists = short.lists; outbox = all_end (λ (p : Put N). note_load p.note ≤ P.fuel) s.outbox (record { to = to; note = n }) short.outbox l }, omega arith);
  }

  pub cost_gift : {N : Type 0} (n : N) (p i : ℕ) → Costs 10 0 (new_gift n p i)
  unfolding new_gift made
  cost_gift n p i = record { after = λ s short. (record { fuel = short.fuel; lists = short.lists; outbox = short.outbox }, omega arith) }

  pub cost_open : {N : Type 0} (p i : ℕ) → Costs {N = N} 10 0 (open_gift p i)
  unfolding open_gift made
  cost_open p i = record { after = λ s short. (record { fuel = short.fuel; lists = short.lists; outbox = short.outbox }, omega arith) }

  pub cost_mark : {N : Type 0} (w : ℕ) → Costs {N = N} 10 0 (mark w)
  unfolding mark made
  cost_mark w = record { after = λ s short. (record { fuel = short.fuel; lists = short.lists; outbox = short.outbox }, omega arith) }
