-- A settling that ends well with some depth ends so with any greater depth.
use Rattle.std.proofs.Common.{◌≡◌, ℕ, zero, suc, ◌+◌, ◌-◌, ◌≤◌, List, [], ◌∷◌, ◌++◌, Option, Some, None, length, refl, sym, subst, arith}
use Rattle.def_machine.specs.Values.{Value, Broken, Naming}
use Rattle.def_machine.specs.State.{Message, Standing, Settled, Known, Lost, Vat, Done, Gives, Act, ◌>>=◌, ◌>>◌, and_then, each, give, stop, look, tell, for_some}
use Rattle.def_machine.specs.Refs as refs
use Rattle.def_machine.specs.Refs.{Place, Gone}

-- where the first gives, the second does so
pub record Refines {N A : Type 0} (m n : Act N A) : Type 0 where
  pub at : (s : Vat N) (a : A) (t : Vat N) → m s ≡ Gives a t → n s ≡ Gives a t

module _ {N : Type 0} where
  same : {A : Type 0} (m : Act N A) → Refines m m
  same m = record { at = λ s a t e. e }

  bound : {A B : Type 0} (d : Done N A) (e : Done N A) (f g : A → Act N B) → ((a : A) (t : Vat N) → d ≡ Gives a t → e ≡ Gives a t) → ((a : A) → Refines (f a) (g a)) → (b : B) (u : Vat N) → and_then d f ≡ Gives b u → and_then e g ≡ Gives b u
  unfolding and_then
  bound (Gives a t) e f g h k b u i = subst (λ r. and_then r g ≡ Gives b u) (sym (h a t refl)) ((k a).at t b u i)
  bound other e f g h k b u i = cc

  binds : {A B : Type 0} {m n : Act N A} {f g : A → Act N B} → Refines m n → ((a : A) → Refines (f a) (g a)) → Refines (m >>= f) (n >>= g)
  unfolding ◌>>=◌
  binds {m = m} {n = n} {f = f} {g = g} h k = record { at = λ s b u e. bound (m s) (n s) f g (h.at s) k b u e }

  thens : {A B : Type 0} {m n : Act N A} {p q : Act N B} → Refines m n → Refines p q → Refines (m >> p) (n >> q)
  unfolding ◌>>◌
  thens {m = m} {n = n} {p = p} {q = q} h k = record { at = λ s b u e. bound (m s) (n s) (λ _. p) (λ _. q) (h.at s) (λ a. k) b u e }

  eachs : {A : Type 0} (f g : A → Act N (Unit {0})) → ((x : A) → Refines (f x) (g x)) → (xs : List A) → Refines (each f xs) (each g xs)
  unfolding each
  eachs f g h [] = same (give tt)
  eachs f g h (x ∷ xs) = thens (h x) (eachs f g h xs)

  somes : {A B : Type 0} (o : Option A) {f g : A → Act N B} (m : Act N B) → ((x : A) → Refines (f x) (g x)) → Refines (for_some o f m) (for_some o g m)
  unfolding for_some
  somes (Some x) m h = h x
  somes None m h = same m

module _ {N W : Type 0} (K : Naming N W) where
  abbrev Settler : Type 0
  Settler = N → Value N → Act N (Unit {0})

  abbrev pub Deeper : Settler → Settler → Type 0
  Deeper f g = (p : N) (y : Value N) → Refines (f p y) (g p y)

  module _ (f g : Settler) (h : Deeper f g) where
    sends_to : (m : Message N) (y : Value N) (p : Place N) → Refines (refs.send_to K f m y p) (refs.send_to K g m y p)
    unfolding refs.send_to
    sends_to m y (Gone p) = thens (same _) (somes m.answer (give tt) (λ a. h a (Broken p)))
    sends_to m y other = same _

    pub sends_on : (m : Message N) → Refines (refs.send_on K f m) (refs.send_on K g m)
    unfolding refs.send_on
    sends_on m = binds (same _) (λ y. binds (same _) (λ p. sends_to m y p))

    known : (p : N) (y : Value N) (k : Known N) → Refines (refs.settle_known K f p y k) (refs.settle_known K g p y k)
    unfolding refs.settle_known
    known p y k = thens (same _) (thens (same _) (thens (eachs (refs.send_on K f) (refs.send_on K g) sends_on k.held) (thens (eachs (λ q. f q y) (λ q. g q y) (λ q. h q y) k.waiting) (same _))))

    standing : (p : N) (y : Value N) (k : Known N) (t : Standing N) → Refines (refs.settle_standing K f p y k t) (refs.settle_standing K g p y k t)
    unfolding refs.settle_standing
    standing p y k (Settled z) = same _
    standing p y k other = known p y k

    entry : (p : N) (y : Value N) (o : Option (Known N)) → Refines (refs.settle_entry K f p y o) (refs.settle_entry K g p y o)
    unfolding refs.settle_entry
    entry p y None = same _
    entry p y (Some k) = standing p y k k.standing

    ones : Deeper (refs.settle_one K f) (refs.settle_one K g)
    unfolding refs.settle_one
    ones p x = binds (same _) (λ y. binds (same _) (λ k. entry p y k))

  stops : (c : _) (p : N) (y : Value N) (g : Act N (Unit {0})) → Refines {N = N} (stop c) g
  unfolding stop
  stops c p y g = record { at = λ s a t e. cc }

  next : (d : ℕ) → Deeper (refs.settle_at K d) (refs.settle_at K (suc d))
  unfolding refs.settle_at
  next zero p y = stops _ p y _
  next (suc d) p y = ones (λ q z. refs.settle_at K d q z) (λ q z. refs.settle_at K (suc d) q z) (λ q z. next d q z) p y

  then_refines : {m n q : Act N (Unit {0})} → Refines m n → Refines n q → Refines m q
  then_refines h k = record { at = λ s a t e. k.at s a t (h.at s a t e) }

  more : (d n : ℕ) → Deeper (refs.settle_at K d) (refs.settle_at K (n + d))
  more d zero p y = let e : 0 + d ≡ d = omega arith in subst (λ j. Refines (refs.settle_at K d p y) (refs.settle_at K j p y)) (sym e) (same _)
  more d (suc n) p y = let e : suc n + d ≡ suc (n + d) = omega arith in subst (λ j. Refines (refs.settle_at K d p y) (refs.settle_at K j p y)) (sym e) (then_refines (more d n p y) (next (n + d) p y))

  -- So a settling that ends with less depth than it would be given ends so with that.
  pub settles : (d : ℕ) (p : N) (y : Value N) (s t : Vat N) → d ≤ suc (suc (length s.known)) → refs.settle_at K d p y s ≡ Gives tt t → refs.settle K p y s ≡ Gives tt t
  unfolding refs.settle ◌>>=◌ look and_then
  settles d p y s t l e = let n : (suc (suc (length s.known)) - d) + d ≡ suc (suc (length s.known)) = omega arith in
      (subst (λ j. Refines (refs.settle_at K d p y) (refs.settle_at K j p y)) n (more d (suc (suc (length s.known)) - d) p y)).at s tt t e

  -- so it is with a message that is sent on
  lost_as : (d : ℕ) (o : Option N) (y : Value N) (s t : Vat N) → d ≤ suc (suc (length s.known)) → for_some o (λ a. refs.settle_at K d a y) (give tt) s ≡ Gives tt t → for_some o (λ a. refs.settle K a y) (give tt) s ≡ Gives tt t
  unfolding for_some
  lost_as d (Some a) y s t l e = settles d a y s t l e
  lost_as d None y s t l e = e

  sent_to : (d : ℕ) (m : Message N) (y : Value N) (p : Place N) (s t : Vat N) → d ≤ suc (suc (length s.known)) → refs.send_to K (λ a x. refs.settle_at K d a x) m y p s ≡ Gives tt t → refs.send_to K (refs.settle K) m y p s ≡ Gives tt t
  unfolding refs.send_to ◌>>◌ tell and_then
  sent_to d m y (Gone q) s t l e = lost_as d m.answer (Broken q) (record s { happened = s.happened ++ Lost m.id ∷ [] }) t l e
  sent_to d m y other s t l e = e

  pub sent_as : (d : ℕ) (m : Message N) (s t : Vat N) → d ≤ suc (suc (length s.known)) → refs.send_on K (λ a x. refs.settle_at K d a x) m s ≡ Gives tt t → refs.send_on K (refs.settle K) m s ≡ Gives tt t
  unfolding refs.send_on ◌>>=◌ look and_then
  sent_as d m s t l e = sent_to d m (refs.follow K s m.target) (refs.place K s (refs.follow K s m.target)) s t l e
