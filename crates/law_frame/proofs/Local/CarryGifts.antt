-- A gift that a note asks for stands among those of its host once the note has arrived.
use Rattle.std.proofs.Common.{◌≡◌, ℕ, Bool, true, false, List, [], ◌∷◌, ◌++◌, Option, Some, None, refl, ap, ◌∙◌, ◌==◌}
use Rattle.std.proofs.lemmas.Bool.{eq-eqb}
use Rattle.def_machine.specs.Values.{Name, Naming}
use Rattle.def_machine.specs.State.{GiftEntry, Vat, Done, Gives, Act, ◌>>=◌, ◌>>◌, and_then, give, look, come, new_gift, with_opened, is_gift}
use Rattle.def_machine.specs.Arrive as arrive
use Rattle.def_machine.specs.Arrive.{gift_at}
use Rattle.law_machine.specs.Machine.Steps.{After}
use Rattle.law_machine.proofs.Machine.Keeps.{Keeps, IsKept, IsKeptUnder, keeps_bind, keeps_then, keeps_look}
use Rattle.law_machine.proofs.Machine.ArriveKeeps.{keeps_break_orphan, keeps_tell_asker}

-- one stands there
abbrev pub Stands : {N : Type 0} → ℕ → ℕ → List (GiftEntry N) → Type 0
Stands {N} p i gs = (g : GiftEntry N) × (gift_at p i gs ≡ Some g)

at_end : (p i : ℕ) (gs : List (GiftEntry Name)) (x : GiftEntry Name) → Stands p i gs → Stands p i (gs ++ x ∷ [])
unfolding gift_at
at_end p i [] x h = absurd (none h.1)
  where
    none : {g : GiftEntry Name} → ◌≡◌ {A = Option (GiftEntry Name)} None (Some g) → ⊥
    none e = cc
at_end p i (g ∷ gs) x h = by (is_gift p i g) h.1 (λ k. at_end p i gs x k)
  where
    by : (b : Bool) → ◌≡◌ {A = Option (GiftEntry Name)} (elim b [ true ↦ Some g | false ↦ gift_at p i gs ]) (Some h.0) → (Stands p i gs → Stands p i (gs ++ x ∷ [])) → (k : GiftEntry Name) × (◌≡◌ {A = Option (GiftEntry Name)} (elim b [ true ↦ Some g | false ↦ gift_at p i (gs ++ x ∷ []) ]) (Some k))
    by true e f = (g, refl)
    by false e f = f (h.0, e)

-- the last one, if no other
last_or : (p i : ℕ) (gs : List (GiftEntry Name)) (x : GiftEntry Name) → is_gift p i x ≡ true → Stands p i (gs ++ x ∷ [])
unfolding gift_at
last_or p i [] x e = (x, one (is_gift p i x) e)
  where
    one : (b : Bool) → b ≡ true → ◌≡◌ {A = Option (GiftEntry Name)} (elim b [ true ↦ Some x | false ↦ None ]) (Some x)
    one true e = refl
    one false e = cc
last_or p i (g ∷ gs) x e = by (is_gift p i g) (last_or p i gs x e)
  where
    by : (b : Bool) → Stands p i (gs ++ x ∷ []) → (k : GiftEntry Name) × (◌≡◌ {A = Option (GiftEntry Name)} (elim b [ true ↦ Some g | false ↦ gift_at p i (gs ++ x ∷ []) ]) (Some k))
    by true h = (g, refl)
    by false h = h

own_gift : (n : Name) (p i : ℕ) → is_gift p i (record { name = n; provider = p; number = i; opened = false }) ≡ true
unfolding is_gift
own_gift n p i = both (p == p) (i == i) (eq-eqb p p refl) (eq-eqb i i refl)
  where
    both : (a b : Bool) → a ≡ true → b ≡ true → elim a [ true ↦ b | false ↦ false ] ≡ true
    both true b e f = f
    both false b e f = cc

-- one that is opened is the same gift
opened_gift : (p i : ℕ) (g : GiftEntry Name) → is_gift p i (record g { opened = true }) ≡ is_gift p i g
unfolding is_gift
opened_gift p i g = refl

when_opened : (p i q j : ℕ) (gs : List (GiftEntry Name)) → Stands p i gs → Stands p i (with_opened q j gs)
unfolding gift_at with_opened
when_opened p i q j [] h = h
when_opened p i q j (g ∷ gs) h = by (is_gift q j g) (is_gift p i g) refl h (λ k. when_opened p i q j gs k)
  where
    abbrev_at : Bool → GiftEntry Name → List (GiftEntry Name) → Option (GiftEntry Name)
    abbrev_at b x xs = elim b [ true ↦ Some x | false ↦ gift_at p i xs ]

    found : (b : Bool) (x : GiftEntry Name) (xs : List (GiftEntry Name)) → is_gift p i x ≡ b → (k : GiftEntry Name) × (abbrev_at b x xs ≡ Some k) → Stands p i (x ∷ xs)
    found b x xs e k = (k.0, ap (λ c. abbrev_at c x xs) e ∙ k.1)

    by : (a b : Bool) → is_gift p i g ≡ b → (k : GiftEntry Name) × (abbrev_at b g gs ≡ Some k) → (Stands p i gs → Stands p i (with_opened q j gs)) → Stands p i (elim a [ true ↦ record g { opened = true } ∷ gs | false ↦ g ∷ with_opened q j gs ])
    by true true e k f = found true (record g { opened = true }) gs (opened_gift p i g ∙ e) (record g { opened = true }, refl)
    by true false e k f = found false (record g { opened = true }) gs (opened_gift p i g ∙ e) k
    by false true e k f = found true g (with_opened q j gs) e (g, refl)
    by false false e k f = found false g (with_opened q j gs) e (f k)

-- ---- what stands goes on standing

module _ (p i : ℕ) where
  abbrev Lasts : Vat Name → Vat Name → Type 0
  Lasts s t = Stands p i s.gifts → Stands p i t.gifts

  lasts : IsKept Lasts
  lasts = record {
    same = λ s h. h;
    trans = λ {s} {t} {u} f g h. g (f h);
    fuel = λ s n h. h;
    happened = λ s e h. h;
    activations = λ s h. h;
    thing = λ s t h. h;
    killed = λ s n h. h;
    slot = λ s c h. h;
    written = λ s n y h. h;
    list = λ s vs h. h;
    queue = λ s m h. h;
    outbox = λ s n h. h;
    gift = λ s g h. at_end p i s.gifts g h;
    opened = λ s q j h. when_opened p i q j s.gifts h;
    noticed = λ s w h. h;
    drawn = λ s w h. h;
  }

  lasts_under : (K : Naming Name Name) → IsKeptUnder K Lasts
  lasts_under K = record {
    altered = λ s c n h. h;
    came = λ s c k h. h;
    mailed = λ s c h. h;
    promised = λ s h. h;
    messaged = λ s k id h. h;
    lone = λ s id h. h;
  }

  -- where something is given the gift stands
  abbrev pub Given : {A : Type 0} → Done Name A → Type 0
  Given (Gives a t) = Stands p i t.gifts
  Given other = Unit {0}

  still_given : {A : Type 0} (s : Vat Name) (d : Done Name A) → Stands p i s.gifts → After Lasts s d → Given d
  still_given s (Gives a t) h f = f h
  still_given s other h f = tt

  then_given : {A B : Type 0} (d : Done Name A) (f : A → Act Name B) → Given d → ((a : A) → Keeps Lasts (f a)) → Given (and_then d f)
  unfolding and_then
  then_given (Gives a t) f h k = still_given t (f a t) h ((k a).after t)
  then_given other f h k = tt

  module _ (K : Naming Name Name) where
    or_new : (v : ℕ) (o : Option (GiftEntry Name)) (s : Vat Name) → gift_at p i s.gifts ≡ o → Given (arrive.gift_or_new K v p i o s)
    unfolding arrive.gift_or_new give come new_gift ◌>>=◌ ◌>>◌ and_then
    or_new v (Some g) s e = (g, e)
    or_new v None s e = last_or p i s.gifts _ (own_gift _ p i)

    have_given : (s : Vat Name) → Given (arrive.have_gift K p i s)
    unfolding arrive.have_gift look ◌>>=◌ and_then
    have_given s = or_new s.number (gift_at p i s.gifts) s refl

    pub ask_given : (from : ℕ) (s : Vat Name) → Given (arrive.arrive_ask K from p i s)
    unfolding arrive.arrive_ask ◌>>=◌
    ask_given from s = then_given (arrive.have_gift K p i s) _ (have_given s) (λ n. keeps_then Lasts lasts (keeps_break_orphan K Lasts lasts (lasts_under K) p i n) (keeps_bind Lasts lasts (keeps_look Lasts lasts _) (λ t. keeps_tell_asker K Lasts lasts (lasts_under K) n from t)))
