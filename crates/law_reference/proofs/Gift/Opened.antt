-- A gift that is opened by its provider stands there opened.
use Rattle.std.proofs.Common.{◌≡◌, ℕ, zero, suc, Bool, true, false, List, [], ◌∷◌, ◌++◌, Option, Some, None, refl, ◌∙◌, length, ◌==◌}
use Rattle.std.specs.Prelude.{slice_get}
use Rattle.std.proofs.lemmas.Bool.{eqb-true, eq-eqb}
use Rattle.def_machine.specs.Values.{Name, Ref, Naming, IsGift, IsLearnt}
use Rattle.def_machine.specs.State.{GiftEntry, Vat, ◌>>=◌, ◌>>◌, and_then, give, look, come, new_gift, open_gift, with_opened, is_gift, begun, Open}
use Rattle.def_machine.specs.Refs as refs
use Rattle.def_machine.specs.Arrive as arrive
use Rattle.def_machine.specs.Arrive.{Incoming, Old, New, gift_at}
use Rattle.law_machine.proofs.Machine.RefsKeeps.{keeps_resolve}
use Rattle.law_reference.proofs.Reference.Gentle.{AfterGives, gives_after}
use Rattle.law_reference.specs.Gift.Gifts.{SameGifts}
use Rattle.law_reference.proofs.Gift.Stays.{gifts_law, gifts_names}

-- a gift of that provider and key stands there, opened
abbrev pub IsOpenedBy : ℕ → ℕ → List (GiftEntry Name) → Type 0
IsOpenedBy p i gs = (k : ℕ) × (g : GiftEntry Name) × (slice_get gs k ≡ Some g) × (g.provider ≡ p) × (g.number ≡ i) × (g.opened ≡ true)

pub opened_later : (p i : ℕ) (s t : Vat Name) → SameGifts s t → IsOpenedBy p i s.gifts → IsOpenedBy p i t.gifts
opened_later p i s t same x = let later = same x.0 x.1 x.2 in (x.0, later.0, later.1, later.2.provider ∙ x.3, later.2.number ∙ x.4, later.2.opened x.5)

both_true : (b c : Bool) → elim b [ true ↦ c | false ↦ false ] ≡ true → (b ≡ true) × (c ≡ true)
both_true true c e = (refl, e)
both_true false c e = cc

gift_is : (p i : ℕ) (g : GiftEntry Name) → is_gift p i g ≡ true → (g.provider ≡ p) × (g.number ≡ i)
unfolding is_gift
gift_is p i g e = let r = both_true (g.provider == p) (g.number == i) e in (eqb-true g.provider p r.0, eqb-true g.number i r.1)

and_true : (b c : Bool) → b ≡ true → c ≡ true → elim b [ true ↦ c | false ↦ false ] ≡ true
and_true true c e f = f
and_true false c e f = cc

is_itself : (p i : ℕ) (n : Name) → is_gift p i (record { name = n; provider = p; number = i; opened = false }) ≡ true
unfolding is_gift
is_itself p i n = and_true (p == p) (i == i) (eq-eqb p p refl) (eq-eqb i i refl)

-- ---- the gift that is found is the one that is opened

further : (p i : ℕ) (g : GiftEntry Name) (gs : List (GiftEntry Name)) → IsOpenedBy p i gs → IsOpenedBy p i (g ∷ gs)
further p i g gs x = (suc x.0, x.1, x.2, x.3, x.4, x.5)

opened_head : (p i : ℕ) (b : Bool) (g k : GiftEntry Name) (o : Option (GiftEntry Name)) (gs hs : List (GiftEntry Name)) → is_gift p i g ≡ b → ◌≡◌ {A = Option (GiftEntry Name)} (elim b [ true ↦ Some g | false ↦ o ]) (Some k)
    → (o ≡ Some k → IsOpenedBy p i hs) → IsOpenedBy p i (elim b [ true ↦ record g { opened = true } ∷ gs | false ↦ g ∷ hs ])
opened_head p i true g k o gs hs e f h = let is = gift_is p i g e in (zero, record g { opened = true }, refl, is.0, is.1, refl)
opened_head p i false g k o gs hs e f h = further p i g hs (h f)

opened_there : (p i : ℕ) (gs : List (GiftEntry Name)) (k : GiftEntry Name) → gift_at p i gs ≡ Some k → IsOpenedBy p i (with_opened p i gs)
unfolding gift_at with_opened
opened_there p i [] k e = cc
opened_there p i (g ∷ gs) k e = opened_head p i (is_gift p i g) g k (gift_at p i gs) gs (with_opened p i gs) refl e (λ f. opened_there p i gs k f)

found_head : (p i : ℕ) (b : Bool) (g : GiftEntry Name) (o q : Option (GiftEntry Name)) (k : GiftEntry Name) → ◌≡◌ {A = Option (GiftEntry Name)} (elim b [ true ↦ Some g | false ↦ o ]) None → (o ≡ None → q ≡ Some k)
    → ◌≡◌ {A = Option (GiftEntry Name)} (elim b [ true ↦ Some g | false ↦ q ]) (Some k)
found_head p i true g o q k e h = cc
found_head p i false g o q k e h = h e

at_true : (b : Bool) (k : GiftEntry Name) (o : Option (GiftEntry Name)) → b ≡ true → ◌≡◌ {A = Option (GiftEntry Name)} (elim b [ true ↦ Some k | false ↦ o ]) (Some k)
at_true true k o e = refl
at_true false k o e = cc

-- what is absent is found once it is added
found_last : (p i : ℕ) (gs : List (GiftEntry Name)) (k : GiftEntry Name) → gift_at p i gs ≡ None → is_gift p i k ≡ true → gift_at p i (gs ++ k ∷ []) ≡ Some k
unfolding gift_at
found_last p i [] k e f = at_true (is_gift p i k) k None f
found_last p i (g ∷ gs) k e f = found_head p i (is_gift p i g) g (gift_at p i gs) (gift_at p i (gs ++ k ∷ [])) k e (λ h. found_last p i gs k h f)

module _ (K : Naming Name Name) (from i : ℕ) where
  abbrev Opened : Vat Name → Type 0
  Opened t = IsOpenedBy from i t.gifts

  then_opened : (y n : Name) (s : Vat Name) (k : GiftEntry Name) → gift_at from i s.gifts ≡ Some k → AfterGives Opened ((open_gift from i >> refs.resolve K n (Ref y)) s)
  unfolding open_gift ◌>>◌ and_then
  then_opened y n s k e = let t : Vat Name = record s { gifts = with_opened from i s.gifts } in
      gives_after SameGifts Opened t (refs.resolve K n (Ref y) t) (λ u same. opened_later from i t u same (opened_there from i s.gifts k e)) ((keeps_resolve K SameGifts gifts_law (gifts_names K) n (Ref y)).after t)

  had_opened : (y : Name) (u : ℕ) (s : Vat Name) (o : Option (GiftEntry Name)) → gift_at from i s.gifts ≡ o → AfterGives Opened (and_then (arrive.gift_or_new K u from i o s) (λ n. open_gift from i >> refs.resolve K n (Ref y)))
  unfolding arrive.gift_or_new ◌>>=◌ ◌>>◌ and_then come new_gift give
  had_opened y u s (Some g) e = then_opened y g.name s g e
  had_opened y u s None e = let n : Name = K.made (IsGift u i) (length s.known) in let g : GiftEntry Name = record { name = n; provider = from; number = i; opened = false } in
      then_opened y n (record s { known = s.known ++ begun n u ∷ []; gifts = s.gifts ++ g ∷ [] }) g (found_last from i s.gifts g e (is_itself from i n))

  have_opened : (y : Name) (s : Vat Name) → AfterGives Opened ((arrive.have_gift K from i >>= (λ n. open_gift from i >> refs.resolve K n (Ref y))) s)
  unfolding arrive.have_gift ◌>>=◌ and_then look
  have_opened y s = had_opened y s.number s (gift_at from i s.gifts) refl

  pub opens : (x : Incoming Name Name) (s : Vat Name) → AfterGives Opened (arrive.arrive K from (Open i x) s)
  unfolding arrive.arrive arrive.arrive_open arrive.learn_name ◌>>=◌ and_then give come
  opens (Old n) s = have_opened n s
  opens (New n h) s = let m : Name = K.made (IsLearnt n) (length s.known) in have_opened m (record s { known = s.known ++ begun m h ∷ [] })
