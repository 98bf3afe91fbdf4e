-- What an activation knows in the machine, it knows by the lines.
use Rattle.std.proofs.Common.{◌≡◌, ℕ, ◌+◌, Bool, true, false, List, [], ◌∷◌, ◌++◌, Some, refl, subst, map, inl, inr}
use Rattle.std.specs.Prelude.{slice_get}
use Rattle.def_machine.specs.Values.{Value, Items, Ref, Name, Object, same_reference, naming}
use Rattle.def_machine.specs.State.{Standing, Viewed, Settled, Known, Happened, Settles, Views, Binding, Made}
use Rattle.def_machine.specs.Refs as refs
use Rattle.def_run.specs.World.{Script, Event, Here, names}
use Rattle.def_run.specs.Shown as show
use Rattle.law_machine.specs.Natives.Natives.{IsPlain}
use Rattle.law_fate.proofs.Name.SameNames.{reference_is}
use Rattle.law_uses.specs.Connectivity.Known as known
use Rattle.law_uses.specs.Connectivity.Known.{Item, AValue, IsAmong, AllOf, Holdings, parts_of_all, tells, AreOne, Leads, Runs}
use Rattle.law_uses.specs.Connectivity.MessageLaws.{IsToldStanding}
use Rattle.def_event.specs.Uses as uses
use Rattle.def_event.specs.Uses.{Thing, AName, AList, Listed, Given, Captured, IsTold, start, onward, Has, place_of, things_of}
use Rattle.law_uses.proofs.Uses.Shown.{lines, ListTold, list_leads}
use Rattle.law_uses.proofs.Uses.Sources.{turned}
use Rattle.law_uses.proofs.Uses.Carried.{in_all}
use Rattle.law_uses.specs.Running.Facts.{activation}
use Rattle.law_uses.specs.KnownUses.Told.{things_at}
use Rattle.law_uses.proofs.KnownUses.Lines.{settled_at, viewed_at}

-- ---- names that are one, and what names stand for

one_is : (script : Script) (v : ℕ) (before : List (Known Name)) (p n : Name) → AreOne (names script v) before p n → p ≡ n
unfolding names naming
one_is script v before p n o = subst (λ z. z ≡ n) (reference_is o.0 p o.1) (reference_is o.0 n o.2)

-- the standing of a name that is known is told
stands_told : (script : Script) (v : ℕ) (line : Happened Name → Type 0) (ks : List (Known Name)) → AllOf (λ k. IsToldStanding line k.name k.standing) ks → (n : Name) → IsToldStanding line n (refs.standing_of (names script v) ks n)
unfolding refs.standing_of refs.entry_of refs.standing_in names naming
stands_told script v line [] h n = tt
stands_told script v line (k ∷ ks) h n = either (same_reference k.name n) (λ e. subst (λ m. IsToldStanding line m k.standing) (reference_is k.name n e) h.0) (stands_told script v line ks h.1 n)
  where
    either : (b : Bool) → (b ≡ true → IsToldStanding line n k.standing) → IsToldStanding line n (refs.standing_in (refs.entry_of (names script v) ks n))
        → IsToldStanding line n (refs.standing_in (elim b [ true ↦ Some k | false ↦ refs.entry_of (names script v) ks n ]))
    either true f r = f refl
    either false f r = r

-- In a step of vat v, by the lines so far.
module _ (draws : List ℕ) (script : Script) (v : ℕ) (es : List Event) (h : Holdings Name Name) (so : List (Happened Name)) where
  -- what the lines so far tell of the activations, with what the next line is read against
  pub record FactsTold : Type 0 where
    -- an activation that runs the code of an object does so by the lines, and what the object captured was told when it was made
    pub ran : (b i : ℕ) → Runs (names script v) h so b i → uses.Runs (lines draws es) (activation v b) (show.shown_name draws (Object v i))
    pub endowed : (i node : ℕ) (caught : List (Binding Name)) (stamps : List (Value Name)) → slice_get h.things i ≡ Some (Made node caught stamps) → (x : Value Name) → IsAmong (AValue x) (parts_of_all (map (λ b. b.bound) caught))
        → (t : Thing) → uses.IsAmong t (things_at draws v x) → IsTold (lines draws es) (Captured (show.shown_name draws (Object v i)) t)
    -- what a line of the step made known to an activation was given to it
    pub told : (a : ℕ) (x : Value Name) (e : Happened Name) → IsAmong e so → IsAmong (a, AValue x) (tells e) → (t : Thing) → uses.IsAmong t (things_at draws v x) → IsTold (lines draws es) (Given (activation v a) t)
    -- what an opening activation is given it has
    pub given : (a : ℕ) (x : Value Name) → IsAmong (a, AValue x) h.given → (t : Thing) → uses.IsAmong t (things_at draws v x) → Has (lines draws es) (activation v a) t
    -- each line of the vat has its place
    pub placed : (g k : List Event) (e : Happened Name) → es ≡ g ++ Here v e ∷ k → place_of (lines draws g) ≡ v + 1
    -- what settled or came to be viewed before the step, and in it
    pub stood : AllOf (λ (k : Known Name). IsToldStanding (λ e. IsAmong (Here v e) es) k.name k.standing) h.before
    pub settling : (n : Name) (y : Value Name) → IsAmong (Settles n y) so → IsAmong (Here v (Settles n y)) es
    pub viewing : (n q : Name) → IsAmong (Views n q) so → IsAmong (Here v (Views n q)) es
    -- each list that is there
    pub listed : (k : ℕ) (vs : List (Value Name)) → slice_get h.lists k ≡ Some vs → ListTold draws es v k vs

  -- each thing that a value is, the activation knows
  abbrev pub Knew : ℕ → Value Name → Type 0
  Knew a x = (t : Thing) → uses.IsAmong t (things_at draws v x) → uses.Knows (lines draws es) (activation v a) t

  abbrev pub ItemKnown : ℕ → Item Name → Type 0
  ItemKnown a (AValue x) = Knew a x
  ItemKnown a other = Unit {0}

  -- what it has
  had : (a : ℕ) (i : Item Name) → ((x : Value Name) → i ≡ AValue x → (t : Thing) → uses.IsAmong t (things_at draws v x) → Has (lines draws es) (activation v a) t) → ItemKnown a i
  had a (AValue x) f = λ t i. start (f x refl t i)
  had a other f = tt

  plain_known : (a : ℕ) (x : Value Name) → IsPlain x → Knew a x
  unfolding show.shown_value things_of
  plain_known a (Ref n) p t i = absurd p
  plain_known a (Items k) p t i = absurd p
  plain_known a other p t i = absurd i

  name_thing : (n : Name) → uses.IsAmong (AName (show.shown_name draws n)) (things_at draws v (Ref n))
  unfolding show.shown_value things_of
  name_thing n = inl refl

  list_thing : (k : ℕ) → uses.IsAmong (AList v k) (things_at draws v (Items k))
  unfolding show.shown_value things_of
  list_thing k = inl refl

  only_name : (q : Name) (t : Thing) → uses.IsAmong t (things_at draws v (Ref q)) → AName (show.shown_name draws q) ≡ t
  unfolding show.shown_value things_of
  only_name q t (inl e) = e
  only_name q t (inr i) = absurd i

  module _ (r : FactsTold) where
    settles_known : (a : ℕ) (n : Name) (y : Value Name) → IsAmong (Here v (Settles n y)) es → Knew a (Ref n) → Knew a y
    settles_known a n y m g t i = onward (record { way = uses.Settled (v + 1); from = AName (show.shown_name draws n); to = t }) (settled_at draws es v r.placed n y t m i) refl (g (AName (show.shown_name draws n)) (name_thing n))

    views_known : (a : ℕ) (n q : Name) → IsAmong (Here v (Views n q)) es → Knew a (Ref n) → Knew a (Ref q)
    views_known a n q m g t i = subst (λ z. uses.Knows (lines draws es) (activation v a) z) (only_name q t i)
        (onward (record { way = uses.Settled (v + 1); from = AName (show.shown_name draws n); to = AName (show.shown_name draws q) }) (viewed_at draws es v r.placed n q m) refl (g (AName (show.shown_name draws n)) (name_thing n)))

    abbrev Line : Happened Name → Type 0
    Line e = IsAmong (Here v e) es

    stood_so : (n : Name) (s : Standing Name) → refs.standing_of (names script v) h.before n ≡ s → IsToldStanding Line n s
    stood_so n s e = subst (IsToldStanding Line n) e (stands_told script v Line h.before r.stood n)

    pub leads_known : (a : ℕ) (x y : Value Name) → Leads (names script v) h.before so x y → Knew a x → Knew a y
    leads_known a x y (known.settled {n = n} e) g = settles_known a n y (stood_so n (Settled y) e) g
    leads_known a x y (known.viewed {n = n} {q = q} e) g = views_known a n q (stood_so n (Viewed q) e) g
    leads_known a x y (known.settles {n = n} p m o) g = settles_known a n y (subst (λ z. Line (Settles z y)) (one_is script v h.before p n o) (r.settling p y m)) g
    leads_known a x y (known.views {n = n} {q = q} p m o) g = views_known a n q (subst (λ z. Line (Views z q)) (one_is script v h.before p n o) (r.viewing p q m)) g

    pub item_known : (a : ℕ) (i : Item Name) → known.Knows (names script v) h so a i → ItemKnown a i
    item_known a i (known.plain {v = x} e) = plain_known a x e
    item_known a i (known.initial m) = had a i (λ x e. r.given a x (subst (λ z. IsAmong (a, z) h.given) e m))
    item_known a i (known.endowed k node caught stamps o e m) = had a i (λ x f t j. inr (inr (show.shown_name draws (Object v k), r.ran a k o, r.endowed k node caught stamps e x (subst (λ z. IsAmong z (parts_of_all (map (λ b. b.bound) caught))) f m) t j)))
    item_known a i (known.told e m t) = had a i (λ x f u j. inr (inl (r.told a x e m (subst (λ z. IsAmong (a, z) (tells e)) f t) u j)))
    item_known a i (known.member {v = x} k vs g e m) = λ t j. onward (record { way = Listed; from = AList v k; to = t })
        (list_leads draws es v k vs t (r.listed k vs e) (in_all draws es v (λ t. ⊥) (λ k vs. ⊥) (λ k vs i. absurd i) (λ k vs ws i j. absurd i) t x vs (turned x vs m) j)) tt (item_known a _ g (AList v k) (list_thing k))
    item_known a i (known.followed {y = y} x g l) = leads_known a x y l (item_known a _ g)
    item_known a i other = tt
