-- What a vat learns and makes as a note opens a gift: names come to be known, and the gift. No message moves, and the ways only grow.
use Rattle.std.proofs.Common.{◌≡◌, ℕ, List, Bool, Option, Some, None, refl, sym, subst, ◌∙◌, ◌⊎◌, inl, inr}
use Rattle.def_machine.specs.Values.{Name, Naming, IsLearnt, host_of, naming, name_of}
use Rattle.def_machine.specs.State.{Known, Vat, begun, come}
use Rattle.def_machine.specs.Refs.{entry_of}
use Rattle.def_run.specs.World.{Script, Event, World, names}
use Rattle.law_fate.specs.Name.Names.{IsEventual}
use Rattle.law_order.specs.Ordering.Steps.{Ready}
use Rattle.law_order.specs.Ordering.Worlds.{IsObject}
use Rattle.law_order.proofs.Ordering.Coming.{new_entry, old_entry}
use Rattle.law_order.proofs.Ordering.News.{came_none}
use Rattle.law_order.proofs.Carries.Learning.{Came, alone_self, come_grown, differs}
use Rattle.law_order.proofs.Asks.Gifts.{Given, gift_stays}
use Rattle.law_order.proofs.Views.Quiet.{is_name}
use Rattle.law_order.specs.History.Tells.{Tale, over, then_on}
use Rattle.law_order.specs.Tales.Middle.{middle, MovesNone}
use Rattle.law_order.proofs.Tales.Middle.{growing_is_small}
use Rattle.law_order.proofs.Tales.Stilling.{still_come}
use Rattle.law_order.proofs.Settling.Acts.{tale_then}
use Rattle.law_order.proofs.NewsTales.Moving.{rest_moves}

module _ (script : Script) (honest : ℕ → Bool) (w : World) (v : ℕ) (head : List Event) where
  abbrev K : Naming Name Name
  K = names script v

  -- it stands as it did, or came to be known and holds nothing
  abbrev pub Stands : Name → Option (Known Name) → Option (Known Name) → Type 0
  Stands m c d = (d ≡ c) ⊎ ((h : ℕ) × (c ≡ None) × (d ≡ Some (begun m h)))

  pub record More (s t : Vat Name) : Type 0 where
    pub tale : Tale script honest (middle w v head s) (middle w v head t)
    pub entries : (m : Name) → Stands m (entry_of K s.known m) (entry_of K t.known m)
    pub outbox : t.outbox ≡ s.outbox
    pub happened : t.happened ≡ s.happened
    pub drawn : t.drawn ≡ s.drawn
    pub noticed : t.noticed ≡ s.noticed
    pub lists : t.lists ≡ s.lists
    pub number : t.number ≡ s.number

  pub more_self : (s : Vat Name) → More s s
  more_self s = record { tale = over; entries = λ m. inl refl; outbox = refl; happened = refl; drawn = refl; noticed = refl; lists = refl; number = refl }

  stands_then : (m : Name) (c d e : Option (Known Name)) → Stands m c d → Stands m d e → Stands m c e
  stands_then m c d e (inl f) (inl g) = inl (g ∙ f)
  stands_then m c d e (inl f) (inr g) = inr (g.0, sym f ∙ g.1, g.2)
  stands_then m c d e (inr f) (inl g) = inr (f.0, f.1, g ∙ f.2)
  stands_then m c d e (inr f) (inr g) = absurd (apart (begun m f.0) (sym g.1 ∙ f.2))
    where
      apart : (k : Known Name) → ◌≡◌ {A = Option (Known Name)} None (Some k) → ⊥
      apart k i = cc

  pub more_then : (s t u : Vat Name) → More s t → More t u → More s u
  more_then s t u g h = record {
    tale = tale_then script honest (middle w v head s) (middle w v head t) (middle w v head u) g.tale h.tale;
    entries = λ m. stands_then m (entry_of K s.known m) (entry_of K t.known m) (entry_of K u.known m) (g.entries m) (h.entries m);
    outbox = h.outbox ∙ g.outbox;
    happened = h.happened ∙ g.happened;
    drawn = h.drawn ∙ g.drawn;
    noticed = h.noticed ∙ g.noticed;
    lists = h.lists ∙ g.lists;
    number = h.number ∙ g.number;
  }

  -- ---- a name comes to be known

  module _ (s : Vat Name) (m : Name) (plain : IsObject m → ⊥) (eventual : IsEventual m) (new : entry_of K s.known m ≡ None) (ready : Ready script honest w v s) where
    abbrev C : Vat Name
    C = Came script honest w v s m plain

    moves : MovesNone K s C
    unfolding come names naming name_of
    moves = (still_come K (IsLearnt m) (host_of m)).after s

    other_by : (q : Name) → (q ≡ m → ⊥) → (c : Option (Known Name)) → entry_of K s.known q ≡ c → entry_of K C.known q ≡ c
    unfolding names naming
    other_by q f (Some k) e = old_entry K s.known (begun m (host_of m)) k q e
    other_by q f None e = came_none K s m (host_of m) plain ready.ends q e (differs m q (λ i. f (sym i)))

    entries : (q : Name) → (q ≡ m) ⊎ (q ≡ m → ⊥) → Stands q (entry_of K s.known q) (entry_of K C.known q)
    entries q (inl e) = subst (λ z. Stands z (entry_of K s.known z) (entry_of K C.known z)) (sym e) (inr (host_of m, new, new_entry K s.known (begun m (host_of m)) m new ∙ alone_self script v m (host_of m) eventual))
    entries q (inr f) = inl (other_by q f (entry_of K s.known q) refl)

    pub come_more : More s C
    come_more = record {
      tale = then_on (growing_is_small script honest w v head s C (come_grown script honest w v s m plain ready) moves) over;
      entries = λ q. entries q (is_name q m);
      outbox = refl;
      happened = refl;
      drawn = refl;
      noticed = refl;
      lists = refl;
      number = refl;
    }

  -- ---- a gift comes to be

  pub given_more : (s : Vat Name) (n : Name) (p i : ℕ) → Ready script honest w v s → More s (Given script honest w v s n p i)
  given_more s n p i ready = let t : Vat Name = Given script honest w v s n p i in record {
    tale = then_on (growing_is_small script honest w v head s t (gift_stays script honest w v s n p i ready).1 (rest_moves script v s t refl refl refl refl)) over;
    entries = λ m. inl refl;
    outbox = refl;
    happened = refl;
    drawn = refl;
    noticed = refl;
    lists = refl;
    number = refl;
  }
