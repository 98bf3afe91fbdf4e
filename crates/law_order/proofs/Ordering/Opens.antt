-- As a note is put that lets no gift go but that of a new draw, the ways only grow.
use Rattle.std.proofs.Common.{arith, ◌≡◌, ℕ, suc, Bool, true, false, List, [], Option, Some, None, refl, sym, ap, subst, ◌∙◌, ◌⊎◌, inl, inr, eqb-true}
use Rattle.std.proofs.lemmas.Bool.{ne_eqb}
use Rattle.std.specs.Prelude.{slice_get, not, ◌==◌, ◌&&◌}
use Rattle.def_machine.specs.Values.{Ref, Name, Gift}
use Rattle.def_machine.specs.State.{Standing, Unsettled, Vat, GiftEntry, Note}
use Rattle.def_machine.specs.Refs as refs
use Rattle.def_run.specs.World.{Script, Link, names}
use Rattle.def_run.specs.World as world
use Rattle.law_order.specs.Ordering.Ways.{Lane, Queue, Held, Way, Item, Place, Nowhere, Free, IsIn, IsOneWay}
use Rattle.law_order.specs.Ordering.Changes.{Grows}
use Rattle.law_order.specs.Ordering.Turns.{Within}
use Rattle.law_order.specs.Ordering.Places.{delivered, opened_there, is_honest, gift_place, leads, unsettled, released, released_at, stands_at, over, onward_at, ways_of}
use Rattle.law_order.proofs.Ordering.Noted.{Spares, LinkGrows, AllGrow, LinkAlike, with_grows, link_alike, gift_more}
use Rattle.law_order.proofs.Ordering.Below.{LinksLack, nothing_said}

module _ (script : Script) (honest : ℕ → Bool) (vs : List (Vat Name)) (ls : List Link) (v h d : ℕ) (note : Note Name) (spares : (i : ℕ) → (d == i) ≡ false → Spares i note) (new : LinksLack d ls) where
  abbrev Then : List Link
  Then = world.with_link (world.pushed note) v h ls

  grow : (i : ℕ) → (d == i) ≡ false → AllGrow i ls Then
  grow i e = with_grows i note v h ls (spares i e)

  grow_any : AllGrow (suc d) ls Then
  grow_any = grow (suc d) (ne_eqb d (suc d) (λ e. omega arith))

  gift_by : (g i : ℕ) (b : Bool) → (d == i) ≡ b → (gift_place script honest g i Then ≡ gift_place script honest g i ls) ⊎ (gift_place script honest g i ls ≡ Free)
  gift_by g i true e = inr (subst (λ j. gift_place script honest g j ls ≡ Free) (eqb-true d i e) (nothing_said script honest g d ls new))
  gift_by g i false e = inl (gift_more script honest g i ls Then (grow i e))

  unsettled_by : (c e : Place) (b : Bool) → (e ≡ c) ⊎ (c ≡ Free) → (elim b [ true ↦ e | false ↦ Free ] ≡ elim b [ true ↦ c | false ↦ Free ]) ⊎ (elim b [ true ↦ c | false ↦ Free ] ≡ Free)
  unsettled_by c e true h = h
  unsettled_by c e false h = inl refl

  unsettled_so : (u : ℕ) (p : Name) (gs : List (GiftEntry Name)) → (unsettled script honest vs Then u p gs ≡ unsettled script honest vs ls u p gs) ⊎ (unsettled script honest vs ls u p gs ≡ Free)
  unfolding unsettled
  unsettled_so u (Gift g i) gs = unsettled_by (gift_place script honest g i ls) (gift_place script honest g i Then) ((g == u) && not (opened_there (Gift g i) gs)) (gift_by g i (d == i) refl)
  unsettled_so u other gs = inl refl

  released_so : (u : ℕ) (p : Name) (gs : List (GiftEntry Name)) (q : Standing Name) → (released script honest vs Then u p gs q ≡ released script honest vs ls u p gs q) ⊎ (released script honest vs ls u p gs q ≡ Free)
  unfolding released leads
  released_so u p gs Unsettled = unsettled_so u p gs
  released_so u p gs other = inl refl

  released_vat : (u : ℕ) (p : Name) (o : Option (Vat Name)) → (released_at script honest vs Then u p o ≡ released_at script honest vs ls u p o) ⊎ (released_at script honest vs ls u p o ≡ Free)
  unfolding released_at
  released_vat u p (Some r) = released_so u p r.gifts (refs.standing_of (names script u) r.known p)
  released_vat u p None = inl refl

  over_same : (b : ℕ) (m : Name) (l k : Link) → LinkGrows (suc d) l k → over script honest vs Then b m k ≡ over script honest vs ls b m l
  unfolding over is_honest leads
  over_same b m l k g =
      ap (λ c. elim (honest c && honest k.to) [ true ↦ elim k.cut [ true ↦ Nowhere | false ↦ leads script honest vs ls b (Ref m) ] | false ↦ Free ]) g.from
      ∙ ap (λ c. elim (honest l.from && honest c) [ true ↦ elim k.cut [ true ↦ Nowhere | false ↦ leads script honest vs ls b (Ref m) ] | false ↦ Free ]) g.to
      ∙ ap (λ c. elim (honest l.from && honest l.to) [ true ↦ elim c [ true ↦ Nowhere | false ↦ leads script honest vs ls b (Ref m) ] | false ↦ Free ]) g.cut

  abbrev OverOf : List Link → ℕ → Name → Option Link → Place
  OverOf ks b m o = elim o [ Some k ↦ over script honest vs ks b m k | None ↦ Nowhere ]

  way_same : (b : ℕ) (m : Name) (o p : Option Link) → LinkAlike (suc d) o p → OverOf Then b m p ≡ OverOf ls b m o
  way_same b m None None g = refl
  way_same b m (Some l) (Some k) g = over_same b m l k g
  way_same b m other another g = absurd g

  onward_so : (l : Lane) (m : Name) → (onward_at script honest vs Then l m ≡ onward_at script honest vs ls l m) ⊎ (IsOneWay l × (onward_at script honest vs ls l m ≡ Free))
  unfolding onward_at
  onward_so (Queue u) m = inl refl
  onward_so (Held u p) m = go (released_vat u p (slice_get vs u))
    where
      go : (released_at script honest vs Then u p (slice_get vs u) ≡ released_at script honest vs ls u p (slice_get vs u)) ⊎ (released_at script honest vs ls u p (slice_get vs u) ≡ Free)
          → (released_at script honest vs Then u p (slice_get vs u) ≡ released_at script honest vs ls u p (slice_get vs u)) ⊎ (Unit {0} × (released_at script honest vs ls u p (slice_get vs u) ≡ Free))
      go (inl e) = inl e
      go (inr e) = inr (tt, e)
  onward_so (Way a b) m = inl (way_same b m (world.link_at a b ls) (world.link_at a b Then) (link_alike (suc d) a b ls Then grow_any))

  abbrev NotesOf : Option Link → List Item
  NotesOf o = elim o [ Some l ↦ elim (is_honest script honest l) [ true ↦ delivered l.notes | false ↦ [] ] | None ↦ [] ]

  honest_same : (l k : Link) → LinkGrows (suc d) l k → is_honest script honest k ≡ is_honest script honest l
  unfolding is_honest
  honest_same l k g = ap (λ c. honest c && honest k.to) g.from ∙ ap (λ c. honest l.from && honest c) g.to

  notes_by : (c : Bool) (xs ys : List Item) → Within xs ys → Within (elim c [ true ↦ xs | false ↦ [] ]) (elim c [ true ↦ ys | false ↦ [] ])
  notes_by true xs ys f = f
  notes_by false xs ys f = λ i j. j

  notes_grow : (o p : Option Link) → LinkAlike (suc d) o p → Within (NotesOf o) (NotesOf p)
  notes_grow None None g = λ i j. j
  notes_grow (Some l) (Some k) g = λ i j. subst (λ c. IsIn i (elim c [ true ↦ delivered k.notes | false ↦ [] ])) (sym (honest_same l k g)) (notes_by (is_honest script honest l) (delivered l.notes) (delivered k.notes) g.stands i j)
  notes_grow other another g = absurd g

  stands_so : (l : Lane) (i : Item) → IsIn i (stands_at script honest vs ls l) → IsIn i (stands_at script honest vs Then l)
  unfolding stands_at
  stands_so (Way a b) i j = notes_grow (world.link_at a b ls) (world.link_at a b Then) (link_alike (suc d) a b ls Then grow_any) i j
  stands_so other i j = j

  pub opening_grows : Grows (ways_of script honest vs ls) (ways_of script honest vs Then)
  unfolding ways_of
  opening_grows = record { stands = λ l i j. stands_so l i j; onward = λ l m. onward_so l m }
