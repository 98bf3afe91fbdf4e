-- In every run a cut of links is a small step.
use Rattle.std.proofs.Common.{◌≡◌, ℕ, Bool, List, [], ◌∷◌, ◌++◌, Option, Some, None, refl, sym, ap, subst, ◌∙◌, ◌⊎◌, inl, inr}
use Rattle.def_machine.specs.Values.{Name, Ref}
use Rattle.def_machine.specs.State.{Passeds, Delivery, Note, Deliver, Open, Ask, SettledTo, Elsewhere, Shorten}
use Rattle.def_run.specs.World as world
use Rattle.def_run.specs.World.{Script, Event, Link, World, Goes, link_at}
use Rattle.law_reference.proofs.Reference.Follow.{eq_dec}
use Rattle.law_order.specs.Ordering.Ways.{Lane, Queue, Held, Way, Item, Ahead}
use Rattle.law_order.specs.Ordering.Messages.{StandsAt}
use Rattle.law_order.specs.Ordering.Places.{item, leads, ways}
use Rattle.law_order.specs.Cuts.Cuts.{IsBetween, CutKeeps}
use Rattle.law_order.proofs.Cuts.Reached.{cuts_keep_in_runs}
use Rattle.law_order.proofs.Cuts.Severed.{Comes, as_it_was, severed, comes}
use Rattle.law_order.specs.History.Lines.{counts, AllQuiet}
use Rattle.law_order.specs.History.Befores.{Brings}
use Rattle.law_order.specs.History.Tells.{over, then_on}
use Rattle.law_order.specs.Tales.Resting.{WasBrought, Rests}
use Rattle.law_order.specs.Tales.Tales.{CutsAreTales}
use Rattle.law_order.proofs.Tales.Resting.{resting}

-- ---- lines

quiet_both : (es fs : List Event) → AllQuiet es → AllQuiet fs → AllQuiet (es ++ fs)
quiet_both [] fs h k = k
quiet_both (e ∷ es) fs h k = (h.0, quiet_both es fs h.1 k)

lost_quiet : (script : Script) (ns : List (Note Name)) → AllQuiet (world.lost_by script ns)
unfolding world.lost_by counts
lost_quiet script [] = tt
lost_quiet script (Deliver d n verb ys ∷ ns) = (refl, lost_quiet script ns)
lost_quiet script (Open i n ∷ ns) = lost_quiet script ns
lost_quiet script (Ask p i n ∷ ns) = lost_quiet script ns
lost_quiet script (SettledTo n y ∷ ns) = lost_quiet script ns
lost_quiet script (Elsewhere n c ∷ ns) = lost_quiet script ns
lost_quiet script (Shorten n c i ∷ ns) = lost_quiet script ns

lost_on_quiet : (script : Script) (o : Option Link) → AllQuiet (world.lost_on script o)
unfolding world.lost_on
lost_on_quiet script None = tt
lost_on_quiet script (Some l) = lost_quiet script l.notes

-- ---- lanes

between_or : (a b : ℕ) (l : Lane) → IsBetween a b l ⊎ (IsBetween a b l → ⊥)
between_or a b (Queue v) = inr (λ h. no h)
  where
    no : IsBetween a b (Queue v) → ⊥
    no (inl e) = cc
    no (inr e) = cc
between_or a b (Held v p) = inr (λ h. no h)
  where
    no : IsBetween a b (Held v p) → ⊥
    no (inl e) = cc
    no (inr e) = cc
between_or a b (Way c d) = go (eq_dec c a) (eq_dec d b) (eq_dec c b) (eq_dec d a)
  where
    first : (e f g h : ℕ) → Way e f ≡ Way g h → (e ≡ g) × (f ≡ h)
    first e f g h q = let x : e ≡ g = cc in let y : f ≡ h = cc in (x, y)

    back : ((c ≡ b) × (d ≡ a) → ⊥) → ((c ≡ a) × (d ≡ b) → ⊥) → IsBetween a b (Way c d) → ⊥
    back f g (inl e) = g (first c d a b e)
    back f g (inr e) = f (first c d b a e)

    second : ((c ≡ a) × (d ≡ b) → ⊥) → (c ≡ b) ⊎ (c ≡ b → ⊥) → (d ≡ a) ⊎ (d ≡ a → ⊥) → IsBetween a b (Way c d) ⊎ (IsBetween a b (Way c d) → ⊥)
    second f (inl x) (inl y) = inl (inr (ap (λ z. Way z d) x ∙ ap (λ z. Way b z) y))
    second f (inr x) y = inr (back (λ q. x q.0) f)
    second f (inl x) (inr y) = inr (back (λ q. y q.1) f)

    go : (c ≡ a) ⊎ (c ≡ a → ⊥) → (d ≡ b) ⊎ (d ≡ b → ⊥) → (c ≡ b) ⊎ (c ≡ b → ⊥) → (d ≡ a) ⊎ (d ≡ a → ⊥) → IsBetween a b (Way c d) ⊎ (IsBetween a b (Way c d) → ⊥)
    go (inl x) (inl y) z w = inl (inl (ap (λ q. Way q d) x ∙ ap (λ q. Way a q) y))
    go (inr x) y z w = second (λ q. x q.0) z w
    go (inl x) (inr y) z w = second (λ q. y q.1) z w

-- ---- notes

none_at : {A : Type 0} (front rest : List A) (n : A) → [] ≡ front ++ n ∷ rest → ⊥
none_at [] rest n e = cc
none_at (m ∷ front) rest n e = cc

module _ (script : Script) (honest : ℕ → Bool) (x y : World) (a b k : ℕ) (h : CutKeeps script honest x y a b) (links : y.links ≡ world.with_link world.severed_link b a (world.with_link world.severed_link a b x.links)) where
  was_found : (c d : ℕ) (l : Link) → link_at c d y.links ≡ Some l → ((n : Note Name) (front rest : List (Note Name)) → l.notes ≡ front ++ n ∷ rest → ⊥) ⊎ (link_at c d x.links ≡ Some l)
  unfolding world.severed_link
  was_found c d l e = go (comes b a c d (world.with_link world.severed_link a b x.links)) (comes a b c d x.links)
    where
      here : link_at c d (world.with_link world.severed_link b a (world.with_link world.severed_link a b x.links)) ≡ Some l
      here = subst (λ ls. link_at c d ls ≡ Some l) links e

      empty : (m : Link) → Some (world.severed_link m) ≡ Some l → (n : Note Name) (front rest : List (Note Name)) → l.notes ≡ front ++ n ∷ rest → ⊥
      empty m q n front rest f = let same : world.severed_link m ≡ l = cc in none_at front rest n (bare m ∙ ap (λ (z : Link). z.notes) same ∙ f)
        where
          bare : (m : Link) → [] ≡ (world.severed_link m).notes
          bare m = refl

      go : Comes b a c d (link_at c d (world.with_link world.severed_link a b x.links)) (link_at c d (world.with_link world.severed_link b a (world.with_link world.severed_link a b x.links)))
          → Comes a b c d (link_at c d x.links) (link_at c d (world.with_link world.severed_link a b x.links)) → ((n : Note Name) (front rest : List (Note Name)) → l.notes ≡ front ++ n ∷ rest → ⊥) ⊎ (link_at c d x.links ≡ Some l)
      go (severed m f g) r = inl (empty m (sym g ∙ here))
      go (as_it_was g) (severed m f i) = inl (empty m (sym i ∙ sym g ∙ here))
      go (as_it_was g) (as_it_was i) = inr (sym i ∙ sym g ∙ here)

  brought : (u v : ℕ) (front : List (Note Name)) (d : Delivery Name) (n : Name) (ys : Passeds Name) → Brings y u v front d n ys → WasBrought script honest x y u v front d n ys
  brought u v front d n ys r = go (was_found u v r.link r.found)
    where
      go : ((n : Note Name) (front rest : List (Note Name)) → r.link.notes ≡ front ++ n ∷ rest → ⊥) ⊎ (link_at u v x.links ≡ Some r.link) → WasBrought script honest x y u v front d n ys
      go (inl f) = absurd (f (Deliver d n r.verb ys) front r.rest r.notes)
      go (inr e) = record { before = front; brings = record { link = r.link; found = e; verb = r.verb; rest = r.rest; notes = r.notes }; behind = refl }

  stood : (m : Name) (l : Lane) (c : List Item) (n : Name) → StandsAt (ways script honest y) m l c n → StandsAt (ways script honest x) m l c n
  stood m l c n s = go (between_or a b l)
    where
      go : IsBetween a b l ⊎ (IsBetween a b l → ⊥) → StandsAt (ways script honest x) m l c n
      go (inl f) = absurd (none_at c s.behind (item m n) (sym (h.gone l f) ∙ s.found))
      go (inr f) = record { behind = s.behind; found = sym (h.apart l f) ∙ s.found }

  cut_rests : (es : List Event) → y.history ≡ x.history ++ es → AllQuiet es → Rests script honest x y
  cut_rests es lines quiet = record {
    told = es;
    lines = lines;
    quiet = quiet;
    leading = λ u n. inl (h.leading u (Ref n));
    references = λ u n c s. subst (Ahead (ways script honest y) c) (sym (h.leading u (Ref n))) ((h.places (leads script honest x.vats x.links u (Ref n))).1 c s);
    places = λ l c n m s. (h.places _).1 m s;
    stands = λ m l c n i. inl (stood m l c n i);
    holds = λ v p m c n i. stood m (Held v p) c n i;
    brought = brought;
  }

goes_is : (x y : World) → Goes x ≡ Goes y → x ≡ y
goes_is x y e = cc

pub cuts_are_tales : CutsAreTales
unfolding world.step world.cut counts
cuts_are_tales script honest x y a b k reached e =
    let same = goes_is _ y e in
    let es : List Event = world.CutAt k a b ∷ (world.lost_on script (link_at a b x.links) ++ world.lost_on script (link_at b a x.links)) in
    then_on (resting script honest x y (cut_rests script honest x y a b k (cuts_keep_in_runs script honest x y a b k reached e) (ap (λ (z : World). z.links) (sym same)) es (ap (λ (z : World). z.history) (sym same))
    (refl, quiet_both (world.lost_on script (link_at a b x.links)) (world.lost_on script (link_at b a x.links)) (lost_on_quiet script (link_at a b x.links)) (lost_on_quiet script (link_at b a x.links))))) over
