-- What notes are under way as more are put.
use Rattle.std.proofs.Common.{◌≡◌, ℕ, Bool, true, false, List, [], ◌∷◌, ◌++◌, Some, refl, sym, ap, subst, ◌∙◌, ◌⊎◌, inl, inr, ◌&&◌}
use Rattle.def_machine.specs.Values.{Words, Name}
use Rattle.def_machine.specs.State.{Passeds, Delivery, Note, Deliver, Put}
use Rattle.def_run.specs.World as world
use Rattle.def_run.specs.World.{Script, Link, World}
use Rattle.law_fate.specs.Name.Names.{AllOf}
use Rattle.law_order.specs.Ordering.Ways.{Item}
use Rattle.law_order.specs.Ordering.Places.{delivered, is_honest}
use Rattle.law_order.proofs.Ordering.Sends.{pushed_shut, pushed_open, pushed_ends, link_here, link_behind, found_ends}
use Rattle.law_order.proofs.Ordering.Standing.{IsQuiet, OnLink, Row, row_still, delivered_append}
use Rattle.law_order.specs.History.Befores.{Brings}
use Rattle.law_order.proofs.History.Lines.{last_or, some_is}

-- a deliver note on one of these links, behind those notes
pub record On (ls : List Link) (u g : ℕ) (front : List (Note Name)) (d : Delivery Name) (n : Name) (ys : Passeds Name) : Type 0 where
  pub link : Link
  pub found : world.link_at u g ls ≡ Some link
  pub verb : Words
  pub rest : List (Note Name)
  pub notes : link.notes ≡ front ++ Deliver d n verb ys ∷ rest

pub on_of : (w : World) (u g : ℕ) (front : List (Note Name)) (d : Delivery Name) (n : Name) (ys : Passeds Name) → Brings w u g front d n ys → On w.links u g front d n ys
on_of w u g front d n ys b = record { link = b.link; found = b.found; verb = b.verb; rest = b.rest; notes = b.notes }

pub of_on : (w : World) (u g : ℕ) (front : List (Note Name)) (d : Delivery Name) (n : Name) (ys : Passeds Name) → On w.links u g front d n ys → Brings w u g front d n ys
of_on w u g front d n ys b = record { link = b.link; found = b.found; verb = b.verb; rest = b.rest; notes = b.notes }

-- it is the note that was put, the last of its link
pub record IsPut (ls : List Link) (v h : ℕ) (note : Note Name) (u g : ℕ) (front : List (Note Name)) (d : Delivery Name) (n : Name) (ys : Passeds Name) : Type 0 where
  pub from : u ≡ v
  pub to : g ≡ h
  pub verb : Words
  pub is : Deliver d n verb ys ≡ note
  pub link : Link
  pub found : world.link_at u g ls ≡ Some link
  pub uncut : link.cut ≡ false
  pub front_is : front ≡ link.notes

module _ (v h : ℕ) (note : Note Name) (a b : ℕ) where
  data Pushed (ls : List Link) (l : Link) : Type 0 where
    as_it_was : world.link_at a b ls ≡ Some l → Pushed ls l
    one_more : (k : Link) → a ≡ v → b ≡ h → world.link_at a b ls ≡ Some k → l ≡ world.pushed note k → Pushed ls l

  ends : (k : Link) → world.is_link a b k ≡ true → world.is_link v h k ≡ true → (a ≡ v) × (b ≡ h)
  ends k e f = let x = found_ends a b (k ∷ []) k (link_here a b k [] e) in let y = found_ends v h (k ∷ []) k (link_here v h k [] f) in (sym x.0 ∙ y.0, sym x.1 ∙ y.1)

  pushed_at : (ls : List Link) (l : Link) → world.link_at a b (world.with_link (world.pushed note) v h ls) ≡ Some l → Pushed ls l
  unfolding world.with_link
  pushed_at [] l e = as_it_was e
  pushed_at (k ∷ ls) l e = go (world.is_link a b k) (world.is_link v h k) refl refl (pushed_at ls l) e
    where
      further : world.is_link a b k ≡ false → Pushed ls l → Pushed (k ∷ ls) l
      further i (as_it_was f) = as_it_was (link_behind a b k ls i ∙ f)
      further i (one_more j x y f g) = one_more j x y (link_behind a b k ls i ∙ f) g

      go : (c d : Bool) → world.is_link a b k ≡ c → world.is_link v h k ≡ d → (world.link_at a b (world.with_link (world.pushed note) v h ls) ≡ Some l → Pushed ls l)
          → world.link_at a b (elim d [ true ↦ world.pushed note k ∷ ls | false ↦ k ∷ world.with_link (world.pushed note) v h ls ]) ≡ Some l → Pushed (k ∷ ls) l
      go true true i j f q = let x = ends k i j in one_more k x.0 x.1 (link_here a b k ls i) (sym (some_is (world.pushed note k) l (sym (link_here a b (world.pushed note k) ls (pushed_ends k.cut note k a b refl ∙ i)) ∙ q)))
      go true false i j f q = as_it_was (link_here a b k ls i ∙ sym (link_here a b k (world.with_link (world.pushed note) v h ls) i) ∙ q)
      go false true i j f q = as_it_was (link_behind a b k ls i ∙ sym (link_behind a b (world.pushed note k) ls (pushed_ends k.cut note k a b refl ∙ i)) ∙ q)
      go false false i j f q = further i (f (sym (link_behind a b k (world.with_link (world.pushed note) v h ls) i) ∙ q))

  module _ (ls : List Link) (front : List (Note Name)) (d : Delivery Name) (n : Name) (ys : Passeds Name) where
    grew : (verb : Words) (rest : List (Note Name)) (k : Link) (c : Bool) → k.cut ≡ c → a ≡ v → b ≡ h → world.link_at a b ls ≡ Some k → (world.pushed note k).notes ≡ front ++ Deliver d n verb ys ∷ rest → On ls a b front d n ys ⊎ IsPut ls v h note a b front d n ys
    grew verb rest k true e x y f q = inl (record { link = k; found = f; verb = verb; rest = rest; notes = sym (ap (λ (l : Link). l.notes) (pushed_shut note k e)) ∙ q })
    grew verb rest k false e x y f q = elim (last_or k.notes front note (Deliver d n verb ys) rest (sym (ap (λ (l : Link). l.notes) (pushed_open note k e)) ∙ q)) [
      | inl r ↦ inl (record { link = k; found = f; verb = verb; rest = r.0; notes = r.1 })
      | inr r ↦ inr (record { from = x; to = y; verb = verb; is = r.same; link = k; found = f; uncut = e; front_is = r.front })
    ]

    pub on_back : On (world.with_link (world.pushed note) v h ls) a b front d n ys → On ls a b front d n ys ⊎ IsPut ls v h note a b front d n ys
    on_back o = go (pushed_at ls o.link o.found)
      where
        go : Pushed ls o.link → On ls a b front d n ys ⊎ IsPut ls v h note a b front d n ys
        go (as_it_was e) = inl (record { link = o.link; found = e; verb = o.verb; rest = o.rest; notes = o.notes })
        go (one_more k x y e f) = grew o.verb o.rest k k.cut refl x y e (sym (ap (λ (l : Link). l.notes) f) ∙ o.notes)

    silent_back : IsQuiet note → On (world.with_link (world.pushed note) v h ls) a b front d n ys → On ls a b front d n ys
    unfolding delivered
    silent_back q o = elim (on_back o) [ inl r ↦ r | inr r ↦ absurd (let e : delivered (Deliver d n r.verb ys ∷ []) ≡ [] = subst (λ m. delivered (m ∷ []) ≡ []) (sym r.is) q in cc) ]

pub on_back_all : (v : ℕ) (ps : List (Put Name)) → AllOf (λ p. IsQuiet p.note) ps → (ls : List Link) (u g : ℕ) (front : List (Note Name)) (d : Delivery Name) (n : Name) (ys : Passeds Name) → On (world.push_all v ps ls) u g front d n ys → On ls u g front d n ys
unfolding world.push_all
on_back_all v [] q ls u g front d n ys o = o
on_back_all v (p ∷ ps) q ls u g front d n ys o = silent_back v p.to p.note u g ls front d n ys q.0 (on_back_all v ps q.1 (world.with_link (world.pushed p.note) v p.to ls) u g front d n ys o)

-- ---- what stands on links

module _ (script : Script) (honest : ℕ → Bool) (everyone : (u : ℕ) → honest u ≡ true) where
  pub all_honest : (l : Link) → is_honest script honest l ≡ true
  unfolding is_honest
  all_honest l = ap (λ b. b && honest l.to) (everyone l.from) ∙ everyone l.to

  pub on_link : (l : Link) → OnLink script honest l ≡ delivered l.notes
  on_link l = ap (λ b. elim b [ true ↦ delivered l.notes | false ↦ [] ]) (all_honest l)

  -- more came to the end of a link by that note, if that link is the one on which it was put
  pub data RowGrew (v h : ℕ) (note : Note Name) (a b : ℕ) (before after : List Item) : Type 0 where
    row_same : after ≡ before → RowGrew v h note a b before after
    row_more : a ≡ v → b ≡ h → after ≡ before ++ delivered (note ∷ []) → RowGrew v h note a b before after

  pub rows_still : (a b v : ℕ) (ps : List (Put Name)) → AllOf (λ p. IsQuiet p.note) ps → (ls : List Link) → Row script honest (world.link_at a b (world.push_all v ps ls)) ≡ Row script honest (world.link_at a b ls)
  unfolding world.push_all
  rows_still a b v [] q ls = refl
  rows_still a b v (p ∷ ps) q ls = rows_still a b v ps q.1 (world.with_link (world.pushed p.note) v p.to ls) ∙ row_still script honest a b v p.to p.note q.0 ls

  module _ (v h : ℕ) (note : Note Name) (a b : ℕ) where
    link_grew : (k : Link) (c : Bool) → k.cut ≡ c → a ≡ v → b ≡ h → RowGrew v h note a b (OnLink script honest k) (OnLink script honest (world.pushed note k))
    link_grew k true e x y = row_same (on_link (world.pushed note k) ∙ ap (λ (l : Link). delivered l.notes) (pushed_shut note k e) ∙ sym (on_link k))
    link_grew k false e x y = row_more x y (on_link (world.pushed note k) ∙ ap (λ (l : Link). delivered l.notes) (pushed_open note k e) ∙ delivered_append k.notes (note ∷ []) ∙ ap (λ js. js ++ delivered (note ∷ [])) (sym (on_link k)))

    pub row_grew : (ls : List Link) → RowGrew v h note a b (Row script honest (world.link_at a b ls)) (Row script honest (world.link_at a b (world.with_link (world.pushed note) v h ls)))
    unfolding world.with_link
    row_grew [] = row_same refl
    row_grew (k ∷ ls) = go (world.is_link a b k) (world.is_link v h k) refl refl (row_grew ls)
      where
        R : List Link → List Item
        R ms = Row script honest (world.link_at a b ms)

        G : List Item → List Item → Type 0
        G = RowGrew v h note a b

        move : (c d e f : List Item) → c ≡ e → d ≡ f → G c d → G e f
        move c d e f i j g = subst (λ x. G x f) i (subst (λ x. G c x) j g)

        go : (c d : Bool) → world.is_link a b k ≡ c → world.is_link v h k ≡ d → G (R ls) (R (world.with_link (world.pushed note) v h ls)) → G (R (k ∷ ls)) (R (elim d [ true ↦ world.pushed note k ∷ ls | false ↦ k ∷ world.with_link (world.pushed note) v h ls ]))
        go true true i j g = let x = ends v h note a b k i j in move (OnLink script honest k) (OnLink script honest (world.pushed note k)) (R (k ∷ ls)) (R (world.pushed note k ∷ ls)) (sym (ap (Row script honest) (link_here a b k ls i))) (sym (ap (Row script honest) (link_here a b (world.pushed note k) ls (pushed_ends k.cut note k a b refl ∙ i)))) (link_grew k k.cut refl x.0 x.1)
        go true false i j g = row_same (ap (Row script honest) (link_here a b k (world.with_link (world.pushed note) v h ls) i ∙ sym (link_here a b k ls i)))
        go false true i j g = row_same (ap (Row script honest) (link_behind a b (world.pushed note k) ls (pushed_ends k.cut note k a b refl ∙ i) ∙ sym (link_behind a b k ls i)))
        go false false i j g = move (R ls) (R (world.with_link (world.pushed note) v h ls)) (R (k ∷ ls)) (R (k ∷ world.with_link (world.pushed note) v h ls)) (sym (ap (Row script honest) (link_behind a b k ls i))) (sym (ap (Row script honest) (link_behind a b k (world.with_link (world.pushed note) v h ls) i))) g
