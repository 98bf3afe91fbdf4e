-- What a step of one vat makes of a world in which no list leads back to itself and notes tell truly.
use Rattle.std.proofs.Common.{◌≡◌, ℕ, zero, suc, Bool, true, false, List, [], ◌∷◌, ◌++◌, Option, Some, None, refl, sym, ap, subst, ◌∙◌, ◌⊎◌, inl, inr, ◌==◌}
use Rattle.std.specs.Prelude.{slice_get}
use Rattle.std.proofs.lemmas.Bool.{eqb-true}
use Rattle.def_machine.specs.Values.{Value, Ref, Name, Naming, naming, host_of}
use Rattle.def_machine.specs.State.{Unsettled, Settled, Known, Many, Note, Open, SettledTo, Put, Vat}
use Rattle.def_machine.specs.Refs.{entry_of, standing_of, standing_in}
use Rattle.law_machine.specs.Machine.Laws.{SettledStays}
use Rattle.def_run.specs.Wire.{Connected}
use Rattle.def_run.specs.World as world
use Rattle.def_run.specs.World.{Event, Link, World, Goes}
use Rattle.law_fate.specs.Name.Names.{AllOf, IsAmong, WasDrawn}
use Rattle.law_fate.proofs.Name.Facts.{all_end, all_map}
use Rattle.law_frozen.proofs.RunSound.{put_at_or}
use Rattle.law_reference.specs.Reference.ListRingless.{IsObjectName, IsView, Ringless, NoteTells, TellsSo, heeded}
use Rattle.law_reference.proofs.Reference.Kept.{note_stays}
use Rattle.law_reference.proofs.Reference.ViewRing.{names_more}

goes_is : (w x : World) → Goes w ≡ Goes x → w ≡ x
goes_is w x e = cc

open_value : (y : Value Name) → Unsettled ≡ Settled y → ⊥
open_value y e = cc

some_vat : (s t : Vat Name) → Some s ≡ Some t → s ≡ t
some_vat s t e = cc

-- ---- one vat of a list is put

pub put_here : (v : ℕ) (t s : Vat Name) (xs : List (Vat Name)) → slice_get xs v ≡ Some s → slice_get (world.put_at v t xs) v ≡ Some t
unfolding world.put_at
put_here v t s [] e = cc
put_here zero t s (x ∷ xs) e = refl
put_here (suc v) t s (x ∷ xs) e = put_here v t s xs e

get_or : (v : ℕ) (t : Vat Name) (xs : List (Vat Name)) (u : ℕ) (q : Vat Name) → slice_get xs u ≡ Some q → (slice_get (world.put_at v t xs) u ≡ Some q) ⊎ ((u ≡ v) × (slice_get (world.put_at v t xs) u ≡ Some t))
unfolding world.put_at
get_or v t [] u q e = cc
get_or zero t (x ∷ xs) zero q e = inr (refl, refl)
get_or zero t (x ∷ xs) (suc u) q e = inl e
get_or (suc v) t (x ∷ xs) zero q e = inl e
get_or (suc v) t (x ∷ xs) (suc u) q e = pick (get_or v t xs u q e)
  where
    pick : (slice_get (world.put_at v t xs) u ≡ Some q) ⊎ ((u ≡ v) × (slice_get (world.put_at v t xs) u ≡ Some t)) → (slice_get (world.put_at v t xs) u ≡ Some q) ⊎ ((suc u ≡ suc v) × (slice_get (world.put_at v t xs) u ≡ Some t))
    pick (inl i) = inl i
    pick (inr i) = inr (ap suc i.0, i.1)

-- ---- links

link_either : (a b : Bool) → elim a [ true ↦ b | false ↦ false ] ≡ true → (a ≡ true) × (b ≡ true)
link_either true b e = (refl, e)
link_either false b e = cc

pub link_ends : (v w : ℕ) (l : Link) → world.is_link v w l ≡ true → (l.from ≡ v) × (l.to ≡ w)
unfolding world.is_link
link_ends v w l e = let both = link_either (l.from == v) (l.to == w) e in (eqb-true l.from v both.0, eqb-true l.to w both.1)

with_head : (P : Link → Type 0) (b : Bool) (f l : Link) (ls rest : List Link) → P l → AllOf P ls → (b ≡ true → P f) → AllOf P rest → AllOf P (elim b [ true ↦ f ∷ ls | false ↦ l ∷ rest ])
with_head P true f l ls rest h i g k = (g refl, i)
with_head P false f l ls rest h i g k = (h, k)

pub with_link_all : (P : Link → Type 0) (f : Link → Link) (v w : ℕ) (ls : List Link) → ((l : Link) → l.from ≡ v → l.to ≡ w → P l → P (f l)) → AllOf P ls → AllOf P (world.with_link f v w ls)
unfolding world.with_link
with_link_all P f v w [] g h = tt
with_link_all P f v w (l ∷ ls) g h = with_head P (world.is_link v w l) (f l) l ls (world.with_link f v w ls) h.0 h.1 (λ e. let ends = link_ends v w l e in g l ends.0 ends.1 h.0) (with_link_all P f v w ls g h.1)

found_head : (P : Link → Type 0) (b : Bool) (l0 l : Link) (o : Option Link) → (b ≡ true → P l0) → ◌≡◌ {A = Option Link} (elim b [ true ↦ Some l0 | false ↦ o ]) (Some l) → (o ≡ Some l → P l) → P l
found_head P true l0 l o h e f = let same : l0 ≡ l = cc in subst P same (h refl)
found_head P false l0 l o h e f = f e

pub link_found : (v w : ℕ) (ls : List Link) (l : Link) → world.link_at v w ls ≡ Some l → (l.from ≡ v) × (l.to ≡ w)
unfolding world.link_at
link_found v w [] l e = cc
link_found v w (l0 ∷ ls) l e = found_head (λ j. (j.from ≡ v) × (j.to ≡ w)) (world.is_link v w l0) l0 l (world.link_at v w ls) (λ i. link_ends v w l0 i) e (λ i. link_found v w ls l i)

pub link_all : (P : Link → Type 0) (v w : ℕ) (ls : List Link) (l : Link) → AllOf P ls → world.link_at v w ls ≡ Some l → P l
unfolding world.link_at
link_all P v w [] l h e = cc
link_all P v w (l0 ∷ ls) l h e = found_head P (world.is_link v w l0) l0 l (world.link_at v w ls) (λ i. h.0) e (λ i. link_all P v w ls l h.1 i)

-- ---- the same under each naming

module _ (word : ℕ → ℕ) where
  abbrev pub K : ℕ → Naming Name Name
  K v = naming word v

  same_head : (b : Bool) (k : Known Name) (o p : Option (Known Name)) → o ≡ p → ◌≡◌ {A = Option (Known Name)} (elim b [ true ↦ Some k | false ↦ o ]) (elim b [ true ↦ Some k | false ↦ p ])
  same_head true k o p e = refl
  same_head false k o p e = e

  entry_any : (u v : ℕ) (ks : List (Known Name)) (n : Name) → entry_of (K u) ks n ≡ entry_of (K v) ks n
  unfolding entry_of naming
  entry_any u v [] n = refl
  entry_any u v (k ∷ ks) n = same_head ((K v).same k.name n) k (entry_of (K u) ks n) (entry_of (K v) ks n) (entry_any u v ks n)

  pub standing_any : (u v : ℕ) (ks : List (Known Name)) (n : Name) → standing_of (K u) ks n ≡ standing_of (K v) ks n
  unfolding standing_of
  standing_any u v ks n = ap standing_in (entry_any u v ks n)

  -- ---- what is true of a world

  -- the name settled at that vat to a name
  abbrev pub Objected : Name → Vat Name → Type 0
  Objected n t = (o : Name) × (standing_of (K zero) t.known n ≡ Settled (Ref o))

  -- it is of another vat, and settled there to a name
  abbrev pub Seen : List (Vat Name) → ℕ → Name → Type 0
  Seen vats v n = (host_of n ≡ v → ⊥) × ((t : Vat Name) × (slice_get vats (host_of n) ≡ Some t) × Objected n t)

  -- a note of vat u tells truly
  abbrev pub NoteTrue : (ℕ → Type 0) → List (Vat Name) → ℕ → Note Name → Type 0
  NoteTrue D vats u n = (t : Vat Name) × (slice_get vats u ≡ Some t) × NoteTells (K u) D t.known n

  abbrev pub LinkTrue : (ℕ → Type 0) → List (Vat Name) → Link → Type 0
  LinkTrue D vats l = (l.from ≡ l.to → ⊥) × AllOf (NoteTrue D vats l.from) l.notes

  pub record RingsBy (heed : Bool) (D : ℕ → Type 0) (w : World) : Type 0 where
    pub drawn : (i : ℕ) → (WasDrawn w.drawn i → ⊥) → D i → ⊥
    pub vats : (v : ℕ) (s : Vat Name) → slice_get w.vats v ≡ Some s → Ringless (K v) v D (Seen w.vats v) (heeded heed s) s
    pub links : AllOf (LinkTrue D w.vats) w.links

  pub record Rings (heed : Bool) (w : World) : Type 1 where
    pub views : ℕ → Type 0
    pub by : RingsBy heed views w

  -- what is opened under a draw is opened as a view only where it was
  abbrev pub OpenBack : (ℕ → Type 0) → (ℕ → Type 0) → Note Name → Type 0
  OpenBack D E (Open i n) = E i → D i
  OpenBack D E other = Unit {0}

  open_more : (D E : ℕ → Type 0) (i : ℕ) (n : Name) → (E i → D i) → IsObjectName n ⊎ (D i → ⊥) → IsObjectName n ⊎ (E i → ⊥)
  open_more D E i n f (inl o) = inl o
  open_more D E i n f (inr g) = inr (λ e. g (f e))

  note_more : (u : ℕ) (D E : ℕ → Type 0) (ks : List (Known Name)) (n : Note Name) → OpenBack D E n → NoteTells (K u) D ks n → NoteTells (K u) E ks n
  note_more u D E ks (Open i n) f h = open_more D E i n f h
  note_more u D E ks (SettledTo n (Many ys)) f h = h
  note_more u D E ks other f h = h

  seen_more : (v : ℕ) (D : ℕ → Type 0) (A B : Name → Type 0) (hs : List ℕ) (s : Vat Name) → ((n : Name) → A n → B n) → Ringless (K v) v D A hs s → Ringless (K v) v D B hs s
  seen_more v D A B hs s f h = record { number = h.number; names = record { here = h.names.here; spared = h.names.spared; far = h.names.far; seen = λ n g e. f n (h.names.seen n g e); waits = h.names.waits; settled = h.names.settled; held = h.names.held; eventual = h.names.eventual }; none = h.none; queue = h.queue; gifts = h.gifts }

  views_more : (v : ℕ) (D E : ℕ → Type 0) (A : Name → Type 0) (hs : List ℕ) (s : Vat Name) → ((n : Name) → IsView D n → IsView E n) → ((n p : Name) (k : Known Name) → entry_of (K v) s.known p ≡ Some k → IsAmong n k.waiting → IsView E n → IsView D n)
      → ((n : Name) (y : Value Name) → standing_of (K v) s.known n ≡ Settled y → IsView E n → IsView D n) → Ringless (K v) v D A hs s → Ringless (K v) v E A hs s
  views_more v D E A hs s into waits settled h = record { number = h.number; names = names_more word v true D A E s.known hs into waits settled h.names; none = h.none; queue = h.queue; gifts = h.gifts }

  entry_head : (o : Option (Known Name)) (y : Value Name) → standing_in o ≡ Settled y → (k : Known Name) × (o ≡ Some k) × (k.standing ≡ Settled y)
  unfolding standing_in
  entry_head None y e = absurd (open_value y e)
  entry_head (Some k) y e = (k, refl, e)

  -- ---- a step of vat v

  module _ (heed : Bool) (w : World) (v : ℕ) (s r t : Vat Name) (D E : ℕ → Type 0) (there : slice_get w.vats v ≡ Some s) (same : r.known ≡ s.known) (stays : SettledStays (K v) r t) where
    abbrev Vats : List (Vat Name)
    Vats = world.put_at v t w.vats

    settled_found : (n : Name) (y : Value Name) → (k : Known Name) × (entry_of (K v) s.known n ≡ Some k) × (k.standing ≡ Settled y) → standing_of (K v) t.known n ≡ Settled y
    unfolding standing_of standing_in
    settled_found n y h = ap standing_in (stays n h.0 y (ap (λ ks. entry_of (K v) ks n) same ∙ h.1) h.2) ∙ h.2

    known_stays : (n : Name) (y : Value Name) → standing_of (K v) s.known n ≡ Settled y → standing_of (K v) t.known n ≡ Settled y
    unfolding standing_of
    known_stays n y e = settled_found n y (entry_head (entry_of (K v) s.known n) y e)

    object_stays : (n : Name) → Objected n s → Objected n t
    object_stays n h = (h.0, standing_any zero v t.known n ∙ known_stays n (Ref h.0) (standing_any v zero s.known n ∙ h.1))

    seen_get : (n : Name) (u : ℕ) (q : Vat Name) → slice_get w.vats u ≡ Some q → Objected n q → (slice_get Vats u ≡ Some q) ⊎ ((u ≡ v) × (slice_get Vats u ≡ Some t)) → (x : Vat Name) × (slice_get Vats u ≡ Some x) × Objected n x
    seen_get n u q e h (inl i) = (q, i, h)
    seen_get n u q e h (inr i) = (t, i.1, object_stays n (subst (λ x. Objected n x) (some_vat q s (sym e ∙ ap (λ m. slice_get w.vats m) i.0 ∙ there)) h))

    seen_on : (u : ℕ) (n : Name) → Seen w.vats u n → Seen Vats u n
    seen_on u n h = (h.0, seen_get n (host_of n) h.1.0 h.1.1 h.1.2 (get_or v t w.vats (host_of n) h.1.0 h.1.1))

    note_get : (u : ℕ) (q : Vat Name) (n : Note Name) → OpenBack D E n → slice_get w.vats u ≡ Some q → NoteTells (K u) D q.known n → (slice_get Vats u ≡ Some q) ⊎ ((u ≡ v) × (slice_get Vats u ≡ Some t)) → NoteTrue E Vats u n
    note_get u q n f e h (inl i) = (q, i, note_more u D E q.known n f h)
    note_get u q n f e h (inr i) = (
      t,
      i.1,
      subst (λ m. NoteTells (K m) E t.known n) (sym i.0) (note_more v D E t.known n f (note_stays word v heed D (λ m. ⊥) s.known t.known known_stays n
          (subst (λ (x : Vat Name). NoteTells (K v) D x.known n) (some_vat q s (sym e ∙ ap (λ m. slice_get w.vats m) i.0 ∙ there)) (subst (λ m. NoteTells (K m) D q.known n) i.0 h)))),
    )

    note_on : (u : ℕ) (n : Note Name) → OpenBack D E n → NoteTrue D w.vats u n → NoteTrue E Vats u n
    note_on u n f h = note_get u h.0 n f h.1 h.2 (get_or v t w.vats u h.0 h.1)

    notes_on : (u : ℕ) (ns : List (Note Name)) → AllOf (OpenBack D E) ns → AllOf (NoteTrue D w.vats u) ns → AllOf (NoteTrue E Vats u) ns
    notes_on u [] f h = tt
    notes_on u (n ∷ ns) f h = (note_on u n f.0 h.0, notes_on u ns f.1 h.1)

    links_on : (ls : List Link) → AllOf (λ (l : Link). AllOf (OpenBack D E) l.notes) ls → AllOf (LinkTrue D w.vats) ls → AllOf (LinkTrue E Vats) ls
    links_on [] f h = tt
    links_on (l ∷ ls) f h = ((h.0.0, notes_on l.from l.notes f.0 h.0.1), links_on ls f.1 h.1)

    pushed_true : (n : Note Name) (l : Link) → NoteTrue E Vats l.from n → LinkTrue E Vats l → LinkTrue E Vats (world.pushed n l)
    unfolding world.pushed
    pushed_true n l h i = either l.cut
      where
        either : (b : Bool) → LinkTrue E Vats (elim b [ true ↦ record l { log = l.log ++ n ∷ [] } | false ↦ record l { notes = l.notes ++ n ∷ []; log = l.log ++ n ∷ [] } ])
        either true = i
        either false = (i.0, all_end (NoteTrue E Vats l.from) l.notes n i.1 h)

    push_true : (ps : List (Put Name)) (ls : List Link) → AllOf (λ (p : Put Name). NoteTrue E Vats v p.note) ps → AllOf (LinkTrue E Vats) ls → AllOf (LinkTrue E Vats) (world.push_all v ps ls)
    unfolding world.push_all
    push_true [] ls h i = i
    push_true (p ∷ ps) ls h i = push_true ps (world.with_link (world.pushed p.note) v p.to ls) h.1 (with_link_all (LinkTrue E Vats) (world.pushed p.note) v p.to ls (λ l e f k. pushed_true p.note l (subst (λ m. NoteTrue E Vats m p.note) (sym e) h.0) k) i)

    module _ (into : (n : Name) → IsView D n → IsView E n) (waits : (u : ℕ) (q : Vat Name) → slice_get w.vats u ≡ Some q → (n p : Name) (k : Known Name) → entry_of (K u) q.known p ≡ Some k → IsAmong n k.waiting → IsView E n → IsView D n)
        (settled : (u : ℕ) (q : Vat Name) → slice_get w.vats u ≡ Some q → (n : Name) (y : Value Name) → standing_of (K u) q.known n ≡ Settled y → IsView E n → IsView D n) (ring : Ringless (K v) v E (Seen w.vats v) (heeded heed t) t) (tells : TellsSo (K v) E t) where
      vat_or : (u : ℕ) (q : Vat Name) → ((u : ℕ) (q : Vat Name) → slice_get w.vats u ≡ Some q → Ringless (K u) u D (Seen w.vats u) (heeded heed q) q) → ((u ≡ v) × (t ≡ q)) ⊎ (slice_get w.vats u ≡ Some q) → Ringless (K u) u E (Seen Vats u) (heeded heed q) q
      vat_or u q h (inl e) = subst (λ m. Ringless (K m) m E (Seen Vats m) (heeded heed q) q) (sym e.0) (subst (λ x. Ringless (K v) v E (Seen Vats v) (heeded heed x) x) e.1 (seen_more v E (Seen w.vats v) (Seen Vats v) (heeded heed t) t (seen_on v) ring))
      vat_or u q h (inr e) = seen_more u E (Seen w.vats u) (Seen Vats u) (heeded heed q) q (seen_on u) (views_more u D E (Seen w.vats u) (heeded heed q) q into (waits u q e) (settled u q e) (h u q e))

      abbrev pub Next : List Link → List Connected → List Event → World
      Next ls cs history = record { fuel = t.fuel; drawn = t.drawn; vats = Vats; links = world.push_all v t.outbox ls; connections = cs; history = history }

      -- the world after it
      pub next_rings : (ls : List Link) (cs : List Connected) (history : List Event) → AllOf (λ (l : Link). AllOf (OpenBack D E) l.notes) ls → AllOf (LinkTrue D w.vats) ls → ((u : ℕ) (q : Vat Name) → slice_get w.vats u ≡ Some q → Ringless (K u) u D (Seen w.vats u) (heeded heed q) q) → RingsBy heed E (Next ls cs history)
      next_rings ls cs history back links vats = record {
        drawn = tells.0;
        vats = λ u q e. vat_or u q vats (put_at_or v t w.vats u q e);
        links = push_true t.outbox ls (all_map {P = λ (p : Put Name). NoteTells (K v) E t.known p.note} {Q = λ (p : Put Name). NoteTrue E Vats v p.note} (λ p h. (t, put_here v t s w.vats there, h)) t.outbox tells.1) (links_on ls back links);
      }
