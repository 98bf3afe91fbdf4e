-- Ways among others, and the links that they mirror.
use Rattle.std.proofs.Common.{◌≡◌, ℕ, Bool, true, false, List, [], ◌∷◌, Option, Some, None, refl, sym, ap, ◌∙◌, subst, ◌⊎◌, inl, inr, map}
use Rattle.std.specs.Prelude.{option_map, ◌==◌}
use Rattle.std.proofs.lemmas.Bool.{eqb-true}
use Rattle.def_machine.specs.Values.{Name, Local}
use Rattle.def_machine.specs.State.{Happened, Posted}
use Rattle.def_run.specs.World.{Link, Event, LostCut, link_at, with_link, is_link, is_cut, cut_in, event_of, events_of}
use Rattle.law_fate.specs.Name.Names.{AllOf}
use Rattle.law_frame.proofs.Frame.Places.{same_or}
use Rattle.def_machine.specs.Maps as maps
use Rattle.def_run.specs.Numbers.{Way, way_at, with_way, is_way, link_of, lines_of}
use Rattle.law_frame.specs.Local.Mirrors.{WayMirrors, WaysMirror}

taken : {A : Type 0} (c : Bool) (x y : A) → c ≡ true → ◌≡◌ {A = A} (elim c [ true ↦ x | false ↦ y ]) x
taken true x y e = refl
taken false x y e = cc

left : {A : Type 0} (c : Bool) (x y : A) → c ≡ false → ◌≡◌ {A = A} (elim c [ true ↦ x | false ↦ y ]) y
left false x y e = refl
left true x y e = cc

key_or : (x y v u : ℕ) (s t : Bool) → (x == v) ≡ s → (y == u) ≡ t → elim s [ true ↦ t | false ↦ false ] ≡ true → (x ≡ v) × (y ≡ u)
key_or x y v u true true e f g = (eqb-true x v e, eqb-true y u f)
key_or x y v u true false e f g = cc
key_or x y v u false t e f g = cc

not_or : (x y v u : ℕ) (s t : Bool) → (x == v) ≡ s → (y == u) ≡ t → (x ≡ v → y ≡ u → ⊥) → elim s [ true ↦ t | false ↦ false ] ≡ false
not_or x y v u true true e f n = absurd (n (eqb-true x v e) (eqb-true y u f))
not_or x y v u true false e f n = refl
not_or x y v u false t e f n = refl

-- the ends of a way
pub way_is : (a b : ℕ) (x : Way) → is_way a b x ≡ true → (x.from ≡ a) × (x.to ≡ b)
unfolding is_way
way_is a b x e = key_or x.from x.to a b (x.from == a) (x.to == b) refl refl e

-- what holds of each way holds of the one that is found, which has these ends
found_or : (P : Way → Type 0) (v u : ℕ) (y : Way) (o : Option Way) (x : Way) (b : Bool) → is_way v u y ≡ b → P y → (o ≡ Some x → P x × (x.from ≡ v) × (x.to ≡ u)) → elim b [ true ↦ Some y | false ↦ o ] ≡ Some x → P x × (x.from ≡ v) × (x.to ≡ u)
found_or P v u y o x true i h k e = let j : y ≡ x = cc in (let w = way_is v u y i in subst (λ (z : Way). P z × (z.from ≡ v) × (z.to ≡ u)) j (h, w.0, w.1))
found_or P v u y o x false i h k e = k e

pub way_found : (P : Way → Type 0) (v u : ℕ) (xs : List Way) (x : Way) → AllOf P xs → way_at v u xs ≡ Some x → P x × (x.from ≡ v) × (x.to ≡ u)
unfolding way_at
way_found P v u [] x h e = cc
way_found P v u (y ∷ ys) x h e = found_or P v u y (way_at v u ys) x (is_way v u y) refl h.0 (way_found P v u ys x h.1) e

-- ---- one way changed

module _ (f : Way → Way) (from : (x : Way) → (f x).from ≡ x.from) (to : (x : Way) → (f x).to ≡ x.to) where
  way_key : (v u : ℕ) (x : Way) → is_way v u (f x) ≡ is_way v u x
  unfolding is_way
  way_key v u x = rw (from x, to x) refl

  way_here : (v u : ℕ) (x : Way) (xs : List Way) (b : Bool) → is_way v u x ≡ b → way_at v u (with_way f v u xs) ≡ option_map f (way_at v u xs)
      → way_at v u (elim b [ true ↦ f x ∷ xs | false ↦ x ∷ with_way f v u xs ]) ≡ option_map f (elim b [ true ↦ Some x | false ↦ way_at v u xs ])
  unfolding way_at
  way_here v u x xs true e h = taken (is_way v u (f x)) (Some (f x)) (way_at v u xs) (way_key v u x ∙ e)
  way_here v u x xs false e h = left (is_way v u x) (Some x) (way_at v u (with_way f v u xs)) e ∙ h

  pub way_same : (v u : ℕ) (xs : List Way) → way_at v u (with_way f v u xs) ≡ option_map f (way_at v u xs)
  unfolding way_at with_way
  way_same v u [] = refl
  way_same v u (x ∷ xs) = way_here v u x xs (is_way v u x) refl (way_same v u xs)

  way_not : (a b v u : ℕ) (x : Way) → (a ≡ v → b ≡ u → ⊥) → is_way a b x ≡ true → is_way v u x ≡ false
  unfolding is_way
  way_not a b v u x n e = let k = way_is a b x e in not_or x.from x.to v u (x.from == v) (x.to == u) refl refl (λ i j. n (sym k.0 ∙ i) (sym k.1 ∙ j))

  way_there : (a b v u : ℕ) (x : Way) (xs : List Way) (t : Bool) → (a ≡ v → b ≡ u → ⊥) → is_way a b x ≡ t → way_at v u (with_way f a b xs) ≡ way_at v u xs
      → way_at v u (elim t [ true ↦ f x ∷ xs | false ↦ x ∷ with_way f a b xs ]) ≡ elim (is_way v u x) [ true ↦ Some x | false ↦ way_at v u xs ]
  unfolding way_at
  way_there a b v u x xs true n e h = left (is_way v u (f x)) (Some (f x)) (way_at v u xs) (way_key v u x ∙ way_not a b v u x n e) ∙ sym (left (is_way v u x) (Some x) (way_at v u xs) (way_not a b v u x n e))
  way_there a b v u x xs false n e h = ap (λ (o : Option Way). elim (is_way v u x) [ true ↦ Some x | false ↦ o ]) h

  pub way_other : (a b v u : ℕ) (xs : List Way) → (a ≡ v → b ≡ u → ⊥) → way_at v u (with_way f a b xs) ≡ way_at v u xs
  unfolding way_at with_way
  way_other a b v u [] n = refl
  way_other a b v u (x ∷ xs) n = way_there a b v u x xs (is_way a b x) n refl (way_other a b v u xs n)

  -- what stands there after it
  abbrev pub Came : ℕ → ℕ → ℕ → ℕ → List Way → Way → Type 0
  Came a b v u xs x = ((a ≡ v) × (b ≡ u) × ((y : Way) × (way_at v u xs ≡ Some y) × (x ≡ f y))) ⊎ ((a ≡ v → b ≡ u → ⊥) × (way_at v u xs ≡ Some x))

  mapped_is : (o : Option Way) (x : Way) → option_map f o ≡ Some x → (y : Way) × (o ≡ Some y) × (x ≡ f y)
  mapped_is (Some y) x e = let i : f y ≡ x = cc in (y, refl, sym i)
  mapped_is None x e = cc

  pub way_came : (a b v u : ℕ) (xs : List Way) (x : Way) → way_at v u (with_way f a b xs) ≡ Some x → Came a b v u xs x
  way_came a b v u xs x e = by (same_or a b v u)
    where
      by : ((a ≡ v) × (b ≡ u)) ⊎ (a ≡ v → b ≡ u → ⊥) → Came a b v u xs x
      by (inl h) = inl (h.0, h.1, mapped_is (way_at v u xs) x (sym (way_same v u xs) ∙ (ap (λ (k : ℕ). way_at v u (with_way f v k xs)) (sym h.1) ∙ (ap (λ (k : ℕ). way_at v u (with_way f k b xs)) (sym h.0) ∙ e))))
      by (inr n) = inr (n, sym (way_other a b v u xs n) ∙ e)

-- ---- ways and links

-- what stands on both sides
abbrev pub MayMirror : Option Link → Option Way → Type 0
MayMirror None None = Unit {0}
MayMirror (Some l) (Some x) = WayMirrors l x
MayMirror (Some l) None = ⊥
MayMirror None (Some x) = ⊥

key_mirrors : (v u : ℕ) (l : Link) (x : Way) → WayMirrors l x → is_way v u x ≡ is_link v u l
unfolding is_way is_link
key_mirrors v u l x h = rw (h.from, h.to) refl

at_or : (a b : Bool) (l : Link) (x : Way) (o : Option Link) (p : Option Way) → b ≡ a → WayMirrors l x → MayMirror o p → MayMirror (elim a [ true ↦ Some l | false ↦ o ]) (elim b [ true ↦ Some x | false ↦ p ])
at_or true true l x o p e h k = h
at_or false false l x o p e h k = k
at_or true false l x o p e h k = cc
at_or false true l x o p e h k = cc

pub at_mirrors : (v u : ℕ) (ls : List Link) (xs : List Way) → WaysMirror ls xs → MayMirror (link_at v u ls) (way_at v u xs)
unfolding link_at way_at
at_mirrors v u [] [] h = tt
at_mirrors v u (l ∷ ls) (x ∷ xs) h = at_or (is_link v u l) (is_way v u x) l x (link_at v u ls) (way_at v u xs) (key_mirrors v u l x h.0) h.0 (at_mirrors v u ls xs h.1)
at_mirrors v u [] (x ∷ xs) h = absurd h
at_mirrors v u (l ∷ ls) [] h = absurd h

with_or : (a b : Bool) (l m : Link) (x y : Way) (ls ms : List Link) (xs ys : List Way) → b ≡ a → WayMirrors l x → WayMirrors m y → WaysMirror ls xs → WaysMirror ms ys
    → WaysMirror (elim a [ true ↦ m ∷ ls | false ↦ l ∷ ms ]) (elim b [ true ↦ y ∷ xs | false ↦ x ∷ ys ])
with_or true true l m x y ls ms xs ys e h k i j = (k, i)
with_or false false l m x y ls ms xs ys e h k i j = (h, j)
with_or true false l m x y ls ms xs ys e h k i j = cc
with_or false true l m x y ls ms xs ys e h k i j = cc

-- both changed alike
pub with_mirrors : (f : Link → Link) (g : Way → Way) → ((l : Link) (x : Way) → WayMirrors l x → WayMirrors (f l) (g x)) → (v u : ℕ) (ls : List Link) (xs : List Way) → WaysMirror ls xs → WaysMirror (with_link f v u ls) (with_way g v u xs)
unfolding with_link with_way
with_mirrors f g k v u [] [] h = tt
with_mirrors f g k v u (l ∷ ls) (x ∷ xs) h = with_or (is_link v u l) (is_way v u x) l (f l) x (g x) ls (with_link f v u ls) xs (with_way g v u xs) (key_mirrors v u l x h.0) h.0 (k l x h.0) h.1 (with_mirrors f g k v u ls xs h.1)
with_mirrors f g k v u [] (x ∷ xs) h = absurd h
with_mirrors f g k v u (l ∷ ls) [] h = absurd h

-- ---- lines

cut_or : (v u : ℕ) (b : Bool) (l m : Link) (o p : Option Link) → m.cut ≡ l.cut → cut_in p ≡ cut_in o → cut_in (elim b [ true ↦ Some m | false ↦ p ]) ≡ cut_in (elim b [ true ↦ Some l | false ↦ o ])
unfolding cut_in
cut_or v u true l m o p e h = e
cut_or v u false l m o p e h = h

link_key : (v u : ℕ) (l : Link) (x : Way) → WayMirrors l x → is_link v u (link_of x) ≡ is_link v u l
unfolding is_link link_of
link_key v u l x h = rw (h.from, h.to) refl

cut_of : (l : Link) (x : Way) → WayMirrors l x → (link_of x).cut ≡ l.cut
unfolding link_of
cut_of l x h = h.cut

pub same_cut : (v u : ℕ) (ls : List Link) (xs : List Way) → WaysMirror ls xs → is_cut v u (map link_of xs) ≡ is_cut v u ls
unfolding is_cut link_at cut_in
same_cut v u [] [] h = refl
same_cut v u (l ∷ ls) (x ∷ xs) h = ap (λ (b : Bool). cut_in (elim b [ true ↦ Some (link_of x) | false ↦ link_at v u (map link_of xs) ])) (link_key v u l x h.0) ∙ cut_or v u (is_link v u l) l (link_of x) (link_at v u ls) (link_at v u (map link_of xs)) (cut_of l x h.0) (same_cut v u ls xs h.1)
same_cut v u [] (x ∷ xs) h = absurd h
same_cut v u (l ∷ ls) [] h = absurd h

-- a message lost, or nothing
abbrev lost_or : Name → Bool → List Event
lost_or m b = elim b [ true ↦ LostCut m ∷ [] | false ↦ [] ]

event_same : (ls ms : List Link) (v : ℕ) → ((u : ℕ) → is_cut v u ms ≡ is_cut v u ls) → (e : Happened Name) → event_of ms v e ≡ event_of ls v e
unfolding event_of
event_same ls ms v h (Posted u m) = ap (λ (b : Bool). lost_or m b) (h u)
event_same ls ms v h _ = refl

events_same : (ls ms : List Link) (v : ℕ) → ((u : ℕ) → is_cut v u ms ≡ is_cut v u ls) → (es : List (Happened Name)) → events_of ms v es ≡ events_of ls v es
unfolding events_of
events_same ls ms v h [] = refl
events_same ls ms v h (e ∷ es) = rw (event_same ls ms v h e, events_same ls ms v h es) refl

-- the lines of a step, from what happened in numbers
pub lines_same : (ls : List Link) (xs : List Way) → WaysMirror ls xs → (u : ℕ) (f : Local → Name) (es : List (Happened Local)) → lines_of xs u f es ≡ events_of ls u (map (maps.line f) es)
unfolding lines_of
lines_same ls xs h u f es = events_same ls (map link_of xs) u (λ v. same_cut u v ls xs h) (map (maps.line f) es)
