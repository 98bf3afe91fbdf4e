-- Notes that let no gift go, put on links: what stands there grows, and nothing leads elsewhere.
use Rattle.std.proofs.Common.{◌≡◌, ℕ, Bool, true, false, List, [], ◌∷◌, ◌++◌, Option, None, refl, sym, ap, subst, ◌∙◌, inl, inr}
use Rattle.std.specs.Prelude.{◌==◌, ◌&&◌, ◌||◌}
use Rattle.def_machine.specs.Values.{Name}
use Rattle.def_machine.specs.State.{Note, Deliver, Open, Ask, SettledTo, Elsewhere, Shorten, Put}
use Rattle.def_run.specs.World.{Link}
use Rattle.def_run.specs.World as world
use Rattle.law_order.specs.Ordering.Ways.{Lane, Way, Item, Place, IsIn}
use Rattle.law_order.specs.Ordering.Turns.{Within}
use Rattle.law_order.specs.Ordering.Places.{delivered, opens, shortens, subject, in_lane, note_place, any_note, first_place, is_honest, open_place, shorten_place, was_put, or_never, gift_place}
use Rattle.law_order.specs.Ordering.Growing.{IsTest, LinkGrows, AllGrow}
use Rattle.law_order.specs.Ordering.Worlds.{LetsNothingGo, NothingGoes}
use Rattle.law_order.proofs.Ordering.Sends.{pushed_shut, pushed_open}

pub opens_test : (i : ℕ) → IsTest (opens i)
unfolding opens
opens_test i (Open j n) h = absurd h
opens_test i other h = refl

pub shortens_test : (g i : ℕ) → IsTest (shortens g i)
unfolding shortens
shortens_test g i (Shorten n c j) h = absurd h
shortens_test g i other h = refl

pub place_more : (f : Note Name → Bool) (l : Lane) (b : List Item) (ns : List (Note Name)) (n : Note Name) → f n ≡ false → note_place f l b (ns ++ n ∷ []) ≡ note_place f l b ns
unfolding note_place
place_more f l b [] n e = subst (λ c. elim c [ true ↦ in_lane l b (subject n) | false ↦ None ] ≡ None) (sym e) refl
place_more f l b (m ∷ ns) n e = ap (λ q. elim (f m) [ true ↦ in_lane l b (subject m) | false ↦ q ]) (place_more f l (b ++ delivered (m ∷ [])) ns n e)

pub any_more : (f : Note Name → Bool) (ns : List (Note Name)) (n : Note Name) → f n ≡ false → any_note f (ns ++ n ∷ []) ≡ any_note f ns
unfolding any_note
any_more f [] n e = subst (λ c. (c || false) ≡ false) (sym e) refl
any_more f (m ∷ ns) n e = ap (λ q. f m || q) (any_more f ns n e)

pub delivered_more : (ns : List (Note Name)) (n : Note Name) → Within (delivered ns) (delivered (ns ++ n ∷ []))
unfolding delivered
delivered_more [] n i h = absurd h
delivered_more (Deliver a b c d ∷ ns) n i (inl e) = inl e
delivered_more (Deliver a b c d ∷ ns) n i (inr h) = inr (delivered_more ns n i h)
delivered_more (Open j a ∷ ns) n i h = delivered_more ns n i h
delivered_more (Ask p j a ∷ ns) n i h = delivered_more ns n i h
delivered_more (SettledTo a y ∷ ns) n i h = delivered_more ns n i h
delivered_more (Elsewhere a c ∷ ns) n i h = delivered_more ns n i h
delivered_more (Shorten a c j ∷ ns) n i h = delivered_more ns n i h

-- what more comes to the end of leaves none out
pub within_more : (a b js : List Item) → b ≡ a ++ js → Within a b
within_more a b js e = λ i h. subst (IsIn i) (sym e) (left i a h)
  where
    left : (i : Item) (ks : List Item) → IsIn i ks → IsIn i (ks ++ js)
    left i [] h = absurd h
    left i (k ∷ ks) (inl q) = inl q
    left i (k ∷ ks) (inr h) = inr (left i ks h)

-- ---- one link, and all

same_link : (l : Link) → LinkGrows l l
same_link l = record { from = refl; to = refl; cut = refl; stands = λ i h. h; places = λ f t a. refl; logs = λ f t. refl }

grows_shut : (n : Note Name) (l : Link) → LetsNothingGo n → LinkGrows l (record l { log = l.log ++ n ∷ [] })
grows_shut n l h = record { from = refl; to = refl; cut = refl; stands = λ i j. j; places = λ f t a. refl; logs = λ f t. any_more f l.log n (t n h) }

grows_open : (n : Note Name) (l : Link) → LetsNothingGo n → LinkGrows l (record l { notes = l.notes ++ n ∷ []; log = l.log ++ n ∷ [] })
grows_open n l h = record { from = refl; to = refl; cut = refl; stands = delivered_more l.notes n; places = λ f t a. place_more f a [] l.notes n (t n h); logs = λ f t. any_more f l.log n (t n h) }

link_grows : (b : Bool) (n : Note Name) (l : Link) → l.cut ≡ b → LetsNothingGo n → LinkGrows l (world.pushed n l)
link_grows true n l e h = subst (LinkGrows l) (sym (pushed_shut n l e)) (grows_shut n l h)
link_grows false n l e h = subst (LinkGrows l) (sym (pushed_open n l e)) (grows_open n l h)

then_grows : (l k j : Link) → LinkGrows l k → LinkGrows k j → LinkGrows l j
then_grows l k j a b = record {
  from = b.from ∙ a.from;
  to = b.to ∙ a.to;
  cut = b.cut ∙ a.cut;
  stands = λ i h. b.stands i (a.stands i h);
  places = λ f t c. b.places f t c ∙ a.places f t c;
  logs = λ f t. b.logs f t ∙ a.logs f t;
}

pub all_same : (ls : List Link) → AllGrow ls ls
all_same [] = tt
all_same (l ∷ ls) = (same_link l, all_same ls)

all_then : (ls ks js : List Link) → AllGrow ls ks → AllGrow ks js → AllGrow ls js
all_then [] [] [] a b = tt
all_then [] (k ∷ ks) js a b = absurd a
all_then (l ∷ ls) [] js a b = absurd a
all_then (l ∷ ls) (k ∷ ks) (j ∷ js) a b = (then_grows l k j a.0 b.0, all_then ls ks js a.1 b.1)
all_then other another further a b = absurd b

with_grows : (n : Note Name) (v h : ℕ) (ls : List Link) → LetsNothingGo n → AllGrow ls (world.with_link (world.pushed n) v h ls)
unfolding world.with_link
with_grows n v h [] i = tt
with_grows n v h (l ∷ ls) i = go (with_grows n v h ls i) (world.is_link v h l)
  where
    go : AllGrow ls (world.with_link (world.pushed n) v h ls) → (b : Bool) → AllGrow (l ∷ ls) (elim b [ true ↦ world.pushed n l ∷ ls | false ↦ l ∷ world.with_link (world.pushed n) v h ls ])
    go f true = (link_grows l.cut n l refl i, all_same ls)
    go f false = (same_link l, f)

pub push_grows : (v : ℕ) (ps : List (Put Name)) (ls : List Link) → NothingGoes ps → AllGrow ls (world.push_all v ps ls)
unfolding world.push_all
push_grows v [] ls i = all_same ls
push_grows v (p ∷ ps) ls i = all_then ls (world.with_link (world.pushed p.note) v p.to ls) (world.push_all v ps (world.with_link (world.pushed p.note) v p.to ls)) (with_grows p.note v p.to ls i.0) (push_grows v ps (world.with_link (world.pushed p.note) v p.to ls) i.1)

pub push_append : (v : ℕ) (ps qs : List (Put Name)) (ls : List Link) → world.push_all v (ps ++ qs) ls ≡ world.push_all v qs (world.push_all v ps ls)
unfolding world.push_all
push_append v [] qs ls = refl
push_append v (p ∷ ps) qs ls = push_append v ps qs (world.with_link (world.pushed p.note) v p.to ls)

-- ---- gifts

module _ (script : world.Script) (honest : ℕ → Bool) where
  abbrev Opening : ℕ → ℕ → ℕ → Option Place → Option Place → Option Place
  Opening h a b c rest = elim ((honest a && honest b) && (b == h)) [ true ↦ first_place c rest | false ↦ rest ]

  open_more : (h i : ℕ) (ls ks : List Link) → AllGrow ls ks → open_place script honest h i ks ≡ open_place script honest h i ls
  unfolding open_place is_honest
  open_more h i [] [] g = refl
  open_more h i (l ∷ ls) (k ∷ ks) g =
      ap (λ a. Opening h a k.to (note_place (opens i) (Way a k.to) [] k.notes) (open_place script honest h i ks)) g.0.from
      ∙ ap (λ b. Opening h l.from b (note_place (opens i) (Way l.from b) [] k.notes) (open_place script honest h i ks)) g.0.to
      ∙ ap (λ c. Opening h l.from l.to c (open_place script honest h i ks)) (g.0.places (opens i) (opens_test i) (Way l.from l.to))
      ∙ ap (λ r. Opening h l.from l.to (note_place (opens i) (Way l.from l.to) [] l.notes) r) (open_more h i ls ks g.1)
  open_more h i other another g = absurd g

  abbrev Shortening : ℕ → ℕ → Option Place → Option Place → Option Place
  Shortening a b c rest = elim (honest a && honest b) [ true ↦ first_place c rest | false ↦ rest ]

  shorten_more : (h i : ℕ) (ls ks : List Link) → AllGrow ls ks → shorten_place script honest h i ks ≡ shorten_place script honest h i ls
  unfolding shorten_place is_honest
  shorten_more h i [] [] g = refl
  shorten_more h i (l ∷ ls) (k ∷ ks) g =
      ap (λ a. Shortening a k.to (note_place (shortens h i) (Way a k.to) [] k.notes) (shorten_place script honest h i ks)) g.0.from
      ∙ ap (λ b. Shortening l.from b (note_place (shortens h i) (Way l.from b) [] k.notes) (shorten_place script honest h i ks)) g.0.to
      ∙ ap (λ c. Shortening l.from l.to c (shorten_place script honest h i ks)) (g.0.places (shortens h i) (shortens_test h i) (Way l.from l.to))
      ∙ ap (λ r. Shortening l.from l.to (note_place (shortens h i) (Way l.from l.to) [] l.notes) r) (shorten_more h i ls ks g.1)
  shorten_more h i other another g = absurd g

  abbrev Logged : ℕ → ℕ → ℕ → Bool → Bool → Bool → Bool
  Logged h a b c d rest = ((honest a && honest b) && (((b == h) && c) || d)) || rest

  put_more : (h i : ℕ) (ls ks : List Link) → AllGrow ls ks → was_put script honest h i ks ≡ was_put script honest h i ls
  unfolding was_put is_honest
  put_more h i [] [] g = refl
  put_more h i (l ∷ ls) (k ∷ ks) g =
      ap (λ a. Logged h a k.to (any_note (opens i) k.log) (any_note (shortens h i) k.log) (was_put script honest h i ks)) g.0.from
      ∙ ap (λ b. Logged h l.from b (any_note (opens i) k.log) (any_note (shortens h i) k.log) (was_put script honest h i ks)) g.0.to
      ∙ ap (λ c. Logged h l.from l.to c (any_note (shortens h i) k.log) (was_put script honest h i ks)) (g.0.logs (opens i) (opens_test i))
      ∙ ap (λ c. Logged h l.from l.to (any_note (opens i) l.log) c (was_put script honest h i ks)) (g.0.logs (shortens h i) (shortens_test h i))
      ∙ ap (λ r. Logged h l.from l.to (any_note (opens i) l.log) (any_note (shortens h i) l.log) r) (put_more h i ls ks g.1)
  put_more h i other another g = absurd g

  pub gift_more : (h i : ℕ) (ls ks : List Link) → AllGrow ls ks → gift_place script honest h i ks ≡ gift_place script honest h i ls
  unfolding gift_place
  gift_more h i ls ks g =
      ap (λ a. or_never script honest a (first_place (open_place script honest h i ks) (shorten_place script honest h i ks))) (put_more h i ls ks g)
      ∙ ap (λ a. or_never script honest (was_put script honest h i ls) (first_place a (shorten_place script honest h i ks))) (open_more h i ls ks g)
      ∙ ap (λ a. or_never script honest (was_put script honest h i ls) (first_place (open_place script honest h i ls) a)) (shorten_more h i ls ks g)
