-- A note that does not let go the gifts of one draw, put on a link: what stands there grows, and those gifts are where they were.
use Rattle.std.proofs.Common.{◌≡◌, ℕ, Bool, true, false, List, [], ◌∷◌, ◌++◌, Option, Some, None, refl, sym, ap, subst, ◌∙◌, inl, inr}
use Rattle.std.specs.Prelude.{◌==◌, ◌&&◌, ◌||◌}
use Rattle.def_machine.specs.Values.{Name}
use Rattle.def_machine.specs.State.{Note, Deliver, Open, Ask, SettledTo, Elsewhere, Shorten}
use Rattle.def_run.specs.World.{Link}
use Rattle.def_run.specs.World as world
use Rattle.law_order.specs.Ordering.Ways.{Lane, Way, Item, Place}
use Rattle.law_order.specs.Ordering.Turns.{Within}
use Rattle.law_order.specs.Ordering.Places.{delivered, opens, shortens, subject, in_lane, note_place, any_note, first_place, is_honest, open_place, shorten_place, was_put, or_never, gift_place}
use Rattle.law_order.proofs.Ordering.Sends.{pushed_shut, pushed_open}

-- it lets no gift of that draw go
abbrev pub Spares : ℕ → Note Name → Type 0
Spares i n = (opens i n ≡ false) × ((g : ℕ) → shortens g i n ≡ false)

-- a test that holds of no such note
abbrev pub IsTest : ℕ → (Note Name → Bool) → Type 0
IsTest i f = (n : Note Name) → Spares i n → f n ≡ false

pub opens_test : (i : ℕ) → IsTest i (opens i)
opens_test i n h = h.0

pub shortens_test : (g i : ℕ) → IsTest i (shortens g i)
shortens_test g i n h = h.1 g

place_more : (f : Note Name → Bool) (l : Lane) (b : List Item) (ns : List (Note Name)) (n : Note Name) → f n ≡ false → note_place f l b (ns ++ n ∷ []) ≡ note_place f l b ns
unfolding note_place
place_more f l b [] n e = subst (λ c. elim c [ true ↦ in_lane l b (subject n) | false ↦ None ] ≡ None) (sym e) refl
place_more f l b (m ∷ ns) n e = ap (λ q. elim (f m) [ true ↦ in_lane l b (subject m) | false ↦ q ]) (place_more f l (b ++ delivered (m ∷ [])) ns n e)

any_more : (f : Note Name → Bool) (ns : List (Note Name)) (n : Note Name) → f n ≡ false → any_note f (ns ++ n ∷ []) ≡ any_note f ns
unfolding any_note
any_more f [] n e = subst (λ c. (c || false) ≡ false) (sym e) refl
any_more f (m ∷ ns) n e = ap (λ q. f m || q) (any_more f ns n e)

delivered_more : (ns : List (Note Name)) (n : Note Name) → Within (delivered ns) (delivered (ns ++ n ∷ []))
unfolding delivered
delivered_more [] n i h = absurd h
delivered_more (Deliver a b c d ∷ ns) n i (inl e) = inl e
delivered_more (Deliver a b c d ∷ ns) n i (inr h) = inr (delivered_more ns n i h)
delivered_more (Open j a ∷ ns) n i h = delivered_more ns n i h
delivered_more (Ask p j a ∷ ns) n i h = delivered_more ns n i h
delivered_more (SettledTo a y ∷ ns) n i h = delivered_more ns n i h
delivered_more (Elsewhere a c ∷ ns) n i h = delivered_more ns n i h
delivered_more (Shorten a c j ∷ ns) n i h = delivered_more ns n i h

-- ---- one link, and all

pub record LinkGrows (i : ℕ) (l k : Link) : Type 0 where
  pub from : k.from ≡ l.from
  pub to : k.to ≡ l.to
  pub cut : k.cut ≡ l.cut
  pub stands : Within (delivered l.notes) (delivered k.notes)
  pub places : (f : Note Name → Bool) → IsTest i f → (a : Lane) → note_place f a [] k.notes ≡ note_place f a [] l.notes
  pub logs : (f : Note Name → Bool) → IsTest i f → any_note f k.log ≡ any_note f l.log

same_link : (i : ℕ) (l : Link) → LinkGrows i l l
same_link i l = record { from = refl; to = refl; cut = refl; stands = λ i h. h; places = λ f t a. refl; logs = λ f t. refl }

grows_shut : (i : ℕ) (n : Note Name) (l : Link) → Spares i n → LinkGrows i l (record l { log = l.log ++ n ∷ [] })
grows_shut i n l h = record { from = refl; to = refl; cut = refl; stands = λ i j. j; places = λ f t a. refl; logs = λ f t. any_more f l.log n (t n h) }

grows_open : (i : ℕ) (n : Note Name) (l : Link) → Spares i n → LinkGrows i l (record l { notes = l.notes ++ n ∷ []; log = l.log ++ n ∷ [] })
grows_open i n l h = record { from = refl; to = refl; cut = refl; stands = delivered_more l.notes n; places = λ f t a. place_more f a [] l.notes n (t n h); logs = λ f t. any_more f l.log n (t n h) }

link_grows : (i : ℕ) (b : Bool) (n : Note Name) (l : Link) → l.cut ≡ b → Spares i n → LinkGrows i l (world.pushed n l)
link_grows i true n l e h = subst (LinkGrows i l) (sym (pushed_shut n l e)) (grows_shut i n l h)
link_grows i false n l e h = subst (LinkGrows i l) (sym (pushed_open n l e)) (grows_open i n l h)

abbrev pub AllGrow : ℕ → List Link → List Link → Type 0
AllGrow i [] [] = Unit {0}
AllGrow i (l ∷ ls) (k ∷ ks) = LinkGrows i l k × AllGrow i ls ks
AllGrow i other another = ⊥

pub all_same : (i : ℕ) (ls : List Link) → AllGrow i ls ls
all_same i [] = tt
all_same i (l ∷ ls) = (same_link i l, all_same i ls)

pub with_grows : (i : ℕ) (n : Note Name) (v h : ℕ) (ls : List Link) → Spares i n → AllGrow i ls (world.with_link (world.pushed n) v h ls)
unfolding world.with_link
with_grows i n v h [] j = tt
with_grows i n v h (l ∷ ls) j = go (with_grows i n v h ls j) (world.is_link v h l)
  where
    go : AllGrow i ls (world.with_link (world.pushed n) v h ls) → (b : Bool) → AllGrow i (l ∷ ls) (elim b [ true ↦ world.pushed n l ∷ ls | false ↦ l ∷ world.with_link (world.pushed n) v h ls ])
    go f true = (link_grows i l.cut n l refl j, all_same i ls)
    go f false = (same_link i l, f)

-- ---- links that are found

abbrev pub LinkAlike : ℕ → Option Link → Option Link → Type 0
LinkAlike i None None = Unit {0}
LinkAlike i (Some l) (Some k) = LinkGrows i l k
LinkAlike i other another = ⊥

ends_alike : (i a b : ℕ) (l k : Link) → LinkGrows i l k → world.is_link a b k ≡ world.is_link a b l
unfolding world.is_link
ends_alike i a b l k g = ap (λ x. elim (x == a) [ true ↦ k.to == b | false ↦ false ]) g.from ∙ ap (λ x. elim (l.from == a) [ true ↦ x == b | false ↦ false ]) g.to

pub link_alike : (i a b : ℕ) (ls ks : List Link) → AllGrow i ls ks → LinkAlike i (world.link_at a b ls) (world.link_at a b ks)
unfolding world.link_at
link_alike i a b [] [] g = tt
link_alike i a b (l ∷ ls) (k ∷ ks) g = subst (λ c. LinkAlike i (elim (world.is_link a b l) [ true ↦ Some l | false ↦ world.link_at a b ls ]) (elim c [ true ↦ Some k | false ↦ world.link_at a b ks ])) (sym (ends_alike i a b l k g.0)) (go (link_alike i a b ls ks g.1) (world.is_link a b l))
  where
    go : LinkAlike i (world.link_at a b ls) (world.link_at a b ks) → (c : Bool) → LinkAlike i (elim c [ true ↦ Some l | false ↦ world.link_at a b ls ]) (elim c [ true ↦ Some k | false ↦ world.link_at a b ks ])
    go f true = g.0
    go f false = f
link_alike i a b other another g = absurd g

-- ---- gifts

module _ (script : world.Script) (honest : ℕ → Bool) where
  abbrev Opening : ℕ → ℕ → ℕ → Option Place → Option Place → Option Place
  Opening h a b c rest = elim ((honest a && honest b) && (b == h)) [ true ↦ first_place c rest | false ↦ rest ]

  open_more : (h i : ℕ) (ls ks : List Link) → AllGrow i ls ks → open_place script honest h i ks ≡ open_place script honest h i ls
  unfolding open_place is_honest
  open_more h i [] [] g = refl
  open_more h i (l ∷ ls) (k ∷ ks) g =
      ap (λ a. Opening h a k.to (note_place (opens i) (Way a k.to) [] k.notes) (open_place script honest h i ks)) g.0.from
      ∙ ap (λ b. Opening h l.from b (note_place (opens i) (Way l.from b) [] k.notes) (open_place script honest h i ks)) g.0.to
      ∙ ap (λ c. Opening h l.from l.to c (open_place script honest h i ks)) (g.0.places (opens i) (opens_test i) (Way l.from l.to))
      ∙ ap (λ r. Opening h l.from l.to (note_place (opens i) (Way l.from l.to) [] l.notes) r) (open_more h i ls ks g.1)
  open_more h i other another g = absurd g

  abbrev Shortening : ℕ → ℕ → Option Place → Option Place → Option Place
  Shortening a b c rest = elim (honest a && honest b) [ true ↦ first_place c rest | false ↦ rest ]

  shorten_more : (h i : ℕ) (ls ks : List Link) → AllGrow i ls ks → shorten_place script honest h i ks ≡ shorten_place script honest h i ls
  unfolding shorten_place is_honest
  shorten_more h i [] [] g = refl
  shorten_more h i (l ∷ ls) (k ∷ ks) g =
      ap (λ a. Shortening a k.to (note_place (shortens h i) (Way a k.to) [] k.notes) (shorten_place script honest h i ks)) g.0.from
      ∙ ap (λ b. Shortening l.from b (note_place (shortens h i) (Way l.from b) [] k.notes) (shorten_place script honest h i ks)) g.0.to
      ∙ ap (λ c. Shortening l.from l.to c (shorten_place script honest h i ks)) (g.0.places (shortens h i) (shortens_test h i) (Way l.from l.to))
      ∙ ap (λ r. Shortening l.from l.to (note_place (shortens h i) (Way l.from l.to) [] l.notes) r) (shorten_more h i ls ks g.1)
  shorten_more h i other another g = absurd g

  abbrev Logged : ℕ → ℕ → ℕ → Bool → Bool → Bool → Bool
  Logged h a b c d rest = ((honest a && honest b) && (((b == h) && c) || d)) || rest

  put_more : (h i : ℕ) (ls ks : List Link) → AllGrow i ls ks → was_put script honest h i ks ≡ was_put script honest h i ls
  unfolding was_put is_honest
  put_more h i [] [] g = refl
  put_more h i (l ∷ ls) (k ∷ ks) g =
      ap (λ a. Logged h a k.to (any_note (opens i) k.log) (any_note (shortens h i) k.log) (was_put script honest h i ks)) g.0.from
      ∙ ap (λ b. Logged h l.from b (any_note (opens i) k.log) (any_note (shortens h i) k.log) (was_put script honest h i ks)) g.0.to
      ∙ ap (λ c. Logged h l.from l.to c (any_note (shortens h i) k.log) (was_put script honest h i ks)) (g.0.logs (opens i) (opens_test i))
      ∙ ap (λ c. Logged h l.from l.to (any_note (opens i) l.log) c (was_put script honest h i ks)) (g.0.logs (shortens h i) (shortens_test h i))
      ∙ ap (λ r. Logged h l.from l.to (any_note (opens i) l.log) (any_note (shortens h i) l.log) r) (put_more h i ls ks g.1)
  put_more h i other another g = absurd g

  pub gift_more : (h i : ℕ) (ls ks : List Link) → AllGrow i ls ks → gift_place script honest h i ks ≡ gift_place script honest h i ls
  unfolding gift_place
  gift_more h i ls ks g =
      ap (λ a. or_never script honest a (first_place (open_place script honest h i ks) (shorten_place script honest h i ks))) (put_more h i ls ks g)
      ∙ ap (λ a. or_never script honest (was_put script honest h i ls) (first_place a (shorten_place script honest h i ks))) (open_more h i ls ks g)
      ∙ ap (λ a. or_never script honest (was_put script honest h i ls) (first_place (open_place script honest h i ls) a)) (shorten_more h i ls ks g)
