-- A note that lets nothing go may as well be put on its link after notes that deliver nothing and let nothing go there, and after notes on other links.
use Rattle.std.proofs.Common.{◌≡◌, ℕ, Bool, true, false, List, [], ◌∷◌, ◌++◌, Option, refl, sym, ap, subst, ◌∙◌, append_assoc, ◌||◌, ◌==◌}
use Rattle.std.proofs.lemmas.List.{append-nil}
use Rattle.def_machine.specs.Values.{Name}
use Rattle.def_machine.specs.State.{Note, Deliver, Open, Ask, SettledTo, Elsewhere, Shorten, Put}
use Rattle.def_run.specs.World as world
use Rattle.def_run.specs.World.{Link, push_all, with_link, pushed}
use Rattle.law_fate.specs.Name.Names.{AllOf}
use Rattle.law_order.specs.Ordering.Ways.{Lane, Item, Place, Mid}
use Rattle.law_order.specs.Ordering.Arrivals.{IsSilent}
use Rattle.law_order.specs.Ordering.Places.{delivered, subject, in_lane, note_place, any_note, first_place}
use Rattle.law_order.specs.Ordering.Worlds.{LetsNothingGo}
use Rattle.law_order.specs.Ordering.Growing.{IsTest, LinkGrows, AllGrow}
use Rattle.law_order.proofs.Ordering.Pushing.{place_more, any_more}
use Rattle.law_order.proofs.Ordering.Sends.{pushed_shut, pushed_open, pushed_ends, found_ends, link_here}
use Rattle.law_order.proofs.Ordering.Standing.{delivered_append}
use Rattle.law_order.specs.MessageTales.Reorder.{IsAside, LatePutsGrow}

-- ---- the place of a note, as one more is put

silent_lets_nothing : (n : Note Name) → IsSilent n → LetsNothingGo n
silent_lets_nothing (Deliver m t verb ys) h = absurd h
silent_lets_nothing (Open i t) h = absurd h
silent_lets_nothing (Shorten t c i) h = absurd h
silent_lets_nothing other h = tt

silent_bare : (n : Note Name) → IsSilent n → delivered (n ∷ []) ≡ []
unfolding delivered
silent_bare (Deliver m t verb ys) h = absurd h
silent_bare (Open i t) h = absurd h
silent_bare (Shorten t c i) h = absurd h
silent_bare other h = refl

-- a note by which a test holds has a place
tested_place : (f : Note Name → Bool) → IsTest f → (l : Lane) (b : List Item) (n : Note Name) (o : Option Place) → f n ≡ true → in_lane l b (subject n) ≡ first_place (in_lane l b (subject n)) o
unfolding in_lane subject first_place
tested_place f t l b (Open i n) o e = refl
tested_place f t l b (Shorten n c i) o e = refl
tested_place f t l b (Deliver m n verb ys) o e = absurd (let x : f (Deliver m n verb ys) ≡ false = t (Deliver m n verb ys) tt in cc)
tested_place f t l b (Ask p i n) o e = absurd (let x : f (Ask p i n) ≡ false = t (Ask p i n) tt in cc)
tested_place f t l b (SettledTo n y) o e = absurd (let x : f (SettledTo n y) ≡ false = t (SettledTo n y) tt in cc)
tested_place f t l b (Elsewhere n c) o e = absurd (let x : f (Elsewhere n c) ≡ false = t (Elsewhere n c) tt in cc)

front_more : (b : List Item) (n : Note Name) (ns : List (Note Name)) → (b ++ delivered (n ∷ [])) ++ delivered ns ≡ b ++ delivered (n ∷ ns)
front_more b n ns = append_assoc b (delivered (n ∷ [])) (delivered ns) ∙ ap (λ js. b ++ js) (sym (delivered_append (n ∷ []) ns))

none_behind : (b : List Item) → b ++ delivered [] ≡ b
unfolding delivered
none_behind b = append-nil b

place_end : (f : Note Name → Bool) → IsTest f → (l : Lane) (b : List Item) (ns : List (Note Name)) (n : Note Name) → note_place f l b (ns ++ n ∷ []) ≡ first_place (note_place f l b ns) (note_place f l (b ++ delivered ns) (n ∷ []))
unfolding note_place first_place
place_end f t l b [] n = ap (λ js. note_place f l js (n ∷ [])) (sym (none_behind b))
place_end f t l b (m ∷ ns) n = go (f m) refl (place_end f t l (b ++ delivered (m ∷ [])) ns n)
  where
    go : (c : Bool) → f m ≡ c → note_place f l (b ++ delivered (m ∷ [])) (ns ++ n ∷ []) ≡ first_place (note_place f l (b ++ delivered (m ∷ [])) ns) (note_place f l ((b ++ delivered (m ∷ [])) ++ delivered ns) (n ∷ []))
        → elim c [ true ↦ in_lane l b (subject m) | false ↦ note_place f l (b ++ delivered (m ∷ [])) (ns ++ n ∷ []) ] ≡ first_place (elim c [ true ↦ in_lane l b (subject m) | false ↦ note_place f l (b ++ delivered (m ∷ [])) ns ]) (note_place f l (b ++ delivered (m ∷ ns)) (n ∷ []))
    go true e h = tested_place f t l b m (note_place f l (b ++ delivered (m ∷ ns)) (n ∷ [])) e
    go false e h = h ∙ ap (λ js. first_place (note_place f l (b ++ delivered (m ∷ [])) ns) (note_place f l js (n ∷ []))) (front_more b m ns)

any_end : (f : Note Name → Bool) (ns : List (Note Name)) (n : Note Name) → any_note f (ns ++ n ∷ []) ≡ (any_note f ns || any_note f (n ∷ []))
unfolding any_note
any_end f [] n = refl
any_end f (m ∷ ns) n = go (f m) (any_note f (ns ++ n ∷ [])) (any_note f ns) (any_note f (n ∷ [])) (any_end f ns n)
  where
    go : (a b c d : Bool) → b ≡ (c || d) → (a || b) ≡ ((a || c) || d)
    go true b c d e = refl
    go false b c d e = e

-- ---- links on which the same stands, and the same is let go

record Alike (l k : Link) : Type 0 where
  from : k.from ≡ l.from
  to : k.to ≡ l.to
  cut : k.cut ≡ l.cut
  stands : delivered k.notes ≡ delivered l.notes
  places : (f : Note Name → Bool) → IsTest f → (a : Lane) → note_place f a [] k.notes ≡ note_place f a [] l.notes
  logs : (f : Note Name → Bool) → IsTest f → any_note f k.log ≡ any_note f l.log

alike_self : (l : Link) → Alike l l
alike_self l = record { from = refl; to = refl; cut = refl; stands = refl; places = λ f t a. refl; logs = λ f t. refl }

alike_then : (l k j : Link) → Alike l k → Alike k j → Alike l j
alike_then l k j a b = record { from = b.from ∙ a.from; to = b.to ∙ a.to; cut = b.cut ∙ a.cut; stands = b.stands ∙ a.stands; places = λ f t c. b.places f t c ∙ a.places f t c; logs = λ f t. b.logs f t ∙ a.logs f t }

alike_grows : (l k : Link) → Alike l k → LinkGrows l k
alike_grows l k a = record { from = a.from; to = a.to; cut = a.cut; stands = λ i h. subst (λ js. Rattle.law_order.specs.Ordering.Ways.IsIn i js) (sym a.stands) h; places = a.places; logs = a.logs }

-- a link with one note more
abbrev More : Note Name → Link → Link
More n l = record l { notes = l.notes ++ n ∷ []; log = l.log ++ n ∷ [] }

abbrev Logged : Note Name → Link → Link
Logged n l = record l { log = l.log ++ n ∷ [] }

more_alike : (n : Note Name) (l k : Link) → Alike l k → Alike (More n l) (More n k)
more_alike n l k a = record {
  from = a.from;
  to = a.to;
  cut = a.cut;
  stands = delivered_append k.notes (n ∷ []) ∙ ap (λ js. js ++ delivered (n ∷ [])) a.stands ∙ sym (delivered_append l.notes (n ∷ []));
  places = λ f t b. place_end f t b [] k.notes n ∙ ap (λ o. first_place o (note_place f b (delivered k.notes) (n ∷ []))) (a.places f t b) ∙ ap (λ js. first_place (note_place f b [] l.notes) (note_place f b js (n ∷ []))) a.stands ∙ sym (place_end f t b [] l.notes n);
  logs = λ f t. any_end f k.log n ∙ ap (λ c. c || any_note f (n ∷ [])) (a.logs f t) ∙ sym (any_end f l.log n);
}

logged_alike : (n : Note Name) (l k : Link) → Alike l k → Alike (Logged n l) (Logged n k)
logged_alike n l k a = record { from = a.from; to = a.to; cut = a.cut; stands = a.stands; places = a.places; logs = λ f t. any_end f k.log n ∙ ap (λ c. c || any_note f (n ∷ [])) (a.logs f t) ∙ sym (any_end f l.log n) }

pushed_alike : (n : Note Name) (l k : Link) → Alike l k → Alike (pushed n l) (pushed n k)
pushed_alike n l k a = go l.cut refl
  where
    go : (c : Bool) → l.cut ≡ c → Alike (pushed n l) (pushed n k)
    go true e = subst (λ z. Alike z (pushed n k)) (sym (pushed_shut n l e)) (subst (λ z. Alike (Logged n l) z) (sym (pushed_shut n k (a.cut ∙ e))) (logged_alike n l k a))
    go false e = subst (λ z. Alike z (pushed n k)) (sym (pushed_open n l e)) (subst (λ z. Alike (More n l) z) (sym (pushed_open n k (a.cut ∙ e))) (more_alike n l k a))

-- two notes that let nothing go, of which the one is silent, in either order
module _ (n p : Note Name) (lets : LetsNothingGo n) (silent : IsSilent p) where
  abbrev both : (f : Note Name → Bool) → IsTest f → f p ≡ false
  both f t = t p (silent_lets_nothing p silent)

  more_swap : (l : Link) → Alike (More p (More n l)) (More n (More p l))
  more_swap l = record {
    from = refl;
    to = refl;
    cut = refl;
    stands = delivered_append (l.notes ++ p ∷ []) (n ∷ []) ∙ ap (λ js. js ++ delivered (n ∷ [])) (bare l.notes) ∙ sym (delivered_append l.notes (n ∷ [])) ∙ sym (bare (l.notes ++ n ∷ []));
    places = λ f t a. place_more f a [] (l.notes ++ p ∷ []) n (t n lets) ∙ place_more f a [] l.notes p (both f t) ∙ sym (place_more f a [] l.notes n (t n lets)) ∙ sym (place_more f a [] (l.notes ++ n ∷ []) p (both f t));
    logs = λ f t. log_swap f t;
  }
    where
      bare : (ns : List (Note Name)) → delivered (ns ++ p ∷ []) ≡ delivered ns
      bare ns = delivered_append ns (p ∷ []) ∙ ap (λ js. delivered ns ++ js) (silent_bare p silent) ∙ append-nil (delivered ns)

      log_swap : (f : Note Name → Bool) → IsTest f → any_note f ((l.log ++ p ∷ []) ++ n ∷ []) ≡ any_note f ((l.log ++ n ∷ []) ++ p ∷ [])
      log_swap f t = any_more f (l.log ++ p ∷ []) n (t n lets) ∙ any_more f l.log p (both f t) ∙ sym (any_more f l.log n (t n lets)) ∙ sym (any_more f (l.log ++ n ∷ []) p (both f t))

  logged_swap : (l : Link) → Alike (Logged p (Logged n l)) (Logged n (Logged p l))
  logged_swap l = record { from = refl; to = refl; cut = refl; stands = refl; places = λ f t a. refl; logs = λ f t. any_more f (l.log ++ p ∷ []) n (t n lets) ∙ any_more f l.log p (both f t) ∙ sym (any_more f l.log n (t n lets)) ∙ sym (any_more f (l.log ++ n ∷ []) p (both f t)) }

  swapped : (l : Link) → Alike (pushed p (pushed n l)) (pushed n (pushed p l))
  swapped l = go l.cut refl
    where
      go : (c : Bool) → l.cut ≡ c → Alike (pushed p (pushed n l)) (pushed n (pushed p l))
      go true e = subst (λ z. Alike (pushed p z) (pushed n (pushed p l))) (sym (pushed_shut n l e)) (subst (λ z. Alike (pushed p (Logged n l)) (pushed n z)) (sym (pushed_shut p l e))
          (subst (λ z. Alike z (pushed n (Logged p l))) (sym (pushed_shut p (Logged n l) e)) (subst (λ z. Alike (Logged p (Logged n l)) z) (sym (pushed_shut n (Logged p l) e)) (logged_swap l))))
      go false e = subst (λ z. Alike (pushed p z) (pushed n (pushed p l))) (sym (pushed_open n l e)) (subst (λ z. Alike (pushed p (More n l)) (pushed n z)) (sym (pushed_open p l e))
          (subst (λ z. Alike z (pushed n (More p l))) (sym (pushed_open p (More n l) e)) (subst (λ z. Alike (More p (More n l)) z) (sym (pushed_open n (More p l) e)) (more_swap l))))

-- ---- all links

abbrev AllAlike : List Link → List Link → Type 0
AllAlike [] [] = Unit {0}
AllAlike (l ∷ ls) (k ∷ ks) = Alike l k × AllAlike ls ks
AllAlike other another = ⊥

all_self : (ls : List Link) → AllAlike ls ls
all_self [] = tt
all_self (l ∷ ls) = (alike_self l, all_self ls)

all_then : (ls ks js : List Link) → AllAlike ls ks → AllAlike ks js → AllAlike ls js
all_then [] [] [] a b = tt
all_then [] (k ∷ ks) js a b = absurd a
all_then (l ∷ ls) [] js a b = absurd a
all_then (l ∷ ls) (k ∷ ks) (j ∷ js) a b = (alike_then l k j a.0 b.0, all_then ls ks js a.1 b.1)
all_then other another further a b = absurd b

all_grow : (ls ks : List Link) → AllAlike ls ks → AllGrow ls ks
all_grow [] [] a = tt
all_grow (l ∷ ls) (k ∷ ks) a = (alike_grows l k a.0, all_grow ls ks a.1)
all_grow other another a = absurd a

is_alike : (a b : ℕ) (l k : Link) → Alike l k → world.is_link a b k ≡ world.is_link a b l
unfolding world.is_link
is_alike a b l k g = ap (λ x. elim (x == a) [ true ↦ k.to == b | false ↦ false ]) g.from ∙ ap (λ x. elim (l.from == a) [ true ↦ x == b | false ↦ false ]) g.to

with_alike : (n : Note Name) (v h : ℕ) (ls ks : List Link) → AllAlike ls ks → AllAlike (with_link (pushed n) v h ls) (with_link (pushed n) v h ks)
unfolding with_link
with_alike n v h [] [] a = tt
with_alike n v h (l ∷ ls) (k ∷ ks) a =
    subst (λ c. AllAlike (elim (world.is_link v h l) [ true ↦ pushed n l ∷ ls | false ↦ l ∷ with_link (pushed n) v h ls ]) (elim c [ true ↦ pushed n k ∷ ks | false ↦ k ∷ with_link (pushed n) v h ks ])) (sym (is_alike v h l k a.0)) (go (with_alike n v h ls ks a.1) (world.is_link v h l))
  where
    go : AllAlike (with_link (pushed n) v h ls) (with_link (pushed n) v h ks) → (c : Bool) → AllAlike (elim c [ true ↦ pushed n l ∷ ls | false ↦ l ∷ with_link (pushed n) v h ls ]) (elim c [ true ↦ pushed n k ∷ ks | false ↦ k ∷ with_link (pushed n) v h ks ])
    go f true = (pushed_alike n l k a.0, a.1)
    go f false = (a.0, f)
with_alike n v h other another a = absurd a

push_alike : (v : ℕ) (ps : List (Put Name)) (ls ks : List Link) → AllAlike ls ks → AllAlike (push_all v ps ls) (push_all v ps ks)
unfolding push_all
push_alike v [] ls ks a = a
push_alike v (p ∷ ps) ls ks a = push_alike v ps (with_link (pushed p.note) v p.to ls) (with_link (pushed p.note) v p.to ks) (with_alike p.note v p.to ls ks a)

-- ---- two puts in either order

module _ (v g h : ℕ) (n p : Note Name) (lets : LetsNothingGo n) (aside : g ≡ h → IsSilent p) where
  ends : (l : Link) → world.is_link v g l ≡ true → world.is_link v h l ≡ true → g ≡ h
  ends l e f = let x = found_ends v g (l ∷ []) l (link_here v g l [] e) in let y = found_ends v h (l ∷ []) l (link_here v h l [] f) in sym x.1 ∙ y.1

  still_link : (c d : ℕ) (m : Note Name) (l : Link) → world.is_link c d (pushed m l) ≡ world.is_link c d l
  still_link c d m l = pushed_ends l.cut m l c d refl

  swap : (ls : List Link) → AllAlike (with_link (pushed p) v g (with_link (pushed n) v h ls)) (with_link (pushed n) v h (with_link (pushed p) v g ls))
  unfolding with_link
  swap [] = tt
  swap (l ∷ ls) = go (world.is_link v g l) (world.is_link v h l) refl refl (swap ls)
    where
      P : List Link → List Link
      P ks = with_link (pushed p) v g ks

      N : List Link → List Link
      N ks = with_link (pushed n) v h ks

      Ps : Bool → Link → List Link → List Link
      Ps c k ks = elim c [ true ↦ pushed p k ∷ ks | false ↦ k ∷ with_link (pushed p) v g ks ]

      Ns : Bool → Link → List Link → List Link
      Ns c k ks = elim c [ true ↦ pushed n k ∷ ks | false ↦ k ∷ with_link (pushed n) v h ks ]

      go : (c d : Bool) → world.is_link v g l ≡ c → world.is_link v h l ≡ d → AllAlike (with_link (pushed p) v g (with_link (pushed n) v h ls)) (with_link (pushed n) v h (with_link (pushed p) v g ls))
          → AllAlike (with_link (pushed p) v g (elim d [ true ↦ pushed n l ∷ ls | false ↦ l ∷ with_link (pushed n) v h ls ])) (with_link (pushed n) v h (elim c [ true ↦ pushed p l ∷ ls | false ↦ l ∷ with_link (pushed p) v g ls ]))
      go true true e f r = subst (λ x. AllAlike (Ps x (pushed n l) ls) (Ns (world.is_link v h (pushed p l)) (pushed p l) ls)) (sym (still_link v g n l ∙ e)) (subst (λ x. AllAlike (pushed p (pushed n l) ∷ ls) (Ns x (pushed p l) ls)) (sym (still_link v h p l ∙ f)) (swapped n p lets (aside (ends l e f)) l, all_self ls))
      go true false e f r = subst (λ x. AllAlike (Ps x l (N ls)) (Ns (world.is_link v h (pushed p l)) (pushed p l) ls)) (sym e) (subst (λ x. AllAlike (pushed p l ∷ N ls) (Ns x (pushed p l) ls)) (sym (still_link v h p l ∙ f)) (alike_self (pushed p l), all_self (N ls)))
      go false true e f r = subst (λ x. AllAlike (Ps x (pushed n l) ls) (Ns (world.is_link v h l) l (P ls))) (sym (still_link v g n l ∙ e)) (subst (λ x. AllAlike (pushed n l ∷ P ls) (Ns x l (P ls))) (sym f) (alike_self (pushed n l), all_self (P ls)))
      go false false e f r = subst (λ x. AllAlike (Ps x l (N ls)) (Ns (world.is_link v h l) l (P ls))) (sym e) (subst (λ x. AllAlike (l ∷ P (N ls)) (Ns x l (P ls))) (sym f) (alike_self l, r))

late : (v h : ℕ) (n : Note Name) (ps : List (Put Name)) (ls : List Link) → LetsNothingGo n → AllOf (IsAside h) ps → AllAlike (push_all v ps (with_link (pushed n) v h ls)) (with_link (pushed n) v h (push_all v ps ls))
unfolding push_all
late v h n [] ls lets a = all_self (with_link (pushed n) v h ls)
late v h n (p ∷ ps) ls lets a =
    let x = with_link (pushed p.note) v p.to (with_link (pushed n) v h ls) in
    let y = with_link (pushed n) v h (with_link (pushed p.note) v p.to ls) in
    all_then (push_all v ps x) (push_all v ps y) (with_link (pushed n) v h (push_all v ps (with_link (pushed p.note) v p.to ls))) (push_alike v ps x y (swap v p.to h n p.note lets a.0 ls)) (late v h n ps (with_link (pushed p.note) v p.to ls) lets a.1)

pub late_puts_grow : LatePutsGrow
late_puts_grow v h n ps ls lets a = all_grow (push_all v ps (with_link (pushed n) v h ls)) (with_link (pushed n) v h (push_all v ps ls)) (late v h n ps ls lets a)
