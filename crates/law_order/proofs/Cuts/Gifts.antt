-- Where a gift leads by the notes that let it go.
use Rattle.std.proofs.Common.{◌≡◌, ℕ, ◌+◌, ◌≤◌, Bool, true, false, List, [], ◌∷◌, ◌++◌, Option, Some, None, refl, sym, ap, subst, ◌∙◌, arith, eq-eqb}
use Rattle.std.specs.Prelude.{◌==◌, ◌&&◌, ◌||◌}
use Rattle.def_machine.specs.Values.{Name}
use Rattle.def_machine.specs.State.{Note, Open, Shorten}
use Rattle.def_run.specs.World as world
use Rattle.def_run.specs.World.{Script, Link}
use Rattle.law_order.specs.Ordering.Ways.{Lane, Way, Item, Place, Mid}
use Rattle.law_order.specs.Ordering.Places.{delivered, opens, shortens, subject, in_lane, note_place, any_note, first_place, is_honest, open_place, shorten_place, was_put}
use Rattle.law_order.proofs.Ordering.Sends.{none_some, some_same, ends_of}
use Rattle.law_order.specs.Cuts.Letting.{lets_go, once, letting_in, letting, AllLogged}
use Rattle.law_order.proofs.Cuts.Counts.{counts_one}

-- ---- tests of notes that let a gift go

-- each note of which it holds lets the gift go
abbrev pub IsTest : ℕ → (Note Name → Bool) → Type 0
IsTest i f = (n : Note Name) → f n ≡ true → lets_go i n ≡ true

second : (a b : Bool) → (a && b) ≡ true → b ≡ true
second true b e = e
second false b e = cc

pub opens_test : (i : ℕ) → IsTest i (opens i)
unfolding opens lets_go
opens_test i (Open j n) e = e
opens_test i other e = cc

pub shortens_test : (h i : ℕ) → IsTest i (shortens h i)
unfolding shortens lets_go
shortens_test h i (Shorten n c j) e = second (c == h) (j == i) e
shortens_test h i other e = cc

-- where none of the notes lets it go
pub none_placed : (i : ℕ) (f : Note Name → Bool) → IsTest i f → (l : Lane) (b : List Item) (ns : List (Note Name)) → letting_in i ns ≤ 0 → note_place f l b ns ≡ None
unfolding note_place letting_in
none_placed i f g l b [] h = refl
none_placed i f g l b (n ∷ ns) h = go (λ k. none_placed i f g l (b ++ delivered (n ∷ [])) ns k) (f n) refl
  where
    go : (letting_in i ns ≤ 0 → note_place f l (b ++ delivered (n ∷ [])) ns ≡ None) → (c : Bool) → f n ≡ c → ◌≡◌ {A = Option Place} (elim c [ true ↦ in_lane l b (subject n) | false ↦ note_place f l (b ++ delivered (n ∷ [])) ns ]) None
    go r true e = let one = counts_one (lets_go i n) (g n e) in absurd (omega arith)
    go r false e = r (omega arith)

-- what has a place is among the notes
placed_there : (f : Note Name → Bool) (l : Lane) (b : List Item) (ns : List (Note Name)) (c : Place) → note_place f l b ns ≡ Some c → any_note f ns ≡ true
unfolding note_place any_note
placed_there f l b [] c e = none_some c e
placed_there f l b (n ∷ ns) c e = go (λ k. placed_there f l (b ++ delivered (n ∷ [])) ns c k) (f n) e
  where
    go : (note_place f l (b ++ delivered (n ∷ [])) ns ≡ Some c → any_note f ns ≡ true) → (d : Bool) → elim d [ true ↦ in_lane l b (subject n) | false ↦ note_place f l (b ++ delivered (n ∷ [])) ns ] ≡ Some c → (d || any_note f ns) ≡ true
    go r true i = refl
    go r false i = r i

-- ---- the links

abbrev First : Bool → Option Place → Option Place → Option Place
First x p o = elim x [ true ↦ first_place p o | false ↦ o ]

skips : (x : Bool) (p o : Option Place) → p ≡ None → First x p o ≡ o
unfolding first_place
skips true p o e = ap (λ q. first_place q o) e
skips false p o e = refl

takes : (x : Bool) (p o : Option Place) (c : Place) → x ≡ true → p ≡ Some c → First x p o ≡ Some c
unfolding first_place
takes true p o c e f = ap (λ q. first_place q o) f
takes false p o c e f = cc

module _ (script : Script) (honest : ℕ → Bool) where
  -- of no note at all
  pub none_opens : (h i : ℕ) (ls : List Link) → letting i ls ≤ 0 → open_place script honest h i ls ≡ None
  unfolding open_place letting
  none_opens h i [] e = refl
  none_opens h i (l ∷ ls) e = skips (is_honest script honest l && (l.to == h)) (note_place (opens i) (Way l.from l.to) [] l.notes) (open_place script honest h i ls) (none_placed i (opens i) (opens_test i) (Way l.from l.to) [] l.notes (omega arith)) ∙ none_opens h i ls (omega arith)

  pub none_shortens : (h i : ℕ) (ls : List Link) → letting i ls ≤ 0 → shorten_place script honest h i ls ≡ None
  unfolding shorten_place letting
  none_shortens h i [] e = refl
  none_shortens h i (l ∷ ls) e = skips (is_honest script honest l) (note_place (shortens h i) (Way l.from l.to) [] l.notes) (shorten_place script honest h i ls) (none_placed i (shortens h i) (shortens_test h i) (Way l.from l.to) [] l.notes (omega arith)) ∙ none_shortens h i ls (omega arith)

  -- ---- a note that is under way was put

  both_true : (a b : Bool) → a ≡ true → b ≡ true → (a && b) ≡ true
  both_true true b e f = f
  both_true false b e f = cc

  or_left : (a b : Bool) → a ≡ true → (a || b) ≡ true
  or_left true b e = refl
  or_left false b e = cc

  or_right : (a b : Bool) → b ≡ true → (a || b) ≡ true
  or_right true b e = refl
  or_right false b e = e

  left_of : (a b : Bool) → (a && b) ≡ true → (a ≡ true) × (b ≡ true)
  left_of true b e = (refl, e)
  left_of false b e = cc

  opened_put : (h i : ℕ) (ls : List Link) (c : Place) → AllLogged ls → open_place script honest h i ls ≡ Some c → was_put script honest h i ls ≡ true
  unfolding open_place was_put first_place
  opened_put h i [] c g e = none_some c e
  opened_put h i (l ∷ ls) c g e = go (λ k. opened_put h i ls c g.1 k) (is_honest script honest l && (l.to == h)) refl e
    where
      here : (open_place script honest h i ls ≡ Some c → was_put script honest h i ls ≡ true) → (is_honest script honest l && (l.to == h)) ≡ true → (o : Option Place) → note_place (opens i) (Way l.from l.to) [] l.notes ≡ o → first_place o (open_place script honest h i ls) ≡ Some c
          → ((is_honest script honest l && (((l.to == h) && any_note (opens i) l.log) || any_note (shortens h i) l.log)) || was_put script honest h i ls) ≡ true
      here f k (Some d) q r = let ends = left_of (is_honest script honest l) (l.to == h) k in
          or_left (is_honest script honest l && (((l.to == h) && any_note (opens i) l.log) || any_note (shortens h i) l.log)) (was_put script honest h i ls)
          (both_true (is_honest script honest l) (((l.to == h) && any_note (opens i) l.log) || any_note (shortens h i) l.log) ends.0 (or_left ((l.to == h) && any_note (opens i) l.log) (any_note (shortens h i) l.log)
          (both_true (l.to == h) (any_note (opens i) l.log) ends.1 (g.0 (opens i) (placed_there (opens i) (Way l.from l.to) [] l.notes d q)))))
      here f k None q r = or_right (is_honest script honest l && (((l.to == h) && any_note (opens i) l.log) || any_note (shortens h i) l.log)) (was_put script honest h i ls) (f r)

      go : (open_place script honest h i ls ≡ Some c → was_put script honest h i ls ≡ true) → (x : Bool) → (is_honest script honest l && (l.to == h)) ≡ x → First x (note_place (opens i) (Way l.from l.to) [] l.notes) (open_place script honest h i ls) ≡ Some c
          → ((is_honest script honest l && (((l.to == h) && any_note (opens i) l.log) || any_note (shortens h i) l.log)) || was_put script honest h i ls) ≡ true
      go f true k r = here f k (note_place (opens i) (Way l.from l.to) [] l.notes) refl r
      go f false k r = or_right (is_honest script honest l && (((l.to == h) && any_note (opens i) l.log) || any_note (shortens h i) l.log)) (was_put script honest h i ls) (f r)

  shortened_put : (h i : ℕ) (ls : List Link) (c : Place) → AllLogged ls → shorten_place script honest h i ls ≡ Some c → was_put script honest h i ls ≡ true
  unfolding shorten_place was_put first_place
  shortened_put h i [] c g e = none_some c e
  shortened_put h i (l ∷ ls) c g e = go (λ k. shortened_put h i ls c g.1 k) (is_honest script honest l) refl e
    where
      here : (shorten_place script honest h i ls ≡ Some c → was_put script honest h i ls ≡ true) → is_honest script honest l ≡ true → (o : Option Place) → note_place (shortens h i) (Way l.from l.to) [] l.notes ≡ o → first_place o (shorten_place script honest h i ls) ≡ Some c
          → ((is_honest script honest l && (((l.to == h) && any_note (opens i) l.log) || any_note (shortens h i) l.log)) || was_put script honest h i ls) ≡ true
      here f k (Some d) q r =
          or_left (is_honest script honest l && (((l.to == h) && any_note (opens i) l.log) || any_note (shortens h i) l.log)) (was_put script honest h i ls)
          (both_true (is_honest script honest l) (((l.to == h) && any_note (opens i) l.log) || any_note (shortens h i) l.log) k (or_right ((l.to == h) && any_note (opens i) l.log) (any_note (shortens h i) l.log)
          (g.0 (shortens h i) (placed_there (shortens h i) (Way l.from l.to) [] l.notes d q))))
      here f k None q r = or_right (is_honest script honest l && (((l.to == h) && any_note (opens i) l.log) || any_note (shortens h i) l.log)) (was_put script honest h i ls) (f r)

      go : (shorten_place script honest h i ls ≡ Some c → was_put script honest h i ls ≡ true) → (x : Bool) → is_honest script honest l ≡ x → First x (note_place (shortens h i) (Way l.from l.to) [] l.notes) (shorten_place script honest h i ls) ≡ Some c
          → ((is_honest script honest l && (((l.to == h) && any_note (opens i) l.log) || any_note (shortens h i) l.log)) || was_put script honest h i ls) ≡ true
      go f true k r = here f k (note_place (shortens h i) (Way l.from l.to) [] l.notes) refl r
      go f false k r = or_right (is_honest script honest l && (((l.to == h) && any_note (opens i) l.log) || any_note (shortens h i) l.log)) (was_put script honest h i ls) (f r)

  pub under_way_put : (h i : ℕ) (ls : List Link) (c : Place) → AllLogged ls → first_place (open_place script honest h i ls) (shorten_place script honest h i ls) ≡ Some c → was_put script honest h i ls ≡ true
  unfolding first_place
  under_way_put h i ls c g e = go (open_place script honest h i ls) refl e
    where
      go : (o : Option Place) → open_place script honest h i ls ≡ o → first_place o (shorten_place script honest h i ls) ≡ Some c → was_put script honest h i ls ≡ true
      go (Some d) q r = opened_put h i ls d g q
      go None q r = shortened_put h i ls c g r

  -- ---- the first note on its link

  honest_both : (a b : ℕ) (l : Link) → honest a ≡ true → honest b ≡ true → l.from ≡ a → l.to ≡ b → is_honest script honest l ≡ true
  unfolding is_honest
  honest_both a b l e f g h = both_true (honest l.from) (honest l.to) (ap honest g ∙ e) (ap honest h ∙ f)

  -- on a link that is found a note that lets it go stands first: no other does
  first_counts : (i a b : ℕ) (ls : List Link) (l : Link) (n : Note Name) (ns : List (Note Name)) → world.link_at a b ls ≡ Some l → l.notes ≡ n ∷ ns → lets_go i n ≡ true → 1 ≤ letting i ls
  unfolding world.link_at letting letting_in
  first_counts i a b [] l n ns e f g = none_some l e
  first_counts i a b (k ∷ ls) l n ns e f g = go (λ q. first_counts i a b ls l n ns q f g) (world.is_link a b k) e
    where
      here : k ≡ l → letting_in i k.notes ≡ once (lets_go i n) + letting_in i ns
      here q = ap (λ (j : Link). letting_in i j.notes) q ∙ ap (λ ms. letting_in i ms) f

      go : (world.link_at a b ls ≡ Some l → 1 ≤ letting i ls) → (c : Bool) → elim c [ true ↦ Some k | false ↦ world.link_at a b ls ] ≡ Some l → 1 ≤ letting_in i k.notes + letting i ls
      go r true q = let same = here (some_same k l q) in let one = counts_one (lets_go i n) g in omega arith
      go r false q = let rest = r q in omega arith

  opens_itself : (i : ℕ) (l : Lane) (n : Name) (ms ns : List (Note Name)) → ms ≡ Open i n ∷ ns → note_place (opens i) l [] ms ≡ Some (Mid l [] n)
  unfolding note_place opens subject in_lane
  opens_itself i l n ms ns e = subst (λ ks. note_place (opens i) l [] ks ≡ Some (Mid l [] n)) (sym e) (ap (λ c. elim c [ true ↦ Some (Mid l [] n) | false ↦ note_place (opens i) l ([] ++ delivered (Open i n ∷ [])) ns ]) (eq-eqb i i refl))

  shortens_itself : (h i : ℕ) (l : Lane) (n : Name) (ms ns : List (Note Name)) → ms ≡ Shorten n h i ∷ ns → note_place (shortens h i) l [] ms ≡ Some (Mid l [] n)
  unfolding note_place shortens subject in_lane
  shortens_itself h i l n ms ns e = subst (λ ks. note_place (shortens h i) l [] ks ≡ Some (Mid l [] n)) (sym e)
      (ap (λ c. elim c [ true ↦ Some (Mid l [] n) | false ↦ note_place (shortens h i) l ([] ++ delivered (Shorten n h i ∷ [])) ns ]) (both_true (h == h) (i == i) (eq-eqb h h refl) (eq-eqb i i refl)))

  lane_of : (a b : ℕ) (l : Link) → l.from ≡ a → l.to ≡ b → Way l.from l.to ≡ Way a b
  lane_of a b l e f = ap (λ x. Way x l.to) e ∙ ap (λ y. Way a y) f

  module _ (a b i : ℕ) (n : Name) (ns : List (Note Name)) (from : honest a ≡ true) (to : honest b ≡ true) where
    opens_at : (l : Link) → l.notes ≡ Open i n ∷ ns → l.from ≡ a → l.to ≡ b → note_place (opens i) (Way l.from l.to) [] l.notes ≡ Some (Mid (Way a b) [] n)
    opens_at l f g h = opens_itself i (Way l.from l.to) n l.notes ns f ∙ ap (λ k. Some (Mid k [] n)) (lane_of a b l g h)

    pub first_opens : (ls : List Link) (l : Link) → letting i ls ≤ 1 → world.link_at a b ls ≡ Some l → l.notes ≡ Open i n ∷ ns → open_place script honest b i ls ≡ Some (Mid (Way a b) [] n)
    unfolding world.link_at letting open_place lets_go
    first_opens [] l most e f = none_some l e
    first_opens (k ∷ ls) l most e f = go (λ j q. first_opens ls l j q f) (world.is_link a b k) refl e
      where
        is_let : lets_go i (Open i n) ≡ true
        is_let = eq-eqb i i refl

        go : (letting i ls ≤ 1 → world.link_at a b ls ≡ Some l → open_place script honest b i ls ≡ Some (Mid (Way a b) [] n)) → (c : Bool) → world.is_link a b k ≡ c → elim c [ true ↦ Some k | false ↦ world.link_at a b ls ] ≡ Some l → First (is_honest script honest k && (k.to == b)) (note_place (opens i) (Way k.from k.to) [] k.notes) (open_place script honest b i ls) ≡ Some (Mid (Way a b) [] n)
        go r true j q = let ends = ends_of a b k j in takes (is_honest script honest k && (k.to == b)) (note_place (opens i) (Way k.from k.to) [] k.notes) (open_place script honest b i ls) (Mid (Way a b) [] n)
            (both_true (is_honest script honest k) (k.to == b) (honest_both a b k from to ends.0 ends.1) (eq-eqb k.to b ends.1)) (opens_at k (ap (λ (z : Link). z.notes) (some_same k l q) ∙ f) ends.0 ends.1)
        go r false j q = let one = first_counts i a b ls l (Open i n) ns q f is_let in
            skips (is_honest script honest k && (k.to == b)) (note_place (opens i) (Way k.from k.to) [] k.notes) (open_place script honest b i ls) (none_placed i (opens i) (opens_test i) (Way k.from k.to) [] k.notes (omega arith)) ∙ r (omega arith) q

    module _ (h : ℕ) where
      shortens_at : (l : Link) → l.notes ≡ Shorten n h i ∷ ns → l.from ≡ a → l.to ≡ b → note_place (shortens h i) (Way l.from l.to) [] l.notes ≡ Some (Mid (Way a b) [] n)
      shortens_at l f g k = shortens_itself h i (Way l.from l.to) n l.notes ns f ∙ ap (λ x. Some (Mid x [] n)) (lane_of a b l g k)

      is_let : lets_go i (Shorten n h i) ≡ true
      unfolding lets_go
      is_let = eq-eqb i i refl

      pub first_shortens : (ls : List Link) (l : Link) → letting i ls ≤ 1 → world.link_at a b ls ≡ Some l → l.notes ≡ Shorten n h i ∷ ns → shorten_place script honest h i ls ≡ Some (Mid (Way a b) [] n)
      unfolding world.link_at letting shorten_place
      first_shortens [] l most e f = none_some l e
      first_shortens (k ∷ ls) l most e f = go (λ j q. first_shortens ls l j q f) (world.is_link a b k) refl e
        where
          go : (letting i ls ≤ 1 → world.link_at a b ls ≡ Some l → shorten_place script honest h i ls ≡ Some (Mid (Way a b) [] n)) → (c : Bool) → world.is_link a b k ≡ c → elim c [ true ↦ Some k | false ↦ world.link_at a b ls ] ≡ Some l → First (is_honest script honest k) (note_place (shortens h i) (Way k.from k.to) [] k.notes) (shorten_place script honest h i ls) ≡ Some (Mid (Way a b) [] n)
          go r true j q = let ends = ends_of a b k j in takes (is_honest script honest k) (note_place (shortens h i) (Way k.from k.to) [] k.notes) (shorten_place script honest h i ls) (Mid (Way a b) [] n)
              (honest_both a b k from to ends.0 ends.1) (shortens_at k (ap (λ (z : Link). z.notes) (some_same k l q) ∙ f) ends.0 ends.1)
          go r false j q = let one = first_counts i a b ls l (Shorten n h i) ns q f is_let in
              skips (is_honest script honest k) (note_place (shortens h i) (Way k.from k.to) [] k.notes) (shorten_place script honest h i ls) (none_placed i (shortens h i) (shortens_test h i) (Way k.from k.to) [] k.notes (omega arith)) ∙ r (omega arith) q

      -- then no note opens it
      opens_no_shorten : (l : Lane) (ms : List (Note Name)) → letting_in i ms ≤ 1 → ms ≡ Shorten n h i ∷ ns → note_place (opens i) l [] ms ≡ None
      unfolding note_place opens letting_in delivered
      opens_no_shorten l ms most e = let one = counts_one (lets_go i (Shorten n h i)) is_let in
          let few : once (lets_go i (Shorten n h i)) + letting_in i ns ≤ 1 = subst (λ ks. letting_in i ks ≤ 1) e most in
          subst (λ ks. note_place (opens i) l [] ks ≡ None) (sym e) (none_placed i (opens i) (opens_test i) l [] ns (omega arith))

      pub none_open : (ls : List Link) (l : Link) → letting i ls ≤ 1 → world.link_at a b ls ≡ Some l → l.notes ≡ Shorten n h i ∷ ns → open_place script honest h i ls ≡ None
      unfolding world.link_at letting open_place letting_in
      none_open [] l most e f = none_some l e
      none_open (k ∷ ls) l most e f = go (λ j q. none_open ls l j q f) (world.is_link a b k) refl e
        where
          counted : k ≡ l → letting_in i k.notes ≡ once (lets_go i (Shorten n h i)) + letting_in i ns
          counted q = ap (λ (j : Link). letting_in i j.notes) q ∙ ap (λ ms. letting_in i ms) f

          go : (letting i ls ≤ 1 → world.link_at a b ls ≡ Some l → open_place script honest h i ls ≡ None) → (c : Bool) → world.is_link a b k ≡ c → elim c [ true ↦ Some k | false ↦ world.link_at a b ls ] ≡ Some l → First (is_honest script honest k && (k.to == h)) (note_place (opens i) (Way k.from k.to) [] k.notes) (open_place script honest h i ls) ≡ None
          go r true j q = let one = counts_one (lets_go i (Shorten n h i)) is_let in let same = counted (some_same k l q) in
              skips (is_honest script honest k && (k.to == h)) (note_place (opens i) (Way k.from k.to) [] k.notes) (open_place script honest h i ls) (opens_no_shorten (Way k.from k.to) k.notes (omega arith) (ap (λ (z : Link). z.notes) (some_same k l q) ∙ f)) ∙ none_opens h i ls (omega arith)
          go r false j q = let one = first_counts i a b ls l (Shorten n h i) ns q f is_let in
              skips (is_honest script honest k && (k.to == h)) (note_place (opens i) (Way k.from k.to) [] k.notes) (open_place script honest h i ls) (none_placed i (opens i) (opens_test i) (Way k.from k.to) [] k.notes (omega arith)) ∙ r (omega arith) q
