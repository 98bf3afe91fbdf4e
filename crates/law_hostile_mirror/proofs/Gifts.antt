-- What a step puts is made in both.
use Rattle.std.proofs.Common.{◌≡◌, ℕ, Bool, true, false, List, [], ◌∷◌, ◌++◌, Option, Some, inl, inr, ◌⊎◌, refl, sym, ap, ◌∙◌, map}
use Rattle.std.specs.Prelude.{option_map, ◌==◌, ◌&&◌}
use Rattle.std.proofs.lemmas.Bool.{eqb-true, eq-eqb}
use Rattle.def_machine.specs.Maps as maps
use Rattle.def_machine.specs.State.{Note, Open, Shorten, Put, is_in}
use Rattle.def_machine.specs.Values.{Name, Local}
use Rattle.def_run.specs.World.{Link, is_link, link_at, with_link, pushed, push_all}
use Rattle.def_hostile.specs.Claims.{Claim, is_claim, is_claimed, makes, made_in, made_on, is_made}
use Rattle.def_hostile.specs.Made as made
use Rattle.def_hostile.specs.Made.{made_by, with_gifts}
use Rattle.law_fate.specs.Name.Names.{AllOf}
use Rattle.law_machine.proofs.Renamed.Stands.{and_both}
use Rattle.law_frame.proofs.Frame.Places.{same_or, link_same, link_other}
use Rattle.law_hostile_mirror.specs.Gifts.{HaveLinks, GiftsMirror}

abbrev either : Bool → Bool → Bool
either a b = elim a [ true ↦ true | false ↦ b ]

either_none : (a : Bool) → either a false ≡ a
either_none true = refl
either_none false = refl

either_joined : (a b c : Bool) → either (either a b) c ≡ either a (either b c)
either_joined true b c = refl
either_joined false b c = refl

either_past : (a r b : Bool) → either (either a b) r ≡ either (either a r) b
either_past true r b = refl
either_past false true true = refl
either_past false true false = refl
either_past false false true = refl
either_past false false false = refl

either_two : {a b c d : Bool} → a ≡ b → c ≡ d → either a c ≡ either b d
either_two {a} {b} {c} {d} e i = ap (λ x. either x c) e ∙ ap (either b) i

-- ---- in the list

claim_is : (h i : ℕ) (g : Claim) → is_claim h i g ≡ true → (g.host ≡ h) × (g.number ≡ i)
unfolding is_claim
claim_is h i g e = let b = and_both (g.host == h) (g.number == i) e in (eqb-true g.host h b.0, eqb-true g.number i b.1)

both_true : (a b : Bool) → a ≡ true → b ≡ true → (a && b) ≡ true
both_true true b e i = i
both_true false b e i = cc

claim_self : (g : Claim) → is_claim g.host g.number g ≡ true
unfolding is_claim
claim_self g = both_true (g.host == g.host) (g.number == g.number) (eq-eqb g.host g.host refl) (eq-eqb g.number g.number refl)

claimed_end : (cs : List Claim) (g : Claim) (h i : ℕ) → is_claimed (cs ++ g ∷ []) h i ≡ either (is_claimed cs h i) (is_claim h i g)
unfolding is_claimed
claimed_end [] g h i = either_none (is_claim h i g)
claimed_end (c ∷ cs) g h i = ap (either (is_claim h i c)) (claimed_end cs g h i) ∙ sym (either_joined (is_claim h i c) (is_claimed cs h i) (is_claim h i g))

claimed_join : (cs ds : List Claim) (h i : ℕ) → is_claimed (cs ++ ds) h i ≡ either (is_claimed cs h i) (is_claimed ds h i)
unfolding is_claimed
claimed_join [] ds h i = refl
claimed_join (c ∷ cs) ds h i = ap (either (is_claim h i c)) (claimed_join cs ds h i) ∙ sym (either_joined (is_claim h i c) (is_claimed cs h i) (is_claimed ds h i))

-- with one gift more, if it is not there
abbrev one_more : Bool → Claim → List Claim → List Claim
one_more b g cs = elim b [ true ↦ cs | false ↦ cs ++ g ∷ [] ]

one_claimed : (cs : List Claim) (g : Claim) (h i : ℕ) (b : Bool) → is_claimed cs g.host g.number ≡ b → is_claimed (one_more b g cs) h i ≡ either (is_claimed cs h i) (is_claim h i g)
one_claimed cs g h i false e = claimed_end cs g h i
one_claimed cs g h i true e = by (is_claim h i g) refl
  where
    there : is_claim h i g ≡ true → is_claimed cs h i ≡ true
    there k = let x = claim_is h i g k in ap (λ a. is_claimed cs a i) (sym x.0) ∙ ap (λ a. is_claimed cs g.host a) (sym x.1) ∙ e

    by : (c : Bool) → is_claim h i g ≡ c → is_claimed cs h i ≡ either (is_claimed cs h i) c
    by true k = there k ∙ sym (ap (λ x. either x true) (there k))
    by false k = sym (either_none (is_claimed cs h i))

gifts_claimed : (gs cs : List Claim) (h i : ℕ) → is_claimed (with_gifts gs cs) h i ≡ either (is_claimed cs h i) (is_claimed gs h i)
unfolding with_gifts is_claimed
gifts_claimed [] cs h i = sym (either_none (is_claimed cs h i))
gifts_claimed (g ∷ gs) cs h i =
    gifts_claimed gs (one_more (is_claimed cs g.host g.number) g cs) h i
    ∙ ap (λ x. either x (is_claimed gs h i)) (one_claimed cs g h i (is_claimed cs g.host g.number) refl)
    ∙ either_joined (is_claimed cs h i) (is_claim h i g) (is_claimed gs h i)

pub still_claimed : (gs cs : List Claim) (h i : ℕ) → is_claimed cs h i ≡ true → is_claimed (with_gifts gs cs) h i ≡ true
still_claimed gs cs h i e = gifts_claimed gs cs h i ∙ ap (λ x. either x (is_claimed gs h i)) e

all_claimed : (gs cs : List Claim) → AllOf (λ (g : Claim). is_claimed (with_gifts gs cs) g.host g.number ≡ true) gs
unfolding with_gifts
all_claimed [] cs = tt
all_claimed (g ∷ gs) cs = (still_claimed gs (one_more (is_claimed cs g.host g.number) g cs) g.host g.number first, all_claimed gs (one_more (is_claimed cs g.host g.number) g cs))
  where
    either_last : (a b : Bool) → b ≡ true → either a b ≡ true
    either_last true b e = refl
    either_last false b e = e

    first : is_claimed (one_more (is_claimed cs g.host g.number) g cs) g.host g.number ≡ true
    first = one_claimed cs g g.host g.number (is_claimed cs g.host g.number) refl ∙ either_last (is_claimed cs g.host g.number) (is_claim g.host g.number g) (claim_self g)

-- ---- by notes

abbrev puts_make : ℕ → ℕ → List (Put Name) → Bool
puts_make h i [] = false
puts_make h i (q ∷ qs) = either (makes h i q.to q.note) (puts_make h i qs)

note_makes : (f : Local → Name) (h i to : ℕ) (n : Note Local) → is_claimed (made.made_in to n) h i ≡ makes h i to (maps.note f n)
unfolding made.made_in makes is_claimed is_claim
note_makes f h i to (Open j n) = either_none ((to == h) && (j == i))
note_makes f h i to (Shorten n c j) = either_none ((c == h) && (j == i))
note_makes f h i to other = refl

puts_claimed : (f : Local → Name) (h i : ℕ) (ps : List (Put Local)) → is_claimed (made_by ps) h i ≡ puts_make h i (map (maps.put f) ps)
unfolding made_by is_claimed
puts_claimed f h i [] = refl
puts_claimed f h i (p ∷ ps) = claimed_join (made.made_in p.to p.note) (made_by ps) h i ∙ either_two (note_makes f h i p.to p.note) (puts_claimed f h i ps)

log_end : (h i to : ℕ) (ns : List (Note Name)) (n : Note Name) → made_in h i to (ns ++ n ∷ []) ≡ either (made_in h i to ns) (makes h i to n)
unfolding made_in
log_end h i to [] n = either_none (makes h i to n)
log_end h i to (m ∷ ns) n = ap (either (makes h i to m)) (log_end h i to ns n) ∙ sym (either_joined (makes h i to m) (made_in h i to ns) (makes h i to n))

-- ---- on links

module _ (hs : List ℕ) (u : ℕ) (honest : is_in u hs ≡ false) (h i : ℕ) where
  link_is : (to : ℕ) (l : Link) → is_link u to l ≡ true → (l.from ≡ u) × (l.to ≡ to)
  unfolding is_link
  link_is to l e = by (l.from == u) refl e
    where
      by : (b : Bool) → (l.from == u) ≡ b → ◌≡◌ {A = Bool} (elim b [ true ↦ l.to == to | false ↦ false ]) true → (l.from ≡ u) × (l.to ≡ to)
      by true j k = (eqb-true l.from u j, eqb-true l.to to k)
      by false j k = cc

  one_made : (to : ℕ) (n : Note Name) (l : Link) → l.from ≡ u → l.to ≡ to → made_on h i (is_in (pushed n l).from hs) (pushed n l) ≡ either (made_on h i (is_in l.from hs) l) (makes h i to n)
  unfolding pushed made_on
  one_made to n l e j = by l.cut
    where
      added : Bool → Link
      added b = elim b [ true ↦ record l { log = l.log ++ n ∷ [] } | false ↦ record l { notes = l.notes ++ n ∷ []; log = l.log ++ n ∷ [] } ]

      own : is_in l.from hs ≡ false
      own = ap (λ x. is_in x hs) e ∙ honest

      there : made_in h i l.to (l.log ++ n ∷ []) ≡ either (made_on h i (is_in l.from hs) l) (makes h i to n)
      there = log_end h i l.to l.log n ∙ ap (λ x. either (made_in h i l.to l.log) (makes h i x n)) j ∙ sym (ap (λ b. either (made_on h i b l) (makes h i to n)) own)

      by : (b : Bool) → made_on h i (is_in (added b).from hs) (added b) ≡ either (made_on h i (is_in l.from hs) l) (makes h i to n)
      by true = ap (λ b. made_on h i b (record l { log = l.log ++ n ∷ [] })) own ∙ there
      by false = ap (λ b. made_on h i b (record l { notes = l.notes ++ n ∷ []; log = l.log ++ n ∷ [] })) own ∙ there

  pushed_made : (to : ℕ) (n : Note Name) (ls : List Link) (l : Link) → link_at u to ls ≡ Some l → is_made hs h i (with_link (pushed n) u to ls) ≡ either (is_made hs h i ls) (makes h i to n)
  unfolding link_at with_link is_made
  pushed_made to n [] l e = cc
  pushed_made to n (k ∷ ks) l e = by (is_link u to k) refl e (λ j. pushed_made to n ks l j)
    where
      by : (b : Bool) → is_link u to k ≡ b → ◌≡◌ {A = Option Link} (elim b [ true ↦ Some k | false ↦ link_at u to ks ]) (Some l) → (link_at u to ks ≡ Some l → is_made hs h i (with_link (pushed n) u to ks) ≡ either (is_made hs h i ks) (makes h i to n))
          → is_made hs h i (elim b [ true ↦ pushed n k ∷ ks | false ↦ k ∷ with_link (pushed n) u to ks ]) ≡ either (either (made_on h i (is_in k.from hs) k) (is_made hs h i ks)) (makes h i to n)
      by true j m f =
          let x = link_is to k j in
          ap (λ a. either a (is_made hs h i ks)) (one_made to n k x.0 x.1) ∙ either_past (made_on h i (is_in k.from hs) k) (is_made hs h i ks) (makes h i to n)
      by false j m f = ap (either (made_on h i (is_in k.from hs) k)) (f m) ∙ sym (either_joined (made_on h i (is_in k.from hs) k) (is_made hs h i ks) (makes h i to n))

  ends_stay : (n : Note Name) (l : Link) → ((pushed n l).from ≡ l.from) × ((pushed n l).to ≡ l.to)
  unfolding pushed
  ends_stay n l = by l.cut
    where
      added : Bool → Link
      added b = elim b [ true ↦ record l { log = l.log ++ n ∷ [] } | false ↦ record l { notes = l.notes ++ n ∷ []; log = l.log ++ n ∷ [] } ]

      by : (b : Bool) → ((added b).from ≡ l.from) × ((added b).to ≡ l.to)
      by true = (refl, refl)
      by false = (refl, refl)

  link_stays : (to : ℕ) (n : Note Name) (v : ℕ) (ls : List Link) (l : Link) → link_at u v ls ≡ Some l → (k : Link) × (link_at u v (with_link (pushed n) u to ls) ≡ Some k)
  link_stays to n v ls l e = by (same_or to to v v)
    where
      by : ((to ≡ v) × (to ≡ v)) ⊎ (to ≡ v → to ≡ v → ⊥) → (k : Link) × (link_at u v (with_link (pushed n) u to ls) ≡ Some k)
      by (inl j) = (pushed n l, ap (λ a. link_at u v (with_link (pushed n) u a ls)) j.0 ∙ link_same (pushed n) (λ z. (ends_stay n z).0) (λ z. (ends_stay n z).1) u v ls ∙ ap (option_map (pushed n)) e)
      by (inr j) = (l, link_other (pushed n) (λ z. (ends_stay n z).0) (λ z. (ends_stay n z).1) u to u v ls (λ a b. j b b) ∙ e)

  all_stay : (to : ℕ) (n : Note Name) (ls : List Link) (qs : List (Put Name)) → HaveLinks u ls qs → HaveLinks u (with_link (pushed n) u to ls) qs
  all_stay to n ls [] a = tt
  all_stay to n ls (q ∷ qs) a = (link_stays to n q.to ls a.0.0 a.0.1, all_stay to n ls qs a.1)

  all_made : (qs : List (Put Name)) (ls : List Link) → HaveLinks u ls qs → is_made hs h i (push_all u qs ls) ≡ either (is_made hs h i ls) (puts_make h i qs)
  unfolding push_all
  all_made [] ls a = sym (either_none (is_made hs h i ls))
  all_made (q ∷ qs) ls a =
      all_made qs (with_link (pushed q.note) u q.to ls) (all_stay q.to q.note ls qs a.1)
      ∙ ap (λ x. either x (puts_make h i qs)) (pushed_made q.to q.note ls a.0.0 a.0.1)
      ∙ either_joined (is_made hs h i ls) (makes h i q.to q.note) (puts_make h i qs)

pub gifts_mirror : GiftsMirror
gifts_mirror hs u f ps ls cs honest links same = (
  λ h i. gifts_claimed (made_by ps) cs h i ∙ either_two (same h i) (puts_claimed f h i ps) ∙ sym (all_made hs u honest h i (map (maps.put f) ps) ls links),
  all_claimed (made_by ps) cs,
)
