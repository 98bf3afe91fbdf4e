-- The single changes keep what is ahead.
use Rattle.std.proofs.Common.{◌≡◌, ℕ, List, [], refl, sym, ap, subst, ◌∙◌, ◌⊎◌, inl, inr}
use Rattle.def_machine.specs.Values.{Name, Root}
use Rattle.law_order.specs.Ordering.Ways.{Lane, Queue, Held, Way, Item, Place, Nowhere, Free, End, Mid, Ways, IsIn, IsOneWay, Doom, nowhere, by_end, by_mid, Follows, doomed, one_way, alike, beside, Ahead, doomed_there, in_end, in_mid, past_mid}
use Rattle.law_order.specs.Ordering.Changes.{Beheads, stays, nearer, Lacks, Loses, nowhere_still, free_still, end_still, mid_still, mid_nearer, Grows, GoesOn, IsLost, IsTaken, GoesOneWay, HeadsAreFree, SentIsAhead, GrowingKeeps, GoingOnKeeps, LosingKeeps, TakingKeeps}
use Rattle.law_order.proofs.Ordering.Kept.{Turns, from_free, to_doom, same_end, same_mid, Goes, turning, between, Change, Holds, kept, doom_kept, doom_closed, ahead_closed, doom_free, behind_nowhere}

-- ---- the head of a queue

pub ahead_free : (w : Ways) (x : Name) (c : Place) → c ≡ Free → Ahead w x c → ⊥
ahead_free w x c e h = none (subst (Ahead w x) e h)
  where
    none : Ahead w x Free → ⊥
    none (doomed_there d) = doom_free w d

head_alone : (w : Ways) (v : ℕ) (n x : Name) → w.onward (Queue v) n ≡ Free → Ahead w x (Mid (Queue v) [] n) → ⊥
head_alone w v n x e (doomed_there (by_mid h)) = doom_free w (subst (Doom w) e h)
head_alone w v n x e (in_mid i h) = i
head_alone w v n x e (past_mid h) = ahead_free w x (w.onward (Queue v) n) e h

head_free : (w : Ways) (v : ℕ) (n : Name) → w.onward (Queue v) n ≡ Free → Doom w (Mid (Queue v) [] n) → ⊥
head_free w v n e (by_mid h) = doom_free w (subst (Doom w) e h)

pub heads_are_free : HeadsAreFree
heads_are_free = λ w v n e. (λ x h. head_alone w v n x e h, λ h. head_free w v n e h)

pub sent_is_ahead : SentIsAhead
sent_is_ahead = λ w l x n i. in_end i alike

-- ---- what remains where it is

-- the message remains in the ways
module _ (w u : Ways) (x : Name) (Went : Lane → Name → Type 0) where
  pub self : (c : Place) → Turns w u x (Unit {0}) Went c c
  self Nowhere = to_doom nowhere
  self Free = from_free
  self (End l n) = same_end
  self (Mid l b n) = same_mid (λ m i. inl (tt, i))

  pub equal : (c d : Place) → d ≡ c → Turns w u x (Unit {0}) Went c d
  equal c d e = rw e (self c)

  pub remains : ((l : Lane) (m n : Name) → Went l m → Follows u (End l m) (End l n) → Ahead u x (u.onward l n)) → Holds w u x (Unit {0}) Went (Ahead u x)
  remains g = record { closed = ahead_closed u x; in_place = λ s l m n i h. in_end i h; in_front = λ s l b m n i h. in_mid i h; went = g }

-- of doom alone: it asks nothing of what stands in a lane
abbrev pub Any : Lane → Name → Type 0
Any l n = Unit {0}

-- a name, where any will do
pub some_name : Name
some_name = Root 0

module _ (w u : Ways) where
  abbrev pub Slides : Place → Place → Type 0
  Slides = Turns w u some_name ⊥ Any

  pub slide_self : (c : Place) → Slides c c
  slide_self Nowhere = to_doom nowhere
  slide_self Free = from_free
  slide_self (End l n) = same_end
  slide_self (Mid l b n) = same_mid (λ m i. inr tt)

  pub slide : ((l : Lane) (n : Name) → Slides (w.onward l n) (u.onward l n)) → ((a b : ℕ) (n : Name) → u.onward (Way a b) n ≡ w.onward (Way a b) n) → Change w u some_name ⊥ Any (λ c. c)
  slide f g = record { standing = λ l m i. inr tt; lanes = f; links = λ a b. inl (λ n. g a b n); places = λ c. turning (slide_self c); ends = λ l. inl (λ n. refl) }

  -- what is doomed stays so where each lane leads so
  pub slid : ((l : Lane) (n : Name) → Slides (w.onward l n) (u.onward l n)) → ((a b : ℕ) (n : Name) → u.onward (Way a b) n ≡ w.onward (Way a b) n) → (c d : Place) → Slides c d → Doom w c → Doom u d
  slid f g c d t h = doom_kept w u some_name ⊥ Any (λ q. q) (slide f g) c h d t

  pub slide_equal : (c d : Place) → d ≡ c → Slides c d
  slide_equal c d e = rw e (slide_self c)

  slide_beheaded : (l : Lane) (i : Item) (c d : Place) → Beheads l i c d → Slides c d
  slide_beheaded l i c d stays = slide_self c
  slide_beheaded l i c d nearer = same_mid (λ m j. inr tt)

  slide_lost : (l : Lane) (i : Item) (c d : Place) → Loses l i c d → Slides c d
  slide_lost l i c d nowhere_still = slide_self Nowhere
  slide_lost l i c d free_still = slide_self Free
  slide_lost l i c d (end_still {k = k} {n = n}) = slide_self (End k n)
  slide_lost l i c d (mid_still {k = k} {b = b} {n = n} j) = slide_self (Mid k b n)
  slide_lost l i c d (mid_nearer j) = same_mid (λ m q. inr tt)

-- ---- growth

abbrev pub Never : Lane → Name → Type 0
Never l n = ⊥

pub never : (w u : Ways) (x : Name) → Holds w u x (Unit {0}) Never (Ahead u x)
never w u x = remains w u x Never (λ l m n g h. absurd g)

grown_lane : (w u : Ways) (x : Name) (l : Lane) (n : Name) → (u.onward l n ≡ w.onward l n) ⊎ (IsOneWay l × (w.onward l n ≡ Free)) → Turns w u x (Unit {0}) Never (w.onward l n) (u.onward l n)
grown_lane w u x l n (inl e) = equal w u x Never (w.onward l n) (u.onward l n) e
grown_lane w u x l n (inr e) = rw e.1 from_free

grown_link : (w u : Ways) (a b : ℕ) (n : Name) → (u.onward (Way a b) n ≡ w.onward (Way a b) n) ⊎ (⊥ × (w.onward (Way a b) n ≡ Free)) → u.onward (Way a b) n ≡ w.onward (Way a b) n
grown_link w u a b n (inl e) = e
grown_link w u a b n (inr e) = absurd e.0

grown : (w u : Ways) (x : Name) → Grows w u → Change w u x (Unit {0}) Never (λ c. c)
grown w u x g = record {
  standing = λ l m i. inl (tt, g.stands l (record { mail = x; aim = m }) i);
  lanes = λ l n. grown_lane w u x l n (g.onward l n);
  links = λ a b. inl (λ n. grown_link w u a b n (g.onward (Way a b) n));
  places = λ c. turning (self w u x Never c);
  ends = λ l. inl (λ n. refl);
}

pub growing_keeps : GrowingKeeps
growing_keeps = λ w u g c. (
  λ h. doom_kept w u some_name (Unit {0}) Never (λ c. c) (grown w u some_name g) c h c (self w u some_name Never c),
  λ x h. kept w u x (Unit {0}) Never (λ c. c) (grown w u x g) (Ahead u x) (never w u x) c h c (self w u x Never c),
)

-- ---- a message goes on

-- the message stands at the end of that lane
abbrev StandsAt : Ways → Name → Place → Type 0
StandsAt w x (End l m) = IsIn (record { mail = x; aim = m }) (w.stands l)
StandsAt w x other = ⊥

put_ahead : (w : Ways) (x : Name) (c d : Place) → StandsAt w x c → Follows w c d → Ahead w x d
put_ahead w x c d s (doomed h) = doomed_there h
put_ahead w x c d s (one_way i) = in_end s (one_way i)
put_ahead w x c d s alike = in_end s alike
put_ahead w x c d s (beside h) = in_end s (beside h)

module _ (P : Place → Type 0) (w : Ways) where
  abbrev NextHas : Place → Type 0
  NextHas (End l n) = P (w.onward l n)
  NextHas other = Unit {0}

  doomed_next : ((c : Place) → Doom w c → P c) → (d : Place) → Doom w d → NextHas d
  doomed_next f d nowhere = tt
  doomed_next f d (by_end {l = l} {n = n} h) = f (w.onward l n) h
  doomed_next f d (by_mid h) = tt

-- from that place the way leads to the place e
abbrev LeadsTo : Ways → Place → Place → Type 0
LeadsTo w e (End l m) = (w.onward l m ≡ e) × GoesOneWay w l
LeadsTo w e other = ⊥

abbrev IsNotFree : Place → Type 0
IsNotFree Free = ⊥
IsNotFree other = Unit {0}

not_free : (c d : Place) → c ≡ d → IsNotFree c → d ≡ Free → ⊥
not_free c d e i f = subst IsNotFree (e ∙ f) i

all_lead : (P : Place → Type 0) (w : Ways) (e : Place) (l : Lane) (m n : Name) → IsNotFree e → IsOneWay l → w.onward l m ≡ e → GoesOneWay w l → P e → P (w.onward l n)
all_lead P w e (Queue v) m n f i h o p = absurd (not_free e (w.onward (Queue v) m) (sym h) f (o m))
all_lead P w e (Held v q) m n f i h o p = subst P (sym h ∙ o m n) p
all_lead P w e (Way a b) m n f i h o p = absurd i

-- behind what went on to a place, where what follows that place has P
next_has : (P : Place → Type 0) (w : Ways) (e : Place) → IsNotFree e → P e → ((d : Place) → Follows w e d → P d) → ((c : Place) → Doom w c → P c) → (c d : Place) → LeadsTo w e c → Follows w c d → NextHas P w d
next_has P w e f p g z c d t (doomed h) = doomed_next P w z d h
next_has P w e f p g z c d t (one_way {l = l} {m = m} {n = n} i) = all_lead P w e l m n f i t.0 t.1 p
next_has P w e f p g z c d t alike = subst P (sym t.0) p
next_has P w e f p g z c d t (beside {l = l} {m = m} {n = n} h) = g (w.onward l n) (subst (λ q. Follows w q (w.onward l n)) t.0 h)

module _ (w u : Ways) (l k : Lane) (i : Item) (o : Name) (g : GoesOn w u l i k o) (one : GoesOneWay u l) where
  abbrev Goer : Name → Lane → Name → Type 0
  Goer x h m = (h ≡ l) × (record { mail = x; aim = m } ≡ i)

  goer_left : (x : Name) (h : Lane) (m : Name) → IsIn (record { mail = x; aim = m }) (u.stands h) ⊎ ((h ≡ l) × (record { mail = x; aim = m } ≡ i)) → (Unit {0} × IsIn (record { mail = x; aim = m }) (u.stands h)) ⊎ Goer x h m
  goer_left x h m (inl j) = inl (tt, j)
  goer_left x h m (inr e) = inr e

  goer_near : (x : Name) (b : List Item) (m : Name) → (record { mail = x; aim = m } ≡ i) ⊎ IsIn (record { mail = x; aim = m }) b → (Unit {0} × IsIn (record { mail = x; aim = m }) b) ⊎ Goer x l m
  goer_near x b m (inl e) = inr (refl, e)
  goer_near x b m (inr j) = inl (tt, j)

  goer_turns : (x : Name) (c d : Place) → Beheads l i c d → Turns w u x (Unit {0}) (Goer x) c d
  goer_turns x c d stays = self w u x (Goer x) c
  goer_turns x c d (nearer {b = b}) = same_mid (λ m j. goer_near x b m j)

  goer_change : (x : Name) → Change w u x (Unit {0}) (Goer x) (λ c. c)
  goer_change x = record {
    standing = λ h m j. goer_left x h m (g.leaves.stands h (record { mail = x; aim = m }) j);
    lanes = λ h n. goer_turns x (w.onward h n) (u.onward h n) (g.lanes h n);
    links = λ a b. inl (λ n. g.leaves.links a b n);
    places = λ c. turning (self w u x (Goer x) c);
    ends = λ h. inl (λ n. refl);
  }

  goer_leads : (x : Name) (h : Lane) (m : Name) → Goer x h m → LeadsTo u (End k o) (End h m)
  goer_leads x h m t = (subst (λ q. u.onward q m ≡ End k o) (sym t.0) (subst (λ q. u.onward l q ≡ End k o) (sym (ap (λ (j : Item). j.aim) t.1)) g.leads), subst (GoesOneWay u) (sym t.0) one)

  goer_comes : (x : Name) (h : Lane) (m : Name) → Goer x h m → IsIn (record { mail = x; aim = o }) (u.stands k)
  goer_comes x h m t = subst (λ q. IsIn (record { mail = q; aim = o }) (u.stands k)) (sym (ap (λ (j : Item). j.mail) t.1)) g.comes

  goer_went : (x : Name) (h : Lane) (m n : Name) → Goer x h m → Follows u (End h m) (End h n) → Ahead u x (u.onward h n)
  goer_went x h m n t f = let j = goer_comes x h m t in next_has (Ahead u x) u (End k o) tt (in_end j alike) (λ d q. put_ahead u x (End k o) d j q) (λ c z. doomed_there z) (End h m) (End h n) (goer_leads x h m t) f

  goer_kept : (c d : Place) → Beheads l i c d → (Doom w c → Doom u d) × ((x : Name) → Ahead w x c → Ahead u x d)
  goer_kept c d b = (
    λ h. doom_kept w u some_name (Unit {0}) (Goer some_name) (λ q. q) (goer_change some_name) c h d (goer_turns some_name c d b),
    λ x h. kept w u x (Unit {0}) (Goer x) (λ q. q) (goer_change x) (Ahead u x) (remains w u x (Goer x) (λ y m n t f. goer_went x y m n t f)) c h d (goer_turns x c d b),
  )

pub going_on_keeps : GoingOnKeeps
going_on_keeps = λ w u l k i o g one c d b. goer_kept w u l k i o g one c d b

-- ---- a message is taken

module _ (w u : Ways) (v : ℕ) (i : Item) (g : IsTaken w u v i) where
  taken_left : (x : Name) → (x ≡ i.mail → ⊥) → (h : Lane) (m : Name) → IsIn (record { mail = x; aim = m }) (u.stands h) ⊎ ((h ≡ Queue v) × (record { mail = x; aim = m } ≡ i)) → (Unit {0} × IsIn (record { mail = x; aim = m }) (u.stands h)) ⊎ Never h m
  taken_left x ne h m (inl j) = inl (tt, j)
  taken_left x ne h m (inr e) = absurd (ne (ap (λ (j : Item). j.mail) e.1))

  taken_near : (x : Name) → (x ≡ i.mail → ⊥) → (b : List Item) (m : Name) → (record { mail = x; aim = m } ≡ i) ⊎ IsIn (record { mail = x; aim = m }) b → (Unit {0} × IsIn (record { mail = x; aim = m }) b) ⊎ Never (Queue v) m
  taken_near x ne b m (inl e) = absurd (ne (ap (λ (j : Item). j.mail) e))
  taken_near x ne b m (inr j) = inl (tt, j)

  taken_turns : (x : Name) → (x ≡ i.mail → ⊥) → (c d : Place) → Beheads (Queue v) i c d → Turns w u x (Unit {0}) Never c d
  taken_turns x ne c d stays = self w u x Never c
  taken_turns x ne c d (nearer {b = b}) = same_mid (λ m j. taken_near x ne b m j)

  taken_change : (x : Name) → (x ≡ i.mail → ⊥) → Change w u x (Unit {0}) Never (λ c. c)
  taken_change x ne = record {
    standing = λ h m j. taken_left x ne h m (g.leaves.stands h (record { mail = x; aim = m }) j);
    lanes = λ h n. equal w u x Never (w.onward h n) (u.onward h n) (g.lanes h n);
    links = λ a b. inl (λ n. g.leaves.links a b n);
    places = λ c. turning (self w u x Never c);
    ends = λ h. inl (λ n. refl);
  }

  taken_kept : (c d : Place) → Beheads (Queue v) i c d → (Doom w c → Doom u d) × ((x : Name) → (x ≡ i.mail → ⊥) → Ahead w x c → Ahead u x d)
  taken_kept c d b = (
    λ h. slid w u (λ l n. slide_equal w u (w.onward l n) (u.onward l n) (g.lanes l n)) g.leaves.links c d (slide_beheaded w u (Queue v) i c d b) h,
    λ x ne h. kept w u x (Unit {0}) Never (λ q. q) (taken_change x ne) (Ahead u x) (never w u x) c h d (taken_turns x ne c d b),
  )

pub taking_keeps : TakingKeeps
taking_keeps = λ w u v i g c d b. taken_kept w u v i g c d b

-- ---- a message is lost

module _ (w u : Ways) (l : Lane) (i : Item) (g : IsLost w u l i) (one : GoesOneWay u l) where
  -- of the others
  other_left : (x : Name) → (x ≡ i.mail → ⊥) → (h : Lane) (m : Name) → IsIn (record { mail = x; aim = m }) (u.stands h) ⊎ ((h ≡ l) × (record { mail = x; aim = m } ≡ i)) → (Unit {0} × IsIn (record { mail = x; aim = m }) (u.stands h)) ⊎ Never h m
  other_left x ne h m (inl j) = inl (tt, j)
  other_left x ne h m (inr e) = absurd (ne (ap (λ (j : Item). j.mail) e.1))

  other_near : (x : Name) → (x ≡ i.mail → ⊥) → (b : List Item) (m : Name) → (record { mail = x; aim = m } ≡ i) ⊎ IsIn (record { mail = x; aim = m }) b → (Unit {0} × IsIn (record { mail = x; aim = m }) b) ⊎ Never l m
  other_near x ne b m (inl e) = absurd (ne (ap (λ (j : Item). j.mail) e))
  other_near x ne b m (inr j) = inl (tt, j)

  other_turns : (x : Name) → (x ≡ i.mail → ⊥) → (c d : Place) → Loses l i c d → Turns w u x (Unit {0}) Never c d
  other_turns x ne c d nowhere_still = self w u x Never Nowhere
  other_turns x ne c d free_still = self w u x Never Free
  other_turns x ne c d (end_still {k = k} {n = n}) = self w u x Never (End k n)
  other_turns x ne c d (mid_still {k = k} {b = b} {n = n} j) = self w u x Never (Mid k b n)
  other_turns x ne c d (mid_nearer {b = b} j) = same_mid (λ m q. other_near x ne b m q)

  other_change : (x : Name) → (x ≡ i.mail → ⊥) → Change w u x (Unit {0}) Never (λ c. c)
  other_change x ne = record {
    standing = λ h m j. other_left x ne h m (g.leaves.stands h (record { mail = x; aim = m }) j);
    lanes = λ h n. other_turns x ne (w.onward h n) (u.onward h n) (g.lanes h n);
    links = λ a b. inl (λ n. g.leaves.links a b n);
    places = λ c. turning (self w u x Never c);
    ends = λ h. inl (λ n. refl);
  }

  -- of the message itself
  abbrev Lost : Lane → Name → Type 0
  Lost h m = (h ≡ l) × (record { mail = i.mail; aim = m } ≡ i)

  abbrev Falls : Place → Place → Type 0
  Falls = Turns w u i.mail ⊥ Lost

  lost_left : (h : Lane) (m : Name) → IsIn (record { mail = i.mail; aim = m }) (u.stands h) ⊎ Lost h m → (⊥ × IsIn (record { mail = i.mail; aim = m }) (u.stands h)) ⊎ Lost h m
  lost_left h m (inl j) = absurd (g.only h m j)
  lost_left h m (inr e) = inr e

  lost_near : (b : List Item) → Lacks i.mail b → (m : Name) → (record { mail = i.mail; aim = m } ≡ i) ⊎ IsIn (record { mail = i.mail; aim = m }) b → (⊥ × IsIn (record { mail = i.mail; aim = m }) b) ⊎ Lost l m
  lost_near b j m (inl e) = inr (refl, e)
  lost_near b j m (inr q) = absurd (j m q)

  falls : (c d : Place) → Loses l i c d → Falls c d
  falls c d nowhere_still = to_doom nowhere
  falls c d free_still = from_free
  falls c d end_still = same_end
  falls c d (mid_still j) = same_mid (λ m q. absurd (j m q))
  falls c d (mid_nearer {b = b} j) = same_mid (λ m q. lost_near b j m q)

  fall : (c : Place) → Goes w u i.mail ⊥ Lost c c
  fall Nowhere = turning (to_doom nowhere)
  fall Free = turning from_free
  fall (End k n) = turning same_end
  fall (Mid k b n) = between

  lost_change : Change w u i.mail ⊥ Lost (λ c. c)
  lost_change = record {
    standing = λ h m j. lost_left h m (g.leaves.stands h (record { mail = i.mail; aim = m }) j);
    lanes = λ h n. falls (w.onward h n) (u.onward h n) (g.lanes h n);
    links = λ a b. inl (λ n. g.leaves.links a b n);
    places = λ c. fall c;
    ends = λ h. inl (λ n. refl);
  }

  lost_leads : (h : Lane) (m : Name) → Lost h m → LeadsTo u Nowhere (End h m)
  lost_leads h m t = (subst (λ q. u.onward q m ≡ Nowhere) (sym t.0) (subst (λ q. u.onward l q ≡ Nowhere) (sym (ap (λ (j : Item). j.aim) t.1)) g.leads), subst (GoesOneWay u) (sym t.0) one)

  lost_went : (h : Lane) (m n : Name) → Lost h m → Follows u (End h m) (End h n) → Doom u (u.onward h n)
  lost_went h m n t f = next_has (Doom u) u Nowhere tt nowhere (λ d q. behind_nowhere u d q) (λ c z. z) (End h m) (End h n) (lost_leads h m t) f

  lost_holds : Holds w u i.mail ⊥ Lost (Doom u)
  lost_holds = record { closed = doom_closed u; in_place = λ s l m n i h. absurd s; in_front = λ s l b m n i h. absurd s; went = λ h m n t f. lost_went h m n t f }

  lost_kept : (c d : Place) → Loses l i c d → (Doom w c → Doom u d) × ((x : Name) → (x ≡ i.mail → ⊥) → Ahead w x c → Ahead u x d) × (Ahead w i.mail c → Doom u d)
  lost_kept c d b = (
    λ h. slid w u (λ k n. slide_lost w u l i (w.onward k n) (u.onward k n) (g.lanes k n)) g.leaves.links c d (slide_lost w u l i c d b) h,
    λ x ne h. kept w u x (Unit {0}) Never (λ q. q) (other_change x ne) (Ahead u x) (never w u x) c h d (other_turns x ne c d b),
    λ h. kept w u i.mail ⊥ Lost (λ q. q) lost_change (Doom u) lost_holds c h d (falls c d b),
  )

pub losing_keeps : LosingKeeps
losing_keeps = λ w u l i g one c d b. lost_kept w u l i g one c d b
