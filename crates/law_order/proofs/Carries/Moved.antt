-- Each thing keeps its order as the first item of a lane leaves it, and through what changes before and after.
use Rattle.std.proofs.Common.{◌≡◌, ℕ, Bool, true, false, List, ◌∷◌, ◌++◌, refl, sym, ap, subst, ◌∙◌, [], ◌⊎◌, inl, inr}
use Rattle.std.proofs.lemmas.List.{append_assoc}
use Rattle.def_machine.specs.Values.{Value, Name, same_name}
use Rattle.law_order.specs.Ordering.Ways.{Lane, Way, Item, Place, Nowhere, Free, End, Mid, Ways, Doom, Ahead, doomed_there, IsIn}
use Rattle.law_order.specs.Ordering.Changes as changes
use Rattle.law_order.specs.Ordering.Changes.{Beheads, stays, nearer, Loses, nowhere_still, free_still, end_still, mid_still, mid_nearer, GoesOn, IsLost}
use Rattle.law_order.specs.Ordering.Leavings.{FirstLeft}
use Rattle.law_order.specs.Ordering.Messages.{More, StaysBehind, LacksAt}
use Rattle.law_order.proofs.Ordering.Changes.{self, Never, never, Slides, slide_self, slid, going_on_keeps, losing_keeps}
use Rattle.law_order.proofs.Ordering.Kept.{Turns, same_mid, turning, Change, kept}
use Rattle.law_order.proofs.Ordering.Lanes.{Same, same_lane}
use Rattle.law_order.proofs.Ordering.Messages.{behind_then}
use Rattle.law_order.proofs.Ordering.Named.{same_is, same_self}
use Rattle.law_order.proofs.Ordering.Standing.{more_then}
use Rattle.law_order.specs.Cuts.Cuts.{IsShutOff}
use Rattle.law_order.proofs.Cuts.Shut.{shutting_keeps}
use Rattle.law_order.specs.Carries.Carries.{StaysBehindBut}

pub last_in : (js : List Item) (i : Item) → IsIn i (js ++ i ∷ [])
last_in [] i = inl refl
last_in (j ∷ js) i = inr (last_in js i)

more_in : (js : List Item) (i j : Item) → IsIn j js → IsIn j (js ++ i ∷ [])
more_in [] i j h = absurd h
more_in (k ∷ js) i j (inl e) = inl e
more_in (k ∷ js) i j (inr h) = inr (more_in js i j h)

-- where each vat would send on each value
abbrev pub Leading : Type 0
Leading = ℕ → Value Name → Place

-- What is ahead stays ahead, and what is doomed stays doomed, of each reference and of each thing that stays where it stood; and messages come to the ends of lanes alone.
pub record Firm (w u : Ways) (f g : Leading) : Type 0 where
  pub references : (z : ℕ) (x : Value Name) → StaysBehind w u (f z x) (g z x)
  pub places : (l : Lane) (b : List Item) (n : Name) → StaysBehind w u (Mid l b n) (Mid l b n)
  pub more : (l : Lane) → More w u l

pub firm_then : (w u z : Ways) (f g h : Leading) → Firm w u f g → Firm u z g h → Firm w z f h
firm_then w u z f g h a b = record {
  references = λ k x. behind_then w u z (f k x) (g k x) (h k x) (a.references k x) (b.references k x);
  places = λ l c n. behind_then w u z (Mid l c n) (Mid l c n) (Mid l c n) (a.places l c n) (b.places l c n);
  more = λ l. more_then w u z l (a.more l) (b.more l);
}

-- In one change the first item of lane k leaves it.
pub record Leaves (w u : Ways) (k : Lane) (i : Item) : Type 0 where
  pub behind : (c d : Place) → Beheads k i c d → LacksAt i.mail d → StaysBehind w u c d
  pub left : FirstLeft w u k i

-- and all this, however it led before
pub record Carries (w u : Ways) (f g : Leading) (k : Lane) (i : Item) : Type 0 where
  pub references : (z : ℕ) (x : Value Name) → StaysBehind w u (f z x) (g z x)
  pub places : (l : Lane) (c d : List Item) (n : Name) → Beheads k i (Mid l c n) (Mid l d n) → LacksAt i.mail (Mid l d n) → StaysBehind w u (Mid l c n) (Mid l d n)
  pub left : FirstLeft w u k i

-- the same behind all messages but that one
pub record CarriesBut (w u : Ways) (f g : Leading) (k : Lane) (i : Item) : Type 0 where
  pub references : (z : ℕ) (x : Value Name) → StaysBehindBut i.mail w u (f z x) (g z x)
  pub places : (l : Lane) (c d : List Item) (n : Name) → Beheads k i (Mid l c n) (Mid l d n) → StaysBehindBut i.mail w u (Mid l c n) (Mid l d n)
  pub left : FirstLeft w u k i

-- ---- the lists

first_is : (i j : Item) (is js : List Item) → i ∷ is ≡ j ∷ js → is ≡ js
first_is i j is js e = cc

-- what was first before more came to the ends of lanes
first_then : (w u z : Ways) (k : Lane) (i : Item) (rest : List Item) → w.stands k ≡ i ∷ rest → ((l : Lane) → More w u l) → FirstLeft u z k i → FirstLeft w z k i
first_then w u z k i rest e m h = record {
  rest = rest;
  first = e;
  after =
      let came : i ∷ h.rest ≡ i ∷ (rest ++ (m k).0) = sym h.first ∙ (m k).1 ∙ ap (λ js. js ++ (m k).0) e in
      ((m k).0 ++ h.after.0, h.after.1 ∙ ap (λ js. js ++ h.after.0) (first_is i i h.rest (rest ++ (m k).0) came) ∙ append_assoc rest (m k).0 h.after.0);
  others = λ l f. more_then w u z l (m l) (h.others l f);
}

left_then : (w u z : Ways) (k : Lane) (i : Item) → FirstLeft w u k i → ((l : Lane) → More u z l) → FirstLeft w z k i
left_then w u z k i h m = record {
  rest = h.rest;
  first = h.first;
  after = (h.after.0 ++ (m k).0, (m k).1 ∙ ap (λ js. js ++ (m k).0) h.after.1 ∙ append_assoc h.rest h.after.0 (m k).0);
  others = λ l f. more_then w u z l (h.others l f) (m l);
}

-- ---- before and after

pub leaves_carries : (w u : Ways) (f g : Leading) (k : Lane) (i : Item) → Leaves w u k i → ((n : ℕ) (x : Value Name) → g n x ≡ f n x) → ((n : ℕ) (x : Value Name) → LacksAt i.mail (f n x)) → Carries w u f g k i
leaves_carries w u f g k i h same lacks = record {
  references = λ n x. subst (λ c. StaysBehind w u (f n x) c) (sym (same n x)) (h.behind (f n x) (f n x) stays (lacks n x));
  places = λ l c d n s q. h.behind (Mid l c n) (Mid l d n) s q;
  left = h.left;
}

pub firm_carries : (w u z : Ways) (f g h : Leading) (k : Lane) (i : Item) (rest : List Item) → w.stands k ≡ i ∷ rest → Firm w u f g → Carries u z g h k i → Carries w z f h k i
firm_carries w u z f g h k i rest e a b = record {
  references = λ n x. behind_then w u z (f n x) (g n x) (h n x) (a.references n x) (b.references n x);
  places = λ l c d n s q. behind_then w u z (Mid l c n) (Mid l c n) (Mid l d n) (a.places l c n) (b.places l c d n s q);
  left = first_then w u z k i rest e a.more b.left;
}

pub carries_then : (w u z : Ways) (f g h : Leading) (k : Lane) (i : Item) → Carries w u f g k i → Firm u z g h → Carries w z f h k i
carries_then w u z f g h k i a b = record {
  references = λ n x. behind_then w u z (f n x) (g n x) (h n x) (a.references n x) (b.references n x);
  places = λ l c d n s q. behind_then w u z (Mid l c n) (Mid l d n) (Mid l d n) (a.places l c d n s q) (b.places l d n);
  left = left_then w u z k i a.left b.more;
}

module _ (m : Name) (w u z : Ways) (c d e : Place) where
  behind_but : StaysBehind w u c d → StaysBehindBut m u z d e → StaysBehindBut m w z c e
  behind_but g h = (λ i. h.0 (g.0 i), λ x f i. h.1 x f (g.1 x i))

  but_behind : StaysBehindBut m w u c d → StaysBehind u z d e → StaysBehindBut m w z c e
  but_behind g h = (λ i. h.0 (g.0 i), λ x f i. h.1 x (g.1 x f i))

pub firm_but : (w u z : Ways) (f g h : Leading) (k : Lane) (i : Item) (rest : List Item) → w.stands k ≡ i ∷ rest → Firm w u f g → CarriesBut u z g h k i → CarriesBut w z f h k i
firm_but w u z f g h k i rest e a b = record {
  references = λ n x. behind_but i.mail w u z (f n x) (g n x) (h n x) (a.references n x) (b.references n x);
  places = λ l c d n s. behind_but i.mail w u z (Mid l c n) (Mid l c n) (Mid l d n) (a.places l c n) (b.places l c d n s);
  left = first_then w u z k i rest e a.more b.left;
}

pub but_then : (w u z : Ways) (f g h : Leading) (k : Lane) (i : Item) → CarriesBut w u f g k i → Firm u z g h → CarriesBut w z f h k i
but_then w u z f g h k i a b = record {
  references = λ n x. but_behind i.mail w u z (f n x) (g n x) (h n x) (a.references n x) (b.references n x);
  places = λ l c d n s. but_behind i.mail w u z (Mid l c n) (Mid l d n) (Mid l d n) (a.places l c d n s) (b.places l d n);
  left = left_then w u z k i a.left b.more;
}

-- ---- the change

-- it goes on to the end of another lane
pub goes_on_leaves : (w u : Ways) (a b : ℕ) (l : Lane) (i : Item) (n : Name) → GoesOn w u (Way a b) i l n → FirstLeft w u (Way a b) i → Leaves w u (Way a b) i
goes_on_leaves w u a b l i n g f = record { behind = λ c d h q. going_on_keeps w u (Way a b) l i n g tt c d h; left = f }

loses : (k : Lane) (i : Item) (c d : Place) → Beheads k i c d → LacksAt i.mail d → Loses k i c d
loses k i c Nowhere stays h = nowhere_still
loses k i c Free stays h = free_still
loses k i c (End l q) stays h = end_still
loses k i c (Mid l js q) stays h = mid_still h
loses k i c d nearer h = mid_nearer h

true_false : true ≡ false → ⊥
true_false e = cc

-- it is lost
pub lost_leaves : (w u : Ways) (a b : ℕ) (i : Item) → IsLost w u (Way a b) i → FirstLeft w u (Way a b) i → Leaves w u (Way a b) i
lost_leaves w u a b i g f = record { behind = λ c d h q. keeps c d (losing_keeps w u (Way a b) i g tt c d (loses (Way a b) i c d h q)); left = f }
  where
    ahead : (c d : Place) (x : Name) → ((x ≡ i.mail → ⊥) → Ahead w x c → Ahead u x d) → (Ahead w i.mail c → Doom u d) → Ahead w x c → Ahead u x d
    ahead c d x r s h = go (same_name x i.mail) refl
      where
        go : (t : Bool) → same_name x i.mail ≡ t → Ahead u x d
        go true e = doomed_there (s (subst (λ y. Ahead w y c) (same_is x i.mail e) h))
        go false e = r (λ q. true_false (sym (same_self i.mail) ∙ ap (λ y. same_name y i.mail) (sym q) ∙ e)) h

    keeps : (c d : Place) → (Doom w c → Doom u d) × ((x : Name) → (x ≡ i.mail → ⊥) → Ahead w x c → Ahead u x d) × (Ahead w i.mail c → Doom u d) → StaysBehind w u c d
    keeps c d h = (h.0, λ x. ahead c d x (h.1 x) h.2)

-- It goes on to a lane that is shut, and so is lost there. That is as though it came to stand there, and the lane was shut then.
module _ (w u : Ways) (a b : ℕ) (i : Item) (l : Lane) (n : Name) (g : changes.Leaves w u (Way a b) i) (lanes : (k : Lane) (o : Name) → Beheads (Way a b) i (w.onward k o) (u.onward k o)) (leads : u.onward (Way a b) i.aim ≡ End l n) (shut : (o : Name) → u.onward l o ≡ Nowhere) where
  abbrev It : Item
  It = record { mail = i.mail; aim = n }

  abbrev with_it : (k : Lane) → Same k l → List Item → List Item
  with_it k (inl e) js = js ++ It ∷ []
  with_it k (inr f) js = js

  abbrev Between : Ways
  Between = record { stands = λ k. with_it k (same_lane k l) (u.stands k); onward = λ k o. u.onward k o }

  still_in : (k : Lane) (c : Same k l) (js : List Item) (j : Item) → IsIn j js → IsIn j (with_it k c js)
  still_in k (inl e) js j h = more_in js It j h
  still_in k (inr f) js j h = h

  comes_there : (c : Same l l) (js : List Item) → IsIn It (with_it l c js)
  comes_there (inl e) js = last_in js It
  comes_there (inr f) js = absurd (f refl)

  left_first : (k : Lane) (j : Item) → IsIn j (u.stands k) ⊎ ((k ≡ Way a b) × (j ≡ i)) → IsIn j (Between.stands k) ⊎ ((k ≡ Way a b) × (j ≡ i))
  left_first k j (inl h) = inl (still_in k (same_lane k l) (u.stands k) j h)
  left_first k j (inr h) = inr h

  went_between : GoesOn w Between (Way a b) i l n
  went_between = record {
    leaves = record { stands = λ k j h. left_first k j (g.stands k j h); links = λ x y o. g.links x y o };
    lanes = λ k o. lanes k o;
    leads = leads;
    comes = comes_there (same_lane l l) (u.stands l);
  }

  shut_or : (k : Lane) (c : Same k l) (js : List Item) (j : Item) → IsIn j (with_it k c js) → IsIn j js ⊎ ((o : Name) → u.onward k o ≡ Nowhere)
  shut_or k (inl e) js j h = inr (λ o. ap (λ x. u.onward x o) e ∙ shut o)
  shut_or k (inr f) js j h = inl h

  shut_then : IsShutOff Between u
  shut_then = record {
    stands = λ k j h. shut_or k (same_lane k l) (u.stands k) j h;
    links = λ x y. inl (λ o. refl);
    lanes = λ k o. inl refl;
  }

  pub shut_leaves : FirstLeft w u (Way a b) i → Leaves w u (Way a b) i
  shut_leaves f = record { behind = λ c d h q. behind_then w Between u c d d (going_on_keeps w Between (Way a b) l i n went_between tt c d h) (shutting_keeps Between u shut_then d); left = f }

-- Wherever it goes, all others keep what is behind them.
module _ (w u : Ways) (k : Lane) (i : Item) (g : changes.Leaves w u k i) (lanes : (l : Lane) (o : Name) → Beheads k i (w.onward l o) (u.onward l o)) where
  module _ (x : Name) (other : x ≡ i.mail → ⊥) where
    abbrev At : Name → Item
    At m = record { mail = x; aim = m }

    not_it : (m : Name) → At m ≡ i → ⊥
    not_it m e = other (ap (λ (j : Item). j.mail) e)

    still : (l : Lane) (m : Name) → IsIn (At m) (u.stands l) ⊎ ((l ≡ k) × (At m ≡ i)) → (Unit {0} × IsIn (At m) (u.stands l)) ⊎ Never l m
    still l m (inl j) = inl (tt, j)
    still l m (inr e) = absurd (not_it m e.1)

    near : (b : List Item) (m : Name) → (At m ≡ i) ⊎ IsIn (At m) b → (Unit {0} × IsIn (At m) b) ⊎ Never k m
    near b m (inl e) = absurd (not_it m e)
    near b m (inr j) = inl (tt, j)

    turns : (c d : Place) → Beheads k i c d → Turns w u x (Unit {0}) Never c d
    turns c d stays = self w u x Never c
    turns c d (nearer {b = b}) = same_mid (λ m j. near b m j)

    change : Change w u x (Unit {0}) Never (λ c. c)
    change = record {
      standing = λ l m j. still l m (g.stands l (At m) j);
      lanes = λ l n. turns (w.onward l n) (u.onward l n) (lanes l n);
      links = λ a b. inl (λ n. g.links a b n);
      places = λ c. turning (self w u x Never c);
      ends = λ l. inl (λ n. refl);
    }

    ahead_still : (c d : Place) → Beheads k i c d → Ahead w x c → Ahead u x d
    ahead_still c d b h = kept w u x (Unit {0}) Never (λ q. q) change (Ahead u x) (never w u x) c h d (turns c d b)

  slides : (c d : Place) → Beheads k i c d → Slides w u c d
  slides c d stays = slide_self w u c
  slides c d nearer = same_mid (λ m j. inr tt)

  pub others_keep : (c d : Place) → Beheads k i c d → StaysBehindBut i.mail w u c d
  others_keep c d b = (λ h. slid w u (λ l n. slides (w.onward l n) (u.onward l n) (lanes l n)) g.links c d (slides c d b) h, λ x f h. ahead_still x f c d b h)
