-- Changes of the ways by which no message goes on: a name leads elsewhere, a name that holds nothing is passed by, a link is cut.
use Rattle.std.specs.Prelude.{◌≡◌, ℕ, List, [], ◌⊎◌}
use Rattle.def_machine.specs.Values.{Name}
use Rattle.law_order.specs.Ordering.Ways.{Lane, Held, Way, Item, Place, Nowhere, Free, End, Mid, Ways, IsIn, IsOneWay, Doom, Ahead}
use Rattle.law_order.specs.Ordering.Changes.{Lacks}

-- nowhere, or the end of a lane
abbrev pub IsDefinite : Place → Type 0
IsDefinite Nowhere = Unit {0}
IsDefinite Free = ⊥
IsDefinite (End l n) = Unit {0}
IsDefinite (Mid l b n) = ⊥

-- from that place the way leads, at once or later, to the place e
pub data Comes (w : Ways) (e : Place) : Place → Type 0 where
  is_there : Comes w e e
  on_end : {l : Lane} {n : Name} → Comes w e (w.onward l n) → Comes w e (End l n)
  on_mid : {l : Lane} {b : List Item} {n : Name} → Comes w e (w.onward l n) → Comes w e (Mid l b n)

-- All that stands in the first list stands in the second.
abbrev pub Within : List Item → List Item → Type 0
Within b d = (i : Item) → IsIn i b → IsIn i d

-- What was at the first place before a change is at the second after it.
pub data Reroutes (w u : Ways) : Place → Place → Type 0 where
  stays_so : {c : Place} → Reroutes w u c c
  -- nothing was said of how it goes on
  said_now : {d : Place} → Reroutes w u Free d
  ends_now : {c d : Place} → Doom u d → Reroutes w u c d
  -- it has another name, from which the lane leads to the same place
  renamed_so : {l : Lane} {m n : Name} → u.onward l n ≡ u.onward l m → IsDefinite (u.onward l n) → Reroutes w u (End l n) (End l m)
  -- its way comes to that lane behind all that stood there
  behind_all : {l : Lane} {b : List Item} {n : Name} {d : Place} → Within (w.stands l) b → Comes u (Mid l b n) d → Reroutes w u (End l n) d
  -- it stood first in its lane, and goes on
  gone_on : {l : Lane} {n : Name} {d : Place} → Reroutes w u (w.onward l n) d → Reroutes w u (Mid l [] n) d

module _ (w u : Ways) where
  -- No message leaves its lane, links lead where they led, and what held messages wait for may be elsewhere.
  pub record IsTurned : Type 0 where
    pub stands : (l : Lane) → Within (w.stands l) (u.stands l)
    pub links : (a b : ℕ) (n : Name) → u.onward (Way a b) n ≡ w.onward (Way a b) n
    pub lanes : (l : Lane) (n : Name) → IsOneWay l → Reroutes w u (w.onward l n) (u.onward l n)

  -- Name p of vat v, which holds no message, leads to e, and what was to be held there goes to e at once: each place becomes what f tells.
  pub record IsPassed (v : ℕ) (p : Name) (e : Place) (f : Place → Place) : Type 0 where
    pub stands : (l : Lane) → Within (w.stands l) (u.stands l)
    pub none : (i : Item) → IsIn i (w.stands (Held v p)) → ⊥
    pub leads : (n : Name) → w.onward (Held v p) n ≡ e
    pub definite : IsDefinite e
    pub lanes : (l : Lane) (n : Name) → u.onward l n ≡ f (w.onward l n)
    pub there : (n : Name) → f (End (Held v p) n) ≡ e
    pub ends : (l : Lane) → ((n : Name) → f (End l n) ≡ End l n) ⊎ (l ≡ Held v p)
    pub nowhere_stays : f Nowhere ≡ Nowhere
    pub free_stays : f Free ≡ Free
    pub mids : (l : Lane) (b : List Item) (n : Name) → f (Mid l b n) ≡ Mid l b n

  -- What leads over the link from a to b, which is cut, may lead nowhere from now on: as the vat that notices the cut has it.
  pub record IsNoticed (a b : ℕ) (f : Place → Place) : Type 0 where
    pub stands : (l : Lane) → Within (w.stands l) (u.stands l)
    pub shut : (n : Name) → u.onward (Way a b) n ≡ Nowhere
    pub lanes : (l : Lane) (n : Name) → u.onward l n ≡ f (w.onward l n)
    pub there : (n : Name) → (f (End (Way a b) n) ≡ End (Way a b) n) ⊎ (f (End (Way a b) n) ≡ Nowhere)
    pub ends : (l : Lane) → ((n : Name) → f (End l n) ≡ End l n) ⊎ (l ≡ Way a b)
    pub nowhere_stays : f Nowhere ≡ Nowhere
    pub free_stays : f Free ≡ Free
    pub mids : (l : Lane) (b : List Item) (n : Name) → f (Mid l b n) ≡ Mid l b n

  -- The link from a to b is cut: no message stands there any more, and it leads nowhere. What was put there to let a gift go is gone, and its gift is doomed.
  pub record IsCut (a b : ℕ) : Type 0 where
    pub stands : (l : Lane) (i : Item) → IsIn i (w.stands l) → IsIn i (u.stands l) ⊎ (l ≡ Way a b)
    pub shut : (n : Name) → u.onward (Way a b) n ≡ Nowhere
    pub links : (c d : ℕ) → ((n : Name) → u.onward (Way c d) n ≡ w.onward (Way c d) n) ⊎ ((n : Name) → u.onward (Way c d) n ≡ Nowhere)
    pub lanes : (l : Lane) (n : Name) → (u.onward l n ≡ w.onward l n) ⊎ Doom u (u.onward l n)

-- the message x is in front of this place nowhere but on that link
abbrev pub OnlyOn : ℕ → ℕ → Name → Place → Type 0
OnlyOn a b x (Mid l js n) = Lacks x js ⊎ (l ≡ Way a b)
OnlyOn a b x Nowhere = Unit {0}
OnlyOn a b x Free = Unit {0}
OnlyOn a b x (End l n) = Unit {0}

-- ---- laws

abbrev pub TurningKeeps : Type 0
TurningKeeps = (w u : Ways) → IsTurned w u → (c d : Place) → Reroutes w u c d → (Doom w c → Doom u d) × ((x : Name) → Ahead w x c → Ahead u x d)

abbrev pub PassingByKeeps : Type 0
PassingByKeeps = (w u : Ways) (v : ℕ) (p : Name) (e : Place) (f : Place → Place) → IsPassed w u v p e f → (c : Place) → (Doom w c → Doom u (f c)) × ((x : Name) → Ahead w x c → Ahead u x (f c))

-- A message that did not stand on the link stays ahead; all that one was ahead of which stood there alone is doomed.
abbrev pub CuttingKeeps : Type 0
CuttingKeeps = (w u : Ways) (a b : ℕ) → IsCut w u a b → (c : Place) → (Doom w c → Doom u c)
    × ((x : Name) → Lacks x (w.stands (Way a b)) → Ahead w x c → Ahead u x c)
    × ((x : Name) → ((l : Lane) → Lacks x (u.stands l)) → ((l : Lane) (n : Name) → OnlyOn a b x (w.onward l n)) → OnlyOn a b x c → Ahead w x c → Doom u c)

abbrev pub NoticingKeeps : Type 0
NoticingKeeps = (w u : Ways) (a b : ℕ) (f : Place → Place) → IsNoticed w u a b f → (c : Place) → (Doom w c → Doom u (f c)) × ((x : Name) → Ahead w x c → Ahead u x (f c))
