-- Where the messages of a run come from: the line that sent each, and what its arguments were on the way.
use Rattle.std.specs.Prelude.{◌≡◌, ℕ, List, [], ◌∷◌, None, Some, slice_get, ◌⊎◌, codes}
use Rattle.def_machine.specs.Values.{Words, Value, Null, Flag, Number, Letter, Text, Prim, Broken, Items, Ref, Name, Object, Gift, Foreign, spot_of}
use Rattle.def_machine.specs.State.{Message, Delivery, Deliver, Passed, Passeds, Plain, AGift, Many, NoMore, More, Open, Known, Happened, Sends, Reacts, Settles, Views, Vat}
use Rattle.def_machine.specs.Refs.{highest, most, room_after}
use Rattle.def_run.specs.World.{Link, Carried, NoticedAt, Here, World, link_at}
use Rattle.law_uses.specs.Connectivity.Known.{IsAmong}

-- ---- how an argument passes

-- Which lines a vat has told.
module _ (line : Happened Name → Type 0) where
  -- a value leads to another: in any number of steps, by what names settled to and by what their views are
  pub data LeadsTo : Value Name → Value Name → Type 0 where
    itself : {x : Value Name} → LeadsTo x x
    settled : {z : Value Name} (n : Name) (y : Value Name) → line (Settles n y) → LeadsTo y z → LeadsTo (Ref n) z
    viewed : {z : Value Name} (n q : Name) → line (Views n q) → LeadsTo (Ref q) z → LeadsTo (Ref n) z

-- Besides, which members its lists have (a list that is not there has none), which name it opened as its gift of that host and draw, and which name is of a vat whose cut it noticed.
module _ (line : Happened Name → Type 0) (list : ℕ → List (Value Name) → Type 0) (opened : ℕ → ℕ → Name → Type 0) (gone : Name → Type 0) where
  -- A list is above the limits: with what its values were followed to, and with the members that its lists had, there is no room for it.
  pub record IsTooHeavy (k : ℕ) : Type 0 where
    pub followed : Value Name → Value Name
    pub lists : List (List (Value Name))
    pub leads : (x : Value Name) → LeadsTo line x (followed x) ⊎ ((n : Name) × LeadsTo line x (Ref n) × gone n × (followed x ≡ Broken (codes "partition")))
    pub there : (j : ℕ) (vs : List (Value Name)) → slice_get lists j ≡ Some vs → list j vs
    pub heavy : room_after followed lists highest (Items k) most ≡ None

  -- Data, and each name, is what the value leads to; or it leads to a name that is severed, or to a list above the limits, and passes as that problem. No list passes by its number.
  abbrev pub PassesPlain : Value Name → Value Name → Type 0
  PassesPlain x (Broken p) = LeadsTo line x (Broken p) ⊎ ((n : Name) × LeadsTo line x (Ref n) × gone n × (p ≡ codes "partition")) ⊎ ((k : ℕ) × LeadsTo line x (Items k) × IsTooHeavy k × (p ≡ codes "too heavy"))
  PassesPlain x (Items k) = ⊥
  PassesPlain x (Ref n) = LeadsTo line x (Ref n)
  PassesPlain x Null = LeadsTo line x Null
  PassesPlain x (Flag b) = LeadsTo line x (Flag b)
  PassesPlain x (Number z) = LeadsTo line x (Number z)
  PassesPlain x (Letter c) = LeadsTo line x (Letter c)
  PassesPlain x (Text t) = LeadsTo line x (Text t)
  PassesPlain x (Prim i) = LeadsTo line x (Prim i)

  abbrev mutual
    -- what a value of its sender stands as in a note
    pub PassesAs : Value Name → Passed Name → Type 0
    PassesAs x (Plain y) = PassesPlain x y
    PassesAs x (AGift h i) = (n : Name) × LeadsTo line x (Ref n) × opened h i n
    PassesAs x (Many ys) = (k : ℕ) × (vs : List (Value Name)) × LeadsTo line x (Items k) × (list k vs ⊎ (vs ≡ [])) × PassAll vs ys

    pub PassAll : List (Value Name) → Passeds Name → Type 0
    PassAll [] NoMore = Unit {0}
    PassAll (x ∷ xs) (More y ys) = PassesAs x y × PassAll xs ys
    PassAll [] (More y ys) = ⊥
    PassAll (x ∷ xs) NoMore = ⊥

-- ---- how it is learnt

module _ (list : ℕ → List (Value Name) → Type 0) where
  abbrev mutual
    -- what stands so in a note is that to its receiver
    pub ComesAs : Passed Name → Value Name → Type 0
    ComesAs (Plain y) v = v ≡ y
    ComesAs (AGift h i) v = v ≡ Ref (Gift h i)
    ComesAs (Many ys) v = (k : ℕ) × (vs : List (Value Name)) × (v ≡ Items k) × list k vs × ComeAll ys vs

    pub ComeAll : Passeds Name → List (Value Name) → Type 0
    ComeAll NoMore [] = Unit {0}
    ComeAll (More y ys) (v ∷ vs) = ComesAs y v × ComeAll ys vs
    ComeAll NoMore (v ∷ vs) = ⊥
    ComeAll (More y ys) [] = ⊥

-- ---- hosts

-- among what is known, that name is of that vat
abbrev pub HostIn : List (Known Name) → Name → ℕ → Type 0
HostIn ks n u = (k : Known Name) × IsAmong k ks × (k.name ≡ n) × (k.host ≡ u)

-- A name is of that vat: it is an object there, or what the vat knows of it is told by that one. What a vat does not know it takes for its own.
abbrev pub IsOf : Vat Name → ℕ → Name → Type 0
IsOf s u n = ((i : ℕ) × (n ≡ Object u i)) ⊎ HostIn s.known n u ⊎ (s.number ≡ u)

-- ---- in a world

module _ (w : World) where
  -- a line of that vat
  abbrev pub HasLine : ℕ → Happened Name → Type 0
  HasLine v e = IsAmong (Here v e) w.history

  -- its list of that number has these members
  abbrev pub HasList : ℕ → ℕ → List (Value Name) → Type 0
  HasList v k vs = (s : Vat Name) × (slice_get w.vats v ≡ Some s) × (slice_get s.lists k ≡ Some vs)

  -- vat h is not vat v: an object is there, or that is not the vat's number
  abbrev pub IsApart : ℕ → ℕ → Name → Type 0
  IsApart v h n = (spot_of v n ≡ Foreign h) ⊎ ((s : Vat Name) × (slice_get w.vats v ≡ Some s) × (h ≡ s.number → ⊥))

  -- It told vat h, another one, that its gift of draw i is that name. The log of a link has every note that was put on it, also those that were lost.
  abbrev pub HasOpened : ℕ → ℕ → ℕ → Name → Type 0
  HasOpened v h i n = ((l : Link) → link_at v h w.links ≡ Some l → IsAmong (Open i n) l.log) × IsApart v h n

  -- a line tells that it noticed the cut of that vat
  abbrev pub HasNoticed : ℕ → ℕ → Type 0
  HasNoticed v u = (k : ℕ) × IsAmong (NoticedAt k v u) w.history

  -- it noticed the cut of the vat that the name is of
  abbrev pub HasGone : ℕ → Name → Type 0
  HasGone v n = (u : ℕ) × HasNoticed v u × (s : Vat Name) × (slice_get w.vats v ≡ Some s) × IsOf s u n

  -- arguments of vat u pass as these
  abbrev pub ArgsPass : ℕ → List (Value Name) → Passeds Name → Type 0
  ArgsPass u xs ys = PassAll (HasLine u) (HasList u) (HasOpened u) (HasGone u) xs ys

  -- a deliver note of this message was carried from vat u to vat v
  abbrev pub HasCarried : ℕ → ℕ → Name → Name → Words → Passeds Name → Type 0
  HasCarried u v id z verb ys = (k : ℕ) × (d : Delivery Name) × (bytes : List ℕ) × (d.message ≡ id) × IsAmong (Carried k u v (Deliver d z verb ys) bytes) w.history

  -- A message at vat v that is no reaction: it was sent there, or a note brought it from vat u, where it stems from.
  pub data Stems : ℕ → Message Name → Type 0 where
    sent : {v : ℕ} {m : Message Name} (a : ℕ) (x : Value Name) → HasLine v (Sends a (record m { target = x })) → LeadsTo (HasLine v) x m.target → Stems v m
    carried : {v : ℕ} {m : Message Name} (u : ℕ) (n : Message Name) (z : Name) (ys : Passeds Name) → HasCarried u v m.id z m.verb ys → Stems u n → n.id ≡ m.id → n.verb ≡ m.verb → LeadsTo (HasLine u) n.target (Ref z) → LeadsTo (HasLine v) (Ref z) m.target
        → ArgsPass u n.args ys → ComeAll (HasList v) ys m.args → Stems v m

  -- A reaction at vat v, which has an answer: a line there tells it.
  abbrev pub IsReaction : ℕ → Message Name → Type 0
  IsReaction v m = (a : ℕ) × (x : Value Name) × (o : Value Name) × (n : Name) × (m.args ≡ x ∷ []) × (m.answer ≡ Some n) × HasLine v (Reacts a x o m)

  -- what a vat takes
  abbrev pub StemsOrReacts : ℕ → Message Name → Type 0
  StemsOrReacts v m = Stems v m ⊎ IsReaction v m
