-- Why a name settles, waits on another or comes to be viewed as one, and to what.
use Rattle.std.specs.Prelude.{◌≡◌, ◌≤◌, length, ℕ, true, List, [], ◌∷◌, Some, None, slice_get, ◌⊎◌, codes}
use Rattle.def_machine.specs.Values.{Words, Value, Null, Flag, Number, Letter, Text, Prim, Broken, Items, Ref, Naming, Coming, Own, Foreign, IsRoot, IsOwn, IsAnswer, IsGift, IsLearnt, IsCarried, under}
use Rattle.def_machine.specs.State.{Resolver, WaitsOn, Message, Known, Passed, Passeds, Plain, AGift, Many, NoMore, More, Delivery, Deliver, Open, Ask, SettledTo, Elsewhere, Shorten, GiftEntry, Happened, Took, Called, Finished, Threw, PromiseMade, ListMade, ListCame, Sends, Settles, Waits, Views, Lost, Posted, is_in}
use Rattle.def_machine.specs.Refs.{standing_of}
use Rattle.def_machine.specs.Free.{same_words}
use Rattle.def_machine.specs.Arrive.{Incoming, Old, New}
use Rattle.law_machine.specs.Machine.Steps.{Step, Opens, Takes, Receives, Notices}
use Rattle.law_uses.specs.Connectivity.Known.{IsAmong, Start, AreOne, Leads, Reaches, IsThing}

module _ {N W : Type 0} (K : Naming N W) (E : Start N W) where
  -- ---- what a note names

  -- a name came to be known so in this step
  abbrev pub IsNew : Coming N W → N → Type 0
  IsNew c n = (k : ℕ) × (length E.vat.known ≤ k) × (n ≡ K.made c k)

  -- what a name in a note is to the vat
  abbrev pub IsNamed : Incoming N W → N → Type 0
  IsNamed (Old m) n = n ≡ m
  IsNamed (New x h) n = IsNew (IsLearnt x) n

  abbrev pub IsMessage : Incoming N W → N → Type 0
  IsMessage (Old m) n = n ≡ m
  IsMessage (New x h) n = (k : ℕ) × (length E.vat.mails ≤ k) × (n ≡ K.mailed (IsCarried x) k)

  abbrev pub IsValue : Value (Incoming N W) → Value N → Type 0
  IsValue Null v = v ≡ Null
  IsValue (Flag b) v = v ≡ Flag b
  IsValue (Number z) v = v ≡ Number z
  IsValue (Letter c) v = v ≡ Letter c
  IsValue (Text t) v = v ≡ Text t
  IsValue (Prim i) v = v ≡ Prim i
  IsValue (Broken t) v = v ≡ Broken t
  IsValue (Items k) v = v ≡ Items k
  IsValue (Ref x) v = (n : N) × (v ≡ Ref n) × IsNamed x n

  abbrev mutual
    -- what a value in a note is, by the lines that tell which lists came
    pub IsLearntAs : List (Happened N) → Passed (Incoming N W) → Value N → Type 0
    IsLearntAs so (Plain y) v = IsValue y v
    IsLearntAs so (AGift h i) v = (n : N) × (v ≡ Ref n) × IsNew (IsGift h i) n
    IsLearntAs so (Many ys) v = (k : ℕ) × (vs : List (Value N)) × (v ≡ Items k) × IsAmong (ListCame k vs) so × AreLearntAs so ys vs

    pub AreLearntAs : List (Happened N) → Passeds (Incoming N W) → List (Value N) → Type 0
    AreLearntAs so NoMore [] = Unit {0}
    AreLearntAs so (More y ys) (v ∷ vs) = IsLearntAs so y v × AreLearntAs so ys vs
    AreLearntAs so NoMore (v ∷ vs) = ⊥
    AreLearntAs so (More y ys) [] = ⊥

  -- the gift of that provider and key that the vat hosts: it was there, or came to be in the step
  abbrev pub IsGiftOf : ℕ → ℕ → N → Type 0
  IsGiftOf p i n = ((g : GiftEntry N) × IsAmong g E.vat.gifts × (g.name ≡ n) × (g.provider ≡ p) × (g.number ≡ i)) ⊎ IsNew (IsGift E.vat.number i) n

  -- what the note says that a name has for its value: that of its host, or that of a gift's provider
  abbrev pub Says : List (Happened N) → Step N W → N → Value N → Type 0
  Says so (Receives from (SettledTo x y)) p v = IsNamed x p × IsLearntAs so y v
  Says so (Receives from (Open i x)) p v = (n : N) × IsGiftOf from i p × (v ≡ Ref n) × IsNamed x n
  Says so (Receives from (Deliver d x verb ys)) p v = ⊥
  Says so (Receives from (Ask q i x)) p v = ⊥
  Says so (Receives from (Elsewhere x c)) p v = ⊥
  Says so (Receives from (Shorten x c i)) p v = ⊥
  Says so (Opens tree depth root given) p v = ⊥
  Says so (Takes tree depth m) p v = ⊥
  Says so (Notices w) p v = ⊥

  -- ---- whose answer a name is

  -- the answer of the turn, or the root of an opening turn
  abbrev pub IsOwed : Step N W → N → Type 0
  IsOwed (Opens tree depth root given) p = p ≡ root
  IsOwed (Takes tree depth m) p = m.answer ≡ Some p
  IsOwed (Receives from n) p = ⊥
  IsOwed (Notices w) p = ⊥

  -- which the activation that the step begins is to resolve
  abbrev pub Owes : ℕ → N → Type 0
  Owes a p = (a ≡ E.vat.activations) × IsOwed E.step p

  -- A message that is here has that answer and that target: it was sent in this step, or was held, or the note brings it.
  pub data HasAnswer (so : List (Happened N)) : N → N → Value N → Type 0 where
    sent : {p : N} (a : ℕ) (m : Message N) → IsAmong (Sends a m) so → m.answer ≡ Some p → HasAnswer so m.id p m.target
    held : {p : N} (k : Known N) (m : Message N) → IsAmong k E.vat.known → IsAmong m k.held → m.answer ≡ Some p → HasAnswer so m.id p m.target
    came : {p : N} (from : ℕ) (d : Delivery (Incoming N W)) (x : Incoming N W) (verb : Words) (ys : Passeds (Incoming N W)) (i n : N) → E.step ≡ Receives from (Deliver d x verb ys) → IsMessage d.message i → IsNamed x n
        → IsNew (IsAnswer E.vat.number i) p → HasAnswer so i p (Ref n)

  -- ---- resolvers, and what waits

  -- what bears that number is the resolver of that promise: it was there, or was made with it
  abbrev pub IsResolver : List (Happened N) → ℕ → N → Type 0
  IsResolver so i p = (slice_get E.vat.things i ≡ Some (Resolver p)) ⊎ ((a : ℕ) × (r : N) × IsAmong (PromiseMade a p r) so × (K.spot r ≡ Own i))

  -- what bears that number was handed that one argument under that verb, by a call or by the message that is taken
  abbrev pub IsHanded : List (Happened N) → ℕ → Words → Value N → Type 0
  IsHanded so i name v = ((a : ℕ) × (x : Value N) × (verb : Words) × IsAmong (Called a x verb (v ∷ []) None) so × (same_words name verb ≡ true) × IsThing K E.vat.known so x i)
      ⊎ ((a : ℕ) × (m : Message N) × IsAmong (Took a m) so × (m.args ≡ v ∷ []) × (same_words name m.verb ≡ true) × IsThing K E.vat.known so m.target i)

  -- the first waits on the second, or is viewed as it
  abbrev pub WaitsFor : List (Happened N) → N → N → Type 0
  WaitsFor so p q = ((k : Known N) × IsAmong k E.vat.known × (K.same k.name q ≡ true) × IsAmong p k.waiting)
      ⊎ ((n : N) × (IsAmong (Waits p n) so ⊎ IsAmong (Views p n) so) × AreOne K E.vat.known n q)

  -- ---- what cuts break

  -- the cut of that vat is noticed
  abbrev pub IsNoticed : ℕ → Type 0
  IsNoticed w = (is_in w E.vat.noticed ≡ true) ⊎ (E.step ≡ Notices w)

  -- A name is of that vat: it is its host, it is the provider of a gift here, or the note says that the name settled to an object there.
  pub data IsOf (w : ℕ) : N → Type 0 where
    hosts : (k : Known N) → IsAmong k E.vat.known → k.host ≡ w → IsOf w k.name
    learns : {n : N} (i : ℕ) → IsNew (IsGift w i) n → IsOf w n
    provides : {n : N} (i : ℕ) → IsGiftOf w i n → IsOf w n
    tells : {n : N} (from : ℕ) (x : Incoming N W) → E.step ≡ Receives from (Elsewhere x w) → IsNamed x n → IsOf w n

  -- ---- what a name is given, and what it becomes

  -- what a note names
  abbrev pub InValue : Incoming N W → Value (Incoming N W) → Type 0
  InValue x (Ref y) = x ≡ y
  InValue x Null = ⊥
  InValue x (Flag b) = ⊥
  InValue x (Number z) = ⊥
  InValue x (Letter c) = ⊥
  InValue x (Text t) = ⊥
  InValue x (Prim i) = ⊥
  InValue x (Broken t) = ⊥
  InValue x (Items k) = ⊥

  abbrev mutual
    pub InPassed : Incoming N W → Passed (Incoming N W) → Type 0
    InPassed x (Plain y) = InValue x y
    InPassed x (AGift h i) = ⊥
    InPassed x (Many ys) = InPasseds x ys

    pub InPasseds : Incoming N W → Passeds (Incoming N W) → Type 0
    InPasseds x NoMore = ⊥
    InPasseds x (More y ys) = InPassed x y ⊎ InPasseds x ys

  abbrev pub InNote : Incoming N W → Step N W → Type 0
  InNote x (Receives from (Deliver d y verb ys)) = (x ≡ y) ⊎ InPasseds x ys
  InNote x (Receives from (Open i y)) = x ≡ y
  InNote x (Receives from (Ask q i y)) = x ≡ y
  InNote x (Receives from (SettledTo y z)) = (x ≡ y) ⊎ InPassed x z
  InNote x (Receives from (Elsewhere y c)) = x ≡ y
  InNote x (Receives from (Shorten y c i)) = x ≡ y
  InNote x (Opens tree depth root given) = ⊥
  InNote x (Takes tree depth m) = ⊥
  InNote x (Notices w) = ⊥

  -- the host of a name that comes to be known so; of one that is learnt, as the note names it
  abbrev pub ComesOf : Coming N W → ℕ → Type 0
  ComesOf (IsRoot u) w = u ≡ w
  ComesOf (IsOwn i) w = E.vat.number ≡ w
  ComesOf (IsAnswer h m) w = h ≡ w
  ComesOf (IsGift h i) w = h ≡ w
  ComesOf (IsLearnt x) w = InNote (New x w) E.step

  -- that vat is the host of a name that is known: it was before the step, or the name came to be known so
  abbrev pub IsKnownOf : ℕ → N → Type 0
  IsKnownOf w n = ((k : Known N) × IsAmong k E.vat.known × (k.name ≡ n) × (k.host ≡ w)) ⊎ ((c : Coming N W) × IsNew c n × ComesOf c w)

  -- A name is hosted there: it is an object of that vat, or what is known as that name is of it. What is not known has the vat itself for its host.
  abbrev pub IsHosted : ℕ → N → Type 0
  IsHosted w n = (K.spot n ≡ Foreign w) ⊎ ((m : N) × (K.same m n ≡ true) × IsKnownOf w m) ⊎ (w ≡ E.vat.number)

  -- a value leads to a name whose host is cut off, as is noticed
  abbrev pub IsSevered : List (Happened N) → Value N → Type 0
  IsSevered so x = (w : ℕ) × (n : N) × Reaches K E.vat.known so x (Ref n) × IsNoticed w × IsHosted w n

  -- a value is followed to that, or to broken since a cut is noticed of the host of a name that it leads to
  abbrev pub Follows : List (Happened N) → Value N → Value N → Type 0
  Follows so x y = Reaches K E.vat.known so x y ⊎ (IsSevered so x × (y ≡ Broken (codes "partition")))

  -- After these lines a name is to have that value.
  pub data IsGiven (so : List (Happened N)) : N → Value N → Type 0 where
    -- the turn whose answer or root it is gave that, or threw
    gave : {p : N} {v : Value N} (a : ℕ) → IsAmong (Finished a v) so → Owes a p → IsGiven so p v
    threw : {p : N} {t : Words} (a : ℕ) → IsAmong (Threw a t) so → Owes a p → IsGiven so p (Broken t)
    -- its resolver was handed that, or to be smashed the text of a problem
    resolved : {p : N} {v : Value N} (i : ℕ) → IsResolver so i p → IsHanded so i (codes "resolve") v → IsGiven so p v
    smashed : {p : N} {t : Words} (i : ℕ) (v : Value N) → IsResolver so i p → IsHanded so i (codes "smash") v → Follows so v (Text t) → IsGiven so p (Broken t)
    -- the name that it waits on settled to that
    waited : {p : N} {y : Value N} (q : N) → IsAmong (Settles q y) so → WaitsFor so p q → IsGiven so p y
    -- the note says that
    said : {p : N} {v : Value N} → Says so E.step p v → IsGiven so p v
    -- its message is lost on a target that is broken
    lost : {p : N} {t : Words} (i : N) (x : Value N) → HasAnswer so i p x → IsAmong (Lost i) so → Follows so x (Broken t) → IsGiven so p (Broken t)

  -- a list has these members: it had before the step, or a line tells that it was made or came with them
  abbrev pub HasMembers : List (Happened N) → ℕ → List (Value N) → Type 0
  HasMembers so k vs = (slice_get E.vat.lists k ≡ Some vs) ⊎ ((a : ℕ) × IsAmong (ListMade a k vs) so) ⊎ IsAmong (ListCame k vs) so

  -- members, each followed, any number of times, lead from a value to that name
  pub data Rings (so : List (Happened N)) : Value N → N → Type 0 where
    itself : {x : Value N} {p : N} (n : N) → Follows so x (Ref n) → K.same n p ≡ true → Rings so x p
    member : {x : Value N} {p : N} (k : ℕ) (vs : List (Value N)) (y : Value N) → Follows so x (Items k) → HasMembers so k vs → IsAmong y vs → Rings so y p → Rings so x p

  -- one name waits on the next: it did before the step, or a line tells it; or it is led to it by what it settled to or is viewed as
  abbrev pub GoesOn : List (Happened N) → N → N → Type 0
  GoesOn so n q = (standing_of K E.vat.known n ≡ WaitsOn q) ⊎ ((p : N) × IsAmong (Waits p q) so × AreOne K E.vat.known p n) ⊎ Leads K E.vat.known so (Ref n) (Ref q)

  -- a chain of such leads from the first name to the second
  pub data Chain (so : List (Happened N)) : N → N → Type 0 where
    there : {n p : N} → K.same n p ≡ true → Chain so n p
    onward : {n p : N} (q : N) → GoesOn so n q → Chain so q p → Chain so n p

  -- what leads back to a name: a list by its members, or another name by what waits
  abbrev pub LeadsBack : List (Happened N) → N → Value N → Type 0
  LeadsBack so p (Items k) = Rings so (Items k) p
  LeadsBack so p (Ref n) = Chain so n p
  LeadsBack so p Null = ⊥
  LeadsBack so p (Flag b) = ⊥
  LeadsBack so p (Number z) = ⊥
  LeadsBack so p (Letter c) = ⊥
  LeadsBack so p (Text t) = ⊥
  LeadsBack so p (Prim i) = ⊥
  LeadsBack so p (Broken t) = ⊥

  -- A name p that is given x settles to that: x is followed to it, or to what leads back to the name.
  abbrev pub Becomes : List (Happened N) → N → Value N → Value N → Type 0
  Becomes so p x y = Follows so x y ⊎ ((z : Value N) × Follows so x z × LeadsBack so p z × (y ≡ Broken (codes "cycle")))

  -- ---- lines

  abbrev pub SettlesWell : List (Happened N) → N → Value N → Type 0
  SettlesWell so p y = ((x : Value N) × IsGiven so p x × Becomes so p x y) ⊎ ((w : ℕ) × IsNoticed w × IsOf w p × (y ≡ Broken (codes "partition")))

  -- on what it was given, or, as the answer of a message that was sent on, on the answer at the vat to which it was
  abbrev pub WaitsWell : List (Happened N) → N → N → Type 0
  WaitsWell so p q = ((x : Value N) × IsGiven so p x × Follows so x (Ref q))
      ⊎ ((i : N) × (x : Value N) × (h : ℕ) × HasAnswer so i p x × IsAmong (Posted h i) so × IsNew (IsAnswer h i) q)

  -- as a gift at the vat at which the note says the object is
  abbrev pub ViewsBy : Step N W → N → N → Type 0
  ViewsBy (Receives from (Elsewhere x c)) p g = (h i : ℕ) × IsNamed x p × (IsNew (IsGift c (under h i)) g ⊎ ((c ≡ E.vat.number) × IsGiftOf h (under h i) g))
  ViewsBy (Receives from (SettledTo x y)) p g = ⊥
  ViewsBy (Receives from (Open i x)) p g = ⊥
  ViewsBy (Receives from (Deliver d x verb ys)) p g = ⊥
  ViewsBy (Receives from (Ask q i x)) p g = ⊥
  ViewsBy (Receives from (Shorten x c i)) p g = ⊥
  ViewsBy (Opens tree depth root given) p g = ⊥
  ViewsBy (Takes tree depth m) p g = ⊥
  ViewsBy (Notices w) p g = ⊥

  -- What a line tells of a name has its cause before it.
  abbrev pub IsCaused : List (Happened N) → Happened N → Type 0
  IsCaused so (Settles p y) = SettlesWell so p y
  IsCaused so (Waits p q) = WaitsWell so p q
  IsCaused so (Views p q) = ViewsBy E.step p q
  IsCaused so _ = Unit {0}
