-- What is kept of a vat while it settles names, makes lists and puts notes, so that no list leads back to itself.
use Rattle.std.proofs.Common.{◌≡◌, ℕ, suc, Bool, true, false, List, [], ◌∷◌, ◌++◌, Option, Some, None, refl, sym, ap, subst, ◌∙◌, ◌⊎◌, inl, inr, length, codes}
use Rattle.def_machine.specs.Values.{Value, Broken, Items, Ref, Name, Naming, Spot, Own, Foreign, NoObject, naming}
use Rattle.def_machine.specs.State.{Many, Note, Open, SettledTo, Elsewhere, Put, Standing, Viewed, Settled, Known, Change, Hold, React, Settle, Vat, with_change, changed, changed_to, unless_settled, begun, is_in}
use Rattle.def_machine.specs.Refs.{entry_of, standing_of, host_at, follow_at, follow, severed, severed_at, severed_by}
use Rattle.law_machine.specs.Machine.Breaks.{still_waits}
use Rattle.law_machine.proofs.Machine.StepLaws.{changed_head}
use Rattle.law_fate.specs.Name.Names.{AllOf, IsAmong, IsEventual}
use Rattle.law_fate.proofs.Name.Facts.{all_end, all_map}
use Rattle.law_fate.proofs.Name.SameNames.{reference_is}
use Rattle.law_reference.proofs.Reference.Entries.{SameOr, same_or}
use Rattle.law_frozen.specs.Frozen.{Sound}
use Rattle.law_frozen.proofs.Fine.{Keeper, Quiet, ListsGrow}
use Rattle.law_reference.specs.Reference.Lists.{NoListLeadsBack, IsBehind}
use Rattle.law_reference.specs.Reference.ListRingless.{IsOwn, IsOwnName, HoldsOwn, IsNamed, IsView, SettlesSo, NamesRest, Ringless, NoteTells, PutsSo, TellsSo}
use Rattle.law_reference.proofs.Reference.Following.{standing_same, standing_found}
use Rattle.law_reference.proofs.Reference.FarEnough.{append_standing, fewer_close_none, new_name_closes_none}
use Rattle.law_reference.proofs.Reference.NewLists.{new_list_closes_none}
use Rattle.law_reference.proofs.Reference.ListLaws.{changes_close_no_ring}

some_known : (j k : Known Name) → Some j ≡ Some k → j ≡ k
some_known j k e = cc

unless_either : (P : Known Name → Type 0) (t : Standing Name) (k new : Known Name) → P k → P new → P (unless_settled t k new)
unfolding unless_settled
unless_either P (Settled y) k new h i = h
unless_either P other k new h i = i

unless_settled_is : (t : Standing Name) (y : Value Name) (k new : Known Name) → t ≡ Settled y → unless_settled t k new ≡ k
unfolding unless_settled
unless_settled_is (Settled z) y k new e = refl
unless_settled_is other y k new e = cc

-- what settled stays as it is
pub settled_is : (c : Change Name) (k : Known Name) (y : Value Name) → k.standing ≡ Settled y → changed c k ≡ k
unfolding changed
settled_is c k y e = unless_settled_is k.standing y k (changed_to c k) e

unless_is : (t : Standing Name) (k new : Known Name) → (unless_settled t k new ≡ k) ⊎ (unless_settled t k new ≡ new)
unfolding unless_settled
unless_is (Settled y) k new = inl refl
unless_is other k new = inr refl

-- it is as it was, or as the change makes it
pub changed_or : (c : Change Name) (k : Known Name) → (changed c k ≡ k) ⊎ (changed c k ≡ changed_to c k)
unfolding changed
changed_or c k = unless_is k.standing k (changed_to c k)

unless_open : (t : Standing Name) (k new : Known Name) → ((z : Value Name) → t ≡ Settled z → ⊥) → unless_settled t k new ≡ new
unfolding unless_settled
unless_open (Settled y) k new f = absurd (f y refl)
unless_open other k new f = refl

-- what did not settle changes
pub open_changed : (c : Change Name) (k : Known Name) → ((z : Value Name) → k.standing ≡ Settled z → ⊥) → changed c k ≡ changed_to c k
unfolding changed
open_changed c k f = unless_open k.standing k (changed_to c k) f

-- what is kept in mind: that a name settled to a value, that a name is not viewed, and which vats were noticed
pub data Mark : Type 0 where
  With : Name → Value Name → Mark
  Unviewed : Name → Mark
  Noticed : List ℕ → Mark

module _ (v : ℕ) where
  -- a message that comes to be held is one whose answer the vat hosts
  abbrev pub HoldsBy : Change Name → Type 0
  HoldsBy (Hold m) = IsOwn v m
  HoldsBy (React m) = IsOwn v m
  HoldsBy other = Unit {0}

  to_held : (c : Change Name) (k : Known Name) → HoldsBy c → HoldsOwn v k → HoldsOwn v (changed_to c k)
  unfolding changed_to
  to_held (Hold m) k g h = (all_end (IsOwn v) k.held m h.0 g, h.1)
  to_held (React m) k g h = (h.0, all_end (IsOwn v) k.reactions m h.1 g)
  to_held (Settle y) k g h = (tt, tt)
  to_held other k g h = h

  pub held_changed : (c : Change Name) (k : Known Name) → HoldsBy c → HoldsOwn v k → HoldsOwn v (changed c k)
  unfolding changed
  held_changed c k g h = unless_either (HoldsOwn v) k.standing k (changed_to c k) h (to_held c k g h)

pub is_in_none : (h : ℕ) → is_in h [] ≡ false
unfolding is_in
is_in_none h = refl

heed_either : (b : Bool) (h : ℕ) (hs : List ℕ) → is_in h hs ≡ false → is_in h (elim b [ true ↦ hs | false ↦ [] ]) ≡ false
heed_either true h hs e = e
heed_either false h hs e = is_in_none h

module _ (word : ℕ → ℕ) (v : ℕ) where
  abbrev pub K : Naming Name Name
  K = naming word v

  pub is : (a b : Name) → K.same a b ≡ true → a ≡ b
  unfolding naming
  is a b e = reference_is a b e

module _ (word : ℕ → ℕ) (v : ℕ) (heed : Bool) (D : ℕ → Type 0) (Seen : Name → Type 0) where
  abbrev N : Naming Name Name
  N = K word v

  -- the vats that were noticed, where they are heeded
  abbrev pub heeds : Vat Name → List ℕ
  heeds s = elim heed [ true ↦ s.noticed | false ↦ [] ]

  pub heeds_spared : (s : Vat Name) (h : ℕ) → is_in h s.noticed ≡ false → is_in h (heeds s) ≡ false
  heeds_spared s h e = heed_either heed h s.noticed e

  pub same_heeds : (s t : Vat Name) → s.noticed ≡ t.noticed → heeds s ≡ heeds t
  same_heeds s t e = ap (λ (hs : List ℕ). elim heed [ true ↦ hs | false ↦ [] ]) e

  pub heeds_all : (s : Vat Name) → heed ≡ true → heeds s ≡ s.noticed
  heeds_all s e = ap (λ (b : Bool). elim b [ true ↦ s.noticed | false ↦ [] ]) e

  abbrev pub Names : List (Known Name) → List ℕ → Type 0
  Names ks hs = NamesRest N v D Seen ks hs

  abbrev pub Kept : Vat Name → Type 0
  Kept s = Ringless N v D Seen (heeds s) s

  abbrev pub IsMarked : List (Known Name) → List ℕ → Mark → Type 0
  IsMarked ks hs (Unviewed n) = (g : Name) → standing_of N ks n ≡ Viewed g → ⊥
  IsMarked ks hs (Noticed js) = hs ≡ js
  IsMarked ks hs (With n y) = standing_of N ks n ≡ Settled y

  -- a name that is found is named so
  name_head : (b : Bool) (k0 k : Known Name) (n : Name) (o : Option (Known Name)) → (b ≡ true → k0.name ≡ n) → ◌≡◌ {A = Option (Known Name)} (elim b [ true ↦ Some k0 | false ↦ o ]) (Some k) → (o ≡ Some k → k.name ≡ n) → k.name ≡ n
  name_head true k0 k n o f e g = let same : k0 ≡ k = cc in ap (λ (x : Known Name). x.name) (sym same) ∙ f refl
  name_head false k0 k n o f e g = g e

  pub entry_name : (ks : List (Known Name)) (n : Name) (k : Known Name) → entry_of N ks n ≡ Some k → k.name ≡ n
  unfolding entry_of
  entry_name [] n k e = cc
  entry_name (k0 ∷ ks) n k e = name_head (N.same k0.name n) k0 k n (entry_of N ks n) (is word v k0.name n) e (λ h. entry_name ks n k h)

  -- ---- what settled, and what was told of it

  settled_or : (c : Change Name) (p n : Name) (y : Value Name) (ks : List (Known Name)) → SameOr N c p ks (with_change N c p ks) n → standing_of N ks n ≡ Settled y → standing_of N (with_change N c p ks) n ≡ Settled y
  settled_or c p n y ks (inl i) e = standing_same N ks (with_change N c p ks) n i ∙ e
  settled_or c p n y ks (inr x) e = let t : x.0.standing ≡ Settled y = sym (standing_found N ks n x.0 x.1) ∙ e in standing_found N (with_change N c p ks) n (changed c x.0) x.3 ∙ ap (λ (k : Known Name). k.standing) (settled_is c x.0 y t) ∙ t

  pub settled_stays : (c : Change Name) (p n : Name) (y : Value Name) (ks : List (Known Name)) → standing_of N ks n ≡ Settled y → standing_of N (with_change N c p ks) n ≡ Settled y
  settled_stays c p n y ks e = settled_or c p n y ks (same_or N c p n ks) e

  -- what settled in one, settled so in the other
  abbrev pub Stays : List (Known Name) → List (Known Name) → Type 0
  Stays ks ls = (n : Name) (y : Value Name) → standing_of N ks n ≡ Settled y → standing_of N ls n ≡ Settled y

  pub note_stays : (ks ls : List (Known Name)) → Stays ks ls → (n : Note Name) → NoteTells N D ks n → NoteTells N D ls n
  note_stays ks ls f (Open i n) h = h
  note_stays ks ls f (SettledTo n (Many ys)) h = (h.0, f n (Items h.0) h.1)
  note_stays ks ls f (Elsewhere n c) h = (h.0, f n (Ref h.0) h.1)
  note_stays ks ls f other h = tt

  pub puts_stay : (ks ls : List (Known Name)) → Stays ks ls → (ps : List (Put Name)) (ds : List ℕ) → PutsSo N D ks ps ds → PutsSo N D ls ps ds
  puts_stay ks ls f ps ds h = (h.0, all_map {P = λ (p : Put Name). NoteTells N D ks p.note} {Q = λ (p : Put Name). NoteTells N D ls p.note} (λ p i. note_stays ks ls f p.note i) ps h.1)

  pub puts_same : (s t : Vat Name) → t.known ≡ s.known → t.outbox ≡ s.outbox → t.drawn ≡ s.drawn → TellsSo N D s → TellsSo N D t
  puts_same s t a b c h = subst (λ ks. PutsSo N D ks t.outbox t.drawn) (sym a) (subst (λ ps. PutsSo N D s.known ps t.drawn) (sym b) (subst (λ ds. PutsSo N D s.known s.outbox ds) (sym c) h))

  -- ---- a change of what is known

  pub record Fair (s : Vat Name) (c : Change Name) (p : Name) : Type 0 where
    pub behind : IsBehind N s c p
    pub holds : HoldsBy v c
    pub waits : (k : Known Name) → entry_of N s.known p ≡ Some k → still_waits (changed c k).standing ≡ true → is_in k.host (heeds s) ≡ false
    pub views : (k : Known Name) (g : Name) → (changed c k).standing ≡ Viewed g → k.standing ≡ Viewed g
    pub waiting : (k : Known Name) (n : Name) → IsAmong n (changed c k).waiting → (IsAmong n k.waiting) ⊎ ((IsView D p → ⊥) → IsOwnName N v D n)
    pub settled : (k : Known Name) (y : Value Name) → (changed c k).standing ≡ Settled y → (k.standing ≡ Settled y) ⊎ SettlesSo N v D p y

  either_all : (P : Known Name → Type 0) (b : Bool) (j k : Known Name) (ks ls : List (Known Name)) → P j → P k → AllOf P ks → AllOf P ls → AllOf P (elim b [ true ↦ j ∷ ks | false ↦ k ∷ ls ])
  either_all P true j k ks ls a b c d = (a, c)
  either_all P false j k ks ls a b c d = (b, d)

  pub all_changed : (P : Known Name → Type 0) (c : Change Name) (n : Name) → ((k : Known Name) → P k → P (changed c k)) → (ks : List (Known Name)) → AllOf P ks → AllOf P (with_change N c n ks)
  unfolding with_change
  all_changed P c n f [] h = tt
  all_changed P c n f (k ∷ ks) h = either_all P (N.same k.name n) (changed c k) k ks (with_change N c n ks) (f k h.0) h.0 h.1 (all_changed P c n f ks h.1)

  module _ (s : Vat Name) (c : Change Name) (p : Name) (fair : Fair s c p) where
    abbrev After : List (Known Name)
    After = with_change N c p s.known

    view_or : (n g : Name) → SameOr N c p s.known After n → standing_of N After n ≡ Viewed g → standing_of N s.known n ≡ Viewed g
    view_or n g (inl i) e = sym (standing_same N s.known After n i) ∙ e
    view_or n g (inr x) e = standing_found N s.known n x.0 x.1 ∙ fair.views x.0 g (sym (standing_found N After n (changed c x.0) x.3) ∙ e)

    pub view_back : (n g : Name) → standing_of N After n ≡ Viewed g → standing_of N s.known n ≡ Viewed g
    view_back n g e = view_or n g (same_or N c p n s.known) e

    spared_or : (n : Name) (k : Known Name) → Names s.known (heeds s) → SameOr N c p s.known After n → entry_of N After n ≡ Some k → still_waits k.standing ≡ true → is_in k.host (heeds s) ≡ false
    spared_or n k h (inl i) e w = h.spared n k (sym i ∙ e) w
    spared_or n k h (inr x) e w = let same : changed c x.0 ≡ k = some_known (changed c x.0) k (sym x.3 ∙ e) in
        subst (λ (j : Known Name). is_in j.host (heeds s) ≡ false) same (ap (λ i. is_in i (heeds s)) (changed_head c x.0).1 ∙ fair.waits x.0 x.2 (subst (λ (j : Known Name). still_waits j.standing ≡ true) (sym same) w))

    waits_or : (n q : Name) (k : Known Name) → Names s.known (heeds s) → SameOr N c p s.known After q → entry_of N After q ≡ Some k → IsAmong n k.waiting → (IsView D q → ⊥) → IsOwnName N v D n
    waits_or n q k h (inl i) f a not = h.waits n q k (sym i ∙ f) a not
    waits_or n q k h (inr x) f a not = pick (fair.waiting x.0 n (subst (λ (j : Known Name). IsAmong n j.waiting) (sym (some_known (changed c x.0) k (sym x.3 ∙ f))) a))
      where
        pick : (IsAmong n x.0.waiting) ⊎ ((IsView D p → ⊥) → IsOwnName N v D n) → IsOwnName N v D n
        pick (inl i) = h.waits n q x.0 x.1 i not
        pick (inr i) = i (λ w. not (subst (λ m. IsView D m) (sym (entry_name s.known p x.0 x.2) ∙ entry_name s.known q x.0 x.1) w))

    settles_or : (n : Name) (y : Value Name) → Names s.known (heeds s) → SameOr N c p s.known After n → standing_of N After n ≡ Settled y → SettlesSo N v D n y
    settles_or n y h (inl i) e = h.settled n y (sym (standing_same N s.known After n i) ∙ e)
    settles_or n y h (inr x) e = pick (fair.settled x.0 y (sym (standing_found N After n (changed c x.0) x.3) ∙ e))
      where
        pick : (x.0.standing ≡ Settled y) ⊎ SettlesSo N v D p y → SettlesSo N v D n y
        pick (inl i) = h.settled n y (standing_found N s.known n x.0 x.1 ∙ i)
        pick (inr i) = subst (λ m. SettlesSo N v D m y) (sym (entry_name s.known p x.0 x.2) ∙ entry_name s.known n x.0 x.1) i

    pub names_changed : Names s.known (heeds s) → Names After (heeds s)
    names_changed h = record {
      here = h.here;
      spared = λ n k e w. spared_or n k h (same_or N c p n s.known) e w;
      far = λ n g e. h.far n g (view_back n g e);
      seen = λ n g e. h.seen n g (view_back n g e);
      waits = λ n q k f a not. waits_or n q k h (same_or N c p q s.known) f a not;
      settled = λ n y e. settles_or n y h (same_or N c p n s.known) e;
      held = all_changed (HoldsOwn v) c p (λ k i. held_changed v c k fair.holds i) s.known h.held;
      eventual = all_changed (λ (k : Known Name). IsEventual k.name) c p (λ k i. subst IsEventual (sym (changed_head c k).0) i) s.known h.eventual;
    }

    pub ringless_changed : Kept s → Kept (record s { known = After })
    ringless_changed h = record { number = h.number; names = names_changed h.names; none = changes_close_no_ring word v s c p fair.behind h.none; queue = h.queue; gifts = h.gifts }

    pub settling_changed : (ls : List Mark) → AllOf (IsMarked s.known (heeds s)) ls → AllOf (IsMarked After (heeds s)) ls
    settling_changed [] h = tt
    settling_changed (Unviewed n ∷ ls) h = (λ g e. h.0 g (view_back n g e), settling_changed ls h.1)
    settling_changed (Noticed js ∷ ls) h = (h.0, settling_changed ls h.1)
    settling_changed (With n y ∷ ls) h = (settled_stays c p n y s.known h.0, settling_changed ls h.1)

  -- ---- a name that comes to be known

  begun_head : (b : Bool) (k0 : Known Name) (o p : Option (Known Name)) (new : Known Name) → (p ≡ o) ⊎ (p ≡ Some new)
      → (◌≡◌ {A = Option (Known Name)} (elim b [ true ↦ Some k0 | false ↦ p ]) (elim b [ true ↦ Some k0 | false ↦ o ])) ⊎ (◌≡◌ {A = Option (Known Name)} (elim b [ true ↦ Some k0 | false ↦ p ]) (Some new))
  begun_head true k0 o p new h = inl refl
  begun_head false k0 o p new h = h

  begun_last : (b : Bool) (new : Known Name) → (◌≡◌ {A = Option (Known Name)} (elim b [ true ↦ Some new | false ↦ None ]) None) ⊎ (◌≡◌ {A = Option (Known Name)} (elim b [ true ↦ Some new | false ↦ None ]) (Some new))
  begun_last true new = inr refl
  begun_last false new = inl refl

  pub begun_or : (ks : List (Known Name)) (n m : Name) (h : ℕ) → (entry_of N (ks ++ begun n h ∷ []) m ≡ entry_of N ks m) ⊎ (entry_of N (ks ++ begun n h ∷ []) m ≡ Some (begun n h))
  unfolding entry_of
  begun_or [] n m h = begun_last (N.same (begun n h).name m) (begun n h)
  begun_or (k ∷ ks) n m h = begun_head (N.same k.name m) k (entry_of N ks m) (entry_of N (ks ++ begun n h ∷ []) m) (begun n h) (begun_or ks n m h)

  begun_host : (n : Name) (h : ℕ) → (begun n h).host ≡ h
  unfolding begun
  begun_host n h = refl

  begun_waiting : (n m : Name) (h : ℕ) → IsAmong m (begun n h).waiting → ⊥
  unfolding begun
  begun_waiting n m h a = a

  begun_held : (n : Name) (h : ℕ) → HoldsOwn v (begun n h)
  unfolding begun
  begun_held n h = (tt, tt)

  begun_eventual : (n : Name) (h : ℕ) → IsEventual n → IsEventual (begun n h).name
  unfolding begun
  begun_eventual n h i = i

  module _ (s : Vat Name) (n : Name) (h : ℕ) (spared : is_in h (heeds s) ≡ false) (eventual : IsEventual n) where
    abbrev More : List (Known Name)
    More = s.known ++ begun n h ∷ []

    spared_end : (m : Name) (k : Known Name) → Names s.known (heeds s) → (entry_of N More m ≡ entry_of N s.known m) ⊎ (entry_of N More m ≡ Some (begun n h)) → entry_of N More m ≡ Some k → still_waits k.standing ≡ true → is_in k.host (heeds s) ≡ false
    spared_end m k i (inl j) e w = i.spared m k (sym j ∙ e) w
    spared_end m k i (inr j) e w = subst (λ (x : Known Name). is_in x.host (heeds s) ≡ false) (some_known (begun n h) k (sym j ∙ e)) (ap (λ x. is_in x (heeds s)) (begun_host n h) ∙ spared)

    waits_end : (m q : Name) (k : Known Name) → Names s.known (heeds s) → (entry_of N More q ≡ entry_of N s.known q) ⊎ (entry_of N More q ≡ Some (begun n h)) → entry_of N More q ≡ Some k → IsAmong m k.waiting → (IsView D q → ⊥) → IsOwnName N v D m
    waits_end m q k i (inl j) f a not = i.waits m q k (sym j ∙ f) a not
    waits_end m q k i (inr j) f a not = absurd (begun_waiting n m h (subst (λ (x : Known Name). IsAmong m x.waiting) (sym (some_known (begun n h) k (sym j ∙ f))) a))

    pub names_begun : Names s.known (heeds s) → Names More (heeds s)
    names_begun i = record {
      here = i.here;
      spared = λ m k e w. spared_end m k i (begun_or s.known n m h) e w;
      far = λ m g e. i.far m g (sym (append_standing N (is word v) s.known n h m) ∙ e);
      seen = λ m g e. i.seen m g (sym (append_standing N (is word v) s.known n h m) ∙ e);
      waits = λ m q k f a not. waits_end m q k i (begun_or s.known n q h) f a not;
      settled = λ m y e. i.settled m y (sym (append_standing N (is word v) s.known n h m) ∙ e);
      held = all_end (HoldsOwn v) s.known (begun n h) i.held (begun_held n h);
      eventual = all_end (λ (k : Known Name). IsEventual k.name) s.known (begun n h) i.eventual (begun_eventual n h eventual);
    }

    pub ringless_begun : Kept s → Kept (record s { known = More })
    ringless_begun i = record { number = i.number; names = names_begun i.names; none = new_name_closes_none N (is word v) s n h i.none; queue = i.queue; gifts = i.gifts }

    pub settling_begun : (ls : List Mark) → AllOf (IsMarked s.known (heeds s)) ls → AllOf (IsMarked More (heeds s)) ls
    settling_begun [] i = tt
    settling_begun (Unviewed m ∷ ls) i = (λ g e. i.0 g (sym (append_standing N (is word v) s.known n h m) ∙ e), settling_begun ls i.1)
    settling_begun (Noticed js ∷ ls) i = (i.0, settling_begun ls i.1)
    settling_begun (With m y ∷ ls) i = (append_standing N (is word v) s.known n h m ∙ i.0, settling_begun ls i.1)

  -- ---- what changes nothing that is known

  severed_pick : ℕ → List ℕ → Name → Value Name → Value Name
  severed_pick h hs n b = elim (is_in h hs) [ true ↦ b | false ↦ Ref n ]

  spot_same : (s t : Vat Name) → t.number ≡ s.number → t.known ≡ s.known → t.noticed ≡ s.noticed → (n : Name) (p : Spot) → severed_at N t n p ≡ severed_at N s n p
  unfolding severed_at severed_by severed_pick
  spot_same s t a b c n (Own i) = refl
  spot_same s t a b c n (Foreign h) = ap (λ hs. severed_pick h hs n (Broken (codes "partition"))) c
  spot_same s t a b c n NoObject = ap (λ x. severed_pick (host_at N x t.known n) t.noticed n (Broken (codes "partition"))) a ∙ ap (λ x. severed_pick (host_at N s.number x n) t.noticed n (Broken (codes "partition"))) b ∙ ap (λ hs. severed_pick (host_at N s.number s.known n) hs n (Broken (codes "partition"))) c

  severed_same : (s t : Vat Name) → t.number ≡ s.number → t.known ≡ s.known → t.noticed ≡ s.noticed → (x : Value Name) → severed N t x ≡ severed N s x
  unfolding severed
  severed_same s t a b c (Ref n) = spot_same s t a b c n (N.spot n)
  severed_same s t a b c other = refl

  follow_same : (s t : Vat Name) → t.number ≡ s.number → t.known ≡ s.known → t.noticed ≡ s.noticed → (x : Value Name) → follow N t x ≡ follow N s x
  unfolding follow
  follow_same s t a b c x = severed_same s t a b c (follow_at N (suc (length t.known)) t.known x) ∙ ap (λ ks. severed N s (follow_at N (suc (length ks)) ks x)) b

  none_quiet : (s t : Vat Name) → Sound N s → t.number ≡ s.number → t.known ≡ s.known → t.noticed ≡ s.noticed → ListsGrow s.lists t.lists → NoListLeadsBack N s → NoListLeadsBack N t
  none_quiet s t sound a b c (inl e) none = fewer_close_none N (is word v) s t e (λ x k i. sym (follow_same s t a b c x) ∙ i) none
  none_quiet s t sound a b c (inr e) none = let u : Vat Name = record s { lists = s.lists ++ e.0 ∷ [] } in
      fewer_close_none N (is word v) u t e.2 (λ x k i. sym (follow_same u t a b c x) ∙ i) (new_list_closes_none N s e.0 sound e.1 none)

  -- where nothing that is known changes, nor more of lists than one that is made
  pub ringless_same : (s t : Vat Name) → Sound N s → t.number ≡ s.number → t.known ≡ s.known → t.noticed ≡ s.noticed → ListsGrow s.lists t.lists → AllOf (IsOwn v) t.queue → AllOf (IsNamed v) t.gifts → Kept s → Kept t
  ringless_same s t sound a b c d queue gifts h = record {
    number = a ∙ h.number;
    names = subst (λ ks. Names ks (heeds t)) (sym b) (subst (λ hs. Names s.known hs) (same_heeds s t (sym c)) h.names);
    none = none_quiet s t sound a b c d h.none;
    queue = queue;
    gifts = gifts;
  }

  pub ringless_quiet : (s t : Vat Name) → Sound N s → Quiet s t → Kept s → Kept t
  ringless_quiet s t sound q h = ringless_same s t sound q.0 q.1 q.2 q.3 (subst (λ ms. AllOf (IsOwn v) ms) (sym q.4) h.queue) (subst (λ gs. AllOf (IsNamed v) gs) (sym q.7) h.gifts) h

  pub marks_same : (s t : Vat Name) (ls : List Mark) → t.known ≡ s.known → t.noticed ≡ s.noticed → AllOf (IsMarked s.known (heeds s)) ls → AllOf (IsMarked t.known (heeds t)) ls
  marks_same s t ls a b h = subst (λ ks. AllOf (IsMarked ks (heeds t)) ls) (sym a) (subst (λ hs. AllOf (IsMarked s.known hs) ls) (same_heeds s t (sym b)) h)

  -- ---- the keeper, while those settle

  abbrev pub keeper : List Mark → Keeper N
  keeper ls = record {
    holds = λ s. Sound N s × Kept s × TellsSo N D s × AllOf (IsMarked s.known (heeds s)) ls;
    sound = λ s h. h.0;
    quiet = λ s t q h i. (i, ringless_quiet s t h.0 q h.1, puts_same s t q.1 q.5 q.6 h.2, marks_same s t ls q.1 q.2 h.3);
  }
