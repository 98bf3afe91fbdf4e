-- A name that comes to be viewed makes no list lead back to itself.
use Rattle.std.proofs.Common.{◌≡◌, ℕ, Bool, true, false, List, [], ◌∷◌, ◌++◌, Some, None, refl, sym, ap, subst, ◌∙◌, ◌⊎◌, inl, inr}
use Rattle.def_machine.specs.Values.{Value, Name, Gift, Naming, host_of}
use Rattle.def_machine.specs.State.{Standing, Unsettled, WaitsOn, Viewed, Settled, Known, Wait, See, Views, Vat, Done, ◌>>◌, and_then, tell, alter, with_change, changed, changed_to, is_in}
use Rattle.def_machine.specs.Refs.{entry_of, standing_of, standing_in}
use Rattle.def_machine.specs.Arrive as arrive
use Rattle.law_machine.specs.Machine.Breaks.{still_waits}
use Rattle.law_machine.proofs.Machine.StepLaws.{changed_head}
use Rattle.law_fate.specs.Name.Names.{IsAmong, IsEventual}
use Rattle.law_frozen.specs.Frozen.{Sound}
use Rattle.law_frozen.proofs.Fine.{Keeper, nothing, Ends, grows_same, sound_known, changes_there}
use Rattle.law_reference.specs.Reference.ListRingless.{HoldsOwn, IsView, IsOwnName, NamesRest}
use Rattle.law_reference.proofs.Reference.Entries.{SameOr, same_or}
use Rattle.law_reference.proofs.Reference.Following.{no_true, standing_same, standing_found}
use Rattle.law_reference.proofs.Reference.ListLaws.{changes_close_no_ring}
use Rattle.law_reference.proofs.Reference.Kept.{heeds, K, settled_is, changed_or, open_changed, held_changed, all_changed, entry_name, settled_stays, puts_stay, keeper}
use Rattle.law_reference.proofs.Reference.Changes.{Holds, same_stands, same_waiting, among_end}

some_known : (j k : Known Name) → Some j ≡ Some k → j ≡ k
some_known j k e = cc

view_same : (a b : Name) → Viewed a ≡ Viewed b → a ≡ b
view_same a b e = cc

value_view : (z : Value Name) (g : Name) → Settled z ≡ Viewed g → ⊥
value_view z g e = cc

wait_value : (q : Name) (z : Value Name) → WaitsOn q ≡ Settled z → ⊥
wait_value q z e = cc

view_value : (q : Name) (z : Value Name) → Viewed q ≡ Settled z → ⊥
view_value q z e = cc

open_value : (z : Value Name) → Unsettled ≡ Settled z → ⊥
open_value z e = cc

module _ (word : ℕ → ℕ) (v : ℕ) (heed : Bool) (D : ℕ → Type 0) (Seen : Name → Type 0) where
  abbrev N : Naming Name Name
  N = K word v

  abbrev M : Keeper N
  M = keeper word v heed D Seen []

  abbrev At : Vat Name → Done Name (Unit {0}) → Type 0
  At s d = Ends N M nothing s d

  new_view : (g h : Name) (k : Known Name) → ((z : Value Name) → k.standing ≡ Settled z → ⊥) → (changed (See g) k).standing ≡ Viewed h → h ≡ g
  unfolding changed_to
  new_view g h k free e = view_same h g (sym e ∙ ap (λ (x : Known Name). x.standing) (open_changed (See g) k free))

  -- what is viewed after it, has that view
  seen_as : (g h : Name) (k : Known Name) (t : Standing Name) → k.standing ≡ t → (changed (See g) k).standing ≡ Viewed h → h ≡ g
  seen_as g h k (Settled z) i e = absurd (value_view z h (sym i ∙ sym (ap (λ (x : Known Name). x.standing) (settled_is (See g) k z i)) ∙ e))
  seen_as g h k Unsettled i e = new_view g h k (λ z j. open_value z (sym i ∙ j)) e
  seen_as g h k (WaitsOn q) i e = new_view g h k (λ z j. wait_value q z (sym i ∙ j)) e
  seen_as g h k (Viewed q) i e = new_view g h k (λ z j. view_value q z (sym i ∙ j)) e

  see_new_waits : (g : Name) (k : Known Name) → ((z : Value Name) → k.standing ≡ Settled z → ⊥) → still_waits (changed (See g) k).standing ≡ true → ⊥
  unfolding changed_to still_waits
  see_new_waits g k free w = no_true (sym (ap (λ (x : Known Name). still_waits x.standing) (open_changed (See g) k free)) ∙ w)

  see_waits : (g : Name) (k : Known Name) (t : Standing Name) → k.standing ≡ t → still_waits (changed (See g) k).standing ≡ true → ⊥
  unfolding still_waits
  see_waits g k (Settled z) i w = no_true (sym (ap (λ (x : Known Name). still_waits x.standing) (settled_is (See g) k z i) ∙ ap still_waits i) ∙ w)
  see_waits g k Unsettled i w = see_new_waits g k (λ z j. open_value z (sym i ∙ j)) w
  see_waits g k (WaitsOn q) i w = see_new_waits g k (λ z j. wait_value q z (sym i ∙ j)) w
  see_waits g k (Viewed q) i w = see_new_waits g k (λ z j. view_value q z (sym i ∙ j)) w

  value_new : (g : Name) (z : Value Name) (k : Known Name) → (changed (See g) k ≡ k) ⊎ (changed (See g) k ≡ changed_to (See g) k) → (changed (See g) k).standing ≡ Settled z → k.standing ≡ Settled z
  unfolding changed_to
  value_new g z k (inl i) e = sym (ap (λ (x : Known Name). x.standing) i) ∙ e
  value_new g z k (inr i) e = absurd (view_value g z (sym (ap (λ (x : Known Name). x.standing) i) ∙ e))

  pub none_stands : (ks : List (Known Name)) (n : Name) → entry_of N ks n ≡ None → standing_of N ks n ≡ Unsettled
  unfolding standing_of standing_in
  none_stands ks n e = ap standing_in e

  module _ (s : Vat Name) (n g : Name) where
    abbrev Shown : List (Known Name)
    Shown = with_change N (See g) n s.known

    abbrev Both : List (Known Name)
    Both = with_change N (Wait n) g Shown

    view_or : (m h : Name) → SameOr N (See g) n s.known Shown m → standing_of N Shown m ≡ Viewed h → (standing_of N s.known m ≡ Viewed h) ⊎ ((m ≡ n) × (h ≡ g))
    view_or m h (inl i) e = inl (sym (standing_same N s.known Shown m i) ∙ e)
    view_or m h (inr x) e = inr (sym (entry_name word v heed D Seen s.known m x.0 x.1) ∙ entry_name word v heed D Seen s.known n x.0 x.2, seen_as g h x.0 x.0.standing refl (sym (standing_found N Shown m (changed (See g) x.0) x.3) ∙ e))

    -- how it stands after both changes
    both_or : (m : Name) → SameOr N (Wait n) g Shown Both m → standing_of N Both m ≡ standing_of N Shown m
    unfolding changed_to
    both_or m (inl i) = standing_same N Shown Both m i
    both_or m (inr x) = standing_found N Both m (changed (Wait n) x.0) x.3 ∙ same_stands word v heed D Seen (Wait n) x.0 refl ∙ sym (standing_found N Shown m x.0 x.1)

    view_after : (m h : Name) → standing_of N Both m ≡ Viewed h → (standing_of N s.known m ≡ Viewed h) ⊎ ((m ≡ n) × (h ≡ g))
    view_after m h e = view_or m h (same_or N (See g) n m s.known) (sym (both_or m (same_or N (Wait n) g m Shown)) ∙ e)

    abbrev Waits : List (Known Name) → Name → Name → Type 0
    Waits ks m p = (k : Known Name) × (entry_of N ks p ≡ Some k) × IsAmong m k.waiting

    waits_seen : (m p : Name) (k : Known Name) → SameOr N (See g) n s.known Shown p → entry_of N Shown p ≡ Some k → IsAmong m k.waiting → Waits s.known m p
    unfolding changed_to
    waits_seen m p k (inl i) e a = (k, sym i ∙ e, a)
    waits_seen m p k (inr x) e a = (x.0, x.1, subst (λ xs. IsAmong m xs) (same_waiting word v heed D Seen (See g) x.0 refl) (subst (λ (y : Known Name). IsAmong m y.waiting) (sym (some_known (changed (See g) x.0) k (sym x.3 ∙ e))) a))

    end_or : (m : Name) (k : Known Name) → (changed (Wait n) k ≡ k) ⊎ (changed (Wait n) k ≡ changed_to (Wait n) k) → IsAmong m (changed (Wait n) k).waiting → (IsAmong m k.waiting) ⊎ (m ≡ n)
    unfolding changed_to
    end_or m k (inl i) a = inl (subst (λ (x : Known Name). IsAmong m x.waiting) i a)
    end_or m k (inr i) a = among_end m n k.waiting (subst (λ (x : Known Name). IsAmong m x.waiting) i a)

    waits_both : (m p : Name) (k : Known Name) → SameOr N (Wait n) g Shown Both p → entry_of N Both p ≡ Some k → IsAmong m k.waiting → (Waits Shown m p) ⊎ ((p ≡ g) × (m ≡ n))
    waits_both m p k (inl i) e a = inl (k, sym i ∙ e, a)
    waits_both m p k (inr x) e a = pick (end_or m x.0 (changed_or (Wait n) x.0) (subst (λ (y : Known Name). IsAmong m y.waiting) (sym (some_known (changed (Wait n) x.0) k (sym x.3 ∙ e))) a))
      where
        pick : (IsAmong m x.0.waiting) ⊎ (m ≡ n) → (Waits Shown m p) ⊎ ((p ≡ g) × (m ≡ n))
        pick (inl i) = inl (x.0, x.1, i)
        pick (inr i) = inr (sym (entry_name word v heed D Seen Shown p x.0 x.1) ∙ entry_name word v heed D Seen Shown g x.0 x.2, i)

    waits_after : (m p : Name) (k : Known Name) → entry_of N Both p ≡ Some k → IsAmong m k.waiting → (Waits s.known m p) ⊎ ((p ≡ g) × (m ≡ n))
    waits_after m p k e a = pick (waits_both m p k (same_or N (Wait n) g p Shown) e a)
      where
        pick : (Waits Shown m p) ⊎ ((p ≡ g) × (m ≡ n)) → (Waits s.known m p) ⊎ ((p ≡ g) × (m ≡ n))
        pick (inl w) = inl (waits_seen m p w.0 (same_or N (See g) n p s.known) w.1 w.2)
        pick (inr i) = inr i

    settled_seen : (m : Name) (z : Value Name) → SameOr N (See g) n s.known Shown m → standing_of N Shown m ≡ Settled z → standing_of N s.known m ≡ Settled z
    settled_seen m z (inl i) e = sym (standing_same N s.known Shown m i) ∙ e
    settled_seen m z (inr x) e = standing_found N s.known m x.0 x.1 ∙ value_new g z x.0 (changed_or (See g) x.0) (sym (standing_found N Shown m (changed (See g) x.0) x.3) ∙ e)

    settled_back : (m : Name) (z : Value Name) → standing_of N Both m ≡ Settled z → standing_of N s.known m ≡ Settled z
    settled_back m z e = settled_seen m z (same_or N (See g) n m s.known) (sym (both_or m (same_or N (Wait n) g m Shown)) ∙ e)

    -- ---- what is kept

    spared_seen : (hs : List ℕ) (m : Name) (k : Known Name) → NamesRest N v D Seen s.known hs → SameOr N (See g) n s.known Shown m → entry_of N Shown m ≡ Some k → still_waits k.standing ≡ true → is_in k.host hs ≡ false
    spared_seen hs m k h (inl i) e w = h.spared m k (sym i ∙ e) w
    spared_seen hs m k h (inr x) e w = absurd (see_waits g x.0 x.0.standing refl (subst (λ (y : Known Name). still_waits y.standing ≡ true) (sym (some_known (changed (See g) x.0) k (sym x.3 ∙ e))) w))

    spared_both : (hs : List ℕ) (m : Name) (k : Known Name) → NamesRest N v D Seen s.known hs → SameOr N (Wait n) g Shown Both m → entry_of N Both m ≡ Some k → still_waits k.standing ≡ true → is_in k.host hs ≡ false
    unfolding changed_to
    spared_both hs m k h (inl i) e w = spared_seen hs m k h (same_or N (See g) n m s.known) (sym i ∙ e) w
    spared_both hs m k h (inr x) e w = let same : changed (Wait n) x.0 ≡ k = some_known (changed (Wait n) x.0) k (sym x.3 ∙ e) in
        subst (λ (y : Known Name). is_in y.host hs ≡ false) same (ap (λ i. is_in i hs) (changed_head (Wait n) x.0).1 ∙ spared_seen hs m x.0 h (same_or N (See g) n m s.known) x.1
        (sym (ap still_waits (same_stands word v heed D Seen (Wait n) x.0 refl)) ∙ subst (λ (y : Known Name). still_waits y.standing ≡ true) (sym same) w))

    far_both : (hs : List ℕ) (m h : Name) → NamesRest N v D Seen s.known hs → (host_of n ≡ v → ⊥) → (standing_of N s.known m ≡ Viewed h) ⊎ ((m ≡ n) × (h ≡ g)) → host_of m ≡ v → ⊥
    far_both hs m h i other (inl j) e = i.far m h j e
    far_both hs m h i other (inr j) e = other (ap host_of (sym j.0) ∙ e)

    seen_both : (hs : List ℕ) (m h : Name) → NamesRest N v D Seen s.known hs → Seen n → (standing_of N s.known m ≡ Viewed h) ⊎ ((m ≡ n) × (h ≡ g)) → Seen m
    seen_both hs m h i seen (inl j) = i.seen m h j
    seen_both hs m h i seen (inr j) = subst (λ x. Seen x) (sym j.0) seen

    waits_own : (hs : List ℕ) (m q : Name) → NamesRest N v D Seen s.known hs → IsView D g → (Waits s.known m q) ⊎ ((q ≡ g) × (m ≡ n)) → (IsView D q → ⊥) → IsOwnName N v D m
    waits_own hs m q i view (inl w) not = i.waits m q w.0 w.1 w.2 not
    waits_own hs m q i view (inr w) not = absurd (not (subst (λ x. IsView D x) (sym w.0) view))

    names_both : (hs : List ℕ) → NamesRest N v D Seen s.known hs → (host_of n ≡ v → ⊥) → Seen n → IsView D g → NamesRest N v D Seen Both hs
    names_both hs i other seen view = record {
      here = i.here;
      spared = λ m k e w. spared_both hs m k i (same_or N (Wait n) g m Shown) e w;
      far = λ m h e. far_both hs m h i other (view_after m h e);
      seen = λ m h e. seen_both hs m h i seen (view_after m h e);
      waits = λ m q k f a not. waits_own hs m q i view (waits_after m q k f a) not;
      settled = λ m z e. i.settled m z (settled_back m z e);
      held = all_changed word v heed D Seen (HoldsOwn v) (Wait n) g (λ k j. held_changed v (Wait n) k tt j) Shown (all_changed word v heed D Seen (HoldsOwn v) (See g) n (λ k j. held_changed v (See g) k tt j) s.known i.held);
      eventual = all_changed word v heed D Seen (λ (k : Known Name). IsEventual k.name) (Wait n) g (λ k j. subst IsEventual (sym (changed_head (Wait n) k).0) j) Shown
          (all_changed word v heed D Seen (λ (k : Known Name). IsEventual k.name) (See g) n (λ k j. subst IsEventual (sym (changed_head (See g) k).0) j) s.known i.eventual);
    }

    seen_holds : Holds word v heed D Seen [] s → still_waits (standing_of N s.known g) ≡ true → (host_of n ≡ v → ⊥) → Seen n → IsView D g → Holds word v heed D Seen [] (record s { known = Both })
    seen_holds h w other seen view = let t : Vat Name = record s { known = Shown } in let a : Sound N t = sound_known N s Shown h.0 (changes_there N s.lists (See g) n s.known tt h.0.known) in (
      sound_known N t Both a (changes_there N s.lists (Wait n) g Shown tt a.known),
      record { number = h.1.number; names = names_both (heeds word v heed D Seen s) h.1.names other seen view; none = changes_close_no_ring word v t (Wait n) g tt (changes_close_no_ring word v s (See g) n w h.1.none); queue = h.1.queue; gifts = h.1.gifts },
      puts_stay word v heed D Seen s.known Both (λ m z e. settled_stays word v heed D Seen (Wait n) g m z Shown (settled_stays word v heed D Seen (See g) n m z s.known e)) s.outbox s.drawn h.2,
      tt,
    )

    pub see_ends : Holds word v heed D Seen [] s → still_waits (standing_of N s.known g) ≡ true → (host_of n ≡ v → ⊥) → Seen n → IsView D g → At s (arrive.see N n g s)
    unfolding arrive.see ◌>>◌ tell alter and_then
    see_ends h w other seen view = let t : Vat Name = record s { known = Both } in let a : Holds word v heed D Seen [] t = seen_holds h w other seen view in
        (grows_same s.things s.lists, M.quiet t (record t { happened = t.happened ++ Views n g ∷ [] }) (refl, refl, refl, inl refl, refl, refl, refl, refl) a a.0, tt)

  -- ---- the draws of more views

  -- where no name that is known is of the draws that are added
  pub names_more : (E : ℕ → Type 0) (ks : List (Known Name)) (hs : List ℕ) → ((n : Name) → IsView D n → IsView E n)
      → ((n p : Name) (k : Known Name) → entry_of N ks p ≡ Some k → IsAmong n k.waiting → IsView E n → IsView D n) → ((n : Name) (y : Value Name) → standing_of N ks n ≡ Settled y → IsView E n → IsView D n)
      → NamesRest N v D Seen ks hs → NamesRest N v E Seen ks hs
  names_more E ks hs into waits settled h = record {
    here = h.here;
    spared = h.spared;
    far = h.far;
    seen = h.seen;
    waits = λ n p k e a not. let own = h.waits n p k e a (λ w. not (into p w)) in (own.0, λ w. own.1 (waits n p k e a w));
    settled = λ n y e. let so = h.settled n y e in (so.0, λ c f w. so.1 c f (settled n y e w));
    held = h.held;
    eventual = h.eventual;
  }

  pub view_into : (E : ℕ → Type 0) → ((i : ℕ) → D i → E i) → (n : Name) → IsView D n → IsView E n
  view_into E into (Gift h i) w = into i w
  view_into E into other w = absurd w

  -- a view under another key
  pub view_draw : (E F : ℕ → Type 0) → ((i : ℕ) → E i → D i ⊎ F i) → (n : Name) → ((h i : ℕ) → F i → n ≡ Gift h i → ⊥) → IsView E n → IsView D n
  view_draw E F back (Gift h i) apart w = pick (back i w)
    where
      pick : D i ⊎ F i → D i
      pick (inl j) = j
      pick (inr j) = absurd (apart h i j refl)
  view_draw E F back other apart w = absurd w
