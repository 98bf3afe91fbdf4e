-- A gift that comes to be known, of a host that was noticed, breaks at once: so what waits has a host that was not noticed, and no ring is closed.
use Rattle.std.proofs.Common.{◌≡◌, ℕ, suc, Bool, true, false, List, [], ◌∷◌, ◌++◌, Option, Some, None, refl, sym, ap, subst, ◌∙◌, ◌⊎◌, inl, inr, length, if◌then◌else◌, codes}
use Rattle.def_machine.specs.Values.{Words, Value, Broken, Items, Ref, Name, Naming, naming, name_of, IsGift}
use Rattle.def_machine.specs.State.{Settle, Settles, Known, Ask, Vat, Done, Gives, Act, ◌>>=◌, ◌>>◌, and_then, give, look, tell, alter, each, come, send_out, with_change, changed, changed_to, unless_settled, begun, is_in}
use Rattle.def_machine.specs.Refs as refs
use Rattle.def_machine.specs.Refs.{entry_of, target_of}
use Rattle.def_machine.specs.Arrive as arrive
use Rattle.law_machine.specs.Machine.Breaks.{still_waits}
use Rattle.law_fate.specs.Name.Names.{AllOf, IsEventual}
use Rattle.law_fate.proofs.Name.SameNames.{reference_self}
use Rattle.law_reference.proofs.Reference.Entries.{SameOr, same_or, changed_at}
use Rattle.law_frozen.specs.Frozen.{Sound}
use Rattle.law_frozen.proofs.Fine.{Nothing, IsValue, nothing, Ends, grows_same, widen, sound_known, changes_there, known_begun}
use Rattle.law_reference.specs.Reference.ListRingless.{WaitsSpared, Ringless, TellsSo}
use Rattle.law_reference.proofs.Reference.Following.{no_true}
use Rattle.law_reference.proofs.Reference.FarEnough.{append_standing}
use Rattle.law_reference.proofs.Reference.Kept.{heeds, Mark, With, Unviewed, Noticed, K, is, is_in_none, IsMarked, Fair, begun_or, entry_name, settled_stays, puts_stay, view_back, ringless_begun, ringless_changed, ringless_same, keeper}
use Rattle.law_reference.proofs.Reference.Changes.{Holds, fair_settle}
use Rattle.law_reference.proofs.Reference.RefsRing.{settle_broken}

some_known : (j k : Known Name) → Some j ≡ Some k → j ≡ k
some_known j k e = cc

broken_list : (t : Words) (c : ℕ) → ◌≡◌ {A = Value Name} (Broken t) (Items c) → ⊥
broken_list t c e = cc

broken_name : (t : Words) (n : Name) → Broken t ≡ Ref n → ⊥
broken_name t n e = cc

begun_name : (n : Name) (h : ℕ) → (begun n h).name ≡ n
unfolding begun
begun_name n h = refl

begun_breaks : (n : Name) (h : ℕ) (t : Words) → still_waits (changed (Settle (Broken t)) (begun n h)).standing ≡ true → ⊥
unfolding changed changed_to unless_settled begun still_waits
begun_breaks n h t w = no_true w

heed_all : (b : Bool) (h : ℕ) (hs : List ℕ) → is_in h (elim b [ true ↦ hs | false ↦ [] ]) ≡ true → is_in h hs ≡ true
heed_all true h hs e = e
heed_all false h hs e = absurd (no_true (sym (is_in_none h) ∙ e))

module _ (word : ℕ → ℕ) (v : ℕ) (heed : Bool) (D : ℕ → Type 0) (Seen : Name → Type 0) where
  abbrev N : Naming Name Name
  N = K word v

  abbrev Rings : List ℕ → Vat Name → Type 0
  Rings hs s = Ringless N v D Seen hs s

  weaken : (hs : List ℕ) (s : Vat Name) → Rings hs s → Rings [] s
  weaken hs s h = record { number = h.number; names = record { here = is_in_none v; spared = λ n k e w. is_in_none k.host; far = h.names.far; seen = h.names.seen; waits = h.names.waits; settled = h.names.settled; held = h.names.held; eventual = h.names.eventual }; none = h.none; queue = h.queue; gifts = h.gifts }

  strengthen : (hs : List ℕ) (s : Vat Name) → is_in v hs ≡ false → WaitsSpared N v s.known hs → Rings [] s → Rings hs s
  strengthen hs s here spared h = record { number = h.number; names = record { here = here; spared = spared; far = h.names.far; seen = h.names.seen; waits = h.names.waits; settled = h.names.settled; held = h.names.held; eventual = h.names.eventual }; none = h.none; queue = h.queue; gifts = h.gifts }

  module _ (s : Vat Name) (n : Name) (h : ℕ) (eventual : IsEventual n) where
    abbrev More : List (Known Name)
    More = s.known ++ begun n h ∷ []

    abbrev Then : Vat Name
    Then = record s { known = More }

    kept_head : (b : Bool) (k0 x : Known Name) (p q : Option (Known Name)) → ◌≡◌ {A = Option (Known Name)} (elim b [ true ↦ Some k0 | false ↦ p ]) (Some x) → (p ≡ Some x → q ≡ Some x) → ◌≡◌ {A = Option (Known Name)} (elim b [ true ↦ Some k0 | false ↦ q ]) (Some x)
    kept_head true k0 x p q e f = e
    kept_head false k0 x p q e f = f e

    kept : (ks : List (Known Name)) (x : Known Name) → entry_of N ks n ≡ Some x → entry_of N (ks ++ begun n h ∷ []) n ≡ Some x
    unfolding entry_of
    kept [] x e = cc
    kept (k0 ∷ ks) x e = kept_head (N.same k0.name n) k0 x (entry_of N ks n) (entry_of N (ks ++ begun n h ∷ []) n) e (λ i. kept ks x i)

    again_same : (m : Name) (k j : Known Name) → m ≡ n → entry_of N s.known n ≡ Some k → entry_of N More m ≡ Some j → entry_of N s.known m ≡ Some j
    again_same m k j same e a = let both : k ≡ j = some_known k j (sym (kept s.known k e) ∙ ap (λ x. entry_of N More x) (sym same) ∙ a) in ap (λ x. entry_of N s.known x) same ∙ e ∙ ap (λ x. Some x) both

    again_or : (m : Name) (k j : Known Name) → entry_of N s.known n ≡ Some k → WaitsSpared N v s.known (heeds word v heed D Seen s) → (entry_of N More m ≡ entry_of N s.known m) ⊎ (entry_of N More m ≡ Some (begun n h)) → entry_of N More m ≡ Some j → still_waits j.standing ≡ true → is_in j.host (heeds word v heed D Seen s) ≡ false
    again_or m k j e f (inl i) a w = f m j (sym i ∙ a) w
    again_or m k j e f (inr i) a w = let same : m ≡ n = sym (entry_name word v heed D Seen More m (begun n h) i) ∙ begun_name n h in f m j (again_same m k j same e a) w

    -- a name that is known comes to be known again
    again_rings : (k : Known Name) → entry_of N s.known n ≡ Some k → Rings (heeds word v heed D Seen s) s → Rings (heeds word v heed D Seen s) Then
    again_rings k e r = strengthen (heeds word v heed D Seen s) Then r.names.here (λ m j a w. again_or m k j e r.names.spared (begun_or word v heed D Seen s.known n m h) a w)
        (ringless_begun word v false D Seen s n h (is_in_none h) eventual (weaken (heeds word v heed D Seen s) s r))

    marks_begun : (ls : List Mark) → AllOf (IsMarked word v heed D Seen s.known (heeds word v heed D Seen s)) ls → AllOf (IsMarked word v heed D Seen More (heeds word v heed D Seen s)) ls
    marks_begun [] i = tt
    marks_begun (Unviewed m ∷ ls) i = (λ g e. i.0 g (sym (append_standing N (is word v) s.known n h m) ∙ e), marks_begun ls i.1)
    marks_begun (Noticed js ∷ ls) i = (i.0, marks_begun ls i.1)
    marks_begun (With m y ∷ ls) i = (append_standing N (is word v) s.known n h m ∙ i.0, marks_begun ls i.1)

    tells_begun : TellsSo N D s → TellsSo N D Then
    tells_begun t = puts_stay word v heed D Seen s.known More (λ m y e. append_standing N (is word v) s.known n h m ∙ e) s.outbox s.drawn t

    again_holds : (ls : List Mark) (k : Known Name) → entry_of N s.known n ≡ Some k → Holds word v heed D Seen ls s → Holds word v heed D Seen ls Then
    again_holds ls k e i = (known_begun N s n h i.0, again_rings k e i.1, tells_begun i.2, marks_begun ls i.3)

    -- ---- a name that comes to be known as broken

    module _ (t : Words) (new : entry_of N s.known n ≡ None) where
      self : N.same n n ≡ true
      unfolding naming
      self = reference_self n eventual

      last_head : (b : Bool) → b ≡ true → ◌≡◌ {A = Option (Known Name)} (elim b [ true ↦ Some (begun n h) | false ↦ None ]) (Some (begun n h))
      last_head true e = refl
      last_head false e = absurd (no_true e)

      found_head : (b : Bool) (k0 : Known Name) (o p : Option (Known Name)) → ◌≡◌ {A = Option (Known Name)} (elim b [ true ↦ Some k0 | false ↦ o ]) None → (o ≡ None → p ≡ Some (begun n h)) → ◌≡◌ {A = Option (Known Name)} (elim b [ true ↦ Some k0 | false ↦ p ]) (Some (begun n h))
      found_head true k0 o p e f = cc
      found_head false k0 o p e f = f e

      found_last : (ks : List (Known Name)) → entry_of N ks n ≡ None → entry_of N (ks ++ begun n h ∷ []) n ≡ Some (begun n h)
      unfolding entry_of
      found_last [] e = last_head (N.same (begun n h).name n) (ap (λ x. N.same x n) (begun_name n h) ∙ self)
      found_last (k0 ∷ ks) e = found_head (N.same k0.name n) k0 (entry_of N ks n) (entry_of N (ks ++ begun n h ∷ []) n) e (λ i. found_last ks i)

      abbrev Broke : List (Known Name)
      Broke = with_change N (Settle (Broken t)) n More

      abbrev Last : Vat Name
      Last = record s { known = Broke; happened = s.happened ++ Settles n (Broken t) ∷ [] }

      -- what the name is known as in the end does not wait
      broke_spared : (m : Name) (k : Known Name) → WaitsSpared N v s.known (heeds word v heed D Seen s) → (entry_of N More m ≡ entry_of N s.known m) ⊎ (entry_of N More m ≡ Some (begun n h)) → SameOr N (Settle (Broken t)) n More Broke m → entry_of N Broke m ≡ Some k → still_waits k.standing ≡ true → is_in k.host (heeds word v heed D Seen s) ≡ false
      broke_spared m k f (inl j) (inl i) e w = f m k (sym j ∙ sym i ∙ e) w
      broke_spared m k f j (inr x) e w = let here : x.0 ≡ begun n h = some_known x.0 (begun n h) (sym x.2 ∙ found_last s.known new) in
          absurd (begun_breaks n h t (subst (λ (y : Known Name). still_waits (changed (Settle (Broken t)) y).standing ≡ true) here (subst (λ (y : Known Name). still_waits y.standing ≡ true) (sym (some_known (changed (Settle (Broken t)) x.0) k (sym x.3 ∙ e))) w)))
      broke_spared m k f (inr j) (inl i) e w = let same : m ≡ n = sym (entry_name word v heed D Seen More m (begun n h) j) ∙ begun_name n h in
          let at : entry_of N Broke n ≡ Some (changed (Settle (Broken t)) (begun n h)) = changed_at N (Settle (Broken t)) n More (begun n h) (found_last s.known new) in
          absurd (begun_breaks n h t (subst (λ (y : Known Name). still_waits y.standing ≡ true) (sym (some_known (changed (Settle (Broken t)) (begun n h)) k (sym at ∙ ap (λ x. entry_of N Broke x) (sym same) ∙ e))) w))

      fair : Rings [] Then → Fair word v false D Seen Then (Settle (Broken t)) n
      fair r = fair_settle word v false D Seen Then (Broken t) n r ((λ m e. absurd (broken_name t m e)), (λ c e. absurd (broken_list t c e))) ((λ m e i. broken_name t m e), (λ c e i. broken_list t c e))

      marks_broke : (r : Rings [] Then) (ls : List Mark) → AllOf (IsMarked word v heed D Seen More (heeds word v heed D Seen s)) ls → AllOf (IsMarked word v heed D Seen Broke (heeds word v heed D Seen s)) ls
      marks_broke r [] i = tt
      marks_broke r (Unviewed m ∷ ls) i = (λ g e. i.0 g (view_back word v false D Seen Then (Settle (Broken t)) n (fair r) m g e), marks_broke r ls i.1)
      marks_broke r (Noticed js ∷ ls) i = (i.0, marks_broke r ls i.1)
      marks_broke r (With m y ∷ ls) i = (settled_stays word v heed D Seen (Settle (Broken t)) n m y More i.0, marks_broke r ls i.1)

      broke_holds : (ls : List Mark) → Holds word v heed D Seen ls s → Holds word v heed D Seen ls Last
      broke_holds ls i = let a : Rings [] Then = ringless_begun word v false D Seen s n h (is_in_none h) eventual (weaken (heeds word v heed D Seen s) s i.1) in
          let b : Rings [] (record Then { known = Broke }) = ringless_changed word v false D Seen Then (Settle (Broken t)) n (fair a) a in
          let sound : Sound N Then = known_begun N s n h i.0 in let sound2 : Sound N (record Then { known = Broke }) = sound_known N Then Broke sound (changes_there N s.lists (Settle (Broken t)) n More tt sound.known) in
          let c : Rings [] Last = ringless_same word v false D Seen (record Then { known = Broke }) Last sound2 refl refl refl (inl refl) b.queue b.gifts b in (
            sound2,
            strengthen (heeds word v heed D Seen s) Last i.1.names.here (λ m k e w. broke_spared m k i.1.names.spared (begun_or word v heed D Seen s.known n m h) (same_or N (Settle (Broken t)) n m More) e w) c,
            puts_stay word v heed D Seen More Broke (λ m y e. settled_stays word v heed D Seen (Settle (Broken t)) n m y More e) s.outbox s.drawn (tells_begun i.2),
            marks_broke a ls (marks_begun ls i.3),
          )

      entry_ends : (settle : Name → Value Name → Act Name (Unit {0})) (ls : List Mark) (o : Option (Known Name)) → o ≡ Some (begun n h) → Holds word v heed D Seen ls s → Ends N (keeper word v heed D Seen ls) nothing Then (refs.settle_entry N settle n (Broken t) o Then)
      unfolding refs.settle_entry refs.settle_standing refs.settle_known begun each ◌>>◌ tell alter give and_then
      entry_ends settle ls None e i = cc
      entry_ends settle ls (Some k) e i = let same : begun n h ≡ k = some_known (begun n h) k (sym e) in
          subst (λ (x : Known Name). Ends N (keeper word v heed D Seen ls) nothing Then (refs.settle_entry N settle n (Broken t) (Some x) Then)) same (grows_same s.things s.lists, broke_holds ls i, tt)

      broke_ends : (ls : List Mark) → Holds word v heed D Seen ls s → Ends N (keeper word v heed D Seen ls) nothing Then (refs.settle N n (Broken t) Then)
      unfolding refs.settle refs.settle_at refs.settle_one ◌>>=◌ look and_then target_of
      broke_ends ls i = entry_ends (λ q z. refs.settle_at N (suc (length Then.known)) q z) ls (entry_of N More n) (found_last s.known new) i

    -- ---- a gift that is learnt

    breaks_either : (t : Words) (ls : List Mark) (o : Option (Known Name)) → entry_of N s.known n ≡ o → Holds word v heed D Seen ls s → Ends N (keeper word v heed D Seen ls) nothing Then (refs.settle N n (Broken t) Then)
    breaks_either t ls None e i = broke_ends t e ls i
    breaks_either t ls (Some k) e i = (settle_broken word v heed D Seen ls Nothing n t).after Then (again_holds ls k e i) tt

  gift_eventual : (h i k : ℕ) → IsEventual (N.made (IsGift h i) k)
  unfolding naming name_of
  gift_eventual h i k = tt

  then_ref : (ls : List Mark) (s : Vat Name) (n : Name) (d : Done Name (Unit {0})) → Ends N (keeper word v heed D Seen ls) nothing s d → Ends N (keeper word v heed D Seen ls) IsValue s (and_then d (λ u. give (Ref n)))
  unfolding and_then give
  then_ref ls s n (Gives a t) h = (h.0, h.1, tt)
  then_ref ls s n other h = h

  asked_or : (ls : List Mark) (s : Vat Name) (n : Name) (p h i : ℕ) (b : Bool) → b ≡ true → Ends N (keeper word v heed D Seen ls) nothing s (refs.settle N n (Broken (codes "partition")) s) → Ends N (keeper word v heed D Seen ls) nothing s ((if b then refs.settle N n (Broken (codes "partition")) else send_out h (Ask p i n)) s)
  asked_or ls s n p h i true e k = k
  asked_or ls s n p h i false e k = absurd (no_true e)

  pub gift_noticed : (ls : List Mark) (s : Vat Name) (p h i : ℕ) → is_in h (heeds word v heed D Seen s) ≡ true → Holds word v heed D Seen ls s → Ends N (keeper word v heed D Seen ls) IsValue s (arrive.learn_gift N p h i s)
  unfolding arrive.learn_gift arrive.ask_for ◌>>=◌ ◌>>◌ look come and_then
  gift_noticed ls s p h i e k = let n : Name = N.made (IsGift h i) (length s.known) in let t : Vat Name = record s { known = s.known ++ begun n h ∷ [] } in
      widen N (keeper word v heed D Seen ls) IsValue s t _ (grows_same s.things s.lists) (then_ref ls t n _ (asked_or ls t n p h i (is_in h s.noticed) (heed_all heed h s.noticed e) (breaks_either s n h (gift_eventual h i (length s.known)) (codes "partition") ls (entry_of N s.known n) refl k)))
