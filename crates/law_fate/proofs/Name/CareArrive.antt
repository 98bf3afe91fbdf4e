-- What a vat does with gifts, with what arrives once it is learnt, and at a notice, from a sound state ends in a sound state.
use Rattle.std.proofs.Common.{◌≡◌, ℕ, Bool, true, false, List, [], ◌∷◌, ◌++◌, Option, Some, None, if◌then◌else◌, codes, refl, subst, length, ◌==◌}
use Rattle.std.proofs.lemmas.Bool.{eqb-true}
use Rattle.def_machine.specs.Values.{Words, Value, Broken, Ref, Naming, IsGift}
use Rattle.def_machine.specs.State.{Standing, Viewed, Settled, Known, Ask, GiftEntry, Vat, ◌>>=◌, ◌>>◌, and_then, give, look, come, new_gift, open_gift, is_gift, is_in, begun}
use Rattle.def_machine.specs.Refs as refs
use Rattle.def_machine.specs.Refs.{Place, Away}
use Rattle.def_machine.specs.Arrive as arrive
use Rattle.law_fate.specs.Name.Names.{Drew, Owns, GiftOk}
use Rattle.law_fate.proofs.Name.Facts.{MayBe, Fact, Also, IsName, IsMail, IsDraw, IsVat, IsEntry, IsOwned, IsGiven, IsValue, AreValues, IsKnown, IsGiftEntry, IsPlace, nothing}
use Rattle.law_fate.proofs.Name.Care.{Care, Under, Giving, Sound, Ends, Gets, Fine, fine, got_drew, fine_more, fine_with, fine_if, fine_give, fine_out, fine_open, fine_gift, come_gift, with_entry, bind_name, bind_entry, then_unit}
use Rattle.law_fate.proofs.Name.Looks.{looks, look_place, look_place_of, gift_at_ok, note_ask, goes_ask}
use Rattle.law_fate.proofs.Name.CareRefs.{fine_settle, fine_resolve, fine_send_on, fine_inform}

module _ {N W : Type 0} (K : Naming N W) (S : Care N) (law : Under K S) where
  place_here : {C : Fact N} (y : Value N) → Gets S C (IsValue y) → Fine S C (look (λ s. refs.place K s y)) IsPlace
  place_here y g = look_place K S law.spots y g

  place_of_here : {C : Fact N} (x : Value N) → Gets S C (IsValue x) → Fine S C (look (λ s. refs.place K s (refs.follow K s x))) IsPlace
  place_of_here x g = look_place_of K S law.spots x g

  pub fine_ask_for : {C : Fact N} → (p h i : ℕ) → Gets S C (IsGiven i) → (n : N) → Gets S C (IsName n) → Fine S C (arrive.ask_for K p h i n) nothing
  unfolding arrive.ask_for
  fine_ask_for {C = C} p h i g1 n g2 = search (fine, looks, place_here, place_of_here, fine_settle) depth 30

  pub fine_make_list : {C : Fact N} → (vs : _) → Gets S C (AreValues vs) → Fine S C (arrive.make_list K vs) IsValue
  unfolding arrive.make_list
  fine_make_list {C = C} vs g1 = search (fine, looks, place_here, place_of_here) depth 30

  pub fine_break_at : {C : Fact N} → (n : N) → Gets S C (IsEntry n) → (p : Words) → (t : Standing N) → Fine S C (arrive.break_at K n p t) nothing
  unfolding arrive.break_at
  fine_break_at {C = C} n g1 p (Settled y) = search (fine, looks, place_here, place_of_here) depth 30
  fine_break_at {C = C} n g1 p _ = search (fine, looks, place_here, place_of_here, fine_settle) depth 30

  pub fine_break_unopened : {C : Fact N} → (n : N) → Gets S C (IsEntry n) → (b : Bool) → Fine S C (arrive.break_unopened K n b) nothing
  unfolding arrive.break_unopened
  fine_break_unopened {C = C} n g1 true = search (fine, looks, place_here, place_of_here) depth 30
  fine_break_unopened {C = C} n g1 false = search (fine, looks, place_here, place_of_here, fine_break_at) depth 30

  pub fine_tell_asker : {C : Fact N} → (n : N) → Gets S C (IsName n) → (w : ℕ) → (t : Standing N) → Fine S C (arrive.tell_asker K n w t) nothing
  unfolding arrive.tell_asker
  fine_tell_asker {C = C} n g1 w (Settled y) = search (fine, looks, place_here, place_of_here, fine_inform) depth 30
  fine_tell_asker {C = C} n g1 w _ = search (fine, looks, place_here, place_of_here) depth 30

  pub fine_break_orphan : {C : Fact N} → (p i : ℕ) → (n : N) → Gets S C (IsEntry n) → Fine S C (arrive.break_orphan K p i n) nothing
  unfolding arrive.break_orphan
  fine_break_orphan {C = C} p i n g1 = search (fine, looks, place_here, place_of_here, fine_break_unopened) depth 30

  pub fine_shorten_to : {C : Fact N} → (i : ℕ) → Gets S C (IsDraw i) → (p : Place N) → Gets S C (IsPlace p) → Fine S C (arrive.shorten_to K i p) nothing
  unfolding arrive.shorten_to
  fine_shorten_to {C = C} i g1 (Away h n true) g2 = let gn : Gets S C (IsName n) = record { at = λ s h. (g2.at s h).0 } in search (fine, looks, place_here, place_of_here) depth 30
  fine_shorten_to {C = C} i g1 _ g2 = search (fine, looks, place_here, place_of_here) depth 30

  pub fine_break_hosted : {C : Fact N} → (w : ℕ) → (n : N) → Gets S C (IsEntry n) → (p : Words) → (t : Standing N) → Fine S C (arrive.break_hosted K w n p t) nothing
  unfolding arrive.break_hosted
  fine_break_hosted {C = C} w n g1 p (Viewed q) = search (fine, looks, place_here, place_of_here) depth 30
  fine_break_hosted {C = C} w n g1 p (Settled y) = search (fine, looks, place_here, place_of_here) depth 30
  fine_break_hosted {C = C} w n g1 p other = search (fine, looks, place_here, place_of_here, fine_settle) depth 30

  pub fine_notice_name : {C : Fact N} → (w : ℕ) → (k : Known N) → Gets S C (IsKnown k) → Fine S C (arrive.notice_name K w k) nothing
  unfolding arrive.notice_name
  fine_notice_name {C = C} w k g1 = let gn : Gets S C (IsEntry k.name) = record { at = λ s h. (g1.at s h).0 } in search (fine, looks, place_here, place_of_here, fine_break_hosted) depth 30

  pub fine_notice_gift : {C : Fact N} → (w : ℕ) → (g : GiftEntry N) → Gets S C (IsGiftEntry g) → Fine S C (arrive.notice_gift K w g) nothing
  unfolding arrive.notice_gift
  fine_notice_gift {C = C} w g g1 = let gn : Gets S C (IsEntry g.name) = record { at = λ s h. S.owned s g.name g.number (g1.at s h).0 } in search (fine, looks, place_here, place_of_here, fine_break_unopened) depth 30

  pub fine_notice_all : {C : Fact N} → (w : ℕ) → Fine S C (arrive.notice_all K w) nothing
  unfolding arrive.notice_all
  fine_notice_all {C = C} w = search (fine, looks, place_here, place_of_here, fine_notice_name, fine_notice_gift) depth 30

  pub fine_notice : {C : Fact N} → (w : ℕ) → Fine S C (arrive.notice K w) nothing
  unfolding arrive.notice
  fine_notice {C = C} w = search (fine, looks, place_here, place_of_here, fine_notice_all) depth 30

  -- ---- what follows once a note is learnt

  pub fine_send_on_asked : {C : Fact N} → (from : ℕ) → (id : N) → Gets S C (IsMail id) → (n : N) → Gets S C (IsName n) → (verb : Words) → (args : List (Value N)) → Gets S C (AreValues args) → Fine S C (arrive.send_on_asked K from id n verb args) nothing
  unfolding arrive.send_on_asked
  fine_send_on_asked {C = C} from id g1 n g2 verb args g3 = search (fine, looks, place_here, place_of_here, fine_send_on, fine_settle) depth 30

  pub fine_delivered : {C : Fact N} → (from : ℕ) → (id : N) → Gets S C (IsMail id) → (n : N) → Gets S C (IsName n) → (verb : Words) → (args : List (Value N)) → Gets S C (AreValues args)
      → (asks : Bool) → Fine S C (if asks then arrive.send_on_asked K from id n verb args else refs.send_on K (refs.settle K) (record { id = id; target = Ref n; verb = verb; args = args; answer = None })) nothing
  fine_delivered {C = C} from id g1 n g2 verb args g3 asks = search (fine, looks, place_here, place_of_here, fine_send_on_asked, fine_send_on, fine_settle) depth 30

  -- where a gift comes to be the view of a name, is given
  pub fine_went : ((D : Fact N) (n : N) → Gets S D (IsName n) → (c : ℕ) → Gets S D (IsVat c) → Fine S D (arrive.view_there K n c) nothing) → {C : Fact N} → (n : N) → Gets S C (IsName n) → (c : ℕ) → Gets S C (IsVat c) → Fine S C (look (λ s. is_in c s.noticed) >>= (λ gone. if gone then refs.settle K n (Broken (codes "partition")) else arrive.view_there K n c)) nothing
  fine_went views {C = C} n g1 c g2 = search (fine, looks, place_here, place_of_here, fine_settle, views) depth 30

  pub fine_shortened : {C : Fact N} → (n : N) → Gets S C (IsName n) → (i : ℕ) → Gets S C (IsDraw i) → Fine S C (look (λ s. refs.place K s (refs.follow K s (Ref n))) >>= (λ p. arrive.shorten_to K i p)) nothing
  fine_shortened {C = C} n g1 i g2 = search (fine, looks, place_here, place_of_here, fine_shorten_to) depth 30

-- ---- gifts

-- A gift at its host comes to be entered where its draw was made, and to be in hand where that is the draw of a gift in hand.
pub record Gifts {N W : Type 0} (K : Naming N W) (S : Care N) : Type 0 where
  pub entered : (C : Fact N) (p i : ℕ) → Gets S C (IsDraw i) → Fine S C (arrive.have_gift K p i) IsEntry
  pub named : (C : Fact N) (p i : ℕ) → Gets S C (IsGiven i) → Fine S C (arrive.have_gift K p i) IsName

module _ {N W : Type 0} (K : Naming N W) (S : Care N) (law : Under K S) (gifts : Gifts K S) where
  have_entry : {C : Fact N} (p i : ℕ) → Gets S C (IsDraw i) → Fine S C (arrive.have_gift K p i) IsEntry
  have_entry {C = C} p i g = gifts.entered C p i g

  have_name : {C : Fact N} (p i : ℕ) → Gets S C (IsGiven i) → Fine S C (arrive.have_gift K p i) IsName
  have_name {C = C} p i g = gifts.named C p i g

  pub fine_arrive_ask : {C : Fact N} → (from p i : ℕ) → Gets S C (IsGiven i) → Fine S C (arrive.arrive_ask K from p i) nothing
  unfolding arrive.arrive_ask
  fine_arrive_ask {C = C} from p i g1 = let orphan : (D : Fact N) (n : N) → Gets S D (IsEntry n) → Fine S D (arrive.break_orphan K p i n) nothing = λ D n g. fine_break_orphan K S law {C = D} p i n g in
      let told : (D : Fact N) (n : N) → Gets S D (IsName n) → (t : Standing N) → Fine S D (arrive.tell_asker K n from t) nothing = λ D n g t. fine_tell_asker K S law {C = D} n g from t in
      bind_name S (have_name p i g1) (λ n. search (fine, looks, orphan, told) depth 30)

  pub fine_opened : {C : Fact N} → (from i : ℕ) → Gets S C (IsDraw i) → (y : N) → Gets S C (IsName y) → Fine S C (arrive.have_gift K from i >>= (λ n. open_gift from i >> refs.resolve K n (Ref y))) nothing
  fine_opened {C = C} from i g1 y g2 = bind_entry S (have_entry from i g1) (λ n. then_unit S (fine_open K S law from i) (fine_resolve K S law n (record { at = λ s c. c.1 }) (Ref y) (record { at = λ s c. g2.at s c.0 })))

-- where single gifts are cared for
module _ {N W : Type 0} (K : Naming N W) (S : Care N) (law : Under K S) (gives : Giving K S) where
  number_is : (p i : ℕ) (g : GiftEntry N) (b : Bool) → (g.provider == p) ≡ b → elim b [ true ↦ g.number == i | false ↦ false ] ≡ true → g.number ≡ i
  number_is p i g true e f = eqb-true g.number i f
  number_is p i g false e f = cc

  found_or : (p i : ℕ) (g j : GiftEntry N) (b : Bool) (o : Option (GiftEntry N)) → is_gift p i j ≡ b → (o ≡ Some g → g.number ≡ i) → elim b [ true ↦ Some j | false ↦ o ] ≡ Some g → g.number ≡ i
  unfolding is_gift
  found_or p i g j true o e f h = let same : j ≡ g = cc in subst (λ (x : GiftEntry N). x.number ≡ i) same (number_is p i j (j.provider == p) refl e)
  found_or p i g j false o e f h = f h

  -- the gift that is found is of that draw
  pub found_number : (p i : ℕ) (gs : List (GiftEntry N)) (g : GiftEntry N) → arrive.gift_at p i gs ≡ Some g → g.number ≡ i
  unfolding arrive.gift_at
  found_number p i [] g e = cc
  found_number p i (j ∷ gs) g e = found_or p i g j (is_gift p i j) (arrive.gift_at p i gs) refl (λ f. found_number p i gs g f) e

  -- it comes to be where it is absent
  hosted_ends : (s : Vat N) (p i : ℕ) (o : Option (GiftEntry N)) → arrive.gift_at p i s.gifts ≡ o → Sound S s → S.ok s (Drew i) → MayBe (GiftOk (S.ok s)) o → Ends S (λ n. IsOwned n i) s (arrive.gift_or_new K s.number p i o s)
  unfolding arrive.gift_or_new ◌>>=◌ ◌>>◌ and_then come new_gift give
  hosted_ends s p i (Some g) e h d m = (S.same s, h, subst (λ j. S.ok s (Owns g.name j)) (found_number p i s.gifts g e) m.0)
  hosted_ends s p i None e h d m = let n : N = K.made (IsGift s.number i) (length s.known) in let t : Vat N = record s { known = s.known ++ begun n s.number ∷ [] } in
      let r = gives.hosted s i h.more d in let sound : Sound S t = record { parts = with_entry K S law s t n s.number r.0 (S.owned t n i r.2) h; more = r.1 h.more } in
      let put = (fine_gift K S law gives {C = Also (IsOwned n i) (IsDraw i)} n p i (record { at = λ u c. c.0 }) (record { at = λ u c. c.1 })).after t sound (r.2, S.up s t r.0 (Drew i) d) in
      let g : GiftEntry N = record { name = n; provider = p; number = i; opened = false } in let u : Vat N = record t { gifts = t.gifts ++ g ∷ [] } in
      (S.trans s t u r.0 put.0, put.1, S.up t u put.0 (Owns n i) r.2)

  fine_hosted : {C : Fact N} (p i : ℕ) → Gets S C (IsDraw i) → Fine S C (arrive.have_gift K p i) (λ n. IsOwned n i)
  unfolding arrive.have_gift ◌>>=◌ and_then look
  fine_hosted p i g = record { after = λ s h c. hosted_ends s p i (arrive.gift_at p i s.gifts) refl h (g.at s c) (gift_at_ok (S.ok s) p i s.gifts h.parts.gifts) }

  hosted_name : {C : Fact N} (p i : ℕ) → Gets S C (IsGiven i) → Fine S C (arrive.have_gift K p i) IsName
  hosted_name {C = C} p i g = fine_more S (λ n. Also (IsOwned n i) (IsGiven i)) IsName (fine_with S (IsGiven i) g (fine_hosted p i (got_drew S C i g))) (λ n. record { at = λ s c. S.owner s n i c.0 c.1 })

  -- so does a gift that is asked for
  pub fine_gift_there : {C : Fact N} → (v h c i : ℕ) → Gets S C (IsVat c) → Gets S C (IsGiven i) → Fine S C (arrive.gift_there K v h c i) IsName
  unfolding arrive.gift_there
  fine_gift_there {C = C} v h c i g0 g1 = fine_if S (c == v) (hosted_name h i g1) (bind_name S (come_gift K S law gives c i g1 g0) (λ n. then_unit S
      (fine_out K S law c (Ask h i n) (note_ask S _ h i n (record { at = λ s d. g1.at s d.0 }) (record { at = λ s d. d.1 })) (goes_ask S _ c h i n))
      (fine_give S n (record { at = λ s d. d.1 }))))

  pub gifts_by : Gifts K S
  gifts_by = record {
    entered = λ C p i g. fine_more S (λ n. IsOwned n i) IsEntry (fine_hosted p i g) (λ n. record { at = λ s c. S.owned s n i c });
    named = λ C p i g. hosted_name p i g;
  }
