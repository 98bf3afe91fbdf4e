-- A name comes to be viewed as a gift that came to be known just now.
use Rattle.std.proofs.Common.{◌≡◌, ℕ, Bool, true, false, List, [], ◌∷◌, ◌++◌, Option, Some, None, if◌then◌else◌, zero, refl, sym, ◌∙◌, inl, inr, subst, ◌==◌}
use Rattle.std.specs.Prelude.{slice_get}
use Rattle.std.proofs.lemmas.Bool.{eqb-true}
use Rattle.def_machine.specs.Values.{Name, Gift, IsGift, naming, name_of, key, word_of, under}
use Rattle.def_machine.specs.State.{Known, See, Wait, Shorten, Ask, Views, GiftEntry, Vat, Done, Gives, Stops, ◌>>=◌, ◌>>◌, and_then, give, look, tell, send_out, come, new_gift, alter, draw, draws, drawn_at, with_change, is_gift, begun}
use Rattle.def_machine.specs.Refs.{host_at}
use Rattle.def_machine.specs.Arrive as arrive
use Rattle.law_fate.specs.Name.Names.{Named, Drew, At, Gave, AllOf, IsAmong, WasDrawn, names_in, KnownOk, GiftOk}
use Rattle.def_machine.proofs.Keys.{word_under_key}
use Rattle.law_fate.proofs.Name.Among.{drawn_last, key_not_drawn}
use Rattle.law_fate.proofs.Name.Facts.{Fact, Nothing, Also, IsName, IsDraw, IsGiven, IsVat, nothing}
use Rattle.law_fate.proofs.Name.Care.{Care, Sound, Ends, Gets, Fine, widen, still, changes_ok, fine_tell, fine_out, fine_wait}
use Rattle.law_fate.proofs.Name.Looks.{note_shorten, goes_shorten}
use Rattle.law_fate.proofs.Name.CareArrive.{fine_gift_there}
use Rattle.law_fate.proofs.Name.SameNames.{reference_is}
use Rattle.law_fate.proofs.Name.Views.{AllLookOn, look_on_see}
use Rattle.law_fate.proofs.Name.Tracked.{IsTold, Marked, Kept, Ok, Goes, ok_on, follows_change, names_change, same_name, kept_looking, tracked, tracked_under, tracked_gives}

-- a gift that came to be known as the last
abbrev IsLast : ℕ → Vat Name → Done Name Name → Type 0
IsLast i s (Gives g t) = (x : ℕ) × (k : Known Name) × (g ≡ Gift x i) × (k.name ≡ g) × (t.known ≡ s.known ++ k ∷ [])
IsLast i s other = Unit {0}

module _ (news : Bool) (M : Marked) (vats : List (Vat Name)) (v : ℕ) (q : Vat Name) (there : slice_get vats v ≡ Some q) (here : M.mark (At v)) (word : ℕ → ℕ) where
  abbrev S : Care Name
  S = tracked news M vats v q there here

  -- ---- the gift is new

  new_or : (s : Vat Name) (u p i : ℕ) (o : Option (GiftEntry Name)) → o ≡ None → IsLast i s (arrive.gift_or_new (naming word v) u p i o s)
  unfolding arrive.gift_or_new ◌>>=◌ ◌>>◌ and_then come new_gift give naming name_of begun
  new_or s u p i (Some g) e = cc
  new_or s u p i None e = (u, begun (Gift u i) u, refl, refl, refl)

  gift_last : (s : Vat Name) (u p c i : ℕ) → arrive.gift_at p i s.gifts ≡ None → IsLast i s (arrive.gift_there (naming word v) u p c i s)
  unfolding arrive.gift_there arrive.have_gift ◌>>=◌ ◌>>◌ and_then come send_out give look naming name_of begun
  gift_last s u p c i e = either (c == u)
    where
      either : (b : Bool) → IsLast i s ((if b then arrive.have_gift (naming word v) p i else (come (naming word v) (IsGift c i) c >>= (λ g. send_out c (Ask p i g) >> give g))) s)
      either true = new_or s s.number p i (arrive.gift_at p i s.gifts) e
      either false = (c, begun (Gift c i) c, refl, refl, refl)

  -- ---- what was known before the draw is another name

  absent_or : (b : Bool) (ds : List ℕ) (i p : ℕ) (g : GiftEntry Name) (o : Option (GiftEntry Name)) → is_gift p i g ≡ b → WasDrawn ds g.number → (WasDrawn ds i → ⊥) → o ≡ None → ◌≡◌ {A = Option (GiftEntry Name)} (elim b [ true ↦ Some g | false ↦ o ]) None
  unfolding is_gift
  absent_or true ds i p g o e h new k = absurd (both (g.provider == p) e)
    where
      both : (c : Bool) → elim c [ true ↦ g.number == i | false ↦ false ] ≡ true → ⊥
      both true f = new (subst (WasDrawn ds) (eqb-true g.number i f) h)
      both false f = cc
  absent_or false ds i p g o e h new k = k

  gift_absent : (ds : List ℕ) (i p : ℕ) (gs : List (GiftEntry Name)) → (WasDrawn ds i → ⊥) → AllOf (λ (g : GiftEntry Name). WasDrawn ds g.number) gs → arrive.gift_at p i gs ≡ None
  unfolding arrive.gift_at
  gift_absent ds i p [] new h = refl
  gift_absent ds i p (g ∷ gs) new h = absent_or (is_gift p i g) ds i p g (arrive.gift_at p i gs) refl h.0 new (gift_absent ds i p gs new h.1)

  gifts_drawn : (s : Vat Name) (gs : List (GiftEntry Name)) → AllOf (GiftOk (S.ok s)) gs → AllOf (λ (g : GiftEntry Name). WasDrawn s.drawn g.number) gs
  gifts_drawn s [] h = tt
  gifts_drawn s (g ∷ gs) h = let k = h.0 in let l = k.1 in (l.0, gifts_drawn s gs h.1)

  -- a name that was made before is no gift under a word that was not drawn
  other_name : (s : Vat Name) (i : ℕ) (n : Name) (x : ℕ) → (WasDrawn s.drawn i → ⊥) → Ok news M vats v q there here s (Named n) → n ≡ Gift x i → ⊥
  other_name s i n x new h e = let g : Ok news M vats v q there here s (Named (Gift x i)) = rw e at h in new g.0

  not_known : (s : Vat Name) (i x : ℕ) (ks : List (Known Name)) → (WasDrawn s.drawn i → ⊥) → AllOf (KnownOk (S.ok s)) ks → IsAmong (Gift x i) (names_in ks) → ⊥
  not_known s i x [] new h a = absurd a
  not_known s i x (k ∷ ks) new h (inl e) = other_name s i k.name x new h.0.0 (sym e)
  not_known s i x (k ∷ ks) new h (inr a) = not_known s i x ks new h.1 a

  -- ---- the view

  see_known : (s t : Vat Name) (ks : List (Known Name)) (k : Known Name) (n g : Name) → t.known ≡ ks ++ k ∷ [] → k.name ≡ g → (IsAmong g (names_in ks) → ⊥) → (n ≡ g → ⊥) → Kept v t.number t.known t.mails t.promises → Kept v t.number (with_change (naming word v) (See g) n t.known) t.mails t.promises
  unfolding naming
  see_known s t ks k n g e f new other h = kept_looking (naming word v) v t.number (See g) n t.known t.mails t.promises looks h
    where
      looks : AllLookOn [] (with_change (naming word v) (See g) n t.known)
      looks = rw (sym e) at (look_on_see (naming word v) (names_change (naming word v)) (same_name (naming word v)) g n other (λ j i. reference_is j.name n i) [] ks k f (λ a. a) new (rw e at h.views))

  -- a change by which a name that was known comes to be viewed as the one that came last
  seen : (t : Vat Name) (ks : List (Known Name)) (k : Known Name) (n g : Name) → Sound S t → S.ok t (Named g) → t.known ≡ ks ++ k ∷ [] → k.name ≡ g → (IsAmong g (names_in ks) → ⊥) → (n ≡ g → ⊥)
      → Goes news M vats v q there here t (record t { known = with_change (naming word v) (See g) n t.known }) × Sound S (record t { known = with_change (naming word v) (See g) n t.known })
  seen t ks k n g h b e f new other = let u : Vat Name = record t { known = with_change (naming word v) (See g) n t.known } in
      let r : Goes news M vats v q there here t u = follows_change (naming word v) news (IsTold v) (See g) n t.known t.mails t.promises t.messages t.drawn in let p = still S t u r h in
      let good : S.ok u (Named g) = ok_on news M vats v q there here (IsTold v) t u r (Named g) b in
      (r, record { parts = record { things = p.things; slots = p.slots; lists = p.lists; queue = p.queue; known = changes_ok (naming word v) S (tracked_under news M vats v q there here word) (S.ok u) (See g) n t.known good (λ a e. tt) p.known; gifts = p.gifts; outbox = p.outbox }; more = see_known t t ks k n g e f new other h.more })

  see_ends : (s : Vat Name) (ks : List (Known Name)) (k : Known Name) (n g : Name) → Sound S s → S.ok s (Named n) → S.ok s (Named g) → s.known ≡ ks ++ k ∷ [] → k.name ≡ g → (IsAmong g (names_in ks) → ⊥) → (n ≡ g → ⊥) → Ends S nothing s (arrive.see (naming word v) n g s)
  unfolding arrive.see ◌>>◌ and_then tell alter
  see_ends s ks k n g h a b e f new other = let t : Vat Name = record s { happened = s.happened ++ Views n g ∷ [] } in
      let told = (fine_tell (naming word v) S (tracked_under news M vats v q there here word) {C = Nothing} (Views n g)).after s h tt in
      let u : Vat Name = record t { known = with_change (naming word v) (See g) n t.known } in
      let after = seen t ks k n g told.1 (ok_on news M vats v q there here (IsTold v) s t told.0 (Named g) b) e f new other in
      let known : S.ok u (Named n) = ok_on news M vats v q there here (IsTold v) t u after.0 (Named n) (ok_on news M vats v q there here (IsTold v) s t told.0 (Named n) a) in
      let last = (fine_wait (naming word v) S (tracked_under news M vats v q there here word) {C = IsName n} n g (record { at = λ r c. S.entered r n c })).after u after.1 known in
      let d : Done Name (Unit {0}) = alter (naming word v) (Wait n) g u in widen S {A = Unit {0}} nothing s t d told.0 (widen S {A = Unit {0}} nothing t u d after.0 last)

  -- ---- the gift and the view

  gift_then : (s : Vat Name) (n : Name) (i : ℕ) (d : Done Name Name) → Ends S IsName s d → IsLast i s d → S.ok s (Named n) → ((x : ℕ) → IsAmong (Gift x i) (names_in s.known) → ⊥) → ((x : ℕ) → n ≡ Gift x i → ⊥) → Ends S nothing s (and_then d (λ g. arrive.see (naming word v) n g))
  unfolding and_then
  gift_then s n i (Gives g t) h (x, k, e, f, j) a new other = widen S {A = Unit {0}} nothing s t (arrive.see (naming word v) n g t) h.0 (see_ends t s.known k n g h.1 (ok_on news M vats v q there here (IsTold v) s t h.0 (Named n) a) h.2 j f (λ b. new x (rw e at b)) (λ y. other x (y ∙ e)))
  gift_then s n i (Stops c t) h l a new other = tt
  gift_then s n i another h l a new other = h

  put_then : (s : Vat Name) (u h i c : ℕ) (n : Name) → Sound S s → S.ok s (Named n) → S.ok s (At c) → S.ok s (Gave i) → arrive.gift_at h i s.gifts ≡ None → ((x : ℕ) → IsAmong (Gift x i) (names_in s.known) → ⊥) → ((x : ℕ) → n ≡ Gift x i → ⊥)
      → Ends S nothing s (and_then (arrive.gift_there (naming word v) u h c i s) (λ g. arrive.see (naming word v) n g))
  put_then s u w i c n h a at b e new other = gift_then s n i (arrive.gift_there (naming word v) u w c i s) ((fine_gift_there (naming word v) S (tracked_under news M vats v q there here word) (tracked_gives news M vats v q there here word) {C = Also (IsGiven i) (IsVat c)} u w c i (record { at = λ r d. d.1 }) (record { at = λ r d. d.0 })).after s h (b, at)) (gift_last s u w c i e) a new other

  drawn_then : (s : Vat Name) (u h c : ℕ) (n : Name) (w : ℕ) (o : Option ℕ) → drawn_at zero w s.drawn ≡ o → Sound S s → S.ok s (Named n) → S.ok s (At c)
      → Ends S nothing s (and_then (draws w o s) (λ i. send_out h (Shorten n c (under h i)) >> (arrive.gift_there (naming word v) u h c (under h i) >>= (λ g. arrive.see (naming word v) n g))))
  unfolding draws and_then send_out ◌>>◌ ◌>>=◌
  drawn_then s u p c n w (Some j) e h a at = tt
  drawn_then s u p c n w None e h a at = let i : ℕ = under p (key s.number w) in let is : word_of i ≡ w = word_under_key p s.number w in let new : WasDrawn s.drawn i → ⊥ = key_not_drawn s.drawn w i e is in let law = tracked_under news M vats v q there here word in let r = law.drawn s w in let t : Vat Name = record s { drawn = s.drawn ++ w ∷ [] } in
      let good : S.ok t (Drew i) = (drawn_last s.drawn w i is, tt, tt, M.draw i) in
      let drew : Sound S t = record { parts = still S s t r.0 h; more = r.1 h.more } in
      let known : S.ok t (Named n) = ok_on news M vats v q there here (IsTold v) s t r.0 (Named n) a in
      let put = (fine_out (naming word v) S law {C = Also (IsName n) (IsDraw i)} p (Shorten n c i) (note_shorten S (Also (IsName n) (IsDraw i)) n c i (record { at = λ r d. d.0 }) (record { at = λ r d. d.1 })) (goes_shorten S (Also (IsName n) (IsDraw i)) p n c i)).after t drew (known, good) in
      let z : Vat Name = record t { outbox = t.outbox ++ record { to = p; note = Shorten n c i } ∷ [] } in
      let d : Done Name (Unit {0}) = and_then (arrive.gift_there (naming word v) u p c i z) (λ g. arrive.see (naming word v) n g) in
      widen S {A = Unit {0}} nothing s t d r.0 (widen S {A = Unit {0}} nothing t z d put.0 (put_then z u p i c n put.1 (ok_on news M vats v q there here (IsTold v) t z put.0 (Named n) known) (ok_on news M vats v q there here (IsTold v) t z put.0 (At c) (ok_on news M vats v q there here (IsTold v) s t r.0 (At c) at)) (ok_on news M vats v q there here (IsTold v) t z put.0 (Drew i) good)
      (gift_absent s.drawn i p s.gifts new (gifts_drawn s s.gifts h.parts.gifts)) (λ x b. not_known s i x s.known new h.parts.known b) (λ x b. other_name s i n x new a b)))

  -- what a name is viewed as is asked of its host, and comes later among the names known
  pub tracked_views : {C : Fact Name} (n : Name) → Gets S C (IsName n) → (c : ℕ) → Gets S C (IsVat c) → Fine S C (arrive.view_there (naming word v) n c) nothing
  unfolding arrive.view_there ◌>>=◌ and_then look draw
  tracked_views n g c k = record { after = λ s h d. drawn_then s s.number (host_at (naming word v) s.number s.known n) c n _ _ refl h (g.at s d) (k.at s d) }
