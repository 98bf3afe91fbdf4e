-- Following looks far enough: on its way to a list it meets each name once. So names that come to be known close no ring of lists.
use Rattle.std.proofs.Common.{◌≡◌, ℕ, zero, suc, ◌≤◌, Bool, true, false, List, [], ◌∷◌, ◌++◌, Option, Some, None, refl, sym, ap, subst, ◌∙◌, length, arith, map}
use Rattle.def_machine.specs.Values.{Value, Null, Flag, Number, Letter, Text, Prim, Broken, Items, Ref, Name, Naming}
use Rattle.def_machine.specs.State.{Standing, Unsettled, Viewed, Settled, Known, Vat, begun}
use Rattle.def_machine.specs.Native.{list_at}
use Rattle.def_machine.specs.Refs.{entry_of, standing_of, standing_in, led, follow_at, follow, severed}
use Rattle.law_reference.proofs.Reference.Calm.{next}
use Rattle.law_reference.proofs.Reference.Chains.{Exact, no_longer}
use Rattle.law_frozen.specs.Frozen.{IsAmong}
use Rattle.law_reference.specs.Reference.Lists.{Leads, LeadsIn, NoListLeadsBack}
use Rattle.law_reference.proofs.Reference.Following.{name_list, plain_stays, IsPlain, severed_list, list_severed}
use Rattle.law_reference.proofs.Reference.ListRings.{list_only}

-- the name to which it leads on, by what it settled to or its view
leading : Standing Name → Standing Name
leading (Settled (Ref m)) = Viewed m
leading (Viewed q) = Viewed q
leading t = Unsettled

leads_as : Known Name → Known Name
leads_as k = record k { standing = leading k.standing }

list_name : (j : ℕ) (m : Name) → Settled (Ref m) ≡ Settled (Items j) → ⊥
list_name j m e = cc

list_view : (j : ℕ) (m : Name) → Viewed m ≡ Settled (Items j) → ⊥
list_view j m e = cc

length_map : (ks : List (Known Name)) → length (map leads_as ks) ≡ length ks
length_map [] = refl
length_map (k ∷ ks) = ap suc (length_map ks)

module _ (K : Naming Name Name) (is : (a b : Name) → K.same a b ≡ true → a ≡ b) where
  map_head : (b : Bool) (k : Known Name) (o p : Option (Known Name)) → standing_in p ≡ leading (standing_in o) → standing_in (elim b [ true ↦ Some (leads_as k) | false ↦ p ]) ≡ leading (standing_in (elim b [ true ↦ Some k | false ↦ o ]))
  unfolding standing_in leads_as
  map_head true k o p e = refl
  map_head false k o p e = e

  map_standing : (ks : List (Known Name)) (n : Name) → standing_of K (map leads_as ks) n ≡ leading (standing_of K ks n)
  unfolding standing_of entry_of standing_in leads_as leading
  map_standing [] n = refl
  map_standing (k ∷ ks) n = map_head (K.same k.name n) k (entry_of K ks n) (entry_of K (map leads_as ks) n) (map_standing ks n)

  module _ (ks : List (Known Name)) (k : ℕ) where
    -- it settled to that list
    abbrev Hits : Name → Type 0
    Hits n = standing_of K ks n ≡ Settled (Items k)

    abbrev Way : ℕ → Name → Type 0
    Way = Exact K is (map leads_as ks) Hits

    on_name : (e : ℕ) (n m : Name) → next (leading (standing_of K ks n)) ≡ Some m → (Hits n → ⊥) → Way e m → Way (suc e) n
    on_name e n m i not h = (not, (m, ap next (map_standing ks n) ∙ i, h))

    ways_value : (d : ℕ) (n : Name) (y : Value Name) → standing_of K ks n ≡ Settled y → ((m : Name) → follow_at K d ks (Ref m) ≡ Items k → (e : ℕ) × Way e m) → follow_at K d ks y ≡ Items k → (e : ℕ) × Way e n
    unfolding next leading
    ways_value d n (Ref m) i f e = let rest = f m e in (suc rest.0, on_name rest.0 n m (ap (λ t. next (leading t)) i) (λ h. list_name k m (sym i ∙ h)) rest.1)
    ways_value d n (Items j) i f e = (zero, i ∙ ap (λ x. Settled x) (sym (plain_stays K d ks (Items j) tt) ∙ e))
    ways_value d n Null i f e = (zero, i ∙ ap (λ x. Settled x) (sym (plain_stays K d ks Null tt) ∙ e))
    ways_value d n (Flag b) i f e = (zero, i ∙ ap (λ x. Settled x) (sym (plain_stays K d ks (Flag b) tt) ∙ e))
    ways_value d n (Number z) i f e = (zero, i ∙ ap (λ x. Settled x) (sym (plain_stays K d ks (Number z) tt) ∙ e))
    ways_value d n (Letter c) i f e = (zero, i ∙ ap (λ x. Settled x) (sym (plain_stays K d ks (Letter c) tt) ∙ e))
    ways_value d n (Text t) i f e = (zero, i ∙ ap (λ x. Settled x) (sym (plain_stays K d ks (Text t) tt) ∙ e))
    ways_value d n (Prim p) i f e = (zero, i ∙ ap (λ x. Settled x) (sym (plain_stays K d ks (Prim p) tt) ∙ e))
    ways_value d n (Broken t) i f e = (zero, i ∙ ap (λ x. Settled x) (sym (plain_stays K d ks (Broken t) tt) ∙ e))

    ways_at : (d : ℕ) (n : Name) (t : Standing Name) → standing_of K ks n ≡ t → ((m : Name) → follow_at K d ks (Ref m) ≡ Items k → (e : ℕ) × Way e m) → led K (λ y. follow_at K d ks y) n t ≡ Items k → (e : ℕ) × Way e n
    unfolding led next leading
    ways_at d n (Settled y) i f e = ways_value d n y i f e
    ways_at d n (Viewed q) i f e = let rest = f q e in (suc rest.0, on_name rest.0 n q (ap (λ t. next (leading t)) i) (λ h. list_view k q (sym i ∙ h)) rest.1)
    ways_at d n other i f e = absurd (name_list n k e)

    ways : (d : ℕ) (n : Name) → follow_at K d ks (Ref n) ≡ Items k → (e : ℕ) × Way e n
    unfolding follow_at
    ways zero n e = absurd (name_list n k e)
    ways (suc d) n e = ways_at d n (standing_of K ks n) refl (λ m i. ways d m i) e

    -- back: a way so long is followed
    along_value : (d : ℕ) (q : Name) (y : Value Name) → next (leading (Settled y)) ≡ Some q → follow_at K d ks (Ref q) ≡ Items k → follow_at K d ks y ≡ Items k
    unfolding next leading
    along_value d q (Ref m) i e = let same : m ≡ q = cc in subst (λ x. follow_at K d ks (Ref x) ≡ Items k) (sym same) e
    along_value d q other i e = cc

    along_at : (d : ℕ) (n q : Name) (t : Standing Name) → next (leading t) ≡ Some q → follow_at K d ks (Ref q) ≡ Items k → led K (λ y. follow_at K d ks y) n t ≡ Items k
    unfolding led next leading
    along_at d n q (Settled y) i e = along_value d q y i e
    along_at d n q (Viewed r) i e = let same : r ≡ q = cc in subst (λ x. follow_at K d ks (Ref x) ≡ Items k) (sym same) e
    along_at d n q other i e = cc

    hit : (d : ℕ) (n : Name) → Hits n → follow_at K (suc d) ks (Ref n) ≡ Items k
    unfolding follow_at led
    hit d n h = ap (λ t. led K (λ y. follow_at K d ks y) n t) h ∙ plain_stays K d ks (Items k) tt

    along : (e d : ℕ) (n : Name) → Way e n → e ≤ d → follow_at K (suc d) ks (Ref n) ≡ Items k
    unfolding follow_at
    along zero d n h l = hit d n h
    along (suc e) zero n h l = absurd (none l)
      where
        none : suc e ≤ zero → ⊥
        none i = omega arith
    along (suc e) (suc d) n h l = along_at (suc d) n h.1.0 (standing_of K ks n) (sym (ap next (map_standing ks n)) ∙ h.1.1) (along e d h.1.0 h.1.2 (omega arith))

    name_within : (d : ℕ) (n : Name) → follow_at K d ks (Ref n) ≡ Items k → follow_at K (suc (length ks)) ks (Ref n) ≡ Items k
    name_within d n e = let at = ways d n e in along at.0 (length ks) n at.1 (subst (λ l. at.0 ≤ l) (length_map ks) (no_longer K is (map leads_as ks) Hits at.0 n at.1))

  plain_within : (ks : List (Known Name)) (k d : ℕ) (x : Value Name) → IsPlain x → follow_at K d ks x ≡ Items k → follow_at K (suc (length ks)) ks x ≡ Items k
  plain_within ks k d x h e = plain_stays K (suc (length ks)) ks x h ∙ sym (plain_stays K d ks x h) ∙ e

  -- where settlings and views lead to a list, following comes there
  pub follows_within : (ks : List (Known Name)) (k d : ℕ) (x : Value Name) → follow_at K d ks x ≡ Items k → follow_at K (suc (length ks)) ks x ≡ Items k
  follows_within ks k d (Ref n) e = name_within ks k d n e
  follows_within ks k d Null e = plain_within ks k d Null tt e
  follows_within ks k d (Flag b) e = plain_within ks k d (Flag b) tt e
  follows_within ks k d (Number z) e = plain_within ks k d (Number z) tt e
  follows_within ks k d (Letter c) e = plain_within ks k d (Letter c) tt e
  follows_within ks k d (Text t) e = plain_within ks k d (Text t) tt e
  follows_within ks k d (Prim p) e = plain_within ks k d (Prim p) tt e
  follows_within ks k d (Broken t) e = plain_within ks k d (Broken t) tt e
  follows_within ks k d (Items j) e = plain_within ks k d (Items j) tt e

  -- ---- a name that comes to be known, and a vat that is noticed

  last_standing : (b : Bool) (n : Name) (h : ℕ) → standing_in (elim b [ true ↦ Some (begun n h) | false ↦ None ]) ≡ Unsettled
  unfolding standing_in begun
  last_standing true n h = refl
  last_standing false n h = refl

  append_head : (b : Bool) (k : Known Name) (o p : Option (Known Name)) → standing_in p ≡ standing_in o → standing_in (elim b [ true ↦ Some k | false ↦ p ]) ≡ standing_in (elim b [ true ↦ Some k | false ↦ o ])
  append_head true k o p e = refl
  append_head false k o p e = e

  pub append_standing : (ks : List (Known Name)) (n : Name) (h : ℕ) (m : Name) → standing_of K (ks ++ begun n h ∷ []) m ≡ standing_of K ks m
  unfolding standing_of entry_of standing_in
  append_standing [] n h m = last_standing (K.same (begun n h).name m) n h
  append_standing (k ∷ ks) n h m = append_head (K.same k.name m) k (entry_of K ks m) (entry_of K (ks ++ begun n h ∷ []) m) (append_standing ks n h m)

  led_both : (f g : Value Name → Value Name) (n : Name) (t : Standing Name) → ((y : Value Name) → f y ≡ g y) → led K f n t ≡ led K g n t
  unfolding led
  led_both f g n (Settled y) h = h y
  led_both f g n (Viewed q) h = h (Ref q)
  led_both f g n other h = refl

  same_stands : (ks ls : List (Known Name)) → ((m : Name) → standing_of K ls m ≡ standing_of K ks m) → (d : ℕ) (x : Value Name) → follow_at K d ls x ≡ follow_at K d ks x
  unfolding follow_at
  same_stands ks ls f zero x = refl
  same_stands ks ls f (suc d) (Ref n) = ap (λ t. led K (λ y. follow_at K d ls y) n t) (f n) ∙ led_both (λ y. follow_at K d ls y) (λ y. follow_at K d ks y) n (standing_of K ks n) (λ y. same_stands ks ls f d y)
  same_stands ks ls f (suc d) other = refl

  -- a state in which nothing else is followed to a list
  fewer_leads : (s t : Vat Name) → t.lists ≡ s.lists → ((v : Value Name) (k : ℕ) → follow K t v ≡ Items k → follow K s v ≡ Items k) → (a b : ℕ) → Leads K t (Items a) (Items b) → Leads K s (Items a) (Items b)
  fewer_leads s t l f a b h = (h.0, subst (λ ls. IsAmong h.0 (list_at ls a)) l h.1, f h.0 b h.2)

  fewer_way : (s t : Vat Name) → t.lists ≡ s.lists → ((v : Value Name) (k : ℕ) → follow K t v ≡ Items k → follow K s v ≡ Items k) → (d a b : ℕ) → LeadsIn K d t (Items a) (Items b) → LeadsIn K d s (Items a) (Items b)
  fewer_way s t l f zero a b h = h
  fewer_way s t l f (suc d) a b h = let c = list_only K d t h.0 b h.2 in let step : Leads K t (Items a) (Items c.0) = subst (λ z. Leads K t (Items a) z) c.1 h.1 in
      (Items c.0, fewer_leads s t l f a c.0 step, fewer_way s t l f d c.0 b (subst (λ z. LeadsIn K d t z (Items b)) c.1 h.2))

  pub fewer_close_none : (s t : Vat Name) → t.lists ≡ s.lists → ((v : Value Name) (k : ℕ) → follow K t v ≡ Items k → follow K s v ≡ Items k) → NoListLeadsBack K s → NoListLeadsBack K t
  fewer_close_none s t l f none k d h = none k d (fewer_way s t l f (suc d) k k h)

  new_followed : (s : Vat Name) (n : Name) (h : ℕ) (v : Value Name) (k : ℕ) → follow K (record s { known = s.known ++ begun n h ∷ [] }) v ≡ Items k → follow K s v ≡ Items k
  unfolding follow
  new_followed s n h v k e = let ls : List (Known Name) = s.known ++ begun n h ∷ [] in let t : Vat Name = record s { known = ls } in
      let at : follow_at K (suc (length ls)) ls v ≡ Items k = severed_list K t (follow_at K (suc (length ls)) ls v) k e in
      let old : follow_at K (suc (length ls)) s.known v ≡ Items k = sym (same_stands s.known ls (append_standing s.known n h) (suc (length ls)) v) ∙ at in
      ap (severed K s) (follows_within s.known k (suc (length ls)) v old) ∙ list_severed K s k

  pub new_name_closes_none : (s : Vat Name) (n : Name) (h : ℕ) → NoListLeadsBack K s → NoListLeadsBack K (record s { known = s.known ++ begun n h ∷ [] })
  new_name_closes_none s n h = fewer_close_none s (record s { known = s.known ++ begun n h ∷ [] }) refl (new_followed s n h)

  noticed_followed : (s : Vat Name) (w : ℕ) (v : Value Name) (k : ℕ) → follow K (record s { noticed = s.noticed ++ w ∷ [] }) v ≡ Items k → follow K s v ≡ Items k
  unfolding follow
  noticed_followed s w v k e = ap (severed K s) (severed_list K (record s { noticed = s.noticed ++ w ∷ [] }) (follow_at K (suc (length s.known)) s.known v) k e) ∙ list_severed K s k

  pub notice_closes_none : (s : Vat Name) (w : ℕ) → NoListLeadsBack K s → NoListLeadsBack K (record s { noticed = s.noticed ++ w ∷ [] })
  notice_closes_none s w = fewer_close_none s (record s { noticed = s.noticed ++ w ∷ [] }) refl (noticed_followed s w)
