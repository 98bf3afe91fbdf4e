-- What a vat has for the arguments of a message came to it as the history of the run tells.
use Rattle.std.proofs.Common.{◌≡◌, ℕ, zero, suc, Bool, true, false, List, [], ◌∷◌, Option, Some, None, refl, sym, ap, subst, ◌∙◌, ◌⊎◌, inl, inr, ◌==◌, ◌&&◌, eqb-true}
use Rattle.std.specs.Prelude.{slice_get}
use Rattle.def_machine.specs.Values.{Value, Prim, Items, Ref, Name, Gift, Naming, same_name}
use Rattle.def_machine.specs.State.{Settles, Passed, Passeds, Plain, AGift, Many, NoMore, More, Vat}
use Rattle.def_machine.specs.Native.{list_at}
use Rattle.def_machine.specs.Refs as refs
use Rattle.def_run.specs.World.{Script, Event, Here, World, names}
use Rattle.law_fate.specs.Name.Names.{IsAmong, AllOf}
use Rattle.law_order.specs.Ordering.Order.{listed, list_in, plains, settled_members, members, names as is_named}
use Rattle.law_order.specs.Ordering.Steps.{IsHeld}
use Rattle.law_order.proofs.Ordering.Named.{same_is}
use Rattle.law_order.specs.History.Passings.{IsNamedAs, AllCame, CameAs}
use Rattle.law_order.specs.History.Told.{IsTold}
use Rattle.law_order.specs.Sending.Came.{IsHadAs, AreHadAs, IsListedAs, Agrees, ViewsNoList, HoldsMembers, WhatIsHadCame, WhatIsSentCame}

-- ---- what lines tell

-- a list has no members that are told, or a line tells them
list_told : (v k : ℕ) (done : List Event) → (list_in v k done ≡ []) ⊎ IsListedAs v k (list_in v k done) done
unfolding list_in
list_told v k [] = inl refl
list_told v k (e ∷ es) = go (listed v k e) refl (list_told v k es)
  where
    go : (o : Option (List (Value Name))) → listed v k e ≡ o → (list_in v k es ≡ []) ⊎ IsListedAs v k (list_in v k es) es → ((elim o [ Some ys ↦ ys | None ↦ list_in v k es ]) ≡ []) ⊎ IsListedAs v k (elim o [ Some ys ↦ ys | None ↦ list_in v k es ]) (e ∷ es)
    go (Some ys) f r = inr (record { line = e; among = inl refl; says = f })
    go None f (inl i) = inl i
    go None f (inr t) = inr (record { line = t.line; among = inr t.among; says = t.says })

-- a line by which a name settled to a list
record SettlesList (v : ℕ) (n : Name) (done fs : List Event) : Type 0 where
  pub list : ℕ
  pub among : IsAmong (Here v (Settles n (Items list))) fs
  pub members : settled_members v n done fs ≡ plains (list_in v list done)

-- what a line adds to what is told of the list to which a name settled
record Settling (v : ℕ) (n : Name) (done : List Event) (e : Event) (es : List Event) : Type 0 where
  pub vat : ℕ
  pub name : Name
  pub list : ℕ
  pub is : e ≡ Here vat (Settles name (Items list))
  pub members : settled_members v n done (e ∷ es) ≡ elim ((vat == v) && same_name name n) [ true ↦ plains (list_in v list done) | false ↦ settled_members v n done es ]

by_line : (v : ℕ) (n : Name) (done : List Event) (e : Event) (es : List Event) → Settling v n done e es ⊎ (settled_members v n done (e ∷ es) ≡ settled_members v n done es)
unfolding settled_members
by_line v n done (Here w (Settles m (Items k))) es = inl (record { vat = w; name = m; list = k; is = refl; members = refl })
by_line v n done other es = inr refl

both : (b c : Bool) → (b && c) ≡ true → (b ≡ true) × (c ≡ true)
both true c e = (refl, e)
both false c e = absurd (cc)

abbrev Result : ℕ → Name → List Event → Event → List Event → Type 0
Result v n done e es = (settled_members v n done (e ∷ es) ≡ NoMore) ⊎ SettlesList v n done (e ∷ es)

settled_told : (v : ℕ) (n : Name) (done fs : List Event) → (settled_members v n done fs ≡ NoMore) ⊎ SettlesList v n done fs
unfolding settled_members
settled_told v n done [] = inl refl
settled_told v n done (e ∷ es) = go (by_line v n done e es) (settled_told v n done es)
  where
    behind : settled_members v n done (e ∷ es) ≡ settled_members v n done es → (settled_members v n done es ≡ NoMore) ⊎ SettlesList v n done es → Result v n done e es
    behind i (inl j) = inl (i ∙ j)
    behind i (inr t) = inr (record { list = t.list; among = inr t.among; members = i ∙ t.members })

    here : (t : Settling v n done e es) → (b : Bool) → ((t.vat == v) && same_name t.name n) ≡ b → (settled_members v n done es ≡ NoMore) ⊎ SettlesList v n done es → Result v n done e es
    here t true f r = let g = both (t.vat == v) (same_name t.name n) f in let vat : t.vat ≡ v = eqb-true t.vat v g.0 in let name : t.name ≡ n = same_is t.name n g.1 in
        inr (record {
          list = t.list;
          among = inl (ap (λ u. Here u (Settles n (Items t.list))) (sym vat) ∙ ap (λ m. Here t.vat (Settles m (Items t.list))) (sym name) ∙ sym t.is);
          members = t.members ∙ ap (λ b. elim b [ true ↦ plains (list_in v t.list done) | false ↦ settled_members v n done es ]) f;
        })
    here t false f r = behind (t.members ∙ ap (λ b. elim b [ true ↦ plains (list_in v t.list done) | false ↦ settled_members v n done es ]) f) r

    go : Settling v n done e es ⊎ (settled_members v n done (e ∷ es) ≡ settled_members v n done es) → (settled_members v n done es ≡ NoMore) ⊎ SettlesList v n done es → Result v n done e es
    go (inl t) r = here t ((t.vat == v) && same_name t.name n) refl r
    go (inr i) r = behind i r

-- ---- what the vat has

all_none : (P : Passed Name → Value Name → Type 0) (zs : Passeds Name) → AllCame P zs []
all_none P NoMore = tt
all_none P (More z zs) = tt

all_plain : (P : Passed Name → Value Name → Type 0) (Q : Value Name → Type 0) → ((x : Value Name) → Q x → P (Plain x) x) → (xs : List (Value Name)) → AllOf Q xs → AllCame P (plains xs) xs
unfolding plains
all_plain P Q f [] h = tt
all_plain P Q f (x ∷ xs) h = (f x h.0, all_plain P Q f xs h.1)

some_is : (a b : List (Value Name)) → Some a ≡ Some b → a ≡ b
some_is a b e = cc

items_is : (j k : ℕ) → ◌≡◌ {A = Value Name} (Items j) (Items k) → j ≡ k
items_is j k e = cc

module _ (script : Script) (honest : ℕ → Bool) (w : World) (v h : ℕ) (s : Vat Name) (agrees : Agrees script v s) (views : ViewsNoList script v s) (holds : HoldsMembers script honest w v s) (done : List Event) (told : IsTold script done) where
  abbrev K : Naming Name Name
  K = names script v

  abbrev Held : Value Name → Type 0
  Held x = IsHeld script honest w v s x

  abbrev Came : ℕ → Passed Name → Value Name → Type 0
  Came d z x = CameAs script honest w v h d s done z x

  -- of a list that a line tells
  listed_came : (d k : ℕ) → ((x : Value Name) → Held x → Came d (Plain x) x) → AllCame (Came d) (plains (list_in v k done)) (list_at s.lists k)
  unfolding list_at plains
  listed_came d k f = go (slice_get s.lists k) refl
    where
      of_list : (vs ws : List (Value Name)) → slice_get s.lists k ≡ Some vs → (ws ≡ []) ⊎ IsListedAs v k ws done → AllCame (Came d) (plains ws) vs
      of_list vs ws e (inl i) = subst (λ us. AllCame (Came d) (plains us) vs) (sym i) tt
      of_list vs ws e (inr t) = subst (λ us. AllCame (Came d) (plains us) vs) (sym (agrees.lists done told k vs ws e t)) (all_plain (Came d) Held f vs (holds k vs e))

      go : (o : Option (List (Value Name))) → slice_get s.lists k ≡ o → AllCame (Came d) (plains (list_in v k done)) (elim o [ Some vs ↦ vs | None ↦ [] ])
      go (Some vs) e = of_list vs (list_in v k done) e (list_told v k done)
      go None e = all_none (Came d) (plains (list_in v k done))

  -- of a list to which a name settled
  settled_came : (d k : ℕ) (n : Name) → ((x : Value Name) → Held x → Came d (Plain x) x) → refs.follow K s (Ref n) ≡ Items k → AllCame (Came d) (settled_members v n done done) (list_at s.lists k)
  settled_came d k n f e = go (settled_told v n done done)
    where
      go : (settled_members v n done done ≡ NoMore) ⊎ SettlesList v n done done → AllCame (Came d) (settled_members v n done done) (list_at s.lists k)
      go (inl i) = subst (λ zs. AllCame (Came d) zs (list_at s.lists k)) (sym i) tt
      go (inr t) = let same : k ≡ t.list = items_is k t.list (agrees.settled done told n t.list (Items k) t.among (views n k e)) in
          subst (λ zs. AllCame (Came d) zs (list_at s.lists k)) (sym t.members) (subst (λ j. AllCame (Came d) (plains (list_in v t.list done)) (list_at s.lists j)) (sym same) (listed_came d t.list f))

  named_plain : (x : Value Name) → Held x → IsNamedAs script honest w v h s (Plain x) x
  unfolding is_named
  named_plain (Ref n) i = λ e f. let same : n ≡ e = same_is n e f in (ap (λ m. Ref m) same, subst (λ m. Held (Ref m)) same i)
  named_plain other i = λ e f. absurd (cc)

  followed_items : (j k : ℕ) → refs.follow K s (Items j) ≡ Items k → j ≡ k
  unfolding refs.follow refs.follow_at refs.severed
  followed_items j k e = items_is j k e

  members_came : (d : ℕ) → ((x : Value Name) → Held x → Came d (Plain x) x) → (x : Value Name) (k : ℕ) → refs.follow K s x ≡ Items k → AllCame (Came d) (members v done (Plain x)) (list_at s.lists k)
  unfolding members
  members_came d f (Items j) k e = subst (λ i. AllCame (Came d) (plains (list_in v j done)) (list_at s.lists i)) (followed_items j k e) (listed_came d j f)
  members_came d f (Ref n) k e = settled_came d k n f e
  members_came d f other k e = tt

  plain_came : (d : ℕ) (x : Value Name) → Held x → Came d (Plain x) x
  plain_came zero x i = named_plain x i
  plain_came (suc d) x i = (named_plain x i, λ k e. members_came d (plain_came d) x k e)

  -- ---- what came

  named_gift : (g i : ℕ) → Held (Ref (Gift g i)) → IsNamedAs script honest w v h s (AGift g i) (Ref (Gift g i))
  unfolding is_named
  named_gift g i j = λ e f. let same : Gift g i ≡ e = same_is (Gift g i) e f in (ap (λ m. Ref m) same, subst (λ m. Held (Ref m)) same j)

  gift_came : (d g i : ℕ) → Held (Ref (Gift g i)) → Came d (AGift g i) (Ref (Gift g i))
  unfolding members
  gift_came zero g i j = named_gift g i j
  gift_came (suc d) g i j = (named_gift g i j, λ k e. settled_came d k (Gift g i) (plain_came d) e)

  named_many : (ys : Passeds Name) (x : Value Name) → IsNamedAs script honest w v h s (Many ys) x
  unfolding is_named
  named_many ys x = λ e f. absurd (cc)

  many_came : (d : ℕ) (ys : Passeds Name) (x : Value Name) (k : ℕ) (vs : List (Value Name)) → x ≡ Items k → slice_get s.lists k ≡ Some vs → ((c : ℕ) → AllCame (Came c) ys vs) → Came d (Many ys) x
  unfolding members list_at
  many_came zero ys x k vs i e f = named_many ys x
  many_came (suc d) ys x k vs i e f = (named_many ys x, λ j q. subst (λ (us : List (Value Name)). AllCame (Came d) ys us) (sym (ap (λ (o : Option (List (Value Name))). elim o [ Some us ↦ us | None ↦ [] ]) (ap (slice_get s.lists) (sym (followed_items k j (ap (refs.follow K s) (sym i) ∙ q))) ∙ e))) (f d))

  mutual
    one_came : (z : Passed Name) (x : Value Name) → IsHadAs s.lists z x → Held x → (d : ℕ) → Came d z x
    one_came (Plain y) x e i d = subst (λ u. Came d (Plain u) x) e (plain_came d x i)
    one_came (AGift g j) x e i d = subst (λ u. Came d (AGift g j) u) (sym e) (gift_came d g j (subst Held e i))
    one_came (Many ys) x e i d = many_came d ys x e.0 e.1 e.2 e.3 (λ c. all_came ys e.1 e.4 (holds e.0 e.1 e.3) c)

    all_came : (zs : Passeds Name) (xs : List (Value Name)) → AreHadAs s.lists zs xs → AllOf Held xs → (d : ℕ) → AllCame (Came d) zs xs
    all_came NoMore [] e i d = tt
    all_came NoMore (x ∷ xs) e i d = tt
    all_came (More z zs) [] e i d = tt
    all_came (More z zs) (x ∷ xs) e i d = (one_came z x e.0 i.0 d, all_came zs xs e.1 i.1 d)

  sent_came : (xs : List (Value Name)) → AllOf Held xs → (d : ℕ) → AllCame (Came d) (plains xs) xs
  sent_came xs i d = all_plain (Came d) Held (plain_came d) xs i

pub what_is_had_came : WhatIsHadCame
what_is_had_came script honest w v h s agrees views holds zs xs had held d done told = all_came script honest w v h s agrees views holds done told zs xs had held d

pub what_is_sent_came : WhatIsSentCame
what_is_sent_came script honest w v h s agrees views holds xs held d done told = sent_came script honest w v h s agrees views holds done told xs held d
