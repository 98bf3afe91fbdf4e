-- What each change of a vat, and each note that it puts, tells another vat.
use Rattle.std.proofs.Common.{◌≡◌, ℕ, ◌-◌, Bool, true, false, List, [], ◌∷◌, ◌++◌, Option, Some, None, refl, sym, ap, subst, ◌∙◌, ◌⊎◌, inl, inr, append-nil, append_assoc, if◌then◌else◌, eq-eqb}
use Rattle.std.specs.Prelude.{◌==◌}
use Rattle.std.proofs.lemmas.Bool.{eqb-true}
use Rattle.def_machine.specs.Values.{Value, Name, Naming, Coming, Mailing}
use Rattle.def_machine.specs.State.{Message, Settled, Known, Change, ToTell, Settle, Passed, AGift, Note, Open, SettledTo, Elsewhere, Put, Vat, Done, Gives, Throws, Ejects, Stops, Act, ◌>>=◌, ◌>>◌, and_then, give, look, each, enqueue, send_out, new_gift, open_gift, mark, alter, with_change, changed, changed_to, with_vat, is_in, come, mail, new_message, new_lone_message, draw, draws, begun}
use Rattle.def_machine.specs.Refs as refs
use Rattle.def_machine.specs.Refs.{Place, Away, entry_of, standing_of}
use Rattle.law_machine.specs.Machine.Laws.{SettledStays}
use Rattle.law_machine.specs.Machine.Steps.{After}
use Rattle.law_machine.proofs.Machine.StepLaws.{settled_names, settled_entry, standing_found, entry_append}
use Rattle.law_fate.specs.Name.Names.{AllOf, IsAmong, Once}
use Rattle.law_fate.proofs.Name.Facts.{all_end}
use Rattle.law_reference.proofs.Reference.Entries.{unless_either}
use Rattle.law_reference.proofs.Reference.Puts.{among_in}
use Rattle.law_order.proofs.Ordering.Moves.{Keeps, IsKept, keeps_bind, keeps_then, keeps_give}
use Rattle.law_order.proofs.Ordering.Passings.{keeps_pass}
use Rattle.law_order.specs.ToldOnce.Told.{with_news, news_in}
use Rattle.law_order.proofs.ToldOnce.Puts.{news_to, news_end, one_to, none_to}

-- ---- vats that are to be told, once each

true_false : true ≡ false → ⊥
true_false e = cc

once_end : (w : ℕ) (ws : List ℕ) → (IsAmong w ws → ⊥) → Once {A = ℕ} ws → Once {A = ℕ} (ws ++ w ∷ [])
once_end w [] f h = (λ a. a, tt)
once_end w (x ∷ ws) f h = (other ws h.0, once_end w ws (λ a. f (inr a)) h.1)
  where
    other : (us : List ℕ) → (IsAmong x us → ⊥) → IsAmong x (us ++ w ∷ []) → ⊥
    other [] g (inl e) = f (inl (sym e))
    other [] g (inr a) = a
    other (u ∷ us) g (inl e) = g (inl e)
    other (u ∷ us) g (inr a) = other us (λ b. g (inr b)) a

with_vat_once : (w : ℕ) (ws : List ℕ) → Once {A = ℕ} ws → Once {A = ℕ} (with_vat w ws)
unfolding with_vat
with_vat_once w ws h = go (is_in w ws) refl
  where
    go : (b : Bool) → is_in w ws ≡ b → Once {A = ℕ} (elim b [ true ↦ ws | false ↦ ws ++ w ∷ [] ])
    go true e = h
    go false e = once_end w ws (λ a. true_false (sym (among_in w ws a) ∙ e)) h

abbrev pub ToldOf : Known Name → Type 0
ToldOf k = Once {A = ℕ} k.told

to_once : (c : Change Name) (k : Known Name) → ToldOf k → ToldOf (changed_to c k)
unfolding changed_to
to_once (ToTell w) k h = with_vat_once w k.told h
to_once (Settle y) k h = tt
to_once other k h = h

changed_once : (c : Change Name) (k : Known Name) → ToldOf k → ToldOf (changed c k)
unfolding changed
changed_once c k h = unless_either ToldOf k.standing k (changed_to c k) h (to_once c k h)

-- by way of a state from which it leads on
pub from_after : {A : Type 0} (R Q : Vat Name → Vat Name → Type 0) (s t : Vat Name) (d : Done Name A) → ((u : Vat Name) → R t u → Q s u) → After R t d → After Q s d
from_after R Q s t (Gives a u) f h = f u h
from_after R Q s t (Throws x u) f h = f u h
from_after R Q s t (Ejects i y u) f h = f u h
from_after R Q s t (Stops c u) f h = f u h

module _ (K : Naming Name Name) (v : ℕ) where
  -- of each name each vat is to be told once
  abbrev pub Distinct : Vat Name → Type 0
  Distinct s = AllOf ToldOf s.known

  abbrev pub IsSettledIn : Vat Name → Name → Type 0
  IsSettledIn s n = (y : Value Name) × (standing_of K s.known n ≡ Settled y)

  pub stays_settled : (s t : Vat Name) → SettledStays K s t → (n : Name) → IsSettledIn s n → IsSettledIn t n
  unfolding standing_of
  stays_settled s t h n k = let found = settled_entry (entry_of K s.known n) k.0 k.1 in (k.0, standing_found K t.known n found.0 k.0 (h n found.0 k.0 found.1 found.2) found.2)

  changed_all : (c : Change Name) (n : Name) (ks : List (Known Name)) → AllOf ToldOf ks → AllOf ToldOf (with_change K c n ks)
  unfolding with_change
  changed_all c n [] h = tt
  changed_all c n (k ∷ ks) h = go (K.same k.name n) (changed_all c n ks h.1)
    where
      go : (b : Bool) → AllOf ToldOf (with_change K c n ks) → AllOf ToldOf (elim b [ true ↦ changed c k ∷ ks | false ↦ k ∷ with_change K c n ks ])
      go true i = (changed_once c k h.0, h.1)
      go false i = (h.0, i)

  pub entry_once : (ks : List (Known Name)) (n : Name) (k : Known Name) → AllOf ToldOf ks → entry_of K ks n ≡ Some k → ToldOf k
  unfolding entry_of
  entry_once [] n k h e = cc
  entry_once (j ∷ ks) n k h e = go (K.same j.name n) e (λ f. entry_once ks n k h.1 f)
    where
      same : Some j ≡ Some k → j ≡ k
      same f = cc

      go : (b : Bool) → ◌≡◌ {A = Option (Known Name)} (elim b [ true ↦ Some j | false ↦ entry_of K ks n ]) (Some k) → (entry_of K ks n ≡ Some k → ToldOf k) → ToldOf k
      go true f rest = subst ToldOf (same f) h.0
      go false f rest = rest f

  -- ---- v is told of nothing that it settled

  pub record Still (s t : Vat Name) : Type 0 where
    pub stays : SettledStays K s t
    pub distinct : Distinct s → Distinct t
    pub told : news_to v t.outbox ≡ news_to v s.outbox

  as_it_was : (s t : Vat Name) → t.known ≡ s.known → t.outbox ≡ s.outbox → Still s t
  as_it_was s t e f = record { stays = λ n k y i j. ap (λ ks. entry_of K ks n) e ∙ i; distinct = λ h. rw e h; told = ap (news_to v) f }

  pub still : IsKept Still
  still = record {
    same = λ s. as_it_was s s refl refl;
    trans = λ h k. record { stays = λ n j y e i. k.stays n j y (h.stays n j y e i) i; distinct = λ d. k.distinct (h.distinct d); told = k.told ∙ h.told };
    fuel = λ s n. as_it_was s _ refl refl;
    happened = λ s e. as_it_was s _ refl refl;
    activations = λ s. as_it_was s _ refl refl;
    thing = λ s t. as_it_was s _ refl refl;
    killed = λ s n. as_it_was s _ refl refl;
    slot = λ s c. as_it_was s _ refl refl;
    written = λ s n y. as_it_was s _ refl refl;
    list = λ s vs. as_it_was s _ refl refl;
  }

  pub change_still : (s : Vat Name) (c : Change Name) (n : Name) → Still s (record s { known = with_change K c n s.known })
  change_still s c n = record { stays = (settled_names K).altered s c n; distinct = λ h. changed_all c n s.known h; told = refl }

  -- a name comes to be known
  more_still : (s t : Vat Name) (n : Name) (h : ℕ) → t.known ≡ s.known ++ begun n h ∷ [] → t.outbox ≡ s.outbox → Still s t
  unfolding begun
  more_still s t n h e f = record {
    stays = λ m k y i j. ap (λ ks. entry_of K ks m) e ∙ entry_append K m s.known (begun n h ∷ []) k i;
    distinct = λ d. rw e (all_end ToldOf s.known (begun n h) d tt);
    told = ap (news_to v) f;
  }

  pub still_alter : (c : Change Name) (n : Name) → Keeps Still (alter K c n)
  unfolding alter
  still_alter c n = record { after = λ s. change_still s c n }

  pub still_enqueue : (m : Message Name) → Keeps Still (enqueue m)
  unfolding enqueue
  still_enqueue m = record { after = λ s. as_it_was s _ refl refl }

  pub still_gift : (n : Name) (p j : ℕ) → Keeps Still (new_gift n p j)
  unfolding new_gift
  still_gift n p j = record { after = λ s. as_it_was s _ refl refl }

  pub still_open : (p j : ℕ) → Keeps {N = Name} Still (open_gift p j)
  unfolding open_gift
  still_open p j = record { after = λ s. as_it_was s _ refl refl }

  pub still_mark : (w : ℕ) → Keeps {N = Name} Still (mark w)
  unfolding mark
  still_mark w = record { after = λ s. as_it_was s _ refl refl }

  pub still_come : (c : Coming Name Name) (h : ℕ) → Keeps Still (come K c h)
  unfolding come
  still_come c h = record { after = λ s. more_still s _ _ h refl refl }

  pub still_mail : (c : Mailing Name) → Keeps Still (mail K c)
  unfolding mail
  still_mail c = record { after = λ s. as_it_was s _ refl refl }

  pub still_message : (h : ℕ) → Keeps Still (new_message K h)
  unfolding new_message
  still_message h = record { after = λ s. more_still s _ _ h refl refl }

  pub still_lone : Keeps Still (new_lone_message K)
  unfolding new_lone_message
  still_lone = record { after = λ s. as_it_was s _ refl refl }

  drawn_still : (s : Vat Name) (w : ℕ) (o : Option ℕ) → After Still s (draws w o s)
  unfolding draws
  drawn_still s w (Some i) = as_it_was s s refl refl
  drawn_still s w None = as_it_was s _ refl refl

  pub still_draw : Keeps Still (draw K)
  unfolding draw
  still_draw = record { after = λ s. drawn_still s _ _ }

  -- ---- notes

  to_none : (w : ℕ) (n : Note Name) → with_news n [] ≡ [] → news_to v (record { to = w; note = n } ∷ []) ≡ []
  unfolding news_in
  to_none w n h = go (w == v) refl
    where
      go : (b : Bool) → (w == v) ≡ b → news_to v (record { to = w; note = n } ∷ []) ≡ []
      go true e = ap news_in (one_to v w n (eqb-true w v e)) ∙ h
      go false e = ap news_in (none_to v w n (λ i. true_false (sym (eq-eqb w v i) ∙ e)))

  pub still_out : (w : ℕ) (n : Note Name) → with_news n [] ≡ [] → Keeps Still (send_out w n)
  unfolding send_out
  still_out w n h = record { after = λ s. let p : Put Name = record { to = w; note = n } in record { stays = λ m k y e i. e; distinct = λ d. d; told = news_end v s.outbox p ∙ ap (λ ns. news_to v s.outbox ++ ns) (to_none w n h) ∙ append-nil (news_to v s.outbox) } }

  pub lets_one : (h : ℕ) (n : Name) → Keeps {A = Passed Name} Still (draw K >>= (λ j. send_out h (Open j n) >> give (AGift h j)))
  unfolding with_news
  lets_one h n = keeps_bind Still still still_draw (λ j. keeps_then Still still (still_out h (Open j n) refl) (keeps_give Still still (AGift h j)))

  pub passing : (h : ℕ) (x : Value Name) → Keeps Still (refs.pass K h x)
  passing h x = keeps_pass K Still still (λ w n. still_alter (ToTell w) n) lets_one h x

  -- ---- v is told of p at most, where it is among these vats

  pub record Adds (p : Name) (ws : List ℕ) (s t : Vat Name) : Type 0 where
    pub stays : SettledStays K s t
    pub distinct : Distinct s → Distinct t
    pub names : List Name
    pub told : news_to v t.outbox ≡ news_to v s.outbox ++ names
    pub which : Once {A = ℕ} ws → (names ≡ []) ⊎ ((names ≡ p ∷ []) × IsAmong v ws)

  still_adds : (p : Name) (ws : List ℕ) (s t : Vat Name) → Still s t → Adds p ws s t
  still_adds p ws s t h = record { stays = h.stays; distinct = h.distinct; names = []; told = h.told ∙ sym (append-nil (news_to v s.outbox)); which = λ o. inl refl }

  behind : (p : Name) (ws : List ℕ) (s t u : Vat Name) → Still s t → Adds p ws t u → Adds p ws s u
  behind p ws s t u h k = record {
    stays = λ n j y e i. k.stays n j y (h.stays n j y e i) i;
    distinct = λ d. k.distinct (h.distinct d);
    names = k.names;
    told = k.told ∙ ap (λ ns. ns ++ k.names) h.told;
    which = k.which;
  }

  still_then : {A B : Type 0} (p : Name) (ws : List ℕ) (s : Vat Name) (d : Done Name A) (f : A → Act Name B) → After Still s d → ((a : A) (t : Vat Name) → After (Adds p ws) t (f a t)) → After (Adds p ws) s (and_then d f)
  unfolding and_then
  still_then p ws s (Gives a t) f h k = from_after (Adds p ws) (Adds p ws) s t (f a t) (λ u g. behind p ws s t u h g) (k a t)
  still_then p ws s (Throws x t) f h k = still_adds p ws s t h
  still_then p ws s (Ejects i y t) f h k = still_adds p ws s t h
  still_then p ws s (Stops c t) f h k = still_adds p ws s t h

  out_adds : (p : Name) (w : ℕ) (n : Note Name) → with_news n [] ≡ p ∷ [] → (s : Vat Name) → After (Adds p (w ∷ [])) s (send_out w n s)
  unfolding send_out news_in
  out_adds p w n h s = go (w == v) refl
    where
      put : Put Name
      put = record { to = w; note = n }

      go : (b : Bool) → (w == v) ≡ b → Adds p (w ∷ []) s (record s { outbox = s.outbox ++ put ∷ [] })
      go true e = record {
        stays = λ m k y f i. f;
        distinct = λ d. d;
        names = p ∷ [];
        told = news_end v s.outbox put ∙ ap (λ ns. news_to v s.outbox ++ ns) (ap news_in (one_to v w n (eqb-true w v e)) ∙ h);
        which = λ o. inr (refl, inl (sym (eqb-true w v e)));
      }
      go false e = record {
        stays = λ m k y f i. f;
        distinct = λ d. d;
        names = [];
        told = news_end v s.outbox put ∙ ap (λ ns. news_to v s.outbox ++ ns) (ap news_in (none_to v w n (λ i. true_false (sym (eq-eqb w v i) ∙ e))));
        which = λ o. inl refl;
      }

  settled_adds : (p : Name) (w : ℕ) (y : Value Name) (s : Vat Name) → After (Adds p (w ∷ [])) s ((refs.pass K w y >>= (λ z. send_out w (SettledTo p z))) s)
  unfolding ◌>>=◌ with_news
  settled_adds p w y s = still_then p (w ∷ []) s (refs.pass K w y s) (λ z. send_out w (SettledTo p z)) ((passing w y).after s) (λ z t. out_adds p w (SettledTo p z) refl t)

  inform_adds : (p : Name) (w : ℕ) (y : Value Name) (q : Place Name) (s : Vat Name) → After (Adds p (w ∷ [])) s (refs.inform_of K p w y q s)
  unfolding refs.inform_of with_news
  inform_adds p w y (Away h n true) s = out_adds p w (Elsewhere p h) refl s
  inform_adds p w y other s = settled_adds p w y s

  gone_or : (p : Name) (w : ℕ) (b : Bool) (m : Act Name (Unit {0})) (s : Vat Name) → After (Adds p (w ∷ [])) s (m s) → After (Adds p (w ∷ [])) s ((if b then give tt else m) s)
  unfolding give
  gone_or p w true m s h = still_adds p (w ∷ []) s s (as_it_was s s refl refl)
  gone_or p w false m s h = h

  -- a vat is told what p settled to
  pub informs : (p : Name) (w : ℕ) (s : Vat Name) → After (Adds p (w ∷ [])) s (refs.inform K p w s)
  unfolding refs.inform ◌>>=◌ and_then look
  informs p w s = gone_or p w (is_in w s.noticed) _ s (inform_adds p w _ _ s)

  added : (p : Name) (w : ℕ) (ws : List ℕ) (xs ys : List Name) → (IsAmong w ws → ⊥) → (xs ≡ []) ⊎ ((xs ≡ p ∷ []) × IsAmong v (w ∷ [])) → (ys ≡ []) ⊎ ((ys ≡ p ∷ []) × IsAmong v ws) → ((xs ++ ys) ≡ []) ⊎ (((xs ++ ys) ≡ p ∷ []) × IsAmong v (w ∷ ws))
  added p w ws xs ys f (inl e) (inl i) = inl (ap (λ zs. zs ++ ys) e ∙ i)
  added p w ws xs ys f (inl e) (inr i) = inr (ap (λ zs. zs ++ ys) e ∙ i.0, inr i.1)
  added p w ws xs ys f (inr e) (inl i) = inr (ap (λ zs. zs ++ ys) e.0 ∙ ap (λ zs. p ∷ zs) i, here e.1)
    where
      here : IsAmong v (w ∷ []) → IsAmong v (w ∷ ws)
      here (inl a) = inl a
      here (inr a) = absurd a
  added p w ws xs ys f (inr e) (inr i) = absurd (both e.1)
    where
      both : IsAmong v (w ∷ []) → ⊥
      both (inl a) = f (rw a at i.1)
      both (inr a) = a

  both_add : (p : Name) (w : ℕ) (ws : List ℕ) (s t u : Vat Name) → Adds p (w ∷ []) s t → Adds p ws t u → Adds p (w ∷ ws) s u
  both_add p w ws s t u h k = record {
    stays = λ n j y e i. k.stays n j y (h.stays n j y e i) i;
    distinct = λ d. k.distinct (h.distinct d);
    names = h.names ++ k.names;
    told = k.told ∙ ap (λ ns. ns ++ k.names) h.told ∙ append_assoc (news_to v s.outbox) h.names k.names;
    which = λ o. added p w ws h.names k.names o.0 (h.which ((λ a. a), tt)) (k.which o.1);
  }

  -- more vats may be told than were
  first_adds : (p : Name) (w : ℕ) (ws : List ℕ) (s t : Vat Name) → Adds p (w ∷ []) s t → Adds p (w ∷ ws) s t
  first_adds p w ws s t h = record { stays = h.stays; distinct = h.distinct; names = h.names; told = h.told; which = λ o. go (h.which ((λ a. a), tt)) }
    where
      go : (h.names ≡ []) ⊎ ((h.names ≡ p ∷ []) × IsAmong v (w ∷ [])) → (h.names ≡ []) ⊎ ((h.names ≡ p ∷ []) × IsAmong v (w ∷ ws))
      go (inl e) = inl e
      go (inr (e, inl a)) = inr (e, inl a)
      go (inr (e, inr a)) = absurd a

  adds_then : (p : Name) (w : ℕ) (ws : List ℕ) (s : Vat Name) (d : Done Name (Unit {0})) (n : Act Name (Unit {0})) → After (Adds p (w ∷ [])) s d → ((t : Vat Name) → After (Adds p ws) t (n t)) → After (Adds p (w ∷ ws)) s (and_then d (λ _. n))
  unfolding and_then
  adds_then p w ws s (Gives a t) n h k = from_after (Adds p ws) (Adds p (w ∷ ws)) s t (n t) (λ u g. both_add p w ws s t u h g) (k t)
  adds_then p w ws s (Throws x t) n h k = first_adds p w ws s t h
  adds_then p w ws s (Ejects i y t) n h k = first_adds p w ws s t h
  adds_then p w ws s (Stops c t) n h k = first_adds p w ws s t h

  -- so are these vats, one after another
  pub all_informs : (p : Name) (ws : List ℕ) (s : Vat Name) → After (Adds p ws) s (each (refs.inform K p) ws s)
  unfolding each give ◌>>◌
  all_informs p [] s = still_adds p [] s s (as_it_was s s refl refl)
  all_informs p (w ∷ ws) s = adds_then p w ws s (refs.inform K p w s) (each (refs.inform K p) ws) (informs p w s) (λ t. all_informs p ws t)
