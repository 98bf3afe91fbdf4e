-- What an act adds to what names hold and to what reacts on them, and the lines that it tells.
use Rattle.std.proofs.Common.{◌≡◌, ℕ, Bool, true, false, List, [], ◌∷◌, ◌++◌, Option, Some, None, refl, sym, ap, subst, ◌∙◌, ◌⊎◌, inl, inr, append_assoc}
use Rattle.std.proofs.lemmas.List.{append-nil}
use Rattle.def_machine.specs.Values.{Value, Name, Naming}
use Rattle.def_machine.specs.State.{Message, Known, Standing, Settled, Change, Hold, React, Passeds, Delivery, Deliver, Happened, Posted, Vat, Done, Gives, ◌>>=◌, ◌>>◌, and_then, tell, send_out, begun, with_change, changed, changed_to, unless_settled}
use Rattle.def_machine.specs.Refs as refs
use Rattle.def_machine.specs.Refs.{entry_of}
use Rattle.def_run.specs.World.{Script, names}
use Rattle.law_machine.specs.Machine.Steps.{After}
use Rattle.law_fate.specs.Name.Names.{AllOf, IsAmong}
use Rattle.law_fate.proofs.Name.Among.{among_or}
use Rattle.law_fate.proofs.Name.Facts.{all_append}
use Rattle.law_fate.proofs.Fates.Leads.{Leads, Ends, leads_bind, leads_give}
use Rattle.law_order.specs.Ordering.Worlds.{IfGives}
use Rattle.law_order.proofs.Ordering.Entries.{Differs, as_it_was, changes, differs}
use Rattle.law_order.proofs.Settling.Frames.{Less, Same, same_pass_all}
use Rattle.law_order.specs.Tales.Middle.{IsQuietLine, MovesNone}
use Rattle.law_order.proofs.Tales.Stilling.{Any, base, still_pass}

some_is : (a b : Known Name) → Some a ≡ Some b → a ≡ b
some_is a b e = cc

no_entry : (k : Known Name) → ◌≡◌ {A = Option (Known Name)} None (Some k) → ⊥
no_entry k e = cc

no_messages : (ms : List (Message Name)) → ms ≡ [] → (m : Message Name) → IsAmong m ms → ⊥
no_messages ms e m i = subst (λ (zs : List (Message Name)). IsAmong m zs) e i

module _ (script : Script) (v : ℕ) where
  abbrev K : Naming Name Name
  K = names script v

  abbrev pub HeldIn : Vat Name → Name → Message Name → Type 0
  HeldIn s n m = (j : Known Name) × (entry_of K s.known n ≡ Some j) × IsAmong m j.held

  abbrev pub ReactsIn : Vat Name → Name → Message Name → Type 0
  ReactsIn s n m = (j : Known Name) × (entry_of K s.known n ≡ Some j) × IsAmong m j.reactions

  -- What a name holds in t it held in s, or H is so of it; and so it is of what reacts, and R.
  pub record Puts (H R : Message Name → Type 0) (s t : Vat Name) : Type 0 where
    pub held : (n : Name) (k : Known Name) → entry_of K t.known n ≡ Some k → (m : Message Name) → IsAmong m k.held → HeldIn s n m ⊎ H m
    pub reacts : (n : Name) (k : Known Name) → entry_of K t.known n ≡ Some k → (m : Message Name) → IsAmong m k.reactions → ReactsIn s n m ⊎ R m

  module _ (H R : Message Name → Type 0) where
    pub puts_same : (s t : Vat Name) → t.known ≡ s.known → Puts H R s t
    puts_same s t e = record {
      held = λ n k f m i. inl (k, sym (ap (λ ks. entry_of K ks n) e) ∙ f, i);
      reacts = λ n k f m i. inl (k, sym (ap (λ ks. entry_of K ks n) e) ∙ f, i);
    }

    pub puts_less : (s t : Vat Name) → Less script v s t → Puts H R s t
    puts_less s t h = record { held = λ n k e m i. inl (h.held n k e m i); reacts = λ n k e m i. inl (h.reacts n k e m i) }

    pub puts_then : (s t u : Vat Name) → Puts H R s t → Puts H R t u → Puts H R s u
    puts_then s t u g h = record { held = λ n k e m i. held_by n m (h.held n k e m i); reacts = λ n k e m i. reacts_by n m (h.reacts n k e m i) }
      where
        held_by : (n : Name) (m : Message Name) → HeldIn t n m ⊎ H m → HeldIn s n m ⊎ H m
        held_by n m (inl j) = g.held n j.0 j.1 m j.2
        held_by n m (inr i) = inr i

        reacts_by : (n : Name) (m : Message Name) → ReactsIn t n m ⊎ R m → ReactsIn s n m ⊎ R m
        reacts_by n m (inl j) = g.reacts n j.0 j.1 m j.2
        reacts_by n m (inr i) = inr i

    -- a name that comes to be known holds nothing
    was_or_begun : (a : Name) (h : ℕ) (ks : List (Known Name)) (n : Name) (k : Known Name) → entry_of K (ks ++ begun a h ∷ []) n ≡ Some k → (entry_of K ks n ≡ Some k) ⊎ (k ≡ begun a h)
    unfolding entry_of
    was_or_begun a h [] n k e = go (K.same (begun a h).name n) e
      where
        go : (b : Bool) → ◌≡◌ {A = Option (Known Name)} (elim b [ true ↦ Some (begun a h) | false ↦ None ]) (Some k) → (◌≡◌ {A = Option (Known Name)} None (Some k)) ⊎ (k ≡ begun a h)
        go true f = inr (sym (some_is (begun a h) k f))
        go false f = absurd (no_entry k f)
    was_or_begun a h (j ∷ ks) n k e = go (K.same j.name n) e (was_or_begun a h ks n k)
      where
        go : (b : Bool) → ◌≡◌ {A = Option (Known Name)} (elim b [ true ↦ Some j | false ↦ entry_of K (ks ++ begun a h ∷ []) n ]) (Some k) → (entry_of K (ks ++ begun a h ∷ []) n ≡ Some k → (entry_of K ks n ≡ Some k) ⊎ (k ≡ begun a h))
            → (◌≡◌ {A = Option (Known Name)} (elim b [ true ↦ Some j | false ↦ entry_of K ks n ]) (Some k)) ⊎ (k ≡ begun a h)
        go true f g = inl f
        go false f g = g f

    pub puts_begun : (a : Name) (h : ℕ) (s t : Vat Name) → t.known ≡ s.known ++ begun a h ∷ [] → Puts H R s t
    unfolding begun
    puts_begun a h s t e = record { held = λ n k f m i. held_by n k m i (was_or_begun a h s.known n k (sym (ap (λ ks. entry_of K ks n) e) ∙ f)); reacts = λ n k f m i. reacts_by n k m i (was_or_begun a h s.known n k (sym (ap (λ ks. entry_of K ks n) e) ∙ f)) }
      where
        held_by : (n : Name) (k : Known Name) (m : Message Name) → IsAmong m k.held → (entry_of K s.known n ≡ Some k) ⊎ (k ≡ begun a h) → HeldIn s n m ⊎ H m
        held_by n k m i (inl f) = inl (k, f, i)
        held_by n k m i (inr f) = absurd (no_messages k.held (ap (λ (z : Known Name). z.held) f) m i)

        reacts_by : (n : Name) (k : Known Name) (m : Message Name) → IsAmong m k.reactions → (entry_of K s.known n ≡ Some k) ⊎ (k ≡ begun a h) → ReactsIn s n m ⊎ R m
        reacts_by n k m i (inl f) = inl (k, f, i)
        reacts_by n k m i (inr f) = absurd (no_messages k.reactions (ap (λ (z : Known Name). z.reactions) f) m i)

    -- a change of what is known of one name
    abbrev Adds : Known Name → Known Name → Type 0
    Adds k j = ((m : Message Name) → IsAmong m j.held → IsAmong m k.held ⊎ H m) × ((m : Message Name) → IsAmong m j.reactions → IsAmong m k.reactions ⊎ R m)

    puts_changed : (c : Change Name) (p : Name) (s t : Vat Name) → t.known ≡ with_change K c p s.known → ((k : Known Name) → Adds k (changed c k)) → Puts H R s t
    puts_changed c p s t e f = record {
      held = λ n k g m i. held_by n (differs script v c p n s.known) k (sym (ap (λ ks. entry_of K ks n) e) ∙ g) m i;
      reacts = λ n k g m i. reacts_by n (differs script v c p n s.known) k (sym (ap (λ ks. entry_of K ks n) e) ∙ g) m i;
    }
      where
        held_in : (n : Name) (j : Known Name) (m : Message Name) → entry_of K s.known n ≡ Some j → IsAmong m j.held ⊎ H m → HeldIn s n m ⊎ H m
        held_in n j m a (inl i) = inl (j, a, i)
        held_in n j m a (inr i) = inr i

        reacts_in : (n : Name) (j : Known Name) (m : Message Name) → entry_of K s.known n ≡ Some j → IsAmong m j.reactions ⊎ R m → ReactsIn s n m ⊎ R m
        reacts_in n j m a (inl i) = inl (j, a, i)
        reacts_in n j m a (inr i) = inr i

        held_by : (n : Name) → Differs script v c p n (entry_of K s.known n) (entry_of K (with_change K c p s.known) n) → (k : Known Name) → entry_of K (with_change K c p s.known) n ≡ Some k → (m : Message Name) → IsAmong m k.held → HeldIn s n m ⊎ H m
        held_by n (as_it_was g) k h m i = inl (k, sym g ∙ h, i)
        held_by n (changes j g a b) k h m i = held_in n j m a ((f j).0 m (subst (λ (z : Known Name). IsAmong m z.held) (some_is k (changed c j) (sym h ∙ b)) i))

        reacts_by : (n : Name) → Differs script v c p n (entry_of K s.known n) (entry_of K (with_change K c p s.known) n) → (k : Known Name) → entry_of K (with_change K c p s.known) n ≡ Some k → (m : Message Name) → IsAmong m k.reactions → ReactsIn s n m ⊎ R m
        reacts_by n (as_it_was g) k h m i = inl (k, sym g ∙ h, i)
        reacts_by n (changes j g a b) k h m i = reacts_in n j m a ((f j).1 m (subst (λ (z : Known Name). IsAmong m z.reactions) (some_is k (changed c j) (sym h ∙ b)) i))

    either : (q : Standing Name) (k j : Known Name) → Adds k j → Adds k (unless_settled q k j)
    unfolding unless_settled
    either (Settled y) k j b = (λ m i. inl i, λ m i. inl i)
    either other k j b = b

    last : (P : Message Name → Type 0) (f : Message Name) → P f → (ms : List (Message Name)) (m : Message Name) → IsAmong m (ms ++ f ∷ []) → IsAmong m ms ⊎ P m
    last P f p ms m i = go (among_or m ms f i)
      where
        go : IsAmong m ms ⊎ (m ≡ f) → IsAmong m ms ⊎ P m
        go (inl j) = inl j
        go (inr e) = inr (subst P (sym e) p)

    pub puts_hold : (f : Message Name) → H f → (p : Name) (s t : Vat Name) → t.known ≡ with_change K (Hold f) p s.known → Puts H R s t
    unfolding changed changed_to
    puts_hold f g p s t e = puts_changed (Hold f) p s t e (λ k. either k.standing k (record k { held = k.held ++ f ∷ [] }) (λ m i. last H f g k.held m i, λ m i. inl i))

    pub puts_react : (f : Message Name) → R f → (p : Name) (s t : Vat Name) → t.known ≡ with_change K (React f) p s.known → Puts H R s t
    unfolding changed changed_to
    puts_react f g p s t e = puts_changed (React f) p s t e (λ k. either k.standing k (record k { reactions = k.reactions ++ f ∷ [] }) (λ m i. inl i, λ m i. last R f g k.reactions m i))

    -- From s to t, where those lines were told, and then such as tell of no send and no take.
    pub record Does (first : List (Happened Name)) (s t : Vat Name) : Type 0 where
      pub puts : Puts H R s t
      pub after : List (Happened Name)
      pub happened : t.happened ≡ s.happened ++ (first ++ after)
      pub quiet : AllOf IsQuietLine after

    pub does_then : (first : List (Happened Name)) (s t u : Vat Name) → Puts H R s t → t.happened ≡ s.happened ++ first → Does [] t u → Does first s u
    does_then first s t u g e h = record { puts = puts_then s t u g h.puts; after = h.after; happened = h.happened ∙ ap (λ es. es ++ h.after) e ∙ append_assoc s.happened first h.after; quiet = h.quiet }

    pub does_nothing_more : (t u : Vat Name) → Puts H R t u → u.happened ≡ t.happened → Does [] t u
    does_nothing_more t u g e = record { puts = g; after = []; happened = e ∙ sym (append-nil t.happened); quiet = tt }

    -- ---- the arguments pass, and the note is put

    still_pass_all : (h : ℕ) (xs : List (Value Name)) → Leads Any (MovesNone K) (refs.pass_all K h xs)
    unfolding refs.pass_all
    still_pass_all h [] = leads_give Any (MovesNone K) (base K) _
    still_pass_all h (x ∷ xs) = leads_bind Any (MovesNone K) (base K) (still_pass K h x) (λ y. leads_bind Any (MovesNone K) (base K) (still_pass_all h xs) (λ ys. leads_give Any (MovesNone K) (base K) _))

    posts : (m : Name) (d : Delivery Name) (h : ℕ) (n : Name) (verb : List ℕ) (s : Vat Name) (r : Done Name (Passeds Name)) → After (Same script v) s r → Ends Any (MovesNone K) s r → IfGives (λ t. Does [] s t) (and_then r (λ ys. tell (Posted h m) >> send_out h (Deliver d n verb ys)))
    unfolding and_then tell ◌>>◌ send_out
    posts m d h n verb s (Gives ys u) g k = record {
      puts = puts_then s u _ (puts_less s u g.less) (puts_same u _ refl);
      after = k.lines ++ Posted h m ∷ [];
      happened = ap (λ es. es ++ Posted h m ∷ []) k.happened ∙ append_assoc s.happened k.lines (Posted h m ∷ []);
      quiet = all_append IsQuietLine k.lines (Posted h m ∷ []) k.quiet (tt, tt);
    }
    posts m d h n verb s other g k = tt

    pub deliver_does : (m : Message Name) (h : ℕ) (n : Name) (s : Vat Name) → IfGives (λ t. Does [] s t) (refs.deliver K m h n s)
    unfolding refs.deliver ◌>>=◌
    deliver_does m h n s = posts m.id (refs.delivery_of K m) h n m.verb s (refs.pass_all K h m.args s) ((same_pass_all script v h m.args).after s) ((still_pass_all h m.args).after s)
