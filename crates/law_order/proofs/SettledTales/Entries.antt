-- As a vat learns what a note brings, what waits or reacts on a name is as it was: a relation that each of its acts keeps.
use Rattle.std.proofs.Common.{◌≡◌, ℕ, Bool, true, false, [], ◌∷◌, ◌++◌, Option, Some, None, length, refl, sym, ap, subst, ◌∙◌}
use Rattle.def_machine.specs.Values.{Words, Broken, Name, Naming}
use Rattle.def_machine.specs.State.{Standing, Settled, Settle, ToTell, Known, Change, Ask, ListCame, Vat, begun, changed, changed_to, unless_settled, with_change}
use Rattle.def_machine.specs.Refs.{entry_of}
use Rattle.def_run.specs.World.{Script, names}
use Rattle.law_order.proofs.Ordering.Coming.{new_entry, old_entry}
use Rattle.law_order.proofs.Ordering.Entries.{Differs, as_it_was, changes, differs}
use Rattle.law_order.proofs.Carries.Breaking.{Broke}
use Rattle.law_order.proofs.MessageTales.Calm.{Calm, calm}
use Rattle.law_order.proofs.MessageTales.Learnt.{IsCalm}

some_is : (j k : Known Name) → Some j ≡ Some k → j ≡ k
some_is j k e = cc

none_some : (k : Known Name) → ◌≡◌ {A = Option (Known Name)} None (Some k) → ⊥
none_some k e = cc

module _ (script : Script) (v : ℕ) where
  abbrev K : Naming Name Name
  K = names script v

  -- on the name the same waits and reacts as in s, or nothing
  pub data IsAsIn (s : Vat Name) (n : Name) (k : Known Name) : Type 0 where
    as_was : (j : Known Name) → entry_of K s.known n ≡ Some j → k.waiting ≡ j.waiting → k.reactions ≡ j.reactions → IsAsIn s n k
    bare : k.waiting ≡ [] → k.reactions ≡ [] → IsAsIn s n k

  abbrev pub EntriesStay : Vat Name → Vat Name → Type 0
  EntriesStay s t = (n : Name) (k : Known Name) → entry_of K t.known n ≡ Some k → IsAsIn s n k

  pub record Learns (s t : Vat Name) : Type 0 where
    pub calm : Calm script v s t
    pub entries : EntriesStay s t

  same_entries : (s t : Vat Name) → t.known ≡ s.known → EntriesStay s t
  same_entries s t e n k f = as_was k (ap (λ ks. entry_of K ks n) (sym e) ∙ f) refl refl

  then_as : (s t u : Vat Name) → EntriesStay s t → EntriesStay t u → EntriesStay s u
  then_as s t u g h n k e = go (h n k e)
    where
      on : (j : Known Name) → k.waiting ≡ j.waiting → k.reactions ≡ j.reactions → IsAsIn s n j → IsAsIn s n k
      on j a b (as_was i f c d) = as_was i f (a ∙ c) (b ∙ d)
      on j a b (bare c d) = bare (a ∙ c) (b ∙ d)

      go : IsAsIn t n k → IsAsIn s n k
      go (as_was j f a b) = on j a b (g n j f)
      go (bare a b) = bare a b

  come_entries : (s : Vat Name) (m : Name) (h : ℕ) → EntriesStay s (record s { known = s.known ++ begun m h ∷ [] })
  unfolding entry_of begun
  come_entries s m h n k e = go (entry_of K s.known n) refl
    where
      alone : (b : Bool) → elim b [ true ↦ Some (begun m h) | false ↦ None ] ≡ Some k → IsAsIn s n k
      alone true f = bare (ap (λ (j : Known Name). j.waiting) (sym (some_is (begun m h) k f))) (ap (λ (j : Known Name). j.reactions) (sym (some_is (begun m h) k f)))
      alone false f = absurd (none_some k f)

      fresh : entry_of K (begun m h ∷ []) n ≡ Some k → IsAsIn s n k
      fresh f = alone (K.same m n) f

      go : (o : Option (Known Name)) → entry_of K s.known n ≡ o → IsAsIn s n k
      go (Some j) f = let same : j ≡ k = some_is j k (sym (old_entry K s.known (begun m h) j n f) ∙ e) in as_was k (f ∙ ap Some same) refl refl
      go None f = fresh (sym (new_entry K s.known (begun m h) n f) ∙ e)

  by_changed : (s : Vat Name) (n : Name) (c : Change Name) (j k : Known Name) → entry_of K s.known n ≡ Some j → IsAsIn s n (changed_to c j) → changed c j ≡ k → IsAsIn s n k
  unfolding changed unless_settled
  by_changed s n c j k found then e = go j.standing e
    where
      go : (t : Standing Name) → unless_settled t j (changed_to c j) ≡ k → IsAsIn s n k
      go (Settled y) f = subst (λ z. IsAsIn s n z) f (as_was j found refl refl)
      go other f = subst (λ z. IsAsIn s n z) f then

  changed_entries : (s t : Vat Name) (c : Change Name) (m : Name) → t.known ≡ with_change K c m s.known → ((n : Name) (j : Known Name) → entry_of K s.known n ≡ Some j → IsAsIn s n (changed_to c j)) → EntriesStay s t
  changed_entries s t c m e leaves n k f = go (differs script v c m n s.known)
    where
      there : entry_of K (with_change K c m s.known) n ≡ Some k
      there = ap (λ ks. entry_of K ks n) (sym e) ∙ f

      go : Differs script v c m n (entry_of K s.known n) (entry_of K (with_change K c m s.known) n) → IsAsIn s n k
      go (as_it_was i) = as_was k (sym i ∙ there) refl refl
      go (changes j i a b) = by_changed s n c j k a (leaves n j a) (some_is (changed c j) k (sym b ∙ there))

  tells : (s : Vat Name) (w : ℕ) (n : Name) → EntriesStay s (record s { known = with_change K (ToTell w) n s.known })
  unfolding changed_to
  tells s w n = changed_entries s (record s { known = with_change K (ToTell w) n s.known }) (ToTell w) n refl (λ m j e. as_was j e refl refl)

  breaks : (s : Vat Name) (p : Name) (problem : Words) → EntriesStay s (Broke K s p problem)
  unfolding changed_to
  breaks s p problem = changed_entries s (Broke K s p problem) (Settle (Broken problem)) p refl (λ m j e. bare refl refl)

  -- all that a vat learns keeps it
  pub learning : IsCalm K Learns
  learning = let c = calm script v in record {
    same = λ s. record { calm = c.same s; entries = same_entries s s refl };
    trans = λ {s} {t} {u} g h. record { calm = c.trans g.calm h.calm; entries = then_as s t u g.entries h.entries };
    mails = λ s m. record { calm = c.mails s m; entries = same_entries s (record s { mails = s.mails ++ m ∷ [] }) refl };
    comes = λ s n h true_host. record { calm = c.comes s n h true_host; entries = come_entries s n h };
    lists = λ s vs. record { calm = c.lists s vs; entries = same_entries s (record s { lists = s.lists ++ vs ∷ []; happened = s.happened ++ ListCame (length s.lists) vs ∷ [] }) refl };
    tells = λ s w n. record { calm = c.tells s w n; entries = tells s w n };
    asks = λ s h p i n. record { calm = c.asks s h p i n; entries = same_entries s (record s { outbox = s.outbox ++ record { to = h; note = Ask p i n } ∷ [] }) refl };
    breaks = λ s p problem host k fresh. record { calm = c.breaks s p problem host k fresh; entries = breaks s p problem };
    knows = λ g n i. c.knows g.calm n i;
    more = λ g. c.more g.calm;
  }
