-- A reaction was never sent on a reference: each message is sent once, or asked to react once.
use Rattle.std.proofs.Common.{◌≡◌, ℕ, zero, ◌+◌, ◌≤◌, Bool, true, false, List, [], ◌∷◌, ◌⊎◌, inl, inr, refl, sym, ap, subst, arith}
use Rattle.std.specs.Prelude.{slice_get, Some, ◌||◌}
use Rattle.def_machine.specs.Values.{Value, Name, same_name}
use Rattle.def_machine.specs.State.{Message, Known, Sends, Reacts, Vat}
use Rattle.def_run.specs.World.{Script, Event, Here, Entry, World, Goes, begins, open_from, steps_from}
use Rattle.law_fate.specs.Name.Names.{AllOf, IsAmong}
use Rattle.law_fate.proofs.Name.Among.{all_among}
use Rattle.law_fate.specs.Fates.Fate.{once, one, total, sent_here, sent_by, sent, places, fates}
use Rattle.law_fate.proofs.Fates.RunFates.{places_and_fates}
use Rattle.law_uses.specs.Connectivity.MessageLaws.{AllStem}
use Rattle.law_uses.specs.Connectivity.Stems.{Stems, IsReaction}
use Rattle.law_uses.proofs.Connectivity.RunStems.{messages_stem}
use Rattle.law_order.proofs.Ordering.Named.{same_self}
use Rattle.law_order.specs.History.Lines.{sends_it, was_sent}
use Rattle.law_order.proofs.Runs.Beginnings.{reached_is}
use Rattle.law_order.specs.Notices.Notices.{IsReacting}

-- ---- lines

one_here : (m : Name) → one m m ≡ 1
unfolding one once
one_here m = ap (λ b. once b) (same_self m)

one_true : (b : Bool) → b ≡ true → once b ≡ 1
unfolding once
one_true true e = refl
one_true false e = cc

-- a line that sends it counts
send_counts : (m : Name) (e : Event) → sends_it m e ≡ true → 1 ≤ sent_by m e
unfolding sends_it sent_by sent_here one
send_counts m (Here v (Sends act x)) e = let is = one_true (same_name x.id m) e in omega arith
send_counts m other e = cc

either_true : (b c : Bool) → (b || c) ≡ true → (b ≡ true) ⊎ (c ≡ true)
either_true true c e = inl refl
either_true false c e = inr e

sent_counts : (m : Name) (es : List Event) → was_sent m es ≡ true → 1 ≤ sent m es
unfolding was_sent sent total
sent_counts m [] e = cc
sent_counts m (f ∷ es) e = go (either_true (sends_it m f) (was_sent m es) e) (λ i. sent_counts m es i)
  where
    go : (sends_it m f ≡ true) ⊎ (was_sent m es ≡ true) → (was_sent m es ≡ true → 1 ≤ total (sent_by m) es) → 1 ≤ sent_by m f + total (sent_by m) es
    go (inl i) r = let here = send_counts m f i in omega arith
    go (inr i) r = let rest = r i in omega arith

react_counts : (v a : ℕ) (y o : Value Name) (m : Message Name) (es : List Event) → IsAmong (Here v (Reacts a y o m)) es → 1 ≤ sent m.id es
unfolding sent total sent_by sent_here
react_counts v a y o m [] h = absurd h
react_counts v a y o m (f ∷ es) (inl e) = let same = one_here m.id in subst (λ g. 1 ≤ sent_by m.id g + total (sent_by m.id) es) e (omega arith)
react_counts v a y o m (f ∷ es) (inr h) = let rest = react_counts v a y o m es h in omega arith

-- who was asked to react and was sent counts twice
both_count : (v a : ℕ) (y o : Value Name) (m : Message Name) (es : List Event) → IsAmong (Here v (Reacts a y o m)) es → was_sent m.id es ≡ true → 2 ≤ sent m.id es
unfolding was_sent sends_it sent total sent_by sent_here
both_count v a y o m [] h e = absurd h
both_count v a y o m (f ∷ es) (inl i) e = let same = one_here m.id in
    let rest : 1 ≤ sent m.id es = sent_counts m.id es (subst (λ g. (sends_it m.id g || was_sent m.id es) ≡ true) (sym i) e) in subst (λ g. 2 ≤ sent_by m.id g + total (sent_by m.id) es) i (omega arith)
both_count v a y o m (f ∷ es) (inr h) e = go (either_true (sends_it m.id f) (was_sent m.id es) e) (λ i. both_count v a y o m es h i)
  where
    go : (sends_it m.id f ≡ true) ⊎ (was_sent m.id es ≡ true) → (was_sent m.id es ≡ true → 2 ≤ total (sent_by m.id) es) → 2 ≤ sent_by m.id f + total (sent_by m.id) es
    go (inl i) r = let here = send_counts m.id f i in let rest : 1 ≤ total (sent_by m.id) es = react_counts v a y o m es h in omega arith
    go (inr i) r = let rest = r i in omega arith

false_or : (b : Bool) → (b ≡ true → ⊥) → b ≡ false
false_or true f = absurd (f refl)
false_or false f = refl

-- ---- in a run

abbrev Fated : Name → World → Type 0
Fated m w = (places m w + fates m w.history ≤ sent m w.history) × (sent m w.history ≤ 1)

module _ (script : Script) (w x : World) (es : List Entry) (k : ℕ) (opened : open_from script zero script.vats (begins script) ≡ Goes w) (steps : steps_from script es k w ≡ Goes x) (v : ℕ) (s : Vat Name) (there : slice_get x.vats v ≡ Some s) where
  few : (m : Name) → sent m x.history ≤ 1
  few m = (reached_is (Fated m) _ x steps ((places_and_fates m script).1 w es k opened)).1

  two_few : (n : ℕ) → 2 ≤ n → n ≤ 1 → ⊥
  two_few n g h = omega arith

  -- what reacts on a name was never sent
  pub unsent : (m : Message Name) → IsReacting s m → was_sent m.id x.history ≡ false
  unsent m h = let stems = reached_is AllStem _ x steps ((messages_stem script).1 w es k opened) in
      let known = all_among (λ (j : Known Name). AllOf (Stems x v) j.held × AllOf (IsReaction x v) j.reactions) s.known h.0 (stems.names v s there) h.1 in
      let reacts = all_among (IsReaction x v) h.0.reactions m known.1 h.2 in
      false_or (was_sent m.id x.history) (λ e. two_few (sent m.id x.history) (both_count v reacts.0 reacts.1 reacts.2 m x.history reacts.6 e) (few m.id))
