-- The promises of its own that an honest vat knows are those that it made, in order, in each world of a run with hostile vats.
use Rattle.std.proofs.Common.{◌≡◌, ℕ, zero, suc, ◌+◌, ◌-◌, ◌<◌, ◌≤◌, Bool, true, false, List, [], ◌∷◌, ◌++◌, Some, refl, sym, ap, subst, ◌∙◌, ◌⊎◌, inl, inr, append_assoc, append-nil, length, map, ◌==◌, arith}
use Rattle.std.specs.Prelude.{slice_get, nat_le}
use Rattle.std.proofs.lemmas.Bool.{eqb-true, eq-eqb}
use Rattle.def_machine.specs.Values.{Name, Root, Promise, Answer, Sent, Naming, IsAnswer, naming, name_of, answer_of, host_of, same_name}
use Rattle.def_machine.specs.State.{Message, Known, Note, Deliver, Vat, Gives, begun, change, dead, holding, with_opened, with_change}
use Rattle.def_machine.specs.Arrive.{arrive}
use Rattle.def_machine.specs.Receive.{receive}
use Rattle.def_run.specs.Draws.{draw_word}
use Rattle.def_run.specs.Wire.{connected_at}
use Rattle.def_run.specs.World as world
use Rattle.def_run.specs.World.{Script, Program, Link, World, link_at, names, names_of, read_note, readied}
use Rattle.def_hostile.specs.Hostile.{Play}
use Rattle.law_machine.specs.Machine.Steps.{Step, Opens as Starts, Takes, Receives, Notices, does}
use Rattle.law_machine.specs.Run.Moves.{IsAlone, Does}
use Rattle.law_machine.proofs.Machine.Keeps.{IsKept as IsKeptThere, IsKeptUnder}
use Rattle.law_machine.proofs.Machine.StepLaws.{kept_by_steps}
use Rattle.law_adversary.specs.Moves.{sight_at, entered_at}
use Rattle.law_fate.specs.Name.Names.{AllOf, IsAmong, IsMessageName, NoteOk, KnownOk, Bit, Named, names_in}
use Rattle.law_fate.proofs.Name.Among.{names_end, promises_at}
use Rattle.law_fate.proofs.Name.Facts.{all_map, note_up}
use Rattle.law_fate.proofs.Name.Run.{fresh_at}
use Rattle.law_fate.proofs.Name.SameNames.{same_self}
use Rattle.law_fate.proofs.Name.Tracked.{names_change}
use Rattle.law_reference.specs.Reference.Knowing.{one, once, onward, onward_all, claims, numbered, numbered_at, new_answer, brought, brings, Knowing}
use Rattle.law_reference.proofs.Reference.First.{among_dec}
use Rattle.law_reference.proofs.Reference.FollowRuns.{after_gives}
use Rattle.law_reference.proofs.Reference.Fresh.{is_made, not_made, made_or}
use Rattle.law_reference.proofs.Reference.NameTableSteps.{steps_know_once}
use Rattle.law_reference.proofs.Reference.Telling.{has, has_true, NeverNew, avoids_never, tells, mails, note_tells, note_not, brings_parts, one_or}
use Rattle.law_frame.specs.Local.Told.{is_own_promise, own_promises, promises_from}
use Rattle.law_hostile.specs.Entering.{HoldsOfEntries}
use Rattle.law_hostile.proofs.Comes.{Coming, Passes, Lands, comes}
use Rattle.law_injected.specs.HostileRuns.{IsHostile, IsReached}
use Rattle.law_lawful.specs.Claims.{WasMade, IsMade}
use Rattle.law_lawful.specs.Lawful.{AnyWord}
use Rattle.law_lawful.proofs.Reached.{reached_fits}
use Rattle.law_lawful.proofs.Steps.{MadeIn}
use Rattle.law_hostile_tables.proofs.Kept.{note_made, stands_so}
use Rattle.law_hostile_tables.proofs.Lift.{IsKept, held}
use Rattle.law_hostile_tables.proofs.Standing.{message_made}

-- ---- lists in which others stand in order

abbrev Within : List Name → List Name → Type 0
Within xs [] = xs ≡ []
Within xs (y ∷ ys) = Within xs ys ⊎ ((zs : List Name) × (xs ≡ y ∷ zs) × Within zs ys)

none_within : (ys : List Name) → Within [] ys
none_within [] = refl
none_within (y ∷ ys) = inl (none_within ys)

within_on : (xs ys us vs : List Name) → Within xs ys → Within us vs → Within (xs ++ us) (ys ++ vs)
within_on xs [] us vs e k = rw e k
within_on xs (y ∷ ys) us vs (inl h) k = inl (within_on xs ys us vs h k)
within_on xs (y ∷ ys) us vs (inr h) k = inr (h.0 ++ us, ap (λ zs. zs ++ us) h.1, within_on h.0 ys us vs h.2 k)

within_among : (xs ys : List Name) (n : Name) → Within xs ys → IsAmong n xs → IsAmong n ys
within_among xs [] n e a = absurd (rw e at a)
within_among xs (y ∷ ys) n (inl h) a = inr (within_among xs ys n h a)
within_among xs (y ∷ ys) n (inr h) a = go (rw h.1 at a) (λ b. within_among h.0 ys n h.2 b)
  where
    go : IsAmong n (y ∷ h.0) → (IsAmong n h.0 → IsAmong n ys) → IsAmong n (y ∷ ys)
    go (inl e) f = inl e
    go (inr b) f = inr (f b)

-- ---- promises in a step

promises_on : (v j i k : ℕ) → promises_from v j (i + k) ≡ promises_from v j i ++ promises_from v (j + i) k
unfolding promises_from
promises_on v j zero k = let e : j + 0 ≡ j = omega arith in let f : 0 + k ≡ k = omega arith in rw (e, f) refl
promises_on v j (suc i) k = let e : j + suc i ≡ suc j + i = omega arith in let f : suc i + k ≡ suc (i + k) = omega arith in rw (e, f) (ap (λ ns. Promise v j ∷ ns) (promises_on v (suc j) i k))

-- names come to be known at the end, and among them those promises that are made, in order
record Made (v : ℕ) (s t : Vat Name) : Type 0 where
  number : t.number ≡ v
  count : ℕ
  new : List Name
  promises : t.promises ≡ s.promises + count
  names : names_in t.known ≡ names_in s.known ++ new
  order : Within (promises_from v s.promises count) new

abbrev Makes : ℕ → Vat Name → Vat Name → Type 0
Makes v s t = s.number ≡ v → Made v s t

made_on : (v : ℕ) (s t u : Vat Name) → Made v s t → Made v t u → Made v s u
made_on v s t u h k = record {
  number = k.number;
  count = h.count + k.count;
  new = h.new ++ k.new;
  promises = (let e = h.promises in let f = k.promises in omega arith);
  names = k.names ∙ ap (λ ns. ns ++ k.new) h.names ∙ append_assoc (names_in s.known) h.new k.new;
  order = rw (promises_on v s.promises h.count k.count) (within_on (promises_from v s.promises h.count) h.new (promises_from v (s.promises + h.count) k.count) k.new h.order (rw h.promises at k.order));
}

same_made : (v : ℕ) (s t : Vat Name) → t.number ≡ s.number → t.promises ≡ s.promises → names_in t.known ≡ names_in s.known → Makes v s t
unfolding promises_from
same_made v s t a b c = λ e. record { number = a ∙ e; count = 0; new = []; promises = (omega arith); names = c ∙ sym (append-nil (names_in s.known)); order = refl }

-- a name comes to be known
come_made : (v : ℕ) (s t : Vat Name) (n : Name) (h : ℕ) → t.number ≡ s.number → t.promises ≡ s.promises → t.known ≡ s.known ++ begun n h ∷ [] → Makes v s t
unfolding promises_from begun
come_made v s t n h a b c = λ e. record { number = a ∙ e; count = 0; new = n ∷ []; promises = (omega arith); names = ap names_in c ∙ names_end s.known (begun n h); order = inl refl }

-- a promise is made
promise_made : (v : ℕ) (s t : Vat Name) (h : ℕ) → t.number ≡ s.number → t.promises ≡ suc s.promises → t.known ≡ s.known ++ begun (Promise v s.promises) h ∷ [] → Makes v s t
unfolding promises_from begun
promise_made v s t h a b c = λ e. record { number = a ∙ e; count = 1; new = Promise v s.promises ∷ []; promises = (omega arith); names = ap names_in c ∙ names_end s.known (begun (Promise v s.promises) h); order = inr ([], refl, refl) }

makes : (v : ℕ) → IsKeptThere (Makes v)
makes v = record {
  same = λ s. same_made v s s refl refl refl;
  trans = λ {s} {t} {u} h k e. let a = h e in made_on v s t u a (k a.number);
  fuel = λ s n. same_made v s (record s { fuel = s.fuel - n }) refl refl refl;
  happened = λ s e. same_made v s (record s { happened = s.happened ++ e ∷ [] }) refl refl refl;
  activations = λ s. same_made v s (record s { activations = suc s.activations }) refl refl refl;
  thing = λ s x. same_made v s (record s { things = s.things ++ x ∷ [] }) refl refl refl;
  killed = λ s n. same_made v s (record s { things = change dead n s.things }) refl refl refl;
  slot = λ s c. same_made v s (record s { slots = s.slots ++ c ∷ [] }) refl refl refl;
  written = λ s n y. same_made v s (record s { slots = change (holding y) n s.slots }) refl refl refl;
  list = λ s vs. same_made v s (record s { lists = s.lists ++ vs ∷ [] }) refl refl refl;
  queue = λ s m. same_made v s (record s { queue = s.queue ++ m ∷ [] }) refl refl refl;
  outbox = λ s n. same_made v s (record s { outbox = s.outbox ++ n ∷ [] }) refl refl refl;
  gift = λ s g. same_made v s (record s { gifts = s.gifts ++ g ∷ [] }) refl refl refl;
  opened = λ s p i. same_made v s (record s { gifts = with_opened p i s.gifts }) refl refl refl;
  noticed = λ s w. same_made v s (record s { noticed = s.noticed ++ w ∷ [] }) refl refl refl;
  drawn = λ s w. same_made v s (record s { drawn = s.drawn ++ w ∷ [] }) refl refl refl;
}

makes_under : (word : ℕ → ℕ) (v : ℕ) → IsKeptUnder (naming word v) (Makes v)
unfolding naming name_of
makes_under word v = let K : Naming Name Name = naming word v in record {
  altered = λ s c n. same_made v s (record s { known = with_change K c n s.known }) refl refl (names_change K c n s.known);
  came = λ s c h. come_made v s (record s { known = s.known ++ begun (K.made c (length s.known)) h ∷ [] }) (K.made c (length s.known)) h refl refl refl;
  mailed = λ s c. same_made v s (record s { mails = s.mails ++ K.mailed c (length s.mails) ∷ [] }) refl refl refl;
  promised = λ s. promise_made v s (record s { promises = suc s.promises; known = s.known ++ begun (Promise v s.promises) s.number ∷ [] }) s.number refl refl refl;
  messaged = λ s h id. come_made v s (record s { messages = suc s.messages; mails = s.mails ++ id ∷ []; known = s.known ++ begun (K.made (IsAnswer h id) (length s.known)) h ∷ [] }) (K.made (IsAnswer h id) (length s.known)) h refl refl refl;
  lone = λ s id. same_made v s (record s { messages = suc s.messages; mails = s.mails ++ id ∷ [] }) refl refl refl;
}

-- ---- the promises of its own

-- None is claimed more often than it was made, which is once at most, and they are known in order.
pub record Ordered (v : ℕ) (s : Vat Name) : Type 0 where
  pub number : s.number ≡ v
  pub once : (i : ℕ) → claims v (Promise v i) s.known ≤ numbered_at v (Promise v i) s
  pub order : Within (promises_from v zero s.promises) (names_in s.known)

from_zero : (v : ℕ) (s t : Vat Name) → Made v s t → Within (promises_from v zero s.promises) (names_in s.known) → Within (promises_from v zero t.promises) (names_in t.known)
from_zero v s t h k = let e : zero + s.promises ≡ s.promises = omega arith in
    rw (h.promises, h.names) (rw (promises_on v zero s.promises h.count) (within_on (promises_from v zero s.promises) (names_in s.known) (promises_from v (zero + s.promises) h.count) h.new k (subst (λ j. Within (promises_from v j h.count) h.new) (sym e) h.order)))

step_ordered : (word : ℕ → ℕ) (v : ℕ) (what : Step Name Name) (s t : Vat Name) → does (naming word v) what s ≡ Gives tt t → Ordered v s → ((i : ℕ) → claims v (Promise v i) s.known + brought v (Promise v i) s.gifts what ≤ numbered_at v (Promise v i) s) → Ordered v t
step_ordered word v what s t e h f = let made : Makes v s t = after_gives (Makes v) s t (does (naming word v) what s) (kept_by_steps (naming word v) (Makes v) (makes v) (makes_under word v) what s) e in
    let m : Made v s t = made h.number in record {
      number = m.number;
      once = λ i. let k : Knowing v (Promise v i) (brought v (Promise v i) s.gifts what) s t = after_gives (λ y z. Knowing v (Promise v i) (brought v (Promise v i) s.gifts what) y z) s t (does (naming word v) what s) (steps_know_once word v what s (Promise v i)) e in let a = k.kept h.number in let b = f i in omega arith;
      order = from_zero v s t m h.order;
    }

-- ---- what a note brings of them

module _ (v i : ℕ) where
  abbrev X : Name
  X = Promise v i

  no_onward_is : (b : Bool) (c : ℕ) → b ≡ true → ◌≡◌ {A = ℕ} (elim b [ true ↦ 0 | false ↦ c ]) 0
  no_onward_is true c e = refl
  no_onward_is false c e = cc

  no_onward : (id : Name) → IsMessageName id → onward v X id ≡ 0
  unfolding onward host_of
  no_onward (Sent m) h = no_onward_is (v == v) (one (Answer v m) X) (eq-eqb v v refl)
  no_onward other h = absurd h

  no_answer : (id : Name) → IsMessageName id → one (answer_of v id) X ≡ 0
  unfolding answer_of one same_name once
  no_answer (Sent m) h = refl
  no_answer other h = absurd h

  no_mails : (vats : List (Vat Name)) (draws : List ℕ) (ks : List Name) (n : Note Name) → NoteOk (IsMade AnyWord vats draws) n → mails v X (read_note ks n) ≡ 0
  unfolding mails read_note new_answer
  no_mails vats draws ks (Deliver d n verb ys) h = let a = no_answer d.message (message_made vats draws d.message h.0) in let b = no_onward d.message (message_made vats draws d.message h.0) in omega arith
  no_mails vats draws ks other h = refl

  onward_none : (ms : List (Message Name)) → AllOf (λ (m : Message Name). IsMessageName m.id) ms → onward_all v X ms ≡ 0
  unfolding onward_all
  onward_none [] h = refl
  onward_none (m ∷ ms) h = let a = no_onward m.id h.0 in let b = onward_none ms h.1 in omega arith

  abbrev HoldsMails : Known Name → Type 0
  HoldsMails k = AllOf (λ (m : Message Name). IsMessageName m.id) k.held

  -- what is not among the names known is not claimed
  claims_none : (ks : List (Known Name)) → (IsAmong X (names_in ks) → ⊥) → AllOf HoldsMails ks → claims v X ks ≡ 0
  unfolding claims
  claims_none [] f h = refl
  claims_none (k ∷ ks) f h = either (claims_none ks (λ a. f (inr a)) h.1) (one_or k.name X)
    where
      either : claims v X ks ≡ 0 → ((k.name ≡ X) × (one k.name X ≡ 1)) ⊎ (one k.name X ≡ 0) → one k.name X + onward_all v X k.held + claims v X ks ≡ 0
      either b (inl e) = absurd (f (inl (sym e.0)))
      either b (inr e) = let a = onward_none k.held h.0 in omega arith

  -- what is among them is claimed
  claims_some : (ks : List (Known Name)) → IsAmong X (names_in ks) → 1 ≤ claims v X ks
  unfolding claims one once
  claims_some [] a = absurd a
  claims_some (k ∷ ks) (inl e) = let f : same_name k.name X ≡ true = subst (λ z. same_name z X ≡ true) e (same_self X) in let g : one k.name X ≡ 1 = ap once f in omega arith
  claims_some (k ∷ ks) (inr a) = let b = claims_some ks a in omega arith

  taken : (b : Bool) (c : ℕ) → b ≡ true → ◌≡◌ {A = ℕ} (elim b [ true ↦ c | false ↦ 0 ]) c
  taken true c e = refl
  taken false c e = cc

  numbered_is : (s : Vat Name) → numbered_at v X s ≡ once (nat_le (suc i) s.promises)
  unfolding numbered_at numbered
  numbered_is s = taken (v == v) (once (nat_le (suc i) s.promises)) (eq-eqb v v refl)

  numbered_made : (s : Vat Name) → i < s.promises → numbered_at v X s ≡ 1
  unfolding once
  numbered_made s l = numbered_is s ∙ ap once (is_made i s.promises l)

  numbered_not : (s : Vat Name) → s.promises ≤ i → numbered_at v X s ≡ 0
  unfolding once
  numbered_not s l = numbered_is s ∙ ap once (not_made i s.promises l)

  numbered_most : (s : Vat Name) → numbered_at v X s ≤ 1
  numbered_most s = by (made_or i s.promises)
    where
      by : (i < s.promises) ⊎ (s.promises ≤ i) → numbered_at v X s ≤ 1
      by (inl l) = let e = numbered_made s l in omega arith
      by (inr l) = let e = numbered_not s l in omega arith

  -- one that was not made is in no note
  unmade_never : (vats : List (Vat Name)) (draws : List ℕ) (s : Vat Name) → slice_get vats v ≡ Some s → s.promises ≤ i → (b : Bit Name) → IsMade AnyWord vats draws b → NeverNew X b
  unmade_never vats draws s there l (Named x) h = avoids_never X (Named x) (λ e. let made : WasMade AnyWord vats draws X = subst (WasMade AnyWord vats draws) e h in let p = promises_at vats v s there in absurd (omega arith))
  unmade_never vats draws s there l other h = tt

  module _ (vats : List (Vat Name)) (draws : List ℕ) (s : Vat Name) (there : slice_get vats v ≡ Some s) (held : AllOf HoldsMails s.known) (once_so : claims v X s.known ≤ numbered_at v X s) (from : ℕ) (n : Note Name) (ok : NoteOk (IsMade AnyWord vats draws) n) where
    abbrev Told : ℕ
    Told = tells X (read_note (names_in s.known) n)

    pub brings_few : claims v X s.known + brings v X from s.gifts (read_note (names_in s.known) n) ≤ numbered_at v X s
    brings_few = let parts = brings_parts v X from s.gifts (read_note (names_in s.known) n) tt in let none = no_mails vats draws (names_in s.known) n ok in let most = note_tells X (names_in s.known) n tt in by parts none most (among_dec X (names_in s.known))
      where
        by : brings v X from s.gifts (read_note (names_in s.known) n) ≡ mails v X (read_note (names_in s.known) n) + tells X (read_note (names_in s.known) n) → mails v X (read_note (names_in s.known) n) ≡ 0 → tells X (read_note (names_in s.known) n) + has X (names_in s.known) ≤ 1 → IsAmong X (names_in s.known) ⊎ (IsAmong X (names_in s.known) → ⊥) → claims v X s.known + brings v X from s.gifts (read_note (names_in s.known) n) ≤ numbered_at v X s
        by parts none most (inl a) = let has = has_true X (names_in s.known) a in omega arith
        by parts none most (inr f) = new (made_or i s.promises)
          where
            new : (i < s.promises) ⊎ (s.promises ≤ i) → claims v X s.known + brings v X from s.gifts (read_note (names_in s.known) n) ≤ numbered_at v X s
            new (inl l) = let c = claims_none s.known f held in let e = numbered_made s l in omega arith
            new (inr l) = let c = claims_none s.known f held in let e = note_not X (names_in s.known) n tt (note_up (IsMade AnyWord vats draws) (NeverNew X) (unmade_never vats draws s there l) n ok) in omega arith

-- ---- each step

module _ (play : Play) (w : World) (reached : IsReached play w) (v : ℕ) (s t : Vat Name) (there : slice_get w.vats v ≡ Some s) (honest : IsHostile play v → ⊥) where
  mails_held : (ks : List (Known Name)) → AllOf (KnownOk (MadeIn play AnyWord w)) ks → AllOf (λ (k : Known Name). AllOf (λ (m : Message Name). IsMessageName m.id) k.held) ks
  mails_held ks h = all_map (λ (k : Known Name) i. all_map (λ (m : Message Name) j. message_made w.vats w.drawn m.id j.0) k.held i.2) ks h

  held_here : AllOf (λ (k : Known Name). AllOf (λ (m : Message Name). IsMessageName m.id) k.held) s.known
  held_here = let f = reached_fits play w reached in let at = f.vats v s there honest in let parts = at.parts in mails_held s.known parts.known

  same_ordered : (q r : Vat Name) → r.number ≡ q.number → r.promises ≡ q.promises → r.known ≡ q.known → Ordered v q → Ordered v r
  unfolding numbered_at numbered
  same_ordered q r a b c h = record {
    number = a ∙ h.number;
    once = λ i. let e = h.once i in rw (b, c) e;
    order = rw (b, c) h.order;
  }

  ready_ordered : (x : World) (q : Vat Name) → Ordered v q → Ordered v (readied x q)
  unfolding readied
  ready_ordered x q h = same_ordered q (readied x q) refl refl refl h

  alone_none : (what : Step Name Name) → IsAlone what → (i : ℕ) (q : Vat Name) → brought v (Promise v i) q.gifts what ≡ 0
  unfolding brought
  alone_none (Receives from m) o i q = absurd o
  alone_none other o i q = refl

  queued : (q : Vat Name) (what : Step Name Name) → IsAlone what → Does play.script w v s q t what → Ordered v s → Ordered v q
  queued q (Starts tree depth root given) o d h = let k = d.begins in let e : q ≡ s = k.2 in subst (Ordered v) (sym e) h
  queued q (Takes tree depth m) o d h = let k = d.begins in let e : q ≡ record s { queue = k.0 } = k.2 in subst (Ordered v) (sym e) (same_ordered s (record s { queue = k.0 }) refl refl refl h)
  queued q (Notices u) o d h = let e : q ≡ s = d.begins in subst (Ordered v) (sym e) h
  queued q (Receives from m) o d h = absurd o

  pub alone_ordered : (q : Vat Name) (what : Step Name Name) → IsAlone what → Does play.script w v s q t what → Ordered v s → Ordered v t
  unfolding names
  alone_ordered q what o d h = let g : Ordered v (readied w q) = ready_ordered w q (queued q what o d h) in
      step_ordered (draw_word play.script.key) v what (readied w q) t d.gives g (λ i. let a = g.once i in let b = alone_none what o i (readied w q) in omega arith)

  pub lands_ordered : (from : ℕ) (x : World) (m : Note Name) → NoteOk (MadeIn play AnyWord w) m → arrive (names play.script v) from (read_note (names_of s) m) (readied x s) ≡ Gives tt t → Ordered v s → Ordered v t
  unfolding names names_of does brought readied numbered_at numbered
  lands_ordered from x m ok e h = let g : Ordered v (readied x s) = ready_ordered x s h in
      step_ordered (draw_word play.script.key) v (Receives from (read_note (names_in s.known) m)) (readied x s) t e g (λ i. brings_few v i w.vats w.drawn s there held_here (h.once i) from m ok)

  entries_made : HoldsOfEntries (MadeIn play AnyWord w)
  entries_made = record { unmarked = λ g i p. inr tt; placed_too = λ g i p. inr tt; passed = λ g i p q. inr tt }

  coming_ordered : (a : ℕ) (n : Note Name) → NoteOk (MadeIn play AnyWord w) n → Coming play.script w a v s t n → Ordered v s → Ordered v t
  coming_ordered a n ok (Passes f e) h = subst (Ordered v) e (ready_ordered w s h)
  coming_ordered a n ok (Lands x m drew alike e) h = lands_ordered a x m (alike.names (MadeIn play AnyWord w) entries_made ok) e h

  module _ (a : ℕ) (l : Link) (n : Note Name) (ns : List (Note Name)) (at : link_at a v w.links ≡ Some l) (notes : l.notes ≡ n ∷ ns) where
    made : NoteOk (MadeIn play AnyWord w) n
    made = note_made play w reached v s there honest (stands_so play w reached v s there honest) a l n ns at notes

    pub arrived_ordered : arrive (names play.script v) a (read_note (names_of s) n) (readied w s) ≡ Gives tt t → Ordered v s → Ordered v t
    arrived_ordered e h = lands_ordered a w n made e h

    pub received_ordered : receive (names play.script v) (sight_at w a v s) a (read_note (names_of s) (entered_at w a v s n)) (readied w s) ≡ Gives tt t → Ordered v s → Ordered v t
    received_ordered e h = coming_ordered a n made (comes play.script w a v s t n (connected_at a v w.connections).tables.exports (sight_at w a v s) e) h

-- ---- the start

none_claimed : (v i : ℕ) (us : List ℕ) → claims v (Promise v i) (map world.known_root us) ≤ 0
unfolding claims world.known_root begun onward_all one once same_name
none_claimed v i [] = omega arith
none_claimed v i (u ∷ us) = let rest = none_claimed v i us in root_none u rest
  where
    root_none : (u : ℕ) → claims v (Promise v i) (map world.known_root us) ≤ 0 → one (Root u) (Promise v i) + 0 + claims v (Promise v i) (map world.known_root us) ≤ 0
    root_none u r = omega arith

least : (a b : ℕ) → a ≤ 0 → a ≤ b
least a b h = omega arith

fresh_ordered : (script : Script) (u : ℕ) (p : Program) → Ordered u (world.fresh script u p)
unfolding world.fresh promises_from world.knowers world.known_root claims
fresh_ordered script u p = record { number = refl; once = λ i. least _ (numbered_at u (Promise u i) (world.fresh script u p)) (none_claimed u i (u ∷ p.knows)); order = none_within (names_in (world.fresh script u p).known) }

begun_ordered : (script : Script) (v : ℕ) (s : Vat Name) → slice_get (world.begins script).vats v ≡ Some s → Ordered v s
unfolding world.begins
begun_ordered script v s e = let r = fresh_at script zero script.vats v s e in let f : r.1 ≡ v = (let g : r.1 ≡ zero + v = r.3 in omega arith) in
    subst (λ z. Ordered z s) f (subst (λ z. Ordered r.1 z) r.4 (fresh_ordered script r.1 r.0))

ordered_kept : (play : Play) → IsKept play Ordered
ordered_kept play = record {
  begun = begun_ordered play.script;
  alone = λ w r v s q t what o alone d h. alone_ordered play w r v s t d.there o q what alone d h;
  arrived = λ w r a v s t l n ns next e h. arrived_ordered play w r v s t next.there next.honest a l n ns next.at next.notes e h;
  received = λ w r a v s t l n ns next e h. received_ordered play w r v s t next.there next.honest a l n ns next.at next.notes e h;
}

pub ordered_so : (play : Play) (w : World) → IsReached play w → (v : ℕ) (s : Vat Name) → slice_get w.vats v ≡ Some s → (IsHostile play v → ⊥) → Ordered v s
ordered_so play = held play Ordered (ordered_kept play)

-- ---- what is known of them

is_own : (v i : ℕ) → is_own_promise v (Promise v i) ≡ true
unfolding is_own_promise
is_own v i = eq-eqb v v refl

own_either : (v : ℕ) (n : Name) → is_own_promise v n ≡ true → (i : ℕ) × (n ≡ Promise v i)
unfolding is_own_promise
own_either v (Promise w i) e = let same : v ≡ w = eqb-true v w e in (i, ap (λ (u : ℕ). Promise u i) (sym same))
own_either v other e = cc

all_own : (v j n : ℕ) → AllOf (λ x. is_own_promise v x ≡ true) (promises_from v j n)
unfolding promises_from
all_own v j zero = tt
all_own v j (suc n) = (is_own v j, all_own v (suc j) n)

made_among : (v j n i : ℕ) → j < suc i → i < j + n → IsAmong (Promise v i) (promises_from v j n)
unfolding promises_from
made_among v j zero i l h = absurd (omega arith)
made_among v j (suc n) i l h = go (i == j) refl (λ k. made_among v (suc j) n i (omega arith) (omega arith))
  where
    less : (b : Bool) → (i == j) ≡ b → b ≡ false → j < i
    less b e f = other (λ g. no_both b (sym e ∙ eq-eqb i j g) f)
      where
        no_both : (b : Bool) → b ≡ true → b ≡ false → ⊥
        no_both b g f = cc

        other : (i ≡ j → ⊥) → j < i
        other f = omega arith

    go : (b : Bool) → (i == j) ≡ b → (j < i → IsAmong (Promise v i) (promises_from v (suc j) n)) → IsAmong (Promise v i) (Promise v j ∷ promises_from v (suc j) n)
    go true e f = inl (ap (λ (u : ℕ). Promise v u) (eqb-true i j e))
    go false e f = inr (f (less false e refl))

-- none of them is there twice
abbrev OwnOnce : ℕ → List Name → Type 0
OwnOnce v [] = Unit {0}
OwnOnce v (n ∷ ns) = ((i : ℕ) → n ≡ Promise v i → IsAmong n ns → ⊥) × OwnOnce v ns

own_once : (v : ℕ) (ks : List (Known Name)) → ((i : ℕ) → claims v (Promise v i) ks ≤ 1) → OwnOnce v (names_in ks)
unfolding claims one once
own_once v [] f = tt
own_once v (k ∷ ks) f = (
  λ i e a. let b = claims_some v i ks (subst (λ z. IsAmong z (names_in ks)) e a) in let g : one k.name (Promise v i) ≡ 1 = ap once (subst (λ z. same_name z (Promise v i) ≡ true) (sym e) (same_self (Promise v i))) in let c = f i in absurd (omega arith),
  own_once v ks (λ i. let c = f i in omega arith),
)

-- the own promises among names in which these stand in order are these, where each own one is one of them and none is there twice
own_are : (v : ℕ) (xs ns : List Name) → Within xs ns → OwnOnce v ns → AllOf (λ x. is_own_promise v x ≡ true) xs → ((i : ℕ) → IsAmong (Promise v i) ns → IsAmong (Promise v i) xs) → own_promises v ns ≡ xs
unfolding own_promises
own_are v xs [] e once own f = sym e
own_are v xs (n ∷ ns) (inl h) once own f = skip (is_own_promise v n) refl (own_are v xs ns h once.1 own (λ i a. f i (inr a)))
  where
    twice : is_own_promise v n ≡ true → ⊥
    twice e = let o = own_either v n e in once.0 o.0 o.1 (within_among xs ns n h (rw (sym o.1) at (f o.0 (inl (sym o.1)))))

    skip : (b : Bool) → is_own_promise v n ≡ b → own_promises v ns ≡ xs → elim b [ true ↦ n ∷ own_promises v ns | false ↦ own_promises v ns ] ≡ xs
    skip true e k = absurd (twice e)
    skip false e k = k
own_are v xs (n ∷ ns) (inr h) once own f = let both : AllOf (λ x. is_own_promise v x ≡ true) (n ∷ h.0) = rw h.1 at own in
    rw h.1 (take both.0 (is_own_promise v n) refl (own_are v h.0 ns h.2 once.1 both.1 (λ i a. later i a (rw h.1 at (f i (inr a))))))
  where
    later : (i : ℕ) → IsAmong (Promise v i) ns → IsAmong (Promise v i) (n ∷ h.0) → IsAmong (Promise v i) h.0
    later i a (inl e) = absurd (once.0 i (sym e) (rw e at a))
    later i a (inr b) = b

    no_both : (b : Bool) → b ≡ true → b ≡ false → ⊥
    no_both b g e = cc

    take : is_own_promise v n ≡ true → (b : Bool) → is_own_promise v n ≡ b → own_promises v ns ≡ h.0 → elim b [ true ↦ n ∷ own_promises v ns | false ↦ own_promises v ns ] ≡ n ∷ h.0
    take g true e k = ap (λ zs. n ∷ zs) k
    take g false e k = absurd (no_both (is_own_promise v n) g e)

pub own_are_made : (v : ℕ) (s : Vat Name) → Ordered v s → own_promises v (names_in s.known) ≡ promises_from v zero s.promises
own_are_made v s h = own_are v (promises_from v zero s.promises) (names_in s.known) h.order (own_once v s.known (λ i. let a = h.once i in let b = numbered_most v i s in omega arith)) (all_own v zero s.promises) below
  where
    below : (i : ℕ) → IsAmong (Promise v i) (names_in s.known) → IsAmong (Promise v i) (promises_from v zero s.promises)
    below i a = by (made_or i s.promises)
      where
        by : (i < s.promises) ⊎ (s.promises ≤ i) → IsAmong (Promise v i) (promises_from v zero s.promises)
        by (inl l) = made_among v zero s.promises i (omega arith) (omega arith)
        by (inr l) = let c = claims_some v i s.known a in let d = h.once i in let e = numbered_not v i s l in absurd (omega arith)
