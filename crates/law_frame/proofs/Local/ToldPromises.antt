-- The promises of its own that a vat knows are those that it made, in order.
use Rattle.std.proofs.Common.{◌≡◌, ℕ, zero, suc, ◌+◌, ◌-◌, ◌<◌, Bool, true, false, List, [], ◌∷◌, ◌++◌, Some, refl, sym, ap, ◌∙◌, ◌⊎◌, inl, inr, append_assoc, append-nil, length, ◌==◌, arith}
use Rattle.std.specs.Prelude.{slice_get}
use Rattle.std.proofs.lemmas.Bool.{eqb-true, eq-eqb}
use Rattle.def_machine.specs.Values.{Name, Promise, IsAnswer, Naming, naming, name_of}
use Rattle.def_machine.specs.State.{Vat, change, dead, holding, with_opened, with_change, begun}
use Rattle.def_run.specs.Draws.{draw_word}
use Rattle.def_run.specs.World as world
use Rattle.def_run.specs.World.{Script, Program, World, names, readied}
use Rattle.law_machine.proofs.Machine.Keeps.{IsKept, IsKeptUnder}
use Rattle.law_machine.proofs.Machine.StepLaws.{kept_by_steps}
use Rattle.law_machine.specs.Run.Runs.{EachVat}
use Rattle.law_machine.proofs.Run.RunKeeps.{IsKeptInRuns, each_kept, run_keeps, opens_keep}
use Rattle.law_fate.specs.Name.Names.{AllOf, IsAmong, IsPlain, PlainOnce, names_in}
use Rattle.law_fate.proofs.Name.Among.{names_end}
use Rattle.law_fate.proofs.Name.Tracked.{names_change}
use Rattle.law_fate.proofs.Name.Run.{Stands, opened_stands, steps_stand}
use Rattle.law_frame.specs.Local.Told.{is_own_promise, own_promises, promises_from, OwnPromisesComeInOrder}

-- ---- lists in which others stand in order

abbrev Within : List Name → List Name → Type 0
Within xs [] = xs ≡ []
Within xs (y ∷ ys) = Within xs ys ⊎ ((zs : List Name) × (xs ≡ y ∷ zs) × Within zs ys)

none_within : (ys : List Name) → Within [] ys
none_within [] = refl
none_within (y ∷ ys) = inl (none_within ys)

within_on : (xs ys us vs : List Name) → Within xs ys → Within us vs → Within (xs ++ us) (ys ++ vs)
within_on xs [] us vs e k = rw e k
within_on xs (y ∷ ys) us vs (inl h) k = inl (within_on xs ys us vs h k)
within_on xs (y ∷ ys) us vs (inr h) k = inr (h.0 ++ us, ap (λ zs. zs ++ us) h.1, within_on h.0 ys us vs h.2 k)

within_among : (xs ys : List Name) (n : Name) → Within xs ys → IsAmong n xs → IsAmong n ys
within_among xs [] n e a = absurd (rw e at a)
within_among xs (y ∷ ys) n (inl h) a = inr (within_among xs ys n h a)
within_among xs (y ∷ ys) n (inr h) a = go (rw h.1 at a) (λ b. within_among h.0 ys n h.2 b)
  where
    go : IsAmong n (y ∷ h.0) → (IsAmong n h.0 → IsAmong n ys) → IsAmong n (y ∷ ys)
    go (inl e) f = inl e
    go (inr b) f = inr (f b)

-- ---- promises in a step

promises_on : (v j i k : ℕ) → promises_from v j (i + k) ≡ promises_from v j i ++ promises_from v (j + i) k
unfolding promises_from
promises_on v j zero k = let e : j + 0 ≡ j = omega arith in let f : 0 + k ≡ k = omega arith in rw (e, f) refl
promises_on v j (suc i) k = let e : j + suc i ≡ suc j + i = omega arith in let f : suc i + k ≡ suc (i + k) = omega arith in rw (e, f) (ap (λ ns. Promise v j ∷ ns) (promises_on v (suc j) i k))

-- names come to be known at the end, and among them those promises that are made, in order
pub record Made (v : ℕ) (s t : Vat Name) : Type 0 where
  pub number : t.number ≡ v
  pub count : ℕ
  pub new : List Name
  pub promises : t.promises ≡ s.promises + count
  pub names : names_in t.known ≡ names_in s.known ++ new
  pub order : Within (promises_from v s.promises count) new

abbrev Makes : ℕ → Vat Name → Vat Name → Type 0
Makes v s t = s.number ≡ v → Made v s t

made_on : (v : ℕ) (s t u : Vat Name) → Made v s t → Made v t u → Made v s u
made_on v s t u h k = record {
  number = k.number;
  count = h.count + k.count;
  new = h.new ++ k.new;
  promises = (let e = h.promises in let f = k.promises in omega arith);
  names = k.names ∙ ap (λ ns. ns ++ k.new) h.names ∙ append_assoc (names_in s.known) h.new k.new;
  order = rw (promises_on v s.promises h.count k.count) (within_on (promises_from v s.promises h.count) h.new (promises_from v (s.promises + h.count) k.count) k.new h.order (rw h.promises at k.order));
}

same_made : (v : ℕ) (s t : Vat Name) → t.number ≡ s.number → t.promises ≡ s.promises → names_in t.known ≡ names_in s.known → Makes v s t
unfolding promises_from
same_made v s t a b c = λ e. record { number = a ∙ e; count = 0; new = []; promises = (omega arith); names = c ∙ sym (append-nil (names_in s.known)); order = refl }

-- a name comes to be known
come_made : (v : ℕ) (s t : Vat Name) (n : Name) (h : ℕ) → t.number ≡ s.number → t.promises ≡ s.promises → t.known ≡ s.known ++ begun n h ∷ [] → Makes v s t
unfolding promises_from begun
come_made v s t n h a b c = λ e. record { number = a ∙ e; count = 0; new = n ∷ []; promises = (omega arith); names = ap names_in c ∙ names_end s.known (begun n h); order = inl refl }

-- a promise is made
promise_made : (v : ℕ) (s t : Vat Name) (h : ℕ) → t.number ≡ s.number → t.promises ≡ suc s.promises → t.known ≡ s.known ++ begun (Promise v s.promises) h ∷ [] → Makes v s t
unfolding promises_from begun
promise_made v s t h a b c = λ e. record { number = a ∙ e; count = 1; new = Promise v s.promises ∷ []; promises = (omega arith); names = ap names_in c ∙ names_end s.known (begun (Promise v s.promises) h); order = inr ([], refl, refl) }

makes : (v : ℕ) → IsKept (Makes v)
makes v = record {
  same = λ s. same_made v s s refl refl refl;
  trans = λ {s} {t} {u} h k e. let a = h e in made_on v s t u a (k a.number);
  fuel = λ s n. same_made v s (record s { fuel = s.fuel - n }) refl refl refl;
  happened = λ s e. same_made v s (record s { happened = s.happened ++ e ∷ [] }) refl refl refl;
  activations = λ s. same_made v s (record s { activations = suc s.activations }) refl refl refl;
  thing = λ s x. same_made v s (record s { things = s.things ++ x ∷ [] }) refl refl refl;
  killed = λ s n. same_made v s (record s { things = change dead n s.things }) refl refl refl;
  slot = λ s c. same_made v s (record s { slots = s.slots ++ c ∷ [] }) refl refl refl;
  written = λ s n y. same_made v s (record s { slots = change (holding y) n s.slots }) refl refl refl;
  list = λ s vs. same_made v s (record s { lists = s.lists ++ vs ∷ [] }) refl refl refl;
  queue = λ s m. same_made v s (record s { queue = s.queue ++ m ∷ [] }) refl refl refl;
  outbox = λ s n. same_made v s (record s { outbox = s.outbox ++ n ∷ [] }) refl refl refl;
  gift = λ s g. same_made v s (record s { gifts = s.gifts ++ g ∷ [] }) refl refl refl;
  opened = λ s p i. same_made v s (record s { gifts = with_opened p i s.gifts }) refl refl refl;
  noticed = λ s w. same_made v s (record s { noticed = s.noticed ++ w ∷ [] }) refl refl refl;
  drawn = λ s w. same_made v s (record s { drawn = s.drawn ++ w ∷ [] }) refl refl refl;
}

makes_under : (word : ℕ → ℕ) (v : ℕ) → IsKeptUnder (naming word v) (Makes v)
unfolding naming name_of
makes_under word v = let K : Naming Name Name = naming word v in record {
  altered = λ s c n. same_made v s (record s { known = with_change K c n s.known }) refl refl (names_change K c n s.known);
  came = λ s c h. come_made v s (record s { known = s.known ++ begun (K.made c (length s.known)) h ∷ [] }) (K.made c (length s.known)) h refl refl refl;
  mailed = λ s c. same_made v s (record s { mails = s.mails ++ K.mailed c (length s.mails) ∷ [] }) refl refl refl;
  promised = λ s. promise_made v s (record s { promises = suc s.promises; known = s.known ++ begun (Promise v s.promises) s.number ∷ [] }) s.number refl refl refl;
  messaged = λ s h id. come_made v s (record s { messages = suc s.messages; mails = s.mails ++ id ∷ []; known = s.known ++ begun (K.made (IsAnswer h id) (length s.known)) h ∷ [] }) (K.made (IsAnswer h id) (length s.known)) h refl refl refl;
  lone = λ s id. same_made v s (record s { messages = suc s.messages; mails = s.mails ++ id ∷ [] }) refl refl refl;
}

-- ---- in runs

makes_in_runs : (script : Script) → IsKeptInRuns script (λ v. Makes v)
unfolding readied names
makes_in_runs script = record {
  same = λ v s. same_made v s s refl refl refl;
  trans = λ v s t u h k e. let a = h e in made_on v s t u a (k a.number);
  steps = λ v what s. kept_by_steps (naming (draw_word script.key) v) (Makes v) (makes v) (makes_under (draw_word script.key) v) what s;
  ready = λ v w s. same_made v s (readied w s) refl refl refl;
  taken = λ v s ms. same_made v s (record s { queue = ms }) refl refl refl;
}

-- each vat is there at the start and made no promise
fresh_there : (script : Script) (u : ℕ) (ps : List Program) (n : ℕ) → n < length ps → (s : Vat Name) × (slice_get (world.fresh_from script u ps) n ≡ Some s) × (s.number ≡ u + n) × (s.promises ≡ 0)
unfolding world.fresh_from world.fresh
fresh_there script u [] n l = absurd (omega arith)
fresh_there script u (p ∷ ps) zero l = (world.fresh script u p, refl, (omega arith), refl)
fresh_there script u (p ∷ ps) (suc n) l = let r = fresh_there script (suc u) ps n (omega arith) in (r.0, r.1, (let e = r.2 in omega arith), r.3)

some_is : (s t : Vat Name) → Some s ≡ Some t → s ≡ t
some_is s t e = cc

-- the promises that were made stand in order among the names known
abbrev Ordered : ℕ → Vat Name → Type 0
Ordered v t = Within (promises_from v 0 t.promises) (names_in t.known)

ordered_from : (v : ℕ) (s t : Vat Name) → s.promises ≡ 0 → Made v s t → Ordered v t
ordered_from v s t z h = let e : t.promises ≡ h.count = (let f = h.promises in omega arith) in
    rw (e, h.names) (within_on [] (names_in s.known) (promises_from v 0 h.count) h.new (none_within (names_in s.known)) (rw z at h.order))

each_ordered : (script : Script) (x : World) → Stands script x → EachVat (λ v. Makes v) (world.begins script) x → (v : ℕ) (t : Vat Name) → slice_get x.vats v ≡ Some t → Ordered v t
unfolding world.begins
each_ordered script x g h v t e = let low = (g.vats v t e).low in let r = fresh_there script zero script.vats v low in let k = h v r.0 r.1 in
    let same : k.0 ≡ t = some_is k.0 t (sym k.1 ∙ e) in let made : Made v r.0 k.0 = k.2 (let f = r.2 in omega arith) in rw same at (ordered_from v r.0 k.0 r.3 made)

-- ---- what is known of the vat's own promises

own_either : (v : ℕ) (n : Name) → is_own_promise v n ≡ true → (i : ℕ) × (n ≡ Promise v i)
unfolding is_own_promise
own_either v (Promise w i) e = let same : v ≡ w = eqb-true v w e in (i, ap (λ (u : ℕ). Promise u i) (sym same))
own_either v other e = cc

is_own : (v i : ℕ) → is_own_promise v (Promise v i) ≡ true
unfolding is_own_promise
is_own v i = eq-eqb v v refl

made_among : (v j n i : ℕ) → j < suc i → i < j + n → IsAmong (Promise v i) (promises_from v j n)
unfolding promises_from
made_among v j zero i l h = absurd (omega arith)
made_among v j (suc n) i l h = go (i == j) refl (λ k. made_among v (suc j) n i (omega arith) (omega arith))
  where
    less : (b : Bool) → (i == j) ≡ b → b ≡ false → j < i
    less b e f = other (λ g. no_both b (sym e ∙ eq-eqb i j g) f)
      where
        no_both : (b : Bool) → b ≡ true → b ≡ false → ⊥
        no_both b g f = cc

        other : (i ≡ j → ⊥) → j < i
        other f = omega arith

    go : (b : Bool) → (i == j) ≡ b → (j < i → IsAmong (Promise v i) (promises_from v (suc j) n)) → IsAmong (Promise v i) (Promise v j ∷ promises_from v (suc j) n)
    go true e f = inl (ap (λ (u : ℕ). Promise v u) (eqb-true i j e))
    go false e f = inr (f (less false e refl))

all_own : (v j n : ℕ) → AllOf (λ x. is_own_promise v x ≡ true) (promises_from v j n)
unfolding promises_from
all_own v j zero = tt
all_own v j (suc n) = (is_own v j, all_own v (suc j) n)

plain_promise : (v i : ℕ) (n : Name) → n ≡ Promise v i → IsPlain n
plain_promise v i n e = rw e tt

-- the own promises among names in which these stand in order are these, where each own one is one of them and none is there twice
own_are : (v : ℕ) (xs ns : List Name) → Within xs ns → PlainOnce ns → AllOf (λ x. is_own_promise v x ≡ true) xs → ((i : ℕ) → IsAmong (Promise v i) ns → IsAmong (Promise v i) xs) → own_promises v ns ≡ xs
unfolding own_promises
own_are v xs [] e once own f = sym e
own_are v xs (n ∷ ns) (inl h) once own f = skip (is_own_promise v n) refl (own_are v xs ns h once.1 own (λ i a. f i (inr a)))
  where
    twice : is_own_promise v n ≡ true → ⊥
    twice e = let o = own_either v n e in once.0 (plain_promise v o.0 n o.1) (within_among xs ns n h (rw (sym o.1) at (f o.0 (inl (sym o.1)))))

    skip : (b : Bool) → is_own_promise v n ≡ b → own_promises v ns ≡ xs → elim b [ true ↦ n ∷ own_promises v ns | false ↦ own_promises v ns ] ≡ xs
    skip true e k = absurd (twice e)
    skip false e k = k
own_are v xs (n ∷ ns) (inr h) once own f = let both : AllOf (λ x. is_own_promise v x ≡ true) (n ∷ h.0) = rw h.1 at own in
    rw h.1 (take both.0 (is_own_promise v n) refl (own_are v h.0 ns h.2 once.1 both.1 (λ i a. later i a (rw h.1 at (f i (inr a))))))
  where
    later : (i : ℕ) → IsAmong (Promise v i) ns → IsAmong (Promise v i) (n ∷ h.0) → IsAmong (Promise v i) h.0
    later i a (inl e) = absurd (once.0 (plain_promise v i n (sym e)) (rw e at a))
    later i a (inr b) = b

    no_both : (b : Bool) → b ≡ true → b ≡ false → ⊥
    no_both b g e = cc

    take : is_own_promise v n ≡ true → (b : Bool) → is_own_promise v n ≡ b → own_promises v ns ≡ h.0 → elim b [ true ↦ n ∷ own_promises v ns | false ↦ own_promises v ns ] ≡ n ∷ h.0
    take g true e k = ap (λ zs. n ∷ zs) k
    take g false e k = absurd (no_both (is_own_promise v n) g e)

vat_ordered : (script : Script) (x : World) → Stands script x → EachVat (λ v. Makes v) (world.begins script) x → (v : ℕ) (t : Vat Name) → slice_get x.vats v ≡ Some t → own_promises v (names_in t.known) ≡ promises_from v zero t.promises
vat_ordered script x g h v t e = let kept = (g.vats v t e).kept in
    own_are v (promises_from v 0 t.promises) (names_in t.known) (each_ordered script x g h v t e) kept.once (all_own v 0 t.promises) (λ i a. let l = kept.below i a in made_among v 0 t.promises i (omega arith) (omega arith))

pub own_promises_ordered : OwnPromisesComeInOrder
own_promises_ordered script once = (
  λ ps rest w e opened. vat_ordered script w (opened_stands script once ps rest w e opened) (opens_keep script (EachVat (λ v. Makes v)) (each_kept script (λ v. Makes v) (makes_in_runs script)) zero ps (world.begins script) w opened),
  λ w x es k opened stepped. let q : World → World → Type 0 = EachVat (λ v. Makes v) in let kept = each_kept script (λ v. Makes v) (makes_in_runs script) in
      vat_ordered script x (steps_stand script es k w x (opened_stands script once script.vats [] w (sym (append-nil script.vats)) opened) stepped)
      (kept.trans (world.begins script) w x (opens_keep script q kept zero script.vats (world.begins script) w opened) (run_keeps script q kept es k w x stepped)),
)
