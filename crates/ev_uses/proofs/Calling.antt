-- The table of calls has the open calls of each activation.
use Rattle.std.proofs.Common.{◌≡◌, ℕ, ◌==◌, Bool, true, false, cond, drop, List, [], ◌∷◌, Option, Some, refl, sym, ap, subst, ◌∙◌, eq-eqb}
use Rattle.std.specs.Prelude.{◌↔◌, if◌then◌else◌, unwrap_or}
use Rattle.std.specs.Map.{lookup}
use Rattle.std.proofs.lemmas.Bool.{eqb-true}
use Rattle.def_event.specs.declared.event.Called.{Called}
use Rattle.def_event.specs.declared.event.Event.{Event}
use Rattle.def_event.specs.declared.event.Event.TheVariants.{Call, Back, Thrown, Gone}
use Rattle.def_event.specs.Uses as uses
use Rattle.def_event.specs.Uses.{AsksAudition, Line, OpenCall, calls_after, open_calls}
use Rattle.ev_known.specs.declared.facts.Activation.{Activation}
use Rattle.ev_known.specs.contracts.facts.ActivationPartialEq.TheImpl.{eq-value}
use Rattle.ev_known.specs.Telling.{activation}
use Rattle.ev_known.proofs.Keys.{exact_activation}
use Rattle.ev_uses.specs.declared.stack.OpenedCall.{OpenedCall}
use Rattle.ev_uses.specs.Calls.{AreKeptOf, CallsAfter, CallsStand, Closes, HasStack, Opens, Stacks, stack}

pub none_open : CallsStand [] []
unfolding stack
none_open = record { each = λ a. tt }

-- ---- a stack that is taken out and put back

updated_if : (b : Bool) (o p : Option (List OpenedCall)) (calls : List OpenedCall) → o ≡ cond b (Some calls) p → unwrap_or o [] ≡ cond b calls (unwrap_or p [])
updated_if true o p calls h = ap (λ (q : Option (List OpenedCall)). unwrap_or q []) h
updated_if false o p calls h = ap (λ (q : Option (List OpenedCall)). unwrap_or q []) h

put_if : (b : Bool) (calls now gone there : List OpenedCall) → now ≡ cond b calls gone → gone ≡ cond b [] there → now ≡ cond b calls there
put_if true calls now gone there h g = h
put_if false calls now gone there h g = h ∙ g

pub put_in : (a : Activation) (xs : List OpenedCall) (old new : Stacks)
    → ((j : Activation) → lookup (eq-value.it j) new ≡ cond (eq-value.it a j) (Some xs) (lookup (eq-value.it j) old)) → HasStack a xs old new
unfolding stack
put_in a xs old new put q = updated_if (eq-value.it a q) (lookup (eq-value.it q) new) (lookup (eq-value.it q) old) xs (put q)

pub put_back : (a : Activation) (calls xs : List OpenedCall) (old mid new : Stacks) → HasStack a [] old mid → xs ≡ calls → HasStack a xs mid new → HasStack a calls old new
put_back a calls xs old mid new none is put q =
    put_if (eq-value.it a q) calls (stack new q) (stack mid q) (stack old q) (put q ∙ ap (λ (ys : List OpenedCall). cond (eq-value.it a q) ys (stack mid q)) is) (none q)

pub opened : (past : List Line) (at : ℕ) (c : Called) (old new : Stacks) (b : Bool) → (b ≡ true) ↔ AsksAudition at (record { call = c; before = past })
    → HasStack (record { at = at; number = c.activation }) (record { begun = c.begun; asks_audition = b } ∷ stack old (record { at = at; number = c.activation })) old new → Opens past at c old new
opened past at c old new b asks has = (record { begun = c.begun; asks_audition = b }, (refl, asks), has)

-- ---- a line that begins or ends a call of one activation

-- whether a number is that of the activation, the line does this to its calls
abbrev Does : List Line → Event → ℕ → (List OpenCall → List OpenCall) → Type 0
Does past e n change = (m : ℕ) (cs : List OpenCall) → calls_after past e m cs ≡ (if n == m then change cs else cs)

if_true : {A : Type 0} (b : Bool) (x y : A) → b ≡ true → (if b then x else y) ≡ x
if_true true x y e = refl
if_true false x y e = absurd cc

cond_is : {A : Type 0} (b c : Bool) (x y : A) → b ≡ c → cond b x y ≡ cond c x y
cond_is b c x y e = ap (λ (d : Bool). cond d x y) e

module _ (at n : ℕ) (e : Event) (past : List Line) (change : List OpenCall → List OpenCall) (calls : List OpenedCall) (old new : Stacks)
    (does : Does past e n change) (has : HasStack (record { at = at; number = n }) calls old new) (h : CallsStand old past) (kept : AreKeptOf at (change (open_calls past at n)) calls) where
  here : open_calls (record { at = at; event = e } ∷ past) at n ≡ change (open_calls past at n)
  here =
      if_true (at == at) (calls_after past e n (open_calls past at n)) (open_calls past at n) (eq-eqb at at refl)
      ∙ does n (open_calls past at n) ∙ if_true (n == n) (change (open_calls past at n)) (open_calls past at n) (eq-eqb n n refl)

  other_number : (m : ℕ) (cs : List OpenCall) (b : Bool) → (n == m) ≡ b → (b ≡ true → ⊥) → calls_after past e m cs ≡ cs
  other_number m cs true q new_one = absurd (new_one refl)
  other_number m cs false q new_one = does m cs ∙ ap (λ (b : Bool). if b then change cs else cs) q

  elsewhere : (a : uses.Activation) (b : Bool) → (at == a.at) ≡ b → (record { at = at; number = n } ≡ activation a → ⊥)
      → (if b then calls_after past e a.number (open_calls past a.at a.number) else open_calls past a.at a.number) ≡ open_calls past a.at a.number
  elsewhere a true q new_one =
      let there : at ≡ a.at = eqb-true at a.at q in
      other_number a.number (open_calls past a.at a.number) (n == a.number) refl (λ t. new_one (let number : n ≡ a.number = eqb-true n a.number t in λ i. record { at = there i; number = number i }))
  elsewhere a false q new_one = refl

  each_stands : (a : uses.Activation) (b : Bool) → eq-value.it (record { at = at; number = n }) (activation a) ≡ b
      → AreKeptOf a.at (open_calls (record { at = at; event = e } ∷ past) a.at a.number) (stack new (activation a))
  each_stands a true q =
      let same : record { at = at; number = n } ≡ activation a = exact_activation.same (record { at = at; number = n }) (activation a) q in
      let calls_are : stack new (record { at = at; number = n }) ≡ calls
      = has (record { at = at; number = n }) ∙ cond_is (eq-value.it (record { at = at; number = n }) (record { at = at; number = n })) true calls (stack old (record { at = at; number = n })) (exact_activation.itself (record { at = at; number = n })) in
      let first : AreKeptOf at (open_calls (record { at = at; event = e } ∷ past) at n) (stack new (record { at = at; number = n }))
      = subst (λ (xs : List OpenedCall). AreKeptOf at (open_calls (record { at = at; event = e } ∷ past) at n) xs) (sym calls_are) (subst (λ (cs : List OpenCall). AreKeptOf at cs calls) (sym here) kept) in
      subst (λ (k : Activation). AreKeptOf k.at (open_calls (record { at = at; event = e } ∷ past) k.at k.number) (stack new k)) same first
  each_stands a false q =
      let calls_are : stack new (activation a) ≡ stack old (activation a) = has (activation a) ∙ cond_is (eq-value.it (record { at = at; number = n }) (activation a)) false calls (stack old (activation a)) q in
      let opened : open_calls (record { at = at; event = e } ∷ past) a.at a.number ≡ open_calls past a.at a.number
      = elsewhere a (at == a.at) refl (λ same. (let bad : true ≡ false = sym (subst (λ (k : Activation). eq-value.it (record { at = at; number = n }) k ≡ true) same (exact_activation.itself (record { at = at; number = n }))) ∙ q in cc)) in
      subst (λ (xs : List OpenedCall). AreKeptOf a.at (open_calls (record { at = at; event = e } ∷ past) a.at a.number) xs) (sym calls_are)
      (subst (λ (cs : List OpenCall). AreKeptOf a.at cs (stack old (activation a))) (sym opened) (h.each a))

  changed : CallsStand new (record { at = at; event = e } ∷ past)
  changed = record { each = λ a. each_stands a (eq-value.it (record { at = at; number = n }) (activation a)) refl }

-- ---- each kind of line

kept_dropped : (at : ℕ) (cs : List OpenCall) (xs : List OpenedCall) → AreKeptOf at cs xs → AreKeptOf at (drop 1 cs) (drop 1 xs)
kept_dropped at [] [] k = k
kept_dropped at (c ∷ cs) (x ∷ xs) k = k.1
kept_dropped at [] (x ∷ xs) k = absurd k
kept_dropped at (c ∷ cs) [] k = absurd k

closed : (at n : ℕ) (e : Event) (past : List Line) (old new : Stacks) → Does past e n (λ cs. drop 1 cs) → Closes at n old new → CallsStand old past → CallsStand new (record { at = at; event = e } ∷ past)
closed at n e past old new does has h =
    changed at n e past (λ cs. drop 1 cs) (drop 1 (stack old (record { at = at; number = n }))) old new does has h
    (kept_dropped at (open_calls past at n) (stack old (record { at = at; number = n })) (h.each (record { at = at; number = n })))

-- a line that begins and ends no call
same_calls : (at : ℕ) (e : Event) (past : List Line) (old new : Stacks) → ((m : ℕ) (cs : List OpenCall) → calls_after past e m cs ≡ cs) → new ≡ old → CallsStand old past → CallsStand new (record { at = at; event = e } ∷ past)
same_calls at e past old new does same h =
    subst (λ (rows : Stacks). CallsStand rows (record { at = at; event = e } ∷ past)) (sym same) (record {
      each = λ a. subst (λ (cs : List OpenCall). AreKeptOf a.at cs (stack old (activation a))) (sym (either a (at == a.at))) (h.each a);
    })
  where
    either : (a : uses.Activation) (b : Bool) → (if b then calls_after past e a.number (open_calls past a.at a.number) else open_calls past a.at a.number) ≡ open_calls past a.at a.number
    either a true = does a.number (open_calls past a.at a.number)
    either a false = refl

pub line_called : (at : ℕ) (e : Event) (past : List Line) (old new : Stacks) → CallsAfter past at e old new → CallsStand old past → CallsStand new (record { at = at; event = e } ∷ past)
unfolding CallsAfter calls_after
line_called at (Call c) past old new k h =
    changed at c.activation (Call c) past (λ cs. record { call = c; before = past } ∷ cs) (k.0 ∷ stack old (record { at = at; number = c.activation })) old new (λ m cs. refl) k.2 h
    (k.1, h.each (record { at = at; number = c.activation }))
line_called at (Back n x) past old new k h = closed at n (Back n x) past old new (λ m cs. refl) k h
line_called at (Thrown n x) past old new k h = closed at n (Thrown n x) past old new (λ m cs. refl) k h
line_called at (Gone n) past old new k h = closed at n (Gone n) past old new (λ m cs. refl) k h
line_called at e past old new k h = same_calls at e past old new (λ m cs. refl) k h
