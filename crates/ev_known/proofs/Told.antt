-- The facts of the set are those that the lines tell.
use Rattle.std.proofs.Common.{◌≡◌, ℕ, Bool, true, false, List, [], ◌∷◌, ◌++◌, map, Option, Some, None, refl, sym, ap, subst, ◌∙◌, inl, inr}
use Rattle.std.specs.Prelude.{◌⊎◌, ◌↔◌, if◌then◌else◌}
use Rattle.ev_base.specs.declared.names.Name.{Name}
use Rattle.def_event.specs.declared.shown.Shown.{Shown, Name as Named}
use Rattle.def_event.specs.declared.event.Called.{Called}
use Rattle.def_event.specs.declared.event.Event.{Event}
use Rattle.def_event.specs.declared.event.Event.TheVariants.{Open, Take, Call, Made as ObjectMade}
use Rattle.def_event.specs.Uses as uses
use Rattle.def_event.specs.Uses.{IsAmong, Thing, things_of, things, lists_of, given, gains, begins, makes, captured, begun_call, Anew, TellsAnew, IsTold, Line}
use Rattle.ev_known.specs.declared.facts.Activation.{Activation}
use Rattle.ev_known.specs.declared.facts.Fact.{Fact}
use Rattle.ev_known.specs.contracts.facts.FactPartialEq.TheImpl.{eq-value}
use Rattle.ev_known.specs.Telling.{key, is_told, with_fact, told, told_values, told_captures, told_called, told_begun, told_value, told_made, told_line, StandsFor}
use Rattle.ev_links.proofs.Among.{inserted, any_among, among_any}
use Rattle.ev_known.proofs.Keys.{among_keys, exact_fact}

-- ---- what stands in a set after more was told

pub told_among : (old : List Fact) (f : Fact) → is_told old f ≡ true → IsAmong f old
unfolding is_told
told_among old f h = any_among eq-value.it exact_fact f old h

pub among_is_told : (old : List Fact) (f : Fact) → IsAmong f old → is_told old f ≡ true
unfolding is_told
among_is_told old f h = among_any eq-value.it exact_fact f old h

one_among : (x f : Fact) (old : List Fact) → IsAmong x (with_fact old f) ↔ (IsAmong x old ⊎ (f ≡ x))
unfolding with_fact
one_among x f old = inserted eq-value.it exact_fact x f old

pub among_told : (x : Fact) (old fs : List Fact) → IsAmong x (told old fs) ↔ (IsAmong x old ⊎ IsAmong x fs)
among_told x old [] = (λ h. inl h, λ h. elim h [ inl a ↦ a | inr n ↦ absurd n ])
among_told x old (f ∷ fs) =
    let rest = among_told x (with_fact old f) fs in
    let one = one_among x f old in (
      λ h. elim (rest.0 h) [ inl a ↦ elim (one.0 a) [ inl b ↦ inl b | inr e ↦ inr (inl e) ] | inr b ↦ inr (inr b) ],
      λ h. rest.1 (elim h [ inl a ↦ inl (one.1 (inl a)) | inr b ↦ elim b [ inl e ↦ inl (one.1 (inr e)) | inr d ↦ inr d ] ]),
    )

told_append : (old xs ys : List Fact) → told old (xs ++ ys) ≡ told (told old xs) ys
told_append old [] ys = refl
told_append old (x ∷ xs) ys = told_append (with_fact old x) xs ys

given_append : (at n : ℕ) (ts us : List Thing) → map key (given at n (ts ++ us)) ≡ map key (given at n ts) ++ map key (given at n us)
given_append at n [] us = refl
given_append at n (t ∷ ts) us = ap (λ (fs : List Fact). key (uses.Given (record { at = at; number = n }) t) ∷ fs) (given_append at n ts us)

captured_append : (o : Name) (ts us : List Thing) → map key (map (λ t. uses.Captured o t) (ts ++ us)) ≡ map key (map (λ t. uses.Captured o t) ts) ++ map key (map (λ t. uses.Captured o t) us)
captured_append o [] us = refl
captured_append o (t ∷ ts) us = ap (λ (fs : List Fact). key (uses.Captured o t) ∷ fs) (captured_append o ts us)

values_told : (a : Activation) (old : List Fact) (xs : List Shown) → told_values a old xs ≡ told old (map key (given a.at a.number (things xs)))
values_told a old [] = refl
values_told a old (x ∷ xs) =
    values_told a (told old (map key (given a.at a.number (things_of x)))) xs
    ∙ sym (told_append old (map key (given a.at a.number (things_of x))) (map key (given a.at a.number (things xs))))
    ∙ ap (told old) (sym (given_append a.at a.number (things_of x) (things xs)))

captures_told : (o : Name) (old : List Fact) (xs : List Shown) → told_captures o old xs ≡ told old (map key (map (λ t. uses.Captured o t) (things xs)))
captures_told o old [] = refl
captures_told o old (x ∷ xs) =
    captures_told o (told old (map key (map (λ t. uses.Captured o t) (things_of x)))) xs
    ∙ sym (told_append old (map key (map (λ t. uses.Captured o t) (things_of x))) (map key (map (λ t. uses.Captured o t) (things xs))))
    ∙ ap (told old) (sym (captured_append o (things_of x) (things xs)))

-- ---- what is told anew

abbrev anew_told : List Fact → Option Anew → List Fact
anew_told old None = old
anew_told old (Some n) = if is_told old (key n.mark) then old else told old (map key (n.mark ∷ n.facts))

called_told : (at : ℕ) (c : Called) (o : Option ℕ) (old : List Fact) → told_called at c o old ≡ anew_told old (begun_call at c o)
unfolding key
called_told at c None old = refl
called_told at c (Some b) old =
    let a : Activation = record { at = at; number = b } in
    let mark = key (uses.Begun (record { at = at; number = b })) in
    ap (λ (fs : List Fact). if is_told old mark then old else fs) (values_told a (with_fact old mark) c.args)

begun_told : (at : ℕ) (e : Event) (old : List Fact) → told_begun at e old ≡ anew_told old (begins at e)
unfolding told_begun begins key
begun_told at (Open v) old = refl
begun_told at (Take t) old =
    let a : Activation = record { at = at; number = t.activation } in
    let mark = key (uses.Begun (record { at = at; number = t.activation })) in
    let lists = map key (given at t.activation (lists_of t.target)) in
    ap (λ (fs : List Fact). if is_told old mark then old else fs)
    (values_told a (told (with_fact old mark) lists) t.args
    ∙ sym (told_append (with_fact old mark) lists (map key (given at t.activation (things t.args))))
    ∙ ap (told (with_fact old mark)) (sym (given_append at t.activation (lists_of t.target) (things t.args))))
begun_told at (Call c) old = called_told at c c.begun old
begun_told at e old = refl

value_told : (x : Shown) (caps : List Shown) (old : List Fact) → told_value x caps old ≡ anew_told old (captured x caps)
unfolding key
value_told (Named n) caps old =
    let mark = key (uses.Made n) in
    ap (λ (fs : List Fact). if is_told old mark then old else fs) (captures_told n (with_fact old mark) caps)
value_told x caps old = refl

made_told : (e : Event) (old : List Fact) → told_made e old ≡ anew_told old (makes e)
unfolding told_made makes
made_told (ObjectMade o) old = value_told o.object o.caps old
made_told e old = refl

-- what is told of a set
abbrev In : List Fact → uses.Fact → Type 0
In old f = IsAmong (key f) old

anew_if : (b : Bool) (old : List Fact) (n : Anew) (f : uses.Fact) → is_told old (key n.mark) ≡ b
    → IsAmong (key f) (if b then old else told old (map key (n.mark ∷ n.facts))) ↔ (In old f ⊎ TellsAnew (In old) (Some n) f)
anew_if true old n f e = (λ h. inl h, λ h. elim h [ inl a ↦ a | inr t ↦ absurd (t.0 (told_among old (key n.mark) e)) ])
anew_if false old n f e =
    let all = among_told (key f) old (map key (n.mark ∷ n.facts)) in
    let those = among_keys f (n.mark ∷ n.facts) in
    let new : In old n.mark → ⊥ = λ h. (let yes = among_is_told old (key n.mark) h in absurd (cc)) in
    (λ h. elim (all.0 h) [ inl a ↦ inl a | inr b ↦ inr (new, those.0 b) ], λ h. all.1 (elim h [ inl a ↦ inl a | inr t ↦ inr (those.1 t.1) ]))

among_anew : (old : List Fact) (a : Option Anew) (f : uses.Fact) → IsAmong (key f) (anew_told old a) ↔ (In old f ⊎ TellsAnew (In old) a f)
among_anew old None f = (λ h. inl h, λ h. elim h [ inl a ↦ a | inr n ↦ absurd n ])
among_anew old (Some n) f = anew_if (is_told old (key n.mark)) old n f refl

-- a line that begins an activation makes no object
one_alone : (at : ℕ) (e : Event) → (begins at e ≡ None) ⊎ (makes e ≡ None)
unfolding begins makes
one_alone at (ObjectMade o) = inl refl
one_alone at e = inr refl

-- what is told anew by two of which one tells nothing
two_anew : (old : List Fact) (a b : Option Anew) (f : uses.Fact) → (b ≡ None) ⊎ (a ≡ None)
    → IsAmong (key f) (anew_told (anew_told old a) b) ↔ (In old f ⊎ (TellsAnew (In old) b f ⊎ TellsAnew (In old) a f))
two_anew old a b f (inl none) =
    let one = among_anew old a f in
    let same : anew_told (anew_told old a) b ≡ anew_told old a = ap (anew_told (anew_told old a)) none in (
      λ h. elim (one.0 (subst (IsAmong (key f)) same h)) [ inl x ↦ inl x | inr y ↦ inr (inr y) ],
      λ h. subst (IsAmong (key f)) (sym same) (one.1 (elim h [ inl x ↦ inl x | inr y ↦ elim y [ inl t ↦ absurd (subst (λ (c : Option Anew). TellsAnew (In old) c f) none t) | inr t ↦ inr t ] ])),
    )
two_anew old a b f (inr none) =
    let one = among_anew old b f in
    let same : anew_told (anew_told old a) b ≡ anew_told old b = ap (λ (c : Option Anew). anew_told (anew_told old c) b) none in (
      λ h. elim (one.0 (subst (IsAmong (key f)) same h)) [ inl x ↦ inl x | inr y ↦ inr (inl y) ],
      λ h. subst (IsAmong (key f)) (sym same) (one.1 (elim h [ inl x ↦ inl x | inr y ↦ elim y [ inl t ↦ inr t | inr t ↦ absurd (subst (λ (c : Option Anew). TellsAnew (In old) c f) none t) ] ])),
    )

-- ---- a line

line_in : (at : ℕ) (e : Event) (old : List Fact) (f : uses.Fact)
    → IsAmong (key f) (told_line at e old) ↔ (In old f ⊎ (IsAmong f (gains at e) ⊎ (TellsAnew (In old) (begins at e) f ⊎ TellsAnew (In old) (makes e) f)))
line_in at e old f =
    let mid = told_begun at e (told_made e old) in
    let form : mid ≡ anew_told (anew_told old (makes e)) (begins at e) = begun_told at e (told_made e old) ∙ ap (λ (fs : List Fact). anew_told fs (begins at e)) (made_told e old) in
    let two = two_anew old (makes e) (begins at e) f (one_alone at e) in
    let all = among_told (key f) mid (map key (gains at e)) in
    let those = among_keys f (gains at e) in (
      λ h. elim (all.0 h) [ inl a ↦ elim (two.0 (subst (IsAmong (key f)) form a)) [ inl b ↦ inl b | inr c ↦ inr (inr c) ] | inr b ↦ inr (inl (those.0 b)) ],
      λ h. all.1 (elim h [
        | inl a ↦ inl (subst (IsAmong (key f)) (sym form) (two.1 (inl a)))
        | inr b ↦ elim b [ inl g ↦ inr (those.1 g) | inr c ↦ inl (subst (IsAmong (key f)) (sym form) (two.1 (inr c))) ]
      ]),
    )

anew_same : (S T : uses.Fact → Type 0) (a : Option Anew) (f : uses.Fact) → ((g : uses.Fact) → S g ↔ T g) → TellsAnew S a f → TellsAnew T a f
anew_same S T None f h t = t
anew_same S T (Some n) f h t = (λ x. t.0 ((h n.mark).1 x), t.1)

turned : (S T : uses.Fact → Type 0) → ((g : uses.Fact) → S g ↔ T g) → (g : uses.Fact) → T g ↔ S g
turned S T h g = ((h g).1, (h g).0)

pub line_stands : (at : ℕ) (e : Event) (old : List Fact) (past : List Line) → StandsFor old past → StandsFor (told_line at e old) (record { at = at; event = e } ∷ past)
unfolding IsTold
line_stands at e old past h = record {
  each = λ f.
      let line = line_in at e old f in
      let there = anew_same (In old) (IsTold past) (begins at e) f h.each in
      let back = anew_same (IsTold past) (In old) (begins at e) f (turned (In old) (IsTold past) h.each) in
      let makes_there = anew_same (In old) (IsTold past) (makes e) f h.each in
      let makes_back = anew_same (IsTold past) (In old) (makes e) f (turned (In old) (IsTold past) h.each) in (
        λ x. elim (line.0 x) [
          | inl a ↦ inl ((h.each f).0 a)
          | inr b ↦ inr (elim b [ inl g ↦ inl g | inr c ↦ inr (elim c [ inl t ↦ inl (there t) | inr t ↦ inr (makes_there t) ]) ])
        ],
        λ x. line.1 (elim x [
          | inl a ↦ inl ((h.each f).1 a)
          | inr b ↦ inr (elim b [ inl g ↦ inl g | inr c ↦ inr (elim c [ inl t ↦ inl (back t) | inr t ↦ inr (makes_back t) ]) ])
        ]),
      );
}

pub nothing_stands : StandsFor [] []
unfolding IsTold
nothing_stands = record { each = λ f. (λ h. h, λ h. h) }
