-- A search along links finds what is reached.
use Rattle.std.proofs.Common.{◌≡◌, ℕ, zero, suc, ◌+◌, ◌≤◌, arith, Bool, true, false, cond, List, [], ◌∷◌, ◌++◌, length, take, slice_get, Some, refl, sym, ap, subst, ◌∙◌, inl, inr, rules}
use Rattle.std.specs.Prelude.{◌⊎◌, ◌↔◌, IsTrue, if◌then◌else◌, unwrap_or, Option}
use Rattle.std.specs.Map.{lookup}
use Rattle.std.specs.List.{list_any}
use Rattle.std.proofs.Common.{append_assoc}
use Rattle.std.proofs.lemmas.List.{append-nil}
use Rattle.def_event.specs.Uses.{IsAmong}
use Rattle.ev_links.specs.declared.label.Label.{Label}
use Rattle.ev_links.specs.declared.links.Link.{Link}
use Rattle.ev_links.specs.declared.links.Scope.{Scope}
use Rattle.ev_links.specs.contracts.label.LabelPartialEq.TheImpl.{eq-value}
use Rattle.ev_links.specs.Links.{row, no_links, Adds, is_open, with_label, with_others, IsReached, start, onward, AreReached}
use Rattle.ev_links.proofs.Among.{IsExact, among_left, among_cases, among_push, inserted}

label_is : (a b : Label) → IsTrue (eq-value.it a b) ↔ (a ≡ b)
label_is a b = search rules

pub exact_label : IsExact eq-value.it
exact_label = record { same = λ a b h. (label_is a b).0 h; itself = λ a. (label_is a a).1 refl }

-- ---- one more link

module _ (k : Label) (link : Link) (old mid new : List (Label × List Link)) (links : List Link) where
  added_if : (b : Bool) (j : Label) (l : Link) → eq-value.it k j ≡ b → row new j ≡ cond b links (row mid j) → row mid j ≡ cond b [] (row old j) → links ≡ row old k ++ link ∷ []
      → IsAmong l (row new j) ↔ (IsAmong l (row old j) ⊎ ((k ≡ j) × (link ≡ l)))
  added_if true j l e now gone is =
      let here : k ≡ j = exact_label.same k j e in
      let all : row new j ≡ row old j ++ link ∷ [] = now ∙ is ∙ ap (λ (i : Label). row old i ++ link ∷ []) here in
      let both = among_push l link (row old j) in (
        λ h. elim (both.0 (subst (IsAmong l) all h)) [ inl a ↦ inl a | inr i ↦ inr (here, i) ],
        λ h. subst (IsAmong l) (sym all) (both.1 (elim h [ inl a ↦ inl a | inr i ↦ inr i.1 ])),
      )
  added_if false j l e now gone is =
      let same : row new j ≡ row old j = now ∙ gone in (
        λ h. inl (subst (IsAmong l) same h),
        λ h. elim h [ inl a ↦ subst (IsAmong l) (sym same) a | inr i ↦ absurd (let yes : eq-value.it k j ≡ true = subst (λ x. eq-value.it k x ≡ true) i.0 (exact_label.itself k) in cc) ],
      )

updated_if : (b : Bool) (o p : Option (List Link)) (links : List Link) → o ≡ cond b (Some links) p → unwrap_or o [] ≡ cond b links (unwrap_or p [])
updated_if true o p links h = ap (λ (q : Option (List Link)). unwrap_or q []) h
updated_if false o p links h = ap (λ (q : Option (List Link)). unwrap_or q []) h

row_updated : (k j : Label) (mid new : List (Label × List Link)) (links : List Link)
    → lookup (eq-value.it j) new ≡ cond (eq-value.it k j) (Some links) (lookup (eq-value.it j) mid) → row new j ≡ cond (eq-value.it k j) links (row mid j)
unfolding row
row_updated k j mid new links h = updated_if (eq-value.it k j) (lookup (eq-value.it j) new) (lookup (eq-value.it j) mid) links h

pub added : (k : Label) (link : Link) (old mid new : List (Label × List Link)) (links : List Link) → no_links k old mid
    → ((j : Label) → lookup (eq-value.it j) new ≡ cond (eq-value.it k j) (Some links) (lookup (eq-value.it j) mid)) → links ≡ row old k ++ link ∷ [] → Adds k link old new
added k link old mid new links none put is j l =
    added_if k link old mid new links (eq-value.it k j) j l refl (row_updated k j mid new links (put j)) (none j) is

-- ---- more labels

pub among_label : (t l : Label) (ls : List Label) → IsAmong t (with_label ls l) ↔ (IsAmong t ls ⊎ (l ≡ t))
unfolding with_label
among_label t l ls = inserted eq-value.it exact_label t l ls

more_if : (b : Bool) (ls : List Label) (l : Label) → (more : List Label) × ((if b then ls else ls ++ l ∷ []) ≡ ls ++ more)
more_if true ls l = ([], sym (append-nil ls))
more_if false ls l = (l ∷ [], refl)

label_more : (ls : List Label) (l : Label) → (more : List Label) × (with_label ls l ≡ ls ++ more)
unfolding with_label
label_more ls l = more_if (list_any (eq-value.it l) ls) ls l

-- what a link adds
one_more : (b : Bool) (ls : List Label) (l : Label) → (more : List Label) × ((if b then with_label ls l else ls) ≡ ls ++ more)
one_more true ls l = label_more ls l
one_more false ls l = ([], sym (append-nil ls))

others_more : (scope : Scope) (ls : List Label) (ks : List Link) → (more : List Label) × (with_others scope ls ks ≡ ls ++ more)
others_more scope ls [] = ([], sym (append-nil ls))
others_more scope ls (k ∷ ks) =
    let first = one_more (is_open scope k.way) ls k.other in
    let rest = others_more scope (if is_open scope k.way then with_label ls k.other else ls) ks in
    (first.0 ++ rest.0, rest.1 ∙ ap (λ (xs : List Label). xs ++ rest.0) first.1 ∙ append_assoc ls first.0 rest.0)

-- a link among these leads there by a way of the scope
abbrev Leads : Scope → List Link → Label → Type 0
Leads scope ks t = (k : Link) × IsAmong k ks × (is_open scope k.way ≡ true) × (k.other ≡ t)

one_if : (b : Bool) (t l : Label) (ls : List Label) → IsAmong t (if b then with_label ls l else ls) → IsAmong t ls ⊎ ((b ≡ true) × (l ≡ t))
one_if true t l ls h = elim ((among_label t l ls).0 h) [ inl a ↦ inl a | inr e ↦ inr (refl, e) ]
one_if false t l ls h = inl h

one_there : (b : Bool) (l : Label) (ls : List Label) → b ≡ true → IsAmong l (if b then with_label ls l else ls)
one_there true l ls h = (among_label l l ls).1 (inr refl)
one_there false l ls h = absurd cc

others_from : (scope : Scope) (t : Label) (ls : List Label) (ks : List Link) → IsAmong t (with_others scope ls ks) → IsAmong t ls ⊎ Leads scope ks t
others_from scope t ls [] h = inl h
others_from scope t ls (k ∷ ks) h =
    elim (others_from scope t (if is_open scope k.way then with_label ls k.other else ls) ks h) [
      | inl a ↦ elim (one_if (is_open scope k.way) t k.other ls a) [ inl b ↦ inl b | inr e ↦ inr (k, inl refl, e.0, e.1) ]
      | inr d ↦ inr (d.0, inr d.1, d.2, d.3)
    ]

others_keep : (scope : Scope) (t : Label) (ls : List Label) (ks : List Link) → IsAmong t ls → IsAmong t (with_others scope ls ks)
others_keep scope t ls ks h = let m = others_more scope ls ks in subst (IsAmong t) (sym m.1) (among_left t ls m.0 h)

others_there : (scope : Scope) (ls : List Label) (ks : List Link) (k : Link) → IsAmong k ks → is_open scope k.way ≡ true → IsAmong k.other (with_others scope ls ks)
others_there scope ls [] k h o = absurd h
others_there scope ls (j ∷ ks) k (inl e) o =
    others_keep scope k.other (if is_open scope j.way then with_label ls j.other else ls) ks
    (subst (λ (x : Link). IsAmong x.other (if is_open scope j.way then with_label ls j.other else ls)) e
    (one_there (is_open scope j.way) j.other ls (subst (λ (x : Link). is_open scope x.way ≡ true) (sym e) o)))
others_there scope ls (j ∷ ks) k (inr h) o = others_there scope (if is_open scope j.way then with_label ls j.other else ls) ks k h o

-- ---- the search

-- what is there is reached, what was there at first is there, and so is what those before the index lead to
pub record Searching (rows : List (Label × List Link)) (scope : Scope) (starts seen : List Label) (index : ℕ) : Type 0 where
  pub sound : (t : Label) → IsAmong t seen → IsReached rows scope starts t
  pub begun : (t : Label) → IsAmong t starts → IsAmong t seen
  pub closed : (t : Label) (k : Link) → IsAmong t (take index seen) → IsAmong k (row rows t) → is_open scope k.way ≡ true → IsAmong k.other seen

pub searching_init : (rows : List (Label × List Link)) (scope : Scope) (ls : List Label) → Searching rows scope ls ls 0
searching_init rows scope ls = record { sound = λ t h. start h; begun = λ t h. h; closed = λ t k h i o. absurd h }

take_more : {A : Type 0} (ls more : List A) (i : ℕ) (s : A) → slice_get ls i ≡ Some s → take (suc i) (ls ++ more) ≡ take i ls ++ s ∷ []
take_more [] more i s e = absurd cc
take_more (x ∷ ls) more zero s e = let same : x ≡ s = cc in ap (λ y. y ∷ []) same
take_more (x ∷ ls) more (suc i) s e = ap (λ ys. x ∷ ys) (take_more ls more i s e)

pub among_at : {A : Type 0} (ls : List A) (i : ℕ) (s : A) → slice_get ls i ≡ Some s → IsAmong s ls
among_at [] i s e = absurd cc
among_at (x ∷ ls) zero s e = let same : x ≡ s = cc in inl same
among_at (x ∷ ls) (suc i) s e = inr (among_at ls i s e)

-- one more was gone on from
pub taken_more : (scope : Scope) (seen new : List Label) (ks : List Link) (i : ℕ) (s : Label) → slice_get seen i ≡ Some s → new ≡ with_others scope seen ks → take (i + 1) new ≡ take i seen ++ s ∷ []
taken_more scope seen new ks i s at is =
    let next : suc i ≡ i + 1 = omega arith in
    let m = others_more scope seen ks in
    ap (λ (n : ℕ). take n new) (sym next) ∙ ap (take (suc i)) (is ∙ m.1) ∙ take_more seen m.0 i s at

pub searching_step : (rows : List (Label × List Link)) (scope : Scope) (starts seen new : List Label) (i : ℕ) (s : Label)
    → Searching rows scope starts seen i → slice_get seen i ≡ Some s → new ≡ with_others scope seen (row rows s) → Searching rows scope starts new (i + 1)
searching_step rows scope starts seen new i s h at is =
    let done = taken_more scope seen new (row rows s) i s at is in
    let kept = λ (t : Label) (a : IsAmong t seen). subst (IsAmong t) (sym is) (others_keep scope t seen (row rows s) a) in
    record {
      sound = λ t a. elim (others_from scope t seen (row rows s) (subst (IsAmong t) is a)) [
        | inl b ↦ h.sound t b
        | inr d ↦ subst (IsReached rows scope starts) d.3 (onward s d.0 d.1 d.2 (h.sound s (among_at seen i s at)))
      ];
      begun = λ t a. kept t (h.begun t a);
      closed = λ t k a b o. elim (among_cases t (take i seen) (s ∷ []) (subst (IsAmong t) done a)) [
        | inl c ↦ kept k.other (h.closed t k c b o)
        | inr c ↦ elim c [
          | inl e ↦ subst (IsAmong k.other) (sym is) (others_there scope seen (row rows s) k (subst (λ (x : Label). IsAmong k (row rows x)) (sym e) b) o)
          | inr n ↦ absurd n
        ]
      ];
    }

pub take_all : {A : Type 0} (ls : List A) (i : ℕ) → length ls ≤ i → take i ls ≡ ls
take_all [] zero h = refl
take_all [] (suc i) h = refl
take_all (x ∷ ls) zero h = absurd (omega arith)
take_all (x ∷ ls) (suc i) h = ap (λ ys. x ∷ ys) (take_all ls i (omega arith))

reached_there : (rows : List (Label × List Link)) (scope : Scope) (starts seen : List Label) (i : ℕ) (t : Label) → Searching rows scope starts seen i → take i seen ≡ seen → IsReached rows scope starts t → IsAmong t seen
reached_there rows scope starts seen i t h all (start a) = h.begun t a
reached_there rows scope starts seen i t h all (onward l k a o r) = h.closed l k (subst (IsAmong l) (sym all) (reached_there rows scope starts seen i l h all r)) a o

pub searching_done : (rows : List (Label × List Link)) (scope : Scope) (starts seen : List Label) (i : ℕ) → Searching rows scope starts seen i → length seen ≤ i → AreReached rows scope starts seen
searching_done rows scope starts seen i h le t = (h.sound t, reached_there rows scope starts seen i t h (take_all seen i le))
