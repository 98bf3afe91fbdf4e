-- What of a room for weight is left beside descriptions.
use Rattle.std.proofs.Common.{◌≡◌, ◌≢◌, ℕ, ◌+◌, ◌-◌, ◌<◌, ◌≤◌, ◌↔◌, Bool, true, false, IsTrue, List, ◌∷◌, Vec, Global, drop, length, get_or, Option, Some, None, max, refl, sym, ap, subst, ◌∙◌, arith}
use Rattle.std.proofs.lemmas.List.{drop_all, drop_more}
use Rattle.std.specs.Prelude.{is_some}
use Rattle.def_op.specs.Frames.{AreDescs, DescFits, Described, Datum, ListOf, Broken, YourExport, YourAnswer, MyExport, MyPromise, Third, MyAnswer, IsDesc, Members, MembersFit, WithinLimits, none, more, height, heights, weight, weights}
use Rattle.def_op.specs.Views.{all_described, described, described_step}
use Rattle.def_op.specs.declared.op.Desc.{Desc}
use Rattle.def_op.specs.declared.op.Desc.TheOpen.{Desc-F}
use Rattle.def_op.specs.declared.op.Desc.TheViews.{roll-Desc}
use Rattle.def_op.specs.declared.op.Desc.TheFolds.{fold-roll-Desc, ind-Desc}
use Rattle.def_op.specs.declared.op.Desc.TheVariants.{rolls-ListOf}
use Rattle.def_op.specs.declared.op.Desc.TheVariants as desc
use Rattle.ev_vat.specs.Fitting.{Beside, OwnFits, Within, own_weight}

-- ---- a description without the members of a list

own_of : (x : Described) → DescFits x → OwnFits x
unfolding DescFits OwnFits
own_of (Datum p) f = f
own_of (ListOf ds) f = tt
own_of (Broken t) f = f
own_of (YourExport n) f = f
own_of (YourAnswer n) f = f
own_of (MyExport n) f = f
own_of (MyPromise n) f = f
own_of (Third v s) f = f
own_of (MyAnswer n) f = f

own_least : (x : Described) → own_weight x ≤ weight x
unfolding weight own_weight
own_least (Datum p) = omega arith
own_least (ListOf ds) = omega arith
own_least (Broken t) = omega arith
own_least (YourExport n) = omega arith
own_least (YourAnswer n) = omega arith
own_least (MyExport n) = omega arith
own_least (MyPromise n) = omega arith
own_least (Third v s) = omega arith
own_least (MyAnswer n) = omega arith

pub not_fit : (h room : ℕ) (x : Described) (b : Bool) → b ≡ false → (OwnFits x → IsTrue b) → Beside h room x None
not_fit h room x true e fits = absurd cc
not_fit h room x false e fits = λ p le. let f = fits (own_of x p.0) in absurd cc

pub no_room : (h room : ℕ) (x : Described) (o : Option ℕ) → o ≡ None → (own_weight x ≤ room → ⊥) → Beside h room x o
no_room h room x None e denied = λ p le. denied (omega (arith, own_least x, le))
no_room h room x (Some n) e denied = absurd cc

-- whether it is a list
abbrev is_list : Described → Bool
is_list (ListOf ds) = true
is_list d = false

no_layer : (x : Desc-F Desc) → ((v : Vec Desc Global) → roll-Desc x ≢ desc.ListOf v) → is_list (described (roll-Desc x)) ≡ false
no_layer (Desc-F.ListOf v) other = absurd (other v (rolls-ListOf v))
no_layer (Desc-F.Plain p) other = ap is_list (fold-roll-Desc Described described_step (Desc-F.Plain p))
no_layer (Desc-F.Broken t) other = ap is_list (fold-roll-Desc Described described_step (Desc-F.Broken t))
no_layer (Desc-F.YourExport n) other = ap is_list (fold-roll-Desc Described described_step (Desc-F.YourExport n))
no_layer (Desc-F.YourAnswer n) other = ap is_list (fold-roll-Desc Described described_step (Desc-F.YourAnswer n))
no_layer (Desc-F.MyExport n) other = ap is_list (fold-roll-Desc Described described_step (Desc-F.MyExport n))
no_layer (Desc-F.MyPromise n) other = ap is_list (fold-roll-Desc Described described_step (Desc-F.MyPromise n))
no_layer (Desc-F.Third v s) other = ap is_list (fold-roll-Desc Described described_step (Desc-F.Third v s))
no_layer (Desc-F.MyAnswer n) other = ap is_list (fold-roll-Desc Described described_step (Desc-F.MyAnswer n))

no_list : (d : Desc) → ((v : Vec Desc Global) → d ≢ desc.ListOf v) → is_list (described d) ≡ false
no_list = ind-Desc (λ (d : Desc). ((v : Vec Desc Global) → d ≢ desc.ListOf v) → is_list (described d) ≡ false) (λ x y is. no_layer x)

-- what is no list is done
leaf_done : (h room left : ℕ) (x : Described) → is_list x ≡ false → OwnFits x → own_weight x + left ≡ room → Beside h room x (Some left)
unfolding OwnFits own_weight height
leaf_done h room left (ListOf ds) no_list f e = absurd cc
leaf_done h room left (Datum p) no_list f e = ((f, omega arith), e)
leaf_done h room left (Broken t) no_list f e = ((f, omega arith), e)
leaf_done h room left (YourExport n) no_list f e = ((f, omega arith), e)
leaf_done h room left (YourAnswer n) no_list f e = ((f, omega arith), e)
leaf_done h room left (MyExport n) no_list f e = ((f, omega arith), e)
leaf_done h room left (MyPromise n) no_list f e = ((f, omega arith), e)
leaf_done h room left (Third v s) no_list f e = ((f, omega arith), e)
leaf_done h room left (MyAnswer n) no_list f e = ((f, omega arith), e)

pub leaf_left : (h room left : ℕ) (d : Desc) → ((v : Vec Desc Global) → d ≢ desc.ListOf v) → OwnFits (described d) → own_weight (described d) + left ≡ room → Beside h room (described d) (Some left)
leaf_left h room left d other f e = leaf_done h room left (described d) (no_list d other) f e

pub described_list : (d : Desc) (v : Vec Desc Global) → d ≡ desc.ListOf v → described d ≡ ListOf (all_described v.items)
described_list d v e = ap described (e ∙ sym (rolls-ListOf v)) ∙ fold-roll-Desc Described described_step (Desc-F.ListOf v)

-- ---- lists

-- beside descriptions one after the other, all less high than that
abbrev pub Inside : ℕ → ℕ → Members → Option ℕ → Type 0
Inside h room ds o = Within (MembersFit ds × (heights ds < h)) (weights ds) room o

list_inside : (h room left : ℕ) (ds : Members) (o : Option ℕ) → 1 + left ≡ room → Inside h left ds o → Beside h room (ListOf ds) o
unfolding DescFits weight height
list_inside h room left ds (Some n) e is = ((is.0.0, omega (arith, is.0.1)), omega (arith, e, is.1))
list_inside h room left ds None e is = λ p le. is (p.0, omega (arith, p.1)) (omega (arith, e, le))

pub all_done : (h room : ℕ) → 0 < h → Inside h room none (Some room)
unfolding MembersFit weights heights
all_done h room some = ((tt, some), omega arith)

both_below : (a b h : ℕ) → a ≤ h - 1 → b < h → max a b < h
both_below a b h le lt = grind arith

first_below : (a b h : ℕ) → max a b < h → a ≤ h - 1
first_below a b h lt = grind arith

rest_below : (a b h : ℕ) → max a b < h → b < h
rest_below a b h lt = grind arith

pub first_left : (h room left : ℕ) (d : Described) (ds : Members) (o : Option ℕ) → Beside (h - 1) room d (Some left) → Inside h left ds o → Inside h room (more d ds) o
unfolding MembersFit weights heights
first_left h room left d ds (Some n) is rest = (((is.0.0, rest.0.0), both_below (height d) (heights ds) h is.0.1 rest.0.1), omega (arith, is.1, rest.1))
first_left h room left d ds None is rest = λ p le. rest (p.0.1, rest_below (height d) (heights ds) h p.1) (omega (arith, is.1, le))

pub first_not : (h room : ℕ) (d : Described) (ds : Members) → Beside (h - 1) room d None → Inside h room (more d ds) None
unfolding MembersFit weights heights
first_not h room d ds not = λ p le. not (p.0.0, first_below (height d) (heights ds) h p.1) (omega (arith, le))

list_own : (ds : Members) → own_weight (ListOf ds) ≡ 1
unfolding own_weight
list_own ds = refl

pub list_left : (h room left : ℕ) (d : Desc) (v : Vec Desc Global) (o : Option ℕ) → d ≡ desc.ListOf v → own_weight (described d) + left ≡ room → Inside h left (all_described v.items) o → Beside h room (described d) o
list_left h room left d v o e own is =
    let f = described_list d v e in
    let one = list_own (all_described v.items) in
    let k = ap own_weight f in
    subst (λ (x : Described). Beside h room x o) (sym f) (list_inside h room left (all_described v.items) o (omega (arith, own, one, k)) is)

-- the rest of a list leads to the whole
abbrev pub LeadsTo : ℕ → ℕ → ℕ → Members → Members → Type 0
LeadsTo h left room rest all = (o : Option ℕ) → Inside h left rest o → Inside h room all o

here : (ds : List Desc) (i : ℕ) (d : Desc) → i < length ds → d ≡ get_or ds i d → drop i ds ≡ d ∷ drop (i + 1) ds
here ds i d lt at = drop_more ds i d lt ∙ ap (λ (x : Desc). x ∷ drop (i + 1) ds) (sym at)

pub leads_on : (h left next room i : ℕ) (ds : List Desc) (d : Desc) → i < length ds → d ≡ get_or ds i d → Beside (h - 1) left (described d) (Some next)
    → LeadsTo h left room (all_described (drop i ds)) (all_described ds) → LeadsTo h next room (all_described (drop (i + 1) ds)) (all_described ds)
leads_on h left next room i ds d lt at is leads = λ o rest.
    leads o (subst (λ (xs : List Desc). Inside h left (all_described xs) o) (sym (here ds i d lt at)) (first_left h left next (described d) (all_described (drop (i + 1) ds)) o is rest))

pub leads_not : (h left room i : ℕ) (ds : List Desc) (d : Desc) (o : Option ℕ) → o ≡ None → i < length ds → d ≡ get_or ds i d → Beside (h - 1) left (described d) None
    → LeadsTo h left room (all_described (drop i ds)) (all_described ds) → Inside h room (all_described ds) o
leads_not h left room i ds d None e lt at is leads =
    leads None (subst (λ (xs : List Desc). Inside h left (all_described xs) None) (sym (here ds i d lt at)) (first_not h left (described d) (all_described (drop (i + 1) ds)) is))
leads_not h left room i ds d (Some n) e lt at is leads = absurd cc

pub leads_done : (h left room i : ℕ) (ds : List Desc) → 0 < h → length ds ≤ i → LeadsTo h left room (all_described (drop i ds)) (all_described ds) → Inside h room (all_described ds) (Some left)
leads_done h left room i ds some le leads = leads (Some left) (subst (λ (xs : List Desc). Inside h left (all_described xs) (Some left)) (sym (drop_all i ds le)) (all_done h left some))

-- ---- descriptions round which no list stands

list_alone : (ds : Members) (o : Option ℕ) → Beside 100 65536 (ListOf ds) o → IsTrue (is_some o) ↔ IsDesc (ListOf ds)
unfolding WithinLimits
list_alone ds (Some n) is = (λ e. (is.0.0, (omega (arith, is.1), is.0.1)), λ d. refl)
list_alone ds None is = (λ e. absurd cc, λ d. absurd (is (d.0, d.1.1) d.1.0))

pub list_is : (d : Desc) (v : Vec Desc Global) (o : Option ℕ) → d ≡ desc.ListOf v → Beside 100 65536 (described d) o → IsTrue (is_some o) ↔ IsDesc (described d)
list_is d v o e is =
    let f = described_list d v e in
    subst (λ (x : Described). IsTrue (is_some o) ↔ IsDesc x) (sym f) (list_alone (all_described v.items) o (subst (λ (x : Described). Beside 100 65536 x o) f is))

leaf_alone : (x : Described) (b : Bool) → is_list x ≡ false → (IsTrue b ↔ OwnFits x) → IsTrue b ↔ IsDesc x
unfolding OwnFits WithinLimits
leaf_alone (ListOf ds) b no_list is = absurd cc
leaf_alone (Datum p) b no_list is = (λ e. (is.0 e, tt), λ d. is.1 d.0)
leaf_alone (Broken t) b no_list is = (λ e. (is.0 e, tt), λ d. is.1 d.0)
leaf_alone (YourExport n) b no_list is = (λ e. (is.0 e, tt), λ d. is.1 d.0)
leaf_alone (YourAnswer n) b no_list is = (λ e. (is.0 e, tt), λ d. is.1 d.0)
leaf_alone (MyExport n) b no_list is = (λ e. (is.0 e, tt), λ d. is.1 d.0)
leaf_alone (MyPromise n) b no_list is = (λ e. (is.0 e, tt), λ d. is.1 d.0)
leaf_alone (Third v s) b no_list is = (λ e. (is.0 e, tt), λ d. is.1 d.0)
leaf_alone (MyAnswer n) b no_list is = (λ e. (is.0 e, tt), λ d. is.1 d.0)

pub leaf_is : (d : Desc) (b : Bool) → ((v : Vec Desc Global) → d ≢ desc.ListOf v) → (IsTrue b ↔ OwnFits (described d)) → IsTrue b ↔ IsDesc (described d)
leaf_is d b other is = leaf_alone (described d) b (no_list d other) is

pub each_on : (ds : List Desc) (i : ℕ) (d : Desc) → i < length ds → d ≡ get_or ds i d → IsDesc (described d) → (AreDescs (all_described (drop i ds)) ↔ AreDescs (all_described ds)) → AreDescs (all_described (drop (i + 1) ds)) ↔ AreDescs (all_described ds)
unfolding AreDescs
each_on ds i d lt at is all =
    let e = here ds i d lt at in (
      λ rest. all.0 (subst (λ (xs : List Desc). AreDescs (all_described xs)) (sym e) (is, rest)),
      λ whole. (subst (λ (xs : List Desc). AreDescs (all_described xs)) e (all.1 whole)).1,
    )

pub each_not : (ds : List Desc) (i : ℕ) (d : Desc) → i < length ds → d ≡ get_or ds i d → (IsDesc (described d) → ⊥) → (AreDescs (all_described ds) → AreDescs (all_described (drop i ds))) → AreDescs (all_described ds) → ⊥
unfolding AreDescs
each_not ds i d lt at denied all whole = denied (subst (λ (xs : List Desc). AreDescs (all_described xs)) (here ds i d lt at) (all whole)).0

pub each_done : (ds : List Desc) (i : ℕ) → length ds ≤ i → (AreDescs (all_described (drop i ds)) → AreDescs (all_described ds)) → AreDescs (all_described ds)
unfolding AreDescs
each_done ds i le all = all (subst (λ (xs : List Desc). AreDescs (all_described xs)) (sym (drop_all i ds le)) tt)
