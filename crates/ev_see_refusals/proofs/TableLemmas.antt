-- Tables of the last lines about things.
use Rattle.std.proofs.Common.{◌≡◌, ◌<◌, ◌+◌, ◌++◌, append_assoc, append-nil, take, get_or, ℕ, Bool, true, false, cond, List, [], ◌∷◌, length, slice_get, Option, Some, None, refl, sym, ap, subst, ◌∙◌}
use Rattle.std.proofs.lemmas.List.{take_more}
use Rattle.std.specs.Prelude.{is_some, if◌then◌else◌, option_map}
use denote.Ref.{Bor}
use Rattle.def_event.specs.declared.shown.Shown.{Shown}
use Rattle.def_event.specs.declared.event.Event.{Event}
use Rattle.def_event.specs.Uses.{Line}
use Rattle.def_why.specs.declared.mark.Mark.{Mark}
use Rattle.def_why.specs.contracts.mark.MarkPartialEq.TheImpl.{eq-value}
use Rattle.def_why.specs.Marks.{all_handed, handed, has_mark, last_about, marks}
use Rattle.ev_see_refusals.specs.Table.{Puts, Stands, Table, event_at, last_in, place_in}

pub some_mapped : (o : Option (Bor Event)) (p : Option Event) → option_map (λ e. e.now) o ≡ p → is_some o ≡ is_some p
some_mapped None p h = ap is_some h
some_mapped (Some e) p h = ap is_some h

-- ---- what is put

pub puts_none : (i : ℕ) (table : Table) → Puts [] i table table
puts_none i table = record { each = λ m. refl }

one : (b : Bool) (i : ℕ) (was : Option ℕ) → cond b (Some i) was ≡ cond (if b then true else false) (Some i) was
one true i was = refl
one false i was = refl

pub puts_one : (k : Mark) (i : ℕ) (old new : Table) → ((m : Mark) → place_in new m ≡ cond (eq-value.it k m) (Some i) (place_in old m)) → Puts (k ∷ []) i old new
puts_one k i old new put = record { each = λ m. put m ∙ one (eq-value.it k m) i (place_in old m) }

either : (b c d : Bool) (i : ℕ) (was : Option ℕ) → (if b then true else c) ≡ d → cond c (Some i) (cond b (Some i) was) ≡ cond d (Some i) was
either true true d i was e = ap (λ x. cond x (Some i) was) e
either true false d i was e = ap (λ x. cond x (Some i) was) e
either false true d i was e = ap (λ x. cond x (Some i) was) e
either false false d i was e = ap (λ x. cond x (Some i) was) e

one_is : (b : Bool) (i : ℕ) (was : Option ℕ) → cond (if b then true else false) (Some i) was ≡ cond b (Some i) was
one_is true i was = refl
one_is false i was = refl

pub puts_both : (k : Mark) (ms : List Mark) (i : ℕ) (old middle new : Table) → Puts (k ∷ []) i old middle → Puts ms i middle new → Puts (k ∷ ms) i old new
puts_both k ms i old middle new first others = record {
  each = λ m.
      others.each m ∙ ap (λ o. cond (has_mark ms m) (Some i) o) (first.each m ∙ one_is (eq-value.it k m) i (place_in old m))
      ∙ either (eq-value.it k m) (has_mark ms m) (has_mark (k ∷ ms) m) i (place_in old m) refl;
}

more_by : (b c d e : Bool) → c ≡ (if d then true else e) → (if b then true else c) ≡ (if (if b then true else d) then true else e)
more_by true c d e h = refl
more_by false c d e h = h

has_more : (ms ns : List Mark) (m : Mark) → has_mark (ms ++ ns) m ≡ (if has_mark ms m then true else has_mark ns m)
has_more [] ns m = refl
has_more (k ∷ ms) ns m = more_by (eq-value.it k m) (has_mark (ms ++ ns) m) (has_mark ms m) (has_mark ns m) (has_more ms ns m)

pub puts_more : (ms ns : List Mark) (i : ℕ) (old middle new : Table) → Puts ms i old middle → Puts ns i middle new → Puts (ms ++ ns) i old new
puts_more ms ns i old middle new first others = record {
  each = λ m.
      others.each m ∙ ap (λ o. cond (has_mark ns m) (Some i) o) (first.each m)
      ∙ either (has_mark ms m) (has_mark ns m) (has_mark (ms ++ ns) m) i (place_in old m) (sym (has_more ms ns m));
}

-- ---- what stands

pub none_stand : (es : List Event) (table : Table) → table ≡ [] → Stands table es []
unfolding place_in
none_stand es table none = record { each = λ m. ap (λ (t : Table). last_in t es m) none }

-- a line more
stands_by : (es : List Event) (e : Event) (i : ℕ) (b : Bool) (was : Option ℕ) (before : Option Event) → slice_get es i ≡ Some e → event_at es was ≡ before
    → event_at es (cond b (Some i) was) ≡ (if b then Some e else before)
stands_by es e i true was before get stood = get
stands_by es e i false was before get stood = stood

pub stands_more : (es : List Event) (i at : ℕ) (e : Event) (past : List Line) (old new : Table) → slice_get es i ≡ Some e → Puts (marks at e) i old new → Stands old es past
    → Stands new es (record { at = at; event = e } ∷ past)
stands_more es i at e past old new get put stood = record {
  each = λ m. ap (event_at es) (put.each m) ∙ stands_by es e i (has_mark (marks at e) m) (place_in old m) (last_about past m) get (stood.each m);
}

-- ---- what values hand on

all_more : (at : ℕ) (xs ys : List Shown) → all_handed at (xs ++ ys) ≡ all_handed at xs ++ all_handed at ys
all_more at [] ys = refl
all_more at (x ∷ xs) ys = ap (λ (ms : List Mark). handed at x ++ ms) (all_more at xs ys) ∙ sym (append_assoc (handed at x) (all_handed at xs) (all_handed at ys))

pub puts_next : (at : ℕ) (xs : List Shown) (n : ℕ) (x : Shown) (i : ℕ) (old middle new : Table) → n < length xs → x ≡ get_or xs n x → Puts (all_handed at (take n xs)) i old middle → Puts (handed at x) i middle new
    → Puts (all_handed at (take (n + 1) xs)) i old new
puts_next at xs n x i old middle new less is first other =
    let taken : take (n + 1) xs ≡ take n xs ++ x ∷ [] = take_more xs n x less ∙ ap (λ y. take n xs ++ y ∷ []) (sym is) in
    let all : all_handed at (take n xs) ++ handed at x ≡ all_handed at (take (n + 1) xs) =
    sym (ap (all_handed at) taken ∙ all_more at (take n xs) (x ∷ []) ∙ ap (λ (ms : List Mark). all_handed at (take n xs) ++ ms) (append-nil (handed at x))) in
    subst (λ (ms : List Mark). Puts ms i old new) all (puts_more (all_handed at (take n xs)) (handed at x) i old middle new first other)
