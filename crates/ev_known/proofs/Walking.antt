-- A walk along names ends at the object, or comes to an end or back where there is none.
use Rattle.std.proofs.Common.{◌≡◌, ℕ, ◌+◌, Bool, true, false, List, [], ◌∷◌, ◌++◌, length, Option, Some, None, refl, sym, ap, subst, ◌∙◌, inl, inr, length-append}
use Rattle.std.specs.Prelude.{◌⊎◌, if◌then◌else◌}
use Rattle.std.specs.List.{list_any}
use Rattle.def_event.specs.Uses.{IsAmong}
use Rattle.ev_links.specs.declared.label.Label.{Label}
use Rattle.ev_links.specs.contracts.label.LabelPartialEq.TheImpl.{eq-value}
use Rattle.ev_links.specs.Links.{has_label, with_label}
use Rattle.ev_known.specs.Following.{Table, is_object_label, next_of, Follows, there, further, Strides, StridesTo, one, more}
use Rattle.ev_links.proofs.Among.{any_among}
use Rattle.ev_links.proofs.Spreading.{exact_label, among_label}

-- what the first name leads to is what the current one leads to, and those that were seen lead on to the current one
pub record Walking (settled viewed : Table) (at : ℕ) (name : Label) (seen : List Label) (current : Label) : Type 0 where
  pub onward : (o : Label) → Follows settled viewed at name o → Follows settled viewed at current o
  pub back : (o : Label) → Follows settled viewed at current o → Follows settled viewed at name o
  pub led : (x : Label) → IsAmong x seen → Strides settled viewed at x current

pub walking_init : (settled viewed : Table) (at : ℕ) (name : Label) → Walking settled viewed at name [] name
walking_init settled viewed at name = record { onward = λ o h. h; back = λ o h. h; led = λ x h. absurd h }

some_same : {A : Type 0} (x y : A) (o : Option A) → o ≡ Some x → o ≡ Some y → x ≡ y
some_same x y o e f = let both : Some x ≡ Some y = sym e ∙ f in cc

onward_one : (settled viewed : Table) (at : ℕ) (l m o : Label) → is_object_label l ≡ false → next_of settled viewed at l ≡ Some m → Follows settled viewed at l o → Follows settled viewed at m o
onward_one settled viewed at l m o other e (there is_one) = absurd cc
onward_one settled viewed at l m o other e (further k other' f r) = subst (λ (x : Label). Follows settled viewed at x o) (some_same k m (next_of settled viewed at l) f e) r

-- ---- strides

pub next_strides : (settled viewed : Table) (at : ℕ) (l : Label) (o : Option Label) → next_of settled viewed at l ≡ o → is_object_label l ≡ false → StridesTo settled viewed at l o
next_strides settled viewed at l None e other = e
next_strides settled viewed at l (Some m) e other = one other e

stride_onward : (settled viewed : Table) (at : ℕ) (l m o : Label) → Strides settled viewed at l m → Follows settled viewed at l o → Follows settled viewed at m o
stride_onward settled viewed at l m o (one other e) f = onward_one settled viewed at l m o other e f
stride_onward settled viewed at l m o (more k other e r) f = stride_onward settled viewed at k m o r (onward_one settled viewed at l k o other e f)

stride_back : (settled viewed : Table) (at : ℕ) (l m o : Label) → Strides settled viewed at l m → Follows settled viewed at m o → Follows settled viewed at l o
stride_back settled viewed at l m o (one other e) f = further m other e f
stride_back settled viewed at l m o (more k other e r) f = further k other e (stride_back settled viewed at k m o r f)

strides_join : (settled viewed : Table) (at : ℕ) (l m o : Label) → Strides settled viewed at l m → Strides settled viewed at m o → Strides settled viewed at l o
strides_join settled viewed at l m o (one other e) r = more m other e r
strides_join settled viewed at l m o (more k other e q) r = more k other e (strides_join settled viewed at k m o q r)

-- what leads back leads to no object
no_round : (settled viewed : Table) (at : ℕ) (l o : Label) → Follows settled viewed at l o → Strides settled viewed at l l → ⊥
no_round settled viewed at l o (there is_one) (one other e) = absurd cc
no_round settled viewed at l o (there is_one) (more k other e r) = absurd cc
no_round settled viewed at l o (further m other e f) (one other' g) =
    let same : m ≡ l = some_same m l (next_of settled viewed at l) e g in
    no_round settled viewed at m o f (subst (λ (x : Label). Strides settled viewed at x x) (sym same) (one other' g))
no_round settled viewed at l o (further m other e f) (more k other' g r) =
    let same : k ≡ m = some_same k m (next_of settled viewed at l) g e in
    no_round settled viewed at m o f
    (strides_join settled viewed at m l m (subst (λ (x : Label). Strides settled viewed at x l) same r) (one other e))

pub walking_step : (settled viewed : Table) (at : ℕ) (name : Label) (seen new : List Label) (current next : Label) → Walking settled viewed at name seen current
    → new ≡ with_label seen current → Strides settled viewed at current next → Walking settled viewed at name new next
walking_step settled viewed at name seen new current next h is s = record {
  onward = λ o f. stride_onward settled viewed at current next o s (h.onward o f);
  back = λ o f. h.back o (stride_back settled viewed at current next o s f);
  led = λ x a. elim ((among_label x current seen).0 (subst (IsAmong x) is a)) [
    | inl b ↦ strides_join settled viewed at x current next (h.led x b) s
    | inr e ↦ subst (λ (y : Label). Strides settled viewed at y next) e s
  ];
}

pub walking_back : (settled viewed : Table) (at : ℕ) (name : Label) (seen : List Label) (current : Label) → Walking settled viewed at name seen current → has_label seen current ≡ true
    → (o : Label) → Follows settled viewed at name o → ⊥
unfolding has_label
walking_back settled viewed at name seen current h has o f =
    no_round settled viewed at current o (h.onward o f) (h.led current (any_among eq-value.it exact_label current seen has))

none_from : (settled viewed : Table) (at : ℕ) (l o : Label) → is_object_label l ≡ false → next_of settled viewed at l ≡ None → Follows settled viewed at l o → ⊥
none_from settled viewed at l o other e (there is_one) = absurd cc
none_from settled viewed at l o other e (further m again g r) = let both : Some m ≡ None = sym g ∙ e in absurd cc

pub walking_end : (settled viewed : Table) (at : ℕ) (name : Label) (seen : List Label) (current : Label) → Walking settled viewed at name seen current
    → is_object_label current ≡ false → next_of settled viewed at current ≡ None → (o : Label) → Follows settled viewed at name o → ⊥
walking_end settled viewed at name seen current h other e o f = none_from settled viewed at current o other e (h.onward o f)

pub walking_there : (settled viewed : Table) (at : ℕ) (name : Label) (seen : List Label) (current : Label) → Walking settled viewed at name seen current → is_object_label current ≡ true → Follows settled viewed at name current
walking_there settled viewed at name seen current h is_one = h.back current (there is_one)

longer_if : (b : Bool) (ls : List Label) (l : Label) → b ≡ false → length (if b then ls else ls ++ l ∷ []) ≡ length ls + 1
longer_if true ls l e = absurd cc
longer_if false ls l e = length-append ls (l ∷ [])

-- one more label, if it is new
pub longer : (ls : List Label) (l : Label) → has_label ls l ≡ false → length (with_label ls l) ≡ length ls + 1
unfolding has_label with_label
longer ls l e = longer_if (list_any (eq-value.it l) ls) ls l e

-- a name leads to one object
pub follows_one : (settled viewed : Table) (at : ℕ) (l o p : Label) → Follows settled viewed at l o → Follows settled viewed at l p → o ≡ p
follows_one settled viewed at l o p (there is_one) (there again) = refl
follows_one settled viewed at l o p (there is_one) (further m other g r) = absurd cc
follows_one settled viewed at l o p (further m other g r) (there is_one) = absurd cc
follows_one settled viewed at l o p (further m other g r) (further k again e q) =
    follows_one settled viewed at m o p r (subst (λ (x : Label). Follows settled viewed at x p) (some_same k m (next_of settled viewed at l) e g) q)
