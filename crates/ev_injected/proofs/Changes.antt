-- What stands at the place of a queue is what a look-up finds, and what a change changes.
use Rattle.std.proofs.Common.{◌≡◌, ℕ, zero, suc, Bool, true, false, List, [], ◌∷◌, drop, Option, Some, None, refl, sym, ap, subst, ◌∙◌}
use Rattle.std.specs.Prelude.{IfNone, slice_get, slice_set}
use Rattle.def_hostile.specs.Hostile.{Raw, is_raw, frames_at, with_frames}
use Rattle.ev_injected.specs.Lanes.{IsTaken, behind, first_in, frames_in, place, queued, rest, set_found}
use Rattle.ev_injected.proofs.Places.{behind_none, behind_some}

-- ---- a queue that is there

past_by : (b : Bool) (x : Raw) (rs : List Raw) (o : Option ℕ) (i : ℕ) → elim b [ true ↦ Some zero | false ↦ behind o ] ≡ Some i → slice_get (x ∷ rs) i ≡ None → ((j : ℕ) → o ≡ Some j → slice_get rs j ≡ None → ⊥) → ⊥
past_by true x rs o i e g h =
    let z : zero ≡ i = cc in
    let f : Some x ≡ None = subst (λ (k : ℕ). slice_get (x ∷ rs) k ≡ None) (sym z) g in cc
past_by false x rs o i e g h =
    let p = behind_some o i e in
    h p.0 p.1.1 (subst (λ (k : ℕ). slice_get (x ∷ rs) k ≡ None) p.1.0 g)

-- a place is one of a queue
past : (v w : ℕ) (rs : List Raw) (i : ℕ) → place v w rs ≡ Some i → slice_get rs i ≡ None → ⊥
unfolding place
past v w [] i e g = cc
past v w (x ∷ rs) i e g = past_by (is_raw v w x) x rs (place v w rs) i e g (λ j f k. past v w rs j f k)

frames_by : (b : Bool) (x r : Raw) (rs : List Raw) (fs : List (List ℕ)) (o : Option ℕ) (i : ℕ) → elim b [ true ↦ Some zero | false ↦ behind o ] ≡ Some i → slice_get (x ∷ rs) i ≡ Some r
    → ((j : ℕ) → o ≡ Some j → slice_get rs j ≡ Some r → fs ≡ r.frames) → elim b [ true ↦ x.frames | false ↦ fs ] ≡ r.frames
frames_by true x r rs fs o i e g h =
    let z : zero ≡ i = cc in
    let f : Some x ≡ Some r = subst (λ (k : ℕ). slice_get (x ∷ rs) k ≡ Some r) (sym z) g in
    let s : x ≡ r = cc in ap (λ (y : Raw). y.frames) s
frames_by false x r rs fs o i e g h =
    let p = behind_some o i e in
    h p.0 p.1.1 (subst (λ (k : ℕ). slice_get (x ∷ rs) k ≡ Some r) p.1.0 g)

pub frames_found : (v w : ℕ) (rs : List Raw) (i : ℕ) (r : Raw) → place v w rs ≡ Some i → slice_get rs i ≡ Some r → frames_at v w rs ≡ r.frames
unfolding place frames_at
frames_found v w [] i r e g = absurd cc
frames_found v w (x ∷ rs) i r e g = frames_by (is_raw v w x) x r rs (frames_at v w rs) (place v w rs) i e g (λ j f k. frames_found v w rs j r f k)

set_here : (f : Raw → Raw) (x : Raw) (rs : List Raw) (i : ℕ) → zero ≡ i → f x ∷ rs ≡ set_found f i (x ∷ rs) (slice_get (x ∷ rs) i)
unfolding set_found
set_here f x rs zero e = refl
set_here f x rs (suc i) e = absurd cc

set_later_by : (f : Raw → Raw) (x : Raw) (rs : List Raw) (j : ℕ) (o : Option Raw) → x ∷ set_found f j rs o ≡ set_found f (suc j) (x ∷ rs) o
unfolding set_found
set_later_by f x rs j None = refl
set_later_by f x rs j (Some r) = refl

set_later : (f : Raw → Raw) (x : Raw) (rs : List Raw) (i j : ℕ) → i ≡ suc j → x ∷ set_found f j rs (slice_get rs j) ≡ set_found f i (x ∷ rs) (slice_get (x ∷ rs) i)
set_later f x rs i j e = subst (λ (k : ℕ). x ∷ set_found f j rs (slice_get rs j) ≡ set_found f k (x ∷ rs) (slice_get (x ∷ rs) k)) (sym e) (set_later_by f x rs j (slice_get rs j))

with_by : (f : List (List ℕ) → List (List ℕ)) (b : Bool) (x : Raw) (rs ss : List Raw) (o : Option ℕ) (i : ℕ) → elim b [ true ↦ Some zero | false ↦ behind o ] ≡ Some i
    → ((j : ℕ) → o ≡ Some j → ss ≡ set_found (queued f) j rs (slice_get rs j)) → elim b [ true ↦ queued f x ∷ rs | false ↦ x ∷ ss ] ≡ set_found (queued f) i (x ∷ rs) (slice_get (x ∷ rs) i)
with_by f true x rs ss o i e h = set_here (queued f) x rs i cc
with_by f false x rs ss o i e h =
    let p = behind_some o i e in
    ap (λ (ys : List Raw). x ∷ ys) (h p.0 p.1.1) ∙ set_later (queued f) x rs i p.0 p.1.0

pub with_found : (f : List (List ℕ) → List (List ℕ)) (v w : ℕ) (rs : List Raw) (i : ℕ) → place v w rs ≡ Some i → with_frames f v w rs ≡ set_found (queued f) i rs (slice_get rs i)
unfolding place with_frames
with_found f v w [] i e = absurd cc
with_found f v w (x ∷ rs) i e = with_by f (is_raw v w x) x rs (with_frames f v w rs) (place v w rs) i e (λ j g. with_found f v w rs j g)

-- ---- one that is not there

absent_by : (f : List (List ℕ) → List (List ℕ)) (b : Bool) (x : Raw) (rs ss : List Raw) (fs : List (List ℕ)) (o : Option ℕ) → (◌≡◌ {A = Option ℕ} (elim b [ true ↦ Some zero | false ↦ behind o ]) None)
    → (o ≡ None → (fs ≡ []) × (ss ≡ rs)) → (◌≡◌ {A = List (List ℕ)} (elim b [ true ↦ x.frames | false ↦ fs ]) []) × (elim b [ true ↦ queued f x ∷ rs | false ↦ x ∷ ss ] ≡ x ∷ rs)
absent_by f true x rs ss fs o e h = absurd cc
absent_by f false x rs ss fs o e h = let k = h (behind_none o e) in (k.0, ap (λ (ys : List Raw). x ∷ ys) k.1)

pub absent : (f : List (List ℕ) → List (List ℕ)) (v w : ℕ) (rs : List Raw) → place v w rs ≡ None → (frames_at v w rs ≡ []) × (with_frames f v w rs ≡ rs)
unfolding place frames_at with_frames
absent f v w [] e = (refl, refl)
absent f v w (x ∷ rs) e = absent_by f (is_raw v w x) x rs (with_frames f v w rs) (frames_at v w rs) (place v w rs) e (λ g. absent f v w rs g)

-- ---- the outcome of a look-up and a change

pub with_none : (f : List (List ℕ) → List (List ℕ)) (v w : ℕ) (rs : List Raw) → place v w rs ≡ None → with_frames f v w rs ≡ rs
with_none f v w rs e = (absent f v w rs e).1

pub none_there : (v w : ℕ) (rs : List Raw) → place v w rs ≡ None → frames_at v w rs ≡ []
none_there v w rs e = (absent (λ fs. fs) v w rs e).0

-- what a look-up finds, whatever stands at the place
frames_of : (v w : ℕ) (rs : List Raw) (i : ℕ) (o : Option Raw) → place v w rs ≡ Some i → slice_get rs i ≡ o → frames_at v w rs ≡ frames_in o
unfolding frames_in
frames_of v w rs i None e g = let n = past v w rs i e g in absurd n
frames_of v w rs i (Some r) e g = frames_found v w rs i r e g

pub frames_there : (v w : ℕ) (rs : List Raw) (i : ℕ) → place v w rs ≡ Some i → frames_at v w rs ≡ frames_in (slice_get rs i)
frames_there v w rs i e = frames_of v w rs i (slice_get rs i) e refl

first_is : (fs : List (List ℕ)) (x : List ℕ) → slice_get fs 0 ≡ Some x → fs ≡ x ∷ drop 1 fs
first_is [] x e = absurd cc
first_is (y ∷ fs) x e = let h : y ≡ x = cc in ap (λ (z : List ℕ). z ∷ drop 1 (y ∷ fs)) h

none_is : (fs : List (List ℕ)) → slice_get fs 0 ≡ None → fs ≡ []
none_is [] e = refl
none_is (y ∷ fs) e = absurd cc

same_set : (rs : List Raw) (i : ℕ) (r : Raw) → slice_get rs i ≡ Some r → slice_set rs i r ≡ rs
same_set [] i r e = absurd cc
same_set (x ∷ rs) zero r e = let h : r ≡ x = cc in ap (λ (y : Raw). y ∷ rs) h
same_set (x ∷ rs) (suc i) r e = ap (λ (ys : List Raw). x ∷ ys) (same_set rs i r e)

taken_of : (v w : ℕ) (rs : List Raw) (i : ℕ) (o : Option Raw) (x : List ℕ) → place v w rs ≡ Some i → slice_get rs i ≡ o → Some x ≡ first_in o → IsTaken v w x rs (set_found rest i rs o)
unfolding first_in set_found
taken_of v w rs i None x e g h = absurd cc
taken_of v w rs i (Some r) x e g h = record {
  others = drop 1 r.frames;
  under_way = frames_found v w rs i r e g ∙ first_is r.frames x (sym h);
  after = sym (with_found (λ old. drop 1 r.frames) v w rs i e ∙ ap (set_found (queued (λ old. drop 1 r.frames)) i rs) g);
}

-- the first is taken
pub taken_at : (v w : ℕ) (rs left : List Raw) (i : ℕ) (x : List ℕ) → left ≡ set_found rest i rs (slice_get rs i) → place v w rs ≡ Some i → Some x ≡ first_in (slice_get rs i) → IsTaken v w x rs left
taken_at v w rs left i x k e h = subst (λ (ys : List Raw). IsTaken v w x rs ys) (sym k) (taken_of v w rs i (slice_get rs i) x e refl h)

none_of : (v w : ℕ) (rs : List Raw) (i : ℕ) (o : Option Raw) → place v w rs ≡ Some i → slice_get rs i ≡ o → None ≡ first_in o → (frames_at v w rs ≡ []) × (set_found rest i rs o ≡ rs)
unfolding first_in set_found
none_of v w rs i None e g h = absurd (past v w rs i e g)
none_of v w rs i (Some r) e g h =
    let n : r.frames ≡ [] = none_is r.frames (sym h) in
    let d : drop 1 r.frames ≡ r.frames = ap (drop 1) n ∙ sym n in
    (frames_found v w rs i r e g ∙ n, ap (λ (fs : List (List ℕ)). slice_set rs i (record { from = r.from; to = r.to; frames = fs })) d ∙ same_set rs i r g)

-- there is none
pub none_at : (v w : ℕ) (rs left : List Raw) (i : ℕ) → left ≡ set_found rest i rs (slice_get rs i) → place v w rs ≡ Some i → None ≡ first_in (slice_get rs i) → (frames_at v w rs ≡ []) × (left ≡ rs)
none_at v w rs left i k e h = let p = none_of v w rs i (slice_get rs i) e refl h in (p.0, k ∙ p.1)

-- whatever was found
pub none_where : (v w : ℕ) (rs left : List Raw) (i : ℕ) (o : Option (List ℕ)) → left ≡ set_found rest i rs (slice_get rs i) → place v w rs ≡ Some i → o ≡ first_in (slice_get rs i) → IfNone o ((frames_at v w rs ≡ []) × (left ≡ rs))
none_where v w rs left i None k e h = none_at v w rs left i k e h
none_where v w rs left i (Some x) k e h = tt
