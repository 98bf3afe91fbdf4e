-- What is counted, one after the other.
use Rattle.std.proofs.Common.{◌≡◌, ℕ, zero, suc, ◌+◌, ◌<◌, ◌≤◌, Bool, true, false, List, [], ◌∷◌, drop, get_or, length, map, refl, sym, ap, subst, ◌∙◌, arith}
use Rattle.std.proofs.Math.Seq.{drop-cons}
use Rattle.std.proofs.lemmas.List.{drop_all}
use Rattle.std.specs.Prelude.{slice_set}
use Rattle.def_machine.specs.State.{Note}
use Rattle.def_machine.specs.Values.{Name}
use Rattle.ev_outsiders.specs.declared.outsider.Outsider.{Outsider as Counts}
use Rattle.def_hostile.specs.Outsiders.{Outsider, counted, messages_in, nobody, objects_in, promises_in, starting}
use Rattle.ev_outsiders.specs.Counting.{made_more, outsider_of, with_one}
use Rattle.ev_outsiders.specs.Statements.{OutsidersStart}

pub outsiders_start : OutsidersStart
unfolding starting
outsiders_start [] = refl
outsiders_start (p ∷ ps) = ap (λ (os : List Outsider). nobody ∷ os) (outsiders_start ps)

one_first : (k : Bool) (ks : List Bool) (o : Outsider) → made_more ks 0 (with_one k o) ≡ made_more (k ∷ ks) 0 o
unfolding with_one objects_in promises_in
one_first true ks o = ap (λ (x : ℕ). record { objects = x; promises = o.promises + promises_in ks; messages = o.messages + 0 }) (let e : (o.objects + 1) + objects_in ks ≡ o.objects + suc (objects_in ks) = omega arith in e)
one_first false ks o = ap (λ (x : ℕ). record { objects = o.objects + objects_in ks; promises = x; messages = o.messages + 0 }) (let e : (o.promises + 1) + promises_in ks ≡ o.promises + suc (promises_in ks) = omega arith in e)

pub counted_next : (ks : List Bool) (i : ℕ) (start now after : Outsider) → i < length ks → after ≡ with_one (get_or ks i false) now → made_more (drop i ks) 0 now ≡ made_more ks 0 start → made_more (drop (i + 1) ks) 0 after ≡ made_more ks 0 start
counted_next ks i start now after lt e h =
    let s : i + 1 ≡ suc i = omega arith in
    let d : drop i ks ≡ get_or ks i false ∷ drop (suc i) ks = drop-cons ks i false lt in
    ap (λ (j : ℕ). made_more (drop j ks) 0 after) s
    ∙ (ap (made_more (drop (suc i) ks) 0) e ∙ (one_first (get_or ks i false) (drop (suc i) ks) now ∙ (ap (λ (xs : List Bool). made_more xs 0 now) (sym d) ∙ h)))

none : (a : ℕ) → a ≡ a + 0
none a = omega arith

nothing_more : (o : Outsider) → o ≡ made_more [] 0 o
unfolding objects_in promises_in
nothing_more o = λ i. record { objects = none o.objects i; promises = none o.promises i; messages = none o.messages i }

pub counted_all : (ks : List Bool) (i : ℕ) (start now : Outsider) → length ks ≤ i → made_more (drop i ks) 0 now ≡ made_more ks 0 start → now ≡ made_more ks 0 start
counted_all ks i start now le h = nothing_more now ∙ (ap (λ (xs : List Bool). made_more xs 0 now) (sym (drop_all i ks le)) ∙ h)

-- ---- and a message, or none

pub counted_alone : (ks : List Bool) (n : Note Name) (o f : Outsider) → messages_in n ≡ 0 → f ≡ made_more ks 0 o → f ≡ counted ks n o
unfolding counted
counted_alone ks n o f e h = h ∙ ap (λ (k : ℕ). record { objects = o.objects + objects_in ks; promises = o.promises + promises_in ks; messages = o.messages + k }) (sym e)

pub counted_with : (ks : List Bool) (n : Note Name) (o f : Outsider) (m : ℕ) → messages_in n ≡ 1 → f ≡ made_more ks 0 o → m ≡ f.messages + 1 → record { objects = f.objects; promises = f.promises; messages = m } ≡ counted ks n o
unfolding counted
counted_with ks n o f m e h k =
    let a : f.objects ≡ o.objects + objects_in ks = ap (λ (x : Outsider). x.objects) h in
    let b : f.promises ≡ o.promises + promises_in ks = ap (λ (x : Outsider). x.promises) h in
    let d : f.messages ≡ o.messages + 0 = ap (λ (x : Outsider). x.messages) h in
    let c : m ≡ o.messages + messages_in n = omega (arith, k, d, e) in
    λ i. record { objects = a i; promises = b i; messages = c i }

-- ---- at one place

pub set_alike : (xs : List Counts) (i : ℕ) (x : Counts) → map outsider_of (slice_set xs i x) ≡ slice_set (map outsider_of xs) i (outsider_of x)
set_alike [] i x = refl
set_alike (y ∷ xs) zero x = refl
set_alike (y ∷ xs) (suc i) x = ap (λ (os : List Outsider). outsider_of y ∷ os) (set_alike xs i x)

pub set_there : (xs : List Counts) (os : List Outsider) (i : ℕ) (x : Counts) → map outsider_of xs ≡ os → map outsider_of (slice_set xs i x) ≡ slice_set os i (outsider_of x)
set_there xs os i x e = set_alike xs i x ∙ ap (λ (ys : List Outsider). slice_set ys i (outsider_of x)) e

past : (xs : List Counts) (i : ℕ) (x : Outsider) → length xs ≤ i → map outsider_of xs ≡ slice_set (map outsider_of xs) i x
past [] i x le = refl
past (y ∷ xs) zero x le = absurd (omega arith)
past (y ∷ xs) (suc i) x le = ap (λ (os : List Outsider). outsider_of y ∷ os) (past xs i x (omega arith))

-- nothing is there
pub set_past : (xs : List Counts) (os : List Outsider) (n i : ℕ) (x : Outsider) → map outsider_of xs ≡ os → n ≡ length xs → n ≤ i → os ≡ slice_set os i x
set_past xs os n i x e len le = subst (λ (ys : List Outsider). ys ≡ slice_set ys i x) e (past xs i x (omega arith))
