-- Lists that are filled from the front, each entry by those before it.
use Rattle.std.proofs.Common.{◌≡◌, ℕ, zero, suc, List, [], ◌∷◌, ◌++◌, ◌<◌, ◌+◌, length, slice_get, Some, refl, sym, ◌∙◌, ap, arith, append_assoc, length-append}
use Rattle.std.proofs.lemmas.List.{append-nil}
use Rattle.def_syntax.specs.declared.sugar.SugarNode.{SugarNode}
use Rattle.ev_expand.specs.declared.marks.Marks.{Marks}
use Rattle.ev_expand.specs.declared.part.Part.{Part as Expansion}
use Rattle.ev_expand.specs.Marked.{node_marks, marked_behind, marked}
use Rattle.ev_expand.specs.Table.{form_part, expanded_behind}

pub filled : {X : Type 0} → (List X → SugarNode → X) → List X → List SugarNode → List X
filled step done [] = done
filled step done (n ∷ ns) = filled step (done ++ step done n ∷ []) ns

-- what is filled stays
stays : {X : Type 0} (step : List X → SugarNode → X) (done : List X) (ns : List SugarNode) → (more : List X) × (filled step done ns ≡ done ++ more)
unfolding filled
stays step done [] = ([], sym (append-nil done))
stays step done (n ∷ ns) =
    let r = stays step (done ++ step done n ∷ []) ns in
    (step done n ∷ r.0, r.1 ∙ append_assoc done (step done n ∷ []) r.0)

-- the entry of a node among all entries, with those before it
abbrev pub Entry : {X : Type 0} → (List X → SugarNode → X) → List X → ℕ → SugarNode → Type 0
Entry {X} step all k n = (before : List X) × (more : List X) × (all ≡ before ++ step before n ∷ more) × (length before ≡ k)

some_is : {X : Type 0} (x y : X) → Some x ≡ Some y → x ≡ y
some_is x y e = cc

entry_from : {X : Type 0} (step : List X → SugarNode → X) (done : List X) (ns : List SugarNode) (k : ℕ) (n : SugarNode) → slice_get ns k ≡ Some n → Entry step (filled step done ns) (length done + k) n
unfolding filled
entry_from step done [] k n e = cc
entry_from {X} step done (m ∷ ns) zero n e =
    let r = stays step (done ++ step done m ∷ []) ns in
    let same : m ≡ n = some_is m n e in
    (done, r.0, r.1 ∙ append_assoc done (step done m ∷ []) r.0 ∙ ap (λ (x : SugarNode). done ++ step done x ∷ r.0) same, omega arith)
entry_from step done (m ∷ ns) (suc k) n e =
    let r = entry_from step (done ++ step done m ∷ []) ns k n e in
    (r.0, r.1, r.2, omega (arith, r.3, length-append done (step done m ∷ [])))

get_before : {X : Type 0} (xs ys : List X) (k : ℕ) → k < length xs → slice_get (xs ++ ys) k ≡ slice_get xs k
get_before [] ys k h = absurd (omega arith)
get_before (x ∷ xs) ys zero h = refl
get_before (x ∷ xs) ys (suc k) h = get_before xs ys k (omega arith)

get_here : {X : Type 0} (xs ys : List X) (x : X) → slice_get (xs ++ x ∷ ys) (length xs) ≡ Some x
get_here [] ys x = refl
get_here (y ∷ xs) ys x = get_here xs ys x

pub entry_before : {X : Type 0} (step : List X → SugarNode → X) (all : List X) (k : ℕ) (n : SugarNode) (e : Entry step all k n) (i : ℕ) → i < k → slice_get all i ≡ slice_get e.0 i
entry_before {X} step all k n e i h =
    ap (λ (xs : List X). slice_get xs i) e.2 ∙ get_before e.0 (step e.0 n ∷ e.1) i (omega (arith, e.3))

pub entry_here : {X : Type 0} (step : List X → SugarNode → X) (all : List X) (k : ℕ) (n : SugarNode) (e : Entry step all k n) → slice_get all k ≡ Some (step e.0 n)
entry_here {X} step all k n e =
    ap (λ (xs : List X). slice_get xs k) e.2 ∙ ap (λ (j : ℕ). slice_get (e.0 ++ step e.0 n ∷ e.1) j) (sym e.3) ∙ get_here e.0 e.1 (step e.0 n)

-- ---- what is known of each node, and what each node expands to

marked_filled : (done : List Marks) (ns : List SugarNode) → marked_behind done ns ≡ filled node_marks done ns
unfolding marked_behind filled
marked_filled done [] = refl
marked_filled done (n ∷ ns) = marked_filled (done ++ node_marks done n ∷ []) ns

-- the expansion of a node by those before it
abbrev pub expansion : List Marks → List Expansion → SugarNode → Expansion
expansion marks done n = form_part marks done n.form

expanded_filled : (marks : List Marks) (done : List Expansion) (ns : List SugarNode) → expanded_behind marks done ns ≡ filled (expansion marks) done ns
unfolding expanded_behind filled
expanded_filled marks done [] = refl
expanded_filled marks done (n ∷ ns) = expanded_filled marks (done ++ expansion marks done n ∷ []) ns

pub marks_entry : (ns : List SugarNode) (k : ℕ) (n : SugarNode) → slice_get ns k ≡ Some n → Entry node_marks (marked ns) k n
unfolding marked
marks_entry ns k n e =
    let r = entry_from node_marks [] ns k n e in
    (r.0, r.1, marked_filled [] ns ∙ r.2, omega (arith, r.3))

pub expansion_entry : (marks : List Marks) (ns : List SugarNode) (k : ℕ) (n : SugarNode) → slice_get ns k ≡ Some n → Entry (expansion marks) (expanded_behind marks [] ns) k n
expansion_entry marks ns k n e =
    let r = entry_from (expansion marks) [] ns k n e in
    (r.0, r.1, expanded_filled marks [] ns ∙ r.2, omega (arith, r.3))
