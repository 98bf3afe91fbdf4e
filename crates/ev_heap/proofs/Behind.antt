-- A line behind others, with its values behind theirs, is read behind them. More verbs and more rare ones change nothing that was read.
use Rattle.std.proofs.Common.{◌≡◌, ◌∙◌, ◌≤◌, ℕ, suc, ◌+◌, ◌-◌, List, [], ◌∷◌, ◌++◌, Result, Ok, Err, OnOk, OnErr, take, drop, length, refl, ap, sym, subst, arith, None, Some}
use Rattle.std.proofs.lemmas.List.{take-append-le, drop-append-le, length-drop, length-append}
use Rattle.ev_base.specs.declared.values.Value.{Value}
use Rattle.ev_heap.specs.declared.happened.Happened.{Happened as Event}
use Rattle.ev_heap.specs.declared.happened.Happened.TheVariants as event
use Rattle.ev_heap.specs.declared.lines.Line.{Line}
use Rattle.ev_heap.specs.declared.lines.Line.TheVariants as line
use Rattle.ev_heap.specs.Told.{width, widths, told, first, others, read, Fits, AllFit, IsLog}
use Rattle.ev_heap.specs.Verbs.{Begins}
use Rattle.ev_heap.proofs.Prefix.{begins_itself, begins_length, begins_at}

Texts : Type 0
Texts = List (List ℕ)

pub read_length : (us : List (List ℕ)) (es : List Event) (ls : List Line) (vs : List Value) → length ls ≡ length (read us es ls vs)
unfolding read
read_length us es [] vs = refl
read_length us es (l ∷ ls) vs = ap suc (read_length us es ls (drop (width l) vs))

widths_more : (ls : List Line) (l : Line) → widths (ls ++ l ∷ []) ≡ widths ls + width l
unfolding widths
widths_more [] l = omega arith
widths_more (k ∷ ls) l = let e : widths (ls ++ l ∷ []) ≡ widths ls + width l = widths_more ls l in omega arith

take_all : (ws : List Value) → take (length ws) ws ≡ ws
take_all [] = refl
take_all (w ∷ ws) = ap (λ us. w ∷ us) (take_all ws)

module _ (us : List (List ℕ)) (es : List Event) where
  read_one : (l : Line) (n : ℕ) (ws : List Value) → n ≡ length ws → told us es l (take n ws) ∷ [] ≡ told us es l ws ∷ []
  read_one l n ws e = ap (λ xs. told us es l xs ∷ []) (ap (λ k. take k ws) e ∙ take_all ws)

  read_more : (ls : List Line) (l : Line) (vs ws : List Value) → widths ls ≡ length vs → width l ≡ length ws → read us es (ls ++ l ∷ []) (vs ++ ws) ≡ read us es ls vs ++ told us es l ws ∷ []
  unfolding read widths
  read_more [] l [] ws e f = read_one l (width l) ws f
  read_more [] l (v ∷ vs) ws e f = absurd (omega arith)
  read_more (k ∷ ls) l vs ws e f =
      let p : width k ≤ length vs = omega arith in
      let d : length (drop (width k) vs) ≡ length vs - width k = length-drop (width k) vs in
      let q : widths ls ≡ length (drop (width k) vs) = omega arith in
      ap (λ xs. told us es k xs ∷ read us es (ls ++ l ∷ []) (drop (width k) (vs ++ ws))) (take-append-le (width k) vs ws p)
      ∙ ap (λ xs. told us es k (take (width k) vs) ∷ read us es (ls ++ l ∷ []) xs) (drop-append-le (width k) vs ws p)
      ∙ ap (λ xs. told us es k (take (width k) vs) ∷ xs) (read_more ls l (drop (width k) vs) ws q f)

  fit_behind : (ls : List Line) (l : Line) → AllFit us es ls → Fits us es l → AllFit us es (ls ++ l ∷ [])
  unfolding AllFit
  fit_behind [] l h i = (i, tt)
  fit_behind (k ∷ ls) l h i = (h.0, fit_behind ls l h.1 i)

module _ (us us' : List (List ℕ)) (es es' : List Event) (b : Begins us us') (d : Begins es es') where
  pub fits_more : (l : Line) → Fits us es l → Fits us' es' l
  fits_more (line.Call n a v) h = let e : length us ≤ length us' = begins_length us us' b in omega arith
  fits_more (line.Begins n a v k) h = let e : length us ≤ length us' = begins_length us us' b in omega arith
  fits_more (line.Back a) h = tt
  fits_more (line.Thrown a) h = tt
  fits_more (line.Gone a) h = tt
  fits_more (line.Got a) h = tt
  fits_more (line.Slot a k) h = tt
  fits_more (line.Read a k) h = tt
  fits_more (line.Wrote a k) h = tt
  fits_more (line.List n a k) h = tt
  fits_more (line.Ejector a) h = tt
  fits_more (line.Rare i) h = let e : length es ≤ length es' = begins_length es es' d in omega arith

  all_fit_more : (ls : List Line) → AllFit us es ls → AllFit us' es' ls
  unfolding AllFit
  all_fit_more [] h = tt
  all_fit_more (l ∷ ls) h = (fits_more l h.0, all_fit_more ls h.1)

  pub told_same : (l : Line) (vs : List Value) → Fits us es l → told us' es' l vs ≡ told us es l vs
  told_same (line.Call n a v) vs h = ap (λ t. event.Call a (first vs) t (others vs) None) (begins_at us us' v [] b h)
  told_same (line.Begins n a v k) vs h = ap (λ t. event.Call a (first vs) t (others vs) (Some k)) (begins_at us us' v [] b h)
  told_same (line.Back a) vs h = refl
  told_same (line.Thrown a) vs h = refl
  told_same (line.Gone a) vs h = refl
  told_same (line.Got a) vs h = refl
  told_same (line.Slot a k) vs h = refl
  told_same (line.Read a k) vs h = refl
  told_same (line.Wrote a k) vs h = refl
  told_same (line.List n a k) vs h = refl
  told_same (line.Ejector a) vs h = refl
  told_same (line.Rare i) vs h = begins_at es es' i (event.Gone 0) d h

  read_same : (ls : List Line) (vs : List Value) → AllFit us es ls → read us' es' ls vs ≡ read us es ls vs
  unfolding AllFit read
  read_same [] vs h = refl
  read_same (l ∷ ls) vs h =
      ap (λ x. x ∷ read us' es' ls (drop (width l) vs)) (told_same l (take (width l) vs) h.0)
      ∙ ap (λ xs. told us es l (take (width l) vs) ∷ xs) (read_same ls (drop (width l) vs) h.1)

  -- more verbs and more rare ones
  pub stays : (ls : List Line) (vs : List Value) → IsLog us es ls vs → IsLog us' es' ls vs
  stays ls vs h = record { filled = h.filled; fit = all_fit_more ls h.fit }

  -- a line behind the others, with its values
  pub adds : (ls ks : List Line) (l : Line) (vs xs ws : List Value) → IsLog us es ls vs → Fits us' es' l → width l ≡ length ws → ks ≡ ls ++ l ∷ [] → xs ≡ vs ++ ws
      → read us' es' ks xs ≡ read us es ls vs ++ told us' es' l ws ∷ []
  adds ls ks l vs xs ws h i f p q =
      ap (λ x. read us' es' x xs) p ∙ ap (λ x. read us' es' (ls ++ l ∷ []) x) q ∙ read_more us' es' ls l vs ws h.filled f
      ∙ ap (λ x. x ++ told us' es' l ws ∷ []) (read_same ls vs h.fit)

  pub keeps : (ls ks : List Line) (l : Line) (vs xs ws : List Value) → IsLog us es ls vs → Fits us' es' l → width l ≡ length ws → ks ≡ ls ++ l ∷ [] → xs ≡ vs ++ ws → IsLog us' es' ks xs
  keeps ls ks l vs xs ws h i f p q =
      let a : widths ls ≡ length vs = h.filled in
      let g : widths (ls ++ l ∷ []) ≡ widths ls + width l = widths_more ls l in
      let e : length (vs ++ ws) ≡ length vs + length ws = length-append vs ws in
      let j : widths (ls ++ l ∷ []) ≡ length (vs ++ ws) = omega arith in
      record {
        filled = ap widths p ∙ j ∙ sym (ap length q);
        fit = subst (AllFit us' es') (sym p) (fit_behind us' es' ls l (all_fit_more ls h.fit) i);
      }

  -- the same of a line that was added, or was not
  pub added : {A E : Type 0} (r : Result A E) (ls ks : List Line) (l : Line) (vs xs ws : List Value) → IsLog us es ls vs → Fits us' es' l → width l ≡ length ws
      → OnOk r (ks ≡ ls ++ l ∷ []) → OnOk r (xs ≡ vs ++ ws) → OnOk r (read us' es' ks xs ≡ read us es ls vs ++ told us' es' l ws ∷ [])
  added (Ok a) ls ks l vs xs ws h i f p q = adds ls ks l vs xs ws h i f p q
  added (Err x) ls ks l vs xs ws h i f p q = tt

  pub kept : {A E : Type 0} (r : Result A E) (ls ks : List Line) (l : Line) (vs xs ws : List Value) → IsLog us es ls vs → Fits us' es' l → width l ≡ length ws
      → OnOk r (ks ≡ ls ++ l ∷ []) → OnOk r (xs ≡ vs ++ ws) → OnErr r (ks ≡ ls) → OnErr r (xs ≡ vs) → IsLog us' es' ks xs
  kept (Ok a) ls ks l vs xs ws h i f p q m n = keeps ls ks l vs xs ws h i f p q
  kept (Err x) ls ks l vs xs ws h i f p q m n = subst (λ x. IsLog us' es' x xs) (sym m) (subst (λ x. IsLog us' es' ls x) (sym n) (stays ls vs h))

  -- it comes behind what stood there
  pub comes : {A E : Type 0} (r : Result A E) (ls ks : List Line) (l : Line) (vs xs ws : List Value) (old : List Event) (e : Event) → IsLog us es ls vs → Fits us' es' l → width l ≡ length ws
      → OnOk r (ks ≡ ls ++ l ∷ []) → OnOk r (xs ≡ vs ++ ws) → read us es ls vs ≡ old → told us' es' l ws ≡ e → OnOk r (read us' es' ks xs ≡ old ++ e ∷ [])
  comes (Ok a) ls ks l vs xs ws old e h i f p q m n = adds ls ks l vs xs ws h i f p q ∙ ap (λ x. x ++ told us' es' l ws ∷ []) m ∙ ap (λ x. old ++ x ∷ []) n
  comes (Err x) ls ks l vs xs ws old e h i f p q m n = tt

-- a line that points to nothing
module _ (us : List (List ℕ)) (es : List Event) {A E : Type 0} (r : Result A E) (ls ks : List Line) (l : Line) (vs xs ws : List Value) (h : IsLog us es ls vs) (i : Fits [] [] l) (f : width l ≡ length ws)
    (p : OnOk r (ks ≡ ls ++ l ∷ [])) (q : OnOk r (xs ≡ vs ++ ws)) where
  pub plain_comes : (old : List Event) → read us es ls vs ≡ old → OnOk r (read us es ks xs ≡ old ++ told [] [] l ws ∷ [])
  plain_comes old m = comes us us es es (begins_itself us) (begins_itself es) r ls ks l vs xs ws old (told [] [] l ws) h (fits_more [] us [] es refl refl l i) f p q m (told_same [] us [] es refl refl l ws i)

  pub plain_kept : OnErr r (ks ≡ ls) → OnErr r (xs ≡ vs) → IsLog us es ks xs
  plain_kept m n = kept us us es es (begins_itself us) (begins_itself es) r ls ks l vs xs ws h (fits_more [] us [] es refl refl l i) f p q m n
