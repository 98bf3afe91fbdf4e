-- What things tell one after the other.
use Rattle.std.proofs.Common.{◌≡◌, ◌+◌, ◌<◌, ◌≤◌, ℕ, zero, suc, List, [], ◌∷◌, length, map, take, drop, get_or, slice_get, refl, sym, ap, ◌∙◌, arith}
use Rattle.std.proofs.lemmas.List.{drop_more, drop_all}
use Rattle.ev_base.specs.declared.names.Msg.{Msg}
use Rattle.ev_base.specs.declared.values.Value.{Value}
use Rattle.ev_heap.specs.declared.happened.Happened.{Happened}
use Rattle.ev_heap.specs.declared.lines.Line.{Line}
use Rattle.ev_heap.specs.declared.lines.Line.TheVariants as line
use Rattle.ev_heap.specs.Told.{read, told, width}
use Rattle.ev_refs.specs.References.{References}
use Rattle.ev_resident.specs.Names.{Entry, each_tells, some_tells, event_tells, line_tells}

module _ {A : Type 0} (f : A → List Entry → List Entry) where
  -- the next one tells
  pub each_on : (xs : List A) (i : ℕ) (x : A) (es after whole : List Entry) → i < length xs → x ≡ get_or xs i x → each_tells f (drop i xs) es ≡ whole → after ≡ f x es
      → each_tells f (drop (i + 1) xs) after ≡ whole
  unfolding each_tells
  each_on xs i x es after whole lt is so_far e =
      ap (λ (z : List Entry). each_tells f (drop (i + 1) xs) z) e
      ∙ ap (λ (z : A). each_tells f (drop (i + 1) xs) (f z es)) is
      ∙ ap (λ (zs : List A). each_tells f zs es) (sym (drop_more xs i x lt))
      ∙ so_far

  -- all have told
  pub each_done : (xs : List A) (i : ℕ) (es whole : List Entry) → length xs ≤ i → each_tells f (drop i xs) es ≡ whole → es ≡ whole
  unfolding each_tells
  each_done xs i es whole le so_far = ap (λ (zs : List A). each_tells f zs es) (sym (drop_all i xs le)) ∙ so_far

  at_place : (xs : List A) (i : ℕ) (es : List Entry) → each_tells f (drop (suc i) xs) (some_tells f (slice_get xs i) es) ≡ each_tells f (drop i xs) es
  unfolding each_tells some_tells
  at_place [] zero es = refl
  at_place [] (suc i) es = refl
  at_place (x ∷ xs) zero es = refl
  at_place (x ∷ xs) (suc i) es = at_place xs i es

  -- the one at a place tells, if there is one
  pub each_at : (xs : List A) (i : ℕ) (es after whole : List Entry) → after ≡ some_tells f (slice_get xs i) es → each_tells f (drop i xs) es ≡ whole → each_tells f (drop (i + 1) xs) after ≡ whole
  each_at xs i es after whole e so_far =
      let next : i + 1 ≡ suc i = omega arith in
      ap (λ (n : ℕ). each_tells f (drop n xs) after) next
      ∙ ap (λ (z : List Entry). each_tells f (drop (suc i) xs) z) e
      ∙ at_place xs i es
      ∙ so_far

pub each-map : {A B : Type 0} (f : B → List Entry → List Entry) (g : A → B) (xs : List A) (es : List Entry) → each_tells f (map g xs) es ≡ each_tells (λ (x : A). f (g x)) xs es
unfolding each_tells
each-map f g [] es = refl
each-map f g (x ∷ xs) es = each-map f g xs (f (g x) es)

-- ---- lines

module _ (r : References) (ms : List Msg) (us : List (List ℕ)) (hs : List Happened) where
  line_told : (l : Line) (vs : List Value) (es : List Entry) → event_tells r ms (told us hs l vs) es ≡ line_tells r ms hs l es
  unfolding event_tells line_tells
  line_told (line.Call n a v) vs es = refl
  line_told (line.Begins n a v b) vs es = refl
  line_told (line.Back a) vs es = refl
  line_told (line.Thrown a) vs es = refl
  line_told (line.Gone a) vs es = refl
  line_told (line.Got a) vs es = refl
  line_told (line.Slot a k) vs es = refl
  line_told (line.Read a k) vs es = refl
  line_told (line.Wrote a k) vs es = refl
  line_told (line.List n a k) vs es = refl
  line_told (line.Ejector a) vs es = refl
  line_told (line.Rare i) vs es = refl

  pub lines_told : (ls : List Line) (vs : List Value) (es : List Entry) → each_tells (event_tells r ms) (read us hs ls vs) es ≡ each_tells (line_tells r ms hs) ls es
  unfolding each_tells read
  lines_told [] vs es = refl
  lines_told (l ∷ ls) vs es =
      ap (λ (z : List Entry). each_tells (event_tells r ms) (read us hs ls (drop (width l) vs)) z) (line_told l (take (width l) vs) es)
      ∙ lines_told ls (drop (width l) vs) (line_tells r ms hs l es)
