-- What small lines say, whose values stand one after another in one list, whose verbs stand in a table, and of which those that are rare stand whole in a list of their own.
use Rattle.std.specs.Prelude.{◌≡◌, ℕ, suc, ◌+◌, ◌<◌, List, [], ◌∷◌, None, Some, take, drop, length, get_or}
use Rattle.ev_base.specs.declared.values.Value.{Value}
use Rattle.ev_base.specs.declared.values.Value.TheVariants.{Null}
use Rattle.ev_heap.specs.Verbs.{text_at}
use Rattle.ev_heap.specs.declared.happened.Happened.{Happened as Event}
use Rattle.ev_heap.specs.declared.happened.Happened.TheVariants as event
use Rattle.ev_heap.specs.declared.lines.Line.{Line}
use Rattle.ev_heap.specs.declared.lines.Line.TheVariants as line

-- how many values are a line's
abbrev pub width : Line → ℕ
width (line.Call n a v) = suc n
width (line.Begins n a v b) = suc n
width (line.Back a) = 1
width (line.Thrown a) = 1
width (line.Gone a) = 0
width (line.Got a) = 1
width (line.Slot a k) = 1
width (line.Read a k) = 1
width (line.Wrote a k) = 1
width (line.List n a k) = n
width (line.Ejector a) = 1
width (line.Rare i) = 0

abbrev pub first : List Value → Value
first [] = Null
first (v ∷ vs) = v

abbrev pub others : List Value → List Value
others [] = []
others (v ∷ vs) = vs

-- the rare one at a place
abbrev pub rare_at : List Event → ℕ → Event
rare_at es i = get_or es i (event.Gone 0)

-- what a line says with its values, where these are the verbs and the rare ones
abbrev pub told : List (List ℕ) → List Event → Line → List Value → Event
told us es (line.Call n a v) vs = event.Call a (first vs) (text_at us v) (others vs) None
told us es (line.Begins n a v b) vs = event.Call a (first vs) (text_at us v) (others vs) (Some b)
told us es (line.Back a) vs = event.Back a (first vs)
told us es (line.Thrown a) vs = event.Thrown a (first vs)
told us es (line.Gone a) vs = event.Gone a
told us es (line.Got a) vs = event.Got a (first vs)
told us es (line.Slot a k) vs = event.Slot a k (first vs)
told us es (line.Read a k) vs = event.Read a k (first vs)
told us es (line.Wrote a k) vs = event.Wrote a k (first vs)
told us es (line.List n a k) vs = event.List a k vs
told us es (line.Ejector a) vs = event.Ejector a (first vs)
told us es (line.Rare i) vs = rare_at es i

unfoldable pub widths : List Line → ℕ
widths [] = 0
widths (l ∷ ls) = width l + widths ls

unfoldable pub read : List (List ℕ) → List Event → List Line → List Value → List Event
read us es [] vs = []
read us es (l ∷ ls) vs = told us es l (take (width l) vs) ∷ read us es ls (drop (width l) vs)

-- what the line points to is there
abbrev pub Fits : List (List ℕ) → List Event → Line → Type 0
Fits us es (line.Call n a v) = v < length us
Fits us es (line.Begins n a v b) = v < length us
Fits us es (line.Rare i) = i < length es
Fits us es _ = Unit {0}

unfoldable pub AllFit : List (List ℕ) → List Event → List Line → Type 0
AllFit us es [] = Unit {0}
AllFit us es (l ∷ ls) = Fits us es l × AllFit us es ls

-- there are as many values as the lines have, and all that they point to is there
pub record IsLog (us : List (List ℕ)) (es : List Event) (ls : List Line) (vs : List Value) : Type 0 where
  pub filled : widths ls ≡ length vs
  pub fit : AllFit us es ls

-- what is being read: the verbs, the rare ones, and what is left
pub record Reading : Type 0 where
  pub verbs : List (List ℕ)
  pub rare : List Event
  pub left : List Event
