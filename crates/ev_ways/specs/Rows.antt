-- The ways between vats: rows by sender, and in each the ways by receiver.
use Rattle.std.specs.Prelude.{ℕ, Bool, true, false, if◌then◌else◌, List, [], ◌∷◌, ◌++◌, Option, Some, None, drop, map, replicate, slice_get, slice_set, ◌==◌}
use Rattle.ev_ways.specs.declared.frame.Frame.{Frame}

-- what stands on a way: whether it is cut, and the frames under way, the first to arrive in front
pub record Lane : Type 0 where
  pub is_cut : Bool
  pub frames : List Frame

-- ---- one way

abbrev pub fresh : Lane
fresh = record { is_cut = false; frames = [] }

-- a frame comes behind the others, and is lost on a way that is cut
unfoldable pub put : Frame → Lane → Lane
put x l = if l.is_cut then l else record { is_cut = false; frames = l.frames ++ x ∷ [] }

-- the frame that arrives next, if one does
unfoldable pub next : Lane → Option Frame
next l = if l.is_cut then None else slice_get l.frames 0

-- what stands on a way once that one is gone
unfoldable pub behind : Lane → Lane
behind l = if l.is_cut then l else record { is_cut = false; frames = drop 1 l.frames }

-- a way that was cut has lost all that was under way
abbrev pub severed : Lane → Lane
severed l = record { is_cut = true; frames = [] }

-- the first of the frames, cut or not, and what stands there once it is gone
unfoldable pub first : Lane → Option Frame
first l = slice_get l.frames 0

unfoldable pub rest : Lane → Lane
rest l = record { is_cut = l.is_cut; frames = drop 1 l.frames }

-- ---- one of many

-- what stands at a number is changed, where something stands there
unfoldable pub set_found : {A : Type 0} → (A → A) → ℕ → List A → Option A → List A
set_found f k xs None = xs
set_found f k xs (Some x) = slice_set xs k (f x)

unfoldable pub with_at : {A : Type 0} → (A → A) → ℕ → List A → List A
with_at f k xs = set_found f k xs (slice_get xs k)

-- of what is found, or nothing
unfoldable pub of_found : {A B : Type 0} → (A → Option B) → Option A → Option B
of_found f None = None
of_found f (Some x) = f x

unfoldable pub is_cut_in : Option Lane → Bool
is_cut_in None = false
is_cut_in (Some l) = l.is_cut

unfoldable pub frames_in : Option Lane → List Frame
frames_in None = []
frames_in (Some l) = l.frames

-- ---- the ways from one vat

unfoldable pub fresh_row : ℕ → List Lane
fresh_row n = replicate n fresh

unfoldable pub cut_to : ℕ → List Lane → Bool
cut_to u ls = is_cut_in (slice_get ls u)

unfoldable pub next_to : ℕ → List Lane → Option Frame
next_to u ls = of_found next (slice_get ls u)

unfoldable pub first_to : ℕ → List Lane → Option Frame
first_to u ls = of_found first (slice_get ls u)

unfoldable pub frames_to : ℕ → List Lane → List Frame
frames_to u ls = frames_in (slice_get ls u)

-- which of these are cut
unfoldable pub cuts : List Lane → List Bool
cuts ls = map (λ (l : Lane). l.is_cut) ls

-- ---- all ways

unfoldable pub fresh_rows : ℕ → List (List Lane)
fresh_rows n = replicate n (fresh_row n)

unfoldable pub row_of : Option (List Lane) → List Lane
row_of None = []
row_of (Some ls) = ls

-- the ways from a vat; none where it is not there
unfoldable pub row_at : ℕ → List (List Lane) → List Lane
row_at v rows = row_of (slice_get rows v)

unfoldable pub is_cut_at : ℕ → ℕ → List (List Lane) → Bool
is_cut_at v u rows = cut_to u (row_at v rows)

unfoldable pub next_from : ℕ → ℕ → List (List Lane) → Option Frame
next_from v u rows = of_found (next_to u) (slice_get rows v)

-- a vat has no way to itself
unfoldable pub next_at : ℕ → ℕ → List (List Lane) → Option Frame
next_at v u rows = if v == u then None else next_from v u rows

unfoldable pub first_from : ℕ → ℕ → List (List Lane) → Option Frame
first_from v u rows = of_found (first_to u) (slice_get rows v)

unfoldable pub first_at : ℕ → ℕ → List (List Lane) → Option Frame
first_at v u rows = if v == u then None else first_from v u rows

-- all frames on the way
unfoldable pub frames_at : ℕ → ℕ → List (List Lane) → List Frame
frames_at v u rows = if v == u then [] else frames_to u (row_at v rows)

unfoldable pub changed_from : (Lane → Lane) → ℕ → ℕ → List (List Lane) → List (List Lane)
changed_from f v u rows = with_at (with_at f u) v rows

-- the way from one vat to another is changed
unfoldable pub changed : (Lane → Lane) → ℕ → ℕ → List (List Lane) → List (List Lane)
changed f v u rows = if v == u then rows else changed_from f v u rows

-- opens each definition of this file
unfoldable pub opened_rows : Unit {0}
unfolding put next behind first rest set_found with_at of_found is_cut_in frames_in frames_to frames_at fresh_row cut_to next_to first_to cuts fresh_rows row_of row_at is_cut_at next_from first_from next_at first_at changed_from changed
opened_rows = tt
