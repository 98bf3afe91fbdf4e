-- Queues of injected frames, one for each ordered pair of vats.
use Rattle.std.specs.Prelude.{◌≡◌, ℕ, zero, suc, Bool, true, false, List, [], ◌∷◌, ◌++◌, Option, Some, None, drop, slice_get, slice_set, ◌==◌}
use Rattle.def_hostile.specs.Hostile.{Raw, is_raw, frames_at, with_frames}

-- ---- one queue

abbrev pub fresh : ℕ → ℕ → Raw
fresh v w = record { from = v; to = w; frames = [] }

abbrev pub queued : (List (List ℕ) → List (List ℕ)) → Raw → Raw
queued f r = record { from = r.from; to = r.to; frames = f r.frames }

abbrev pub put : List ℕ → Raw → Raw
put x r = queued (λ fs. fs ++ x ∷ []) r

abbrev pub first : Raw → Option (List ℕ)
first r = slice_get r.frames 0

abbrev pub rest : Raw → Raw
rest r = queued (drop 1) r

-- ---- all of them

unfoldable pub behind : Option ℕ → Option ℕ
behind None = None
behind (Some i) = Some (suc i)

-- where the queue from one vat to another stands
unfoldable pub place : ℕ → ℕ → List Raw → Option ℕ
place v w [] = None
place v w (r ∷ rs) = elim (is_raw v w r) [ true ↦ Some zero | false ↦ behind (place v w rs) ]

unfoldable pub set_found : (Raw → Raw) → ℕ → List Raw → Option Raw → List Raw
set_found f i rs None = rs
set_found f i rs (Some r) = slice_set rs i (f r)

unfoldable pub first_in : Option Raw → Option (List ℕ)
first_in None = None
first_in (Some r) = first r

unfoldable pub frames_in : Option Raw → List (List ℕ)
frames_in None = []
frames_in (Some r) = r.frames

-- ---- at the start

-- a vat has no queue to itself
abbrev pub unless_same : Bool → ℕ → ℕ → List Raw → List Raw
unless_same true v w rs = rs
unless_same false v w rs = rs ++ fresh v w ∷ []

-- those from vat v to each vat below that number
unfoldable pub fresh_to : ℕ → ℕ → List Raw
fresh_to v zero = []
fresh_to v (suc w) = unless_same (v == w) v w (fresh_to v w)

-- those from each vat below that number to each of so many
unfoldable pub fresh_from : ℕ → ℕ → List Raw
fresh_from n zero = []
fresh_from n (suc v) = fresh_from n v ++ fresh_to v n

abbrev pub fresh_all : ℕ → List Raw
fresh_all n = fresh_from n n

-- ---- what is taken

-- That frame is the first on its way, and the others stay.
pub record IsTaken (v w : ℕ) (frame : List ℕ) (rs left : List Raw) : Type 0 where
  pub others : List (List ℕ)
  pub under_way : frames_at v w rs ≡ frame ∷ others
  pub after : left ≡ with_frames (λ old. others) v w rs
