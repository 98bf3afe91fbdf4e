-- What an entry of a schedule does: it is idle exactly where nothing is there, and a turn takes the first message of the queue.
use Rattle.std.specs.Prelude.{◌≡◌, ℕ, true, false, List, [], ◌∷◌, ◌++◌, ◌⊎◌, Some, None, slice_get}
use Rattle.def_machine.specs.Values.{Name}
use Rattle.def_machine.specs.State.{Message, Note, Took, Vat}
use Rattle.def_run.specs.World.{Script, Entry, Turn, Carry, CutLink, NoticeLink, Event, Turned, Idle, Carried, CutAt, NoticedAt, Here, Link, World, Goes, link_at, step}

-- the history has these lines more
abbrev pub Tells : World → World → List Event → Type 0
Tells w x es = x.history ≡ w.history ++ es

-- a line tells that the entry was idle, and no vat changes, no fuel is spent and no word is drawn
abbrev pub IsIdle : ℕ → World → World → Type 0
IsIdle k w x = Tells w x (Idle k ∷ []) × (x.vats ≡ w.vats) × (x.fuel ≡ w.fuel) × (x.drawn ≡ w.drawn)

-- The queue of vat v has a first message. The line of the turn is followed by that which tells that the vat's next activation took it, and the vat has what was behind it, and what came to be queued behind that.
abbrev pub TurnTakes : ℕ → ℕ → World → World → Type 0
TurnTakes k v w x = (s t : Vat Name) × (m : Message Name) × (ms more : List (Message Name)) × (rest : List Event) × (slice_get w.vats v ≡ Some s) × (s.queue ≡ m ∷ ms) × Tells w x (Turned k v ∷ Here v (Took s.activations m) ∷ rest)
    × (slice_get x.vats v ≡ Some t) × (t.queue ≡ ms ++ more)

-- the link from v to u is not cut and has a first note, which the line brings to u
abbrev pub CarryBrings : ℕ → ℕ → ℕ → World → World → Type 0
CarryBrings k v u w x = (l : Link) × (n : Note Name) × (ns : List (Note Name)) × (s : Vat Name) × (bytes : List ℕ) × (rest : List Event) × (link_at v u w.links ≡ Some l) × (l.cut ≡ false) × (l.notes ≡ n ∷ ns) × (slice_get w.vats u ≡ Some s) × Tells w x (Carried k v u n bytes ∷ rest)

-- no vat has that number, or its queue is empty
abbrev pub NoneQueued : World → ℕ → Type 0
NoneQueued w v = (s : Vat Name) → slice_get w.vats v ≡ Some s → s.queue ≡ []

-- there is no link, or it is cut, or it has no note, or no vat is at its end
abbrev pub NoneUnderWay : World → ℕ → ℕ → Type 0
NoneUnderWay w v u = (l : Link) → link_at v u w.links ≡ Some l → (l.cut ≡ true) ⊎ (l.notes ≡ []) ⊎ (slice_get w.vats u ≡ None)

-- what leads from a world to the next, where entry number k does not stop
abbrev pub EntryDoes : ℕ → Entry → World → World → Type 0
EntryDoes k (Turn v) w x = (NoneQueued w v × IsIdle k w x) ⊎ TurnTakes k v w x
EntryDoes k (Carry v u) w x = (NoneUnderWay w v u × IsIdle k w x) ⊎ CarryBrings k v u w x
EntryDoes k (CutLink v u) w x = (rest : List Event) × Tells w x (CutAt k v u ∷ rest)
EntryDoes k (NoticeLink v u) w x = (s : Vat Name) × (rest : List Event) × (slice_get w.vats v ≡ Some s) × Tells w x (NoticedAt k v u ∷ rest)

-- in any world, also in those of a run
abbrev pub IdleWhereNothingIs : Type 0
IdleWhereNothingIs = (script : Script) (entry : Entry) (k : ℕ) (w x : World) → step script entry k w ≡ Goes x → EntryDoes k entry w x
