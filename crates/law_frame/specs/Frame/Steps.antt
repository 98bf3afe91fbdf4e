-- The steps of one vat in its own numbers, and that each stands for the step in names.
use Rattle.std.specs.Prelude.{◌≡◌, ℕ, zero, suc, ◌+◌, true, false, List, [], ◌∷◌, ◌++◌, Option, Some, None, slice_get, length, ◌==◌}
use Rattle.def_machine.specs.Values.{Name, Ref, Local, Prom, numbering}
use Rattle.def_machine.specs.State.{Fixed, Binding, Message, Note, Vat, Astray, Done, Gives, Stops}
use Rattle.def_machine.specs.Arrive.{Incoming, arrive, notice}
use Rattle.def_machine.specs.Scopes.{any_guard}
use Rattle.def_machine.specs.Eval.{opening, taking}
use Rattle.law_fate.specs.Name.Runs.{KnowsOnce}
use Rattle.law_machine.specs.Renamed.Renaming.{Wire}
use Rattle.law_machine.specs.Renamed.Stands.{StandsFor}
use Rattle.def_run.specs.Draws.{draw_word}
use Rattle.def_run.specs.World.{Script, Program, Entry, Turn, Carry, CutLink, NoticeLink, Link, World, Goes, link_at, begins, name_at, tree_at, open_vat, open_from, step, steps_from, readied}
use Rattle.law_reference.specs.Reference.Cuts.{NoticesFollowCuts}
use Rattle.law_reference.specs.Reference.Tables.{table_of}
use Rattle.law_frame.specs.Frame.Hearing.{Heard}
use Rattle.law_frame.specs.Frame.AlikeArrivals.{frame_heard, table_across}

-- the outcome of a step of a vat in its own numbers, or none where it takes no step
abbrev pub OwnStep : Type 0
OwnStep = Option (Done Local (Unit {0}))

-- a turn takes the first message of the queue
unfoldable pub turn_by_numbers : Script → ℕ → Vat Local → List (Message Local) → OwnStep
turn_by_numbers script u q [] = None
turn_by_numbers script u q (m ∷ ms) = Some (taking (numbering {W = Wire} (draw_word script.key)) (tree_at script.vats u) script.depth m (record q { queue = ms }))

-- the arrival of a note from v as it was heard; who cannot hear a frame stops
unfoldable pub arrival_by_numbers : Script → ℕ → Vat Local → Option (Heard (Note (Incoming Local Wire))) → OwnStep
arrival_by_numbers script v q (Some h) = Some (arrive (numbering (draw_word script.key)) v h.read q)
arrival_by_numbers script v q None = Some (Stops Astray q)

-- the first note arrives
unfoldable pub note_by_numbers : Script → World → ℕ → ℕ → Vat Name → Vat Local → List (Note Name) → OwnStep
note_by_numbers script w v u s q [] = None
note_by_numbers script w v u s q (n ∷ ns) = arrival_by_numbers script v q (frame_heard script w v u s n)

-- of a link that is not cut
unfoldable pub link_by_numbers : Script → World → ℕ → ℕ → Vat Name → Vat Local → Option Link → OwnStep
link_by_numbers script w v u s q None = None
link_by_numbers script w v u s q (Some l) = elim l.cut [ true ↦ None | false ↦ note_by_numbers script w v u s q l.notes ]

-- what vat v does is a step of u where these are one
unfoldable pub where_own : ℕ → ℕ → OwnStep → OwnStep
where_own v u d = elim (v == u) [ true ↦ d | false ↦ None ]

-- What vat u does by an entry in its own numbers, from state q, if the entry is a step of it. It hears by the tables that stand in world w, where s is its state in names.
unfoldable pub entry_by_numbers : Script → World → Entry → ℕ → Vat Name → Vat Local → OwnStep
entry_by_numbers script w (Turn v) u s q = where_own v u (turn_by_numbers script u q q.queue)
entry_by_numbers script w (Carry v t) u s q = where_own t u (link_by_numbers script w v u s q (link_at v u w.links))
entry_by_numbers script w (CutLink v t) u s q = None
entry_by_numbers script w (NoticeLink v t) u s q = where_own v u (Some (notice (numbering {W = Wire} (draw_word script.key)) t q))

-- each vat that is known is a noun for its root, which has number k for the first of them
unfoldable pub given_by_numbers : List Program → ℕ → List ℕ → List (Binding Local)
given_by_numbers ps k [] = []
given_by_numbers ps k (w ∷ ws) = record { noun = name_at ps w; bound = Fixed (Ref (Prom k)) any_guard } ∷ given_by_numbers ps (suc k) ws

-- The opening turn of vat v, a step of it alone. The root of the vat is the first name that it knows, and then come those that it is given.
unfoldable pub opening_by_numbers : Script → ℕ → Program → ℕ → Vat Name → Vat Local → OwnStep
opening_by_numbers script v p u s q = where_own v u (Some (opening (numbering {W = Wire} (draw_word script.key)) p.tree script.depth (Prom zero) (given_by_numbers script.vats 1 p.knows) q))

-- Vat u, which has state s in world x, has state r in the next one. Where it takes no step, that is the same state. Each step gives a state in numbers that stands for r, with the notes that were put and what has happened;
-- numbers are read by the names and messages that u has in the end, and by what others had exported to it before.
abbrev pub EndsFor : World → ℕ → Vat Name → Vat Name → OwnStep → Type 0
EndsFor x u s r None = r ≡ s
EndsFor x u s r (Some d) = (p : Vat Local) × (d ≡ Gives tt p) × StandsFor u (table_across x u r) p r

-- So it is of each vat, from every state in numbers that stands for what the step finds.
abbrev pub LeadsOn : World → World → (ℕ → Vat Name → Vat Local → OwnStep) → Type 0
LeadsOn x y f = (u : ℕ) (s r : Vat Name) → slice_get x.vats u ≡ Some s → slice_get y.vats u ≡ Some r → (q : Vat Local) → StandsFor u (table_of x u s) q (readied x s) → EndsFor x u s r (f u s q)

-- So it is by each entry of a run in which each notice stands behind a cut of the same two vats.
abbrev pub EntriesByNumbersStand : Type 0
EntriesByNumbersStand = (script : Script) → KnowsOnce script → (w x y : World) (es : List Entry) (e : Entry) (k : ℕ) → NoticesFollowCuts (es ++ e ∷ []) → open_from script zero script.vats (begins script) ≡ Goes w → steps_from script es k w ≡ Goes x → step script e (k + length es) x ≡ Goes y
    → LeadsOn x y (entry_by_numbers script x e)

-- And so it is by each opening turn.
abbrev pub OpeningTurnsByNumbersStand : Type 0
OpeningTurnsByNumbersStand = (script : Script) → KnowsOnce script → (ps rest : List Program) (p : Program) (x y : World) → script.vats ≡ ps ++ p ∷ rest → open_from script zero ps (begins script) ≡ Goes x → open_vat script (length ps) p x ≡ Goes y
    → LeadsOn x y (opening_by_numbers script (length ps) p)
