-- The connections of a world, in names: what each vat has in numbers for each other one, and the frames that it put.
use Rattle.std.specs.Prelude.{ℕ, zero, suc, Bool, true, false, List, [], ◌∷◌, ◌++◌, Option, Some, None, length, slice_get, unwrap_or, ◌==◌}
use Rattle.def_op.specs.Frames.{Operation, spelling}
use Rattle.def_machine.specs.Values.{Name, Root, Object, Promise, Answer, Gift, Sent, same_name, host_of, answer_of}
use Rattle.def_machine.specs.State.{Note, Put}
use Rattle.def_machine.specs.Arrive.{Incoming}
use Rattle.def_run.specs.Connections.{Connection, Sight, Stage, Newcomers, Heard, Learnt, asked_in, frame_now, put_on, note_heard, opened_connections}

-- what vat `from` has for vat `to`
pub record Connected : Type 0 where
  pub from : ℕ
  pub to : ℕ
  pub tables : Connection Name
  -- each frame that it put there, also those that were lost, and how many frames from there have arrived
  pub written : List Operation
  pub heard : ℕ

unfoldable pub is_object : Name → Bool
is_object (Object v i) = true
is_object (Root v) = false
is_object (Promise v i) = false
is_object (Answer h m) = false
is_object (Gift h i) = false
is_object (Sent m) = false

unfoldable pub sight : ℕ → ℕ → Sight Name
sight v w = record { same = same_name; own = λ n. host_of n == v; object = is_object; answer = answer_of w }

-- ---- one among the connections of a world

unfoldable pub unconnected : ℕ → ℕ → Connected
unconnected v w = record { from = v; to = w; tables = record { exports = []; imports = []; questions = []; answers = [] }; written = []; heard = zero }

unfoldable pub connects : ℕ → ℕ → Connected → Bool
connects v w c = elim (c.from == v) [ true ↦ c.to == w | false ↦ false ]

unfoldable pub connected_at : ℕ → ℕ → List Connected → Connected
connected_at v w [] = unconnected v w
connected_at v w (c ∷ cs) = elim (connects v w c) [ true ↦ c | false ↦ connected_at v w cs ]

unfoldable pub with_connected : (Connected → Connected) → ℕ → ℕ → List Connected → List Connected
with_connected f v w [] = f (unconnected v w) ∷ []
with_connected f v w (c ∷ cs) = elim (connects v w c) [ true ↦ f c ∷ cs | false ↦ c ∷ with_connected f v w cs ]

-- ---- notes are put

-- the connection once a note was put on it
unfoldable pub wrote : Note Name → Connected → Connected
wrote n c = record c { tables = put_on (sight c.from c.to) n c.tables; written = c.written ++ frame_now (sight c.from c.to) n c.tables ∷ [] }

-- the connections once vat v put these
unfoldable pub write_all : ℕ → List (Put Name) → List Connected → List Connected
write_all v [] cs = cs
write_all v (p ∷ ps) cs = write_all v ps (with_connected (wrote p.note) v p.to cs)

-- ---- a note arrives

-- what stands at a number in the peer's list
unfoldable pub numbered : ℕ → List Name → ℕ → Name
numbered v ns i = unwrap_or (slice_get ns i) (Root v)

-- what is new is what the peer has at that number; and the message is that
unfoldable pub newcomers : Connected → Name → Newcomers Name Name
newcomers c m = record {
  object = λ p. numbered c.from c.tables.exports p;
  promise = λ p k. numbered c.from c.tables.exports p;
  gift = λ h i k. Gift h i;
  exported = λ p. numbered c.from c.tables.exports p;
  asked = λ q. numbered c.from c.tables.questions q;
  message = m;
}

-- the frame by which a note on connection c arrives at the vat that has d for its peer
unfoldable pub frame_due : Connected → Connected → Option Operation
frame_due c d = slice_get c.written d.heard

unfoldable pub frame_bytes : Option Operation → List ℕ
frame_bytes (Some o) = spelling o
frame_bytes None = []

-- what the vat that has d reads of a frame of its peer, which has c
unfoldable pub read_frame : Connected → Connected → Name → Stage Name → Option Operation → Option (Heard Name (Note (Incoming Name Name)))
read_frame d c m s (Some o) = note_heard is_object d.from d.to (newcomers c m) d.tables o s
read_frame d c m s None = None

unfoldable pub imports_after : List Name → Option (Heard Name (Note (Incoming Name Name))) → List Name
imports_after ns (Some h) = h.after.imports
imports_after ns None = ns

-- what was learnt as a gift moves no position
unfoldable pub first_stage : Connected → Stage Name
first_stage d = record { imports = d.tables.imports; learnt = []; known = zero }

-- the connection d of the receiver once a note arrived
unfoldable pub received : Connected → Note Name → Connected → Connected
received c n d = record d {
  tables = record d.tables {
    imports = imports_after d.tables.imports (read_frame d c (Root c.from) (first_stage d) (frame_due c d));
    answers = d.tables.answers ++ asked_in (sight c.from c.to) n;
  };
  heard = suc d.heard;
}

unfoldable pub hear_at : ℕ → ℕ → Note Name → List Connected → List Connected
hear_at v w n cs = with_connected (received (connected_at v w cs) n) w v cs

-- opens each definition of this file, and of those below
unfoldable pub opened_wire : Unit {0}
unfolding is_object sight unconnected connects connected_at with_connected wrote write_all numbered newcomers frame_due frame_bytes read_frame imports_after first_stage received hear_at opened_connections
opened_wire = tt
