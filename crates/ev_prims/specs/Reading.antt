-- How what a heap holds stands for values of the machine, in local numbers.
use Rattle.std.specs.Prelude.{ℕ, List, [], map, slice_get, unwrap_or}
use Rattle.ev_base.specs.declared.values.Value.{Value as Held}
use Rattle.ev_base.specs.declared.values.Value.TheVariants as held
use Rattle.ev_heap.specs.Contents.{Contents}
use Rattle.ev_heap.specs.declared.kept.Listed.{Listed}
use Rattle.def_machine.specs.Values.{Words, Value, Null, Flag, Number, Letter, Text, Prim, Broken, Items, Ref, Local, Obj, Prom, Far}
use Rattle.def_machine.specs.Native as native
use Rattle.ev_prims.specs.declared.reply.Reply.{Reply}
use Rattle.ev_prims.specs.declared.reply.Reply.TheVariants as reply
use Rattle.ev_prims.specs.Problems.{problem_words}

-- the text of that number, and the empty one where there is none
abbrev pub text_in : Contents → ℕ → Words
text_in h id = unwrap_or (slice_get h.texts id) []

-- a value, where each text has its number
abbrev pub value_by : (ℕ → Words) → Held → Value Local
value_by t held.Null = Null
value_by t (held.Bool b) = Flag b
value_by t (held.Int z) = Number z
value_by t (held.Char c) = Letter c
value_by t (held.Text id) = Text (t id)
value_by t (held.List id) = Items id
value_by t (held.Prim n) = Prim n
value_by t (held.Obj i) = Ref (Obj i)
value_by t (held.Prom k) = Ref (Prom k)
value_by t (held.Far v p) = Ref (Far v p)
value_by t (held.Broken id) = Broken (t id)

abbrev pub value_in : Contents → Held → Value Local
value_in h v = value_by (text_in h) v

-- values, each by itself
abbrev pub values_by : (ℕ → Words) → List Held → List (Value Local)
values_by t vs = map (value_by t) vs

abbrev pub values_in : Contents → List Held → List (Value Local)
values_in h vs = map (value_in h) vs

abbrev pub members_in : Contents → Listed → List (Value Local)
members_in h l = values_in h l.members

-- the lists of a heap
abbrev pub lists_in : Contents → List (List (Value Local))
lists_in h = map (members_in h) h.lists

-- what is answered, where each text has its number
abbrev pub reply_by : (ℕ → Words) → Reply → native.Reply Local
reply_by t (reply.Says v) = native.Says (value_by t v)
reply_by t (reply.Writes u) = native.Writes u
reply_by t (reply.Lists vs) = native.Lists (values_by t vs)
reply_by t (reply.Iterates f vs) = native.Iterates (value_by t f) (values_by t vs)
reply_by t (reply.Fails p) = native.Fails (problem_words p)

abbrev pub reply_in : Contents → Reply → native.Reply Local
reply_in h r = reply_by (text_in h) r
