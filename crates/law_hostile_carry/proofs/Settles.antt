-- A lawful frame settles a name to no promise: the judge lets no name of the two vats stand there but an object of the sender.
use Rattle.std.proofs.Common.{◌≡◌, ℕ, suc, ◌≤◌, Bool, true, false, ◌==◌, List, [], ◌∷◌, ◌++◌, map, length, slice_get, option_map, unwrap_or, Option, Some, None, refl, ap, subst, sym, ◌∙◌, arith, append_assoc}
use Rattle.std.proofs.lemmas.Bool.{eqb-true}
use Rattle.std.proofs.lemmas.List.{map-append}
use Rattle.std.proofs.lemmas.Option.{slice_get-map}
use Rattle.def_op.specs.declared.spots.Part.{Part}
use Rattle.def_op.specs.declared.spots.Part.TheVariants.{Code}
use Rattle.def_op.specs.declared.op.Plain.{Plain as Fact}
use Rattle.def_op.specs.declared.op.Plain.TheVariants as plain
use Rattle.def_op.specs.Frames as op
use Rattle.def_op.specs.Frames.{Described, Members, Outcome, Operation}
use Rattle.def_op.specs.Reading.{op_at}
use Rattle.def_op.specs.Items.{walk_op, items_of}
use Rattle.def_machine.specs.Values.{Name, Root, Object, Sent}
use Rattle.def_machine.specs.State.{Passed, Plain, Note, Deliver, Open, Ask, SettledTo, Elsewhere, Shorten, Vat}
use Rattle.def_machine.specs.Arrive.{Incoming, Old}
use Rattle.def_machine.specs.Maps as maps
use Rattle.def_run.specs.Connections as reading
use Rattle.def_run.specs.Connections.{Connection, Stage, Newcomers, Heard}
use Rattle.def_run.specs.Wire.{is_object, numbered, connected_at}
use Rattle.def_hostile.specs.Judge.{Counts, same_kind, Look, On, begins, is_bad_target, is_name_code, code_passes, item_passes, first_look, Lawful, verdict}
use Rattle.def_hostile.specs.Hostile as hostile
use Rattle.def_hostile.specs.Hostile.{Play, name_in, new_names}
use Rattle.law_judge.specs.PartsOf.{first_code, parts_behind, parts_in, parts_outcome, parts_op}
use Rattle.law_judge.specs.Points.{at_position, in_described}
use Rattle.law_judge.proofs.ReadParts.{op_says}
use Rattle.law_judge.proofs.Running.{run, splits, judged_runs, code_runs}
use Rattle.law_judge.proofs.Meeting.{Gathers, says, my_promise_says, my_answer_says}
use Rattle.law_judge.proofs.Growing.{allowed_by}
use Rattle.law_judge.proofs.Operations.{items_are}
use Rattle.law_judge.proofs.Spelled.{lawful_stands}
use Rattle.law_lawful.proofs.Shapes.{IsSubject, accepted_shaped}
use Rattle.law_fate.specs.Fates.Lasting.{NamesObject, NamesMessage, PassedLast, NoteWell}
use Rattle.law_hostile_carry.specs.Settles.{FramesSettleWell}

-- ---- what may stand there

-- it is no name of the two vats; or a position, at which there is an object in the end
abbrev pub Settles : List Bool → Described → Type 0
Settles kinds (op.Datum x) = Unit {0}
Settles kinds (op.ListOf ds) = Unit {0}
Settles kinds (op.Broken t) = Unit {0}
Settles kinds (op.MyExport p) = slice_get kinds p ≡ Some true
Settles kinds other = ⊥

behind_them : (xs : List Bool) (x : Bool) → slice_get (xs ++ x ∷ []) (length xs) ≡ Some x
behind_them [] x = refl
behind_them (y ∷ xs) x = behind_them xs x

module _ (vats me peer : ℕ) (c : Counts) where
  at_place : (p : ℕ) (o : Option Bool) (new kinds : List Bool) → slice_get (c.imports ++ new) p ≡ o → at_position vats me peer c true p o new ≡ Some kinds → slice_get (c.imports ++ kinds) p ≡ Some true
  unfolding at_position same_kind
  at_place p (Some true) new kinds i e = let a = allowed_by _ new kinds e in subst (λ ks. slice_get (c.imports ++ ks) p ≡ Some true) a.1 i
  at_place p (Some false) new kinds i e = let a = allowed_by _ new kinds e in let b : false ≡ true = a.0 in absurd cc
  at_place p None new kinds i e = let a = allowed_by (p == length (c.imports ++ new)) (new ++ true ∷ []) kinds e in let is : p ≡ length (c.imports ++ new) = eqb-true p (length (c.imports ++ new)) a.0 in
      subst (λ ks. slice_get (c.imports ++ ks) p ≡ Some true) a.1 (subst (λ z. slice_get z p ≡ Some true) (append_assoc c.imports new (true ∷ [])) (subst (λ z. slice_get ((c.imports ++ new) ++ true ∷ []) z ≡ Some true) (sym is) (behind_them (c.imports ++ new) true)))

  not_name : (b : ℕ) (l : Look) → l.index ≡ 3 → l.op ≡ 2 → is_bad_target vats me peer c b l ≡ false → is_name_code b ≡ false
  unfolding is_bad_target
  not_name b l i o e = let is : is_bad_target vats me peer c b l ≡ is_name_code b = rw (i, o) refl in sym is ∙ e

  -- behind the promise, whatever is new so far
  may_settle : (d : Described) (l after : Look) → is_name_code (first_code d) ≡ false → in_described vats me peer c d l.new ≡ Some after.new → Settles (c.imports ++ after.new) d
  unfolding is_name_code first_code in_described
  may_settle (op.Datum x) l after e g = tt
  may_settle (op.ListOf ds) l after e g = tt
  may_settle (op.Broken t) l after e g = tt
  may_settle (op.MyExport p) l after e g = at_place p (slice_get (c.imports ++ l.new) p) l.new after.new refl g
  may_settle (op.YourExport p) l after e g = absurd cc
  may_settle (op.YourAnswer p) l after e g = absurd cc
  may_settle (op.MyPromise p) l after e g = absurd cc
  may_settle (op.Third h w) l after e g = absurd cc
  may_settle (op.MyAnswer p) l after e g = absurd cc

  subject_passes : (d : Described) → IsSubject d → (l after : Look) → 1 ≤ l.index → run vats me peer c (parts_in d) l ≡ On after → Gathers (in_described vats me peer c d) l after × (after.index ≡ suc (suc l.index))
  subject_passes (op.MyPromise n) is l after some e = my_promise_says vats me peer c n l after some e
  subject_passes (op.MyAnswer n) is l after some e = my_answer_says vats me peer c n l after some e
  subject_passes other is l after some e = absurd is

  abbrev begun_at : ℕ → Look
  begun_at b = record { index = 1; op = b; code = None; new = [] }

  op_goes : (b : ℕ) (ps : List Part) (after : Look) → run vats me peer c (Code b ∷ ps) first_look ≡ On after → run vats me peer c ps (begun_at b) ≡ On after
  unfolding item_passes code_passes begins first_look
  op_goes b ps after e = e

  resolve_runs : (subject d : Described) (after : Look) → IsSubject subject → run vats me peer c (parts_op (op.Resolve subject (op.To d))) first_look ≡ On after → Settles (c.imports ++ after.new) d
  unfolding parts_op parts_outcome
  resolve_runs subject d after is e =
      let parts = splits vats me peer c (parts_in subject) (parts_in d) (begun_at 2) after (op_goes 2 (parts_in subject ++ parts_in d) after e) in
      let g = subject_passes subject is (begun_at 2) parts.0 (omega arith) parts.1 in
      let some : 1 ≤ parts.0.index = let i = g.1 in omega (arith, i) in
      let bad = (code_runs vats me peer c (first_code d) (parts_behind d) parts.0 after some parts.2).0 in
      let s = says vats me peer c d parts.0 after some parts.2 in
      may_settle d parts.0 after (not_name (first_code d) parts.0 g.1 g.0.1 bad) s.0

  pub lawful_settles : (bytes : List ℕ) (subject d : Described) (kinds : List Bool) → verdict vats me peer c bytes ≡ Lawful (op.Resolve subject (op.To d)) kinds → Settles (c.imports ++ kinds) d
  lawful_settles bytes subject d kinds e =
      let o : Operation = op.Resolve subject (op.To d) in
      let stands = lawful_stands vats me peer c bytes o kinds e in
      let runs = judged_runs vats me peer c (items_of bytes).spots first_look kinds stands.1 in
      let parts = items_are bytes (walk_op (length bytes) [] bytes) (op_at bytes) (o, stands.2.0) (op_says (length bytes) [] bytes) stands.2.1 in
      let ran = sym (ap (λ (ps : List Part). run vats me peer c ps first_look) parts) ∙ runs.1 in
      subst (λ ks. Settles (c.imports ++ ks) d) runs.2 (resolve_runs subject d runs.0 (accepted_shaped vats me peer c bytes o kinds e) ran)

-- ---- what is read

-- the new names are of the kinds that were said
kinds_of_names : (h objects promises : ℕ) (new : List Bool) → map is_object (new_names h objects promises new) ≡ new
unfolding new_names is_object
kinds_of_names h objects promises [] = refl
kinds_of_names h objects promises (true ∷ ks) = ap (λ (bs : List Bool). true ∷ bs) (kinds_of_names h (suc objects) promises ks)
kinds_of_names h objects promises (false ∷ ks) = ap (λ (bs : List Bool). false ∷ bs) (kinds_of_names h objects (suc promises) ks)

kind_at : (h : ℕ) (o : Option Name) → option_map is_object o ≡ Some true → is_object (unwrap_or o (Root h)) ≡ true
kind_at h (Some n) e = cc
kind_at h None e = absurd cc

-- an object stands at that position
object_stands : (h objects promises : ℕ) (imports : List Name) (kinds : List Bool) (p : ℕ) → slice_get (map is_object imports ++ kinds) p ≡ Some true → is_object (numbered h (imports ++ new_names h objects promises kinds) p) ≡ true
unfolding numbered
object_stands h objects promises imports kinds p e = let names : List Name = imports ++ new_names h objects promises kinds in
    let all : map is_object names ≡ map is_object imports ++ kinds = map-append is_object imports (new_names h objects promises kinds) ∙ ap (λ (ks : List Bool). map is_object imports ++ ks) (kinds_of_names h objects promises kinds) in
    kind_at h (slice_get names p) (sym (slice_get-map is_object names p) ∙ ap (λ (ks : List Bool). slice_get ks p) all ∙ e)

names_object : (n : Name) → is_object n ≡ true → NamesObject n
unfolding is_object
names_object (Object v i) e = tt
names_object other e = cc

-- what is read of a part, where it is read
abbrev Reads : {A : Type 0} → (A → Type 0) → Option (Heard Name A) → Type 0
Reads P (Some h) = P h.read
Reads P None = Unit {0}

then_reads : {A B : Type 0} (P : A → Type 0) (Q : B → Type 0) (f : A → reading.Hearing Name B) (o : Option (Heard Name A)) → Reads P o → ((a : A) (t : Stage Name) → P a → Reads Q (f a t)) → Reads Q (reading.next f o)
unfolding reading.next
then_reads P Q f None h g = tt
then_reads P Q f (Some x) h g = g x.read x.after h

any_reads : {A B : Type 0} (Q : B → Type 0) (f : A → reading.Hearing Name B) (o : Option (Heard Name A)) → ((a : A) (t : Stage Name) → Reads Q (f a t)) → Reads Q (reading.next f o)
unfolding reading.next
any_reads Q f None g = tt
any_reads Q f (Some x) g = g x.read x.after

where_reads : {A : Type 0} (P : A → Type 0) (b : Bool) (f : reading.Hearing Name A) (s : Stage Name) → (b ≡ true → Reads P (f s)) → Reads P (reading.told_where b f s)
unfolding reading.told_where
where_reads P true f s h = h refl
where_reads P false f s h = tt

-- a name is known by then as an object
abbrev OldObject : Incoming Name Name → Type 0
OldObject x = is_object (name_in x) ≡ true

-- what passes for what a name settled to
abbrev Last : Passed (Incoming Name Name) → Type 0
Last y = PassedLast (maps.passed name_in y)

module _ (me peer : ℕ) (F : Newcomers Name Name) (c : Connection Name) where
  object_reads : (p : ℕ) → is_object (F.object p) ≡ true → (s : Stage Name) → Reads OldObject (reading.name_heard is_object me peer F c (op.MyExport p) s)
  unfolding reading.name_heard reading.object_heard reading.new_object reading.told name_in
  object_reads p new s = either (slice_get s.imports p)
    where
      either : (o : Option Name) → Reads OldObject (reading.object_heard is_object me peer F c p o s)
      either (Some n) = where_reads OldObject (is_object n) (reading.told (Old n)) s (λ e. e)
      either None = where_reads OldObject (p == length s.imports) (reading.new_object is_object me peer F c p) s (λ e. new)

  fact_last : (x : Fact) → PassedLast (maps.passed name_in (Plain (reading.fact_heard is_object me peer F c x)))
  unfolding reading.fact_heard
  fact_last plain.Null = tt
  fact_last (plain.Bool b) = tt
  fact_last (plain.Int z) = tt
  fact_last (plain.Char x) = tt
  fact_last (plain.Text x) = tt
  fact_last (plain.Prim n) = tt

  -- it is no name of the two vats, but an object of the sender
  abbrev pub Good : Described → Type 0
  Good (op.Datum x) = Unit {0}
  Good (op.ListOf ds) = Unit {0}
  Good (op.Broken t) = Unit {0}
  Good (op.MyExport p) = is_object (F.object p) ≡ true
  Good other = ⊥

  passed_last : (d : Described) → Good d → (s : Stage Name) → Reads Last (reading.passed_heard is_object me peer F c d s)
  unfolding reading.passed_heard reading.reference_heard reading.told
  passed_last (op.Datum x) g s = fact_last x
  passed_last (op.Broken t) g s = tt
  passed_last (op.ListOf ds) g s = any_reads Last _ (reading.all_heard is_object me peer F c ds s) (λ ys t. tt)
  passed_last (op.MyExport p) g s = then_reads OldObject Last _ (reading.name_heard is_object me peer F c (op.MyExport p) s) (object_reads p g s) (λ x t h. names_object (name_in x) h)
  passed_last other g s = absurd g

  abbrev pub Well : Note (Incoming Name Name) → Type 0
  Well n = NoteWell (maps.note name_in n)

  abbrev pub GoodOp : Operation → Type 0
  GoodOp (op.Resolve d (op.To e)) = Good e
  GoodOp other = Unit {0}

  message_well : NamesMessage F.message → (asks : Bool) (d : Described) (verb : List ℕ) (ds : Members) (s : Stage Name) → Reads Well (reading.message_heard is_object me peer F c asks d verb ds s)
  unfolding reading.message_heard reading.told name_in
  message_well named asks d verb ds s = any_reads Well _ (reading.name_heard is_object me peer F c d s) (λ x t. any_reads Well _ (reading.all_heard is_object me peer F c ds t) (λ ys z. named))

  outcome_well : (d : Described) (x : Incoming Name Name) (o : Outcome) → GoodOp (op.Resolve d o) → (s : Stage Name) → Reads Well (reading.outcome_heard is_object me peer F c x o s)
  unfolding reading.outcome_heard reading.told
  outcome_well d x (op.To e) g s = then_reads Last Well _ (reading.passed_heard is_object me peer F c e s) (passed_last e g s) (λ y t h. h)
  outcome_well d x (op.Elsewhere h) g s = tt

  pub note_well : NamesMessage F.message → (o : Operation) → GoodOp o → (s : Stage Name) → Reads Well (reading.note_heard is_object me peer F c o s)
  unfolding reading.note_heard reading.told
  note_well named (op.Deliver q d verb ds) g s = where_reads Well (q == length c.answers) _ s (λ e. message_well named true d verb ds s)
  note_well named (op.DeliverOnly d verb ds) g s = message_well named false d verb ds s
  note_well named (op.Provide d w) g s = any_reads Well _ (reading.name_heard is_object me peer F c d s) (λ x t. tt)
  note_well named (op.Accept q p w) g s = where_reads Well (q == length c.answers) _ s (λ e. tt)
  note_well named (op.Resolve d o) g s = any_reads Well _ (reading.name_heard is_object me peer F c d s) (λ x t. outcome_well d x o g t)
  note_well named (op.Shorten d w) g s = any_reads Well _ (reading.name_heard is_object me peer F c d s) (λ x t. tt)

-- ---- what a frame says

was_read : {A : Type 0} (P : A → Type 0) (o : Option (Heard Name A)) (h : Heard Name A) → o ≡ Some h → Reads P o → P h.read
was_read P o h e r = rw e at r

completed_well : (play : Play) (u : ℕ) (s : Vat Name) (n : Note Name) → NoteWell n → NoteWell (hostile.completed play u s n)
unfolding hostile.completed
completed_well play u s (Deliver d n verb ys) h = h
completed_well play u s (Open i n) h = tt
completed_well play u s (Ask p i n) h = tt
completed_well play u s (SettledTo n y) h = h
completed_well play u s (Elsewhere n c) h = tt
completed_well play u s (Shorten n c i) h = tt

good_op : (h u vats objects promises : ℕ) (c : Connection Name) (bytes : List ℕ) (o : Operation) (kinds : List Bool) (m : Name) → verdict vats u h (hostile.counts c) bytes ≡ Lawful o kinds → GoodOp u h (hostile.newcomers h (c.imports ++ new_names h objects promises kinds) m) c o
unfolding hostile.newcomers hostile.counts
good_op h u vats objects promises c bytes (op.Resolve d (op.To e)) kinds m v = by e (lawful_settles vats u h (hostile.counts c) bytes d e kinds v)
  where
    by : (e : Described) → Settles ((hostile.counts c).imports ++ kinds) e → Good u h (hostile.newcomers h (c.imports ++ new_names h objects promises kinds) m) c e
    by (op.MyExport p) s = object_stands h objects promises c.imports kinds p s
    by (op.Datum x) s = tt
    by (op.ListOf ds) s = tt
    by (op.Broken t) s = tt
    by other s = absurd s
good_op h u vats objects promises c bytes other kinds m v = tt

pub frames_settle_well : FramesSettleWell
unfolding hostile.read_op hostile.newcomers
frames_settle_well play w h u t n o new s = let m : Name = Sent (record { sender = h; number = s.record_of.messages }) in let c : Connection Name = (connected_at u h w.connections).tables in
    let read = was_read _ _ s.heard s.reads (note_well u h _ c (_, refl) o (good_op h u (length play.script.vats) (length s.record_of.things) s.record_of.promises c s.bytes o s.kinds m s.lawful) _) in
    subst (λ (z : Note Name). NoteWell z) (sym s.says) (completed_well play u s.reader (maps.note name_in s.heard.read) read)
