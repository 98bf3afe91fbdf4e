-- In a note that a frame says no list stands by its number, nor in one that is told by the entries of its receiver.
use Rattle.std.proofs.Common.{◌≡◌, ℕ, Bool, true, false, List, Option, Some, None, sym, subst}
use Rattle.def_op.specs.declared.op.Plain.{Plain as Fact}
use Rattle.def_op.specs.declared.op.Plain.TheVariants as plain
use Rattle.def_op.specs.Frames as op
use Rattle.def_op.specs.Frames.{Described, Members, Outcome, Operation}
use Rattle.def_machine.specs.Values.{Value, Null, Flag, Number, Letter, Text, Prim, Broken, Items, Ref, Name}
use Rattle.def_machine.specs.State.{Passed, Passeds, Plain, AGift, Many, NoMore, More, Note, Deliver, Open, Ask, SettledTo, Elsewhere, Shorten, Vat}
use Rattle.def_machine.specs.Arrive.{Incoming}
use Rattle.def_machine.specs.Maps as maps
use Rattle.def_run.specs.Connections as connections
use Rattle.def_run.specs.Connections.{Connection, Stage, Newcomers, Heard, Hearing, next, told, told_if, told_where}
use Rattle.def_run.specs.Entered as entered
use Rattle.def_run.specs.World.{World}
use Rattle.def_hostile.specs.Hostile as hostile
use Rattle.def_hostile.specs.Hostile.{Play}
use Rattle.law_frozen.specs.Frozen.{PlainPasses, Passes, AllPass, NotePasses}
use Rattle.law_frozen.proofs.Fine.{MayBe}
use Rattle.law_injected.specs.HostileRuns.{IsSpoken}

-- ---- what a frame says

-- what is read of a frame, if anything is, has that property
abbrev Reads : {N A : Type 0} → (A → Type 0) → Option (Heard N A) → Type 0
Reads {N} {A} P o = MayBe (λ (h : Heard N A). P h.read) o

then_reads : {N A B : Type 0} (P : A → Type 0) (Q : B → Type 0) (f : A → Hearing N B) (o : Option (Heard N A)) → Reads P o → ((x : A) (t : Stage N) → P x → Reads Q (f x t)) → Reads Q (next f o)
unfolding next
then_reads P Q f None h g = tt
then_reads P Q f (Some x) h g = g x.read x.after h

-- nothing is asked of it
any_reads : {N A : Type 0} (o : Option (Heard N A)) → Reads (λ (x : A). Unit {0}) o
any_reads None = tt
any_reads (Some x) = tt

where_reads : {N A : Type 0} (P : A → Type 0) (b : Bool) (f : Hearing N A) (s : Stage N) → Reads P (f s) → Reads P (told_where b f s)
unfolding told_where
where_reads P true f s h = h
where_reads P false f s h = tt

module _ {N W : Type 0} (object : N → Bool) (me peer : ℕ) (F : Newcomers N W) (c : Connection N) where
  fact_passes : (x : Fact) → PlainPasses (connections.fact_heard object me peer F c x)
  unfolding connections.fact_heard
  fact_passes plain.Null = tt
  fact_passes (plain.Bool b) = tt
  fact_passes (plain.Int z) = tt
  fact_passes (plain.Char x) = tt
  fact_passes (plain.Text x) = tt
  fact_passes (plain.Prim n) = tt

  gift_passes : (h i : ℕ) (o : Option N) (s : Stage N) → Reads Passes (connections.gift_heard object me peer F c h i o s)
  unfolding connections.gift_heard told
  gift_passes h i (Some n) s = tt
  gift_passes h i None s = tt

  reference_passes : (o : Option (Heard N (Incoming N W))) → Reads Passes (next (connections.reference_heard object me peer F c) o)
  unfolding next connections.reference_heard told
  reference_passes None = tt
  reference_passes (Some x) = tt

  mutual
    unfolding connections.passed_heard connections.all_heard told

    passed_passes : (d : Described) (s : Stage N) → Reads Passes (connections.passed_heard object me peer F c d s)
    passed_passes (op.Datum x) s = fact_passes x
    passed_passes (op.Broken p) s = tt
    passed_passes (op.ListOf ds) s = then_reads AllPass Passes _ (connections.all_heard object me peer F c ds s) (all_passes ds s) (λ ys t h. h)
    passed_passes (op.Third h w) s = gift_passes h _ _ s
    passed_passes (op.MyExport p) s = reference_passes _
    passed_passes (op.MyPromise p) s = reference_passes _
    passed_passes (op.YourExport p) s = reference_passes _
    passed_passes (op.MyAnswer q) s = reference_passes _
    passed_passes (op.YourAnswer q) s = reference_passes _

    all_passes : (ds : Members) (s : Stage N) → Reads AllPass (connections.all_heard object me peer F c ds s)
    all_passes op.none s = tt
    all_passes (op.more d ds) s = then_reads Passes AllPass _ (connections.passed_heard object me peer F c d s) (passed_passes d s)
        (λ y t p. then_reads AllPass AllPass _ (connections.all_heard object me peer F c ds t) (all_passes ds t) (λ ys u q. (p, q)))

  message_passes : (asks : Bool) (d : Described) (verb : List ℕ) (ds : Members) (s : Stage N) → Reads NotePasses (connections.message_heard object me peer F c asks d verb ds s)
  unfolding connections.message_heard told
  message_passes asks d verb ds s = then_reads (λ x. Unit {0}) NotePasses _ (connections.name_heard object me peer F c d s) (any_reads _)
      (λ x t h. then_reads AllPass NotePasses _ (connections.all_heard object me peer F c ds t) (all_passes ds t) (λ ys u q. q))

  outcome_passes : (x : Incoming N W) (o : Outcome) (s : Stage N) → Reads NotePasses (connections.outcome_heard object me peer F c x o s)
  unfolding connections.outcome_heard told
  outcome_passes x (op.To d) s = then_reads Passes NotePasses _ (connections.passed_heard object me peer F c d s) (passed_passes d s) (λ y t h. h)
  outcome_passes x (op.Elsewhere h) s = tt

  pub heard_passes : (o : Operation) (s : Stage N) → Reads NotePasses (connections.note_heard object me peer F c o s)
  unfolding connections.note_heard told
  heard_passes (op.Deliver q d verb ds) s = where_reads NotePasses _ _ s (message_passes true d verb ds s)
  heard_passes (op.DeliverOnly d verb ds) s = message_passes false d verb ds s
  heard_passes (op.Provide d w) s = then_reads (λ x. Unit {0}) NotePasses _ (connections.name_heard object me peer F c d s) (any_reads _) (λ x t h. tt)
  heard_passes (op.Accept q p w) s = where_reads NotePasses _ _ s tt
  heard_passes (op.Resolve d o) s = then_reads (λ x. Unit {0}) NotePasses _ (connections.name_heard object me peer F c d s) (any_reads _) (λ x t h. outcome_passes x o t)
  heard_passes (op.Shorten d w) s = then_reads (λ x. Unit {0}) NotePasses _ (connections.name_heard object me peer F c d s) (any_reads _) (λ x t h. tt)

-- ---- with its names changed

module _ {N M : Type 0} (f : N → M) where
  value_renamed : (y : Value N) → PlainPasses y → PlainPasses (maps.value f y)
  value_renamed (Items k) h = absurd h
  value_renamed Null h = tt
  value_renamed (Flag b) h = tt
  value_renamed (Number z) h = tt
  value_renamed (Letter x) h = tt
  value_renamed (Text t) h = tt
  value_renamed (Prim n) h = tt
  value_renamed (Broken p) h = tt
  value_renamed (Ref n) h = tt

  mutual
    passed_renamed : (y : Passed N) → Passes y → Passes (maps.passed f y)
    passed_renamed (Plain y) h = value_renamed y h
    passed_renamed (AGift p i) h = tt
    passed_renamed (Many ys) h = all_renamed ys h

    all_renamed : (ys : Passeds N) → AllPass ys → AllPass (maps.passeds f ys)
    all_renamed NoMore h = tt
    all_renamed (More y ys) h = (passed_renamed y h.0, all_renamed ys h.1)

  note_renamed : (n : Note N) → NotePasses n → NotePasses (maps.note f n)
  note_renamed (Deliver d n verb ys) h = all_renamed ys h
  note_renamed (Open i n) h = tt
  note_renamed (Ask p i n) h = tt
  note_renamed (SettledTo n y) h = passed_renamed y h
  note_renamed (Elsewhere n c) h = tt
  note_renamed (Shorten n c i) h = tt

completed_passes : (play : Play) (u : ℕ) (s : Vat Name) (n : Note Name) → NotePasses n → NotePasses (hostile.completed play u s n)
unfolding hostile.completed
completed_passes play u s (Deliver d n verb ys) h = h
completed_passes play u s (Open i n) h = tt
completed_passes play u s (Ask p i n) h = tt
completed_passes play u s (SettledTo n y) h = h
completed_passes play u s (Elsewhere n c) h = tt
completed_passes play u s (Shorten n c i) h = tt

-- where it was read, it has the property
was_read : {N A : Type 0} (P : A → Type 0) (o : Option (Heard N A)) (h : Heard N A) → o ≡ Some h → Reads P o → P h.read
was_read P o h e r = rw e at r

pub spoken_passes : (play : Play) (w : World) (h u : ℕ) (t : Vat Name) (n : Note Name) (op : Operation) (new : List Name) → IsSpoken play w h u t n op new → NotePasses n
unfolding hostile.read_op
spoken_passes play w h u t n op new s =
    let read : NotePasses s.heard.read = was_read NotePasses _ s.heard s.reads (heard_passes _ u h _ _ op _) in
    subst (λ (x : Note Name). NotePasses x) (sym s.says) (completed_passes play u s.reader (maps.note hostile.name_in s.heard.read) (note_renamed hostile.name_in s.heard.read read))

-- ---- by the entries of its receiver

module _ (u v : ℕ) (exports : List Name) where
  value_entered : (y : Value Name) → PlainPasses y → PlainPasses (entered.entry_value u v exports y)
  unfolding entered.entry_value
  value_entered (Items k) h = absurd h
  value_entered Null h = tt
  value_entered (Flag b) h = tt
  value_entered (Number z) h = tt
  value_entered (Letter x) h = tt
  value_entered (Text t) h = tt
  value_entered (Prim n) h = tt
  value_entered (Broken p) h = tt
  value_entered (Ref n) h = tt

  gift_entered : (h i : ℕ) (ks : List Name) (b : Bool) → Passes (entered.entered_gift u v exports h i ks b).read
  unfolding entered.entered_gift
  gift_entered h i ks true = tt
  gift_entered h i ks false = tt

  mutual
    unfolding entered.entered_passed entered.entered_all entered.many_entered entered.more_entered

    passed_entered : (y : Passed Name) (ks : List Name) → Passes y → Passes (entered.entered_passed u v exports y ks).read
    passed_entered (Plain y) ks h = value_entered y h
    passed_entered (AGift p i) ks h = gift_entered p i ks _
    passed_entered (Many ys) ks h = all_entered ys ks h

    all_entered : (ys : Passeds Name) (ks : List Name) → AllPass ys → AllPass (entered.entered_all u v exports ys ks).read
    all_entered NoMore ks h = tt
    all_entered (More y ys) ks h = (passed_entered y ks h.0, all_entered ys _ h.1)

  pub entered_passes : (ks : List Name) (n : Note Name) → NotePasses n → NotePasses (entered.entered u v exports ks n)
  unfolding entered.entered
  entered_passes ks (Deliver d n verb ys) h = all_entered ys ks h
  entered_passes ks (Open i n) h = tt
  entered_passes ks (Ask p i n) h = tt
  entered_passes ks (SettledTo n y) h = passed_entered y ks h
  entered_passes ks (Elsewhere n c) h = tt
  entered_passes ks (Shorten n c i) h = tt
