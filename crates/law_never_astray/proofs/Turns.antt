-- An opening turn, and a turn that takes a message on a value of its vat, go astray in a bad state alone.
use Rattle.std.proofs.Common.{◌≡◌, ℕ, zero, suc, List, [], ◌∷◌, ◌++◌, Option, Some, None, length, arith}
use Rattle.def_machine.specs.Values.{Words, Value, Broken, Naming}
use Rattle.def_machine.specs.State.{Binding, Message, Known, Took, Finished, Threw, Vat, Stop, Astray, Done, Gives, Throws, Ejects, Stops, Act, ◌>>=◌, ◌>>◌, and_then, end_by, ending, for_some, give, tell, new_activation}
use Rattle.def_machine.specs.Refs.{settle, resolve}
use Rattle.def_machine.specs.Calls as calls
use Rattle.def_machine.specs.Eval as eval
use Rattle.def_kernel.specs.declared.node.Node.{Node}
use Rattle.def_kernel.specs.declared.shape.Kind.TheVariants.{Expression}
use Rattle.def_kernel.specs.Trees.{IsTree}
use Rattle.ev_reader.specs.Scopes.{first_fault}
use Rattle.law_never_astray.proofs.AcceptedTrees.{accepted_scoped}
use Rattle.law_machine.proofs.Machine.Walks.{walk_bind, walk_give}
use Rattle.law_fate.proofs.Name.Facts.{Fact, Also, IsName, IsValue, AreNouns, IsMessage, MayName, answer, nothing, Holds}
use Rattle.law_fate.proofs.Name.Care.{Care, Under, Sound, Gets, rise, got_nothing, fine_activation, fine_tell, told_finished, told_threw}
use Rattle.law_never_astray.specs.Levels.{ListsEnd, LevelsSuffice}
use Rattle.law_never_astray.specs.Covered.{Carries}
use Rattle.law_never_astray.specs.CoveredLaws.{AreGiven}
use Rattle.law_never_astray.proofs.Parts.{tree_formed}
use Rattle.law_never_astray.proofs.Leads.{Kept, Nothing}
use Rattle.law_never_astray.proofs.CoveredLaws.{covers_given, covers_none}
use Rattle.law_never_astray.proofs.CoveredEval as stand
use Rattle.law_never_astray.specs.Ejections.{NoneIsLive}
use Rattle.law_never_astray.proofs.Awaits.{AwaitedBy, EndsAwaited, awaited_closed}
use Rattle.law_never_astray.proofs.AwaitsEval as awaits
use Rattle.law_never_astray.specs.Near.{IsNear}
use Rattle.law_never_astray.proofs.Good.{Good, Goes, good_forget, good_next, good_give, good_told, good_some_name, go_unit}
use Rattle.law_never_astray.proofs.Natives.{Works, work_break, work_resolve}
use Rattle.law_never_astray.proofs.Eval.{NamesThere, lift, top, val, good_turn_value}
use Rattle.law_never_astray.proofs.Depths.{good_evaluator, good_call}

-- where it gives, what is kept is kept; and where it stops astray, it is in a bad state
abbrev pub OffIn : {N A : Type 0} → (Vat N → Type 0) → (List (Message N) → List (Known N) → Type 0) → Done N A → Type 0
OffIn Bad Rests (Gives a t) = Rests t.queue t.known
OffIn Bad Rests (Stops c t) = c ≡ Astray → Bad t
OffIn Bad Rests other = Unit {0}

module _ {N W : Type 0} (K : Naming N W) (S : Care N) (law : Under K S) (tree : List Node) (Bad : Vat N → Type 0) (Rests : List (Message N) → List (Known N) → Type 0) (works : Works K S tree Bad Rests) (names : NamesThere K S) (suffice : LevelsSuffice K tree)
    (before : (d act : ℕ) (x : Value N) (verb : Words) (args : List (Value N)) (s t : Vat N) (c : Stop) → Rests s.queue s.known → calls.call K tree (eval.evaluator K tree d) act x verb args s ≡ Stops c t → (ListsEnd K s → Bad t) → Bad t) where
  goes_off : {A : Type 0} (H : A → Fact N) (G : ℕ → A → Type 0) (s : Vat N) (d : Done N A) → Goes S tree Bad Rests H G s d → OffIn Bad Rests d
  goes_off H G s (Gives a t) h = h.2
  goes_off H G s (Stops c t) h = h.1
  goes_off H G s other h = tt

  -- ---- how a turn ends

  finishes : {C : Fact N} (act : ℕ) (o : Option N) (v : Value N) → Gets S C (MayName o) → Gets S C (IsValue v) → Good S tree Bad Rests C zero (tell (Finished act v) >> for_some o (λ p. resolve K p v) (give tt)) nothing Nothing
  finishes {C = C} act o v g h = go_unit S tree Bad Rests (good_told S tree Bad Rests _ (told_finished S act v)) (good_some_name S tree Bad Rests o g (λ p. work_resolve K S tree Bad Rests works p (top S) v (lift S h)) (good_give S tree Bad Rests tt (got_nothing S C)))

  throws : {C : Fact N} (act : ℕ) (o : Option N) (t : Words) → Gets S C (MayName o) → Good S tree Bad Rests C zero (tell (Threw act t) >> for_some o (λ p. settle K p (Broken t)) (give tt)) nothing Nothing
  throws {C = C} act o t g = go_unit S tree Bad Rests (good_told S tree Bad Rests _ (told_threw S act t)) (good_some_name S tree Bad Rests o g (λ p. work_break K S tree Bad Rests works p (top S) t) (good_give S tree Bad Rests tt (got_nothing S C)))

  ends_off : (C : Fact N) (act : ℕ) (o : Option N) (s : Vat N) (d : Done N (Value N)) (h : ℕ → Value N → Act N (Unit {0})) → Gets S C (MayName o) → Holds (S.ok s) C → Goes S tree Bad Rests IsValue Nothing s d → EndsAwaited [] d
      → OffIn Bad Rests (end_by (λ v. tell (Finished act v) >> for_some o (λ p. resolve K p v) (give tt)) (λ t. tell (Threw act t) >> for_some o (λ p. settle K p (Broken t)) (give tt)) h d)
  unfolding end_by
  ends_off C act o s (Gives v t) h g c e a = let f = e.0 in let l = e.1 in goes_off nothing Nothing t _ ((finishes {C = Also C (IsValue v)} act o v (lift S g) (top S)).after t f.1 (rise S s t f.0 C c, f.2) (omega arith, l.0.1) e.2)
  ends_off C act o s (Throws p t) h g c e a = let f = e.0 in let l = e.1 in goes_off nothing Nothing t _ ((throws {C = C} act o p g).after t f.1 (rise S s t f.0 C c) (omega arith, l.1) e.2)
  ends_off C act o s (Ejects i v t) h g c e a = absurd a.1
  ends_off C act o s (Stops r t) h g c e a = e.1

  -- a turn that no ejector leaves
  closes_off : (C : Fact N) (act : ℕ) (o : Option N) (m : Act N (Value N)) (s : Vat N) → Gets S C (MayName o) → Sound S s → Holds (S.ok s) C → Kept tree zero s → Rests s.queue s.known → Good S tree Bad Rests C zero m IsValue Nothing → EndsAwaited [] (m s) → OffIn Bad Rests (eval.closes K tree act o m s)
  unfolding eval.closes ending
  closes_off C act o m s g h c k r good a = ends_off C act o s (m s) _ g c (good.after s h c k r) a

  pub taking_off : (depth : ℕ) (m : Message N) (s : Vat N) → Sound S s → Holds (S.ok s) (IsMessage m) → Carries tree s → Rests s.queue s.known → NoneIsLive s.things → IsNear K m.target → OffIn Bad Rests (eval.taking K tree depth m s)
  unfolding eval.taking ◌>>=◌ ◌>>◌ and_then new_activation tell
  taking_off depth m s h c carries r live near =
      let one : Vat N = record s { activations = suc s.activations } in let two : Vat N = record one { happened = one.happened ++ Took s.activations m ∷ [] } in
      let e = (fine_activation S {C = IsMessage m}).after s h c in let d : Holds (S.ok one) (IsMessage m) = rise S s one e.0 (IsMessage m) c in
      let f = (fine_tell K S law {C = IsMessage m} (Took s.activations m)).after one e.1 d in let x : Holds (S.ok two) (IsMessage m) = rise S one two f.0 (IsMessage m) d in
      let rec = good_evaluator K S tree Bad Rests works names suffice before depth in let again = good_call K S tree Bad Rests works names suffice before depth rec in
      closes_off (IsMessage m) s.activations m.answer _ two (record { at = λ t q. q.3 }) f.1 x (omega arith, carries) r
      (good_turn_value K S tree Bad Rests works (eval.evaluator K tree depth) rec names again (IsMessage m) zero s.activations m.target (record { at = λ t q. q.1 }) near m.verb m.args (record { at = λ t q. q.2 }))
      ((awaits.await_turn_value K tree [] (eval.evaluator K tree depth) (awaits.good_evaluator K tree depth) s.activations m.target m.verb m.args).after two live)

  -- what an opening turn evaluates
  abbrev Program : ℕ → ℕ → List (Binding N) → Act N (Value N)
  Program depth act given = (eval.evaluator K tree depth).expression 0 (record { act = act; nouns = given }) >>= λ x. give x.value

  program_good : (C : Fact N) (depth act : ℕ) (given : List (Binding N)) (known : List Words) → Gets S C (AreNouns given) → IsTree tree → first_fault tree known ≡ None → AreGiven given known → Good S tree Bad Rests C zero (Program depth act given) IsValue Nothing
  program_good C depth act given known i t f g = let a = accepted_scoped tree known t f in let formed = tree_formed tree Expression 0 (length tree) t (length tree) (omega arith) in let rec = good_evaluator K S tree Bad Rests works names suffice before depth in
      good_next S tree Bad Rests answer (good_forget S tree Bad Rests (stand.answer a.0) (rec.expression C zero _ a.0 0 (record { act = act; nouns = given }) i tt formed a.1 (covers_given zero given known [] g (covers_none zero given)))) (λ x. good_give S tree Bad Rests x.value (val S x))

  program_awaits : (depth act : ℕ) (given : List (Binding N)) (s : Vat N) → NoneIsLive s.things → EndsAwaited [] (Program depth act given s)
  program_awaits depth act given s live = let rec = awaits.good_evaluator K tree depth in
      (walk_bind (AwaitedBy []) (awaited_closed []) {f = λ x. give x.value} (rec.expression [] 0 (record { act = act; nouns = given })) (λ x. walk_give (AwaitedBy []) (awaited_closed []) x.value)).after s live

  pub opening_off : (depth : ℕ) (root : N) (given : List (Binding N)) (known : List Words) (s : Vat N) → IsTree tree → first_fault tree known ≡ None → AreGiven given known → Sound S s → Holds (S.ok s) (Also (IsName root) (AreNouns given)) → Carries tree s → Rests s.queue s.known → NoneIsLive s.things
      → OffIn Bad Rests (eval.opening K tree depth root given s)
  unfolding eval.opening ◌>>=◌ and_then new_activation
  opening_off depth root given known s t f g h c carries r live =
      let one : Vat N = record s { activations = suc s.activations } in let C : Fact N = Also (IsName root) (AreNouns given) in let e = (fine_activation S {C = C}).after s h c in
      closes_off C s.activations (Some root) (Program depth s.activations given) one (record { at = λ t q. q.0 }) e.1 (rise S s one e.0 C c) (omega arith, carries) r
      (program_good C depth s.activations given known (record { at = λ t q. q.1 }) t f g) (program_awaits depth s.activations given one live)
