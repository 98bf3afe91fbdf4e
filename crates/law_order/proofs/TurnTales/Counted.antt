-- All that a turn does keeps the places of messages counted, and so the messages that it numbers next are new.
use Rattle.std.proofs.Common.{◌≡◌, ℕ, suc, Bool, List, [], ◌∷◌, ◌++◌, refl, sym, subst, append_assoc, arith}
use Rattle.std.proofs.lemmas.List.{append-nil}
use Rattle.def_machine.specs.Values.{Words, Value, Name, Promise, Naming, naming, name_of, mail_of}
use Rattle.def_machine.specs.State.{Cell, Thing, Happened, Took, Sends, Reacts, Lost, Posted, Vat, Gives, Act, begun}
use Rattle.def_machine.specs.Refs as refs
use Rattle.def_run.specs.World.{World}
use Rattle.law_machine.proofs.Machine.Keeps.{Keeps}
use Rattle.law_fate.specs.Name.Names.{AllOf}
use Rattle.law_fate.proofs.Name.Care.{TellsOfNone}
use Rattle.law_fate.specs.Fates.Fate.{account, at_vat}
use Rattle.law_fate.specs.Fates.FateLaws.{Accounted}
use Rattle.law_fate.proofs.Fates.RefsAccount.{spared_under}
use Rattle.law_fate.proofs.Fates.RefsCounts.{spared}
use Rattle.law_fate.proofs.Fates.Spares as spares
use Rattle.law_fate.proofs.Fates.Spares.{IsSpared, IsSparedUnder}
use Rattle.law_order.specs.Sending.New.{Counted}
use Rattle.law_order.proofs.Sending.Counting.{counted_then}
use Rattle.law_order.proofs.Steady.Steady.{after_at}

no_message : (e : Happened Name) → TellsOfNone e → spares.TellsOfNone e
no_message (Took act m) h = h
no_message (Sends act m) h = h
no_message (Reacts act y o m) h = h
no_message (Lost m) h = h
no_message (Posted to m) h = h
no_message other h = tt

module _ (word : ℕ → ℕ) (w : World) (v : ℕ) (came : Name → ℕ) (q : Vat Name) where
  abbrev K : Naming Name Name
  K = naming word v

  abbrev C : Vat Name → Type 0
  C s = Counted w v came q s

  under : (cut : ℕ → Bool) (x : Name) → IsSparedUnder K (Accounted cut v x 0)
  unfolding naming mail_of
  under cut x = spared_under cut v x K (λ n k. refl)

  counted_by : {A : Type 0} (m : Act Name A) → ((cut : ℕ → Bool) (x : Name) → Keeps (Accounted cut v x 0) m) → (s t : Vat Name) (a : A) → m s ≡ Gives a t → C s → C t
  counted_by m k s t a e c = counted_then w v came q s t c (λ cut x. after_at (Accounted cut v x 0) s (m s) a t e ((k cut x).after s))

  -- more lines
  lines_counted : (cut : ℕ → Bool) (x : Name) (more : List (Happened Name)) (s : Vat Name) → AllOf TellsOfNone more → Accounted cut v x 0 s (record s { happened = s.happened ++ more })
  lines_counted cut x [] s h = subst (λ es. Accounted cut v x 0 s (record s { happened = es })) (sym (append-nil s.happened)) ((spared cut v x).same s)
  lines_counted cut x (e ∷ more) s h = let t : Vat Name = record s { happened = s.happened ++ e ∷ [] } in let law : IsSpared (Accounted cut v x 0) = spared cut v x in
      subst (λ es. Accounted cut v x 0 s (record s { happened = es })) (append_assoc s.happened (e ∷ []) more) (law.trans {s = s} {t = t} {u = record t { happened = t.happened ++ more }} (law.told s e (no_message e h.0)) (lines_counted cut x more t h.1))

  aside_counted : (cut : ℕ → Bool) (x : Name) (s t : Vat Name) (fuel acts : ℕ) (things : List (Thing Name)) (slots : List (Cell Name)) (lists : List (List (Value Name))) → Accounted cut v x 0 s t → Accounted cut v x 0 s (record t { fuel = fuel; activations = acts; things = things; slots = slots; lists = lists })
  unfolding account at_vat
  aside_counted cut x s t fuel acts things slots lists h = let a = h.kept in let b = h.fresh in record { kept = omega arith; fresh = omega arith }

  pub quietly_counted : (s : Vat Name) (fuel : ℕ) (lines more : List (Happened Name)) (acts : ℕ) (things : List (Thing Name)) (slots : List (Cell Name)) (lists : List (List (Value Name))) → lines ≡ s.happened ++ more → AllOf TellsOfNone more → C s
      → C (record s { fuel = fuel; happened = lines; activations = acts; things = things; slots = slots; lists = lists })
  quietly_counted s fuel lines more acts things slots lists e h c = subst (λ es. C (record s { fuel = fuel; happened = es; activations = acts; things = things; slots = slots; lists = lists })) (sym e)
      (counted_then w v came q s (record s { fuel = fuel; happened = s.happened ++ more; activations = acts; things = things; slots = slots; lists = lists }) c (λ cut x. aside_counted cut x s (record s { happened = s.happened ++ more }) fuel acts things slots lists (lines_counted cut x more s h)))

  pub promised_counted : (s : Vat Name) → C s → C (record s { promises = suc s.promises; known = s.known ++ begun (Promise v s.promises) s.number ∷ [] })
  unfolding naming name_of
  promised_counted s c = counted_then w v came q s (record s { promises = suc s.promises; known = s.known ++ begun (Promise v s.promises) s.number ∷ [] }) c (λ cut x. (under cut x).promised s)

  pub sent_counted : (act : ℕ) (x : Value Name) (verb : Words) (args : List (Value Name)) (s t : Vat Name) (a : Value Name) → refs.send K act x verb args s ≡ Gives a t → C s → C t
  sent_counted act x verb args s t a e c = counted_by (refs.send K act x verb args) (λ cut n. (under cut n).sends act x verb args) s t a e c

  pub sent_only_counted : (act : ℕ) (x : Value Name) (verb : Words) (args : List (Value Name)) (s t : Vat Name) (a : Value Name) → refs.send_only K act x verb args s ≡ Gives a t → C s → C t
  sent_only_counted act x verb args s t a e c = counted_by (refs.send_only K act x verb args) (λ cut n. (under cut n).sends_only act x verb args) s t a e c

  pub reacted_counted : (act : ℕ) (x y near : Value Name) (s t : Vat Name) (a : Value Name) → refs.react K act x y near s ≡ Gives a t → C s → C t
  reacted_counted act x y near s t a e c = counted_by (refs.react K act x y near) (λ cut n. (under cut n).reacts act x y near) s t a e c

  pub settled_counted : (p : Name) (y : Value Name) (s t : Vat Name) → refs.settle K p y s ≡ Gives tt t → C s → C t
  settled_counted p y s t e c = counted_by (refs.settle K p y) (λ cut n. (under cut n).settles p y) s t tt e c

  pub resolved_counted : (p : Name) (y : Value Name) (s t : Vat Name) → refs.resolve K p y s ≡ Gives tt t → C s → C t
  resolved_counted p y s t e c = counted_by (refs.resolve K p y) (λ cut n. (under cut n).resolves p y) s t tt e c
