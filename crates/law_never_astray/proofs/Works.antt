-- What evaluation does with references does not go astray, from a state in which what waits is known.
use Rattle.std.proofs.Common.{ℕ, zero, Bool, false, List, length}
use Rattle.def_machine.specs.Values.{Words, Value, Null, Broken, Ref, Naming}
use Rattle.def_machine.specs.State.{Message, Known, Vat, Done, Stops, Act, ◌>>◌, and_then, give, new_promise, new_message, new_lone_message}
use Rattle.def_machine.specs.Refs as refs
use Rattle.def_machine.specs.Refs.{Place, Near, Mine, Away, Gone}
use Rattle.def_kernel.specs.declared.node.Node.{Node}
use Rattle.law_fate.proofs.Name.Facts.{Fact, IsMail, IsVat, IsPlace, IsValue, new_names, nothing}
use Rattle.law_fate.proofs.Name.Care.{Care, Under, Makes, Sound, Gets, Fine, got, got_left, fine_tell, fine_new_message, fine_lone_message}
use Rattle.law_fate.proofs.Name.Looks.{look_follow, look_place, look_number, got_answer_host}
use Rattle.law_fate.proofs.Name.Serves.{Serves, Closing, served_by, closing_by}
use Rattle.law_never_astray.proofs.Leads as covered
use Rattle.law_never_astray.proofs.Leads.{Leads, Refers, Nothing}
use Rattle.law_never_astray.proofs.Settled.{refers}
use Rattle.law_never_astray.proofs.CoveredLaws.{Whatever}
use Rattle.law_never_astray.specs.Settlings.{NotAstray, AllAwaited}
use Rattle.law_never_astray.proofs.Sure as sure
use Rattle.law_never_astray.proofs.Clear as clear
use Rattle.law_never_astray.proofs.Clear.{Firm, firm_bind, firm_then, firm_give, firm_look, firm_tell, firm_enqueue, firm_alter}
use Rattle.law_never_astray.proofs.Good.{Good, Off}
use Rattle.law_never_astray.proofs.Rests.{Quiet}
use Rattle.law_never_astray.specs.Near.{IsNear}
use Rattle.law_never_astray.proofs.Natives.{Works}

-- what lets rest what is known of names
pub record Rested {N W : Type 0} (K : Naming N W) (Rests : List (Message N) → List (Known N) → Type 0) : Type 0 where
  pub promises : Quiet Rests (new_promise K)
  pub breaks : (p : N) (t : Words) → Quiet Rests (refs.settle K p (Broken t))
  pub resolves : (p : N) (y : Value N) → Quiet Rests (refs.resolve K p y)
  pub sends : (act : ℕ) (x : Value N) (verb : Words) (args : List (Value N)) → Quiet Rests (refs.send K act x verb args)
  pub sends_only : (act : ℕ) (x : Value N) (verb : Words) (args : List (Value N)) → Quiet Rests (refs.send_only K act x verb args)
  pub reacts : (act : ℕ) (x o near : Value N) → IsNear K near → Quiet Rests (refs.react K act x o near)

-- ---- whatever the state

module _ {N W : Type 0} (K : Naming N W) where
  firm_promise : Firm (new_promise K)
  unfolding new_promise
  firm_promise = record { after = λ s. tt }

  firm_message : (h : ℕ) → Firm (new_message K h)
  unfolding new_message
  firm_message h = record { after = λ s. tt }

  firm_lone_message : Firm (new_lone_message K)
  unfolding new_lone_message
  firm_lone_message = record { after = λ s. tt }

  firm_deliver : (m : Message N) (h : ℕ) (n : N) → Firm (refs.deliver K m h n)
  firm_deliver m h n = clear.firm_plain K (sure.sure_deliver K (clear.each_mail K) (clear.Any K) zero (clear.Always K) (clear.none_first K) (clear.all_keep K) (clear.all_come K) zero m h n)

  firm_react_at : (m : Message N) (p : Place N) → Firm (refs.react_at K m p)
  unfolding refs.react_at
  firm_react_at m (Mine n) = firm_alter K _ n
  firm_react_at m (Away h n false) = firm_alter K _ n
  firm_react_at m other = firm_enqueue m

  firm_react : (act : ℕ) (x o near : Value N) → Firm (refs.react K act x o near)
  unfolding refs.react
  firm_react act x o near = firm_bind (firm_look _) (λ v. firm_bind (firm_message v) (λ new. firm_then (firm_tell _) (firm_bind (firm_look _) (λ p. firm_then (firm_react_at _ p) (firm_give _)))))

-- ---- from a sound state

module _ {N W : Type 0} (K : Naming N W) (S : Care N) (law : Under K S) (makes : Makes K S) (mail : N → Bool) (awaits : (s : Vat N) → Sound S s → AllAwaited K mail s.known) where
  abbrev Clear : Fact N → {A : Type 0} → Act N A → Type 0
  Clear C m = clear.Clear K S law mail awaits C m

  done_ends : {A B : Type 0} (b : B) (d : Done N A) → NotAstray d → NotAstray (and_then d (λ _. give {N = N} b))
  unfolding and_then give
  done_ends b (Stops c t) h = h
  done_ends b other h = tt

  clear_done : {A B : Type 0} {C : Fact N} (b : B) {m : Act N A} → Clear C m → Clear C (m >> give b)
  unfolding ◌>>◌
  clear_done b {m = m} h = record { after = λ s g c. done_ends b (m s) (h.after s g c) }

  clear_send_first : {C : Fact N} (m : Message N) (y : Value N) (p : Place N) → Clear C (refs.send_first K m y p)
  unfolding refs.send_first
  clear_send_first m y (Away h n o) = clear.clear_firm K S law mail awaits (firm_deliver K m h n)
  clear_send_first m y Near = clear.clear_send_to K S law mail awaits m y Near
  clear_send_first m y (Mine n) = clear.clear_send_to K S law mail awaits m y (Mine n)
  clear_send_first m y (Gone t) = clear.clear_send_to K S law mail awaits m y (Gone t)

  clear_send : {C : Fact N} (act : ℕ) (x : Value N) → Gets S C (IsValue x) → (verb : Words) (args : List (Value N)) → Clear C (refs.send K act x verb args)
  unfolding refs.send
  clear_send {C = C} act x g verb args = clear.clear_bind K S law mail awaits IsValue (look_follow K S x g) (clear.clear_firm K S law mail awaits (firm_look _)) (λ y.
      clear.clear_bind K S law mail awaits IsPlace (look_place K S law.spots y (got S C (IsValue y))) (clear.clear_firm K S law mail awaits (firm_look _)) (λ p.
      clear.clear_bind K S law mail awaits IsVat (look_number S) (clear.clear_firm K S law mail awaits (firm_look _)) (λ v.
      clear.clear_bind K S law mail awaits new_names (fine_new_message K S law makes (refs.answer_host K v p) (got_answer_host S K _ v p (got S _ (IsVat v)) (got_left S _ (IsVat v) (IsPlace p) (got S _ (IsPlace p))))) (clear.clear_firm K S law mail awaits (firm_message K _)) (λ new.
      clear.clear_then K S law mail awaits nothing (fine_tell K S law _) (clear.clear_firm K S law mail awaits (firm_tell _)) (clear_done (Ref new.1) (clear_send_first _ y p))))))

  clear_send_only : {C : Fact N} (act : ℕ) (x : Value N) → Gets S C (IsValue x) → (verb : Words) (args : List (Value N)) → Clear C (refs.send_only K act x verb args)
  unfolding refs.send_only
  clear_send_only {C = C} act x g verb args = clear.clear_bind K S law mail awaits IsValue (look_follow K S x g) (clear.clear_firm K S law mail awaits (firm_look _)) (λ y.
      clear.clear_bind K S law mail awaits IsPlace (look_place K S law.spots y (got S C (IsValue y))) (clear.clear_firm K S law mail awaits (firm_look _)) (λ p.
      clear.clear_bind K S law mail awaits IsMail (fine_lone_message K S law makes) (clear.clear_firm K S law mail awaits (firm_lone_message K)) (λ id.
      clear.clear_then K S law mail awaits nothing (fine_tell K S law _) (clear.clear_firm K S law mail awaits (firm_tell _)) (clear_done Null (clear_send_first _ y p)))))

  -- ---- with what things carry

  module _ (tree : List Node) (Bad : Vat N → Type 0) (Rests : List (Message N) → List (Known N) → Type 0) where
    not_off : {A : Type 0} (n : ℕ) (d : Done N A) → covered.Ends tree Whatever n Nothing d → NotAstray d → covered.Ends tree (Off S tree Bad Rests) n Nothing d
    not_off n (Stops c t) h k = λ e. absurd (k e)
    not_off n other h k = h

    good_block : {A : Type 0} {C : Fact N} {n : ℕ} {m : Act N A} {H : A → Fact N} → Fine S C m H → Leads tree Whatever n Nothing m → Clear C m → Quiet Rests m → Good S tree Bad Rests C n m H Nothing
    good_block {m = m} f l c q = record { after = λ s h i k r. (f.after s h i, not_off (length s.slots) (m s) (l.after s k) (c.after s h i), q.after s r) }

    abbrev leading : Refers K tree Whatever
    leading = refers K tree Whatever (λ c s. tt)

    abbrev serving : Serves K S
    serving = served_by K S law makes

    abbrev closing : (p : N) → Closing K S p
    closing p = closing_by K S law p

    pub works_by : Rested K Rests → Works K S tree Bad Rests
    works_by rested = record {
      serves = serving;
      promises = λ C n. good_block (serving.promises C) (leading.promises n) (clear.clear_firm K S law mail awaits (firm_promise K)) rested.promises;
      breaks = λ C n p g t. let ends = closing p in good_block (ends.breaks C g t) (leading.breaks n p t) (clear.clear_settle K S law mail awaits p (Broken t)) (rested.breaks p t);
      resolves = λ C n p g y h. let ends = closing p in good_block (ends.closes C g y h) (leading.resolves n p y) (clear.clear_resolve K S law mail awaits p y) (rested.resolves p y);
      sends = λ C n act x g verb args h. good_block (serving.sends C act x g verb args h) (leading.sends n act x verb args) (clear_send act x g verb args) (rested.sends act x verb args);
      sends_only = λ C n act x g verb args h. good_block (serving.sends_only C act x g verb args h) (leading.sends_only n act x verb args) (clear_send_only act x g verb args) (rested.sends_only act x verb args);
      reacts = λ C n act x g o h near k i. good_block (serving.reacts C act x g o h near k) (leading.reacts n act x o near) (clear.clear_firm K S law mail awaits (firm_react K act x o near)) (rested.reacts act x o near i);
    }
