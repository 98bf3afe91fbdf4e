-- Every step of a vat lets what has a place last.
use Rattle.std.proofs.Common.{◌≡◌, ℕ, Bool, true, false, List, refl, sym, ap, ◌∙◌, arith, length, subst, eqb-true, ◌&&◌, ◌==◌}
use Rattle.def_machine.specs.Values.{Name, Naming, IsOwn, naming, name_of, same_name, same_reference, same_msg, Root, Object, Promise, Answer, Gift, Sent, Msg}
use Rattle.def_machine.specs.State.{Message, Vat, Done, Stops, Took, tell}
use Rattle.def_machine.specs.Eval as eval
use Rattle.def_kernel.specs.declared.node.Node.{Node}
use Rattle.law_machine.specs.Machine.Steps.{Step, Opens, Takes, Receives, Notices, does}
use Rattle.law_fate.specs.Fates.Fate.{at_vat, account}
use Rattle.law_fate.specs.Fates.Lasting.{NamesNoObject, AllWell, StepComes, PlacesLast, StepsKeepPlaces}
use Rattle.law_fate.proofs.Fates.Counts.{gone_end, names_end}
use Rattle.law_fate.proofs.Fates.Leads.{Ends, Leads, IsLed, IsLedUnder, leads_bind, leads_then, leads_activation}
use Rattle.law_fate.proofs.Fates.TurnLeads.{good_evaluator, leads_turn_value, leads_closes, leads_opening}
use Rattle.law_fate.proofs.Fates.PlacesLast.{Global, Whatever, Stays, led_by_pays, come_well}
use Rattle.law_fate.proofs.Fates.PlacesRefs.{pays_break, pays_resolve, pays_send, pays_reacts, pays_send_only}
use Rattle.law_fate.proofs.Fates.PlacesArrive.{pays_arrive, pays_notice}

module _ (cut : ℕ → Bool) (x : Name) where
  stays_trans : (s t u : Vat Name) → Stays cut x 0 s t → Stays cut x 0 t u → Stays cut x 0 s u
  stays_trans s t u h k = record { after = λ w. let a = h.after w in let b = k.after a.0 in let i = a.1 in let j = b.1 in (b.0, omega arith) }

  led : IsLed Whatever (Stays cut x 0)
  unfolding account at_vat
  led = record {
    same = λ s. record { after = λ w. (w, omega arith) };
    trans = λ {s} {t} {u} h k. stays_trans s t u h k;
    stops = λ s. record { any = tt };
    stopped = λ h k. record { any = tt };
    fuel = λ s n. record { after = λ w. (w, omega arith) };
    told = λ s e h. record { after = λ w. let more = gone_end cut x s.happened e in (w, omega arith) };
    activations = λ s. record { after = λ w. (w, omega arith) };
    thing = λ s t. record { after = λ w. (w, omega arith) };
    killed = λ s n. record { after = λ w. (w, omega arith) };
    slot = λ s c. record { after = λ w. (w, omega arith) };
    written = λ s n y. record { after = λ w. (w, omega arith) };
    list = λ s vs. record { after = λ w. (w, omega arith) };
  }

  took : (act : ℕ) (m : Message Name) → Leads Whatever (Stays cut x 0) (tell (Took act m))
  unfolding tell account at_vat
  took act m = record { after = λ s. record { after = λ w. let more = gone_end cut x s.happened (Took act m) in (w, omega arith) } }

  module _ (K : Naming Name Name) (v : ℕ) (global : Global K v) where
    own_promise : (n k : ℕ) → NamesNoObject (K.made (IsOwn n) k)
    unfolding name_of
    own_promise n k = subst NamesNoObject (sym (global.made (IsOwn n) k)) tt

    under : IsLedUnder K Whatever (Stays cut x 0)
    unfolding account at_vat
    under = record {
      promised = λ s. record { after = λ w. let n = K.made (IsOwn s.promises) (length s.known) in let same = names_end x s.known n s.number in ((come_well cut x K v global s n s.number (own_promise s.promises (length s.known)) w.0, w.1), omega arith) };
      breaks = λ p t. led_by_pays cut x _ (pays_break K v global cut x p t);
      resolves = λ p y. led_by_pays cut x _ (pays_resolve K v global cut x p y);
      sends = λ act y verb args. led_by_pays cut x _ (pays_send K v global cut x act y verb args);
      sends_only = λ act y verb args. led_by_pays cut x _ (pays_send_only K v global cut x act y verb args);
      reacts = λ act y o near. led_by_pays cut x _ (pays_reacts K v global cut x act y o near);
    }

    taking_lasts : (tree : List Node) (depth : ℕ) (m : Message Name) → Leads Whatever (Stays cut x 0) (eval.taking K tree depth m)
    unfolding eval.taking
    taking_lasts tree depth m = leads_bind _ _ led (leads_activation _ _ led) (λ a. leads_then _ _ led (took a m)
        (leads_closes K Whatever (Stays cut x 0) led under tree a m.answer _ (leads_turn_value K Whatever (Stays cut x 0) led under tree (eval.evaluator K tree depth) (good_evaluator K Whatever (Stays cut x 0) led under tree depth) a m.target m.verb m.args)))

    step_lasts : (step : Step Name Name) → StepComes step → Leads Whatever (Stays cut x 0) (does K step)
    unfolding does
    step_lasts (Opens tree depth root given) g = leads_opening K Whatever (Stays cut x 0) led under tree depth root given
    step_lasts (Takes tree depth m) g = taking_lasts tree depth m
    step_lasts (Receives from n) g = led_by_pays cut x _ (pays_arrive cut x K v global from n g)
    step_lasts (Notices w) g = led_by_pays cut x _ (pays_notice cut x K v global w)

  lasts_after : (s : Vat Name) (d : Done Name (Unit {0})) → AllWell s → Ends Whatever (Stays cut x 0) s d → PlacesLast cut x s d
  lasts_after s (Stops e t) w h = tt
  lasts_after s other w h = let k = h.after w in let i = k.1 in (k.0, omega arith)

-- ---- global names

both_and : (b c : Bool) → (b && c) ≡ true → (b ≡ true) × (c ≡ true)
both_and true c e = (refl, e)
both_and false c e = cc

message_alike : (a b : Msg) → a.sender ≡ b.sender → a.number ≡ b.number → a ≡ b
message_alike a b h k = ap (λ n. record { sender = n; number = a.number }) h ∙ ap (λ n. record { sender = b.sender; number = n }) k

same_message_alike : (a b : Msg) → same_msg a b ≡ true → a ≡ b
same_message_alike a b e = let h = both_and (a.sender == b.sender) (a.number == b.number) e in message_alike a b (eqb-true a.sender b.sender h.0) (eqb-true a.number b.number h.1)

same_alike : (a b : Name) → same_name a b ≡ true → a ≡ b
unfolding same_name
same_alike (Root v) (Root w) e = ap Root (eqb-true v w e)
same_alike (Object v i) (Object w j) e = let h = both_and (v == w) (i == j) e in let a = eqb-true v w h.0 in let b = eqb-true i j h.1 in cc
same_alike (Promise v i) (Promise w j) e = let h = both_and (v == w) (i == j) e in let a = eqb-true v w h.0 in let b = eqb-true i j h.1 in cc
same_alike (Answer v m) (Answer w n) e = let h = both_and (v == w) (same_msg m n) e in let a = eqb-true v w h.0 in let b = same_message_alike m n h.1 in cc
same_alike (Gift v i) (Gift w j) e = let h = both_and (v == w) (i == j) e in let a = eqb-true v w h.0 in let b = eqb-true i j h.1 in cc
same_alike (Sent m) (Sent n) e = ap Sent (same_message_alike m n e)
same_alike _ _ e = cc

reference_alike : (a b : Name) → same_reference a b ≡ true → a ≡ b
unfolding same_reference
reference_alike (Root v) b e = same_alike (Root v) b e
reference_alike (Object v i) b e = same_alike (Object v i) b e
reference_alike (Promise v i) b e = same_alike (Promise v i) b e
reference_alike (Answer v m) b e = same_alike (Answer v m) b e
reference_alike (Gift v i) b e = same_alike (Gift v i) b e
reference_alike (Sent m) b e = cc

pub global_names : (word : ℕ → ℕ) (v : ℕ) → Global (naming word v) v
unfolding naming
global_names word v = record { spot = λ n. refl; alike = reference_alike; made = λ c k. refl; mailed = λ c k. refl }

pub steps_keep_places : StepsKeepPlaces
steps_keep_places word v step s cut x w g = lasts_after cut x s _ w ((step_lasts cut x (naming word v) v (global_names word v) step g).after s)
