-- What a message weighs through every step of a vat.
use Rattle.std.proofs.Common.{◌≡◌, ℕ, List, sym, arith, length, subst}
use Rattle.def_machine.specs.Values.{Name, Naming, IsOwn, naming, name_of, host_of}
use Rattle.def_machine.specs.State.{Message, Vat, Done, Gives, Stops, Took}
use Rattle.def_machine.specs.Eval as eval
use Rattle.def_kernel.specs.declared.node.Node.{Node}
use Rattle.law_machine.specs.Machine.Steps.{Step, Opens, Takes, Receives, Notices, does}
use Rattle.law_fate.specs.Fates.Lasting.{NamesNoObject, StepComes}
use Rattle.law_fate.proofs.Fates.Leads.{Ends, Leads, IsLed, IsLedUnder, leads_bind, leads_then, leads_activation}
use Rattle.law_fate.proofs.Fates.TurnLeads.{good_evaluator, leads_turn_value, leads_closes, leads_opening}
use Rattle.law_fate.proofs.Fates.Counts.{sent_end}
use Rattle.law_fate.proofs.Fates.PlacesLast.{Global, Whatever}
use Rattle.law_fate.proofs.Fates.PlacesSteps.{global_names}
use Rattle.law_fate.specs.Fates.Carry.{load}
use Rattle.law_fate.specs.Fates.Sound.{Sound, StepArrives}
use Rattle.law_fate.specs.Fates.CarryLaws.{leaves, AfterLightened, StepsLighten}
use Rattle.law_fate.proofs.Fates.Light.{LightAt, Moves, lightened_trans, led_by_light, light_tell, come_sound, held_end}
use Rattle.law_fate.proofs.Fates.RefsLight.{light_break, light_resolve, light_send, light_reacts, light_send_only}
use Rattle.law_fate.proofs.Fates.ArriveLight.{cost_arrive, light_notice}

module _ (v : ℕ) (x : Name) where
  moves_trans : (s t u : Vat Name) → Moves v x s t → Moves v x t u → Moves v x s u
  moves_trans s t u h k = record { after = λ w. let a = h.after w in lightened_trans v x 0 0 s t u a (k.after a.sound) }

  led : IsLed Whatever (Moves v x)
  unfolding load
  led = record {
    same = λ s. record { after = λ w. record { sound = w; kept = omega arith } };
    trans = λ {s} {t} {u} h k. moves_trans s t u h k;
    stops = λ s. record { any = tt };
    stopped = λ h k. record { any = tt };
    fuel = λ s n. record { after = λ w. record { sound = w; kept = omega arith } };
    told = λ s e h. record { after = λ w. let more = sent_end x s.happened e in record { sound = w; kept = omega arith } };
    activations = λ s. record { after = λ w. record { sound = w; kept = omega arith } };
    thing = λ s t. record { after = λ w. record { sound = w; kept = omega arith } };
    killed = λ s n. record { after = λ w. record { sound = w; kept = omega arith } };
    slot = λ s c. record { after = λ w. record { sound = w; kept = omega arith } };
    written = λ s n y. record { after = λ w. record { sound = w; kept = omega arith } };
    list = λ s vs. record { after = λ w. record { sound = w; kept = omega arith } };
  }

  module _ (K : Naming Name Name) (global : Global K v) where
    own_promise : (n k : ℕ) (h : ℕ) → h ≡ v → NamesNoObject (K.made (IsOwn n) k) × (h ≡ host_of (K.made (IsOwn n) k))
    unfolding name_of host_of
    own_promise n k h e = subst (λ a. NamesNoObject a × (h ≡ host_of a)) (sym (global.made (IsOwn n) k)) (tt, e)

    under : IsLedUnder K Whatever (Moves v x)
    unfolding load
    under = record {
      promised = λ s. record {
        after = λ w. let n = K.made (IsOwn s.promises) (length s.known) in let same = held_end x s.known n s.number in let own = own_promise s.promises (length s.known) s.number w.same in
            record { sound = come_sound v x K global s n s.number own.0 own.1 w; kept = omega arith };
      };
      breaks = λ p t. led_by_light v x _ (light_break K v global x p t);
      resolves = λ p y. led_by_light v x _ (light_resolve K v global x p y);
      sends = λ act y verb args. led_by_light v x _ (light_send K v global x act y verb args);
      sends_only = λ act y verb args. led_by_light v x _ (light_send_only K v global x act y verb args);
      reacts = λ act y o near. led_by_light v x _ (light_reacts K v global x act y o near);
    }

    taking_moves : (tree : List Node) (depth : ℕ) (m : Message Name) → Leads Whatever (Moves v x) (eval.taking K tree depth m)
    unfolding eval.taking
    taking_moves tree depth m = leads_bind _ _ led (leads_activation _ _ led) (λ a. leads_then _ _ led (led_by_light v x _ (light_tell v x (Took a m)))
        (leads_closes K Whatever (Moves v x) led under tree a m.answer _ (leads_turn_value K Whatever (Moves v x) led under tree (eval.evaluator K tree depth) (good_evaluator K Whatever (Moves v x) led under tree depth) a m.target m.verb m.args)))

    moved : (s : Vat Name) (d : Done Name (Unit {0})) → Sound v s → Ends Whatever (Moves v x) s d → AfterLightened v x 0 s d
    moved s (Stops e t) w h = tt
    moved s other w h = h.after w

    lightened : (c : ℕ) (s : Vat Name) (d : Done Name (Unit {0})) → LightAt v x c s d → AfterLightened v x c s d
    lightened c s (Gives a t) h = h
    lightened c s (Stops e t) h = tt
    lightened c s other h = absurd h

    step_lightens : (step : Step Name Name) (s : Vat Name) → Sound v s → StepComes step → StepArrives v step → AfterLightened v x (leaves x step) s (does K step s)
    unfolding does leaves
    step_lightens (Opens tree depth root given) s w g a = moved s _ w ((leads_opening K Whatever (Moves v x) led under tree depth root given).after s)
    step_lightens (Takes tree depth m) s w g a = moved s _ w ((taking_moves tree depth m).after s)
    step_lightens (Receives from n) s w g a = lightened _ s _ ((cost_arrive x K v global from n g a).after s w)
    step_lightens (Notices u) s w g a = lightened 0 s _ ((light_notice x K v global u).after s w)

pub steps_lighten : StepsLighten
steps_lighten word v step s x w g a = step_lightens v x (naming word v) (global_names word v) step s w g a
