-- What a turn does with references leaves each name that is viewed waiting on its view.
use Rattle.std.proofs.Common.{ℕ, List}
use Rattle.def_machine.specs.Values.{Broken, Name, Naming, naming}
use Rattle.def_machine.specs.State.{Message, Known, Vat, Done, Gives, Throws, Ejects, Stops, Act, new_promise}
use Rattle.def_machine.specs.Refs as refs
use Rattle.law_machine.proofs.Machine.RefsQuiet.{quiet_settle, quiet_resolve, quiet_send, quiet_send_only, quiet_react}
use Rattle.law_fate.proofs.Fates.Leads as fate
use Rattle.law_reference.specs.Reference.Views.{ViewsWait}
use Rattle.law_reference.proofs.Reference.Gentle.{Any, IsGentle, leads_gentle}
use Rattle.law_reference.proofs.Reference.RefsGentle.{SettlesBy, gentle_settle, gentle_resolve, gentle_send, gentle_send_only, gentle_react}
use Rattle.law_reference.proofs.Reference.ViewsGo.{ViewsGo, views_gentle, settles_views}
use Rattle.law_never_astray.specs.Near.{TargetsNear}
use Rattle.law_never_astray.proofs.Rests.{Quiet, RestsAfter}
use Rattle.law_never_astray.proofs.Near.{keep_promise, keep_settle, keep_resolve, keep_send, keep_send_only, keep_react}
use Rattle.law_never_astray.proofs.Works.{Rested}

module _ (word : ℕ → ℕ) (v : ℕ) where
  abbrev K : Naming Name Name
  K = naming word v

  -- each name that is viewed waits on its view, and what is to be taken is near
  abbrev pub AtPeace : List (Message Name) → List (Known Name) → Type 0
  AtPeace qs ks = ViewsWait (naming word v) ks × TargetsNear (naming word v) qs ks

  law : IsGentle K (ViewsGo K)
  law = views_gentle K

  block : SettlesBy K (ViewsGo K)
  block = settles_views K

  views_on : (s t : Vat Name) → ViewsWait K s.known → ViewsGo K s t → ViewsWait K t.known
  views_on s t views go n g e = let back = go n g e in back.1 (views n g back.0)

  peace_on : {A : Type 0} (s : Vat Name) (d : Done Name A) → ViewsWait K s.known → fate.Ends Any (ViewsGo K) s d → RestsAfter (TargetsNear K) d → RestsAfter AtPeace d
  peace_on s (Gives a t) views h near = (views_on s t views h, near)
  peace_on s (Throws p t) views h near = (views_on s t views h, near)
  peace_on s (Ejects i x t) views h near = (views_on s t views h, near)
  peace_on s (Stops c t) views h near = tt

  peaceful : {A : Type 0} {m : Act Name A} → fate.Leads Any (ViewsGo K) m → Quiet (TargetsNear K) m → Quiet AtPeace m
  peaceful {m = m} h q = record { after = λ s r. peace_on s (m s) r.0 (h.after s) (q.after s r.1) }

  promise_led : fate.Leads Any (ViewsGo K) (new_promise K)
  unfolding new_promise
  promise_led = record { after = λ s. law.promised s }

  pub at_peace : Rested K AtPeace
  at_peace = record {
    promises = peaceful promise_led (keep_promise K);
    breaks = λ p t. peaceful (leads_gentle (ViewsGo K) (refs.settle K p (Broken t)) (quiet_settle K p (Broken t)) (gentle_settle K (ViewsGo K) law block p (Broken t))) (keep_settle K p (Broken t));
    resolves = λ p y. peaceful (leads_gentle (ViewsGo K) (refs.resolve K p y) (quiet_resolve K p y) (gentle_resolve K (ViewsGo K) law block p y)) (keep_resolve K p y);
    sends = λ act x verb args. peaceful (leads_gentle (ViewsGo K) (refs.send K act x verb args) (quiet_send K act x verb args) (gentle_send K (ViewsGo K) law block act x verb args)) (keep_send K act x verb args);
    sends_only = λ act x verb args. peaceful (leads_gentle (ViewsGo K) (refs.send_only K act x verb args) (quiet_send_only K act x verb args) (gentle_send_only K (ViewsGo K) law block act x verb args)) (keep_send_only K act x verb args);
    reacts = λ act x o near g. peaceful (leads_gentle (ViewsGo K) (refs.react K act x o near) (quiet_react K act x o near) (gentle_react K (ViewsGo K) law block act x o near)) (keep_react K act x o near g);
  }
