-- The lines of a step among the events of a run.
use Rattle.std.proofs.Common.{◌≡◌, ℕ, Bool, true, false, List, [], ◌∷◌, ◌++◌, Option, Some, None, refl, sym, subst, map, ◌⊎◌, inl, inr}
use Rattle.def_machine.specs.Values.{Name}
use Rattle.def_machine.specs.State.{Known, Vat, Note, Deliver, Open, Ask, SettledTo, Elsewhere, Shorten, Happened, Took, Called, Back, Thrown, Left, Got, SlotMade, SlotRead, SlotWrote, ListMade, ListCame, EjectorMade, AuditionMade, PromiseMade, ObjectMade, Sends, Reacts, Finished, Threw, Settles, Waits, Views, Lost, Posted}
use Rattle.def_run.specs.World as world
use Rattle.def_run.specs.World.{Script, Event, Here, LostCut, LeftQueue, LeftHeld, LeftWait, LeftLink, Link}
use Rattle.law_uses.specs.Connectivity.Known.{IsAmong, AllOf}
use Rattle.law_uses.proofs.Connectivity.FineSteps.{among_left, among_right}
use Rattle.law_fate.proofs.Fates.RunCounts.{pick}

pub all_at : {A : Type 0} (P : A → Type 0) (xs : List A) (x : A) → AllOf P xs → IsAmong x xs → P x
all_at P [] x h i = absurd i
all_at P (y ∷ xs) x h (inl e) = subst P (sym e) h.0
all_at P (y ∷ xs) x h (inr i) = all_at P xs x h.1 i

pub among_either : {A : Type 0} (x : A) (xs ys : List A) → IsAmong x (xs ++ ys) → IsAmong x xs ⊎ IsAmong x ys
among_either x [] ys i = inr i
among_either x (z ∷ xs) ys (inl e) = inl (inl e)
among_either x (z ∷ xs) ys (inr i) = later (among_either x xs ys i)
  where
    later : IsAmong x xs ⊎ IsAmong x ys → IsAmong x (z ∷ xs) ⊎ IsAmong x ys
    later (inl j) = inl (inr j)
    later (inr j) = inr j

-- a line of the vat's own is an event
pub here_event : (ls : List Link) (v : ℕ) (es : List (Happened Name)) (e : Happened Name) → world.event_of ls v e ≡ Here v e ∷ [] → IsAmong e es → IsAmong (Here v e) (world.events_of ls v es)
unfolding world.events_of
here_event ls v [] e f m = absurd m
here_event ls v (x ∷ es) e f (inl g) = among_left (Here v e) (world.event_of ls v x) (world.events_of ls v es) (subst (λ y. IsAmong (Here v e) (world.event_of ls v y)) g (subst (λ ys. IsAmong (Here v e) ys) (sym f) (inl refl)))
here_event ls v (x ∷ es) e f (inr m) = among_right (Here v e) (world.event_of ls v x) (world.events_of ls v es) (here_event ls v es e f m)

here_same : (u v : ℕ) (f e : Happened Name) → Here u f ≡ Here v e → (u ≡ v) × (f ≡ e)
here_same u v f e i = (cc, cc)

-- and an event of a line is of one of the vat's own
event_here : (ls : List Link) (v u : ℕ) (f e : Happened Name) → IsAmong (Here u f) (world.event_of ls v e) → (u ≡ v) × (f ≡ e)
unfolding world.event_of
event_here ls v u f (Took a m) (inl e) = here_same u v f (Took a m) e
event_here ls v u f (Called a x verb args b) (inl e) = here_same u v f (Called a x verb args b) e
event_here ls v u f (Back a y) (inl e) = here_same u v f (Back a y) e
event_here ls v u f (Thrown a t) (inl e) = here_same u v f (Thrown a t) e
event_here ls v u f (Left a) (inl e) = here_same u v f (Left a) e
event_here ls v u f (Got a y) (inl e) = here_same u v f (Got a y) e
event_here ls v u f (SlotMade a k y) (inl e) = here_same u v f (SlotMade a k y) e
event_here ls v u f (SlotRead a k y) (inl e) = here_same u v f (SlotRead a k y) e
event_here ls v u f (SlotWrote a k y) (inl e) = here_same u v f (SlotWrote a k y) e
event_here ls v u f (ListMade a k ys) (inl e) = here_same u v f (ListMade a k ys) e
event_here ls v u f (ListCame k ys) (inl e) = here_same u v f (ListCame k ys) e
event_here ls v u f (EjectorMade a j) (inl e) = here_same u v f (EjectorMade a j) e
event_here ls v u f (AuditionMade a j) (inl e) = here_same u v f (AuditionMade a j) e
event_here ls v u f (PromiseMade a p r) (inl e) = here_same u v f (PromiseMade a p r) e
event_here ls v u f (ObjectMade a me x caught stamps) (inl e) = here_same u v f (ObjectMade a me x caught stamps) e
event_here ls v u f (Sends a m) (inl e) = here_same u v f (Sends a m) e
event_here ls v u f (Reacts a x o m) (inl e) = here_same u v f (Reacts a x o m) e
event_here ls v u f (Finished a y) (inl e) = here_same u v f (Finished a y) e
event_here ls v u f (Threw a t) (inl e) = here_same u v f (Threw a t) e
event_here ls v u f (Settles n y) (inl e) = here_same u v f (Settles n y) e
event_here ls v u f (Waits n q) (inl e) = here_same u v f (Waits n q) e
event_here ls v u f (Views n q) (inl e) = here_same u v f (Views n q) e
event_here ls v u f (Lost m) (inl e) = here_same u v f (Lost m) e
event_here ls v u f (Posted w m) i = absurd (either (world.is_cut v w ls) i)
  where
    either : (b : Bool) → IsAmong (Here u f) (pick b (LostCut m ∷ []) []) → ⊥
    either true (inl e) = cc
    either true (inr j) = j
    either false j = j
event_here ls v u f other (inr i) = absurd i

pub events_here : (ls : List Link) (v u : ℕ) (f : Happened Name) (es : List (Happened Name)) → IsAmong (Here u f) (world.events_of ls v es) → (u ≡ v) × IsAmong f es
unfolding world.events_of
events_here ls v u f [] i = absurd i
events_here ls v u f (e ∷ es) i = either (among_either (Here u f) (world.event_of ls v e) (world.events_of ls v es) i) (events_here ls v u f es)
  where
    either : IsAmong (Here u f) (world.event_of ls v e) ⊎ IsAmong (Here u f) (world.events_of ls v es) → (IsAmong (Here u f) (world.events_of ls v es) → (u ≡ v) × IsAmong f es) → (u ≡ v) × IsAmong f (e ∷ es)
    either (inl j) r = let h = event_here ls v u f e j in (h.0, inl h.1)
    either (inr j) r = let h = r j in (h.0, inr h.1)

-- lines of no vat
abbrev pub IsNobodys : List Event → Type 0
IsNobodys es = (u : ℕ) (f : Happened Name) → IsAmong (Here u f) es → ⊥

pub nobodys_join : (xs ys : List Event) → IsNobodys xs → IsNobodys ys → IsNobodys (xs ++ ys)
nobodys_join xs ys h k u f i = either (among_either (Here u f) xs ys i)
  where
    either : IsAmong (Here u f) xs ⊎ IsAmong (Here u f) ys → ⊥
    either (inl j) = h u f j
    either (inr j) = k u f j

nobodys_map : {A : Type 0} (f : A → Event) → ((x : A) (u : ℕ) (e : Happened Name) → Here u e ≡ f x → ⊥) → (xs : List A) → IsNobodys (map f xs)
nobodys_map f h [] u e i = i
nobodys_map f h (x ∷ xs) u e (inl i) = h x u e i
nobodys_map f h (x ∷ xs) u e (inr i) = nobodys_map f h xs u e i

module _ (script : Script) where
  -- the closing list is of no vat
  held_nobodys : (v : ℕ) (ks : List (Known Name)) → IsNobodys (world.left_held script v ks)
  unfolding world.left_held
  held_nobodys v [] u e i = i
  held_nobodys v (k ∷ ks) u e i = (nobodys_join (map (λ m. LeftHeld v k.name m.id) k.held) (world.left_held script v ks) (nobodys_map (λ m. LeftHeld v k.name m.id) (λ m v f j. cc) k.held) (held_nobodys v ks)) u e i

  wait_nobodys : (v : ℕ) (ks : List (Known Name)) → IsNobodys (world.left_wait script v ks)
  unfolding world.left_wait
  wait_nobodys v [] u e i = i
  wait_nobodys v (k ∷ ks) u e i = (nobodys_join (map (λ m. LeftWait v k.name m.id) k.reactions) (world.left_wait script v ks) (nobodys_map (λ m. LeftWait v k.name m.id) (λ m v f j. cc) k.reactions) (wait_nobodys v ks)) u e i

  vat_nobodys : (s : Vat Name) → IsNobodys (world.left_vat script s)
  unfolding world.left_vat
  vat_nobodys s = let queue : List Event = map (λ m. LeftQueue s.number m.id) s.queue in nobodys_join (queue ++ world.left_held script s.number s.known) (world.left_wait script s.number s.known)
      (nobodys_join queue (world.left_held script s.number s.known) (nobodys_map (λ m. LeftQueue s.number m.id) (λ m v f j. cc) s.queue) (held_nobodys s.number s.known)) (wait_nobodys s.number s.known)

  pub vats_nobodys : (ss : List (Vat Name)) → IsNobodys (world.left_vats script ss)
  unfolding world.left_vats
  vats_nobodys [] u e i = i
  vats_nobodys (s ∷ ss) u e i = (nobodys_join (world.left_vat script s) (world.left_vats script ss) (vat_nobodys s) (vats_nobodys ss)) u e i

  pub links_nobodys : (ls : List Link) → IsNobodys (world.left_links script ls)
  unfolding world.left_links
  links_nobodys [] u e i = i
  links_nobodys (l ∷ ls) u e i = (nobodys_join (map (λ n. LeftLink l.from l.to n) l.notes) (world.left_links script ls) (nobodys_map (λ n. LeftLink l.from l.to n) (λ n v f j. cc) l.notes) (links_nobodys ls)) u e i

  lost_nobodys : (ns : List (Note Name)) → IsNobodys (world.lost_by script ns)
  unfolding world.lost_by
  lost_nobodys [] u f i = i
  lost_nobodys (Deliver m n verb ys ∷ ns) u f (inl e) = cc
  lost_nobodys (Deliver m n verb ys ∷ ns) u f (inr i) = lost_nobodys ns u f i
  lost_nobodys (Open k n ∷ ns) u f i = lost_nobodys ns u f i
  lost_nobodys (Ask p k n ∷ ns) u f i = lost_nobodys ns u f i
  lost_nobodys (SettledTo n y ∷ ns) u f i = lost_nobodys ns u f i
  lost_nobodys (Elsewhere n c ∷ ns) u f i = lost_nobodys ns u f i
  lost_nobodys (Shorten n c k ∷ ns) u f i = lost_nobodys ns u f i

  pub lost_on_nobodys : (o : Option Link) → IsNobodys (world.lost_on script o)
  unfolding world.lost_on
  lost_on_nobodys None u f i = i
  lost_on_nobodys (Some l) u f i = lost_nobodys l.notes u f i
