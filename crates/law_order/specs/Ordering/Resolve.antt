-- A name waits for another, or settles, as it is resolved.
use Rattle.std.specs.Prelude.{◌≡◌, ℕ, suc, Bool, true, false, Option, Some, None, length, slice_get, codes, ◌⊎◌}
use Rattle.def_machine.specs.Values.{Value, Broken, Name, Naming}
use Rattle.def_machine.specs.State.{Unsettled, Known, Vat, Gives}
use Rattle.def_machine.specs.Refs.{Place, Near, Mine, Away, Gone, entry_of, follow, place, waits_lead, wait_on, settle, resolve}
use Rattle.def_run.specs.World.{Script, World, names}
use Rattle.law_order.specs.Ordering.Worlds.{IfGives, IsWaiting}
use Rattle.law_order.specs.Ordering.Settlings.{IsPlain, IsHonestTo, IsLoose, SettlesWell}
use Rattle.law_order.specs.Ordering.Steps.{Ready, Course, over, grew, settled, resolved, KeepsOrder, StaysInOrder}

-- what is known of a name stands as it stood, but p, which was unsettled, may wait now
abbrev pub StandsNear : Name → Name → Option (Known Name) → Option (Known Name) → Type 0
StandsNear p n None None = Unit {0}
StandsNear p n (Some j) (Some k) = ((k.standing ≡ j.standing) ⊎ ((n ≡ p) × (j.standing ≡ Unsettled) × IsWaiting k.standing)) × (k.host ≡ j.host) × (k.held ≡ j.held)
StandsNear p n None (Some k) = ⊥
StandsNear p n (Some j) None = ⊥

-- From s to t nothing changed that tells where messages go, but that p may wait now.
pub record OnlyWaits (K : Naming Name Name) (p : Name) (s t : Vat Name) : Type 0 where
  pub number : t.number ≡ s.number
  pub gifts : t.gifts ≡ s.gifts
  pub noticed : t.noticed ≡ s.noticed
  pub queue : t.queue ≡ s.queue
  pub outbox : t.outbox ≡ s.outbox
  pub names_known : length t.known ≡ length s.known
  pub entries : (n : Name) → StandsNear p n (entry_of K s.known n) (entry_of K t.known n)

module _ (script : Script) (honest : ℕ → Bool) (w : World) (v : ℕ) where
  -- the settling of p to y goes well
  abbrev pub SettlesPlain : Name → Value Name → Vat Name → Type 0
  SettlesPlain p y s = IsPlain (names script v) y × IsHonestTo script honest v y × SettlesWell script honest w v y (suc (suc (length s.known))) p s

  -- where the waits lead back p breaks, and else p is unsettled, and nothing is said of where it leads
  abbrev pub CycleWell : Name → Vat Name → Bool → Type 0
  CycleWell p s true = SettlesPlain p (Broken (codes "cycle")) s
  CycleWell p s false = (k : Known Name) × (entry_of (names script v) s.known p ≡ Some k) × (k.standing ≡ Unsettled) × IsLoose script honest w v p s

  abbrev pub PlaceWell : Name → Vat Name → Value Name → Place Name → Type 0
  PlaceWell p s y Near = SettlesPlain p y s
  PlaceWell p s y (Mine q) = CycleWell p s (waits_lead (names script v) (length s.known) s.known p q)
  PlaceWell p s y (Away h q false) = CycleWell p s (waits_lead (names script v) (length s.known) s.known p q)
  PlaceWell p s y (Away h q true) = SettlesPlain p y s
  PlaceWell p s y (Gone z) = SettlesPlain p y s

  -- p can be resolved to x in this state
  abbrev pub ResolvesWell : Name → Vat Name → Value Name → Type 0
  ResolvesWell p s x = PlaceWell p s (follow (names script v) s x) (place (names script v) s (follow (names script v) s x))

-- As a name waits of which nothing was said, what is ahead stays ahead, and what is doomed stays doomed.
abbrev pub WaitingKeeps : Type 0
WaitingKeeps = (script : Script) (honest : ℕ → Bool) (w : World) (v : ℕ) (s t : Vat Name) (p : Name) → OnlyWaits (names script v) p s t → IsLoose script honest w v p s → KeepsOrder script honest w v s t

-- So it is as the machine has p wait for q: p was unsettled, and nothing was said of where it leads.
abbrev pub WaitOnKeeps : Type 0
WaitOnKeeps = (script : Script) (honest : ℕ → Bool) (w : World) (v : ℕ) (s : Vat Name) (p q : Name) (k : Known Name) → entry_of (names script v) s.known p ≡ Some k → k.standing ≡ Unsettled → IsLoose script honest w v p s
    → IfGives (λ t. StaysInOrder script honest w v s t) (wait_on (names script v) p q s)

-- What is ahead stays ahead, and what is doomed stays doomed, as a name is resolved: it waits for another name, or settles.
abbrev pub ResolvingKeeps : Type 0
ResolvingKeeps = (script : Script) (honest : ℕ → Bool) (w : World) (v : ℕ) (r s : Vat Name) (p : Name) (x : Value Name) → slice_get w.vats v ≡ Some r → ResolvesWell script honest w v p s x
    → IfGives (λ t. StaysInOrder script honest w v s t) (resolve (names script v) p x s)

module _ (script : Script) (honest : ℕ → Bool) (w : World) (v : ℕ) where
  -- Each settling in this course came to its end, and can go so in the state in which it began.
  abbrev pub SettlesIn : {s t : Vat Name} → Course script honest w v s t → Type 0
  SettlesIn over = Unit {0}
  SettlesIn (grew f c) = SettlesIn c
  SettlesIn (settled {s} {t} p y e c) = (settle (names script v) p y s ≡ Gives tt t) × SettlesPlain script honest w v p y s × SettlesIn c
  SettlesIn (resolved {s} {t} p x e c) = (resolve (names script v) p x s ≡ Gives tt t) × ResolvesWell script honest w v p s x × SettlesIn c

-- Such a course keeps the vat ready, and keeps order.
abbrev pub SettledCoursesKeep : Type 0
SettledCoursesKeep = (script : Script) (honest : ℕ → Bool) (w : World) (v : ℕ) (r s t : Vat Name) (c : Course script honest w v s t) → slice_get w.vats v ≡ Some r → SettlesIn script honest w v c → Ready script honest w v s → Ready script honest w v t × KeepsOrder script honest w v s t
