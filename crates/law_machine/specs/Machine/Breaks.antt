-- References that are broken: how a name is led to a broken reference, and what of it no step undoes.
use Rattle.std.specs.Prelude.{◌≡◌, ℕ, zero, suc, Bool, true, false, List, Some, None, length, codes, slice_get}
use Rattle.def_machine.specs.Values.{Words, Value, Null, Broken, Ref, Name, Local, Naming, Foreign, numbering}
use Rattle.def_machine.specs.State.{Standing, Unsettled, WaitsOn, Viewed, Settled, Known, GiftEntry, Vat, Gives, is_in}
use Rattle.def_machine.specs.Refs.{Away, entry_of, standing_of, host_at, follow_at, follow, place}
use Rattle.def_machine.specs.Arrive.{notice}
use Rattle.law_machine.specs.Machine.Steps.{Step, does, After, KeptBySteps}

-- on from a name that settled; neither a view nor a wait leads on
unfoldable pub settled_on : {N : Type 0} → (Value N → Value N) → N → Standing N → Value N
settled_on on n (Settled y) = on y
settled_on on n (Viewed q) = Ref n
settled_on on n (WaitsOn q) = Ref n
settled_on on n Unsettled = Ref n

-- whether a name neither settled nor is viewed
unfoldable pub still_waits : {N : Type 0} → Standing N → Bool
still_waits (Settled y) = false
still_waits (Viewed q) = false
still_waits (WaitsOn q) = true
still_waits Unsettled = true

module _ {N W : Type 0} (K : Naming N W) where
  -- where settlings alone lead from a value, in at most so many
  unfoldable pub settled_at : ℕ → List (Known N) → Value N → Value N
  settled_at zero ks x = x
  settled_at (suc d) ks (Ref n) = settled_on (λ y. settled_at d ks y) n (standing_of K ks n)
  settled_at (suc d) ks x = x

  unfoldable pub settled_value : Vat N → Value N → Value N
  settled_value s x = settled_at (suc (length s.known)) s.known x

  -- What settlings led to a broken reference, they lead to it and it is followed to it.
  abbrev pub SettledBreakStays : Vat N → Vat N → Type 0
  SettledBreakStays s t = (x : Value N) (p : Words) → settled_value s x ≡ Broken p → (settled_value t x ≡ Broken p) × (follow K t x ≡ Broken p)

  -- no object of another vat is among the names known
  abbrev pub FarApart : Vat N → Type 0
  FarApart s = (m : N) (h : ℕ) → K.spot m ≡ Foreign h → entry_of K s.known m ≡ None

  -- What settlings led to an object of a vat whose cut was noticed is followed to broken partition.
  abbrev pub SeveredObjectStays : Vat N → Vat N → Type 0
  SeveredObjectStays s t = FarApart t → (x : Value N) (m : N) (h : ℕ) → settled_value s x ≡ Ref m → K.spot m ≡ Foreign h → is_in h s.noticed ≡ true → follow K t x ≡ Broken (codes "partition")

  -- known, and not settled
  abbrev pub IsPending : List (Known N) → N → Type 0
  IsPending ks g = ((k : Known N) × (entry_of K ks g ≡ Some k)) × ((y : Value N) → standing_of K ks g ≡ Settled y → ⊥)

  -- A vat between two steps that it ended, as far as its references go.
  pub record AtRest (s : Vat N) : Type 0 where
    -- what is known of a vat is broken, viewed or settled once its cut was noticed
    pub hosts : (n : N) → still_waits (standing_of K s.known n) ≡ true → is_in (host_at K s.number s.known n) s.noticed ≡ false
    -- a name settles with the gift that is its view
    pub views : (n g : N) → standing_of K s.known n ≡ Viewed g → IsPending s.known g
    pub apart : FarApart s
    -- nothing is followed in a circle
    pub ends : (x : Value N) (n : N) → follow_at K (suc (length s.known)) s.known x ≡ Ref n → still_waits (standing_of K s.known n) ≡ true

  -- What a vat at rest follows to a broken reference is followed to that broken reference.
  abbrev pub FollowedBreakStays : Vat N → Vat N → Type 0
  FollowedBreakStays s t = AtRest s → FarApart t → (x : Value N) (p : Words) → follow K s x ≡ Broken p → follow K t x ≡ Broken p

  -- nothing that is followed has host w
  abbrev pub NothingOf : ℕ → Vat N → Type 0
  NothingOf w s = (x : Value N) (n : N) (object : Bool) → place K s (follow K s x) ≡ Away w n object → ⊥

  -- Once a cut was noticed nothing that is followed has that host.
  abbrev pub SeveredStays : Vat N → Vat N → Type 0
  SeveredStays s t = (w : ℕ) → is_in w s.noticed ≡ true → NothingOf w t

  -- n settled to a broken reference
  abbrev pub IsBroken : Vat N → N → Type 0
  IsBroken t n = (p : Words) × (standing_of K t.known n ≡ Settled (Broken p))

  -- Each name of host w that is known and neither settled nor is viewed in s is broken in t.
  abbrev pub HostedBreak : ℕ → Vat N → Vat N → Type 0
  HostedBreak w s t = (k : Known N) → entry_of K s.known k.name ≡ Some k → k.host ≡ w → still_waits k.standing ≡ true → IsBroken t k.name

  -- Each gift of provider w that was not opened, and neither settled nor is viewed, in s is broken in t.
  abbrev pub GiftsBreak : ℕ → Vat N → Vat N → Type 0
  GiftsBreak w s t = (i : ℕ) (g : GiftEntry N) (k : Known N) → slice_get s.gifts i ≡ Some g → g.provider ≡ w → g.opened ≡ false
      → entry_of K s.known g.name ≡ Some k → still_waits k.standing ≡ true → IsBroken t g.name

abbrev pub SettledBreaksStay : Type 0
SettledBreaksStay = KeptBySteps {N = Name} {W = Name} SettledBreakStays × KeptBySteps {N = Local} {W = Name} SettledBreakStays

abbrev pub SeveredObjectsStay : Type 0
SeveredObjectsStay = KeptBySteps {N = Name} {W = Name} SeveredObjectStays × KeptBySteps {N = Local} {W = Name} SeveredObjectStays

abbrev pub FollowedBreaksStay : Type 0
FollowedBreaksStay = KeptBySteps {N = Name} {W = Name} FollowedBreakStays × KeptBySteps {N = Local} {W = Name} FollowedBreakStays

abbrev pub SeveringsStay : Type 0
SeveringsStay = KeptBySteps {N = Name} {W = Name} SeveredStays × KeptBySteps {N = Local} {W = Name} SeveredStays

-- under local numbers the objects of other vats stay apart from the names known
abbrev pub FarStaysApart : Type 0
FarStaysApart = (word : ℕ → ℕ) (step : Step Local Name) (s : Vat Local) → FarApart {W = Name} (numbering word) s → After (λ r t. FarApart {W = Name} (numbering word) t) s (does (numbering word) step s)

-- from the notice on
abbrev pub SeversFrom : (N W : Type 0) → Type 0
SeversFrom N W = (K : Naming N W) (w : ℕ) (s : Vat N) → After (λ r t. NothingOf K w t) s (notice K w s)

abbrev pub NoticesSever : Type 0
NoticesSever = SeversFrom Name Name × SeversFrom Local Name

-- A first notice of w that gives breaks the names of host w, and the gifts of provider w that were not opened.
abbrev pub BreaksAtNotice : (N W : Type 0) → Type 0
BreaksAtNotice N W = (K : Naming N W) (w : ℕ) (s t : Vat N) → is_in w s.noticed ≡ false → notice K w s ≡ Gives tt t → HostedBreak K w s t × GiftsBreak K w s t

abbrev pub NoticesBreak : Type 0
NoticesBreak = BreaksAtNotice Name Name × BreaksAtNotice Local Name

-- Of a vat that is not at rest it is false: what is followed to broken partition may be followed to null after a step.
abbrev pub RestIsNeeded : Type 0
RestIsNeeded = (K : Naming Local Name) × (s : Vat Local) × (step : Step Local Name) × (n : Local) × (follow K s (Ref n) ≡ Broken (codes "partition")) × After (λ r t. follow K t (Ref n) ≡ Null) s (does K step s)
