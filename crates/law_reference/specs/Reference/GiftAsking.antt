-- Who learns a gift asks its host for it.
use Rattle.std.specs.Prelude.{◌≡◌, ℕ, true, List, [], ◌∷◌, ◌⊎◌}
use Rattle.def_machine.specs.Values.{Name, Naming}
use Rattle.def_machine.specs.State.{Passed, Passeds, Plain, AGift, Many, NoMore, More, Note, Deliver, Open, Ask, SettledTo, Elsewhere, Shorten, Put, Vat, Done, Gives, Throws, Ejects, Stops, is_in}
use Rattle.def_machine.specs.Arrive.{Incoming, arrive}

module _ (h i : ℕ) where
  -- the gift at host h of draw i passes, in what passes and in a note
  abbrev mutual
    pub Passes : Passed (Incoming Name Name) → Type 0
    Passes (Plain y) = ⊥
    Passes (AGift g j) = (g ≡ h) × (j ≡ i)
    Passes (Many ys) = PassesIn ys

    pub PassesIn : Passeds (Incoming Name Name) → Type 0
    PassesIn NoMore = ⊥
    PassesIn (More y ys) = Passes y ⊎ PassesIn ys

  abbrev pub NotePasses : Note (Incoming Name Name) → Type 0
  NotePasses (Deliver m n verb ys) = PassesIn ys
  NotePasses (SettledTo n y) = Passes y
  NotePasses (Open j n) = ⊥
  NotePasses (Ask p j n) = ⊥
  NotePasses (Elsewhere n c) = ⊥
  NotePasses (Shorten n c j) = ⊥

  -- the gift of provider p and draw i is asked for
  abbrev pub IsAsk : ℕ → Note Name → Type 0
  IsAsk p (Ask q j n) = (q ≡ p) × (j ≡ i)
  IsAsk p (Deliver m n verb ys) = ⊥
  IsAsk p (Open j n) = ⊥
  IsAsk p (SettledTo n y) = ⊥
  IsAsk p (Elsewhere n c) = ⊥
  IsAsk p (Shorten n c j) = ⊥

  -- among the notes put, of host h
  abbrev pub IsAskedOf : ℕ → List (Put Name) → Type 0
  IsAskedOf p [] = ⊥
  IsAskedOf p (x ∷ xs) = ((x.to ≡ h) × IsAsk p x.note) ⊎ IsAskedOf p xs

  -- the host is noticed, or was asked
  abbrev pub NoticedOrAsked : ℕ → Vat Name → Type 0
  NoticedOrAsked p s = (is_in h s.noticed ≡ true) ⊎ IsAskedOf p s.outbox

  -- where what is done gives
  abbrev pub ThenAsked : {A : Type 0} → ℕ → Done Name A → Type 0
  ThenAsked p (Gives a t) = NoticedOrAsked p t
  ThenAsked p (Throws x t) = Unit {0}
  ThenAsked p (Ejects n v t) = Unit {0}
  ThenAsked p (Stops c t) = Unit {0}

-- Once a note arrived in which a gift passed, the vat has put a note to the gift's host that asks for the gift of the sender under that draw, or it has noticed the host.
abbrev pub WhoLearnsAGiftAsks : Type 0
WhoLearnsAGiftAsks = (K : Naming Name Name) (from h i : ℕ) (n : Note (Incoming Name Name)) (s : Vat Name) → NotePasses h i n → ThenAsked h i from (arrive K from n s)
