-- References that hold values of one kind alone.
use Rattle.std.specs.Prelude.{◌≡◌, Bool, true, List, [], ◌∷◌, Some, None}
use Rattle.std.specs.declared.option.Option.{Option}
use Rattle.ev_base.specs.declared.values.Value.{Value}
use Rattle.ev_base.specs.declared.values.Value.TheVariants as held
use Rattle.ev_refs.specs.References.{References}
use Rattle.ev_refs.specs.declared.known.Known.{Known}
use Rattle.ev_refs.specs.declared.known.Message.{Message}
use Rattle.ev_refs.specs.declared.known.Standing.{Standing}
use Rattle.ev_refs.specs.declared.known.Standing.TheVariants.{Unsettled, WaitsOn, Viewed, Settled}

-- each of a list is so
abbrev pub Every : {A : Type 0} → (A → Type 0) → List A → Type 0
Every P [] = Unit {0}
Every P (x ∷ xs) = P x × Every P xs

-- what may be there is so
abbrev pub IfThere : {A : Type 0} → (A → Type 0) → Option A → Type 0
IfThere P None = Unit {0}
IfThere P (Some x) = P x

module _ (kind : Value → Bool) where
  abbrev pub IsOf : Value → Type 0
  IsOf v = kind v ≡ true

  abbrev pub MessageOf : Message → Type 0
  MessageOf m = IsOf m.target × Every IsOf m.args

  abbrev pub StandingOf : Standing → Type 0
  StandingOf Unsettled = Unit {0}
  StandingOf (WaitsOn q) = Unit {0}
  StandingOf (Viewed q) = Unit {0}
  StandingOf (Settled v) = IsOf v

  abbrev pub KnownOf : Known → Type 0
  KnownOf k = StandingOf k.standing × (Every MessageOf k.held × Every MessageOf k.reactions)

  pub record ReferencesOf (r : References) : Type 0 where
    pub known : Every KnownOf r.known
    pub queue : Every MessageOf r.queue
    pub partition : IsOf (held.Broken r.partition)
    pub cycle : IsOf (held.Broken r.cycle)
