-- In which states, and of which notes, messages go where they should.
use Rattle.std.specs.Prelude.{◌≡◌, ℕ, List}
use Rattle.def_machine.specs.Values.{Value, Null, Flag, Number, Letter, Text, Prim, Broken, Items, Ref, Name, host_of}
use Rattle.def_machine.specs.State.{Message, Standing, Unsettled, WaitsOn, Viewed, Settled, Known, Passed, Passeds, Plain, AGift, Many, NoMore, More, Note, Deliver, Open, Ask, SettledTo, Elsewhere, Shorten, Put, GiftEntry, Vat}
use Rattle.def_machine.specs.Arrive.{Incoming, Old, New}
use Rattle.law_machine.specs.Machine.Steps.{Step, Opens, Takes, Receives, Notices}
use Rattle.law_fate.specs.Fates.Lasting.{Each, KnownWell}

-- a name that is viewed has another host
abbrev pub ViewsAnother : ℕ → Name → Standing Name → Type 0
ViewsAnother v n Unsettled = Unit {0}
ViewsAnother v n (WaitsOn q) = Unit {0}
ViewsAnother v n (Viewed q) = host_of n ≡ v → ⊥
ViewsAnother v n (Settled y) = Unit {0}

-- What vat v knows of a name: its host, that a name of its own has no view, and that it tells of its own names alone, and holds messages on them alone.
pub record KnownSound (v : ℕ) (k : Known Name) : Type 0 where
  pub host : k.host ≡ host_of k.name
  pub viewed : ViewsAnother v k.name k.standing
  pub told : Each (λ (w : ℕ). host_of k.name ≡ v) k.told
  pub held : Each (λ (m : Message Name). host_of k.name ≡ v) k.held

-- A note from v to w: a message goes to the host of its target, and a vat tells where its own names settled.
abbrev pub NoteSound : ℕ → ℕ → Note Name → Type 0
NoteSound v w (Deliver m n verb ys) = host_of n ≡ w
NoteSound v w (Open i n) = Unit {0}
NoteSound v w (Ask p i n) = Unit {0}
NoteSound v w (SettledTo n y) = host_of n ≡ v
NoteSound v w (Elsewhere n c) = host_of n ≡ v
NoteSound v w (Shorten n c i) = Unit {0}

-- what vat v is: its number, what it knows, the gifts of which it is the host, the notes that it put
pub record Parts (v number : ℕ) (known : List (Known Name)) (gifts : List (GiftEntry Name)) (outbox : List (Put Name)) : Type 0 where
  pub same : number ≡ v
  pub well : Each KnownWell known
  pub names : Each (KnownSound v) known
  pub own : Each (λ (g : GiftEntry Name). host_of g.name ≡ v) gifts
  pub notes : Each (λ (p : Put Name). NoteSound v p.to p.note) outbox

abbrev pub Sound : ℕ → Vat Name → Type 0
Sound v s = Parts v s.number s.known s.gifts s.outbox

-- ---- notes that arrive

abbrev pub name_in : Incoming Name Name → Name
name_in (Old n) = n
name_in (New x h) = x

-- a new name comes with its host
abbrev pub HostComes : Incoming Name Name → Type 0
HostComes (Old n) = Unit {0}
HostComes (New x h) = h ≡ host_of x

abbrev pub ValueHosts : Value (Incoming Name Name) → Type 0
ValueHosts (Ref x) = HostComes x
ValueHosts Null = Unit {0}
ValueHosts (Flag b) = Unit {0}
ValueHosts (Number z) = Unit {0}
ValueHosts (Letter c) = Unit {0}
ValueHosts (Text t) = Unit {0}
ValueHosts (Prim n) = Unit {0}
ValueHosts (Broken p) = Unit {0}
ValueHosts (Items k) = Unit {0}

abbrev mutual
  pub PassedHosts : Passed (Incoming Name Name) → Type 0
  PassedHosts (Plain y) = ValueHosts y
  PassedHosts (AGift h i) = Unit {0}
  PassedHosts (Many ys) = AllHosts ys

  pub AllHosts : Passeds (Incoming Name Name) → Type 0
  AllHosts NoMore = Unit {0}
  AllHosts (More y ys) = PassedHosts y × AllHosts ys

-- A note that arrives at v: new names come with their hosts, a message comes to the host of its target, and v is told nothing of its own names.
abbrev pub NoteArrives : ℕ → Note (Incoming Name Name) → Type 0
NoteArrives v (Deliver m x verb ys) = (host_of (name_in x) ≡ v) × HostComes x × AllHosts ys
NoteArrives v (Open i x) = HostComes x
NoteArrives v (Ask p i x) = Unit {0}
NoteArrives v (SettledTo x y) = HostComes x × PassedHosts y
NoteArrives v (Elsewhere x c) = (host_of (name_in x) ≡ v → ⊥) × HostComes x
NoteArrives v (Shorten x c i) = HostComes x

abbrev pub StepArrives : ℕ → Step Name Name → Type 0
StepArrives v (Opens tree depth root given) = Unit {0}
StepArrives v (Takes tree depth m) = Unit {0}
StepArrives v (Receives from n) = NoteArrives v n
StepArrives v (Notices w) = Unit {0}
