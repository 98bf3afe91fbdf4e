-- Worlds of a run in which nothing is out of bounds.
use Rattle.std.specs.Prelude.{◌≡◌, ℕ, ◌+◌, ◌<◌, Some, length, slice_get}
use Rattle.def_machine.specs.Values.{Name}
use Rattle.def_machine.specs.State.{Vat}
use Rattle.def_run.specs.World.{Script, Program, Entry, Turn, Carry, CutLink, NoticeLink, Link, Event, Opens, Turned, Idle, Carried, CutAt, NoticedAt, Here, LostCut, LeftQueue, LeftHeld, LeftWait, LeftLink, Ends, World}
use Rattle.law_text.specs.Text.Feeds.{AllOf}
use Rattle.law_text.specs.RunTexts.Fitting.{Limits, size, IsVat, IsLow, NameFits, NoteFits, LineFits, VatFits}
use Rattle.law_text.specs.RunTexts.Spelled.{TreeFits}

module _ (L : Limits) where
  abbrev pub EventFits : Event → Type 0
  EventFits (Opens v) = IsVat L v
  EventFits (Turned k v) = IsLow L k × IsVat L v
  EventFits (Idle k) = IsLow L k
  EventFits (Carried k v w n bytes) = IsLow L k × IsVat L v × IsVat L w × NoteFits L n
  EventFits (CutAt k v w) = IsLow L k × IsVat L v × IsVat L w
  EventFits (NoticedAt k v w) = IsLow L k × IsVat L v × IsVat L w
  EventFits (Here v e) = IsVat L v × LineFits L e
  EventFits (LostCut m) = NameFits L m
  EventFits (LeftQueue v m) = IsVat L v × NameFits L m
  EventFits (LeftHeld v n m) = IsVat L v × NameFits L n × NameFits L m
  EventFits (LeftWait v n m) = IsVat L v × NameFits L n × NameFits L m
  EventFits (LeftLink v w n) = IsVat L v × IsVat L w × NoteFits L n
  EventFits Ends = Unit {0}

  abbrev pub LinkFits : Link → Type 0
  LinkFits l = IsVat L l.from × IsVat L l.to × AllOf (NoteFits L) l.notes

  pub record WorldFits (w : World) : Type 0 where
    pub count : length w.vats ≡ L.many
    pub vats : AllOf (VatFits L) w.vats
    pub links : AllOf LinkFits w.links
    pub history : AllOf EventFits w.history

  -- each vat made less than the limit
  abbrev pub Small : World → Type 0
  Small w = (v : ℕ) (s : Vat Name) → slice_get w.vats v ≡ Some s → size s < L.limit

  abbrev pub EntryFits : Entry → Type 0
  EntryFits (Turn v) = IsVat L v
  EntryFits (Carry v w) = IsVat L v × IsVat L w
  EntryFits (CutLink v w) = IsVat L v × IsVat L w
  EntryFits (NoticeLink v w) = IsVat L v × IsVat L w

  -- Its vats know vats of it, its trees are such that lines can tell them, and its entries are of its vats, and less than the limit.
  pub record ScriptFits (script : Script) : Type 0 where
    pub knows : AllOf (λ (p : Program). AllOf (IsVat L) p.knows) script.vats
    pub trees : AllOf (λ (p : Program). TreeFits p.tree) script.vats
    pub entries : AllOf EntryFits script.schedule
    pub short : 1 + length script.schedule < L.limit
