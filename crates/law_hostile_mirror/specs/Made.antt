-- What a frame of a hostile vat makes: names and counts in its record, and counts and numbers in the place of one.
use Rattle.std.specs.Prelude.{◌≡◌, ℕ, ◌+◌, ◌<◌, Bool, List, ◌++◌, length, map}
use Rattle.def_machine.specs.State.{Note, Vat, Gives}
use Rattle.def_machine.specs.Values.{Name}
use Rattle.def_run.specs.Deeds.{perform_all}
use Rattle.def_run.specs.Names.{Names}
use Rattle.def_run.specs.Numbers.{Vats, name_at_vat}
use Rattle.def_run.specs.Vats.{Member}
use Rattle.def_run.specs.Wire.{connected_at}
use Rattle.def_run.specs.World.{Script, World, left_vat}
use Rattle.def_hostile.specs.Hostile.{Play, deeds_for, new_names}
use Rattle.def_hostile.specs.Outsiders.{Outsider, objects_in, promises_in, messages_in, counted, new_numbers, new_promises, grown}
use Rattle.law_fate.specs.Name.Names.{AllOf}
use Rattle.law_hostile_frame.specs.Mirrors.{IsPlain, OutsiderMirrors}

-- A record made so many objects (a), promises (b) and messages (c), and nothing else but to know names.
pub record MadeSo (script : Script) (s r : Vat Name) (a b c : ℕ) : Type 0 where
  pub fuel : r.fuel ≡ s.fuel
  pub drawn : r.drawn ≡ s.drawn
  pub outbox : r.outbox ≡ s.outbox
  pub happened : r.happened ≡ s.happened
  pub things : length r.things ≡ length s.things + a
  pub promises : r.promises ≡ s.promises + b
  pub messages : r.messages ≡ s.messages + c
  pub left : left_vat script r ≡ left_vat script s

-- The record of a hostile vat always goes, and makes what is new in the frame, and its message, if one.
abbrev pub DeedsAreCounted : Type 0
DeedsAreCounted = (script : Script) (h u : ℕ) (kinds : List Bool) (n : Note Name) (s : Vat Name) → (r : Vat Name) × (perform_all script h (deeds_for u kinds n) s ≡ Gives tt r) × MadeSo script s r (objects_in kinds) (promises_in kinds) (messages_in n)

-- The numbers of what is new have the names of what is new.
abbrev pub NewNamesMirror : Type 0
NewNamesMirror = (ms : List Member) (h : ℕ) (t : Names) (objects promises : ℕ) (kinds : List Bool)
    → (map (name_at_vat ms h (record t { known = t.known ++ new_promises h promises kinds })) (new_numbers objects (length t.known) kinds) ≡ new_names h objects promises kinds)
    × AllOf (IsPlain (t.known ++ new_promises h promises kinds)) (new_numbers objects (length t.known) kinds)

-- So once a frame for vat u made these, the counts and numbers of hostile vat h stand for its record and what it has exported.
abbrev pub MadeMirror : Type 0
MadeMirror = (play : Play) (w y : World) (W Y : Vats) (h u : ℕ) (r p : Vat Name) (o : Outsider) (g : Member) (kinds : List Bool) (n : Note Name) → OutsiderMirrors w W play h r o g → u < length W.members → length Y.members ≡ length W.members
    → MadeSo play.script r p (objects_in kinds) (promises_in kinds) (messages_in n)
    → ((z : ℕ) → (u ≡ z → ⊥) → (connected_at h z y.connections).tables.exports ≡ (connected_at h z w.connections).tables.exports)
    → (connected_at h u y.connections).tables.exports ≡ (connected_at h u w.connections).tables.exports ++ new_names h (length r.things) r.promises kinds
    → OutsiderMirrors y Y play h p (counted kinds n o) (grown h u kinds o g)
