-- What an arrival leaves of a vat, and what it means in the machine.
use Rattle.std.specs.Prelude.{◌≡◌, ◌++◌, List, Ok, Err}
use Rattle.ev_heap.specs.Contents.{Contents}
use Rattle.ev_heap.specs.declared.kept.Listed.{Listed}
use Rattle.def_machine.specs.State as machine
use Rattle.def_machine.specs.State.{Done, Vat}
use Rattle.def_machine.specs.Values.{Local}
use Rattle.ev_pass.specs.declared.interior.Interior.{Interior}
use Rattle.ev_pass.specs.declared.interior.Stop.{Stop}
use Rattle.ev_pass.specs.declared.interior.Stop.TheVariants.{Fuel, Repeated, Astray, Missing, Memory}
use Rattle.ev_room.specs.Reading.{World, vat_of}
use Rattle.ev_room.specs.Sound.{IsSound, Stays}
use Rattle.ev_arrive.specs.Acts.{Out}
use Rattle.ev_arrive.specs.Reading.{with_gifts}
use Rattle.ev_arrive.specs.declared.host.Host.{Host}
use Rattle.ev_arrive.specs.Bringing.{all_parts, part}
use Rattle.ev_arrive.specs.Fitting.{AllFit, Fits}
use Rattle.ev_arrive.specs.declared.brought.Heard.{Heard}
use Rattle.ev_arrive.specs.declared.brought.Heard.TheVariants.{Deliver, Open, Ask, Settled, Elsewhere, Shorten}
use Rattle.law_evaluation.specs.Acts.Kinds.{StopOf}

-- ---- what is left

-- a heap with more lists behind those that it had, and all else as it was
pub record MoreLists (before after : Contents) : Type 0 where
  pub things : after.things ≡ before.things
  pub slots : after.slots ≡ before.slots
  pub texts : after.texts ≡ before.texts
  pub codes : after.codes ≡ before.codes
  pub lists : (more : List Listed) × (after.lists ≡ before.lists ++ more)

-- lists alone came to the heap, words are drawn under the same key, and the vat is sound
pub record Leaves (before after : Interior) : Type 0 where
  pub heap : MoreLists before.heap after.heap
  pub stays : Stays before after
  pub sound : IsSound after

-- What something gives is so in the heap after it, and the vat is left so, also where it stops, which is for such a reason.
abbrev pub EndsIn : {A : Type 0} → (Stop → Type 0) → (Contents → A → Type 0) → Interior → Out A → Type 0
EndsIn P Q s (Ok a, h) = Q h.inside.heap a × Leaves s h.inside
EndsIn P Q s (Err e, h) = P e × Leaves s h.inside

abbrev pub Whatever : {A : Type 0} → Contents → A → Type 0
Whatever h a = Unit {0}

-- The vat is left so, and no text was missing.
abbrev pub EndsSound : {A : Type 0} → Interior → Out A → Type 0
EndsSound s o = EndsIn StopOf Whatever s o

-- ---- what is heard

-- the values of a note fit the heap: it has their texts and lists, and the lists among them are within the limits
abbrev pub NoteFits : Contents → Heard → Type 0
NoteFits h (Deliver m asks x verb args) = AllFit h 100 (all_parts args.items)
NoteFits h (Settled x y) = Fits h 100 (part y)
NoteFits h (Open i x) = Unit {0}
NoteFits h (Ask p i) = Unit {0}
NoteFits h (Elsewhere x c) = Unit {0}
NoteFits h (Shorten x i) = Unit {0}

-- ---- the machine

-- a vat of the machine with this inside and these gifts
abbrev pub vat_in : World → Host → Vat Local
vat_in w h = with_gifts h.gifts (vat_of w h.inside)

-- What something gives in the code's terms stands for what it gives in the machine, and a stop for a stop.
abbrev pub Means : World → Out (Unit {0}) → Done Local (Unit {0}) → Type 0
Means w (Ok u, h) d = d ≡ machine.Gives tt (vat_in w h)
Means w (Err Fuel, h) d = d ≡ machine.Stops machine.Fuel (vat_in w h)
Means w (Err (Repeated i j), h) d = d ≡ machine.Stops (machine.Repeated i j) (vat_in w h)
Means w (Err Astray, h) d = d ≡ machine.Stops machine.Astray (vat_in w h)
Means w (Err Missing, h) d = ⊥
Means w (Err Memory, h) d = Unit {0}
