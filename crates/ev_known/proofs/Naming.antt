-- Labels of names tell objects apart.
use Rattle.std.proofs.Common.{◌≡◌, refl}
use Rattle.ev_base.specs.declared.names.Name.{Name}
use Rattle.ev_base.specs.declared.names.Name.TheVariants.{Object, Own, Answer, Gift, Root, Claimed}
use Rattle.def_event.specs.Uses.{AName, is_object}
use Rattle.ev_links.specs.Label.{label}
use Rattle.ev_known.specs.Following.{is_object_label}

pub object_label : (n : Name) → is_object_label (label (AName n)) ≡ is_object n
unfolding label is_object
object_label (Object v n) = refl
object_label (Own v n) = refl
object_label (Answer v m) = refl
object_label (Gift v n) = refl
object_label (Root v) = refl
object_label (Claimed v p word) = refl
