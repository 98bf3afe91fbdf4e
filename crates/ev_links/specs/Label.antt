-- Labels of names and lists.
use Rattle.std.specs.Prelude.{ℕ}
use Rattle.ev_base.specs.declared.names.Name.TheVariants.{Object, Own, Answer, Gift, Root, Claimed}
use Rattle.def_event.specs.Uses.{Thing, AName, AList}
use Rattle.ev_links.specs.declared.label.Label.{Label}
use Rattle.ev_links.specs.declared.label.Kind.{Kind}
use Rattle.ev_links.specs.declared.label.Kind.TheVariants as kind

abbrev pub labelled : Kind → ℕ → ℕ → ℕ → Label
labelled k host sender number = record { kind = k; host = host; sender = sender; number = number }

-- the parts of a name or of a list
unfoldable pub label : Thing → Label
label (AName (Object v n)) = labelled kind.Object v 0 n
label (AName (Own v n)) = labelled kind.Own v 0 n
label (AName (Answer v m)) = labelled kind.Answer v m.sender m.number
label (AName (Gift v n)) = labelled kind.Gift v 0 n
label (AName (Root v)) = labelled kind.Root v 0 0
label (AName (Claimed v p word)) = labelled kind.Claimed v p word
label (AList v n) = labelled kind.List v 0 n
