-- What a message asks for, if it asks for an answer.
use Rattle.std.proofs.Common.{◌≡◌, Bool, true, false, List, refl, ◌⊎◌, inl, inr}
use Rattle.def_machine.specs.Values.{Name}
use Rattle.law_reference.specs.Reference.Logs.{asked_if}
use Rattle.law_fate.specs.Name.Names.{AllOf, IsAmong}

pub asked_or : (b : Bool) (x n : Name) (ns : List Name) → IsAmong n (asked_if b x ns) → ((b ≡ true) × (n ≡ x)) ⊎ IsAmong n ns
unfolding asked_if
asked_or true x n ns (inl e) = inl (refl, e)
asked_or true x n ns (inr a) = inr a
asked_or false x n ns a = inr a

pub asked_first : (b : Bool) (x n : Name) (ns : List Name) → b ≡ true → n ≡ x → IsAmong n (asked_if b x ns)
unfolding asked_if
asked_first true x n ns e f = inl f
asked_first false x n ns e f = cc

pub asked_rest : (b : Bool) (x n : Name) (ns : List Name) → IsAmong n ns → IsAmong n (asked_if b x ns)
unfolding asked_if
asked_rest true x n ns a = inr a
asked_rest false x n ns a = a

pub all_asked : (P : Name → Type 0) (b : Bool) (x : Name) (ns : List Name) → (b ≡ true → P x) → AllOf P ns → AllOf P (asked_if b x ns)
unfolding asked_if
all_asked P true x ns f h = (f refl, h)
all_asked P false x ns f h = h
