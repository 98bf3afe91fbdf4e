-- What is said of references in the machine's terms.
use Rattle.std.specs.Prelude.{◌≡◌, ℕ, List, codes, map}
use Rattle.ev_base.specs.declared.values.Value.{Value as Held}
use Rattle.def_machine.specs.Values.{Words, Local, Prom, numbering}
use Rattle.def_machine.specs.State.{Vat}
use Rattle.def_machine.specs.Refs.{follow, place, reaches}
use Rattle.ev_refs.specs.References.{References}
use Rattle.ev_refs.specs.Follow.{followed, place_of}
use Rattle.ev_refs.specs.Leading.{leads_back}
use Rattle.ev_refs.specs.Reading.{text_by, value_by, vat_by, place_by}

-- the texts of the numbers that the references have for them
abbrev pub KnowsTexts : List Words → References → Type 0
KnowsTexts ts r = (text_by ts r.partition ≡ codes "partition") × (text_by ts r.cycle ≡ codes "cycle")

-- the lists of the vat are these
abbrev pub HasLists : List Words → List (List Held) → Vat Local → Type 0
HasLists ts ls s = s.lists ≡ map (map (value_by ts)) ls

abbrev pub FollowsAsTheMachine : Type 0
FollowsAsTheMachine = (word : ℕ → ℕ) (ts : List Words) (r : References) (s : Vat Local) (v : Held) → KnowsTexts ts r
    → follow (numbering {W = Local} word) (vat_by ts r s) (value_by ts v) ≡ value_by ts (followed r v)

abbrev pub PlacesAsTheMachine : Type 0
PlacesAsTheMachine = (word : ℕ → ℕ) (ts : List Words) (r : References) (s : Vat Local) (v : Held)
    → place (numbering {W = Local} word) (vat_by ts r s) (value_by ts v) ≡ place_by ts (place_of r v)

abbrev pub LeadsBackAsTheMachine : Type 0
LeadsBackAsTheMachine = (word : ℕ → ℕ) (ts : List Words) (r : References) (ls : List (List Held)) (s : Vat Local) (p d : ℕ) (v : Held) → KnowsTexts ts r → HasLists ts ls s
    → reaches (numbering {W = Local} word) d (vat_by ts r s) (Prom p) (value_by ts v) ≡ leads_back d r ls p v
