-- A search goes back from labels up to one to which something known leads.
use Rattle.std.proofs.Common.{◌≡◌, ℕ, ◌+◌, ◌<◌, ◌≤◌, true, false, List, [], ◌∷◌, length, take, slice_get, Some, None, sym, ap, subst, ◌∙◌, inl, inr}
use Rattle.def_event.specs.Uses.{IsAmong}
use Rattle.ev_known.specs.declared.facts.Activation.{Activation}
use Rattle.ev_links.specs.declared.label.Label.{Label}
use Rattle.ev_links.specs.declared.links.Scope.TheVariants.{Place}
use Rattle.ev_links.specs.Links.{row, with_others}
use Rattle.ev_known.specs.Knowing.{Known, Searched, is_led}
use Rattle.ev_links.proofs.Among.{among_cases}
use Rattle.ev_links.proofs.Spreading.{Searching, among_at, searching_done, searching_init, searching_step, take_all, taken_more}

-- the labels before the index were gone on from, and nothing known leads to them
pub record Going (k : Known) (a : Activation) (starts seen : List Label) (index : ℕ) : Type 0 where
  pub searching : Searching k.links (Place a.at) starts seen index
  pub none : (t : Label) → IsAmong t (take index seen) → is_led k a t ≡ false

pub going_init : (k : Known) (a : Activation) (starts : List Label) → Going k a starts starts 0
going_init k a starts = record { searching = searching_init k.links (Place a.at) starts; none = λ t i. absurd i }

pub going_step : (k : Known) (a : Activation) (starts seen new : List Label) (i : ℕ) (s : Label) → Going k a starts seen i → slice_get seen i ≡ Some s → is_led k a s ≡ false
    → new ≡ with_others (Place a.at) seen (row k.links s) → Going k a starts new (i + 1)
going_step k a starts seen new i s h at other is = record {
  searching = searching_step k.links (Place a.at) starts seen new i s h.searching at is;
  none = λ t j. elim (among_cases t (take i seen) (s ∷ []) (subst (IsAmong t) (taken_more (Place a.at) seen new (row k.links s) i s at is) j)) [
    | inl b ↦ h.none t b
    | inr b ↦ elim b [ inl e ↦ ap (is_led k a) (sym e) ∙ other | inr n ↦ absurd n ]
  ];
}

pub going_found : (k : Known) (a : Activation) (starts seen : List Label) (i : ℕ) (s : Label) → Going k a starts seen i → slice_get seen i ≡ Some s → i < length seen → is_led k a s ≡ true
    → Searched k a starts seen (Some i)
going_found k a starts seen i s h at lt led = (lt, s, h.searching.sound s (among_at seen i s at), led)

pub going_done : (k : Known) (a : Activation) (starts seen : List Label) (i : ℕ) → Going k a starts seen i → length seen ≤ i → Searched k a starts seen None
going_done k a starts seen i h le = λ l r.
    h.none l (subst (IsAmong l) (sym (take_all seen i le)) ((searching_done k.links (Place a.at) starts seen i h.searching le l).1 r))
