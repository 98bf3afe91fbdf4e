-- Gifts come to be at the end of those that a vat hosts.
use Rattle.std.proofs.Common.{◌≡◌, ℕ, Bool, true, false, List, [], ◌∷◌, ◌++◌, refl, sym, ap, ◌∙◌, append_assoc, append-nil, map}
use Rattle.def_machine.specs.Values.{Name, Naming}
use Rattle.def_machine.specs.State.{GiftEntry, Vat, Done, Gives, with_opened, is_gift}
use Rattle.law_machine.specs.Machine.Steps.{Step, After, does}
use Rattle.law_machine.proofs.Machine.Keeps.{IsKept, IsKeptUnder}
use Rattle.law_machine.proofs.Machine.StepLaws.{kept_by_steps}
use Rattle.law_frame.specs.Local.Told.{unopened}

-- gifts were added at the end, and else only opened
abbrev pub Adds : Vat Name → Vat Name → Type 0
Adds s t = (gs : List (GiftEntry Name)) × (map unopened t.gifts ≡ map unopened s.gifts ++ gs)

-- nothing of it changes
still : (s : Vat Name) → Adds s s
still s = ([], sym (append-nil (map unopened s.gifts)))

added_on : (s t u : Vat Name) → Adds s t → Adds t u → Adds s u
added_on s t u h k = (h.0 ++ k.0, k.1 ∙ ap (λ gs. gs ++ k.0) h.1 ∙ append_assoc (map unopened s.gifts) h.0 k.0)

opened_same : (p i : ℕ) (gs : List (GiftEntry Name)) → map unopened (with_opened p i gs) ≡ map unopened gs
unfolding with_opened unopened
opened_same p i [] = refl
opened_same p i (g ∷ gs) = either (is_gift p i g) (opened_same p i gs)
  where
    either : (b : Bool) → map unopened (with_opened p i gs) ≡ map unopened gs → map unopened (elim b [ true ↦ record g { opened = true } ∷ gs | false ↦ g ∷ with_opened p i gs ]) ≡ map unopened (g ∷ gs)
    either true e = refl
    either false e = ap (λ hs. unopened g ∷ hs) e

end_added : (gs : List (GiftEntry Name)) (g : GiftEntry Name) → map unopened (gs ++ g ∷ []) ≡ map unopened gs ++ unopened g ∷ []
end_added [] g = refl
end_added (x ∷ gs) g = ap (λ hs. unopened x ∷ hs) (end_added gs g)

adds : IsKept Adds
adds = record {
  same = λ s. still s;
  trans = λ {s} {t} {u} h k. added_on s t u h k;
  fuel = λ s n. still s;
  happened = λ s e. still s;
  activations = λ s. still s;
  thing = λ s x. still s;
  killed = λ s n. still s;
  slot = λ s c. still s;
  written = λ s n v. still s;
  list = λ s vs. still s;
  queue = λ s m. still s;
  outbox = λ s n. still s;
  gift = λ s g. (unopened g ∷ [], end_added s.gifts g);
  opened = λ s p i. ([], opened_same p i s.gifts ∙ sym (append-nil (map unopened s.gifts)));
  noticed = λ s w. still s;
  drawn = λ s w. still s;
}

adds_under : (K : Naming Name Name) → IsKeptUnder K Adds
adds_under K = record {
  altered = λ s c n. still s;
  came = λ s c h. still s;
  mailed = λ s c. still s;
  promised = λ s. still s;
  messaged = λ s h id. still s;
  lone = λ s id. still s;
}

added_by : (s t : Vat Name) (d : Done Name (Unit {0})) → After Adds s d → d ≡ Gives tt t → Adds s t
added_by s t d h e = rw e at h

pub step_adds : (K : Naming Name Name) (what : Step Name Name) (s t : Vat Name) → does K what s ≡ Gives tt t → Adds s t
step_adds K what s t e = added_by s t (does K what s) (kept_by_steps K Adds adds (adds_under K) what s) e
