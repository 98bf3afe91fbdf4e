-- What is ahead stays ahead as lanes are shut.
use Rattle.std.proofs.Common.{◌≡◌, refl, sym, subst, ◌⊎◌, inl, inr}
use Rattle.def_machine.specs.Values.{Name}
use Rattle.law_order.specs.Ordering.Ways.{Lane, Place, Nowhere, Ways, IsIn, Doom, nowhere, Ahead, doomed_there}
use Rattle.law_order.proofs.Ordering.Kept.{Turns, to_doom, turning, Change, Holds, kept, doom_kept}
use Rattle.law_order.proofs.Ordering.Changes.{self, equal, remains, some_name}
use Rattle.law_order.proofs.Ordering.FoundPlaces.{nowhere_is_doomed}
use Rattle.law_order.specs.Ordering.Places.{ways}
use Rattle.law_order.specs.Cuts.Cuts.{IsShutOff, ShuttingKeeps, CutMessagesDoom}

module _ (w u : Ways) (g : IsShutOff w u) (x : Name) where
  -- the lane leads nowhere
  abbrev Shut : Lane → Name → Type 0
  Shut l m = (n : Name) → u.onward l n ≡ Nowhere

  shut_left : (l : Lane) (m : Name) → IsIn (record { mail = x; aim = m }) (u.stands l) ⊎ ((n : Name) → u.onward l n ≡ Nowhere) → (Unit {0} × IsIn (record { mail = x; aim = m }) (u.stands l)) ⊎ Shut l m
  shut_left l m (inl i) = inl (tt, i)
  shut_left l m (inr h) = inr h

  shut_lane : (l : Lane) (n : Name) → (u.onward l n ≡ w.onward l n) ⊎ Doom u (u.onward l n) → Turns w u x (Unit {0}) Shut (w.onward l n) (u.onward l n)
  shut_lane l n (inl e) = equal w u x Shut (w.onward l n) (u.onward l n) e
  shut_lane l n (inr h) = to_doom h

  shut_change : Change w u x (Unit {0}) Shut (λ c. c)
  shut_change = record {
    standing = λ l m i. shut_left l m (g.stands l (record { mail = x; aim = m }) i);
    lanes = λ l n. shut_lane l n (g.lanes l n);
    links = λ a b. g.links a b;
    places = λ c. turning (self w u x Shut c);
    ends = λ l. inl (λ n. refl);
  }

  shut_holds : Holds w u x (Unit {0}) Shut (Ahead u x)
  shut_holds = remains w u x Shut (λ l m n h f. doomed_there (subst (Doom u) (sym (h n)) nowhere))

  shut_doom : (c : Place) → Doom w c → Doom u c
  shut_doom c h = doom_kept w u x (Unit {0}) Shut (λ q. q) shut_change c h c (self w u x Shut c)

  shut_ahead : (c : Place) → Ahead w x c → Ahead u x c
  shut_ahead c h = kept w u x (Unit {0}) Shut (λ q. q) shut_change (Ahead u x) shut_holds c h c (self w u x Shut c)

pub shutting_keeps : ShuttingKeeps
shutting_keeps = λ w u g c. (λ h. shut_doom w u g some_name c h, λ x h. shut_ahead w u g x c h)

pub cut_messages_doom : CutMessagesDoom
cut_messages_doom = λ script honest w y a b m g i c lacks h. nowhere_is_doomed (ways script honest y) m c i lacks ((g.places c).1 m h)
