-- In a sound state, what is reached from an object with DeepFrozen's stamp is frozen.
use Rattle.std.proofs.Common.{◌≡◌, ℕ, zero, suc, Bool, true, false, List, [], ◌∷◌, Option, Some, None, refl, inl, inr, ◌==◌}
use Rattle.std.specs.Prelude.{slice_get}
use Rattle.std.proofs.lemmas.Bool.{eq-eqb}
use Rattle.def_machine.specs.Values.{Value, Items, Ref, Name, Naming, Spot, Own, Foreign, naming, numbering, spot_of, local_spot}
use Rattle.def_machine.specs.State.{Fixed, Slot, Binding, Thing, Made, Vat}
use Rattle.law_frozen.specs.Frozen.{AllOf, IsAmong, Lists, HasNoName, IsFrozen, FrozenCapture, ThingWell, Sound, Leads, Reaches, HasNoSlot, FrozenReach, deep_frozen}
use Rattle.law_frozen.proofs.Facts.{all_map}
use Rattle.law_frozen.proofs.Fine.{MayBe}
use Rattle.law_frozen.proofs.Looks.{get_all}

all_at : {A : Type 0} (P : A → Type 0) (xs : List A) (x : A) → AllOf P xs → IsAmong x xs → P x
all_at P [] x h i = absurd i
all_at P (y ∷ xs) x h (inl e) = rw e h.0
all_at P (y ∷ xs) x h (inr i) = all_at P xs x h.1 i

no_name_more : {N : Type 0} (ls : Lists N) (d : ℕ) (v : Value N) → HasNoName d ls v → HasNoName (suc d) ls v
no_name_more ls zero (Items k) h = absurd h
no_name_more ls zero (Ref n) h = absurd h
no_name_more ls (suc d) (Items k) h = (h.0, h.1, all_map (no_name_more ls d) h.0 h.2)
no_name_more ls (suc d) (Ref n) h = absurd h
no_name_more ls zero other h = tt
no_name_more ls (suc d) other h = tt

same_list : {A : Type 0} (o : Option A) (x y : A) → o ≡ Some x → o ≡ Some y → x ≡ y
same_list o x y e f = cc

own_same : (p : Spot) (i j : ℕ) → p ≡ Own i → p ≡ Own j → i ≡ j
own_same p i j e f = cc

module _ {N W : Type 0} (K : Naming N W) (spots : (i : ℕ) → K.spot (K.object i) ≡ Own i) where
  plain_frozen : (ts : List (Thing N)) (ls : Lists N) (w : Value N) → HasNoName 99 ls w → IsFrozen K ts ls w
  plain_frozen ts ls (Items k) h = no_name_more ls 99 (Items k) h
  plain_frozen ts ls (Ref n) h = absurd h
  plain_frozen ts ls other h = tt

  thing_at : (ts us : List (Thing N)) (ls : Lists N) (o : Option (Thing N)) (x : Thing N) → o ≡ Some x → MayBe (ThingWell K ts ls) o → ThingWell K ts ls x
  thing_at ts us ls (Some y) x e h = let same : y ≡ x = cc in rw same at h
  thing_at ts us ls None x e h = absurd (none x e)
    where
      none : (x : Thing N) → None ≡ Some x → ⊥
      none x e = cc

  stamps_same : (o : Option (Thing N)) (a b : ℕ) (c d : List (Binding N)) (ss rs : List (Value N)) → o ≡ Some (Made a c ss) → o ≡ Some (Made b d rs) → ss ≡ rs
  stamps_same o a b c d ss rs e f = cc

  -- the captures of an object with the stamp
  captures_frozen : (s : Vat N) → Sound K s → (n : N) → IsFrozen K s.things s.lists (Ref n) → (i node : ℕ) (caught : List (Binding N)) (stamps : List (Value N)) → K.spot n ≡ Own i → slice_get s.things i ≡ Some (Made node caught stamps)
      → AllOf (λ b. FrozenCapture K s.things s.lists b.bound) caught
  captures_frozen s h n f i node caught stamps e t =
      let same : f.0 ≡ i = own_same (K.spot n) f.0 i f.1 e in
      let there : slice_get s.things i ≡ Some (Made f.2.0 f.2.1 f.2.2) = rw same at f.2.3 in
      let stamped : f.2.2 ≡ stamps = stamps_same (slice_get s.things i) f.2.0 node f.2.1 caught f.2.2 stamps there t in
      let well : ThingWell K s.things s.lists (Made node caught stamps) = thing_at s.things s.things s.lists (slice_get s.things i) (Made node caught stamps) t (get_all (ThingWell K s.things s.lists) s.things i h.things) in
      let among : IsAmong deep_frozen stamps = rw stamped at f.2.4 in
      well.2 among

  leads_frozen : (s : Vat N) → Sound K s → (u w : Value N) → IsFrozen K s.things s.lists u → Leads K s u w → IsFrozen K s.things s.lists w
  leads_frozen s h (Items k) w f l = let same : l.0 ≡ f.0 = same_list (slice_get s.lists k) l.0 f.0 l.1 f.1 in let among : IsAmong w f.0 = rw same at l.2 in plain_frozen s.things s.lists w (all_at (λ v. HasNoName 99 s.lists v) f.0 w f.2 among)
  leads_frozen s h (Ref n) w f l = all_at (λ b. FrozenCapture K s.things s.lists b.bound) l.2 (record { noun = l.4; bound = Fixed w l.5 }) (captures_frozen s h n f l.0 l.1 l.2 l.3 l.6 l.7) l.8
  leads_frozen s h other w f l = absurd l

  reaches_frozen : (n : ℕ) (s : Vat N) → Sound K s → (v w : Value N) → IsFrozen K s.things s.lists v → Reaches K n s v w → IsFrozen K s.things s.lists w
  reaches_frozen zero s h v w f r = rw r at f
  reaches_frozen (suc n) s h v w f r = leads_frozen s h r.0 w (reaches_frozen n s h v r.0 f r.1) r.2

  no_slots : (s : Vat N) → Sound K s → (w : Value N) → IsFrozen K s.things s.lists w → HasNoSlot K s w
  no_slots s h (Ref n) f = λ i node k caught stamps noun e t a. all_at (λ b. FrozenCapture K s.things s.lists b.bound) caught (record { noun = noun; bound = Slot k }) (captures_frozen s h n f i node caught stamps e t) a
  no_slots s h other f = tt

  pub frozen_reach : (s : Vat N) → Sound K s → FrozenReach K s
  frozen_reach s h i n w b r = let frozen : IsFrozen K s.things s.lists w = reaches_frozen n s h (Ref (K.object i)) w (i, spots i, b) r in (frozen, no_slots s h w frozen)

global_own : (v i : ℕ) (b : Bool) → b ≡ true → elim b [ true ↦ Own i | false ↦ Foreign v ] ≡ Own i
global_own v i true e = refl
global_own v i false e = cc

pub global_spots : (word : ℕ → ℕ) (v i : ℕ) → (naming word v).spot ((naming word v).object i) ≡ Own i
unfolding naming spot_of
global_spots word v i = global_own v i (v == v) (eq-eqb v v refl)

pub local_spots : (word : ℕ → ℕ) (i : ℕ) → (numbering {W = Name} word).spot ((numbering {W = Name} word).object i) ≡ Own i
unfolding numbering local_spot
local_spots word i = refl
