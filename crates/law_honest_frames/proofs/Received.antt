-- A vat that goes by its own numbers finds a note new where it finds it new in names.
use Rattle.std.proofs.Common.{◌≡◌, ℕ, zero, Bool, true, false, not, ◌&&◌, ◌||◌, if◌then◌else◌, codes, List, [], ◌∷◌, ◌++◌, Option, Some, None, refl, sym, ap, subst, ◌∙◌, length, map, inl, inr, ◌⊎◌}
use Rattle.std.specs.Prelude.{slice_get, option_map, is_some, ◌==◌}
use Rattle.std.proofs.lemmas.Bool.{eqb-true}
use Rattle.def_machine.specs.Values.{Name, Root, Object, Gift, Sent, Broken, Naming, Msg, IsLearnt, same_local, numbering, naming, Local, Obj, Prom, Far, Mess}
use Rattle.def_machine.specs.State.{Standing, Settled, Viewed, Known, Note, Deliver, Open, Ask, SettledTo, Elsewhere, Shorten, GiftEntry, Vat, Done, Stop, Repeated, Stops, Act, ◌>>=◌, ◌>>◌, and_then, give, look, come, draw, draws, drawn_at, begun, is_gift, is_in}
use Rattle.def_machine.specs.Refs as refs
use Rattle.def_machine.specs.Arrive as arriving
use Rattle.def_machine.specs.Arrive.{Incoming, Old, New, gift_at, opened_in, arrive}
use Rattle.def_machine.specs.Maps as maps
use Rattle.def_machine.specs.Maps.{incoming}
use Rattle.def_machine.specs.Receive as receiving
use Rattle.def_machine.specs.Receive.{Sight, tells_nothing, leads_back, break_back}
use Rattle.def_run.specs.Connections.{Connection, Learnt, learnt_at}
use Rattle.def_run.specs.Seeing.{among}
use Rattle.def_run.specs.World.{has_name}
use Rattle.law_fate.specs.Name.Names.{AllOf, IsAmong}
use Rattle.law_machine.specs.Renamed.Stands.{Table, Found, Is, Nothing, found, finding, found_same, IsTable, StandsFor}
use Rattle.law_machine.proofs.Renamed.SimRefs.{same_standing}
use Rattle.law_machine.proofs.Renamed.Stands.{Extends, FitsTable, found_renames, is_renames, again, found_again}
use Rattle.law_machine.proofs.Renamed.Sim.{Books}
use Rattle.law_fate.proofs.Name.SameNames.{among_has}
use Rattle.law_frame.specs.Frame.Together.{changed_tables}
use Rattle.law_frame.specs.Local.Hearing.{unnamed}
use Rattle.law_frame.specs.Local.Mirrors.{LearntAre}
use Rattle.law_frame.proofs.Local.Sights.{some_name, some_mail, some_far}
use Rattle.law_reference.proofs.Reference.OnceLaws.{among_at as among_at_place}

-- ---- gifts

module _ {N M : Type 0} (f : N → M) where
  found_or : (b : Bool) (g : GiftEntry N) (o : Option (GiftEntry N)) (p : Option (GiftEntry M)) → p ≡ option_map (maps.gift f) o → ◌≡◌ {A = Option (GiftEntry M)} (elim b [ true ↦ Some (maps.gift f g) | false ↦ p ]) (option_map (maps.gift f) (elim b [ true ↦ Some g | false ↦ o ]))
  found_or true g o p e = refl
  found_or false g o p e = e

  pub gift_map : (p i : ℕ) (gs : List (GiftEntry N)) → gift_at p i (map (maps.gift f) gs) ≡ option_map (maps.gift f) (gift_at p i gs)
  unfolding gift_at is_gift
  gift_map p i [] = refl
  gift_map p i (g ∷ gs) = found_or (is_gift p i g) g (gift_at p i gs) (gift_at p i (map (maps.gift f) gs)) (gift_map p i gs)

  pub opened_map : (o : Option (GiftEntry N)) → opened_in (option_map (maps.gift f) o) ≡ opened_in o
  unfolding opened_in
  opened_map (Some g) = refl
  opened_map None = refl

  pub told_map : (t : Standing N) → receiving.is_told (maps.standing f t) ≡ receiving.is_told t
  unfolding receiving.is_told
  told_map (Settled y) = refl
  told_map (Viewed q) = refl
  told_map other = refl

-- a state in numbers stands for one in names; the table goes on to a later one, by which the note is read
module _ (word : ℕ → ℕ) (u : ℕ) (t later : Table) (good : IsTable u t) (more : Extends t later) (p : Vat Local) (r : Vat Name) (stands : StandsFor u t p r) where
  abbrev Ours : Naming Local Local
  Ours = numbering word

  abbrev Theirs : Naming Name Name
  Theirs = naming word u

  -- ---- standings

  knowns : map (maps.known (found u t)) p.known ≡ map (maps.known Is) r.known
  knowns = ap (λ (z : Vat Found). z.known) stands

  ours_stands : (a : Local) → refs.standing_of (finding word u) (map (maps.known (found u t)) p.known) (found u t a) ≡ maps.standing (found u t) (refs.standing_of Ours p.known a)
  ours_stands a = same_standing (found u t) (λ (z : Local). Root 0) Ours (finding word u) (FitsTable u t good) (found_renames u t good word (λ (z : Local). Root 0)) a p

  theirs_stands : (n : Name) → refs.standing_of (finding word u) (map (maps.known Is) r.known) (Is n) ≡ maps.standing Is (refs.standing_of Theirs r.known n)
  theirs_stands n = same_standing Is (λ (x : Name). x) Theirs (finding word u) (λ (b : Books Found). Unit {0}) (is_renames word u) n r

  -- nothing stands at what the table does not have
  none_found : (ks : List (Known Name)) (b : Local) → refs.entry_of (finding word u) (map (maps.known Is) ks) (Nothing b) ≡ None
  unfolding refs.entry_of finding found_same
  none_found [] b = refl
  none_found (k ∷ ks) b = none_found ks b

  untold : (b : Local) → receiving.is_told (refs.standing_of (finding word u) (map (maps.known Is) r.known) (Nothing b)) ≡ false
  unfolding refs.standing_of refs.standing_in receiving.is_told
  untold b = ap (λ o. receiving.is_told (refs.standing_in o)) (none_found r.known b)

  once_found : (a : Local) (m n : Name) → found u t a ≡ Is m → found u later a ≡ Is n → Is m ≡ Is n
  unfolding again
  once_found a m n e f = sym (ap (again u t later more) e) ∙ found_again u t later more a ∙ f

  -- how it stands in numbers, by what the table has for it
  stands_by : (a : Local) (o : Found) → found u t a ≡ o → receiving.is_told (refs.standing_of Ours p.known a) ≡ receiving.is_told (refs.standing_of (finding word u) (map (maps.known Is) r.known) o)
  stands_by a o e = sym (told_map (found u t) (refs.standing_of Ours p.known a)) ∙ ap receiving.is_told (sym (ours_stands a)) ∙ ap (λ ks. receiving.is_told (refs.standing_of (finding word u) ks (found u t a))) knowns
      ∙ ap (λ z. receiving.is_told (refs.standing_of (finding word u) (map (maps.known Is) r.known) z)) e

  told_by : (a : Local) (n : Name) (o : Found) → found u t a ≡ o → found u later a ≡ Is n → receiving.is_told (refs.standing_of Theirs r.known n) ≡ false → receiving.is_told (refs.standing_of Ours p.known a) ≡ false
  told_by a n (Nothing b) e f h = stands_by a (Nothing b) e ∙ untold b
  told_by a n (Is m) e f h = stands_by a (Is n) (e ∙ once_found a m n e f) ∙ ap receiving.is_told (theirs_stands n) ∙ told_map Is (refs.standing_of Theirs r.known n) ∙ h

  abbrev Alike : Incoming Local Local → Incoming Name Name → Type 0
  Alike x y = maps.incoming (found u later) unnamed x ≡ maps.incoming Is unnamed y

  pub news : (x : Incoming Local Local) (y : Incoming Name Name) → Alike x y → receiving.was_told Theirs y r ≡ false → receiving.was_told Ours x p ≡ false
  unfolding receiving.was_told
  news (Old a) (Old n) e h = let f : found u later a ≡ Is n = cc in told_by a n (found u t a) refl f h
  news (Old a) (New z g) e h = cc
  news (New z g) y e h = refl

  -- ---- what has a number for the sender

  no_true : (b : Bool) → b ≡ true → b ≡ false → ⊥
  no_true b e f = cc

  local_same : (a b : Local) → same_local a b ≡ true → a ≡ b
  unfolding same_local
  local_same (Obj i) (Obj j) e = ap Obj (eqb-true i j e)
  local_same (Prom i) (Prom j) e = ap Prom (eqb-true i j e)
  local_same (Far h i) (Far g j) e = far (h == g) (i == j) refl refl e
    where
      far : (b c : Bool) → (h == g) ≡ b → (i == j) ≡ c → (b && c) ≡ true → Far h i ≡ Far g j
      far true true k l e = let x : h ≡ g = eqb-true h g k in let y : i ≡ j = eqb-true i j l in cc
      far true false k l e = cc
      far false c k l e = cc
  local_same (Mess i) b e = cc
  local_same (Obj i) b e = cc
  local_same (Prom i) b e = cc
  local_same (Far h i) b e = cc

  among_at : (xs : List Local) (ns : List Name) (a : Local) (n : Name) → map (found u t) xs ≡ map Is ns → found u t a ≡ Is n → among xs a ≡ true → has_name ns n ≡ true
  unfolding among has_name
  among_at [] ns a n e f h = cc
  among_at (x ∷ xs) [] a n e f h = cc
  among_at (x ∷ xs) (m ∷ ns) a n e f h = go (same_local x a) refl (λ k. among_at xs ns a n tail f k) h
    where
      tail : map (found u t) xs ≡ map Is ns
      tail = cc

      head : found u t x ≡ Is m
      head = cc

      skip : (b : Bool) → has_name ns n ≡ true → elim b [ true ↦ true | false ↦ has_name ns n ] ≡ true
      skip true k = refl
      skip false k = k

      go : (b : Bool) → same_local x a ≡ b → (among xs a ≡ true → has_name ns n ≡ true) → elim b [ true ↦ true | false ↦ among xs a ] ≡ true → has_name (m ∷ ns) n ≡ true
      go true i rest k = let l : Is m ≡ Is n = sym head ∙ ap (found u t) (local_same x a i) ∙ f in let same : n ≡ m = cc in among_has (m ∷ ns) n (inl same)
      go false i rest k = skip _ (rest k)

  -- ---- gifts that the vat hosts

  gifts_same : (q i : ℕ) → option_map (maps.gift (found u t)) (gift_at q i p.gifts) ≡ option_map (maps.gift Is) (gift_at q i r.gifts)
  gifts_same q i = sym (gift_map (found u t) q i p.gifts) ∙ ap (λ (z : Vat Found). gift_at q i z.gifts) stands ∙ gift_map Is q i r.gifts

  pub opened_same : (q i : ℕ) → opened_in (gift_at q i p.gifts) ≡ opened_in (gift_at q i r.gifts)
  opened_same q i = sym (opened_map (found u t) (gift_at q i p.gifts)) ∙ ap opened_in (gifts_same q i) ∙ opened_map Is (gift_at q i r.gifts)

  hosted_or : (o : Option (GiftEntry Local)) (m : Option (GiftEntry Name)) → option_map (maps.gift (found u t)) o ≡ option_map (maps.gift Is) m → receiving.is_hosted o ≡ receiving.is_hosted m
  unfolding receiving.is_hosted
  hosted_or (Some g) (Some k) e = refl
  hosted_or None None e = refl
  hosted_or (Some g) None e = cc
  hosted_or None (Some k) e = cc

  pub hosted_same : (q i : ℕ) → receiving.is_hosted (gift_at q i p.gifts) ≡ receiving.is_hosted (gift_at q i r.gifts)
  hosted_same q i = hosted_or (gift_at q i p.gifts) (gift_at q i r.gifts) (gifts_same q i)

  -- ---- what the tables tell

  module _ (c : Connection Local) (d : Connection Name) (same : changed_tables (found u t) c ≡ changed_tables Is d) (ks : List Name) (gs : List (Learnt Local)) (S : Sight Local) (T : Sight Name)
      (ours : (a : Local) → S.numbers a ≡ (among c.exports a || among c.answers a)) (theirs : (n : Name) → T.numbers n ≡ (has_name d.exports n || has_name d.answers n)) where
    neither : (a b e f : Bool) → (a ≡ true → e ≡ true) → (b ≡ true → f ≡ true) → (e || f) ≡ false → (a || b) ≡ false
    neither true b true f g h i = cc
    neither true b false f g h i = absurd (no_true false (g refl) refl)
    neither false true true f g h i = cc
    neither false true false true g h i = cc
    neither false true false false g h i = absurd (no_true false (h refl) refl)
    neither false false e f g h i = refl

    numbers_none : (a : Local) (n : Name) → found u t a ≡ Is n → T.numbers n ≡ false → S.numbers a ≡ false
    numbers_none a n f h = ours a ∙ neither (among c.exports a) (among c.answers a) (has_name d.exports n) (has_name d.answers n)
        (among_at c.exports d.exports a n (ap (λ (z : Connection Found). z.exports) same) f) (among_at c.answers d.answers a n (ap (λ (z : Connection Found). z.answers) same) f) (sym (theirs n) ∙ h)

    number_or : (o : Option (GiftEntry Local)) (m : Option (GiftEntry Name)) → option_map (maps.gift (found u t)) o ≡ option_map (maps.gift Is) m → receiving.has_number Theirs T m ≡ false → receiving.has_number Ours S o ≡ false
    unfolding receiving.has_number
    number_or (Some g) (Some k) e h = let i : maps.gift (found u t) g ≡ maps.gift Is k = cc in let f : found u t g.name ≡ Is k.name = ap (λ (z : GiftEntry Found). z.name) i in numbers_none g.name k.name f h
    number_or None m e h = refl
    number_or (Some g) None e h = cc

    -- what tells something new in names does so in numbers
    pub new_so : (from : ℕ) (y : Note (Incoming Local Local)) (z : Note (Incoming Name Name)) → maps.note (incoming (found u later) unnamed) y ≡ maps.note (incoming Is unnamed) z → tells_nothing Theirs T from z r ≡ false → tells_nothing Ours S from y p ≡ false
    unfolding tells_nothing
    new_so from (Deliver e x verb ys) z f h = refl
    new_so from (Shorten x g i) z f h = refl
    new_so from (Open i x) (Open j w) f h = let k : i ≡ j = cc in ap (λ a. opened_in (gift_at from a p.gifts)) k ∙ opened_same from j ∙ h
    new_so from (Ask q i x) (Ask g j w) f h = let k : q ≡ g = cc in let l : i ≡ j = cc in ap (λ a. receiving.has_number Ours S (gift_at a i p.gifts)) k ∙ ap (λ a. receiving.has_number Ours S (gift_at g a p.gifts)) l ∙ number_or (gift_at g j p.gifts) (gift_at g j r.gifts) (gifts_same g j) h
    new_so from (SettledTo x a) (SettledTo w b) f h = let k : Alike x w = cc in news x w k h
    new_so from (Elsewhere x a) (Elsewhere w b) f h = let k : Alike x w = cc in news x w k h
    new_so from (Open i x) z f h = cc
    new_so from (Ask q i x) z f h = cc
    new_so from (SettledTo x a) z f h = cc
    new_so from (Elsewhere x a) z f h = cc

  -- ---- what was learnt as a gift

  no_object : {h i a b : ℕ} → Gift h i ≡ Object a b → ⊥
  no_object e = cc

  no_message : {h i : ℕ} {x : Msg} → Gift h i ≡ Sent x → ⊥
  no_message e = cc

  gift_named : (h i : ℕ) (a : Local) → found u t a ≡ Is (Gift h i) → IsAmong (Gift h i) t.names
  unfolding found
  gift_named h i (Obj j) e = cc
  gift_named h i (Prom k) e = among_at_place (Gift h i) t.names k (some_name (slice_get t.names k) k (Gift h i) e)
  gift_named h i (Far g q) e = let f = some_far (t.exports g q) g q (Gift h i) e in absurd (no_object f.2)
  gift_named h i (Mess k) e = let m = good.messages k (Gift h i) (some_mail (slice_get t.mails k) k (Gift h i) e) in absurd (no_message m.1)

  learnt_or : (b c : Bool) (a : Local) (o : Option Local) → (b ≡ true → c ≡ true → ⊥) → is_some o ≡ false → ◌≡◌ {A = Bool} (is_some (elim b as (λ _. Option Local) [ true ↦ elim c as (λ _. Option Local) [ true ↦ Some a | false ↦ o ] | false ↦ o ])) false
  learnt_or true true a o f e = absurd (f refl refl)
  learnt_or true false a o f e = e
  learnt_or false c a o f e = e

  -- a gift that is not known was not learnt
  pub unlearnt : (h i : ℕ) → (IsAmong (Gift h i) t.names → ⊥) → (gs : List (Learnt Local)) → LearntAre u t gs → is_some (learnt_at h i gs) ≡ false
  unfolding learnt_at
  unlearnt h i none [] k = refl
  unlearnt h i none (g ∷ gs) k = learnt_or (g.host == h) (g.number == i) g.name (learnt_at h i gs) (λ a b. none (subst (λ x. IsAmong (Gift x i) t.names) (eqb-true g.host h a) (subst (λ y. IsAmong (Gift g.host y) t.names) (eqb-true g.number i b) (gift_named g.host g.number g.name k.0)))) (unlearnt h i none gs k.1)

-- ---- where the next word was drawn before

-- one outcome, or both stop for one reason
abbrev pub Same : {N : Type 0} → Done N (Unit {0}) → Done N (Unit {0}) → Type 0
Same {N} d e = (d ≡ e) ⊎ ((c : Stop) × (s : Vat N) × (t : Vat N) × (d ≡ Stops c s) × (e ≡ Stops c t))

module _ {N W : Type 0} (K : Naming N W) (i : ℕ) where
  -- a draw from here stops
  abbrev Drawn : Vat N → Type 0
  Drawn t = drawn_at zero (K.word (length t.drawn)) t.drawn ≡ Some i

  stopped : {A : Type 0} (t : Vat N) (f : ℕ → Act N A) → Drawn t → and_then (draw K t) f ≡ Stops (Repeated i (length t.drawn)) t
  unfolding draw draws and_then
  stopped t f e = ap (λ o. and_then (draws (K.word (length t.drawn)) o t) f) e

  -- what breaks a name that leads back, once it is known, and what would view it
  at_known : (c : ℕ) (m : N) (t : Vat N) → Drawn t → (b : Bool) → b ≡ false
      → Same ((draw K >> refs.settle K m (Broken (codes "cycle"))) t) ((if b then refs.settle K m (Broken (codes "partition")) else arriving.view_there K m c) t)
  unfolding ◌>>◌ ◌>>=◌ and_then look arriving.view_there
  at_known c m t e true f = cc
  at_known c m t e false f = inr (Repeated i (length t.drawn), t, t, stopped t (λ j. refs.settle K m (Broken (codes "cycle"))) e, stopped t _ e)

  pub both_stop : (from c : ℕ) (y : Incoming N W) (s : Vat N) → Drawn s → is_in c s.noticed ≡ false → Same (break_back K (Elsewhere y c) s) (arrive K from (Elsewhere y c) s)
  unfolding break_back arrive arriving.arrive_elsewhere arriving.learn_name give come look ◌>>=◌ and_then
  both_stop from c (Old m) s e f = at_known c m s e (is_in c s.noticed) f
  both_stop from c (New z h) s e f = at_known c (K.made (IsLearnt z) (length s.known)) (record s { known = s.known ++ begun (K.made (IsLearnt z) (length s.known)) h ∷ [] }) e (is_in c s.noticed) f
