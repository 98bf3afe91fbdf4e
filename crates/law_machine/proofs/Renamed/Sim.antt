-- Two namings: an act from a vat with its names changed is that act from the vat, with the names of its outcome changed.
use Rattle.std.proofs.Common.{◌≡◌, ℕ, zero, suc, Bool, true, false, List, [], ◌∷◌, ◌++◌, Option, Some, None, if◌then◌else◌, refl, ap, length, map}
use Rattle.std.specs.Prelude.{slice_get, option_map, nat_le}
use Rattle.def_machine.specs.Values.{Words, Value, Naming, Coming, Mailing, IsOwn, IsAnswer, IsSent}
use Rattle.def_machine.specs.State
use Rattle.def_machine.specs.State.{Cell, Thing, Made, Message, Standing, Settled, Known, Change, Hold, Wait, React, Passed, Passeds, Note, GiftEntry, Happened, Vat, Stop, Done, Gives, Throws, Ejects, Stops, Act, ◌>>◌, ◌>>=◌, and_then, for_some, give, throw, eject, stop, look, tell, spend, spent, new_activation, new_thing, kill, dead, new_slot, holding, write_slot, new_list, draw, draws, drawn_at, send_out, new_gift, is_gift, with_opened, open_gift, mark, enqueue, alter, mail, come, new_promise, new_message, changed, changed_to, unless_settled, with_change, begun, new_lone_message}
use Rattle.def_machine.specs.Refs.{Place, Parcel}
use Rattle.def_machine.specs.Maps as maps
use Rattle.def_machine.specs.Maps.{coming, mailing}
use Rattle.law_machine.specs.Machine.Steps.{After}
use Rattle.law_machine.proofs.Machine.Keeps.{Keeps, IsKept, IsKeptUnder}

-- the names and the messages that a vat has, in order
pub record Books (N : Type 0) : Type 0 where
  pub names : List N
  pub mails : List N

abbrev pub names : {N : Type 0} → List (Known N) → List N
names ks = map (λ k. k.name) ks

-- ---- laws of map

pub map_end : {A B : Type 0} (g : A → B) (xs : List A) (x : A) → map g (xs ++ x ∷ []) ≡ map g xs ++ g x ∷ []
map_end g [] x = refl
map_end g (y ∷ xs) x = ap (λ ys. g y ∷ ys) (map_end g xs x)

pub length_map : {A B : Type 0} (g : A → B) (xs : List A) → length (map g xs) ≡ length xs
length_map g [] = refl
length_map g (x ∷ xs) = ap suc (length_map g xs)

pub map_get : {A B : Type 0} (g : A → B) (xs : List A) (n : ℕ) → slice_get (map g xs) n ≡ option_map g (slice_get xs n)
map_get g [] n = refl
map_get g (x ∷ xs) zero = refl
map_get g (x ∷ xs) (suc n) = map_get g xs n

abbrev pub books : {N : Type 0} → Vat N → Books N
books s = record { names = names s.known; mails = s.mails }

-- ---- the two namings

-- what fits, fitted before too
pub record IsBefore {M : Type 0} (Fits : Books M → Type 0) : Type 0 where
  pub names : (ns ns' ms : List M) → Fits (record { names = ns ++ ns'; mails = ms }) → Fits (record { names = ns; mails = ms })
  pub mails : (ns ms ms' : List M) → Fits (record { names = ns; mails = ms ++ ms' }) → Fits (record { names = ns; mails = ms })

-- Naming L is naming K with the names changed by f. Where a name comes to be that need hold only if the names known at the end fit.
pub record Renames {N M W V : Type 0} (f : N → M) (w : W → V) (K : Naming N W) (L : Naming M V) (Fits : Books M → Type 0) : Type 0 where
  pub object : (i : ℕ) → L.object i ≡ f (K.object i)
  pub spot : (n : N) → L.spot (f n) ≡ K.spot n
  pub same : (a b : N) → L.same (f a) (f b) ≡ K.same a b
  pub word : (i : ℕ) → L.word i ≡ K.word i
  pub made : (c : Coming N W) (ns ms : List M) → Fits (record { names = ns ++ L.made (coming f w c) (length ns) ∷ []; mails = ms }) → L.made (coming f w c) (length ns) ≡ f (K.made c (length ns))
  pub mailed : (c : Mailing W) (ns ms : List M) → Fits (record { names = ns; mails = ms ++ L.mailed (mailing w c) (length ms) ∷ [] }) → L.mailed (mailing w c) (length ms) ≡ f (K.mailed c (length ms))
  pub before : IsBefore Fits

-- the names known at the end fit
abbrev pub FitsAfter : {M B : Type 0} → (Books M → Type 0) → Done M B → Type 0
FitsAfter Fits (Gives b t) = Fits (books t)
FitsAfter Fits (Throws p t) = Fits (books t)
FitsAfter Fits (Ejects n v t) = Fits (books t)
FitsAfter Fits (Stops c t) = Fits (books t)

pub record Sim {N M A B : Type 0} (f : N → M) (Fits : Books M → Type 0) (g : A → B) (m : Act N A) (n : Act M B) : Type 0 where
  pub at : (s : Vat N) → FitsAfter Fits (n (maps.vat f s)) → n (maps.vat f s) ≡ maps.done f g (m s)

-- ---- the names known only grow

unfoldable pub Grows : {M : Type 0} → (Books M → Type 0) → Vat M → Vat M → Type 0
Grows Fits s t = Fits (books t) → Fits (books s)

pub grows : {M : Type 0} (Fits : Books M → Type 0) → IsKept (Grows Fits)
unfolding Grows
grows Fits = record {
  same = λ s h. h;
  trans = λ h k l. h (k l);
  fuel = λ s n h. h;
  happened = λ s e h. h;
  activations = λ s h. h;
  thing = λ s t h. h;
  killed = λ s n h. h;
  slot = λ s c h. h;
  written = λ s n v h. h;
  list = λ s vs h. h;
  queue = λ s m h. h;
  outbox = λ s n h. h;
  gift = λ s g h. h;
  opened = λ s p i h. h;
  noticed = λ s w h. h;
  drawn = λ s w h. h;
}

to_name : {M : Type 0} (c : Change M) (k : Known M) → (changed_to c k).name ≡ k.name
unfolding changed_to
to_name (Hold m) k = refl
to_name other k = refl

unless_name : {M : Type 0} (t : Standing M) (k new : Known M) → new.name ≡ k.name → (unless_settled t k new).name ≡ k.name
unfolding unless_settled
unless_name (Settled y) k new e = refl
unless_name other k new e = e

changed_name : {M : Type 0} (c : Change M) (k : Known M) → (changed c k).name ≡ k.name
unfolding changed
changed_name c k = unless_name k.standing k (changed_to c k) (to_name c k)

module _ {M V : Type 0} (L : Naming M V) where
  names_changed : (c : Change M) (n : M) (ks : List (Known M)) → names (with_change L c n ks) ≡ names ks
  unfolding with_change
  names_changed c n [] = refl
  names_changed c n (k ∷ ks) = elim (L.same k.name n) as (λ b. names (elim b [ true ↦ changed c k ∷ ks | false ↦ k ∷ with_change L c n ks ]) ≡ k.name ∷ names ks)
      [ true ↦ ap (λ x. x ∷ names ks) (changed_name c k) | false ↦ ap (λ xs. k.name ∷ xs) (names_changed c n ks) ]

  pub grows_under : (Fits : Books M → Type 0) → IsBefore Fits → IsKeptUnder L (Grows Fits)
  unfolding begun Grows
  grows_under Fits before = record {
    altered = λ s c n h. rw names_changed at h;
    mailed = λ s c e. before.mails _ _ _ e;
    came = λ s c h e. before.names _ _ _ (rw map_end at e);
    promised = λ s e. before.names _ _ _ (rw map_end at e);
    messaged = λ s h id e. before.mails _ _ _ (before.names _ _ _ (rw map_end at e));
    lone = λ s id e. before.mails _ _ _ e;
  }

-- ---- the structure of acts

module _ {N M : Type 0} (f : N → M) (Fits : Books M → Type 0) where
  fits_before : {B D : Type 0} (e : Done M B) (k : B → Act M D) → ((b : B) → Keeps (Grows Fits) (k b)) → FitsAfter Fits (and_then e k) → FitsAfter Fits e
  unfolding and_then Grows
  fits_before {D = D} (Gives b t) k w h = go (k b t) ((w b).after t) h
    where
      go : (d : Done M D) → After (Grows Fits) t d → FitsAfter Fits d → Fits (books t)
      go (Gives b u) a h = a h
      go (Throws p u) a h = a h
      go (Ejects n v u) a h = a h
      go (Stops c u) a h = a h
  fits_before (Throws p t) k w h = h
  fits_before (Ejects n v t) k w h = h
  fits_before (Stops c t) k w h = h

  bind_done : {A B C D : Type 0} (g : A → B) (l : C → D) (d : Done N A) (k : A → Act N C) (k' : B → Act M D)
      → ((a : A) → Sim f Fits l (k a) (k' (g a))) → FitsAfter Fits (and_then (maps.done f g d) k') → and_then (maps.done f g d) k' ≡ maps.done f l (and_then d k)
  unfolding and_then
  bind_done g l (Gives a s) k k' w h = (w a).at s h
  bind_done g l other k k' w h = refl

  bind_found : {A B C D : Type 0} (g : A → B) (l : C → D) (d : Done N A) (e : Done M B) (k : A → Act N C) (k' : B → Act M D)
      → (FitsAfter Fits e → e ≡ maps.done f g d) → ((a : A) → Sim f Fits l (k a) (k' (g a))) → ((b : B) → Keeps (Grows Fits) (k' b))
      → FitsAfter Fits (and_then e k') → and_then e k' ≡ maps.done f l (and_then d k)
  bind_found g l d e k k' p q w h =
      let i : e ≡ maps.done f g d = p (fits_before e k' w h) in
      let j : FitsAfter Fits (and_then (maps.done f g d) k') = rw i at h in
      rw i (bind_done g l d k k' q j)

  pub sim_bind : {A B C D : Type 0} (g : A → B) {l : C → D} {m : Act N A} {n : Act M B} (k : A → Act N C) (k' : B → Act M D)
      → Sim f Fits g m n → ((a : A) → Sim f Fits l (k a) (k' (g a))) → ((b : B) → Keeps (Grows Fits) (k' b)) → Sim f Fits l (m >>= k) (n >>= k')
  unfolding ◌>>=◌
  sim_bind g {l} {m} {n} k k' p q w = record { at = λ s. bind_found g l (m s) (n (maps.vat f s)) k k' (p.at s) q w }

abbrev pub id : {A : Type 0} → A → A
id x = x

-- one instance of bind for each type of result, so that a search finds the change of names by the type
module _ {N M : Type 0} (f : N → M) (Fits : Books M → Type 0) {C D : Type 0} {l : C → D} where
  pub bind_value : {m : Act N (Value N)} {n : Act M (Value M)} (k : Value N → Act N C) (k' : Value M → Act M D) → Sim f Fits (maps.value f) m n → ((a : Value N) → Sim f Fits l (k a) (k' ((maps.value f) a))) → ((b : Value M) → Keeps (Grows Fits) (k' b)) → Sim f Fits l (m >>= k) (n >>= k')
  bind_value k k' p q w = sim_bind f Fits (maps.value f) k k' p q w

  pub bind_name : {m : Act N (N)} {n : Act M (M)} (k : N → Act N C) (k' : M → Act M D) → Sim f Fits (f) m n → ((a : N) → Sim f Fits l (k a) (k' ((f) a))) → ((b : M) → Keeps (Grows Fits) (k' b)) → Sim f Fits l (m >>= k) (n >>= k')
  bind_name k k' p q w = sim_bind f Fits (f) k k' p q w

  pub bind_count : {m : Act N (ℕ)} {n : Act M (ℕ)} (k : ℕ → Act N C) (k' : ℕ → Act M D) → Sim f Fits (id) m n → ((a : ℕ) → Sim f Fits l (k a) (k' ((id) a))) → ((b : ℕ) → Keeps (Grows Fits) (k' b)) → Sim f Fits l (m >>= k) (n >>= k')
  bind_count k k' p q w = sim_bind f Fits (id) k k' p q w

  pub bind_flag : {m : Act N (Bool)} {n : Act M (Bool)} (k : Bool → Act N C) (k' : Bool → Act M D) → Sim f Fits (id) m n → ((a : Bool) → Sim f Fits l (k a) (k' ((id) a))) → ((b : Bool) → Keeps (Grows Fits) (k' b)) → Sim f Fits l (m >>= k) (n >>= k')
  bind_flag k k' p q w = sim_bind f Fits (id) k k' p q w

  pub bind_values : {m : Act N (List (Value N))} {n : Act M (List (Value M))} (k : List (Value N) → Act N C) (k' : List (Value M) → Act M D) → Sim f Fits (map (maps.value f)) m n → ((a : List (Value N)) → Sim f Fits l (k a) (k' ((map (maps.value f)) a))) → ((b : List (Value M)) → Keeps (Grows Fits) (k' b)) → Sim f Fits l (m >>= k) (n >>= k')
  bind_values k k' p q w = sim_bind f Fits (map (maps.value f)) k k' p q w

  pub bind_known : {m : Act N (List (Known N))} {n : Act M (List (Known M))} (k : List (Known N) → Act N C) (k' : List (Known M) → Act M D) → Sim f Fits (map (maps.known f)) m n → ((a : List (Known N)) → Sim f Fits l (k a) (k' ((map (maps.known f)) a))) → ((b : List (Known M)) → Keeps (Grows Fits) (k' b)) → Sim f Fits l (m >>= k) (n >>= k')
  bind_known k k' p q w = sim_bind f Fits (map (maps.known f)) k k' p q w

  pub bind_gifts : {m : Act N (List (GiftEntry N))} {n : Act M (List (GiftEntry M))} (k : List (GiftEntry N) → Act N C) (k' : List (GiftEntry M) → Act M D) → Sim f Fits (map (maps.gift f)) m n → ((a : List (GiftEntry N)) → Sim f Fits l (k a) (k' ((map (maps.gift f)) a))) → ((b : List (GiftEntry M)) → Keeps (Grows Fits) (k' b)) → Sim f Fits l (m >>= k) (n >>= k')
  bind_gifts k k' p q w = sim_bind f Fits (map (maps.gift f)) k k' p q w

  pub bind_entry : {m : Act N (Option (Known N))} {n : Act M (Option (Known M))} (k : Option (Known N) → Act N C) (k' : Option (Known M) → Act M D) → Sim f Fits (option_map (maps.known f)) m n → ((a : Option (Known N)) → Sim f Fits l (k a) (k' ((option_map (maps.known f)) a))) → ((b : Option (Known M)) → Keeps (Grows Fits) (k' b)) → Sim f Fits l (m >>= k) (n >>= k')
  bind_entry k k' p q w = sim_bind f Fits (option_map (maps.known f)) k k' p q w

  pub bind_gift : {m : Act N (Option (GiftEntry N))} {n : Act M (Option (GiftEntry M))} (k : Option (GiftEntry N) → Act N C) (k' : Option (GiftEntry M) → Act M D) → Sim f Fits (option_map (maps.gift f)) m n → ((a : Option (GiftEntry N)) → Sim f Fits l (k a) (k' ((option_map (maps.gift f)) a))) → ((b : Option (GiftEntry M)) → Keeps (Grows Fits) (k' b)) → Sim f Fits l (m >>= k) (n >>= k')
  bind_gift k k' p q w = sim_bind f Fits (option_map (maps.gift f)) k k' p q w

  pub bind_standing : {m : Act N (Standing N)} {n : Act M (Standing M)} (k : Standing N → Act N C) (k' : Standing M → Act M D) → Sim f Fits (maps.standing f) m n → ((a : Standing N) → Sim f Fits l (k a) (k' ((maps.standing f) a))) → ((b : Standing M) → Keeps (Grows Fits) (k' b)) → Sim f Fits l (m >>= k) (n >>= k')
  bind_standing k k' p q w = sim_bind f Fits (maps.standing f) k k' p q w

  pub bind_passed : {m : Act N (Passed N)} {n : Act M (Passed M)} (k : Passed N → Act N C) (k' : Passed M → Act M D) → Sim f Fits (maps.passed f) m n → ((a : Passed N) → Sim f Fits l (k a) (k' ((maps.passed f) a))) → ((b : Passed M) → Keeps (Grows Fits) (k' b)) → Sim f Fits l (m >>= k) (n >>= k')
  bind_passed k k' p q w = sim_bind f Fits (maps.passed f) k k' p q w

  pub bind_passeds : {m : Act N (Passeds N)} {n : Act M (Passeds M)} (k : Passeds N → Act N C) (k' : Passeds M → Act M D) → Sim f Fits (maps.passeds f) m n → ((a : Passeds N) → Sim f Fits l (k a) (k' ((maps.passeds f) a))) → ((b : Passeds M) → Keeps (Grows Fits) (k' b)) → Sim f Fits l (m >>= k) (n >>= k')
  bind_passeds k k' p q w = sim_bind f Fits (maps.passeds f) k k' p q w

  pub bind_parcel : {m : Act N (Parcel N)} {n : Act M (Parcel M)} (k : Parcel N → Act N C) (k' : Parcel M → Act M D) → Sim f Fits (maps.parcel f) m n → ((a : Parcel N) → Sim f Fits l (k a) (k' ((maps.parcel f) a))) → ((b : Parcel M) → Keeps (Grows Fits) (k' b)) → Sim f Fits l (m >>= k) (n >>= k')
  bind_parcel k k' p q w = sim_bind f Fits (maps.parcel f) k k' p q w

  pub bind_place : {m : Act N (Place N)} {n : Act M (Place M)} (k : Place N → Act N C) (k' : Place M → Act M D) → Sim f Fits (maps.place f) m n → ((a : Place N) → Sim f Fits l (k a) (k' ((maps.place f) a))) → ((b : Place M) → Keeps (Grows Fits) (k' b)) → Sim f Fits l (m >>= k) (n >>= k')
  bind_place k k' p q w = sim_bind f Fits (maps.place f) k k' p q w

  pub bind_pair : {m : Act N (N × N)} {n : Act M (M × M)} (k : (N × N) → Act N C) (k' : (M × M) → Act M D) → Sim f Fits (maps.pair f) m n → ((a : N × N) → Sim f Fits l (k a) (k' ((maps.pair f) a))) → ((b : M × M) → Keeps (Grows Fits) (k' b)) → Sim f Fits l (m >>= k) (n >>= k')
  bind_pair k k' p q w = sim_bind f Fits (maps.pair f) k k' p q w

  pub bind_then : {m : Act N (Unit {0})} {n : Act M (Unit {0})} {k : Act N C} {k' : Act M D} → Sim f Fits id m n → Sim f Fits l k k' → Keeps (Grows Fits) k' → Sim f Fits l (m >> k) (n >> k')
  unfolding ◌>>◌
  bind_then {m} {n} {k} {k'} p q w = record { at = λ s. bind_found f Fits id l (m s) (n (maps.vat f s)) (λ _. k) (λ _. k') (p.at s) (λ _. q) (λ _. w) }

  pub then_count : {m : Act N ℕ} {n : Act M ℕ} {k : Act N C} {k' : Act M D} → Sim f Fits id m n → Sim f Fits l k k' → Keeps (Grows Fits) k' → Sim f Fits l (m >> k) (n >> k')
  unfolding ◌>>◌
  then_count {m} {n} {k} {k'} p q w = record { at = λ s. bind_found f Fits id l (m s) (n (maps.vat f s)) (λ _. k) (λ _. k') (p.at s) (λ _. q) (λ _. w) }

  pub sim_if : (b : Bool) {m k : Act N C} {n k' : Act M D} → Sim f Fits l m n → Sim f Fits l k k' → Sim f Fits l (if b then m else k) (if b then n else k')
  sim_if true p q = p
  sim_if false p q = q

  pub sim_some : {A B : Type 0} (g : A → B) (o : Option A) (o' : Option B) (k : A → Act N C) (k' : B → Act M D) {m : Act N C} {n : Act M D}
      → o' ≡ option_map g o → ((a : A) → Sim f Fits l (k a) (k' (g a))) → Sim f Fits l m n → Sim f Fits l (for_some o k m) (for_some o' k' n)
  unfolding for_some
  sim_some g (Some a) o' k k' e p q = rw e (p a)
  sim_some g None o' k k' e p q = rw e q

  pub some_name : (o : Option N) (o' : Option M) (k : N → Act N C) (k' : M → Act M D) {m : Act N C} {n : Act M D}
      → o' ≡ option_map f o → ((a : N) → Sim f Fits l (k a) (k' (f a))) → Sim f Fits l m n → Sim f Fits l (for_some o k m) (for_some o' k' n)
  some_name o o' k k' e p q = sim_some f o o' k k' e p q

  pub sim_give : (a : C) (b : D) → b ≡ l a → Sim f Fits l (give a) (give b)
  unfolding give
  sim_give a b e = record { at = λ s h. rw e refl }

  pub sim_throw : (p : Words) → Sim f Fits l (throw p) (throw p)
  unfolding throw
  sim_throw p = record { at = λ s h. refl }

  pub sim_eject : (n : ℕ) (v : Value N) (w : Value M) → w ≡ maps.value f v → Sim f Fits l (eject n v) (eject n w)
  unfolding eject
  sim_eject n v w e = record { at = λ s h. rw e refl }

  pub sim_stop : (c : Stop) → Sim f Fits l (stop c) (stop c)
  unfolding stop
  sim_stop c = record { at = λ s h. refl }

  pub sim_look : (p : Vat N → C) (q : Vat M → D) → ((s : Vat N) → q (maps.vat f s) ≡ l (p s)) → Sim f Fits l (look p) (look q)
  unfolding look
  sim_look p q e = record { at = λ s h. rw (e s) refl }

-- ---- single changes

module _ {N M : Type 0} (f : N → M) (Fits : Books M → Type 0) where
  spend_map : (s : Vat N) (n : ℕ) (b : Bool) → spent n b (maps.vat f s) ≡ maps.done f id (spent n b s)
  unfolding spent
  spend_map s n true = refl
  spend_map s n false = refl

  pub sim_spend : (n : ℕ) → Sim f Fits id (spend n) (spend n)
  unfolding spend
  sim_spend n = record { at = λ s h. spend_map s n (nat_le n s.fuel) }

  pub sim_tell : (e : Happened N) (e' : Happened M) → e' ≡ maps.line f e → Sim f Fits id (tell e) (tell e')
  unfolding tell
  sim_tell e e' i = record { at = λ s h. rw (i, map_end (maps.line f) s.happened e) refl }

  pub sim_activation : Sim f Fits id new_activation new_activation
  unfolding new_activation
  sim_activation = record { at = λ s h. refl }

  pub sim_new_thing : (t : Thing N) (t' : Thing M) → t' ≡ maps.thing f t → Sim f Fits id (new_thing t) (new_thing t')
  unfolding new_thing
  sim_new_thing t t' i = record { at = λ s h. rw (i, map_end (maps.thing f) s.things t, length_map (maps.thing f) s.things) refl }

  dead_map : (ts : List (Thing N)) (n : ℕ) → State.change dead n (map (maps.thing f) ts) ≡ map (maps.thing f) (State.change dead n ts)
  unfolding State.change dead
  dead_map [] n = refl
  dead_map (Made a b c ∷ ts) zero = refl
  dead_map (t ∷ ts) (suc n) = ap (λ us. maps.thing f t ∷ us) (dead_map ts n)
  dead_map other zero = refl

  pub sim_kill : (n : ℕ) → Sim f Fits id (kill n) (kill n)
  unfolding kill
  sim_kill n = record { at = λ s h. rw (dead_map s.things n) refl }

  pub sim_slot : (g v : Value N) (h w : Value M) → h ≡ maps.value f g → w ≡ maps.value f v → Sim f Fits id (new_slot g v) (new_slot h w)
  unfolding new_slot
  sim_slot g v h w i j = record { at = λ s k. rw (i, j, map_end (maps.cell f) s.slots (record { guard = g; value = v }), length_map (maps.cell f) s.slots) refl }

  hold_map : (cs : List (Cell N)) (n : ℕ) (v : Value N) → State.change (holding (maps.value f v)) n (map (maps.cell f) cs) ≡ map (maps.cell f) (State.change (holding v) n cs)
  unfolding State.change holding
  hold_map [] n v = refl
  hold_map (c ∷ cs) zero v = refl
  hold_map (c ∷ cs) (suc n) v = ap (λ ds. maps.cell f c ∷ ds) (hold_map cs n v)

  pub sim_write : (n : ℕ) (v : Value N) (w : Value M) → w ≡ maps.value f v → Sim f Fits id (write_slot n v) (write_slot n w)
  unfolding write_slot
  sim_write n v w i = record { at = λ s h. rw (i, hold_map s.slots n v) refl }

  pub sim_list : (vs : List (Value N)) (ws : List (Value M)) → ws ≡ map (maps.value f) vs → Sim f Fits id (new_list vs) (new_list ws)
  unfolding new_list
  sim_list vs ws i = record { at = λ s h. rw (i, map_end (map (maps.value f)) s.lists vs, length_map (map (maps.value f)) s.lists) refl }

  pub sim_enqueue : (m : Message N) (n : Message M) → n ≡ maps.message f m → Sim f Fits id (enqueue m) (enqueue n)
  unfolding enqueue
  sim_enqueue m n i = record { at = λ s h. rw (i, map_end (maps.message f) s.queue m) refl }

  pub sim_out : (to : ℕ) (n : Note N) (m : Note M) → m ≡ maps.note f n → Sim f Fits id (send_out to n) (send_out to m)
  unfolding send_out
  sim_out to n m i = record { at = λ s h. rw (i, map_end (maps.put f) s.outbox (record { to = to; note = n })) refl }

  pub sim_gift : (n : N) (p i : ℕ) → Sim f Fits id (new_gift n p i) (new_gift (f n) p i)
  unfolding new_gift
  sim_gift n p i = record { at = λ s h. rw (map_end (maps.gift f) s.gifts (record { name = n; provider = p; number = i; opened = false })) refl }

  opened_map : (gs : List (GiftEntry N)) (p i : ℕ) → with_opened p i (map (maps.gift f) gs) ≡ map (maps.gift f) (with_opened p i gs)
  unfolding with_opened is_gift
  opened_map [] p i = refl
  opened_map (g ∷ gs) p i = elim (is_gift p i g) as (λ b. elim b [ true ↦ record (maps.gift f g) { opened = true } ∷ map (maps.gift f) gs | false ↦ maps.gift f g ∷ with_opened p i (map (maps.gift f) gs) ] ≡ map (maps.gift f) (elim b [ true ↦ record g { opened = true } ∷ gs | false ↦ g ∷ with_opened p i gs ]))
      [ true ↦ refl | false ↦ ap (λ xs. maps.gift f g ∷ xs) (opened_map gs p i) ]

  pub sim_open : (p i : ℕ) → Sim f Fits id (open_gift p i) (open_gift p i)
  unfolding open_gift
  sim_open p i = record { at = λ s h. rw (opened_map s.gifts p i) refl }

  pub sim_mark : (w : ℕ) → Sim f Fits id (mark w) (mark w)
  unfolding mark
  sim_mark w = record { at = λ s h. refl }

  to_map : (c : Change N) (k : Known N) → changed_to (maps.change f c) (maps.known f k) ≡ maps.known f (changed_to c k)
  unfolding changed_to
  to_map (Hold m) k = rw (map_end (maps.message f) k.held m) refl
  to_map (Wait q) k = rw (map_end f k.waiting q) refl
  to_map (React m) k = rw (map_end (maps.message f) k.reactions m) refl
  to_map other k = refl

  unless_map : (t : Standing N) (k new : Known N) (new' : Known M) → new' ≡ maps.known f new → unless_settled (maps.standing f t) (maps.known f k) new' ≡ maps.known f (unless_settled t k new)
  unfolding unless_settled
  unless_map (Settled y) k new new' e = refl
  unless_map other k new new' e = e

  changed_map : (c : Change N) (k : Known N) → changed (maps.change f c) (maps.known f k) ≡ maps.known f (changed c k)
  unfolding changed
  changed_map c k = unless_map k.standing k (changed_to c k) (changed_to (maps.change f c) (maps.known f k)) (to_map c k)

module _ {N M W V : Type 0} (f : N → M) (w : W → V) (K : Naming N W) (L : Naming M V) (Fits : Books M → Type 0) (law : Renames f w K L Fits) where
  change_map : (c : Change N) (n : N) (ks : List (Known N)) → with_change L (maps.change f c) (f n) (map (maps.known f) ks) ≡ map (maps.known f) (with_change K c n ks)
  unfolding with_change
  change_map c n [] = refl
  change_map c n (k ∷ ks) = rw (law.same k.name n) (elim (K.same k.name n) as (λ b. elim b [ true ↦ changed (maps.change f c) (maps.known f k) ∷ map (maps.known f) ks | false ↦ maps.known f k ∷ with_change L (maps.change f c) (f n) (map (maps.known f) ks) ] ≡ map (maps.known f) (elim b [ true ↦ changed c k ∷ ks | false ↦ k ∷ with_change K c n ks ]))
      [ true ↦ ap (λ x. x ∷ map (maps.known f) ks) (changed_map f Fits c k) | false ↦ ap (λ xs. maps.known f k ∷ xs) (change_map c n ks) ])

  pub sim_alter : (c : Change N) (d : Change M) (n : N) → d ≡ maps.change f c → Sim f Fits id (alter K c n) (alter L d (f n))
  unfolding alter
  sim_alter c d n i = record { at = λ s h. rw (i, change_map c n s.known) refl }

  names_map : (ks : List (Known N)) → length ks ≡ length (names (map (maps.known f) ks))
  names_map [] = refl
  names_map (k ∷ ks) = ap suc (names_map ks)

  came : (ks : List (Known N)) (ms : List M) (c : Coming N W) (h : ℕ) (j : ℕ) → j ≡ length ks
      → Fits (record { names = names (map (maps.known f) ks ++ begun (L.made (coming f w c) j) h ∷ []); mails = ms })
      → L.made (coming f w c) j ≡ f (K.made c (length ks))
  unfolding begun
  came ks ms c h j i e =
      let x : Fits (record { names = names (map (maps.known f) ks) ++ L.made (coming f w c) j ∷ []; mails = ms }) = rw map_end at e in
      let y : Fits (record { names = names (map (maps.known f) ks) ++ L.made (coming f w c) (length (names (map (maps.known f) ks))) ∷ []; mails = ms }) = rw (i, names_map ks) at x in
      rw (i, names_map ks) (law.made c (names (map (maps.known f) ks)) ms y)

  pub sim_come : (c : Coming N W) (d : Coming M V) (h : ℕ) → d ≡ coming f w c → Sim f Fits f (come K c h) (come L d h)
  unfolding come begun
  sim_come c d h i = record {
    at = λ s e.
        let x : Fits (record { names = names (map (maps.known f) s.known ++ begun (L.made (coming f w c) (length (map (maps.known f) s.known))) h ∷ []); mails = map f s.mails }) = rw i at e in
        let y : L.made (coming f w c) (length (map (maps.known f) s.known)) ≡ f (K.made c (length s.known)) = came s.known (map f s.mails) c h (length (map (maps.known f) s.known)) (length_map (maps.known f) s.known) x in
        rw (i, y, map_end (maps.known f) s.known (begun (K.made c (length s.known)) h)) refl;
  }

  pub sim_mail : (c : Mailing W) (d : Mailing V) → d ≡ mailing w c → Sim f Fits f (mail K c) (mail L d)
  unfolding mail
  sim_mail c d i = record {
    at = λ s e.
        let x : Fits (record { names = names (map (maps.known f) s.known); mails = map f s.mails ++ L.mailed (mailing w c) (length (map f s.mails)) ∷ [] }) = rw i at e in
        let y : L.mailed (mailing w c) (length (map f s.mails)) ≡ f (K.mailed c (length s.mails)) = rw (length_map f s.mails) (rw (length_map f s.mails) at (law.mailed c (names (map (maps.known f) s.known)) (map f s.mails) x)) in
        rw (i, y, map_end f s.mails (K.mailed c (length s.mails))) refl;
  }

  pub sim_promise : Sim f Fits f (new_promise K) (new_promise L)
  unfolding new_promise begun
  sim_promise = record {
    at = λ s e.
        let y : L.made (IsOwn s.promises) (length (map (maps.known f) s.known)) ≡ f (K.made (IsOwn s.promises) (length s.known)) = came s.known (map f s.mails) (IsOwn s.promises) s.number (length (map (maps.known f) s.known)) (length_map (maps.known f) s.known) e in
        rw (y, map_end (maps.known f) s.known (begun (K.made (IsOwn s.promises) (length s.known)) s.number)) refl;
  }

  pub sim_message : (h : ℕ) → Sim f Fits (maps.pair f) (new_message K h) (new_message L h)
  unfolding new_message begun
  sim_message h = record {
    at = λ s e.
        let id' : M = L.mailed (IsSent s.messages) (length (map f s.mails)) in
        let own : N = K.mailed (IsSent s.messages) (length s.mails) in
        let one : Fits (record { names = names (map (maps.known f) s.known) ++ L.made (IsAnswer h id') (length (map (maps.known f) s.known)) ∷ []; mails = map f s.mails ++ id' ∷ [] }) = rw map_end at e in
        let two : Fits (record { names = names (map (maps.known f) s.known); mails = map f s.mails ++ L.mailed (mailing w (IsSent s.messages)) (length (map f s.mails)) ∷ [] }) = law.before.names _ _ _ one in
        let x : L.mailed (IsSent s.messages) (length (map f s.mails)) ≡ f own = rw (length_map f s.mails) (rw (length_map f s.mails) at (law.mailed (IsSent s.messages) (names (map (maps.known f) s.known)) (map f s.mails) two)) in
        let three : Fits (record { names = names (map (maps.known f) s.known ++ begun (L.made (coming f w (IsAnswer h own)) (length (map (maps.known f) s.known))) h ∷ []); mails = map f s.mails ++ f own ∷ [] }) = rw x at e in
        let y : L.made (IsAnswer h (f own)) (length (map (maps.known f) s.known)) ≡ f (K.made (IsAnswer h own) (length s.known)) = came s.known (map f s.mails ++ f own ∷ []) (IsAnswer h own) h (length (map (maps.known f) s.known)) (length_map (maps.known f) s.known) three in
        rw (x, y, map_end (maps.known f) s.known (begun (K.made (IsAnswer h own) (length s.known)) h), map_end f s.mails own) refl;
  }

  pub sim_lone_message : Sim f Fits f (new_lone_message K) (new_lone_message L)
  unfolding new_lone_message
  sim_lone_message = record {
    at = λ s e.
        let y : L.mailed (IsSent s.messages) (length (map f s.mails)) ≡ f (K.mailed (IsSent s.messages) (length s.mails)) = rw (length_map f s.mails) (rw (length_map f s.mails) at (law.mailed (IsSent s.messages) (names (map (maps.known f) s.known)) (map f s.mails) e)) in
        rw (y, map_end f s.mails (K.mailed (IsSent s.messages) (length s.mails))) refl;
  }

  draws_map : (s : Vat N) (x : ℕ) (o : Option ℕ) → draws x o (maps.vat f s) ≡ maps.done f id (draws x o s)
  unfolding draws
  draws_map s x (Some i) = refl
  draws_map s x None = refl

  pub sim_draw : Sim f Fits id (draw K) (draw L)
  unfolding draw
  sim_draw = record { at = λ s h. rw (law.word (length s.drawn)) (draws_map s (K.word (length s.drawn)) (drawn_at zero (K.word (length s.drawn)) s.drawn)) }

pub ruleset sims = (sim_message, sim_lone_message, sim_draw, some_name, bind_value, bind_name, bind_count, bind_flag, bind_values, bind_known, bind_gifts, bind_entry, bind_gift, bind_standing, bind_passed, bind_passeds, bind_parcel, bind_place, bind_pair, bind_then, then_count, sim_if, sim_give, sim_throw, sim_eject, sim_stop, sim_look, sim_spend, sim_tell, sim_activation, sim_new_thing, sim_kill, sim_slot, sim_write, sim_list, sim_enqueue, sim_out, sim_gift, sim_open, sim_mark, sim_alter, sim_mail, sim_come, sim_promise)
