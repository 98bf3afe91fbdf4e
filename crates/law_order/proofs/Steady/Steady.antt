-- What holds of a vat in the middle of a step, with what it has in hand, and what settling and sending on make of it.
use Rattle.std.proofs.Common.{◌≡◌, ℕ, zero, ◌+◌, ◌*◌, ◌≤◌, Bool, true, false, [], ◌∷◌, ◌++◌, Some, length, refl, ap, subst, ◌∙◌, ◌⊎◌, inl, inr, arith}
use Rattle.def_machine.specs.Values.{Value, Name, Object, Naming, naming, host_of}
use Rattle.def_machine.specs.State.{Message, Standing, WaitsOn, Settled, Known, Settle, Settles, Happened, Vat, Done, Gives, is_in, with_change}
use Rattle.def_machine.specs.Refs as refs
use Rattle.def_machine.specs.Refs.{entry_of, standing_of}
use Rattle.def_run.specs.Draws.{draw_word}
use Rattle.def_run.specs.World as world
use Rattle.def_run.specs.World.{Script, World, names}
use Rattle.law_machine.specs.Machine.Steps.{After}
use Rattle.law_fate.specs.Fates.Fate.{one}
use Rattle.law_fate.specs.Fates.Lasting.{NoPromise, NamesMessage}
use Rattle.law_fate.specs.Fates.Sound.{Sound}
use Rattle.law_fate.proofs.Fates.Light.{LightAt, change_sound}
use Rattle.law_fate.proofs.Fates.PlacesRefs.{settle_well}
use Rattle.law_fate.proofs.Fates.PlacesSteps.{global_names}
use Rattle.law_fate.proofs.Fates.RefsLight.{ride, light_settle, sent_at}
use Rattle.law_reference.specs.Reference.Knowing.{claims, onward, onward_all, numbered_at, Knowing}
use Rattle.law_reference.specs.Reference.NameTableRuns.{allowed}
use Rattle.law_reference.specs.Reference.Views.{IsOpen}
use Rattle.law_reference.proofs.Reference.Claims.{Waits, settling_frees}
use Rattle.law_reference.proofs.Reference.Follow.{eq_dec}
use Rattle.law_reference.proofs.Reference.RefsCosts.{free_settle, costs_send_on}
use Rattle.law_order.specs.Ordering.Settlings.{with_line}
use Rattle.law_order.specs.Ordering.Steps.{AllDrawn}
use Rattle.law_order.specs.Waits.Answers.{answers, asked_at, askings, waits_at}
use Rattle.law_order.proofs.Waits.Counts.{one_self}
use Rattle.law_order.proofs.Waits.Room.{share, times}
use Rattle.law_order.proofs.Waits.Costs.{Ends}
use Rattle.law_order.proofs.Waits.Costs as costs
use Rattle.law_order.proofs.Waits.Settling as settling
use Rattle.law_order.proofs.Waits.Classes.{owed_at, fit_at, other_host}
use Rattle.law_order.proofs.Steady.Ends.{ViewsLater, WaitsAreOwn}
use Rattle.law_order.proofs.Steady.Staying.{Good, do_settle, do_send_on, settled_good}

-- the name of an object, or of another vat
abbrev pub IsAside : ℕ → Name → Type 0
IsAside v q = (q ≡ Object v zero) ⊎ (host_of q ≡ v → ⊥)

-- it waits on no other
abbrev pub WaitsNot : Standing Name → Type 0
WaitsNot t = (r : Name) → t ≡ WaitsOn r → ⊥

settled_waits_not : (y : Value Name) → WaitsNot (Settled y)
settled_waits_not y r e = cc

any : Standing Name → Type 0
any t = Unit {0}

pub done_at : {A : Type 0} (P : Vat Name → Type 0) (d : Done Name A) (a : A) (t : Vat Name) → d ≡ Gives a t → Ends P d → P t
done_at P d a t e h = subst (λ r. Ends P r) e h

-- what it does from the state, where it gives
pub after_at : {A : Type 0} (R : Vat Name → Vat Name → Type 0) (s : Vat Name) (d : Done Name A) (a : A) (t : Vat Name) → d ≡ Gives a t → After R s d → R s t
after_at R s d a t e h = subst (λ r. After R s r) e h

pub light_at : {A : Type 0} (v : ℕ) (x : Name) (c : ℕ) (s : Vat Name) (d : Done Name A) (a : A) (t : Vat Name) → d ≡ Gives a t → LightAt v x c s d → Sound v t
light_at v x c s d a t e h = let k : LightAt v x c s (Gives a t) = subst (λ r. LightAt v x c s r) e h in k.sound

module _ (script : Script) (w : World) (v : ℕ) where
  abbrev pub K : Naming Name Name
  K = names script v

  abbrev pub word : ℕ → ℕ
  word = draw_word script.key

  abbrev pub At : Name → ℕ → Vat Name → Type 0
  At x c s = costs.At word v x (owed_at v x) c s

  -- With so much in hand of each name: room for it, and claims on it.
  pub record Steady (c o : Name → ℕ) (s : Vat Name) : Type 0 where
    pub sound : Sound v s
    pub later : ViewsLater K s.known
    pub owners : WaitsAreOwn K v s.known
    pub itself : is_in v s.noticed ≡ false
    pub draws : AllDrawn s.drawn (world.push_all v s.outbox w.links)
    pub room : (x : Name) → At x (c x) s
    pub single : (x : Name) → claims v x s.known + o x ≤ allowed v x s s.drawn

  pub less : (c o b a : Name → ℕ) → ((x : Name) → b x ≤ c x) → ((x : Name) → a x ≤ o x) → (s : Vat Name) → Steady c o s → Steady b a s
  less c o b a f g s h = record { sound = h.sound; later = h.later; owners = h.owners; itself = h.itself; draws = h.draws; room = λ x. costs.less word v x (owed_at v x) (c x) (b x) (f x) s (h.room x); single = λ x. let i = h.single x in let j = g x in omega arith }

  pub lined : (c o : Name → ℕ) (s : Vat Name) (e : Happened Name) → Steady c o s → Steady c o (with_line s e)
  unfolding allowed
  lined c o s e h = record { sound = h.sound; later = h.later; owners = h.owners; itself = h.itself; draws = h.draws; room = λ x. h.room x; single = λ x. h.single x }

  -- ---- what follows

  -- where the name is not owed nothing here is to give its value
  pub unowed_asks : (c o : Name → ℕ) (s : Vat Name) (q : Name) → owed_at v q ≡ false → Steady c o s → (askings q s ≡ 0) × (c q ≡ 0)
  unfolding askings share
  unowed_asks c o s q e h = let r = h.room q in let fits = r.fits in let t : share (owed_at v q) (times q s.known) ≡ 0 = ap (λ (z : Bool). share z (times q s.known)) e in (omega arith, omega arith)

  abbrev pub GoodAt : Name → (Standing Name → Type 0) → Vat Name → Vat Name → Type 0
  GoodAt q Stay s t = Good script w v q Stay s.noticed (length s.known) t

  good_now : (c o : Name → ℕ) (q : Name) (Stay : Standing Name → Type 0) (s : Vat Name) → askings q s ≡ 0 → Stay (standing_of K s.known q) → Steady c o s → GoodAt q Stay s s
  good_now c o q Stay s z i h = record { noticed = refl; draws = h.draws; later = h.later; few = omega arith; asks = z; stay = i }

  -- what holds of any act that keeps what is kept of names that are owed to none
  module _ (c o : Name → ℕ) (s t : Vat Name) (h : Steady c o s) (goes : (q : Name) (Stay : Standing Name → Type 0) (settled : (y : Value Name) → Stay (Settled y)) → owed_at v q ≡ false → IsAside v q → GoodAt q Stay s s → GoodAt q Stay s t) where
    abbrev nobody : Name
    nobody = Object v zero

    nobody_owed : owed_at v nobody ≡ false
    unfolding owed_at
    nobody_owed = refl

    plain : GoodAt nobody any s t
    unfolding any
    plain = goes nobody any (λ y. tt) nobody_owed (inl refl) (good_now c o nobody any s (unowed_asks c o s nobody nobody_owed h).0 tt h)

    not_by : (n : Name) (b : Bool) → share b (one n n) ≡ 0 → b ≡ false
    unfolding share
    not_by n true e = let is = one_self n n refl in absurd (omega arith)
    not_by n false e = refl

    not_owed : (n : Name) → (host_of n ≡ v → ⊥) → owed_at v n ≡ false
    not_owed n f = not_by n (owed_at v n) (other_host v n n f)

    own_now : (n q : Name) → standing_of K t.known n ≡ WaitsOn q → (host_of n ≡ v) ⊎ (host_of n ≡ v → ⊥) → host_of n ≡ v
    own_now n q e (inl i) = i
    own_now n q e (inr f) = let none = not_owed n f in let g = goes n WaitsNot settled_waits_not none (inr f) (good_now c o n WaitsNot s (unowed_asks c o s n none h).0 (λ r i. f (h.owners n r i)) h) in absurd (g.stay q e)

    pub carried : (b a : Name → ℕ) → Sound v t → ((x : Name) → At x (b x) t) → ((x : Name) → claims v x t.known + a x ≤ allowed v x t t.drawn) → Steady b a t
    carried b a sound room single = record {
      sound = sound;
      later = plain.later;
      owners = λ n q e. own_now n q e (eq_dec (host_of n) v);
      itself = ap (is_in v) plain.noticed ∙ h.itself;
      draws = plain.draws;
      room = room;
      single = single;
    }

    pub few : length s.known ≤ length t.known
    few = plain.few

    pub noticed : t.noticed ≡ s.noticed
    noticed = plain.noticed

  pub claims_on : (x : Name) (a b : ℕ) (s t : Vat Name) → s.number ≡ v → Knowing v x a s t → claims v x s.known + (a + b) ≤ allowed v x s s.drawn → claims v x t.known + b ≤ allowed v x t t.drawn
  unfolding allowed numbered_at
  claims_on x a b s t own k h = let i = k.kept own in omega arith

  -- ---- a settling

  module _ (c o : Name → ℕ) (p : Name) (y : Value Name) (last : NoPromise y) (s t : Vat Name) (e : refs.settle K p y s ≡ Gives tt t) (h : Steady (λ x. share (owed_at v x) (one p x) + c x) o s) where
    settle_goes : (q : Name) (Stay : Standing Name → Type 0) (settled : (z : Value Name) → Stay (Settled z)) → owed_at v q ≡ false → IsAside v q → GoodAt q Stay s s → GoodAt q Stay s t
    settle_goes q Stay settled none aside g = done_at (GoodAt q Stay s) (refs.settle K p y s) tt t e ((do_settle script w v q Stay s.noticed (length s.known) settled p y).after s g)

    pub settle_steady : Steady c o t
    unfolding names
    settle_steady = carried (λ x. share (owed_at v x) (one p x) + c x) o s t h settle_goes c o
        (light_at v p 0 s (refs.settle (naming word v) p y s) tt t e ((light_settle (naming word v) v (global_names word v) p p y last).after s h.sound))
        (λ x. done_at (At x (c x)) (refs.settle (naming word v) p y s) tt t e ((settling.costs_settle word v x (owed_at v x) (fit_at v x).eventual p y).after (c x) s (h.room x)))
        (λ x. claims_on x 0 (o x) s t h.sound.same (after_at (Knowing v x 0) s (refs.settle (naming word v) p y s) tt t e ((free_settle v x word p y).after s)) (let i = h.single x in omega arith))

    pub settle_few : length s.known ≤ length t.known
    settle_few = few (λ x. share (owed_at v x) (one p x) + c x) o s t h settle_goes

    pub settle_noticed : t.noticed ≡ s.noticed
    settle_noticed = noticed (λ x. share (owed_at v x) (one p x) + c x) o s t h settle_goes

  -- ---- a message that is sent on

  module _ (c o : Name → ℕ) (m : Message Name) (named : NamesMessage m.id) (s t : Vat Name) (e : refs.send_on K (refs.settle K) m s ≡ Gives tt t) (h : Steady (λ x. 2 * answers x m + c x) (λ x. onward v x m.id + o x) s) where
    unowed_answers : (q : Name) → owed_at v q ≡ false → answers q m ≡ 0
    unowed_answers q none = let z = (unowed_asks (λ x. 2 * answers x m + c x) (λ x. onward v x m.id + o x) s q none h).1 in omega arith

    send_goes : (q : Name) (Stay : Standing Name → Type 0) (settled : (z : Value Name) → Stay (Settled z)) → owed_at v q ≡ false → IsAside v q → GoodAt q Stay s s → GoodAt q Stay s t
    send_goes q Stay settled none aside g = done_at (GoodAt q Stay s) (refs.send_on K (refs.settle K) m s) tt t e
        ((do_send_on script w v q Stay s.noticed (length s.known) (refs.settle K) (do_settle script w v q Stay s.noticed (length s.known) settled) m (unowed_answers q none)).after s g)

    pub send_steady : Steady c o t
    unfolding names
    send_steady = let N : Naming Name Name = naming word v in carried (λ x. 2 * answers x m + c x) (λ x. onward v x m.id + o x) s t h send_goes c o
        (light_at v m.id (ride (refs.place N s (refs.follow N s m.target)) (one m.id m.id)) s (refs.send_on N (refs.settle N) m s) tt t e (sent_at N v (global_names word v) m.id (refs.settle N) (light_settle N v (global_names word v) m.id) (ride (refs.place N s (refs.follow N s m.target)) (one m.id m.id)) m s named h.sound (omega arith)))
        (λ x. done_at (At x (c x)) (refs.send_on N (refs.settle N) m s) tt t e ((settling.costs_send_on word v x (owed_at v x) (fit_at v x).eventual (refs.settle N) (settling.costs_settle word v x (owed_at v x) (fit_at v x).eventual) m).after (c x) s (h.room x)))
        (λ x. claims_on x (onward v x m.id) (o x) s t h.sound.same (after_at (Knowing v x (onward v x m.id)) s (refs.send_on N (refs.settle N) m s) tt t e ((costs_send_on v x word (refs.settle N) (free_settle v x word) m).after s)) (let i = h.single x in omega arith))

    pub send_few : length s.known ≤ length t.known
    send_few = few (λ x. 2 * answers x m + c x) (λ x. onward v x m.id + o x) s t h send_goes

    pub send_noticed : t.noticed ≡ s.noticed
    send_noticed = noticed (λ x. 2 * answers x m + c x) (λ x. onward v x m.id + o x) s t h send_goes

  -- ---- a name settles, and what it held and what waited on it is in hand

  module _ (c o : Name → ℕ) (p : Name) (y : Value Name) (last : NoPromise y) (k : Known Name) (s : Vat Name) (found : entry_of K s.known p ≡ Some k) (loose : IsOpen k.standing) (waits : Waits K v k.standing) (h : Steady (λ x. share (owed_at v x) (one p x) + c x) o s) where
    abbrev Then : Vat Name
    Then = record s { happened = s.happened ++ Settles p y ∷ []; known = with_change K (Settle y) p s.known }

    frees : (x : Name) → claims v x (with_change K (Settle y) p s.known) + onward_all v x k.held ≤ claims v x s.known
    frees x = let e = settling_frees K v x y p k s.known found waits in omega arith

    then_goes : (q : Name) (Stay : Standing Name → Type 0) (settled : (z : Value Name) → Stay (Settled z)) → owed_at v q ≡ false → IsAside v q → GoodAt q Stay s s → GoodAt q Stay s Then
    then_goes q Stay settled none aside g = settled_good script w v q Stay s.noticed (length s.known) settled y p s g

    pub then_steady : Steady (λ x. 2 * asked_at x k + (share (owed_at v x) (waits_at x k) + c x)) (λ x. onward_all v x k.held + o x) Then
    unfolding names allowed
    then_steady = let w = h.sound in carried (λ x. share (owed_at v x) (one p x) + c x) o s Then h then_goes (λ x. 2 * asked_at x k + (share (owed_at v x) (waits_at x k) + c x)) (λ x. onward_all v x k.held + o x)
        (record { same = w.same; well = settle_well (naming word v) v (global_names word v) y p s.known last w.well; names = (change_sound v p (naming word v) (global_names word v) (Settle y) p s.known tt w.names).0; own = w.own; notes = w.notes })
        (λ x. costs.settles_good word v x (owed_at v x) y p k (c x) s found loose (h.room x))
        (λ x. let i = h.single x in let j = frees x in omega arith)
