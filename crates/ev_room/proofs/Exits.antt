-- What ends without a value ends all that would follow.
use Rattle.std.proofs.Common.{◌≡◌, ℕ, List, length, Ok, Err, refl, ap, subst}
use Rattle.std.specs.Prelude.{Result}
use Rattle.ev_room.specs.declared.exit.Exit.{Exit}
use Rattle.ev_room.specs.declared.exit.Exit.TheVariants.{Thrown, Ejected, Fuel, Deep, Repeated, Astray, Memory}
use Rattle.ev_room.specs.declared.exit.Came.{Came}
use Rattle.ev_room.specs.declared.exit.Came.TheVariants.{Gave, Threw, Left}
use Rattle.ev_pass.specs.declared.interior.Interior.{Interior as Room}
use Rattle.ev_base.specs.declared.values.Value.{Value}
use Rattle.ev_room.specs.Acts.{ended_by, unless_stopped, Out, Act, Unless, Gives, and_then, ◌>>◌, spend, keep_list, store, closed_by}

pub ends : {A B : Type 0} (e : Exit) (room : Room) (o : Out A) (f : A → Act B) → Unless e (o ≡ (Err e, room)) → Unless e (and_then o f ≡ (Err e, room))
unfolding and_then
ends (Thrown id) room o f h = rw h refl
ends (Ejected n v) room o f h = rw h refl
ends Fuel room o f h = rw h refl
ends Deep room o f h = rw h refl
ends (Repeated i j) room o f h = rw h refl
ends Astray room o f h = rw h refl
ends Memory room o f h = tt

-- a fact that follows from one that holds unless memory ran out
pub unless_as : {X Y : Type 0} (e : Exit) → (X → Y) → Unless e X → Unless e Y
unless_as (Thrown id) f h = f h
unless_as (Ejected n v) f h = f h
unless_as Fuel f h = f h
unless_as Deep f h = f h
unless_as (Repeated i j) f h = f h
unless_as Astray f h = f h
unless_as Memory f h = tt

without : {A : Type 0} (q : Result A Exit) (room t : Room) (o : Out A) → Gives q t (Err Memory, room) → Gives q t o
without {A = A} (Ok a) room t o h = absurd (cc (ap (λ (p : Out A). p.0) h))
without {A = A} (Err (Thrown id)) room t o h = absurd (cc (ap (λ (p : Out A). p.0) h))
without {A = A} (Err (Ejected n v)) room t o h = absurd (cc (ap (λ (p : Out A). p.0) h))
without {A = A} (Err Fuel) room t o h = absurd (cc (ap (λ (p : Out A). p.0) h))
without {A = A} (Err Deep) room t o h = absurd (cc (ap (λ (p : Out A). p.0) h))
without {A = A} (Err (Repeated i j)) room t o h = absurd (cc (ap (λ (p : Out A). p.0) h))
without {A = A} (Err Astray) room t o h = absurd (cc (ap (λ (p : Out A). p.0) h))
without (Err Memory) room t o h = tt

-- what follows an outcome follows what came to it
pub follows : {A B : Type 0} (f : A → Act B) (g : ℕ → Act B) (k : ℕ → Value → Act B) (r : Result A Exit) (q : Result B Exit) (room t : Room) (o : Out A)
    → Gives r room o → Gives q t (ended_by f g k (r, room)) → Gives q t (ended_by f g k o)
unfolding ended_by
follows f g k (Ok v) q room t o e h = rw e h
follows f g k (Err (Thrown id)) q room t o e h = rw e h
follows f g k (Err (Ejected n v)) q room t o e h = rw e h
follows f g k (Err Fuel) q room t o e h = rw e h
follows f g k (Err Deep) q room t o e h = rw e h
follows f g k (Err (Repeated i j)) q room t o e h = rw e h
follows f g k (Err Astray) q room t o e h = rw e h
follows f g k (Err Memory) q room t o e h = without q room t (ended_by f g k o) h

pub closes : (act : ℕ) (r q : Result Value Exit) (room t : Room) (o : Out Value) → Gives r room o → Gives q t (closed_by act (r, room)) → Gives q t (closed_by act o)
unfolding closed_by
closes act r q room t o e h = follows _ _ _ r q room t o e h

-- a list is kept once its fuel is spent
pub spent_first : (act : ℕ) (vs : List Value) (s t : Room) (q : Result Value Exit) (u : Room) → spend (length vs) s ≡ (Ok tt, t) → Gives q u (keep_list act vs t) → Gives q u (store act vs s)
unfolding store and_then ◌>>◌
spent_first act vs s t q u e h = rw e h

-- ---- what follows by how something came to an end

-- how something ended that came to an end so
abbrev ended_so : Came → Result Value Exit
ended_so (Gave v) = Ok v
ended_so (Threw id) = Err (Thrown id)
ended_so (Left n v) = Err (Ejected n v)

came_back : (r : Result Value Exit) (c : Came) → unless_stopped r ≡ Ok c → r ≡ ended_so c
unfolding unless_stopped
came_back (Ok v) c h = let is : Gave v ≡ c = cc in ap ended_so is
came_back (Err (Thrown id)) c h = let is : Threw id ≡ c = cc in ap ended_so is
came_back (Err (Ejected n v)) c h = let is : Left n v ≡ c = cc in ap ended_so is
came_back (Err Fuel) c h = absurd (cc)
came_back (Err Deep) c h = absurd (cc)
came_back (Err (Repeated i j)) c h = absurd (cc)
came_back (Err Astray) c h = absurd (cc)
came_back (Err Memory) c h = absurd (cc)

pub gave : {B : Type 0} (f : Value → Act B) (g : ℕ → Act B) (k : ℕ → Value → Act B) (r : Result Value Exit) (room : Room) (o : Out Value) (v : Value)
    → Gives r room o → unless_stopped r ≡ Ok (Gave v) → ended_by f g k o ≡ f v room
unfolding ended_by
gave f g k r room o v e h = let x : Gives (Ok v) room o = subst (λ (p : Result Value Exit). Gives p room o) (came_back r (Gave v) h) e in rw x refl

pub threw : {B : Type 0} (f : Value → Act B) (g : ℕ → Act B) (k : ℕ → Value → Act B) (r : Result Value Exit) (room : Room) (o : Out Value) (id : ℕ)
    → Gives r room o → unless_stopped r ≡ Ok (Threw id) → ended_by f g k o ≡ g id room
unfolding ended_by
threw f g k r room o id e h = let x : Gives (Err (Thrown id)) room o = subst (λ (p : Result Value Exit). Gives p room o) (came_back r (Threw id) h) e in rw x refl

pub left : {B : Type 0} (f : Value → Act B) (g : ℕ → Act B) (k : ℕ → Value → Act B) (r : Result Value Exit) (room : Room) (o : Out Value) (n : ℕ) (v : Value)
    → Gives r room o → unless_stopped r ≡ Ok (Left n v) → ended_by f g k o ≡ k n v room
unfolding ended_by
left f g k r room o n v e h = let x : Gives (Err (Ejected n v)) room o = subst (λ (p : Result Value Exit). Gives p room o) (came_back r (Left n v) h) e in rw x refl

-- what stopped ends all that would follow
pub stopped : {B : Type 0} (f : Value → Act B) (g : ℕ → Act B) (k : ℕ → Value → Act B) (r : Result Value Exit) (room : Room) (o : Out Value) (x : Exit)
    → Gives r room o → unless_stopped r ≡ Err x → Unless x (ended_by f g k o ≡ (Err x, room))
unfolding ended_by unless_stopped
stopped f g k (Ok v) room o x e h = absurd (cc)
stopped f g k (Err (Thrown id)) room o x e h = absurd (cc)
stopped f g k (Err (Ejected n v)) room o x e h = absurd (cc)
stopped f g k (Err Fuel) room o x e h = let is : Fuel ≡ x = cc in subst (λ (y : Exit). Unless y (ended_by f g k o ≡ (Err y, room))) is (rw e refl)
stopped f g k (Err Deep) room o x e h = let is : Deep ≡ x = cc in subst (λ (y : Exit). Unless y (ended_by f g k o ≡ (Err y, room))) is (rw e refl)
stopped f g k (Err (Repeated i j)) room o x e h = let is : Repeated i j ≡ x = cc in subst (λ (y : Exit). Unless y (ended_by f g k o ≡ (Err y, room))) is (rw e refl)
stopped f g k (Err Astray) room o x e h = let is : Astray ≡ x = cc in subst (λ (y : Exit). Unless y (ended_by f g k o ≡ (Err y, room))) is (rw e refl)
stopped f g k (Err Memory) room o x e h = let is : Memory ≡ x = cc in subst (λ (y : Exit). Unless y (ended_by f g k o ≡ (Err y, room))) is tt
