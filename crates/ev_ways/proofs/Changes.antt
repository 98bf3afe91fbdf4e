-- The ways stay standing where a frame is pushed or taken.
use Rattle.std.proofs.Common.{◌≡◌, ◌⊎◌, inl, inr, ℕ, zero, Bool, true, false, List, [], ◌∷◌, ◌++◌, Option, Some, None, refl, sym, ap, ◌∙◌, subst}
use Rattle.std.specs.Prelude.{drop, slice_get, if◌then◌else◌}
use Rattle.def_run.specs.Numbers.{Way, is_way, way_at, with_way, pushed}
use Rattle.def_run.specs.Numbers.{Frame as Carrying}
use Rattle.ev_ways.specs.declared.frame.Frame.{Frame}
use Rattle.ev_ways.specs.Rows.{Lane, put, next, behind, first, rest, changed}
use Rattle.ev_ways.specs.Standing.{Placed, IsFrame, AreFrames, IsWay, WaysStand, placed_from}
use Rattle.ev_ways.specs.Statements.{PushStands, IsIdle, IsTaken, IsCarried, Carries, CarryStands, IsEmpty, Loses, LoseStands}
use Rattle.ev_ways.proofs.Places.{on, placed_at}
use Rattle.ev_ways.proofs.Stands.{Found, MayStand, finds, changes_stand}
use Rattle.ev_ways.proofs.Looks.{of_place, next_found, first_found}

-- ---- frames

pub frames_join : (ds : List ℕ) (u : ℕ) (xs : List Carrying) (ks : List Frame) (x : Carrying) (k : Frame) → AreFrames ds u xs ks → IsFrame ds u x k → AreFrames ds u (xs ++ x ∷ []) (ks ++ k ∷ [])
frames_join ds u [] [] x k h i = (i, tt)
frames_join ds u (y ∷ ys) (j ∷ js) x k h i = (h.0, frames_join ds u ys js x k h.1 i)
frames_join ds u [] (j ∷ js) x k h i = absurd h
frames_join ds u (y ∷ ys) [] x k h i = absurd h

-- without the first
frames_rest : (ds : List ℕ) (u : ℕ) (fs : List Carrying) (ks : List Frame) (x : Carrying) (xs : List Carrying) → fs ≡ x ∷ xs → AreFrames ds u fs ks → AreFrames ds u xs (drop 1 ks)
frames_rest ds u [] ks x xs e h = cc
frames_rest ds u (y ∷ ys) [] x xs e h = absurd h
frames_rest ds u (y ∷ ys) (k ∷ ks) x xs e h = let i : ys ≡ xs = cc in subst (λ (zs : List Carrying). AreFrames ds u zs ks) i h.1

frames_none : (ds : List ℕ) (u : ℕ) (fs : List Carrying) (ks : List Frame) → fs ≡ [] → AreFrames ds u fs ks → AreFrames ds u fs (drop 1 ks)
frames_none ds u [] [] e h = tt
frames_none ds u [] (k ∷ ks) e h = absurd h
frames_none ds u (y ∷ ys) ks e h = cc

-- ---- a frame is pushed

push_or : (ds : List ℕ) (l : Way) (p : Placed) (x : Carrying) (k : Frame) (c d : Bool) → l.cut ≡ c → p.lane.is_cut ≡ d → IsWay ds l p → IsFrame ds l.to x k
    → IsWay ds (elim c [ true ↦ l | false ↦ record l { frames = l.frames ++ x ∷ [] } ]) (record { from = p.from; to = p.to; lane = if d then p.lane else record { is_cut = false; frames = p.lane.frames ++ k ∷ [] } })
push_or ds l p x k true true e i h j = h
push_or ds l p x k false false e i h j = record { sender = h.sender; receiver = h.receiver; is_cut = sym e; under_way = frames_join ds l.to l.frames p.lane.frames x k h.under_way j }
push_or ds l p x k true false e i h j = let t : true ≡ false = sym e ∙ (sym h.is_cut ∙ i) in cc
push_or ds l p x k false true e i h j = let t : true ≡ false = sym i ∙ (h.is_cut ∙ e) in cc

pub push_stands : PushStands
unfolding pushed put
push_stands ds n v u x k ls ways i h = changes_stand ds n v u (pushed x) (put k) ls ways h (λ l p e f.
    push_or ds l p x k l.cut p.lane.is_cut refl refl f.stands (subst (λ (w : ℕ). IsFrame ds w x k) (sym f.received) i))

-- ---- nothing is taken

same_or : (v u : ℕ) (b : Bool) (l : Way) (ls ms : List Way) → ms ≡ ls → elim b [ true ↦ l ∷ ls | false ↦ l ∷ ms ] ≡ l ∷ ls
same_or v u true l ls ms e = refl
same_or v u false l ls ms e = ap (λ (ks : List Way). l ∷ ks) e

pub with_same : (v u : ℕ) (ls : List Way) → with_way (λ (l : Way). l) v u ls ≡ ls
unfolding with_way
with_same v u [] = refl
with_same v u (l ∷ ls) = same_or v u (is_way v u l) l ls (with_way (λ (l : Way). l) v u ls) (with_same v u ls)

-- a change that does not show
pub unchanged : (ds : List ℕ) (n v u : ℕ) (g : Lane → Lane) (ls : List Way) (ways : List (List Lane)) → WaysStand ds n ls ways
    → ((l : Way) (p : Placed) → way_at v u ls ≡ Some l → Found ds v u l p → IsWay ds l (on g p)) → WaysStand ds n ls (changed g v u ways)
unchanged ds n v u g ls ways h k = subst (λ (ms : List Way). WaysStand ds n ms (changed g v u ways)) (with_same v u ls) (changes_stand ds n v u (λ (l : Way). l) g ls ways h k)

-- ---- a frame is carried

idle_or : (ds : List ℕ) (l : Way) (p : Placed) (c : Bool) → p.lane.is_cut ≡ c → IsWay ds l p → (l.cut ≡ true) ⊎ (l.frames ≡ [])
    → IsWay ds l (record { from = p.from; to = p.to; lane = if c then p.lane else record { is_cut = false; frames = drop 1 p.lane.frames } })
idle_or ds l p true e h k = h
idle_or ds l p false e h (inl i) = let t : true ≡ false = sym i ∙ (sym h.is_cut ∙ e) in cc
idle_or ds l p false e h (inr i) = record { sender = h.sender; receiver = h.receiver; is_cut = sym e ∙ h.is_cut; under_way = frames_none ds l.to l.frames p.lane.frames i h.under_way }

behind_idle : (ds : List ℕ) (l : Way) (p : Placed) → IsWay ds l p → (l.cut ≡ true) ⊎ (l.frames ≡ []) → IsWay ds l (on behind p)
unfolding behind
behind_idle ds l p h k = idle_or ds l p p.lane.is_cut refl h k

taken_or : (ds : List ℕ) (l : Way) (p : Placed) (x : Carrying) (xs : List Carrying) (c : Bool) → p.lane.is_cut ≡ c → IsWay ds l p → l.cut ≡ false → l.frames ≡ x ∷ xs
    → IsWay ds (record l { frames = xs }) (record { from = p.from; to = p.to; lane = if c then p.lane else record { is_cut = false; frames = drop 1 p.lane.frames } })
taken_or ds l p x xs true e h k i = let t : true ≡ false = sym e ∙ (h.is_cut ∙ k) in cc
taken_or ds l p x xs false e h k i = record { sender = h.sender; receiver = h.receiver; is_cut = sym e ∙ h.is_cut; under_way = frames_rest ds l.to l.frames p.lane.frames x xs i h.under_way }

behind_taken : (ds : List ℕ) (l : Way) (p : Placed) (x : Carrying) (xs : List Carrying) → IsWay ds l p → l.cut ≡ false → l.frames ≡ x ∷ xs → IsWay ds (record l { frames = xs }) (on behind p)
unfolding behind
behind_taken ds l p x xs h k i = taken_or ds l p x xs p.lane.is_cut refl h k i

same_way : (o : Option Way) (l m : Way) → o ≡ Some l → o ≡ Some m → l ≡ m
same_way o l m e i = cc

module _ (ds : List ℕ) (n v u : ℕ) (ls : List Way) (ways : List (List Lane)) (h : WaysStand ds n ls ways) where
  idle_stands : (l : Way) → way_at v u ls ≡ Some l → (l.cut ≡ true) ⊎ (l.frames ≡ []) → WaysStand ds n ls (changed behind v u ways)
  idle_stands l e k = unchanged ds n v u behind ls ways h (λ m p i f. behind_idle ds m p f.stands (subst (λ (w : Way). (w.cut ≡ true) ⊎ (w.frames ≡ [])) (same_way (way_at v u ls) l m e i) k))

  none_stands : (g : Lane → Lane) → way_at v u ls ≡ None → WaysStand ds n ls (changed g v u ways)
  none_stands g e = unchanged ds n v u g ls ways h (λ m p i f. let t : ◌≡◌ {A = Option Way} None (Some m) = sym e ∙ i in cc)

  -- nothing can be carried from the way that is found
  idle_at : (l : Way) → way_at v u ls ≡ Some l → (l.cut ≡ true) ⊎ (l.frames ≡ []) → Carries ds n v u ls (changed behind v u ways) None
  idle_at l e k = (subst (λ (o : Option Way). IsIdle o) (sym e) k, idle_stands l e k)

  carried : (l : Way) (k : Frame) (x : Carrying) (xs : List Carrying) → way_at v u ls ≡ Some l → l.to ≡ u → l.cut ≡ false → l.frames ≡ x ∷ xs → IsFrame ds l.to x k → IsCarried ds n v u ls (changed behind v u ways) k
  carried l k x xs e i c f j = record {
    taken = record {
      way = l;
      first = x;
      others = xs;
      found = e;
      under_way = f;
      is_frame = subst (λ (w : ℕ). IsFrame ds w x k) i j;
      stand = changes_stand ds n v u (λ (m : Way). record m { frames = xs }) behind ls ways h (λ m p a b. let d = same_way (way_at v u ls) l m e a in
          behind_taken ds m p x xs b.stands (subst (λ (w : Way). w.cut ≡ false) d c) (subst (λ (w : Way). w.frames ≡ x ∷ xs) d f));
    };
    uncut = c;
  }

  carry_by : (l : Way) → way_at v u ls ≡ Some l → l.to ≡ u → (c : Bool) → l.cut ≡ c → (fs : List Carrying) (ks : List Frame) → l.frames ≡ fs → AreFrames ds l.to fs ks
      → Carries ds n v u ls (changed behind v u ways) (if c then None else slice_get ks 0)
  carry_by l e i true c fs ks f a = idle_at l e (inl c)
  carry_by l e i false c [] [] f a = idle_at l e (inr f)
  carry_by l e i false c (x ∷ xs) (k ∷ ks) f a = carried l k x xs e i c f a.0
  carry_by l e i false c [] (k ∷ ks) f a = absurd a
  carry_by l e i false c (x ∷ xs) [] f a = absurd a

  carry_of : (o : Option Way) (q : Option Placed) → way_at v u ls ≡ o → MayStand ds v u o q → Carries ds n v u ls (changed behind v u ways) (of_place None next q)
  unfolding next
  carry_of None None e f = (subst (λ (o : Option Way). IsIdle o) (sym e) tt, none_stands behind e)
  carry_of (Some l) (Some p) e f = carry_by l e f.received p.lane.is_cut (sym f.stands.is_cut) l.frames p.lane.frames refl f.stands.under_way
  carry_of None (Some p) e f = absurd f
  carry_of (Some l) None e f = absurd f

pub carry_stands : CarryStands
carry_stands ds n v u ls ways h = subst (λ (o : Option Frame). Carries ds n v u ls (changed behind v u ways) o) (sym (next_found v u ways))
    (carry_of ds n v u ls ways h (way_at v u ls) (placed_at v u (placed_from zero ways)) refl (finds ds v u ls (placed_from zero ways) h.ways))

-- ---- a frame is lost

rest_none : (ds : List ℕ) (l : Way) (p : Placed) → IsWay ds l p → l.frames ≡ [] → IsWay ds l (on rest p)
unfolding rest
rest_none ds l p h i = record { sender = h.sender; receiver = h.receiver; is_cut = h.is_cut; under_way = frames_none ds l.to l.frames p.lane.frames i h.under_way }

rest_taken : (ds : List ℕ) (l : Way) (p : Placed) (x : Carrying) (xs : List Carrying) → IsWay ds l p → l.frames ≡ x ∷ xs → IsWay ds (record l { frames = xs }) (on rest p)
unfolding rest
rest_taken ds l p x xs h i = record { sender = h.sender; receiver = h.receiver; is_cut = h.is_cut; under_way = frames_rest ds l.to l.frames p.lane.frames x xs i h.under_way }

module _ (ds : List ℕ) (n v u : ℕ) (ls : List Way) (ways : List (List Lane)) (h : WaysStand ds n ls ways) where
  empty_at : (l : Way) → way_at v u ls ≡ Some l → l.frames ≡ [] → Loses ds n v u ls (changed rest v u ways) None
  empty_at l e k = (
    subst (λ (o : Option Way). IsEmpty o) (sym e) k,
    unchanged ds n v u rest ls ways h (λ m p i f. rest_none ds m p f.stands (subst (λ (w : Way). w.frames ≡ []) (same_way (way_at v u ls) l m e i) k)),
  )

  taken_off : (l : Way) (k : Frame) (x : Carrying) (xs : List Carrying) → way_at v u ls ≡ Some l → l.to ≡ u → l.frames ≡ x ∷ xs → IsFrame ds l.to x k → IsTaken ds n v u ls (changed rest v u ways) k
  taken_off l k x xs e i f j = record {
    way = l;
    first = x;
    others = xs;
    found = e;
    under_way = f;
    is_frame = subst (λ (w : ℕ). IsFrame ds w x k) i j;
    stand = changes_stand ds n v u (λ (m : Way). record m { frames = xs }) rest ls ways h (λ m p a b. let d = same_way (way_at v u ls) l m e a in
        rest_taken ds m p x xs b.stands (subst (λ (w : Way). w.frames ≡ x ∷ xs) d f));
  }

  lose_by : (l : Way) → way_at v u ls ≡ Some l → l.to ≡ u → (fs : List Carrying) (ks : List Frame) → l.frames ≡ fs → AreFrames ds l.to fs ks → Loses ds n v u ls (changed rest v u ways) (slice_get ks 0)
  lose_by l e i [] [] f a = empty_at l e f
  lose_by l e i (x ∷ xs) (k ∷ ks) f a = taken_off l k x xs e i f a.0
  lose_by l e i [] (k ∷ ks) f a = absurd a
  lose_by l e i (x ∷ xs) [] f a = absurd a

  lose_of : (o : Option Way) (q : Option Placed) → way_at v u ls ≡ o → MayStand ds v u o q → Loses ds n v u ls (changed rest v u ways) (of_place None first q)
  unfolding first
  lose_of None None e f = (subst (λ (o : Option Way). IsEmpty o) (sym e) tt, none_stands ds n v u ls ways h rest e)
  lose_of (Some l) (Some p) e f = lose_by l e f.received l.frames p.lane.frames refl f.stands.under_way
  lose_of None (Some p) e f = absurd f
  lose_of (Some l) None e f = absurd f

pub lose_stands : LoseStands
lose_stands ds n v u ls ways h = subst (λ (o : Option Frame). Loses ds n v u ls (changed rest v u ways) o) (sym (first_found v u ways))
    (lose_of ds n v u ls ways h (way_at v u ls) (placed_at v u (placed_from zero ways)) refl (finds ds v u ls (placed_from zero ways) h.ways))
