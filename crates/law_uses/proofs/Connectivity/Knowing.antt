-- What is known is the least, and stays known.
use Rattle.std.proofs.Common.{ℕ, List, [], ◌∷◌, ◌++◌, refl, sym, subst, inl, inr}
use Rattle.def_machine.specs.Values.{Value, Ref, Naming}
use Rattle.def_machine.specs.State.{Known, Happened}
use Rattle.law_uses.specs.Connectivity.Known.{Item, AGuard, IsAmong, Holdings, Leads, settled, viewed, settles, views, Reaches, itself, onward, IsThing, Runs, called, took, Knows, plain, initial, endowed, told, member, followed, serves, guard}
use Rattle.law_uses.specs.Connectivity.ConnectedLaws.{IsClosed, Grown}

pub among_mid : {A : Type 0} (x : A) (front rest : List A) → IsAmong x (front ++ x ∷ rest)
among_mid x [] rest = inl refl
among_mid x (y ∷ front) rest = inr (among_mid x front rest)

pub among_more : {A : Type 0} (x : A) (xs ys : List A) → IsAmong x xs → IsAmong x (xs ++ ys)
among_more x [] ys i = absurd i
among_more x (z ∷ xs) ys (inl e) = inl e
among_more x (z ∷ xs) ys (inr i) = inr (among_more x xs ys i)

module _ {N W : Type 0} (K : Naming N W) (before : List (Known N)) where
  pub leads_more : (so more : List (Happened N)) (x y : Value N) → Leads K before so x y → Leads K before (so ++ more) x y
  leads_more so more x y (settled e) = settled e
  leads_more so more x y (viewed e) = viewed e
  leads_more so more x y (settles p i o) = settles p (among_more _ so more i) o
  leads_more so more x y (views p i o) = views p (among_more _ so more i) o

  pub reaches_more : (so more : List (Happened N)) (x y : Value N) → Reaches K before so x y → Reaches K before (so ++ more) x y
  reaches_more so more x y itself = itself
  reaches_more so more x z (onward y l r) = onward y (leads_more so more x y l) (reaches_more so more y z r)

  pub thing_more : (so more : List (Happened N)) (x : Value N) (i : ℕ) → IsThing K before so x i → IsThing K before (so ++ more) x i
  thing_more so more x i t = (t.0, reaches_more so more x (Ref t.0) t.1, t.2)

module _ {N W : Type 0} (K : Naming N W) (h : Holdings N W) where
  pub least : (so : List (Happened N)) (P : ℕ → Item N → Type 0) → IsClosed K h so P → (a : ℕ) (i : Item N) → Knows K h so a i → P a i
  least so P c a i (plain {v = v} e) = c.plain a v e
  least so P c a i (initial e) = c.initial a i e
  least so P c a i (endowed k node caught stamps r e m) = c.endowed a k node caught stamps i r e m
  least so P c a i (told e m t) = c.told a e i m t
  least so P c a i (member {v = v} k vs g e m) = c.member a k v vs (least so P c a _ g) e m
  least so P c a i (followed {y = y} x g l) = c.followed a x y (least so P c a _ g) l
  least so P c a i (serves {v = v} g) = c.serves a v (least so P c a _ g)
  least so P c a i (guard k cell g e) = c.guard a k cell (least so P c a _ g) e

  pub runs_more : (so more : List (Happened N)) (a k : ℕ) → Runs K h so a k → Runs K h (so ++ more) a k
  runs_more so more b k (called a x verb args i t) = called a x verb args (among_more _ so more i) (thing_more K h.before so more x k t)
  runs_more so more a k (took m i t) = took m (among_more _ so more i) (thing_more K h.before so more m.target k t)

  pub knows_more : (so more : List (Happened N)) (a : ℕ) (i : Item N) → Knows K h so a i → Knows K h (so ++ more) a i
  knows_more so more a i (plain e) = plain e
  knows_more so more a i (initial e) = initial e
  knows_more so more a i (endowed k node caught stamps r e m) = endowed k node caught stamps (runs_more so more a k r) e m
  knows_more so more a i (told e m t) = told e (among_more e so more m) t
  knows_more so more a i (member k vs g e m) = member k vs (knows_more so more a _ g) e m
  knows_more so more a i (followed x g l) = followed x (knows_more so more a _ g) (leads_more K h.before so more _ _ l)
  knows_more so more a i (serves g) = serves (knows_more so more a _ g)
  knows_more so more a i (guard k c g e) = guard k c (knows_more so more a _ g) e

module _ {N W : Type 0} (K : Naming N W) (h later : Holdings N W) (grown : Grown h later) where
  leads_later : (so : List (Happened N)) (x y : Value N) → Leads K h.before so x y → Leads K later.before so x y
  leads_later so x y l = subst (λ ks. Leads K ks so x y) grown.before l

  thing_later : (so : List (Happened N)) (x : Value N) (i : ℕ) → IsThing K h.before so x i → IsThing K later.before so x i
  thing_later so x i t = subst (λ ks. IsThing K ks so x i) grown.before t

  runs_later : (so : List (Happened N)) (a k : ℕ) → Runs K h so a k → Runs K later so a k
  runs_later so b k (called a x verb args i t) = called a x verb args i (thing_later so x k t)
  runs_later so a k (took m i t) = took m i (thing_later so m.target k t)

  pub knows_later : (so : List (Happened N)) (a : ℕ) (i : Item N) → Knows K h so a i → Knows K later so a i
  knows_later so a i (plain e) = plain e
  knows_later so a i (initial e) = initial (subst (λ gs. IsAmong (a, i) gs) grown.given e)
  knows_later so a i (endowed k node caught stamps r e m) = endowed k node caught stamps (runs_later so a k r) (grown.objects k node caught stamps e) m
  knows_later so a i (told e m t) = told e m t
  knows_later so a i (member k vs g e m) = member k vs (knows_later so a _ g) (grown.lists k vs e) m
  knows_later so a i (followed x g l) = followed x (knows_later so a _ g) (leads_later so x _ l)
  knows_later so a i (serves g) = serves (knows_later so a _ g)
  knows_later so a i (guard k c g e) = let d = grown.guards k c e in subst (λ w. Knows K later so a (AGuard w)) (sym d.2) (guard k d.0 (knows_later so a _ g) d.1)
