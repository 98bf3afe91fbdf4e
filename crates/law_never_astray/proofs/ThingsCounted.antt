-- What a vat names of its own is there: all that evaluation does keeps this.
use Rattle.std.proofs.Common.{◌≡◌, ℕ, zero, suc, ◌≤◌, ◌<◌, Bool, true, false, List, [], ◌∷◌, ◌++◌, refl, length, arith, ◌==◌, ◌&&◌, ap, sym, ◌∙◌}
use Rattle.std.proofs.lemmas.Bool.{eqb-true, eq-eqb}
use Rattle.def_machine.specs.Refs as refs
use Rattle.def_machine.specs.Values.{Value, Name, Object, Spot, Own, Foreign, NoObject, Local, Obj, Prom, Far, Mess, Naming, IsOwn, IsAnswer, IsGift, IsSent, naming, numbering, spot_of, name_of, answer_of, mail_of, local_spot, same_local}
use Rattle.def_machine.specs.State.{Thing, Vat, Done, Gives, Throws, Ejects, Stops, change, dead}
use Rattle.def_machine.specs.Scopes.{Answer}
use Rattle.law_fate.specs.Name.Names.{Bit, Named, Mail, Drew, At, Off, Entered, Owns, Gave}
use Rattle.law_fate.proofs.Name.Facts.{PlaceOk, Also, IsValue, AreValues, AreNouns, answer}
use Rattle.law_fate.proofs.Name.Care.{Care, Under, Giving, Makes, Sound, Ends}
use Rattle.law_fate.proofs.Name.Serves.{served_by}
use Rattle.law_fate.proofs.Name.SameNames.{false_true, reference_is}
use Rattle.law_fate.proofs.Name.CareEval.{good_evaluator, fine_turn_value}
use Rattle.law_never_astray.specs.Things.{There, AnswerThere, ValueThere, EvaluationKeepsThings, ThingsStayThere}

-- ---- how things go on

pub same_long : (n : ℕ) → n ≤ n
same_long n = omega arith

pub end_long : {A : Type 0} (xs : List A) (x : A) → length xs ≤ length (xs ++ x ∷ [])
end_long [] x = omega arith
end_long (y ∷ xs) x = let l : length xs ≤ length (xs ++ x ∷ []) = end_long xs x in omega arith

pub dead_long : {N : Type 0} (n : ℕ) (ts : List (Thing N)) → length ts ≤ length (change dead n ts)
unfolding change
dead_long n [] = omega arith
dead_long zero (t ∷ ts) = omega arith
dead_long (suc n) (t ∷ ts) = let l : length ts ≤ length (change dead n ts) = dead_long n ts in omega arith

-- What is said of names by the count of things: it stays as more come to be, and holds of each object that is there and of each other name that comes to be.
pub record Counted {N W : Type 0} (K : Naming N W) (P : ℕ → Bit N → Type 0) : Type 0 where
  pub up : (m n : ℕ) → m ≤ n → (b : Bit N) → P m b → P n b
  pub alike : (a b : N) → K.same a b ≡ true → a ≡ b
  pub vat : (n h : ℕ) → P n (At h)
  pub off : (n h : ℕ) → P n (Off h)
  pub drew : (n i : ℕ) → P n (Drew i)
  pub gave : (n i : ℕ) → P n (Gave i)
  pub entered : (n : ℕ) (a : N) → P n (Named a) → P n (Entered a)
  pub owned : (n : ℕ) (a : N) (i : ℕ) → P n (Owns a i) → P n (Named a)
  pub owns : (n : ℕ) (a : N) (i : ℕ) → P n (Named a) → P n (Owns a i)
  pub object : (n i : ℕ) → i < n → P n (Named (K.object i))
  pub promise : (n i k : ℕ) → P n (Named (K.made (IsOwn i) k))
  pub answer : (n h : ℕ) (m : N) (k : ℕ) → P n (Mail m) → P n (Named (K.made (IsAnswer h m) k))
  pub gift : (n h i k : ℕ) → P n (Named (K.made (IsGift h i) k))
  pub mail : (n i k : ℕ) → P n (Mail (K.mailed (IsSent i) k))

module _ {N W : Type 0} (K : Naming N W) (P : ℕ → Bit N → Type 0) (counted : Counted K P) where
  -- what is cared for: that it is so of each name that a vat has, by the count of its things
  abbrev pub things : Care N
  things = record {
    ok = λ s. P (length s.things);
    more = λ s. Unit {0};
    rel = λ s t. length s.things ≤ length t.things;
    same = λ s. same_long (length s.things);
    trans = λ s t u h k. omega arith;
    up = λ s t h b k. counted.up (length s.things) (length t.things) h b k;
    here = λ s m. counted.vat (length s.things) s.number;
    near = λ s h k. counted.vat (length s.things) h;
    entered = λ s n h. counted.entered (length s.things) n h;
    owned = λ s n i h. counted.entered (length s.things) n (counted.owned (length s.things) n i h);
    owner = λ s n i h k. counted.owned (length s.things) n i h;
    drew = λ s i h. counted.drew (length s.things) i;
    fuel = λ s n. (same_long (length s.things), λ h. tt);
    told = λ s e n. (same_long (length s.things), λ h. tt);
    activations = λ s. (same_long (length s.things), λ h. tt);
    thing = λ s t. (end_long s.things t, λ h. tt);
    killed = λ s n. (dead_long n s.things, λ h. tt);
    slot = λ s c. (same_long (length s.things), λ h. tt);
    written = λ s n v. (same_long (length s.things), λ h. tt);
    list = λ s vs. (same_long (length s.things), λ h. tt);
  }

  hosted_ok : (c : ℕ) (n : N) (h : ℕ) (b : Bool) → P c (Named n) → PlaceOk (P c) (elim b [ true ↦ refs.Mine n | false ↦ refs.Away h n false ])
  hosted_ok c n h true g = g
  hosted_ok c n h false g = (g, counted.off c h)

  spot_ok : (s : Vat N) (n : N) (p : Spot) → P (length s.things) (Named n) → PlaceOk (P (length s.things)) (refs.spotted K s n p)
  unfolding refs.spotted refs.hosted
  spot_ok s n (Own i) g = tt
  spot_ok s n (Foreign h) g = (g, counted.off (length s.things) h)
  spot_ok s n NoObject g = hosted_ok (length s.things) n (refs.host_at K s.number s.known n) (s.number == refs.host_at K s.number s.known n) g

  pub things_under : Under K things
  things_under = record {
    spots = record { alike = counted.alike; placed = λ s m n g. spot_ok s n (K.spot n) g };
    object = λ s i l. counted.object (length s.things) i l;
    happened = λ s e. (same_long (length s.things), λ h. tt);
    queue = λ s m. (same_long (length s.things), λ h. tt);
    outbox = λ s p g. (same_long (length s.things), λ h. tt);
    opened = λ s p i. (same_long (length s.things), λ h. tt);
    noticed = λ s w. (same_long (length s.things), λ h. tt);
    drawn = λ s w. (same_long (length s.things), λ h. tt, counted.drew (length s.things) _);
    altered = λ s c n a g. (same_long (length s.things), λ h. tt);
    answered = λ s h m g k. (same_long (length s.things), λ h. tt, counted.answer (length s.things) h m (length s.known) g);
  }

  pub things_gives : Giving K things
  things_gives = record {
    gift = λ s g h. (same_long (length s.things), λ h. tt);
    given = λ s h i g k. (same_long (length s.things), λ h. tt, counted.gift (length s.things) h i (length s.known));
    hosted = λ s i m d. (same_long (length s.things), λ h. tt, counted.owns (length s.things) _ i (counted.gift (length s.things) s.number i (length s.known)));
  }

  pub things_makes : Makes K things
  things_makes = record {
    promised = λ s. (same_long (length s.things), λ h. tt, counted.promise (length s.things) s.promises (length s.known));
    messaged = λ s h k. let m = counted.mail (length s.things) s.messages (length s.mails) in (same_long (length s.things), λ h. tt, m, counted.answer (length s.things) h _ (length s.known) m);
    lone = λ s. (same_long (length s.things), λ h. tt, counted.mail (length s.things) s.messages (length s.mails));
  }

-- ---- evaluation

module _ {N W : Type 0} (K : Naming N W) (counted : Counted K (There K)) where
  abbrev S : Care N
  S = things K (There K) counted

  answer_there : (s : Vat N) (d : Done N (Answer N)) → Ends S answer s d → AnswerThere K d
  answer_there s (Gives x t) h = let g = h.1 in (g.parts, h.2.0, h.2.1)
  answer_there s (Throws p t) h = let g = h.1 in g.parts
  answer_there s (Ejects n v t) h = let g = h.1 in (g.parts, h.2)
  answer_there s (Stops c t) h = tt

  value_there : (s : Vat N) (d : Done N (Value N)) → Ends S IsValue s d → ValueThere K d
  value_there s (Throws p t) h = let g = h.1 in g.parts
  value_there s (Stops c t) h = tt
  value_there s other h = let g = h.1 in (g.parts, h.2)

  keeps_things : EvaluationKeepsThings K
  keeps_things tree depth s h =
      let serves = served_by K S (things_under K (There K) counted) (things_makes K (There K) counted) in let good = good_evaluator K S serves tree depth in let g : Sound S s = record { parts = h; more = tt } in (
        λ id here k. answer_there s _ ((good.expression (AreNouns here.nouns) id here (record { at = λ t c. c })).after s g k),
        λ act target verb args k l. value_there s _ ((fine_turn_value K S serves tree {C = Also (IsValue target) (AreValues args)} _ good act target (record { at = λ t c. c.0 }) verb args (record { at = λ t c. c.1 })).after s g (k, l)),
      )

-- ---- under global names and under local numbers

own_is : (i j : ℕ) → Own i ≡ Own j → i ≡ j
own_is i j e = cc

there_up : {N W : Type 0} (K : Naming N W) (m n : ℕ) → m ≤ n → (b : Bit N) → There K m b → There K n b
there_up K m n l (Named a) h = λ i e. let k : i < m = h i e in omega arith
there_up K m n l (Mail a) h = h
there_up K m n l (Entered a) h = λ i e. let k : i < m = h i e in omega arith
there_up K m n l (Owns a j) h = λ i e. let k : i < m = h i e in omega arith
there_up K m n l other h = tt

own_spot : (v i : ℕ) → spot_of v (Object v i) ≡ Own i
unfolding spot_of
own_spot v i = ap (λ b. elim b [ true ↦ Own i | false ↦ Foreign v ]) (eq-eqb v v refl)

object_below : (spot : Spot) (n i j : ℕ) → i < n → spot ≡ Own i → spot ≡ Own j → j < n
object_below spot n i j l e f = let g : i ≡ j = own_is i j (sym e ∙ f) in omega arith

pub named_counted : (word : ℕ → ℕ) (v : ℕ) → Counted (naming word v) (There (naming word v))
unfolding naming spot_of name_of answer_of mail_of
named_counted word v = record {
  up = there_up (naming word v);
  alike = reference_is;
  vat = λ n h. tt;
  off = λ n h. tt;
  drew = λ n i. tt;
  gave = λ n i. tt;
  entered = λ n a h. h;
  owned = λ n a i h. h;
  owns = λ n a i h. h;
  object = λ n i l j e. object_below (spot_of v (Object v i)) n i j l (own_spot v i) e;
  promise = λ n i k j e. cc;
  answer = λ n h m k g j e. absurd (g h k j e);
  gift = λ n h i k j e. cc;
  mail = λ n i k h l j e. cc;
}

both_true : (a b : Bool) → (a && b) ≡ true → (a ≡ true) × (b ≡ true)
both_true true b e = (refl, e)
both_true false b e = absurd (false_true e)

local_is : (a b : Local) → same_local a b ≡ true → a ≡ b
unfolding same_local
local_is (Obj i) (Obj j) e = ap Obj (eqb-true i j e)
local_is (Prom i) (Prom j) e = ap Prom (eqb-true i j e)
local_is (Far h p) (Far g q) e = let both = both_true (h == g) (p == q) e in ap (λ x. Far x p) (eqb-true h g both.0) ∙ ap (Far g) (eqb-true p q both.1)
local_is (Mess i) b e = absurd (false_true e)
local_is other (Mess j) e = absurd (false_true e)
local_is other (Prom j) e = absurd (false_true e)
local_is other (Far h p) e = absurd (false_true e)
local_is other (Obj j) e = absurd (false_true e)

numbered_counted : (word : ℕ → ℕ) → Counted (numbering {W = Name} word) (There (numbering {W = Name} word))
unfolding numbering local_spot
numbered_counted word = record {
  up = there_up (numbering {W = Name} word);
  alike = local_is;
  vat = λ n h. tt;
  off = λ n h. tt;
  drew = λ n i. tt;
  gave = λ n i. tt;
  entered = λ n a h. h;
  owned = λ n a i h. h;
  owns = λ n a i h. h;
  object = λ n i l j e. object_below (Own i) n i j l refl e;
  promise = λ n i k j e. cc;
  answer = λ n h m k g j e. absurd (g h k j e);
  gift = λ n h i k j e. cc;
  mail = λ n i k h l j e. cc;
}

pub things_stay_there : ThingsStayThere
things_stay_there = (λ word v. keeps_things (naming word v) (named_counted word v), λ word. keeps_things (numbering word) (numbered_counted word))
