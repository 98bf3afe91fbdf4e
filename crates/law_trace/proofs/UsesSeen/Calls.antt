-- What calls give back, where events have other names.
use Rattle.std.proofs.Common.{◌≡◌, ◌↔◌, ◌==◌, ℕ, Bool, true, false, if◌then◌else◌, List, [], ◌∷◌, drop, unwrap_or, refl, sym, ap, subst, ◌∙◌}
use Rattle.ev_base.specs.declared.names.Name.{Name}
use Rattle.def_event.specs.declared.shown.Shown.{Shown}
use Rattle.def_event.specs.declared.event.Event.{Event}
use Rattle.def_event.specs.declared.event.Called.{Called}
use Rattle.def_event.specs.declared.event.Event.TheVariants.{Frame, Call, Back, Thrown, Gone}
use Rattle.def_event.specs.Uses.{Audition, Line, OpenCall, IsTold, place_of, name_of, calls_after, open_calls, AsksAudition, GivesBack, BackKnown}
use Rattle.law_trace.proofs.UsesSeen.Same.{either, some_of, some_to, test_same}
use Rattle.law_trace.proofs.UsesSeen.Renaming.{Renaming, IsRenaming, AreLines, none, one, silent, called, line, event}
use Rattle.law_trace.proofs.UsesSeen.Facts.{told_same}
use Rattle.law_trace.proofs.UsesSeen.Following.{followed_there, followed_image}
use Rattle.law_trace.proofs.UsesSeen.Knowing.{knows_same}

-- calls that have not ended are those of before, each with such lines before it
pub data AreCalls (r : Renaming) : List OpenCall → List OpenCall → Type 0 where
  no_call : AreCalls r [] []
  one_call : (calls later : List OpenCall) (call : Called) (before after : List Line) → AreLines r before after → AreCalls r calls later
      → AreCalls r (record { call = call; before = before } ∷ calls) (record { call = called r call; before = after } ∷ later)

module _ (r : Renaming) (good : IsRenaming r) where
  -- ---- calls that have not ended

  fewer : (calls later : List OpenCall) → AreCalls r calls later → AreCalls r (drop 1 calls) (drop 1 later)
  fewer calls later no_call = no_call
  fewer calls later (one_call cs ds c before after is rest) = rest

  chosen : (b c : Bool) (xs ys us vs : List OpenCall) → c ≡ b → AreCalls r xs us → AreCalls r ys vs → AreCalls r (if b then xs else ys) (if c then us else vs)
  chosen b c xs ys us vs same x y = subst (λ (t : Bool). AreCalls r (if b then xs else ys) (if t then us else vs)) (sym same) (by b)
    where
      by : (t : Bool) → AreCalls r (if t then xs else ys) (if t then us else vs)
      by true = x
      by false = y

  ended : (a b : ℕ) (calls later : List OpenCall) → AreCalls r calls later → AreCalls r (if b == a then drop 1 calls else calls) (if b == a then drop 1 later else later)
  ended a b calls later rest = chosen (b == a) (b == a) (drop 1 calls) calls (drop 1 later) later refl (fewer calls later rest) rest

  after_same : (past q : List Line) → AreLines r past q → (e : Event) (a : ℕ) (calls later : List OpenCall) → AreCalls r calls later → AreCalls r (calls_after past e a calls) (calls_after q (event r e) a later)
  unfolding calls_after
  after_same past q is (Call c) a calls later rest =
      chosen (c.activation == a) (c.activation == a) (record { call = c; before = past } ∷ calls) calls (record { call = called r c; before = q } ∷ later) later refl (one_call calls later c past q is rest) rest
  after_same past q is (Back b x) a calls later rest = ended a b calls later rest
  after_same past q is (Thrown b x) a calls later rest = ended a b calls later rest
  after_same past q is (Gone b) a calls later rest = ended a b calls later rest
  after_same past q is e a calls later rest = rest

  quiet_calls : (past : List Line) (bytes : List ℕ) (a : ℕ) (calls : List OpenCall) → calls_after past (Frame bytes) a calls ≡ calls
  unfolding calls_after
  quiet_calls past bytes a calls = refl

  open_calls_are : (past later : List Line) → AreLines r past later → (at a : ℕ) → AreCalls r (open_calls past at a) (open_calls later (r.place at) a)
  open_calls_are past later none at a = no_call
  open_calls_are past later (one p q l is) at a =
      let rest : AreCalls r (open_calls p at a) (open_calls q (r.place at) a) = open_calls_are p q is at a in
      chosen (l.at == at) (r.place l.at == r.place at) (calls_after p l.event a (open_calls p at a)) (open_calls p at a) (calls_after q (event r l.event) a (open_calls q (r.place at) a)) (open_calls q (r.place at) a)
      (test_same r.place good.places_apart l.at at) (after_same p q is l.event a (open_calls p at a) (open_calls q (r.place at) a) rest) rest
  open_calls_are past later (silent p q bytes is) at a =
      let rest : AreCalls r (open_calls p at a) (open_calls q (r.place at) a) = open_calls_are p q is at a in
      unless (place_of p == at) (calls_after p (Frame bytes) a (open_calls p at a)) (open_calls p at a) (quiet_calls p bytes a (open_calls p at a)) rest
    where
      unless : (b : Bool) (x y : List OpenCall) → x ≡ y → AreCalls r y (open_calls q (r.place at) a) → AreCalls r (if b then x else y) (open_calls q (r.place at) a)
      unless true x y same rest = subst (λ (cs : List OpenCall). AreCalls r cs (open_calls q (r.place at) a)) (sym same) rest
      unless false x y same rest = rest

  -- ---- what they give back

  asks_same : (at : ℕ) (c : Called) (before after : List Line) → AreLines r before after → AsksAudition (r.place at) (record { call = called r c; before = after }) ↔ AsksAudition at (record { call = c; before = before })
  asks_same at c before after is = (
    λ x.
        let n = some_of r.name (name_of c.target) (name_of (r.value c.target)) x.1 (good.as_name c.target) x.3 in
        let o = followed_image r good before after is at x.1 x.2 x.4 n.0 n.2 in
        let told : IsTold after (Audition (r.name o.0)) = subst (λ (m : Name). IsTold after (Audition m)) (sym o.2) x.5 in
        (x.0, n.0, o.0, n.1, o.1, (told_same r good before after is (Audition o.0)).0 told),
    λ x. (
      x.0,
      r.name x.1,
      r.name x.2,
      some_to r.name (name_of c.target) (name_of (r.value c.target)) x.1 (good.as_name c.target) x.3,
      followed_there r good before after is at x.1 x.2 x.4,
      (told_same r good before after is (Audition x.2)).1 x.5,
    ),
  )

  gives_same : (past later : List Line) → AreLines r past later → (at a : ℕ) (n : Name) (calls more : List OpenCall) → AreCalls r calls more → GivesBack later (r.place at) a (r.name n) more ↔ GivesBack past at a n calls
  gives_same past later is at a n calls more no_call = knows_same r good past later is at a n
  gives_same past later is at a n calls more (one_call cs ds c before after are rest) = either (knows_same r good past later is at (unwrap_or c.begun a) n) (asks_same at c before after are)

  back_image : (e : Event) (a : ℕ) (y : Shown) → event r e ≡ Back a y → (x : Shown) × (e ≡ Back a x) × (r.value x ≡ y)
  back_image (Back b x) a y e = let same : b ≡ a = cc in (x, ap (λ (n : ℕ). Back n x) same, cc)
  back_image e a y h = absurd cc

  module _ (past later : List Line) (is : AreLines r past later) (l : Line) where
    given_back : (a : ℕ) (n : Name) → GivesBack later (r.place l.at) a (r.name n) (open_calls later (r.place l.at) a) ↔ GivesBack past l.at a n (open_calls past l.at a)
    given_back a n = gives_same past later is l.at a n (open_calls past l.at a) (open_calls later (r.place l.at) a) (open_calls_are past later is l.at a)

    pub backs_same : BackKnown later (line r l) ↔ BackKnown past l
    backs_same = (
      λ all a x n here named. (given_back a n).0 (all a (r.value x) (r.name n) (ap (event r) here) (some_to r.name (name_of x) (name_of (r.value x)) n (good.as_name x) named)),
      λ all a y n here named.
          let b = back_image l.event a y here in
          let m = some_of r.name (name_of b.0) (name_of (r.value b.0)) n (good.as_name b.0) (ap name_of b.2 ∙ named) in
          subst (λ (k : Name). GivesBack later (r.place l.at) a k (open_calls later (r.place l.at) a)) m.2 ((given_back a m.0).1 (all a b.0 m.0 b.1 m.1)),
    )
