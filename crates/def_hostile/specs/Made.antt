-- The names of gifts where no log of notes is kept: which gifts draws made, and which frames named before.
use Rattle.std.specs.Prelude.{ℕ, Bool, true, false, List, [], ◌∷◌, ◌++◌, ◌||◌}
use Rattle.def_machine.specs.Values.{Local, Name, Root, Object, Promise, Answer, Gift, Sent}
use Rattle.def_machine.specs.State.{Passed, Passeds, Plain, AGift, Many, NoMore, More, Note, Deliver, Open, Ask, SettledTo, Elsewhere, Shorten, Put}
use Rattle.def_machine.specs.Maps as maps
use Rattle.def_run.specs.Marks.{base, spelled_out}
use Rattle.def_hostile.specs.Claims.{Claim, is_claimed}
use Rattle.def_hostile.specs.Claims.{opened_claims}

-- ---- what draws made

-- A gift that a vat made by a draw is opened by it, or asked to be shortened to.
unfoldable pub made_in : ℕ → Note Local → List Claim
made_in to (Open i n) = record { host = to; number = i } ∷ []
made_in to (Shorten n c i) = record { host = c; number = i } ∷ []
made_in to (Deliver d n verb ys) = []
made_in to (Ask p i n) = []
made_in to (SettledTo n y) = []
made_in to (Elsewhere n c) = []

unfoldable pub made_by : List (Put Local) → List Claim
made_by [] = []
made_by (p ∷ ps) = made_in p.to p.note ++ made_by ps

-- each gift stands there once
unfoldable pub with_gifts : List Claim → List Claim → List Claim
with_gifts [] cs = cs
with_gifts (g ∷ gs) cs = with_gifts gs (elim (is_claimed cs g.host g.number) [ true ↦ cs | false ↦ cs ++ g ∷ [] ])

-- ---- claims, where draws made these gifts

module _ (made : List Claim) where
  unfoldable pub is_named : List Claim → Claim → Bool
  is_named cs g = is_claimed cs g.host g.number || is_claimed made g.host g.number

  -- a gift is claimed where it has no name yet
  unfoldable pub claim_all : List Claim → List Claim → List Claim
  claim_all [] cs = cs
  claim_all (g ∷ gs) cs = claim_all gs (elim (is_named cs g) [ true ↦ cs | false ↦ cs ++ g ∷ [] ])

  -- a gift without a name, in a line that gives it none
  unfoldable pub unnamed_gift : ℕ → ℕ → Bool → Passed Name
  unnamed_gift h i true = AGift h i
  unnamed_gift h i false = AGift h (spelled_out i)

  unfoldable pub unnamed_key : ℕ → Bool → ℕ
  unnamed_key i true = i
  unnamed_key i false = spelled_out i

  -- and one that the frame, or the vat that it comes to, names again
  unfoldable pub unnamed_again : List Claim → Name → Name
  unnamed_again cs (Gift h i) = Gift h (unnamed_key i (is_named cs (record { host = h; number = base i })))
  unnamed_again cs (Root v) = Root v
  unnamed_again cs (Object v i) = Object v i
  unnamed_again cs (Promise v i) = Promise v i
  unnamed_again cs (Answer h m) = Answer h m
  unnamed_again cs (Sent m) = Sent m

  unfoldable mutual
    pub unnamed_passed : List Claim → Passed Name → Passed Name
    unnamed_passed cs (Plain y) = Plain (maps.value (unnamed_again cs) y)
    unnamed_passed cs (AGift h i) = unnamed_gift h i (is_named cs (record { host = h; number = i }))
    unnamed_passed cs (Many ys) = Many (unnamed_all cs ys)

    pub unnamed_all : List Claim → Passeds Name → Passeds Name
    unnamed_all cs NoMore = NoMore
    unnamed_all cs (More y ys) = More (unnamed_passed cs y) (unnamed_all cs ys)

  unfoldable pub unnamed : List Claim → Note Name → Note Name
  unnamed cs (SettledTo n y) = SettledTo n (unnamed_passed cs y)
  unnamed cs (Deliver d n verb ys) = Deliver d n verb ys
  unnamed cs (Open i n) = Open i n
  unnamed cs (Ask p i n) = Ask p i n
  unnamed cs (Elsewhere n c) = Elsewhere n c
  unnamed cs (Shorten n c i) = Shorten n c i

-- opens each definition of this file, and of those below
unfoldable pub opened_made : Unit {0}
unfolding made_in made_by with_gifts is_named claim_all unnamed_gift unnamed_key unnamed_again unnamed_passed unnamed_all unnamed opened_claims
opened_made = tt
