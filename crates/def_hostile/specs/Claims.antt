-- The gifts that frames name before a draw makes them, which print by their words.
use Rattle.std.specs.Prelude.{ℕ, Bool, true, false, List, [], ◌∷◌, ◌++◌, ◌==◌, ◌&&◌, ◌||◌}
use Rattle.def_machine.specs.Values.{Prim, Name, Root, Object, Promise, Answer, Gift, Sent}
use Rattle.def_machine.specs.State.{Passed, Passeds, Plain, AGift, Many, NoMore, More, Note, Deliver, Open, Ask, SettledTo, Elsewhere, Shorten, is_in}
use Rattle.def_machine.specs.Maps as maps
use Rattle.def_run.specs.Marks.{base, spelled_out}
use Rattle.def_run.specs.World.{Link, Event, Opens, Turned, Idle, Carried, CutAt, NoticedAt, Here, LostCut, LeftQueue, LeftHeld, LeftWait, LeftLink, Ends}
use Rattle.def_run.specs.Marks.{opened_marks}
use Rattle.def_run.specs.World.{opened_world}

-- a gift by its host and its key
pub record Claim : Type 0 where
  pub host : ℕ
  pub number : ℕ

unfoldable pub is_claim : ℕ → ℕ → Claim → Bool
is_claim h i c = (c.host == h) && (c.number == i)

unfoldable pub is_claimed : List Claim → ℕ → ℕ → Bool
is_claimed [] h i = false
is_claimed (c ∷ cs) h i = elim (is_claim h i c) [ true ↦ true | false ↦ is_claimed cs h i ]

-- ---- the gifts that a note names, from left to right

unfoldable mutual
  pub gifts_in_passed : Passed Name → List Claim
  gifts_in_passed (Plain y) = []
  gifts_in_passed (AGift h i) = record { host = h; number = i } ∷ []
  gifts_in_passed (Many ys) = gifts_in_all ys

  pub gifts_in_all : Passeds Name → List Claim
  gifts_in_all NoMore = []
  gifts_in_all (More y ys) = gifts_in_passed y ++ gifts_in_all ys

-- of a note to vat u
unfoldable pub gifts_in : ℕ → Note Name → List Claim
gifts_in u (Deliver d n verb ys) = gifts_in_all ys
gifts_in u (Open i n) = record { host = u; number = i } ∷ []
gifts_in u (Ask p i n) = record { host = u; number = i } ∷ []
gifts_in u (SettledTo n y) = gifts_in_passed y
gifts_in u (Elsewhere n c) = []
gifts_in u (Shorten n c i) = record { host = c; number = i } ∷ []

-- ---- what draws made

-- A gift that an honest vat made by a draw was opened by it, or asked to be shortened to.
unfoldable pub makes : ℕ → ℕ → ℕ → Note Name → Bool
makes h i to (Open j n) = (to == h) && (j == i)
makes h i to (Shorten n c j) = (c == h) && (j == i)
makes h i to (Deliver d n verb ys) = false
makes h i to (Ask p j n) = false
makes h i to (SettledTo n y) = false
makes h i to (Elsewhere n c) = false

unfoldable pub made_in : ℕ → ℕ → ℕ → List (Note Name) → Bool
made_in h i to [] = false
made_in h i to (n ∷ ns) = elim (makes h i to n) [ true ↦ true | false ↦ made_in h i to ns ]

unfoldable pub made_on : ℕ → ℕ → Bool → Link → Bool
made_on h i true l = false
made_on h i false l = made_in h i l.to l.log

unfoldable pub is_made : List ℕ → ℕ → ℕ → List Link → Bool
is_made hostile h i [] = false
is_made hostile h i (l ∷ ls) = elim (made_on h i (is_in l.from hostile) l) [ true ↦ true | false ↦ is_made hostile h i ls ]

-- ---- claims

module _ (hostile : List ℕ) (ls : List Link) where
  -- a gift is claimed where it has no name yet
  unfoldable pub is_named : List Claim → Claim → Bool
  is_named cs g = is_claimed cs g.host g.number || is_made hostile g.host g.number ls

  unfoldable pub claim_all : List Claim → List Claim → List Claim
  claim_all [] cs = cs
  claim_all (g ∷ gs) cs = claim_all gs (elim (is_named cs g) [ true ↦ cs | false ↦ cs ++ g ∷ [] ])

  -- a gift without a name, in a line that gives it none
  unfoldable pub unnamed_gift : ℕ → ℕ → Bool → Passed Name
  unnamed_gift h i true = AGift h i
  unnamed_gift h i false = AGift h (spelled_out i)

  unfoldable pub unnamed_key : ℕ → Bool → ℕ
  unnamed_key i true = i
  unnamed_key i false = spelled_out i

  -- and one that the frame, or the vat that it comes to, names again
  unfoldable pub unnamed_again : List Claim → Name → Name
  unnamed_again cs (Gift h i) = Gift h (unnamed_key i (is_named cs (record { host = h; number = base i })))
  unnamed_again cs (Root v) = Root v
  unnamed_again cs (Object v i) = Object v i
  unnamed_again cs (Promise v i) = Promise v i
  unnamed_again cs (Answer h m) = Answer h m
  unnamed_again cs (Sent m) = Sent m

  unfoldable mutual
    pub unnamed_passed : List Claim → Passed Name → Passed Name
    unnamed_passed cs (Plain y) = Plain (maps.value (unnamed_again cs) y)
    unnamed_passed cs (AGift h i) = unnamed_gift h i (is_named cs (record { host = h; number = i }))
    unnamed_passed cs (Many ys) = Many (unnamed_all cs ys)

    pub unnamed_all : List Claim → Passeds Name → Passeds Name
    unnamed_all cs NoMore = NoMore
    unnamed_all cs (More y ys) = More (unnamed_passed cs y) (unnamed_all cs ys)

  unfoldable pub unnamed : List Claim → Note Name → Note Name
  unnamed cs (SettledTo n y) = SettledTo n (unnamed_passed cs y)
  unnamed cs (Deliver d n verb ys) = Deliver d n verb ys
  unnamed cs (Open i n) = Open i n
  unnamed cs (Ask p i n) = Ask p i n
  unnamed cs (Elsewhere n c) = Elsewhere n c
  unnamed cs (Shorten n c i) = Shorten n c i

-- ---- what is claimed prints by its word

module _ (cs : List Claim) where
  unfoldable pub spelled_if : ℕ → Bool → ℕ
  spelled_if i true = spelled_out i
  spelled_if i false = i

  -- the key of a gift at that host, as it prints
  unfoldable pub spelled_key : ℕ → ℕ → ℕ
  spelled_key h i = spelled_if i (is_claimed cs h (base i))

  unfoldable pub spelled : Name → Name
  spelled (Gift h i) = Gift h (spelled_key h i)
  spelled (Root v) = Root v
  spelled (Object v i) = Object v i
  spelled (Promise v i) = Promise v i
  spelled (Answer h m) = Answer h m
  spelled (Sent m) = Sent m

  unfoldable mutual
    pub spelled_passed : Passed Name → Passed Name
    spelled_passed (Plain y) = Plain (maps.value spelled y)
    spelled_passed (AGift h i) = AGift h (spelled_key h i)
    spelled_passed (Many ys) = Many (spelled_all ys)

    pub spelled_all : Passeds Name → Passeds Name
    spelled_all NoMore = NoMore
    spelled_all (More y ys) = More (spelled_passed y) (spelled_all ys)

  -- of a note to vat u
  unfoldable pub spelled_note : ℕ → Note Name → Note Name
  spelled_note u (Deliver d n verb ys) = Deliver d (spelled n) verb (spelled_all ys)
  spelled_note u (Open i n) = Open (spelled_key u i) (spelled n)
  spelled_note u (Ask p i n) = Ask p i (spelled n)
  spelled_note u (SettledTo n y) = SettledTo (spelled n) (spelled_passed y)
  spelled_note u (Elsewhere n c) = Elsewhere (spelled n) c
  spelled_note u (Shorten n c i) = Shorten (spelled n) c (spelled_key c i)

  unfoldable pub spelled_event : Event → Event
  spelled_event (Opens v) = Opens v
  spelled_event (Turned k v) = Turned k v
  spelled_event (Idle k) = Idle k
  spelled_event (Carried k v w n bytes) = Carried k v w (spelled_note w n) bytes
  spelled_event (CutAt k v w) = CutAt k v w
  spelled_event (NoticedAt k v w) = NoticedAt k v w
  spelled_event (Here v e) = Here v (maps.line spelled e)
  spelled_event (LostCut m) = LostCut m
  spelled_event (LeftQueue v m) = LeftQueue v m
  spelled_event (LeftHeld v n m) = LeftHeld v (spelled n) m
  spelled_event (LeftWait v n m) = LeftWait v (spelled n) m
  spelled_event (LeftLink v w n) = LeftLink v w (spelled_note w n)
  spelled_event Ends = Ends

-- opens each definition of this file, and of those below
unfoldable pub opened_claims : Unit {0}
unfolding is_claim is_claimed gifts_in_passed gifts_in_all gifts_in makes made_in made_on is_made is_named claim_all unnamed_gift unnamed_key unnamed_again unnamed_passed unnamed_all unnamed spelled_if spelled_key spelled spelled_passed spelled_all spelled_note spelled_event opened_marks opened_world
opened_claims = tt
