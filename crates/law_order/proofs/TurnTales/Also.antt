-- What more is kept of a vat in the middle of a turn, and what follows from it where the vat is steady and what it has in hand is known.
use Rattle.std.proofs.Common.{◌≡◌, ℕ, zero, suc, Bool, true, false, List, [], ◌∷◌, Some, refl, sym, subst, inl, inr}
use Rattle.std.specs.Prelude.{slice_get}
use Rattle.def_machine.specs.Values.{Name, Naming}
use Rattle.def_machine.specs.State.{Message, Known, Vat, Gives, Act}
use Rattle.def_machine.specs.Refs.{entry_of}
use Rattle.def_run.specs.World.{Script, Event, World, names}
use Rattle.law_machine.specs.Machine.Laws.{Stays, SameDraws, SettledStays}
use Rattle.law_machine.proofs.Machine.Keeps.{Keeps, IsKept, IsKeptUnder}
use Rattle.law_machine.proofs.Machine.StepLaws.{draws_law, draws_names, settled_law, settled_names}
use Rattle.law_fate.specs.Name.Names.{AllOf, IsAmong, HostIsTrue}
use Rattle.law_fate.proofs.Name.Care.{Sound}
use Rattle.law_fate.proofs.Name.Run as run
use Rattle.law_reference.specs.Reference.Views.{ViewsWait}
use Rattle.law_order.specs.Ordering.Steps.{Ready}
use Rattle.law_order.specs.History.Lines.{was_sent}
use Rattle.law_order.specs.Sending.Came.{Agrees, CameSo}
use Rattle.law_order.specs.Sending.New.{Counted, IsBegun}
use Rattle.law_order.proofs.Sending.Agree.{earlier_states_agree}
use Rattle.law_order.proofs.Sending.Begins.{having_by}
use Rattle.law_order.proofs.Sending.Came.{what_is_had_came}
use Rattle.law_order.proofs.Sending.Passing.{vats_there, can_pass}
use Rattle.law_order.proofs.Sending.Sending.{Around, Having}
use Rattle.law_order.proofs.Sending.Views.{ViewsRest, views_no_list}
use Rattle.law_order.specs.Settling.Holding.{HeldCame, Holds}
use Rattle.law_order.proofs.Settling.Kept.{AllHeld}
use Rattle.law_order.proofs.Steady.Facts as facts
use Rattle.law_order.proofs.Steady.Steady.{Steady, after_at}
use Rattle.law_order.specs.Tales.Middle.{middle}
use Rattle.law_order.proofs.TurnTales.Stays as stays
use Rattle.law_order.proofs.TurnTales.Turning.{T}
use Rattle.law_order.proofs.TurnTales.Views.{rests}

module _ (script : Script) (honest : ℕ → Bool) (w : World) (v : ℕ) (head : List Event) (came : Name → ℕ) (r q : Vat Name) where
  -- Vat v was r, began its step from q with those messages in hand, and came to s.
  pub record Also (s : Vat Name) : Type 0 where
    pub counted : Counted w v came q s
    pub settled : SettledStays (names script v) r s
    pub draws : Stays w.drawn s.drawn
    pub views : ViewsWait (names script v) s.known
    -- what is to react on a name was never sent
    pub unsent : (n : Name) (k : Known Name) → entry_of (names script v) s.known n ≡ Some k → (m : Message Name) → IsAmong m k.reactions → was_sent m.id (middle w v head s).history ≡ false
    -- what a name holds came as the history tells
    pub came_so : AllHeld script honest w v head (CameSo script honest w v head) s

-- ---- what settled, and the words that were drawn

among_place : {A : Type 0} (x : A) (xs : List A) → IsAmong x xs → (i : ℕ) × (slice_get xs i ≡ Some x)
among_place x [] h = absurd h
among_place x (y ∷ ys) (inl e) = (zero, subst (λ z. Some y ≡ Some z) (sym e) refl)
among_place x (y ∷ ys) (inr h) = let k = among_place x ys h in (suc k.0, k.1)

place_among : {A : Type 0} (x : A) (xs : List A) (i : ℕ) → slice_get xs i ≡ Some x → IsAmong x xs
place_among x [] i e = absurd (cc)
place_among x (y ∷ ys) zero e = let same : y ≡ x = cc in inl (sym same)
place_among x (y ∷ ys) (suc i) e = inr (place_among x ys i e)

pub among_stays : (xs ys : List ℕ) → Stays xs ys → (x : ℕ) → IsAmong x xs → IsAmong x ys
among_stays xs ys h x a = let k = among_place x xs a in place_among x ys k.0 (h k.0 x k.1)

module _ (script : Script) (v : ℕ) where
  abbrev K : Naming Name Name
  K = names script v

  -- What every act keeps, this one keeps.
  pub settled_on : {A : Type 0} (m : Act Name A) → (IsKept (SettledStays K) → IsKeptUnder K (SettledStays K) → Keeps (SettledStays K) m) → (r s t : Vat Name) (a : A) → m s ≡ Gives a t → SettledStays K r s → SettledStays K r t
  settled_on m k r s t a e h = let law : IsKept (SettledStays K) = settled_law K in law.trans {s = r} {t = s} {u = t} h (after_at (SettledStays K) s (m s) a t e ((k law (settled_names K)).after s))

  pub draws_on : {A : Type 0} (m : Act Name A) → (IsKept {N = Name} SameDraws → IsKeptUnder K SameDraws → Keeps SameDraws m) → (ds : List ℕ) (s t : Vat Name) (a : A) → m s ≡ Gives a t → Stays ds s.drawn → Stays ds t.drawn
  draws_on m k ds s t a e h i x f = after_at SameDraws s (m s) a t e ((k draws_law (draws_names K)).after s) i x (h i x f)

-- ---- what follows in the middle of a turn

-- What the vat has can pass, where what settled did so still, and what is to react was never sent.
module _ (script : Script) (honest : ℕ → Bool) (w : World) (around : Around script w) (v : ℕ) (head : List Event) (r : Vat Name) (there : slice_get w.vats v ≡ Some r) (s : Vat Name) (ready : Ready script honest w v s) (settled : SettledStays (names script v) r s) (hosts : AllOf HostIsTrue s.known) (draws : Stays w.drawn s.drawn)
    (unsent : (n : Name) (k : Known Name) → entry_of (names script v) s.known n ≡ Some k → (m : Message Name) → IsAmong m k.reactions → was_sent m.id (middle w v head s).history ≡ false) where
  drawn : (x : ℕ) → IsAmong x w.drawn → IsAmong x s.drawn
  drawn x a = among_stays w.drawn s.drawn draws x a

  pub holds_at : Holds script honest w v head s
  holds_at = record {
    ready = ready;
    there = λ x g n i e. vats_there script honest w around.stands around.meet around.far v r there s ready settled hosts drawn x g n i e;
    passes = λ u t f e. can_pass script honest w around.stands around.meet around.far v r there s ready settled hosts drawn u t f e;
    unsent = unsent;
  }

-- of a turn that ends in a vat which agrees with all that the history tells
module _ (script : Script) (honest : ℕ → Bool) (all : (u : ℕ) → honest u ≡ true) (w : World) (around : Around script w) (v : ℕ) (head : List Event) (came : Name → ℕ) (r q : Vat Name) (begins : IsBegun w v head came r q) (there : slice_get w.vats v ≡ Some r) (h : run.Stands script w)
    (c o : Name → ℕ) (s : Vat Name) (sure : Sound (T script w v r there h) s) (steady : Steady script w v c o s) (also : Also script honest w v head came r q s) where
  ready_now : Ready script honest w v s
  ready_now = facts.ready script w v honest c o s steady

  pub views_rest : ViewsRest script v s.known
  views_rest = let kept = sure.more in rests script w v c o s kept.apart steady also.views

  pub holds_of : Holds script honest w v head s
  holds_of = let kept = sure.more in holds_at script honest w around v head r there s ready_now also.settled kept.hosts also.draws also.unsent

  module _ (end : Vat Name) (agrees : Agrees script v end) (later : stays.Stays (names script v) s end) where
    agrees_now : Agrees script v s
    agrees_now = earlier_states_agree script v s end later.lists later.settled agrees

    pub having_of : Having script honest all w around v head came r q begins s
    having_of = let parts = sure.parts in having_by script honest all w around v head came r q begins s ((T script w v r there h).ok s) (λ b i. i.1) parts.lists sure.more ready_now agrees_now views_rest also.settled (λ x a. among_stays w.drawn s.drawn also.draws x a)

    -- each message that a name holds, with what the vat has for its arguments
    pub came_of : HeldCame script honest w v head s
    came_of n k e m i = let a = also.came_so n k e m i in let having = having_of in record {
      coming = a.coming;
      came = a.came;
      args = λ u d done told. what_is_had_came script honest w v u s agrees_now (views_no_list script v s views_rest) having.members a.coming.args m.args a.had a.held d done told;
    }
