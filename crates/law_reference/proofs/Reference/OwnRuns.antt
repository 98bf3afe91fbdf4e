-- In every world of a run what a vat has is its own.
use Rattle.std.proofs.Common.{◌≡◌, ℕ, zero, suc, List, [], ◌∷◌, ◌++◌, Some, refl, sym, map, append-nil, ◌+◌, inr, arith}
use Rattle.std.specs.Prelude.{slice_get}
use Rattle.def_machine.specs.Values.{Value, Ref, Name, Root, Sent, host_of}
use Rattle.def_machine.specs.State.{Message, Passed, Passeds, Plain, AGift, Many, NoMore, More, Note, Deliver, Ask, SettledTo, Shorten, Vat, Done, begun, WhereSome}
use Rattle.def_run.specs.Draws.{draw_word}
use Rattle.def_run.specs.World as world
use Rattle.def_run.specs.World.{Script, Program, Entry, World, Goes, names, readied}
use Rattle.law_fate.specs.Name.Names.{AllOf, IsMade, IsMessageMade, IsMessageName, NoteOk, names_in, Once}
use Rattle.law_fate.proofs.Name.Run.{Stands, opened_stands}
use Rattle.law_reference.specs.Reference.Own.{IsOwnMail, IsOwnKnown, Own, WhatAVatHasIsItsOwn}
use Rattle.law_reference.proofs.Reference.Gentle.{AfterGives, GivesBy, gives_by}
use Rattle.law_reference.proofs.Reference.OwnKeeps.{KeepsOwn, Whole}
use Rattle.law_reference.proofs.Reference.OwnTurns.{own_taking, own_opening}
use Rattle.law_reference.proofs.Reference.OwnArrive.{FreeValue, FreePassed, AllFree, NoteFree, own_arrive, own_notice}
use Rattle.law_reference.proofs.Reference.RunLift.{StepsKeep, InVats, steps_keep, opens_keep, all_allowed}

pub message_named : (vats : List (Vat Name)) (m : Name) → IsMessageMade vats m → IsMessageName m
message_named vats (Sent m) h = tt
message_named vats other h = absurd h

-- each host
abbrev pub Each : ℕ → Type 0
Each h = Unit {0}

module _ (word : ℕ → ℕ) (v : ℕ) where
  value_free : (y : Value Name) → FreeValue word v Each y
  value_free (Ref n) = inr tt
  value_free other = tt

  mutual
    passed_free : (y : Passed Name) → FreePassed word v Each y
    passed_free (Plain y) = value_free y
    passed_free (AGift h i) = tt
    passed_free (Many ys) = all_free ys

    all_free : (ys : Passeds Name) → AllFree word v Each ys
    all_free NoMore = tt
    all_free (More y ys) = (passed_free y, all_free ys)

  note_free : (vats : List (Vat Name)) (d : List ℕ) (ks : List Name) (n : Note Name) → NoteOk (IsMade vats d) n → NoteFree word v Each ks n
  note_free vats d ks (Deliver e n verb ys) h = (message_named vats e.message h.0, inr tt, all_free ys)
  note_free vats d ks (Ask p i n) h = tt
  note_free vats d ks (SettledTo n y) h = (inr tt, passed_free y)
  note_free vats d ks (Shorten n c i) h = λ e. inr tt
  note_free vats d ks other h = inr tt

after_own : {A : Type 0} (word : ℕ → ℕ) (v : ℕ) (s : Vat Name) (d : Done Name A) → GivesBy (KeepsOwn word v Each) s d → Whole word v Each s → AfterGives (Whole word v Each) d
after_own word v s d h o = gives_by (KeepsOwn word v Each) (Whole word v Each) s d (λ t k. (k o).0) h

sum_zero : (u : ℕ) → (u + zero) ≡ u
sum_zero u = omega arith

zero_sum : (u : ℕ) → (zero + u) ≡ u
zero_sum u = omega arith

sum_suc : (u n : ℕ) → (u + suc n) ≡ (suc u + n)
sum_suc u n = omega arith

module _ (script : Script) where
  -- each notice is allowed
  abbrev pub Any : ℕ → ℕ → Type 0
  Any v to = Unit {0}

  pub rest_of : (v : ℕ) (s : Vat Name) (m : Message Name) (ms : List (Message Name)) → s.queue ≡ m ∷ ms → AllOf (IsOwnMail v) s.queue → AllOf (IsOwnMail v) ms
  rest_of v s m ms e h = let both : AllOf (IsOwnMail v) (m ∷ ms) = rw e at h in both.1

  pub answer_of_own : (v : ℕ) (s : Vat Name) (m : Message Name) (ms : List (Message Name)) → s.queue ≡ m ∷ ms → AllOf (IsOwnMail v) s.queue → WhereSome (λ a. host_of a ≡ v) m.answer
  answer_of_own v s m ms e h = let both : AllOf (IsOwnMail v) (m ∷ ms) = rw e at h in both.0.1

  abbrev pub InScript : ℕ → Vat Name → Type 0
  InScript v s = Whole (draw_word script.key) v Each s

  pub own_keep : StepsKeep script InScript Any
  unfolding names world.names_of readied host_of
  own_keep = record {
    turn = λ w v s m ms g i q h. let r : Vat Name = readied w (record s { queue = ms }) in after_own (draw_word script.key) v r _ ((own_taking (draw_word script.key) v Each (world.tree_at script.vats v) script.depth m (answer_of_own v s m ms q h.1)).after r) (h.0, rest_of v s m ms q h.1, h.2, h.3, tt, λ u e. tt);
    note = λ w from v s n g i ok h. let r : Vat Name = readied w s in after_own (draw_word script.key) v r _ (own_arrive (draw_word script.key) v Each from r n (note_free (draw_word script.key) v w.vats w.drawn (names_in s.known) n ok)) (h.0, h.1, h.2, h.3, tt, λ u e. tt);
    notice = λ w v to s g i ok h. let r : Vat Name = readied w s in after_own (draw_word script.key) v r _ ((own_notice (draw_word script.key) v Each to).after r) (h.0, h.1, h.2, h.3, tt, λ u e. tt);
    opening = λ w v p s g i h. let r : Vat Name = readied w s in after_own (draw_word script.key) v r _ ((own_opening (draw_word script.key) v Each p.tree script.depth (Root v) (world.given script.vats p.knows) refl).after r) (h.0, h.1, h.2, h.3, tt, λ u e. tt);
  }

  -- ---- the start

  all_of : (P : ℕ → Type 0) (ws : List ℕ) → ((w : ℕ) → P w) → AllOf P ws
  all_of P [] f = tt
  all_of P (w ∷ ws) f = (f w, all_of P ws f)

  roots_own : (v : ℕ) (us : List ℕ) → AllOf (IsOwnKnown v) (map world.known_root us)
  unfolding world.known_root begun host_of
  roots_own v [] = tt
  roots_own v (u ∷ us) = ((refl, tt, tt, tt), roots_own v us)

  fresh_own : (u : ℕ) (p : Program) → InScript u (world.fresh script u p)
  unfolding world.fresh world.known_root begun host_of
  fresh_own u p = (refl, tt, ((refl, tt, tt, all_of (λ (w : ℕ). u ≡ u) (world.knowers u zero script.vats) (λ w. refl)), roots_own u p.knows), tt, tt, λ h e. tt)

  some_same : (a b : Vat Name) → Some a ≡ Some b → a ≡ b
  some_same a b e = cc

  fresh_from_own : (u : ℕ) (ps : List Program) (n : ℕ) (s : Vat Name) → slice_get (world.fresh_from script u ps) n ≡ Some s → InScript (u + n) s
  unfolding world.fresh_from
  fresh_from_own u [] n s e = cc
  fresh_from_own u (p ∷ ps) zero s e = let one : InScript (u + zero) (world.fresh script u p) = rw (sum_zero u) (fresh_own u p) in rw (some_same (world.fresh script u p) s e) at one
  fresh_from_own u (p ∷ ps) (suc n) s e = let rest : InScript (suc u + n) s = fresh_from_own (suc u) ps n s e in rw (sum_suc u n) rest

  pub begins_own : InVats script InScript Any (world.begins script)
  unfolding world.begins
  begins_own v s e = let one : InScript (zero + v) s = fresh_from_own zero script.vats v s e in rw (zero_sum v) at one

  -- ---- the worlds of a run

  module _ (once : (v : ℕ) (p : Program) → slice_get script.vats v ≡ Some p → Once (v ∷ p.knows)) where
    pub begins_stand : Stands script (world.begins script)
    unfolding world.open_from
    begins_stand = opened_stands script once [] script.vats (world.begins script) refl refl

    pub opened_own : (ps rest : List Program) (w : World) → script.vats ≡ ps ++ rest → world.open_from script zero ps (world.begins script) ≡ Goes w → InVats script InScript Any w
    opened_own ps rest w e i = opens_keep script InScript Any own_keep [] ps rest (world.begins script) w e begins_stand begins_own i

    stepped_own : (w x : World) (es : List Entry) (k : ℕ) → world.open_from script zero script.vats (world.begins script) ≡ Goes w → world.steps_from script es k w ≡ Goes x → InVats script InScript Any x
    stepped_own w x es k e i = steps_keep script InScript Any own_keep es k w x (opened_stands script once script.vats [] w (sym (append-nil script.vats)) e) (all_allowed Any (λ v to. tt) es) (opened_own script.vats [] w (sym (append-nil script.vats)) e) i

its_own : (word : ℕ → ℕ) (v : ℕ) (s : Vat Name) → Whole word v Each s → Own v s
its_own word v s h = (h.0, h.1, h.2, h.3)

pub own_in_runs : WhatAVatHasIsItsOwn
own_in_runs script once = (
  λ ps rest w e i v s j. its_own (draw_word script.key) v s (opened_own script once ps rest w e i v s j),
  λ w x es k e i v s j. its_own (draw_word script.key) v s (stepped_own script once w x es k e i v s j),
)
