-- What activations know, and what lines use, where events have other names.
use Rattle.std.proofs.Common.{◌≡◌, ◌↔◌, ◌⊎◌, ◌==◌, ◌&&◌, ◌||◌, ℕ, Bool, true, List, [], ◌∷◌, map, Some, option_map, refl, sym, ap, subst, codes, bytes_eq}
use Rattle.std.proofs.lemmas.List.{length-map}
use Rattle.ev_base.specs.declared.names.Name.{Name}
use Rattle.def_event.specs.declared.shown.Shown.{Shown}
use Rattle.def_event.specs.declared.event.Event.{Event}
use Rattle.def_event.specs.declared.event.Called.{Called}
use Rattle.def_event.specs.declared.event.Event.TheVariants.{Call, Wrote, List as ListMade, Made as ObjectMade, Send, SendOnly, When, Done}
use Rattle.def_event.specs.Uses.{Thing, AName, AList, Activation, Opened, Given, Captured, Line, IsAmong, IsTold, is_root, Has, IsOpenAt, KnowsName, Runs, names, names_of, is_guarding, receivers, names_used, user, made_by, UsesKnown}
use Rattle.law_trace.proofs.UsesSeen.Same.{alike, among_same, both, either, if_same, image, joined, some_same, through}
use Rattle.law_trace.proofs.UsesSeen.Renaming.{Renaming, IsRenaming, AreLines, values, called, line, event, thing, activation}
use Rattle.law_trace.proofs.UsesSeen.Facts.{told_same}
use Rattle.law_trace.proofs.UsesSeen.Reaching.{open_same, reach_same}
use Rattle.law_trace.proofs.UsesSeen.Following.{runs_there, runs_image}

module _ (r : Renaming) (good : IsRenaming r) where
  -- ---- what is known

  root_same : (t : Thing) → is_root (thing r t) ≡ is_root t
  unfolding is_root
  root_same (AName n) = good.roots n
  root_same (AList v n) = refl

  module _ (past later : List Line) (is : AreLines r past later) where
    captured_same : (a : Activation) (t : Thing)
        → ((o : Name) × Runs later (activation r a) o × IsTold later (Captured o (thing r t))) ↔ ((o : Name) × Runs past a o × IsTold past (Captured o t))
    captured_same a t = (
      λ x.
          let m = runs_image r good past later is a x.0 x.1 in
          (m.0, m.1, (told_same r good past later is (Captured m.0 t)).0 (subst (λ (o : Name). IsTold later (Captured o (thing r t))) (sym m.2) x.2)),
      λ x. (r.name x.0, runs_there r good past later is a x.0 x.1, (told_same r good past later is (Captured x.0 t)).1 x.2),
    )

    has_same : (a : Activation) (t : Thing) → Has later (activation r a) (thing r t) ↔ Has past a t
    has_same a t =
        either (both (alike (λ (b : Bool). b ≡ true) (is_root (thing r t)) (is_root t) (root_same t)) (told_same r good past later is (Opened a)))
        (either (told_same r good past later is (Given a t)) (captured_same a t))

    pub knows_same : (at a : ℕ) (n : Name) → KnowsName later (r.place at) a (r.name n) ↔ KnowsName past at a n
    knows_same at a n =
        let who : Activation = record { at = at; number = a } in
        reach_same r good past later is (Has past who) (Has later (activation r who)) (IsOpenAt at) (IsOpenAt (r.place at)) (has_same who) (open_same r good at) (AName n)

  -- ---- what lines use

  names_same : (xs : List Shown) → names (values r xs) ≡ map r.name (names xs)
  names_same [] = refl
  names_same (x ∷ xs) = joined r.name (names_of x) (names xs) (names_of (r.value x)) (names (values r xs)) (good.as_names x) (names_same xs)

  guarding_same : (c : Called) → is_guarding (called r c) ≡ is_guarding c
  guarding_same c = ap (λ (n : ℕ). (bytes_eq c.verb (codes "coerce") && (n == 2)) || (bytes_eq c.verb (codes "audit") && (n == 1))) (length-map c.args r.value)

  receivers_same : (c : Called) → receivers (called r c) ≡ map r.name (receivers c)
  receivers_same c = if_same (map r.name) (is_guarding c) (is_guarding (called r c)) [] (names_of c.target) [] (names_of (r.value c.target)) (guarding_same c) refl (good.as_names c.target)

  pub names_used_same : (e : Event) → names_used (event r e) ≡ map r.name (names_used e)
  unfolding names_used
  names_used_same (Call c) = joined r.name (receivers c) (names c.args) (receivers (called r c)) (names (values r c.args)) (receivers_same c) (names_same c.args)
  names_used_same (ListMade a l xs) = names_same xs
  names_used_same (ObjectMade o) = joined r.name (names o.caps) (names o.stamps) (names (values r o.caps)) (names (values r o.stamps)) (names_same o.caps) (names_same o.stamps)
  names_used_same (Send m) = names_same (m.target ∷ m.args)
  names_used_same (SendOnly m) = names_same (m.target ∷ m.args)
  names_used_same (When w) = joined r.name (names_of w.value) (names_of w.reaction) (names_of (r.value w.value)) (names_of (r.value w.reaction)) (good.as_names w.value) (good.as_names w.reaction)
  names_used_same (Wrote a s x) = good.as_names x
  names_used_same (Done a x) = good.as_names x
  names_used_same e = refl

  user_same : (e : Event) → user (event r e) ≡ user e
  unfolding user
  user_same (Call c) = refl
  user_same e = refl

  made_by_same : (e : Event) → made_by (event r e) ≡ option_map r.name (made_by e)
  unfolding made_by
  made_by_same (ObjectMade o) = good.as_name o.object
  made_by_same e = refl

  -- the line makes the name, or who uses it knows it
  abbrev MayUse : List Line → Line → Name → Type 0
  MayUse past l n = (made_by l.event ≡ Some n) ⊎ KnowsName past l.at (user l.event) n

  module _ (past later : List Line) (is : AreLines r past later) (l : Line) where
    may_use_same : (n : Name) → MayUse later (line r l) (r.name n) ↔ MayUse past l n
    may_use_same n =
        let known = knows_same past later is l.at (user l.event) n in
        either (some_same r.name good.names_apart (made_by l.event) (made_by (event r l.event)) n (made_by_same l.event))
        (through (alike (λ (a : ℕ). KnowsName later (r.place l.at) a (r.name n)) (user (event r l.event)) (user l.event) (user_same l.event)) known)

    pub uses_same : UsesKnown later (line r l) ↔ UsesKnown past l
    uses_same = (
      λ all n i. (may_use_same n).0 (all (r.name n) ((among_same r.name good.names_apart n (names_used l.event) (names_used (event r l.event)) (names_used_same l.event)).1 i)),
      λ all n i.
          let m = image r.name (names_used l.event) n (subst (IsAmong n) (names_used_same l.event) i) in
          subst (MayUse later (line r l)) m.2 ((may_use_same m.0).1 (all m.0 m.1)),
    )
