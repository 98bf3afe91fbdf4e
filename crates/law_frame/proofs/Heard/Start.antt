-- What vats have in numbers for each other at the start.
use Rattle.std.proofs.Common.{◌≡◌, ℕ, zero, suc, Bool, true, false, List, [], ◌∷◌, ◌++◌, Option, Some, refl, sym, ap, subst, ◌∙◌, length, append_assoc, ◌==◌}
use Rattle.std.specs.Prelude.{slice_get}
use Rattle.def_machine.specs.Values.{Name}
use Rattle.def_run.specs.Wire.{Connected, connected_at, connects}
use Rattle.def_run.specs.World as world
use Rattle.def_run.specs.World.{Script, Program, Link, link_at, is_link}
use Rattle.law_fate.proofs.Name.Among.{length_end}
use Rattle.law_reference.specs.Reference.Logs as wire
use Rattle.law_reference.proofs.Reference.Moves.{get_mid}
use Rattle.law_frame.proofs.Frame.Places.{connected_ends}
use Rattle.law_frame.proofs.Heard.Kept.{AreKept, Kept}
use Rattle.law_frame.proofs.Heard.Steps.{Asked, AllKept}

module _ (all : List Program) where
  -- a link and a connection between the same two vats, of which both programs tell
  pub record Fresh (l : Link) (c : Connected) : Type 0 where
    pub from : l.from ≡ c.from
    pub to : l.to ≡ c.to
    pub quiet : (l.notes ≡ []) × (l.log ≡ []) × (c.written ≡ []) × (c.heard ≡ zero) × (c.tables.questions ≡ []) × (c.tables.answers ≡ [])
    pub here : (p : Program) × (slice_get all c.from ≡ Some p) × (c.tables.imports ≡ world.roots_for c.to p)
    pub there : (q : Program) × (slice_get all c.to ≡ Some q) × (c.tables.exports ≡ world.roots_for c.from q) × (l.roots ≡ world.roots_for l.from q)

  -- so one by one
  abbrev pub Match : List Link → List Connected → Type 0
  Match [] [] = Unit {0}
  Match (l ∷ ls) (c ∷ cs) = Fresh l c × Match ls cs
  Match [] (c ∷ cs) = ⊥
  Match (l ∷ ls) [] = ⊥

  join : (ls ks : List Link) (cs ds : List Connected) → Match ls cs → Match ks ds → Match (ls ++ ks) (cs ++ ds)
  join [] ks [] ds h k = k
  join (l ∷ ls) ks (c ∷ cs) ds h k = (h.0, join ls ks cs ds h.1 k)
  join [] ks (c ∷ cs) ds h k = absurd h
  join (l ∷ ls) ks [] ds h k = absurd h

  to_or : (b : Bool) (l : Link) (c : Connected) (ls : List Link) (cs : List Connected) → Fresh l c → Match ls cs → Match (elim b [ true ↦ ls | false ↦ l ∷ ls ]) (elim b [ true ↦ cs | false ↦ c ∷ cs ])
  to_or true l c ls cs h k = k
  to_or false l c ls cs h k = (h, k)

  more_end : (front : List Program) (p : Program) (rest : List Program) → front ++ p ∷ rest ≡ (front ++ p ∷ []) ++ rest
  more_end front p rest = sym (append_assoc front (p ∷ []) rest)

  at_mid : (front : List Program) (p : Program) (rest : List Program) (v : ℕ) → all ≡ front ++ p ∷ rest → v ≡ length front → slice_get all v ≡ Some p
  at_mid front p rest v e f = ap (λ ps. slice_get ps v) e ∙ ap (λ (i : ℕ). slice_get (front ++ p ∷ rest) i) f ∙ get_mid front p rest

  to_match : (v : ℕ) (p : Program) → slice_get all v ≡ Some p → (front ps : List Program) (w : ℕ) → all ≡ front ++ ps → w ≡ length front → Match (world.links_to v w ps) (world.connections_to v p w ps)
  unfolding world.links_to world.connections_to world.first_connection
  to_match v p there front [] w e f = tt
  to_match v p there front (q ∷ ps) w e f = to_or (v == w) _ _ (world.links_to v (suc w) ps) (world.connections_to v p (suc w) ps)
      (record { from = refl; to = refl; quiet = (refl, refl, refl, refl, refl, refl); here = (p, there, refl); there = (q, at_mid front q ps w e f, refl, refl) })
      (to_match v p there (front ++ q ∷ []) ps (suc w) (e ∙ more_end front q ps) (ap suc f ∙ sym (length_end front q)))

  pub from_match : (front ps : List Program) (v : ℕ) → all ≡ front ++ ps → v ≡ length front → Match (world.links_from all v ps) (world.connections_from all v ps)
  unfolding world.links_from world.connections_from
  from_match front [] v e f = tt
  from_match front (p ∷ ps) v e f = join (world.links_to v zero all) (world.links_from all (suc v) ps) (world.connections_to v p zero all) (world.connections_from all (suc v) ps) (to_match v p (at_mid front p ps v e f) [] all zero refl refl)
      (from_match (front ++ p ∷ []) ps (suc v) (e ∙ more_end front p ps) (ap suc f ∙ sym (length_end front p)))

  -- ---- what is found

  key_same : (v u : ℕ) (l : Link) (c : Connected) → Fresh l c → is_link v u l ≡ connects v u c
  unfolding is_link connects
  key_same v u l c h = ap (λ (a : ℕ). elim (a == v) [ true ↦ l.to == u | false ↦ false ]) h.from ∙ ap (λ (b : ℕ). elim (c.from == v) [ true ↦ b == u | false ↦ false ]) h.to

  found_or : (v u : ℕ) (b d : Bool) (l : Link) (c e : Connected) (o : Option Link) (k : Link) → b ≡ d → Fresh l c → (o ≡ Some k → Fresh k e) → ◌≡◌ {A = Option Link} (elim b [ true ↦ Some l | false ↦ o ]) (Some k) → Fresh k (elim d [ true ↦ c | false ↦ e ])
  found_or v u true true l c e o k i h f g = subst (λ (z : Link). Fresh z c) (let same : l ≡ k = cc in same) h
  found_or v u false false l c e o k i h f g = f g
  found_or v u true false l c e o k i h f g = cc
  found_or v u false true l c e o k i h f g = cc

  pub found : (v u : ℕ) (ls : List Link) (cs : List Connected) (l : Link) → Match ls cs → link_at v u ls ≡ Some l → Fresh l (connected_at v u cs)
  unfolding link_at connected_at
  found v u [] [] l h e = cc
  found v u (k ∷ ls) (c ∷ cs) l h e = found_or v u (is_link v u k) (connects v u c) k c (connected_at v u cs) (link_at v u ls) l (key_same v u k c h.0) h.0 (λ f. found v u ls cs l h.1 f) e
  found v u [] (c ∷ cs) l h e = absurd h
  found v u (k ∷ ls) [] l h e = absurd h

module _ (all : List Program) (v u : ℕ) (cs : List Connected) (l m : Link) (x : Fresh all l (connected_at v u cs)) (y : Fresh all m (connected_at u v cs)) (Q A : List Name) where
  abbrev C : Connected
  C = connected_at v u cs

  abbrev D : Connected
  D = connected_at u v cs

  some_is : (p q : Program) → Some p ≡ Some q → p ≡ q
  some_is p q e = cc

  exports_are : l.roots ≡ (connected_at v u cs).tables.exports
  exports_are = let k = x.there in k.3 ∙ ap (λ (a : ℕ). world.roots_for a k.0) x.from ∙ sym k.2

  imports_are : (connected_at u v cs).tables.imports ≡ l.roots
  imports_are = let k = x.there in let j = y.here in let ends = connected_ends v u cs in let back = connected_ends u v cs in
      let same : k.0 ≡ j.0 = some_is k.0 j.0 (sym k.1 ∙ ap (λ (a : ℕ). slice_get all a) (ends.1 ∙ sym back.0) ∙ j.1) in
      j.2 ∙ ap (λ (a : ℕ). world.roots_for a j.0) (back.1 ∙ sym ends.0 ∙ sym x.from) ∙ ap (λ (p : Program). world.roots_for l.from p) (sym same) ∙ sym k.3

  fresh_kept : Kept v u Q A C D l.log l.notes l.roots
  unfolding wire.exports_after wire.questions_in
  fresh_kept = let i = x.quiet in let j = y.quiet in
      ([], [], [], i.2, sym j.3, i.1 ∙ sym i.0, j.5, imports_are, subst (λ ns. AreKept v u Q A C D.tables.imports D.tables.answers ns []) (sym i.0) (imports_are ∙ exports_are, j.5 ∙ sym i.4))

pub begins_kept : (script : Script) → AllKept (world.begins script)
unfolding world.begins
begins_kept script v u other r s there gone l m at back free shut = let all = script.vats in let ls = world.links_from all zero all in let cs = world.connections_from all zero all in let match = from_match all [] all zero refl refl in
    fresh_kept all v u cs l m (found all v u ls cs l match at) (found all u v ls cs m match back) (Asked (world.begins script) v u) (Asked (world.begins script) u v)
