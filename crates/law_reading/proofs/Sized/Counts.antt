-- A tree that tokens spell has no more nodes than tokens, but for the program itself.
use Rattle.std.proofs.Common.{ℕ, suc, ◌+◌, ◌≤◌, List, length, arith}
use Rattle.def_syntax.specs.declared.syntax.Word.{Word}
use Rattle.def_syntax.specs.declared.syntax.Tail.{Tail}
use Rattle.def_syntax.specs.declared.syntax.Tail.TheVariants as tails
use Rattle.def_syntax.specs.Grammar.{Tree, Trees, node, none, more, leaf, begun, Goal, line, tail, inside, Spells, form, tower, stays, goes, ends, takes, reads, wraps, SpellsProgram}

abbrev mutual
  pub count : Tree → ℕ
  count (node s t ts) = suc (counts ts)

  pub counts : Trees → ℕ
  counts none = 0
  counts (more ts v) = counts ts + count v
  counts (leaf ts t) = counts ts

-- each node takes a token of its own
abbrev Promise : Goal → List Word → Tree → List Word → Type 0
Promise (line l) ts w rest = count w + length rest ≤ length ts
Promise (tail c v) ts w rest = count w + length rest ≤ length ts + count v
Promise (inside q f fs) ts w rest = count w + length rest ≤ length ts + suc (counts fs)

begun_count : (c : Tail) (v : Tree) (t : Word) → counts (begun c v t) ≤ count v
begun_count tails.Becomes (node s f ts) t = omega arith
begun_count tails.BecomesBeforeBlock (node s f ts) t = omega arith
begun_count _ v t = omega arith

counted : {g : Goal} {ts : List Word} {w : Tree} {rest : List Word} → Spells g ts w rest → Promise g ts w rest
counted (form e d) = omega (arith, counted d)
counted (tower e d k) = omega (arith, counted d, counted k)
counted stays = omega arith
counted (goes {c = c} {t = t} {v = v} e d k) = omega (arith, counted d, counted k, begun_count c v t)
counted (ends m) = omega arith
counted (takes h e d) = omega (arith, counted d)
counted (reads h d k) = omega (arith, counted d, counted k)
counted (wraps h e d) = omega (arith, counted d)

pub program_counted : (w : Tree) (ts : List Word) → SpellsProgram w ts → count w ≤ suc (length ts)
program_counted w ts d = omega (arith, counted d)
