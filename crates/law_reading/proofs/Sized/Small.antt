-- What is read is small: a tree has no more nodes than its text has tokens, and each weighs fourteen.
use Rattle.std.proofs.Common.{◌≡◌, ℕ, suc, ◌*◌, ◌≤◌, List, [], ◌∷◌, length, Ok, refl, sym, ◌∙◌, ap, arith}
use Rattle.def_syntax.specs.declared.token.Token.{Token}
use Rattle.def_syntax.specs.declared.sugar.Sugar.{Sugar}
use Rattle.def_syntax.specs.declared.sugar.SugarNode.{SugarNode}
use Rattle.def_kernel.specs.declared.node.Node.{Node}
use Rattle.ev_parser.specs.Parsed.{numbered, IsParsed}
use Rattle.ev_expand.specs.Expanded.{expanded}
use Rattle.law_reading.proofs.Reading.Whole.{program_whole}
use Rattle.law_reading.specs.Sized.Weights.{weight}
use Rattle.law_reading.specs.Sized.Laws.{WhatIsReadIsSmall}
use Rattle.law_reading.proofs.Sized.Counts.{program_counted}
use Rattle.law_reading.proofs.Sized.Tidiness.{program_tidy}
use Rattle.law_reading.proofs.Sized.Tokens.{tokens_few}
use Rattle.law_reading.proofs.Sized.Placing.{few_nodes, short_texts}
use Rattle.law_reading.proofs.Sized.Arena.{expanded_light}

numbered_count : (n : ℕ) (ts : List Token) → length (numbered n ts) ≡ length ts
numbered_count n [] = refl
numbered_count n (t ∷ ts) = ap suc (numbered_count (suc n) ts)

parsed_light : (text : List ℕ) (tokens : List Token) (sugar : Sugar) (nodes : List Node) → length text ≤ 65536 → IsParsed text tokens (Ok sugar) → expanded sugar.nodes sugar.root ≡ Ok nodes → weight nodes ≤ 14 * suc (length tokens)
parsed_light text tokens sugar nodes l parsed e =
    let w = parsed.1 in
    let spelled = parsed.4.0 in
    omega (
      arith,
      expanded_light text tokens l parsed.0 w sugar.root nodes (program_whole w (numbered 0 tokens) spelled) (program_tidy w (numbered 0 tokens) spelled) parsed.3
          (ap (λ (ns : List SugarNode). expanded ns sugar.root) (sym parsed.2) ∙ e),
      program_counted w (numbered 0 tokens) spelled,
      numbered_count 0 tokens,
    )

pub what_is_read_is_small : WhatIsReadIsSmall
what_is_read_is_small text given scoped l read =
    let light : weight scoped.tree ≤ 14 * suc (length text) = omega (arith, parsed_light text read.0 read.1 scoped.tree l read.2.0.1 read.2.1, tokens_few text read.0 read.2.0.0) in
    (omega (arith, few_nodes scoped.tree, light), short_texts scoped.tree (omega (arith, light, l)))
