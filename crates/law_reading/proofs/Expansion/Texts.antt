-- What a text expands to is a kernel tree, by the tree of the grammar that its tokens spell.
use Rattle.std.proofs.Common.{◌≡◌, ℕ, suc, List, [], ◌∷◌, ◌++◌, length, slice_get, Option, Some, refl, sym, ◌∙◌, subst, ap, arith, length-append, append_assoc}
use Rattle.def_syntax.specs.declared.token.Token.{Token}
use Rattle.def_syntax.specs.declared.sugar.SugarNode.{SugarNode}
use Rattle.def_syntax.specs.Grammar.{no_word}
use Rattle.def_kernel.specs.Trees.{IsName}
use Rattle.ev_parser.specs.Surface.{token_text}
use Rattle.ev_parser.specs.Parsed.{numbered}
use Rattle.ev_desugar.specs.Words.{ejector}
use Rattle.ev_expand.specs.Expanded.{expanded}
use Rattle.law_reading.proofs.Reading.Whole.{program_whole}
use Rattle.law_reading.specs.Expansion.Expansions.{IsSpelled, AreSpelled, ExpandsToATree}
use Rattle.law_reading.specs.Expansion.Laws.{AllGood}
use Rattle.law_reading.proofs.Expansion.SpelledTrees.{program_fair}
use Rattle.law_reading.proofs.Expansion.Forms.{Good}
use Rattle.law_reading.proofs.Expansion.Arena.{arena_tree}

get_here : (xs ys : List Token) (x : Token) → slice_get (xs ++ x ∷ ys) (length xs) ≡ Some x
get_here [] ys x = refl
get_here (y ∷ xs) ys x = get_here xs ys x

good_token : (text : List ℕ) (tokens : List Token) (t : Token) (n : ℕ) → slice_get tokens n ≡ Some t → IsSpelled text t → Good text tokens (record { kind = t.kind; number = n })
good_token text tokens t n e h = record {
  name = λ k. subst (λ (o : Option Token). IsName (token_text text o)) (sym e) (h.name k);
  leave = λ k. subst (λ (o : Option Token). IsName (ejector (token_text text o))) (sym e) (h.leave k);
}

good_tokens : (text : List ℕ) (tokens done rest : List Token) (n : ℕ) → length done ≡ n → tokens ≡ done ++ rest → AreSpelled text rest → AllGood (Good text tokens) (numbered n rest)
good_tokens text tokens done [] n l e h = tt
good_tokens text tokens done (t ∷ rest) n l e h = (
  good_token text tokens t n (ap (λ (xs : List Token). slice_get xs n) e ∙ ap (λ (k : ℕ). slice_get (done ++ t ∷ rest) k) (sym l) ∙ get_here done rest t) h.0,
  good_tokens text tokens (done ++ t ∷ []) rest (suc n) (omega (arith, l, length-append done (t ∷ []))) (e ∙ sym (append_assoc done (t ∷ []) rest)) h.1,
)

no_good : (text : List ℕ) (tokens : List Token) → Good text tokens no_word
no_good text tokens = record { name = λ k. absurd (cc); leave = λ k. absurd k }

pub expands_to_a_tree : ExpandsToATree
expands_to_a_tree text tokens sugar nodes u spelled parsed e =
    let read = program_fair (Good text tokens) (no_good text tokens) parsed.1 (numbered 0 tokens) parsed.4.0 (good_tokens text tokens [] tokens 0 refl refl spelled) in
    arena_tree text tokens u parsed.0 parsed.1 sugar.root nodes read.fair read.sort (program_whole parsed.1 (numbered 0 tokens) parsed.4.0) parsed.3
    (ap (λ (ns : List SugarNode). expanded ns sugar.root) (sym parsed.2) ∙ e)
