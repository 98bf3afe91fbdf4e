-- The steps over the tokens are the machine's answer.
use Rattle.std.proofs.Common.{◌≡◌, ℕ, suc, ◌+◌, List, [], ◌∷◌, Option, Some, None, sym, ◌∙◌, subst, ap, drop, length, add-one, get_or, drop-cons, ◌<◌}
use Rattle.def_syntax.specs.declared.token.Token.{Token}
use Rattle.def_syntax.specs.declared.syntax.Word.{Word}
use Rattle.def_syntax.specs.Grammar.{Tree}
use Rattle.def_syntax.specs.Machine.{State, step, finish}
use Rattle.def_syntax.specs.Heights.{Answer, no_spelling, noted, ended_with, onward, answer_from, answer}
use Rattle.def_syntax.specs.Exact.{IsAnswer}
use Rattle.def_syntax.proofs.Answers.{answer_exact}
use Rattle.ev_parser.specs.Parsed.{numbered}

word_of : ℕ → Token → Word
word_of i t = record { kind = t.kind; number = i }

numbered_here : (ts : List Token) (i : ℕ) (t : Token) → drop i ts ≡ t ∷ drop (i + 1) ts → numbered i (drop i ts) ≡ word_of i t ∷ numbered (suc i) (drop (i + 1) ts)
unfolding word_of
numbered_here ts i t e = ap (λ (x : List Token). numbered i x) e

answer_step : (w : Word) (rest : List Word) (i : ℕ) (d : Option ℕ) (s : State) (o : Option State) → o ≡ step s w → answer_from (w ∷ rest) i d s ≡ onward o i (λ s'. answer_from rest (suc i) (noted d i s') s')
unfolding answer_from
answer_step w rest i d s o e = ap (λ (x : Option State). onward x i (λ s'. answer_from rest (suc i) (noted d i s') s')) (sym e)

pub read_on : (ts : List Token) (i : ℕ) (t : Token) (d h : Option ℕ) (s s' : State) (r : Answer) → drop i ts ≡ t ∷ drop (i + 1) ts → Some s' ≡ step s (record { kind = t.kind; number = i }) → h ≡ noted d i s' → answer_from (numbered i (drop i ts)) i d s ≡ r → answer_from (numbered (i + 1) (drop (i + 1) ts)) (i + 1) h s' ≡ r
unfolding word_of
read_on ts i t d h s s' r e n m a =
    let k : answer_from (numbered i (drop i ts)) i d s ≡ answer_from (numbered (suc i) (drop (i + 1) ts)) (suc i) (noted d i s') s' = ap (λ (x : List Word). answer_from x i d s) (numbered_here ts i t e) ∙ answer_step (word_of i t) (numbered (suc i) (drop (i + 1) ts)) i d s (Some s') n in
    let j : i + 1 ≡ suc i = add-one i in
    ap (λ (x : ℕ). answer_from (numbered x (drop (i + 1) ts)) x h s') j ∙ ap (λ (x : Option ℕ). answer_from (numbered (suc i) (drop (i + 1) ts)) (suc i) x s') m ∙ sym k ∙ a

exactly : (ts : List Word) (a : Answer) → a ≡ answer ts → IsAnswer ts a
exactly ts a e = subst (λ (x : Answer). IsAnswer ts x) (sym e) (answer_exact ts)

pub read_stuck : (ts : List Token) (i : ℕ) (t : Token) (d : Option ℕ) (s : State) → drop i ts ≡ t ∷ drop (i + 1) ts → None ≡ step s (record { kind = t.kind; number = i }) → answer_from (numbered i (drop i ts)) i d s ≡ answer (numbered 0 ts) → IsAnswer (numbered 0 ts) (no_spelling i)
unfolding word_of
read_stuck ts i t d s e n a =
    let k : answer_from (numbered i (drop i ts)) i d s ≡ no_spelling i = ap (λ (x : List Word). answer_from x i d s) (numbered_here ts i t e) ∙ answer_step (word_of i t) (numbered (suc i) (drop (i + 1) ts)) i d s None n in
    exactly (numbered 0 ts) (no_spelling i) (sym k ∙ a)

pub read_ended : (ts : List Token) (i : ℕ) (d : Option ℕ) (s : State) (o : Option Tree) → drop i ts ≡ [] → o ≡ finish s → answer_from (numbered i (drop i ts)) i d s ≡ answer (numbered 0 ts) → IsAnswer (numbered 0 ts) (ended_with o i d)
unfolding answer_from
read_ended ts i d s o e n a =
    let k : answer_from (numbered i (drop i ts)) i d s ≡ ended_with o i d = ap (λ (x : List Token). answer_from (numbered i x) i d s) e ∙ ap (λ (x : Option Tree). ended_with x i d) (sym n) in
    exactly (numbered 0 ts) (ended_with o i d) (sym k ∙ a)

pub drop_here : (ts : List Token) (i : ℕ) (d : Token) → i < length ts → drop i ts ≡ get_or ts i d ∷ drop (i + 1) ts
drop_here ts i d h = drop-cons ts i d h ∙ ap (λ (n : ℕ). get_or ts i d ∷ drop n ts) (sym (add-one i))
