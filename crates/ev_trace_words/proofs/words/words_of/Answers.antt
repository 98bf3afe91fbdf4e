use Rattle.std.proofs.Common.{◌++◌, ◌∷◌, [], sym, ◌∙◌, ap}
use Rattle.ev_trace_words.proofs.WordLemmas.{reads_on_by, reads_word_by, all_read}
use Rattle.ev_trace_words.proofs.words.words_of.Goals as goal

pub loop-c-preserved-then-ends_word : goal.loop-c-preserved-then-ends_word
loop-c-preserved-then-ends_word c =
    reads_word_by _ _ c.in-Some.c _ _ _ c.of.result _ _ _ _ c.new-word-then-ends_word.ensures.bytes c.of.ensures (sym c.ends_word.ensures ∙ c.if-ends_word.true)
    c.in-Some.ensures.steps.0 c.in_ok-push.ensures.ok c.loop-c.invariant

pub loop-c-preserved : goal.loop-c-preserved
loop-c-preserved c =
    reads_on_by _ _ _ _ c.in-Some.c _ _ _ _ _ _ c.behind_quote-quote.ensures c.behind_depth-depth.ensures (sym c.ends_word.ensures ∙ c.if-ends_word.false)
    c.in-Some.ensures.steps.0 c.in_ok-push-2.ensures.bytes c.loop-c.invariant

pub returns : goal.returns
returns c =
    all_read c.loop-c.quote c.loop-c.depth c.loop-c.words _ _ _ _ c.in-None.ensures.steps.0.0
    (c.in_ok-push-3.ensures.ok ∙ ap (λ w. c.loop-c.words ++ w ∷ []) c.of-2.ensures) c.loop-c.invariant
