-- A loop over orders that tells of each.
use Rattle.std.proofs.Common.{◌≡◌, ◌<◌, ◌≤◌, ◌+◌, ◌++◌, ℕ, List, length, get_or, drop, sym, ap, ◌∙◌, append_assoc}
use Rattle.std.proofs.lemmas.List.{get_or_default}
use Rattle.ev_script.proofs.EachLemmas.{next_item, nothing_behind}
use Rattle.ev_mint.specs.Answers.{Books, Does, answer_text, outcome}
use Rattle.ev_mint.specs.Telling.{last_line, telling, written_line}
use Rattle.ev_mint.specs.declared.answers.Answer.{Answer}
use Rattle.ev_mint.specs.declared.orders.Order.{Order}

pub says : (orders : List Order) (i : ℕ) (d : Order) (now new : Books) (text more whole : List ℕ) (said : Answer) → i < length orders
    → text ++ telling now (drop i orders) ≡ whole → Does (outcome (get_or orders i d) now) said new → more ≡ text ++ written_line (answer_text said)
    → more ++ telling new (drop (i + 1) orders) ≡ whole
says orders i d now new text more whole said lt so_far does is =
    let order = get_or orders i d in
    let rest = drop (i + 1) orders in
    let due = outcome order now in
    ap (λ (t : List ℕ). t ++ telling new rest) is
    ∙ append_assoc text (written_line (answer_text said)) (telling new rest)
    ∙ ap (λ (a : Answer). text ++ (written_line (answer_text a) ++ telling new rest)) does.0
    ∙ ap (λ (b : Books). text ++ (written_line (answer_text due.0) ++ telling b rest)) does.1
    ∙ ap (λ (os : List Order). text ++ telling now os) (sym (next_item order orders i lt (get_or_default orders i d order lt)))
    ∙ so_far

pub ends : (orders : List Order) (i : ℕ) (now : Books) (text more whole : List ℕ) → length orders ≤ i → text ++ telling now (drop i orders) ≡ whole
    → more ≡ text ++ last_line → more ≡ whole
ends orders i now text more whole le so_far is =
    is ∙ ap (λ (os : List Order). text ++ telling now os) (sym (nothing_behind orders i le)) ∙ so_far
