use Rattle.std.proofs.Common.{◌≡◌, ◌≢◌, ℕ, suc, ◌+◌, ◌*◌, ◌<◌, [], ◌∷◌, ◌++◌, nat_eq, length, refl, sym, ap, subst, ◌∙◌, arith}
use Rattle.indexmap.proofs.CallerLemmas.{insert_entry-new}
use Rattle.rand_chacha.specs.ChaCha.{ChaCha, key_of}
use Rattle.ev_intro.specs.declared.words.DrawFault.TheVariants as fault
use Rattle.ev_intro.specs.Word.{word, draws, Drawn, IsNew, IsDrawFault}
use Rattle.ev_intro.proofs.Draws.{number_is, repeats, is_new, one_more, draws_length}
use Rattle.ev_intro.proofs.words.Words.draw.Goals as goal

pub returns-in-Some-clause-fault : goal.returns-in-Some-clause-fault
returns-in-Some-clause-fault c =
    let key = c.self.inside.key in
    let es = c.self.inside.drawn.entries in
    let n = length es in
    let number = c.next_number-number.result in
    let first = c.in-Some.first in
    let is : number ≡ word key n = number_is key n number c.self.inside.stream c.self.invariant.0 c.next_number-number.ensures.value in
    let p = repeats key n number first es c.self.invariant.1 is (sym (c.in-Some.ensures ∙ c.get.ensures.value)) in
    let inside = subst (λ (m : ℕ). (m ≡ n) × (first < m) × (word key first ≡ word key m) × ((k : ℕ) → k < first → word key k ≢ word key m)) (sym c.len-count.ensures.len) (refl, p.0, p.1, p.2) in
    subst (λ (d : Drawn). IsDrawFault d (fault.WordRepeated first c.len-count.result)) c.self.view_is inside

pub returns-in-Ok-clause-differs : goal.returns-in-Ok-clause-differs
returns-in-Ok-clause-differs c =
    let key = c.self.inside.key in
    let es = c.self.inside.drawn.entries in
    let n = length es in
    let number = c.next_number-number.result in
    let is : number ≡ word key n = number_is key n number c.self.inside.stream c.self.invariant.0 c.next_number-number.ensures.value in
    subst (λ (d : Drawn). IsNew d) c.self.view_is (is_new key n number es c.self.invariant.1 is (sym (c.in-None.ensures ∙ c.get.ensures.value)))

pub returns-in-Err-clause-fault : goal.returns-in-Err-clause-fault
returns-in-Err-clause-fault c =
    let key = c.self.inside.key in
    let es = c.self.inside.drawn.entries in
    let n = length es in
    let number = c.next_number-number.result in
    let is : number ≡ word key n = number_is key n number c.self.inside.stream c.self.invariant.0 c.next_number-number.ensures.value in
    subst (λ (d : Drawn). IsNew d) c.self.view_is (is_new key n number es c.self.invariant.1 is (sym (c.in-None.ensures ∙ c.get.ensures.value)))

pub invariant_of-self-in-Ok : goal.invariant_of-self-in-Ok
invariant_of-self-in-Ok c =
    let key = c.self.inside.key in
    let es = c.self.inside.drawn.entries in
    let n = length es in
    let number = c.next_number-number.result in
    let count = c.len-count.result in
    let after = c.insert.new.self.entries in
    let is : number ≡ word key n = number_is key n number c.self.inside.stream c.self.invariant.0 c.next_number-number.ensures.value in
    let grown : after ≡ es ++ (number, count) ∷ [] =
    c.in-Ok.ensures.entries ∙ insert_entry-new nat_eq c.self.inside.drawn number count (sym (c.in-None.ensures ∙ c.get.ensures.value)) in
    let e : after ≡ draws key (suc n) = one_more key n number count es after c.self.invariant.1 is c.len-count.ensures.len grown in
    let len : length after ≡ suc n = ap length e ∙ draws_length key (suc n) in
    let place : 4 * n + 4 ≡ 4 * length after = omega (arith, len) in (
      c.next_number-number.ensures.after
          ∙ ap (λ (s : ChaCha). record s { word_pos = s.word_pos + 4 }) c.self.invariant.0
          ∙ ap (λ (p : ℕ). record { key = key_of key; stream = 0; word_pos = p }) place,
      e ∙ ap (draws key) (sym len),
    )
