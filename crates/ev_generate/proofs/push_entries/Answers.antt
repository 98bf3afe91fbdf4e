use Rattle.std.proofs.Common.{◌≡◌, ◌+◌, ◌%◌, ◌++◌, ◌∙◌, ap, sym}
use Rattle.std.specs.Prelude.{string_bytes}
use Rattle.rand_chacha.specs.ChaCha.{ChaCha, word_at}
use Rattle.ev_generate.specs.Generated.{choice, spelled_entry}
use Rattle.ev_generate.proofs.EntryLemmas.{goes, chosen_is}
use Rattle.ev_generate.proofs.push_entries.Goals as goal

pub loop-place-preserved : goal.loop-place-preserved
loop-place-preserved c =
    let key = c.args.key.now in
    let place = c.loop-place.place in
    let is : c.next_choice-chosen.result ≡ choice key place =
    chosen_is key place c.next_choice-chosen.result c.loop-place.stream c.loop-place.invariant.stands c.next_choice-chosen.ensures.value in
    record {
      so_far = goes (λ i. spelled_entry (choice key i)) _ _ _ place c.args.n c.loop-place-test.true c.loop-place.invariant.so_far
          (c.in_ok-push_entry.ensures ∙ ap (λ chosen. string_bytes c.loop-place.out ++ spelled_entry chosen) is);
      stands = c.next_choice-chosen.ensures.after ∙ ap (λ (s : ChaCha). record s { word_pos = s.word_pos + 1 }) c.loop-place.invariant.stands;
    }
