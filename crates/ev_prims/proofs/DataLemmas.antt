-- What a held value answers.
use Rattle.std.proofs.Common.{◌≡◌, ℕ, List, [], Option, Some, ap, sym, ◌∙◌}
use Rattle.std.specs.Prelude.{option_map, slice_get, unwrap_or}
use Rattle.ev_base.specs.declared.values.Value.{Value as Held}
use Rattle.ev_base.specs.declared.values.Value.TheVariants as held
use Rattle.ev_heap.specs.Contents.{Contents}
use Rattle.ev_heap.specs.declared.kept.Listed.{Listed}
use Rattle.def_machine.specs.Values.{Words, Value, Local}
use Rattle.def_machine.specs.Native.{data_reply, text_reply, list_reply}
use Rattle.ev_prims.specs.Reading.{value_in, values_in, lists_in}
use Rattle.ev_prims.proofs.SeqLemmas.{list_is}

module _ (h : Contents) (v : Held) (verb : Words) (hs xs : List (Value Local)) where
  pub of_text : (id : ℕ) (t : Words) → v ≡ held.Text id → slice_get h.texts id ≡ Some t → text_reply t verb hs xs ≡ data_reply (lists_in h) (value_in h v) verb hs xs
  unfolding data_reply
  of_text id t e f =
      sym (ap (λ w. data_reply (lists_in h) (value_in h w) verb hs xs) e ∙ ap (λ (o : Option Words). text_reply (unwrap_or o []) verb hs xs) f)

  pub of_list : (id : ℕ) (ms : List Held) → v ≡ held.List id → option_map (λ (l : Listed). l.members) (slice_get h.lists id) ≡ Some ms
      → list_reply (lists_in h) (values_in h ms) verb hs xs ≡ data_reply (lists_in h) (value_in h v) verb hs xs
  unfolding data_reply
  of_list id ms e f =
      sym (ap (λ w. data_reply (lists_in h) (value_in h w) verb hs xs) e ∙ ap (λ ys. list_reply (lists_in h) ys verb hs xs) (list_is h id ms f))
