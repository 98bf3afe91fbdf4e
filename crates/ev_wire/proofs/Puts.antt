-- Notes that are written one after the other, as a loop does it.
use Rattle.std.proofs.Common.{◌≡◌, ℕ, ◌+◌, ◌<◌, ◌≤◌, List, [], ◌∷◌, ◌++◌, map, length, drop, get_or, refl, sym, ap, ◌∙◌, append_assoc, append-nil}
use Rattle.std.proofs.lemmas.List.{drop_all, drop_more, map_push}
use Rattle.ev_pass.specs.Notes.{sent}
use Rattle.ev_pass.specs.declared.post.Put.{Put}
use Rattle.ev_pass.specs.declared.interior.Interior.{Interior}
use Rattle.ev_tables.specs.Table.{Table}
use Rattle.ev_wire.specs.Putting.{Addressed, addressed, all_written, put_all, put_one, table_for}
use Rattle.ev_wire.specs.Writing.{written}
use Rattle.ev_wire.specs.declared.outbox.Outgoing.{Outgoing}

first : (ps : List Put) (k : ℕ) (p : Put) → k < length ps → p ≡ get_or ps k p → drop k ps ≡ p ∷ drop (k + 1) ps
first ps k p lt is = drop_more ps k p lt ∙ ap (λ (z : Put). z ∷ drop (k + 1) ps) (sym is)

module _ (i : Interior) where
  pub tables_on : (ps : List Put) (k : ℕ) (p : Put) (ts us whole : List Table) → k < length ps → p ≡ get_or ps k p → us ≡ put_one i (sent p) ts
      → put_all i (map sent (drop k ps)) ts ≡ whole → put_all i (map sent (drop (k + 1) ps)) us ≡ whole
  unfolding put_all
  tables_on ps k p ts us whole lt at is so_far =
      ap (put_all i (map sent (drop (k + 1) ps))) is ∙ ap (λ (qs : List Put). put_all i (map sent qs) ts) (sym (first ps k p lt at)) ∙ so_far

  pub written_on : (front after : List Outgoing) (ps : List Put) (k : ℕ) (p : Put) (o : Outgoing) (ts us : List Table) (whole : List Addressed) → k < length ps → p ≡ get_or ps k p
      → addressed o ≡ record { to = p.to; op = written i (sent p).note (table_for p.to ts) } → after ≡ front ++ o ∷ [] → us ≡ put_one i (sent p) ts
      → map addressed front ++ all_written i (map sent (drop k ps)) ts ≡ whole → map addressed after ++ all_written i (map sent (drop (k + 1) ps)) us ≡ whole
  unfolding all_written
  written_on front after ps k p o ts us whole lt at told grown is so_far =
      ap (λ (os : List Outgoing). map addressed os ++ all_written i (map sent (drop (k + 1) ps)) us) grown
      ∙ ap (λ (zs : List Addressed). zs ++ all_written i (map sent (drop (k + 1) ps)) us) (map_push addressed front o)
      ∙ append_assoc (map addressed front) (addressed o ∷ []) (all_written i (map sent (drop (k + 1) ps)) us)
      ∙ ap (λ (a : Addressed). map addressed front ++ a ∷ all_written i (map sent (drop (k + 1) ps)) us) told
      ∙ ap (λ (vs : List Table). map addressed front ++ record { to = p.to; op = written i (sent p).note (table_for p.to ts) } ∷ all_written i (map sent (drop (k + 1) ps)) vs) is
      ∙ ap (λ (qs : List Put). map addressed front ++ all_written i (map sent qs) ts) (sym (first ps k p lt at))
      ∙ so_far

  pub tables_done : (ps : List Put) (k : ℕ) (ts whole : List Table) → length ps ≤ k → put_all i (map sent (drop k ps)) ts ≡ whole → ts ≡ whole
  unfolding put_all
  tables_done ps k ts whole le so_far = ap (λ (qs : List Put). put_all i (map sent qs) ts) (sym (drop_all k ps le)) ∙ so_far

  pub written_done : (front : List Outgoing) (ps : List Put) (k : ℕ) (ts : List Table) (whole : List Addressed) → length ps ≤ k → map addressed front ++ all_written i (map sent (drop k ps)) ts ≡ whole → map addressed front ≡ whole
  unfolding all_written
  written_done front ps k ts whole le so_far = sym (append-nil (map addressed front)) ∙ ap (λ (qs : List Put). map addressed front ++ all_written i (map sent qs) ts) (sym (drop_all k ps le)) ∙ so_far
