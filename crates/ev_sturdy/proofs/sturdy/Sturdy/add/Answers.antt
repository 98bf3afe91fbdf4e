use Rattle.std.proofs.Common.{◌≡◌, List, ◌∷◌, [], ◌++◌, ℕ, None, ap, ◌∙◌}
use Rattle.std.specs.Map.{lookup}
use Rattle.std.specs.Str.{bytes_eq}
use Rattle.ev_sturdy.specs.Kept.{Kept, owner, registers}
use Rattle.ev_sturdy.proofs.Objects.{new_entry}
use Rattle.ev_sturdy.proofs.sturdy.Sturdy.add.Goals as goal

pub returns-clause-ok : goal.returns-clause-ok
returns-clause-ok c =
    let es = c.self.inside.objects.entries in
    let key = c.digest_of-key.result in
    let swiss = c.args.swiss in
    let n = c.args.object in
    let before : Kept = record {
      objects = es;
      earlier = c.self.inside.earlier.items;
      shown = c.self.inside.shown.keys;
      is_cut = c.self.inside.is_cut;
      is_noticed_by_host = c.self.inside.is_noticed_by_host;
      is_noticed_by_guest = c.self.inside.is_noticed_by_guest;
    } in
    let free : lookup (bytes_eq key) es ≡ None =
    ap (λ (d : List ℕ). lookup (bytes_eq d) es) c.digest_of-key.ensures ∙ ap (owner swiss) c.self.view_is ∙ c.requires in
    ap (λ (xs : List (List ℕ × ℕ)). record before { objects = xs }) (c.in_ok-insert.ensures.entries ∙ new_entry key n es free)
    ∙ ap (λ (d : List ℕ). record before { objects = es ++ (d, n) ∷ [] }) c.digest_of-key.ensures
    ∙ ap (registers swiss n) c.self.view_is
