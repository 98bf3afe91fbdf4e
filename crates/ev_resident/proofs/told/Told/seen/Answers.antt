use Rattle.std.proofs.Common.{◌≡◌, ℕ, List, None, Some, sym, ap, ◌∙◌}
use Rattle.ev_base.specs.declared.names.Name.{Name}
use Rattle.ev_resident.specs.Names.{told_at}
use Rattle.ev_resident.proofs.Entries.{entries_of, told_behind, told_lookup, told_there}
use Rattle.ev_resident.proofs.told.Told.seen.Goals as goal

pub returns-in-Some : goal.returns-in-Some
returns-in-Some c =
    let k = c.args.number in
    let few = c.self.inside.few.items in
    let own : told_at k (entries_of few) ≡ Some c.in-Some.name = ap (λ (es : List (ℕ × Name)). told_at k (entries_of es)) (sym c.as_slice.ensures.value) ∙ sym c.found.ensures ∙ c.in-Some.is in
    sym (told_there k c.in-Some.name few c.self.inside.more.entries own) ∙ ap (told_at k) c.self.view_is

pub returns : goal.returns
returns c =
    let k = c.args.number in
    let few = c.self.inside.few.items in
    let more = c.self.inside.more.entries in
    let none : told_at k (entries_of few) ≡ None = ap (λ (es : List (ℕ × Name)). told_at k (entries_of es)) (sym c.as_slice.ensures.value) ∙ sym c.found.ensures ∙ c.in_default.is in
    c.copied.ensures ∙ c.get.ensures.value ∙ told_lookup k more ∙ sym (told_behind k few more none) ∙ ap (told_at k) c.self.view_is
