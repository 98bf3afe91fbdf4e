use Rattle.std.proofs.Common.{◌≡◌, nat_eq, None, ap, ◌∙◌}
use Rattle.std.specs.Map.{lookup}
use Rattle.indexmap.proofs.CallerLemmas.{insert_entry-new}
use Rattle.ev_resident.specs.Names.{told_at}
use Rattle.ev_resident.proofs.Entries.{one_behind, told_lookup, untold_behind}
use Rattle.ev_resident.proofs.told.Told.add.Goals as goal

pub returns : goal.returns
returns c =
    let k = c.args.number in
    let few = c.self.inside.few.items in
    let more = c.self.inside.more.entries in
    let absent : lookup (nat_eq k) more ≡ None = told_lookup k more ∙ untold_behind k few more (ap (told_at k) c.self.view_is ∙ c.requires.new) in
    one_behind k c.args.name few more c.insert.new.self.entries c.args.self.now c.self.view_is (c.in_ok-insert.ensures.entries ∙ insert_entry-new nat_eq c.self.inside.more k c.args.name absent)
