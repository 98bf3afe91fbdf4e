use Rattle.std.proofs.Common.{◌≡◌, Bool, true, false, [], ◌∷◌, ◌++◌, is_some, refl, sym, ap, ◌∙◌}
use Rattle.indexmap.specs.IndexMap.{get}
use Rattle.indexmap.proofs.CallerLemmas.{insert_entry-new}
use Rattle.ev_tables.specs.declared.thing.Thing.{Thing}
use Rattle.ev_tables.specs.Thing.{same_value}
use Rattle.ev_tables.specs.Table.{NameList, name_of}
use Rattle.ev_tables.proofs.Keys.{pairs_of, name_lookup, pairs_push, is_none_from}
use Rattle.ev_tables.proofs.names.Names.note.Goals as goal

pub returns-then-contains_key-clause-added : goal.returns-then-contains_key-clause-added
returns-then-contains_key-clause-added c =
    let found : is_some (name_of c.args.value.now c.args.self.now) ≡ true =
    sym (ap is_some (name_lookup c.args.value.now c.self.inside.numbers.entries ∙ ap (name_of c.args.value.now) c.self.view_is)) ∙ sym c.contains_key.ensures ∙ c.if-contains_key.true in
    rw found refl

pub returns-then-contains_key-clause-ok : goal.returns-then-contains_key-clause-ok
returns-then-contains_key-clause-ok c =
    let found : is_some (name_of c.args.value.now c.args.self.now) ≡ true =
    sym (ap is_some (name_lookup c.args.value.now c.self.inside.numbers.entries ∙ ap (name_of c.args.value.now) c.self.view_is)) ∙ sym c.contains_key.ensures ∙ c.if-contains_key.true in
    rw found refl

pub returns-clause-added : goal.returns-clause-added
returns-clause-added c =
    let found : is_some (name_of c.args.value.now c.args.self.now) ≡ false =
    sym (ap is_some (name_lookup c.args.value.now c.self.inside.numbers.entries ∙ ap (name_of c.args.value.now) c.self.view_is)) ∙ sym c.contains_key.ensures ∙ c.if-contains_key.false in
    rw found refl

pub returns-clause-ok : goal.returns-clause-ok
returns-clause-ok c =
    let es = c.self.inside.numbers.entries in
    let t : Thing = record { 0 = c.args.value.now } in
    let gone = sym c.contains_key.ensures ∙ c.if-contains_key.false in
    let found : is_some (name_of c.args.value.now c.args.self.now) ≡ false =
    sym (ap is_some (name_lookup c.args.value.now es ∙ ap (name_of c.args.value.now) c.self.view_is)) ∙ gone in
    let eq : Thing → Thing → Bool = λ a b. same_value a.0 b.0 in
    let absent = is_none_from (get eq c.self.inside.numbers t) gone in
    let e : pairs_of c.insert.new.self.entries ≡ c.args.self.now ++ (c.args.value.now, c.args.number) ∷ [] =
    ap pairs_of (c.in_ok-insert.ensures.entries ∙ insert_entry-new eq c.self.inside.numbers t c.args.number absent)
    ∙ pairs_push es (t, c.args.number) ∙ ap (λ (ps : NameList). ps ++ (c.args.value.now, c.args.number) ∷ []) c.self.view_is in
    rw found e
