-- Small cases, by computing.
use Rattle.std.specs.Prelude.{◌≡◌, List, [], ◌∷◌, Some}
use Rattle.ev_base.specs.declared.names.Name.TheVariants.{Root, Own, Answer, Gift}
use Rattle.ev_resident.specs.Names.{Entry, Named, names_first, with_told, with_mails, own_messages, asked_tells, all_named, told_at, unless_told, named_as, one_named, with_name}
use Rattle.ev_refs.specs.References.{References, no_references, unsettled_of}

-- vat 1, which knows vat 0, sent two messages
abbrev pub sender : Named
sender = with_mails (own_messages 1 0 2) (names_first 1 (0 ∷ []) 2)

-- it knows its root, that of vat 0, a promise of its own and an answer at vat 0
abbrev pub knower : References
knower = record (no_references 1 0 1) { known = unsettled_of 1 ∷ unsettled_of 0 ∷ unsettled_of 1 ∷ unsettled_of 0 ∷ [] }

-- its message 1 asked for the answer as number 3; that a gift has the number too is told later, and does not count
abbrev pub tellings : List Entry
tellings = with_told (record { number = 3; name = Gift 0 7 }) (asked_tells knower sender.naming.mails 1 (Some 3) [])

-- number 2, of which nothing was told, is its first promise
abbrev pub NamesByWhatIsTold : Type 0
NamesByWhatIsTold = (all_named tellings 2 sender).naming.names ≡ Root 1 ∷ Root 0 ∷ Own 1 0 ∷ Answer 0 (record { sender = 1; number = 1 }) ∷ []

-- a message that is not there stands for no name
abbrev pub NoMessageNoName : Type 0
NoMessageNoName = asked_tells knower sender.naming.mails 2 (Some 3) [] ≡ record { number = 3; name = Root 0 } ∷ []

-- opens each definition that these cases compute
unfoldable pub opened_rows : Unit {0}
unfolding told_at unless_told with_told asked_tells own_messages with_name named_as one_named all_named
opened_rows = tt
