-- What a vat has is its own: it hosts the answers of the messages that it has, the gifts, and the names of which it is to tell others.
use Rattle.std.specs.Prelude.{◌≡◌, ℕ}
use Rattle.def_machine.specs.Values.{Name, host_of}
use Rattle.def_machine.specs.State.{Message, Known, GiftEntry, Vat, WhereSome}
use Rattle.law_fate.specs.Name.Names.{AllOf, IsMessageName}
use Rattle.law_reference.specs.Reference.Rest.{InEachVat}

module _ (v : ℕ) where
  -- a message, named as one, whose answer the vat hosts
  abbrev pub IsOwnMail : Message Name → Type 0
  IsOwnMail m = IsMessageName m.id × WhereSome (λ a. host_of a ≡ v) m.answer

  -- The host that the vat has for a name is that of the name; held messages and reactions are its own; and of a name of another vat it is to tell nobody.
  abbrev pub IsOwnKnown : Known Name → Type 0
  IsOwnKnown k = (k.host ≡ host_of k.name) × AllOf IsOwnMail k.held × AllOf IsOwnMail k.reactions × AllOf (λ (w : ℕ). host_of k.name ≡ v) k.told

  abbrev pub IsOwnGift : GiftEntry Name → Type 0
  IsOwnGift g = host_of g.name ≡ v

  abbrev pub Own : Vat Name → Type 0
  Own s = (s.number ≡ v) × AllOf IsOwnMail s.queue × AllOf IsOwnKnown s.known × AllOf IsOwnGift s.gifts

-- A vat hosts the answers of the messages that it has, the gifts that it has, and each name of which it is to tell others.
abbrev pub WhatAVatHasIsItsOwn : Type 0
WhatAVatHasIsItsOwn = InEachVat (λ script v s. Own v s)
