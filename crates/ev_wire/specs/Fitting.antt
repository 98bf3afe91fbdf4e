-- What is heard fits the heap that keeps the texts of its frame.
use Rattle.std.specs.Prelude.{◌≡◌, ◌++◌, Some}
use Rattle.def_op.specs.Frames.{IsOp, Operation}
use Rattle.ev_heap.specs.Contents.{Contents}
use Rattle.ev_pass.specs.declared.interior.Interior.{Interior}
use Rattle.ev_arrive.specs.Fitting.{AllFit, Fits}
use Rattle.ev_tables.specs.Table.{Table}
use Rattle.ev_tables.specs.Standing.{AreReferences}
use Rattle.ev_wire.specs.Bringing.{Told, Deliver, Open, Ask, Settled, Elsewhere, Shorten}
use Rattle.ev_wire.specs.Hearing.{no_news, note_heard}
use Rattle.ev_wire.specs.Learnt.{LearntGifts, put_all}
use Rattle.ev_wire.specs.declared.news.News.{News}

-- the values of a note fit the heap: it has their texts, and the lists among them are within the limits
abbrev pub ToldFits : Contents → Told → Type 0
ToldFits h (Deliver m asks x verb ps) = AllFit h 100 ps
ToldFits h (Settled x y) = Fits h 100 y
ToldFits h (Open w x) = Unit {0}
ToldFits h (Ask p w) = Unit {0}
ToldFits h (Elsewhere x c) = Unit {0}
ToldFits h (Shorten x s) = Unit {0}

-- the heap with the texts that a frame brought
abbrev pub keeping : Contents → News → Contents
keeping h s = record h { texts = h.texts ++ s.texts }

-- What is heard of an operation that has a spelling fits the heap once the texts are kept that its frame brought. The gifts that it brought were not learnt before, so that they come behind those that were; and references alone come to stand at positions.
abbrev pub WhatIsHeardFits : Type 0
WhatIsHeardFits = (i : Interior) (t : Table) (l : LearntGifts) (o : Operation) (x : Told) (s : News) → IsOp o → note_heard i t l o (no_news i) ≡ Some (x, s)
    → ToldFits (keeping i.heap s) x × (put_all s.gifts l ≡ l ++ s.gifts) × AreReferences s.imports
