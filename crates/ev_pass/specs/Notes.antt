-- What a clause sees of notes: which they are, without where their parts lie in memory.
use Rattle.std.specs.Prelude.{ℕ, List, [], ◌∷◌, Option, map}
use Rattle.ev_base.specs.declared.values.Value.{Value}
use Rattle.def_machine.specs.Values.{key}
use Rattle.ev_pass.specs.declared.draw.Swiss.{Swiss}
use Rattle.ev_pass.specs.declared.note.Reference.{Reference}
use Rattle.ev_pass.specs.declared.note.Passed.{Passed, fold-Passed}
use Rattle.ev_pass.specs.declared.note.Passed.TheOpen.{Passed-F}
use Rattle.ev_pass.specs.declared.note.Note.{Note}
use Rattle.ev_pass.specs.declared.note.Note.TheVariants as note
use Rattle.ev_pass.specs.declared.post.Put.{Put}

-- provider and word in one number
abbrev pub key_of : Swiss → ℕ
key_of s = key s.provider s.word

-- a value as it passes, each gift under its key
mutual
  pub data Parcel : Type 0 where
    Plain : Value → Parcel
    Gift : ℕ → ℕ → Parcel
    Many : Parcels → Parcel

  pub data Parcels : Type 0 where
    NoMore : Parcels
    More : Parcel → Parcels → Parcels

-- what one vat tells another
pub data Noted : Type 0 where
  -- message, the name of its answer if it asks for one, target, verb, arguments
  Deliver : ℕ → Option ℕ → Reference → List ℕ → Parcels → Noted
  -- key, what the gift is
  Open : ℕ → Reference → Noted
  -- provider, key, the asker's name
  Ask : ℕ → ℕ → ℕ → Noted
  Settled : ℕ → Parcel → Noted
  Elsewhere : ℕ → ℕ → Noted
  -- name, host, key
  Shorten : ℕ → ℕ → ℕ → Noted

pub record Sent : Type 0 where
  pub to : ℕ
  pub note : Noted

abbrev pub parcels : List Parcel → Parcels
parcels [] = NoMore
parcels (p ∷ ps) = More p (parcels ps)

-- one level, with each member already seen
abbrev pub parcel_step : Passed-F Parcel → Parcel
parcel_step (Passed-F.Plain v) = Plain v
parcel_step (Passed-F.Gift h i) = Gift h (key_of i)
parcel_step (Passed-F.List v) = Many (parcels v.items)

abbrev pub parcel : Passed → Parcel
parcel = fold-Passed Parcel parcel_step

abbrev pub all_parcels : List Passed → Parcels
all_parcels ps = parcels (map parcel ps)

abbrev pub noted : Note → Noted
noted (note.Deliver message answer target verb args) = Deliver message answer target verb (all_parcels args.items)
noted (note.Open i x) = Open (key_of i) x
noted (note.Ask p i n) = Ask p (key_of i) n
noted (note.Settled n p) = Settled n (parcel p)
noted (note.Elsewhere n c) = Elsewhere n c
noted (note.Shorten n c i) = Shorten n c (key_of i)

abbrev pub sent : Put → Sent
sent p = record { to = p.to; note = noted p.note }
