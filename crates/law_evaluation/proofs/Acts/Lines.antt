-- The lines of what happened in a vat are those that the laws of references ask for.
use Rattle.std.proofs.Common.{refl}
use Rattle.ev_room.specs.Reading.{World, texts_of, line_of, referred_line}
use Rattle.ev_settle.specs.Performing.{Tells}

pub line_tells : (w : World) → Tells (texts_of w) (line_of w)
unfolding line_of referred_line
line_tells w = record {
  settled = λ p v. refl;
  waits = λ p q. refl;
  views = λ p q. refl;
  sends = λ act m x verb args answer. refl;
  reacts = λ act m x o near answer. refl;
  lost = λ m. refl;
  posted = λ h m. refl;
  finished = λ act v. refl;
  threw = λ act t. refl;
}
