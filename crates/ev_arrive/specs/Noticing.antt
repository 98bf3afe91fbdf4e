-- What a vat does where it notices that a link is cut, in the code's terms.
use Rattle.std.specs.Prelude.{◌==◌, ◌++◌, ℕ, suc, if◌then◌else◌, List, [], ◌∷◌, Ok}
use Rattle.def_machine.specs.State.{is_in}
use Rattle.ev_intro.specs.Gift.{unopened}
use Rattle.ev_refs.specs.declared.known.Known.{Known}
use Rattle.ev_arrive.specs.Acts.{Act, ◌>>◌, give}
use Rattle.ev_arrive.specs.Breaking.{break_at, break_hosted}

unfoldable pub mark : ℕ → Act (Unit {0})
mark w = λ h. (Ok tt, record h { inside = record h.inside { refs = record h.inside.refs { noticed = h.inside.refs.noticed ++ w ∷ [] } } })

-- the names of that host, from that number on
abbrev pub hosted : ℕ → ℕ → List Known → List ℕ
hosted w n [] = []
hosted w n (k ∷ ks) = if k.host == w then n ∷ hosted w (suc n) ks else hosted w (suc n) ks

-- one after another
unfoldable pub break_each : (ℕ → Act (Unit {0})) → List ℕ → Act (Unit {0})
break_each f [] = give tt
break_each f (n ∷ ns) = f n >> break_each f ns

-- the names of that host break, and then the gifts that it provided and did not open
unfoldable pub notice_all : ℕ → Act (Unit {0})
notice_all w = do
  mark w
  λ h. break_each break_hosted (hosted w 0 h.inside.refs.known) h
  λ h. break_each break_at (unopened w h.gifts) h

-- the link with that vat is noticed as cut, once
unfoldable pub notice : ℕ → Act (Unit {0})
notice w = λ h. (if is_in w h.inside.refs.noticed then give tt else notice_all w) h
