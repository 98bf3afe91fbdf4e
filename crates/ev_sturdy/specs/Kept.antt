-- What is kept of a host, its guest and their connections, and what each call answers by it.
use Rattle.std.specs.Prelude.{◌≡◌, ℕ, ◌==◌, nat_eq, nat_lt, Bool, true, false, not, ◌&&◌, if◌then◌else◌, List, [], ◌∷◌, ◌++◌, length, slice_get, Some, None, Ok, Err}
use Rattle.std.specs.Int.{w128, to_le_bytes}
use Rattle.std.specs.List.{list_any, position_or_len}
use Rattle.std.specs.Map.{lookup}
use Rattle.std.specs.declared.option.Option.{Option}
use Rattle.std.specs.declared.result.Result.{Result}
use Rattle.std.specs.Str.{bytes_eq}
use Rattle.sha2.specs.Sha256.{sha256}
use Rattle.ev_sturdy.specs.declared.sturdy.Side.{Side}
use Rattle.ev_sturdy.specs.declared.sturdy.Side.TheVariants.{Host, Guest}
use Rattle.ev_sturdy.specs.declared.sturdy.Used.{Used}
use Rattle.ev_sturdy.specs.declared.sturdy.Used.TheVariants.{Object, Lost, Broken, Nothing}
use Rattle.ev_sturdy.specs.declared.sturdy.SturdyFault.{SturdyFault}
use Rattle.ev_sturdy.specs.declared.sturdy.SturdyFault.TheVariants.{Taken, Open, Down, Unknown, Memory}

pub record Kept : Type 0 where
  -- the accepted registrations, each a digest and its object
  pub objects : List (List ℕ × ℕ)
  -- how many objects were shown in each connection before this one, the time before the first being one too
  pub earlier : List ℕ
  -- the objects shown in this connection, in the order in which each was first shown
  pub shown : List ℕ
  pub is_cut : Bool
  pub is_noticed_by_host : Bool
  pub is_noticed_by_guest : Bool

-- at first nothing is registered, and the time before the first connection is over
abbrev pub opened : Kept
opened = record { objects = []; earlier = []; shown = []; is_cut = true; is_noticed_by_host = true; is_noticed_by_guest = true }

-- the SHA-256 of the 16 bytes of a number, the lowest first
abbrev pub digest : ℕ → List ℕ
digest swiss = sha256 (to_le_bytes w128 swiss)

-- the object that was registered under the digest of a number
abbrev pub owner : ℕ → Kept → Option ℕ
owner swiss kept = lookup (bytes_eq (digest swiss)) kept.objects

-- the number of this connection, and 0 before the first
abbrev pub generation : Kept → ℕ
generation kept = length kept.earlier

abbrev pub registers : ℕ → ℕ → Kept → Kept
registers swiss object kept = record kept { objects = kept.objects ++ (digest swiss, object) ∷ [] }

-- a registration is refused only where the digest has an owner, or for want of memory
abbrev pub IsRegisterFault : Option ℕ → SturdyFault → Type 0
IsRegisterFault (Some object) fault = fault ≡ Taken object
IsRegisterFault None fault = fault ≡ Memory

-- both sides noticed that the connection was cut
abbrev pub is_over : Kept → Bool
is_over kept = kept.is_noticed_by_host && kept.is_noticed_by_guest

abbrev pub connects : Kept → Kept
connects kept = record kept {
  earlier = kept.earlier ++ length kept.shown ∷ [];
  shown = [];
  is_cut = false;
  is_noticed_by_host = false;
  is_noticed_by_guest = false;
}

abbrev pub IsConnectFault : Kept → Bool → SturdyFault → Type 0
IsConnectFault kept true fault = fault ≡ Memory
IsConnectFault kept false fault = fault ≡ Open (generation kept)

-- the object that a number shows
abbrev pub object_in : Option ℕ → Result ℕ SturdyFault
object_in None = Err Unknown
object_in (Some object) = Ok object

abbrev pub object_shown : ℕ → Kept → Result ℕ SturdyFault
object_shown swiss kept = if kept.is_cut then Err Down else object_in (owner swiss kept)

-- the rank of an object among those first shown in this connection
abbrev pub rank : ℕ → Kept → ℕ
rank object kept = position_or_len (nat_eq object) kept.shown

abbrev pub with_shown : ℕ → List ℕ → List ℕ
with_shown object shown = if list_any (nat_eq object) shown then shown else shown ++ object ∷ []

abbrev pub shows : ℕ → Kept → Kept
shows object kept = record kept { shown = with_shown object kept.shown }

abbrev pub IsShown : Result ℕ SturdyFault → ℕ × ℕ → Kept → Kept → Type 0
IsShown (Ok object) reference old new = (reference ≡ (generation old, rank object old)) × (new ≡ shows object old)
IsShown (Err fault) reference old new = ⊥

abbrev pub IsShowFault : Result ℕ SturdyFault → SturdyFault → Type 0
IsShowFault (Ok object) fault = fault ≡ Memory
IsShowFault (Err cause) fault = fault ≡ cause

abbrev pub cuts : Kept → Kept
cuts kept = record kept { is_cut = true }

abbrev pub is_noticed_by : Side → Kept → Bool
is_noticed_by Host kept = kept.is_noticed_by_host
is_noticed_by Guest kept = kept.is_noticed_by_guest

-- there is a cut, and the side has not noticed it
abbrev pub may_notice : Side → Kept → Bool
may_notice side kept = kept.is_cut && not (is_noticed_by side kept)

abbrev pub notices : Side → Kept → Kept
notices Host kept = record kept { is_noticed_by_host = true }
notices Guest kept = record kept { is_noticed_by_guest = true }

-- what the use of a reference of this connection comes to
abbrev pub used_now : Kept → Option ℕ → Used
used_now kept None = Nothing
used_now kept (Some object) = if kept.is_noticed_by_guest then Broken else if kept.is_cut then Lost else Object object

-- of an earlier connection, in which so many objects were shown
abbrev pub used_earlier : ℕ → Option ℕ → Used
used_earlier position None = Nothing
used_earlier position (Some count) = if nat_lt position count then Broken else Nothing

abbrev pub used : ℕ → ℕ → Kept → Used
used number position kept =
    if number == generation kept then used_now kept (slice_get kept.shown position)
    else used_earlier position (slice_get kept.earlier number)
