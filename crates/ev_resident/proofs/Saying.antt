-- What was told in the code is what the machine's step tells, as it is printed.
use Rattle.std.proofs.Common.{◌≡◌, ◌+◌, ℕ, zero, suc, Bool, true, false, cond, nat_eq, List, [], ◌∷◌, ◌++◌, length, map, Option, Some, None, refl, sym, ap, ◌∙◌, append_assoc, append-nil, arith}
use Rattle.std.specs.Prelude.{option_map, slice_get, unwrap_or}
use Rattle.std.proofs.lemmas.Bool.{eqb-true}
use Rattle.std.proofs.lemmas.Cmp.{nat_eq_equiv}
use Rattle.std.proofs.lemmas.List.{length-append}
use Rattle.ev_base.specs.declared.names.Msg.{Msg}
use Rattle.ev_base.specs.declared.names.Name.{Name as ShownName}
use Rattle.ev_base.specs.declared.names.Name.TheVariants as shown
use Rattle.def_run.specs.Names as local
use Rattle.def_machine.specs.Values.{Name, Root, Promise, Gift, answer_of, key, word_of, Prom, Mess}
use Rattle.def_machine.proofs.Keys.{word_key}
use Rattle.def_run.specs.Shown.{shown_name, shown_gift, msg_of}
use Rattle.ev_intro.specs.Word.{Drawn}
use Rattle.ev_refs.specs.Reading.{knowns_by}
use Rattle.ev_refs.specs.References.{References}
use Rattle.ev_refs.specs.declared.known.Known.{Known}
use Rattle.def_machine.specs.Values.{Words}
use Rattle.ev_resident.specs.Names.{Entry, Named, told_at, unless_told, with_told, answer_name, host_in, gift_at, with_name, named_as, names_first, one_named, all_named}
use Rattle.ev_resident.specs.NamesStanding.{Says, Stands, printed, mails_of}
use Rattle.ev_resident.proofs.Places.{place_is}

-- ---- names

pub answer_shown : (d : Drawn) (h : ℕ) (ms : List Msg) (m : ℕ) → answer_name h (slice_get ms m) ≡ printed d (answer_of h (local.mail_at (mails_of ms) (Mess m)))
unfolding local.mail_at answer_of shown_name msg_of
answer_shown d h [] m = refl
answer_shown d h (x ∷ ms) zero = refl
answer_shown d h (x ∷ ms) (suc m) = answer_shown d h ms m

hosts_from : (ts : List Words) (n : ℕ) (ks : List Known) (k : ℕ) → local.host_among (knowns_by ts n ks) (Prom k) ≡ unwrap_or (option_map (λ (e : Known). e.host) (slice_get ks k)) zero
unfolding local.host_among knowns_by
hosts_from ts n [] k = refl
hosts_from ts n (e ∷ ks) zero = refl
hosts_from ts n (e ∷ ks) (suc k) = hosts_from ts (suc n) ks k

pub host_is : (ts : List Words) (r : References) (k : ℕ) → host_in r k ≡ local.host_among (knowns_by ts 0 r.known) (Prom k)
host_is ts r k = sym (hosts_from ts 0 r.known k)

pub gift_shown : (d : Drawn) (h i : ℕ) → gift_at d h (word_of i) ≡ printed d (Gift h i)
unfolding shown_name shown_gift
gift_shown d h i = ap (λ (n : ℕ). shown.Gift h n) (place_is d (word_of i))

pub key_shown : (d : Drawn) (h p w : ℕ) → gift_at d h w ≡ printed d (Gift h (key p w))
key_shown d h p w = ap (λ (n : ℕ). gift_at d h n) (sym (word_key p w)) ∙ gift_shown d h (key p w)

-- ---- what is told of a number

-- the second where the first is none
abbrev or_else : {A : Type 0} → Option A → Option A → Option A
or_else None o = o
or_else (Some x) o = Some x

chosen : {A : Type 0} (b : Bool) (x : A) (o p : Option A) → cond b (Some x) (or_else o p) ≡ or_else (cond b (Some x) o) p
chosen true x o p = refl
chosen false x o p = refl

behind : (k : ℕ) (es : List Entry) (e : Entry) → told_at k (es ++ e ∷ []) ≡ or_else (told_at k es) (cond (nat_eq k e.number) (Some e.name) None)
unfolding told_at
behind k [] e = refl
behind k (x ∷ es) e =
    ap (λ (o : Option ShownName). cond (nat_eq k x.number) (Some x.name) o) (behind k es e)
    ∙ chosen (nat_eq k x.number) x.name (told_at k es) (cond (nat_eq k e.number) (Some e.name) None)

abbrev picked : {A : Type 0} → Bool → A → A → A
picked b x y = elim b [ true ↦ x | false ↦ y ]

picked_is : (b : Bool) (x y : Option Name) → picked b x y ≡ cond b x y
picked_is true x y = refl
picked_is false x y = refl

picked_some : (b : Bool) (x : Name) (o p : Option Name) → picked b (Some x) (or_else o p) ≡ or_else (picked b (Some x) o) p
picked_some true x o p = refl
picked_some false x o p = refl

local_behind : (k : ℕ) (ts : List local.Told) (t : local.Told) → local.told_at k (ts ++ t ∷ []) ≡ or_else (local.told_at k ts) (picked (nat_eq t.number k) (Some t.name) None)
unfolding local.told_at
local_behind k [] t = refl
local_behind k (x ∷ ts) t =
    ap (λ (o : Option Name). picked (nat_eq x.number k) (Some x.name) o) (local_behind k ts t)
    ∙ picked_some (nat_eq x.number k) x.name (local.told_at k ts) (picked (nat_eq t.number k) (Some t.name) None)

-- where something was told already, nothing more is
already : (b : Bool) (k : ℕ) (e : Entry) (es : List Entry) (x : ShownName) → nat_eq k e.number ≡ b → told_at e.number es ≡ Some x
    → told_at k es ≡ or_else (told_at k es) (cond b (Some e.name) None)
already true k e es x same some =
    let found : told_at k es ≡ Some x = ap (λ (n : ℕ). told_at n es) (eqb-true k e.number same) ∙ some in
    found ∙ ap (λ (o : Option ShownName). or_else o (Some e.name)) (sym found)
already false k e es x same some = kept (told_at k es) where
  kept : (o : Option ShownName) → o ≡ or_else o None
  kept None = refl
  kept (Some y) = refl

told_by : (o : Option ShownName) (k : ℕ) (e : Entry) (es : List Entry) → told_at e.number es ≡ o
    → told_at k (unless_told o e es) ≡ or_else (told_at k es) (cond (nat_eq k e.number) (Some e.name) None)
unfolding unless_told
told_by None k e es h = behind k es e
told_by (Some x) k e es h = already (nat_eq k e.number) k e es x refl h

pub told_with : (k : ℕ) (e : Entry) (es : List Entry) → told_at k (with_told e es) ≡ or_else (told_at k es) (cond (nat_eq k e.number) (Some e.name) None)
unfolding with_told
told_with k e es = told_by (told_at e.number es) k e es refl

map_chosen : (d : Drawn) (b : Bool) (n : Name) (o : Option Name) → or_else (option_map (printed d) o) (cond b (Some (printed d n)) None) ≡ option_map (printed d) (or_else o (cond b (Some n) None))
map_chosen d b n (Some x) = refl
map_chosen d true n None = refl
map_chosen d false n None = refl

-- one more is told
pub says_more : (d : Drawn) (es : List Entry) (ts : List local.Told) (k : ℕ) (x : ShownName) (n : Name) → x ≡ printed d n → Says d es ts
    → Says d (with_told (record { number = k; name = x }) es) (ts ++ record { number = k; name = n } ∷ [])
says_more d es ts k x n e says j =
    told_with j (record { number = k; name = x }) es
    ∙ ap (λ (o : Option ShownName). or_else o (cond (nat_eq j k) (Some x) None)) (says j)
    ∙ ap (λ (y : ShownName). or_else (option_map (printed d) (local.told_at j ts)) (cond (nat_eq j k) (Some y) None)) e
    ∙ map_chosen d (nat_eq j k) n (local.told_at j ts)
    ∙ ap (λ (b : Bool). option_map (printed d) (or_else (local.told_at j ts) (cond b (Some n) None))) (nat_eq_equiv.symm j k)
    ∙ ap (λ (o : Option Name). option_map (printed d) (or_else (local.told_at j ts) o)) (sym (picked_is (nat_eq k j) (Some n) None))
    ∙ ap (λ (o : Option Name). option_map (printed d) o) (sym (local_behind j ts (record { number = k; name = n })))

-- nothing more is told
pub says_same : (d : Drawn) (es : List Entry) (ts : List local.Told) → Says d es ts → Says d es (ts ++ [])
says_same d es ts says j = says j ∙ ap (λ (us : List local.Told). option_map (printed d) (local.told_at j us)) (sym (append-nil ts))

-- ---- the names of numbers

-- the next name, by what was told of its number, and so many more
abbrev next_of : ℕ → List local.Told → ℕ → ℕ → ℕ → Option Name → List Name
next_of u ts k p n o = elim o [ Some x ↦ x ∷ local.named_from u ts (suc k) p n | None ↦ Promise u p ∷ local.named_from u ts (suc k) (suc p) n ]

next_is : (u : ℕ) (ts : List local.Told) (k p n : ℕ) → local.named_from u ts k p (suc n) ≡ next_of u ts k p n (local.told_at k ts)
unfolding local.named_from
next_is u ts k p n = refl

module _ (d : Drawn) (es : List Entry) (ts : List local.Told) where
  abbrev Grows : ℕ → Type 0
  Grows n = (t : Named) → (all_named es n t).naming.names ≡ t.naming.names ++ map (printed d) (local.named_from t.naming.vat ts (length t.naming.names) t.promises n)

  grows_by : (n : ℕ) → Grows n → (o : Option Name) (t : Named)
      → (all_named es n (named_as (option_map (printed d) o) t)).naming.names ≡ t.naming.names ++ map (printed d) (next_of t.naming.vat ts (length t.naming.names) t.promises n o)
  unfolding named_as with_name shown_name
  grows_by n ih (Some x) t =
      let long = length-append t.naming.names (printed d x ∷ []) in
      let next : length (t.naming.names ++ printed d x ∷ []) ≡ suc (length t.naming.names) = omega (arith, long) in
      ih (with_name (printed d x) t)
      ∙ append_assoc t.naming.names (printed d x ∷ []) (map (printed d) (local.named_from t.naming.vat ts (length (t.naming.names ++ printed d x ∷ [])) t.promises n))
      ∙ ap (λ (k : ℕ). t.naming.names ++ printed d x ∷ map (printed d) (local.named_from t.naming.vat ts k t.promises n)) next
  grows_by n ih None t =
      let y = shown.Own t.naming.vat t.promises in
      let long = length-append t.naming.names (y ∷ []) in
      let next : length (t.naming.names ++ y ∷ []) ≡ suc (length t.naming.names) = omega (arith, long) in
      let more : t.promises + 1 ≡ suc t.promises = omega arith in
      ih (with_name y (record t { promises = t.promises + 1 }))
      ∙ append_assoc t.naming.names (y ∷ []) (map (printed d) (local.named_from t.naming.vat ts (length (t.naming.names ++ y ∷ [])) (t.promises + 1) n))
      ∙ ap (λ (k : ℕ). t.naming.names ++ y ∷ map (printed d) (local.named_from t.naming.vat ts k (t.promises + 1) n)) next
      ∙ ap (λ (p : ℕ). t.naming.names ++ y ∷ map (printed d) (local.named_from t.naming.vat ts (suc (length t.naming.names)) p n)) more

  -- the names that come to be known are those of the machine's step
  pub names_grow : Says d es ts → (n : ℕ) → Grows n
  unfolding all_named one_named
  names_grow says zero t = unfold local.named_from in sym (append-nil t.naming.names)
  names_grow says (suc n) t =
      let k = length t.naming.names in
      ap (λ (o : Option ShownName). (all_named es n (named_as o t)).naming.names) (says k)
      ∙ grows_by n (names_grow says n) (local.told_at k ts) t
      ∙ ap (λ (ns : List Name). t.naming.names ++ map (printed d) ns) (sym (next_is t.naming.vat ts k t.promises n))

-- ---- what stays

pub record IsBeside (t u : Named) : Type 0 where
  pub vat : u.naming.vat ≡ t.naming.vat
  pub mails : u.naming.mails ≡ t.naming.mails
  pub objects : u.naming.objects ≡ t.naming.objects

stays_by : (o : Option ShownName) (t : Named) → IsBeside t (named_as o t)
unfolding named_as with_name
stays_by (Some n) t = record { vat = refl; mails = refl; objects = refl }
stays_by None t = record { vat = refl; mails = refl; objects = refl }

-- but for the names and the count of promises all is as it was
pub beside_stays : (es : List Entry) (n : ℕ) (t : Named) → IsBeside t (all_named es n t)
unfolding all_named one_named
beside_stays es zero t = record { vat = refl; mails = refl; objects = refl }
beside_stays es (suc n) t =
    let a = stays_by (told_at (length t.naming.names) es) t in
    let b = beside_stays es n (one_named es t) in
    record { vat = b.vat ∙ a.vat; mails = b.mails ∙ a.mails; objects = b.objects ∙ a.objects }

-- ---- the start

roots_printed : (d : Drawn) (knows : List ℕ) → map shown.Root knows ≡ map (printed d) (map Root knows)
unfolding shown_name
roots_printed d [] = refl
roots_printed d (v ∷ vs) = ap (λ (ns : List ShownName). shown.Root v ∷ ns) (roots_printed d vs)

pub first_stand : (d : Drawn) (v : ℕ) (knows : List ℕ) (vats : ℕ) → Stands d (record { known = Root v ∷ map Root knows; mails = [] }) (names_first v knows vats)
unfolding shown_name
first_stand d v knows vats = record { known = ap (λ (ns : List ShownName). shown.Root v ∷ ns) (roots_printed d knows); mails = refl }
