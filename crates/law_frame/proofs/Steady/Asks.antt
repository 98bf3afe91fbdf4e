-- What the notes of a step ask for is new, where what a vat asked another for is so once it is done.
use Rattle.std.proofs.Common.{◌≡◌, ℕ, ◌<◌, Bool, true, false, List, [], ◌∷◌, ◌++◌, ◌⊎◌, inl, inr, Some, refl, sym, ap, ◌∙◌, subst, length, map, get_or, ◌==◌, append_assoc, append-nil}
use Rattle.std.specs.Prelude.{slice_get}
use Rattle.std.proofs.lemmas.List.{length-set}
use Rattle.std.proofs.lemmas.Option.{slice_get_within}
use Rattle.def_machine.specs.Values.{Name, Local, host_of, same_local}
use Rattle.def_machine.specs.State.{Note, Put, Vat}
use Rattle.def_run.specs.Connections.{Connection, Sight, asked_in, put_on}
use Rattle.def_run.specs.Wire.{connected_at}
use Rattle.law_fate.specs.Name.Names.{AllOf, IsAmong, Once}
use Rattle.law_fate.proofs.Name.Among.{all_among}
use Rattle.law_machine.specs.Renamed.Stands.{Found, Is, found}
use Rattle.law_reference.specs.Reference.Tables.{table_of}
use Rattle.law_frame.specs.Frame.Together.{TablesMay, changed_tables}
use Rattle.law_frame.specs.Frame.OwnFrames.{refers}
use Rattle.def_run.specs.Vats.{Member, connection_for, unconnected, sight_for, is_own}
use Rattle.def_run.specs.Numbers.{Vats, all_written, written_on}
use Rattle.def_run.specs.Asking.{AreNew, AskAnew}
use Rattle.def_run.specs.Seeing.{among}
use Rattle.law_frame.specs.Steady.Statements.{AsksOnce, HostsAsked}
use Rattle.law_frame.proofs.Steady.Hearing.{set_at, written_or, imports_stay, unlike}
use Rattle.law_frame.proofs.Steady.Owns.{among_found, own_by_host}
use Rattle.law_frame.proofs.Steady.Went.{Grows, Pair, is, now, table}

-- A note of vat u, which is in state s, asks for nothing, or is for another of so many vats.
abbrev pub GoesOut : ℕ → ℕ → Vat Local → Put Local → Type 0
GoesOut u n s p = (asked_in (sight_for s p.note) p.note ≡ []) ⊎ ((p.to < n) × (p.to ≡ u → ⊥))

-- ---- lists

among_first : (xs ys : List Local) (n : Local) → among (xs ++ ys) n ≡ false → among xs n ≡ false
unfolding among
among_first [] ys n e = refl
among_first (x ∷ xs) ys n e = by (same_local x n) e (among_first xs ys n)
  where
    by : (b : Bool) → ◌≡◌ {A = Bool} (elim b [ true ↦ true | false ↦ among (xs ++ ys) n ]) false → (among (xs ++ ys) n ≡ false → among xs n ≡ false) → ◌≡◌ {A = Bool} (elim b [ true ↦ true | false ↦ among xs n ]) false
    by true i next = cc
    by false i next = next i

put_questions : (S : Sight Local) (n : Note Local) (c : Connection Local) → (put_on S n c).questions ≡ c.questions ++ asked_in S n
unfolding put_on
put_questions S n c = refl

written_length : (s : Vat Local) (p : Put Local) (cs : List (Connection Local)) → length (written_on s p cs) ≡ length cs
unfolding written_on
written_length s p cs = length-set cs p.to (put_on (sight_for s p.note) p.note (get_or cs p.to unconnected))

written_at : (s : Vat Local) (p : Put Local) (cs : List (Connection Local)) → p.to < length cs → get_or (written_on s p cs) p.to unconnected ≡ put_on (sight_for s p.note) p.note (get_or cs p.to unconnected)
unfolding written_on
written_at s p cs i = set_at cs p.to (put_on (sight_for s p.note) p.note (get_or cs p.to unconnected)) unconnected i

-- ---- what is asked for, as it is written

module _ (s : Vat Local) where
  -- questions grow at the end
  questions_grow : (v : ℕ) (ps : List (Put Local)) (cs : List (Connection Local)) → (zs : List Local) × ((get_or (all_written s ps cs) v unconnected).questions ≡ (get_or cs v unconnected).questions ++ zs)
  unfolding all_written
  questions_grow v [] cs = ([], sym (append-nil (get_or cs v unconnected).questions))
  questions_grow v (p ∷ ps) cs = by (questions_grow v ps (written_on s p cs)) (written_or s v p cs)
    where
      by : (zs : List Local) × ((get_or (all_written s ps (written_on s p cs)) v unconnected).questions ≡ (get_or (written_on s p cs) v unconnected).questions ++ zs)
          → (get_or (written_on s p cs) v unconnected ≡ get_or cs v unconnected) ⊎ ((p.to ≡ v) × (p.to < length cs) × (get_or (written_on s p cs) v unconnected ≡ put_on (sight_for s p.note) p.note (get_or cs v unconnected)))
          → (zs : List Local) × ((get_or (all_written s ps (written_on s p cs)) v unconnected).questions ≡ (get_or cs v unconnected).questions ++ zs)
      by z (inl e) = (z.0, z.1 ∙ ap (λ (c : Connection Local). c.questions ++ z.0) e)
      by z (inr e) = (asked_in (sight_for s p.note) p.note ++ z.0, z.1 ∙ ap (λ (c : Connection Local). c.questions ++ z.0) e.2 ∙ ap (λ qs. qs ++ z.0) (put_questions (sight_for s p.note) p.note (get_or cs v unconnected)) ∙ append_assoc (get_or cs v unconnected).questions (asked_in (sight_for s p.note) p.note) z.0)

  -- what stands among the questions of a connection in the end is another vat's, does not stand in front of that, and was not told
  abbrev pub IsSound : Connection Local → Type 0
  IsSound c = (front rest : List Local) (n : Local) → c.questions ≡ front ++ n ∷ rest → (is_own s.number s.known n ≡ false) × (among front n ≡ false) × (among c.imports n ≡ false)

  are_new : (c F : Connection Local) → IsSound F → F.imports ≡ c.imports → (pre qs zs : List Local) → F.questions ≡ (c.questions ++ pre) ++ (qs ++ zs) → AreNew s c qs
  are_new c F sound told pre [] zs e = tt
  are_new c F sound told pre (n ∷ qs) zs e =
      let here = sound (c.questions ++ pre) (qs ++ zs) n e in (
        record { other = here.0; unasked = among_first c.questions pre n here.1; untold = ap (λ is. among is n) (sym told) ∙ here.2 },
        are_new c F sound told (pre ++ n ∷ []) qs zs (e ∙ sym (append_assoc (c.questions ++ pre) (n ∷ []) (qs ++ zs)) ∙ ap (λ xs. xs ++ (qs ++ zs)) (append_assoc c.questions pre (n ∷ []))),
      )

  module _ (u n : ℕ) where
    pub ask_anew : (ps : List (Put Local)) (cs : List (Connection Local)) → n ≡ length cs → AllOf (GoesOut u n s) ps → ((v : ℕ) → v < n → (v ≡ u → ⊥) → IsSound (get_or (all_written s ps cs) v unconnected)) → AskAnew s ps cs
    unfolding all_written
    ask_anew [] cs l out sound = tt
    ask_anew (p ∷ ps) cs l out sound = (one out.0, ask_anew ps (written_on s p cs) (l ∙ sym (written_length s p cs)) out.1 sound)
      where
        F : Connection Local
        F = get_or (all_written s ps (written_on s p cs)) p.to unconnected

        c : Connection Local
        c = get_or cs p.to unconnected

        clash : p.to < length cs → (get_or (written_on s p cs) p.to unconnected).questions ≡ c.questions ++ asked_in (sight_for s p.note) p.note
        clash i = ap (λ (z : Connection Local). z.questions) (written_at s p cs i) ∙ put_questions (sight_for s p.note) p.note c

        one : GoesOut u n s p → AreNew s c (asked_in (sight_for s p.note) p.note)
        one (inl e) = subst (AreNew s c) (sym e) tt
        one (inr o) =
            let z = questions_grow p.to ps (written_on s p cs) in let qs : List Local = asked_in (sight_for s p.note) p.note in
            are_new c F (sound p.to o.0 o.1) (imports_stay s p.to (p ∷ ps) cs) [] qs z.0
            (z.1 ∙ ap (λ xs. xs ++ z.0) (clash (subst (λ k. p.to < k) l o.0)) ∙ append_assoc c.questions qs z.0 ∙ ap (λ xs. xs ++ (qs ++ z.0)) (sym (append-nil c.questions)))

-- ---- by the names of questions

-- the names of a front, of one and of what stands behind it
pub record Parted (f : Local → Found) (xs : List Local) (n : Local) (ns : List Name) : Type 0 where
  pub before : List Name
  pub behind : List Name
  pub name : Name
  pub whole : ns ≡ before ++ name ∷ behind
  pub first : map f xs ≡ map Is before
  pub one : f n ≡ Is name

one_more : (f : Local → Found) (xs : List Local) (n a : Local) (ns : List Name) (y : Name) → f a ≡ Is y → Parted f xs n ns → Parted f (a ∷ xs) n (y ∷ ns)
one_more f xs n a ns y e r = record { before = y ∷ r.before; behind = r.behind; name = r.name; whole = ap (λ zs. y ∷ zs) r.whole; first = joined e r.first; one = r.one }
  where
    joined : {x y : Found} {xs ys : List Found} → x ≡ y → xs ≡ ys → x ∷ xs ≡ y ∷ ys
    joined e i = cc

parted : (f : Local → Found) (xs rest : List Local) (n : Local) (ns : List Name) → map f (xs ++ n ∷ rest) ≡ map Is ns → Parted f xs n ns
parted f [] rest n [] e = cc
parted f [] rest n (y ∷ ns) e = let i : f n ≡ Is y = cc in record { before = []; behind = ns; name = y; whole = refl; first = refl; one = i }
parted f (a ∷ xs) rest n [] e = cc
parted f (a ∷ xs) rest n (y ∷ ns) e = let i : f a ≡ Is y = cc in let j : map f (xs ++ n ∷ rest) ≡ map Is ns = cc in one_more f xs n a ns y i (parted f xs rest n ns j)

in_front : (x : Name) (cs bs : List Name) → Once (cs ++ x ∷ bs) → IsAmong x cs → ⊥
in_front x [] bs h i = i
in_front x (a ∷ cs) bs h (inl e) = h.0 (in_middle cs)
  where
    in_middle : (cs : List Name) → IsAmong a (cs ++ x ∷ bs)
    in_middle [] = inl (sym e)
    in_middle (c ∷ cs) = inr (in_middle cs)
in_front x (a ∷ cs) bs h (inr i) = in_front x cs bs h.1 i

in_it : (x : Name) (cs bs : List Name) → IsAmong x (cs ++ x ∷ bs)
in_it x [] bs = inl refl
in_it x (a ∷ cs) bs = inr (in_it x cs bs)

-- Vat u, which was m in numbers, is k.
module _ (X Y : Vats) (p : Pair X Y) (u : ℕ) (m k : Member) (there : slice_get X.members u ≡ Some m) (here : slice_get Y.members u ≡ Some k) (grows : Grows m.names k.names) (asks : AsksOnce p.y) (hosts : HostsAsked p.y) where
  abbrev f : Local → Found
  f = found u (table_of p.y u (is X Y p u m k there here grows).0)

  module _ (v : ℕ) (low : v < length Y.members) (other : v ≡ u → ⊥) where
    abbrev D : Connection Name
    D = (connected_at u v (let w = p.y in w.connections)).tables

    same : changed_tables f (connection_for v k) ≡ changed_tables Is D
    same = let h = now X Y p u m k there here grows in h.connections v low

    may : TablesMay refers D
    may = let h = p.after in h.references u (slice_get_within Y.members u k here) v low

    low_u : u < length (let w = p.y in w.vats)
    low_u = let h = p.after in subst (λ n. u < n) h.count (slice_get_within Y.members u k here)

    low_v : v < length (let w = p.y in w.vats)
    low_v = let h = p.after in subst (λ n. v < n) h.count low

    name_is : (a : Found) (x y : Name) → a ≡ Is x → a ≡ Is y → x ≡ y
    name_is a x y i j = cc

    not_among : (xs : List Local) (ns : List Name) (n : Local) (x : Name) → map f xs ≡ map Is ns → f n ≡ Is x → (IsAmong x ns → ⊥) → among xs n ≡ false
    not_among xs ns n x e i o = by (among xs n) refl
      where
        by : (b : Bool) → among xs n ≡ b → b ≡ false
        by false j = refl
        by true j = let g = among_found f xs ns n e j in absurd (o (subst (λ z. IsAmong z ns) (name_is (f n) g.name x g.found i) g.here))

    -- by the names of its parts
    sound_by : (front : List Local) (n : Local) → Parted f front n D.questions → (is_own k.vat.number k.vat.known n ≡ false) × (among front n ≡ false) × (among (connection_for v k).imports n ≡ false)
    sound_by front n r =
        let y = is X Y p u m k there here grows in
        let mine : IsAmong r.name D.questions = subst (IsAmong r.name) (sym r.whole) (in_it r.name r.before r.behind) in
        let host : host_of r.name ≡ v = all_among (λ n. host_of n ≡ v) D.questions r.name (hosts u v low_u low_v other) mine in (
          own_by_host p.y Y u y.0 k (table X Y p u m k there here grows) (p.hosts_now u y.0 y.1) (now X Y p u m k there here grows) n r.name r.one (all_among (λ n. refers n ≡ true) D.questions r.name (let t = may in t.questions) mine) ∙ ap (λ z. z == u) host ∙ unlike v u other,
          not_among front r.before n r.name r.first r.one (in_front r.name r.before r.behind (subst Once r.whole (asks.asked u v low_u low_v other))),
          not_among (connection_for v k).imports D.imports n r.name (ap (λ (z : Connection Found). z.imports) same) r.one (λ i. asks.untold u v low_u low_v other r.name mine i),
        )

    pub sound : IsSound k.vat (connection_for v k)
    sound front rest n e = sound_by front n (parted f front rest n D.questions (ap (map f) (sym e) ∙ ap (λ (z : Connection Found). z.questions) same))
