-- Streams of bytes and the frames in them.
use Rattle.std.proofs.Common.{◌≡◌, inl, inr, ℕ, zero, suc, ◌+◌, ◌-◌, ◌<◌, ◌≤◌, ◌^◌, Bool, true, false, List, [], ◌∷◌, ◌++◌, take, drop, length, refl, sym, ap, subst, ◌∙◌, append_assoc, length-append, get_or, arith}
use Rattle.std.proofs.lemmas.List.{append-nil, length-take-le, take-append-drop, take_at, drop_at}
use Rattle.std.proofs.lemmas.Bool.{eqb-true, eqb-false}
use Rattle.std.proofs.lemmas.Nat.{from_le_bytes-to_le_bytes_8, le_bytes_8}
use Rattle.std.specs.Int.{w64, from_le_bytes, to_le_bytes}
use Rattle.std.specs.Prelude.{◌⊎◌, ◌==◌}
use Rattle.ev_ways.specs.LinkStatements.{BytesTell, PiecesJoin}
use Rattle.ev_ways.specs.Streams.{AreCut, Fit, Holds, IsFront, IsSound, IsUnfinished, all_framed, framed, stream}
use Rattle.ev_ways.specs.Way.{Way, put}

-- ---- the length in front

-- what stands in front of a frame says its length
says_length : (f s : List ℕ) → length f < 2 ^ 64 → from_le_bytes w64 (take 8 (framed f ++ s)) ≡ length f
unfolding framed
says_length f s l =
    ap (from_le_bytes w64) (ap (take 8) (append_assoc (to_le_bytes w64 (length f)) f s) ∙ take_at (to_le_bytes w64 (length f)) (f ++ s) 8 refl)
    ∙ from_le_bytes-to_le_bytes_8 (length f) l

-- behind its length stand its bytes
behind_length : (f s : List ℕ) → drop 8 (framed f ++ s) ≡ f ++ s
unfolding framed
behind_length f s = ap (drop 8) (append_assoc (to_le_bytes w64 (length f)) f s) ∙ drop_at (to_le_bytes w64 (length f)) (f ++ s) 8 refl

pub length_framed : (f : List ℕ) → length (framed f) ≡ 8 + length f
unfolding framed
length_framed f = length-append (to_le_bytes w64 (length f)) f

-- ---- the bytes tell

-- Where a whole frame stands in front, the bytes are not unfinished.
is_finished : (f s : List ℕ) → length f < 2 ^ 64 → IsUnfinished (framed f ++ s) → ⊥
is_finished f s l (inl e) = let k : length (framed f ++ s) ≡ length (framed f) + length s = length-append (framed f) s in let m = length_framed f in omega arith
is_finished f s l (inr e) =
    let k : length (framed f ++ s) ≡ length (framed f) + length s = length-append (framed f) s in
    let m = length_framed f in
    let n = says_length f s l in
    omega arith

pub record Alike (f g s t : List ℕ) : Type 0 where
  pub front : f ≡ g
  pub rest : s ≡ t

fronts_alike : (f g s t : List ℕ) → length f < 2 ^ 64 → length g < 2 ^ 64 → framed f ++ s ≡ framed g ++ t → Alike f g s t
fronts_alike f g s t l m e =
    let long : length f ≡ length g = sym (says_length f s l) ∙ ap (λ (bs : List ℕ). from_le_bytes w64 (take 8 bs)) e ∙ says_length g t m in
    let same : f ++ s ≡ g ++ t = sym (behind_length f s) ∙ ap (drop 8) e ∙ behind_length g t in
    record {
      front = sym (take_at f s (length f) refl) ∙ ap (take (length f)) same ∙ take_at g t (length f) (sym long);
      rest = sym (drop_at f s (length f) refl) ∙ ap (drop (length f)) same ∙ drop_at g t (length f) (sym long);
    }

pub record SameFrames (fs gs : List (List ℕ)) (p q : List ℕ) : Type 0 where
  pub frames : fs ≡ gs
  pub part : p ≡ q

same_frames : (fs gs : List (List ℕ)) (p q : List ℕ) → Fit fs → Fit gs → IsUnfinished p → IsUnfinished q → all_framed fs ++ p ≡ all_framed gs ++ q → SameFrames fs gs p q
unfolding all_framed
same_frames [] [] p q h k u v e = record { frames = refl; part = e }
same_frames [] (g ∷ gs) p q h k u v e = absurd (is_finished g (all_framed gs ++ q) k.0 (subst IsUnfinished (e ∙ append_assoc (framed g) (all_framed gs) q) u))
same_frames (f ∷ fs) [] p q h k u v e = absurd (is_finished f (all_framed fs ++ p) h.0 (subst IsUnfinished (sym e ∙ append_assoc (framed f) (all_framed fs) p) v))
same_frames (f ∷ fs) (g ∷ gs) p q h k u v e =
    let a = fronts_alike f g (all_framed fs ++ p) (all_framed gs ++ q) h.0 k.0 (sym (append_assoc (framed f) (all_framed fs) p) ∙ e ∙ append_assoc (framed g) (all_framed gs) q) in
    let r = same_frames fs gs p q h.1 k.1 u v a.rest in
    record { frames = ap (λ (x : List ℕ). x ∷ fs) a.front ∙ ap (λ (xs : List (List ℕ)). g ∷ xs) r.frames; part = r.part }

abbrev way : List (List ℕ) → List ℕ → Bool → Way
way fs p cut = record { frames = fs; part = p; is_cut = cut }

same_way : (fs gs : List (List ℕ)) (p q : List ℕ) (j k : Bool) → fs ≡ gs → p ≡ q → j ≡ k → way fs p j ≡ way gs q k
same_way fs gs p q j k a b c = ap (λ (xs : List (List ℕ)). way xs p j) a ∙ ap (λ (bs : List ℕ). way gs bs j) b ∙ ap (λ (cut : Bool). way gs q cut) c

pub bytes_tell : BytesTell
unfolding stream
bytes_tell bytes v w h k =
    let s = same_frames v.frames w.frames v.part w.part h.sound.fit k.sound.fit h.sound.unfinished k.sound.unfinished (h.bytes_are ∙ sym k.bytes_are) in
    same_way v.frames w.frames v.part w.part v.is_cut w.is_cut s.frames s.part (h.uncut ∙ sym k.uncut)

pub pieces_join : PiecesJoin
pieces_join a b u v w x h k l =
    bytes_tell (stream u ++ (a ++ b)) w x
    (record { bytes_are = k.bytes_are ∙ ap (λ (bs : List ℕ). bs ++ b) h.bytes_are ∙ append_assoc (stream u) a b; sound = k.sound; uncut = k.uncut })
    l

-- ---- frames are cut out

pub fit_join : (fs gs : List (List ℕ)) → Fit fs → Fit gs → Fit (fs ++ gs)
fit_join [] gs h k = k
fit_join (f ∷ fs) gs h k = (h.0, fit_join fs gs h.1 k)

pub fit_rest : (fs : List (List ℕ)) → Fit fs → Fit (drop 1 fs)
fit_rest [] h = tt
fit_rest (f ∷ fs) h = h.1

pub framed_join : (fs gs : List (List ℕ)) (s : List ℕ) → all_framed (fs ++ gs) ++ s ≡ all_framed fs ++ (all_framed gs ++ s)
unfolding all_framed
framed_join [] gs s = refl
framed_join (f ∷ fs) gs s =
    append_assoc (framed f) (all_framed (fs ++ gs)) s ∙ ap (λ (bs : List ℕ). framed f ++ bs) (framed_join fs gs s) ∙ sym (append_assoc (framed f) (all_framed fs) (all_framed gs ++ s))

pub framed_one : (f : List ℕ) (s : List ℕ) → all_framed (f ∷ []) ++ s ≡ framed f ++ s
unfolding all_framed
framed_one f s = ap (λ (bs : List ℕ). bs ++ s) (append-nil (framed f))

pub none_cut : (fs : List (List ℕ)) (bytes : List ℕ) → AreCut fs bytes fs bytes
unfolding all_framed
none_cut fs bytes = record { more = []; grown = sym (append-nil fs); spelled = refl; fit = tt }

pub one_cut : (fs gs hs : List (List ℕ)) (bytes rest f s : List ℕ) → AreCut fs bytes gs rest → IsFront rest f s → hs ≡ gs ++ f ∷ [] → AreCut fs bytes hs s
one_cut fs gs hs bytes rest f s c h e = record {
  more = c.more ++ f ∷ [];
  grown = e ∙ ap (λ (xs : List (List ℕ)). xs ++ f ∷ []) c.grown ∙ append_assoc fs c.more (f ∷ []);
  spelled = c.spelled ∙ ap (λ (bs : List ℕ). all_framed c.more ++ bs) (h.spelled ∙ sym (framed_one f s)) ∙ sym (framed_join c.more (f ∷ []) s);
  fit = fit_join c.more (f ∷ []) c.fit (h.fits, tt);
}

-- what stands behind a frame is shorter
pub front_shorter : (bytes f s : List ℕ) → IsFront bytes f s → length s < length bytes
front_shorter bytes f s h = let k : length bytes ≡ length (framed f) + length s = ap (λ (bs : List ℕ). length bs) h.spelled ∙ length-append (framed f) s in let m = length_framed f in omega arith

-- the frames take up what is not left
pub cut_left : (fs gs : List (List ℕ)) (bytes rest : List ℕ) → AreCut fs bytes gs rest → (length rest ≤ length bytes) × (drop (length bytes - length rest) bytes ≡ rest)
cut_left fs gs bytes rest c =
    let k : length bytes ≡ length (all_framed c.more) + length rest = ap (λ (bs : List ℕ). length bs) c.spelled ∙ length-append (all_framed c.more) rest in
    (omega arith, let m : length (all_framed c.more) ≡ length bytes - length rest = omega arith in ap (drop (length bytes - length rest)) c.spelled ∙ drop_at (all_framed c.more) rest (length bytes - length rest) m)

-- the frames that were there stand in front
pub cut_front : (fs gs : List (List ℕ)) (bytes rest : List ℕ) → AreCut fs bytes gs rest → take (length fs) gs ≡ fs
cut_front fs gs bytes rest c = ap (take (length fs)) c.grown ∙ take_at fs c.more (length fs) refl

-- the frames are sound once some are cut out of what has come
pub cut_sound : (fs gs : List (List ℕ)) (part bytes rest left : List ℕ) → IsSound fs part → AreCut fs bytes gs rest → IsUnfinished rest → left ≡ rest → IsSound gs left
cut_sound fs gs part bytes rest left h c u e = record { fit = subst Fit (sym c.grown) (fit_join fs c.more h.fit c.fit); unfinished = subst IsUnfinished (sym e) u }

-- what a link is then
pub cut_holds : (v : Way) (fs gs : List (List ℕ)) (part piece bytes rest left : List ℕ) (cut : Bool) → record { frames = fs; part = part; is_cut = cut } ≡ v → v.is_cut ≡ false → IsSound fs part → bytes ≡ part ++ piece
    → AreCut fs bytes gs rest → IsUnfinished rest → left ≡ rest → Holds (stream v ++ piece) (record { frames = gs; part = left; is_cut = cut })
unfolding stream
cut_holds v fs gs part piece bytes rest left cut e uncut h b c u l = record {
  bytes_are =
      ap (λ (xs : List (List ℕ)). all_framed xs ++ left) c.grown ∙ ap (λ (bs : List ℕ). all_framed (fs ++ c.more) ++ bs) l ∙ framed_join fs c.more rest
      ∙ ap (λ (bs : List ℕ). all_framed fs ++ bs) (sym c.spelled ∙ b) ∙ sym (append_assoc (all_framed fs) part piece) ∙ ap (λ (w : Way). all_framed w.frames ++ w.part ++ piece) e;
  sound = cut_sound fs gs part bytes rest left h c u l;
  uncut = ap (λ (w : Way). w.is_cut) e ∙ uncut;
}

-- what a test of the length tells
pub none_left : (xs : List ℕ) → true ≡ (length xs == 0) → xs ≡ []
none_left [] e = refl
none_left (x ∷ xs) e = let k : suc (length xs) ≡ 0 = eqb-true (suc (length xs)) 0 (sym e) in absurd (omega arith)

pub some_left : (xs : List ℕ) → false ≡ (length xs == 0) → 0 < length xs
some_left [] e = let k : 0 ≡ 0 → ⊥ = eqb-false 0 0 (sym e) in absurd (k refl)
some_left (x ∷ xs) e = omega arith

-- ---- the frame in front

bytes_front : (n : ℕ) (bytes : List ℕ) → ((i : ℕ) → get_or bytes i 0 < 256) → (i : ℕ) → get_or (take n bytes) i 0 < 256
bytes_front zero bytes h i = omega arith
bytes_front (suc n) [] h i = h i
bytes_front (suc n) (b ∷ bytes) h zero = h zero
bytes_front (suc n) (b ∷ bytes) h (suc i) = bytes_front n bytes (λ j. h (suc j)) i

pub front_is : (bytes head rest f s : List ℕ) (n : ℕ) → ((i : ℕ) → get_or bytes i 0 < 256) → 8 ≤ length bytes → head ≡ take 8 bytes → n ≡ from_le_bytes w64 head → n < 2 ^ 64 → rest ≡ drop 8 bytes
    → n ≤ length rest → f ≡ take n rest → s ≡ drop n rest → IsFront bytes f s
unfolding framed
front_is bytes head rest f s n range enough at says small behind within front back =
    let long : length head ≡ 8 = ap (λ (bs : List ℕ). length bs) at ∙ length-take-le 8 bytes enough in
    let written : to_le_bytes w64 n ≡ head = le_bytes_8 head n long (subst (λ (bs : List ℕ). (i : ℕ) → get_or bs i 0 < 256) (sym at) (bytes_front 8 bytes range)) says in
    let size : length f ≡ n = ap (λ (bs : List ℕ). length bs) front ∙ length-take-le n rest within in
    let parts : f ++ s ≡ rest = ap (λ (bs : List ℕ). bs ++ s) front ∙ ap (λ (bs : List ℕ). take n rest ++ bs) back ∙ take-append-drop n rest in
    record {
      spelled =
          sym (take-append-drop 8 bytes) ∙ ap (λ (bs : List ℕ). bs ++ drop 8 bytes) (sym at) ∙ ap (λ (bs : List ℕ). head ++ bs) (sym behind ∙ sym parts) ∙ sym (append_assoc head f s)
          ∙ ap (λ (bs : List ℕ). bs ++ f ++ s) (sym written ∙ ap (λ (k : ℕ). to_le_bytes w64 k) (sym size));
      fits = subst (λ (k : ℕ). k < 2 ^ 64) (sym size) small;
    }

-- ---- a frame that comes in pieces

-- So much of a frame has come behind these frames, and the rest has not.
pub record IsComing (frames : List (List ℕ)) (frame rest : List ℕ) (w : Way) : Type 0 where
  pub come : List ℕ
  pub parts : frame ≡ come ++ rest
  pub holds : Holds (all_framed frames ++ (to_le_bytes w64 (length frame) ++ come)) w

pub comes_first : (v w : Way) (frame : List ℕ) → v.part ≡ [] → Holds (stream v ++ to_le_bytes w64 (length frame)) w → IsComing v.frames frame frame w
unfolding stream
comes_first v w frame e h = record {
  come = [];
  parts = refl;
  holds = subst (λ (bs : List ℕ). Holds bs w) (ap (λ (bs : List ℕ). all_framed v.frames ++ bs ++ to_le_bytes w64 (length frame)) e ∙ ap (λ (bs : List ℕ). bs ++ to_le_bytes w64 (length frame)) (append-nil (all_framed v.frames))
      ∙ ap (λ (bs : List ℕ). all_framed v.frames ++ bs) (sym (append-nil (to_le_bytes w64 (length frame))))) h;
}

pub comes_next : (frames : List (List ℕ)) (frame rest piece behind : List ℕ) (v w : Way) → IsComing frames frame rest v → rest ≡ piece ++ behind → (v.is_cut ≡ false → Holds (stream v ++ piece) w) → IsComing frames frame behind w
comes_next frames frame rest piece behind v w c e h = record {
  come = c.come ++ piece;
  parts = c.parts ∙ ap (λ (bs : List ℕ). c.come ++ bs) e ∙ sym (append_assoc c.come piece behind);
  holds = subst (λ (bs : List ℕ). Holds bs w) (ap (λ (bs : List ℕ). bs ++ piece) c.holds.bytes_are ∙ append_assoc (all_framed frames) (to_le_bytes w64 (length frame) ++ c.come) piece
      ∙ ap (λ (bs : List ℕ). all_framed frames ++ bs) (append_assoc (to_le_bytes w64 (length frame)) c.come piece)) (h c.holds.uncut);
}

-- all of it has come
pub has_come : (v w : Way) (frame : List ℕ) → Fit v.frames → v.part ≡ [] → v.is_cut ≡ false → length frame < 2 ^ 64 → IsComing v.frames frame [] w → w ≡ put frame v
unfolding stream framed all_framed
has_come v w frame fit none uncut small c =
    let whole : w ≡ record { frames = v.frames ++ frame ∷ []; part = []; is_cut = false } =
    bytes_tell (all_framed v.frames ++ (to_le_bytes w64 (length frame) ++ c.come)) w (record { frames = v.frames ++ frame ∷ []; part = []; is_cut = false }) c.holds
    (record {
      bytes_are = framed_join v.frames (frame ∷ []) [] ∙ ap (λ (bs : List ℕ). all_framed v.frames ++ bs) (append-nil (framed frame ++ []) ∙ append-nil (framed frame)
          ∙ ap (λ (bs : List ℕ). to_le_bytes w64 (length frame) ++ bs) (c.parts ∙ append-nil c.come));
      sound = record { fit = fit_join v.frames (frame ∷ []) fit (small, tt); unfinished = inl (omega arith) };
      uncut = refl;
    }) in
    whole ∙ cc

-- as long as some has not come the frames are those that were there
pub comes_still : (frames : List (List ℕ)) (frame rest : List ℕ) (w : Way) → Fit frames → length frame < 2 ^ 64 → 0 < length rest → IsComing frames frame rest w → (w.frames ≡ frames) × (w.is_cut ≡ false)
unfolding stream
comes_still frames frame rest w fit small some c =
    let long : length frame ≡ length c.come + length rest = ap (λ (bs : List ℕ). length bs) c.parts ∙ length-append c.come rest in
    let size : length (to_le_bytes w64 (length frame) ++ c.come) ≡ 8 + length c.come = length-append (to_le_bytes w64 (length frame)) c.come in
    let says : from_le_bytes w64 (take 8 (to_le_bytes w64 (length frame) ++ c.come)) ≡ length frame = ap (from_le_bytes w64) (take_at (to_le_bytes w64 (length frame)) c.come 8 refl) ∙ from_le_bytes-to_le_bytes_8 (length frame) small in
    let same = bytes_tell (all_framed frames ++ (to_le_bytes w64 (length frame) ++ c.come)) w (record { frames = frames; part = to_le_bytes w64 (length frame) ++ c.come; is_cut = false }) c.holds
    (record { bytes_are = refl; sound = record { fit = fit; unfinished = inr (omega arith) }; uncut = refl }) in
    (ap (λ (x : Way). x.frames) same, c.holds.uncut)
