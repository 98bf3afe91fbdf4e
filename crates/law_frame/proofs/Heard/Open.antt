-- A link that is not cut stays so as notes are put and taken.
use Rattle.std.proofs.Common.{◌≡◌, ℕ, false, List, Some, ◌∙◌}
use Rattle.def_machine.specs.Values.{Name}
use Rattle.def_machine.specs.State.{Note, Put}
use Rattle.def_run.specs.World.{Link, with_link, with_notes, push_all}
use Rattle.law_reference.proofs.Reference.AnswerLinks.{AtLink, push_keeps, with_any}
use Rattle.law_reference.proofs.Reference.LinksCut.{fits_notes}
use Rattle.law_frame.proofs.Heard.Pairs.{pushed_cut}

abbrev pub IsOpen : Link → Type 0
IsOpen k = k.cut ≡ false

pub some_is : {A : Type 0} (p q : A) → Some p ≡ Some q → p ≡ q
some_is p q e = cc

pub open_taken : (u g a b : ℕ) (ns : List (Note Name)) (ls : List Link) → AtLink u g IsOpen ls → AtLink u g IsOpen (with_link (with_notes ns) a b ls)
unfolding with_notes
open_taken u g a b ns ls h = with_any u g a b IsOpen (with_notes ns) (fits_notes u g ns) ls (λ k e i j. h k e) (λ k e f. h k e)

pub open_pushed : (u g v : ℕ) (ps : List (Put Name)) (ls : List Link) → AtLink u g IsOpen ls → AtLink u g IsOpen (push_all v ps ls)
open_pushed u g v ps ls h = push_keeps u g v IsOpen (λ k n e. pushed_cut n k ∙ e) ps ls h
