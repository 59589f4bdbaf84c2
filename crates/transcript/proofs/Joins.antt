-- Texts taken one behind the other.
use Rattle.std.proofs.Common.{◌≡◌, ◌≤◌, ℕ, ◌+◌, List, [], ◌++◌, take, length, refl, sym, ap, ◌∙◌, subst, append_assoc, arith, Bool}
use Rattle.std.specs.Prelude.{Result, Ok, Err, OnOk, IfErr, IsErrAnd}
use Rattle.std.proofs.lemmas.List.{append-nil, length-append, take-append-le}
use Rattle.std.proofs.Math.Seq.{take-append-add}
use Rattle.tex_defs.specs.Places.{File, Untold, NotHeld, Holds, grown, Rose}
use Rattle.plain_state.specs.Reports.{in_line_after}
use Rattle.world_io.specs.Contents.{SinkTold}
use Rattle.world_io.specs.declared.traits.Fault.{Fault}
use Rattle.transcript.specs.Taken.{Took, TookFront}
use Rattle.transcript.proofs.Columns.{in_line_join}

grown_twice : (o : File) (a b : List ℕ) → grown (grown o a) b ≡ grown o (a ++ b)
grown_twice Untold a b = refl
grown_twice NotHeld a b = refl
grown_twice (Holds x) a b = ap Holds (append_assoc x a b)

grown_none : (o : File) → o ≡ grown o []
grown_none Untold = refl
grown_none NotHeld = refl
grown_none (Holds x) = ap Holds (sym (append-nil x))

pub took_nothing : (s : SinkTold) (b : Bool) → Took s s b b []
took_nothing s b = record { bytes = grown_none s.bytes; column = refl; later = omega arith; later_wants = omega arith }

pub took_both : (s s' s'' : SinkTold) (b b' b'' : Bool) (a c : List ℕ) → Took s s' b b' a → Took s' s'' b' b'' c → Took s s'' b b'' (a ++ c)
took_both s s' s'' b b' b'' a c t u = record {
  bytes = u.bytes ∙ ap (λ (o : File). grown o c) t.bytes ∙ grown_twice s.bytes a c;
  column = u.column ∙ ap (λ (x : Bool). in_line_after x c) t.column ∙ sym (in_line_join b a c);
  later = omega (arith, t.later, u.later);
  later_wants = omega (arith, t.later_wants, u.later_wants);
}

rose_on : (a b c : ℕ) → a ≤ b → Rose b c → Rose a c
rose_on a b c le h = omega (arith, le, h)

-- a front of the first is a front of both
pub front_first : (s s' : SinkTold) (b b' : Bool) (a c : List ℕ) (fault : Fault) → TookFront s s' b b' a fault → TookFront s s' b b' (a ++ c) fault
front_first s s' b b' a c fault f = record {
  count = f.count;
  short = omega (arith, f.short, length-append a c);
  took = subst (λ (x : List ℕ). Took s s' b b' x) (sym (take-append-le f.count a c (omega (arith, f.short)))) f.took;
  failed = f.failed;
  wanted = f.wanted;
}

-- the first, and a front of the second, are a front of both
pub front_later : (s s' s'' : SinkTold) (b b' b'' : Bool) (a c : List ℕ) (fault : Fault) → Took s s' b b' a → TookFront s' s'' b' b'' c fault → TookFront s s'' b b'' (a ++ c) fault
front_later s s' s'' b b' b'' a c fault t f = record {
  count = length a + f.count;
  short = omega (arith, f.short, length-append a c);
  took = subst (λ (x : List ℕ). Took s s'' b b'' x) (sym (take-append-add a c f.count)) (took_both s s' s'' b b' b'' a (take f.count c) t f.took);
  failed = λ e. rose_on _ _ _ t.later (f.failed e);
  wanted = λ e. rose_on _ _ _ t.later_wants (f.wanted e);
}

-- It has taken all of a text but what is left of it.
pub record Taking (s s' : SinkTold) (b b' : Bool) (left whole : List ℕ) : Type 0 where
  pub done : List ℕ
  pub took : Took s s' b b' done
  pub parts : whole ≡ done ++ left

pub taking_first : (s : SinkTold) (b : Bool) (text : List ℕ) → Taking s s b b text text
taking_first s b text = record { done = []; took = took_nothing s b; parts = refl }

pub taking_on : (s s' s'' : SinkTold) (b b' b'' : Bool) (left piece left' whole : List ℕ) → Taking s s' b b' left whole → left ≡ piece ++ left' → Took s' s'' b' b'' piece → Taking s s'' b b'' left' whole
taking_on s s' s'' b b' b'' left piece left' whole t e u = record {
  done = t.done ++ piece;
  took = took_both s s' s'' b b' b'' t.done piece t.took u;
  parts = t.parts ∙ ap (λ (x : List ℕ). t.done ++ x) e ∙ sym (append_assoc t.done piece left');
}

pub taking_all : (s s' : SinkTold) (b b' : Bool) (left whole : List ℕ) → Taking s s' b b' left whole → left ≡ [] → Took s s' b b' whole
taking_all s s' b b' left whole t none =
    subst (λ (x : List ℕ). Took s s' b b' x) (sym (t.parts ∙ ap (λ (x : List ℕ). t.done ++ x) none ∙ append-nil t.done)) t.took

pub taking_front : (s s' s'' : SinkTold) (b b' b'' : Bool) (left piece left' whole : List ℕ) (fault : Fault) → Taking s s' b b' left whole → left ≡ piece ++ left' → TookFront s' s'' b' b'' piece fault → TookFront s s'' b b'' whole fault
taking_front s s' s'' b b' b'' left piece left' whole fault t e f =
    let g : TookFront s' s'' b' b'' left fault = subst (λ (x : List ℕ). TookFront s' s'' b' b'' x fault) (sym e) (front_first s' s'' b' b'' piece left' fault f) in
    subst (λ (x : List ℕ). TookFront s s'' b b'' x fault) (sym t.parts) (front_later s s' s'' b b' b'' t.done left fault t.took g)

-- what holds of an error holds of the one that `?` gives back
pub same_err : {T : Type 0} → (r : Result T Fault) (x : Fault) (P : Fault → Type 0) → IsErrAnd r (λ e. e ≡ x) → P x → IfErr r P
same_err (Ok y) x P h p = tt
same_err (Err e) x P h p = subst P (sym h) p

-- behind a text that was taken, the answer of a call that writes another
pub both_ok : (r : Result Unit Fault) (s s' s'' : SinkTold) (b b' b'' : Bool) (a c : List ℕ) → Took s s' b b' a → OnOk r (Took s' s'' b' b'' c) → OnOk r (Took s s'' b b'' (a ++ c))
both_ok (Ok y) s s' s'' b b' b'' a c t u = took_both s s' s'' b b' b'' a c t u
both_ok (Err e) s s' s'' b b' b'' a c t u = tt

pub both_err : (r : Result Unit Fault) (s s' s'' : SinkTold) (b b' b'' : Bool) (a c : List ℕ) → Took s s' b b' a → IfErr r (λ fault. TookFront s' s'' b' b'' c fault) → IfErr r (λ fault. TookFront s s'' b b'' (a ++ c) fault)
both_err (Ok y) s s' s'' b b' b'' a c t f = tt
both_err (Err e) s s' s'' b b' b'' a c t f = front_later s s' s'' b b' b'' a c e t f

-- the same text in other words
pub same_ok : (r : Result Unit Fault) (s s' : SinkTold) (b b' : Bool) (a c : List ℕ) → a ≡ c → OnOk r (Took s s' b b' a) → OnOk r (Took s s' b b' c)
same_ok r s s' b b' a c e h = subst (λ (x : List ℕ). OnOk r (Took s s' b b' x)) e h

pub same_front : (r : Result Unit Fault) (s s' : SinkTold) (b b' : Bool) (a c : List ℕ) → a ≡ c → IfErr r (λ fault. TookFront s s' b b' a fault) → IfErr r (λ fault. TookFront s s' b b' c fault)
same_front r s s' b b' a c e h = subst (λ (x : List ℕ). IfErr r (λ fault. TookFront s s' b b' x fault)) e h

-- a text alone
pub alone : (text : List ℕ) → text ++ ([] ++ []) ≡ text
alone text = append-nil text
