-- What an engine knows of the next reading, and what it needs.
use Rattle.std.proofs.Common.{◌≡◌, ◌∙◌, ℕ, Bool, true, false, List, [], ◌∷◌, length, refl, sym, ap, subst, arith}
use Rattle.std.proofs.lemmas.Bool.{false≢true}
use Rattle.std.specs.Prelude.{Option, None, Some, IsSome, MatchBool}
use Rattle.plain_tokens.specs.Pending.{Pending, Progress, Begun, Closed}
use Rattle.plain_tokens.specs.Tables.{open_files}
use Rattle.line_reader.specs.Readers.{OpenReader, OpenReaders, innermost_of}
use Rattle.input_state.specs.NextBytes.{NoFile, KnowsFirst, NeedsFirst, with_bytes, with_first_bytes}
use Rattle.input_state.specs.Stored.{Stored}
use Rattle.plain_machine.specs.Extended.{Rests}
use Rattle.engine_state.specs.declared.engine.Engine.{Engine}
use Rattle.stomach.specs.Ahead.{came_in, IsGiven, Knows, IsNext, IsFirst, HasEnded, Lacks, LacksFirst, Needs}
use Rattle.stomach.specs.Read.{AreTied}
use Rattle.stomach.proofs.GivenBytes.{is_given, before}

-- NO FILE IS OPEN

none_opened : (o : Option (List ℕ)) (f : Progress) (n : ℕ) (p : Pending) → p.next ≡ o → p.file ≡ f → open_files p ≡ 0 → (o ≡ None) × (f ≡ Closed)
none_opened None Closed n p is at h = (refl, refl)
none_opened None Begun n p is at h = absurd (omega (arith, h, ap (λ (x : Progress). open_files (record p { file = x })) at))
none_opened (Some bytes) f n p is at h = absurd (omega (arith, h, ap (λ (x : Option (List ℕ)). open_files (record p { next = x })) is))

pub known_closed : (rs : OpenReaders) (e : Engine) → length rs.readers ≡ 0 → AreTied rs e → Knows e rs.readers
known_closed rs e none tied =
    let p = e.input.pending in
    let h = none_opened p.next p.file 0 p refl refl (sym tied.count ∙ none) in
    IsNext h.0 (NoFile h.1)

-- ITS END HAS COME

pub known_ended : (e : Engine) (rs : List OpenReader) → (length rs ≡ 0 → ⊥) → (innermost_of rs).ended ≡ true → Knows e rs
known_ended e [] some is = absurd (some refl)
known_ended e (r ∷ rs) some is = HasEnded r rs refl is

-- A FILE WAS OPENED

pub needs_now : (e : Engine) (rs : List OpenReader) → Lacks e → (length rs ≡ 0 → ⊥) → (innermost_of rs).ended ≡ false → Needs e rs
needs_now e [] lacks some goes = absurd (some refl)
needs_now e (r ∷ rs) lacks some goes = record { lacks = lacks; innermost = r; outer = rs; is = refl; goes_on = goes }

known_first : (e : Engine) (o : Option (List ℕ)) → e.input.pending.next ≡ o → IsSome o → KnowsFirst e.input → (rs : List OpenReader) → Knows e rs
known_first e None is h k rs = absurd (false≢true h)
known_first e (Some bytes) is h k rs = IsFirst bytes is k

pub first_needs : (b : Bool) (e : Engine) (rs : OpenReaders) → MatchBool b (NeedsFirst e.input) (KnowsFirst e.input) → IsSome e.input.pending.next → (length rs.readers ≡ 0 → ⊥) → (innermost_of rs.readers).ended ≡ false →
    MatchBool b (Needs e rs.readers) (AreTied rs e → Knows e rs.readers)
first_needs true e rs h opened some goes = needs_now e rs.readers (LacksFirst h) some goes
first_needs false e rs h opened some goes = λ tied. known_first e e.input.pending.next refl opened h rs.readers

-- BYTES ARE GIVEN

came_some : (o : Option (List ℕ)) (bytes : List ℕ) (p : Pending) → IsSome o → came_in o bytes p ≡ with_first_bytes bytes p
came_some None bytes p h = absurd (false≢true h)
came_some (Some some) bytes p h = refl

came_none : (o : Option (List ℕ)) (bytes : List ℕ) (p : Pending) → o ≡ None → came_in o bytes p ≡ with_bytes bytes p
came_none None bytes p h = refl
came_none (Some some) bytes p h = absurd cc

module _ (e : Engine) (bytes : List ℕ) (left : Rests) (lacks : Lacks e) (i : Stored) where
  given_now : (p : Pending) → came_in e.input.pending.next bytes e.input.pending ≡ p → i ≡ record e.input { pending = p } → IsGiven (before e bytes left) left e (record e { input = i })
  given_now p came is = subst (λ (x : Engine). IsGiven (before e bytes left) left e x)
      (ap (λ (q : Pending). record e { input = record e.input { pending = q } }) came ∙ ap (λ (x : Stored). record e { input = x }) (sym is)) (is_given e bytes left lacks)

  pub given_first : IsSome e.input.pending.next → i ≡ record e.input { pending = with_first_bytes bytes e.input.pending } → IsGiven (before e bytes left) left e (record e { input = i })
  given_first opened is = given_now (with_first_bytes bytes e.input.pending) (came_some e.input.pending.next bytes e.input.pending opened) is

  pub given_line : e.input.pending.next ≡ None → i ≡ record e.input { pending = with_bytes bytes e.input.pending } → IsGiven (before e bytes left) left e (record e { input = i })
  given_line none is = given_now (with_bytes bytes e.input.pending) (came_none e.input.pending.next bytes e.input.pending none) is
