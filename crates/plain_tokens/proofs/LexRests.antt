-- What the lexer leaves of a line.
use Rattle.std.proofs.Common.{◌≡◌, inl, inr, ℕ, ◌≤◌, ◌<◌, zero, suc, Bool, true, false, List, [], ◌∷◌, length, arith, refl, sym, subst}
use Rattle.std.specs.Prelude.{slice_index, ◌==◌, if◌then◌else◌}
use Rattle.plain_tokens.specs.Categories.{escape, end_of_line, ignored, space, active, comment, invalid}
use Rattle.plain_tokens.specs.declared.line_state.LineState.{LineState}
use Rattle.plain_tokens.specs.declared.line_state.LineState.TheVariants.{NewLine, Middle, SkipBlanks}
use Rattle.plain_tokens.specs.Lex.{Lexed, Gives, Invalid, UsedUp, headed, headed_within, has_hats, without_hats, is_letter, behind_letter, behind_letters, behind_letters_within, named_by_head, line_ended, is_middle, by_head, lexed}
use Rattle.plain_tokens.specs.LexLaws.{ComesTo, Here, Replaced, Taken, IsProperRest, LeavesLess}
use Rattle.plain_tokens.proofs.Heads.{kind, behind_head, headed_nil}
use Rattle.plain_tokens.proofs.LexRuns.{lexed_by_head}

taken_all : (cats line : List ℕ) → ComesTo cats [] line
taken_all cats [] = Here
taken_all cats (c ∷ cs) = Taken c cs (taken_all cats cs)

module _ (cats : List ℕ) where
  within_comes : (n : ℕ) (line rest : List ℕ) → ComesTo cats rest (headed_within n cats line) → ComesTo cats rest line
  within_comes zero line rest r = r
  within_comes (suc n) line rest r = elim (kind (has_hats cats line)) [
    | inl e ↦ Replaced line e (within_comes n (without_hats line) rest (rw e at r))
    | inr e ↦ rw e at r
  ]

  head_comes : (line rest : List ℕ) → ComesTo cats rest (headed cats line) → ComesTo cats rest line
  unfolding headed
  head_comes line rest r = within_comes (length line) line rest r

  -- what comes from behind the head of a line comes from it
  on : (line : List ℕ) (c : ℕ) (cs rest : List ℕ) → headed cats line ≡ c ∷ cs → length rest ≤ length cs → ComesTo cats rest cs → IsProperRest cats rest line
  on line c cs rest e le r = record {
    shorter = omega (arith, behind_head cats c cs line e);
    from_line = head_comes line rest (subst (ComesTo cats rest) (sym e) (Taken c cs r));
  }

  -- behind the letters
  record Behind (rest line : List ℕ) : Type 0 where
    no_longer : length rest ≤ length line
    from_line : ComesTo cats rest line

  behind_at : (n : ℕ) (line head : List ℕ) → headed cats line ≡ head → ((cs : List ℕ) → Behind (behind_letters_within n cats cs) cs) →
      Behind (behind_letter cats (behind_letters_within n cats) head) line
  behind_at n line [] e more = record { no_longer = omega arith; from_line = taken_all cats line }
  behind_at n line (c ∷ cs) e more =
      let less : length cs < length line = behind_head cats c cs line e in
      elim (kind (is_letter cats c)) [
        | inl l ↦
            let b : Behind (behind_letters_within n cats cs) cs = more cs in
            rw l (record {
              no_longer = omega (arith, b.no_longer);
              from_line = head_comes line (behind_letters_within n cats cs) (subst (ComesTo cats (behind_letters_within n cats cs)) (sym e) (Taken c cs b.from_line));
            })
        | inr s ↦ rw s (record { no_longer = omega arith; from_line = head_comes line (c ∷ cs) (subst (ComesTo cats (c ∷ cs)) (sym e) Here) })
      ]

  behind_within : (n : ℕ) (line : List ℕ) → Behind (behind_letters_within n cats line) line
  behind_within zero line = record { no_longer = omega arith; from_line = Here }
  behind_within (suc n) line = behind_at n line (headed cats line) refl (behind_within n)

  behind : (line : List ℕ) → Behind (behind_letters cats line) line
  unfolding behind_letters
  behind line = behind_within (length line) line

  less_if : (line : List ℕ) (b : Bool) (x y : Lexed) → LeavesLess cats x line → LeavesLess cats y line → LeavesLess cats (if b then x else y) line
  less_if line true x y h i = h
  less_if line false x y h i = i

  -- what is less than what is behind the head is less than the line
  less_on : (line : List ℕ) (c : ℕ) (cs : List ℕ) (x : Lexed) → headed cats line ≡ c ∷ cs → LeavesLess cats x cs → LeavesLess cats x line
  less_on line c cs (Gives t state rest) e h = on line c cs rest e (omega (arith, h.shorter)) h.from_line
  less_on line c cs (Invalid state rest) e h = on line c cs rest e (omega (arith, h.shorter)) h.from_line
  less_on line c cs UsedUp e h = tt

  named_less : (state : LineState) (line : List ℕ) (c : ℕ) (cs head : List ℕ) → headed cats line ≡ c ∷ cs → headed cats cs ≡ head → LeavesLess cats (named_by_head cats state head) line
  named_less state line c cs [] e f = on line c cs [] e (omega arith) (taken_all cats cs)
  named_less state line c cs (d ∷ ds) e f =
      let less : length ds < length cs = behind_head cats d ds cs f in
      let b : Behind (behind_letters cats ds) ds = behind ds in
      let one : IsProperRest cats ds line = on line c cs ds e (omega arith) (head_comes cs ds (subst (ComesTo cats ds) (sym f) (Taken d ds Here))) in
      less_if line (is_letter cats d) _ _
      (on line c cs (behind_letters cats ds) e (omega (arith, b.no_longer)) (head_comes cs (behind_letters cats ds) (subst (ComesTo cats (behind_letters cats ds)) (sym f) (Taken d ds b.from_line))))
      (less_if line (slice_index cats d == space) _ _ one one)

  ended_less : (state : LineState) (line : List ℕ) (c : ℕ) (cs : List ℕ) → headed cats line ≡ c ∷ cs → LeavesLess cats (line_ended state) line
  ended_less NewLine line c cs e = on line c cs [] e (omega arith) (taken_all cats cs)
  ended_less Middle line c cs e = on line c cs [] e (omega arith) (taken_all cats cs)
  ended_less SkipBlanks line c cs e = tt

  less_at : (state : LineState) (line head : List ℕ) → headed cats line ≡ head → ((cs : List ℕ) → length cs < length line → LeavesLess cats (lexed cats state cs) cs) →
      LeavesLess cats (by_head cats state (lexed cats state) head) line
  less_at state line [] e more = tt
  less_at state line (c ∷ cs) e more =
      let one : IsProperRest cats cs line = on line c cs cs e (omega arith) Here in
      let skip : LeavesLess cats (lexed cats state cs) line = less_on line c cs (lexed cats state cs) e (more cs (behind_head cats c cs line e)) in
      less_if line (slice_index cats c == escape) _ _ (named_less state line c cs (headed cats cs) e refl)
      (less_if line (slice_index cats c == end_of_line) _ _ (ended_less state line c cs e)
      (less_if line (slice_index cats c == ignored) _ _ skip
      (less_if line (slice_index cats c == space) _ _ (less_if line (is_middle state) _ _ one skip)
      (less_if line (slice_index cats c == active) _ _ one
      (less_if line (slice_index cats c == comment) _ _ tt
      (less_if line (slice_index cats c == invalid) _ _ one one))))))

  less_within : (n : ℕ) (state : LineState) (line : List ℕ) → length line ≤ n → LeavesLess cats (lexed cats state line) line
  less_within n state [] h = rw (lexed_by_head cats state [], headed_nil cats) tt
  less_within zero state (c ∷ cs) h = absurd (omega arith)
  less_within (suc n) state (c ∷ cs) h =
      rw (lexed_by_head cats state (c ∷ cs)) (less_at state (c ∷ cs) (headed cats (c ∷ cs)) refl (λ ds less. less_within n state ds (omega arith)))

  pub less : (state : LineState) (line : List ℕ) → LeavesLess cats (lexed cats state line) line
  less state line = less_within (length line) state line (omega arith)
