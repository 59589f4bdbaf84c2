-- A line's name of letters is its longest run of letters.
use Rattle.std.proofs.Common.{◌≡◌, inl, inr, ℕ, ◌≤◌, ◌<◌, zero, suc, true, List, [], ◌∷◌, length, arith, refl, sym, ap, ◌∙◌}
use Rattle.std.specs.Prelude.{slice_index}
use Rattle.plain_tokens.specs.Categories.{escape}
use Rattle.plain_tokens.specs.declared.line_state.LineState.{LineState}
use Rattle.plain_tokens.specs.declared.line_state.LineState.TheVariants.{SkipBlanks}
use Rattle.plain_tokens.specs.Lex.{Gives, headed, is_letter, letter_and, letters, behind_letter, behind_letters, name_of_letters, named_by_head, by_head, lexed}
use Rattle.plain_tokens.specs.LexLaws.{NoLetterNext, IsLongestRun}
use Rattle.plain_tokens.proofs.Heads.{kind, behind_head, headed_nil}
use Rattle.plain_tokens.proofs.LexRuns.{letters_by_head, behind_by_head, lexed_by_head}

module _ (cats : List ℕ) where
  letters_none : (more : List ℕ → List ℕ) (rest : List ℕ) → NoLetterNext cats rest → letter_and cats more rest ≡ []
  letters_none more [] s = refl
  letters_none more (c ∷ cs) s = rw s refl

  behind_none : (more : List ℕ → List ℕ) (rest : List ℕ) → NoLetterNext cats rest → behind_letter cats more rest ≡ rest
  behind_none more [] s = refl
  behind_none more (c ∷ cs) s = rw s refl

  -- by the head of the line, where it is known
  letters_at : (line head : List ℕ) → headed cats line ≡ head → letters cats line ≡ letter_and cats (letters cats) head
  letters_at line head e = letters_by_head cats line ∙ ap (letter_and cats (letters cats)) e

  behind_at : (line head : List ℕ) → headed cats line ≡ head → behind_letters cats line ≡ behind_letter cats (behind_letters cats) head
  behind_at line head e = behind_by_head cats line ∙ ap (behind_letter cats (behind_letters cats)) e

  pub letters_on : (line : List ℕ) (c : ℕ) (cs : List ℕ) → headed cats line ≡ c ∷ cs → is_letter cats c ≡ true → letters cats line ≡ c ∷ letters cats cs
  letters_on line c cs e l = letters_at line (c ∷ cs) e ∙ rw l refl

  pub behind_on : (line : List ℕ) (c : ℕ) (cs : List ℕ) → headed cats line ≡ c ∷ cs → is_letter cats c ≡ true → behind_letters cats line ≡ behind_letters cats cs
  behind_on line c cs e l = behind_at line (c ∷ cs) e ∙ rw l refl

  pub letters_stop : (line rest : List ℕ) → headed cats line ≡ rest → NoLetterNext cats rest → letters cats line ≡ []
  letters_stop line rest e s = letters_at line rest e ∙ letters_none (letters cats) rest s

  pub behind_stop : (line rest : List ℕ) → headed cats line ≡ rest → NoLetterNext cats rest → behind_letters cats line ≡ rest
  behind_stop line rest e s = behind_at line rest e ∙ behind_none (behind_letters cats) rest s

  pub run_letters : (name line rest : List ℕ) → IsLongestRun cats line name rest → name ≡ letters cats line
  run_letters [] line rest r = sym (letters_stop line rest (sym r.0) r.1)
  run_letters (c ∷ name) line rest r = ap (λ (xs : List ℕ). c ∷ xs) (run_letters name r.0 rest r.1.1) ∙ sym (letters_on line c r.0 r.1.0.bytes r.1.0.letter)

  pub run_behind : (name line rest : List ℕ) → IsLongestRun cats line name rest → rest ≡ behind_letters cats line
  run_behind [] line rest r = sym (behind_stop line rest (sym r.0) r.1)
  run_behind (c ∷ name) line rest r = run_behind name r.0 rest r.1.1 ∙ sym (behind_on line c r.0 r.1.0.bytes r.1.0.letter)

  Run : List ℕ → Type 0
  Run line = IsLongestRun cats line (letters cats line) (behind_letters cats line)

  -- by what the head is
  run_stops : (line rest : List ℕ) → headed cats line ≡ rest → NoLetterNext cats rest → IsLongestRun cats line (letters cats line) (behind_letters cats line)
  run_stops line rest e s = rw (letters_stop line rest e s, behind_stop line rest e s) (sym e, s)

  run_goes : (line : List ℕ) (c : ℕ) (cs : List ℕ) → headed cats line ≡ c ∷ cs → is_letter cats c ≡ true → IsLongestRun cats cs (letters cats cs) (behind_letters cats cs) →
      IsLongestRun cats line (letters cats line) (behind_letters cats line)
  run_goes line c cs e l r = rw (letters_on line c cs e l, behind_on line c cs e l) (cs, (record { bytes = e; letter = l }, r))

  run_at : (n : ℕ) (line head : List ℕ) → headed cats line ≡ head → ((cs : List ℕ) → length cs < length line → IsLongestRun cats cs (letters cats cs) (behind_letters cats cs)) →
      IsLongestRun cats line (letters cats line) (behind_letters cats line)
  run_at n line [] e on = run_stops line [] e tt
  run_at n line (c ∷ cs) e on = elim (kind (is_letter cats c)) [
    | inl l ↦ run_goes line c cs e l (on cs (behind_head cats c cs line e))
    | inr s ↦ run_stops line (c ∷ cs) e s
  ]

  run_within : (n : ℕ) (line : List ℕ) → length line ≤ n → IsLongestRun cats line (letters cats line) (behind_letters cats line)
  run_within zero [] h = run_stops [] [] (headed_nil cats) tt
  run_within zero (c ∷ cs) h = absurd (omega arith)
  run_within (suc n) line h = run_at n line (headed cats line) refl (λ cs less. run_within n cs (omega arith))

  pub run : (line : List ℕ) → IsLongestRun cats line (letters cats line) (behind_letters cats line)
  run line = run_within (length line) line (omega arith)

  pub is_run : (line name rest : List ℕ) → (name ≡ letters cats line) × (rest ≡ behind_letters cats line) → IsLongestRun cats line name rest
  is_run line name rest e = rw (e.0, e.1) (run line)

  -- an escape character, and the name behind it
  lexed_escape : (state : LineState) (line behind : List ℕ) (e : ℕ) → headed cats line ≡ e ∷ behind → slice_index cats e ≡ escape → lexed cats state line ≡ named_by_head cats state (headed cats behind)
  lexed_escape state line behind e h is = lexed_by_head cats state line ∙ ap (by_head cats state (lexed cats state)) h ∙ rw is refl

  named_letter : (state : LineState) (behind : List ℕ) (c : ℕ) (cs : List ℕ) → headed cats behind ≡ c ∷ cs → is_letter cats c ≡ true →
      named_by_head cats state (headed cats behind) ≡ Gives (name_of_letters (c ∷ letters cats cs)) SkipBlanks (behind_letters cats cs)
  named_letter state behind c cs e l = ap (named_by_head cats state) e ∙ rw l refl

  pub name_read : (state : LineState) (e c : ℕ) (line behind name rest : List ℕ) → headed cats line ≡ e ∷ behind → slice_index cats e ≡ escape → IsLongestRun cats behind (c ∷ name) rest →
      lexed cats state line ≡ Gives (name_of_letters (c ∷ name)) SkipBlanks rest
  name_read state e c line behind name rest h is r =
      lexed_escape state line behind e h is ∙ named_letter state behind c r.0 r.1.0.bytes r.1.0.letter ∙
      ap (λ (xs : List ℕ). Gives (name_of_letters (c ∷ xs)) SkipBlanks (behind_letters cats r.0)) (sym (run_letters name r.0 rest r.1.1)) ∙
      ap (λ (xs : List ℕ). Gives (name_of_letters (c ∷ name)) SkipBlanks xs) (sym (run_behind name r.0 rest r.1.1))
