-- What the head of a rest of a line makes of what the line gives.
use Rattle.std.proofs.Common.{◌≡◌, ℕ, List, [], ◌∷◌, drop, get_or, arith, refl, ap, ◌∙◌}
use Rattle.plain_tokens.specs.Lex.{Lexed, UsedUp, headed, by_head, lexed}
use Rattle.plain_tokens.proofs.LexRuns.{lexed_by_head}
use Rattle.plain_tokens.specs.declared.line_state.LineState.{LineState}
use Rattle.plain_tokens.specs.declared.line_state.LineState.TheVariants.{NewLine, Middle, SkipBlanks}
use Rattle.line_lexer.specs.declared.heads.Head.{Head}
use Rattle.line_lexer.specs.Begins.{IsHead, IsHere, Begins}

module _ (cats line : List ℕ) (state : LineState) (at : ℕ) where
  abbrev pub Rest : Lexed
  Rest = lexed cats state (drop at line)

  pub nothing_left : headed cats (drop at line) ≡ [] → lexed cats state (drop at line) ≡ UsedUp
  nothing_left e = lexed_by_head cats state (drop at line) ∙ ap (by_head cats state (lexed cats state)) e

  module _ (head : Head) (is : IsHead cats line at head) where
    pub head_gives : lexed cats state (drop at line) ≡ by_head cats state (lexed cats state) (head.code ∷ drop head.next line)
    head_gives = lexed_by_head cats state (drop at line) ∙ ap (by_head cats state (lexed cats state)) is.headed_is

    pub ignored_goes : get_or cats head.code 0 ≡ 9 → lexed cats state (drop at line) ≡ lexed cats state (drop head.next line)
    ignored_goes e = head_gives ∙ rw e refl

    pub comment_ends : get_or cats head.code 0 ≡ 14 → lexed cats state (drop at line) ≡ UsedUp
    comment_ends e = head_gives ∙ rw e refl

  pub line_ends : (head : Head) → IsHead cats line at head → state ≡ SkipBlanks → get_or cats head.code 0 ≡ 5 → lexed cats state (drop at line) ≡ UsedUp
  line_ends head is s e = head_gives head is ∙ rw (e, s) refl

space_at : (cats rest : List ℕ) (code : ℕ) (state : LineState) → (state ≡ Middle → ⊥) → get_or cats code 0 ≡ 10 →
    by_head cats state (lexed cats state) (code ∷ rest) ≡ lexed cats state rest
space_at cats rest code NewLine n e = rw e refl
space_at cats rest code Middle n e = absurd (n refl)
space_at cats rest code SkipBlanks n e = rw e refl

pub space_goes : (cats line : List ℕ) (state : LineState) (at : ℕ) (head : Head) → IsHead cats line at head → (state ≡ Middle → ⊥) → get_or cats head.code 0 ≡ 10 →
    lexed cats state (drop at line) ≡ lexed cats state (drop head.next line)
space_goes cats line state at head is n e = head_gives cats line state at head is ∙ space_at cats (drop head.next line) head.code state n e

begins : (cats line : List ℕ) (state : LineState) (at : ℕ) (head : Head) → lexed cats state line ≡ lexed cats state (drop at line) → IsHead cats line at head → IsHere cats state head →
    Begins cats line state head
begins cats line state at head e is here = record { gives = e ∙ head_gives cats line state at head is; here = here; further = omega (arith, is.further); within = is.within }

pub space_begins : (cats line : List ℕ) (state : LineState) (at : ℕ) (head : Head) → lexed cats state line ≡ lexed cats state (drop at line) → IsHead cats line at head →
    get_or cats head.code 0 ≡ 10 → state ≡ Middle → Begins cats line state head
space_begins cats line state at head e is c m = begins cats line state at head e is (record {
  ignored = λ h. absurd (omega arith);
  comment = λ h. absurd (omega arith);
  space = λ h. m;
  line_end = λ h. absurd (omega arith);
})

pub end_begins : (cats line : List ℕ) (state : LineState) (at : ℕ) (head : Head) → lexed cats state line ≡ lexed cats state (drop at line) → IsHead cats line at head →
    get_or cats head.code 0 ≡ 5 → (state ≡ SkipBlanks → ⊥) → Begins cats line state head
end_begins cats line state at head e is c n = begins cats line state at head e is (record {
  ignored = λ h. absurd (omega arith);
  comment = λ h. absurd (omega arith);
  space = λ h. absurd (omega arith);
  line_end = λ h. n;
})
