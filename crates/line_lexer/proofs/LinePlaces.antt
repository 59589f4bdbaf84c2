-- A line's places in a buffer.
use Rattle.std.proofs.Common.{◌≡◌, ℕ, ◌+◌, ◌-◌, ◌≤◌, List, ◌++◌, take, drop, length, arith, refl, sym, ap, ◌∙◌, length-drop}
use Rattle.std.proofs.lemmas.List.{take-append-le, drop-append-le, drop-drop, take_rest, drop_at, length-take-le}
use Rattle.std.proofs.lemmas.Slice.{drop-put_mid}
use borrow.Rule.Slice.PartMut.{put_mid, post_of}
use Rattle.plain_tokens.specs.declared.line_state.LineState.{LineState}
use Rattle.plain_tokens.specs.Lex as plain
use Rattle.line_lexer.specs.declared.Lexed.{Lexed}
use Rattle.line_lexer.specs.declared.Lexed.TheVariants.{Char, Active, Single, Word, Empty, Par, Invalid, End}
use Rattle.line_lexer.specs.Answers.{span, given, Takes, moved_by}

-- a line of this length, put into a buffer from `at` on
module _ (bytes line : List ℕ) (at size : ℕ) (fits : at + size ≤ length bytes) (long : length line ≡ size) where
  from_at : drop at (put_mid at size bytes line) ≡ line ++ post_of at size bytes
  from_at = drop_at (take at bytes) (line ++ post_of at size bytes) at (length-take-le at bytes (omega arith))

  pub span_in : (from to : ℕ) → from ≤ to → to ≤ size → span (put_mid at size bytes line) (at + from) (at + to) ≡ span line from to
  span_in from to h i =
      let e : at + to - (at + from) ≡ to - from = omega arith in
      let a : drop (at + from) (put_mid at size bytes line) ≡ drop from line ++ post_of at size bytes =
      sym (drop-drop from at (put_mid at size bytes line)) ∙ ap (drop from) from_at ∙ drop-append-le from line (post_of at size bytes) (omega arith) in
      ap (λ (n : ℕ). take n (drop (at + from) (put_mid at size bytes line))) e ∙ ap (take (to - from)) a ∙
      take-append-le (to - from) (drop from line) (post_of at size bytes) (omega (arith, length-drop from line))

  pub rest_in : (end next : ℕ) → end ≡ at + size → next ≤ size → span (put_mid at size bytes line) (at + next) end ≡ drop next line
  rest_in end next e h =
      ap (span (put_mid at size bytes line) (at + next)) e ∙ span_in next size h (omega arith) ∙ ap (λ (n : ℕ). take (n - next) (drop next line)) (sym long) ∙ take_rest line next

  pub given_in : (answer : Lexed) (state : LineState) (end next : ℕ) → end ≡ at + size → next ≤ size → Takes 0 next answer →
      given (put_mid at size bytes line) state (span (put_mid at size bytes line) (at + next) end) (moved_by at answer) ≡ given line state (drop next line) answer
  given_in (Char category code) state end next e h t = ap (λ (rest : List ℕ). plain.Gives (plain.Character category code) state rest) (rest_in end next e h)
  given_in (Active code) state end next e h t = ap (λ (rest : List ℕ). plain.Gives (plain.ActiveName code) state rest) (rest_in end next e h)
  given_in (Single code) state end next e h t = ap (λ (rest : List ℕ). plain.Gives (plain.SingleName code) state rest) (rest_in end next e h)
  given_in (Word from to) state end next e h t =
      ap (λ (rest : List ℕ). plain.Gives (plain.WordName (span (put_mid at size bytes line) (at + from) (at + to))) state rest) (rest_in end next e h) ∙
      ap (λ (name : List ℕ). plain.Gives (plain.WordName name) state (drop next line)) (span_in from to (omega (arith, t.1.0)) (omega (arith, t.1.1)))
  given_in Empty state end next e h t = ap (λ (rest : List ℕ). plain.Gives plain.EmptyName state rest) (rest_in end next e h)
  given_in Par state end next e h t = ap (λ (rest : List ℕ). plain.Gives plain.ParName state rest) (rest_in end next e h)
  given_in Invalid state end next e h t = ap (λ (rest : List ℕ). plain.Invalid state rest) (rest_in end next e h)
  given_in End state end next e h t = refl

  pub behind_in : (end : ℕ) → end ≡ at + size → drop end (put_mid at size bytes line) ≡ drop end bytes
  behind_in end e = drop-put_mid at size bytes line end (omega arith) (omega arith) long
