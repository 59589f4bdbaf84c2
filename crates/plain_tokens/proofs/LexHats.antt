-- What `^^` stands for.
use Rattle.std.proofs.Common.{◌≡◌, ℕ, ◌+◌, ◌-◌, ◌≤◌, ◌<◌, true, List, [], ◌∷◌, arith, refl, sym, ap, ◌∙◌}
use Rattle.std.specs.Prelude.{slice_index}
use Rattle.std.proofs.lemmas.Grind.{common_steps}
use Rattle.plain_tokens.specs.Categories.{superscript}
use Rattle.plain_tokens.specs.declared.line_state.LineState.{LineState}
use Rattle.plain_tokens.specs.Lex.{headed, has_hats, behind_hats, shifted, is_hexadecimal, hexadecimal_code, by_head, lexed}
use Rattle.plain_tokens.specs.LexLaws.{NoDigits, HatsAreReplaced}
use Rattle.plain_tokens.proofs.Heads.{headed_hats}
use Rattle.plain_tokens.proofs.LexRuns.{lexed_by_head}

hexadecimal_small : (c : ℕ) → is_hexadecimal c ≡ true → c < 128
hexadecimal_small c h = grind (arith, common_steps)

shifted_above : (c : ℕ) → c < 64 → shifted c ≡ c + 64
shifted_above c h = grind (arith, common_steps)

shifted_below : (c : ℕ) → 64 ≤ c → shifted c ≡ c - 64
shifted_below c h = grind (arith, common_steps)

behind_digits : (c d : ℕ) (line : List ℕ) → is_hexadecimal c ≡ true → is_hexadecimal d ≡ true → behind_hats c (d ∷ line) ≡ hexadecimal_code c d ∷ line
behind_digits c d line h i = rw (h, i) refl

behind_shifted : (c : ℕ) (line : List ℕ) → NoDigits c line → behind_hats c line ≡ shifted c ∷ line
behind_shifted c [] n = refl
behind_shifted c (d ∷ line) n = rw n refl

module _ (cats : List ℕ) (state : LineState) (hat : ℕ) (is : slice_index cats hat ≡ superscript) where
  hats_here : (c : ℕ) (line : List ℕ) → c < 128 → has_hats cats (hat ∷ hat ∷ c ∷ line) ≡ true
  hats_here c line h = grind (arith, common_steps)

  -- a line gives what the shorter line gives
  lexed_short : (c : ℕ) (line short : List ℕ) → c < 128 → behind_hats c line ≡ short → lexed cats state (hat ∷ hat ∷ c ∷ line) ≡ lexed cats state short
  lexed_short c line short h e =
      lexed_by_head cats state (hat ∷ hat ∷ c ∷ line) ∙
      ap (by_head cats state (lexed cats state)) (headed_hats cats (hat ∷ hat ∷ c ∷ line) (hats_here c line h) ∙ ap (headed cats) e) ∙
      sym (lexed_by_head cats state short)

  pub replaced : HatsAreReplaced cats state hat
  replaced = record {
    hexadecimal = λ c d line h i. lexed_short c (d ∷ line) (hexadecimal_code c d ∷ line) (hexadecimal_small c h) (behind_digits c d line h i);
    above = λ c line h n. lexed_short c line ((c + 64) ∷ line) (omega arith) (behind_shifted c line n ∙ ap (λ (x : ℕ). x ∷ line) (shifted_above c h));
    below = λ c line h i n. lexed_short c line ((c - 64) ∷ line) i (behind_shifted c line n ∙ ap (λ (x : ℕ). x ∷ line) (shifted_below c h));
  }
