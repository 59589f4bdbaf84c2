-- Two lists that are compared.
use Rattle.std.proofs.Common.{◌≡◌, ◌≢◌, ℕ, Bool, true, false, List, [], ◌∷◌, refl, sym, ap, ◌∙◌, arith}
use Rattle.std.specs.Prelude.{Option, None, Some, MatchBool}
use Rattle.tex_defs.specs.declared.Token.{Token}
use Rattle.tex_defs.specs.declared.Meaning.{Meaning}
use Rattle.plain_tokens.specs.Arguments.{are_same}
use Rattle.token_lists.specs.Table.{Entry, tokens_at}
use Rattle.equivalents.specs.Holding.{list_of}
use Rattle.macro_call.proofs.ArgumentTokens.{are_same_refl, are_same_true}
use Rattle.input_state.specs.Macros.{list_at}
use Rattle.input_state.specs.HeldViews.{texts, IsDefined}
use Rattle.input_state.specs.Calls.{macro_text}
use Rattle.input_state.proofs.Sharing.{text_at}
use Rattle.input_state.proofs.Called.{text_by}
use Rattle.input_state.proofs.Walking.{no_text}

apart : (b : Bool) (ts us : List Token) → are_same ts us ≡ b → ts ≢ us → false ≡ b
apart true ts us is differ = absurd (differ (are_same_true ts us is))
apart false ts us is differ = refl

decides : (r : Bool) (ts us : List Token) → MatchBool r (ts ≡ us) (ts ≢ us) → r ≡ are_same ts us
decides true ts us same = sym (ap (λ (vs : List Token). are_same ts vs) (sym same) ∙ are_same_refl ts)
decides false ts us differ = apart (are_same ts us) ts us refl differ

first_alone : (ts : List Token) → IsDefined ts → are_same ts [] ≡ false
first_alone [] some = absurd (omega (arith, some.some))
first_alone (t ∷ ts) some = refl

second_alone : (ts : List Token) → IsDefined ts → are_same [] ts ≡ false
second_alone [] some = absurd (omega (arith, some.some))
second_alone (t ∷ ts) some = refl

module _ (table : List (Option Entry)) (lists : List (List Token)) (texts_are : texts table ≡ lists) where
  text_is : (m : Meaning (Option ℕ)) (id : ℕ) → list_of m ≡ Some id → macro_text lists m ≡ tokens_at table id
  text_is m id is = text_by lists m id is ∙ ap (λ (ls : List (List Token)). list_at ls id) (sym texts_are) ∙ text_at table id

  pub both : (m n : Meaning (Option ℕ)) (a b : ℕ) (r : Bool) → list_of m ≡ Some a → list_of n ≡ Some b → MatchBool r (tokens_at table a ≡ tokens_at table b) (tokens_at table a ≢ tokens_at table b) →
      r ≡ are_same (macro_text lists m) (macro_text lists n)
  both m n a b r is at found =
      decides r (tokens_at table a) (tokens_at table b) found
      ∙ ap (λ (ts : List Token). are_same ts (tokens_at table b)) (sym (text_is m a is))
      ∙ ap (λ (ts : List Token). are_same (macro_text lists m) ts) (sym (text_is n b at))

  pub neither : (m n : Meaning (Option ℕ)) → list_of m ≡ None → list_of n ≡ None → true ≡ are_same (macro_text lists m) (macro_text lists n)
  neither m n is at = ap (λ (ts : List Token). are_same ts []) (sym (no_text lists m is)) ∙ ap (λ (ts : List Token). are_same (macro_text lists m) ts) (sym (no_text lists n at))

  pub first : (m n : Meaning (Option ℕ)) (a : ℕ) → list_of m ≡ Some a → IsDefined (tokens_at table a) → list_of n ≡ None → false ≡ are_same (macro_text lists m) (macro_text lists n)
  first m n a is some at =
      sym (first_alone (tokens_at table a) some)
      ∙ ap (λ (ts : List Token). are_same ts []) (sym (text_is m a is))
      ∙ ap (λ (ts : List Token). are_same (macro_text lists m) ts) (sym (no_text lists n at))

  pub second : (m n : Meaning (Option ℕ)) (b : ℕ) → list_of m ≡ None → list_of n ≡ Some b → IsDefined (tokens_at table b) → false ≡ are_same (macro_text lists m) (macro_text lists n)
  second m n b is at some =
      sym (second_alone (tokens_at table b) some)
      ∙ ap (λ (ts : List Token). are_same ts (tokens_at table b)) (sym (no_text lists m is))
      ∙ ap (λ (ts : List Token). are_same (macro_text lists m) ts) (sym (text_is n b at))
