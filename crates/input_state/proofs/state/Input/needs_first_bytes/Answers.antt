use Rattle.std.proofs.Common.{◌≡◌, ◌∙◌, Bool, true, false, refl, sym}
use Rattle.std.specs.Prelude.{MatchBool}
use Rattle.input_state.proofs.Readies.{knows_first, needs_first}
use Rattle.input_state.proofs.state.Input.needs_first_bytes.Goals as goal

matched : (b : Bool) (P Q : Type 0) → (b ≡ true → P) → (b ≡ false → Q) → MatchBool b P Q
matched true P Q is none = is refl
matched false P Q is none = none refl

pub returns : goal.returns
returns c =
    let i = c.self.inside in
    let s = c.args.self.now in
    matched c.lacks_first.result _ _ (λ e. needs_first i.held i.buffer.items i.files s c.self.view_is c.self.invariant.file_size (sym c.lacks_first.ensures ∙ e)) (λ e. knows_first i.held i.buffer.items i.files s c.self.view_is c.self.invariant.file_size (sym c.lacks_first.ensures ∙ e))
