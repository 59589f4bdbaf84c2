-- A token that a list in front hands on at once.
use Rattle.std.proofs.Common.{◌≡◌, refl, sym, ap, subst}
use Rattle.std.specs.Prelude.{Option, Some, IfSome}
use Rattle.tex_defs.specs.declared.Token.{Token}
use Rattle.plain_tokens.specs.Pending.{Pulled, TokenFrom, pulled, takes_file}
use Rattle.input_state.specs.declared.answer.Pulled.TheVariants as answer
use Rattle.input_state.specs.NextBytes.{InFront}
use Rattle.input_state.specs.Reads.{Pulls, gives_step}
use Rattle.input_state.specs.Stored.{Stored}
use Rattle.engine_state.specs.declared.engine.Engine.{Engine}
use Rattle.engine_state.specs.Steps.{IsReady}

module _ (p : Pulled) (old new : Stored) where
  pub handed_on : (o : Option Token) (t : Token) → o ≡ Some t → IfSome o (λ u. Pulls p (answer.Token u) old new) → Pulls p (answer.Token t) old new
  handed_on o t is h = subst (λ (x : Option Token). IfSome x (λ u. Pulls p (answer.Token u) old new)) is h

-- it changes what is pending, and so no more than a pull does
pub as_pulled : (old new : Stored) → new ≡ record old { pending = new.pending } → new ≡ record old { pending = new.pending; buffer = new.buffer; lists = new.lists }
as_pulled old new is = subst (λ (x : Stored). x ≡ record old { pending = x.pending; buffer = x.buffer; lists = x.lists }) (sym is) refl

-- it is a step, and no file's
pub is_ready : (e : Engine) (new : Stored) (t : Token) → pulled e.input.groups.now.categories e.input.pending ≡ TokenFrom t new.pending → IsReady e
is_ready e new t is = record { knows = InFront (ap takes_file is); steps = ap gives_step is }
