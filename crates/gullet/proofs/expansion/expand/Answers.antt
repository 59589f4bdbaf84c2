use Rattle.std.proofs.Common.{◌≡◌, [], ap, refl, sym, ◌∙◌, false}
use Rattle.std.proofs.lemmas.Bool.{true≢false}
use Rattle.engine_state.specs.Stands.{state_of}
use Rattle.engine_state.proofs.Joining.{same_err}
use Rattle.gullet.specs.Stepping.{EndsRun, changes}
use Rattle.gullet.proofs.Expanding.{once_as}
use Rattle.gullet.specs.declared.expansion.Once.TheVariants as once
use Rattle.gullet.proofs.expansion.expand.Goals as goal

pub returns-in_err-expand_once-clause-err : goal.returns-in_err-expand_once-clause-err
returns-in_err-expand_once-clause-err g c = let n = c.in_err-expand_once in
    same_err c.from_residual.result n.field-0.0 _ c.from_residual.ensures.1 (λ sizes f book st. n.ensures.err sizes f book [] st)

pub returns-in-Expanded-clause-rule : goal.returns-in-Expanded-clause-rule
returns-in-Expanded-clause-rule g c = let n = c.in_ok-expand_once in
    λ sizes f book st. once_as sizes (state_of c.args.engine.now book) c.expand_once.new.engine book _ _ _ [] n.field-0 once.Expanded c.in-Expanded.is (n.ensures.rule sizes f book [] st)

pub unreachable-requires : goal.unreachable-requires
unreachable-requires g c = let n = c.in_ok-expand_once in true≢false (sym c.requires.expands ∙ sym n.ensures.which ∙ ap changes c.in-Stays.is)

pub returns-in-Over-clause-rule : goal.returns-in-Over-clause-rule
returns-in-Over-clause-rule g c = let n = c.in_ok-expand_once in
    λ sizes f book st. once_as sizes (state_of c.args.engine.now book) c.expand_once.new.engine book _ _ _ [] n.field-0 (once.Over c.in-Over.outcome) c.in-Over.is (n.ensures.rule sizes f book [] st)
