use Rattle.std.proofs.Common.{[], ap, ◌∙◌}
use Rattle.rows.specs.Readings.{Defines}
use Rattle.input_state.specs.Stored.{Stored}
use Rattle.engine_state.proofs.Joining.{same_err}
use Rattle.engine_state.proofs.Weighing.{acted_lighter}
use Rattle.reading_frames.specs.Views.{top_list}
use Rattle.stomach.proofs.Defining.{macro_went, lost_went, defined_cut}
use Rattle.stomach.proofs.RuleCloses.{closed_lighter}
use Rattle.stomach.proofs.define.assign_macro.Goals as goal
use Rattle.stomach.proofs.define.assign_macro.Goals.{then-is_calling-via-then-is_calling, then-is_calling-via-else-is_calling+then-not-is_placed}

-- THE NAME HAS NO LOCATION

pub returns-then-is_calling-clause-rule : goal.returns-then-is_calling-clause-rule
returns-then-is_calling-clause-rule c = let e = c.args.engine.now in let e1 = c.close_reading.new.self in let l = c.close_reading.ensures in
    λ sizes w book r rs st own. elim c.then-is_calling.branch [
      | then-is_calling-via-then-is_calling b ↦ absurd (b.if-is_calling.ensures st.uncalled)
      | then-is_calling-via-else-is_calling+then-not-is_placed b ↦ lost_went sizes e e1 book w r rs c.args.call c.args.name (l.stands sizes book r rs st) (l.state sizes book r rs st) (top_list e.input.builds) c.requires.token b.if-not-is_placed.ensures (l.same st.uncalled).store.groups
    ]

pub returns-then-is_calling-clause-light : goal.returns-then-is_calling-clause-light
returns-then-is_calling-clause-light c = let l = c.close_reading.ensures in
    λ none asks. closed_lighter c.args.engine.now c.close_reading.new.self (Defines c.args.call c.args.name []) none asks tt l.same l.frames l.weight

-- IT HAS ONE

pub returns-in_err-define-clause-err : goal.returns-in_err-define-clause-err
returns-in_err-define-clause-err c = let i = c.in_err-define in
    same_err c.from_residual.result i.field-0.0 _ c.from_residual.ensures.1
    (λ sizes w book r rs st. defined_cut sizes c.args.engine.now book w r rs c.args.call c.args.name c.is_global-global.result c.define.new.self i.field-0.0 (c.is_global-global.ensures book) i.ensures.err i.ensures.refused st)

pub returns-clause-rule : goal.returns-clause-rule
returns-clause-rule c = let i = c.in_ok-define.ensures in let n = c.end.ensures in
    λ sizes w book r rs st own.
    macro_went sizes c.args.engine.now book w r rs c.args.call c.args.name c.is_global-global.result c.end.new.self c.define.new.self (c.is_global-global.ensures book) c.requires.token n.rest n.stands n.shallow i.ok i.defines i.keeps i.refused st own

pub returns-clause-light : goal.returns-clause-light
returns-clause-light c = let e = c.args.engine.now in let n = c.end.ensures in
    λ none asks.
    acted_lighter e (record e { input = c.define.new.self; readings = c.end.new.self }) none (ap (λ (x : Stored). x.call) c.in_ok-define.ensures.ok ∙ none) (ap (λ (x : Stored). x.pending) c.in_ok-define.ensures.ok) (Defines c.args.call c.args.name []) asks tt n.frames n.weight
