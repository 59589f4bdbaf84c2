use Rattle.std.proofs.Common.{◌≡◌, true, pos, [], ◌∷◌, ap, ◌∙◌, rules, lit<, w32, FitsSigned}
use Rattle.std.proofs.lemmas.Int.{to_z-of_z}
use Rattle.tex_syntax.specs.declared.words.Outcome.TheVariants.{AtFatal}
use Rattle.tex_defs.specs.declared.Fatal.TheVariants as fatal
use Rattle.equivalents.specs.First.{magnification}
use Rattle.equivalents.specs.declared.values.Loc.TheVariants as loc
use Rattle.equivalents.specs.declared.values.Val.TheVariants as val
use Rattle.plain_machine.specs.declared.broken.Broken.TheVariants as broken
use Rattle.plain_machine.specs.States.{MagnificationSet, Set}
use Rattle.plain_machine.specs.Plan.{magnification_set, noting}
use Rattle.plain_machine.proofs.Doing.{did_join}
use Rattle.input_state.specs.Stored.{Stored}
use Rattle.engine_state.specs.Book.{with_work}
use Rattle.engine_state.specs.Rules.{world_of}
use Rattle.engine_state.specs.Stands.{state_of}
use Rattle.plain_machine.specs.Weights.{pending_weight}
use Rattle.engine_state.proofs.Joining.{same_err, column_went}
use Rattle.engine_state.proofs.CuttingReadings.{column_in, stands_in}
use Rattle.engine_state.proofs.AtLocations.{frames_join}
use Rattle.stomach.proofs.Magnifying.{corrected_free, mag_did, mag_frames, mag_stands, reported_in, reported_went}
use Rattle.stomach.proofs.RuleCloses.{reported_stands, reported_halts}
use Rattle.stomach.proofs.Telling.{noted_in, noted_went, told_light}
use Rattle.stomach.proofs.ends.correct_magnification.Goals as goal

pub returns-in_err-report-clause-err : goal.returns-in_err-report-clause-err
returns-in_err-report-clause-err g c = let i = c.in_err-report in let e = c.args.engine.now in
    same_err c.from_residual.result i.field-0.0 _ c.from_residual.ensures.1
    (λ sizes f book r rs st. let at = with_work (r ∷ rs) book in
    stands_in sizes e c.report.new.self at _ _ _ i.field-0.0 (i.ensures.err sizes f at (magnification_set c.args.mag (noting r)) st.sound.sized.few_reports) c.report.ensures.frames st)

pub returns-clause-rule : goal.returns-clause-rule
returns-clause-rule g c = let e = c.args.engine.now in
    λ sizes f book r rs st. let at = with_work (r ∷ rs) book in
    reported_halts sizes e c.report.new.self at _ _ _ (AtFatal fatal.HundredErrors) c.report.ensures.frames st (c.in_ok-report.ensures.last c.if-branch.false sizes f at (magnification_set c.args.mag (noting r)))

pub returns-in_err-set_number-clause-err : goal.returns-in_err-set_number-clause-err
returns-in_err-set_number-clause-err g c = let e = c.args.engine.now in let e1 = c.report.new.self in let e2 = c.set_number.new.engine in let m = c.args.mag in let n = c.report.ensures in let k = c.in_ok-report.ensures in let i = c.in_err-set_number in
    let s1 = g.S.Sink.told c.report.new.out in
    let column : e2.in_line ≡ e1.in_line = search (rules, c.set_number.ensures.only) in let fits : FitsSigned w32 c.from.result = search rules in
    same_err c.from_residual-in_err-set_number.result i.field-0.0 _ c.from_residual-in_err-set_number.ensures.1
    (λ sizes f book r rs st. let at = with_work (r ∷ rs) book in let rest = magnification_set m (noting r) in
    let st1 = reported_stands sizes e e1 at n.frames n.input (k.sized c.if-branch.true sizes) st in
    reported_in sizes e e1 e2 at f (g.S.Sink.told c.args.out.now) s1 s1 c.args.report rest (k.on c.if-branch.true sizes f at rest) i.field-0.0
    (column_in sizes (state_of e1 at) e2 f s1 e1.in_line rest i.field-0.0 column
    (stands_in sizes e1 e2 at _ _ rest i.field-0.0 ((rw (to_z-of_z w32 c.from.result fits, c.from.ensures) at i.ensures.err) sizes (world_of f s1 e1) at (MagnificationSet m ∷ noting r) st1) c.set_number.ensures.frames st1)))

pub returns-in_err-note-clause-err : goal.returns-in_err-note-clause-err
returns-in_err-note-clause-err g c = let e = c.args.engine.now in let e1 = c.report.new.self in let e2 = c.set_number.new.engine in let e4 = c.note.new.self in let m = c.args.mag in let n = c.report.ensures in let k = c.in_ok-report.ensures in let j = c.in_ok-set_number.ensures in let i = c.in_err-note in
    let s1 = g.S.Sink.told c.report.new.out in
    let column : e2.in_line ≡ e1.in_line = search (rules, c.set_number.ensures.only) in let fits : FitsSigned w32 c.from.result = search rules in
    let given = rw (to_z-of_z w32 c.from.result fits, c.from.ensures) at j.did in
    same_err c.from_residual-in_err-note.result (broken.Full i.field-0.0) _ c.from_residual-in_err-note.ensures.1
    (λ sizes f book r rs st. let at = with_work (r ∷ rs) book in let rest = magnification_set m (noting r) in let w = world_of f s1 e1 in let set = Set true (loc.Integer magnification) (val.Number (pos m)) in
    let st1 = reported_stands sizes e e1 at n.frames n.input (k.sized c.if-branch.true sizes) st in
    let st2 = j.stands sizes at st1 in
    reported_in sizes e e1 e4 at f (g.S.Sink.told c.args.out.now) s1 s1 c.args.report rest (k.on c.if-branch.true sizes f at rest) (broken.Full i.field-0.0)
    (column_in sizes (state_of e1 at) e4 f s1 e1.in_line rest (broken.Full i.field-0.0) (c.note.ensures.column ∙ column)
    (noted_in sizes e1 (record e2 { mag_set = m }) e4 book w r rs (set ∷ MagnificationSet m ∷ [])
    (did_join sizes _ _ _ w w w (set ∷ []) (MagnificationSet m ∷ []) (given (lit< tt) tt sizes w at st1) (mag_did sizes e2 at w m)) (broken.Full i.field-0.0)
    (i.ensures.refused sizes w book r rs (mag_stands sizes e2 at m st2)))))

pub returns-then-branch-clause-rule : goal.returns-then-branch-clause-rule
returns-then-branch-clause-rule g c = let e = c.args.engine.now in let e1 = c.report.new.self in let e2 = c.set_number.new.engine in let e4 = c.note.new.self in let m = c.args.mag in let n = c.report.ensures in let k = c.in_ok-report.ensures in let j = c.in_ok-set_number.ensures in let i = c.in_ok-note.ensures in
    let s1 = g.S.Sink.told c.report.new.out in
    let column : e2.in_line ≡ e1.in_line = search (rules, c.set_number.ensures.only) in let fits : FitsSigned w32 c.from.result = search rules in
    let given = rw (to_z-of_z w32 c.from.result fits, c.from.ensures) at j.did in
    λ sizes f book r rs st. let at = with_work (r ∷ rs) book in let rest = magnification_set m (noting r) in let w = world_of f s1 e1 in let set = Set true (loc.Integer magnification) (val.Number (pos m)) in
    let st1 = reported_stands sizes e e1 at n.frames n.input (k.sized c.if-branch.true sizes) st in
    let st3 = mag_stands sizes e2 at m (j.stands sizes at st1) in
    reported_went sizes e e1 e4 at f (g.S.Sink.told c.args.out.now) s1 s1 c.args.report rest (k.on c.if-branch.true sizes f at rest)
    (column_went sizes (state_of e1 at) e4 f s1 e1.in_line rest 0 (c.note.ensures.column ∙ column)
    (noted_went sizes e1 (record e2 { mag_set = m }) e4 book w r rs (set ∷ MagnificationSet m ∷ [])
    (did_join sizes _ _ _ w w w (set ∷ []) (MagnificationSet m ∷ []) (given (lit< tt) tt sizes w at st1) (mag_did sizes e2 at w m))
    (corrected_free (state_of e1 at) r m) (i.did sizes w book r rs st3) (i.stands sizes at st3)))

pub returns-then-branch-clause-light : goal.returns-then-branch-clause-light
returns-then-branch-clause-light g c = let e = c.args.engine.now in let e1 = c.report.new.self in let e2 = c.set_number.new.engine in let m = c.args.mag in let n = c.report.ensures in let i = c.in_ok-note.ensures in
    let left : pending_weight e2.input.pending ≡ pending_weight e1.input.pending = search (rules, c.set_number.ensures.only) in
    λ free reported. told_light e (record e2 { mag_set = m }) c.note.new.self c.requires.uncalled (mag_frames e e2 m (frames_join e e1 e2 n.frames c.set_number.ensures.frames))
    (left ∙ ap (λ (x : Stored). pending_weight x.pending) n.input) i.light reported
