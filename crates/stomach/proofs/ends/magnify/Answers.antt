use Rattle.std.proofs.Common.{◌≡◌, ◌≢◌, pos, refl, sym, ap, ◌∙◌, true, false, rules, w32, FitsSigned, to_z, of_z}
use Rattle.std.specs.Prelude.{nat_abs}
use Rattle.std.proofs.lemmas.Int.{to_z-of_z}
use Rattle.plain_machine.specs.Plan.{is_magnification, noting}
use Rattle.engine_state.specs.Rules.{world_of}
use Rattle.engine_state.specs.Stands.{page_of}
use Rattle.engine_state.proofs.Joining.{same_err, ok_to, err_to, went_by, column_went}
use Rattle.engine_state.proofs.CuttingReadings.{column_in, in_by}
use Rattle.stomach.proofs.Magnifying.{legal_moves, illegal_moves, same_moves, other_moves}
use Rattle.stomach.proofs.RuleHalts.{rules_by}
use Rattle.stomach.proofs.ends.magnify.Goals as goal

pub returns-then-is_magnification-clause-rule : goal.returns-then-is_magnification-clause-rule
returns-then-is_magnification-clause-rule g c = let e = c.args.engine.now in let e1 = c.set_magnification.new.engine in let s = g.S.Sink.told c.args.out.now in let n = c.integer-n.result in
    let fits : FitsSigned w32 n = search rules in
    let legal : is_magnification n ≡ true = sym (rw (to_z-of_z w32 n fits) at c.if-is_magnification.ensures) in
    λ sizes f book r rs st.
    went_by sizes _ e1 _ _ _ _ 0 (legal_moves (page_of e book) (noting r) n (sym c.integer-n.ensures) c.if-mag_set-eq0.true legal _ (ap nat_abs (sym (to_z-of_z w32 n fits))))
    (column_went sizes _ e1 f s e.in_line _ 0 c.set_magnification.ensures.column (c.in_ok-set_magnification.ensures.rule sizes (world_of f s e) book r rs st))

pub returns-in_err-set_magnification-clause-err : goal.returns-in_err-set_magnification-clause-err
returns-in_err-set_magnification-clause-err g c = let e = c.args.engine.now in let e1 = c.set_magnification.new.engine in let s = g.S.Sink.told c.args.out.now in let n = c.integer-n.result in
    let fits : FitsSigned w32 n = search rules in
    let legal : is_magnification n ≡ true = sym (rw (to_z-of_z w32 n fits) at c.if-is_magnification.ensures) in
    let i = c.in_err-set_magnification in
    same_err c.from_residual.result i.field-0.0 _ c.from_residual.ensures.1
    (λ sizes f book r rs st.
    in_by sizes _ e1 _ _ _ _ i.field-0.0 (legal_moves (page_of e book) (noting r) n (sym c.integer-n.ensures) c.if-mag_set-eq0.true legal _ (ap nat_abs (sym (to_z-of_z w32 n fits))))
    (column_in sizes _ e1 f s e.in_line _ i.field-0.0 c.set_magnification.ensures.column (i.ensures.err sizes (world_of f s e) book r rs st)))

pub returns-then-mag_set-eq0-clause-rule : goal.returns-then-mag_set-eq0-clause-rule
returns-then-mag_set-eq0-clause-rule g c = let e = c.args.engine.now in let n = c.integer-n.result in let k = c.correct_magnification in
    let fits : FitsSigned w32 n = search rules in
    let illegal : is_magnification n ≡ false = sym (rw (to_z-of_z w32 n fits) at c.if-is_magnification.ensures) in
    ok_to k.result (λ ruled h sizes f book r rs st.
    rules_by sizes _ k.new.engine _ _ _ _ ruled (illegal_moves (page_of e book) (noting r) n (sym c.integer-n.ensures) c.if-mag_set-eq0.true illegal) (h sizes f book r rs st)) (rw (to_z-of_z w32 n fits) at k.ensures.rule)

pub returns-then-mag_set-eq0-clause-err : goal.returns-then-mag_set-eq0-clause-err
returns-then-mag_set-eq0-clause-err g c = let e = c.args.engine.now in let n = c.integer-n.result in let k = c.correct_magnification in
    let fits : FitsSigned w32 n = search rules in
    let illegal : is_magnification n ≡ false = sym (rw (to_z-of_z w32 n fits) at c.if-is_magnification.ensures) in
    err_to k.result (λ b h sizes f book r rs st.
    in_by sizes _ k.new.engine _ _ _ _ b (illegal_moves (page_of e book) (noting r) n (sym c.integer-n.ensures) c.if-mag_set-eq0.true illegal) (h sizes f book r rs st)) (rw (to_z-of_z w32 n fits) at k.ensures.err)

pub returns-then-n-from-clause-rule : goal.returns-then-n-from-clause-rule
returns-then-n-from-clause-rule g c = let e = c.args.engine.now in let e1 = c.proceed.new.engine in let s = g.S.Sink.told c.args.out.now in let n = c.integer-n.result in
    let fits : FitsSigned w32 n = search rules in let other_fits : FitsSigned w32 c.from.result = search rules in
    let same : n ≡ pos e.mag_set = sym (to_z-of_z w32 n fits) ∙ ap (to_z w32) c.if-n-from.true ∙ to_z-of_z w32 c.from.result other_fits ∙ c.from.ensures in
    λ sizes f book r rs st.
    went_by sizes _ e1 _ _ _ _ 0 (same_moves (page_of e book) (noting r) n (sym c.integer-n.ensures) e.mag_set refl c.if-mag_set-eq0.false same)
    (column_went sizes _ e1 f s e.in_line _ 0 c.proceed.ensures.column (c.in_ok-proceed.ensures.rule sizes (world_of f s e) book r rs st))

pub returns-in_err-proceed-clause-err : goal.returns-in_err-proceed-clause-err
returns-in_err-proceed-clause-err g c = let e = c.args.engine.now in let e1 = c.proceed.new.engine in let s = g.S.Sink.told c.args.out.now in let n = c.integer-n.result in
    let fits : FitsSigned w32 n = search rules in let other_fits : FitsSigned w32 c.from.result = search rules in
    let same : n ≡ pos e.mag_set = sym (to_z-of_z w32 n fits) ∙ ap (to_z w32) c.if-n-from.true ∙ to_z-of_z w32 c.from.result other_fits ∙ c.from.ensures in
    let i = c.in_err-proceed in
    same_err c.from_residual-in_err-proceed.result i.field-0.0 _ c.from_residual-in_err-proceed.ensures.1
    (λ sizes f book r rs st.
    in_by sizes _ e1 _ _ _ _ i.field-0.0 (same_moves (page_of e book) (noting r) n (sym c.integer-n.ensures) e.mag_set refl c.if-mag_set-eq0.false same)
    (column_in sizes _ e1 f s e.in_line _ i.field-0.0 c.proceed.ensures.column (i.ensures.err sizes (world_of f s e) book r rs st)))

pub returns-clause-rule : goal.returns-clause-rule
returns-clause-rule g c = let e = c.args.engine.now in let n = c.integer-n.result in let k = c.correct_magnification-2 in
    let fits : FitsSigned w32 n = search rules in
    let other : n ≢ pos e.mag_set = λ same. c.if-n-from.false (ap (of_z w32) (same ∙ sym c.from.ensures)) in
    ok_to k.result (λ ruled h sizes f book r rs st.
    rules_by sizes _ k.new.engine _ _ _ _ ruled (other_moves (page_of e book) (noting r) n (sym c.integer-n.ensures) e.mag_set refl c.if-mag_set-eq0.false other) (h sizes f book r rs st)) (rw (to_z-of_z w32 n fits) at k.ensures.rule)

pub returns-clause-err : goal.returns-clause-err
returns-clause-err g c = let e = c.args.engine.now in let n = c.integer-n.result in let k = c.correct_magnification-2 in
    let fits : FitsSigned w32 n = search rules in
    let other : n ≢ pos e.mag_set = λ same. c.if-n-from.false (ap (of_z w32) (same ∙ sym c.from.ensures)) in
    err_to k.result (λ b h sizes f book r rs st.
    in_by sizes _ k.new.engine _ _ _ _ b (other_moves (page_of e book) (noting r) n (sym c.integer-n.ensures) e.mag_set refl c.if-mag_set-eq0.false other) (h sizes f book r rs st)) (rw (to_z-of_z w32 n fits) at k.ensures.err)
