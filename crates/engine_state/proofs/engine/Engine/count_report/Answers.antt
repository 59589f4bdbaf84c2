use Rattle.std.proofs.Common.{arith, ◌≡◌, ℕ, ◌+◌, ◌<◌, ◌≤◌, refl, ap, ◌∙◌, true, false}
use Rattle.std.proofs.lemmas.Bool.Decides.{nat_tests}
use Rattle.std.specs.Prelude.{nat_lt}
use Rattle.plain_machine.specs.Plan.{reports_room}
use Rattle.plain_state.specs.Reports.{hundred_line}
use Rattle.engine_state.specs.Stands.{own_style}
use Rattle.engine_state.proofs.Joining.{same_err}
use Rattle.engine_state.proofs.Reporting.{counts_on, counted_halts, counted_cuts, counted_last, did_text, cut_text}
use Rattle.engine_state.proofs.Storing.{counted_here}
use Rattle.engine_state.proofs.engine.Engine.count_report.Goals as goal

is_below : (a b : ℕ) → a < b → nat_lt a b ≡ true
is_below a b h = grind (arith, nat_tests)

not_below : (a b : ℕ) → b ≤ a → nat_lt a b ≡ false
not_below a b h = grind (arith, nat_tests)

pub returns-then-self-lt-REPORTS_ROOM-clause-on : goal.returns-then-self-lt-REPORTS_ROOM-clause-on
returns-then-self-lt-REPORTS_ROOM-clause-on g c = λ yes sizes f book rest. let e = c.args.self.now in
    counts_on sizes e book _ _ rest refl (is_below e.reports reports_room c.if-self-lt-REPORTS_ROOM.true)

pub returns-then-self-lt-REPORTS_ROOM-clause-sized : goal.returns-then-self-lt-REPORTS_ROOM-clause-sized
returns-then-self-lt-REPORTS_ROOM-clause-sized g c = λ yes sizes sized. let e = c.args.self.now in counted_here sizes e (e.reports + 1) (omega (arith, c.if-self-lt-REPORTS_ROOM.true)) sized

pub returns-in_err-write_text-clause-err : goal.returns-in_err-write_text-clause-err
returns-in_err-write_text-clause-err g c = let e = c.args.self.now in let i = c.in_err-write_text in
    let text : c.bytes.result.now ≡ hundred_line (own_style e) = c.bytes.ensures.bytes ∙ (c.hundred_line-text.ensures ∙ ap hundred_line c.view_of.ensures.style) in
    same_err c.from_residual.result i.field-0.0 _ c.from_residual.ensures.1
    (λ sizes f book rest few. counted_cuts sizes e c.write_text.new.self book _ _ rest (not_below e.reports reports_room c.if-self-lt-REPORTS_ROOM.false) _ i.field-0.0
    (counted_last e book 100 (omega (arith, few, c.if-self-lt-REPORTS_ROOM.false))) (cut_text sizes _ _ book _ _ i.field-0.0 _ _ text (i.ensures.err sizes f book)))

pub returns-clause-last : goal.returns-clause-last
returns-clause-last g c = λ no sizes f book rest. let e = c.args.self.now in
    let text : c.bytes.result.now ≡ hundred_line (own_style e) = c.bytes.ensures.bytes ∙ (c.hundred_line-text.ensures ∙ ap hundred_line c.view_of.ensures.style) in
    counted_halts sizes e c.write_text.new.self book _ _ rest (not_below e.reports reports_room c.if-self-lt-REPORTS_ROOM.false) _ (did_text sizes _ _ _ _ _ _ text (c.in_ok-write_text.ensures.did sizes f book))
    (λ few. counted_last e book 100 (omega (arith, few, c.if-self-lt-REPORTS_ROOM.false)))
