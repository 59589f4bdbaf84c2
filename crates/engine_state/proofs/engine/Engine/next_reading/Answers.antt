use Rattle.std.proofs.Common.{[], sym, ap, arith}
use Rattle.tex_syntax.specs.declared.words.Report.TheVariants.{InvalidCharacter}
use Rattle.plain_machine.specs.declared.broken.Broken.TheVariants as broken
use Rattle.plain_machine.specs.Plan.{Page, reported}
use Rattle.input_state.specs.Reads.{gives_step}
use Rattle.engine_state.specs.declared.outcome.Last.TheVariants.{NoEnd}
use Rattle.engine_state.specs.Begins.{last_moves}
use Rattle.engine_state.specs.Stands.{page_of}
use Rattle.engine_state.specs.Rules.{onward_of, scanning_of}
use Rattle.engine_state.specs.Steps.{next_met, next_free}
use Rattle.engine_state.proofs.Coming.{meets_by, next_as}
use Rattle.engine_state.proofs.Joining.{same_err, onward_by}
use Rattle.engine_state.proofs.CuttingReadings.{cuts_in, in_by}
use Rattle.engine_state.proofs.Pulling.{token_nexts, token_cuts, token_fits, token_moves_still, name_moves_still, checked_still, lexeme_nexts, lexeme_cuts, taken_rule, pull_cuts, skipped_nexts, skipped_cuts, closed_nexts, closed_cuts, no_end_nexts, no_end_cuts, token_at, lexeme_at, taken_at, invalid_at, over_at, nothing_left, pull_store, frames_now, stands_now, takes_still, token_page, lexeme_page, invalid_page, settled_page, file_gone, lighter_skip, lighter_close, lighter_after, skipped_light, steps_met, steps_free, not_met, not_over, nothing_steps}
use Rattle.engine_state.proofs.engine.Engine.next_reading.Goals as goal

pub returns-in_err-token-clause-err : goal.returns-in_err-token-clause-err
returns-in_err-token-clause-err g c = let e = c.args.self.now in let i = c.in_err-token in
    same_err c.from_residual.result (broken.Full i.field-0.0) _ c.from_residual.ensures.1
    (λ sizes f book want enters takes. cuts_in sizes e _ book _ _ _ _ (pull_cuts sizes e c.pull.new.self c.pull.ensures.others book _ (page_of e book) want (scanning_of e book.work) (onward_of (page_of e book) want book.work) i.field-0.0
    takes.1.sound.sized.input i.ensures.err i.ensures.refused) (frames_now e c.pull.new.self c.pull.ensures.others) takes.1)

pub returns-in_ok-met-in-Token-clause-rule : goal.returns-in_ok-met-in-Token-clause-rule
returns-in_ok-met-in-Token-clause-rule g c = let e = c.args.self.now in let i = c.pull.new.self in let o = c.pull.ensures.others in let p = token_at _ _ c.args.self.now.input c.pull.new.self c.in_ok-token.ensures.ok c.in-Token.token c.in-Token.is in let t = c.in-Token.token in let n = c.in_ok-met-in-Token in
    λ sizes f book want enters takes. next_as sizes want _ c.meet.new.self book _ _ _ (next_met n.met) _ c.met_next.ensures (token_nexts sizes e i o book _ (page_of e book) want (scanning_of e book.work) (onward_of (page_of e book) want book.work) t p.0 (token_fits sizes e book t p.1 takes.1.sound.sized.input) _ c.meet.new.self n.met
    (meets_by sizes want _ c.meet.new.self book _ _ _ _ n.met (token_moves_still sizes e i o book want t (token_page sizes e i o book t p.0)) (n.ensures.rule sizes f book want (takes_still sizes e i o want book (pull_store sizes e i o _ c.in_ok-token.ensures.ok c.pull.ensures.keeps) takes))))

pub returns-in_err-met-in-Token-clause-err : goal.returns-in_err-met-in-Token-clause-err
returns-in_err-met-in-Token-clause-err g c = let e = c.args.self.now in let i = c.pull.new.self in let o = c.pull.ensures.others in let p = token_at _ _ c.args.self.now.input c.pull.new.self c.in_ok-token.ensures.ok c.in-Token.token c.in-Token.is in let t = c.in-Token.token in let n = c.in_err-met-in-Token in
    same_err c.from_residual-in_err-met-in-Token.result n.field-0.0 _ c.from_residual-in_err-met-in-Token.ensures.1
    (λ sizes f book want enters takes. token_cuts sizes e i o book _ (page_of e book) want (scanning_of e book.work) (onward_of (page_of e book) want book.work) t p.0 (token_fits sizes e book t p.1 takes.1.sound.sized.input) _ c.meet.new.self n.field-0.0
    (in_by sizes _ c.meet.new.self _ _ _ _ n.field-0.0 (token_moves_still sizes e i o book want t (token_page sizes e i o book t p.0)) (n.ensures.err sizes f book want (takes_still sizes e i o want book (pull_store sizes e i o _ c.in_ok-token.ensures.ok c.pull.ensures.keeps) takes))))

pub returns-in_ok-met-in-Token-clause-step : goal.returns-in_ok-met-in-Token-clause-step
returns-in_ok-met-in-Token-clause-step g c = let e = c.args.self.now in let i = c.pull.new.self in let o = c.pull.ensures.others in let p = token_at _ _ c.args.self.now.input c.pull.new.self c.in_ok-token.ensures.ok c.in-Token.token c.in-Token.is in
    steps_met c.in_ok-met-in-Token.met _ _ c.met_next.ensures (ap gives_step p.0)

pub returns-in_ok-met-in-Token-clause-light : goal.returns-in_ok-met-in-Token-clause-light
returns-in_ok-met-in-Token-clause-light g c = λ skipped. absurd (not_met c.in_ok-met-in-Token.met _ c.met_next.ensures skipped)

pub returns-in_ok-met-in-Lexeme-clause-rule : goal.returns-in_ok-met-in-Lexeme-clause-rule
returns-in_ok-met-in-Lexeme-clause-rule g c = let e = c.args.self.now in let i = c.pull.new.self in let o = c.pull.ensures.others in let p = lexeme_at _ _ c.args.self.now.input c.pull.new.self c.in_ok-token.ensures.ok c.in-Lexeme.lexed c.in-Lexeme.is in let n = c.in_ok-met-in-Lexeme in
    λ sizes f book want enters takes. next_as sizes want _ c.meet_name.new.self book _ _ _ (next_met n.met) _ c.met_next-in-Lexeme.ensures (lexeme_nexts sizes e i o book _ (page_of e book) want (scanning_of e book.work) (onward_of (page_of e book) want book.work) p.lexeme p.pulls _ c.meet_name.new.self n.met
    (meets_by sizes want _ c.meet_name.new.self book _ _ _ _ n.met (name_moves_still sizes e i o book want p.lexeme (lexeme_page sizes e i o book p.lexeme p.pulls)) (n.ensures.rule sizes f book want p.lexeme enters p.is (takes_still sizes e i o want book (pull_store sizes e i o _ c.in_ok-token.ensures.ok c.pull.ensures.keeps) takes))))

pub returns-in_err-met-in-Lexeme-clause-err : goal.returns-in_err-met-in-Lexeme-clause-err
returns-in_err-met-in-Lexeme-clause-err g c = let e = c.args.self.now in let i = c.pull.new.self in let o = c.pull.ensures.others in let p = lexeme_at _ _ c.args.self.now.input c.pull.new.self c.in_ok-token.ensures.ok c.in-Lexeme.lexed c.in-Lexeme.is in let n = c.in_err-met-in-Lexeme in
    same_err c.from_residual-in_err-met-in-Lexeme.result n.field-0.0 _ c.from_residual-in_err-met-in-Lexeme.ensures.1
    (λ sizes f book want enters takes. lexeme_cuts sizes e i o book _ (page_of e book) want (scanning_of e book.work) (onward_of (page_of e book) want book.work) p.lexeme p.pulls _ c.meet_name.new.self n.field-0.0
    (in_by sizes _ c.meet_name.new.self _ _ _ _ n.field-0.0 (name_moves_still sizes e i o book want p.lexeme (lexeme_page sizes e i o book p.lexeme p.pulls)) (n.ensures.err sizes f book want p.lexeme enters p.is (takes_still sizes e i o want book (pull_store sizes e i o _ c.in_ok-token.ensures.ok c.pull.ensures.keeps) takes))))

pub returns-in_ok-met-in-Lexeme-clause-step : goal.returns-in_ok-met-in-Lexeme-clause-step
returns-in_ok-met-in-Lexeme-clause-step g c = let e = c.args.self.now in let i = c.pull.new.self in let o = c.pull.ensures.others in let p = lexeme_at _ _ c.args.self.now.input c.pull.new.self c.in_ok-token.ensures.ok c.in-Lexeme.lexed c.in-Lexeme.is in
    steps_met c.in_ok-met-in-Lexeme.met _ _ c.met_next-in-Lexeme.ensures (ap gives_step p.pulls)

pub returns-in_ok-met-in-Lexeme-clause-light : goal.returns-in_ok-met-in-Lexeme-clause-light
returns-in_ok-met-in-Lexeme-clause-light g c = λ skipped. absurd (not_met c.in_ok-met-in-Lexeme.met _ c.met_next-in-Lexeme.ensures skipped)

pub returns-in-Taken-clause-rule : goal.returns-in-Taken-clause-rule
returns-in-Taken-clause-rule g c = let e = c.args.self.now in let i = c.pull.new.self in let o = c.pull.ensures.others in let p = taken_at _ _ c.args.self.now.input c.pull.new.self c.in_ok-token.ensures.ok c.in-Taken.is in
    λ sizes f book want enters takes. taken_rule sizes e i o book _ (page_of e book) want (scanning_of e book.work) (onward_of (page_of e book) want book.work) p.0 p.1 takes.1.sound.sized.input
    (stands_now sizes e i o book (pull_store sizes e i o _ c.in_ok-token.ensures.ok c.pull.ensures.keeps) takes.1)

pub returns-in-Taken-clause-step : goal.returns-in-Taken-clause-step
returns-in-Taken-clause-step g c = ap gives_step (taken_at _ _ c.args.self.now.input c.pull.new.self c.in_ok-token.ensures.ok c.in-Taken.is).0.is

pub returns-in_err-ruled-in-Invalid-clause-err : goal.returns-in_err-ruled-in-Invalid-clause-err
returns-in_err-ruled-in-Invalid-clause-err g c = let e = c.args.self.now in let i = c.pull.new.self in let o = c.pull.ensures.others in let p = invalid_at _ _ c.args.self.now.input c.pull.new.self c.in_ok-token.ensures.ok c.in-Invalid.is in let n = c.in_err-ruled-in-Invalid in
    same_err c.from_residual-in_err-ruled-in-Invalid.result n.field-0.0 _ c.from_residual-in_err-ruled-in-Invalid.ensures.1
    (λ sizes f book want enters takes. skipped_cuts sizes e i o book _ (page_of e book) want (scanning_of e book.work) (onward_of (page_of e book) want book.work) p _ c.report_only.new.self n.field-0.0
    (in_by sizes _ c.report_only.new.self _ _ _ _ n.field-0.0 (ap (λ (x : Page). reported x InvalidCharacter []) (sym (invalid_page sizes e i o book p))) (cuts_in sizes _ c.report_only.new.self book _ _ _ _ (n.ensures.err sizes f book takes.1.sound.sized.few_reports) c.report_only.ensures.frames (stands_now sizes e i o book (pull_store sizes e i o _ c.in_ok-token.ensures.ok c.pull.ensures.keeps) takes.1))))

pub returns-in_ok-ruled-in-Invalid-clause-rule : goal.returns-in_ok-ruled-in-Invalid-clause-rule
returns-in_ok-ruled-in-Invalid-clause-rule g c = let e = c.args.self.now in let i = c.pull.new.self in let o = c.pull.ensures.others in let p = invalid_at _ _ c.args.self.now.input c.pull.new.self c.in_ok-token.ensures.ok c.in-Invalid.is in let n = c.in_ok-ruled-in-Invalid in let e2 = c.report_only.new.self in
    λ sizes f book want enters takes. next_as sizes want _ e2 book _ _ _ (next_free n.ruled) _ c.skipping.ensures (skipped_nexts sizes e i o book _ (page_of e book) want (scanning_of e book.work) (onward_of (page_of e book) want book.work) p _ e2 n.ruled
    (onward_by sizes _ e2 book _ _ _ _ n.ruled (ap (λ (x : Page). reported x InvalidCharacter []) (sym (invalid_page sizes e i o book p))) (n.ensures.rule sizes f book (stands_now sizes e i o book (pull_store sizes e i o _ c.in_ok-token.ensures.ok c.pull.ensures.keeps) takes.1))))

pub returns-in_ok-ruled-in-Invalid-clause-step : goal.returns-in_ok-ruled-in-Invalid-clause-step
returns-in_ok-ruled-in-Invalid-clause-step g c = let e = c.args.self.now in let i = c.pull.new.self in let o = c.pull.ensures.others in let p = invalid_at _ _ c.args.self.now.input c.pull.new.self c.in_ok-token.ensures.ok c.in-Invalid.is in
    steps_free c.in_ok-ruled-in-Invalid.ruled _ _ c.skipping.ensures (ap gives_step p)

pub returns-in_ok-ruled-in-Invalid-clause-light : goal.returns-in_ok-ruled-in-Invalid-clause-light
returns-in_ok-ruled-in-Invalid-clause-light g c = λ skipped. let e = c.args.self.now in let i = c.pull.new.self in let o = c.pull.ensures.others in let p = invalid_at _ _ c.args.self.now.input c.pull.new.self c.in_ok-token.ensures.ok c.in-Invalid.is in
    skipped_light e i c.report_only.new.self (frames_now e i o) c.report_only.ensures.frames c.report_only.ensures.input (lighter_skip e i p)

pub returns-in_err-ruled-in-FileOver-clause-err : goal.returns-in_err-ruled-in-FileOver-clause-err
returns-in_err-ruled-in-FileOver-clause-err g c = let e = c.args.self.now in let i = c.pull.new.self in let o = c.pull.ensures.others in let p = over_at _ _ c.args.self.now.input c.pull.new.self c.in_ok-token.ensures.ok c.in-FileOver.is in let n = c.in_err-ruled-in-FileOver in
    same_err c.from_residual-in_err-ruled-in-FileOver.result n.field-0.0 _ c.from_residual-in_err-ruled-in-FileOver.ensures.1
    (λ sizes f book want enters takes. closed_cuts sizes e i o book _ (page_of e book) want (scanning_of e book.work) (onward_of (page_of e book) want book.work) p _ c.check.new.self n.field-0.0
    (in_by sizes _ c.check.new.self _ _ _ _ n.field-0.0 (checked_still sizes e i o book (file_gone sizes e i o book)) (n.ensures.err sizes f book (want, takes_still sizes e i o want book (pull_store sizes e i o _ c.in_ok-token.ensures.ok c.pull.ensures.keeps) takes))))

pub returns-in_ok-ruled-in-FileOver-clause-rule : goal.returns-in_ok-ruled-in-FileOver-clause-rule
returns-in_ok-ruled-in-FileOver-clause-rule g c = let e = c.args.self.now in let i = c.pull.new.self in let o = c.pull.ensures.others in let p = over_at _ _ c.args.self.now.input c.pull.new.self c.in_ok-token.ensures.ok c.in-FileOver.is in let n = c.in_ok-ruled-in-FileOver in let e2 = c.check.new.self in
    λ sizes f book want enters takes. next_as sizes want _ e2 book _ _ _ (next_free n.ruled) _ c.skipping-in-FileOver.ensures (closed_nexts sizes e i o book _ (page_of e book) want (scanning_of e book.work) (onward_of (page_of e book) want book.work) p _ e2 n.ruled
    (onward_by sizes _ e2 book _ _ _ _ n.ruled (checked_still sizes e i o book (file_gone sizes e i o book)) (n.ensures.rule sizes f book (want, takes_still sizes e i o want book (pull_store sizes e i o _ c.in_ok-token.ensures.ok c.pull.ensures.keeps) takes))))

pub returns-in_ok-ruled-in-FileOver-clause-step : goal.returns-in_ok-ruled-in-FileOver-clause-step
returns-in_ok-ruled-in-FileOver-clause-step g c = let e = c.args.self.now in let i = c.pull.new.self in let o = c.pull.ensures.others in let p = over_at _ _ c.args.self.now.input c.pull.new.self c.in_ok-token.ensures.ok c.in-FileOver.is in
    steps_free c.in_ok-ruled-in-FileOver.ruled _ _ c.skipping-in-FileOver.ensures (ap gives_step p)

pub returns-in_ok-ruled-in-FileOver-clause-light : goal.returns-in_ok-ruled-in-FileOver-clause-light
returns-in_ok-ruled-in-FileOver-clause-light g c = λ skipped. let e = c.args.self.now in let i = c.pull.new.self in let o = c.pull.ensures.others in let p = over_at _ _ c.args.self.now.input c.pull.new.self c.in_ok-token.ensures.ok c.in-FileOver.is in let n = c.in_ok-ruled-in-FileOver in
    let less = lighter_after e (record e { input = i }) (frames_now e i o) (lighter_close e i p) in omega (arith, less, n.ensures.still)

pub returns-in_err-ruled-in-Nothing-clause-err : goal.returns-in_err-ruled-in-Nothing-clause-err
returns-in_err-ruled-in-Nothing-clause-err g c = let e = c.args.self.now in let i = c.pull.new.self in let o = c.pull.ensures.others in let p = nothing_left _ _ c.args.self.now.input c.pull.new.self c.in_ok-token.ensures.ok c.in-Nothing.is in let n = c.in_err-ruled-in-Nothing in
    same_err c.from_residual-in_err-ruled-in-Nothing.result n.field-0.0 _ c.from_residual-in_err-ruled-in-Nothing.ensures.1
    (λ sizes f book want enters takes. no_end_cuts sizes e i o book _ (page_of e book) want (scanning_of e book.work) (onward_of (page_of e book) want book.work) p.0 p.1 _ c.halt.new.self n.field-0.0
    (in_by sizes _ c.halt.new.self _ _ _ _ n.field-0.0 (ap (λ (x : Page). last_moves x NoEnd) (sym (settled_page sizes e i o book p.1))) (cuts_in sizes _ c.halt.new.self book _ _ _ n.field-0.0 (n.ensures.err sizes f book) c.halt.ensures.frames (stands_now sizes e i o book (pull_store sizes e i o _ c.in_ok-token.ensures.ok c.pull.ensures.keeps) takes.1))))

pub returns-in_ok-ruled-in-Nothing-clause-rule : goal.returns-in_ok-ruled-in-Nothing-clause-rule
returns-in_ok-ruled-in-Nothing-clause-rule g c = let e = c.args.self.now in let i = c.pull.new.self in let o = c.pull.ensures.others in let p = nothing_left _ _ c.args.self.now.input c.pull.new.self c.in_ok-token.ensures.ok c.in-Nothing.is in let n = c.in_ok-ruled-in-Nothing in
    λ sizes f book want enters takes. next_as sizes want _ c.halt.new.self book _ _ _ (next_free n.ruled) _ c.skipping-in-Nothing.ensures (no_end_nexts sizes e i o book _ (page_of e book) want (scanning_of e book.work) (onward_of (page_of e book) want book.work) p.0 p.1 _ c.halt.new.self n.ruled
    (onward_by sizes _ c.halt.new.self book _ _ _ _ n.ruled (ap (λ (x : Page). last_moves x NoEnd) (sym (settled_page sizes e i o book p.1))) (n.ensures.rule sizes f book)))

pub returns-in_ok-ruled-in-Nothing-clause-step : goal.returns-in_ok-ruled-in-Nothing-clause-step
returns-in_ok-ruled-in-Nothing-clause-step g c = nothing_steps c.in_ok-ruled-in-Nothing.ruled _ _ _ c.skipping-in-Nothing.ensures c.in_ok-ruled-in-Nothing.ensures.ends

pub returns-in_ok-ruled-in-Nothing-clause-light : goal.returns-in_ok-ruled-in-Nothing-clause-light
returns-in_ok-ruled-in-Nothing-clause-light g c = λ skipped. absurd (not_over c.in_ok-ruled-in-Nothing.ruled _ _ c.skipping-in-Nothing.ensures c.in_ok-ruled-in-Nothing.ensures.ends skipped)
