use Rattle.std.proofs.Common.{[], ◌∙◌}
use Rattle.plain_readings.specs.Readings.{Behind}
use Rattle.engine_state.specs.declared.outcome.Ruled.TheVariants.{Step, Halted}
use Rattle.plain_machine.specs.declared.broken.Broken.TheVariants as broken
use Rattle.plain_machine.specs.Plan.{put_one}
use Rattle.engine_state.proofs.Counting.{counts_of}
use Rattle.gullet.proofs.Expanding.{stayed}
use Rattle.engine_state.proofs.Joining.{same_err}
use Rattle.stomach.proofs.ActsEnding.{begun_cut, expanded_cut, expanded_rule, once_went, once_stays, once_halts, once_over, stayed_cut, stayed_rule, stayed_stands}
use Rattle.stomach.proofs.Lighter.{expanded_lighter, once_expanded, stayed_lighter}
use Rattle.stomach.proofs.effects.expand_behind.Goals as goal

pub returns-in_err-begin-clause-err : goal.returns-in_err-begin-clause-err
returns-in_err-begin-clause-err g c = let e = c.args.engine.now in let e1 = c.close_reading.new.self in let l = c.close_reading.ensures in let n = c.in_err-begin in
    same_err c.from_residual.result (broken.Full n.field-0.0) _ c.from_residual.ensures.1
    (λ sizes f book r rs st. let left = l.stands sizes book r rs st in
    begun_cut sizes e e1 book r rs f (g.S.Sink.told c.args.out.now) (l.state sizes book r rs st) l.others.in_line c.begin.new.self (Behind c.args.call c.args.x) _ n.field-0.0 n.ensures.err (n.ensures.refused sizes _ (counts_of sizes e1 _ left)) left)

pub returns-in_err-expand_once-clause-err : goal.returns-in_err-expand_once-clause-err
returns-in_err-expand_once-clause-err g c = let e = c.args.engine.now in let e1 = c.close_reading.new.self in let e2 = c.begin.new.self in let l = c.close_reading.ensures in let b = c.in_ok-begin.ensures in let n = c.in_err-expand_once in
    same_err c.from_residual-in_err-expand_once.result n.field-0.0 _ c.from_residual-in_err-expand_once.ensures.1
    (λ sizes f book r rs st. let left = l.stands sizes book r rs st in
    expanded_cut sizes e e1 book r rs f (g.S.Sink.told c.args.out.now) (l.state sizes book r rs st) l.others.in_line e2 c.args.call c.args.x c.args.y (b.state sizes _ left) (b.fits sizes _ (counts_of sizes e1 _ left)) b.same.others.in_line
    c.expand_once.new.engine (g.S.Sink.told c.expand_once.new.out) n.field-0.0 (n.ensures.err sizes f _ (put_one c.args.y.token) (b.stands sizes _ left)))

pub returns-in-Expanded-clause-rule : goal.returns-in-Expanded-clause-rule
returns-in-Expanded-clause-rule g c = let e = c.args.engine.now in let e1 = c.close_reading.new.self in let e2 = c.begin.new.self in let l = c.close_reading.ensures in let b = c.in_ok-begin.ensures in let n = c.in_ok-expand_once in
    λ sizes f book r rs st. let left = l.stands sizes book r rs st in
    expanded_rule sizes e e1 book r rs f (g.S.Sink.told c.args.out.now) (l.state sizes book r rs st) l.others.in_line e2 c.args.call c.args.x c.args.y (b.state sizes _ left) (b.fits sizes _ (counts_of sizes e1 _ left)) b.same.others.in_line
    c.expand_once.new.engine (g.S.Sink.told c.expand_once.new.out) Step (b.same.call ∙ ((l.same c.requires.uncalled).call ∙ c.requires.uncalled)) (λ halted. absurd halted) (b.stands sizes _ left)
    (once_went sizes _ c.expand_once.new.engine _ _ _ _ (put_one c.args.y.token) n.field-0 (n.ensures.rule sizes f _ (put_one c.args.y.token) (b.stands sizes _ left)) c.in-Expanded.is)

pub returns-in-Over-clause-rule : goal.returns-in-Over-clause-rule
returns-in-Over-clause-rule g c = let e = c.args.engine.now in let e1 = c.close_reading.new.self in let e2 = c.begin.new.self in let l = c.close_reading.ensures in let b = c.in_ok-begin.ensures in let n = c.in_ok-expand_once in
    λ sizes f book r rs st. let left = l.stands sizes book r rs st in
    expanded_rule sizes e e1 book r rs f (g.S.Sink.told c.args.out.now) (l.state sizes book r rs st) l.others.in_line e2 c.args.call c.args.x c.args.y (b.state sizes _ left) (b.fits sizes _ (counts_of sizes e1 _ left)) b.same.others.in_line
    c.expand_once.new.engine (g.S.Sink.told c.expand_once.new.out) (Halted c.in-Over.outcome) (b.same.call ∙ ((l.same c.requires.uncalled).call ∙ c.requires.uncalled)) (λ halted. n.ensures.halts (once_over n.field-0 c.in-Over.outcome c.in-Over.is)) (b.stands sizes _ left)
    (once_halts sizes _ c.expand_once.new.engine _ _ _ _ (put_one c.args.y.token) n.field-0 (n.ensures.rule sizes f _ (put_one c.args.y.token) (b.stands sizes _ left)) c.in-Over.outcome c.in-Over.is)

pub returns-in_err-put_one-in-Stays-clause-err : goal.returns-in_err-put_one-in-Stays-clause-err
returns-in_err-put_one-in-Stays-clause-err g c = let e = c.args.engine.now in let e1 = c.close_reading.new.self in let e2 = c.begin.new.self in let l = c.close_reading.ensures in let b = c.in_ok-begin.ensures in let n = c.in_ok-expand_once in let p = c.in_err-put_one-in-Stays in
    let e3 = c.expand_once.new.engine in let same = n.ensures.stays (stayed n.field-0 c.in-Stays.is) in let silent = n.ensures.silent (stayed n.field-0 c.in-Stays.is) in
    same_err c.from_residual-in_err-put_one-in-Stays.result p.field-0.0 _ c.from_residual-in_err-put_one-in-Stays.ensures.1
    (λ sizes f book r rs st. let left = l.stands sizes book r rs st in let now = b.stands sizes _ left in
    let stays = once_stays sizes _ e3 _ _ _ _ (put_one c.args.y.token) n.field-0 (n.ensures.rule sizes f _ (put_one c.args.y.token) now) c.in-Stays.is in
    let is = l.state sizes book r rs st in let begun = b.state sizes _ left in let fits = b.fits sizes _ (counts_of sizes e1 _ left) in
    let st3 = stayed_stands sizes e e1 book r rs f (g.S.Sink.told c.args.out.now) is l.others.in_line e2 c.args.call c.args.x c.args.y begun fits b.same.others.in_line e3 (g.S.Sink.told c.expand_once.new.out) same silent stays now in
    stayed_cut sizes e e1 book r rs f (g.S.Sink.told c.args.out.now) is l.others.in_line e2 c.args.call c.args.x c.args.y begun fits b.same.others.in_line e3 (g.S.Sink.told c.expand_once.new.out) same silent stays now c.put_one.new.self p.ensures.frames p.ensures.others p.field-0.0
    (p.ensures.err sizes _ _ [] (counts_of sizes e3 _ st3) st3.idle))

pub returns-in_ok-put_one-in-Stays-clause-rule : goal.returns-in_ok-put_one-in-Stays-clause-rule
returns-in_ok-put_one-in-Stays-clause-rule g c = let e = c.args.engine.now in let e1 = c.close_reading.new.self in let e2 = c.begin.new.self in let l = c.close_reading.ensures in let b = c.in_ok-begin.ensures in let n = c.in_ok-expand_once in let p = c.in_ok-put_one-in-Stays in
    let e3 = c.expand_once.new.engine in let same = n.ensures.stays (stayed n.field-0 c.in-Stays.is) in let silent = n.ensures.silent (stayed n.field-0 c.in-Stays.is) in
    λ sizes f book r rs st. let left = l.stands sizes book r rs st in let now = b.stands sizes _ left in
    let stays = once_stays sizes _ e3 _ _ _ _ (put_one c.args.y.token) n.field-0 (n.ensures.rule sizes f _ (put_one c.args.y.token) now) c.in-Stays.is in
    let is = l.state sizes book r rs st in let begun = b.state sizes _ left in let fits = b.fits sizes _ (counts_of sizes e1 _ left) in
    let st3 = stayed_stands sizes e e1 book r rs f (g.S.Sink.told c.args.out.now) is l.others.in_line e2 c.args.call c.args.x c.args.y begun fits b.same.others.in_line e3 (g.S.Sink.told c.expand_once.new.out) same silent stays now in
    stayed_rule sizes e e1 book r rs f (g.S.Sink.told c.args.out.now) is l.others.in_line e2 c.args.call c.args.x c.args.y begun fits b.same.others.in_line e3 (g.S.Sink.told c.expand_once.new.out) same silent stays now c.put_one.new.self p.ensures.frames p.ensures.others
    p.ensures.store p.ensures.idle (p.ensures.did sizes _ _ (counts_of sizes e3 _ st3) st3.idle)

pub returns-in-Expanded-clause-light : goal.returns-in-Expanded-clause-light
returns-in-Expanded-clause-light g c = let e = c.args.engine.now in let e1 = c.close_reading.new.self in let e2 = c.begin.new.self in let l = c.close_reading.ensures in let b = c.in_ok-begin.ensures in let n = c.in_ok-expand_once in
    λ free asks. expanded_lighter e e1 e2 c.args.call c.args.x c.args.y c.requires.uncalled asks l.same l.frames b.same b.frames b.weight c.expand_once.new.engine
    (n.ensures.light (once_expanded n.field-0 c.in-Expanded.is) b.weight)

pub returns-in_ok-put_one-in-Stays-clause-light : goal.returns-in_ok-put_one-in-Stays-clause-light
returns-in_ok-put_one-in-Stays-clause-light g c = let e = c.args.engine.now in let e1 = c.close_reading.new.self in let e2 = c.begin.new.self in let l = c.close_reading.ensures in let b = c.in_ok-begin.ensures in let n = c.in_ok-expand_once in let p = c.in_ok-put_one-in-Stays.ensures in
    λ free asks. stayed_lighter e e1 e2 c.args.call c.args.x c.args.y c.requires.uncalled asks l.same l.frames b.same b.frames b.weight c.expand_once.new.engine c.put_one.new.self
    (n.ensures.stays (stayed n.field-0 c.in-Stays.is)) p.frames p.light
