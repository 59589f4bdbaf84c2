use Rattle.std.proofs.Common.{◌∷◌, ◌∙◌}
use Rattle.plain_readings.specs.Readings.{Reads}
use Rattle.plain_machine.specs.declared.broken.Broken.TheVariants as broken
use Rattle.engine_state.specs.Book.{with_work}
use Rattle.engine_state.proofs.Counting.{counts_of}
use Rattle.engine_state.proofs.Joining.{same_err}
use Rattle.stomach.proofs.InnerBegun.{asks_no_command, begun_went, begun_with_went, begun_in, begun_with_in, begun_light, begun_with_light, refused_light}
use Rattle.stomach.proofs.ends.begin_inner.Goals as goal

-- a command isn't begun

pub returns-in-Command-clause-rule : goal.returns-in-Command-clause-rule
returns-in-Command-clause-rule c =
    λ sizes w book r rs st asks. asks_no_command sizes c.args.engine.now (with_work (r ∷ rs) book) c.args.phrase c.in-Command.field-0 c.args.begins c.in-Command.is st asks

pub returns-in-Command-clause-light : goal.returns-in-Command-clause-light
returns-in-Command-clause-light c = let l = c.close_reading.ensures in
    λ asks. refused_light c.args.engine.now c.close_reading.new.self c.requires.uncalled ((l.same c.requires.uncalled).call ∙ c.requires.uncalled) (l.same c.requires.uncalled).pending c.args.phrase c.args.begins asks c.in-Command.field-0 c.in-Command.is l.frames l.weight

-- with the last token

pub returns-in_err-begin_with-clause-err : goal.returns-in_err-begin_with-clause-err
returns-in_err-begin_with-clause-err c = let e = c.args.engine.now in let n = c.in_err-begin_with in
    same_err c.from_residual.result (broken.Full n.field-0.0) _ c.from_residual.ensures.1
    (λ sizes w book r rs st. let at = with_work (r ∷ rs) book in
    begun_with_in sizes e c.begin_with.new.self at w (Reads c.args.phrase) c.args.begins n.field-0.0 c.if-begins.true n.ensures.err (n.ensures.refused sizes at (counts_of sizes e at st)) st)

pub returns-then-begins-clause-rule : goal.returns-then-begins-clause-rule
returns-then-begins-clause-rule c = let e = c.args.engine.now in let b = c.in_ok-begin_with.ensures in
    λ sizes w book r rs st asks. let at = with_work (r ∷ rs) book in
    begun_with_went sizes e c.begin_with.new.self at w (Reads c.args.phrase) c.args.begins c.if-begins.true (b.fits sizes at (counts_of sizes e at st)) (b.state sizes at st) (b.stands sizes at st)

pub returns-then-begins-clause-light : goal.returns-then-begins-clause-light
returns-then-begins-clause-light c = let b = c.in_ok-begin_with.ensures in let s = c.begin_with.ensures.same in
    λ asks. begun_with_light c.args.engine.now c.begin_with.new.self c.requires.uncalled (s.call ∙ c.requires.uncalled) s.pending c.args.phrase c.args.begins asks c.in_default.not-Command c.if-begins.true b.frames b.weight

-- without one

pub returns-in_err-begin-clause-err : goal.returns-in_err-begin-clause-err
returns-in_err-begin-clause-err c = let e = c.args.engine.now in let n = c.in_err-begin in
    same_err c.from_residual-in_err-begin.result (broken.Full n.field-0.0) _ c.from_residual-in_err-begin.ensures.1
    (λ sizes w book r rs st. let at = with_work (r ∷ rs) book in
    begun_in sizes e c.begin.new.self at w (Reads c.args.phrase) c.args.begins n.field-0.0 c.if-begins.false n.ensures.err (n.ensures.refused sizes at (counts_of sizes e at st)) st)

pub returns-clause-rule : goal.returns-clause-rule
returns-clause-rule c = let e = c.args.engine.now in let b = c.in_ok-begin.ensures in
    λ sizes w book r rs st asks. let at = with_work (r ∷ rs) book in
    begun_went sizes e c.begin.new.self at w (Reads c.args.phrase) c.args.begins c.if-begins.false (b.fits sizes at (counts_of sizes e at st)) (b.state sizes at st) (b.stands sizes at st)

pub returns-clause-light : goal.returns-clause-light
returns-clause-light c = let b = c.in_ok-begin.ensures in let s = c.begin.ensures.same in
    λ asks. begun_light c.args.engine.now c.begin.new.self c.requires.uncalled (s.call ∙ c.requires.uncalled) s.pending c.args.phrase c.args.begins asks c.in_default.not-Command c.if-begins.false b.frames b.weight
