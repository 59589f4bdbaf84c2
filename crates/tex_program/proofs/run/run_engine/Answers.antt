use Rattle.std.proofs.Common.{◌∙◌, sym, subst, ap, ℕ, Bool, refl, Some, false, arith}
use Rattle.plain_machine.specs.Meaning.{First, Line, steps_line}
use Rattle.plain_machine.specs.Extended.{first_left}
use Rattle.world_io.specs.Contents.{world}
use Rattle.engine_state.specs.Rules.{world_of}
use Rattle.stomach.specs.Ran.{Came, Ran, StoppedBy, RanTo, StoppedTo}
use Rattle.stomach.proofs.Reading.{reads_map}
use Rattle.stomach.proofs.Running.{ran_join, stopped_join}
use Rattle.tex_program.specs.Says.{end_status}
use Rattle.tex_program.proofs.Meanings.{opened_came, ran_ended, ran_steps, stopped_on, says_alike, alike_quiet, cause_alike}
use Rattle.tex_program.proofs.run.run_engine.Goals as goal

pub returns-in-Ok-Halted-clause-says : goal.returns-in-Ok-Halted-clause-says
returns-in-Ok-Halted-clause-says g c =
    let a = g.S.Sink.told c.args.out.now in
    let b = g.S.Sink.told c.run_steps.new.out in
    let i = c.in-Ok-Halted in
    let rs = c.args.readers.now in
    let e = c.args.engine.now in
    let e' = c.run_steps.new.engine in
    let rs' = c.run_steps.new.readers in
    reads_map (RanTo rs e a e' b c.args.steps i.field-0) rs.readers rs'.readers _ _ _ i.ensures.run (λ all left was may x sizes f f' quiet file alike opened tied.
    let first = First quiet file (Some (first_left all.left)) all.files in
    let came : Came sizes first e all (world f a false) (world_of f a e) 0 = opened_came sizes e quiet file all opened f a in
    let ran : Ran sizes first c.args.steps e' left (world f a false) (world_of f b e') i.field-0 =
    ran_join sizes first e e' all (world f a false) (world_of f a e) (world_of f b e') 0 came left c.args.steps i.field-0 refl (λ book stands. x sizes f book stands tied) in
    says_alike _ _ f f' alike sizes first c.args.steps (world f a false) b c.is_in_line.result c.status_of.result
    (ran_ended sizes first c.args.steps (world f a false) (world f a false) (world f b c.is_in_line.result) e' left i.field-0 i.outcome c.status_of.result i.field-0-is (c.status_of.ensures ∙ ap (λ (k : ℕ). end_status i.outcome k e'.flawed) c.reports.ensures)
    (subst (λ (x : Bool). Ran sizes first c.args.steps e' left (world f a false) (world f b x) i.field-0) (sym c.is_in_line.ensures) ran)))

pub returns-in-Ok-Steps-clause-says : goal.returns-in-Ok-Steps-clause-says
returns-in-Ok-Steps-clause-says g c =
    let a = g.S.Sink.told c.args.out.now in
    let b = g.S.Sink.told c.run_steps.new.out in
    let i = c.in-Ok-Steps in
    let rs = c.args.readers.now in
    let e = c.args.engine.now in
    let e' = c.run_steps.new.engine in
    let rs' = c.run_steps.new.readers in
    reads_map (RanTo rs e a e' b c.args.steps i.field-0) rs.readers rs'.readers _ _ _ i.ensures.run (λ all left was may x sizes f f' quiet file alike opened tied.
    let end = world f (g.S.Sink.told c.tell.new.out) c.tell.result in
    let first = First quiet file (Some (first_left all.left)) all.files in
    let came : Came sizes first e all (world f a false) (world_of f a e) 0 = opened_came sizes e quiet file all opened f a in
    let ran : Ran sizes first c.args.steps e' left (world f a false) (world_of f b e') i.field-0 =
    ran_join sizes first e e' all (world f a false) (world_of f a e) (world_of f b e') 0 came left c.args.steps i.field-0 refl (λ book stands. x sizes f book stands tied) in
    says_alike _ _ f f' alike sizes first c.args.steps (world f a false) (g.S.Sink.told c.tell.new.out) c.tell.result 4
    (ran_steps sizes first c.args.steps (world f a false) (world_of f b e') end e' left i.field-0 i.field-0-is ran
    (subst (λ (x : Bool). Line (world f b x) end (steps_line c.args.steps)) c.is_in_line-in-Ok-Steps.ensures (c.tell.ensures.line f))))

pub returns-in-Err-clause-says : goal.returns-in-Err-clause-says
returns-in-Err-clause-says g c =
    let a = g.S.Sink.told c.args.out.now in
    let b = g.S.Sink.told c.run_steps.new.out in
    let i = c.in-Err in
    let rs = c.args.readers.now in
    let e = c.args.engine.now in
    let e' = c.run_steps.new.engine in
    let rs' = c.run_steps.new.readers in
    reads_map (StoppedTo rs e a e' b c.args.steps i.early) rs.readers rs'.readers _ _ _ i.ensures.run (λ all left was may x sizes f f' quiet file alike opened tied.
    let first = First quiet file (Some (first_left all.left)) all.files in
    let came : Came sizes first e all (world f a false) (world_of f a e) 0 = opened_came sizes e quiet file all opened f a in
    let cut : StoppedBy sizes first c.args.steps e' left (world f a false) (world_of f b e') i.early =
    stopped_join sizes first e e' all (world f a false) (world_of f a e) (world_of f b e') 0 came left c.args.steps c.args.steps i.early (omega arith) (λ book stands. x sizes f book stands tied) in
    c.tell_early.ensures.says sizes f' first c.args.steps (world f a false) e' left
    (subst (λ (x : Bool). StoppedBy sizes first c.args.steps e' left (world f a false) (world f' b x) i.early) (sym c.is_in_line-in-Err.ensures)
    (stopped_on (world f a false) (world_of f b e') (world_of f' b e') (alike_quiet _ _ f f' alike b e'.in_line) sizes first c.args.steps e' left i.early cut))
    (cause_alike _ _ f f' alike i.early a b false c.is_in_line-in-Err.result i.ensures.fault i.ensures.want))
