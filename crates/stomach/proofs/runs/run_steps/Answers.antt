use Rattle.std.specs.Prelude.{true}
use Rattle.stomach.proofs.Reading.{reads_map}
use Rattle.stomach.proofs.RunsStopping.{match_to, ran_noted, stopped_noted}
use Rattle.stomach.proofs.runs.run_steps.Goals as goal

pub returns-clause-run : goal.returns-clause-run
returns-clause-run g c =
    let n = c.make_run-ended in
    let rs = c.args.readers.now in
    let e = c.args.engine.now in
    let s = g.S.Sink.told c.args.out.now in
    let s' = g.S.Sink.told n.new.out in
    reads_map _ rs.readers n.new.readers.readers _ _ _ n.ensures.run
    (λ all left may may' h. match_to n.result (λ ended x. ran_noted true rs e n.new.engine s s' c.args.n ended all left x) (λ y x. stopped_noted true rs e n.new.engine s s' c.args.n y all left x) h)
