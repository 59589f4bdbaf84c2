use Rattle.std.proofs.Common.{ap}
use Rattle.std.specs.Prelude.{Some, None}
use Rattle.plain_readings.specs.Readings.{Arguments}
use Rattle.input_state.specs.Calls.{text_of}
use Rattle.input_state.specs.Stored.{Stored}
use Rattle.engine_state.proofs.Counting.{begun_refusal}
use Rattle.gullet.proofs.CallBeginning.{begun_words}
use Rattle.gullet.proofs.call_name.begin_call.Goals as goal

pub returns-in-Err-begin_call-clause-refused : goal.returns-in-Err-begin_call-clause-refused
returns-in-Err-begin_call-clause-refused c = let e = c.args.engine.now in let i = c.in-Err-begin_call in
    λ sizes book number counts. begun_refusal sizes e book (Arguments c.args.name c.args.long number (text_of e.input.lists e.input.groups.now.meanings c.args.name)) (Some i.full) counts c.in_default.ensures.room (begun_words e c.args.name c.args.long number (Some i.full) i.ensures.refused)

pub returns-in-Err-begin_call-clause-idle : goal.returns-in-Err-begin_call-clause-idle
returns-in-Err-begin_call-clause-idle c = ap (λ (i : Stored). i.making) c.in-Err-begin_call.ensures.err

pub returns-clause-fits : goal.returns-clause-fits
returns-clause-fits c = let e = c.args.engine.now in
    λ sizes book number counts. begun_refusal sizes e book (Arguments c.args.name c.args.long number (text_of e.input.lists e.input.groups.now.meanings c.args.name)) None counts c.in_default.ensures.room (begun_words e c.args.name c.args.long number None c.in_default-begin_call.ensures.refused)

pub returns-clause-idle : goal.returns-clause-idle
returns-clause-idle c = ap (λ (i : Stored). i.making) c.in_default-begin_call.ensures.ok
