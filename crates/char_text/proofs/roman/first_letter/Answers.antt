use Rattle.std.proofs.Common.{arith}
use Rattle.char_text.proofs.Letters.{begins_c, begins_cd, begins_d, begins_cm, begins_m}
use Rattle.char_text.proofs.roman.first_letter.Goals as goal

pub returns-in-100-to-399 : goal.returns-in-100-to-399
returns-in-100-to-399 c = begins_c c.args.n (omega (arith, c.in-100-to-399)) (omega (arith, c.in-100-to-399))

pub returns-in-400-to-499 : goal.returns-in-400-to-499
returns-in-400-to-499 c = begins_cd c.args.n (omega (arith, c.in-400-to-499)) (omega (arith, c.in-400-to-499))

pub returns-in-500-to-899 : goal.returns-in-500-to-899
returns-in-500-to-899 c = begins_d c.args.n (omega (arith, c.in-500-to-899)) (omega (arith, c.in-500-to-899))

pub returns-in-900-to-999 : goal.returns-in-900-to-999
returns-in-900-to-999 c = begins_cm c.args.n (omega (arith, c.in-900-to-999)) (omega (arith, c.in-900-to-999))

pub returns-in_default : goal.returns-in_default
returns-in_default c = begins_m c.args.n (omega (arith, c.in_default))
