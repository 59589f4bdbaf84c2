use Rattle.macro_call.proofs.ArgumentMatches.{joined, is_match, begins_outside, is_longest}
use Rattle.macro_call.proofs.laws.matches_restart.Goals as goal

pub returns : goal.returns
returns c = record {
  whole = λ ds t. joined ds 0 t;
  prefix = λ ds t. is_match ds 0 t;
  outside = λ ds t. begins_outside ds 0 t;
  longest = λ ds u v. is_longest ds 0 u v;
}
