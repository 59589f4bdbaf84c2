use Rattle.eqtb_save.specs.First.{first_values}
use Rattle.eqtb_save.proofs.Adding.{then_row}
use Rattle.eqtb_save.proofs.first.put_first.Goals as goal

pub returns : goal.returns
unfolding first_values
returns c =
    then_row c.put_codes.ensures.after (
    then_row c.put_codes-2.ensures.after (
    then_row c.put_codes-3.ensures.after (
    then_row c.put_codes-4.ensures.after (
    then_row c.put_codes-5.ensures.after (
    then_row c.put_codes-6.ensures.after (
    then_row c.put_integers.ensures.after (
    then_row c.put_zeros.ensures.after (
    then_row c.put_glues.ensures.after (
    then_row c.put_zeros-2.ensures.after (
    then_row c.put_glues-2.ensures.after (
    then_row c.put_tokens.ensures.after (
    then_row c.put_tokens-2.ensures.after (
    then_row c.put_undefined.ensures.after (
    c.put_known.ensures.after))))))))))))))
