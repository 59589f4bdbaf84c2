use Rattle.plain_machine.proofs.Extending.{extended_did, extended_cut, extended_steps, moves_did, moves_cut}
use Rattle.plain_machine.proofs.Beginning.{opens_found, opens_none, opening_fits, begins_did, begins_cut}
use Rattle.plain_machine.proofs.later_bytes_are_free.Goals as goal

pub returns : goal.returns
returns c = record {
  does = extended_did;
  cuts = extended_cut;
  steps = extended_steps;
  moves = moves_did;
  cut_moves = moves_cut;
  opens = opens_found;
  opens_none = opens_none;
  opening = opening_fits;
  begins = begins_did;
  begins_cut = begins_cut;
}
