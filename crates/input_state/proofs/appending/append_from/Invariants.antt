use Rattle.std.proofs.Common.{◌≡◌, ◌≢◌, ◌+◌, ◌-◌, ℕ, length}
use Rattle.token_lists.specs.Table.{tokens_at, words}
use Rattle.token_lists.specs.Ids.{build_id, IsBuilding}
use Rattle.token_lists.specs.Accounts.{Moves, none}
use Rattle.macro_call.specs.Cursors.{IsOn}
use Rattle.input_state.specs.Appends.{changed}
use Rattle.input_state.specs.Changes.{IsOnly}
use Rattle.input_state.proofs.Copying.{Copied}
use Rattle.input_state.proofs.appending.append_from.Given as goal

abbrev pub invariant-loop-token : goal.invariant-loop-token
invariant-loop-token l =
    let built = build_id l.fn.build in
    record {
      building : IsBuilding l.lists l.build;
      same : build_id l.build ≡ built;
      others : IsOnly l.fn.lists l.lists built;
      account : Moves l.fn.lists l.lists none none;
      words : words l.lists + length (tokens_at l.fn.lists built) ≡ words l.fn.lists + length (tokens_at l.lists built);
      size : length l.lists ≡ length l.fn.lists;
      copied : (id : ℕ) → IsOn l.fn.lists id l.fn.from → id ≢ built → IsOn l.lists id l.at × Copied (changed l.change l.table.groups.now) l.fn.lists l.lists built id l.fn.from l.at;
    }

abbrev pub decreases-loop-token : goal.decreases-loop-token
decreases-loop-token l = length l.lists - l.at.index
