use Rattle.std.proofs.Common.{[], Bool, sym, ap, ◌∙◌}
use Rattle.token_lists.specs.Ids.{id_of}
use Rattle.token_lists.specs.Table.{tokens_at}
use Rattle.input_stack.specs.Puts.{Put}
use Rattle.input_stack.specs.Pending.{listed_put}
use Rattle.input_stack.specs.View.{pending_in, in_front}
use Rattle.input_stack.specs.Whole.{with_arguments}
use Rattle.input_stack.proofs.Pushed.{shared_is}
use Rattle.input_stack.proofs.stack.list_level.Goals as goal

pub returns-then-shared-clause-put : goal.returns-then-shared-clause-put
returns-then-shared-clause-put c = λ levels.
    let t = c.args.lists.now in
    let n = id_of c.args.list in
    let r = c.new-reader.ensures in
    ap (λ (x : Put). in_front x (pending_in t levels)) (shared_is t (with_arguments [] c.new.result) c.new-reader.result n (tokens_at t n) (ap (with_arguments []) c.new.ensures) r.same r.whole)
    ∙ ap (λ (b : Bool). in_front (listed_put b n (tokens_at t n)) (pending_in t levels)) (sym c.if-shared.true)
