use Rattle.eqtb_save.specs.Values.{numbered_value}
use Rattle.eqtb_save.specs.Holding.{replaced_list, val_holds, held}
use Rattle.equivalents.specs.Locations.{V}
use Rattle.std.proofs.Common.{ℕ, ◌≤◌, subst}
use Rattle.input_state.proofs.Assigning.{without_fewer, stored_all, stored_here}
use Rattle.input_state.proofs.lists_held.assign.Goals as goal

pub returns-then-global-clause-stored : goal.returns-then-global-clause-stored
returns-then-global-clause-stored c =
    let t = c.args.table.now in
    stored_all c.args.lists.now c.gdefine.new.lists t c.gdefine.new.self (numbered_value c.args.value) c.args.place (subst (λ (v : V). (h : ℕ) → val_holds v h ≤ held t h) c.get-old.ensures.value c.get-old.ensures.held) c.gdefine.ensures.account c.gdefine.ensures.let_go

pub returns-clause-fewer : goal.returns-clause-fewer
returns-clause-fewer c = without_fewer (replaced_list c.args.table.now.groups c.args.place) c.args.lists.now c.define.new.lists c.in-Ok.ensures.let_go

pub returns-clause-stored : goal.returns-clause-stored
returns-clause-stored c =
    let t = c.args.table.now in
    stored_here c.args.lists.now c.define.new.lists t c.define.new.self (numbered_value c.args.value) c.args.place (subst (λ (v : V). (h : ℕ) → val_holds v h ≤ held t h) c.get-old.ensures.value c.get-old.ensures.held) c.define.ensures.account c.in-Ok.ensures.let_go
