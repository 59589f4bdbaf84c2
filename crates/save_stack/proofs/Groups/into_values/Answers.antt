use Rattle.std.proofs.Common.{List, ap, sym, ◌∙◌, arith}
use Rattle.std.specs.Prelude.{sum_by}
use Rattle.save_stack.specs.Groups.{Stack, top}
use Rattle.save_stack.specs.Table.{split}
use Rattle.save_stack.specs.Accounts.{weighs}
use Rattle.save_stack.proofs.Undo.{top_maps}
use Rattle.save_stack.proofs.Weights.{weigh_array}
use Rattle.save_stack.proofs.Groups.into_values.Goals as goal

pub returns-clause-account : goal.returns-clause-account
returns-clause-account g c =
    let d = c.self.inside in
    λ w. omega (arith, weigh_array w d.saved.items c.self.invariant.saved_cells, ap (λ (m : List g.row.V.Denot). sum_by w m) (top_maps d.values.items d.levels.items (split d.saved.items)), ap (λ (s : Stack g.row.V.Denot). weighs w s) c.self.view_is)

pub returns-clause-values : goal.returns-clause-values
returns-clause-values g c =
    let d = c.self.inside in
    sym (top_maps d.values.items d.levels.items (split d.saved.items)) ∙ ap (λ (s : Stack g.row.V.Denot). top s.maps) c.self.view_is
