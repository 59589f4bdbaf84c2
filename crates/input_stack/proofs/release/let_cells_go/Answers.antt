use Rattle.std.proofs.Common.{◌≡◌, ◌∙◌, sym, ap, refl, arith, length, take, ℕ, List, Option}
use Rattle.std.proofs.lemmas.List.{take_all, drop_all}
use Rattle.token_lists.specs.declared.ListRef.{ListRef}
use Rattle.token_lists.specs.Accounts.{cells_hold}
use Rattle.input_stack.proofs.Gone.{rest_left, cell_held, more_moved, more_kept, popped_length, same_drop, kept_drop}
use Rattle.input_stack.proofs.release.let_cells_go.Goals as goal

pub loop-cells-init : goal.loop-cells-init
loop-cells-init c =
    let xs = c.args.cells.now.items in
    record {
      within = c.requires.within;
      items = sym (take_all (length xs) xs (omega arith));
      capacity = refl;
      account = λ h. omega (arith, ap (λ (ys : List (Option ListRef)). cells_hold ys h) (drop_all (length xs) xs (omega arith)));
      kept = record { tokens = λ h less. refl; places = λ h less. refl };
      lasting = record { size = refl; fewer = λ h. omega arith; tokens = λ h some. refl };
    }

pub let_cell_go-requires : goal.let_cell_go-requires
let_cell_go-requires c =
    let i = c.loop-cells.invariant in
    cell_held c.args.cells.now.items c.loop-cells.cells.items c.pop.new.self.items c.in-Some.cell i.items c.in-Some.ensures.items c.args.lists.now c.loop-cells.lists c.args.left (omega (arith, c.loop-cells-test.true, c.len.ensures, c.loop-cells.cells.ok)) c.requires.held i.account

pub loop-cells-preserved : goal.loop-cells-preserved
loop-cells-preserved c =
    let i = c.loop-cells.invariant in
    let xs = c.args.cells.now.items in
    let ys = c.loop-cells.cells.items in
    let zs = c.pop.new.self.items in
    let g = c.let_cell_go.ensures in
    let old = c.args.lists.now in
    let now = c.loop-cells.lists in
    let new = c.let_cell_go.new.lists in
    record {
      within = omega (arith, c.loop-cells-test.true, c.len.ensures, c.loop-cells.cells.ok, popped_length xs ys zs c.in-Some.cell i.items c.in-Some.ensures.items);
      items = rest_left xs ys zs c.in-Some.cell i.items c.in-Some.ensures.items;
      capacity = c.in-Some.ensures.capacity ∙ i.capacity;
      account = more_moved xs ys zs c.in-Some.cell i.items c.in-Some.ensures.items old now new i.account g.account;
      kept = more_kept xs ys zs c.in-Some.cell i.items c.in-Some.ensures.items old now new i.account i.kept g.kept;
      lasting = record {
        size = g.lasting.size ∙ i.lasting.size;
        fewer = λ h. omega (arith, g.lasting.fewer h, i.lasting.fewer h);
        tokens = λ h some. g.lasting.tokens h some ∙ i.lasting.tokens h (omega (arith, some, g.lasting.fewer h));
      };
    }

pub returns-clause-left : goal.returns-clause-left
returns-clause-left c =
    let e : length c.loop-cells.cells.items ≡ c.args.left = omega (arith, c.loop-cells-test.false, c.len.ensures, c.loop-cells.cells.ok, c.loop-cells.invariant.within) in
    c.loop-cells.invariant.items ∙ ap (λ (n : ℕ). take n c.args.cells.now.items) e

pub returns-clause-capacity : goal.returns-clause-capacity
returns-clause-capacity c = c.loop-cells.invariant.capacity

pub returns-clause-account : goal.returns-clause-account
returns-clause-account c =
    let e : length c.loop-cells.cells.items ≡ c.args.left = omega (arith, c.loop-cells-test.false, c.len.ensures, c.loop-cells.cells.ok, c.loop-cells.invariant.within) in
    same_drop c.args.lists.now c.loop-cells.lists c.args.cells.now.items (length c.loop-cells.cells.items) c.args.left e c.loop-cells.invariant.account

pub returns-clause-kept : goal.returns-clause-kept
returns-clause-kept c =
    let e : length c.loop-cells.cells.items ≡ c.args.left = omega (arith, c.loop-cells-test.false, c.len.ensures, c.loop-cells.cells.ok, c.loop-cells.invariant.within) in
    kept_drop c.args.lists.now c.loop-cells.lists c.args.cells.now.items (length c.loop-cells.cells.items) c.args.left e c.loop-cells.invariant.kept

pub returns-clause-lasting : goal.returns-clause-lasting
returns-clause-lasting c = c.loop-cells.invariant.lasting
