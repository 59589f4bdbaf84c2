use Rattle.std.proofs.Common.{◌≡◌, ◌-◌, ◌∙◌, ℕ, arith, ap, length, take}
use Rattle.input_stack.specs.Wholes.{own, level_count}
use Rattle.input_stack.proofs.Wholes.{read_held, holds_split}
use Rattle.input_stack.proofs.levels.release.Goals as goal

pub first_own-first-requires : goal.first_own-first-requires
first_own-first-requires c = omega (arith, c.len.ensures, c.args.arguments.now.ok, c.requires.count)

pub let_readers_go-requires : goal.let_readers_go-requires
let_readers_go-requires c = λ h. omega (arith, c.requires.held h, read_held (own c.args.arguments.now.items c.args.level) c.args.level h)

pub let_cells_go-requires-clause-within : goal.let_cells_go-requires-clause-within
let_cells_go-requires-clause-within c = omega (arith, c.len.ensures, c.args.arguments.now.ok, c.first_own-first.ensures)

pub let_cells_go-requires-clause-held : goal.let_cells_go-requires-clause-held
let_cells_go-requires-clause-held c = λ h.
    let xs = c.args.arguments.now.items in
    let is : c.first_own-first.result ≡ length xs - level_count c.args.level = omega (arith, c.len.ensures, c.args.arguments.now.ok, c.first_own-first.ensures) in
    omega (arith, c.requires.held h, c.let_readers_go.ensures.account h, holds_split xs c.args.level c.first_own-first.result is c.requires.count h)

pub returns-clause-beneath : goal.returns-clause-beneath
returns-clause-beneath c =
    let xs = c.args.arguments.now.items in
    let is : c.first_own-first.result ≡ length xs - level_count c.args.level = omega (arith, c.len.ensures, c.args.arguments.now.ok, c.first_own-first.ensures) in
    c.let_cells_go.ensures.left ∙ ap (λ (n : ℕ). take n xs) is

pub returns-clause-capacity : goal.returns-clause-capacity
returns-clause-capacity c = c.let_cells_go.ensures.capacity

pub returns-clause-account : goal.returns-clause-account
returns-clause-account c = λ h.
    let xs = c.args.arguments.now.items in
    let is : c.first_own-first.result ≡ length xs - level_count c.args.level = omega (arith, c.len.ensures, c.args.arguments.now.ok, c.first_own-first.ensures) in
    omega (arith, c.let_cells_go.ensures.account h, c.let_readers_go.ensures.account h, holds_split xs c.args.level c.first_own-first.result is c.requires.count h)

pub returns-clause-kept : goal.returns-clause-kept
returns-clause-kept c =
    let xs = c.args.arguments.now.items in
    let is : c.first_own-first.result ≡ length xs - level_count c.args.level = omega (arith, c.len.ensures, c.args.arguments.now.ok, c.first_own-first.ensures) in
    let split = holds_split xs c.args.level c.first_own-first.result is c.requires.count in
    record {
      tokens = λ h l. c.let_cells_go.ensures.kept.tokens h (omega (arith, l, split h, c.let_readers_go.ensures.account h)) ∙ c.let_readers_go.ensures.kept.tokens h (omega (arith, l, split h));
      places = λ h l. c.let_cells_go.ensures.kept.places h (omega (arith, l, split h, c.let_readers_go.ensures.account h)) ∙ c.let_readers_go.ensures.kept.places h (omega (arith, l, split h));
    }

pub returns-clause-lasting : goal.returns-clause-lasting
returns-clause-lasting c =
    let a = c.let_readers_go.ensures.lasting in
    let b = c.let_cells_go.ensures.lasting in
    record {
      size = b.size ∙ a.size;
      fewer = λ h. omega (arith, b.fewer h, a.fewer h);
      tokens = λ h some. b.tokens h some ∙ a.tokens h (omega (arith, some, b.fewer h));
    }
