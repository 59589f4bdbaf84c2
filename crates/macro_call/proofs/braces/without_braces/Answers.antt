use Rattle.std.proofs.Common.{◌≡◌, ◌-◌, sym, ap, ◌∙◌, take, List, length}
use Rattle.tex_defs.specs.declared.Token.{Token}
use Rattle.token_lists.specs.Table.{tokens_at}
use Rattle.token_lists.specs.Ids.{build_id}
use Rattle.macro_call.proofs.Groups.{stripped}
use Rattle.macro_call.proofs.Tables.{tokens_first, tokens_last}
use Rattle.macro_call.proofs.braces.without_braces.Goals as goal

pub returns-then-is_group-clause-stripped : goal.returns-then-is_group-clause-stripped
returns-then-is_group-clause-stripped c =
    let same = c.drop_first.ensures.same in
    let first = tokens_first c.args.lists.now c.drop_first.new.self c.args.build.now c.requires c.drop_first.ensures.after in
    let last : tokens_at c.drop_last.new.self (build_id c.args.build.now) ≡ take (length (tokens_at c.drop_first.new.self (build_id c.args.build.now)) - 1) (tokens_at c.drop_first.new.self (build_id c.args.build.now)) =
    rw same at (tokens_last c.drop_first.new.self c.drop_last.new.self c.drop_first.new.build c.drop_first.ensures.building c.drop_last.ensures.after) in
    last ∙ ap (λ (l : List Token). take (length l - 1) l) first ∙ stripped (tokens_at c.args.lists.now (build_id c.args.build.now)) (sym c.is_group.ensures ∙ c.if-is_group.true)
