use Rattle.std.proofs.Common.{◌≡◌, ◌∷◌, sym, ap, ◌∙◌, drop, true, ℕ, List, Bool, ◌&&◌}
use Rattle.tex_defs.specs.declared.Token.{Token}
use Rattle.token_lists.specs.Table.{tokens_at}
use Rattle.token_lists.specs.Ids.{build_id}
use Rattle.plain_tokens.specs.Arguments.{is_begin, is_group}
use Rattle.macro_call.specs.Braces.{closes_last}
use Rattle.macro_call.specs.Cursors.{rest_at}
use Rattle.macro_call.proofs.Groups.{group_is}
use Rattle.macro_call.proofs.braces.is_group.Goals as goal

pub returns-then-is_begin : goal.returns-then-is_begin
returns-then-is_begin c =
    let ts : List Token = tokens_at c.args.lists.now (build_id c.args.build.now) in
    let us : List Token = rest_at c.args.lists.now (build_id c.args.build.now) c.in-Some.from in
    let whole : ts ≡ c.in-Some.first ∷ us = sym (ap (λ (i : ℕ). drop i ts) c.at_first_built.ensures.first) ∙ (c.in-Some.ensures (build_id c.args.build.now) c.at_first_built.ensures.on).0 in
    let begins : is_begin c.in-Some.first ≡ true = sym c.is_begin.ensures ∙ c.if-is_begin.true in
    c.closes_last.ensures ∙ sym (ap (λ (b : Bool). b && closes_last 1 us) begins) ∙ group_is c.in-Some.first us ∙ ap is_group (sym whole)
